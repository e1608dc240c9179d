use Rattle.std.proofs.Common.{refl, true}
use Rattle.gl_table.specs.Table.{board_of}
use Rattle.gl_catalog.specs.Manager.{state_of}
use Rattle.gl_c.proofs.serving.Showing.{either_epoch, shown_known, shows_on}
use Rattle.gl_c.proofs.managers.showing.Showing.show_if_watched.Goals as goal

pub returns-then-is_watched-clause-shown : goal.returns-then-is_watched-clause-shown
returns-then-is_watched-clause-shown c =
    shows_on true (board_of (state_of c.args.manager.now)) c.args.self.now.publisher c.show-self.new.publisher refl c.show-self.ensures.list
    c.show-self.ensures.of.0 c.show-self.ensures.of.1

pub returns-then-is_watched-clause-known : goal.returns-then-is_watched-clause-known
returns-then-is_watched-clause-known c =
    shown_known c.args.manager.now c.args.manager.now c.args.self.now.publisher.list c.show-self.new.publisher c.show-self.result refl c.show-self.ensures.law
    c.show-self.ensures.shown

pub returns-then-is_watched-clause-epoch : goal.returns-then-is_watched-clause-epoch
returns-then-is_watched-clause-epoch c =
    either_epoch c.args.self.now.publisher.list c.show-self.new.publisher.list (board_of (state_of c.args.manager.now)) c.args.manager.now.accepted
    c.show-self.ensures.list c.requires.rises refl
