use Rattle.gl_table.proofs.Words.{◌≡◌, is_idle, is_record_shape, shape_of, state_of, subst, sym, TableView, true}
use Rattle.gl_table.proofs.calls.Records.{forgotten-stands}
use Rattle.gl_table.proofs.calls.Stands.{MayStand}
use Rattle.gl_table.proofs.table.Table.forget.Goals.{After-remove_record}
use Rattle.gl_table.proofs.table.Table.forget.Goals as goal

stand : (c : After-remove_record) → MayStand c.self.inside c.remove_record.new.self c.self.inside.locks.ledger
stand c =
    forgotten-stands c.self.inside c.self.invariant c.remove_record.new.self c.args.rec
    (subst (λ (v : TableView). is_record_shape (shape_of (state_of v).graph c.args.rec) ≡ true) (sym c.self.view_is) c.requires.record)
    (subst (λ (v : TableView). is_idle (state_of v) c.args.rec ≡ true) (sym c.self.view_is) c.requires.idle) c.remove_record.ensures.removed

pub invariant_of-self : goal.invariant_of-self
invariant_of-self c = (stand (goal.at.invariant_of-self c).After-remove_record).safe

pub invariant_of-self-inside : goal.invariant_of-self-inside
invariant_of-self-inside c = (stand c).law
