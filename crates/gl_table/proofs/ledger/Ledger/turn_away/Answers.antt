use Rattle.gl_table.proofs.Words.{◌∙◌}
use Rattle.gl_table.proofs.inside.Slots.{none_if}
use Rattle.gl_table.proofs.inside.TurnedAway.{turned_agrees, turned_can, turned_front, turned_over, turned_room, turned_sound, turned_waits, turning_begins}
use Rattle.gl_table.proofs.inside.TurnedAway.{turning_ends, turning_one}
use Rattle.gl_table.proofs.ledger.Ledger.turn_away.Goals as goal

pub loop-slot-init : goal.loop-slot-init
loop-slot-init c = turning_begins c.requires.agreed c.args.node c.requires.tell _ c.strays-strays.ensures

pub turn_one_away-requires-clause-can : goal.turn_one_away-requires-clause-can
turn_one_away-requires-clause-can c = turned_can c.requires.agreed c.args.node c.requires.tell c.loop-slot.invariant _ c.in-Some.ensures.some.member

pub turn_one_away-requires-clause-waits : goal.turn_one_away-requires-clause-waits
turn_one_away-requires-clause-waits c = turned_waits c.requires.agreed c.args.node c.requires.tell c.loop-slot.invariant _ c.in-Some.ensures.some.member

pub turn_one_away-requires-clause-front_waits : goal.turn_one_away-requires-clause-front_waits
turn_one_away-requires-clause-front_waits c =
    turned_front c.requires.agreed c.args.node c.requires.tell c.loop-slot.invariant _ c.in-Some.ensures.some.member c.requires.shut_out.stuck

pub turn_one_away-requires-clause-room : goal.turn_one_away-requires-clause-room
turn_one_away-requires-clause-room c = turned_room c.requires.agreed c.args.node c.requires.tell c.loop-slot.invariant _ c.in-Some.ensures.some.member

pub loop-slot-preserved : goal.loop-slot-preserved
loop-slot-preserved c =
    turning_one c.requires.agreed c.args.node c.requires.tell c.loop-slot.invariant _ c.in-Some.ensures.some.member _ c.in-Some.ensures.left
    c.turn_one_away.ensures.ended

pub returns-clause-moved : goal.returns-clause-moved
returns-clause-moved c = let none = c.in_default.ensures.none in record {
  sound = turned_sound c.requires.agreed c.args.node c.requires.tell c.loop-slot.invariant none;
  state = turning_ends c.requires.agreed c.args.node c.requires.tell c.loop-slot.invariant none;
  agree = turned_agrees c.requires.agreed c.args.node c.requires.tell c.loop-slot.invariant none c.requires.shut_out.newcomers;
  tells = (turned_over c.requires.agreed c.args.node c.requires.tell c.loop-slot.invariant none).tells;
}

pub returns-clause-counts : goal.returns-clause-counts
returns-clause-counts c = λ u q. c.loop-slot.invariant.over.lists.counts u q ∙ none_if _ _

pub returns-clause-orders : goal.returns-clause-orders
returns-clause-orders c = c.loop-slot.invariant.over.lists.loses
