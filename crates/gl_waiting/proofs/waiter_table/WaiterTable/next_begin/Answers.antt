use Rattle.std.proofs.Common.{inl, refl, subst, sym, ◌∙◌}
use Rattle.gl_waiting.specs.Asking.{IsInTurn}
use Rattle.gl_waiting.proofs.Turns.{none_first}
use Rattle.gl_waiting.proofs.waiter_table.WaiterTable.next_begin.Goals as goal

pub returns-in_default : goal.returns-in_default
returns-in_default c = (
  subst IsInTurn c.self.view_is (inl (none_first c.self.inside.begins.waiting (sym c.first.ensures ∙ c.in_default.is))),
  refl,
)
