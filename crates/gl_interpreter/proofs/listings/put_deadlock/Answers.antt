use Rattle.gl_interpreter.proofs.Words.{[], ◌∙◌, ◌≡◌, ap, deadlock_rows, Hands, script_of, subst, sym}
use Rattle.gl_model.specs.declared.deadlock.Deadlock.{Deadlock}
use Rattle.gl_interpreter.proofs.RowByRow.{is_nothing, is_something, some_rows}
use Rattle.gl_interpreter.proofs.Writing.{Hands-none, Hands-then}
use Rattle.gl_interpreter.proofs.listings.put_deadlock.Goals as goal

pub returns-in-Some : goal.returns-in-Some
returns-in-Some g c =
    let s = script_of c.args.desk.now in
    let d = c.in-Some.deadlock.now in
    let kept : d ≡ c.args.desk.now.manager.table.deadlock = c.in-Some.ensures.some in
    let some : d.cycle.items ≡ [] → ⊥ =
    λ e. is_something _ _ c.in-Some.is (c.last_deadlock.ensures.none.1 (ap (λ (x : Deadlock). x.cycle.items) (sym kept) ∙ e)) in
    let victim = Hands-then _ _ _ _ _ _ _ _ c.put.ensures c.put_member.ensures in
    let line = Hands-then _ _ _ _ _ _ _ _ victim c.put-in-Some.ensures in
    let all = Hands-then _ _ _ _ _ _ _ _ line (rw c.as_slice.ensures.value at c.put_each_stuck.ensures) in
    let Printed = Hands (g.W.Write.contents c.args.writer.now) c.args.sink.now (g.W.Write.contents c.put_each_stuck.new.writer) c.put_each_stuck.new.sink in
    subst (λ (x : Deadlock). Printed (deadlock_rows s x.victim x.cycle.items)) kept (subst Printed (some_rows s d.victim d.cycle.items some) all)

pub returns-in_default : goal.returns-in_default
returns-in_default g c = rw (c.last_deadlock.ensures.none.0 (is_nothing _ c.in_default.is)) (Hands-none _ _)
