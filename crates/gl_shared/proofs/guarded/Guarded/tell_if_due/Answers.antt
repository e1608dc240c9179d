use Rattle.std.proofs.Common.{rules, ◌≡◌, ◌∙◌, false, refl, subst, sym}
use Rattle.gl_catalog.specs.Manager.{state_of}
use Rattle.gl_shared.specs.State.{GuardedView, StaysUntold}
use Rattle.gl_window.proofs.Idle.{not_due}
use Rattle.gl_shared.proofs.guarded.Guarded.tell_if_due.Goals as goal

pub returns-then-not-is_due-clause-untold : goal.returns-then-not-is_due-clause-untold
returns-then-not-is_due-clause-untold g c =
    let off : c.is_due.result ≡ false = search rules in
    let why = not_due c.self.inside.telling c.self.inside.waited (sym c.is_due.ensures ∙ off) in
    let quiet = c.self.invariant.5 why.1 in
    λ _. subst (λ (v : GuardedView). StaysUntold v.telling (state_of v.manager) v.list v.list) c.self.view_is
    (record { by_choice = why.0; nobody_waits = quiet.0; nobody_waited = quiet.1; same = refl })
