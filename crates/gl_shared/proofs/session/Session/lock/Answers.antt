use Rattle.gl_slots.specs.declared.slots.Slots.{Slots}
use Rattle.std.proofs.Common.{arith, ◌∙◌, ap, not, refl, subst, sym}
use Rattle.gl_steps.specs.declared.command.Command.TheVariants.{Lock}
use Rattle.gl_catalog.specs.Manager.{IsLawfulManager}
use Rattle.gl_shared.specs.Sessions.{AreWoken}
use Rattle.gl_shared.specs.State.{GuardedView}
use Rattle.gl_shared.proofs.Batches.{one_accepted}
use Rattle.gl_shared.proofs.Locking.{gives_verdict, is_not_refused, shares_lock}
use Rattle.gl_shared.proofs.session.Session.lock.Goals as goal

pub returns : goal.returns
returns g c =
    let served = c.serve_lock-answer in
    let count = c.accepted_beside-self.ensures in
    let bound = count.bound in
    let kept = count.kept.1 in
    let law = subst (λ (g : GuardedView). IsLawfulManager g.manager) (c.deref.ensures ∙ sym c.deref_mut.ensures.value) c.law.ensures.manager in
    let same = served.ensures.share in
    let one_more = one_accepted (ap not (is_not_refused served.result.0 c.in_default.not-Refused)) in
    record {
      noted = refl;
      share = shares_lock _ _ _ (omega (arith, kept, same, one_more));
      grant = c.await_verdict.ensures.grant;
      step = (
        served.result.0,
        served.new.told.items,
        (
          c.deref_mut.result.now.manager,
          served.new.self.manager,
          law,
          served.ensures.serves.step,
          count.count
              ∙ ap (λ (g : GuardedView). g.manager.accepted) c.deref_mut-2.ensures.value,
        ),
        gives_verdict c.args.txn c.args.node c.args.mode served.result.0 c.await_verdict.result c.in_default-answer.not-Granted
            c.in_default-answer.not-Victim c.in_default.not-Refused c.await_verdict.ensures.verdict,
        λ _. subst (λ (w : Slots). AreWoken (Lock c.args.txn c.args.node c.args.mode) served.new.told.items w) (sym c.wake.ensures)
            (served.ensures.woken (ap not (is_not_refused served.result.0 c.in_default.not-Refused))),
      );
      count = (omega (arith, bound, kept));
    }
