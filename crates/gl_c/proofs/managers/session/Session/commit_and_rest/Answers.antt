use Rattle.std.specs.Prelude.{◌≡◌, ℕ, zero, suc}
use Rattle.std.proofs.Common.{refl, subst}
use Rattle.gl_model.specs.declared.txn.TxnId.{TxnId}
use Rattle.gl_waiting.specs.Resting.{FirstIntentions}
use Rattle.gl_c.specs.declared.answers.notices.Notices.{Notices}
use Rattle.gl_c.specs.declared.answers.reply.Reply.{Reply}
use Rattle.gl_c.specs.locks.Resting.{RestsWith, resting_call}
use Rattle.gl_c.specs.managers.Carries.{Replies}
use Rattle.gl_c.specs.managers.Guarded.{GuardedView}
use Rattle.gl_c.proofs.managers.session.Session.commit_and_rest.Goals as goal

-- some locks are kept
rests_some : (keep : ℕ) (g g' : GuardedView) (t : TxnId) (since : ℕ) (r : Reply) (notices : Notices) → (keep ≡ 0 → ⊥)
    → Replies g (resting_call t keep since) r notices g' → RestsWith keep g t since r notices g'
rests_some zero g g' t since r notices some rests = absurd (some refl)
rests_some (suc k) g g' t since r notices some rests = rests

pub returns : goal.returns
returns c = (
  c.first_intentions-keep.result,
  subst (λ (g : GuardedView). FirstIntentions g.manager c.args.txn c.args.known c.args.most c.first_intentions-keep.result) c.self.view_is
      c.first_intentions-keep.ensures,
  rests_some c.first_intentions-keep.result c.args.self.now c.rest_keeping.new.self c.args.txn c.args.since c.rest_keeping.result c.rest_keeping.new.notices
      c.if-keep-eq0.false c.rest_keeping.ensures,
)
