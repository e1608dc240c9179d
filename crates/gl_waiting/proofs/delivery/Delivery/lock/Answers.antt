use Rattle.std.proofs.Common.{◌≡◌, refl, sym, subst, ◌∙◌}
use Rattle.std.specs.Prelude.{Option, Some, false}
use Rattle.gl_modes.specs.declared.mode.Mode.{Mode}
use Rattle.gl_modes.specs.declared.node.NodeId.{NodeId}
use Rattle.gl_model.specs.Tellings.{Told}
use Rattle.gl_model.specs.declared.txn.TxnId.{TxnId}
use Rattle.gl_steps.specs.declared.command.Answer.{Answer}
use Rattle.gl_steps.specs.declared.command.Command.TheVariants as command
use Rattle.gl_catalog.specs.Manager.{state_of}
use Rattle.gl_catalog.specs.Paths.{lock_of}
use Rattle.gl_rows.specs.Serving.{Applies, ServesBy}
use Rattle.gl_rows.proofs.Tidied.{IsAlone, served_alone}
use Rattle.gl_waiting.specs.Delivering.{DeliveryView, IsLockAnswer, registry_in}
use Rattle.gl_waiting.proofs.Delivered.{lock_answered}
use Rattle.gl_waiting.proofs.delivery.Delivery.lock.Goals as goal

same : (o : Option Answer) (a b : Answer) → o ≡ Some a → o ≡ Some b → a ≡ b
same o a b one other = cc (one, other)

-- it is its step alone
alone : (d d' : DeliveryView) (t : TxnId) (n : NodeId) (m : Mode) (o : Option Answer) (told : Told)
    → (h : ServesBy false (registry_in d) (command.Lock t n m) o told (registry_in d'))
    → IsAlone (registry_in d) (command.Lock t n m) h.0 told (registry_in d')
alone d d' t n m o told h = served_alone (registry_in d) (registry_in d') (command.Lock t n m) h.0 told refl h.2

pub locked_in-requires : goal.locked_in-requires
locked_in-requires c =
    let made = c.serve-answer.ensures.serves in
    subst IsLockAnswer (same c.serve-answer.result.0 made.0 c.in-Some.answer made.1 c.in-Some.is)
    (lock_answered (state_of c.args.self.now.manager) c.args.txn c.args.node c.args.mode made.0 _ (state_of c.serve-answer.new.self.manager)
    (alone c.args.self.now c.serve-answer.new.self c.args.txn c.args.node c.args.mode _ _ made).applies.step)

pub returns-clause-applies : goal.returns-clause-applies
returns-clause-applies c =
    let made = c.serve-answer.ensures.serves in
    subst (λ (a : Answer). Applies c.args.self.now.manager (lock_of c.args.txn (c.args.node, c.args.mode)) a c.serve-answer.new.told.items
    c.serve-answer.new.self.manager)
    (same c.serve-answer.result.0 made.0 c.in-Some.answer made.1 c.in-Some.is ∙ sym c.locked_in.ensures)
    (alone c.args.self.now c.serve-answer.new.self c.args.txn c.args.node c.args.mode _ _ made).applies

pub returns-clause-rows : goal.returns-clause-rows
returns-clause-rows c =
    (alone c.args.self.now c.serve-answer.new.self c.args.txn c.args.node c.args.mode _ _ c.serve-answer.ensures.serves).rows
