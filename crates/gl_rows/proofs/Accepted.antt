-- Commands that were accepted: what passes the tests of a forget, and that a transaction which is given a lock lives.
use Rattle.std.specs.Prelude.{◌≡◌, ◌<◌, true, false, not, [], ◌∷◌, Option, Some, None, Result, Ok, Err, IsOk, ◌≤◌}
use Rattle.std.proofs.Common.{refl, ap, subst, ◌∙◌, arith, inl, inr, sym}
use Rattle.gl_slots.specs.Limit.{most_slots}
use Rattle.gl_modes.proofs.Words.{clash, no as never, number_other}
use Rattle.gl_modes.specs.declared.node.NodeId.{NodeId}
use Rattle.gl_modes.specs.declared.refusal.Refusal.{Refusal}
use Rattle.gl_modes.specs.declared.refusal.Refusal.TheVariants as no
use Rattle.gl_modes.specs.declared.mode.Mode.{Mode}
use Rattle.gl_graph.specs.Graph.{is_live, shape_of}
use Rattle.gl_graph.specs.Refusals.{first_refusal, max_count, where_true}
use Rattle.gl_graph.specs.Shapes.{is_record_shape}
use Rattle.gl_graph.proofs.Unrefused.{not_refused}
use Rattle.gl_model.specs.Calls.{accepted_once, is_idle, no_txn}
use Rattle.gl_model.specs.declared.answers.Locked.{Locked}
use Rattle.gl_model.specs.declared.answers.Locked.TheVariants as locked
use Rattle.gl_model.specs.State.{State, lives}
use Rattle.gl_model.specs.Tellings.{Told}
use Rattle.gl_model.specs.Lawful.{IsLawful}
use Rattle.gl_model.specs.declared.txn.TxnId.{TxnId}
use Rattle.gl_steps.specs.declared.command.Answer.{Answer}
use Rattle.gl_steps.specs.declared.command.Answer.TheVariants as answer
use Rattle.gl_steps.specs.declared.command.Command.{Command}
use Rattle.gl_steps.specs.declared.command.Command.TheVariants as command
use Rattle.gl_steps.specs.Step.{Accepts, Answers, Goes, Step, answer_of_lock, query_answer}
use Rattle.gl_steps.specs.Tests.{refusal_of, worn}
use Rattle.gl_steps.proofs.NotRefused.{txn_lives}
use Rattle.gl_steps.proofs.ToldGrants.{txn_there}
use Rattle.gl_catalog.specs.Counters.{refuses}
use Rattle.gl_catalog.specs.Replies.{CallSteps, doing, asking}
use Rattle.gl_catalog.specs.Adopting.{AdoptsLocked}
use Rattle.gl_catalog.specs.Manager.{ManagerView, state_of}
use Rattle.gl_rows.specs.Locking.{Keys}

-- a command that is answered otherwise than by a refusal was accepted
pub accepted_of : (s : State) (c : Command) (a : Answer) (told : Told) (s' : State) → query_answer s c ≡ None → refuses a ≡ false → Step s c a told s'
    → (next : State) × Accepts s c a told next × (s' ≡ accepted_once next) × (refusal_of s c ≡ None)
accepted_of s c a told s' plain said (inr lack) = clash (ap refuses lack.1.answer_is) said
accepted_of s c a told s' plain said (inl goes) = by (refusal_of s c) goes
  where
    by : (o : Option Refusal) → Goes s c o a told s' → (next : State) × Accepts s c a told next × (s' ≡ accepted_once next) × (o ≡ None)
    by (Some r) same = clash (ap refuses same.answer_is) said
    by None goes = let it = subst (λ q. Answers s c q a told s') plain goes in (it.0, it.1, it.2, refl)

-- a lock's answer is no refusal
pub lock_answers : (x : Locked) → refuses (answer_of_lock x) ≡ false
lock_answers (locked.Granted m) = refl
lock_answers x = refl

-- a forget that no test refuses is done
pub forget_ok : (s s' : State) (n : NodeId) (result : Result (Unit {0}) Refusal) → refusal_of s (command.Forget n) ≡ None
    → CallSteps s (command.Forget n) (doing []) result s' → IsOk result
forget_ok s s' n (Ok u) free step = refl
forget_ok s s' n (Err r) free (inr lack) = absurd (never lack.0)
forget_ok s s' n (Err r) free (inl goes) =
    let it = subst (λ o. Goes s (command.Forget n) o (answer.Refused r) [] s') free goes in clash refl (ap refuses it.1.0)

pub may_be_forgotten : (s : State) (n : NodeId) → s.accepted < max_count → is_live s.graph n ≡ true → is_record_shape (shape_of s.graph n) ≡ true
    → is_idle s n ≡ true → refusal_of s (command.Forget n) ≡ None
may_be_forgotten s n less live rec idle =
    let counted : worn s ≡ None = ap (λ b. where_true b no.WornOut) (number_other s.accepted max_count (λ e. absurd (omega (arith, e, less)))) in
    λ i. first_refusal
    (counted i ∷ where_true (not (live i)) no.NoSuchNode ∷ where_true (not (rec i)) no.BadParents ∷ where_true (not (idle i)) no.RecordInUse ∷ [])

-- a lock that was answered otherwise than by a refusal
step_lives : (s : State) (t : TxnId) (n : NodeId) (m : Mode) (a : Answer) (told : Told) (s' : State) → refuses a ≡ false
    → Step s (command.Lock t n m) a told s' → lives s t ≡ true
step_lives s t n m a told s' said step =
    let passed = (accepted_of s (command.Lock t n m) a told s' refl said step).3 in
    txn_lives s t (not_refused (no_txn s t) _ (not_refused (worn s) _ passed).1).0

pub locker_lives : (s : State) (t : TxnId) (n : NodeId) (m : Mode) (told : Told) (x : Locked) (s' : State)
    → CallSteps s (command.Lock t n m) (asking told) (Ok x) s' → lives s t ≡ true
locker_lives s t n m told x s' step = step_lives s t n m (answer_of_lock x) told s' (lock_answers x) step

pub adopter_lives : (m m' : ManagerView) (t : TxnId) (f : NodeId) (keys : Keys) (mode : Mode) (n : NodeId) → AdoptsLocked m t f keys mode n m'
    → lives (state_of m) t ≡ true
adopter_lives m m' t f keys mode n h =
    let acc = accepted_of (state_of m) (command.Adopt f keys) (answer.Node n) [] h.mid refl refl h.adopts in
    let same : lives h.mid t ≡ lives (state_of m) t = ap (λ (x : State). lives x t) (acc.2 ∙ ap accepted_once acc.1.4) in
    sym same ∙ step_lives h.mid t n mode (answer.Granted mode) [] (state_of m') refl h.locks

-- a living transaction has one of the slots
pub slot_inside : (s : State) → IsLawful s → s.most ≤ most_slots → (t : TxnId) → lives s t ≡ true → t.slot < most_slots
slot_inside s law few t alive = let below = law.slots_below t.slot (txn_there t.age (s.txns t.slot) alive) in omega (arith, below, few)
