-- Begins in turn: those that are handed on one after the other, and that nobody waits for a slot while one is free.
use Rattle.std.specs.Prelude.{◌≡◌, ◌<◌, ◌==◌, ℕ, zero, suc, not, true, false, List, [], ◌∷◌, Option, Some, None, Result}
use Rattle.std.specs.Prelude.{Ok, Err, drop, length, slice_get}
use Rattle.std.proofs.Common.{refl, sym, ap, subst, ◌∙◌, inl, inr, arith, rules}
use mathlib.Core.Bool.{true≢false}
use Rattle.std.proofs.lemmas.Bool.Decides.{nat_tests}
use Rattle.gl_model.specs.declared.txn.TxnId.{TxnId}
use Rattle.gl_catalog.specs.Manager.{ManagerView, state_of}
use Rattle.gl_slots.specs.declared.slots.Slots.{Slots}
use Rattle.gl_modes.specs.declared.refusal.Refusal.{Refusal}
use Rattle.gl_modes.specs.declared.refusal.Refusal.TheVariants as no
use Rattle.gl_steps.specs.declared.command.Answer.TheVariants as answer
use Rattle.gl_waiting.specs.Asking.{Begins, HandsFirst, HandsOn, HandsOnAfter, InTurn, IsFull, IsInTurn, is_too_many}
use Rattle.gl_waiting.specs.Delivering.{registry_in}
use Rattle.gl_waiting.specs.declared.set_off.SetOff.{SetOff}
use Rattle.gl_waiting.proofs.Beginning.{begin_made, full_refuses, refused_full}
use Rattle.gl_waiting.specs.Waiting.{WaitingView, delivery_in}
use Rattle.gl_waiting.specs.declared.begins.QueuedBegin.{QueuedBegin}

-- one more is handed on
pub hands_then : (k : ℕ) (v mid v' : WaitingView) → HandsOn k v mid → HandsFirst mid v' → HandsOn (suc k) v v'
hands_then zero v mid v' same first = (v', subst (λ (x : WaitingView). HandsFirst x v') same first, refl)
hands_then (suc k) v mid v' (next, one, rest) first = (next, one, hands_then k next mid v' rest first)

-- fewer wait after one is handed on
pub hands_fewer : (v v' : WaitingView) → HandsFirst v v' → length v'.queue < length v.queue
hands_fewer v v' h = by v.queue h.is_first (ap (λ (x : WaitingView). x.queue) h.handed)
  where
    by : (q : List QueuedBegin) → slice_get q 0 ≡ Some h.first → v'.queue ≡ drop 1 q → length v'.queue < length q
    by [] is rest = absurd (cc is)
    by (b ∷ q) is rest = let e : length v'.queue ≡ length q = ap length rest in omega (arith, e)

-- one more is some
pub any_more : (k : ℕ) → true ≡ not (suc k == 0)
any_more k = let more : (suc k == 0) ≡ false = grind (arith, nat_tests) in rw more refl

-- nobody waits in an empty queue
pub none_first : (queue : List QueuedBegin) → slice_get queue 0 ≡ None → queue ≡ []
none_first [] is = refl
none_first (b ∷ queue) is = absurd (cc is)

-- nothing that turns depend on changes
pub same_turns : (v v' : WaitingView) → v'.queue ≡ v.queue → v'.manager ≡ v.manager → IsInTurn v → IsInTurn v'
same_turns v v' queue manager (inl none) = inl (queue ∙ none)
same_turns v v' queue manager (inr full) = inr (subst (λ (m : ManagerView). IsFull (state_of m)) (sym manager) full)

-- a begin that is refused since every slot is taken
pub full_by : (v : WaitingView) (since : Option ℕ) (result : Result TxnId Refusal) (ended : Slots) (v' : WaitingView) → is_too_many result ≡ true
    → Begins v since result ended v' → IsFull (state_of v.manager)
full_by v since (Ok t) ended v' many begins = absurd (true≢false (sym many))
full_by v since (Err no.TooManyTxns) ended v' many begins = refused_full (state_of v.manager) [] (state_of v.manager) since begins.0
full_by v since (Err r) ended v' many begins = absurd (true≢false (sym many ∙ search rules))

-- while every slot is taken none is handed on
none_full : (v v' : WaitingView) → IsFull (state_of v.manager) → HandsFirst v v' → ⊥
none_full v v' full h = by h.result h.answered h.begins
  where
    by : (result : Result TxnId Refusal) → is_too_many result ≡ false → Begins v h.first.since result h.ended h.mid → ⊥
    by (Err r) few begins =
        let is : answer.Refused r ≡ answer.Refused no.TooManyTxns =
        full_refuses (state_of v.manager) h.first.since (answer.Refused r) [] (state_of v.manager) full begins.0 in
        let many : r ≡ no.TooManyTxns = cc is in
        true≢false (sym (ap (λ (x : Refusal). is_too_many (Err x)) many) ∙ few)
    by (Ok t) few (told, begins) =
        let made = begin_made h.first.since (registry_in (delivery_in v)) (registry_in (delivery_in h.mid)) (Some (answer.Begun t)) told begins.serves in
        let is : made.0 ≡ answer.Refused no.TooManyTxns =
        full_refuses (state_of v.manager) h.first.since made.0 told (state_of h.mid.manager) full made.2.step in
        cc (made.1, is)

-- nor while nobody waits for a slot
none_in_turn : (v v' : WaitingView) → IsInTurn v → HandsFirst v v' → ⊥
none_in_turn v v' (inl none) h = cc (ap (λ (q : List QueuedBegin). slice_get q 0) none, h.is_first)
none_in_turn v v' (inr full) h = none_full v v' full h

-- after a call that changes neither the state nor the queue none is handed on
pub idle_turn : (v mid : WaitingView) (own : Slots) (off : SetOff) (v' : WaitingView) → IsInTurn v → HandsOnAfter own mid off v' → mid.manager ≡ v.manager
    → mid.queue ≡ v.queue → (v' ≡ mid) × (off ≡ record { ended = own; went_on = false })
idle_turn v mid own off v' turn after manager queue = by after.count after.hands after.sets
  where
    by : (k : ℕ) → HandsOn k mid v' → off ≡ record { ended = own; went_on = not (k == 0) } → (v' ≡ mid) × (off ≡ record { ended = own; went_on = false })
    by zero hands sets = (hands, sets)
    by (suc k) hands sets = absurd (none_in_turn mid hands.0 (same_turns v mid queue manager turn) hands.1)

-- a call after which begins were handed on
pub in_turn : (v : WaitingView) (IsCalled : Slots → WaitingView → Type 0) (own : Slots) (mid : WaitingView) (off : SetOff) (v' : WaitingView) → IsInTurn v
    → IsCalled own mid → HandsOnAfter own mid off v' → InTurn v IsCalled off v'
in_turn v IsCalled own mid off v' turn called hands = record {
  own = own;
  mid = mid;
  called = called;
  hands = hands;
  nothing = λ manager queue. idle_turn v mid own off v' turn hands manager queue;
}
