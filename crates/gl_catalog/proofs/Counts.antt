-- What counting a command adds.
use Rattle.gl_slots.specs.Limit.{most_slots}
use Rattle.std.specs.Prelude.{◌≡◌, ℕ, zero, suc, ◌+◌, ◌-◌, ◌<◌, ◌≤◌, Bool, true, false, not, List, [], ◌∷◌, ◌++◌, cond, get_or, is_some, length, max}
use Rattle.std.specs.Prelude.{take, Err, Option, Some, None}
use Rattle.std.specs.List.{count_by, range_with_len}
use Rattle.std.proofs.Common.{refl, ap, sym, ◌∙◌, arith}
use Rattle.std.proofs.lemmas.Bool.Decides.{nat_tests}
use Rattle.std.proofs.lemmas.List.{take_more}
use Rattle.std.proofs.lemmas.List.Sums.{count_by-le-length, length-filter, sum-map, sum_by_push}
use Rattle.std.proofs.lemmas.List.FromFn.{length-range_with_len, sum_by-map-range_with_len_more}
use Rattle.std.proofs.Math.Path.{fun_ext}
use mathlib.Core.Bool.{true≢false}
use Rattle.gl_modes.proofs.Words.{no}
use Rattle.gl_modes.specs.declared.node.NodeId.{NodeId}
use Rattle.gl_graph.specs.Graph.{is_live}
use Rattle.gl_modes.specs.declared.refusal.Refusal.{Refusal}
use Rattle.gl_modes.specs.declared.refusal.Refusal.TheVariants.{NoSuchNode}
use Rattle.gl_graph.specs.Refusals.{first_refusal, where_true}
use Rattle.gl_header.specs.Header.{Waiter, is_among_waiters}
use Rattle.gl_model.specs.declared.answers.Notice.{Notice}
use Rattle.gl_model.specs.declared.answers.Notice.TheVariants as notice
use Rattle.gl_model.specs.declared.txn.TxnId.{TxnId}
use Rattle.gl_model.specs.Calls.{RefusesOnly, group_tests}
use Rattle.gl_model.specs.Lawful.{IsLawful}
use Rattle.gl_model.specs.State.{State, Txn, status_in, status_of, is_wait}
use Rattle.gl_slots.specs.declared.slots.Slots.{Slots}
use Rattle.gl_slots.specs.Slots.{has_slot, slot_limit, slots_of}
use Rattle.gl_slots.proofs.SlotLemmas.{slot_limit-is}
use Rattle.gl_model.specs.Tellings.{Told}
use Rattle.gl_catalog.specs.declared.counters.Counters.{Counters}
use Rattle.gl_catalog.specs.Counters.{is_gone, is_grant, is_moved, is_victim, rises, with_notice, with_notices}

-- a count that rises by nothing stays
pub rises_none : (k : ℕ) → rises k 0 ≡ k
rises_none k = omega arith

-- two raises are one by both
pub rises_twice : (k a b : ℕ) → rises (rises k a) b ≡ rises k (a + b)
rises_twice k a b = omega arith

pub max_none : (k : ℕ) → max k 0 ≡ k
max_none k = omega arith

-- one more notice, if it counts and if it does not
counts_yes : (p : TxnId × Notice → Bool) (k : ℕ) (xs : Told) (x : TxnId × Notice) → p x ≡ true
    → rises k (count_by p (xs ++ x ∷ [])) ≡ rises (rises k (count_by p xs)) 1
counts_yes p k xs x is = ap (rises k) (sum_by_push (λ y. cond (p y) 1 0) xs x ∙ ap (λ b. count_by p xs + cond b 1 0) is) ∙ sym (rises_twice k (count_by p xs) 1)

counts_no : (p : TxnId × Notice → Bool) (k : ℕ) (xs : Told) (x : TxnId × Notice) → p x ≡ false → rises k (count_by p (xs ++ x ∷ [])) ≡ rises k (count_by p xs)
counts_no p k xs x is = ap (rises k) (sum_by_push (λ y. cond (p y) 1 0) xs x ∙ ap (λ b. count_by p xs + cond b 1 0) is ∙ omega arith)

notices_snoc : (xs : Told) (t : TxnId) (x : Notice) (k : Counters) → with_notices (xs ++ (t, x) ∷ []) k ≡ with_notice x (with_notices xs k)
notices_snoc xs t (notice.Granted n m) k = λ i. record k {
  granted_later = counts_yes is_grant k.granted_later xs (t, notice.Granted n m) refl i;
  victims = counts_no is_victim k.victims xs (t, notice.Granted n m) refl i;
  moved = counts_no is_moved k.moved xs (t, notice.Granted n m) refl i;
  gone = counts_no is_gone k.gone xs (t, notice.Granted n m) refl i;
}
notices_snoc xs t notice.Victim k = λ i. record k {
  granted_later = counts_no is_grant k.granted_later xs (t, notice.Victim) refl i;
  victims = counts_yes is_victim k.victims xs (t, notice.Victim) refl i;
  moved = counts_no is_moved k.moved xs (t, notice.Victim) refl i;
  gone = counts_no is_gone k.gone xs (t, notice.Victim) refl i;
}
notices_snoc xs t notice.Moved k = λ i. record k {
  granted_later = counts_no is_grant k.granted_later xs (t, notice.Moved) refl i;
  victims = counts_no is_victim k.victims xs (t, notice.Moved) refl i;
  moved = counts_yes is_moved k.moved xs (t, notice.Moved) refl i;
  gone = counts_no is_gone k.gone xs (t, notice.Moved) refl i;
}
notices_snoc xs t notice.Gone k = λ i. record k {
  granted_later = counts_no is_grant k.granted_later xs (t, notice.Gone) refl i;
  victims = counts_no is_victim k.victims xs (t, notice.Gone) refl i;
  moved = counts_no is_moved k.moved xs (t, notice.Gone) refl i;
  gone = counts_yes is_gone k.gone xs (t, notice.Gone) refl i;
}

-- the notices are counted one after the other
pub notices_more : (xs : Told) (i : ℕ) (d : TxnId × Notice) (k : Counters) → i < length xs
    → with_notices (take (i + 1) xs) k ≡ with_notice (get_or xs i d).1 (with_notices (take i xs) k)
notices_more xs i d k less = ap (λ ys. with_notices ys k) (take_more xs i d less) ∙ notices_snoc (take i xs) (get_or xs i d).0 (get_or xs i d).1 k

-- how many wait in the slots below k
abbrev pub waiting_below : State → ℕ → ℕ
waiting_below s k = count_by (λ t. is_wait (status_of s t)) (range_with_len 0 k)

-- the waits are counted slot after slot
pub waiting_more : (s : State) (k : ℕ) → waiting_below s (k + 1) ≡ waiting_below s k + cond (is_wait (status_of s k)) 1 0
waiting_more s k =
    let one : ℕ → ℕ = λ t. cond (is_wait (status_of s t)) 1 0 in
    sym (sum-map one (range_with_len 0 (k + 1))) ∙ sum_by-map-range_with_len_more (λ n. n) one 0 k k (omega arith)
    ∙ ap (λ n. n + one k) (sum-map one (range_with_len 0 k))

-- past slots in which nobody waits the count stays
none_above : (s : State) (k j : ℕ) → ((t : ℕ) → k ≤ t → is_wait (status_of s t) ≡ false) → waiting_below s (k + j) ≡ waiting_below s k
none_above s k zero none =
    let e : k + zero ≡ k = omega arith in
    ap (waiting_below s) e
none_above s k (suc j) none =
    let e : k + suc j ≡ k + j + 1 = omega arith in
    let more = waiting_more s (k + j) in
    let nobody : cond (is_wait (status_of s (k + j))) 1 0 ≡ 0 = ap {B = ℕ} (λ b. cond b 1 0) (none (k + j) (omega arith)) in
    let rest = none_above s k j none in
    let one : waiting_below s (k + j + 1) ≡ waiting_below s k = omega (arith, more, nobody, rest) in
    ap (waiting_below s) e ∙ one

-- no slot past the limit waits
past_most : (s : State) → IsLawful s → (t : ℕ) → s.most ≤ t → is_wait (status_of s t) ≡ false
past_most s law t past = by (s.txns t) refl
  where
    by : (o : Option Txn) → s.txns t ≡ o → is_wait (status_in o) ≡ false
    by None e = refl
    by (Some x) e = let below = law.slots_below t (ap is_some e) in absurd (omega (arith, below, past))

-- a set of the slots that wait has as many as wait
pub waiting_slots : (s : State) (w : Slots) → IsLawful s → s.most ≤ most_slots → ((u : ℕ) → has_slot w u ≡ is_wait (status_of s u))
    → length (slots_of w) ≡ waiting_below s s.most
waiting_slots s w law few is =
    let limit : most_slots ≡ s.most + (most_slots - s.most) = omega (arith, few) in
    length-filter (has_slot w) (range_with_len 0 slot_limit)
    ∙ ap (λ p. count_by p (range_with_len 0 slot_limit)) (fun_ext is)
    ∙ ap (waiting_below s) (slot_limit-is ∙ limit)
    ∙ none_above s s.most (most_slots - s.most) (past_most s law)

-- no more wait than there are slots
pub few_wait : (s : State) → s.most ≤ most_slots → waiting_below s s.most ≤ most_slots
few_wait s few =
    let some = count_by-le-length (λ t. is_wait (status_of s t)) (range_with_len 0 s.most) in
    let all = length-range_with_len 0 s.most in
    omega (arith, some, all, few)

-- nobody waits for a node of which the queue is refused, since it does not live
pub no_waiters : (A : Type 0) (s : State) (n : NodeId) (r : Refusal) → IsLawful s → RefusesOnly {A = A} (first_refusal (group_tests s n)) (Err r)
    → length (s.queue n) ≡ 0
no_waiters A s n r law refuses = dead (is_live s.graph n) refl (s.queue n) refl refuses
  where
    first : (w : Waiter) (ws : List Waiter) → is_among_waiters w.0 (w ∷ ws) ≡ true
    first w ws = grind (arith, nat_tests)

    dead : (live : Bool) → is_live s.graph n ≡ live → (ws : List Waiter) → s.queue n ≡ ws
        → RefusesOnly {A = A} (first_refusal (where_true (not live) NoSuchNode ∷ [])) (Err r) → length ws ≡ 0
    dead live is [] e refused = refl
    dead true is (w ∷ ws) e refused = absurd (no refused)
    dead false is (w ∷ ws) e refused = absurd (true≢false (sym (law.waits_live w.0 n (ap (is_among_waiters w.0) e ∙ first w ws)) ∙ is))
