-- What holds of a table's fields: of every table, of a new one, with new nodes and with one transaction more.
use Rattle.gl_table.proofs.Words.{◌+◌, ◌<◌, ◌==◌, [], ◌^◌, ◌||◌, ◌∙◌, ◌∷◌, ◌≡◌, ◌≤◌, Active, ap, AreDistinct, AreNew, arith, begin_tests, begun_at, Bool}
use Rattle.gl_table.proofs.Words.{by_list, children_that, choosing, clash, cond, count_in, counted_by, Detect, empty_state, Entry, entry_of, Err, false, find}
use Rattle.gl_table.proofs.Words.{first_refusal, free_slot, graph_of, HasNoCycle, held_children, held_of, holds, IfOk, Inside, is_among_waiters, is_free}
use Rattle.gl_table.proofs.Words.{is_live, is_none, is_some, is_wait, is_waiting_at, IsDistinct, IsLawful, IsSafe, IsSound, keys_of, Ledger, length, length-set}
use Rattle.gl_table.proofs.Words.{List, list_all, ListsAgree, LockList, lookup, loose_of, map, max_count, Members, members, mode_in, most_slots, nat_lt}
use Rattle.gl_table.proofs.Words.{nat_tests, NodeId, None, not, Ok, OnErr, Option, option_map_or, position, position-Some, position_or_len, queue_of}
use Rattle.gl_table.proofs.Words.{range_with_len, refl, Refusal, Refuses, replicate, Result, same, same_node, slice_get, slice_get-get_or, slice_set, Some}
use Rattle.gl_table.proofs.Words.{StandOnce, State, state_in, state_of, status_in, status_of, subst, suc, sym, TableView, too_many_txns, true, txn_in, TxnEntry}
use Rattle.gl_table.proofs.Words.{TxnEntryList, txns_of, unused-nobody, Victims, View, view_of, waiting_is, where_true, with_graph, zero, ℕ}
use Rattle.gl_modes.specs.declared.mode.Mode.TheVariants.{NL}
use Rattle.gl_graph.specs.Graph.{is_record_of}
use Rattle.gl_graph.specs.Over.{IsIndexOver, over_refusal}
use Rattle.gl_model.proofs.law.Schema.{over-counts, over-lawful}
use Rattle.gl_model.specs.State.{with_limits}
use Rattle.gl_table.proofs.calls.Stands.{as_it_was, IsLaw, MayStand, orderly_over, stands}
use Rattle.gl_modes.specs.declared.refusal.Refusal.TheVariants as no
use Rattle.gl_table.proofs.inside.Orders.{unique_in}
use Rattle.gl_table.proofs.inside.TxnEntries.{txns-set}
use Rattle.gl_model.proofs.law.Lock.{begun-no_cycle, empty-no_cycle}
use Rattle.gl_model.proofs.law.Records.{born-children, grown-lawful, Grows}
use Rattle.gl_model.proofs.law.Searches.{same_bool}
use Rattle.gl_model.proofs.law.Takes.{begun-lawful, free_quiet, roomy-lawful}
use Rattle.gl_model.proofs.queues.Waiters.{among_by_filter}

-- What holds of a table's fields, in the words of what a contract sees.

-- in a lawful state a slot is in a queue exactly if it waits there
pub waits_among : (s : State) → IsLawful s → (t : ℕ) (n : NodeId) → is_waiting_at s t n ≡ is_among_waiters t (s.queue n)
waits_among s law t n = same_bool (is_among_waiters t (s.queue n)) (is_waiting_at s t n) (law.waits_are t n)
    (λ h. let st = waiting_is (status_of s t) n h in among_by_filter t (t, st.0) [] (s.queue n) (law.one_wait t n st.0 st.1))

module _ (ls : List LockList) (n : NodeId) where
  abbrev said : ℕ → Option Entry
  said t = option_map_or (λ es. lookup (same_node n) es) (slice_get (map (λ l. l.entries.entries) ls) t) None

said_by : (ls : List LockList) (n : NodeId) (t : ℕ) → said ls n t ≡ by_list (λ l. entry_of l n) None ls t
said_by [] n t = refl
said_by (l ∷ ls) n zero = refl
said_by (l ∷ ls) n (suc t) = said_by ls n t

-- what is said of an entry, by slot
through : {A : Type 0} (f : Option Entry → A) (ls : List LockList) (n : NodeId) (t : ℕ)
    → f (by_list (λ l. entry_of l n) None ls t) ≡ by_list (λ l. f (entry_of l n)) (f None) ls t
through f [] n t = refl
through f (l ∷ ls) n zero = refl
through f (l ∷ ls) n (suc t) = through f ls n t

counted : (ls : List LockList) (n : NodeId) (t : ℕ) (e : Entry) → by_list (λ l. entry_of l n) None ls t ≡ Some e → counted_by ls t n ≡ e.children
counted [] n t e h = absurd (cc)
counted (l ∷ ls) n zero e h = ap (λ o. count_in o (loose_of l n)) h
counted (l ∷ ls) n (suc t) e h = counted ls n t e h

pub lists_agree : (i : Inside) → IsSound i → ListsAgree (view_of i)
lists_agree i sound = record {
  listed = λ t n. ap is_some (said_by ls n t) ∙ through is_some ls n t ∙ (i.locks.agree t).listed n
      ∙ ap (λ b. holds (members (state_of (view_of i)) n) t || b) (sym (waits_among (state_of (view_of i)) sound.lawful t n));
  modes = λ t n. ap mode_in (said_by ls n t) ∙ through mode_in ls n t ∙ (i.locks.agree t).modes n;
  counts = λ t n e h. sym (counted ls n t e (sym (said_by ls n t) ∙ h)) ∙ i.locks.count t n;
}
  where
    ls : List LockList
    ls = i.locks.ledger.lists.items

-- no list has a node twice
lists_once : (ls : List LockList) (t : ℕ) (es : List (NodeId × Entry)) → slice_get (map (λ l. l.entries.entries) ls) t ≡ Some es
    → IsDistinct same_node (keys_of es)
lists_once [] t es e = absurd (cc)
lists_once (l ∷ ls) zero es e = let is : l.entries.entries ≡ es = cc in
    subst (λ (xs : List (NodeId × Entry)). IsDistinct same_node (keys_of xs)) is (unique_in l)
lists_once (l ∷ ls) (suc t) es e = lists_once ls t es e

-- and no node has two headers, by their own word
pub stand_once : (i : Inside) → IsSound i → AreDistinct i.locks.ledger.headers.entries → StandOnce (view_of i)
stand_once i sound unique = record { headers = unique; lists = lists_once i.locks.ledger.lists.items }

-- A table without contents.

length-replicate : (k : ℕ) → length (replicate {A = Option TxnEntry} k None) ≡ k
length-replicate zero = refl
length-replicate (suc k) = ap suc (length-replicate k)

free_txn_entries : (k t : ℕ) → txns_of (replicate k None) t ≡ None
free_txn_entries zero t = refl
free_txn_entries (suc k) zero = refl
free_txn_entries (suc k) (suc t) = free_txn_entries k t

module _ (graph : View) (ledger : Ledger) (detect : Detect) (victims : Victims) (most : ℕ) (few : most ≤ most_slots) (low : graph.most ≤ 2 ^ 31)
    (none : (birth : ℕ) → (graph_of graph).at birth ≡ None) (births : graph.births ≡ 0) (new : AreNew ledger most) where
  abbrev l : State
  l = state_in graph ledger

  abbrev fresh : State
  fresh = record l { detect = detect; victims = victims; begins = 0 }

  pub new_state : fresh ≡ with_limits graph.most graph.most_bounds (choosing victims (empty_state detect most))
  new_state = λ z. record (with_limits graph.most graph.most_bounds (choosing victims (empty_state detect most))) {
    graph = record { at = λ b. none b z; births = births z; most = graph.most; most_bounds = graph.most_bounds };
    txns = λ t. (ap (λ xs. txns_of xs t) new.txn_entries ∙ free_txn_entries most t) z;
    held = λ t n. (ap (λ hs. held_of hs t n) new.headers ∙ ap (λ (g : Members). g t) unused-nobody) z;
    queue = λ n. queue_of (new.headers z) n;
    most = (ap length new.txn_entries ∙ length-replicate most) z;
  }

  pub new_safe : IsSafe fresh
  new_safe = record {
    lawful = subst IsLawful (sym new_state) (roomy-lawful detect victims most graph.most graph.most_bounds low);
    no_cycle = λ _. subst HasNoCycle (sym new_state) (empty-no_cycle detect victims most);
  }

  pub new_law : IsLaw graph ledger
  new_law = record {
    orderly = orderly_over l detect victims 0 new_safe.lawful;
    sound = record {
      few = subst (λ (k : ℕ). k ≤ most_slots) (sym (ap length new.txn_entries ∙ length-replicate most)) few;
      lists = new.lists ∙ sym (ap length new.txn_entries ∙ length-replicate most);
    };
    agree = λ u. record {
      modes = λ q. new.modes u q ∙ sym (ap (λ (x : State). x.held u q) new_state);
      listed = λ q. new.listed u q ∙ sym (ap (λ (x : State). holds (members x q) u || is_among_waiters u (x.queue q)) new_state);
      room = λ h. clash (ap (λ (x : State). is_wait (status_of x u)) (sym new_state) ∙ h) refl;
    };
    count = λ u p. new.counts u p ∙ sym (ap (λ (x : State). held_children x u p) new_state);
  }

-- A call on a table's graph makes nodes, or changes nothing: what holds of the fields still does.

module _ (i : Inside) (sound : IsSound i) (v : View) where
  abbrev before : State
  before = state_of (view_of i)

  -- over it the law is kept, and as many children of each node are held
  pub record Suits : Type 0 where
    pub lawful : IsLawful (with_graph before (graph_of v))
    pub counts : (u : ℕ) (p : NodeId) → held_children (with_graph before (graph_of v)) u p ≡ held_children before u p

  pub suited-stands : Suits → MayStand i v i.locks.ledger
  suited-stands suits = stands i v i.locks.ledger (record { lawful = suits.lawful; no_cycle = sound.no_cycle }) (record {
    sound = i.locks.sound;
    agree = λ u. let old = i.locks.agree u in record { modes = old.modes; listed = old.listed; room = old.room };
    count = λ u p. i.locks.count u p ∙ sym (suits.counts u p);
  })

  -- what a slot holds lives
  pub held-lives : (u : ℕ) (c : NodeId) → holds (members before c) u ≡ true → is_live before.graph c ≡ true
  held-lives u c h = (sound.lawful.grants_live u c h).1

  -- nobody holds a new node, so the counts of held children are the old ones
  grown-suits : Grows (graph_of i.locks.graph) (graph_of v) → Suits
  grown-suits more = record {
    lawful = grown-lawful before sound.lawful (graph_of v) more;
    counts = λ u p. let held : NodeId → Bool = λ c. holds (members before c) u in
        ap (λ g. children_that g held p) more.after ∙ born-children (graph_of i.locks.graph) sound.lawful.graph more.ns held (held-lives u) p;
  }

  -- nobody holds a record of the file of an index that is made, so neither are they counted
  pub over-suits : (n : NodeId) (ps : List NodeId) (f : NodeId) (bs : List ℕ) (rs : List NodeId) (ks : List ℕ)
      → over_refusal (graph_of i.locks.graph) ps f bs rs ks ≡ None → IsIndexOver (graph_of i.locks.graph) (graph_of v) n ps f bs rs ks
      → ((u : ℕ) (r : NodeId) → is_record_of before.graph f r ≡ true → before.held u r ≡ NL) → Suits
  over-suits n ps f bs rs ks free made unheld = record {
    lawful = over-lawful before sound.lawful ps f bs rs ks free (graph_of v) n made unheld;
    counts = over-counts before sound.lawful ps f bs rs ks free (graph_of v) n made unheld;
  }

  -- a call that makes nodes passed all its tests, and one that is refused left the graph as it was
  pub suited-call : (refusal : Option Refusal) (result : Result NodeId Refusal) (Made : NodeId → Type 0) → Refuses refusal result → IfOk result Made
      → OnErr result (v ≡ i.locks.graph) → ((n : NodeId) → refusal ≡ None → Made n → Suits) → MayStand i v i.locks.ledger
  suited-call None (Ok n) Made refuses made same suits = suited-stands (suits n refl made)
  suited-call (Some r) (Ok n) Made refuses made same suits = absurd (cc)
  suited-call refusal (Err r) Made refuses made same suits = subst (λ (w : View). MayStand i w i.locks.ledger) (sym same) (as_it_was i sound)

  pub called : (refusal : Option Refusal) (result : Result NodeId Refusal) (Made : NodeId → Type 0) → Refuses refusal result → IfOk result Made
      → OnErr result (v ≡ i.locks.graph) → ((n : NodeId) → refusal ≡ None → Made n → Grows (graph_of i.locks.graph) (graph_of v)) → MayStand i v i.locks.ledger
  called refusal result Made refuses made same grows = suited-call refusal result Made refuses made same (λ n free it. grown-suits (grows n free it))

-- A transaction enters the lowest free slot.

-- a search among the places of a list is one among its elements
find-places : {X : Type 0} (f : X → Bool) (p : ℕ → Bool) (xs : List X) (k : ℕ) → ((i : ℕ) (x : X) → slice_get xs i ≡ Some x → p (k + i) ≡ f x)
    → find p (range_with_len k (length xs)) ≡ cond (nat_lt (position_or_len f xs) (length xs)) (Some (k + position_or_len f xs)) None
find-places f p [] k h = refl
find-places f p (x ∷ xs) k h =
    ap (λ b. cond b (Some k) (find p (range_with_len (k + 1) (length xs)))) (ap p (zeroth k) ∙ h 0 x refl)
    ∙ by (f x) (position_or_len f xs) (find-places f p xs (k + 1) (λ i y e. ap p (next k i) ∙ h (suc i) y e))
  where
    zeroth : (k : ℕ) → k ≡ k + 0
    zeroth k = omega arith

    next : (k i : ℕ) → k + 1 + i ≡ k + suc i
    next k i = omega arith

    by : (b : Bool) (q : ℕ) → find p (range_with_len (k + 1) (length xs)) ≡ cond (nat_lt q (length xs)) (Some (k + 1 + q)) None
        → cond b (Some k) (find p (range_with_len (k + 1) (length xs)))
        ≡ cond (nat_lt (cond (not b) (1 + q) 0) (suc (length xs))) (Some (k + cond (not b) (1 + q) 0)) None
    by b q h1 = grind (arith, nat_tests)

-- all pass if none is found that does not
all-by_find : {X : Type 0} (p : X → Bool) (xs : List X) → list_all p xs ≡ is_none (find (λ x. not (p x)) xs)
all-by_find p [] = refl
all-by_find p (x ∷ xs) = grind (arith, nat_tests, p x, all-by_find p xs)

free-none : (o : Option TxnEntry) → is_none (txn_in (Some o)) ≡ is_free o
free-none None = refl
free-none (Some x) = refl

none-free : (o : Option TxnEntry) → is_free o ≡ true → is_some (txn_in (Some o)) ≡ false
none-free None e = refl
none-free (Some x) e = cc

-- the lowest free entry is that of the lowest free slot
pub found-slot : (v : TableView) (o : Option ℕ) → o ≡ position is_free v.txn_entries → free_slot (state_of v) ≡ o
found-slot v o is =
    find-places is_free (λ u. is_none (txns_of v.txn_entries u)) v.txn_entries 0 free_at
    ∙ ap (λ k. cond (nat_lt (position_or_len is_free v.txn_entries) (length v.txn_entries)) (Some k) None) (from_0 (position_or_len is_free v.txn_entries))
    ∙ sym is
  where
    from_0 : (k : ℕ) → 0 + k ≡ k
    from_0 k = omega arith

    free_at : (i : ℕ) (x : Option TxnEntry) → slice_get v.txn_entries i ≡ Some x → is_none (txns_of v.txn_entries (0 + i)) ≡ is_free x
    free_at i x e = ap (λ k. is_none (txns_of v.txn_entries k)) (from_0 i) ∙ ap (λ o. is_none (txn_in o)) e ∙ free-none x

-- a transaction may begin if a slot is free and an age is left
pub begin-refusal : (first : State) (o : Option ℕ) → (first.begins ≡ max_count → ⊥) → free_slot first ≡ o
    → first_refusal (begin_tests first) ≡ where_true (is_none o) no.TooManyTxns
begin-refusal first o left is =
    ap (λ r. first_refusal (r ∷ too_many_txns first ∷ [])) (not_worn first.begins left)
    ∙ last (list_all (λ t. is_some (first.txns t)) (range_with_len 0 first.most))
    ∙ ap (λ b. where_true b no.TooManyTxns) (all-by_find (λ t. is_some (first.txns t)) (range_with_len 0 first.most) ∙ ap is_none is)
  where
    not_worn : (b : ℕ) → (b ≡ max_count → ⊥) → where_true (b == max_count) no.WornOut ≡ None
    not_worn b k = grind (arith, nat_tests)

    last : (b : Bool) → first_refusal (None ∷ where_true b no.TooManyTxns ∷ []) ≡ where_true b no.TooManyTxns
    last b = grind (arith, nat_tests)

-- the first free slot is one in which nobody waits
pub free-place : (i : Inside) (t : ℕ) → Some t ≡ position is_free i.locks.ledger.txn_entries.items
    → (t < length i.locks.ledger.txn_entries.items) × (is_wait (status_of (state_of (view_of i)) t) ≡ false)
free-place i t at =
    let place = position-Some is_free i.locks.ledger.txn_entries.items t None (sym at) in (
      place.0,
      free_quiet (state_of (view_of i)) t
          (ap (λ o. is_some (txn_in o)) (slice_get-get_or i.locks.ledger.txn_entries.items t None place.0) ∙ none-free _ place.1),
    )

-- a transaction begins in a slot in which nobody waits
module _ (i : Inside) (sound : IsSound i) (t age since : ℕ) (place : t < length i.locks.ledger.txn_entries.items)
    (quiet : is_wait (status_of (state_of (view_of i)) t) ≡ false)
    (txn_entries : TxnEntryList)
    (has_entry : txn_entries.items ≡ slice_set i.locks.ledger.txn_entries.items t (Some (record { age = age; since = since; status = Active })))
    (later : i.begins < age) (low : since ≤ age) where
  abbrev ledger : Ledger
  ledger = record i.locks.ledger { txn_entries = txn_entries }

  abbrev first : State
  first = state_of (view_of i)

  abbrev now : State
  now = record (state_in i.locks.graph ledger) { detect = i.detect; victims = i.victims; begins = age }

  txn_entries-same : length txn_entries.items ≡ length i.locks.ledger.txn_entries.items
  txn_entries-same = ap length has_entry ∙ length-set i.locks.ledger.txn_entries.items t (Some (record { age = age; since = since; status = Active }))

  pub begun-state : now ≡ begun_at first t age since
  begun-state = λ z. record (begun_at first t age since) {
    txns = λ u. (ap (λ xs. txns_of xs u) has_entry
        ∙ txns-set i.locks.ledger.txn_entries.items t (Some (record { age = age; since = since; status = Active })) place u) z;
    most = txn_entries-same z;
  }

  -- each waiter was there before
  waited : (u : ℕ) → is_wait (status_in ((begun_at first t age since).txns u)) ≡ true → is_wait (status_in (first.txns u)) ≡ true
  waited u = grind (arith, nat_tests)

  pub begun-safe : IsSafe now
  begun-safe = record {
    lawful = subst IsLawful (sym begun-state) (begun-lawful first sound.lawful t quiet place age since later low);
    no_cycle = λ e. subst HasNoCycle (sym begun-state) (begun-no_cycle first t age since (sound.no_cycle e));
  }

  pub begun-law : IsLaw i.locks.graph ledger
  begun-law = record {
    orderly = orderly_over (state_in i.locks.graph ledger) i.detect i.victims age begun-safe.lawful;
    sound = record {
      few = subst (λ (k : ℕ). k ≤ most_slots) (sym txn_entries-same) i.locks.sound.few;
      lists = i.locks.sound.lists ∙ sym txn_entries-same;
    };
    agree = λ u. record {
      modes = (i.locks.agree u).modes;
      listed = (i.locks.agree u).listed;
      room = λ h. (i.locks.agree u).room (waited u (ap (λ (x : State). is_wait (status_in (x.txns u))) (sym begun-state) ∙ h));
    };
    count = i.locks.count;
  }
