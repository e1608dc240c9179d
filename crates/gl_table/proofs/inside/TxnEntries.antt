-- The lowest free entry, an entry that is written, and a slot that is freed. For transaction entries, and for the end of a transaction.
use Rattle.gl_table.proofs.Words.{◌&&◌, ◌<◌, ◌==◌, [], ◌||◌, ◌∙◌, ◌∷◌, ◌≡◌, Agrees, and-false, ap, ap₂, arith, clash, count_none, count_of, CountsHeld}
use Rattle.gl_table.proofs.Words.{elements, false, gets, if◌then◌else◌, is_among_waiters, is_child, is_free, is_free_at, is_listed, is_live, is_some, is_wait}
use Rattle.gl_table.proofs.Words.{IsOrderly, length, length-set, List, lives, lives_at, LockList, mode_of, nat_tests, NL, NodeId, nodes, nodes_live, None}
use Rattle.gl_table.proofs.Words.{none_some, not, number_same, Option, position, position_or_len, refl, same_mode, same_number, slice_set, Some, split, State}
use Rattle.gl_table.proofs.Words.{status_in, subst, suc, sym, true, txn_in, TxnEntry, txns_of, with_txn, zero, ℕ}
use Rattle.gl_table.specs.inside.TxnEntries.{waits_at}
use Rattle.gl_model.specs.State.{waits_at as awaits}
use Rattle.gl_table.proofs.inside.Lists.{bare-modes, IsBare}
use Rattle.gl_table.proofs.inside.Slots.{agrees-set, counts-set, own_list}

-- The set of free slots finds the lowest free entry.

-- the place of the first free entry is the lowest free slot
first : (xs : List (Option TxnEntry)) (k : ℕ) → is_free_at xs k ≡ true → ((u : ℕ) → u < k → is_free_at xs u ≡ false) → (position_or_len is_free xs ≡ k)
    × (k < length xs)
first [] k h below = clash h refl
first (x ∷ xs) zero h below = grind (arith, nat_tests, h)
first (x ∷ xs) (suc k) h below =
    let later = first xs k h (λ u lt. below (suc u) (omega arith)) in
    let taken : is_free x ≡ false = below 0 (omega arith) in
    grind (arith, nat_tests, later.0, later.1, taken)

pub lowest-first : (xs : List (Option TxnEntry)) (k : ℕ) → is_free_at xs k ≡ true → ((u : ℕ) → u < k → is_free_at xs u ≡ false) → position is_free xs ≡ Some k
lowest-first xs k h below = let f = first xs k h below in grind (arith, nat_tests, f.0, f.1)

all-taken : (xs : List (Option TxnEntry)) → ((u : ℕ) → is_free_at xs u ≡ false) → position_or_len is_free xs ≡ length xs
all-taken [] all = refl
all-taken (x ∷ xs) all =
    let later = all-taken xs (λ u. all (suc u)) in
    let taken : is_free x ≡ false = all 0 in
    grind (arith, nat_tests, later, taken)

-- if no slot is free, no entry is
pub none-free : (xs : List (Option TxnEntry)) → ((u : ℕ) → is_free_at xs u ≡ false) → position is_free xs ≡ None
none-free xs all = let t = all-taken xs all in grind (arith, nat_tests, t)

-- One entry is written.

pub txns-set : (txn_entries : List (Option TxnEntry)) (t : ℕ) (txn_entry : Option TxnEntry) → t < length txn_entries → (u : ℕ)
    → txns_of (slice_set txn_entries t txn_entry) u ≡ (if u == t then txn_in (Some txn_entry) else txns_of txn_entries u)
txns-set txn_entries t txn_entry lt u = grind (arith, nat_tests, gets, elements)

-- and the slots that are then free
pub free-set : (txn_entries : List (Option TxnEntry)) (t : ℕ) (txn_entry : Option TxnEntry) → t < length txn_entries → (u : ℕ)
    → is_free_at (slice_set txn_entries t txn_entry) u ≡ (if u == t then is_free txn_entry else is_free_at txn_entries u)
free-set txn_entries t txn_entry lt u = grind (arith, nat_tests, gets, elements)

-- the same slots are free, with any status of one that lives
pub free-kept : (txn_entries : List (Option TxnEntry)) (t : ℕ) (x : TxnEntry) → t < length txn_entries → lives_at txn_entries t ≡ true → (u : ℕ)
    → is_free_at (slice_set txn_entries t (Some x)) u ≡ is_free_at txn_entries u
free-kept txn_entries t x lt lives u = free-set txn_entries t (Some x) lt u ∙ grind (arith, nat_tests, gets, elements)

-- and those that then wait
pub waits-set : (txn_entries : List (Option TxnEntry)) (t : ℕ) (txn_entry : Option TxnEntry) → t < length txn_entries → (u : ℕ)
    → waits_at (slice_set txn_entries t txn_entry) u ≡ (if u == t then is_wait (status_in (txn_in (Some txn_entry))) else waits_at txn_entries u)
waits-set txn_entries t txn_entry lt u = ap (λ o. is_wait (status_in o)) (txns-set txn_entries t txn_entry lt u) ∙ grind (arith, nat_tests)

-- and those that live
pub lives-set : (txn_entries : List (Option TxnEntry)) (t : ℕ) (txn_entry : Option TxnEntry) → t < length txn_entries → (u : ℕ)
    → lives_at (slice_set txn_entries t txn_entry) u ≡ (if u == t then is_some (txn_in (Some txn_entry)) else lives_at txn_entries u)
lives-set txn_entries t txn_entry lt u = ap is_some (txns-set txn_entries t txn_entry lt u) ∙ grind (arith, nat_tests)

-- the same transactions live, with any status of one of them
pub lives-kept : (txn_entries : List (Option TxnEntry)) (t : ℕ) (x : TxnEntry) → t < length txn_entries → lives_at txn_entries t ≡ true → (u : ℕ)
    → lives_at (slice_set txn_entries t (Some x)) u ≡ lives_at txn_entries u
lives-kept txn_entries t x lt lives u = lives-set txn_entries t (Some x) lt u ∙ grind (arith, nat_tests)

-- A slot that holds nothing and is in no queue is freed, and its list is emptied: the lists agree.

-- the state with the slot's entry free
pub state-freed : (s : State) (txn_entries txn_entries' : List (Option TxnEntry)) (t : ℕ) → t < length txn_entries → txn_entries' ≡ slice_set txn_entries t None
    → record s { txns = txns_of txn_entries'; most = length txn_entries' }
    ≡ with_txn (record s { txns = txns_of txn_entries; most = length txn_entries }) t None
state-freed s txn_entries txn_entries' t lt freed =
    ap {B = State} (λ (xs : List (Option TxnEntry)). record s { txns = txns_of xs; most = length xs }) freed
    ∙ (λ i. record s { txns = λ u. txns-set txn_entries t None lt u i; most = length-set txn_entries t None i })

module _ (s : State) (t : ℕ) (free : (q : NodeId) → s.held t q ≡ NL) (out : (q : NodeId) → is_among_waiters t (s.queue q) ≡ false) (ls : List LockList)
    (new : LockList) (lt : t < length ls) (bare : IsBare new) where
  abbrev gone : State
  gone = with_txn s t None

  own_agrees : Agrees gone (slice_set ls t new) t
  own_agrees = record {
    modes = λ q. own_list ls t new lt (λ l. mode_of l q) NL ∙ bare-modes (new ∷ []) (bare, tt) 0 q ∙ sym (free q);
    listed = λ q. own_list ls t new lt (λ l. is_listed l q) false ∙ bare.listed q ∙ sym (ap₂ (λ m k. not (same_mode m NL) || k) (free q) (out q));
    room = λ h. clash h (ap (λ b. is_wait (status_in (if b then None else s.txns t))) (number_same t t refl));
  }

  other_agrees : (u : ℕ) → (u == t) ≡ false → Agrees s ls u → Agrees gone (slice_set ls t new) u
  other_agrees u e agree = agrees-set ls t new lt u e gone (record {
    modes = agree.modes;
    listed = agree.listed;
    room = λ h. agree.room (sym (ap (λ b. is_wait (status_in (if b then None else s.txns u))) e) ∙ h);
  })

  pub agrees-gone : ((u : ℕ) → (u == t) ≡ false → Agrees s ls u) → (u : ℕ) → Agrees gone (slice_set ls t new) u
  agrees-gone agree u = split (u == t) (λ e. subst (Agrees gone (slice_set ls t new)) (sym (same_number u t e)) own_agrees) (λ e. other_agrees u e (agree u e))

  own_counts : CountsHeld gone (slice_set ls t new) t
  own_counts p = own_list ls t new lt (λ l. count_of l p) 0 ∙ bare.counts p
      ∙ sym (count_none (is_live s.graph) (λ c. is_child s.graph p c && not (same_mode (s.held t c) NL)) (nodes s.graph) (nodes_live s.graph)
      (λ c h. ap (λ m. is_child s.graph p c && not (same_mode m NL)) (free c) ∙ and-false (is_child s.graph p c)))

  pub counts-gone : ((u : ℕ) → (u == t) ≡ false → CountsHeld s ls u) → (u : ℕ) → CountsHeld gone (slice_set ls t new) u
  counts-gone count u = split (u == t) (λ e. subst (CountsHeld gone (slice_set ls t new)) (sym (same_number u t e)) own_counts)
      (λ e. counts-set ls t new lt u e gone (count u e))

  -- and what held between the steps still does
  pub orderly-gone : IsOrderly s → IsOrderly gone
  orderly-gone o = record {
    holders = λ u q h. split (u == t) (λ e. clash h (ap (λ m. not (same_mode m NL)) (ap (λ v. s.held v q) (same_number u t e) ∙ free q)))
        (λ e. ap is_some (other u e) ∙ o.holders u q h);
    holders_live = o.holders_live;
    waiters_live = o.waiters_live;
    waits_are = λ u q h. split (u == t) (λ e. clash h (ap (λ v. is_among_waiters v (s.queue q)) (same_number u t e) ∙ out q))
        (λ e. ap (λ x. awaits (status_in x) q) (other u e) ∙ o.waits_are u q h);
    one_wait = λ u q m h. split (u == t) (λ e. absurd (none_some (sym (ap status_in (mine u e)) ∙ h)))
        (λ e. o.one_wait u q m (sym (ap status_in (other u e)) ∙ h));
    below = λ u h. split (u == t) (λ e. clash h (ap is_some (mine u e))) (λ e. o.below u (sym (ap is_some (other u e)) ∙ h));
  }
    where
      other : (u : ℕ) → (u == t) ≡ false → gone.txns u ≡ s.txns u
      other u e = ap (λ b. if b then None else s.txns u) e

      mine : (u : ℕ) → (u == t) ≡ true → gone.txns u ≡ None
      mine u e = ap (λ b. if b then None else s.txns u) e
