-- What a request that waits leaves. For requests.
use Rattle.gl_table.proofs.Words.{◌&&◌, ◌+◌, ◌<◌, ◌==◌, ◌||◌, ◌∙◌, ◌≡◌, ◌≤◌, Agrees, and_both, ap, ap₂, AreSound, arith, Bool, count_of, counted_by, CountsHeld}
use Rattle.gl_table.proofs.Words.{enqueued, enters, Entries, false, fun_ext, held_of, holds, if-false, if-true, if◌then◌else◌, is_among_waiters, is_listed}
use Rattle.gl_table.proofs.Words.{is_wait, Ledger, length, List, LockList, members, members_at, Mode, mode_of, most_slots, nat_tests, NodeId, number_same}
use Rattle.gl_table.proofs.Words.{Option, other_number, placed, queue_of, refl, restatus, room_by, same_node, same_node-equal, same_number, slice_index_or}
use Rattle.gl_table.proofs.Words.{slice_set, slot_limit, spare, split, State, state_in, status_in, subst, supremum, sym, true, TxnEntry, txns_of, View, Waiting}
use Rattle.gl_table.proofs.Words.{wanted, with_waiters, ℕ}
use Rattle.gl_table.proofs.inside.Asks.{active-waits_nowhere, IsReady}
use Rattle.gl_table.proofs.inside.Slots.{by_list-set, counts-entered, has_node-set, HasNode, none_more}
use Rattle.gl_model.proofs.queues.Edits.{placed_other, placed_self}
use Rattle.gl_model.proofs.queues.Waiters.{among_waits, one_among, some_wait}

module _ (s : State) (t : ℕ) (n : NodeId) (w : Mode) (out : is_among_waiters t (s.queue n) ≡ false) where
  abbrev after : State
  after = enqueued s t n w

  -- a slot is in a queue if it was there before, or is the requester
  among-placed : (u : ℕ) → is_among_waiters u (placed (members s n) (s.queue n) t w) ≡ ((u == t) || is_among_waiters u (s.queue n))
  among-placed u = split (u == t) (λ e. ap (λ v. is_among_waiters v (placed (members s n) (s.queue n) t w)) (same_number u t e)
      ∙ one_among t (placed (members s n) (s.queue n) t w) (t, w) (placed_self (members s n) (s.queue n) t w out)
      ∙ sym (ap (λ b. b || is_among_waiters u (s.queue n)) e))
      (λ e. among_waits u (placed (members s n) (s.queue n) t w) ∙ ap some_wait (placed_other (members s n) (s.queue n) t u w (other_number u t e))
      ∙ sym (among_waits u (s.queue n)) ∙ sym (ap (λ b. b || is_among_waiters u (s.queue n)) e))

  among-enqueued : (u : ℕ) (q : NodeId) → is_among_waiters u (after.queue q) ≡ (((u == t) && same_node q n) || is_among_waiters u (s.queue q))
  among-enqueued u q = split (same_node q n)
      (λ e. ap (λ b. is_among_waiters u (if b then placed (members s n) (s.queue n) t w else s.queue q)) e ∙ among-placed u
      ∙ ap₂ (λ b p. b || is_among_waiters u (s.queue p)) (and_so (u == t) (same_node q n) e) (sym (same_node-equal q n e)))
      (λ e. ap (λ b. is_among_waiters u (if b then placed (members s n) (s.queue n) t w else s.queue q)) e
      ∙ ap (λ b. b || is_among_waiters u (s.queue q)) (and_not (u == t) (same_node q n) e))
    where
      and_so : (a b : Bool) → b ≡ true → a ≡ (a && b)
      and_so a b h1 = grind (arith, nat_tests)

      and_not : (a b : Bool) → b ≡ false → false ≡ (a && b)
      and_not a b h1 = grind (arith, nat_tests)

  -- the list has the node, in the mode that is held
  pub enqueue-agrees : (ls ls' : List LockList) → HasNode ls ls' t n (s.held t n) → 9 ≤ room_by ls' t → (u : ℕ) → Agrees s ls u → Agrees after ls' u
  enqueue-agrees ls ls' has room u agrees = record {
    modes = λ q. has.modes u q ∙ ap (λ x. if (u == t) && same_node q n then s.held t n else x) (agrees.modes q) ∙ split ((u == t) && same_node q n)
        (λ e. let both = and_both (u == t) (same_node q n) e in
        if-true _ e ∙ ap₂ s.held (sym (same_number u t both.0)) (sym (same_node-equal q n both.1))) (λ e. if-false _ e);
    listed = λ q. has.listed u q ∙ ap (λ b. ((u == t) && same_node q n) || b) (agrees.listed q)
        ∙ swapped ((u == t) && same_node q n) (holds (members s q) u) (is_among_waiters u (s.queue q))
        ∙ ap (λ b. holds (members s q) u || b) (sym (among-enqueued u q));
    room = λ wait. split (u == t) (λ e. subst (λ v. 9 ≤ room_by ls' v) (sym (same_number u t e)) room) (λ e. subst (λ (k : ℕ). 9 ≤ k) (sym (has.rooms u e))
        (agrees.room (ap (λ b. is_wait (status_in (if b then restatus (Waiting n w) (s.txns t) else s.txns u))) (sym e) ∙ wait)));
  }
    where
      swapped : (a b c : Bool) → (a || (b || c)) ≡ (b || (a || c))
      swapped a b c = grind (arith, nat_tests)

-- the list of a slot that will wait has the node, in the held mode, and room for the counts of a later grant
pub record HasWait (ls ls' : List LockList) (t : ℕ) (n : NodeId) (held : Mode) : Type 0 where
  pub node : HasNode ls ls' t n held
  pub counts : (u : ℕ) (q : NodeId) → counted_by ls' u q ≡ counted_by ls u q
  pub room : 9 ≤ room_by ls' t

pub has_wait-set : (ls : List LockList) (t : ℕ) (x x' : LockList) → t < length ls → x ≡ slice_index_or ls t x → (n : NodeId) (held : Mode)
    → ((q : NodeId) → mode_of x' q ≡ (if same_node q n then held else mode_of x q))
    → ((q : NodeId) → is_listed x' q ≡ (same_node q n || is_listed x q)) → ((q : NodeId) → count_of x' q ≡ count_of x q) → 9 ≤ spare x'.loose
    → HasWait ls (slice_set ls t x') t n held
has_wait-set ls t x x' lt at n held modes listed counts room = record {
  node = has_node-set ls t x x' lt at n held modes listed;
  counts = λ u q. counts-entered ls t x x' lt at (λ p. 0) (λ p. counts p ∙ none_more (count_of x p)) u q ∙ no_more (u == t) (counted_by ls u q);
  room = subst (λ (k : ℕ). 9 ≤ k) (sym (by_list-set ls t x' lt (λ y. spare y.loose) 0 t ∙ if-true _ (number_same t t refl))) room;
}
  where
    no_more : (b : Bool) (k : ℕ) → k + (if b then 0 else 0) ≡ k
    no_more b k = grind (arith, nat_tests)

-- what a request for m that waits leaves
pub record IsEnqueued (g : View) (l l' : Ledger) (t : ℕ) (n : NodeId) (m : Mode) : Type 0 where
  pub sound : AreSound l'
  pub state : state_in g l' ≡ enqueued (state_in g l) t n (wanted (state_in g l) t n m)
  pub agree : (u : ℕ) → Agrees (state_in g l') l'.lists.items u
  pub count : (u : ℕ) → CountsHeld (state_in g l') l'.lists.items u

-- room was made, the headers were called, the node was listed, and the status was written
module _ (g : View) (l r l' : Ledger) (t : ℕ) (n : NodeId) (m w : Mode) (held : Bool) (ready : IsReady g l r t n m held false) (hs : Entries)
    (txn_entries : List (Option TxnEntry)) where
  abbrev want : Mode
  want = supremum (held_of r.headers.entries t n) m

  pub is_enqueued : l'.headers.entries ≡ hs → (enters slot_limit (members_at r.headers.entries n) (queue_of r.headers.entries n) t want ≡ false
      → (held_of hs ≡ held_of r.headers.entries) × (queue_of hs
      ≡ with_waiters (queue_of r.headers.entries) n (placed (members_at r.headers.entries n) (queue_of r.headers.entries n) t want)))
      → txn_entries ≡ r.txn_entries.items → length l'.txn_entries.items ≡ length txn_entries
      → ((u : ℕ) → txns_of l'.txn_entries.items u ≡ (if u == t then restatus (Waiting n w) (txns_of txn_entries t) else txns_of txn_entries u)) → w ≡ want
      → HasWait r.lists.items l'.lists.items t n (held_of r.headers.entries t n) → IsEnqueued g l l' t n m
  is_enqueued entries changed same len txns wants has = record {
    sound = record {
      few = subst (λ (k : ℕ). k ≤ most_slots) (sym count) ready.may.exact.sound.few;
      lists = has.node.len ∙ ready.may.exact.sound.lists ∙ sym count;
    };
    state = state ∙ ap (λ s. enqueued s t n (wanted s t n m)) ready.same;
    agree = λ u. subst (λ s. Agrees s l'.lists.items u) (sym state)
        (enqueue-agrees (state_in g r) t n want (active-waits_nowhere g r t ready.may n) r.lists.items l'.lists.items has.node has.room u
        (ready.may.exact.agree u));
    count = λ u. subst (λ s. CountsHeld s l'.lists.items u) (sym state) (λ p. has.counts u p ∙ ready.may.exact.count u p);
  }
    where
      count : length l'.txn_entries.items ≡ length r.txn_entries.items
      count = len ∙ ap length same

      state : state_in g l' ≡ enqueued (state_in g r) t n want
      state = λ i. record (state_in g r) {
        txns = (fun_ext txns ∙ ap₂ (λ x ss. λ u. if u == t then restatus (Waiting n x) (txns_of ss t) else txns_of ss u) wants same) i;
        held = (ap held_of entries ∙ (changed ready.enters).0) i;
        queue = (ap queue_of entries ∙ (changed ready.enters).1) i;
        most = count i;
      }
