-- What a request that is granted leaves, also of a node that nobody held, and that a node has its key alone. For requests and new records.
use Rattle.gl_table.proofs.Words.{◌&&◌, ◌+◌, ◌<◌, ◌==◌, [], ◌^◌, ◌||◌, ◌∙◌, ◌∷◌, ◌≡◌, ◌≢◌, ◌≤◌, ⊎_elim, Active, Agrees, and-false, ap, ap₂, AreHeaders}
use Rattle.gl_table.proofs.Words.{AreSound, arith, Asked, Bool, cases_of, children_few, children_that, clash, count_by, count_by-le-length, count_of}
use Rattle.gl_table.proofs.Words.{counted_by, CountsHeld, enters, enters_at, Entries, false, fun_ext, granted, Graph, graph_of, HasItsKey, HasRoom, HasRoomAt}
use Rattle.gl_table.proofs.Words.{header_at, header_or_new, HeaderState, held_children, held_of, holds, if-false, if-true, if◌then◌else◌, is_among_waiters}
use Rattle.gl_table.proofs.Words.{is_empty, is_granted_at, is_listed, is_live, is_wait, is_waiter, IsFreeKey, IsFresh, IsLawfulGraph, IsOneHolder, IsOrderly}
use Rattle.gl_table.proofs.Words.{KeepsLists, Ledger, length, List, list_any, LockList, MayAct, members, members_at, members_of, Mode, mode_of, most_slots}
use Rattle.gl_table.proofs.Words.{nat_tests, NL, NodeId, not, not-true, not_NL, number_same, or-false, or_left, parents_of, queue_of, refl, same_mode}
use Rattle.gl_table.proofs.Words.{same_node, same_node-equal, same_node-from_equal, same_node-refl, same_number, slice_index_or, slot_limit, Some, spare, split}
use Rattle.gl_table.proofs.Words.{State, state_in, state_on, status_of, subst, supremum, supremum-not_NL, sym, true, txn_there, unlisted, View, Waiter}
use Rattle.gl_table.proofs.Words.{waiting_is, wanted, with_grant, with_members, with_mode, with_waiters, ℕ}
use Rattle.gl_header.specs.declared.header.Asked.TheVariants as asked
use Rattle.gl_header.proofs.Changed.{nobody-enters, with_waiters-same}
use Rattle.gl_table.proofs.inside.Slots.{by_list-at, HasNode, keeps-agrees, keeps-counts}
use Rattle.gl_model.proofs.law.Keeps.{apart}
use Rattle.gl_model.proofs.queues.Counts.{children_up, few_parents}
use Rattle.gl_model.proofs.telling.Fronts.{enters-most}
use Rattle.gl_header.proofs.Unused.{unused-false}

-- What is known of an active slot that requests a node, and of its list.

-- room was made in the list of the slot, if it was wanted; all says what it said
pub record HasMadeRoom (l l' : Ledger) (t : ℕ) (wanted : Bool) : Type 0 where
  pub headers : l'.headers ≡ l.headers
  pub txn_entries : l'.txn_entries ≡ l.txn_entries
  pub lists : KeepsLists l.lists.items l'.lists.items
  pub room : wanted ≡ true → HasRoomAt l'.lists.items t

-- headers and transaction entries alone make the state
pub state-same : (g : Graph) (l l' : Ledger) → l'.headers.entries ≡ l.headers.entries → l'.txn_entries ≡ l.txn_entries → state_on g l' ≡ state_on g l
state-same g l l' headers txn_entries = λ i. record
    (state_on g (record l { txn_entries = txn_entries i })) { held = held_of (headers i); queue = queue_of (headers i) }

pub room-state : (g : View) (l l' : Ledger) (t : ℕ) (wanted : Bool) → HasMadeRoom l l' t wanted → state_in g l' ≡ state_in g l
room-state g l l' t wanted made = state-same (graph_of g) l l' (ap (λ h. h.entries) made.headers) made.txn_entries

pub room-may_ask : (g : View) (l l' : Ledger) (t : ℕ) (wanted : Bool) → HasMadeRoom l l' t wanted → MayAct g l t → MayAct g l' t
room-may_ask g l l' t wanted made may = record {
  exact = record {
    sound = record {
      few = subst (λ (k : ℕ). k ≤ most_slots) (sym txn_entries) may.exact.sound.few;
      lists = made.lists.len ∙ may.exact.sound.lists ∙ sym txn_entries;
    };
    agree = λ u. subst (λ s. Agrees s l'.lists.items u) (sym same) (keeps-agrees (state_in g l) l.lists.items l'.lists.items u made.lists (may.exact.agree u));
    count = λ u. subst (λ s. CountsHeld s l'.lists.items u) (sym same)
        (keeps-counts (state_in g l) l.lists.items l'.lists.items u made.lists (may.exact.count u));
  };
  orderly = subst IsOrderly (sym same) may.orderly;
  active = ap (λ s. status_of s t) same ∙ may.active;
}
  where
    same : state_in g l' ≡ state_in g l
    same = room-state g l l' t wanted made

    txn_entries : length l'.txn_entries.items ≡ length l.txn_entries.items
    txn_entries = ap (λ x. length x.items) made.txn_entries

module _ (g : View) (l : Ledger) (t : ℕ) (may : MayAct g l t) where
  abbrev s : State
  s = state_in g l

  pub slot-below : t < length l.txn_entries.items
  slot-below = may.orderly.below t (txn_there (s.txns t) Active may.active)

  pub slot-listed : t < length l.lists.items
  slot-listed = subst (λ (k : ℕ). t < k) (sym may.exact.sound.lists) slot-below

  pub active-waits_nowhere : (q : NodeId) → is_among_waiters t (s.queue q) ≡ false
  active-waits_nowhere q = split (is_among_waiters t (s.queue q)) (λ h. let w = waiting_is (status_of s t) q (may.orderly.waits_are t q h) in
      absurd (apart (sym may.active ∙ w.1))) (λ h. h)

  -- its list has what it holds
  module _ (x : LockList) (at : x ≡ slice_index_or l.lists.items t x) where
    pub own-mode : (q : NodeId) → mode_of x q ≡ s.held t q
    own-mode q = sym (by_list-at (λ y. mode_of y q) NL l.lists.items t x slot-listed at) ∙ (may.exact.agree t).modes q

    pub own-listed : (q : NodeId) → is_listed x q ≡ holds (members s q) t
    own-listed q = sym (by_list-at (λ y. is_listed y q) false l.lists.items t x slot-listed at) ∙ (may.exact.agree t).listed q
        ∙ ap (λ b. holds (members s q) t || b) (active-waits_nowhere q) ∙ or-false (holds (members s q) t)

    pub own-count : (q : NodeId) → count_of x q ≡ held_children s t q
    own-count q = sym (by_list-at (λ y. count_of y q) 0 l.lists.items t x slot-listed at) ∙ may.exact.count t q

    pub own-room : HasRoomAt l.lists.items t → HasRoom x
    own-room room = (
      subst (λ (k : ℕ). 0 < k) (by_list-at (λ y. spare y.entries) 0 l.lists.items t x slot-listed at) room.entry,
      subst (λ (k : ℕ). 9 ≤ k) (by_list-at (λ y. spare y.loose) 0 l.lists.items t x slot-listed at) room.counts,
    )

    -- one child more of each of these can be counted
    pub own-few : IsLawfulGraph (graph_of g) → (n q : NodeId) → count_of x q + count_by (same_node q) (parents_of (graph_of g) n) < 2 ^ 32
    own-few law n q =
        let count = own-count q in
        let children = children_few (graph_of g) law (λ c. holds (members s c) t) q in
        let once = count_by-le-length (same_node q) (parents_of (graph_of g) n) in
        let few = few_parents (graph_of g) law n in
        omega arith

-- a list with room for nine has room for the parents of a node
pub parents-room : (g : View) → IsLawfulGraph (graph_of g) → (n : NodeId) (x : LockList) → 9 ≤ spare x.loose
    → unlisted x (parents_of (graph_of g) n) ≤ spare x.loose
parents-room g law n x room =
    let some = count_by-le-length (λ p. not (is_listed x p)) (parents_of (graph_of g) n) in
    let few = few_parents (graph_of g) law n in
    omega arith

-- room was made for an ask, which a conversion that is granted at once does not need; the flags say whether the slot holds the node, and whether the ask is
-- granted at once
pub record IsReady (g : View) (l l' : Ledger) (t : ℕ) (n : NodeId) (m : Mode) (held now : Bool) : Type 0 where
  pub may : MayAct g l' t
  pub same : state_in g l' ≡ state_in g l
  pub room : (held && now) ≡ false → HasRoomAt l'.lists.items t
  pub enters : enters slot_limit (members_at l'.headers.entries n) (queue_of l'.headers.entries n) t (wanted (state_in g l') t n m) ≡ now
  pub is_held : holds (members (state_in g l') n) t ≡ held

pub is_ready : (g : View) (l l' : Ledger) (t : ℕ) (n : NodeId) (m : Mode) (held now : Bool) → MayAct g l t → enters_at (state_in g l) t n m ≡ now
    → held ≡ holds (members (state_in g l) n) t → HasMadeRoom l l' t (not (held && now)) → IsReady g l l' t n m held now
is_ready g l l' t n m held now may enters held_is made = record {
  may = may_now;
  same = same;
  room = λ e. made.room (ap not e);
  enters = sym (enters-most (state_in g l') may_now.orderly may_now.exact.sound.few t n (wanted (state_in g l') t n m))
      ∙ ap (λ s. enters_at s t n m) same ∙ enters;
  is_held = ap (λ s. holds (members s n) t) same ∙ sym held_is;
}
  where
    same : state_in g l' ≡ state_in g l
    same = room-state g l l' t (not (held && now)) made

    may_now : MayAct g l' t
    may_now = room-may_ask g l l' t (not (held && now)) made may

-- what the header of a node says of a request is what the state says
pub says_is : (g : View) (l : Ledger) (t : ℕ) (n : NodeId) (m : Mode) → MayAct g l t → is_granted_at l.headers.entries t n m ≡ enters_at (state_in g l) t n m
says_is g l t n m may = sym (enters-most (state_in g l) may.orderly may.exact.sound.few t n (wanted (state_in g l) t n m))

-- room was made in the lists alone
module _ {g : View} {l : Ledger} (l' : Ledger) {t : ℕ} (may : MayAct g l t) (rest : l' ≡ record l { lists = l'.lists })
    (lists : KeepsLists l.lists.items l'.lists.items) where
  only_room : (wanted : Bool) → (wanted ≡ true → HasRoomAt l'.lists.items t) → HasMadeRoom l l' t wanted
  only_room wanted room = record { headers = ap (λ x. x.headers) rest; txn_entries = ap (λ x. x.txn_entries) rest; lists = lists; room = room }

  none_wanted : HasMadeRoom l l' t false
  none_wanted = only_room false (λ e. absurd (cc))

  pub roomy_may : MayAct g l' t
  roomy_may = room-may_ask g l l' t false none_wanted may

  pub roomy_same : state_in g l' ≡ state_in g l
  roomy_same = room-state g l l' t false none_wanted

  pub roomy_says : (n : NodeId) (m : Mode) → is_granted_at l'.headers.entries t n m ≡ enters_at (state_in g l) t n m
  roomy_says n m = says_is g l' t n m roomy_may ∙ ap (λ s. enters_at s t n m) roomy_same

  -- so the request can be carried out, with any outcome
  pub roomy_ready : (n : NodeId) (m : Mode) (held now : Bool) → held ≡ holds (members (state_in g l) n) t → enters_at (state_in g l) t n m ≡ now
      → ((held && is_granted_at l.headers.entries t n m) ≡ false → HasRoomAt l'.lists.items t) → IsReady g l l' t n m held now
  roomy_ready n m held now is at room =
      is_ready g l l' t n m held now may at is (only_room (not (held && now))
      (λ e. room (ap (λ b. held && b) (says_is g l t n m may ∙ at) ∙ not-true (held && now) e)))

-- What a request that is granted leaves.

-- other members of one node, of which one alone is changed, are one grant
pub with_members-grant : (held : ℕ → NodeId → Mode) (t : ℕ) (n : NodeId) (m : Mode)
    → with_members held n (with_mode (λ u. held u n) t m) ≡ (λ u q. if (u == t) && same_node q n then m else held u q)
with_members-grant held t n m = fun_ext (λ u. fun_ext (λ q. split (same_node q n)
    (λ e. if-true _ e ∙ ap (λ p. if u == t then m else held u p) (sym (same_node-equal q n e)) ∙ here (u == t) (same_node q n) m (held u q) e)
    (λ e. if-false _ e ∙ there (u == t) (same_node q n) m (held u q) e)))
  where
    here : (a b : Bool) (x y : Mode) → b ≡ true → (if a then x else y) ≡ (if a && b then x else y)
    here a b x y h1 = grind (arith, nat_tests)

    there : (a b : Bool) (x y : Mode) → b ≡ false → y ≡ (if a && b then x else y)
    there a b x y h1 = grind (arith, nat_tests)

-- a grant to an active slot: what it now holds, its list has
pub grant-agrees : (s : State) (ls ls' : List LockList) (t : ℕ) (n : NodeId) (m : Mode) → m ≢ NL → status_of s t ≡ Some Active → HasNode ls ls' t n m → (u : ℕ)
    → Agrees s ls u → Agrees (with_grant s t n m) ls' u
grant-agrees s ls ls' t n m lock active has u agrees = record {
  modes = λ q. has.modes u q ∙ ap (λ x. if (u == t) && same_node q n then m else x) (agrees.modes q);
  listed = λ q. has.listed u q ∙ ap (λ b. ((u == t) && same_node q n) || b) (agrees.listed q) ∙ by q ((u == t) && same_node q n);
  room = λ w. split (u == t) (λ e. clash w (ap (λ v. is_wait (status_of s v)) (same_number u t e) ∙ ap is_wait active))
      (λ e. subst (λ (k : ℕ). 9 ≤ k) (sym (has.rooms u e)) (agrees.room w));
}
  where
    by : (q : NodeId) (b : Bool) → (b || (holds (members s q) u || is_among_waiters u (s.queue q)))
        ≡ (not (same_mode (if b then m else s.held u q) NL) || is_among_waiters u (s.queue q))
    by q b = grind (arith, nat_tests)

-- whether a slot holds a node, once one slot holds one node more
module _ (s : State) (t : ℕ) (n : NodeId) (m : Mode) (lock : m ≢ NL) (u : ℕ) where
  abbrev after : State
  after = with_grant s t n m

  abbrev holding : State → NodeId → Bool
  holding x c = holds (members x c) u

  holding-new : (u == t) ≡ true → holding after n ≡ true
  holding-new e = ap₂ (λ a b. not (same_mode (if a && b then m else s.held u n) NL)) e (same_node-refl n) ∙ ap not (not_NL m lock)

  holding-node : (q : NodeId) → same_node q n ≡ false → holding after q ≡ holding s q
  holding-node q e = grind (arith, nat_tests, e, and-false (u == t))

  holding-slot : (u == t) ≡ false → (q : NodeId) → holding after q ≡ holding s q
  holding-slot e q = ap (λ b. not (same_mode (if b && same_node q n then m else s.held u q) NL)) e

  -- if it holds the same nodes, it holds the same children
  children-same : ((q : NodeId) → holding after q ≡ holding s q) → (p : NodeId) → held_children s u p + 0 ≡ held_children after u p
  children-same alike p = let none : held_children s u p + 0 ≡ held_children s u p = omega arith in
      none ∙ ap (λ f. children_that s.graph f p) (fun_ext (λ q. sym (alike q)))

  children-new : IsLawfulGraph s.graph → is_live s.graph n ≡ true → (p : NodeId)
      → held_children s u p + (if u == t then (if same_mode (s.held t n) NL then count_by (same_node p) (parents_of s.graph n) else 0) else 0)
      ≡ held_children after u p
  children-new law live p = split (u == t)
      (λ e. ap (λ b. held_children s u p + (if b then (if same_mode (s.held t n) NL then count_by (same_node p) (parents_of s.graph n) else 0) else 0)) e
      ∙ split (same_mode (s.held t n) NL) (λ k. ap (λ b. held_children s u p + (if b then count_by (same_node p) (parents_of s.graph n) else 0)) k
      ∙ sym (children_up s.graph law (holding s) (holding after) n live (was e ∙ ap not k) (holding-new e) holding-node p))
      (λ k. ap (λ b. held_children s u p + (if b then count_by (same_node p) (parents_of s.graph n) else 0)) k
      ∙ children-same (λ q. split (same_node q n) (λ h. let is = same_node-equal q n h in ap (holding after) is ∙ holding-new e
      ∙ sym (ap (holding s) is ∙ was e ∙ ap not k)) (holding-node q)) p))
      (λ e. ap (λ b. held_children s u p + (if b then (if same_mode (s.held t n) NL then count_by (same_node p) (parents_of s.graph n) else 0) else 0)) e
      ∙ children-same (holding-slot e) p)
    where
      was : (u == t) ≡ true → holding s n ≡ not (same_mode (s.held t n) NL)
      was e = ap (holds (members s n)) (same_number u t e)

-- what a grant leaves of the counts: a node that was not held before is a child more of each of its parents
abbrev pub CountsGrant : (s : State) (ls ls' : List LockList) (t : ℕ) (n : NodeId) → Type 0
CountsGrant s ls ls' t n = (u : ℕ) (q : NodeId) → counted_by ls' u q
    ≡ counted_by ls u q + (if u == t then (if same_mode (s.held t n) NL then count_by (same_node q) (parents_of s.graph n) else 0) else 0)

pub grant-counts : (s : State) (ls ls' : List LockList) (t : ℕ) (n : NodeId) (m : Mode) → IsLawfulGraph s.graph → is_live s.graph n ≡ true → m ≢ NL
    → CountsGrant s ls ls' t n → (u : ℕ) → CountsHeld s ls u → CountsHeld (with_grant s t n m) ls' u
grant-counts s ls ls' t n m law live lock more u counts p = grind (arith, nat_tests, more u p, counts p, children-new s t n m lock u law live p)

-- the answer to a request that is granted at once
pub answer-granted : (enters : Bool) (a : Asked) (m w : Mode) → enters ≡ true → a ≡ (if enters then asked.Granted m else asked.Waiting) → a ≡ asked.Granted w
    → w ≡ m
answer-granted enters a m w now answer is = let e : asked.Granted w ≡ asked.Granted m = sym is ∙ answer
    ∙ ap (λ k. if k then asked.Granted m else asked.Waiting) now in cc

-- a request that was granted enters, and one that waits does not
pub answer-enters : (enters : Bool) (a : Asked) (m w : Mode) → a ≡ (if enters then asked.Granted m else asked.Waiting) → a ≡ asked.Granted w → enters ≡ true
answer-enters enters a m w h1 h2 = grind (arith, nat_tests)

pub answer-waits : (enters : Bool) (a : Asked) (m : Mode) → a ≡ (if enters then asked.Granted m else asked.Waiting) → a ≡ asked.Waiting → enters ≡ false
answer-waits enters a m h1 h2 = grind (arith, nat_tests)

-- what a request for m leaves, granted as w
pub record IsGranted (g : View) (l l' : Ledger) (t : ℕ) (n : NodeId) (m w : Mode) : Type 0 where
  pub sound : AreSound l'
  pub mode : w ≡ wanted (state_in g l) t n m
  pub state : state_in g l' ≡ granted (state_in g l) t n m
  pub agree : (u : ℕ) → Agrees (state_in g l') l'.lists.items u
  pub count : (u : ℕ) → CountsHeld (state_in g l') l'.lists.items u

-- room was made, the headers were called, and the list was written
module _ {g : View} {l r : Ledger} (l' : Ledger) {t : ℕ} {n : NodeId} {m : Mode} {old : Bool} (ready : IsReady g l r t n m old true) (a : Asked)
    (w : Mode) where
  abbrev want : Mode
  want = supremum (held_of r.headers.entries t n) m

  abbrev enters_now : Bool
  enters_now = enters slot_limit (members_at r.headers.entries n) (queue_of r.headers.entries n) t want

  pub is_granted : IsLawfulGraph (graph_of g) → is_live (graph_of g) n ≡ true → m ≢ NL → a ≡ (if enters_now then asked.Granted want else asked.Waiting)
      → a ≡ asked.Granted w
      → (enters_now ≡ true → (held_of l'.headers.entries ≡ with_members (held_of r.headers.entries) n (with_mode (members_at r.headers.entries n) t want))
      × (queue_of l'.headers.entries ≡ queue_of r.headers.entries))
      → l'.txn_entries ≡ r.txn_entries → HasNode r.lists.items l'.lists.items t n w → CountsGrant (state_in g r) r.lists.items l'.lists.items t n
      → IsGranted g l l' t n m w
  is_granted law live lock answer is changed txn_entries has counts = record {
    sound = record {
      few = subst (λ (k : ℕ). k ≤ most_slots) (ap (λ x. length x.items) (sym txn_entries)) ready.may.exact.sound.few;
      lists = has.len ∙ ready.may.exact.sound.lists ∙ ap (λ x. length x.items) (sym txn_entries);
    };
    mode = mode ∙ ap (λ s. wanted s t n m) ready.same;
    state = state ∙ ap₂ (λ s x. with_grant s t n x) ready.same (mode ∙ ap (λ s. wanted s t n m) ready.same);
    agree = λ u. subst (λ s. Agrees s l'.lists.items u) (sym state)
        (grant-agrees (state_in g r) r.lists.items l'.lists.items t n w locks ready.may.active has u (ready.may.exact.agree u));
    count = λ u. subst (λ s. CountsHeld s l'.lists.items u) (sym state)
        (grant-counts (state_in g r) r.lists.items l'.lists.items t n w law live locks counts u (ready.may.exact.count u));
  }
    where
      mode : w ≡ want
      mode = answer-granted enters_now a want w ready.enters answer is

      locks : w ≢ NL
      locks e = clash (ap (λ x. same_mode x NL) (sym mode ∙ e)) (supremum-not_NL (held_of r.headers.entries t n) m (not_NL m lock))

      state : state_in g l' ≡ with_grant (state_in g r) t n w
      state = λ i. record (state_in g (record r { txn_entries = txn_entries i })) {
        held = ((changed ready.enters).0 ∙ with_members-grant (held_of r.headers.entries) t n want
            ∙ ap (λ x. (with_grant (state_in g r) t n x).held) (sym mode)) i;
        queue = (changed ready.enters).1 i;
      }

-- A node that nobody holds or waits for becomes held by one slot.

module _ (g : View) (l : Ledger) (t : ℕ) (n : NodeId) (m : Mode) (may : MayAct g l t) (fresh : IsFresh (state_in g l) n)
    (room : HasRoomAt l.lists.items t) where
  abbrev wanted_new : Mode
  wanted_new = supremum (held_of l.headers.entries t n) m

  -- a request for the node would be granted at once
  ready : IsReady g l l t n m false true
  ready = record {
    may = may;
    same = refl;
    room = λ e. room;
    enters = (λ i. enters slot_limit (λ u. fresh.unheld u i) (fresh.unawaited i) t wanted_new) ∙ nobody-enters slot_limit t wanted_new;
    is_held = ap (λ x. not (same_mode x NL)) (fresh.unheld t);
  }

  -- its header was put in, and the slot's list was written
  pub is_placed : IsLawfulGraph (graph_of g) → m ≢ NL → (h : HeaderState) → IsOneHolder h t m → wanted_new ≡ m → (l' : Ledger)
      → held_of l'.headers.entries ≡ with_members (held_of l.headers.entries) n (members_of h)
      → queue_of l'.headers.entries ≡ with_waiters (queue_of l.headers.entries) n h.queue → l'.txn_entries ≡ l.txn_entries
      → HasNode l.lists.items l'.lists.items t n m → CountsGrant (state_in g l) l.lists.items l'.lists.items t n → IsGranted g l l' t n m m
  is_placed law lock h one want_is l' held queue txn_entries has counts =
      is_granted l' ready (asked.Granted m) m law fresh.live lock
      (ap asked.Granted (sym want_is) ∙ sym (ap (λ b. if b then asked.Granted wanted_new else asked.Waiting) ready.enters)) refl (λ enters. (
        held ∙ ap (with_members (held_of l.headers.entries) n) (one.members ∙ (λ i. with_mode (λ u. sym (fresh.unheld u) i) t (sym want_is i))),
        queue ∙ ap (with_waiters (queue_of l.headers.entries) n) one.queue ∙ with_waiters-same (queue_of l.headers.entries) n [] (sym fresh.unawaited),
      )) txn_entries has counts

-- A node with a header is held or waited for, and so lives: of each key at most one node has a header. For requests and new records.

-- a queue that is not empty has a waiter
first_waiter : (ws : List Waiter) → is_empty ws ≡ false → (t : ℕ) × (is_among_waiters t ws ≡ true)
first_waiter [] e = clash refl e
first_waiter (w ∷ ws) e = (w.0, or_left (w.0 == w.0) (list_any (is_waiter w.0) ws) (number_same w.0 w.0 refl))

module _ {g : Graph} (l : Ledger) (all : AreHeaders l.headers.entries) (orderly : IsOrderly (state_on g l)) (law : IsLawfulGraph g) where
  abbrev hs : Entries
  hs = l.headers.entries

  header_lives : (q : NodeId) (h : HeaderState) → header_at hs q ≡ Some h → is_live g q ≡ true
  header_lives q h has = ⊎_elim (λ t. orderly.holders_live t.0 q (ap (λ o. holds (members_of (header_or_new o)) t.0) has ∙ t.1))
      (λ some. let w = first_waiter h.queue some in orderly.waiters_live w.0 q (ap (λ o. is_among_waiters w.0 (header_or_new o).queue) has ∙ w.1))
      (unused-false h (all.used q h has))

  -- a node that lives has its key alone
  pub its_key : (n : NodeId) → is_live g n ≡ true → HasItsKey hs n
  its_key n live = record {
    others = λ q other same. cases_of (header_at hs q) (λ none. none)
        (λ h has. clash (same_node-from_equal q n (law.keys_differ q n (header_lives q h has) live same)) other);
  }

  -- and if nobody holds or waits for it, the key is free
  pub free_key : (n : NodeId) → IsFresh (state_on g l) n → IsFreeKey hs n.key
  free_key n fresh = record {
    none = λ q same. cases_of (header_at hs q) (λ none. none)
        (λ h has. let here = ap (header_at hs) (sym (law.keys_differ q n (header_lives q h has) fresh.live same)) ∙ has in
        ⊎_elim (λ t. clash t.1 (ap (λ m. not (same_mode m NL)) (ap (λ o. members_of (header_or_new o) t.0) (sym here) ∙ fresh.unheld t.0)))
        (λ some. clash (ap is_empty (ap (λ o. (header_or_new o).queue) (sym here) ∙ fresh.unawaited)) some) (unused-false h (all.used n h here)));
  }
