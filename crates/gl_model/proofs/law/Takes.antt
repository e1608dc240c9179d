-- Removed grants and waits, a wait that begins, and the empty state: the law is kept. For releases, locks and new tables.
use Rattle.gl_model.proofs.Words.{◌&&◌, ◌<◌, ◌==◌, [], ◌^◌, ◌||◌, ◌∙◌, ◌∷◌, ◌≡◌, ◌≢◌, ◌≤◌, ◌⊎◌, ⊎_elim, Active, age_in, age_of, and_both, ap, ap₂, arith}
use Rattle.gl_model.proofs.Words.{begun_at, Bool, choosing, clash, Condemned, condemned, Detect, empty_state, enqueued, enters, false, filter, front, holds}
use Rattle.gl_model.proofs.Words.{if◌then◌else◌, inl, inr, intends, is_ahead, is_among_waiters, is_at_least, is_child, is_live, is_some, is_wait, is_waiter}
use Rattle.gl_model.proofs.Words.{is_waiting_at, IsLawful, members, Mode, ModeFitsKind, nat_tests, NL, no, NodeId, None, none_some, not, number_other}
use Rattle.gl_model.proofs.Words.{number_same, Option, or_no, other_number, placed, pumped, refl, released, restatus, same_mode, same_node, same_node-equal}
use Rattle.gl_model.proofs.Words.{same_node-refl, same_number, Settled, SettledWithin, since_in, since_of, Some, split, State, Status, status_in, status_of}
use Rattle.gl_model.proofs.Words.{stripped, subst, suc, sym, true, Txn, Victims, Waiting, waits_at, without_wait, without_waiter, zero, ℕ}
use Rattle.gl_model.specs.State.{with_limits}
use Rattle.gl_model.proofs.law.Keeps.{age_none, apart, IsLess, less-lawful, nl_holds, nl_is, pumped-lawful, waiting_is}
use Rattle.gl_model.proofs.queues.Edits.{among_same, HoldersFirst, out_of_without, placed_front, placed_order, placed_other, placed_self, without_ahead}
use Rattle.gl_model.proofs.queues.Edits.{without_filter, without_none}
use Rattle.gl_model.proofs.queues.Waiters.{ahead_is, if-false, if-true}

-- What is removed: some grants of an active transaction, a wait, a whole transaction.

-- grants of one active transaction
module _ (s : State) (law : IsLawful s) (t : ℕ) (gone chosen : NodeId → Bool) (active : status_of s t ≡ Some Active)
    (free : (q p : NodeId) → gone q ≡ false → holds (members s q) t ≡ true → is_live s.graph q ≡ true → is_child s.graph p q ≡ true → gone p ≡ false)
    (all_chosen : (q : NodeId) → chosen q ≡ false → gone q ≡ false) where
  -- grants of t on some nodes are gone
  abbrev pub held_but : ℕ → NodeId → Mode
  held_but u q = if (u == t) && gone q then NL else s.held u q

  held_case : {C : Type 0} (u : ℕ) (q : NodeId) → (u ≡ t → gone q ≡ true → held_but u q ≡ NL → C) → (held_but u q ≡ s.held u q → C) → C
  held_case u q here there = grind (arith, nat_tests, same_number, and_both)

  held_other : (u : ℕ) (q : NodeId) → u ≢ t → held_but u q ≡ s.held u q
  held_other u q ne = held_case u q (λ e _ _. absurd (ne e)) (λ e. e)

  held_left : (u : ℕ) (q : NodeId) → gone q ≡ false → held_but u q ≡ s.held u q
  held_left u q off = held_case u q (λ _ g _. clash g off) (λ e. e)

  -- if it still holds, the node was left
  pub taken-less : IsLess s held_but s.queue s.txns chosen
  taken-less = record {
    kept = λ u q. held_case u q (λ _ _ e. inl e) (λ e. inr e);
    holders_live = λ u q h live. live;
    above = λ u q p h live child. split (u == t) (λ e. let is = same_number u t e in split (gone q)
        (λ g. clash h (nl_holds _ (ap₂ (λ a b. if a && b then NL else s.held u q) e g))) (λ g. let kept = held_left u q g in
        held_left u p (free q p g (ap (λ v. holds (members s q) v) (sym is) ∙ sym (ap (λ m. not (same_mode m NL)) kept) ∙ h) live child)))
        (λ e. held_other u p (other_number u t e));
    waits_same = λ u n m st.
        let ne : u ≢ t = λ is. apart (sym active ∙ ap (status_of s) (sym is) ∙ st) in
        (st, λ p. held_other u p ne, refl);
    waiters_same = λ u n h. (h, refl);
    order = λ n a b h. h;
    txns_same = λ u h. (h, refl, refl);
    fronts = λ n no. (refl, λ u. held_left u n (all_chosen n no));
  }

-- a wait, with the transaction or without
module _ (s : State) (law : IsLawful s) (t : ℕ) (held : ℕ → NodeId → Mode) (x : Option Txn) (chosen : NodeId → Bool)
    (others : (u : ℕ) (q : NodeId) → u ≢ t → held u q ≡ s.held u q)
    (own : ((q : NodeId) → held t q ≡ NL) ⊎ (((q : NodeId) → held t q ≡ s.held t q) × (is_some (s.txns t) ≡ true → is_some x ≡ true)))
    (quiet : (q : NodeId) (m : Mode) → status_in x ≡ Some (Waiting q m) → ⊥)
    (same : is_some x ≡ true → (is_some (s.txns t) ≡ true) × (age_in x ≡ age_of s t) × (since_in x ≡ since_of s t))
    (all_chosen : (q : NodeId) → chosen q ≡ false → (is_waiting_at s t q ≡ false) × (held t q ≡ s.held t q)) where
  abbrev txns_but : ℕ → Option Txn
  txns_but u = if u == t then x else s.txns u

  txn_case : {C : Type 0} (u : ℕ) → (u ≡ t → txns_but u ≡ x → C) → (u ≢ t → txns_but u ≡ s.txns u → C) → C
  txn_case u here there = split (u == t) (λ e. here (same_number u t e) (if-true _ e)) (λ e. there (other_number u t e) (if-false _ e))

  at_own : (u : ℕ) (q : NodeId) → u ≡ t → held t q ≡ s.held t q → held u q ≡ s.held u q
  at_own u q is e = ap (λ v. held v q) is ∙ e ∙ sym (ap (λ v. s.held v q) is)

  -- a wait is gone, and its transaction waits nowhere
  pub out-less : IsLess s held (λ n. without_waiter t (s.queue n)) txns_but chosen
  out-less = record {
    kept = λ u q. txn_case u (λ is _. ⊎_elim (λ f. inl (ap (λ v. held v q) is ∙ f q)) (λ f. inr (at_own u q is (f.0 q))) own) (λ ne _. inr (others u q ne));
    holders_live = λ u q h live. txn_case u
        (λ is e. ⊎_elim (λ f. clash h (nl_holds _ (ap (λ v. held v q) is ∙ f q))) (λ f. ap is_some e ∙ f.1 (ap (λ v. is_some (s.txns v)) (sym is) ∙ live)) own)
        (λ ne e. ap is_some e ∙ live);
    above = λ u q p h live child. txn_case u (λ is e. ⊎_elim (λ f. clash h (nl_holds _ (ap (λ v. held v q) is ∙ f q))) (λ f. at_own u p is (f.0 p)) own)
        (λ ne e. others u p ne);
    waits_same = λ u n m st. txn_case u (λ is e. absurd (quiet n m (ap status_in (sym e) ∙ st)))
        (λ ne e. (ap status_in (sym e) ∙ st, λ p. others u p ne, without_filter t u (s.queue n) ne));
    waiters_same = λ u n h. let was = out_of_without t u (s.queue n) h in (was.0, txn_case u (λ is e. absurd (was.1 is)) (λ ne e. ap status_in e));
    order = λ n a b h. ahead_is (s.queue n) a b ∙ without_ahead t a b (s.queue n) (sym (ahead_is (without_waiter t (s.queue n)) a b) ∙ h);
    txns_same = λ u h. txn_case u
        (λ is e. let was = same (ap is_some (sym e) ∙ h) in (
          ap (λ v. is_some (s.txns v)) is ∙ was.0,
          ap age_in e ∙ was.1 ∙ ap (age_of s) (sym is),
          ap since_in e ∙ was.2 ∙ ap (since_of s) (sym is),
        ))
        (λ ne e. (ap is_some (sym e) ∙ h, ap age_in e, ap since_in e));
    fronts = λ n no. let was = all_chosen n no in (
      without_none t (s.queue n) (split (is_among_waiters t (s.queue n)) (λ h. clash (law.waits_are t n h) was.0) (λ h. h)),
      λ u. txn_case u (λ is _. at_own u n is was.1) (λ ne _. others u n ne),
    );
  }

-- a status without a wait
abbrev pub IsQuiet : Status → Type 0
IsQuiet st = (q : NodeId) (m : Mode) → Some st ≡ Some (Waiting q m) → ⊥

-- a transaction whose wait ended waits no more
pub restatus_quiet : (st : Status) → IsQuiet st → (x : Option Txn) (q : NodeId) (m : Mode) → status_in (restatus st x) ≡ Some (Waiting q m) → ⊥
restatus_quiet st quiet x q m h = grind (arith, nat_tests, x, quiet q m)

-- and has its new status
pub restatus_is : (st was : Status) (x : Option Txn) → status_in x ≡ Some was → status_in (restatus st x) ≡ Some st
restatus_is st was x h = grind (arith, nat_tests, x)

pub restatus_some : (st : Status) (x : Option Txn) → is_some (restatus st x) ≡ is_some x
restatus_some st x = grind (arith, nat_tests, x)

pub restatus_age : (st : Status) (x : Option Txn) → age_in (restatus st x) ≡ age_in x
restatus_age st x = grind (arith, nat_tests, x)

pub restatus_since : (st : Status) (x : Option Txn) → since_in (restatus st x) ≡ since_in x
restatus_since st x = grind (arith, nat_tests, x)

pub without_wait-less : (s : State) → IsLawful s → (t : ℕ) (st : Status) → IsQuiet st
    → IsLess s s.held (λ n. without_waiter t (s.queue n)) (λ u. if u == t then restatus st (s.txns t) else s.txns u) (is_waiting_at s t)
without_wait-less s law t st quiet =
    out-less s law t s.held (restatus st (s.txns t)) (is_waiting_at s t) (λ u q ne. refl) (inr (λ q. refl, λ h. restatus_some st (s.txns t) ∙ h))
    (restatus_quiet st quiet (s.txns t)) (λ h. (sym (restatus_some st (s.txns t)) ∙ h, restatus_age st (s.txns t), restatus_since st (s.txns t)))
    (λ q no. (no, refl))

-- a wait that ends, by its transaction or by the manager
pub without_wait-lawful : (s : State) → IsLawful s → (t : ℕ) (st : Status) → IsQuiet st → IsLawful (pumped (without_wait s t st) (is_waiting_at s t))
without_wait-lawful s law t st quiet =
    pumped-lawful (without_wait s t st) (is_waiting_at s t)
    (less-lawful s law s.held (λ n. without_waiter t (s.queue n)) (λ u. if u == t then restatus st (s.txns t) else s.txns u) (is_waiting_at s t)
    (without_wait-less s law t st quiet))

-- a wait removed and its node pumped
pub condemned-lawful : (s : State) → IsLawful s → (t : ℕ) → IsLawful (condemned s t)
condemned-lawful s law t = without_wait-lawful s law t Condemned (λ q m h. cc)

-- turn by turn
pub settled_within-lawful : (c : Victims) (k : ℕ) (s s' : State) (t : ℕ) → IsLawful s → SettledWithin c k s t s' → IsLawful s'
settled_within-lawful c zero s s' t law h = subst IsLawful (sym h.1) law
settled_within-lawful c (suc k) s s' t law h = settled_within-lawful c k (condemned s h.0) s' t (condemned-lawful s law h.0) h.2

pub settled-lawful : (c : Victims) (s s' : State) (t : ℕ) → IsLawful s → Settled c s t s' → IsLawful s'
settled-lawful c s s' t law h = settled_within-lawful c h.0 s s' t law h.1

-- the node is held or awaited by t
abbrev pub at_all : State → ℕ → NodeId → Bool
at_all s t n = holds (members s n) t || is_waiting_at s t n

-- all of t is gone
pub released-less : (s : State) → IsLawful s → (t : ℕ)
    → IsLess s (λ u n. if u == t then NL else s.held u n) (λ n. without_waiter t (s.queue n)) (λ u. if u == t then None else s.txns u) (at_all s t)
released-less s law t =
    out-less s law t (λ u n. if u == t then NL else s.held u n) None (at_all s t)
    (λ u q ne. ap (λ b. if b then NL else s.held u q) (number_other u t ne)) (inl own) (λ q m h. cc) (λ h. clash h refl)
    (λ q no. let both = or_no _ _ no in (both.1, own q ∙ sym (nl_is (s.held t q) both.0)))
  where
    own : (q : NodeId) → (if t == t then NL else s.held t q) ≡ NL
    own q = if-true _ (number_same t t refl)

-- a transaction that leaves
pub released-lawful : (s : State) → IsLawful s → (t : ℕ) → IsLawful (released s t)
released-lawful s law t =
    pumped-lawful (stripped s t) (at_all s t)
    (less-lawful s law (λ u n. if u == t then NL else s.held u n) (λ n. without_waiter t (s.queue n)) (λ u. if u == t then None else s.txns u) (at_all s t)
    (released-less s law t))

-- A lock that waits keeps the law, and so does a transaction that begins.

same_wait : (n q : NodeId) (m w : Mode) → Some (Waiting n m) ≡ Some (Waiting q w) → (n ≡ q) × (m ≡ w)
same_wait n q m w h = let e : n ≡ q = cc in let f : m ≡ w = cc in (e, f)

module _ (s : State) (law : IsLawful s) (t : ℕ) (n : NodeId) (m : Mode) (active : status_of s t ≡ Some Active) (live : is_live s.graph n ≡ true)
    (kind : ModeFitsKind s n m) (rule : intends s t n m ≡ true) (wants : m ≢ NL) (more : is_at_least m (s.held t n) ≡ true)
    (out : enters s.most (members s n) (s.queue n) t m ≡ false) where
  abbrev after : State
  after = enqueued s t n m

  queue_case : {C : Type 0} (q : NodeId) → (q ≡ n → after.queue q ≡ placed (members s n) (s.queue n) t m → C) → (after.queue q ≡ s.queue q → C) → C
  queue_case q here there = grind (arith, nat_tests, same_node q n, same_node-equal)

  at_node : after.queue n ≡ placed (members s n) (s.queue n) t m
  at_node = if-true _ (same_node-refl n)

  slot_case : {C : Type 0} (u : ℕ) → (u ≡ t → after.txns u ≡ restatus (Waiting n m) (s.txns t) → C) → (u ≢ t → after.txns u ≡ s.txns u → C) → C
  slot_case u here there = grind (arith, nat_tests, same_number)

  status_case : {C : Type 0} (u : ℕ) → (u ≡ t → status_of after u ≡ Some (Waiting n m) → C) → (u ≢ t → status_of after u ≡ status_of s u → C) → C
  status_case u here there = slot_case u (λ is e. here is (ap status_in e ∙ restatus_is (Waiting n m) Active (s.txns t) active))
      (λ ne e. there ne (ap status_in e))

  some_same : (u : ℕ) → is_some (after.txns u) ≡ is_some (s.txns u)
  some_same u = slot_case u (λ is e. ap is_some e ∙ restatus_some _ (s.txns t) ∙ ap (λ v. is_some (s.txns v)) (sym is)) (λ ne e. ap is_some e)

  age_same : (u : ℕ) → age_of after u ≡ age_of s u
  age_same u = slot_case u (λ is e. ap age_in e ∙ restatus_age _ (s.txns t) ∙ ap (age_of s) (sym is)) (λ ne e. ap age_in e)

  since_same : (u : ℕ) → since_of after u ≡ since_of s u
  since_same u = slot_case u (λ is e. ap since_in e ∙ restatus_since _ (s.txns t) ∙ ap (since_of s) (sym is)) (λ ne e. ap since_in e)

  not_waiting : (q : NodeId) → is_among_waiters t (s.queue q) ≡ false
  not_waiting q = split (is_among_waiters t (s.queue q)) (λ h. let st = waiting_is (status_of s t) q (law.waits_are t q h) in
      absurd (apart (sym active ∙ st.1))) (λ h. h)

  sorted : HoldersFirst (members s n) (s.queue n)
  sorted a b ha h = law.holders_first a b n ha (ahead_is (s.queue n) a b ∙ h)

  wanted_at : (u : ℕ) (q : NodeId) (w : Mode) → u ≡ t → n ≡ q → m ≡ w → (intends s u q w ≡ true) × (w ≢ NL) × (is_at_least w (s.held u q) ≡ true)
      × ModeFitsKind s q w
  wanted_at u q w is en em = (
    ap (λ v. intends s v q w) is ∙ ap (λ p. intends s t p w) (sym en) ∙ ap (intends s t n) (sym em) ∙ rule,
    subst (λ x. x ≢ NL) em wants,
    ap (λ v. is_at_least w (s.held v q)) is ∙ ap (λ p. is_at_least w (s.held t p)) (sym en) ∙ ap (λ x. is_at_least x (s.held t n)) (sym em) ∙ more,
    subst (λ p. ModeFitsKind s p w) en (subst (ModeFitsKind s n) em kind),
  )

  -- the queue's front stays empty, as what is placed does not fit
  pub enqueued-lawful : IsLawful (enqueued s t n m)
  enqueued-lawful = record {
    graph = law.graph;
    grants_live = λ u q h. let old = law.grants_live u q h in (some_same u ∙ old.0, old.1, old.2);
    waits_live = λ u q h. queue_case q (λ is e. ap (is_live s.graph) is ∙ live) (λ e. law.waits_live u q (ap (is_among_waiters u) (sym e) ∙ h));
    compatible = law.compatible;
    grants_intend = law.grants_intend;
    waits_intend = λ u q w st. status_case u (λ is e. let both = same_wait n q m w (sym e ∙ st) in wanted_at u q w is both.0 both.1)
        (λ ne e. law.waits_intend u q w (sym e ∙ st));
    one_wait = λ u q w st. status_case u (λ is e. let both = same_wait n q m w (sym e ∙ st) in
        ap₂ (λ v p. filter (is_waiter v) (after.queue p)) is (sym both.0) ∙ ap (filter (is_waiter t)) at_node
        ∙ placed_self (members s n) (s.queue n) t m (not_waiting n) ∙ ap₂ (λ v x. (v, x) ∷ []) (sym is) both.1)
        (λ ne e. let old = law.one_wait u q w (sym e ∙ st) in queue_case q
        (λ at f. ap (filter (is_waiter u)) f ∙ placed_other (members s n) (s.queue n) t u m ne ∙ ap (λ p. filter (is_waiter u) (s.queue p)) (sym at) ∙ old)
        (λ f. ap (filter (is_waiter u)) f ∙ old));
    waits_are = λ u q h. queue_case q (λ at f. status_case u (λ is e. ap (λ o. waits_at o q) e ∙ ap (same_node n) at ∙ same_node-refl n)
        (λ ne e. ap (λ o. waits_at o q) e ∙ ap (λ p. is_waiting_at s u p) at
        ∙ law.waits_are u n (among_same u (placed (members s n) (s.queue n) t m) (s.queue n) (placed_other (members s n) (s.queue n) t u m ne)
        (ap (is_among_waiters u) (sym f) ∙ h)))) (λ f. let among = ap (is_among_waiters u) (sym f) ∙ h in
        status_case u (λ is e. clash (ap (λ v. is_among_waiters v (s.queue q)) (sym is) ∙ among) (not_waiting q)) (λ ne e. ap (λ o. waits_at o q) e
        ∙ law.waits_are u q among));
    holders_first = λ a b q ha h. queue_case q
        (λ at f. ap (λ p. holds (members s p) b) at ∙ placed_order (members s n) (s.queue n) t m sorted a b (ap (λ p. holds (members s p) a) (sym at) ∙ ha)
        (sym (ahead_is (placed (members s n) (s.queue n) t m) a b) ∙ ap (λ l. is_ahead l a b) (sym f) ∙ h))
        (λ f. law.holders_first a b q ha (ap (λ l. is_ahead l a b) (sym f) ∙ h));
    front_waits = λ q. queue_case q
        (λ at f. ap₂ (λ p l. front s.most (members s p) l) at f ∙ placed_front s.most (members s n) (s.queue n) t m sorted (law.front_waits n) out)
        (λ f. ap (front s.most (members s q)) f ∙ law.front_waits q);
    slots_below = λ u h. law.slots_below u (sym (some_same u) ∙ h);
    ages = λ u h. let old = law.ages u (sym (some_same u) ∙ h) in
        (subst (λ a. 1 ≤ a) (sym (age_same u)) old.0, subst (λ a. a ≤ s.begins) (sym (age_same u)) old.1);
    ages_differ = λ u v h e. law.ages_differ u v (sym (some_same u) ∙ h) (sym (age_same u) ∙ e ∙ age_same v);
    known = λ u h. let old = law.known u (sym (some_same u) ∙ h) in let a = age_same u in let b = since_same u in omega (arith, old, a, b);
  }

-- nobody waits in a free slot
pub free_quiet : (s : State) (t : ℕ) → is_some (s.txns t) ≡ false → is_wait (status_of s t) ≡ false
free_quiet s t free = by (s.txns t) free
  where
    by : (o : Option Txn) → is_some o ≡ false → is_wait (status_in o) ≡ false
    by None h = refl
    by (Some x) h = cc

-- A transaction begins in a slot in which nobody waits: in a free one, or in its own.

module _ (s : State) (law : IsLawful s) (t : ℕ) (quiet : is_wait (status_of s t) ≡ false) (below : t < s.most) (age since : ℕ)
    (later : s.begins < age) (low : since ≤ age) where
  abbrev newcomer : Option Txn
  newcomer = Some (record { age = age; since = since; status = Active })

  begun_case : {C : Type 0} (u : ℕ) → (u ≡ t → (begun_at s t age since).txns u ≡ newcomer → C) → (u ≢ t → (begun_at s t age since).txns u ≡ s.txns u → C) → C
  begun_case u here there = split (u == t) (λ e. here (same_number u t e) (if-true _ e)) (λ e. there (other_number u t e) (if-false _ e))

  age_low : (u : ℕ) → age_of s u ≤ s.begins
  age_low u = split (is_some (s.txns u)) (λ h. (law.ages u h).1) (λ h. let none : age_of s u ≡ 0 = age_none (s.txns u) h in omega arith)

  -- the new age is above all others
  pub begun-lawful : IsLawful (begun_at s t age since)
  begun-lawful = record {
    graph = law.graph;
    grants_live = λ u q h. let old = law.grants_live u q h in (begun_case u (λ is e. ap is_some e) (λ ne e. ap is_some e ∙ old.0), old.1, old.2);
    waits_live = law.waits_live;
    compatible = law.compatible;
    grants_intend = law.grants_intend;
    waits_intend = λ u q w st. begun_case u (λ is e. absurd (apart (ap status_in (sym e) ∙ st))) (λ ne e. law.waits_intend u q w (ap status_in (sym e) ∙ st));
    one_wait = λ u q w st. begun_case u (λ is e. absurd (apart (ap status_in (sym e) ∙ st))) (λ ne e. law.one_wait u q w (ap status_in (sym e) ∙ st));
    waits_are = λ u q h. let old = law.waits_are u q h in
        begun_case u (λ is e. clash (ap (λ v. is_wait (status_of s v)) (sym is) ∙ ap is_wait (waiting_is (status_of s u) q old).1) quiet)
        (λ ne e. ap (λ x. waits_at (status_in x) q) e ∙ old);
    holders_first = law.holders_first;
    front_waits = law.front_waits;
    slots_below = λ u h. begun_case u (λ is e. subst (λ v. v < s.most) (sym is) below) (λ ne e. law.slots_below u (ap is_some (sym e) ∙ h));
    ages = λ u h. begun_case u (λ is e. let is_age : age_of (begun_at s t age since) u ≡ age = ap age_in e in
        (subst (λ a. 1 ≤ a) (sym is_age) (omega (arith, later)), subst (λ a. a ≤ age) (sym is_age) (omega arith)))
        (λ ne e. let is_age : age_of (begun_at s t age since) u ≡ age_of s u = ap age_in e in let old = law.ages u (ap is_some (sym e) ∙ h) in
        let high = old.1 in (subst (λ a. 1 ≤ a) (sym is_age) old.0, subst (λ a. a ≤ age) (sym is_age) (omega (arith, high, later))));
    ages_differ = λ u v h e. begun_case u
        (λ is f. begun_case v (λ at k. is ∙ sym at) (λ ne k. let old = age_low v in let new : age ≡ age_of s v = ap age_in (sym f) ∙ e ∙ ap age_in k in
        absurd (omega (arith, later, old, new))))
        (λ ne f. begun_case v (λ at k. let old = age_low u in let new : age_of s u ≡ age = ap age_in (sym f) ∙ e ∙ ap age_in k in
        absurd (omega (arith, later, old, new)))
        (λ ne' k. law.ages_differ u v (ap is_some (sym f) ∙ h) (ap age_in (sym f) ∙ e ∙ ap age_in k)));
    known = λ u h. begun_case u (λ is e. let a : age_of (begun_at s t age since) u ≡ age = ap age_in e in
        let b : since_of (begun_at s t age since) u ≡ since = ap since_in e in omega (arith, low, a, b))
        (λ ne e. let a : age_of (begun_at s t age since) u ≡ age_of s u = ap age_in e in
        let b : since_of (begun_at s t age since) u ≡ since_of s u = ap since_in e in
        let old = law.known u (ap is_some (sym e) ∙ h) in omega (arith, old, a, b));
  }

-- The empty state meets the law, and nobody waits in it.

pub roomy-lawful : (d : Detect) (c : Victims) (most nodes bounds : ℕ) → nodes ≤ 2 ^ 31 → IsLawful (with_limits nodes bounds (choosing c (empty_state d most)))
roomy-lawful d c most nodes bounds low = record {
  graph = record {
    well_formed = λ n node e. absurd (none_some e);
    parents_live = λ n p h. absurd (no h);
    acyclic = λ n p route h. no h.0;
    keys_differ = λ m n h k e. absurd (no h);
    born = λ b h. absurd (no h);
    seven_indexes = λ f. omega arith;
    room = omega arith;
    limit = omega arith;
  };
  grants_live = λ t n h. absurd (no h);
  waits_live = λ t n h. absurd (no h);
  compatible = λ t u n ne. refl;
  grants_intend = λ t n h. absurd (no h);
  waits_intend = λ t n m e. absurd (none_some e);
  one_wait = λ t n m e. absurd (none_some e);
  waits_are = λ t n h. absurd (no h);
  holders_first = λ t u n h k. absurd (no h);
  front_waits = λ n. refl;
  slots_below = λ t h. absurd (no h);
  ages = λ t h. absurd (no h);
  ages_differ = λ t u h e. absurd (no h);
  known = λ t h. absurd (no h);
}

pub empty-lawful : (d : Detect) (c : Victims) (most : ℕ) → IsLawful (choosing c (empty_state d most))
empty-lawful d c most = roomy-lawful d c most 65536 256 (omega arith)
