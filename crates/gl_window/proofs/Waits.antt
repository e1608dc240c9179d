-- Changes that keep all waits, so that a snapshot of the waits before shows those after: grants to and releases of a transaction that is no party to a wait.
use Rattle.gl_window.proofs.Words.{◌&&◌, ◌+◌, ◌<◌, ◌==◌, [], ◌||◌, ◌∙◌, ◌∷◌, ◌≡◌, ◌≤◌, ◌⊎◌, ⊎_elim, accepted_once, Active, age_in, age_of, Answer, ap}
use Rattle.gl_window.proofs.Words.{are_compatible, AtBlock, begun_at, blocks, Board, Bool, clash, Condemned, Detect, enters_at, false, grants, Graph}
use Rattle.gl_window.proofs.Words.{has_none, has_slot, HasParties, holds, if◌then◌else◌, inl, is_empty, is_some, is_wait, is_waiting_at, IsLawful}
use Rattle.gl_window.proofs.Words.{lawful_orderly, length, List, members, Mode, NL, no, NobodyWaits, NodeId, None, none_some, not, not-true, number_same}
use Rattle.gl_window.proofs.Words.{Option, refl, same_node, ShowsWaits, Slots, Some, split, State, Status, status_in, status_of, subst, suc, sym, true}
use Rattle.gl_window.proofs.Words.{true≢false, Txn, unlocked, Waiting, waiting_is, waits_at, waits_for, wanted, with_grant, with_graph, zero, ℕ}
use Rattle.std.specs.Prelude.{drop}
use Rattle.std.specs.List.{filter}
use Rattle.std.proofs.Common.{ap₂, inr}
use Rattle.gl_modes.proofs.ModeLemmas.{NL-compatible}
use Rattle.gl_modes.proofs.NodeLemmas.{same_node-equal, same_node-refl}
use Rattle.gl_modes.proofs.Words.{and_both, or_elim, or_left, or_right, same_number, some_is}
use Rattle.gl_modes.specs.Modes.{same_mode}
use Rattle.gl_slots.proofs.SlotLemmas.{test-none}
use Rattle.gl_graph.specs.Graph.{is_live}
use Rattle.gl_header.specs.Header.{after_grants, fits, is_ahead, is_among_waiters, is_waiter, Waiter}
use Rattle.gl_waits.proofs.VictimLemmas.{candidate-on_cycle}
use Rattle.gl_waits.specs.Waits.{IsWalk}
use Rattle.gl_waits.specs.declared.victims.Victims.{Victims}
use Rattle.gl_model.proofs.law.Edges.{idle_no_step, is_step, step_is}
use Rattle.gl_model.proofs.law.Keeps.{nl_is}
use Rattle.gl_model.proofs.law.Takes.{restatus_is}
use Rattle.gl_model.proofs.queues.Waiters.{ahead_is, ahead_second, among_by_filter}
use Rattle.gl_model.proofs.telling.Fronts.{in_no_queue, waits_there}
use Rattle.gl_model.proofs.telling.Between.{granted_stands, without_wait_other, without_wait_own, woken_same, woken_up}
use Rattle.gl_model.specs.Calls.{enqueued, Locks, WaitSettles}
use Rattle.gl_model.specs.State.{awake, condemned, granted_at, pumped, restatus, SettledWithin, without_wait, woken}
use Rattle.gl_model.specs.declared.answers.Detect.TheVariants.{ByWatcher}
use Rattle.gl_steps.proofs.GraphChanges.{not_born}
use Rattle.gl_steps.specs.Step.{lock_answer}
use Rattle.gl_window.specs.Boards.{EndsWithWaits}

-- the waits of two states are the same, and so are the ages of each waiter and of the transaction for which it waits
pub record SameWaits (s s' : State) : Type 0 where
  pub waits : (t u : ℕ) → waits_for s' t u ≡ waits_for s t u
  pub ages : (t u : ℕ) → waits_for s t u ≡ true → (age_of s' t ≡ age_of s t) × (age_of s' u ≡ age_of s u)

pub same_trans : (s mid s' : State) → SameWaits s mid → SameWaits mid s' → SameWaits s s'
same_trans s mid s' a b = record {
  waits = λ t u. b.waits t u ∙ a.waits t u;
  ages = λ t u h. let x = a.ages t u h in let y = b.ages t u (a.waits t u ∙ h) in (y.0 ∙ x.0, y.1 ∙ x.1);
}

-- so a snapshot that shows the waits of one shows those of the other
shows_still : (s s' : State) → SameWaits s s' → (b : Board) → ShowsWaits s b → ShowsWaits s' b
shows_still s s' same b shows = record {
  waits = λ t u. shows.waits t u ∙ sym (same.waits t u);
  ages = λ t u h.
      let was : waits_for s t u ≡ true = sym (same.waits t u) ∙ h in
      let shown = shows.ages t u was in let ages = same.ages t u was in (shown.0 ∙ sym ages.0, shown.1 ∙ sym ages.1);
}

pub ends_still : (s s' : State) → SameWaits s s' → (list : List Board) → EndsWithWaits s list → EndsWithWaits s' list
ends_still s s' same list ends = (ends.0, ends.1, shows_still s s' same ends.0 ends.2)

-- a transaction that does not wait waits for nobody
idle_edge : (s : State) (t u : ℕ) → is_wait (status_of s t) ≡ false → waits_for s t u ≡ false
idle_edge s t u idle = idle_no_step s t (λ n m e. true≢false (sym (ap is_wait e) ∙ idle)) u

nobody_same : (s s' : State) → NobodyWaits s → NobodyWaits s' → SameWaits s s'
nobody_same s s' none after = record {
  waits = λ t u. idle_edge s' t u (after t) ∙ sym (idle_edge s t u (none t));
  ages = λ t u h. clash h (idle_edge s t u (none t));
}

-- a state with the same waits, whose parties are still in the set
pub record Spares (set : Slots) (s s' : State) : Type 0 where
  pub same : SameWaits s s'
  pub parties : HasParties s' set

pub spares_then : (set : Slots) (s mid s' : State) → Spares set s mid → Spares set mid s' → Spares set s s'
spares_then set s mid s' a b = record { same = same_trans s mid s' a.same b.same; parties = b.parties }

-- if nobody is a party to a wait, nobody waits
pub none_waits : (s : State) (set : Slots) → HasParties s set → has_none set ≡ true → NobodyWaits s
none_waits s set has none t = (has t (test-none set none t)).0

pub nobody_spared : (set : Slots) (s s' : State) → NobodyWaits s → NobodyWaits s' → Spares set s s'
nobody_spared set s s' none after = record {
  same = nobody_same s s' none after;
  parties = λ t out. (after t, λ u n at. clash (ap is_wait (waiting_is (status_of s' u) n at).1) (after u));
}

-- whom a slot waits for stays the same if its wait does, and the grants and the queue at its node
same_blocks : (s s' : State) (x y : ℕ) (o : Option Status)
    → ((q : NodeId) (w : Mode) → o ≡ Some (Waiting q w) → (s'.held y q ≡ s.held y q) × (s'.queue q ≡ s.queue q)) → blocks s' x y o ≡ blocks s x y o
same_blocks s s' x y None at = refl
same_blocks s s' x y (Some Active) at = refl
same_blocks s s' x y (Some Condemned) at = refl
same_blocks s s' x y (Some (Waiting q w)) at =
    let here = at q w refl in ap₂ (λ k l. not (are_compatible w k) || is_ahead l x y) here.0 here.1

same_edge : (s s' : State) (x y : ℕ) → status_of s' x ≡ status_of s x
    → ((q : NodeId) (w : Mode) → status_of s x ≡ Some (Waiting q w) → (s'.held y q ≡ s.held y q) × (s'.queue q ≡ s.queue q))
    → waits_for s' x y ≡ waits_for s x y
same_edge s s' x y st at = ap (λ b. not (x == y) && b) (ap (blocks s' x y) st ∙ same_blocks s s' x y (status_of s x) at)

-- Grants on nodes without waiters.

none_among : (x : ℕ) (q : List Waiter) → is_empty q ≡ true → is_among_waiters x q ≡ false
none_among x [] e = refl
none_among x (w ∷ q) e = absurd (no e)

and_no : (b : Bool) → (b && false) ≡ false
and_no true = refl
and_no false = refl

module _ (s : State) (law : IsLawful s) where
  -- a waiter waits on another node
  elsewhere : (x : ℕ) (q n : NodeId) (m : Mode) → status_of s x ≡ Some (Waiting q m) → is_empty (s.queue n) ≡ true → same_node q n ≡ false
  elsewhere x q n m st none =
      split (same_node q n)
      (λ e. clash
      (among_by_filter x (x, m) [] (s.queue n)
      (subst (λ p. filter (is_waiter x) (s.queue p) ≡ (x, m) ∷ []) (same_node-equal q n e) (law.one_wait x q m st)))
      (none_among x (s.queue n) none))
      (λ e. e)

  -- so the grants there stay
  held_there : (t : ℕ) (n : NodeId) (m : Mode) → is_empty (s.queue n) ≡ true → (x y : ℕ) (q : NodeId) (w : Mode) → status_of s x ≡ Some (Waiting q w)
      → (with_grant s t n m).held y q ≡ s.held y q
  held_there t n m none x y q w st =
      ap (λ b. if (y == t) && b then m else s.held y q) (elsewhere x q n w st none) ∙ ap (λ b. if b then m else s.held y q) (and_no (y == t))

  pub granted_spares : (set : Slots) (t : ℕ) (n : NodeId) (m : Mode) → HasParties s set → is_empty (s.queue n) ≡ true → Spares set s (with_grant s t n m)
  granted_spares set t n m has none = record {
    same = record {
      waits = λ x y. same_edge s (with_grant s t n m) x y refl (λ q w st. (held_there t n m none x y q w st, refl));
      ages = λ x y h. (refl, refl);
    };
    parties = λ v out. (
      (has v out).0,
      λ u q at.
          let w = waiting_is (status_of s u) q at in
          ap (λ k. not (same_mode k NL)) (held_there t n m none u v q w.0 w.1) ∙ (has v out).1 u q at,
    );
  }

  -- a transaction that is no party to a wait is granted only nodes without waiters, since it would queue after these
  pub enters_alone : (set : Slots) (t : ℕ) (n : NodeId) (m : Mode) → HasParties s set → has_slot set t ≡ false → enters_at s t n m ≡ true
      → is_empty (s.queue n) ≡ true
  enters_alone set t n m has out enters = by (s.queue n) (λ u h. law.waits_are u n h)
      (and_both (fits s.most (members s n) t (wanted s t n m)) (holds (members s n) t || is_empty (s.queue n)) enters).1
    where
      by : (q : List Waiter) → ((u : ℕ) → is_among_waiters u q ≡ true → is_waiting_at s u n ≡ true) → (holds (members s n) t || is_empty q) ≡ true
          → is_empty q ≡ true
      by [] at h = refl
      by (w ∷ q) at h =
          or_elim (holds (members s n) t) false h
          (λ holder. clash holder ((has t out).1 w.0 n (at w.0 (or_left _ _ (number_same w.0 w.0 refl)))))
          (λ e. e)

  -- nobody waits for a node that was not born
  pub unborn : (n : NodeId) → s.graph.births < n.birth → is_empty (s.queue n) ≡ true
  unborn n later = by (s.queue n) (λ u h. law.waits_live u n h)
    where
      by : (q : List Waiter) → ((u : ℕ) → is_among_waiters u q ≡ true → is_live s.graph n ≡ true) → is_empty q ≡ true
      by [] live = refl
      by (w ∷ q) live = absurd (not_born s.graph law.graph n later (live w.0 (or_left _ _ (number_same w.0 w.0 refl))))

-- a change of the graph and of the count of commands changes no wait
pub regraphed : (set : Slots) (s z : State) (g : Graph) → Spares set s z → Spares set s (with_graph z g)
regraphed set s z g spares = record { same = record { waits = spares.same.waits; ages = spares.same.ages }; parties = spares.parties }

pub counted : (set : Slots) (s z : State) → Spares set s z → Spares set s (accepted_once z)
counted set s z spares = record { same = record { waits = spares.same.waits; ages = spares.same.ages }; parties = spares.parties }

pub spared_itself : (set : Slots) (s : State) → HasParties s set → Spares set s s
spared_itself set s has = record { same = record { waits = λ t u. refl; ages = λ t u h. (refl, refl) }; parties = has }

-- A transaction begins.

nobody_there : (x : Option Txn) → is_some x ≡ false → is_wait (status_in x) ≡ false
nobody_there None e = refl
nobody_there (Some x) e = absurd (true≢false e)

-- in a free slot nobody waits, and nobody holds anything
pub free_idle : (s : State) (t : ℕ) → is_some (s.txns t) ≡ false → is_wait (status_of s t) ≡ false
free_idle s t gone = nobody_there (s.txns t) gone

pub free_holds : (s : State) (law : IsLawful s) (t : ℕ) → is_some (s.txns t) ≡ false → (n : NodeId) → holds (members s n) t ≡ false
free_holds s law t gone n = split (holds (members s n) t) (λ holder. clash (law.grants_live t n holder).0 gone) (λ k. k)

-- nobody waits for a transaction that waits for nothing, and holds no node for which somebody waits
pub unawaited : (s : State) (law : IsLawful s) (t : ℕ) → is_wait (status_of s t) ≡ false
    → ((u : ℕ) (n : NodeId) → is_waiting_at s u n ≡ true → holds (members s n) t ≡ false)
    → (x : ℕ) → waits_for s x t ≡ false
unawaited s law t idle apart x =
    split (waits_for s x t)
    (λ h.
    let st = step_is s x t h in let n = st.0 in let m = st.1 in
    let at : is_waiting_at s x n ≡ true = ap (λ o. waits_at o n) st.2.waits ∙ same_node-refl n in
    or_elim _ _ st.2.blocked
    (λ k. clash (ap (are_compatible m) (nl_is (s.held t n) (apart x n at)) ∙ NL-compatible m) (not-true _ k))
    (λ k. clash (ahead_second (s.queue n) x t (sym (ahead_is (s.queue n) x t) ∙ k)) (in_no_queue s (lawful_orderly s law) t idle n)))
    (λ e. e)

-- in a slot that waits for nothing, and holds no node for which somebody waits
module _ (set : Slots) (s : State) (law : IsLawful s) (has : HasParties s set) (t age since : ℕ) (idle_there : is_wait (status_of s t) ≡ false)
    (apart : (u : ℕ) (n : NodeId) → is_waiting_at s u n ≡ true → holds (members s n) t ≡ false) where
  abbrev next : State
  next = begun_at s t age since

  abbrev new : Option Txn
  new = Some (record { age = age; since = since; status = Active })

  not_there : (x : ℕ) → (x == t) ≡ true → is_wait (status_of s x) ≡ false
  not_there x e = ap (λ u. is_wait (status_of s u)) (same_number x t e) ∙ idle_there

  begun_idle : (v : ℕ) → has_slot set v ≡ false → is_wait (status_of next v) ≡ false
  begun_idle v out =
      split (v == t) (λ e. ap (λ b. is_wait (status_in (if b then new else s.txns v))) e)
      (λ e. ap (λ b. is_wait (status_in (if b then new else s.txns v))) e ∙ (has v out).0)

  waited : (u : ℕ) (n : NodeId) → is_waiting_at next u n ≡ true → is_waiting_at s u n ≡ true
  waited u n at =
      split (u == t) (λ e. clash at (ap (λ b. waits_at (status_in (if b then new else s.txns u)) n) e))
      (λ e. sym (ap (λ b. waits_at (status_in (if b then new else s.txns u)) n) e) ∙ at)

  begun_age : (x : ℕ) → (x == t) ≡ false → age_of next x ≡ age_of s x
  begun_age x e = ap (λ b. age_in (if b then new else s.txns x)) e

  begun_same : SameWaits s next
  begun_same = record {
    waits = λ x y. split (x == t)
        (λ e. idle_edge next x y (ap (λ b. is_wait (status_in (if b then new else s.txns x))) e) ∙ sym (idle_edge s x y (not_there x e)))
        (λ e. same_edge s next x y (ap (λ b. status_in (if b then new else s.txns x)) e) (λ q w st. (refl, refl)));
    ages = λ x y h. (
      begun_age x (split (x == t) (λ e. clash h (idle_edge s x y (not_there x e))) (λ e. e)),
      begun_age y (split (y == t) (λ e. clash h (ap (waits_for s x) (same_number y t e) ∙ unawaited s law t idle_there apart x)) (λ e. e)),
    );
  }

  pub begun_spares : Spares set s (begun_at s t age since)
  begun_spares = record {
    same = begun_same;
    parties = λ v out. (
      begun_idle v out,
      λ u n at. split (v == t)
          (λ e. ap (holds (members s n)) (same_number v t e) ∙ apart u n (waited u n at))
          (λ e. (has v out).1 u n (waited u n at)),
    );
  }

-- Releases of a transaction that is no party to a wait, by which nobody is granted.

-- a state after releases of t, which may grant: a waiter there waits on
pub record Releases (s : State) (t : ℕ) (b : State) (chosen : NodeId → Bool) : Type 0 where
  pub others : (u : ℕ) (q : NodeId) → (u == t) ≡ false → b.held u q ≡ s.held u q
  pub own : (q : NodeId) → (b.held t q ≡ NL) ⊎ (b.held t q ≡ s.held t q)
  pub queues : (q : NodeId) → b.queue q ≡ s.queue q
  pub txns : (u : ℕ) → (u == t) ≡ false → b.txns u ≡ s.txns u
  pub own_idle : is_wait (status_of b t) ≡ false
  pub still : (u : ℕ) (q : NodeId) → is_waiting_at s u q ≡ true → is_waiting_at (pumped b chosen) u q ≡ true

empty_of : (ws : List Waiter) → ((u : ℕ) → is_among_waiters u ws ≡ false) → ws ≡ []
empty_of [] h = refl
empty_of (w ∷ ws) h = clash (or_left _ _ (number_same w.0 w.0 refl)) (h w.0)

module _ (set : Slots) (s : State) (law : IsLawful s) (has : HasParties s set) (t : ℕ) (out : has_slot set t ≡ false) (b : State) (chosen : NodeId → Bool)
    (r : Releases s t b chosen) where
  idle : is_wait (status_of s t) ≡ false
  idle = (has t out).0

  free : (x : ℕ) → waits_for s x t ≡ false
  free x = unawaited s law t idle (has t out).1 x

  abbrev after : State
  after = pumped b chosen

  no_grant : (u : ℕ) (q : NodeId) → is_among_waiters u (granted_at b chosen q) ≡ false
  no_grant u q =
      split (is_among_waiters u (granted_at b chosen q))
      (λ h.
      let stands : is_among_waiters u (s.queue q) ≡ true = sym (ap (is_among_waiters u) (r.queues q)) ∙ granted_stands b chosen u q h in
      let w = waits_there s (lawful_orderly s law) u q stands in
      let apart : (u == t) ≡ false =
      split (u == t) (λ e. clash (ap is_wait w.1) (ap (λ v. is_wait (status_of s v)) (same_number u t e) ∙ idle)) (λ e. e) in
      let now : status_of (pumped b chosen) u ≡ Some Active =
      woken_up (granted_at b chosen) u q w.0 (b.txns u) (ap status_in (r.txns u apart) ∙ w.1) h in
      clash (r.still u q (law.waits_are u q stands)) (ap (λ o. waits_at o q) now))
      (λ e. e)

  no_grants : (q : NodeId) → granted_at b chosen q ≡ []
  no_grants q = empty_of (granted_at b chosen q) (λ u. no_grant u q)

  txn_now : (u : ℕ) → after.txns u ≡ b.txns u
  txn_now u = woken_same (granted_at b chosen) u (λ q. no_grant u q) (b.txns u)

  held_now : (u : ℕ) (q : NodeId) → after.held u q ≡ b.held u q
  held_now u q = ap (λ l. after_grants (members b q) l u) (no_grants q)

  queue_now : (q : NodeId) → after.queue q ≡ s.queue q
  queue_now q = ap (λ l. drop (length l) (b.queue q)) (no_grants q) ∙ r.queues q

  status_now : (x : ℕ) → (x == t) ≡ false → status_of after x ≡ status_of s x
  status_now x apart = ap status_in (txn_now x ∙ r.txns x apart)

  own_now : is_wait (status_of after t) ≡ false
  own_now = ap (λ o. is_wait (status_in o)) (txn_now t) ∙ r.own_idle

  freed : (x : ℕ) → (x == t) ≡ false → waits_for after x t ≡ false
  freed x apart =
      split (waits_for after x t)
      (λ h.
      let st = step_is after x t h in let n = st.0 in let m = st.1 in
      clash
      (is_step s x t n m (record {
        differ = st.2.differ;
        waits = sym (status_now x apart) ∙ st.2.waits;
        blocked = or_elim _ _ st.2.blocked
            (λ k. ⊎_elim (λ nl. clash (ap (are_compatible m) (held_now t n ∙ nl) ∙ NL-compatible m) (not-true _ k))
            (λ same. or_left _ _ (ap (λ a. not (are_compatible m a)) (sym (held_now t n ∙ same)) ∙ k)) (r.own n))
            (λ k. or_right _ _ (sym (ap (λ l. is_ahead l x t) (queue_now n)) ∙ k));
      }))
      (free x))
      (λ e. e)

  same_released : SameWaits s after
  same_released = record {
    waits = λ x y. split (x == t)
        (λ e. idle_edge after x y (ap (λ v. is_wait (status_of after v)) (same_number x t e) ∙ own_now)
        ∙ sym (idle_edge s x y (ap (λ v. is_wait (status_of s v)) (same_number x t e) ∙ idle)))
        (λ apart. split (y == t)
        (λ e. ap (waits_for after x) (same_number y t e) ∙ freed x apart ∙ sym (ap (waits_for s x) (same_number y t e) ∙ free x))
        (λ other. same_edge s after x y (status_now x apart) (λ q w st. (held_now y q ∙ r.others y q other, queue_now q))));
    ages = λ x y h. (
      same_age x (split (x == t) (λ e. clash h (idle_edge s x y (ap (λ v. is_wait (status_of s v)) (same_number x t e) ∙ idle))) (λ e. e)),
      same_age y (split (y == t) (λ e. clash h (ap (waits_for s x) (same_number y t e) ∙ free x)) (λ e. e)),
    );
  }
    where
      same_age : (x : ℕ) → (x == t) ≡ false → age_of after x ≡ age_of s x
      same_age x apart = ap age_in (txn_now x ∙ r.txns x apart)

  -- a transaction that is no party to a wait before is none afterwards
  no_party : (v : ℕ) → has_slot set v ≡ false → (is_wait (status_of after v) ≡ false)
      × ((u : ℕ) (q : NodeId) → is_waiting_at after u q ≡ true → holds (members after q) v ≡ false)
  no_party v other = (
    split (v == t) (λ e. ap (λ u. is_wait (status_of after u)) (same_number v t e) ∙ own_now) (λ e. ap is_wait (status_now v e) ∙ (has v other).0),
    λ u q at.
        let apart : (u == t) ≡ false =
        split (u == t) (λ e. clash (ap is_wait (waiting_is (status_of after u) q at).1) (ap (λ x. is_wait (status_of after x)) (same_number u t e) ∙ own_now))
        (λ e. e) in
        let was : is_waiting_at s u q ≡ true = sym (ap (λ o. waits_at o q) (status_now u apart)) ∙ at in
        ap (λ k. not (same_mode k NL)) (held_now v q)
        ∙ split (v == t)
        (λ e. ap (λ x. not (same_mode (b.held x q) NL)) (same_number v t e)
        ∙ ⊎_elim (λ nl. ap (λ k. not (same_mode k NL)) nl) (λ same. ap (λ k. not (same_mode k NL)) same ∙ (has t out).1 u q was) (r.own q))
        (λ e. ap (λ k. not (same_mode k NL)) (r.others v q e) ∙ (has v other).1 u q was),
  )

  pub released_spares : Spares set s (pumped b chosen)
  released_spares = record { same = same_released; parties = no_party }

-- A lock that is granted, and ends nobody's wait, is granted at once.

woken_condemned : (g : NodeId → List Waiter) (t : ℕ) (x : Option Txn) → status_in x ≡ Some Condemned → status_in (woken g t x) ≡ Some Condemned
woken_condemned g t None e = absurd (none_some e)
woken_condemned g t (Some x) e = ap (λ st. Some (awake g t st)) (some_is e)

condemned_now : (z : State) (v : ℕ) (st : Status) → status_of z v ≡ Some st → status_of (condemned z v) v ≡ Some Condemned
condemned_now z v st h =
    woken_condemned (granted_at (without_wait z v Condemned) (is_waiting_at z v)) v ((without_wait z v Condemned).txns v)
    (ap status_in (without_wait_own z v Condemned) ∙ restatus_is Condemned st (z.txns v) h)

stays_condemned : (z : State) (v t : ℕ) → status_of z t ≡ Some Condemned → status_of (condemned z v) t ≡ Some Condemned
stays_condemned z v t h =
    split (t == v)
    (λ e. subst (λ u. status_of (condemned z u) t ≡ Some Condemned) (same_number t v e) (condemned_now z t Condemned h))
    (λ e. woken_condemned (granted_at (without_wait z v Condemned) (is_waiting_at z v)) t ((without_wait z v Condemned).txns t)
    (ap status_in (without_wait_other z v Condemned t e) ∙ h))

settled_condemned : (c : Victims) (k : ℕ) (z s' : State) (t v : ℕ) → status_of z v ≡ Some Condemned → SettledWithin c k z t s'
    → status_of s' v ≡ Some Condemned
settled_condemned c zero z s' t v st h = ap (λ x. status_of x v) h.1 ∙ st
settled_condemned c (suc k) z s' t v st h = settled_condemned c k (condemned z h.0) s' t v (stays_condemned z h.0 v st) h.2

walk_waits : (s : State) (v t : ℕ) (path : List ℕ) → IsWalk (waits_for s) v path t → (n : NodeId) × (m : Mode) × (status_of s v ≡ Some (Waiting n m))
walk_waits s v t [] h = let st = step_is s v t h in (st.0, st.1, st.2.waits)
walk_waits s v t (u ∷ path) h = let st = step_is s v u h.0 in (st.0, st.1, st.2.waits)

module _ (s : State) (t : ℕ) (n : NodeId) (m : Mode) (next : State) (a : Answer) (active : status_of s t ≡ Some Active)
    (is : a ≡ lock_answer (next.held t n) (status_of next t)) (grant : grants a ≡ true)
    (still : (u : ℕ) (q : NodeId) → is_waiting_at s u q ≡ true → is_waiting_at next u q ≡ true) where
  abbrev w : Mode
  w = wanted s t n m

  abbrev queued : State
  queued = enqueued s t n w

  own_waits : status_of queued t ≡ Some (Waiting n w)
  own_waits =
      ap (λ b. status_in (if b then restatus (Waiting n w) (s.txns t) else s.txns t)) (number_same t t refl)
      ∙ restatus_is (Waiting n w) Active (s.txns t) active

  not_so : (o : Option Status) → grants (lock_answer (next.held t n) o) ≡ false → status_of next t ≡ o → ⊥
  not_so o none st = clash grant (ap grants (is ∙ ap (lock_answer (next.held t n)) st) ∙ none)

  not_within : (k : ℕ) → SettledWithin s.victims k queued t next → ⊥
  not_within zero h = not_so (Some (Waiting n w)) refl (ap (λ z. status_of z t) h.1 ∙ own_waits)
  not_within (suc k) h =
      let v = h.0 in
      let back = (candidate-on_cycle s.victims (waits_for queued) t v h.1.is_member.is_member).back in
      let waits = walk_waits queued v t back.0 back.1 in
      let is_condemned : status_of next v ≡ Some Condemned =
      settled_condemned s.victims k (condemned queued v) next t v (condemned_now queued v _ waits.2) h.2 in
      split (v == t)
      (λ e. not_so (Some Condemned) refl (ap (status_of next) (sym (same_number v t e)) ∙ is_condemned))
      (λ e.
      let was : status_of s v ≡ Some (Waiting waits.0 waits.1) =
      ap (λ b. status_in (if b then restatus (Waiting n w) (s.txns t) else s.txns v)) (λ i. sym e i) ∙ waits.2 in
      clash (still v waits.0 (ap (λ o. waits_at o waits.0) was ∙ same_node-refl waits.0)) (ap (λ o. waits_at o waits.0) is_condemned))

  not_settled : (d : Detect) → WaitSettles d s.victims queued t next → ⊥
  not_settled ByWatcher h = not_so (Some (Waiting n w)) refl (ap (λ z. status_of z t) h ∙ own_waits)
  not_settled AtBlock h = not_within h.0 h.1

  pub enters_now : Locks s t n m next → enters_at s t n m ≡ true
  enters_now locks = split (enters_at s t n m) (λ e. e) (λ e. absurd (not_settled s.detect (locks.waits e)))

-- What t loses on a node is a release.
pub unlock_releases : (s : State) (t : ℕ) (n : NodeId) → is_wait (status_of s t) ≡ false
    → ((u : ℕ) (q : NodeId) → is_waiting_at s u q ≡ true → is_waiting_at (unlocked s t n) u q ≡ true) → Releases s t (with_grant s t n NL) (same_node n)
unlock_releases s t n idle still = record {
  others = λ u q apart. ap (λ b. if b && same_node q n then NL else s.held u q) apart;
  own = λ q. split (same_node q n)
      (λ here. inl (ap₂ (λ b k. if b && k then NL else s.held t q) (number_same t t refl) here))
      (λ away. inr (ap₂ (λ b k. if b && k then NL else s.held t q) (number_same t t refl) away));
  queues = λ q. refl;
  txns = λ u apart. refl;
  own_idle = idle;
  still = still;
}
