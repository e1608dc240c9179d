-- From one state to another by releases and ended waits (`IsBetween`), and what the steps tell. For all that tells.
use Rattle.gl_model.proofs.Words.{◌&&◌, ◌++◌, ◌==◌, [], ◌∙◌, ◌∷◌, ◌≡◌, Active, addressed, age_of, ap, ap₂, arith, Bool, clash, Condemned, drop, false}
use Rattle.gl_model.proofs.Words.{filter-append, front_at, grant_notice, granted_at, if◌then◌else◌, is_among_waiters, is_live, is_waiter, is_waiting_at}
use Rattle.gl_model.proofs.Words.{IsBetween, IsLawful, length, List, members, Mode, mode_given, nat_tests, NL, NodeId, None, not, not_true, notice_of}
use Rattle.gl_model.proofs.Words.{number_other, number_same, Option, or_left, or_right, other_number, pumped, refl, restatus, same_mode, same_mode-refl}
use Rattle.gl_model.proofs.Words.{same_node, same_node-equal, same_node-refl, same_number, Some, State, Status, status_in, status_of, sym, told_from, told_to}
use Rattle.gl_model.proofs.Words.{true, Txn, TxnId, unlocked, Waiter, Waiting, waits_at, with_grant, with_txn, without_wait, woken, ℕ}
use Rattle.gl_model.specs.declared.answers.Notice.TheVariants as notice
use Rattle.gl_model.proofs.law.Keeps.{waiting_is, woken_age, woken_sleeps, woken_waits}
use Rattle.gl_model.proofs.law.Takes.{IsQuiet, restatus_is}
use Rattle.gl_model.proofs.queues.Edits.{out_of_without, without_filter}
use Rattle.gl_model.proofs.queues.Waiters.{among_append, among_by_filter, grants_one, grants_other, if-false, if-true, none_filtered, not_among, one_in_first}
use Rattle.gl_model.proofs.queues.Waiters.{waits_of}
use Rattle.gl_model.proofs.telling.Follows.{roused, SameGrants, unwoken}
use Rattle.gl_model.proofs.queues.Fronts.{granted_parts}

-- From one state to another by releases and ended waits: each step keeps what is known of it.

-- what is left of a queue once its node granted
abbrev pub left_at : State → (NodeId → Bool) → NodeId → List Waiter
left_at s chosen q = drop (length (granted_at s chosen q)) (s.queue q)

-- a queue is what is granted and what is left
pub granted_and_left : (s : State) (chosen : NodeId → Bool) (q : NodeId) → granted_at s chosen q ++ left_at s chosen q ≡ s.queue q
granted_and_left s chosen q = granted_parts s chosen q

-- so are the waits of each slot there
pub waits_granted_and_left : (s : State) (chosen : NodeId → Bool) (u : ℕ) (q : NodeId)
    → waits_of u (granted_at s chosen q) ++ waits_of u (left_at s chosen q) ≡ waits_of u (s.queue q)
waits_granted_and_left s chosen u q = sym (filter-append (is_waiter u) (granted_at s chosen q) (left_at s chosen q))
    ∙ ap (waits_of u) (granted_and_left s chosen q)

pub granted_stands : (s : State) (chosen : NodeId → Bool) (u : ℕ) (q : NodeId) → is_among_waiters u (granted_at s chosen q) ≡ true
    → is_among_waiters u (s.queue q) ≡ true
granted_stands s chosen u q h = ap (is_among_waiters u) (sym (granted_and_left s chosen q)) ∙ among_append u (granted_at s chosen q) (left_at s chosen q)
    ∙ or_left _ _ h

pub left_stands : (s : State) (chosen : NodeId → Bool) (u : ℕ) (q : NodeId) → is_among_waiters u (left_at s chosen q) ≡ true
    → is_among_waiters u (s.queue q) ≡ true
left_stands s chosen u q h =
    ap (is_among_waiters u) (sym (granted_and_left s chosen q)) ∙ among_append u (granted_at s chosen q) (left_at s chosen q)
    ∙ or_right (is_among_waiters u (granted_at s chosen q)) _ h

-- another's slot, once a wait is removed
pub without_wait_other : (s : State) (t : ℕ) (st : Status) (u : ℕ) → (u == t) ≡ false → (without_wait s t st).txns u ≡ s.txns u
without_wait_other s t st u e = ap (λ b. if b then restatus st (s.txns t) else s.txns u) e

-- and its own
pub without_wait_own : (s : State) (t : ℕ) (st : Status) → (without_wait s t st).txns t ≡ restatus st (s.txns t)
without_wait_own s t st = if-true _ (number_same t t refl)

module _ (s now : State) (between : IsBetween s now) where
  -- a slot in a queue waits there
  pub between_wait : (u : ℕ) (q : NodeId) → is_among_waiters u (now.queue q) ≡ true → (m : Mode) × (status_of now u ≡ Some (Waiting q m))
  between_wait u q h = waiting_is (status_of now u) q (between.waits_are u q h)

  -- a granted waiter was once in the queue, so it is not in the rest
  pub between_granted_once : (chosen : NodeId → Bool) (u : ℕ) (q : NodeId) (m : Mode) → status_of now u ≡ Some (Waiting q m)
      → is_among_waiters u (granted_at now chosen q) ≡ true → (waits_of u (granted_at now chosen q) ≡ (u, m) ∷ []) × (waits_of u (left_at now chosen q) ≡ [])
  between_granted_once chosen u q m st h =
      one_in_first (waits_of u (granted_at now chosen q)) (waits_of u (left_at now chosen q)) (u, m) (waits_granted_and_left now chosen u q
      ∙ between.one_wait u q m st) (λ e. clash h (none_filtered u (granted_at now chosen q) e))

  -- grants are no part of it
  pub between_with_grant : (t : ℕ) (n : NodeId) (m : Mode) → IsBetween s (with_grant now t n m)
  between_with_grant t n m = record {
    graph = between.graph;
    ages = between.ages;
    waited = between.waited;
    waits_are = between.waits_are;
    one_wait = between.one_wait;
    live = between.live;
  }

  -- one whose wait ended waits no more, and all others wait as before
  pub between_without_wait : (t : ℕ) (st : Status) → IsQuiet st → IsBetween s (without_wait now t st)
  between_without_wait t st quiet = record {
    graph = between.graph;
    ages = λ u. grind (arith, nat_tests, same_number);
    waited = λ u q m h. between.waited u q m (other_waits u q m h).1;
    waits_are = λ u q h. let was = out_of_without t u (now.queue q) h in
        ap (λ x. waits_at (status_in x) q) (without_wait_other now t st u (number_other u t was.1)) ∙ between.waits_are u q was.0;
    one_wait = λ u q m h. let was = other_waits u q m h in without_filter t u (now.queue q) (other_number u t was.0) ∙ between.one_wait u q m was.1;
    live = between.live;
  }
    where
      -- one that still waits is another
      other_waits : (u : ℕ) (q : NodeId) (m : Mode) → status_of (without_wait now t st) u ≡ Some (Waiting q m) → ((u == t) ≡ false)
          × (status_of now u ≡ Some (Waiting q m))
      other_waits u q m h = grind (arith, nat_tests)

  -- a granted waiter waits no more, and is not in its queue
  pub between_pumped : (chosen : NodeId → Bool) → IsBetween s (pumped now chosen)
  between_pumped chosen = record {
    graph = between.graph;
    ages = λ u. woken_age (granted_at now chosen) u (now.txns u) ∙ between.ages u;
    waited = λ u q m h. between.waited u q m (woken_waits (granted_at now chosen) u q m (now.txns u) h).0;
    waits_are = λ u q h. let st = between_wait u q (left_stands now chosen u q h) in
        ap (λ o. waits_at o q) (woken_sleeps (granted_at now chosen) u q st.0 (now.txns u) st.1
        (not_true _ (λ g. clash h (none_filtered u (left_at now chosen q) (between_granted_once chosen u q st.0 st.1 g).1)))) ∙ same_node-refl q;
    one_wait = λ u q m h. let was = woken_waits (granted_at now chosen) u q m (now.txns u) h in
        ap (λ ws. ws ++ waits_of u (left_at now chosen q)) (sym (not_among u (granted_at now chosen q) was.1)) ∙ waits_granted_and_left now chosen u q
        ∙ between.one_wait u q m was.0;
    live = between.live;
  }

-- it begins at any lawful state
pub between_begins : (s : State) → IsLawful s → IsBetween s s
between_begins s law = record {
  graph = refl;
  ages = λ u. refl;
  waited = λ u q m h. h;
  waits_are = law.waits_are;
  one_wait = law.one_wait;
  live = λ u q m h. law.waits_live u q (among_by_filter u (u, m) [] (s.queue q) (law.one_wait u q m h));
}

-- and continues by the release of a node
pub between_releases : (s now : State) (t : ℕ) (n : NodeId) → IsBetween s now → IsBetween s (unlocked now t n)
between_releases s now t n between = between_pumped s (with_grant now t n NL) (between_with_grant s now between t n NL) (same_node n)

-- or by a wait that ends, with another status
pub between_gives_up : (s now : State) (t : ℕ) (n : NodeId) (m : Mode) (st : Status) → ((q : NodeId) (w : Mode) → Some st ≡ Some (Waiting q w) → ⊥)
    → status_of now t ≡ Some (Waiting n m) → IsBetween s now → IsBetween s (pumped (without_wait now t st) (is_waiting_at now t))
between_gives_up s now t n m st quiet waits between = between_pumped s (without_wait now t st) (between_without_wait s now between t st quiet)
    (is_waiting_at now t)

-- What the steps tell: the granted waiters, the one whose wait ended, and all others what they were told before.

-- what is the one if a test passes and the other if it fails
pub is_by_test : {A : Type 0} {x y z : A} (b : Bool) → (b ≡ true → x ≡ y) → (b ≡ false → x ≡ z) → x ≡ (if b then y else z)
is_by_test true f g = f refl
is_by_test false f g = g refl

-- one that was granted what it waited for is active
pub woken_up : (g : NodeId → List Waiter) (u : ℕ) (q : NodeId) (m : Mode) (x : Option Txn) → status_in x ≡ Some (Waiting q m) → is_among_waiters u (g q) ≡ true
    → status_in (woken g u x) ≡ Some Active
woken_up g u q m x h k = roused g u q m x h k

-- one that was granted nowhere is as it was
pub woken_same : (g : NodeId → List Waiter) (u : ℕ) → ((q : NodeId) → is_among_waiters u (g q) ≡ false) → (x : Option Txn) → woken g u x ≡ x
woken_same g u out x = unwoken g u out x

-- what a slot is told is read from the graph, and from its own transaction and grants
pub told_same : (now s' : State) (u : ℕ) → s'.graph ≡ now.graph → s'.txns u ≡ now.txns u → SameGrants now s' u → (o : Option Status)
    → told_from s' u o ≡ told_from now u o
told_same now s' u graph txn grants o = grind (arith, nat_tests, o, status_of now u, ap status_in txn)

-- only one that waited at the beginning is told
pub told_waits : (s now : State) (u : ℕ) (st : Status) → IsQuiet st → status_of s u ≡ Some st → told_to s now u ≡ None
told_waits s now u st quiet h = ap (λ o. addressed (record { slot = u; age = age_of s u }) (told_from now u o)) h ∙ grind (arith, nat_tests)

module _ (s now : State) (between : IsBetween s now) where
  module _ (n : NodeId) (u : ℕ) where
    abbrev after : State
    after = pumped now (same_node n)

    abbrev name : TxnId
    name = record { slot = u; age = age_of s u }

    -- a waiter that a node grants from its front is told of its mode: it waited for it from the beginning
    pub granted_told : is_among_waiters u (front_at now n) ≡ true → told_to s (pumped now (same_node n)) u ≡ grant_notice s.txns n (front_at now n) u
    granted_told h =
        ap (λ o. addressed name (told_from after u o)) (between.waited u n wait.0 wait.1)
        ∙ ap (λ o. addressed name (notice_of after u n wait.0 o)) (woken_up (granted_at now (same_node n)) u n wait.0 (now.txns u) wait.1 granted)
        ∙ ap₂ (λ a b. addressed name (if not a then Some notice.Gone else (if b then Some (notice.Granted n wait.0) else Some notice.Moved)))
        (ap (λ g. is_live g n) between.graph ∙ between.live u n wait.0 (between.waited u n wait.0 wait.1))
        (ap (λ w. same_mode w wait.0) (grants_one (granted_at now (same_node n) n) (members now n) u wait.0 once) ∙ same_mode-refl wait.0)
        ∙ ap (λ w. Some (name, notice.Granted n w)) (sym (ap (λ ws. mode_given ws u) (sym here)
        ∙ grants_one (granted_at now (same_node n) n) (λ _. NL) u wait.0 once))
      where
        here : granted_at now (same_node n) n ≡ front_at now n
        here = if-true _ (same_node-refl n)

        granted : is_among_waiters u (granted_at now (same_node n) n) ≡ true
        granted = ap (is_among_waiters u) here ∙ h

        wait : (m : Mode) × (status_of now u ≡ Some (Waiting n m))
        wait = between_wait s now between u n (granted_stands now (same_node n) u n granted)

        once : waits_of u (granted_at now (same_node n) n) ≡ (u, wait.0) ∷ []
        once = (between_granted_once s now between (same_node n) u n wait.0 wait.1 granted).0

    -- all others are told what they were
    pub others_told : is_among_waiters u (front_at now n) ≡ false → told_to s (pumped now (same_node n)) u ≡ told_to s now u
    others_told h =
        ap (addressed name) (told_same now after u refl (woken_same (granted_at now (same_node n)) u out (now.txns u))
        (λ q. grants_other (granted_at now (same_node n) q) (members now q) u (out q)) (status_of s u))
      where
        out : (q : NodeId) → is_among_waiters u (granted_at now (same_node n) q) ≡ false
        out q = grind (arith, nat_tests, same_node-equal)

    pub pumped_told : told_to s (pumped now (same_node n)) u
        ≡ (if is_among_waiters u (front_at now n) then grant_notice s.txns n (front_at now n) u else told_to s now u)
    pumped_told = is_by_test (is_among_waiters u (front_at now n)) granted_told others_told

-- another's wait that is over tells nothing
pub without_wait_told : (s now : State) (t : ℕ) (st : Status) (u : ℕ) → (u == t) ≡ false → told_to s (without_wait now t st) u ≡ told_to s now u
without_wait_told s now t st u e = ap (addressed (record { slot = u; age = age_of s u }))
    (told_same now (without_wait now t st) u refl (without_wait_other now t st u e) (λ q. refl) (status_of s u))

-- after an ended wait those that its node grants are told, and all others what they are told of its end
pub wait_over_told : (s now : State) (t : ℕ) (n : NodeId) (m : Mode) (st : Status) → IsQuiet st → status_of now t ≡ Some (Waiting n m) → IsBetween s now
    → (u : ℕ)
    → told_to s (pumped (without_wait now t st) (is_waiting_at now t)) u
    ≡ (if is_among_waiters u (front_at (without_wait now t st) n) then grant_notice s.txns n (front_at (without_wait now t st) n) u
    else told_to s (without_wait now t st) u)
wait_over_told s now t n m st quiet waits between u =
    ap (λ o. told_to s (pumped (without_wait now t st) (waits_at o)) u) waits
    ∙ pumped_told s (without_wait now t st) (between_without_wait s now between t st quiet) n u

-- after a release all other granted waiters are told
pub release_tells : (s now : State) (t : ℕ) (n : NodeId) → IsBetween s now → (u : ℕ) → (u == t) ≡ false → told_to s (unlocked now t n) u
    ≡ (if is_among_waiters u (front_at (with_grant now t n NL) n) then grant_notice s.txns n (front_at (with_grant now t n NL) n) u else told_to s now u)
release_tells s now t n between u e =
    pumped_told s (with_grant now t n NL) (between_with_grant s now between t n NL) n u
    ∙ ap (λ x. if is_among_waiters u (front_at (with_grant now t n NL) n) then grant_notice s.txns n (front_at (with_grant now t n NL) n) u else x)
    (ap (addressed (record { slot = u; age = age_of s u }))
    (told_same now (with_grant now t n NL) u refl refl (λ q. ap (λ b. if b && same_node q n then NL else now.held u q) e) (status_of s u)))

-- one that was active from the beginning is told nothing
pub active_untold : (s now : State) (t : ℕ) → status_of s t ≡ Some Active → told_to s now t ≡ None
active_untold s now t is = told_waits s now t Active (λ q m h. cc) is

-- after a victim's wait it is told, and so are the granted waiters
pub victim_tells : (s now : State) (t : ℕ) (n : NodeId) (m : Mode) → status_of now t ≡ Some (Waiting n m) → IsBetween s now → (u : ℕ)
    → told_to s (pumped (without_wait now t Condemned) (is_waiting_at now t)) u ≡ (if is_among_waiters u (front_at (without_wait now t Condemned) n)
    then grant_notice s.txns n (front_at (without_wait now t Condemned) n) u
    else (if u == t then Some (record { slot = t; age = age_of s t }, notice.Victim) else told_to s now u))
victim_tells s now t n m waits between u =
    wait_over_told s now t n m Condemned (λ q w h. cc) waits between u
    ∙ ap (λ x. if is_among_waiters u (front_at (without_wait now t Condemned) n) then grant_notice s.txns n (front_at (without_wait now t Condemned) n) u
    else x) over
  where
    own : told_to s (without_wait now t Condemned) t ≡ Some (record { slot = t; age = age_of s t }, notice.Victim)
    own = ap (λ o. addressed (record { slot = t; age = age_of s t }) (told_from (without_wait now t Condemned) t o)) (between.waited t n m waits)
        ∙ ap (λ o. addressed (record { slot = t; age = age_of s t }) (notice_of (without_wait now t Condemned) t n m o))
        (ap status_in (without_wait_own now t Condemned) ∙ restatus_is Condemned (Waiting n m) (now.txns t) waits)

    over : told_to s (without_wait now t Condemned) u ≡ (if u == t then Some (record { slot = t; age = age_of s t }, notice.Victim) else told_to s now u)
    over = is_by_test (u == t) (λ e. ap (told_to s (without_wait now t Condemned)) (same_number u t e) ∙ own) (without_wait_told s now t Condemned u)

-- after a cancelled wait all other granted waiters are told
pub cancel_tells : (s now : State) (t : ℕ) (n : NodeId) (m : Mode) → status_of now t ≡ Some (Waiting n m) → IsBetween s now → (u : ℕ) → (u == t) ≡ false
    → told_to s (pumped (without_wait now t Active) (is_waiting_at now t)) u
    ≡ (if is_among_waiters u (front_at (without_wait now t Active) n) then grant_notice s.txns n (front_at (without_wait now t Active) n) u
    else told_to s now u)
cancel_tells s now t n m waits between u other =
    wait_over_told s now t n m Active (λ q w h. cc) waits between u
    ∙ ap (λ x. if is_among_waiters u (front_at (without_wait now t Active) n) then grant_notice s.txns n (front_at (without_wait now t Active) n) u else x)
    (without_wait_told s now t Active u other)

-- whose status is the same is told nothing
pub quiet_told : (s now : State) (u : ℕ) → status_of now u ≡ status_of s u → told_to s now u ≡ None
quiet_told s now u same = grind (arith, nat_tests, status_of s u)

-- at the beginning nobody is told
pub nobody_told : (s : State) (u : ℕ) → told_to s s u ≡ None
nobody_told s u = quiet_told s s u refl

-- an ended transaction is told nothing
pub gone_untold : (s now : State) (u : ℕ) → status_of now u ≡ None → told_to s now u ≡ None
gone_untold s now u gone = grind (arith, nat_tests, status_of s u)

-- when t is gone, all others are told what they were
pub gone_tells : (s now : State) (t u : ℕ) → told_to s (with_txn now t None) u ≡ (if u == t then None else told_to s now u)
gone_tells s now t u =
    is_by_test (u == t) (λ e. gone_untold s (with_txn now t None) u (ap (λ b. status_in (if b then None else now.txns u)) e))
    (λ e. ap (addressed (record { slot = u; age = age_of s u })) (told_same now (with_txn now t None) u refl (if-false _ e) (λ q. refl) (status_of s u)))
