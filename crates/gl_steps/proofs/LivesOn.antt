-- A transaction that lives on over a step: its age stays, and it begins no wait.
use Rattle.gl_steps.proofs.Words.{◌==◌, ◌∙◌, ◌≡◌, Active, age_in, ap, AtBlock, Bool, ByWatcher, clash, Condemned, condemned, Detect, false, freed, freed_among}
use Rattle.gl_steps.proofs.Words.{freed_unless, granted_at, if◌then◌else◌, is_some, is_waiting_at, List, live_by, Mode, NodeId, None, none_among, Option}
use Rattle.gl_steps.proofs.Words.{pumped, refl, restatus, same_node, same_number, Settled, SettledWithin, Some, split, State, Status, status_in, subst, suc}
use Rattle.gl_steps.proofs.Words.{sym, true, Txn, Victims, Waiter, Waiting, WaitSettles, without_wait, woken, zero, ℕ}
use Rattle.gl_model.specs.State.{since_in}
use Rattle.gl_model.proofs.law.Keeps.{woken_waits}
use Rattle.gl_model.proofs.law.Takes.{IsQuiet, restatus_quiet}

-- the same transaction, in any status
pub record SameTurn (x y : Option Txn) : Type 0 where
  pub there : is_some y ≡ is_some x
  pub age : age_in y ≡ age_in x
  pub since : since_in y ≡ since_in x

pub turn_same : (x y : Option Txn) → y ≡ x → SameTurn x y
turn_same x y e = record { there = ap is_some e; age = ap age_in e; since = ap since_in e }

pub turn_trans : (x y z : Option Txn) → SameTurn x y → SameTurn y z → SameTurn x z
turn_trans x y z a b = record { there = b.there ∙ a.there; age = b.age ∙ a.age; since = b.since ∙ a.since }

pub restatus_turn : (st : Status) (x : Option Txn) → SameTurn x (restatus st x)
restatus_turn st None = turn_same None None refl
restatus_turn st (Some x) = record { there = refl; age = refl; since = refl }

woken_turn : (g : NodeId → List Waiter) (u : ℕ) (x : Option Txn) → SameTurn x (woken g u x)
woken_turn g u None = turn_same None None refl
woken_turn g u (Some x) = record { there = refl; age = refl; since = refl }

freed_turn : (goes : NodeId → Bool) (x : Option Txn) → SameTurn x (freed_among goes x)
freed_turn goes None = turn_same None None refl
freed_turn goes (Some x) = record { there = refl; age = refl; since = refl }

turn_lives : (x y : Option Txn) → SameTurn x y → (age : ℕ) → live_by age x ≡ true → live_by age y ≡ true
turn_lives None y same age h = clash h refl
turn_lives (Some x) None same age h = clash same.there refl
turn_lives (Some x) (Some y) same age h = ap (λ a. a == age) same.age ∙ h

-- the same transaction lives in the slot, and if it waits, it waited there before
pub record LivesOn (x y : Option Txn) : Type 0 where
  pub turn : SameTurn x y
  pub lives : (age : ℕ) → live_by age x ≡ true → live_by age y ≡ true
  pub waits : (n : NodeId) (m : Mode) → status_in y ≡ Some (Waiting n m) → status_in x ≡ Some (Waiting n m)

pub lives_on_same : (x y : Option Txn) → y ≡ x → LivesOn x y
lives_on_same x y e = subst (LivesOn x) (sym e) (record { turn = turn_same x x refl; lives = λ age h. h; waits = λ n m h. h })

pub lives_on_trans : (x y z : Option Txn) → LivesOn x y → LivesOn y z → LivesOn x z
lives_on_trans x y z a b = record {
  turn = turn_trans x y z a.turn b.turn;
  lives = λ age h. b.lives age (a.lives age h);
  waits = λ n m h. a.waits n m (b.waits n m h);
}

restatus_on : (st : Status) → IsQuiet st → (x : Option Txn) → LivesOn x (restatus st x)
restatus_on st quiet x = record {
  turn = restatus_turn st x;
  lives = turn_lives x (restatus st x) (restatus_turn st x);
  waits = λ n m h. absurd (restatus_quiet st quiet x n m h);
}

pub woken_on : (g : NodeId → List Waiter) (u : ℕ) (x : Option Txn) → LivesOn x (woken g u x)
woken_on g u x = record {
  turn = woken_turn g u x;
  lives = turn_lives x (woken g u x) (woken_turn g u x);
  waits = λ n m h. (woken_waits g u n m x h).0;
}

pub freed_among_on : (goes : NodeId → Bool) (x : Option Txn) → LivesOn x (freed_among goes x)
freed_among_on goes x = record {
  turn = freed_turn goes x;
  lives = turn_lives x (freed_among goes x) (freed_turn goes x);
  waits = λ q m h. still q m x h;
}
  where
    kept : (q : NodeId) (m : Mode) (st : Status) → Some (none_among goes st) ≡ Some (Waiting q m) → Some st ≡ Some (Waiting q m)
    kept q m Active h = absurd (cc h)
    kept q m Condemned h = absurd (cc h)
    kept q m (Waiting p w) h = split (goes p)
        (λ e. absurd (cc (sym (ap (λ b. Some (if b then Active else Waiting p w)) e) ∙ h)))
        (λ e. sym (ap (λ b. Some (if b then Active else Waiting p w)) e) ∙ h)

    still : (q : NodeId) (m : Mode) (o : Option Txn) → status_in (freed_among goes o) ≡ Some (Waiting q m) → status_in o ≡ Some (Waiting q m)
    still q m None h = absurd (cc h)
    still q m (Some y) h = kept q m y.status h

pub freed_on : (n : NodeId) (x : Option Txn) → LivesOn x (freed n x)
freed_on n x = freed_among_on (λ q. same_node q n) x

pub unless_on : (keeps : ℕ → Bool) (n : NodeId) (u : ℕ) (x : Option Txn) → LivesOn x (freed_unless keeps n u x)
unless_on keeps n u x = by (keeps u)
  where
    by : (b : Bool) → LivesOn x (if b then x else freed n x)
    by true = lives_on_same x x refl
    by false = freed_on n x

-- the same of a slot in two states
abbrev pub GoesOn : State → State → ℕ → Type 0
GoesOn s s' u = LivesOn (s.txns u) (s'.txns u)

-- each grant from a queue
pub pumped_goes_on : (s : State) (chosen : NodeId → Bool) (u : ℕ) → GoesOn s (pumped s chosen) u
pumped_goes_on s chosen u = woken_on (granted_at s chosen) u (s.txns u)

-- a wait that is over
pub without_wait_goes_on : (s : State) (v : ℕ) (st : Status) → IsQuiet st → (u : ℕ) → GoesOn s (without_wait s v st) u
without_wait_goes_on s v st quiet u = by (u == v) refl
  where
    by : (b : Bool) → (u == v) ≡ b → LivesOn (s.txns u) (if b then restatus st (s.txns v) else s.txns u)
    by true e = subst (λ w. LivesOn (s.txns u) (restatus st (s.txns w))) (same_number u v e) (restatus_on st quiet (s.txns u))
    by false e = lives_on_same (s.txns u) (s.txns u) refl

-- and its node grants
pub over_goes_on : (s : State) (v : ℕ) (st : Status) → IsQuiet st → (u : ℕ) → GoesOn s (pumped (without_wait s v st) (is_waiting_at s v)) u
over_goes_on s v st quiet u =
    lives_on_trans (s.txns u) ((without_wait s v st).txns u) ((pumped (without_wait s v st) (is_waiting_at s v)).txns u)
    (without_wait_goes_on s v st quiet u) (pumped_goes_on (without_wait s v st) (is_waiting_at s v) u)

settled_within_goes_on : (c : Victims) (k : ℕ) (s s' : State) (t u : ℕ) → SettledWithin c k s t s' → GoesOn s s' u
settled_within_goes_on c zero s s' t u h = lives_on_same (s.txns u) (s'.txns u) (ap (λ (x : State). x.txns u) h.1)
settled_within_goes_on c (suc k) s s' t u h =
    lives_on_trans (s.txns u) ((condemned s h.0).txns u) (s'.txns u) (over_goes_on s h.0 Condemned (λ n m e. cc) u)
    (settled_within_goes_on c k (condemned s h.0) s' t u h.2)

-- each victim
pub settled_goes_on : (c : Victims) (s s' : State) (t u : ℕ) → Settled c s t s' → GoesOn s s' u
settled_goes_on c s s' t u h = settled_within_goes_on c h.0 s s' t u h.1

pub wait_settles_goes_on : (d : Detect) (c : Victims) (s s' : State) (t u : ℕ) → WaitSettles d c s t s' → GoesOn s s' u
wait_settles_goes_on AtBlock c s s' t u h = settled_goes_on c s s' t u h
wait_settles_goes_on ByWatcher c s s' t u h = lives_on_same (s.txns u) (s'.txns u) (ap (λ (x : State). x.txns u) h)
