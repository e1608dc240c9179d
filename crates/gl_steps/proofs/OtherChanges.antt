-- How another transaction's command changes grants, queues and slots, and what it leaves to a slot t that it does not name.
use Rattle.gl_steps.proofs.Words.{◌&&◌, ◌==◌, [], ◌||◌, ◌∙◌, ◌∷◌, ◌≡◌, ◌≢◌, Active, and_both, ap, arith, AtBlock, begun_at, Bool, ByWatcher, Condemned}
use Rattle.gl_steps.proofs.Words.{condemned, Detect, enqueued, false, Follows, follows_trans, holds, if◌then◌else◌, inl, is_covered, is_waiting_at, List}
use Rattle.gl_steps.proofs.Words.{live_by, members, Mode, nat_tests, NL, NodeId, None, Option, pumped, raised, refl, released, restatus, same_node}
use Rattle.gl_steps.proofs.Words.{same_node-equal, same_number, SameGrants, Settled, SettledWithin, shed, Some, split, State, Status, status_in, status_of}
use Rattle.gl_steps.proofs.Words.{subst, suc, sym, true, true≢false, Txn, Victims, Waiting, waits_for, WaitSettles, WaitsWell, with_grant, without_wait, zero}
use Rattle.gl_steps.proofs.Words.{ℕ}
use Rattle.gl_waits.proofs.VictimLemmas.{candidate-on_cycle}
use Rattle.gl_header.specs.Header.{placed, without_waiter}
use Rattle.gl_model.specs.State.{blocks}
use Rattle.gl_waits.specs.Waits.{IsWalk}
use Rattle.gl_model.proofs.queues.Waiters.{placed_other, waits_of, without_other, without_self}
use Rattle.gl_model.proofs.telling.Follows.{absent_well, follows_same, pumped_follows, Waits}

pub other : (u t : ℕ) → u ≢ t → (t == u) ≡ false
other u t ne = grind (arith, nat_tests)

-- the grants of t, if another's are changed
pub with_grant_same : (s : State) (u t : ℕ) (n : NodeId) (m : Mode) → u ≢ t → SameGrants s (with_grant s u n m) t
with_grant_same s u t n m ne q = ap (λ b. if b && same_node q n then m else s.held t q) (other u t ne)

-- another is granted a node
pub with_grant_follows : (s : State) (u t : ℕ) (n : NodeId) (m : Mode) → u ≢ t → WaitsWell s t → Follows s (with_grant s u n m) t
with_grant_follows s u t n m ne well = follows_same s (with_grant s u n m) t well refl refl (with_grant_same s u t n m ne) (λ q. refl)

-- another begins
pub begun_other : (s : State) (u age since t : ℕ) → u ≢ t → (begun_at s u age since).txns t ≡ s.txns t
begun_other s u age since t ne = ap (λ b. if b then Some (record { age = age; since = since; status = Active }) else s.txns t) (other u t ne)

pub begun_follows : (s : State) (u age since t : ℕ) → u ≢ t → WaitsWell s t → Follows s (begun_at s u age since) t
begun_follows s u age since t ne well = follows_same s (begun_at s u age since) t well refl (begun_other s u age since t ne) (λ q. refl) (λ q. refl)

-- another waits
pub enqueued_follows : (s : State) (u t : ℕ) (n : NodeId) (m : Mode) → u ≢ t → WaitsWell s t → Follows s (enqueued s u n m) t
enqueued_follows s u t n m ne well =
    follows_same s (enqueued s u n m) t well refl (ap (λ b. if b then restatus (Waiting n m) (s.txns u) else s.txns t) (other u t ne)) (λ q. refl)
    (λ q. by q (same_node q n) refl)
  where
    by : (q : NodeId) (b : Bool) → same_node q n ≡ b → waits_of t (if b then placed (members s n) (s.queue n) u m else s.queue q) ≡ waits_of t (s.queue q)
    by q true e = placed_other (members s n) u t (s.queue n) m ne ∙ ap (λ x. waits_of t (s.queue x)) (sym (same_node-equal q n e))
    by q false e = refl

-- another's wait is removed
pub without_wait_follows : (s : State) (u t : ℕ) (st : Status) → u ≢ t → WaitsWell s t → Follows s (without_wait s u st) t
without_wait_follows s u t st ne well =
    follows_same s (without_wait s u st) t well refl (ap (λ b. if b then restatus st (s.txns u) else s.txns t) (other u t ne)) (λ q. refl)
    (λ q. without_other u t (s.queue q) ne)

apart_condemned : {q : NodeId} {w : Mode} → Some Condemned ≡ Some (Waiting q w) → ⊥
apart_condemned e = cc

apart_active : {q : NodeId} {w : Mode} → Some Active ≡ Some (Waiting q w) → ⊥
apart_active e = cc

apart_both : Some Condemned ≡ Some Active → ⊥
apart_both e = cc

restatus_in : (st : Status) (x : Option Txn) (now : Status) → status_in x ≡ Some now → status_in (restatus st x) ≡ Some st
restatus_in st None now e = absurd (no e)
  where
    no : {st : Status} → None ≡ Some st → ⊥
    no e = cc
restatus_in st (Some x) now e = refl

restatus_lives : (st : Status) (age : ℕ) (x : Option Txn) → live_by age (restatus st x) ≡ live_by age x
restatus_lives st age None = refl
restatus_lives st age (Some x) = refl

-- t, which waits, is condemned
condemned_self : (s : State) (t : ℕ) (n : NodeId) (m : Mode) → status_of s t ≡ Some (Waiting n m) → Follows s (without_wait s t Condemned) t
condemned_self s t n m e = record {
  graph = refl;
  lives = λ age h. ap (live_by age) here ∙ restatus_lives Condemned age (s.txns t) ∙ h;
  active = λ h. absurd (apart_active (sym h ∙ e));
  was_waiting = λ q w h. absurd (apart_condemned (sym status ∙ h));
  grants = inl (λ q. refl);
  was_there = λ h. absurd (apart_both (sym status ∙ h));
  ends = λ w h. absurd (apart_both (sym status ∙ h));
  well = absent_well (without_wait s t Condemned) t (λ q. without_self t (s.queue q)) (λ q w h. apart_condemned (sym status ∙ h));
}
  where
    here : (without_wait s t Condemned).txns t ≡ restatus Condemned (s.txns t)
    here = let same : (t == t) ≡ true = grind (arith, nat_tests) in ap (λ b. if b then restatus Condemned (s.txns t) else s.txns t) same

    status : status_of (without_wait s t Condemned) t ≡ Some Condemned
    status = ap status_in here ∙ restatus_in Condemned (s.txns t) (Waiting n m) e

-- another is condemned; t too may be the one, if it waits
pub condemned_follows : (s : State) (v t : ℕ) → Waits s v → WaitsWell s t → Follows s (condemned s v) t
condemned_follows s v t waits well =
    split (v == t)
    (λ e. let same = same_number v t e in
    let f : Follows s (without_wait s v Condemned) t =
    subst (λ x. Follows s (without_wait s x Condemned) t) (sym same) (condemned_self s t waits.0 waits.1 (ap (status_of s) (sym same) ∙ waits.2)) in
    follows_trans s (without_wait s v Condemned) (condemned s v) t f (pumped_follows (without_wait s v Condemned) (is_waiting_at s v) t f.well))
    (λ e. let f = without_wait_follows s v t Condemned (differ e) well in
    follows_trans s (without_wait s v Condemned) (condemned s v) t f (pumped_follows (without_wait s v Condemned) (is_waiting_at s v) t f.well))
  where
    differ : (v == t) ≡ false → v ≢ t
    differ e same = let no : (v == t) ≡ true = grind (arith, nat_tests) in true≢false (sym no ∙ e)

-- one that waits for another waits
blocks_waits : (s : State) (v u : ℕ) (o : Option Status) → blocks s v u o ≡ true → (n : NodeId) × (m : Mode) × (o ≡ Some (Waiting n m))
blocks_waits s v u None h = absurd (true≢false (sym h))
blocks_waits s v u (Some Active) h = absurd (true≢false (sym h))
blocks_waits s v u (Some Condemned) h = absurd (true≢false (sym h))
blocks_waits s v u (Some (Waiting n m)) h = (n, m, refl)

edge_waits : (s : State) (v u : ℕ) → waits_for s v u ≡ true → Waits s v
edge_waits s v u h = blocks_waits s v u (status_of s v) (and_both _ _ h).1

walk_waits : (s : State) (v u : ℕ) (path : List ℕ) → IsWalk (waits_for s) v path u → Waits s v
walk_waits s v u [] walk = edge_waits s v u walk
walk_waits s v u (x ∷ path) walk = edge_waits s v x walk.0

pub settled_within_follows : (c : Victims) (k : ℕ) (s : State) (u : ℕ) (s' : State) (t : ℕ) → SettledWithin c k s u s' → WaitsWell s t → Follows s s' t
settled_within_follows c zero s u s' t done well = subst (λ x. Follows s x t) (sym done.1) (follows_same s s t well refl refl (λ q. refl) (λ q. refl))
settled_within_follows c (suc k) s u s' t more well =
    let back = (candidate-on_cycle c (waits_for s) u more.0 more.1.is_member.is_member).back in
    let f = condemned_follows s more.0 t (walk_waits s more.0 u back.0 back.1) well in
    follows_trans s (condemned s more.0) s' t f (settled_within_follows c k (condemned s more.0) u s' t more.2 f.well)

-- someone is settled
pub settled_follows : (c : Victims) (s : State) (u : ℕ) (s' : State) (t : ℕ) → Settled c s u s' → WaitsWell s t → Follows s s' t
settled_follows c s u s' t settled well = settled_within_follows c settled.0 s u s' t settled.1 well

pub wait_settles_follows : (d : Detect) (c : Victims) (s : State) (u : ℕ) (s' : State) (t : ℕ) → WaitSettles d c s u s' → WaitsWell s t → Follows s s' t
wait_settles_follows AtBlock c s u s' t settles well = settled_follows c s u s' t settles well
wait_settles_follows ByWatcher c s u s' t settles well = subst (λ x. Follows s x t) (sym settles) (follows_same s s t well refl refl (λ q. refl) (λ q. refl))

-- everything of another removed, or some of its grants, and then the pump
abbrev cleared : State → ℕ → State
cleared s u =
    record s {
      held = λ v n. if v == u then NL else s.held v n;
      queue = λ n. without_waiter u (s.queue n);
      txns = λ v. if v == u then None else s.txns v;
    }

-- another ends
pub released_follows : (s : State) (u t : ℕ) → u ≢ t → WaitsWell s t → Follows s (released s u) t
released_follows s u t ne well =
    let f : Follows s (cleared s u) t =
    follows_same s (cleared s u) t well refl (ap (λ b. if b then None else s.txns t) (other u t ne))
    (λ q. ap (λ b. if b then NL else s.held t q) (other u t ne)) (λ q. without_other u t (s.queue q) ne) in
    follows_trans s (cleared s u) (released s u) t f (pumped_follows (cleared s u) (λ n. holds (members s n) u || is_waiting_at s u n) t f.well)

-- another's children are released
pub shed_follows : (s : State) (u t : ℕ) (n : NodeId) → u ≢ t → WaitsWell s t → Follows s (shed s u n) t
shed_follows s u t n ne well =
    let less : State = record s { held = λ v c. if (v == u) && is_covered s u n c then NL else s.held v c } in
    let f : Follows s less t = follows_same s less t well refl refl
    (λ q. ap (λ b. if b && is_covered s u n q then NL else s.held t q) (other u t ne)) (λ q. refl) in
    follows_trans s less (shed s u n) t f (pumped_follows less (is_covered s u n) t f.well)

-- another escalates
pub escalated_follows : (s : State) (u t : ℕ) (n : NodeId) → u ≢ t → WaitsWell s t → Follows s (shed (raised s u n) u n) t
escalated_follows s u t n ne well =
    let f = with_grant_follows s u t n _ ne well in
    follows_trans s (raised s u n) (shed (raised s u n) u n) t f (shed_follows (raised s u n) u t n ne f.well)

-- another releases a node
pub unlocked_follows : (s : State) (u t : ℕ) (n : NodeId) → u ≢ t → WaitsWell s t → Follows s (pumped (with_grant s u n NL) (same_node n)) t
unlocked_follows s u t n ne well =
    let f = with_grant_follows s u t n NL ne well in
    follows_trans s (with_grant s u n NL) (pumped (with_grant s u n NL) (same_node n)) t f (pumped_follows (with_grant s u n NL) (same_node n) t f.well)

-- another cancels its wait
pub cancelled_follows : (s : State) (u t : ℕ) → u ≢ t → WaitsWell s t → Follows s (pumped (without_wait s u Active) (is_waiting_at s u)) t
cancelled_follows s u t ne well =
    let f = without_wait_follows s u t Active ne well in
    follows_trans s (without_wait s u Active) (pumped (without_wait s u Active) (is_waiting_at s u)) t f
    (pumped_follows (without_wait s u Active) (is_waiting_at s u) t f.well)
