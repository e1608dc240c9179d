-- Over a step each transaction that lives on keeps its age and its `since`; a new one has an age above all that were given.
use Rattle.std.specs.Prelude.{◌≡◌, ◌⊎◌, ℕ, ◌+◌, ◌<◌, ◌≤◌, Bool, true, false, min, nat_lt, ◌&&◌, ◌||◌, ◌==◌, List, Option, Some, None, if◌then◌else◌, is_some}
use Rattle.std.specs.List.{filter, list_any}
use Rattle.std.proofs.lemmas.Bool.Decides.{nat_tests}
use Rattle.std.proofs.Common.{refl, sym, ap, arith, inl, inr, subst, ⊎_elim, ◌∙◌}
use Rattle.gl_modes.proofs.Words.{clash, same_number, split}
use Rattle.gl_modes.specs.declared.mode.Mode.{Mode}
use Rattle.gl_modes.specs.declared.mode.Mode.TheVariants.{NL}
use Rattle.gl_modes.specs.declared.node.NodeId.{NodeId}
use Rattle.gl_modes.specs.Nodes.{same_node}
use Rattle.gl_graph.specs.Graph.{nodes}
use Rattle.gl_graph.proofs.Unrefused.{none_refused}
use Rattle.gl_header.specs.Header.{Waiter, holds, is_among_waiters}
use Rattle.gl_model.specs.declared.txn.Status.TheVariants.{Active, Waiting}
use Rattle.gl_model.specs.declared.txn.TxnId.{TxnId}
use Rattle.gl_model.specs.Calls.{Locks, begun_at, enqueued, enters_at, hinders_at, is_covered, joining_age, raised, released, stays, wanted}
use Rattle.gl_model.specs.State.{State, Txn, age_in, granted_at, is_waiting_at, members, restatus, since_in, status_of, with_grant, woken}
use Rattle.gl_model.specs.Tellings.{stripped, Told}
use Rattle.gl_model.proofs.law.Lock.{free_slot, joining_slot}
use Rattle.gl_steps.specs.declared.command.Answer.{Answer}
use Rattle.gl_steps.specs.declared.command.Command.{Command}
use Rattle.gl_steps.specs.declared.command.Command.TheVariants as command
use Rattle.gl_steps.specs.Step.{Accepts, Step}
use Rattle.gl_steps.specs.Tests.{refusal_of, tests_of}
use Rattle.gl_steps.proofs.LockCommands.{may_renew}
use Rattle.gl_fairness.specs.Turns.{begins_ahead}
use Rattle.gl_steps.proofs.Beginning.{Begins}
use Rattle.gl_steps.proofs.Changes.{Change, change_of}
use Rattle.gl_steps.proofs.Changes as change
use Rattle.gl_steps.proofs.EachStep.{each_step}
use Rattle.gl_steps.proofs.LivesOn.{GoesOn, SameTurn, restatus_turn, turn_same, turn_trans, freed_among_on, freed_on, over_goes_on, pumped_goes_on}
use Rattle.gl_steps.proofs.LivesOn.{settled_goes_on, unless_on, wait_settles_goes_on, woken_on}

-- the transaction is active, and holds intentions alone, on nodes for which nobody waits
pub record IsResting (s : State) (v : ℕ) : Type 0 where
  pub active : status_of s v ≡ Some Active
  pub rests : list_any (hinders_at s v) (nodes s.graph) ≡ false

-- by a step a transaction begins in a free slot, or in that of one that rests, with an age above all that were given; its `since` is not before a number
-- unless it begins for work from before that
pub record IsNew (s : State) (v : ℕ) (c : Command) (y : Option Txn) : Type 0 where
  pub place : (is_some (s.txns v) ≡ false) ⊎ IsResting s v
  pub age : s.begins < age_in y
  pub low : since_in y ≤ age_in y
  pub behind : (bound : ℕ) → bound ≤ s.begins → begins_ahead bound c ≡ false → bound ≤ since_in y

-- each that is there after a step was there before it, or begins by it
abbrev pub HasTurn : State → ℕ → Command → Option Txn → Type 0
HasTurn s v c y = is_some y ≡ true → SameTurn (s.txns v) y ⊎ IsNew s v c y

-- one that begins to wait keeps its turn
pub enqueued_turn : (s : State) (u : ℕ) (n : NodeId) (m : Mode) (v : ℕ) → SameTurn (s.txns v) ((enqueued s u n m).txns v)
enqueued_turn s u n m v = by (v == u) refl
  where
    by : (b : Bool) → (v == u) ≡ b → SameTurn (s.txns v) (if b then restatus (Waiting n m) (s.txns u) else s.txns v)
    by true e = subst (λ w. SameTurn (s.txns v) (restatus (Waiting n m) (s.txns w))) (same_number v u e) (restatus_turn (Waiting n m) (s.txns v))
    by false e = turn_same (s.txns v) (s.txns v) refl

-- a number that is not less than another is at least it
again_behind : (begins n bound : ℕ) → bound ≤ begins → nat_lt n bound ≡ false → bound ≤ min n (begins + 1)
again_behind begins n bound few h = let more : bound ≤ n = grind (arith, nat_tests) in omega arith

module _ (s : State) (v : ℕ) (a : Answer) (list : Told) (next : State) where
  abbrev Kept : Type 0
  Kept = is_some (next.txns v) ≡ true → SameTurn (s.txns v) (next.txns v)

  unmoved : (made : State) → next ≡ made → made.txns v ≡ s.txns v → Kept
  unmoved made e same k = turn_same (s.txns v) (next.txns v) (ap (λ (x : State). x.txns v) e ∙ same)

  on : (made : State) → next ≡ made → GoesOn s made v → Kept
  on made e goes k = subst (λ (x : State). SameTurn (s.txns v) (x.txns v)) (sym e) goes.turn

  released_case : (u : ℕ) → next ≡ released s u → Kept
  released_case u e = subst (λ (x : State). is_some (x.txns v) ≡ true → SameTurn (s.txns v) (x.txns v)) (sym e)
      (split (v == u) (λ is k. clash k (ap (λ b. is_some (woken got v (if b then None else s.txns v))) is))
      (λ other k. subst (λ b. SameTurn (s.txns v) (woken got v (if b then None else s.txns v))) (sym other) (woken_on got v (s.txns v)).turn))
    where
      got : NodeId → List Waiter
      got = granted_at (stripped s u) (λ q. holds (members s q) u || is_waiting_at s u q)

  locked_case : (u : ℕ) (q : NodeId) (w : Mode) → Locks s u q w next → Kept
  locked_case u q w locks = split (enters_at s u q w) (λ e. unmoved _ (locks.at_once e) refl) (λ e k.
      turn_trans (s.txns v) (x.txns v) (next.txns v) (enqueued_turn s u q (wanted s u q w) v)
      (wait_settles_goes_on s.detect s.victims x next u v (locks.waits e)).turn)
    where
      x : State
      x = enqueued s u q (wanted s u q w)

  begins_in : (c : Command) (u age since : ℕ) → (v ≡ u → (is_some (s.txns v) ≡ false) ⊎ IsResting s v) → s.begins < age → since ≤ age
      → ((bound : ℕ) → bound ≤ s.begins → begins_ahead bound c ≡ false → bound ≤ since) → next ≡ begun_at s u age since → HasTurn s v c (next.txns v)
  begins_in c u age since place later low behind made k = split (v == u)
      (λ e. let is : next.txns v ≡ new = ap (λ (x : State). x.txns v) made ∙ ap (λ b. if b then new else s.txns v) e in
      inr (record {
        place = place (same_number v u e);
        age = subst (λ y. s.begins < age_in y) (sym is) later;
        low = subst (λ y. since_in y ≤ age_in y) (sym is) low;
        behind = λ bound few h. subst (λ z. bound ≤ z) (sym (ap since_in is)) (behind bound few h);
      }))
      (λ e. inl (unmoved _ made (ap (λ b. if b then new else s.txns v) e) k))
    where
      new : Option Txn
      new = Some (record { age = age; since = since; status = Active })

  begins : (c : Command) (since : ℕ) → since ≤ s.begins + 1 → ((bound : ℕ) → bound ≤ s.begins → begins_ahead bound c ≡ false → bound ≤ since)
      → Begins since s a list next → HasTurn s v c (next.txns v)
  begins c since low behind acc =
      begins_in c acc.0 (s.begins + 1) since (λ e. inl (ap (λ z. is_some (s.txns z)) e ∙ (free_slot s acc.0 0 s.most acc.1).0)) (omega arith) low behind acc.4

  renews : (u : TxnId) (n : ℕ) → refusal_of s (command.Renew u n) ≡ None → v ≡ u.slot → IsResting s v
  renews u n free e =
      let may = may_renew s u n free in
      record { active = ap (status_of s) e ∙ may.active; rests = ap (λ w. list_any (hinders_at s w) (nodes s.graph)) e ∙ may.rests }

  -- a change by which none begins
  abbrev KeptIf : Change s a next → Type 0
  KeptIf (change.Begun u age since is) = Unit {0}
  KeptIf x = Kept

  changed : (x : Change s a next) → KeptIf x
  changed (change.Regraphed g is) = unmoved _ is refl
  changed (change.Born u q g active birth is) = unmoved _ is refl
  changed (change.Begun u age since is) = tt
  changed (change.Locked u q w free locks is) = locked_case u.slot q w locks
  changed (change.Granted u q w free is) = unmoved _ is refl
  changed (change.Unlocked u q free is) = on _ is (pumped_goes_on (with_grant s u.slot q NL) (same_node q) v)
  changed (change.Shed u q free is) =
      let up : State = raised s u.slot q in
      on _ is (pumped_goes_on (record up { held = λ x c. if (x == u.slot) && is_covered up u.slot q c then NL else up.held x c }) (is_covered up u.slot q) v)
  changed (change.Cancelled u is) = on _ is (over_goes_on s u.slot Active (λ q w h. cc) v)
  changed (change.Released u is) = released_case u.slot is
  changed (change.Settles u is) = λ k. (settled_goes_on s.victims s next u.slot v is).turn
  changed (change.Departed goes g is) = on _ is (freed_among_on goes (s.txns v))
  changed (change.Parted u i q bound g free split is) = on _ is (freed_on i (s.txns v))
  changed (change.Moved x ps g is) = on _ is (unless_on (λ y. is_among_waiters y (filter (stays s ps) (s.queue x))) x v (s.txns v))

  accepted : (c : Command) → refusal_of s c ≡ None → Accepts s c a list next → HasTurn s v c (next.txns v)
  accepted command.Begin free acc = begins command.Begin (s.begins + 1) (omega arith) (λ bound few h. omega arith) acc
  accepted (command.BeginAgain n) free acc = begins (command.BeginAgain n) (min n (s.begins + 1)) (omega arith) (again_behind s.begins n) acc
  accepted (command.Join u n) free acc =
      begins_in (command.Join u n) u (joining_age s n) n
      (λ e. inl (ap (λ z. is_some (s.txns z)) e ∙ (joining_slot s u (none_refused (tests_of s (command.Join u n)) free 2)).0))
      (omega arith) (omega arith) (λ bound few h. grind (arith, nat_tests)) acc.2
  accepted (command.Renew u n) free acc =
      begins_in (command.Renew u n) u.slot (s.begins + 1) (min n (s.begins + 1)) (λ e. inr (renews u n free e)) (omega arith) (omega arith)
      (again_behind s.begins n) acc.2
  accepted (command.Group q) free acc = absurd acc
  accepted (command.Held u q) free acc = absurd acc
  accepted (command.Effective u q) free acc = absurd acc
  accepted c free acc = λ k. inl (changed (change_of s c a list next free acc) k)

pub step_turn : (s s' : State) (c : Command) (a : Answer) (told : Told) (v : ℕ) → Step s c a told s' → HasTurn s v c (s'.txns v)
step_turn s s' c a told v =
    each_step (λ x. HasTurn s v c (x.txns v)) s c a told s' (λ k. inl (turn_same (s.txns v) (s.txns v) refl)) (λ next h. h)
    (λ free next acc. accepted s v a told next c free acc)

-- so one that is there before and after a step is the same, if it did not rest before
pub one_turn : (s s' : State) (c : Command) (a : Answer) (told : Told) (v : ℕ) → Step s c a told s' → is_some (s.txns v) ≡ true → is_some (s'.txns v) ≡ true
    → (IsResting s v → ⊥)
    → SameTurn (s.txns v) (s'.txns v)
one_turn s s' c a told v step was is busy =
    ⊎_elim (λ same. same) (λ new. ⊎_elim (λ free. clash was free) (λ rest. absurd (busy rest)) new.place) (step_turn s s' c a told v step is)
