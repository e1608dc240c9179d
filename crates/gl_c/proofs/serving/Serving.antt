-- The effect of a call, put together: of one that counts nothing, and of one that does.
use Rattle.gl_slots.specs.declared.slots.Slots.{Slots}
use Rattle.std.specs.Prelude.{◌≡◌, ◌≤◌, ℕ, Bool, true, false, Option, Some, None, IfSome, is_none}
use Rattle.std.proofs.Common.{refl, sym, ap, subst, ◌∙◌, inl, arith}
use Rattle.gl_waits.specs.declared.board.Board.{Board}
use Rattle.gl_model.specs.State.{State}
use Rattle.gl_model.specs.declared.answers.Detect.{Detect}
use Rattle.gl_table.specs.Table.{board_of}
use Rattle.gl_catalog.specs.Manager.{ManagerView, state_of}
use Rattle.gl_waiting.specs.Going.{IsRun}
use Rattle.gl_waiting.proofs.Runs.{run_idle}
use Rattle.gl_waiting.specs.Resting.{RestingView, RestOn, RestsWell, Rouses}
use Rattle.gl_waiting.specs.Waiting.{WaitingView}
use Rattle.gl_waiting.specs.declared.set_off.SetOff.{SetOff}
use Rattle.gl_window.specs.Boards.{last_epoch}
use Rattle.gl_window.specs.Strip.{Strip}
use Rattle.gl_window.specs.Tellings.{still_known}
use Rattle.gl_c.specs.declared.managers.guarded.Guarded.TheInside.{Inside}
use Rattle.gl_c.specs.declared.managers.showing.Showing.{Showing}
use Rattle.gl_c.specs.managers.Guarded.{GuardedView, waiting_in, with_waiting}
use Rattle.gl_c.specs.managers.Serving.{KnowsWaits, Leaves, ShowsOn, known_after}
use Rattle.gl_c.specs.managers.Showing.{parties_in, shown_in}
use Rattle.gl_c.specs.managers.Sound.{IsSound, view_of}
use Rattle.gl_c.proofs.serving.Showing.{later_epoch, run_keeps}

-- nothing is shown
pub shows_same : (due : Bool) (board : Board) (shown : Option Strip) → ShowsOn due board shown shown
shows_same due board None = refl
shows_same due board (Some s) = (s, refl, record { book = refl; detect = refl; list = inl refl })

-- what is known of the waits if somebody went on, or nobody
pub knows_after : (went_on : Bool) (s : State) (shown : Option Strip) (parties : Option Slots) (spares : Slots → Bool)
    → (went_on ≡ false → KnowsWaits s shown (still_known parties spares)) → KnowsWaits s shown (known_after went_on parties spares)
knows_after true s shown parties spares known = tt
knows_after false s shown parties spares known = known refl

module _ (g : Inside) (v : WaitingView) (run : IsRun (state_of g.waiting.manager) (state_of v.manager)) (sound : IsSound g) where
  -- after a call that counts nothing
  module _ (same : v.manager.accepted ≡ g.waiting.manager.accepted) where
    is_same : state_of v.manager ≡ state_of g.waiting.manager
    is_same = run_idle run.0 (state_of g.waiting.manager) (state_of v.manager) run.1 (omega (arith, same))

    -- with those who rest as they are known to
    pub sound_beside : (r : RestingView) → RestsWell (state_of v.manager) r → IsSound (record g { waiting = v; resting = r })
    sound_beside r well =
        let detection : v.manager.table.detect ≡ g.waiting.manager.table.detect = ap (λ (s : State). s.detect) is_same in
        record {
          epoch = later_epoch (shown_in g.showing) g.waiting.manager.accepted v.manager.accepted (omega (arith, same)) sound.epoch;
          detect = subst (λ (x : Detect). IfSome (shown_in g.showing) (λ p. p.detect ≡ x)) (sym detection) sound.detect;
          known = subst (λ (s : State). KnowsWaits s (shown_in g.showing) (parties_in g.showing)) (sym is_same) sound.known;
          rests = well;
        }

    pub sound_idle : IsSound (record g { waiting = v })
    sound_idle = sound_beside g.resting (subst (λ (s : State). RestsWell s g.resting) (sym is_same) sound.rests)

    pub leaves_idle : (IsCalled : SetOff → WaitingView → Type 0) (Rests : WaitingView → Slots → Slots → Type 0) (r : Slots) → r ≡ g.resting.resting
        → Rests v g.resting.resting r → (spares : Slots → Bool) (off : SetOff)
        → IsCalled off v → Leaves IsCalled spares Rests (view_of g) (record (with_waiting (view_of g) v) { resting = r })
    leaves_idle IsCalled Rests r kept rests spares off called = record {
      off = off;
      called = called;
      noted = λ more. absurd (more same);
      rests = rests;
      uncounted = λ _. ap (λ (x : Slots). record (with_waiting (view_of g) v) { resting = x }) kept;
      shown = shows_same (is_none (known_after off.went_on (parties_in g.showing) spares)) (board_of (state_of v.manager)) (shown_in g.showing);
      known = sound_idle.known;
    }

  -- after one that does
  module _ (r : RestingView) (well : RestsWell (state_of v.manager) r) (went_on : Bool) (spares : Slots → Bool) (showing : Option Showing)
      (shown : shown_in showing ≡ shown_in g.showing)
      (parties : parties_in showing ≡ known_after went_on (parties_in g.showing) spares) where
    pub sound_counted : (ended : Slots)
        → (went_on ≡ false → KnowsWaits (state_of v.manager) (shown_in g.showing) (still_known (parties_in g.showing) spares))
        → IsSound (record g { waiting = v; resting = r; ended = ended; showing = showing })
    sound_counted ended known =
        let keeps = run_keeps run.0 (state_of g.waiting.manager) (state_of v.manager) run.1 in
        let detection : v.manager.table.detect ≡ g.waiting.manager.table.detect = keeps.1 in
        let after = known_after went_on (parties_in g.showing) spares in
        record {
          epoch = subst (λ (o : Option Strip). IfSome o (λ p. last_epoch 0 p.list ≤ v.manager.accepted)) (sym shown)
              (later_epoch (shown_in g.showing) g.waiting.manager.accepted v.manager.accepted keeps.0 sound.epoch);
          detect = subst (λ (o : Option Strip). IfSome o (λ p. p.detect ≡ v.manager.table.detect)) (sym shown)
              (subst (λ (x : Detect). IfSome (shown_in g.showing) (λ p. p.detect ≡ x)) (sym detection) sound.detect);
          known = subst (λ (o : Option Slots). KnowsWaits (state_of v.manager) (shown_in showing) o) (sym parties)
              (subst (λ (o : Option Strip). KnowsWaits (state_of v.manager) o after) (sym shown)
              (knows_after went_on (state_of v.manager) (shown_in g.showing) (parties_in g.showing) spares known));
          rests = well;
        }

    pub leaves_counted : (IsCalled : SetOff → WaitingView → Type 0) (off : SetOff) (after : GuardedView) → off.went_on ≡ went_on
        → (Rests : WaitingView → Slots → Slots → Type 0)
        → ((v.manager.accepted ≡ g.waiting.manager.accepted → ⊥) → Rests v g.resting.resting r.resting)
        → IsCalled off v → (v.manager.accepted ≡ g.waiting.manager.accepted → ⊥)
        → (waiting_in after ≡ v) × (after.ended ≡ off.ended) × (after.resting ≡ r.resting)
        → ShowsOn (is_none (parties_in showing)) (board_of (state_of v.manager)) (shown_in showing) after.shown
        → KnowsWaits (state_of after.manager) after.shown after.parties → Leaves IsCalled spares Rests (view_of g) after
    leaves_counted IsCalled off after so Rests rests called more kept shows known =
        let due : ShowsOn (is_none (known_after off.went_on (parties_in g.showing) spares)) (board_of (state_of v.manager)) (shown_in g.showing) after.shown =
        subst (λ (o : Option Strip). ShowsOn (is_none (known_after off.went_on (parties_in g.showing) spares)) (board_of
        (state_of v.manager)) o after.shown) shown
        (subst (λ (o : Option Slots). ShowsOn (is_none o) (board_of (state_of v.manager)) (shown_in showing) after.shown)
        (parties ∙ ap (λ (b : Bool). known_after b (parties_in g.showing) spares) (sym so)) shows) in
        record {
          off = off;
          called = subst (λ (x : WaitingView). IsCalled off x) (sym kept.0) called;
          noted = λ _. kept.1;
          rests = subst (λ (x : WaitingView). Rests x g.resting.resting after.resting) (sym kept.0)
              (subst (Rests v g.resting.resting) (sym kept.2) (rests more));
          uncounted = λ same. absurd (more (sym (ap (λ (x : WaitingView). x.manager.accepted) kept.0) ∙ same));
          shown = subst (λ (x : WaitingView). ShowsOn (is_none (known_after off.went_on (parties_in g.showing) spares)) (board_of (state_of x.manager))
              (shown_in g.showing) after.shown) (sym kept.0) due;
          known = known;
        }

-- the transaction of a slot has not acted, or it has
pub idle_rouses : (slot : Option ℕ) (v v' : WaitingView) (r : Slots) → v'.manager.accepted ≡ v.manager.accepted → Rouses slot v r v' r
idle_rouses slot v v' r same = record { counted = λ more. absurd (more same); uncounted = λ _. refl }

pub some_rouses : (slot : Option ℕ) (v v' : WaitingView) (r r' : Slots) → RestOn slot r r' → (v'.manager.accepted ≡ v.manager.accepted → ⊥)
    → Rouses slot v r v' r'
some_rouses slot v v' r r' on more = record { counted = λ _. on; uncounted = λ same. absurd (more same) }

-- the count of a manager that is lent
pub counted_as : (k : ℕ) (n m : ManagerView) → k ≡ n.accepted → n ≡ m → k ≡ m.accepted
counted_as k n m is same = is ∙ ap (λ (x : ManagerView). x.accepted) same
