-- When a raise passes a waiter. For locks, tries and escalations.
use Rattle.std.specs.Prelude.{◌≡◌, ◌&&◌, ◌⊎◌, Bool, true, false, not, Option, Some, None, if◌then◌else◌}
use Rattle.std.proofs.Common.{ap, inl, inr, refl, sym, ◌∙◌}
use Rattle.gl_modes.proofs.ModeLemmas.{same_mode-refl}
use Rattle.gl_modes.proofs.NodeLemmas.{same_node-refl}
use Rattle.gl_modes.proofs.Words.{both, number_same, split}
use Rattle.gl_modes.specs.Modes.{same_mode}
use Rattle.gl_modes.specs.declared.mode.Mode.{Mode}
use Rattle.gl_modes.specs.declared.mode.Mode.TheVariants.{NL}
use Rattle.gl_modes.specs.declared.node.NodeId.{NodeId}
use Rattle.gl_header.specs.Header.{is_empty}
use Rattle.gl_model.specs.declared.answers.Locked.{Locked}
use Rattle.gl_model.specs.declared.answers.Locked.TheVariants as locked
use Rattle.gl_model.specs.declared.txn.Status.{Status}
use Rattle.gl_model.specs.declared.txn.Status.TheVariants.{Active, Condemned, Waiting}
use Rattle.gl_model.specs.declared.txn.TxnId.{TxnId}
use Rattle.gl_model.specs.Calls.{Locks, enqueued, enters_at, granted, locked_as, wanted}
use Rattle.gl_model.specs.Lawful.{IsLawful}
use Rattle.gl_model.specs.State.{State, status_of}
use Rattle.gl_model.proofs.law.Lock.{MayLock, waiting-lawful}
use Rattle.gl_model.proofs.telling.Follows.{Follows, GrantedTo, SameGrants, lawful_waits}
use Rattle.gl_steps.proofs.OtherChanges.{wait_settles_follows}
use Rattle.gl_catalog.specs.Counters.{lock_passes, raise_passes}

-- by the mode that was read before, NL if the transaction did not live
pub read_passes : (s : State) (n : NodeId) (alive : Bool) (before after : Mode)
    → raise_passes s n (if alive then before else NL) after ≡ (alive && raise_passes s n before after)
read_passes s n true before after = refl
read_passes s n false before after = refl

pub read_converts : (alive : Bool) (before : Mode) → not (same_mode (if alive then before else NL) NL) ≡ (alive && not (same_mode before NL))
read_converts true before = refl
read_converts false before = refl

-- what is granted is held then
pub granted_held : (s : State) (t : TxnId) (n : NodeId) (m : Mode) → (granted s t.slot n m).held t.slot n ≡ wanted s t.slot n m
granted_held s t n m = ap (λ b. if b then wanted s t.slot n m else s.held t.slot n) (both _ _ (number_same t.slot t.slot refl) (same_node-refl n))

-- what is held as before passes nobody
unraised : (s : State) (n : NodeId) (before after : Mode) → after ≡ before → raise_passes s n before after ≡ false
unraised s n before after is = ap (raise_passes s n before) is
    ∙ ap (λ b. not (same_mode before NL) && not b && not (is_empty (s.queue n))) (same_mode-refl before)
    ∙ never (not (same_mode before NL)) (not (is_empty (s.queue n)))
  where
    never : (a b : Bool) → (a && false && b) ≡ false
    never true b = refl
    never false b = refl

-- a lock's outcome is a grant of the held mode, or its transaction is not active
held_then : (held m : Mode) (o : Option Status) → locked.Granted m ≡ locked_as held o → m ≡ held
held_then held m None h = cc
held_then held m (Some Active) h = cc
held_then held m (Some (Waiting q w)) h = absurd (cc)
held_then held m (Some Condemned) h = absurd (cc)

module _ (s : State) (law : IsLawful s) (t : TxnId) (n : NodeId) (m : Mode) (may : MayLock s t n m) (next : State) (locks : Locks s t.slot n m next) where
  abbrev x : State
  x = enqueued s t.slot n (wanted s t.slot n m)

  -- a transaction that is then not active holds what it held
  kept : (status_of next t.slot ≡ Some Active → ⊥) → next.held t.slot n ≡ s.held t.slot n
  kept idle = split (enters_at s t.slot n m) (λ e. absurd (idle (ap (λ (y : State). status_of y t.slot) (locks.at_once e) ∙ may.active))) waits
    where
      waits : enters_at s t.slot n m ≡ false → next.held t.slot n ≡ s.held t.slot n
      waits e = by on.grants
        where
          on : Follows x next t.slot
          on = wait_settles_follows s.detect s.victims x t.slot next t.slot (locks.waits e) (lawful_waits x (waiting-lawful s law t n m may e) t.slot)

          by : SameGrants x next t.slot ⊎ GrantedTo x next t.slot → next.held t.slot n ≡ s.held t.slot n
          by (inl same) = same n
          by (inr g) = absurd (idle g.is)

  -- so a lock's outcome says whether it passes a waiter
  pub lock_passes_is : (l : Locked) → l ≡ locked_as (next.held t.slot n) (status_of next t.slot)
      → lock_passes next n (s.held t.slot n) l ≡ raise_passes next n (s.held t.slot n) (next.held t.slot n)
  lock_passes_is (locked.Granted h) is = ap (raise_passes next n (s.held t.slot n)) (held_then (next.held t.slot n) h (status_of next t.slot) is)
  lock_passes_is locked.Waiting is =
      sym (unraised next n (s.held t.slot n) (next.held t.slot n) (kept (λ e. let at = is ∙ ap (locked_as (next.held t.slot n)) e in cc)))
  lock_passes_is locked.Victim is =
      sym (unraised next n (s.held t.slot n) (next.held t.slot n) (kept (λ e. let at = is ∙ ap (locked_as (next.held t.slot n)) e in cc)))
