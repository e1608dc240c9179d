-- Those who rest: what a run leaves of them, and who may wait for them after it.
use Rattle.std.specs.Prelude.{◌≡◌, ℕ, Bool, true, false, not, ◌&&◌, ◌||◌, ◌==◌, List, [], ◌∷◌, Option, Some, None, map}
use Rattle.std.specs.List.{list_any}
use Rattle.std.proofs.Common.{refl, sym, ap, subst, ◌∙◌, ⊎_elim}
use mathlib.Core.Bool.{true≢false}
use Rattle.gl_modes.proofs.Words.{and_both, both, clash, no, some_is, not_true, number_same, or_elim, or_right, same_number, split}
use Rattle.gl_modes.specs.declared.mode.Mode.TheVariants.{IX}
use Rattle.gl_modes.specs.declared.node.NodeId.{NodeId}
use Rattle.gl_modes.specs.Modes.{is_at_least}
use Rattle.gl_slots.specs.Slots.{HasNoSlot, has_slot}
use Rattle.gl_model.specs.declared.txn.Status.{Status}
use Rattle.gl_model.specs.declared.txn.Status.TheVariants.{Active}
use Rattle.gl_model.specs.declared.txn.TxnId.{TxnId}
use Rattle.gl_model.specs.Deadlocks.{name_at}
use Rattle.gl_model.specs.Lawful.{IsLawful}
use Rattle.gl_model.specs.State.{State, Txn, age_in, is_wait, live_by, lives, status_in, status_of, waits_for}
use Rattle.gl_model.proofs.law.Edges.{step_is}
use Rattle.gl_steps.specs.declared.command.Answer.{Answer}
use Rattle.gl_steps.specs.declared.command.Answer.TheVariants as answer
use Rattle.gl_steps.specs.declared.command.Command.{Command}
use Rattle.gl_steps.specs.declared.command.Command.TheVariants as command
use Rattle.gl_steps.specs.Promises.{names, same_txn}
use Rattle.gl_fairness.specs.Aside.{IsActive, StaysAside, is_left_waiting, some_left_waiting}
use Rattle.gl_fairness.proofs.Aside.{leaves_aside}
use Rattle.gl_rows.specs.Locking.{Line}
use Rattle.gl_table.specs.Table.{living_in, named_in}
use Rattle.gl_slots.specs.declared.slots.Slots.{Slots}
use Rattle.gl_waiting.specs.Going.{IsRunOf}
use Rattle.gl_waiting.specs.Resting.{ActsIn, NobodyWaitsForThem, RestOn, RestingView, RestsWell, acting_in, is_slot}
use Rattle.gl_waiting.proofs.Runs.{commands}

-- who waits for somebody waits
pub waits_is : (s : State) (t u : ℕ) → waits_for s t u ≡ true → is_wait (status_of s t) ≡ true
waits_is s t u h = let st = step_is s t u h in ap is_wait st.2.waits

-- an active transaction lives under its name
pub active_lives : (s : State) (u : ℕ) → status_of s u ≡ Some Active → lives s (name_at s u) ≡ true
active_lives s u is = by (s.txns u) is
  where
    by : (o : Option Txn) → status_in o ≡ Some Active → live_by (age_in o) o ≡ true
    by None h = cc h
    by (Some x) h = number_same x.age x.age refl

same_itself : (t : TxnId) → same_txn t t ≡ true
same_itself t = both _ _ (number_same t.slot t.slot refl) (number_same t.age t.age refl)

-- a request that is left waiting names its transaction
left_one : (u : ℕ) (c : Command) (a : Answer) → is_left_waiting u c a ≡ true → (t : TxnId) × (t.slot ≡ u) × (names t c ≡ true)
left_one u (command.Lock t n m) answer.Waiting h = (t, same_number t.slot u h, same_itself t)
left_one u c a h = absurd (no h)

left_named : (u : ℕ) (lines : List Line) → some_left_waiting u (commands lines) (map (λ (l : Line). l.1) lines) ≡ true
    → (t : TxnId) × (t.slot ≡ u) × (list_any (names t) (commands lines) ≡ true)
left_named u [] h = absurd (no h)
left_named u (l ∷ lines) h =
    or_elim (is_left_waiting u l.0 l.1.0) _ h
    (λ one. let t = left_one u l.0 l.1.0 one in (t.0, t.1, ap (λ b. b || list_any (names t.0) (commands lines)) t.2))
    (λ more. let t = left_named u lines more in (t.0, t.1, or_right (names t.0 l.0) _ t.2))

-- An active transaction that no command of a run names.
module _ (s s' : State) (c : Command) (law : IsLawful s) (run : IsRunOf c s s') where
  pub aside : (t : TxnId) → IsActive s t → names t c ≡ false
      → StaysAside s s' t (λ u. some_left_waiting u (commands run.0.0) (map (λ (l : Line). l.1) run.0.0))
  aside t active apart = leaves_aside s s' (commands run.0.0) (map (λ (l : Line). l.1) run.0.0) t law run.0.1 active (run.1 t apart)

  -- who is left waiting by it is named
  pub left_is_named : (u : ℕ) → some_left_waiting u (commands run.0.0) (map (λ (l : Line). l.1) run.0.0) ≡ true
      → (t : TxnId) × (t.slot ≡ u) × (names t c ≡ true)
  left_is_named u left =
      let t = left_named u run.0.0 left in
      (t.0, t.1, split (names t.0 c) (λ (e : names t.0 c ≡ true). e) (λ e. clash t.2 (run.1 t.0 e)))

  -- those who rest on, with whoever waits for one of them
  pub rest_on : (slot : Option ℕ) (r r' : RestingView) → ActsIn slot c → RestOn slot r.resting r'.resting
      → ((t : ℕ) → has_slot r.crossed t ≡ true → has_slot r'.crossed t ≡ true)
      → ((t : ℕ) → is_slot slot t ≡ true → is_wait (status_of s' t) ≡ true → has_slot r'.crossed t ≡ true)
      → RestsWell s r → RestsWell s' r'
  rest_on slot r r' acts on crossed left well = record {
    active = λ u is. (still u is).active.1;
    intends = λ u n is. ap (is_at_least IX) ((still u is).held n) ∙ well.intends u n (parts u is).0;
    known = λ t u is waits.
        ⊎_elim (λ (before : waits_for s t u ≡ true). crossed t (well.known t u (parts u is).0 before))
        (λ now. let w = left_is_named t now in
        left t (subst (λ (x : ℕ). is_slot slot x ≡ true) w.1 (acts w.0 w.2)) (waits_is s' t u waits))
        ((still u is).waited t waits);
  }
    where
      parts : (u : ℕ) → has_slot r'.resting u ≡ true → (has_slot r.resting u ≡ true) × (not (is_slot slot u) ≡ true)
      parts u is = and_both (has_slot r.resting u) (not (is_slot slot u)) (sym (on u) ∙ is)

      still : (u : ℕ) → has_slot r'.resting u ≡ true
          → StaysAside s s' (name_at s u) (λ t. some_left_waiting t (commands run.0.0) (map (λ (l : Line). l.1) run.0.0))
      still u is =
          let was = well.active u (parts u is).0 in
          aside (name_at s u) (active_lives s u was, was)
          (not_true _ (λ named. true≢false (sym (parts u is).1 ∙ ap not (acts (name_at s u) named))))

-- a command acts in the slot of the transaction that it names
pub same_slot : (t u : TxnId) → same_txn t u ≡ true → (t.slot == u.slot) ≡ true
same_slot t u h = (and_both (t.slot == u.slot) (t.age == u.age) h).0

pub acting_acts : (c : Command) → ActsIn (acting_in c) c
acting_acts (command.Lock u n m) t h = same_slot t u h
acting_acts (command.Try u n m) t h = same_slot t u h
acting_acts (command.Unlock u n) t h = same_slot t u h
acting_acts (command.Escalate u n) t h = same_slot t u h
acting_acts (command.Cancel u) t h = same_slot t u h
acting_acts (command.Commit u) t h = same_slot t u h
acting_acts (command.Renew u since) t h = same_slot t u h
acting_acts (command.Abort u) t h = same_slot t u h
acting_acts (command.Insert u f keys) t h = same_slot t u h
acting_acts (command.Delete u r) t h = same_slot t u h
acting_acts (command.Rekey u r i key) t h = same_slot t u h
acting_acts (command.Move u n ps) t h = same_slot t u h
acting_acts (command.Drop u n) t h = same_slot t u h
acting_acts (command.IndexBy u ps f bs rs ks) t h = same_slot t u h
acting_acts (command.Split u i at) t h = same_slot t u h
acting_acts (command.Merge u i) t h = same_slot t u h
acting_acts c t h = absurd (no h)

pub and_true : (b : Bool) → (b && true) ≡ b
and_true true = refl
and_true false = refl

-- no transaction acts
pub none_acts : (slot : Option ℕ) (r : Slots) → slot ≡ None → RestOn slot r r
none_acts slot r none u = sym (and_true (has_slot r u)) ∙ ap (λ (o : Option ℕ). has_slot r u && not (is_slot o u)) (sym none)

-- nobody rests
pub nobody_rests : (s s' : State) (r : RestingView) → HasNoSlot r.resting → RestsWell s' r
nobody_rests s s' r none = record {
  active = λ u is. clash is (none u);
  intends = λ u n is. clash is (none u);
  known = λ t u is. clash is (none u);
}

-- fewer rest
pub fewer_rest : (s : State) (r r' : RestingView) → ((u : ℕ) → has_slot r'.resting u ≡ true → has_slot r.resting u ≡ true) → r'.crossed ≡ r.crossed
    → RestsWell s r → RestsWell s r'
fewer_rest s r r' fewer same well = record {
  active = λ u is. well.active u (fewer u is);
  intends = λ u n is. well.intends u n (fewer u is);
  known = λ t u is waits. ap (λ (x : Slots). has_slot x t) same ∙ well.known t u (fewer u is) waits;
}

-- those who wait for nobody who rests need not be looked at again
pub fewer_crossed : (s : State) (r : RestingView) (crossed : Slots)
    → ((t : ℕ) → has_slot r.crossed t ≡ true → has_slot crossed t ≡ false → (u : ℕ) → has_slot r.resting u ≡ true → waits_for s t u ≡ false)
    → RestsWell s r → RestsWell s (record r { crossed = crossed })
fewer_crossed s r crossed none well = record {
  active = well.active;
  intends = well.intends;
  known = λ t u is waits. split (has_slot crossed t) (λ (e : has_slot crossed t ≡ true). e) (λ e. clash waits (none t (well.known t u is waits) e u is));
}

-- and if nobody is left to be looked at, nobody waits for them
pub none_crossed : (s : State) (r : RestingView) (crossed : Slots)
    → ((t : ℕ) → has_slot r.crossed t ≡ true → has_slot crossed t ≡ false → (u : ℕ) → has_slot r.resting u ≡ true → waits_for s t u ≡ false)
    → HasNoSlot crossed → RestsWell s r → NobodyWaitsForThem s r.resting
none_crossed s r crossed none empty well t u is = not_true _ (λ waits. clash waits (none t (well.known t u is waits) (empty t) u is))

-- one more rests
pub more_rests : (s : State) (r : RestingView) (slots : Slots) (v : ℕ) → ((u : ℕ) → has_slot slots u ≡ (has_slot r.resting u || (u == v)))
    → status_of s v ≡ Some Active → ((n : NodeId) → is_at_least IX (s.held v n) ≡ true) → ((t : ℕ) → waits_for s t v ≡ false)
    → RestsWell s r → RestsWell s (record r { resting = slots })
more_rests s r slots v is active intends alone well = record {
  active = λ u on. by u on (well.active u) (λ same. subst (λ x. status_of s x ≡ Some Active) (sym same) active);
  intends = λ u n on. by u on (well.intends u n) (λ same. subst (λ x. is_at_least IX (s.held x n) ≡ true) (sym same) (intends n));
  known = λ t u on waits. by u on (λ old. well.known t u old waits) (λ same. clash waits (ap (waits_for s t) same ∙ alone t));
}
  where
    by : {C : Type 0} (u : ℕ) → has_slot slots u ≡ true → (has_slot r.resting u ≡ true → C) → (u ≡ v → C) → C
    by u on old new = or_elim (has_slot r.resting u) (u == v) (sym (is u) ∙ on) old (λ e. new (same_number u v e))

-- the transaction in a slot, by its name
pub named_is : (s : State) (u : ℕ) (t : TxnId) (st : Status) → living_in s u ≡ Some (t, st) → (t.slot ≡ u) × (lives s t ≡ true)
named_is s u t st is = by (s.txns u) refl is
  where
    by : (o : Option Txn) → s.txns u ≡ o → named_in u o ≡ Some (t, st) → (t.slot ≡ u) × (lives s t ≡ true)
    by None was e = absurd (cc e)
    by (Some x) was e =
        let name : record { slot = u; age = x.age } ≡ t = ap (λ (p : TxnId × Status). p.0) (some_is e) in
        let slot : t.slot ≡ u = ap (λ (y : TxnId). y.slot) (sym name) in (
          slot,
          ap (λ k. live_by t.age (s.txns k)) slot ∙ ap (live_by t.age) was ∙ ap (λ (y : TxnId). live_by y.age (Some x)) (sym name)
              ∙ number_same x.age x.age refl,
        )
