-- What a step leaves of one node: nobody has more of it than before, than it waited for, or than the command requests.
use Rattle.std.specs.Prelude.{◌≡◌, ℕ, ◌+◌, zero, suc, Bool, true, false, not, ◌&&◌, ◌||◌, ◌==◌, List, [], ◌∷◌, ◌++◌, drop, if◌then◌else◌, length}
use Rattle.std.specs.List.{filter, list_all}
use Rattle.std.proofs.Common.{refl, sym, ap, subst, ◌∙◌, arith}
use Rattle.std.proofs.lemmas.List.Folds.{list_all-append}
use Rattle.gl_modes.specs.declared.mode.Mode.{Mode}
use Rattle.gl_modes.specs.declared.mode.Mode.TheVariants.{NL, X}
use Rattle.gl_modes.specs.declared.node.NodeId.{NodeId}
use Rattle.gl_modes.specs.Modes.{is_at_least}
use Rattle.gl_modes.specs.Nodes.{same_node}
use Rattle.gl_modes.proofs.ModeLemmas.{supremum-least}
use Rattle.gl_modes.proofs.NodeLemmas.{same_node-equal}
use Rattle.gl_modes.proofs.Words.{and_both, both, same_number, split}
use Rattle.gl_graph.specs.Changes.{rekeyed_parents, without_branch, without_node}
use Rattle.gl_graph.specs.Graph.{Graph, is_live}
use Rattle.gl_header.specs.Header.{Members, Waiter, after_grants, fits, front, holds, is_waiter, placed, with_mode}
use Rattle.gl_waits.specs.declared.victims.Victims.{Victims}
use Rattle.gl_model.specs.declared.answers.Detect.{Detect}
use Rattle.gl_model.specs.declared.answers.Detect.TheVariants.{AtBlock, ByWatcher}
use Rattle.gl_model.specs.declared.txn.TxnId.{TxnId}
use Rattle.gl_model.specs.declared.txn.Status.{Status}
use Rattle.gl_model.specs.declared.txn.Status.TheVariants.{Active, Condemned}
use Rattle.gl_model.specs.Calls.{asked_by_escalation, departed, enqueued, enters_at, freed, goes_with, granted, is_covered, Locks, raised, released, stays}
use Rattle.gl_model.specs.Calls.{WaitSettles, wanted}
use Rattle.gl_model.specs.Lawful.{IsLawful}
use Rattle.gl_graph.specs.Splits.{merge, next_interval}
use Rattle.gl_model.specs.Splits.{split_by}
use Rattle.gl_model.specs.State.{SettledWithin, State, condemned, front_at, is_waiting_at, members, pumped, with_grant, with_graph, without_wait}
use Rattle.gl_model.specs.Tellings.{Told, stripped}
use Rattle.gl_model.proofs.law.Strays.{all_filtered}
use Rattle.gl_steps.specs.declared.command.Answer.{Answer}
use Rattle.gl_steps.specs.declared.command.Command.{Command}
use Rattle.gl_steps.specs.declared.command.Command.TheVariants as command
use Rattle.gl_steps.specs.Step.{Accepts, Step}
use Rattle.gl_steps.proofs.EachStep.{each_step}
use Rattle.gl_steps.proofs.OthersKeep.{birth_of}
use Rattle.gl_parts.specs.Actions.{requests}

all_drop : {A : Type 0} (p : A → Bool) (k : ℕ) (xs : List A) → list_all p xs ≡ true → list_all p (drop k xs) ≡ true
all_drop p zero xs h = h
all_drop p (suc k) [] h = refl
all_drop p (suc k) (x ∷ xs) h = all_drop p k xs (and_both _ _ h).1

-- a bound for what each slot may hold, and the waiters that may wait: those that want no more than that
module _ (b : ℕ → Mode) (ok : Waiter → Bool) (sound : (w : Waiter) → ok w ≡ true → is_at_least (b w.0) w.1 ≡ true) where
  -- nobody holds more on n, and only such waiters wait there
  abbrev pub IsWithin : State → NodeId → Type 0
  IsWithin s n = ((u : ℕ) → is_at_least (b u) (s.held u n) ≡ true) × (list_all ok (s.queue n) ≡ true)

  -- a grant within the bound
  one_within : (t : ℕ) (m : Mode) (g : Members) → is_at_least (b t) m ≡ true → ((u : ℕ) → is_at_least (b u) (g u) ≡ true) → (u : ℕ)
      → is_at_least (b u) (with_mode g t m u) ≡ true
  one_within t m g h k u =
      split (u == t) (λ e. ap (λ x. is_at_least (b u) (if x then m else g u)) e ∙ ap (λ v. is_at_least (b v) m) (same_number u t e) ∙ h)
      (λ e. ap (λ x. is_at_least (b u) (if x then m else g u)) e ∙ k u)

  grants_within : (ws : List Waiter) (g : Members) → ((u : ℕ) → is_at_least (b u) (g u) ≡ true) → list_all ok ws ≡ true → (u : ℕ)
      → is_at_least (b u) (after_grants g ws u) ≡ true
  grants_within [] g h k u = h u
  grants_within (w ∷ ws) g h k u = let it = and_both _ _ k in grants_within ws (with_mode g w.0 w.1) (one_within w.0 w.1 g (sound w it.0) h) it.1 u

  front_within : (most : ℕ) (q : List Waiter) (g : Members) → list_all ok q ≡ true → list_all ok (front most g q) ≡ true
  front_within most [] g h = refl
  front_within most (w ∷ q) g h =
      let it = and_both _ _ h in
      split (fits most g w.0 w.1)
      (λ e. ap (λ x. list_all ok (if x then w ∷ front most (with_mode g w.0 w.1) q else [])) e ∙ both _ _ it.0 (front_within most q (with_mode g w.0 w.1) it.1))
      (λ e. ap (λ x. list_all ok (if x then w ∷ front most (with_mode g w.0 w.1) q else [])) e)

  placed_within : (g : Members) (q : List Waiter) (t : ℕ) (m : Mode) → ok (t, m) ≡ true → list_all ok q ≡ true → list_all ok (placed g q t m) ≡ true
  placed_within g q t m h k =
      split (holds g t)
      (λ e. ap (λ x. list_all ok (if x then filter (λ w. holds g w.0) q ++ (t, m) ∷ filter (λ w. not (holds g w.0)) q else q ++ (t, m) ∷ [])) e
      ∙ list_all-append ok (filter (λ w. holds g w.0) q) ((t, m) ∷ filter (λ w. not (holds g w.0)) q)
      ∙ both _ _ (all_filtered ok (λ w. holds g w.0) q k) (both _ _ h (all_filtered ok (λ w. not (holds g w.0)) q k)))
      (λ e. ap (λ x. list_all ok (if x then filter (λ w. holds g w.0) q ++ (t, m) ∷ filter (λ w. not (holds g w.0)) q else q ++ (t, m) ∷ [])) e
      ∙ list_all-append ok q ((t, m) ∷ []) ∙ both _ _ k (both _ _ h refl))

  module _ (n : NodeId) where
    -- each kind of change

    lowered : (s : State) (lower : ℕ → Bool) → IsWithin s n → (u : ℕ) → is_at_least (b u) (if lower u then NL else s.held u n) ≡ true
    lowered s lower h u = by (lower u)
      where
        by : (x : Bool) → is_at_least (b u) (if x then NL else s.held u n) ≡ true
        by true = refl
        by false = h.0 u

    pumped_within : (s : State) (chosen : NodeId → Bool) → IsWithin s n → IsWithin (pumped s chosen) n
    pumped_within s chosen h = by (chosen n)
      where
        by : (x : Bool) → ((u : ℕ) → is_at_least (b u) (after_grants (members s n) (if x then front_at s n else []) u) ≡ true)
            × (list_all ok (drop (length (if x then front_at s n else [])) (s.queue n)) ≡ true)
        by true = (
          grants_within (front_at s n) (members s n) h.0 (front_within s.most (s.queue n) (members s n) h.1),
          all_drop ok (length (front_at s n)) (s.queue n) h.1,
        )
        by false = h

    waitless_within : (s : State) (t : ℕ) (st : Status) → IsWithin s n → IsWithin (without_wait s t st) n
    waitless_within s t st h = (h.0, all_filtered ok (λ w. not (is_waiter t w)) (s.queue n) h.1)

    over_within : (s : State) (t : ℕ) (st : Status) → IsWithin s n → IsWithin (pumped (without_wait s t st) (is_waiting_at s t)) n
    over_within s t st h = pumped_within (without_wait s t st) (is_waiting_at s t) (waitless_within s t st h)

    settled_within : (c : Victims) (k : ℕ) (s s' : State) (t : ℕ) → SettledWithin c k s t s' → IsWithin s n → IsWithin s' n
    settled_within c zero s s' t settled h = subst (λ x. IsWithin x n) (sym settled.1) h
    settled_within c (suc k) s s' t settled h = settled_within c k (condemned s settled.0) s' t settled.2 (over_within s settled.0 Condemned h)

    wait_settles_within : (d : Detect) (c : Victims) (s s' : State) (t : ℕ) → WaitSettles d c s t s' → IsWithin s n → IsWithin s' n
    wait_settles_within AtBlock c s s' t settled h = settled_within c settled.0 s s' t settled.1 h
    wait_settles_within ByWatcher c s s' t is h = subst (λ x. IsWithin x n) (sym is) h

    -- a grant on some node
    granted_within : (s : State) (t : ℕ) (q : NodeId) (m : Mode) → IsWithin s n → ((u : ℕ) → ((u == t) && same_node n q) ≡ true → is_at_least (b u) m ≡ true)
        → IsWithin (with_grant s t q m) n
    granted_within s t q m h fit = (
      λ u. split ((u == t) && same_node n q)
          (λ e. ap (λ x. is_at_least (b u) (if x then m else s.held u n)) e ∙ fit u e)
          (λ e. ap (λ x. is_at_least (b u) (if x then m else s.held u n)) e ∙ h.0 u),
      h.1,
    )

    -- what is held with what is requested
    wanted_within : (s : State) (t : ℕ) (q : NodeId) (m : Mode) → IsWithin s n
        → ((u : ℕ) → is_at_least (b u) (if (u == t) && same_node n q then m else NL) ≡ true)
        → (u : ℕ) → ((u == t) && same_node n q) ≡ true → is_at_least (b u) (wanted s t q m) ≡ true
    wanted_within s t q m h asked u e =
        let it = and_both _ _ e in
        let held : is_at_least (b u) (s.held t q) ≡ true = subst (λ v. is_at_least (b u) (s.held v q) ≡ true) (same_number u t it.0)
        (subst (λ x. is_at_least (b u) (s.held u x) ≡ true) (same_node-equal n q it.1) (h.0 u)) in
        let more : is_at_least (b u) m ≡ true = sym (ap (λ x. is_at_least (b u) (if x then m else NL)) e) ∙ asked u in
        supremum-least (b u) (s.held t q) m ∙ both _ _ held more

    raised_within : (s : State) (t : ℕ) (q : NodeId) (m : Mode) → IsWithin s n
        → ((u : ℕ) → is_at_least (b u) (if (u == t) && same_node n q then m else NL) ≡ true)
        → IsWithin (granted s t q m) n
    raised_within s t q m h asked = granted_within s t q (wanted s t q m) h (wanted_within s t q m h asked)

    -- a wait on some node
    enqueued_within : (s : State) (t : ℕ) (q : NodeId) (m : Mode) → IsWithin s n → (n ≡ q → ok (t, m) ≡ true) → IsWithin (enqueued s t q m) n
    enqueued_within s t q m h fit = (
      h.0,
      split (same_node n q)
          (λ e. ap (λ x. list_all ok (if x then placed (members s q) (s.queue q) t m else s.queue n)) e
          ∙ placed_within (members s q) (s.queue q) t m (fit (same_node-equal n q e)) (subst (λ x. list_all ok (s.queue x) ≡ true) (same_node-equal n q e) h.1))
          (λ e. ap (λ x. list_all ok (if x then placed (members s q) (s.queue q) t m else s.queue n)) e ∙ h.1),
    )

    departed_within : (s : State) (goes : NodeId → Bool) (g : Graph) → IsWithin s n → IsWithin (departed s goes g) n
    departed_within s goes g h = (lowered s (λ _. goes n) h, by (goes n))
      where
        by : (x : Bool) → list_all ok (if x then [] else s.queue n) ≡ true
        by true = refl
        by false = h.1

    moved_within : (s : State) (q : NodeId) (ps : List NodeId) → IsWithin s n
        → list_all ok (if same_node n q then filter (stays s ps) (s.queue n) else s.queue n) ≡ true
    moved_within s q ps h = by (same_node n q)
      where
        by : (x : Bool) → list_all ok (if x then filter (stays s ps) (s.queue n) else s.queue n) ≡ true
        by true = all_filtered ok (stays s ps) (s.queue n) h.1
        by false = h.1

    released_within : (s : State) (t : ℕ) → IsWithin s n → IsWithin (released s t) n
    released_within s t h =
        pumped_within (stripped s t) (λ q. holds (members s q) t || is_waiting_at s t q)
        (lowered s (λ u. u == t) h, all_filtered ok (λ w. not (is_waiter t w)) (s.queue n) h.1)

  -- a command that is accepted: n lives, the command requests no more, and if it waits on n, it may
  module _ (s : State) (law : IsLawful s) (n : NodeId) (live : is_live s.graph n ≡ true) (h : IsWithin s n) (next : State) where
    on : (made : State) → next ≡ made → IsWithin made n → IsWithin next n
    on made is k = subst (λ x. IsWithin x n) (sym is) k

    -- a new node is another
    born : (t : ℕ) (q : NodeId) → q.birth ≡ s.graph.births + 1 → next ≡ with_grant (with_graph s next.graph) t q X → IsWithin next n
    born t q birth is =
        let old = birth_of s.graph law.graph n live in
        on _ is (granted_within n (with_graph s next.graph) t q X h
        (λ u e. let same = ap (λ (x : NodeId). x.birth) (same_node-equal n q (and_both (u == t) (same_node n q) e).1) in absurd (omega arith)))

    -- an interval is split, and the new one is another
    parted : (t : ℕ) (i q : NodeId) → q.birth ≡ s.graph.births + 1 → next ≡ split_by s t i next.graph q → IsWithin next n
    parted t i q birth is =
        let old = birth_of s.graph law.graph n live in
        let mid : State = record s { graph = next.graph; queue = λ p. if same_node p i then [] else s.queue p; txns = λ u. freed i (s.txns u) } in
        on _ is (granted_within n mid t q X (h.0, emptied (same_node n i))
        (λ u e. let same = ap (λ (x : NodeId). x.birth) (same_node-equal n q (and_both (u == t) (same_node n q) e).1) in absurd (omega arith)))
      where
        emptied : (x : Bool) → list_all ok (if x then [] else s.queue n) ≡ true
        emptied true = refl
        emptied false = h.1

    locked : (t : ℕ) (q : NodeId) (m : Mode) → ((u : ℕ) → is_at_least (b u) (if (u == t) && same_node n q then m else NL) ≡ true)
        → (n ≡ q → enters_at s t q m ≡ false → ok (t, wanted s t q m) ≡ true) → Locks s t q m next → IsWithin next n
    locked t q m asked waits locks =
        split (enters_at s t q m) (λ e. on _ (locks.at_once e) (raised_within n s t q m h asked))
        (λ e. wait_settles_within n s.detect s.victims (enqueued s t q (wanted s t q m)) next t (locks.waits e)
        (enqueued_within n s t q (wanted s t q m) h (λ is. waits is e)))

    shed_within : (t : ℕ) (q : NodeId) → ((u : ℕ) → is_at_least (b u) (if (u == t) && same_node n q then asked_by_escalation s t q else NL) ≡ true)
        → IsWithin (pumped (record (raised s t q) { held = λ u c. if (u == t) && is_covered (raised s t q) t q c then NL else (raised s t q).held u c })
        (is_covered (raised s t q) t q)) n
    shed_within t q asked =
        let up : State = raised s t q in
        let k : IsWithin up n = raised_within n s t q (asked_by_escalation s t q) h asked in
        pumped_within n (record up { held = λ u c. if (u == t) && is_covered up t q c then NL else up.held u c }) (is_covered up t q)
        (lowered n up (λ u. (u == t) && is_covered up t q n) k, k.1)

    pub accepted : (c : Command) (a : Answer) (told : Told) → ((u : ℕ) → is_at_least (b u) (requests s c u n) ≡ true)
        → ((t : TxnId) (m : Mode) → c ≡ command.Lock t n m → enters_at s t.slot n m ≡ false → ok (t.slot, wanted s t.slot n m) ≡ true)
        → Accepts s c a told next → IsWithin next n
    accepted (command.Inner ps) a told asked waits acc = on _ acc.4 h
    accepted (command.File ps) a told asked waits acc = on _ acc.4 h
    accepted (command.Index ps f bs) a told asked waits acc = on _ acc.4 h
    accepted command.Begin a told asked waits acc = on _ acc.4 h
    accepted (command.BeginAgain since) a told asked waits acc = on _ acc.4 h
    accepted (command.Join t since) a told asked waits acc = on _ acc.2 h
    accepted (command.Lock t q m) a told asked waits acc =
        locked t.slot q m asked
        (λ is. subst (λ x. enters_at s t.slot x m ≡ false → ok (t.slot, wanted s t.slot x m) ≡ true) is (waits t m (ap (λ x. command.Lock t x m) (sym is))))
        acc.0
    accepted (command.Try t q m) a told asked waits acc = on _ acc.2 (raised_within n s t.slot q m h asked)
    accepted (command.Unlock t q) a told asked waits acc =
        on _ acc.2 (pumped_within n (with_grant s t.slot q NL) (same_node q) (granted_within n s t.slot q NL h (λ u e. refl)))
    accepted (command.Escalate t q) a told asked waits acc = on _ acc.2 (shed_within t.slot q asked)
    accepted (command.Cancel t) a told asked waits acc = on _ acc.2 (over_within n s t.slot Active h)
    accepted (command.Commit t) a told asked waits acc = on _ acc.2 (released_within n s t.slot h)
    accepted (command.Renew t since) a told asked waits acc = on _ acc.2 h
    accepted (command.Abort t) a told asked waits acc = on _ acc.2 (released_within n s t.slot h)
    accepted (command.Settle t) a told asked waits acc = settled_within n s.victims acc.2.0 s next t.slot acc.2.1 h
    accepted (command.Insert t f keys) a told asked waits acc = born t.slot acc.0 acc.1.birth acc.4
    accepted (command.Delete t r) a told asked waits acc = on _ acc.2 (departed_within n s (λ q. same_node q r) (without_node s.graph r) h)
    accepted (command.Rekey t r i key) a told asked waits acc = on _ acc.2 (h.0, moved_within n s r (rekeyed_parents s.graph r i key) h)
    accepted (command.Move t q ps) a told asked waits acc = on _ acc.2 (h.0, moved_within n s q ps.now h)
    accepted (command.Group q) a told asked waits acc = absurd acc
    accepted (command.Held t q) a told asked waits acc = absurd acc
    accepted (command.Effective t q) a told asked waits acc = absurd acc
    accepted (command.Adopt f keys) a told asked waits acc = on _ acc.4 h
    accepted (command.Forget r) a told asked waits acc = on _ acc.2 h
    accepted (command.Drop t q) a told asked waits acc = on _ acc.2 (departed_within n s (goes_with s.graph q) (without_branch s.graph q) h)
    accepted (command.IndexBy t ps f bs rs ks) a told asked waits acc = born t.slot acc.0 acc.1.index.birth acc.4
    accepted (command.Split t i bound) a told asked waits acc = parted t.slot i acc.0 acc.1.birth acc.4
    accepted (command.Merge t i) a told asked waits acc =
        on _ acc.2 (departed_within n s (λ q. same_node q (next_interval s.graph i)) (merge s.graph i) h)

  -- and so after each step
  pub step_within : (s s' : State) (c : Command) (a : Answer) (told : Told) (n : NodeId) → IsLawful s → is_live s.graph n ≡ true
      → ((u : ℕ) → is_at_least (b u) (requests s c u n) ≡ true)
      → ((t : TxnId) (m : Mode) → c ≡ command.Lock t n m → enters_at s t.slot n m ≡ false → ok (t.slot, wanted s t.slot n m) ≡ true)
      → Step s c a told s' → IsWithin s n → IsWithin s' n
  step_within s s' c a told n law live asked waits step h =
      each_step (λ x. IsWithin x n) s c a told s' h (λ next k. k) (λ free next acc. accepted s law n live h next c a told asked waits acc) step
