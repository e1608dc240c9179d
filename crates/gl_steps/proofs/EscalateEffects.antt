-- An escalate lowers the caller's effective mode on no node.
use Rattle.gl_steps.proofs.Words.{◌&&◌, ◌++◌, ◌==◌, [], ◌||◌, ◌∙◌, ◌∷◌, ◌≡◌, Active, and_both, ap, ap₂, asked_by_escalation, at_least-refl, Bool, both, eff_s}
use Rattle.gl_steps.proofs.Words.{eff_s_route, eff_x, effective, EffX, false, granted_at, Graph, holds, if◌then◌else◌, is_among_waiters, is_at_least}
use Rattle.gl_steps.proofs.Words.{is_at_least_effect, is_child, is_covered, is_live, is_read, is_some, IsLawful, IsRoute, List, list_all, list_any, members}
use Rattle.gl_steps.proofs.Words.{Mode, NL, no, no_parents, node_at, node_count, NodeId, nodes, None, none_refused, not, not-true, or_elim, or_left, or_no}
use Rattle.gl_steps.proofs.Words.{or_right, parents_in, parents_of, raised, read_on_eff, refl, rules, S, same_mode, same_node, same_node-equal, same_node-refl}
use Rattle.gl_steps.proofs.Words.{shed, Some, split, State, status_of, suc, sym, tests_of, true, true≢false, Waiter, waits_at, wanted, X, zero, ℕ}
use Rattle.gl_modes.proofs.Words.{cases_of, number_same}
use Rattle.gl_modes.specs.Modes.{supremum}
use Rattle.gl_model.specs.declared.answers.Effect.TheVariants as effect
use Rattle.gl_steps.specs.declared.command.Command.TheVariants as command
use Rattle.gl_header.specs.Header.{fits, front, is_waiter, Members, with_mode}
use Rattle.gl_model.specs.State.{front_at, is_write}
use Rattle.gl_model.specs.Calls.{holds_child}
use Rattle.gl_steps.specs.Promises.{EscalateLowersNone}
use Rattle.gl_graph.proofs.Look.{all_at, child_live}
use Rattle.gl_graph.proofs.Routes.{join}
use Rattle.gl_graph.proofs.Moved.{some_at}
use Rattle.gl_graph.proofs.RouteLengths.{listed}
use Rattle.gl_model.proofs.law.Effects.{cut_set_on}
use Rattle.gl_model.proofs.law.Records.{nobody_holds}
use Rattle.gl_steps.proofs.EachStep.{each_step}
use Rattle.gl_steps.proofs.Keeps.{effect_refl, read_more, x_more}
use Rattle.gl_steps.proofs.NotRefused.{active_is}
use Rattle.gl_modes.proofs.ModeLemmas.{supremum-above}
use Rattle.gl_model.proofs.queues.Waiters.{grants_other}

sup_reads : (a b : Mode) → is_read b ≡ true → is_read (supremum a b) ≡ true
sup_reads a b h = search rules

-- one that does not wait is granted nothing from a queue
front_among : (most : ℕ) (g : Members) (t : ℕ) (q : List Waiter) → is_among_waiters t q ≡ false → is_among_waiters t (front most g q) ≡ false
front_among most g t [] h = refl
front_among most g t (w ∷ q) h =
    let both = or_no (is_waiter t w) (is_among_waiters t q) h in
    split (fits most g w.0 w.1)
    (λ e. ap (λ b. is_among_waiters t (if b then w ∷ front most (with_mode g w.0 w.1) q else [])) e
    ∙ ap₂ (λ a b. a || b) both.0 (front_among most (with_mode g w.0 w.1) t q both.1))
    (λ e. ap (λ b. is_among_waiters t (if b then w ∷ front most (with_mode g w.0 w.1) q else [])) e)

dead_x : (g : Graph) (held : NodeId → Mode) (k : ℕ) (q : NodeId) → node_at g q ≡ None → held q ≡ NL → eff_x k g held q ≡ false
dead_x g held zero q e h = ap (λ m. same_mode m X) h
dead_x g held (suc k) q e h = ap₂ (λ m o. same_mode m X || (not (no_parents (parents_in o)) && list_all (eff_x k g held) (parents_in o))) h e

pub dead_s : (g : Graph) (held : NodeId → Mode) (k : ℕ) (q : NodeId) → node_at g q ≡ None → held q ≡ NL → eff_s k g held q ≡ false
dead_s g held zero q e h = ap is_read h
dead_s g held (suc k) q e h = ap₂ (λ m o. is_read m || list_any (eff_s k g held) (parents_in o)) h e

effects : (x y x' y' : Bool) → (x ≡ true → x' ≡ true) → (y ≡ true → y' ≡ true)
    → is_at_least_effect (if x' then effect.X else (if y' then effect.S else effect.None))
    (if x then effect.X else (if y then effect.S else effect.None)) ≡ true
effects x y true y' f g = refl
effects true y false y' f g = absurd (no (f refl))
effects false true false true f g = refl
effects false true false false f g = absurd (no (g refl))
effects false false false true f g = refl
effects false false false false f g = refl

module _ (s : State) (law : IsLawful s) (t : ℕ) (n : NodeId) (active : status_of s t ≡ Some Active) where
  abbrev up : State
  up = raised s t n

  abbrev gone : NodeId → Bool
  gone p = is_covered up t n p

  abbrev after : State
  after = shed up t n

  not_waiting : (p : NodeId) → is_among_waiters t (s.queue p) ≡ false
  not_waiting p = split (is_among_waiters t (s.queue p)) (λ e. absurd (no (sym (ap (λ o. waits_at o p) active) ∙ law.waits_are t p e))) (λ e. e)

  held_after : (p : NodeId) → after.held t p ≡ (if gone p then NL else up.held t p)
  held_after p =
      let x : State = record up { held = λ u c. if (u == t) && gone c then NL else up.held u c } in
      grants_other (granted_at x gone p) (members x p) t (split (gone p)
      (λ e. ap (λ b. is_among_waiters t (if b then front_at x p else [])) e ∙ front_among x.most (members x p) t (x.queue p) (not_waiting p))
      (λ e. ap (λ b. is_among_waiters t (if b then front_at x p else [])) e))
      ∙ ap (λ b. if b && gone p then NL else up.held t p) (number_same t t refl)

  held_kept : (p : NodeId) → gone p ≡ false → after.held t p ≡ up.held t p
  held_kept p e = held_after p ∙ ap (λ b. if b then NL else up.held t p) e

  grew : (p : NodeId) → is_at_least (up.held t p) (s.held t p) ≡ true
  grew p =
      ap (λ b. is_at_least (if b && same_node p n then wanted s t n (asked_by_escalation s t n) else s.held t p) (s.held t p)) (number_same t t refl)
      ∙ split (same_node p n)
      (λ e. ap (λ b. is_at_least (if b then wanted s t n (asked_by_escalation s t n) else s.held t p) (s.held t p)) e
      ∙ ap (λ x. is_at_least (wanted s t n (asked_by_escalation s t n)) (s.held t x)) (same_node-equal p n e)
      ∙ supremum-above (s.held t n) (asked_by_escalation s t n))
      (λ e. ap (λ b. is_at_least (if b then wanted s t n (asked_by_escalation s t n) else s.held t p) (s.held t p)) e ∙ at_least-refl (s.held t p))

  asked_reads : is_read (asked_by_escalation s t n) ≡ true
  asked_reads = by (list_any (λ c. is_child s.graph n c && is_write (s.held t c)) (nodes s.graph))
    where
      by : (b : Bool) → is_read (if b then X else S) ≡ true
      by true = refl
      by false = refl

  node_reads : is_read (up.held t n) ≡ true
  node_reads =
      ap (λ b. is_read (if b then wanted s t n (asked_by_escalation s t n) else s.held t n)) (both _ _ (number_same t t refl) (same_node-refl n))
      ∙ sup_reads (s.held t n) (asked_by_escalation s t n) asked_reads

  -- what it says that a child is covered
  covers : (c : NodeId) → gone c ≡ true → (is_child s.graph n c ≡ true) × (holds (members up c) t ≡ true) × (holds_child up t c ≡ false)
      × ((not (same_mode (up.held t c) X) || list_all (λ p. same_mode (up.held t p) X) (parents_of s.graph c)) ≡ true)
  covers c h =
      let a = and_both (is_child s.graph n c && holds (members up c) t && not (holds_child up t c))
      (not (same_mode (up.held t c) X) || list_all (λ p. same_mode (up.held t p) X) (parents_of s.graph c)) h in
      let b = and_both (is_child s.graph n c && holds (members up c) t) (not (holds_child up t c)) a.0 in
      let d = and_both (is_child s.graph n c) (holds (members up c) t) b.0 in
      (d.0, d.1, not-true (holds_child up t c) b.1, a.1)

  node_stays : gone n ≡ false
  node_stays = split (gone n) (λ e. absurd (law.graph.acyclic n n [] ((covers n e).0, refl))) (λ e. e)

  -- a parent of a child that is released is not released
  above_stays : (c p : NodeId) → gone c ≡ true → is_child s.graph p c ≡ true → gone p ≡ false
  above_stays c p h child =
      split (gone p)
      (λ e.
      let c_held = (covers c h).1 in
      let there = some_at (λ x. is_child s.graph p x && holds (members up x) t) (nodes s.graph) c
      (listed s.graph law.graph c (child_live s.graph c p child)) (both _ _ child c_held) in
      absurd (true≢false (sym there ∙ (covers p e).2)))
      (λ e. e)

  x_kept : (p : NodeId) → gone p ≡ false → same_mode (s.held t p) X ≡ true → same_mode (after.held t p) X ≡ true
  x_kept p e h = ap (λ m. same_mode m X) (held_kept p e) ∙ x_more (s.held t p) (up.held t p) (grew p) h

  -- a cut stays one
  path_x : (q r : NodeId) (walk : List NodeId) → IsRoute s.graph q walk r → parents_of s.graph r ≡ []
      → list_any (λ p. same_mode (s.held t p) X) (q ∷ walk) ≡ true → list_any (λ p. same_mode (after.held t p) X) (q ∷ walk) ≡ true
  path_x q r [] route root h =
      or_elim (same_mode (s.held t q) X) false h
      (λ here. or_left (same_mode (after.held t q) X) false
      (x_kept q (split (gone q) (λ e. absurd (no (sym (ap (list_any (same_node n)) (ap (parents_of s.graph) route ∙ root)) ∙ (covers q e).0)))
      (λ e. e)) here)) (λ none. absurd (no none))
  path_x q r (p ∷ walk) route root h =
      or_elim (same_mode (s.held t q) X) (list_any (λ y. same_mode (s.held t y) X) (p ∷ walk)) h
      (λ here. split (gone q)
      (λ e.
      let at_q = x_more (s.held t q) (up.held t q) (grew q) here in
      let above = or_elim (not (same_mode (up.held t q) X)) (list_all (λ y. same_mode (up.held t y) X) (parents_of s.graph q)) (covers q e).3
      (λ f. absurd (no (sym (ap not at_q) ∙ f))) (λ a. a) in
      let at_p : same_mode (up.held t p) X ≡ true = all_at (λ y. same_mode (up.held t y) X) (parents_of s.graph q) p route.0 above in
      or_right (same_mode (after.held t q) X) _
      (or_left (same_mode (after.held t p) X) _ (ap (λ m. same_mode m X) (held_kept p (above_stays q p e route.0)) ∙ at_p)))
      (λ e. or_left (same_mode (after.held t q) X) _ (x_kept q e here)))
      (λ there. or_right (same_mode (after.held t q) X) _ (path_x p r walk route.1 root there))

  x_later : (q : NodeId) → is_live s.graph q ≡ true → EffX s t q → EffX after t q
  x_later q live h = (cut_set_on after law.graph t q live).1
      (λ walk path. path_x q path.0 walk path.1 path.2.1 ((cut_set_on s law.graph t q live).0 h walk path))

  s_later : (q : NodeId) → is_live s.graph q ≡ true → eff_s (node_count s.graph) s.graph (s.held t) q ≡ true
      → eff_s (node_count s.graph) s.graph (after.held t) q ≡ true
  s_later q live h =
      let old = eff_s_route s.graph (s.held t) (node_count s.graph) q h in
      split (gone old.0)
      (λ e.
      let walk = join s.graph q old.0 n old.1 (n ∷ []) old.2 ((covers old.0 e).0, refl) in
      found n (old.1 ++ n ∷ []) walk (ap is_read (held_kept n node_stays) ∙ node_reads))
      (λ e. found old.0 old.1 old.2 (ap is_read (held_kept old.0 e) ∙ read_more (s.held t old.0) (up.held t old.0) (grew old.0) old.3))
    where
      found : (r : NodeId) (walk : List NodeId) → IsRoute s.graph q walk r → is_read (after.held t r) ≡ true
          → eff_s (node_count s.graph) s.graph (after.held t) q ≡ true
      found r walk route reads = read_on_eff s.graph law.graph (after.held t) q live (r, walk, route, reads)

  pub lowers_none : (q : NodeId) → is_at_least_effect (effective after t q) (effective s t q) ≡ true
  lowers_none q =
      cases_of (node_at s.graph q)
      (λ gone'.
      let nothing = nobody_holds s law t q (λ live. no (sym (ap is_some gone') ∙ live)) in
      effects (eff_x (node_count s.graph) s.graph (s.held t) q) (eff_s (node_count s.graph) s.graph (s.held t) q)
      (eff_x (node_count s.graph) s.graph (after.held t) q) (eff_s (node_count s.graph) s.graph (after.held t) q)
      (λ h. absurd (true≢false (sym h ∙ dead_x s.graph (s.held t) (node_count s.graph) q gone' nothing)))
      (λ h. absurd (true≢false (sym h ∙ dead_s s.graph (s.held t) (node_count s.graph) q gone' nothing))))
      (λ x there.
      effects (eff_x (node_count s.graph) s.graph (s.held t) q) (eff_s (node_count s.graph) s.graph (s.held t) q)
      (eff_x (node_count s.graph) s.graph (after.held t) q) (eff_s (node_count s.graph) s.graph (after.held t) q)
      (x_later q (ap is_some there)) (s_later q (ap is_some there)))

pub escalate_lowers_none : EscalateLowersNone
escalate_lowers_none t n s s' a told law step q =
    each_step (λ x. is_at_least_effect (effective x t.slot q) (effective s t.slot q) ≡ true) s (command.Escalate t n) a told s'
    (effect_refl (effective s t.slot q)) (λ next same. same)
    (λ free next acc.
    let ok = none_refused (tests_of s (command.Escalate t n)) free in
    ap (λ x. is_at_least_effect (effective x t.slot q) (effective s t.slot q)) acc.2 ∙ lowers_none s law t.slot n (active_is s t (ok 1) (ok 2) (ok 3)) q)
    step
