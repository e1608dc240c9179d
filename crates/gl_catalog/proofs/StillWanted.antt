-- What a grant leaves of a writer's path: each node below the granted one needs the parent that it needed. For Manager.lock_path_telling.
use Rattle.std.specs.Prelude.{◌≡◌, Bool, true, false, not, ◌&&◌, ◌||◌, List, [], ◌∷◌, ◌++◌, Option, Some, None, if◌then◌else◌}
use Rattle.std.specs.List.{list_all, list_any}
use Rattle.std.proofs.Common.{refl, sym, ap, ◌∙◌, subst}
use Rattle.gl_modes.proofs.ModeLemmas.{at_least-transitive, supremum-above_right}
use Rattle.gl_modes.proofs.NodeLemmas.{same_node-differ, same_node-equal}
use Rattle.gl_modes.proofs.Words.{clash, none_some, some_is, split}
use Rattle.gl_modes.specs.declared.mode.Mode.{Mode}
use Rattle.gl_modes.specs.declared.mode.Mode.TheVariants.{IS, IX}
use Rattle.gl_modes.specs.declared.node.NodeId.{NodeId}
use Rattle.gl_modes.specs.declared.refusal.Refusal.{Refusal}
use Rattle.gl_modes.specs.declared.refusal.Refusal.TheVariants as no
use Rattle.gl_modes.specs.Modes.{is_at_least, same_mode, supremum}
use Rattle.gl_modes.specs.declared.mode.Mode.TheVariants as mode
use Rattle.gl_modes.specs.Nodes.{same_node}
use Rattle.gl_graph.specs.Graph.{Graph, parents_of, shape_of}
use Rattle.gl_graph.specs.Lawful.{IsLawfulGraph}
use Rattle.gl_graph.specs.Refusals.{first_refusal, some_no_node, where_true}
use Rattle.gl_graph.specs.Routes.{IsRoute}
use Rattle.gl_graph.specs.Shapes.{is_record_shape}
use Rattle.gl_model.specs.declared.txn.TxnId.{TxnId}
use Rattle.gl_model.specs.Calls.{condemned_test, first_not_ix, first_of_all, rule_refusal, waiting_test, wanted}
use Rattle.gl_model.specs.Lawful.{IsLawful}
use Rattle.gl_model.specs.State.{State, is_write, no_parents}
use Rattle.gl_catalog.specs.Paths.{Ask, ClimbsTo, IsPathUp, KeepsBelow, KeepsPath, intention, next_ask, parent_missed, parent_wanted, path_tests}
use Rattle.gl_steps.specs.Tests.{worn}
use Rattle.gl_catalog.proofs.Climbing.{climb_route, passes, rule_of, wanted_by_rule}
use Rattle.gl_catalog.proofs.KeptPaths.{next_last}
use Rattle.gl_steps.proofs.OneStep.{AllNone, all_none}
use Rattle.gl_catalog.proofs.OwnGrants.{GrantsOwn}

-- To write, the rule of the graph lacks the first parent that is not held to write.
module _ (held : NodeId → Mode) where
  held_or_first : (ps : List NodeId) → (if list_all (λ p. is_at_least (held p) IX) ps then None else first_not_ix held ps) ≡ first_not_ix held ps
  held_or_first [] = refl
  held_or_first (p ∷ ps) = by (is_at_least (held p) IX) (held_or_first ps)
    where
      rest : Option Refusal
      rest = first_not_ix held ps

      by : (b : Bool) → (if list_all (λ q. is_at_least (held q) IX) ps then None else rest) ≡ rest
          → (if b && list_all (λ q. is_at_least (held q) IX) ps then None else (if b then rest else Some (no.NeedParents p)))
          ≡ (if b then rest else Some (no.NeedParents p))
      by true h = h
      by false h = refl

  rule_to_write : (ps : List NodeId) (m : Mode) → is_write m ≡ true → rule_refusal held ps m ≡ first_not_ix held ps
  rule_to_write ps m write =
      ap (λ b. if (if b then list_all (λ p. is_at_least (held p) IX) ps else no_parents ps || list_any (λ p. is_at_least (held p) IS) ps)
      then None else (if b then first_not_ix held ps else first_of_all ps)) write
      ∙ held_or_first ps

-- more is held of one node, and the same of all others, so another node is missed as it was
module _ (held held' : NodeId → Mode) (x q : NodeId) (same : (p : NodeId) → same_node p x ≡ false → held' p ≡ held p)
    (more : is_at_least (held' x) (held x) ≡ true) (other : same_node q x ≡ false) where
  abbrev missed : (NodeId → Mode) → NodeId → List NodeId → Bool → Option NodeId
  missed h p ps b = parent_missed (if b then first_not_ix h ps else Some (no.NeedParents p))

  abbrev Still : List NodeId → Type 0
  Still ps = parent_missed (first_not_ix held ps) ≡ Some q → parent_missed (first_not_ix held' ps) ≡ Some q

  at_x : (p : NodeId) (ps : List NodeId) → Still ps → missed held p ps (is_at_least (held p) IX) ≡ Some q → same_node p x ≡ true
      → missed held' p ps (is_at_least (held' p) IX) ≡ Some q
  at_x p ps later h e =
      split (is_at_least (held p) IX)
      (λ k. ap (missed held' p ps) (at_least-transitive (held' p) (held p) IX here k)
      ∙ later (ap (missed held p ps) (sym k) ∙ h))
      (λ k. clash (subst (λ n. same_node n x ≡ true) (some_is (ap (missed held p ps) (sym k) ∙ h)) e) other)
    where
      here : is_at_least (held' p) (held p) ≡ true
      here = subst (λ n. is_at_least (held' n) (held n) ≡ true) (sym (same_node-equal p x e)) more

  off_x : (p : NodeId) (ps : List NodeId) → Still ps → missed held p ps (is_at_least (held p) IX) ≡ Some q → same_node p x ≡ false
      → missed held' p ps (is_at_least (held' p) IX) ≡ Some q
  off_x p ps later h e = ap (λ m. missed held' p ps (is_at_least m IX)) (same p e) ∙ by (is_at_least (held p) IX) h
    where
      by : (b : Bool) → missed held p ps b ≡ Some q → missed held' p ps b ≡ Some q
      by true k = later k
      by false k = k

  missed_still : (ps : List NodeId) → Still ps
  missed_still [] h = absurd (none_some h)
  missed_still (p ∷ ps) h = split (same_node p x) (at_x p ps (missed_still ps) h) (off_x p ps (missed_still ps) h)

passed : (rs : List (Option Refusal)) → AllNone rs → first_refusal rs ≡ None
passed [] h = refl
passed (r ∷ rs) h = ap (λ o. first_refusal (o ∷ rs)) h.0 ∙ passed rs h.1

-- the intention of a write is one
intends_write : (m : Mode) → is_write m ≡ true → is_write (intention m) ≡ true
intends_write m write = ap (λ b. is_write (if b then IX else IS)) write

still_write : (a m : Mode) → is_write m ≡ true → is_write (supremum a m) ≡ true
still_write a m write = at_least-transitive (supremum a m) m IX (supremum-above_right a m) write

-- Routes in the graph.
module _ (g : Graph) where
  route_join : (n : NodeId) (path : List NodeId) (m : NodeId) (more : List NodeId) (x : NodeId) → IsRoute g n path m → IsRoute g m more x
      → IsRoute g n (path ++ more) x
  route_join n [] m more x h k = subst (λ y. IsRoute g y more x) (sym h) k
  route_join n (p ∷ path) m more x h k = (h.0, route_join p path m more x h.1 k)

  no_return : IsLawfulGraph g → (n : NodeId) (path : List NodeId) (q : NodeId) (more : List NodeId) (x : NodeId) → IsRoute g n (path ++ q ∷ more) x
      → same_node n x ≡ false
  no_return law n [] q more x h = same_node-differ n x (λ e. law.acyclic n q more (subst (λ y. IsRoute g n (q ∷ more) y) (sym e) h))
  no_return law n (p ∷ path) q more x h =
      same_node-differ n x (λ e. law.acyclic n p (path ++ q ∷ more) (subst (λ y. IsRoute g n (p ∷ path ++ q ∷ more) y) (sym e) h))

-- x was granted, and a further command can be counted
module _ (s s' : State) (law : IsLawful s) (t : TxnId) (x : NodeId) (own : GrantsOwn s s' t x) (counts : worn s' ≡ None) where
  tests_pass : (n : NodeId) (m : Mode) → first_refusal (path_tests s t n m) ≡ None → first_refusal (path_tests s' t n m) ≡ None
  tests_pass n m h =
      let all = all_none (path_tests s t n m) h in
      passed (path_tests s' t n m) (
        counts,
        (
          ap (λ b. where_true (not b) no.NoSuchTxn) own.alive,
          (
            ap waiting_test own.active,
            (
              ap condemned_test own.active,
              (
                ap (λ g. some_no_node g (n ∷ [])) own.graph ∙ all.1.1.1.1.0,
                (
                  ap (λ g. where_true (same_mode m mode.NL || (is_record_shape (shape_of g n) && not (same_mode m mode.S || same_mode m mode.X)))
                      no.BadMode) own.graph
                      ∙ all.1.1.1.1.1.0,
                  tt,
                ),
              ),
            ),
          ),
        ),
      )

  -- a request to write for another node needs the parent that it needed, if that is another too
  wanted_still : (ask : Ask) (q : NodeId) → is_write ask.1 ≡ true → same_node ask.0 x ≡ false → same_node q x ≡ false → parent_wanted s t ask ≡ Some q
      → parent_wanted s' t ask ≡ Some q
  wanted_still ask q write other off h = wanted_by_rule s' t ask (tests_pass ask.0 ask.1 free) ∙ ap parent_missed now ∙ still
    where
      ps : List NodeId
      ps = parents_of s.graph ask.0

      free : first_refusal (path_tests s t ask.0 ask.1) ≡ None
      free = passes s t ask q h

      before : parent_missed (first_not_ix (s.held t.slot) ps) ≡ Some q
      before =
          ap parent_missed (sym (rule_to_write (s.held t.slot) ps (wanted s t.slot ask.0 ask.1) (still_write (s.held t.slot ask.0) ask.1 write)))
          ∙ sym (wanted_by_rule s t ask free) ∙ h

      still : parent_missed (first_not_ix (s'.held t.slot) ps) ≡ Some q
      still = missed_still (s.held t.slot) (s'.held t.slot) x q own.elsewhere own.more off ps before

      now : rule_of s' t ask ≡ first_not_ix (s'.held t.slot) ps
      now =
          ap (λ g. rule_refusal (s'.held t.slot) (parents_of g ask.0) (wanted s' t.slot ask.0 ask.1)) own.graph
          ∙ rule_to_write (s'.held t.slot) ps (wanted s' t.slot ask.0 ask.1) (still_write (s'.held t.slot ask.0) ask.1 write)

  abbrev g : Graph
  g = s.graph

  climb_still : (a : Ask) (path : List NodeId) (b : Ask) (q : NodeId) (more : List NodeId) → is_write a.1 ≡ true → ClimbsTo s t a path b
      → IsRoute g b.0 (q ∷ more) x → ClimbsTo s' t a path b
  climb_still a [] b q more write h k = h
  climb_still a (p ∷ path) b q more write h k =
      let above = route_join g p path b.0 (q ∷ more) x (climb_route s t (p, intention a.1) path b h.1) k in
      let here = route_join g a.0 (p ∷ path) b.0 (q ∷ more) x (climb_route s t a (p ∷ path) b h) k in (
        wanted_still a p write (no_return g law.graph a.0 (p ∷ path) q more x here) (no_return g law.graph p path q more x above) h.0,
        climb_still (p, intention a.1) path b q more (intends_write a.1 write) h.1 k,
      )

  -- the route to the last
  route_up : (ask : Ask) (ps : List NodeId) → IsPathUp s t ask (ps ++ x ∷ []) → (q : NodeId) × (more : List NodeId) × IsRoute g ask.0 (q ∷ more) x
  route_up ask [] h = (h.0.0, h.0.1, climb_route s t ask (h.0.0 ∷ h.0.1) (x, intention ask.1) h.0.2)
  route_up ask (p ∷ ps) h =
      let rest = route_up (p, intention ask.1) ps h.1 in (
        h.0.0,
        h.0.1 ++ rest.0 ∷ rest.1,
        route_join g ask.0 (h.0.0 ∷ h.0.1) p (rest.0 ∷ rest.1) x (climb_route s t ask (h.0.0 ∷ h.0.1) (p, intention ask.1) h.0.2) rest.2,
      )

  path_still : (ask : Ask) (ps : List NodeId) → is_write ask.1 ≡ true → IsPathUp s t ask (ps ++ x ∷ []) → IsPathUp s' t ask ps
  path_still ask [] write h = tt
  path_still ask (p ∷ ps) write h =
      let rest = route_up (p, intention ask.1) ps h.1 in (
        (h.0.0, h.0.1, climb_still ask (h.0.0 ∷ h.0.1) (p, intention ask.1) rest.0 rest.1 write h.0.2 rest.2),
        path_still (p, intention ask.1) ps (intends_write ask.1 write) h.1,
      )

-- the nodes below a granted one are kept
pub below_kept : (s s' : State) → IsLawful s → (t : TxnId) (ask : Ask) (above : List NodeId) → GrantsOwn s s' t (next_ask ask above).0 → KeepsPath s t ask above
    → KeepsBelow s' t ask above
below_kept s s' law t ask above own kept below last is write counts =
    let at : (next_ask ask above).0 ≡ last = ap (λ ps. (next_ask ask ps).0) is ∙ ap (λ (a : Ask). a.0) (next_last ask below last) in
    path_still s s' law t last (subst (λ n. GrantsOwn s s' t n) at own) counts ask below write (subst (IsPathUp s t ask) is (kept own.counted))
