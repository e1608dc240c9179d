-- Climbs to the first request of a path: each step is from a node to a parent of it, so that a climb has fewer steps than the graph has nodes. For
-- Manager.lock_first.
use Rattle.std.specs.Prelude.{◌≡◌, Bool, true, false, ◌||◌, List, [], ◌∷◌, ◌++◌, length, Option, Some, None, is_some, if◌then◌else◌}
use Rattle.std.specs.List.{AllByRecursion, list_any}
use Rattle.std.proofs.Common.{refl, sym, ap, ◌∙◌, arith}
use Rattle.gl_modes.proofs.NodeLemmas.{same_node-from_equal}
use Rattle.gl_modes.proofs.Words.{cases_of, no as never, none_some, or_left, or_right, some_is}
use Rattle.gl_modes.specs.declared.mode.Mode.{Mode}
use Rattle.gl_modes.specs.declared.mode.Mode.TheVariants.{IX}
use Rattle.gl_modes.specs.declared.node.NodeId.{NodeId}
use Rattle.gl_modes.specs.declared.refusal.Refusal.{Refusal}
use Rattle.gl_modes.specs.declared.refusal.Refusal.TheVariants as no
use Rattle.gl_modes.specs.Modes.{is_at_least}
use Rattle.gl_modes.specs.Nodes.{same_node}
use Rattle.gl_graph.specs.Graph.{Node, is_live, node_at, node_count, parents_in, parents_of}
use Rattle.gl_graph.specs.Lawful.{IsLawfulGraph}
use Rattle.gl_graph.specs.Refusals.{first_refusal, where_true}
use Rattle.gl_graph.specs.Routes.{IsRoute}
use Rattle.gl_graph.proofs.RouteLengths.{route_short}
use Rattle.gl_model.specs.declared.txn.Status.{Status}
use Rattle.gl_model.specs.declared.txn.Status.TheVariants.{Active, Condemned, Waiting}
use Rattle.gl_model.specs.declared.txn.TxnId.{TxnId}
use Rattle.gl_model.specs.Calls.{condemned_test, first_not_ix, first_of_all, need_parents, rule_refusal, waiting_test, wanted}
use Rattle.gl_model.specs.State.{State, intends_over, is_write}
use Rattle.gl_catalog.specs.Paths.{Ask, ClimbsTo, intention, parent_missed, parent_wanted, path_tests}
use Rattle.gl_steps.specs.Tests.{is_cycle}

-- a test that finds no parent missing, and no cycle closed
abbrev Plain : Option Refusal → Type 0
Plain a = (parent_missed a ≡ None) × (is_cycle a ≡ false)

first_plain : (xs : List (Option Refusal)) → AllByRecursion Plain xs → Plain (first_refusal xs)
first_plain [] all = (refl, refl)
first_plain (None ∷ xs) all = first_plain xs all.1
first_plain (Some r ∷ xs) all = all.0

plain : (b : Bool) (r : Refusal) → Plain (Some r) → Plain (where_true b r)
plain true r h = h
plain false r h = (refl, refl)

plain_waiting : (o : Option Status) → Plain (waiting_test o)
plain_waiting None = (refl, refl)
plain_waiting (Some Active) = (refl, refl)
plain_waiting (Some (Waiting n m)) = (refl, refl)
plain_waiting (Some Condemned) = (refl, refl)

plain_condemned : (o : Option Status) → Plain (condemned_test o)
plain_condemned None = (refl, refl)
plain_condemned (Some Active) = (refl, refl)
plain_condemned (Some (Waiting n m)) = (refl, refl)
plain_condemned (Some Condemned) = (refl, refl)

-- the tests without those of parents
pub plain_tests : (s : State) (t : TxnId) (n : NodeId) (m : Mode) → Plain (first_refusal (path_tests s t n m))
plain_tests s t n m =
    first_plain (path_tests s t n m) (
      plain _ no.WornOut (refl, refl),
      (
        plain _ no.NoSuchTxn (refl, refl),
        (plain_waiting _, (plain_condemned _, (plain _ no.NoSuchNode (refl, refl), (plain _ no.BadMode (refl, refl), tt)))),
      ),
    )

-- the first refusal of a longer list
pub first_stays : (xs ys : List (Option Refusal)) (q : Refusal) → first_refusal xs ≡ Some q → first_refusal (xs ++ ys) ≡ Some q
first_stays [] ys q h = absurd (none_some h)
first_stays (None ∷ xs) ys q h = first_stays xs ys q h
first_stays (Some r ∷ xs) ys q h = h

first_after : (xs ys : List (Option Refusal)) → first_refusal xs ≡ None → first_refusal (xs ++ ys) ≡ first_refusal ys
first_after [] ys h = refl
first_after (None ∷ xs) ys h = first_after xs ys h
first_after (Some r ∷ xs) ys h = absurd (none_some (sym h))

alone : (a : Option Refusal) → first_refusal (a ∷ []) ≡ a
alone None = refl
alone (Some r) = refl

-- the parent that the rule of the graph lacks is one of these
not_ix_in : (held : NodeId → Mode) (ps : List NodeId) (p : NodeId) → parent_missed (first_not_ix held ps) ≡ Some p → list_any (same_node p) ps ≡ true
not_ix_in held [] p h = absurd (none_some h)
not_ix_in held (q ∷ ps) p h = by (not_ix_in held ps p) (is_at_least (held q) IX) h
  where
    by : (parent_missed (first_not_ix held ps) ≡ Some p → list_any (same_node p) ps ≡ true) → (b : Bool)
        → parent_missed (if b then first_not_ix held ps else Some (no.NeedParents q)) ≡ Some p → (same_node p q || list_any (same_node p) ps) ≡ true
    by later true h' = or_right (same_node p q) _ (later h')
    by later false h' = or_left (same_node p q) _ (same_node-from_equal p q (sym (some_is h')))

first_in_all : (ps : List NodeId) (p : NodeId) → parent_missed (first_of_all ps) ≡ Some p → list_any (same_node p) ps ≡ true
first_in_all [] p h = absurd (none_some h)
first_in_all (q ∷ ps) p h = or_left (same_node p q) _ (same_node-from_equal p q (sym (some_is h)))

rule_in : (held : NodeId → Mode) (ps : List NodeId) (m : Mode) (p : NodeId) → parent_missed (rule_refusal held ps m) ≡ Some p → list_any (same_node p) ps ≡ true
rule_in held ps m p h = by (intends_over held ps m) (is_write m) h
  where
    by : (a b : Bool) → parent_missed (if a then None else (if b then first_not_ix held ps else first_of_all ps)) ≡ Some p → list_any (same_node p) ps ≡ true
    by true b h' = absurd (none_some h')
    by false true h' = not_ix_in held ps p h'
    by false false h' = first_in_all ps p h'

module _ (s : State) (t : TxnId) where
  -- the rule of the graph for a request
  abbrev pub rule_of : Ask → Option Refusal
  rule_of ask = need_parents s t.slot ask.0 (wanted s t.slot ask.0 ask.1)

  -- a request that passes the tests without those of parents needs the parent that the rule of the graph lacks
  pub wanted_by_rule : (ask : Ask) → first_refusal (path_tests s t ask.0 ask.1) ≡ None → parent_wanted s t ask ≡ parent_missed (rule_of ask)
  wanted_by_rule ask e =
      let is : first_refusal (path_tests s t ask.0 ask.1 ++ rule_of ask ∷ []) ≡ rule_of ask =
      first_after (path_tests s t ask.0 ask.1) (rule_of ask ∷ []) e ∙ alone (rule_of ask) in
      ap parent_missed is

  -- and one that does not pass needs none
  pub passes : (ask : Ask) (p : NodeId) → parent_wanted s t ask ≡ Some p → first_refusal (path_tests s t ask.0 ask.1) ≡ None
  passes ask p h = cases_of (first_refusal (path_tests s t ask.0 ask.1)) (λ none. none) (λ q e. absurd (refused q e))
    where
      refused : (q : Refusal) → first_refusal (path_tests s t ask.0 ask.1) ≡ Some q → ⊥
      refused q e =
          let is = first_stays (path_tests s t ask.0 ask.1) (rule_of ask ∷ []) q e in
          none_some (sym (plain_tests s t ask.0 ask.1).0 ∙ ap parent_missed (e ∙ sym is) ∙ h)

  -- what a request needs first is a parent of its node
  up : (ask : Ask) (p : NodeId) → parent_wanted s t ask ≡ Some p → list_any (same_node p) (parents_of s.graph ask.0) ≡ true
  up ask p h =
      rule_in (s.held t.slot) (parents_of s.graph ask.0) (wanted s t.slot ask.0 ask.1) p (sym (wanted_by_rule ask (passes ask p h)) ∙ h)

  -- a climb is a route in the graph
  pub climb_route : (ask : Ask) (path : List NodeId) (top : Ask) → ClimbsTo s t ask path top → IsRoute s.graph ask.0 path top.0
  climb_route ask [] top h = sym (ap (λ (x : Ask). x.0) h)
  climb_route ask (p ∷ path) top h = (up ask p h.0, climb_route (p, intention ask.1) path top h.1)

  -- a climb with one step more
  pub climb_on : (ask : Ask) (path : List NodeId) (top : Ask) (p : NodeId) → ClimbsTo s t ask path top → parent_wanted s t top ≡ Some p
      → ClimbsTo s t ask (path ++ p ∷ []) (p, intention top.1)
  climb_on ask [] top p h w = (ap (parent_wanted s t) (sym h) ∙ w, ap (λ (x : Ask). (p, intention x.1)) h)
  climb_on ask (q ∷ path) top p h w = (h.0, climb_on (q, intention ask.1) path top p h.1 w)

  child_lives : (ask : Ask) (p : NodeId) → parent_wanted s t ask ≡ Some p → is_live s.graph ask.0 ≡ true
  child_lives ask p h = by (node_at s.graph ask.0) (up ask p h)
    where
      by : (o : Option Node) → list_any (same_node p) (parents_in o) ≡ true → is_some o ≡ true
      by None h' = absurd (never h')
      by (Some x) h' = refl

  starts_live : (ask : Ask) (path : List NodeId) (top : Ask) (p : NodeId) → ClimbsTo s t ask path top → parent_wanted s t top ≡ Some p
      → is_live s.graph ask.0 ≡ true
  starts_live ask [] top p h w = child_lives ask p (ap (parent_wanted s t) (sym h) ∙ w)
  starts_live ask (q ∷ path) top p h w = child_lives ask q h.0

  -- no climb leaves a request that needs no parent
  pub stays_at : (ask : Ask) (path : List NodeId) (top : Ask) → ClimbsTo s t ask path top → parent_wanted s t ask ≡ None → top ≡ ask
  stays_at ask [] top h none = h
  stays_at ask (p ∷ path) top h none = absurd (none_some (sym none ∙ h.0))

  -- after as many steps as there are nodes no parent is needed
  pub climb_ends : IsLawfulGraph s.graph → (ask : Ask) (path : List NodeId) (top : Ask) → ClimbsTo s t ask path top → length path ≡ node_count s.graph
      → parent_wanted s t top ≡ None
  climb_ends law ask path top h e =
      cases_of (parent_wanted s t top) (λ none. none)
      (λ p w. let short = route_short s.graph law ask.0 top.0 path (starts_live ask path top p h w) (climb_route ask path top h) in absurd (omega arith))
