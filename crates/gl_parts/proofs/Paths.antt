-- What a path requests is what its target passes; so who lacks nothing for a target makes requests that may be carried out.
use Rattle.std.specs.Prelude.{◌≡◌, ℕ, Bool, true, false, not, ◌&&◌, ◌||◌, List, [], ◌∷◌, ◌++◌, Option, Some, None, if◌then◌else◌, is_some}
use Rattle.std.specs.Prelude.{take}
use Rattle.std.specs.List.{list_all, list_any}
use Rattle.std.proofs.Common.{sym, ap, ap₂, rules, subst, ◌∙◌, inl, inr}
use Rattle.gl_modes.specs.declared.mode.Mode.{Mode}
use Rattle.gl_modes.specs.declared.mode.Mode.TheVariants.{NL, IS, IX}
use Rattle.gl_modes.specs.declared.node.NodeId.{NodeId}
use Rattle.gl_modes.specs.declared.refusal.Refusal.TheVariants as no
use Rattle.gl_modes.specs.Modes.{is_at_least, supremum}
use Rattle.gl_modes.specs.Nodes.{same_node}
use Rattle.gl_modes.proofs.NodeLemmas.{same_node-equal, same_node-from_equal, same_node-refl}
use Rattle.gl_modes.proofs.Words.{and_both, both, cases_of, clash, no as never, none_some, or_elim, or_left, or_right, some_is, split}
use Rattle.gl_graph.specs.Graph.{Graph, first_parent, indexes_of, interval_of, intervals_of, nodes, parents_in, parents_of, record_parents, shape_in, shape_of}
use Rattle.gl_graph.specs.Lawful.{IsLawfulGraph}
use Rattle.gl_graph.specs.Shapes.{Shape, is_file_shape, is_index_of_shape, is_inner_shape, is_record_shape, keys_in}
use Rattle.gl_model.specs.Calls.{first_not_ix, first_of_all, rule_refusal}
use Rattle.gl_model.specs.Lawful.{IsLawful}
use Rattle.gl_model.specs.State.{State, intends_over, is_write, no_parents}
use Rattle.gl_graph.proofs.KindRules.{interval_is}
use Rattle.gl_graph.proofs.Look.{all_filter}
use Rattle.gl_graph.proofs.RecordParents.{its_file, its_parents}
use Rattle.gl_graph.proofs.Unrefused.{test_fails}
use Rattle.gl_steps.proofs.OneStep.{all_none}
use Rattle.gl_modes.proofs.ModeLemmas.{at_least-transitive}
use Rattle.gl_model.specs.declared.txn.TxnId.{TxnId}
use Rattle.gl_steps.specs.declared.command.Command.{Command}
use Rattle.gl_catalog.specs.Paths.{Ask, ClimbsTo, intention, parent_missed, parent_wanted, path_tests}
use Rattle.gl_catalog.proofs.Climbing.{passes, wanted_by_rule}
use Rattle.gl_parts.specs.declared.passing.Target.{Target}
use Rattle.gl_parts.specs.Whole.{Part, held_at, held_by_name, is_in, is_intention}
use Rattle.gl_parts.specs.Leading.{Follower, Obeys}
use Rattle.gl_parts.specs.Actions.{MayRequest}
use Rattle.gl_parts.specs.Passing.{IsFirst, IsWay, Lacks, Passes, asked_above, can_have, is_mode_of, starts}
use Rattle.gl_parts.specs.Promises.{AsksFor, ClearsKeepProgress, LacksNothing, ListedLackNothing, MainStepsKeepPaths}
use Rattle.gl_parts.specs.Promises.{MarksKeepPaths, PartStepsKeepPaths, PathsMayRequest, ProgressIsVisited, RowPathsMayRequest, SharesInner}
use Rattle.gl_parts.proofs.Falls.{others_stay_covered}
use Rattle.gl_parts.proofs.Grants.{neither, supremum_has, writing_intends, writes_holds}
use Rattle.gl_parts.proofs.Visiting.{clear_may_unmark, named_may_request}

-- What the rule of the graph lacks is a parent that a path asks for.

-- the mode that a request wants writes if it does, or what is held
wanted_writes : (a m : Mode) → is_write (supremum a m) ≡ (is_write a || is_write m)
wanted_writes a m = supremum_has IX (λ e. cc) a m

not_ix_in : (held : NodeId → Mode) (ps : List NodeId) (p : NodeId) → parent_missed (first_not_ix held ps) ≡ Some p → list_any (same_node p) ps ≡ true
not_ix_in held [] p h = absurd (none_some h)
not_ix_in held (q ∷ ps) p h = by (not_ix_in held ps p) (is_at_least (held q) IX) h
  where
    by : (parent_missed (first_not_ix held ps) ≡ Some p → list_any (same_node p) ps ≡ true) → (b : Bool)
        → parent_missed (if b then first_not_ix held ps else Some (no.NeedParents q)) ≡ Some p → (same_node p q || list_any (same_node p) ps) ≡ true
    by later true h' = or_right (same_node p q) _ (later h')
    by later false h' = or_left (same_node p q) _ (same_node-from_equal p q (sym (some_is h')))

first_in_one : (ps : List NodeId) (p : NodeId) → parent_missed (first_of_all ps) ≡ Some p → list_any (same_node p) (take 1 ps) ≡ true
first_in_one [] p h = absurd (none_some h)
first_in_one (q ∷ ps) p h = or_left (same_node p q) _ (same_node-from_equal p q (sym (some_is h)))

rule_asks : (held : NodeId → Mode) (ps : List NodeId) (a m : Mode) (p : NodeId) → (is_write a ≡ true → intends_over held ps a ≡ true)
    → parent_missed (rule_refusal held ps (supremum a m)) ≡ Some p → list_any (same_node p) (if is_write m then ps else take 1 ps) ≡ true
rule_asks held ps a m p rule h =
    split (is_write m)
    (λ w. ap (λ b. list_any (same_node p) (if b then ps else take 1 ps)) w
    ∙ writing (intends_over held ps (supremum a m)) (is_write (supremum a m)) (wanted_writes a m ∙ or_right (is_write a) _ w) h)
    (λ r. ap (λ b. list_any (same_node p) (if b then ps else take 1 ps)) r
    ∙ split (is_write a) (λ w. absurd (holds_all w)) (λ e. reading (intends_over held ps (supremum a m)) (is_write (supremum a m))
    (wanted_writes a m ∙ ap₂ (λ x y. x || y) e r) h))
  where
    writing : (i b : Bool) → b ≡ true → parent_missed (if i then None else (if b then first_not_ix held ps else first_of_all ps)) ≡ Some p
        → list_any (same_node p) ps ≡ true
    writing true b e h' = absurd (none_some h')
    writing false true e h' = not_ix_in held ps p h'
    writing false false e h' = absurd (never e)

    reading : (i b : Bool) → b ≡ false → parent_missed (if i then None else (if b then first_not_ix held ps else first_of_all ps)) ≡ Some p
        → list_any (same_node p) (take 1 ps) ≡ true
    reading true b e h' = absurd (none_some h')
    reading false true e h' = absurd (never (sym e))
    reading false false e h' = first_in_one ps p h'

    holds_all : is_write a ≡ true → ⊥
    holds_all w =
        let writes = wanted_writes a m ∙ or_left (is_write a) _ w in
        let met = ap (λ b. if b then list_all (λ q. is_at_least (held q) IX) ps else (no_parents ps || list_any (λ q. is_at_least (held q) IS) ps)) writes
        ∙ writing_intends held ps a w (rule w) in
        none_some (ap (λ b. parent_missed (if b then None else (if is_write (supremum a m) then first_not_ix held ps else first_of_all ps))) (sym met) ∙ h)

-- intentions

writes_same : (m : Mode) → is_write (intention m) ≡ is_write m
writes_same m = split (is_write m) (λ e. ap (λ b. is_write (if b then IX else IS)) e ∙ sym e) (λ e. ap (λ b. is_write (if b then IX else IS)) e ∙ sym e)

intention_same : (m : Mode) → intention (intention m) ≡ intention m
intention_same m = ap (λ b. if b then IX else IS) (writes_same m)

intention_small : (m : Mode) → is_intention (intention m) ≡ true
intention_small m = split (is_write m) (λ e. ap (λ b. is_intention (if b then IX else IS)) e) (λ e. ap (λ b. is_intention (if b then IX else IS)) e)

module _ (s : State) (t : TxnId) (law : IsLawful s) where
  -- what a request needs first is a parent that a path asks for
  up : (ask : Ask) (p : NodeId) → parent_wanted s t ask ≡ Some p → list_any (same_node p) (asked_above (is_write ask.1) s.graph ask.0) ≡ true
  up ask p h =
      rule_asks (s.held t.slot) (parents_of s.graph ask.0) (s.held t.slot ask.0) ask.1 p
      (λ w. law.grants_intend t.slot ask.0 (writes_holds (s.held t.slot ask.0) w)) (sym (wanted_by_rule s t ask (passes s t ask p h)) ∙ h)

  -- a climb is a way up
  climb_way : (ask : Ask) (path : List NodeId) (top : Ask) → ClimbsTo s t ask path top → IsWay (is_write ask.1) s.graph ask.0 path top.0
  climb_way ask [] top h = sym (ap (λ (x : Ask). x.0) h)
  climb_way ask (p ∷ path) top h =
      (up ask p h.0, subst (λ b. IsWay b s.graph p path top.0) (writes_same ask.1) (climb_way (p, intention ask.1) path top h.1))

  -- above its node a path requests the intention
  climb_mode : (ask : Ask) (p : NodeId) (path : List NodeId) (top : Ask) → ClimbsTo s t ask (p ∷ path) top → top.1 ≡ intention ask.1
  climb_mode ask p [] top h = ap (λ (x : Ask). x.1) h.1
  climb_mode ask p (q ∷ path) top h = climb_mode (p, intention ask.1) q path top h.1 ∙ intention_same ask.1

  -- what needs a parent is a mode that its node can have
  has_mode : (ask : Ask) (p : NodeId) → parent_wanted s t ask ≡ Some p → is_mode_of (is_record_shape (shape_of s.graph ask.0)) ask.1 ≡ true
  has_mode ask p h =
      let all = all_none (path_tests s t ask.0 ask.1) (passes s t ask p h) in
      ap not (test_fails _ no.BadMode all.1.1.1.1.1.0)

-- what a target begins with
pub begins : (g : Graph) (x : Target) → can_have g x ≡ true
    → starts g x ≡ x.node ∷ (if x.is_row && is_write x.mode then indexes_of g x.node else [])
begins g x h = ap (λ b. if b then x.node ∷ (if x.is_row && is_write x.mode then indexes_of g x.node else []) else []) h

-- a row can have the mode of a record, if its file is one
pub row_has : (g : Graph) (x : Target) → x.is_row ≡ true → can_have g x ≡ (is_file_shape (shape_of g x.node) && is_mode_of true x.mode)
row_has g x row =
    ap (λ b. if b then is_file_shape (shape_of g x.node) && is_mode_of true x.mode else is_mode_of (is_record_shape (shape_of g x.node)) x.mode) row

pub begins_at : (g : Graph) (x : Target) → can_have g x ≡ true → list_any (same_node x.node) (starts g x) ≡ true
begins_at g x h = ap (list_any (same_node x.node)) (begins g x h) ∙ or_left (same_node x.node x.node) _ (same_node-refl x.node)

-- who lacks nothing holds the intention in the main manager where the part is marked
module _ (main : Part) (f : Follower) (u : ℕ) (x : Target) (obeys : Obeys main f) (nothing : LacksNothing main f u x) where
  pub holds_in_main : (n j : NodeId) → is_in n main ≡ true → f.part.name n ≡ Some j → f.marked n ≡ true → Passes f.part.state.graph x j
      → is_at_least (held_at main u n) (intention x.mode) ≡ true
  holds_in_main n j here there marked pass =
      split (is_at_least (held_at main u n) (intention x.mode)) (λ e. e) (λ less. cases_of (main.name n)
      (λ none. clash here (ap is_some none))
      (λ k at. split (is_at_least (f.part.state.held u j) (intention x.mode))
      (λ has. clash (at_least-transitive (held_at main u n) (held_at f.part u n) (intention x.mode) ((obeys n here).led marked u)
      (ap (λ o. is_at_least (held_by_name (f.part.state.held u) o) (intention x.mode)) there ∙ has)) less)
      (λ hasnt. absurd (nothing n k j at there marked (record {
        passes = pass;
        unheld = ap₂ (λ a b. a || b) hasnt (ap (λ o. is_at_least (held_by_name (main.state.held u) o) (intention x.mode)) (sym at) ∙ less);
      })))))

-- requests on nodes that are passed may be carried out
above_may_request : (main : Part) (f : Follower) (t : TxnId) (x : Target) (first : Ask) (c : Command) → Obeys main f → LacksNothing main f t.slot x
    → AsksFor t first c → first.1 ≡ intention x.mode
    → ((n : NodeId) → is_in n main ≡ true → f.part.name n ≡ Some first.0 → Passes f.part.state.graph x first.0)
    → MayRequest main f c
above_may_request main f t x first c obeys nothing by mode pass =
    named_may_request main f first.0 t first.1 c by (λ n here there. (
      ap is_intention mode ∙ intention_small x.mode,
      λ marked. ap (is_at_least (held_at main t.slot n)) mode ∙ holds_in_main main f t.slot x obeys nothing n first.0 here there marked (pass n here there),
    ))

-- a request on a node that is not shared may be carried out
own_may_request : (main : Part) (f : Follower) (t : TxnId) (first : Ask) (c : Command) → SharesInner main f.part → AsksFor t first c
    → is_inner_shape (shape_of f.part.state.graph first.0) ≡ false → MayRequest main f c
own_may_request main f t first c shares by own =
    named_may_request main f first.0 t first.1 c by (λ n here there. clash (shares n first.0 here there) own)

pub paths_may_request : PathsMayRequest
paths_may_request main f t x first c law obeys shares single own nothing comes by = go comes.climb.0 comes.climb.1
  where
    s : State
    s = f.part.state

    go : (path : List NodeId) → ClimbsTo s t (x.node, x.mode) path first → MayRequest main f c
    go [] h = own_may_request main f t first c shares by (ap (λ (a : Ask). is_inner_shape (shape_of s.graph a.0)) h ∙ own)
    go (p ∷ path) h =
        above_may_request main f t x first c obeys nothing by (climb_mode s t law (x.node, x.mode) p path first h)
        (λ n here there. record {
          start = x.node;
          is_one = begins_at s.graph x (ap (λ b. if b then is_file_shape (shape_of s.graph x.node) && is_mode_of true x.mode
              else is_mode_of (is_record_shape (shape_of s.graph x.node)) x.mode) single ∙ has_mode s t law (x.node, x.mode) p h.0);
          leads = (p ∷ path, climb_way s t law (x.node, x.mode) (p ∷ path) first h);
        })

-- Rows: a record is below its file and, to write, below an interval of each index.

-- the interval of a record is below an index of its file
index_of_interval : (g : Graph) → IsLawfulGraph g → (file p q : NodeId) (is : List NodeId) (keys : List ℕ)
    → list_all (λ i. is_index_of_shape file (shape_of g i)) is ≡ true → list_any (same_node p) (intervals_of g is keys) ≡ true
    → list_any (same_node q) (parents_of g p) ≡ true → list_any (same_node q) is ≡ true
index_of_interval g law file p q [] keys all l up = absurd (never l)
index_of_interval g law file p q (i ∷ is) [] all l up = absurd (never l)
index_of_interval g law file p q (i ∷ is) (key ∷ keys) all l up =
    let it = and_both (is_index_of_shape file (shape_of g i)) _ all in
    or_elim (same_node p (interval_of g i key)) (list_any (same_node p) (intervals_of g is keys)) l
    (λ here. let parents : parents_of g p ≡ i ∷ [] = ap (parents_of g) (same_node-equal p (interval_of g i key) here)
    ∙ ap parents_in (interval_is g law file i key it.0) in
    or_elim (same_node q i) false (sym (ap (list_any (same_node q)) parents) ∙ up) (λ e. or_left (same_node q i) _ e) (λ e. absurd (never e)))
    (λ there. or_right (same_node q i) _ (index_of_interval g law file p q is keys it.1 there up))

-- and is no inner node
interval_no_inner : (g : Graph) → IsLawfulGraph g → (file p : NodeId) (is : List NodeId) (keys : List ℕ)
    → list_all (λ i. is_index_of_shape file (shape_of g i)) is ≡ true → list_any (same_node p) (intervals_of g is keys) ≡ true
    → is_inner_shape (shape_of g p) ≡ false
interval_no_inner g law file p [] keys all l = absurd (never l)
interval_no_inner g law file p (i ∷ is) [] all l = absurd (never l)
interval_no_inner g law file p (i ∷ is) (key ∷ keys) all l =
    let it = and_both (is_index_of_shape file (shape_of g i)) _ all in
    or_elim (same_node p (interval_of g i key)) (list_any (same_node p) (intervals_of g is keys)) l
    (λ here. ap (λ y. is_inner_shape (shape_of g y)) (same_node-equal p (interval_of g i key) here)
    ∙ ap (λ o. is_inner_shape (shape_in o)) (interval_is g law file i key it.0))
    (λ there. interval_no_inner g law file p is keys it.1 there)

module _ (g : Graph) (law : IsLawfulGraph g) (x : Target) (r : NodeId) (rec : is_record_shape (shape_of g r) ≡ true) (row : x.is_row ≡ true)
    (its : first_parent g r ≡ x.node) (mode : is_mode_of true x.mode ≡ true) where
  abbrev keys : List ℕ
  keys = keys_in (shape_of g r)

  above : parents_of g r ≡ record_parents g x.node keys
  above = its_parents g law r rec ∙ ap (λ file. record_parents g file keys) its

  have : can_have g x ≡ true
  have = row_has g x row ∙ both _ _ (ap (λ y. is_file_shape (shape_of g y)) (sym its) ∙ its_file g law r rec) mode

  indexes : list_all (λ i. is_index_of_shape x.node (shape_of g i)) (indexes_of g x.node) ≡ true
  indexes = all_filter (λ i. is_index_of_shape x.node (shape_of g i)) (nodes g)

  from_file : (n : NodeId) (way : List NodeId) → IsWay (is_write x.mode) g x.node way n → Passes g x n
  from_file n way h = record { start = x.node; is_one = begins_at g x have; leads = (way, h) }

  from_index : (i n : NodeId) (way : List NodeId) → is_write x.mode ≡ true → list_any (same_node i) (indexes_of g x.node) ≡ true
      → IsWay (is_write x.mode) g i way n → Passes g x n
  from_index i n way w one h =
      record {
        start = i;
        is_one = ap (list_any (same_node i)) (begins g x have)
            ∙ or_right (same_node i x.node) _ (ap (λ b. list_any (same_node i) (if b then indexes_of g x.node else [])) (both _ _ row w) ∙ one);
        leads = (way, h);
      }

  -- the inner nodes that a path to the record passes
  pub row_passes : (p n : NodeId) (way : List NodeId) → IsWay (is_write x.mode) g r (p ∷ way) n → is_inner_shape (shape_of g n) ≡ true → Passes g x n
  row_passes p n way h inner = split (is_write x.mode) writing reading
    where
      at_file : same_node p x.node ≡ true → Passes g x n
      at_file e = from_file n way (subst (λ y. IsWay (is_write x.mode) g y way n) (same_node-equal p x.node e) h.1)

      reading : is_write x.mode ≡ false → Passes g x n
      reading w =
          or_elim (same_node p x.node) false
          (sym (ap (λ b. list_any (same_node p) (if b then parents_of g r else take 1 (parents_of g r))) w
          ∙ ap (λ ps. list_any (same_node p) (take 1 ps)) above) ∙ h.0) at_file (λ e. absurd (never e))

      up_interval : is_write x.mode ≡ true → list_any (same_node p) (intervals_of g (indexes_of g x.node) keys) ≡ true → (steps : List NodeId)
          → IsWay (is_write x.mode) g p steps n → Passes g x n
      up_interval w l [] e =
          clash inner (ap (λ y. is_inner_shape (shape_of g y)) (sym e) ∙ interval_no_inner g law x.node p (indexes_of g x.node) keys indexes l)
      up_interval w l (q ∷ steps) e =
          from_index q n steps w (index_of_interval g law x.node p q (indexes_of g x.node) keys indexes l
          (sym (ap (λ b. list_any (same_node q) (if b then parents_of g p else take 1 (parents_of g p))) w) ∙ e.0)) e.1

      writing : is_write x.mode ≡ true → Passes g x n
      writing w =
          or_elim (same_node p x.node) (list_any (same_node p) (intervals_of g (indexes_of g x.node) keys))
          (sym (ap (λ b. list_any (same_node p) (if b then parents_of g r else take 1 (parents_of g r))) w ∙ ap (list_any (same_node p)) above) ∙ h.0)
          at_file (λ l. up_interval w l way h.1)

record_no_inner : (o : Option Shape) → is_record_shape o ≡ true → is_inner_shape o ≡ false
record_no_inner o h = search rules

pub row_paths_may_request : RowPathsMayRequest
row_paths_may_request main f t x r first c law obeys shares row rec its nothing comes by = go comes.climb.0 comes.climb.1
  where
    s : State
    s = f.part.state

    go : (path : List NodeId) → ClimbsTo s t (r, x.mode) path first → MayRequest main f c
    go [] h =
        own_may_request main f t first c shares by
        (ap (λ (a : Ask). is_inner_shape (shape_of s.graph a.0)) h ∙ record_no_inner (shape_of s.graph r) rec)
    go (p ∷ path) h =
        above_may_request main f t x first c obeys nothing by (climb_mode s t law (r, x.mode) p path first h)
        (λ n here there. row_passes s.graph law.graph x r rec row its
        (ap (λ b. is_mode_of b x.mode) (sym rec) ∙ has_mode s t law (r, x.mode) p h.0) p first.0 path (climb_way s t law (r, x.mode) (p ∷ path) first h)
        (shares n first.0 here there))

-- Who lacks nothing goes on so.

none_at : {A : Type 0} (P : A → Type 0) (before after : List A) (y : A) → IsFirst P (before ++ y ∷ after) None → P y → ⊥
none_at P [] after y (inl found) so = none_some found.1
none_at P [] after y (inr later) so = later.0 so
none_at P (z ∷ before) after y (inl found) so = none_some found.1
none_at P (z ∷ before) after y (inr later) so = none_at P before after y later.1 so

not_covered : (m : Mode) → is_at_least NL (intention m) ≡ false
not_covered m = split (is_write m) (λ e. ap (λ b. is_at_least NL (if b then IX else IS)) e) (λ e. ap (λ b. is_at_least NL (if b then IX else IS)) e)

pub listed_lack_nothing : ListedLackNothing
listed_lack_nothing main f marks t x lists = (
  λ none n k j at there marked lack.
      let it = lists n k j at there marked in
      none_at (Lacks (Some main.state) f.part.state t x) it.0 it.1 (record { in_main = k; in_part = j })
      (subst (λ ms. IsFirst (Lacks (Some main.state) f.part.state t x) ms None) it.2 none) lack,
  λ none n k j at there marked lack.
      let it = lists n k j at there marked in
      none_at (Lacks None f.part.state t x) it.0 it.1 (record { in_main = k; in_part = j })
      (subst (λ ms. IsFirst (Lacks None f.part.state t x) ms None) it.2 none)
      (record { passes = lack.passes; unheld = ap₂ (λ a b. a || b) (neither _ _ lack.unheld).0 (not_covered x.mode) }),
)

pub marks_keep_paths : MarksKeepPaths
marks_keep_paths main f t x n k j nothing at there unlacked q k' j' at' there' marked lack =
    split (same_node q n)
    (λ e. let same = same_node-equal q n e in
    unlacked (subst (λ a. Lacks (Some main.state) f.part.state t x (record { in_main = a; in_part = j }))
    (some_is (sym at' ∙ ap main.name same ∙ at)) (subst (λ b. Lacks (Some main.state) f.part.state t x (record { in_main = k'; in_part = b }))
    (some_is (sym there' ∙ ap f.part.name same ∙ there)) lack)))
    (λ e. nothing q k' j' at' there' (sym (ap (λ b. if b then true else f.marked q) e) ∙ marked) lack)

pub main_steps_keep_paths : MainStepsKeepPaths
main_steps_keep_paths main f c main' t x law takes names unless nothing n k j at there marked lack =
    let at_old = sym (names n) ∙ at in
    nothing n k j at_old there marked (record {
      passes = lack.passes;
      unheld = ap₂ (λ a b. a || b) (neither _ _ lack.unheld).0 (split (is_at_least (main.state.held t k) (intention x.mode))
          (λ e. clash (rises e at_old) (neither _ _ lack.unheld).1) (λ e. e));
    })
  where
    -- a manager in which everybody has the intention
    all : Part
    all = record { state = record main.state { held = λ _ _. intention x.mode }; name = λ q. Some q }

    rises : is_at_least (main.state.held t k) (intention x.mode) ≡ true → main.name n ≡ Some k → is_at_least (main'.state.held t k) (intention x.mode) ≡ true
    rises e at_old =
        ap (λ o. is_at_least (held_by_name (main'.state.held t) o) (intention x.mode)) (sym at)
        ∙ others_stay_covered main all c main' n t law takes (names n) unless
        (ap (λ o. is_at_least (held_by_name (main.state.held t) o) (intention x.mode)) at_old ∙ e)

pub part_steps_keep_paths : PartStepsKeepPaths
part_steps_keep_paths main f next t x obeys fewer names nothing n k j at there marked lack =
    let there_old = sym (names n) ∙ there in
    clash
    (sym (ap (λ o. is_at_least (held_by_name (main.state.held t) o) (intention x.mode)) at)
    ∙ holds_in_main main f t x obeys nothing n j (ap is_some at) there_old marked (fewer j lack.passes)) (neither _ _ lack.unheld).1

-- Requests in progress.

pub progress_is_visited : ProgressIsVisited
progress_is_visited main f c in_progress ahead counted n there t more = ahead n there (counted n t more)

pub clears_keep_progress : ClearsKeepProgress
clears_keep_progress w before after f n k in_progress was at may ahead = record {
  action = clear_may_unmark w before after f n k was at may.clear;
  ahead = λ q there some. split (same_node q n)
      (λ e. absurd (some (ap in_progress (same_node-equal q n e) ∙ may.none)))
      (λ e. ap (λ b. if b then false else f.marked q) e ∙ ahead q there some);
}
