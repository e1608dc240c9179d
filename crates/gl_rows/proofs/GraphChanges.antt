-- How each accepted command changes the graph. For the records of files of rows, and for the indexes of a file.
use Rattle.std.specs.Prelude.{◌≡◌, ℕ, zero, suc, Bool, true, false, not, List, [], ◌∷◌, None, Some}
use Rattle.std.proofs.Common.{refl, sym, ap, subst, ◌∙◌}
use Rattle.gl_modes.proofs.Words.{clash, no, none_some, some_is, split}
use Rattle.gl_modes.specs.declared.node.NodeId.{NodeId}
use Rattle.gl_graph.specs.Changes.{IsBorn, IsIndexBorn, born_node, born_nodes, marked, with_node, without_branch, without_node}
use Rattle.gl_graph.specs.Graph.{Graph, Node, first_in, first_parent, node_at, parents_in, record_parents, shape_in, shape_of}
use Rattle.gl_graph.specs.Over.{IsIndexOver, over_refusal}
use Rattle.gl_graph.specs.Refusals.{bad_parents, is_in_use}
use Rattle.gl_graph.specs.Shapes.{Rec, Shape, is_movable_shape, is_record_shape, least_parents}
use Rattle.gl_graph.proofs.Born.{place_in}
use Rattle.gl_graph.proofs.Branch.{movable_no_record}
use Rattle.gl_graph.proofs.Changed.{IsAlike}
use Rattle.gl_graph.proofs.NewIndex.{no_record_born, ns}
use Rattle.gl_graph.proofs.Unrefused.{not_false, or_no, test_fails}
use Rattle.gl_waits.specs.declared.victims.Victims.{Victims}
use Rattle.gl_model.specs.declared.answers.Detect.{Detect}
use Rattle.gl_model.specs.declared.answers.Detect.TheVariants.{AtBlock, ByWatcher}
use Rattle.gl_model.specs.declared.txn.TxnId.{TxnId}
use Rattle.gl_model.specs.Calls.{WaitSettles, enqueued, enters_at, wanted}
use Rattle.gl_model.specs.Lawful.{IsLawful}
use Rattle.gl_model.specs.State.{SettledWithin, State, condemned}
use Rattle.gl_model.specs.Tellings.{Told}
use Rattle.gl_steps.specs.declared.command.Answer.{Answer}
use Rattle.gl_steps.specs.declared.command.Command.{Command}
use Rattle.gl_steps.specs.declared.command.Command.TheVariants as command
use Rattle.gl_steps.specs.Step.{Accepts, Step}
use Rattle.gl_steps.specs.Tests.{refusal_of, tests_of}
use Rattle.gl_steps.proofs.EachStep.{each_step}
use Rattle.gl_steps.proofs.MoveCommands.{move_moves, rekey_moves}
use Rattle.gl_steps.proofs.OneStep.{all_none}
use Rattle.gl_steps.proofs.RowKeeps.{may_forget}
use Rattle.gl_steps.proofs.SchemaKeeps.{may_drop, may_index}
use Rattle.gl_steps.proofs.SplitKeeps.{IsRecut, merge_recuts, merges, split_recuts, splits}
use Rattle.gl_graph.specs.Splits.{merge, next_interval}
use Rattle.gl_model.specs.Splits.{merged_by, split_by}

-- Commands about transactions and locks leave the graph as it is.

-- it is no such command
abbrev pub is_of_nodes : Command → Bool
is_of_nodes (command.Inner ps) = true
is_of_nodes (command.File ps) = true
is_of_nodes (command.Index ps f bs) = true
is_of_nodes (command.IndexBy t ps f bs rs ks) = true
is_of_nodes (command.Insert t f keys) = true
is_of_nodes (command.Adopt f keys) = true
is_of_nodes (command.Forget r) = true
is_of_nodes (command.Delete t r) = true
is_of_nodes (command.Rekey t r i key) = true
is_of_nodes (command.Move t n ps) = true
is_of_nodes (command.Drop t n) = true
is_of_nodes (command.Split t i at) = true
is_of_nodes (command.Merge t i) = true
is_of_nodes c = false

settled_graph : (c : Victims) (k : ℕ) (s s' : State) (t : ℕ) → SettledWithin c k s t s' → s'.graph ≡ s.graph
settled_graph c zero s s' t h = ap (λ (z : State). z.graph) h.1
settled_graph c (suc k) s s' t h = settled_graph c k (condemned s h.0) s' t h.2

wait_graph : (d : Detect) (c : Victims) (s s' : State) (t : ℕ) → WaitSettles d c s t s' → s'.graph ≡ s.graph
wait_graph AtBlock c s s' t h = settled_graph c h.0 s s' t h.1
wait_graph ByWatcher c s s' t h = ap (λ (z : State). z.graph) h

accepted_graph : (s : State) (c : Command) (a : Answer) (told : Told) (s' : State) → is_of_nodes c ≡ false → Accepts s c a told s' → s'.graph ≡ s.graph
accepted_graph s (command.Lock t n m) a told s' of acc =
    split (enters_at s t.slot n m) (λ e. ap (λ (z : State). z.graph) (acc.0.at_once e))
    (λ e. wait_graph s.detect s.victims (enqueued s t.slot n (wanted s t.slot n m)) s' t.slot (acc.0.waits e))
accepted_graph s command.Begin a told s' of acc = ap (λ (z : State). z.graph) acc.4
accepted_graph s (command.BeginAgain since) a told s' of acc = ap (λ (z : State). z.graph) acc.4
accepted_graph s (command.Settle t) a told s' of acc = settled_graph s.victims acc.2.0 s s' t.slot acc.2.1
accepted_graph s (command.Group n) a told s' of acc = absurd acc
accepted_graph s (command.Held t n) a told s' of acc = absurd acc
accepted_graph s (command.Effective t n) a told s' of acc = absurd acc
accepted_graph s (command.Inner ps) a told s' of acc = clash refl of
accepted_graph s (command.File ps) a told s' of acc = clash refl of
accepted_graph s (command.Index ps f bs) a told s' of acc = clash refl of
accepted_graph s (command.IndexBy t ps f bs rs ks) a told s' of acc = clash refl of
accepted_graph s (command.Insert t f keys) a told s' of acc = clash refl of
accepted_graph s (command.Adopt f keys) a told s' of acc = clash refl of
accepted_graph s (command.Forget r) a told s' of acc = clash refl of
accepted_graph s (command.Delete t r) a told s' of acc = clash refl of
accepted_graph s (command.Rekey t r i key) a told s' of acc = clash refl of
accepted_graph s (command.Move t n ps) a told s' of acc = clash refl of
accepted_graph s (command.Drop t n) a told s' of acc = clash refl of
accepted_graph s (command.Split t i at) a told s' of acc = clash refl of
accepted_graph s (command.Merge t i) a told s' of acc = clash refl of
accepted_graph s c a told s' of acc = ap (λ (z : State). z.graph) acc.2

pub step_graph : (s : State) (c : Command) (a : Answer) (told : Told) (s' : State) → is_of_nodes c ≡ false → Step s c a told s' → s'.graph ≡ s.graph
step_graph s c a told s' of step =
    each_step (λ (x : State). x.graph ≡ s.graph) s c a told s' refl (λ next h. h) (λ free next acc. accepted_graph s c a told next of acc) step

-- Each other command makes nodes, removes some or changes one.

-- the command makes or removes a record of one of these files
abbrev pub touches : (NodeId → Bool) → Graph → Command → Bool
touches has g (command.Insert t f keys) = has f
touches has g (command.Adopt f keys) = has f
touches has g (command.Delete t r) = has (first_parent g r)
touches has g (command.Forget r) = has (first_parent g r)
touches has g c = false

pub touches_none : (g : Graph) (c : Command) → touches (λ f. false) g c ≡ false
touches_none g (command.Insert t f keys) = refl
touches_none g c = refl

-- a node that is no record of these files
abbrev pub Outside : (NodeId → Bool) → Node → Type 0
Outside has x = is_record_shape (Some x.shape) ≡ true → has (first_in x.parents) ≡ true → ⊥

pub only_one : (has : NodeId → Bool) (x : Node) → Outside has x → (k : ℕ) (y : Node) → place_in (x ∷ []) k ≡ Some y → Outside has y
only_one has x outside zero y e = subst (Outside has) (some_is e) outside
only_one has x outside (suc k) y e = absurd (none_some e)

-- what the command drops
pub record Drops (g : Graph) (c : Command) (n : NodeId) : Type 0 where
  pub txn : TxnId
  pub command_is : c ≡ command.Drop txn n
  pub movable : is_movable_shape (shape_of g n) ≡ true
  pub free : is_in_use g n ≡ false

-- the command splits an interval, or merges two
abbrev pub is_recut : Command → Bool
is_recut (command.Split t i at) = true
is_recut (command.Merge t i) = true
is_recut c = false

-- what holds of each graph that a command can make, if it touches no record of these files
pub record HoldsAfter (has : NodeId → Bool) (g : Graph) (c : Command) (P : Graph → Type 0) : Type 0 where
  pub same : P g
  pub born : (xs : List Node) → ((k : ℕ) (x : Node) → place_in xs k ≡ Some x → Outside has x) → P (born_nodes g xs)
  pub adopted : (x : Node) (f : NodeId) → Outside has x → P (marked (born_node g x) f)
  pub removed : (r : NodeId) → is_record_shape (shape_of g r) ≡ true → has (first_parent g r) ≡ false → P (without_node g r)
  pub changed : (n : NodeId) (was is : Node) → node_at g n ≡ Some was → is.key ≡ was.key → IsAlike was.shape is.shape
      → (is_record_shape (Some was.shape) ≡ true → first_in is.parents ≡ first_in was.parents) → P (with_node g n.birth is)
  pub over : (g' : Graph) (n : NodeId) (ps : List NodeId) (f : NodeId) (bs : List ℕ) (rs : List NodeId) (ks : List ℕ) → over_refusal g ps f bs rs ks ≡ None
      → IsIndexOver g g' n ps f bs rs ks → P g'
  pub dropped : (n : NodeId) → Drops g c n → P (without_branch g n)
  pub recut : (s s' : State) (x y : NodeId) → is_recut c ≡ true → s.graph ≡ g → IsRecut s s' x y → P s'.graph

module _ (has : NodeId → Bool) (s : State) (law : IsLawful s) (P : Graph → Type 0) where
  abbrev g : Graph
  g = s.graph

  module _ (c : Command) (after : HoldsAfter has g c P) where
    -- one node is born
    one_born : (g' : Graph) {n : NodeId} {shape : Shape} {ps : List NodeId} → IsBorn g g' n shape ps
        → (is_record_shape (Some shape) ≡ true → has (first_in ps) ≡ true → ⊥) → P g'
    one_born g' {n = n} {shape = shape} {ps = ps} born outside =
        let x : Node = record { key = n.key; shape = shape; parents = ps } in
        subst P (sym born.after) (after.born (x ∷ []) (only_one has x outside))

    -- an index is born, and its intervals
    index_born : (g' : Graph) {n : NodeId} {ps : List NodeId} {f : NodeId} {bs : List ℕ} → IsIndexBorn g g' n ps f bs → P g'
    index_born g' {n = n} {ps = ps} {f = f} {bs = bs} born =
        subst P (sym born.after) (after.born (ns g law.graph n.key ps f bs born.interval_keys)
        (λ k x e rec of. clash rec (no_record_born g law.graph n.key ps f bs born.interval_keys k x e)))

  accepted_after : (c : Command) (a : Answer) (told : Told) (s' : State) → HoldsAfter has g c P → touches has g c ≡ false → refusal_of s c ≡ None
      → Accepts s c a told s' → P s'.graph
  accepted_after (command.Inner ps) a told s' after off free acc = one_born (command.Inner ps) after s'.graph acc.1 (λ rec of. no rec)
  accepted_after (command.File ps) a told s' after off free acc = one_born (command.File ps) after s'.graph acc.1 (λ rec of. no rec)
  accepted_after (command.Index ps f bs) a told s' after off free acc = index_born (command.Index ps f bs) after s'.graph acc.1
  accepted_after (command.IndexBy t ps f bs rs ks) a told s' after off free acc =
      after.over s'.graph acc.0 ps.now f bs.now rs.now ks.now (may_index s t ps f bs rs ks free).free acc.1
  accepted_after (command.Insert t f keys) a told s' after off free acc = one_born (command.Insert t f keys) after s'.graph acc.1 (λ rec of. clash of off)
  accepted_after (command.Adopt f keys) a told s' after off free acc =
      let row : Node = record { key = acc.0.key; shape = Rec keys.now; parents = record_parents g f keys.now } in
      subst P (sym acc.1.after) (after.adopted row f (λ rec of. clash of off))
  accepted_after (command.Forget r) a told s' after off free acc =
      subst P (sym (ap (λ (z : State). z.graph) acc.2)) (after.removed r (may_forget s r free).rec off)
  accepted_after (command.Delete t r) a told s' after off free acc =
      let passed = all_none (tests_of s (command.Delete t r)) free in
      subst P (sym (ap (λ (z : State). z.graph) acc.2)) (after.removed r (not_false _ (test_fails _ _ passed.1.1.1.1.1.0)) off)
  accepted_after (command.Rekey t r i key) a told s' after off free acc =
      let m = rekey_moves s law t r i key free in
      subst P (m.1.graph ∙ sym (ap (λ (z : State). z.graph) acc.2)) (after.changed r m.0 _ m.1.there m.1.key m.1.alike
      (λ rec. ap (λ o. first_in (parents_in o)) m.1.there))
  accepted_after (command.Move t n ps) a told s' after off free acc =
      let m = move_moves s law t n ps free in
      let passed = all_none (tests_of s (command.Move t n ps)) free in
      let bad = or_no (not (is_movable_shape (shape_of g n))) (bad_parents g (least_parents (shape_of g n)) ps.now) (test_fails _ _ passed.1.1.1.1.1.0) in
      subst P (m.1.graph ∙ sym (ap (λ (z : State). z.graph) acc.2)) (after.changed n m.0 _ m.1.there m.1.key m.1.alike
      (λ rec. clash (ap (λ o. is_record_shape (shape_in o)) m.1.there ∙ rec) (movable_no_record (shape_of g n) (not_false _ bad.0))))
  accepted_after (command.Drop t n) a told s' after off free acc =
      let may = may_drop s t n free in
      subst P (sym (ap (λ (z : State). z.graph) acc.2))
      (after.dropped n (record { txn = t; command_is = refl; movable = may.movable; free = may.free }))
  accepted_after (command.Split t i at) a told s' after off free acc =
      let h = splits s t i acc.0 at s'.graph law free acc.1 in
      after.recut s (split_by s t.slot i s'.graph acc.0) i acc.0 refl refl (split_recuts s law t i acc.0 at s'.graph h)
  accepted_after (command.Merge t i) a told s' after off free acc =
      let j = next_interval g i in
      subst P (sym (ap (λ (z : State). z.graph) acc.2))
      (after.recut s (merged_by s j (merge g i)) j i refl refl (merge_recuts s law t i (merges s t i law free)))
  accepted_after c a told s' after off free acc = subst P (sym (accepted_graph s c a told s' refl acc)) after.same

  pub step_after : (s' : State) (c : Command) (a : Answer) (told : Told) → HoldsAfter has g c P → touches has g c ≡ false → Step s c a told s' → P s'.graph
  step_after s' c a told after off step =
      each_step (λ (x : State). P x.graph) s c a told s' after.same (λ next h. h)
      (λ free next acc. accepted_after c a told next after off free acc) step
