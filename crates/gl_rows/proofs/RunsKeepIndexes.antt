-- Each step keeps the indexes of a file and their intervals, drops a node, or cuts intervals anew.
use Rattle.std.specs.Prelude.{◌≡◌, ◌⊎◌, ℕ, Bool, true, false, List, [], ◌∷◌}
use Rattle.std.specs.List.{list_any}
use Rattle.std.proofs.Common.{refl, sym, ap, ◌∙◌, subst, inl, inr}
use Rattle.gl_modes.specs.declared.node.NodeId.{NodeId}
use Rattle.gl_graph.specs.Changes.{born_node, marked, without_branch}
use Rattle.gl_graph.specs.Graph.{Graph, record_parents}
use Rattle.gl_graph.specs.Lawful.{IsLawfulGraph}
use Rattle.gl_graph.proofs.Unrefused.{or_no}
use Rattle.gl_model.specs.Lawful.{IsLawful}
use Rattle.gl_model.specs.State.{State}
use Rattle.gl_model.specs.Tellings.{Told}
use Rattle.gl_steps.specs.Step.{Run, Step}
use Rattle.gl_steps.specs.declared.command.Answer.{Answer}
use Rattle.gl_steps.specs.declared.command.Command.{Command}
use Rattle.gl_steps.specs.declared.command.Command.TheVariants as command
use Rattle.gl_steps.proofs.StepsKeepLaw.{steps_keep_law}
use Rattle.gl_rows.specs.Promises.{IsRow, drops_index_of}
use Rattle.gl_rows.proofs.DroppedIndexes.{dropped_keeps, dropped_parents}
use Rattle.gl_rows.proofs.GraphChanges.{Drops, is_recut, step_after, touches_none}
use Rattle.gl_rows.proofs.KeptIndexes.{KeepsIndexes, born_keeps, changed_keeps, keeps_itself, keeps_trans, marked_keeps, over_keeps, removed_keeps}
use Rattle.gl_rows.proofs.KeptIndexes.{same_parents}

-- the same for each file
abbrev pub KeepsAll : Graph → Graph → Type 0
KeepsAll g g' = (f : NodeId) → KeepsIndexes g g' f

-- the same graph
pub same_keeps : (g g' : Graph) → g' ≡ g → KeepsAll g g'
same_keeps g g' e f = subst (λ x. KeepsIndexes g x f) (sym e) (keeps_itself g f)

-- the command drops a node
abbrev pub is_drop : Command → Bool
is_drop (command.Drop t n) = true
is_drop c = false

-- the indexes of each file are kept with their intervals, or a node was dropped, or intervals were cut anew
abbrev pub KeepsOrDrops : Graph → Command → Graph → Type 0
KeepsOrDrops g c g' = KeepsAll g g' ⊎ ((n : NodeId) × Drops g c n × (g' ≡ without_branch g n)) ⊎ (is_recut c ≡ true)

pub step_keeps : (s s' : State) (c : Command) (a : Answer) (told : Told) → IsLawful s → Step s c a told s' → KeepsOrDrops s.graph c s'.graph
step_keeps s s' c a told law step =
    let g = s.graph in
    step_after (λ f. false) s law (KeepsOrDrops g c) s' c a told (record {
      same = inl (keeps_itself g);
      born = λ xs outside. inl (born_keeps g law.graph xs);
      adopted = λ x f outside. inl (λ y.
          keeps_trans g (born_node g x) (marked (born_node g x) f) y law.graph (born_keeps g law.graph (x ∷ []) y) (marked_keeps (born_node g x) f y));
      removed = λ r rec other. inl (removed_keeps g law.graph r rec);
      changed = λ n was is there key alike first. inl (changed_keeps g law.graph n was is there key alike);
      over = λ g' n ps f bs rs ks free made. inl (over_keeps g g' law.graph n ps f bs rs ks made);
      dropped = λ n drops. inr (inl (n, drops, refl));
      recut = λ u u' x y of is cut. inr (inr of);
    }) (touches_none g c) step
