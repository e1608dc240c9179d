-- Commands that touch no record of some files leave the records of these files as they are.
use Rattle.std.specs.Prelude.{◌≡◌, ℕ, Bool, true, false, List, [], ◌∷◌, None, Option, Some}
use Rattle.std.proofs.Common.{refl, sym, ap, ⊎_elim, subst, ◌∙◌}
use Rattle.gl_modes.proofs.NodeLemmas.{same_node-equal, same_node-other}
use Rattle.gl_modes.proofs.Words.{clash, not_true, split}
use Rattle.gl_modes.specs.Nodes.{same_node}
use Rattle.gl_modes.specs.declared.node.NodeId.{NodeId}
use Rattle.gl_graph.specs.Changes.{born_node, born_nodes, marked, with_node, without_branch, without_node}
use Rattle.gl_graph.specs.Graph.{Graph, Node, first_in, first_parent, is_live, node_at, parents_in, shape_in, shape_of}
use Rattle.gl_graph.specs.Lawful.{IsLawfulGraph}
use Rattle.gl_graph.specs.Over.{IsIndexOver, over_refusal}
use Rattle.gl_graph.specs.Shapes.{Shape, Rec, is_interval_shape, is_record_shape}
use Rattle.gl_graph.proofs.Born.{old_or_new, old_same, place_in}
use Rattle.gl_graph.proofs.Branch.{children_are, left_is, live, movable_no_record, stays_left}
use Rattle.gl_graph.proofs.Changed.{IsAlike, at_here, at_other, rec_same}
use Rattle.gl_graph.proofs.Look.{live_node}
use Rattle.gl_graph.proofs.Marked.{marked_first_parent, marked_record}
use Rattle.gl_graph.proofs.OverGraph.{over_live}
use Rattle.gl_graph.proofs.Removed.{stays_there}
use Rattle.gl_model.specs.Lawful.{IsLawful}
use Rattle.gl_model.specs.State.{State}
use Rattle.gl_model.specs.Tellings.{Told}
use Rattle.gl_model.proofs.law.Rows.{left_was}
use Rattle.gl_steps.specs.declared.command.Answer.{Answer}
use Rattle.gl_steps.specs.declared.command.Command.{Command}
use Rattle.gl_steps.specs.Step.{Step}
use Rattle.gl_steps.proofs.KeptKinds.{over_kinds, over_plain}
use Rattle.gl_steps.proofs.SplitKeeps.{IsRecut}
use Rattle.gl_rows.proofs.GraphChanges.{Drops, Outside, only_one, step_after, touches}
use Rattle.gl_rows.proofs.NameChanges.{IsStill, SameRecords, record_live, same_records, still_at, still_back}

module _ (has : NodeId → Bool) (g : Graph) (law : IsLawfulGraph g) where
  abbrev Same : Graph → Type 0
  Same = SameRecords has g

  -- nodes are born, none of them a record of these files
  born_same : (xs : List Node) → ((k : ℕ) (x : Node) → place_in xs k ≡ Some x → Outside has x) → Same (born_nodes g xs)
  born_same xs outside = record {
    on = λ r rec of. still_at g (born_nodes g xs) r rec (old_same g law xs r (record_live g r rec));
    back = λ r rec of.
        let x = live_node (node_at (born_nodes g xs) r) (record_live (born_nodes g xs) r rec) in
        old_or_new g law xs r x.0 x.1 (λ was. still_back g (born_nodes g xs) r rec (x.1 ∙ sym was))
        (λ k place is.
        absurd (outside k x.0 place (sym (ap (λ o. is_record_shape (shape_in o)) x.1) ∙ rec) (ap has (sym (ap (λ o. first_in (parents_in o)) x.1)) ∙ of)));
  }

  -- a file is marked
  marked_same : (m : Graph) (f : NodeId) → Same m → Same (marked m f)
  marked_same m f same = record {
    on = λ r rec of. now r (same.on r rec of);
    back = λ r rec of. now r (same.back r (sym (marked_record m f r) ∙ rec) (ap has (sym (marked_first_parent m f r)) ∙ of));
  }
    where
      now : (r : NodeId) → IsStill g m r → IsStill g (marked m f) r
      now r is = record { was = is.was; rec = marked_record m f r ∙ is.rec; file = marked_first_parent m f r ∙ is.file }

  -- a record of another file is removed
  gone_same : (r : NodeId) → is_record_shape (shape_of g r) ≡ true → has (first_parent g r) ≡ false → Same (without_node g r)
  gone_same r rec other = record {
    on = λ q q_rec of. still_at g (without_node g r) q q_rec
        (stays_there g law r rec q (record_live g q q_rec) (λ e. clash of (ap (λ x. has (first_parent g x)) e ∙ other)));
    back = λ q q_rec of. still_back g (without_node g r) q q_rec (left_was g law r rec q (record_live (without_node g r) q q_rec));
  }

  -- a node is removed with its intervals
  branch_same : (c : Command) (n : NodeId) → Drops g c n → Same (without_branch g n)
  branch_same c n may = record {
    on = λ q rec of. still_at g (without_branch g n) q rec
        (stays_left g n (live g law n may.movable may.free) q (record_live g q rec)
        (not_true _ (λ same. clash (ap (λ x. is_record_shape (shape_of g x)) (same_node-equal n q same) ∙ rec) (movable_no_record (shape_of g n) may.movable)))
        (not_true _ (λ child. clash rec (no_record (shape_of g q) (children_are g law n may.movable may.free q child).1))));
    back = λ q rec of. still_back g (without_branch g n) q rec (left_is g n q (record_live (without_branch g n) q rec));
  }
    where
      no_record : (o : Option Shape) → is_interval_shape o ≡ true → is_record_shape o ≡ false
      no_record (Some (Rec keys)) h = clash h refl
      no_record o h = refl

  -- a node has other parents, but a record the same file
  changed_same : (n : NodeId) (was is : Node) → node_at g n ≡ Some was → is.key ≡ was.key → IsAlike was.shape is.shape
      → (is_record_shape (Some was.shape) ≡ true → first_in is.parents ≡ first_in was.parents) → Same (with_node g n.birth is)
  changed_same n was is there key alike first = record { on = λ q rec of. now q rec; back = λ q rec of. now q (sym (recs q) ∙ rec) }
    where
      recs : (q : NodeId) → is_record_shape (shape_of (with_node g n.birth is) q) ≡ is_record_shape (shape_of g q)
      recs q = rec_same g n was is there key alike q

      own : is_record_shape (shape_of g n) ≡ true → first_parent (with_node g n.birth is) n ≡ first_parent g n
      own rec = ap (λ o. first_in (parents_in o)) (at_here g n was is there key) ∙ first (sym (ap (λ o. is_record_shape (shape_in o)) there) ∙ rec)
          ∙ sym (ap (λ o. first_in (parents_in o)) there)

      now : (q : NodeId) → is_record_shape (shape_of g q) ≡ true → IsStill g (with_node g n.birth is) q
      now q rec = record {
        was = rec;
        rec = recs q ∙ rec;
        file = split (same_node q n)
            (λ e. let same = same_node-equal q n e in ap (first_parent (with_node g n.birth is)) same
            ∙ own (ap (λ x. is_record_shape (shape_of g x)) (sym same) ∙ rec) ∙ sym (ap (first_parent g) same))
            (λ e. ap (λ o. first_in (parents_in o)) (at_other g n was is there key q (same_node-other q n e)));
      }

  -- an index is made over records
  over_same : (g' : Graph) (n : NodeId) (ps : List NodeId) (f : NodeId) (bs : List ℕ) (rs : List NodeId) (ks : List ℕ) → over_refusal g ps f bs rs ks ≡ None
      → IsIndexOver g g' n ps f bs rs ks → Same g'
  over_same g' n ps f bs rs ks free made = record {
    on = λ q rec of. let live = record_live g q rec in still q rec live (over_live g g' law n ps f bs rs ks free made q live);
    back = λ q rec of.
        let live' = record_live g' q rec in
        let live = split (is_live g q) (λ h. h) (λ dead. absurd (over_plain g g' law n ps f bs rs ks free made q dead rec)) in
        still q (sym (over_kinds g g' law n ps f bs rs ks free made q live live').record_same ∙ rec) live live';
  }
    where
      still : (q : NodeId) → is_record_shape (shape_of g q) ≡ true → is_live g q ≡ true → is_live g' q ≡ true → IsStill g g' q
      still q rec live live' =
          let kind = over_kinds g g' law n ps f bs rs ks free made q live live' in
          record { was = rec; rec = kind.record_same ∙ rec; file = kind.file rec }

  -- intervals are cut anew
  recut_same : (s s' : State) (x y : NodeId) → s.graph ≡ g → IsRecut s s' x y → Same s'.graph
  recut_same s s' x y is cut = subst (λ h. SameRecords has h s'.graph) is (record {
    on = λ q rec of. on_still q rec (record_live s.graph q rec) (⊎_elim (λ l. l)
        (λ e. clash rec (ap (λ z. is_record_shape (shape_of s.graph z)) e ∙ cut.plain.0)) (cut.stays q (record_live s.graph q rec)));
    back = λ q rec of.
        let live' = record_live s'.graph q rec in
        let live = ⊎_elim (λ l. l) (λ e. clash rec (ap (λ z. is_record_shape (shape_of s'.graph z)) e ∙ cut.plain.1)) (cut.came q live') in
        on_still q (sym (cut.kinds q live live').record_same ∙ rec) live live';
  })
    where
      on_still : (q : NodeId) → is_record_shape (shape_of s.graph q) ≡ true → is_live s.graph q ≡ true → is_live s'.graph q ≡ true → IsStill s.graph s'.graph q
      on_still q rec live live' =
          let kind = cut.kinds q live live' in
          record { was = rec; rec = kind.record_same ∙ rec; file = kind.file rec }

-- one step
pub step_records : (has : NodeId → Bool) (s s' : State) (c : Command) (a : Answer) (told : Told) → IsLawful s → touches has s.graph c ≡ false
    → Step s c a told s' → SameRecords has s.graph s'.graph
step_records has s s' c a told law off step =
    let g = s.graph in
    step_after has s law (SameRecords has g) s' c a told (record {
      same = same_records has g g refl;
      born = born_same has g law.graph;
      adopted = λ x f outside. marked_same has g law.graph (born_node g x) f (born_same has g law.graph (x ∷ []) (only_one has x outside));
      removed = gone_same has g law.graph;
      changed = changed_same has g law.graph;
      over = over_same has g law.graph;
      dropped = branch_same has g law.graph c;
      recut = λ u u' x y of is cut. recut_same has g law.graph u u' x y is cut;
    }) off step
