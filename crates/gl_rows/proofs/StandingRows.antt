-- A record has the effective modes of its row, its own locks aside.
use Rattle.std.specs.Prelude.{◌≡◌, ◌∷◌, ◌&&◌, ◌||◌, ℕ, zero, suc, true, List, not}
use Rattle.std.specs.List.{list_all, list_any}
use Rattle.std.proofs.Common.{sym, ap, ◌∙◌}
use Rattle.std.proofs.Math.Bool.{or-true}
use Rattle.gl_modes.proofs.Words.{and_both, no, or_elim}
use Rattle.gl_modes.specs.Modes.{same_mode}
use Rattle.gl_modes.specs.Nodes.{same_node}
use Rattle.gl_modes.specs.declared.mode.Mode.{Mode}
use Rattle.gl_modes.specs.declared.mode.Mode.TheVariants.{NL, X}
use Rattle.gl_modes.specs.declared.node.NodeId.{NodeId}
use Rattle.gl_graph.specs.Graph.{Graph, first_parent, is_live, node_count, parents_of, record_parents, shape_of}
use Rattle.gl_graph.specs.Shapes.{is_record_shape, keys_in}
use Rattle.gl_graph.proofs.Look.{all_at}
use Rattle.gl_graph.proofs.Moved.{any_found, some_at}
use Rattle.gl_graph.proofs.RecordParents.{its_file, its_keys, its_parents}
use Rattle.gl_graph.proofs.Removed.{rec_live}
use Rattle.gl_model.specs.Lawful.{EffS, EffX, IsLawful, eff_s, eff_x, effective, is_at_least_effect, is_read}
use Rattle.gl_model.specs.State.{State, no_parents}
use Rattle.gl_model.proofs.law.Effects.{all_from, eff_s_route, eff_x_any, read_on_eff}
use Rattle.gl_steps.proofs.Keeps.{greater_effect}
use Rattle.gl_rows.proofs.RowEffects.{OfEach, all_more, as_one, read_by, reads_at, row_parents_live, there_s, there_x, writes_at, x_there}
use Rattle.gl_rows.specs.Promises.{RecordsHaveRowEffects, reads_row, row_effect, writes_row}

module _ (s : State) (law : IsLawful s) (t : ℕ) (r : NodeId) (rec : is_record_shape (shape_of s.graph r) ≡ true) where
  abbrev g : Graph
  g = s.graph

  abbrev h : NodeId → Mode
  h = s.held t

  abbrev f : NodeId
  f = first_parent g r

  abbrev keys : List ℕ
  keys = keys_in (shape_of g r)

  abbrev ps : List NodeId
  ps = record_parents g f keys

  parents : parents_of g r ≡ ps
  parents = its_parents g law.graph r rec

  live : is_live g r ≡ true
  live = rec_live g law.graph r rec

  each_live : OfEach ps (λ p. is_live g p ≡ true)
  each_live = row_parents_live g law.graph f keys (record { file = its_file g law.graph r rec; a_key_each = its_keys g law.graph r rec })

  -- writing the row is writing the record, and reading it reading the record
  writes : writes_row s t f keys ≡ true → EffX s t r
  writes w =
      let all = all_more (writes_at s t) (eff_x (node_count g) g h) ps (λ p on. x_there s t p) w in
      eff_x_any s law t (suc (node_count g)) r live
      (ap (λ b. same_mode (h r) X || b) (ap (λ qs. not (no_parents qs) && list_all (eff_x (node_count g) g h) qs) parents ∙ all) ∙ or-true _)

  reads : reads_row s t f keys ≡ true → EffS s t r
  reads w =
      let p = any_found (reads_at s t) ps w in
      let up = read_by s t p.0 p.2 in
      read_on_eff g law.graph h r live (up.0, p.0 ∷ up.1, (ap (list_any (same_node p.0)) parents ∙ p.1, up.2), up.3)

  above : is_at_least_effect (effective s t r) (row_effect s t f keys) ≡ true
  above = greater_effect _ _ _ _ writes reads

  module _ (none : h r ≡ NL) where
    -- nothing else writes or reads the record
    writes_row_too : (k : ℕ) → eff_x k g h r ≡ true → writes_row s t f keys ≡ true
    writes_row_too zero x = absurd (no (sym (ap (λ m. same_mode m X) none) ∙ x))
    writes_row_too (suc k) x =
        or_elim _ _ x (λ here. absurd (no (sym (ap (λ m. same_mode m X) none) ∙ here))) (λ up.
        let all = sym (ap (list_all (eff_x k g h)) parents) ∙ (and_both _ _ up).1 in
        all_from (writes_at s t) ps (λ p on. there_x s t p (eff_x_any s law t k p (each_live p on) (all_at (eff_x k g h) ps p on all))))

    reads_row_too : (k : ℕ) → eff_s k g h r ≡ true → reads_row s t f keys ≡ true
    reads_row_too zero x = absurd (no (sym (ap is_read none) ∙ x))
    reads_row_too (suc k) x =
        or_elim _ _ x (λ here. absurd (no (sym (ap is_read none) ∙ here))) (λ up.
        let p = any_found (eff_s k g h) ps (sym (ap (list_any (eff_s k g h)) parents) ∙ up) in
        some_at (reads_at s t) ps p.0 p.1 (there_s s t p.0 (read_on_eff g law.graph h p.0 (each_live p.0 p.1) (eff_s_route g h k p.0 p.2))))

    alone : effective s t r ≡ row_effect s t f keys
    alone = as_one _ _ above (greater_effect _ _ _ _ (writes_row_too (node_count g)) (reads_row_too (node_count g)))

pub records_have_row_effects : RecordsHaveRowEffects
records_have_row_effects s t r law rec = record { above = above s law t r rec; alone = alone s law t r rec }
