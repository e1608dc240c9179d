-- No row of a registry can be written by one transaction and read by another, by any locks.
use Rattle.std.specs.Prelude.{◌≡◌, ◌≢◌, ◌||◌, ℕ, Bool, true, List, Option, Some, None}
use Rattle.std.proofs.Common.{refl, rules, sym, ap, subst, ◌∙◌}
use Rattle.std.proofs.Math.Bool.{or-false}
use Rattle.gl_modes.proofs.Words.{or_elim}
use Rattle.gl_modes.specs.declared.node.NodeId.{NodeId}
use Rattle.gl_graph.specs.Graph.{shape_of}
use Rattle.gl_graph.specs.Shapes.{keys_in}
use Rattle.gl_model.specs.declared.answers.Effect.TheVariants as effect
use Rattle.gl_model.specs.Lawful.{IsLawful, effective, is_at_least_effect}
use Rattle.gl_model.specs.State.{State}
use Rattle.gl_steps.proofs.GraphChanges.{quiet_under}
use Rattle.gl_catalog.specs.Manager.{state_of}
use Rattle.gl_rows.specs.declared.row.Row.{Row}
use Rattle.gl_rows.specs.Names.{NamesHold}
use Rattle.gl_rows.specs.Promises.{HasRowEffect, NoRowOfTwo, OwnKeys, effect_of, may_read, may_write, of_node, reads_row, row_effect, writes_row}
use Rattle.gl_rows.specs.Rows.{RegistryView, name_of}
use Rattle.gl_rows.proofs.RowEffects.{as_great, no_row_conflict, read_by, reads_at, writes_at, x_there}
use Rattle.gl_rows.proofs.StandingRows.{records_have_row_effects}

-- a writer has X, and a reader at least S
writes_x : (w r : Bool) → w ≡ true → is_at_least_effect (effect_of w r) effect.X ≡ true
writes_x w r e = search rules

reads_s : (w r : Bool) → r ≡ true → is_at_least_effect (effect_of w r) effect.S ≡ true
reads_s w r e = search rules

module _ (v : RegistryView) (law : IsLawful (state_of v.manager)) (holds : NamesHold v.rows (state_of v.manager).graph) (row : Row) (keys : List ℕ)
    (own : OwnKeys v row keys) where
  abbrev s : State
  s = state_of v.manager

  module _ (n : NodeId) (named : name_of v.rows row ≡ Some n) where
    -- its node has at least its row's effective modes
    pub node_effect : (t : ℕ) → HasRowEffect s t n row.file keys
    node_effect t =
        let stands = holds.well.stands row n named in
        subst (λ (ks : List ℕ). HasRowEffect s t n row.file ks) (own n named)
        (subst (λ (f : NodeId). HasRowEffect s t n f (keys_in (shape_of s.graph n))) stands.1 (records_have_row_effects s t n law stands.0))

    pub writes_node : (t : ℕ) → may_write v t row keys ≡ true → writes_at s t n ≡ true
    writes_node t h =
        or_elim (writes_row s t row.file keys) (writes_at s t n) (sym (ap (λ o. writes_row s t row.file keys || of_node (writes_at s t) o) named) ∙ h)
        (λ above. as_great (effective s t n) (row_effect s t row.file keys) effect.X (node_effect t).above (writes_x _ (reads_row s t row.file keys) above))
        (λ here. here)

    pub reads_node : (t : ℕ) → may_read v t row keys ≡ true → reads_at s t n ≡ true
    reads_node t h =
        or_elim (reads_row s t row.file keys) (reads_at s t n) (sym (ap (λ o. reads_row s t row.file keys || of_node (reads_at s t) o) named) ∙ h)
        (λ above. as_great (effective s t n) (row_effect s t row.file keys) effect.S (node_effect t).above (reads_s (writes_row s t row.file keys) _ above))
        (λ here. here)

  no_row_of_two : (t u : ℕ) → t ≢ u → may_write v t row keys ≡ true → may_read v u row keys ≡ true → (o : Option NodeId) → name_of v.rows row ≡ o → ⊥
  no_row_of_two t u ne writes reads None e =
      no_row_conflict s t u row.file keys law ne
      (sym (ap (λ o. writes_row s t row.file keys || of_node (writes_at s t) o) e ∙ or-false _) ∙ writes)
      (sym (ap (λ o. reads_row s u row.file keys || of_node (reads_at s u) o) e ∙ or-false _) ∙ reads)
  no_row_of_two t u ne writes reads (Some n) e =
      quiet_under s law t u ne n (x_there s t n (writes_node n e t writes)) (read_by s u n (reads_node n e u reads))

pub no_row_of_two_law : NoRowOfTwo
no_row_of_two_law v t u row keys law holds own ne writes reads = no_row_of_two v law holds row keys own t u ne writes reads (name_of v.rows row) refl
