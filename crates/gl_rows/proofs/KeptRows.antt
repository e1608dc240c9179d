-- What others cannot change for a transaction that reads or writes a row: on its parents it has the effective modes that it had.
use Rattle.std.specs.Prelude.{◌≡◌, ℕ, Bool, true, false, List}
use Rattle.gl_model.specs.Lawful.{IsLawful, is_at_least_effect}
use Rattle.gl_model.specs.State.{State}
use Rattle.gl_graph.specs.Graph.{record_parents}
use Rattle.gl_modes.specs.declared.node.NodeId.{NodeId}
use Rattle.gl_steps.proofs.OthersKeep.{run_keeps}
use Rattle.gl_steps.proofs.StepsKeepLaw.{runs_keep_law}
use Rattle.gl_rows.proofs.Ways.{each_more, each_same, RowsFollow, rows_by_ways, run_ways}
use Rattle.gl_rows.specs.Promises.{IsRowInBoth, OthersKeepRowEffects, row_effect}

module _ (s s' : State) (t : ℕ) (granted : Bool) (f : NodeId) (follow : RowsFollow s s' t granted f) (keys : List ℕ) (rows : IsRowInBoth s s' f keys) where
  pub row_same : granted ≡ false → row_effect s' t f keys ≡ row_effect s t f keys
  row_same = each_same s s' t granted (record_parents s.graph f keys) (record_parents s'.graph f keys) (follow keys rows.0 rows.1)

  pub row_more : is_at_least_effect (row_effect s' t f keys) (row_effect s t f keys) ≡ true
  row_more = each_more s s' t granted (record_parents s.graph f keys) (record_parents s'.graph f keys) (follow keys rows.0 rows.1)

pub others_keep_row_effects : OthersKeepRowEffects
others_keep_row_effects s s' cs rs t f law run alive apart stays =
    let law' = runs_keep_law s s' cs rs law run in
    let keeps = run_keeps cs rs s s' t law run alive apart in
    let follow = rows_by_ways s s' law law' t _ keeps f (run_ways cs rs s s' t f law run alive apart stays) in
    record {
      same = λ quiet keys rows. row_same s s' t.slot _ f follow keys rows quiet;
      greater = λ keys rows. row_more s s' t.slot _ f follow keys rows;
    }
