-- After a transaction rolls back to a savepoint, or commits and keeps locks: the nodes of rows, and the effective modes of others on rows. For
-- Registry.release_since and Registry.commit_keeping.
use Rattle.std.specs.Prelude.{◌≡◌, ℕ, true, false, List, [], ◌∷◌, ◌++◌, Option, Some, None, Result, Ok, Err, map}
use Rattle.std.proofs.Common.{refl, sym, ap, ◌∙◌}
use Rattle.std.proofs.Math.Bool.{or-false}
use Rattle.gl_modes.specs.declared.node.NodeId.{NodeId}
use Rattle.gl_modes.specs.declared.refusal.Refusal.{Refusal}
use Rattle.gl_model.specs.declared.txn.TxnId.{TxnId}
use Rattle.gl_model.specs.Calls.{Unlocks, unlocked}
use Rattle.gl_model.specs.Lawful.{IsLawful}
use Rattle.gl_model.specs.State.{State, lives}
use Rattle.gl_model.specs.Tellings.{Told}
use Rattle.gl_steps.specs.declared.command.Command.{Command}
use Rattle.gl_steps.specs.declared.command.Command.TheVariants as command
use Rattle.gl_steps.specs.Promises.{same_txn}
use Rattle.gl_steps.specs.Step.{Run}
use Rattle.gl_steps.proofs.StepsKeepLaw.{runs_keep_law}
use Rattle.gl_catalog.specs.Keeping.{CompletesKeeping}
use Rattle.gl_catalog.specs.Manager.{ManagerView, state_of}
use Rattle.gl_catalog.specs.Replies.{Says}
use Rattle.gl_catalog.specs.Savepoints.{TakesBack}
use Rattle.gl_catalog.proofs.GoingBack.{back_keeps_over, keeping_keeps_over}
use Rattle.gl_table.specs.Keeping.{RenewsOrEnds}
use Rattle.gl_rows.specs.Applying.{Upkeep}
use Rattle.gl_rows.specs.Names.{NamesHold}
use Rattle.gl_rows.specs.Promises.{BacksKeepOnRows, KeepingsKeepOnRows, is_granted}
use Rattle.gl_rows.specs.Releasing.{CommitsAndKeeps, GoesBackTo}
use Rattle.gl_rows.specs.Rows.{RowsView, rows_at, rows_left}
use Rattle.gl_rows.proofs.CarriedOut.{unchanged}
use Rattle.gl_rows.proofs.GraphChanges.{step_graph}
use Rattle.gl_rows.proofs.LettingGo.{let_go_changes}
use Rattle.gl_rows.proofs.NameChanges.{ChangesNames}
use Rattle.gl_rows.proofs.RunsKeepIndexes.{same_keeps}
use Rattle.gl_rows.proofs.Served.{Over, keeps_rows, over_as, over_same, over_then, over_upkeep}
use Rattle.gl_rows.proofs.Ways.{ways_of}
use Rattle.gl_rows.proofs.Tidied.{at_end_upkeep, meanwhile_upkeep}

abbrev unlocks : TxnId → List NodeId → List Command
unlocks t ns = map (λ n. command.Unlock t n) ns

-- unlocking nodes leaves the graph as it is
unlocked_graph : (t : TxnId) (ns : List NodeId) (rs : List Says) (s s' : State) → Run s (unlocks t ns) rs s' → s'.graph ≡ s.graph
unlocked_graph t [] [] s s' run = ap (λ (z : State). z.graph) run
unlocked_graph t [] (r ∷ rs) s s' run = absurd run
unlocked_graph t (n ∷ ns) [] s s' run = absurd run
unlocked_graph t (n ∷ ns) (r ∷ rs) s s' run = unlocked_graph t ns rs run.0 s' run.2 ∙ step_graph s (command.Unlock t n) r.0 r.1 run.0 refl run.1

module _ (m mid : ManagerView) (t : TxnId) (mark k : ℕ) (told : Told) (law : IsLawful (state_of m)) (h : TakesBack t mark k m told mid) where
  pub back_graph : (state_of mid).graph ≡ (state_of m).graph
  back_graph = unlocked_graph t h.nodes h.replies (state_of m) (state_of mid) h.run

  pub back_lawful : IsLawful (state_of mid)
  back_lawful = runs_keep_law (state_of m) (state_of mid) (unlocks t h.nodes) h.replies law h.run

  -- what another transaction keeps
  over_back : (u : TxnId) → lives (state_of m) u ≡ true → same_txn u t ≡ false → Over (state_of m) (state_of mid) u (is_granted u told)
  over_back u alive apart = record {
    law = back_lawful;
    keeps = back_keeps_over m mid law t mark k told h u alive apart;
    ways = λ f.
        ways_of (state_of m) (state_of mid) law back_lawful u (is_granted u told) (back_keeps_over m mid law t mark k told h u alive apart) f
        (same_keeps (state_of m).graph (state_of mid).graph back_graph f);
  }

-- rows are then let go, or nothing has changed
pub back_changes : (m m' : ManagerView) (v v' : RowsView) (t : TxnId) (mark : ℕ) (result : Result ℕ Refusal) (told : Told) → IsLawful (state_of m)
    → NamesHold v (state_of m).graph → GoesBackTo t mark m v result told m' v' → ChangesNames v v' (state_of m).graph (state_of m').graph
back_changes m m' v v' t mark (Ok k) told law holds h =
    let_go_changes v v' (state_of m).graph (state_of h.0) (state_of m') (back_graph m h.0 t mark k told law h.1) (back_lawful m h.0 t mark k told law h.1) holds
    h.2.files (rows_at v t.slot ++ rows_left v) h.2.goes
back_changes m m' v v' t mark (Err r) told law holds h = unchanged m m' v v' law holds told h.1.same_manager h.1.same_rows

-- what another keeps, it keeps while rows are let go
over_let_go : (s mid s' : State) (t : TxnId) (told : Told) → IsLawful s → Over s mid t (is_granted t told) → Upkeep mid s' → Over s s' t (is_granted t told)
over_let_go s mid s' t told law back upkeep =
    over_as s s' t (or-false (is_granted t told))
    (over_then s mid s' t (is_granted t told) false law back (over_upkeep mid s' t back.law upkeep back.keeps.alive))

-- and if nothing changes, and nobody is told
over_none : (m m' : ManagerView) (t : TxnId) (told : Told) → IsLawful (state_of m) → told ≡ [] → m' ≡ m → lives (state_of m) t ≡ true
    → Over (state_of m) (state_of m') t (is_granted t told)
over_none m m' t told law none same alive =
    over_as (state_of m) (state_of m') t (sym (ap (is_granted t) none)) (over_same (state_of m) (state_of m') t law (ap state_of same) alive)

pub backs_keep_on_rows : BacksKeepOnRows
backs_keep_on_rows v v' u mark result told t is h alive apart =
    keeps_rows v v' t (is_granted t told) is (over result h) (back_changes v.manager v'.manager v.rows v'.rows u mark result told is.law is.names h)
  where
    over : (result : Result ℕ Refusal) → GoesBackTo u mark v.manager v.rows result told v'.manager v'.rows
        → Over (state_of v.manager) (state_of v'.manager) t (is_granted t told)
    over (Ok k) h =
        over_let_go (state_of v.manager) (state_of h.0) (state_of v'.manager) t told is.law
        (over_back v.manager h.0 u mark k told is.law h.1 t alive apart) (meanwhile_upkeep h.0 v'.manager v.rows v'.rows u.slot h.2)
    over (Err r) h = over_none v.manager v'.manager t told is.law h.1.nobody_told h.1.same_manager alive

-- The same of a commit that keeps locks.

unlocks_graph : (ns : List NodeId) (s s' : State) (t : ℕ) → Unlocks s t ns s' → s'.graph ≡ s.graph
unlocks_graph [] s s' t h = ap (λ (x : State). x.graph) h
unlocks_graph (n ∷ ns) s s' t h = unlocks_graph ns (unlocked s t n) s' t h.2

renews_graph : (t : TxnId) (since : ℕ) (s : State) (next : Option TxnId) (s' : State) → RenewsOrEnds t since s next s' → s'.graph ≡ s.graph
renews_graph t since s (Some u) s' h = ap (λ (x : State). x.graph) h.2
renews_graph t since s None s' h = ap (λ (x : State). x.graph) h.1

module _ (m mid : ManagerView) (t : TxnId) (keep since : ℕ) (next : Option TxnId) (told : Told) (law : IsLawful (state_of m))
    (h : CompletesKeeping t keep since m next told mid) where
  pub keeping_graph : (state_of mid).graph ≡ (state_of m).graph
  keeping_graph =
      renews_graph t since h.keeps.mid next _ h.keeps.renews ∙ unlocks_graph h.keeps.nodes _ h.keeps.mid t.slot h.keeps.back.unlocks

  pub keeping_lawful : IsLawful (state_of mid)
  keeping_lawful = runs_keep_law (state_of m) (state_of mid) _ _ law h.run

  over_keeping : (u : TxnId) → lives (state_of m) u ≡ true → same_txn u t ≡ false → Over (state_of m) (state_of mid) u (is_granted u told)
  over_keeping u alive apart = record {
    law = keeping_lawful;
    keeps = keeping_keeps_over m mid law t keep since next told h u alive apart;
    ways = λ f.
        ways_of (state_of m) (state_of mid) law keeping_lawful u (is_granted u told) (keeping_keeps_over m mid law t keep since next told h u alive apart) f
        (same_keeps (state_of m).graph (state_of mid).graph keeping_graph f);
  }

pub keeping_changes : (m m' : ManagerView) (v v' : RowsView) (t : TxnId) (keep since : ℕ) (result : Result (Option TxnId) Refusal) (told : Told)
    → IsLawful (state_of m) → NamesHold v (state_of m).graph → CommitsAndKeeps t keep since m v result told m' v'
    → ChangesNames v v' (state_of m).graph (state_of m').graph
keeping_changes m m' v v' t keep since (Ok next) told law holds h =
    let_go_changes v v' (state_of m).graph (state_of h.0) (state_of m') (keeping_graph m h.0 t keep since next told law h.1)
    (keeping_lawful m h.0 t keep since next told law h.1) holds h.2.files (rows_at v t.slot ++ rows_left v) h.2.goes
keeping_changes m m' v v' t keep since (Err r) told law holds h = unchanged m m' v v' law holds told h.1.same_manager h.1.same_rows

pub keepings_keep_on_rows : KeepingsKeepOnRows
keepings_keep_on_rows v v' u keep since result told t is h alive apart =
    keeps_rows v v' t (is_granted t told) is (over result h)
    (keeping_changes v.manager v'.manager v.rows v'.rows u keep since result told is.law is.names h)
  where
    over : (result : Result (Option TxnId) Refusal) → CommitsAndKeeps u keep since v.manager v.rows result told v'.manager v'.rows
        → Over (state_of v.manager) (state_of v'.manager) t (is_granted t told)
    over (Ok next) h =
        over_let_go (state_of v.manager) (state_of h.0) (state_of v'.manager) t told is.law
        (over_keeping v.manager h.0 u keep since next told is.law h.1 t alive apart) (at_end_upkeep h.0 v'.manager v.rows v'.rows u.slot h.2)
    over (Err r) h = over_none v.manager v'.manager t told is.law h.1.nobody_told h.1.same_manager alive
