-- Commands that touch no row: how the nodes of rows change. A dropped file is no file of rows any more, and no row of it has a node, since it has no record.
use Rattle.std.specs.Prelude.{◌≡◌, ℕ, Bool, false, not, List, [], ◌&&◌, ◌||◌, ◌==◌, ◌++◌, Some}
use Rattle.std.specs.Map.{lookup}
use Rattle.std.proofs.Common.{refl, sym, ap, ap₂, subst, ◌∙◌}
use Rattle.std.proofs.Math.Bool.{and-false}
use Rattle.gl_modes.proofs.NodeLemmas.{same_node-equal, same_node-refl}
use Rattle.gl_modes.proofs.Words.{and_both, clash, not_true}
use Rattle.gl_modes.specs.declared.node.NodeId.{NodeId}
use Rattle.gl_modes.specs.Nodes.{same_node}
use Rattle.gl_graph.specs.Graph.{first_parent, is_child, is_live}
use Rattle.gl_graph.proofs.Branch.{left_live, live}
use Rattle.gl_model.specs.Lawful.{IsLawful}
use Rattle.gl_model.specs.State.{State}
use Rattle.gl_model.specs.Tellings.{Told}
use Rattle.gl_model.specs.declared.txn.TxnId.{TxnId}
use Rattle.gl_steps.proofs.SchemaKeeps.{may_drop}
use Rattle.gl_steps.proofs.StepBelow.{file_stands}
use Rattle.gl_steps.proofs.StepsKeepLaw.{steps_keep_law}
use Rattle.gl_steps.specs.declared.command.Answer.{Answer}
use Rattle.gl_steps.specs.declared.command.Command.{Command}
use Rattle.gl_steps.specs.declared.command.Command.TheVariants as command
use Rattle.gl_steps.specs.Step.{Step}
use Rattle.gl_catalog.specs.Counters.{refuses}
use Rattle.gl_catalog.specs.Manager.{ManagerView, state_of}
use Rattle.gl_rows.specs.Names.{NamesHold}
use Rattle.gl_rows.specs.Rows.{RegistryView, RowsView, has_rows, name_of, rows_at, rows_left, same_row}
use Rattle.gl_rows.specs.Releasing.{LetsLeftGo, no_end}
use Rattle.gl_rows.specs.Serving.{Dropped, Ended, ForgetsFile, GaveBack, IsServed, Nothing, Released, Remains, TidiesUp, remains_after, touches_rows}
use Rattle.gl_rows.specs.declared.row.Row.{Row}
use Rattle.gl_rows.proofs.Accepted.{accepted_of}
use Rattle.gl_rows.proofs.GraphChanges.{step_graph, touches}
use Rattle.gl_rows.proofs.LettingGo.{let_go_changes}
use Rattle.gl_rows.proofs.NameChanges.{ChangesNames, SameRecords, names_same, names_stay}
use Rattle.gl_rows.proofs.Tidied.{IsOfLocks, dropped_so, ended_so, gave_back_so, refuses_is, released_so}
use Rattle.gl_rows.proofs.Touched.{step_records}

-- a command that touches no row
module _ (v v' : RegistryView) (law : IsLawful (state_of v.manager)) (holds : NamesHold v.rows (state_of v.manager).graph) where
  abbrev s : State
  s = state_of v.manager

  abbrev s' : State
  s' = state_of v'.manager

  off_touches : (c : Command) → touches_rows v c ≡ false → touches (has_rows v.rows) s.graph c ≡ false
  off_touches (command.Rekey t r i key) off = refl
  off_touches c off = off

  -- the dropped node does not live any more
  gone : (mid : State) (t : TxnId) (n : NodeId) (a : Answer) (told : Told) → refuses a ≡ false → Step s (command.Drop t n) a told mid
      → is_live mid.graph n ≡ false
  gone mid t n a told done step =
      let acc = accepted_of s (command.Drop t n) a told mid refl done step in
      let may = may_drop s t n acc.3 in
      ap (λ (x : State). is_live x.graph n) acc.2 ∙ ap (λ (x : State). is_live x.graph n) acc.1.2
      ∙ left_live s.graph n (live s.graph law.graph n may.movable may.free) n
      ∙ ap (λ b. is_live s.graph n && not (b || is_child s.graph n n)) (same_node-refl n) ∙ and-false (is_live s.graph n)

  module _ (c : Command) (a : Answer) (told : Told) (off : touches_rows v c ≡ false) (h : IsServed v c a told v') where
    abbrev Changes : Type 0
    Changes = ChangesNames v.rows v'.rows s.graph s'.graph

    mid_law : IsLawful (state_of h.mid)
    mid_law = steps_keep_law s (state_of h.mid) c a told law h.applies.step

    -- the records of files of rows after the step
    same : SameRecords (has_rows v.rows) s.graph (state_of h.mid).graph
    same = step_records (has_rows v.rows) s (state_of h.mid) c a told law (off_touches c off) h.applies.step

    -- which are those at the end, if nothing else was done
    same_then : v'.manager ≡ h.mid → SameRecords (has_rows v.rows) s.graph s'.graph
    same_then is = subst (λ (m : ManagerView). SameRecords (has_rows v.rows) s.graph (state_of m).graph) (sym is) same

    drops : (n : NodeId) → is_live (state_of h.mid).graph n ≡ false → v'.manager ≡ h.mid → ForgetsFile v.rows n v'.rows → Changes
    drops n dead is forgets =
        names_same v.rows v'.rows s.graph s'.graph holds (λ q. ap (lookup (same_row q)) forgets.names) (same_then is)
        (λ q r e. forgets.files q.file ∙ ap₂ (λ a b. a && not b) (holds.within q r e) (other q r e))
        (λ r rec of. (and_both _ _ (sym (forgets.files (first_parent s'.graph r)) ∙ of)).0)
      where
        -- no row of it has a node
        other : (q : Row) (r : NodeId) → name_of v.rows q ≡ Some r → same_node n q.file ≡ false
        other q r e =
            let stands = holds.well.stands q r e in
            let still = same.on r stands.0 (ap (has_rows v.rows) stands.1 ∙ holds.within q r e) in
            not_true (same_node n q.file) (λ e. clash (file_stands (state_of h.mid).graph mid_law.graph r still.rec)
            (ap (is_live (state_of h.mid).graph) (still.file ∙ stands.1 ∙ sym (same_node-equal n q.file e)) ∙ dead))

    lets_go : (rows : List Row) (ended : ℕ → Bool) → IsOfLocks c → LetsLeftGo h.mid v.rows rows ended v'.manager v'.rows → Changes
    lets_go rows ended of_locks goes =
        let_go_changes v.rows v'.rows s.graph (state_of h.mid) s' (step_graph s c a told (state_of h.mid) of_locks.nodes h.applies.step) mid_law holds
        goes.files (rows ++ rows_left v.rows) goes.goes

    tidied : (x : Remains) → remains_after c a ≡ x → TidiesUp x h.mid v.rows v'.manager v'.rows → Changes
    tidied Nothing e done =
        names_stay v.rows v'.rows s.graph s'.graph holds (ap (λ (x : RowsView). x.files) done.1) (λ q. ap (λ (x : RowsView). name_of x q) done.1)
        (same_then done.0)
    tidied (Dropped n) e done =
        let it = dropped_so c a n e in
        drops n (gone (state_of h.mid) it.0 n a told (refuses_is a ∙ it.2)
        (subst (λ d. Step s d a told (state_of h.mid)) it.1 h.applies.step)) done.0 done.1
    tidied (Ended slot) e done = lets_go (rows_at v.rows slot) (λ w. w == slot) (ended_so c a slot e) done
    tidied (GaveBack slot) e done = lets_go (rows_at v.rows slot) no_end (gave_back_so c a slot e) done
    tidied Released e done = lets_go [] no_end (released_so c a e) done

    pub served_changes : Changes
    served_changes = tidied (remains_after c a) refl h.tidies
