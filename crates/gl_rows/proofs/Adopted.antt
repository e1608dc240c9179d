-- A record that is adopted and locked for a row is new, and the one that it replaces, if any, is forgotten after that.
use Rattle.std.specs.Prelude.{◌≡◌, ◌&&◌, ◌==◌, ◌+◌, ◌<◌, ◌≤◌, ◌∷◌, ℕ, Bool, true, false, [], Some, None, if◌then◌else◌}
use Rattle.std.proofs.Common.{refl, sym, ap, subst, ◌∙◌, arith}
use Rattle.gl_modes.proofs.NodeLemmas.{same_node-equal}
use Rattle.gl_modes.proofs.Words.{clash, no as never, none_some, not_true, or_elim, some_is, split}
use Rattle.gl_modes.specs.Modes.{supremum}
use Rattle.gl_modes.specs.Nodes.{same_node}
use Rattle.gl_modes.specs.declared.mode.Mode.TheVariants.{NL}
use Rattle.gl_modes.specs.declared.node.NodeId.{NodeId}
use Rattle.gl_graph.specs.Changes.{IsAdopted}
use Rattle.gl_graph.specs.Graph.{Node, is_live, record_parents, shape_of}
use Rattle.gl_graph.specs.Refusals.{max_count}
use Rattle.gl_graph.specs.Shapes.{Rec, is_record_shape}
use Rattle.gl_graph.proofs.Born.{old_below}
use Rattle.gl_header.specs.Header.{enters, is_empty}
use Rattle.gl_header.specs.State.{nobody_holds}
use Rattle.gl_header.proofs.Changed.{nobody-enters}
use Rattle.gl_model.specs.Calls.{accepted_once, enters_at, is_idle, wanted}
use Rattle.gl_model.specs.Lawful.{IsLawful}
use Rattle.gl_model.specs.State.{State}
use Rattle.gl_model.specs.Tellings.{Told}
use Rattle.gl_model.proofs.law.Records.{idle-free}
use Rattle.gl_model.proofs.law.Rows.{row_live}
use Rattle.gl_table.proofs.calls.Adopting.{adopted_lives}
use Rattle.gl_steps.specs.declared.command.Answer.TheVariants as answer
use Rattle.gl_steps.specs.declared.command.Command.TheVariants as command
use Rattle.gl_steps.specs.Tests.{refusal_of}
use Rattle.gl_steps.proofs.KeptKinds.{KeepsKinds, row_kinds}
use Rattle.gl_steps.proofs.RowKeeps.{rows_come_and_go}
use Rattle.gl_steps.proofs.RowNames.{NamesRows, names_rows}
use Rattle.gl_steps.proofs.StepsKeepLaw.{steps_keep_law}
use Rattle.gl_catalog.specs.Adopting.{AdoptsLocked}
use Rattle.gl_catalog.specs.Manager.{ManagerView, state_of}
use Rattle.gl_rows.specs.declared.answer.RowLocked.{RowLocked}
use Rattle.gl_rows.specs.Locking.{NamesNew, Replaces, Wish}
use Rattle.gl_rows.specs.Names.{NamesHold}
use Rattle.gl_rows.specs.Rows.{RowsView, has_rows, name_of}
use Rattle.gl_rows.proofs.Accepted.{accepted_of, may_be_forgotten}
use Rattle.gl_rows.proofs.GraphChanges.{step_graph}
use Rattle.gl_rows.proofs.LettingGo.{Leaves, forget_leaves, forgotten_dead}
use Rattle.gl_rows.proofs.NameChanges.{ChangesNames, Comes, record_live, row_placed}

pub node_is : {a b : NodeId} → answer.Node a ≡ answer.Node b → a ≡ b
node_is e = cc

-- a node of the next birth is new
pub new_dead : (s : State) → IsLawful s → (n : NodeId) → n.birth ≡ s.graph.births + 1 → is_live s.graph n ≡ false
new_dead s law n birth = not_true (is_live s.graph n) (λ live. let low = old_below s.graph law.graph [] n live in absurd (omega (arith, low, birth)))

module _ (m m' : ManagerView) (law : IsLawful (state_of m)) (w : Wish) (n : NodeId) (h : AdoptsLocked m w.txn w.row.file w.keys w.mode n m') where
  abbrev s : State
  s = state_of m

  born : IsAdopted s.graph h.mid.graph n w.row.file w.keys.now
  born =
      let acc = accepted_of s (command.Adopt w.row.file w.keys) (answer.Node n) [] h.mid refl refl h.adopts in
      subst (λ (x : State). IsAdopted s.graph x.graph n w.row.file w.keys.now) (sym acc.2)
      (subst (λ k. IsAdopted s.graph acc.0.graph k w.row.file w.keys.now) (sym (node_is acc.1.2)) acc.1.1)

  named : NamesRows s (command.Adopt w.row.file w.keys) (answer.Node n, []) h.mid
  named = names_rows s h.mid (command.Adopt w.row.file w.keys) (answer.Node n) [] law refl h.adopts

  live : is_live h.mid.graph n ≡ true
  live = adopted_lives s.graph h.mid.graph n w.row.file w.keys.now born

  mid_comes : Comes s.graph h.mid.graph n w.row.file
  mid_comes =
      let row : Node = record { key = n.key; shape = Rec w.keys.now; parents = record_parents s.graph w.row.file w.keys.now } in
      let new = new_dead s law n born.birth in
      record {
        new = record {
          new = new;
          rec = ((rows_come_and_go s h.mid (command.Adopt w.row.file w.keys) (answer.Node n) [] law refl h.adopts).came n new live).0;
          file = sym (named.came n new live).0.0;
        };
        kinds = subst (KeepsKinds s.graph) (sym born.after) (row_kinds s.graph law.graph w.row.file row);
        live = λ k old. ap (λ g. is_live g k) born.after ∙ row_live s.graph law.graph w.row.file row k old;
        alone = λ k dead there. sym (node_is (named.came k dead there).0.1);
      }

  mid_lawful : IsLawful h.mid
  mid_lawful = steps_keep_law s h.mid (command.Adopt w.row.file w.keys) (answer.Node n) [] law h.adopts

  behind_lawful : IsLawful (state_of m')
  behind_lawful = steps_keep_law h.mid (state_of m') (command.Lock w.txn n w.mode) (answer.Granted w.mode) [] mid_lawful h.locks

  comes : Comes s.graph (state_of m').graph n w.row.file
  comes = subst (λ g. Comes s.graph g n w.row.file) (sym (step_graph h.mid (command.Lock w.txn n w.mode) (answer.Granted w.mode) [] (state_of m') refl h.locks))
      mid_comes

  -- it is locked at once
  free : ((u : ℕ) → h.mid.held u n ≡ NL) × (h.mid.queue n ≡ [])
  free = idle-free h.mid mid_lawful n (named.came n mid_comes.new.new live).0.2

  wanted_is : wanted h.mid w.txn.slot n w.mode ≡ w.mode
  wanted_is = ap (λ x. supremum x w.mode) (free.0 w.txn.slot)

  pub enters_new : enters_at h.mid w.txn.slot n w.mode ≡ true
  enters_new = (λ i. enters h.mid.most (λ u. free.0 u i) (free.1 i) w.txn.slot (wanted_is i)) ∙ nobody-enters h.mid.most w.txn.slot w.mode

  -- and another that nobody held or waited for can be forgotten
  module _ (old : NodeId) (rec : is_record_shape (shape_of s.graph old) ≡ true) (idle : is_idle s old ≡ true) (room : m.accepted + 3 ≤ max_count) where
    other : same_node old n ≡ false
    other = not_true (same_node old n) (λ e. clash (record_live s.graph old rec) (ap (is_live s.graph) (same_node-equal old n e) ∙ mid_comes.new.new))

    idle_still : is_idle (state_of m') old ≡ true
    idle_still =
        let made = accepted_of s (command.Adopt w.row.file w.keys) (answer.Node n) [] h.mid refl refl h.adopts in
        let locked = accepted_of h.mid (command.Lock w.txn n w.mode) (answer.Granted w.mode) [] (state_of m') refl refl h.locks in
        ap (λ x. is_idle x old) (locked.2 ∙ ap accepted_once (locked.1.0.at_once enters_new))
        ∙ (λ i. nobody_holds h.mid.most (λ u. unheld u (u == w.txn.slot) i) && is_empty (h.mid.queue old))
        ∙ ap (λ x. is_idle x old) (made.2 ∙ ap accepted_once made.1.4) ∙ idle
      where
        unheld : (u : ℕ) (b : Bool) → (if b && same_node old n then wanted h.mid w.txn.slot n w.mode else h.mid.held u old) ≡ h.mid.held u old
        unheld u true = ap (λ b. if b then wanted h.mid w.txn.slot n w.mode else h.mid.held u old) other
        unheld u false = refl

    pub old_may_go : refusal_of (state_of m') (command.Forget old) ≡ None
    old_may_go =
        let there = record_live s.graph old rec in
        let on = comes.live old there in
        may_be_forgotten (state_of m') old (subst (λ k. k < max_count) (sym h.accepted) (omega (arith, room))) on
        ((comes.kinds old there on).record_same ∙ rec) idle_still

-- A row gets the record.

module _ (m m' : ManagerView) (v v' : RowsView) (law : IsLawful (state_of m)) (holds : NamesHold v (state_of m).graph) (w : Wish) (x : RowLocked) (told : Told)
    (new : NamesNew v w x told v') where
  abbrev Placed : Type 0
  Placed = ChangesNames v v' (state_of m).graph (state_of m').graph

  pub adopted_placed : name_of v w.row ≡ None → has_rows v w.row.file ≡ true → AdoptsLocked m w.txn w.row.file w.keys w.mode x.node m' → Placed
  adopted_placed none of_rows h =
      row_placed v v' (state_of m).graph (state_of m').graph (state_of m').graph holds w.row x.node of_rows new.registers.files new.registers.names
      (comes m m' law w x.node h) (λ k live. refl) (λ k live other. live) (λ k e. absurd (none_some (sym none ∙ e)))

  pub replaced_placed : (n : NodeId) → name_of v w.row ≡ Some n → Replaces m w.txn w.row.file w.keys w.mode n x.node m' → Placed
  replaced_placed n named h =
      row_placed v v' (state_of m).graph (state_of h.mid).graph (state_of m').graph holds w.row x.node (holds.within w.row n named) new.registers.files
      new.registers.names (comes m h.mid law w x.node h.adopts) leaves.same
      (λ k live other. split (is_live (state_of m').graph k) (λ e. e) (λ dead. absurd (other (named ∙ ap Some (sym (lost k live dead))))))
      (λ k e. ap (is_live (state_of m').graph) (some_is (sym e ∙ named)) ∙ forgotten_dead (state_of h.mid) (state_of m') mid_law n h.forgets.step)
    where
      mid_law : IsLawful (state_of h.mid)
      mid_law = behind_lawful m h.mid law w x.node h.adopts

      leaves : Leaves (state_of h.mid) (state_of m') (n ∷ [])
      leaves = forget_leaves (state_of h.mid) (state_of m') mid_law n h.forgets.step

      lost : (k : NodeId) → is_live (state_of h.mid).graph k ≡ true → is_live (state_of m').graph k ≡ false → k ≡ n
      lost k live dead = same_node-equal k n (or_elim (same_node k n) false (leaves.lost k live dead) (λ e. e) (λ e. absurd (never e)))
