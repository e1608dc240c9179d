-- A record is adopted in a table, and one transaction holds it: what holds of the fields still does. For the call that does both.
use Rattle.gl_table.proofs.Words.{◌+◌, ◌||◌, ◌∙◌, ◌≡◌, Active, ap, are_compatible, AreExact, granted-no_cycle, Graph, graph_of, HasNoCycle, if◌then◌else◌}
use Rattle.gl_table.proofs.Words.{Inside, intends_over, is_at_least, is_live, is_some, IsAdopted, IsBorn, IsFresh, IsLawful, IsSound, Ledger, List, marked}
use Rattle.gl_table.proofs.Words.{members, Mode, NL, NL-compatible, Node, node_at, NodeId, None, number_same, Ok, Option, parents_in, parents_of, Rec}
use Rattle.gl_table.proofs.Words.{record_parents, record_refusal, refl, Refusal, Refuses, rule_refusal, S, same_mode, shape_of, Some, State, state_in, state_of}
use Rattle.gl_table.proofs.Words.{status_of, subst, sym, true, View, view_of, with_grant, with_graph, with_key, X, ℕ}
use Rattle.gl_modes.proofs.ModeLemmas.{supremum-above}
use Rattle.gl_graph.proofs.Adopted.{file_stays}
use Rattle.gl_graph.proofs.Marked.{marked_live, marked_parents}
use Rattle.gl_graph.specs.Changes.{born_node}
use Rattle.gl_graph.specs.Shapes.{is_file_shape}
use Rattle.gl_header.proofs.Fits.{fits-from_all}
use Rattle.gl_model.proofs.law.Keeps.{with_grant-lawful}
use Rattle.gl_model.proofs.law.Records.{adopted-lawful}
use Rattle.gl_model.proofs.law.Tests.{rule_met}
use Rattle.gl_table.proofs.calls.Law.{suited-stands}
use Rattle.gl_table.proofs.calls.Records.{adopted-suits, record_fresh}
use Rattle.gl_table.proofs.calls.Stands.{MayStand, stands, with_locks}

-- the record that was adopted lives, under its parents
module _ (g g' : Graph) (n f : NodeId) (keys : List ℕ) (born : IsAdopted g g' n f keys) where
  abbrev node : Node
  node = record { key = n.key; shape = Rec keys; parents = record_parents g f keys }

  node_there : node_at (born_node g node) n ≡ Some node
  node_there =
      ap (λ b. with_key n.key (if b then Some node else g.at n.birth)) (number_same n.birth (g.births + 1) born.birth)
      ∙ ap (λ b. if b then Some node else None) (number_same n.key n.key refl)

  pub adopted_lives : is_live g' n ≡ true
  adopted_lives = ap (λ h. is_live h n) born.after ∙ marked_live (born_node g node) f n ∙ ap is_some node_there

  pub adopted_parents : parents_of g' n ≡ record_parents g f keys
  adopted_parents = ap (λ h. parents_of h n) born.after ∙ marked_parents (born_node g node) f n ∙ ap parents_in node_there

-- the record was made: its file is still one
module _ (i : Inside) (sound : IsSound i) (f : NodeId) (keys : List ℕ) (free : record_refusal (graph_of i.locks.graph) f keys ≡ None) (w : View) (n : NodeId)
    (born : IsBorn (graph_of i.locks.graph) (graph_of w) n (Rec keys) (record_parents (graph_of i.locks.graph) f keys)) where
  abbrev before : State
  before = state_of (view_of i)

  pub file_stands : is_file_shape (shape_of (graph_of w) f) ≡ true
  file_stands =
      file_stays (graph_of i.locks.graph) (graph_of w) sound.lawful.graph f keys n (subst (λ (o : Option Refusal). Refuses {T = NodeId} o (Ok n)) (sym free) tt)
      _ born.after

  -- and then the file was marked: both together, the record was adopted
  module _ (v : View) (after : graph_of v ≡ marked (graph_of w) f) where
    pub adopted : IsAdopted (graph_of i.locks.graph) (graph_of v) n f keys
    adopted = record { key_free = born.key_free; birth = born.birth; after = after ∙ ap (λ g. marked g f) born.after }

    pub stands_adopted : MayStand i v i.locks.ledger
    stands_adopted = suited-stands i sound v (adopted-suits i sound v n f keys free adopted)

    unheld : (u : ℕ) → before.held u n ≡ NL
    unheld = (record_fresh i sound f keys free w n born).unheld

    pub adopted_fresh : IsFresh (state_in v i.locks.ledger) n
    adopted_fresh = record {
      live = adopted_lives (graph_of i.locks.graph) (graph_of v) n f keys adopted;
      unheld = unheld;
      unawaited = (record_fresh i sound f keys free w n born).unawaited;
    }

    -- the slot holds it
    module _ (t : ℕ) (m : Mode) (ledger : Ledger) (is : state_in v ledger ≡ with_grant (state_in v i.locks.ledger) t n m) where
      pub state_adopted : with_locks i (state_in v ledger) ≡ with_grant (with_graph before (graph_of v)) t n m
      state_adopted = ap {A = State} (with_locks i) is

      -- in a mode that a record can have and the parents permit
      module _ (active : status_of before t ≡ Some Active) (fit : (same_mode m S || same_mode m X) ≡ true)
          (rule : rule_refusal (before.held t) (record_parents (graph_of i.locks.graph) f keys) m ≡ None) where
        intends_there : intends_over (before.held t) (parents_of (graph_of v) n) m ≡ true
        intends_there =
            ap (λ ps. intends_over (before.held t) ps m) (adopted_parents (graph_of i.locks.graph) (graph_of v) n f keys adopted)
            ∙ rule_met (before.held t) (record_parents (graph_of i.locks.graph) f keys) m rule

        granted_lawful : IsLawful (with_grant (with_graph before (graph_of v)) t n m)
        granted_lawful =
            with_grant-lawful (with_graph before (graph_of v)) (adopted-lawful before sound.lawful (graph_of v) n f keys free adopted) t n m active
            (adopted_lives (graph_of i.locks.graph) (graph_of v) n f keys adopted) (λ rec. fit) intends_there
            (ap (is_at_least m) (unheld t) ∙ supremum-above NL m)
            (fits-from_all before.most (members before n) t m (λ u other. ap (are_compatible m) (unheld u) ∙ NL-compatible m))

        pub stands_locked : AreExact v ledger → MayStand i v ledger
        stands_locked exact = stands i v ledger (record {
          lawful = subst IsLawful (sym state_adopted) granted_lawful;
          no_cycle = λ at. subst HasNoCycle (sym state_adopted) (granted-no_cycle (with_graph before (graph_of v)) t n m active (sound.no_cycle at));
        }) exact
