-- Which record an adopt makes and a forget removes: the one that is named, and no other.
use Rattle.gl_steps.proofs.Words.{◌+◌, [], ◌∙◌, ◌∷◌, ◌≡◌, Adopts, Answer, ap, arith, Bor, born_node, clash, Command, false, first_in, first_parent, Forgets}
use Rattle.gl_steps.proofs.Words.{is_adopted, is_file_shape, is_idle, is_live, is_of_rows, is_some, IsLawful, List, Node, node_at, NodeId, none_some}
use Rattle.gl_steps.proofs.Words.{parents_in, record_parents, record_refusal, refl, shape_in, shape_of, Some, some_is, State, Step, subst, suc, sym, Told, true}
use Rattle.gl_steps.proofs.Words.{was_live, with_graph, without_node, zero, ℕ}
use Rattle.gl_modes.proofs.NodeLemmas.{node_is}
use Rattle.gl_graph.proofs.Born.{old_or_new, old_same, place_in}
use Rattle.gl_graph.proofs.KindRules.{file_plain, plain_live}
use Rattle.gl_graph.proofs.Look.{live_node}
use Rattle.gl_graph.proofs.Marked.{marked_first_parent, marked_is_adopted, marked_live}
use Rattle.gl_graph.proofs.Unrefused.{record_unrefused}
use Rattle.gl_model.proofs.law.Rows.{dead-idle, gone_is, row_live, with_row}
use Rattle.gl_steps.specs.declared.command.Answer.TheVariants as answer
use Rattle.gl_steps.specs.declared.command.Command.TheVariants as command
use Rattle.gl_steps.proofs.EachStep.{each_step}
use Rattle.gl_steps.proofs.GraphCommands.{new_record}
use Rattle.gl_steps.proofs.Made.{adopted, adopted_is}
use Rattle.gl_steps.proofs.MakeKeeps.{behind_worn}
use Rattle.gl_steps.proofs.RowKeeps.{may_forget, MayForget}

-- what is added is adopted by the step, as a record of its file, which is marked, and what is removed is forgotten by it
pub record NamesRows (s : State) (c : Command) (x : Answer × Told) (s' : State) : Type 0 where
  pub came : (r : NodeId) → is_live s.graph r ≡ false → is_live s'.graph r ≡ true
      → Adopts (first_parent s'.graph r) r s c x s' × (is_adopted (shape_of s'.graph (first_parent s'.graph r)) ≡ true)
  pub went : (r : NodeId) → is_live s.graph r ≡ true → is_live s'.graph r ≡ false → Forgets r s c x s'

module _ (s : State) (law : IsLawful s) where
  none_named : (c : Command) (x : Answer × Told) → NamesRows s c x s
  none_named c x = record { came = λ r dead live. clash live dead; went = λ r live dead. clash live dead }

  module _ (n f : NodeId) (keys : List ℕ) where
    abbrev row : Node
    row = new_record n.key keys (record_parents s.graph f keys)

    -- what is added is the record
    row_is : n.birth ≡ s.graph.births + 1 → (r : NodeId) → is_live s.graph r ≡ false → is_live (with_row s.graph law.graph f row) r ≡ true
        → (r ≡ n) × (node_at (born_node s.graph row) r ≡ Some row)
    row_is birth r dead live =
        let x = live_node (node_at (born_node s.graph row) r) (sym (marked_live (born_node s.graph row) f r) ∙ live) in
        old_or_new s.graph law.graph (row ∷ []) r x.0 x.1 (λ old. clash (ap is_some old) dead) (λ k at new. by x.0 x.1 k at new)
      where
        by : (x : Node) → node_at (born_node s.graph row) r ≡ Some x → (k : ℕ) → place_in (row ∷ []) k ≡ Some x
            → r ≡ record { key = x.key; birth = s.graph.births + 1 + k } → (r ≡ n) × (node_at (born_node s.graph row) r ≡ Some row)
        by x there zero at new =
            let key : x.key ≡ n.key = ap (λ (y : Node). y.key) (sym (some_is at)) in
            let same : s.graph.births + 1 + 0 ≡ n.birth = omega arith in
            (new ∙ node_is (record { key = x.key; birth = s.graph.births + 1 + 0 }) n key same, there ∙ sym at)
        by x there (suc k) at new = absurd (none_some at)

    adopt_names : (ks : Bor (List ℕ)) (a : Answer) (told : Told) → n.birth ≡ s.graph.births + 1 → a ≡ answer.Node n
        → is_file_shape (shape_of s.graph f) ≡ true → NamesRows s (command.Adopt f ks) (a, told) (adopted s n.key f keys)
    adopt_names ks a told birth is file = record {
      came = λ r dead live.
          let it = row_is birth r dead live in
          let first : first_parent (with_row s.graph law.graph f row) r ≡ f =
          marked_first_parent (born_node s.graph row) f r ∙ ap (λ o. first_in (parents_in o)) it.1 in (
            (sym first, is ∙ ap (λ q. answer.Node q) (sym it.0), dead-idle s law r dead),
            ap (λ q. is_adopted (shape_of (with_row s.graph law.graph f row) q)) first ∙ mark,
          );
      went = λ r live dead. clash (row_live s.graph law.graph f row r live) dead;
    }
      where
        mark : is_adopted (shape_of (with_row s.graph law.graph f row) f) ≡ true
        mark =
            let stays = old_same s.graph law.graph (row ∷ []) f (plain_live s.graph f (file_plain _ file)) in
            marked_is_adopted (born_node s.graph row) f (ap (λ o. is_file_shape (shape_in o)) stays ∙ file)

  forget_names : (q : NodeId) (a : Answer) (told : Told) → MayForget s q → a ≡ answer.Done
      → NamesRows s (command.Forget q) (a, told) (with_graph s (without_node s.graph q))
  forget_names q a told may is = record {
    came = λ r dead live. clash (was_live s.graph law.graph q may.rec r live) dead;
    went = λ r live dead.
        let same = sym (gone_is s.graph law.graph q may.rec r live dead) in
        (same, is, subst (λ x. is_idle s x ≡ true) same may.idle);
  }

pub names_rows : (s s' : State) (c : Command) (a : Answer) (told : Told) → IsLawful s → is_of_rows c ≡ true → Step s c a told s' → NamesRows s c (a, told) s'
names_rows s s' (command.Adopt f keys) a told law rows step =
    each_step (NamesRows s (command.Adopt f keys) (a, told)) s (command.Adopt f keys) a told s' (none_named s law (command.Adopt f keys) (a, told))
    (λ next h. record { came = h.came; went = h.went })
    (λ free next acc.
    let may = record_unrefused s.graph f keys.now (behind_worn s (record_refusal s.graph f keys.now) free) in
    subst (NamesRows s (command.Adopt f keys) (a, told)) (sym (adopted_is s next acc.1 acc.4))
    (adopt_names s law acc.0 f keys.now keys a told acc.1.birth acc.2 may.file))
    step
names_rows s s' (command.Forget q) a told law rows step =
    each_step (NamesRows s (command.Forget q) (a, told)) s (command.Forget q) a told s' (none_named s law (command.Forget q) (a, told))
    (λ next h. record { came = h.came; went = h.went })
    (λ free next acc. subst (NamesRows s (command.Forget q) (a, told)) (sym acc.2) (forget_names s law q a told (may_forget s q free) acc.0))
    step
names_rows s s' c a told law rows step = absurd (clash rows refl)
