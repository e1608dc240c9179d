-- What one step leaves below what a transaction reads, if it does not name it.
use Rattle.gl_steps.proofs.Words.{[], ◌∙◌, ◌∷◌, ◌≡◌, ◌⊎◌, ⊎_elim, Adopts, Answer, ap, Bool, ChangesIdleRows, clash, Command, eff_s, eff_s_route, eff_x}
use Rattle.gl_steps.proofs.Words.{effective, EffS, false, first_in, first_parent, Forgets, Graph, inl, inr, is_adopted, is_at_least_effect, is_child, is_live}
use Rattle.gl_steps.proofs.Words.{is_of_rows, is_record_shape, IsBelow, IsLawful, IsLawfulGraph, IsRoute, List, list_any, no, no_parents, node_count, NodeId}
use Rattle.gl_steps.proofs.Words.{not, or_left, parents_of, read_on_eff, refl, same_node, same_node-refl, SameBelow, shape_of, State, Step, sym, Told, true, ℕ}
use Rattle.gl_graph.proofs.Removed.{rec_live}
use Rattle.gl_model.proofs.law.Effects.{eff_x_route}
use Rattle.gl_steps.specs.Promises.{StaysBelow}
use Rattle.gl_steps.proofs.Keeps.{effect_of, read_lives}
use Rattle.gl_steps.proofs.KeptKinds.{KeepsKinds}
use Rattle.gl_steps.proofs.NotRefused.{record_has_parents}
use Rattle.gl_steps.proofs.RowKeeps.{rows_come_and_go}
use Rattle.gl_steps.proofs.RowNames.{names_rows}

-- All that a record is below lives, and so does the record with its file.

module _ (g : Graph) (law : IsLawfulGraph g) where
  end_stands : (n r : NodeId) (path : List NodeId) → is_live g r ≡ true → IsRoute g r path n → is_live g n ≡ true
  end_stands n r [] live route = ap (is_live g) (sym route) ∙ live
  end_stands n r (p ∷ path) live route = end_stands n p path (law.parents_live r p route.0) route.1

  pub below_stands : (n r : NodeId) → IsBelow g n r → is_live g r ≡ true
  below_stands n r on = rec_live g law r on.is_record

  pub above_stands : (n r : NodeId) → IsBelow g n r → is_live g n ≡ true
  above_stands n r on = end_stands n r on.route.0 (below_stands n r on) on.route.1

  first_among : (ps : List NodeId) → not (no_parents ps) ≡ true → list_any (same_node (first_in ps)) ps ≡ true
  first_among [] some = absurd (no some)
  first_among (p ∷ ps) some = or_left _ _ (same_node-refl p)

  pub file_stands : (r : NodeId) → is_record_shape (shape_of g r) ≡ true → is_live g (first_parent g r) ≡ true
  file_stands r rec = law.parents_live r (first_parent g r) (first_among (parents_of g r) (record_has_parents g law r rec))

-- A transaction still reads what it read, if that lives on.

effect_reads : (x r x' r' : Bool) → r ≡ true → is_at_least_effect (effect_of x' r') (effect_of x r) ≡ true → (x' ≡ true) ⊎ (r' ≡ true)
effect_reads x r true r' on more = inl refl
effect_reads x r false true on more = inr refl
effect_reads true r false false on more = absurd (no more)
effect_reads false true false false on more = absurd (no more)
effect_reads false false false false on more = absurd (no on)

pub reads_on : (s s' : State) → IsLawful s' → (t : ℕ) (n : NodeId) → is_at_least_effect (effective s' t n) (effective s t n) ≡ true
    → is_live s'.graph n ≡ true → EffS s t n → EffS s' t n
reads_on s s' law' t n more live reads =
    ⊎_elim (λ x. read_on_eff s'.graph law'.graph (s'.held t) n live (eff_x_route s'.graph (s'.held t) (node_count s'.graph) n x)) (λ r. r)
    (effect_reads (eff_x (node_count s.graph) s.graph (s.held t) n) (eff_s (node_count s.graph) s.graph (s.held t) n)
    (eff_x (node_count s'.graph) s'.graph (s'.held t) n) (eff_s (node_count s'.graph) s'.graph (s'.held t) n) reads more)

pub read_stands : (s : State) → IsLawful s → (t : ℕ) (n : NodeId) → EffS s t n → is_live s.graph n ≡ true
read_stands s law t n reads =
    let on = eff_s_route s.graph (s.held t) (node_count s.graph) n reads in
    read_lives s law t n on.0 on.1 on.2 on.3

-- One step: what lives on is below n as it was, what is added was adopted by it, and what is removed was forgotten by it.

pub record StepBelow (s : State) (c : Command) (x : Answer × Told) (s' : State) (n : NodeId) : Type 0 where
  pub stays : (r : NodeId) → is_live s.graph r ≡ true → is_live s'.graph r ≡ true → StaysBelow s.graph s'.graph n r
  pub came : (r : NodeId) → is_live s.graph r ≡ false → IsBelow s'.graph n r
      → Adopts (first_parent s'.graph r) r s c x s' × (is_adopted (shape_of s'.graph (first_parent s'.graph r)) ≡ true)
  pub went : (r : NodeId) → IsBelow s.graph n r → is_live s'.graph r ≡ false → Forgets r s c x s'

-- if what lives on keeps its parents, a route up from it is one before and after
module _ (g g' : Graph) (law : IsLawfulGraph g) (law' : IsLawfulGraph g')
    (parents : (n : NodeId) → is_live g n ≡ true → is_live g' n ≡ true → parents_of g' n ≡ parents_of g n) where
  path_kept : (n r : NodeId) (path : List NodeId) → is_live g r ≡ true → is_live g' r ≡ true → IsRoute g r path n → IsRoute g' r path n
  path_kept n r [] live live' route = route
  path_kept n r (p ∷ path) live live' route =
      let up : is_child g' p r ≡ true = ap (list_any (same_node p)) (parents r live live') ∙ route.0 in
      (up, path_kept n p path (law.parents_live r p route.0) (law'.parents_live r p up) route.1)

  path_back : (n r : NodeId) (path : List NodeId) → is_live g r ≡ true → is_live g' r ≡ true → IsRoute g' r path n → IsRoute g r path n
  path_back n r [] live live' route = route
  path_back n r (p ∷ path) live live' route =
      let up : is_child g p r ≡ true = ap (list_any (same_node p)) (sym (parents r live live')) ∙ route.0 in
      (up, path_back n p path (law.parents_live r p up) (law'.parents_live r p route.0) route.1)

module _ (s s' : State) (law : IsLawful s) (law' : IsLawful s') (c : Command) (x : Answer × Told) (n : NodeId) where
  -- of an adopt or a forget
  pub rows_below : is_of_rows c ≡ true → KeepsKinds s.graph s'.graph → Step s c x.0 x.1 s' → StepBelow s c x s' n
  rows_below rows kinds step =
      let idle : ChangesIdleRows s s' = rows_come_and_go s s' c x.0 x.1 law rows step in
      let named = names_rows s s' c x.0 x.1 law rows step in
      let parents : (q : NodeId) → is_live s.graph q ≡ true → is_live s'.graph q ≡ true → parents_of s'.graph q ≡ parents_of s.graph q =
      λ q live live'. (idle.stays q live live').parents in
      record {
        stays = λ r live live'. record {
          kept = λ on. (
            record {
              is_record = (kinds r live live').record_same ∙ on.is_record;
              route = (on.route.0, path_kept s.graph s'.graph law.graph law'.graph parents n r on.route.0 live live' on.route.1);
            },
            (idle.stays r live live').keys,
          );
          no_more = λ on. record {
            is_record = sym (kinds r live live').record_same ∙ on.is_record;
            route = (on.route.0, path_back s.graph s'.graph law.graph law'.graph parents n r on.route.0 live live' on.route.1);
          };
        };
        came = λ r dead on. named.came r dead (below_stands s'.graph law'.graph n r on);
        went = λ r on dead. named.went r (below_stands s.graph law.graph n r on) dead;
      }

  -- of any other command, below what t reads
  pub plain_below : SameBelow s.graph s'.graph n → StepBelow s c x s' n
  plain_below same = record {
    stays = λ r _ _. record { kept = same.kept r; no_more = same.no_more r };
    came = λ r dead on. clash (below_stands s.graph law.graph n r (same.no_more r on)) dead;
    went = λ r on dead. clash (below_stands s'.graph law'.graph n r (same.kept r on).0) dead;
  }
