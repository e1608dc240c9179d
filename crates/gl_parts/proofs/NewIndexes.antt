-- A new index: which paths pass more by it, and for which rows a call lacks a key.
use Rattle.std.specs.Prelude.{◌≡◌, ◌≢◌, ◌↔◌, ◌⊎◌, Bool, true, false, not, ◌&&◌, List, [], ◌∷◌, ◌++◌, if◌then◌else◌, take}
use Rattle.std.specs.List.{list_any}
use Rattle.std.proofs.Common.{refl, sym, ap, ap₂, inl, inr, subst, ⊎_elim, ◌∙◌}
use Rattle.std.proofs.lemmas.List.{append-nil}
use Rattle.std.proofs.lemmas.List.Folds.{list_any-append}
use Rattle.gl_modes.specs.declared.node.NodeId.{NodeId}
use Rattle.gl_modes.specs.Nodes.{same_node}
use Rattle.gl_modes.proofs.NodeLemmas.{same_node-refl}
use Rattle.gl_modes.proofs.Words.{and_both, both, clash, not_true, or_left, or_right, split}
use Rattle.gl_graph.specs.Graph.{Graph, indexes_of, is_child, is_live, is_record_of, parents_of, shape_of}
use Rattle.gl_graph.specs.Lawful.{IsLawfulGraph}
use Rattle.gl_graph.specs.Shapes.{is_file_shape, is_record_shape}
use Rattle.gl_graph.proofs.KindRules.{file_plain, index_plain, is_plain, parent_plain, plain_live, rec_not_plain}
use Rattle.gl_graph.proofs.Look.{child_live}
use Rattle.gl_model.specs.State.{is_write}
use Rattle.gl_parts.specs.declared.passing.AfterIndex.TheVariants.{BeginsAnew, LacksKey, WaitsOn}
use Rattle.gl_parts.specs.declared.passing.Target.{Target}
use Rattle.gl_parts.specs.Passing.{Passes, after_index, asked_above, can_have, is_mode_of, is_row_of, starts, writes_record_of}
use Rattle.gl_parts.specs.Promises.{IndexesNeedKeys, IndexesPassMore, OthersPassTheSame, PassesMore}
use Rattle.gl_parts.proofs.BesideRecords.{AddsIndex, over_adds, over_adds_to}
use Rattle.gl_parts.proofs.OldWays.{next_child, start_is, start_live, way_is, way_live, way_more, way_was}
use Rattle.gl_parts.proofs.Paths.{begins, begins_at, row_has}

pub indexes_need_keys : IndexesNeedKeys
indexes_need_keys g g' i ps f bs rs ks x law over =
    split x.is_row
    (λ e. ap (λ b. if b then indexes_of g' x.node else []) e ∙ over_adds_to g g' law i ps f bs rs ks over x.node
    ∙ ap (λ b. (if b then indexes_of g x.node else []) ++ (if b && same_node x.node f then i ∷ [] else [])) (sym e))
    (λ e. ap (λ b. if b then indexes_of g' x.node else []) e
    ∙ ap (λ b. (if b then indexes_of g x.node else []) ++ (if b && same_node x.node f then i ∷ [] else [])) (sym e))

-- which waits end, and which go on
ends_with : (row rec : Bool) → (if row then LacksKey else (if rec then BeginsAnew else WaitsOn)) ≢ WaitsOn → (row ≡ true) ⊎ (rec ≡ true)
ends_with true rec h = inl refl
ends_with false true h = inr refl
ends_with false false h = absurd (h refl)

goes_on : (row rec : Bool) → (if row then LacksKey else (if rec then BeginsAnew else WaitsOn)) ≡ WaitsOn → (row ≡ false) × (rec ≡ false)
goes_on true rec h = cc
goes_on false true h = cc
goes_on false false h = (refl, refl)

list_if : (b : Bool) (xs ys : List NodeId) → (b ≡ true → xs ≡ ys) → (if b then xs else []) ≡ (if b then ys else [])
list_if true xs ys h = h refl
list_if false xs ys h = refl

module _ (g g' : Graph) (i : NodeId) (ps : List NodeId) (f : NodeId) (law : IsLawfulGraph g) (adds : AddsIndex g g' i ps f) (x : Target) where
  abbrev writes : Bool
  writes = is_write x.mode

  can_still : is_live g x.node ≡ true → can_have g' x ≡ can_have g x
  can_still live = ap₂ (λ a b. if x.is_row then a && is_mode_of true x.mode else is_mode_of b x.mode) (adds.files x.node live) (adds.records x.node live)

  -- Paths that pass the same.

  -- a node above which a path asks for what it asked for
  abbrev Stays : NodeId → Type 0
  Stays q = (is_live g q ≡ true) × ((writes && is_record_of g f q) ≡ false)

  same_asked : (q : NodeId) → Stays q → asked_above writes g' q ≡ asked_above writes g q
  same_asked q stays =
      split writes
      (λ w. ap (λ qs. if writes then qs else take 1 qs)
      (adds.others q stays.0 (not_true (is_record_of g f q) (λ rec. clash (both writes _ w rec) stays.1))))
      (λ w. ap (λ b. if b then parents_of g' q else take 1 (parents_of g' q)) w ∙ adds.firsts q stays.0
      ∙ ap (λ b. if b then parents_of g q else take 1 (parents_of g q)) (sym w))

  plain_stays : (q : NodeId) → is_plain (shape_of g q) ≡ true → Stays q
  plain_stays q plain = (
    plain_live g q plain,
    not_true (writes && is_record_of g f q) (λ t.
        rec_not_plain (shape_of g q) (and_both (is_record_shape (shape_of g q)) (is_child g f q) (and_both writes (is_record_of g f q) t).1).0 plain),
  )

  next_stays : (q p : NodeId) → Stays q → list_any (same_node p) (asked_above writes g q) ≡ true → Stays p
  next_stays q p stays asked = plain_stays p (parent_plain g law q p (next_child g writes q p asked))

  module _ (live : is_live g x.node ≡ true) (goes : (after_index g' x f ≡ WaitsOn) ⊎ (writes ≡ false)) where
    no_row : (is_row_of f x && writes) ≡ false
    no_row = not_true (is_row_of f x && writes) (λ t.
        let it = and_both (is_row_of f x) writes t in
        ⊎_elim (λ (on : after_index g' x f ≡ WaitsOn). clash it.0 (goes_on (is_row_of f x) (writes_record_of g' f x) on).0) (λ read. clash it.1 read) goes)

    no_record : x.is_row ≡ false → (writes && is_record_of g f x.node) ≡ false
    no_record single = not_true (writes && is_record_of g f x.node) (λ t.
        let it = and_both writes (is_record_of g f x.node) t in
        ⊎_elim (λ (on : after_index g' x f ≡ WaitsOn).
        clash (both (writes && not x.is_row) _ (both writes (not x.is_row) it.0 (ap not single)) (adds.of_file x.node ∙ it.1))
        (goes_on (is_row_of f x) (writes_record_of g' f x) on).1) (λ read. clash it.0 read) goes)

    node_stays : can_have g x ≡ true → Stays x.node
    node_stays have =
        split x.is_row
        (λ row. plain_stays x.node (file_plain (shape_of g x.node)
        (and_both (is_file_shape (shape_of g x.node)) (is_mode_of true x.mode) (sym (row_has g x row) ∙ have)).0))
        (λ single. (live, no_record single))

    start_stays : (start : NodeId) → list_any (same_node start) (starts g x) ≡ true → Stays start
    start_stays start one =
        let it = start_is g x start one in
        ⊎_elim (λ (e : start ≡ x.node). subst Stays (sym e) (node_stays it.0)) (λ h. plain_stays start (index_plain (shape_of g start) h)) it.1

    same_indexes : (x.is_row && writes) ≡ true → indexes_of g' x.node ≡ indexes_of g x.node
    same_indexes t =
        let it = and_both x.is_row writes t in
        let other = not_true (same_node x.node f) (λ e. clash (both (is_row_of f x) writes (both x.is_row _ it.0 e) it.1) no_row) in
        adds.indexes x.node ∙ ap (λ b. indexes_of g x.node ++ (if b then i ∷ [] else [])) other ∙ append-nil (indexes_of g x.node)

    same_starts : starts g' x ≡ starts g x
    same_starts =
        ap (λ b. if b then x.node ∷ (if x.is_row && writes then indexes_of g' x.node else []) else []) (can_still live)
        ∙ ap (λ is. if can_have g x then x.node ∷ is else [])
        (list_if (x.is_row && writes) (indexes_of g' x.node) (indexes_of g x.node) same_indexes)

    pub pass_the_same : (n : NodeId) → Passes g' x n ↔ Passes g x n
    pass_the_same n = (was, is)
      where
        was : Passes g' x n → Passes g x n
        was pass =
            let one = ap (list_any (same_node pass.start)) (sym same_starts) ∙ pass.is_one in
            record {
              start = pass.start;
              is_one = one;
              leads = (
                pass.leads.0,
                way_was g g' writes Stays same_asked next_stays pass.start n pass.leads.0 (start_stays pass.start one) pass.leads.1,
              );
            }

        is : Passes g x n → Passes g' x n
        is pass = record {
          start = pass.start;
          is_one = ap (list_any (same_node pass.start)) same_starts ∙ pass.is_one;
          leads = (
            pass.leads.0,
            way_is g g' writes Stays same_asked next_stays pass.start n pass.leads.0 (start_stays pass.start pass.is_one) pass.leads.1,
          );
        }

  -- Paths that pass more.

  module _ (w : writes ≡ true) (have : can_have g x ≡ true) where
    all_asked : (h : Graph) (q : NodeId) → asked_above writes h q ≡ parents_of h q
    all_asked h q = ap (λ b. if b then parents_of h q else take 1 (parents_of h q)) w

    by_index : is_live g x.node ≡ true → Passes g' x i → PassesMore g g' x i ps
    by_index live pass = record {
      index = pass;
      is_new = λ old. clash (way_live g law writes old.start i old.leads.0 (start_live g x live old.start old.is_one) old.leads.1) adds.is_new;
      above = λ p one. record {
        start = pass.start;
        is_one = pass.is_one;
        leads = (
          pass.leads.0 ++ p ∷ [],
          way_more writes g' pass.start i p pass.leads.0 pass.leads.1 (ap (list_any (same_node p)) (all_asked g' i ∙ adds.parents) ∙ one),
        );
      };
    }

    -- a path to a row begins at the index too
    row_more : is_row_of f x ≡ true → PassesMore g g' x i ps
    row_more of_file = by_index live (record { start = i; is_one = at_index; leads = ([], refl) })
      where
        row : (x.is_row ≡ true) × (same_node x.node f ≡ true)
        row = and_both x.is_row (same_node x.node f) of_file

        live : is_live g x.node ≡ true
        live = plain_live g x.node (file_plain (shape_of g x.node)
            (and_both (is_file_shape (shape_of g x.node)) (is_mode_of true x.mode) (sym (row_has g x row.0) ∙ have)).0)

        starts_are : starts g' x ≡ x.node ∷ (indexes_of g x.node ++ i ∷ [])
        starts_are =
            begins g' x (can_still live ∙ have)
            ∙ ap (λ b. x.node ∷ (if b then indexes_of g' x.node else [])) (both x.is_row writes row.0 w)
            ∙ ap (λ is. x.node ∷ is) (adds.indexes x.node ∙ ap (λ b. indexes_of g x.node ++ (if b then i ∷ [] else [])) row.1)

        at_index : list_any (same_node i) (starts g' x) ≡ true
        at_index =
            ap (list_any (same_node i)) starts_are
            ∙ or_right (same_node i x.node) _ (list_any-append (same_node i) (indexes_of g x.node) (i ∷ [])
            ∙ or_right (list_any (same_node i) (indexes_of g x.node)) _ (or_left (same_node i i) false (same_node-refl i)))

    -- one to a record climbs to it by an interval
    record_more : is_record_of g f x.node ≡ true → PassesMore g g' x i ps
    record_more rec =
        by_index live (record {
          start = x.node;
          is_one = begins_at g' x (can_still live ∙ have);
          leads = (
            up.0 ∷ i ∷ [],
            (
              ap (list_any (same_node up.0)) (all_asked g' x.node ∙ up.1) ∙ list_any-append (same_node up.0) (parents_of g x.node) (up.0 ∷ [])
                  ∙ or_right (list_any (same_node up.0) (parents_of g x.node)) _ (or_left (same_node up.0 up.0) false (same_node-refl up.0)),
              (ap (list_any (same_node i)) (all_asked g' up.0 ∙ up.2) ∙ or_left (same_node i i) false (same_node-refl i), refl),
            ),
          );
        })
      where
        live : is_live g x.node ≡ true
        live = child_live g x.node f (and_both (is_record_shape (shape_of g x.node)) (is_child g f x.node) rec).1

        up : (j : NodeId) × (parents_of g' x.node ≡ parents_of g x.node ++ j ∷ []) × (parents_of g' j ≡ i ∷ [])
        up = adds.above x.node rec

    pub more : after_index g' x f ≢ WaitsOn → PassesMore g g' x i ps
    more ended =
        ⊎_elim row_more (λ (t : writes_record_of g' f x ≡ true). record_more (sym (adds.of_file x.node) ∙ (and_both (writes && not x.is_row) _ t).1))
        (ends_with (is_row_of f x) (writes_record_of g' f x) ended)

pub others_pass_the_same : OthersPassTheSame
others_pass_the_same g g' i ps f bs rs ks x law over all live goes =
    pass_the_same g g' i ps f law (over_adds g g' law i ps f bs rs ks over all) x live goes

pub indexes_pass_more : IndexesPassMore
indexes_pass_more g g' i ps f bs rs ks x law over all w have ended =
    more g g' i ps f law (over_adds g g' law i ps f bs rs ks over all) x w have ended
