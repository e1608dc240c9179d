-- What others leave a transaction of the intervals of a file's indexes: on that of each key it has the effective mode that it had on that of the key before.
use Rattle.std.specs.Prelude.{None, ◌≡◌, ◌⊎◌, ◌||◌, ℕ, Bool, true, false, List, [], ◌∷◌, is_some, ⊤}
use Rattle.std.specs.List.{list_all, list_any}
use Rattle.std.proofs.Common.{refl, sym, ap, ⊎_elim, inl, inr, subst, ◌∙◌}
use Rattle.gl_modes.proofs.Words.{and_both, both, no, or_elim, or_left, or_right}
use Rattle.gl_modes.specs.declared.node.NodeId.{NodeId}
use Rattle.gl_modes.specs.Nodes.{same_node}
use Rattle.gl_modes.proofs.NodeLemmas.{same_node-refl}
use Rattle.gl_graph.specs.Changes.{without_branch}
use Rattle.gl_graph.specs.Splits.{next_interval}
use Rattle.gl_graph.specs.Graph.{Graph, indexes_of, interval_of, intervals_of, is_live, nodes, record_parents, shape_of}
use Rattle.gl_graph.specs.Lawful.{IsLawfulGraph}
use Rattle.gl_graph.specs.Shapes.{is_index_of_shape}
use Rattle.gl_graph.proofs.KindRules.{file_plain, interval_is, plain_live}
use Rattle.gl_graph.proofs.Look.{all_filter}
use Rattle.gl_graph.proofs.Unrefused.{or_no}
use Rattle.gl_model.specs.declared.answers.Effect.{Effect}
use Rattle.gl_model.specs.declared.answers.Effect.TheVariants as effect
use Rattle.gl_model.specs.declared.txn.TxnId.{TxnId}
use Rattle.gl_model.specs.Calls.{accepted_once}
use Rattle.gl_model.specs.Lawful.{IsLawful, effective, is_at_least_effect}
use Rattle.gl_model.specs.State.{State, lives}
use Rattle.gl_model.specs.Tellings.{Told}
use Rattle.gl_steps.proofs.EachStep.{each_step}
use Rattle.gl_steps.proofs.Keeps.{effect_refl, greater_effect}
use Rattle.gl_steps.proofs.OneStep.{step_keeps as one_step_keeps}
use Rattle.gl_steps.proofs.OthersKeep.{KeepsOver, over_of_step, run_keeps}
use Rattle.gl_steps.proofs.SplitKeeps.{IsRecut, merge_recuts, merges, split_recuts, splits}
use Rattle.gl_steps.proofs.StepsKeepLaw.{steps_keep_law}
use Rattle.gl_steps.specs.declared.command.Answer.{Answer}
use Rattle.gl_steps.specs.declared.command.Command.{Command}
use Rattle.gl_steps.specs.declared.command.Command.TheVariants as command
use Rattle.gl_steps.specs.Promises.{is_grant_to, is_of_rows, names, told_granted}
use Rattle.gl_steps.specs.Step.{Accepts, Run, Step}
use Rattle.gl_steps.specs.Tests.{refusal_of}
use Rattle.gl_rows.specs.Promises.{IsRow, drops_index_of}
use Rattle.gl_rows.proofs.DroppedIndexes.{dropped_list, dropped_parents, other_index, others_stay}
use Rattle.gl_rows.proofs.GraphChanges.{Drops, is_recut}
use Rattle.gl_rows.proofs.KeptIndexes.{KeepsIndexes, KeepsList, index_listed_still, index_still, indexes_of_row, list_itself, list_trans}
use Rattle.gl_rows.proofs.RowEffects.{as_great, as_one, effect_under, row_parents_live}
use Rattle.gl_rows.proofs.RunsKeepIndexes.{KeepsOrDrops, same_keeps, step_keeps}

-- t has on p' the effective mode that it had on p, or a greater one if it was told of a grant
pub record StandsFor (s s' : State) (t : ℕ) (granted : Bool) (p p' : NodeId) : Type 0 where
  pub same : granted ≡ false → effective s' t p' ≡ effective s t p
  pub greater : is_at_least_effect (effective s' t p') (effective s t p) ≡ true

pub stands_trans : (a b c : State) (t : ℕ) (g h : Bool) (p q r : NodeId) → StandsFor a b t g p q → StandsFor b c t h q r → StandsFor a c t (g || h) p r
stands_trans a b c t g h p q r x y = record {
  same = λ quiet. let e = or_no g h quiet in y.same e.1 ∙ x.same e.0;
  greater = as_great (effective c t r) (effective b t q) (effective a t p) y.greater x.greater;
}

pub interval_lives : (g : Graph) → IsLawfulGraph g → (f i : NodeId) (key : ℕ) → is_index_of_shape f (shape_of g i) ≡ true
    → is_live g (interval_of g i key) ≡ true
interval_lives g law f i key h = ap is_some (interval_is g law f i key h)

-- the file keeps its indexes, and on the interval of each key t has the effective mode that it had
pub record KeepsWays (s s' : State) (t : ℕ) (granted : Bool) (f : NodeId) : Type 0 where
  pub indexes : KeepsList s.graph s'.graph f
  pub intervals : (i : NodeId) (key : ℕ) → is_index_of_shape f (shape_of s.graph i) ≡ true
      → StandsFor s s' t granted (interval_of s.graph i key) (interval_of s'.graph i key)

pub ways_as : (s s' : State) (t : ℕ) (f : NodeId) {g h : Bool} → g ≡ h → KeepsWays s s' t g f → KeepsWays s s' t h f
ways_as s s' t f e ways = subst (λ b. KeepsWays s s' t b f) e ways

pub ways_trans : (a b c : State) → IsLawful a → (t : ℕ) (g h : Bool) (f : NodeId) → KeepsWays a b t g f → KeepsWays b c t h f → KeepsWays a c t (g || h) f
ways_trans a b c law t g h f x y = record {
  indexes = list_trans a.graph b.graph c.graph f x.indexes y.indexes;
  intervals = λ i key on.
      stands_trans a b c t g h (interval_of a.graph i key) (interval_of b.graph i key) (interval_of c.graph i key) (x.intervals i key on)
      (y.intervals i key (index_listed_still a.graph b.graph f law.graph x.indexes i on));
}

-- what one step leaves of nodes and intervals
module _ (s s' : State) (law : IsLawful s) (law' : IsLawful s') (t : TxnId) (granted : Bool) (over : KeepsOver s s' t granted) where
  -- a node that lives on stands for itself
  pub stands : (p : NodeId) → is_live s.graph p ≡ true → is_live s'.graph p ≡ true → StandsFor s s' t.slot granted p p
  stands p live live' = record { same = λ quiet. over.same quiet p live live'; greater = over.greater p live live' }

  -- so does an interval that stays that of a key
  pub same_interval : (f i : NodeId) (key : ℕ) → is_index_of_shape f (shape_of s.graph i) ≡ true → is_index_of_shape f (shape_of s'.graph i) ≡ true
      → interval_of s'.graph i key ≡ interval_of s.graph i key → StandsFor s s' t.slot granted (interval_of s.graph i key) (interval_of s'.graph i key)
  same_interval f i key h h' e =
      let p = interval_of s.graph i key in
      let live' = ap (is_live s'.graph) (sym e) ∙ interval_lives s'.graph law'.graph f i key h' in
      subst (StandsFor s s' t.slot granted p) (sym e) (stands p (interval_lives s.graph law.graph f i key h) live')

  pub ways_of : (f : NodeId) → KeepsIndexes s.graph s'.graph f → KeepsWays s s' t.slot granted f
  ways_of f kept = record {
    indexes = kept.indexes;
    intervals = λ i key h. same_interval f i key h (index_still s.graph s'.graph f law.graph kept i h) (kept.intervals i key h);
  }

  -- of an interval that was cut, the new one stands for the old one
  pub recut_interval : (x y : NodeId) → IsRecut s s' x y → (f i : NodeId) (key : ℕ) → is_index_of_shape f (shape_of s.graph i) ≡ true
      → is_index_of_shape f (shape_of s'.graph i) ≡ true → StandsFor s s' t.slot granted (interval_of s.graph i key) (interval_of s'.graph i key)
  recut_interval x y cut f i key h h' =
      ⊎_elim (λ e. same_interval f i key h h' e)
      (λ m.
      let e : effective s' t.slot (interval_of s'.graph i key) ≡ effective s t.slot (interval_of s.graph i key) =
      ap (effective s' t.slot) m.1 ∙ cut.effects t.slot ∙ ap (effective s t.slot) (sym m.0) in
      record {
        same = λ _. e;
        greater = ap (λ z. is_at_least_effect z (effective s t.slot (interval_of s.graph i key))) e
            ∙ effect_refl (effective s t.slot (interval_of s.graph i key));
      })
      (cut.intervals i key)

  pub recut_list : (x y : NodeId) → IsRecut s s' x y → (f : NodeId) → KeepsList s.graph s'.graph f
  recut_list x y cut f = list_itself s.graph s'.graph f (cut.indexes f)

  pub recut_ways : (x y : NodeId) → IsRecut s s' x y → (f : NodeId) → KeepsWays s s' t.slot granted f
  recut_ways x y cut f = record {
    indexes = recut_list x y cut f;
    intervals = λ i key h. recut_interval x y cut f i key h (index_listed_still s.graph s'.graph f law.graph (recut_list x y cut f) i h);
  }

-- a split or a merge cuts intervals anew, or is refused
abbrev pub RecutsOrStays : State → State → Type 0
RecutsOrStays s s' = (s'.graph ≡ s.graph) ⊎ ((x : NodeId) × (y : NodeId) × IsRecut s s' x y)

recut_accepted : (s : State) → IsLawful s → (c : Command) (a : Answer) (told : Told) (next : State) → is_recut c ≡ true → refusal_of s c ≡ None
    → Accepts s c a told next → RecutsOrStays s next
recut_accepted s law (command.Split t i at) a told next of free acc =
    inr (
      i,
      acc.0,
      subst (λ z. IsRecut s z i acc.0) (sym acc.4)
          (split_recuts s law t i acc.0 at next.graph (splits s t i acc.0 at next.graph law free acc.1)),
    )
recut_accepted s law (command.Merge t i) a told next of free acc =
    let j = next_interval s.graph i in
    inr (j, i, subst (λ z. IsRecut s z j i) (sym acc.2) (merge_recuts s law t i (merges s t i law free)))
recut_accepted s law c a told next of free acc = absurd (no of)

pub recut_step : (s s' : State) (c : Command) (a : Answer) (told : Told) → IsLawful s → is_recut c ≡ true → Step s c a told s' → RecutsOrStays s s'
recut_step s s' c a told law of step =
    each_step (RecutsOrStays s) s c a told s' (inl refl)
    (λ next h. ⊎_elim (λ e. inl e) (λ r. inr (r.0, r.1, counted next r.0 r.1 r.2)) h)
    (λ free next acc. recut_accepted s law c a told next of free acc) step
  where
    counted : (next : State) (x y : NodeId) → IsRecut s next x y → IsRecut s (accepted_once next) x y
    counted next x y h = record {
      kinds = h.kinds;
      came = h.came;
      stays = h.stays;
      plain = h.plain;
      indexes = h.indexes;
      intervals = h.intervals;
      effects = h.effects;
    }

-- one more step, after what was kept since a state: also a drop, if the dropped node was no index of the file then
module _ (o s s' : State) (f : NodeId) (law-o : IsLawful o) (law : IsLawful s) (law' : IsLawful s') (t : TxnId) (g h : Bool)
    (kept : KeepsWays o s t.slot g f) (over : KeepsOver s s' t h) (c : Command) (a : Answer) (told : Told) (step : Step s c a told s')
    (stays : drops_index_of o.graph f c ≡ false) where
  abbrev Kept : Type 0
  Kept = KeepsWays o s' t.slot (g || h) f

  then : KeepsWays s s' t.slot h f → Kept
  then ways = ways_trans o s s' law-o t.slot g h f kept ways

  dropped : (n : NodeId) → Drops s.graph c n → s'.graph ≡ without_branch s.graph n → Kept
  dropped n drops is =
      let none = sym (ap (drops_index_of o.graph f) drops.command_is) ∙ stays in
      let list : KeepsList o.graph s'.graph f =
      subst (λ x. KeepsList o.graph x f) (sym is) (dropped_list s.graph law.graph n drops.movable drops.free o.graph f kept.indexes none) in
      record {
        indexes = list;
        intervals = λ i key on.
            let now = index_listed_still o.graph s.graph f law-o.graph kept.indexes i on in
            let other = other_index s.graph law.graph n drops.movable drops.free o.graph f none i on in
            stands_trans o s s' t.slot g h (interval_of o.graph i key) (interval_of s.graph i key) (interval_of s'.graph i key) (kept.intervals i key on)
            (same_interval s s' law law' t h over f i key now (index_listed_still o.graph s'.graph f law-o.graph list i on)
            (ap (λ z. interval_of z i key) is ∙ others_stay s.graph law.graph n drops.movable drops.free f i key now other));
      }

  pub step_ways : Kept
  step_ways = by (step_keeps s s' c a told law step)
    where
      by : KeepsOrDrops s.graph c s'.graph → Kept
      by (inl all) = then (ways_of s s' law law' t h over f (all f))
      by (inr (inl (n, drops, is))) = dropped n drops is
      by (inr (inr of)) =
          ⊎_elim (λ e. then (ways_of s s' law law' t h over f (same_keeps s.graph s'.graph e f)))
          (λ r. then (recut_ways s s' law law' t h over r.0 r.1 r.2 f)) (recut_step s s' c a told law of step)

or_joined : (a b c : Bool) → ((a || b) || c) ≡ (a || (b || c))
or_joined true b c = refl
or_joined false b c = refl

or_none : (a : Bool) → (a || false) ≡ a
or_none true = refl
or_none false = refl

-- step by step, since each state of the run is lawful
pub run_since : (o : State) (f : NodeId) → IsLawful o → (cs : List Command) (rs : List (Answer × Told)) (s s' : State) (t : TxnId) (g : Bool) → IsLawful s
    → KeepsWays o s t.slot g f → Run s cs rs s' → lives s t ≡ true → list_any (names t) cs ≡ false → list_any (drops_index_of o.graph f) cs ≡ false
    → KeepsWays o s' t.slot (g || told_granted t rs) f
run_since o f law-o [] [] s s' t g law kept run alive apart stays =
    subst (λ (x : State). KeepsWays o x t.slot (g || false) f) (sym run) (ways_as o s t.slot f (sym (or_none g)) kept)
run_since o f law-o [] (r ∷ rs) s s' t g law kept run alive apart stays = absurd run
run_since o f law-o (c ∷ cs) [] s s' t g law kept run alive apart stays = absurd run
run_since o f law-o (c ∷ cs) (r ∷ rs) s s' t g law kept run alive apart stays =
    let mid = run.0 in
    let each = or_no (names t c) (list_any (names t) cs) apart in
    let drops = or_no (drops_index_of o.graph f c) (list_any (drops_index_of o.graph f) cs) stays in
    let law' = steps_keep_law s mid c r.0 r.1 law run.1 in
    let first = over_of_step s mid t r.1 (is_of_rows c) (one_step_keeps s law t alive r.0 r.1 mid law' c each.0 run.1) in
    let told = list_any (is_grant_to t) r.1 in
    ways_as o s' t.slot f (or_joined g told (told_granted t rs))
    (run_since o f law-o cs rs mid s' t (g || told) law' (step_ways o s mid f law-o law law' t g told kept first c r.0 r.1 run.1 drops.0) run.2 first.alive
    each.1 drops.1)

-- no step
pub ways_itself : (s : State) → IsLawful s → (t : TxnId) → KeepsOver s s t false → (f : NodeId) → KeepsWays s s t.slot false f
ways_itself s law t over f = ways_of s s law law t false over f (same_keeps s.graph s.graph refl f)

-- a run from its begin
pub run_ways : (cs : List Command) (rs : List (Answer × Told)) (s s' : State) (t : TxnId) (f : NodeId) → IsLawful s → Run s cs rs s' → lives s t ≡ true
    → list_any (names t) cs ≡ false → list_any (drops_index_of s.graph f) cs ≡ false → KeepsWays s s' t.slot (told_granted t rs) f
run_ways cs rs s s' t f law run alive apart stays =
    run_since s f law cs rs s s' t false law (ways_itself s law t (run_keeps [] [] s s t law refl alive refl) f) run alive apart stays

-- Rows: their parents before and after.

-- the lists are of one length, and so it is of each place
abbrev pub AreEach : (NodeId → NodeId → Type 0) → List NodeId → List NodeId → Type 0
AreEach P [] [] = ⊤
AreEach P (p ∷ ps) (q ∷ qs) = P p q × AreEach P ps qs
AreEach P ps qs = ⊥

all_each : (a b : NodeId → Bool) (ps qs : List NodeId) → AreEach (λ p q. a p ≡ true → b q ≡ true) ps qs → list_all a ps ≡ true → list_all b qs ≡ true
all_each a b [] [] each h = refl
all_each a b [] (q ∷ qs) each h = absurd each
all_each a b (p ∷ ps) [] each h = absurd each
all_each a b (p ∷ ps) (q ∷ qs) each h =
    let t = and_both (a p) (list_all a ps) h in both (b q) (list_all b qs) (each.0 t.0) (all_each a b ps qs each.1 t.1)

any_each : (a b : NodeId → Bool) (ps qs : List NodeId) → AreEach (λ p q. a p ≡ true → b q ≡ true) ps qs → list_any a ps ≡ true → list_any b qs ≡ true
any_each a b [] [] each h = h
any_each a b [] (q ∷ qs) each h = absurd each
any_each a b (p ∷ ps) [] each h = absurd each
any_each a b (p ∷ ps) (q ∷ qs) each h =
    or_elim (a p) (list_any a ps) h (λ e. or_left (b q) (list_any b qs) (each.0 e)) (λ e. or_right (b q) (list_any b qs) (any_each a b ps qs each.1 e))

each_by : (P Q : NodeId → NodeId → Type 0) → ((p q : NodeId) → P p q → Q p q) → (ps qs : List NodeId) → AreEach P ps qs → AreEach Q ps qs
each_by P Q f [] [] each = tt
each_by P Q f [] (q ∷ qs) each = absurd each
each_by P Q f (p ∷ ps) [] each = absurd each
each_by P Q f (p ∷ ps) (q ∷ qs) each = (f p q each.0, each_by P Q f ps qs each.1)

each_back : (P Q : NodeId → NodeId → Type 0) → ((p q : NodeId) → P p q → Q q p) → (ps qs : List NodeId) → AreEach P ps qs → AreEach Q qs ps
each_back P Q f [] [] each = tt
each_back P Q f [] (q ∷ qs) each = absurd each
each_back P Q f (p ∷ ps) [] each = absurd each
each_back P Q f (p ∷ ps) (q ∷ qs) each = (f p q each.0, each_back P Q f ps qs each.1)

under_each : (e e' : NodeId → Effect) (ps qs : List NodeId) → AreEach (λ p q. is_at_least_effect (e' q) (e p) ≡ true) ps qs
    → is_at_least_effect (effect_under e' qs) (effect_under e ps) ≡ true
under_each e e' ps qs each =
    greater_effect _ _ _ _ (all_each _ _ ps qs (each_by _ _ (λ p q h. as_great (e' q) (e p) effect.X h) ps qs each))
    (any_each _ _ ps qs (each_by _ _ (λ p q h. as_great (e' q) (e p) effect.S h) ps qs each))

-- a file and its keys that are a row in both have parents on which t has the effective modes that it had
abbrev pub RowsFollow : State → State → ℕ → Bool → NodeId → Type 0
RowsFollow s s' t granted f =
    (keys : List ℕ) → IsRow s.graph f keys → IsRow s'.graph f keys
    → AreEach (StandsFor s s' t granted) (record_parents s.graph f keys) (record_parents s'.graph f keys)

-- so the effective mode on the row stays, or rises
module _ (s s' : State) (t : ℕ) (granted : Bool) (ps qs : List NodeId) (each : AreEach (StandsFor s s' t granted) ps qs) where
  pub each_more : is_at_least_effect (effect_under (effective s' t) qs) (effect_under (effective s t) ps) ≡ true
  each_more = under_each (effective s t) (effective s' t) ps qs (each_by _ _ (λ p q h. h.greater) ps qs each)

  pub each_same : granted ≡ false → effect_under (effective s' t) qs ≡ effect_under (effective s t) ps
  each_same quiet =
      as_one (effect_under (effective s' t) qs) (effect_under (effective s t) ps) each_more
      (under_each (effective s' t) (effective s t) qs ps
      (each_back _ _ (λ p q h. ap (is_at_least_effect (effective s t p)) (h.same quiet) ∙ effect_refl (effective s t p)) ps qs each))

-- parents of a row that keeps its ways, or its parents
module _ (s s' : State) (law : IsLawful s) (law' : IsLawful s') (t : TxnId) (granted : Bool) (over : KeepsOver s s' t granted) (f : NodeId) where
  each_interval : ((i : NodeId) (key : ℕ) → is_index_of_shape f (shape_of s.graph i) ≡ true
      → StandsFor s s' t.slot granted (interval_of s.graph i key) (interval_of s'.graph i key)) → (is : List NodeId) (keys : List ℕ)
      → list_all (λ i. is_index_of_shape f (shape_of s.graph i)) is ≡ true
      → AreEach (StandsFor s s' t.slot granted) (intervals_of s.graph is keys) (intervals_of s'.graph is keys)
  each_interval of [] keys all = tt
  each_interval of (i ∷ is) [] all = tt
  each_interval of (i ∷ is) (key ∷ keys) all = let h = and_both _ _ all in (of i key h.0, each_interval of is keys h.1)

  pub rows_by_ways : KeepsWays s s' t.slot granted f → RowsFollow s s' t.slot granted f
  rows_by_ways ways keys row row' =
      let is = indexes_of s.graph f in
      let same = indexes_of_row s.graph s'.graph f ways.indexes keys row row' in (
        stands s s' law law' t granted over f (plain_live s.graph f (file_plain (shape_of s.graph f) row.file))
            (plain_live s'.graph f (file_plain (shape_of s'.graph f) row'.file)),
        subst (λ js. AreEach (StandsFor s s' t.slot granted) (intervals_of s.graph is keys) (intervals_of s'.graph js keys)) (sym same)
            (each_interval ways.intervals is keys (all_filter (λ i. is_index_of_shape f (shape_of s.graph i)) (nodes s.graph))),
      )

  each_itself : (ps : List NodeId) → ((p : NodeId) → list_any (same_node p) ps ≡ true → StandsFor s s' t.slot granted p p)
      → AreEach (StandsFor s s' t.slot granted) ps ps
  each_itself [] all = tt
  each_itself (p ∷ ps) all = (
    all p (or_left (same_node p p) (list_any (same_node p) ps) (same_node-refl p)),
    each_itself ps (λ q on. all q (or_right (same_node q p) (list_any (same_node q) ps) on)),
  )

  pub rows_by_parents : ((keys : List ℕ) → IsRow s.graph f keys → IsRow s'.graph f keys → record_parents s'.graph f keys ≡ record_parents s.graph f keys)
      → RowsFollow s s' t.slot granted f
  rows_by_parents parents keys row row' =
      let ps = record_parents s.graph f keys in
      let same = parents keys row row' in
      subst (AreEach (StandsFor s s' t.slot granted) ps) (sym same)
      (each_itself ps (λ p on. stands s s' law law' t granted over p (row_parents_live s.graph law.graph f keys row p on)
      (row_parents_live s'.graph law'.graph f keys row' p (ap (list_any (same_node p)) same ∙ on))))

  -- over one step, whatever the command
  pub step_rows : (c : Command) (a : Answer) (told : Told) → Step s c a told s' → RowsFollow s s' t.slot granted f
  step_rows c a told step = by (step_keeps s s' c a told law step)
    where
      by : KeepsOrDrops s.graph c s'.graph → RowsFollow s s' t.slot granted f
      by (inl all) = rows_by_ways (ways_of s s' law law' t granted over f (all f))
      by (inr (inl (n, drops, is))) = rows_by_parents (λ keys.
          subst (λ x. IsRow s.graph f keys → IsRow x f keys → record_parents x f keys ≡ record_parents s.graph f keys) (sym is)
          (dropped_parents s.graph law.graph n drops.movable drops.free f keys))
      by (inr (inr of)) =
          ⊎_elim (λ e. rows_by_ways (ways_of s s' law law' t granted over f (same_keeps s.graph s'.graph e f)))
          (λ r. rows_by_ways (recut_ways s s' law law' t granted over r.0 r.1 r.2 f)) (recut_step s s' c a told law of step)
