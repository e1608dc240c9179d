-- Effective modes on a row, by those on its parents; no row can be written by one transaction and read by another.
use Rattle.std.specs.Prelude.{◌≡◌, ℕ, Bool, true, false, List}
use Rattle.std.specs.List.{list_all, list_any}
use Rattle.std.proofs.Common.{refl, ap, ◌∙◌, rules}
use Rattle.gl_modes.proofs.Words.{no}
use Rattle.gl_modes.specs.declared.node.NodeId.{NodeId}
use Rattle.gl_modes.specs.Nodes.{same_node}
use Rattle.gl_graph.specs.Graph.{Graph, is_live, node_count, record_parents}
use Rattle.gl_graph.specs.Lawful.{IsLawfulGraph}
use Rattle.gl_graph.proofs.KindRules.{plain_live, record_parent_plain}
use Rattle.gl_graph.proofs.Look.{all_at}
use Rattle.gl_graph.proofs.Moved.{any_found, some_at}
use Rattle.gl_model.specs.declared.answers.Effect.{Effect}
use Rattle.gl_model.specs.declared.answers.Effect.TheVariants as effect
use Rattle.gl_model.specs.Lawful.{EffS, EffX, eff_s, eff_x, effective, is_at_least_effect}
use Rattle.gl_model.specs.State.{State}
use Rattle.gl_model.proofs.law.Effects.{ReadOn, all_from, any_all, eff_s_route, eff_x_route}
use Rattle.gl_steps.proofs.GraphChanges.{quiet_under}
use Rattle.gl_steps.proofs.Keeps.{effect_refl, greater_effect}
use Rattle.gl_rows.specs.Promises.{IsRow, NoRowConflict, effect_of}

-- the order of effective modes
pub as_great : (a b e : Effect) → is_at_least_effect a b ≡ true → is_at_least_effect b e ≡ true → is_at_least_effect a e ≡ true
as_great a b e h k = search rules

pub as_one : (a b : Effect) → is_at_least_effect a b ≡ true → is_at_least_effect b a ≡ true → a ≡ b
as_one a b h k = search rules

-- effective X, and effective S or X
abbrev pub writes_at : State → ℕ → NodeId → Bool
writes_at s t n = is_at_least_effect (effective s t n) effect.X

abbrev pub reads_at : State → ℕ → NodeId → Bool
reads_at s t n = is_at_least_effect (effective s t n) effect.S

pub x_there : (s : State) (t : ℕ) (n : NodeId) → writes_at s t n ≡ true → EffX s t n
x_there s t n h = by (eff_x (node_count s.graph) s.graph (s.held t) n) (eff_s (node_count s.graph) s.graph (s.held t) n) h
  where
    by : (x r : Bool) → is_at_least_effect (effect_of x r) effect.X ≡ true → x ≡ true
    by x r k = search rules

pub there_x : (s : State) (t : ℕ) (n : NodeId) → EffX s t n → writes_at s t n ≡ true
there_x s t n x = ap (λ b. is_at_least_effect (effect_of b (eff_s (node_count s.graph) s.graph (s.held t) n)) effect.X) x

pub there_s : (s : State) (t : ℕ) (n : NodeId) → EffS s t n → reads_at s t n ≡ true
there_s s t n r = by (eff_x (node_count s.graph) s.graph (s.held t) n) (eff_s (node_count s.graph) s.graph (s.held t) n) r
  where
    by : (x b : Bool) → b ≡ true → is_at_least_effect (effect_of x b) effect.S ≡ true
    by x b k = search rules

-- of each of these nodes
abbrev pub OfEach : List NodeId → (NodeId → Type 0) → Type 0
OfEach ps P = (p : NodeId) → list_any (same_node p) ps ≡ true → P p

pub all_more : (a b : NodeId → Bool) (ps : List NodeId) → OfEach ps (λ p. a p ≡ true → b p ≡ true) → list_all a ps ≡ true → list_all b ps ≡ true
all_more a b ps each h = all_from b ps (λ p on. each p on (all_at a ps p on h))

any_more : (a b : NodeId → Bool) (ps : List NodeId) → OfEach ps (λ p. a p ≡ true → b p ≡ true) → list_any a ps ≡ true → list_any b ps ≡ true
any_more a b ps each h = let f = any_found a ps h in some_at b ps f.0 f.1 (each f.0 f.1 f.2)

-- the effective mode on a row with these parents, by the effective mode on each
abbrev pub effect_under : (NodeId → Effect) → List NodeId → Effect
effect_under e ps = effect_of (list_all (λ p. is_at_least_effect (e p) effect.X) ps) (list_any (λ p. is_at_least_effect (e p) effect.S) ps)

pub under_more : (e' e : NodeId → Effect) (ps : List NodeId) → OfEach ps (λ p. is_at_least_effect (e' p) (e p) ≡ true)
    → is_at_least_effect (effect_under e' ps) (effect_under e ps) ≡ true
under_more e' e ps each =
    greater_effect _ _ _ _ (all_more _ _ ps (λ p on. as_great (e' p) (e p) effect.X (each p on)))
    (any_more _ _ ps (λ p on. as_great (e' p) (e p) effect.S (each p on)))

pub under_same : (e' e : NodeId → Effect) (ps : List NodeId) → OfEach ps (λ p. e' p ≡ e p) → effect_under e' ps ≡ effect_under e ps
under_same e' e ps each =
    as_one _ _ (under_more e' e ps (λ p on. ap (λ x. is_at_least_effect x (e p)) (each p on) ∙ effect_refl (e p)))
    (under_more e e' ps (λ p on. ap (is_at_least_effect (e p)) (each p on) ∙ effect_refl (e p)))

-- nodes that are the same in two states, and live in both
module _ (s s' : State) (ps' ps : List NodeId) (same : ps' ≡ ps) (before : OfEach ps (λ p. is_live s.graph p ≡ true))
    (behind : OfEach ps' (λ p. is_live s'.graph p ≡ true)) (t : ℕ) where
  abbrev OnBoth : (NodeId → Type 0) → Type 0
  OnBoth P = (p : NodeId) → is_live s.graph p ≡ true → is_live s'.graph p ≡ true → P p

  each_both : (P : NodeId → Type 0) → OnBoth P → OfEach ps P
  each_both P each p on = each p (before p on) (behind p (ap (list_any (same_node p)) same ∙ on))

  -- the effective mode under them stays if that on each does, and rises if that on each does
  pub stays_under : OnBoth (λ p. effective s' t p ≡ effective s t p) → effect_under (effective s' t) ps' ≡ effect_under (effective s t) ps
  stays_under each = ap (effect_under (effective s' t)) same
      ∙ under_same (effective s' t) (effective s t) ps (each_both (λ p. effective s' t p ≡ effective s t p) each)

  pub rises_under : OnBoth (λ p. is_at_least_effect (effective s' t p) (effective s t p) ≡ true)
      → is_at_least_effect (effect_under (effective s' t) ps') (effect_under (effective s t) ps) ≡ true
  rises_under each =
      ap (λ qs. is_at_least_effect (effect_under (effective s' t) qs) (effect_under (effective s t) ps)) same
      ∙ under_more (effective s' t) (effective s t) ps (each_both (λ p. is_at_least_effect (effective s' t p) (effective s t p) ≡ true) each)

-- the parents of a row live
pub row_parents_live : (g : Graph) → IsLawfulGraph g → (f : NodeId) (keys : List ℕ) → IsRow g f keys
    → OfEach (record_parents g f keys) (λ p. is_live g p ≡ true)
row_parents_live g law f keys row p on = plain_live g p (record_parent_plain g law f p keys row.file on)

-- a read is by some lock
pub read_by : (s : State) (t : ℕ) (n : NodeId) → reads_at s t n ≡ true → ReadOn s.graph (s.held t) n
read_by s t n h = by (eff_x (node_count s.graph) s.graph (s.held t) n) (eff_s (node_count s.graph) s.graph (s.held t) n) refl refl h
  where
    by : (x r : Bool) → eff_x (node_count s.graph) s.graph (s.held t) n ≡ x → eff_s (node_count s.graph) s.graph (s.held t) n ≡ r
        → is_at_least_effect (effect_of x r) effect.S ≡ true → ReadOn s.graph (s.held t) n
    by true r e f k = eff_x_route s.graph (s.held t) (node_count s.graph) n e
    by false true e f k = eff_s_route s.graph (s.held t) (node_count s.graph) n f
    by false false e f k = absurd (no k)

-- they would conflict on one of the row's parents
pub no_row_conflict : NoRowConflict
no_row_conflict s t u f keys law ne writes reads =
    let meet = any_all (reads_at s u) (writes_at s t) (record_parents s.graph f keys) reads writes in
    quiet_under s law t u ne meet.0 (x_there s t meet.0 meet.2) (read_by s u meet.0 meet.1)
