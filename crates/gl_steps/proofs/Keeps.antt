-- What a step leaves to a transaction that it does not name, and the two kinds of steps that leave it.
use Rattle.gl_steps.proofs.Words.{◌&&◌, [], ◌||◌, ◌∙◌, ◌∷◌, ◌≡◌, ◌≤◌, ◌⊎◌, and_both, ap, ap₂, arith, at_least-refl, Bool, eff_s, eff_s_route, eff_x, Effect}
use Rattle.gl_steps.proofs.Words.{effective, EffS, false, Follows, fun_ext, GrantedTo, Graph, GraphStep, if◌then◌else◌, inl, inr, is_at_least}
use Rattle.gl_steps.proofs.Words.{is_at_least_effect, is_grant_to, is_live, is_read, is_some, IsLawful, IsRoute, List, list_all, list_any, lives, Mode, NL}
use Rattle.gl_steps.proofs.Words.{no_parents, Node, node_at, node_count, NodeId, None, not, Option, or-true, or_elim, parents_in, parents_of, refl, rules}
use Rattle.gl_steps.proofs.Words.{same_mode, same_node, same_node-equal, SameBelow, SameGrants, Some, split, State, subst, suc, sym, Told, told, true}
use Rattle.gl_steps.proofs.Words.{true≢false, TxnId, X, zero, ℕ}
use Rattle.gl_model.specs.declared.answers.Effect.TheVariants as effect
use Rattle.gl_model.proofs.law.Effects.{all_from}
use Rattle.gl_model.proofs.law.Searches.{below_same, effective_same}
use Rattle.gl_steps.proofs.KeptKinds.{KeepsKinds, kinds_same}
use Rattle.gl_steps.proofs.ToldGrants.{any_weaker, tells, tells_grant}
use Rattle.gl_graph.proofs.Look.{all_at}
use Rattle.gl_graph.proofs.Moved.{any_found, some_at}

abbrev pub ToldGrant : State → State → TxnId → Told → Type 0
ToldGrant s s' t told' = (g : GrantedTo s s' t.slot) × (list_any (tells t g.node g.mode) told' ≡ true)

-- t lives on; its grants stay, or one for which it waited was given, and it was told; ids are not given again;
-- nodes that live on keep their kinds; its effective modes stay, or may rise if it was told; what is below its effective S stays, unless the step is of rows
pub record Keeps (s s' : State) (t : TxnId) (told' : Told) (rows : Bool) : Type 0 where
  pub alive : lives s' t ≡ true
  pub grants : SameGrants s s' t.slot ⊎ ToldGrant s s' t told'
  pub births : s.graph.births ≤ s'.graph.births
  pub old : (n : NodeId) → n.birth ≤ s.graph.births → is_live s'.graph n ≡ true → is_live s.graph n ≡ true
  pub kinds : KeepsKinds s.graph s'.graph
  pub same : list_any (is_grant_to t) told' ≡ false → (n : NodeId) → is_live s.graph n ≡ true → is_live s'.graph n ≡ true
      → effective s' t.slot n ≡ effective s t.slot n
  pub greater : (n : NodeId) → is_live s.graph n ≡ true → is_live s'.graph n ≡ true → is_at_least_effect (effective s' t.slot n) (effective s t.slot n) ≡ true
  pub below : rows ≡ false → (n : NodeId) → EffS s t.slot n → SameBelow s.graph s'.graph n

-- a greater mode reads too
pub read_more : (a b : Mode) → is_at_least b a ≡ true → is_read a ≡ true → is_read b ≡ true
read_more a b h r = search rules

-- only X is above X
pub x_more : (a b : Mode) → is_at_least b a ≡ true → same_mode a X ≡ true → same_mode b X ≡ true
x_more a b h x = search rules

pub read_holds : (m : Mode) → is_read m ≡ true → not (same_mode m NL) ≡ true
read_holds m h = search rules

-- the slot's grants are the same or greater
pub grown : (s s' : State) (t : ℕ) → SameGrants s s' t ⊎ GrantedTo s s' t → (q : NodeId) → is_at_least (s'.held t q) (s.held t q) ≡ true
grown s s' t grants q = by grants
  where
    by : SameGrants s s' t ⊎ GrantedTo s s' t → is_at_least (s'.held t q) (s.held t q) ≡ true
    by (inl same) = ap (λ m. is_at_least m (s.held t q)) (same q) ∙ at_least-refl (s.held t q)
    by (inr g) =
        split (same_node g.node q)
        (λ e. let at : g.node ≡ q = same_node-equal g.node q e in ap₂ is_at_least (ap (s'.held t) (sym at) ∙ g.at) (ap (s.held t) (sym at)) ∙ g.more)
        (λ e. ap (λ m. is_at_least m (s.held t q)) (g.elsewhere q e) ∙ at_least-refl (s.held t q))

-- greater grants over the same graph
module _ (g : Graph) (h h' : NodeId → Mode) (more : (q : NodeId) → is_at_least (h' q) (h q) ≡ true) where
  more_s : (k : ℕ) (n : NodeId) → eff_s k g h n ≡ true → eff_s k g h' n ≡ true
  more_s zero n x = read_more _ _ (more n) x
  more_s (suc k) n x =
      or_elim _ _ x (λ here. ap (λ b. b || list_any (eff_s k g h') (parents_of g n)) (read_more _ _ (more n) here))
      (λ up. let f = any_found (eff_s k g h) (parents_of g n) up in
      ap (λ b. is_read (h' n) || b) (some_at (eff_s k g h') (parents_of g n) f.0 f.1 (more_s k f.0 f.2)) ∙ or-true _)

  more_x : (k : ℕ) (n : NodeId) → eff_x k g h n ≡ true → eff_x k g h' n ≡ true
  more_x zero n x = x_more _ _ (more n) x
  more_x (suc k) n x =
      or_elim _ _ x (λ here. ap (λ b. b || (not (no_parents (parents_of g n)) && list_all (eff_x k g h') (parents_of g n))) (x_more _ _ (more n) here))
      (λ up. let both = and_both _ _ up in
      ap (λ b. same_mode (h' n) X || b)
      (ap₂ (λ a b. a && b) both.0 (all_from (eff_x k g h') (parents_of g n)
      (λ p on. more_x k p (all_at (eff_x k g h) (parents_of g n) p on both.1)))) ∙ or-true _)

abbrev pub effect_of : Bool → Bool → Effect
effect_of x r = if x then effect.X else (if r then effect.S else effect.None)

-- the effective mode over this graph and these grants
abbrev effect_over : Graph → (NodeId → Mode) → NodeId → Effect
effect_over g h n = effect_of (eff_x (node_count g) g h n) (eff_s (node_count g) g h n)

pub greater_effect : (x r x' r' : Bool) → (x ≡ true → x' ≡ true) → (r ≡ true → r' ≡ true) → is_at_least_effect (effect_of x' r') (effect_of x r) ≡ true
greater_effect x r true r' f g = refl
greater_effect true r false r' f g = absurd (true≢false (sym (f refl)))
greater_effect false true false true f g = refl
greater_effect false true false false f g = absurd (true≢false (sym (g refl)))
greater_effect false false false true f g = refl
greater_effect false false false false f g = refl

pub effect_refl : (e : Effect) → is_at_least_effect e e ≡ true
effect_refl effect.None = refl
effect_refl effect.S = refl
effect_refl effect.X = refl

-- nothing has changed below
pub below_itself : (g : Graph) (n : NodeId) → SameBelow g g n
below_itself g n = record { kept = λ r b. (b, refl); no_more = λ r b. b }

-- the graph stays, and the grants follow
pub keeps_follows : (s s' : State) (t : TxnId) (told' : Told) → lives s t ≡ true → Follows s s' t.slot
    → ((g : GrantedTo s s' t.slot) → list_any (tells t g.node g.mode) told' ≡ true) → {rows : Bool} → Keeps s s' t told' rows
keeps_follows s s' t told' alive f told = record {
  alive = f.lives t.age alive;
  grants = told_of f.grants;
  births = let e : s'.graph.births ≡ s.graph.births = ap (λ g. g.births) f.graph in omega arith;
  old = λ n _ live. ap (λ g. is_live g n) (sym f.graph) ∙ live;
  kinds = kinds_same s.graph s'.graph f.graph;
  same = λ quiet n _ _. ap (λ g. effect_over g (s'.held t.slot) n) f.graph ∙ ap (λ h. effect_over s.graph h n) (fun_ext (unmoved f.grants quiet));
  greater = λ n _ _. ap (λ g. is_at_least_effect (effect_over g (s'.held t.slot) n) (effective s t.slot n)) f.graph
      ∙ greater_effect _ _ _ _ (more_x s.graph (s.held t.slot) (s'.held t.slot) (grown s s' t.slot f.grants) (node_count s.graph) n)
      (more_s s.graph (s.held t.slot) (s'.held t.slot) (grown s s' t.slot f.grants) (node_count s.graph) n);
  below = λ _ n _. subst (λ g. SameBelow s.graph g n) (sym f.graph) (below_itself s.graph n);
}
  where
    told_of : SameGrants s s' t.slot ⊎ GrantedTo s s' t.slot → SameGrants s s' t.slot ⊎ ToldGrant s s' t told'
    told_of (inl same) = inl same
    told_of (inr g) = inr (g, told g)

    unmoved : SameGrants s s' t.slot ⊎ GrantedTo s s' t.slot → list_any (is_grant_to t) told' ≡ false → (q : NodeId) → s'.held t.slot q ≡ s.held t.slot q
    unmoved (inl same) quiet = same
    unmoved (inr g) quiet = absurd (true≢false (sym (any_weaker (tells t g.node g.mode) (is_grant_to t) told' (tells_grant t g.node g.mode) (told g)) ∙ quiet))

pub parent_lives : (p : NodeId) (o : Option Node) → list_any (same_node p) (parents_in o) ≡ true → is_some o ≡ true
parent_lives p None h = h
parent_lives p (Some n) h = refl

-- what is read over a route lives
pub read_lives : (s : State) → IsLawful s → (t : ℕ) (n m : NodeId) (path : List NodeId) → IsRoute s.graph n path m → is_read (s.held t m) ≡ true
    → is_live s.graph n ≡ true
read_lives s law t n m [] route read = ap (is_live s.graph) route ∙ (law.grants_live t m (read_holds _ read)).1
read_lives s law t n m (p ∷ path) route read = parent_lives p (node_at s.graph n) route.0

-- the slot's grants stay, and the graph makes a step
pub keeps_graph : (s s' : State) (t : TxnId) (told' : Told) (changed : NodeId → Bool) → IsLawful s → IsLawful s' → lives s' t ≡ true
    → s.graph.births ≤ s'.graph.births
    → ((n : NodeId) → n.birth ≤ s.graph.births → is_live s'.graph n ≡ true → is_live s.graph n ≡ true)
    → KeepsKinds s.graph s'.graph → SameGrants s s' t.slot → GraphStep s.graph s'.graph (s.held t.slot) changed → {rows : Bool} → Keeps s s' t told' rows
keeps_graph s s' t told' changed law law' alive births old kinds same step = record {
  alive = alive;
  grants = inl same;
  births = births;
  old = old;
  kinds = kinds;
  same = λ _ n a b. effective_same s s' t.slot changed law law' step (fun_ext same) n a b;
  greater = λ n a b. ap (λ e. is_at_least_effect e (effective s t.slot n)) (effective_same s s' t.slot changed law law' step (fun_ext same) n a b)
      ∙ effect_refl (effective s t.slot n);
  below = λ _ n r. below_same s.graph s'.graph (s.held t.slot) changed step law.graph.parents_live n
      (eff_s_route s.graph (s.held t.slot) (node_count s.graph) n r);
}
