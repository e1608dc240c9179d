-- New nodes, a node removed, and a node with other parents: what they leave to a holder t.
use Rattle.gl_steps.proofs.Words.{◌&&◌, ◌+◌, ◌<◌, ◌==◌, [], ◌||◌, ◌∙◌, ◌∷◌, ◌≡◌, ◌≢◌, ◌≤◌, and_both, ap, ap₂, arith, Bool, born_node, born_nodes, eff_x, EffX}
use Rattle.gl_steps.proofs.Words.{false, Graph, GraphStep, if◌then◌else◌, is_live, is_record_shape, is_some, IsLawful, IsLawfulGraph, List, list_all, Mode}
use Rattle.gl_steps.proofs.Words.{nat_lt, nat_tests, NL, no, no_parents, Node, node_at, node_count, NodeId, None, not, not-true, Option, or-true, parents_in}
use Rattle.gl_steps.proofs.Words.{parents_of, read_on_eff, ReadOn, Rec, refl, rekeyed_node, reparented, rules, same_mode, same_node, same_node-equal, shape_in}
use Rattle.gl_steps.proofs.Words.{shape_of, Some, split, State, subst, suc, sym, true, true≢false, with_key, X, zero, ℕ}
use Rattle.gl_modes.specs.Modes.{are_compatible}
use Rattle.gl_model.proofs.law.Effects.{eff_x_any, no_conflict_law}
use Rattle.gl_graph.proofs.Born.{old_below}
use Rattle.gl_steps.proofs.Keeps.{read_lives}
use Rattle.gl_steps.proofs.KeptKinds.{KeepsKind, KeepsKinds, kind_same}

-- under an effective X of u, t has no effective S
pub quiet_under : (s : State) → IsLawful s → (u t : ℕ) → u ≢ t → (n : NodeId) → EffX s u n → ReadOn s.graph (s.held t) n → ⊥
quiet_under s law u t ne n x r =
    no_conflict_law s law u t n (record {
      differ = ne;
      writes = x;
      reads =
          read_on_eff s.graph law.graph (s.held t) n (read_lives s law t n r.0 r.1 r.2 r.3) r;
    })

pub held_x : (k : ℕ) (g : Graph) (h : NodeId → Mode) (n : NodeId) → same_mode (h n) X ≡ true → eff_x k g h n ≡ true
held_x zero g h n x = x
held_x (suc k) g h n x = ap (λ b. b || (not (no_parents (parents_of g n)) && list_all (eff_x k g h) (parents_of g n))) x

pub x_here : (s : State) (u : ℕ) (n : NodeId) → same_mode (s.held u n) X ≡ true → EffX s u n
x_here s u n x = held_x (node_count s.graph) s.graph (s.held u) n x

pub x_on_parents : (s : State) → IsLawful s → (u : ℕ) (n : NodeId) → is_live s.graph n ≡ true → not (no_parents (parents_of s.graph n)) ≡ true
    → list_all (λ p. same_mode (s.held u p) X) (parents_of s.graph n) ≡ true → EffX s u n
x_on_parents s law u n live some all =
    eff_x_any s law u 1 n live (ap (λ b. same_mode (s.held u n) X || b) (ap₂ (λ a b. a && b) some all) ∙ or-true _)

-- what t may hold if another holds X
pub beside_x : (m w : Mode) → same_mode m X ≡ true → are_compatible m w ≡ true → w ≡ NL
beside_x m w x c = search rules

-- new nodes
abbrev pub is_new : Graph → NodeId → Bool
is_new g c = nat_lt g.births c.birth

pub not_born : (g : Graph) → IsLawfulGraph g → (c : NodeId) → g.births < c.birth → is_live g c ≡ true → ⊥
not_born g law c new live = let within = law.born c.birth (found_is c.key (g.at c.birth) live) in absurd (omega arith)
  where
    found_is : (key : ℕ) (o : Option Node) → is_some (with_key key o) ≡ true → is_some o ≡ true
    found_is key None h = h
    found_is key (Some n) h = refl

born_at : (g : Graph) (node : Node) (c : NodeId) → c.birth ≤ g.births → node_at (born_node g node) c ≡ node_at g c
born_at g node c le = let e : (c.birth == g.births + 1) ≡ false = grind (arith, nat_tests) in ap (λ b. with_key c.key (if b then Some node else g.at c.birth)) e

pub born_nodes_births : (g : Graph) (ns : List Node) → g.births ≤ (born_nodes g ns).births
born_nodes_births g [] = omega arith
born_nodes_births g (n ∷ ns) = let up = born_nodes_births (born_node g n) ns in omega arith

pub born_nodes_at : (g : Graph) (ns : List Node) (c : NodeId) → c.birth ≤ g.births → node_at (born_nodes g ns) c ≡ node_at g c
born_nodes_at g [] c le = refl
born_nodes_at g (n ∷ ns) c le = born_nodes_at (born_node g n) ns c (omega arith) ∙ born_at g n c le

-- none of these is a record
abbrev pub no_records : List Node → Bool
no_records [] = true
no_records (n ∷ ns) = not (is_record_shape (Some n.shape)) && no_records ns

new_births : (g : Graph) (c : NodeId) → is_new g c ≡ true → g.births < c.birth
new_births g c h = grind (arith, nat_tests)

old_births : (g : Graph) (c : NodeId) → is_new g c ≡ false → c.birth ≤ g.births
old_births g c h = grind (arith, nat_tests)

abbrev NoRecordsAbove : ℕ → Graph → Type 0
NoRecordsAbove b g = (c : NodeId) → b < c.birth → is_record_shape (shape_of g c) ≡ false

shape_found : (key : ℕ) (n : Node) → is_record_shape (Some n.shape) ≡ false → is_record_shape (shape_in (with_key key (Some n))) ≡ false
shape_found key n h = by (n.key == key)
  where
    by : (b : Bool) → is_record_shape (shape_in (if b then Some n else None)) ≡ false
    by true = h
    by false = refl

born_no_records : (b : ℕ) (g : Graph) (ns : List Node) → no_records ns ≡ true → NoRecordsAbove b g → NoRecordsAbove b (born_nodes g ns)
born_no_records b g [] plain above = above
born_no_records b g (n ∷ ns) plain above =
    let both = and_both _ _ plain in
    born_no_records b (born_node g n) ns both.1 (λ c new. by c (c.birth == g.births + 1) (not-true _ both.0) (above c new))
  where
    by : (c : NodeId) (e : Bool) → is_record_shape (Some n.shape) ≡ false → is_record_shape (shape_of g c) ≡ false
        → is_record_shape (shape_in (with_key c.key (if e then Some n else g.at c.birth))) ≡ false
    by c true p a = shape_found c.key n p
    by c false p a = a

pub unborn_shape : (g : Graph) → IsLawfulGraph g → (c : NodeId) → g.births < c.birth → is_record_shape (shape_of g c) ≡ false
unborn_shape g law c new = by (node_at g c) refl
  where
    by : (o : Option Node) → node_at g c ≡ o → is_record_shape (shape_in o) ≡ false
    by None e = refl
    by (Some n) e = absurd (not_born g law c new (ap is_some e))

module _ (s s' : State) (law : IsLawful s) (ns : List Node) (made : s'.graph ≡ born_nodes s.graph ns) where
  pub born_births : s.graph.births ≤ s'.graph.births
  born_births = let e : s'.graph.births ≡ (born_nodes s.graph ns).births = ap (λ g. g.births) made in let le = born_nodes_births s.graph ns in omega arith

  born_same : (c : NodeId) → c.birth ≤ s.graph.births → node_at s'.graph c ≡ node_at s.graph c
  born_same c le = ap (λ g. node_at g c) made ∙ born_nodes_at s.graph ns c le

  pub born_old : (c : NodeId) → c.birth ≤ s.graph.births → is_live s'.graph c ≡ true → is_live s.graph c ≡ true
  born_old c le live = ap is_some (sym (born_same c le)) ∙ live

  pub born_kinds : KeepsKinds s.graph s'.graph
  born_kinds n live _ = kind_same (node_at s.graph n) (node_at s'.graph n) (born_same n (old_below s.graph law.graph ns n live))

  -- new nodes, if the records among them are out of t's reach
  pub born_step_records : (t : ℕ) → ((c : NodeId) → s.graph.births < c.birth → is_record_shape (shape_of s'.graph c) ≡ true
      → ReadOn s'.graph (s.held t) c → ⊥) → GraphStep s.graph s'.graph (s.held t) (is_new s.graph)
  born_step_records t records = record {
    same = λ c h. born_same c (old_births s.graph c h);
    before = λ c h r. not_born s.graph law.graph c (new_births s.graph c h) (read_lives s law t c r.0 r.1 r.2 r.3);
    after = λ c h live _. not_born s.graph law.graph c (new_births s.graph c h) live;
    after_record = λ c h rec r. records c (new_births s.graph c h) rec r;
  }

  -- new nodes, none a record
  pub born_step : (t : ℕ) → no_records ns ≡ true → GraphStep s.graph s'.graph (s.held t) (is_new s.graph)
  born_step t plain =
      born_step_records t (λ c new rec _. true≢false
      (sym rec ∙ ap (λ g. is_record_shape (shape_of g c)) made ∙ born_no_records s.graph.births s.graph ns plain (unborn_shape s.graph law.graph) c new))

-- the node of one birth is changed, and keeps its key or is removed
abbrev pub KeepsKey : (Option Node → Option Node) → Type 0
KeepsKey f = (key : ℕ) (o : Option Node) → with_key key o ≡ None → with_key key (f o) ≡ None

abbrev pub changed_at : Graph → NodeId → (Option Node → Option Node) → Graph
changed_at g x f = record { at = λ b. if b == x.birth then f (g.at b) else g.at b; births = g.births; most = g.most; most_bounds = g.most_bounds }

other_key : (a b : ℕ) (o : Option Node) → is_some (with_key a o) ≡ true → (b == a) ≡ false → with_key b o ≡ None
other_key a b None live ne = refl
other_key a b (Some n) live ne =
    split (n.key == a)
    (λ e. let no_b : (n.key == b) ≡ false = grind (arith, nat_tests) in ap (λ x. if x then Some n else None) no_b)
    (λ e. absurd (no (sym (ap (λ x. is_some (if x then Some n else None)) e) ∙ live)))

pub changed_elsewhere : (g : Graph) (x : NodeId) (f : Option Node → Option Node) → KeepsKey f → is_live g x ≡ true → (c : NodeId)
    → same_node c x ≡ false → node_at (changed_at g x f) c ≡ node_at g c
changed_elsewhere g x f keeps live c ne =
    split (c.birth == x.birth)
    (λ e.
    let key : (c.key == x.key) ≡ false = grind (arith, nat_tests) in
    let birth : c.birth ≡ x.birth = grind (arith, nat_tests) in
    let gone : with_key c.key (g.at c.birth) ≡ None = ap (λ b. with_key c.key (g.at b)) birth ∙ other_key x.key c.key (g.at x.birth) live key in
    ap (λ b. with_key c.key (if b then f (g.at c.birth) else g.at c.birth)) e ∙ keeps c.key (g.at c.birth) gone ∙ sym gone)
    (λ e. ap (λ b. with_key c.key (if b then f (g.at c.birth) else g.at c.birth)) e)

pub changed_here : (g : Graph) (x : NodeId) (f : Option Node → Option Node) → node_at (changed_at g x f) x ≡ with_key x.key (f (g.at x.birth))
changed_here g x f = let e : (x.birth == x.birth) ≡ true = grind (arith, nat_tests) in ap (λ b. with_key x.key (if b then f (g.at x.birth) else g.at x.birth)) e

module _ (s s' : State) (law : IsLawful s) (x : NodeId) (f : Option Node → Option Node) (keeps : KeepsKey f) (live : is_live s.graph x ≡ true)
    (moved : s'.graph ≡ changed_at s.graph x f) where
  at_same : (c : NodeId) → same_node c x ≡ false → node_at s'.graph c ≡ node_at s.graph c
  at_same c ne = ap (λ g. node_at g c) moved ∙ changed_elsewhere s.graph x f keeps live c ne

  pub changed_births : s.graph.births ≤ s'.graph.births
  changed_births = let e : s'.graph.births ≡ s.graph.births = ap (λ g. g.births) moved in omega arith

  pub changed_old : (c : NodeId) → c.birth ≤ s.graph.births → is_live s'.graph c ≡ true → is_live s.graph c ≡ true
  changed_old c _ on = split (same_node c x) (λ e. ap (is_live s.graph) (same_node-equal c x e) ∙ live) (λ e. ap is_some (sym (at_same c e)) ∙ on)

  -- all else is as it was, so kinds are kept if that of the node is
  pub changed_kinds : (is_live s'.graph x ≡ true → KeepsKind (node_at s.graph x) (node_at s'.graph x)) → KeepsKinds s.graph s'.graph
  changed_kinds here c _ live' =
      split (same_node c x)
      (λ e.
      let is : x ≡ c = sym (same_node-equal c x e) in
      subst (λ q. KeepsKind (node_at s.graph q) (node_at s'.graph q)) is (here (ap (is_live s'.graph) is ∙ live')))
      (λ e. kind_same (node_at s.graph c) (node_at s'.graph c) (at_same c e))

  -- t has no effective S there, before and after
  pub changed_step : (t : ℕ) → (ReadOn s.graph (s.held t) x → ⊥) → (ReadOn s'.graph (s.held t) x → ⊥)
      → GraphStep s.graph s'.graph (s.held t) (λ c. same_node c x)
  changed_step t before after = record {
    same = at_same;
    before = λ c e r. before (subst (ReadOn s.graph (s.held t)) (same_node-equal c x e) r);
    after = λ c e _ r. after (subst (ReadOn s'.graph (s.held t)) (same_node-equal c x e) r);
    after_record = λ c e _ r. after (subst (ReadOn s'.graph (s.held t)) (same_node-equal c x e) r);
  }

-- the three changes
pub gone_keeps : KeepsKey (λ o. None)
gone_keeps key o e = refl

some_none : {n : Node} → Some n ≡ None → ⊥
some_none e = cc

pub rekeyed_keeps : (keys : List ℕ) (ps : List NodeId) → KeepsKey (rekeyed_node keys ps)
rekeyed_keeps keys ps key None e = refl
rekeyed_keeps keys ps key (Some n) e =
    split (n.key == key) (λ h. absurd (some_none (sym (ap (λ b. if b then Some n else None) h) ∙ e)))
    (λ h. ap (λ b. if b then Some (record { key = n.key; shape = Rec keys; parents = ps }) else None) h)

pub reparented_keeps : (ps : List NodeId) → KeepsKey (reparented ps)
reparented_keeps ps key None e = refl
reparented_keeps ps key (Some n) e =
    split (n.key == key) (λ h. absurd (some_none (sym (ap (λ b. if b then Some n else None) h) ∙ e)))
    (λ h. ap (λ b. if b then Some (record n { parents = ps }) else None) h)

pub rekeyed_parents_in : (keys : List ℕ) (ps : List NodeId) (key : ℕ) (o : Option Node) → is_some (with_key key o) ≡ true
    → parents_in (with_key key (rekeyed_node keys ps o)) ≡ ps
rekeyed_parents_in keys ps key None live = absurd (no live)
rekeyed_parents_in keys ps key (Some n) live =
    split (n.key == key) (λ h. ap (λ b. parents_in (if b then Some (record { key = n.key; shape = Rec keys; parents = ps }) else None)) h)
    (λ h. absurd (no (sym (ap (λ b. is_some (if b then Some n else None)) h) ∙ live)))

pub reparented_parents_in : (ps : List NodeId) (key : ℕ) (o : Option Node) → is_some (with_key key o) ≡ true → parents_in (with_key key (reparented ps o)) ≡ ps
reparented_parents_in ps key None live = absurd (no live)
reparented_parents_in ps key (Some n) live =
    split (n.key == key) (λ h. ap (λ b. parents_in (if b then Some (record n { parents = ps }) else None)) h)
    (λ h. absurd (no (sym (ap (λ b. is_some (if b then Some n else None)) h) ∙ live)))
