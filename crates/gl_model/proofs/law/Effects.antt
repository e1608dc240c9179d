-- Effective modes, and that no two transactions conflict by them. For the laws and for `effective`.
use Rattle.gl_model.proofs.Words.{◌&&◌, [], ◌||◌, ◌∙◌, ◌∷◌, ◌≡◌, ◌≤◌, ◌⊎◌, ⊎_elim, all_at, and_both, any_found, ap, ap₂, are_compatible, arith, Bool, CutSetLaw}
use Rattle.gl_model.proofs.Words.{eff_s, eff_x, EffX, false, Graph, inl, inr, intends_over, IS, is_at_least, is_live, is_read, is_write, IsLawful}
use Rattle.gl_model.proofs.Words.{IsLawfulGraph, IsRoute, IX, LawfulCutSet, LawfulNoConflict, length, List, list_all, list_any, live_end, Mode, nat_tests, NL}
use Rattle.gl_model.proofs.Words.{no_parents, NoConflictLaw, node_count, NodeId, not, or-true, or_elim, or_no, parents_of, refl, route_short, rules, same_mode}
use Rattle.gl_model.proofs.Words.{same_node, same_node-refl, some_at, split, State, subst, suc, sym, true, true≢false, X, zero, ℕ}

-- An effective X is an X on every root path.

-- one that fails, if not all pass
pub not_all : (q : NodeId → Bool) (ps : List NodeId) → list_all q ps ≡ false → (p : NodeId) × (list_any (same_node p) ps ≡ true) × (q p ≡ false)
not_all q [] h = absurd (true≢false h)
not_all q (x ∷ xs) h = grind (arith, nat_tests, q x, not_all q xs)

module _ (g : Graph) (held : NodeId → Mode) where
  -- a node held in X
  abbrev pub is_x : NodeId → Bool
  is_x n = same_mode (held n) X

  -- an effective X meets each root path
  pub on_path : (k : ℕ) (n r : NodeId) (walk : List NodeId) → eff_x k g held n ≡ true → IsRoute g n walk r → parents_of g r ≡ []
      → list_any is_x (n ∷ walk) ≡ true
  on_path zero n r walk x route root = ap (λ b. b || list_any is_x walk) x
  on_path (suc k) n r [] x route root = grind (arith, nat_tests, parents_of g, and_both)
  on_path (suc k) n r (p ∷ walk) x route root =
      or_elim _ _ x (λ here. ap (λ b. b || list_any is_x (p ∷ walk)) here) (λ up.
      ap (λ b. is_x n || b) (on_path k p r walk (all_at (eff_x k g held) (parents_of g n) p route.0 (and_both _ _ up).1) route.1 root) ∙ or-true (is_x n))

  -- a route up without X, to a node without parents or of k steps
  abbrev pub Escapes : ℕ → NodeId → Type 0
  Escapes k n = (r : NodeId) × (walk : List NodeId) × IsRoute g n walk r × (list_any is_x (n ∷ walk) ≡ false) × ((parents_of g r ≡ []) ⊎ (length walk ≡ k))

  -- no effective X: some parent has none either, step by step up
  pub escape : (k : ℕ) (n : NodeId) → eff_x k g held n ≡ false → Escapes k n
  escape zero n h = (n, [], refl, ap (λ b. b || false) h, inr refl)
  escape (suc k) n h =
      let no = or_no _ _ h in by (parents_of g n) refl no.1 (escape k) no.0
    where
      by : (ps : List NodeId) → parents_of g n ≡ ps → (not (no_parents ps) && list_all (eff_x k g held) ps) ≡ false
          → ((p : NodeId) → eff_x k g held p ≡ false → Escapes k p) → is_x n ≡ false → Escapes (suc k) n
      by [] e f rest here = (n, [], refl, ap (λ b. b || false) here, inl e)
      by (q ∷ qs) e f rest here =
          let found = not_all (eff_x k g held) (q ∷ qs) f in
          let up = rest found.0 found.2 in (
            up.0,
            found.0 ∷ up.1,
            (ap (list_any (same_node found.0)) e ∙ found.1, up.2),
            ap (λ b. b || list_any is_x (found.0 ∷ up.1)) here ∙ up.3,
            ⊎_elim inl (λ l. inr (ap suc l)) up.4,
          )

pub cut_set_on : CutSetLaw
cut_set_on s law t n live = (
  λ x walk path. on_path s.graph (s.held t) (node_count s.graph) n path.0 walk x path.1 path.2.1,
  λ cut. split (eff_x (node_count s.graph) s.graph (s.held t) n) (λ e. e) (λ e.
      let out = escape s.graph (s.held t) (node_count s.graph) n e in
      absurd (⊎_elim (λ root. true≢false (sym (cut out.1 (out.0, out.2, (live_end s.graph law n out.0 out.1 live out.2, root))) ∙ out.3))
      (λ (long : length out.1 ≡ node_count s.graph). let few = route_short s.graph law n out.0 out.1 live out.2 in absurd (omega arith)) out.4)),
)

pub cut_set_law : LawfulCutSet
cut_set_law s law t n live = cut_set_on s law.graph t n live

-- Effective modes, without fuel: a route to a node held in S, SIX or X; an effective X after any number of steps.

-- all pass if each that is listed passes
pub all_from : (q : NodeId → Bool) (ps : List NodeId) → ((p : NodeId) → list_any (same_node p) ps ≡ true → q p ≡ true) → list_all q ps ≡ true
all_from q [] f = refl
all_from q (x ∷ xs) f =
    ap₂ (λ a b. a && b) (f x (ap (λ b. b || list_any (same_node x) xs) (same_node-refl x)))
    (all_from q xs (λ p h. f p (ap (λ b. same_node p x || b) h ∙ or-true _)))

all_some : (q : NodeId → Bool) (ps : List NodeId) → not (no_parents ps) ≡ true → list_all q ps ≡ true → list_any q ps ≡ true
all_some q [] some h = absurd (true≢false (sym some))
all_some q (x ∷ xs) some h = ap (λ b. b || list_any q xs) (and_both _ _ h).0

pub x_reads : (m : Mode) → same_mode m X ≡ true → is_read m ≡ true
x_reads m h = search rules

-- a route to a node that is held in S, SIX or X
abbrev pub ReadOn : Graph → (NodeId → Mode) → NodeId → Type 0
ReadOn g h n = (m : NodeId) × (walk : List NodeId) × IsRoute g n walk m × (is_read (h m) ≡ true)

-- a route and then another
pub read_on_route : (g : Graph) (h : NodeId → Mode) (n m : NodeId) (walk : List NodeId) → IsRoute g n walk m → ReadOn g h m → ReadOn g h n
read_on_route g h n m [] route r = subst (ReadOn g h) (sym route) r
read_on_route g h n m (p ∷ walk) route r = let up = read_on_route g h p m walk route.1 r in (up.0, p ∷ up.1, (route.0, up.2), up.3)

module _ (g : Graph) (h : NodeId → Mode) where
  -- an effective S is that of a node on a route
  pub eff_s_route : (k : ℕ) (n : NodeId) → eff_s k g h n ≡ true → ReadOn g h n
  eff_s_route zero n x = (n, [], refl, x)
  eff_s_route (suc k) n x =
      or_elim _ _ x (λ here. (n, [], refl, here)) (λ up.
      let f = any_found (eff_s k g h) (parents_of g n) up in
      let above = eff_s_route k f.0 f.2 in
      (above.0, f.0 ∷ above.1, (f.1, above.2), above.3))

  -- and so does an effective X
  pub eff_x_route : (k : ℕ) (n : NodeId) → eff_x k g h n ≡ true → ReadOn g h n
  eff_x_route zero n x = (n, [], refl, x_reads _ x)
  eff_x_route (suc k) n x =
      or_elim _ _ x (λ here. (n, [], refl, x_reads _ here)) (λ up.
      let both = and_both _ _ up in
      let f = any_found (eff_x k g h) (parents_of g n) (all_some (eff_x k g h) (parents_of g n) both.0 both.1) in
      let above = eff_x_route k f.0 f.2 in
      (above.0, f.0 ∷ above.1, (f.1, above.2), above.3))

  route_eff_s : (k : ℕ) (n m : NodeId) (walk : List NodeId) → IsRoute g n walk m → is_read (h m) ≡ true → length walk ≤ k → eff_s k g h n ≡ true
  route_eff_s zero n m [] route read le = ap (λ x. is_read (h x)) route ∙ read
  route_eff_s zero n m (p ∷ walk) route read le = absurd (omega arith)
  route_eff_s (suc k) n m [] route read le = ap (λ b. b || list_any (eff_s k g h) (parents_of g n)) (ap (λ x. is_read (h x)) route ∙ read)
  route_eff_s (suc k) n m (p ∷ walk) route read le =
      ap (λ b. is_read (h n) || b) (some_at (eff_s k g h) (parents_of g n) p route.0 (route_eff_s k p m walk route.1 read (omega arith))) ∙ or-true _

-- in a lawful graph the number of nodes is enough fuel
module _ (g : Graph) (law : IsLawfulGraph g) (h : NodeId → Mode) where
  -- a route is short, so the number of nodes is enough steps
  pub read_on_eff : (n : NodeId) → is_live g n ≡ true → ReadOn g h n → eff_s (node_count g) g h n ≡ true
  read_on_eff n live r = let few = route_short g law n r.0 r.1 live r.2 in route_eff_s g h (node_count g) n r.0 r.1 r.2 r.3 (omega arith)

-- an effective X after any number of steps is one
pub eff_x_any : (s : State) → IsLawful s → (t : ℕ) (k : ℕ) (n : NodeId) → is_live s.graph n ≡ true → eff_x k s.graph (s.held t) n ≡ true → EffX s t n
eff_x_any s law t k n live x = (cut_set_law s law t n live).1 (λ walk path. on_path s.graph (s.held t) k n path.0 walk x path.1 path.2.1)

-- No two transactions hold conflicting effective modes.

-- what a mode of one rules out of another's
pub x_blocks : (m w : Mode) → same_mode m X ≡ true → is_at_least w IS ≡ true → are_compatible m w ≡ true → ⊥
x_blocks m w h k c = search rules

ix_blocks : (m w : Mode) → is_at_least m IX ≡ true → is_read w ≡ true → are_compatible m w ≡ true → ⊥
ix_blocks m w h k c = search rules

read_is : (w : Mode) → is_read w ≡ true → is_at_least w IS ≡ true
read_is w h = search rules

pub x_is : (w : Mode) → same_mode w X ≡ true → is_at_least w IX ≡ true
x_is w h = search rules

pub ix_is : (w : Mode) → is_at_least w IX ≡ true → is_at_least w IS ≡ true
ix_is w h = search rules

-- if some pass one test and all another, one passes both
pub any_all : (p q : NodeId → Bool) (ps : List NodeId) → list_any p ps ≡ true → list_all q ps ≡ true → (x : NodeId) × (p x ≡ true) × (q x ≡ true)
any_all p q [] h k = absurd (true≢false (sym h))
any_all p q (x ∷ xs) h k =
    let both = and_both (q x) (list_all q xs) k in
    or_elim (p x) (list_any p xs) h (λ here. (x, here, both.0)) (λ there. any_all p q xs there both.1)

-- a transaction that meets the graph rule on a node with parents holds one of them
pub holds_one : (held : NodeId → Mode) (ps : List NodeId) (m : Mode) → not (no_parents ps) ≡ true → intends_over held ps m ≡ true
    → list_any (λ p. is_at_least (held p) IS) ps ≡ true
holds_one held [] m some h = absurd (true≢false (sym some))
holds_one held (p ∷ ps) m some h = grind (arith, nat_tests, is_write m, is_at_least (held p) IX, ix_is (held p))

holds_all : (held : NodeId → Mode) (ps : List NodeId) (m : Mode) → is_at_least m IX ≡ true → intends_over held ps m ≡ true
    → list_all (λ p. is_at_least (held p) IX) ps ≡ true
holds_all held ps m w h = grind (arith, nat_tests, w, h)

module _ (g : Graph) (ht hu : NodeId → Mode) (fit : (n : NodeId) → are_compatible (ht n) (hu n) ≡ true)
    (rule_t : (n : NodeId) → is_at_least (ht n) IS ≡ true → intends_over ht (parents_of g n) (ht n) ≡ true)
    (rule_u : (n : NodeId) → is_at_least (hu n) IS ≡ true → intends_over hu (parents_of g n) (hu n) ≡ true) where
  -- under an effective X of t, u holds nothing
  pub none_held : (k : ℕ) (n : NodeId) → eff_x k g ht n ≡ true → is_at_least (hu n) IS ≡ true → ⊥
  none_held zero n x held = x_blocks _ _ x held (fit n)
  none_held (suc k) n x held =
      or_elim _ _ x (λ here. x_blocks _ _ here held (fit n)) (λ up.
      let both = and_both _ _ up in
      let found = any_all _ _ (parents_of g n) (holds_one hu (parents_of g n) (hu n) both.0 (rule_u n held)) both.1 in
      none_held k found.0 found.2 found.1)

  -- under an intention of t to write, u has no effective S
  pub none_read : (j : ℕ) (n : NodeId) → eff_s j g hu n ≡ true → is_at_least (ht n) IX ≡ true → ⊥
  none_read zero n s w = ix_blocks _ _ w s (fit n)
  none_read (suc j) n s w =
      or_elim _ _ s (λ here. ix_blocks _ _ w here (fit n)) (λ up.
      let found = any_all _ _ (parents_of g n) up (holds_all ht (parents_of g n) (ht n) w (rule_t n (ix_is _ w))) in
      none_read j found.0 found.1 found.2)

  -- on the path up from the node the X of the one meets the S of the other, or an intention to write above it does
  pub no_conflict : (j k : ℕ) (n : NodeId) → eff_x k g ht n ≡ true → eff_s j g hu n ≡ true → ⊥
  no_conflict zero k n x s = none_held k n x (read_is _ s)
  no_conflict (suc j) zero n x s = none_read (suc j) n s (x_is _ x)
  no_conflict (suc j) (suc k) n x s =
      or_elim _ _ s (λ here. none_held (suc k) n x (read_is _ here)) (λ up. or_elim _ _ x (λ here. none_read (suc j) n s (x_is _ here)) (λ all.
      let found = any_all _ _ (parents_of g n) up (and_both _ _ all).1 in
      no_conflict j k found.0 found.2 found.1))

pub held_is : (m : Mode) → is_at_least m IS ≡ true → not (same_mode m NL) ≡ true
held_is m h = search rules

-- for every pair of slots
pub no_conflict_on : NoConflictLaw
no_conflict_on s together rule t u r c =
    no_conflict s.graph (s.held t) (s.held u) (λ n. together t u n c.differ) (λ n h. rule t n (held_is _ h)) (λ n h. rule u n (held_is _ h))
    (node_count s.graph) (node_count s.graph) r c.writes c.reads

pub no_conflict_law : LawfulNoConflict
no_conflict_law s law = no_conflict_on s law.compatible law.grants_intend
