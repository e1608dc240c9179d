-- No cycle appears: after parents are removed, nodes added, or one node's parents changed.
use Rattle.gl_graph.proofs.Words.{[], ap, false, Graph, inl, inr, is_child, is_live, IsAcyclic, IsRoute, List, no, NodeId, same_node, same_node-equal}
use Rattle.gl_graph.proofs.Words.{same_node-other, split, subst, sym, true, ⊎_elim, ◌++◌, ◌∙◌, ◌∷◌, ◌≡◌, ◌≢◌, ◌⊎◌}

pub join : (g : Graph) (a b c : NodeId) (path path' : List NodeId) → IsRoute g a path b → IsRoute g b path' c → IsRoute g a (path ++ path') c
join g a b c [] path' r r' = subst (λ x. IsRoute g x path' c) (sym r) r'
join g a b c (p ∷ path) path' r r' = (r.0, join g p b c path path' r.1 r')

-- every step is one of g
route_fewer : (g g' : Graph) → ((p n : NodeId) → is_child g' p n ≡ true → is_child g p n ≡ true) → (a b : NodeId) (path : List NodeId)
    → IsRoute g' a path b → IsRoute g a path b
route_fewer g g' less a b [] r = r
route_fewer g g' less a b (p ∷ path) r = (less p a r.0, route_fewer g g' less p b path r.1)

pub acyclic_fewer : (g g' : Graph) → ((p n : NodeId) → is_child g' p n ≡ true → is_child g p n ≡ true) → IsAcyclic g → IsAcyclic g'
acyclic_fewer g g' less a n p path r = a n p path (route_fewer g g' less n n (p ∷ path) r)

-- nodes are added: old ones keep their parents, and above a new one there is at most one new node more
module _ (g g' : Graph) (live : (p n : NodeId) → is_child g p n ≡ true → is_live g p ≡ true)
    (old : (p n : NodeId) → is_live g n ≡ true → is_child g' p n ≡ true → is_child g p n ≡ true)
    (new : (p n : NodeId) → is_live g n ≡ false → is_child g' p n ≡ true → (is_live g p ≡ true)
    ⊎ ((q : NodeId) → is_child g' q p ≡ true → is_live g q ≡ true)) where
  stays_old : (a b : NodeId) (path : List NodeId) → is_live g a ≡ true → IsRoute g' a path b → is_live g b ≡ true
  stays_old a b [] h r = ap (is_live g) (sym r) ∙ h
  stays_old a b (p ∷ path) h r = stays_old p b path (live p a (old p a h r.0)) r.1

  old_route : (a b : NodeId) (path : List NodeId) → is_live g a ≡ true → IsRoute g' a path b → IsRoute g a path b
  old_route a b [] h r = r
  old_route a b (p ∷ path) h r = let s = old p a h r.0 in (s, old_route p b path (live p a s) r.1)

  pub acyclic_beside : IsAcyclic g → IsAcyclic g'
  acyclic_beside a n p path r =
      split (is_live g n) (λ h. a n p path (old_route n n (p ∷ path) h r)) (λ h.
      ⊎_elim (λ up. no (sym h ∙ stays_old p n path up r.1)) (λ up. above path r up h) (new p n h r.0))
    where
      above : (path : List NodeId) → IsRoute g' n (p ∷ path) n → ((q : NodeId) → is_child g' q p ≡ true → is_live g q ≡ true) → is_live g n ≡ false → ⊥
      above [] r' up h = no (sym h ∙ ap (is_live g) (sym r'.1) ∙ up p (subst (λ x. is_child g' p x ≡ true) (sym r'.1) r'.0))
      above (q ∷ path') r' up h = no (sym h ∙ stays_old q n path' (up q r'.1.0) r'.1.1)

-- one node gets other parents, none of which reaches it: a route is an old one, or passes the node
record GoesOver (g g' : Graph) (n a b : NodeId) : Type 0 where
  parent : NodeId
  given : is_child g' parent n ≡ true
  before_path : List NodeId
  before : IsRoute g a before_path n
  after_path : List NodeId
  after : IsRoute g parent after_path b

module _ (g g' : Graph) (n : NodeId)
    (kept : (p a : NodeId) → a ≢ n → is_child g' p a ≡ true → is_child g p a ≡ true)
    (clear : (p : NodeId) (path : List NodeId) → is_child g' p n ≡ true → IsRoute g p path n → ⊥) where
  goes : (a b : NodeId) (path : List NodeId) → IsRoute g' a path b → IsRoute g a path b ⊎ GoesOver g g' n a b
  goes a b [] r = inl r
  goes a b (p ∷ path) r =
      split (same_node a n)
      (λ is.
      let same : a ≡ n = same_node-equal a n is in
      let given : is_child g' p n ≡ true = subst (λ x. is_child g' p x ≡ true) same r.0 in
      ⊎_elim (λ up. inr (record { parent = p; given = given; before_path = []; before = same; after_path = path; after = up }))
      (λ o. absurd (clear p o.before_path given o.before)) (goes p b path r.1))
      (λ other.
      let step = kept p a (same_node-other a n other) r.0 in
      ⊎_elim (λ up. inl (step, up)) (λ o. inr
      (record {
        parent = o.parent;
        given = o.given;
        before_path = p ∷ o.before_path;
        before = (step, o.before);
        after_path = o.after_path;
        after =
            o.after;
      })) (goes p b path r.1))

  pub acyclic_moved : IsAcyclic g → IsAcyclic g'
  acyclic_moved a m p path r =
      ⊎_elim (λ was. a m p path was) (λ o. clear o.parent (o.after_path ++ o.before_path) o.given
      (join g o.parent m n o.after_path o.before_path o.after o.before)) (goes m m (p ∷ path) r)
