-- What the slab holds after each write: the graph it shows, and what it stores beside each node.
use Rattle.gl_graph.proofs.Words.{[], ap, ap₂, AreBornWithin, AreSound, arith, Beside, beside_in_body, born_node, children_of, Counts, due, due_as, false, File}
use Rattle.gl_graph.proofs.Words.{get, Graph, Holds, if◌then◌else◌, indexes_of, Inner, is_file_shape, is_live, is_some}
use Rattle.gl_graph.proofs.Words.{IsLawfulGraph, length, Limits, Lists, node_at, node_count, node_is, node_of, NodeId, None, none_some, Option}
use Rattle.gl_graph.proofs.Words.{other_number, record_count, refl, same_node, same_node-differ, same_node-refl, same_number, Shape, Slab, slab_len, Some}
use Rattle.gl_graph.proofs.Words.{some_is, split, Stored, subst, sym, true, Updates, vertex_of, with_node, without_node, ℕ, ◌+◌, ◌==◌, ◌∙◌}
use Rattle.gl_graph.proofs.Words.{◌∷◌, ◌≡◌, ◌≢◌}
use Rattle.gl_graph.proofs.Changed.{nodes_same}
use Rattle.gl_graph.proofs.Counts.{count_grown}
use Rattle.gl_graph.proofs.Left.{fewer_nodes}
use Rattle.gl_graph.proofs.Slots.{at_slot, stored_of, node_there, inserted, inserted_apart, written, written_apart, unseen, removed, removed_apart}

-- with another number of children
abbrev pub recounted : (ℕ → ℕ) → Beside → Beside
recounted f (Counts children) = Counts (f children)
recounted f b = b

-- the same, except beside one node
abbrev pub put : NodeId → Beside → (NodeId → Beside) → NodeId → Beside
put n b beside m = if same_node m n then b else beside m

pub put_here : (n : NodeId) (b : Beside) (beside : NodeId → Beside) → put n b beside n ≡ b
put_here n b beside = ap (λ t. if t then b else beside n) (same_node-refl n)

pub put_other : (n : NodeId) (b : Beside) (beside : NodeId → Beside) (m : NodeId) → same_node m n ≡ false → put n b beside m ≡ beside m
put_other n b beside m h = ap (λ t. if t then b else beside m) h

-- what is due beside a node that keeps its shape: another number of children, and all else as it was
pub due_after : (g g' : Graph) (n : NodeId) (f : ℕ → ℕ) (o : Option Shape) → (o ≡ Some Inner → children_of g' n ≡ f (children_of g n))
    → (is_file_shape o ≡ true → (indexes_of g' n ≡ indexes_of g n) × (record_count g' n ≡ record_count g n))
    → recounted f (due_as g n o) ≡ due_as g' n o
due_after g g' n f (Some Inner) inner file = ap Counts (sym (inner refl))
due_after g g' n f (Some (File adopted)) inner file = let t = file refl in ap₂ Lists (sym t.0) (sym t.1)
due_after g g' n f _ inner file = refl

pub recounted_same : (b : Beside) → recounted (λ c. c) b ≡ b
recounted_same (Counts children) = refl
recounted_same _ = refl

pub recounted_twice : (f f' : ℕ → ℕ) (b : Beside) → recounted f (recounted f' b) ≡ recounted (λ c. f (f' c)) b
recounted_twice f f' (Counts children) = refl
recounted_twice f f' _ = refl

-- a node as it is stored
pub record IsStored (s : Slab Stored) (g : Graph) (beside : NodeId → Beside) (n : NodeId) : Type 0 where
  pub stored : Stored
  pub there : get s n.key ≡ Some stored
  pub born : stored.birth ≡ n.birth
  pub node : node_at g n ≡ Some (node_of n.key (vertex_of stored))
  pub kept : beside_in_body stored.body ≡ beside n

module _ {limits : Limits} {s : Slab Stored} {births : ℕ} {g : Graph} {beside : NodeId → Beside} (h : Holds limits s births g beside) where
  pub node_held : (k : ℕ) (x : Stored) → get s k ≡ Some x → node_at g (record { key = k; birth = x.birth }) ≡ Some (node_of k (vertex_of x))
  node_held k x e = ap (λ (g' : Graph). node_at g' (record { key = k; birth = x.birth })) (sym h.graph) ∙ node_there limits s births h.apart k x e

  -- a node that is stored under its key
  module _ (n : NodeId) (x : Stored) (there : get s n.key ≡ Some x) (born : x.birth ≡ n.birth) where
    is_n : record { key = n.key; birth = x.birth } ≡ n
    is_n = node_is (record { key = n.key; birth = x.birth }) n refl born

    pub node_stored : node_at g n ≡ Some (node_of n.key (vertex_of x))
    node_stored = ap (node_at g) (sym is_n) ∙ node_held n.key x there

    pub beside_stored : beside_in_body x.body ≡ beside n
    beside_stored = h.kept n.key x there ∙ ap beside is_n

  pub live_held : (n : NodeId) → is_live g n ≡ true → IsStored s g beside n
  live_held n live =
      let x = stored_of limits s births h.apart n (ap (λ (g' : Graph). is_live g' n) h.graph ∙ live) in
      record { stored = x.0; there = x.1; born = x.2; node = node_stored n x.0 x.1 x.2; kept = beside_stored n x.0 x.1 x.2 }

  pub births_held : g.births ≡ births
  births_held = ap (λ (g' : Graph). g'.births) (sym h.graph)

  -- if this is all that is due, the slab is sound
  pub sound_held : IsLawfulGraph g → ((n : NodeId) → is_live g n ≡ true → beside n ≡ due g n) → AreSound limits s births
  sound_held law same = record {
    lawful = subst IsLawfulGraph (sym h.graph) law;
    holds = subst (λ (g' : Graph). Holds limits s births g' (due g')) (sym h.graph) (record {
      graph = h.graph;
      apart = h.apart;
      counted = h.counted;
      kept = λ k x e. h.kept k x e ∙ same (record { key = k; birth = x.birth }) (ap is_some (node_held k x e));
    });
  }

  pub within_held : IsLawfulGraph g → AreBornWithin s births
  within_held law k x e =
      let low = (law.born x.birth (ap is_some (ap (λ (g' : Graph). g'.at x.birth) (sym h.graph) ∙ at_slot s h.apart k x e))).1 in
      let same = births_held in
      omega arith

-- a slot is written, and its node keeps its birth
module _ {limits : Limits} {old new : Slab Stored} {births : ℕ} {g : Graph} {beside : NodeId → Beside} (h : Holds limits old births g beside)
    (n : NodeId) (was x : Stored) (there : get old n.key ≡ Some was) (born : was.birth ≡ n.birth) (u : Updates old new n.key (Some x))
    (same : x.birth ≡ was.birth) (len : slab_len new ≡ slab_len old) where
  kept_after : (after : NodeId → Beside) → beside_in_body x.body ≡ after n → ((m : NodeId) → m.key ≢ n.key → after m ≡ beside m)
      → (k : ℕ) (y : Stored) → get new k ≡ Some y → beside_in_body y.body ≡ after (record { key = k; birth = y.birth })
  kept_after after here other k y e = grind arith

  -- beside the node alone
  pub beside_written : node_of n.key (vertex_of x) ≡ node_of n.key (vertex_of was) → Holds limits new births g (put n (beside_in_body x.body) beside)
  beside_written alike = record {
    graph = unseen limits old new births n.key was x h.apart there u same alike ∙ h.graph;
    apart = written_apart limits old new births n.key was x h.apart there u same;
    counted = len ∙ h.counted;
    kept = kept_after (put n (beside_in_body x.body) beside) (sym (put_here n (beside_in_body x.body) beside))
        (λ m ne. put_other n (beside_in_body x.body) beside m (same_node-differ m n (λ e. ne (ap (λ (q : NodeId). q.key) e))));
  }

  -- the node itself
  pub node_written : beside_in_body x.body ≡ beside_in_body was.body → Holds limits new births (with_node g n.birth (node_of n.key (vertex_of x))) beside
  node_written alike =
      record {
        graph = written limits old new births n.key was x h.apart there u same
            ∙ ap₂ (λ (g' : Graph) b. with_node g' b (node_of n.key (vertex_of x))) h.graph born;
        apart = written_apart limits old new births n.key was x h.apart there u same;
        counted = len ∙ h.counted ∙ sym (ap length (nodes_same g n (node_of n.key (vertex_of was)) (node_of n.key (vertex_of x))
            (node_stored h n was there born) refl));
        kept = kept_after beside (alike ∙ beside_stored h n was there born) (λ m ne. refl);
      }

-- a node is added
module _ {limits : Limits} {old new : Slab Stored} {births : ℕ} {g : Graph} {beside : NodeId → Beside} (h : Holds limits old births g beside)
    (law : IsLawfulGraph g) (key : ℕ) (x : Stored) (free : get old key ≡ None) (u : Updates old new key (Some x)) (next : x.birth ≡ births + 1)
    (len : slab_len new ≡ slab_len old + 1) where
  within : AreBornWithin old births
  within = within_held h law

  pub births_are : g.births ≡ births
  births_are = births_held h

  -- the id of the new node
  abbrev pub id : NodeId
  id = record { key = key; birth = g.births + 1 }

  pub node_added : Holds limits new (births + 1) (born_node g (node_of key (vertex_of x))) (put id (beside_in_body x.body) beside)
  node_added = record {
    graph = inserted limits old new births key x h.apart within free u next ∙ ap (λ (g' : Graph). born_node g' (node_of key (vertex_of x))) h.graph;
    apart = inserted_apart limits old new births key x h.apart within free u next;
    counted = (let all : node_count (born_node g (node_of key (vertex_of x))) ≡ node_count g + 1 = count_grown g law (node_of key (vertex_of x) ∷ []) in
        let was = h.counted in
        omega arith);
    kept = λ k y e. split (k == key)
        (λ t.
        let here = same_number k key t in
        let is : x ≡ y = some_is (sym u.changed ∙ ap (get new) (sym here) ∙ e) in
        ap (λ (z : Stored). beside_in_body z.body) (sym is) ∙ sym (put_here id (beside_in_body x.body) beside)
        ∙ ap (put id (beside_in_body x.body) beside) (node_is id (record { key = k; birth = y.birth }) (sym here)
        (ap (λ b. b + 1) births_are ∙ sym next ∙ ap (λ (z : Stored). z.birth) is))) (λ t.
        let ne = other_number k key t in
        h.kept k y (sym (u.others k ne) ∙ e)
        ∙ sym (put_other id (beside_in_body x.body) beside (record { key = k; birth = y.birth })
        (same_node-differ (record { key = k; birth = y.birth }) id (λ q. ne (ap (λ (m : NodeId). m.key) q)))));
  }

  pub key_free : (n : NodeId) → is_live g n ≡ true → n.key ≢ key
  key_free n live e = let x' = live_held h n live in none_some (sym free ∙ ap (get old) (sym e) ∙ x'.there)

-- a node is removed
module _ {limits : Limits} {old new : Slab Stored} {births : ℕ} {g : Graph} {beside : NodeId → Beside} (h : Holds limits old births g beside)
    (law : IsLawfulGraph g) (n : NodeId) (live : is_live g n ≡ true) (u : Updates old new n.key None) (len : slab_len new + 1 ≡ slab_len old) where
  pub node_removed : Holds limits new births (without_node g n) beside
  node_removed =
      let s = live_held h n live in
      record {
        graph = removed limits old new births n s.stored h.apart s.there s.born u ∙ ap (λ (g' : Graph). without_node g' n) h.graph;
        apart = removed_apart limits old new births n s.stored h.apart s.there s.born u;
        counted = (let fewer = fewer_nodes g law n live in let was = h.counted in omega arith);
        kept = λ k y e. h.kept k y (sym (u.others k (λ same. none_some (sym u.changed ∙ ap (get new) (sym same) ∙ e))) ∙ e);
      }
