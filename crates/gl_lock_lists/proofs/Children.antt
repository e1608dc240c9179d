-- The first of the listed nodes that pass a test, the marking of covered children, and nodes held to write. For lists.
use Rattle.gl_graph.proofs.Look.{found_at, live_node}
use Rattle.gl_graph.proofs.Moved.{any_found}
use Rattle.gl_graph.proofs.Counts.{count_cons}
use Rattle.gl_graph.proofs.Distinct.{nodes_distinct}
use Rattle.gl_graph.proofs.RouteLengths.{listed}
use Rattle.gl_lock_lists.proofs.Words.{AllByRecursion, count_by, IsDistinct}
use Rattle.gl_lock_lists.proofs.Words.{◌&&◌, ◌+◌, ◌++◌, ◌<◌, ◌==◌, [], ◌||◌, ◌∙◌, ◌∷◌, ◌≡◌, ◌≤◌, ap, ap₂, arith, Bool, cond, count_of, covered_in, Entry, false}
use Rattle.gl_lock_lists.proofs.Words.{get_or, if◌then◌else◌, is_at_least, is_child, is_some, is_some-lookup, IX, keys, length, List, list_any, list_any_more}
use Rattle.gl_lock_lists.proofs.Words.{Mode, mode_in, mode_of, nat_lt, nat_tests, NL, NodeId, None, not, Option, option_map_or, refl, rules, same_mode}
use Rattle.gl_lock_lists.proofs.Words.{same_node, same_node-equal, slice_get, slice_get-get_or, Some, split, subst, suc, sym, take, take_all, true, zero, ℕ}
use Rattle.gl_graph.specs.Graph.{Graph, id_of, is_live, Node, node_at, nodes, parents_of}
use Rattle.gl_graph.specs.Lawful.{are_distinct, IsLawfulGraph}
use Rattle.gl_lock_lists.specs.Lists.{entry_of, held_below}
use Rattle.gl_lock_lists.specs.declared.list.LockList.{LockList}
use Rattle.gl_modes.proofs.NodeLemmas.{same_node-from_equal, same_node-sym}
use Rattle.gl_modes.proofs.Words.{and_both, both, clash, not_true, number_other, or_elim, or_left, or_right}
use Rattle.gl_modes.specs.declared.mode.Mode.TheVariants.{X}
use Rattle.std.proofs.Math.Bool.{and-false, and-true, or-false}
use Rattle.std.proofs.lemmas.Bool.{not-true}
use Rattle.std.proofs.lemmas.Map.Keys.{IsDistinct-head, IsDistinct-tail}
use Rattle.std.proofs.lemmas.List.Folds.{list_any-append}
use Rattle.std.specs.List.{cons_option, filter_map, find, list_all, range_with_len}

-- Modes.

-- a node held to write is held
pub write_held : (m : Mode) → is_at_least m IX ≡ true → not (same_mode m NL) ≡ true
write_held m h = search rules

-- a node that is not held is held in NL
pub nl_is : (a : Mode) → not (same_mode a NL) ≡ false → a ≡ NL
nl_is a h = search rules

-- The first of the nodes that pass a test, found among listed ones.

-- of the nodes seen so far that pass the test, the first in order of birth
pub record IsFirst (p : NodeId → Bool) (seen : List NodeId) (first : Option NodeId) : Type 0 where
  pub none : first ≡ None → (c : NodeId) → list_any (same_node c) seen ≡ true → p c ≡ false
  pub some : (f : NodeId) → first ≡ Some f → (p f ≡ true) × ((c : NodeId) → list_any (same_node c) seen ≡ true → p c ≡ true → f.birth ≤ c.birth)

module _ (p : NodeId → Bool) (ns : List NodeId) (n : NodeId) (first : Option NodeId) (is : IsFirst p ns first) where
  seen_or : {C : Type 0} (c : NodeId) → list_any (same_node c) (ns ++ n ∷ []) ≡ true → (list_any (same_node c) ns ≡ true → C) → (c ≡ n → C) → C
  seen_or c h before now =
      or_elim (list_any (same_node c) ns) (same_node c n)
      (sym (list_any-append (same_node c) ns (n ∷ []) ∙ ap (λ b. list_any (same_node c) ns || b) (or-false (same_node c n))) ∙ h) before
      (λ e. now (same_node-equal c n e))

  -- it passes, and was born before the one found so far
  pub first_new : p n ≡ true → option_map_or (λ o. nat_lt n.birth o.birth) first true ≡ true → IsFirst p (ns ++ n ∷ []) (Some n)
  first_new passes before = record {
    none = λ e c h. cc;
    some = λ f e. let at : n ≡ f = cc in
        subst (λ (x : NodeId). (p x ≡ true) × ((c : NodeId) → list_any (same_node c) (ns ++ n ∷ []) ≡ true → p c ≡ true → x.birth ≤ c.birth)) at
        (passes, least);
  }
    where
      least_of : (o : Option NodeId) → IsFirst p ns o → option_map_or (λ x. nat_lt n.birth x.birth) o true ≡ true → (c : NodeId)
          → list_any (same_node c) ns ≡ true → p c ≡ true → n.birth ≤ c.birth
      least_of None f b c h k = clash k (f.none refl c h)
      least_of (Some x) f b c h k = let le = (f.some x refl).1 c h k in let below : n.birth < x.birth = grind (arith, nat_tests) in omega arith

      least : (c : NodeId) → list_any (same_node c) (ns ++ n ∷ []) ≡ true → p c ≡ true → n.birth ≤ c.birth
      least c h k = seen_or c h (λ b. least_of first is before c b k) (λ e. let same = ap (λ x. x.birth) e in omega arith)

  -- it does not pass
  pub first_failed : p n ≡ false → IsFirst p (ns ++ n ∷ []) first
  first_failed fails = record {
    none = λ e c h. seen_or c h (λ b. is.none e c b) (λ k. ap p k ∙ fails);
    some = λ f e. ((is.some f e).0, λ c h k. seen_or c h (λ b. (is.some f e).1 c b k) (λ at. clash k (ap p at ∙ fails)));
  }

  -- or one was born before it
  pub first_later : option_map_or (λ o. nat_lt n.birth o.birth) first true ≡ false → IsFirst p (ns ++ n ∷ []) first
  first_later later = by first is later
    where
      by : (o : Option NodeId) → IsFirst p ns o → option_map_or (λ x. nat_lt n.birth x.birth) o true ≡ false → IsFirst p (ns ++ n ∷ []) o
      by None f h = absurd (cc)
      by (Some x) f h = record {
        none = λ e c k. cc;
        some = λ y e. let at : x ≡ y = cc in (
          (f.some y e).0,
          λ c k q. seen_or c k (λ b. (f.some y e).1 c b q)
              (λ same. let up : x.birth ≤ n.birth = grind (arith, nat_tests) in let to = ap (λ z. z.birth) same in let xy = ap (λ z. z.birth) at in
              omega arith),
        );
      }

-- in either case
pub first_more : (p : NodeId → Bool) (ns : List NodeId) (n : NodeId) (first after : Option NodeId) → IsFirst p ns first
    → after ≡ (if p n && option_map_or (λ o. nat_lt n.birth o.birth) first true then Some n else first) → IsFirst p (ns ++ n ∷ []) after
first_more p ns n first after is e = subst (IsFirst p (ns ++ n ∷ [])) (sym e) (split (p n)
    (λ passes. split (option_map_or (λ o. nat_lt n.birth o.birth) first true)
    (λ before. subst (IsFirst p (ns ++ n ∷ [])) (sym (ap₂ (λ a b. if a && b then Some n else first) passes before)) (first_new p ns n first is passes before))
    (λ later. subst (IsFirst p (ns ++ n ∷ [])) (sym (ap₂ (λ a b. if a && b then Some n else first) passes later)) (first_later p ns n first is later)))
    (λ fails. subst (IsFirst p (ns ++ n ∷ [])) (sym (ap (λ a. if a && option_map_or (λ o. nat_lt n.birth o.birth) first true then Some n else first) fails))
    (first_failed p ns n first is fails)))

-- in a list of nodes by birth, the one that passes and before which none passes is found
find_born : (p : NodeId → Bool) (at : ℕ → Option NodeId) (k n : ℕ) (f : NodeId) (b : ℕ) → k ≤ b → b < k + n → at b ≡ Some f → p f ≡ true
    → ((j : ℕ) (c : NodeId) → j < b → at j ≡ Some c → p c ≡ false)
    → find p (filter_map at (range_with_len k n)) ≡ Some f
find_born p at k zero f b lo hi here passes before = absurd (omega arith)
find_born p at k (suc n) f b lo hi here passes before =
    split (nat_lt k b)
    (λ e. let lt : k < b = grind (arith, nat_tests) in
    skip (at k) refl (λ c h. before k c lt h) (find_born p at (k + 1) n f b (omega arith) (omega arith) here passes before))
    (λ e. let is : k ≡ b = grind (arith, nat_tests) in ap (λ o. find p (cons_option o (filter_map at (range_with_len (k + 1) n)))) (ap at is ∙ here)
    ∙ ap (λ x. cond x (Some f) (find p (filter_map at (range_with_len (k + 1) n)))) passes)
  where
    skip : (o : Option NodeId) → at k ≡ o → ((c : NodeId) → at k ≡ Some c → p c ≡ false) → find p (filter_map at (range_with_len (k + 1) n)) ≡ Some f
        → find p (filter_map at (range_with_len k (suc n))) ≡ Some f
    skip None e h rest = ap (λ o. find p (cons_option o (filter_map at (range_with_len (k + 1) n)))) e ∙ rest
    skip (Some c) e h rest = ap (λ o. find p (cons_option o (filter_map at (range_with_len (k + 1) n)))) e
        ∙ ap (λ x. cond x (Some c) (find p (filter_map at (range_with_len (k + 1) n)))) (h c e) ∙ rest

-- and if none passes, none is found
find_none : (p : NodeId → Bool) (at : ℕ → Option NodeId) (k n : ℕ) → ((j : ℕ) (c : NodeId) → at j ≡ Some c → p c ≡ false)
    → find p (filter_map at (range_with_len k n)) ≡ None
find_none p at k zero h = refl
find_none p at k (suc n) h = by (at k) refl (find_none p at (k + 1) n h)
  where
    by : (o : Option NodeId) → at k ≡ o → find p (filter_map at (range_with_len (k + 1) n)) ≡ None → find p (filter_map at (range_with_len k (suc n))) ≡ None
    by None e rest = ap (λ o. find p (cons_option o (filter_map at (range_with_len (k + 1) n)))) e ∙ rest
    by (Some c) e rest = ap (λ o. find p (cons_option o (filter_map at (range_with_len (k + 1) n)))) e
        ∙ ap (λ x. cond x (Some c) (find p (filter_map at (range_with_len (k + 1) n)))) (h k c e) ∙ rest

id_birth : (b : ℕ) (o : Option Node) (c : NodeId) → id_of b o ≡ Some c → c.birth ≡ b
id_birth b None c e = absurd (cc)
id_birth b (Some x) c e = let is : record { key = x.key; birth = b } ≡ c = cc in sym (ap (λ z. z.birth) is)

-- if the nodes seen are all that pass, the first of them is the first in the graph
pub first_found : (g : Graph) → IsLawfulGraph g → (p : NodeId → Bool) (seen : List NodeId) (first : Option NodeId)
    → ((c : NodeId) → p c ≡ true → (list_any (same_node c) seen ≡ true) × (is_live g c ≡ true)) → IsFirst p seen first
    → first ≡ find p (nodes g)
first_found g law p seen None all is = sym (find_none p (λ b. id_of b (g.at b)) 1 g.births
    (λ j c e. split (p c) (λ h. clash h (is.none refl c (all c h).0)) (λ h. h)))
first_found g law p seen (Some f) all is =
    let found = live_node (node_at g f) (all f (is.some f refl).0).1 in
    let at = found_at g f found.0 found.1 in
    let born = law.born f.birth (ap is_some at.0) in
    sym (find_born p (λ b. id_of b (g.at b)) 1 g.births f f.birth born.0 (let le = born.1 in omega arith)
    (ap (id_of f.birth) at.0 ∙ ap (λ k. Some (record { key = k; birth = f.birth })) at.1) (is.some f refl).0
    (λ j c lt e. split (p c) (λ h. let le = (is.some f refl).1 c (all c h).0 h in let b = id_birth j (g.at j) c e in absurd (omega arith)) (λ h. h)))

-- a held node is listed
pub held_listed : (l : LockList) (n : NodeId) → not (same_mode (mode_of l n) NL) ≡ true → list_any (same_node n) (keys l.entries) ≡ true
held_listed l n h = sym (is_some-lookup (same_node n) l.entries.entries) ∙ by (entry_of l n) refl h
  where
    by : (o : Option Entry) → entry_of l n ≡ o → not (same_mode (mode_in o) NL) ≡ true → is_some (entry_of l n) ≡ true
    by None e k = absurd (cc)
    by (Some x) e k = ap is_some e

-- The covered children of a node are marked, one place of the list after another.

-- tests that agree on each of these nodes
all_alike : (f h : NodeId → Bool) (ps : List NodeId) → ((p : NodeId) → list_any (same_node p) ps ≡ true → f p ≡ h p) → list_all f ps ≡ list_all h ps
all_alike f h [] same = refl
all_alike f h (p ∷ ps) same =
    ap₂ (λ a b. a && b) (same p (or_left (same_node p p) (list_any (same_node p) ps) (same_node-from_equal p p refl)))
    (all_alike f h ps (λ q e. same q (or_right (same_node q p) (list_any (same_node q) ps) e)))

-- a node with a held child is not covered
counted_out : (a b d : Bool) (k : ℕ) → 0 < k → (a && b && (k == 0) && d) ≡ false
counted_out a b d k some = ap (λ c. a && b && c && d) (number_other k 0 (omega (arith, some))) ∙ by a b
  where
    by : (a b : Bool) → (a && b && false && d) ≡ false
    by true true = refl
    by true false = refl
    by false b = refl

not_held_out : (a c d : Bool) → (a && false && c && d) ≡ false
not_held_out true c d = refl
not_held_out false c d = refl

held_in : (a b c d : Bool) → (a && b && c && d) ≡ true → b ≡ true
held_in a true c d h = refl
held_in true false c d h = h
held_in false false c d h = h

-- those covered children of n that are among these are marked, and all else stays
abbrev pub HasMarked : Graph → NodeId → LockList → LockList → List NodeId → Type 0
HasMarked g n was l ks = (q : NodeId) → mode_of l q ≡ (if covered_in g was n q && list_any (same_node q) ks then NL else mode_of was q)

module _ (g : Graph) (n : NodeId) (was : LockList) (counted : (c p : NodeId) → not (same_mode (mode_of was c) NL) ≡ true
    → list_any (same_node p) (parents_of g c) ≡ true → 0 < count_of was p) where
  stays : (l : LockList) (ks : List NodeId) → HasMarked g n was l ks → (q : NodeId) → covered_in g was n q ≡ false → mode_of l q ≡ mode_of was q
  stays l ks h q out = h q ∙ ap (λ b. if b && list_any (same_node q) ks then NL else mode_of was q) out

  -- the marks do not change whether an unmarked node is covered
  still_covered : (l : LockList) (ks : List NodeId) → HasMarked g n was l ks → ((q : NodeId) → count_of l q ≡ count_of was q) → (c : NodeId)
      → mode_of l c ≡ mode_of was c → covered_in g l n c ≡ covered_in g was n c
  still_covered l ks h counts c same = split (not (same_mode (mode_of was c) NL)) held free
    where
      rest : LockList → Bool
      rest x = not (same_mode (mode_of x c) X) || list_all (λ p. same_mode (mode_of x p) X) (parents_of g c)

      held : not (same_mode (mode_of was c) NL) ≡ true → covered_in g l n c ≡ covered_in g was n c
      held e =
          let parents : list_all (λ p. same_mode (mode_of l p) X) (parents_of g c) ≡ list_all (λ p. same_mode (mode_of was p) X) (parents_of g c)
          = all_alike (λ p. same_mode (mode_of l p) X) (λ p. same_mode (mode_of was p) X) (parents_of g c)
          (λ p is. ap (λ m. same_mode m X) (stays l ks h p (counted_out (is_child g n p) (not (same_mode (mode_of was p) NL))
          (not (same_mode (mode_of was p) X) || list_all (λ x. same_mode (mode_of was x) X) (parents_of g p)) (count_of was p) (counted c p e is)))) in
          ap₂ (λ (m : Mode) (b : Bool). is_child g n c && not (same_mode m NL) && (count_of l c == 0) && (not (same_mode m X) || b)) same parents
          ∙ ap (λ k. is_child g n c && not (same_mode (mode_of was c) NL) && (k == 0) && rest was) (counts c)

      free : not (same_mode (mode_of was c) NL) ≡ false → covered_in g l n c ≡ covered_in g was n c
      free e =
          ap (λ b. is_child g n c && b && (count_of l c == 0) && rest l) (ap (λ m. not (same_mode m NL)) same ∙ e)
          ∙ not_held_out (is_child g n c) (count_of l c == 0) (rest l)
          ∙ sym (ap (λ b. is_child g n c && b && (count_of was c == 0) && rest was) e ∙ not_held_out (is_child g n c) (count_of was c == 0) (rest was))

  pub marks_begin : HasMarked g n was was []
  marks_begin q = by (covered_in g was n q)
    where
      by : (b : Bool) → mode_of was q ≡ (if b && false then NL else mode_of was q)
      by true = refl
      by false = refl

  -- the node at the next place is marked too
  module _ (l next : LockList) (at : ℕ) (lt : at < length (keys was.entries)) (same_keys : keys l.entries ≡ keys was.entries)
      (h : HasMarked g n was l (take at (keys was.entries))) (counts : (q : NodeId) → count_of l q ≡ count_of was q)
      (marks : (c : NodeId) → slice_get (keys l.entries) at ≡ Some c → (q : NodeId)
      → mode_of next q ≡ (if same_node q c && covered_in g l n c then NL else mode_of l q)) where
    abbrev none : NodeId
    none = record { key = 0; birth = 0 }

    abbrev here : NodeId
    here = get_or (keys was.entries) at none

    step : (q : NodeId) → mode_of next q ≡ (if same_node q here && covered_in g l n here then NL else mode_of l q)
    step = marks here (ap (λ ks. slice_get ks at) same_keys ∙ slice_get-get_or (keys was.entries) at none lt)

    abbrev before : NodeId → Bool
    before q = list_any (same_node q) (take at (keys was.entries))

    out : mode_of next here ≡ (if covered_in g l n here then NL else mode_of l here)
    out = step here ∙ ap (λ b. if b && covered_in g l n here then NL else mode_of l here) (same_node-from_equal here here refl)

    at_here : mode_of next here ≡ (if covered_in g was n here then NL else mode_of was here)
    at_here = split (covered_in g was n here && before here)
        (λ e. let marked : mode_of l here ≡ NL = h here ∙ ap (λ b. if b then NL else mode_of was here) e in
        out ∙ ap (λ m. if covered_in g l n here then NL else m) marked ∙ either (covered_in g l n here)
        ∙ sym (ap (λ b. if b then NL else mode_of was here) (first (covered_in g was n here) (before here) e)))
        (λ e. let same : mode_of l here ≡ mode_of was here = h here ∙ ap (λ b. if b then NL else mode_of was here) e in
        out ∙ ap₂ (λ b m. if b then NL else m) (still_covered l (take at (keys was.entries)) h counts here same) same)
      where
        either : (b : Bool) → (if b then NL else NL) ≡ NL
        either true = refl
        either false = refl

        first : (a b : Bool) → (a && b) ≡ true → a ≡ true
        first true b e = refl
        first false b e = e

    pub marks_more : HasMarked g n was next (take (at + 1) (keys was.entries))
    marks_more q =
        split (same_node q here)
        (λ e. ap (mode_of next) (same_node-equal q here e) ∙ at_here
        ∙ ap (λ x. if covered_in g was n x then NL else mode_of was x) (sym (same_node-equal q here e))
        ∙ all (covered_in g was n q) ∙ ap (λ b. if covered_in g was n q && b then NL else mode_of was q)
        (sym (grown ∙ or_right (before q) (same_node q here) e)))
        (λ e. step q ∙ ap (λ b. if b && covered_in g l n here then NL else mode_of l q) e ∙ h q
        ∙ ap (λ b. if covered_in g was n q && b then NL else mode_of was q) (sym (grown ∙ ap (λ b. before q || b) e ∙ or-false (before q))))
      where
        grown : list_any (same_node q) (take (at + 1) (keys was.entries)) ≡ (before q || same_node q here)
        grown = list_any_more (same_node q) (keys was.entries) at none lt

        all : (b : Bool) → (if b then NL else mode_of was q) ≡ (if b && true then NL else mode_of was q)
        all true = refl
        all false = refl

  -- each covered child is listed
  pub marks_end : (l : LockList) (at : ℕ) → length (keys was.entries) ≤ at → HasMarked g n was l (take at (keys was.entries)) → (q : NodeId)
      → mode_of l q ≡ (if covered_in g was n q then NL else mode_of was q)
  marks_end l at le h q = split (covered_in g was n q)
      (λ e. let seen : list_any (same_node q) (take at (keys was.entries)) ≡ true
      = ap (list_any (same_node q)) (take_all at (keys was.entries) le)
      ∙ held_listed was q (held_in (is_child g n q) (not (same_mode (mode_of was q) NL)) (count_of was q == 0)
      (not (same_mode (mode_of was q) X) || list_all (λ p. same_mode (mode_of was p) X) (parents_of g q)) e) in
      h q ∙ ap₂ (λ a b. if a && b then NL else mode_of was q) e seen ∙ sym (ap (λ b. if b then NL else mode_of was q) e))
      (λ e. stays l (take at (keys was.entries)) h q e ∙ sym (ap (λ b. if b then NL else mode_of was q) e))

-- Whether some child is held to write, found among the listed nodes.

-- one that is listed and passes is found
pub one_found : (f : NodeId → Bool) (q : NodeId) (xs : List NodeId) → f q ≡ true → list_any (same_node q) xs ≡ true → list_any f xs ≡ true
one_found f q [] h k = k
one_found f q (x ∷ xs) h k = or_elim _ _ k (λ here. or_left _ _ (ap f (sym (same_node-equal q x here)) ∙ h))
    (λ there. or_right (f x) _ (one_found f q xs h there))

-- if all that pass a test are in both of two lists, some pass it in one if some do in the other
pub any_alike : (p : NodeId → Bool) (xs ys : List NodeId) → ((c : NodeId) → p c ≡ true → list_any (same_node c) xs ≡ true)
    → ((c : NodeId) → p c ≡ true → list_any (same_node c) ys ≡ true) → list_any p xs ≡ list_any p ys
any_alike p xs ys in_xs in_ys = split (list_any p ys)
    (λ e. let f = any_found p ys e in one_found p f.0 xs f.2 (in_xs f.0 f.2) ∙ sym e)
    (λ e. not_true _ (λ h. let f = any_found p xs h in clash (one_found p f.0 ys f.2 (in_ys f.0 f.2)) e) ∙ sym e)

-- all held nodes are listed, and live
pub writes_listed : (g : Graph) → IsLawfulGraph g → (l : LockList) (n : NodeId) → ((c : NodeId) → not (same_mode (mode_of l c) NL) ≡ true → is_live g c ≡ true)
    → list_any (λ c. is_child g n c && is_at_least (mode_of l c) IX) (keys l.entries) ≡ list_any (λ c. is_child g n c && is_at_least (mode_of l c) IX) (nodes g)
writes_listed g law l n live = any_alike (λ c. is_child g n c && is_at_least (mode_of l c) IX) (keys l.entries) (nodes g) (λ c h. held_listed l c (held c h))
    (λ c h. listed g law c (live c (held c h)))
  where
    held : (c : NodeId) → (is_child g n c && is_at_least (mode_of l c) IX) ≡ true → not (same_mode (mode_of l c) NL) ≡ true
    held c h = write_held (mode_of l c) (and_both (is_child g n c) (is_at_least (mode_of l c) IX) h).1

-- How many children are held, counted among the listed nodes.

-- tests that agree on these nodes count as many
same_count : (p q : NodeId → Bool) (xs : List NodeId) → ((c : NodeId) → list_any (same_node c) xs ≡ true → q c ≡ p c) → count_by q xs ≡ count_by p xs
same_count p q [] same = refl
same_count p q (x ∷ xs) same =
    count_cons q x xs
    ∙ ap₂ (λ b k. cond b 1 0 + k) (same x (or_left _ _ (same_node-from_equal x x refl))) (same_count p q xs (λ c h. same c (or_right (same_node c x) _ h)))
    ∙ sym (count_cons p x xs)

-- the test for all but one node
abbrev but : (NodeId → Bool) → NodeId → NodeId → Bool
but p n c = p c && not (same_node c n)

but_here : (p : NodeId → Bool) (n c : NodeId) → same_node c n ≡ true → but p n c ≡ false
but_here p n c e = ap (λ b. p c && not b) e ∙ and-false (p c)

but_there : (p : NodeId → Bool) (n c : NodeId) → same_node c n ≡ false → but p n c ≡ p c
but_there p n c e = ap (λ b. p c && not b) e ∙ and-true (p c)

-- it counts one less, if the node passes and is in a list that has no node twice
count_but : (p : NodeId → Bool) (n : NodeId) (xs : List NodeId) → are_distinct xs ≡ true → list_any (same_node n) xs ≡ true
    → count_by p xs ≡ count_by (but p n) xs + cond (p n) 1 0
count_but p n [] d h = absurd (clash h refl)
count_but p n (x ∷ xs) d h =
    let t = and_both (not (list_any (same_node x) xs)) (are_distinct xs) d in
    let all : count_by p (x ∷ xs) ≡ cond (p x) 1 0 + count_by p xs = count_cons p x xs in
    let here : count_by (but p n) (x ∷ xs) ≡ cond (but p n x) 1 0 + count_by (but p n) xs = count_cons (but p n) x xs in
    split (same_node n x)
    (λ e.
    let is : n ≡ x = same_node-equal n x e in
    let rest : count_by (but p n) xs ≡ count_by p xs = same_count p (but p n) xs (λ c k. but_there p n c (not_true (same_node c n)
    (λ m. clash t.0 (ap not (ap (λ y. list_any (same_node y) xs) (sym (same_node-equal c n m ∙ is)) ∙ k))))) in
    let none : cond {A = ℕ} (but p n x) 1 0 ≡ 0 = ap (λ b. cond b 1 0) (but_here p n x (same_node-from_equal x n (sym is))) in
    let same : cond {A = ℕ} (p n) 1 0 ≡ cond (p x) 1 0 = ap (λ y. cond (p y) 1 0) is in
    omega arith)
    (λ e.
    let rest : count_by p xs ≡ count_by (but p n) xs + cond (p n) 1 0 = count_but p n xs t.1 (or_elim _ _ h (λ k. absurd (clash k e)) (λ k. k)) in
    let same : cond {A = ℕ} (but p n x) 1 0 ≡ cond (p x) 1 0 = ap (λ b. cond b 1 0) (but_there p n x (same_node-sym x n ∙ e)) in
    omega arith)

-- a test that passes no node counts none
count_empty : (p : NodeId → Bool) (xs : List NodeId) → ((c : NodeId) → p c ≡ false) → count_by p xs ≡ 0
count_empty p [] off = refl
count_empty p (x ∷ xs) off = count_cons p x xs ∙ ap₂ (λ b k. cond b 1 0 + k) (off x) (count_empty p xs off)

-- if all nodes that pass a test are in both of two lists that have no node twice, the test counts as many in each
pub count_both : (p : NodeId → Bool) (xs ys : List NodeId) → are_distinct xs ≡ true → are_distinct ys ≡ true
    → ((c : NodeId) → p c ≡ true → list_any (same_node c) xs ≡ true) → ((c : NodeId) → p c ≡ true → list_any (same_node c) ys ≡ true)
    → count_by p xs ≡ count_by p ys
count_both p [] ys d e in_xs in_ys = sym (count_empty p ys (λ c. not_true (p c) (λ h. clash (in_xs c h) refl)))
count_both p (x ∷ xs) ys d e in_xs in_ys =
    let t = and_both (not (list_any (same_node x) xs)) (are_distinct xs) d in
    let passes : (c : NodeId) → but p x c ≡ true → (p c ≡ true) × (same_node c x ≡ false) = λ c h.
    let b = and_both (p c) (not (same_node c x)) h in (b.0, not-true (same_node c x) b.1) in
    let rest : count_by (but p x) xs ≡ count_by (but p x) ys = count_both (but p x) xs ys t.1 e
    (λ c h. let b = passes c h in or_elim _ _ (in_xs c b.0) (λ k. absurd (clash k b.1)) (λ k. k)) (λ c h. in_ys c (passes c h).0) in
    let own : count_by p (x ∷ xs) ≡ count_by (but p x) (x ∷ xs) + cond (p x) 1 0
    = count_but p x (x ∷ xs) d (or_left _ _ (same_node-from_equal x x refl)) in
    let here : count_by (but p x) (x ∷ xs) ≡ cond (but p x x) 1 0 + count_by (but p x) xs = count_cons (but p x) x xs in
    let none : cond {A = ℕ} (but p x x) 1 0 ≡ 0 = ap (λ b. cond b 1 0) (but_here p x x (same_node-from_equal x x refl)) in
    let other : count_by p ys ≡ count_by (but p x) ys + cond (p x) 1 0 = split (p x) (λ h. count_but p x ys e (in_ys x h))
    (λ h. let same : count_by (but p x) ys ≡ count_by p ys = same_count p (but p x) ys (λ c k. split (same_node c x)
    (λ m. but_here p x c m ∙ sym (ap p (same_node-equal c x m) ∙ h)) (λ m. but_there p x c m)) in
    let off : cond {A = ℕ} (p x) 1 0 ≡ 0 = ap (λ b. cond b 1 0) h in
    omega arith) in
    omega arith

-- a list that has no node twice, as a graph says it
pub once_is : (xs : List NodeId) → IsDistinct same_node xs → are_distinct xs ≡ true
once_is [] d = refl
once_is (x ∷ xs) d =
    both (not (list_any (same_node x) xs)) (are_distinct xs) (ap not (none xs (IsDistinct-head same_node x xs d)))
    (once_is xs (IsDistinct-tail same_node x xs d))
  where
    none : (ys : List NodeId) → AllByRecursion (λ y. same_node x y ≡ false) ys → list_any (same_node x) ys ≡ false
    none [] h = refl
    none (y ∷ ys) h = ap₂ (λ a b. a || b) h.0 (none ys h.1)

-- all held nodes are listed once, and live
pub held_counted : (g : Graph) → IsLawfulGraph g → (l : LockList) (n : NodeId) → IsDistinct same_node (keys l.entries)
    → ((c : NodeId) → not (same_mode (mode_of l c) NL) ≡ true → is_live g c ≡ true)
    → count_by (λ c. is_child g n c && not (same_mode (mode_of l c) NL)) (keys l.entries) ≡ held_below g l n
held_counted g law l n once live =
    count_both (λ c. is_child g n c && not (same_mode (mode_of l c) NL)) (keys l.entries) (nodes g) (once_is (keys l.entries) once)
    (nodes_distinct g)
    (λ c h. held_listed l c (held c h)) (λ c h. listed g law c (live c (held c h)))
  where
    held : (c : NodeId) → (is_child g n c && not (same_mode (mode_of l c) NL)) ≡ true → not (same_mode (mode_of l c) NL) ≡ true
    held c h = (and_both (is_child g n c) (not (same_mode (mode_of l c) NL)) h).1
