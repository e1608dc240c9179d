-- Commands that change the graph: each keeps a transaction that it does not name, if the states before and after are lawful.
use Rattle.gl_steps.proofs.Words.{◌&&◌, ◌+◌, ◌<◌, ◌==◌, [], ◌∙◌, ◌∷◌, ◌≡◌, ◌≢◌, ◌⊎◌, accepted_once, and_both, ap, ap₂, arith, Bool, born_index, born_node}
use Rattle.gl_steps.proofs.Words.{born_nodes, clash, deleted, EffX, false, File, filter, freed, freed_unless, fun_ext, Graph, holds_x, if◌then◌else◌}
use Rattle.gl_steps.proofs.Words.{inl, Inner, inr, interval_nodes, is_among_waiters, is_live, is_movable_shape, is_read, is_record_shape, is_some, IsLawful}
use Rattle.gl_steps.proofs.Words.{IsRoute, List, list_all, list_any, live_by, lives, moved_to, nat_tests, new_index, NL, no_parents, Node, node_at, NodeId}
use Rattle.gl_steps.proofs.Words.{Option, parents_in, parents_of, ReadOn, Rec, refl, rekeyed, rekeyed_node, rekeyed_parents, reparented, same_mode, same_node}
use Rattle.gl_steps.proofs.Words.{same_node-equal, SameGrants, shape_in, shape_of, Some, some_given, split, State, stays, subst, sym, Told, true, true≢false}
use Rattle.gl_steps.proofs.Words.{None, not, Txn, TxnId, with_grant, with_graph, with_key, with_parents, X, ℕ}
use Rattle.gl_graph.specs.Changes.{rekeyed_keys}
use Rattle.gl_steps.proofs.OtherChanges.{with_grant_same}
use Rattle.gl_steps.proofs.Made.{made, next_id}
use Rattle.gl_steps.proofs.Keeps.{Keeps, keeps_graph}
use Rattle.gl_steps.proofs.KeptKinds.{KeepsKind, kind_rekeyed, kind_reparented}
use Rattle.gl_steps.proofs.NotRefused.{given_some, OnParents, record_has_parents}
use Rattle.gl_steps.proofs.GraphChanges.{beside_x, born_births, born_kinds, born_old, born_step, born_step_records, changed_at, changed_births, changed_here}
use Rattle.gl_steps.proofs.GraphChanges.{changed_kinds, changed_old, changed_step, gone_keeps, is_new, KeepsKey, no_records, quiet_under, rekeyed_keeps}
use Rattle.gl_steps.proofs.GraphChanges.{rekeyed_parents_in, reparented_keeps, reparented_parents_in, unborn_shape, x_here, x_on_parents}

freed_lives : (n : NodeId) (age : ℕ) (x : Option Txn) → live_by age (freed n x) ≡ live_by age x
freed_lives n age None = refl
freed_lives n age (Some x) = refl

freed_unless_lives : (keeps : ℕ → Bool) (n : NodeId) (u age : ℕ) (x : Option Txn) → live_by age (freed_unless keeps n u x) ≡ live_by age x
freed_unless_lives keeps n u age x = by (keeps u)
  where
    by : (b : Bool) → live_by age (if b then x else freed n x) ≡ live_by age x
    by true = refl
    by false = freed_lives n age x

pub has_parents_lives : (o : Option Node) → not (no_parents (parents_in o)) ≡ true → is_some o ≡ true
has_parents_lives None h = h
has_parents_lives (Some n) h = refl

plain_intervals : (index : NodeId) (keys : List ℕ) → no_records (interval_nodes index keys) ≡ true
plain_intervals index [] = refl
plain_intervals index (k ∷ ks) = plain_intervals index ks

abbrev pub new_record : ℕ → List ℕ → List NodeId → Node
new_record key keys ps = record { key = key; shape = Rec keys; parents = ps }

-- the grants of t if a node on which another holds X is removed, a node gets other parents, or nodes are made
pub deleted_same : (s : State) → IsLawful s → (u t : ℕ) (x : NodeId) → u ≢ t → same_mode (s.held u x) X ≡ true → SameGrants s (deleted s x) t
deleted_same s law u t x ne holds q =
    let nothing = beside_x (s.held u x) (s.held t x) holds (law.compatible u t x ne) in
    split (same_node q x) (λ e. ap (λ b. if b then NL else s.held t q) e ∙ sym (ap (s.held t) (same_node-equal q x e) ∙ nothing))
    (λ e. ap (λ b. if b then NL else s.held t q) e)

module _ (s : State) (law : IsLawful s) (t : TxnId) (alive : lives s t ≡ true) (next : State) (law' : IsLawful (accepted_once next)) (told' : Told) where
  abbrev Kept : Type 0
  Kept = Keeps s (accepted_once next) t told' false

  -- new nodes, none a record
  made_keeps : (ns : List Node) → next.graph ≡ born_nodes s.graph ns → no_records ns ≡ true → next.txns t.slot ≡ s.txns t.slot → SameGrants s next t.slot → Kept
  made_keeps ns is plain txn same =
      keeps_graph s (accepted_once next) t told' (is_new s.graph) law law' (ap (live_by t.age) txn ∙ alive)
      (born_births s (accepted_once next) law ns is) (born_old s (accepted_once next) law ns is)
      (born_kinds s (accepted_once next) law ns is) same
      (born_step s (accepted_once next) law ns is t.slot plain)

  pub inner_keeps : (key : ℕ) (ps : List NodeId) → next ≡ made s (record { key = key; shape = Inner; parents = ps }) → Kept
  inner_keeps key ps is = made_keeps (record { key = key; shape = Inner; parents = ps } ∷ []) (ap (λ x. x.graph) is) refl
      (ap (λ x. x.txns t.slot) is) (λ q. ap (λ x. x.held t.slot q) is)

  pub file_keeps : (key : ℕ) (ps : List NodeId) → next ≡ made s (record { key = key; shape = File false; parents = ps }) → Kept
  file_keeps key ps is = made_keeps (record { key = key; shape = File false; parents = ps } ∷ []) (ap (λ x. x.graph) is) refl
      (ap (λ x. x.txns t.slot) is) (λ q. ap (λ x. x.held t.slot q) is)

  pub index_keeps : (key : ℕ) (ps : List NodeId) (f : NodeId) (bs keys : List ℕ) → next ≡ with_graph s (born_index s.graph key ps f bs keys) → Kept
  index_keeps key ps f bs keys is =
      made_keeps (new_index (next_id s key) ps f bs keys ∷ interval_nodes (next_id s key) keys) (ap (λ x. x.graph) is)
      (plain_intervals (next_id s key) keys) (ap (λ x. x.txns t.slot) is)
      (λ q. ap (λ x. x.held t.slot q) is)

  -- a new record, which another holds in X
  pub insert_keeps : (u key : ℕ) (keys : List ℕ) (ps : List NodeId) → u ≢ t.slot
      → next ≡ with_grant (made s (new_record key keys ps)) u (next_id s key) X → Kept
  insert_keeps u key keys ps ne is =
      keeps_graph s (accepted_once next) t told' (is_new s.graph) law law' (ap (λ x. live_by t.age (x.txns t.slot)) is ∙ alive)
      (born_births s (accepted_once next) law (new_record key keys ps ∷ []) graph) (born_old s (accepted_once next) law (new_record key keys ps ∷ []) graph)
      (born_kinds s (accepted_once next) law (new_record key keys ps ∷ []) graph) same
      (born_step_records s (accepted_once next) law (new_record key keys ps ∷ []) graph t.slot
      (λ c new rec r. out c new rec (subst (λ h. ReadOn next.graph h c) (sym (fun_ext same)) r)))
    where
      graph : next.graph ≡ born_nodes s.graph (new_record key keys ps ∷ [])
      graph = ap (λ x. x.graph) is

      same : SameGrants s next t.slot
      same q = ap (λ x. x.held t.slot q) is ∙ with_grant_same (made s (new_record key keys ps)) u t.slot (next_id s key) X ne q

      out : (c : NodeId) → s.graph.births < c.birth → is_record_shape (shape_of next.graph c) ≡ true → ReadOn next.graph (next.held t.slot) c → ⊥
      out c new rec r =
          let at : is_record_shape (shape_of (born_node s.graph (new_record key keys ps)) c) ≡ true =
          ap (λ g. is_record_shape (shape_of g c)) (sym graph) ∙ rec in
          split (c.birth == s.graph.births + 1)
          (λ e. split (key == c.key)
          (λ k.
          let itself : (u == u) ≡ true = grind (arith, nat_tests) in
          let id : same_node c (next_id s key) ≡ true = grind (arith, nat_tests) in
          let held : next.held u c ≡ X = ap (λ y. y.held u c) is ∙ ap₂ (λ a b. if a && b then X else s.held u c) itself id in
          quiet_under (accepted_once next) law' u t.slot ne c (x_here (accepted_once next) u c (ap (λ m. same_mode m X) held)) r)
          (λ k. true≢false (sym at ∙ ap (λ b. is_record_shape (shape_in (with_key c.key (if b then Some (new_record key keys ps) else s.graph.at c.birth)))) e
          ∙ ap (λ b. is_record_shape (shape_in (if b then Some (new_record key keys ps) else None))) k)))
          (λ e. true≢false (sym at ∙ ap
          (λ b. is_record_shape (shape_in (with_key c.key (if b then Some (new_record key keys ps) else s.graph.at c.birth)))) e
          ∙ unborn_shape s.graph law.graph c new))

  -- a node removed, which another holds in X
  pub delete_keeps : (u : ℕ) (x : NodeId) → u ≢ t.slot → is_live s.graph x ≡ true → same_mode (s.held u x) X ≡ true → next ≡ deleted s x → Kept
  delete_keeps u x ne live holds is =
      keeps_graph s (accepted_once next) t told' (λ c. same_node c x) law law'
      (ap (λ y. live_by t.age (y.txns t.slot)) is ∙ freed_lives x t.age (s.txns t.slot) ∙ alive)
      (changed_births s (accepted_once next) law x (λ o. None) gone_keeps live graph)
      (changed_old s (accepted_once next) law x (λ o. None) gone_keeps live graph)
      (changed_kinds s (accepted_once next) law x (λ o. None) gone_keeps live graph (λ stands. clash stands (ap is_some absent))) same
      (changed_step s (accepted_once next) law x (λ o. None) gone_keeps live graph t.slot (quiet_under s law u t.slot ne x (x_here s u x holds)) gone)
    where
      graph : next.graph ≡ changed_at s.graph x (λ o. None)
      graph = ap (λ y. y.graph) is

      nothing : s.held t.slot x ≡ NL
      nothing = beside_x (s.held u x) (s.held t.slot x) holds (law.compatible u t.slot x ne)

      same : SameGrants s next t.slot
      same q = ap (λ y. y.held t.slot q) is ∙ deleted_same s law u t.slot x ne holds q

      absent : node_at next.graph x ≡ None
      absent = ap (λ g. node_at g x) graph ∙ changed_here s.graph x (λ o. None)

      unread : (m : NodeId) (path : List NodeId) → IsRoute next.graph x path m → is_read (s.held t.slot m) ≡ true → ⊥
      unread m [] route read = true≢false (sym read ∙ ap (λ y. is_read (s.held t.slot y)) (sym route) ∙ ap is_read nothing)
      unread m (p ∷ path) route read = true≢false (sym route.0 ∙ ap (λ o. list_any (same_node p) (parents_in o)) absent)

      gone : ReadOn next.graph (s.held t.slot) x → ⊥
      gone r = unread r.0 r.1 r.2 r.3

  -- a node with other parents, on which another has effective X before and after
  changed_keeps : (u : ℕ) (x : NodeId) (f : Option Node → Option Node) → KeepsKey f → u ≢ t.slot → is_live s.graph x ≡ true
      → next.graph ≡ changed_at s.graph x f → live_by t.age (next.txns t.slot) ≡ true
      → KeepsKind (node_at s.graph x) (with_key x.key (f (s.graph.at x.birth))) → SameGrants s next t.slot → EffX s u x → EffX (accepted_once next) u x → Kept
  changed_keeps u x f keeps ne live graph lives' kind same before after =
      keeps_graph s (accepted_once next) t told' (λ c. same_node c x) law law' lives'
      (changed_births s (accepted_once next) law x f keeps live graph) (changed_old s (accepted_once next) law x f keeps live graph)
      (changed_kinds s (accepted_once next) law x f keeps live graph
      (λ _. subst (KeepsKind (node_at s.graph x)) (sym (ap (λ y. node_at y x) graph ∙ changed_here s.graph x f)) kind)) same
      (changed_step s (accepted_once next) law x f keeps live graph t.slot (quiet_under s law u t.slot ne x before)
      (λ r. quiet_under (accepted_once next) law' u t.slot ne x after (subst (λ h. ReadOn next.graph h x) (sym (fun_ext same)) r)))

  -- the mover holds X on the node, or on all its parents before and after
  moved_keeps : (u : ℕ) (x : NodeId) (given : Bool) (ps : List NodeId) (f : Option Node → Option Node) (g : Graph) → KeepsKey f → u ≢ t.slot
      → is_live s.graph x ≡ true → g ≡ changed_at s.graph x f → next ≡ moved_to s x ps g
      → parents_in (with_key x.key (f (s.graph.at x.birth))) ≡ ps → (given ≡ true → not (no_parents (parents_of s.graph x)) ≡ true)
      → (given ≡ true → not (no_parents ps) ≡ true)
      → KeepsKind (node_at s.graph x) (with_key x.key (f (s.graph.at x.birth))) → (holds_x s u x ≡ true) ⊎ OnParents s u x given ps → Kept
  moved_keeps u x given ps f g keeps ne live made is parents some some' kind x_held =
      changed_keeps u x f keeps ne live graph
      (ap (λ y. live_by t.age (y.txns t.slot)) is
      ∙ freed_unless_lives (λ v. is_among_waiters v (filter (stays s ps) (s.queue x))) x t.slot t.age (s.txns t.slot) ∙ alive)
      kind (λ q. ap (λ y. y.held t.slot q) is) (before x_held) (after x_held)
    where
      graph : next.graph ≡ changed_at s.graph x f
      graph = ap (λ y. y.graph) is ∙ made

      new_parents : parents_of next.graph x ≡ ps
      new_parents = ap (λ y. parents_of y x) graph ∙ ap parents_in (changed_here s.graph x f) ∙ parents

      before : (holds_x s u x ≡ true) ⊎ OnParents s u x given ps → EffX s u x
      before (inl holds) = x_here s u x holds
      before (inr all) = x_on_parents s law u x live (some all.both) all.old

      after : (holds_x s u x ≡ true) ⊎ OnParents s u x given ps → EffX (accepted_once next) u x
      after (inl holds) = x_here (accepted_once next) u x (ap (λ y. same_mode (y.held u x) X) is ∙ holds)
      after (inr all) =
          x_on_parents (accepted_once next) law' u x
          (has_parents_lives (node_at next.graph x) (ap (λ qs. not (no_parents qs)) new_parents ∙ some' all.both))
          (ap (λ qs. not (no_parents qs)) new_parents ∙ some' all.both)
          (ap (list_all (λ p. same_mode (next.held u p) X)) new_parents ∙ ap (λ h. list_all (λ p. same_mode (h p) X) ps) (ap (λ y. y.held u) is) ∙ all.next)

  pub rekey_keeps : (u : ℕ) (r i : NodeId) (key : ℕ) → u ≢ t.slot → is_live s.graph r ≡ true → is_record_shape (shape_of s.graph r) ≡ true
      → (holds_x s u r ≡ true) ⊎ OnParents s u r true (rekeyed_parents s.graph r i key)
      → next ≡ moved_to s r (rekeyed_parents s.graph r i key) (rekeyed s.graph r i key) → Kept
  rekey_keeps u r i key ne live rec x_held is =
      moved_keeps u r true (rekeyed_parents s.graph r i key) (rekeyed_node (rekeyed_keys s.graph r i key) (rekeyed_parents s.graph r i key))
      (rekeyed s.graph r i key) (rekeyed_keeps _ _) ne live refl is
      (rekeyed_parents_in _ _ r.key (s.graph.at r.birth) live) (λ _. record_has_parents s.graph law.graph r rec) (λ _. refl)
      (kind_rekeyed (rekeyed_keys s.graph r i key) (rekeyed_parents s.graph r i key) r.key (s.graph.at r.birth) rec refl) x_held

  pub move_keeps : (u : ℕ) (x : NodeId) (ps : List NodeId) → u ≢ t.slot → is_live s.graph x ≡ true → is_movable_shape (shape_of s.graph x) ≡ true
      → (holds_x s u x ≡ true) ⊎ OnParents s u x (some_given (parents_of s.graph x) && some_given ps) ps
      → next ≡ moved_to s x ps (with_parents s.graph x ps) → Kept
  move_keeps u x ps ne live movable x_held is =
      moved_keeps u x (some_given (parents_of s.graph x) && some_given ps) ps (reparented ps) (with_parents s.graph x ps) (reparented_keeps ps) ne live refl is
      (reparented_parents_in ps x.key (s.graph.at x.birth) live) (λ both. given_some _ (and_both _ _ both).0) (λ both. given_some _ (and_both _ _ both).1)
      (kind_reparented ps x.key (s.graph.at x.birth) movable) x_held
