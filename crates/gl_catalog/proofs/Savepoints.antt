-- What a savepoint keeps, over a run and over the rollback. For the law of savepoints.
use Rattle.std.specs.Prelude.{◌≡◌, ◌≤◌, ℕ, zero, suc, true, false, not, ◌||◌, List, [], ◌∷◌, drop, get_or, is_some, length, slice_get, take, None, Some}
use Rattle.std.specs.List.{AllByRecursion, IsDistinct, list_any}
use Rattle.std.specs.Map.{keys_of, lookup}
use Rattle.std.specs.Option.{option_map_or}
use Rattle.std.proofs.Common.{refl, subst, sym, ap, ◌∙◌, arith}
use Rattle.std.proofs.Math.Bool.{or-false}
use Rattle.std.proofs.lemmas.List.{length-take, take-append-drop, take_all}
use Rattle.std.proofs.lemmas.List.Folds.{list_any-append}
use Rattle.std.proofs.lemmas.Map.Keys.{IsDistinct-cons}
use Rattle.std.proofs.lemmas.Map.Made.{is_some-lookup, length-le_from_is_member}
use Rattle.gl_modes.proofs.NodeLemmas.{same_node-equal}
use Rattle.gl_modes.proofs.Words.{clash, or_elim, or_left, split}
use Rattle.gl_modes.specs.declared.mode.Mode.TheVariants.{NL}
use Rattle.gl_modes.specs.declared.node.NodeId.{NodeId}
use Rattle.gl_modes.specs.Modes.{same_mode}
use Rattle.gl_modes.specs.Nodes.{same_node}
use Rattle.gl_graph.proofs.RouteLengths.{node_equivalence}
use Rattle.gl_graph.proofs.Unrefused.{or_no}
use Rattle.gl_header.specs.Header.{holds}
use Rattle.gl_model.specs.declared.txn.Status.TheVariants.{Active}
use Rattle.gl_model.specs.Calls.{Unlocks, unlocked}
use Rattle.gl_model.specs.Lawful.{IsOrderly}
use Rattle.gl_model.specs.State.{State, is_wait, is_waiting_at, members, status_of, waits_at}
use Rattle.gl_model.proofs.law.Orderly.{lawful_orderly}
use Rattle.gl_model.proofs.queues.Waiters.{if-false, if-true}
use Rattle.gl_model.proofs.telling.Fronts.{in_no_queue, orderly_unlocked}
use Rattle.gl_model.proofs.telling.Unlocks.{active_stays}
use Rattle.gl_steps.proofs.Counting.{lawful_counting}
use Rattle.gl_table.proofs.inside.Released.{unlocked_own}
use Rattle.gl_table.specs.Table.{nodes_of, state_of as table_state}
use Rattle.gl_catalog.specs.Manager.{IsLawfulManager, ManagerView, state_of}
use Rattle.gl_catalog.specs.Savepoints.{RollbackKeeps, StaysBefore, has_lock, is_before, last_of}
use Rattle.gl_model.specs.declared.txn.TxnId.{TxnId}
use Rattle.gl_catalog.specs.Counters.{refuses}
use Rattle.gl_catalog.specs.Paths.{Ask, IsPath, reaching}
use Rattle.gl_catalog.specs.Replies.{Says, said}
use Rattle.gl_catalog.specs.Savepoints.{InOrder, PathsInOrder, RollbackReleases, count_since}
use Rattle.gl_modes.proofs.ModeLemmas.{at_least-refl, at_least-transitive}
use Rattle.gl_modes.specs.Modes.{is_at_least}
use Rattle.gl_catalog.specs.Savepoints.{ModesOnlyRise, RollbackKeepsModes}
use Rattle.gl_catalog.proofs.GoingBack.{may_go_back}

-- call by call
pub stays_before : StaysBefore
stays_before m [] t mark n kept here along = here
stays_before m (x ∷ xs) t mark n kept here along = stays_before x xs t mark n kept.1 ((kept.0.each t).first mark n here along.0) along.1

-- what is among the first of a list is in it
among_first : (mark : ℕ) (ks : List NodeId) (n : NodeId) → list_any (same_node n) (take mark ks) ≡ true → list_any (same_node n) ks ≡ true
among_first mark ks n h =
    ap (list_any (same_node n)) (sym (take-append-drop mark ks)) ∙ list_any-append (same_node n) (take mark ks) (drop mark ks)
    ∙ or_left (list_any (same_node n) (take mark ks)) (list_any (same_node n) (drop mark ks)) h

-- t unlocks nodes: one that it holds at the end it held before, in the same mode
unlocks_leave_mode : (ns : List NodeId) (s s' : State) (t : ℕ) → IsOrderly s → status_of s t ≡ Some Active → Unlocks s t ns s' → (n : NodeId)
    → holds (members s' n) t ≡ true → s'.held t n ≡ s.held t n
unlocks_leave_mode [] s s' t o active h n held = ap (λ (x : State). x.held t n) h
unlocks_leave_mode (q ∷ ns) s s' t o active h n held =
    let rest = unlocks_leave_mode ns (unlocked s t q) s' t (orderly_unlocked s o t q) (active_stays s o t q active) h.2 n held in
    let own = unlocked_own s t q (in_no_queue s o t (ap is_wait active)) n in
    rest ∙ own ∙ split (same_node n q) (λ e. clash held (ap (λ m. not (same_mode m NL)) (rest ∙ own ∙ if-true _ e))) (λ e. if-false _ e)

-- and it is active at the end, whatever it holds
unlocks_stay : (ns : List NodeId) (s s' : State) (t : ℕ) → IsOrderly s → status_of s t ≡ Some Active → Unlocks s t ns s' → status_of s' t ≡ Some Active
unlocks_stay [] s s' t o active h = ap (λ (x : State). status_of x t) h ∙ active
unlocks_stay (q ∷ ns) s s' t o active h = unlocks_stay ns (unlocked s t q) s' t (orderly_unlocked s o t q) (active_stays s o t q active) h.2

-- the order of a slot has what its list has
order_has : {X : Type 0} (ls : List (List (NodeId × X))) (t : ℕ) (n : NodeId)
    → list_any (same_node n) (keys_of (get_or ls t [])) ≡ is_some (option_map_or (λ es. lookup (same_node n) es) (slice_get ls t) None)
order_has [] t n = refl
order_has (es ∷ ls) zero n = sym (is_some-lookup (same_node n) es)
order_has (es ∷ ls) (suc t) n = order_has ls t n

-- an active slot holds what its list has
listed_held : (m : ManagerView) (t : ℕ) (n : NodeId) → IsLawfulManager m → status_of (table_state m.table) t ≡ Some Active → has_lock m t n ≡ true
    → holds (members (table_state m.table) n) t ≡ true
listed_held m t n law active h =
    let quiet : is_waiting_at (table_state m.table) t n ≡ false = ap (λ o. waits_at o n) active in
    sym (or-false (holds (members (table_state m.table) n) t)) ∙ ap (λ b. holds (members (table_state m.table) n) t || b) (sym quiet)
    ∙ sym (law.lists.listed t n) ∙ sym (order_has m.table.lists t n) ∙ h

pub rollback_keeps : RollbackKeeps
rollback_keeps m ms t n k told m' kept here along law law' back =
    let last : ManagerView = last_of m ms in
    let s : State = table_state last.table in
    let mark : ℕ = length (nodes_of m.table t.slot) in
    let before : is_before last t.slot mark n ≡ true = stays_before m ms t.slot mark n kept
    (ap (list_any (same_node n)) (take_all mark (nodes_of m.table t.slot) (omega arith)) ∙ here) along in
    let there : has_lock m' t.slot n ≡ true = among_first mark (nodes_of m'.table t.slot) n (ap (list_any (same_node n)) back.back.before ∙ before) in
    let orderly : IsOrderly s = lawful_orderly s (lawful_counting 0 (state_of last) law.lawful) in
    let active = (may_go_back last t (count_since last t.slot mark) back.tests).acting.active in
    let awake = unlocks_stay back.nodes s (table_state m'.table) t.slot orderly active back.back.unlocks in
    (there, unlocks_leave_mode back.nodes s (table_state m'.table) t.slot orderly active back.back.unlocks n (listed_held m' t.slot n law' awake there))

-- What a rollback releases.

-- of different nodes, one that is none of these is different from each
apart_from : (n : NodeId) (ks : List NodeId) → list_any (same_node n) ks ≡ false → AllByRecursion (λ y. same_node n y ≡ false) ks
apart_from n [] h = tt
apart_from n (k ∷ ks) h = let out = or_no (same_node n k) (list_any (same_node n) ks) h in (out.0, apart_from n ks out.1)

-- if different nodes are all in a list that is no longer, all of the list are among them
none_else : (ks ls : List NodeId) (n : NodeId) → IsDistinct same_node ks → ((q : NodeId) → list_any (same_node q) ks ≡ true → list_any (same_node q) ls ≡ true)
    → length ls ≤ length ks → list_any (same_node n) ls ≡ true → list_any (same_node n) ks ≡ true
none_else ks ls n once all short there = split (list_any (same_node n) ks) (λ e. e)
    (λ e. let more = length-le_from_is_member node_equivalence (n ∷ ks) ls (IsDistinct-cons same_node n ks (apart_from n ks e) once)
    (λ q h. or_elim (same_node q n) (list_any (same_node q) ks) h
    (λ same. ap (λ x. list_any (same_node x) ls) (same_node-equal q n same) ∙ there) (all q)) in
    absurd (omega (arith, more, short)))

-- no node is twice in an order
order_distinct : {X : Type 0} (ls : List (List (NodeId × X))) (t : ℕ)
    → ((u : ℕ) (es : List (NodeId × X)) → slice_get ls u ≡ Some es → IsDistinct same_node (keys_of es)) → IsDistinct same_node (keys_of (get_or ls t []))
unfolding IsDistinct
order_distinct [] t once = tt
order_distinct (es ∷ ls) zero once = once 0 es refl
order_distinct (es ∷ ls) (suc t) once = order_distinct ls t (λ u xs h. once (suc u) xs h)

-- what is in a list and not among its first is after them
not_first : (mark : ℕ) (ks : List NodeId) (n : NodeId) → list_any (same_node n) ks ≡ true → list_any (same_node n) (take mark ks) ≡ false
    → list_any (same_node n) (drop mark ks) ≡ true
not_first mark ks n h off =
    sym (ap (λ b. b || list_any (same_node n) (drop mark ks)) off) ∙ sym (list_any-append (same_node n) (take mark ks) (drop mark ks))
    ∙ ap (list_any (same_node n)) (take-append-drop mark ks) ∙ h

pub rollback_releases : RollbackReleases
rollback_releases m ms t n k told m' kept law all back absent there =
    let last : ManagerView = last_of m ms in
    let order : List NodeId = nodes_of m.table t.slot in
    let first : List NodeId = take (length order) (nodes_of last.table t.slot) in
    let short = length-take (length order) (nodes_of last.table t.slot) in
    let among = none_else order first n (order_distinct m.table.lists t.slot law.unique.lists)
    (λ q h. stays_before m ms t.slot (length order) q kept
    (ap (list_any (same_node q)) (take_all (length order) order (omega arith)) ∙ h) (all q h)) (omega (arith, short)) in
    back.back.stays n (not_first (length order) (nodes_of m'.table t.slot) n there
    (split (list_any (same_node n) (take (length order) (nodes_of m'.table t.slot)))
    (λ e. absurd (clash (among (sym (ap (list_any (same_node n)) back.back.before) ∙ e)) absent)) (λ e. e)))

-- A path.

path_in_order : (k : ℕ) (t : TxnId) (ask : Ask) (m : ManagerView) (last : Ask) (r : Says) (m' : ManagerView) → IsPath k t ask m last r m'
    → (ms : List ManagerView) × InOrder m ms × (last_of m ms ≡ m')
path_in_order zero t ask m last r m' path = split (refuses r.0)
    (λ e. ([], tt, sym (path.0.unchanged e)))
    (λ e. (m' ∷ [], ((path.0.completes e).orders, tt), refl))
path_in_order (suc k) t ask m last r m' path =
    let rest = path_in_order k t ask path.2 last r m' path.5 in
    split (refuses path.1.0)
    (λ e. subst (λ (x : ManagerView). (ms : List ManagerView) × InOrder x ms × (last_of x ms ≡ m')) (path.3.unchanged e) rest)
    (λ e. (path.2 ∷ rest.0, ((path.3.completes e).orders, rest.1), rest.2))

pub paths_in_order : PathsInOrder
paths_in_order t ask m told result m' path = path_in_order path.0 t ask m path.1 (said (reaching told) result) m' path.2

-- Modes.

pub modes_only_rise : ModesOnlyRise
modes_only_rise m [] t n kept along = at_least-refl ((state_of m).held t n)
modes_only_rise m (x ∷ xs) t n kept along =
    at_least-transitive ((state_of (last_of x xs)).held t n) ((state_of x).held t n) ((state_of m).held t n)
    (modes_only_rise x xs t n kept.1 along.1) (kept.0.no_less t n along.0)

pub rollback_keeps_modes : RollbackKeepsModes
rollback_keeps_modes m ms t n k told m' kept modes here along holding law law' back =
    ap (λ x. is_at_least x ((state_of m).held t.slot n)) (rollback_keeps m ms t n k told m' kept here along law law' back).1
    ∙ modes_only_rise m ms t.slot n modes holding
