-- What each call of the table leaves, why it is refused, and what it answers.
use Rattle.std.specs.Prelude.{ℕ, Bool, not, ◌&&◌, ◌||◌, ◌≡◌, ◌+◌, true, false, ◌==◌, List, [], Option, Some, None, if◌then◌else◌, is_none, ◌∷◌, ◌++◌, is_some}
use Rattle.std.specs.Prelude.{drop, length, max, min, nat_lt, take}
use Rattle.std.specs.Prelude.{IsOk, IfErr, OnErr, OnOk, Result, Ok, Err, ◌⊎◌}
use Rattle.std.specs.List.{list_any, list_all, count_by, filter, find}
use Rattle.gl_modes.specs.declared.node.NodeId.{NodeId}
use Rattle.gl_modes.specs.declared.mode.Mode.TheVariants.{X, NL, S, IX}
use Rattle.gl_modes.specs.Modes.{same_mode, supremum, is_at_least}
use Rattle.gl_modes.specs.declared.mode.Mode.{Mode}
use Rattle.gl_modes.specs.Nodes.{same_node}
use Rattle.gl_modes.specs.declared.refusal.Refusal.{Refusal}
use Rattle.gl_graph.specs.Graph.{is_child, nodes, parents_of, Graph, is_live, shape_of, first_parent, indexes_of, record_parents}
use Rattle.gl_graph.specs.Changes.{rekeyed_parents, without_branch, without_node}
use Rattle.gl_graph.specs.Lawful.{AreInnerParents}
use Rattle.gl_graph.specs.Over.{are_keyed}
use Rattle.gl_graph.specs.Refusals.{bad_bounds, bad_index_place, has_records, is_in_use, max_count, some_no_node, too_many_nodes, where_true, worn_births}
use Rattle.gl_graph.specs.Refusals.{Refuses, first_cycle, first_refusal, record_refusal}
use Rattle.gl_graph.specs.Shapes.{Index, Inner, Shape, is_file_shape, is_index_of_shape, is_movable_shape, is_record_shape, least_parents}
use Rattle.gl_header.specs.Header.{hinders, holds, Waiter, enters, is_among_waiters, is_empty, placed, without_waiter, fits}
use Rattle.gl_header.specs.State.{nobody_holds}
use Rattle.gl_header.specs.declared.header.Asked.{Asked}
use Rattle.gl_waits.specs.declared.victims.Victims.{Victims}
use Rattle.gl_model.specs.State.{State, members, intends_over, is_write, is_waiting_at, pumped, without_wait, Txn, with_grant, with_queue, with_status}
use Rattle.gl_model.specs.State.{with_txn, slots, Settled, lives, status_of}
use Rattle.gl_model.specs.declared.txn.Status.{Status}
use Rattle.gl_model.specs.declared.answers.Detect.{Detect}
use Rattle.gl_model.specs.declared.txn.Status.TheVariants.{Active, Waiting, Condemned}
use Rattle.gl_model.specs.declared.answers.Detect.TheVariants.{AtBlock, ByWatcher}
use Rattle.gl_model.specs.declared.txn.TxnId.{TxnId}
use Rattle.gl_model.specs.declared.answers.Locked.{Locked}
use Rattle.gl_modes.specs.declared.refusal.Refusal.TheVariants as no
use Rattle.gl_header.specs.declared.header.Asked.TheVariants as asked
use Rattle.gl_model.specs.declared.answers.Locked.TheVariants as locked

-- Which children an escalation to a node covers, judged after the node was raised and before any child is released.

-- t holds some child of n
abbrev pub holds_child : State → ℕ → NodeId → Bool
holds_child s t n = list_any (λ c. is_child s.graph n c && holds (members s c) t) (nodes s.graph)

-- c is a child of n that t holds, without a held child, and not in X, or with X on every parent, which then implies it
abbrev pub is_covered : State → ℕ → NodeId → NodeId → Bool
is_covered s t n c =
    is_child s.graph n c && holds (members s c) t && not (holds_child s t c)
    && (not (same_mode (s.held t c) X) || list_all (λ p. same_mode (s.held t p) X) (parents_of s.graph c))

-- how many children of n t holds
abbrev pub held_children : State → ℕ → NodeId → ℕ
held_children s t n = count_by (λ c. is_child s.graph n c && holds (members s c) t) (nodes s.graph)

-- how many of them are covered
abbrev pub covered_children : State → ℕ → NodeId → ℕ
covered_children s t n = count_by (is_covered s t n) (nodes s.graph)

-- What each call of the table leaves, if it is not refused.

-- the wanted mode: the supremum of the held and the requested mode
abbrev pub wanted : State → ℕ → NodeId → Mode → Mode
wanted s t n m = supremum (s.held t n) m

-- the request is granted at once
abbrev pub enters_at : State → ℕ → NodeId → Mode → Bool
enters_at s t n m = enters s.most (members s n) (s.queue n) t (wanted s t n m)

-- the wanted mode is granted
abbrev pub granted : State → ℕ → NodeId → Mode → State
granted s t n m = with_grant s t n (wanted s t n m)

-- one node is released, and its waiters are granted from the front
abbrev pub unlocked : State → ℕ → NodeId → State
unlocked s t n = pumped (with_grant s t n NL) (same_node n)

-- nodes are released one after the other, each while it is held and no child of it is
abbrev pub Unlocks : State → ℕ → List NodeId → State → Type 0
Unlocks s t [] s' = s' ≡ s
Unlocks s t (n ∷ ns) s' = (holds (members s n) t ≡ true) × (holds_child s t n ≡ false) × Unlocks (unlocked s t n) t ns s'

-- t rolled back to a mark: of its nodes in this order it released some, none before the mark, which keep their places; each other kept one has a held child
pub record GoesBack (s : State) (t mark : ℕ) (order ns order' : List NodeId) (s' : State) : Type 0 where
  pub unlocks : Unlocks s t ns s'
  pub fewer : length order' + length ns ≡ length order
  pub before : take mark order' ≡ take mark order
  pub stays : (n : NodeId) → list_any (same_node n) (drop mark order') ≡ true → holds_child s' t n ≡ true

-- t's wait is cancelled, and the node's waiters are granted from the front
abbrev pub cancelled : State → ℕ → State
cancelled s t = pumped (without_wait s t Active) (is_waiting_at s t)

-- the lowest free slot
abbrev pub free_slot : State → Option ℕ
free_slot s = find (λ u. is_none (s.txns u)) (slots s)

-- what an escalation to n requests: X if some child is held to write, else S
abbrev pub asked_by_escalation : State → ℕ → NodeId → Mode
asked_by_escalation s t n = if list_any (λ c. is_child s.graph n c && is_write (s.held t c)) (nodes s.graph) then X else S

-- one more command was accepted
abbrev pub accepted_once : State → State
accepted_once s = record s { accepted = s.accepted + 1 }

-- a transaction begins in this slot, with this age, which is then the greatest that was given, and this `since`
abbrev pub begun_at : State → ℕ → ℕ → ℕ → State
begun_at s t age since = record (with_txn s t (Some (record { age = age; since = since; status = Active }))) { begins = age }

-- a transaction begins in this slot, with the next age and this `since`
abbrev pub begun_since : State → ℕ → ℕ → State
begun_since s t since = begun_at s t (s.begins + 1) since

-- a transaction begins in this slot, for new work
abbrev pub begun : State → ℕ → State
begun s t = begun_since s t (s.begins + 1)

-- a transaction begins in this slot, for work of an earlier begin; its `since` is at most its age
abbrev pub begun_again : State → ℕ → ℕ → State
begun_again s t since = begun_since s t (min since (s.begins + 1))

-- the age of a transaction that joins for work from this number on: the next one, or the number itself if it is greater
abbrev pub joining_age : State → ℕ → ℕ
joining_age s since = max (s.begins + 1) since

-- a transaction joins in this slot, for work that began elsewhere: its `since` is this number, whatever ages were given here
abbrev pub joined : State → ℕ → ℕ → State
joined s t since = begun_at s t (joining_age s since) since

-- t waits on n for m
abbrev pub enqueued : State → ℕ → NodeId → Mode → State
enqueued s t n m = with_status (with_queue s n (placed (members s n) (s.queue n) t m)) t (Waiting n m)

-- everything of t is released, and the waiters of each node that it held or waited on are granted from the front
abbrev pub released : State → ℕ → State
released s t =
    pumped
    (record s {
      held = λ u n. if u == t then NL else s.held u n;
      queue = λ n. without_waiter t (s.queue n);
      txns = λ u. if u == t then None else s.txns u;
    })
    (λ n. holds (members s n) t || is_waiting_at s t n)

-- a wait on one of these nodes ends
abbrev pub none_among : (NodeId → Bool) → Status → Status
none_among goes Active = Active
none_among goes (Waiting q m) = if goes q then Active else Waiting q m
none_among goes Condemned = Condemned

-- the same in a slot
abbrev pub freed_among : (NodeId → Bool) → Option Txn → Option Txn
freed_among goes None = None
freed_among goes (Some x) = Some (record x { status = none_among goes x.status })

-- a wait on this node ends
abbrev pub none_but : Status → NodeId → Status
none_but st n = none_among (λ q. same_node q n) st

-- the same in a slot
abbrev pub freed : NodeId → Option Txn → Option Txn
freed n x = freed_among (λ q. same_node q n) x

-- nobody holds the node, and nobody waits for it
abbrev pub is_idle : State → NodeId → Bool
is_idle s n = nobody_holds s.most (members s n) && is_empty (s.queue n)

-- these nodes are removed with their grants and waits, and their waiters are active again
abbrev pub departed : State → (NodeId → Bool) → Graph → State
departed s goes g =
    record s {
      graph = g;
      held = λ u n. if goes n then NL else s.held u n;
      queue = λ n. if goes n then [] else s.queue n;
      txns = λ u. freed_among goes (s.txns u);
    }

-- the record is removed with its grants and waits
abbrev pub deleted : State → NodeId → State
deleted s r = departed s (λ n. same_node n r) (without_node s.graph r)

-- the node is n or a child of it, and is removed with it
abbrev pub goes_with : Graph → NodeId → NodeId → Bool
goes_with g n q = same_node n q || is_child g n q

-- n is removed with its children, the intervals of an index, and with all grants and waits on them
abbrev pub dropped : State → NodeId → State
dropped s n = departed s (goes_with s.graph n) (without_branch s.graph n)

-- a wait on n still meets the rule of the graph over these parents
abbrev pub stays : State → List NodeId → Waiter → Bool
stays s ps w = intends_over (s.held w.0) ps w.1

-- a transaction that does not keep its wait on n is active again
abbrev pub freed_unless : (ℕ → Bool) → NodeId → ℕ → Option Txn → Option Txn
freed_unless keeps n u x = if keeps u then x else freed n x

-- n moved, in this graph, under these parents: the waits that fail the rule are removed, the others keep their order
abbrev pub moved_to : State → NodeId → List NodeId → Graph → State
moved_to s n ps g =
    record s {
      graph = g;
      queue = λ q. if same_node q n then filter (stays s ps) (s.queue q) else s.queue q;
      txns = λ u. freed_unless (λ v. is_among_waiters v (filter (stays s ps) (s.queue n))) n u (s.txns u);
    }

-- the grant on n is raised by an escalation
abbrev pub raised : State → ℕ → NodeId → State
raised s t n = granted s t n (asked_by_escalation s t n)

-- the children that n covers are released, and their waiters are granted from the front
abbrev pub shed : State → ℕ → NodeId → State
shed s t n = pumped (record s { held = λ u c. if (u == t) && is_covered s t n c then NL else s.held u c }) (is_covered s t n)

-- what a lock that waits leaves: at block, its requester is settled; by watcher, it waits
abbrev pub WaitSettles : Detect → Victims → State → ℕ → State → Type 0
WaitSettles AtBlock c s t s' = Settled c s t s'
WaitSettles ByWatcher c s t s' = s' ≡ s

-- what a lock leaves: it is granted at once, or it waits
pub record Locks (s : State) (t : ℕ) (n : NodeId) (m : Mode) (s' : State) : Type 0 where
  pub at_once : enters_at s t n m ≡ true → s' ≡ granted s t n m
  pub waits : enters_at s t n m ≡ false → WaitSettles s.detect s.victims (enqueued s t n (wanted s t n m)) t s'

-- Why the table refuses: the tests, each by itself, and then the list of each call in its order.

-- no further age can be given
abbrev pub worn_begins : State → Option Refusal
worn_begins s = where_true (s.begins == max_count) no.WornOut

-- the age of a transaction that joins would be too great
abbrev pub worn_join : State → ℕ → Option Refusal
worn_join s since = where_true (nat_lt max_count (joining_age s since)) no.WornOut

-- the name is of no living transaction
abbrev pub no_txn : State → TxnId → Option Refusal
no_txn s t = where_true (not (lives s t)) no.NoSuchTxn

-- the transaction waits
abbrev pub waiting_test : Option Status → Option Refusal
waiting_test (Some (Waiting n m)) = Some no.TxnWaiting
waiting_test o = None

-- the transaction is condemned
abbrev pub condemned_test : Option Status → Option Refusal
condemned_test (Some Condemned) = Some no.TxnCondemned
condemned_test o = None

-- the transaction is active, so there is no wait to cancel
abbrev pub idle_test : Option Status → Option Refusal
idle_test (Some Active) = Some no.NotWaiting
idle_test o = None

-- the node does not live
abbrev pub no_node : State → NodeId → Option Refusal
no_node s n = where_true (not (is_live s.graph n)) no.NoSuchNode

-- the transaction is active, and these nodes live
abbrev pub active_on : State → TxnId → List NodeId → List (Option Refusal)
active_on s t ns = no_txn s t ∷ waiting_test (status_of s t.slot) ∷ condemned_test (status_of s t.slot) ∷ some_no_node s.graph ns ∷ []

-- NL, or a mode that a record cannot have
abbrev pub bad_mode : State → NodeId → Mode → Option Refusal
bad_mode s n m = where_true (same_mode m NL || (is_record_shape (shape_of s.graph n) && not (same_mode m S || same_mode m X))) no.BadMode

-- the first parent that is not held in IX or greater
abbrev pub first_not_ix : (NodeId → Mode) → List NodeId → Option Refusal
first_not_ix held [] = None
first_not_ix held (p ∷ ps) = if is_at_least (held p) IX then first_not_ix held ps else Some (no.NeedParents p)

-- the first parent
abbrev pub first_of_all : List NodeId → Option Refusal
first_of_all [] = None
first_of_all (p ∷ ps) = Some (no.NeedParents p)

-- the rule of the graph fails for a holder of these modes: to write, the first parent not held in IX or greater; to read, the first parent
abbrev pub rule_refusal : (NodeId → Mode) → List NodeId → Mode → Option Refusal
rule_refusal held ps m = if intends_over held ps m then None else (if is_write m then first_not_ix held ps else first_of_all ps)

-- the rule of the graph fails
abbrev pub need_parents : State → ℕ → NodeId → Mode → Option Refusal
need_parents s t n m = rule_refusal (s.held t) (parents_of s.graph n) m

-- the transaction does not hold the node
abbrev pub not_held : State → ℕ → NodeId → Option Refusal
not_held s t n = where_true (not (holds (members s n) t)) no.NotHeld

-- a held child was found
abbrev pub child_held : Option NodeId → Option Refusal
child_held None = None
child_held (Some c) = Some (no.HeldChild c)

-- a child is held: the one of least birth
abbrev pub held_child : State → ℕ → NodeId → Option Refusal
held_child s t n = child_held (find (λ c. is_child s.graph n c && holds (members s c) t) (nodes s.graph))

-- the request cannot be granted at once
abbrev pub would_block : State → ℕ → NodeId → Mode → Option Refusal
would_block s t n m = where_true (not (enters_at s t n m)) no.WouldBlock

-- no slot is free
abbrev pub too_many_txns : State → Option Refusal
too_many_txns s = where_true (list_all (λ t. is_some (s.txns t)) (slots s)) no.TooManyTxns

-- the slot is not free, or is none of those that transactions may have
abbrev pub taken_slot : State → ℕ → Option Refusal
taken_slot s t = where_true (not (nat_lt t s.most && is_none (s.txns t))) no.TooManyTxns

-- X on all of these
abbrev pub holds_x_on_all : State → ℕ → List NodeId → Bool
holds_x_on_all s t ns = list_all (λ p. same_mode (s.held t p) X) ns

-- X on the node
abbrev pub holds_x : State → ℕ → NodeId → Bool
holds_x s t n = same_mode (s.held t n) X

-- a move without X on the node, unless there are old and new parents, all held in X
abbrev pub need_exclusive : State → ℕ → NodeId → Bool → List NodeId → Option Refusal
need_exclusive s t n both_given new =
    where_true (not (holds_x s t n) && not (both_given && holds_x_on_all s t (parents_of s.graph n) && holds_x_on_all s t new)) no.NeedExclusive

-- a move with X on the node, and a new parent not held in IX or greater
abbrev pub need_new_parents : State → ℕ → NodeId → List NodeId → Option Refusal
need_new_parents s t n new = if holds_x s t n then first_not_ix (s.held t) new else None

-- the list is not empty
abbrev pub some_given : {A : Type 0} → List A → Bool
some_given [] = false
some_given (x ∷ xs) = true

-- the raised mode does not fit
abbrev pub escalation_blocks : State → ℕ → NodeId → Option Refusal
escalation_blocks s t n = where_true (not (fits s.most (members s n) t (wanted s t n (asked_by_escalation s t n)))) no.WouldBlock

-- t holds S or greater on n, or something while somebody waits for n
abbrev pub hinders_at : State → ℕ → NodeId → Bool
hinders_at s t n = hinders (members s n) (s.queue n) t

-- t holds more than intentions, or a node for which somebody waits
abbrev pub need_release : State → ℕ → Option Refusal
need_release s t = where_true (list_any (hinders_at s t) (nodes s.graph)) no.NeedRelease

-- begin
abbrev pub begin_tests : State → List (Option Refusal)
begin_tests s = worn_begins s ∷ too_many_txns s ∷ []

-- join
abbrev pub join_tests : State → ℕ → ℕ → List (Option Refusal)
join_tests s t since = worn_join s since ∷ taken_slot s t ∷ []

-- lock
abbrev pub lock_tests : State → TxnId → NodeId → Mode → List (Option Refusal)
lock_tests s t n m = active_on s t (n ∷ []) ++ bad_mode s n m ∷ need_parents s t.slot n (wanted s t.slot n m) ∷ []

-- try
abbrev pub try_tests : State → TxnId → NodeId → Mode → List (Option Refusal)
try_tests s t n m = active_on s t (n ∷ []) ++ bad_mode s n m ∷ need_parents s t.slot n (wanted s t.slot n m) ∷ would_block s t.slot n m ∷ []

-- unlock
abbrev pub unlock_tests : State → TxnId → NodeId → List (Option Refusal)
unlock_tests s t n = active_on s t (n ∷ []) ++ not_held s t.slot n ∷ held_child s t.slot n ∷ []

-- cancel
abbrev pub cancel_tests : State → TxnId → List (Option Refusal)
cancel_tests s t = no_txn s t ∷ condemned_test (status_of s t.slot) ∷ idle_test (status_of s t.slot) ∷ []

-- commit
abbrev pub commit_tests : State → TxnId → List (Option Refusal)
commit_tests s t = no_txn s t ∷ waiting_test (status_of s t.slot) ∷ condemned_test (status_of s t.slot) ∷ []

-- renew
abbrev pub renew_tests : State → TxnId → List (Option Refusal)
renew_tests s t = commit_tests s t ++ need_release s t.slot ∷ worn_begins s ∷ []

-- abort and settle need only a living transaction
abbrev pub living_tests : State → TxnId → List (Option Refusal)
living_tests s t = no_txn s t ∷ []

-- queries of a held or an effective mode
abbrev pub held_tests : State → TxnId → NodeId → List (Option Refusal)
held_tests s t n = no_txn s t ∷ no_node s n ∷ []

-- the nodes that must be held in X to drop a node: it and, for an index, its file
abbrev pub locked_to_drop : NodeId → Option Shape → List NodeId
locked_to_drop n (Some (Index file bounds intervals)) = n ∷ file ∷ []
locked_to_drop n o = n ∷ []

-- why a node in use is not dropped: an inner node has a child, else the file has a record or an index
abbrev pub use_reason : Option Shape → Refusal
use_reason (Some Inner) = no.HasChildren
use_reason o = no.FileInUse

-- drop needs an inner node, a file or an index that is not in use, X on it, and for an index on its file too
abbrev pub drop_tests : State → TxnId → NodeId → List (Option Refusal)
drop_tests s t n =
    active_on s t (n ∷ []) ++ where_true (not (is_movable_shape (shape_of s.graph n))) no.BadParents
    ∷ where_true (not (holds_x_on_all s t.slot (locked_to_drop n (shape_of s.graph n)))) no.NeedExclusive
    ∷ where_true (is_in_use s.graph n) (use_reason (shape_of s.graph n)) ∷ []

-- the nodes that must be held in X to make an index of a file: the file and, if it is made over records, each of its indexes
abbrev pub locked_to_index : Graph → NodeId → List NodeId → List NodeId
locked_to_index g f [] = f ∷ []
locked_to_index g f (r ∷ rs) = f ∷ indexes_of g f

-- an index by a transaction needs X on its file and, over records, on the indexes of the file, IX or greater on its parents, and that it holds no record
abbrev pub index_by_tests : State → TxnId → List NodeId → NodeId → List ℕ → List NodeId → List ℕ → List (Option Refusal)
index_by_tests s t ps f bs rs ks =
    worn_births s.graph ∷ active_on s t (ps ++ f ∷ []) ++ where_true (bad_index_place s.graph ps f) no.BadParents
    ∷ where_true (not (holds_x_on_all s t.slot (locked_to_index s.graph f rs))) no.NeedExclusive ∷ first_not_ix (s.held t.slot) ps
    ∷ where_true ((is_empty rs && has_records s.graph f) || holds_child s t.slot f) no.FileInUse
    ∷ where_true (bad_bounds s.graph bs || not (are_keyed s.graph f rs ks)) no.BadKeys ∷ too_many_nodes s.graph (2 + length bs) ∷ []

-- forget needs a record that nobody holds or waits for
abbrev pub forget_tests : State → NodeId → List (Option Refusal)
forget_tests s r = no_node s r ∷ where_true (not (is_record_shape (shape_of s.graph r))) no.BadParents ∷ where_true (not (is_idle s r)) no.RecordInUse ∷ []

-- the group mode of a node
abbrev pub group_tests : State → NodeId → List (Option Refusal)
group_tests s n = no_node s n ∷ []

-- What calls need of their caller, when the tests were made before.

-- the transaction lives, and neither waits nor is condemned
pub record IsActing (s : State) (t : TxnId) : Type 0 where
  pub lives : lives s t ≡ true
  pub active : status_of s t.slot ≡ Some Active

-- an inner node, a file or an index may get these parents, and the locks of t permit it; a cycle is not tested
pub record CanMove (s : State) (t : ℕ) (n : NodeId) (ps : List NodeId) : Type 0 where
  pub movable : is_movable_shape (shape_of s.graph n) ≡ true
  pub inner : AreInnerParents s.graph (least_parents (shape_of s.graph n)) ps
  pub exclusive : need_exclusive s t n (some_given (parents_of s.graph n) && some_given ps) ps ≡ None
  pub rule : need_new_parents s t n ps ≡ None

-- a record may get this key for this index of its file, and the locks of t permit the parents that it then has
pub record CanRekey (s : State) (t : ℕ) (r i : NodeId) (key : ℕ) : Type 0 where
  pub «record» : is_record_shape (shape_of s.graph r) ≡ true
  pub index : is_index_of_shape (first_parent s.graph r) (shape_of s.graph i) ≡ true
  pub exclusive : need_exclusive s t r true (rekeyed_parents s.graph r i key) ≡ None
  pub parents : need_new_parents s t r (rekeyed_parents s.graph r i key) ≡ None

-- a file may get a record with these keys, one for each of its indexes, and t holds each of its parents in IX or greater
pub record CanPlace (s : State) (t : ℕ) (f : NodeId) (ks : List ℕ) : Type 0 where
  pub file : is_file_shape (shape_of s.graph f) ≡ true
  pub keys : length ks ≡ length (indexes_of s.graph f)
  pub parents : first_not_ix (s.held t) (record_parents s.graph f ks) ≡ None

-- nothing but memory can refuse a record of the file with these keys, and these are its parents
pub record CanTakeRecord (g : Graph) (f : NodeId) (ks : List ℕ) (ps : List NodeId) : Type 0 where
  pub free : record_refusal g f ks ≡ None
  pub parents : ps ≡ record_parents g f ks

-- What calls answer.

-- the answer of a call that allocates no memory: the value, if no test refuses
abbrev pub answered : {A : Type 0} → Option Refusal → A → Result A Refusal
answered None x = Ok x
answered (Some r) x = Err r

-- the outcome of a request: the wanted mode is granted at once, or it waits
abbrev pub asked_at : State → ℕ → NodeId → Mode → Asked
asked_at s t n m = if enters_at s t n m then asked.Granted (wanted s t n m) else asked.Waiting

-- a call answers this refusal; if there is none, it succeeds
abbrev pub RefusesOnly : {A : Type 0} → Option Refusal → Result A Refusal → Type 0
RefusesOnly (Some r) result = result ≡ Err r
RefusesOnly None result = IsOk result

-- the outcome of a lock, by the held mode and the requester's status at the end
abbrev pub locked_as : Mode → Option Status → Locked
locked_as held (Some (Waiting n m)) = locked.Waiting
locked_as held (Some Condemned) = locked.Victim
locked_as held o = locked.Granted held

-- a lock is refused by its tests, else for memory alone, and never if it is a conversion granted at once
pub record RefusesLock {A : Type 0} (s : State) (t : TxnId) (n : NodeId) (m : Mode) (result : Result A Refusal) : Type 0 where
  pub refuses : Refuses (first_refusal (lock_tests s t n m)) result
  pub held : first_refusal (lock_tests s t n m) ≡ None → enters_at s t.slot n m ≡ true → holds (members s n) t.slot ≡ true → IsOk result

-- a move succeeds only if it closes no cycle, and is refused for the first parent that would close one, or for memory
pub record RefusesCycle {A : Type 0} (g : Graph) (n : NodeId) (parents : List NodeId) (result : Result A Refusal) : Type 0 where
  pub clear : OnOk result (first_cycle g n parents ≡ None)
  pub refused : IfErr result (λ r. (r ≡ no.NoMemory) ⊎ (first_cycle g n parents ≡ Some r))

-- a call is refused for memory alone, and then nothing changes
pub record RefusesForMemory {A V : Type 0} (result : Result A Refusal) (table table' : V) : Type 0 where
  pub memory : IfErr result (λ r. r ≡ no.NoMemory)
  pub err : OnErr result (table' ≡ table)

-- nothing changes, and nobody is told
pub record KeepsAll {V L : Type 0} (table table' : V) (list list' : L) : Type 0 where
  pub untold : list' ≡ list
  pub err : table' ≡ table
