-- What a step of the ledger needs, and what it leaves.
use Rattle.std.specs.Prelude.{◌≡◌, ◌≢◌, ◌&&◌, ◌==◌, ◌+◌, ◌<◌, ◌≤◌, ◌^◌, Bool, ℕ, true, false, List, [], Some, None, length, not, if◌then◌else◌}
use Rattle.std.specs.List.{count_by, filter, list_all}
use Rattle.gl_modes.specs.Nodes.{same_node}
use Rattle.gl_modes.specs.declared.mode.Mode.{Mode}
use Rattle.gl_modes.specs.declared.mode.Mode.TheVariants.{NL}
use Rattle.gl_modes.specs.declared.node.NodeId.{NodeId}
use Rattle.gl_graph.specs.Graph.{is_child, is_live, parents_of, shape_of}
use Rattle.gl_graph.specs.Refusals.{is_in_use}
use Rattle.gl_graph.specs.Shapes.{is_movable_shape}
use Rattle.gl_graph.specs.View.{View, graph_of}
use Rattle.gl_header.specs.Header.{fits, holds, is_among_waiters, without_waiter}
use Rattle.gl_header.specs.Headers.{IsOneHolder, held_of, queue_of, with_waiters}
use Rattle.gl_header.specs.State.{HeaderState, slot_limit}
use Rattle.gl_header.specs.declared.header.Asked.{Asked}
use Rattle.gl_lock_lists.specs.Lists.{mode_of}
use Rattle.gl_lock_lists.specs.declared.list.LockList.{LockList}
use Rattle.gl_model.specs.Calls.{asked_at, enqueued, enters_at, goes_with, granted, held_children, moved_to, released, shed, stays, wanted}
use Rattle.gl_model.specs.Lawful.{IsOrderly}
use Rattle.gl_model.specs.State.{State, front_at, members, status_of, with_txn}
use Rattle.gl_model.specs.Tellings.{IsTold, Told, WakesTold, notices_in}
use Rattle.gl_model.specs.declared.answers.Notice.TheVariants as notice
use Rattle.gl_model.specs.declared.txn.Status.TheVariants.{Active}
use Rattle.gl_table.specs.declared.ledger.Ledger.{Ledger}
use Rattle.gl_table.specs.inside.Ledger.{Agrees, AreExact, AreSound, CountsHeld, state_in}
use Rattle.gl_table.specs.inside.Slots.{AreKept, Books, CanTell, HasRoomAt, IsShedding, WaitsEnd, WakesLists, as_left, books_of, counted_by, held_by}
use Rattle.gl_table.specs.inside.Slots.{unlisted_by}

-- the ledger is in order over a graph, and exact for these slots; the lists of others may be inexact
pub record AreExactFor (g : View) (l : Ledger) (who : ℕ → Type 0) : Type 0 where
  pub sound : AreSound l
  pub orderly : IsOrderly (state_in g l)
  pub agree : (u : ℕ) → who u → Agrees (state_in g l) l.lists.items u
  pub count : (u : ℕ) → who u → CountsHeld (state_in g l) l.lists.items u

-- more can be told to n's waiters, which were told nothing yet
abbrev pub CanTellWaiters : State → NodeId → Told → Type 0
CanTellWaiters s n list = CanTell list (λ u. is_among_waiters u (s.queue n))

-- n's waiters were told that it is gone
abbrev pub TellsGone : State → NodeId → Told → Told → Type 0
TellsGone s n list list' = IsTold s.txns (λ u. is_among_waiters u (s.queue n)) (λ u. notice.Gone) list list'

-- n's waiters were granted from the front in this state: they hold it and are told, and the ledger is in order
pub record HasWoken (g : View) (n : NodeId) (s : State) (l l' : Ledger) (list list' : Told) : Type 0 where
  pub sound : AreSound l'
  pub lists : WakesLists l.lists.items n (parents_of (graph_of g) n) (front_at s n) l'.lists.items
  pub tells : WakesTold (state_in g l).txns n (front_at s n) list list'

-- a wait of t can end: t was told nothing yet, and more can be told
pub record CanEndAt (b : Books) (t : ℕ) : Type 0 where
  pub kept : AreKept b
  pub has_entry : t < length b.txn_entries
  pub untold : notices_in b.told t ≡ None

-- the covered children of n are released, and t's list, which is kept apart, has what t still holds
pub record IsReleased (s now : State) (t : ℕ) (n : NodeId) (l : LockList) : Type 0 where
  pub state : now ≡ shed s t n
  pub active : status_of now t ≡ Some Active
  pub marked : IsShedding s now t n l
  pub modes : (q : NodeId) → mode_of l q ≡ now.held t q

-- t holds nothing and waits for nothing, and is released once its entry is free
pub record HasLeftAll (s now : State) (t : ℕ) : Type 0 where
  pub most : now.most ≡ s.most
  pub state : released s t ≡ with_txn now t None
  pub free : (n : NodeId) → now.held t n ≡ NL
  pub out : (n : NodeId) → is_among_waiters t (now.queue n) ≡ false

-- the ledger is in order over a graph, and each list has the modes of its slot; the counts may be inexact
pub record AreAgreed (g : View) (l : Ledger) : Type 0 where
  pub sound : AreSound l
  pub orderly : IsOrderly (state_in g l)
  pub agree : (u : ℕ) → Agrees (state_in g l) l.lists.items u

-- n's waiters do not hold it, and none of them can be granted
pub record AreShutOut (s : State) (n : NodeId) : Type 0 where
  pub newcomers : (u : ℕ) → is_among_waiters u (s.queue n) ≡ true → s.held u n ≡ NL
  pub stuck : list_all (λ w. not (fits slot_limit (members s n) w.0 w.1)) (s.queue n) ≡ true

-- if t holds n, its list can count n under these new parents in place of the old ones
pub record CanRecount (s : State) (ls : List LockList) (t : ℕ) (n : NodeId) (old new : List NodeId) : Type 0 where
  pub slot : t < length ls
  pub counted : holds (members s n) t ≡ true → (q : NodeId) → count_by (same_node q) old ≤ counted_by ls t q
  pub listed : unlisted_by ls t new ≡ 0
  pub few : (q : NodeId) → counted_by ls t q + count_by (same_node q) new < 2 ^ 32

-- what a node with these parents adds to the held children of q, if it is held
abbrev pub adds_to : Bool → List NodeId → NodeId → ℕ
adds_to held ps q = if held then count_by (same_node q) ps else 0

-- so it counts it now; all other counts are unchanged
abbrev pub Recounts : State → List LockList → ℕ → NodeId → List NodeId → List NodeId → List LockList → Type 0
Recounts s ls t n old new ls' =
    (u : ℕ) (q : NodeId) → counted_by ls' u q + adds_to ((u == t) && holds (members s n) t) old q
    ≡ counted_by ls u q + adds_to ((u == t) && holds (members s n) t) new q

-- n has moved: waits on it that fail the rule of the graph over its parents end, and their transactions are told
pub record HasMoved (g : View) (n : NodeId) (l l' : Ledger) (list list' : Told) : Type 0 where
  pub sound : AreSound l'
  pub state : state_in g l' ≡ moved_to (state_in g l) n (parents_of (graph_of g) n) (graph_of g)
  pub agree : (u : ℕ) → Agrees (state_in g l') l'.lists.items u
  pub tells : IsTold (state_in g l).txns
      (λ u. is_among_waiters u (filter (λ w. not (stays (state_in g l) (parents_of (graph_of g) n) w)) ((state_in g l).queue n))) (λ u. notice.Moved) list list'

-- t waits for n no more, and the headers are else unchanged; t is active, its list lacks n, and it is told that n moved
pub record IsTurnedAway (t : ℕ) (n : NodeId) (l l' : Ledger) (list list' : Told) : Type 0 where
  pub held : held_of l'.headers.entries ≡ held_of l.headers.entries
  pub queue : queue_of l'.headers.entries ≡ with_waiters (queue_of l.headers.entries) n (without_waiter t (queue_of l.headers.entries n))
  pub ends : WaitsEnd (books_of l.txn_entries l.lists.items list) n (λ u. u == t) as_left (λ u. notice.Moved) (books_of l'.txn_entries l'.lists.items list')

-- the ledger is in order and exact over a graph, and the transaction in this slot is active
pub record MayAct (g : View) (l : Ledger) (t : ℕ) : Type 0 where
  pub exact : AreExact g l
  pub orderly : IsOrderly (state_in g l)
  pub active : status_of (state_in g l) t ≡ Some Active

-- n lives, nobody holds a child of it, and nobody but t holds n
pub record IsLeftTo (s : State) (t : ℕ) (n : NodeId) : Type 0 where
  pub live : is_live s.graph n ≡ true
  pub childless : (u : ℕ) → held_children s u n ≡ 0
  pub alone : (u : ℕ) → (u == t) ≡ false → s.held u n ≡ NL

-- n lives, t holds it, and nobody else does
pub record IsLeftAloneTo (s : State) (t : ℕ) (n : NodeId) : Type 0 where
  pub live : is_live s.graph n ≡ true
  pub holding : holds (members s n) t ≡ true
  pub alone : (u : ℕ) → (u == t) ≡ false → s.held u n ≡ NL

-- the lists count no child of n, and t's list counts n for each of its parents
pub record CanEvict (ls : List LockList) (t : ℕ) (n : NodeId) (ps : List NodeId) : Type 0 where
  pub childless : (u : ℕ) → counted_by ls u n ≡ 0
  pub some : (q : NodeId) → count_by (same_node q) ps ≤ counted_by ls t q

-- n lives, and nobody holds it or waits for it
pub record IsFresh (s : State) (n : NodeId) : Type 0 where
  pub live : is_live s.graph n ≡ true
  pub unheld : (u : ℕ) → s.held u n ≡ NL
  pub unawaited : s.queue n ≡ []

-- n is not in use, t holds it, nobody else holds n or a child that is removed with it, and nobody waits for a child
pub record IsBranchLeftTo (s : State) (t : ℕ) (n : NodeId) : Type 0 where
  pub movable : is_movable_shape (shape_of s.graph n) ≡ true
  pub free : is_in_use s.graph n ≡ false
  pub holding : holds (members s n) t ≡ true
  pub alone : (u : ℕ) (q : NodeId) → (u == t) ≡ false → goes_with s.graph n q ≡ true → s.held u q ≡ NL
  pub unawaited : (q : NodeId) → is_child s.graph n q ≡ true → s.queue q ≡ []

-- room was made for t to hold a node with this key, with a header prepared with t's grant of this mode
pub record IsPrepared (l : Ledger) (t key : ℕ) (m : Mode) (prepared : HeaderState) : Type 0 where
  pub header : IsOneHolder prepared t m
  pub headers_room : key < l.headers.room
  pub lists_room : HasRoomAt l.lists.items t

-- t can request n in a mode m: n lives, and these are t's held mode and n's parents
pub record CanAsk (g : View) (l : Ledger) (t : ℕ) (n : NodeId) (m held : Mode) (parents : List NodeId) : Type 0 where
  pub live : is_live (graph_of g) n ≡ true
  pub lock : m ≢ NL
  pub held_is : held ≡ held_by l.lists.items t n
  pub parents_are : parents ≡ parents_of (graph_of g) n

-- t requested n and has this answer: it was granted at once, or it waits
pub record HasAsked (s now : State) (t : ℕ) (n : NodeId) (m : Mode) (answer : Asked) : Type 0 where
  pub answered : answer ≡ asked_at s t n m
  pub enters : enters_at s t n m ≡ true → now ≡ granted s t n m
  pub waits : enters_at s t n m ≡ false → now ≡ enqueued s t n (wanted s t n m)

-- t was granted this mode
pub record HasGrant (s now : State) (t : ℕ) (n : NodeId) (m given : Mode) : Type 0 where
  pub mode : given ≡ wanted s t n m
  pub state : now ≡ granted s t n m

-- an interval was split in the graph, and the lists still count all its held children there: those that are left, and those of the new interval
pub record ArePartedFrom (s : State) (ls : List LockList) (from to : NodeId) : Type 0 where
  pub differ : same_node from to ≡ false
  pub none : (u : ℕ) → counted_by ls u to ≡ 0
  pub both : (u : ℕ) → counted_by ls u from ≡ held_children s u from + held_children s u to
  pub others : (u : ℕ) (q : NodeId) → same_node q from ≡ false → same_node q to ≡ false → counted_by ls u q ≡ held_children s u q

-- n's waiters were told that it moved
abbrev pub TellsMoved : State → NodeId → Told → Told → Type 0
TellsMoved s n list list' = IsTold s.txns (λ u. is_among_waiters u (s.queue n)) (λ u. notice.Moved) list list'
