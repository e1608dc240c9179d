-- The list of notices and the lists of all transactions by slot: what it means to wake and to free waiters.
use Rattle.gl_slots.specs.Limit.{most_slots}
use Rattle.std.specs.Prelude.{ℕ, Bool, true, ◌&&◌, ◌==◌, ◌≡◌, Option, ◌+◌, ◌<◌, ◌≤◌, ◌^◌, false, map, List, length, None, if◌then◌else◌}
use Rattle.std.specs.Prelude.{[], slice_get, Some, take}
use Rattle.std.specs.List.{count_by, list_any}
use Rattle.std.specs.Option.{option_map_or}
use Rattle.indexmap.specs.IndexMap.{keys, spare}
use Rattle.gl_modes.specs.declared.mode.Mode.{Mode}
use Rattle.gl_modes.specs.declared.mode.Mode.TheVariants.{NL}
use Rattle.gl_modes.specs.declared.node.NodeId.{NodeId}
use Rattle.gl_modes.specs.Modes.{same_mode}
use Rattle.gl_modes.specs.Nodes.{same_node}
use Rattle.gl_header.specs.Header.{Waiter, holds, is_among_waiters}
use Rattle.gl_header.specs.Sound.{is_distinct}
use Rattle.gl_model.specs.declared.answers.Notice.{Notice}
use Rattle.gl_model.specs.Tellings.{IsBetween, Told, told_to, IsBySlot, IsTold, mode_given, notices_in}
use Rattle.gl_lock_lists.specs.declared.list.Entry.{Entry}
use Rattle.gl_lock_lists.specs.declared.list.LockList.{LockList}
use Rattle.gl_table.specs.declared.txn_entry.TxnEntry.{TxnEntry}
use Rattle.gl_model.specs.declared.txn.Status.TheVariants.{Active}
use Rattle.gl_lock_lists.specs.Lists.{count_of, is_listed, mode_of, unlisted}
use Rattle.gl_table.specs.Orders.{KeepsPlaces, OnlyLoses}
use Rattle.gl_table.specs.inside.TxnEntries.{TxnEntryList, txns_of}
use Rattle.gl_model.specs.Calls.{held_children, is_covered}
use Rattle.gl_model.specs.State.{State, members, restatus}
use Rattle.gl_model.specs.declared.answers.Notice.TheVariants as notice

-- To whom more can be told.

-- more can be told: the list is by slot, and has no notice for these
pub record CanTell (list : Told) (who : ℕ → Bool) : Type 0 where
  pub by_slot : IsBySlot list
  pub untold : (u : ℕ) → who u ≡ true → notices_in list u ≡ None

-- the list continues from what all are told between a start and one state to what they are told between that start and another
pub record TellsAll (s s' : State) (list list' : Told) : Type 0 where
  pub by_slot : IsBySlot list'
  pub all : (start : State) → IsBetween start s → ((u : ℕ) → notices_in list u ≡ told_to start s u) → (u : ℕ) → notices_in list' u ≡ told_to start s' u

-- the same for all but this slot, which is told nothing more
pub record TellsOthers (t : ℕ) (s s' : State) (list list' : Told) : Type 0 where
  pub by_slot : IsBySlot list'
  pub others : (start : State) → IsBetween start s → ((u : ℕ) → (u == t) ≡ false → notices_in list u ≡ told_to start s u)
      → (u : ℕ) → (u == t) ≡ false → notices_in list' u ≡ told_to start s' u
  pub own : notices_in list' t ≡ notices_in list t

-- The lists of all transactions by slot, and what it means to wake waiters.

-- what a list says, by slot
abbrev pub by_list : {A : Type 0} → (LockList → A) → A → List LockList → ℕ → A
by_list f none ls t = option_map_or f (slice_get ls t) none

-- the mode of a node in a list
abbrev pub held_by : List LockList → ℕ → NodeId → Mode
held_by ls t n = by_list (λ l. mode_of l n) NL ls t

-- the nodes of a list, in their order
abbrev pub nodes_by : List LockList → ℕ → List NodeId
nodes_by ls t = by_list (λ l. keys l.entries) [] ls t

-- each list only loses nodes
pub record ListsLose (ls ls' : List LockList) : Type 0 where
  pub each : (u : ℕ) → OnlyLoses (nodes_by ls u) (nodes_by ls' u)

-- in each list, no node that stays moves to a later place
pub record ListsKeepPlaces (ls ls' : List LockList) : Type 0 where
  pub each : (u : ℕ) → KeepsPlaces (nodes_by ls u) (nodes_by ls' u)

-- the node of a list's entry, if no child of it is counted
abbrev pub childless_in : Option (NodeId × Entry) → Option NodeId
childless_in None = None
childless_in (Some (n, e)) = if e.children == 0 then Some n else None

-- a list has the node
abbrev pub listed_by : List LockList → ℕ → NodeId → Bool
listed_by ls t n = by_list (λ l. is_listed l n) false ls t

-- the kept count of a node's held children
abbrev pub counted_by : List LockList → ℕ → NodeId → ℕ
counted_by ls t n = by_list (λ l. count_of l n) 0 ls t

-- for how many nodes that are not listed there is room
abbrev pub room_by : List LockList → ℕ → ℕ
room_by ls t = by_list (λ l. spare l.loose) 0 ls t

-- how many of these nodes are not in a list
abbrev pub unlisted_by : List LockList → ℕ → List NodeId → ℕ
unlisted_by ls t ps = by_list (λ l. unlisted l ps) 0 ls t

-- a slot can become a holder of a node with these parents: its list has the node, and can count one more child of each parent
pub record CanHold (ls : List LockList) (t : ℕ) (n : NodeId) (ps : List NodeId) : Type 0 where
  pub slot : t < length ls
  pub listed : listed_by ls t n ≡ true
  pub room : held_by ls t n ≡ NL → unlisted_by ls t ps ≤ room_by ls t
  pub few : (q : NodeId) → list_any (same_node q) ps ≡ true → counted_by ls t q + count_by (same_node q) ps < 2 ^ 32

-- what is written of a node in the lists of slots: its mode, whether it is removed, and how many more held children are counted
pub record Writing : Type 0 where
  pub mode : ℕ → Mode
  pub gone : Bool
  pub more : ℕ → NodeId → ℕ

-- the lists after this is written in those of these slots; all else is unchanged
pub record IsWritten (ls : List LockList) (n : NodeId) (who : ℕ → Bool) (is : Writing) (ls' : List LockList) : Type 0 where
  pub len : length ls' ≡ length ls
  pub modes : (u : ℕ) (q : NodeId) → held_by ls' u q ≡ (if who u && same_node q n then is.mode u else held_by ls u q)
  pub listed : (u : ℕ) (q : NodeId) → listed_by ls' u q ≡ (if is.gone && (who u && same_node q n) then false else listed_by ls u q)
  pub counts : (u : ℕ) (q : NodeId) → counted_by ls' u q ≡ counted_by ls u q + (if who u then is.more u q else 0)
  pub rooms : (u : ℕ) → who u ≡ false → room_by ls' u ≡ room_by ls u
  pub orders : (u : ℕ) → who u ≡ false → nodes_by ls' u ≡ nodes_by ls u
  pub loses : ListsLose ls ls'

-- a node with these parents is held in this mode; if it was not held before, it counts as a child of each parent
abbrev pub as_held : List LockList → NodeId → List NodeId → (ℕ → Mode) → Writing
as_held ls n ps mode = record { mode = mode; gone = false; more = λ u q. if same_mode (held_by ls u n) NL then count_by (same_node q) ps else 0 }

-- a node that is not held is removed from the list
abbrev pub as_left : Writing
as_left = record { mode = λ u. NL; gone = true; more = λ u q. 0 }

-- these waiters hold the node in the modes for which they waited
abbrev pub WakesLists : List LockList → NodeId → List NodeId → List Waiter → List LockList → Type 0
WakesLists ls n ps ws ls' = IsWritten ls n (λ u. is_among_waiters u ws) (as_held ls n ps (mode_given ws)) ls'

-- The end of waits on a node, by a grant or without one.

-- the transaction entries, the lists, and a list of notices as it is filled
pub record Books : Type 0 where
  pub txn_entries : List (Option TxnEntry)
  pub lists : List LockList
  pub told : Told

-- the same from its parts
abbrev pub books_of : TxnEntryList → List LockList → Told → Books
books_of txn_entries lists told = record { txn_entries = txn_entries.items; lists = lists; told = told }

-- one list for each slot
pub record AreKept (b : Books) : Type 0 where
  pub few : length b.txn_entries ≤ most_slots
  pub len : length b.lists ≡ length b.txn_entries
  pub by_slot : IsBySlot b.told

-- waiters of different existing slots, which were told nothing yet
pub record CanEnd (b : Books) (ws : List Waiter) : Type 0 where
  pub kept : AreKept b
  pub distinct : is_distinct ws ≡ true
  pub below : (u : ℕ) → is_among_waiters u ws ≡ true → u < length b.txn_entries
  pub untold : (u : ℕ) → is_among_waiters u ws ≡ true → notices_in b.told u ≡ None

-- the waits of these slots on the node end: they are active, this is written in their lists, and they are told this; all else is unchanged
pub record WaitsEnd (b : Books) (n : NodeId) (who : ℕ → Bool) (is : Writing) (says : ℕ → Notice) (b' : Books) : Type 0 where
  pub len : length b'.txn_entries ≡ length b.txn_entries
  pub txns : (u : ℕ) → txns_of b'.txn_entries u ≡ (if who u then restatus Active (txns_of b.txn_entries u) else txns_of b.txn_entries u)
  pub lists : IsWritten b.lists n who is b'.lists
  pub tells : IsTold (txns_of b.txn_entries) who says b.told b'.told

-- these waiters hold the node, are active and are told
abbrev pub Wakes : Books → NodeId → List NodeId → List Waiter → Books → Type 0
Wakes b n ps ws b' = WaitsEnd b n (λ u. is_among_waiters u ws) (as_held b.lists n ps (mode_given ws)) (λ u. notice.Granted n (mode_given ws u)) b'

-- the lists as they were, perhaps with more room
pub record KeepsLists (ls ls' : List LockList) : Type 0 where
  pub len : length ls' ≡ length ls
  pub entries : map (λ l. l.entries.entries) ls' ≡ map (λ l. l.entries.entries) ls
  pub modes : (u : ℕ) (q : NodeId) → held_by ls' u q ≡ held_by ls u q
  pub listed : (u : ℕ) (q : NodeId) → listed_by ls' u q ≡ listed_by ls u q
  pub counts : (u : ℕ) (q : NodeId) → counted_by ls' u q ≡ counted_by ls u q
  pub rooms : (u : ℕ) → room_by ls u ≤ room_by ls' u

-- the list of a slot has room for one more node, and for the counts of nine that are not listed
pub record HasRoomAt (ls : List LockList) (t : ℕ) : Type 0 where
  pub entry : 0 < by_list (λ l. spare l.entries) 0 ls t
  pub counts : 9 ≤ room_by ls t

-- a slot counts no held child of a node, and counts the node for each of its parents
pub record CanStrike (ls : List LockList) (t : ℕ) (n : NodeId) (ps : List NodeId) : Type 0 where
  pub slot : t < length ls
  pub childless : counted_by ls t n ≡ 0
  pub some : (q : NodeId) → count_by (same_node q) ps ≤ counted_by ls t q

-- the node is removed from an order: those before it keep their places
pub record LeavesPlace (n : NodeId) (order order' : List NodeId) : Type 0 where
  pub before : (place : ℕ) → slice_get order place ≡ Some n → take place order' ≡ take place order
  pub fewer : length order' + 1 ≡ length order

-- the lists after the node is removed from one; each parent has one held child less
pub record Strikes (ls ls' : List LockList) (t : ℕ) (n : NodeId) (ps : List NodeId) : Type 0 where
  pub len : length ls' ≡ length ls
  pub modes : (u : ℕ) (q : NodeId) → held_by ls' u q ≡ (if (u == t) && same_node q n then NL else held_by ls u q)
  pub listed : (u : ℕ) (q : NodeId) → listed_by ls' u q ≡ (if (u == t) && same_node q n then false else listed_by ls u q)
  pub counts : (u : ℕ) (q : NodeId) → counted_by ls' u q + (if u == t then count_by (same_node q) ps else 0) ≡ counted_by ls u q
  pub rooms : (u : ℕ) → (u == t) ≡ false → room_by ls' u ≡ room_by ls u
  pub place : listed_by ls t n ≡ true → LeavesPlace n (nodes_by ls t) (nodes_by ls' t)
  pub loses : ListsLose ls ls'

-- the list of t while the children of n that its lock covered in s are released: they are marked, and all else is as it is now
pub record IsShedding (s now : State) (t : ℕ) (n : NodeId) (l : LockList) : Type 0 where
  pub listed : (q : NodeId) → is_listed l q ≡ holds (members now q) t
  pub modes : (q : NodeId) → mode_of l q ≡ (if is_covered s t n q then NL else now.held t q)
  pub counts : (p : NodeId) → count_of l p ≡ held_children now t p
