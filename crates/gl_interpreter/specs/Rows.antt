-- The output of a listing: one line for each row, in the state of one moment.
use Rattle.std.specs.Prelude.{◌≡◌, ℕ, Bool, List, [], ◌∷◌, ◌++◌, codes, decimal, flat_map, map, Option, Some, None, if◌then◌else◌}
use Rattle.std.specs.List.{filter, range_with_len}
use Rattle.gl_modes.specs.declared.mode.Mode.{Mode}
use Rattle.gl_modes.specs.declared.node.NodeId.{NodeId}
use Rattle.gl_modes.specs.declared.refusal.Refusal.{Refusal}
use Rattle.gl_modes.specs.Modes.{mode_text}
use Rattle.gl_modes.specs.Nodes.{same_node}
use Rattle.gl_graph.specs.Graph.{place_of}
use Rattle.gl_graph.specs.Refusals.{first_refusal}
use Rattle.gl_header.specs.Header.{Waiter, holds}
use Rattle.gl_slots.specs.Slots.{has_slot, slot_limit}
use Rattle.gl_model.specs.declared.deadlock.Stuck.{Stuck}
use Rattle.gl_model.specs.declared.answers.LockRow.{LockRow}
use Rattle.gl_model.specs.declared.txn.Status.{Status}
use Rattle.gl_model.specs.declared.txn.Status.TheVariants.{Active, Waiting, Condemned}
use Rattle.gl_model.specs.declared.txn.TxnId.{TxnId}
use Rattle.gl_table.specs.Table.{AreRowsOf, living_in}
use Rattle.gl_model.specs.Calls.{group_tests, living_tests}
use Rattle.gl_model.specs.State.{members, status_of, waits_for}
use Rattle.gl_catalog.specs.Replies.{wait_of}
use Rattle.gl_script.specs.Grammar.{Text, Node, Listing, Holders, Queue, Locks, Waits, Txns, Cycle}
use Rattle.gl_interpreter.specs.Printed.{called, called_at, first_unused, refusal_line}
use Rattle.gl_interpreter.specs.Script.{Script, node_id, txn_id}

-- the name of a living transaction
abbrev pub name_of : Script → Option (TxnId × Status) → Text
name_of s None = []
name_of s (Some x) = s.names.txn_name x.0

-- the name of the transaction in a slot
abbrev pub name_at : Script → ℕ → Text
name_at s t = name_of s (living_in s.locks t)

-- the slots at which the test gives true, from the lowest on
abbrev pub slots_where : (ℕ → Bool) → List ℕ
slots_where test = filter test (range_with_len 0 slot_limit)

-- a holder of a node, with its mode
abbrev pub holder_row : Script → NodeId → ℕ → Text
holder_row s n t = codes "holder " ++ name_at s t ++ 32 ∷ [] ++ mode_text (s.locks.held t n) ++ 10 ∷ []

-- a waiter in a queue, with the wanted mode
abbrev pub waiter_row : Script → Waiter → Text
waiter_row s w = codes "waiter " ++ name_at s w.0 ++ 32 ∷ [] ++ mode_text w.1 ++ 10 ∷ []

-- a transaction for which another waits
abbrev pub blocker_row : Script → ℕ → Text
blocker_row s t = codes "blocker " ++ name_at s t ++ 10 ∷ []

-- what a transaction is doing
abbrev pub status_text : Script → Status → Text
status_text s Active = codes " active"
status_text s (Waiting n m) = codes " waits " ++ mode_text m ++ 32 ∷ called s n
status_text s Condemned = codes " condemned"

-- a living transaction, with its age
abbrev pub txn_row : Script → Option (TxnId × Status) → Text
txn_row s None = []
txn_row s (Some x) = codes "txn " ++ s.names.txn_name x.0 ++ 32 ∷ [] ++ decimal x.0.age ++ status_text s x.1 ++ 10 ∷ []

-- the wanted mode, if the transaction waits for this node
abbrev pub wanted_text : Option (NodeId × Mode) → NodeId → Text
wanted_text None n = []
wanted_text (Some x) n = if same_node x.0 n then codes " waits " ++ mode_text x.1 else []

-- a node that a transaction holds or waits for, with its mode and the count of its held children
abbrev pub lock_row : Script → Option (NodeId × Mode) → LockRow → Text
lock_row s wait r = codes "lock " ++ mode_text r.mode ++ 32 ∷ called s r.node ++ codes " children " ++ decimal r.children ++ wanted_text wait r.node ++ 10 ∷ []

-- a refused listing says why, and names what is not in use; any other is a line and the rows
abbrev pub listed : Option Refusal → Text → Text → Text
listed None who rows = codes "ok\n" ++ rows
listed (Some r) who rows = refusal_line r who

-- the listing of a node
abbrev pub node_listing : Script → Node → Text → Text
node_listing s n rows = listed (first_refusal (group_tests s.locks (node_id s n))) (first_unused s (n ∷ [])) rows

-- the listing of a transaction
abbrev pub txn_listing : Script → Text → Text → Text
txn_listing s t rows = listed (first_refusal (living_tests s.locks (txn_id s.names t))) (32 ∷ t) rows

-- the living transactions, by rising slot
abbrev pub txn_rows : Script → Text
txn_rows s = flat_map (λ t. txn_row s (living_in s.locks t)) (range_with_len 0 s.locks.most)

-- a name, or a dash if it is no longer in use
abbrev pub or_dash : Text → Text
or_dash [] = 45 ∷ []
or_dash (b ∷ bs) = b ∷ bs

-- a transaction of a deadlock, which may have ended since, by name and age
abbrev pub member_text : Script → TxnId → Text
member_text s t = 32 ∷ or_dash (s.names.txn_name t) ++ 32 ∷ [] ++ decimal t.age

-- a node of a deadlock, which may be gone since
abbrev pub kept_at : Script → NodeId → Option ℕ → Text
kept_at s n None = or_dash (s.names.node_name n)
kept_at s n (Some place) = called_at s n (Some place)

abbrev pub kept_node : Script → NodeId → Text
kept_node s n = 32 ∷ kept_at s n (place_of s.locks.graph n)

-- a transaction of a deadlock waited for another
abbrev pub wait_row : Script → Stuck → Stuck → Text
wait_row s r q =
    if has_slot r.waits_for q.txn.slot
    then codes "stuck" ++ member_text s r.txn ++ codes " waits " ++ mode_text r.wanted ++ kept_node s r.node ++ codes " for" ++ member_text s q.txn ++ 10 ∷ []
    else []

-- the transactions of a deadlock for which this one waited
abbrev pub stuck_rows : Script → List Stuck → Stuck → Text
stuck_rows s all r = flat_map (wait_row s r) all

-- the victim of a deadlock, and who waited for whom; empty if there was none
abbrev pub deadlock_rows : Script → TxnId → List Stuck → Text
deadlock_rows s victim [] = []
deadlock_rows s victim (r ∷ rs) = codes "victim" ++ member_text s victim ++ 10 ∷ [] ++ flat_map (stuck_rows s (r ∷ rs)) (r ∷ rs)

-- the output of a listing; the locks of a transaction are in the order in which they are stored
abbrev pub Shows : Script → Listing → Text → Type 0
Shows s (Holders n) text = text ≡ node_listing s n (flat_map (holder_row s (node_id s n)) (slots_where (holds (members s.locks (node_id s n)))))
Shows s (Queue n) text = text ≡ node_listing s n (flat_map (waiter_row s) (s.locks.queue (node_id s n)))
Shows s (Locks t) text =
    let slot = (txn_id s.names t).slot in
    (rows : List LockRow) × AreRowsOf s.locks slot rows × (map (λ (r : LockRow). r.node) rows ≡ s.orders slot)
    × (text ≡ txn_listing s t (flat_map (lock_row s (wait_of (status_of s.locks slot))) rows))
Shows s (Waits t) text = text ≡ txn_listing s t (flat_map (blocker_row s) (slots_where (waits_for s.locks (txn_id s.names t).slot)))
Shows s Txns text = text ≡ codes "ok\n" ++ txn_rows s
Shows s Cycle text = text ≡ codes "ok\n" ++ deadlock_rows s s.deadlock.victim s.deadlock.cycle.items
