-- Why a command is refused: the tests of each in their order, and when lack of memory is permitted.
use Rattle.std.specs.Prelude.{ℕ, Bool, true, false, not, ◌&&◌, ◌||◌, ◌==◌, List, [], ◌∷◌, ◌++◌, length, Option, Some, is_none}
use Rattle.gl_model.specs.declared.txn.TxnId.{TxnId}
use Rattle.gl_steps.specs.declared.command.Command.{Command}
use Rattle.gl_modes.specs.declared.node.NodeId.{NodeId}
use Rattle.gl_modes.specs.declared.refusal.Refusal.{Refusal}
use Rattle.gl_modes.specs.declared.refusal.Refusal.TheVariants as no
use Rattle.gl_steps.specs.declared.command.Command.TheVariants as command
use Rattle.gl_graph.specs.Changes.{rekeyed_parents}
use Rattle.gl_graph.specs.Graph.{first_parent, indexes_of, parents_of, record_parents, shape_of}
use Rattle.gl_graph.specs.Refusals.{bad_parents, file_refusal, first_cycle, first_refusal, index_refusal, inner_refusal, max_count, record_refusal}
use Rattle.gl_graph.specs.Refusals.{too_many_nodes, where_true, worn_births}
use Rattle.gl_graph.specs.Shapes.{is_file_shape, is_index_of_shape, is_movable_shape, is_record_shape, least_parents}
use Rattle.gl_header.specs.Header.{holds}
use Rattle.gl_model.specs.Calls.{enters_at}
use Rattle.gl_model.specs.Calls.{active_on, begin_tests, cancel_tests, commit_tests, drop_tests, index_by_tests, escalation_blocks, first_not_ix, join_tests}
use Rattle.gl_model.specs.Calls.{forget_tests, group_tests}
use Rattle.gl_model.specs.Calls.{held_tests, holds_x, living_tests, lock_tests, need_exclusive, need_new_parents, not_held, some_given, try_tests}
use Rattle.gl_model.specs.Calls.{renew_tests, unlock_tests}
use Rattle.gl_model.specs.Splits.{merge_tests, split_tests}
use Rattle.gl_model.specs.State.{State, members}

-- no further command can be counted
abbrev pub worn : State → Option Refusal
worn s = where_true (s.accepted == max_count) no.WornOut

-- insert needs a file, and a key for each of its indexes
abbrev pub record_asks : State → TxnId → NodeId → List ℕ → List (Option Refusal)
record_asks s t f keys =
    worn_births s.graph ∷ active_on s t (f ∷ [])
    ++ where_true (not (is_file_shape (shape_of s.graph f))) no.BadParents
    ∷ where_true (not (length keys == length (indexes_of s.graph f))) no.BadKeys ∷ []

-- it also needs IX or greater on each parent that the new record will have, and room for the record
abbrev pub insert_tests : State → TxnId → NodeId → List ℕ → List (Option Refusal)
insert_tests s t f keys = record_asks s t f keys ++ first_not_ix (s.held t.slot) (record_parents s.graph f keys) ∷ too_many_nodes s.graph 1 ∷ []

-- delete needs a record, and X on it
abbrev pub delete_tests : State → TxnId → NodeId → List (Option Refusal)
delete_tests s t r = active_on s t (r ∷ []) ++ where_true (not (is_record_shape (shape_of s.graph r))) no.BadParents
    ∷ where_true (not (holds_x s t.slot r)) no.NeedExclusive ∷ []

-- rekey needs a record, an index of its file, and the locks of a move
abbrev pub rekey_tests : State → TxnId → NodeId → NodeId → ℕ → List (Option Refusal)
rekey_tests s t r i key =
    active_on s t (r ∷ i ∷ [])
    ++ where_true (not (is_record_shape (shape_of s.graph r) && is_index_of_shape (first_parent s.graph r) (shape_of s.graph i))) no.BadParents
    ∷ need_exclusive s t.slot r true (rekeyed_parents s.graph r i key)
    ∷ need_new_parents s t.slot r (rekeyed_parents s.graph r i key) ∷ []

-- move needs an inner node, a file or an index, parents that it could have been made under, and locks
abbrev pub move_asks : State → TxnId → NodeId → List NodeId → List (Option Refusal)
move_asks s t n ps =
    active_on s t (n ∷ ps)
    ++ where_true (not (is_movable_shape (shape_of s.graph n)) || bad_parents s.graph (least_parents (shape_of s.graph n)) ps) no.BadParents
    ∷ need_exclusive s t.slot n (some_given (parents_of s.graph n) && some_given ps) ps
    ∷ need_new_parents s t.slot n ps ∷ []

-- it also must close no cycle
abbrev pub move_tests : State → TxnId → NodeId → List NodeId → List (Option Refusal)
move_tests s t n ps = move_asks s t n ps ++ first_cycle s.graph n ps ∷ []

-- escalate needs a held node that is no record
abbrev pub escalate_asks : State → TxnId → NodeId → List (Option Refusal)
escalate_asks s t n = active_on s t (n ∷ []) ++ where_true (is_record_shape (shape_of s.graph n)) no.BadParents ∷ not_held s t.slot n ∷ []

-- the raised mode must also fit
abbrev pub escalate_tests : State → TxnId → NodeId → List (Option Refusal)
escalate_tests s t n = escalate_asks s t n ++ escalation_blocks s t.slot n ∷ []

-- the tests of each command, lack of memory aside: first whether it can be counted, then those of its call
abbrev pub tests_of : State → Command → List (Option Refusal)
tests_of s (command.Inner ps) = worn s ∷ inner_refusal s.graph ps.now ∷ []
tests_of s (command.File ps) = worn s ∷ file_refusal s.graph ps.now ∷ []
tests_of s (command.Index ps f bs) = worn s ∷ index_refusal s.graph ps.now f bs.now ∷ []
tests_of s command.Begin = worn s ∷ begin_tests s
tests_of s (command.BeginAgain since) = worn s ∷ begin_tests s
tests_of s (command.Join t since) = worn s ∷ join_tests s t since
tests_of s (command.Lock t n m) = worn s ∷ lock_tests s t n m
tests_of s (command.Try t n m) = worn s ∷ try_tests s t n m
tests_of s (command.Unlock t n) = worn s ∷ unlock_tests s t n
tests_of s (command.Escalate t n) = worn s ∷ escalate_tests s t n
tests_of s (command.Cancel t) = worn s ∷ cancel_tests s t
tests_of s (command.Commit t) = worn s ∷ commit_tests s t
tests_of s (command.Renew t since) = worn s ∷ renew_tests s t
tests_of s (command.Abort t) = worn s ∷ living_tests s t
tests_of s (command.Settle t) = worn s ∷ living_tests s t
tests_of s (command.Insert t f keys) = worn s ∷ insert_tests s t f keys.now
tests_of s (command.Delete t r) = worn s ∷ delete_tests s t r
tests_of s (command.Rekey t r i key) = worn s ∷ rekey_tests s t r i key
tests_of s (command.Move t n ps) = worn s ∷ move_tests s t n ps.now
tests_of s (command.Group n) = group_tests s n
tests_of s (command.Held t n) = held_tests s t n
tests_of s (command.Effective t n) = held_tests s t n
tests_of s (command.Adopt f keys) = worn s ∷ record_refusal s.graph f keys.now ∷ []
tests_of s (command.Forget r) = worn s ∷ forget_tests s r
tests_of s (command.Drop t n) = worn s ∷ drop_tests s t n
tests_of s (command.IndexBy t ps f bs rs ks) = worn s ∷ index_by_tests s t ps.now f bs.now rs.now ks.now
tests_of s (command.Split t i at) = worn s ∷ split_tests s t i at
tests_of s (command.Merge t i) = worn s ∷ merge_tests s t i

-- why the command is refused, if it is: the first test that refuses
abbrev pub refusal_of : State → Command → Option Refusal
refusal_of s c = first_refusal (tests_of s c)

-- the refusal is that a cycle would be closed
abbrev pub is_cycle : Option Refusal → Bool
is_cycle (Some (no.Cycle n)) = true
is_cycle o = false

-- t does not hold n
abbrev pub newcomer : State → TxnId → NodeId → Bool
newcomer s t n = not (holds (members s n) t.slot)

-- the commands that may lack memory: those that make something or search the graph, and a lock by a newcomer or one that waits
abbrev pub lists_memory : State → Command → Bool
lists_memory s (command.Inner ps) = true
lists_memory s (command.File ps) = true
lists_memory s (command.Index ps f bs) = true
lists_memory s command.Begin = true
lists_memory s (command.BeginAgain since) = true
lists_memory s (command.Lock t n m) = newcomer s t n || not (enters_at s t.slot n m)
lists_memory s (command.Try t n m) = newcomer s t n
lists_memory s (command.Insert t f keys) = true
lists_memory s (command.Move t n ps) = true
lists_memory s (command.Effective t n) = true
lists_memory s (command.Adopt f keys) = true
lists_memory s (command.IndexBy t ps f bs rs ks) = true
lists_memory s (command.Split t i at) = true
lists_memory s (command.Merge t i) = true
lists_memory s c = false

-- lack of memory is a permitted reason if there is no other; for a move also in place of a closed cycle, since the search for it may run out
abbrev pub may_lack_memory : State → Command → Bool
may_lack_memory s c = lists_memory s c && (is_none (refusal_of s c) || is_cycle (refusal_of s c))
