-- Replies to questions.
use Rattle.std.specs.Prelude.{◌≡◌, ℕ, ◌&&◌, Option, Some, None, if◌then◌else◌, length}
use Rattle.std.specs.List.{slice_get}
use Rattle.std.specs.Option.{option_map}
use Rattle.gl_modes.specs.declared.node.NodeId.{NodeId}
use Rattle.gl_modes.specs.declared.refusal.Refusal.TheVariants as no
use Rattle.gl_graph.specs.declared.kind.Kind.{Kind}
use Rattle.gl_graph.specs.declared.kind.Kind.TheVariants as kind
use Rattle.gl_graph.specs.Graph.{Graph, indexes_of, interval_at, interval_of, node_count, parents_of, place_of, shape_of}
use Rattle.gl_graph.specs.Refusals.{first_refusal, has_records}
use Rattle.gl_graph.specs.Shapes.{is_file_shape, is_index_shape, keys_in, kind_in}
use Rattle.gl_header.specs.Header.{holds}
use Rattle.gl_model.specs.declared.answers.Detect.{Detect}
use Rattle.gl_model.specs.declared.answers.Detect.TheVariants.{AtBlock, ByWatcher}
use Rattle.gl_waits.specs.declared.victims.Victims.{Victims}
use Rattle.gl_waits.specs.declared.victims.Victims.TheVariants.{Youngest, Fewest}
use Rattle.gl_model.specs.Calls.{held_children, group_tests}
use Rattle.gl_table.specs.Table.{ahead_in, living_in, rows_of}
use Rattle.gl_model.specs.State.{lives, members, status_of}
use Rattle.gl_steps.specs.declared.command.Answer.TheVariants as answer
use Rattle.gl_catalog.specs.Manager.{ManagerView, state_of}
use Rattle.gl_catalog.specs.Replies.{wait_of}
use Rattle.gl_c.specs.declared.questions.look.Query.{Query}
use Rattle.gl_c.specs.declared.questions.look.Query.TheVariants as query
use Rattle.gl_c.specs.declared.answers.reply.Reply.{Reply}
use Rattle.gl_c.specs.managers.Carries.{Declines}
use Rattle.gl_c.specs.managers.Guarded.{GuardedView}
use Rattle.gl_c.specs.questions.Listings.{doing, lived, of_queue, row_reply, waiter_reply}
use Rattle.gl_c.specs.Numbers.{no_manager, no_place}
use Rattle.gl_c.specs.answers.Replies.{count_reply, refused_reply, reply_of, status_reply}

-- the number of a kind
abbrev pub kind_number : Kind → ℕ
kind_number kind.Inner = 1
kind_number kind.File = 2
kind_number kind.Index = 3
kind_number kind.Interval = 4
kind_number kind.Rec = 5

-- the number of a choice of victims
abbrev pub victims_number : Victims → ℕ
victims_number Youngest = 0
victims_number Fewest = 1

-- the number of a way of detection
abbrev pub detect_number : Detect → ℕ
detect_number AtBlock = 0
detect_number ByWatcher = 1

-- a number, if there is one
abbrev pub counted : Reply → Option ℕ → Reply
counted other (Some n) = count_reply n
counted other None = other

-- a node, if there are so many
abbrev pub found : Option NodeId → Reply
found (Some n) = reply_of (answer.Node n)
found None = status_reply no_place

-- an index of a file, by its place
abbrev pub index_at : Graph → NodeId → ℕ → Reply
index_at g file place = if is_file_shape (shape_of g file) then found (slice_get (indexes_of g file) place) else refused_reply no.NoSuchNode

-- the interval of an index to which a key belongs
abbrev pub interval_with : Graph → NodeId → ℕ → Reply
interval_with g index key = if is_index_shape (shape_of g index) then reply_of (answer.Node (interval_of g index key)) else refused_reply no.NoSuchNode

-- whether a file has records: 1 or 0
abbrev pub records_of : Graph → NodeId → Reply
records_of g file = if is_file_shape (shape_of g file) then count_reply (if has_records g file then 1 else 0) else refused_reply no.NoSuchNode

-- the reply to a question
abbrev pub looked : ManagerView → Query → Reply
looked m (query.Children t n) = counted (refused_reply no.NotHeld)
    (if lives (state_of m) t && holds (members (state_of m) n) t.slot then Some (held_children (state_of m) t.slot n) else None)
looked m (query.Kind n) = counted (refused_reply no.NoSuchNode) (option_map kind_number (kind_in (shape_of (state_of m).graph n)))
looked m (query.Parent n place) = found (slice_get (parents_of (state_of m).graph n) place)
looked m (query.Key rec place) = counted (status_reply no_place) (slice_get (keys_in (shape_of (state_of m).graph rec)) place)
looked m (query.Index file place) = index_at (state_of m).graph file place
looked m (query.Interval index place) = found (interval_at (state_of m).graph index place)
looked m (query.IntervalOf index key) = interval_with (state_of m).graph index key
looked m (query.Place n) = counted (refused_reply no.NoSuchNode) (place_of (state_of m).graph n)
looked m (query.HasRecords file) = records_of (state_of m).graph file
looked m query.Len = count_reply (node_count (state_of m).graph)
looked m query.Accepted = count_reply m.accepted
looked m query.Detect = count_reply (detect_number m.table.detect)
looked m query.Victims = count_reply (victims_number m.table.victims)
looked m query.Most = count_reply (state_of m).most
looked m query.MostNodes = count_reply (state_of m).graph.most
looked m query.MostBounds = count_reply (state_of m).graph.most_bounds
looked m (query.Living slot) = lived (living_in (state_of m) slot)
looked m (query.Doing t) = doing (if lives (state_of m) t then status_of (state_of m) t.slot else None)
looked m (query.Ahead t) =
    if lives (state_of m) t
    then counted (refused_reply no.NotWaiting) (ahead_in (state_of m) t.slot (status_of (state_of m) t.slot))
    else refused_reply no.NoSuchTxn
looked m (query.LockCount t) = counted (refused_reply no.NoSuchTxn) (if lives (state_of m) t then Some (length (rows_of m.table t.slot)) else None)
looked m (query.LockAt t place) =
    row_reply (if lives (state_of m) t then wait_of (status_of (state_of m) t.slot) else None)
    (if lives (state_of m) t then slice_get (rows_of m.table t.slot) place else None)
looked m (query.ModeAt slot n) = reply_of (answer.Mode ((state_of m).held slot n))
looked m (query.QueueLen n) = of_queue (first_refusal (group_tests (state_of m) n)) (λ queue. count_reply (length queue)) ((state_of m).queue n)
looked m (query.QueueAt n place) = of_queue (first_refusal (group_tests (state_of m) n)) (λ queue. waiter_reply (state_of m) (slice_get queue place))
    ((state_of m).queue n)

-- a call that asks a question: it is answered if there is a manager, and nothing changes
abbrev pub Looks : Option GuardedView → Query → Reply → Option GuardedView → Type 0
Looks None q r s' = Declines None no_manager r s'
Looks (Some g) q r s' = (r ≡ looked g.manager q) × (s' ≡ Some g)
