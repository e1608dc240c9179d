-- What is promised of managers that work as one, whatever they do.
use Rattle.std.specs.Prelude.{◌≡◌, ◌≢◌, ◌⊎◌, ℕ, true, false, ◌&&◌, ◌||◌, ◌<◌, ◌↔◌, is_none, is_some, List, [], ◌∷◌, ◌++◌, Some, None, if◌then◌else◌, map}
use denote.Bor.{Bor}
use Rattle.std.specs.List.{list_all, list_any}
use Rattle.gl_modes.specs.declared.mode.Mode.{Mode}
use Rattle.gl_modes.specs.declared.mode.Mode.TheVariants.{NL}
use Rattle.gl_modes.specs.declared.node.NodeId.{NodeId}
use Rattle.gl_modes.specs.declared.refusal.Refusal.TheVariants as no
use Rattle.gl_modes.specs.Modes.{is_at_least}
use Rattle.gl_modes.specs.Nodes.{same_node}
use Rattle.gl_graph.specs.Changes.{IsAdopted, with_parents}
use Rattle.gl_graph.specs.Graph.{Graph, first_parent, is_live, parents_of, shape_of}
use Rattle.gl_graph.specs.Lawful.{IsLawfulGraph}
use Rattle.gl_graph.specs.Over.{IsIndexOver, are_keyed}
use Rattle.gl_graph.specs.Shapes.{is_inner_shape, is_record_shape}
use Rattle.gl_waits.specs.declared.board.Board.{Board}
use Rattle.gl_waits.specs.Boards.{ShowsNobody, board_edge}
use Rattle.gl_waits.specs.Waits.{IsOnCycle}
use Rattle.gl_model.specs.Calls.{IsActing, accepted_once, enters_at, granted, joined, wanted}
use Rattle.gl_model.specs.Lawful.{HasNoConflict, IsLawful}
use Rattle.gl_model.specs.State.{State, intends, is_write, status_of, waits_for}
use Rattle.gl_model.specs.Tellings.{Told}
use Rattle.gl_model.specs.declared.txn.TxnId.{TxnId}
use Rattle.gl_steps.specs.declared.command.Answer.{Answer}
use Rattle.gl_steps.specs.declared.command.Answer.TheVariants as answer
use Rattle.gl_steps.specs.declared.command.Command.{Command}
use Rattle.gl_steps.specs.declared.command.Command.TheVariants as command
use Rattle.gl_steps.specs.Promises.{names}
use Rattle.gl_steps.specs.Step.{Step}
use Rattle.gl_catalog.specs.Paths.{Ask, ComesFirst}
use Rattle.gl_parts.specs.Whole.{Each, IsInOne, IsLedBy, Part, held_at, is_in, is_intention, waits_in, whole}
use Rattle.gl_parts.specs.Leading.{AgreesWith, CanCopy, Follower, Leads, Managers, Obeys, WorkAsOne, covers, is_ready, managers, parts}
use Rattle.gl_parts.specs.Actions.{Acts, AreKept, AreVisited, AskersAreReady, KeepsName, MayRequest, Runs, Takes, may_wait, releases, requests_at, txn_at}
use Rattle.gl_parts.specs.Actions.{with_mark}
use Rattle.gl_parts.specs.declared.passing.AfterIndex.TheVariants as after
use Rattle.gl_parts.specs.declared.passing.Mark.{Mark}
use Rattle.gl_parts.specs.declared.passing.Target.{Target}
use Rattle.gl_parts.specs.Passing.{IsFirst, Lacks, MayClear, Passes, after_index, can_have, is_row_of, keyed_by}
use Rattle.gl_parts.specs.declared.visits.ToCopy.{ToCopy}
use Rattle.gl_parts.specs.declared.visits.Way.{Way}
use Rattle.gl_parts.specs.declared.visits.Way.TheVariants as way
use Rattle.gl_parts.specs.Visiting.{IsClear, IsCopied, IsNextCopy, own_copy, way_of}

-- a main manager that leads the parts is what the laws of the whole need
abbrev pub LeadersLead : Type 0
LeadersLead = (main : Part) (fs : List Follower) → Leads main fs → IsLedBy main (parts fs)

-- a part that obeys the main manager obeys it after a step too, if the command requests in it only what it may
abbrev pub RequestsObey : Type 0
RequestsObey =
    (g : Graph) (main : Part) (f : Follower) (c : Command) (next : Part) → IsLawful f.part.state → AgreesWith g f.part → Obeys main f → MayRequest main f c
    → Takes f.part c next → ((n : NodeId) → is_in n main ≡ true → KeepsName n f.part next)
    → Obeys main (record f { part = next })

-- a step of the main manager lowers a grant only if its command releases, and then only of its transaction: who had there what it has in a part still has it
abbrev pub OthersStayCovered : Type 0
OthersStayCovered =
    (main p : Part) (c : Command) (main' : Part) (n : NodeId) (t : ℕ) → IsLawful main.state → Takes main c main' → KeepsName n main main'
    → (names (txn_at main t) c && releases c) ≡ false → covers main p t n ≡ true
    → covers main' p t n ≡ true

-- an intention on a node that the main manager has too is granted at once in a part that obeys it
abbrev pub IntentionsEnter : Type 0
IntentionsEnter =
    (main : Part) (f : Follower) (n k : NodeId) (t : ℕ) (m : Mode) → Obeys main f → is_in n main ≡ true → f.part.name n ≡ Some k → is_intention m ≡ true
    → enters_at f.part.state t k m ≡ true

-- a manager agrees with the graph of the whole after a step that changes neither its graph nor a name
abbrev pub PlainStepsAgree : Type 0
PlainStepsAgree = (g : Graph) (p p' : Part) → AgreesWith g p → p'.state.graph ≡ p.state.graph → ((n : NodeId) → KeepsName n p p') → AgreesWith g p'

-- a step of a part is an action if the command requests in the part only what it may, nodes of the main manager keep their names, and a node that is new in the
-- part is in no other manager: a row, for example, that is adopted
abbrev pub PartStepsAct : Type 0
PartStepsAct =
    (w : Managers) (before after : List Follower) (f : Follower) (c : Command) (next : Part) → WorkAsOne w → w.followers ≡ before ++ f ∷ after
    → Takes f.part c next → MayRequest w.main f c → ((n : NodeId) → is_in n w.main ≡ true → KeepsName n f.part next)
    → ((n : NodeId) → is_in n f.part ≡ false → is_in n next ≡ true → list_any (is_in n) (w.main ∷ parts (before ++ after)) ≡ false) → AgreesWith w.graph next
    → Acts w (record w { followers = before ++ record f { part = next } ∷ after })

-- a plain step of a part, which changes neither its graph nor a name, is an action if the command requests in the part only what it may
abbrev pub PlainPartSteps : Type 0
PlainPartSteps =
    (w : Managers) (before after : List Follower) (f : Follower) (c : Command) (next : Part) → WorkAsOne w → w.followers ≡ before ++ f ∷ after
    → Takes f.part c next → next.state.graph ≡ f.part.state.graph → ((n : NodeId) → KeepsName n f.part next) → MayRequest w.main f c
    → Acts w (record w { followers = before ++ record f { part = next } ∷ after })

-- a plain step of the main manager is an action, if the parts that have a node on which the command requests more than an intention are marked for it, and if a
-- command that releases leaves its transaction what that has in marked parts
abbrev pub PlainMainSteps : Type 0
PlainMainSteps =
    (w : Managers) (c : Command) (main' : Part) → WorkAsOne w → Takes w.main c main' → main'.state.graph ≡ w.main.state.graph
    → ((n : NodeId) → KeepsName n w.main main') → Each (AreVisited w.main c) w.followers → Each (AreKept w.main c main') w.followers
    → Acts w (record w { main = main' })

-- each action leaves managers that work as one
abbrev pub ActionsKeepLaw : Type 0
ActionsKeepLaw = (w w' : Managers) → WorkAsOne w → Acts w w' → WorkAsOne w'

-- so does each of a run, and no two transactions ever conflict on any node of the whole
abbrev pub RunsHaveNoConflict : Type 0
RunsHaveNoConflict =
    (w : Managers) (ws : List Managers) → WorkAsOne w → Runs w ws → Each (λ v. WorkAsOne v × HasNoConflict (whole v.graph (managers v))) (w ∷ ws)

-- nobody holds anything in the manager, and nobody waits
pub record IsUnused (p : Part) : Type 0 where
  pub held : (t : ℕ) (n : NodeId) → p.state.held t n ≡ NL
  pub queue : (n : NodeId) → p.state.queue n ≡ []

-- unused managers work as one, whatever the marks, if the main one has each node that is in several
abbrev pub UnusedWorkAsOne : Type 0
UnusedWorkAsOne =
    (w : Managers) → ((n : NodeId) → is_in n w.main ≡ false → IsInOne n (parts w.followers)) → Each (λ p. IsUnused p × IsLawful p.state) (managers w)
    → Each (AgreesWith w.graph) (managers w)
    → WorkAsOne w

-- Copies.

-- the step grants the request at once; only memory, or the count of accepted commands, may refuse it
abbrev pub GrantsAtOnce : State → TxnId → NodeId → Mode → Answer → State → Type 0
GrantsAtOnce s t n m a s' =
    ((a ≡ answer.Granted (wanted s t.slot n m)) × (s' ≡ accepted_once (granted s t.slot n m)))
    ⊎ (((a ≡ answer.Refused no.NoMemory) ⊎ (a ≡ answer.Refused no.WornOut)) × (s' ≡ s))

-- what u has on n in a part that is not marked for n can be copied: if u is active in the main manager, and what it holds there on the parents of n meets the
-- rule of the graph, a lock of n in the mode that u has in the part is granted at once
abbrev pub CopiesAreGranted : Type 0
CopiesAreGranted =
    (w : Managers) (before after : List Follower) (f : Follower) (u : TxnId) (n k : NodeId) → WorkAsOne w → w.followers ≡ before ++ f ∷ after
    → f.marked n ≡ false → held_at f.part u.slot n ≢ NL → w.main.name n ≡ Some k → is_record_shape (shape_of w.main.state.graph k) ≡ false
    → IsActing w.main.state u → intends w.main.state u.slot k (held_at f.part u.slot n) ≡ true
    → (a : Answer) (told : Told) (s' : State) → Step w.main.state (command.Lock u k (held_at f.part u.slot n)) a told s'
    → GrantsAtOnce w.main.state u k (held_at f.part u.slot n) a s'

-- a step of a part leaves there only what can be copied, if who requests more than it has in the main manager is ready there
abbrev pub RequestsCanCopy : Type 0
RequestsCanCopy =
    (g : Graph) (main : Part) (f : Follower) (c : Command) (next : Part) → IsLawful f.part.state → AgreesWith g f.part → Obeys main f → AskersAreReady main f c
    → Takes f.part c next → ((n : NodeId) → is_in n main ≡ true → KeepsName n f.part next) → CanCopy main f
    → CanCopy main (record f { part = next })

-- a step of the main manager leaves in a part only what can be copied, if a transaction whose lock waits has in the main manager what it has in the part
abbrev pub MainStepsCanCopy : Type 0
MainStepsCanCopy =
    (main : Part) (f : Follower) (c : Command) (main' : Part) → IsLawful main.state → Takes main c main'
    → ((n : NodeId) → is_in n f.part ≡ true → KeepsName n main main')
    → ((n : NodeId) (t : ℕ) → is_in n main ≡ true → (names (txn_at main t) c && may_wait c) ≡ true → covers main' f.part t n ≡ false
    → is_ready (status_of main'.state t) ≡ true)
    → CanCopy main f
    → CanCopy main' f

-- a transaction joins the main manager by an action, unless no age or no command can be counted any more
pub record JoinsMain (w : Managers) (t since : ℕ) (a : Answer) (s' : State) : Type 0 where
  pub outcome : (s' ≡ accepted_once (joined w.main.state t since)) ⊎ ((a ≡ answer.Refused no.WornOut) × (s' ≡ w.main.state))
  pub action : Acts w (record w { main = record w.main { state = s' } })

-- a visitor can join the main manager for any slot that is free there
abbrev pub VisitorsJoin : Type 0
VisitorsJoin =
    (w : Managers) (t since : ℕ) → WorkAsOne w → is_none (w.main.state.txns t) ≡ true → t < w.main.state.most → (a : Answer) (told : Told) (s' : State)
    → Step w.main.state (command.Join t since) a told s'
    → JoinsMain w t since a s'

-- a lock that copies what t has on n in the part to the main manager is an action, and is granted at once; then t has there what it has in the part
pub record Copies (w : Managers) (f : Follower) (t : ℕ) (n k : NodeId) (a : Answer) (s' : State) : Type 0 where
  pub at_once : GrantsAtOnce w.main.state (txn_at w.main t) k (held_at f.part t n) a s'
  pub action : Acts w (record w { main = record w.main { state = s' } })
  pub copied : (m : Mode) → a ≡ answer.Granted m → covers (record w.main { state = s' }) f.part t n ≡ true

-- so a visit never waits: what a transaction of the main manager has on n in a part that is not marked for n, and not in the main manager, is copied by a lock,
-- after what it has in the part on the parents of n
abbrev pub VisitsNeverWait : Type 0
VisitsNeverWait =
    (w : Managers) (before after : List Follower) (f : Follower) (t : ℕ) (n k : NodeId) → WorkAsOne w → w.followers ≡ before ++ f ∷ after → CanCopy w.main f
    → is_some (w.main.state.txns t) ≡ true → f.marked n ≡ false → covers w.main f.part t n ≡ false → w.main.name n ≡ Some k
    → is_record_shape (shape_of w.main.state.graph k) ≡ false → list_all (covers w.main f.part t) (parents_of w.graph n) ≡ true
    → (a : Answer) (told : Told) (s' : State) → Step w.main.state (command.Lock (txn_at w.main t) k (held_at f.part t n)) a told s'
    → Copies w f t n k a s'

-- Visits.

-- what is next to copy is not covered; it is what its transaction holds in the part
abbrev pub NextIsUncovered : Type 0
NextIsUncovered =
    (main p : Part) (n k j : NodeId) (c : ToCopy) → main.name n ≡ Some k → p.name n ≡ Some j → IsNextCopy main.state k p.state j c
    → (covers main p c.slot n ≡ false) × (c.mode ≡ held_at p c.slot n)

-- what a transaction of its own has to copy is not covered; if there is none, all is
abbrev pub OwnIsUncovered : Type 0
OwnIsUncovered =
    (main p : Part) (n k j : NodeId) (t : ℕ) → main.name n ≡ Some k → p.name n ≡ Some j
    → (own_copy main.state k p.state j t ≡ None → covers main p t n ≡ true)
    × ((m : Mode) → own_copy main.state k p.state j t ≡ Some m → (covers main p t n ≡ false) × (m ≡ held_at p t n))

-- if nothing is left to copy, the part may be marked
abbrev pub CopiedMayMark : Type 0
CopiedMayMark =
    (w : Managers) (before after : List Follower) (f : Follower) (n k j : NodeId) → w.followers ≡ before ++ f ∷ after → w.main.name n ≡ Some k
    → f.part.name n ≡ Some j → IsCopied w.main.state k f.part.state j
    → Acts w (record w { followers = before ++ with_mark f n true ∷ after })

-- if nobody has more than an intention on the node in the main manager, or waits there for it, a part may lose its mark
abbrev pub ClearMayUnmark : Type 0
ClearMayUnmark =
    (w : Managers) (before after : List Follower) (f : Follower) (n k : NodeId) → w.followers ≡ before ++ f ∷ after → w.main.name n ≡ Some k
    → IsClear w.main.state k
    → Acts w (record w { followers = before ++ with_mark f n false ∷ after })

-- Where requests are made.

-- the command requests the mode on k, and k is the name of n alone
pub record RequestsOn (p : Part) (n k : NodeId) (t : TxnId) (m : Mode) (c : Command) : Type 0 where
  pub by : (c ≡ command.Lock t k m) ⊎ (c ≡ command.Try t k m)
  pub here : p.name n ≡ Some k
  pub alone : (q : NodeId) → p.name q ≡ Some k → q ≡ n

-- where a mode is requested on a node of the part
abbrev pub way_to : Part → Follower → NodeId → Mode → Way
way_to main f n m = way_of m (is_in n main) (f.marked n)

-- what is to be requested in the part may be requested there, whatever the main manager has
abbrev pub HereIsAllowed : Type 0
HereIsAllowed =
    (main : Part) (f : Follower) (n k : NodeId) (t : TxnId) (m : Mode) (c : Command) → RequestsOn f.part n k t m c → way_to main f n m ≡ way.Here
    → MayRequest main f c

-- what is to be requested in the main manager first may be requested in the part once its transaction holds it there
abbrev pub AfterMainIsAllowed : Type 0
AfterMainIsAllowed =
    (main : Part) (f : Follower) (n k : NodeId) (t : TxnId) (m : Mode) (c : Command) → RequestsOn f.part n k t m c → way_to main f n m ≡ way.AfterMain
    → is_at_least (held_at main t.slot n) m ≡ true
    → MayRequest main f c

-- what is to be requested in the main manager alone may never be requested in the part
abbrev pub InMainIsRefused : Type 0
InMainIsRefused =
    (main : Part) (f : Follower) (n k : NodeId) (t : TxnId) (m : Mode) (c : Command) → RequestsOn f.part n k t m c → way_to main f n m ≡ way.InMain
    → MayRequest main f c
    → ⊥

-- Paths.

-- t lacks nothing for a path to the target: on each node for which the part is marked and that such a path passes, it holds the intention in the part or in the
-- main manager
abbrev pub LacksNothing : Part → Follower → ℕ → Target → Type 0
LacksNothing main f t x =
    (n k j : NodeId) → main.name n ≡ Some k → f.part.name n ≡ Some j → f.marked n ≡ true
    → Lacks (Some main.state) f.part.state t x (record { in_main = k; in_part = j }) → ⊥

-- these are the marks of the part: each node of the main manager for which it is marked is listed by its names
abbrev pub ListsMarks : Part → Follower → List Mark → Type 0
ListsMarks main f marks =
    (n k j : NodeId) → main.name n ≡ Some k → f.part.name n ≡ Some j → f.marked n ≡ true → (before after : List Mark)
    × (marks ≡ before ++ record { in_main = k; in_part = j } ∷ after)

-- if no mark is lacked nothing is, also if the main manager was not looked at
abbrev pub ListedLackNothing : Type 0
ListedLackNothing =
    (main : Part) (f : Follower) (marks : List Mark) (t : ℕ) (x : Target) → ListsMarks main f marks
    → (IsFirst (Lacks (Some main.state) f.part.state t x) marks None → LacksNothing main f t x)
    × (IsFirst (Lacks None f.part.state t x) marks None → LacksNothing main f t x)

-- the nodes that the part shares with the main manager are inner nodes there
abbrev pub SharesInner : Part → Part → Type 0
SharesInner main p = (n j : NodeId) → is_in n main ≡ true → p.name n ≡ Some j → is_inner_shape (shape_of p.state.graph j) ≡ true

-- the command requests this
abbrev pub AsksFor : TxnId → Ask → Command → Type 0
AsksFor t ask c = (c ≡ command.Lock t ask.0 ask.1) ⊎ (c ≡ command.Try t ask.0 ask.1)

-- each request of a path to a node of the part may be carried out there, if its transaction lacks nothing
abbrev pub PathsMayRequest : Type 0
PathsMayRequest =
    (main : Part) (f : Follower) (t : TxnId) (x : Target) (first : Ask) (c : Command) → IsLawful f.part.state → Obeys main f → SharesInner main f.part
    → x.is_row ≡ false → is_inner_shape (shape_of f.part.state.graph x.node) ≡ false → LacksNothing main f t.slot x
    → ComesFirst f.part.state t (x.node, x.mode) first → AsksFor t first c
    → MayRequest main f c

-- so may each request of a path to a record of a file, if its transaction lacks nothing for a row of the file
abbrev pub RowPathsMayRequest : Type 0
RowPathsMayRequest =
    (main : Part) (f : Follower) (t : TxnId) (x : Target) (r : NodeId) (first : Ask) (c : Command) → IsLawful f.part.state → Obeys main f
    → SharesInner main f.part → x.is_row ≡ true → is_record_shape (shape_of f.part.state.graph r) ≡ true → first_parent f.part.state.graph r ≡ x.node
    → LacksNothing main f t.slot x → ComesFirst f.part.state t (r, x.mode) first → AsksFor t first c
    → MayRequest main f c

-- who lacks nothing lacks nothing after the part is marked for one node more, if it does not lack the intention there
abbrev pub MarksKeepPaths : Type 0
MarksKeepPaths =
    (main : Part) (f : Follower) (t : ℕ) (x : Target) (n k j : NodeId) → LacksNothing main f t x → main.name n ≡ Some k → f.part.name n ≡ Some j
    → (Lacks (Some main.state) f.part.state t x (record { in_main = k; in_part = j }) → ⊥)
    → LacksNothing main (with_mark f n true) t x

-- so it does after a step of the main manager, unless the command releases something of its transaction
abbrev pub MainStepsKeepPaths : Type 0
MainStepsKeepPaths =
    (main : Part) (f : Follower) (c : Command) (main' : Part) (t : ℕ) (x : Target) → IsLawful main.state → Takes main c main'
    → ((n : NodeId) → KeepsName n main main') → (names (txn_at main t) c && releases c) ≡ false → LacksNothing main f t x
    → LacksNothing main' f t x

-- and after a step of the part, whoever takes it, that changes no name, and after which a path to the target passes no node more, as after one that changes no
-- graph
abbrev pub PartStepsKeepPaths : Type 0
PartStepsKeepPaths =
    (main : Part) (f : Follower) (next : Part) (t : ℕ) (x : Target) → Obeys main f
    → ((n : NodeId) → Passes next.state.graph x n → Passes f.part.state.graph x n) → ((n : NodeId) → KeepsName n f.part next) → LacksNothing main f t x
    → LacksNothing main (record f { part = next }) t x

-- a path to a row of a file passes no node more after the node of a row was made, of that file or another
abbrev pub AdoptsPassNoMore : Type 0
AdoptsPassNoMore =
    (g g' : Graph) (r file : NodeId) (keys : List ℕ) (x : Target) (n : NodeId) → IsLawfulGraph g → IsAdopted g g' r file keys → x.is_row ≡ true
    → Passes g' x n
    → Passes g x n

-- New indexes.

-- after an index of a file was made, beside records or not, a call that waits for a row of the file needs a key more, for the index; any other needs the keys
-- that it has brought
abbrev pub IndexesNeedKeys : Type 0
IndexesNeedKeys =
    (g g' : Graph) (i : NodeId) (ps : List NodeId) (f : NodeId) (bs : List ℕ) (rs : List NodeId) (ks : List ℕ) (x : Target) → IsLawfulGraph g
    → IsIndexOver g g' i ps f bs rs ks
    → keyed_by g' x ≡ keyed_by g x ++ (if is_row_of f x then i ∷ [] else [])

-- a path to the target passes the index, which it did not pass before, and each parent of that
pub record PassesMore (g g' : Graph) (x : Target) (i : NodeId) (ps : List NodeId) : Type 0 where
  pub index : Passes g' x i
  pub is_new : Passes g x i → ⊥
  pub above : (p : NodeId) → list_any (same_node p) ps ≡ true → Passes g' x p

-- a path to write passes more if its wait is ended: that to a row of the file, and that to a record of it by its node
abbrev pub IndexesPassMore : Type 0
IndexesPassMore =
    (g g' : Graph) (i : NodeId) (ps : List NodeId) (f : NodeId) (bs : List ℕ) (rs : List NodeId) (ks : List ℕ) (x : Target) → IsLawfulGraph g
    → IsIndexOver g g' i ps f bs rs ks → are_keyed g f rs ks ≡ true → is_write x.mode ≡ true → can_have g x ≡ true → after_index g' x f ≢ after.WaitsOn
    → PassesMore g g' x i ps

-- a path to a node that lives passes what it passed if its wait goes on, and if it is one to read
abbrev pub OthersPassTheSame : Type 0
OthersPassTheSame =
    (g g' : Graph) (i : NodeId) (ps : List NodeId) (f : NodeId) (bs : List ℕ) (rs : List NodeId) (ks : List ℕ) (x : Target) → IsLawfulGraph g
    → IsIndexOver g g' i ps f bs rs ks → are_keyed g f rs ks ≡ true → is_live g x.node ≡ true
    → (after_index g' x f ≡ after.WaitsOn) ⊎ (is_write x.mode ≡ false) → (n : NodeId) → Passes g' x n ↔ Passes g x n

-- Moves.

-- after a node was moved to other parents, a path passes it if it passed it before, and only then
abbrev pub MovesPassTheNode : Type 0
MovesPassTheNode = (g : Graph) (n : NodeId) (ps : List NodeId) (x : Target) → is_live g n ≡ true → Passes (with_parents g n ps) x n ↔ Passes g x n

-- a path that does not pass it passes what it passed
abbrev pub MovesPassTheSame : Type 0
MovesPassTheSame =
    (g : Graph) (n : NodeId) (ps : List NodeId) (x : Target) → is_live g n ≡ true → (Passes g x n → ⊥) → (m : NodeId)
    → Passes (with_parents g n ps) x m ↔ Passes g x m

-- a part has the node n by the name k, which no other node has there, and no other manager has it
pub record IsAlone (w : Managers) (before after : List Follower) (f : Follower) (n k : NodeId) : Type 0 where
  pub followers : w.followers ≡ before ++ f ∷ after
  pub name : f.part.name n ≡ Some k
  pub one : (q : NodeId) → f.part.name q ≡ Some k → q ≡ n
  pub apart : list_any (is_in n) (w.main ∷ parts (before ++ after)) ≡ false

-- the graph of the whole in which the node has these parents; each other node has there those that it had
pub record HasNewParents (g g' : Graph) (n : NodeId) (ps : List NodeId) : Type 0 where
  pub here : parents_of g' n ≡ ps
  pub others : (q : NodeId) → q ≢ n → parents_of g' q ≡ parents_of g q

-- in the part the node has the parents with these names, and no name changed
pub record IsMoved (f : Follower) (k : NodeId) (ps qs : List NodeId) (next : Part) : Type 0 where
  pub named : map f.part.name ps ≡ map (λ q. Some q) qs
  pub graph : next.state.graph ≡ with_parents f.part.state.graph k qs
  pub names : (n : NodeId) → KeepsName n f.part next

-- after a node that one part alone has was moved there to nodes of that part, all managers agree with the graph in which it has these parents
abbrev pub MovesAgree : Type 0
MovesAgree =
    (w : Managers) (before after : List Follower) (f : Follower) (n k : NodeId) (ps qs : List NodeId) (next : Part) (g' : Graph)
    → Each (AgreesWith w.graph) (managers w) → IsAlone w before after f n k → IsMoved f k ps qs next → HasNewParents w.graph g' n ps
    → Each (AgreesWith g') (managers (record w { followers = before ++ record f { part = next } ∷ after }))

-- the move is an action
abbrev pub MovesAct : Type 0
MovesAct =
    (w : Managers) (before after : List Follower) (f : Follower) (t : TxnId) (n k : NodeId) (ps : List NodeId) (qs : Bor (List NodeId)) (next : Part)
    (g' : Graph) → WorkAsOne w → IsAlone w before after f n k → Takes f.part (command.Move t k qs) next → IsMoved f k ps qs.now next
    → HasNewParents w.graph g' n ps
    → Acts w (record w { graph = g'; followers = before ++ record f { part = next } ∷ after })

-- Requests in progress.

-- for a node with requests for more than an intention in progress, so many, the part is marked if it has the node
abbrev pub IsMarkedAhead : (NodeId → ℕ) → Follower → Type 0
IsMarkedAhead in_progress f = (n : NodeId) → is_in n f.part ≡ true → in_progress n ≢ 0 → f.marked n ≡ true

-- so a request for more that is in progress finds the parts marked
abbrev pub ProgressIsVisited : Type 0
ProgressIsVisited =
    (main : Part) (f : Follower) (c : Command) (in_progress : NodeId → ℕ) → IsMarkedAhead in_progress f
    → ((n : NodeId) (t : ℕ) → is_intention (requests_at main c t n) ≡ false → in_progress n ≢ 0)
    → AreVisited main c f

-- if the marks for a node may be cleared, a part loses its mark by an action, and is still marked for each node with a request in progress
pub record Unmarks (w w' : Managers) (f' : Follower) (in_progress : NodeId → ℕ) : Type 0 where
  pub action : Acts w w'
  pub ahead : IsMarkedAhead in_progress f'

abbrev pub ClearsKeepProgress : Type 0
ClearsKeepProgress =
    (w : Managers) (before after : List Follower) (f : Follower) (n k : NodeId) (in_progress : NodeId → ℕ) → w.followers ≡ before ++ f ∷ after
    → w.main.name n ≡ Some k → MayClear w.main.state k (in_progress n) → IsMarkedAhead in_progress f
    → Unmarks w (record w { followers = before ++ with_mark f n false ∷ after }) (with_mark f n false) in_progress

-- Waits in all managers, on one board.

-- the board shows who waits for whom in any of the managers
abbrev pub ShowsWaits : Board → List Part → Type 0
ShowsWaits b ps = (t u : ℕ) → board_edge b t u ≡ waits_in ps t u

-- a board without waits shows those of no manager; with the board of one more manager, or of one in which nobody waits left out, those of one manager more; and
-- then who is on a cycle of the board is on one of the whole, and the other way round
pub record BoardsJoin : Type 0 where
  pub none : (b : Board) → ShowsNobody b → ShowsWaits b []
  pub one_more : (b added joined : Board) (p : Part) (ps : List Part) → ShowsWaits b ps → ((t u : ℕ) → board_edge added t u ≡ waits_for p.state t u)
      → ((t u : ℕ) → board_edge joined t u ≡ (board_edge b t u || board_edge added t u)) → ShowsWaits joined (p ∷ ps)
  pub left_out : (b : Board) (p : Part) (ps : List Part) → ShowsWaits b ps → ((t u : ℕ) → waits_for p.state t u ≡ false) → ShowsWaits b (p ∷ ps)
  pub cycles : (b : Board) (ps : List Part) (t : ℕ) → ShowsWaits b ps → IsOnCycle (board_edge b) t ↔ IsOnCycle (waits_in ps) t
