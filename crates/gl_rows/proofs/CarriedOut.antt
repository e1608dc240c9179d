-- Each call about rows is one step of its own command, with records adopted and forgotten before and after it; and rows keep the law of names. For
-- Registry.apply.
use Rattle.std.specs.Prelude.{◌≡◌, ℕ, Bool, true, false, List, [], ◌∷◌, Option, Some, None, Result, Ok, Err, cond, unwrap_or}
use Rattle.std.specs.Map.{lookup}
use Rattle.std.proofs.Common.{refl, sym, ap, subst, ◌∙◌, inl, inr}
use denote.Bor.{Bor}
use Rattle.gl_modes.proofs.NodeLemmas.{same_node-equal}
use Rattle.gl_modes.proofs.Words.{clash, or_elim, or_right}
use Rattle.gl_modes.specs.Nodes.{same_node}
use Rattle.gl_modes.specs.declared.node.NodeId.{NodeId}
use Rattle.gl_modes.specs.declared.refusal.Refusal.{Refusal}
use Rattle.gl_graph.specs.Graph.{Graph, first_parent, is_live, shape_of}
use Rattle.gl_graph.specs.Shapes.{is_record_shape}
use Rattle.gl_model.specs.declared.txn.TxnId.{TxnId}
use Rattle.gl_model.specs.Lawful.{IsLawful}
use Rattle.gl_model.specs.Tellings.{Told}
use Rattle.gl_steps.specs.declared.command.Answer.{Answer}
use Rattle.gl_steps.specs.declared.command.Answer.TheVariants as answer
use Rattle.gl_steps.specs.declared.command.Command.{Command}
use Rattle.gl_steps.specs.declared.command.Command.TheVariants as command
use Rattle.gl_steps.specs.Step.{answer_of_lock}
use Rattle.gl_steps.proofs.StepBelow.{file_stands}
use Rattle.gl_steps.proofs.StepsKeepLaw.{steps_keep_law}
use Rattle.gl_catalog.specs.Adopting.{AdoptsLocked}
use Rattle.gl_catalog.specs.Counters.{refuses}
use Rattle.gl_catalog.specs.Deadlocks.{KeepsAccepted, KeptBy}
use Rattle.gl_catalog.specs.Manager.{ManagerView, state_of}
use Rattle.gl_catalog.specs.Replies.{made, said}
use Rattle.gl_catalog.proofs.Uncounted.{raised_by_none}
use Rattle.gl_rows.specs.declared.answer.RowAnswer.{RowAnswer}
use Rattle.gl_rows.specs.declared.answer.RowLocked.{RowLocked}
use Rattle.gl_rows.specs.declared.answer.RowRefusal.{RowRefusal}
use Rattle.gl_rows.specs.declared.answer.RowRefusal.TheVariants as row_no
use Rattle.gl_rows.specs.declared.call.RowCall.{RowCall}
use Rattle.gl_rows.specs.declared.call.RowCall.TheVariants as call
use Rattle.gl_rows.specs.declared.row.Row.{Row}
use Rattle.gl_rows.specs.Answers.{done_said, lock_said}
use Rattle.gl_rows.specs.Applying.{AppliesRow, CarriesOut, StepsAmid, Upkeep, answer_in, naming, own_command, plainly}
use Rattle.gl_rows.specs.Files.{MakesFile}
use Rattle.gl_rows.specs.Locking.{Does, IsRefused, LocksBy, LocksRow, NamesNew, Registers, SameAccount, Wish, forgets}
use Rattle.gl_rows.specs.Names.{NamesHold}
use Rattle.gl_rows.specs.Releasing.{LetsEachGo, RekeysBy, UnlocksBy, named_or_none, no_node, node_for, node_or_no}
use Rattle.gl_rows.specs.Rows.{RowsView, has_rows, name_of, rows_left, same_row}
use Rattle.gl_rows.proofs.Accepted.{accepted_of, lock_answers}
use Rattle.gl_rows.proofs.Adopted.{adopted_placed, enters_new, new_dead, node_is, replaced_placed}
use Rattle.gl_rows.proofs.GraphChanges.{is_of_nodes, step_graph, touches}
use Rattle.gl_rows.proofs.LettingGo.{each_then, let_go_changes, one_goes}
use Rattle.gl_rows.proofs.NameChanges.{ChangesNames, names_same, names_stay, same_records}
use Rattle.gl_rows.proofs.RowNames.{keeps_name, same_row-refl}
use Rattle.gl_rows.proofs.Tidied.{each_goes}
use Rattle.gl_rows.proofs.Touched.{step_records}
use Rattle.gl_rows.proofs.Upkeep.{upkeep_law, upkeep_none, upkeep_one}

-- what a command records of deadlocks, by its answer
kept_by : (c : Command) (m m' : ManagerView) (a : Answer) → refuses a ≡ false → KeepsAccepted c m m'
    → KeptBy c (state_of m) m.table.deadlock a (state_of m') m'.table.deadlock
kept_by c m m' (answer.Refused r) said keeps = clash refl said
kept_by c m m' a said keeps = keeps

-- the node that a call uses is that of its own command
same_node_for : (v : RowsView) (row : Row) (n : NodeId) → node_for v row ≡ Ok n → named_or_none v row ≡ n
same_node_for v row n e = by (name_of v row) (has_rows v row.file) e
  where
    by : (o : Option NodeId) (b : Bool) → node_or_no o b ≡ Ok n → unwrap_or o no_node ≡ n
    by (Some k) b e = cc
    by None true e = cc
    by None false e = absurd (cc e)

-- what a call does by its command, with this answer
pub record Course (m : ManagerView) (v : RowsView) (c : Command) (o : Option Answer) (told : Told) (m' : ManagerView) (v' : RowsView) : Type 0 where
  pub out : CarriesOut m c o told m'
  pub names : ChangesNames v v' (state_of m).graph (state_of m').graph

module _ (m m' : ManagerView) (v v' : RowsView) (law : IsLawful (state_of m)) (holds : NamesHold v (state_of m).graph) (told : Told) where
  abbrev g : Graph
  g = (state_of m).graph

  abbrev g' : Graph
  g' = (state_of m').graph

  abbrev Out : Command → Option Answer → Type 0
  Out c o = Course m v c o told m' v'

  pub unchanged : m' ≡ m → v' ≡ v → ChangesNames v v' g g'
  unchanged manager rows =
      names_stay v v' g g' holds (ap (λ (x : RowsView). x.files) rows) (λ q. ap (λ (x : RowsView). name_of x q) rows)
      (same_records (has_rows v) g g' (ap (λ (x : ManagerView). (state_of x).graph) manager))

  -- it is refused
  refused : (c : Command) (r : Refusal) → told ≡ [] → m' ≡ m → v' ≡ v → Out c (Some (answer.Refused r))
  refused c r none manager rows = record { out = inr (refl, (none, manager)); names = unchanged manager rows }

  -- the file is not one of rows
  not_rows : (c : Command) → told ≡ [] → m' ≡ m → v' ≡ v → Out c None
  not_rows c none manager rows = record { out = (none, manager); names = unchanged manager rows }

  is_refused : (c d : Command) (r : Refusal) → IsRefused m v d r told m' v' → Out c (Some (answer.Refused r))
  is_refused c d r h = refused c r h.nobody_told h.same_manager h.same_rows

  -- a command of the manager, after which records may be forgotten
  amid : (mid : ManagerView) (c : Command) (a : Answer) → refuses a ≡ false → Does m c (a, told) mid → Upkeep (state_of mid) (state_of m')
      → SameAccount mid m' → StepsAmid m c a told m'
  amid mid c a said does after account = record {
    ahead = state_of m;
    behind = state_of mid;
    before = upkeep_none (state_of m) (state_of m) refl;
    step = does.step;
    after = after;
    counters = account.0 ∙ does.completes.counters;
    deadlock = subst (λ d. KeptBy c (state_of m) m.table.deadlock a (state_of mid) d) (sym account.1) (kept_by c m mid a said does.completes.deadlock);
  }

  alone : (c : Command) (a : Answer) → refuses a ≡ false → Does m c (a, told) m' → StepsAmid m c a told m'
  alone c a said does = amid m' c a said does (upkeep_none (state_of m') (state_of m') refl) (refl, refl)

  -- a command about locks, after which rows are let go
  lets_go : (mid : ManagerView) (c : Command) (a : Answer) → refuses a ≡ false → is_of_nodes c ≡ false → Does m c (a, told) mid → SameAccount mid m'
      → v'.files ≡ v.files → (rows : List Row) → LetsEachGo (state_of mid) v.names rows (state_of m') v'.names → Out c (Some a)
  lets_go mid c a said of_locks does account files rows goes = record {
    out = inl (amid mid c a said does (each_goes (state_of mid) (state_of m') v.names v'.names rows goes) account);
    names = let_go_changes v v' g (state_of mid) (state_of m') (step_graph (state_of m) c a told (state_of mid) of_locks does.step)
        (steps_keep_law (state_of m) (state_of mid) c a told law does.step) holds files rows goes;
  }

  -- a command that makes and removes no record of a file of rows, and leaves each row its node
  stays : (c : Command) (a : Answer) → refuses a ≡ false → touches (has_rows v) g c ≡ false → Does m c (a, told) m' → v'.files ≡ v.files
      → ((q : Row) → name_of v' q ≡ name_of v q) → Out c (Some a)
  stays c a said off does files same = record {
    out = inl (alone c a said does);
    names = names_stay v v' g g' holds files same (step_records (has_rows v) (state_of m) (state_of m') c a told law off does.step);
  }

  -- A row's release, and another key for it.

  module _ (t : TxnId) (row : Row) where
    -- the command with the node that the call uses
    on_node : (by : NodeId → Command) (o : Option Answer) (n : NodeId) → node_for v row ≡ Ok n → Out (by n) o → Out (by (named_or_none v row)) o
    on_node by o n e course = subst (λ k. Out (by k) o) (sym (same_node_for v row n e)) course

    unlocks : (o : Result NodeId RowRefusal) → node_for v row ≡ o → (result : Result (Unit {0}) RowRefusal) → UnlocksBy o m v t row result told m' v'
        → Out (command.Unlock t (named_or_none v row)) (answer_in (done_said result))
    unlocks (Err r) e (Ok u) h = absurd (cc h.answer_is)
    unlocks (Err r) e (Err (row_no.Refused q)) h = refused _ q h.nobody_told h.same_manager h.same_rows
    unlocks (Err r) e (Err row_no.NotRows) h = not_rows _ h.nobody_told h.same_manager h.same_rows
    unlocks (Ok n) e (Ok u) h =
        let released = steps_keep_law (state_of m) (state_of h.mid) (command.Unlock t n) answer.Done told law h.unlocks.step in
        let own = one_goes (state_of h.mid) (state_of h.after) released v.names h.rest.names row h.own.gone h.own.goes in
        let lawful = upkeep_law (state_of h.mid) (state_of h.after) released
        (each_goes (state_of h.mid) (state_of h.after) v.names h.rest.names (row ∷ []) own) in
        on_node (command.Unlock t) (Some answer.Done) n e
        (lets_go h.mid (command.Unlock t n) answer.Done refl refl h.unlocks
        (h.others.account.0 ∙ h.own.account.0, h.others.account.1 ∙ h.own.account.1) (h.others.files ∙ h.own.files) (row ∷ rows_left h.rest)
        (each_then (state_of h.mid) (state_of h.after) (state_of m') lawful v.names h.rest.names v'.names (row ∷ []) (rows_left h.rest) own h.others.goes))
    unlocks (Ok n) e (Err (row_no.Refused r)) h = is_refused _ (command.Unlock t n) r h
    unlocks (Ok n) e (Err row_no.NotRows) h = absurd h

    rekeys : (index : NodeId) (key : ℕ) (o : Result NodeId RowRefusal) → node_for v row ≡ o → (result : Result (Unit {0}) RowRefusal)
        → RekeysBy o m v t index key result told m' v' → Out (command.Rekey t (named_or_none v row) index key) (answer_in (done_said result))
    rekeys index key (Err r) e (Ok u) h = absurd (cc h.answer_is)
    rekeys index key (Err r) e (Err (row_no.Refused q)) h = refused _ q h.nobody_told h.same_manager h.same_rows
    rekeys index key (Err r) e (Err row_no.NotRows) h = not_rows _ h.nobody_told h.same_manager h.same_rows
    rekeys index key (Ok n) e (Ok u) h =
        on_node (λ k. command.Rekey t k index key) (Some answer.Done) n e (stays (command.Rekey t n index key) answer.Done refl refl h.0
        (ap (λ (x : RowsView). x.files) h.1) (λ q. ap (λ (x : RowsView). name_of x q) h.1))
    rekeys index key (Ok n) e (Err (row_no.Refused r)) h = is_refused _ (command.Rekey t n index key) r h
    rekeys index key (Ok n) e (Err row_no.NotRows) h = absurd h

  -- A file of rows.

  files : (ps : Bor (List NodeId)) (result : Result NodeId Refusal) → MakesFile m v ps result m' v' → told ≡ []
      → Out (command.File ps) (answer_in (plainly made result))
  files ps (Ok f) h none = record {
    out = inl (alone (command.File ps) (answer.Node f) refl (subst (λ (l : Told). Does m (command.File ps) (answer.Node f, l) m') (sym none) h.0));
    names = names_same v v' g g' holds (λ q. ap (lookup (same_row q)) h.1.names)
        (step_records (has_rows v) (state_of m) (state_of m') (command.File ps) (answer.Node f) [] law refl h.0.step)
        (λ q r e. h.1.files q.file ∙ or_right (same_node f q.file) (has_rows v q.file) (holds.within q r e))
        (λ r rec of. or_elim (same_node f (first_parent g' r)) (has_rows v (first_parent g' r)) (sym (h.1.files (first_parent g' r)) ∙ of)
        (λ e. absurd (empty r rec (sym (same_node-equal f (first_parent g' r) e)))) (λ e. e));
  }
    where
      -- it has no record, since it is new
      empty : (r : NodeId) → is_record_shape (shape_of g' r) ≡ true → first_parent g' r ≡ f → ⊥
      empty r rec e =
          let acc = accepted_of (state_of m) (command.File ps) (answer.Node f) [] (state_of m') refl refl h.0.step in
          let new = new_dead (state_of m) law f (ap (λ (x : NodeId). x.birth) (node_is acc.1.2) ∙ acc.1.1.birth) in
          let is = (step_records (λ n. true) (state_of m) (state_of m') (command.File ps) (answer.Node f) [] law refl h.0.step).back r rec refl in
          clash (file_stands g law.graph r is.was) (ap (is_live g) (sym is.file ∙ e) ∙ new)
  files ps (Err r) (inl h) none = refused (command.File ps) r none h.same_manager h.same_rows
  files ps (Err r) (inr h) none = refused (command.File ps) r none h.same_manager h.same_rows

  -- A row's lock.

  module _ (w : Wish) where
    abbrev own : Command
    own = command.Lock w.txn (named_or_none v' w.row) w.mode

    -- on the node that the row has afterwards
    of_node : (n : NodeId) (o : Option Answer) → Registers v v' w.txn.slot w.row n → Out (command.Lock w.txn n w.mode) o → Out own o
    of_node n o reg course = subst (λ k. Out (command.Lock w.txn k w.mode) o)
        (sym (ap (λ o. unwrap_or o no_node) (reg.names w.row ∙ ap (λ b. cond b (Some n) (name_of v w.row)) (same_row-refl w.row)))) course

    -- a record that was adopted is locked at once
    placed : (x : RowLocked) (mid : ManagerView) → NamesNew v w x told v' → AdoptsLocked m w.txn w.row.file w.keys w.mode x.node mid
        → Upkeep (state_of mid) (state_of m') → SameAccount mid m' → ChangesNames v v' g g' → Out own (Some (answer_of_lock x.locked))
    placed x mid new h after account names = of_node x.node (Some (answer_of_lock x.locked)) new.registers (record {
      out = inl (subst (λ (l : Told). StepsAmid m (command.Lock w.txn x.node w.mode) (answer_of_lock x.locked) l m') (sym new.nobody_told)
          (subst (λ a. StepsAmid m (command.Lock w.txn x.node w.mode) a [] m') (sym (ap (λ (y : RowLocked). answer_of_lock y.locked) new.answer_is)) (record {
            ahead = h.mid;
            behind = state_of mid;
            before = upkeep_one (state_of m) h.mid (command.Adopt w.row.file w.keys, made x.node) refl (h.mid, h.adopts, refl);
            step = h.locks;
            after = after;
            counters = account.0 ∙ h.counters;
            deadlock = record {
              at_once = λ e. account.1 ∙ h.deadlock;
              waits = λ e. clash (enters_new m mid law w x.node h) e;
            };
          })));
      names = names;
    })

    by_name : (o : Option NodeId) → name_of v w.row ≡ o → (result : Result RowLocked RowRefusal) → LocksBy o m v w result told m' v'
        → Out own (answer_in (lock_said result))
    by_name None e (Ok x) (inl (none, h)) = absurd (cc h.answer_is)
    by_name None e (Err (row_no.Refused r)) (inl (none, h)) = absurd (cc h.answer_is)
    by_name None e (Err row_no.NotRows) (inl (none, h)) = not_rows own h.nobody_told h.same_manager h.same_rows
    by_name None e (Ok x) (inr (of_rows, h)) =
        placed x m' h.1 h.0 (upkeep_none (state_of m') (state_of m') refl) (refl, refl)
        (adopted_placed m m' v v' law holds w x told h.1 e of_rows h.0)
    by_name None e (Err (row_no.Refused r)) (inr (of_rows, h)) = refused own r h.nobody_told h.same_manager h.same_rows
    by_name None e (Err row_no.NotRows) (inr (of_rows, h)) = absurd h
    by_name (Some n) e (Ok x) (inl (fresh, h)) =
        of_node n (Some (answer_of_lock x.locked)) h.3
        (stays (command.Lock w.txn n w.mode) (answer_of_lock x.locked) (lock_answers x.locked) refl h.0 h.3.files
        (λ q. h.3.names q ∙ keeps_name v.names w.row n e q))
    by_name (Some n) e (Err (row_no.Refused r)) (inl (fresh, h)) = is_refused own (command.Lock w.txn n w.mode) r h
    by_name (Some n) e (Err row_no.NotRows) (inl (fresh, h)) = absurd h
    by_name (Some n) e (Ok x) (inr (stale, h)) =
        let last = h.0.forgets in
        placed x h.0.mid h.1 h.0.adopts (upkeep_one (state_of h.0.mid) (state_of m') (forgets n) refl (state_of m', last.step, refl))
        (last.completes.counters ∙ raised_by_none h.0.mid.counters, last.completes.deadlock)
        (replaced_placed m m' v v' law holds w x told h.1 n e h.0)
    by_name (Some n) e (Err (row_no.Refused r)) (inr (stale, h)) = refused own r h.nobody_told h.same_manager h.same_rows
    by_name (Some n) e (Err row_no.NotRows) (inr (stale, h)) = absurd h

    locks : (result : Result RowLocked RowRefusal) → LocksRow m v w result told m' v' → Out own (answer_in (lock_said result))
    locks (Ok x) (inl h) = absurd (cc h.answer_is)
    locks (Err (row_no.Refused r)) (inl h) = refused own r h.nobody_told h.same_manager h.same_rows
    locks (Err row_no.NotRows) (inl h) = absurd (cc h.answer_is)
    locks result (inr h) = by_name (name_of v w.row) refl result h

  pub call_course : (c : RowCall) (a : RowAnswer) → AppliesRow m v c a told m' v' → Out (own_command (naming c v v') c) (answer_in a)
  call_course c a h = by c h
    where
      said_as : {x : RowAnswer} (own : Command) → a ≡ x → Out own (answer_in x) → Out own (answer_in a)
      said_as own e course = subst (λ (y : RowAnswer). Out own (answer_in y)) (sym e) course

      by : (c : RowCall) → AppliesRow m v c a told m' v' → Out (own_command (naming c v v') c) (answer_in a)
      by (call.File ps) h = said_as (command.File ps) h.answered (files ps h.result h.was_done.0 h.was_done.1)
      by (call.Lock t row keys mode) h =
          said_as (command.Lock t (named_or_none v' row) mode) h.answered
          (locks (record { txn = t; row = row; keys = keys; mode = mode }) h.result h.was_done)
      by (call.Unlock t row) h = said_as (command.Unlock t (named_or_none v row)) h.answered (unlocks t row (node_for v row) refl h.result h.was_done)
      by (call.Rekey t row index key) h =
          said_as (command.Rekey t (named_or_none v row) index key) h.answered (rekeys t row index key (node_for v row) refl h.result h.was_done)
