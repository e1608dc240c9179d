-- What a registry serves keeps the effective modes on rows of transactions that it does not name.
use Rattle.std.specs.Prelude.{◌≡◌, ◌||◌, ℕ, zero, suc, Bool, true, false, List, [], ◌∷◌, Option, Some, None, Result, Ok, Err, OnErr, map}
use Rattle.std.specs.List.{list_all, list_any}
use Rattle.std.proofs.Common.{refl, sym, ap, subst, ◌∙◌, inl, inr}
use Rattle.std.proofs.Math.Bool.{or-false}
use Rattle.gl_modes.proofs.Words.{and_both, no as never}
use Rattle.gl_modes.specs.declared.node.NodeId.{NodeId}
use Rattle.gl_modes.specs.declared.refusal.Refusal.{Refusal}
use Rattle.gl_graph.specs.Graph.{Graph}
use Rattle.gl_graph.proofs.Unrefused.{or_no}
use Rattle.gl_model.specs.declared.txn.TxnId.{TxnId}
use Rattle.gl_model.specs.Lawful.{IsLawful}
use Rattle.gl_model.specs.State.{State, lives}
use Rattle.gl_model.specs.Tellings.{Told}
use Rattle.gl_steps.specs.declared.command.Answer.{Answer}
use Rattle.gl_steps.specs.declared.command.Command.{Command}
use Rattle.gl_steps.specs.declared.command.Command.TheVariants as command
use Rattle.gl_catalog.specs.declared.manager.paths.Reached.{Reached}
use Rattle.gl_catalog.specs.Manager.{ManagerView, state_of}
use Rattle.gl_catalog.specs.Paths.{Ask, IsPath, lock_of, reaching}
use Rattle.gl_steps.specs.Promises.{names, same_txn, told_granted}
use Rattle.gl_catalog.specs.Replies.{Says, said}
use Rattle.gl_steps.specs.Step.{Goes, Run, Step}
use Rattle.gl_steps.specs.Tests.{refusal_of}
use Rattle.gl_steps.proofs.OthersKeep.{KeepsOver, over_trans, run_keeps}
use Rattle.gl_catalog.proofs.PathRuns.{told_nobody}
use Rattle.gl_steps.proofs.StepsKeepLaw.{runs_keep_law, steps_keep_law}
use Rattle.gl_rows.specs.declared.call.RowCall.{RowCall}
use Rattle.gl_rows.specs.declared.call.RowCall.TheVariants as call
use Rattle.gl_rows.specs.Applying.{CarriesOut, Stays, StepsAmid, Upkeep, answer_in, is_upkeep, naming, own_command}
use Rattle.gl_rows.specs.Locking.{Line, Runs}
use Rattle.gl_rows.specs.Promises.{CallsKeepOnRows, CommandsKeepOnRows, IsRegistry, KeepsOnRows, PathsKeepOnRows, drops_index_of, is_granted, names_in}
use Rattle.gl_rows.specs.Rows.{RegistryView, RowsView, has_rows, name_of}
use Rattle.gl_rows.specs.Serving.{Dropped, Ended, GaveBack, IsServed, Nothing, Released, Remains, ServesBy, TidiesUp, remains_after, touches_rows}
use Rattle.gl_rows.proofs.CarriedOut.{call_course, unchanged}
use Rattle.gl_rows.proofs.Dropped.{served_changes}
use Rattle.gl_rows.proofs.GraphChanges.{step_graph}
use Rattle.gl_rows.proofs.KeptOnRows.{keeps_on_rows}
use Rattle.gl_rows.proofs.NameChanges.{ChangesNames, names_stay, same_records}
use Rattle.gl_rows.proofs.RunsKeepIndexes.{is_drop}
use Rattle.gl_rows.proofs.Ways.{KeepsWays, rows_by_ways, run_ways, step_rows, ways_trans}
use Rattle.gl_rows.proofs.Tidied.{IsOfLocks, ended_so, gave_back_so, released_so, tidy_upkeep}

-- what commands keep that do not name t and drop nothing: the law of a state, what t keeps, and the ways to rows
pub record Over (s s' : State) (t : TxnId) (granted : Bool) : Type 0 where
  pub law : IsLawful s'
  pub keeps : KeepsOver s s' t granted
  pub ways : (f : NodeId) → KeepsWays s s' t.slot granted f

pub over_as : (s s' : State) (t : TxnId) {g h : Bool} → g ≡ h → Over s s' t g → Over s s' t h
over_as s s' t e over = subst (Over s s' t) e over

pub over_then : (s mid s' : State) (t : TxnId) (g h : Bool) → IsLawful s → Over s mid t g → Over mid s' t h → Over s s' t (g || h)
over_then s mid s' t g h law a b = record {
  law = b.law;
  keeps = over_trans s mid s' t g h law a.keeps b.keeps;
  ways = λ f. ways_trans s mid s' law t.slot g h f (a.ways f) (b.ways f);
}

-- if nothing is dropped, no index is
no_index_dropped : (g : Graph) (f : NodeId) (cs : List Command) → list_any is_drop cs ≡ false → list_any (drops_index_of g f) cs ≡ false
no_index_dropped g f [] stay = refl
no_index_dropped g f (c ∷ cs) stay =
    let each = or_no (is_drop c) (list_any is_drop cs) stay in
    ap (λ b. b || list_any (drops_index_of g f) cs) (one c each.0) ∙ no_index_dropped g f cs each.1
  where
    one : (c : Command) → is_drop c ≡ false → drops_index_of g f c ≡ false
    one (command.Drop t n) stays = absurd (never (sym stays))
    one c stays = refl

pub over_run : (s s' : State) (cs : List Command) (rs : List (Answer × Told)) (t : TxnId) → IsLawful s → Run s cs rs s' → lives s t ≡ true
    → list_any (names t) cs ≡ false → list_any is_drop cs ≡ false → Over s s' t (told_granted t rs)
over_run s s' cs rs t law run alive apart stay = record {
  law = runs_keep_law s s' cs rs law run;
  keeps = run_keeps cs rs s s' t law run alive apart;
  ways = λ f. run_ways cs rs s s' t f law run alive apart (no_index_dropped s.graph f cs stay);
}

-- one step
pub over_step : (s s' : State) (c : Command) (a : Answer) (told : Told) (t : TxnId) → IsLawful s → Step s c a told s' → lives s t ≡ true → names t c ≡ false
    → is_drop c ≡ false → Over s s' t (is_granted t told)
over_step s s' c a told t law step alive apart stays =
    over_as s s' t (or-false (is_granted t told))
    (over_run s s' (c ∷ []) ((a, told) ∷ []) t law (s', step, refl) alive (or-false (names t c) ∙ apart) (or-false (is_drop c) ∙ stays))

-- no step
pub over_same : (s s' : State) (t : TxnId) → IsLawful s → s' ≡ s → lives s t ≡ true → Over s s' t false
over_same s s' t law same alive = over_run s s' [] [] t law same alive refl refl

-- paths lock nodes alone
pub path_graph : (k : ℕ) (t : TxnId) (ask : Ask) (m : ManagerView) (last : Ask) (r : Says) (m' : ManagerView) → IsPath k t ask m last r m'
    → (state_of m').graph ≡ (state_of m).graph
path_graph zero t ask m last r m' h = step_graph (state_of m) (lock_of t last) r.0 r.1 (state_of m') refl h.0.step
path_graph (suc k) t ask m last r m' h =
    path_graph k t ask h.2 last r m' h.5 ∙ step_graph (state_of m) (lock_of t h.0) h.1.0 h.1.1 (state_of h.2) refl h.3.step

-- a path's steps, of which only the last one tells anybody
over_path : (k : ℕ) (u : TxnId) (ask : Ask) (m : ManagerView) (last : Ask) (r : Says) (m' : ManagerView) (t : TxnId) → IsLawful (state_of m)
    → IsPath k u ask m last r m' → lives (state_of m) t ≡ true → same_txn t u ≡ false → Over (state_of m) (state_of m') t (is_granted t r.1)
over_path zero u ask m last r m' t law path alive apart =
    over_step (state_of m) (state_of m') (lock_of u last) r.0 r.1 t law path.0.step alive apart refl
over_path (suc k) u ask m last r m' t law path alive apart =
    let mid : ManagerView = path.2 in
    let first = over_as (state_of m) (state_of mid) t (ap (is_granted t) (told_nobody ask.0 path.0.0 path.1 path.4))
    (over_step (state_of m) (state_of mid) (lock_of u path.0) path.1.0 path.1.1 t law path.3.step alive apart refl) in
    over_then (state_of m) (state_of mid) (state_of m') t false (is_granted t r.1) law first
    (over_path k u ask mid last r m' t first.law path.5 first.keeps.alive apart)

-- so t keeps its effective modes on rows, if rows and their nodes change as they may
pub keeps_rows : (v v' : RegistryView) (t : TxnId) (granted : Bool) → IsRegistry v → Over (state_of v.manager) (state_of v'.manager) t granted
    → ChangesNames v.rows v'.rows (state_of v.manager).graph (state_of v'.manager).graph → KeepsOnRows v v' t granted
keeps_rows v v' t granted is over names =
    keeps_on_rows v v' t granted is over.law over.keeps
    (λ f. rows_by_ways (state_of v.manager) (state_of v'.manager) is.law over.law t granted over.keeps f (over.ways f)) names

-- a path
pub paths_keep_on_rows : PathsKeepOnRows
paths_keep_on_rows v v' u ask result told t is h alive apart =
    let path = h.path in
    keeps_rows v v' t (is_granted t told) is
    (over_as (state_of v.manager) (state_of v'.manager) t (ap (is_granted t) (told_of result h.untold))
    (over_path path.0 u ask v.manager path.1 (said (reaching told) result) v'.manager t is.law path.2 alive apart))
    (names_stay v.rows v'.rows (state_of v.manager).graph (state_of v'.manager).graph is.names (ap (λ (x : RowsView). x.files) h.rows)
    (λ q. ap (λ (x : RowsView). name_of x q) h.rows)
    (same_records (has_rows v.rows) (state_of v.manager).graph (state_of v'.manager).graph
    (path_graph path.0 u ask v.manager path.1 (said (reaching told) result) v'.manager path.2)))
  where
    told_of : (result : Result Reached Refusal) → OnErr result (told ≡ []) → (said (reaching told) result).1 ≡ told
    told_of (Ok x) h = refl
    told_of (Err r) h = sym h

-- Calls about rows.

-- records that are adopted and forgotten name no transaction
pub unnamed_one : (t : TxnId) (c : Command) → is_upkeep c ≡ true → names t c ≡ false
unnamed_one t (command.Adopt f keys) is = refl
unnamed_one t (command.Forget r) is = refl
unnamed_one t c is = absurd (never is)

-- what fails at each of their commands
pub none_all : (test : Command → Bool) → ((c : Command) → is_upkeep c ≡ true → test c ≡ false) → (lines : List Line) → list_all
    (λ l. is_upkeep l.0) lines ≡ true
    → list_any test (map (λ (l : Line). l.0) lines) ≡ false
none_all test each [] is = refl
none_all test each (l ∷ lines) is =
    let b = and_both (is_upkeep l.0) (list_all (λ (x : Line). is_upkeep x.0) lines) is in
    ap (λ x. x || list_any test (map (λ (k : Line). k.0) lines)) (each l.0 b.0) ∙ none_all test each lines b.1

-- and tell nobody
tells_none : (s : State) (c : Command) (a : Answer) (told : Told) (s' : State) → is_upkeep c ≡ true → Step s c a told s' → told ≡ []
tells_none s c a told s' is (inr lack) = lack.1.nobody_told
tells_none s c a told s' is (inl goes) = by (refusal_of s c) goes
  where
    accepted : (c : Command) → is_upkeep c ≡ true → Goes s c None a told s' → told ≡ []
    accepted (command.Adopt f keys) is goes = goes.1.3
    accepted (command.Forget r) is goes = goes.1.1
    accepted c is goes = absurd (never is)

    by : (o : Option Refusal) → Goes s c o a told s' → told ≡ []
    by (Some r) same = same.nobody_told
    by None goes = accepted c is goes

quiet_all : (t : TxnId) (s s' : State) (lines : List Line) → list_all (λ l. is_upkeep l.0) lines ≡ true → Runs s lines s'
    → told_granted t (map (λ (l : Line). l.1) lines) ≡ false
quiet_all t s s' [] is run = refl
quiet_all t s s' (l ∷ lines) is run =
    let b = and_both (is_upkeep l.0) (list_all (λ (x : Line). is_upkeep x.0) lines) is in
    ap (λ told. is_granted t told || told_granted t (map (λ (k : Line). k.1) lines)) (tells_none s l.0 l.1.0 l.1.1 run.0 b.0 run.1)
    ∙ quiet_all t run.0 s' lines b.1 run.2

no_drop_one : (c : Command) → is_upkeep c ≡ true → is_drop c ≡ false
no_drop_one (command.Drop t n) is = absurd (never is)
no_drop_one c is = refl

pub over_upkeep : (s s' : State) (t : TxnId) → IsLawful s → Upkeep s s' → lives s t ≡ true → Over s s' t false
over_upkeep s s' t law h alive =
    over_as s s' t (quiet_all t s s' h.lines h.kept h.run)
    (over_run s s' (map (λ (l : Line). l.0) h.lines) (map (λ (l : Line). l.1) h.lines) t law h.run alive
    (none_all (names t) (unnamed_one t) h.lines h.kept) (none_all is_drop no_drop_one h.lines h.kept))

-- A command.

module _ (v v' : RegistryView) (c : Command) (a : Answer) (told : Told) (t : TxnId) (is : IsRegistry v) (off : touches_rows v c ≡ false)
    (h : IsServed v c a told v') (alive : lives (state_of v.manager) t ≡ true) (apart : names t c ≡ false) where
  abbrev s : State
  s = state_of v.manager

  abbrev s' : State
  s' = state_of v'.manager

  abbrev Kept : Type 0
  Kept = KeepsOnRows v v' t (is_granted t told)

  changes : ChangesNames v.rows v'.rows s.graph s'.graph
  changes = served_changes v v' is.law is.names c a told off h

  -- nothing is done but its step
  alone : v'.manager ≡ h.mid → Kept
  alone same =
      let step : Step s c a told s' = subst (λ (m : ManagerView). Step s c a told (state_of m)) (sym same) h.applies.step in
      let law' = steps_keep_law s s' c a told is.law step in
      let keeps = subst (KeepsOver s s' t) (or-false (is_granted t told))
      (run_keeps (c ∷ []) ((a, told) ∷ []) s s' t is.law (s', step, refl) alive (or-false (names t c) ∙ apart)) in
      keeps_on_rows v v' t (is_granted t told) is law' keeps (λ f. step_rows s s' is.law law' t (is_granted t told) keeps f c a told step) changes

  -- then rows are let go
  goes : IsOfLocks c → Upkeep (state_of h.mid) s' → Kept
  goes of_locks upkeep =
      let step = over_step s (state_of h.mid) c a told t is.law h.applies.step alive apart of_locks.drops in
      let after = over_upkeep (state_of h.mid) s' t step.law upkeep step.keeps.alive in
      keeps_rows v v' t (is_granted t told) is
      (over_as s s' t (or-false (is_granted t told)) (over_then s (state_of h.mid) s' t (is_granted t told) false is.law step after)) changes

  served_keeps : (x : Remains) → remains_after c a ≡ x → TidiesUp x h.mid v.rows v'.manager v'.rows → Kept
  served_keeps Nothing e done = alone done.0
  served_keeps (Dropped n) e done = alone done.0
  served_keeps (Ended slot) e done = goes (ended_so c a slot e) (tidy_upkeep (Ended slot) h.mid v'.manager v.rows v'.rows done)
  served_keeps (GaveBack slot) e done = goes (gave_back_so c a slot e) (tidy_upkeep (GaveBack slot) h.mid v'.manager v.rows v'.rows done)
  served_keeps Released e done = goes (released_so c a e) (tidy_upkeep Released h.mid v'.manager v.rows v'.rows done)

pub commands_keep_on_rows : CommandsKeepOnRows
commands_keep_on_rows v v' c result told t is serves alive apart = by (touches_rows v c) refl serves
  where
    by : (b : Bool) → touches_rows v c ≡ b → ServesBy b v c result told v' → KeepsOnRows v v' t (is_granted t told)
    by true e h =
        let s = state_of v.manager in
        let s' = state_of v'.manager in
        let manager : s' ≡ s = ap (λ (x : RegistryView). state_of x.manager) h.2 in
        keeps_rows v v' t (is_granted t told) is (over_as s s' t (sym (ap (is_granted t) h.1)) (over_same s s' t is.law manager alive))
        (unchanged v.manager v'.manager v.rows v'.rows is.law is.names told (ap (λ (x : RegistryView). x.manager) h.2) (ap (λ (x : RegistryView). x.rows) h.2))
    by false e h = served_keeps v v' c h.0 told t is e h.2 alive apart (remains_after c h.0) refl h.2.tidies

-- a call that carries out a command
module _ (m : ManagerView) (c : Command) (told : Told) (m' : ManagerView) (t : TxnId) (law : IsLawful (state_of m)) (alive : lives (state_of m) t ≡ true)
    (apart : names t c ≡ false) (stays : is_drop c ≡ false) where
  abbrev Out : Type 0
  Out = Over (state_of m) (state_of m') t (is_granted t told)

  over_stays : Stays m told m' → Out
  over_stays h =
      over_as (state_of m) (state_of m') t (sym (ap (is_granted t) h.0)) (over_same (state_of m) (state_of m') t law (ap state_of h.1) alive)

  over_amid : (a : Answer) → StepsAmid m c a told m' → Out
  over_amid a h =
      let before = over_upkeep (state_of m) h.ahead t law h.before alive in
      let step = over_step h.ahead h.behind c a told t before.law h.step before.keeps.alive apart stays in
      let after = over_upkeep h.behind (state_of m') t step.law h.after step.keeps.alive in
      over_as (state_of m) (state_of m') t (or-false (is_granted t told))
      (over_then (state_of m) h.behind (state_of m') t (is_granted t told) false law
      (over_then (state_of m) h.ahead h.behind t false (is_granted t told) law before step) after)

  over_carried : (o : Option Answer) → CarriesOut m c o told m' → Out
  over_carried None h = over_stays h
  over_carried (Some a) (inl h) = over_amid a h
  over_carried (Some a) (inr h) = over_stays h.1

-- the transaction of a call's own command is the same on every node
own_named : (t : TxnId) (v : RowsView) (c : RowCall) → names t (own_command v c) ≡ names_in t c
own_named t v (call.File ps) = refl
own_named t v c = refl

-- and it drops nothing
own_stays : (v : RowsView) (c : RowCall) → is_drop (own_command v c) ≡ false
own_stays v (call.File ps) = refl
own_stays v c = refl

-- a call about rows
pub calls_keep_on_rows : CallsKeepOnRows
calls_keep_on_rows v v' c a told t is h alive apart =
    let own : Command = own_command (naming c v.rows v'.rows) c in
    let course = call_course v.manager v'.manager v.rows v'.rows is.law is.names told c a h in
    keeps_rows v v' t (is_granted t told) is
    (over_carried v.manager own told v'.manager t is.law alive (own_named t (naming c v.rows v'.rows) c ∙ apart)
    (own_stays (naming c v.rows v'.rows) c) (answer_in a) course.out) course.names
