-- A transaction rolls back to a savepoint, and may then be renewed or end: each node that it unlocks is a step, and what all these steps leave. For
-- Manager.release_since_telling and Manager.commit_keeping_telling.
use Rattle.std.specs.Prelude.{◌≡◌, ◌≢◌, ℕ, ◌+◌, ◌-◌, ◌≤◌, Bool, true, false, not, ◌&&◌, List, [], ◌∷◌, length, map, min, ◌++◌, Option, Some, None}
use Rattle.std.specs.Prelude.{get_or, if◌then◌else◌}
use Rattle.std.specs.List.{All, find, list_any}
use Rattle.std.proofs.Common.{refl, sym, ap, subst, ◌∙◌, arith}
use Rattle.std.proofs.lemmas.Bool.Decides.{nat_tests}
use Rattle.std.proofs.lemmas.List.{length-map, length-take}
use Rattle.std.proofs.lemmas.List.Elements.{All-cons, All-nil}
use Rattle.gl_modes.specs.declared.mode.Mode.TheVariants.{NL}
use Rattle.gl_modes.specs.declared.node.NodeId.{NodeId}
use Rattle.gl_modes.specs.declared.refusal.Refusal.{Refusal}
use Rattle.gl_modes.specs.declared.refusal.Refusal.TheVariants as no
use Rattle.gl_modes.specs.Nodes.{same_node}
use Rattle.gl_graph.specs.Graph.{is_child, is_live, nodes}
use Rattle.gl_graph.specs.Refusals.{first_refusal, max_count, some_no_node, where_true}
use Rattle.gl_graph.proofs.FirstOf.{alone, passed_then, refused_first}
use Rattle.gl_graph.proofs.Unrefused.{lt_no, not_refused, or_no, test_fails}
use Rattle.gl_header.specs.Header.{Waiter, holds}
use Rattle.gl_model.specs.declared.txn.TxnId.{TxnId}
use Rattle.gl_model.specs.declared.txn.Status.TheVariants.{Active}
use Rattle.gl_model.specs.Calls.{GoesBack, IsActing, Unlocks, child_held, commit_tests, condemned_test, held_child, holds_child, no_txn, not_held}
use Rattle.gl_model.specs.Calls.{renew_tests, unlocked, waiting_test}
use Rattle.gl_model.specs.Lawful.{IsLawful}
use Rattle.gl_model.specs.State.{State, Txn, counting, granted_at, lives, live_by, members, status_in, status_of, with_grant, woken}
use Rattle.gl_model.specs.Tellings.{Told, told}
use Rattle.gl_model.proofs.law.Lock.{unlocked-lawful}
use Rattle.gl_model.proofs.telling.Follows.{Follows, WaitsWell, follows_refl, follows_trans, lawful_waits}
use Rattle.gl_model.proofs.telling.Unlocks.{unlocks_stand}
use Rattle.gl_table.specs.Keeping.{CommitsKeeping, RenewsOrEnds}
use Rattle.gl_table.proofs.calls.Keeping.{own_unlocked}
use Rattle.gl_table.specs.Table.{KeepsOrders, TableView, nodes_of, row_of, rows_of, state_of as table_state}
use Rattle.gl_steps.specs.declared.command.Answer.TheVariants as answer
use Rattle.gl_steps.specs.declared.command.Command.{Command}
use Rattle.gl_steps.specs.declared.command.Command.TheVariants as command
use Rattle.gl_steps.specs.Promises.{is_grant_to, same_txn}
use Rattle.gl_steps.specs.Step.{Run, Step}
use Rattle.gl_steps.specs.Tests.{refusal_of, worn}
use Rattle.gl_steps.proofs.Counting.{lawful_counting}
use Rattle.gl_steps.proofs.Keeps.{Keeps, keeps_follows}
use Rattle.gl_steps.proofs.NotRefused.{active_is, differ, txn_lives}
use Rattle.gl_steps.proofs.OtherChanges.{begun_follows, released_follows, unlocked_follows}
use Rattle.gl_steps.proofs.OthersKeep.{KeepsOver, over_of_step}
use Rattle.gl_steps.proofs.ToldGrants.{tells, told_of_grant}
use Rattle.gl_catalog.specs.Counters.{with_notices}
use Rattle.gl_catalog.specs.Keeping.{CompletesKeeping, keeping_tests, last_answer, last_command}
use Rattle.gl_catalog.specs.Manager.{ManagerView, state_of}
use Rattle.gl_catalog.specs.Paths.{LeavesAllBut}
use Rattle.gl_catalog.specs.Replies.{Says, began, doing}
use Rattle.gl_catalog.specs.Savepoints.{TakesBack, back_tests, count_since, worn_for}
use Rattle.gl_catalog.proofs.Adopting.{counts_one}
use Rattle.gl_catalog.proofs.Carried.{accepted_step}
use Rattle.gl_catalog.proofs.RunsOn.{run_snoc}

-- if no child is held, none is found
childless : (s : State) (t : ℕ) (n : NodeId) → holds_child s t n ≡ false → held_child s t n ≡ None
childless s t n h = ap child_held (none (nodes s.graph) h)
  where
    held : NodeId → Bool
    held c = is_child s.graph n c && holds (members s c) t

    none : (cs : List NodeId) → list_any held cs ≡ false → find held cs ≡ None
    none [] h = refl
    none (c ∷ cs) h = let b = or_no (held c) (list_any held cs) h in ap (λ x. if x then Some c else find held cs) b.0 ∙ none cs b.1

-- an active transaction stays as it is while nodes grant
awake_stays : (g : NodeId → List Waiter) (u : ℕ) (x : Option Txn) → status_in x ≡ Some Active → woken g u x ≡ x
awake_stays g u x h = grind (arith, nat_tests, x)

-- One node after the other.

module _ (t : TxnId) where
  abbrev pub unlocks : List NodeId → List Command
  unlocks ns = map (λ n. command.Unlock t n) ns

  -- what each of them says
  abbrev pub says : State → List NodeId → List Says
  says s [] = []
  says s (n ∷ ns) = (answer.Done, told s (unlocked s t.slot n)) ∷ says (unlocked s t.slot n) ns

  says_done : (s : State) (ns : List NodeId) → All (λ (r : Says). r.0 ≡ answer.Done) (says s ns)
  says_done s [] = All-nil (λ (r : Says). r.0 ≡ answer.Done)
  says_done s (n ∷ ns) =
      All-cons (λ (r : Says). r.0 ≡ answer.Done) (answer.Done, told s (unlocked s t.slot n)) (says (unlocked s t.slot n) ns) refl
      (says_done (unlocked s t.slot n) ns)

  module _ (s : State) (law : IsLawful s) (acting : IsActing s t) (n : NodeId) (held : holds (members s n) t.slot ≡ true)
      (free : holds_child s t.slot n ≡ false) where
    abbrev next : State
    next = unlocked s t.slot n

    next_lawful : IsLawful next
    next_lawful = unlocked-lawful s law t.slot n acting.active (childless s t.slot n free)

    next_acting : IsActing next t
    next_acting =
        let same = awake_stays (granted_at (with_grant s t.slot n NL) (same_node n)) t.slot (s.txns t.slot) acting.active in
        record { lives = ap (live_by t.age) same ∙ acting.lives; active = ap status_in same ∙ acting.active }

    unrefused : (k : ℕ) → k + 1 ≤ max_count → refusal_of (counting k s) (command.Unlock t n) ≡ None
    unrefused k room = λ i. first_refusal (counts i ∷ named i ∷ goes i ∷ stands i ∷ there i ∷ holding i ∷ alone i ∷ [])
      where
        counts : worn (counting k s) ≡ None
        counts = counts_one (counting k s) room

        named : no_txn s t ≡ None
        named = ap (λ b. where_true (not b) no.NoSuchTxn) acting.lives

        goes : waiting_test (status_of s t.slot) ≡ None
        goes = ap waiting_test acting.active

        stands : condemned_test (status_of s t.slot) ≡ None
        stands = ap condemned_test acting.active

        there : some_no_node s.graph (n ∷ []) ≡ None
        there = ap (λ b. where_true (not (b && true)) no.NoSuchNode) (law.grants_live t.slot n held).1

        holding : not_held s t.slot n ≡ None
        holding = ap (λ b. where_true (not b) no.NotHeld) held

        alone : held_child s t.slot n ≡ None
        alone = childless s t.slot n free

    unlock_step : (k : ℕ) → k + 1 ≤ max_count → Step (counting k s) (command.Unlock t n) answer.Done (told s next) (counting (k + 1) next)
    unlock_step k room =
        accepted_step (doing (told s next)) (command.Unlock t n) (counting k s) tt (counting k next) (counting (k + 1) next) (unrefused k room) refl
        (refl, refl, refl) refl

  -- all of them are a run
  unlocks_run : (ns : List NodeId) (k j : ℕ) (s s' : State) → IsLawful s → IsActing s t → length ns ≤ max_count - k → j ≡ k + length ns
      → Unlocks s t.slot ns s' → Run (counting k s) (unlocks ns) (says s ns) (counting j s')
  unlocks_run [] k j s s' law acting room count h = let same : j ≡ k = omega (arith, count) in λ i. counting (same i) (h i)
  unlocks_run (n ∷ ns) k j s s' law acting room count h = (
    counting (k + 1) (unlocked s t.slot n),
    unlock_step s law acting n h.0 h.1 k (omega (arith, room)),
    unlocks_run ns (k + 1) j (unlocked s t.slot n) s' (next_lawful s law acting n h.0 h.1) (next_acting s law acting n h.0 h.1) (omega (arith, room))
        (omega (arith, count)) h.2,
  )

-- What they leave to all others.

unlocks_follow : (ns : List NodeId) (s s' : State) (t u : ℕ) → t ≢ u → WaitsWell s u → Unlocks s t ns s' → Follows s s' u
unlocks_follow [] s s' t u apart well h = subst (λ x. Follows s x u) (sym h) (follows_refl s u well)
unlocks_follow (n ∷ ns) s s' t u apart well h =
    let first = unlocked_follows s t u n apart well in
    follows_trans s (unlocked s t n) s' u first (unlocks_follow ns (unlocked s t n) s' t u apart first.well h.2)

-- t did something that all others follow
module _ (t : TxnId) (s s' : State) (law : IsLawful s) (alive : lives s t ≡ true)
    (follow : (u : ℕ) → t.slot ≢ u → WaitsWell s u → Follows s s' u) (list : Told) (is : list ≡ told s s') where
  -- another keeps what is its own, except a grant that it is told of
  follows_keep : (u : TxnId) → lives s u ≡ true → same_txn u t ≡ false → Keeps s s' u list false
  follows_keep u also other =
      let follows = follow u.slot (differ s u t also alive other) (lawful_waits s law u.slot) in
      keeps_follows s s' u list also follows
      (λ g. ap (list_any (tells u g.node g.mode)) is ∙ told_of_grant s s' law u also (λ n live. ap (λ x. is_live x n) follows.graph ∙ live) g)

  follows_leave : (k j : ℕ) → LeavesAllBut t (counting k s) (doing list tt) (counting j s')
  follows_leave k j u also other =
      let kept = follows_keep u also other in
      record {
        effects = record {
          same = λ quiet r both. kept.same (or_no (list_any (is_grant_to u) list) false quiet).0 r both.0 both.1;
          greater = λ r both. kept.greater r both.0 both.1;
        };
        below = λ n reads. kept.below refl n reads;
      }

  follows_over : (k j : ℕ) (u : TxnId) → lives s u ≡ true → same_txn u t ≡ false
      → KeepsOver (counting k s) (counting j s') u (list_any (is_grant_to u) list)
  follows_over k j u also other =
      let over = over_of_step s s' u list false (follows_keep u also other) in
      record {
        alive = over.alive;
        held_same = over.held_same;
        held_more = over.held_more;
        births = over.births;
        old = over.old;
        kinds = over.kinds;
        same = over.same;
        greater = over.greater;
      }

-- No more are unlocked than were locked since the mark.

few_back : (s s' : State) (t mark : ℕ) (order ns order' : List NodeId) → GoesBack s t mark order ns order' s' → length ns ≤ length order - mark
few_back s s' t mark order ns order' back =
    let fewer = back.fewer in
    let front : min mark (length order') ≡ min mark (length order) = sym (length-take mark order') ∙ ap length back.before ∙ length-take mark order in
    omega (arith, fewer, front)

-- A slot has as many nodes as rows.
pub rows_are_nodes : (v : TableView) (t : ℕ) → length (rows_of v t) ≡ length (nodes_of v t)
rows_are_nodes v t = length-map (get_or v.lists t []) row_of ∙ sym (length-map (get_or v.lists t []) (λ e. e.0))

-- The tests: those of the transaction, and then whether all can be counted.

module _ (m : ManagerView) (t : TxnId) (k : ℕ) where
  -- a transaction that is not active is refused
  pub not_active : (r : Refusal) → first_refusal (commit_tests (state_of m) t) ≡ Some r
      → first_refusal (commit_tests (state_of m) t ++ worn_for (state_of m) k ∷ []) ≡ Some r
  not_active r h = refused_first (commit_tests (state_of m) t) (worn_for (state_of m) k ∷ []) r h

  -- of one that is, the count decides
  pub count_decides : first_refusal (commit_tests (state_of m) t) ≡ None
      → first_refusal (commit_tests (state_of m) t ++ worn_for (state_of m) k ∷ []) ≡ worn_for (state_of m) k
  count_decides h = let counts = worn_for (state_of m) k in passed_then (commit_tests (state_of m) t) (counts ∷ []) h ∙ alone counts

-- what the tests say that were passed
module _ (m : ManagerView) (t : TxnId) (k : ℕ) (free : first_refusal (commit_tests (state_of m) t ++ worn_for (state_of m) k ∷ []) ≡ None) where
  abbrev was : State
  was = table_state m.table

  -- the transaction is active, and so many commands can be counted
  pub record MayGoBack : Type 0 where
    pub acting : IsActing was t
    pub room : k ≤ max_count - m.accepted

  pub may_go_back : MayGoBack
  may_go_back =
      let named = not_refused (no_txn was t) _ free in
      let goes = not_refused (waiting_test (status_of was t.slot)) _ named.1 in
      let stands = not_refused (condemned_test (status_of was t.slot)) _ goes.1 in
      let counts = not_refused (worn_for (state_of m) k) [] stands.1 in
      record {
        acting = record { lives = txn_lives was t named.0; active = active_is was t named.0 goes.0 stands.0 };
        room = lt_no (max_count - m.accepted) k (test_fails _ _ counts.0);
      }

module _ (m : ManagerView) (t : TxnId) (mark : ℕ) (free : first_refusal (back_tests m t mark) ≡ None) where
  abbrev s : State
  s = table_state m.table

  may : MayGoBack m t (count_since m t.slot mark) free
  may = may_go_back m t (count_since m t.slot mark) free

  module _ (m' : ManagerView) (law : IsLawful (state_of m)) (ns : List NodeId)
      (back : GoesBack s t.slot mark (nodes_of m.table t.slot) ns (nodes_of m'.table t.slot) (table_state m'.table)) where
    lawful : IsLawful s
    lawful = lawful_counting 0 (state_of m) law

    -- each of them can be counted
    pub counted_all : length ns ≤ max_count - m.accepted
    counted_all =
        let few = few_back s (table_state m'.table) t.slot mark (nodes_of m.table t.slot) ns (nodes_of m'.table t.slot) back in
        let room = may.room in
        omega (arith, few, room)

    pub takes_back : (k : ℕ) (list : Told) → k ≡ length ns → m'.accepted ≡ m.accepted + k → list ≡ told s (table_state m'.table)
        → m'.counters ≡ with_notices list m.counters → m'.table.deadlock ≡ m.table.deadlock → TakesBack t mark k m list m'
    takes_back k list count accepted tells counters deadlock = record {
      tests = free;
      nodes = ns;
      count = count;
      back = back;
      replies = says t s ns;
      run = unlocks_run t ns m.accepted m'.accepted s (table_state m'.table) lawful may.acting counted_all
          (accepted ∙ ap (λ x. m.accepted + x) count) back.unlocks;
      done = says_done t s ns;
      tells = tells;
      counters = counters;
      deadlock = deadlock;
      others = follows_leave t s (table_state m'.table) lawful may.acting.lives
          (λ u apart well. unlocks_follow ns s (table_state m'.table) t.slot u apart well back.unlocks) list tells m.accepted m'.accepted;
    }

-- A rollback keeps what is another's, with any run before and after it.
module _ (m m' : ManagerView) (law : IsLawful (state_of m)) (t : TxnId) (mark k : ℕ) (list : Told) (h : TakesBack t mark k m list m') where
  pub back_keeps_over : (u : TxnId) → lives (state_of m) u ≡ true → same_txn u t ≡ false
      → KeepsOver (state_of m) (state_of m') u (list_any (is_grant_to u) list)
  back_keeps_over =
      let s = table_state m.table in
      let s' = table_state m'.table in
      follows_over t s s' (lawful_counting 0 (state_of m) law) (may_go_back m t (count_since m t.slot mark) h.tests).acting.lives
      (λ u apart well. unlocks_follow h.nodes s s' t.slot u apart well h.back.unlocks) list h.tells m.accepted m'.accepted

-- A commit that keeps locks.

-- what the last command tells
abbrev last_told : Option TxnId → State → State → Told
last_told (Some u) s s' = []
last_told None s s' = told s s'

-- The last command, of an active transaction: a step, and what it leaves to all others.
module _ (t : TxnId) (since : ℕ) (s : State) (acting : IsActing s t) where
  last_step : (j n : ℕ) → j + 1 ≤ max_count → n ≡ j + 1 → (next : Option TxnId) (s' : State) → RenewsOrEnds t since s next s'
      → Step (counting j s) (last_command t since next) (last_answer next) (last_told next s s') (counting n s')
  last_step j n room is (Some u) s' h =
      accepted_step began (command.Renew t since) (counting j s) u (counting j s') (counting n s')
      (ap (λ o. first_refusal (o ∷ renew_tests s t)) (counts_one (counting j s) room) ∙ h.0) refl (ap answer.Begun h.1, refl, ap (counting j) h.2)
      (ap (λ k. counting k s') is)
  last_step j n room is None s' h =
      accepted_step (doing (told s s')) (command.Commit t) (counting j s) tt (counting j s') (counting n s') (λ i. first_refusal
      (counts_one (counting j s) room i ∷ where_true (not (acting.lives i)) no.NoSuchTxn ∷ waiting_test (acting.active i)
      ∷ condemned_test (acting.active i) ∷ [])) refl (refl, refl, ap (counting j) h.1) (ap (λ k. counting k s') is)

last_follows : (t : TxnId) (since : ℕ) (s : State) (next : Option TxnId) (s' : State) → RenewsOrEnds t since s next s' → (u : ℕ) → t.slot ≢ u → WaitsWell s u
    → Follows s s' u
last_follows t since s (Some x) s' h u apart well =
    subst (λ z. Follows s z u) (sym h.2) (begun_follows s t.slot (s.begins + 1) (min since (s.begins + 1)) u apart well)
last_follows t since s None s' h u apart well = subst (λ z. Follows s z u) (sym h.1) (released_follows s t.slot u apart well)

module _ (m m' : ManagerView) (t : TxnId) (keep since k : ℕ) (next : Option TxnId) (law : IsLawful (state_of m))
    (free : first_refusal (keeping_tests m t keep) ≡ None) (h : CommitsKeeping t keep since m.table k next m'.table) where
  abbrev before : State
  before = table_state m.table

  abbrev after : State
  after = table_state m'.table

  first_lawful : IsLawful before
  first_lawful = lawful_counting 0 (state_of m) law

  may_keep : MayGoBack m t (count_since m t.slot keep + 1) free
  may_keep = may_go_back m t (count_since m t.slot keep + 1) free

  -- each of them and one more can be counted
  room : length h.nodes + 1 ≤ max_count - m.accepted
  room =
      let few = few_back before h.mid t.slot keep (nodes_of m.table t.slot) h.nodes h.order h.back in
      let all = may_keep.room in
      omega (arith, few, all)

  pub follow : (u : ℕ) → t.slot ≢ u → WaitsWell before u → Follows before after u
  follow u apart well =
      let back = unlocks_follow h.nodes before h.mid t.slot u apart well h.back.unlocks in
      follows_trans before h.mid after u back (last_follows t since h.mid next after h.renews u apart back.well)

  -- it is still active after the rollback
  acting_mid : IsActing h.mid t
  acting_mid = record {
    lives = ap (live_by t.age) (own_unlocked h.nodes before h.mid t.slot first_lawful may_keep.acting.active h.back.unlocks) ∙ may_keep.acting.lives;
    active = (unlocks_stand before h.mid t.slot h.nodes first_lawful may_keep.acting.active h.back.unlocks).active;
  }

  pub completes_keeping : (list : Told) → m'.accepted ≡ m.accepted + (k + 1) → list ≡ told before after → m'.counters ≡ with_notices list m.counters
      → m'.table.deadlock ≡ m.table.deadlock → KeepsOrders m.table m'.table → CompletesKeeping t keep since m next list m'
  completes_keeping list accepted tells counters deadlock orders =
      let count = h.count in
      let fits = room in
      let j = m.accepted + length h.nodes in
      let now : m'.accepted ≡ m.accepted + k + 1 = omega (arith, accepted) in
      record {
        tests = free;
        released = k;
        keeps = h;
        replies = says t before h.nodes;
        last = last_told next h.mid after;
        run = run_snoc (state_of m) (counting j h.mid) (state_of m') (unlocks t h.nodes) (says t before h.nodes) (last_command t since next) (last_answer next)
            (last_told next h.mid after) (unlocks_run t h.nodes m.accepted j before h.mid first_lawful may_keep.acting (omega (arith, fits)) refl
            h.back.unlocks)
            (last_step t since h.mid acting_mid j m'.accepted (omega (arith, fits)) (omega (arith, accepted, count)) next after h.renews);
        done = says_done t before h.nodes;
        accepted = now;
        tells = tells;
        counters = counters;
        deadlock = deadlock;
        orders = orders;
        others = follows_leave t before after first_lawful may_keep.acting.lives follow list tells m.accepted m'.accepted;
      }

-- It keeps what is another's, with any run before and after it.
module _ (m m' : ManagerView) (law : IsLawful (state_of m)) (t : TxnId) (keep since : ℕ) (next : Option TxnId) (list : Told)
    (h : CompletesKeeping t keep since m next list m') where
  pub keeping_keeps_over : (u : TxnId) → lives (state_of m) u ≡ true → same_txn u t ≡ false
      → KeepsOver (state_of m) (state_of m') u (list_any (is_grant_to u) list)
  keeping_keeps_over =
      follows_over t (table_state m.table) (table_state m'.table) (lawful_counting 0 (state_of m) law)
      (may_go_back m t (count_since m t.slot keep + 1) h.tests).acting.lives (follow m m' t keep since h.released next law h.tests h.keeps) list h.tells
      m.accepted m'.accepted
