use denote.Bor.{Bor}
use Rattle.gl_table.proofs.Words.{[], ◌∙◌, ◌≡◌, ◌≤◌, Agrees, ap, as_left, books_of, CanEnd, CanStrike, departed, fun_ext, graph_of, header_at}
use Rattle.gl_table.proofs.Words.{header_or_new, IfNone, IfSome, is_among_waiters, List, most_slots, NodeId, parents_of, queue_of, same_node, Some, State}
use Rattle.gl_table.proofs.Words.{state_in, Strikes, subst, sym, Waiter, WaitsEnd, ℕ}
use Rattle.gl_model.specs.declared.answers.Notice.TheVariants as notice
use Rattle.gl_table.proofs.inside.Vacated.{agrees_vacated, can_free, can_strike, counts_evicted, MayEvict, txns_freed, waiter_childless}
use Rattle.gl_table.proofs.ledger.Ledger.evict.Goals.{After-parents, After-strike, in-None, in-Some, Joined-taken}
use Rattle.gl_table.proofs.ledger.Ledger.evict.Goals as goal
use Rattle.gl_table.proofs.inside.Places.{lose_then}

may : (c : After-parents) → MayEvict c.args.graph.now c.args.self.now c.args.slot c.args.node
may c = record { agreed = c.requires.agreed; active = c.requires.active; left = c.requires.left; counts = c.requires.counts }

pub strike-requires : goal.strike-requires
strike-requires c =
    record {
      can =
          subst (λ (ps : List NodeId). CanStrike c.args.self.now.lists.items c.args.slot c.args.node ps) (sym c.parents.ensures) (can_strike
          (may (goal.at.strike-requires c).After-parents));
    }

struck : (c : After-strike) → Strikes c.args.self.now.lists.items c.strike.new.lists.items c.args.slot c.args.node
    (parents_of (graph_of c.args.graph.now) c.args.node)
struck c = subst (λ (ps : List NodeId). Strikes c.args.self.now.lists.items c.strike.new.lists.items c.args.slot c.args.node ps) c.parents.ensures
    c.strike.ensures

-- the waiters of the removed header are those of the node; if there was none, nobody waited
waiters : (c : Joined-taken) → c.match-taken.waiters.now ≡ queue_of c.args.self.now.headers.entries c.args.node
waiters c = elim c.match-taken.branch [
  | in-Some w ↦ ap (λ (ws : Bor (List Waiter)). ws.now) w.waiters-is ∙ w.queue-waiters.ensures
      ∙ ap (λ o. (header_or_new o).queue) (sym (subst (λ o. IfSome o (λ h. header_at c.args.self.now.headers.entries c.args.node ≡ Some h)) w.in-Some.is
      c.take-taken.ensures.taken))
  | in-None w ↦ ap (λ (ws : Bor (List Waiter)). ws.now) w.waiters-is
      ∙ sym (subst (λ o. IfNone o (queue_of c.args.self.now.headers.entries c.args.node ≡ [])) w.in-None.is c.take-taken.ensures.none)
]

pub free-requires-clause-can : goal.free-requires-clause-can
free-requires-clause-can c =
    let at = goal.at.free-requires-clause-can c in
    subst (λ (ws : List Waiter). CanEnd (books_of c.args.self.now.txn_entries c.strike.new.lists.items c.args.told.now.items) ws)
    (sym (waiters at.Joined-taken))
    (can_free (may at.After-parents) (struck at.After-strike) c.args.told.now.items c.requires.tell)

pub free-requires-clause-childless : goal.free-requires-clause-childless
free-requires-clause-childless c =
    let at = goal.at.free-requires-clause-childless c in
    λ u h. waiter_childless (may at.After-parents) (struck at.After-strike) u (ap (is_among_waiters u) (sym (waiters at.Joined-taken)) ∙ h)

freed : (c : goal.Joined-taken-2) → c.match-taken.waiters.now ≡ queue_of c.args.self.now.headers.entries c.args.node
    → WaitsEnd (books_of c.args.self.now.txn_entries c.strike.new.lists.items c.args.told.now.items) c.args.node
    (λ u. is_among_waiters u (queue_of c.args.self.now.headers.entries c.args.node)) as_left (λ u. notice.Gone)
    (books_of c.free.new.txn_entries c.free.new.lists.items c.free.new.told.items)
freed c is =
    subst (λ (ws : List Waiter). WaitsEnd (books_of c.args.self.now.txn_entries c.strike.new.lists.items c.args.told.now.items) c.args.node
    (λ u. is_among_waiters u ws) as_left (λ u. notice.Gone) (books_of c.free.new.txn_entries c.free.new.lists.items c.free.new.told.items)) is c.free.ensures

state_is : (c : goal.Joined-taken-2) → MayEvict c.args.graph.now c.args.self.now c.args.slot c.args.node
    → c.match-taken.waiters.now ≡ queue_of c.args.self.now.headers.entries c.args.node
    → state_in c.args.graph.now (record c.args.self.now { headers = c.take-taken.new.self; txn_entries = c.free.new.txn_entries; lists = c.free.new.lists })
    ≡ departed (state_in c.args.graph.now c.args.self.now) (λ q. same_node q c.args.node) (graph_of c.args.graph.now)
state_is c may is =
    let s : State = state_in c.args.graph.now c.args.self.now in
    let all = freed c is in
    λ i. record (departed s (λ q. same_node q c.args.node) s.graph) {
      txns = fun_ext (λ u. all.txns u ∙ txns_freed may u) i;
      held = c.take-taken.ensures.held i;
      queue = c.take-taken.ensures.queue i;
      most = all.len i;
    }

pub returns-clause-state : goal.returns-clause-state
returns-clause-state c = let at = goal.at.returns-clause-state c in state_is c (may at.After-parents) (waiters at.Joined-taken)

pub returns-clause-sound : goal.returns-clause-sound
returns-clause-sound c =
    let at = goal.at.returns-clause-sound c in
    let cut = struck at.After-strike in
    let all = freed c (waiters at.Joined-taken) in
    record {
      few = subst (λ (k : ℕ). k ≤ most_slots) (sym all.len) c.requires.agreed.sound.few;
      lists = all.lists.len ∙ cut.len ∙ c.requires.agreed.sound.lists ∙ sym all.len;
    }

pub returns-clause-agree : goal.returns-clause-agree
returns-clause-agree c = λ u.
    let at = goal.at.returns-clause-agree c in
    let m = may at.After-parents in
    let all = freed c (waiters at.Joined-taken) in
    subst (λ (x : State). Agrees x c.free.new.lists.items u) (sym (state_is c m (waiters at.Joined-taken)))
    (agrees_vacated m (struck at.After-strike) all.lists u)

pub returns-clause-counts : goal.returns-clause-counts
returns-clause-counts c = λ u q.
    let at = goal.at.returns-clause-counts c in
    counts_evicted (may at.After-parents) (struck at.After-strike) (freed c (waiters at.Joined-taken)).lists u q

pub returns-clause-orders : goal.returns-clause-orders
returns-clause-orders c = lose_then c.strike.ensures.loses c.free.ensures.lists.loses
