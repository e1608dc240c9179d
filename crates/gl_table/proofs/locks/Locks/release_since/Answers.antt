use Rattle.gl_table.proofs.Words.{◌∙◌, ◌≡◌, ap, arith, clash, drop, holds_child, list_any, ListsLose, Locks, NodeId, nodes_by, same_node, state_at, subst, sym}
use Rattle.gl_table.proofs.Words.{Told, true}
use Rattle.std.proofs.lemmas.List.{drop_all}
use Rattle.gl_table.proofs.inside.Back.{back_begins, back_pass, back_tells, IsGoingBack}
use Rattle.gl_table.proofs.inside.Orders.{rows_are}
use Rattle.gl_table.proofs.inside.Places.{lists_here, lose_then}
use Rattle.gl_table.proofs.locks.Locks.release_since.Goals.{After-rows-2, else-pass-test, then-pass-test+then-release_childless-eq0}
use Rattle.gl_table.proofs.locks.Locks.release_since.Goals as goal

pub pass-init : goal.pass-init
pass-init c =
    record {
      going = back_begins (state_at c.args.self.now) c.args.slot c.args.mark (nodes_by c.args.self.now.ledger.lists.items c.args.slot)
          c.args.told.now.items c.requires.active c.requires.tell;
      orders = lists_here c.args.self.now.ledger.lists.items;
    }

pub pass-preserved : goal.pass-preserved
pass-preserved c =
    let now = c.release_childless.ensures in
    record {
      going = back_pass c.pass.invariant.going now.unlocks.0 now.unlocks.1 now.unlocks.2 now.active now.before now.fewer now.tell now.tells;
      orders = lose_then c.pass.invariant.orders now.orders;
    }

-- the slot rolled back, and of each node from the mark on a child is held
abbrev HasGoneBack : After-rows-2 → Locks → Told → Type 0
HasGoneBack c l told =
    IsGoingBack (state_at c.args.self.now) (state_at l) c.args.slot c.args.mark (nodes_by c.args.self.now.ledger.lists.items c.args.slot)
    (nodes_by l.ledger.lists.items c.args.slot) c.args.told.now.items told
    × ((n : NodeId) → list_any (same_node n) (drop c.args.mark (nodes_by l.ledger.lists.items c.args.slot)) ≡ true
    → holds_child (state_at l) c.args.slot n ≡ true)

-- either nothing is listed from the mark on, or the last pass released nothing
gone_back : (c : After-rows-2) → HasGoneBack c c.pass-test.self c.pass-test.told.items
gone_back c = elim c.pass-test.branch [
  | else-pass-test w ↦
      let order = nodes_by c.pass.self.ledger.lists.items c.args.slot in
      let all = c.rows.ensures ∙ rows_are c.pass.self.ledger.lists.items c.args.slot in
      let past = w.pass-test.false in
      subst (λ (l : Locks). HasGoneBack c l c.pass-test.told.items) (sym w.self-is)
      (subst (λ (told : Told). HasGoneBack c c.pass.self told) (sym (ap (λ x. x.items) w.told-is))
      (c.pass.invariant.going, λ n h. clash h (ap (list_any (same_node n)) (drop_all c.args.mark order (omega (arith, all, past))))))
  | then-pass-test+then-release_childless-eq0 w ↦
      let now = w.release_childless.ensures in
      subst (λ (l : Locks). HasGoneBack c l c.pass-test.told.items) (sym w.self-is)
      (subst (λ (told : Told). HasGoneBack c w.release_childless.new.self told) (sym (ap (λ x. x.items) w.told-is)) (
        back_pass c.pass.invariant.going now.unlocks.0 now.unlocks.1 now.unlocks.2 now.active now.before now.fewer now.tell now.tells,
        now.stays w.if-release_childless-eq0.true,
      ))
]

pub returns-clause-back : goal.returns-clause-back
returns-clause-back c =
    let done = gone_back c in
    let fewer = done.0.fewer in
    let first = c.rows-rows.ensures ∙ rows_are c.args.self.now.ledger.lists.items c.args.slot in
    let last = c.rows-2.ensures ∙ rows_are c.pass-test.self.ledger.lists.items c.args.slot in
    (done.0.gone, record { unlocks = done.0.unlocks; fewer = done.0.fewer; before = done.0.before; stays = done.1 }, omega arith)

pub returns-clause-orders : goal.returns-clause-orders
returns-clause-orders c = elim c.pass-test.branch [
  | else-pass-test w ↦ subst (λ (l : Locks). ListsLose c.args.self.now.ledger.lists.items l.ledger.lists.items) (sym w.self-is) c.pass.invariant.orders
  | then-pass-test+then-release_childless-eq0 w ↦ subst (λ (l : Locks). ListsLose c.args.self.now.ledger.lists.items l.ledger.lists.items) (sym w.self-is)
      (lose_then c.pass.invariant.orders w.release_childless.ensures.orders)
]

pub returns-clause-tells : goal.returns-clause-tells
returns-clause-tells c = back_tells (gone_back c).0

pub returns-clause-active : goal.returns-clause-active
returns-clause-active c = (gone_back c).0.active

pub returns-clause-tell : goal.returns-clause-tell
returns-clause-tell c = (gone_back c).0.tell
