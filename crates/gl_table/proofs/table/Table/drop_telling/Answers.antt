use Rattle.gl_table.proofs.Words.{◌∙◌, ◌≡◌, Active, ap, departed, false, goes_with, graph_of, Inside, is_in_use, is_movable_shape, NodeId, refl, same_mode}
use Rattle.gl_table.proofs.Words.{shape_of, Some, state_in, state_of, status_of, subst, sym, TableView, TellsGone, Told, told, true, view_of, X, ℕ}
use Rattle.gl_model.specs.Calls.{dropped}
use Rattle.gl_table.proofs.calls.Departing.{AreGone, stands_departed, state_departed, told_departed}
use Rattle.gl_table.proofs.calls.Dropping.{branch_gone, branch_left}
use Rattle.gl_table.proofs.calls.Stands.{as_it_was, may_act, MayStand, with_locks}
use Rattle.gl_table.proofs.calls.Orders.{losses_of}
use Rattle.gl_table.proofs.table.Table.drop_telling.Goals.{After-remove_node}
use Rattle.gl_table.proofs.table.Table.drop_telling.Goals as goal

movable : (i : Inside) (v : TableView) (n : NodeId) → view_of i ≡ v → is_movable_shape (shape_of (state_of v).graph n) ≡ true
    → is_movable_shape (shape_of (graph_of i.locks.graph) n) ≡ true
movable i v n is h = subst (λ (x : TableView). is_movable_shape (shape_of (state_of x).graph n) ≡ true) (sym is) h

free : (i : Inside) (v : TableView) (n : NodeId) → view_of i ≡ v → is_in_use (state_of v).graph n ≡ false → is_in_use (graph_of i.locks.graph) n ≡ false
free i v n is h = subst (λ (x : TableView). is_in_use (state_of x).graph n ≡ false) (sym is) h

active : (i : Inside) (v : TableView) (t : ℕ) → view_of i ≡ v → status_of (state_of v) t ≡ Some Active → status_of (state_of (view_of i)) t ≡ Some Active
active i v t is h = subst (λ (x : TableView). status_of (state_of x) t ≡ Some Active) (sym is) h

exclusive : (i : Inside) (v : TableView) (t : ℕ) (n : NodeId) → view_of i ≡ v → same_mode ((state_of v).held t n) X ≡ true
    → same_mode ((state_of (view_of i)).held t n) X ≡ true
exclusive i v t n is h = subst (λ (x : TableView). same_mode ((state_of x).held t n) X ≡ true) (sym is) h

pub vacate_branch-requires-clause-act : goal.vacate_branch-requires-clause-act
vacate_branch-requires-clause-act c = may_act c.self.inside.locks.graph c.self.inside.locks.ledger (as_it_was c.self.inside c.self.invariant).law c.args.t.slot
    (active c.self.inside c.args.self.now c.args.t.slot c.self.view_is c.requires.acting.active)

pub vacate_branch-requires-clause-branch : goal.vacate_branch-requires-clause-branch
vacate_branch-requires-clause-branch c =
    let is = branch_left (state_of (view_of c.self.inside)) c.self.invariant.lawful c.args.t.slot c.args.n
    (movable c.self.inside c.args.self.now c.args.n c.self.view_is c.requires.movable)
    (free c.self.inside c.args.self.now c.args.n c.self.view_is c.requires.free)
    (active c.self.inside c.args.self.now c.args.t.slot c.self.view_is c.requires.acting.active)
    (exclusive c.self.inside c.args.self.now c.args.t.slot c.args.n c.self.view_is c.requires.exclusive) in
    record { movable = is.movable; free = is.free; holding = is.holding; alone = is.alone; unawaited = is.unawaited }

gone : (c : After-remove_node)
    → AreGone (state_of (view_of c.self.inside)) (goes_with (graph_of c.self.inside.locks.graph) c.args.n) (graph_of c.remove_node.new.self) c.args.n
gone c =
    branch_gone (state_of (view_of c.self.inside)) c.self.invariant.lawful c.args.t.slot c.args.n
    (movable c.self.inside c.args.self.now c.args.n c.self.view_is c.requires.movable)
    (free c.self.inside c.args.self.now c.args.n c.self.view_is c.requires.free)
    (active c.self.inside c.args.self.now c.args.t.slot c.self.view_is c.requires.acting.active)
    (exclusive c.self.inside c.args.self.now c.args.t.slot c.args.n c.self.view_is c.requires.exclusive)
    (graph_of c.remove_node.new.self) c.remove_node.ensures.removed

stand : (c : After-remove_node) → MayStand c.self.inside c.remove_node.new.self c.vacate_branch.new.self
stand c =
    stands_departed c.self.inside c.self.invariant (goes_with (graph_of c.self.inside.locks.graph) c.args.n) c.args.n c.vacate_branch.new.self
    c.remove_node.new.self (gone c) c.vacate_branch.ensures.state c.vacate_branch.ensures.exact

pub invariant_of-self : goal.invariant_of-self
invariant_of-self c = (stand (goal.at.invariant_of-self c).After-remove_node).safe

pub invariant_of-locks : goal.invariant_of-locks
invariant_of-locks c = (stand (goal.at.invariant_of-locks c).After-remove_node).law

pub returns-clause-state : goal.returns-clause-state
returns-clause-state c =
    let at = (goal.at.returns-clause-state c).After-remove_node in
    state_departed c.self.inside c.self.invariant (goes_with (graph_of c.self.inside.locks.graph) c.args.n) c.args.n c.vacate_branch.new.self
    c.remove_node.new.self (gone at) c.vacate_branch.ensures.state
    ∙ ap (λ g. departed (state_of (view_of c.self.inside)) (goes_with (graph_of c.self.inside.locks.graph) c.args.n) g) c.remove_node.ensures.removed
    ∙ ap (λ (v : TableView). dropped (state_of v) c.args.n) c.self.view_is

pub returns-clause-told : goal.returns-clause-told
returns-clause-told c =
    let at = (goal.at.returns-clause-told c).After-remove_node in
    let s = state_of (view_of c.self.inside) in
    let tells = subst (λ (list : Told). TellsGone s c.args.n list c.vacate_branch.new.told.items)
    c.requires.empty c.vacate_branch.ensures.tells in
    told_departed c.self.inside c.self.invariant (goes_with (graph_of c.self.inside.locks.graph) c.args.n) c.args.n c.vacate_branch.new.self
    c.remove_node.new.self (gone at) c.vacate_branch.ensures.state c.vacate_branch.new.told.items tells
    ∙ ap (λ (v : TableView). told (state_of v) (with_locks c.self.inside (state_in c.remove_node.new.self c.vacate_branch.new.self))) c.self.view_is

pub returns-clause-orders : goal.returns-clause-orders
returns-clause-orders c = losses_of c.self.inside c.self.view_is c.vacate_branch.ensures.orders refl
