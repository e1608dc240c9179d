use Rattle.gl_table.proofs.Words.{◌∙◌, ◌≡◌, ap, first_cycle, graph_of, moved_to, Moves, Node, refl, state_in, state_of, sym, TableView, told, view_of}
use Rattle.gl_table.proofs.Words.{with_parents}
use Rattle.gl_table.proofs.calls.Moves.{agreed_moved, move_call, recount_moved, shut_moved, stands_moved, state_moved, told_moved}
use Rattle.gl_model.proofs.law.Move.{moved_node}
use Rattle.gl_table.proofs.calls.Stands.{MayStand, with_locks}
use Rattle.gl_table.proofs.calls.Orders.{losses_of}
use Rattle.gl_table.proofs.table.Table.regraft_telling.Goals.{After-follow}
use Rattle.gl_table.proofs.table.Table.regraft_telling.Goals as goal

abbrev after : goal.After-as_slice → Node → Node
after c was = moved_node c.args.parents.now was

moved_graph : (c : goal.After-as_slice) → graph_of c.set_parents.new.self ≡ with_parents (graph_of c.args.self.now.graph) c.args.n c.args.parents.now
moved_graph c = c.in_ok-set_parents.ensures.moved ∙ ap (λ (v : TableView). with_parents (graph_of v.graph) c.args.n c.args.parents.now) c.self.view_is

-- the move that was made
made : (c : goal.After-as_slice) → (was : Node) × Moves (state_of (view_of c.self.inside)) c.args.t.slot c.args.n was (after c was)
    (graph_of c.set_parents.new.self)
made c =
    move_call c.self.inside c.self.invariant c.args.self.now c.self.view_is c.args.t.slot c.set_parents.new.self c.args.n c.args.parents.now
    c.requires.acting.active c.requires.allowed.movable c.requires.allowed.inner c.requires.allowed.exclusive c.requires.allowed.rule
    (ap (λ (v : TableView). first_cycle (graph_of v.graph) c.args.n c.args.parents.now) (sym c.self.view_is) ∙ c.in_ok-set_parents.ensures.clear)
    (moved_graph c)

pub follow-requires-clause-agreed : goal.follow-requires-clause-agreed
follow-requires-clause-agreed c = let m = made c in
    agreed_moved c.self.inside c.self.invariant c.args.t.slot c.args.n m.0 (after c m.0) c.set_parents.new.self m.1

pub follow-requires-clause-shut_out : goal.follow-requires-clause-shut_out
follow-requires-clause-shut_out c = let m = made c in
    shut_moved c.self.inside c.self.invariant c.args.t.slot c.args.n m.0 (after c m.0) c.set_parents.new.self m.1

pub follow-requires-clause-recount : goal.follow-requires-clause-recount
follow-requires-clause-recount c = let m = made c in
    recount_moved c.self.inside c.self.invariant c.args.t.slot c.args.n m.0 (after c m.0) c.set_parents.new.self m.1 c.as_slice.result.now
    (c.as_slice.ensures.value ∙ c.parents_before-old.ensures)

stand : (c : After-follow) → MayStand c.self.inside c.set_parents.new.self c.follow.new.self
stand c = let m = made c.before in
    stands_moved c.self.inside c.self.invariant c.args.t.slot c.args.n m.0 (after c.before m.0) c.set_parents.new.self m.1 c.follow.new.self
    c.follow.new.told.items c.follow.ensures.moved c.as_slice.result.now (c.as_slice.ensures.value ∙ c.parents_before-old.ensures) c.follow.ensures.counts

pub invariant_of-self-2 : goal.invariant_of-self-2
invariant_of-self-2 c = (stand (goal.at.invariant_of-self-2 c).After-follow).safe

pub invariant_of-locks-2 : goal.invariant_of-locks-2
invariant_of-locks-2 c = (stand (goal.at.invariant_of-locks-2 c).After-follow).law

pub returns-clause-state : goal.returns-clause-state
returns-clause-state c = let at = (goal.at.returns-clause-state c).After-follow in let m = made at.before in
    state_moved c.self.inside c.self.invariant c.args.t.slot c.args.n m.0 (after at.before m.0) c.set_parents.new.self m.1 c.follow.new.self
    c.follow.new.told.items c.follow.ensures.moved
    ∙ ap (λ (v : TableView). moved_to (state_of v) c.args.n c.args.parents.now (graph_of c.set_parents.new.self)) c.self.view_is
    ∙ ap (moved_to (state_of c.args.self.now) c.args.n c.args.parents.now) (moved_graph at.before)

pub returns-clause-told : goal.returns-clause-told
returns-clause-told c = let at = (goal.at.returns-clause-told c).After-follow in let m = made at.before in
    told_moved c.self.inside c.self.invariant c.args.t.slot c.args.n m.0 (after at.before m.0) c.set_parents.new.self m.1 c.follow.new.self
    c.follow.new.told.items c.follow.ensures.moved
    ∙ ap (λ (v : TableView). told (state_of v) (with_locks c.self.inside (state_in c.set_parents.new.self c.follow.new.self)))
    c.self.view_is

pub returns-clause-orders : goal.returns-clause-orders
returns-clause-orders c = losses_of c.self.inside c.self.view_is c.follow.ensures.orders refl
