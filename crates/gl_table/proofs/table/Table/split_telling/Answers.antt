use Rattle.gl_table.proofs.Words.{◌∙◌, ◌≡◌, Active, ap, graph_of, Inside, None, refl, Some, State, state_in, state_of, status_of}
use Rattle.gl_table.proofs.Words.{subst, sym, TableView, Told, told, true, view_of}
use Rattle.gl_graph.specs.Splits.{split_refusal}
use Rattle.gl_model.specs.Calls.{holds_x}
use Rattle.gl_model.specs.Splits.{split_by}
use Rattle.gl_table.specs.inside.Steps.{TellsMoved}
use Rattle.gl_table.proofs.calls.Orders.{orders_of}
use Rattle.gl_table.proofs.calls.Records.{same_state, stands_roomy}
use Rattle.gl_table.proofs.calls.Splits.{agreed_cut, fresh_cut, parted_cut, shut_cut, stands_cut, state_cut, told_cut}
use Rattle.gl_table.proofs.calls.Stands.{IsLaw, MayStand, put, with_locks}
use Rattle.gl_table.proofs.inside.Places.{kept_then}
use Rattle.gl_table.proofs.table.Table.split_telling.Goals.{After-prepare_split}
use Rattle.gl_table.proofs.table.Table.split_telling.Goals as goal

-- room was made

ready : (c : After-prepare_split) → MayStand c.self.inside c.self.inside.locks.graph c.prepare_split.new.self
ready c = stands_roomy c.self.inside c.self.invariant c.prepare_split.new.self c.prepare_split.ensures.kept

pub invariant_of-locks : goal.invariant_of-locks
invariant_of-locks c = (ready (goal.at.invariant_of-locks c).After-prepare_split).law

pub invariant_of-locks-in-Break-branch-2 : goal.invariant_of-locks-in-Break-branch-2
invariant_of-locks-in-Break-branch-2 c = subst (λ v. IsLaw v c.prepare_split.new.self) (sym c.in_err-fresh.ensures.err)
    (ready (goal.at.invariant_of-locks-in-Break-branch-2 c).After-prepare_split).law

abbrev roomy : After-prepare_split → Inside
roomy c = put c.self.inside c.self.inside.locks.graph c.prepare_split.new.self (ready c).law

same : (c : After-prepare_split) → state_of (view_of (roomy c)) ≡ state_of c.args.self.now
same c = same_state c.self.inside c.self.invariant c.prepare_split.new.self c.prepare_split.ensures.kept
    ∙ ap (λ (v : TableView). state_of v) c.self.view_is

active : (c : After-prepare_split) → status_of (state_of (view_of (roomy c))) c.args.t.slot ≡ Some Active
active c = ap (λ (s : State). status_of s c.args.t.slot) (same c) ∙ c.requires.acting.active

exclusive : (c : After-prepare_split) → holds_x (state_of (view_of (roomy c))) c.args.t.slot c.args.interval ≡ true
exclusive c = ap (λ (s : State). holds_x s c.args.t.slot c.args.interval) (same c) ∙ c.requires.exclusive

free : (c : After-prepare_split) → split_refusal (graph_of c.self.inside.locks.graph) c.args.interval c.args.bound ≡ None
free c = subst (λ (v : TableView). split_refusal (state_of v).graph c.args.interval c.args.bound ≡ None) (sym c.self.view_is) c.requires.free

pub split-requires-clause-agreed : goal.split-requires-clause-agreed
split-requires-clause-agreed c = let at = (goal.at.split-requires-clause-agreed c).After-prepare_split in
    agreed_cut (roomy at) (ready at).safe c.args.t.slot c.args.interval c.in_ok-fresh.fresh c.args.bound c.split_unrefused.new.self (active at)
    (exclusive at) (free at) c.in_ok-fresh.ensures.made

pub split-requires-clause-parted : goal.split-requires-clause-parted
split-requires-clause-parted c = let at = (goal.at.split-requires-clause-parted c).After-prepare_split in
    parted_cut (roomy at) (ready at).safe c.args.t.slot c.args.interval c.in_ok-fresh.fresh c.args.bound c.split_unrefused.new.self (active at)
    (exclusive at) (free at) c.in_ok-fresh.ensures.made

pub split-requires-clause-fresh : goal.split-requires-clause-fresh
split-requires-clause-fresh c = let at = (goal.at.split-requires-clause-fresh c).After-prepare_split in
    fresh_cut (roomy at) (ready at).safe c.args.t.slot c.args.interval c.in_ok-fresh.fresh c.args.bound c.split_unrefused.new.self (active at)
    (exclusive at) (free at) c.in_ok-fresh.ensures.made

pub split-requires-clause-shut_out : goal.split-requires-clause-shut_out
split-requires-clause-shut_out c = let at = (goal.at.split-requires-clause-shut_out c).After-prepare_split in
    shut_cut (roomy at) (ready at).safe c.args.t.slot c.args.interval c.in_ok-fresh.fresh c.args.bound c.split_unrefused.new.self (active at)
    (exclusive at) (free at) c.in_ok-fresh.ensures.made

pub invariant_of-self-2 : goal.invariant_of-self-2
invariant_of-self-2 c = let at = (goal.at.invariant_of-self-2 c).After-prepare_split in
    (stands_cut (roomy at) (ready at).safe c.args.t.slot c.args.interval c.in_ok-fresh.fresh c.args.bound c.split_unrefused.new.self (active at)
    (exclusive at) (free at) c.in_ok-fresh.ensures.made c.split.new.self c.split.ensures.state c.split.ensures.exact).safe

pub invariant_of-locks-2 : goal.invariant_of-locks-2
invariant_of-locks-2 c = let at = (goal.at.invariant_of-locks-2 c).After-prepare_split in
    (stands_cut (roomy at) (ready at).safe c.args.t.slot c.args.interval c.in_ok-fresh.fresh c.args.bound c.split_unrefused.new.self (active at)
    (exclusive at) (free at) c.in_ok-fresh.ensures.made c.split.new.self c.split.ensures.state c.split.ensures.exact).law

pub returns-clause-state : goal.returns-clause-state
returns-clause-state c = let at = (goal.at.returns-clause-state c).After-prepare_split in
    state_cut (roomy at) (ready at).safe c.args.t.slot c.args.interval c.in_ok-fresh.fresh c.args.bound c.split_unrefused.new.self (active at)
    (exclusive at) (free at) c.in_ok-fresh.ensures.made c.split.new.self c.split.ensures.state
    ∙ ap (λ (s : State). split_by s c.args.t.slot c.args.interval (graph_of c.split_unrefused.new.self) c.in_ok-fresh.fresh) (same at)

pub returns-clause-told : goal.returns-clause-told
returns-clause-told c = let at = (goal.at.returns-clause-told c).After-prepare_split in
    told_cut (roomy at) (ready at).safe c.args.t.slot c.args.interval c.in_ok-fresh.fresh c.args.bound c.split_unrefused.new.self (active at)
    (exclusive at) (free at) c.in_ok-fresh.ensures.made c.split.new.self c.split.ensures.state c.split.new.told.items
    (subst (λ (list : Told). TellsMoved (state_of (view_of (roomy at))) c.args.interval list c.split.new.told.items) c.requires.empty c.split.ensures.tells)
    ∙ ap (λ (x : State). told x (with_locks (roomy at) (state_in c.split_unrefused.new.self c.split.new.self))) (same at)

pub returns-clause-orders : goal.returns-clause-orders
returns-clause-orders c = orders_of c.self.inside c.self.view_is (kept_then c.prepare_split.ensures.kept.lists c.split.ensures.orders) refl
