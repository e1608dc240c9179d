use Rattle.gl_table.proofs.Words.{◌∙◌, ◌≡◌, Active, ap, deleted, departed, graph_of, holds, Inside, is_record_shape, members, NodeId, rec_live, refl, same_mode}
use Rattle.gl_table.proofs.Words.{same_node, shape_of, Some, state_in, state_of, status_of, subst, sym, TableView, TellsGone, Told, told, true, view_of, X}
use Rattle.gl_table.proofs.inside.Vacated.{record-childless}
use Rattle.gl_table.proofs.calls.Departing.{AreGone, stands_departed, state_departed, told_departed}
use Rattle.gl_table.proofs.calls.Records.{held_alone, record_gone}
use Rattle.gl_table.proofs.calls.Stands.{as_it_was, may_act, MayStand, with_locks}
use Rattle.gl_table.proofs.calls.Orders.{losses_of}
use Rattle.gl_table.proofs.table.Table.remove_telling.Goals.{After-remove_record}
use Rattle.gl_table.proofs.table.Table.remove_telling.Goals as goal

is_record : (i : Inside) (v : TableView) (r : NodeId) → view_of i ≡ v → is_record_shape (shape_of (state_of v).graph r) ≡ true
    → is_record_shape (shape_of (graph_of i.locks.graph) r) ≡ true
is_record i v r is rec = subst (λ (x : TableView). is_record_shape (shape_of (state_of x).graph r) ≡ true) (sym is) rec

pub vacate-requires-clause-act : goal.vacate-requires-clause-act
vacate-requires-clause-act c = may_act c.self.inside.locks.graph c.self.inside.locks.ledger (as_it_was c.self.inside c.self.invariant).law c.args.t.slot
    (subst (λ (v : TableView). status_of (state_of v) c.args.t.slot ≡ Some Active) (sym c.self.view_is) c.requires.acting.active)

pub vacate-requires-clause-left : goal.vacate-requires-clause-left
vacate-requires-clause-left c =
    let rec = is_record c.self.inside c.args.self.now c.args.rec c.self.view_is c.requires.record in
    record {
      live = rec_live (graph_of c.self.inside.locks.graph) c.self.invariant.lawful.graph c.args.rec rec;
      childless = λ u. record-childless (graph_of c.self.inside.locks.graph) c.self.invariant.lawful.graph c.args.rec rec
          (λ q. holds (members (state_of (view_of c.self.inside)) q) u);
      alone = held_alone (state_of (view_of c.self.inside)) c.self.invariant.lawful c.args.t.slot c.args.rec
          (subst (λ (v : TableView). same_mode ((state_of v).held c.args.t.slot c.args.rec) X ≡ true) (sym c.self.view_is) c.requires.exclusive);
    }

gone : (c : After-remove_record)
    → AreGone (state_of (view_of c.self.inside)) (λ q. same_node q c.args.rec) (graph_of c.remove_record.new.self) c.args.rec
gone c =
    record_gone (state_of (view_of c.self.inside)) c.self.invariant.lawful c.args.rec
    (is_record c.self.inside c.args.self.now c.args.rec c.self.view_is c.requires.record) (graph_of c.remove_record.new.self) c.remove_record.ensures.removed

stand : (c : After-remove_record) → MayStand c.self.inside c.remove_record.new.self c.vacate.new.self
stand c =
    stands_departed c.self.inside c.self.invariant (λ q. same_node q c.args.rec) c.args.rec c.vacate.new.self c.remove_record.new.self (gone c)
    c.vacate.ensures.state c.vacate.ensures.exact

pub invariant_of-self : goal.invariant_of-self
invariant_of-self c = (stand (goal.at.invariant_of-self c).After-remove_record).safe

pub invariant_of-locks : goal.invariant_of-locks
invariant_of-locks c = (stand (goal.at.invariant_of-locks c).After-remove_record).law

pub returns-clause-state : goal.returns-clause-state
returns-clause-state c =
    let at = (goal.at.returns-clause-state c).After-remove_record in
    state_departed c.self.inside c.self.invariant (λ q. same_node q c.args.rec) c.args.rec c.vacate.new.self c.remove_record.new.self (gone at)
    c.vacate.ensures.state
    ∙ ap (λ g. departed (state_of (view_of c.self.inside)) (λ q. same_node q c.args.rec) g) c.remove_record.ensures.removed
    ∙ ap (λ (v : TableView). deleted (state_of v) c.args.rec) c.self.view_is

pub returns-clause-told : goal.returns-clause-told
returns-clause-told c =
    let at = (goal.at.returns-clause-told c).After-remove_record in
    let s = state_of (view_of c.self.inside) in
    let tells = subst (λ (list : Told). TellsGone s c.args.rec list c.vacate.new.told.items)
    c.requires.empty c.vacate.ensures.tells in
    told_departed c.self.inside c.self.invariant (λ q. same_node q c.args.rec) c.args.rec c.vacate.new.self c.remove_record.new.self (gone at)
    c.vacate.ensures.state c.vacate.new.told.items tells
    ∙ ap (λ (v : TableView). told (state_of v) (with_locks c.self.inside (state_in c.remove_record.new.self c.vacate.new.self))) c.self.view_is

pub returns-clause-orders : goal.returns-clause-orders
returns-clause-orders c = losses_of c.self.inside c.self.view_is c.vacate.ensures.orders refl
