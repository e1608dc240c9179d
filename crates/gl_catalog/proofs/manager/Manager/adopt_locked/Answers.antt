use Rattle.std.specs.Prelude.{Option, false}
use Rattle.std.proofs.Common.{◌+◌, ap, rules, subst, sym, ◌≡◌, ◌∙◌}
use Rattle.arrayvec.specs.ArrayVec.{ArrayVec}
use Rattle.gl_modes.specs.declared.node.NodeId.{NodeId}
use Rattle.gl_modes.specs.declared.refusal.Refusal.{Refusal}
use Rattle.gl_header.specs.Headers.{held_of}
use Rattle.gl_graph.specs.Changes.{IsAdopted}
use Rattle.gl_graph.specs.Graph.{record_parents}
use Rattle.gl_graph.specs.Refusals.{Refuses}
use Rattle.gl_model.specs.Calls.{rule_refusal}
use Rattle.gl_model.specs.State.{State, with_grant, with_graph, counting}
use Rattle.gl_table.specs.Table.{state_of as table_state}
use Rattle.gl_catalog.specs.Counters.{one_if, rises}
use Rattle.gl_catalog.specs.Manager.{ManagerView, state_of}
use Rattle.gl_catalog.proofs.Adopting.{adopts, counts_grant, locks, may_adopt, mid}
use Rattle.gl_catalog.proofs.Insertions.{goes_none, refused_so}
use Rattle.gl_table.specs.Table.{KeepsOrders}
use Rattle.gl_catalog.proofs.manager.Manager.adopt_locked.Goals as goal

pub adopt_under-requires-clause-rule : goal.adopt_under-requires-clause-rule
adopt_under-requires-clause-rule c =
    let may = may_adopt (state_of c.args.self.now) c.args.t c.args.file c.args.keys.now c.args.mode (goes_none _ _ c.in_ok-parents.ensures.refuses) in
    ap (λ ps. rule_refusal (held_of c.self.inside.table.headers c.args.t.slot) ps c.args.mode) (c.as_slice.ensures.value ∙ c.in_ok-parents.ensures.parents)
    ∙ ap (λ (v : ManagerView). rule_refusal ((state_of v).held c.args.t.slot) (record_parents
    (state_of c.args.self.now).graph c.args.file c.args.keys.now) c.args.mode)
    c.self.view_is
    ∙ may.rule

pub returns-in_err-parents-clause-refuses : goal.returns-in_err-parents-clause-refuses
returns-in_err-parents-clause-refuses c =
    subst (λ (o : Option Refusal). Refuses o c.from_residual.result) (sym (refused_so (ArrayVec NodeId) _ _ c.in_err-parents.ensures.refuses)) (search rules)

pub returns-clause-adopts : goal.returns-clause-adopts
returns-clause-adopts c =
    let m : ManagerView = c.args.self.now in
    let after : State = table_state c.adopt_under.new.self in
    let s' : State = counting (c.self.inside.accepted + 2) after in
    let n : NodeId = c.in_ok-rec.rec in
    let born : IsAdopted (state_of m).graph s'.graph n c.args.file c.args.keys.now =
    subst (λ (v : ManagerView). IsAdopted (state_of v).graph after.graph n c.args.file c.args.keys.now) c.self.view_is c.in_ok-rec.ensures.made in
    let may = may_adopt (state_of m) c.args.t c.args.file c.args.keys.now c.args.mode (goes_none _ _ c.in_ok-parents.ensures.refuses) in
    let is : s' ≡ counting (m.accepted + 2) (with_grant (with_graph (state_of m) after.graph) c.args.t.slot n c.args.mode) =
    ap (counting (c.self.inside.accepted + 2)) c.in_ok-rec.ensures.state
    ∙ ap (λ (v : ManagerView). counting (v.accepted + 2) (with_grant (with_graph (state_of v) after.graph) c.args.t.slot n c.args.mode)) c.self.view_is in
    record {
      mid = mid (state_of m) s' c.law.ensures.lawful c.args.t c.args.file n c.args.keys c.args.mode may born;
      adopts = adopts (state_of m) s' c.law.ensures.lawful c.args.t c.args.file n c.args.keys c.args.mode may born;
      locks = locks (state_of m) s' c.law.ensures.lawful c.args.t c.args.file n c.args.keys c.args.mode may born is;
      accepted = ap (λ (v : ManagerView). v.accepted + 2) c.self.view_is;
      counters = c.add_grant.ensures
          ∙ ap (λ (v : ManagerView). record v.counters {
            granted = rises v.counters.granted 1;
            conversions = rises v.counters.conversions (one_if false);
            passed = rises v.counters.passed (one_if false);
          })
          c.self.view_is
          ∙ sym (counts_grant (state_of m) s' c.law.ensures.lawful c.args.t c.args.file n c.args.keys c.args.mode may born m.counters);
      deadlock = c.in_ok-rec.ensures.deadlock ∙ ap (λ (v : ManagerView). v.table.deadlock) c.self.view_is;
    }

pub returns-clause-orders : goal.returns-clause-orders
returns-clause-orders c = subst (λ (v : ManagerView). KeepsOrders v.table c.adopt_under.new.self) c.self.view_is c.in_ok-rec.ensures.orders
