use Rattle.std.proofs.Common.{◌≡◌, ap, sym, ◌∙◌, Bool}
use Rattle.gl_modes.specs.declared.node.NodeId.{NodeId}
use Rattle.gl_model.specs.Calls.{is_idle}
use Rattle.gl_catalog.specs.Manager.{ManagerView, state_of}
use Rattle.gl_waiting.proofs.RowTrying.{busy_unless, busy_when}
use Rattle.gl_waiting.proofs.delivery.Delivery.busy_node.Goals as goal

-- in the words of a delivery
idle_as : (b c : Bool) (m m' : ManagerView) (n : NodeId) → b ≡ is_idle (state_of m) n → m ≡ m' → b ≡ c → is_idle (state_of m') n ≡ c
idle_as b c m m' n is same so = sym (ap (λ (x : ManagerView). is_idle (state_of x) n) same) ∙ sym is ∙ so

pub returns-then-is_idle : goal.returns-then-is_idle
returns-then-is_idle c =
    busy_when (state_of c.args.self.now.manager) _ c.in_ok-node.node c.in_ok-node.ensures
    (idle_as c.is_idle.result _ c.manager.result.now c.args.self.now.manager c.in_ok-node.node c.is_idle.ensures c.manager.ensures c.if-is_idle.true)

pub returns : goal.returns
returns c =
    busy_unless (state_of c.args.self.now.manager) _ c.in_ok-node.node c.in_ok-node.ensures
    (idle_as c.is_idle.result _ c.manager.result.now c.args.self.now.manager c.in_ok-node.node c.is_idle.ensures c.manager.ensures c.if-is_idle.false)
