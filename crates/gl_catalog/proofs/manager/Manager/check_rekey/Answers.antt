use Rattle.std.specs.Prelude.{◌∷◌, [], List, Option, Some, true, if◌then◌else◌}
use Rattle.std.proofs.Common.{ap, ◌∙◌, sym}
use Rattle.gl_modes.specs.declared.node.NodeId.{NodeId}
use Rattle.gl_modes.specs.declared.refusal.Refusal.{Refusal}
use Rattle.gl_modes.specs.declared.refusal.Refusal.TheVariants as no
use Rattle.gl_graph.specs.Changes.{rekeyed_parents}
use Rattle.gl_graph.specs.Refusals.{first_refusal, verdict}
use Rattle.gl_model.specs.Calls.{need_exclusive, need_new_parents}
use Rattle.gl_model.specs.State.{State}
use Rattle.gl_catalog.specs.Manager.{state_of}
use Rattle.gl_catalog.proofs.MoveChecks.{rekey_kinds}
use Rattle.gl_catalog.proofs.manager.Manager.check_rekey.Goals as goal

pub returns : goal.returns
returns c =
    let s : State = state_of c.args.self.now in
    let locks : List NodeId → Option Refusal = λ ps. first_refusal
    (need_exclusive s c.args.t.slot c.args.rec true ps ∷ need_new_parents s c.args.t.slot c.args.rec ps ∷ []) in
    c.check_move.ensures ∙ ap (λ ps. verdict (locks ps)) (c.as_slice.ensures.value ∙ c.parents_with-parents.ensures)
    ∙ ap verdict (sym (
    rekey_kinds s c.args.t c.args.rec c.args.index c.args.key c.in_ok-check_count.ensures c.in_ok-check_active.ensures (sym c.lives.ensures
    ∙ c.if-not-lives.false) (sym c.lives-else-not-lives.ensures ∙ c.if-not-lives-2.false)
    ∙ ap (λ b. if b then locks (rekeyed_parents s.graph c.args.rec c.args.index c.args.key) else Some no.BadParents) (sym c.is_keyed_by.ensures
    ∙ c.if-not-is_keyed_by.false)))
