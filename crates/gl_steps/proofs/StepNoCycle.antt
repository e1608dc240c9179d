-- With detection at each block no command at all leaves a cycle: those on the graph add no step.
use Rattle.std.specs.Prelude.{◌≡◌, [], ◌∷◌, None}
use Rattle.std.proofs.Common.{sym, ◌∙◌, subst}
use Rattle.gl_modes.specs.declared.mode.Mode.TheVariants.{X}
use Rattle.gl_modes.specs.declared.node.NodeId.{NodeId}
use Rattle.gl_model.specs.declared.txn.Status.TheVariants.{Active}
use Rattle.gl_model.specs.declared.answers.Detect.TheVariants.{AtBlock}
use Rattle.gl_steps.specs.declared.command.Answer.{Answer}
use Rattle.gl_steps.specs.declared.command.Command.{Command}
use Rattle.gl_steps.specs.declared.command.Command.TheVariants as command
use Rattle.gl_waits.proofs.CycleLemmas.{less-no_cycle}
use Rattle.gl_model.specs.Splits.{split_by}
use Rattle.gl_model.specs.State.{State, waits_for, with_graph, HasNoCycle}
use Rattle.gl_model.proofs.splits.Laws.{splits_add_no_wait}
use Rattle.gl_model.specs.Lawful.{IsLawful}
use Rattle.gl_model.specs.Tellings.{Told}
use Rattle.gl_steps.specs.Step.{Step}
use Rattle.gl_steps.specs.Tests.{refusal_of, worn}
use Rattle.gl_modes.specs.declared.refusal.Refusal.TheVariants as no
use Rattle.gl_model.specs.declared.txn.TxnId.{TxnId}
use Rattle.gl_graph.specs.Graph.{shape_of}
use Rattle.gl_graph.specs.Shapes.{is_record_shape}
use Rattle.gl_model.specs.Calls.{escalation_blocks, held_child, not_held, asked_by_escalation, raised, shed, wanted}
use Rattle.gl_steps.specs.Promises.{RunsKeepNoCycle}
use Rattle.gl_graph.specs.Refusals.{where_true}
use Rattle.gl_graph.proofs.Unrefused.{not_false, not_refused, test_fails}
use Rattle.gl_model.proofs.law.Tests.{raised-lawful}
use Rattle.gl_model.proofs.law.Move.{moved-no_cycle}
use Rattle.gl_model.proofs.law.Tests.{active_after}
use Rattle.gl_model.proofs.law.Departures.{departed-no_cycle}
use Rattle.gl_model.proofs.law.Lock.{may_lock}
use Rattle.gl_model.proofs.law.Lock.{begun-no_cycle, granted-no_cycle, locks-no_cycle, unlocked-no_cycle, shed-no_cycle, given_up-no_cycle}
use Rattle.gl_model.proofs.law.Lock.{released-no_cycle, settled-no_cycle}
use Rattle.gl_steps.proofs.Changes.{Change, change_of}
use Rattle.gl_steps.proofs.Changes as change
use Rattle.gl_steps.proofs.EachStep.{each_step}
use Rattle.gl_steps.proofs.Detection.{steps_keep_detect}
use Rattle.gl_steps.proofs.StepsKeepLaw.{steps_keep_law}
use Rattle.gl_steps.proofs.SplitKeeps.{splits}

-- the grant is raised, and then the children are released
escalated-no_cycle : (s : State) → IsLawful s → (t : TxnId) (n : NodeId) → refusal_of s (command.Escalate t n) ≡ None → HasNoCycle s
    → HasNoCycle (shed (raised s t.slot n) t.slot n)
escalated-no_cycle s law t n h none =
    let a = active_after s t n (worn s) _ h in
    let b = not_refused (where_true (is_record_shape (shape_of s.graph n)) no.BadParents) _ a.2 in
    let c = not_refused (not_held s t.slot n) _ b.1 in
    let d = not_refused (escalation_blocks s t.slot n) [] c.1 in
    shed-no_cycle (raised s t.slot n)
    (raised-lawful s law t.slot n a.0 a.1 (test_fails _ _ b.0) (not_false _ (test_fails _ _ c.0)) (not_false _ (test_fails _ _ d.0))) t.slot n a.0
    (granted-no_cycle s t.slot n (wanted s t.slot n (asked_by_escalation s t.slot n)) a.0 none)

changes-no_cycle : (s : State) (a : Answer) (s' : State) → s.detect ≡ AtBlock → IsLawful s → HasNoCycle s → Change s a s' → HasNoCycle s'
changes-no_cycle s a s' at law none (change.Regraphed g is) = subst HasNoCycle (sym is) none
changes-no_cycle s a s' at law none (change.Born t n g active birth is) = subst HasNoCycle (sym is) (granted-no_cycle (with_graph s g) t.slot n X active none)
changes-no_cycle s a s' at law none (change.Begun u age since is) = subst HasNoCycle (sym is) (begun-no_cycle s u age since none)
changes-no_cycle s a s' at law none (change.Locked t n m free locks is) = locks-no_cycle s s' at law t n m (may_lock s t n m (worn s) [] free).0 locks none
changes-no_cycle s a s' at law none (change.Granted t n m free is) =
    subst HasNoCycle (sym is) (granted-no_cycle s t.slot n (wanted s t.slot n m) (active_after s t n (worn s) _ free).0 none)
changes-no_cycle s a s' at law none (change.Unlocked t n free is) =
    let a = active_after s t n (worn s) _ free in
    let b = not_refused (not_held s t.slot n) _ a.2 in
    subst HasNoCycle (sym is) (unlocked-no_cycle s law t.slot n a.0 (not_refused (held_child s t.slot n) [] b.1).0 none)
changes-no_cycle s a s' at law none (change.Shed t n free is) = subst HasNoCycle (sym is) (escalated-no_cycle s law t n free none)
changes-no_cycle s a s' at law none (change.Cancelled t is) = subst HasNoCycle (sym is) (given_up-no_cycle s law t.slot Active (λ q m e. cc) none)
changes-no_cycle s a s' at law none (change.Released t is) = subst HasNoCycle (sym is) (released-no_cycle s law t.slot none)
changes-no_cycle s a s' at law none (change.Settles t is) = settled-no_cycle s.victims s s' t.slot law is none
changes-no_cycle s a s' at law none (change.Departed goes g is) = subst HasNoCycle (sym is) (departed-no_cycle s goes g none)
changes-no_cycle s a s' at law none (change.Parted t i n bound g free split is) =
    subst HasNoCycle (sym is) (less-no_cycle (waits_for s) (waits_for (split_by s t.slot i g n))
    (splits_add_no_wait s t i n bound g (splits s t i n bound g law free split)) none)
changes-no_cycle s a s' at law none (change.Moved n ps g is) = subst HasNoCycle (sym is) (moved-no_cycle s law n ps g none)

-- no cycle after each step, of any command
pub steps_keep_no_cycle : (s s' : State) (c : Command) (a : Answer) (told' : Told) → s.detect ≡ AtBlock → IsLawful s → HasNoCycle s
    → Step s c a told' s' → HasNoCycle s'
steps_keep_no_cycle s s' c a told' at law none step =
    each_step HasNoCycle s c a told' s' none (λ next none'. none')
    (λ free next acc. changes-no_cycle s a next at law none (change_of s c a told' next free acc)) step

-- nor after a whole run
pub runs_keep_no_cycle : RunsKeepNoCycle
runs_keep_no_cycle s s' [] [] at law none run = subst HasNoCycle (sym run) none
runs_keep_no_cycle s s' [] (r ∷ rs) at law none run = absurd run
runs_keep_no_cycle s s' (c ∷ cs) [] at law none run = absurd run
runs_keep_no_cycle s s' (c ∷ cs) (r ∷ rs) at law none run =
    runs_keep_no_cycle run.0 s' cs rs (steps_keep_detect s run.0 c r.0 r.1 run.1 ∙ at) (steps_keep_law s run.0 c r.0 r.1 law run.1)
    (steps_keep_no_cycle s run.0 c r.0 r.1 at law none run.1) run.2
