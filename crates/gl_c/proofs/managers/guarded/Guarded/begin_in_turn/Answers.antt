use Rattle.gl_steps.specs.declared.command.Command.TheVariants as command
use Rattle.gl_modes.proofs.Words.{no}
use Rattle.gl_catalog.specs.Manager.{state_of}
use Rattle.std.specs.Prelude.{[], Bool, false, Option}
use Rattle.gl_slots.specs.declared.slots.Slots.{Slots}
use Rattle.std.proofs.Common.{◌≡◌, ap, refl, subst, sym, ◌∙◌}
use Rattle.gl_steps.specs.declared.command.Answer.{Answer}
use Rattle.gl_steps.specs.declared.command.Command.{Command}
use Rattle.gl_waiting.specs.Asking.{begin_of}
use Rattle.gl_waiting.specs.declared.begins.QueuedBegin.{QueuedBegin}
use Rattle.gl_waiting.specs.declared.begins.Turn.{Turn}
use Rattle.gl_c.specs.locks.Turns.{turn_call, turn_said}
use Rattle.gl_c.specs.managers.Carries.{Performs, spared_by}
use Rattle.gl_c.specs.managers.Guarded.{GuardedView, with_waiting}
use Rattle.gl_c.specs.managers.Serving.{known_after}
use Rattle.gl_c.specs.managers.Showing.{parties_in, shown_in}
use Rattle.gl_c.specs.managers.Sound.{view_of}
use Rattle.gl_c.proofs.serving.Serving.{counted_as, idle_rouses, leaves_counted, leaves_idle, some_rouses, sound_counted, sound_idle}
use Rattle.gl_c.proofs.serving.Turns.{turn_is_run, turn_knows}
use Rattle.gl_c.proofs.managers.guarded.Guarded.begin_in_turn.Goals as goal

-- no command was counted

same : (c : goal.Then-accepted-before) → c.begin_in_turn-turn.new.self.manager.accepted ≡ c.self.inside.waiting.manager.accepted
same c =
    sym (counted_as _ _ _ c.accepted.ensures c.manager-2.ensures) ∙ c.if-accepted-before.true ∙ counted_as _ _ _ c.accepted-before.ensures c.manager.ensures

pub invariant_of-self : goal.invariant_of-self
invariant_of-self c =
    sound_idle c.self.inside c.begin_in_turn-turn.new.self
    (turn_is_run command.Begin c.self.inside.waiting c.args.begin c.begin_in_turn-turn.result.0 c.begin_in_turn-turn.result.1 c.begin_in_turn-turn.new.self
    c.begin_in_turn-turn.ensures).0 c.self.invariant (same c)

pub returns-then-accepted-before : goal.returns-then-accepted-before
returns-then-accepted-before c =
    subst (λ (g : GuardedView). Performs g (turn_call c.args.begin) c.begin_in_turn-turn.result.0 []
    (with_waiting (view_of c.self.inside) c.begin_in_turn-turn.new.self)) c.self.view_is
    (leaves_idle c.self.inside c.begin_in_turn-turn.new.self
    (turn_is_run command.Begin c.self.inside.waiting c.args.begin c.begin_in_turn-turn.result.0 c.begin_in_turn-turn.result.1 c.begin_in_turn-turn.new.self
    c.begin_in_turn-turn.ensures).0 c.self.invariant (same c) _ _ c.self.inside.resting.resting refl
    (idle_rouses _ c.self.inside.waiting c.begin_in_turn-turn.new.self c.self.inside.resting.resting (same c)) (spared_by (begin_of c.args.begin.since)
    (turn_said c.begin_in_turn-turn.result.0) [])
    (record { ended = c.begin_in_turn-turn.result.1; went_on = false }) (c.begin_in_turn-turn.ensures, refl))

-- some were

-- what is known of the waits depends on the command of the begin and on its answer
noted : (known : Option Slots) (went_on : Bool) (parties : Option Slots) (b : QueuedBegin) (came : Turn) (own : Command) (said : Option Answer)
    → known ≡ known_after went_on parties (spared_by own said []) → own ≡ begin_of b.since → said ≡ turn_said came
    → known ≡ known_after went_on parties (spared_by (begin_of b.since) (turn_said came) [])
noted known went_on parties b came own said is named answered =
    is ∙ ap (λ (x : Command). known_after went_on parties (spared_by x said [])) named
    ∙ ap (λ (x : Option Answer). known_after went_on parties (spared_by (begin_of b.since) x [])) answered

pub invariant_of-self-2 : goal.invariant_of-self-2
invariant_of-self-2 c =
    sound_counted c.self.inside c.begin_in_turn-turn.new.self
    (turn_is_run command.Begin c.self.inside.waiting c.args.begin c.begin_in_turn-turn.result.0 c.begin_in_turn-turn.result.1 c.begin_in_turn-turn.new.self
    c.begin_in_turn-turn.ensures).0 c.self.invariant c.rouse.new.self
    (c.rouse.ensures.keeps (state_of c.self.inside.waiting.manager) command.Begin c.law.ensures.manager.lawful
    (turn_is_run command.Begin c.self.inside.waiting c.args.begin c.begin_in_turn-turn.result.0 c.begin_in_turn-turn.result.1 c.begin_in_turn-turn.new.self
    c.begin_in_turn-turn.ensures)
    (λ u e. absurd (no e)) c.self.invariant.rests) false
    (spared_by (begin_of c.args.begin.since) (turn_said c.begin_in_turn-turn.result.0) []) c.keep.new.showing c.keep.ensures.shown
    (noted (parties_in c.keep.new.showing) false (parties_in c.self.inside.showing) c.args.begin
    c.begin_in_turn-turn.result.0 c.begin_command-command.result c.said.result c.keep.ensures.parties c.begin_command-command.ensures c.said.ensures)
    c.begin_in_turn-turn.result.1
    (λ quiet. turn_knows c.self.inside.waiting (shown_in c.self.inside.showing) (parties_in c.self.inside.showing) c.self.invariant.known
    c.begin_in_turn-turn.result.1
    c.begin_in_turn-turn.new.self c.law.ensures.manager.lawful c.law.ensures.manager.few c.args.begin
    c.begin_in_turn-turn.result.0 c.begin_in_turn-turn.ensures)

pub returns : goal.returns
returns c =
    subst (λ (g : GuardedView). Performs g (turn_call c.args.begin) c.begin_in_turn-turn.result.0 [] c.show_if_due.new.self) c.self.view_is
    (leaves_counted c.self.inside c.begin_in_turn-turn.new.self
    (turn_is_run command.Begin c.self.inside.waiting c.args.begin c.begin_in_turn-turn.result.0 c.begin_in_turn-turn.result.1 c.begin_in_turn-turn.new.self
    c.begin_in_turn-turn.ensures).0 c.self.invariant c.rouse.new.self
    (c.rouse.ensures.keeps (state_of c.self.inside.waiting.manager) command.Begin c.law.ensures.manager.lawful
    (turn_is_run command.Begin c.self.inside.waiting c.args.begin c.begin_in_turn-turn.result.0 c.begin_in_turn-turn.result.1 c.begin_in_turn-turn.new.self
    c.begin_in_turn-turn.ensures)
    (λ u e. absurd (no e)) c.self.invariant.rests) false
    (spared_by (begin_of c.args.begin.since) (turn_said c.begin_in_turn-turn.result.0) []) c.keep.new.showing c.keep.ensures.shown
    (noted (parties_in c.keep.new.showing) false (parties_in c.self.inside.showing) c.args.begin
    c.begin_in_turn-turn.result.0 c.begin_command-command.result c.said.result c.keep.ensures.parties c.begin_command-command.ensures c.said.ensures) _
    (record { ended = c.begin_in_turn-turn.result.1; went_on = false }) c.show_if_due.new.self refl _
    (λ more. some_rouses _ c.self.inside.waiting c.begin_in_turn-turn.new.self c.self.inside.resting.resting c.rouse.new.self.resting c.rouse.ensures.rest
    more) (c.begin_in_turn-turn.ensures, refl)
    (λ is. c.if-accepted-before.false (counted_as _ _ _ c.accepted.ensures c.manager-2.ensures ∙ is
    ∙ sym (counted_as _ _ _ c.accepted-before.ensures c.manager.ensures))) c.show_if_due.ensures.kept c.show_if_due.ensures.shown
    c.show_if_due.ensures.known)
