use Rattle.gl_waiting.proofs.Runs.{own_as}
use Rattle.gl_waiting.specs.Resting.{RestOn, acting_in}
use Rattle.gl_c.proofs.serving.RowCalls.{row_acts, named_as}
use Rattle.gl_catalog.specs.Manager.{state_of}
use Rattle.std.specs.Prelude.{Bool, Option, ℕ}
use Rattle.std.proofs.Common.{◌≡◌, ap, refl, subst, sym, ◌∙◌}
use Rattle.gl_slots.specs.declared.slots.Slots.{Slots}
use Rattle.gl_model.specs.Tellings.{Told}
use Rattle.gl_steps.specs.declared.command.Answer.{Answer}
use Rattle.gl_steps.specs.declared.command.Command.{Command}
use Rattle.gl_rows.specs.declared.call.RowCall.{RowCall}
use Rattle.gl_c.specs.managers.Carries.{Performs}
use Rattle.gl_c.specs.managers.Guarded.{GuardedView, with_waiting}
use Rattle.gl_c.specs.managers.Serving.{known_after}
use Rattle.gl_c.specs.managers.Showing.{parties_in, shown_in}
use Rattle.gl_c.specs.managers.Sound.{view_of}
use Rattle.gl_c.proofs.serving.Serving.{counted_as, idle_rouses, leaves_counted, leaves_idle, some_rouses, sound_counted, sound_idle}
use Rattle.gl_c.proofs.serving.Known.{row_knows}
use Rattle.gl_waiting.proofs.TurnRuns.{turn_alone, turn_run}
use Rattle.gl_c.specs.managers.Carries.{spared_by}
use Rattle.gl_rows.specs.Applying.{answer_in, own_command, unnamed, naming}
use Rattle.gl_c.specs.locks.Rows.{row_call}
use Rattle.gl_c.proofs.managers.guarded.Guarded.serve_row.Goals as goal

-- what is known of the waits depends on the call's own command
noted : (went_on : Bool) (parties : Option Slots) (call : RowCall) (own : Command) (a said : Option Answer) (told l : Told) (o : Option Slots)
    → o ≡ known_after went_on parties (spared_by own said l) → own ≡ own_command unnamed call → said ≡ a → l ≡ told
    → o ≡ known_after went_on parties (spared_by (own_command unnamed call) a told)
noted went_on parties call own a said told l o is named answers same =
    is ∙ ap (λ (c : Command). known_after went_on parties (spared_by c said l)) named
    ∙ ap (λ (x : Option Answer). known_after went_on parties (spared_by (own_command unnamed call) x l)) answers
    ∙ ap (λ (x : Told). known_after went_on parties (spared_by (own_command unnamed call) a x)) same

-- no command was counted

same : (c : goal.Then-accepted-before) → c.serve_row-answer.new.self.manager.accepted ≡ c.self.inside.waiting.manager.accepted
same c =
    sym (counted_as _ _ _ c.accepted.ensures c.manager-2.ensures) ∙ c.if-accepted-before.true ∙ counted_as _ _ _ c.accepted-before.ensures c.manager.ensures

pub invariant_of-self : goal.invariant_of-self
invariant_of-self c =
    sound_idle c.self.inside c.serve_row-answer.new.self
    (turn_run c.self.inside.waiting _ c.serve_row-answer.result.1 c.serve_row-answer.new.self c.serve_row-answer.ensures (own_command unnamed c.args.call)
    (λ own mid h. own_as (own_command (naming c.args.call c.self.inside.waiting.rows mid.rows) c.args.call) (own_command unnamed c.args.call)
    (state_of c.self.inside.waiting.manager) (state_of mid.manager)
    (λ t e. named_as (naming c.args.call c.self.inside.waiting.rows mid.rows) unnamed c.args.call t ∙ e) h.run)).0 c.self.invariant (same c)

pub returns-then-accepted-before : goal.returns-then-accepted-before
returns-then-accepted-before c =
    subst (λ (g : GuardedView). Performs g (row_call c.args.call) c.serve_row-answer.result.0 c.serve_row-answer.new.told.items (with_waiting
    (view_of c.self.inside) c.serve_row-answer.new.self)) c.self.view_is
    (leaves_idle c.self.inside c.serve_row-answer.new.self
    (turn_run c.self.inside.waiting _ c.serve_row-answer.result.1 c.serve_row-answer.new.self c.serve_row-answer.ensures (own_command unnamed c.args.call)
    (λ own mid h. own_as (own_command (naming c.args.call c.self.inside.waiting.rows mid.rows) c.args.call) (own_command unnamed c.args.call)
    (state_of c.self.inside.waiting.manager) (state_of mid.manager)
    (λ t e. named_as (naming c.args.call c.self.inside.waiting.rows mid.rows) unnamed c.args.call t ∙ e) h.run)).0 c.self.invariant
    (same c) _ _ c.self.inside.resting.resting refl
    (idle_rouses _ c.self.inside.waiting c.serve_row-answer.new.self c.self.inside.resting.resting (same c)) (spared_by (own_command unnamed c.args.call)
    (answer_in c.serve_row-answer.result.0) c.serve_row-answer.new.told.items) c.serve_row-answer.result.1
    c.serve_row-answer.ensures)

-- some were

pub invariant_of-self-2 : goal.invariant_of-self-2
invariant_of-self-2 c =
    sound_counted c.self.inside c.serve_row-answer.new.self
    (turn_run c.self.inside.waiting _ c.serve_row-answer.result.1 c.serve_row-answer.new.self c.serve_row-answer.ensures (own_command unnamed c.args.call)
    (λ own mid h. own_as (own_command (naming c.args.call c.self.inside.waiting.rows mid.rows) c.args.call) (own_command unnamed c.args.call)
    (state_of c.self.inside.waiting.manager) (state_of mid.manager)
    (λ t e. named_as (naming c.args.call c.self.inside.waiting.rows mid.rows) unnamed c.args.call t ∙ e) h.run)).0 c.self.invariant c.rouse.new.self
    (c.rouse.ensures.keeps (state_of c.self.inside.waiting.manager) (own_command unnamed c.args.call) c.law.ensures.manager.lawful
    (turn_run c.self.inside.waiting _ c.serve_row-answer.result.1 c.serve_row-answer.new.self c.serve_row-answer.ensures (own_command unnamed c.args.call)
    (λ own mid h. own_as (own_command (naming c.args.call c.self.inside.waiting.rows mid.rows) c.args.call) (own_command unnamed c.args.call)
    (state_of c.self.inside.waiting.manager) (state_of mid.manager)
    (λ t e. named_as (naming c.args.call c.self.inside.waiting.rows mid.rows) unnamed c.args.call t ∙ e) h.run))
    (row_acts c.args.call c.command.result c.acting_slot.result c.command.ensures c.acting_slot.ensures unnamed) c.self.invariant.rests)
    c.serve_row-answer.result.1.went_on
    (spared_by (own_command unnamed c.args.call)
    (answer_in c.serve_row-answer.result.0) c.serve_row-answer.new.told.items) c.keep.new.showing c.keep.ensures.shown
    (noted c.serve_row-answer.result.1.went_on (parties_in c.self.inside.showing) c.args.call c.command-2.result
    (answer_in c.serve_row-answer.result.0) c.answer_of.result c.serve_row-answer.new.told.items c.as_slice.result.now
    (parties_in c.keep.new.showing) c.keep.ensures.parties c.command-2.ensures c.answer_of.ensures c.as_slice.ensures.value) c.serve_row-answer.result.1.ended
    (λ quiet. row_knows c.self.inside.waiting (shown_in c.self.inside.showing)
    (parties_in c.self.inside.showing) c.self.invariant.known c.serve_row-answer.result.1.ended
    c.serve_row-answer.new.self c.law.ensures.manager.lawful c.law.ensures.manager.few c.args.call c.serve_row-answer.result.0
    c.serve_row-answer.new.told.items
    (turn_alone c.self.inside.waiting _ c.serve_row-answer.result.1 c.serve_row-answer.new.self c.serve_row-answer.ensures quiet)
    (λ is. c.if-accepted-before.false (counted_as _ _ _ c.accepted.ensures c.manager-2.ensures ∙ is
    ∙ sym (counted_as _ _ _ c.accepted-before.ensures c.manager.ensures))))

pub returns : goal.returns
returns c =
    subst (λ (g : GuardedView). Performs g
    (row_call c.args.call) c.serve_row-answer.result.0 c.serve_row-answer.new.told.items c.show_if_due.new.self) c.self.view_is
    (leaves_counted c.self.inside c.serve_row-answer.new.self
    (turn_run c.self.inside.waiting _ c.serve_row-answer.result.1 c.serve_row-answer.new.self c.serve_row-answer.ensures (own_command unnamed c.args.call)
    (λ own mid h. own_as (own_command (naming c.args.call c.self.inside.waiting.rows mid.rows) c.args.call) (own_command unnamed c.args.call)
    (state_of c.self.inside.waiting.manager) (state_of mid.manager)
    (λ t e. named_as (naming c.args.call c.self.inside.waiting.rows mid.rows) unnamed c.args.call t ∙ e) h.run)).0 c.self.invariant c.rouse.new.self
    (c.rouse.ensures.keeps (state_of c.self.inside.waiting.manager) (own_command unnamed c.args.call) c.law.ensures.manager.lawful
    (turn_run c.self.inside.waiting _ c.serve_row-answer.result.1 c.serve_row-answer.new.self c.serve_row-answer.ensures (own_command unnamed c.args.call)
    (λ own mid h. own_as (own_command (naming c.args.call c.self.inside.waiting.rows mid.rows) c.args.call) (own_command unnamed c.args.call)
    (state_of c.self.inside.waiting.manager) (state_of mid.manager)
    (λ t e. named_as (naming c.args.call c.self.inside.waiting.rows mid.rows) unnamed c.args.call t ∙ e) h.run))
    (row_acts c.args.call c.command.result c.acting_slot.result c.command.ensures c.acting_slot.ensures unnamed) c.self.invariant.rests)
    c.serve_row-answer.result.1.went_on
    (spared_by (own_command unnamed c.args.call)
    (answer_in c.serve_row-answer.result.0) c.serve_row-answer.new.told.items) c.keep.new.showing c.keep.ensures.shown
    (noted c.serve_row-answer.result.1.went_on (parties_in c.self.inside.showing) c.args.call c.command-2.result
    (answer_in c.serve_row-answer.result.0) c.answer_of.result c.serve_row-answer.new.told.items c.as_slice.result.now
    (parties_in c.keep.new.showing) c.keep.ensures.parties c.command-2.ensures c.answer_of.ensures c.as_slice.ensures.value) _ c.serve_row-answer.result.1
    c.show_if_due.new.self refl _
    (λ more. some_rouses _ c.self.inside.waiting c.serve_row-answer.new.self c.self.inside.resting.resting c.rouse.new.self.resting (subst (λ
    (o : Option ℕ). RestOn o c.self.inside.resting.resting c.rouse.new.self.resting) (c.acting_slot.ensures ∙ ap acting_in c.command.ensures)
    c.rouse.ensures.rest) more)
    c.serve_row-answer.ensures (λ is. c.if-accepted-before.false (counted_as _ _ _ c.accepted.ensures c.manager-2.ensures ∙ is
    ∙ sym (counted_as _ _ _ c.accepted-before.ensures c.manager.ensures)))
    c.show_if_due.ensures.kept c.show_if_due.ensures.shown c.show_if_due.ensures.known)
