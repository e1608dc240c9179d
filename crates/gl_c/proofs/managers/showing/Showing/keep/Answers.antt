use Rattle.std.proofs.Common.{◌≡◌, ◌∙◌, ap, sym}
use Rattle.std.specs.Prelude.{◌&&◌, Bool, false, IsSomeAnd, Option, Some, None, if◌then◌else◌, not}
use Rattle.gl_header.specs.Header.{is_empty}
use Rattle.gl_model.specs.Tellings.{Told}
use Rattle.gl_slots.proofs.SlotLemmas.{none-test}
use Rattle.gl_slots.specs.Slots.{HasNoSlot}
use Rattle.gl_slots.specs.declared.slots.Slots.{Slots}
use Rattle.gl_steps.specs.Served.{leaves_waiting}
use Rattle.gl_steps.specs.declared.command.Answer.{Answer}
use Rattle.gl_steps.specs.declared.command.Command.{Command}
use Rattle.gl_window.specs.Tellings.{leaves_waits, spares_waits, still_known}
use Rattle.gl_c.proofs.managers.showing.Showing.keep.Goals as goal

-- if nobody waited and nobody waits, what was known is still known
idle_still : (parties : Option Slots) (c : Command) (a : Answer) (told : Told) → IsSomeAnd parties HasNoSlot → leaves_waiting a ≡ false
    → parties ≡ still_known parties (λ known. leaves_waits known c a told)
idle_still None c a told idle goes = absurd idle
idle_still (Some set) c a told idle goes =
    sym (ap (λ (b : Bool). if (if b then not (leaves_waiting a) else is_empty told && spares_waits set c a) then Some set else None) (none-test set idle)
    ∙ ap (λ (w : Bool). if not w then Some set else None) goes)

pub returns-then-not-leaves_waiting-clause-parties : goal.returns-then-not-leaves_waiting-clause-parties
returns-then-not-leaves_waiting-clause-parties c =
    idle_still c.args.self.now.parties c.args.command.now c.args.answer.now c.args.told.now (c.is_idle.ensures.0 c.if-is_idle.true)
    (sym c.leaves_waiting.ensures ∙ c.if-not-leaves_waiting.true)
