-- No command changes what the host chose for a state, such as detection.
use Rattle.gl_waits.specs.declared.victims.Victims.{Victims}
use Rattle.std.specs.Prelude.{◌≡◌, ℕ}
use Rattle.std.proofs.Common.{ap, refl}
use Rattle.gl_model.specs.declared.answers.Detect.{Detect}
use Rattle.gl_steps.specs.declared.command.Answer.{Answer}
use Rattle.gl_steps.specs.declared.command.Command.{Command}
use Rattle.gl_model.specs.State.{State}
use Rattle.gl_model.specs.Tellings.{Told}
use Rattle.gl_steps.specs.Step.{Step}
use Rattle.gl_steps.proofs.Accepting.{accepting_touches}
use Rattle.gl_steps.proofs.EachStep.{each_step}

-- what the host chose for a state: detection, choice of victims, and how many transactions may live at once
abbrev pub settings : State → Detect × Victims × ℕ
settings s = (s.detect, s.victims, s.most)

pub steps_keep_settings : (s s' : State) (c : Command) (a : Answer) (told' : Told) → Step s c a told' s' → settings s' ≡ settings s
steps_keep_settings s s' c a told' step =
    each_step (λ x. settings x ≡ settings s) s c a told' s' refl (λ next same. same)
    (λ free next acc. ap (λ x. (x.0, x.1, x.2)) (accepting_touches s c a told' next acc)) step

-- detection stays
pub steps_keep_detect : (s s' : State) (c : Command) (a : Answer) (told' : Told) → Step s c a told' s' → s'.detect ≡ s.detect
steps_keep_detect s s' c a told' step = ap (λ x. x.0) (steps_keep_settings s s' c a told' step)
