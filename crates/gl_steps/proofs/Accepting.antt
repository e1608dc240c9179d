-- What an accepted command leaves of the count of accepted commands, which is raised after it.
use Rattle.std.specs.Prelude.{◌≡◌, ℕ, zero, suc}
use Rattle.std.proofs.Common.{ap}
use Rattle.gl_modes.proofs.Words.{split}
use Rattle.gl_waits.specs.declared.victims.Victims.{Victims}
use Rattle.gl_model.specs.declared.answers.Detect.{Detect}
use Rattle.gl_model.specs.declared.answers.Detect.TheVariants.{AtBlock, ByWatcher}
use Rattle.gl_model.specs.Calls.{WaitSettles, enqueued, enters_at, wanted}
use Rattle.gl_model.specs.State.{condemned, State, SettledWithin}
use Rattle.gl_model.specs.Tellings.{Told}
use Rattle.gl_steps.specs.declared.command.Answer.{Answer}
use Rattle.gl_steps.specs.declared.command.Command.{Command}
use Rattle.gl_steps.specs.declared.command.Command.TheVariants as command
use Rattle.gl_steps.specs.Step.{Accepts}

-- what no accepted command touches: what the host chose for the state, and the count
abbrev pub untouched : State → Detect × Victims × ℕ × ℕ
untouched s = (s.detect, s.victims, s.most, s.accepted)

settled_touches : (c : Victims) (k : ℕ) (s s' : State) (t : ℕ) → SettledWithin c k s t s' → untouched s' ≡ untouched s
settled_touches c zero s s' t h = ap untouched h.1
settled_touches c (suc k) s s' t h = settled_touches c k (condemned s h.0) s' t h.2

wait_touches : (d : Detect) (c : Victims) (s s' : State) (t : ℕ) → WaitSettles d c s t s' → untouched s' ≡ untouched s
wait_touches AtBlock c s s' t h = settled_touches c h.0 s s' t h.1
wait_touches ByWatcher c s s' t h = ap untouched h

-- the last case is that of commands that only tell and leave a state
pub accepting_touches : (s : State) (c : Command) (a : Answer) (told : Told) (s' : State) → Accepts s c a told s' → untouched s' ≡ untouched s
accepting_touches s (command.Inner ps) a told s' acc = ap untouched acc.4
accepting_touches s (command.File ps) a told s' acc = ap untouched acc.4
accepting_touches s (command.Index ps f bs) a told s' acc = ap untouched acc.4
accepting_touches s (command.Insert t f keys) a told s' acc = ap untouched acc.4
accepting_touches s command.Begin a told s' acc = ap untouched acc.4
accepting_touches s (command.BeginAgain since) a told s' acc = ap untouched acc.4
accepting_touches s (command.Lock t n m) a told s' acc =
    split (enters_at s t.slot n m) (λ e. ap untouched (acc.0.at_once e))
    (λ e. wait_touches s.detect s.victims (enqueued s t.slot n (wanted s t.slot n m)) s' t.slot (acc.0.waits e))
accepting_touches s (command.Settle t) a told s' acc = settled_touches s.victims acc.2.0 s s' t.slot acc.2.1
accepting_touches s (command.Group n) a told s' acc = absurd acc
accepting_touches s (command.Held t n) a told s' acc = absurd acc
accepting_touches s (command.Effective t n) a told s' acc = absurd acc
accepting_touches s (command.Adopt f keys) a told s' acc = ap untouched acc.4
accepting_touches s (command.IndexBy t ps f bs rs ks) a told s' acc = ap untouched acc.4
accepting_touches s (command.Split t i at) a told s' acc = ap untouched acc.4
accepting_touches s c a told s' acc = ap untouched acc.2

pub accepting_keeps_count : (s : State) (c : Command) (a : Answer) (told : Told) (s' : State) → Accepts s c a told s' → s'.accepted ≡ s.accepted
accepting_keeps_count s c a told s' acc = ap (λ x. x.3) (accepting_touches s c a told s' acc)
