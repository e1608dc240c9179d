use Rattle.std.proofs.Common.{arith, ℕ, ◌<◌, ◌≤◌, Bool, true, false, Option, None, Some}
use Rattle.gl_script.specs.Grammar.{Text}
use Rattle.gl_waits.specs.declared.victims.Victims.{Victims}
use Rattle.gl_model.specs.declared.answers.Detect.{Detect}
use Rattle.gl_options.specs.declared.requests.Asked.TheVariants.{Crew}
use Rattle.gl_options.specs.Planned.{IsAsked}
use Rattle.gl_tool.proofs.entry.work.Goals as goal

-- a crew that is asked for has 1 to 128 sessions
has_sessions : (detection choice : Option Text) (listings schema savepoints trace : Bool) (crew rounds : Option Text) (s r : ℕ) (d : Detect) (v : Victims)
    → IsAsked detection choice listings schema savepoints trace crew rounds (Crew s r d v) → (0 < s) × (s ≤ 128)
has_sessions detection choice listings schema savepoints trace None None s r d v p = absurd p
has_sessions detection choice listings schema savepoints trace None (Some y) s r d v p = absurd p
has_sessions detection choice true schema savepoints trace (Some x) rounds s r d v p = absurd p
has_sessions detection choice false true savepoints trace (Some x) rounds s r d v p = absurd p
has_sessions detection choice false false true trace (Some x) rounds s r d v p = absurd p
has_sessions detection choice false false false true (Some x) rounds s r d v p = absurd p
has_sessions detection choice false false false false (Some x) None s r d v p = absurd p
has_sessions detection choice false false false false (Some x) (Some y) s r d v p = (omega (arith, p.0.2), p.0.3)

pub crew_choosing-requires-after_bounds : goal.crew_choosing-requires-after_bounds
crew_choosing-requires-after_bounds g c κs within =
    let asks = rw c.in-Some-Crew.field-0-is at c.in-Some-Crew.ensures in
    has_sessions _ _ _ _ _ _ _ _ c.in-Some-Crew.sessions c.in-Some-Crew.rounds c.in-Some-Crew.detect c.in-Some-Crew.victims asks.1
