-- How often others are granted a waiter's node, and how often they still can be.
use Rattle.std.specs.Prelude.{◌≡◌, ℕ, ◌+◌, ◌*◌, ◌≤◌, ◌<◌, Bool, true, false, not, ◌&&◌, ◌==◌, List, ◌∷◌, cond, if◌then◌else◌}
use Rattle.std.specs.List.{count_by, sum_by}
use Rattle.gl_modes.specs.declared.mode.Mode.{Mode}
use Rattle.gl_modes.specs.declared.mode.Mode.TheVariants.{NL, IS, IX, S, SIX, X}
use Rattle.gl_modes.specs.declared.node.NodeId.{NodeId}
use Rattle.gl_modes.specs.Modes.{is_at_least, same_mode}
use Rattle.gl_header.specs.Header.{holds}
use Rattle.gl_model.specs.declared.txn.TxnId.{TxnId}
use Rattle.gl_model.specs.Lawful.{IsLawful}
use Rattle.gl_model.specs.State.{State, members, slots}
use Rattle.gl_model.specs.Tellings.{Told}
use Rattle.gl_steps.specs.declared.command.Answer.{Answer}
use Rattle.gl_steps.specs.declared.command.Command.{Command}
use Rattle.gl_steps.specs.Promises.{waits_on}
use Rattle.gl_steps.specs.Step.{Step}
use Rattle.gl_fairness.specs.Waiting.{WaitsThrough, stands_before}

-- how many raises a holder of this mode can have: the most up to X, as NL, IS, IX, SIX, X from none
abbrev pub raises_left : Mode → ℕ
raises_left NL = 4
raises_left IS = 3
raises_left IX = 2
raises_left S = 2
raises_left SIX = 1
raises_left X = 0

-- each raise leaves fewer
abbrev pub RaisesEnd : Type 0
RaisesEnd = (a b : Mode) → is_at_least b a ≡ true → same_mode b a ≡ false → raises_left b < raises_left a

-- between the states another than t, in slot u, is granted n: it holds n, in another mode than before
abbrev pub is_granted_past : State → State → TxnId → NodeId → ℕ → Bool
is_granted_past s s' t n u = not (u == t.slot) && (holds (members s' n) u && not (same_mode (s'.held u n) (s.held u n)))

-- how many others are granted n between the states
abbrev pub passes : State → State → TxnId → NodeId → ℕ
passes s s' t n = count_by (is_granted_past s s' t n) (slots s)

-- how often the transaction in slot u can still be granted n while t waits on it: the raises left to it if it is before t
abbrev pub passes_left_to : State → TxnId → NodeId → ℕ → ℕ
passes_left_to s t n u = if stands_before s t n u then raises_left (s.held u n) else 0

-- how often others can still be granted n while t waits on it: the raises left to those before t
abbrev pub passes_left : State → TxnId → NodeId → ℕ
passes_left s t n = sum_by (passes_left_to s t n) (slots s)

-- how often others are granted n over a run along which t waits on it
abbrev pub passes_through : (t : TxnId) (n : NodeId) (s : State) (cs : List Command) (rs : List (Answer × Told)) (s' : State) → WaitsThrough t n s cs rs s' → ℕ
passes_through t n s (c ∷ cs) (r ∷ rs) s' run = passes s run.1 t n + passes_through t n run.1 cs rs s' run.3
passes_through t n s cs rs s' run = 0

-- how often another, in slot u, is granted n over a run along which t waits on it
abbrev pub passes_of : (u : ℕ) (t : TxnId) (n : NodeId) (s : State) (cs : List Command) (rs : List (Answer × Told)) (s' : State)
    → WaitsThrough t n s cs rs s' → ℕ
passes_of u t n s (c ∷ cs) (r ∷ rs) s' run = cond (is_granted_past s run.1 t n u) 1 0 + passes_of u t n run.1 cs rs s' run.3
passes_of u t n s cs rs s' run = 0

-- each grant to another, over a step after which t still waits, is one of those that were left
abbrev pub PassesAreSpent : Type 0
PassesAreSpent =
    (s s' : State) (c : Command) (a : Answer) (told : Told) (t : TxnId) (n : NodeId) → IsLawful s → Step s c a told s' → waits_on s t n ≡ true
    → waits_on s' t n ≡ true
    → passes s s' t n + passes_left s' t n ≤ passes_left s t n

-- the same over a run, and at its beginning at most four are left to each that is before t
abbrev pub PassedAtMost : Type 0
PassedAtMost =
    (s s' : State) (cs : List Command) (rs : List (Answer × Told)) (t : TxnId) (n : NodeId) → IsLawful s → (run : WaitsThrough t n s cs rs s')
    → (passes_through t n s cs rs s' run + passes_left s' t n ≤ passes_left s t n)
    × (passes_left s t n ≤ 4 * count_by (stands_before s t n) (slots s))

-- and each by itself passes t at most as often as was left to it: at most four times if it was before t, and else never
abbrev pub EachPassesAtMost : Type 0
EachPassesAtMost =
    (s s' : State) (cs : List Command) (rs : List (Answer × Told)) (t : TxnId) (n : NodeId) (u : ℕ) → IsLawful s → (run : WaitsThrough t n s cs rs s')
    → (passes_of u t n s cs rs s' run + passes_left_to s' t n u ≤ passes_left_to s t n u) × (passes_left_to s t n u ≤ 4)
