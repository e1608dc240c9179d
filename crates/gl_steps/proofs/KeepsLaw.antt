-- A command that keeps the law of a state wherever it is accepted.
use Rattle.gl_steps.proofs.Words.{◌≡◌, Accepts, Answer, Command, IsLawful, None, refusal_of, State, Told}

abbrev pub KeepsLaw : Command → Type 0
KeepsLaw c = (s s' : State) (a : Answer) (told : Told) → IsLawful s → refusal_of s c ≡ None → Accepts s c a told s' → IsLawful s'
