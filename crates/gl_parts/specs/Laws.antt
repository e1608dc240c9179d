-- The laws of the whole, each said once and proved once.
use Rattle.std.specs.Prelude.{◌≡◌, ◌≢◌, ℕ, Bool, true, false, List, ◌∷◌, ◌++◌}
use Rattle.std.specs.List.{list_any}
use Rattle.gl_modes.specs.declared.mode.Mode.{Mode}
use Rattle.gl_modes.specs.declared.mode.Mode.TheVariants.{NL, SIX}
use Rattle.gl_modes.specs.declared.node.NodeId.{NodeId}
use Rattle.gl_modes.specs.Modes.{is_at_least}
use Rattle.gl_graph.specs.Graph.{Graph}
use Rattle.gl_waits.specs.Waits.{IsOnNoCycle}
use Rattle.gl_model.specs.Lawful.{GrantsGoTogether, GrantsIntend, HasNoConflict, IsLawful}
use Rattle.gl_model.specs.State.{State, waits_for}
use Rattle.gl_model.specs.Tellings.{Told}
use Rattle.gl_steps.specs.declared.command.Answer.{Answer}
use Rattle.gl_steps.specs.declared.command.Command.{Command}
use Rattle.gl_steps.specs.Step.{Step}
use Rattle.gl_parts.specs.Whole.{Each, HasParentsOf, IsLedBy, Part, held_at, held_in, is_in, waits_in, whole}

-- t has the mode or a greater one on n in some manager
abbrev pub holds_somewhere : Mode → List Part → ℕ → NodeId → Bool
holds_somewhere m ps t n = list_any (λ p. is_at_least (held_at p t n) m) ps

-- a lawful manager that agrees with the graph of the whole
pub record IsPartOf (g : Graph) (p : Part) : Type 0 where
  pub lawful : IsLawful p.state
  pub parents : HasParentsOf g p

-- if grants of different transactions are compatible in each manager, so they are in the whole
abbrev pub PartsGoTogether : Type 0
PartsGoTogether =
    (g : Graph) (main : Part) (ps : List Part) → IsLedBy main ps → Each (λ p. GrantsGoTogether p.state) (main ∷ ps) → GrantsGoTogether (whole g (main ∷ ps))

-- if every grant meets the rule of the graph in each manager, so it does in the whole
abbrev pub PartsIntend : Type 0
PartsIntend = (g : Graph) (ps : List Part) → Each (λ p. GrantsIntend p.state × HasParentsOf g p) ps → GrantsIntend (whole g ps)

-- over lawful managers no two transactions conflict on any node of the whole
abbrev pub PartsHaveNoConflict : Type 0
PartsHaveNoConflict = (g : Graph) (main : Part) (ps : List Part) → IsLedBy main ps → Each (IsPartOf g) (main ∷ ps) → HasNoConflict (whole g (main ∷ ps))

-- a transaction has a mode or a greater one in the whole exactly if it has in some manager, except that S in one and IX in another are SIX
abbrev pub ModesOfTheWhole : Type 0
ModesOfTheWhole = (ps : List Part) (t : ℕ) (n : NodeId) (m : Mode) → m ≢ NL → m ≢ SIX → is_at_least (held_in ps t n) m ≡ holds_somewhere m ps t n

-- of a node that is in one manager alone, the whole has what that manager has
abbrev pub GrantsOfOnePart : Type 0
GrantsOfOnePart =
    (before after : List Part) (p : Part) (t : ℕ) (n : NodeId) → is_in n p ≡ true → list_any (is_in n) before ≡ false → list_any (is_in n) after ≡ false
    → held_in (before ++ p ∷ after) t n ≡ held_at p t n

-- a step of one manager that leaves its graph as it was leaves all lawful, and in agreement with the graph of the whole
abbrev pub StepsKeepParts : Type 0
StepsKeepParts =
    (g : Graph) (before after : List Part) (p : Part) (s' : State) (c : Command) (a : Answer) (told : Told) → Each (IsPartOf g) (before ++ p ∷ after)
    → Step p.state c a told s' → s'.graph ≡ p.state.graph
    → Each (IsPartOf g) (before ++ record p { state = s' } ∷ after)

-- who is on no cycle of the whole is on none of any manager
abbrev pub CyclesOfPartsAreCycles : Type 0
CyclesOfPartsAreCycles = (ps : List Part) (t : ℕ) → IsOnNoCycle (waits_in ps) t → Each (λ p. IsOnNoCycle (waits_for p.state) t) ps
