use Rattle.std.proofs.Common.{refl, sym, arith, inl, inr, ◌≡◌, ◌∙◌, ℕ, List, Option, Err}
use Rattle.gl_script.specs.Grammar.{Text}
use Rattle.gl_options.specs.declared.requests.Asked.TheVariants as asked
use Rattle.gl_options.specs.Planned.{HasNoPlan}
use Rattle.gl_tool.specs.declared.entry.ToolFault.{ToolFault}
use Rattle.gl_tool.specs.declared.entry.ToolFault.TheVariants.{Run, Crew, Words}
use Rattle.gl_tool.specs.Outcome.{Stops, Works, status_of}
use Rattle.gl_tool.proofs.entry.program.Goals as goal

-- a fault in what the words ask for is of something that they ask for
no_plan : (words : List Text) (had has held holds : Option (List ℕ)) (fault : ToolFault) → Works words had has held holds (Err fault)
    → HasNoPlan words → status_of fault ≡ 2
no_plan words had has held holds (Run fault) (inl h) none = absurd (none (asked.Script h.0) h.1)
no_plan words had has held holds (Run fault) (inr h) none = absurd (none (asked.Crew h.1.0 h.1.1 h.1.2 h.1.3) h.1.4)
no_plan words had has held holds (Crew fault) h none = absurd (none (asked.Crew h.0 h.1 h.2 h.3) h.4)
no_plan words had has held holds Words h none = refl

-- the status 1 is that of a fault in what the words ask for
stops : (words : List Text) (had has held holds : Option (List ℕ)) (fault : ToolFault) → Works words had has held holds (Err fault)
    → status_of fault ≡ 1 → Stops words had has held holds
stops words had has held holds (Run f) h one = (Run f, h)
stops words had has held holds (Crew f) h one = (Crew f, h)
stops words had has held holds Words h one = absurd (omega (arith, one))

pub returns-in-Err-clause-fault : goal.returns-in-Err-clause-fault
returns-in-Err-clause-fault g c one = stops _ _ _ _ _ c.in-Err.fault c.in-Err.ensures (sym c.complain.ensures ∙ one)

pub returns-in-Err-clause-no_plan : goal.returns-in-Err-clause-no_plan
returns-in-Err-clause-no_plan g c none = c.complain.ensures ∙ no_plan _ _ _ _ _ c.in-Err.fault c.in-Err.ensures none
