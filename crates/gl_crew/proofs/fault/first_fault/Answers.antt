use Rattle.std.specs.Prelude.{◌≡◌, drop, false, is_some, List, None, Option, Some, ◌∷◌}
use Rattle.std.proofs.Common.{add-one, ap, drop-cons, refl, sym, ◌∙◌}
use Rattle.gl_crew.specs.declared.fault.CrewFault.{CrewFault}
use Rattle.gl_crew.specs.Crews.{first_fault}
use Rattle.gl_crew.proofs.fault.first_fault.Goals as goal

-- an entry without a fault is skipped
passed : (x : Option CrewFault) (rest : List (Option CrewFault)) → is_some x ≡ false → first_fault (x ∷ rest) ≡ first_fault rest
passed None rest none = refl
passed (Some fault) rest none = absurd (cc none)

pub loop-fault-preserved : goal.loop-fault-preserved
loop-fault-preserved c =
    c.loop-fault.invariant ∙ ap first_fault (drop-cons c.args.faults.now c.loop-fault.fault-index None c.loop-fault-test.true)
    ∙ passed _ _ (sym c.is_some.ensures ∙ c.if-is_some.false)
    ∙ ap (λ n. first_fault (drop n c.args.faults.now)) (sym (add-one c.loop-fault.fault-index))
