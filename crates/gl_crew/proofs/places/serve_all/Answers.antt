use Rattle.std.proofs.Common.{subst, Option, ℕ, ◌*◌}
use Rattle.gl_crew.specs.declared.fault.CrewFault.{CrewFault}
use Rattle.gl_crew.specs.declared.places.Place.{Place}
use Rattle.gl_crew.specs.Crews.{IsFaultless}
use Rattle.gl_crew.proofs.Taken.{served_amounts}
use Rattle.gl_crew.proofs.places.serve_all.Goals as goal

pub returns-clause-served : goal.returns-clause-served
returns-clause-served g c none =
    let share : Place g.row.N.Denot → Option ℕ = λ s. s.share in
    let fault : Place g.row.N.Denot → Option CrewFault = λ s. s.fault in
    served_amounts share fault (c.args.rounds * g.W.Work.commands) _ c.leave_all.result.shares.items c.serve_each.ensures.served
    c.leave_all.ensures.shares (subst IsFaultless c.leave_all.ensures.faults none)
