use Rattle.std.specs.Prelude.{◌≡◌, ◌+◌, ◌*◌}
use Rattle.gl_crew.proofs.places.do_rounds.Given as goal

abbrev pub invariant-loop-round : goal.invariant-loop-round
invariant-loop-round g l = l.session.share ≡ l.fn.session.share + l.round * g.W.Work.commands
