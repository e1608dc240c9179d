use Rattle.std.specs.Prelude.{◌≡◌, drop, fold}
use Rattle.gl_shared.specs.declared.shown.Turn.{Turn}
use Rattle.gl_shared.specs.declared.shown.Next.{Next}
use Rattle.gl_shared.specs.Ties.{tie_of, turn_of, turned}
use Rattle.gl_shared.proofs.boards.publish_all.Given as goal

abbrev pub invariant-loop : goal.invariant-loop
invariant-loop g l = (tie_of l.writer.desk.shown.value.line ≡ tie_of l.fn.writer.desk.shown.value.line)
    × (fold (λ (t : Turn) (n : Next). turned n) (turn_of l.writer.desk.shown.value) (drop l.writer.behind l.writer.log.items)
    ≡ fold (λ (t : Turn) (n : Next). turned n) (turn_of l.fn.writer.desk.shown.value) (drop l.fn.writer.behind l.fn.writer.log.items))
