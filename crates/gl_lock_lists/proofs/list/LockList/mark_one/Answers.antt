use Rattle.gl_lock_lists.proofs.Words.{◌∙◌, covered_in, graph_of, mode_of, sym}
use Rattle.gl_lock_lists.proofs.Lists.{key_at, marks_none, marks_one}
use Rattle.gl_lock_lists.proofs.list.LockList.mark_one.Goals as goal

pub returns-then-covers-clause-marks : goal.returns-then-covers-clause-marks
returns-then-covers-clause-marks c = λ n at q.
    c.set_mode.ensures.modes q
    ∙ marks_one (covered_in (graph_of c.args.graph.now) c.args.self.now c.args.node) c.in-Some.child.now n q (mode_of c.args.self.now q)
    (key_at c.args.self.now.entries.entries c.args.at (c.in-Some.child.now, c.in-Some.entry.now) n c.in-Some.ensures.entry at)
    (sym c.covers.ensures ∙ c.if-covers.true)

pub returns-else-covers-clause-marks : goal.returns-else-covers-clause-marks
returns-else-covers-clause-marks c = λ n at q.
    marks_none (covered_in (graph_of c.args.graph.now) c.args.self.now c.args.node) c.in-Some.child.now n q (mode_of c.args.self.now q)
    (key_at c.args.self.now.entries.entries c.args.at (c.in-Some.child.now, c.in-Some.entry.now) n c.in-Some.ensures.entry at)
    (sym c.covers.ensures ∙ c.if-covers.false)
