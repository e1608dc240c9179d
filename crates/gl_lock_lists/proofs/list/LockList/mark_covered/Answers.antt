use Rattle.gl_lock_lists.proofs.Words.{◌<◌, ◌∙◌, ◌≤◌, graph_of, length-map, refl, subst, sym, ℕ}
use Rattle.gl_lock_lists.proofs.Children.{marks_begin, marks_end, marks_more}
use Rattle.gl_lock_lists.proofs.list.LockList.mark_covered.Goals as goal

pub loop-at-init : goal.loop-at-init
loop-at-init c = record {
  listed = λ q. refl;
  modes = marks_begin (graph_of c.args.graph.now) c.args.node c.args.self.now c.requires.counted;
  counts = λ q. refl;
  keys = refl;
}

pub loop-at-preserved : goal.loop-at-preserved
loop-at-preserved c =
    let now = c.loop-at.invariant in
    let same = c.len-at-end.ensures.len ∙ sym (length-map c.args.self.now.entries.entries (λ e. e.0)) in
    record {
      listed = λ q. c.mark_one.ensures.listed q ∙ now.listed q;
      modes = marks_more (graph_of c.args.graph.now) c.args.node c.args.self.now c.requires.counted c.loop-at.self c.mark_one.new.self c.loop-at.at
          (subst (λ (k : ℕ). c.loop-at.at < k) same c.loop-at-test.true) now.keys now.modes now.counts c.mark_one.ensures.marks;
      counts = λ q. c.mark_one.ensures.counts q ∙ now.counts q;
      keys = c.mark_one.ensures.keys ∙ now.keys;
    }

pub returns-clause-modes : goal.returns-clause-modes
returns-clause-modes c =
    let same = c.len-at-end.ensures.len ∙ sym (length-map c.args.self.now.entries.entries (λ e. e.0)) in
    marks_end (graph_of c.args.graph.now) c.args.node c.args.self.now c.requires.counted c.loop-at.self c.loop-at.at
    (subst (λ (k : ℕ). k ≤ c.loop-at.at) same c.loop-at-test.false) c.loop-at.invariant.modes
