use Rattle.std.proofs.Common.{ap, sym, ◌∙◌}
use Rattle.gl_catalog.specs.Counters.{with_notice}
use Rattle.gl_catalog.proofs.Counts.{notices_more}
use Rattle.gl_catalog.proofs.counters.Counters.add_notices.Goals as goal

pub loop-notice-preserved : goal.loop-notice-preserved
loop-notice-preserved c = c.add_notice.ensures ∙ ap (with_notice _) c.loop-notice.invariant
    ∙ sym (notices_more c.args.told.now c.loop-notice.notice-index _ c.args.self.now c.loop-notice-test.true)
