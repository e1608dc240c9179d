use Rattle.std.proofs.Common.{ap, subst, sym, ◌≡◌, ◌∙◌}
use Rattle.std.specs.Prelude.{if◌then◌else◌, length, max, not}
use Rattle.std.proofs.Common.{rules}
use Rattle.gl_modes.specs.Modes.{same_mode}
use Rattle.gl_modes.specs.declared.mode.Mode.TheVariants.{NL}
use Rattle.gl_catalog.specs.declared.counters.Counters.{Counters}
use Rattle.gl_catalog.specs.Counters.{lock_counted, lock_passes, waiting_in, waits, with_notices}
use Rattle.gl_catalog.specs.Manager.{ManagerView, state_of}
use Rattle.gl_catalog.specs.Sound.{view_of}
use Rattle.gl_steps.specs.Step.{answer_of_lock}
use Rattle.gl_catalog.proofs.Completed.{lock_noted, with_lock}
use Rattle.gl_catalog.proofs.manager.Manager.count_lock.Goals as goal

pub returns : goal.returns
returns c =
    let waiting = c.waits_seen-waiting.result.0 in
    let queued = c.waits_seen-waiting.result.1 in
    let k = c.self.inside.counters in
    let converts : c.ne.result ≡ not (same_mode c.args.held NL) = search rules in
    subst (λ (v : ManagerView). record (view_of c.self.inside) { counters = c.add_notices.new.self } ≡ record v {
      counters = lock_counted
          (state_of v) c.args.n (not (same_mode c.args.held NL)) (lock_passes (state_of v) c.args.n c.args.held c.args.locked)
          (answer_of_lock c.args.locked) c.args.told.now v.counters;
    }) c.self.view_is
    (ap (λ (x : Counters). record (view_of c.self.inside) { counters = x })
    (c.add_notices.ensures ∙ ap (with_notices c.args.told.now) (c.add_waits.ensures
    ∙ ap (λ (x : Counters). record x { most_waiting = max x.most_waiting waiting; longest_queue = max x.longest_queue queued }) (c.add_lock.ensures
    ∙ (λ i. with_lock (converts i) (c.lock_passes-passes.ensures i) k (answer_of_lock c.args.locked))))
    ∙ lock_noted (state_of (view_of c.self.inside)) c.args.n (not (same_mode c.args.held NL)) (lock_passes (state_of
    (view_of c.self.inside)) c.args.n c.args.held c.args.locked) c.args.told.now k (answer_of_lock c.args.locked) waiting queued
    (c.waits_seen-waiting.ensures.waiting ∙ ap (λ (v : ManagerView). if waits (answer_of_lock c.args.locked) then waiting_in (state_of v) else 0)
    (sym c.self.view_is))
    (c.waits_seen-waiting.ensures.queued ∙ ap (λ (v : ManagerView). if waits (answer_of_lock c.args.locked) then length
    ((state_of v).queue c.args.n) else 0) (sym c.self.view_is))))
