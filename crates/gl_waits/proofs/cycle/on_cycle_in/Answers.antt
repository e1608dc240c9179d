use Rattle.gl_waits.proofs.Words.{◌∙◌, and_from, and_parts, has_slot, sym}
use Rattle.gl_waits.proofs.WalkLemmas.{reaches_join}
use Rattle.gl_waits.proofs.CycleLemmas.{cycle-meets, meets-cycle}
use Rattle.gl_waits.proofs.cycle.on_cycle_in.Goals as goal

pub returns-then-contains : goal.returns-then-contains
returns-then-contains g c =
    let edge = g.T.WaitsFor.edge c.args.waits.now in
    let member = has_slot c.reached_from-reached.result in
    λ u. (
      (λ h.
          let both = and_parts _ _ (sym (c.intersection.ensures.both u) ∙ h) in
          meets-cycle edge member c.args.slot c.reached_from-reached.ensures u both.0 ((c.reaching.ensures u).0 both.1)),
      (λ on.
          let both = cycle-meets edge member c.args.slot c.reached_from-reached.ensures u on in
          c.intersection.ensures.both u ∙ and_from _ _ both.0 ((c.reaching.ensures u).1 both.1)),
    )

pub returns-else-contains : goal.returns-else-contains
returns-else-contains g c = λ u. (
  (λ h. cc (c.empty.ensures.none u)),
  (λ on. let round = (c.reached_from-reached.ensures c.args.slot).1
      (reaches_join (g.T.WaitsFor.edge c.args.waits.now) c.args.slot u c.args.slot on.there on.back) in cc),
)
