use Rattle.gl_header.proofs.Ranges.{equal_tests}
use Rattle.gl_header.proofs.Groups.{fits-both, fits-holders, fits-intents}
use Rattle.gl_header.proofs.group.Group.fits_others.Goals as goal

pub returns-then-goes_beside : goal.returns-then-goes_beside
returns-then-goes_beside c =
    equal_tests _ _
    (λ h. fits-both c.args.self.now c.args.slot c.args.mode (c.goes_beside.ensures.0 c.if-goes_beside.true) (c.goes_beside-then-goes_beside.ensures.0 h))
    (λ h. c.goes_beside-then-goes_beside.ensures.1 (fits-intents c.args.self.now c.args.slot c.args.mode c.requires h))

pub returns-else-goes_beside : goal.returns-else-goes_beside
returns-else-goes_beside c =
    equal_tests _ _
    (λ h. fits-both c.args.self.now c.args.slot c.args.mode (c.goes_beside.ensures.0 h) (λ u ne k. cc))
    (λ h. c.goes_beside.ensures.1 (fits-holders c.args.self.now c.args.slot c.args.mode c.requires h))
