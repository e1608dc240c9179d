use Rattle.gl_header.proofs.Words.{◌∙◌, ap, fits, held_by, slot_limit, with_mode}
use Rattle.gl_header.proofs.First.{fits-nobody}
use Rattle.gl_header.proofs.Unused.{unused-nobody}
use Rattle.gl_header.proofs.group.Group.of.Goals as goal

pub hold-requires-clause-fits : goal.hold-requires-clause-fits
hold-requires-clause-fits c =
    ap (λ g. fits slot_limit g c.args.slot c.args.mode) (ap held_by c.new-group.ensures.nobody ∙ unused-nobody) ∙ fits-nobody c.args.slot c.args.mode

pub returns-clause-held : goal.returns-clause-held
returns-clause-held c =
    c.hold.ensures.held ∙ ap (λ g. with_mode g c.args.slot c.args.mode) (ap held_by c.new-group.ensures.nobody ∙ unused-nobody)
