use Rattle.gl_header.proofs.Words.{◌∙◌, refl, sym}
use Rattle.gl_header.proofs.Groups.{absent-without, apart-other, released-held, released-intent}
use Rattle.gl_header.proofs.group.Group.release.Goals as goal

-- the slot held IS

pub returns-then-contains-clause-group : goal.returns-then-contains-clause-group
returns-then-contains-clause-group c = released-intent c.args.self.now c.args.slot c.remove.new.self c.requires c.remove.ensures.left

pub returns-then-contains-clause-held : goal.returns-then-contains-clause-held
returns-then-contains-clause-held c =
    released-held c.args.self.now c.args.slot c.args.self.now.mode c.args.self.now.holders c.remove.new.self
    (absent-without c.args.self.now.holders c.args.slot (apart-other c.args.self.now c.args.slot c.requires (sym c.contains.ensures ∙ c.if-contains.true)))
    c.remove.ensures.left (λ u h. refl)
