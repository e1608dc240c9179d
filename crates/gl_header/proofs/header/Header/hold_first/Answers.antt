use Rattle.gl_header.proofs.Words.{◌∙◌, ◌≡◌, ap, held_by, is_unused, IsLawful, IsLawfulHeader, state_of, sym, true, with_mode}
use Rattle.gl_header.proofs.Lawful.{lawful}
use Rattle.gl_header.proofs.Asks.{lawful-granted}
use Rattle.gl_header.proofs.First.{first-free, first-granted, first-nobody, first-wanted}
use Rattle.gl_header.proofs.Unused.{unused-true}
use Rattle.gl_header.proofs.header.Header.hold_first.Goals as goal

-- the header was unused
module _ (c : goal.After-self-1) where
  law : IsLawfulHeader (state_of c.self.inside)
  law = lawful c.self.inside.granted c.self.inside.queue.items c.self.invariant.group c.self.invariant.lawful

  unused : is_unused (state_of c.self.inside) ≡ true
  unused = ap is_unused c.self.view_is ∙ c.requires.unused

  stays_lawful : IsLawful (held_by c.of-self-inside.result) c.self.inside.queue.items
  stays_lawful =
      lawful-granted (state_of c.self.inside) c.args.slot c.args.mode c.args.mode (held_by c.of-self-inside.result) c.self.invariant.lawful
      (first-free _ law unused c.args.slot c.args.mode) c.requires.below (first-granted _ law unused c.args.slot c.args.mode)
      (first-wanted _ law unused c.args.slot c.args.mode)
      (c.of-self-inside.ensures.held ∙ ap (λ g. with_mode g c.args.slot c.args.mode) (sym (first-nobody _ law unused c.args.slot c.args.mode)))

pub invariant_of-self : goal.invariant_of-self
invariant_of-self c = record { group = c.of-self-inside.ensures.group; lawful = stays_lawful c }

pub returns-clause-queue : goal.returns-clause-queue
returns-clause-queue c = (unused-true _ (law c) (unused c)).1

pub returns-clause-lawful : goal.returns-clause-lawful
returns-clause-lawful c = lawful _ _ c.of-self-inside.ensures.group (stays_lawful c)
