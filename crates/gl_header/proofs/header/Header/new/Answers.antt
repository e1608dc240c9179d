use Rattle.gl_header.proofs.Words.{[], ◌∙◌, ap, held_by, IsLawful, nobody, refl}
use Rattle.gl_header.proofs.Unused.{unused-nobody}
use Rattle.gl_header.proofs.Asks.{lawful-by}
use Rattle.gl_header.proofs.header.Header.new.Goals as goal

unused : IsLawful nobody []
unused = record {
  orderly = record {
    within = λ u le. refl;
    compatible = λ t u ne. refl;
    distinct = refl;
    valid = refl;
    ordered = refl;
    rise = refl;
  };
  stuck = refl;
}

pub invariant_of-result : goal.invariant_of-result
invariant_of-result c = record {
  group = c.new.ensures.group;
  lawful = lawful-by (held_by c.new.result) nobody c.new-2.result.items [] (ap held_by c.new.ensures.nobody ∙ unused-nobody) c.new-2.ensures.items unused;
}
