use Rattle.gl_header.proofs.Words.{◌∙◌, ap, is_unused, IsLawfulHeader, Shared, subst, sym}
use Rattle.gl_header.proofs.Unused.{unused-unused}
use Rattle.gl_header.proofs.places.take_box.Goals as goal

pub returns-in-Ok-clause-idle : goal.returns-in-Ok-clause-idle
returns-in-Ok-clause-idle c =
    let is = ap (λ (x : Shared). x.header) c.in-Ok.ensures.ok in
    record {
      lawful = subst IsLawfulHeader (sym is) c.law.ensures.lawful;
      unused = ap is_unused (is ∙ c.new-header.ensures) ∙ unused-unused;
    }
