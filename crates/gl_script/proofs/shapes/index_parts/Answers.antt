use Rattle.gl_script.proofs.ListTexts.{behind_on, none_so}
use Rattle.gl_script.proofs.shapes.index_parts.Goals as goal

pub returns-clause-none : goal.returns-clause-none
returns-clause-none c =
    let read = c.in_ok-read_parents_on.ensures.found in
    none_so c.file_bounds.result _ _ (λ none f ps bs some named are e. none f bs named are (behind_on _ _ _ ps _ read.1 read.0 some e))
    c.file_bounds.ensures.none
