use Rattle.std.proofs.Common.{◌++◌, ◌∷◌, codes, decimal, map}
use Rattle.gl_script.specs.Grammar.{IsNumber, node_text}
use Rattle.gl_script.proofs.ListTexts.{behind_word, none_so, with_is_no_number}
use Rattle.gl_script.proofs.shapes.bounds_records.Goals as goal

pub returns-clause-none : goal.returns-clause-none
returns-clause-none c =
    let read = c.in_ok-read_numbers_with.ensures.found in
    none_so c.records_keys.result _ _
    (λ none bs rs ks are nodes keys e. none rs ks nodes keys
    (behind_word decimal IsNumber (codes "with") with_is_no_number _ _ _ bs (map node_text rs ++ codes "at" ∷ map decimal ks) read.1 read.0 are e))
    c.records_keys.ensures.none
