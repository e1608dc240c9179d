use Rattle.std.proofs.Common.{◌≡◌, ◌≢◌, ℕ, List, ◌∷◌, ◌++◌, All, map, codes, decimal, sym, ap, ◌∙◌}
use Rattle.gl_script.specs.declared.form.Language.{Language}
use Rattle.gl_script.specs.declared.verb.Verb.TheVariants.{Index as by_index}
use Rattle.gl_script.specs.Grammar.{Text, Node, Command, Index, IndexBy, IndexOver, IsName, IsNode, IsNumber, AreSomeNodes, SaysParts}
use Rattle.gl_script.specs.Grammar.{parents, verb_of, with_records}
use Rattle.gl_script.proofs.ListTexts.{one_before_colon}
use Rattle.gl_script.proofs.form.read_index.Goals as goal

-- after two names there is an index by a transaction, if any
no_index : (l : Language) (rest : List Text) (t : Text) (next : List Text) (n : Text) (more again : List Text)
    → rest ≡ t ∷ next → next ≡ n ∷ more → again ≡ more → IsName n
    → ((f : Text) (ps : List Node) (bs : List ℕ) → AreSomeNodes ps → IsName f → All IsNumber bs
    → again ≢ parents ps ++ codes "on" ∷ f ∷ codes "at" ∷ map decimal bs)
    → ((f : Text) (ps : List Node) (bs : List ℕ) (rs : List Node) (ks : List ℕ) → AreSomeNodes ps → IsName f → All IsNumber bs → All IsNode rs → All IsNumber ks
    → more ≢ parents ps ++ codes "on" ∷ f ∷ codes "at" ∷ with_records bs rs ks)
    → (c : Command) → SaysParts l by_index rest c → ⊥
no_index l rest t next n more again first second same is none over (Index m ps g ks) says =
    one_before_colon m ps _ t n more says.1.1 is (sym says.3 ∙ first ∙ ap (λ fs. t ∷ fs) second)
no_index l rest t next n more again first second same is none over (IndexBy s m ps g ks) says =
    let line = sym says.3 ∙ first ∙ ap (λ fs. t ∷ fs) second in
    none g ps ks says.1.2 says.1.3 says.1.4 (same ∙ cc)
no_index l rest t next n more again first second same is none over (IndexOver s m ps g ks rs js) says =
    let line = sym says.3 ∙ first ∙ ap (λ fs. t ∷ fs) second in
    over g ps ks rs js says.1.2 says.1.3 says.1.4 says.1.5 says.1.6 (cc)
no_index l rest t next n more again first second same is none over c says = let verb : verb_of c ≡ by_index = says.0 in cc

pub returns-in_err-file-2-clause-none : goal.returns-in_err-file-2-clause-none
returns-in_err-file-2-clause-none c = rw c.from_residual-in_err-file-2.ensures
    (no_index c.args.language _ _ _ _ _ _ c.in_ok-first.ensures.found.1 c.in_ok-name.ensures.found.1 c.ahead-ahead.ensures c.in_ok-name.ensures.found.0
    c.in_default.ensures.none c.in_err-file-2.ensures.none)
