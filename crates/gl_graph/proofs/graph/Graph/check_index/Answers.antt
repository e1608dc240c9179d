use Rattle.gl_graph.proofs.Words.{[], ap, Bool, Err, false, first_refusal, graph_of, List, None, Option, refl, Refusal, rules, Some, subst, sym, verdict}
use Rattle.gl_graph.proofs.Words.{where_true, worn_births, ◌||◌, ◌∙◌, ◌∷◌, ◌≡◌}
use Rattle.gl_modes.specs.declared.refusal.Refusal.TheVariants as no
use Rattle.gl_graph.proofs.Unrefused.{verdict_ok}
use Rattle.gl_graph.proofs.graph.Graph.check_index.Goals as goal

-- after a test that finds nothing, the refusal of two tests is that of all
refused_in_two : (w a b : Option Refusal) (rest : List (Option Refusal)) (r : Refusal) → w ≡ None
    → Err r ≡ verdict (first_refusal (a ∷ b ∷ [])) → first_refusal (w ∷ a ∷ b ∷ rest) ≡ Some r
refused_in_two None None None rest r w e = absurd (cc)
refused_in_two None None (Some x) rest r w e = cc
refused_in_two None (Some x) b rest r w e = cc
refused_in_two (Some y) a b rest r w e = absurd (cc)

-- after four tests that find nothing, the others decide
passed_four : (w a b d : Option Refusal) (rest : List (Option Refusal)) → w ≡ None → first_refusal (a ∷ b ∷ []) ≡ None → d ≡ None
    → first_refusal (w ∷ a ∷ b ∷ d ∷ rest) ≡ first_refusal rest
passed_four None None None None rest w e d = refl
passed_four w a b d rest e f h = absurd (cc)

neither : (a b : Bool) → a ≡ false → b ≡ false → (a || b) ≡ false
neither a b x y = ap (λ z. z || b) x ∙ y

pub returns-in_err-check_index_place : goal.returns-in_err-check_index_place
returns-in_err-check_index_place c =
    let worn = ap (λ b. where_true b no.WornOut) (sym c.worn.ensures ∙ c.if-worn.false) in
    subst (λ (o : Option Refusal). c.from_residual.result ≡ verdict o)
    (sym (refused_in_two (worn_births (graph_of c.args.self.now)) _ _ _ c.in_err-check_index_place.field-0.0 worn c.in_err-check_index_place.ensures))
    (search rules)

pub returns : goal.returns
returns c =
    let worn = ap (λ b. where_true b no.WornOut) (sym c.worn.ensures ∙ c.if-worn.false) in
    let free = ap (λ b. where_true b no.FileInUse)
    (neither _ _ (sym c.has_records.ensures ∙ c.if-has_records.false) (sym c.is_adopted.ensures ∙ c.if-is_adopted.false)) in
    c.check_index_bounds.ensures
    ∙ ap verdict (sym (passed_four (worn_births (graph_of c.args.self.now)) _ _ _ _ worn (verdict_ok _ _ c.in_ok-check_index_place.ensures) free))
