-- A step of one manager, and cycles of waits in one.
use Rattle.std.specs.Prelude.{◌≡◌, ℕ, true, List, [], ◌∷◌, Some, map}
use Rattle.std.proofs.Common.{ap, ◌∙◌}
use Rattle.gl_modes.proofs.Words.{or_left, or_right}
use Rattle.gl_graph.specs.Graph.{parents_of}
use Rattle.gl_waits.proofs.WalkLemmas.{reaches_more}
use Rattle.gl_model.specs.State.{waits_for}
use Rattle.gl_steps.proofs.StepsKeepLaw.{steps_keep_law}
use Rattle.gl_parts.specs.Whole.{Each, Part, waits_in}
use Rattle.gl_parts.proofs.Lists.{each_map, each_with}
use Rattle.gl_parts.specs.Laws.{CyclesOfPartsAreCycles, IsPartOf, StepsKeepParts}

pub steps_keep_parts : StepsKeepParts
steps_keep_parts g before after p s' c a told h step same =
    each_with (IsPartOf g) before after p (record p { state = s' })
    (λ it. record {
      lawful = steps_keep_law p.state s' c a told it.lawful step;
      parents = λ n m e. ap (λ x. map (λ q. Some q) (parents_of x m)) same ∙ it.parents n m e;
    }) h

-- each wait of a manager is one of the whole
waits_of_parts : (ps : List Part) → Each (λ p. (t u : ℕ) → waits_for p.state t u ≡ true → waits_in ps t u ≡ true) ps
waits_of_parts [] = tt
waits_of_parts (p ∷ ps) = (λ t u w. or_left _ _ w, each_more ps (waits_of_parts ps))
  where
    each_more : (qs : List Part) → Each (λ q. (t u : ℕ) → waits_for q.state t u ≡ true → waits_in ps t u ≡ true) qs
        → Each (λ q. (t u : ℕ) → waits_for q.state t u ≡ true → waits_in (p ∷ ps) t u ≡ true) qs
    each_more [] h = tt
    each_more (q ∷ qs) h = (λ t u w. or_right (waits_for p.state t u) _ (h.0 t u w), each_more qs h.1)

pub cycles_of_parts : CyclesOfPartsAreCycles
cycles_of_parts ps t none =
    each_map (λ p more v on. none v (record {
      there = reaches_more (waits_for p.state) (waits_in ps) more t v on.there;
      back = reaches_more (waits_for p.state) (waits_in ps) more v t on.back;
    })) ps (waits_of_parts ps)
