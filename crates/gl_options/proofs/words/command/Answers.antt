use Rattle.std.proofs.Common.{ap, ap₂, true, ◌≡◌, ◌∙◌}
use Rattle.std.proofs.lemmas.Result.{IfOk-weaker}
use Rattle.clap.specs.Words.{App, Rule, app_of, with_rule}
use Rattle.clap.specs.Simple.{app_of_fields}
use Rattle.gl_options.specs.Planned.{bare_app}
use Rattle.gl_options.proofs.words.command.Goals as goal

-- the command line with one more option
more : (a b : App) (r s : Rule) → a ≡ b → r ≡ s → with_rule a r ≡ with_rule b s
more a b r s e f = ap₂ with_rule e f

pub returns : goal.returns
returns c =
    let bare_is : app_of c.no_binary_name.result ≡ bare_app =
    ap app_of_fields c.no_binary_name.ensures ∙ ap (λ (a : App). record a { top = record a.top { no_binary_name = true } }) c.new.ensures.app in
    let one = c.in_ok-arg.ensures.shape c.option-detect.ensures.local ∙ more _ _ _ _ bare_is c.option-detect.ensures.rule in
    let two = c.in_ok-arg-2.ensures.shape c.option-victims.ensures.local ∙ more _ _ _ _ one c.option-victims.ensures.rule in
    let three = c.in_ok-arg-3.ensures.shape c.flag-listings.ensures.local ∙ more _ _ _ _ two c.flag-listings.ensures.rule in
    let four = c.in_ok-arg-4.ensures.shape c.flag-schema.ensures.local ∙ more _ _ _ _ three c.flag-schema.ensures.rule in
    let five = c.in_ok-arg-5.ensures.shape c.flag-savepoints.ensures.local ∙ more _ _ _ _ four c.flag-savepoints.ensures.rule in
    let six = c.in_ok-arg-6.ensures.shape c.flag-trace.ensures.local ∙ more _ _ _ _ five c.flag-trace.ensures.rule in
    let seven = c.in_ok-arg-7.ensures.shape c.option-crew.ensures.local ∙ more _ _ _ _ six c.option-crew.ensures.rule in
    IfOk-weaker c.arg-8.result _ _ (λ r h. h.shape c.option-rounds.ensures.local ∙ more _ _ _ _ seven c.option-rounds.ensures.rule) c.arg-8.ensures
