-- The first line of a script chooses its version.
use Rattle.gl_interpreter.proofs.Words.{◌∙◌, ◌≡◌, Answers, ap, Bool, bytes_eq, choices_of, choosing, codes, empty_state, false, Going, if◌then◌else◌, is_some}
use Rattle.gl_interpreter.proofs.Words.{IsReadyWith, List, ManagerView, nodes_of, None, none_some, Opens, Option, refl, Script, Some, stage_with, state_of}
use Rattle.gl_interpreter.proofs.Words.{subst, sym, true, true≢false, Version, version_of, ℕ}
use Rattle.gl_script.specs.declared.form.Version.TheVariants as version
use Rattle.gl_interpreter.specs.Report.{Prints}
use Rattle.gl_interpreter.specs.Script.{most_of}

-- the version that a first line chooses has 128 slots
wide : (a : Bool) (v : Version) → (if a then Some version.Two else None) ≡ Some v → most_of v ≡ 128
wide true v h = let e : version.Two ≡ v = cc in ap most_of (sym e)
wide false v h = absurd (none_some h)

-- a version was chosen
pub chooses : (v : Version) (two : ManagerView) (s s' : Script) (line : List ℕ) → IsReadyWith (Some two) s → version_of line ≡ Some v
    → s'.language ≡ record s.language { version = v }
    → s'.names ≡ s.names → s'.locks ≡ state_of two → s'.deadlock ≡ two.table.deadlock → s'.orders ≡ nodes_of two.table
    → Prints (stage_with (Some two) s) line (codes "ok\n") (stage_with None s')
unfolding Prints
chooses v two s s' line ready says is names locks deadlock orders =
    let c = choices_of s in
    let most = wide (bytes_eq line (codes "granular 2")) v says in
    let all = locks ∙ ready.0 ∙ ap (λ m. choosing c.victims (empty_state c.detect m)) (sym most) in
    let none = names ∙ ap (λ (x : Script). x.names) ready.3 in
    let no_victim = deadlock ∙ ready.1 in
    let nothing_held = orders ∙ ready.2 in
    subst (λ o. Opens c o line (codes "ok\n") (Going s')) (sym says)
    (refl, λ i. Going (record { language = is i; names = none i; locks = all i; deadlock = no_victim i; orders = nothing_held i }))

-- any other line is an ordinary line of the script
pub goes_on : (two : Option ManagerView) (s s' : Script) (line text : List ℕ) → IsReadyWith two s
    → ((m : ManagerView) → two ≡ Some m → version_of line ≡ None) → Answers s line text s'
    → Prints (stage_with two s) line text (stage_with None s')
unfolding Prints
goes_on None s s' line text ready other answers = (s', answers, refl)
goes_on (Some m) s s' line text ready other answers =
    subst (λ o. Opens (choices_of s) o line text (Going s')) (sym (other m refl)) (s', subst (λ x. Answers x line text s') ready.3 answers, refl)

pub nothing : {X : Type 0} (o : Option X) → is_some o ≡ false → o ≡ None
nothing None h = refl
nothing (Some x) h = absurd (true≢false h)
