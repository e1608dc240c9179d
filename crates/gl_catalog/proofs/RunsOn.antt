-- Runs that continue by one more step.
use Rattle.std.specs.Prelude.{◌≡◌, ℕ, ◌+◌, ◌<◌, ◌≤◌, List, [], ◌∷◌, ◌++◌, length, slice_index_or, take}
use Rattle.std.proofs.Common.{refl, sym, subst, ap, ◌∙◌}
use Rattle.std.proofs.lemmas.List.{map-append, take_all, take_more}
use Rattle.gl_model.specs.Lawful.{IsLawful}
use Rattle.gl_model.specs.State.{State}
use Rattle.gl_model.specs.Tellings.{Told}
use Rattle.gl_steps.specs.declared.command.Answer.{Answer}
use Rattle.gl_steps.specs.declared.command.Command.{Command}
use Rattle.gl_steps.specs.declared.command.Reply.{Reply}
use Rattle.gl_steps.specs.Promises.{LeavesOthers, StepLeavesOthers}
use Rattle.gl_catalog.specs.Replies.{said_in}
use Rattle.gl_steps.specs.Step.{Run, Step}
use Rattle.gl_steps.proofs.OthersBelow.{others_leave_below}
use Rattle.gl_steps.proofs.OthersKeep.{others_keep_effects}

-- one command more at the end
pub run_snoc : (s mid s' : State) (cs : List Command) (rs : List (Answer × Told)) (c : Command) (a : Answer) (told : Told) → Run s cs rs mid
    → Step mid c a told s' → Run s (cs ++ c ∷ []) (rs ++ (a, told) ∷ []) s'
run_snoc s mid s' [] [] c a told run step = (s', subst (λ x. Step x c a told s') run step, refl)
run_snoc s mid s' [] (r ∷ rs) c a told run step = absurd run
run_snoc s mid s' (d ∷ cs) [] c a told run step = absurd run
run_snoc s mid s' (d ∷ cs) (r ∷ rs) c a told run step = (run.0, run.1, run_snoc run.0 mid s' cs rs c a told run.2 step)

-- the next command of a list, its reply after the replies before
pub run_next : (s mid s' : State) (cs : List Command) (i : ℕ) (d : Command) (replies now : List Reply) (reply : Reply) → i < length cs
    → Run s (take i cs) (said_in replies) mid
    → Step mid (slice_index_or cs i d) reply.answer reply.told.items s' → now ≡ replies ++ reply ∷ [] → Run s (take (i + 1) cs) (said_in now) s'
run_next s mid s' cs i d replies now reply below run step is =
    let commands = take_more cs i d below in
    let says = ap said_in is ∙ map-append (λ (r : Reply). (r.answer, r.told.items)) replies (reply ∷ []) in
    coe 0 1 (k. Run s (sym commands k) (sym says k) s')
    (run_snoc s mid s' (take i cs) (said_in replies) (slice_index_or cs i d) reply.answer reply.told.items run step)

-- if no command is left, all ran
pub run_whole : (s s' : State) (cs : List Command) (i : ℕ) (rs : List (Answer × Told)) → length cs ≤ i → Run s (take i cs) rs s' → Run s cs rs s'
run_whole s s' cs i rs past run = subst (λ (xs : List Command). Run s xs rs s') (take_all i cs past) run

-- what others are left
pub leaves_others : (s s' : State) (cs : List Command) (rs : List (Answer × Told)) → IsLawful s → Run s cs rs s' → LeavesOthers s cs rs s'
leaves_others s s' cs rs law run t alive unnamed = record {
  effects = others_keep_effects s s' cs rs t law run alive unnamed;
  below = λ n reads. others_leave_below s s' cs rs t n law run alive unnamed reads;
}

-- the same of one step
pub step_leaves_others : (s s' : State) (c : Command) (r : Answer × Told) → IsLawful s → Step s c r.0 r.1 s' → StepLeavesOthers s c r s'
step_leaves_others s s' c r law step = leaves_others s s' (c ∷ []) (r ∷ []) law (s', step, refl)
