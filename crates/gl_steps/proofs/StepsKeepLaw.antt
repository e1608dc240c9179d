-- Each step of each command keeps the law of a state, and so does each run.
use Rattle.gl_steps.proofs.Words.{◌+◌, [], ◌∷◌, Command, IsLawful, subst, sym}
use Rattle.gl_steps.specs.declared.command.Command.TheVariants as command
use Rattle.gl_steps.specs.Promises.{RunsKeepLaw, StepsKeepLaw}
use Rattle.gl_steps.proofs.Counting.{lawful_counting}
use Rattle.gl_steps.proofs.EachStep.{each_step}
use Rattle.gl_steps.proofs.KeepsLaw.{KeepsLaw}
use Rattle.gl_steps.proofs.LockCommands.{abort_keeps, begin_again_keeps, begin_keeps, cancel_keeps, commit_keeps, escalate_keeps, join_keeps, lock_keeps}
use Rattle.gl_steps.proofs.LockCommands.{renew_keeps, settle_keeps, try_keeps, unlock_keeps}
use Rattle.gl_steps.proofs.MakeKeeps.{file_keeps, index_keeps, inner_keeps, insert_keeps}
use Rattle.gl_steps.proofs.DeleteKeeps.{delete_keeps}
use Rattle.gl_steps.proofs.MoveCommands.{move_keeps, rekey_keeps}
use Rattle.gl_steps.proofs.SchemaKeeps.{drop_keeps_law, index_by_keeps_law}
use Rattle.gl_steps.proofs.RowKeeps.{adopt_keeps, forget_keeps}
use Rattle.gl_steps.proofs.SplitKeeps.{merge_keeps_law, split_keeps_law}

-- no query is ever accepted: it is answered
accepted_keeps : (c : Command) → KeepsLaw c
accepted_keeps (command.Inner ps) = inner_keeps ps
accepted_keeps (command.File ps) = file_keeps ps
accepted_keeps (command.Index ps f bs) = index_keeps ps f bs
accepted_keeps command.Begin = begin_keeps
accepted_keeps (command.BeginAgain since) = begin_again_keeps since
accepted_keeps (command.Join t since) = join_keeps t since
accepted_keeps (command.Lock t n m) = lock_keeps t n m
accepted_keeps (command.Try t n m) = try_keeps t n m
accepted_keeps (command.Unlock t n) = unlock_keeps t n
accepted_keeps (command.Escalate t n) = escalate_keeps t n
accepted_keeps (command.Cancel t) = cancel_keeps t
accepted_keeps (command.Commit t) = commit_keeps t
accepted_keeps (command.Renew t since) = renew_keeps t since
accepted_keeps (command.Abort t) = abort_keeps t
accepted_keeps (command.Settle t) = settle_keeps t
accepted_keeps (command.Insert t f keys) = insert_keeps t f keys
accepted_keeps (command.Delete t r) = delete_keeps t r
accepted_keeps (command.Rekey t r i key) = rekey_keeps t r i key
accepted_keeps (command.Move t n ps) = move_keeps t n ps
accepted_keeps (command.Adopt f keys) = adopt_keeps f keys
accepted_keeps (command.Forget r) = forget_keeps r
accepted_keeps (command.Drop t n) = drop_keeps_law t n
accepted_keeps (command.IndexBy t ps f bs rs ks) = index_by_keeps_law t ps f bs rs ks
accepted_keeps (command.Split t i at) = split_keeps_law t i at
accepted_keeps (command.Merge t i) = merge_keeps_law t i
accepted_keeps c = λ s s' a told law free acc. absurd acc

pub steps_keep_law : StepsKeepLaw
steps_keep_law s s' c a told law step =
    each_step IsLawful s c a told s' law (λ next. lawful_counting (next.accepted + 1) next) (λ free next acc. accepted_keeps c s next a told law free acc) step

pub runs_keep_law : RunsKeepLaw
runs_keep_law s s' [] [] law run = subst IsLawful (sym run) law
runs_keep_law s s' [] (r ∷ rs) law run = absurd run
runs_keep_law s s' (c ∷ cs) [] law run = absurd run
runs_keep_law s s' (c ∷ cs) (r ∷ rs) law run = runs_keep_law run.0 s' cs rs (steps_keep_law s run.0 c r.0 r.1 law run.1) run.2
