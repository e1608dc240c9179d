use Rattle.gl_parts.proofs.Actions.{actions_keep_law}
use Rattle.gl_parts.proofs.Leading.{leaders_lead}
use Rattle.gl_parts.proofs.Runs.{runs_have_no_conflict, unused_work_as_one}
use Rattle.gl_parts.proofs.laws.work_as_one.Goals as goal

pub returns : goal.returns
returns c = record { leads = leaders_lead; start = unused_work_as_one; actions = actions_keep_law; runs = runs_have_no_conflict }
