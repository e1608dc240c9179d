use Rattle.std.proofs.Common.{refl, subst}
use Rattle.gl_steps.specs.declared.command.Answer.TheVariants as answer
use Rattle.gl_steps.specs.declared.command.Command.TheVariants as command
use Rattle.gl_catalog.specs.Manager.{ManagerView, state_of}
use Rattle.gl_catalog.specs.Replies.{CallSteps, read_effect, read_mode}
use Rattle.gl_steps.specs.Step.{answer_of_lock}
use Rattle.gl_catalog.proofs.Applied.{answered_step, asked_step, carries_query, carries_quietly, carries_telling, insert_completes, keeps_locked}
use Rattle.gl_catalog.proofs.Uncounted.{raised_by_none}
use Rattle.gl_catalog.proofs.manager.Manager.carry_out.Goals as goal

pub returns-in-Inner : goal.returns-in-Inner
returns-in-Inner c =
    carries_quietly answer.Node c.args.self.now c.add_inner.new.self _ c.args.command c.add_inner.result c.node_answer.result
    c.node_answer.ensures c.in-Inner.is c.add_inner.ensures.err (λ x h. h)
    c.args.told.now c.requires.empty c.add_inner.ensures.step c.add_inner.ensures.completes

pub returns-in-File : goal.returns-in-File
returns-in-File c =
    carries_quietly answer.Node c.args.self.now c.add_file.new.self _ c.args.command c.add_file.result c.node_answer-in-File.result
    c.node_answer-in-File.ensures c.in-File.is c.add_file.ensures.err (λ x h. h)
    c.args.told.now c.requires.empty c.add_file.ensures.step c.add_file.ensures.completes

pub returns-in-Index : goal.returns-in-Index
returns-in-Index c =
    carries_quietly answer.Node c.args.self.now c.add_index.new.self _ c.args.command c.add_index.result c.node_answer-in-Index.result
    c.node_answer-in-Index.ensures c.in-Index.is c.add_index.ensures.err (λ x h. h)
    c.args.told.now c.requires.empty c.add_index.ensures.step c.add_index.ensures.completes

pub returns-in-Begin : goal.returns-in-Begin
returns-in-Begin c =
    carries_quietly answer.Begun c.args.self.now c.begin.new.self _ c.args.command c.begin.result c.begun_answer.result
    c.begun_answer.ensures c.in-Begin.is c.begin.ensures.err (λ x h. h)
    c.args.told.now c.requires.empty c.begin.ensures.step c.begin.ensures.completes

pub returns-in-BeginAgain : goal.returns-in-BeginAgain
returns-in-BeginAgain c =
    carries_quietly answer.Begun c.args.self.now c.begin_again.new.self _ c.args.command c.begin_again.result c.begun_answer-in-BeginAgain.result
    c.begun_answer-in-BeginAgain.ensures c.in-BeginAgain.is c.begin_again.ensures.err (λ x h. h)
    c.args.told.now c.requires.empty c.begin_again.ensures.step c.begin_again.ensures.completes

pub returns-in-Join : goal.returns-in-Join
returns-in-Join c =
    carries_quietly answer.Begun c.args.self.now c.join.new.self _ c.args.command c.join.result c.begun_answer-in-Join.result
    c.begun_answer-in-Join.ensures c.in-Join.is c.join.ensures.err (λ x h. h)
    c.args.told.now c.requires.empty c.join.ensures.step c.join.ensures.completes

pub returns-in-Lock : goal.returns-in-Lock
returns-in-Lock c =
    carries_telling answer_of_lock c.args.self.now c.lock_telling.new.self _ c.args.command c.lock_telling.result c.lock_answer.result
    c.lock_answer.ensures c.in-Lock.is c.lock_telling.ensures.err
    (keeps_locked (command.Lock c.in-Lock.txn c.in-Lock.node c.in-Lock.mode) c.args.self.now c.lock_telling.new.self)
    c.lock_telling.new.told c.args.told.now c.lock_telling.ensures.untold c.requires.empty c.lock_telling.ensures.step c.lock_telling.ensures.completes

pub returns-in-Try : goal.returns-in-Try
returns-in-Try c =
    carries_quietly answer.Granted c.args.self.now c.try_lock.new.self _ c.args.command c.try_lock.result c.try_answer.result
    c.try_answer.ensures c.in-Try.is c.try_lock.ensures.err (λ x h. h)
    c.args.told.now c.requires.empty c.try_lock.ensures.step c.try_lock.ensures.completes

pub returns-in-Unlock : goal.returns-in-Unlock
returns-in-Unlock c =
    carries_telling (λ u. answer.Done) c.args.self.now c.unlock_telling.new.self _ c.args.command c.unlock_telling.result c.done_answer.result
    c.done_answer.ensures c.in-Unlock.is c.unlock_telling.ensures.err (λ x h. h)
    c.unlock_telling.new.told c.args.told.now c.unlock_telling.ensures.untold c.requires.empty c.unlock_telling.ensures.step c.unlock_telling.ensures.completes

pub returns-in-Escalate : goal.returns-in-Escalate
returns-in-Escalate c =
    carries_telling answer.Escalated c.args.self.now c.escalate_telling.new.self _ c.args.command c.escalate_telling.result c.escalate_answer.result
    c.escalate_answer.ensures c.in-Escalate.is c.escalate_telling.ensures.err (λ x h. h)
    c.escalate_telling.new.told c.args.told.now c.escalate_telling.ensures.untold c.requires.empty c.escalate_telling.ensures.step
    c.escalate_telling.ensures.completes

pub returns-in-Cancel : goal.returns-in-Cancel
returns-in-Cancel c =
    carries_telling (λ u. answer.Done) c.args.self.now c.cancel_telling.new.self _ c.args.command c.cancel_telling.result c.done_answer-in-Cancel.result
    c.done_answer-in-Cancel.ensures c.in-Cancel.is c.cancel_telling.ensures.err (λ x h. h)
    c.cancel_telling.new.told c.args.told.now c.cancel_telling.ensures.untold c.requires.empty c.cancel_telling.ensures.step c.cancel_telling.ensures.completes

pub returns-in-Commit : goal.returns-in-Commit
returns-in-Commit c =
    carries_telling (λ u. answer.Done) c.args.self.now c.commit_telling.new.self _ c.args.command c.commit_telling.result c.done_answer-in-Commit.result
    c.done_answer-in-Commit.ensures c.in-Commit.is c.commit_telling.ensures.err (λ x h. h)
    c.commit_telling.new.told c.args.told.now c.commit_telling.ensures.untold c.requires.empty c.commit_telling.ensures.step c.commit_telling.ensures.completes

pub returns-in-Renew : goal.returns-in-Renew
returns-in-Renew c =
    carries_quietly answer.Begun c.args.self.now c.renew.new.self _ c.args.command c.renew.result c.begun_answer-in-Renew.result
    c.begun_answer-in-Renew.ensures c.in-Renew.is c.renew.ensures.err (λ x h. h)
    c.args.told.now c.requires.empty c.renew.ensures.step c.renew.ensures.completes

pub returns-in-Abort : goal.returns-in-Abort
returns-in-Abort c =
    carries_telling (λ u. answer.Done) c.args.self.now c.abort_telling.new.self _ c.args.command c.abort_telling.result c.done_answer-in-Abort.result
    c.done_answer-in-Abort.ensures c.in-Abort.is c.abort_telling.ensures.err (λ x h. h)
    c.abort_telling.new.told c.args.told.now c.abort_telling.ensures.untold c.requires.empty c.abort_telling.ensures.step c.abort_telling.ensures.completes

pub returns-in-Settle : goal.returns-in-Settle
returns-in-Settle c =
    carries_telling (λ u. answer.Done) c.args.self.now c.settle_telling.new.self _ c.args.command c.settle_telling.result c.done_answer-in-Settle.result
    c.done_answer-in-Settle.ensures c.in-Settle.is c.settle_telling.ensures.err (λ x h. h)
    c.settle_telling.new.told c.args.told.now c.settle_telling.ensures.untold c.requires.empty c.settle_telling.ensures.step c.settle_telling.ensures.completes

pub returns-in-Insert : goal.returns-in-Insert
returns-in-Insert c =
    carries_quietly answer.Node c.args.self.now c.insert.new.self _ c.args.command c.insert.result c.node_answer-in-Insert.result
    c.node_answer-in-Insert.ensures c.in-Insert.is c.insert.ensures.err (λ x h. h)
    c.args.told.now c.requires.empty c.insert.ensures.step
    (insert_completes c.args.self.now c.insert.new.self c.in-Insert.txn c.in-Insert.file c.in-Insert.keys c.insert.result
    c.insert.ensures.deadlock c.insert.ensures.others c.insert.ensures.counted c.insert.ensures.counters c.insert.ensures.orders)

pub returns-in-Delete : goal.returns-in-Delete
returns-in-Delete c =
    carries_telling (λ u. answer.Done) c.args.self.now c.delete_telling.new.self _ c.args.command c.delete_telling.result c.done_answer-in-Delete.result
    c.done_answer-in-Delete.ensures c.in-Delete.is c.delete_telling.ensures.err (λ x h. h)
    c.delete_telling.new.told c.args.told.now c.delete_telling.ensures.untold c.requires.empty c.delete_telling.ensures.step c.delete_telling.ensures.completes

pub returns-in-Rekey : goal.returns-in-Rekey
returns-in-Rekey c =
    carries_telling (λ u. answer.Done) c.args.self.now c.rekey_telling.new.self _ c.args.command c.rekey_telling.result c.done_answer-in-Rekey.result
    c.done_answer-in-Rekey.ensures c.in-Rekey.is c.rekey_telling.ensures.err (λ x h. h)
    c.rekey_telling.new.told c.args.told.now c.rekey_telling.ensures.untold c.requires.empty c.rekey_telling.ensures.step c.rekey_telling.ensures.completes

pub returns-in-Move : goal.returns-in-Move
returns-in-Move c =
    carries_telling (λ u. answer.Done) c.args.self.now c.relocate_telling.new.self _ c.args.command c.relocate_telling.result c.done_answer-in-Move.result
    c.done_answer-in-Move.ensures c.in-Move.is c.relocate_telling.ensures.err (λ x h. h)
    c.relocate_telling.new.told c.args.told.now c.relocate_telling.ensures.untold c.requires.empty c.relocate_telling.ensures.step
    c.relocate_telling.ensures.completes

pub returns-in-Adopt : goal.returns-in-Adopt
returns-in-Adopt c =
    carries_quietly answer.Node c.args.self.now c.adopt.new.self _ c.args.command c.adopt.result c.node_answer-in-Adopt.result
    c.node_answer-in-Adopt.ensures c.in-Adopt.is c.adopt.ensures.err (λ x h. h)
    c.args.told.now c.requires.empty c.adopt.ensures.step c.adopt.ensures.completes

pub returns-in-Forget : goal.returns-in-Forget
returns-in-Forget c =
    carries_quietly (λ u. answer.Done) c.args.self.now c.forget.new.self _ c.args.command c.forget.result c.done_answer-in-Forget.result
    c.done_answer-in-Forget.ensures c.in-Forget.is c.forget.ensures.err (λ x h. h)
    c.args.told.now c.requires.empty c.forget.ensures.step c.forget.ensures.completes

pub returns-in-Drop : goal.returns-in-Drop
returns-in-Drop c =
    carries_telling (λ u. answer.Done) c.args.self.now c.drop_telling.new.self _ c.args.command c.drop_telling.result c.done_answer-in-Drop.result
    c.done_answer-in-Drop.ensures c.in-Drop.is c.drop_telling.ensures.err (λ x h. h)
    c.drop_telling.new.told c.args.told.now c.drop_telling.ensures.untold c.requires.empty c.drop_telling.ensures.step c.drop_telling.ensures.completes

pub returns-in-IndexBy : goal.returns-in-IndexBy
returns-in-IndexBy c =
    carries_quietly answer.Node c.args.self.now c.index_by.new.self _ c.args.command c.index_by.result c.node_answer-in-IndexBy.result
    c.node_answer-in-IndexBy.ensures c.in-IndexBy.is c.index_by.ensures.err (λ x h. h)
    c.args.told.now c.requires.empty c.index_by.ensures.step c.index_by.ensures.completes

pub returns-in-Split : goal.returns-in-Split
returns-in-Split c =
    carries_telling answer.Node c.args.self.now c.split_telling.new.self _ c.args.command c.split_telling.result c.node_answer-in-Split.result
    c.node_answer-in-Split.ensures c.in-Split.is c.split_telling.ensures.err (λ x h. h)
    c.split_telling.new.told c.args.told.now c.split_telling.ensures.untold c.requires.empty c.split_telling.ensures.step c.split_telling.ensures.completes

pub returns-in-Merge : goal.returns-in-Merge
returns-in-Merge c =
    carries_telling (λ u. answer.Done) c.args.self.now c.merge_telling.new.self _ c.args.command c.merge_telling.result c.done_answer-in-Merge.result
    c.done_answer-in-Merge.ensures c.in-Merge.is c.merge_telling.ensures.err (λ x h. h)
    c.merge_telling.new.told c.args.told.now c.merge_telling.ensures.untold c.requires.empty c.merge_telling.ensures.step c.merge_telling.ensures.completes

-- queries

pub returns-in-Group : goal.returns-in-Group
returns-in-Group c =
    carries_query answer.Mode c.args.self.now (command.Group c.in-Group.node) c.args.command c.group.result c.mode_answer.result
    c.args.told.now (λ x. refl) (λ x. raised_by_none c.args.self.now.counters)
    (subst (λ (v : ManagerView). CallSteps (state_of v) (command.Group c.in-Group.node) read_mode c.group.result (state_of v)) c.self.view_is
    (answered_step read_mode (command.Group c.in-Group.node) (state_of
    (record { table = c.self.inside.table; accepted = c.self.inside.accepted; counters = c.self.inside.counters })) _ c.group.result c.group.ensures
    refl refl))
    c.mode_answer.ensures c.requires.empty c.in-Group.is

pub returns-in-Held : goal.returns-in-Held
returns-in-Held c =
    carries_query answer.Mode c.args.self.now (command.Held c.in-Held.txn c.in-Held.node) c.args.command c.held.result c.mode_answer-in-Held.result
    c.args.told.now (λ x. refl) (λ x. raised_by_none c.args.self.now.counters)
    (subst (λ (v : ManagerView). CallSteps (state_of v) (command.Held c.in-Held.txn c.in-Held.node) read_mode c.held.result
    (state_of v)) c.self-in-Held.view_is (answered_step read_mode (command.Held c.in-Held.txn c.in-Held.node) (state_of
    (record { table = c.self-in-Held.inside.table; accepted = c.self-in-Held.inside.accepted; counters = c.self-in-Held.inside.counters })) _
    c.held.result c.held.ensures refl refl))
    c.mode_answer-in-Held.ensures c.requires.empty c.in-Held.is

pub returns-in-Effective : goal.returns-in-Effective
returns-in-Effective c =
    carries_query answer.Effect c.args.self.now
    (command.Effective c.in-Effective.txn c.in-Effective.node) c.args.command c.effective.result c.effect_answer.result
    c.args.told.now (λ x. refl) (λ x. raised_by_none c.args.self.now.counters)
    (subst (λ (v : ManagerView). CallSteps (state_of v) (command.Effective c.in-Effective.txn c.in-Effective.node) read_effect c.effective.result
    (state_of v)) c.self-in-Effective.view_is (asked_step read_effect (command.Effective c.in-Effective.txn c.in-Effective.node) (state_of
    (record {
      table = c.self-in-Effective.inside.table;
      accepted = c.self-in-Effective.inside.accepted;
      counters = c.self-in-Effective.inside.counters;
    })) _ c.effective.result c.effective.ensures.refuses c.effective.ensures.effect refl refl refl))
    c.effect_answer.ensures c.requires.empty c.in-Effective.is
