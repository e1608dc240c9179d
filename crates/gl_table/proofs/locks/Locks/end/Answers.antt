use Rattle.gl_table.proofs.Words.{◌<◌, ◌∙◌, ◌≡◌, ◌≤◌, Agrees, ap, if◌then◌else◌, IsOrderly, keys, length, length-set, most_slots, None, slice_set, State}
use Rattle.gl_table.proofs.Words.{state_in, subst, sym, told_to, ℕ}
use Rattle.gl_table.proofs.inside.Lists.{IsBare}
use Rattle.gl_table.proofs.inside.TxnEntries.{agrees-gone, counts-gone, orderly-gone, state-freed}
use Rattle.gl_model.proofs.telling.Between.{gone_tells}
use Rattle.gl_table.proofs.locks.Locks.end.Goals as goal
use Rattle.gl_table.proofs.inside.Places.{lose_then, loses_all}
use Rattle.gl_table.proofs.inside.Slots.{set_loses}

pub invariant_of-self : goal.invariant_of-self
invariant_of-self c =
    let left = c.leave_all.new.self in
    let gone = c.leave_all.ensures.left in
    let others = c.leave_all.ensures.others in
    let now : State = state_in c.args.self.now.graph left in
    let has_entry : c.args.slot < length left.txn_entries.items = subst (λ (k : ℕ). c.args.slot < k) (sym gone.most) c.requires.has_entry in
    let listed : c.args.slot < length left.lists.items = subst (λ (k : ℕ). c.args.slot < k) (sym others.sound.lists) has_entry in
    let txn_entries : length left.txn_entries.items
    ≡ length c.leave.new.self.items = sym (ap length c.leave.ensures ∙ length-set left.txn_entries.items c.args.slot None) in
    let bare : IsBare c.clear.new.self = record { listed = c.clear.ensures.listed; counts = c.clear.ensures.counts } in
    let freed = sym (state-freed now left.txn_entries.items c.leave.new.self.items c.args.slot has_entry c.leave.ensures) in
    record {
      orderly = subst IsOrderly freed (orderly-gone now c.args.slot gone.free gone.out left.lists.items c.clear.new.self listed bare
          others.orderly);
      sound = record {
        few = subst (λ (k : ℕ). k ≤ most_slots) txn_entries others.sound.few;
        lists = length-set left.lists.items c.args.slot c.clear.new.self ∙ others.sound.lists ∙ txn_entries;
      };
      agree = λ u. subst (λ (x : State). Agrees x (slice_set left.lists.items c.args.slot c.clear.new.self) u) freed
          (agrees-gone now c.args.slot gone.free gone.out left.lists.items c.clear.new.self listed bare others.agree u);
      count = counts-gone now c.args.slot gone.free gone.out left.lists.items c.clear.new.self listed bare others.count;
    }

pub returns-clause-state : goal.returns-clause-state
returns-clause-state c =
    let left = c.leave_all.new.self in
    let has_entry : c.args.slot < length left.txn_entries.items = subst (λ (k : ℕ). c.args.slot < k) (sym c.leave_all.ensures.left.most) c.requires.has_entry in
    state-freed (state_in c.args.self.now.graph left) left.txn_entries.items c.leave.new.self.items c.args.slot has_entry c.leave.ensures
    ∙ sym c.leave_all.ensures.left.state

pub returns-clause-tells : goal.returns-clause-tells
returns-clause-tells c =
    let left = c.leave_all.new.self in
    let was = c.leave_all.ensures.tells in
    let now : State = state_in c.args.self.now.graph left in
    let has_entry : c.args.slot < length left.txn_entries.items = subst (λ (k : ℕ). c.args.slot < k) (sym c.leave_all.ensures.left.most) c.requires.has_entry in
    record {
      by_slot = was.by_slot;
      others = λ s between same u e. was.others s between same u e
          ∙ sym (ap (λ x. told_to s x u) (state-freed now left.txn_entries.items c.leave.new.self.items c.args.slot has_entry c.leave.ensures)
          ∙ gone_tells s now c.args.slot u ∙ ap (λ b. if b then None else told_to s now u) e);
      own = was.own;
    }

pub returns-clause-orders : goal.returns-clause-orders
returns-clause-orders c =
    let left = c.leave_all.new.self in
    let l = c.index_mut.result.now in
    let has_entry : c.args.slot < length left.txn_entries.items = subst (λ (k : ℕ). c.args.slot < k) (sym c.leave_all.ensures.left.most) c.requires.has_entry in
    let listed : c.args.slot < length left.lists.items = subst (λ (k : ℕ). c.args.slot < k) (sym c.leave_all.ensures.others.sound.lists) has_entry in
    lose_then c.leave_all.ensures.orders (set_loses left.lists.items c.args.slot l c.clear.new.self listed c.index_mut.ensures.value
    (loses_all (keys l.entries) (keys c.clear.new.self.entries) c.clear.ensures.keys))
