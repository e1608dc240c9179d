use Rattle.gl_table.proofs.Words.{◌<◌, count_of, length, spare, subst, sym, ℕ}
use Rattle.gl_table.proofs.inside.Slots.{by_list-at, written-left}
use Rattle.gl_table.proofs.inside.Woken.{ends_one}
use Rattle.gl_table.proofs.ledger.leave.end_wait.Goals.{After-index_mut}
use Rattle.gl_table.proofs.ledger.leave.end_wait.Goals as goal

listed : (c : After-index_mut) → c.args.slot < length c.args.lists.now.items
listed c = subst (λ (k : ℕ). c.args.slot < k) (sym c.requires.can.kept.len) c.requires.can.has_entry

pub leave-requires : goal.leave-requires
leave-requires c = record {
  room = let ls = c.args.lists.now.items in let l = c.index_mut.result.now in
      let lt = listed (goal.at.leave-requires c).After-index_mut in
      λ some. subst (λ (k : ℕ). 0 < k) (by_list-at (λ x. spare x.loose) 0 ls c.args.slot l lt c.index_mut.ensures.value)
      (c.requires.room (subst (λ (k : ℕ). 0 < k) (sym (by_list-at (λ x. count_of x c.args.node) 0 ls c.args.slot l lt c.index_mut.ensures.value)) some));
}

pub returns : goal.returns
returns c = ends_one c.args.slot c.set_status-age.result c.args.why c.set_status-age.ensures.age c.set_status-age.ensures.len c.set_status-age.ensures.txns
    (written-left c.args.lists.now.items c.args.slot c.index_mut.result.now c.leave.new.self (listed (goal.at.returns c).After-index_mut)
    c.index_mut.ensures.value c.args.node c.leave.ensures.modes c.leave.ensures.listed c.leave.ensures.counts c.leave.ensures.keys)
    c.tell.ensures.by_slot c.tell.ensures.notices
