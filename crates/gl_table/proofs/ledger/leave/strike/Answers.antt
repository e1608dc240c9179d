use Rattle.gl_table.proofs.Words.{◌∙◌, ◌≤◌, count_by, count_of, same_node, subst, sym, ℕ}
use Rattle.gl_table.proofs.inside.Orders.{leaves_place}
use Rattle.gl_table.proofs.inside.Places.{lost_one}
use Rattle.gl_table.proofs.inside.Slots.{by_list-at, struck-written}
use Rattle.gl_table.proofs.ledger.leave.strike.Goals as goal

pub count_down-requires : goal.count_down-requires
count_down-requires c = record {
  some = λ q. subst (λ (k : ℕ). count_by (same_node q) c.args.parents.now ≤ k)
      (by_list-at (λ l. count_of l q) 0 c.args.lists.now.items c.args.slot c.index_mut-list.result.now c.requires.can.slot c.index_mut-list.ensures.value
      ∙ sym (c.leave.ensures.counts q)) (c.requires.can.some q);
}

pub returns : goal.returns
returns c =
    struck-written c.args.lists.now.items c.args.slot c.index_mut-list.result.now c.count_down.new.self c.args.node c.args.parents.now c.requires.can.slot
    c.index_mut-list.ensures.value
    (λ q. c.count_down.ensures.modes q ∙ c.leave.ensures.modes q) (λ q. c.count_down.ensures.listed q ∙ c.leave.ensures.listed q)
    (λ q. c.count_down.ensures.counts q ∙ c.leave.ensures.counts q)
    (leaves_place c.index_mut-list.result.now c.count_down.new.self c.args.node (c.count_down.ensures.keys ∙ c.leave.ensures.keys))
    (lost_one c.index_mut-list.result.now c.count_down.new.self c.args.node (c.count_down.ensures.keys ∙ c.leave.ensures.keys)
    (λ q. c.count_down.ensures.listed q ∙ c.leave.ensures.listed q))
