use Rattle.gl_table.proofs.Words.{◌∙◌, graph_of, keys, length-set, State, state_at, state_in}
use Rattle.gl_table.proofs.inside.Marked.{agrees-back, counts-back, list_there, parents_counted, shedding_begins, taken_out}
use Rattle.gl_table.proofs.inside.Slots.{agrees-set, counts-set, lists_back}
use Rattle.gl_table.proofs.locks.Locks.shed.Goals as goal
use Rattle.gl_table.proofs.inside.Places.{loses_then, same_order}

pub mark_covered-requires : goal.mark_covered-requires
mark_covered-requires c =
    let l = c.args.self.now in
    let there = list_there l.ledger (graph_of l.graph) l.sound l.orderly c.args.slot c.requires.active in
    record {
      counted = parents_counted (state_at l) l.orderly c.args.slot c.requires.active c.law.ensures.lawful l.ledger.lists.items c.replace-list.result there
          (taken_out l.ledger.lists.items c.args.slot c.index_mut.result.now c.replace-list.result c.replace-list.ensures.value c.index_mut.ensures.value)
          (l.agree c.args.slot) (l.count c.args.slot);
    }

pub release_marked-requires-clause-others : goal.release_marked-requires-clause-others
release_marked-requires-clause-others c =
    let l = c.args.self.now in
    let ls = l.ledger.lists.items in
    let there = list_there l.ledger (graph_of l.graph) l.sound l.orderly c.args.slot c.requires.active in
    record {
      sound = record { few = l.sound.few; lists = length-set ls c.args.slot c.replace-list.new.dest ∙ l.sound.lists };
      orderly = l.orderly;
      agree = λ u e. agrees-set ls c.args.slot c.replace-list.new.dest there u e (state_at l) (l.agree u);
      count = λ u e. counts-set ls c.args.slot c.replace-list.new.dest there u e (state_at l) (l.count u);
    }

pub release_marked-requires-clause-marked : goal.release_marked-requires-clause-marked
release_marked-requires-clause-marked c =
    let l = c.args.self.now in
    let there = list_there l.ledger (graph_of l.graph) l.sound l.orderly c.args.slot c.requires.active in
    shedding_begins (state_at l) l.orderly c.args.slot c.requires.active c.law.ensures.lawful l.ledger.lists.items c.replace-list.result there
    (taken_out l.ledger.lists.items c.args.slot c.index_mut.result.now c.replace-list.result c.replace-list.ensures.value c.index_mut.ensures.value)
    (l.agree c.args.slot) (l.count c.args.slot) c.args.node c.mark_covered.new.self c.mark_covered.ensures.listed c.mark_covered.ensures.modes
    c.mark_covered.ensures.counts

pub invariant_of-self : goal.invariant_of-self
invariant_of-self c =
    let left = c.release_marked.new.self in
    let now : State = state_in c.args.self.now.graph left in
    let before : State = state_at c.args.self.now in
    let others = c.release_marked.ensures.others in
    let is = c.release_marked.ensures.released in
    let there = list_there left (graph_of c.args.self.now.graph) others.sound others.orderly c.args.slot is.active in
    record {
      orderly = others.orderly;
      sound = record { few = others.sound.few; lists = length-set left.lists.items c.args.slot c.release_marked.new.list ∙ others.sound.lists };
      agree = agrees-back now others.orderly c.args.slot is.active before c.args.node left.lists.items c.release_marked.new.list there is others.agree;
      count = counts-back now others.orderly c.args.slot is.active before c.args.node left.lists.items c.release_marked.new.list there is others.count;
    }

pub returns-clause-orders : goal.returns-clause-orders
returns-clause-orders c =
    let l = c.args.self.now in
    let left = c.release_marked.new.self in
    let first = list_there l.ledger (graph_of l.graph) l.sound l.orderly c.args.slot c.requires.active in
    let others = c.release_marked.ensures.others in
    let last = list_there left (graph_of l.graph) others.sound others.orderly c.args.slot c.release_marked.ensures.released.active in
    lists_back l.ledger.lists.items left.lists.items c.args.slot c.replace-list.result c.replace-list.new.dest c.release_marked.new.list first
    (taken_out l.ledger.lists.items c.args.slot c.index_mut.result.now c.replace-list.result c.replace-list.ensures.value c.index_mut.ensures.value)
    c.release_marked.ensures.orders last
    (loses_then (same_order (keys c.replace-list.result.entries) (keys c.mark_covered.new.self.entries) c.mark_covered.ensures.keys)
    c.release_marked.ensures.order)
