use Rattle.gl_table.proofs.Words.{◌+◌, ◌∙◌, ap, ap₂, as_held, count_by, count_of, if◌then◌else◌, keys, mode_of, NL, not-false, not-true, same_mode, same_node}
use Rattle.gl_table.proofs.Words.{sym}
use Rattle.gl_table.proofs.inside.Places.{same_order}
use Rattle.gl_table.proofs.inside.Slots.{by_list-at, few-kept, none_more, room-kept, written}
use Rattle.gl_table.proofs.ledger.wake.hold.Goals as goal

pub count_up-requires-clause-room : goal.count_up-requires-clause-room
count_up-requires-clause-room c =
    room-kept c.args.lists.now.items c.args.slot c.args.node c.args.parents.now c.index_mut-list.result.now c.set_mode.new.self c.index_mut-list.ensures.value
    c.requires.can c.set_mode.ensures.listed c.set_mode.ensures.loose (not-false _ (sym c.if-is_new.ensures))

pub count_up-requires-clause-few : goal.count_up-requires-clause-few
count_up-requires-clause-few c =
    few-kept c.args.lists.now.items c.args.slot c.args.node c.args.parents.now c.index_mut-list.result.now c.set_mode.new.self c.index_mut-list.ensures.value
    c.requires.can c.set_mode.ensures.counts

pub returns-then-is_new : goal.returns-then-is_new
returns-then-is_new c = let ls = c.args.lists.now.items in let l = c.index_mut-list.result.now in let n = c.args.node in
    written ls c.args.slot l c.count_up.new.self c.requires.can.slot c.index_mut-list.ensures.value n
    (as_held ls n c.args.parents.now (λ u. c.args.mode))
    (λ q. c.count_up.ensures.modes q ∙ c.set_mode.ensures.modes q) (λ q. c.count_up.ensures.listed q ∙ c.set_mode.ensures.listed q)
    (λ q. c.count_up.ensures.counts q ∙ ap₂ (λ k b. k + (if b then count_by (same_node q) c.args.parents.now else 0)) (c.set_mode.ensures.counts q)
    (sym (ap (λ m. same_mode m NL) (by_list-at (λ x. mode_of x n) NL ls c.args.slot l c.requires.can.slot c.index_mut-list.ensures.value)
    ∙ not-false _ (sym c.if-is_new.ensures))))
    (same_order (keys l.entries) (keys c.count_up.new.self.entries) (c.count_up.ensures.keys ∙ c.set_mode.ensures.keys))

pub returns-else-is_new : goal.returns-else-is_new
returns-else-is_new c = let ls = c.args.lists.now.items in let l = c.index_mut-list.result.now in let n = c.args.node in
    written ls c.args.slot l c.set_mode.new.self c.requires.can.slot c.index_mut-list.ensures.value n
    (as_held ls n c.args.parents.now (λ u. c.args.mode))
    c.set_mode.ensures.modes c.set_mode.ensures.listed
    (λ q. c.set_mode.ensures.counts q ∙ none_more (count_of l q) ∙ ap (λ b. count_of l q + (if b then count_by (same_node q) c.args.parents.now else 0))
    (sym (ap (λ m. same_mode m NL) (by_list-at (λ x. mode_of x n) NL ls c.args.slot l c.requires.can.slot c.index_mut-list.ensures.value)
    ∙ not-true _ (sym c.if-is_new.ensures))))
    (same_order (keys l.entries) (keys c.set_mode.new.self.entries) c.set_mode.ensures.keys)
