use Rattle.gl_table.proofs.Words.{◌∙◌, ◌≤◌, ap, arith, insert, IsBySlot, length, notices_in, subst, sym, ℕ}
use Rattle.gl_model.proofs.telling.Lists.{by_slot_inserted, notices_inserted, place, place_within, room_to_tell}
use Rattle.gl_table.proofs.told.tell.Goals as goal

pub insert-requires : goal.insert-requires
insert-requires c =
    let at = c.place_of-place.ensures ∙ ap (λ xs. place xs c.args.t.slot) c.as_slice.ensures.value in (
      omega arith,
      (
        subst (λ (i : ℕ). i ≤ length c.args.told.now.items) (sym at) (place_within c.args.told.now.items c.args.t.slot),
        room_to_tell c.args.told.now.items (c.args.t, c.args.notice) c.requires.by_slot c.requires.absent c.requires.below,
      ),
    )

pub returns-clause-by_slot : goal.returns-clause-by_slot
returns-clause-by_slot c =
    let at = c.place_of-place.ensures ∙ ap (λ xs. place xs c.args.t.slot) c.as_slice.ensures.value in
    subst IsBySlot (sym (c.insert.ensures.items ∙ ap (λ i. insert c.args.told.now.items i (c.args.t, c.args.notice)) at))
    (by_slot_inserted (c.args.t, c.args.notice) c.args.told.now.items c.requires.by_slot c.requires.absent c.requires.below)

pub returns-clause-notices : goal.returns-clause-notices
returns-clause-notices c =
    let at = c.place_of-place.ensures ∙ ap (λ xs. place xs c.args.t.slot) c.as_slice.ensures.value in
    λ u. ap (λ xs. notices_in xs u) (c.insert.ensures.items ∙ ap (λ i. insert c.args.told.now.items i (c.args.t, c.args.notice)) at)
    ∙ notices_inserted (c.args.t, c.args.notice) c.args.told.now.items c.requires.absent u
