use Rattle.gl_slots.specs.Limit.{most_slots}
use Rattle.std.proofs.Common.{rules, arith, ◌≡◌, ◌≤◌, ◌∙◌, ◌||◌, ◌==◌, ap, fold, length, subst, sym, List}
use Rattle.std.specs.List.{list_any}
use Rattle.std.proofs.lemmas.List.{take_all}
use Rattle.gl_model.specs.declared.txn.TxnId.{TxnId}
use Rattle.gl_model.specs.declared.answers.Notice.{Notice}
use Rattle.gl_wakes.specs.Boxes.{Slot, put_in, Delivers}
use Rattle.gl_wakes.specs.Wakes.{names_slot}
use Rattle.gl_wakes.proofs.Notices.{slot_below, delivers}
use Rattle.gl_wakes.proofs.Waking.{wakes_ended}
use Rattle.gl_wakes.proofs.boxes.put_each.Goals as goal

pub bounds-boxes-txn : goal.bounds-boxes-txn
bounds-boxes-txn c = slot_below most_slots c.loop-txn.txn-index c.args.told.now _ c.requires (omega arith)

pub insert-requires : goal.insert-requires
insert-requires c = slot_below most_slots c.loop-txn.txn-index c.args.told.now _ c.requires (omega arith)

pub returns-clause-told : goal.returns-clause-told
returns-clause-told c =
    let told = c.args.told.now in
    let before = c.args.boxes.now in
    let all : length told ≤ c.loop-txn.txn-index = omega arith in
    let is : c.loop-txn.boxes ≡ fold put_in before told = c.loop-txn.invariant.put ∙
    ap (λ (l : List (TxnId × Notice)). fold put_in before l) (take_all c.loop-txn.txn-index told all) in
    let many : most_slots ≤ length before = search rules in
    subst (λ (b : List Slot). Delivers before told b) (sym is) (delivers most_slots told before c.requires many)

pub returns-clause-ended : goal.returns-clause-ended
returns-clause-ended c =
    let told = c.args.told.now in
    let all : length told ≤ c.loop-txn.txn-index = omega arith in
    wakes_ended c.args.command.now told c.loop-txn.ended
    (λ u less. c.loop-txn.invariant.slots u less ∙ ap (λ (l : List (TxnId × Notice)). names_slot c.args.command.now u || list_any (λ x. x.0.slot == u) l)
    (take_all c.loop-txn.txn-index told all))
