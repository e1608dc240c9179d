use Rattle.std.proofs.Common.{◌≡◌, ap, sym, ◌∙◌}
use Rattle.std.specs.Prelude.{Bool, Result, false, if◌then◌else◌, ◌&&◌, not}
use Rattle.gl_modes.specs.declared.refusal.Refusal.{Refusal}
use Rattle.gl_header.specs.Header.{is_empty}
use Rattle.gl_slots.proofs.SlotLemmas.{none-test}
use Rattle.gl_slots.specs.Slots.{has_none, has_slot}
use Rattle.gl_slots.specs.declared.slots.Slots.{Slots}
use Rattle.gl_model.specs.Tellings.{Told}
use Rattle.gl_model.specs.declared.txn.TxnId.{TxnId}
use Rattle.gl_catalog.specs.declared.manager.paths.Reached.{Reached}
use Rattle.gl_window.proofs.Emptiness.{tests_empty, tests_none}
use Rattle.gl_c.specs.locks.Paths.{ends_waiting, goes_well, leaves_on_path}
use Rattle.gl_c.proofs.managers.showing.leaves_on_path.Goals as goal

-- what is asked if there are parties
with_parties : (parties : Slots) (t : TxnId) (reached : Result Reached Refusal) (told : Told) → has_none parties ≡ false
    → leaves_on_path parties t reached told ≡ (is_empty told && (goes_well reached && not (has_slot parties t.slot)))
with_parties parties t reached told some =
    ap (λ (b : Bool). if b then not (ends_waiting reached) else is_empty told && (goes_well reached && not (has_slot parties t.slot))) some

pub returns-then-is_empty : goal.returns-then-is_empty
returns-then-is_empty c =
    ap not c.ends_waiting.ensures
    ∙ ap
    (λ (b : Bool). if b then not (ends_waiting c.args.reached)
    else is_empty c.args.told.now && (goes_well c.args.reached && not (has_slot c.args.parties c.args.txn.slot)))
    (sym (none-test c.args.parties (c.is_empty.ensures.0 c.if-is_empty.true)))

pub returns-else-is_empty-2 : goal.returns-else-is_empty-2
returns-else-is_empty-2 c =
    c.if-is_empty-2.false
    ∙ ap (λ (b : Bool). b && (goes_well c.args.reached && not (has_slot c.args.parties c.args.txn.slot)))
    (sym (sym (c.is_empty-else-is_empty.ensures ∙ tests_empty c.args.told.now) ∙ c.if-is_empty-2.false))
    ∙ sym (with_parties c.args.parties c.args.txn c.args.reached c.args.told.now (sym (tests_none c.args.parties _ c.is_empty.ensures) ∙ c.if-is_empty.false))

pub returns-then-goes_well : goal.returns-then-goes_well
returns-then-goes_well c =
    ap not c.contains.ensures
    ∙ ap (λ (b : Bool). b && not (has_slot c.args.parties c.args.txn.slot)) (sym (sym c.goes_well.ensures ∙ c.if-goes_well.true))
    ∙ ap (λ (b : Bool). b && (goes_well c.args.reached && not (has_slot c.args.parties c.args.txn.slot)))
    (sym (sym (c.is_empty-else-is_empty.ensures ∙ tests_empty c.args.told.now) ∙ c.if-is_empty-2.true))
    ∙ sym (with_parties c.args.parties c.args.txn c.args.reached c.args.told.now (sym (tests_none c.args.parties _ c.is_empty.ensures) ∙ c.if-is_empty.false))

pub returns-else-goes_well : goal.returns-else-goes_well
returns-else-goes_well c =
    c.if-goes_well.false
    ∙ ap (λ (b : Bool). b && not (has_slot c.args.parties c.args.txn.slot)) (sym (sym c.goes_well.ensures ∙ c.if-goes_well.false))
    ∙ ap (λ (b : Bool). b && (goes_well c.args.reached && not (has_slot c.args.parties c.args.txn.slot)))
    (sym (sym (c.is_empty-else-is_empty.ensures ∙ tests_empty c.args.told.now) ∙ c.if-is_empty-2.true))
    ∙ sym (with_parties c.args.parties c.args.txn c.args.reached c.args.told.now (sym (tests_none c.args.parties _ c.is_empty.ensures) ∙ c.if-is_empty.false))
