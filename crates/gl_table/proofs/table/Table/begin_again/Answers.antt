use Rattle.gl_table.proofs.Words.{◌∙◌, ◌≡◌, ap, begin_tests, begun_again, Err, first_refusal, free_slot, is_free, is_wait, None, none_some, Ok, position, refl}
use Rattle.gl_table.proofs.Words.{Refuses, Some, state_of, status_of, subst, sym, TableView, TxnId}
use Rattle.gl_modes.specs.declared.refusal.Refusal.TheVariants as no
use Rattle.gl_table.proofs.calls.Law.{begin-refusal, found-slot, free-place}
use Rattle.gl_table.proofs.table.Table.begin_again.Goals.{In-Some}
use Rattle.gl_table.proofs.table.Table.begin_again.Goals as goal

-- no slot is free

full : (c : goal.In_default) → first_refusal (begin_tests (state_of c.args.self.now)) ≡ Some no.TooManyTxns
full c =
    let none = sym c.in_default.is ∙ c.first_free.ensures ∙ ap (λ (v : TableView). position is_free v.txn_entries) c.self.view_is in
    begin-refusal (state_of c.args.self.now) None (λ e. c.if-self.false (ap (λ (v : TableView). v.begins) c.self.view_is ∙ e))
    (found-slot c.args.self.now None none)

pub returns-in_default-clause-goes : goal.returns-in_default-clause-goes
returns-in_default-clause-goes c = λ e. absurd (none_some (sym e ∙ full c))

pub returns-in_default-clause-refuses : goal.returns-in_default-clause-refuses
returns-in_default-clause-refuses c = subst (λ r. Refuses {T = TxnId} r (Err no.TooManyTxns)) (sym (full c)) refl

-- a slot is free, and nobody waits in it

slot : (c : In-Some) → free_slot (state_of c.args.self.now) ≡ Some c.in-Some.slot
slot c =
    found-slot c.args.self.now (Some c.in-Some.slot)
    (sym c.in-Some.is ∙ c.first_free.ensures ∙ ap (λ (v : TableView). position is_free v.txn_entries) c.self.view_is)

pub start-requires-clause-quiet : goal.start-requires-clause-quiet
start-requires-clause-quiet c =
    sym (ap (λ (v : TableView). is_wait (status_of (state_of v) c.in-Some.slot)) c.self.view_is)
    ∙ (free-place c.self.inside c.in-Some.slot (sym c.in-Some.is ∙ c.first_free.ensures)).1

pub returns-clause-begun : goal.returns-clause-begun
returns-clause-begun c =
    let is = c.start.ensures.slot in (
      slot (goal.at.returns-clause-begun c).In-Some ∙ ap (λ n. Some n) (sym is),
      c.start.ensures.age,
      c.start.ensures.state ∙ ap (λ n. begun_again (state_of c.args.self.now) n c.args.since) (sym is),
    )

pub returns-clause-refuses : goal.returns-clause-refuses
returns-clause-refuses c =
    let goes = begin-refusal (state_of c.args.self.now) (Some c.in-Some.slot) (λ e. c.if-self.false (ap (λ (v : TableView). v.begins) c.self.view_is ∙ e))
    (slot (goal.at.returns-clause-refuses c).In-Some) in
    subst (λ r. Refuses {T = TxnId} r (Ok c.start.result)) (sym goes) tt
