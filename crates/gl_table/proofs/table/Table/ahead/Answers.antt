use Rattle.gl_table.proofs.Words.{◌∙◌, ◌≡◌, ap, Bool, false, if◌then◌else◌, is_waiter, lives, None, Option, position, refl, Some, state_of, Status, status_of}
use Rattle.gl_table.proofs.Words.{sym, TableView, true, Waiting}
use Rattle.gl_table.specs.Table.{ahead_in}
use Rattle.gl_table.proofs.calls.Places.{place-ahead}
use Rattle.gl_table.proofs.table.Table.ahead.Goals as goal

module _ (b : Bool) (o : Option Status) (x : Status) (is : (if b then o else None) ≡ Some x) where
  there : (b ≡ true) × (o ≡ Some x)
  there = by b is
    where
      by : (b : Bool) → (if b then o else None) ≡ Some x → (b ≡ true) × (o ≡ Some x)
      by true e = (refl, e)
      by false e = cc

pub returns-in-Some-Waiting : goal.returns-in-Some-Waiting
returns-in-Some-Waiting c =
    let s = state_of c.args.self.now in
    let waits = there (lives s c.args.t) (status_of s c.args.t.slot) (Waiting c.in-Some-Waiting.node c.in-Some-Waiting.field-0-1)
    (sym c.status.ensures ∙ c.in-Some-Waiting.is ∙ ap Some c.in-Some-Waiting.field-0-is) in
    place-ahead s c.law.ensures.lawful c.args.t.slot c.in-Some-Waiting.node c.in-Some-Waiting.field-0-1 c.place_in.result waits.1
    (c.place_in.ensures ∙ ap (position (is_waiter c.args.t.slot)) c.queue.ensures
    ∙ ap (λ (v : TableView). position (is_waiter c.args.t.slot) ((state_of v).queue c.in-Some-Waiting.node)) c.self.view_is)
    ∙ sym (ap (λ b. if b then ahead_in s c.args.t.slot (status_of s c.args.t.slot) else None) waits.0 ∙ ap (ahead_in s c.args.t.slot) waits.1)
