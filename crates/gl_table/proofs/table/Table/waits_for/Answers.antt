use Rattle.gl_table.proofs.Words.{◌&&◌, ◌==◌, ◌∙◌, ◌≡◌, ap, blocks, Bool, false, has_slot, if◌then◌else◌, lives, None, not, Option, Some, state_of, Status}
use Rattle.gl_table.proofs.Words.{status_of, subst, sym, TableView, true, view_of, Waiting, waits_for}
use Rattle.gl_table.proofs.table.Table.waits_for.Goals as goal

there : (b : Bool) (o : Option Status) (x : Status) → (if b then o else None) ≡ Some x → o ≡ Some x
there true o x h = h
there false o x h = cc

pub returns-in-Some-Waiting-clause-waits : goal.returns-in-Some-Waiting-clause-waits
returns-in-Some-Waiting-clause-waits c u =
    subst (λ (v : TableView). has_slot c.waits_for.result u ≡ waits_for (state_of v) c.args.t.slot u) c.self.view_is
    (c.waits_for.ensures u ∙ sym (ap (λ o. not (c.args.t.slot == u) && blocks (state_of (view_of c.self.inside)) c.args.t.slot u o) at))
  where
    at : status_of (state_of (view_of c.self.inside)) c.args.t.slot ≡ Some (Waiting c.in-Some-Waiting.node c.in-Some-Waiting.wanted)
    at = subst (λ (v : TableView). status_of (state_of v) c.args.t.slot ≡ Some (Waiting c.in-Some-Waiting.node c.in-Some-Waiting.wanted)) (sym c.self.view_is)
        (there (lives (state_of c.args.self.now) c.args.t) (status_of (state_of c.args.self.now) c.args.t.slot)
        (Waiting c.in-Some-Waiting.node c.in-Some-Waiting.wanted)
        (sym c.status.ensures ∙ c.in-Some-Waiting.is ∙ ap Some c.in-Some-Waiting.field-0-is))
