use Rattle.gl_table.proofs.Words.{[], ◌∷◌, ◌≡◌, Err, first_refusal, held_child, None, not_held, Ok, Some, state_of, subst, TableView, verdict, view_of}
use Rattle.gl_modes.specs.declared.refusal.Refusal.TheVariants as no
use Rattle.gl_table.proofs.calls.Queries.{says_child, says_none, says_not_held}
use Rattle.gl_table.proofs.table.Table.check_childless.Goals as goal

pub returns-in-None : goal.returns-in-None
returns-in-None c =
    subst (λ (v : TableView). Err no.NotHeld ≡ verdict
    (first_refusal (not_held (state_of v) c.args.t.slot c.args.n ∷ held_child (state_of v) c.args.t.slot c.args.n ∷ []))) c.self.view_is
    (says_not_held (state_of (view_of c.self.inside)) c.args.t.slot c.args.n c.in-None.ensures)

pub returns-in-Some-eq0 : goal.returns-in-Some-eq0
returns-in-Some-eq0 c =
    subst (λ (v : TableView). Ok tt ≡ verdict (first_refusal
    (not_held (state_of v) c.args.t.slot c.args.n ∷ held_child (state_of v) c.args.t.slot c.args.n ∷ []))) c.self.view_is
    (says_none (state_of (view_of c.self.inside)) c.args.t.slot c.args.n c.in-Some-eq0.field-0 c.in-Some-eq0.field-0-test c.in-Some-eq0.ensures)

pub returns-in-Some-first_child : goal.returns-in-Some-first_child
returns-in-Some-first_child c =
    subst (λ (v : TableView). Err (no.HeldChild c.in-Some-first_child.node)
    ≡ verdict (first_refusal (not_held (state_of v) c.args.t.slot c.args.n ∷ held_child (state_of v) c.args.t.slot c.args.n ∷ []))) c.self.view_is
    (says_child (state_of (view_of c.self.inside)) c.args.t.slot c.args.n c.in-Some.field-0 c.in-Some.ensures (Some c.in-Some-first_child.node)
    c.in-Some-first_child.ensures)

pub returns-in-None-first_child : goal.returns-in-None-first_child
returns-in-None-first_child c =
    subst (λ (v : TableView). Ok tt ≡ verdict (first_refusal
    (not_held (state_of v) c.args.t.slot c.args.n ∷ held_child (state_of v) c.args.t.slot c.args.n ∷ []))) c.self.view_is
    (says_child (state_of (view_of c.self.inside)) c.args.t.slot c.args.n c.in-Some.field-0 c.in-Some.ensures None c.in-None-first_child.ensures)
