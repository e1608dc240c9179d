use Rattle.gl_table.proofs.Words.{◌∙◌, ◌≡◌, ap, commit_tests, CommitsKeeping, first_refusal, inl, inr, None, refl, Some, state_at, state_of, subst, sym}
use Rattle.gl_table.proofs.Words.{TableView, TellsOthers, Told, told, view_of}
use Rattle.gl_table.proofs.calls.Calls.{test_passed}
use Rattle.gl_table.proofs.calls.Keeping.{keeps_ended, keeps_renewed, Rolled, sound_end, sound_mid, told_end, told_renewed}
use Rattle.gl_table.proofs.calls.Orders.{losses_of}
use Rattle.gl_table.proofs.inside.Places.{lose_then}
use Rattle.gl_table.proofs.table.Table.commit_keeping_telling.Goals.{After-release_since-released, then-self-via-else-self+then-hinders}
use Rattle.gl_table.proofs.table.Table.commit_keeping_telling.Goals.{then-self-via-then-self}
use Rattle.gl_table.proofs.table.Table.commit_keeping_telling.Goals as goal

rolled : (c : After-release_since-released) → Rolled c.self.inside c.args.t c.args.keep c.release_since-released.result c.release_since-released.new.self
    c.release_since-released.new.told.items
rolled c =
    let now = c.release_since-released in
    record {
      sound = c.self.invariant;
      may = subst (λ (v : TableView). first_refusal (commit_tests (state_of v) c.args.t) ≡ None) (sym c.self.view_is)
          (test_passed _ c.in_ok-check_active.field-0 c.in_ok-check_active.ensures);
      nodes = now.ensures.back.0;
      back = now.ensures.back.1;
      count = now.ensures.back.2;
      tells = subst (λ (first : Told). TellsOthers c.args.t.slot (state_at c.self.inside.locks) (state_at now.new.self) first now.new.told.items)
          c.requires.empty now.ensures.tells;
    }

pub invariant_of-self : goal.invariant_of-self
invariant_of-self c = sound_mid (rolled (goal.at.invariant_of-self c).After-release_since-released) c.args.since

pub invariant_of-self-then-self : goal.invariant_of-self-then-self
invariant_of-self-then-self c = sound_end (rolled (goal.at.invariant_of-self-then-self c).After-release_since-released) c.args.since c.end.new.self
    c.end.ensures.state

pub returns-then-self-clause-keeps : goal.returns-then-self-clause-keeps
returns-then-self-clause-keeps c =
    subst (λ (v : TableView). CommitsKeeping c.args.t c.args.keep c.args.since v c.release_since-released.result None (view_of (record c.self.inside {
      locks = c.end.new.self;
    }))) c.self.view_is (keeps_ended (rolled (goal.at.returns-then-self-clause-keeps c).After-release_since-released) c.args.since c.end.new.self
    c.end.ensures.state (elim c.then-self.branch [
      | then-self-via-then-self w ↦ inl w.if-self.true
      | then-self-via-else-self+then-hinders w ↦ inr (sym w.hinders.ensures ∙ w.if-hinders.true)
    ]))

pub returns-then-self-clause-told : goal.returns-then-self-clause-told
returns-then-self-clause-told c =
    told_end (rolled (goal.at.returns-then-self-clause-told c).After-release_since-released) c.args.since c.end.new.self c.end.ensures.state c.end.ensures.tells
    ∙ ap (λ (v : TableView). told (state_of v) (state_of (view_of (record c.self.inside { locks = c.end.new.self })))) c.self.view_is

pub returns-then-self-clause-orders : goal.returns-then-self-clause-orders
returns-then-self-clause-orders c =
    losses_of c.self.inside c.self.view_is (lose_then c.release_since-released.ensures.orders c.end.ensures.orders) refl

pub returns-clause-keeps : goal.returns-clause-keeps
returns-clause-keeps c =
    subst (λ (v : TableView). CommitsKeeping c.args.t c.args.keep c.args.since v c.release_since-released.result (Some c.start.result) c.start.new.self)
    c.self.view_is (keeps_renewed (rolled (goal.at.returns-clause-keeps c).After-release_since-released) c.args.since c.start.new.self c.start.ensures.state
    c.if-self.false (sym c.hinders.ensures ∙ c.if-hinders.false) c.start.ensures.slot c.start.ensures.age
    c.start.ensures.lists)

pub returns-clause-told : goal.returns-clause-told
returns-clause-told c =
    told_renewed (rolled (goal.at.returns-clause-told c).After-release_since-released) c.args.since c.start.new.self c.start.ensures.state
    ∙ ap (λ (v : TableView). told (state_of v) (state_of c.start.new.self)) c.self.view_is

pub returns-clause-orders : goal.returns-clause-orders
returns-clause-orders c = losses_of c.self.inside c.self.view_is c.release_since-released.ensures.orders (sym c.start.ensures.lists)
