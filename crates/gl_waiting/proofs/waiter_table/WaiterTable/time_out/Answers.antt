use Rattle.gl_waiting.proofs.Runs.{own_same}
use Rattle.std.proofs.Common.{◌≡◌, ◌<◌, List, refl, subst, sym, ap, ◌∙◌}
use Rattle.std.specs.Prelude.{Bool, Option, Some, None, false, true}
use Rattle.gl_modes.specs.declared.node.NodeId.{NodeId}
use Rattle.gl_steps.specs.declared.command.Answer.{Answer}
use Rattle.gl_steps.specs.declared.command.Command.TheVariants as command
use Rattle.gl_rows.specs.Rows.{RegistryView}
use Rattle.gl_rows.specs.Serving.{ServesBy}
use Rattle.gl_waiting.specs.Delivering.{registry_in}
use Rattle.gl_slots.specs.Slots.{has_slot}
use Rattle.gl_graph.specs.Refusals.{max_count}
use Rattle.gl_model.specs.Tellings.{Told}
use Rattle.gl_model.specs.declared.txn.TxnId.{TxnId}
use Rattle.gl_steps.specs.Promises.{waits_on}
use Rattle.gl_waiting.specs.declared.waiter.Waiter.{Waiter}
use Rattle.gl_catalog.specs.Manager.{state_of}
use Rattle.gl_waiting.specs.Asking.{TimesOut, ends_late, is_done, taken_if}
use Rattle.gl_waiting.specs.Waiters.{KnowsDue}
use Rattle.gl_waiting.specs.Waiting.{WaitingView}
use Rattle.gl_waiting.specs.declared.waiter.Outcome.TheVariants as end
use Rattle.gl_waiting.specs.declared.waiter.Place.{Place}
use Rattle.gl_waiting.specs.declared.waiter.Waiter.{Waiter}
use Rattle.gl_waiting.proofs.Awaiting.{cancel_done, carries_ended, due_on, due_without, waiting_with}
use Rattle.gl_waiting.proofs.waiter_table.WaiterTable.time_out.Goals as goal

-- two words for one waiter
same_waiter : (o : Option Waiter) (v w : Waiter) → o ≡ Some v → o ≡ Some w → v ≡ w
same_waiter o v w one other = cc (one, other)

-- a cancel of a wait is done, if a command can still be counted
cancel_is_done : (v v' : RegistryView) (t : TxnId) (n : NodeId) (o : Option Answer) (told : Told) → waits_on (state_of v.manager) t n ≡ true
    → v.manager.accepted < max_count → ServesBy false v (command.Cancel t) o told v' → is_done o ≡ true
cancel_is_done v v' t n o told waits low h =
    ap is_done (h.1 ∙ ap (λ (a : Answer). Some a) (cancel_done (state_of v.manager) t n waits low h.0 told (state_of h.2.mid) h.2.applies.step))

pub invariant_of-self : goal.invariant_of-self
invariant_of-self c =
    due_on (state_of c.self.inside.delivery.manager) (state_of c.serve-answer.new.self.manager) c.serve-answer.result.1 c.law.ensures.lawful
    (carries_ended c.self.inside.delivery c.serve-answer.new.self _ c.serve-answer.new.told.items c.serve-answer.result.1
    c.serve-answer.ensures.carries)
    c.self.inside.due c.union-self-inside.result c.self.inside.places c.union-self-inside.ensures c.self.invariant

pub invariant_of-self-2 : goal.invariant_of-self-2
invariant_of-self-2 c =
    subst (λ (places : List Place). KnowsDue (has_slot c.union-self-inside.result) (state_of c.serve-answer.new.self.manager) places)
    (sym c.put.ensures.put)
    (due_without (has_slot c.union-self-inside.result) (state_of c.serve-answer.new.self.manager) c.self.inside.places c.args.txn.slot
    (due_on (state_of c.self.inside.delivery.manager) (state_of c.serve-answer.new.self.manager) c.serve-answer.result.1 c.law.ensures.lawful
    (carries_ended c.self.inside.delivery c.serve-answer.new.self _ c.serve-answer.new.told.items c.serve-answer.result.1
    c.serve-answer.ensures.carries)
    c.self.inside.due c.union-self-inside.result c.self.inside.places c.union-self-inside.ensures c.self.invariant))

pub returns-then-not-is_done : goal.returns-then-not-is_done
returns-then-not-is_done c =
    let made = c.serve-answer.ensures in
    let out = sym c.is_done.ensures ∙ c.if-not-is_done.true in
    subst
    (λ (v : WaitingView). TimesOut v c.args.txn None c.serve-answer.new.told.items c.serve-answer.result.1
    (waiting_with c.serve-answer.new.self c.self.inside.places c.self.inside.begins)) c.self.view_is
    (record {
      run = c.serve-answer.ensures.run;
      waiter = λ w has. record {
        answer = c.serve-answer.result.0;
        serves = made.serves;
        cancels = c.serve-answer.ensures.carries;
        ends = ap (λ (b : Bool). ends_late b w.at) (sym out);
        done = λ waits low.
            cancel_is_done (registry_in c.self.inside.delivery) (registry_in c.serve-answer.new.self) c.args.txn w.at c.serve-answer.result.0
            c.serve-answer.new.told.items waits low made.serves;
        places = ap (λ (b : Bool). taken_if b c.args.txn.slot c.self.inside.places) (sym out);
        queue = refl;
        begun = refl;
      };
      without = λ none. absurd (none c.in-Some.waiter c.in-Some.ensures.some);
    })

pub returns : goal.returns
returns c =
    let made = c.serve-answer.ensures in
    let is = sym c.is_done.ensures ∙ c.if-not-is_done.false in
    subst
    (λ (v : WaitingView). TimesOut v c.args.txn (Some (end.TimedOut c.in-Some.waiter.at)) c.serve-answer.new.told.items c.serve-answer.result.1
    (waiting_with c.serve-answer.new.self c.put.new.self c.self.inside.begins)) c.self.view_is
    (record {
      run = c.serve-answer.ensures.run;
      waiter = λ w has. record {
        answer = c.serve-answer.result.0;
        serves = made.serves;
        cancels = c.serve-answer.ensures.carries;
        ends = ap (λ (v : Waiter). Some (end.TimedOut v.at)) (same_waiter _ c.in-Some.waiter w c.in-Some.ensures.some.0 has.0)
            ∙ ap (λ (b : Bool). ends_late b w.at) (sym is);
        done = λ waits low. is;
        places = c.put.ensures.put ∙ ap (λ (b : Bool). taken_if b c.args.txn.slot c.self.inside.places) (sym is);
        queue = refl;
        begun = refl;
      };
      without = λ none. absurd (none c.in-Some.waiter c.in-Some.ensures.some);
    })

-- it has no waiter

pub returns-in_default : goal.returns-in_default
returns-in_default c =
    subst (λ (v : WaitingView). TimesOut v c.args.txn None c.args.told.now.items c.empty.result v) c.self.view_is
    (record {
      run = own_same (command.Cancel c.args.txn) (state_of c.self.inside.delivery.manager) (state_of c.self.inside.delivery.manager) refl;
      waiter = λ w has. absurd (c.in_default.ensures.none w has);
      without = λ none. (refl, c.requires.empty, c.empty.ensures.none, refl);
    })
