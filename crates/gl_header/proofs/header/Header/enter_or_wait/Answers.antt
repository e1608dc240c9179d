use Rattle.gl_header.proofs.Words.{◌∙◌, ◌≡◌, ap, asked_queue, enters, false, HeaderState, held_by, is_among_waiters, is_granted, IsLawful, members_of, refl}
use Rattle.gl_header.proofs.Words.{slot_limit, state_of, subst, supremum, sym, true, wanted}
use Rattle.gl_header.proofs.Lawful.{lawful}
use Rattle.gl_header.proofs.Asks.{lawful-by, lawful-granted, lawful-waiting, queue-waiting}
use Rattle.gl_header.proofs.header.Header.enter_or_wait.Goals as goal

-- granted at once

granted : (c : goal.After-hold) → IsLawful (held_by c.hold.new.self) c.self.inside.queue.items
granted c =
    let free : is_among_waiters c.args.slot c.self.inside.queue.items ≡ false
    = subst (λ (x : HeaderState). is_among_waiters c.args.slot x.queue ≡ false) (sym c.self.view_is) c.requires.may.not_waiting in
    let w : c.sup-wanted.result ≡ wanted (state_of c.self.inside) c.args.slot c.args.mode
    = subst (λ (x : HeaderState). c.sup-wanted.result ≡ wanted x c.args.slot c.args.mode) (sym c.self.view_is)
    (c.sup-wanted.ensures ∙ ap (λ x. supremum x c.args.mode) c.requires.held) in
    let g : is_granted (state_of c.self.inside) c.args.slot c.args.mode ≡ true
    = subst (λ (x : HeaderState). is_granted x c.args.slot c.args.mode ≡ true) (sym c.self.view_is)
    (sym (c.enters.ensures ∙ ap (λ m. enters slot_limit (members_of c.args.self.now) c.args.self.now.queue c.args.slot m)
    (c.sup-wanted.ensures ∙ ap (λ x. supremum x c.args.mode) c.requires.held)) ∙ c.if-enters.true) in
    lawful-granted (state_of c.self.inside) c.args.slot c.args.mode c.sup-wanted.result
    (held_by c.hold.new.self) c.self.invariant.lawful free c.requires.may.below g w c.hold.ensures.held

pub invariant_of-self : goal.invariant_of-self
invariant_of-self c = record { group = c.hold.ensures.group; lawful = granted c }

pub returns-then-enters-clause-lawful : goal.returns-then-enters-clause-lawful
returns-then-enters-clause-lawful c = lawful _ _ c.hold.ensures.group (granted c)

-- a wait

pub returns-in_err-enqueue-clause-lawful : goal.returns-in_err-enqueue-clause-lawful
returns-in_err-enqueue-clause-lawful c =
    lawful c.self.inside.granted _ c.self.invariant.group
    (lawful-by (held_by c.self.inside.granted)
    (held_by c.self.inside.granted) c.enqueue.new.queue.items c.self.inside.queue.items refl c.in_err-enqueue.ensures.err c.self.invariant.lawful)

pub invariant_of-self-2 : goal.invariant_of-self-2
invariant_of-self-2 c =
    let free : is_among_waiters c.args.slot c.self.inside.queue.items ≡ false
    = subst (λ (x : HeaderState). is_among_waiters c.args.slot x.queue ≡ false) (sym c.self.view_is) c.requires.may.not_waiting in
    let w : c.sup-wanted.result ≡ wanted (state_of c.self.inside) c.args.slot c.args.mode
    = subst (λ (x : HeaderState). c.sup-wanted.result ≡ wanted x c.args.slot c.args.mode) (sym c.self.view_is)
    (c.sup-wanted.ensures ∙ ap (λ x. supremum x c.args.mode) c.requires.held) in
    let g : is_granted (state_of c.self.inside) c.args.slot c.args.mode ≡ false
    = subst (λ (x : HeaderState). is_granted x c.args.slot c.args.mode ≡ false) (sym c.self.view_is)
    (sym (c.enters.ensures ∙ ap (λ m. enters slot_limit (members_of c.args.self.now) c.args.self.now.queue c.args.slot m)
    (c.sup-wanted.ensures ∙ ap (λ x. supremum x c.args.mode) c.requires.held)) ∙ c.if-enters.false) in
    record {
      group = c.self.invariant.group;
      lawful = lawful-waiting (state_of c.self.inside) c.args.slot c.args.mode c.sup-wanted.result c.enqueue.new.queue.items c.self.invariant.lawful
          free c.requires.may.below c.requires.may.lock g w c.in_ok-enqueue.ensures.ok;
    }

pub returns-clause-queue : goal.returns-clause-queue
returns-clause-queue c =
    let g : is_granted c.args.self.now c.args.slot c.args.mode ≡ false =
    sym (c.enters.ensures ∙ ap (λ m. enters slot_limit (members_of c.args.self.now) c.args.self.now.queue c.args.slot m)
    (c.sup-wanted.ensures ∙ ap (λ x. supremum x c.args.mode) c.requires.held)) ∙ c.if-enters.false in
    let w : c.sup-wanted.result ≡ wanted c.args.self.now c.args.slot c.args.mode =
    c.sup-wanted.ensures ∙ ap (λ x. supremum x c.args.mode) c.requires.held in
    subst (λ (x : HeaderState). is_granted x c.args.slot c.args.mode ≡ false → c.sup-wanted.result ≡ wanted x c.args.slot c.args.mode
    → c.enqueue.new.queue.items ≡ asked_queue x c.args.slot c.args.mode) c.self.view_is
    (λ k v. queue-waiting (state_of c.self.inside) c.args.slot c.args.mode c.sup-wanted.result c.enqueue.new.queue.items
    c.self.invariant.lawful.orderly k v c.in_ok-enqueue.ensures.ok) g w

pub returns-clause-lawful : goal.returns-clause-lawful
returns-clause-lawful c =
    let s = invariant_of-self-2 c in lawful _ _ s.group s.lawful
