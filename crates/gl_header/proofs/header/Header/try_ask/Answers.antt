use Rattle.gl_header.proofs.Words.{◌∙◌, ◌≡◌, ap, arith, enters, false, HeaderState, held_by, is_among_waiters, is_granted, IsLawful, IsLawfulHeader, members_of}
use Rattle.gl_header.proofs.Words.{slot_limit, state_of, subst, supremum, sym, true, wanted}
use Rattle.gl_header.proofs.Lawful.{lawful}
use Rattle.gl_header.proofs.Asks.{lawful-granted}
use Rattle.gl_header.proofs.header.Header.try_ask.Goals as goal

granted : (c : goal.After-hold) → IsLawful (held_by c.hold.new.self) c.self.inside.queue.items
granted c =
    let free : is_among_waiters c.args.slot c.self.inside.queue.items ≡ false
    = subst (λ (x : HeaderState). is_among_waiters c.args.slot x.queue ≡ false) (sym c.self.view_is) c.requires.may.not_waiting in
    let w : c.sup-wanted.result ≡ wanted (state_of c.self.inside) c.args.slot c.args.mode
    = subst (λ (x : HeaderState). c.sup-wanted.result ≡ wanted x c.args.slot c.args.mode) (sym c.self.view_is)
    (c.sup-wanted.ensures ∙ ap (λ x. supremum x c.args.mode) c.mode_of-held.ensures) in
    let g : is_granted (state_of c.self.inside) c.args.slot c.args.mode ≡ true
    = subst (λ (x : HeaderState). is_granted x c.args.slot c.args.mode ≡ true) (sym c.self.view_is)
    (sym (c.enters.ensures ∙ ap (λ m. enters slot_limit (members_of c.args.self.now) c.args.self.now.queue c.args.slot m)
    (c.sup-wanted.ensures ∙ ap (λ x. supremum x c.args.mode) c.mode_of-held.ensures)) ∙ grind arith) in
    lawful-granted (state_of c.self.inside) c.args.slot c.args.mode c.sup-wanted.result
    (held_by c.hold.new.self) c.self.invariant.lawful free c.requires.may.below g w c.hold.ensures.held

pub returns-then-not-enters-clause-lawful : goal.returns-then-not-enters-clause-lawful
returns-then-not-enters-clause-lawful c =
    subst (λ (x : HeaderState). IsLawfulHeader x) c.self.view_is
    (lawful c.self.inside.granted c.self.inside.queue.items c.self.invariant.group c.self.invariant.lawful)

pub invariant_of-self : goal.invariant_of-self
invariant_of-self c = record { group = c.hold.ensures.group; lawful = granted c }

pub returns-clause-lawful : goal.returns-clause-lawful
returns-clause-lawful c = lawful _ _ c.hold.ensures.group (granted c)
