use Rattle.gl_header.proofs.Words.{◌≡◌, false, HeaderState, held_by, holds, is_among_waiters, IsLawful, IsOrderly, members_of, NL, pumped_members, pumped_queue}
use Rattle.gl_header.proofs.Words.{refl, slot_limit, subst, sym, true, with_mode}
use Rattle.gl_header.proofs.Orderly.{member-below, orderly-member_gone}
use Rattle.gl_header.proofs.Pumped.{lawful-pumped}
use Rattle.gl_header.proofs.Lawful.{lawful}
use Rattle.gl_header.proofs.Asks.{lawful-by, orderly-by}
use Rattle.gl_header.proofs.header.Header.drop_grant.Goals as goal

orderly : (c : goal.After-pump) → IsOrderly (held_by c.release.new.self) c.self.inside.queue.items
orderly c =
    let free : is_among_waiters c.args.slot c.self.inside.queue.items ≡ false
    = subst (λ (x : HeaderState). is_among_waiters c.args.slot x.queue ≡ false) (sym c.self.view_is) c.requires.not_waiting in
    let held : holds (held_by c.self.inside.granted) c.args.slot ≡ true
    = subst (λ (x : HeaderState). holds (members_of x) c.args.slot ≡ true) (sym c.self.view_is) c.requires.holds in
    let o = c.self.invariant.lawful.orderly in
    orderly-by (held_by c.release.new.self)
    (with_mode (held_by c.self.inside.granted) c.args.slot NL) c.self.inside.queue.items c.self.inside.queue.items c.release.ensures.held refl
    (orderly-member_gone (held_by c.self.inside.granted) c.self.inside.queue.items c.args.slot o free
    (member-below (held_by c.self.inside.granted) c.args.slot o.within held))

pub pump-requires-clause-orderly : goal.pump-requires-clause-orderly
pump-requires-clause-orderly c =
    let free : is_among_waiters c.args.slot c.self.inside.queue.items ≡ false
    = subst (λ (x : HeaderState). is_among_waiters c.args.slot x.queue ≡ false) (sym c.self.view_is) c.requires.not_waiting in
    let held : holds (held_by c.self.inside.granted) c.args.slot ≡ true
    = subst (λ (x : HeaderState). holds (members_of x) c.args.slot ≡ true) (sym c.self.view_is) c.requires.holds in
    let o = c.self.invariant.lawful.orderly in
    orderly-by (held_by c.release.new.self)
    (with_mode (held_by c.self.inside.granted) c.args.slot NL) c.self.inside.queue.items c.self.inside.queue.items c.release.ensures.held refl
    (orderly-member_gone (held_by c.self.inside.granted) c.self.inside.queue.items c.args.slot o free
    (member-below (held_by c.self.inside.granted) c.args.slot o.within held))

after : (c : goal.After-pump) → IsLawful (held_by c.pump.new.group) c.pump.new.queue.items
after c =
    lawful-by (held_by c.pump.new.group) (pumped_members slot_limit (held_by c.release.new.self) c.self.inside.queue.items) c.pump.new.queue.items
    (pumped_queue slot_limit (held_by c.release.new.self) c.self.inside.queue.items) c.pump.ensures.members c.pump.ensures.queue
    (lawful-pumped (held_by c.release.new.self) c.self.inside.queue.items (orderly c))

pub invariant_of-self : goal.invariant_of-self
invariant_of-self c = record { group = c.pump.ensures.group; lawful = after c }

pub returns-clause-lawful : goal.returns-clause-lawful
returns-clause-lawful c = lawful _ _ c.pump.ensures.group (after c)
