use Rattle.gl_header.proofs.Words.{◌∙◌, ap, arith, front, HeaderState, holds, is_among_waiters, members_of, NL, pumped_members, pumped_queue, slot_limit}
use Rattle.gl_header.proofs.Words.{with_mode}
use Rattle.gl_header.proofs.AtPlace.{entries_are, held_at, held_place, IsAt, write-held, write-places, write-queue}
use Rattle.gl_header.proofs.headers.Headers.drop_grant.Goals.{After-index_mut-place}
use Rattle.gl_header.proofs.headers.Headers.drop_grant.Goals as goal

-- the node has a header, which is at its place

pub index_mut-place-requires : goal.index_mut-place-requires
index_mut-place-requires c =
    let there = held_place c.self.inside.places.items c.self.invariant.places c.args.self.now.entries
    (entries_are c.self.view_is) c.args.node c.args.slot c.requires.holds in
    omega (arith, there)

here : (c : After-index_mut-place) → IsAt c.self.inside.places.items c.args.self.now.entries c.args.node c.index_mut-place.result.now
here c = held_at c.self.inside.places.items c.self.invariant.places c.args.self.now.entries
    (entries_are c.self.view_is) c.args.node c.args.slot c.requires.holds
    c.index_mut-place.result.now c.index_mut-place.ensures.value

pub drop_grant_at-requires-clause-place : goal.drop_grant_at-requires-clause-place
drop_grant_at-requires-clause-place c = (here (goal.at.drop_grant_at-requires-clause-place c).After-index_mut-place).place

pub drop_grant_at-requires-clause-holds : goal.drop_grant_at-requires-clause-holds
drop_grant_at-requires-clause-holds c = ap (λ (h : HeaderState). holds (members_of h) c.args.slot)
    (here (goal.at.drop_grant_at-requires-clause-holds c).After-index_mut-place).header ∙ c.requires.holds

pub drop_grant_at-requires-clause-not_waiting : goal.drop_grant_at-requires-clause-not_waiting
drop_grant_at-requires-clause-not_waiting c = ap (λ (h : HeaderState). is_among_waiters c.args.slot h.queue)
    (here (goal.at.drop_grant_at-requires-clause-not_waiting c).After-index_mut-place).header ∙ c.requires.not_waiting

-- the write there

pub invariant_of-self : goal.invariant_of-self
invariant_of-self c = let i = here (goal.at.invariant_of-self c).After-index_mut-place in record {
  places = write-places c.self.inside.places.items c.self.invariant.places c.args.self.now.entries (entries_are c.self.view_is) c.args.node i.within i.before
      c.drop_grant_at.new.place c.drop_grant_at.ensures.place.lawful (c.drop_grant_at.ensures.place.birth.kept c.args.node.birth i.own);
  spare = c.drop_grant_at.ensures.spare;
}

pub returns-clause-granted : goal.returns-clause-granted
returns-clause-granted c =
    c.drop_grant_at.ensures.granted ∙ ap (λ (h : HeaderState). front slot_limit (with_mode (members_of h) c.args.slot NL) h.queue)
    (here (goal.at.returns-clause-granted c).After-index_mut-place).header

pub returns-clause-held : goal.returns-clause-held
returns-clause-held c = let i = here (goal.at.returns-clause-held c).After-index_mut-place in
    write-held c.self.inside.places.items c.self.invariant.places c.args.self.now.entries (entries_are c.self.view_is) c.args.node i.within i.before
    c.drop_grant_at.new.place c.drop_grant_at.ensures.place.lawful (c.drop_grant_at.ensures.place.birth.kept c.args.node.birth i.own) _
    (c.drop_grant_at.ensures.pumped.members
    ∙ ap (λ (h : HeaderState). pumped_members slot_limit (with_mode (members_of h) c.args.slot NL) h.queue) i.header)

pub returns-clause-queue : goal.returns-clause-queue
returns-clause-queue c = let i = here (goal.at.returns-clause-queue c).After-index_mut-place in
    write-queue c.self.inside.places.items c.self.invariant.places c.args.self.now.entries (entries_are c.self.view_is) c.args.node i.within i.before
    c.drop_grant_at.new.place c.drop_grant_at.ensures.place.lawful (c.drop_grant_at.ensures.place.birth.kept c.args.node.birth i.own) _
    (c.drop_grant_at.ensures.pumped.queue
    ∙ ap (λ (h : HeaderState). pumped_queue slot_limit (with_mode (members_of h) c.args.slot NL) h.queue) i.header)
