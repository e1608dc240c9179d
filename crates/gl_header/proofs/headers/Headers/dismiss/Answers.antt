use Rattle.gl_header.proofs.Words.{◌∙◌, ap, arith, front, HeaderState, held_of, is_among_waiters, members_by, members_of, refl, slot_limit, without_waiter}
use Rattle.gl_header.proofs.AtPlace.{awaited_at, awaited_place, entries_are, IsAt, write-held, write-places, write-queue}
use Rattle.gl_header.proofs.Changed.{with_members-same}
use Rattle.gl_header.proofs.headers.Headers.dismiss.Goals.{After-index_mut}
use Rattle.gl_header.proofs.headers.Headers.dismiss.Goals as goal

-- the node has a header, which is at its place

pub index_mut-requires : goal.index_mut-requires
index_mut-requires c =
    let there = awaited_place c.self.inside.places.items c.self.invariant.places c.args.self.now.entries
    (entries_are c.self.view_is) c.args.node c.args.slot c.requires.waits in
    omega (arith, there)

here : (c : After-index_mut) → IsAt c.self.inside.places.items c.args.self.now.entries c.args.node c.index_mut.result.now
here c = awaited_at c.self.inside.places.items c.self.invariant.places c.args.self.now.entries
    (entries_are c.self.view_is) c.args.node c.args.slot c.requires.waits
    c.index_mut.result.now c.index_mut.ensures.value

pub dismiss_at-requires-clause-waits : goal.dismiss_at-requires-clause-waits
dismiss_at-requires-clause-waits c = ap (λ (h : HeaderState). is_among_waiters c.args.slot h.queue)
    (here (goal.at.dismiss_at-requires-clause-waits c).After-index_mut).header ∙ c.requires.waits

pub dismiss_at-requires-clause-front_waits : goal.dismiss_at-requires-clause-front_waits
dismiss_at-requires-clause-front_waits c = ap (λ (h : HeaderState). front slot_limit (members_of h) (without_waiter c.args.slot h.queue))
    (here (goal.at.dismiss_at-requires-clause-front_waits c).After-index_mut).header ∙ c.requires.front_waits

-- the write there

pub invariant_of-self : goal.invariant_of-self
invariant_of-self c = let i = here (goal.at.invariant_of-self c).After-index_mut in record {
  places = write-places c.self.inside.places.items c.self.invariant.places c.args.self.now.entries (entries_are c.self.view_is) c.args.node i.within i.before
      c.dismiss_at.new.place c.dismiss_at.ensures.place.lawful (c.dismiss_at.ensures.place.birth.kept c.args.node.birth i.own);
  spare = c.dismiss_at.ensures.spare;
}

pub returns-clause-held : goal.returns-clause-held
returns-clause-held c = let i = here (goal.at.returns-clause-held c).After-index_mut in
    write-held c.self.inside.places.items c.self.invariant.places c.args.self.now.entries (entries_are c.self.view_is) c.args.node i.within i.before
    c.dismiss_at.new.place c.dismiss_at.ensures.place.lawful (c.dismiss_at.ensures.place.birth.kept c.args.node.birth i.own)
    (members_by c.dismiss_at.new.place) refl
    ∙ with_members-same (held_of c.args.self.now.entries) c.args.node _
    (λ u. ap (λ g. g u) c.dismiss_at.ensures.members ∙ ap (λ (h : HeaderState). members_of h u) i.header)

pub returns-clause-queue : goal.returns-clause-queue
returns-clause-queue c = let i = here (goal.at.returns-clause-queue c).After-index_mut in
    write-queue c.self.inside.places.items c.self.invariant.places c.args.self.now.entries (entries_are c.self.view_is) c.args.node i.within i.before
    c.dismiss_at.new.place c.dismiss_at.ensures.place.lawful (c.dismiss_at.ensures.place.birth.kept c.args.node.birth i.own) _
    (c.dismiss_at.ensures.queue ∙ ap (λ (h : HeaderState). without_waiter c.args.slot h.queue) i.header)
