use Rattle.gl_header.proofs.Words.{◌<◌, ap, arith, HeadersState, HeaderState, Held, held_by_one, IsOf, IsPlace, length, members_of, refl}
use Rattle.gl_header.proofs.Alone.{alone-below, alone-lock, alone-used}
use Rattle.gl_header.proofs.AtPlace.{entries_are, free-own, of-is, place-is, write-held, write-places, write-queue}
use Rattle.gl_header.proofs.headers.Headers.put.Goals as goal

-- the place of one holder, at a key that is free
module _ (c : goal.Joined-index_mut) where
  is : IsPlace (Held c.prepared.inside.slot c.prepared.inside.mode c.args.node.birth)
  is = let l = c.prepared.invariant.lawful in
      place-is _ c.args.node.birth (held_by_one c.prepared.inside.slot c.prepared.inside.mode) refl l
      (alone-used c.prepared.inside.slot c.prepared.inside.mode (alone-below _ _ l) (alone-lock _ _ l))

  own : IsOf c.args.node.birth (Held c.prepared.inside.slot c.prepared.inside.mode c.args.node.birth)
  own = of-is _ c.args.node.birth (held_by_one c.prepared.inside.slot c.prepared.inside.mode) refl

  room : c.args.node.key < length c.self.inside.places.items
  room = let r = ap (λ (v : HeadersState). v.room) c.self.view_is in let l = c.requires.room in omega arith

pub invariant_of-self : goal.invariant_of-self
invariant_of-self c = record {
  places = write-places c.self.inside.places.items c.self.invariant.places c.args.self.now.entries (entries_are c.self.view_is) c.args.node (room c)
      (free-own c.self.inside.places.items c.self.invariant.places c.args.self.now.entries (entries_are c.self.view_is) c.args.node.key c.args.node.birth
      c.requires.free) _ (is c) (own c);
  spare = c.self.invariant.spare;
}

pub returns-clause-held : goal.returns-clause-held
returns-clause-held c =
    write-held c.self.inside.places.items c.self.invariant.places c.args.self.now.entries (entries_are c.self.view_is) c.args.node (room c)
    (free-own c.self.inside.places.items c.self.invariant.places c.args.self.now.entries (entries_are c.self.view_is) c.args.node.key c.args.node.birth
    c.requires.free) _ (is c) (own c) (members_of c.args.prepared) (ap members_of c.prepared.view_is)

pub returns-clause-queue : goal.returns-clause-queue
returns-clause-queue c =
    write-queue c.self.inside.places.items c.self.invariant.places c.args.self.now.entries (entries_are c.self.view_is) c.args.node (room c)
    (free-own c.self.inside.places.items c.self.invariant.places c.args.self.now.entries (entries_are c.self.view_is) c.args.node.key c.args.node.birth
    c.requires.free) _ (is c) (own c) c.args.prepared.queue (ap (λ (h : HeaderState). h.queue) c.prepared.view_is)
