use Rattle.gl_header.proofs.Words.{◌∙◌, ap, arith, Free, get_or_past, header_in, length, Place, slice_index_or, stands, sym}
use Rattle.gl_header.proofs.AtPlace.{entries_are, found_in, lawful-at}
use Rattle.gl_header.proofs.headers.Headers.seen.Goals as goal

pub returns-in-Some-clause-is : goal.returns-in-Some-clause-is
returns-in-Some-clause-is c =
    c.seen_in.ensures
    ∙ (ap (λ (p : Place). header_in c.args.node.birth (stands p))
    (c.in-Some.ensures.lookup.3.1 Free ∙ ap (λ xs. slice_index_or xs c.args.node.key Free) c.deref.ensures.value)
    ∙ sym (found_in c.self.inside.places.items c.self.invariant.places c.args.self.now.entries (entries_are c.self.view_is) c.args.node))

pub returns-in-Some-clause-lawful : goal.returns-in-Some-clause-lawful
returns-in-Some-clause-lawful c =
    lawful-at c.self.inside.places.items c.self.invariant.places c.args.self.now.entries (entries_are c.self.view_is) c.args.node

pub returns-in-None-clause-is : goal.returns-in-None-clause-is
returns-in-None-clause-is c =
    let l = c.in-None.ensures.lookup in
    sym (found_in c.self.inside.places.items c.self.invariant.places c.args.self.now.entries (entries_are c.self.view_is) c.args.node
    ∙ ap (λ (p : Place). header_in c.args.node.birth (stands p))
    (get_or_past c.self.inside.places.items c.args.node.key Free (omega (arith, l.3, ap length c.deref.ensures.value))))

pub returns-in-None-clause-lawful : goal.returns-in-None-clause-lawful
returns-in-None-clause-lawful c =
    lawful-at c.self.inside.places.items c.self.invariant.places c.args.self.now.entries (entries_are c.self.view_is) c.args.node
