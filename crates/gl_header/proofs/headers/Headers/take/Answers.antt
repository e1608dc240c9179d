use Rattle.gl_header.proofs.Words.{[], ◌∙◌, ◌≡◌, ap, ArePlaces, arith, entries_in, header_at, header_of, header_or_new, HeaderState, held_of, NL, queue_of}
use Rattle.gl_header.proofs.Words.{refl, Shared, slice_set, Some, stands, subst, sym}
use Rattle.std.specs.Prelude.{IfNone, IfSome}
use Rattle.gl_header.proofs.AtPlace.{entries_are, free-of, free-place, has_header_at, has_place, is_at, IsAt, no_box-no_queue, write-held, write-places}
use Rattle.gl_header.proofs.AtPlace.{write-queue}
use Rattle.gl_header.proofs.Unused.{unused-nobody}
use Rattle.gl_header.proofs.headers.Headers.take.Goals.{in-Shared, in_default}
use Rattle.gl_header.proofs.headers.Headers.take.Goals as goal

-- the node has a header, which is at its place

pub index_mut-requires : goal.index_mut-requires
index_mut-requires c =
    let has = has_header_at (header_at c.args.self.now.entries c.args.node) (sym c.is_idle.ensures ∙ c.if-is_idle.false) in
    let there = has_place c.self.inside.places.items c.self.invariant.places c.args.self.now.entries (entries_are c.self.view_is) c.args.node has.0 has.1 in
    omega (arith, there)

module _ (c : goal.Joined-replace) where
  has : (h : HeaderState) × (header_at c.args.self.now.entries c.args.node ≡ Some h)
  has = has_header_at (header_at c.args.self.now.entries c.args.node) (sym c.is_idle.ensures ∙ c.if-is_idle.false)

  here : IsAt c.self.inside.places.items c.args.self.now.entries c.args.node c.index_mut.result.now
  here = is_at c.self.inside.places.items c.self.invariant.places c.args.self.now.entries (entries_are c.self.view_is) c.args.node has.0 has.1
      c.index_mut.result.now c.index_mut.ensures.value

pub invariant_of-self : goal.invariant_of-self
invariant_of-self c = record {
  places = subst (λ x. ArePlaces (slice_set c.self.inside.places.items c.args.node.key x)) (sym c.replace.ensures.after)
      (write-places c.self.inside.places.items c.self.invariant.places c.args.self.now.entries (entries_are c.self.view_is) c.args.node (here c).within
      (here c).before _ free-place (free-of c.args.node.birth));
  spare = c.self.invariant.spare;
}

pub returns-clause-held : goal.returns-clause-held
returns-clause-held c =
    ap (λ x. held_of (entries_in (slice_set c.self.inside.places.items c.args.node.key x))) c.replace.ensures.after
    ∙ write-held c.self.inside.places.items c.self.invariant.places c.args.self.now.entries (entries_are c.self.view_is) c.args.node (here c).within
    (here c).before _ free-place (free-of c.args.node.birth) (λ _. NL) unused-nobody

pub returns-clause-queue : goal.returns-clause-queue
returns-clause-queue c =
    ap (λ x. queue_of (entries_in (slice_set c.self.inside.places.items c.args.node.key x))) c.replace.ensures.after
    ∙ write-queue c.self.inside.places.items c.self.invariant.places c.args.self.now.entries (entries_are c.self.view_is) c.args.node (here c).within
    (here c).before _ free-place (free-of c.args.node.birth) [] refl

pub returns-clause-taken : goal.returns-clause-taken
returns-clause-taken c = elim c.match-replace.branch [
  | in-Shared w ↦ subst (λ o. IfSome o (λ h. header_at c.args.self.now.entries c.args.node ≡ Some h)) (sym w.result-is)
      ((has c).1 ∙ ap Some (ap header_or_new (sym (has c).1)
      ∙ (sym (here c).header ∙ (ap (λ p. header_of (stands p)) (sym c.replace.ensures.value ∙ w.in-Shared.is)
      ∙ ap (λ (x : Shared). x.header) (sym w.into_inner.ensures)))))
  | in_default w ↦ subst (λ o. IfSome o (λ h. header_at c.args.self.now.entries c.args.node ≡ Some h)) (sym w.result-is) tt
]

pub returns-clause-none : goal.returns-clause-none
returns-clause-none c = elim c.match-replace.branch [
  | in-Shared w ↦ subst (λ o. IfNone o (queue_of c.args.self.now.entries c.args.node ≡ [])) (sym w.result-is) tt
  | in_default w ↦ subst (λ o. IfNone o (queue_of c.args.self.now.entries c.args.node ≡ [])) (sym w.result-is)
      (ap (λ (h : HeaderState). h.queue) (sym (here c).header)
      ∙ no_box-no_queue c.index_mut.result.now (λ x e. w.in_default.not-Shared x (c.replace.ensures.value ∙ e)))
]
