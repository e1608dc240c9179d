use Rattle.gl_header.proofs.Words.{◌∙◌, ◌≡◌, ap, arith, clash, Free, get_or_past, length, place_at, refl, slice_index_or, sym}
use Rattle.gl_header.proofs.AtPlace.{entries_are, free_key, free_standing, nothing-free}
use Rattle.gl_header.proofs.headers.Headers.is_free.Goals as goal

pub returns-in-Free : goal.returns-in-Free
returns-in-Free c =
    let at : place_at c.self.inside.places.items c.args.key ≡ c.in-Some.place.now
    = sym (c.in-Some.ensures.lookup.3.1 Free ∙ ap (λ xs. slice_index_or xs c.args.key Free) c.deref.ensures.value) in (
      λ t. free_key c.self.inside.places.items c.self.invariant.places c.args.self.now.entries (entries_are c.self.view_is)
          c.args.key (at ∙ c.in-Free.is),
      λ free. refl,
    )

pub returns-in_default : goal.returns-in_default
returns-in_default c =
    let at : place_at c.self.inside.places.items c.args.key ≡ c.in-Some.place.now
    = sym (c.in-Some.ensures.lookup.3.1 Free ∙ ap (λ xs. slice_index_or xs c.args.key Free) c.deref.ensures.value) in (
      λ t. clash t refl,
      λ free. absurd (c.in_default.not-Free (sym at ∙ nothing-free (place_at c.self.inside.places.items c.args.key)
          (free_standing c.self.inside.places.items c.self.invariant.places c.args.self.now.entries (entries_are c.self.view_is) c.args.key free))),
    )

pub returns-in-None : goal.returns-in-None
returns-in-None c = (
  λ t. free_key c.self.inside.places.items c.self.invariant.places c.args.self.now.entries (entries_are c.self.view_is) c.args.key
      (get_or_past c.self.inside.places.items c.args.key Free (omega (arith, c.in-None.ensures.lookup.3, ap length c.deref.ensures.value))),
  λ free. refl,
)
