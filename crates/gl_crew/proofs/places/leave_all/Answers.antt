use Rattle.std.proofs.Common.{rules, subst, ◌≡◌, All, Some, is_some, true, ◌∷◌}
use Rattle.std.proofs.lemmas.List.Elements.{All-tail}
use Rattle.gl_crew.proofs.Taken.{listed_more, taken_more}
use Rattle.gl_crew.specs.declared.places.Place.{Place}
use Rattle.gl_crew.proofs.places.leave_all.Goals as goal

pub loop-place-preserved : goal.loop-place-preserved
loop-place-preserved g c =
    let P : Place g.row.N.Denot → Type 0 = λ s. is_some s.share ≡ true in
    let inv = c.loop-place.invariant in
    let all : All P (c.in-Some.place ∷ c.next.new.self.rest.items) = subst (All P) c.in-Some.ensures.steps.0 inv.left in
    record {
      left = All-tail P c.in-Some.place c.next.new.self.rest.items all;
      shares = taken_more (λ n. Some n)
          (λ s. s.share) c.loop-place.back.shares.items c.push_reserved.new.self.items c.loop-place.yielded c.in-Some-share.share c.in-Some.place
          c.push_reserved.ensures.items c.in-Some-share.is inv.shares;
      faults = listed_more (λ s. s.fault) c.loop-place.back.faults.items c.push_reserved-in-loop-place.new.self.items c.loop-place.yielded
          c.in-Some.place c.push_reserved-in-loop-place.ensures.items inv.faults;
      fits = search rules;
      room = search rules;
    }
