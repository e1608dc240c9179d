use Rattle.gl_header.proofs.Words.{◌∙◌, ap, arith, entries_in, place_at}
use Rattle.std.proofs.Common.{rules}
use Rattle.gl_header.proofs.ByKey.{grown-entries, grown-place}
use Rattle.gl_header.proofs.places.add_places.Goals as goal

pub returns-clause-kept : goal.returns-clause-kept
returns-clause-kept c = λ k.
    grown-place _ (λ f x g h. search rules) c.reserve.new.self.items c.resize_with.new.self.items c.capacity.result (omega arith) _
    c.in_ok-resize_with.ensures.items k ∙ ap (λ ps. place_at ps k) c.reserve.ensures.items

pub returns-clause-entries : goal.returns-clause-entries
returns-clause-entries c =
    grown-entries _ (λ f x g h. search rules) c.reserve.new.self.items c.resize_with.new.self.items c.capacity.result (omega arith) _
    c.in_ok-resize_with.ensures.items ∙ ap entries_in c.reserve.ensures.items
