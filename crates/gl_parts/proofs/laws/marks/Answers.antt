use Rattle.gl_parts.proofs.Visiting.{clear_may_unmark, copied_may_mark, next_is_uncovered, own_is_uncovered}
use Rattle.gl_parts.proofs.laws.marks.Goals as goal

pub returns : goal.returns
returns c = record { next = next_is_uncovered; own = own_is_uncovered; copied = copied_may_mark; clear = clear_may_unmark }
