use Rattle.gl_parts.proofs.Rests.{absent_are_uncovered, absent_have_none_marked, ends_beside_rest, rest_counts_from, unmarked_may_rest}
use Rattle.gl_parts.proofs.laws.resting.Goals as goal

pub returns : goal.returns
returns c = record {
  marked = absent_have_none_marked;
  uncovered = absent_are_uncovered;
  ends = ends_beside_rest;
  allowed = unmarked_may_rest;
  since = rest_counts_from;
}
