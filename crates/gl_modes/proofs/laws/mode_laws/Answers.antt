use Rattle.gl_modes.proofs.ModeLemmas.{
  at_least-antisymmetric,
  at_least-refl,
  at_least-transitive,
  compatible-symmetric,
  supremum-least,
  supremum-tested,
}
use Rattle.gl_modes.proofs.Spellings.{mode_text-injective}
use Rattle.gl_modes.proofs.laws.mode_laws.Goals as goal

pub returns : goal.returns
returns c = record {
  symmetric = compatible-symmetric;
  ordered = record { reflexive = at_least-refl; transitive = at_least-transitive; antisymmetric = at_least-antisymmetric };
  least = supremum-least;
  tested = supremum-tested;
  spelt = mode_text-injective;
}
