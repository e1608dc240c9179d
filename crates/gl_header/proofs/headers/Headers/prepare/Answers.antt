use Rattle.gl_header.proofs.Words.{refl}
use Rattle.gl_header.proofs.Alone.{alone-lawful}
use Rattle.gl_header.proofs.headers.Headers.prepare.Goals as goal

pub invariant_of-result : goal.invariant_of-result
invariant_of-result c = record { lawful = alone-lawful c.args.slot c.args.mode c.requires.below c.requires.lock }

pub returns-clause-holder : goal.returns-clause-holder
returns-clause-holder c = record {
  lawful = alone-lawful c.args.slot c.args.mode c.requires.below c.requires.lock;
  members = refl;
  queue = refl;
}
