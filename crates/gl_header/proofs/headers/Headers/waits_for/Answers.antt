use Rattle.gl_header.proofs.Words.{sym}
use Rattle.gl_header.proofs.Alone.{alone-below}
use Rattle.gl_header.proofs.headers.Headers.waits_for.Goals as goal

pub only-requires : goal.only-requires
only-requires c = alone-below _ _ (c.in-One.ensures.lawful _ (sym c.in-One.ensures.is))
