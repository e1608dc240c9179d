use Rattle.gl_header.proofs.Words.{HeaderState, IsLawfulHeader, subst}
use Rattle.gl_header.proofs.Lawful.{lawful}
use Rattle.gl_header.proofs.header.Header.law.Goals as goal

pub returns : goal.returns
returns c = record {
  lawful = subst (λ (x : HeaderState). IsLawfulHeader x) c.self.view_is
      (lawful c.self.inside.granted c.self.inside.queue.items c.self.invariant.group c.self.invariant.lawful);
}
