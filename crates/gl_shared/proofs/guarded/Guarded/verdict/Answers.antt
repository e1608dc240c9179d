use Rattle.gl_shared.proofs.guarded.Guarded.verdict.Goals as goal

pub returns-clause-grant : goal.returns-clause-grant
returns-clause-grant g c = rw (← c.self.view_is) c.verdict.ensures.grant
