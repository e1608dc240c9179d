use Rattle.std.specs.Prelude.{◌≡◌}
use Rattle.gl_shared.proofs.session.Session.note.Given as goal

abbrev pub invariant-loop : goal.invariant-loop
invariant-loop g l = (l.self.last_epoch ≡ l.initial.self.last_epoch) × (l.self.share ≡ l.initial.self.share) × (l.self.served_at ≡ l.initial.self.served_at)
