use Rattle.std.specs.Prelude.{◌≡◌, All, vec_len}
use Rattle.gl_shared.proofs.shared.watch_all.Given as goal

abbrev pub invariant-loop-i : goal.invariant-loop-i
invariant-loop-i g l =
    ((l.writer.desk.place.me.0.client ≡ l.fn.writer.desk.place.me.0.client) × (l.writer.desk.shown ≡ l.fn.writer.desk.shown)
    × (l.writer.log ≡ l.fn.writer.log) × (l.writer.behind ≡ l.fn.writer.behind))
    × (vec_len l.watchers ≡ l._i)
    × All (λ w. w ≡ l.fn.line.list) l.watchers.items
