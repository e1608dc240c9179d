use Rattle.std.specs.Prelude.{◌≡◌, List, [], ◌∷◌, length, true}
use Rattle.std.specs.List.{list_all}
use Rattle.std.proofs.Common.{refl}
use Rattle.gl_header.specs.Header.{Waiter}
use Rattle.gl_catalog.specs.Manager.{state_of}
use Rattle.gl_catalog.proofs.Counts.{no_waiters}
use Rattle.gl_parts.specs.Whole.{is_intention}
use Rattle.gl_parts.proofs.visits.awaits_intentions.Goals as goal

pub returns-in-Err : goal.returns-in-Err
returns-in-Err c =
    let s = state_of c.args.manager.now in
    none (s.queue c.args.node) (no_waiters _ s c.args.node _ c.law.ensures.lawful c.in-Err.ensures.refused)
  where
    none : (q : List Waiter) → length q ≡ 0 → true ≡ list_all (λ w. is_intention w.1) q
    none [] e = refl
    none (w ∷ q) e = cc
