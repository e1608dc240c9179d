use Rattle.std.proofs.Common.{refl, ◌≡◌, true, false}
use Rattle.gl_slots.specs.Slots.{has_bit}
use Rattle.gl_waits.specs.Boards.{board_edge}
use Rattle.gl_waits.specs.Waits.{IsOnCycle}
use Rattle.gl_crew.proofs.lookout.youngest_suspect.Goals as goal

pub returns-in_err-at-clause-none : goal.returns-in_err-at-clause-none
returns-in_err-at-clause-none c = (
  (λ _ s v on.
      let member : has_bit c.suspects.result s ≡ true = (c.suspects.ensures s).1 (v, on) in
      let empty : has_bit c.suspects.result s ≡ false = c.in_err-at.ensures.none.0 refl s in absurd (cc)),
  λ _. rw c.from_residual.ensures refl,
)

pub returns-clause-none : goal.returns-clause-none
returns-clause-none c = (
  (λ bad s v on. absurd (cc)),
  λ calm.
      let member : has_bit c.suspects.result c.in_ok-at.at ≡ true = c.in_ok-at.ensures.some.youngest.is_member in
      let on : IsOnCycle (board_edge c.args.board.now) c.in_ok-at.at = (c.suspects.ensures c.in_ok-at.at).0 member in
      absurd (calm c.in_ok-at.at on.0 on.1),
)
