use Rattle.gl_window.proofs.Words.{arith, rules}
use Rattle.gl_window.proofs.SeatSteps.{leaves}
use Rattle.gl_window.proofs.seats.Seats.leave.Goals as goal

pub fetch_xor-requires : goal.fetch_xor-requires
fetch_xor-requires c =
    let below = c.args.chair.below in
    (search rules, search rules, leaves _ _ c.args.chair.number _ (omega (arith, below)) c.args.chair.has)
