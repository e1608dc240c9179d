use Rattle.gl_window.proofs.Words.{None, refl, rules, Some}
use Rattle.gl_window.proofs.SeatSteps.{enters}
use Rattle.gl_window.proofs.seats.Seats.find.Goals as goal

pub load_new_seat-seats-requires : goal.load_new_seat-seats-requires
load_new_seat-seats-requires c = (search rules, enters _ (λ r. record { has = None; tried = 0; found = Some r }) (λ r. refl))
