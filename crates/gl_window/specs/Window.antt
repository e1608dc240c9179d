-- What a window shows.
use Rattle.std.specs.Prelude.{◌≡◌}
use mathlib.Core.List.{IsPrefix}
use Rattle.gl_window.specs.Strip.{Strip}

-- a list of the same book and detection setting, of which the first is a prefix
pub record GoesOn (first list : Strip) : Type 0 where
  pub book : list.book ≡ first.book
  pub detect : list.detect ≡ first.detect
  pub begins : IsPrefix first.list list.list
