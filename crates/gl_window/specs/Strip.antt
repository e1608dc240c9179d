-- A prefix of a published list.
use Rattle.std.specs.Prelude.{List}
use Rattle.gl_model.specs.declared.answers.Detect.{Detect}
use Rattle.logbook.specs.Pages.{Book}
use Rattle.gl_waits.specs.declared.board.Board.{Board}

-- the list, its book and the detection setting
pub record Strip : Type 0 where
  pub list : List Board
  pub book : Book
  pub detect : Detect
