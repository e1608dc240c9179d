use Rattle.gl_interpreter.proofs.Words.{[], ◌≢◌, arith, command_of, inl, inr, length, List, other_test, refl, same_test, script_of, ℕ}
use Rattle.std.specs.Prelude.{slice_index}
use Rattle.gl_script.specs.Views.{listing_of}
use Rattle.gl_interpreter.specs.Printed.{printed}
use Rattle.gl_interpreter.specs.Report.{bad_line, IsSilent}
use Rattle.gl_interpreter.specs.SoFar.{CarriesOut, IsShown, Obeys}
use Rattle.gl_interpreter.proofs.Writing.{Hands-none}
use Rattle.gl_interpreter.proofs.interpreter.Interpreter.carry_out.Goals.{then-is_empty-via-else-is_empty+then-line-eq35, then-is_empty-via-then-is_empty}
use Rattle.gl_interpreter.proofs.interpreter.Interpreter.carry_out.Goals as goal

-- a line has an answer if it is neither empty nor a comment
not_silent : (line : List ℕ) → length line ≢ 0 → slice_index line 0 ≢ 35 → ¬ (IsSilent line)
not_silent line some other (inl e) = some e
not_silent line some other (inr e) = other e

pub returns-then-line-gt-LONGEST : goal.returns-then-line-gt-LONGEST
unfolding CarriesOut
returns-then-line-gt-LONGEST g c = (bad_line, inl (c.if-line-gt-LONGEST.true, refl, refl), refl, c.put.ensures)

pub returns-then-is_empty : goal.returns-then-is_empty
unfolding CarriesOut
returns-then-is_empty g c =
    let silent : IsSilent c.args.line.now =
    elim c.then-is_empty.branch [
      | then-is_empty-via-then-is_empty w ↦ inl (same_test _ _ _ c.is_empty.ensures w.if-is_empty.true)
      | then-is_empty-via-else-is_empty+then-line-eq35 w ↦ inr w.if-line-eq35.true
    ] in
    ([], inr (inl (omega (arith, c.if-line-gt-LONGEST.false), silent, refl, refl)), refl, Hands-none _ _)

pub returns-in-None : goal.returns-in-None
unfolding CarriesOut
returns-in-None g c =
    let speaks = not_silent c.args.line.now (other_test _ _ _ c.is_empty.ensures c.if-is_empty.false) c.if-line-eq35.false in (
      bad_line,
      inr (inr (inl (omega (arith, c.if-line-gt-LONGEST.false), speaks, rw c.in-None.is at c.parse.ensures.none, refl, refl))),
      refl,
      c.put-in-None.ensures,
    )

pub returns-in-Order : goal.returns-in-Order
unfolding CarriesOut Obeys
returns-in-Order g c =
    let speaks = not_silent c.args.line.now (other_test _ _ _ c.is_empty.ensures c.if-is_empty.false) c.if-line-eq35.false in
    let done = c.obey.ensures in (
      printed (script_of c.obey.new.self.desk) (command_of c.in-Order.form c.parse.new.lists) done.0 done.1,
      inr (inr (inr (inr (
        omega (arith, c.if-line-gt-LONGEST.false),
        speaks,
        record {
          command = command_of c.in-Order.form c.parse.new.lists;
          says = rw (c.in-Some.is, c.in-Order.is) at c.parse.ensures.says;
          said = done.0;
          told = done.1;
          does = done.2;
          text_is = refl;
        },
      )))),
      done.3,
      done.4,
    )

pub returns-in-List : goal.returns-in-List
unfolding CarriesOut IsShown
returns-in-List g c =
    let speaks = not_silent c.args.line.now (other_test _ _ _ c.is_empty.ensures c.if-is_empty.false) c.if-line-eq35.false in
    let done = c.put_listing.ensures in (
      done.0,
      inr (inr (inr (inl (
        omega (arith, c.if-line-gt-LONGEST.false),
        speaks,
        record {
          listing = listing_of c.in-List.listing;
          says = rw (c.in-Some.is, c.in-List.is) at c.parse.ensures.says;
          shows = done.1;
          same = refl;
        },
      )))),
      refl,
      done.2,
    )
