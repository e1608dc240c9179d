-- A row's lock, by its outcome: what it does.
use Rattle.std.specs.Prelude.{◌≡◌, Result, Ok, Err}
use Rattle.std.proofs.Common.{refl, sym, subst}
use Rattle.gl_model.specs.Tellings.{Told}
use Rattle.gl_rows.specs.declared.answer.RowAnswer.{RowAnswer}
use Rattle.gl_rows.specs.declared.answer.RowLocked.{RowLocked}
use Rattle.gl_rows.specs.declared.answer.RowRefusal.{RowRefusal}
use Rattle.gl_rows.specs.declared.answer.RowRefusal.TheVariants as row_no
use Rattle.gl_rows.specs.Answers.{lock_said}
use Rattle.gl_rows.specs.Applying.{AppliesCall, CarriesOut, answer_in, own_command}
use Rattle.gl_rows.specs.Locking.{LocksRow, Wish}
use Rattle.gl_waiting.specs.Delivering.{DeliveryView, registry_in}
use Rattle.gl_waiting.specs.RowLocks.{IsRowLockAnswer, LocksRowAs, row_lock}

-- two outcomes with one answer are one
pub lock_said_once : (a b : Result RowLocked RowRefusal) → lock_said a ≡ lock_said b → a ≡ b
lock_said_once (Ok x) (Ok y) e = cc e
lock_said_once (Ok x) (Err (row_no.Refused q)) e = absurd (cc e)
lock_said_once (Ok x) (Err row_no.NotRows) e = absurd (cc e)
lock_said_once (Err (row_no.Refused r)) (Ok y) e = absurd (cc e)
lock_said_once (Err (row_no.Refused r)) (Err (row_no.Refused q)) e = cc e
lock_said_once (Err (row_no.Refused r)) (Err row_no.NotRows) e = absurd (cc e)
lock_said_once (Err row_no.NotRows) (Ok y) e = absurd (cc e)
lock_said_once (Err row_no.NotRows) (Err (row_no.Refused q)) e = absurd (cc e)
lock_said_once (Err row_no.NotRows) (Err row_no.NotRows) e = refl

-- what a row's lock does, by its outcome
pub locks_row : (d d' : DeliveryView) (w : Wish) (result : Result RowLocked RowRefusal) (told : Told) → LocksRowAs d w result told d'
    → LocksRow d.manager d.rows w result told d'.manager d'.rows
locks_row d d' w result told h =
    subst (λ (r : Result RowLocked RowRefusal). LocksRow d.manager d.rows w r told d'.manager d'.rows)
    (lock_said_once h.applies.result result (sym h.applies.answered)) h.applies.was_done

-- a row's lock, by its answer
pub row_answered : (d d' : DeliveryView) (w : Wish) (a : RowAnswer) (told : Told) → AppliesCall (registry_in d) (row_lock w) a told (registry_in d')
    → IsRowLockAnswer a
row_answered d d' w a told h = (h.result, sym h.answered)

pub locks_as : (d d' : DeliveryView) (w : Wish) (a : RowAnswer) (result : Result RowLocked RowRefusal) (told : Told) → lock_said result ≡ a
    → AppliesCall (registry_in d) (row_lock w) a told (registry_in d')
    → CarriesOut d.manager (own_command d'.rows (row_lock w)) (answer_in a) told d'.manager → LocksRowAs d w result told d'
locks_as d d' w a result told is applies own =
    record {
      applies = subst (λ (x : RowAnswer). AppliesCall (registry_in d) (row_lock w) x told (registry_in d')) (sym is) applies;
      own = subst (λ (x : RowAnswer). CarriesOut d.manager (own_command d'.rows (row_lock w)) (answer_in x) told d'.manager) (sym is) own;
    }
