-- A call about rows: what is known of the waits after it. For Guarded.serve_row.
use Rattle.gl_slots.specs.declared.slots.Slots.{Slots}
use Rattle.gl_slots.specs.Limit.{most_slots}
use Rattle.std.specs.Prelude.{◌≡◌, ◌<◌, ◌≤◌, ◌&&◌, ℕ, not, false}
use Rattle.std.specs.Prelude.{Option, Some, None, if◌then◌else◌}
use Rattle.std.proofs.Common.{refl, sym, ap, subst, ◌∙◌, inl, inr, arith}
use Rattle.std.proofs.Math.Path.{fun_ext}
use Rattle.std.proofs.lemmas.Option.{none-some, same_Some}
use mathlib.Core.Bool.{true≢false}
use Rattle.gl_slots.specs.Slots.{has_none}
use Rattle.gl_model.specs.State.{State, is_wait, status_of}
use Rattle.gl_model.specs.Tellings.{Told}
use Rattle.gl_steps.specs.declared.command.Answer.{Answer}
use Rattle.gl_steps.specs.declared.command.Command.{Command}
use Rattle.gl_catalog.specs.Manager.{ManagerView, state_of}
use Rattle.gl_model.specs.declared.txn.TxnId.{TxnId}
use Rattle.gl_steps.specs.Promises.{NobodyWaits, names}
use Rattle.gl_rows.specs.declared.answer.RowAnswer.{RowAnswer}
use Rattle.gl_rows.specs.declared.call.RowCall.{RowCall}
use Rattle.gl_rows.specs.declared.call.RowCall.TheVariants as call
use Rattle.gl_rows.specs.Applying.{CarriesOut, StepsAmid, answer_in, naming, own_command, unnamed}
use Rattle.gl_rows.specs.Rows.{RegistryView, RowsView}
use Rattle.gl_rows.proofs.Tidied.{refuses_is}
use Rattle.gl_rows.proofs.Upkeep.{LeavesAll, low, upkeep_law, upkeep_leaves}
use Rattle.gl_steps.specs.Served.{is_query, is_refused, leaves_waiting}
use Rattle.gl_window.proofs.Waits.{Spares}
use Rattle.gl_window.specs.Boards.{HasParties}
use Rattle.gl_window.specs.Strip.{Strip}
use Rattle.gl_window.specs.Tellings.{leaves_waits, spares_waits, still_known}
use Rattle.gl_steps.proofs.Serving.{step_counts}
use Rattle.gl_waiting.specs.Resting.{ActsIn, acting_in}
use Rattle.gl_waiting.proofs.Rests.{acting_acts}
use Rattle.gl_c.specs.managers.Serving.{KnowsWaits}
use Rattle.gl_c.proofs.serving.Showing.{knows_on, knows_still}
use Rattle.gl_header.specs.Header.{is_empty}
use Rattle.gl_model.specs.Lawful.{IsLawful}

-- which node it is makes no difference to whether its waits are spared
spares_as : (v u : RowsView) (c : RowCall) (set : Slots) (a : Answer) → spares_waits set (own_command v c) a ≡ spares_waits set (own_command u c) a
spares_as v u (call.File ps) set a = refl
spares_as v u (call.Lock t row keys m) set a = refl
spares_as v u (call.Unlock t row) set a = refl
spares_as v u (call.Rekey t row index key) set a = refl

still_as : (v u : RowsView) (c : RowCall) (parties : Option Slots) (a : Answer) (told : Told)
    → still_known parties (λ known. leaves_waits known (own_command v c) a told) ≡ still_known parties (λ known. leaves_waits known (own_command u c) a told)
still_as v u c parties a told = ap (still_known parties)
    (fun_ext (λ set. ap (λ b. if has_none set then not (leaves_waiting a) else is_empty told && b) (spares_as v u c set a)))

-- no call only asks
no_query : (v : RowsView) (c : RowCall) → is_query (own_command v c) ≡ false
no_query v (call.File ps) = refl
no_query v (call.Lock t row keys m) = refl
no_query v (call.Unlock t row) = refl
no_query v (call.Rekey t row index key) = refl

-- A call that is not refused is a step of its own command.

-- records that are made and removed do not change who waits
pub leaves_idle : (s s' : State) → LeavesAll s s' → NobodyWaits s → NobodyWaits s'
leaves_idle s s' left idle t = ap (λ (x : State). is_wait (status_of x t)) left.is ∙ idle t

spared_by : (s s' : State) → LeavesAll s s' → (set : Slots) → HasParties s set → Spares set s s'
spared_by s s' left set has =
    subst (Spares set s) (sym left.is)
    (record { same = record { waits = λ t u. refl; ages = λ t u h. (refl, refl) }; parties = has })

-- and so all that is known of waits
pub knows_left : (s s' : State) → LeavesAll s s' → (shown : Option Strip) (parties : Option Slots) → KnowsWaits s shown parties → KnowsWaits s' shown parties
knows_left s s' left shown None known = tt
knows_left s s' left shown (Some set) known = knows_on s s' shown set (spared_by s s' left set known.0) known

module _ (m : ManagerView) (c : Command) (told : Told) (m' : ManagerView) where
  -- if it was not refused it is a step
  steps : (o : Option Answer) (x : Answer) → o ≡ Some x → is_refused x ≡ false → CarriesOut m c o told m' → StepsAmid m c x told m'
  steps None x is came h = absurd (none-some x is)
  steps (Some a) x is came (inl amid) = subst (λ y. StepsAmid m c y told m') (same_Some a x is) amid
  steps (Some a) x is came (inr err) = absurd (true≢false (sym err.0 ∙ refuses_is a ∙ ap is_refused (same_Some a x is) ∙ came))

  module _ (x : Answer) (came : is_refused x ≡ false) (h : StepsAmid m c x told m') where
    left_before : LeavesAll (state_of m) h.ahead
    left_before = upkeep_leaves (state_of m) h.ahead h.before

    left_after : LeavesAll h.behind (state_of m')
    left_after = upkeep_leaves h.behind (state_of m') h.after

    counts_more : is_query c ≡ false → m.accepted < m'.accepted
    counts_more asks =
        let one = (step_counts h.ahead c x told h.behind h.step).accepted (λ i. not (asks i) && not (came i)) in
        let first = low (state_of m) h.ahead left_before.same_or_later in
        let last = low h.behind (state_of m') left_after.same_or_later in
        omega (arith, one, first, last)

    -- what is known of the waits after it
    known_still : IsLawful (state_of m) → (state_of m).most ≤ most_slots → (shown : Option Strip) (parties : Option Slots)
        → KnowsWaits (state_of m) shown parties → KnowsWaits (state_of m') shown (still_known parties (λ known. leaves_waits known c x told))
    known_still law few shown parties known =
        knows_left h.behind (state_of m') left_after shown (still_known parties (λ set. leaves_waits set c x told))
        (knows_still h.ahead h.behind shown parties c x told (upkeep_law (state_of m) h.ahead law h.before)
        (subst (λ n. n ≤ most_slots) (sym (ap (λ (x : State). x.most) left_before.is)) few) h.step
        (knows_left (state_of m) h.ahead left_before shown parties known))

-- The same of a call.
module _ (g : RegistryView) (c : RowCall) (a : RowAnswer) (told : Told) (v : RegistryView)
    (own : CarriesOut g.manager (own_command (naming c g.rows v.rows) c) (answer_in a) told v.manager) (x : Answer) (is : answer_in a ≡ Some x)
    (came : is_refused x ≡ false) where
  abbrev command : Command
  command = own_command (naming c g.rows v.rows) c

  abbrev amid : StepsAmid g.manager command x told v.manager
  amid = steps g.manager command told v.manager (answer_in a) x is came own

  pub row_counts : g.manager.accepted < v.manager.accepted
  row_counts = counts_more g.manager command told v.manager x came amid (no_query (naming c g.rows v.rows) c)

  pub row_known : IsLawful (state_of g.manager) → (state_of g.manager).most ≤ most_slots → (shown : Option Strip) (parties : Option Slots)
      → KnowsWaits (state_of g.manager) shown parties
      → KnowsWaits (state_of v.manager) shown (still_known parties (λ known. leaves_waits known (own_command unnamed c) x told))
  row_known law few shown parties known =
      subst (KnowsWaits (state_of v.manager) shown) (sym (still_as unnamed (naming c g.rows v.rows) c parties x told))
      (known_still g.manager command told v.manager x came amid law few shown parties known)

-- a call about rows acts in the slot of its own transaction, whichever node it names
acting_as : (v u : RowsView) (c : RowCall) → acting_in (own_command v c) ≡ acting_in (own_command u c)
acting_as v u (call.File ps) = refl
acting_as v u (call.Lock t row keys m) = refl
acting_as v u (call.Unlock t row) = refl
acting_as v u (call.Rekey t row index key) = refl

pub named_as : (v u : RowsView) (c : RowCall) (t : TxnId) → names t (own_command v c) ≡ names t (own_command u c)
named_as v u (call.File ps) t = refl
named_as v u (call.Lock w row keys m) t = refl
named_as v u (call.Unlock w row) t = refl
named_as v u (call.Rekey w row index key) t = refl

pub row_acts : (c : RowCall) (own : Command) (slot : Option ℕ) → own ≡ own_command unnamed c → slot ≡ acting_in own → (v : RowsView)
    → ActsIn slot (own_command v c)
row_acts c own slot named is v =
    subst (λ (o : Option ℕ). ActsIn o (own_command v c)) (acting_as v unnamed c ∙ sym (is ∙ ap acting_in named)) (acting_acts (own_command v c))
