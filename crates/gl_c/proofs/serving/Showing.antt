-- What watchers are shown: epochs, the way of detection, and lists that are continued.
use Rattle.gl_slots.specs.Limit.{most_slots}
use Rattle.std.specs.Prelude.{◌≡◌, ◌⊎◌, ◌≤◌, ℕ, List, [], ◌∷◌, ◌++◌, Option, Some, None, Result, Ok, Err, IfSome, IfOk, Bool, true, false}
use Rattle.std.specs.Prelude.{if◌then◌else◌, is_none, is_some}
use Rattle.std.proofs.Common.{refl, sym, ap, subst, ◌∙◌, arith, inl, inr, le_trans, ⊎_elim}
use mathlib.Core.Bool.{true≢false}
use mathlib.Core.List.{IsPrefix}
use Rattle.gl_slots.specs.Slots.{has_none}
use Rattle.gl_slots.specs.declared.slots.Slots.{Slots}
use Rattle.gl_waits.specs.declared.board.Board.{Board}
use Rattle.gl_table.specs.Table.{board_of}
use Rattle.gl_model.specs.Lawful.{IsLawful}
use Rattle.gl_model.specs.State.{State}
use Rattle.gl_model.specs.Tellings.{Told}
use Rattle.gl_catalog.specs.Manager.{IsLawfulManager, ManagerView, state_of}
use Rattle.gl_steps.specs.Promises.{NobodyWaits}
use Rattle.gl_steps.specs.Step.{Step}
use Rattle.gl_steps.specs.declared.command.Answer.{Answer}
use Rattle.gl_steps.specs.declared.command.Command.{Command}
use Rattle.gl_window.proofs.RealBoards.{shows_waits}
use Rattle.gl_window.specs.Boards.{Ends, HasParties, last_epoch}
use Rattle.gl_window.specs.Strip.{Strip}
use Rattle.gl_window.proofs.Fronts.{prefix_self, prefix_trans}
use Rattle.gl_window.proofs.Spared.{waits_left}
use Rattle.gl_window.proofs.Waits.{Spares, ends_still, nobody_spared, none_waits}
use Rattle.gl_window.specs.Tellings.{leaves_waits, still_known}
use Rattle.gl_window.proofs.Lists.{told_epoch}
use Rattle.gl_window.specs.Window.{GoesOn}
use Rattle.gl_window.specs.declared.publisher.WatchFault.{WatchFault}
use Rattle.gl_c.specs.managers.Serving.{KnowsWaits, ShowsOn}
use Rattle.gl_modes.proofs.Words.{split}
use Rattle.gl_rows.specs.Locking.{Line, Runs}
use Rattle.gl_steps.proofs.Detection.{steps_keep_detect}
use Rattle.gl_steps.proofs.Serving.{step_counts}
use Rattle.gl_steps.specs.Served.{accepts}
use Rattle.gl_c.specs.watchers.Watching.{Continues}

-- a manager that accepted more
pub later_epoch : (o : Option Strip) (n m : ℕ) → n ≤ m → IfSome o (λ p. last_epoch 0 p.list ≤ n) → IfSome o (λ p. last_epoch 0 p.list ≤ m)
later_epoch None n m le h = h
later_epoch (Some p) n m le h = le_trans h le

-- the epoch of what is shown, with the board or without
pub either_epoch : (list after : List Board) (board : Board) (n : ℕ) → (after ≡ list) ⊎ (after ≡ list ++ board ∷ []) → last_epoch 0 list ≤ n → board.epoch ≡ n
    → last_epoch 0 after ≤ n
either_epoch list after board n is low at = ⊎_elim
    (λ (t : after ≡ list). subst (λ (l : List Board). last_epoch 0 l ≤ n) (sym t) low)
    (λ (t : after ≡ list ++ board ∷ []). told_epoch true list after board n t low at)
    is

-- the effect of a show on a list
abbrev pub ShowsBoard : List Board → ManagerView → List Board → Type 0
ShowsBoard list m after = (after ≡ list) ⊎ (after ≡ list ++ board_of (state_of m) ∷ [])

-- the waits are spared, so what was known of them is still known
pub knows_on : (s s' : State) (shown : Option Strip) (set : Slots) → Spares set s s' → KnowsWaits s shown (Some set) → KnowsWaits s' shown (Some set)
knows_on s s' None set spares known = (spares.parties, tt)
knows_on s s' (Some p) set spares known = (spares.parties, ends_still s s' spares.same p.list known.1)

-- what is still known
pub knows_if : (s s' : State) (shown : Option Strip) (parties : Option Slots) (leaves : Slots → Bool)
    → ((set : Slots) → HasParties s set → leaves set ≡ true → Spares set s s') → KnowsWaits s shown parties
    → KnowsWaits s' shown (still_known parties leaves)
knows_if s s' shown None leaves spares known = tt
knows_if s s' shown (Some set) leaves spares known = by (leaves set) (spares set known.0)
  where
    by : (b : Bool) → (b ≡ true → Spares set s s') → KnowsWaits s' shown (if b then Some set else None)
    by true spared = knows_on s s' shown set (spared refl) known
    by false spared = tt

-- after a step
pub knows_still : (s s' : State) (shown : Option Strip) (parties : Option Slots) (c : Command) (a : Answer) (told : Told) → IsLawful s
    → s.most ≤ most_slots → Step s c a told s' → KnowsWaits s shown parties
    → KnowsWaits s' shown (still_known parties (λ known. leaves_waits known c a told))
knows_still s s' shown parties c a told law few step =
    knows_if s s' shown parties (λ known. leaves_waits known c a told) (λ set has. waits_left set s s' c a told law few has step)

-- and after a call that leaves nobody waiting if nobody waited
pub knows_nobody : (s s' : State) (shown : Option Strip) (parties : Option Slots) → (NobodyWaits s → NobodyWaits s') → KnowsWaits s shown parties
    → KnowsWaits s' shown (still_known parties has_none)
knows_nobody s s' shown parties stays =
    knows_if s s' shown parties has_none (λ set has e. let idle = none_waits s set has e in nobody_spared set s s' idle (stays idle))

-- what is known if the present snapshot was the last to be shown
pub shown_known : (m n : ManagerView) (list : List Board) (p : Strip) (parties : Option Slots) → n ≡ m → IsLawfulManager n
    → IfSome parties (λ set. (p.list ≡ list ++ board_of (state_of n) ∷ []) × HasParties (state_of n) set) → KnowsWaits (state_of m) (Some p) parties
shown_known m n list p None same law shown = tt
shown_known m n list p (Some set) same law shown =
    subst (λ (x : ManagerView). KnowsWaits (state_of x) (Some p) (Some set)) same
    (shown.1, (board_of (state_of n), (list, shown.0), shows_waits (state_of n) law.lawful law.few))

-- no party is known
pub none_known : (parties : Option Slots) → is_some parties ≡ false → is_none parties ≡ true
none_known None none = refl
none_known (Some set) none = absurd (true≢false none)

-- the same snapshot by another name
pub either_board : (list after : List Board) (b c : Board) → (after ≡ list) ⊎ (after ≡ list ++ b ∷ []) → b ≡ c → (after ≡ list) ⊎ (after ≡ list ++ c ∷ [])
either_board list after b c either is = subst (λ (x : Board). (after ≡ list) ⊎ (after ≡ list ++ x ∷ [])) is either

-- what watchers are shown, if it is due
pub shows_on : (due : Bool) (board : Board) (p q : Strip) → due ≡ true → (q.list ≡ p.list) ⊎ (q.list ≡ p.list ++ board ∷ []) → q.book ≡ p.book
    → q.detect ≡ p.detect → ShowsOn due board (Some p) (Some q)
shows_on due board p q on either book detect = (
  q,
  refl,
  record {
    book = book;
    detect = detect;
    list = ⊎_elim
        (λ (t : q.list ≡ p.list). inl t)
        (λ (t : q.list ≡ p.list ++ board ∷ []). inr (on, t))
        either;
  },
)

-- a list with or without the snapshot continues
pub either_goes_on : (p q : Strip) (board : Board) → (q.list ≡ p.list) ⊎ (q.list ≡ p.list ++ board ∷ []) → q.book ≡ p.book → q.detect ≡ p.detect → GoesOn p q
either_goes_on p q board is book detect = record {
  book = book;
  detect = detect;
  begins = ⊎_elim
      (λ (t : q.list ≡ p.list). subst (λ (l : List Board). IsPrefix p.list l) (sym t) (prefix_self p.list))
      (λ (t : q.list ≡ p.list ++ board ∷ []). (board ∷ [], sym t))
      is;
}

goes_further : (b p q : Strip) → GoesOn b p → GoesOn p q → GoesOn b q
goes_further b p q one two = record {
  book = two.book ∙ one.book;
  detect = two.detect ∙ one.detect;
  begins = prefix_trans b.list p.list q.list one.begins two.begins;
}

some_is : (p s : Strip) → Some p ≡ Some s → p ≡ s
some_is p s e = cc e

pub continues_on : (o : Option Strip) (p q : Strip) → Continues o (Some p) → GoesOn p q → Continues o (Some q)
continues_on None p q h on = tt
continues_on (Some b) p q h on = (q, refl, goes_further b p q (subst (λ (s : Strip). GoesOn b s) (sym (some_is p h.0 h.1)) h.2) on)

-- a watcher that knows what is shown, with the present snapshot last
pub knows_last : (x : Result Strip WatchFault) (p q : Strip) (board now : Board) → IfOk x (λ w. (w ≡ q) × (q.list ≡ p.list ++ board ∷ [])) → board ≡ now
    → IfOk x (λ w. (Some q ≡ Some w) × Ends w.list now)
knows_last (Err e) p q board now h is = h
knows_last (Ok w) p q board now h is = (
  ap (λ (s : Strip). Some s) (sym h.0),
  (
    p.list,
    subst (λ (s : Strip). s.list ≡ p.list ++ now ∷ []) (sym h.0)
        (h.1 ∙ ap (λ (b : Board). p.list ++ b ∷ []) is),
  ),
)

-- no command changes the way of detection, or lowers the count
pub run_keeps : (lines : List Line) (s s' : State) → Runs s lines s' → (s.accepted ≤ s'.accepted) × (s'.detect ≡ s.detect)
run_keeps [] s s' run = let same = ap (λ (x : State). x.accepted) run in (omega (arith, same), ap (λ (x : State). x.detect) run)
run_keeps (l ∷ lines) s s' run =
    let counts = step_counts s l.0 l.1.0 l.1.1 run.0 run.1 in
    let rest = run_keeps lines run.0 s' run.2 in
    let more = rest.0 in (
      split (accepts l.0 l.1.0) (λ e. let one = counts.accepted e in omega (arith, one, more))
          (λ e. let same = ap (λ (x : State). x.accepted) (counts.not_accepted e).0 in omega (arith, same, more)),
      rest.1 ∙ steps_keep_detect s run.0 l.0 l.1.0 l.1.1 run.1,
    )
