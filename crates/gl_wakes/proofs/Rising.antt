-- A command's notices are ordered by slot.
use Rattle.gl_slots.specs.Limit.{most_slots}
use Rattle.std.specs.Prelude.{◌≡◌, ℕ, zero, suc, ◌+◌, ◌<◌, ◌≤◌, Bool, true, false, not, ◌==◌, List, [], ◌∷◌, Option, Some, None, if◌then◌else◌}
use Rattle.std.specs.List.{cons_option, filter, filter_map, range_with_len}
use Rattle.std.proofs.Common.{refl, sym, ap, subst, arith, le_trans}
use Rattle.gl_model.specs.declared.answers.Notice.{Notice}
use Rattle.gl_model.specs.declared.txn.TxnId.{TxnId}
use Rattle.gl_model.specs.State.{State, age_of, status_of}
use Rattle.gl_model.specs.Tellings.{addressed, told, told_from}
use Rattle.gl_steps.specs.declared.command.Answer.{Answer}
use Rattle.gl_steps.specs.declared.command.Command.{Command}
use Rattle.gl_steps.specs.Step.{Step}
use Rattle.gl_wakes.specs.Notices.{RisingTo}
use Rattle.gl_wakes.proofs.EachTold.{each_told}
use Rattle.gl_wakes.proofs.Notices.{rising_on}

-- a list that begins at a later slot
sooner : (i k j : ℕ) (xs : List (TxnId × Notice)) → RisingTo k xs j → i ≤ k → RisingTo i xs j
sooner i k j [] r le = le_trans le r
sooner i k j (x ∷ xs) r le = (le_trans le r.0, r.1)

-- each names its slot
abbrev Names : (ℕ → Option (TxnId × Notice)) → Type 0
Names f = (u : ℕ) (x : TxnId × Notice) → f u ≡ Some x → x.0.slot ≡ u

-- one more, or none, before those of later slots
before : (lo j : ℕ) (o : Option (TxnId × Notice)) (rest : List (TxnId × Notice)) → lo < j → RisingTo (lo + 1) rest j
    → ((x : TxnId × Notice) → o ≡ Some x → x.0.slot ≡ lo) → RisingTo lo (cons_option o rest) j
before lo j None rest inside up is = sooner lo (lo + 1) j rest up (omega arith)
before lo j (Some x) rest inside up is = let e = is x refl in (omega (arith, e), subst (λ (k : ℕ). RisingTo (k + 1) rest j) (sym e) up)

-- one for each slot, or none
each_slot : (f : ℕ → Option (TxnId × Notice)) → Names f → (n lo : ℕ) → RisingTo lo (filter_map f (range_with_len lo n)) (lo + n)
each_slot f names zero lo = omega arith
each_slot f names (suc n) lo =
    before lo (lo + suc n) (f lo) (filter_map f (range_with_len (lo + 1) n)) (omega arith)
    (rising_on (lo + 1) (lo + 1 + n) (lo + suc n) (filter_map f (range_with_len (lo + 1) n)) (each_slot f names n (lo + 1)) (omega arith))
    (λ x e. names lo x e)

-- and some of them
kept_one : (b : Bool) (k j : ℕ) (x : TxnId × Notice) (rest : List (TxnId × Notice)) → k ≤ x.0.slot → RisingTo (x.0.slot + 1) rest j
    → RisingTo k (if b then x ∷ rest else rest) j
kept_one true k j x rest low up = (low, up)
kept_one false k j x rest low up = sooner k (x.0.slot + 1) j rest up (omega (arith, low))

kept : (p : TxnId × Notice → Bool) (k j : ℕ) (xs : List (TxnId × Notice)) → RisingTo k xs j → RisingTo k (filter p xs) j
kept p k j [] r = r
kept p k j (x ∷ xs) r = kept_one (p x) k j x (filter p xs) r.0 (kept p (x.0.slot + 1) j xs r.1)

named : (u k : ℕ) (o : Option Notice) (x : TxnId × Notice) → addressed (record { slot = u; age = k }) o ≡ Some x → x.0.slot ≡ u
named u k None x e = absurd (cc e)
named u k (Some y) x e = let is : (record { slot = u; age = k }, y) ≡ x = cc e in ap (λ (z : TxnId × Notice). z.0.slot) (sym is)

pub told_rises : (s s' : State) → s.most ≤ most_slots → RisingTo 0 (told s s') most_slots
told_rises s s' few =
    rising_on 0 (0 + s.most) most_slots (told s s')
    (each_slot (λ t. addressed (record { slot = t; age = age_of s t }) (told_from s' t (status_of s t)))
    (λ u x e. named u (age_of s u) (told_from s' u (status_of s u)) x e) s.most 0)
    (omega (arith, few))

-- whatever the command is, its notices are ordered by slot
pub step_rises : (s : State) (c : Command) (a : Answer) (list : List (TxnId × Notice)) (s' : State) → s.most ≤ most_slots → Step s c a list s'
    → RisingTo 0 list most_slots
step_rises s c a list s' few step =
    each_told (λ xs. RisingTo 0 xs most_slots) s c a list s' (omega arith) (λ now. told_rises s now few)
    (λ t now. kept (λ x. not (x.0.slot == t)) 0 most_slots (told s now) (told_rises s now few)) step
