-- Begins that leave the queue, and when the first of them ends.
use Rattle.std.specs.Prelude.{◌≡◌, ℕ, suc, ◌<◌, ◌+◌, ◌||◌, Bool, true, false, List, [], ◌∷◌, length, Option, Some, None, slice_get, slice_index_or}
use Rattle.std.specs.Prelude.{min, nat_le, nat_lt}
use Rattle.std.specs.List.{AllByRecursion, cons_option, filter_map, find, fold, list_any, position, position_or_len, reduce, remove}
use Rattle.std.proofs.Common.{refl, sym, ap, ◌∙◌, arith}
use Rattle.std.proofs.lemmas.List.Folds.{find_at}
use Rattle.std.proofs.lemmas.Option.{slice_get-get_or}
use Rattle.std.proofs.lemmas.Bool.{cond_both, or_parts}
use Rattle.std.proofs.lemmas.Bool.Decides.{nat_tests}
use Rattle.gl_modes.proofs.Words.{split}
use Rattle.gl_waiting.specs.Begins.{earliest_of, is_late, is_over, without_first}
use Rattle.gl_waiting.specs.declared.begins.QueuedBegin.{QueuedBegin}

-- the first begin that passes the test is at this place: it is found, and it is what is taken out
pub record IsFirst (test : QueuedBegin → Bool) (queue : List QueuedBegin) (k : ℕ) : Type 0 where
  pub within : k < length queue
  pub found : (d : QueuedBegin) → find test queue ≡ Some (slice_index_or queue k d)
  pub some : list_any test queue ≡ true
  pub rest : remove queue k ≡ without_first test queue

-- no begin passes the test: none is found, and none is taken out
pub record IsNone (test : QueuedBegin → Bool) (queue : List QueuedBegin) : Type 0 where
  pub found : find test queue ≡ None
  pub none : list_any test queue ≡ false
  pub rest : without_first test queue ≡ queue

-- what is left of a queue and a begin before it
remove_next : (b : QueuedBegin) (queue : List QueuedBegin) (k : ℕ) (rest : List QueuedBegin) → remove queue k ≡ rest → remove (b ∷ queue) (1 + k) ≡ b ∷ rest
remove_next b queue k rest e = let next : 1 + k ≡ suc k = omega arith in ap (remove (b ∷ queue)) next ∙ ap (λ q. b ∷ q) e

-- what is left without the first that passes the test
remove_first : (test : QueuedBegin → Bool) (queue : List QueuedBegin) → remove queue (position_or_len test queue) ≡ without_first test queue
remove_first test [] = refl
remove_first test (b ∷ queue) = split (test b) (λ e. rw e refl) (λ e. rw e (remove_next b queue (position_or_len test queue) _ (remove_first test queue)))

-- some begin passes the test exactly if its place is in the queue
some_first : (test : QueuedBegin → Bool) (queue : List QueuedBegin) → list_any test queue ≡ nat_lt (position_or_len test queue) (length queue)
some_first test [] = refl
some_first test (b ∷ queue) = grind (arith, nat_tests, some_first test queue)

-- if no begin passes the test, none is found, and none is taken out
pub is_none : (test : QueuedBegin → Bool) (queue : List QueuedBegin) → list_any test queue ≡ false → IsNone test queue
is_none test [] none = record { found = refl; none = refl; rest = refl }
is_none test (b ∷ queue) none =
    let other : (test b ≡ false) × (list_any test queue ≡ false) = or_parts (test b) (list_any test queue) none in
    let rest : IsNone test queue = is_none test queue other.1 in
    record { found = rw other.0 rest.found; none = none; rest = rw other.0 (ap (λ q. b ∷ q) rest.rest) }

-- the place of the first begin that passes the test
pub is_first : (test : QueuedBegin → Bool) (queue : List QueuedBegin) (k : ℕ) → position test queue ≡ Some k → IsFirst test queue k
is_first test queue k at =
    let place : (position_or_len test queue < length queue) × (position_or_len test queue ≡ k) = grind (arith, nat_tests) in
    record {
      within = omega arith;
      found = λ d. find_at test queue ∙ ap (slice_get queue) place.1 ∙ slice_get-get_or queue k d (omega arith);
      some = grind (arith, nat_tests, some_first test queue);
      rest = ap (remove queue) (sym place.1) ∙ remove_first test queue;
    }

-- no place, so no begin passes the test
pub is_no_place : (test : QueuedBegin → Bool) (queue : List QueuedBegin) → position test queue ≡ None → IsNone test queue
is_no_place test queue at = is_none test queue (grind (arith, nat_tests, some_first test queue))

-- the begin that is found passes the test
pub found_passes : (test : QueuedBegin → Bool) (queue : List QueuedBegin) (b : QueuedBegin) → find test queue ≡ Some b
    → (test b ≡ true) × (list_any test queue ≡ true)
found_passes test [] b found = absurd (cc)
found_passes test (a ∷ queue) b found = grind (arith, found_passes test queue b)

-- if none is found, no begin passes the test
pub none_found : (test : QueuedBegin → Bool) (queue : List QueuedBegin) → find test queue ≡ None → list_any test queue ≡ false
none_found test [] none = refl
none_found test (b ∷ queue) none = grind (arith, none_found test queue)

-- what holds of each begin of a queue holds of each that is left
pub all_without_first : (P : QueuedBegin → Type 0) (test : QueuedBegin → Bool) (queue : List QueuedBegin) → AllByRecursion P queue
    → AllByRecursion P (without_first test queue)
all_without_first P test [] all = tt
all_without_first P test (b ∷ queue) all =
    cond_both (test b) queue (b ∷ without_first test queue) (AllByRecursion P) (λ e. all.1) (λ e. (all.0, all_without_first P test queue all.1))

-- a queue has one begin less without one that passes the test
pub length_without_first : (test : QueuedBegin → Bool) (queue : List QueuedBegin) → list_any test queue ≡ true
    → length (without_first test queue) + 1 ≡ length queue
length_without_first test [] some = grind arith
length_without_first test (b ∷ queue) some = grind (arith, nat_tests, length_without_first test queue)

-- the lesser of two times is over exactly if one of them is
min_over : (a b now : ℕ) → nat_le (min a b) now ≡ (nat_le a now || nat_le b now)
min_over a b now = grind (arith, nat_tests)

-- the least of some times is over exactly if one of them is
fold_over : (now a : ℕ) (times : List ℕ) → nat_le (fold min a times) now ≡ (nat_le a now || list_any (λ t. nat_le t now) times)
fold_over now a [] = grind arith
fold_over now a (t ∷ times) = grind (arith, fold_over now (min a t) times, min_over a t now)

least_over : (now : ℕ) (times : List ℕ) → list_any (λ t. nat_le t now) times ≡ is_over now (reduce min times)
least_over now [] = refl
least_over now (t ∷ times) = sym (fold_over now t times)

-- some begin is late exactly if one of the times is over
late_times : (now : ℕ) (queue : List QueuedBegin) → list_any (is_late now) queue ≡ list_any (λ t. nat_le t now) (filter_map (λ b. b.until) queue)
late_times now [] = refl
late_times now (b ∷ queue) = by b.until (late_times now queue)
  where
    by : (until : Option ℕ) → list_any (is_late now) queue ≡ list_any (λ t. nat_le t now) (filter_map (λ b. b.until) queue)
        → (is_over now until || list_any (is_late now) queue) ≡ list_any (λ t. nat_le t now) (cons_option until (filter_map (λ b. b.until) queue))
    by None rest = rest
    by (Some t) rest = ap (λ some. nat_le t now || some) rest

-- some begin is late exactly if the earliest time is over
pub late_if_over : (now : ℕ) (queue : List QueuedBegin) → list_any (is_late now) queue ≡ is_over now (earliest_of queue)
late_if_over now queue = late_times now queue ∙ least_over now (filter_map (λ b. b.until) queue)

-- if no begin is late, the earliest time is still to come
pub later : (now until : ℕ) (queue : List QueuedBegin) → find (is_late now) queue ≡ None → earliest_of queue ≡ Some until → now < until
later now until queue none least =
    let over : list_any (is_late now) queue ≡ nat_le until now = late_if_over now queue ∙ ap (is_over now) least in
    grind (arith, nat_tests, none_found (is_late now) queue none)
