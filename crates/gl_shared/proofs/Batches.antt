-- Lists of commands that are served together, one more at a time.
use Rattle.std.specs.Prelude.{◌≡◌, ℕ, ◌+◌, ◌<◌, Bool, true, false, ◌&&◌, List, [], ◌∷◌, ◌++◌, length, take, slice_index_or, MatchBool}
use Rattle.std.specs.List.{list_all}
use Rattle.std.proofs.Common.{refl, sym, ap, subst, ◌∙◌, arith}
use Rattle.std.proofs.lemmas.List.{length-append, map-append, take_more}
use Rattle.gl_modes.proofs.Words.{and_both, clash}
use Rattle.gl_model.specs.Tellings.{Told}
use Rattle.gl_steps.specs.declared.command.Answer.{Answer}
use Rattle.gl_steps.specs.declared.command.Command.{Command}
use Rattle.gl_catalog.specs.Manager.{state_of}
use Rattle.gl_steps.specs.Step.{Step}
use Rattle.gl_shared.specs.Batches.{Serves, ServesEach, ServesOne, Stops, accepted_in, goes_on, one_if}
use Rattle.gl_steps.specs.Served.{accepts}
use Rattle.gl_wakes.proofs.Clearing.{cleared_not}
use Rattle.gl_wakes.proofs.Notices.{delivers_none}
use Rattle.gl_shared.specs.State.{GuardedView}

-- one answer more
pub one_longer : (xs : List Answer) (a : Answer) (k : ℕ) → length xs ≡ k → length (xs ++ a ∷ []) ≡ k + 1
one_longer xs a k is = let e = length-append xs (a ∷ []) in omega (arith, e, is)

each_snoc : (s mid t : GuardedView) (cs : List Command) (rs : List (Answer × Told)) (c : Command) (a : Answer) (told : Told) → ServesEach s cs rs mid
    → ServesOne mid c a told t → ServesEach s (cs ++ c ∷ []) (rs ++ (a, told) ∷ []) t
each_snoc s mid t [] [] c a told same one = (t, subst (λ (g : GuardedView). ServesOne g c a told t) same one, refl)
each_snoc s mid t [] (r ∷ rs) c a told run one = absurd run
each_snoc s mid t (d ∷ cs) [] c a told run one = absurd run
each_snoc s mid t (d ∷ cs) (r ∷ rs) c a told run one = (run.0, run.1, each_snoc run.0 mid t cs rs c a told run.2 one)

-- the next command of a list is a step more
pub serves_next : (s mid t : GuardedView) (cs : List Command) (xs : List Answer) (k : ℕ) (d : Command) (a : Answer) (told : Told) → length xs ≡ k
    → k < length cs → Serves s cs xs mid → ServesOne mid (slice_index_or cs k d) a told t
    → Serves s cs (xs ++ a ∷ []) t
serves_next s mid t cs xs k d a told is less run step = (
  run.0 ++ (a, told) ∷ [],
  map-append (λ (r : Answer × Told). r.0) run.0 ((a, told) ∷ []) ∙ ap (λ (x : List Answer). x ++ a ∷ []) run.1,
  subst (λ (x : List Command). ServesEach s x (run.0 ++ (a, told) ∷ []) t) (sym (ap (λ n. take n cs) (one_longer xs a k is) ∙ take_more cs k d less))
      (each_snoc s mid t (take k cs) run.0 (slice_index_or cs k d) a told (subst (λ (n : ℕ). ServesEach s (take n cs) run.0 mid) is run.2) step),
)

-- and is counted if it is accepted
accepted_next : (cs : List Command) (xs : List Answer) (d : Command) (a : Answer) → length xs < length cs
    → accepted_in cs (xs ++ a ∷ []) ≡ accepted_in cs xs + one_if (accepts (slice_index_or cs (length xs) d) a)
accepted_next [] xs d a less = absurd (omega (arith, less))
accepted_next (c ∷ cs) [] d a less = by cs
  where
    by : (rest : List Command) → one_if (accepts c a) + accepted_in rest [] ≡ 0 + one_if (accepts c a)
    by [] = omega arith
    by (x ∷ rest) = omega arith
accepted_next (c ∷ cs) (x ∷ xs) d a less = let rest = accepted_next cs xs d a (omega (arith, less)) in omega (arith, rest)

pub accepted_more : (cs : List Command) (xs : List Answer) (k : ℕ) (d : Command) (a : Answer) → length xs ≡ k → k < length cs
    → accepted_in cs (xs ++ a ∷ []) ≡ accepted_in cs xs + one_if (accepts (slice_index_or cs k d) a)
accepted_more cs xs k d a is less =
    subst (λ (n : ℕ). accepted_in cs (xs ++ a ∷ []) ≡ accepted_in cs xs + one_if (accepts (slice_index_or cs n d) a)) is
    (accepted_next cs xs d a (omega (arith, less, is)))

-- the list did not stop after any answer so far
pub all_more : (xs : List Answer) (a : Answer) → list_all goes_on xs ≡ true → goes_on a ≡ true → list_all goes_on (xs ++ a ∷ []) ≡ true
all_more [] a all on = ap (λ b. b && true) on
all_more (x ∷ xs) a all on = let both = and_both (goes_on x) (list_all goes_on xs) all in ap (λ b. b && list_all goes_on (xs ++ a ∷ [])) both.0 ∙
    all_more xs a both.1 on

-- each command has its answer
pub stops_whole : (cs : List Command) (xs : List Answer) → list_all goes_on xs ≡ true → length cs ≡ length xs → Stops cs xs
stops_whole [] [] all same = tt
stops_whole [] (a ∷ xs) all same = absurd (omega (arith, same))
stops_whole (c ∷ cs) [] all same = absurd (omega (arith, same))
stops_whole (c ∷ cs) (a ∷ xs) all same =
    let both = and_both (goes_on a) (list_all goes_on xs) all in
    subst (λ (b : Bool). MatchBool b (Stops cs xs) (xs ≡ [])) (sym both.0) (stops_whole cs xs both.1 (omega (arith, same)))

-- or the list stops after the last
pub stops_here : (cs : List Command) (xs : List Answer) (a : Answer) → list_all goes_on xs ≡ true → length xs < length cs → goes_on a ≡ false
    → Stops cs (xs ++ a ∷ [])
stops_here [] xs a all less off = absurd (omega (arith, less))
stops_here (c ∷ cs) [] a all less off = subst (λ (b : Bool). MatchBool b (Stops cs []) (◌≡◌ {A = List Answer} [] [])) (sym off) refl
stops_here (c ∷ cs) (x ∷ xs) a all less off =
    let both = and_both (goes_on x) (list_all goes_on xs) all in
    subst (λ (b : Bool). MatchBool b (Stops cs (xs ++ a ∷ [])) ((xs ++ a ∷ []) ≡ [])) (sym both.0) (stops_here cs xs a both.1 (omega (arith, less)) off)

-- a command that is accepted is counted once
pub one_accepted : {yes : Bool} → yes ≡ true → one_if yes ≡ 1
one_accepted is = ap one_if is

-- and one that is not accepted is not counted
pub none_accepted : {yes : Bool} → yes ≡ false → one_if yes ≡ 0
none_accepted is = ap one_if is

-- a command that is not accepted changes nothing
pub serves_still : (g g' : GuardedView) (c : Command) (a : Answer) (told : Told) → Step (state_of g.manager) c a told (state_of g'.manager)
    → accepts c a ≡ false → g' ≡ g → told ≡ [] → ServesOne g c a told g'
serves_still g g' c a told step unaccepted same none = record {
  step = step;
  boxes = (g.boxes, delivers_none told g.boxes none, ap (λ (v : GuardedView). v.boxes) same ∙ sym (cleared_not c a g.boxes unaccepted));
  not_accepted = λ _. (same, none);
  book = let is = ap (λ (v : GuardedView). v.book) same in let zero_more = none_accepted unaccepted in omega (arith, is, zero_more);
  waited = λ yes. clash yes unaccepted;
  list = (ap (λ (v : GuardedView). v.list) same, ap (λ (v : GuardedView). v.telling) same);
}

pub share_more : (cs : List Command) (xs ys : List Answer) (k : ℕ) (d : Command) (a : Answer) (after before start : ℕ) → length xs ≡ k → k < length cs
    → ys ≡ xs ++ a ∷ [] → after ≡ before + one_if (accepts (slice_index_or cs k d) a)
    → before ≡ start + accepted_in cs xs → after ≡ start + accepted_in cs ys
share_more cs xs ys k d a after before start is less ends rises so_far =
    let more = accepted_more cs xs k d a is less in
    subst (λ (l : List Answer). after ≡ start + accepted_in cs l) (sym ends) (omega (arith, more, rises, so_far))

-- before the first command
pub serves_none : (s : GuardedView) (cs : List Command) (xs : List Answer) → xs ≡ [] → Serves s cs xs s
serves_none s cs xs none = subst (λ (l : List Answer). Serves s cs l s) (sym none) (by cs)
  where
    by : (rest : List Command) → Serves s rest [] s
    by [] = ([], refl, refl)
    by (c ∷ rest) = ([], refl, refl)

pub accepted_none : (cs : List Command) (xs : List Answer) → xs ≡ [] → accepted_in cs xs ≡ 0
accepted_none cs xs none = subst (λ (l : List Answer). accepted_in cs l ≡ 0) (sym none) (by cs)
  where
    by : (rest : List Command) → accepted_in rest [] ≡ 0
    by [] = refl
    by (c ∷ rest) = refl
