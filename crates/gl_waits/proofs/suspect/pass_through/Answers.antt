use Rattle.gl_waits.proofs.Words.{◌&&◌, ◌+◌, ◌<◌, ◌||◌, ◌∙◌, ◌≡◌, ◌≢◌, ◌≤◌, ⊎_elim, ap, arith, Bool, cases_eq, false, get_or, get_or-set_other, get_or-set_same}
use Rattle.gl_waits.proofs.Words.{has_slot, length, List, nat_lt, nat_tests, no_slots, refl, row_edge, set, Slots, subst, sym, true, ℕ}
use Rattle.std.proofs.Common.{ap₂}
use Rattle.gl_waits.proofs.BoardLemmas.{row_edge-inside, row_edge-read}
use Rattle.gl_waits.proofs.suspect.pass_through.Goals as goal
use Rattle.gl_waits.proofs.suspect.pass_through.Goals.{else-contains, then-contains}

-- the rows below i have what the middle reaches, if they have the middle
abbrev IsPassed : List Slots → List Slots → ℕ → Slots → ℕ → Type 0
IsPassed before now middle beyond i = (s u : ℕ) → row_edge now s u ≡ (row_edge before s u || (nat_lt s i && (row_edge before s middle && has_slot beyond u)))

same_row : (a b now : Bool) (s i : ℕ) → s ≢ i → now ≡ (a || (nat_lt s i && b)) → now ≡ (a || (nat_lt s (i + 1) && b))
same_row a b now s i ne h = grind (arith, nat_tests)

this_row : (a now has beyond : Bool) (i : ℕ) → now ≡ (a || (nat_lt i i && (has && beyond)))
    → (now || (has && beyond)) ≡ (a || (nat_lt i (i + 1) && (has && beyond)))
this_row a now has beyond i h = grind (arith, nat_tests)

untouched : (a now : Bool) (b : Bool) (i : ℕ) → now ≡ (a || (nat_lt i i && b)) → now ≡ a
untouched a now b i h = grind (arith, nat_tests)

passed_row : (before now after : List Slots) (middle : ℕ) (beyond : Slots) (i : ℕ) → IsPassed before now middle beyond i
    → ((s u : ℕ) → s ≢ i → row_edge after s u ≡ row_edge now s u)
    → ((u : ℕ) → row_edge after i u ≡ (row_edge now i u || (row_edge now i middle && has_slot beyond u))) → IsPassed before after middle beyond (i + 1)
passed_row before now after middle beyond i passed others this s u =
    ⊎_elim
    (λ is. subst (λ x. row_edge after x u ≡ (row_edge before x u || (nat_lt x (i + 1) && (row_edge before x middle && has_slot beyond u)))) (sym is)
    (this u ∙ ap (λ b. row_edge now i u || (b && has_slot beyond u)) (untouched _ _ _ i (passed i middle))
    ∙ this_row (row_edge before i u) (row_edge now i u) (row_edge before i middle) (has_slot beyond u) i (passed i u)))
    (λ ne. others s u ne ∙ same_row _ _ _ s i ne (passed s u))
    (cases_eq s i)

-- the row has the middle, and what the middle reaches is added
passed_write : (before now after : List Slots) (middle : ℕ) (beyond row d : Slots) (i : ℕ) → IsPassed before now middle beyond i
    → has_slot (get_or now i d) middle ≡ true → i < length now
    → ((u : ℕ) → has_slot row u ≡ (has_slot (get_or now i d) u || has_slot beyond u)) → after ≡ set now i row → IsPassed before after middle beyond (i + 1)
passed_write before now after middle beyond row d i passed has inside grown is =
    passed_row before now after middle beyond i passed
    (λ s u ne. ap (λ xs. row_edge xs s u) is ∙ ap (λ n. has_slot n u) (get_or-set_other now i s row no_slots ne))
    (λ u. ap (λ xs. row_edge xs i u) is ∙ ap (λ n. has_slot n u) (get_or-set_same now i row no_slots inside) ∙ grown u
    ∙ ap₂ (λ a b. a || (b && has_slot beyond u)) (row_edge-read now i u d inside) (sym has ∙ row_edge-read now i middle d inside))

-- the row does not have it, and stays
passed_skip : (before now after : List Slots) (middle : ℕ) (beyond d : Slots) (i : ℕ) → IsPassed before now middle beyond i
    → has_slot (get_or now i d) middle ≡ false → i < length now → after ≡ now → IsPassed before after middle beyond (i + 1)
passed_skip before now after middle beyond d i passed has inside is =
    passed_row before now after middle beyond i passed
    (λ s u ne. ap (λ xs. row_edge xs s u) is)
    (λ u. ap (λ xs. row_edge xs i u) is ∙ same (row_edge now i u) (has_slot beyond u) (row_edge now i middle) (sym (row_edge-read now i middle d inside) ∙ has))
  where
    same : (a b has : Bool) → has ≡ false → a ≡ (a || (has && b))
    same a b has e = grind (arith, nat_tests)

-- all rows have it
passed_all : (before now : List Slots) (middle : ℕ) (d : Slots) (i : ℕ) → IsPassed before now middle (get_or before middle d) i
    → length before ≤ i → middle < length before
    → (s u : ℕ) → row_edge now s u ≡ (row_edge before s u || (row_edge before s middle && row_edge before middle u))
passed_all before now middle d i passed all inside s u =
    passed s u
    ∙ ap (λ b. row_edge before s u || (nat_lt s i && (row_edge before s middle && b))) (row_edge-read before middle u d inside)
    ∙ by (row_edge before s u) (row_edge before s middle) (row_edge before middle u) (row_edge-inside before s middle)
  where
    by : (a h b : Bool) → (h ≡ true → s < length before) → (a || (nat_lt s i && (h && b))) ≡ (a || (h && b))
    by a true b low = let k = low refl in let j : s < i = omega arith in grind (arith, nat_tests)
    by a false b low = grind (arith, nat_tests)

pub returns : goal.returns
returns c = passed_all c.args.reaches.now c.loop-slot.reaches c.args.middle _ c.loop-slot.slot c.loop-slot.invariant.1 (omega arith) (omega arith)

pub loop-slot-preserved : goal.loop-slot-preserved
loop-slot-preserved c = (
  c.if-contains.array_long,
  elim c.if-contains.branch [
    | then-contains w ↦ passed_write c.args.reaches.now c.loop-slot.reaches c.if-contains.reaches c.args.middle _ w.union.result _ c.loop-slot.slot
        c.loop-slot.invariant.1 (sym c.contains.ensures ∙ w.if-contains.true) inside w.union.ensures w.reaches-is
    | else-contains w ↦ passed_skip c.args.reaches.now c.loop-slot.reaches c.if-contains.reaches c.args.middle _ _ c.loop-slot.slot c.loop-slot.invariant.1
        (sym c.contains.ensures ∙ w.if-contains.false) inside w.reaches-is
  ],
)
  where
    inside : c.loop-slot.slot < length c.loop-slot.reaches
    inside = let h = c.loop-slot-test.true in let many = c.loop-slot.invariant.0 in omega arith
