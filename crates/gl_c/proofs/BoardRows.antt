-- The rows of a board in C's memory, written or read one by one.
use Rattle.std.proofs.Common.{◌≡◌, ℕ, ◌+◌, ◌<◌, ◌≤◌, List, [], ◌∷◌, ◌++◌, length, map, take, get_or, set, sym, ap, ap₂, ◌∙◌}
use Rattle.std.proofs.lemmas.List.{map-append, take_all, take_more, take_more_set}
use Rattle.gl_slots.specs.Slots.{Bits}
use Rattle.gl_c.specs.declared.boards.board.Slots.{Slots}
use Rattle.gl_c.specs.Boards.{set_of}

pub put_more : (rows : List Slots) (sets : List Bits) (row : Slots) (i : ℕ) (d : Bits) → i < length rows → i < length sets → set_of row ≡ get_or sets i d
    → map set_of (take i rows) ≡ take i sets → map set_of (take (i + 1) (set rows i row)) ≡ take (i + 1) sets
put_more rows sets row i d low here says so_far =
    ap (map set_of) (take_more_set rows i row low)
    ∙ map-append set_of (take i rows) (row ∷ [])
    ∙ ap₂ (λ (xs : List Bits) (x : Bits). xs ++ x ∷ []) so_far says
    ∙ sym (take_more sets i d here)

pub read_more : (rows : List Slots) (sets : List Bits) (i : ℕ) (d : Slots) → i < length rows → i < length sets → map set_of (take i rows) ≡ take i sets
    → map set_of (take (i + 1) rows) ≡ take (i + 1) (set sets i (set_of (get_or rows i d)))
read_more rows sets i d low here so_far =
    ap (map set_of) (take_more rows i d low)
    ∙ map-append set_of (take i rows) (get_or rows i d ∷ [])
    ∙ ap (λ (xs : List Bits). xs ++ set_of (get_or rows i d) ∷ []) so_far
    ∙ sym (take_more_set sets i (set_of (get_or rows i d)) here)

pub put_all : (rows : List Slots) (sets : List Bits) (i : ℕ) → length rows ≤ i → length sets ≤ i → map set_of (take i rows) ≡ take i sets
    → map set_of rows ≡ sets
put_all rows sets i low here so_far = ap (map set_of) (sym (take_all i rows low)) ∙ so_far ∙ take_all i sets here
