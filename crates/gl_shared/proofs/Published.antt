-- The last snapshot of a list. For what is published.
use Rattle.std.proofs.Common.{◌≡◌, ◌++◌, ◌∷◌, ◌∙◌, [], List, Option, Some, None, ap, fold, refl}
use Rattle.std.specs.Arc.{arc_value}
use Rattle.std.specs.List.{last_or}
use Rattle.gl_modes.proofs.Words.{none_some, some_is}
use Rattle.gl_waits.specs.declared.board.Board.{Board}
use Rattle.gl_window.specs.Boards.{Ends}
use Rattle.gl_shared.specs.declared.shown.Next.{Next}
use Rattle.gl_shared.specs.declared.shown.Turn.{Turn}
use Rattle.gl_shared.specs.Ties.{turned}

-- of a list and one more snapshot it is that snapshot
pub last-more : (o : Option Board) (xs : List Board) (b : Board) → last_or o (xs ++ b ∷ []) ≡ Some b
last-more o [] b = refl
last-more o (x ∷ xs) b = last-more (Some x) xs b

ends-from : (x : Board) (xs : List Board) (b : Board) → last_or (Some x) xs ≡ Some b → Ends (x ∷ xs) b
ends-from x [] b h = ([], ap (λ (c : Board). c ∷ []) (some_is h))
ends-from x (y ∷ ys) b h = let e = ends-from y ys b h in (x ∷ e.0, ap (λ (l : List Board). x ∷ l) e.1)

-- the list ends with it
pub last-ends : (xs : List Board) (b : Board) → last_or None xs ≡ Some b → Ends xs b
last-ends [] b h = absurd (none_some h)
last-ends (x ∷ xs) b h = ends-from x xs b h

-- if one snapshot is left to publish, it is the last then
pub turned-once : (start : Turn) (none left : List Next) (n : Next) (b : Board) → left ≡ none ++ n ∷ [] → none ≡ [] → arc_value n.board ≡ b
    → (fold (λ (t : Turn) (m : Next). turned m) start left).board ≡ Some b
turned-once start none left n b more empty is =
    ap (λ (l : List Next). (fold (λ (t : Turn) (m : Next). turned m) start l).board) (more ∙ ap (λ (l : List Next). l ++ n ∷ []) empty)
    ∙ ap (λ (x : Board). Some x) is
