-- The effect of a telling on the published list.
use Rattle.std.proofs.Common.{◌≡◌, ◌⊎◌, ◌++◌, ◌∷◌, [], List, Bool, true, false, ap₂, ◌∙◌, inl, inr}
use Rattle.gl_waits.specs.declared.board.Board.{Board}
use Rattle.gl_shared.specs.declared.guarded.Tell.{Tell}
use Rattle.gl_shared.specs.declared.guarded.Tell.TheVariants.{Published, NoMemory}
use Rattle.gl_shared.specs.State.{GainsIf, Told}

-- the list unchanged, or with the snapshot added
pub told_either : (list : List Board) (board : Board) (t : Tell) (after : List Board) → Told list board t after → (after ≡ list) ⊎ (after ≡ list ++ board ∷ [])
told_either list board (Published e) after h = inr h.0
told_either list board NoMemory after h = inl h

-- a publication that had memory, and one that had none
pub published : (told : Bool) (list after now : List Board) (board current : Board) → told ≡ true
    → GainsIf told list board after → list ≡ now → board ≡ current → after ≡ now ++ current ∷ []
published true list after now board current sure h same is = h ∙ ap₂ (λ (l : List Board) (b : Board). l ++ b ∷ []) same is
published false list after now board current sure h same is = absurd (cc sure)

pub unpublished : (told : Bool) (list after now : List Board) (board : Board) → told ≡ false
    → GainsIf told list board after → list ≡ now → after ≡ now
unpublished false list after now board sure h same = h ∙ same
unpublished true list after now board sure h same = absurd (cc sure)
