-- What a set of names has, as functions of the names and of the ids.
use Rattle.gl_interpreter.proofs.Words.{◌∙◌, ◌≡◌, ap, Bool, bytes_eq, Err, false, fun_ext, if◌then◌else◌, List, Ok, OnOk, Option, refl, Result, sym, true}
use Rattle.gl_interpreter.proofs.Words.{true≢false, ℕ}
use Rattle.std.specs.Result.{IsOk}
use Rattle.indexmap.specs.IndexMap.{get, IndexMap, Updates}
use Rattle.arrayvec.specs.ArrayVec.{ArrayVec}
use Rattle.gl_interpreter.specs.Views.{same_name, text_or_none}

-- what holds if there is a value
pub on_ok : {T E P : Type 0} (r : Result T E) → IsOk r → OnOk r P → P
on_ok (Ok x) ok p = p
on_ok (Err e) ok p = absurd (true≢false (sym ok))

module _ {I S : Type 0} (old new : IndexMap (ArrayVec ℕ) I S) (k : ArrayVec ℕ) (name : List ℕ) (is : k.items ≡ name) where
  -- a name that was added, or removed
  pub ids-updated : (o : Option I) → Updates same_name old new k o
      → ◌≡◌ {A = List ℕ → Option I} (λ n. get same_name new (record { items = n }))
      (λ n. if bytes_eq name n then o else get same_name old (record { items = n }))
  ids-updated o up = fun_ext (λ n. up.0 (record { items = n }) ∙ ap (λ t. if bytes_eq t n then o else get same_name old (record { items = n })) is)

named : (b : Bool) (o p : Option (ArrayVec ℕ)) → text_or_none (if b then o else p) ≡ (if b then text_or_none o else text_or_none p)
named true o p = refl
named false o p = refl

module _ {I S : Type 0} (eq : I → I → Bool) (old new : IndexMap I (ArrayVec ℕ) S) (x : I) where
  -- an id that got a name, or lost it
  pub names-updated : (o : Option (ArrayVec ℕ)) (name : List ℕ) → text_or_none o ≡ name → Updates eq old new x o
      → ◌≡◌ {A = I → List ℕ} (λ y. text_or_none (get eq new y)) (λ y. if eq x y then name else text_or_none (get eq old y))
  names-updated o name is up =
      fun_ext (λ y. ap text_or_none (up.0 y) ∙ named (eq x y) o (get eq old y) ∙ ap (λ t. if eq x y then t else text_or_none (get eq old y)) is)
