-- Steps that the walks of a place share. Assumes `Logic`.
use Rattle.std.proofs.Common.{◌≡◌, ℕ, List, [], ◌∷◌, ◌++◌, refl, sym, subst}
use seplogic.Ra.Ura.{Ura}
use base.Fraction.{full_share}
use base.Fml.{Fml, Lft, ftrue, flft, fsep, feq}
use base.Logic.{SProp, ent, emp}
use mir.Syntax.{Fn}
use mir.Val.{Val}
use prog.Wp.{Calls, Loops, WpFn}
use types.Logic.{Logic}
use types.Kit.{Item, Goal, prop, runs, allocs, params', at_ret, Seq, Soaks, Step, step, mean, ‵, raw, ◌⊛◌, some, later, ◌$◌, move, drop, split, join}
use types.Kit.{pick, fjoin, feq_i, use0, use1, await}
use types.Run.{enter}
use types.Tokens.{lft_new}
use contract.BorrowLft.{◌⊑◌, ⊑_static}
use contract.Monad.{fact, fact_i}
use denote.RawPtr.{Ptr, ptr_val}
use denote.Steps.{nothing}

-- the whole tokens of two lifetimes
abbrev pub tokens : {M : Type 1} {𝓤 : Ura M} → Lft → Lft → Item 𝓤
tokens α β = ‵ (flft α full_share) ⊛ ‵ (flft β full_share) ⊛ ‵ ftrue

module _
    {M : Type 1} {𝓤 : Ura M} {𝓛 : Logic 𝓤} {K : Type 0}
    {Γ : List (Item 𝓤)} where
  -- a function of one parameter begins, with this word
  pub begins : K → (C : Calls 𝓤 𝓛.H) (Λ : Loops 𝓤 𝓛.H) (f : Fn)
      → (ws : List Val) (w : Val) (Post : Val → SProp 𝓤)
      → ws ≡ w ∷ []
      → Step K 𝓛
      Γ (allocs f.locals (λ E. params' E (w ∷ []) (runs C Λ E f.body (at_ret E Post))))
      Γ (prop (WpFn 𝓤 𝓛.H C Λ f (ws ++ []) Post))
  begins t C Λ f ws w Post is = step (λ s.
      subst
      (λ (us : List Val). Seq K 𝓛 Γ (prop (WpFn 𝓤 𝓛.H C Λ f (us ++ []) Post)))
      (sym is)
      (enter t C Λ f (w ∷ []) Post $ s))

module _
    {M : Type 1} {𝓤 : Ura M} {𝓛 : Logic 𝓤} {K : Type 0}
    {Γ : List (Item 𝓤)} {G : Goal 𝓤 𝓛.H} where
  -- a true fact may be added
  pub said : K → (φ : Type 0) → φ → Step K 𝓛 (raw (fact 𝓤 φ) ∷ Γ) G Γ G
  said t φ x = step (λ s.
      use0 𝓛 (raw (fact 𝓤 φ)) (fact_i 𝓤 φ (emp 𝓤) x) $
      s)

  -- nothing is left of a parameter that was used up
  pub used_up : K → Step K 𝓛 (‵ (fsep ftrue ftrue) ∷ Γ) G Γ G
  used_up t = step (λ s.
      nothing t $
      nothing t $
      fjoin t $
      s)

module _
    {M : Type 1} {𝓤 : Ura M} {𝓛 : Logic 𝓤} {K : Type 0}
    {Γ : List (Item 𝓤)} {G : Goal 𝓤 𝓛.H} where
  -- two new lifetimes, whole, for a call
  pub two_lives : K → Soaks G
      → ((α β : ℕ) → Seq K 𝓛 (tokens (α ∷ []) (β ∷ []) ∷ Γ) G)
      → Seq K 𝓛 Γ G
  two_lives t soaks rest =
      lft_new t soaks (λ β.
      lft_new t soaks (λ α.
      -- the second of them with nothing after it
      nothing t $
      move t (2 ∷ 0 ∷ []) $
      join t $
      -- and the first before both
      move t (1 ∷ []) $
      join t $
      rest α β))

  -- what a call needs, if its types live forever, before its other conditions
  pub outlived : K → (α β : Lft) {P : Item 𝓤}
      → Step K 𝓛
      ((raw (fact 𝓤 (α ⊑ [])) ⊛ raw (fact 𝓤 (β ⊑ [])) ⊛ P) ∷ Γ) G
      (P ∷ Γ) G
  outlived t α β = step (λ s.
      said t (β ⊑ []) (⊑_static β) $
      join t $
      said t (α ⊑ []) (⊑_static α) $
      join t $
      s)

  -- the pointer that a call is passed after a handle
  pub with_pointer : K → (P : Fml) (p : Ptr)
      → let word : List Val = ptr_val p ∷ [] in
      Step K 𝓛
      (‵ (fsep P (fsep (feq (List Val) word word) ftrue)) ∷ Γ) G
      (‵ P ∷ Γ) G
  with_pointer t P p = step (λ s.
      let word : List Val = ptr_val p ∷ [] in
      -- there is nothing after it
      nothing t $
      feq_i t (List Val) word word refl $
      fjoin t $
      move t (1 ∷ []) $
      fjoin t $
      s)

  -- a call returns: its result, its two facts, and the tokens
  pub is_back : K → Soaks G → {R L : Type 0} {i : Item 𝓤}
      → (Toks : Item 𝓤) (Own : R → Item 𝓤) (Left : L → Item 𝓤) (P Q : R → Item 𝓤)
      → ent 𝓤 (mean 𝓛 i) (mean 𝓛 (later (some (λ (r : R).
      (Toks ⊛ Own r) ⊛ some (λ (l : L). Left l ⊛ (P r ⊛ Q r))))))
      → ((r : R) → Seq K 𝓛 (Own r ∷ P r ∷ Q r ∷ Toks ∷ Γ) G)
      → Seq K 𝓛 (i ∷ Γ) G
  is_back t soaks {R} {L} Toks Own Left P Q answer rest =
      use1 𝓛
      (later (some (λ (r : R).
      (Toks ⊛ Own r) ⊛ some (λ (l : L). Left l ⊛ (P r ⊛ Q r)))))
      answer $
      await t soaks $
      pick t (λ r.
      split t $
      -- nothing is left of its arguments
      move t (1 ∷ []) $
      pick t (λ l.
      split t $
      drop t $
      -- its two facts
      split t $
      -- its result, and the tokens last
      move t (2 ∷ []) $
      split t $
      move t (1 ∷ 2 ∷ 3 ∷ []) $
      rest r))
