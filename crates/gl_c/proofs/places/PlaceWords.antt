-- The two words of a place, its pointer and its handle. Assumes `Logic`.
use Rattle.std.proofs.Common.{◌≡◌, List, [], ◌∷◌, ◌++◌, refl, ◌∙◌, lit<}
use lib.Dec.{T}
use seplogic.Ra.Ura.{Ura}
use mir.Syntax.{impl, tnil, dnil}
use mir.Val.{Val, vstruct, of_list, has_ty, WT}
use types.Logic.{Logic}
use types.Kit.{Item, Goal, Seq, Step, step, ‵, ◌$◌, move, drop, fsplit, fjoin, fpick, fpack, feq_i, feq_l}
use denote.RattleType.{Valss}
use denote.Builtin.{RawPtr}
use denote.Param.{layout}
use denote.RawPtr.{Ptr, block_ptr, null_ptr, ptr_val}
use denote.Steps.{nothing}
use denote.Struct.Struct.{Shape, Struct, within}
use Rattle.std.specs.Prelude.{Option}
use Rattle.std.specs.contracts.impls.GlobalAllocator.TheImpl.{ghosts}
use Rattle.std.specs.declared.alloc.Global.{Global}
use Rattle.std.specs.contracts.alloc.Global as heap
use Rattle.std.proofs.alloc.Calls.{Al, Fits, handle_tells}
use Rattle.std.proofs.alloc.Global.TheLaws as heap_laws
use Rattle.std.proofs.ResultValues.{and_tt}
use Rattle.gl_c.specs.managers.Guarded.{GuardedView}
use Rattle.gl_c.specs.managers.Held.{owns_session}
use Rattle.gl_c.specs.contracts.managers.handle.held.Held as held

-- the allocator of a place
abbrev pub plain_heap : Al
plain_heap = record {
  row = heap.the_row;
  laws = heap_laws.the_row_laws;
  g = ghosts;
  d = impl [] tnil dnil;
  drops = impl [] tnil dnil;
}

-- a struct of a pointer and a handle
abbrev pub fields : Al → Shape
fields a = record { name = []; args = []; types = []; fields = RawPtr ∷ a.row ∷ [] }

-- its machine value
abbrev pub place : Ptr → Val → Val
place p h = vstruct (of_list (ptr_val p ∷ h ∷ []))

-- words that are a pointer's and a handle's spell a place
spelled : (p : Ptr) (h : Val) {vs ps hs : List Val}
    → vs ≡ vstruct (of_list (ps ++ (hs ++ []))) ∷ []
    → ps ≡ ptr_val p ∷ []
    → hs ≡ h ∷ []
    → vs ≡ place p h ∷ []
spelled p h all first second =
    all ∙ (λ i. vstruct (of_list (first i ++ (second i ++ []))) ∷ [])

-- null or not, it has the type of a place
pub place_typed : (p : Ptr) (h : Val) → Fits plain_heap h
    → T (has_ty (layout held.the_row) (place p h)) × WT (place p h)
place_typed null_ptr h fits = (
  and_tt (has_ty (layout heap.the_row) h) fits.0,
  (record { fits = lit< tt }, (fits.1, tt)),
)
place_typed (block_ptr b o) h fits = (
  and_tt (has_ty (layout heap.the_row) h) fits.0,
  (tt, (fits.1, tt)),
)

module _
    {M : Type 1} {𝓤 : Ura M} {𝓛 : Logic 𝓤} {K : Type 0}
    {Γ : List (Item 𝓤)} {G : Goal 𝓤 𝓛.H} where
  -- the two fields, taken apart: the handle stays, with what the words are
  pub apart : K → (a : Al) (p : Ptr) (x : a.row.Denot) (vs : List Val)
      → ((h : Val) → vs ≡ place p h ∷ [] → Fits a h
      → Seq K 𝓛 (‵ (a.row.own_val x (h ∷ [])) ∷ Γ) G)
      → Seq K 𝓛 (‵ ((Struct (fields a)).own_val (p, (x, tt)) vs) ∷ Γ) G
  apart t a p x vs rest =
      -- the words of each field
      fpick t (λ words.
      fsplit t $
      feq_l t (λ all.
      -- the pointer's word says all of the pointer
      fsplit t $
      feq_l t (λ first.
      -- there is nothing after the handle
      fsplit t $
      move t (1 ∷ []) $
      drop t $
      handle_tells a t x words.1.0 (λ h second fits.
      rest h (spelled p h all first second) fits))))

  -- and put together
  pub together : K → (a : Al) (p : Ptr) (x : a.row.Denot) (h : Val)
      → Step K 𝓛
      (‵ ((Struct (fields a)).own_val (p, (x, tt)) (place p h ∷ [])) ∷ Γ) G
      (‵ (a.row.own_val x (h ∷ [])) ∷ Γ) G
  together t a p x h = step (λ s.
      let first = ptr_val p ∷ [] in
      let all = place p h ∷ [] in
      -- there is nothing after the handle
      nothing t $
      move t (1 ∷ []) $
      fjoin t $
      feq_i t (List Val) first first refl $
      fjoin t $
      feq_i t (List Val) all all refl $
      fjoin t $
      fpack t (Valss (RawPtr ∷ a.row ∷ []))
      (within (fields a) (p, (x, tt)) all)
      (first, (h ∷ [], tt)) $
      s)

module _
    {M : Type 1} {𝓤 : Ura M} {𝓛 : Logic 𝓤} {K : Type 0}
    {Γ : List (Item 𝓤)} {G : Goal 𝓤 𝓛.H} where
  -- a place by value: the handle, and what is owned there
  pub place_apart : K → (d : (held.the_row).Denot) (vs : List Val)
      → ((h : Val) → vs ≡ place d.at h ∷ [] → Fits plain_heap h
      → Seq K 𝓛 (‵ ((heap.the_row).own_val d.alloc (h ∷ []))
      ∷ ‵ (owns_session d.alloc d.at d.guarded) ∷ Γ) G)
      → Seq K 𝓛 (‵ ((held.the_row).own_val d vs) ∷ Γ) G
  place_apart t d vs rest =
      fsplit t $
      apart t plain_heap d.at d.alloc vs rest

  pub place_together : K → (p : Ptr) (h : Val) (a : Global) (m : Option GuardedView)
      → Step K 𝓛
      (‵ ((held.the_row).own_val
      (record { at = p; alloc = a; guarded = m }) (place p h ∷ [])) ∷ Γ) G
      (‵ ((heap.the_row).own_val a (h ∷ [])) ∷ ‵ (owns_session a p m) ∷ Γ) G
  place_together t p h a m = step (λ s.
      together t plain_heap p a h $
      fjoin t $
      s)
