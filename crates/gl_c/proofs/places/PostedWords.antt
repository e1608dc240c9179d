-- The place of a watcher, taken apart and put together. Assumes `Logic`.
use Rattle.std.proofs.Common.{◌≡◌, List, [], ◌∷◌}
use seplogic.Ra.Ura.{Ura}
use mir.Val.{Val}
use types.Logic.{Logic}
use types.Kit.{Item, Goal, Seq, Step, step, ‵, ◌$◌, fsplit, fjoin}
use denote.RawPtr.{Ptr}
use Rattle.std.specs.Prelude.{Option}
use Rattle.std.specs.declared.alloc.Global.{Global}
use Rattle.std.specs.contracts.alloc.Global as heap
use Rattle.std.proofs.alloc.Calls.{Fits}
use Rattle.gl_window.specs.Strip.{Strip}
use Rattle.gl_c.specs.watchers.Posted.{owns_watcher}
use Rattle.gl_c.specs.contracts.watchers.lookout.posted.Posted as held
use Rattle.gl_c.proofs.places.PlaceWords.{plain_heap, place, apart, together}

module _
    {M : Type 1} {𝓤 : Ura M} {𝓛 : Logic 𝓤} {K : Type 0}
    {Γ : List (Item 𝓤)} {G : Goal 𝓤 𝓛.H} where
  -- a place by value: the handle, and what is owned there
  pub place_apart : K → (d : (held.the_row).Denot) (vs : List Val)
      → ((h : Val) → vs ≡ place d.at h ∷ [] → Fits plain_heap h
      → Seq K 𝓛 (‵ ((heap.the_row).own_val d.alloc (h ∷ []))
      ∷ ‵ (owns_watcher d.alloc d.at d.known) ∷ Γ) G)
      → Seq K 𝓛 (‵ ((held.the_row).own_val d vs) ∷ Γ) G
  place_apart t d vs rest =
      fsplit t $
      apart t plain_heap d.at d.alloc vs rest

  pub place_together : K → (p : Ptr) (h : Val) (a : Global) (m : Option Strip)
      → Step K 𝓛
      (‵ ((held.the_row).own_val
      (record { at = p; alloc = a; known = m }) (place p h ∷ [])) ∷ Γ) G
      (‵ ((heap.the_row).own_val a (h ∷ [])) ∷ ‵ (owns_watcher a p m) ∷ Γ) G
  place_together t p h a m = step (λ s.
      together t plain_heap p a h $
      fjoin t $
      s)
