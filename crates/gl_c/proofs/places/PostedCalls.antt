-- What the box's functions are passed for a watcher and for the allocator. Assumes `Logic`.
use Rattle.std.proofs.Common.{◌≡◌, ℕ, List, [], ◌∷◌, refl, sym}
use seplogic.Ra.Ura.{Ura}
use mir.Raw.{raw as bare}
use mir.Syntax.{Dict, impl, tnil, tcons, dnil}
use mir.Val.{Val}
use types.Logic.{Logic}
use types.Kit.{Item, Goal, Seq, ‵, ◌$◌, rewrite}
use denote.Exit.{no}
use denote.RattleType.{RattleType}
use denote.Param.{layout, arg}
use denote.Param.Laws.{Laws, arg_laws}
use Rattle.std.specs.contracts.impls.GlobalAllocator.TheImpl.{ghosts, dict}
use Rattle.std.specs.contracts.alloc.Global as heap
use Rattle.std.proofs.alloc.Calls.{Fits}
use Rattle.std.proofs.alloc.Global.TheLaws as heap_laws
use Rattle.std.proofs.BoxSteps.Form as box
use Rattle.std.proofs.BoxSteps.Steps.{box_out, box_in}
use Rattle.gl_c.specs.contracts.watchers.watcher.Watcher as session
use Rattle.gl_c.proofs.watchers.watcher.Watcher.TheLaws as session_laws

-- a watcher
abbrev pub Sess : RattleType
Sess = arg (bare (layout session.the_row)) no session.the_row

abbrev pub sess_laws : Laws Sess
sess_laws =
    arg_laws (bare (layout session.the_row)) no session.the_row
    session_laws.the_row_laws refl

-- the allocator
abbrev pub Heap : RattleType
Heap = arg (bare (layout heap.the_row)) no heap.the_row

abbrev pub heap_laws_passed : Laws Heap
heap_laws_passed =
    arg_laws (bare (layout heap.the_row)) no heap.the_row
    heap_laws.the_row_laws refl

-- which is dropped by doing nothing
abbrev pub no_drop : Dict
no_drop = impl ("gl_c::Destruct++none::drop" ∷ []) (tcons (layout Heap) tnil) dnil

-- a watcher's box
abbrev pub Boxing : box.Bx
Boxing = record {
  row = Sess;
  laws = sess_laws;
  al = record { row = Heap; laws = heap_laws_passed; g = ghosts; d = dict; drops = no_drop };
}

module _
    {M : Type 1} {𝓤 : Ura M} {𝓛 : Logic 𝓤} {K : Type 0}
    {Γ : List (Item 𝓤)} {G : Goal 𝓤 𝓛.H} where
  -- a box tells what its word is, and is a box as before
  pub box_tells : K → (d : box.D Boxing) (vs : List Val)
      → ((b o : ℕ) (h : Val) → vs ≡ box.word Boxing h b o ∷ [] → Fits Boxing.al h
      → Seq K 𝓛 (‵ ((box.B Boxing).own_val d vs) ∷ Γ) G)
      → Seq K 𝓛 (‵ ((box.B Boxing).own_val d vs) ∷ Γ) G
  box_tells t d vs rest =
      box_out Boxing t d vs (λ b o h at is fits.
      box_in Boxing t d b o d.value at refl $
      rewrite t 0 (λ (us : List Val). ‵ ((box.B Boxing).own_val d us)) (sym is) refl $
      rest b o h is fits)
