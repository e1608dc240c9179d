-- `none` puts null and the handle together: it owns no session.
use Rattle.std.proofs.Common.{◌≡◌, [], ◌∷◌, refl}
use mir.Val.{Val}
use base.Logic.{SProp}
use types.Kit.{‵, raw, ◌⊛◌, ◌$◌, ◌∵◌, !, qed, by, move, keep, split, fsplit}
use types.Run.{lit, no_more, and_then, returns}
use types.ByLocal.{alloc_all, pass_all, free_all, look_at, get, sets}
use types.Part.{agg}
use contract.Running.{tables}
use denote.Exit.{yes}
use denote.RattleType.{owns}
use denote.Signature.{types_at, plain}
use denote.RawPtr.{null_ptr}
use denote.Steps.{nothing}
use denote.Triple.Entry.{alive}
use denote.Triple.Walked.{Stays, stay_dropped, walk_of, Goes-dropped}
use Rattle.std.specs.Prelude.{Option, None}
use Rattle.std.specs.contracts.alloc.Global as heap
use Rattle.std.proofs.alloc.Calls.{handle_tells}
use Rattle.std.proofs.raw_atomic.Walks.{proved_at, leaves}
use Rattle.gl_c.specs.managers.Guarded.{GuardedView}
use Rattle.gl_c.proofs.places.PlaceSteps.{begins, said, used_up}
use Rattle.gl_c.proofs.places.PlaceWords.{plain_heap, place, place_typed, place_together}
use Rattle.gl_c.specs.contracts.managers.handle.held.Held.none.{ended, clauses}
use Rattle.gl_c.specs.contracts.managers.handle.held.Held.none.Key.{name as #self}
use Rattle.gl_c.proofs.managers.handle.held.Held.none.Statement.{statement}
use Rattle.gl_c.proofs.managers.handle.held.Held.none.Code as code

pub none_spec : {M : Type 1} → statement M
none_spec 𝓤 𝓛 𝓜 𝓡 wired =
    let asks = clauses 𝓛 𝓜.mem 𝓡.returns in
    let handed = plain (λ _. heap.the_row) in
    let stays : Stays ended.signature.params ended.kept =
    (stay_dropped handed yes, tt) in
    proved_at 𝓛 ended stays asks 𝓜 𝓡
    (Goes-dropped 𝓛 0 handed yes (λ κs x f. refl), tt)
    #self code.function (code.unfolded 𝓤 𝓛.H 𝓜 𝓡 wired) (λ z are.
    let 𝓣 = tables 𝓤 𝓛.H 𝓜 𝓡 𝓡.env in
    let κs = z.0.0 in
    let a = z.0.3.0 in
    let left : Val → SProp 𝓤 = (walk_of 𝓛 ended stays asks).post z in
    let nobody : Option GuardedView = None in
    qed 𝓛
    ((raw (alive 𝓛 ended.signature κs z.0.1)
    ⊛ ‵ (owns (types_at ended.signature.params κs) z.0.3 z.0.4))
    ∷ raw ((asks κs z.0.3).requires z.1)
    ∷ []) ∵
    -- the parameter is a handle, of one word
    split ! $
    move ! (1 ∷ []) $
    fsplit ! $
    handle_tells plain_heap ! a z.0.4.0 (λ h is fits.
    begins ! 𝓣.C 𝓣.Λ code.function z.0.4.0 h left is $
    alloc_all ! (λ l.
    pass_all ! refl (fits, tt) $
    -- null and the handle
    sets ! (agg ! (and_then ! (lit ! tt)
    (and_then ! (get ! refl) (no_more !))))
    refl (place_typed null_ptr h fits) $
    -- nothing is owned at null
    nothing ! $
    move ! (1 ∷ []) $
    place_together ! null_ptr h a None $
    -- what is ensured, and what is left of the parameter
    said ! (nobody ≡ None) refl $
    used_up ! $
    -- back
    returns ! (look_at ! 0 refl) $
    free_all ! refl $
    keep ! (5 ∷ 0 ∷ 2 ∷ 1 ∷ []) $
    by ! (leaves 𝓛 ended stays asks z (place null_ptr h)
    (record { at = null_ptr; alloc = a; guarded = None })
    (tt, tt) (tt, tt)))))
