-- `into_watcher` makes a box of a place that has a watcher.
use Rattle.std.proofs.Common.{◌≡◌, [], ◌∷◌, refl, sym, ap, ◌∙◌, subst}
use lib.Dec.{T}
use mir.Val.{Val, has_ty, WT}
use mir.Raw.{raw as bare}
use base.Fraction.{full_share}
use base.Logic.{SProp, id⊢, never, fst∗}
use base.Fml.{Lft}
use types.Logic.{sem}
use types.Kit.{‵, raw, ◌⊛◌, at_ret, ◌$◌, ◌∵◌, !, qed, by, move, keep, split, join, fsplit, use1, rewrite}
use types.Run.{stop, fld, of_opd, no_more, and_then, first, blocks, exec, returns}
use types.ByLocal.{alloc_all, pass_all, free_all, look_at, get, get_in, sets, lands_last, env}
use types.Part.{sub, whole}
use contract.Monad.{fact}
use contract.Running.{tables}
use denote.Exit.{yes}
use denote.RattleType.{RattleType, owns}
use denote.Signature.{types_at, plain}
use denote.RawPtr.{Ptr, block_ptr, null_ptr, ptr_val, in_a_block}
use denote.Steps.{only, heard}
use denote.Memory.{lone}
use denote.Param.{layout}
use denote.Param.NoDrop.{glues}
use denote.Triple.Clauses.{Lasts, lasts}
use denote.Triple.Entry.{alive}
use denote.Triple.Spec.{triple_of}
use denote.Triple.Call.{calls_at_last}
use denote.Triple.Table.{framed}
use denote.Triple.Walked.{Stays, stay_dropped, walk_of, Goes-dropped}
use Rattle.std.specs.Prelude.{Option, None, Some, is_some, true}
use Rattle.std.specs.Box.Ownership.{box_owns}
use Rattle.std.specs.contracts.impls.GlobalAllocator.TheImpl.{ghosts, dict}
use Rattle.std.specs.contracts.boxed.Box.from_raw as callee
use Rattle.std.proofs.boxed.Box.from_raw.Met.{met}
use Rattle.std.proofs.impls.GlobalAllocator.TheImpl.Met.{passed}
use Rattle.std.proofs.BoxSteps.Form as box
use Rattle.std.proofs.lemmas.Bool.{false≢true}
use Rattle.std.proofs.raw_atomic.Walks.{proved_at, leaves}
use Rattle.gl_window.specs.Strip.{Strip}
use Rattle.gl_c.specs.watchers.Posted.{owns_watcher}
use Rattle.gl_c.specs.contracts.watchers.lookout.posted.Posted as held
use Rattle.gl_c.proofs.places.PostedCalls.{Sess, sess_laws, Heap, heap_laws_passed, no_drop, Boxing, box_tells}
use Rattle.gl_c.proofs.places.PlaceSteps.{begins, said, used_up, tokens, two_lives, outlived, with_pointer, is_back}
use Rattle.gl_c.proofs.places.PlaceWords.{place, place_typed}
use Rattle.gl_c.proofs.places.PostedWords.{place_apart}
use Rattle.gl_c.specs.contracts.watchers.lookout.posted.Posted.into_watcher.{ended, clauses}
use Rattle.gl_c.specs.contracts.watchers.lookout.posted.Posted.into_watcher.Key.{name as #self}
use Rattle.gl_c.proofs.watchers.lookout.posted.Posted.into_watcher.Statement.{statement}
use Rattle.gl_c.proofs.watchers.lookout.posted.Posted.into_watcher.Code as code

-- the watcher at the place
there : (o : Option Strip) → is_some o ≡ true → (m : Strip) × (o ≡ Some m)
there (Some m) e = (m, refl)
there None e = absurd (false≢true e)

pub into_watcher_spec : {M : Type 1} → statement M
unfolding Rattle.gl_c.proofs.Destruct++none.drop.Code.code
into_watcher_spec {M} 𝓤 𝓛 𝓜 𝓡 wired =
    let asks = clauses 𝓛 𝓜.mem 𝓡.returns in
    let handed = plain (λ _. held.the_row) in
    let stays : Stays ended.signature.params ended.kept =
    (stay_dropped handed yes, tt) in
    proved_at 𝓛 ended stays asks 𝓜 𝓡
    (Goes-dropped 𝓛 0 handed yes (λ κs x f. refl), tt)
    #self code.function (code.unfolded 𝓤 𝓛.H 𝓜 𝓡 wired) (λ z are.
    let 𝓣 = tables 𝓤 𝓛.H 𝓜 𝓡 𝓡.env in
    let κs = z.0.0 in
    let d = z.0.3.0 in
    let a = d.alloc in
    let left : Val → SProp 𝓤 = (walk_of 𝓛 ended stays asks).post z in
    qed 𝓛
    ((raw (alive 𝓛 ended.signature κs z.0.1)
    ⊛ ‵ (owns (types_at ended.signature.params κs) z.0.3 z.0.4))
    ∷ raw (fact 𝓤 (is_some d.known ≡ true))
    ∷ []) ∵
    -- there is a watcher
    move ! (1 ∷ []) $
    heard ! (is_some d.known ≡ true) (λ somebody.
    let m = (there d.known somebody).0 in
    let is = (there d.known somebody).1 in
    -- the parameter is a place
    split ! $
    move ! (1 ∷ []) $
    fsplit ! $
    place_apart ! d z.0.4.0 (λ h spelled fits.
    -- which owns a box, so that the pointer is not null
    move ! (1 ∷ []) $
    rewrite ! 0 (λ (k : Option Strip). ‵ (owns_watcher a d.at k)) is refl $
    in_a_block ! d.at
    (λ p. box_owns (ghosts.dealloc_token a) Sess p m)
    (fst∗ 𝓤 (never 𝓤) (sem 𝓛 (ghosts.dealloc_token a (bare (lone Sess.mir)) null_ptr)))
    (λ b o at.
    let p : Ptr = block_ptr b o in
    begins ! 𝓣.C 𝓣.Λ code.function z.0.4.0 (place p h) left
    (subst (λ (q : Ptr). z.0.4.0 ≡ place q h ∷ []) at spelled) $
    alloc_all ! (λ l.
    pass_all ! refl (place_typed p h fits, tt) $
    let here = env code.function.locals l in
    -- the pointer to one local, the handle to another
    sets ! (of_opd ! (get_in !
    (fld ! refl (stop !)) (sub ! 0 refl (whole !))))
    refl (tt, tt) $
    sets ! (of_opd ! (get_in !
    (fld ! refl (stop !)) (sub ! 1 refl (whole !))))
    refl fits $
    first ! $
    blocks ! $
    -- what `from_raw` needs: that types outlive, the box, the handle and the pointer
    two_lives ! tt (λ α β.
    let κ : Lft = α ∷ [] in
    let ι : Lft = β ∷ [] in
    move ! (1 ∷ []) $
    outlived ! κ ι $
    move ! (2 ∷ []) $
    with_pointer ! (Heap.own_val a (h ∷ [])) p $
    move ! (2 ∷ []) $
    join ! $
    join ! $
    let from = triple_of 𝓛
    (callee.signature Sess Heap ghosts dict no_drop)
    (callee.spec Sess Heap ghosts dict no_drop 𝓛 𝓜.mem 𝓡.returns) in
    let y : from.Ghost = (
      (
        (κ, (ι, tt)),
        (full_share, (full_share, tt)),
        tt,
        (a, (p, tt)),
        (h ∷ [], (ptr_val p ∷ [], tt)),
      ),
      m,
    ) in
    let B : RattleType = box.B Boxing in
    let E = callee.ended Sess Heap ghosts dict no_drop in
    use1 𝓛 (raw (from.pre y)) (id⊢ 𝓤 _) $
    calls_at_last ! (framed 𝓤 𝓛.H 𝓜 𝓣) from
    (met 𝓤 𝓛 𝓜 𝓡
    (code.calls-std_alloc::boxed::Box::from_raw 𝓡.env wired)
    Sess Heap sess_laws heap_laws_passed ghosts dict no_drop
    (passed 𝓡.env
    (code.calls-std_heap::GlobalAllocator::allocate 𝓡.env wired)
    (code.calls-std_heap::GlobalAllocator::deallocate 𝓡.env wired)
    (code.calls-std_heap::GlobalAllocator::grow 𝓡.env wired)
    (code.calls-std_heap::GlobalAllocator::shrink 𝓡.env wired)
    M 𝓤 𝓛 𝓜 𝓡)
    (glues "gl_c::Destruct++none::drop" 𝓡.env
    (code.calls-gl_c::Destruct++none::drop 𝓡.env wired)
    Heap heap_laws_passed M 𝓤 𝓛 𝓜 𝓡))
    y
    (and_then ! (get ! refl) (and_then ! (get ! refl) (no_more !)))
    (λ u.
    is_back ! tt
    (tokens κ ι)
    (λ (r : B.Denot). ‵ (B.own_val r (u ∷ [])))
    (λ (ls : Lasts E y.0.0 y.0.3). ‵ (lasts E y.0.0 y.0.3 ls))
    (λ r. raw (fact 𝓤 (r.value ≡ m)))
    (λ r. raw (fact 𝓤 (r.alloc ≡ a)))
    (id⊢ 𝓤 (from.post y u)) (λ r.
    -- its word is that of a box
    box_tells ! r (u ∷ []) (λ b' o' h' word fits'.
    let typed : T (has_ty (layout B) u) × WT u =
    subst (λ (x : Val). T (has_ty (layout B) x) × WT x)
    (sym (ap only word)) (box.box_typed Boxing h' b' o' fits') in
    -- what is ensured: the box has the watcher of the place
    move ! (1 ∷ []) $
    heard ! (r.value ≡ m) (λ same.
    said ! (Some r.value ≡ d.known) (ap Some same ∙ sym is) $
    -- the box to the result
    lands_last ! refl typed $
    exec ! 𝓣.C 𝓣.Λ here code.Mir.t-4 (at_ret here left) $
    sets ! (of_opd ! (get ! refl)) refl typed $
    -- what is left of the parameter
    used_up ! $
    -- back
    returns ! (look_at ! 0 refl) $
    free_all ! refl $
    keep ! (6 ∷ 0 ∷ 2 ∷ 1 ∷ []) $
    by ! (leaves 𝓛 ended stays asks z u r (tt, tt) (tt, tt))))))))))))
