-- `of` takes a box apart, and its two words make a place.
use Rattle.std.proofs.Common.{◌≡◌, List, [], ◌∷◌, refl, ap, ◌∙◌}
use mir.Syntax.{Dict, impl, tnil, dnil, method}
use mir.Val.{Val}
use mir.Raw.{raw as bare}
use base.Fraction.{full_share}
use base.Fml.{Lft}
use base.Logic.{SProp, id⊢, never, fst∗}
use types.Logic.{sem}
use types.Kit.{‵, raw, ◌⊛◌, ◌$◌, ◌∵◌, !, qed, by, move, keep, split, join, fsplit, fjoin, use1, rewrite}
use types.Run.{stop, fld, of_opd, no_more, and_then, returns}
use types.ByLocal.{alloc_all, pass_all, free_all, look_at, get, get_in, sets, lands_as}
use types.Part.{agg, sub, whole}
use contract.Monad.{fact}
use contract.Running.{tables}
use denote.Exit.{yes}
use denote.RattleType.{RattleType, owns}
use denote.Signature.{types_at, plain}
use denote.RawPtr.{Ptr, block_ptr, null_ptr, in_a_block}
use denote.Steps.{nothing, only, heard}
use denote.Memory.{lone}
use denote.Param.{param, layouts}
use denote.Param.NoDrop.{glues}
use denote.Struct.Struct.{Struct}
use denote.Triple.Carry.{AllWithin}
use denote.Triple.Clauses.{Lasts, lasts, at_exit}
use denote.Triple.Entry.{alive}
use denote.Triple.Spec.{triple_of}
use denote.Triple.Call.{calls_at}
use denote.Triple.Table.{framed}
use denote.Triple.Walked.{Stays, Fit, stay_dropped, walk_of, Goes-dropped}
use borrow.Fn.Glue.{glue_by, glue_ps}
use borrow.Fn.Impl.{via_longer, method_Known}
use borrow.Fn.Kinds.{ended_of, stays as args_stay, r_unit}
use borrow.Fn.Run.{Over}
use borrow.Fn.World.{World}
use Rattle.std.specs.Prelude.{Some}
use Rattle.std.specs.Box.Ownership.{box_owns}
use Rattle.std.specs.contracts.impls.GlobalAllocator.TheImpl.{ghosts, dict}
use Rattle.std.specs.contracts.alloc.Global as heap
use Rattle.std.specs.contracts.boxed.Box as boxed
use Rattle.std.specs.contracts.boxed.Box.into_raw_with_allocator as callee
use Rattle.std.specs.declared.alloc.Global.{Global}
use Rattle.std.proofs.boxed.Box.into_raw_with_allocator.Met.{met}
use Rattle.std.proofs.impls.GlobalAllocator.TheImpl.Met.{passed}
use Rattle.std.proofs.BoxSteps.Form as box
use Rattle.std.proofs.raw_atomic.Walks.{proved_at, leaves}
use Rattle.gl_c.proofs.places.PostedCalls.{Sess, sess_laws, Heap, heap_laws_passed, no_drop, Boxing, box_tells}
use Rattle.gl_c.proofs.places.PlaceSteps.{begins, said, used_up, tokens, two_lives, outlived, is_back}
use Rattle.gl_c.proofs.places.PlaceWords.{fields, place, place_typed, apart}
use Rattle.gl_c.proofs.places.PostedWords.{place_together}
use Rattle.gl_c.proofs.gl_c++watchers++watcher++Watcher+Destruct.drop.Kinds as drops
use Rattle.gl_c.proofs.gl_c++watchers++watcher++Watcher+Destruct.drop.Met as drops-met
use Rattle.gl_c.proofs.gl_c++watchers++watcher++Watcher+Destruct.drop.Reads as reads
use Rattle.gl_c.proofs.gl_c++watchers++watcher++Watcher+Destruct.drop.Symbol as drops-symbol
use Rattle.gl_c.specs.contracts.watchers.watcher.Watcher as session
use Rattle.gl_c.specs.contracts.watchers.lookout.posted.Posted.of.{ended, clauses}
use Rattle.gl_c.specs.contracts.watchers.lookout.posted.Posted.of.Key.{name as #self}
use Rattle.gl_c.proofs.watchers.lookout.posted.Posted.of.Statement.{statement}
use Rattle.gl_c.proofs.watchers.lookout.posted.Posted.of.Code as code

-- the parameter
abbrev Boxed : RattleType
Boxed = boxed.the_row session.the_row heap.the_row ghosts

-- how a watcher is dropped
abbrev dropper : Dict
dropper = impl ("gl_c::gl_c++watchers++watcher++Watcher+Destruct::drop" ∷ []) tnil dnil

pub of_spec : {M : Type 1} → statement M
unfolding Rattle.gl_c.proofs.Destruct++none.drop.Code.code
of_spec {M} 𝓤 𝓛 𝓜 𝓡 wired =
    let asks = clauses 𝓛 𝓜.mem 𝓡.returns in
    let handed = plain (λ _. Boxed) in
    let stays : Stays ended.signature.params ended.kept =
    (stay_dropped handed yes, tt) in
    proved_at 𝓛 ended stays asks 𝓜 𝓡
    (Goes-dropped 𝓛 0 handed yes (λ κs x f. refl), tt)
    #self code.function (code.unfolded 𝓤 𝓛.H 𝓜 𝓡 wired) (λ z are.
    let 𝓣 = tables 𝓤 𝓛.H 𝓜 𝓡 𝓡.env in
    let κs = z.0.0 in
    let d = z.0.3.0 in
    let a = d.alloc in
    let m = d.value in
    let left : Val → SProp 𝓤 = (walk_of 𝓛 ended stays asks).post z in
    qed 𝓛
    ((raw (alive 𝓛 ended.signature κs z.0.1)
    ⊛ ‵ (owns (types_at ended.signature.params κs) z.0.3 z.0.4))
    ∷ raw ((asks κs z.0.3).requires z.1)
    ∷ []) ∵
    -- the parameter is a box, of one word
    split ! $
    move ! (1 ∷ []) $
    fsplit ! $
    box_tells ! d z.0.4.0 (λ b o h is fits.
    let w : Val = box.word Boxing h b o in
    let typed = box.box_typed Boxing h b o fits in
    rewrite ! 0 (λ (us : List Val). ‵ ((box.B Boxing).own_val d us)) is refl $
    begins ! 𝓣.C 𝓣.Λ code.function z.0.4.0 w left is $
    alloc_all ! (λ l.
    pass_all ! refl (typed, tt) $
    sets ! (of_opd ! (get ! refl)) refl typed $
    -- what `into_raw_with_allocator` needs: the box, and that types outlive
    fjoin ! $
    two_lives ! tt (λ α β.
    let κ : Lft = α ∷ [] in
    let ι : Lft = β ∷ [] in
    join ! $
    nothing ! $
    outlived ! κ ι $
    move ! (1 ∷ []) $
    join ! $
    let into = triple_of 𝓛
    (callee.signature Sess Heap ghosts dict no_drop dropper)
    (callee.spec Sess Heap ghosts dict no_drop dropper 𝓛 𝓜.mem 𝓡.returns) in
    let y : into.Ghost = (
      (
        (κ, (ι, tt)),
        (full_share, (full_share, tt)),
        tt,
        (d, tt),
        (w ∷ [], tt),
      ),
      tt,
    ) in
    let E = callee.ended Sess Heap ghosts dict no_drop dropper in
    use1 𝓛 (raw (into.pre y)) (id⊢ 𝓤 _) $
    calls_at ! (framed 𝓤 𝓛.H 𝓜 𝓣) into
    (met 𝓤 𝓛 𝓜 𝓡
    (code.calls-std_alloc::boxed::Box::into_raw_with_allocator 𝓡.env wired)
    Sess Heap sess_laws heap_laws_passed ghosts dict no_drop dropper
    (passed 𝓡.env
    (code.calls-std_heap::GlobalAllocator::allocate 𝓡.env wired)
    (code.calls-std_heap::GlobalAllocator::deallocate 𝓡.env wired)
    (code.calls-std_heap::GlobalAllocator::grow 𝓡.env wired)
    (code.calls-std_heap::GlobalAllocator::shrink 𝓡.env wired)
    M 𝓤 𝓛 𝓜 𝓡)
    (glues "gl_c::Destruct++none::drop" 𝓡.env
    (code.calls-gl_c::Destruct++none::drop 𝓡.env wired)
    Heap heap_laws_passed M 𝓤 𝓛 𝓜 𝓡)
    -- a watcher is dropped by its own drop
    (let drop_it = code.calls-gl_c::gl_c++watchers++watcher++Watcher+Destruct::drop 𝓡.env wired in
    let world : World = record { M = M; 𝓤 = 𝓤; 𝓛 = 𝓛; 𝓜 = 𝓜; 𝓡 = 𝓡 } in
    let D = ended_of 0 drops.ps drops.r in
    let by_name = method dropper 0 (layouts [] tt) in
    glue_by Sess sess_laws world dropper 𝓡.env
    (λ κs a. Lasts D tt a)
    (λ κs a. lasts D tt a)
    (λ κs a x ws. Fit D (args_stay drops.ps) tt a ws
    × reads.Learnt tt a x (at_exit D tt a ws))
    (λ κs a. AllWithin 1 (κs.0, tt) (Sess.lives, tt) × Unit {0})
    0 tt
    (λ κs a h. ((h, tt), tt))
    (via_longer 𝓛 (Over 𝓛 𝓜 𝓡 𝓡.env) 1
    (glue_ps Sess sess_laws) r_unit
    (λ κs a. Lasts D tt a)
    (λ κs a. lasts D tt a)
    (λ κs a x ws. Fit D (args_stay drops.ps) tt a ws
    × reads.Learnt tt a x (at_exit D tt a ws))
    (λ κs a. AllWithin 1 (κs.0, tt) (Sess.lives, tt) × Unit {0})
    by_name 0 tt
    (λ κs. tt)
    (λ κs a. reads.Asked tt a)
    (λ κs a p. (tt, tt))
    (λ κs bd within a vss qs.
    method_Known 0 drops.ps drops.r
    reads.requires reads.ensures reads.Asked reads.Learnt reads.known
    world drops-symbol.name by_name
    (drops-symbol.as_method 𝓡.env drop_it by_name refl)
    (drops-met.met 𝓤 𝓛 𝓜 𝓡 drop_it)
    ((tt, qs, tt, a, vss), tt)))))
    y
    (and_then ! (get ! refl) (no_more !))
    (λ u.
    is_back ! tt
    (tokens κ ι)
    (λ (r : Ptr × Global). ‵ ((Struct (fields Boxing.al)).own_val (r.0, (r.1, tt)) (u ∷ [])))
    (λ (ls : Lasts E y.0.0 y.0.3). ‵ (lasts E y.0.0 y.0.3 ls))
    (λ r. raw (fact 𝓤 (r.1 ≡ a)))
    (λ r. ‵ (box_owns (ghosts.dealloc_token a) (param 0 Sess) r.0 m))
    (id⊢ 𝓤 _) (λ r.
    -- its allocator is the box's
    move ! (1 ∷ []) $
    heard ! (r.1 ≡ a) (λ same.
    apart ! Boxing.al r.0 r.1 (u ∷ []) (λ h' spelled fits'.
    rewrite ! 0 (λ (s : Global). ‵ (Heap.own_val s (h' ∷ []))) same refl $
    -- its pointer owns a box, so that it is not null
    move ! (1 ∷ []) $
    in_a_block ! r.0
    (λ p. box_owns (ghosts.dealloc_token a) (param 0 Sess) p m)
    (fst∗ 𝓤 (never 𝓤) (sem 𝓛 (ghosts.dealloc_token a (bare (lone Sess.mir)) null_ptr)))
    (λ b' o' at.
    let p : Ptr = block_ptr b' o' in
    let made = place_typed p h' fits' in
    lands_as ! (ap only spelled ∙ ap (λ (q : Ptr). place q h') at) refl made $
    -- the pointer to one local, the handle to another, and both to the result
    sets ! (of_opd ! (get_in !
    (fld ! refl (stop !)) (sub ! 0 refl (whole !))))
    refl (tt, tt) $
    sets ! (of_opd ! (get_in !
    (fld ! refl (stop !)) (sub ! 1 refl (whole !))))
    refl fits' $
    sets ! (agg ! (and_then ! (get ! refl)
    (and_then ! (get ! refl) (no_more !))))
    refl made $
    move ! (1 ∷ []) $
    place_together ! p h' a (Some m) $
    -- what is ensured, and what is left of the parameter
    said ! (Some m ≡ Some m) refl $
    used_up ! $
    -- back
    returns ! (look_at ! 0 refl) $
    free_all ! refl $
    keep ! (4 ∷ 0 ∷ 2 ∷ 1 ∷ []) $
    by ! (leaves 𝓛 ended stays asks z (place p h')
    (record { at = p; alloc = a; known = Some m })
    (tt, tt) (tt, tt)))))))))))
