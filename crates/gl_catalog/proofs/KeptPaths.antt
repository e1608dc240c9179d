-- The nodes above that a path keeps: what is climbed to from them, and what is added to them. For Manager.lock_path_telling.
use Rattle.std.specs.Prelude.{◌≡◌, ◌⊎◌, ◌-◌, suc, Bool, true, false, List, [], ◌∷◌, ◌++◌, length, slice_get, Some, if◌then◌else◌}
use Rattle.std.proofs.Common.{refl, sym, ap, ◌∙◌, inl, inr, subst, arith}
use Rattle.gl_modes.proofs.Words.{none_some, some_is}
use Rattle.gl_modes.specs.declared.mode.Mode.{Mode}
use Rattle.gl_modes.specs.declared.mode.Mode.TheVariants.{IS, IX}
use Rattle.gl_modes.specs.declared.node.NodeId.{NodeId}
use Rattle.gl_model.specs.declared.txn.TxnId.{TxnId}
use Rattle.gl_model.specs.State.{State, is_write}
use Rattle.gl_catalog.specs.Paths.{Ask, ClimbsTo, ClimbsUp, IsPathUp, intention, next_ask, parent_wanted}

intention_twice : (m : Mode) → intention (intention m) ≡ intention m
intention_twice m = by (is_write m)
  where
    by : (b : Bool) → intention (if b then IX else IS) ≡ (if b then IX else IS)
    by true = refl
    by false = refl

-- The request after one more node.
pub next_more : (ask : Ask) (ps : List NodeId) (p : NodeId) → next_ask ask (ps ++ p ∷ []) ≡ (p, intention (next_ask ask ps).1)
next_more ask [] p = refl
next_more ask (q ∷ ps) p = next_more (q, intention ask.1) ps p

next_mode : (ask : Ask) (ps : List NodeId) → intention (next_ask ask ps).1 ≡ intention ask.1
next_mode ask [] = refl
next_mode ask (q ∷ ps) = next_mode (q, intention ask.1) ps ∙ intention_twice ask.1

pub next_last : (ask : Ask) (ps : List NodeId) (p : NodeId) → next_ask ask (ps ++ p ∷ []) ≡ (p, intention ask.1)
next_last ask ps p = next_more ask ps p ∙ ap (λ (m : Mode). (p, m)) (next_mode ask ps)

-- by the last of them
pub next_by_last : (ask : Ask) (ps : List NodeId) (p : NodeId) → slice_get ps (length ps - 1) ≡ Some p → next_ask ask ps ≡ (p, intention ask.1)
next_by_last ask [] p h = absurd (none_some h)
next_by_last ask (q ∷ []) p h = ap (λ (n : NodeId). (n, intention ask.1)) (some_is h)
next_by_last ask (q ∷ r ∷ ps) p h =
    let one : length (q ∷ r ∷ ps) - 1 ≡ suc (length (r ∷ ps) - 1) = omega arith in
    next_by_last (q, intention ask.1) (r ∷ ps) p (sym (ap (slice_get (q ∷ r ∷ ps)) one) ∙ h) ∙ ap (λ (m : Mode). (p, m)) (intention_twice ask.1)

-- one more node, or that one alone
abbrev pub Kept : List NodeId → NodeId → List NodeId → Type 0
Kept ps p qs = (qs ≡ ps ++ p ∷ []) ⊎ (qs ≡ p ∷ [])

pub next_kept : (ask : Ask) (ps qs : List NodeId) (p : NodeId) → Kept ps p qs → next_ask ask qs ≡ (p, intention (next_ask ask ps).1)
next_kept ask ps qs p (inl e) = ap (next_ask ask) e ∙ next_more ask ps p
next_kept ask ps qs p (inr e) = ap (next_ask ask) e ∙ ap (λ (m : Mode). (p, m)) (sym (next_mode ask ps))

module _ (s : State) (t : TxnId) where
  pub climb_join : (a : Ask) (path : List NodeId) (b : Ask) (more : List NodeId) (c : Ask) → ClimbsTo s t a path b → ClimbsTo s t b more c
      → ClimbsTo s t a (path ++ more) c
  climb_join a [] b more c h k = subst (λ (x : Ask). ClimbsTo s t x more c) h k
  climb_join a (p ∷ path) b more c h k = (h.0, climb_join (p, intention a.1) path b more c h.1 k)

  -- the climb by them to the next request
  pub path_climbs : (ask : Ask) (ps : List NodeId) → IsPathUp s t ask ps → (path : List NodeId) × ClimbsTo s t ask path (next_ask ask ps)
  path_climbs ask [] h = ([], refl)
  path_climbs ask (p ∷ ps) h =
      let rest = path_climbs (p, intention ask.1) ps h.1 in
      (h.0.0 ∷ h.0.1 ++ rest.0, climb_join ask (h.0.0 ∷ h.0.1) (p, intention ask.1) rest.0 (next_ask (p, intention ask.1) ps) h.0.2 rest.1)

  up_by : (a : Ask) (path : List NodeId) (p : NodeId) (top : Ask) → ClimbsTo s t a (path ++ p ∷ []) top → ClimbsUp s t a top
  up_by a [] p top h = (p, [], h)
  up_by a (q ∷ path) p top h = (q, path ++ p ∷ [], h)

  path_more : (ask : Ask) (ps : List NodeId) (p : NodeId) → IsPathUp s t ask ps → parent_wanted s t (next_ask ask ps) ≡ Some p → IsPathUp s t ask (ps ++ p ∷ [])
  path_more ask [] p h w = ((p, [], (w, refl)), tt)
  path_more ask (q ∷ ps) p h w = (h.0, path_more (q, intention ask.1) ps p h.1 w)

  path_anew : (ask : Ask) (ps : List NodeId) (p : NodeId) → IsPathUp s t ask ps → parent_wanted s t (next_ask ask ps) ≡ Some p → IsPathUp s t ask (p ∷ [])
  path_anew ask ps p h w =
      let to = path_climbs ask ps h in
      let up : ClimbsTo s t ask (to.0 ++ p ∷ []) (p, intention (next_ask ask ps).1) =
      climb_join ask to.0 (next_ask ask ps) (p ∷ []) (p, intention (next_ask ask ps).1) to.1 (w, refl) in
      (up_by ask to.0 p (p, intention ask.1) (subst (λ (m : Mode). ClimbsTo s t ask (to.0 ++ p ∷ []) (p, m)) (next_mode ask ps) up), tt)

  -- the parent that the next request needs is kept too
  pub path_kept : (ask : Ask) (ps qs : List NodeId) (p : NodeId) → IsPathUp s t ask ps → parent_wanted s t (next_ask ask ps) ≡ Some p → Kept ps p qs
      → IsPathUp s t ask qs
  path_kept ask ps qs p h w (inl e) = subst (IsPathUp s t ask) (sym e) (path_more ask ps p h w)
  path_kept ask ps qs p h w (inr e) = subst (IsPathUp s t ask) (sym e) (path_anew ask ps p h w)
