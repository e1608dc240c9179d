-- Nodes are unlocked one after the other: what is left, and what is told since. For rollbacks.
use Rattle.gl_model.proofs.Words.{◌&&◌, ◌++◌, [], ◌∙◌, ◌∷◌, ◌≡◌, Active, ap, arith, Bool, child_held, clash, Detect, false, find, HasNoCycle, held_child, holds}
use Rattle.gl_model.proofs.Words.{is_child, is_wait, IsBetween, IsLawful, IsOrderly, List, list_any, members, nat_tests, NL, NodeId, nodes, None, not_true}
use Rattle.gl_model.proofs.Words.{refl, Some, State, status_in, status_of, subst, sym, unlocked, Victims, with_grant, ℕ}
use Rattle.gl_model.specs.Calls.{holds_child, Unlocks}
use Rattle.gl_model.proofs.law.Lock.{unlocked-lawful, unlocked-no_cycle}
use Rattle.gl_model.proofs.law.Orderly.{lawful_orderly}
use Rattle.gl_model.proofs.queues.Waiters.{if-false}
use Rattle.gl_model.proofs.telling.Fronts.{front_stands, in_no_queue, well_granted, woken_front}
use Rattle.gl_model.proofs.telling.Between.{between_releases}

-- some are unlocked, and then some more
pub unlocks_append : (s mid s' : State) (t : ℕ) (ns ms : List NodeId) → Unlocks s t ns mid → Unlocks mid t ms s' → Unlocks s t (ns ++ ms) s'
unlocks_append s mid s' t [] ms h k = subst (λ (x : State). Unlocks x t ms s') h k
unlocks_append s mid s' t (n ∷ ns) ms h k = (h.0, h.1, unlocks_append (unlocked s t n) mid s' t ns ms h.2 k)

-- each is a step of the way
pub unlocks_between : (begin s s' : State) (t : ℕ) (ns : List NodeId) → Unlocks s t ns s' → IsBetween begin s → IsBetween begin s'
unlocks_between begin s s' t [] h between = subst (IsBetween begin) (sym h) between
unlocks_between begin s s' t (n ∷ ns) h between = unlocks_between begin (unlocked s t n) s' t ns h.2 (between_releases begin s t n between)

-- the same state, except detection, choice of victims, and counts
abbrev pub saying : Detect → Victims → ℕ → ℕ → State → State
saying d v b a x = record x { detect = d; victims = v; begins = b; accepted = a }

-- none of this is asked
pub unlocks_saying : (d : Detect) (v : Victims) (b a : ℕ) (s s' : State) (t : ℕ) (ns : List NodeId) → Unlocks s t ns s'
    → Unlocks (saying d v b a s) t ns (saying d v b a s')
unlocks_saying d v b a s s' t [] h = ap (saying d v b a) h
unlocks_saying d v b a s s' t (n ∷ ns) h = (h.0, h.1, unlocks_saying d v b a (unlocked s t n) s' t ns h.2)

-- one that does not wait stays as it was, at any release of its own
pub own_stays : (s : State) → IsOrderly s → (t : ℕ) (n : NodeId) → is_wait (status_of s t) ≡ false → (unlocked s t n).txns t ≡ s.txns t
own_stays s o t n quiet = woken_front (with_grant s t n NL) n (well_granted s o t n NL n) t ∙ if-false _ (not_true _ (λ h.
    clash (front_stands (with_grant s t n NL) n (well_granted s o t n NL n) t h) (in_no_queue s o t quiet n)))

pub active_stays : (s : State) → IsOrderly s → (t : ℕ) (n : NodeId) → status_of s t ≡ Some Active → status_of (unlocked s t n) t ≡ Some Active
active_stays s o t n active = ap status_in (own_stays s o t n (ap is_wait active)) ∙ active

-- if no child is held, none is found
pub no_child_held : (s : State) (t : ℕ) (n : NodeId) → holds_child s t n ≡ false → held_child s t n ≡ None
no_child_held s t n h = ap child_held (none_any (λ c. is_child s.graph n c && holds (members s c) t) (nodes s.graph) h)
  where
    none_any : (f : NodeId → Bool) (ns : List NodeId) → list_any f ns ≡ false → find f ns ≡ None
    none_any f [] k = refl
    none_any f (q ∷ ns) k = grind (arith, nat_tests, f q, none_any f ns)

-- nodes of an active transaction were unlocked: the law is kept, and it is active still
pub record StillStands (s s' : State) (t : ℕ) : Type 0 where
  pub lawful : IsLawful s'
  pub active : status_of s' t ≡ Some Active
  pub no_cycle : HasNoCycle s → HasNoCycle s'

pub unlocks_stand : (s s' : State) (t : ℕ) (ns : List NodeId) → IsLawful s → status_of s t ≡ Some Active → Unlocks s t ns s' → StillStands s s' t
unlocks_stand s s' t [] law active h = subst (λ (x : State). StillStands s x t) (sym h) (record { lawful = law; active = active; no_cycle = λ none. none })
unlocks_stand s s' t (n ∷ ns) law active h =
    let childless = no_child_held s t n h.1 in
    let rest = unlocks_stand (unlocked s t n) s' t ns (unlocked-lawful s law t n active childless)
    (active_stays s (lawful_orderly s law) t n active) h.2 in
    record { lawful = rest.lawful; active = rest.active; no_cycle = λ none. rest.no_cycle (unlocked-no_cycle s law t n active childless none) }
