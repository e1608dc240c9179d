-- Paths put together from their requests, and what their tests decide. For Manager.lock_path_telling.
use Rattle.std.specs.Prelude.{◌≡◌, ℕ, zero, suc, Bool, true, false, ◌&&◌, ◌||◌, ◌==◌, [], ◌∷◌, length, Some, None, is_none, Result, Ok, Err}
use Rattle.std.proofs.Common.{refl, sym, ap, ◌∙◌, inl, inr, subst, arith}
use Rattle.gl_modes.proofs.Words.{and_both, no as never, same_number}
use Rattle.gl_modes.specs.declared.node.NodeId.{NodeId}
use Rattle.gl_modes.specs.declared.refusal.Refusal.{Refusal}
use Rattle.gl_graph.specs.Refusals.{first_refusal}
use Rattle.gl_model.specs.declared.answers.Locked.{Locked}
use Rattle.gl_model.specs.declared.answers.Locked.TheVariants as locked
use Rattle.gl_model.specs.declared.txn.TxnId.{TxnId}
use Rattle.gl_model.specs.Calls.{need_parents, wanted}
use Rattle.gl_model.specs.State.{State}
use Rattle.gl_model.specs.Tellings.{Told}
use Rattle.gl_steps.specs.declared.command.Answer.{Answer}
use Rattle.gl_steps.specs.declared.command.Answer.TheVariants as answer
use Rattle.gl_catalog.specs.declared.manager.paths.Reached.{Reached}
use Rattle.gl_catalog.specs.Counters.{grants, refuses}
use Rattle.gl_catalog.specs.Manager.{ManagerView, state_of}
use Rattle.gl_catalog.specs.Paths.{Ask, AsksFirst, AsksOnce, IsPath, LocksPath, goes_on, lock_of, parent_missed, parent_wanted, path_tests, reaching}
use Rattle.gl_catalog.specs.Replies.{Says, said}
use Rattle.gl_steps.specs.Step.{Goes, Step, answer_of_lock}
use Rattle.gl_steps.specs.Tests.{is_cycle, lists_memory, may_lack_memory, refusal_of}
use Rattle.gl_catalog.proofs.Climbing.{first_stays, plain_tests, stays_at}

-- what a path was at its beginning, once it continues from a later manager
abbrev pub LeadsTo : TxnId → Ask → ManagerView → ManagerView → Type 0
LeadsTo t ask m₀ m = (k : ℕ) (last : Ask) (r : Says) (m' : ManagerView) → IsPath k t ask m last r m' → (j : ℕ) × IsPath j t ask m₀ last r m'

-- it begins here
pub at_once : (t : TxnId) (ask : Ask) (m : ManagerView) → LeadsTo t ask m m
at_once t ask m k last r m' path = (k, path)

-- it continues after a grant that told nobody
pub one_on : (t : TxnId) (ask : Ask) (m₀ m m' : ManagerView) (told : Told) (x : Reached) → LeadsTo t ask m₀ m → AsksOnce t ask m told (Ok x) m'
    → goes_on ask.0 x.node (reaching told x) ≡ true → LeadsTo t ask m₀ m'
one_on t ask m₀ m m' told x leads once on k last r m'' path =
    leads (suc k) last r m'' (once.0, reaching told x, m', once.1, ap (λ n. goes_on ask.0 n (reaching told x)) (sym once.2) ∙ on, path)

-- after such a request a lock was granted
pub granted_so : (node asked : NodeId) (r : Says) → goes_on node asked r ≡ true → grants r.0 ≡ true
granted_so node asked r h = (and_both (grants r.0) _ (and_both _ _ h).0).0

-- and nobody told
pub told_nobody : (node asked : NodeId) (r : Says) → goes_on node asked r ≡ true → r.1 ≡ []
told_nobody node asked r h = none r.1 (and_both (grants r.0) _ (and_both _ _ h).0).1
  where
    none : (told : Told) → (length told == 0) ≡ true → told ≡ []
    none [] e = refl
    none (x ∷ told) e = let z : length (x ∷ told) ≡ 0 = same_number _ _ e in absurd (omega (arith, z))

-- it ends with a request after which it does not continue
pub ends : (t : TxnId) (ask : Ask) (m₀ m m' : ManagerView) (told : Told) (x : Reached) → LeadsTo t ask m₀ m → AsksOnce t ask m told (Ok x) m'
    → goes_on ask.0 x.node (reaching told x) ≡ false → LocksPath t ask m₀ told (Ok x) m'
ends t ask m₀ m m' told x leads once off =
    let whole = leads zero once.0 (reaching told x) m' (once.1, ap (λ n. goes_on ask.0 n (reaching told x)) (sym once.2) ∙ off) in
    (whole.0, once.0, whole.1, once.2)

-- or is refused
pub ends_refused : (t : TxnId) (ask : Ask) (m₀ m m' : ManagerView) (told : Told) (r : Refusal) → LeadsTo t ask m₀ m → AsksOnce t ask m told (Err r) m'
    → LocksPath t ask m₀ told (Err r) m'
ends_refused t ask m₀ m m' told r leads once =
    let whole = leads zero once.0 (answer.Refused r, []) m' (once.1, refl) in
    (whole.0, once.0, whole.1, tt)

-- A refusal by the tests that speak of no parents is found at once.
module _ (t : TxnId) (ask : Ask) (m : ManagerView) (q : Refusal) (found : first_refusal (path_tests (state_of m) t ask.0 ask.1) ≡ Some q) where
  abbrev s : State
  s = state_of m

  refused_so : refusal_of s (lock_of t ask) ≡ Some q
  refused_so = first_stays (path_tests s t ask.0 ask.1) (need_parents s t.slot ask.0 (wanted s t.slot ask.0 ask.1) ∷ []) q found

  wants_none : parent_wanted s t ask ≡ None
  wants_none = ap parent_missed (refused_so ∙ sym found) ∙ (plain_tests s t ask.0 ask.1).0

  no_memory : may_lack_memory s (lock_of t ask) ≡ false
  no_memory =
      ap (λ o. lists_memory s (lock_of t ask) && (is_none o || is_cycle o)) refused_so
      ∙ ap (λ b. lists_memory s (lock_of t ask) && b) plain ∙ and_false (lists_memory s (lock_of t ask))
    where
      plain : is_cycle (Some q) ≡ false
      plain = ap is_cycle (sym found) ∙ (plain_tests s t ask.0 ask.1).1

      and_false : (b : Bool) → (b && false) ≡ false
      and_false true = refl
      and_false false = refl

  answered : (a : Answer) (told : Told) (s' : State) → Step s (lock_of t ask) a told s' → a ≡ answer.Refused q
  answered a told s' (inl gone) = (subst (λ o. Goes s (lock_of t ask) o a told s') refused_so gone).answer_is
  answered a told s' (inr memory) = absurd (never (sym no_memory ∙ memory.0))

  asks_itself : (first : Ask) (r : Says) (m' : ManagerView) → AsksFirst t ask m first r m' → (r.0 ≡ answer.Refused q) × (m' ≡ m)
  asks_itself first r m' asks =
      let here = stays_at s t ask asks.comes_first.climb.0 first asks.comes_first.climb.1 wants_none in
      let is = answered r.0 r.1 (state_of m') (subst (λ (x : Ask). Step s (lock_of t x) r.0 r.1 (state_of m')) here asks.step) in
      (is, asks.unchanged (ap refuses is))

  ends_there : (k : ℕ) (last : Ask) (r : Says) (m' : ManagerView) → IsPath k t ask m last r m' → (r.0 ≡ answer.Refused q) × (m' ≡ m)
  ends_there zero last r m' path = asks_itself last r m' path.0
  ends_there (suc k) last r m' path =
      let is = asks_itself path.0 path.1 path.2 path.3 in
      absurd (never (ap grants (sym is.0) ∙ granted_so ask.0 path.0.0 path.1 path.4))

  result_is : (told : Told) (x : Result Reached Refusal) → (said (reaching told) x).0 ≡ answer.Refused q → x ≡ Err q
  result_is told (Err r) e = ap (λ y. Err y) (refused_is r e)
    where
      refused_is : (y : Refusal) → answer.Refused y ≡ answer.Refused q → y ≡ q
      refused_is y e' = cc
  result_is told (Ok x) e = absurd (not_refused x.locked e)
    where
      not_refused : (y : Locked) → answer_of_lock y ≡ answer.Refused q → ⊥
      not_refused (locked.Granted g) e' = cc
      not_refused locked.Waiting e' = cc
      not_refused locked.Victim e' = cc

  pub decided : (told : Told) (x : Result Reached Refusal) (m' : ManagerView) → LocksPath t ask m told x m' → (x ≡ Err q) × (m' ≡ m)
  decided told x m' path =
      let is = ends_there path.0 path.1 (said (reaching told) x) m' path.2 in (result_is told x is.0, is.1)
