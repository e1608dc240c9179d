-- What a lock that is granted leaves to its own transaction. For Manager.lock_path_telling.
use Rattle.std.specs.Prelude.{◌≡◌, ◌⊎◌, ℕ, true, false, ◌&&◌, ◌==◌, Option, Some, None, if◌then◌else◌}
use Rattle.std.proofs.Common.{refl, sym, ap, ◌∙◌, inl, inr, arith, subst}
use Rattle.std.proofs.lemmas.Bool.Decides.{nat_tests}
use Rattle.gl_modes.proofs.ModeLemmas.{at_least-refl, supremum-above}
use Rattle.gl_modes.proofs.NodeLemmas.{same_node-differ, same_node-from_equal, same_node-refl}
use Rattle.gl_modes.proofs.Words.{clash, no as never, none_some, split}
use Rattle.gl_modes.specs.declared.mode.Mode.{Mode}
use Rattle.gl_modes.specs.declared.node.NodeId.{NodeId}
use Rattle.gl_modes.specs.declared.refusal.Refusal.{Refusal}
use Rattle.gl_modes.specs.Modes.{is_at_least}
use Rattle.gl_modes.specs.Nodes.{same_node}
use Rattle.gl_model.specs.declared.txn.Status.{Status}
use Rattle.gl_model.specs.declared.txn.Status.TheVariants.{Active, Condemned, Waiting}
use Rattle.gl_model.specs.declared.txn.TxnId.{TxnId}
use Rattle.gl_model.specs.Calls.{Locks, enqueued, enters_at, wanted}
use Rattle.gl_model.specs.Lawful.{IsLawful}
use Rattle.gl_model.specs.State.{State, Txn, live_by, lives, restatus, status_in, status_of}
use Rattle.gl_model.proofs.law.Lock.{MayLock, may_lock, waiting-lawful}
use Rattle.gl_model.proofs.telling.Follows.{Follows, GrantedTo, SameGrants, lawful_waits}
use Rattle.gl_catalog.specs.Counters.{grants}
use Rattle.gl_catalog.specs.Paths.{Ask, lock_of}
use Rattle.gl_catalog.specs.Replies.{Says}
use Rattle.gl_steps.specs.Step.{Goes, Step, lock_answer}
use Rattle.gl_steps.specs.Tests.{refusal_of, tests_of, worn}
use Rattle.gl_steps.proofs.NotRefused.{txn_lives}
use Rattle.gl_steps.proofs.OneStep.{all_none}
use Rattle.gl_steps.proofs.OtherChanges.{wait_settles_follows}

-- t was granted a lock on n: it is active, holds at least what it held there, and the same elsewhere; the command could be counted
pub record GrantsOwn (s s' : State) (t : TxnId) (n : NodeId) : Type 0 where
  pub counted : worn s ≡ None
  pub graph : s'.graph ≡ s.graph
  pub alive : lives s' t ≡ true
  pub active : status_of s' t.slot ≡ Some Active
  pub more : is_at_least (s'.held t.slot n) (s.held t.slot n) ≡ true
  pub elsewhere : (q : NodeId) → same_node q n ≡ false → s'.held t.slot q ≡ s.held t.slot q

-- a transaction that was granted a lock, and lives, is active
granted_active : (m : Mode) (x : Option Txn) (age : ℕ) → live_by age x ≡ true → grants (lock_answer m (status_in x)) ≡ true → status_in x ≡ Some Active
granted_active m None age alive h = absurd (never alive)
granted_active m (Some x) age alive h = by x.status h
  where
    by : (st : Status) → grants (lock_answer m (Some st)) ≡ true → Some st ≡ Some Active
    by Active k = refl
    by (Waiting n w) k = absurd (never k)
    by Condemned k = absurd (never k)

module _ (s : State) (law : IsLawful s) (t : TxnId) (ask : Ask) (passed : refusal_of s (lock_of t ask) ≡ None) where
  abbrev w : Mode
  w = wanted s t.slot ask.0 ask.1

  may : MayLock s t ask.0 ask.1
  may = (may_lock s t ask.0 ask.1 (worn s) _ passed).0

  alive₀ : lives s t ≡ true
  alive₀ = txn_lives s t (all_none (tests_of s (lock_of t ask)) passed).1.0

  same_slot : (t.slot == t.slot) ≡ true
  same_slot = grind (arith, nat_tests)

  module _ (next : State) (locks : Locks s t.slot ask.0 ask.1 next) (grant : grants (lock_answer (next.held t.slot ask.0) (status_of next t.slot)) ≡ true) where
    at_once : enters_at s t.slot ask.0 ask.1 ≡ true → GrantsOwn s next t ask.0
    at_once e = subst (λ (x : State). GrantsOwn s x t ask.0) (sym (locks.at_once e)) (record {
      counted = (all_none (tests_of s (lock_of t ask)) passed).0;
      graph = refl;
      alive = alive₀;
      active = may.active;
      more = subst (λ m. is_at_least m (s.held t.slot ask.0) ≡ true)
          (sym (ap (λ b. if b && same_node ask.0 ask.0 then w else s.held t.slot ask.0) same_slot
          ∙ ap (λ b. if b then w else s.held t.slot ask.0) (same_node-refl ask.0)))
          (supremum-above (s.held t.slot ask.0) ask.1);
      elsewhere = λ q other. ap (λ b. if b && same_node q ask.0 then w else s.held t.slot q) same_slot ∙ ap (λ b. if b then w else s.held t.slot q) other;
    })

    waits : enters_at s t.slot ask.0 ask.1 ≡ false → GrantsOwn s next t ask.0
    waits e = record {
      counted = (all_none (tests_of s (lock_of t ask)) passed).0;
      graph = on.graph;
      alive = alive;
      active = granted_active (next.held t.slot ask.0) (next.txns t.slot) t.age alive grant;
      more = more on.grants;
      elsewhere = elsewhere on.grants;
    }
      where
        x : State
        x = enqueued s t.slot ask.0 w

        on : Follows x next t.slot
        on =
            wait_settles_follows s.detect s.victims x t.slot next t.slot (locks.waits e)
            (lawful_waits x (waiting-lawful s law t ask.0 ask.1 may e) t.slot)

        here : x.txns t.slot ≡ restatus (Waiting ask.0 w) (s.txns t.slot)
        here = ap (λ b. if b then restatus (Waiting ask.0 w) (s.txns t.slot) else s.txns t.slot) same_slot

        restatus_lives : (o : Option Txn) → live_by t.age o ≡ true → live_by t.age (restatus (Waiting ask.0 w) o) ≡ true
        restatus_lives None h = h
        restatus_lives (Some y) h = h

        alive : lives next t ≡ true
        alive = on.lives t.age (ap (live_by t.age) here ∙ restatus_lives (s.txns t.slot) alive₀)

        waited : (o : Option Txn) (n : NodeId) (m : Mode) → status_in (restatus (Waiting ask.0 w) o) ≡ Some (Waiting n m) → ask.0 ≡ n
        waited None n m h = absurd (none_some h)
        waited (Some y) n m h = cc

        at : (g : GrantedTo x next t.slot) → ask.0 ≡ g.node
        at g = waited (s.txns t.slot) g.node g.mode (ap status_in (sym here) ∙ g.was)

        more : SameGrants x next t.slot ⊎ GrantedTo x next t.slot → is_at_least (next.held t.slot ask.0) (s.held t.slot ask.0) ≡ true
        more (inl same) = subst (λ m. is_at_least m (s.held t.slot ask.0) ≡ true) (sym (same ask.0)) (at_least-refl (s.held t.slot ask.0))
        more (inr g) = subst (λ n. is_at_least (next.held t.slot n) (s.held t.slot n) ≡ true) (sym (at g))
            (subst (λ m. is_at_least m (s.held t.slot g.node) ≡ true) (sym g.at) g.more)

        elsewhere : SameGrants x next t.slot ⊎ GrantedTo x next t.slot → (q : NodeId) → same_node q ask.0 ≡ false → next.held t.slot q ≡ s.held t.slot q
        elsewhere (inl same) q other = same q
        elsewhere (inr g) q other =
            g.elsewhere q (same_node-differ g.node q (λ e. clash (same_node-from_equal q ask.0 (sym (at g ∙ e))) other))

    granted_own : GrantsOwn s next t ask.0
    granted_own = split (enters_at s t.slot ask.0 ask.1) at_once waits

-- the same for each lock that is answered by a grant
pub grants_own : (s : State) → IsLawful s → (t : TxnId) (ask : Ask) (r : Says) (s' : State) → Step s (lock_of t ask) r.0 r.1 s' → grants r.0 ≡ true
    → GrantsOwn s s' t ask.0
grants_own s law t ask r s' (inl gone) grant = by (refusal_of s (lock_of t ask)) refl gone
  where
    by : (o : Option Refusal) → refusal_of s (lock_of t ask) ≡ o → Goes s (lock_of t ask) o r.0 r.1 s' → GrantsOwn s s' t ask.0
    by (Some q) e un = absurd (never (sym (ap grants un.answer_is) ∙ grant))
    by None e went =
        let own = granted_own s law t ask e went.0 went.1.0 (sym (ap grants went.1.1) ∙ grant) in
        subst (λ (x : State). GrantsOwn s x t ask.0) (sym went.2)
        (record { counted = own.counted; graph = own.graph; alive = own.alive; active = own.active; more = own.more; elsewhere = own.elsewhere })
grants_own s law t ask r s' (inr memory) grant = absurd (never (sym (ap grants memory.1.answer_is) ∙ grant))
