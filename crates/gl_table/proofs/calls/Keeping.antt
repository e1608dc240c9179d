-- A transaction rolled back, and was renewed or ended: what it makes of a table. For commits that keep locks.
use Rattle.gl_table.proofs.Words.{◌+◌, [], ◌∙◌, ◌∷◌, ◌≡◌, ◌≢◌, ◌⊎◌, ⊎_elim, Active, active_untold, addressed, age_of, ap, begun_again, clash, commit_tests}
use Rattle.gl_table.proofs.Words.{CommitsKeeping, Entry, false, first_refusal, get_or, GoesBack, hinders_at, if-false, Inside, is_some, is_wait, IsLawful}
use Rattle.gl_table.proofs.Words.{IsSound, keys_of, lawful_orderly, length, List, list_any, live_by, lives, Locks, max_count, NodeId, nodes, nodes_by, nodes_of}
use Rattle.gl_table.proofs.Words.{None, not, not_false, not_refused, number_other, number_same, Option, passed_then, refl, released, Some, State, state_at}
use Rattle.gl_table.proofs.Words.{state_of, status_in, status_of, sym, TableView, TellsOthers, test_fails, Told, told, true, TxnId, unlocked, Unlocks, view_of}
use Rattle.gl_table.proofs.Words.{where_true, ℕ}
use Rattle.gl_modes.specs.declared.refusal.Refusal.TheVariants as no
use Rattle.gl_model.specs.Calls.{condemned_test, need_release, no_txn, renew_tests, waiting_test, worn_begins}
use Rattle.gl_model.proofs.law.Lock.{unlocked-lawful}
use Rattle.gl_model.proofs.telling.Between.{told_same}
use Rattle.gl_model.proofs.telling.Unlocks.{active_stays, no_child_held, own_stays, unlocks_between}
use Rattle.gl_table.specs.Keeping.{RenewsOrEnds}
use Rattle.gl_table.proofs.calls.Back.{seen_back, sound_back}
use Rattle.gl_table.proofs.calls.Calls.{is_active, sound_released, state_released}
use Rattle.gl_table.proofs.calls.Ends.{released_gone, told_apart, told_gone}

-- an active transaction that unlocks nodes stays as it is
pub own_unlocked : (ns : List NodeId) (s s' : State) (t : ℕ) → IsLawful s → status_of s t ≡ Some Active → Unlocks s t ns s' → s'.txns t ≡ s.txns t
own_unlocked [] s s' t law active h = ap (λ (x : State). x.txns t) h
own_unlocked (n ∷ ns) s s' t law active h =
    let o = lawful_orderly s law in
    own_unlocked ns (unlocked s t n) s' t (unlocked-lawful s law t n active (no_child_held s t n h.1)) (active_stays s o t n active) h.2
    ∙ own_stays s o t n (ap is_wait active)

module _ (s : State) (t : TxnId) (alive : lives s t ≡ true) (active : status_of s t.slot ≡ Some Active) where
  -- that it hinders others, or that no age is left, alone refuses a renewal of an active transaction
  decides : first_refusal (renew_tests s t) ≡ first_refusal (need_release s t.slot ∷ worn_begins s ∷ [])
  decides = passed_then (commit_tests s t) (need_release s t.slot ∷ worn_begins s ∷ []) (λ i. first_refusal (where_true (not (alive i)) no.NoSuchTxn
      ∷ waiting_test (active i) ∷ condemned_test (active i) ∷ []))

  may_renew : s.begins ≢ max_count → list_any (hinders_at s t.slot) (nodes s.graph) ≡ false → first_refusal (renew_tests s t) ≡ None
  may_renew left free = let other = number_other s.begins max_count left in
      decides ∙ (λ i. first_refusal (where_true (free i) no.NeedRelease ∷ where_true (other i) no.WornOut ∷ []))

  must_end : (s.begins ≡ max_count) ⊎ (list_any (hinders_at s t.slot) (nodes s.graph) ≡ true) → first_refusal (renew_tests s t) ≢ None
  must_end why e =
      let first = not_refused (need_release s t.slot) (worn_begins s ∷ []) (sym decides ∙ e) in
      ⊎_elim (λ h. clash (number_same s.begins max_count h) (test_fails _ _ (not_refused (worn_begins s) [] first.1).0))
      (λ h. clash h (test_fails _ _ first.0)) why

-- an active transaction rolled back by so many releases, after which all others are told of it
pub record Rolled (i : Inside) (t : TxnId) (keep k : ℕ) (locks : Locks) (list : Told) : Type 0 where
  pub sound : IsSound i
  pub may : first_refusal (commit_tests (state_of (view_of i)) t) ≡ None
  pub nodes : List NodeId
  pub back : GoesBack (state_at i.locks) t.slot keep (nodes_by i.locks.ledger.lists.items t.slot) nodes (nodes_by locks.ledger.lists.items t.slot)
      (state_at locks)
  pub count : k ≡ length nodes
  pub tells : TellsOthers t.slot (state_at i.locks) (state_at locks) [] list

module _ {i : Inside} {t : TxnId} {keep k : ℕ} {locks : Locks} {list : Told} (r : Rolled i t keep k locks list) (since : ℕ) where
  abbrev s : State
  s = state_of (view_of i)

  -- after the rollback
  abbrev mid : Inside
  mid = record i { locks = locks }

  abbrev m : State
  m = state_of (view_of mid)

  active : status_of s t.slot ≡ Some Active
  active = is_active s t r.may

  pub sound_mid : IsSound mid
  sound_mid = sound_back i r.sound t.slot active locks r.nodes r.back.unlocks

  seen : GoesBack s t.slot keep (nodes_of (view_of i) t.slot) r.nodes (nodes_of (view_of mid) t.slot) m
  seen = seen_back i r.sound t.slot active locks keep r.nodes r.back

  same : m.txns t.slot ≡ s.txns t.slot
  same = own_unlocked r.nodes s m t.slot r.sound.lawful active seen.unlocks

  alive : lives m t ≡ true
  alive = ap (live_by t.age) same ∙ not_false _ (test_fails _ _ (not_refused (no_txn s t) _ r.may).0)

  keeps : (next : Option TxnId) (v : TableView) → RenewsOrEnds t since m next (state_of v)
      → (is_some next ≡ true → nodes_of v t.slot ≡ nodes_of (view_of mid) t.slot) → CommitsKeeping t keep since (view_of i) k next v
  keeps next v renews listed = record {
    mid = m;
    nodes = r.nodes;
    count = r.count;
    order = nodes_of (view_of mid) t.slot;
    back = seen;
    renews = renews;
    listed = listed;
  }

  -- it was renewed
  module _ (v : TableView) (is : state_of v ≡ begun_again m t.slot since) where
    pub keeps_renewed : m.begins ≢ max_count → list_any (hinders_at m t.slot) (nodes m.graph) ≡ false → {u : TxnId} → u.slot ≡ t.slot → u.age ≡ m.begins + 1
        → v.lists ≡ (view_of mid).lists
        → CommitsKeeping t keep since (view_of i) k (Some u) v
    keeps_renewed left free {u} slot age lists =
        keeps (Some u) v (may_renew m t alive (ap status_in same ∙ active) left free, λ j. record { slot = slot j; age = age j }, is)
        (λ some. ap (λ (es : List (List (NodeId × Entry))). keys_of (get_or es t.slot [])) lists)

    pub told_renewed : list ≡ told s (state_of v)
    told_renewed =
        told_apart i r.sound t.slot (state_at locks) (begun_again m t.slot since) [] list refl r.tells
        (active_untold s (begun_again m t.slot since) t.slot active) (λ w e. ap (addressed (record { slot = w; age = age_of s w }))
        (sym (told_same m (begun_again m t.slot since) w refl (if-false _ e) (λ q. refl) (status_of s w)))) ∙ ap (told s) (sym is)

  -- it ended
  module _ (ended : Locks) (is : state_at ended ≡ released (state_at locks) t.slot) where
    pub sound_end : IsSound (record i { locks = ended })
    sound_end = sound_released mid sound_mid t.slot ended is

    state_end : state_of (view_of (record i { locks = ended })) ≡ released m t.slot
    state_end = state_released mid sound_mid t.slot ended is

    pub keeps_ended : (m.begins ≡ max_count) ⊎ (list_any (hinders_at m t.slot) (nodes m.graph) ≡ true) → CommitsKeeping t keep since (view_of i) k None
        (view_of (record i { locks = ended }))
    keeps_ended why =
        keeps None (view_of (record i { locks = ended })) (must_end m t alive (ap status_in same ∙ active) why, state_end) (λ some. absurd (cc some))

    pub told_end : {all : Told} → TellsOthers t.slot (state_at locks) (state_at ended) list all
        → all ≡ told s (state_of (view_of (record i { locks = ended })))
    told_end {all} more =
        told_gone i r.sound t.slot ended (ap (λ x. status_of x t.slot) state_end ∙ released_gone m t.slot) [] all refl (record {
          by_slot = more.by_slot;
          others = λ start between was. more.others start
              (unlocks_between start (state_at i.locks) (state_at locks) t.slot r.nodes r.back.unlocks between) (r.tells.others start between was);
          own = more.own ∙ r.tells.own;
        })
