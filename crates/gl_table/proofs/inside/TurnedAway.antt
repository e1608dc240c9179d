-- Waits on one node that end without a grant, one after the other, and what is told. For moves.
use Rattle.gl_table.proofs.Words.{◌&&◌, ◌<◌, ◌==◌, [], ◌||◌, ◌∙◌, ◌∷◌, ◌≡◌, ◌≤◌, Active, addressed, age_in, age_of, Agrees, and-false, and-not_self, and-true}
use Rattle.gl_table.proofs.Words.{and_both, ap, ap₂, AreAgreed, AreKept, AreSound, arith, as_left, books_of, Bool, both, CanEndAt, CanTellWaiters, clash, false}
use Rattle.gl_table.proofs.Words.{filter, fits, freed, freed_unless, front, fun_ext, Graph, held_of, if-false, if-true, if◌then◌else◌, intends_over}
use Rattle.gl_table.proofs.Words.{is_among_waiters, is_live, is_wait, is_waiter, IsOrderly, IsTurnedAway, Ledger, length, List, list_all, LockList, members}
use Rattle.gl_table.proofs.Words.{members_at, Mode, mode_of, moved_to, nat_tests, NL, NodeId, None, none_but, not, not-true, not_true, notice_of, Option}
use Rattle.gl_table.proofs.Words.{or-false, or_right, queue_of, refl, restatus, room_by, same_mode, same_mode-equal, same_node, same_node-equal, same_node-refl}
use Rattle.gl_table.proofs.Words.{same_number, slice_index_or, slot_limit, Some, some_is, split, stands_there, State, state_in, status_in, status_of, stays}
use Rattle.gl_table.proofs.Words.{subst, sym, Told, told_from, told_to, true, Txn, TxnId, View, Waiter, waiters_below, Waiting, waits_there, WaitsEnd}
use Rattle.gl_table.proofs.Words.{without_waiter, ℕ}
use Rattle.gl_model.specs.declared.answers.Notice.TheVariants as notice
use Rattle.gl_table.proofs.inside.Slots.{by_list-at}
use Rattle.gl_table.proofs.inside.Woken.{agrees_given_up, ends_more, ends_none, kept_still, txn_entry_still, untold_still}
use Rattle.gl_model.proofs.law.Strays.{all_filtered, all_of_some, all_or_chosen, among_failing, filter_all, stuck_front, without_chosen}
use Rattle.gl_model.proofs.law.Takes.{restatus_is}
use Rattle.gl_model.proofs.queues.Edits.{any_left, freed_other, one_left, one_stays}
use Rattle.gl_model.proofs.queues.Waiters.{among_by_filter}
use Rattle.gl_model.proofs.telling.Between.{is_by_test, quiet_told}

-- Waits on one node that end without a grant: the state, the lists and the notices while some of them remain.

-- whether the list of a waiter allows its wait is whether the wait stays
pub allowed_stays : (s : State) (ls : List LockList) (ps : List NodeId) (w : Waiter) (l : LockList) → w.0 < length ls → l ≡ slice_index_or ls w.0 l
    → Agrees s ls w.0 → intends_over (mode_of l) ps w.1 ≡ stays s ps w
allowed_stays s ls ps w l low at agree = ap (λ h. intends_over h ps w.1) (fun_ext (λ q. sym (by_list-at (λ x. mode_of x q) NL ls w.0 l low at) ∙ agree.modes q))

-- whose wait on n fails the test
abbrev pub is_lost : State → NodeId → (Waiter → Bool) → ℕ → Bool
is_lost s n f u = is_among_waiters u (filter (λ w. not (f w)) (s.queue n))

-- what it is told
abbrev pub moved_notice : State → ℕ → Option (TxnId × notice.the_data)
moved_notice s u = Some (record { slot = u; age = age_in (s.txns u) }, notice.Moved)

-- a waiter of n is active
pub freed_here : (n : NodeId) (m : Mode) (x : Option Txn) → status_in x ≡ Some (Waiting n m) → freed n x ≡ restatus Active x
freed_here n m None h = absurd (cc)
freed_here n m (Some x) h =
    let is : x.status ≡ Waiting n m = some_is h in
    ap (λ st. Some (record x { status = none_but st n })) is
    ∙ ap (λ b. Some (record x { status = if b then Active else Waiting n m })) (same_node-refl n)

module _ (s : State) (o : IsOrderly s) (n : NodeId) (f : Waiter → Bool) where
  -- a lost wait is in the queue
  pub lost_stood : (u : ℕ) → is_lost s n f u ≡ true → is_among_waiters u (s.queue n) ≡ true
  lost_stood u h = any_left (is_waiter u) (λ w. not (f w)) (s.queue n) h

  -- is the one wait of its slot, and fails the test
  pub lost_waits : (u : ℕ) → is_lost s n f u ≡ true → (m : Mode) × (status_of s u ≡ Some (Waiting n m)) × (filter (is_waiter u) (s.queue n) ≡ (u, m) ∷ [])
      × (not (f (u, m)) ≡ true)
  lost_waits u h =
      let wait = waits_there s o u n (lost_stood u h) in
      let one = (o.one_wait u n wait.0 wait.1).0 in
      (wait.0, wait.1, one, one_stays (is_waiter u) (λ w. not (f w)) (s.queue n) (u, wait.0) one h)

  lost_fails : (u : ℕ) → is_lost s n f u ≡ true → list_all (λ w. not (is_waiter u w) || not (f w)) (s.queue n) ≡ true
  lost_fails u h = let w = lost_waits u h in all_of_some (is_waiter u) (λ v. not (f v)) (s.queue n) (ap (list_all (λ v. not (f v))) w.2 ∙ both _ true w.3 refl)

  -- so it is none of those that remain, and all others are
  left_among : (u : ℕ) → is_among_waiters u (filter f (s.queue n)) ≡ (if is_lost s n f u then false else is_among_waiters u (s.queue n))
  left_among u = is_by_test (is_lost s n f u)
      (λ e. let w = lost_waits u e in not_true _ (λ k. clash (one_stays (is_waiter u) f (s.queue n) (u, w.0) w.2 k) (not-true _ w.3)))
      (λ e. split (is_among_waiters u (filter f (s.queue n))) (λ k. k ∙ sym (any_left (is_waiter u) f (s.queue n) k))
      (λ k. k ∙ sym (not_true _ (λ h. clash (among_failing f u (s.queue n) h k) e))))

  -- a slot that lost its wait is active, and all others are as they were
  left_txn : (u : ℕ) → freed_unless (λ v. is_among_waiters v (filter f (s.queue n))) n u (s.txns u)
      ≡ (if is_lost s n f u then restatus Active (s.txns u) else s.txns u)
  left_txn u = ap (λ b. if b then s.txns u else freed n (s.txns u)) (left_among u) ∙ is_by_test (is_lost s n f u)
      (λ e. ap (λ b. if (if b then false else is_among_waiters u (s.queue n)) then s.txns u else freed n (s.txns u)) e
      ∙ (let w = lost_waits u e in freed_here n w.0 (s.txns u) w.1))
      (λ e. ap (λ b. if (if b then false else is_among_waiters u (s.queue n)) then s.txns u else freed n (s.txns u)) e
      ∙ split (is_among_waiters u (s.queue n)) (λ k. if-true _ k)
      (λ k. if-false _ k ∙ freed_other n (s.txns u) (not_true _ (λ w. clash (stands_there s o u n w) k))))

-- the waits on n that fail the test have ended, except those of pending slots; nothing is granted
pub record IsTurning (l l' : Ledger) (n : NodeId) (s : State) (f : Waiter → Bool) (pending : ℕ → Bool) (told told' : Told) : Type 0 where
  pub held : held_of l'.headers.entries ≡ s.held
  pub here : queue_of l'.headers.entries n ≡ filter (λ w. f w || pending w.0) (s.queue n)
  pub there : (q : NodeId) → same_node q n ≡ false → queue_of l'.headers.entries q ≡ s.queue q
  pub lost : (u : ℕ) → pending u ≡ true → is_lost s n f u ≡ true
  pub over : WaitsEnd (books_of l.txn_entries l.lists.items told) n (λ u. is_lost s n f u && not (pending u)) as_left (λ u. notice.Moved)
      (books_of l'.txn_entries l'.lists.items told')

module _ {g : View} {l : Ledger} (agreed : AreAgreed g l) (n : NodeId) {told : Told}
    (tell : CanTellWaiters (state_in g l) n told) where
  abbrev s : State
  s = state_in g l

  o : IsOrderly s
  o = agreed.orderly

  kept : AreKept (books_of l.txn_entries l.lists.items told)
  kept = record { few = agreed.sound.few; len = agreed.sound.lists; by_slot = tell.by_slot }

  pub turning_begins : {f : Waiter → Bool} (pending : ℕ → Bool) → ((u : ℕ) → pending u ≡ is_lost s n f u) → IsTurning l l n s f pending told told
  turning_begins {f} pending all = record {
    held = refl;
    here = sym (filter_all (λ w. f w || pending w.0) (s.queue n) (all_or_chosen f pending (s.queue n) (λ u h. all u ∙ h)));
    there = λ q e. refl;
    lost = λ u h. sym (all u) ∙ h;
    over = ends_none _ (λ u. ap (λ b. is_lost s n f u && not b) (all u) ∙ and-not_self (is_lost s n f u)) kept;
  }

  module _ {l' : Ledger} {f : Waiter → Bool} {pending : ℕ → Bool} {mid : Told} (is : IsTurning l l' n s f pending told mid) where
    -- a pending slot
    module _ (t : ℕ) (member : pending t ≡ true) where
      lost : is_lost s n f t ≡ true
      lost = is.lost t member

      stood : is_among_waiters t (s.queue n) ≡ true
      stood = lost_stood s o n f t lost

      fresh : (is_lost s n f t && not (pending t)) ≡ false
      fresh = ap (λ b. is_lost s n f t && not b) member ∙ and-false (is_lost s n f t)

      pub turned_can : CanEndAt (books_of l'.txn_entries l'.lists.items mid) t
      turned_can = record {
        kept = kept_still is.over kept;
        has_entry = txn_entry_still is.over t fresh (waiters_below s o n t stood);
        untold = untold_still is.over t fresh (tell.untold t stood);
      }

      pub turned_waits : is_among_waiters t (queue_of l'.headers.entries n) ≡ true
      turned_waits = let w = lost_waits s o n f t lost in
          ap (is_among_waiters t) is.here ∙ among_by_filter t (t, w.0) [] (filter (λ v. f v || pending v.0) (s.queue n))
          (one_left (is_waiter t) (λ v. f v || pending v.0) (s.queue n) (t, w.0) w.2 (or_right (f (t, w.0)) (pending t) member))

      pub turned_front : list_all (λ w. not (fits slot_limit (members s n) w.0 w.1)) (s.queue n) ≡ true
          → front slot_limit (members_at l'.headers.entries n) (without_waiter t (queue_of l'.headers.entries n)) ≡ []
      turned_front stuck =
          ap₂ (λ (h : ℕ → NodeId → Mode) q. front slot_limit (λ u. h u n) (without_waiter t q)) is.held is.here
          ∙ stuck_front slot_limit (members s n) (without_waiter t (filter (λ v. f v || pending v.0) (s.queue n)))
          (all_filtered _ (λ w. not (is_waiter t w)) _ (all_filtered _ (λ v. f v || pending v.0) (s.queue n) stuck))

      pub turned_room : 9 ≤ room_by l'.lists.items t
      turned_room = subst (λ (k : ℕ). 9 ≤ k) (sym (is.over.lists.rooms t fresh)) ((agreed.agree t).room (ap is_wait (lost_waits s o n f t lost).1))

      -- its wait ends
      pub turning_one : {next : Ledger} {told' : Told} (pending' : ℕ → Bool) → ((x : ℕ) → pending' x ≡ (pending x && not (x == t)))
          → IsTurnedAway t n l' next mid told' → IsTurning l next n s f pending' told told'
      turning_one pending' less ended = record {
        held = ended.held ∙ is.held;
        here = ap (λ qs. qs n) ended.queue ∙ if-true _ (same_node-refl n)
            ∙ ap (without_waiter t) is.here ∙ without_chosen f pending pending' t (s.queue n) (lost_fails s o n f t lost) less;
        there = λ q e. ap (λ qs. qs q) ended.queue
            ∙ ap (λ b. if b then without_waiter t (queue_of l'.headers.entries n) else queue_of l'.headers.entries q) e ∙ is.there q e;
        lost = λ u h. is.lost u (and_both (pending u) (not (u == t)) (sym (less u) ∙ h)).0;
        over = ends_more is.over t fresh ended.ends _ one_less refl refl (λ q. refl) refl;
      }
        where
          one_less : (u : ℕ) → (is_lost s n f u && not (pending' u)) ≡ ((is_lost s n f u && not (pending u)) || (u == t))
          one_less u = grind (arith, nat_tests, less u, and-false, and-true, or-false, or_right, same_number)

    -- nobody is pending any more
    module _ (none : (u : ℕ) → pending u ≡ false) where
      pub turned_over : WaitsEnd (books_of l.txn_entries l.lists.items told) n (is_lost s n f) as_left (λ u. notice.Moved)
          (books_of l'.txn_entries l'.lists.items mid)
      turned_over = subst (λ (who : ℕ → Bool). WaitsEnd (books_of l.txn_entries l.lists.items told) n who as_left (λ u. notice.Moved)
          (books_of l'.txn_entries l'.lists.items mid)) (fun_ext (λ u. ap (λ b. is_lost s n f u && not b) (none u) ∙ and-true (is_lost s n f u))) is.over

      pub turned_sound : AreSound l'
      turned_sound = let is_kept = kept_still is.over kept in record { few = is_kept.few; lists = is_kept.len }

      -- the waits on n that fail the test are out of its queue, and their owners are active
      pub turning_ends : state_in g l' ≡ record s {
        queue = λ q. if same_node q n then filter f (s.queue q) else s.queue q;
        txns = λ u. freed_unless (λ v. is_among_waiters v (filter f (s.queue n))) n u (s.txns u);
      }
      turning_ends = λ i. record s {
        held = is.held i;
        queue = fun_ext queue i;
        txns = λ u. (turned_over.txns u ∙ sym (left_txn s o n f u)) i;
        most = turned_over.len i;
      }
        where
          here : queue_of l'.headers.entries n ≡ filter f (s.queue n)
          here = is.here ∙ ap (λ (r : Waiter → Bool). filter r (s.queue n)) (fun_ext (λ w. ap (λ b. f w || b) (none w.0) ∙ or-false (f w)))

          queue : (q : NodeId) → queue_of l'.headers.entries q ≡ (if same_node q n then filter f (s.queue q) else s.queue q)
          queue q = grind (arith, nat_tests, same_node-equal)

      pub turned_agrees : ((u : ℕ) → is_among_waiters u (s.queue n) ≡ true → s.held u n ≡ NL) → (u : ℕ) → Agrees (state_in g l') l'.lists.items u
      turned_agrees bare u = subst (λ x. Agrees x l'.lists.items u) (sym turning_ends)
          (agrees_given_up s _ n (is_lost s n f) (λ v h. bare v (lost_stood s o n f v h)) (λ v q. refl) queue (left_txn s o n f) turned_over.lists u
          (agreed.agree u))
        where
          queue : (v : ℕ) (q : NodeId) → is_among_waiters v (if same_node q n then filter f (s.queue q) else s.queue q)
              ≡ (if is_lost s n f v && same_node q n then false else is_among_waiters v (s.queue q))
          queue v q = split (same_node q n) (λ e. ap (λ b. is_among_waiters v (if b then filter f (s.queue q) else s.queue q)) e
              ∙ subst (λ x. is_among_waiters v (filter f (s.queue x)) ≡ (if is_lost s n f v then false else is_among_waiters v (s.queue x)))
              (sym (same_node-equal q n e)) (left_among s o n f v)
              ∙ ap (λ b. if b then false else is_among_waiters v (s.queue q)) (sym (ap (λ b. is_lost s n f v && b) e ∙ and-true (is_lost s n f v))))
              (λ e. ap (λ b. is_among_waiters v (if b then filter f (s.queue q) else s.queue q)) e
              ∙ ap (λ b. if b then false else is_among_waiters v (s.queue q)) (sym (ap (λ b. is_lost s n f v && b) e ∙ and-false (is_lost s n f v))))

-- A node moves: whose wait is lost is told so, and nobody else is told anything.

module _ (s : State) (o : IsOrderly s) (n : NodeId) (ps : List NodeId) (g : Graph) (bare : (u : ℕ) → is_among_waiters u (s.queue n) ≡ true → s.held u n ≡ NL)
    (live : (u : ℕ) → is_among_waiters u (s.queue n) ≡ true → is_live g n ≡ true) where
  abbrev moved : State
  moved = moved_to s n ps g

  lost_told : (u : ℕ) → is_lost s n (stays s ps) u ≡ true → told_to s moved u ≡ moved_notice s u
  lost_told u h =
      let wait = lost_waits s o n (stays s ps) u h in
      let stood = lost_stood s o n (stays s ps) u h in
      ap (λ st. addressed (record { slot = u; age = age_of s u }) (told_from moved u st)) wait.1
      ∙ ap (λ x. addressed (record { slot = u; age = age_of s u }) (notice_of moved u n wait.0 (status_in x)))
      (left_txn s o n (stays s ps) u ∙ ap (λ b. if b then restatus Active (s.txns u) else s.txns u) h)
      ∙ ap (λ st. addressed (record { slot = u; age = age_of s u }) (notice_of moved u n wait.0 st)) (restatus_is Active (Waiting n wait.0) (s.txns u) wait.1)
      ∙ ap₂ (λ a b. addressed (record { slot = u; age = age_of s u })
      (if not a then Some notice.Gone else (if b then Some (notice.Granted n wait.0) else Some notice.Moved)))
      (live u stood) (ap (λ m. same_mode m wait.0) (bare u stood) ∙ not_true _ (λ k. (o.one_wait u n wait.0 wait.1).1 (sym (same_mode-equal NL wait.0 k))))

  others_untold : (u : ℕ) → is_lost s n (stays s ps) u ≡ false → told_to s moved u ≡ None
  others_untold u h = quiet_told s moved u (ap status_in (left_txn s o n (stays s ps) u ∙ ap (λ b. if b then restatus Active (s.txns u) else s.txns u) h))

  pub moved_told : (u : ℕ) → told_to s moved u ≡ (if is_lost s n (stays s ps) u then moved_notice s u else None)
  moved_told u = is_by_test (is_lost s n (stays s ps) u) (lost_told u) (others_untold u)
