-- A wait that a step ends is told, or its transaction is named by a cancel or an abort.
use Rattle.gl_steps.proofs.Words.{◌&&◌, ◌+◌, ◌==◌, [], ◌||◌, ◌∙◌, ◌∷◌, ◌≡◌, ◌≢◌, ◌⊎◌, ⊎_elim, Accepts, Active, addressed, age_of, and_both, Answer, ap, ap₂}
use Rattle.gl_steps.proofs.Words.{arith, Bool, both, clash, Command, Condemned, enqueued, enters_at, false, filter, Follows, follows_trans, freed, freed_among}
use Rattle.gl_steps.proofs.Words.{freed_unless, goes_with, granted, granted_at, Graph, holds, if◌then◌else◌, inl, inr, is_among_waiters, is_child, is_covered}
use Rattle.gl_steps.proofs.Words.{is_live, is_some, is_waiting_at, IsLawful, list_any, live_by, lives, Locks, members, min, Mode, nat_tests, NL, no, no_txn}
use Rattle.gl_steps.proofs.Words.{Node, NodeId, None, none_among, none_some, not, Notice, notice_of, Option, or_elim, or_left, or_right, parents_in, raised}
use Rattle.gl_steps.proofs.Words.{refl, rekeyed_parents, released, restatus, same_mode, same_node, same_node-equal, same_node-refl, same_txn, Some, split}
use Rattle.gl_steps.proofs.Words.{State, Status, status_in, status_of, stays, Step, stripped, subst, sym, tests_of, Told, told, told_but, told_from, true}
use Rattle.gl_steps.proofs.Words.{true≢false, Txn, TxnId, Waiting, waiting_test, waits_at, WaitsWell, wanted, with_grant, with_key, without_branch}
use Rattle.gl_steps.proofs.Words.{joining_age, without_node, woken, ℕ}
use Rattle.gl_modes.proofs.Words.{number_same}
use Rattle.gl_modes.proofs.NodeLemmas.{same_node-sym}
use Rattle.gl_model.specs.declared.answers.Notice.TheVariants as notice
use Rattle.gl_model.proofs.law.Keeps.{waiting_is}
use Rattle.gl_steps.specs.declared.command.Command.TheVariants as command
use Rattle.gl_steps.specs.Promises.{ends_wait_of, EndsWaits, is_told, is_told_that, IsToldEnd, moves_node, same_notice, waits_on}
use Rattle.gl_steps.proofs.Beginning.{Begins}
use Rattle.gl_steps.proofs.EachStep.{each_step}
use Rattle.gl_steps.proofs.GrantCommands.{free_differs, joining_differs}
use Rattle.gl_steps.proofs.LivesOn.{freed_among_on, freed_on, GoesOn, lives_on_same, lives_on_trans, LivesOn, over_goes_on, pumped_goes_on, settled_goes_on}
use Rattle.gl_steps.proofs.LivesOn.{unless_on, wait_settles_goes_on, woken_on}
use Rattle.gl_steps.proofs.NotRefused.{differ, txn_lives}
use Rattle.gl_graph.specs.Splits.{merge, next_interval}
use Rattle.gl_steps.proofs.OneStep.{all_none, AllNone, none_first}
use Rattle.gl_steps.proofs.SplitKeeps.{merge_gone}
use Rattle.gl_steps.proofs.OtherChanges.{begun_other, cancelled_follows, enqueued_follows, escalated_follows, other, released_follows, settled_follows}
use Rattle.gl_steps.proofs.OtherChanges.{unlocked_follows, wait_settles_follows, with_grant_follows}
use Rattle.gl_steps.proofs.ToldGrants.{age_is, any_filtered, any_mapped, txn_there}
use Rattle.gl_modes.proofs.ModeLemmas.{same_mode-refl}
use Rattle.gl_model.proofs.telling.Follows.{lawful_waits}

-- each notice is itself
same_notice-refl : (x : Notice) → same_notice x x ≡ true
same_notice-refl (notice.Granted n m) = both _ _ (same_node-refl n) (same_mode-refl m)
same_notice-refl notice.Victim = refl
same_notice-refl notice.Moved = refl
same_notice-refl notice.Gone = refl

-- a wait on what is not removed lasts
freed_keeps : (goes : NodeId → Bool) (n : NodeId) (m : Mode) (x : Option Txn) → status_in x ≡ Some (Waiting n m) → goes n ≡ false
    → status_in (freed_among goes x) ≡ Some (Waiting n m)
freed_keeps goes n m None h e = absurd (none_some h)
freed_keeps goes n m (Some y) h e =
    let st : y.status ≡ Waiting n m = cc in
    ap (λ z. Some (none_among goes z)) st ∙ ap (λ b. Some (if b then Active else Waiting n m)) e

-- and so does one on another node than that which moves
unless_keeps : (keeps : ℕ → Bool) (r : NodeId) (u : ℕ) (n : NodeId) (m : Mode) (x : Option Txn) → status_in x ≡ Some (Waiting n m) → same_node n r ≡ false
    → status_in (freed_unless keeps r u x) ≡ Some (Waiting n m)
unless_keeps keeps r u n m x h e = by (keeps u)
  where
    by : (b : Bool) → status_in (if b then x else freed r x) ≡ Some (Waiting n m)
    by true = h
    by false = freed_keeps (λ q. same_node q r) n m x h e

-- what is removed lives no more
deleted_dead : (g : Graph) (r n : NodeId) → same_node n r ≡ true → is_live (without_node g r) n ≡ false
deleted_dead g r n e =
    let birth : (n.birth == r.birth) ≡ true = ap (λ p. p.birth == r.birth) (same_node-equal n r e) ∙ number_same r.birth r.birth refl in
    ap (λ b. is_some (with_key n.key (if b then None else g.at n.birth))) birth

-- a parent of a living node is one of the node of its birth
child_in : (p : NodeId → Bool) (key : ℕ) (o : Option Node) → list_any p (parents_in (with_key key o)) ≡ true → list_any p (parents_in o) ≡ true
child_in p key None h = h
child_in p key (Some y) h = by (y.key == key) h
  where
    by : (b : Bool) → list_any p (parents_in (if b then Some y else None)) ≡ true → list_any p y.parents ≡ true
    by true k = k
    by false k = absurd (no k)

dropped_dead : (g : Graph) (x n : NodeId) → goes_with g x n ≡ true → is_live (without_branch g x) n ≡ false
dropped_dead g x n e = or_elim (same_node x n) (is_child g x n) e
    (λ h. gone (or_left (n.birth == x.birth) (list_any (same_node x) (parents_in (g.at n.birth)))
    (number_same n.birth x.birth (ap (λ p. p.birth) (sym (same_node-equal x n h))))))
    (λ h. gone (or_right (n.birth == x.birth) (list_any (same_node x) (parents_in (g.at n.birth))) (child_in (same_node x) n.key (g.at n.birth) h)))
  where
    gone : ((n.birth == x.birth) || list_any (same_node x) (parents_in (g.at n.birth))) ≡ true → is_live (without_branch g x) n ≡ false
    gone k = ap (λ b. is_some (with_key n.key (if b then None else g.at n.birth))) k

-- what is told to t is among what is told
told_something : (t : TxnId) (x : Notice) (list : Told) → is_told_that t x list ≡ true → is_told t list ≡ true
told_something t x [] h = h
told_something t x (y ∷ ys) h =
    or_elim (same_txn t y.0 && same_notice x y.1) (is_told_that t x ys) h (λ here. or_left (same_txn t y.0) (is_told t ys) (and_both _ _ here).0)
    (λ there. or_right (same_txn t y.0) (is_told t ys) (told_something t x ys there))

-- t lives in s, and waits on n for m
module _ (s : State) (law : IsLawful s) (t : TxnId) (alive : lives s t ≡ true) (n : NodeId) (m : Mode) (waits : status_of s t.slot ≡ Some (Waiting n m)) where
  -- one that lives on and waits no more is told something
  some_notice : (now : State) (o : Option Status) → (o ≡ None → ⊥) → ((q : NodeId) (w : Mode) → o ≡ Some (Waiting q w) → ⊥) → (x : Notice)
      × (notice_of now t.slot n m o ≡ Some x)
  some_notice now None there quiet = absurd (there refl)
  some_notice now (Some (Waiting q w)) there quiet = absurd (quiet q w refl)
  some_notice now (Some Condemned) there quiet = (notice.Victim, refl)
  some_notice now (Some Active) there quiet = by (is_live now.graph n) (same_mode (now.held t.slot n) m)
    where
      by : (a b : Bool) → (x : Notice) × ((if not a then Some notice.Gone else (if b then Some (notice.Granted n m) else Some notice.Moved)) ≡ Some x)
      by false b = (notice.Gone, refl)
      by true true = (notice.Granted n m, refl)
      by true false = (notice.Moved, refl)

  itself : same_txn t (record { slot = t.slot; age = age_of s t.slot }) ≡ true
  itself = let a : (t.slot == t.slot) ≡ true = grind (arith, nat_tests) in ap₂ (λ x y. x && y) a (age_is t.age (s.txns t.slot) alive)

  module _ (now : State) (on : GoesOn s now t.slot) (over : waits_on now t n ≡ false) where
    alive_now : lives now t ≡ true
    alive_now = on.lives t.age alive

    there : status_of now t.slot ≡ None → ⊥
    there e = by (now.txns t.slot) alive_now e
      where
        by : (x : Option Txn) → live_by t.age x ≡ true → status_in x ≡ None → ⊥
        by None h k = true≢false (sym h)
        by (Some x) h k = cc

    quiet : (q : NodeId) (w : Mode) → status_of now t.slot ≡ Some (Waiting q w) → ⊥
    quiet q w e =
        let same : q ≡ n = let before : Some (Waiting n m) ≡ Some (Waiting q w) = sym waits ∙ on.waits q w e in cc in
        let here : is_waiting_at now t.slot n ≡ true = ap (λ o. waits_at o n) e ∙ ap (λ p. same_node p n) same ∙ same_node-refl n in
        true≢false (sym (both _ _ alive_now here) ∙ over)

    abbrev its : Notice
    its = (some_notice now (status_of now t.slot) there quiet).0

    -- its notice is in the list
    -- one that is active holds what it waited for, or the node is gone: it is not told that the node moved
    pub not_moved : (status_of now t.slot ≡ Some Active → is_live now.graph n ≡ true → same_mode (now.held t.slot n) m ≡ true)
        → (x : Notice) → notice_of now t.slot n m (status_of now t.slot) ≡ Some x → x ≡ notice.Moved → ⊥
    not_moved why x is e = by (status_of now t.slot) refl is
      where
        at : (a : Bool) → is_live now.graph n ≡ a → (b : Bool) → same_mode (now.held t.slot n) m ≡ b → status_of now t.slot ≡ Some Active
            → (if not a then Some notice.Gone else (if b then Some (notice.Granted n m) else Some notice.Moved)) ≡ Some x → ⊥
        at false a b h st k = let f : notice.Gone ≡ notice.Moved = cc in cc
        at true a true h st k = let f : notice.Granted n m ≡ notice.Moved = cc in cc
        at true a false h st k = clash (why st a) h

        by : (o : Option Status) → status_of now t.slot ≡ o → notice_of now t.slot n m o ≡ Some x → ⊥
        by None st k = none_some k
        by (Some (Waiting q w)) st k = none_some k
        by (Some Condemned) st k = let f : notice.Victim ≡ notice.Moved = cc in cc
        by (Some Active) st k = at (is_live now.graph n) refl (same_mode (now.held t.slot n) m) refl st k

    its_told : is_told_that t its (told s now) ≡ true
    its_told =
        let x = some_notice now (status_of now t.slot) there quiet in
        any_mapped (λ y. same_txn t y.0 && same_notice its y.1)
        (λ u. addressed (record { slot = u; age = age_of s u }) (told_from now u (status_of s u))) t.slot
        (record { slot = t.slot; age = age_of s t.slot }, x.0)
        (ap (λ o. addressed (record { slot = t.slot; age = age_of s t.slot }) (told_from now t.slot o)) waits
        ∙ ap (addressed (record { slot = t.slot; age = age_of s t.slot })) x.1)
        (both _ _ itself (same_notice-refl its)) 0 s.most (omega arith)
        (let below = law.slots_below t.slot (txn_there t.age (s.txns t.slot) alive) in omega arith)

    -- so something is told to it
    pub told_over : is_told t (told s now) ≡ true
    told_over = told_something t its (told s now) its_told

    other_told : (u : ℕ) → u ≢ t.slot → (x : TxnId × Notice) → (same_txn t x.0 && same_notice its x.1) ≡ true → not (x.0.slot == u) ≡ true
    other_told u ne x h =
        let e : (t.slot == x.0.slot) ≡ true = (and_both _ _ (and_both _ _ h).0).0 in
        split (x.0.slot == u) (λ k. absurd
        (let a : t.slot ≡ x.0.slot = grind (arith, nat_tests) in let b : x.0.slot ≡ u = grind (arith, nat_tests) in ne (sym (a ∙ b)))) (λ k. ap not k)

    its_told_but : (u : ℕ) → u ≢ t.slot → is_told_that t its (told_but u s now) ≡ true
    its_told_but u ne = any_filtered (λ x. same_txn t x.0 && same_notice its x.1) (λ x. not (x.0.slot == u)) (told s now) (other_told u ne) its_told

  -- a slot that is as it was waits on
  still : (now : State) → now.txns t.slot ≡ s.txns t.slot → waits_on now t n ≡ false → ⊥
  still now same over =
      let before : waits_on s t n ≡ true = both _ _ alive (ap (λ o. waits_at o n) waits ∙ same_node-refl n) in
      true≢false (sym (ap (λ x. live_by t.age x && waits_at (status_in x) n) same ∙ before) ∙ over)

  -- an active transaction has another slot
  other_active : (u : TxnId) → waiting_test (status_of s u.slot) ≡ None → u.slot ≢ t.slot
  other_active u passed e = none_some (sym passed ∙ ap (λ v. waiting_test (status_of s v)) e ∙ ap waiting_test waits)

  module _ (a : Answer) (list : Told) (next : State) (over : waits_on next t n ≡ false) where
    abbrev Ended : Command → Type 0
    Ended c = IsToldEnd t n m c list next ⊎ (ends_wait_of t c ≡ true)

    abbrev its_end : GoesOn s next t.slot → (x : Notice) × (notice_of next t.slot n m (status_of next t.slot) ≡ Some x)
    its_end on = some_notice next (status_of next t.slot) (there next on over) (quiet next on over)

    on_is : (made : State) → next ≡ made → GoesOn s made t.slot → GoesOn s next t.slot
    on_is made e on = subst (λ (x : State). GoesOn s x t.slot) (sym e) on

    unmoved : (made : State) → next ≡ made → made.txns t.slot ≡ s.txns t.slot → (c : Command) → Ended c
    unmoved made e same c = absurd (still next (ap (λ (x : State). x.txns t.slot) e ∙ same) over)

    -- it is told that the node moved only if that is so
    abbrev MovesIf : Command → GoesOn s next t.slot → Type 0
    MovesIf c on = (its_end on).0 ≡ notice.Moved → moves_node n c ≡ true

    all_told : (c : Command) → list ≡ told s next → (on : GoesOn s next t.slot) → MovesIf c on → Ended c
    all_told c is on moved = let x = its_end on in
        inl (record { said = x.0; is = x.1; told_so = ap (is_told_that t x.0) is ∙ its_told next on over; moved = moved })

    others_told : (c : Command) (u : ℕ) → u ≢ t.slot → list ≡ told_but u s next → (on : GoesOn s next t.slot) → MovesIf c on → Ended c
    others_told c u ne is on moved = let x = its_end on in
        inl (record { said = x.0; is = x.1; told_so = ap (is_told_that t x.0) is ∙ its_told_but next on over u ne; moved = moved })

    -- a change by others that moves no node grants what it waited for
    granted_by : Follows s next t.slot → (on : GoesOn s next t.slot) (c : Command) → MovesIf c on
    granted_by f on c e = absurd (not_moved next on over (λ active live.
        let g = f.ends (n, m, waits) active in
        let same : Some (Waiting g.node g.mode) ≡ Some (Waiting n m) = sym g.was ∙ waits in
        let node : g.node ≡ n = cc in let mode : g.mode ≡ m = cc in
        ap (λ x. same_mode x m) (ap (next.held t.slot) (sym node) ∙ g.at ∙ mode) ∙ same_mode-refl m) (its_end on).0 (its_end on).1 e)

    -- a removal removed the node
    gone_by : (goes : NodeId → Bool) → next.txns t.slot ≡ freed_among goes (s.txns t.slot) → (on : GoesOn s next t.slot) (c : Command)
        → (goes n ≡ true → is_live next.graph n ≡ false) → MovesIf c on
    gone_by goes is on c dead e = absurd (not_moved next on over (λ active live. clash live
        (dead (split (goes n) (λ h. h) (λ h. absurd (quiet next on over n m (ap status_in is ∙ freed_keeps goes n m (s.txns t.slot) waits h))))))
        (its_end on).0 (its_end on).1 e)

    -- a move moved it
    moved_by : (keeps : ℕ → Bool) (r : NodeId) → next.txns t.slot ≡ freed_unless keeps r t.slot (s.txns t.slot) → (on : GoesOn s next t.slot)
        → same_node r n ≡ true
    moved_by keeps r is on = same_node-sym r n ∙ split (same_node n r) (λ h. h)
        (λ h. absurd (quiet next on over n m (ap status_in is ∙ unless_keeps keeps r t.slot n m (s.txns t.slot) waits h)))

    well : WaitsWell s t.slot
    well = lawful_waits s law t.slot

    follows_is : (made : State) → next ≡ made → Follows s made t.slot → Follows s next t.slot
    follows_is made e f = subst (λ x. Follows s x t.slot) (sym e) f

    lock_follows : (u : TxnId) (q : NodeId) (w : Mode) → u.slot ≢ t.slot → Locks s u.slot q w next → Follows s next t.slot
    lock_follows u q w ne locks =
        split (enters_at s u.slot q w) (λ e. follows_is _ (locks.at_once e) (with_grant_follows s u.slot t.slot q _ ne well))
        (λ e. let x : State = enqueued s u.slot q (wanted s u.slot q w) in
        let f = enqueued_follows s u.slot t.slot q (wanted s u.slot q w) ne well in
        follows_trans s x next t.slot f (wait_settles_follows s.detect s.victims x u.slot next t.slot (locks.waits e) f.well))

    named : (c : Command) → ends_wait_of t c ≡ true → Ended c
    named c h = inr h

    other_slot : (u : TxnId) → same_txn t u ≡ false → no_txn s u ≡ None → u.slot ≢ t.slot
    other_slot u apart h = differ s t u alive (txn_lives s u h) apart

    released_on : (u : ℕ) → u ≢ t.slot → GoesOn s (released s u) t.slot
    released_on u ne =
        let got = granted_at (stripped s u) (λ q. holds (members s q) u || is_waiting_at s u q) in
        subst (λ b. LivesOn (s.txns t.slot) (woken got t.slot (if b then None else s.txns t.slot))) (sym (other u t.slot ne))
        (woken_on got t.slot (s.txns t.slot))

    locked_on : (u : TxnId) (q : NodeId) (w : Mode) → u.slot ≢ t.slot → Locks s u.slot q w next → GoesOn s next t.slot
    locked_on u q w ne locks =
        split (enters_at s u.slot q w)
        (λ e. on_is (granted s u.slot q w) (locks.at_once e) (lives_on_same (s.txns t.slot) (s.txns t.slot) refl))
        (λ e. let x : State = enqueued s u.slot q (wanted s u.slot q w) in
        lives_on_trans (s.txns t.slot) (x.txns t.slot) (next.txns t.slot)
        (lives_on_same (s.txns t.slot) (x.txns t.slot)
        (ap (λ b. if b then restatus (Waiting q (wanted s u.slot q w)) (s.txns u.slot) else s.txns t.slot) (other u.slot t.slot ne)))
        (wait_settles_goes_on s.detect s.victims x next u.slot t.slot (locks.waits e)))

    begins : (c : Command) (since : ℕ) → Begins since s a list next → Ended c
    begins c since acc = unmoved _ acc.4 (begun_other s acc.0 (s.begins + 1) since t.slot (free_differs s t alive acc.0 acc.1)) c

    accepted : (c : Command) → AllNone (tests_of s c) → Accepts s c a list next → Ended c
    accepted command.Begin passed acc = begins command.Begin (s.begins + 1) acc
    accepted (command.BeginAgain since) passed acc = begins (command.BeginAgain since) (min since (s.begins + 1)) acc
    accepted (command.Join u since) passed acc =
        unmoved _ acc.2 (begun_other s u (joining_age s since) since t.slot (joining_differs s t alive u passed.1.1.0)) (command.Join u since)
    accepted (command.Lock u q w) passed acc =
        let ne = other_active u passed.1.1.0 in let on = locked_on u q w ne acc.0 in
        others_told (command.Lock u q w) u.slot ne acc.2 on (granted_by (lock_follows u q w ne acc.0) on (command.Lock u q w))
    accepted (command.Try u q w) passed acc = unmoved _ acc.2 refl (command.Try u q w)
    accepted (command.Unlock u q) passed acc =
        let ne = other_active u passed.1.1.0 in
        let on = on_is _ acc.2 (pumped_goes_on (with_grant s u.slot q NL) (same_node q) t.slot) in
        all_told (command.Unlock u q) acc.1 on (granted_by (follows_is _ acc.2 (unlocked_follows s u.slot t.slot q ne well)) on (command.Unlock u q))
    accepted (command.Escalate u q) passed acc =
        let ne = other_active u passed.1.1.0 in
        let up : State = raised s u.slot q in
        let on = on_is _ acc.2 (pumped_goes_on (record up { held = λ v c. if (v == u.slot) && is_covered up u.slot q c then NL else up.held v c })
        (is_covered up u.slot q) t.slot) in
        all_told (command.Escalate u q) acc.1 on (granted_by (follows_is _ acc.2 (escalated_follows s u.slot t.slot q ne well)) on (command.Escalate u q))
    accepted (command.Cancel u) passed acc =
        split (same_txn t u) (λ e. named (command.Cancel u) e)
        (λ e. let ne = other_slot u e passed.1.0 in let on = on_is _ acc.2 (over_goes_on s u.slot Active (λ q w h. cc) t.slot) in
        others_told (command.Cancel u) u.slot ne acc.1 on
        (granted_by (follows_is _ acc.2 (cancelled_follows s u.slot t.slot ne well)) on (command.Cancel u)))
    accepted (command.Commit u) passed acc =
        let ne = other_active u passed.1.1.0 in let on = on_is _ acc.2 (released_on u.slot ne) in
        all_told (command.Commit u) acc.1 on (granted_by (follows_is _ acc.2 (released_follows s u.slot t.slot ne well)) on (command.Commit u))
    accepted (command.Renew u since) passed acc =
        unmoved _ acc.2 (begun_other s u.slot (s.begins + 1) (min since (s.begins + 1)) t.slot (other_active u passed.1.1.0)) (command.Renew u since)
    accepted (command.Abort u) passed acc =
        split (same_txn t u) (λ e. named (command.Abort u) e)
        (λ e. let ne = other_slot u e passed.1.0 in let on = on_is _ acc.2 (released_on u.slot ne) in
        all_told (command.Abort u) acc.1 on (granted_by (follows_is _ acc.2 (released_follows s u.slot t.slot ne well)) on (command.Abort u)))
    accepted (command.Settle u) passed acc =
        let on = settled_goes_on s.victims s next u.slot t.slot acc.2 in
        all_told (command.Settle u) acc.1 on (granted_by (settled_follows s.victims s u.slot next t.slot acc.2 well) on (command.Settle u))
    accepted (command.Delete u r) passed acc =
        let on = on_is _ acc.2 (freed_on r (s.txns t.slot)) in
        all_told (command.Delete u r) acc.1 on (gone_by (λ q. same_node q r) (ap (λ (x : State). x.txns t.slot) acc.2) on (command.Delete u r)
        (λ e. ap (λ (x : State). is_live x.graph n) acc.2 ∙ deleted_dead s.graph r n e))
    accepted (command.Rekey u r i k) passed acc =
        let keeps : ℕ → Bool = λ v. is_among_waiters v (filter (stays s (rekeyed_parents s.graph r i k)) (s.queue r)) in
        let on = on_is _ acc.2 (unless_on keeps r t.slot (s.txns t.slot)) in
        all_told (command.Rekey u r i k) acc.1 on (λ e. moved_by keeps r (ap (λ (x : State). x.txns t.slot) acc.2) on)
    accepted (command.Move u x ps) passed acc =
        let keeps : ℕ → Bool = λ v. is_among_waiters v (filter (stays s ps.now) (s.queue x)) in
        let on = on_is _ acc.2 (unless_on keeps x t.slot (s.txns t.slot)) in
        all_told (command.Move u x ps) acc.1 on (λ e. moved_by keeps x (ap (λ (y : State). y.txns t.slot) acc.2) on)
    accepted (command.Forget r) passed acc = unmoved _ acc.2 refl (command.Forget r)
    accepted (command.Drop u x) passed acc =
        let on = on_is _ acc.2 (freed_among_on (goes_with s.graph x) (s.txns t.slot)) in
        all_told (command.Drop u x) acc.1 on (gone_by (goes_with s.graph x) (ap (λ (y : State). y.txns t.slot) acc.2) on (command.Drop u x)
        (λ e. ap (λ (y : State). is_live y.graph n) acc.2 ∙ dropped_dead s.graph x n e))
    accepted (command.Split u i bound) passed acc =
        let on = on_is _ acc.4 (freed_on i (s.txns t.slot)) in
        all_told (command.Split u i bound) acc.3 on (λ _. moved_by (λ v. false) i (ap (λ (x : State). x.txns t.slot) acc.4) on)
    accepted (command.Merge u i) passed acc =
        let j = next_interval s.graph i in
        let on = on_is _ acc.2 (freed_on j (s.txns t.slot)) in
        all_told (command.Merge u i) acc.1 on (gone_by (λ q. same_node q j) (ap (λ (x : State). x.txns t.slot) acc.2) on (command.Merge u i)
        (λ e. ap (λ (x : State). is_live x.graph n) acc.2 ∙ ap (is_live (merge s.graph i)) (same_node-equal n j e)
        ∙ merge_gone s u i law (none_first (tests_of s (command.Merge u i)) passed)))
    accepted (command.Group q) passed acc = absurd acc
    accepted (command.Held u q) passed acc = absurd acc
    accepted (command.Effective u q) passed acc = absurd acc
    accepted c passed acc = unmoved _ acc.4 refl c

pub waits_end_so : EndsWaits
waits_end_so s s' c a list t n m law step alive waits over =
    each_step (λ (x : State). waits_on x t n ≡ false → IsToldEnd t n m c list x ⊎ (ends_wait_of t c ≡ true)) s c a list s'
    (λ h. absurd (still s law t alive n m waits s refl h))
    (λ next h k. ⊎_elim (λ x. inl (record { said = x.said; is = x.is; told_so = x.told_so; moved = x.moved })) (λ x. inr x) (h k))
    (λ free next acc h. accepted s law t alive n m waits a list next h c (all_none (tests_of s c) free) acc) step over

-- so something was told, or the command named it
pub ends_waits : (s s' : State) (c : Command) (a : Answer) (told : Told) (t : TxnId) (n : NodeId) → IsLawful s → Step s c a told s' → waits_on s t n ≡ true
    → waits_on s' t n ≡ false
    → (is_told t told || ends_wait_of t c) ≡ true
ends_waits s s' c a list t n law step begin over =
    let b = and_both _ _ begin in
    let w = waiting_is (status_of s t.slot) n b.1 in
    ⊎_elim (λ told. or_left (is_told t list) (ends_wait_of t c) (told_something t told.said list told.told_so))
    (λ named. or_right (is_told t list) (ends_wait_of t c) named)
    (waits_end_so s s' c a list t n w.0 law step b.0 w.1 over)
