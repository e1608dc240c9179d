-- Commands that leave the graph: each keeps a transaction that it does not name.
use Rattle.gl_steps.proofs.Words.{◌+◌, [], ◌∙◌, ◌∷◌, ◌≡◌, ◌≢◌, accepted_once, Accepts, Active, Answer, ap, begun_at, Bool, clash, enqueued, enters_at, false}
use Rattle.gl_steps.proofs.Words.{find, Follows, follows_trans, free_slot, GrantedTo, if◌then◌else◌, is_live, is_none, is_some, IsLawful, List, list_any}
use Rattle.gl_steps.proofs.Words.{live_by, lives, Mode, NodeId, None, none_some, Option, refl, released, slots, Some, some_is, split, State, status_in, subst}
use Rattle.gl_steps.proofs.Words.{sym, Told, told, told_but, true, true≢false, Txn, TxnId, Waiting, WaitsWell, wanted, ℕ}
use Rattle.gl_steps.specs.declared.command.Command.TheVariants as command
use Rattle.gl_steps.proofs.Beginning.{Begins}
use Rattle.gl_model.proofs.telling.Follows.{follows_refl, follows_same, lawful_waits}
use Rattle.gl_steps.proofs.OtherChanges.{begun_follows, begun_other, cancelled_follows, enqueued_follows, escalated_follows, released_follows, settled_follows}
use Rattle.gl_steps.proofs.OtherChanges.{unlocked_follows, wait_settles_follows, with_grant_follows}
use Rattle.gl_steps.proofs.ToldGrants.{tells, told_but_of_grant, told_of_grant, txn_there}
use Rattle.gl_model.specs.Calls.{taken_slot}
use Rattle.gl_model.proofs.law.Lock.{joining_slot}
use Rattle.gl_steps.proofs.Keeps.{Keeps, keeps_follows}

accepted_follows : (s next : State) (t : ℕ) → Follows s next t → Follows s (accepted_once next) t
accepted_follows s next t f = follows_trans s next (accepted_once next) t f (follows_same next (accepted_once next) t f.well refl refl (λ q. refl) (λ n. refl))

abbrev accepted_grant : (s next : State) (t : ℕ) → GrantedTo s (accepted_once next) t → GrantedTo s next t
accepted_grant s next t g = record { node = g.node; mode = g.mode; was = g.was; is = g.is; at = g.at; elsewhere = g.elsewhere; more = g.more }

not_granted : (s next : State) (t : ℕ) → next.txns t ≡ s.txns t → GrantedTo s next t → ⊥
not_granted s next t same g = apart (sym g.is ∙ ap status_in same ∙ g.was)
  where
    apart : {q : NodeId} {w : Mode} → Some Active ≡ Some (Waiting q w) → ⊥
    apart e = cc

found_passes : (p : ℕ → Bool) (xs : List ℕ) (x : ℕ) → find p xs ≡ Some x → p x ≡ true
found_passes p [] x h = absurd (none_some h)
found_passes p (y ∷ ys) x h = by (p y) refl h (found_passes p ys x)
  where
    by : (b : Bool) → p y ≡ b → (if b then Some y else find p ys) ≡ Some x → (find p ys ≡ Some x → p x ≡ true) → p x ≡ true
    by true e h' rest = ap p (sym (some_is h')) ∙ e
    by false e h' rest = rest h'

none_dead : (age : ℕ) (x : Option Txn) → is_none x ≡ true → live_by age x ≡ true → ⊥
none_dead age None h k = true≢false (sym k)
none_dead age (Some x) h k = true≢false (sym h)

-- a slot that is free is not that of a transaction that lives
pub free_differs : (s : State) (t : TxnId) → lives s t ≡ true → (u : ℕ) → free_slot s ≡ Some u → u ≢ t.slot
free_differs s t alive u free e = none_dead t.age (s.txns t.slot)
    (ap (λ x. is_none (s.txns x)) (sym e) ∙ found_passes (λ v. is_none (s.txns v)) (slots s) u free) alive

-- nor is one in which a transaction may join
pub joining_differs : (s : State) (t : TxnId) → lives s t ≡ true → (u : ℕ) → taken_slot s u ≡ None → u ≢ t.slot
joining_differs s t alive u passed e =
    clash (txn_there t.age (s.txns t.slot) alive) (ap (λ x. is_some (s.txns x)) (sym e) ∙ (joining_slot s u passed).0)

module _ (s : State) (law : IsLawful s) (t : TxnId) (alive : lives s t ≡ true) (next : State) where
  abbrev Kept : Told → Type 0
  Kept told' = Keeps s (accepted_once next) t told' false

  live_same : Follows s next t.slot → (n : NodeId) → is_live s.graph n ≡ true → is_live next.graph n ≡ true
  live_same f n live = ap (λ g. is_live g n) f.graph ∙ live

  kept_told : (told' : Told) → told' ≡ told s next → Follows s next t.slot → Kept told'
  kept_told told' e f =
      keeps_follows s (accepted_once next) t told' alive (accepted_follows s next t.slot f)
      (λ g. ap (list_any (tells t g.node g.mode)) e ∙ told_of_grant s next law t alive (live_same f) (accepted_grant s next t.slot g))

  kept_told_but : (u : ℕ) → u ≢ t.slot → (told' : Told) → told' ≡ told_but u s next → Follows s next t.slot → Kept told'
  kept_told_but u ne told' e f =
      keeps_follows s (accepted_once next) t told' alive (accepted_follows s next t.slot f)
      (λ g. ap (list_any (tells t g.node g.mode)) e ∙ told_but_of_grant s next law t alive (live_same f) (accepted_grant s next t.slot g) u ne)

  kept_quiet : (told' : Told) → next.txns t.slot ≡ s.txns t.slot → Follows s next t.slot → Kept told'
  kept_quiet told' same f =
      keeps_follows s (accepted_once next) t told' alive (accepted_follows s next t.slot f)
      (λ g. absurd (not_granted s next t.slot same (accepted_grant s next t.slot g)))

  well : WaitsWell s t.slot
  well = lawful_waits s law t.slot

  follows_is : (made : State) → next ≡ made → Follows s made t.slot → Follows s next t.slot
  follows_is made e f = subst (λ x. Follows s x t.slot) (sym e) f

  pub lock_keeps : (u : TxnId) (n : NodeId) (m : Mode) (a : Answer) (told' : Told) → u.slot ≢ t.slot → Accepts s (command.Lock u n m) a told' next → Kept told'
  lock_keeps u n m a told' ne acc =
      kept_told_but u.slot ne told' acc.2
      (split (enters_at s u.slot n m) (λ e. follows_is _ (acc.0.at_once e) (with_grant_follows s u.slot t.slot n _ ne well))
      (λ e. let f = enqueued_follows s u.slot t.slot n (wanted s u.slot n m) ne well in
      follows_trans s (enqueued s u.slot n (wanted s u.slot n m)) next t.slot f
      (wait_settles_follows s.detect s.victims (enqueued s u.slot n (wanted s u.slot n m)) u.slot next t.slot (acc.0.waits e) f.well)))

  pub try_keeps : (u : TxnId) (n : NodeId) (m : Mode) (a : Answer) (told' : Told) → u.slot ≢ t.slot → Accepts s (command.Try u n m) a told' next → Kept told'
  try_keeps u n m a told' ne acc = kept_quiet told' (ap (λ x. x.txns t.slot) acc.2) (follows_is _ acc.2 (with_grant_follows s u.slot t.slot n _ ne well))

  pub unlock_keeps : (u : TxnId) (n : NodeId) (a : Answer) (told' : Told) → u.slot ≢ t.slot → Accepts s (command.Unlock u n) a told' next → Kept told'
  unlock_keeps u n a told' ne acc = kept_told told' acc.1 (follows_is _ acc.2 (unlocked_follows s u.slot t.slot n ne well))

  pub escalate_keeps : (u : TxnId) (n : NodeId) (a : Answer) (told' : Told) → u.slot ≢ t.slot → Accepts s (command.Escalate u n) a told' next → Kept told'
  escalate_keeps u n a told' ne acc = kept_told told' acc.1 (follows_is _ acc.2 (escalated_follows s u.slot t.slot n ne well))

  pub cancel_keeps : (u : TxnId) (a : Answer) (told' : Told) → u.slot ≢ t.slot → Accepts s (command.Cancel u) a told' next → Kept told'
  cancel_keeps u a told' ne acc = kept_told_but u.slot ne told' acc.1 (follows_is _ acc.2 (cancelled_follows s u.slot t.slot ne well))

  pub release_keeps : (u : TxnId) (told' : Told) → u.slot ≢ t.slot → told' ≡ told s next → next ≡ released s u.slot → Kept told'
  release_keeps u told' ne e is = kept_told told' e (follows_is _ is (released_follows s u.slot t.slot ne well))

  pub settle_keeps : (u : TxnId) (a : Answer) (told' : Told) → Accepts s (command.Settle u) a told' next → Kept told'
  settle_keeps u a told' acc = kept_told told' acc.1 (settled_follows s.victims s u.slot next t.slot acc.2 well)

  -- another begins, in a slot that is free, or its own
  pub begun_keeps : (u age since : ℕ) (told' : Told) → u ≢ t.slot → next ≡ begun_at s u age since → Kept told'
  begun_keeps u age since told' ne is =
      kept_quiet told' (ap (λ x. x.txns t.slot) is ∙ begun_other s u age since t.slot ne)
      (follows_is _ is (begun_follows s u age since t.slot ne well))

  pub begin_keeps : (since : ℕ) (a : Answer) (told' : Told) → Begins since s a told' next → Kept told'
  begin_keeps since a told' acc = begun_keeps acc.0 (s.begins + 1) since told' (free_differs s t alive acc.0 acc.1) acc.4

  pub same_keeps : (told' : Told) → (s' : State) → s' ≡ s → {rows : Bool} → Keeps s s' t told' rows
  same_keeps told' s' e {rows} =
      subst (λ x. Keeps s x t told' rows) (sym e) (keeps_follows s s t told' alive (follows_refl s t.slot well) (λ g. absurd (not_granted s s t.slot refl g)))
