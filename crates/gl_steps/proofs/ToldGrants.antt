-- One that was granted a mode for which it waited is told so.
use Rattle.gl_steps.proofs.Words.{◌&&◌, ◌+◌, ◌<◌, ◌==◌, [], ◌||◌, ◌∙◌, ◌∷◌, ◌≡◌, ◌≢◌, ◌≤◌, ⊎_elim, addressed, age_in, age_of, and_both, ap, ap₂, arith, Bool}
use Rattle.gl_steps.proofs.Words.{cases_eq, false, filter, GrantedTo, if◌then◌else◌, is_grant_to, is_live, is_some, IsLawful, List, list_any, live_by, lives}
use Rattle.gl_steps.proofs.Words.{Mode, nat_tests, NodeId, None, not, Notice, notice_of, Option, or-true, or_elim, range_with_len, refl, same_mode, same_node}
use Rattle.gl_steps.proofs.Words.{same_node-refl, same_txn, Some, split, State, status_of, suc, sym, told, told_but, told_from, true, true≢false, Txn, TxnId}
use Rattle.gl_steps.proofs.Words.{zero, ℕ}
use Rattle.std.specs.List.{cons_option, filter_map}
use Rattle.gl_model.specs.declared.answers.Notice.TheVariants as notice
use Rattle.gl_model.proofs.queues.Waiters.{one_among}
use Rattle.gl_modes.proofs.ModeLemmas.{same_mode-refl}

-- a notice to t of this grant
abbrev pub tells : TxnId → NodeId → Mode → TxnId × Notice → Bool
tells t n m (u, notice.Granted q w) = same_txn t u && (same_node q n && same_mode w m)
tells t n m (u, x) = false

-- a notice of this grant is a notice of a grant
pub tells_grant : (t : TxnId) (n : NodeId) (m : Mode) (x : TxnId × Notice) → tells t n m x ≡ true → is_grant_to t x ≡ true
tells_grant t n m (u, notice.Granted q w) h = (and_both _ _ h).0
tells_grant t n m x h = h

-- a weaker test passes too
pub any_weaker : {Y : Type 0} (p q : Y → Bool) (xs : List Y) → ((y : Y) → p y ≡ true → q y ≡ true) → list_any p xs ≡ true → list_any q xs ≡ true
any_weaker p q [] more h = h
any_weaker p q (y ∷ ys) more h = or_elim (p y) (list_any p ys) h (λ here. ap (λ b. b || list_any q ys) (more y here))
    (λ there. ap (λ b. q y || b) (any_weaker p q ys more there) ∙ or-true (q y))

any_cons : {Y : Type 0} (p : Y → Bool) (o : Option Y) (xs : List Y) → list_any p xs ≡ true → list_any p (cons_option o xs) ≡ true
any_cons p None xs h = h
any_cons p (Some y) xs h = ap (λ b. p y || b) h ∙ or-true (p y)

pub any_mapped : {Y : Type 0} (p : Y → Bool) (f : ℕ → Option Y) (x : ℕ) (y : Y) → f x ≡ Some y → p y ≡ true → (k n : ℕ) → k ≤ x → x < k + n
    → list_any p (filter_map f (range_with_len k n)) ≡ true
any_mapped p f x y is passes k zero low high = absurd (omega arith)
any_mapped p f x y is passes k (suc n) low high =
    ⊎_elim
    (λ e. ap (λ o. list_any p (cons_option o (filter_map f (range_with_len (k + 1) n)))) (ap f (sym e) ∙ is)
    ∙ ap (λ b. b || list_any p (filter_map f (range_with_len (k + 1) n))) passes)
    (λ ne. any_cons p (f k) _ (any_mapped p f x y is passes (k + 1) n (omega arith) (omega arith))) (cases_eq x k)

pub any_filtered : {Y : Type 0} (p q : Y → Bool) (xs : List Y) → ((y : Y) → p y ≡ true → q y ≡ true) → list_any p xs ≡ true → list_any p (filter q xs) ≡ true
any_filtered p q [] more h = h
any_filtered p q (y ∷ ys) more h = by (q y) (more y) (any_filtered p q ys more)
  where
    by : (b : Bool) → (p y ≡ true → b ≡ true) → (list_any p ys ≡ true → list_any p (filter q ys) ≡ true)
        → list_any p (if b then y ∷ filter q ys else filter q ys) ≡ true
    by true f rest = or_elim (p y) (list_any p ys) h (λ here. ap (λ b. b || list_any p (filter q ys)) here)
        (λ there. ap (λ b. p y || b) (rest there) ∙ or-true (p y))
    by false f rest = or_elim (p y) (list_any p ys) h (λ here. absurd (true≢false (sym (f here)))) (λ there. rest there)

pub age_is : (age : ℕ) (x : Option Txn) → live_by age x ≡ true → (age == age_in x) ≡ true
age_is age None h = absurd (true≢false (sym h))
age_is age (Some x) h = grind (arith, nat_tests)

pub txn_there : (age : ℕ) (x : Option Txn) → live_by age x ≡ true → is_some x ≡ true
txn_there age None h = h
txn_there age (Some x) h = refl

module _ (s s' : State) (law : IsLawful s) (t : TxnId) (alive : lives s t ≡ true)
    (live_same : (n : NodeId) → is_live s.graph n ≡ true → is_live s'.graph n ≡ true) (g : GrantedTo s s' t.slot) where
  notice_is : told_from s' t.slot (status_of s t.slot) ≡ Some (notice.Granted g.node g.mode)
  notice_is =
      ap (told_from s' t.slot) g.was ∙ ap (notice_of s' t.slot g.node g.mode) g.is
      ∙ ap₂ (λ a b. if not a then Some notice.Gone else (if b then Some (notice.Granted g.node g.mode) else Some notice.Moved))
      (live_same g.node (law.waits_live t.slot g.node (one_among t.slot (s.queue g.node) (t.slot, g.mode) (law.one_wait t.slot g.node g.mode g.was))))
      (ap (λ m. same_mode m g.mode) g.at ∙ same_mode-refl g.mode)

  itself : same_txn t (record { slot = t.slot; age = age_of s t.slot }) ≡ true
  itself = let a : (t.slot == t.slot) ≡ true = grind (arith, nat_tests) in ap₂ (λ x y. x && y) a (age_is t.age (s.txns t.slot) alive)

  -- the list of notices has it
  pub told_of_grant : list_any (tells t g.node g.mode) (told s s') ≡ true
  told_of_grant =
      any_mapped (tells t g.node g.mode) (λ u. addressed (record { slot = u; age = age_of s u }) (told_from s' u (status_of s u))) t.slot
      (record { slot = t.slot; age = age_of s t.slot }, notice.Granted g.node g.mode)
      (ap (addressed (record { slot = t.slot; age = age_of s t.slot })) notice_is)
      (ap₂ (λ a b. a && b) itself (ap₂ (λ a b. a && b) (same_node-refl g.node) (same_mode-refl g.mode))) 0 s.most (omega arith)
      (let below = law.slots_below t.slot (txn_there t.age (s.txns t.slot) alive) in omega arith)

  other_told : (u : ℕ) → u ≢ t.slot → (x : TxnId × Notice) → is_grant_to t x ≡ true → not (x.0.slot == u) ≡ true
  other_told u ne (v, notice.Granted n m) h =
      let both = and_both _ _ h in
      let same : t.slot ≡ v.slot = (let e : (t.slot == v.slot) ≡ true = both.0 in grind (arith, nat_tests)) in
      split (v.slot == u) (λ e. let at : v.slot ≡ u = grind (arith, nat_tests) in absurd (ne (sym (same ∙ at)))) (λ e. ap not e)
  other_told u ne x h = absurd (true≢false (sym h))

  -- and so has the list without the caller's
  pub told_but_of_grant : (u : ℕ) → u ≢ t.slot → list_any (tells t g.node g.mode) (told_but u s s') ≡ true
  told_but_of_grant u ne = any_filtered (tells t g.node g.mode) (λ x. not (x.0.slot == u)) (told s s')
      (λ x h. other_told u ne x (tells_grant t g.node g.mode x h)) told_of_grant
