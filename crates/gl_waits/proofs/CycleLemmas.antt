-- Cycles: what a set of slots computed from a snapshot means, and cycles of a relation that changed.
use Rattle.gl_waits.proofs.Words.{[], ◌↔◌, ◌∷◌, ◌≡◌, ◌≢◌, ◌⊎◌, ⊎_elim, and_from, Bool, cases_eq, false, false_from_ne_true, inl, inr, IsLowestYoungest}
use Rattle.gl_waits.proofs.Words.{IsOnCycle, IsOnCycleOf, IsOnNoCycle, IsTrue, IsWalk, IsYoungest, List, Reaches, subst, true, waits_of, ℕ}
use Rattle.gl_waits.proofs.WalkLemmas.{reaches_among, reaches_join, reaches_more, reaches_of}

-- a set with exactly the slots on a cycle with t, as `on_cycle` answers
module _ (edge : ℕ → ℕ → Bool) (t : ℕ) (member : ℕ → Bool) (exact : (u : ℕ) → IsTrue (member u) ↔ IsOnCycleOf edge t u) where
  pub empty-no_cycle : ((u : ℕ) → member u ≡ false) → IsOnNoCycle edge t
  empty-no_cycle none v on = cc ((exact v).1 on, none v)

  pub no_cycle-empty : IsOnNoCycle edge t → (u : ℕ) → member u ≡ false
  no_cycle-empty none u = false_from_ne_true (member u) (λ h. none u ((exact u).0 h))

-- with more waits a cycle stays, so with fewer none appears
pub cycle-more : (edge more : ℕ → ℕ → Bool) → ((x y : ℕ) → edge x y ≡ true → more x y ≡ true) → (t v : ℕ) → IsOnCycleOf edge t v → IsOnCycleOf more t v
cycle-more edge more sub t v on = record { there = reaches_more edge more sub t v on.there; back = reaches_more edge more sub v t on.back }

pub fewer-no_cycle : (edge fewer : ℕ → ℕ → Bool) → ((x y : ℕ) → fewer x y ≡ true → edge x y ≡ true) → (t : ℕ) → IsOnNoCycle edge t → IsOnNoCycle fewer t
fewer-no_cycle edge fewer sub t none v on = none v (cycle-more fewer edge sub t v on)

pub less-no_cycle : (edge less : ℕ → ℕ → Bool) → ((x y : ℕ) → less x y ≡ true → edge x y ≡ true) → ((t : ℕ) → IsOnNoCycle edge t) → (t : ℕ) → IsOnNoCycle less t
less-no_cycle edge less sub none t = fewer-no_cycle edge less sub t (none t)

-- the members are what a slot reaches
module _ (edge : ℕ → ℕ → Bool) (member : ℕ → Bool) (slot : ℕ) (reached : (v : ℕ) → IsTrue (member v) ↔ Reaches edge slot v) where
  -- no wait leads out of them
  pub reached-closed : (x y : ℕ) → member x ≡ true → edge x y ≡ true → member y ≡ true
  reached-closed x y m e = (reached y).1 (reaches_join edge slot x y ((reached x).0 m) ([], e))

  -- a slot is on a cycle with it if it is a member that reaches it by the members' waits
  pub meets-cycle : (u : ℕ) → member u ≡ true → Reaches (waits_of member edge) u slot → IsOnCycleOf edge slot u
  meets-cycle u h r = record { there = (reached u).0 h; back = reaches_of member edge u slot r }

  pub cycle-meets : (u : ℕ) → IsOnCycleOf edge slot u → (member u ≡ true) × Reaches (waits_of member edge) u slot
  cycle-meets u on =
      let inside = (reached u).1 on.there in
      (inside, reaches_among edge (waits_of member edge) member reached-closed (λ x y m e. and_from (member x) (edge x y) m e) u slot inside on.back)

-- a relation that has new waits only from t or to t
module _ (edge new : ℕ → ℕ → Bool) (t : ℕ) (others : (x y : ℕ) → new x y ≡ true → x ≢ t → y ≢ t → edge x y ≡ true) where
  -- a path that does not pass t is one of the earlier relation
  past : (a u : ℕ) (path : List ℕ) → a ≢ t → u ≢ t → IsWalk new a path u → IsWalk edge a path u ⊎ (Reaches new a t × Reaches new t u)
  past a u [] na nu h = inl (others a u h na nu)
  past a u (v ∷ path) na nu h =
      ⊎_elim
      (λ is. inr (([], subst (λ x. new a x ≡ true) is h.0), (path, subst (λ x. IsWalk new x path u) is h.1)))
      (λ nv. ⊎_elim (λ w. inl (others a v h.0 na nv, w)) (λ r. inr ((v ∷ r.0.0, (h.0, r.0.1)), r.1)) (past v u path nv nu h.1))
      (cases_eq v t)

  -- if there was no cycle before, and t is on none now, there is none now
  pub at_one-no_cycle : ((x : ℕ) → IsOnNoCycle edge x) → IsOnNoCycle new t → (x : ℕ) → IsOnNoCycle new x
  at_one-no_cycle none free x v on =
      ⊎_elim
      (λ is. free v (subst (λ y. IsOnCycleOf new y v) is on))
      (λ nx. ⊎_elim (λ is. free x (record { there = subst (λ y. Reaches new y x) is on.back; back = subst (Reaches new x) is on.there }))
      (λ nv. apart nx nv) (cases_eq v t))
      (cases_eq x t)
    where
      back_too : IsWalk edge x on.there.0 v → x ≢ t → v ≢ t → ⊥
      back_too w nx nv =
          ⊎_elim
          (λ w'. none x v (record { there = (on.there.0, w); back = (on.back.0, w') }))
          (λ r. free x (record { there = r.1; back = reaches_join new x v t on.there r.0 }))
          (past v x on.back.0 nv nx on.back.1)

      apart : x ≢ t → v ≢ t → ⊥
      apart nx nv =
          ⊎_elim (λ w. back_too w nx nv) (λ r. free x (record { there = reaches_join new t v x r.1 on.back; back = r.0 }))
          (past x v on.there.0 nx nv on.there.1)
