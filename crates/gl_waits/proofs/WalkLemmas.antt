-- Paths of waits: joined, read backwards, and in a relation with more waits.
use Rattle.gl_waits.proofs.Words.{[], ◌∷◌, ◌≡◌, and_from, and_parts, Bool, false, IsOnCycle, IsOnNoCycle, IsWalk, List, Reaches, refl, true, waits_of, ℕ}
use Rattle.std.proofs.Common.{◌++◌}

walk_join : (edge : ℕ → ℕ → Bool) (a b c : ℕ) (path more : List ℕ) → IsWalk edge a path b → IsWalk edge b more c → IsWalk edge a (path ++ b ∷ more) c
walk_join edge a b c [] more h k = (h, k)
walk_join edge a b c (v ∷ path) more h k = (h.0, walk_join edge v b c path more h.1 k)

-- a slot that reaches a second that reaches a third reaches the third
pub reaches_join : (edge : ℕ → ℕ → Bool) (a b c : ℕ) → Reaches edge a b → Reaches edge b c → Reaches edge a c
reaches_join edge a b c h k = (h.0 ++ b ∷ k.0, walk_join edge a b c h.0 k.0 h.1 k.1)

-- a set that has what one wait from a reaches, and what one wait from a member reaches, has all that a reaches
walk_inside : (edge : ℕ → ℕ → Bool) (member : ℕ → Bool) → ((x y : ℕ) → member x ≡ true → edge x y ≡ true → member y ≡ true)
    → (a u : ℕ) (path : List ℕ) → ((y : ℕ) → edge a y ≡ true → member y ≡ true) → IsWalk edge a path u → member u ≡ true
walk_inside edge member closed a u [] first h = first u h
walk_inside edge member closed a u (v ∷ path) first h = walk_inside edge member closed v u path (λ y. closed v y (first v h.0)) h.1

pub reaches_inside : (edge : ℕ → ℕ → Bool) (member : ℕ → Bool) → ((x y : ℕ) → member x ≡ true → edge x y ≡ true → member y ≡ true) → (a u : ℕ)
    → ((y : ℕ) → edge a y ≡ true → member y ≡ true) → Reaches edge a u → member u ≡ true
reaches_inside edge member closed a u first r = walk_inside edge member closed a u r.0 first r.1

-- if each wait from a member is one of another relation, and none leads out of the members, so is each path from a member
pub reaches_among : (edge more : ℕ → ℕ → Bool) (member : ℕ → Bool) → ((x y : ℕ) → member x ≡ true → edge x y ≡ true → member y ≡ true)
    → ((x y : ℕ) → member x ≡ true → edge x y ≡ true → more x y ≡ true) → (a u : ℕ) → member a ≡ true → Reaches edge a u → Reaches more a u
reaches_among edge more member closed sub a u inside r = (r.0, by a r.0 inside r.1)
  where
    by : (x : ℕ) (path : List ℕ) → member x ≡ true → IsWalk edge x path u → IsWalk more x path u
    by x [] m h = sub x u m h
    by x (v ∷ path) m h = (sub x v m h.0, by v path (closed x v m h.0) h.1)

pub reaches_more : (edge more : ℕ → ℕ → Bool) → ((x y : ℕ) → edge x y ≡ true → more x y ≡ true) → (a u : ℕ) → Reaches edge a u → Reaches more a u
reaches_more edge more sub a u r = reaches_among edge more (λ _. true) (λ x y m e. refl) (λ x y m e. sub x y e) a u refl r

-- the waits of some are waits
pub waits_of-less : (member : ℕ → Bool) (edge : ℕ → ℕ → Bool) (x y : ℕ) → waits_of member edge x y ≡ true → edge x y ≡ true
waits_of-less member edge x y h = (and_parts (member x) (edge x y) h).1

pub reaches_of : (member : ℕ → Bool) (edge : ℕ → ℕ → Bool) (a u : ℕ) → Reaches (waits_of member edge) a u → Reaches edge a u
reaches_of member edge = reaches_more (waits_of member edge) edge (waits_of-less member edge)

-- of more members, and more waits
pub reaches_of_more : (member member' : ℕ → Bool) (edge edge' : ℕ → ℕ → Bool) → ((x : ℕ) → member x ≡ true → member' x ≡ true)
    → ((x y : ℕ) → edge x y ≡ true → edge' x y ≡ true)
    → (a u : ℕ) → Reaches (waits_of member edge) a u → Reaches (waits_of member' edge') a u
reaches_of_more member member' edge edge' members steps = reaches_more (waits_of member edge) (waits_of member' edge') each
  where
    each : (x y : ℕ) → waits_of member edge x y ≡ true → waits_of member' edge' x y ≡ true
    each x y h = let both = and_parts (member x) (edge x y) h in and_from (member' x) (edge' x y) (members x both.0) (steps x y both.1)

-- if each wait from a member is one of another relation, read backwards, and none leads out of the members, a path is one backwards
pub reaches_back : (edge back : ℕ → ℕ → Bool) (member : ℕ → Bool) → ((x y : ℕ) → member x ≡ true → edge x y ≡ true → member y ≡ true)
    → ((x y : ℕ) → member x ≡ true → edge x y ≡ true → back y x ≡ true) → (a u : ℕ) → member a ≡ true → Reaches edge a u → Reaches back u a
reaches_back edge back member closed turned a u inside r = by a r.0 inside r.1
  where
    by : (x : ℕ) (path : List ℕ) → member x ≡ true → IsWalk edge x path u → Reaches back u x
    by x [] m h = ([], turned x u m h)
    by x (v ∷ path) m h = reaches_join back u v x (by v path (closed x v m h.0) h.1) ([], turned x v m h.0)

-- t is on a cycle exactly if it reaches itself
pub on_cycle-reaches : (edge : ℕ → ℕ → Bool) (t : ℕ) → IsOnCycle edge t → Reaches edge t t
on_cycle-reaches edge t on = reaches_join edge t on.0 t on.1.there on.1.back

pub reaches-on_cycle : (edge : ℕ → ℕ → Bool) (t : ℕ) → Reaches edge t t → IsOnCycle edge t
reaches-on_cycle edge t r = (t, record { there = r; back = r })

pub no_cycle-reaches : (edge : ℕ → ℕ → Bool) (t : ℕ) → IsOnNoCycle edge t → Reaches edge t t → ⊥
no_cycle-reaches edge t none r = none t (record { there = r; back = r })

-- a slot that waits for nobody is on no cycle
pub no_step-no_cycle : (edge : ℕ → ℕ → Bool) (t : ℕ) → ((u : ℕ) → edge t u ≡ false) → IsOnNoCycle edge t
no_step-no_cycle edge t none v on = by on.there.0 on.there.1
  where
    by : (path : List ℕ) → IsWalk edge t path v → ⊥
    by [] h = cc (none v)
    by (w ∷ path) h = cc (none w, h.0)
