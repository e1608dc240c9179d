-- Grants of the whole are compatible, and meet the rule of the graph, if those of each manager do.
use Rattle.std.specs.Prelude.{◌≡◌, ◌≢◌, ℕ, Bool, true, false, not, ◌||◌, List, [], ◌∷◌, ◌++◌, Option, Some, None, if◌then◌else◌, is_some, map}
use Rattle.std.specs.List.{list_all, list_any}
use Rattle.std.proofs.Common.{refl, sym, ap, ap₂, ◌∙◌}
use Rattle.gl_modes.specs.declared.mode.Mode.{Mode}
use Rattle.gl_modes.specs.declared.mode.Mode.TheVariants.{NL, IS, IX, S, SIX, X}
use Rattle.gl_modes.specs.declared.node.NodeId.{NodeId}
use Rattle.gl_modes.specs.Modes.{are_compatible, is_at_least, same_mode, supremum}
use Rattle.gl_modes.proofs.Each.{every-true, every2-true, same, same-equal}
use Rattle.gl_modes.proofs.ModeLemmas.{at_least-refl, compatible-symmetric, lesser-compatible, supremum-least, supremum-NL}
use Rattle.gl_modes.proofs.Words.{and_both, both, cases_of, clash, or_elim, or_left, or_right, split}
use Rattle.gl_graph.specs.Graph.{Graph, parents_of}
use Rattle.gl_model.specs.Lawful.{GrantsGoTogether, GrantsIntend}
use Rattle.gl_model.specs.State.{intends_over, is_write, no_parents}
use Rattle.gl_model.proofs.law.Effects.{no_conflict_on}
use Rattle.gl_parts.specs.Whole.{Each, HasParentsOf, IsInOne, Part, held_at, held_by_name, held_in, is_in, is_intention, whole}
use Rattle.gl_parts.proofs.Lists.{each_both, each_map}
use Rattle.gl_parts.specs.Laws.{GrantsOfOnePart, ModesOfTheWhole, PartsGoTogether, PartsHaveNoConflict, PartsIntend, holds_somewhere}

-- Modes of one manager and of several.

-- a supremum has a mode exactly if one of the two has it
pub supremum_has : (m : Mode) → m ≢ SIX → (a b : Mode) → is_at_least (supremum a b) m ≡ (is_at_least a m || is_at_least b m)
supremum_has SIX ne a b = absurd (ne refl)
supremum_has NL ne a b = refl
supremum_has IS ne a b = same-equal _ _ (every2-true (λ x y. same (is_at_least (supremum x y) IS) (is_at_least x IS || is_at_least y IS)) refl a b)
supremum_has IX ne a b = same-equal _ _ (every2-true (λ x y. same (is_at_least (supremum x y) IX) (is_at_least x IX || is_at_least y IX)) refl a b)
supremum_has S ne a b = same-equal _ _ (every2-true (λ x y. same (is_at_least (supremum x y) S) (is_at_least x S || is_at_least y S)) refl a b)
supremum_has X ne a b = same-equal _ _ (every2-true (λ x y. same (is_at_least (supremum x y) X) (is_at_least x X || is_at_least y X)) refl a b)

nothing_has : (m : Mode) → m ≢ NL → is_at_least NL m ≡ false
nothing_has NL ne = absurd (ne refl)
nothing_has m ne = refl

pub modes_by : ModesOfTheWhole
modes_by [] t n m some one = nothing_has m some
modes_by (p ∷ ps) t n m some one =
    supremum_has m one (held_at p t n) (held_in ps t n) ∙ ap (λ b. is_at_least (held_at p t n) m || b) (modes_by ps t n m some one)

writes_by : (ps : List Part) (t : ℕ) (n : NodeId) → is_at_least (held_in ps t n) IX ≡ holds_somewhere IX ps t n
writes_by ps t n = modes_by ps t n IX (λ e. cc) (λ e. cc)

supremum_holds : (a b : Mode) → not (same_mode (supremum a b) NL) ≡ (not (same_mode a NL) || not (same_mode b NL))
supremum_holds a b =
    same-equal _ _ (every2-true (λ x y. same (not (same_mode (supremum x y) NL)) (not (same_mode x NL) || not (same_mode y NL))) refl a b)

holds_by : (ps : List Part) (t : ℕ) (n : NodeId) → not (same_mode (held_in ps t n) NL) ≡ list_any (λ p. not (same_mode (held_at p t n) NL)) ps
holds_by [] t n = refl
holds_by (p ∷ ps) t n = supremum_holds (held_at p t n) (held_in ps t n) ∙ ap (λ b. not (same_mode (held_at p t n) NL) || b) (holds_by ps t n)

-- Compatible.

-- in one manager
fit_at : (p : Part) → GrantsGoTogether p.state → (t u : ℕ) (n : NodeId) → t ≢ u → are_compatible (held_at p t n) (held_at p u n) ≡ true
fit_at p together t u n ne = by (p.name n)
  where
    by : (o : Option NodeId) → are_compatible (held_by_name (p.state.held t) o) (held_by_name (p.state.held u) o) ≡ true
    by None = refl
    by (Some m) = together t u m ne

fits_less : (a b c d : Mode) → is_at_least a b ≡ true → is_at_least c d ≡ true → are_compatible a c ≡ true → are_compatible b d ≡ true
fits_less a b c d ab cd fit =
    compatible-symmetric b d ∙ lesser-compatible c d b cd (compatible-symmetric c b ∙ lesser-compatible a b c ab fit)

pub intentions_fit : (a b : Mode) → is_intention a ≡ true → is_intention b ≡ true → are_compatible a b ≡ true
intentions_fit a b h k = fits_less IX a IX b h k refl

-- what is held in no manager above a mode is not above it in the whole
most_in : (c : Mode) (ps : List Part) (t : ℕ) (n : NodeId) → Each (λ p. (u : ℕ) → is_at_least c (held_at p u n) ≡ true) ps
    → is_at_least c (held_in ps t n) ≡ true
most_in c [] t n h = all_above c
  where
    all_above : (m : Mode) → is_at_least m NL ≡ true
    all_above m = refl
most_in c (p ∷ ps) t n h = supremum-least c (held_at p t n) (held_in ps t n) ∙ both _ _ (h.0 t) (most_in c ps t n h.1)

-- the same of one transaction, with another mode
most_of : (c : Mode) (ps : List Part) (t : ℕ) (n : NodeId) → Each (λ p. is_at_least c (held_at p t n) ≡ true) ps → is_at_least c (held_in ps t n) ≡ true
most_of c [] t n h = refl
most_of c (p ∷ ps) t n h = supremum-least c (held_at p t n) (held_in ps t n) ∙ both _ _ h.0 (most_of c ps t n h.1)

-- a node of one part

pub neither : (a b : Bool) → (a || b) ≡ false → (a ≡ false) × (b ≡ false)
neither true b h = cc
neither false b h = (refl, h)

-- nothing is held of a node in a manager without it
pub not_there : (p : Part) (t : ℕ) (n : NodeId) → is_in n p ≡ false → held_at p t n ≡ NL
not_there p t n h = ap (held_by_name (p.state.held t)) (no_name (p.name n) h)
  where
    no_name : (o : Option NodeId) → is_some o ≡ false → o ≡ None
    no_name None h = refl
    no_name (Some m) h = cc

nothing_in : (ps : List Part) (t : ℕ) (n : NodeId) → list_any (is_in n) ps ≡ false → held_in ps t n ≡ NL
nothing_in [] t n h = refl
nothing_in (p ∷ ps) t n h =
    let it = neither _ _ h in
    ap (λ m. supremum m (held_in ps t n)) (not_there p t n it.0) ∙ nothing_in ps t n it.1

pub grants_of_one_part : GrantsOfOnePart
grants_of_one_part [] after p t n here none rest =
    ap (supremum (held_at p t n)) (nothing_in after t n rest) ∙ supremum-NL (held_at p t n)
grants_of_one_part (b ∷ before) after p t n here none rest =
    let it = neither _ _ none in
    ap (λ m. supremum m (held_in (before ++ p ∷ after) t n)) (not_there b t n it.0)
    ∙ grants_of_one_part before after p t n here it.1 rest

fits_apart : (ps : List Part) (t u : ℕ) (n : NodeId) → t ≢ u → Each (λ p. GrantsGoTogether p.state) ps → IsInOne n ps
    → are_compatible (held_in ps t n) (held_in ps u n) ≡ true
fits_apart [] t u n ne together one = refl
fits_apart (p ∷ ps) t u n ne together one =
    split (is_in n p)
    (λ here. let rest = one.0 here in
    ap₂ are_compatible (ap (supremum (held_at p t n)) (nothing_in ps t n rest) ∙ supremum-NL (held_at p t n))
    (ap (supremum (held_at p u n)) (nothing_in ps u n rest) ∙ supremum-NL (held_at p u n))
    ∙ fit_at p together.0 t u n ne)
    (λ out. ap₂ (λ a b. are_compatible (supremum a (held_in ps t n)) (supremum b (held_in ps u n))) (not_there p t n out) (not_there p u n out)
    ∙ fits_apart ps t u n ne together.1 one.1)

-- in the main manager and in parts with no more than it has
fits_below : (main : Part) (ps : List Part) (t u : ℕ) (n : NodeId) → t ≢ u → GrantsGoTogether main.state
    → Each (λ p. (v : ℕ) → is_at_least (held_at main v n) (held_at p v n) ≡ true) ps
    → are_compatible (held_in (main ∷ ps) t n) (held_in (main ∷ ps) u n) ≡ true
fits_below main ps t u n ne together below =
    fits_less (held_at main t n) (held_in (main ∷ ps) t n) (held_at main u n) (held_in (main ∷ ps) u n) (top t) (top u) (fit_at main together t u n ne)
  where
    top : (v : ℕ) → is_at_least (held_at main v n) (held_in (main ∷ ps) v n) ≡ true
    top v =
        supremum-least (held_at main v n) (held_at main v n) (held_in ps v n)
        ∙ both _ _ (at_least-refl (held_at main v n)) (most_of (held_at main v n) ps v n (each_map (λ p h. h v) ps below))

-- intentions alone
fits_intentions : (main : Part) (ps : List Part) (t u : ℕ) (n : NodeId) → is_intention (held_at main t n) ≡ true → is_intention (held_at main u n) ≡ true
    → Each (λ p. (v : ℕ) → is_intention (held_at p v n) ≡ true) ps
    → are_compatible (held_in (main ∷ ps) t n) (held_in (main ∷ ps) u n) ≡ true
fits_intentions main ps t u n mine other intentions =
    intentions_fit (held_in (main ∷ ps) t n) (held_in (main ∷ ps) u n) (of t mine) (of u other)
  where
    of : (v : ℕ) → is_intention (held_at main v n) ≡ true → is_intention (held_in (main ∷ ps) v n) ≡ true
    of v h = supremum-least IX (held_at main v n) (held_in ps v n) ∙ both _ _ h (most_in IX ps v n intentions)

pub parts_go_together : PartsGoTogether
parts_go_together g main ps led together t u n ne =
    split (is_in n main)
    (λ here. split (is_intention (held_at main t n))
    (λ mine. split (is_intention (held_at main u n)) (λ other. fits_intentions main ps t u n mine other (led.intentions n here))
    (λ more. fits_below main ps t u n ne together.0 (led.copied n u more)))
    (λ more. fits_below main ps t u n ne together.0 (led.copied n t more)))
    (λ out. ap₂ (λ a b. are_compatible (supremum a (held_in ps t n)) (supremum b (held_in ps u n))) (not_there main t n out) (not_there main u n out)
    ∙ fits_apart ps t u n ne together.1 (led.apart n out))

-- The rule of the graph.

-- what is held in a part is held in the whole: of each test that some part passes, of each node
each_among : (f : NodeId → Part → Bool) (ps : List Part) → Each (λ p. (q : NodeId) → f q p ≡ true → list_any (f q) ps ≡ true) ps
each_among f [] = tt
each_among f (p ∷ ps) = (λ q h. or_left _ _ h, each_map (λ p' keeps q h. or_right (f q p) _ (keeps q h)) ps (each_among f ps))

pub heads : {x y : Option NodeId} {xs ys : List (Option NodeId)} → (x ∷ xs) ≡ (y ∷ ys) → (x ≡ y) × (xs ≡ ys)
heads e = (cc, cc)

-- by the names that they have in a part
pub all_named : (held : NodeId → Mode) (name : NodeId → Option NodeId) (f k : Mode → Bool) (top : NodeId → Mode)
    → ((q : NodeId) → f (held_by_name held (name q)) ≡ true → k (top q) ≡ true)
    → (ms ns : List NodeId) → map (λ q. Some q) ms ≡ map name ns → list_all (λ q. f (held q)) ms ≡ true → list_all (λ q. k (top q)) ns ≡ true
all_named held name f k top up [] [] e h = refl
all_named held name f k top up [] (n ∷ ns) e h = cc
all_named held name f k top up (m ∷ ms) [] e h = cc
all_named held name f k top up (m ∷ ms) (n ∷ ns) e h =
    let it = and_both _ _ h in
    let es = heads e in
    both _ _ (up n (ap (λ o. f (held_by_name held o)) (sym es.0) ∙ it.0)) (all_named held name f k top up ms ns es.1 it.1)

pub any_named : (held : NodeId → Mode) (name : NodeId → Option NodeId) (f k : Mode → Bool) (top : NodeId → Mode)
    → ((q : NodeId) → f (held_by_name held (name q)) ≡ true → k (top q) ≡ true)
    → (ms ns : List NodeId) → map (λ q. Some q) ms ≡ map name ns → list_any (λ q. f (held q)) ms ≡ true → list_any (λ q. k (top q)) ns ≡ true
any_named held name f k top up [] ns e h = cc
any_named held name f k top up (m ∷ ms) [] e h = cc
any_named held name f k top up (m ∷ ms) (n ∷ ns) e h =
    let es = heads e in
    or_elim _ _ h (λ here. or_left _ _ (up n (ap (λ o. f (held_by_name held o)) (sym es.0) ∙ here)))
    (λ later. or_right (k (top n)) _ (any_named held name f k top up ms ns es.1 later))

-- a root in the part is one in the whole
pub root_named : (name : NodeId → Option NodeId) (ms ns : List NodeId) → map (λ q. Some q) ms ≡ map name ns → no_parents ms ≡ true → no_parents ns ≡ true
root_named name [] [] e h = refl
root_named name [] (n ∷ ns) e h = cc
root_named name (m ∷ ms) ns e h = cc

-- a part keeps the rule, agrees with the graph of the whole, and has nothing that the whole has not
record Within (g : Graph) (all : List Part) (t : ℕ) (p : Part) : Type 0 where
  pub rule : GrantsIntend p.state
  pub parents : HasParentsOf g p
  pub writes : (q : NodeId) → is_at_least (held_at p t q) IX ≡ true → is_at_least (held_in all t q) IX ≡ true
  pub reads : (q : NodeId) → is_at_least (held_at p t q) IS ≡ true → is_at_least (held_in all t q) IS ≡ true

pub holds_is : (m : Mode) → is_at_least m IS ≡ not (same_mode m NL)
holds_is m = same-equal _ _ (every-true (λ x. same (is_at_least x IS) (not (same_mode x NL))) refl m)

pub writes_holds : (m : Mode) → is_at_least m IX ≡ true → not (same_mode m NL) ≡ true
writes_holds NL h = cc
writes_holds m h = refl

each_within : (g : Graph) (ps : List Part) (t : ℕ) → Each (λ p. GrantsIntend p.state × HasParentsOf g p) ps → Each (Within g ps t) ps
each_within g ps t h =
    each_map (λ p x. record {
      rule = x.0.0;
      parents = x.0.1;
      writes = λ q w. writes_by ps t q ∙ x.1.0 q w;
      reads = λ q r. holds_is (held_in ps t q) ∙ holds_by ps t q ∙ x.1.1 q (sym (holds_is (held_at p t q)) ∙ r);
    }) ps
    (each_both _ _ ps h (each_both _ _ ps (each_among (λ q p. is_at_least (held_at p t q) IX) ps)
    (each_among (λ q p. not (same_mode (held_at p t q) NL)) ps)))

-- the rule, by whether the mode writes
abbrev rule_by : (NodeId → Mode) → List NodeId → Bool → Bool
rule_by held ps b = if b then list_all (λ p. is_at_least (held p) IX) ps else (no_parents ps || list_any (λ p. is_at_least (held p) IS) ps)

-- the rule for a mode that writes, and for one that does not
pub intends_writing : (held : NodeId → Mode) (ps : List NodeId) (m : Mode) → is_write m ≡ true → list_all (λ p. is_at_least (held p) IX) ps ≡ true
    → intends_over held ps m ≡ true
intends_writing held ps m w h = ap (rule_by held ps) w ∙ h

pub intends_reading : (held : NodeId → Mode) (ps : List NodeId) (m : Mode) → is_write m ≡ false
    → (no_parents ps || list_any (λ p. is_at_least (held p) IS) ps) ≡ true
    → intends_over held ps m ≡ true
intends_reading held ps m w h = ap (rule_by held ps) w ∙ h

pub writing_intends : (held : NodeId → Mode) (ps : List NodeId) (m : Mode) → is_write m ≡ true → intends_over held ps m ≡ true
    → list_all (λ p. is_at_least (held p) IX) ps ≡ true
writing_intends held ps m w h =
    sym (ap (rule_by held ps) w) ∙ h

pub reading_intends : (held : NodeId → Mode) (ps : List NodeId) (m : Mode) → is_write m ≡ false → intends_over held ps m ≡ true
    → (no_parents ps || list_any (λ p. is_at_least (held p) IS) ps) ≡ true
reading_intends held ps m w h =
    sym (ap (rule_by held ps) w) ∙ h

-- a node that is held in a part has a name there
pub named : (p : Part) (t : ℕ) (n : NodeId) → not (same_mode (held_at p t n) NL) ≡ true → (m : NodeId) × (p.name n ≡ Some m)
named p t n h = cases_of (p.name n) (λ e. clash h (ap (λ o. not (same_mode (held_by_name (p.state.held t) o) NL)) e)) (λ m e. (m, e))

-- who may write n in some part may write all parents in the whole
writes_above : (g : Graph) (all : List Part) (t : ℕ) (n : NodeId) (ps : List Part) → Each (Within g all t) ps
    → list_any (λ p. is_at_least (held_at p t n) IX) ps ≡ true
    → list_all (λ q. is_at_least (held_in all t q) IX) (parents_of g n) ≡ true
writes_above g all t n [] within h = cc
writes_above g all t n (p ∷ ps) within h =
    or_elim _ _ h (λ here. by here (named p t n (writes_holds (held_at p t n) here))) (writes_above g all t n ps within.1)
  where
    by : is_at_least (held_at p t n) IX ≡ true → (m : NodeId) × (p.name n ≡ Some m) → list_all (λ q. is_at_least (held_in all t q) IX) (parents_of g n) ≡ true
    by w (m, e) =
        let wm = sym (ap (λ o. is_at_least (held_by_name (p.state.held t) o) IX) e) ∙ w in
        all_named (p.state.held t) p.name (λ x. is_at_least x IX) (λ x. is_at_least x IX) (held_in all t) within.0.writes (parents_of p.state.graph m)
        (parents_of g n) (within.0.parents n m e)
        (writing_intends (p.state.held t) (parents_of p.state.graph m) (p.state.held t m) wm (within.0.rule t m (writes_holds (p.state.held t m) wm)))

-- who holds n in some part, and may write it in none, may read a parent in the whole, or it is a root
reads_above : (g : Graph) (all : List Part) (t : ℕ) (n : NodeId) → is_at_least (held_in all t n) IX ≡ false → (ps : List Part) → Each (Within g all t) ps
    → list_any (λ p. not (same_mode (held_at p t n) NL)) ps ≡ true
    → (no_parents (parents_of g n) || list_any (λ q. is_at_least (held_in all t q) IS) (parents_of g n)) ≡ true
reads_above g all t n out [] within h = cc
reads_above g all t n out (p ∷ ps) within h = or_elim _ _ h (λ here. by here (named p t n here)) (reads_above g all t n out ps within.1)
  where
    by : not (same_mode (held_at p t n) NL) ≡ true → (m : NodeId) × (p.name n ≡ Some m)
        → (no_parents (parents_of g n) || list_any (λ q. is_at_least (held_in all t q) IS) (parents_of g n)) ≡ true
    by has (m, e) =
        let at = ap (held_by_name (p.state.held t)) e in
        let held = sym (ap (λ x. not (same_mode x NL)) at) ∙ has in
        let read = split (is_at_least (p.state.held t m) IX) (λ w. clash (within.0.writes n (ap (λ x. is_at_least x IX) at ∙ w)) out)
        (λ r. reading_intends (p.state.held t) (parents_of p.state.graph m) (p.state.held t m) r (within.0.rule t m held)) in
        or_elim _ _ read (λ root. or_left _ _ (root_named p.name (parents_of p.state.graph m) (parents_of g n) (within.0.parents n m e) root))
        (λ some. or_right (no_parents (parents_of g n)) _ (any_named (p.state.held t) p.name (λ x. is_at_least x IS) (λ x. is_at_least x IS) (held_in all t)
        within.0.reads (parents_of p.state.graph m) (parents_of g n) (within.0.parents n m e) some))

pub parts_intend : PartsIntend
parts_intend g ps h t n held =
    split (is_at_least (held_in ps t n) IX)
    (λ w. intends_writing (held_in ps t) (parents_of g n) (held_in ps t n) w
    (writes_above g ps t n ps (each_within g ps t h) (sym (writes_by ps t n) ∙ w)))
    (λ r. intends_reading (held_in ps t) (parents_of g n) (held_in ps t n) r
    (reads_above g ps t n r ps (each_within g ps t h) (sym (holds_by ps t n) ∙ held)))

pub parts_have_no_conflict : PartsHaveNoConflict
parts_have_no_conflict g main ps led h =
    no_conflict_on (whole g (main ∷ ps)) (parts_go_together g main ps led (each_map (λ p x. x.lawful.compatible) (main ∷ ps) h))
    (parts_intend g (main ∷ ps) (each_map (λ p x. (x.lawful.grants_intend, x.parents)) (main ∷ ps) h))
