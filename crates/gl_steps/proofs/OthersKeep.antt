-- What others cannot do to a holder, over a run: its effective modes stay, and what lives on keeps its kind.
use Rattle.gl_steps.proofs.Words.{[], ◌||◌, ◌∙◌, ◌∷◌, ◌≡◌, ◌≤◌, ◌⊎◌, Answer, arith, at_least-refl, Bool, Command, Effect, effective, false, GrantedTo, Graph}
use Rattle.gl_steps.proofs.Words.{inl, inr, is_at_least, is_at_least_effect, is_grant_to, is_live, is_of_rows, is_some, IsLawful, IsLawfulGraph, List, list_any}
use Rattle.gl_steps.proofs.Words.{lives, names, Node, node_at, NodeId, None, Option, or_no, refl, rules, Run, SameGrants, Some, State, subst, sym, Told, true}
use Rattle.gl_steps.proofs.Words.{true≢false, TxnId, with_key, ℕ}
use Rattle.gl_steps.specs.Promises.{OthersKeepEffects, told_granted}
use Rattle.gl_steps.proofs.ToldGrants.{any_weaker, tells, tells_grant}
use Rattle.gl_steps.proofs.Keeps.{effect_refl, grown, Keeps, ToldGrant}
use Rattle.gl_steps.proofs.KeptKinds.{KeepsKinds, kind_trans, kinds_same}
use Rattle.gl_steps.proofs.OneStep.{step_keeps}
use Rattle.gl_steps.proofs.StepsKeepLaw.{steps_keep_law}
use Rattle.gl_modes.proofs.ModeLemmas.{at_least-transitive}

-- the same of many steps
pub record KeepsOver (s s' : State) (t : TxnId) (granted : Bool) : Type 0 where
  pub alive : lives s' t ≡ true
  pub held_same : granted ≡ false → SameGrants s s' t.slot
  pub held_more : (n : NodeId) → is_at_least (s'.held t.slot n) (s.held t.slot n) ≡ true
  pub births : s.graph.births ≤ s'.graph.births
  pub old : (n : NodeId) → n.birth ≤ s.graph.births → is_live s'.graph n ≡ true → is_live s.graph n ≡ true
  pub kinds : KeepsKinds s.graph s'.graph
  pub same : granted ≡ false → (n : NodeId) → is_live s.graph n ≡ true → is_live s'.graph n ≡ true → effective s' t.slot n ≡ effective s t.slot n
  pub greater : (n : NodeId) → is_live s.graph n ≡ true → is_live s'.graph n ≡ true → is_at_least_effect (effective s' t.slot n) (effective s t.slot n) ≡ true

effect_trans : (a b c : Effect) → is_at_least_effect a b ≡ true → is_at_least_effect b c ≡ true → is_at_least_effect a c ≡ true
effect_trans a b c h k = search rules

pub birth_of : (g : Graph) → IsLawfulGraph g → (n : NodeId) → is_live g n ≡ true → n.birth ≤ g.births
birth_of g law n live = (law.born n.birth (found_is n.key (g.at n.birth) live)).1
  where
    found_is : (key : ℕ) (o : Option Node) → is_some (with_key key o) ≡ true → is_some o ≡ true
    found_is key None h = h
    found_is key (Some n) h = refl

over_none : (s s' : State) (t : TxnId) → lives s t ≡ true → s' ≡ s → KeepsOver s s' t false
over_none s s' t alive e = subst (λ x. KeepsOver s x t false) (sym e) (record {
  alive = alive;
  held_same = λ _ q. refl;
  held_more = λ n. at_least-refl (s.held t.slot n);
  births = omega arith;
  old = λ n _ live. live;
  kinds = kinds_same s.graph s.graph refl;
  same = λ _ n _ _. refl;
  greater = λ n _ _. effect_refl (effective s t.slot n);
})

-- one step is a run of this kind
pub over_of_step : (s s' : State) (t : TxnId) (told' : Told) (rows : Bool) → Keeps s s' t told' rows → KeepsOver s s' t (list_any (is_grant_to t) told')
over_of_step s s' t told' rows a = record {
  alive = a.alive;
  held_same = unmoved a.grants;
  held_more = grown s s' t.slot (plain a.grants);
  births = a.births;
  old = a.old;
  kinds = a.kinds;
  same = a.same;
  greater = a.greater;
}
  where
    plain : SameGrants s s' t.slot ⊎ ToldGrant s s' t told' → SameGrants s s' t.slot ⊎ GrantedTo s s' t.slot
    plain (inl x) = inl x
    plain (inr x) = inr x.0

    unmoved : SameGrants s s' t.slot ⊎ ToldGrant s s' t told' → list_any (is_grant_to t) told' ≡ false → SameGrants s s' t.slot
    unmoved (inl x) quiet = x
    unmoved (inr x) quiet = absurd (true≢false
        (sym (any_weaker (tells t x.0.node x.0.mode) (is_grant_to t) told' (tells_grant t x.0.node x.0.mode) x.1) ∙ quiet))

-- one run and then another
pub over_trans : (s mid s' : State) (t : TxnId) (g h : Bool) → IsLawful s → KeepsOver s mid t g → KeepsOver mid s' t h → KeepsOver s s' t (g || h)
over_trans s mid s' t g h law a b = record {
  alive = b.alive;
  held_same = λ quiet q. let q' = or_no g h quiet in b.held_same q'.1 q ∙ a.held_same q'.0 q;
  held_more = λ n. at_least-transitive (s'.held t.slot n) (mid.held t.slot n) (s.held t.slot n) (b.held_more n) (a.held_more n);
  births = let first = a.births in let second = b.births in omega arith;
  old = λ n le live. a.old n le (b.old n (let first = a.births in omega arith) live);
  kinds = λ n live live'.
      let mids = between n live live' in
      kind_trans (node_at s.graph n) (node_at mid.graph n) (node_at s'.graph n) (a.kinds n live mids) (b.kinds n mids live');
  same = λ quiet n live live'. let q' = or_no g h quiet in b.same q'.1 n (between n live live') live' ∙ a.same q'.0 n live (between n live live');
  greater = λ n live live'. effect_trans (effective s' t.slot n) (effective mid t.slot n) (effective s t.slot n)
      (b.greater n (between n live live') live') (a.greater n live (between n live live'));
}
  where
    between : (n : NodeId) → is_live s.graph n ≡ true → is_live s'.graph n ≡ true → is_live mid.graph n ≡ true
    between n live live' = b.old n (let old = birth_of s.graph law.graph n live in let first = a.births in omega arith) live'

-- step by step, since each state of the run is lawful
pub run_keeps : (cs : List Command) (rs : List (Answer × Told)) (s s' : State) (t : TxnId) → IsLawful s → Run s cs rs s' → lives s t ≡ true
    → list_any (names t) cs ≡ false → KeepsOver s s' t (told_granted t rs)
run_keeps [] [] s s' t law run alive apart = over_none s s' t alive run
run_keeps [] (r ∷ rs) s s' t law run alive apart = absurd run
run_keeps (c ∷ cs) [] s s' t law run alive apart = absurd run
run_keeps (c ∷ cs) (r ∷ rs) s s' t law run alive apart =
    let both = or_no (names t c) (list_any (names t) cs) apart in
    let law' = steps_keep_law s run.0 c r.0 r.1 law run.1 in
    let first = over_of_step s run.0 t r.1 (is_of_rows c) (step_keeps s law t alive r.0 r.1 run.0 law' c both.0 run.1) in
    over_trans s run.0 s' t (list_any (is_grant_to t) r.1) (told_granted t rs) law first (run_keeps cs rs run.0 s' t law' run.2 first.alive both.1)

-- a holder's effective modes are the same, or the same or greater if it was told of a grant
pub others_keep_effects : OthersKeepEffects
others_keep_effects s s' cs rs t law run alive apart =
    let kept = run_keeps cs rs s s' t law run alive apart in
    record { same = λ quiet r both. kept.same quiet r both.0 both.1; greater = λ r both. kept.greater r both.0 both.1 }
