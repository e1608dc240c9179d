-- Which steps are actions; plain ones, which change no graph and no name, among them.
use Rattle.std.specs.Prelude.{List, ◌≡◌, ℕ, true, ◌&&◌, ◌∷◌, ◌++◌, is_some}
use Rattle.std.proofs.Common.{refl, sym, ap, subst, ◌∙◌}
use Rattle.gl_modes.specs.declared.node.NodeId.{NodeId}
use Rattle.gl_modes.proofs.Words.{clash, split}
use Rattle.gl_model.specs.Lawful.{IsLawful}
use Rattle.gl_steps.specs.Promises.{names}
use Rattle.gl_parts.specs.Whole.{Each, Part, is_in}
use Rattle.gl_parts.specs.Leading.{AgreesWith, Follower, IsMarked, Managers, Obeys, WorkAsOne, covers}
use Rattle.gl_parts.specs.Actions.{AreKept, KeepsName, Replaces, Takes, releases, txn_at}
use Rattle.gl_parts.specs.Actions as acts
use Rattle.gl_parts.specs.Promises.{PartStepsAct, PlainMainSteps, PlainPartSteps}
use Rattle.gl_parts.proofs.Actions.{plain_steps_agree, replaced, requests_obey}
use Rattle.gl_parts.proofs.Falls.{others_stay_covered}
use Rattle.gl_parts.proofs.Grants.{neither}
use Rattle.gl_parts.proofs.Leading.{each_follower, more_is_in}
use Rattle.gl_parts.proofs.Lists.{each_at, each_both, each_map}

-- no node is new
pub not_new : (p p' : Part) (n : NodeId) → KeepsName n p p' → is_in n p' ≡ true → is_in n p ≡ true
not_new p p' n same here = ap is_some (sym same) ∙ here

-- one part of those that work as one
module _ (w : Managers) (before after : List Follower) (f : Follower) (work : WorkAsOne w) (was : w.followers ≡ before ++ f ∷ after) where
  pub part_lawful : IsLawful f.part.state
  part_lawful = each_at (λ x. IsLawful x.part.state) before after f
      (subst (Each (λ x. IsLawful x.part.state)) was (each_follower (λ p. IsLawful p.state) w.followers work.lawful.1))

  pub part_agrees : AgreesWith w.graph f.part
  part_agrees = each_at (λ x. AgreesWith w.graph x.part) before after f
      (subst (Each (λ x. AgreesWith w.graph x.part)) was (each_follower (AgreesWith w.graph) w.followers work.agree.1))

  pub part_obeys : Obeys w.main f
  part_obeys = each_at (Obeys w.main) before after f (subst (Each (Obeys w.main)) was work.leads.obey)

  pub part_marked : IsMarked w.main f
  part_marked = each_at (IsMarked w.main) before after f (subst (Each (IsMarked w.main)) was work.leads.marked)

pub part_steps_act : PartStepsAct
part_steps_act w before after f c next work was takes may names new agree =
    acts.PartTakes (record {
      now = f;
      next = next;
      main = refl;
      followers = at;
      by = c;
      step = takes;
      obeys = requests_obey w.graph w.main f c next (part_lawful w before after f work was) (part_agrees w before after f work was)
          (part_obeys w before after f work was) may takes names;
      shared = λ n out here t more. clash (more_is_in w.main t n more) (neither _ _ (new n out here)).0;
      apart = λ n out here not_main. (neither _ _ (new n out here)).1;
      agree = replaced (AgreesWith w.graph) w (record w { followers = before ++ record f { part = next } ∷ after }) f (record f { part = next }) refl at
          (λ _. agree) work.agree;
    })
  where
    at : Replaces w.followers (before ++ record f { part = next } ∷ after) f (record f { part = next })
    at = record { before = before; after = after; was = was; is = refl }

pub plain_part_steps : PlainPartSteps
plain_part_steps w before after f c next work was takes graph names may =
    part_steps_act w before after f c next work was takes may (λ n here. names n) (λ n out here. clash (not_new f.part next n (names n) here) out)
    (plain_steps_agree w.graph f.part next (part_agrees w before after f work was) graph names)

pub plain_main_steps : PlainMainSteps
plain_main_steps w c main' work takes graph same visited kept =
    acts.MainTakes (record {
      followers = refl;
      by = c;
      step = takes;
      kept = each_map (λ f h. keeps f h.0 h.1) w.followers (each_both (Obeys w.main) (AreKept w.main c main') w.followers work.leads.obey kept);
      visited = visited;
      names = each_map (λ f h n here. same n) w.followers work.leads.obey;
      agree = (plain_steps_agree w.graph w.main main' work.agree.0 graph same, work.agree.1);
    })
  where
    keeps : (f : Follower) → Obeys w.main f → AreKept w.main c main' f → (n : NodeId) → is_in n w.main ≡ true → f.marked n ≡ true → (t : ℕ)
        → covers main' f.part t n ≡ true
    keeps f obeys own n here marked t =
        split (names (txn_at w.main t) c && releases c) (own n t here marked)
        (λ unless. others_stay_covered w.main f.part c main' n t work.lawful.0 takes (same n) unless ((obeys n here).led marked t))
