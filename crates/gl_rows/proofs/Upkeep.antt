-- Adopting and forgetting records changes only the graph and the counts. For the calls about rows, and for guards of a registry.
use Rattle.std.specs.Prelude.{◌≡◌, ◌⊎◌, ◌+◌, ◌<◌, ◌≤◌, true, List, [], ◌∷◌, Option, Some, None, map}
use Rattle.std.specs.List.{list_all}
use Rattle.std.proofs.Common.{refl, sym, ap, subst, ◌∙◌, arith, inl, inr}
use Rattle.gl_modes.proofs.Words.{and_both, both, no}
use Rattle.gl_modes.specs.declared.refusal.Refusal.{Refusal}
use Rattle.gl_model.specs.Calls.{accepted_once}
use Rattle.gl_model.specs.Lawful.{IsLawful}
use Rattle.gl_model.specs.State.{State}
use Rattle.gl_model.specs.Tellings.{Told}
use Rattle.gl_steps.proofs.StepsKeepLaw.{runs_keep_law}
use Rattle.gl_steps.specs.declared.command.Answer.{Answer}
use Rattle.gl_steps.specs.declared.command.Command.{Command}
use Rattle.gl_steps.specs.declared.command.Command.TheVariants as command
use Rattle.gl_steps.specs.Step.{Goes, Step}
use Rattle.gl_steps.specs.Tests.{refusal_of}
use Rattle.gl_rows.specs.Applying.{Upkeep, is_upkeep}
use Rattle.gl_rows.specs.Locking.{Line, Runs}

-- nothing was done
pub upkeep_none : (s s' : State) → s' ≡ s → Upkeep s s'
upkeep_none s s' same = record { lines = []; run = same; kept = refl }

-- one command
pub upkeep_one : (s s' : State) (l : Line) → is_upkeep l.0 ≡ true → Runs s (l ∷ []) s' → Upkeep s s'
upkeep_one s s' l is run = record { lines = l ∷ []; run = run; kept = both _ _ is refl }

-- all but the graph and the count of accepted commands stays, and that count stays or grows
pub record LeavesAll (s s' : State) : Type 0 where
  pub is : s' ≡ record s { graph = s'.graph; accepted = s'.accepted }
  pub same_or_later : (s' ≡ s) ⊎ (s.accepted < s'.accepted)

leaves_same : (s s' : State) → s' ≡ s → LeavesAll s s'
leaves_same s s' same = subst (LeavesAll s) (sym same) (record { is = refl; same_or_later = inl refl })

leaves_counted : (s next s' : State) → next ≡ record s { graph = next.graph } → s' ≡ accepted_once next → LeavesAll s s'
leaves_counted s next s' graph counted =
    let one : s'.accepted ≡ s.accepted + 1 = ap (λ (x : State). x.accepted) counted ∙ ap (λ (x : State). x.accepted + 1) graph in
    record {
      is = subst (λ (x : State). x ≡ record s { graph = x.graph; accepted = x.accepted }) (sym counted)
          (subst (λ (x : State). accepted_once x ≡ record s { graph = x.graph; accepted = x.accepted + 1 }) (sym graph) refl);
      same_or_later = inr (omega (arith, one));
    }

step_leaves : (s s' : State) (c : Command) (a : Answer) (told : Told) → is_upkeep c ≡ true → Step s c a told s' → LeavesAll s s'
step_leaves s s' c a told is (inr lack) = leaves_same s s' lack.1.same
step_leaves s s' c a told is (inl goes) = by (refusal_of s c) goes
  where
    accepted : (c : Command) → is_upkeep c ≡ true → Goes s c None a told s' → LeavesAll s s'
    accepted (command.Adopt f keys) is goes = leaves_counted s goes.0 s' goes.1.4 goes.2
    accepted (command.Forget r) is goes = leaves_counted s goes.0 s' (goes.1.2 ∙ sym (ap (λ (x : State). record s { graph = x.graph }) goes.1.2)) goes.2
    accepted c is goes = absurd (no is)

    by : (o : Option Refusal) → Goes s c o a told s' → LeavesAll s s'
    by (Some r) same = leaves_same s s' same.same
    by None goes = accepted c is goes

later_then : (s mid s' : State) → (mid ≡ s) ⊎ (s.accepted < mid.accepted) → (s' ≡ mid) ⊎ (mid.accepted < s'.accepted) → (s' ≡ s) ⊎ (s.accepted < s'.accepted)
later_then s mid s' (inl a) (inl b) = inl (b ∙ a)
later_then s mid s' (inl a) (inr b) = let as_many = ap (λ (x : State). x.accepted) a in inr (omega (arith, as_many, b))
later_then s mid s' (inr a) (inl b) = let as_many = ap (λ (x : State). x.accepted) b in inr (omega (arith, as_many, a))
later_then s mid s' (inr a) (inr b) = inr (omega (arith, a, b))

pub leaves_then : (s mid s' : State) → LeavesAll s mid → LeavesAll mid s' → LeavesAll s s'
leaves_then s mid s' a b = record {
  is = b.is ∙ ap (λ (x : State). record x { graph = s'.graph; accepted = s'.accepted }) a.is;
  same_or_later = later_then s mid s' a.same_or_later b.same_or_later;
}

run_leaves_all : (s s' : State) (lines : List Line) → list_all (λ l. is_upkeep l.0) lines ≡ true → Runs s lines s' → LeavesAll s s'
run_leaves_all s s' [] kept run = leaves_same s s' run
run_leaves_all s s' (l ∷ lines) kept run =
    let b = and_both _ _ kept in
    leaves_then s run.0 s' (step_leaves s run.0 l.0 l.1.0 l.1.1 b.0 run.1) (run_leaves_all run.0 s' lines b.1 run.2)

pub upkeep_leaves : (s s' : State) → Upkeep s s' → LeavesAll s s'
upkeep_leaves s s' h = run_leaves_all s s' h.lines h.kept h.run

pub upkeep_law : (s s' : State) → IsLawful s → Upkeep s s' → IsLawful s'
upkeep_law s s' law h = runs_keep_law s s' (map (λ (l : Line). l.0) h.lines) (map (λ (l : Line). l.1) h.lines) law h.run

-- so no fewer commands were counted
pub low : (s s' : State) → (s' ≡ s) ⊎ (s.accepted < s'.accepted) → s.accepted ≤ s'.accepted
low s s' (inl same) = let as_many = ap (λ (x : State). x.accepted) same in omega (arith, as_many)
low s s' (inr later) = omega (arith, later)
