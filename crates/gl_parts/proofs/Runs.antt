-- Managers that work as one go on so, and no two transactions ever conflict.
use Rattle.std.specs.Prelude.{◌≡◌, ℕ, false, not, ◌&&◌, ◌||◌, List, [], ◌∷◌, Option, Some, None}
use Rattle.std.specs.List.{list_any}
use Rattle.std.proofs.Common.{refl, ap, ap₂}
use Rattle.gl_modes.specs.declared.mode.Mode.TheVariants.{NL}
use Rattle.gl_modes.specs.declared.node.NodeId.{NodeId}
use Rattle.gl_modes.specs.Modes.{is_at_least}
use Rattle.gl_modes.proofs.Words.{clash}
use Rattle.gl_graph.specs.Graph.{Graph}
use Rattle.gl_header.specs.Header.{is_waiter}
use Rattle.gl_model.specs.Lawful.{HasNoConflict, IsLawful}
use Rattle.gl_parts.specs.Whole.{Each, Part, held_at, held_by_name, is_intention, whole}
use Rattle.gl_parts.specs.Laws.{IsPartOf}
use Rattle.gl_parts.specs.Leading.{AgreesWith, Follower, IsMarked, Managers, Obeys, WorkAsOne, has_more, managers, parts, queue_at, queue_by_name}
use Rattle.gl_parts.specs.Promises.{IsUnused, RunsHaveNoConflict, UnusedWorkAsOne}
use Rattle.gl_parts.proofs.Actions.{actions_keep_law}
use Rattle.gl_parts.proofs.Grants.{parts_have_no_conflict}
use Rattle.gl_parts.proofs.Leading.{each_follower, leaders_lead}
use Rattle.gl_parts.proofs.Lists.{each_both, each_map}

-- lawful managers that agree with the graph
pub each_part_of : (g : Graph) (ps : List Part) → Each (λ p. IsLawful p.state) ps → Each (AgreesWith g) ps → Each (IsPartOf g) ps
each_part_of g ps h k = each_map (λ p x. record { lawful = x.0; parents = x.1.parents }) ps (each_both _ _ ps h k)

no_conflict : (w : Managers) → WorkAsOne w → HasNoConflict (whole w.graph (managers w))
no_conflict w work =
    parts_have_no_conflict w.graph w.main (parts w.followers) (leaders_lead w.main w.followers work.leads)
    (each_part_of w.graph (managers w) work.lawful work.agree)

pub runs_have_no_conflict : RunsHaveNoConflict
runs_have_no_conflict w [] work runs = ((work, no_conflict w work), tt)
runs_have_no_conflict w (w' ∷ ws) work runs = ((work, no_conflict w work), runs_have_no_conflict w' ws (actions_keep_law w w' work runs.0) runs.1)

-- Unused managers.

module _ (p : Part) (unused : IsUnused p) where
  nothing_held : (t : ℕ) (n : NodeId) → held_at p t n ≡ NL
  nothing_held t n = by (p.name n)
    where
      by : (o : Option NodeId) → held_by_name (p.state.held t) o ≡ NL
      by None = refl
      by (Some k) = unused.held t k

  nobody_waits : (n : NodeId) → queue_at p n ≡ []
  nobody_waits n = by (p.name n)
    where
      by : (o : Option NodeId) → queue_by_name p.state.queue o ≡ []
      by None = refl
      by (Some k) = unused.queue k

  nobody_has_more : (t : ℕ) (n : NodeId) → has_more p t n ≡ false
  nobody_has_more t n =
      ap₂ (λ m q. not (is_intention m) || list_any (λ w. is_waiter t w && not (is_intention w.1)) q) (nothing_held t n) (nobody_waits n)

unused_obeys : (main : Part) (f : Follower) → IsUnused f.part → Obeys main f
unused_obeys main f unused n here = record {
  intentions = λ t. ap is_intention (nothing_held f.part unused t n);
  queueless = nobody_waits f.part unused n;
  led = λ m t. ap (is_at_least (held_at main t n)) (nothing_held f.part unused t n);
}

unused_marked : (main : Part) (f : Follower) → IsUnused main → IsMarked main f
unused_marked main f unused n t more here = clash more (nobody_has_more main unused t n)

pub unused_work_as_one : UnusedWorkAsOne
unused_work_as_one w apart h agree = record {
  leads = record {
    apart = apart;
    obey = each_map (λ f unused. unused_obeys w.main f unused.0) w.followers (each_follower _ w.followers h.1);
    marked = each_map (λ f unused. unused_marked w.main f h.0.0) w.followers (each_follower _ w.followers h.1);
  };
  lawful = each_map (λ p x. x.1) (managers w) h;
  agree = agree;
}
