-- A node that one part alone has is moved there: all managers agree with the graph in which it has its new parents.
use Rattle.std.specs.Prelude.{◌≡◌, ◌≢◌, ℕ, true, false, List, [], ◌∷◌, ◌++◌, Option, Some, None, is_some, map}
use Rattle.std.specs.List.{list_any}
use Rattle.std.proofs.Common.{refl, sym, ap, ap₂, subst, ◌∙◌}
use Rattle.gl_modes.specs.declared.mode.Mode.TheVariants.{NL}
use Rattle.gl_modes.specs.declared.node.NodeId.{NodeId}
use Rattle.gl_modes.specs.Modes.{is_at_least}
use Rattle.gl_modes.specs.Nodes.{same_node}
use Rattle.gl_modes.proofs.NodeLemmas.{same_node-equal, same_node-other}
use Rattle.gl_modes.proofs.Words.{clash, some_is, split}
use Rattle.gl_graph.specs.Changes.{with_parents}
use Rattle.gl_graph.specs.Graph.{Graph, is_live, parents_of}
use Rattle.gl_header.proofs.GroupOf.{at_least-NL}
use Rattle.gl_steps.specs.declared.command.Command.{Command}
use Rattle.gl_parts.specs.Whole.{Each, Part, held_at, held_by_name, is_in, is_intention}
use Rattle.gl_parts.specs.Leading.{AgreesWith, Follower, parts}
use Rattle.gl_parts.specs.Actions.{KeepsName, MayRequest, requests}
use Rattle.gl_parts.specs.Actions as acts
use Rattle.gl_parts.specs.Promises.{HasNewParents, IsMoved, MovesAct, MovesAgree}
use Rattle.gl_parts.proofs.Actions.{requests_obey}
use Rattle.gl_parts.proofs.Grants.{neither}
use Rattle.gl_parts.proofs.Moves.{lives_stay, parents_elsewhere, parents_here}
use Rattle.gl_parts.proofs.Plain.{not_new, part_agrees, part_lawful, part_obeys}

-- a command that requests nothing may be carried out in a part
asks_nothing : (main : Part) (f : Follower) (c : Command) → ((u : ℕ) (k : NodeId) → requests f.part.state c u k ≡ NL) → MayRequest main f c
asks_nothing main f c none n here = record {
  intentions = λ t. ap is_intention (nothing t (f.part.name n));
  first = λ m t. ap (is_at_least (held_at main t n)) (nothing t (f.part.name n)) ∙ at_least-NL (held_at main t n);
}
  where
    nothing : (t : ℕ) (o : Option NodeId) → held_by_name (requests f.part.state c t) o ≡ NL
    nothing t None = refl
    nothing t (Some k) = none t k

same_names : (p p' : Part) → ((n : NodeId) → KeepsName n p p') → (ns : List NodeId) → map p.name ns ≡ map p'.name ns
same_names p p' names [] = refl
same_names p p' names (n ∷ ns) = ap₂ (λ a b. a ∷ b) (sym (names n)) (same_names p p' names ns)

module _ (g g' : Graph) (n : NodeId) (ps : List NodeId) (new : HasNewParents g g' n ps) where
  -- a manager without the node
  agrees_beside : (p : Part) → is_in n p ≡ false → AgreesWith g p → AgreesWith g' p
  agrees_beside p out agrees = record {
    parents = λ q j e. agrees.parents q j e
        ∙ ap (map p.name) (sym (new.others q (λ is. clash (ap (λ x. is_in x p) (sym is) ∙ ap is_some e) out)));
    living = agrees.living;
  }

  each_beside : (all : List Part) → list_any (is_in n) all ≡ false → Each (AgreesWith g) all → Each (AgreesWith g') all
  each_beside [] out h = tt
  each_beside (p ∷ all) out h = let it = neither _ _ out in (agrees_beside p it.0 h.0, each_beside all it.1 h.1)

  module _ (f : Follower) (k : NodeId) (qs : List NodeId) (next : Part) (moved : IsMoved f k ps qs next) (name : f.part.name n ≡ Some k)
      (one : (q : NodeId) → f.part.name q ≡ Some k → q ≡ n) where
    -- the part that has it
    agrees_there : AgreesWith g f.part → AgreesWith g' next
    agrees_there agrees = record {
      parents = λ q j e. split (same_node q n) (λ is. at_it q j e (same_node-equal q n is)) (λ other. elsewhere q j e (same_node-other q n other));
      living = λ q j e. ap (λ x. is_live x j) moved.graph ∙ lives_stay f.part.state.graph k qs j ∙ agrees.living q j (sym (moved.names q) ∙ e);
    }
      where
        live : is_live f.part.state.graph k ≡ true
        live = agrees.living n k name

        at_it : (q j : NodeId) → next.name q ≡ Some j → q ≡ n → map (λ y. Some y) (parents_of next.state.graph j) ≡ map next.name (parents_of g' q)
        at_it q j e is =
            let its : j ≡ k = some_is (sym e ∙ moved.names q ∙ ap f.part.name is ∙ name) in
            ap (map (λ y. Some y)) (ap (λ x. parents_of x j) moved.graph ∙ ap (parents_of (with_parents f.part.state.graph k qs)) its
            ∙ parents_here f.part.state.graph k qs live)
            ∙ sym moved.named
            ∙ same_names f.part next moved.names ps
            ∙ ap (map next.name) (sym new.here ∙ ap (parents_of g') (sym is))

        elsewhere : (q j : NodeId) → next.name q ≡ Some j → q ≢ n → map (λ y. Some y) (parents_of next.state.graph j) ≡ map next.name (parents_of g' q)
        elsewhere q j e other =
            let was = sym (moved.names q) ∙ e in
            ap (map (λ y. Some y)) (ap (λ x. parents_of x j) moved.graph
            ∙ parents_elsewhere f.part.state.graph k qs live j (λ its. other (one q (was ∙ ap Some its))))
            ∙ agrees.parents q j was
            ∙ same_names f.part next moved.names (parents_of g q)
            ∙ ap (map next.name) (sym (new.others q other))

    each_around : (before after : List Follower) → list_any (is_in n) (parts (before ++ after)) ≡ false → Each (AgreesWith g) (parts (before ++ f ∷ after))
        → Each (AgreesWith g') (parts (before ++ record f { part = next } ∷ after))
    each_around [] after out h = (agrees_there h.0, each_beside (parts after) out h.1)
    each_around (b ∷ before) after out h =
        let it = neither _ _ out in (agrees_beside b.part it.0 h.0, each_around before after it.1 h.1)

pub moves_agree : MovesAgree
moves_agree w before after f n k ps qs next g' agree alone moved new =
    let out = neither _ _ alone.apart in (
      agrees_beside w.graph g' n ps new w.main out.0 agree.0,
      each_around w.graph g' n ps new f k qs next moved alone.name alone.one before after out.1
          (subst (λ fs. Each (AgreesWith w.graph) (parts fs)) alone.followers agree.1),
    )

pub moves_act : MovesAct
moves_act w before after f t n k ps qs next g' work alone takes moved new =
    acts.PartTakes (record {
      now = f;
      next = next;
      main = refl;
      followers = record { before = before; after = after; was = alone.followers; is = refl };
      by = _;
      step = takes;
      obeys = requests_obey w.graph w.main f _ next (part_lawful w before after f work alone.followers) (part_agrees w before after f work alone.followers)
          (part_obeys w before after f work alone.followers) (asks_nothing w.main f _ (λ u j. refl)) takes (λ q here. moved.names q);
      shared = λ q out here u more. clash (not_new f.part next q (moved.names q) here) out;
      apart = λ q out here not_main. clash (not_new f.part next q (moved.names q) here) out;
      agree = moves_agree w before after f n k ps qs.now next g' work.agree alone moved new;
    })
