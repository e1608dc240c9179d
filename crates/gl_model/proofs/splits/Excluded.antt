-- What a transaction's X on a node means for all others there.
use Rattle.std.proofs.Common.{◌∙◌, ap, rules, subst, sym}
use Rattle.std.specs.Prelude.{◌≡◌, ◌≢◌, ℕ, zero, suc, true, not, List, [], ◌∷◌}
use Rattle.gl_modes.proofs.Words.{or_left}
use Rattle.gl_modes.specs.Modes.{are_compatible, same_mode}
use Rattle.gl_modes.specs.declared.mode.Mode.{Mode}
use Rattle.gl_modes.specs.declared.mode.Mode.TheVariants.{NL, X}
use Rattle.gl_modes.specs.declared.node.NodeId.{NodeId}
use Rattle.gl_graph.proofs.Look.{child_live}
use Rattle.gl_graph.specs.Graph.{Graph, is_live, node_count}
use Rattle.gl_graph.specs.Routes.{IsRoute}
use Rattle.gl_model.proofs.law.Effects.{eff_s_route, no_conflict_law}
use Rattle.gl_model.specs.Lawful.{eff_x, EffS, is_read, IsLawful}
use Rattle.gl_model.specs.State.{State}

pub x_is : (a : Mode) → same_mode a X ≡ true → a ≡ X
x_is a h = search rules

x_leaves : (a b : Mode) → same_mode b X ≡ true → are_compatible a b ≡ true → a ≡ NL
x_leaves a b h k = search rules

read_held : (a : Mode) → is_read a ≡ true → not (same_mode a NL) ≡ true
read_held a h = search rules

x_effective : (k : ℕ) (g : Graph) (held : NodeId → Mode) (n : NodeId) → same_mode (held n) X ≡ true → eff_x k g held n ≡ true
x_effective zero g held n h = h
x_effective (suc k) g held n h = or_left _ _ h

-- others hold nothing there
pub others_nothing : (s : State) → IsLawful s → (t u : ℕ) (n : NodeId) → same_mode (s.held t n) X ≡ true → u ≢ t → s.held u n ≡ NL
others_nothing s law t u n h ne = x_leaves (s.held u n) (s.held t n) h (law.compatible u t n ne)

-- and what they read is another node
pub others_read : (s : State) → IsLawful s → (t u : ℕ) (n q : NodeId) → same_mode (s.held t n) X ≡ true → u ≢ t → EffS s u q → q ≢ n
others_read s law t u n q h ne reads e =
    no_conflict_law s law t u n (record {
      differ = λ same. ne (sym same);
      writes = x_effective (node_count s.graph) s.graph (s.held t) n h;
      reads = subst (EffS s u) e reads;
    })

-- what somebody reads is a living node
pub read_lives : (s : State) → IsLawful s → (u : ℕ) (q : NodeId) → EffS s u q → is_live s.graph q ≡ true
read_lives s law u q reads =
    let r = eff_s_route s.graph (s.held u) (node_count s.graph) q reads in by r.0 r.1 r.2 r.3
  where
    by : (m : NodeId) (walk : List NodeId) → IsRoute s.graph q walk m → is_read (s.held u m) ≡ true → is_live s.graph q ≡ true
    by m [] route read = (law.grants_live u q (read_held (s.held u q) (ap (λ z. is_read (s.held u z)) route ∙ read))).1
    by m (p ∷ walk) route read = child_live s.graph q p route.0
