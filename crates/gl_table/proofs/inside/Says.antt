-- What the lists say is what the state of the locks says. For queries of the locks.
use Rattle.gl_table.proofs.Words.{◌&&◌, ◌∙◌, ◌≡◌, and_both, ap, ap₂, counted_by, effect_on, find, fun_ext, graph_of, held_by, held_children, hinders_at, holds}
use Rattle.gl_table.proofs.Words.{if◌then◌else◌, is_at_least, is_child, is_live, is_write, IsLawfulGraph, list_any, listed, Locks, members, Mode, NL, NodeId}
use Rattle.gl_table.proofs.Words.{nodes, nodes_by, None, not, or_elim, or_left, refl, S, same_mode, Some, state_at, sym, true, ℕ}
use Rattle.gl_lock_lists.proofs.Children.{any_alike}
use Rattle.gl_table.proofs.inside.Orders.{listed_as}

-- to read all below is to hold
at_least-not_nl : (m : Mode) → is_at_least m S ≡ true → not (same_mode m NL) ≡ true
at_least-not_nl NL h = cc
at_least-not_nl m h = refl

module _ (l : Locks) (t : ℕ) where
  modes : (q : NodeId) → held_by l.ledger.lists.items t q ≡ (state_at l).held t q
  modes q = (l.agree t).modes q

  held_is : held_by l.ledger.lists.items t ≡ (state_at l).held t
  held_is = fun_ext modes

  -- what is held lives
  pub live-said : (q : NodeId) → not (same_mode (held_by l.ledger.lists.items t q) NL) ≡ true → is_live (graph_of l.graph) q ≡ true
  live-said q h = l.orderly.holders_live t q (ap (λ m. not (same_mode m NL)) (sym (modes q)) ∙ h)

  pub children-said : (n : NodeId)
      → (if holds (λ u. held_by l.ledger.lists.items u n) t then Some (counted_by l.ledger.lists.items t n) else None)
      ≡ (if holds (members (state_at l) n) t then Some (held_children (state_at l) t n) else None)
  children-said n = ap₂ (λ m k. if holds (λ u. m) t then Some k else None) (modes n) (l.count t n)

  pub found-said : (n : NodeId) → find (λ c. is_child (graph_of l.graph) n c && holds (λ u. held_by l.ledger.lists.items u c) t) (nodes (graph_of l.graph))
      ≡ find (λ c. is_child (graph_of l.graph) n c && holds (members (state_at l) c) t) (nodes (graph_of l.graph))
  found-said n = ap (λ (f : NodeId → Mode). find (λ c. is_child (graph_of l.graph) n c && not (same_mode (f c) NL)) (nodes (graph_of l.graph))) held_is

  pub written-said : (n : NodeId) → list_any (λ c. is_child (graph_of l.graph) n c && is_write (held_by l.ledger.lists.items t c)) (nodes (graph_of l.graph))
      ≡ list_any (λ c. is_child (graph_of l.graph) n c && is_write ((state_at l).held t c)) (nodes (graph_of l.graph))
  written-said n = ap (λ (f : NodeId → Mode). list_any (λ c. is_child (graph_of l.graph) n c && is_write (f c)) (nodes (graph_of l.graph))) held_is

  -- what hinders is held, and so it is listed, and lives
  pub hinders-said : IsLawfulGraph (graph_of l.graph)
      → list_any (hinders_at (state_at l) t) (nodes_by l.ledger.lists.items t) ≡ list_any (hinders_at (state_at l) t) (nodes (graph_of l.graph))
  hinders-said law =
      any_alike (hinders_at (state_at l) t) (nodes_by l.ledger.lists.items t) (nodes (graph_of l.graph))
      (λ q h. listed_as l.ledger.lists.items t q ∙ (l.agree t).listed q ∙ or_left _ _ (held q h))
      (λ q h. listed (graph_of l.graph) law q (l.orderly.holders_live t q (held q h)))
    where
      held : (q : NodeId) → hinders_at (state_at l) t q ≡ true → holds (members (state_at l) q) t ≡ true
      held q h = or_elim _ _ h (λ more. at_least-not_nl ((state_at l).held t q) more) (λ awaited. (and_both _ _ awaited).0)

  pub effect-said : (n : NodeId) → effect_on (graph_of l.graph) (held_by l.ledger.lists.items t) n ≡ effect_on (graph_of l.graph) ((state_at l).held t) n
  effect-said n = ap (λ (f : NodeId → Mode). effect_on (graph_of l.graph) f n) held_is
