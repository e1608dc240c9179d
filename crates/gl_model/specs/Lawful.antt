-- What holds of every state, effective modes, and the laws of the model.
use Rattle.std.specs.Prelude.{◌&&◌, ◌<◌, [], Bool, false, if◌then◌else◌, is_some, List, not, Some, suc, true, zero, ◌||◌, ℕ, ◌∷◌, ◌≡◌, ◌≢◌, ◌≤◌}
use Rattle.std.specs.List.{filter, list_all, list_any}
use Rattle.gl_modes.specs.declared.mode.Mode.{Mode}
use Rattle.gl_modes.specs.declared.node.NodeId.{NodeId}
use Rattle.gl_modes.specs.declared.mode.Mode.TheVariants.{NL, S, X}
use Rattle.gl_modes.specs.Modes.{are_compatible, is_at_least, same_mode}
use Rattle.gl_graph.specs.Graph.{Graph, is_live, node_count, parents_of, shape_of}
use Rattle.gl_graph.specs.Shapes.{is_record_shape, keys_in}
use Rattle.gl_graph.specs.Lawful.{IsLawfulGraph}
use Rattle.gl_graph.specs.Routes.{IsBelow, IsRootPath}
use Rattle.gl_header.specs.Header.{holds, is_ahead, is_among_waiters, is_waiter}
use Rattle.gl_waits.specs.declared.victims.Victims.{Victims}
use Rattle.gl_waits.specs.declared.victims.Victims.TheVariants.{Fewest}
use Rattle.gl_waits.specs.Waits.{IsOnNoCycle, Reaches, without}
use Rattle.gl_model.specs.declared.txn.Status.TheVariants.{Waiting}
use Rattle.gl_model.specs.State.{age_of, choosing, condemned, empty_state, front_at, HasNoCycle, intends, is_wait, is_waiting_at, members, no_parents, Settled}
use Rattle.gl_model.specs.State.{SettledWithin, since_of, State, status_of, waits_for}
use Rattle.gl_model.specs.declared.answers.Effect.{Effect}
use Rattle.gl_model.specs.declared.answers.Detect.{Detect}
use Rattle.gl_model.specs.declared.answers.Effect.TheVariants as effect

-- The law of a state: what every command keeps.

-- records are held and wanted in S or X alone
abbrev pub ModeFitsKind : State → NodeId → Mode → Type 0
ModeFitsKind s n m = is_record_shape (shape_of s.graph n) ≡ true → (same_mode m S || same_mode m X) ≡ true

-- grants of different transactions on one node are compatible
abbrev pub GrantsGoTogether : State → Type 0
GrantsGoTogether s = (t u : ℕ) (n : NodeId) → t ≢ u → are_compatible (s.held t n) (s.held u n) ≡ true

-- every grant meets the rule of the graph
abbrev pub GrantsIntend : State → Type 0
GrantsIntend s = (t : ℕ) (n : NodeId) → holds (members s n) t ≡ true → intends s t n (s.held t n) ≡ true

-- no transaction's work began after the transaction: no `since` is above its age
abbrev pub AreKnown : State → Type 0
AreKnown s = (t : ℕ) → is_some (s.txns t) ≡ true → since_of s t ≤ age_of s t

-- the law, a sentence a line:
-- the graph is lawful; grants and waits are of living transactions on living nodes, in a mode that fits the kind
-- grants of different transactions on one node are compatible
-- every grant and every wait meets the rule of the graph, a wait with its wanted mode, which is the held mode or greater
-- a waiter is in one queue, once, with its wanted mode, and nobody else is in any
-- in each queue those that hold the node are ahead of those that do not
-- no first waiter fits: what can be granted is granted
-- slots are below the limit, ages from 1 to the last that was given, and no two equal; no `since` is above its transaction's age
pub record IsLawful (s : State) : Type 0 where
  pub graph : IsLawfulGraph s.graph
  pub grants_live : (t : ℕ) (n : NodeId) → holds (members s n) t ≡ true → (is_some (s.txns t) ≡ true) × (is_live s.graph n ≡ true)
      × ModeFitsKind s n (s.held t n)
  pub waits_live : (t : ℕ) (n : NodeId) → is_among_waiters t (s.queue n) ≡ true → is_live s.graph n ≡ true
  pub compatible : GrantsGoTogether s
  pub grants_intend : GrantsIntend s
  pub waits_intend : (t : ℕ) (n : NodeId) (m : Mode) → status_of s t ≡ Some (Waiting n m) → (intends s t n m ≡ true) × (m ≢ NL)
      × (is_at_least m (s.held t n) ≡ true) × ModeFitsKind s n m
  pub one_wait : (t : ℕ) (n : NodeId) (m : Mode) → status_of s t ≡ Some (Waiting n m) → filter (is_waiter t) (s.queue n) ≡ (t, m) ∷ []
  pub waits_are : (t : ℕ) (n : NodeId) → is_among_waiters t (s.queue n) ≡ true → is_waiting_at s t n ≡ true
  pub holders_first : (t u : ℕ) (n : NodeId) → holds (members s n) t ≡ true → is_ahead (s.queue n) t u ≡ true → holds (members s n) u ≡ true
  pub front_waits : (n : NodeId) → front_at s n ≡ []
  pub slots_below : (t : ℕ) → is_some (s.txns t) ≡ true → t < s.most
  pub ages : (t : ℕ) → is_some (s.txns t) ≡ true → (1 ≤ age_of s t) × (age_of s t ≤ s.begins)
  pub ages_differ : (t u : ℕ) → is_some (s.txns t) ≡ true → age_of s t ≡ age_of s u → t ≡ u
  pub known : AreKnown s

-- Effective modes: explicit locks, and those implied by locks further up.

-- a mode that reads the node and all below it: S, SIX or X
abbrev pub is_read : Mode → Bool
is_read m = is_at_least m S

-- effective S over at most k steps up: S, SIX or X on the node, or effective S on some parent
abbrev pub eff_s : ℕ → Graph → (NodeId → Mode) → NodeId → Bool
eff_s zero g held n = is_read (held n)
eff_s (suc k) g held n = is_read (held n) || list_any (eff_s k g held) (parents_of g n)

-- effective X over at most k steps up: X on the node, or effective X on every parent, if there are any
abbrev pub eff_x : ℕ → Graph → (NodeId → Mode) → NodeId → Bool
eff_x zero g held n = same_mode (held n) X
eff_x (suc k) g held n = same_mode (held n) X || (not (no_parents (parents_of g n)) && list_all (eff_x k g held) (parents_of g n))

-- effective S: as many steps as there are nodes are enough, since the graph has no cycle
abbrev pub EffS : State → ℕ → NodeId → Type 0
EffS s t n = eff_s (node_count s.graph) s.graph (s.held t) n ≡ true

-- effective X, in as many steps
abbrev pub EffX : State → ℕ → NodeId → Type 0
EffX s t n = eff_x (node_count s.graph) s.graph (s.held t) n ≡ true

-- the effective mode of a holder of these modes: X, else S, else none
abbrev pub effect_on : Graph → (NodeId → Mode) → NodeId → Effect
effect_on g held n = if eff_x (node_count g) g held n then effect.X else (if eff_s (node_count g) g held n then effect.S else effect.None)

-- the effective mode of a transaction
abbrev pub effective : State → ℕ → NodeId → Effect
effective s t n = effect_on s.graph (s.held t) n

-- X on some node of every path to the root
abbrev pub IsCut : State → ℕ → NodeId → Type 0
IsCut s t n = (path : List NodeId) → IsRootPath s.graph n path → list_any (λ p. same_mode (s.held t p) X) (n ∷ path) ≡ true

-- two transactions of which one may write a node and the other read it
pub record Conflict (s : State) (t u : ℕ) (r : NodeId) : Type 0 where
  pub differ : t ≢ u
  pub writes : EffX s t r
  pub reads : EffS s u r

-- no two transactions conflict on any node, records among them
abbrev pub HasNoConflict : State → Type 0
HasNoConflict s = (t u : ℕ) (r : NodeId) → Conflict s t u r → ⊥

-- the order of effective modes: none, S, X
abbrev pub is_at_least_effect : Effect → Effect → Bool
is_at_least_effect effect.X e = true
is_at_least_effect e effect.None = true
is_at_least_effect effect.S effect.S = true
is_at_least_effect e f = false

-- The laws of a state, each said once and proved once.

-- if grants of different transactions are compatible and every grant meets the rule of the graph, no two transactions conflict
abbrev pub NoConflictLaw : Type 0
NoConflictLaw = (s : State) → GrantsGoTogether s → GrantsIntend s → HasNoConflict s

-- the same in a lawful state
abbrev pub LawfulNoConflict : Type 0
LawfulNoConflict = (s : State) → IsLawful s → HasNoConflict s

-- effective X is an X on every path to the root, and the other way round
abbrev pub CutsOff : State → ℕ → NodeId → Type 0
CutsOff s t n = (EffX s t n → IsCut s t n) × (IsCut s t n → EffX s t n)

-- the same over a lawful graph, whatever is granted
abbrev pub CutSetLaw : Type 0
CutSetLaw = (s : State) → IsLawfulGraph s.graph → (t : ℕ) (n : NodeId) → is_live s.graph n ≡ true → CutsOff s t n

-- and in a lawful state
abbrev pub LawfulCutSet : Type 0
LawfulCutSet = (s : State) → IsLawful s → (t : ℕ) (n : NodeId) → is_live s.graph n ≡ true → CutsOff s t n

-- if nobody is on a cycle of waits, each waiter waits, over one or more steps, for one that does not wait
abbrev pub ChainsEnd : Type 0
ChainsEnd = (s : State) → IsLawful s → HasNoCycle s → (t : ℕ) → is_wait (status_of s t) ≡ true → (u : ℕ) × Reaches (waits_for s) t u
    × (is_wait (status_of s u) ≡ false)

-- settling ends, and in one state
abbrev pub SettlingEnds : Type 0
SettlingEnds = (c : Victims) (s : State) → IsLawful s → (t : ℕ) → (s' : State) × Settled c s t s' × ((other : State) → Settled c s t other → other ≡ s')

-- and then t is on no cycle, and no wait is new
abbrev pub SettlingFrees : Type 0
SettlingFrees =
    (c : Victims) (s s' : State) → IsLawful s → (t : ℕ) → Settled c s t s' → IsOnNoCycle (waits_for s') t
    × ((x y : ℕ) → waits_for s' x y ≡ true → waits_for s x y ≡ true)

-- to condemn v removes waits and adds none: what is left are waits that are not v's
abbrev pub CondemningFrees : Type 0
CondemningFrees = (s : State) → IsLawful s → (v x y : ℕ) → waits_for (condemned s v) x y ≡ true → without (waits_for s) v x y ≡ true

-- by `Fewest`, one victim is enough
abbrev pub OneIsVictim : Type 0
OneIsVictim = (k : ℕ) (s s' : State) → IsLawful s → (t : ℕ) → SettledWithin Fewest k s t s' → k ≤ 1

-- the empty state is lawful, by both ways of detection and choices of victims, and with every limit
abbrev pub EmptyIsLawful : Type 0
EmptyIsLawful = (detect : Detect) (victims : Victims) (most : ℕ) → IsLawful (choosing victims (empty_state detect most))

-- and nobody is on a cycle in it
abbrev pub EmptyHasNoCycle : Type 0
EmptyHasNoCycle = (detect : Detect) (victims : Victims) (most : ℕ) → HasNoCycle (choosing victims (empty_state detect most))

-- The records below a node, in two graphs.

-- below n no record was added, removed or given another key
pub record SameBelow (g g' : Graph) (n : NodeId) : Type 0 where
  pub kept : (r : NodeId) → IsBelow g n r → IsBelow g' n r × (keys_in (shape_of g' r) ≡ keys_in (shape_of g r))
  pub no_more : (r : NodeId) → IsBelow g' n r → IsBelow g n r

-- What holds of a state also between the steps of a call.

-- holders and waiters live, on living nodes; who is in a queue waits there, once, for a mode; this holds also between the steps of a call
pub record IsOrderly (s : State) : Type 0 where
  pub holders : (u : ℕ) (q : NodeId) → holds (members s q) u ≡ true → is_some (s.txns u) ≡ true
  pub holders_live : (u : ℕ) (q : NodeId) → holds (members s q) u ≡ true → is_live s.graph q ≡ true
  pub waiters_live : (u : ℕ) (q : NodeId) → is_among_waiters u (s.queue q) ≡ true → is_live s.graph q ≡ true
  pub waits_are : (u : ℕ) (q : NodeId) → is_among_waiters u (s.queue q) ≡ true → is_waiting_at s u q ≡ true
  pub one_wait : (u : ℕ) (q : NodeId) (m : Mode) → status_of s u ≡ Some (Waiting q m) → (filter (is_waiter u) (s.queue q) ≡ (u, m) ∷ []) × (m ≢ NL)
  pub below : (u : ℕ) → is_some (s.txns u) ≡ true → u < s.most

-- who is in the queue of n waits there, once, for a mode
pub record WaitWell (b : State) (n : NodeId) : Type 0 where
  pub waits_are : (u : ℕ) → is_among_waiters u (b.queue n) ≡ true → is_waiting_at b u n ≡ true
  pub one_wait : (u : ℕ) → is_among_waiters u (b.queue n) ≡ true → (m : Mode) × (filter (is_waiter u) (b.queue n) ≡ (u, m) ∷ []) × (m ≢ NL)
