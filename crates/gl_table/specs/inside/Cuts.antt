-- What it means to count the held children of one node for another, in the lists of all slots.
use Rattle.std.specs.Prelude.{◌≡◌, ◌+◌, ◌<◌, ◌≤◌, ◌==◌, ◌^◌, ℕ, true, not, List, length, if◌then◌else◌}
use Rattle.gl_modes.specs.Modes.{same_mode}
use Rattle.gl_modes.specs.Nodes.{same_node}
use Rattle.gl_modes.specs.declared.mode.Mode.TheVariants.{NL}
use Rattle.gl_modes.specs.declared.node.NodeId.{NodeId}
use Rattle.gl_graph.specs.Graph.{Graph, is_live}
use Rattle.indexmap.specs.IndexMap.{spare}
use Rattle.gl_lock_lists.specs.Lists.{count_of, held_below, mode_of}
use Rattle.gl_lock_lists.specs.declared.list.LockList.{LockList}
use Rattle.gl_table.specs.inside.Slots.{by_list, counted_by, held_by, listed_by, nodes_by, room_by}

-- each list that counts children of the node has room to count them for another one, besides the room for a grant
abbrev pub HaveRoomBeside : List LockList → NodeId → Type 0
HaveRoomBeside ls n = (u : ℕ) → 0 < counted_by ls u n → 10 ≤ room_by ls u

-- a list can count its held children of `to` there: they were counted for `from`, and there is room
pub record CanPart (g : Graph) (from to : NodeId) (l : LockList) : Type 0 where
  pub live : (c : NodeId) → not (same_mode (mode_of l c) NL) ≡ true → is_live g c ≡ true
  pub some : held_below g l to ≤ count_of l from
  pub none : count_of l to ≡ 0
  pub room : 0 < count_of l from → 0 < spare l.loose

-- a list can count the held children of both nodes for one of them
pub record CanJoin (from to : NodeId) (l : LockList) : Type 0 where
  pub few : count_of l to + count_of l from < 2 ^ 32
  pub room : 0 < count_of l from → 0 < spare l.loose

-- in each list so many held children are counted less for one node, and as many more for another; all else is as it was
pub record CountOver (ls : List LockList) (from to : NodeId) (children : ℕ → ℕ) (ls' : List LockList) : Type 0 where
  pub len : length ls' ≡ length ls
  pub modes : (u : ℕ) (q : NodeId) → held_by ls' u q ≡ held_by ls u q
  pub listed : (u : ℕ) (q : NodeId) → listed_by ls' u q ≡ listed_by ls u q
  pub counts : (u : ℕ) (q : NodeId) → counted_by ls' u q + (if same_node q from then children u else 0)
      ≡ counted_by ls u q + (if same_node q to then children u else 0)
  pub rooms : (u : ℕ) → room_by ls u ≤ room_by ls' u + (if counted_by ls u from == 0 then 0 else 1)
  pub orders : (u : ℕ) → nodes_by ls' u ≡ nodes_by ls u
  pub spares : (u : ℕ) → by_list (λ l. spare l.entries) 0 ls u ≤ by_list (λ l. spare l.entries) 0 ls' u
