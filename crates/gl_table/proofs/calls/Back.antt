-- What going back to a mark makes of a table. For that call.
use Rattle.gl_table.proofs.Words.{[], ◌≡◌, Active, active_untold, GoesBack, Inside, IsSound, List, Locks, NodeId, nodes_by, nodes_of, refl, Some, State}
use Rattle.gl_table.proofs.Words.{state_at, state_of, status_of, subst, TellsOthers, Told, told, Unlocks, view_of, ℕ}
use Rattle.gl_model.proofs.telling.Unlocks.{unlocks_saying, unlocks_stand}
use Rattle.gl_table.proofs.calls.Ends.{told_apart}
use Rattle.gl_table.proofs.inside.Orders.{order_seen}

module _ (i : Inside) (sound : IsSound i) (t : ℕ) (active : status_of (state_of (view_of i)) t ≡ Some Active) (locks : Locks) where
  abbrev s : State
  s = state_of (view_of i)

  -- the locks alone, as a state
  abbrev l : State
  l = state_at i.locks

  abbrev after : Inside
  after = record i { locks = locks }

  -- nodes were unlocked
  module _ (ns : List NodeId) (unlocks : Unlocks l t ns (state_at locks)) where
    unlocks_seen : Unlocks s t ns (state_of (view_of after))
    unlocks_seen = unlocks_saying i.detect i.victims i.begins 0 l (state_at locks) t ns unlocks

    pub sound_back : IsSound after
    sound_back = let stands = unlocks_stand s (state_of (view_of after)) t ns sound.lawful active unlocks_seen in record {
      lawful = stands.lawful;
      no_cycle = λ at. stands.no_cycle (sound.no_cycle at);
    }

  -- in the orders that a contract sees
  pub seen_back : (mark : ℕ) (ns : List NodeId)
      → GoesBack l t mark (nodes_by i.locks.ledger.lists.items t) ns (nodes_by locks.ledger.lists.items t) (state_at locks)
      → GoesBack s t mark (nodes_of (view_of i) t) ns (nodes_of (view_of after) t) (state_of (view_of after))
  seen_back mark ns back =
      subst (λ (order : List NodeId). GoesBack s t mark order ns (nodes_of (view_of after) t) (state_of (view_of after)))
      (order_seen i.locks.ledger.lists.items t)
      (subst (λ (order : List NodeId). GoesBack s t mark (nodes_by i.locks.ledger.lists.items t) ns order (state_of (view_of after)))
      (order_seen locks.ledger.lists.items t)
      (record { unlocks = unlocks_seen ns back.unlocks; fewer = back.fewer; before = back.before; stays = back.stays }))

  -- all others are told, and it is told nothing itself
  pub told_back : (first list : Told) → first ≡ [] → TellsOthers t l (state_at locks) first list → list ≡ told s (state_of (view_of after))
  told_back first list none tells =
      told_apart i sound t (state_at locks) (state_of (view_of after)) first list none tells (active_untold s (state_of (view_of after)) t active)
      (λ u e. refl)
