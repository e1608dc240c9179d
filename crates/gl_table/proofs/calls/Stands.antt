-- When a ledger over a graph may be that of a table. For the calls that write either.
use Rattle.gl_table.proofs.Words.{◌≡◌, Active, Agrees, AreExact, AreSound, CountsHeld, Detect, Inside, IsLawful, IsOrderly, IsSafe, IsSound, lawful_orderly}
use Rattle.gl_table.proofs.Words.{Ledger, MayAct, Some, State, state_in, status_of, Victims, View, ℕ}

-- the state of a table with locks of this state
abbrev pub with_locks : Inside → State → State
with_locks i x = record x { detect = i.detect; victims = i.victims; begins = i.begins }

-- the locks are in order if the table is lawful, for any detection, choice of victims and count of begins
pub orderly_over : (x : State) (d : Detect) (v : Victims) (b : ℕ) → IsLawful (record x { detect = d; victims = v; begins = b }) → IsOrderly x
orderly_over x d v b law =
    let o = lawful_orderly (record x { detect = d; victims = v; begins = b }) law in
    record {
      holders = o.holders;
      holders_live = o.holders_live;
      waiters_live = o.waiters_live;
      waits_are = o.waits_are;
      one_wait = o.one_wait;
      below = o.below;
    }

-- what the locks must keep: all that their struct says of them
abbrev pub IsLaw : View → Ledger → Type 0
IsLaw v l = record {
  orderly : IsOrderly (state_in v l);
  sound : AreSound l;
  agree : (u : ℕ) → Agrees (state_in v l) l.lists.items u;
  count : (u : ℕ) → CountsHeld (state_in v l) l.lists.items u;
}

-- the ledger may be over the graph in this table, in place of its own
pub record MayStand (i : Inside) (v : View) (l : Ledger) : Type 0 where
  pub safe : IsSafe (with_locks i (state_in v l))
  pub law : IsLaw v l

pub stands : (i : Inside) (v : View) (l : Ledger) → IsSafe (with_locks i (state_in v l)) → AreExact v l → MayStand i v l
stands i v l safe exact = record {
  safe = safe;
  law = record { orderly = orderly_over (state_in v l) i.detect i.victims i.begins safe.lawful; sound = exact.sound; agree = exact.agree; count = exact.count };
}

-- if a slot is active there, it may act
pub may_act : (v : View) (l : Ledger) → IsLaw v l → (t : ℕ) → status_of (state_in v l) t ≡ Some Active → MayAct v l t
may_act v l law t active = record {
  exact = record { sound = law.sound; agree = law.agree; count = law.count };
  orderly = law.orderly;
  active = active;
}

-- as its own does
pub as_it_was : (i : Inside) → IsSound i → MayStand i i.locks.graph i.locks.ledger
as_it_was i sound = record {
  safe = sound;
  law = record { orderly = i.locks.orderly; sound = i.locks.sound; agree = i.locks.agree; count = i.locks.count };
}

-- the table with it
abbrev pub put : (i : Inside) (v : View) (l : Ledger) → IsLaw v l → Inside
put i v l law = record i {
  locks = record i.locks { graph = v; ledger = l; orderly = law.orderly; sound = law.sound; agree = law.agree; count = law.count };
}
