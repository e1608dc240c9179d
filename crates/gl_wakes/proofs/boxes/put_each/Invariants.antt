use Rattle.gl_slots.specs.Limit.{most_slots}
use Rattle.std.specs.Prelude.{◌≡◌, ◌<◌, ◌||◌, ◌==◌, ℕ, length, take, fold}
use Rattle.std.specs.List.{list_any}
use Rattle.gl_slots.specs.Slots.{has_slot}
use Rattle.gl_wakes.specs.Boxes.{put_in}
use Rattle.gl_wakes.specs.Wakes.{names_slot}
use Rattle.gl_wakes.proofs.boxes.put_each.Given as goal

abbrev pub invariant-loop-txn : goal.invariant-loop-txn
invariant-loop-txn l = record {
  put : l.boxes ≡ fold put_in l.initial.boxes (take l.txn-index l.told);
  long : length l.boxes ≡ most_slots;
  slots : (u : ℕ) → u < most_slots → has_slot l.ended u ≡ (names_slot l.command u || list_any (λ x. x.0.slot == u) (take l.txn-index l.told));
}
