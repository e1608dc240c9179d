use Rattle.gl_graph.proofs.Words.{AreIntervalsBorn, HasRoomFor, length, vec_capacity, ◌-◌, ◌≡◌, ◌≤◌}
use Rattle.gl_graph.proofs.store.insert_intervals.Given as goal

abbrev pub invariant-loop-place : goal.invariant-loop-place
invariant-loop-place l = record {
  room : HasRoomFor l.nodes (l.count - l.place);
  list_room : l.count ≤ vec_capacity l.ids;
  listed : length l.ids.items ≡ l.place;
  born : AreIntervalsBorn l.initial.nodes l.nodes l.index l.place l.ids.items;
}
