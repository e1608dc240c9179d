use Rattle.gl_table.proofs.Words.{◌&&◌, ◌+◌, ◌<◌, ◌==◌, ◌^◌, ◌∙◌, ◌≡◌, ◌≤◌, adds_to, ap, Bool, count_by, count_of, counted_by, graph_of, IsTold, keys}
use Rattle.gl_table.proofs.Words.{length-set, List, mode_of, NL, NodeId, not, parents_of, same_mode, same_node, State, state_in, stays, subst, sym, unlisted, ℕ}
use Rattle.gl_model.specs.declared.answers.Notice.TheVariants as notice
use Rattle.gl_table.proofs.inside.TurnedAway.{is_lost}
use Rattle.gl_table.proofs.inside.Slots.{agrees_recounted, by_list-at, counts_recounted, set_loses}
use Rattle.gl_table.proofs.ledger.Ledger.follow.Goals as goal
use Rattle.gl_table.proofs.inside.Places.{lose_then, same_order}

-- the mover's list says what it holds of the node
held_here : (c : goal.After-parents) → mode_of c.index_mut-list.result.now c.args.node
    ≡ (state_in c.args.graph.now c.args.self.now).held c.args.slot c.args.node
held_here c =
    sym (by_list-at (λ l. mode_of l c.args.node) NL c.args.self.now.lists.items c.args.slot c.index_mut-list.result.now c.requires.recount.slot
    c.index_mut-list.ensures.value) ∙ (c.requires.agreed.agree c.args.slot).modes c.args.node

counted_here : (c : goal.After-parents) (q : NodeId) → counted_by c.args.self.now.lists.items c.args.slot q ≡ count_of c.index_mut-list.result.now q
counted_here c q = by_list-at (λ l. count_of l q) 0 c.args.self.now.lists.items c.args.slot c.index_mut-list.result.now c.requires.recount.slot
    c.index_mut-list.ensures.value

pub recount-requires-clause-counted : goal.recount-requires-clause-counted
recount-requires-clause-counted c = λ h q. subst (λ (k : ℕ). count_by (same_node q) c.args.old.now ≤ k) (counted_here c q)
    (c.requires.recount.counted (ap (λ m. not (same_mode m NL)) (sym (held_here c)) ∙ h) q)

pub recount-requires-clause-listed : goal.recount-requires-clause-listed
recount-requires-clause-listed c =
    ap (unlisted c.index_mut-list.result.now) c.parents.ensures
    ∙ sym (by_list-at (λ l. unlisted l (parents_of (graph_of c.args.graph.now) c.args.node)) 0 c.args.self.now.lists.items c.args.slot
    c.index_mut-list.result.now c.requires.recount.slot c.index_mut-list.ensures.value) ∙ c.requires.recount.listed

pub recount-requires-clause-few : goal.recount-requires-clause-few
recount-requires-clause-few c = λ q. subst (λ (k : ℕ). k + count_by (same_node q) c.parents.result.now < 2 ^ 32) (counted_here c q)
    (subst (λ (ps : List NodeId). counted_by c.args.self.now.lists.items c.args.slot q + count_by (same_node q) ps < 2 ^ 32) (sym c.parents.ensures)
    (c.requires.recount.few q))

pub turn_away-requires-clause-agreed : goal.turn_away-requires-clause-agreed
turn_away-requires-clause-agreed c = record {
  sound = record {
    few = c.requires.agreed.sound.few;
    lists = length-set c.args.self.now.lists.items c.args.slot c.recount.new.list ∙ c.requires.agreed.sound.lists;
  };
  orderly = c.requires.agreed.orderly;
  agree = λ u. agrees_recounted c.args.self.now.lists.items c.args.slot c.index_mut-list.result.now c.recount.new.list c.requires.recount.slot
      c.index_mut-list.ensures.value c.recount.ensures.modes c.recount.ensures.listed c.recount.ensures.room (state_in c.args.graph.now c.args.self.now) u
      (c.requires.agreed.agree u);
}

pub returns-clause-moved : goal.returns-clause-moved
returns-clause-moved c =
    let s : State = state_in c.args.graph.now c.args.self.now in
    let moved = c.turn_away.ensures.moved in
    record {
      sound = moved.sound;
      state = moved.state;
      agree = moved.agree;
      tells = subst (λ list. IsTold s.txns (is_lost s c.args.node (stays s (parents_of (graph_of c.args.graph.now) c.args.node))) (λ u. notice.Moved) list
          c.turn_away.new.told.items) c.requires.empty moved.tells;
    }

pub returns-clause-counts : goal.returns-clause-counts
returns-clause-counts c = λ u q.
    let s : State = state_in c.args.graph.now c.args.self.now in
    let ps = parents_of (graph_of c.args.graph.now) c.args.node in
    let old = c.args.old.now in
    let ls = c.args.self.now.lists.items in
    let l = c.index_mut-list.result.now in
    let l' = c.recount.new.list in
    let held : not (same_mode (mode_of l c.args.node) NL) ≡ not (same_mode (s.held c.args.slot c.args.node) NL) =
    ap (λ m. not (same_mode m NL)) (sym (by_list-at (λ x. mode_of x c.args.node) NL ls c.args.slot l c.requires.recount.slot c.index_mut-list.ensures.value)
    ∙ (c.requires.agreed.agree c.args.slot).modes c.args.node) in
    ap (λ (k : ℕ). k + adds_to ((u == c.args.slot) && not (same_mode (s.held c.args.slot c.args.node) NL)) old q)
    (c.turn_away.ensures.counts u q)
    ∙ counts_recounted ls c.args.slot l l' c.requires.recount.slot c.index_mut-list.ensures.value (not (same_mode (s.held c.args.slot c.args.node) NL))
    (λ p. count_by (same_node p) old) (λ p. count_by (same_node p) ps)
    (λ p. subst (λ (b : Bool). count_of l' p + adds_to b old p ≡ count_of l p + adds_to b ps p) held
    (c.recount.ensures.counts p ∙ ap (λ (xs : List NodeId). count_of l p + adds_to (not (same_mode (mode_of l c.args.node) NL)) xs p) c.parents.ensures)) u q

pub returns-clause-orders : goal.returns-clause-orders
returns-clause-orders c =
    let l = c.index_mut-list.result.now in
    lose_then (set_loses c.args.self.now.lists.items c.args.slot l c.recount.new.list c.requires.recount.slot c.index_mut-list.ensures.value
    (same_order (keys l.entries) (keys c.recount.new.list.entries) c.recount.ensures.keys)) c.turn_away.ensures.orders
