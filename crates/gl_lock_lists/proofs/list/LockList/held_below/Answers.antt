use Rattle.gl_lock_lists.proofs.Words.{◌&&◌, ◌+◌, ◌∙◌, ◌≡◌, ◌≤◌, ap, count_by, get_or, get_or_from_slice_get, graph_of, is_child, keys, length-map, mode_of, NL}
use Rattle.gl_lock_lists.proofs.Words.{NodeId, not, same_mode, slice_get_within, subst, sym, take_all, ℕ}
use Rattle.std.proofs.lemmas.List.Sums.{count_by_more_no, count_by_more_yes}
use Rattle.gl_lock_lists.proofs.Children.{held_counted}
use Rattle.gl_lock_lists.proofs.list.LockList.held_below.Goals.{else-is_held_below, then-is_held_below}
use Rattle.gl_lock_lists.proofs.list.LockList.held_below.Goals as goal

pub loop-place-preserved : goal.loop-place-preserved
loop-place-preserved c =
    let p = λ (n : NodeId). is_child (graph_of c.args.graph.now) c.args.node n && not (same_mode (mode_of c.args.self.now n) NL) in
    let ks = keys c.args.self.now.entries in
    let n = c.node_at.result in
    let lt = slice_get_within ks c.loop-place.place n c.node_at.ensures in
    let here : p (get_or ks c.loop-place.place n) ≡ c.is_held_below.result
    = ap p (get_or_from_slice_get ks c.loop-place.place n n c.node_at.ensures) ∙ sym c.is_held_below.ensures in
    elim c.if-is_held_below.branch [
      | then-is_held_below w ↦ w.children-is ∙ ap (λ (k : ℕ). k + 1) c.loop-place.invariant
          ∙ sym (count_by_more_yes p ks c.loop-place.place n lt (here ∙ w.if-is_held_below.true))
      | else-is_held_below w ↦ w.children-is ∙ c.loop-place.invariant
          ∙ sym (count_by_more_no p ks c.loop-place.place n lt (here ∙ w.if-is_held_below.false))
    ]

pub returns : goal.returns
returns c =
    let p = λ (n : NodeId). is_child (graph_of c.args.graph.now) c.args.node n && not (same_mode (mode_of c.args.self.now n) NL) in
    let ks = keys c.args.self.now.entries in
    let same = c.len-place-end.ensures.len ∙ sym (length-map c.args.self.now.entries.entries (λ e. e.0)) in
    c.loop-place.invariant
    ∙ ap (count_by p) (take_all c.loop-place.place ks (subst (λ (k : ℕ). k ≤ c.loop-place.place) same c.loop-place-test.false))
    ∙ held_counted (graph_of c.args.graph.now) c.law.ensures.lawful c.args.self.now c.args.node c.len-place-end.ensures.unique c.requires.live
