use Rattle.gl_lock_lists.proofs.Words.{◌&&◌, ◌||◌, ◌∙◌, ◌≤◌, ap, ap₂, get_or_from_slice_get, graph_of, is_at_least, is_child, IX, keys, length-map, list_any}
use Rattle.gl_lock_lists.proofs.Words.{list_any_more, mode_of, NodeId, slice_get_within, subst, sym, take_all, ℕ}
use Rattle.std.proofs.lemmas.List.Folds.{list_any_at}
use Rattle.gl_lock_lists.proofs.Children.{writes_listed}
use Rattle.gl_lock_lists.proofs.list.LockList.writes_below.Goals as goal

pub loop-place-preserved : goal.loop-place-preserved
loop-place-preserved c =
    let p = λ (n : NodeId). is_child (graph_of c.args.graph.now) c.args.node n && is_at_least (mode_of c.args.self.now n) IX in
    let ks = keys c.args.self.now.entries in
    let n = c.node_at.result in
    list_any_more p ks c.loop-place.place n (slice_get_within ks c.loop-place.place n c.node_at.ensures)
    ∙ ap₂ (λ a b. a || b) c.loop-place.invariant
    (ap p (get_or_from_slice_get ks c.loop-place.place n n c.node_at.ensures) ∙ (sym c.is_written_below.ensures ∙ c.if-is_written_below.false))

pub returns-then-is_written_below : goal.returns-then-is_written_below
returns-then-is_written_below c =
    let p = λ (n : NodeId). is_child (graph_of c.args.graph.now) c.args.node n && is_at_least (mode_of c.args.self.now n) IX in
    let ks = keys c.args.self.now.entries in
    let n = c.node_at.result in
    sym (list_any_at p ks c.loop-place.place n (slice_get_within ks c.loop-place.place n c.node_at.ensures)
    (ap p (get_or_from_slice_get ks c.loop-place.place n n c.node_at.ensures) ∙ (sym c.is_written_below.ensures ∙ c.if-is_written_below.true)))
    ∙ writes_listed (graph_of c.args.graph.now) c.law.ensures.lawful c.args.self.now c.args.node c.requires.live

pub returns : goal.returns
returns c =
    let p = λ (n : NodeId). is_child (graph_of c.args.graph.now) c.args.node n && is_at_least (mode_of c.args.self.now n) IX in
    let ks = keys c.args.self.now.entries in
    let same = c.len-place-end.ensures.len ∙ sym (length-map c.args.self.now.entries.entries (λ e. e.0)) in
    let all = take_all c.loop-place.place ks (subst (λ (k : ℕ). k ≤ c.loop-place.place) same c.loop-place-test.false) in
    sym (ap (list_any p) (sym all) ∙ c.loop-place.invariant)
    ∙ writes_listed (graph_of c.args.graph.now) c.law.ensures.lawful c.args.self.now c.args.node c.requires.live
