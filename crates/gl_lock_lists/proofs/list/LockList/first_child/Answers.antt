use Rattle.gl_lock_lists.proofs.Words.{◌&&◌, ◌++◌, [], ◌∙◌, ◌∷◌, ◌≤◌, ap, get_or_from_slice_get, graph_of, is_child, keys, length-map, List, mode_of, NL}
use Rattle.gl_lock_lists.proofs.Words.{NodeId, not, same_mode, slice_get_within, subst, sym, take, take_all, take_more, ℕ}
use Rattle.gl_modes.proofs.Words.{and_both}
use Rattle.gl_lock_lists.proofs.Children.{first_found, first_more, held_listed, IsFirst}
use Rattle.gl_lock_lists.proofs.list.LockList.first_child.Goals as goal

pub loop-place-preserved : goal.loop-place-preserved
loop-place-preserved c =
    let p = λ (n : NodeId). is_child (graph_of c.args.graph.now) c.args.node n && not (same_mode (mode_of c.args.self.now n) NL) in
    let ks = keys c.args.self.now.entries in
    let place = c.loop-place.place in
    let n = c.node_at.result in
    let more = take_more ks place n (slice_get_within ks place n c.node_at.ensures)
    ∙ ap (λ (x : NodeId). take place ks ++ x ∷ []) (get_or_from_slice_get ks place n n c.node_at.ensures) in
    subst (λ (ns : List NodeId). IsFirst p ns c.earlier_child-first.result) (sym more)
    (first_more p (take place ks) n c.loop-place.first c.earlier_child-first.result c.loop-place.invariant c.earlier_child-first.ensures)

pub returns : goal.returns
returns c =
    let p = λ (n : NodeId). is_child (graph_of c.args.graph.now) c.args.node n && not (same_mode (mode_of c.args.self.now n) NL) in
    let ks = keys c.args.self.now.entries in
    let same = c.len-place-end.ensures.len ∙ sym (length-map c.args.self.now.entries.entries (λ e. e.0)) in
    first_found (graph_of c.args.graph.now) c.law.ensures.lawful p ks c.loop-place.first
    (λ n h. let held = (and_both (is_child (graph_of c.args.graph.now) c.args.node n) (not (same_mode (mode_of c.args.self.now n) NL)) h).1 in
    (held_listed c.args.self.now n held, c.requires.live n held))
    (subst (λ (ns : List NodeId). IsFirst p ns c.loop-place.first)
    (take_all c.loop-place.place ks (subst (λ (k : ℕ). k ≤ c.loop-place.place) same c.loop-place-test.false))
    c.loop-place.invariant)
