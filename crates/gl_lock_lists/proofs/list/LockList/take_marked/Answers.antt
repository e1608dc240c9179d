use Rattle.gl_lock_lists.proofs.Words.{◌∙◌, ◌≤◌, ap, count_by, count_of, if◌then◌else◌, is_listed, is_some, is_some-lookup, keys, List, mode_in, mode_of, NL}
use Rattle.gl_lock_lists.proofs.Words.{NodeId, not, option_map, same_mode, same_node, slice_get-map, subst, sym, ℕ}
use Rattle.gl_modes.proofs.NodeLemmas.{same_node-differ, same_node-other}
use Rattle.indexmap.proofs.SetLemmas.{keys_swap_remove_entry}
use Rattle.gl_lock_lists.proofs.Lists.{first_or_later, held_not, not_taken, still_passed, still_within}
use Rattle.gl_lock_lists.proofs.Children.{nl_is}
use Rattle.gl_lock_lists.proofs.list.LockList.take_marked.Goals as goal

pub returns-then-is_held-clause-passed : goal.returns-then-is_held-clause-passed
returns-then-is_held-clause-passed c = λ i n le at.
    let e = c.in_ok-row.row in
    first_or_later c.args.self.now.entries.entries c.args.at (e.0.now, e.1.now) c.in_ok-row.ensures.entry (λ q. same_mode (mode_of c.args.self.now q) NL)
    (held_not (mode_of c.args.self.now e.0.now)
    (ap (λ o. not (same_mode (mode_in o) NL)) c.in_ok-row.ensures.value ∙ sym c.is_held.ensures ∙ c.if-is_held.true)) c.requires.passed i n le at

pub count_down-requires : goal.count_down-requires
count_down-requires c = record {
  some = λ q.
      let node = c.in_ok-row.row.0.now in
      subst (λ (k : ℕ). count_by (same_node q) c.parents.result.now ≤ k) (sym (c.leave.ensures.counts q))
      (subst (λ (ps : List NodeId). count_by (same_node q) ps ≤ count_of c.args.self.now q) (sym c.parents.ensures)
      (c.requires.marked.counted node q (ap is_some c.in_ok-row.ensures.value)
      (nl_is (mode_of c.args.self.now node)
      (ap (λ o. not (same_mode (mode_in o) NL)) c.in_ok-row.ensures.value ∙ sym c.is_held.ensures ∙ c.if-is_held.false))));
}

pub returns-clause-passed : goal.returns-clause-passed
returns-clause-passed c =
    let node = c.in_ok-row.row.0.now in
    let es = c.args.self.now.entries.entries in
    still_passed (keys c.args.self.now.entries) (keys c.count_down.new.self.entries) c.args.at node (c.count_down.ensures.keys ∙ c.leave.ensures.keys
    ∙ keys_swap_remove_entry (same_node node) es)
    (slice_get-map (λ e. e.0) es c.args.at ∙ ap (option_map (λ e. e.0)) (sym c.in_ok-row.ensures.entry))
    (λ q. same_mode (mode_of c.args.self.now q) NL) (λ q. same_mode (mode_of c.count_down.new.self q) NL)
    (λ q other. ap (λ m. same_mode m NL) (c.count_down.ensures.modes q ∙ c.leave.ensures.modes q
    ∙ ap (λ b. if b then NL else mode_of c.args.self.now q) (same_node-differ q node other)))
    (λ q there. same_node-other q node (not_taken (is_listed c.args.self.now q) (same_node q node)
    (sym (c.count_down.ensures.listed q ∙ c.leave.ensures.listed q)
    ∙ is_some-lookup (same_node q) c.count_down.new.self.entries.entries ∙ there)))
    c.requires.passed

pub returns-clause-len : goal.returns-clause-len
returns-clause-len c =
    let node = c.in_ok-row.row.0.now in
    let es = c.args.self.now.entries.entries in
    still_within (keys c.args.self.now.entries) (keys c.count_down.new.self.entries) c.args.at node (c.count_down.ensures.keys ∙ c.leave.ensures.keys
    ∙ keys_swap_remove_entry (same_node node) es)
    (slice_get-map (λ e. e.0) es c.args.at ∙ ap (option_map (λ e. e.0)) (sym c.in_ok-row.ensures.entry))
