use Rattle.gl_table.proofs.Words.{◌∙◌, ◌≡◌, ap, ap₂, bad_mode, commit_tests, first_refusal, fun_ext, graph_of, held_by, held_of, lock_tests, mode_of, NL}
use Rattle.gl_table.proofs.Words.{node_at, NodeId, None, parents_of, rule_refusal, rules, shape_of, state_in, supremum, sym, where_true}
use Rattle.gl_modes.specs.declared.refusal.Refusal.TheVariants as no
use Rattle.gl_table.proofs.calls.Calls.{dead_by, live_by, mode_refused, node_refused, requester_listed, requester_refused, rule_decides, test_passed}
use Rattle.gl_table.proofs.calls.Locking.{test_refused}
use Rattle.gl_table.proofs.inside.Slots.{by_list-at}
use Rattle.gl_table.proofs.ledger.Ledger.check_ask.Goals.{After-check_rule}
use Rattle.gl_table.proofs.ledger.Ledger.check_ask.Goals as goal

pub returns-in_err-check_active-clause-refused : goal.returns-in_err-check_active-clause-refused
returns-in_err-check_active-clause-refused c =
    let is = requester_refused (state_in c.args.graph.now c.args.self.now) c.args.t c.args.node c.args.mode c.in_err-check_active.field-0.0
    (test_refused _ c.in_err-check_active.field-0.0 (c.in_err-check_active.ensures (graph_of c.args.graph.now))) in
    search (rules, is)

pub returns-in_default-clause-refused : goal.returns-in_default-clause-refused
returns-in_default-clause-refused c =
    node_refused (state_in c.args.graph.now c.args.self.now) c.args.t c.args.node c.args.mode
    (test_passed _ c.in_ok-check_active.field-0 (c.in_ok-check_active.ensures (graph_of c.args.graph.now)))
    (dead_by (node_at (graph_of c.args.graph.now) c.args.node) c.in_default.ensures.kind)

pub returns-then-is_bad_mode-clause-refused : goal.returns-then-is_bad_mode-clause-refused
returns-then-is_bad_mode-clause-refused c =
    mode_refused (state_in c.args.graph.now c.args.self.now) c.args.t c.args.node c.args.mode
    (test_passed _ c.in_ok-check_active.field-0 (c.in_ok-check_active.ensures (graph_of c.args.graph.now)))
    (live_by (node_at (graph_of c.args.graph.now) c.args.node) c.in-Some.kind c.in-Some.ensures.kind) (ap (λ b. where_true b no.BadMode)
    (sym (c.is_bad_mode.ensures (shape_of (graph_of c.args.graph.now) c.args.node) c.in-Some.ensures.kind) ∙ c.if-is_bad_mode.true))

pub index-list-requires : goal.index-list-requires
index-list-requires c =
    let is = requester_listed (graph_of c.args.graph.now) c.args.self.now c.args.t c.requires.exact.sound
    (test_passed _ c.in_ok-check_active.field-0 (c.in_ok-check_active.ensures (graph_of c.args.graph.now))) in
    search (rules, is)

-- all but the rule of the graph has passed
module _ (c : After-check_rule) where
  may : first_refusal (commit_tests (state_in c.args.graph.now c.args.self.now) c.args.t) ≡ None
  may = test_passed _ c.in_ok-check_active.field-0 (c.in_ok-check_active.ensures (graph_of c.args.graph.now))

  -- the list says what is held
  said : (q : NodeId) → mode_of c.index-list.result.now q ≡ held_by c.args.self.now.lists.items c.args.t.slot q
  said q =
      sym (by_list-at (λ l. mode_of l q) NL c.args.self.now.lists.items c.args.t.slot c.index-list.result.now
      (requester_listed (graph_of c.args.graph.now) c.args.self.now c.args.t c.requires.exact.sound may) c.index-list.ensures)

  good : bad_mode (state_in c.args.graph.now c.args.self.now) c.args.node c.args.mode ≡ None
  good =
      ap (λ b. where_true b no.BadMode)
      (sym (c.is_bad_mode.ensures (shape_of (graph_of c.args.graph.now) c.args.node) c.in-Some.ensures.kind) ∙ c.if-is_bad_mode.false)

  left : first_refusal (lock_tests (state_in c.args.graph.now c.args.self.now) c.args.t c.args.node c.args.mode)
      ≡ rule_refusal (mode_of c.index-list.result.now) c.in-Some.parents.now c.sup.result
  left =
      rule_decides (state_in c.args.graph.now c.args.self.now) c.args.t c.args.node c.args.mode may
      (live_by (node_at (graph_of c.args.graph.now) c.args.node) c.in-Some.kind c.in-Some.ensures.kind) good
      ∙ ap (λ h. rule_refusal h (parents_of (graph_of c.args.graph.now) c.args.node)
      (supremum (held_of c.args.self.now.headers.entries c.args.t.slot c.args.node) c.args.mode))
      (fun_ext (λ q. sym (said q ∙ (c.requires.exact.agree c.args.t.slot).modes q)))
      ∙ ap₂ (rule_refusal (mode_of c.index-list.result.now)) (sym c.in-Some.ensures.parents)
      (sym (c.sup.ensures ∙ ap (λ h. supremum h c.args.mode) c.mode-held.ensures))

pub returns-in_err-check_rule-clause-refused : goal.returns-in_err-check_rule-clause-refused
returns-in_err-check_rule-clause-refused c =
    let is = left (goal.at.returns-in_err-check_rule-clause-refused c).After-check_rule
    ∙ test_refused _ c.in_err-check_rule.field-0.0 c.in_err-check_rule.ensures in
    search (rules, is)

pub returns-clause-passed : goal.returns-clause-passed
returns-clause-passed c = left (goal.at.returns-clause-passed c).After-check_rule ∙ test_passed _ c.in_ok-check_rule.field-0 c.in_ok-check_rule.ensures

pub returns-clause-held : goal.returns-clause-held
returns-clause-held c = c.mode-held.ensures ∙ sym ((c.requires.exact.agree c.args.t.slot).modes c.args.node)
