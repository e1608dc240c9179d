use Rattle.gl_table.proofs.Words.{◌<◌, ◌∙◌, ◌≡◌, ap, fun_ext, length, lives, Mode, mode_of, NL, NodeId, rule_refusal, state_of, subst, sym, TableView, true}
use Rattle.gl_table.proofs.Words.{verdict, view_of, ℕ}
use Rattle.gl_table.proofs.calls.Queries.{named}
use Rattle.gl_table.proofs.inside.Slots.{by_list-at}
use Rattle.gl_table.proofs.table.Table.check_rule_over.Goals as goal

-- a living transaction has a list, which says what is held
pub returns : goal.returns
returns c =
    let i = c.self.inside in
    let t = c.args.t.slot in
    let alive : lives (state_of (view_of i)) c.args.t ≡ true = ap (λ (v : TableView). lives (state_of v) c.args.t) c.self.view_is ∙ c.requires.txn in
    let below : t < length i.locks.ledger.lists.items =
    subst (λ (k : ℕ). t < k) (sym i.locks.sound.lists) (c.self.invariant.lawful.slots_below t (named c.args.t.age _ alive)) in
    c.check_rule.ensures
    ∙ ap (λ (h : NodeId → Mode). verdict (rule_refusal h c.args.parents.now c.args.mode))
    (fun_ext (λ q. sym (by_list-at (λ l. mode_of l q) NL i.locks.ledger.lists.items t c.index.result.now below c.index.ensures) ∙ (i.locks.agree t).modes q))
    ∙ ap (λ (v : TableView). verdict (rule_refusal ((state_of v).held t) c.args.parents.now c.args.mode)) c.self.view_is
