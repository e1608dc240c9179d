use Rattle.gl_table.proofs.Words.{◌+◌, ◌∙◌, ◌≡◌, ap, arith, length, subst, sym, ℕ}
use Rattle.gl_table.proofs.inside.Lists.{AreBare, bare-counts, bare-listed, bare-modes, bare-more, length-more}
use Rattle.gl_table.proofs.ledger.Ledger.new.Goals as goal

pub loop-preserved : goal.loop-preserved
loop-preserved c = (
  ap length c.in_ok-push.ensures.items ∙ length-more c.loop.lists.items c.new-in-loop.result ∙ ap (λ (k : ℕ). k + 1) c.loop.invariant.0,
  subst AreBare (sym c.in_ok-push.ensures.items) (bare-more c.loop.lists.items c.new-in-loop.result c.loop.invariant.1
      (record { listed = c.new-in-loop.ensures.listed; counts = c.new-in-loop.ensures.counts })),
)

pub returns : goal.returns
returns c =
    let all : c.loop.counter ≡ c.args.most = omega arith in
    record {
      headers = c.in_ok-headers.ensures;
      txn_entries = c.in_ok-txn_entries.ensures;
      lists = c.loop.invariant.0 ∙ all;
      listed = bare-listed c.loop.lists.items c.loop.invariant.1;
      modes = bare-modes c.loop.lists.items c.loop.invariant.1;
      counts = bare-counts c.loop.lists.items c.loop.invariant.1;
    }
