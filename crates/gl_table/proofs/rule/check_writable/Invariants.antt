use Rattle.gl_table.proofs.Words.{◌≡◌, drop, first_not_ix, mode_of}
use Rattle.gl_table.proofs.rule.check_writable.Given as goal

-- all before this parent are held in IX or greater
abbrev pub invariant-loop-parent : goal.invariant-loop-parent
invariant-loop-parent l = first_not_ix (mode_of l.list) l.parents ≡ first_not_ix (mode_of l.list) (drop l.parent-index l.parents)
