use Rattle.gl_table.proofs.Words.{◌∙◌, ◌≡◌, ap, AreTxnEntries, HasNoSlot, IfNone, IfSome, is_free, IsLowest, None, Option, position, Some, sym, TxnEntryList, ℕ}
use Rattle.gl_table.specs.declared.txn_entries.TxnEntries.TheInside.{Inside}
use Rattle.gl_table.proofs.inside.TxnEntries.{lowest-first, none-free}
use Rattle.gl_table.proofs.txn_entries.TxnEntries.first_free.Goals as goal

-- what the set of free slots answers is the first free entry
answer : (s : Inside) → AreTxnEntries s → (o : Option ℕ) → IfSome o (IsLowest s.free) → IfNone o (HasNoSlot s.free) → o ≡ position is_free s.list.items
answer s law None some none = sym (none-free s.list.items (λ u. sym (law.free u) ∙ none u))
answer s law (Some k) some none = sym (lowest-first s.list.items k (sym (law.free k) ∙ some.member) (λ u lt. sym (law.free u) ∙ some.none_below u lt))

pub returns : goal.returns
returns c = answer c.self.inside c.self.invariant c.lowest.result c.lowest.ensures.some c.lowest.ensures.none
    ∙ ap (λ (v : TxnEntryList). position is_free v.items) c.self.view_is
