use Rattle.gl_table.proofs.Words.{◌<◌, ◌==◌, ◌∙◌, ◌≡◌, ap, ap₂, arith, common_steps, elements, gets, if◌then◌else◌, is_wait, length, lives_at, nat_tests}
use Rattle.gl_table.proofs.Words.{restatus, Some, sym, true, TxnEntryList, txns_of}
use Rattle.gl_table.proofs.inside.TxnEntries.{free-kept, lives-kept, txns-set, waits-set}
use Rattle.gl_table.proofs.txn_entries.TxnEntries.set_status.Goals as goal

pub invariant_of-self : goal.invariant_of-self
invariant_of-self c =
    let lt : c.args.slot < length c.self.inside.list.items = grind (arith, common_steps, c.requires, c.self.view_is) in
    let lives : lives_at c.self.inside.list.items c.args.slot ≡ true =
    grind (
      arith,
      common_steps,
      nat_tests,
      gets,
      elements,
      c.in-Some.is,
      c.in-Some.txn_entry-is,
      c.index_mut-txn_entry.ensures.value,
      c.requires,
      c.self.view_is,
    ) in
    record {
      few = grind (arith, common_steps, gets, nat_tests, c.self.invariant.few);
      free = λ u. c.self.invariant.free u
          ∙ sym (free-kept c.self.inside.list.items c.args.slot (record c.in-Some.txn_entry { status = c.args.status }) lt lives u);
      living = λ u. c.self.invariant.living u
          ∙ sym (lives-kept c.self.inside.list.items c.args.slot (record c.in-Some.txn_entry { status = c.args.status }) lt lives u);
      waiting = λ u. c.note.ensures u ∙ ap (λ b. if u == c.args.slot then is_wait (Some c.args.status) else b) (c.self.invariant.waiting u)
          ∙ sym (waits-set c.self.inside.list.items c.args.slot (Some (record c.in-Some.txn_entry { status = c.args.status })) lt u);
    }

pub returns-in-Some-clause-txns : goal.returns-in-Some-clause-txns
returns-in-Some-clause-txns c = λ u.
    let lt : c.args.slot < length c.self.inside.list.items = grind (arith, common_steps, c.requires, c.self.view_is) in
    let txn_entry = c.in-Some.txn_entry in
    let was : txns_of c.args.self.now.items c.args.slot ≡ Some (record { age = txn_entry.age; since = txn_entry.since; status = txn_entry.status }) =
    grind (
      arith,
      common_steps,
      nat_tests,
      gets,
      elements,
      c.in-Some.is,
      c.in-Some.txn_entry-is,
      c.index_mut-txn_entry.ensures.value,
      c.requires,
      c.self.view_is,
    ) in
    txns-set c.self.inside.list.items c.args.slot (Some (record c.in-Some.txn_entry { status = c.args.status })) lt u
    ∙ ap₂ (λ one other. if u == c.args.slot then one else other) (sym (ap (restatus c.args.status) was))
    (ap (λ (v : TxnEntryList). txns_of v.items u) c.self.view_is)

pub returns-in-None-clause-age : goal.returns-in-None-clause-age
returns-in-None-clause-age c = grind (
  arith,
  common_steps,
  nat_tests,
  gets,
  elements,
  c.in-None.is,
  c.index_mut-txn_entry.ensures.value,
  c.requires,
  c.self.view_is,
)

pub returns-in-None-clause-txns : goal.returns-in-None-clause-txns
returns-in-None-clause-txns c =
    λ u. grind (arith, common_steps, nat_tests, gets, elements, c.in-None.is, c.index_mut-txn_entry.ensures.value, c.requires, c.self.view_is)
