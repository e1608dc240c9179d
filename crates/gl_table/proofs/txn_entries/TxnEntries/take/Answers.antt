use Rattle.gl_table.proofs.Words.{◌&&◌, ◌<◌, ◌==◌, ◌||◌, ◌∙◌, ◌≡◌, ap, arith, Bool, common_steps, false, gets, if◌then◌else◌, is_wait, length, nat_tests, not}
use Rattle.gl_table.proofs.Words.{refl, Some, sym, true}
use Rattle.gl_table.proofs.inside.TxnEntries.{free-set, lives-set, waits-set}
use Rattle.gl_table.proofs.txn_entries.TxnEntries.take.Goals as goal

-- with one slot more
with_one : (one lives : Bool) → (lives || one) ≡ (if one then true else lives)
with_one true true = refl
with_one true false = refl
with_one false true = refl
with_one false false = refl

without_one : (one free : Bool) → (free && not one) ≡ (if one then false else free)
without_one true true = refl
without_one true false = refl
without_one false true = refl
without_one false false = refl

pub invariant_of-self : goal.invariant_of-self
invariant_of-self c =
    let lt : c.args.slot < length c.self.inside.list.items = grind (arith, common_steps, c.requires, c.self.view_is) in
    record {
      few = grind (arith, common_steps, gets, nat_tests, c.self.invariant.few);
      free = λ u. c.remove.ensures.left u ∙ ap (λ b. b && not (u == c.args.slot)) (c.self.invariant.free u)
          ∙ without_one (u == c.args.slot) _ ∙ sym (free-set c.self.inside.list.items c.args.slot (Some c.args.txn_entry) lt u);
      living = λ u. c.insert.ensures u ∙ ap (λ b. b || (u == c.args.slot)) (c.self.invariant.living u)
          ∙ with_one (u == c.args.slot) _ ∙ sym (lives-set c.self.inside.list.items c.args.slot (Some c.args.txn_entry) lt u);
      waiting = λ u. c.note.ensures u ∙ ap (λ b. if u == c.args.slot then is_wait (Some c.args.txn_entry.status) else b) (c.self.invariant.waiting u)
          ∙ sym (waits-set c.self.inside.list.items c.args.slot (Some c.args.txn_entry) lt u);
    }
