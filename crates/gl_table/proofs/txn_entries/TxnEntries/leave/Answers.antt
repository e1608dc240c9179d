use Rattle.gl_table.proofs.Words.{◌&&◌, ◌<◌, ◌==◌, ◌||◌, ◌∙◌, ◌≡◌, ap, arith, Bool, common_steps, false, gets, if◌then◌else◌, length, nat_tests, None, not}
use Rattle.gl_table.proofs.Words.{refl, sym, true}
use Rattle.gl_table.proofs.inside.TxnEntries.{free-set, lives-set, waits-set}
use Rattle.gl_table.proofs.txn_entries.TxnEntries.leave.Goals as goal

-- without one slot
without : (one waits : Bool) → (waits && not one) ≡ (if one then false else waits)
without true true = refl
without true false = refl
without false true = refl
without false false = refl

with_one : (one free : Bool) → (free || one) ≡ (if one then true else free)
with_one true true = refl
with_one true false = refl
with_one false true = refl
with_one false false = refl

pub invariant_of-self : goal.invariant_of-self
invariant_of-self c =
    let lt : c.args.slot < length c.self.inside.list.items = grind (arith, common_steps, c.requires, c.self.view_is) in
    record {
      few = grind (arith, common_steps, gets, nat_tests, c.self.invariant.few);
      free = λ u. c.insert.ensures u ∙ ap (λ b. b || (u == c.args.slot)) (c.self.invariant.free u)
          ∙ with_one (u == c.args.slot) _ ∙ sym (free-set c.self.inside.list.items c.args.slot None lt u);
      living = λ u. c.remove.ensures.left u ∙ ap (λ b. b && not (u == c.args.slot)) (c.self.invariant.living u)
          ∙ without (u == c.args.slot) _ ∙ sym (lives-set c.self.inside.list.items c.args.slot None lt u);
      waiting = λ u. c.remove-2.ensures.left u ∙ ap (λ b. b && not (u == c.args.slot)) (c.self.invariant.waiting u)
          ∙ without (u == c.args.slot) _ ∙ sym (waits-set c.self.inside.list.items c.args.slot None lt u);
    }
