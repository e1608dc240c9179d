use Rattle.gl_header.proofs.Words.{◌+◌, ◌++◌, [], ◌∙◌, ◌∷◌, ◌≡◌, ap, arith, drop, fits, front, held_by, IsOrderly, length, Members, NL, pumped_members}
use Rattle.gl_header.proofs.Words.{slice_index_or, slot_limit, subst, sym, true, Waiter, with_mode}
use Rattle.std.proofs.Common.{append_assoc}
use Rattle.std.proofs.lemmas.List.{drop_more}
use Rattle.gl_header.proofs.Queues.{length-le_128}
use Rattle.gl_header.proofs.Orderly.{orderly-front}
use Rattle.gl_header.proofs.Pumped.{front-granted, pumped-step}
use Rattle.gl_header.proofs.Asks.{orderly-by}
use Rattle.gl_header.proofs.changes.grant_front.Goals as goal

pub push-requires : goal.push-requires
push-requires c =
    let n = length-le_128 c.args.queue.now.items c.requires.orderly.distinct c.requires.orderly.valid in
    let same = ap (length {A = Waiter}) c.loop-slot.invariant.waiters in
    (omega arith, omega arith)

pub loop-slot-preserved : goal.loop-slot-preserved
loop-slot-preserved c =
    let g : Members = held_by c.loop-slot.group in
    let w : Waiter = slice_index_or c.deref-slot-items.result.now c.loop-slot.slot-index (0, NL) in
    let rest = drop (c.loop-slot.slot-index + 1) c.deref-slot-items.result.now in
    let q : drop c.loop-slot.slot-index c.deref-slot-items.result.now ≡ w ∷ rest =
    drop_more c.deref-slot-items.result.now c.loop-slot.slot-index (0, NL) (omega arith) in
    let f : fits slot_limit g w.0 w.1 ≡ true = grind arith in
    let i = c.loop-slot.invariant in
    let held : held_by c.hold.new.self ≡ with_mode g w.0 w.1 = c.hold.ensures.held in
    let push = c.push.ensures.len in
    record {
      counted = omega arith;
      waiters = i.waiters;
      group = c.hold.ensures.group;
      orderly = orderly-by (held_by c.hold.new.self) (with_mode g w.0 w.1) rest rest held (λ _. rest)
          (orderly-front g w rest (subst (λ x. IsOrderly g x) q i.orderly) f);
      granted = ap (λ z. z ++ front slot_limit (held_by c.hold.new.self) rest) c.push.ensures.items
          ∙ (append_assoc c.loop-slot.granted.items (w ∷ []) (front slot_limit (held_by c.hold.new.self) rest)
          ∙ (ap (λ x. c.loop-slot.granted.items ++ w ∷ front slot_limit x rest) held
          ∙ (ap (λ z. c.loop-slot.granted.items ++ z) (sym (ap (front slot_limit g) q ∙ front-granted g w rest f)) ∙ i.granted)));
      members = ap (λ x. pumped_members slot_limit x rest) held ∙ (sym (ap (pumped_members slot_limit g) q ∙ pumped-step g w rest f) ∙ i.members);
    }
