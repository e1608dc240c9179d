use Rattle.gl_header.proofs.Words.{◌∙◌, ◌≡◌, ap, arith, false, held_by, holds, insert, IS, IX, Mode, NL, not, prefix_len, refl, S, same_mode, sameb, SIX, sym}
use Rattle.gl_header.proofs.Words.{the_type, true, X}
use Rattle.gl_header.proofs.Placing.{placed_in-member, prefix-le}
use Rattle.gl_header.proofs.changes.enqueue.Goals as goal

not-NL : (m : Mode) → sameb the_type m NL ≡ false → not (same_mode m NL) ≡ true
not-NL NL h = cc
not-NL m h = refl

pub insert-requires : goal.insert-requires
insert-requires c =
    let p : c.waiting_members-place.result ≡ prefix_len (λ x. holds (held_by c.args.group.now) x.0) c.args.queue.now.items
    = c.waiting_members-place.ensures ∙ ap (λ z. prefix_len (λ x. holds (held_by c.args.group.now) x.0) z) c.deref.ensures in
    let le = prefix-le (λ x. holds (held_by c.args.group.now) x.0) c.args.queue.now.items in
    (omega arith, omega arith)

pub returns-in_ok-insert-clause-ok : goal.returns-in_ok-insert-clause-ok
returns-in_ok-insert-clause-ok c =
    let h : holds (held_by c.args.group.now) c.args.slot ≡ true
    = ap (λ m. not (same_mode m NL)) (sym c.requires.held) ∙ not-NL c.args.held (sym c.eq.ensures ∙ c.if-eq.false) in
    c.in_ok-insert.ensures.ok
    ∙ (ap (λ k. insert c.args.queue.now.items k (c.args.slot, c.args.wanted))
    (c.waiting_members-place.ensures ∙ ap (λ z. prefix_len (λ x. holds (held_by c.args.group.now) x.0) z) c.deref.ensures)
    ∙ placed_in-member (held_by c.args.group.now) c.args.queue.now.items (c.args.slot, c.args.wanted) h)
