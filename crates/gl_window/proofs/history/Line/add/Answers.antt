use Rattle.gl_window.proofs.Words.{◌++◌, [], ◌∙◌, ◌∷◌, ◌≡◌, ◌≤◌, AllFine, ap, arc_value, arith, Board, Detect, Fine, last_epoch, length, length-append, List}
use Rattle.gl_window.proofs.Words.{Rising, rules, Strip, subst, sym}
use Rattle.gl_window.specs.Rules.{head_of}
use Rattle.gl_window.proofs.Adding.{adds_moves}
use Rattle.gl_window.proofs.Lists.{fine_more, rising_more}
use Rattle.gl_window.proofs.history.Line.add.Goals as goal

pub compare_exchange-found-requires : goal.compare_exchange-found-requires
compare_exchange-found-requires c =
    let h : c.args.head.now ≡ head_of c.self.inside.seen.book = c.requires.head ∙ ap (λ (v : Strip). head_of v.book) (sym c.self.view_is) in
    let offer = c.plain-offer.ensures in
    let pen = c.no_pen-pen.ensures in
    let log = ap (λ s. s.log) c.again-seen.ensures in
    let book = ap (λ s. s.book) c.again-seen.ensures in (
      ap (λ w. w.tracked) h,
      book ∙ sym (ap (λ w. w.book) h),
      pen.0 ∙ (book ∙ sym (ap (λ w. w.book) h)),
      offer.0,
      rw (ap (λ w. w.key) h, pen.1, offer.1, offer.3, log) (adds_moves c.self.inside.seen.log c.deref.result.now c.self.inside.count c.self.invariant.0),
    )

pub invariant_of-result : goal.invariant_of-result
invariant_of-result c =
    let log = c.self.inside.seen.log in
    let board : Board = arc_value c.args.board in
    let is : c.compare_exchange-found.new.seen.log ≡ log ++ board ∷ [] = search rules in
    let me : log ≡ c.args.self.now.list = ap (λ (v : Strip). v.list) c.self.view_is in
    let detection : c.self.inside.detect ≡ c.args.self.now.detect = ap (λ (v : Strip). v.detect) c.self.view_is in
    let le : last_epoch 0 log ≤ board.epoch = subst (λ (l : List Board). last_epoch 0 l ≤ board.epoch) (sym me) c.requires.rises in
    let fine : Fine c.self.inside.detect board = subst (λ (b : Detect). Fine b board) (sym detection) c.requires.fine in (
      omega (arith, ap length is, length-append log (board ∷ []), c.self.invariant.0),
      (log, is),
      subst (Rising 0) (sym is) (rising_more 0 log board c.self.invariant.2 le),
      subst (AllFine c.self.inside.detect) (sym is) (fine_more c.self.inside.detect log board c.self.invariant.3 fine),
    )
