use Rattle.gl_interpreter.proofs.Words.{◌+◌, ◌++◌, ◌-◌, [], ◌∙◌, ◌∷◌, ◌≡◌, ap, arith, Decides-eqb, drop, get_or, IsOpen, length, length-drop, refl, SoFar}
use Rattle.gl_interpreter.proofs.Words.{subst, sym, take, take-add, take-append-drop, take_all, take_more, take_rest}
use Rattle.gl_interpreter.specs.SoFar.{Takes}
use Rattle.gl_interpreter.proofs.Reading.{IsOpen-front, SoFar-flushed, Takes-none, Takes-then}
use Rattle.gl_interpreter.proofs.script.take_block.Goals as goal

pub loop-count-init : goal.loop-count-init
loop-count-init g c = (omega arith, Takes-none _ _)

pub take_line-requires : goal.take_line-requires
take_line-requires g c =
    let at = c.loop-count.at in
    let n = c.in-Some.count in
    let rest = drop at c.args.block.now in
    let found = rw take_rest at c.in-Some.ensures in
    let same : at + n - at ≡ n = omega arith in
    subst (λ k. IsOpen (take k rest)) (sym same) (IsOpen-front rest n found.0.before)

pub loop-count-preserved : goal.loop-count-preserved
loop-count-preserved g c =
    let at = c.loop-count.at in
    let n = c.in-Some.count in
    let block = c.args.block.now in
    let rest = drop at block in
    let found = rw take_rest at c.in-Some.ensures in
    let same : at + n - at ≡ n = omega arith in
    let newline : get_or rest n 0 ≡ 10 = (Decides-eqb (get_or rest n 0) 10).0 found.1 in
    let line : take (at + (n + 1)) block ≡ take at block ++ (take n rest ++ 10 ∷ []) =
    take-add at (n + 1) block ∙ ap (λ l. take at block ++ l) (take_more rest n 0 found.0.high ∙ ap (λ b. take n rest ++ b ∷ []) newline) in (
      omega (arith, found.0.high, length-drop at block, c.loop-count.invariant.0),
      rw line (Takes-then _ _ _ _ _ _ (take at block) (take n rest ++ 10 ∷ []) c.loop-count.invariant.1 (rw same at c.take_line.ensures)),
    )

pub keep-requires : goal.keep-requires
keep-requires g c =
    let at = c.loop-count.at in
    let rest = drop at c.args.block.now in
    rw take_rest (subst IsOpen (take_all (length rest) rest (omega arith)) (IsOpen-front rest (length rest) (rw take_rest at c.in_default.ensures)))

pub returns-clause-takes : goal.returns-clause-takes
unfolding Takes
returns-clause-takes g c d first read so =
    let at = c.loop-count.at in
    let block = c.args.block.now in
    let all = Takes-then _ _ _ _ _ _ (take at block) (drop at block) c.loop-count.invariant.1
    (rw take_rest at (c.keep.ensures (g.W.Write.contents c.loop-count.writer))) in
    let taken : SoFar d first (read ++ block) (g.W.Write.contents c.loop-count.writer) c.keep.new.tool =
    subst (λ b. SoFar d first (read ++ b) (g.W.Write.contents c.loop-count.writer) c.keep.new.tool) (take-append-drop at block) (all d first read so) in
    SoFar-flushed d first (read ++ block) _ _ c.keep.new.tool _ refl refl c.flush.ensures.text taken
