use Rattle.gl_window.proofs.Words.{◌<◌, ◌∙◌, ap, arith, bit_at, one_shl, refl, rules, Sitter}
use Rattle.gl_window.specs.Seats.{newcomer}
use Rattle.gl_window.proofs.SeatSteps.{clear_bit, enters, one_more, set_bit, takes}
use Rattle.gl_window.proofs.seats.Seats.take.Goals as goal

pub load_new_seat-token-requires : goal.load_new_seat-token-requires
load_new_seat-token-requires c = (search rules, enters _ (λ r. newcomer) (λ r. refl))

pub fetch_or-requires : goal.fetch_or-requires
fetch_or-requires c =
    let low = c.loop-number-test.true in
    (c.loop-number.invariant.same, search rules, takes _ _ c.loop-number.number _ (omega (arith, low)) c.loop-number.invariant.none)

pub invariant_of-result : goal.invariant_of-result
invariant_of-result c =
    let low : c.loop-number.number < 8 = c.loop-number-test.true in
    let k = c.loop-number.number in
    let within : k < 64 = omega (arith, low) in
    let now = (c.fetch_or.ensures.2 k (one_shl k 64 within)).0 (clear_bit c.fetch_or.result k within c.if-fetch_or-bit-eq0.true) in
    record { below = low; has = ap (λ (v : Sitter). v.has) now }

pub loop-number-preserved : goal.loop-number-preserved
loop-number-preserved c =
    let low : c.loop-number.number < 8 = c.loop-number-test.true in
    let k = c.loop-number.number in
    let within : k < 64 = omega (arith, low) in
    let now = (c.fetch_or.ensures.2 k (one_shl k 64 within)).1 (set_bit c.fetch_or.result k within c.if-fetch_or-bit-eq0.false) in
    record {
      same = c.fetch_or.ensures.0 ∙ c.loop-number.invariant.same;
      none = ap (λ (v : Sitter). v.has) now ∙ c.loop-number.invariant.none;
      tried = λ n below. ap (λ (v : Sitter). bit_at v.tried n) now ∙ one_more _ k within c.loop-number.invariant.tried n below;
    }
