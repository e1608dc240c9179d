use Rattle.gl_header.proofs.Words.{◌∙◌, ◌≡◌, ◌≢◌, ap, asked, asked_members, asked_queue, clash, Granted, header_of, Held, held_by_one, IsLawfulHeader}
use Rattle.gl_header.proofs.Words.{members_by, NL, nobody, not_NL, refl, same_mode, Some, stands, supremum, supremum-not_NL, sym, with_mode}
use Rattle.std.proofs.lemmas.Result.{on_err_weaker}
use Rattle.std.specs.Box.{with_value}
use Rattle.gl_header.specs.declared.places.Place.TheVariants.{Shared}
use Rattle.gl_header.specs.declared.places.Shared.{Shared as SharedBox}
use Rattle.gl_header.proofs.Alone.{alone-below, alone-here, alone-lawful, alone-lock, free-answer, free-members, free-queue, own-answer, own-members, own-queue}
use Rattle.gl_header.proofs.places.ask_at.Goals.{After-sup}
use Rattle.gl_header.proofs.places.ask_at.Goals as goal

-- nobody holds

pub returns-in-Free-clause-answer : goal.returns-in-Free-clause-answer
returns-in-Free-clause-answer c =
    free-answer c.args.slot c.args.mode ∙ ap (λ p. asked (header_of (stands p)) c.args.slot c.args.mode) (sym c.in-Free.is)

pub returns-in-Free-clause-stands : goal.returns-in-Free-clause-stands
returns-in-Free-clause-stands c = record {
  header = held_by_one c.args.slot c.args.mode;
  there = refl;
  lawful = alone-lawful c.args.slot c.args.mode c.requires.may.below c.requires.may.lock;
  members = free-members c.args.slot c.args.mode ∙ ap (λ p. asked_members (header_of (stands p)) c.args.slot c.args.mode) (sym c.in-Free.is);
  queue = free-queue c.args.slot c.args.mode ∙ ap (λ p. asked_queue (header_of (stands p)) c.args.slot c.args.mode) (sym c.in-Free.is);
}

-- the one holder requests a mode

is : (c : After-sup) → c.args.place.now ≡ Held c.args.slot c.in-Held.own c.in-Held.birth
is c = c.in-Held.is ∙ ap (λ t. Held t c.in-Held.own c.in-Held.birth) c.if-holder-slot.true

wanted_is : (c : After-sup) → c.sup.result ≡ supremum c.in-Held.own c.args.mode
wanted_is c =
    c.sup.ensures
    ∙ ap (λ m. supremum m c.args.mode)
    (c.requires.held ∙ ap (λ p. members_by p c.args.slot) (is c) ∙ alone-here c.args.slot c.in-Held.own)

lawful : (c : After-sup) → IsLawfulHeader (held_by_one c.in-Held.holder c.in-Held.own)
lawful c = c.requires.place.lawful.lawful (c.in-Held.birth, held_by_one c.in-Held.holder c.in-Held.own) (ap stands c.in-Held.is)

raised : (c : After-sup) → c.sup.result ≢ NL
raised c e = clash (ap (λ k. same_mode k NL) e)
    (ap (λ k. same_mode k NL) c.sup.ensures ∙ supremum-not_NL c.args.held c.args.mode (not_NL c.args.mode c.requires.may.lock))

pub returns-in-Held-clause-answer : goal.returns-in-Held-clause-answer
returns-in-Held-clause-answer c = let p = (goal.at.returns-in-Held-clause-answer c).After-sup in
    ap Granted (wanted_is p)
    ∙ (own-answer c.args.slot c.in-Held.own c.args.mode ∙ ap (λ x. asked (header_of (stands x)) c.args.slot c.args.mode) (sym (is p)))

pub returns-in-Held-clause-stands : goal.returns-in-Held-clause-stands
returns-in-Held-clause-stands c = let p = (goal.at.returns-in-Held-clause-stands c).After-sup in record {
  header = held_by_one c.in-Held.holder c.sup.result;
  there = ap (λ b. Some (b, held_by_one c.in-Held.holder c.sup.result))
      (c.requires.place.own.birth (c.in-Held.birth, held_by_one c.in-Held.holder c.in-Held.own) (ap stands c.in-Held.is));
  lawful = alone-lawful c.in-Held.holder c.sup.result (alone-below c.in-Held.holder c.in-Held.own (lawful p)) (raised p);
  members = ap (λ t. with_mode nobody t c.sup.result) c.if-holder-slot.true
      ∙ (ap (with_mode nobody c.args.slot) (wanted_is p)
      ∙ (own-members c.args.slot c.in-Held.own c.args.mode
      ∙ ap (λ x. asked_members (header_of (stands x)) c.args.slot c.args.mode) (sym (is p))));
  queue = own-queue c.args.slot c.in-Held.own c.args.mode ∙ ap (λ x. asked_queue (header_of (stands x)) c.args.slot c.args.mode) (sym (is p));
}

-- another slot requests a mode

pub share-requires-clause-below : goal.share-requires-clause-below
share-requires-clause-below c = alone-below c.in-Held.holder c.in-Held.own
    (c.requires.place.lawful.lawful (c.in-Held.birth, held_by_one c.in-Held.holder c.in-Held.own) (ap stands c.in-Held.is))

pub share-requires-clause-lock : goal.share-requires-clause-lock
share-requires-clause-lock c = alone-lock c.in-Held.holder c.in-Held.own
    (c.requires.place.lawful.lawful (c.in-Held.birth, held_by_one c.in-Held.holder c.in-Held.own) (ap stands c.in-Held.is))

-- a refusal in a box leaves it as it was
pub returns-in-Shared-clause-err : goal.returns-in-Shared-clause-err
returns-in-Shared-clause-err c =
    on_err_weaker c.enter_or_wait-in-Shared.result
    (λ h. ap (λ w. Shared (with_value c.in-Shared.here record { birth = c.deref_mut-in-Shared.result.now.birth; header = w })) h
    ∙ (ap (λ (x : SharedBox). Shared (with_value c.in-Shared.here x)) c.deref_mut-in-Shared.ensures.value ∙ sym c.in-Shared.is))
    c.enter_or_wait-in-Shared.ensures.err
