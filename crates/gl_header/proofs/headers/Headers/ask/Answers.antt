use Rattle.gl_header.proofs.Words.{◌∙◌, ◌≡◌, ap, ArePlaces, asked, clash, entries_in, HeaderState, holds, is_among_waiters, is_granted, members_of, refl, sym}
use Rattle.gl_header.proofs.AtPlace.{asked-changed, asked-places, entries_are, held_place, is_asked, is_at-alone, IsAt}
use Rattle.gl_header.proofs.ByKey.{places-same}
use Rattle.gl_header.proofs.Changed.{asked-granted, asked-waits}
use Rattle.gl_header.proofs.headers.Headers.ask.Goals.{After-index_mut-place}
use Rattle.gl_header.proofs.headers.Headers.ask.Goals as goal

-- the node of a member has its place already
pub returns-in_default-clause-member : goal.returns-in_default-clause-member
returns-in_default-clause-member c = λ member granted.
    clash (c.in_default.ensures.there (held_place c.self.inside.places.items c.self.invariant.places c.args.self.now.entries (entries_are c.self.view_is)
    c.args.node c.args.slot member)) refl

-- the places, after there is one for the node

grown : (c : After-index_mut-place) → ArePlaces c.grow.new.places.items
grown c = places-same _ _ c.grow.ensures.kept c.self.invariant.places

same : (c : After-index_mut-place) → entries_in c.grow.new.places.items ≡ c.args.self.now.entries
same c = c.grow.ensures.entries ∙ entries_are c.self.view_is

here : (c : After-index_mut-place) → IsAt c.grow.new.places.items c.args.self.now.entries c.args.node c.index_mut-place.result.now
here c = is_at-alone c.grow.new.places.items (grown c) c.args.self.now.entries (same c) c.args.node c.requires.alone
    c.index_mut-place.result.now c.in-Ok.ensures.room c.index_mut-place.ensures.value

pub ask_at-requires-clause-place : goal.ask_at-requires-clause-place
ask_at-requires-clause-place c = let i = here (goal.at.ask_at-requires-clause-place c).After-index_mut-place in record { lawful = i.place; own = i.own }

pub ask_at-requires-clause-may : goal.ask_at-requires-clause-may
ask_at-requires-clause-may c = record {
  below = c.requires.may.below;
  not_waiting = ap (λ (h : HeaderState). is_among_waiters c.args.slot h.queue) (here (goal.at.ask_at-requires-clause-may c).After-index_mut-place).header
      ∙ c.requires.may.not_waiting;
  lock = c.requires.may.lock;
}

pub ask_at-requires-clause-held : goal.ask_at-requires-clause-held
ask_at-requires-clause-held c =
    c.requires.held
    ∙ ap (λ (h : HeaderState). members_of h c.args.slot) (sym (here (goal.at.ask_at-requires-clause-held c).After-index_mut-place).header)

pub returns-in_default-ask_at-clause-member : goal.returns-in_default-ask_at-clause-member
returns-in_default-ask_at-clause-member c = let i = here (goal.at.returns-in_default-ask_at-clause-member c).After-index_mut-place in λ member granted.
    c.in_default-ask_at.ensures.member
    (ap (λ (h : HeaderState). holds (members_of h) c.args.slot) i.header ∙ member)
    (ap (λ h. is_granted h c.args.slot c.args.mode) i.header ∙ granted)

pub invariant_of-self-2 : goal.invariant_of-self-2
invariant_of-self-2 c = let s = (goal.at.invariant_of-self-2 c).After-index_mut-place in
    record {
      places = asked-places c.grow.new.places.items (grown s) c.args.self.now.entries (same s) c.args.node
          c.index_mut-place.result.now (here s) c.args.slot c.args.mode c.requires.may.lock c.ask_at.new.place c.in-Ok-ask_at.ensures.stands;
      spare = c.ask_at.ensures.spare;
    }

pub returns-clause-answer : goal.returns-clause-answer
returns-clause-answer c =
    c.in-Ok-ask_at.ensures.answer
    ∙ ap (λ h. asked h c.args.slot c.args.mode) (here (goal.at.returns-clause-answer c).After-index_mut-place).header

pub returns-clause-asked : goal.returns-clause-asked
returns-clause-asked c = let s = (goal.at.returns-clause-asked c).After-index_mut-place in let says = c.in-Ok-ask_at.ensures.stands in
    let changed = asked-changed c.grow.new.places.items (grown s) c.args.self.now.entries (same s) c.args.node
    c.index_mut-place.result.now (here s) c.args.slot c.args.mode c.requires.may.lock c.ask_at.new.place says in
    let asks = is_asked c.grow.new.places.items (grown s) c.args.self.now.entries (same s) c.args.node
    c.index_mut-place.result.now (here s) c.args.slot c.args.mode c.requires.may.lock c.ask_at.new.place says in
    record {
      granted = asked-granted c.args.self.now.entries _ c.args.node c.args.slot c.args.mode says.header changed asks;
      waits = asked-waits c.args.self.now.entries _ c.args.node c.args.slot c.args.mode says.header changed asks;
    }
