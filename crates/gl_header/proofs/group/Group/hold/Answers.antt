use Rattle.gl_header.proofs.Words.{◌∙◌, ◌≡◌, ap, false, held_by, IS, IX, Mode, NL, refl, S, same_mode, sameb, SIX, sym, the_type, true, with_mode, X}
use Rattle.gl_header.proofs.Groups.{intent-group, intent-held, main-group, main-held, within-group}
use Rattle.gl_header.proofs.group.Group.hold.Goals as goal

is-IS : (m : Mode) → sameb the_type m IS ≡ true → IS ≡ m
is-IS IS h = refl
is-IS m h = cc

not-IS : (m : Mode) → sameb the_type m IS ≡ false → same_mode m IS ≡ false
not-IS IS h = h
not-IS m h = refl

pub returns-then-eq-clause-group : goal.returns-then-eq-clause-group
returns-then-eq-clause-group c =
    intent-group (held_by c.args.self.now) c.leave.new.self c.args.slot c.leave.ensures.group c.leave.ensures.held c.requires.below
    c.insert.new.self c.insert.ensures

pub returns-then-eq-clause-held : goal.returns-then-eq-clause-held
returns-then-eq-clause-held c =
    intent-held (held_by c.args.self.now) c.leave.new.self c.args.slot c.leave.ensures.group c.leave.ensures.held c.requires.below
    c.insert.new.self c.insert.ensures
    ∙ ap (with_mode (held_by c.args.self.now) c.args.slot) (is-IS c.args.mode (sym c.eq.ensures ∙ c.if-eq.true))

pub returns-else-eq-clause-group : goal.returns-else-eq-clause-group
returns-else-eq-clause-group c =
    main-group (held_by c.args.self.now) c.leave.new.self c.args.slot c.leave.ensures.group c.leave.ensures.held c.requires.below c.args.mode
    c.insert-else-eq.new.self (not-IS c.args.mode (sym c.eq.ensures ∙ c.if-eq.false)) c.requires.lock c.insert-else-eq.ensures

pub returns-else-eq-clause-held : goal.returns-else-eq-clause-held
returns-else-eq-clause-held c =
    main-held (held_by c.args.self.now) c.leave.new.self c.args.slot c.leave.ensures.group c.leave.ensures.held c.requires.below c.args.mode
    c.insert-else-eq.new.self (not-IS c.args.mode (sym c.eq.ensures ∙ c.if-eq.false)) c.requires.lock c.requires.fits
    (within-group c.args.self.now c.requires.group) c.insert-else-eq.ensures
