use Rattle.gl_header.proofs.Words.{◌∙◌, sym}
use Rattle.std.proofs.lemmas.List.Elements.{All-push, All-same}
use Rattle.gl_header.specs.Places.{IsIdle}
use Rattle.gl_header.proofs.places.set_aside.Goals as goal

-- the header of the spare box is unused

pub returns-then-len-capacity-clause-spare : goal.returns-then-len-capacity-clause-spare
returns-then-len-capacity-clause-spare c =
    All-same IsIdle _ _
    c.push_reserved.ensures.items
    (All-push IsIdle _ _ c.requires.spare (c.requires.idle c.in-Shared.here (sym c.replace.ensures.value ∙ c.in-Shared.is)))
