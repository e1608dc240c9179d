use Rattle.std.proofs.Common.{◌∙◌, ap, subst, sym, List}
use Rattle.gl_waits.specs.declared.board.Board.{Board}
use Rattle.gl_table.specs.Table.{board_of}
use Rattle.gl_catalog.specs.Manager.{state_of}
use Rattle.gl_shared.specs.declared.shown.Tie.{Tie}
use Rattle.gl_window.specs.Boards.{IsLawful}
use Rattle.gl_window.specs.Rules.{head_of}
use Rattle.gl_window.proofs.Lists.{lawful_here}
use Rattle.gl_shared.proofs.shared.Shared.new.Goals as goal

pub watch_all-requires-clause-of : goal.watch_all-requires-clause-of
watch_all-requires-clause-of g c =
    let p = c.args.parts in (
      c.requires.book.0,
      p.one.1 ∙ c.requires.opening.1,
      lawful_here g.N.Naming.detect p.manager.table.detect g.N.Naming.first
          (board_of (state_of p.manager)) p.line.list p.one.0 c.requires.book.1 c.requires.opening.1 p.one.2,
    )

pub new-publisher-requires-clause-head : goal.new-publisher-requires-clause-head
new-publisher-requires-clause-head g c = c.args.parts.head_is ∙ ap head_of c.requires.book.0

pub new-publisher-requires-clause-rest : goal.new-publisher-requires-clause-rest
new-publisher-requires-clause-rest g c =
    let p = c.args.parts in
    let kept = c.watch_all.ensures.kept in
    let line = ap (λ s. s.value.line) kept.1 in
    let law = lawful_here g.N.Naming.detect p.manager.table.detect g.N.Naming.first
    (board_of (state_of p.manager)) p.line.list p.one.0 c.requires.book.1 c.requires.opening.1 p.one.2 in (
      rw (kept.3, kept.2) p.rest.0,
      (
        ap (λ l. l.book) line ∙ (ap (λ (t : Tie). t.head.book) p.tie.0 ∙ c.requires.book.0),
        ap (λ l. l.detect) line ∙ (ap (λ (t : Tie). t.detect) p.tie.0 ∙ (p.one.1 ∙ c.requires.opening.1)),
        subst (λ (l : List Board). IsLawful g.N.Naming.detect g.N.Naming.first l) (sym (ap (λ l. l.list) line ∙ p.rest.1)) law,
      ),
    )

pub new-requires-clause-told : goal.new-requires-clause-told
new-requires-clause-told g c = c.new-publisher.ensures ∙ (ap (λ s. s.value.line.list) c.watch_all.ensures.kept.1 ∙ (c.args.parts.rest.1 ∙ c.args.parts.one.0))

pub returns-clause-watchers : goal.returns-clause-watchers
returns-clause-watchers g c = (c.in-Ok-watch_all.ensures.watchers.0, λ k d less. c.in-Ok-watch_all.ensures.watchers.1 k d less ∙ c.args.parts.one.0)

pub invariant_of-parts : goal.invariant_of-parts
invariant_of-parts g c = let p = c.args.parts in record { cut = p.cut; head_is = p.head_is; one = p.one; rest = p.rest; tie = p.tie; looking = p.looking }
