use Rattle.std.proofs.Common.{arith, ◌≡◌, ◌∙◌, true, ap, length, refl, subst, sym, List}
use Rattle.std.specs.List.{list_all}
use Rattle.gl_steps.specs.declared.command.Answer.{Answer}
use Rattle.gl_catalog.specs.Manager.{state_of}
use Rattle.gl_shared.specs.Batches.{Serves, Stops, goes_on}
use Rattle.gl_shared.proofs.Batches.{accepted_none, all_more, one_longer, serves_next, serves_none, share_more, stops_here, stops_whole}
use Rattle.gl_steps.proofs.StepsKeepLaw.{steps_keep_law}
use Rattle.gl_wakes.proofs.Waking.{ended_more, ended_none}
use Rattle.gl_shared.proofs.batch.serve_all.Goals as goal

pub loop-command-init : goal.loop-command-init
loop-command-init g c =
    let cs = c.args.commands.now in
    let none = c.requires.none in
    let zero_so_far = accepted_none cs c.args.answers.now.items none in
    record {
      ran = serves_none c.args.guarded.now cs c.args.answers.now.items none;
      answered = ap length none;
      room = c.requires.room;
      on = ap (list_all goes_on) none;
      share = (omega (arith, zero_so_far));
      book = (omega (arith, zero_so_far));
      list = refl;
      lawful = λ law. law;
      ended = ended_none _ _;
    }

pub push_reserved-requires : goal.push_reserved-requires
push_reserved-requires g c =
    let len = c.loop-command.answers.ok.0 in
    let answered = c.loop-command.invariant.answered in
    let room = c.loop-command.invariant.room in
    let less = c.loop-command-test.true in
    omega (arith, len, answered, room, less)

pub loop-command-preserved : goal.loop-command-preserved
loop-command-preserved g c =
    let cs = c.args.commands.now in
    let e = c.serve_telling-answer.ensures in
    let so_far = c.loop-command.answers.items in
    let inv = c.loop-command.invariant in
    let items = c.push_reserved.ensures.items in
    let room = c.push_reserved.ensures.capacity in
    record {
      ran = subst (λ (l : List Answer). Serves c.args.guarded.now cs l c.serve_telling-answer.new.self) (sym items)
          (serves_next _ _ _ cs so_far c.loop-command.command-index _ c.serve_telling-answer.result.0 _ inv.answered c.loop-command-test.true inv.ran e.serves);
      answered = ap length items ∙ one_longer so_far c.serve_telling-answer.result.0 c.loop-command.command-index inv.answered;
      room = room ∙ inv.room;
      on = subst (λ (l : List Answer). list_all goes_on l ≡ true) (sym items)
          (all_more so_far c.serve_telling-answer.result.0 inv.on (sym c.goes_on-last.ensures ∙ c.if-last.false));
      share = share_more cs so_far _ c.loop-command.command-index _ c.serve_telling-answer.result.0 _ _ _ inv.answered c.loop-command-test.true items
          e.share inv.share;
      book = share_more cs so_far _ c.loop-command.command-index _ c.serve_telling-answer.result.0 _ _ _ inv.answered c.loop-command-test.true items
          e.serves.book inv.book;
      list = e.serves.list.0 ∙ inv.list;
      lawful = λ law. steps_keep_law _ _ _ _ _ (inv.lawful law) e.serves.step;
      ended = ended_more (state_of c.args.guarded.now.manager) (state_of c.loop-command.guarded.manager)
          (state_of c.serve_telling-answer.new.self.manager) _ _ _ c.union-ended.ensures inv.lawful inv.ended e.ended;
    }

pub returns-then-last-clause-run : goal.returns-then-last-clause-run
returns-then-last-clause-run g c =
    let inv = c.loop-command.invariant in
    let e = c.serve_telling-answer.ensures in
    subst (λ (l : List Answer). Serves c.args.guarded.now c.args.commands.now l c.serve_telling-answer.new.self) (sym c.push_reserved.ensures.items)
    (serves_next _ _ _ c.args.commands.now c.loop-command.answers.items c.loop-command.command-index _ c.serve_telling-answer.result.0 _ inv.answered
    c.loop-command-test.true inv.ran e.serves)

pub returns-then-last-clause-stops : goal.returns-then-last-clause-stops
returns-then-last-clause-stops g c =
    let inv = c.loop-command.invariant in
    let answered = inv.answered in
    let below = c.loop-command-test.true in
    subst (λ (l : List Answer). Stops c.args.commands.now l) (sym c.push_reserved.ensures.items)
    (stops_here c.args.commands.now c.loop-command.answers.items c.serve_telling-answer.result.0 inv.on (omega (arith, answered, below))
    (sym c.goes_on-last.ensures ∙ c.if-last.true))

pub returns-then-last-clause-share : goal.returns-then-last-clause-share
returns-then-last-clause-share g c =
    let inv = c.loop-command.invariant in
    let e = c.serve_telling-answer.ensures in
    share_more c.args.commands.now c.loop-command.answers.items _ c.loop-command.command-index _ c.serve_telling-answer.result.0 _ _ _ inv.answered
    c.loop-command-test.true c.push_reserved.ensures.items e.share inv.share

pub returns-then-last-clause-book : goal.returns-then-last-clause-book
returns-then-last-clause-book g c =
    let inv = c.loop-command.invariant in
    let e = c.serve_telling-answer.ensures in
    share_more c.args.commands.now c.loop-command.answers.items _ c.loop-command.command-index _ c.serve_telling-answer.result.0 _ _ _ inv.answered
    c.loop-command-test.true c.push_reserved.ensures.items e.serves.book inv.book

pub returns-then-last-clause-ended : goal.returns-then-last-clause-ended
returns-then-last-clause-ended g c =
    let inv = c.loop-command.invariant in
    ended_more (state_of c.args.guarded.now.manager) (state_of c.loop-command.guarded.manager)
    (state_of c.serve_telling-answer.new.self.manager) _ _ _ c.union-ended.ensures inv.lawful inv.ended c.serve_telling-answer.ensures.ended

pub returns-then-last-clause-list : goal.returns-then-last-clause-list
returns-then-last-clause-list g c = c.serve_telling-answer.ensures.serves.list.0 ∙ c.loop-command.invariant.list

pub returns-clause-run : goal.returns-clause-run
returns-clause-run g c = c.loop-command.invariant.ran

pub returns-clause-stops : goal.returns-clause-stops
returns-clause-stops g c =
    let inv = c.loop-command.invariant in
    let answered = inv.answered in
    let room = inv.room in
    let past = c.loop-command-test.false in
    let len = c.loop-command.answers.ok.0 in
    let fits = c.loop-command.answers.ok.1 in
    stops_whole c.args.commands.now c.loop-command.answers.items inv.on (omega (arith, answered, room, past, len, fits))
