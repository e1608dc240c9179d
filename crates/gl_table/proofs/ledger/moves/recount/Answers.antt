use Rattle.gl_table.proofs.Words.{◌∙◌, ◌≡◌, ap, arith, Bool, count_by, fun_ext, NodeId, not, sym, unlisted}
use Rattle.gl_table.proofs.ledger.moves.recount.Goals as goal

pub count_down-requires : goal.count_down-requires
count_down-requires c = record { some = c.requires.counted (sym c.if-holds.ensures) }

pub returns-then-holds-clause-room : goal.returns-then-holds-clause-room
returns-then-holds-clause-room c =
    let same : unlisted c.count_down.new.self c.args.new.now
    ≡ unlisted c.args.list.now c.args.new.now = ap (λ (f : NodeId → Bool). count_by (λ p. not (f p)) c.args.new.now) (fun_ext c.count_down.ensures.listed) in
    let none = same ∙ c.requires.listed in
    let up = c.count_up.ensures.room in
    let down = c.count_down.ensures.room in
    omega arith
