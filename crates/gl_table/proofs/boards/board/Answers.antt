use Rattle.gl_table.proofs.Words.{◌∙◌, ap, Bits, Board, get_or, length, length-replicate, most_slots, no_bits, ℕ}
use Rattle.gl_table.proofs.inside.Boards.{board-all, empty_row, zeros}
use Rattle.gl_table.proofs.boards.board.Goals as goal

pub write_ages-requires : goal.write_ages-requires
write_ages-requires c = record { none = λ u. ap (λ (b : Board). get_or b.ages u 0) c.idle-board.ensures ∙ zeros most_slots u }

pub write_rows-requires : goal.write_rows-requires
write_rows-requires c = record { none = λ t. ap (λ (b : Board). get_or b.rows t no_bits) c.idle-board.ensures ∙ empty_row most_slots t }

pub returns : goal.returns
returns c =
    board-all c.args.headers.now.entries c.args.txn_entries.now.items c.args.epoch
    (record { epoch = c.idle-board.result.epoch; ages = c.write_ages.new.ages; rows = c.write_rows.new.rows })
    (ap (λ (b : Board). b.epoch) c.idle-board.ensures)
    (c.write_ages.ensures.len ∙ ap (λ (b : Board). length b.ages) c.idle-board.ensures ∙ length-replicate {A = ℕ} most_slots 0)
    (c.write_rows.ensures.len ∙ ap (λ (b : Board). length b.rows) c.idle-board.ensures ∙ length-replicate {A = Bits} most_slots no_bits)
    c.write_ages.ensures.ages c.write_rows.ensures.rows
