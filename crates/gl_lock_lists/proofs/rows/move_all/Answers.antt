use Rattle.gl_lock_lists.proofs.Words.{◌<◌, ◌∙◌, ◌≡◌, ap, arith, get_or, IfOk-at_ok, insert_entry, length, same_node}
use Rattle.gl_lock_lists.proofs.RowLemmas.{put_next}
use Rattle.gl_lock_lists.proofs.rows.move_all.Goals as goal

pub unwrap-requires : goal.unwrap-requires
unwrap-requires g c =
    c.insert.ensures.succeeds
    (omega (arith, c.loop-row.invariant.room, c.requires.room, c.loop-row-test.true, ap length c.as_slice-row-items.ensures.value))

pub loop-row-preserved : goal.loop-row-preserved
loop-row-preserved g c =
    let rows = c.args.rows.now.items in
    let i = c.loop-row.row-index in
    let row = c.row-item.result in
    let within : i < length rows = omega (arith, c.loop-row-test.true, ap length c.as_slice-row-items.ensures.value) in
    let is : row ≡ get_or rows i row = c.row-item.is ∙ ap (λ l. get_or l i row) c.as_slice-row-items.ensures.value in
    record {
      moved = IfOk-at_ok _ c.unwrap.ensures c.insert.ensures.entries
          ∙ ap (λ r. insert_entry same_node c.loop-row.map.entries r.0 r.1) is
          ∙ put_next rows c.loop-row.map.entries i row within c.requires.distinct c.loop-row.invariant.moved;
      room = omega (arith, c.loop-row.invariant.room, c.insert.ensures.spare);
    }
