use Rattle.std.specs.Prelude.{◌≡◌, ◌&&◌, ◌||◌, ◌==◌, Ok}
use Rattle.std.proofs.Common.{ap, subst, ◌∙◌}
use Rattle.gl_catalog.specs.Manager.{state_of}
use Rattle.gl_rows.specs.Locking.{LocksRow, Wish}
use Rattle.gl_rows.specs.Naming.{with_asked}
use Rattle.gl_rows.specs.Rows.{RowsView}
use Rattle.gl_rows.specs.Sound.{is_in, rows_of}
use Rattle.gl_rows.proofs.RowNames.{same_row-sym}
use Rattle.gl_rows.proofs.Accepted.{slot_inside}
use Rattle.gl_rows.proofs.rows.Rows.lock.Goals as goal

pub put-requires-clause-slot : goal.put-requires-clause-slot
put-requires-clause-slot c =
    slot_inside (state_of c.args.manager.now) c.law.ensures.lawful c.law.ensures.few c.args.t c.in_ok-locked.ensures.lives

pub returns : goal.returns
returns c =
    let w : Wish = record { txn = c.args.t; row = c.args.row; keys = c.args.keys; mode = c.args.mode } in
    let roomy = rows_of c.make_room.new.sets.items in
    let asked = rows_of c.put.new.sets.items in
    let left = c.self.inside.left in
    let before : with_asked c.self.inside.files.keys c.self.inside.names.entries roomy left ≡ c.args.self.now =
    ap (λ sets. with_asked c.self.inside.files.keys c.self.inside.names.entries sets left) c.make_room.ensures.same ∙ c.self.view_is in
    subst (λ (v : RowsView). LocksRow c.args.manager.now v w (Ok c.in_ok-locked.locked) c.lock_named.new.told.items c.lock_named.new.manager
    (with_asked c.self.inside.files.keys c.lock_named.new.names.entries asked left)) before
    (c.in_ok-locked.ensures.locks roomy asked left (λ u q.
    c.put.ensures.has u q ∙ ap (λ b. is_in c.make_room.new.sets.items u q || ((u == c.args.t.slot) && b)) (same_row-sym c.args.row q)))
