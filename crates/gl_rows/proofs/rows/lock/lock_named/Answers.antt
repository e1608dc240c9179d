use Rattle.std.proofs.Common.{refl, rules}
use Rattle.std.specs.Prelude.{◌↔◌, IsTrue}
use Rattle.gl_modes.proofs.Words.{clash}
use Rattle.indexmap.specs.Entry.{map_with_value}
use Rattle.gl_catalog.specs.Manager.{state_of}
use Rattle.gl_rows.specs.Locking.{HasKeys, IsStale, Wish}
use Rattle.gl_rows.proofs.Accepted.{adopter_lives, locker_lives}
use Rattle.gl_rows.proofs.RowNames.{renames_so}
use Rattle.gl_rows.proofs.RowLocks.{renewed, stands_locked, vacant_locked}
use Rattle.gl_rows.proofs.rows.lock.lock_named.Goals.{then-own_keys-via-then-own_keys, then-own_keys-via-else-own_keys+then-not-is_idle}
use Rattle.gl_rows.proofs.rows.lock.lock_named.Goals as goal

pub returns-then-own_keys-clause-locks : goal.returns-then-own_keys-clause-locks
returns-then-own_keys-clause-locks c =
    let w : Wish = record { txn = c.args.t; row = c.args.row; keys = c.args.keys; mode = c.args.mode } in
    let own : IsTrue c.eq-own_keys.result ↔ HasKeys (state_of c.args.manager.now) c.get-named.result.now w.keys = search rules in
    let fresh : IsStale (state_of c.args.manager.now) c.get-named.result.now w.keys → ⊥ =
    elim c.then-own_keys.branch [
      | then-own_keys-via-then-own_keys w ↦ (λ stale. stale.others (own.0 (search rules)))
      | then-own_keys-via-else-own_keys+then-not-is_idle w ↦ (λ stale. clash stale.idle (search rules))
    ] in
    stands_locked c.args.manager.now c.args.files.now.keys w c.lock_telling.new.told.items c.lock_telling.new.self c.args.names.now.entries _
    c.get-named.result.now
    (search rules) fresh _ refl own c.in_ok-locked-in-Occupied.ensures.step c.in_ok-locked-in-Occupied.ensures.completes (search rules)

pub returns-in_ok-node-in-Occupied-clause-locks : goal.returns-in_ok-node-in-Occupied-clause-locks
returns-in_ok-node-in-Occupied-clause-locks c =
    let w : Wish = record { txn = c.args.t; row = c.args.row; keys = c.args.keys; mode = c.args.mode } in
    let stale : IsStale (state_of c.args.manager.now) c.get-named.result.now w.keys = record { idle = search rules; others = search rules } in
    rw c.first.ensures
    (renewed c.args.manager.now c.args.files.now.keys w c.args.told.now.items c.renew.new.manager c.args.names.now.entries _
    c.in_ok-node-in-Occupied.node c.requires.empty
    (renames_so c.args.names.now.entries (map_with_value c.in-Ok.entry c.in_ok-node-in-Occupied.node).entries _ c.args.row _ (search rules)
    (c.in-Ok.ensures.update.0 c.in_ok-node-in-Occupied.node).0)
    c.get-named.result.now (search rules) stale c.in_ok-node-in-Occupied.ensures)

pub returns-in_ok-node-in-Vacant-clause-locks : goal.returns-in_ok-node-in-Vacant-clause-locks
returns-in_ok-node-in-Vacant-clause-locks c =
    let w : Wish = record { txn = c.args.t; row = c.args.row; keys = c.args.keys; mode = c.args.mode } in
    rw c.first-in-Vacant.ensures
    (vacant_locked c.args.manager.now c.args.files.now.keys w c.args.told.now.items c.adopt_locked.new.self c.args.names.now.entries _
    c.in_ok-node-in-Vacant.node c.requires.empty
    (renames_so c.args.names.now.entries (map_with_value c.in-Ok.entry c.in_ok-node-in-Vacant.node).entries _ c.args.row _ (search rules)
    (c.in-Ok.ensures.update.0 c.in_ok-node-in-Vacant.node).0)
    (search rules) (search rules) c.in_ok-node-in-Vacant.ensures.adopts)

pub returns-then-own_keys-clause-lives : goal.returns-then-own_keys-clause-lives
returns-then-own_keys-clause-lives c =
    locker_lives (state_of c.args.manager.now) c.args.t c.get-named.result.now c.args.mode c.lock_telling.new.told.items c.in_ok-locked-in-Occupied.locked
    (state_of c.lock_telling.new.self) c.in_ok-locked-in-Occupied.ensures.step

pub returns-in_ok-node-in-Occupied-clause-lives : goal.returns-in_ok-node-in-Occupied-clause-lives
returns-in_ok-node-in-Occupied-clause-lives c =
    let it = c.in_ok-node-in-Occupied.ensures in
    adopter_lives c.args.manager.now it.mid c.args.t c.args.row.file c.args.keys c.args.mode c.in_ok-node-in-Occupied.node it.adopts

pub returns-in_ok-node-in-Vacant-clause-lives : goal.returns-in_ok-node-in-Vacant-clause-lives
returns-in_ok-node-in-Vacant-clause-lives c =
    adopter_lives c.args.manager.now c.adopt_locked.new.self c.args.t c.args.row.file c.args.keys c.args.mode c.in_ok-node-in-Vacant.node
    c.in_ok-node-in-Vacant.ensures.adopts
