use Rattle.gl_interpreter.proofs.Words.{◌∙◌, ap, command_of, does_to_names, ManagerView, names_of, nodes_of, refl, Script, script_of, state_of, subst, sym, ℕ}
use Rattle.gl_table.specs.Orders.{KeepsPlaces}
use Rattle.gl_catalog.specs.Deadlocks.{KeepsDeadlock}
use Rattle.gl_steps.specs.Step.{Step}
use Rattle.gl_interpreter.specs.declared.request.Request.{Request}
use Rattle.gl_interpreter.specs.declared.request.Said.TheVariants as said
use Rattle.gl_interpreter.specs.Rooms.{HasRoomFor}
use Rattle.gl_interpreter.specs.Script.{Asks, is_in_use, IsStoodFor, mark_of, Releases, renamed, Serves}
use Rattle.gl_interpreter.proofs.Serving.{does_handed, does_refused, same_script}
use Rattle.gl_interpreter.proofs.desk.Desk.serve.Goals as goal

pub rename-requires : goal.rename-requires
rename-requires c = record { room = (rw c.in_default.is at c.make_room.ensures.room).0.1 }

pub returns-in-Err : goal.returns-in-Err
returns-in-Err c =
    let asked = command_of c.args.form.now c.args.lists.now in
    let room = rw c.in-Err.is at (rw (c.does_to_names-naming.ensures c.args.lists.now) at c.make_room.ensures.room) in
    record {
      does = does_refused (script_of c.args.self.now) asked _ _ _ (is_in_use (names_of c.args.self.now) (does_to_names asked))
          (HasRoomFor c.make_room.new.self (does_to_names asked)) c.in-Err.refusal room.0 room.1
          (record {
            said_is = refl;
            nobody_told = c.requires.empty;
            same = same_script c.make_room.new.self c.args.self.now c.make_room.ensures.names c.make_room.ensures.language c.make_room.ensures.manager;
          });
    }

pub returns-in-Apply : goal.returns-in-Apply
returns-in-Apply c =
    let s = script_of c.args.self.now in
    let asked = command_of c.args.form.now c.args.lists.now in
    let room = rw c.in_default.is at (rw (c.does_to_names-naming.ensures c.args.lists.now) at c.make_room.ensures.room) in
    let same = same_script c.make_room.new.self c.args.self.now c.make_room.ensures.names c.make_room.ensures.language c.make_room.ensures.manager in
    let named = rw (c.does_to_names-naming.ensures c.args.lists.now) at c.rename.ensures.names in
    record {
      does = does_handed s asked _ _ _ (is_in_use (names_of c.args.self.now) (does_to_names asked))
          (HasRoomFor c.make_room.new.self (does_to_names asked)) room.0
          (record {
            asked = c.request.result;
            asks = subst (λ (s : Script). Asks s asked c.request.result) same c.request.ensures;
            serves = subst (λ (r : Request).
                Serves s asked r (said.Answer c.apply_telling-answer.result) c.apply_telling-answer.new.told.items (script_of c.rename.new.self))
                (sym c.in-Apply.is)
                (record {
                  given = c.apply_telling-answer.result;
                  said_is = refl;
                  step = rw c.rename.ensures.manager
                      (subst (λ m. Step (state_of m) c.in-Apply.command c.apply_telling-answer.result c.apply_telling-answer.new.told.items
                      (state_of c.apply_telling-answer.new.self)) c.make_room.ensures.manager c.apply_telling-answer.ensures.step);
                  deadlock = rw c.rename.ensures.manager
                      (subst (λ (m : ManagerView). KeepsDeadlock c.in-Apply.command m c.apply_telling-answer.result c.apply_telling-answer.new.self)
                      c.make_room.ensures.manager c.apply_telling-answer.ensures.deadlock);
                  orders = λ uncounted. ap (λ (m : ManagerView). nodes_of m.table) (c.rename.ensures.manager ∙ c.apply_telling-answer.ensures.same
                      (ap (λ (m : ManagerView). m.accepted) (sym c.rename.ensures.manager) ∙ uncounted
                      ∙ ap (λ (m : ManagerView). m.accepted) (sym c.make_room.ensures.manager)) ∙ c.make_room.ensures.manager);
                  places = rw c.rename.ensures.manager
                      (subst (λ (m : ManagerView). (u : ℕ) → KeepsPlaces (nodes_of m.table u) (nodes_of c.apply_telling-answer.new.self.table u))
                      c.make_room.ensures.manager c.apply_telling-answer.ensures.orders.each);
                  names = named ∙ ap (λ n. renamed n (does_to_names asked) c.apply_telling-answer.result) c.make_room.ensures.names;
                });
            language = c.rename.ensures.language ∙ c.make_room.ensures.language;
          });
    }

pub returns-in-Mark : goal.returns-in-Mark
returns-in-Mark c =
    let s = script_of c.args.self.now in
    let asked = command_of c.args.form.now c.args.lists.now in
    let room = rw c.in_default.is at (rw (c.does_to_names-naming.ensures c.args.lists.now) at c.make_room.ensures.room) in
    let same = same_script c.make_room.new.self c.args.self.now c.make_room.ensures.names c.make_room.ensures.language c.make_room.ensures.manager in
    record {
      does = does_handed s asked _ _ _ (is_in_use (names_of c.args.self.now) (does_to_names asked))
          (HasRoomFor c.make_room.new.self (does_to_names asked)) room.0
          (record {
            asked = c.request.result;
            asks = subst (λ (s : Script). Asks s asked c.request.result) same c.request.ensures;
            serves = subst (λ (r : Request).
                Serves s asked r c.mark.result c.args.told.now.items (script_of c.make_room.new.self)) (sym c.in-Mark.is)
                (record {
                  stood = subst IsStoodFor same c.mark.ensures.stood;
                  said_is = c.mark.ensures.mark ∙ ap (λ (x : Script). mark_of x c.in-Mark.txn) same;
                  nobody_told = c.requires.empty;
                  same = same;
                });
            language = c.make_room.ensures.language;
          });
    }

pub returns-in-Release : goal.returns-in-Release
returns-in-Release c =
    let s = script_of c.args.self.now in
    let asked = command_of c.args.form.now c.args.lists.now in
    let room = rw c.in_default.is at (rw (c.does_to_names-naming.ensures c.args.lists.now) at c.make_room.ensures.room) in
    let same = same_script c.make_room.new.self c.args.self.now c.make_room.ensures.names c.make_room.ensures.language c.make_room.ensures.manager in
    record {
      does = does_handed s asked _ _ _ (is_in_use (names_of c.args.self.now) (does_to_names asked))
          (HasRoomFor c.make_room.new.self (does_to_names asked)) room.0
          (record {
            asked = c.request.result;
            asks = subst (λ (s : Script). Asks s asked c.request.result) same c.request.ensures;
            serves = subst (λ (r : Request).
                Serves s asked r c.release.result c.release.new.told.items (script_of c.release.new.self)) (sym c.in-Release.is)
                (subst (λ (x : Script). Releases x c.in-Release.txn c.in-Release.mark c.release.result c.release.new.told.items (script_of c.release.new.self))
                same c.release.ensures.releases);
            language = c.release.ensures.language ∙ c.make_room.ensures.language;
          });
    }
