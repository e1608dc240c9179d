use Rattle.gl_table.proofs.Words.{◌≡◌, AreHeaders, AtBlock, HasNoConflict, HasNoCycle, ListsAgree, StandOnce, state_of, subst, TableView, view_of}
use Rattle.gl_table.proofs.calls.Law.{lists_agree, stand_once}
use Rattle.gl_model.proofs.law.Effects.{no_conflict_law}
use Rattle.gl_table.proofs.table.Table.law.Goals as goal

pub returns-clause-headers : goal.returns-clause-headers
returns-clause-headers c = subst (λ (v : TableView). AreHeaders v.headers) c.self.view_is c.law.ensures.headers

pub returns-clause-lists : goal.returns-clause-lists
returns-clause-lists c = subst ListsAgree c.self.view_is (lists_agree c.self.inside c.self.invariant)

pub returns-clause-unique : goal.returns-clause-unique
returns-clause-unique c = subst StandOnce c.self.view_is (stand_once c.self.inside c.self.invariant c.law.ensures.distinct)

pub returns-clause-no_conflict : goal.returns-clause-no_conflict
returns-clause-no_conflict c = subst (λ (v : TableView). HasNoConflict (state_of v)) c.self.view_is
    (no_conflict_law (state_of (view_of c.self.inside)) c.self.invariant.lawful)

pub returns-clause-no_cycle : goal.returns-clause-no_cycle
returns-clause-no_cycle c = subst (λ (v : TableView). v.detect ≡ AtBlock → HasNoCycle (state_of v)) c.self.view_is c.self.invariant.no_cycle
