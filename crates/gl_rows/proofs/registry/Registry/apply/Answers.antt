use Rattle.std.proofs.Common.{subst}
use Rattle.gl_rows.specs.Applying.{CarriesOut, answer_in, naming, own_command}
use Rattle.gl_rows.specs.Rows.{RegistryView}
use Rattle.gl_rows.proofs.CarriedOut.{Course, call_course}
use Rattle.gl_rows.proofs.NameChanges.{changed_hold}
use Rattle.gl_rows.proofs.registry.Registry.apply.Goals as goal

-- what the call did
course : (c : goal.After-carry_out) → Course c.self.inside.manager c.self.inside.rows
    (own_command (naming c.args.call c.self.inside.rows c.carry_out.new.rows) c.args.call)
    (answer_in c.carry_out.result) c.carry_out.new.told.items c.carry_out.new.manager c.carry_out.new.rows
course c =
    call_course c.self.inside.manager c.carry_out.new.manager c.self.inside.rows c.carry_out.new.rows c.law.ensures.lawful c.self.invariant
    c.carry_out.new.told.items c.args.call c.carry_out.result c.carry_out.ensures

pub invariant_of-self : goal.invariant_of-self
invariant_of-self c = changed_hold c.self.inside.rows c.carry_out.new.rows _ _ (course c).names c.self.invariant

pub returns-clause-own : goal.returns-clause-own
returns-clause-own c =
    subst (λ (v : RegistryView). CarriesOut v.manager (own_command (naming c.args.call v.rows c.carry_out.new.rows) c.args.call) (answer_in c.carry_out.result)
    c.carry_out.new.told.items c.carry_out.new.manager) c.self.view_is (course c).out
