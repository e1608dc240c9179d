-- A command of a script is refused here, or passed to the manager.
use Rattle.gl_interpreter.proofs.Words.{◌≡◌, Bool, Command, does_to_names, Err, inl, inr, names_of, nodes_of, Ok, Refusal, Script, script_of, state_of, subst}
use Rattle.gl_interpreter.proofs.Words.{sym, true}
use Rattle.gl_modes.specs.declared.refusal.Refusal.TheVariants as no
use Rattle.gl_model.specs.Tellings.{Told}
use Rattle.gl_interpreter.specs.declared.desk.Desk.{Desk}
use Rattle.gl_interpreter.specs.declared.request.Said.{Said}
use Rattle.gl_interpreter.specs.Rooms.{IsRoomed}
use Rattle.gl_interpreter.specs.Script.{declares, DoesWhere, HandedOn, RefusedHere}

-- the script is the same if language, names and manager are
pub same_script : (x y : Desk) → names_of x ≡ names_of y → x.language ≡ y.language → x.manager ≡ y.manager → script_of x ≡ script_of y
same_script x y names language manager =
    λ i. record {
      language = language i;
      names = names i;
      locks = state_of (manager i);
      deadlock = (manager i).table.deadlock;
      orders = nodes_of (manager i).table;
    }

module _ (s : Script) (c : Command) (a : Said) (told : Told) (s' : Script) (taken : Bool) (room : Type 0) where
  -- there is no room for the name, or it is in use
  pub does_refused : (r : Refusal) → IsRoomed taken room (Err r) → declares (does_to_names c) ≡ true → RefusedHere r s a told s' → DoesWhere taken s c a told s'
  does_refused no.NameTaken is named h = subst (λ b. DoesWhere b s c a told s') (sym is) h
  does_refused no.NoMemory is named h = subst (λ b. DoesWhere b s c a told s') (sym is) (inr (named, h))
  does_refused _ is named h = absurd is

  -- there is room
  pub does_handed : IsRoomed taken room (Ok tt) → HandedOn s c a told s' → DoesWhere taken s c a told s'
  does_handed is h = subst (λ b. DoesWhere b s c a told s') (sym is.0) (inl h)
