-- What is done for rows after a command: records are forgotten, or nothing happens to the state.
use Rattle.std.specs.Prelude.{◌≡◌, ◌&&◌, ℕ, Bool, true, false, not, List, [], ◌∷◌, if◌then◌else◌, map}
use Rattle.std.specs.List.{list_all}
use Rattle.std.proofs.Common.{refl, sym, ap, subst, ◌∙◌}
use Rattle.gl_modes.proofs.Words.{no as never, split}
use Rattle.gl_modes.specs.declared.node.NodeId.{NodeId}
use Rattle.gl_model.specs.State.{State}
use Rattle.gl_model.specs.Tellings.{Told}
use Rattle.gl_model.specs.declared.txn.TxnId.{TxnId}
use Rattle.gl_steps.specs.Served.{accepts, is_query, is_refused}
use Rattle.gl_steps.specs.declared.command.Answer.{Answer}
use Rattle.gl_steps.specs.declared.command.Answer.TheVariants as answer
use Rattle.gl_steps.specs.declared.command.Command.{Command}
use Rattle.gl_steps.specs.declared.command.Command.TheVariants as command
use Rattle.gl_catalog.specs.Counters.{refuses}
use Rattle.gl_catalog.specs.Manager.{ManagerView, state_of}
use Rattle.gl_rows.specs.Applying.{Upkeep, is_upkeep}
use Rattle.gl_rows.specs.Locking.{Names, forgets}
use Rattle.gl_rows.specs.Releasing.{LetsEachGo, LetsGoAtEnd, LetsGoMeanwhile, LetsLeftGo, no_end}
use Rattle.gl_rows.specs.Rows.{RegistryView, RowsView}
use Rattle.gl_rows.specs.Serving.{Applies, Dropped, Ended, GaveBack, IsServed, Nothing, Released, Remains, TidiesUp, lets_go, remains_after, remains_of}
use Rattle.gl_rows.specs.declared.row.Row.{Row}
use Rattle.gl_rows.proofs.GraphChanges.{is_of_nodes}
use Rattle.gl_rows.proofs.RunsKeepIndexes.{is_drop}
use Rattle.gl_rows.proofs.Upkeep.{upkeep_none}

all_forget : (gone : List NodeId) → list_all (λ l. is_upkeep l.0) (map forgets gone) ≡ true
all_forget [] = refl
all_forget (n ∷ gone) = all_forget gone

-- rows are let go
pub each_goes : (s s' : State) (ns ns' : Names) (rows : List Row) → LetsEachGo s ns rows s' ns' → Upkeep s s'
each_goes s s' ns ns' rows lets = record { lines = map forgets lets.forgotten.0; run = lets.forgotten.1; kept = all_forget lets.forgotten.0 }

-- and those left
pub left_upkeep : (m m' : ManagerView) (v v' : RowsView) (rows : List Row) (ended : ℕ → Bool) → LetsLeftGo m v rows ended m' v'
    → Upkeep (state_of m) (state_of m')
left_upkeep m m' v v' rows ended h = each_goes (state_of m) (state_of m') v.names v'.names _ h.goes

-- those that a transaction asked for, when it ends or meanwhile
pub at_end_upkeep : (m m' : ManagerView) (v v' : RowsView) (slot : ℕ) → LetsGoAtEnd m v slot m' v' → Upkeep (state_of m) (state_of m')
at_end_upkeep m m' v v' slot h = left_upkeep m m' v v' _ _ h

pub meanwhile_upkeep : (m m' : ManagerView) (v v' : RowsView) (slot : ℕ) → LetsGoMeanwhile m v slot m' v' → Upkeep (state_of m) (state_of m')
meanwhile_upkeep m m' v v' slot h = left_upkeep m m' v v' _ _ h

-- what is done for rows
pub tidy_upkeep : (x : Remains) (m m' : ManagerView) (v v' : RowsView) → TidiesUp x m v m' v' → Upkeep (state_of m) (state_of m')
tidy_upkeep Nothing m m' v v' h = upkeep_none (state_of m) (state_of m') (ap state_of h.0)
tidy_upkeep (Dropped n) m m' v v' h = upkeep_none (state_of m) (state_of m') (ap state_of h.0)
tidy_upkeep (Ended slot) m m' v v' h = at_end_upkeep m m' v v' slot h
tidy_upkeep (GaveBack slot) m m' v v' h = meanwhile_upkeep m m' v v' slot h
tidy_upkeep Released m m' v v' h = left_upkeep m m' v v' [] no_end h

-- two words for a refusal
pub refuses_is : (a : Answer) → refuses a ≡ is_refused a
refuses_is (answer.Refused r) = refl
refuses_is a = refl

-- by the answer
remains_if : (c : Command) (a : Answer) (b : Bool) → is_refused a ≡ b → remains_after c a ≡ (if b then Nothing else remains_of c)
remains_if c a b e = ap (λ x. if x then Nothing else remains_of c) e

-- a command that is not accepted leaves nothing to be done
pub none_remains : (c : Command) (a : Answer) → accepts c a ≡ false → remains_after c a ≡ Nothing
none_remains c a not_so = split (is_refused a) (remains_if c a true)
    (λ said. remains_if c a false said ∙ query c (ap (λ b. not (is_query c) && not b) (sym said) ∙ not_so))
  where
    query : (c : Command) → (not (is_query c) && true) ≡ false → remains_of c ≡ Nothing
    query (command.Drop t n) e = absurd (never (sym e))
    query (command.Commit t) e = absurd (never (sym e))
    query (command.Abort t) e = absurd (never (sym e))
    query (command.Cancel t) e = absurd (never (sym e))
    query (command.Escalate t n) e = absurd (never (sym e))
    query (command.Unlock t n) e = absurd (never (sym e))
    query c e = refl

-- what a command was that leaves this to be done
pub record Leaves (c : Command) (a : Answer) (x : Remains) : Type 0 where
  pub done : is_refused a ≡ false
  pub remains : remains_of c ≡ x

leaves : (c : Command) (a : Answer) (x : Remains) → (Nothing ≡ x → ⊥) → remains_after c a ≡ x → Leaves c a x
leaves c a x some e = split (is_refused a) (λ refused. absurd (some (sym (remains_if c a true refused) ∙ e)))
    (λ done. record { done = done; remains = sym (remains_if c a false done) ∙ e })

-- a drop
pub dropped_so : (c : Command) (a : Answer) (n : NodeId) → remains_after c a ≡ Dropped n
    → (t : TxnId) × (c ≡ command.Drop t n) × (is_refused a ≡ false)
dropped_so c a n e = let it = leaves c a (Dropped n) (λ x. cc x) e in let of = by c it.remains in (of.0, of.1, it.done)
  where
    by : (c : Command) → remains_of c ≡ Dropped n → (t : TxnId) × (c ≡ command.Drop t n)
    by (command.Drop t m) e = (t, cc e)
    by c e = absurd (cc e)

-- or a command that releases locks or gives a wait back, and changes no node
pub record IsOfLocks (c : Command) : Type 0 where
  pub nodes : is_of_nodes c ≡ false
  pub drops : is_drop c ≡ false

pub ended_so : (c : Command) (a : Answer) (slot : ℕ) → remains_after c a ≡ Ended slot → IsOfLocks c
ended_so c a slot e = by c (leaves c a (Ended slot) (λ x. cc x) e).remains
  where
    by : (c : Command) → remains_of c ≡ Ended slot → IsOfLocks c
    by (command.Commit t) e = record { nodes = refl; drops = refl }
    by (command.Abort t) e = record { nodes = refl; drops = refl }
    by c e = absurd (cc e)

pub gave_back_so : (c : Command) (a : Answer) (slot : ℕ) → remains_after c a ≡ GaveBack slot → IsOfLocks c
gave_back_so c a slot e = by c (leaves c a (GaveBack slot) (λ x. cc x) e).remains
  where
    by : (c : Command) → remains_of c ≡ GaveBack slot → IsOfLocks c
    by (command.Cancel t) e = record { nodes = refl; drops = refl }
    by (command.Escalate t n) e = record { nodes = refl; drops = refl }
    by c e = absurd (cc e)

pub released_so : (c : Command) (a : Answer) → remains_after c a ≡ Released → IsOfLocks c
released_so c a e = by c (leaves c a Released (λ x. cc x) e).remains
  where
    by : (c : Command) → remains_of c ≡ Released → IsOfLocks c
    by (command.Unlock t n) e = record { nodes = refl; drops = refl }
    by c e = absurd (cc e)

-- A command that leaves nothing to be done is its step alone.

remains_nothing : (c : Command) (a : Answer) → remains_of c ≡ Nothing → remains_after c a ≡ Nothing
remains_nothing c a none = split (is_refused a) (remains_if c a true) (λ done. remains_if c a false done ∙ none)

-- its step, after which the rows are the same
pub record IsAlone (v : RegistryView) (c : Command) (a : Answer) (told : Told) (v' : RegistryView) : Type 0 where
  pub applies : Applies v.manager c a told v'.manager
  pub rows : v'.rows ≡ v.rows

alone : (v v' : RegistryView) (c : Command) (a : Answer) (told : Told) → remains_after c a ≡ Nothing → IsServed v c a told v' → IsAlone v c a told v'
alone v v' c a told none h =
    let done = subst (λ x. TidiesUp x h.mid v.rows v'.manager v'.rows) none h.tidies in
    record { applies = subst (Applies v.manager c a told) (sym done.0) h.applies; rows = done.1 }

pub served_alone : (v v' : RegistryView) (c : Command) (a : Answer) (told : Told) → remains_of c ≡ Nothing → IsServed v c a told v' → IsAlone v c a told v'
served_alone v v' c a told none h = alone v v' c a told (remains_nothing c a none) h

-- and so is one that is not accepted
pub unaccepted_alone : (v v' : RegistryView) (c : Command) (a : Answer) (told : Told) → accepts c a ≡ false → IsServed v c a told v' → IsAlone v c a told v'
unaccepted_alone v v' c a told not_so h = alone v v' c a told (none_remains c a not_so) h

-- after any other, records may be forgotten
pub served_upkeep : (v v' : RegistryView) (c : Command) (a : Answer) (told : Told) (h : IsServed v c a told v')
    → Upkeep (state_of h.mid) (state_of v'.manager)
served_upkeep v v' c a told h = tidy_upkeep (remains_after c a) h.mid v'.manager v.rows v'.rows h.tidies

pub served_kept : (v v' : RegistryView) (c : Command) (a : Answer) (told : Told) (h : IsServed v c a told v') → lets_go (remains_after c a) ≡ false
    → v'.manager ≡ h.mid
served_kept v v' c a told h quiet = by (remains_after c a) quiet h.tidies
  where
    by : (x : Remains) → lets_go x ≡ false → TidiesUp x h.mid v.rows v'.manager v'.rows → v'.manager ≡ h.mid
    by Nothing quiet done = done.0
    by (Dropped n) quiet done = done.0
    by (Ended slot) quiet done = absurd (never (sym quiet))
    by (GaveBack slot) quiet done = absurd (never (sym quiet))
    by Released quiet done = absurd (never (sym quiet))
