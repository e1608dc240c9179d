-- Rows are adopted and forgotten: the law of a state is kept, and only records without locks are added and removed.
use Rattle.gl_steps.proofs.Words.{◌≡◌, accepted_once, Accepts, Answer, ap, Bor, ChangesIdleRows, clash, Command, Graph, is_idle, is_of_rows, is_record_shape}
use Rattle.gl_steps.proofs.Words.{IsAdopted, IsLawful, keys_in, List, Node, NodeId, None, none_refused, not_false, parents_in, Rec, record_parents}
use Rattle.gl_steps.proofs.Words.{record_refusal, refl, refusal_of, shape_in, shape_of, State, subst, sym, test_fails, tests_of, Told, true, was_live}
use Rattle.gl_steps.proofs.Words.{with_graph, without_node, ℕ}
use Rattle.gl_steps.specs.Promises.{RowsComeAndGo}
use Rattle.gl_model.proofs.law.Records.{adopted-lawful, forgotten-lawful}
use Rattle.gl_model.proofs.law.Rows.{dead-idle, gone_is, left_was, row_came, row_keys, row_live, row_parents}
use Rattle.gl_steps.specs.declared.command.Command.TheVariants as command
use Rattle.gl_steps.proofs.KeepsLaw.{KeepsLaw}
use Rattle.gl_steps.proofs.MakeKeeps.{behind_worn}
use Rattle.gl_steps.proofs.EachStep.{each_step}

pub adopt_keeps : (f : NodeId) (keys : Bor (List ℕ)) → KeepsLaw (command.Adopt f keys)
adopt_keeps f keys s s' a told law free acc =
    subst IsLawful (sym acc.4) (adopted-lawful s law s'.graph acc.0 f keys.now (behind_worn s (record_refusal s.graph f keys.now) free) acc.1)

-- what the tests of forget leave
pub record MayForget (s : State) (r : NodeId) : Type 0 where
  pub rec : is_record_shape (shape_of s.graph r) ≡ true
  pub idle : is_idle s r ≡ true

pub may_forget : (s : State) (r : NodeId) → refusal_of s (command.Forget r) ≡ None → MayForget s r
may_forget s r free =
    let ok = none_refused (tests_of s (command.Forget r)) free in
    record { rec = not_false _ (test_fails _ _ (ok 2)); idle = not_false _ (test_fails _ _ (ok 3)) }

pub forget_keeps : (r : NodeId) → KeepsLaw (command.Forget r)
forget_keeps r s s' a told law free acc = let may = may_forget s r free in subst IsLawful (sym acc.2) (forgotten-lawful s law r may.rec may.idle)

-- Only records without locks are added and removed.

idle_itself : (s : State) → ChangesIdleRows s s
idle_itself s = record {
  locks = refl;
  came = λ n dead live. absurd (clash live dead);
  went = λ n live dead. absurd (clash live dead);
  stays = λ n _ _. record { keys = refl; parents = refl };
}

idle_counted : (s next : State) → ChangesIdleRows s next → ChangesIdleRows s (accepted_once next)
idle_counted s next h = record {
  locks = ap accepted_once h.locks;
  came = h.came;
  went = h.went;
  stays = λ n live live'. let there = h.stays n live live' in record { keys = there.keys; parents = there.parents };
}

module _ (s : State) (law : IsLawful s) where
  abbrev row_node : NodeId → NodeId → List ℕ → Node
  row_node n f keys = record { key = n.key; shape = Rec keys; parents = record_parents s.graph f keys }

  adopt_idle : (n f : NodeId) (keys : List ℕ) (g' : Graph) → IsAdopted s.graph g' n f keys → ChangesIdleRows s (with_graph s g')
  adopt_idle n f keys g' born = subst (λ g. ChangesIdleRows s (with_graph s g)) (sym born.after) (record {
    locks = refl;
    came = λ q dead live. (row_came s.graph law.graph f (row_node n f keys) refl q dead live, dead-idle s law q dead);
    went = λ q live dead. absurd (clash (row_live s.graph law.graph f (row_node n f keys) q live) dead);
    stays = λ q live _. record {
      keys = row_keys s.graph law.graph f (row_node n f keys) q live;
      parents = row_parents s.graph law.graph f (row_node n f keys) q live;
    };
  })

  forget_idle : (r : NodeId) → MayForget s r → ChangesIdleRows s (with_graph s (without_node s.graph r))
  forget_idle r may = record {
    locks = refl;
    came = λ q dead live. absurd (clash (was_live s.graph law.graph r may.rec q live) dead);
    went = λ q live dead.
        subst (λ x. (is_record_shape (shape_of s.graph x) ≡ true) × (is_idle s x ≡ true)) (sym (gone_is s.graph law.graph r may.rec q live dead))
        (may.rec, may.idle);
    stays = λ q _ live. let same = left_was s.graph law.graph r may.rec q live in
        record { keys = ap (λ o. keys_in (shape_in o)) same; parents = ap parents_in same };
  }

accepted_idle : (s next : State) (c : Command) (a : Answer) (told : Told) → IsLawful s → is_of_rows c ≡ true → refusal_of s c ≡ None → Accepts s c a told next
    → ChangesIdleRows s next
accepted_idle s next (command.Adopt f keys) a told law rows free acc =
    subst (ChangesIdleRows s) (sym acc.4) (adopt_idle s law acc.0 f keys.now next.graph acc.1)
accepted_idle s next (command.Forget r) a told law rows free acc = subst (ChangesIdleRows s) (sym acc.2) (forget_idle s law r (may_forget s r free))
accepted_idle s next c a told law rows free acc = absurd (clash rows refl)

pub rows_come_and_go : RowsComeAndGo
rows_come_and_go s s' c a told law rows step =
    each_step (ChangesIdleRows s) s c a told s' (idle_itself s) (idle_counted s) (λ free next acc. accepted_idle s next c a told law rows free acc) step
