-- A row is adopted and locked in one call: what its tests say, and that it is two steps.
use Rattle.std.specs.Prelude.{◌≡◌, ℕ, ◌+◌, ◌-◌, ◌≤◌, Bool, true, false, not, ◌&&◌, ◌||◌, List, [], ◌∷◌, ◌++◌, Option, Some, None, if◌then◌else◌}
use Rattle.std.proofs.Common.{refl, sym, ap, ap₂, arith, rules, ◌∙◌}
use Rattle.std.proofs.Math.Bool.{and-false}
use denote.Bor.{Bor}
use mathlib.Core.Bool.{true≢false}
use Rattle.gl_modes.proofs.NodeLemmas.{same_node-refl}
use Rattle.gl_modes.proofs.Words.{both, not_true, number_other, number_same}
use Rattle.gl_modes.specs.declared.mode.Mode.{Mode}
use Rattle.gl_modes.specs.declared.mode.Mode.TheVariants.{NL, S, X}
use Rattle.gl_modes.specs.declared.node.NodeId.{NodeId}
use Rattle.gl_modes.specs.declared.refusal.Refusal.{Refusal}
use Rattle.gl_modes.specs.declared.refusal.Refusal.TheVariants as no
use Rattle.gl_modes.specs.Modes.{same_mode, supremum}
use Rattle.gl_graph.specs.Changes.{IsAdopted}
use Rattle.gl_graph.specs.Graph.{is_live, record_parents, shape_of}
use Rattle.gl_graph.specs.Refusals.{first_refusal, max_count, record_refusal, some_no_node, where_true}
use Rattle.gl_graph.specs.Shapes.{is_record_shape}
use Rattle.gl_graph.proofs.Born.{old_below}
use Rattle.gl_graph.proofs.FirstOf.{passed_then}
use Rattle.gl_graph.proofs.Unrefused.{lt_no, not_false, not_refused, test_fails}
use Rattle.gl_header.specs.Header.{enters}
use Rattle.gl_header.proofs.Changed.{nobody-enters}
use Rattle.gl_model.specs.declared.answers.Locked.TheVariants as locked
use Rattle.gl_model.specs.declared.txn.TxnId.{TxnId}
use Rattle.gl_model.specs.Calls.{Locks, accepted_once, bad_mode, commit_tests, condemned_test, enters_at}
use Rattle.gl_model.specs.Calls.{need_parents, no_txn, rule_refusal, waiting_test, wanted}
use Rattle.gl_model.specs.Lawful.{IsLawful}
use Rattle.gl_model.specs.State.{State, lives, status_of, with_grant, with_graph, counting}
use Rattle.gl_model.proofs.law.Records.{idle-free}
use Rattle.gl_model.proofs.law.Rows.{dead-idle}
use Rattle.gl_model.proofs.telling.Lists.{told_nothing}
use Rattle.gl_table.proofs.calls.Adopting.{adopted_lives, adopted_parents}
use Rattle.gl_steps.specs.declared.command.Answer.TheVariants as answer
use Rattle.gl_steps.specs.declared.command.Command.TheVariants as command
use Rattle.gl_catalog.specs.declared.counters.Counters.{Counters}
use Rattle.gl_catalog.specs.Adopting.{adopting_tests, no_record_mode, worn_twice}
use Rattle.gl_catalog.specs.Counters.{counted, one_if, raise_passes, rises}
use Rattle.gl_catalog.specs.Replies.{asking, made}
use Rattle.gl_steps.specs.Step.{Step, lock_answer}
use Rattle.gl_steps.specs.Tests.{refusal_of, worn}
use Rattle.gl_catalog.proofs.Carried.{accepted_step}
use Rattle.gl_catalog.proofs.Completed.{try_counted}
use Rattle.gl_steps.proofs.NotRefused.{active_is}

module _ (s : State) (t : TxnId) (f : NodeId) (keys : List ℕ) (m : Mode) where
  -- two commands can be counted and the transaction is active: then what refuses the record is the refusal
  pub row_refused : worn_twice s ≡ None → first_refusal (commit_tests s t) ≡ None → (r : Refusal) → record_refusal s.graph f keys ≡ Some r
      → first_refusal (adopting_tests s t f keys m) ≡ Some r
  row_refused counts active r refused =
      ap (λ o. first_refusal (o ∷ commit_tests s t ++ behind (record_refusal s.graph f keys))) counts
      ∙ passed_then (commit_tests s t) (behind (record_refusal s.graph f keys)) active ∙ ap (λ o. first_refusal (behind o)) refused
    where
      behind : Option Refusal → List (Option Refusal)
      behind o = o ∷ no_record_mode m ∷ rule_refusal (s.held t.slot) (record_parents s.graph f keys) m ∷ []

  -- what may be adopted and locked, if memory suffices
  pub record MayAdopt : Type 0 where
    pub counts : s.accepted ≤ max_count - 2
    pub named : no_txn s t ≡ None
    pub goes : waiting_test (status_of s t.slot) ≡ None
    pub stands : condemned_test (status_of s t.slot) ≡ None
    pub free : record_refusal s.graph f keys ≡ None
    pub fit : (same_mode m S || same_mode m X) ≡ true
    pub rule : rule_refusal (s.held t.slot) (record_parents s.graph f keys) m ≡ None

  pub may_adopt : first_refusal (adopting_tests s t f keys m) ≡ None → MayAdopt
  may_adopt h =
      let counts = not_refused (worn_twice s) _ h in
      let named = not_refused (no_txn s t) _ counts.1 in
      let goes = not_refused (waiting_test (status_of s t.slot)) _ named.1 in
      let stands = not_refused (condemned_test (status_of s t.slot)) _ goes.1 in
      let row = not_refused (record_refusal s.graph f keys) _ stands.1 in
      let mode = not_refused (no_record_mode m) _ row.1 in
      let rule = not_refused (rule_refusal (s.held t.slot) (record_parents s.graph f keys) m) [] mode.1 in
      record {
        counts = lt_no (max_count - 2) s.accepted (test_fails _ _ counts.0);
        named = named.0;
        goes = goes.0;
        stands = stands.0;
        free = row.0;
        fit = not_false _ (test_fails _ _ mode.0);
        rule = rule.0;
      }

-- below the greatest count one command more can be counted
pub counts_one : (s : State) → s.accepted + 1 ≤ max_count → worn s ≡ None
counts_one s room = ap (λ b. where_true b no.WornOut) (number_other s.accepted max_count (λ e. absurd (omega (arith, e, room))))

-- S and X are no bad modes, on a record or elsewhere
good_mode : (m : Mode) (rec : Bool) → (same_mode m S || same_mode m X) ≡ true
    → (same_mode m NL || (rec && not (same_mode m S || same_mode m X))) ≡ false
good_mode m rec fit = search rules

module _ (s s' : State) (law : IsLawful s) (t : TxnId) (f n : NodeId) (keys : Bor (List ℕ)) (m : Mode) (may : MayAdopt s t f keys.now m)
    (born : IsAdopted s.graph s'.graph n f keys.now) where
  -- between the two commands
  abbrev pub mid : State
  mid = accepted_once (with_graph s s'.graph)

  pub adopts : Step s (command.Adopt f keys) (answer.Node n) [] mid
  adopts =
      accepted_step made (command.Adopt f keys) s n (with_graph s s'.graph) mid
      (λ i. first_refusal (counts_one s (omega (arith, may.counts)) i ∷ may.free i ∷ [])) refl (n, born, refl, refl, refl) refl

  -- the node is new: nobody holds it or waits for it
  dead : is_live s.graph n ≡ false
  dead = not_true (is_live s.graph n) (λ live. let low = old_below s.graph law.graph [] n live in absurd (omega (arith, low, born.birth)))

  unheld : (u : ℕ) → s.held u n ≡ NL
  unheld = (idle-free s law n (dead-idle s law n dead)).0

  unawaited : s.queue n ≡ []
  unawaited = (idle-free s law n (dead-idle s law n dead)).1

  wanted_is : wanted mid t.slot n m ≡ m
  wanted_is = ap (λ x. supremum x m) (unheld t.slot)

  enters_new : enters_at mid t.slot n m ≡ true
  enters_new = (λ i. enters s.most (λ u. unheld u i) (unawaited i) t.slot (wanted_is i)) ∙ nobody-enters s.most t.slot m

  -- the lock is not refused
  lock_free : refusal_of mid (command.Lock t n m) ≡ None
  lock_free = λ i. first_refusal (counted_on i ∷ may.named i ∷ may.goes i ∷ may.stands i ∷ there i ∷ good i ∷ permits i ∷ [])
    where
      counted_on : worn mid ≡ None
      counted_on = counts_one mid (omega (arith, may.counts))

      there : some_no_node mid.graph (n ∷ []) ≡ None
      there = ap (λ b. where_true (not (b && true)) no.NoSuchNode) (adopted_lives s.graph s'.graph n f keys.now born)

      good : bad_mode mid n m ≡ None
      good = ap (λ b. where_true b no.BadMode) (good_mode m (is_record_shape (shape_of s'.graph n)) may.fit)

      permits : need_parents mid t.slot n (wanted mid t.slot n m) ≡ None
      permits = (λ i. rule_refusal (s.held t.slot) (adopted_parents s.graph s'.graph n f keys.now born i) (wanted_is i)) ∙ may.rule

  abbrev left : State
  left = with_grant mid t.slot n m

  at_once : Locks mid t.slot n m left
  at_once = record { at_once = λ e. ap (with_grant mid t.slot n) (sym wanted_is); waits = λ e. absurd (true≢false (sym enters_new ∙ e)) }

  -- it is answered with its mode
  granted : answer.Granted m ≡ lock_answer (left.held t.slot n) (status_of left t.slot)
  granted =
      sym (ap₂ lock_answer (ap (λ b. if b then m else s.held t.slot n) (both _ _ (number_same t.slot t.slot refl) (same_node-refl n)))
      (active_is s t may.named may.goes may.stands))

  pub locks : s' ≡ counting (s.accepted + 2) (with_grant (with_graph s s'.graph) t.slot n m) → Step mid (command.Lock t n m) (answer.Granted m) [] s'
  locks is =
      accepted_step (asking []) (command.Lock t n m) mid (locked.Granted m) left s' lock_free refl
      (at_once, granted, told_nothing mid left t.slot law.slots_below (λ u. refl))
      (is ∙ ap (λ k. counting k (with_grant (with_graph s s'.graph) t.slot n m)) (omega arith))

  -- it is a grant that converts nothing
  pub counts_grant : (k : Counters) → counted mid (command.Lock t n m) (answer.Granted m) [] s' k
      ≡ record k { granted = rises k.granted 1; conversions = rises k.conversions (one_if false); passed = rises k.passed (one_if false) }
  counts_grant k =
      try_counted mid s' t n m m false false k (sym (ap (λ x. lives s t && not (same_mode x NL)) (unheld t.slot) ∙ and-false (lives s t)))
      (sym (ap (λ x. lives s t && raise_passes s' n x (s'.held t.slot n)) (unheld t.slot) ∙ and-false (lives s t)))
