-- An escalation by the calls of the table: whether some child is held to write, a try of the mode that follows from it, and then the shedding.
use Rattle.std.specs.Prelude.{◌≡◌, ℕ, ◌+◌, ◌-◌, Bool, true, false, not, ◌&&◌, ◌||◌, [], ◌∷◌, Option, Some, None, Ok, Err, IsOk, if◌then◌else◌}
use Rattle.std.specs.List.{list_any}
use Rattle.std.proofs.Common.{refl, sym, ap, ◌∙◌}
use Rattle.gl_modes.proofs.NodeLemmas.{same_node-refl}
use Rattle.gl_modes.proofs.Words.{both, no, number_same, or_left}
use Rattle.gl_modes.specs.declared.mode.Mode.{Mode}
use Rattle.gl_modes.specs.declared.mode.Mode.TheVariants.{NL, S, X}
use Rattle.gl_modes.specs.declared.node.NodeId.{NodeId}
use Rattle.gl_modes.specs.declared.refusal.Refusal.{Refusal}
use Rattle.gl_modes.specs.declared.refusal.Refusal.TheVariants as no
use Rattle.gl_modes.specs.Modes.{is_at_least, same_mode, supremum}
use Rattle.gl_modes.proofs.Each.{every-true}
use Rattle.gl_graph.specs.Graph.{is_child, nodes, parents_of, shape_of}
use Rattle.gl_graph.specs.Refusals.{Refuses, first_refusal, verdict, where_true}
use Rattle.gl_graph.specs.Shapes.{is_record_shape}
use Rattle.gl_graph.proofs.Unrefused.{not_false, not_refused, test_fails}
use Rattle.gl_header.specs.Header.{fits, holds, is_empty}
use Rattle.gl_model.specs.declared.txn.Status.TheVariants.{Active}
use Rattle.gl_model.specs.declared.txn.TxnId.{TxnId}
use Rattle.gl_model.specs.Calls.{IsActing, asked_by_escalation, granted, raised, shed, wanted, covered_children, held_children}
use Rattle.gl_model.specs.State.{is_write, State, lives, members, status_of, counting}
use Rattle.gl_model.specs.Lawful.{IsLawful}
use Rattle.gl_model.specs.Calls.{active_on, bad_mode, escalation_blocks, first_not_ix, first_of_all, need_parents, no_txn, not_held, try_tests, would_block}
use Rattle.gl_model.specs.Tellings.{told}
use Rattle.gl_table.proofs.calls.Locking.{test_refused}
use Rattle.gl_model.proofs.law.Tests.{active_after}
use Rattle.gl_steps.specs.declared.command.Answer.TheVariants as answer
use Rattle.gl_steps.specs.declared.command.Command.TheVariants as command
use Rattle.gl_steps.specs.declared.command.Escalated.{Escalated}
use Rattle.gl_catalog.specs.Replies.{CallSteps, Notices, rose}
use Rattle.gl_steps.specs.Tests.{escalate_asks, refusal_of, worn}
use Rattle.gl_catalog.proofs.Carried.{accepted_step, refused_step}
use Rattle.gl_graph.proofs.FirstOf.{passed_then, passes_first, refused_first}
use Rattle.gl_steps.proofs.NotRefused.{txn_lives}
use Rattle.gl_model.proofs.law.Tests.{raised_intends}

-- what an escalation requests, by whether some child is held to write
abbrev asked_if : Bool → Mode
asked_if b = if b then X else S

-- the raised mode reads
raised_reads : (a : Mode) (b : Bool) → is_at_least (supremum a (asked_if b)) S ≡ true
raised_reads a true = every-true (λ x. is_at_least (supremum x X) S) refl a
raised_reads a false = every-true (λ x. is_at_least (supremum x S) S) refl a

-- the requested mode suits each node but a record
suits : (b rec : Bool) → rec ≡ false → where_true
    (same_mode (asked_if b) NL || (rec && not (same_mode (asked_if b) S || same_mode (asked_if b) X))) no.BadMode ≡ None
suits b rec h = ap (λ r. where_true (same_mode (asked_if b) NL || (r && not (same_mode (asked_if b) S || same_mode (asked_if b) X))) no.BadMode) h ∙ by b
  where
    by : (b : Bool) → where_true (same_mode (asked_if b) NL || false) no.BadMode ≡ None
    by true = refl
    by false = refl

-- a member is granted at once if its mode fits
member_enters : (a b c : Bool) → b ≡ true → (a && (b || c)) ≡ a
member_enters true b c h = or_left b c h
member_enters false b c h = refl

-- what refuses the request refuses the escalation
pub asks_err : (s : State) (t : TxnId) (n : NodeId) (r : Refusal) → Err r ≡ verdict (first_refusal (worn s ∷ escalate_asks s t n))
    → CallSteps s (command.Escalate t n) rose (Err r) s
asks_err s t n r h = refused_step rose (command.Escalate t n) s r
    (refused_first (worn s ∷ escalate_asks s t n) (escalation_blocks s t.slot n ∷ []) r (test_refused _ r h))

module _ (s : State) (t : TxnId) (n : NodeId) (passed : first_refusal (worn s ∷ escalate_asks s t n) ≡ None) where
  abbrev writes : Bool
  writes = list_any (λ c. is_child s.graph n c && is_write (s.held t.slot c)) (nodes s.graph)

  abbrev m : Mode
  m = asked_by_escalation s t.slot n

  alive : lives s t ≡ true
  alive = txn_lives s t (not_refused (no_txn s t) _ (not_refused (worn s) _ passed).1).0

  pub is_active : status_of s t.slot ≡ Some Active
  is_active = (active_after s t n (worn s) _ passed).0

  node_tests : (is_record_shape (shape_of s.graph n) ≡ false) × (holds (members s n) t.slot ≡ true)
  node_tests =
      let a = not_refused (where_true (is_record_shape (shape_of s.graph n)) no.BadParents) _ (active_after s t n (worn s) _ passed).2 in
      let b = not_refused (not_held s t.slot n) [] a.1 in
      (test_fails _ _ a.0, not_false _ (test_fails _ _ b.0))

  -- what the table says of the children gives the requested mode
  pub asked_is : (b : Bool) → b ≡ (lives s t && writes) → asked_if b ≡ m
  asked_is b e = ap asked_if (e ∙ ap (λ l. l && writes) alive)

  module _ (law : IsLawful s) where
    -- the raised mode meets the rule of the graph as the old one did
    no_parents_needed : need_parents s t.slot n (wanted s t.slot n m) ≡ None
    no_parents_needed = ap (λ b. if b then None
        else (if is_write (wanted s t.slot n m) then first_not_ix (s.held t.slot) (parents_of s.graph n) else first_of_all (parents_of s.graph n)))
        (raised_intends s law t.slot n node_tests.1)

    -- a try of the requested mode is refused exactly as the escalation is
    tried_alike : first_refusal (try_tests s t n m) ≡ refusal_of s (command.Escalate t n)
    tried_alike =
        passed_then (active_on s t (n ∷ [])) (bad_mode s n m ∷ need_parents s t.slot n (wanted s t.slot n m) ∷ would_block s t.slot n m ∷ [])
        (passes_first (active_on s t (n ∷ [])) _ (not_refused (worn s) _ passed).1)
        ∙ ap (λ o. first_refusal (o ∷ need_parents s t.slot n (wanted s t.slot n m) ∷ would_block s t.slot n m ∷ []))
        (suits writes (is_record_shape (shape_of s.graph n)) node_tests.0)
        ∙ ap (λ o. first_refusal (o ∷ would_block s t.slot n m ∷ [])) no_parents_needed
        ∙ ap (λ b. first_refusal (where_true (not b) no.WouldBlock ∷ []))
        (member_enters (fits s.most (members s n) t.slot (wanted s t.slot n m)) (holds (members s n) t.slot) (is_empty (s.queue n)) node_tests.1)
        ∙ sym (passed_then (worn s ∷ escalate_asks s t n) (escalation_blocks s t.slot n ∷ []) passed)

    -- and never for lack of memory
    pub tried_err : (asked : Mode) → asked ≡ m → (r : Refusal) → Refuses {T = Mode} (first_refusal (try_tests s t n asked)) (Err r)
        → (first_refusal (try_tests s t n asked) ≡ None → holds (members s n) t.slot ≡ true → IsOk {T = Mode} (Err r))
        → CallSteps s (command.Escalate t n) rose (Err r) s
    tried_err asked is r refuses held = by (first_refusal (try_tests s t n asked)) refl refuses
      where
        alike : first_refusal (try_tests s t n asked) ≡ refusal_of s (command.Escalate t n)
        alike = ap (λ x. first_refusal (try_tests s t n x)) is ∙ tried_alike

        by : (o : Option Refusal) → first_refusal (try_tests s t n asked) ≡ o → Refuses {T = Mode} o (Err r) → CallSteps s (command.Escalate t n) rose (Err r) s
        by None e h = absurd (no (held e node_tests.1))
        by (Some x) e h = refused_step rose (command.Escalate t n) s r (sym alike ∙ e ∙ cc)

-- the try was granted
module _ (k : ℕ) (s : State) (t : TxnId) (n : NodeId) (passed : first_refusal (worn (counting k s) ∷ escalate_asks (counting k s) t n) ≡ None)
    (asked : Mode) (is : asked ≡ asked_by_escalation s t.slot n) (s' : State)
    (grants : s' ≡ granted s t.slot n asked) where
  up : s' ≡ raised s t.slot n
  up = grants ∙ ap (granted s t.slot n) is

  held_raised : (raised s t.slot n).held t.slot n ≡ wanted s t.slot n (asked_by_escalation s t.slot n)
  held_raised = ap (λ b. if b then wanted s t.slot n (asked_by_escalation s t.slot n) else s.held t.slot n)
      (both _ _ (number_same t.slot t.slot refl) (same_node-refl n))

  -- so the children may be shed
  pub raised_acting : IsActing s' t
  raised_acting =
      record {
        lives = ap (λ x. lives x t) up ∙ alive (counting k s) t n passed;
        active = ap (λ x. status_of x t.slot) up ∙ is_active (counting k s) t n passed;
      }

  pub reads : is_at_least (s'.held t.slot n) S ≡ true
  reads = ap (λ x. is_at_least (x.held t.slot n) S) up ∙ ap (λ a. is_at_least a S) held_raised
      ∙ raised_reads (s.held t.slot n) (writes (counting k s) t n passed)

  -- and then the command was accepted; others are told of the shedding alone, since a lock that is raised wakes nobody
  pub shed_step : IsLawful (counting k s) → (mode : Mode) → mode ≡ wanted s t.slot n asked → Refuses (first_refusal (try_tests s t n asked)) (Ok mode)
      → (released kept : ℕ) (notices : Notices) (s'' : State) → s'' ≡ shed s' t.slot n → released ≡ covered_children s' t.slot n
      → kept ≡ held_children s' t.slot n - covered_children s' t.slot n → notices.items ≡ told s' s''
      → CallSteps (counting k s) (command.Escalate t n) rose (Ok (record { mode = mode; released = released; kept = kept }, notices)) (counting (k + 1) s'')
  shed_step law mode mode_is goes released kept notices s'' sheds released_is kept_is told_is =
      accepted_step rose (command.Escalate t n) (counting k s) (record { mode = mode; released = released; kept = kept }, notices) (counting k s'')
      (counting (k + 1) s'')
      (sym (ap (λ x. first_refusal (try_tests s t n x)) is ∙ tried_alike (counting k s) t n passed law)
      ∙ goes_on (first_refusal (try_tests s t n asked)) goes) refl
      (ap answer.Escalated says, told_is ∙ ap (λ x. told x s'') up, ap (counting k) (sheds ∙ ap (λ x. shed x t.slot n) up)) refl
    where
      goes_on : (o : Option Refusal) → Refuses o (Ok mode) → o ≡ None
      goes_on None h = refl
      goes_on (Some r) h = absurd (cc)

      says : ◌≡◌ {A = Escalated} (record { mode = mode; released = released; kept = kept })
          (record {
            mode = (raised s t.slot n).held t.slot n;
            released = covered_children (raised s t.slot n) t.slot n;
            kept =
                held_children (raised s t.slot n) t.slot n - covered_children (raised s t.slot n) t.slot n;
          })
      says = λ i. record {
        mode = (mode_is ∙ ap (wanted s t.slot n) is ∙ sym held_raised) i;
        released = (released_is ∙ ap (λ x. covered_children x t.slot n) up) i;
        kept = (kept_is ∙ ap (λ x. held_children x t.slot n - covered_children x t.slot n) up) i;
      }
