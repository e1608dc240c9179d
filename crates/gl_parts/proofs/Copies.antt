-- What a transaction has in a part is copied to the main manager without a wait.
use Rattle.std.specs.Prelude.{◌≡◌, ◌≢◌, ◌⊎◌, ℕ, Bool, true, false, not, ◌&&◌, ◌||◌, ◌==◌, if◌then◌else◌, nat_lt, List, [], ◌∷◌, Option, Some, None}
use Rattle.std.specs.Prelude.{is_some, map}
use Rattle.std.specs.List.{list_all, list_any}
use Rattle.std.proofs.Common.{arith, refl, sym, ap, ap₂, subst, ◌∙◌, inl, inr, ⊎_elim}
use Rattle.std.proofs.lemmas.Bool.Decides.{nat_tests}
use Rattle.gl_modes.specs.declared.mode.Mode.{Mode}
use Rattle.gl_modes.specs.declared.mode.Mode.TheVariants.{NL, IS, IX, S, X}
use Rattle.gl_modes.specs.declared.node.NodeId.{NodeId}
use Rattle.gl_modes.specs.declared.refusal.Refusal.{Refusal}
use Rattle.gl_modes.specs.declared.refusal.Refusal.TheVariants as no
use Rattle.gl_modes.specs.Modes.{is_at_least, same_mode, supremum}
use Rattle.gl_modes.proofs.ModeLemmas.{at_least-transitive, not_NL, supremum-above_right}
use Rattle.gl_modes.specs.Nodes.{same_node}
use Rattle.gl_modes.proofs.NodeLemmas.{same_node-refl}
use Rattle.gl_modes.proofs.Words.{no as never, and_both, both, clash, not_true, number_same, or_elim, or_left, or_right, split}
use Rattle.gl_graph.specs.Graph.{Graph, is_live, parents_of, shape_of}
use Rattle.gl_graph.specs.Refusals.{first_refusal, max_count, some_no_node, where_true}
use Rattle.gl_graph.specs.Shapes.{is_record_shape}
use Rattle.gl_graph.proofs.Unrefused.{not_false}
use Rattle.gl_header.specs.Header.{Waiter, front, is_waiter}
use Rattle.gl_header.proofs.Fits.{fits-from_all}
use Rattle.gl_model.specs.declared.txn.TxnId.{TxnId}
use Rattle.gl_model.specs.declared.txn.Status.TheVariants.{Active}
use Rattle.gl_model.specs.Calls.{IsActing, accepted_once, bad_mode, condemned_test, enters_at, granted, joined, joining_age, lock_tests, need_parents}
use Rattle.gl_model.specs.Calls.{no_txn, taken_slot, waiting_test, wanted}
use Rattle.gl_model.specs.Lawful.{IsLawful}
use Rattle.gl_model.specs.State.{State, intends, intends_over, is_write, members, no_parents, status_of}
use Rattle.gl_model.specs.Tellings.{Told}
use Rattle.gl_model.proofs.queues.Waiters.{if-true, no_cons}
use Rattle.gl_steps.specs.declared.command.Answer.{Answer}
use Rattle.gl_steps.specs.declared.command.Answer.TheVariants as answer
use Rattle.gl_steps.specs.declared.command.Command.TheVariants as command
use Rattle.gl_steps.specs.Promises.{names}
use Rattle.gl_steps.specs.Step.{Goes, Step, Unchanged, lock_answer}
use Rattle.gl_steps.specs.Tests.{may_lack_memory}
use Rattle.gl_parts.specs.Whole.{HasParentsOf, Part, held_at, held_by_name, is_intention}
use Rattle.gl_parts.specs.Leading.{covers, has_more}
use Rattle.gl_parts.specs.Actions.{requests, requests_at, txn_at}
use Rattle.gl_parts.specs.Promises.{CopiesAreGranted, GrantsAtOnce, VisitorsJoin, VisitsNeverWait}
use Rattle.gl_parts.proofs.Actions.{intention_enters}
use Rattle.gl_parts.proofs.Falls.{names_itself, there_active}
use Rattle.gl_parts.proofs.Grants.{all_named, any_named, heads, intends_reading, intends_writing, intentions_fit, named, neither, reading_intends, root_named}
use Rattle.gl_parts.proofs.Grants.{supremum_has, writes_holds, writing_intends}
use Rattle.gl_parts.proofs.Leading.{more_by}
use Rattle.gl_parts.proofs.Lists.{each_all}
use Rattle.gl_parts.proofs.Plain.{part_agrees, part_lawful, part_marked, part_obeys, plain_main_steps}

-- Nobody waits where nobody has more than an intention.

-- nobody has or wants more than an intention on k
record IsQuiet (s : State) (k : NodeId) : Type 0 where
  pub held : (t : ℕ) → is_intention (s.held t k) ≡ true
  pub wants : (t : ℕ) → list_any (λ w. is_waiter t w && not (is_intention w.1)) (s.queue k) ≡ false

-- the first waiter would be granted
quiet_idle : (s : State) → IsLawful s → (k : NodeId) → IsQuiet s k → s.queue k ≡ []
quiet_idle s law k quiet = by (s.queue k) refl
  where
    by : (q : List Waiter) → s.queue k ≡ q → s.queue k ≡ []
    by [] e = e
    by (w ∷ q) e =
        let wants = (neither _ _ (sym (ap (list_any (λ x. is_waiter w.0 x && not (is_intention x.1))) e) ∙ quiet.wants w.0)).0 in
        let small : is_intention w.1 ≡ true = split (is_intention w.1) (λ i. i) (λ i. clash (ap₂ (λ a b. a && not b) (itself w.0) i) wants) in
        let fit = fits-from_all s.most (members s k) w.0 w.1 (λ u ne. intentions_fit w.1 (s.held u k) small (quiet.held u)) in
        no_cons (sym (ap (front s.most (members s k)) e ∙ if-true [] fit) ∙ law.front_waits k)
      where
        itself : (a : ℕ) → (a == a) ≡ true
        itself a = number_same a a refl

-- The rule of the graph.

-- a node and its parents, by the names that they have in a manager
all_by_name : (held : NodeId → Mode) (name : NodeId → Option NodeId) (f : Mode → Bool) (ms ns : List NodeId) → map (λ q. Some q) ms ≡ map name ns
    → list_all (λ q. f (held_by_name held (name q))) ns ≡ true
    → list_all (λ q. f (held q)) ms ≡ true
all_by_name held name f [] ns e h = refl
all_by_name held name f (m ∷ ms) [] e h = cc
all_by_name held name f (m ∷ ms) (n ∷ ns) e h =
    let es = heads e in
    let it = and_both (f (held_by_name held (name n))) (list_all (λ q. f (held_by_name held (name q))) ns) h in
    both _ _ (ap (λ o. f (held_by_name held o)) es.0 ∙ it.0) (all_by_name held name f ms ns es.1 it.1)

any_by_name : (held : NodeId → Mode) (name : NodeId → Option NodeId) (f : Mode → Bool) (ms ns : List NodeId) → map (λ q. Some q) ms ≡ map name ns
    → list_any (λ q. f (held_by_name held (name q))) ns ≡ true
    → list_any (λ q. f (held q)) ms ≡ true
any_by_name held name f [] [] e h = h
any_by_name held name f [] (n ∷ ns) e h = cc
any_by_name held name f (m ∷ ms) [] e h = cc
any_by_name held name f (m ∷ ms) (n ∷ ns) e h =
    let es = heads e in
    or_elim _ _ h (λ here. or_left _ _ (ap (λ o. f (held_by_name held o)) es.0 ∙ here))
    (λ later. or_right (f (held m)) _ (any_by_name held name f ms ns es.1 later))

no_parents_by_name : (name : NodeId → Option NodeId) (ms ns : List NodeId) → map (λ q. Some q) ms ≡ map name ns → no_parents ns ≡ true → no_parents ms ≡ true
no_parents_by_name name [] ns e h = refl
no_parents_by_name name (m ∷ ms) [] e h = cc
no_parents_by_name name (m ∷ ms) (n ∷ ns) e h = h

all_covered : (main p : Part) (t : ℕ) (m : Mode) (ns : List NodeId) → list_all (covers main p t) ns ≡ true
    → list_all (λ q. is_at_least (held_at p t q) m) ns ≡ true
    → list_all (λ q. is_at_least (held_at main t q) m) ns ≡ true
all_covered main p t m [] over h = refl
all_covered main p t m (n ∷ ns) over h =
    let it = and_both _ _ h in
    let up = and_both _ _ over in
    both _ _ (at_least-transitive (held_at main t n) (held_at p t n) m up.0 it.0) (all_covered main p t m ns up.1 it.1)

any_covered : (main p : Part) (t : ℕ) (m : Mode) (ns : List NodeId) → list_all (covers main p t) ns ≡ true
    → list_any (λ q. is_at_least (held_at p t q) m) ns ≡ true
    → list_any (λ q. is_at_least (held_at main t q) m) ns ≡ true
any_covered main p t m [] over h = h
any_covered main p t m (n ∷ ns) over h =
    let up = and_both _ _ over in
    or_elim _ _ h (λ here. or_left _ _ (at_least-transitive (held_at main t n) (held_at p t n) m up.0 here))
    (λ later. or_right (is_at_least (held_at main t n) m) _ (any_covered main p t m ns up.1 later))

-- the rule is met by a supremum if it is met by both, the first one if it is to write
rule_both : (held : NodeId → Mode) (ps : List NodeId) (a b : Mode) → (is_write a ≡ true → intends_over held ps a ≡ true) → intends_over held ps b ≡ true
    → intends_over held ps (supremum a b) ≡ true
rule_both held ps a b h k =
    split (is_write a)
    (λ w. intends_writing held ps (supremum a b) (writes ∙ or_left _ _ w) (writing_intends held ps a w (h w)))
    (λ r. split (is_write b)
    (λ w. intends_writing held ps (supremum a b) (writes ∙ or_right (is_write a) _ w) (writing_intends held ps b w k))
    (λ r'. intends_reading held ps (supremum a b) (writes ∙ ap₂ (λ x y. x || y) r r') (reading_intends held ps b r' k)))
  where
    writes : is_write (supremum a b) ≡ (is_write a || is_write b)
    writes = supremum_has IX (λ e. cc) a b

-- what meets the rule in a part meets it in the main manager, with what the part has on the parents
module _ (g : Graph) (main p : Part) (pm : HasParentsOf g main) (pp : HasParentsOf g p) (t : ℕ) (n k j : NodeId) (at : main.name n ≡ Some k)
    (there : p.name n ≡ Some j) (over : list_all (covers main p t) (parents_of g n) ≡ true) where
  rule_copied : (m : Mode) → intends p.state t j m ≡ true → intends main.state t k m ≡ true
  rule_copied m h =
      split (is_write m)
      (λ w. intends_writing (main.state.held t) (parents_of main.state.graph k) m w
      (all_by_name (main.state.held t) main.name (λ x. is_at_least x IX) (parents_of main.state.graph k) (parents_of g n) (pm n k at)
      (all_covered main p t IX (parents_of g n) over
      (all_named (p.state.held t) p.name (λ x. is_at_least x IX) (λ x. is_at_least x IX) (held_at p t) (λ q e. e) (parents_of p.state.graph j) (parents_of g n)
      (pp n j there) (writing_intends (p.state.held t) (parents_of p.state.graph j) m w h)))))
      (λ r. intends_reading (main.state.held t) (parents_of main.state.graph k) m r
      (or_elim _ _ (reading_intends (p.state.held t) (parents_of p.state.graph j) m r h)
      (λ root. or_left _ _ (no_parents_by_name main.name (parents_of main.state.graph k) (parents_of g n) (pm n k at)
      (root_named p.name (parents_of p.state.graph j) (parents_of g n) (pp n j there) root)))
      (λ some. or_right (no_parents (parents_of main.state.graph k)) _
      (any_by_name (main.state.held t) main.name (λ x. is_at_least x IS) (parents_of main.state.graph k) (parents_of g n) (pm n k at)
      (any_covered main p t IS (parents_of g n) over
      (any_named (p.state.held t) p.name (λ x. is_at_least x IS) (λ x. is_at_least x IS) (held_at p t) (λ q e. e) (parents_of p.state.graph j)
      (parents_of g n) (pp n j there) some))))))

-- The step.

-- the tests of a lock that can only be refused for the count of accepted commands
lock_passes : (s : State) (t : TxnId) (k : NodeId) (m : Mode) → IsActing s t → is_live s.graph k ≡ true → m ≢ NL
    → is_record_shape (shape_of s.graph k) ≡ false → intends s t.slot k (wanted s t.slot k m) ≡ true
    → first_refusal (lock_tests s t k m) ≡ None
lock_passes s t k m acting live some inner rule =
    one (no_txn s t) _ (ap (λ b. where_true (not b) no.NoSuchTxn) acting.lives)
    (one (waiting_test (status_of s t.slot)) _ (ap waiting_test acting.active)
    (one (condemned_test (status_of s t.slot)) _ (ap condemned_test acting.active)
    (one (some_no_node s.graph (k ∷ [])) _ (ap (λ b. where_true (not (b && true)) no.NoSuchNode) live)
    (one (bad_mode s k m) _ (ap₂ (λ a b. where_true (a || (b && not (same_mode m S || same_mode m X))) no.BadMode) (not_NL m some) inner)
    (one (need_parents s t.slot k (wanted s t.slot k m)) [] (if-true _ rule) refl)))))
  where
    one : (x : Option Refusal) (xs : List (Option Refusal)) → x ≡ None → first_refusal xs ≡ None → first_refusal (x ∷ xs) ≡ None
    one x xs e h = ap (λ o. first_refusal (o ∷ xs)) e ∙ h

granted_now : (s : State) (t : TxnId) (k : NodeId) (m : Mode) → IsActing s t → first_refusal (lock_tests s t k m) ≡ None → enters_at s t.slot k m ≡ true
    → (a : Answer) (told : Told) (s' : State) → Step s (command.Lock t k m) a told s'
    → GrantsAtOnce s t k m a s'
granted_now s t k m acting free enters a told s' step =
    ⊎_elim (by (s.accepted == max_count))
    (λ (lack : (may_lack_memory s (command.Lock t k m) ≡ true) × Unchanged s a told s' (answer.Refused no.NoMemory)).
    inr (inl lack.1.answer_is, lack.1.same)) step
  where
    held_now : (granted s t.slot k m).held t.slot k ≡ wanted s t.slot k m
    held_now = if-true (s.held t.slot k) (both _ _ (number_same t.slot t.slot refl) (same_node-refl k))

    ended : Goes s (command.Lock t k m) None a told s' → GrantsAtOnce s t k m a s'
    ended (next, acc, is) =
        let now = acc.0.at_once enters in
        inl (
          acc.1 ∙ ap (λ (z : State). lock_answer (z.held t.slot k) (status_of z t.slot)) now ∙ ap₂ lock_answer held_now acting.active,
          is ∙ ap accepted_once now,
        )

    by : (b : Bool) → Goes s (command.Lock t k m) (first_refusal (where_true b no.WornOut ∷ lock_tests s t k m)) a told s' → GrantsAtOnce s t k m a s'
    by true goes = inr (inr goes.answer_is, goes.same)
    by false goes = ended (subst (λ o. Goes s (command.Lock t k m) o a told s') free goes)

pub copies_are_granted : CopiesAreGranted
copies_are_granted w before after f u n k work is unmarked some at inner acting rule =
    granted_now s u k m acting passes (intention_enters s u.slot k m quiet.held (quiet_idle s law k quiet) small)
  where
    s : State
    s = w.main.state

    m : Mode
    m = held_at f.part u.slot n

    law : IsLawful s
    law = work.lawful.0

    small : is_intention m ≡ true
    small = (part_obeys w before after f work is n (ap is_some at)).intentions u.slot

    there : (j : NodeId) × (f.part.name n ≡ Some j)
    there = named f.part u.slot n (ap not (not_NL m some))

    little : (t : ℕ) → has_more w.main t n ≡ false
    little t = not_true _ (λ more. clash (part_marked w before after f work is n t more (ap is_some there.1)) unmarked)

    wants : ℕ → Bool
    wants t = list_any (λ w. is_waiter t w && not (is_intention w.1)) (s.queue k)

    quiet : IsQuiet s k
    quiet = record {
      held = λ t. not_false (is_intention (s.held t k)) (neither (not (is_intention (s.held t k))) (wants t) (sym (ap (more_by w.main t) at) ∙ little t)).0;
      wants = λ t. (neither (not (is_intention (s.held t k))) (wants t) (sym (ap (more_by w.main t) at) ∙ little t)).1;
    }

    passes : first_refusal (lock_tests s u k m) ≡ None
    passes =
        lock_passes s u k m acting (work.agree.0.living n k at) some inner
        (rule_both (s.held u.slot) (parents_of s.graph k) (s.held u.slot k) m
        (λ write. law.grants_intend u.slot k (writes_holds (s.held u.slot k) write)) rule)

-- a lock of an intention requests nothing more
asks_intention : (main : Part) (u : TxnId) (k : NodeId) (m : Mode) → is_intention m ≡ true → (t : ℕ) (n : NodeId)
    → is_intention (requests_at main (command.Lock u k m) t n) ≡ true
asks_intention main u k m small t n = by (main.name n)
  where
    either : (b : Bool) → is_intention (if b then m else NL) ≡ true
    either true = small
    either false = refl

    by : (o : Option NodeId) → is_intention (held_by_name (requests main.state (command.Lock u k m) t) o) ≡ true
    by None = refl
    by (Some q) = either ((t == u.slot) && same_node q k)

same_graph : (s : State) (t : TxnId) (k : NodeId) (m : Mode) (a : Answer) (s' : State) → GrantsAtOnce s t k m a s' → s'.graph ≡ s.graph
same_graph s t k m a s' (inl now) = ap (λ (x : State). x.graph) now.1
same_graph s t k m a s' (inr not_now) = ap (λ (x : State). x.graph) not_now.1

granted_covers : (s : State) (t : TxnId) (k : NodeId) (m : Mode) (a : Answer) (s' : State) → GrantsAtOnce s t k m a s' → (x : Mode) → a ≡ answer.Granted x
    → is_at_least (s'.held t.slot k) m ≡ true
granted_covers s t k m a s' (inl now) x e =
    ap (λ (z : State). is_at_least (z.held t.slot k) m) now.1
    ∙ ap (λ y. is_at_least y m) (if-true (s.held t.slot k) (both _ _ (number_same t.slot t.slot refl) (same_node-refl k)))
    ∙ supremum-above_right (s.held t.slot k) m
granted_covers s t k m a s' (inr (inl lacks, same)) x e = cc
granted_covers s t k m a s' (inr (inr is_worn, same)) x e = cc

pub visits_never_wait : VisitsNeverWait
visits_never_wait w before after f t n k work is can there unmarked ahead at inner over a told s' step = record {
  at_once = now;
  action = plain_main_steps w (command.Lock (txn_at w.main t) k m) (record w.main { state = s' }) work
      (record { answer = a; told = told; step = step }) (same_graph w.main.state (txn_at w.main t) k m a s' now) (λ q. refl)
      (each_all _ (λ f' q here u more. clash (asks_intention w.main (txn_at w.main t) k m small u q) more) w.followers)
      (each_all _ (λ f' q u here marked lowers. absurd (no_release (names (txn_at w.main u) (command.Lock (txn_at w.main t) k m)) lowers)) w.followers);
  copied = λ x e. ap (λ o. is_at_least (held_by_name (s'.held t) o) m) at ∙ granted_covers w.main.state (txn_at w.main t) k m a s' now x e;
}
  where
    m : Mode
    m = held_at f.part t n

    small : is_intention m ≡ true
    small = (part_obeys w before after f work is n (ap is_some at)).intentions t

    no_release : (b : Bool) → (b && false) ≡ true → ⊥
    no_release true h = never h
    no_release false h = never h

    acts : status_of w.main.state t ≡ Some Active
    acts = there_active (w.main.state.txns t) there (can n t (ap is_some at) ahead)

    some : m ≢ NL
    some none = clash (ap (is_at_least (held_at w.main t n)) none) ahead

    here : (j : NodeId) × (f.part.name n ≡ Some j)
    here = named f.part t n (ap not (not_NL m some))

    held_here : m ≡ f.part.state.held t here.0
    held_here = ap (held_by_name (f.part.state.held t)) here.1

    rule_here : intends f.part.state t here.0 m ≡ true
    rule_here =
        subst (λ x. intends f.part.state t here.0 x ≡ true) (sym held_here)
        ((part_lawful w before after f work is).grants_intend t here.0 (sym (ap (λ x. not (same_mode x NL)) held_here) ∙ ap not (not_NL m some)))

    rule : intends w.main.state t k m ≡ true
    rule =
        rule_copied w.graph w.main f.part work.agree.0.parents (part_agrees w before after f work is).parents t n k here.0 at here.1 over m rule_here

    now : GrantsAtOnce w.main.state (txn_at w.main t) k m a s'
    now =
        copies_are_granted w before after f (txn_at w.main t) n k work is unmarked some at inner
        (record { lives = names_itself w.main.state t there; active = acts }) rule a told s' step

-- A visitor joins.

pub visitors_join : VisitorsJoin
visitors_join w t since work free low a told s' step = record {
  outcome = now;
  action = plain_main_steps w (command.Join t since) (record w.main { state = s' }) work (record { answer = a; told = told; step = step }) (same now)
      (λ q. refl)
      (each_all _ (λ f q here u more. clash (asks_nothing u (w.main.name q)) more) w.followers)
      (each_all _ (λ f q u here marked lowers. absurd (never lowers)) w.followers);
}
  where
    s : State
    s = w.main.state

    Outcome : Type 0
    Outcome = (s' ≡ accepted_once (joined s t since)) ⊎ ((a ≡ answer.Refused no.WornOut) × (s' ≡ s))

    asks_nothing : (u : ℕ) (o : Option NodeId) → is_intention (held_by_name (λ q. NL) o) ≡ true
    asks_nothing u None = refl
    asks_nothing u (Some q) = refl

    untaken : taken_slot s t ≡ None
    untaken = let below : nat_lt t s.most ≡ true = grind (arith, nat_tests) in ap (λ b. where_true (not b) no.TooManyTxns) (both _ _ below free)

    by : (b c : Bool)
        → Goes s (command.Join t since) (first_refusal (where_true b no.WornOut ∷ where_true c no.WornOut ∷ taken_slot s t ∷ [])) a told s'
        → Outcome
    by true c goes = inr (goes.answer_is, goes.same)
    by false true goes = inr (goes.answer_is, goes.same)
    by false false goes = ended (subst (λ o. Goes s (command.Join t since) (first_refusal (o ∷ [])) a told s') untaken goes)
      where
        ended : Goes s (command.Join t since) None a told s' → Outcome
        ended (next, acc, is) = inl (is ∙ ap accepted_once acc.2)

    now : Outcome
    now =
        ⊎_elim (by (s.accepted == max_count) (nat_lt max_count (joining_age s since)))
        (λ (lack : (may_lack_memory s (command.Join t since) ≡ true) × Unchanged s a told s' (answer.Refused no.NoMemory)). absurd (never lack.0)) step

    same : Outcome → s'.graph ≡ s.graph
    same (inl is) = ap (λ (x : State). x.graph) is
    same (inr is) = ap (λ (x : State). x.graph) is.1
