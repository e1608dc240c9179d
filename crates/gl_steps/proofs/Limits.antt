-- The two refusals that are far from the empty state: by induction there is a run to a full graph, and one to a count that is worn out.
use Rattle.gl_steps.proofs.Words.{◌+◌, ◌++◌, ◌-◌, ◌<◌, ◌==◌, [], ◌∙◌, ◌∷◌, ◌≡◌, accepted_once, Answer, ap, ap₂, arith, AtBlock, Bool, Command, empty-lawful}
use Rattle.gl_steps.proofs.Words.{empty_state, false, first_refusal, Inner, IsLawful, List, nat_lt, nat_tests, no_txn, node_count, None, refl, refusal_of, Run}
use Rattle.gl_steps.proofs.Words.{Some, State, subst, suc, Told, true, TxnId, where_true, Youngest, zero, ℕ}
use Rattle.std.specs.Prelude.{replicate}
use Rattle.gl_modes.specs.declared.refusal.Refusal.TheVariants as no
use Rattle.gl_steps.specs.declared.command.Answer.TheVariants as answer
use Rattle.gl_steps.specs.declared.command.Command.TheVariants as command
use Rattle.gl_graph.specs.Refusals.{max_count}
use Rattle.gl_graph.proofs.Counts.{count_grown}
use Rattle.gl_steps.proofs.Made.{made}
use Rattle.gl_steps.proofs.Execute.{after, execute, new_node, Outcome, replies, tested}
use Rattle.gl_steps.proofs.ExecuteIsStep.{execute_runs, execute_steps}
use Rattle.gl_steps.proofs.StepsKeepLaw.{steps_keep_law}
use Rattle.gl_steps.proofs.RowWords.{answers, begins, commands, computed, done, Line, ref, refuses, Rows, txn}

abbrev t : TxnId
t = txn 0 1

-- one transaction lives, and so many commands were accepted
abbrev worn_at : ℕ → State
worn_at k = record (execute (empty_state AtBlock 1) command.Begin).2 { accepted = k }

abbrev settles : Line
settles = done (command.Settle t)

-- settling one that waits for nobody changes the count alone
one_more : (k : ℕ) → (k == max_count) ≡ false → execute (worn_at k) (command.Settle t) ≡ (answer.Done, [], worn_at (k + 1))
one_more k e =
    let F : Bool → Outcome = λ b. tested (worn_at k) (command.Settle t) (first_refusal (where_true b no.WornOut ∷ no_txn (worn_at k) t ∷ [])) in
    ap F e

worn_replies : (n k : ℕ) → k + n ≡ max_count
    → replies (worn_at k) (commands (replicate n settles ++ refuses command.Begin no.WornOut ∷ [])) ≡ answers
    (replicate n settles ++ refuses command.Begin no.WornOut ∷ [])
worn_replies zero k e =
    let full : k ≡ max_count = omega arith in
    let F : ℕ → List (Answer × Told) = λ x. replies (worn_at x) (command.Begin ∷ []) in
    ap F full ∙ refl
worn_replies (suc n) k e =
    let less : (k == max_count) ≡ false = grind (arith, nat_tests) in
    let rest = commands (replicate n settles ++ refuses command.Begin no.WornOut ∷ []) in
    let F : Outcome → List (Answer × Told) = λ o. (o.0, o.1) ∷ replies o.2 rest in
    ap F (one_more k less) ∙ ap (λ rs. (answer.Done, []) ∷ rs) (worn_replies n (k + 1) (omega arith))

row_worn_out : (n : ℕ) → n + 1 ≡ max_count → Rows AtBlock 1 (begins t ∷ replicate n settles ++ refuses command.Begin no.WornOut ∷ [])
row_worn_out n e = computed (ap (λ rs. (answer.Begun t, []) ∷ rs) (worn_replies n 1 (omega arith)))

-- a lawful state with so many nodes, births and accepted commands
record HasFilled (s : State) (k : ℕ) : Type 0 where
  law : IsLawful s
  accepted : s.accepted ≡ k
  births : s.graph.births ≡ k
  count : node_count s.graph ≡ k
  most : s.graph.most ≡ 65536

abbrev root : Command
root = command.Inner (ref [])

-- another root is refused for no reason but the number of nodes
root_tested : (s : State) (k : ℕ) → k < 65537 → HasFilled s k → refusal_of s root ≡ where_true (nat_lt 65536 (k + 1)) no.TooManyNodes
root_tested s k low at =
    let unworn : (s.accepted == max_count) ≡ false = let e = at.accepted in grind (arith, nat_tests) in
    let young : nat_lt (max_count - s.graph.most) s.graph.births ≡ false = let e = at.births in let m = at.most in grind (arith, nat_tests) in
    ap₂ (λ a b. first_refusal (where_true a no.WornOut
    ∷ first_refusal (where_true b no.WornOut ∷ None ∷ None ∷ where_true (nat_lt s.graph.most (node_count s.graph + 1)) no.TooManyNodes ∷ [])
    ∷ [])) unworn young
    ∙ ap₂ (λ m n. first_refusal (first_refusal (where_true (nat_lt m (n + 1)) no.TooManyNodes ∷ []) ∷ [])) at.most at.count
    ∙ same (nat_lt 65536 (k + 1))
  where
    same : (b : Bool) → first_refusal (first_refusal (where_true b no.TooManyNodes ∷ []) ∷ []) ≡ where_true b no.TooManyNodes
    same true = refl
    same false = refl

one_root : (s : State) (k : ℕ) → k < 65536 → HasFilled s k → HasFilled (execute s root).2 (k + 1)
one_root s k low at =
    let room : nat_lt 65536 (k + 1) ≡ false = grind (arith, nat_tests) in
    let free : refusal_of s root ≡ None = root_tested s k (omega arith) at ∙ ap (λ b. where_true b no.TooManyNodes) room in
    let is : (execute s root).2 ≡ accepted_once (made s (new_node s Inner [])) = ap (λ r. (tested s root r).2) free in
    let count : node_count (made s (new_node s Inner [])).graph ≡ node_count s.graph + 1 = count_grown s.graph at.law.graph (new_node s Inner [] ∷ []) in
    let accepted = at.accepted in let births = at.births in let old = at.count in
    record {
      law = steps_keep_law s (execute s root).2 root (execute s root).0 (execute s root).1 at.law (execute_steps s at.law root);
      accepted = ap (λ x. x.accepted) is ∙ ap (λ x. x + 1) accepted;
      births = ap (λ x. x.graph.births) is ∙ ap (λ x. x + 1) births;
      count = ap (λ x. node_count x.graph) is ∙ count ∙ ap (λ x. x + 1) old;
      most = ap (λ x. x.graph.most) is ∙ at.most;
    }

many_roots : (n k : ℕ) (s : State) → k + n ≡ 65536 → HasFilled s k → HasFilled (after s (replicate n root)) 65536
many_roots zero k s e at = let full : k ≡ 65536 = omega arith in subst (HasFilled s) full at
many_roots (suc n) k s e at = many_roots n (k + 1) (execute s root).2 (omega arith) (one_root s k (omega arith) at)

-- a run from the empty state to a graph in which another root is refused
record HasFullGraph : Type 0 where
  state : State
  before : List Command
  said : List (Answer × Told)
  run : Run (empty_state AtBlock 1) before said state
  refused : refusal_of state root ≡ Some no.TooManyNodes

row_too_many_nodes : (n : ℕ) → n ≡ 65536 → HasFullGraph
row_too_many_nodes n e =
    let start : State = empty_state AtBlock 1 in
    let full = many_roots n 0 start (omega arith)
    (record { law = empty-lawful AtBlock Youngest 1; accepted = refl; births = refl; count = refl; most = refl }) in
    record {
      state = after start (replicate n root);
      before = replicate n root;
      said = replies start (replicate n root);
      run = execute_runs (replicate n root) start (empty-lawful AtBlock Youngest 1);
      refused = root_tested (after start (replicate n root)) 65536 (omega arith) full;
    }
