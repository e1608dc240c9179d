-- Rows are let go one after the other: nodes are forgotten, and fewer rows have nodes.
use Rattle.std.specs.Prelude.{◌≡◌, ◌||◌, ◌++◌, Bool, true, false, not, List, [], ◌∷◌, Option, Some, None, Result, Ok, Err, cond, map, is_some}
use Rattle.std.specs.Prelude.{if◌then◌else◌}
use Rattle.std.specs.List.{list_any}
use Rattle.std.specs.Map.{lookup_key}
use Rattle.std.proofs.lemmas.List.Folds.{list_any-append}
use Rattle.std.proofs.lemmas.Map.Made.{lookup_key_passes}
use Rattle.std.proofs.Common.{refl, sym, ap, subst, ◌∙◌, inl, inr}
use Rattle.std.proofs.Math.Bool.{or-false}
use Rattle.gl_modes.proofs.NodeLemmas.{same_node-equal, same_node-refl}
use Rattle.gl_modes.proofs.Words.{clash, no as never, none_some, number_same, or_elim, or_left, or_right, some_is, split}
use Rattle.gl_modes.specs.Nodes.{same_node}
use Rattle.gl_modes.specs.declared.node.NodeId.{NodeId}
use Rattle.gl_modes.specs.declared.refusal.Refusal.{Refusal}
use Rattle.gl_modes.specs.declared.refusal.Refusal.TheVariants as no
use Rattle.gl_graph.specs.Changes.{without_node}
use Rattle.gl_graph.specs.Graph.{Graph, Node, is_live, node_at, shape_in, shape_of, with_key}
use Rattle.gl_graph.specs.Refusals.{first_refusal, where_true}
use Rattle.gl_graph.specs.Shapes.{Inner, Shape, is_record_shape, kind_in}
use Rattle.gl_graph.proofs.Removed.{was_live}
use Rattle.gl_graph.proofs.Unrefused.{not_refused}
use Rattle.gl_model.specs.Calls.{accepted_once, forget_tests, is_idle}
use Rattle.gl_model.specs.Lawful.{IsLawful}
use Rattle.gl_model.specs.State.{State, with_graph}
use Rattle.gl_model.proofs.law.Rows.{gone_is, left_was}
use Rattle.gl_steps.specs.declared.command.Answer.TheVariants as answer
use Rattle.gl_steps.specs.declared.command.Command.TheVariants as command
use Rattle.gl_steps.specs.Step.{Goes, Step}
use Rattle.gl_steps.specs.Tests.{refusal_of, worn}
use Rattle.gl_steps.proofs.RowKeeps.{may_forget}
use Rattle.gl_steps.proofs.StepsKeepLaw.{steps_keep_law}
use Rattle.gl_catalog.specs.Counters.{refuses}
use Rattle.gl_catalog.specs.Replies.{CallSteps, doing}
use Rattle.gl_rows.specs.Locking.{ForgetsLiving, LetsGo, LetsGoOf, Names, Renames, Runs, forgets}
use Rattle.gl_rows.specs.Names.{NamesHold}
use Rattle.gl_rows.specs.Releasing.{AreNodesOf, LetsEachGo, is_among, living}
use Rattle.gl_rows.specs.Rows.{RowsView, name_of, same_row}
use Rattle.gl_rows.specs.declared.row.Row.{Row}
use Rattle.gl_rows.proofs.Accepted.{accepted_of}
use Rattle.gl_rows.proofs.NameChanges.{ChangesNames, IsStill, names_fewer, record_live, still_back}
use Rattle.gl_rows.proofs.RowNames.{node_in, same_row-equal, same_row-refl, same_row-sym}

-- a row loses the node that was found, after it is forgotten
pub gone_at : (s s' : State) (ns ns' : Names) (row key : Row) (n : NodeId) → node_in ns row ≡ Some n
    → lookup_key (same_row row) ns ≡ Some key → ForgetsLiving s n (Ok tt) s'
    → Renames ns ns' key None → LetsGo s ns row (Ok tt) s' ns'
gone_at s s' ns ns' row key n named found forgotten out =
    subst (λ o. LetsGoOf o s ns row (Ok tt) s' ns') (sym named)
    (forgotten, subst (λ r. Renames ns ns' r None) (sym (same_row-equal row key (lookup_key_passes (same_row row) ns key found))) out)

-- a node lives if the graph has a kind for it
pub live_kind : (o : Option Node) → is_some (kind_in (shape_in o)) ≡ is_some o
live_kind None = refl
live_kind (Some x) = by x.shape
  where
    by : (shape : Shape) → is_some (kind_in (Some shape)) ≡ true
    by Inner = refl
    by shape = refl

-- the call that forgets
pub forgets_living : (s s' : State) (n : NodeId) (result : Result (Unit {0}) Refusal) → is_live s.graph n ≡ true
    → CallSteps s (command.Forget n) (doing []) result s' → ForgetsLiving s n result s'
forgets_living s s' n (Ok u) live step = inl (s', step, refl)
forgets_living s s' n (Err r) live step = ((s', step, refl), live)

-- One node is forgotten.

-- the node cannot be forgotten
abbrev pub Stuck : State → NodeId → Type 0
Stuck s n = is_some (refusal_of s (command.Forget n)) ≡ true

-- a refused forget changes nothing, and is refused by a test
refused_stuck : (s s' : State) (n : NodeId) (r : Refusal) → Step s (command.Forget n) (answer.Refused r) [] s' → (s' ≡ s) × Stuck s n
refused_stuck s s' n r (inr lack) = absurd (never lack.0)
refused_stuck s s' n r (inl goes) = by (refusal_of s (command.Forget n)) refl goes
  where
    by : (o : Option Refusal) → refusal_of s (command.Forget n) ≡ o → Goes s (command.Forget n) o (answer.Refused r) [] s' → (s' ≡ s) × Stuck s n
    by (Some x) e same = (same.same, ap is_some e)
    by None e goes = clash refl (ap refuses goes.1.0)

-- what a run that forgets these nodes leaves: a living node as it was, and one that could not be forgotten so
pub record Leaves (s s' : State) (gone : List NodeId) : Type 0 where
  pub law : IsLawful s'
  pub same : (n : NodeId) → is_live s'.graph n ≡ true → node_at s'.graph n ≡ node_at s.graph n
  pub lost : (n : NodeId) → is_live s.graph n ≡ true → is_live s'.graph n ≡ false → list_any (same_node n) gone ≡ true
  pub dead : (n : NodeId) → is_live s.graph n ≡ false → is_live s'.graph n ≡ false
  pub stuck : (n : NodeId) → is_live s.graph n ≡ true → Stuck s n → (is_live s'.graph n ≡ true) × Stuck s' n

module _ (s s' : State) (law : IsLawful s) (m : NodeId) (step : Step s (command.Forget m) answer.Done [] s') where
  free : refusal_of s (command.Forget m) ≡ None
  free = (accepted_of s (command.Forget m) answer.Done [] s' refl refl step).3

  is : s' ≡ accepted_once (with_graph s (without_node s.graph m))
  is = let acc = accepted_of s (command.Forget m) answer.Done [] s' refl refl step in acc.2 ∙ ap accepted_once acc.1.2

  rec : is_record_shape (shape_of s.graph m) ≡ true
  rec = (may_forget s m free).rec

  pub forgotten_dead : is_live s'.graph m ≡ false
  forgotten_dead = ap (λ (x : State). is_live x.graph m) is
      ∙ ap (λ b. is_some (with_key m.key (if b then None else s.graph.at m.birth))) (number_same m.birth m.birth refl)

  dead_stays : (n : NodeId) → is_live s.graph n ≡ false → is_live s'.graph n ≡ false
  dead_stays n dead = split (is_live s'.graph n)
      (λ live. absurd (clash (was_live s.graph law.graph m rec n (ap (λ (x : State). is_live x.graph n) (sym is) ∙ live)) dead))
      (λ e. e)

  abbrev tests_by : NodeId → Option Node → List (Option Refusal)
  tests_by n o = where_true (not (is_some o)) no.NoSuchNode ∷ where_true (not (is_record_shape (shape_in o))) no.BadParents
      ∷ where_true (not (is_idle s n)) no.RecordInUse ∷ []

  behind : (o : Option Refusal) (os : List (Option Refusal)) → is_some (first_refusal os) ≡ true → is_some (first_refusal (o ∷ os)) ≡ true
  behind None os h = h
  behind (Some r) os h = refl

  stuck_stays : (n : NodeId) → is_live s.graph n ≡ true → Stuck s n → (is_live s'.graph n ≡ true) × Stuck s' n
  stuck_stays n live stuck =
      let there : is_live (without_node s.graph m) n ≡ true = split (is_live (without_node s.graph m) n) (λ e. e)
      (λ dead. absurd (clash stuck (ap (λ x. is_some (refusal_of s (command.Forget x))) (gone_is s.graph law.graph m rec n live dead) ∙ ap is_some free))) in
      let counted : worn s ≡ None = (not_refused (worn s) (forget_tests s m) free).0 in
      let tests : is_some (first_refusal (tests_by n (node_at s.graph n))) ≡ true =
      ap (λ o. is_some (first_refusal (o ∷ forget_tests s n))) (sym counted) ∙ stuck in
      let after : is_some (first_refusal (tests_by n (node_at (without_node s.graph m) n))) ≡ true =
      ap (λ o. is_some (first_refusal (tests_by n o))) (left_was s.graph law.graph m rec n there) ∙ tests in (
        ap (λ (x : State). is_live x.graph n) is ∙ there,
        subst (λ (x : State). Stuck x n) (sym is) (behind (worn (accepted_once (with_graph s (without_node s.graph m)))) _ after),
      )

  pub forget_leaves : Leaves s s' (m ∷ [])
  forget_leaves = record {
    law = steps_keep_law s s' (command.Forget m) answer.Done [] law step;
    same = λ n live. ap (λ (x : State). node_at x.graph n) is ∙ left_was s.graph law.graph m rec n (ap (λ (x : State). is_live x.graph n) (sym is) ∙ live);
    lost = λ n live dead.
        let same : n ≡ m = gone_is s.graph law.graph m rec n live (ap (λ (x : State). is_live x.graph n) (sym is) ∙ dead) in
        or_left (same_node n m) false (ap (same_node n) (sym same) ∙ same_node-refl n);
    dead = dead_stays;
    stuck = stuck_stays;
  }

pub run_leaves : (s s' : State) → IsLawful s → (gone : List NodeId) → Runs s (map forgets gone) s' → Leaves s s' gone
run_leaves s s' law [] run = subst (λ (x : State). Leaves s x []) (sym run) (record {
  law = law;
  same = λ n live. refl;
  lost = λ n live dead. clash live dead;
  dead = λ n dead. dead;
  stuck = λ n live stuck. (live, stuck);
})
run_leaves s s' law (m ∷ gone) run =
    let first = forget_leaves s run.0 law m run.1 in
    let rest = run_leaves run.0 s' first.law gone run.2 in
    record {
      law = rest.law;
      same = λ n live. rest.same n live ∙ first.same n (ap is_some (sym (rest.same n live)) ∙ live);
      lost = λ n live dead.
          split (is_live run.0.graph n)
          (λ mid. or_right (same_node n m) (list_any (same_node n) gone) (rest.lost n mid dead))
          (λ mid. or_left (same_node n m) (list_any (same_node n) gone)
          (or_elim (same_node n m) false (first.lost n live mid) (λ e. e) (λ e. absurd (never e))));
      dead = λ n dead. rest.dead n (first.dead n dead);
      stuck = λ n live stuck. let mid = first.stuck n live stuck in rest.stuck n mid.0 mid.1;
    }

run_on : (s mid s' : State) (gone more : List NodeId) → Runs s (map forgets gone) mid → Runs mid (map forgets more) s' → Runs s (map forgets (gone ++ more)) s'
run_on s mid s' [] more run next = subst (λ (x : State). Runs x (map forgets more) s') run next
run_on s mid s' (n ∷ gone) more run next = (run.0, run.1, run_on run.0 mid s' gone more run.2 next)

-- Rows are let go.

-- a node after its row was let go: the row keeps it if it lives, and then it cannot be forgotten
record Settled (s : State) (was now : Option NodeId) : Type 0 where
  is : now ≡ living s.graph was
  stuck : (n : NodeId) → now ≡ Some n → Stuck s n

if_live : (g : Graph) (n : NodeId) (b : Bool) → is_live g n ≡ b → living g (Some n) ≡ (if b then Some n else None)
if_live g n b e = ap (λ x. if x then Some n else None) e

-- it stays so if others are let go
settled_stays : (s s' : State) (gone : List NodeId) → Leaves s s' gone → (was now : Option NodeId) → Settled s was now → Settled s' was now
settled_stays s s' gone leaves None now h = record { is = h.is; stuck = λ n e. absurd (none_some (sym h.is ∙ e)) }
settled_stays s s' gone leaves (Some n) now h = split (is_live s.graph n)
    (λ live.
    let still = h.is ∙ if_live s.graph n true live in
    let after = leaves.stuck n live (h.stuck n still) in
    record { is = still ∙ sym (if_live s'.graph n true after.0); stuck = λ k e. subst (Stuck s') (some_is (sym still ∙ e)) after.1 })
    (λ dead.
    let gone = h.is ∙ if_live s.graph n false dead in
    record { is = gone ∙ sym (if_live s'.graph n false (leaves.dead n dead)); stuck = λ k e. absurd (none_some (sym gone ∙ e)) })

living_some : (g : Graph) (o : Option NodeId) (n : NodeId) → living g o ≡ Some n → (o ≡ Some n) × (is_live g n ≡ true)
living_some g None n e = absurd (none_some e)
living_some g (Some k) n e = split (is_live g k)
    (λ live. let same : k ≡ n = some_is (sym (if_live g k true live) ∙ e) in (ap Some same, ap (is_live g) (sym same) ∙ live))
    (λ dead. absurd (none_some (sym (if_live g k false dead) ∙ e)))

-- one row is let go
module _ (s s' : State) (law : IsLawful s) (ns ns' : Names) (row : Row) where
  one : ((q : Row) → same_row row q ≡ false → node_in ns' q ≡ node_in ns q)
      → Settled s' (node_in ns row) (node_in ns' row) → (gone : List NodeId) → Runs s (map forgets gone) s'
      → AreNodesOf ns (row ∷ []) gone → LetsEachGo s ns (row ∷ []) s' ns'
  one others own gone run theirs = record {
    forgotten = (gone, run, theirs);
    names = λ q. split (same_row row q)
        (λ e. subst (λ (x : Row). node_in ns' x ≡ (if is_among (row ∷ []) x then living s'.graph (node_in ns x) else node_in ns x))
        (same_row-equal row q e) (own.is ∙ sym (ap (λ b. if b || false then living s'.graph (node_in ns row) else node_in ns row)
        (same_row-refl row))))
        (λ e. others q e ∙ sym (ap (λ b. if b || false then living s'.graph (node_in ns q) else node_in ns q) (same_row-sym q row ∙ e)));
    kept = λ q n among e. own.stuck n (ap (node_in ns') (sym (same_row-equal q row (sym (or-false (same_row q row)) ∙ among))) ∙ e);
  }

  -- it loses a node that does not live any more
  lost_one : (n : NodeId) → node_in ns row ≡ Some n → Renames ns ns' row None → is_live s'.graph n ≡ false → (gone : List NodeId)
      → Runs s (map forgets gone) s' → AreNodesOf ns (row ∷ []) gone → LetsEachGo s ns (row ∷ []) s' ns'
  lost_one n named renames dead =
      let none = renames row ∙ ap (λ b. cond b None (node_in ns row)) (same_row-refl row) in
      one (λ q apart. renames q ∙ ap (λ b. cond b None (node_in ns q)) apart)
      (record { is = none ∙ sym (ap (living s'.graph) named ∙ if_live s'.graph n false dead); stuck = λ k e. absurd (none_some (sym none ∙ e)) })

  pub one_goes : (result : Result (Unit {0}) Refusal) → LetsGo s ns row result s' ns' → LetsEachGo s ns (row ∷ []) s' ns'
  one_goes result h = by (node_in ns row) refl result h
    where
      -- it keeps what it has, and no node is forgotten
      keeps : s' ≡ s → ns' ≡ ns → Settled s (node_in ns row) (node_in ns row) → LetsEachGo s ns (row ∷ []) s' ns'
      keeps state names own = one (λ q apart. ap (λ xs. node_in xs q) names)
          (subst (λ x. Settled x (node_in ns row) (node_in ns' row)) (sym state)
          (subst (Settled s (node_in ns row)) (sym (ap (λ xs. node_in xs row) names)) own)) [] state tt

      by : (o : Option NodeId) → node_in ns row ≡ o → (result : Result (Unit {0}) Refusal) → LetsGoOf o s ns row result s' ns'
          → LetsEachGo s ns (row ∷ []) s' ns'
      by None e result h = keeps h.1 h.2 (record { is = e ∙ sym (ap (living s.graph) e); stuck = λ n f. absurd (none_some (sym e ∙ f)) })
      by (Some n) e (Ok u) (inr dead, renames) = lost_one n e renames (ap (λ (x : State). is_live x.graph n) dead.1 ∙ dead.0) [] dead.1 tt
      by (Some n) e (Ok u) (inl run, renames) =
          lost_one n e renames (ap (λ (x : State). is_live x.graph n) run.2 ∙ forgotten_dead s run.0 law n run.1) (n ∷ []) run
          ((row, ap (λ b. b || false) (same_row-refl row), e), tt)
      by (Some n) e (Err r) (refused, same) =
          let it = refused_stuck s refused.0.0 n r refused.0.1 in
          keeps (refused.0.2 ∙ it.0) same (record {
            is = e ∙ sym (ap (living s.graph) e ∙ if_live s.graph n true refused.1);
            stuck = λ k f. subst (Stuck s) (some_is (sym e ∙ f)) it.1;
          })

-- rows are let go, and then others
module _ (s₀ s s' : State) (law : IsLawful s) (ns₀ ns ns' : Names) (done more : List Row) (far : LetsEachGo s₀ ns₀ done s ns)
    (go : LetsEachGo s ns more s' ns') where
  leaves_more : Leaves s s' go.forgotten.0
  leaves_more = run_leaves s s' law go.forgotten.0 go.forgotten.1

  before : (q : Row) (a : Bool) → is_among done q ≡ a → node_in ns q ≡ (if a then living s.graph (node_in ns₀ q) else node_in ns₀ q)
  before q a e = far.names q ∙ ap (λ b. if b then living s.graph (node_in ns₀ q) else node_in ns₀ q) e

  after : (q : Row) (a : Bool) → is_among more q ≡ a → node_in ns' q ≡ (if a then living s'.graph (node_in ns q) else node_in ns q)
  after q a e = go.names q ∙ ap (λ b. if b then living s'.graph (node_in ns q) else node_in ns q) e

  abbrev Named : Row → Bool → Type 0
  Named q a = (node_in ns' q ≡ (if a then living s'.graph (node_in ns₀ q) else node_in ns₀ q))
      × ((n : NodeId) → a ≡ true → node_in ns' q ≡ Some n → Stuck s' n)

  -- a node that was dead stays so
  twice : (o : Option NodeId) → living s'.graph (living s.graph o) ≡ living s'.graph o
  twice None = refl
  twice (Some n) = split (is_live s.graph n) (λ live. ap (living s'.graph) (if_live s.graph n true live))
      (λ dead. ap (living s'.graph) (if_live s.graph n false dead) ∙ sym (if_live s'.graph n false (leaves_more.dead n dead)))

  named : (q : Row) (a b : Bool) → is_among done q ≡ a → is_among more q ≡ b → Named q (a || b)
  named q true true e f = (after q true f ∙ ap (living s'.graph) (before q true e) ∙ twice (node_in ns₀ q), λ n _. go.kept q n f)
  named q false true e f = (after q true f ∙ ap (living s'.graph) (before q false e), λ n _. go.kept q n f)
  named q true false e f =
      let on = settled_stays s s' go.forgotten.0 leaves_more (node_in ns₀ q) (node_in ns q)
      (record { is = before q true e; stuck = λ n. far.kept q n e }) in
      (after q false f ∙ on.is, λ n _ now. on.stuck n (sym (after q false f) ∙ now))
  named q false false e f = (after q false f ∙ before q false e, λ n h. absurd (never h))

  -- a row that was let go before keeps its node, if it still has one
  pub done_stays : (q : Row) → is_among done q ≡ true → node_in ns' q ≡ node_in ns q
  done_stays q e =
      let on = settled_stays s s' go.forgotten.0 leaves_more (node_in ns₀ q) (node_in ns q)
      (record { is = before q true e; stuck = λ n. far.kept q n e }) in
      split (is_among more q)
      (λ f. after q true f ∙ ap (living s'.graph) (before q true e) ∙ twice (node_in ns₀ q) ∙ sym on.is)
      (λ f. after q false f)

  among_more : (q : Row) → is_among (done ++ more) q ≡ (is_among done q || is_among more q)
  among_more q = list_any-append (same_row q) done more

  -- a row that is let go later had its node at first
  origin : (q : Row) (n : NodeId) → node_in ns q ≡ Some n → node_in ns₀ q ≡ Some n
  origin q n e = split (is_among done q)
      (λ h. (living_some s.graph (node_in ns₀ q) n (sym (before q true h) ∙ e)).0) (λ h. sym (before q false h) ∙ e)

  theirs : (gone later : List NodeId) → AreNodesOf ns₀ done gone → AreNodesOf ns more later → AreNodesOf ns₀ (done ++ more) (gone ++ later)
  theirs [] [] h k = tt
  theirs [] (n ∷ later) h k =
      ((k.0.0, among_more k.0.0 ∙ or_right (is_among done k.0.0) (is_among more k.0.0) k.0.1, origin k.0.0 n k.0.2), theirs [] later tt k.1)
  theirs (n ∷ gone) later h k =
      ((h.0.0, among_more h.0.0 ∙ or_left (is_among done h.0.0) (is_among more h.0.0) h.0.1, h.0.2), theirs gone later h.1 k)

  pub each_then : LetsEachGo s₀ ns₀ (done ++ more) s' ns'
  each_then = record {
    forgotten = (
      far.forgotten.0 ++ go.forgotten.0,
      run_on s₀ s s' far.forgotten.0 go.forgotten.0 far.forgotten.1 go.forgotten.1,
      theirs far.forgotten.0 go.forgotten.0 far.forgotten.2 go.forgotten.2,
    );
    names = λ q. (all q).0;
    kept = λ q n h. (all q).1 n h;
  }
    where
      all : (q : Row) → Named q (is_among (done ++ more) q)
      all q = subst (Named q) (sym (among_more q)) (named q (is_among done q) (is_among more q) refl refl)

-- The nodes of rows become fewer.

whose : (ns : Names) (rows : List Row) (gone : List NodeId) → AreNodesOf ns rows gone → (n : NodeId) → list_any (same_node n) gone ≡ true
    → (q : Row) × (is_among rows q ≡ true) × (node_in ns q ≡ Some n)
whose ns rows [] theirs n h = absurd (never h)
whose ns rows (m ∷ gone) theirs n h =
    or_elim (same_node n m) (list_any (same_node n) gone) h
    (λ same. (theirs.0.0, theirs.0.1, theirs.0.2 ∙ ap Some (sym (same_node-equal n m same))))
    (λ among. whose ns rows gone theirs.1 n among)

module _ (v v' : RowsView) (s s' : State) (law : IsLawful s) (holds : NamesHold v s.graph) (files : v'.files ≡ v.files) (rows : List Row)
    (lets : LetsEachGo s v.names rows s' v'.names) where
  leaves : Leaves s s' lets.forgotten.0
  leaves = run_leaves s s' law lets.forgotten.0 lets.forgotten.1

  still : (r : NodeId) → is_record_shape (shape_of s'.graph r) ≡ true → IsStill s.graph s'.graph r
  still r rec = still_back s.graph s'.graph r rec (leaves.same r (record_live s'.graph r rec))

  now : (q : Row) (b : Bool) → is_among rows q ≡ b → name_of v' q ≡ (if b then living s'.graph (name_of v q) else name_of v q)
  now q b e = lets.names q ∙ ap (λ x. if x then living s'.graph (name_of v q) else name_of v q) e

  there : (q : Row) (n : NodeId) → name_of v q ≡ Some n → is_among rows q ≡ false → is_live s'.graph n ≡ true
  there q n e beside = split (is_live s'.graph n) (λ live. live)
      (λ dead.
      let of = whose v.names rows lets.forgotten.0 lets.forgotten.2 n (leaves.lost n (record_live s.graph n (holds.well.stands q n e).0) dead) in
      clash of.1 (ap (is_among rows) (holds.well.apart of.0 q n of.2 e) ∙ beside))

  kept : (q : Row) (n : NodeId) → name_of v' q ≡ Some n → (name_of v q ≡ Some n) × (is_record_shape (shape_of s'.graph n) ≡ true)
  kept q n e =
      let was : (name_of v q ≡ Some n) × (is_live s'.graph n ≡ true) = split (is_among rows q)
      (λ among. living_some s'.graph (name_of v q) n (sym (now q true among) ∙ e))
      (λ beside. let same = sym (now q false beside) ∙ e in (same, there q n same beside)) in
      (was.0, ap (λ o. is_record_shape (shape_in o)) (leaves.same n was.1) ∙ (holds.well.stands q n was.0).0)

  each_changes : ChangesNames v v' s.graph s'.graph
  each_changes = names_fewer v v' s.graph s'.graph holds files still kept (λ q n e rec. split (is_among rows q)
      (λ among. now q true among ∙ ap (living s'.graph) e ∙ ap (λ b. if b then Some n else None) (record_live s'.graph n rec))
      (λ beside. now q false beside ∙ e))

-- after commands that leave the graph as it is
pub let_go_changes : (v v' : RowsView) (g : Graph) (mid s' : State) → mid.graph ≡ g → IsLawful mid → NamesHold v g → v'.files ≡ v.files → (rows : List Row)
    → LetsEachGo mid v.names rows s' v'.names → ChangesNames v v' g s'.graph
let_go_changes v v' g mid s' same law holds files rows lets =
    subst (λ (x : Graph). ChangesNames v v' x s'.graph) same (each_changes v v' mid s' law (subst (NamesHold v) (sym same) holds) files rows lets)
