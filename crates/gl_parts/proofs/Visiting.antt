-- What is decided of visits and requests is what the laws of the whole ask for.
use Rattle.std.specs.Prelude.{◌≡◌, ◌⊎◌, ℕ, Bool, true, false, not, ◌&&◌, ◌||◌, ◌==◌, if◌then◌else◌, List, [], ◌∷◌, Option, Some, None}
use Rattle.std.specs.List.{list_all, list_any}
use Rattle.std.proofs.Common.{refl, sym, ap, ap₂, subst, ◌∙◌, inl, inr}
use Rattle.gl_modes.specs.declared.mode.Mode.{Mode}
use Rattle.gl_modes.specs.declared.mode.Mode.TheVariants.{NL, IS, IX, S, SIX, X}
use Rattle.gl_modes.specs.declared.node.NodeId.{NodeId}
use Rattle.gl_modes.specs.Modes.{is_at_least}
use Rattle.gl_modes.specs.Nodes.{same_node}
use Rattle.gl_modes.proofs.NodeLemmas.{same_node-equal, same_node-refl}
use Rattle.gl_modes.proofs.Words.{and_both, both, clash, no, none_some, number_same, same_number, some_is, split}
use Rattle.gl_graph.proofs.Unrefused.{not_false}
use Rattle.gl_header.specs.Header.{Waiter, is_waiter}
use Rattle.gl_model.specs.State.{State}
use Rattle.gl_model.specs.declared.txn.TxnId.{TxnId}
use Rattle.gl_steps.specs.declared.command.Command.{Command}
use Rattle.gl_steps.specs.declared.command.Command.TheVariants as command
use Rattle.gl_parts.specs.declared.visits.Way.TheVariants as way
use Rattle.gl_parts.specs.Whole.{Part, held_at, held_by_name, is_in, is_intention}
use Rattle.gl_parts.specs.Leading.{Follower, covers}
use Rattle.gl_parts.specs.Actions.{MayRequest, MayRequestOn, requests, requests_at, with_mark}
use Rattle.gl_parts.specs.Actions as acts
use Rattle.gl_parts.specs.Promises.{AfterMainIsAllowed, ClearMayUnmark, CopiedMayMark, HereIsAllowed, InMainIsRefused, NextIsUncovered, OwnIsUncovered}
use Rattle.gl_parts.specs.Promises.{RequestsOn}
use Rattle.gl_parts.specs.Visiting.{IsClear, lacks, way_of}
use Rattle.gl_parts.proofs.Grants.{neither}
use Rattle.gl_parts.proofs.Leading.{more_by}

-- A node that is clear.

-- nobody wants more than an intention if no waiter does, and the other way round
pub none_wants : (q : List Waiter) → list_all (λ w. is_intention w.1) q ≡ true → (t : ℕ) → list_any (λ w. is_waiter t w && not (is_intention w.1)) q ≡ false
none_wants [] h t = refl
none_wants (w ∷ q) h t =
    let it = and_both _ _ h in
    by (is_waiter t w) (is_intention w.1) (list_any (λ x. is_waiter t x && not (is_intention x.1)) q) it.0 (none_wants q it.1 t)
  where
    by : (a b c : Bool) → b ≡ true → c ≡ false → ((a && not b) || c) ≡ false
    by true true c h k = k
    by true false c h k = cc
    by false b c h k = k

pub all_want : (q : List Waiter) → ((t : ℕ) → list_any (λ w. is_waiter t w && not (is_intention w.1)) q ≡ false) → list_all (λ w. is_intention w.1) q ≡ true
all_want [] h = refl
all_want (w ∷ q) h =
    let here = (neither _ _ (h w.0)).0 in
    both _ _ (split (is_intention w.1) (λ i. i) (λ i. clash (ap₂ (λ a b. a && not b) (number_same w.0 w.0 refl) i) here))
    (all_want q (λ t. (neither (is_waiter t w && not (is_intention w.1)) _ (h t)).1))

-- a node is clear if all hold and want intentions alone, and only then
pub clear_if : (s : State) (n : NodeId) → ((t : ℕ) → is_intention (s.held t n) ≡ true) → list_all (λ w. is_intention w.1) (s.queue n) ≡ true → IsClear s n
clear_if s n held wants t = ap₂ (λ a b. not a || b) (held t) (none_wants (s.queue n) wants t)

pub clear_wants : (s : State) (n : NodeId) → IsClear s n → list_all (λ w. is_intention w.1) (s.queue n) ≡ true
clear_wants s n clear = all_want (s.queue n) (λ t. (neither (not (is_intention (s.held t n))) _ (clear t)).1)

-- Visits.

-- what a part has is covered exactly if the main manager lacks nothing of it
covers_named : (main p : Part) (n k j : NodeId) (t : ℕ) → main.name n ≡ Some k → p.name n ≡ Some j
    → covers main p t n ≡ is_at_least (main.state.held t k) (p.state.held t j)
covers_named main p n k j t at there =
    ap₂ (λ a b. is_at_least (held_by_name (main.state.held t) a) (held_by_name (p.state.held t) b)) at there

not_not : (b : Bool) → not b ≡ true → b ≡ false
not_not true h = cc
not_not false h = refl

pub next_is_uncovered : NextIsUncovered
next_is_uncovered main p n k j c at there next = (
  covers_named main p n k j c.slot at there ∙ not_not _ next.lacking,
  next.mode ∙ sym (ap (held_by_name (p.state.held c.slot)) there),
)

pub own_is_uncovered : OwnIsUncovered
own_is_uncovered main p n k j t at there = (
  λ none. split (lacks main.state k p.state j t)
      (λ e. absurd (some_none (sym (ap (λ b. if b then Some (p.state.held t j) else None) e) ∙ none)))
      (λ e. covers_named main p n k j t at there ∙ not_false _ e),
  λ m some. split (lacks main.state k p.state j t)
      (λ e. (
        covers_named main p n k j t at there ∙ not_not _ e,
        some_is (sym some ∙ ap (λ b. if b then Some (p.state.held t j) else None) e) ∙ sym (ap (held_by_name (p.state.held t)) there),
      ))
      (λ e. absurd (none_some (sym (ap (λ b. if b then Some (p.state.held t j) else None) e) ∙ some))),
)
  where
    some_none : {m : Mode} → Some m ≡ None → ⊥
    some_none e = cc

pub copied_may_mark : CopiedMayMark
copied_may_mark w before after f n k j was at there copied =
    acts.Marks (record {
      now = f;
      node = n;
      graph = refl;
      main = refl;
      followers = record { before = before; after = after; was = was; is = refl };
      copied = λ t. covers_named w.main f.part n k j t at there ∙ not_false _ (copied t);
    })

pub clear_may_unmark : ClearMayUnmark
clear_may_unmark w before after f n k was at clear =
    acts.Unmarks (record {
      now = f;
      node = n;
      graph = refl;
      main = refl;
      followers = record { before = before; after = after; was = was; is = refl };
      idle = λ t. ap (more_by w.main t) at ∙ clear t;
    })

-- Requests.

-- what a lock and a try request
abbrev asked : TxnId → NodeId → Mode → ℕ → NodeId → Mode
asked t k m u q = if (u == t.slot) && same_node q k then m else NL

asks : (p : Part) (k : NodeId) (t : TxnId) (m : Mode) (c : Command) → (c ≡ command.Lock t k m) ⊎ (c ≡ command.Try t k m) → (u : ℕ) (q : NodeId)
    → requests_at p c u q ≡ held_by_name (asked t k m u) (p.name q)
asks p k t m c (inl e) u q = ap (λ (x : Command). requests_at p x u q) e
asks p k t m c (inr e) u q = ap (λ (x : Command). requests_at p x u q) e

-- where it may be requested on each node of the main manager with its name, it may be requested: it requests nothing on others
pub named_may_request : (main : Part) (f : Follower) (k : NodeId) (t : TxnId) (m : Mode) (c : Command)
    → (c ≡ command.Lock t k m) ⊎ (c ≡ command.Try t k m)
    → ((q : NodeId) → is_in q main ≡ true → f.part.name q ≡ Some k
    → (is_intention m ≡ true) × (f.marked q ≡ true → is_at_least (held_at main t.slot q) m ≡ true))
    → MayRequest main f c
named_may_request main f k t m c asks_it may q here = record {
  intentions = λ u. ap is_intention (asks f.part k t m c asks_it u q) ∙ small u (f.part.name q) refl;
  first = λ marked u. ap (is_at_least (held_at main u q)) (asks f.part k t m c asks_it u q) ∙ led marked u (f.part.name q) refl;
}
  where
    it : (j : NodeId) → f.part.name q ≡ Some j → same_node j k ≡ true → f.part.name q ≡ Some k
    it j e same = e ∙ ap (λ x. Some x) (same_node-equal j k same)

    above_none : (a : Mode) → is_at_least a NL ≡ true
    above_none NL = refl
    above_none IS = refl
    above_none IX = refl
    above_none S = refl
    above_none SIX = refl
    above_none X = refl

    small : (u : ℕ) (o : Option NodeId) → f.part.name q ≡ o → is_intention (held_by_name (asked t k m u) o) ≡ true
    small u None e = refl
    small u (Some j) e = by ((u == t.slot) && same_node j k) refl
      where
        by : (b : Bool) → ((u == t.slot) && same_node j k) ≡ b → is_intention (if b then m else NL) ≡ true
        by false h = refl
        by true h = (may q here (it j e (and_both _ _ h).1)).0

    led : f.marked q ≡ true → (u : ℕ) (o : Option NodeId) → f.part.name q ≡ o
        → is_at_least (held_at main u q) (held_by_name (asked t k m u) o) ≡ true
    led marked u None e = above_none (held_at main u q)
    led marked u (Some j) e = by ((u == t.slot) && same_node j k) refl
      where
        by : (b : Bool) → ((u == t.slot) && same_node j k) ≡ b → is_at_least (held_at main u q) (if b then m else NL) ≡ true
        by false h = above_none (held_at main u q)
        by true h =
            let mine = and_both _ _ h in
            subst (λ v. is_at_least (held_at main v q) m ≡ true) (sym (same_number u t.slot mine.0)) ((may q here (it j e mine.1)).1 marked)

-- the same of a name that is of one node alone
requests_alone : (main : Part) (f : Follower) (n k : NodeId) (t : TxnId) (m : Mode) (c : Command) → RequestsOn f.part n k t m c
    → (is_in n main ≡ true → (is_intention m ≡ true) × (f.marked n ≡ true → is_at_least (held_at main t.slot n) m ≡ true))
    → MayRequest main f c
requests_alone main f n k t m c on may =
    named_may_request main f k t m c on.by (λ q here e.
    let same = sym (on.alone q e) in
    subst (λ x. (is_intention m ≡ true) × (f.marked x ≡ true → is_at_least (held_at main t.slot x) m ≡ true)) same
    (may (subst (λ x. is_in x main ≡ true) (sym same) here)))

-- by the answers
here_means : (m : Mode) (shared marked : Bool) → way_of m shared marked ≡ way.Here → shared ≡ true → (is_intention m ≡ true) × (marked ≡ false)
here_means m false marked e h = cc
here_means m true marked e h = by (is_intention m) marked e
  where
    by : (i b : Bool) → (if i then (if b then way.AfterMain else way.Here) else way.InMain) ≡ way.Here → (i ≡ true) × (b ≡ false)
    by true true e = cc
    by true false e = (refl, refl)
    by false b e = cc

after_means : (m : Mode) (shared marked : Bool) → way_of m shared marked ≡ way.AfterMain → is_intention m ≡ true
after_means m false marked e = cc
after_means m true marked e = by (is_intention m) marked e
  where
    by : (i b : Bool) → (if i then (if b then way.AfterMain else way.Here) else way.InMain) ≡ way.AfterMain → i ≡ true
    by true b e = refl
    by false b e = cc

main_means : (m : Mode) (shared marked : Bool) → way_of m shared marked ≡ way.InMain → (shared ≡ true) × (is_intention m ≡ false)
main_means m false marked e = cc
main_means m true marked e = (refl, by (is_intention m) marked e)
  where
    by : (i b : Bool) → (if i then (if b then way.AfterMain else way.Here) else way.InMain) ≡ way.InMain → i ≡ false
    by true true e = cc
    by true false e = cc
    by false b e = refl

pub here_is_allowed : HereIsAllowed
here_is_allowed main f n k t m c on e =
    requests_alone main f n k t m c on
    (λ here. let it = here_means m (is_in n main) (f.marked n) e here in (it.0, λ marked. clash marked it.1))

pub after_main_is_allowed : AfterMainIsAllowed
after_main_is_allowed main f n k t m c on e held =
    requests_alone main f n k t m c on (λ here. (after_means m (is_in n main) (f.marked n) e, λ marked. held))

pub in_main_is_refused : InMainIsRefused
in_main_is_refused main f n k t m c on e may =
    let it = main_means m (is_in n main) (f.marked n) e in
    no (sym it.1 ∙ sym (ap is_intention requested) ∙ (may n it.0).intentions t.slot)
  where
    requested : requests_at f.part c t.slot n ≡ m
    requested =
        asks f.part k t m c on.by t.slot n ∙ ap (held_by_name (asked t k m t.slot)) on.here
        ∙ ap (λ b. if b then m else NL) (both _ _ (number_same t.slot t.slot refl) (same_node-refl k))
