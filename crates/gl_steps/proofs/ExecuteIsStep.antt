-- In a lawful state what the program does is a step of the model, so there is a step for every command, and what it does to a list is a run.
use Rattle.gl_steps.proofs.Words.{◌&&◌, ◌+◌, ◌<◌, ◌==◌, [], ◌∙◌, ◌∷◌, ◌≡◌, ◌≤◌, ⊎_elim, ap, arith, Bool, born_index, both, cases_eq, Command, false, find, Goes}
use Rattle.gl_steps.proofs.Words.{Graph, if◌then◌else◌, inl, is_none, is_some, IsIndexBorn, IsLawful, IsLawfulGraph, length, List, list_all, list_any, may_lock}
use Rattle.gl_steps.proofs.Words.{nat_le, nat_tests, no, Node, node_at, NodeId, None, not, not_refused, Option, or_elim, range_with_len, refl, Refusal}
use Rattle.gl_steps.proofs.Words.{refusal_of, Run, same_number, slots, Some, split, State, Step, suc, sym, test_fails, true, Txn, worn, zero, ℕ}
use Rattle.std.proofs.lemmas.List.FromFn.{length-range_with_len}
use Rattle.gl_modes.specs.declared.refusal.Refusal.TheVariants as no
use Rattle.gl_steps.specs.declared.command.Command.TheVariants as command
use Rattle.gl_graph.specs.Graph.{IsFreeKey}
use Rattle.gl_graph.specs.Changes.{are_apart}
use Rattle.gl_steps.proofs.Made.{next_id}
use Rattle.gl_model.specs.Calls.{too_many_txns, worn_begins}
use Rattle.gl_steps.specs.Promises.{AlwaysAnswers}
use Rattle.gl_graph.proofs.Look.{found_at, live_node, there_is}
use Rattle.gl_model.proofs.law.Settle.{locks_some, settles}
use Rattle.gl_steps.proofs.StepsKeepLaw.{steps_keep_law}
use Rattle.gl_steps.proofs.Execute.{above_key, after, execute, free_key, greater, interval_keys, replies, slot_or_zero, tested, top}

-- a key that is above all others is free
greater_left : (a b : ℕ) → a ≤ greater a b
greater_left a b = by (nat_le a b) refl
  where
    by : (c : Bool) → nat_le a b ≡ c → a ≤ (if c then b else a)
    by true e = grind (arith, nat_tests)
    by false e = omega arith

greater_right : (a b : ℕ) → b ≤ greater a b
greater_right a b = by (nat_le a b) refl
  where
    by : (c : Bool) → nat_le a b ≡ c → b ≤ (if c then b else a)
    by true e = omega arith
    by false e = grind (arith, nat_tests)

below_top : (at : ℕ → Option Node) (n b : ℕ) (node : Node) → 1 ≤ b → b ≤ n → at b ≡ Some node → node.key < top at n
below_top at zero b node low high e = absurd (omega arith)
below_top at (suc n) b node low high e =
    let left = greater_left (top at n) (above_key (at (suc n))) in let right = greater_right (top at n) (above_key (at (suc n))) in
    ⊎_elim (λ same. let key : above_key (at (suc n)) ≡ node.key + 1 = ap (λ x. above_key (at x)) (sym same) ∙ ap above_key e in omega arith)
    (λ ne. let rest = below_top at n b node low (omega arith) e in omega arith) (cases_eq b (suc n))

free_above : (g : Graph) (law : IsLawfulGraph g) (key : ℕ) → top g.at g.births ≤ key → IsFreeKey g key
free_above g law key high n live e =
    let node = live_node (node_at g n) live in
    let at = found_at g n node.0 node.1 in
    let born = law.born n.birth (there_is (g.at n.birth) node.0 at.0) in
    let low = below_top g.at g.births n.birth node.0 born.0 born.1 at.0 in
    let key' : node.0.key ≡ n.key = at.1 in
    absurd (omega arith)

in_range : (k a n : ℕ) → list_any (λ x. x == k) (range_with_len a n) ≡ true → a ≤ k
in_range k a zero h = absurd (no h)
in_range k a (suc n) h = or_elim (a == k) _ h (λ e. let same = same_number a k e in omega arith) (λ e. let low = in_range k (a + 1) n e in omega arith)

range_apart : (a n : ℕ) → are_apart (range_with_len a n) ≡ true
range_apart a zero = refl
range_apart a (suc n) = both _ _ (split (list_any (λ x. x == a) (range_with_len (a + 1) n))
    (λ e. let low = in_range a (a + 1) n e in absurd (omega arith)) (λ e. ap not e)) (range_apart (a + 1) n)

-- if not all slots are taken, a free one is found
slot_found : (txns : ℕ → Option Txn) (us : List ℕ) → list_all (λ t. is_some (txns t)) us ≡ false
    → find (λ u. is_none (txns u)) us ≡ Some (slot_or_zero (find (λ u. is_none (txns u)) us))
slot_found txns [] h = absurd (no (sym h))
slot_found txns (u ∷ us) h = by (txns u) h (slot_found txns us)
  where
    by : (x : Option Txn) → (is_some x && list_all (λ t. is_some (txns t)) us) ≡ false
        → (list_all (λ t. is_some (txns t)) us ≡ false → find (λ v. is_none (txns v)) us ≡ Some (slot_or_zero (find (λ v. is_none (txns v)) us)))
        → (if is_none x then Some u else find (λ v. is_none (txns v)) us) ≡ Some (slot_or_zero (if is_none x then Some u else find (λ v. is_none (txns v)) us))
    by None k rest = refl
    by (Some x) k rest = rest k

module _ (s : State) (law : IsLawful s) where
  key_free : IsFreeKey s.graph (free_key s)
  key_free = free_above s.graph law.graph (free_key s) (omega arith)

  begins : refusal_of s command.Begin ≡ None → find (λ u. is_none (s.txns u)) (slots s) ≡ Some (slot_or_zero (find (λ u. is_none (s.txns u)) (slots s)))
  begins free =
      let a = not_refused (worn s) _ free in
      let b = not_refused (worn_begins s) _ a.1 in
      slot_found s.txns (slots s) (test_fails _ no.TooManyTxns (not_refused (too_many_txns s) [] b.1).0)

  keys_apart : (bs : List ℕ) → are_apart (free_key s ∷ interval_keys s bs) ≡ true
  keys_apart bs = both _ _ (split (list_any (λ x. x == free_key s) (interval_keys s bs))
      (λ e. let low = in_range (free_key s) (free_key s + 1) (length bs + 1) e in absurd (omega arith)) (λ e. ap not e))
      (range_apart (free_key s + 1) (length bs + 1))

  keys_free : (bs : List ℕ) (k : ℕ) → list_any (λ x. x == k) (free_key s ∷ interval_keys s bs) ≡ true → IsFreeKey s.graph k
  keys_free bs k e =
      free_above s.graph law.graph k
      (or_elim (free_key s == k) _ e (λ y. let same = same_number (free_key s) k y in omega arith)
      (λ y. let low = in_range k (free_key s + 1) (length bs + 1) y in omega arith))

  index_is_born : (ps : List NodeId) (f : NodeId) (bs : List ℕ)
      → IsIndexBorn s.graph (born_index s.graph (free_key s) ps f bs (interval_keys s bs)) (next_id s (free_key s)) ps f bs
  index_is_born ps f bs = record {
    interval_keys = interval_keys s bs;
    intervals = length-range_with_len (free_key s + 1) (length bs + 1);
    keys_apart = keys_apart bs;
    keys_free = keys_free bs;
    birth = refl;
    after = refl;
  }

  goes : (c : Command) (r : Option Refusal) → refusal_of s c ≡ r → Goes s c r (tested s c r).0 (tested s c r).1 (tested s c r).2
  goes c (Some r) e = record { answer_is = refl; nobody_told = refl; same = refl }
  goes (command.Inner ps) None e = (_, (_, record { key_free = key_free; birth = refl; after = refl }, refl, refl, refl), refl)
  goes (command.File ps) None e = (_, (_, record { key_free = key_free; birth = refl; after = refl }, refl, refl, refl), refl)
  goes (command.Index ps f bs) None e = (_, (_, index_is_born ps.now f bs.now, refl, refl, refl), refl)
  goes command.Begin None e = (_, (_, begins e, refl, refl, refl), refl)
  goes (command.BeginAgain since) None e = (_, (_, begins e, refl, refl, refl), refl)
  goes (command.Lock t n m) None e = (_, (locks_some s law t n m (may_lock s t n m (worn s) [] e).0, refl, refl), refl)
  goes (command.Settle t) None e = (_, (refl, refl, settles s.victims s law t.slot), refl)
  goes (command.Insert t f keys) None e = (_, (_, record { key_free = key_free; birth = refl; after = refl }, refl, refl, refl), refl)
  goes (command.Group n) None e = record { answer_is = refl; nobody_told = refl; same = refl }
  goes (command.Held t n) None e = record { answer_is = refl; nobody_told = refl; same = refl }
  goes (command.Effective t n) None e = record { answer_is = refl; nobody_told = refl; same = refl }
  goes (command.Adopt f keys) None e = (_, (_, record { key_free = key_free; birth = refl; after = refl }, refl, refl, refl), refl)
  goes (command.IndexBy t ps f bs rs ks) None e = (_, (_, record { born = _; index = index_is_born ps.now f bs.now; after = refl }, refl, refl, refl), refl)
  goes (command.Split t i at) None e = (_, (_, record { key_free = key_free; birth = refl; after = refl }, refl, refl, refl), refl)
  goes c None e = (_, (refl, refl, refl), refl)

  -- of any command
  pub execute_steps : (c : Command) → Step s c (execute s c).0 (execute s c).1 (execute s c).2
  execute_steps c = inl (goes c (refusal_of s c) refl)

-- so there is a step
pub always_answers : AlwaysAnswers
always_answers s c law = ((execute s c).0, (execute s c).1, (execute s c).2, execute_steps s law c)

-- a list of commands is a run
pub execute_runs : (cs : List Command) (s : State) → IsLawful s → Run s cs (replies s cs) (after s cs)
execute_runs [] s law = refl
execute_runs (c ∷ cs) s law = (
  (execute s c).2,
  execute_steps s law c,
  execute_runs cs (execute s c).2
      (steps_keep_law s (execute s c).2 c (execute s c).0 (execute s c).1 law (execute_steps s law c)),
)
