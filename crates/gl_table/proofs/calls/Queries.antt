-- Queries of a table: its lists and headers say what its state says. For queries and tests.
use Rattle.gl_table.proofs.Words.{◌&&◌, ◌+◌, ◌<◌, [], ◌||◌, ◌∙◌, ◌∷◌, ◌≡◌, ◌≤◌, add-one, answered, ap, ap₂, AreHeaders, AreRowsOf, arith, board_of, Bool, both}
use Rattle.gl_table.proofs.Words.{by_list, child_held, clash, cond, count_by, drop, drop-cons, Entry, entry_at, Err, false, find, first_not_ix, first_of_all}
use Rattle.gl_table.proofs.Words.{first_refusal, get_or, Graph, group_of, group_of-limit, header_at, header_or_new, HeaderState, held_by, held_child}
use Rattle.gl_table.proofs.Words.{held_children, held_of, holds, if◌then◌else◌, Inside, IS, is_at_least, is_child, is_empty, is_idle, is_row_of, is_some}
use Rattle.gl_table.proofs.Words.{is_write, IsDistinct, IsSound, IX, keys, keys_of, length, length-map, List, list_all, list_any, ListsAgree, live_by}
use Rattle.gl_table.proofs.Words.{lock_tests, LockList, LockRow, lookup, lookup_from_place, map, Members, members, members_at, members_of, Mode, mode_in}
use Rattle.gl_table.proofs.Words.{mode_of, nat_tests, NL, no, no_parents, node_equivalence, NodeId, nodes, None, none_some, not, not_held, not_true, Ok, Option}
use Rattle.gl_table.proofs.Words.{option_map, option_map_or, queue_of, range-from_each, refl, Refusal, Refuses, RefusesOnly, Result, row_of, rows_of}
use Rattle.gl_table.proofs.Words.{rule_refusal, same, same_mode, same_node, shown, slice_get, slice_get-get_or, slice_get-map, slot_limit, Some, split}
use Rattle.gl_table.proofs.Words.{StandOnce, State, state_of, subst, suc, sum_by-cons, sym, TableView, true, Txn, TxnId, txns_of, unused-nobody, verdict}
use Rattle.gl_table.proofs.Words.{view_of, where_true, zero, ℕ}
use Rattle.gl_model.specs.Calls.{RefusesLock}
use Rattle.gl_model.proofs.telling.Lists.{place}
use Rattle.std.specs.List.{All}
use Rattle.gl_modes.specs.declared.refusal.Refusal.TheVariants as no
use Rattle.gl_model.proofs.law.Keeps.{lawful-within}
use Rattle.gl_model.proofs.law.Records.{free-idle, idle-free}

-- a living transaction has a name
pub named : (age : ℕ) (o : Option Txn) → live_by age o ≡ true → is_some o ≡ true
named age None h = absurd (cc)
named age (Some x) h = refl

-- What the lists say of held children, as the tests of an unlock.

-- nothing is found if nothing is counted, and conversely
pub none_counted : (f : NodeId → Bool) (ns : List NodeId) → count_by f ns ≡ 0 → find f ns ≡ None
none_counted f [] h = refl
none_counted f (n ∷ ns) h = grind (arith, nat_tests, f n, sym (sum_by-cons (λ x. cond (f x) 1 0) n ns) ∙ h, none_counted f ns)

pub none_found_counted : (f : NodeId → Bool) (ns : List NodeId) → child_held (find f ns) ≡ None → count_by f ns ≡ 0
none_found_counted f [] h = refl
none_found_counted f (n ∷ ns) h = grind (arith, nat_tests, f n, none_found_counted f ns)

module _ (s : State) (t : ℕ) (n : NodeId) where
  -- how many children of the node are held, if it is
  abbrev pub children_in : Option ℕ
  children_in = if holds (members s n) t then Some (held_children s t n) else None

  abbrev tests : Result (Unit {0}) Refusal
  tests = verdict (first_refusal (not_held s t n ∷ held_child s t n ∷ []))

  -- what is answered, whether the node is held and which child is
  answer : (h : Bool) (o : Option NodeId) → holds (members s n) t ≡ h → find (λ c. is_child s.graph n c && holds (members s c) t) (nodes s.graph) ≡ o
      → tests ≡ verdict (first_refusal (where_true (not h) no.NotHeld ∷ child_held o ∷ []))
  answer h o e f = ap₂ (λ a b. verdict (first_refusal (where_true (not a) no.NotHeld ∷ child_held b ∷ []))) e f

  pub holding : (k : ℕ) → Some k ≡ children_in → (holds (members s n) t ≡ true) × (k ≡ held_children s t n)
  holding k e = by (holds (members s n) t) refl e
    where
      by : (b : Bool) → holds (members s n) t ≡ b → Some k ≡ (if b then Some (held_children s t n) else None)
          → (holds (members s n) t ≡ true) × (k ≡ held_children s t n)
      by true h q = let same : k ≡ held_children s t n = cc in (h, same)
      by false h q = absurd (cc)

  pub says_not_held : None ≡ children_in → Err no.NotHeld ≡ tests
  says_not_held e = by (holds (members s n) t) refl e
    where
      by : (b : Bool) → holds (members s n) t ≡ b → None ≡ (if b then Some (held_children s t n) else None) → Err no.NotHeld ≡ tests
      by true h q = absurd (cc)
      by false h q = sym (answer false (find (λ c. is_child s.graph n c && holds (members s c) t) (nodes s.graph)) h refl)

  pub says_none : (k : ℕ) → k ≡ 0 → Some k ≡ children_in → Ok tt ≡ tests
  says_none k zero_is e = let h = holding k e in sym
      (answer true None h.0 (none_counted (λ c. is_child s.graph n c && holds (members s c) t) (nodes s.graph) (sym h.1 ∙ zero_is)))

  pub says_child : (k : ℕ) → Some k ≡ children_in → (o : Option NodeId)
      → o ≡ find (λ c. is_child s.graph n c && holds (members s c) t) (nodes s.graph) → verdict (child_held o) ≡ tests
  says_child k e o f = first o ∙ sym (answer true o (holding k e).0 (sym f))
    where
      first : (o : Option NodeId) → verdict (child_held o) ≡ verdict (first_refusal (where_true false no.NotHeld ∷ child_held o ∷ []))
      first None = refl
      first (Some c) = refl

-- a slot without list holds nothing
pub no_list : (ls : List LockList) (g : Graph) (t : ℕ) (n : NodeId) → slice_get ls t ≡ None
    → None ≡ find (λ c. is_child g n c && holds (λ u. held_by ls u c) t) (nodes g)
no_list ls g t n e = sym (none_passes (nodes g))
  where
    and_off : (a b : Bool) → b ≡ false → (a && b) ≡ false
    and_off a b h1 = grind (arith, nat_tests)

    fails : (c : NodeId) → (is_child g n c && holds (λ u. held_by ls u c) t) ≡ false
    fails c = and_off (is_child g n c) _ (ap (λ o. not (same_mode (option_map_or (λ l. mode_of l c) o NL) NL)) e)

    none_passes : (ns : List NodeId) → find (λ c. is_child g n c && holds (λ u. held_by ls u c) t) ns ≡ None
    none_passes [] = refl
    none_passes (c ∷ ns) = ap (λ b. cond b (Some c) (find (λ q. is_child g n q && holds (λ u. held_by ls u q) t) ns)) (fails c) ∙ none_passes ns

pub past_end : (ls : List LockList) (t : ℕ) → length ls ≤ t → slice_get ls t ≡ None
past_end [] t h = refl
past_end (l ∷ ls) zero h = absurd (omega arith)
past_end (l ∷ ls) (suc t) h = past_end ls t (omega arith)

-- Queries of a table: what its lists and headers say is what its state says.

-- a node without header is idle, and no other is
pub idle-seen : (i : Inside) → IsSound i → AreHeaders i.locks.ledger.headers.entries → (n : NodeId) (o : Option HeaderState)
    → o ≡ header_at i.locks.ledger.headers.entries n → not (is_some o) ≡ is_idle (state_of (view_of i)) n
idle-seen i sound headers n None is =
    sym (free-idle (state_of (view_of i)) n (λ u. ap (λ o. members_of (header_or_new o) u) (sym is) ∙ ap (λ (g : Members). g u) unused-nobody)
    (ap (λ o. (header_or_new o).queue) (sym is)))
idle-seen i sound headers n (Some h) is = sym (not_true (is_idle (state_of (view_of i)) n) busy)
  where
    busy : is_idle (state_of (view_of i)) n ≡ true → ⊥
    busy idle =
        let free = idle-free (state_of (view_of i)) sound.lawful n idle in
        clash (both _ _ (range-from_each (λ t. not (holds (members_of h) t)) 0 slot_limit
        (λ u low high. ap (λ m. not (not (same_mode m NL))) (ap (λ o. members_of (header_or_new o) u) is ∙ free.0 u)))
        (ap is_empty (ap (λ o. (header_or_new o).queue) is ∙ free.1))) (headers.used n h (sym is))

-- if no test refuses, a call answers the value
pub answers : {A : Type 0} (o : Option Refusal) (x y : A) → o ≡ None → x ≡ y → Ok x ≡ answered o y
answers o x y none same = ap Ok same ∙ ap (λ p. answered p y) (sym none)

-- neither of two tests refuses
pub both_pass : (o p : Option Refusal) → o ≡ None → p ≡ None → first_refusal (o ∷ p ∷ []) ≡ None
both_pass o p a b = ap₂ (λ x y. first_refusal (x ∷ y ∷ [])) a b

-- what is answered only under a test shows that the test passed
pub passed : {A : Type 0} (b : Bool) (o : Option A) (x : A) → Some x ≡ (if b then o else None) → b ≡ true
passed b o x h1 = grind (arith, nat_tests)

-- what is not refused is not refused by a call that answers something else
pub accepts_as : {A B : Type 0} (o : Option Refusal) (x : A) (y : B) → Refuses {T = A} o (Ok x) → Refuses {T = B} o (Ok y)
accepts_as None x y h = tt
accepts_as (Some r) x y h = absurd (cc h)

-- a refusal is handed on by a call that answers something else
module _ (A : Type 0) {B : Type 0} (o : Option Refusal) (r : Refusal) (result : Result B Refusal) (is : result ≡ Err r) where
  pub refuses_as : Refuses {T = A} o (Err r) → Refuses {T = B} o result
  refuses_as refuses = subst (λ (x : Result B Refusal). Refuses o x) (sym is) (by o refuses)
    where
      by : (p : Option Refusal) → Refuses {T = A} p (Err r) → Refuses {T = B} p (Err r)
      by None h = h
      by (Some x) h = cc

  pub refuses_only_as : RefusesOnly {A = A} o (Err r) → RefusesOnly {A = B} o result
  refuses_only_as refuses = subst (λ (x : Result B Refusal). RefusesOnly o x) (sym is) (by o refuses)
    where
      by : (p : Option Refusal) → RefusesOnly {A = A} p (Err r) → RefusesOnly {A = B} p (Err r)
      by None h = absurd (no h)
      by (Some x) h = cc

-- and the same for a lock, for any type of answer
module _ (s : State) (t : TxnId) (n : NodeId) (m : Mode) where
  pub lock_refused_as : (A B : Type 0) (r : Refusal) (result : Result B Refusal) → result ≡ Err r → RefusesLock {A = A} s t n m (Err r)
      → RefusesLock {A = B} s t n m result
  lock_refused_as A B r result is h =
      record {
        refuses = refuses_as A (first_refusal (lock_tests s t n m)) r result is h.refuses;
        held = λ passes enters member. absurd (no (h.held passes enters member));
      }

  pub lock_goes_as : {A B : Type 0} (x : A) (y : B) → RefusesLock s t n m (Ok x) → RefusesLock s t n m (Ok y)
  lock_goes_as x y h =
      record { refuses = accepts_as (first_refusal (lock_tests s t n m)) x y h.refuses; held = λ passes enters member. h.held passes enters member }

module _ (i : Inside) (sound : IsSound i) (v : TableView) (view : view_of i ≡ v) where
  pub group-seen : (n : NodeId) → group_of slot_limit (members_at i.locks.ledger.headers.entries n) ≡ group_of (state_of v).most (members (state_of v) n)
  group-seen n =
      sym (group_of-limit (length i.locks.ledger.txn_entries.items) (members_at i.locks.ledger.headers.entries n) i.locks.sound.few
      (lawful-within (state_of (view_of i)) sound.lawful n)) ∙ ap (λ w. group_of (state_of w).most (members (state_of w) n)) view

  -- a snapshot is made of transactions, grants and queues alone
  pub board-seen : (epoch : ℕ) → board_of (shown i.locks.ledger.headers.entries i.locks.ledger.txn_entries.items epoch) ≡ board_of (record
      (state_of v) { accepted = epoch })
  board-seen epoch = λ z. board_of (record (state_of v) {
    txns = txns_of (view z).txn_entries;
    held = held_of (view z).headers;
    queue = queue_of (view z).headers;
    accepted = epoch;
  })

-- The rows of a list are the locks of its transaction in the model.

looked_in : (ls : List (List (NodeId × Entry))) (t : ℕ) (n : NodeId)
    → option_map_or (λ es. lookup (same_node n) es) (slice_get ls t) None ≡ lookup (same_node n) (get_or ls t [])
looked_in [] t n = refl
looked_in (es ∷ ls) zero n = refl
looked_in (es ∷ ls) (suc t) n = looked_in ls t n

distinct_in : (ls : List (List (NodeId × Entry))) (t : ℕ) → ((es : List (NodeId × Entry)) → slice_get ls t ≡ Some es → IsDistinct same_node (keys_of es))
    → IsDistinct same_node (keys_of (get_or ls t []))
unfolding IsDistinct
distinct_in [] t once = tt
distinct_in (es ∷ ls) zero once = once es refl
distinct_in (es ∷ ls) (suc t) once = distinct_in ls t once

-- a node has a row exactly where the list has an entry of it
row-listed : (n : NodeId) (es : List (NodeId × Entry)) → list_any (is_row_of n) (map row_of es) ≡ is_some (lookup (same_node n) es)
row-listed n [] = refl
row-listed n (x ∷ es) = split (same_node n x.0) (λ e. ap (λ b. b || list_any (is_row_of n) (map row_of es)) e ∙ sym (ap is_some (here e)))
    (λ e. ap (λ b. b || list_any (is_row_of n) (map row_of es)) e ∙ row-listed n es ∙ sym (ap is_some (there e)))
  where
    here : same_node n x.0 ≡ true → lookup (same_node n) (x ∷ es) ≡ Some x.1
    here e = ap (λ b. if b then Some x.1 else lookup (same_node n) es) e

    there : same_node n x.0 ≡ false → lookup (same_node n) (x ∷ es) ≡ lookup (same_node n) es
    there e = ap (λ b. if b then Some x.1 else lookup (same_node n) es) e

-- what the code reads of a slot's list are the rows that its view shows
pub row-at : (ls : List LockList) (t place : ℕ) → by_list (λ l. option_map row_of (slice_get l.entries.entries place)) None ls t
    ≡ slice_get (map row_of (get_or (map (λ l. l.entries.entries) ls) t [])) place
row-at [] t place = refl
row-at (l ∷ ls) zero place = sym (slice_get-map row_of l.entries.entries place)
row-at (l ∷ ls) (suc t) place = row-at ls t place

pub row-count : (ls : List LockList) (t : ℕ) → by_list (λ l. length (keys l.entries)) 0 ls t
    ≡ length (map row_of (get_or (map (λ l. l.entries.entries) ls) t []))
row-count [] t = refl
row-count (l ∷ ls) zero = length-map l.entries.entries (λ e. e.0) ∙ sym (length-map l.entries.entries row_of)
row-count (l ∷ ls) (suc t) = row-count ls t

row_nodes : (es : List (NodeId × Entry)) → map (λ (r : LockRow). r.node) (map row_of es) ≡ keys_of es
row_nodes [] = refl
row_nodes (x ∷ es) = ap (λ ns. x.0 ∷ ns) (row_nodes es)

module _ (v : TableView) (agree : ListsAgree v) (once : StandOnce v) (t : ℕ) where
  abbrev row_listed : List (NodeId × Entry)
  row_listed = get_or v.lists t []

  distinct : IsDistinct same_node (keys_of row_listed)
  distinct = distinct_in v.lists t (once.lists t)

  abbrev Tells : LockRow → Type 0
  Tells r = (r.mode ≡ (state_of v).held t r.node) × (r.children ≡ held_children (state_of v) t r.node)

  told_at : (n : NodeId) (e : Entry) → lookup (same_node n) row_listed ≡ Some e → Tells (row_of (n, e))
  told_at n e h =
      let said : entry_at v t n ≡ Some e = looked_in v.lists t n ∙ h in
      (sym (ap mode_in said) ∙ agree.modes t n, agree.counts t n e said)

  each : All Tells (map row_of row_listed)
  each k d lt = by (slice_get row_listed k) refl
    where
      is : slice_get (map row_of row_listed) k ≡ Some (get_or (map row_of row_listed) k d)
      is = slice_get-get_or (map row_of row_listed) k d lt

      mapped : (o : Option (NodeId × Entry)) → slice_get row_listed k ≡ o → Some (get_or (map row_of row_listed) k d) ≡ option_map row_of o
      mapped o e = sym is ∙ slice_get-map row_of row_listed k ∙ ap (option_map row_of) e

      by : (o : Option (NodeId × Entry)) → slice_get row_listed k ≡ o → Tells (get_or (map row_of row_listed) k d)
      by None e = absurd (none_some (sym (mapped None e)))
      by (Some x) e =
          let is_some_row = mapped (Some x) e in
          let same : row_of x ≡ get_or (map row_of row_listed) k d = cc in
          subst Tells same (told_at x.0 x.1 (lookup_from_place node_equivalence row_listed k x.0 x.1 distinct e))

  pub are_rows : AreRowsOf (state_of v) t (rows_of v t)
  are_rows = record {
    nodes = λ n. row-listed n row_listed ∙ ap is_some (sym (looked_in v.lists t n)) ∙ agree.listed t n;
    once = subst (λ (ns : List NodeId). IsDistinct same_node ns) (sym (row_nodes row_listed)) distinct;
    each = each;
  }

-- a slot without list holds nothing to write
pub no_writes : (ls : List LockList) (g : Graph) (t : ℕ) (n : NodeId) → slice_get ls t ≡ None
    → false ≡ list_any (λ c. is_child g n c && is_write (held_by ls t c)) (nodes g)
no_writes ls g t n e = sym (none_passes (nodes g))
  where
    and_off : (a b : Bool) → b ≡ false → (a && b) ≡ false
    and_off a b h1 = grind (arith, nat_tests)

    fails : (c : NodeId) → (is_child g n c && is_write (held_by ls t c)) ≡ false
    fails c = and_off (is_child g n c) _ (ap (λ o. is_write (option_map_or (λ l. mode_of l c) o NL)) e)

    none_passes : (ns : List NodeId) → list_any (λ c. is_child g n c && is_write (held_by ls t c)) ns ≡ false
    none_passes [] = refl
    none_passes (c ∷ ns) = ap₂ (λ a b. a || b) (fails c) (none_passes ns)

-- The rule of the graph, as it is tested.

pub first_not_ix-drop : (held : NodeId → Mode) (ps : List NodeId) (i : ℕ) (d : NodeId) → i < length ps
    → first_not_ix held (drop i ps) ≡ (if is_at_least (held (get_or ps i d)) IX then first_not_ix held (drop (i + 1) ps)
    else Some (no.NeedParents (get_or ps i d)))
first_not_ix-drop held ps i d h = rw (add-one, drop-cons ps i d)

-- to write
pub rule_write : (held : NodeId → Mode) (ps : List NodeId) (m : Mode) → is_at_least m IX ≡ true → rule_refusal held ps m ≡ first_not_ix held ps
rule_write held ps m w =
    ap (λ b. if (if b then list_all (λ p. is_at_least (held p) IX) ps else (no_parents ps || list_any (λ p. is_at_least (held p) IS) ps)) then None
    else (if b then first_not_ix held ps else first_of_all ps)) w ∙ by ps
  where
    by : (qs : List NodeId) → (if list_all (λ p. is_at_least (held p) IX) qs then None else first_not_ix held qs) ≡ first_not_ix held qs
    by [] = refl
    by (q ∷ qs) = grind (arith, by qs)

-- to read
pub rule_read : (held : NodeId → Mode) (ps : List NodeId) (m : Mode) → is_at_least m IX ≡ false
    → rule_refusal held ps m ≡ (if no_parents ps || list_any (λ p. is_at_least (held p) IS) ps then None else first_of_all ps)
rule_read held ps m w = grind (arith, nat_tests)

pub ruleset writable_steps = (first_not_ix-drop)

pub ruleset rule_steps = (rule_write, rule_read)
