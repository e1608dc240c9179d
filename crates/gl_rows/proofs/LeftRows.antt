-- Rows that are left: which rows the slots have, and which slots have rows left, after rows are let go.
use Rattle.std.specs.Prelude.{◌≡◌, ◌≢◌, ◌&&◌, ◌||◌, ◌==◌, ◌++◌, ℕ, zero, suc, Bool, true, false, not, List, [], ◌∷◌, Option, None, Some, Result, Ok, Err, cond}
use Rattle.std.specs.Prelude.{filter, flat_map, get_or, if◌then◌else◌, is_ok, is_some, length, slice_set}
use Rattle.std.specs.List.{list_any}
use Rattle.std.proofs.Common.{refl, sym, ap, subst, ◌∙◌}
use Rattle.std.proofs.Math.Bool.{and-false, and-true, or-false, or-true}
use Rattle.std.proofs.lemmas.List.{append-nil, append_assoc}
use Rattle.std.proofs.lemmas.List.Folds.{list_any-append}
use Rattle.std.proofs.lemmas.Grind.{flat_map-append}
use Rattle.std.proofs.lemmas.Map.Views.{any-filter_same}
use Rattle.gl_modes.proofs.Words.{and_both, clash, no as never, number_other, number_same, or_elim, or_left, or_right, same_number, split}
use Rattle.gl_modes.specs.declared.node.NodeId.{NodeId}
use Rattle.gl_modes.specs.declared.refusal.Refusal.{Refusal}
use Rattle.gl_slots.specs.declared.slots.Slots.{Slots}
use Rattle.gl_slots.specs.Slots.{HasNoSlot, IsLowest, has_slot, slots_of}
use Rattle.gl_slots.proofs.SlotLemmas.{slots_of-lowest, slots_of-none}
use Rattle.gl_model.specs.Lawful.{IsLawful}
use Rattle.gl_model.specs.State.{State}
use Rattle.gl_catalog.specs.Manager.{ManagerView, state_of}
use Rattle.gl_rows.specs.Leaving.{LetsGoIn}
use Rattle.gl_rows.specs.Locking.{LetsGo, LetsGoOf, Names, SameAccount}
use Rattle.gl_rows.specs.Releasing.{AreNodesOf, LetsEachGo, LetsLeftGo, is_among, living, no_end}
use Rattle.gl_rows.specs.Rows.{RowsView, asked_beside, has_any, has_asked, is_in_any, name_of, rows_at, rows_left, same_row}
use Rattle.gl_rows.specs.declared.row.Row.{Row}
use Rattle.gl_rows.proofs.LettingGo.{done_stays, each_then, run_leaves}
use Rattle.gl_rows.proofs.SlotSets.{set_twice}
use Rattle.gl_rows.proofs.RowNames.{node_in, same_row-equal, same_row-refl}

-- Which rows are let go.

-- none
pub none_go : (s : State) (ns : Names) → LetsEachGo s ns [] s ns
none_go s ns = record { forgotten = ([], refl, tt); names = λ q. refl; kept = λ q n h. absurd (never h) }

nodes_as : (ns : Names) (rows rows' : List Row) → ((q : Row) → is_among rows q ≡ true → is_among rows' q ≡ true) → (gone : List NodeId)
    → AreNodesOf ns rows gone → AreNodesOf ns rows' gone
nodes_as ns rows rows' to [] h = tt
nodes_as ns rows rows' to (n ∷ gone) h = ((h.0.0, to h.0.0 h.0.1, h.0.2), nodes_as ns rows rows' to gone h.1)

-- the same ones
pub lets_as : (s s' : State) (ns ns' : Names) (rows rows' : List Row) → ((q : Row) → is_among rows' q ≡ is_among rows q) → LetsEachGo s ns rows s' ns'
    → LetsEachGo s ns rows' s' ns'
lets_as s s' ns ns' rows rows' same h = record {
  forgotten = (h.forgotten.0, h.forgotten.1, nodes_as ns rows rows' (λ q e. same q ∙ e) h.forgotten.0 h.forgotten.2);
  names = λ q. h.names q ∙ ap (λ b. if b then living s'.graph (node_in ns q) else node_in ns q) (sym (same q));
  kept = λ q n e. h.kept q n (sym (same q) ∙ e);
}

-- a row without a node gets none
pub none_stays : (s s' : State) (ns ns' : Names) (rows : List Row) → LetsEachGo s ns rows s' ns' → (q : Row) → node_in ns q ≡ None → node_in ns' q ≡ None
none_stays s s' ns ns' rows h q none = h.names q ∙ by (is_among rows q)
  where
    by : (b : Bool) → (if b then living s'.graph (node_in ns q) else node_in ns q) ≡ None
    by true = ap (living s'.graph) none
    by false = none

-- a row that is let go without a refusal has no node any more
pub gone_row : (s s' : State) (ns ns' : Names) (row : Row) (result : Result (Unit {0}) Refusal) → is_ok result ≡ true → LetsGo s ns row result s' ns'
    → node_in ns' row ≡ None
gone_row s s' ns ns' row result ok h = by (node_in ns row) refl result ok h
  where
    by : (o : Option NodeId) → node_in ns row ≡ o → (result : Result (Unit {0}) Refusal) → is_ok result ≡ true → LetsGoOf o s ns row result s' ns'
        → node_in ns' row ≡ None
    by None e result ok h = ap (λ xs. node_in xs row) h.2 ∙ e
    by (Some n) e (Ok u) ok h = h.1 row ∙ ap (λ b. cond b None (node_in ns row)) (same_row-refl row)
    by (Some n) e (Err r) ok h = absurd (never ok)

-- so none of the rows so far has a node, if none was refused
pub gone_more : (s s' : State) (ns ns' : Names) (rows : List Row) (row : Row) (result : Result (Unit {0}) Refusal) (all : Bool)
    → LetsEachGo s ns (row ∷ []) s' ns' → LetsGo s ns row result s' ns' → (all && is_ok result) ≡ true
    → (all ≡ true → (q : Row) → is_among rows q ≡ true → node_in ns q ≡ None) → (q : Row) → is_among (rows ++ row ∷ []) q ≡ true → node_in ns' q ≡ None
gone_more s s' ns ns' rows row result all one go h so_far q among =
    let b = and_both all (is_ok result) h in
    or_elim (is_among rows q) (is_among (row ∷ []) q) (sym (list_any-append (same_row q) rows (row ∷ [])) ∙ among)
    (λ e. none_stays s s' ns ns' (row ∷ []) one q (so_far b.0 q e))
    (λ e. ap (node_in ns') (same_row-equal q row (sym (or-false (same_row q row)) ∙ e)) ∙ gone_row s s' ns ns' row result b.1 go)

-- The rows of one slot are replaced.

suc_same : (w i : ℕ) → (suc w == suc i) ≡ (w == i)
suc_same w i = split (w == i) (λ e. number_same (suc w) (suc i) (ap suc (same_number w i e)) ∙ sym e)
    (λ e. number_other (suc w) (suc i) (λ f. clash (number_same w i (cc f)) e) ∙ sym e)

-- by what f makes of them
changed_at : {A : Type 0} (f : List A → List A) → f [] ≡ [] → (sets : List (List A)) (i w : ℕ)
    → get_or (slice_set sets i (f (get_or sets i []))) w [] ≡ (if w == i then f (get_or sets i []) else get_or sets w [])
changed_at f none [] i w = by (w == i)
  where
    by : (b : Bool) → [] ≡ (if b then f [] else [])
    by true = sym none
    by false = refl
changed_at f none (x ∷ sets) zero zero = sym (ap (λ b. if b then f x else x) (number_same 0 0 refl))
changed_at f none (x ∷ sets) zero (suc w) = sym (ap (λ b. if b then f x else get_or sets w []) (number_other (suc w) 0 (λ e. cc e)))
changed_at f none (x ∷ sets) (suc i) zero = sym (ap (λ b. if b then f (get_or sets i []) else x) (number_other 0 (suc i) (λ e. cc e)))
changed_at f none (x ∷ sets) (suc i) (suc w) =
    changed_at f none sets i w ∙ ap (λ b. if b then f (get_or sets i []) else get_or sets w []) (sym (suc_same w i))

and_swap : (a b : Bool) → (a && b) ≡ (b && a)
and_swap true true = refl
and_swap true false = refl
and_swap false true = refl
and_swap false false = refl

-- the rows that pass
in_kept : (p : Row → Bool) (rows : List Row) (q : Row) → list_any (same_row q) (filter p rows) ≡ (list_any (same_row q) rows && p q)
in_kept p rows q =
    any-filter_same (same_row q) p (p q) (λ k e. ap p (sym (same_row-equal q k e))) rows ∙ and_swap (p q) (list_any (same_row q) rows)

-- a slot keeps the rows that pass
module _ (v v' : RowsView) (slot : ℕ) (p : Row → Bool) (is : v'.asked ≡ slice_set v.asked slot (filter p (rows_at v slot))) where
  at : (w : ℕ) (b : Bool) → (w == slot) ≡ b → rows_at v' w ≡ (if b then filter p (rows_at v slot) else rows_at v w)
  at w b e = ap (λ xs. get_or xs w []) is ∙ changed_at (filter p) refl v.asked slot w ∙ ap (λ x. if x then filter p (rows_at v slot) else rows_at v w) e

  pub passed : (w : ℕ) (q : Row) → has_asked v' w q ≡ (has_asked v w q && (not (w == slot) || p q))
  passed w q = split (w == slot)
      (λ e. ap (list_any (same_row q)) (at w true e) ∙ in_kept p (rows_at v slot) q ∙ ap (λ k. has_asked v k q && p q) (sym (same_number w slot e))
      ∙ sym (ap (λ b. has_asked v w q && (not b || p q)) e))
      (λ e. ap (list_any (same_row q)) (at w false e) ∙ sym (and-true (has_asked v w q)) ∙ sym (ap (λ b. has_asked v w q && (not b || p q)) e))

  pub aside : (w : ℕ) → w ≢ slot → rows_at v' w ≡ rows_at v w
  aside w apart = at w false (number_other w slot apart)

  pub same_beside : (q : Row) → asked_beside v' slot q ≡ asked_beside v slot q
  same_beside q = ap (λ sets. is_in_any sets q) (ap (λ xs. slice_set xs slot []) is ∙ set_twice v.asked slot _ [])

-- no rows, or some
pub no_rows : (rows : List Row) → length rows ≡ 0 → list_any (λ q. true) rows ≡ false
no_rows [] e = refl
no_rows (q ∷ rows) e = absurd (cc e)

pub some_rows : (rows : List Row) → (length rows ≡ 0 → ⊥) → list_any (λ q. true) rows ≡ true
some_rows [] e = absurd (e refl)
some_rows (q ∷ rows) e = refl

-- a slot is not marked any more if it has no rows
pub unmarked : (l l' : Slots) (slot : ℕ) (any : ℕ → Bool) → any slot ≡ false → ((w : ℕ) → has_slot l' w ≡ (has_slot l w && not (w == slot))) → (w : ℕ)
    → has_slot l' w ≡ (has_slot l w && (not (w == slot) || any w))
unmarked l l' slot any none left w = split (w == slot)
    (λ e. left w ∙ ap (λ b. has_slot l w && not b) e
    ∙ sym (ap (λ b. has_slot l w && (not b || any w)) e ∙ ap (λ x. has_slot l w && x) (ap any (same_number w slot e) ∙ none)))
    (λ e. left w ∙ ap (λ b. has_slot l w && not b) e ∙ sym (ap (λ b. has_slot l w && (not b || any w)) e))

-- and is still marked if it has some
pub still_marked : (l : Slots) (slot : ℕ) (any : ℕ → Bool) → any slot ≡ true → (w : ℕ) → has_slot l w ≡ (has_slot l w && (not (w == slot) || any w))
still_marked l slot any some w =
    sym (and-true (has_slot l w)) ∙ ap (λ x. has_slot l w && x) (split (w == slot)
    (λ e. sym (ap (λ b. not b || any w) e ∙ ap any (same_number w slot e) ∙ some))
    (λ e. sym (ap (λ b. not b || any w) e)))

-- the rows of one slot are let go
pub in_slot : (m m' : ManagerView) (v v' : RowsView) (slot : ℕ) → LetsEachGo (state_of m) v.names (rows_at v slot) (state_of m') v'.names → SameAccount m m'
    → v'.files ≡ v.files → v'.asked ≡ slice_set v.asked slot (filter (λ q. is_some (name_of v' q)) (rows_at v slot))
    → ((w : ℕ) → has_slot v'.left w ≡ (has_slot v.left w && (not (w == slot) || has_any v' w))) → LetsGoIn m v slot m' v'
in_slot m m' v v' slot goes account files is left = record {
  goes = goes;
  account = account;
  files = files;
  asked = passed v v' slot (λ q. is_some (name_of v' q)) is;
  others = aside v v' slot (λ q. is_some (name_of v' q)) is;
  left = left;
}

-- The slots with rows left, one after the other.

-- no slot has rows left
pub none_left : (m : ManagerView) (v : RowsView) → HasNoSlot v.left → LetsLeftGo m v [] no_end m v
none_left m v none = record {
  goes = subst (λ rows. LetsEachGo (state_of m) v.names rows (state_of m) v.names)
      (sym (ap (flat_map (rows_at v)) (slots_of-none v.left none))) (none_go (state_of m) v.names);
  account = (refl, refl);
  files = refl;
  asked = λ w q. sym (ap (λ b. has_asked v w q && ((not b || is_some (name_of v q)) && true)) (none w) ∙ and-true (has_asked v w q));
  left = λ w. none w ∙ sym (ap (λ b. b && has_any v w) (none w));
}

-- the rows of the slots so far were let go, and those of these slots not yet
pub record IsOnWay (m : ManagerView) (v : RowsView) (todo : Slots) (m' : ManagerView) (v' : RowsView) : Type 0 where
  pub done : List ℕ
  pub all : done ++ slots_of todo ≡ slots_of v.left
  pub goes : LetsEachGo (state_of m) v.names (flat_map (rows_at v) done) (state_of m') v'.names
  pub among : (w : ℕ) (q : Row) → has_slot v.left w ≡ true → has_slot todo w ≡ false → has_asked v w q ≡ true → is_among (flat_map (rows_at v) done) q ≡ true
  pub account : SameAccount m m'
  pub files : v'.files ≡ v.files
  pub within : (w : ℕ) → has_slot todo w ≡ true → has_slot v.left w ≡ true
  pub asked : (w : ℕ) (q : Row) → has_asked v' w q ≡ (has_asked v w q && (not (has_slot v.left w && not (has_slot todo w)) || is_some (name_of v' q)))
  pub left : (w : ℕ) → has_slot v'.left w ≡ (has_slot v.left w && (has_slot todo w || has_any v' w))

-- none so far
pub way_begins : (m : ManagerView) (v : RowsView) → IsOnWay m v v.left m v
way_begins m v = record {
  done = [];
  all = refl;
  goes = none_go (state_of m) v.names;
  among = λ w q e f. clash e f;
  account = (refl, refl);
  files = refl;
  within = λ w e. e;
  asked = λ w q. sym (ap (λ b. has_asked v w q && (not b || is_some (name_of v q))) (no_more (has_slot v.left w)) ∙ and-true (has_asked v w q));
  left = λ w. once (has_slot v.left w) (has_any v w);
}
  where
    no_more : (b : Bool) → (b && not b) ≡ false
    no_more true = refl
    no_more false = refl

    once : (b c : Bool) → b ≡ (b && (b || c))
    once true c = refl
    once false c = refl

-- all of them
pub way_ends : (m m' : ManagerView) (v v' : RowsView) (todo : Slots) → HasNoSlot todo → IsOnWay m v todo m' v' → LetsLeftGo m v [] no_end m' v'
way_ends m m' v v' todo none h = record {
  goes = subst (λ slots. LetsEachGo (state_of m) v.names (flat_map (rows_at v) slots) (state_of m') v'.names)
      (sym (append-nil h.done) ∙ ap (λ xs. h.done ++ xs) (sym (slots_of-none todo none)) ∙ h.all) h.goes;
  account = h.account;
  files = h.files;
  asked = λ w q.
      h.asked w q ∙ ap (λ b. has_asked v w q && (not (has_slot v.left w && not b) || is_some (name_of v' q))) (none w)
      ∙ plain (has_asked v w q) (has_slot v.left w) (is_some (name_of v' q));
  left = λ w. h.left w ∙ ap (λ b. has_slot v.left w && (b || has_any v' w)) (none w);
}
  where
    plain : (a l n : Bool) → (a && (not (l && true) || n)) ≡ (a && ((not l || n) && true))
    plain a true true = refl
    plain a true false = refl
    plain a false n = refl

-- one more
module _ (m m₁ m₂ : ManagerView) (v v₁ v₂ : RowsView) (todo rest : Slots) (slot : ℕ) (law : IsLawful (state_of m₁)) (lowest : IsLowest todo slot)
    (fewer : (u : ℕ) → has_slot rest u ≡ (has_slot todo u && not (u == slot))) (h : IsOnWay m v todo m₁ v₁) (go : LetsGoIn m₁ v₁ slot m₂ v₂) where
  abbrev so_far : List Row
  so_far = flat_map (rows_at v) h.done

  own : (q : Row) → is_among (rows_at v slot) q ≡ is_among (rows_at v₁ slot) q
  own q =
      sym (h.asked slot q ∙ ap (λ b. has_asked v slot q && (not (has_slot v.left slot && not b) || is_some (name_of v₁ q))) lowest.member
      ∙ ap (λ b. has_asked v slot q && (not b || is_some (name_of v₁ q))) (and-false (has_slot v.left slot)) ∙ and-true (has_asked v slot q))

  next : LetsEachGo (state_of m₁) v₁.names (rows_at v slot) (state_of m₂) v₂.names
  next = lets_as (state_of m₁) (state_of m₂) v₁.names v₂.names (rows_at v₁ slot) (rows_at v slot) own go.goes

  more : flat_map (rows_at v) (h.done ++ slot ∷ []) ≡ so_far ++ rows_at v slot
  more = flat_map-append (rows_at v) h.done (slot ∷ []) ∙ ap (λ rows. so_far ++ rows) (append-nil (rows_at v slot))

  among_more : (q : Row) → is_among (flat_map (rows_at v) (h.done ++ slot ∷ [])) q ≡ (is_among so_far q || is_among (rows_at v slot) q)
  among_more q = ap (list_any (same_row q)) more ∙ list_any-append (same_row q) so_far (rows_at v slot)

  rest_at : (w : ℕ) (b : Bool) → (w == slot) ≡ b → has_slot rest w ≡ (has_slot todo w && not b)
  rest_at w b e = fewer w ∙ ap (λ x. has_slot todo w && not x) e

  -- a slot that was done keeps its rows
  asked_done : (w : ℕ) (q : Row) (a l t : Bool) → has_asked v w q ≡ a → has_slot v.left w ≡ l → has_slot todo w ≡ t
      → (a && (not (l && not t) || is_some (name_of v₁ q))) ≡ (a && (not (l && not t) || is_some (name_of v₂ q)))
  asked_done w q false l t e f g = refl
  asked_done w q true false t e f g = refl
  asked_done w q true true true e f g = refl
  asked_done w q true true false e f g =
      sym (ap is_some (done_stays (state_of m) (state_of m₁) (state_of m₂) law v.names v₁.names v₂.names so_far (rows_at v slot) h.goes next q
      (h.among w q f g e)))

  asked_now : (w : ℕ) (q : Row) → has_asked v₂ w q ≡ (has_asked v w q && (not (has_slot v.left w && not (has_slot rest w)) || is_some (name_of v₂ q)))
  asked_now w q = split (w == slot)
      (λ e.
      let todo_has : has_slot todo w ≡ true = ap (has_slot todo) (same_number w slot e) ∙ lowest.member in
      let here : has_asked v₁ w q ≡ has_asked v w q = ap (λ k. has_asked v₁ k q) (same_number w slot e) ∙ sym (own q)
      ∙ ap (λ k. has_asked v k q) (sym (same_number w slot e)) in
      go.asked w q ∙ ap (λ b. has_asked v₁ w q && (not b || is_some (name_of v₂ q))) e ∙ ap (λ b. b && is_some (name_of v₂ q)) here
      ∙ sym (ap (λ b. has_asked v w q && (not (has_slot v.left w && not b) || is_some (name_of v₂ q)))
      (rest_at w true e ∙ and-false (has_slot todo w))
      ∙ ap (λ b. has_asked v w q && (not (b && true) || is_some (name_of v₂ q))) (h.within w todo_has)))
      (λ e.
      go.asked w q ∙ ap (λ b. has_asked v₁ w q && (not b || is_some (name_of v₂ q))) e ∙ and-true (has_asked v₁ w q) ∙ h.asked w q
      ∙ asked_done w q (has_asked v w q) (has_slot v.left w) (has_slot todo w) refl refl refl
      ∙ ap (λ b. has_asked v w q && (not (has_slot v.left w && not b) || is_some (name_of v₂ q)))
      (sym (rest_at w false e ∙ and-true (has_slot todo w))))

  left_now : (w : ℕ) → has_slot v₂.left w ≡ (has_slot v.left w && (has_slot rest w || has_any v₂ w))
  left_now w = split (w == slot)
      (λ e.
      let todo_has : has_slot todo w ≡ true = ap (has_slot todo) (same_number w slot e) ∙ lowest.member in
      go.left w ∙ ap (λ b. has_slot v₁.left w && (not b || has_any v₂ w)) e
      ∙ ap (λ b. b && has_any v₂ w) (h.left w ∙ ap (λ b. has_slot v.left w && (b || has_any v₁ w)) todo_has ∙ and-true (has_slot v.left w))
      ∙ sym (ap (λ b. has_slot v.left w && (b || has_any v₂ w)) (rest_at w true e ∙ and-false (has_slot todo w))))
      (λ e.
      go.left w ∙ ap (λ b. has_slot v₁.left w && (not b || has_any v₂ w)) e ∙ and-true (has_slot v₁.left w) ∙ h.left w
      ∙ ap (λ rows. has_slot v.left w && (has_slot todo w || list_any (λ q. true) rows))
      (sym (go.others w (λ same. clash (number_same w slot same) e)))
      ∙ ap (λ b. has_slot v.left w && (b || has_any v₂ w)) (sym (rest_at w false e ∙ and-true (has_slot todo w))))

  pub way_goes_on : IsOnWay m v rest m₂ v₂
  way_goes_on = record {
    done = h.done ++ slot ∷ [];
    all = append_assoc h.done (slot ∷ []) (slots_of rest) ∙ ap (λ xs. h.done ++ xs) (sym (slots_of-lowest todo rest slot lowest fewer)) ∙ h.all;
    goes = subst (λ rows. LetsEachGo (state_of m) v.names rows (state_of m₂) v₂.names) (sym more)
        (each_then (state_of m) (state_of m₁) (state_of m₂) law v.names v₁.names v₂.names so_far (rows_at v slot) h.goes next);
    among = λ w q e f a. among_more q ∙ split (has_slot todo w)
        (λ t.
        let same : w ≡ slot = same_number w slot (split (w == slot) (λ g. g) (λ g. absurd (clash (rest_at w false g ∙ and-true (has_slot todo w) ∙ t) f))) in
        or_right (is_among so_far q) (is_among (rows_at v slot) q) (ap (λ k. has_asked v k q) (sym same) ∙ a))
        (λ t. or_left (is_among so_far q) (is_among (rows_at v slot) q) (h.among w q e t a));
    account = (go.account.0 ∙ h.account.0, go.account.1 ∙ h.account.1);
    files = go.files ∙ h.files;
    within = λ w e. h.within w (and_both (has_slot todo w) (not (w == slot)) (sym (fewer w) ∙ e)).0;
    asked = asked_now;
    left = left_now;
  }

-- The rows of one transaction, and those left.

module _ (m m₁ m' : ManagerView) (v v₁ v' : RowsView) (slot : ℕ) (law : IsLawful (state_of m)) (account : SameAccount m m₁) (files : v₁.files ≡ v.files)
    (asked : v₁.asked ≡ v.asked) (left : v₁.left ≡ v.left) (go : LetsEachGo (state_of m) v.names (rows_at v slot) (state_of m₁) v₁.names)
    (others : LetsLeftGo m₁ v₁ [] no_end m' v') where
  lawful : IsLawful (state_of m₁)
  lawful = (run_leaves (state_of m) (state_of m₁) law go.forgotten.0 go.forgotten.1).law

  -- none of its rows has a node any more, if none had one before the others were let go
  pub still_gone : ((q : Row) → is_among (rows_at v slot) q ≡ true → node_in v₁.names q ≡ None) → (q : Row) → has_asked v slot q ≡ true → name_of v' q ≡ None
  still_gone gone q e = none_stays (state_of m₁) (state_of m') v₁.names v'.names (rows_left v₁) others.goes q (gone q e)

  pub asked_go : LetsLeftGo m v (rows_at v slot) no_end m' v'
  asked_go = record {
    goes = each_then (state_of m) (state_of m₁) (state_of m') lawful v.names v₁.names v'.names (rows_at v slot) (rows_left v) go
        (subst (λ rows. LetsEachGo (state_of m₁) v₁.names rows (state_of m') v'.names) same_left others.goes);
    account = (others.account.0 ∙ account.0, others.account.1 ∙ account.1);
    files = others.files ∙ files;
    asked = λ w q.
        others.asked w q ∙ ap (λ xs. list_any (same_row q) (get_or xs w []) && ((not (has_slot v₁.left w) || is_some (name_of v' q)) && true)) asked
        ∙ ap (λ (l : Slots). has_asked v w q && ((not (has_slot l w) || is_some (name_of v' q)) && true)) left;
    left = λ w. others.left w ∙ ap (λ (l : Slots). has_slot l w && has_any v' w) left;
  }
    where
      same_left : rows_left v₁ ≡ rows_left v
      same_left = ap (λ xs. flat_map (λ w. get_or xs w []) (slots_of v₁.left)) asked ∙ ap (λ (l : Slots). flat_map (rows_at v) (slots_of l)) left

-- The transaction of a slot has ended.

-- the slot keeps the rows that have a node and that no other slot has
pub passes_alone : (m m' : ManagerView) (v mid : RowsView) (slot : ℕ) → LetsLeftGo m v (rows_at v slot) no_end m' mid → (q : Row)
    → (has_asked mid slot q && (is_some (name_of mid q) && not (asked_beside mid slot q)))
    ≡ (has_asked v slot q && (is_some (name_of mid q) && not (asked_beside mid slot q)))
passes_alone m m' v mid slot h q =
    ap (λ b. b && (is_some (name_of mid q) && not (asked_beside mid slot q))) (h.asked slot q)
    ∙ by (has_asked v slot q) (has_slot v.left slot) (is_some (name_of mid q)) (asked_beside mid slot q)
  where
    by : (a l n b : Bool) → ((a && ((not l || n) && true)) && (n && not b)) ≡ (a && (n && not b))
    by false l n b = refl
    by true true true b = refl
    by true true false b = refl
    by true false true b = refl
    by true false false b = refl

-- it had no rows, and no rows were left
pub nothing_ends : (m : ManagerView) (v : RowsView) (slot : ℕ) → rows_at v slot ≡ [] → HasNoSlot v.left
    → LetsLeftGo m v (rows_at v slot) (λ w. w == slot) m v
nothing_ends m v slot empty none = record {
  goes = subst (λ rows. LetsEachGo (state_of m) v.names rows (state_of m) v.names)
      (sym (ap (λ rows. rows ++ rows_left v) empty ∙ ap (flat_map (rows_at v)) (slots_of-none v.left none))) (none_go (state_of m) v.names);
  account = (refl, refl);
  files = refl;
  asked = λ w q. split (w == slot)
      (λ e.
      let bare : has_asked v w q ≡ false = ap (has_row q) (same_number w slot e) ∙ ap (list_any (same_row q)) empty in
      bare ∙ sym (ap (λ b. b && ((not ((w == slot) || has_slot v.left w) || is_some (name_of v q)) && not ((w == slot) && asked_beside v w q))) bare))
      (λ e.
      sym (ap (λ b. has_asked v w q && ((not (b || has_slot v.left w) || is_some (name_of v q)) && not (b && asked_beside v w q))) e
      ∙ ap (λ b. has_asked v w q && ((not b || is_some (name_of v q)) && true)) (none w) ∙ and-true (has_asked v w q)));
  left = λ w. none w ∙ sym (split (w == slot)
      (λ e. ap (λ b. ((w == slot) || has_slot v.left w) && b) (ap (has_any v) (same_number w slot e) ∙ ap (list_any (λ q. true)) empty)
      ∙ and-false ((w == slot) || has_slot v.left w))
      (λ e. ap (λ b. (b || has_slot v.left w) && has_any v w) e ∙ ap (λ b. b && has_any v w) (none w)));
}
  where
    has_row : Row → ℕ → Bool
    has_row q w = has_asked v w q

-- no row passes
pub none_pass : (p : Row → Bool) (rows : List Row) → ((q : Row) → list_any (same_row q) rows ≡ true → p q ≡ false) → filter p rows ≡ []
none_pass p [] h = refl
none_pass p (q ∷ rows) h =
    ap (λ b. cond b (q ∷ filter p rows) (filter p rows)) (h q (or_left (same_row q q) (list_any (same_row q) rows) (same_row-refl q)))
    ∙ none_pass p rows (λ r e. h r (or_right (same_row r q) (list_any (same_row r) rows) e))

module _ (m m' : ManagerView) (v mid v' : RowsView) (slot : ℕ) (h : LetsLeftGo m v (rows_at v slot) no_end m' mid) (names : v'.names ≡ mid.names)
    (files : v'.files ≡ mid.files)
    (is : v'.asked ≡ slice_set mid.asked slot (filter (λ q. is_some (name_of mid q) && not (asked_beside mid slot q)) (rows_at mid slot))) where
  abbrev p : Row → Bool
  p q = is_some (name_of mid q) && not (asked_beside mid slot q)

  abbrev Marks : Type 0
  Marks = (w : ℕ) → has_slot v'.left w ≡ (if w == slot then has_any v' slot else has_slot mid.left w)

  named : (q : Row) → name_of v' q ≡ name_of mid q
  named q = ap (λ xs. node_in xs q) names

  asked_at_end : (w : ℕ) (q : Row) → has_asked v' w q
      ≡ (has_asked v w q && ((not ((w == slot) || has_slot v.left w) || is_some (name_of v' q)) && not ((w == slot) && asked_beside v' w q)))
  asked_at_end w q = split (w == slot)
      (λ e.
      let same : w ≡ slot = same_number w slot e in
      passed mid v' slot p is w q ∙ ap (λ b. has_asked mid w q && (not b || p q)) e ∙ ap (λ k. has_asked mid k q && p q) same
      ∙ passes_alone m m' v mid slot h q
      ∙ ap (λ b. has_asked v slot q && (is_some (name_of mid q) && not b)) (sym (same_beside mid v' slot p is q))
      ∙ ap (λ o. has_asked v slot q && (is_some o && not (asked_beside v' slot q))) (sym (named q))
      ∙ ap (λ k. has_asked v k q && (is_some (name_of v' q) && not (asked_beside v' k q))) (sym same)
      ∙ sym (ap (λ b. has_asked v w q && ((not (b || has_slot v.left w) || is_some (name_of v' q)) && not (b && asked_beside v' w q))) e))
      (λ e.
      passed mid v' slot p is w q ∙ ap (λ b. has_asked mid w q && (not b || p q)) e ∙ and-true (has_asked mid w q) ∙ h.asked w q
      ∙ ap (λ o. has_asked v w q && ((not (has_slot v.left w) || is_some o) && true)) (sym (named q))
      ∙ sym (ap (λ b. has_asked v w q && ((not (b || has_slot v.left w) || is_some (name_of v' q)) && not (b && asked_beside v' w q))) e))

  left_at_end : Marks → (w : ℕ) → has_slot v'.left w ≡ (((w == slot) || has_slot v.left w) && has_any v' w)
  left_at_end marks w = split (w == slot)
      (λ e.
      marks w ∙ ap (λ b. if b then has_any v' slot else has_slot mid.left w) e ∙ ap (has_any v') (sym (same_number w slot e))
      ∙ sym (ap (λ b. (b || has_slot v.left w) && has_any v' w) e))
      (λ e.
      marks w ∙ ap (λ b. if b then has_any v' slot else has_slot mid.left w) e ∙ h.left w
      ∙ ap (λ rows. has_slot v.left w && list_any (λ q. true) rows) (sym (aside mid v' slot p is w (λ same. clash (number_same w slot same) e)))
      ∙ sym (ap (λ b. (b || has_slot v.left w) && has_any v' w) e))

  pub at_end : Marks → LetsLeftGo m v (rows_at v slot) (λ w. w == slot) m' v'
  at_end marks = record {
    goes = subst (λ ns. LetsEachGo (state_of m) v.names (rows_at v slot ++ rows_left v) (state_of m') ns) (sym names) h.goes;
    account = h.account;
    files = files ∙ h.files;
    asked = asked_at_end;
    left = left_at_end marks;
  }

-- a slot is marked if it has rows, and else not
pub marked : (l l' : Slots) (slot : ℕ) (some : Bool) → some ≡ true → ((w : ℕ) → has_slot l' w ≡ (has_slot l w || (w == slot))) → (w : ℕ)
    → has_slot l' w ≡ (if w == slot then some else has_slot l w)
marked l l' slot some e put w = split (w == slot)
    (λ f. put w ∙ ap (λ b. has_slot l w || b) f ∙ or-true (has_slot l w) ∙ sym (ap (λ b. if b then some else has_slot l w) f ∙ e))
    (λ f. put w ∙ ap (λ b. has_slot l w || b) f ∙ or-false (has_slot l w) ∙ sym (ap (λ b. if b then some else has_slot l w) f))

pub not_marked : (l l' : Slots) (slot : ℕ) (some : Bool) → some ≡ false → ((w : ℕ) → has_slot l' w ≡ (has_slot l w && not (w == slot))) → (w : ℕ)
    → has_slot l' w ≡ (if w == slot then some else has_slot l w)
not_marked l l' slot some e taken w = split (w == slot)
    (λ f. taken w ∙ ap (λ b. has_slot l w && not b) f ∙ and-false (has_slot l w) ∙ sym (ap (λ b. if b then some else has_slot l w) f ∙ e))
    (λ f. taken w ∙ ap (λ b. has_slot l w && not b) f ∙ and-true (has_slot l w) ∙ sym (ap (λ b. if b then some else has_slot l w) f))
