-- Rows that are printed one after the other.
use Rattle.gl_interpreter.proofs.Words.{◌+◌, ◌++◌, ◌<◌, [], ◌∙◌, ◌∷◌, ◌≡◌, ◌≢◌, ap, append-nil, append_assoc, AreRowsOf, arith, Bool, codes, deadlock_rows, Err}
use Rattle.gl_interpreter.proofs.Words.{false, flat_map, flat_map_more, fun_ext, get_or, get_or_default, if◌then◌else◌, is_some, length, List, listed, LockRow}
use Rattle.gl_interpreter.proofs.Words.{map, None, none_some, Ok, Option, range_with_len, refl, Refusal, refusal_line, Result, Script, slice_get, slots_of}
use Rattle.gl_interpreter.proofs.Words.{slots_where, Some, State, Stuck, stuck_rows, suc, sym, take, take_more, true, true≢false, TxnId, zero, ℕ}
use Rattle.std.specs.Prelude.{IsNone}
use Rattle.std.specs.List.{filter}
use Rattle.std.proofs.lemmas.List.FromFn.{map-range_with_len_more}
use Rattle.std.proofs.lemmas.Option.{get_or_from_slice_get, slice_get_within}
use Rattle.gl_modes.proofs.Words.{no}
use Rattle.gl_slots.specs.declared.slots.Slots.{Slots}
use Rattle.gl_slots.specs.Slots.{has_slot, slot_limit}
use Rattle.gl_model.specs.Calls.{RefusesOnly}
use Rattle.gl_model.specs.State.{counting}
use Rattle.gl_interpreter.specs.Rows.{member_text, or_dash}

module _ {A : Type 0} (row : A → List ℕ) where
  pub one_more : (xs : List A) (x : A) → flat_map row xs ++ row x ≡ flat_map row (xs ++ x ∷ [])
  one_more xs x = flat_map_more row [] xs x

  pub more_rows : (xs : List A) (i : ℕ) (d e : A) → i < length xs → flat_map row (take i xs) ++ row (get_or xs i e) ≡ flat_map row (take (i + 1) xs)
  more_rows xs i d e low = ap (λ x. flat_map row (take i xs) ++ row x) (get_or_default xs i e d low) ∙ one_more (take i xs) (get_or xs i d)
      ∙ ap (flat_map row) (sym (take_more xs i d low))

  -- the row at a place
  pub row_there : (xs : List A) (i : ℕ) (x : A) → slice_get xs i ≡ Some x → flat_map row (take i xs) ++ row x ≡ flat_map row (take (i + 1) xs)
  row_there xs i x at =
      one_more (take i xs) x ∙ ap (λ y. flat_map row (take i xs ++ y ∷ [])) (sym (get_or_from_slice_get xs i x x at))
      ∙ ap (flat_map row) (sym (take_more xs i x (slice_get_within xs i x at)))

map_same : {A : Type 0} (xs : List A) → map (λ x. x) xs ≡ xs
map_same [] = refl
map_same (x ∷ xs) = ap (λ ys. x ∷ ys) (map_same xs)

range_more : (n : ℕ) → range_with_len 0 (n + 1) ≡ range_with_len 0 n ++ n ∷ []
range_more n = sym (map_same (range_with_len 0 (n + 1))) ∙ map-range_with_len_more (λ k. k) 0 n n (omega arith)
    ∙ ap (λ ks. ks ++ n ∷ []) (map_same (range_with_len 0 n))

-- a row for each number below n, and that of n
pub range_rows : (row : ℕ → List ℕ) (n : ℕ) → flat_map row (range_with_len 0 n) ++ row n ≡ flat_map row (range_with_len 0 (n + 1))
range_rows row n = one_more row (range_with_len 0 n) n ∙ ap (flat_map row) (sym (range_more n))

-- rows that were yielded, and one more that is the first of what was left
pub yielded_more : {A : Type 0} (xs : List A) (x : A) (left left' all : List A) → xs ++ left ≡ all → left ≡ x ∷ left' → (xs ++ x ∷ []) ++ left' ≡ all
yielded_more xs x left left' all so first = append_assoc xs (x ∷ []) left' ∙ ap (λ l. xs ++ l) (sym first) ∙ so

pub all_yielded : {A : Type 0} (xs left all : List A) → xs ++ left ≡ all → left ≡ [] → xs ≡ all
all_yielded xs left all so none = sym (append-nil xs) ∙ ap (λ l. xs ++ l) (sym none) ∙ so

-- a listing that is not refused
pub listed_rows : (o : Option Refusal) (who rows rows' : List ℕ) → o ≡ None → rows ≡ rows' → codes "ok\n" ++ rows ≡ listed o who rows'
listed_rows o who rows rows' none same = ap (λ r. codes "ok\n" ++ r) same ∙ ap (λ p. listed p who rows') (sym none)

pub listed_refusal : (o : Option Refusal) (r : Refusal) (who rows : List ℕ) → o ≡ Some r → refusal_line r who ≡ listed o who rows
listed_refusal o r who rows refused = ap (λ p. listed p who rows) (sym refused)

-- the answer of a call shows whether a test refuses
pub goes : {A : Type 0} (o : Option Refusal) (result : Result A Refusal) (x : A) → RefusesOnly o result → result ≡ Ok x → o ≡ None
goes None result x h e = refl
goes (Some r) result x h e = let both : Err r ≡ Ok x = sym h ∙ e in absurd (cc)

pub refuses : {A : Type 0} (o : Option Refusal) (result : Result A Refusal) (r : Refusal) → RefusesOnly o result → result ≡ Err r → o ≡ Some r
refuses None (Ok x) r h e = absurd (cc)
refuses None (Err q) r h e = absurd (no h)
refuses (Some q) result r h e = let both : Err q ≡ Err r = sym h ∙ e in let same : q ≡ r = cc in ap Some same

-- the slots of a set are those at which its test gives true
pub slots_same : (slots : Slots) (test : ℕ → Bool) → ((u : ℕ) → has_slot slots u ≡ test u) → slots_of slots ≡ slots_where test
slots_same slots test same = ap (λ p. filter p (range_with_len 0 slot_limit)) (fun_ext same)

-- a place below the length has something
pub not_past : {A : Type 0} (xs : List A) (i : ℕ) → i < length xs → slice_get xs i ≡ None → ⊥
not_past [] i low e = absurd (omega arith)
not_past (x ∷ xs) zero low e = none_some (sym e)
not_past (x ∷ xs) (suc i) low e = not_past xs i (omega arith) e

-- an answer of nothing shows that the test failed
pub failed : {A : Type 0} (b : Bool) (x : A) → None ≡ (if b then Some x else None) → b ≡ false
failed true x e = absurd (none_some e)
failed false x e = refl

-- the count of accepted commands says nothing of rows
pub counting_rows : (k : ℕ) (s : State) (t : ℕ) (rows : List LockRow) → AreRowsOf s t rows → AreRowsOf (counting k s) t rows
counting_rows k s t rows h = record { nodes = h.nodes; once = h.once; each = h.each }

-- a deadlock that has a row is printed
pub some_rows : (s : Script) (victim : TxnId) (rows : List Stuck) → (rows ≡ [] → ⊥)
    → codes "victim" ++ member_text s victim ++ 10 ∷ [] ++ flat_map (stuck_rows s rows) rows ≡ deadlock_rows s victim rows
some_rows s victim [] none = absurd (none refl)
some_rows s victim (r ∷ rs) none = refl

pub is_nothing : {A : Type 0} (o : Option A) → o ≡ None → IsNone o
is_nothing o e = ap is_some e

pub is_something : {A : Type 0} (o : Option A) (x : A) → o ≡ Some x → IsNone o → ⊥
is_something o x e h = absurd (true≢false (sym (ap is_some e) ∙ h))

pub dash_for_none : (name : List ℕ) → length name ≡ 0 → 45 ∷ [] ≡ or_dash name
dash_for_none [] e = refl
dash_for_none (b ∷ bs) e = absurd (omega arith)

pub name_of_some : (name : List ℕ) → length name ≢ 0 → name ≡ or_dash name
name_of_some [] some = absurd (some refl)
name_of_some (b ∷ bs) some = refl
