-- Lists of snapshots and one more.
use Rattle.gl_window.proofs.Words.{◌+◌, ◌++◌, [], ◌∙◌, ◌∷◌, ◌≡◌, ◌≤◌, ◌⊎◌, ⊎_elim, AllFine, ap, arith, Board, Bool, Detect, Ends, false, Fine, IsPrefix}
use Rattle.gl_window.proofs.Words.{last_epoch, length, length-append, List, refl, Rising, subst, sym, true, ℕ}
use Rattle.std.proofs.Common.{le_refl, le_trans, MatchBool, zero-le}
use Rattle.gl_window.specs.Boards.{IsLawful}
use Rattle.gl_window.proofs.Fronts.{prefix_shorter, prefix_whole}

pub rising_more : (e : ℕ) (xs : List Board) (y : Board) → Rising e xs → last_epoch e xs ≤ y.epoch → Rising e (xs ++ y ∷ [])
rising_more e [] y r le = (le, tt)
rising_more e (x ∷ xs) y r le = (r.0, rising_more x.epoch xs y r.1 le)

pub fine_more : (detect : Detect) (xs : List Board) (y : Board) → AllFine detect xs → Fine detect y → AllFine detect (xs ++ y ∷ [])
fine_more detect [] y all f = (f, tt)
fine_more detect (x ∷ xs) y all f = (all.0, fine_more detect xs y all.1 f)

last_of : (e : ℕ) (front : List Board) (b : Board) → last_epoch e (front ++ b ∷ []) ≡ b.epoch
last_of e [] b = refl
last_of e (x ∷ xs) b = last_of x.epoch xs b

-- the epoch of the last snapshot of a list
pub last_ends : (list : List Board) (b : Board) → Ends list b → last_epoch 0 list ≡ b.epoch
last_ends list b h = ap (last_epoch 0) h.1 ∙ last_of 0 h.0 b

-- after a snapshot was added, or none was, the last epoch is at most the snapshot's
pub epoch_after : (list new : List Board) (b : Board) → (new ≡ list) ⊎ (new ≡ list ++ b ∷ []) → last_epoch 0 list ≤ b.epoch → last_epoch 0 new ≤ b.epoch
epoch_after list new b h le = ⊎_elim (λ e. subst (λ l. last_epoch 0 l ≤ b.epoch) (sym e) le)
    (λ e. let same = ap (last_epoch 0) e ∙ last_of 0 list b in omega (arith, same)) h

-- the table's first list
pub lawful_one : (detect : Detect) (first : Board) → Fine detect first → IsLawful detect first (first ∷ [])
lawful_one detect first fine = record { begins = ([], refl); rising = (zero-le, tt); fine = (fine, tt) }

-- a list's last epoch is no less than that of a prefix
rising_up : (e : ℕ) (ys : List Board) → Rising e ys → e ≤ last_epoch e ys
rising_up e [] r = le_refl e
rising_up e (y ∷ ys) r = le_trans r.0 (rising_up y.epoch ys r.1)

pub prefix_up : (e : ℕ) (xs ys : List Board) → IsPrefix xs ys → Rising e ys → last_epoch e xs ≤ last_epoch e ys
prefix_up e [] ys p r = rising_up e ys r
prefix_up e (x ∷ xs) [] p r = absurd (cc (p.1))
prefix_up e (x ∷ xs) (y ∷ ys) p r =
    let heads : x ≡ y = cc (p.1) in
    subst (λ (b : Board). last_epoch b.epoch xs ≤ last_epoch y.epoch ys) (sym heads) (prefix_up y.epoch xs ys (p.0, cc (p.1)) r.1)

-- a list that is one snapshot longer
one_longer : (xs rest front : List Board) (b : Board) → length rest ≡ 1 → xs ++ rest ≡ front ++ b ∷ [] → xs ++ rest ≡ xs ++ b ∷ []
one_longer [] (r ∷ []) [] b one is = is
one_longer [] (r ∷ []) (f ∷ []) b one is = absurd (cc is)
one_longer [] (r ∷ []) (f ∷ g ∷ front) b one is = absurd (cc is)
one_longer [] (r ∷ s ∷ rest) front b one is = absurd (omega arith)
one_longer [] [] front b one is = absurd (omega arith)
one_longer (x ∷ xs) rest [] b one is = absurd (omega (arith, ap length is, length-append xs rest))
one_longer (x ∷ xs) rest (f ∷ front) b one is = ap (λ (l : List Board). x ∷ l) (one_longer xs rest front b one (cc is))

-- a list that is one snapshot longer than a prefix of it, which is its last
pub follows : (xs ys : List Board) (b : Board) → IsPrefix xs ys → length ys ≡ length xs + 1 → Ends ys b → ys ≡ xs ++ b ∷ []
follows xs ys b p len ends =
    let one : length p.0 ≡ 1 = omega (arith, ap length p.1, length-append xs p.0) in
    sym p.1 ∙ one_longer xs p.0 ends.0 b one (p.1 ∙ ends.1)

-- after a snapshot of epoch n was added to the list, or was not
pub told_epoch : (told : Bool) (list after : List Board) (board : Board) (n : ℕ) → MatchBool told (after ≡ list ++ board ∷ []) (after ≡ list)
    → last_epoch 0 list ≤ n → board.epoch ≡ n → last_epoch 0 after ≤ n
told_epoch true list after board n is le epoch = subst (λ (e : ℕ). e ≤ n) (sym (last_ends after board (list, is) ∙ epoch)) (le_refl n)
told_epoch false list after board n is le epoch = subst (λ (l : List Board). last_epoch 0 l ≤ n) (sym is) le

-- two prefixes of one list with the same length
pub same_length : (xs ys both : List Board) → IsPrefix xs both → IsPrefix ys both → length ys ≡ length xs → ys ≡ xs
same_length xs ys both p q len = prefix_whole ys xs (prefix_shorter ys xs both q p (omega (arith, len))) (omega (arith, len))

-- the same, in the terms of a table
pub lawful_here : (detect d : Detect) (first b : Board) (list : List Board) → list ≡ b ∷ [] → b ≡ first → d ≡ detect → Fine d b → IsLawful detect first list
lawful_here detect d first b list is same at fine =
    subst (λ (l : List Board). IsLawful detect first l) (sym is)
    (subst (λ (x : Board). IsLawful detect first (x ∷ [])) (sym same)
    (lawful_one detect first (subst (λ (x : Board). Fine detect x) same (subst (λ (x : Detect). Fine x b) at fine))))

fine_end : (detect : Detect) (front : List Board) (b : Board) → AllFine detect (front ++ b ∷ []) → Fine detect b
fine_end detect [] b all = all.0
fine_end detect (x ∷ xs) b all = fine_end detect xs b all.1

-- the last of a list of fine snapshots
pub fine_last : (detect : Detect) (list : List Board) (b : Board) → Ends list b → AllFine detect list → Fine detect b
fine_last detect list b ends all = fine_end detect ends.0 b (subst (AllFine detect) ends.1 all)
