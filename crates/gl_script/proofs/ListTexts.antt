-- A list has one text: a field that is no element is in no list.
use Rattle.std.proofs.Common.{◌≡◌, ◌≢◌, ℕ, List, [], ◌∷◌, ◌++◌, All, map, length, slice_index, codes, decimal, refl, sym, ap, ap₂, ◌∙◌, subst, arith}
use Rattle.std.proofs.Common.{append_assoc}
use Rattle.std.specs.Prelude.{IfNone, Option, None, Some}
use Rattle.std.proofs.lemmas.List.{map_push}
use Rattle.std.proofs.lemmas.List.Elements.{All-head, All-tail, All-cons, All-nil}
use Rattle.gl_script.specs.declared.reads.Used.{Used}
use Rattle.gl_script.specs.Grammar.{Text, Node, Plain, Interval, IsLetter, IsName, IsNode, IsNumber, AreSomeNodes, node_text, parents}
use Rattle.gl_script.specs.Numbers.{IsDigit}
use Rattle.gl_script.specs.Views.{node_of}
use Rattle.gl_script.proofs.Numbers.{decimal_plain}
use Rattle.gl_script.proofs.Splitting.{has_byte}

-- one more element is read
pub spelt_more : {X : Type 0} (spell : X → Text) (all : List Text) (done : List X) (x : X) (now : List X) (field : Text) (rest more : List Text)
    → all ≡ map spell done ++ rest → rest ≡ field ∷ more → field ≡ spell x → now ≡ done ++ x ∷ [] → all ≡ map spell now ++ more
spelt_more spell all done x now field rest more before next spelt pushed =
    before ∙ ap (λ fs. map spell done ++ fs) (next ∙ ap (λ f. f ∷ more) spelt) ∙ sym (append_assoc (map spell done) (spell x ∷ []) more)
    ∙ ap (λ fs. fs ++ more) (sym (map_push spell done x) ∙ ap (map spell) (sym pushed))

-- after what was read there is a field that is no element
pub none_at : {X : Type 0} (spell : X → Text) (P : X → Type 0) (done : List Text) (field : Text) (more : List Text) (xs : List X)
    → ((x : X) → P x → field ≢ spell x) → All P xs → done ++ field ∷ more ≡ map spell xs → ⊥
none_at spell P [] field more [] nay is e = cc
none_at spell P [] field more (x ∷ xs) nay is e = nay x (All-head P x xs is) (cc)
none_at spell P (d ∷ done) field more [] nay is e = cc
none_at spell P (d ∷ done) field more (x ∷ xs) nay is e = none_at spell P done field more xs nay (All-tail P x xs is) (cc)

-- a word of two bytes without a dot, which is no name, is no node
no_dots : (a b : ℕ) → a ≢ 46 → b ≢ 46 → All (λ u. u ≢ 46) (a ∷ b ∷ [])
no_dots a b p q = All-cons (λ u. u ≢ 46) a (b ∷ []) p (All-cons (λ u. u ≢ 46) b [] q (All-nil (λ u. u ≢ 46)))

pub on_is_no_node : (n : Node) → IsNode n → node_text n ≢ codes "on"
on_is_no_node (Plain m) is e = is.not_on e
on_is_no_node (Interval m k) is e =
    has_byte 46 m (decimal k) (subst (All (λ u. u ≢ 46)) (sym e) (no_dots 111 110 (λ d. omega (arith, d)) (λ d. omega (arith, d))))

pub at_is_no_node : (n : Node) → IsNode n → node_text n ≢ codes "at"
at_is_no_node (Plain m) is e = is.not_at e
at_is_no_node (Interval m k) is e =
    has_byte 46 m (decimal k) (subst (All (λ u. u ≢ 46)) (sym e) (no_dots 97 116 (λ d. omega (arith, d)) (λ d. omega (arith, d))))

-- the word `with` is no number
pub with_is_no_number : (k : ℕ) → IsNumber k → decimal k ≢ codes "with"
with_is_no_number k is e =
    let first : IsDigit 119 = All-head IsDigit 119 (105 ∷ 116 ∷ 104 ∷ []) (subst (All IsDigit) e (decimal_plain k is).digits) in
    omega (arith, first.1)

-- the first such word, which is no element, separates elements from what follows
module _ {X : Type 0} (spell : X → Text) (P : X → Type 0) (word : Text) (apart : (x : X) → P x → spell x ≢ word) where
  pub word_parts : (xs ys : List X) (x y : List Text) → All P xs → All P ys
      → map spell xs ++ word ∷ x ≡ map spell ys ++ word ∷ y → (map spell xs ≡ map spell ys) × (x ≡ y)
  word_parts [] [] x y p q e = (refl, cc)
  word_parts [] (n ∷ ns) x y p q e = absurd (apart n (All-head P n ns q) (cc))
  word_parts (m ∷ ms) [] x y p q e = absurd (apart m (All-head P m ms p) (cc))
  word_parts (m ∷ ms) (n ∷ ns) x y p q e =
      let head : spell m ≡ spell n = cc in
      let more = word_parts ms ns x y (All-tail P m ms p) (All-tail P n ns q) (cc) in
      (ap₂ (λ (f : Text) (fs : List Text). f ∷ fs) head more.0, more.1)

  -- so what follows it after elements is known
  pub behind_word : (rest : List Text) (read : List X) (after : List Text) (xs : List X) (more : List Text)
      → rest ≡ map spell read ++ word ∷ after → All P read → All P xs → rest ≡ map spell xs ++ word ∷ more → after ≡ more
  behind_word rest read after xs more was had are e = (word_parts read xs after more had are (sym was ∙ e)).1

  -- before the word there is a field that is no element
  pub none_before : (done : List X) (field : Text) (rest : List Text) (xs : List X) (more : List Text)
      → field ≢ word → ((x : X) → P x → field ≢ spell x) → All P done → All P xs
      → map spell done ++ field ∷ rest ≡ map spell xs ++ word ∷ more → ⊥
  none_before [] field rest [] more other nay had is e = other (cc)
  none_before [] field rest (x ∷ xs) more other nay had is e = nay x (All-head P x xs is) (cc)
  none_before (d ∷ done) field rest [] more other nay had is e = apart d (All-head P d done had) (cc)
  none_before (d ∷ done) field rest (x ∷ xs) more other nay had is e =
      none_before done field rest xs more other nay (All-tail P d done had) (All-tail P x xs is) (cc)

  -- all fields are elements, so none is the word
  pub none_without : (done : List X) (rest : List Text) (xs : List X) (more : List Text) → rest ≡ [] → All P done
      → map spell done ++ rest ≡ map spell xs ++ word ∷ more → ⊥
  none_without [] rest [] more end had e = cc
  none_without [] rest (x ∷ xs) more end had e = cc
  none_without (d ∷ done) rest [] more end had e = apart d (All-head P d done had) (cc)
  none_without (d ∷ done) rest (x ∷ xs) more end had e = none_without done rest xs more end (All-tail P d done had) (cc)

pub on_parts : (ps qs : List Node) (x y : List Text) → AreSomeNodes ps → AreSomeNodes qs
    → parents ps ++ codes "on" ∷ x ≡ parents qs ++ codes "on" ∷ y → (parents ps ≡ parents qs) × (x ≡ y)
on_parts [] qs x y p q e = absurd (omega (arith, p.1))
on_parts (p ∷ ps) [] x y h q e = absurd (omega (arith, q.1))
on_parts (p ∷ ps) (q ∷ qs) x y h k e =
    let more = word_parts node_text IsNode (codes "on") on_is_no_node (p ∷ ps) (q ∷ qs) x y h.0 k.0 (cc) in
    (ap (λ fs. codes ":" ∷ fs) more.0, more.1)

-- so what follows it after parents is known
pub behind_on : (rest : List Text) (read : List Node) (after : List Text) (ps : List Node) (more : List Text)
    → rest ≡ parents read ++ codes "on" ∷ after → AreSomeNodes read → AreSomeNodes ps → rest ≡ parents ps ++ codes "on" ∷ more → after ≡ more
behind_on rest read after ps more was had some e = (on_parts read ps after more had some (sym was ∙ e)).1

-- after the colon there are no nodes with the word `on` after them
pub none_behind_colon : (colon : Text) (rest : List Text) (ps : List Node) (more : List Text)
    → ((ns : List Node) (m : List Text) → AreSomeNodes ns → rest ≢ map node_text ns ++ codes "on" ∷ m)
    → AreSomeNodes ps → colon ∷ rest ≡ parents ps ++ codes "on" ∷ more → ⊥
none_behind_colon colon rest [] more nay some e = absurd (omega (arith, some.1))
none_behind_colon colon rest (p ∷ ps) more nay some e = nay (p ∷ ps) more some (cc)

-- the word `on` is first, in place of a node
pub none_at_once : (read : List Used) (all rest : List Text) (field : Text) (after : List Text) (ns : List Node) (more : List Text)
    → length read ≡ 0 → all ≡ map node_text (map node_of read) ++ rest → rest ≡ field ∷ after → field ≡ codes "on"
    → AreSomeNodes ns → all ≡ map node_text ns ++ codes "on" ∷ more → ⊥
none_at_once [] all rest field after [] more none before next on some e = absurd (omega (arith, some.1))
none_at_once [] all rest field after (n ∷ ns) more none before next on some e = on_is_no_node n (All-head IsNode n ns some.0) (cc)
none_at_once (u ∷ us) all rest field after ns more none before next on some e = absurd (omega (arith, none))

-- a colon is no name
pub colon_is_no_name : (n : Text) → IsName n → codes ":" ≢ n
colon_is_no_name n is e =
    let first : IsLetter 58 = subst (λ (w : Text). IsLetter (slice_index w 0)) (sym e) is.first in
    omega (arith, first.0)

-- a name with the colon after it is no two names
pub one_before_colon : (m : Text) (ps : List Node) (x : List Text) (t n : Text) (y : List Text) → AreSomeNodes ps → IsName n
    → m ∷ (parents ps ++ x) ≡ t ∷ n ∷ y → ⊥
one_before_colon m [] x t n y some is e = absurd (omega (arith, some.1))
one_before_colon m (p ∷ ps) x t n y some is e = colon_is_no_name n is (cc)

-- what nothing of the one form says, nothing of the other says
pub none_so : {T : Type 0} (o : Option T) (P Q : Type 0) → (P → Q) → IfNone o P → IfNone o Q
none_so None P Q so h = so h
none_so (Some x) P Q so h = tt
