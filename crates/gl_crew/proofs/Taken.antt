-- What is collected from the sessions, one after another.
use Rattle.std.proofs.Common.{◌≡◌, ◌∙◌, ap, sym, ℕ, List, [], ◌∷◌, ◌++◌, All, map, Option, Some, None}
use Rattle.std.proofs.lemmas.List.{map-append}
use Rattle.std.proofs.lemmas.List.Elements.{All-cons, All-head, All-nil, All-tail}
use Rattle.gl_crew.specs.Crews.{HasServed, IsFaultless}
use Rattle.gl_crew.specs.declared.fault.CrewFault.{CrewFault}

-- one session more, of which the same is collected
pub taken_more : {A X Y : Type 0} (f : X → Y) (h : A → Y) (xs zs : List X) (ys : List A) (x : X) (y : A) → zs ≡ xs ++ x ∷ [] → h y ≡ f x
    → map f xs ≡ map h ys → map f zs ≡ map h (ys ++ y ∷ [])
taken_more f h xs zs ys x y is one same =
    ap (map f) is ∙ map-append f xs (x ∷ []) ∙ ap (λ l. l ++ f x ∷ []) same ∙ ap (λ (k : _). map h ys ++ k ∷ []) (sym one) ∙ sym (map-append h ys (y ∷ []))

pub listed_more : {A X : Type 0} (h : A → X) (xs zs : List X) (ys : List A) (y : A) → zs ≡ xs ++ h y ∷ [] → xs ≡ map h ys → zs ≡ map h (ys ++ y ∷ [])
listed_more h xs zs ys y is same = is ∙ ap (λ l. l ++ h y ∷ []) same ∙ sym (map-append h ys (y ∷ []))

some_equal : (n k : ℕ) (share : Option ℕ) → Some n ≡ share → share ≡ Some k → n ≡ k
some_equal n k share e f = cc

head_equal : (n : ℕ) (o : Option ℕ) (xs ys : List (Option ℕ)) → Some n ∷ xs ≡ o ∷ ys → Some n ≡ o
head_equal n o xs ys e = cc

tail_equal : (n : ℕ) (o : Option ℕ) (xs ys : List (Option ℕ)) → Some n ∷ xs ≡ o ∷ ys → xs ≡ ys
tail_equal n o xs ys e = cc

no_list : (n : Option ℕ) (xs : List (Option ℕ)) → n ∷ xs ≡ [] → ⊥
no_list n xs e = cc

no_place : (o : Option ℕ) (ys : List (Option ℕ)) → [] ≡ o ∷ ys → ⊥
no_place o ys e = cc

-- if no session met a fault, each share has this amount
pub served_amounts :
    {A : Type 0} (share : A → Option ℕ) (fault : A → Option CrewFault) (amount : ℕ) (places : List A) (ns : List ℕ) →
    All (λ s. HasServed amount (share s) (fault s)) places → map (λ n. Some n) ns ≡ map share places → IsFaultless (map fault places) → All (λ n. n ≡ amount) ns
served_amounts share fault amount [] [] had same none = All-nil (λ n. n ≡ amount)
served_amounts share fault amount [] (n ∷ ns) had same none = absurd (no_list (Some n) (map (λ n. Some n) ns) same)
served_amounts share fault amount (s ∷ places) [] had same none = absurd (no_place (share s) (map share places) same)
served_amounts share fault amount (s ∷ places) (n ∷ ns) had same none =
    let Q : Option CrewFault → Type 0 = λ f. f ≡ None in
    let here = head_equal n (share s) (map (λ n. Some n) ns) (map share places) same in
    let one = some_equal n amount (share s) here
    ((All-head (λ s. HasServed amount (share s) (fault s)) s places had).1 (All-head Q (fault s) (map fault places) none)) in
    let rest = served_amounts share fault amount places ns (All-tail (λ s. HasServed amount (share s) (fault s)) s places had)
    (tail_equal n (share s) (map (λ n. Some n) ns) (map share places) same) (All-tail Q (fault s) (map fault places) none) in
    All-cons (λ n. n ≡ amount) n ns one rest
