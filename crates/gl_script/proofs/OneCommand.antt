-- A line is at most one command or listing: its first field is the verb or the topic, and names, modes, nodes, numbers and lists of them have one text.
use Rattle.std.proofs.Common.{◌≡◌, ◌≢◌, ℕ, ◌==◌, Bool, List, [], ◌∷◌, ◌++◌, All, append-nil, map, codes, decimal, refl, sym, ap, ap₂, ◌∙◌, subst, rules}
use Rattle.std.specs.List.{slice_split}
use Rattle.std.proofs.lemmas.Fmt.{decimal_injective}
use Rattle.std.proofs.lemmas.List.Elements.{All-head, All-tail}
use Rattle.gl_modes.proofs.Spellings.{mode_text-injective}
use Rattle.gl_script.specs.declared.form.Language.{Language}
use Rattle.gl_script.specs.Grammar.{Text, Command, Inner, File, Index, IndexBy, IndexOver, Begin, BeginAgain, Join, Insert, Adopt, Forget, Rekey, Move}
use Rattle.gl_script.specs.Grammar.{Split, Merge, Group, OfTxn, OfLock, OfRequest, OfRemoval, OfNumber}
use Rattle.gl_script.specs.Grammar.{Listing, Holders, Queue, Locks, Waits, Txns, Cycle, Line, Orders}
use Rattle.gl_script.specs.Grammar.{Node, Plain, Interval, IsCommand, IsListing, IsNode, IsNumber, AreSomeNodes, node_text, parents, parts, verb_of}
use Rattle.gl_script.specs.Grammar.{Lists, fields, listing_fields, with_records, SaysFields, ListsFields, LineFields, LineSaysOneCommand}
use Rattle.gl_script.proofs.Splitting.{cut_once, has_byte}
use Rattle.gl_script.proofs.NodeTexts.{name_no_dot}
use Rattle.gl_script.proofs.ListTexts.{at_is_no_node, none_without, on_parts, one_before_colon, with_is_no_number, word_parts}
use Rattle.gl_script.proofs.Verbs.{first_topic, one_verb, same_parts, verb_no_topic}

-- a node has one text
one_node : (m n : Node) → IsNode m → IsNode n → node_text m ≡ node_text n → m ≡ n
one_node (Plain a) (Plain b) p q e = ap Plain e
one_node (Plain a) (Interval b k) p q e = absurd (has_byte 46 b (decimal k) (subst (All (λ u. u ≢ 46)) e (name_no_dot a p)))
one_node (Interval a j) (Plain b) p q e = absurd (has_byte 46 a (decimal j) (subst (All (λ u. u ≢ 46)) (sym e) (name_no_dot b q)))
one_node (Interval a j) (Interval b k) p q e =
    let cut = cut_once 46 a b (decimal j) (decimal k) (name_no_dot a p.0) (name_no_dot b q.0) e in
    ap₂ Interval cut.0 (decimal_injective j k p.1 q.1 cut.1)

-- so has a list
one_list : {X : Type 0} (spell : X → Text) (P : X → Type 0) → ((x y : X) → P x → P y → spell x ≡ spell y → x ≡ y)
    → (xs ys : List X) → All P xs → All P ys → map spell xs ≡ map spell ys → xs ≡ ys
one_list spell P one [] [] p q e = refl
one_list spell P one [] (y ∷ ys) p q e = cc
one_list spell P one (x ∷ xs) [] p q e = cc
one_list {X} spell P one (x ∷ xs) (y ∷ ys) p q e =
    let head : spell x ≡ spell y = cc in
    let tail : map spell xs ≡ map spell ys = cc in
    ap₂ (λ (z : X) (zs : List X). z ∷ zs) (one x y (All-head P x xs p) (All-head P y ys q) head)
    (one_list spell P one xs ys (All-tail P x xs p) (All-tail P y ys q) tail)

one_parents : (ps qs : List Node) → All IsNode ps → All IsNode qs → parents ps ≡ parents qs → ps ≡ qs
one_parents [] [] p q e = refl
one_parents [] (n ∷ ns) p q e = cc
one_parents (m ∷ ms) [] p q e = cc
one_parents (m ∷ ms) (n ∷ ns) p q e = one_list node_text IsNode one_node (m ∷ ms) (n ∷ ns) p q (cc)

one_numbers : (js ks : List ℕ) → All IsNumber js → All IsNumber ks → map decimal js ≡ map decimal ks → js ≡ ks
one_numbers js ks p q e = one_list decimal IsNumber decimal_injective js ks p q e

-- so has what follows the name of an index
one_index : (ps qs : List Node) (g h : Text) (ks bs : List ℕ) → AreSomeNodes ps → AreSomeNodes qs → All IsNumber ks → All IsNumber bs
    → parents ps ++ codes "on" ∷ g ∷ codes "at" ∷ map decimal ks ≡ parents qs ++ codes "on" ∷ h ∷ codes "at" ∷ map decimal bs
    → (ps ≡ qs) × (g ≡ h) × (ks ≡ bs)
one_index ps qs g h ks bs p q a b e =
    let cut = on_parts ps qs _ _ p q e in
    let behind : g ∷ codes "at" ∷ map decimal ks ≡ h ∷ codes "at" ∷ map decimal bs = cut.1 in
    (one_parents ps qs p.0 q.0 cut.0, cc, one_numbers ks bs a b (cc))

-- so have bounds, records and keys
one_over : (ks bs : List ℕ) (rs ns : List Node) (js cs : List ℕ) → All IsNumber ks → All IsNumber bs → All IsNode rs → All IsNode ns
    → All IsNumber js → All IsNumber cs → with_records ks rs js ≡ with_records bs ns cs → (ks ≡ bs) × (rs ≡ ns) × (js ≡ cs)
one_over ks bs rs ns js cs a b p q x y e =
    let front = word_parts decimal IsNumber (codes "with") with_is_no_number ks bs (map node_text rs ++ codes "at" ∷ map decimal js)
    (map node_text ns ++ codes "at" ∷ map decimal cs) a b e in
    let back = word_parts node_text IsNode (codes "at") at_is_no_node rs ns (map decimal js) (map decimal cs) p q front.1 in
    (one_numbers ks bs a b front.0, one_list node_text IsNode one_node rs ns p q back.0, one_numbers js cs x y back.1)

-- what follows the name of an index names no records, or does
not_over : (ps qs : List Node) (g h : Text) (ks bs : List ℕ) (rs : List Node) (js : List ℕ) → AreSomeNodes ps → AreSomeNodes qs → All IsNumber ks
    → parents ps ++ codes "on" ∷ g ∷ codes "at" ∷ map decimal ks ≡ parents qs ++ codes "on" ∷ h ∷ codes "at" ∷ with_records bs rs js → ⊥
not_over ps qs g h ks bs rs js p q a e =
    let cut = on_parts ps qs _ _ p q e in
    let behind : map decimal ks ≡ with_records bs rs js = cc in
    none_without decimal IsNumber (codes "with") with_is_no_number ks [] bs (map node_text rs ++ codes "at" ∷ map decimal js) refl a
    (append-nil (map decimal ks) ∙ behind)

-- two commands of one verb with the same fields after it are one
one_of_parts : (c d : Command) → IsCommand c → IsCommand d → verb_of c ≡ verb_of d → parts c ≡ parts d → c ≡ d
one_of_parts (Inner m ps) (Inner n qs) p q v e = let others : ps ≡ qs = one_parents ps qs p.1 q.1 (cc) in cc
one_of_parts (File m ps) (File n qs) p q v e = let others : ps ≡ qs = one_parents ps qs p.1.0 q.1.0 (cc) in cc
one_of_parts (Index m ps g ks) (Index n qs h bs) p q v e =
    let same = one_index ps qs g h ks bs p.1 q.1 p.3 q.3 (cc) in
    let name : m ≡ n = cc in
    λ i. Index (name i) (same.0 i) (same.1 i) (same.2 i)
one_of_parts (IndexBy s m ps g ks) (IndexBy t n qs h bs) p q v e =
    let same = one_index ps qs g h ks bs p.2 q.2 p.4 q.4 (cc) in
    let txn : s ≡ t = cc in
    let name : m ≡ n = cc in
    λ i. IndexBy (txn i) (name i) (same.0 i) (same.1 i) (same.2 i)
one_of_parts (IndexOver s m ps g ks rs js) (IndexOver t n qs h bs ns cs) p q v e =
    let txn : s ≡ t = cc in
    let name : m ≡ n = cc in
    let cut = on_parts ps qs _ _ p.2 q.2 (cc) in
    let behind : g ∷ codes "at" ∷ with_records ks rs js ≡ h ∷ codes "at" ∷ with_records bs ns cs = cut.1 in
    let others = one_parents ps qs p.2.0 q.2.0 cut.0 in
    let file : g ≡ h = cc in
    let over = one_over ks bs rs ns js cs p.4 q.4 p.5 q.5 p.6 q.6 (cc) in
    λ i. IndexOver (txn i) (name i) (others i) (file i) (over.0 i) (over.1 i) (over.2 i)
one_of_parts (Begin s) (Begin t) p q v e = cc
one_of_parts (BeginAgain s j) (BeginAgain t k) p q v e = let since : j ≡ k = decimal_injective j k p.1 q.1 (cc) in cc
one_of_parts (Join s m j) (Join t n k) p q v e =
    let slot : m ≡ n = decimal_injective m n p.1 q.1 (cc) in
    let since : j ≡ k = decimal_injective j k p.2 q.2 (cc) in cc
one_of_parts (Insert s m g js) (Insert t n h ks) p q v e = let keys : js ≡ ks = one_numbers js ks p.3 q.3 (cc) in cc
one_of_parts (Adopt m g js) (Adopt n h ks) p q v e = let keys : js ≡ ks = one_numbers js ks p.2 q.2 (cc) in cc
one_of_parts (Forget m) (Forget n) p q v e = cc
one_of_parts (Rekey s m g j) (Rekey t n h k) p q v e = let key : j ≡ k = decimal_injective j k p.3 q.3 (cc) in cc
one_of_parts (Move s m ps) (Move t n qs) p q v e =
    let node : m ≡ n = one_node m n p.1 q.1 (cc) in
    let others : ps ≡ qs = one_parents ps qs p.2 q.2 (cc) in cc
one_of_parts (Split s m j) (Split t n k) p q v e =
    let node : m ≡ n = one_node m n p.1 q.1 (cc) in
    let bound : j ≡ k = decimal_injective j k p.2 q.2 (cc) in cc
one_of_parts (Merge s m) (Merge t n) p q v e = let node : m ≡ n = one_node m n p.1 q.1 (cc) in cc
one_of_parts (Group m) (Group n) p q v e = ap Group (one_node m n p q (cc))
one_of_parts (OfTxn a s) (OfTxn b t) p q v e = cc
one_of_parts (OfLock a s m) (OfLock b t n) p q v e = let node : m ≡ n = one_node m n p.1 q.1 (cc) in cc
one_of_parts (OfRequest a s x m) (OfRequest b t y n) p q v e =
    let mode : x ≡ y = mode_text-injective x y (cc) in
    let node : m ≡ n = one_node m n p.1 q.1 (cc) in cc
one_of_parts (OfRemoval a s m) (OfRemoval b t n) p q v e = cc
one_of_parts (OfNumber a s j) (OfNumber b t k) p q v e = let number : j ≡ k = decimal_injective j k p.1 q.1 (cc) in cc
one_of_parts (Index m ps g ks) (IndexBy t n qs h bs) p q v e = absurd (one_before_colon m ps _ t n _ p.1 q.1 e)
one_of_parts (IndexBy t n qs h bs) (Index m ps g ks) p q v e = absurd (one_before_colon m ps _ t n _ q.1 p.1 (sym e))
one_of_parts (Index m ps g ks) (IndexOver t n qs h bs ns cs) p q v e = absurd (one_before_colon m ps _ t n _ p.1 q.1 e)
one_of_parts (IndexOver t n qs h bs ns cs) (Index m ps g ks) p q v e = absurd (one_before_colon m ps _ t n _ q.1 p.1 (sym e))
one_of_parts (IndexBy s m ps g ks) (IndexOver t n qs h bs ns cs) p q v e = absurd (not_over ps qs g h ks bs ns cs p.2 q.2 p.4 (cc))
one_of_parts (IndexOver t n qs h bs ns cs) (IndexBy s m ps g ks) p q v e = absurd (not_over ps qs g h ks bs ns cs q.2 p.2 q.4 (cc))
one_of_parts c d p q v e = cc

one_of_listed : (c d : Listing) → IsListing c → IsListing d → listing_fields c ≡ listing_fields d → c ≡ d
one_of_listed (Holders m) (Holders n) p q e = ap Holders (one_node m n p q (cc))
one_of_listed (Queue m) (Queue n) p q e = ap Queue (one_node m n p q (cc))
one_of_listed (Locks s) (Locks t) p q e = cc
one_of_listed (Waits s) (Waits t) p q e = cc
one_of_listed Txns Txns p q e = refl
one_of_listed Cycle Cycle p q e = refl
one_of_listed c d p q e = search rules

-- a listing's line has a field
some_topic : (l : Listing) → [] ≡ listing_fields l → ⊥
some_topic (Holders n) e = cc
some_topic l e = cc

-- no fields are those of a command and those of a listing: verbs are no topics
not_both : (g : Language) (had : Bool) (all : List Text) (c : Command) (l : Listing) → SaysFields g all c → ListsFields had all l → ⊥
not_both g had [] c l p q = some_topic l q.2
not_both g had (f ∷ rest) c l p q =
    let topic = first_topic f rest l q.2 in
    verb_no_topic (verb_of c) topic.0 (sym (same_parts f rest c p.2).0 ∙ topic.1)

one_of_line : (g : Language) (all : List Text) (c d : Line) → LineFields g all c → LineFields g all d → c ≡ d
one_of_line g all (Orders c) (Orders d) p q =
    let same : fields c ≡ fields d = sym p.2 ∙ q.2 in
    ap Orders (one_of_parts c d p.0 q.0 (one_verb (verb_of c) (verb_of d) (cc)) (cc))
one_of_line g all (Orders c) (Lists l) p q = absurd (not_both g g.listings all c l p q)
one_of_line g all (Lists l) (Orders d) p q = absurd (not_both g g.listings all d l q p)
one_of_line g all (Lists l) (Lists m) p q = ap Lists (one_of_listed l m p.0 q.0 (sym p.2 ∙ q.2))

pub one_command : LineSaysOneCommand
one_command g text c d p q = one_of_line g (slice_split (λ b. b == 32) text) c d p q
