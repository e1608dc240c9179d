use Rattle.std.proofs.Common.{◌≡◌, ◌≢◌, ℕ, ◌<◌, ◌^◌, List, ◌∷◌, ◌++◌, All, decimal, sym, ◌∙◌, subst, arith, inl, inr}
use Rattle.std.proofs.lemmas.List.Elements.{All-weaker}
use Rattle.gl_script.specs.Grammar.{Node, Plain, Interval, IsName, IsNode, IsNameByte, node_text}
use Rattle.gl_script.proofs.Splitting.{cut_once, has_byte}

no_dot : (b : ℕ) → IsNameByte b → b ≢ 46
no_dot b (inl h) e = omega (arith, h.0, e)
no_dot b (inr (inl h)) e = omega (arith, h.0, e)
no_dot b (inr (inr h)) e = omega (arith, h, e)

pub name_no_dot : (n : List ℕ) → IsName n → All (λ b. b ≢ 46) n
name_no_dot n h = All-weaker IsNameByte (λ b. b ≢ 46) no_dot n h.rest

pub none_plain : (text : List ℕ) → All (λ b. b ≢ 46) text → (IsName text → ⊥) → (n : Node) → IsNode n → text ≡ node_text n → ⊥
none_plain text whole nay (Plain m) is e = nay (subst IsName (sym e) is)
none_plain text whole nay (Interval m k) is e = has_byte 46 m (decimal k) (subst (All (λ b. b ≢ 46)) e whole)

pub none_front : (text front back : List ℕ) → text ≡ front ++ 46 ∷ back → All (λ b. b ≢ 46) front → (IsName front → ⊥) → (n : Node) → IsNode n
    → text ≡ node_text n → ⊥
none_front text front back cut here nay (Plain m) is e = has_byte 46 front back (subst (All (λ b. b ≢ 46)) (sym e ∙ cut) (name_no_dot m is))
none_front text front back cut here nay (Interval m k) is e =
    nay (subst IsName (sym (cut_once 46 front m back (decimal k) here (name_no_dot m is.0) (sym cut ∙ e)).0) is.0)

pub none_back : (text front back : List ℕ) → text ≡ front ++ 46 ∷ back → All (λ b. b ≢ 46) front → ((k : ℕ) → k < 2 ^ 64 → back ≡ decimal k → ⊥)
    → (n : Node) → IsNode n → text ≡ node_text n → ⊥
none_back text front back cut here nay (Plain m) is e = has_byte 46 front back (subst (All (λ b. b ≢ 46)) (sym e ∙ cut) (name_no_dot m is))
none_back text front back cut here nay (Interval m k) is e =
    nay k is.1 (cut_once 46 front m back (decimal k) here (name_no_dot m is.0) (sym cut ∙ e)).1
