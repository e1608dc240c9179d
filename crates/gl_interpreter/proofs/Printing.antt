-- The texts that are printed, piece by piece.
use Rattle.gl_interpreter.proofs.Words.{◌++◌, [], ◌||◌, ◌∙◌, ◌∷◌, ◌≡◌, ap, append-nil, Bool, Command, false, first_unused, if◌then◌else◌, List, node_named}
use Rattle.gl_interpreter.proofs.Words.{NodeId, None, Option, refl, Refusal, Script, Some, some_unused, sym, true, true≢false, ℕ}
use Rattle.std.proofs.Common.{is_none}
use Rattle.gl_modes.specs.declared.refusal.Refusal.TheVariants as no
use Rattle.gl_script.specs.Grammar.{Node, node_text}
use Rattle.gl_script.specs.Views.{node_in}
use Rattle.gl_interpreter.specs.Printed.{place_text, who_text}

-- the text of a used node is its name, and then its place
pub used_text : (name : List ℕ) (o : Option ℕ) → name ++ place_text o ≡ node_text (node_in name o)
used_text name None = append-nil name
used_text name (Some k) = refl

module _ (s : Script) where
  -- one node whose name is not in use, and what follows it
  pub head_unused : (n : Node) (ns : List Node) → is_none (node_named s n) ≡ true → (first_unused s (n ∷ ns) ≡ first_unused s (n ∷ []))
      × (some_unused s (n ∷ ns) ≡ true)
  head_unused n ns h = (
    ap (λ b. if b then 32 ∷ node_text n else first_unused s ns) h
        ∙ ap (λ b. if b then 32 ∷ node_text n else []) (sym h),
    ap (λ b. b || some_unused s ns) h,
  )

  -- one whose name is in use, and what follows it
  pub head_used : (n : Node) (ns : List Node) → is_none (node_named s n) ≡ false → (first_unused s (n ∷ ns) ≡ first_unused s ns)
      × (some_unused s (n ∷ ns) ≡ some_unused s ns)
  head_used n ns h = (ap (λ b. if b then 32 ∷ node_text n else first_unused s ns) h, ap (λ b. b || some_unused s ns) h)

  -- of two lists, the first with such a node decides
  pub unused_in_first : (ns ms : List Node) → some_unused s ns ≡ true → first_unused s (ns ++ ms) ≡ first_unused s ns
  unused_in_first [] ms h = absurd (true≢false (sym h))
  unused_in_first (n ∷ ns) ms h = by (is_none (node_named s n)) h (unused_in_first ns ms)
    where
      by : (b : Bool) → (b || some_unused s ns) ≡ true → (some_unused s ns ≡ true → first_unused s (ns ++ ms) ≡ first_unused s ns)
          → (if b then 32 ∷ node_text n else first_unused s (ns ++ ms)) ≡ (if b then 32 ∷ node_text n else first_unused s ns)
      by true some later = refl
      by false some later = later some

  pub unused_in_second : (ns ms : List Node) → some_unused s ns ≡ false → first_unused s (ns ++ ms) ≡ first_unused s ms
  unused_in_second [] ms h = refl
  unused_in_second (n ∷ ns) ms h = by (is_none (node_named s n)) h (unused_in_second ns ms)
    where
      by : (b : Bool) → (b || some_unused s ns) ≡ false → (some_unused s ns ≡ false → first_unused s (ns ++ ms) ≡ first_unused s ms)
          → (if b then 32 ∷ node_text n else first_unused s (ns ++ ms)) ≡ first_unused s ms
      by true some later = absurd (true≢false some)
      by false some later = later some

  -- nothing is printed if all are in use
  pub none_unused : (ns : List Node) → some_unused s ns ≡ false → first_unused s ns ≡ []
  none_unused ns h = ap (first_unused s) (sym (append-nil ns)) ∙ unused_in_second ns [] h

  -- the other refusals name nothing
  pub names_nobody : (c : Command) (r : Refusal) → ¬ (r ≡ no.NoSuchNode) → ¬ (r ≡ no.NoSuchTxn) → ¬ (r ≡ no.NameTaken)
      → ((n : NodeId) → ¬ (r ≡ no.NeedParents n)) → ((n : NodeId) → ¬ (r ≡ no.HeldChild n)) → ((n : NodeId) → ¬ (r ≡ no.Cycle n))
      → who_text s c r ≡ []
  names_nobody c no.NoSuchNode a1 a2 a3 a4 a5 a6 = absurd (a1 refl)
  names_nobody c no.NoSuchTxn a1 a2 a3 a4 a5 a6 = absurd (a2 refl)
  names_nobody c no.NameTaken a1 a2 a3 a4 a5 a6 = absurd (a3 refl)
  names_nobody c (no.NeedParents n) a1 a2 a3 a4 a5 a6 = absurd (a4 n refl)
  names_nobody c (no.HeldChild n) a1 a2 a3 a4 a5 a6 = absurd (a5 n refl)
  names_nobody c (no.Cycle n) a1 a2 a3 a4 a5 a6 = absurd (a6 n refl)
  names_nobody c _ a1 a2 a3 a4 a5 a6 = refl
