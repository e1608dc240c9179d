-- A request for no more than is held: it is granted at once, and changes nothing. For requests.
use Rattle.gl_table.proofs.Words.{◌&&◌, ◌==◌, ◌∙◌, ◌≡◌, ◌≢◌, and_both, ap, ap₂, are_compatible, AreHeaders, at_least-not_NL, both, clash, enters_at, fun_ext}
use Rattle.gl_table.proofs.Words.{granted, HasAsked, header_at, header_or_new, HeaderState, held_of, holds, if-false, if-true, if◌then◌else◌, is_at_least}
use Rattle.gl_table.proofs.Words.{is_granted_at, IsLawfulHeader, Ledger, MayAct, members_of, Mode, NL, NodeId, None, not, not_NL, Option, or_left, refl}
use Rattle.gl_table.proofs.Words.{same_mode-equal, same_node, same_node-equal, same_number, slot_limit, Some, split, State, state_in, supremum, sym, true}
use Rattle.gl_table.proofs.Words.{unused-nobody, View, ℕ}
use Rattle.gl_header.specs.State.{is_granted, wanted}
use Rattle.gl_header.specs.declared.header.Asked.TheVariants as asked
use Rattle.gl_header.proofs.Fits.{fits-from_all}
use Rattle.gl_modes.proofs.ModeLemmas.{supremum-covers}
use Rattle.gl_table.proofs.inside.Asks.{says_is}

-- what is held is all that is wanted
covered-wanted : (a b : Mode) → is_at_least a b ≡ true → supremum a b ≡ a
covered-wanted a b h = same_mode-equal (supremum a b) a (supremum-covers a b ∙ h)

covered-granted : (h : HeaderState) (t : ℕ) (m : Mode) → IsLawfulHeader h → m ≢ NL → is_at_least (members_of h t) m ≡ true → is_granted h t m ≡ true
covered-granted h t m law lock covers =
    let held : holds (members_of h) t ≡ true = ap not (at_least-not_NL (members_of h t) m covers (not_NL m lock)) in
    both _ _
    (fits-from_all slot_limit (members_of h) t (wanted h t m)
    (λ u ne. ap (λ k. are_compatible k (members_of h u)) (covered-wanted (members_of h t) m covers) ∙ law.compatible t u (λ e. ne (sym e))))
    (or_left _ _ held)

module _ (g : View) (l : Ledger) (t : ℕ) (n : NodeId) (m : Mode) (may : MayAct g l t) (headers : AreHeaders l.headers.entries) (lock : m ≢ NL)
    (covers : is_at_least (held_of l.headers.entries t n) m ≡ true) where
  abbrev s : State
  s = state_in g l

  says : is_granted_at l.headers.entries t n m ≡ true
  says = by (header_at l.headers.entries n) refl
    where
      by : (o : Option HeaderState) → header_at l.headers.entries n ≡ o → is_granted (header_or_new (header_at l.headers.entries n)) t m ≡ true
      by None e = absurd (clash refl (at_least-not_NL NL m (sym (ap (λ x. is_at_least (members_of (header_or_new x) t) m) e
          ∙ ap (λ f. is_at_least (f t) m) unused-nobody) ∙ covers) (not_NL m lock)))
      by (Some h) e = ap (λ x. is_granted (header_or_new x) t m) e
          ∙ covered-granted h t m (headers.lawful n h e) lock (sym (ap (λ x. is_at_least (members_of (header_or_new x) t) m) e) ∙ covers)

  enters : enters_at s t n m ≡ true
  enters = sym (says_is g l t n m may) ∙ says

  stays : s ≡ granted s t n m
  stays = ap (λ h. record s { held = h }) (fun_ext (λ u. fun_ext (λ q. sym (split ((u == t) && same_node q n)
      (λ e. let b = and_both (u == t) (same_node q n) e in
      if-true _ e ∙ covered-wanted (s.held t n) m covers ∙ ap₂ s.held (sym (same_number u t b.0)) (sym (same_node-equal q n b.1)))
      (λ e. if-false _ e)))))

  -- so the answer is what is held
  pub covered-asked : HasAsked s s t n m (asked.Granted (s.held t n))
  covered-asked = record {
    answered = sym (ap (λ b. if b then asked.Granted (supremum (s.held t n) m) else asked.Waiting) enters
        ∙ ap asked.Granted (covered-wanted (s.held t n) m covers));
    enters = λ e. stays;
    waits = λ e. absurd (clash enters e);
  }
