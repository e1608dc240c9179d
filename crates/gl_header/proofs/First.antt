-- The first grant of an unused header: every mode fits. For the group and the header.
use Rattle.gl_header.proofs.Words.{◌&&◌, ◌∙◌, ◌≡◌, ap, ap₂, enters, false, fits, fun_ext, HeaderState, is_among_waiters, is_granted, is_unused, IsLawfulHeader}
use Rattle.gl_header.proofs.Words.{members_of, Mode, NL-compatible, nobody, slot_limit, supremum, sym, true, wanted, ℕ}
use Rattle.gl_header.proofs.Fits.{fits-from_all}
use Rattle.gl_header.proofs.Unused.{unused-true}

-- every mode fits if nobody holds
pub fits-nobody : (t : ℕ) (m : Mode) → fits slot_limit nobody t m ≡ true
fits-nobody t m = fits-from_all slot_limit nobody t m (λ u ne. NL-compatible m)

module _ (h : HeaderState) (l : IsLawfulHeader h) (u : is_unused h ≡ true) (t : ℕ) (m : Mode) where
  pub first-nobody : members_of h ≡ nobody
  first-nobody = fun_ext (unused-true h l u).0

  pub first-free : is_among_waiters t h.queue ≡ false
  first-free = ap (is_among_waiters t) (unused-true h l u).1

  pub first-wanted : m ≡ wanted h t m
  first-wanted = sym (ap (λ g. supremum (g t) m) first-nobody)

  pub first-granted : is_granted h t m ≡ true
  first-granted =
      ap₂ (λ g q. enters slot_limit g q t (supremum (g t) m)) first-nobody (unused-true h l u).1
      ∙ ap (λ b. b && true) (fits-nobody t m)
