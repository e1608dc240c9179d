-- The results of a request, a drop and a dismissal.
use Rattle.gl_header.proofs.Words.{◌<◌, ◌||◌, ◌∙◌, ◌≡◌, ◌≢◌, and_both, ap, asked_queue, Bool, false, fits, HeaderState, holds, if◌then◌else◌, is_among_waiters}
use Rattle.gl_header.proofs.Words.{is_empty, is_entry, is_granted, IsLawful, IsOrderly, List, Members, members_of, Mode, most_slots, NL, not_NL, placed}
use Rattle.gl_header.proofs.Words.{placed_in, refl, slot_limit, supremum-above, supremum-not_NL, true, Waiter, wanted, with_mode, ℕ}
use Rattle.gl_header.proofs.Queues.{is_entry-from}
use Rattle.gl_header.proofs.Placing.{placed-list}
use Rattle.gl_header.proofs.Orderly.{orderly-placed_in, orderly-with_mode, stuck-placed_in, stuck-with_mode}

-- laws of equal members and queues

pub orderly-by : (g g' : Members) (q q' : List Waiter) → g ≡ g' → q ≡ q' → IsOrderly g' q' → IsOrderly g q
orderly-by g g' q q' e f o = rw (e, f) o

pub lawful-by : (g g' : Members) (q q' : List Waiter) → g ≡ g' → q ≡ q' → IsLawful g' q' → IsLawful g q
lawful-by g g' q q' e f l = rw (e, f) l

-- a grant at once
pub lawful-granted : (h : HeaderState) (s : ℕ) (m w : Mode) (g : Members) → IsLawful (members_of h) h.queue → is_among_waiters s h.queue ≡ false
    → s < most_slots → is_granted h s m ≡ true → w ≡ wanted h s m → g ≡ with_mode (members_of h) s w → IsLawful g h.queue
lawful-granted h s m w g l q b k e f =
    let fit : fits slot_limit (members_of h) s (wanted h s m) ≡ true =
    (and_both (fits slot_limit (members_of h) s (wanted h s m)) (holds (members_of h) s || is_empty h.queue) k).0 in
    lawful-by g (with_mode (members_of h) s (wanted h s m)) h.queue h.queue (f ∙ ap (with_mode (members_of h) s) e) refl
    (record {
      orderly = orderly-with_mode (members_of h) h.queue s (wanted h s m) l.orderly q fit b;
      stuck = stuck-with_mode (members_of h) h.queue s (wanted h s m) l.orderly.within b l.stuck (supremum-above (members_of h s) m);
    })

-- a wait
pub lawful-waiting : (h : HeaderState) (s : ℕ) (m w : Mode) (q : List Waiter) → IsLawful (members_of h) h.queue
    → is_among_waiters s h.queue ≡ false → s < most_slots → m ≢ NL → is_granted h s m ≡ false → w ≡ wanted h s m
    → q ≡ placed_in (members_of h) h.queue (s, w) → IsLawful (members_of h) q
lawful-waiting h s m w q l none b n k e f =
    lawful-by (members_of h) (members_of h) q (placed_in (members_of h) h.queue (s, wanted h s m)) refl
    (f ∙ ap (λ x. placed_in (members_of h) h.queue (s, x)) e)
    (record {
      orderly = orderly-placed_in (members_of h) h.queue (s, wanted h s m) l.orderly none entry (supremum-above (members_of h s) m);
      stuck = stuck-placed_in (members_of h) h.queue (s, wanted h s m) l.stuck k;
    })
  where
    entry : is_entry (s, wanted h s m) ≡ true
    entry = is_entry-from s (wanted h s m) b (λ z. cc (supremum-not_NL (members_of h s) m (not_NL m n), z))

else_chosen : {A : Type 0} (a b c : A) (t : Bool) → t ≡ false → c ≡ b → c ≡ (if t then a else b)
else_chosen a b c t h e = rw h e

pub queue-waiting : (h : HeaderState) (s : ℕ) (m w : Mode) (q : List Waiter) → IsOrderly (members_of h) h.queue → is_granted h s m ≡ false
    → w ≡ wanted h s m → q ≡ placed_in (members_of h) h.queue (s, w) → q ≡ asked_queue h s m
queue-waiting h s m w q o k e f =
    else_chosen h.queue (placed (members_of h) h.queue s (wanted h s m)) q (is_granted h s m) k
    (f ∙ (placed-list (members_of h) h.queue s w o.ordered ∙ ap (placed (members_of h) h.queue s) e))
