-- How a change of one node's header changes all headers. For the headers, and for the crates above.
use Rattle.gl_header.proofs.Words.{◌&&◌, ◌++◌, [], ◌∙◌, ◌∷◌, ◌≡◌, ◌≢◌, ap, arith, asked_members, asked_queue, Bool, cases_of, clash, cond, enters, Entries}
use Rattle.gl_header.proofs.Words.{false, filter, fun_ext, group_of, header_at, header_or_new, HeaderState, held_of, holds, if◌then◌else◌, is_among_waiters}
use Rattle.gl_header.proofs.Words.{is_empty, is_granted, is_unused, IsLawfulHeader, List, Members, members_at, members_of, Mode, nat_tests, NL, NL-compatible}
use Rattle.gl_header.proofs.Words.{NodeId, not, not_NL, not_true, Option, placed, queue_of, refl, same_mode, same_node, same_node-equal, same_node-sym, Some}
use Rattle.gl_header.proofs.Words.{split, supremum-not_NL, sym, true, unused_header, Waiter, wanted, with_members, with_mode, with_waiters, ℕ}
use Rattle.gl_header.proofs.Fits.{fits-from_all}
use Rattle.gl_header.proofs.GroupOf.{group_of-unique}
use Rattle.gl_header.proofs.Unused.{unused-nobody, unused-true}

-- n has the header o now, and each other node has what it had
pub record IsChanged (hs hs' : Entries) (n : NodeId) (o : Option HeaderState) : Type 0 where
  pub at : (q : NodeId) → header_at hs' q ≡ cond (same_node n q) o (header_at hs q)

-- the grants and the queues after a change

pub held-changed : (hs hs' : Entries) (n : NodeId) (o : Option HeaderState) (ms : Members) → IsChanged hs hs' n o → members_of (header_or_new o) ≡ ms
    → held_of hs' ≡ with_members (held_of hs) n ms
held-changed hs hs' n o ms c e =
    fun_ext (λ u. fun_ext (λ q. ap (λ x. members_of (header_or_new x) u) (c.at q)
    ∙ (by u q (same_node n q) ∙ ap (λ b. if b then ms u else held_of hs u q) (same_node-sym n q))))
  where
    by : (u : ℕ) (q : NodeId) (b : Bool) → members_of (header_or_new (cond b o (header_at hs q))) u ≡ (if b then ms u else held_of hs u q)
    by u q true = ap (λ g. g u) e
    by u q false = refl

pub queue-changed : (hs hs' : Entries) (n : NodeId) (o : Option HeaderState) (ws : List Waiter) → IsChanged hs hs' n o → (header_or_new o).queue ≡ ws
    → queue_of hs' ≡ with_waiters (queue_of hs) n ws
queue-changed hs hs' n o ws c e =
    fun_ext (λ q. ap (λ x. (header_or_new x).queue) (c.at q) ∙ (by q (same_node n q) ∙ ap (λ b. if b then ws else queue_of hs q) (same_node-sym n q)))
  where
    by : (q : NodeId) (b : Bool) → (header_or_new (cond b o (header_at hs q))).queue ≡ (if b then ws else queue_of hs q)
    by q true = e
    by q false = refl

-- writing a node's own header again changes nothing

pub with_members-same : (held : ℕ → NodeId → Mode) (n : NodeId) (ms : Members) → ((u : ℕ) → ms u ≡ held u n) → with_members held n ms ≡ held
with_members-same held n ms e = fun_ext (λ u. fun_ext (λ q. by u q (same_node q n) refl))
  where
    by : (u : ℕ) (q : NodeId) (b : Bool) → same_node q n ≡ b → (if b then ms u else held u q) ≡ held u q
    by u q true k = e u ∙ ap (held u) (sym (same_node-equal q n k))
    by u q false k = refl

pub with_waiters-same : (queue : NodeId → List Waiter) (n : NodeId) (ws : List Waiter) → ws ≡ queue n → with_waiters queue n ws ≡ queue
with_waiters-same queue n ws e = fun_ext (λ q. by q (same_node q n) refl)
  where
    by : (q : NodeId) (b : Bool) → same_node q n ≡ b → (if b then ws else queue q) ≡ queue q
    by q true k = e ∙ ap queue (sym (same_node-equal q n k))
    by q false k = refl

-- a holder or waiter of a node is in a header of the node
pub has_header : (hs : Entries) (n : NodeId) (test : HeaderState → Bool) → test unused_header ≡ false → test (header_or_new (header_at hs n)) ≡ true
    → (h : HeaderState) × (header_at hs n ≡ Some h)
has_header hs n test un is =
    cases_of (header_at hs n) (λ none. clash (sym (ap (λ o. test (header_or_new o)) none) ∙ is) un) (λ h some. (h, some))

pub has_holder : (hs : Entries) (n : NodeId) (t : ℕ) → holds (members_at hs n) t ≡ true → (h : HeaderState) × (header_at hs n ≡ Some h)
has_holder hs n t = has_header hs n (λ h. holds (members_of h) t) (ap (λ (g : Members). holds g t) unused-nobody)

pub has_waiter : (hs : Entries) (n : NodeId) (t : ℕ) → is_among_waiters t (queue_of hs n) ≡ true → (h : HeaderState) × (header_at hs n ≡ Some h)
has_waiter hs n t = has_header hs n (λ h. is_among_waiters t h.queue) refl

-- The result of a request.

-- w is the header h after a request of t for m
pub record IsAsked (h : HeaderState) (t : ℕ) (m : Mode) (w : HeaderState) : Type 0 where
  pub members : members_of w ≡ asked_members h t m
  pub queue : w.queue ≡ asked_queue h t m

-- what holds of a header holds of its equal
pub asked-is : (h k : HeaderState) (t : ℕ) (m : Mode) (w : HeaderState) → h ≡ k → members_of w ≡ asked_members h t m → w.queue ≡ asked_queue h t m
    → IsAsked k t m w
asked-is h k t m w same e f = record {
  members = e ∙ ap (λ x. asked_members x t m) same;
  queue = f ∙ ap (λ x. asked_queue x t m) same;
}

-- the mode is the slot's now
with_mode-here : (g : Members) (t : ℕ) (m : Mode) → with_mode g t m t ≡ m
with_mode-here g t m = grind (arith, nat_tests)

-- a queue with a place for one more is not empty
placed-not_empty : (g : Members) (q : List Waiter) (t : ℕ) (m : Mode) → is_empty (placed g q t m) ≡ false
placed-not_empty g q t m = by (holds g t)
  where
    one : (xs ys : List Waiter) → is_empty (xs ++ (t, m) ∷ ys) ≡ false
    one [] ys = refl
    one (x ∷ xs) ys = refl

    by : (b : Bool) → is_empty (if b then filter (λ w. holds g w.0) q ++ (t, m) ∷ filter (λ w. not (holds g w.0)) q else q ++ (t, m) ∷ []) ≡ false
    by true = one _ _
    by false = one q []

-- a header is used after a request: the slot holds or waits
pub asked-used : (h : HeaderState) (t : ℕ) (m : Mode) (w : HeaderState) → m ≢ NL → IsLawfulHeader w → IsAsked h t m w → is_unused w ≡ false
asked-used h t m w ne l a =
    not_true (is_unused w) (λ u. let none = unused-true w l u in split (is_granted h t m) (λ g. granted g (none.0 t)) (λ g. waits g none.1))
  where
    granted : is_granted h t m ≡ true → members_of w t ≡ NL → ⊥
    granted g e =
        let now : members_of w t ≡ wanted h t m
        = ap (λ ms. ms t) a.members ∙ (ap (λ b. (if b then with_mode (members_of h) t (wanted h t m) else members_of h) t) g
        ∙ with_mode-here (members_of h) t (wanted h t m)) in
        let lock : same_mode (wanted h t m) NL ≡ false = supremum-not_NL (members_of h t) m (not_NL m ne) in
        let is_NL : same_mode (wanted h t m) NL ≡ true = ap (λ x. same_mode x NL) (sym now ∙ e) in
        cc

    waits : is_granted h t m ≡ false → w.queue ≡ [] → ⊥
    waits g e =
        let now : w.queue ≡ placed (members_of h) h.queue t (wanted h t m)
        = a.queue ∙ ap (λ b. if b then h.queue else placed (members_of h) h.queue t (wanted h t m)) g in
        let some : is_empty (placed (members_of h) h.queue t (wanted h t m)) ≡ false = placed-not_empty (members_of h) h.queue t (wanted h t m) in
        let no : is_empty (placed (members_of h) h.queue t (wanted h t m)) ≡ true = ap is_empty (sym now ∙ e) in
        cc

-- the grants and the queues, if the header of n is as after a request
module _ (hs hs' : Entries) (n : NodeId) (t : ℕ) (m : Mode) (w : HeaderState) (c : IsChanged hs hs' n (Some w))
    (a : IsAsked (header_or_new (header_at hs n)) t m w) where
  abbrev h : HeaderState
  h = header_or_new (header_at hs n)

  pub asked-granted : is_granted h t m ≡ true → (held_of hs' ≡ with_members (held_of hs) n (with_mode (members_at hs n) t (wanted h t m)))
      × (queue_of hs' ≡ queue_of hs)
  asked-granted g = (
    held-changed hs hs' n (Some w) _ c (a.members ∙ ap (λ b. if b then with_mode (members_of h) t (wanted h t m) else members_of h) g),
    queue-changed hs hs' n (Some w) h.queue c (a.queue ∙ ap (λ b. if b then h.queue else placed (members_of h) h.queue t (wanted h t m)) g)
        ∙ with_waiters-same (queue_of hs) n h.queue refl,
  )

  pub asked-waits : is_granted h t m ≡ false → (held_of hs' ≡ held_of hs)
      × (queue_of hs' ≡ with_waiters (queue_of hs) n (placed (members_at hs n) (queue_of hs n) t (wanted h t m)))
  asked-waits g = (
    held-changed hs hs' n (Some w) (members_of h) c (a.members ∙ ap (λ b. if b then with_mode (members_of h) t (wanted h t m) else members_of h) g)
        ∙ with_members-same (held_of hs) n (members_of h) (λ u. refl),
    queue-changed hs hs' n (Some w) _ c (a.queue ∙ ap (λ b. if b then h.queue else placed (members_of h) h.queue t (wanted h t m)) g),
  )

-- A node that nobody holds and nobody waits for.

-- the group mode is NL
pub nobody-group : (most : ℕ) → NL ≡ group_of most (λ _. NL)
nobody-group most = group_of-unique most (λ _. NL) NL (λ u h. refl) (λ u. refl) (λ x all. all 0)

-- any requester is granted
pub nobody-enters : (most t : ℕ) (m : Mode) → enters most (λ _. NL) [] t m ≡ true
nobody-enters most t m = ap (λ b. b && true) (fits-from_all most (λ _. NL) t m (λ u ne. NL-compatible m))
