-- What a change at the place of a node does to the headers of all nodes. For the headers.
use Rattle.gl_header.proofs.Words.{◌<◌, [], ◌∙◌, ◌≡◌, ◌≢◌, ⊎_elim, ap, ArePlaces, Bool, cases_lt, cases_of, cond, Entries, entries_in, false, Free, fun_ext}
use Rattle.gl_header.proofs.Words.{get_or_past, header_at, header_in, header_of, header_or_new, HeadersState, HeaderState, Held, held_of, holds}
use Rattle.gl_header.proofs.Words.{is_among_waiters, is_unused, IsLawfulHeader, IsOf, IsPlace, length, List, Members, members_at, members_by, members_of, Mode}
use Rattle.gl_header.proofs.Words.{NL, NodeId, None, not, number_same, Option, Place, place_at, queue_of, refl, same_node, same_node-equal, same_node-sym}
use Rattle.gl_header.proofs.Words.{slice_index_or, slice_set, Some, stands, subst, sym, true, unused_header, Waiter, with_members, with_waiters, ℕ}
use Rattle.std.proofs.lemmas.List.{get_or_default}
use Rattle.std.specs.Prelude.{is_some}
use Rattle.gl_modes.proofs.Words.{no, none_some, some_is}
use Rattle.gl_header.specs.Headers.{HasItsKey, IsFreeKey}
use Rattle.gl_header.specs.Places.{IsAskedPlace, queue_by}
use Rattle.gl_header.specs.declared.places.Shared.{Shared as SharedBox}
use Rattle.std.specs.Global.{Global}
use Rattle.std.specs.declared.boxed.Box.{Box}
use Rattle.gl_header.specs.declared.places.Place.TheVariants.{Shared}
use Rattle.gl_header.proofs.ByKey.{changed-put, found, in-place, none_but, places-put, put-set}
use Rattle.gl_header.proofs.Changed.{asked-is, asked-used, has_holder, has_waiter, held-changed, IsAsked, IsChanged, queue-changed}
use Rattle.gl_header.proofs.Unused.{unused-nobody, unused-true}

-- the fields show what their view shows
pub entries_are : {v w : HeadersState} → v ≡ w → v.entries ≡ w.entries
entries_are e = ap (λ (v : HeadersState). v.entries) e

-- a header that is stored with its birth is found by it
pub own_header : (b : ℕ) (h : HeaderState) → header_in b (Some (b, h)) ≡ Some h
own_header b h = ap (λ t. cond t (Some h) None) (number_same b b refl)

-- in a place that has the node of this birth or none, the header of that node is the one stored there
pub own-header : (b : ℕ) (p : Place) → IsOf b p → header_or_new (header_in b (stands p)) ≡ header_of (stands p)
own-header b p own = cases_of (stands p)
    (λ none. ap (λ s. header_or_new (header_in b s)) none ∙ sym (ap header_of none))
    (λ s some. ap (λ x. header_or_new (header_in b x)) some
    ∙ (ap (λ t. header_or_new (cond t (Some s.1) None)) (number_same b s.0 (sym (own.birth s some))) ∙ sym (ap header_of some)))

-- an unused header shows what a new one shows
pub idle-is : (h : HeaderState) → IsLawfulHeader h → is_unused h ≡ true → (members_of h ≡ members_of unused_header) × (h.queue ≡ [])
idle-is h l u = (fun_ext (unused-true h l u).0 ∙ sym unused-nobody, (unused-true h l u).1)

-- a free place: it is lawful, and has any node or none
pub free-place : IsPlace Free
free-place = record { lawful = λ s e. absurd (none_some e); used = λ s e. absurd (none_some e) }

pub free-of : (b : ℕ) → IsOf b Free
free-of b = record { birth = λ s e. absurd (none_some e) }

-- a place with this header and this birth
pub place-is : (p : Place) (b : ℕ) (h : HeaderState) → stands p ≡ Some (b, h) → IsLawfulHeader h → is_unused h ≡ false → IsPlace p
place-is p b h is l u = record {
  lawful = λ s e. subst (λ (x : ℕ × HeaderState). IsLawfulHeader x.1) (some_is (sym is ∙ e)) l;
  used = λ s e. subst (λ (x : ℕ × HeaderState). is_unused x.1 ≡ false) (some_is (sym is ∙ e)) u;
}

pub of-is : (p : Place) (b : ℕ) (h : HeaderState) → stands p ≡ Some (b, h) → IsOf b p
of-is p b h is = record { birth = λ s e. sym (ap (λ (x : ℕ × HeaderState). x.0) (some_is (sym is ∙ e))) }

-- the place of a key below the number of places is the one stored there
pub at_index : (ps : List Place) (k : ℕ) (x : Place) → k < length ps → x ≡ slice_index_or ps k x → place_at ps k ≡ x
at_index ps k x lt is = get_or_default ps k Free x lt ∙ sym is

-- what is stored at the place of a node, and at no other
pub record IsAt (ps : List Place) (es : Entries) (n : NodeId) (p : Place) : Type 0 where
  pub within : n.key < length ps
  pub place : IsPlace p
  pub own : IsOf n.birth p
  pub before : IsOf n.birth (place_at ps n.key)
  pub header : header_of (stands p) ≡ header_or_new (header_at es n)

module _ (ps : List Place) (a : ArePlaces ps) (es : Entries) (same : entries_in ps ≡ es) (n : NodeId) where
  pub found_in : header_at es n ≡ header_in n.birth (stands (place_at ps n.key))
  found_in = ap (λ hs. header_at hs n) (sym same) ∙ found ps n

  -- at most one node of the key has a header
  pub alone_by_key : (h : HeaderState) → header_at es n ≡ Some h → HasItsKey es n
  alone_by_key h has = record {
    others = λ q ne k. ap (λ hs. header_at hs q) (sym same) ∙ (found ps q ∙ (ap (λ j. header_in q.birth (stands (place_at ps j))) k
        ∙ none_but n (place_at ps n.key)
        (of-is (place_at ps n.key) n.birth h (in-place n.birth (stands (place_at ps n.key)) h (sym found_in ∙ has))) q (same_node-sym n q ∙ ne) k));
  }

  pub lawful-at : (h : HeaderState) → header_at es n ≡ Some h → IsLawfulHeader h
  lawful-at h has = (a.each n.key).lawful (n.birth, h) (in-place n.birth (stands (place_at ps n.key)) h (sym found_in ∙ has))

  -- if the node has a header, it is at the node's place

  module _ (h : HeaderState) (has : header_at es n ≡ Some h) where
    there : stands (place_at ps n.key) ≡ Some (n.birth, h)
    there = in-place n.birth (stands (place_at ps n.key)) h (sym found_in ∙ has)

    pub has_place : n.key < length ps
    has_place = ⊎_elim (λ lt. lt)
        (λ le. absurd (none_some (sym (ap stands (get_or_past ps n.key Free le)) ∙ there))) (cases_lt n.key (length ps))

    pub own_place : IsOf n.birth (place_at ps n.key)
    own_place = of-is (place_at ps n.key) n.birth h there

    pub is_at : (x : Place) → x ≡ slice_index_or ps n.key x → IsAt ps es n x
    is_at x is = let at = at_index ps n.key x has_place is in record {
      within = has_place;
      place = subst IsPlace at (a.each n.key);
      own = subst (IsOf n.birth) at own_place;
      before = own_place;
      header = ap (λ p. header_of (stands p)) (sym at) ∙ (ap header_of there ∙ sym (ap header_or_new has));
    }

  -- so is a node with a holder or a waiter

  pub held_place : (t : ℕ) → holds (members_at es n) t ≡ true → n.key < length ps
  held_place t h = let has = has_holder es n t h in has_place has.0 has.1

  pub held_at : (t : ℕ) → holds (members_at es n) t ≡ true → (x : Place) → x ≡ slice_index_or ps n.key x → IsAt ps es n x
  held_at t h = let has = has_holder es n t h in is_at has.0 has.1

  pub awaited_place : (t : ℕ) → is_among_waiters t (queue_of es n) ≡ true → n.key < length ps
  awaited_place t h = let has = has_waiter es n t h in has_place has.0 has.1

  pub awaited_at : (t : ℕ) → is_among_waiters t (queue_of es n) ≡ true → (x : Place) → x ≡ slice_index_or ps n.key x → IsAt ps es n x
  awaited_at t h = let has = has_waiter es n t h in is_at has.0 has.1

  -- if no other node of the key has a holder or a waiter

  module _ (alone : HasItsKey es n) where
    own_alone : IsOf n.birth (place_at ps n.key)
    own_alone = record { birth = λ s some. by s some (same_node (record { key = n.key; birth = s.0 }) n) refl }
      where
        by : (s : ℕ × HeaderState) → stands (place_at ps n.key) ≡ Some s → (t : Bool) → same_node (record { key = n.key; birth = s.0 }) n ≡ t
            → s.0 ≡ n.birth
        by s some true equal = ap (λ (m : NodeId). m.birth) (same_node-equal _ n equal)
        by s some false other = let m : NodeId = record { key = n.key; birth = s.0 } in
            absurd (none_some (sym (alone.others m other refl)
            ∙ (ap (λ hs. header_at hs m) (sym same) ∙ (found ps m ∙ (ap (header_in s.0) some ∙ own_header s.0 s.1)))))

    pub is_at-alone : (x : Place) → n.key < length ps → x ≡ slice_index_or ps n.key x → IsAt ps es n x
    is_at-alone x lt is = let at = at_index ps n.key x lt is in record {
      within = lt;
      place = subst IsPlace at (a.each n.key);
      own = subst (IsOf n.birth) at own_alone;
      before = own_alone;
      header = ap (λ p. header_of (stands p)) (sym at)
          ∙ (sym (own-header n.birth (place_at ps n.key) own_alone) ∙ sym (ap header_or_new found_in));
    }

  -- The place of the node changes.

  module _ (lt : n.key < length ps) (before : IsOf n.birth (place_at ps n.key)) (x : Place) (is : IsPlace x) (own : IsOf n.birth x) where
    pub write-places : ArePlaces (slice_set ps n.key x)
    write-places = places-put ps (slice_set ps n.key x) n.key x (put-set ps n.key x lt) a is

    pub write-changed : IsChanged es (entries_in (slice_set ps n.key x)) n (header_in n.birth (stands x))
    write-changed = subst (λ hs. IsChanged hs (entries_in (slice_set ps n.key x)) n (header_in n.birth (stands x))) same
        (changed-put ps (slice_set ps n.key x) n x (put-set ps n.key x lt) before own)

    pub write-held : (ms : Members) → members_by x ≡ ms → held_of (entries_in (slice_set ps n.key x)) ≡ with_members (held_of es) n ms
    write-held ms e = held-changed es (entries_in (slice_set ps n.key x)) n (header_in n.birth (stands x)) ms write-changed
        (ap members_of (own-header n.birth x own) ∙ e)

    pub write-queue : (ws : List Waiter) → queue_by x ≡ ws → queue_of (entries_in (slice_set ps n.key x)) ≡ with_waiters (queue_of es) n ws
    write-queue ws e = queue-changed es (entries_in (slice_set ps n.key x)) n (header_in n.birth (stands x)) ws write-changed
        (ap (λ (h : HeaderState). h.queue) (own-header n.birth x own) ∙ e)

  -- the place gets the result of a request
  module _ (p : Place) (i : IsAt ps es n p) (t : ℕ) (m : Mode) (lock : m ≢ NL) (x : Place) (asked : IsAskedPlace p n.birth t m x) where
    asked_place : IsPlace x
    asked_place = place-is x n.birth asked.header asked.there asked.lawful
        (asked-used (header_of (stands p)) t m asked.header lock asked.lawful (record { members = asked.members; queue = asked.queue }))

    asked_own : IsOf n.birth x
    asked_own = of-is x n.birth asked.header asked.there

    pub asked-places : ArePlaces (slice_set ps n.key x)
    asked-places = write-places i.within i.before x asked_place asked_own

    pub asked-changed : IsChanged es (entries_in (slice_set ps n.key x)) n (Some asked.header)
    asked-changed = subst (IsChanged es (entries_in (slice_set ps n.key x)) n) (ap (header_in n.birth) asked.there ∙ own_header n.birth asked.header)
        (write-changed i.within i.before x asked_place asked_own)

    pub is_asked : IsAsked (header_or_new (header_at es n)) t m asked.header
    is_asked = asked-is (header_of (stands p)) (header_or_new (header_at es n)) t m asked.header i.header asked.members asked.queue

-- Whether a key is free.

module _ (ps : List Place) (a : ArePlaces ps) (es : Entries) (same : entries_in ps ≡ es) (k : ℕ) where
  pub free_key : place_at ps k ≡ Free → IsFreeKey es k
  free_key none = record {
    none = λ q e. found_in ps a es same q ∙ (ap (λ j. header_in q.birth (stands (place_at ps j))) e ∙ ap (λ p. header_in q.birth (stands p)) none);
  }

  pub free_standing : IsFreeKey es k → stands (place_at ps k) ≡ None
  free_standing free = cases_of (stands (place_at ps k)) (λ none. none)
      (λ s some. let m : NodeId = record { key = k; birth = s.0 } in
      absurd (none_some (sym (free.none m refl) ∙ (found_in ps a es same m ∙ (ap (header_in s.0) some ∙ own_header s.0 s.1)))))

  pub free-own : (b : ℕ) → IsFreeKey es k → IsOf b (place_at ps k)
  free-own b free = record { birth = λ s some. absurd (none_some (sym (free_standing free) ∙ some)) }

-- a place without a node is free
pub nothing-free : (p : Place) → stands p ≡ None → p ≡ Free
nothing-free Free e = refl
nothing-free (Held t m b) e = absurd (none_some (sym e))
nothing-free (Shared x) e = absurd (none_some (sym e))

-- a header without a box has no queue
pub no_box-no_queue : (p : Place) → ((x : Box SharedBox Global) → p ≡ Shared x → ⊥) → queue_by p ≡ []
no_box-no_queue Free none = refl
no_box-no_queue (Held t m b) none = refl
no_box-no_queue (Shared x) none = absurd (none x refl)

-- a node that is not idle has a header
pub has_header_at : (o : Option HeaderState) → not (is_some o) ≡ false → (h : HeaderState) × (o ≡ Some h)
has_header_at None e = absurd (no (sym e))
has_header_at (Some h) e = (h, refl)
