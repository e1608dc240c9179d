-- What is stored at the keys of nodes, in place or in a box. For the crate.
use Rattle.std.specs.Prelude.{◌≡◌, ℕ, ◌+◌, ◌==◌, Bool, false, true, cond, List, [], ◌∷◌, length, Option, Some, None, slice_index_or}
use Rattle.std.specs.Global.{Global}
use Rattle.std.specs.declared.boxed.Box.{Box}
use Rattle.std.specs.List.{All}
use Rattle.gl_modes.specs.declared.mode.Mode.{Mode}
use Rattle.gl_header.specs.Answers.{asked_members, asked_queue}
use Rattle.gl_header.specs.Groups.{nobody}
use Rattle.gl_header.specs.Header.{Members, Waiter, pumped_members, pumped_queue, with_mode}
use Rattle.gl_header.specs.Headers.{Entries, HeadersState}
use Rattle.gl_header.specs.State.{HeaderState, IsLawfulHeader, held_by_one, is_unused, members_of, slot_limit, unused_header}
use Rattle.gl_header.specs.declared.places.Place.{Place}
use Rattle.gl_header.specs.declared.places.Place.TheVariants.{Free, Held, Shared}
use Rattle.gl_header.specs.declared.places.Shared.{Shared as SharedBox}
use Rattle.gl_header.specs.declared.places.Seen.{Seen}
use Rattle.gl_header.specs.declared.places.Seen.TheVariants.{Nobody, One, Shared as SharedSeen}
use Rattle.gl_header.specs.declared.headers.Headers.TheInside.{Inside}
use Rattle.gl_header.specs.declared.headers.Prepared.TheInside.{Inside as InsidePrepared}

-- the birth and the header of the node at a place
abbrev pub stands : Place → Option (ℕ × HeaderState)
stands Free = None
stands (Held t m b) = Some (b, held_by_one t m)
stands (Shared x) = Some (x.value.birth, x.value.header)

-- its header is in a box
abbrev pub is_boxed : Place → Bool
is_boxed (Shared x) = true
is_boxed p = false

-- the node of this key with its header, before the others
abbrev pub entered : ℕ → Option (ℕ × HeaderState) → Entries → Entries
entered k None es = es
entered k (Some s) es = (record { key = k; birth = s.0 }, s.1) ∷ es

-- the nodes at the places from a key on, with their headers
abbrev pub entries_from : ℕ → List Place → Entries
entries_from k [] = []
entries_from k (p ∷ ps) = entered k (stands p) (entries_from (k + 1) ps)

-- the nodes at all places, with their headers
abbrev pub entries_in : List Place → Entries
entries_in ps = entries_from 0 ps

-- the place of a key
abbrev pub place_at : List Place → ℕ → Place
place_at ps k = slice_index_or ps k Free

-- the header there, else an unused one
abbrev pub header_of : Option (ℕ × HeaderState) → HeaderState
header_of None = unused_header
header_of (Some s) = s.1

-- the members of a place's node, and its queue
abbrev pub members_by : Place → Members
members_by p = members_of (header_of (stands p))

abbrev pub queue_by : Place → List Waiter
queue_by p = (header_of (stands p)).queue

-- the header of the node of this birth, if it is there
abbrev pub header_in : ℕ → Option (ℕ × HeaderState) → Option HeaderState
header_in b None = None
header_in b (Some s) = cond (b == s.0) (Some s.1) None

-- the holders and waiters of a node, as its header
abbrev pub seen_header : Seen → Option HeaderState
seen_header Nobody = None
seen_header (One t m) = Some (held_by_one t m)
seen_header (SharedSeen h) = Some h.now

-- a place has no header, or a lawful one with a holder or a waiter
pub record IsPlace (p : Place) : Type 0 where
  pub lawful : (s : ℕ × HeaderState) → stands p ≡ Some s → IsLawfulHeader s.1
  pub used : (s : ℕ × HeaderState) → stands p ≡ Some s → is_unused s.1 ≡ false

-- each of these is such a place
pub record ArePlaces (ps : List Place) : Type 0 where
  pub each : (k : ℕ) → IsPlace (place_at ps k)

-- a place has the node of this birth, or none
pub record IsOf (b : ℕ) (p : Place) : Type 0 where
  pub birth : (s : ℕ × HeaderState) → stands p ≡ Some s → s.0 ≡ b

-- a lawful place that has the node of this birth, or none
pub record IsPlaceFor (b : ℕ) (p : Place) : Type 0 where
  pub lawful : IsPlace p
  pub own : IsOf b p

-- no other node is put there
pub record KeepsBirth (p p' : Place) : Type 0 where
  pub kept : (b : ℕ) → IsOf b p → IsOf b p'

-- the later place is lawful, and no other node was put there
pub record IsPlaceAfter (p p' : Place) : Type 0 where
  pub lawful : IsPlace p'
  pub birth : KeepsBirth p p'

-- the box's header is lawful and unused
pub record IsIdle (x : Box SharedBox Global) : Type 0 where
  pub lawful : IsLawfulHeader x.value.header
  pub unused : is_unused x.value.header ≡ true

-- by the box's header t alone holds, in the mode m, and nobody waits
pub record IsHeldBox (b t : ℕ) (m : Mode) (x : Box SharedBox Global) : Type 0 where
  pub birth : x.value.birth ≡ b
  pub lawful : IsLawfulHeader x.value.header
  pub members : members_of x.value.header ≡ with_mode nobody t m
  pub queue : x.value.header.queue ≡ []

-- p' is the place p after a request of t for m, for the node of this birth
pub record IsAskedPlace (p : Place) (b t : ℕ) (m : Mode) (p' : Place) : Type 0 where
  pub header : HeaderState
  pub there : stands p' ≡ Some (b, header)
  pub lawful : IsLawfulHeader header
  pub members : members_of header ≡ asked_members (header_of (stands p)) t m
  pub queue : header.queue ≡ asked_queue (header_of (stands p)) t m

-- the place has these members and this queue, after the front is granted
pub record IsPumped (g : Members) (q : List Waiter) (p : Place) : Type 0 where
  pub members : members_by p ≡ pumped_members slot_limit g q
  pub queue : queue_by p ≡ pumped_queue slot_limit g q

-- what a contract sees of the fields
abbrev pub headers_of : Inside → HeadersState
headers_of h = record { entries = entries_in h.places.items; room = length h.places.items }

-- what holds of the fields
pub record AreKept (h : Inside) : Type 0 where
  pub places : ArePlaces h.places.items
  pub spare : All IsIdle h.spare.items

-- a prepared header has one holder, and nobody waits
abbrev pub prepared_header : InsidePrepared → HeaderState
prepared_header p = held_by_one p.slot p.mode

pub record IsNeeded (p : InsidePrepared) : Type 0 where
  pub lawful : IsLawfulHeader (prepared_header p)
