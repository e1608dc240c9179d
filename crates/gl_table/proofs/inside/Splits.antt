-- An interval was split in the graph, and the ledger follows: counts, the new lock, and waits that end. For splits.
use Rattle.gl_table.proofs.Words.{◌&&◌, ◌<◌, ◌==◌, [], ◌∙◌, ◌∷◌, ◌≡◌, Active, ap, ap₂, AreAgreed, AreExact, AreShutOut, arith, as_left, books_of, Bool}
use Rattle.gl_table.proofs.Words.{by_list, CanTellWaiters, count_by, count_of, counted_by, CountsHeld, false, filter, fits, freed_unless, fun_ext}
use Rattle.gl_table.proofs.Words.{graph_of, held_children, holds, if-false, if-true, if◌then◌else◌, is_among_waiters, is_child, is_live, is_some}
use Rattle.gl_table.proofs.Words.{IsOrderly, IsPrepared, KeepsPlaces, Ledger, List, list_all, ListsKeepPlaces, ListsLose, LockList, members, Mode}
use Rattle.gl_table.proofs.Words.{mode_of, NL, NodeId, nodes, nodes_by, None, not, Option, option_map_or, refl, same_mode, same_node, same_node-equal}
use Rattle.gl_table.proofs.Words.{same_node-refl, same_node-sym, same_number, slice_get, slot_limit, Some, split, State, state_in, status_of, subst}
use Rattle.gl_table.proofs.Words.{sym, Told, true}
use Rattle.gl_table.proofs.Words.{age_in, and-false, notices_in, room_by, spare, txn_there, View, Waiter, WaitsEnd, with_grant, X, ℕ}
use Rattle.gl_model.specs.declared.answers.Notice.TheVariants as notice
use Rattle.gl_header.specs.State.{HeaderState}
use Rattle.gl_lock_lists.specs.Lists.{held_below}
use Rattle.gl_model.proofs.law.Strays.{filter_all}
use Rattle.gl_model.specs.Splits.{split_by}
use Rattle.gl_table.specs.inside.Cuts.{CanPart, CountOver, HaveRoomBeside}
use Rattle.gl_table.specs.inside.Steps.{ArePartedFrom, TellsMoved}
use Rattle.gl_table.proofs.inside.Cuts.{room_over}
use Rattle.gl_table.proofs.inside.Places.{keep_then}
use Rattle.gl_table.proofs.inside.Slots.{none_if}
use Rattle.gl_table.proofs.inside.TurnedAway.{is_lost, IsTurning, turned_agrees, turned_over, turned_sound, turning_ends}

module _ (g : View) (l : Ledger) (agreed : AreAgreed g l) (from to : NodeId) (parted : ArePartedFrom (state_in g l) l.lists.items from to)
    (room : HaveRoomBeside l.lists.items from) where
  abbrev s : State
  s = state_in g l

  abbrev ls : List LockList
  ls = l.lists.items

  -- what a list says
  module _ (u : ℕ) (x : LockList) (is : slice_get ls u ≡ Some x) where
    modes_are : (q : NodeId) → mode_of x q ≡ s.held u q
    modes_are q = sym (ap (λ o. option_map_or (λ y. mode_of y q) o NL) is) ∙ (agreed.agree u).modes q

    below : held_below (graph_of g) x to ≡ held_children s u to
    below = ap (λ (t : NodeId → Bool). count_by t (nodes (graph_of g)))
        (fun_ext (λ c. ap (λ m. is_child (graph_of g) to c && not (same_mode m NL)) (modes_are c)))

    counted_here : (q : NodeId) → counted_by ls u q ≡ count_of x q
    counted_here q = ap (λ o. option_map_or (λ y. count_of y q) o 0) is

    pub can_part : CanPart (graph_of g) from to x
    can_part =
        let h = below in
        let f = counted_here from in
        let n = counted_here to in
        let b = parted.both u in
        let z = parted.none u in
        let r : room_by ls u ≡ spare x.loose = ap (λ o. option_map_or (λ y. spare y.loose) o 0) is in
        record {
          live = λ c held. agreed.orderly.holders_live u c (ap (λ m. not (same_mode m NL)) (sym (modes_are c)) ∙ held);
          some = omega arith;
          none = sym (counted_here to) ∙ parted.none u;
          room = λ some. let ten = room u (omega arith) in omega arith;
        }

  abbrev moved : ℕ → ℕ
  moved = by_list (λ x. held_below (graph_of g) x to) 0 ls

  moved_is : (u : ℕ) → moved u ≡ held_children s u to
  moved_is u = by (slice_get ls u) refl
    where
      by : (o : Option LockList) → slice_get ls u ≡ o → option_map_or (λ x. held_below (graph_of g) x to) o 0 ≡ held_children s u to
      by None e =
          let none : counted_by ls u from ≡ 0 = ap (λ o. option_map_or (λ y. count_of y from) o 0) e in
          let b = parted.both u in
          omega arith
      by (Some x) e = below u x e

  -- the held children are counted where they are
  module _ (l' : Ledger) (same : state_in g l' ≡ s) (over : CountOver ls from to (by_list (λ x. held_below (graph_of g) x to) 0 ls) l'.lists.items) where
    counts_now : (u : ℕ) (q : NodeId) → counted_by l'.lists.items u q ≡ held_children s u q
    counts_now u q =
        let k = moved_is u in
        split (same_node q from)
        (λ e. subst (λ n. counted_by l'.lists.items u n ≡ held_children s u n) (sym (same_node-equal q from e))
        (let c = over.counts u from in
        let on : (if same_node from from then moved u else 0) ≡ moved u = if-true _ (same_node-refl from) in
        let off : (if same_node from to then moved u else 0) ≡ 0 = if-false _ parted.differ in
        let b = parted.both u in
        omega arith))
        (λ nf. split (same_node q to)
        (λ e. subst (λ n. counted_by l'.lists.items u n ≡ held_children s u n) (sym (same_node-equal q to e))
        (let c = over.counts u to in
        let off : (if same_node to from then moved u else 0) ≡ 0 = if-false _ (same_node-sym to from ∙ parted.differ) in
        let on : (if same_node to to then moved u else 0) ≡ moved u = if-true _ (same_node-refl to) in
        let z = parted.none u in
        omega arith))
        (λ nt.
        let c = over.counts u q in
        let off : (if same_node q from then moved u else 0) ≡ 0 = if-false _ nf in
        let off' : (if same_node q to then moved u else 0) ≡ 0 = if-false _ nt in
        let o = parted.others u q nf nt in
        omega arith))

    pub counts_parted : (u : ℕ) → CountsHeld (state_in g l') l'.lists.items u
    counts_parted u q = counts_now u q ∙ ap (λ (x : State). held_children x u q) (sym same)

  -- and the room for the new lock is still there
  pub prepared_over : (l' : Ledger) (t key : ℕ) (m : Mode) (prepared : HeaderState) → l'.headers ≡ l.headers
      → CountOver ls from to (by_list (λ x. held_below (graph_of g) x to) 0 ls) l'.lists.items → IsPrepared l t key m prepared → IsPrepared l' t key m prepared
  prepared_over l' t key m prepared same over ready = record {
    header = ready.header;
    headers_room = subst (λ h. key < h.room) (sym same) ready.headers_room;
    lists_room = record {
      entry = let a = over.spares t in let b = ready.lists_room.entry in omega arith;
      counts = room_over ls l'.lists.items from to (by_list (λ x. held_below (graph_of g) x to) 0 ls) room over t ready.lists_room.counts;
    };
  }

-- a living transaction holds one living node more
pub orderly_given : (s : State) → IsOrderly s → (t : ℕ) (n : NodeId) (m : Mode) → is_some (s.txns t) ≡ true → is_live s.graph n ≡ true
    → IsOrderly (with_grant s t n m)
orderly_given s o t n m there live = record {
  holders = λ u q h. held u q h (λ e k. ap (λ v. is_some (s.txns v)) (same_number u t e) ∙ there) (o.holders u q);
  holders_live = λ u q h. held u q h (λ e k. ap (is_live s.graph) (same_node-equal q n k) ∙ live) (o.holders_live u q);
  waiters_live = o.waiters_live;
  waits_are = o.waits_are;
  one_wait = o.one_wait;
  below = o.below;
}
  where
    held : {C : Type 0} (u : ℕ) (q : NodeId) → holds (members (with_grant s t n m) q) u ≡ true → ((u == t) ≡ true → same_node q n ≡ true → C)
        → (holds (members s q) u ≡ true → C) → C
    held u q h new old = split (u == t)
        (λ e. split (same_node q n) (λ k. new e k) (λ k. old (sym (ap (λ b. not (same_mode (if (u == t) && b then m else s.held u q) NL)) k
        ∙ ap (λ b. not (same_mode (if b then m else s.held u q) NL)) (and-false (u == t))) ∙ h)))
        (λ e. old (sym (ap (λ b. not (same_mode (if b && same_node q n then m else s.held u q) NL)) e) ∙ h))

-- The waits on the old interval end.

none_left : (q : List Waiter) → filter (λ w. false) q ≡ []
none_left [] = refl
none_left (w ∷ q) = none_left q

pub all_kept : (q : List Waiter) → list_all (λ w. true) q ≡ true
all_kept [] = refl
all_kept (w ∷ q) = all_kept q

-- each waiter loses its wait
pub all_lost : (s : State) (n : NodeId) (u : ℕ) → is_lost s n (λ w. false) u ≡ is_among_waiters u (s.queue n)
all_lost s n u = ap (is_among_waiters u) (filter_all (λ w. true) (s.queue n) (all_kept (s.queue n)))

-- the new interval was given to t, which was active
module _ (g : View) (l l1 : Ledger) (t : ℕ) (from to : NodeId) (agreed : AreAgreed g l) (active : status_of (state_in g l) t ≡ Some Active)
    (live : is_live (graph_of g) to ≡ true) (differ : same_node from to ≡ false) (exact : AreExact g l1)
    (given : state_in g l1 ≡ with_grant (state_in g l) t to X) where
  abbrev s1 : State
  s1 = state_in g l1

  pub agreed_given : AreAgreed g l1
  agreed_given = record {
    sound = exact.sound;
    orderly = subst IsOrderly (sym given) (orderly_given (state_in g l) agreed.orderly t to X (txn_there ((state_in g l).txns t) Active active) live);
    agree = exact.agree;
  }

  queue_is : s1.queue from ≡ (state_in g l).queue from
  queue_is = ap (λ (x : State). x.queue from) given

  members_are : members s1 from ≡ members (state_in g l) from
  members_are = ap (λ (x : State). members x from) given
      ∙ fun_ext (λ u. ap (λ b. if (u == t) && b then X else (state_in g l).held u from) differ
      ∙ ap (λ b. if b then X else (state_in g l).held u from) (and-false (u == t)))

  pub shut_given : AreShutOut (state_in g l) from → AreShutOut s1 from
  shut_given shut = record {
    newcomers = λ u h. ap (λ (f : ℕ → Mode). f u) members_are ∙ shut.newcomers u (ap (is_among_waiters u) (sym queue_is) ∙ h);
    stuck = ap₂ (λ (f : ℕ → Mode) q. list_all (λ w. not (fits slot_limit f w.0 w.1)) q) members_are queue_is ∙ shut.stuck;
  }

  pub tell_given : (told : Told) → CanTellWaiters (state_in g l) from told → CanTellWaiters s1 from told
  tell_given told tell = record { by_slot = tell.by_slot; untold = λ u h. tell.untold u (ap (is_among_waiters u) (sym queue_is) ∙ h) }

  module _ (shut : AreShutOut (state_in g l) from) (told : Told) (tell : CanTellWaiters (state_in g l) from told) {l' : Ledger}
      {pending : ℕ → Bool} {list : Told}
      (is : IsTurning l1 l' from s1 (λ w. false) pending told list) (none : (u : ℕ) → pending u ≡ false) where
    abbrev over : WaitsEnd (books_of l1.txn_entries l1.lists.items told) from (is_lost s1 from (λ w. false)) as_left (λ u. notice.Moved)
        (books_of l'.txn_entries l'.lists.items list)
    over = turned_over agreed_given from (tell_given told tell) is none

    pub state_split : state_in g l' ≡ split_by (state_in g l) t from (graph_of g) to
    state_split =
        turning_ends agreed_given from (tell_given told tell) is none
        ∙ ap (λ (x : State). record x {
          queue = λ q. if same_node q from then filter (λ w. false) (x.queue q) else x.queue q;
          txns = λ u. freed_unless (λ v. is_among_waiters v (filter (λ w. false) (x.queue from))) from u (x.txns u);
        }) given
        ∙ (λ i. record (with_grant (state_in g l) t to X) {
          queue = λ q. if same_node q from then none_left ((state_in g l).queue q) i else (state_in g l).queue q;
          txns = λ u. freed_unless (λ v. is_among_waiters v (none_left ((state_in g l).queue from) i)) from u ((state_in g l).txns u);
        })

    pub exact_split : AreExact g l'
    exact_split = record {
      sound = turned_sound agreed_given from (tell_given told tell) is none;
      agree = turned_agrees agreed_given from (tell_given told tell) is none (shut_given shut).newcomers;
      count = λ u q. over.lists.counts u q ∙ none_if _ _ ∙ exact.count u q
          ∙ ap (λ (x : State). held_children x u q) given ∙ sym (ap (λ (x : State). held_children x u q) state_split);
    }

    pub tells_split : TellsMoved (state_in g l) from told list
    tells_split = record {
      by_slot = over.tells.by_slot;
      notices = λ u. over.tells.notices u
          ∙ ap₂ (λ b (x : State). if b then Some (record { slot = u; age = age_in (x.txns u) }, notice.Moved) else notices_in told u)
          (all_lost s1 from u ∙ ap (is_among_waiters u) queue_is) given;
    }

    pub loses_split : ListsLose l1.lists.items l'.lists.items
    loses_split = over.lists.loses

-- the orders of the lists, which counts do not change
pub orders_split : (lists mid given ls' : List LockList) → ((u : ℕ) → nodes_by mid u ≡ nodes_by lists u) → ListsKeepPlaces mid given → ListsLose given ls'
    → ListsKeepPlaces lists ls'
orders_split lists mid given ls' same keeps loses =
    let all = keep_then keeps loses in
    record { each = λ u. subst (λ (order : List NodeId). KeepsPlaces order (nodes_by ls' u)) (same u) (all.each u) }
