-- An interval was split: what is left of the table. For the call that splits.
use Rattle.gl_table.proofs.Words.{◌&&◌, ◌==◌, [], ◌∙◌, ◌∷◌, ◌≡◌, ⊎_elim, Active, addressed, age_of, and_both, ap, AreAgreed, AreExact, AreShutOut}
use Rattle.gl_table.proofs.Words.{arith, Bool, clash, count_none, false, fits-limit, graph_of, HasNoCycle}
use Rattle.gl_table.proofs.Words.{held_children, holds, if◌then◌else◌, Inside, is_among_waiters, is_child, is_live, is_waiting_at, IsFresh, IsLawful}
use Rattle.gl_table.proofs.Words.{IsOrderly, IsSound}
use Rattle.gl_table.proofs.Words.{lawful_orderly, Ledger, List, members, NL, NodeId, nodes, nodes_live, None, not, not_true, refl, same_mode}
use Rattle.gl_table.proofs.Words.{same_node, same_node-equal, slot_limit, Some, split, stands_there, State, state_in, state_of, status_of, subst}
use Rattle.gl_table.proofs.Words.{sym, number_same, or_left, Told, told, told_is, told_to, true, View, view_of, Waiter, ℕ}
use Rattle.std.proofs.Common.{inl}
use Rattle.gl_waits.proofs.CycleLemmas.{less-no_cycle}
use Rattle.gl_graph.specs.Splits.{IsSplit, split_refusal}
use Rattle.gl_model.proofs.law.Move.{HoldsNode, waiter_bare, waiters_stuck}
use Rattle.gl_model.proofs.law.Records.{nobody_holds}
use Rattle.gl_model.proofs.splits.Excluded.{x_is}
use Rattle.gl_model.proofs.splits.Links.{split_cut}
use Rattle.gl_model.proofs.splits.Recuts.{IsCut}
use Rattle.gl_model.proofs.splits.Split.{split_lawful, split_steps}
use Rattle.gl_model.proofs.splits.Tellings.{split_told}
use Rattle.gl_model.proofs.telling.Fronts.{members_within}
use Rattle.gl_model.specs.Calls.{holds_x}
use Rattle.gl_model.specs.Splits.{split_by}
use Rattle.gl_model.specs.State.{waits_for}
use Rattle.gl_model.specs.declared.answers.Notice.TheVariants as notice
use Rattle.gl_table.specs.inside.Steps.{ArePartedFrom, TellsMoved}
use Rattle.gl_table.proofs.calls.Merges.{told_if}
use Rattle.gl_table.proofs.calls.Recuts.{recut_both, recut_other}
use Rattle.gl_table.proofs.calls.Stands.{MayStand, stands, with_locks}

-- a queue without waiters
no_waiters : (q : List Waiter) → ((u : ℕ) → is_among_waiters u q ≡ false) → q ≡ []
no_waiters [] none = refl
no_waiters (w ∷ q) none = clash (or_left (w.0 == w.0) (is_among_waiters w.0 q) (number_same w.0 w.0 refl)) (none w.0)

module _ (i : Inside) (sound : IsSound i) (t : ℕ) (a n : NodeId) (bound : ℕ) (v : View)
    (active : status_of (state_of (view_of i)) t ≡ Some Active) (x : holds_x (state_of (view_of i)) t a ≡ true)
    (unrefused : split_refusal (graph_of i.locks.graph) a bound ≡ None) (is : IsSplit (graph_of i.locks.graph) (graph_of v) a n bound) where
  abbrev s : State
  s = state_of (view_of i)

  -- the locks as they were, over the new graph
  abbrev l : State
  l = state_in v i.locks.ledger

  cut : IsCut s.graph (graph_of v) a n
  cut = split_cut s.graph (graph_of v) a n bound sound.lawful.graph unrefused is

  stays : (q : NodeId) → is_live s.graph q ≡ true → is_live (graph_of v) q ≡ true
  stays q live = ⊎_elim (λ e. e) (λ (e : q ≡ a). ap (is_live (graph_of v)) e ∙ cut.old) (cut.recuts.stays q live)

  a_live : is_live s.graph a ≡ true
  a_live = (sound.lawful.grants_live t a (ap (λ m. not (same_mode m NL)) (x_is (s.held t a) x))).1

  differ : same_node a n ≡ false
  differ = not_true (same_node a n) (λ e. clash (ap (is_live s.graph) (sym (same_node-equal a n e)) ∙ a_live) cut.fresh)

  orderly_cut : IsOrderly l
  orderly_cut =
      let o = i.locks.orderly in
      record {
        holders = o.holders;
        holders_live = λ u q h. stays q (o.holders_live u q h);
        waiters_live = λ u q h. stays q (o.waiters_live u q h);
        waits_are = o.waits_are;
        one_wait = o.one_wait;
        below = o.below;
      }

  pub agreed_cut : AreAgreed v i.locks.ledger
  agreed_cut = record {
    sound = i.locks.sound;
    orderly = orderly_cut;
    agree = λ u. let old = i.locks.agree u in record { modes = old.modes; listed = old.listed; room = old.room };
  }

  pub fresh_cut : IsFresh l n
  fresh_cut = record {
    live = cut.recuts.here;
    unheld = λ u. nobody_holds s sound.lawful u n (λ live. clash live cut.fresh);
    unawaited = no_waiters (s.queue n) (λ u. not_true (is_among_waiters u (s.queue n)) (λ h. clash (sound.lawful.waits_live u n h) cut.fresh));
  }

  alone : HoldsNode s t a []
  alone = record { x = x; new = refl }

  pub shut_cut : AreShutOut l a
  shut_cut = record {
    newcomers = waiter_bare s sound.lawful t a [] active (inl alone);
    stuck = waiters_stuck s sound.lawful t a [] active (inl alone) slot_limit
        (λ u w. fits-limit s.most (members s a) u w i.locks.sound.few (members_within l orderly_cut a));
  }

  abbrev held : ℕ → NodeId → Bool
  held u c = holds (members s c) u

  held_there : (u : ℕ) (c : NodeId) → held u c ≡ true → (is_live s.graph c ≡ true) × (is_live (graph_of v) c ≡ true)
  held_there u c h = let live = (sound.lawful.grants_live u c h).1 in (live, stays c live)

  -- nobody holds a child of a node that does not live yet
  none_before : (u : ℕ) → held_children s u n ≡ 0
  none_before u =
      count_none (is_live s.graph) (λ c. is_child s.graph n c && held u c) (nodes s.graph) (nodes_live s.graph)
      (λ c live. not_true (is_child s.graph n c && held u c)
      (λ h. clash (sound.lawful.graph.parents_live c n (and_both (is_child s.graph n c) (held u c) h).0) cut.fresh))

  pub parted_cut : ArePartedFrom l i.locks.ledger.lists.items a n
  parted_cut = record {
    differ = differ;
    none = λ u. i.locks.count u n ∙ none_before u;
    both = λ u.
        let all = recut_both s.graph (graph_of v) sound.lawful.graph a n cut.recuts (held u) (held_there u) in
        let none = none_before u in
        let count = i.locks.count u a in
        omega arith;
    others = λ u q na nn. i.locks.count u q ∙ sym (recut_other s.graph (graph_of v) sound.lawful.graph a n cut.recuts (held u) (held_there u) q na nn);
  }

  -- the ledger followed
  module _ (ledger : Ledger) (made : state_in v ledger ≡ split_by l t a (graph_of v) n) where
    pub state_cut : with_locks i (state_in v ledger) ≡ split_by s t a (graph_of v) n
    state_cut = ap {A = State} (with_locks i) made

    pub stands_cut : AreExact v ledger → MayStand i v ledger
    stands_cut exact = stands i v ledger (record {
      lawful = subst IsLawful (sym state_cut) (split_lawful s sound.lawful t a n (graph_of v) x cut);
      no_cycle = λ at. subst HasNoCycle (sym state_cut) (less-no_cycle (waits_for s) (waits_for (split_by s t a (graph_of v) n))
          (split_steps s sound.lawful t a n (graph_of v) x cut) (sound.no_cycle at));
    }) exact

    o : IsOrderly s
    o = lawful_orderly s sound.lawful

    waits_same : (u : ℕ) → is_among_waiters u (s.queue a) ≡ is_waiting_at s u a
    waits_same u = split (is_waiting_at s u a) (λ w. stands_there s o u a w ∙ sym w)
        (λ k. not_true (is_among_waiters u (s.queue a)) (λ h. clash (o.waits_are u a h) k) ∙ sym k)

    pub told_cut : (list : Told) → TellsMoved s a [] list → list ≡ told s (with_locks i (state_in v ledger))
    told_cut list tells =
        told_is s (with_locks i (state_in v ledger)) list sound.lawful i.locks.sound.few tells.by_slot (λ u.
        tells.notices u
        ∙ ap (λ k. if k then Some (record { slot = u; age = age_of s u }, notice.Moved) else None) (waits_same u)
        ∙ told_if (record { slot = u; age = age_of s u }) notice.Moved (is_waiting_at s u a)
        ∙ ap (addressed (record { slot = u; age = age_of s u })) (sym (split_told s sound.lawful t a n (graph_of v) x cut active u))
        ∙ ap (λ y. told_to s y u) (sym state_cut))
