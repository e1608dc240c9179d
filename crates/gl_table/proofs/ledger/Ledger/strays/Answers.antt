use Rattle.gl_table.proofs.Words.{◌+◌, ◌<◌, ◌∙◌, ◌≡◌, ap, arith, Bool, graph_of, intends_over, length, List, mode_of, NL, NodeId, not, parents_of, queue_of}
use Rattle.gl_table.proofs.Words.{refl, slice_index_or, State, state_in, stays, subst, sym, take, Waiter, waiters_below, ℕ}
use Rattle.gl_table.proofs.inside.TurnedAway.{allowed_stays}
use Rattle.gl_model.proofs.law.Strays.{among_at, IsSetOf, set-with, set-without}
use Rattle.gl_table.proofs.ledger.Ledger.strays.Goals.{else-not-is_allowed, then-not-is_allowed}
use Rattle.gl_table.proofs.ledger.Ledger.strays.Goals as goal

pub index-list-requires : goal.index-list-requires
index-list-requires c =
    let s : State = state_in c.args.graph.now c.args.self.now in
    let queue = c.queue-slot-items.ensures in
    let low = waiters_below s c.requires.agreed.orderly c.args.node _
    (among_at _ (queue_of c.args.self.now.headers.entries c.args.node) c.loop-slot.slot-index (0, NL) queue c.loop-slot-test.true) in
    omega (arith, c.requires.agreed.sound.lists, c.args.self.now.lists.ok.0)

pub insert-requires : goal.insert-requires
insert-requires c =
    let s : State = state_in c.args.graph.now c.args.self.now in
    let queue = c.queue-slot-items.ensures in
    let low = waiters_below s c.requires.agreed.orderly c.args.node _
    (among_at _ (queue_of c.args.self.now.headers.entries c.args.node) c.loop-slot.slot-index (0, NL) queue c.loop-slot-test.true) in
    omega (arith, c.requires.agreed.sound.few)

pub loop-slot-preserved : goal.loop-slot-preserved
loop-slot-preserved c =
    let s : State = state_in c.args.graph.now c.args.self.now in
    let ps = parents_of (graph_of c.args.graph.now) c.args.node in
    let f : Waiter → Bool = λ w. not (stays s ps w) in
    let q = c.queue-slot-items.result.now in
    let i = c.loop-slot.slot-index in
    let w : Waiter = slice_index_or q i (0, NL) in
    let queue = c.queue-slot-items.ensures in
    let low = waiters_below s c.requires.agreed.orderly c.args.node _
    (among_at _ (queue_of c.args.self.now.headers.entries c.args.node) i (0, NL) queue c.loop-slot-test.true) in
    let within : w.0 < length c.args.self.now.lists.items = subst (λ (k : ℕ). w.0 < k) (sym c.requires.agreed.sound.lists) low in
    let allowed : intends_over (mode_of c.index-list.result.now) c.parents.result.now w.1 ≡ stays s ps w =
    ap (λ (xs : List NodeId). intends_over (mode_of c.index-list.result.now) xs w.1) c.parents.ensures
    ∙ allowed_stays s c.args.self.now.lists.items ps w c.index-list.result.now within c.index-list.ensures (c.requires.agreed.agree w.0) in
    elim c.if-not-is_allowed.branch [
      | then-not-is_allowed b ↦
          subst (IsSetOf f (take (i + 1) q)) (sym b.strays-is)
          (set-with f q i (0, NL) w c.loop-slot-test.true refl c.loop-slot.strays c.loop-slot.invariant b.insert.new.self
          (ap not (sym (b.if-not-is_allowed.ensures ∙ allowed))) b.insert.ensures)
      | else-not-is_allowed b ↦
          subst (IsSetOf f (take (i + 1) q)) (sym b.strays-is) (set-without f q i (0, NL) w c.loop-slot-test.true refl c.loop-slot.strays c.loop-slot.invariant
          (ap not (sym (b.if-not-is_allowed.ensures ∙ allowed))))
    ]
