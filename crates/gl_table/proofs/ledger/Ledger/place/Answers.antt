use Rattle.gl_table.proofs.Words.{◌+◌, ◌<◌, ◌^◌, ◌∙◌, ◌≤◌, ap, ap₂, arith, count_by, count_of, graph_of, held_of, if◌then◌else◌, keys, NL, not, parents_of}
use Rattle.gl_table.proofs.Words.{refl, same_mode, same_node, spare, State, state_in, subst, supremum, sym, unlisted, with_grant, with_item, ℕ}
use Rattle.gl_table.proofs.inside.Asks.{free_key, is_placed, IsGranted, own-few, own-listed, own-room, parents-room, slot-listed}
use Rattle.gl_table.proofs.inside.Slots.{counts-entered, has_node-set, set_keeps}
use Rattle.gl_table.proofs.ledger.Ledger.place.Goals.{After-self-1}
use Rattle.gl_table.proofs.ledger.Ledger.place.Goals as goal
use Rattle.gl_table.proofs.inside.Places.{enters_last}

-- the node is the only one of its key that lives
pub put-requires-clause-free : goal.put-requires-clause-free
put-requires-clause-free c =
    free_key c.args.self.now c.law-2.ensures.headers c.requires.act.orderly c.law.ensures.lawful c.args.node
    c.requires.fresh

pub enter-requires-clause-new : goal.enter-requires-clause-new
enter-requires-clause-new c =
    own-listed c.args.graph.now c.args.self.now c.args.slot c.requires.act c.index_mut-list.result.now
    c.index_mut-list.ensures.value c.args.node ∙ ap (λ m. not (same_mode m NL)) (c.requires.fresh.unheld c.args.slot)

pub enter-requires-clause-room : goal.enter-requires-clause-room
enter-requires-clause-room c =
    (own-room c.args.graph.now c.args.self.now c.args.slot c.requires.act c.index_mut-list.result.now
    c.index_mut-list.ensures.value c.requires.ready.lists_room).0

pub count_up-requires-clause-room : goal.count_up-requires-clause-room
count_up-requires-clause-room c =
    let room = (own-room c.args.graph.now c.args.self.now c.args.slot c.requires.act
    c.index_mut-list.result.now c.index_mut-list.ensures.value c.requires.ready.lists_room).1 in
    let kept = c.enter.ensures.room in
    subst (λ ps. unlisted c.enter.new.self ps ≤ spare c.enter.new.self.loose) (sym c.parents.ensures)
    (parents-room c.args.graph.now c.law.ensures.lawful c.args.node c.enter.new.self (omega arith))

pub count_up-requires-clause-few : goal.count_up-requires-clause-few
count_up-requires-clause-few c = λ q h. subst (λ ps. count_of c.enter.new.self q + count_by (same_node q) ps < 2 ^ 32) (sym c.parents.ensures)
    (subst (λ (k : ℕ). k + count_by (same_node q) (parents_of (graph_of c.args.graph.now) c.args.node) < 2 ^ 32) (sym (c.enter.ensures.counts q))
    (own-few c.args.graph.now c.args.self.now c.args.slot c.requires.act c.index_mut-list.result.now
    c.index_mut-list.ensures.value c.law.ensures.lawful c.args.node q))

placed : (c : After-self-1) → IsGranted c.args.graph.now c.args.self.now
    (record c.args.self.now { headers = c.put.new.self; lists = with_item c.args.self.now.lists c.args.slot c.count_up.new.self }) c.args.slot c.args.node
    c.args.mode c.args.mode
placed c = let m = c.requires.act in let g = c.args.graph.now in let l = c.args.self.now in let t = c.args.slot in let n = c.args.node in
    let x = c.index_mut-list.result.now in let x' = c.count_up.new.self in
    let listed = slot-listed g l t m in
    is_placed g l t n c.args.mode m c.requires.fresh c.requires.ready.lists_room c.law.ensures.lawful c.requires.lock
    c.args.prepared c.requires.ready.header (ap (λ y. supremum y c.args.mode) (c.requires.fresh.unheld t)) _ c.put.ensures.held c.put.ensures.queue refl
    (has_node-set l.lists.items t x x' listed c.index_mut-list.ensures.value n c.args.mode
    (λ q. c.count_up.ensures.modes q ∙ c.enter.ensures.modes q) (λ q. c.count_up.ensures.listed q ∙ c.enter.ensures.listed q))
    (counts-entered l.lists.items t x x' listed c.index_mut-list.ensures.value
    (λ q. if same_mode (held_of l.headers.entries t n) NL then count_by (same_node q) (parents_of (graph_of g) n) else 0)
    (λ q. c.count_up.ensures.counts q ∙ ap₂ (λ k ps. k + count_by (same_node q) ps) (c.enter.ensures.counts q) c.parents.ensures
    ∙ ap (λ y. count_of x q + (if same_mode y NL then count_by (same_node q) (parents_of (graph_of g) n) else 0)) (sym (c.requires.fresh.unheld t))))

pub returns-clause-exact : goal.returns-clause-exact
returns-clause-exact c = let p = placed c in record { sound = p.sound; agree = p.agree; count = p.count }

pub returns-clause-state : goal.returns-clause-state
returns-clause-state c =
    let s : State = state_in c.args.graph.now c.args.self.now in
    (placed c).state
    ∙ ap (λ y. with_grant s c.args.slot c.args.node (supremum y c.args.mode)) (c.requires.fresh.unheld c.args.slot)

pub returns-clause-orders : goal.returns-clause-orders
returns-clause-orders c =
    let x = c.index_mut-list.result.now in
    set_keeps c.args.self.now.lists.items c.args.slot x c.count_up.new.self (slot-listed c.args.graph.now c.args.self.now c.args.slot c.requires.act)
    c.index_mut-list.ensures.value
    (enters_last (keys x.entries) (keys c.count_up.new.self.entries) c.args.node (c.count_up.ensures.keys ∙ c.enter.ensures.keys))
