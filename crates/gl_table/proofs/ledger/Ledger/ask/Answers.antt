use Rattle.gl_table.proofs.Words.{◌&&◌, ◌+◌, ◌<◌, ◌^◌, ◌∙◌, ◌≡◌, ◌≤◌, Agrees, and-false, ap, ap₂, AreHeaders, arith, Asked, asked_at, clash, count_by, count_of}
use Rattle.gl_table.proofs.Words.{CountsHeld, enters_at, false, graph_of, HasAsked, held_of, holds, if◌then◌else◌, is_at_least, is_granted_at, KeepsPlaces}
use Rattle.gl_table.proofs.Words.{keys, Ledger, ListsKeepPlaces, LockList, MayAct, members, mode_of, NL, nl_is, not, not-false, not-true, parents_of, refl}
use Rattle.gl_table.proofs.Words.{rules, same_mode, same_node, slice_index_or, slice_set, spare, state_in, subst, supremum, sym, true, unlisted, wanted}
use Rattle.gl_table.proofs.Words.{with_item, ℕ}
use Rattle.gl_header.specs.declared.header.Asked.TheVariants as asked
use Rattle.gl_table.proofs.inside.Asks.{answer-enters, answer-waits, is_granted, IsGranted, its_key, own-few, own-listed, own-mode, own-room, parents-room}
use Rattle.gl_table.proofs.inside.Asks.{roomy_may, roomy_ready, roomy_same, roomy_says, says_is, slot-listed, state-same}
use Rattle.gl_table.proofs.inside.Covered.{covered-asked}
use Rattle.gl_table.proofs.inside.Enqueues.{has_wait-set, HasWait, is_enqueued, IsEnqueued}
use Rattle.gl_table.proofs.inside.Slots.{also_held, also_listed, counts-entered, has_node-set, none_more, set_keeps}
use Rattle.gl_table.proofs.ledger.Ledger.ask.Goals.{After-count_up, After-make_room_to_ask, After-set_mode, After-set_status, else-not-is_member}
use Rattle.gl_table.proofs.ledger.Ledger.ask.Goals.{then-not-is_member}
use Rattle.gl_table.proofs.ledger.Ledger.ask.Goals as goal
use Rattle.gl_table.proofs.inside.Places.{enters_last, kept_lose, kept_then, lists_here, lists_keep, same_order}

-- whether the slot holds the node, as the caller says
held_is : (c : After-make_room_to_ask) → c.ne-is_member.result ≡ not (same_mode c.args.held NL)
held_is c = search rules

-- and as its list says
member_is : (c : After-make_room_to_ask) → c.ne-is_member.result ≡ holds (members (state_in c.args.graph.now c.args.self.now) c.args.node) c.args.slot
member_is c =
    held_is c ∙ ap (λ m. not (same_mode m NL)) (c.requires.can.held_is ∙ (c.requires.act.exact.agree c.args.slot).modes c.args.node)

-- with the room that was made, all is as it was

may_now : (c : After-make_room_to_ask) → MayAct c.args.graph.now c.make_room_to_ask.new.self c.args.slot
may_now c = roomy_may c.make_room_to_ask.new.self c.requires.act c.make_room_to_ask.ensures.rest c.make_room_to_ask.ensures.kept

same : (c : After-make_room_to_ask) → state_in c.args.graph.now c.make_room_to_ask.new.self ≡ state_in c.args.graph.now c.args.self.now
same c = roomy_same c.make_room_to_ask.new.self c.requires.act c.make_room_to_ask.ensures.rest c.make_room_to_ask.ensures.kept

says : (c : After-make_room_to_ask) → is_granted_at c.make_room_to_ask.new.self.headers.entries c.args.slot c.args.node c.args.mode
    ≡ enters_at (state_in c.args.graph.now c.args.self.now) c.args.slot c.args.node c.args.mode
says c = roomy_says c.make_room_to_ask.new.self c.requires.act c.make_room_to_ask.ensures.rest c.make_room_to_ask.ensures.kept c.args.node c.args.mode

member_now : (c : After-make_room_to_ask) → holds (members (state_in c.args.graph.now c.make_room_to_ask.new.self) c.args.node) c.args.slot
    ≡ c.ne-is_member.result
member_now c = ap (λ s. holds (members s c.args.node) c.args.slot) (same c) ∙ sym (member_is c)

-- the answer of the header is that of the state
answer_is : (c : After-make_room_to_ask) (a : Asked)
    → a ≡ (if is_granted_at c.make_room_to_ask.new.self.headers.entries c.args.slot c.args.node c.args.mode then asked.Granted
    (supremum (held_of c.make_room_to_ask.new.self.headers.entries c.args.slot c.args.node) c.args.mode) else asked.Waiting)
    → a ≡ asked_at (state_in c.args.graph.now c.args.self.now) c.args.slot c.args.node c.args.mode
answer_is c a e = e ∙ ap₂ (λ b w. if b then asked.Granted w else asked.Waiting) (says c) (ap (λ s. wanted s c.args.slot c.args.node c.args.mode) (same c))

-- the node lives, so nobody holds or waits for another of its key
pub ask-requires-clause-alone : goal.ask-requires-clause-alone
ask-requires-clause-alone c = let p = (goal.at.ask-requires-clause-alone c).After-make_room_to_ask in
    its_key c.make_room_to_ask.new.self
    (subst AreHeaders (sym (ap (λ (x : Ledger). x.headers.entries) c.make_room_to_ask.ensures.rest)) c.law-2.ensures.headers) (may_now p).orderly
    c.law.ensures.lawful c.args.node c.requires.can.live

-- the header says of the slot what its list does

pub make_room_to_ask-requires-clause-held : goal.make_room_to_ask-requires-clause-held
make_room_to_ask-requires-clause-held c = c.requires.can.held_is ∙ (c.requires.act.exact.agree c.args.slot).modes c.args.node

pub ask-requires-clause-held : goal.ask-requires-clause-held
ask-requires-clause-held c =
    c.requires.can.held_is ∙ (c.requires.act.exact.agree c.args.slot).modes c.args.node
    ∙ ap (λ (x : Ledger). held_of x.headers.entries c.args.slot c.args.node) (sym c.make_room_to_ask.ensures.rest)

-- no more is requested than is held

pub returns-then-covers-clause-asked : goal.returns-then-covers-clause-asked
returns-then-covers-clause-asked c =
    let is : c.args.held ≡ held_of c.args.self.now.headers.entries c.args.slot c.args.node =
    c.requires.can.held_is ∙ (c.requires.act.exact.agree c.args.slot).modes c.args.node in
    subst (λ h. HasAsked (state_in c.args.graph.now c.args.self.now) (state_in c.args.graph.now c.args.self.now) c.args.slot c.args.node c.args.mode
    (asked.Granted h)) (sym is) (covered-asked c.args.graph.now c.args.self.now c.args.slot c.args.node c.args.mode c.requires.act c.law-2.ensures.headers
    c.requires.can.lock (ap (λ h. is_at_least h c.args.mode) (sym is) ∙ sym c.covers.ensures ∙ c.if-covers.true))

-- the refusals

pub returns-in_default-clause-exact : goal.returns-in_default-clause-exact
returns-in_default-clause-exact c = let m = may_now (goal.at.returns-in_default-clause-exact c).After-make_room_to_ask in
    m.exact

pub returns-in_default-clause-held : goal.returns-in_default-clause-held
returns-in_default-clause-held c =
    let p = (goal.at.returns-in_default-clause-held c).After-make_room_to_ask in
    λ h e. clash (c.in_default.ensures.at_once
    (ap₂ (λ x y. x && y) (sym (held_is p) ∙ member_is p ∙ h)
    (says_is c.args.graph.now c.args.self.now c.args.slot c.args.node c.args.mode c.requires.act ∙ e))) refl

pub returns-in_err-asked-clause-exact : goal.returns-in_err-asked-clause-exact
returns-in_err-asked-clause-exact c =
    let m = may_now (goal.at.returns-in_err-asked-clause-exact c).After-make_room_to_ask in let l = c.make_room_to_ask.new.self in
    let same = sym (state-same (graph_of c.args.graph.now) l (record l { headers = c.ask.new.self }) c.in_err-asked.ensures.err refl) in
    record {
      sound = record { few = m.exact.sound.few; lists = m.exact.sound.lists };
      agree = λ u. subst (λ s. Agrees s l.lists.items u) same (m.exact.agree u);
      count = λ u. subst (λ s. CountsHeld s l.lists.items u) same (m.exact.count u);
    }

pub returns-in_err-asked-clause-held : goal.returns-in_err-asked-clause-held
returns-in_err-asked-clause-held c =
    let p = (goal.at.returns-in_err-asked-clause-held c).After-make_room_to_ask in
    λ h e. clash (c.in_err-asked.ensures.member (member_now p ∙ member_is p ∙ h) (says p ∙ e)) refl

-- what the list is called with

pub set_mode-requires : goal.set_mode-requires
set_mode-requires c =
    let p = (goal.at.set_mode-requires c).After-make_room_to_ask in
    own-listed c.args.graph.now c.make_room_to_ask.new.self c.args.slot (may_now p) c.index_mut-list.result.now c.index_mut-list.ensures.value
    c.args.node ∙ member_now p ∙ c.if-is_member-2.true

pub enter-requires-clause-new : goal.enter-requires-clause-new
enter-requires-clause-new c =
    let p = (goal.at.enter-requires-clause-new c).After-make_room_to_ask in
    own-listed c.args.graph.now c.make_room_to_ask.new.self c.args.slot (may_now p) c.index_mut-list.result.now c.index_mut-list.ensures.value
    c.args.node ∙ member_now p ∙ c.if-is_member-2.false

pub enter-requires-clause-room : goal.enter-requires-clause-room
enter-requires-clause-room c =
    let p = (goal.at.enter-requires-clause-room c).After-make_room_to_ask in
    (own-room c.args.graph.now c.make_room_to_ask.new.self c.args.slot (may_now p) c.index_mut-list.result.now c.index_mut-list.ensures.value
    (c.in-Ok.ensures.room (ap (λ b. b && is_granted_at c.args.self.now.headers.entries c.args.slot c.args.node c.args.mode)
    (sym (held_is p) ∙ c.if-is_member-2.false)))).0

pub count_up-requires-clause-room : goal.count_up-requires-clause-room
count_up-requires-clause-room c =
    let p = (goal.at.count_up-requires-clause-room c).After-make_room_to_ask in
    let room = (own-room c.args.graph.now c.make_room_to_ask.new.self c.args.slot (may_now p) c.index_mut-list.result.now c.index_mut-list.ensures.value
    (c.in-Ok.ensures.room (ap (λ b. b && is_granted_at c.args.self.now.headers.entries c.args.slot c.args.node c.args.mode)
    (sym (held_is p) ∙ c.if-is_member-2.false)))).1 in
    let kept = c.enter.ensures.room in
    subst (λ ps. unlisted c.enter.new.self ps ≤ spare c.enter.new.self.loose) (sym c.requires.can.parents_are)
    (parents-room c.args.graph.now c.law.ensures.lawful c.args.node c.enter.new.self (omega arith))

pub count_up-requires-clause-few : goal.count_up-requires-clause-few
count_up-requires-clause-few c =
    let p = (goal.at.count_up-requires-clause-few c).After-make_room_to_ask in
    λ q h. subst (λ ps. count_of c.enter.new.self q + count_by (same_node q) ps < 2 ^ 32) (sym c.requires.can.parents_are)
    (subst (λ (k : ℕ). k + count_by (same_node q) (parents_of (graph_of c.args.graph.now) c.args.node) < 2 ^ 32) (sym (c.enter.ensures.counts q))
    (own-few c.args.graph.now c.make_room_to_ask.new.self c.args.slot (may_now p) c.index_mut-list.result.now c.index_mut-list.ensures.value
    c.law.ensures.lawful c.args.node q))

pub enter-requires-then-not-is_member-clause-new : goal.enter-requires-then-not-is_member-clause-new
enter-requires-then-not-is_member-clause-new c =
    let p = (goal.at.enter-requires-then-not-is_member-clause-new c).After-make_room_to_ask in
    own-listed c.args.graph.now c.make_room_to_ask.new.self c.args.slot (may_now p) c.index_mut-list.result.now c.index_mut-list.ensures.value
    c.args.node ∙ member_now p ∙ c.if-not-is_member.true

pub enter-requires-then-not-is_member-clause-room : goal.enter-requires-then-not-is_member-clause-room
enter-requires-then-not-is_member-clause-room c =
    let p = (goal.at.enter-requires-then-not-is_member-clause-room c).After-make_room_to_ask in
    (own-room c.args.graph.now c.make_room_to_ask.new.self c.args.slot (may_now p) c.index_mut-list.result.now c.index_mut-list.ensures.value
    (c.in-Ok.ensures.room (ap (λ b. b && is_granted_at c.args.self.now.headers.entries c.args.slot c.args.node c.args.mode)
    (sym (held_is p) ∙ c.if-not-is_member.true)))).0

-- a conversion is granted: its list has the mode
put_raised : (c : After-set_mode) → MayAct c.args.graph.now c.args.self.now c.args.slot
    → c.ne-is_member.result ≡ holds (members (state_in c.args.graph.now c.args.self.now) c.args.node) c.args.slot
    → IsGranted c.args.graph.now c.args.self.now
    (record c.make_room_to_ask.new.self { headers = c.ask.new.self; lists = with_item c.make_room_to_ask.new.self.lists c.args.slot c.set_mode.new.self })
    c.args.slot c.args.node c.args.mode c.in-Granted.wanted
put_raised c m held = let g = c.args.graph.now in let l = c.make_room_to_ask.new.self in let t = c.args.slot in let n = c.args.node in
    let x = c.index_mut-list.result.now in let x' = c.set_mode.new.self in
    let now = sym (roomy_says l m c.make_room_to_ask.ensures.rest c.make_room_to_ask.ensures.kept n c.args.mode)
    ∙ answer-enters _ _ _ _ c.in_ok-asked.ensures.answer c.in-Granted.is in
    let is : c.ne-is_member.result ≡ not (same_mode c.args.held NL) = search rules in
    let r = roomy_ready l m c.make_room_to_ask.ensures.rest c.make_room_to_ask.ensures.kept n c.args.mode c.ne-is_member.result true held
    now (λ e. c.in-Ok.ensures.room (ap (λ b. b && is_granted_at c.args.self.now.headers.entries t n c.args.mode) (sym is) ∙ e)) in
    let listed = slot-listed g l t r.may in
    is_granted _ r c.in_ok-asked.asked c.in-Granted.wanted c.law.ensures.lawful c.requires.can.live
    c.requires.can.lock c.in_ok-asked.ensures.answer c.in-Granted.is c.in_ok-asked.ensures.asked.granted refl
    (has_node-set l.lists.items t x x' listed c.index_mut-list.ensures.value n c.in-Granted.wanted c.set_mode.ensures.modes
    (λ q. c.set_mode.ensures.listed q ∙ also_listed x n (own-listed g l t r.may x c.index_mut-list.ensures.value n ∙ r.is_held ∙ c.if-is_member-2.true) q))
    (counts-entered l.lists.items t x x' listed c.index_mut-list.ensures.value
    (λ q. if same_mode (held_of l.headers.entries t n) NL then count_by (same_node q) (parents_of (graph_of g) n) else 0)
    (λ q. c.set_mode.ensures.counts q ∙ none_more (count_of x q)
    ∙ ap (λ b. count_of x q + (if b then count_by (same_node q) (parents_of (graph_of g) n) else 0)) (sym (not-true _ (r.is_held ∙ c.if-is_member-2.true)))))

-- a newcomer is granted: its list has the node
put_new : (c : After-count_up) → MayAct c.args.graph.now c.args.self.now c.args.slot
    → c.ne-is_member.result ≡ holds (members (state_in c.args.graph.now c.args.self.now) c.args.node) c.args.slot
    → IsGranted c.args.graph.now c.args.self.now
    (record c.make_room_to_ask.new.self { headers = c.ask.new.self; lists = with_item c.make_room_to_ask.new.self.lists c.args.slot c.count_up.new.self })
    c.args.slot c.args.node c.args.mode c.in-Granted-2.wanted
put_new c m held = let g = c.args.graph.now in let l = c.make_room_to_ask.new.self in let t = c.args.slot in let n = c.args.node in
    let x = c.index_mut-list.result.now in let x' = c.count_up.new.self in
    let now = sym (roomy_says l m c.make_room_to_ask.ensures.rest c.make_room_to_ask.ensures.kept n c.args.mode)
    ∙ answer-enters _ _ _ _ c.in_ok-asked.ensures.answer c.in-Granted-2.is in
    let is : c.ne-is_member.result ≡ not (same_mode c.args.held NL) = search rules in
    let r = roomy_ready l m c.make_room_to_ask.ensures.rest c.make_room_to_ask.ensures.kept n c.args.mode c.ne-is_member.result true held
    now (λ e. c.in-Ok.ensures.room (ap (λ b. b && is_granted_at c.args.self.now.headers.entries t n c.args.mode) (sym is) ∙ e)) in
    let listed = slot-listed g l t r.may in
    is_granted _ r c.in_ok-asked.asked c.in-Granted-2.wanted c.law.ensures.lawful c.requires.can.live
    c.requires.can.lock c.in_ok-asked.ensures.answer c.in-Granted-2.is c.in_ok-asked.ensures.asked.granted refl
    (has_node-set l.lists.items t x x' listed c.index_mut-list.ensures.value n c.in-Granted-2.wanted
    (λ q. c.count_up.ensures.modes q ∙ c.enter.ensures.modes q) (λ q. c.count_up.ensures.listed q ∙ c.enter.ensures.listed q))
    (counts-entered l.lists.items t x x' listed c.index_mut-list.ensures.value
    (λ q. if same_mode (held_of l.headers.entries t n) NL then count_by (same_node q) (parents_of (graph_of g) n) else 0)
    (λ q. c.count_up.ensures.counts q ∙ ap₂ (λ k ps. k + count_by (same_node q) ps) (c.enter.ensures.counts q) c.requires.can.parents_are
    ∙ ap (λ b. count_of x q + (if b then count_by (same_node q) (parents_of (graph_of g) n) else 0)) (sym (not-false _ (r.is_held ∙ c.if-is_member-2.false)))))

-- the list of a waiter has the node
listed : (c : After-set_status) → MayAct c.args.graph.now c.make_room_to_ask.new.self c.args.slot
    → holds (members (state_in c.args.graph.now c.make_room_to_ask.new.self) c.args.node) c.args.slot ≡ c.ne-is_member.result
    → is_granted_at c.args.self.now.headers.entries c.args.slot c.args.node c.args.mode ≡ false
    → HasWait c.make_room_to_ask.new.self.lists.items c.if-not-is_member.self.lists.items c.args.slot c.args.node
    (held_of c.make_room_to_ask.new.self.headers.entries c.args.slot c.args.node)
listed c m is blocked = let g = c.args.graph.now in let l = c.make_room_to_ask.new.self in let t = c.args.slot in let n = c.args.node in
    let x = c.index_mut-list.result.now in let at = c.index_mut-list.ensures.value in
    let held = held_of l.headers.entries t n in
    let there = slot-listed g l t m in
    let room = (own-room g l t m x at (c.in-Ok.ensures.room (ap (λ b. not (same_mode c.args.held NL) && b) blocked
    ∙ and-false (not (same_mode c.args.held NL))))).1 in
    elim c.if-not-is_member.branch [
      | then-not-is_member w ↦ subst (λ ls. HasWait l.lists.items ls.items t n held) (sym (ap (λ y. y.lists) w.self-is))
          (has_wait-set l.lists.items t x w.enter-then-not-is_member.new.self there at n held
          (λ q. w.enter-then-not-is_member.ensures.modes q ∙ ap (λ k. if same_node q n then k else mode_of x q)
          (sym (nl_is held (is ∙ w.if-not-is_member.true))))
          w.enter-then-not-is_member.ensures.listed w.enter-then-not-is_member.ensures.counts (let kept = w.enter-then-not-is_member.ensures.room in
          omega arith))
      | else-not-is_member w ↦ subst (λ ls. HasWait l.lists.items ls.items t n held) (sym (ap (λ y. y.lists) w.self-is))
          (has_wait-set l.lists.items t x x there at n held (also_held x n held (own-mode g l t m x at n))
          (also_listed x n (own-listed g l t m x at n ∙ is ∙ w.if-not-is_member.false)) (λ q. refl) room)
    ]

same_headers : (c : After-set_status) → c.if-not-is_member.self.headers ≡ c.ask.new.self
same_headers c = elim c.if-not-is_member.branch [ then-not-is_member w ↦ ap (λ y. y.headers) w.self-is | else-not-is_member w ↦ ap (λ y. y.headers) w.self-is ]

same_txn_entries : (c : After-set_status) → c.if-not-is_member.self.txn_entries ≡ c.make_room_to_ask.new.self.txn_entries
same_txn_entries c = elim c.if-not-is_member.branch [
  | then-not-is_member w ↦ ap (λ y. y.txn_entries) w.self-is
  | else-not-is_member w ↦ ap
      (λ y. y.txn_entries) w.self-is
]

blocks : (c : After-set_status) → MayAct c.args.graph.now c.args.self.now c.args.slot
    → enters_at (state_in c.args.graph.now c.args.self.now) c.args.slot c.args.node c.args.mode ≡ false
blocks c m =
    sym (roomy_says c.make_room_to_ask.new.self m c.make_room_to_ask.ensures.rest
    c.make_room_to_ask.ensures.kept c.args.node c.args.mode) ∙ answer-waits _ _ _ c.in_ok-asked.ensures.answer c.in-Waiting.is

-- it waits
put : (c : After-set_status) → MayAct c.args.graph.now c.args.self.now c.args.slot
    → c.ne-is_member.result ≡ holds (members (state_in c.args.graph.now c.args.self.now) c.args.node) c.args.slot
    → IsEnqueued c.args.graph.now c.args.self.now (record c.if-not-is_member.self { txn_entries = c.set_status.new.self }) c.args.slot c.args.node
    c.args.mode
put c m held = let g = c.args.graph.now in let l = c.make_room_to_ask.new.self in let t = c.args.slot in let n = c.args.node in
    let is : c.ne-is_member.result ≡ not (same_mode c.args.held NL) = search rules in
    let r = roomy_ready l m c.make_room_to_ask.ensures.rest c.make_room_to_ask.ensures.kept n c.args.mode c.ne-is_member.result false held
    (blocks c m) (λ e. c.in-Ok.ensures.room (ap (λ b. b && is_granted_at c.args.self.now.headers.entries t n c.args.mode) (sym is) ∙ e)) in
    is_enqueued g c.args.self.now l (record c.if-not-is_member.self { txn_entries = c.set_status.new.self }) t n c.args.mode c.sup-wanted.result _ r
    c.ask.new.self.entries c.if-not-is_member.self.txn_entries.items
    (ap (λ h. h.entries) (same_headers c)) c.in_ok-asked.ensures.asked.waits (ap (λ x. x.items) (same_txn_entries c)) c.set_status.ensures.len
    c.set_status.ensures.txns
    (c.sup-wanted.ensures ∙ ap (λ k. supremum k c.args.mode) (c.requires.can.held_is ∙ (m.exact.agree t).modes n
    ∙ ap (λ s. s.held t n) (sym (roomy_same l m c.make_room_to_ask.ensures.rest c.make_room_to_ask.ensures.kept))))
    (listed c r.may r.is_held (says_is g c.args.self.now t n c.args.mode m ∙ blocks c m))

pub returns-in-Granted-clause-exact : goal.returns-in-Granted-clause-exact
returns-in-Granted-clause-exact c = let at = goal.at.returns-in-Granted-clause-exact c in let p = at.After-make_room_to_ask in
    let now = put_raised at.After-set_mode c.requires.act (member_is p) in record { sound = now.sound; agree = now.agree; count = now.count }

pub returns-in-Granted-clause-asked : goal.returns-in-Granted-clause-asked
returns-in-Granted-clause-asked c = let at = goal.at.returns-in-Granted-clause-asked c in let p = at.After-make_room_to_ask in record {
  answered = answer_is p _ c.in_ok-asked.ensures.answer;
  enters = λ e. (put_raised at.After-set_mode c.requires.act (member_is p)).state;
  waits = λ e. clash (sym (says p) ∙ answer-enters _ _ _ _ c.in_ok-asked.ensures.answer c.in-Granted.is) e;
}

pub returns-in-Granted-2-clause-exact : goal.returns-in-Granted-2-clause-exact
returns-in-Granted-2-clause-exact c = let at = goal.at.returns-in-Granted-2-clause-exact c in let p = at.After-make_room_to_ask in
    let now = put_new at.After-count_up c.requires.act (member_is p) in record { sound = now.sound; agree = now.agree; count = now.count }

pub returns-in-Granted-2-clause-asked : goal.returns-in-Granted-2-clause-asked
returns-in-Granted-2-clause-asked c = let at = goal.at.returns-in-Granted-2-clause-asked c in let p = at.After-make_room_to_ask in record {
  answered = answer_is p _ c.in_ok-asked.ensures.answer;
  enters = λ e. (put_new at.After-count_up c.requires.act (member_is p)).state;
  waits = λ e. clash (sym (says p) ∙ answer-enters _ _ _ _ c.in_ok-asked.ensures.answer c.in-Granted-2.is) e;
}

pub returns-after-not-is_member-clause-exact : goal.returns-after-not-is_member-clause-exact
returns-after-not-is_member-clause-exact c = let at = goal.at.returns-after-not-is_member-clause-exact c in let p = at.After-make_room_to_ask in
    let now = put at.After-set_status c.requires.act (member_is p) in record { sound = now.sound; agree = now.agree; count = now.count }

pub returns-after-not-is_member-clause-asked : goal.returns-after-not-is_member-clause-asked
returns-after-not-is_member-clause-asked c = let at = goal.at.returns-after-not-is_member-clause-asked c in let p = at.After-make_room_to_ask in record {
  answered = answer_is p _ c.in_ok-asked.ensures.answer;
  enters = λ e. clash e (blocks at.After-set_status c.requires.act);
  waits = λ e. (put at.After-set_status c.requires.act (member_is p)).state;
}

-- In which order the lists have their nodes.

pub returns-then-covers-clause-orders : goal.returns-then-covers-clause-orders
returns-then-covers-clause-orders c = lists_keep (lists_here c.args.self.now.lists.items)

pub returns-in_default-clause-orders : goal.returns-in_default-clause-orders
returns-in_default-clause-orders c = lists_keep (kept_lose c.make_room_to_ask.ensures.kept)

pub returns-in_err-asked-clause-orders : goal.returns-in_err-asked-clause-orders
returns-in_err-asked-clause-orders c = lists_keep (kept_lose c.make_room_to_ask.ensures.kept)

-- the list of the slot is written, which keeps its places
written_keeps : (c : After-make_room_to_ask) (l l' : LockList) → l ≡ slice_index_or c.make_room_to_ask.new.self.lists.items c.args.slot l
    → KeepsPlaces (keys l.entries) (keys l'.entries) → ListsKeepPlaces c.args.self.now.lists.items
    (slice_set c.make_room_to_ask.new.self.lists.items c.args.slot l')
written_keeps c l l' at here = kept_then c.make_room_to_ask.ensures.kept
    (set_keeps c.make_room_to_ask.new.self.lists.items c.args.slot l l' (slot-listed c.args.graph.now c.make_room_to_ask.new.self c.args.slot (may_now c)) at
    here)

pub returns-in-Granted-clause-orders : goal.returns-in-Granted-clause-orders
returns-in-Granted-clause-orders c =
    let l = c.index_mut-list.result.now in
    written_keeps (goal.at.returns-in-Granted-clause-orders c).After-make_room_to_ask l c.set_mode.new.self c.index_mut-list.ensures.value
    (same_order (keys l.entries) (keys c.set_mode.new.self.entries) c.set_mode.ensures.keys).places

pub returns-in-Granted-2-clause-orders : goal.returns-in-Granted-2-clause-orders
returns-in-Granted-2-clause-orders c =
    let l = c.index_mut-list.result.now in
    written_keeps (goal.at.returns-in-Granted-2-clause-orders c).After-make_room_to_ask l c.count_up.new.self c.index_mut-list.ensures.value
    (enters_last (keys l.entries) (keys c.count_up.new.self.entries) c.args.node (c.count_up.ensures.keys ∙ c.enter.ensures.keys))

pub returns-after-not-is_member-clause-orders : goal.returns-after-not-is_member-clause-orders
returns-after-not-is_member-clause-orders c =
    let p = (goal.at.returns-after-not-is_member-clause-orders c).After-make_room_to_ask in
    let l = c.index_mut-list.result.now in
    elim c.if-not-is_member.branch [
      | then-not-is_member w ↦ subst (λ ls. ListsKeepPlaces c.args.self.now.lists.items ls.items) (sym (ap (λ y. y.lists) w.self-is))
          (written_keeps p l w.enter-then-not-is_member.new.self c.index_mut-list.ensures.value
          (enters_last (keys l.entries) (keys w.enter-then-not-is_member.new.self.entries) c.args.node w.enter-then-not-is_member.ensures.keys))
      | else-not-is_member w ↦ subst (λ ls. ListsKeepPlaces c.args.self.now.lists.items ls.items) (sym (ap (λ y. y.lists) w.self-is))
          (written_keeps p l l c.index_mut-list.ensures.value (same_order (keys l.entries) (keys l.entries) refl).places)
    ]
