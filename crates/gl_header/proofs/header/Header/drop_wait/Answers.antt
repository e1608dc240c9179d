use Rattle.gl_header.proofs.Words.{◌∙◌, ◌≡◌, ap, front, HeaderState, held_by, IsLawful, IsOrderly, members_of, pumped_members, pumped_queue, refl, slot_limit}
use Rattle.gl_header.proofs.Words.{subst, without, without_waiter}
use Rattle.gl_header.proofs.Queues.{without-queue}
use Rattle.gl_header.proofs.Orderly.{orderly-waiter_gone}
use Rattle.gl_header.proofs.Pumped.{lawful-pumped}
use Rattle.gl_header.proofs.Lawful.{lawful}
use Rattle.gl_header.proofs.Asks.{lawful-by, orderly-by}
use Rattle.gl_header.proofs.header.Header.drop_wait.Goals as goal

pub pump-requires-clause-orderly : goal.pump-requires-clause-orderly
pump-requires-clause-orderly c =
    orderly-by (held_by c.self.inside.granted) (held_by c.self.inside.granted) c.take_out.new.queue.items
    (without c.self.inside.queue.items c.args.slot) refl c.take_out.ensures
    (orderly-waiter_gone (held_by c.self.inside.granted) c.self.inside.queue.items c.args.slot c.self.invariant.lawful.orderly)

orderly : (c : goal.After-pump) → IsOrderly (held_by c.self.inside.granted) c.take_out.new.queue.items
orderly c =
    orderly-by (held_by c.self.inside.granted) (held_by c.self.inside.granted) c.take_out.new.queue.items
    (without c.self.inside.queue.items c.args.slot) refl c.take_out.ensures
    (orderly-waiter_gone (held_by c.self.inside.granted) c.self.inside.queue.items c.args.slot c.self.invariant.lawful.orderly)

gone : (c : goal.After-pump) → c.take_out.new.queue.items ≡ without_waiter c.args.slot c.self.inside.queue.items
gone c =
    c.take_out.ensures ∙ without-queue c.self.inside.queue.items c.args.slot c.self.invariant.lawful.orderly.distinct

after : (c : goal.After-pump) → IsLawful (held_by c.pump.new.group) c.pump.new.queue.items
after c =
    lawful-by (held_by c.pump.new.group)
    (pumped_members slot_limit (held_by c.self.inside.granted) c.take_out.new.queue.items) c.pump.new.queue.items
    (pumped_queue slot_limit (held_by c.self.inside.granted) c.take_out.new.queue.items) c.pump.ensures.members c.pump.ensures.queue
    (lawful-pumped (held_by c.self.inside.granted) c.take_out.new.queue.items (orderly c))

pub invariant_of-self : goal.invariant_of-self
invariant_of-self c = record { group = c.pump.ensures.group; lawful = after c }

pub returns-clause-granted : goal.returns-clause-granted
returns-clause-granted c =
    subst (λ (x : HeaderState). c.pump.new.granted.items ≡ front slot_limit (members_of x) (without_waiter c.args.slot x.queue)) c.self.view_is
    (c.pump.ensures.granted ∙ ap (front slot_limit (held_by c.self.inside.granted)) (gone c))

pub returns-clause-members : goal.returns-clause-members
returns-clause-members c =
    subst (λ (x : HeaderState). held_by c.pump.new.group ≡ pumped_members slot_limit (members_of x) (without_waiter c.args.slot x.queue)) c.self.view_is
    (c.pump.ensures.members ∙ ap (pumped_members slot_limit (held_by c.self.inside.granted)) (gone c))

pub returns-clause-queue : goal.returns-clause-queue
returns-clause-queue c =
    subst (λ (x : HeaderState). c.pump.new.queue.items ≡ pumped_queue slot_limit (members_of x) (without_waiter c.args.slot x.queue)) c.self.view_is
    (c.pump.ensures.queue ∙ ap (pumped_queue slot_limit (held_by c.self.inside.granted)) (gone c))

pub returns-clause-lawful : goal.returns-clause-lawful
returns-clause-lawful c = lawful _ _ c.pump.ensures.group (after c)
