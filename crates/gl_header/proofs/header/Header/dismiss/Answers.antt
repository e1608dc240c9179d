use Rattle.gl_header.proofs.Words.{[], ◌∙◌, ◌≡◌, ap, front, Grouped, HeaderState, held_by, IsLawful, members_of, refl, slot_limit, subst, sym, without}
use Rattle.gl_header.proofs.Words.{without_waiter}
use Rattle.gl_header.proofs.Queues.{without-queue}
use Rattle.gl_header.proofs.Orderly.{orderly-waiter_gone}
use Rattle.gl_header.proofs.Pumped.{front-stuck}
use Rattle.gl_header.proofs.Lawful.{lawful}
use Rattle.gl_header.proofs.Asks.{orderly-by}
use Rattle.gl_header.proofs.header.Header.dismiss.Goals as goal

gone : (c : goal.After-take_out) → c.take_out.new.queue.items ≡ without_waiter c.args.slot c.self.inside.queue.items
gone c =
    c.take_out.ensures ∙ without-queue c.self.inside.queue.items c.args.slot c.self.invariant.lawful.orderly.distinct

after : (c : goal.After-take_out) → IsLawful (held_by c.self.inside.granted) c.take_out.new.queue.items
after c =
    let waits : front slot_limit (held_by c.self.inside.granted) (without_waiter c.args.slot c.self.inside.queue.items) ≡ []
    = subst (λ (x : HeaderState). front slot_limit (members_of x) (without_waiter c.args.slot x.queue) ≡ []) (sym c.self.view_is) c.requires.front_waits in
    record {
      orderly = orderly-by (held_by c.self.inside.granted) (held_by c.self.inside.granted) c.take_out.new.queue.items
          (without c.self.inside.queue.items c.args.slot) refl c.take_out.ensures
          (orderly-waiter_gone (held_by c.self.inside.granted) c.self.inside.queue.items c.args.slot c.self.invariant.lawful.orderly);
      stuck = front-stuck (held_by c.self.inside.granted) c.take_out.new.queue.items (ap (front slot_limit (held_by c.self.inside.granted)) (gone c) ∙ waits);
    }

pub invariant_of-self : goal.invariant_of-self
invariant_of-self c = record { group = c.self.invariant.group; lawful = after c }

pub returns-clause-after : goal.returns-clause-after
returns-clause-after c =
    subst (λ (x : HeaderState). record { granted = Grouped c.self.inside.granted; queue = c.take_out.new.queue.items } ≡ record x {
      queue =
          without_waiter c.args.slot x.queue;
    }) c.self.view_is
    (ap (λ q. record { granted = Grouped c.self.inside.granted; queue = q }) (gone c))

pub returns-clause-lawful : goal.returns-clause-lawful
returns-clause-lawful c = lawful c.self.inside.granted _ c.self.invariant.group (after c)
