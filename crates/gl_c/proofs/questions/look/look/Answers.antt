use Rattle.std.proofs.Common.{◌≡◌, length, subst, sym, List}
use Rattle.std.specs.List.{slice_get}
use Rattle.gl_header.specs.Header.{Waiter}
use Rattle.gl_catalog.specs.Manager.{state_of}
use Rattle.gl_c.specs.declared.questions.look.Query.{Query}
use Rattle.gl_c.specs.questions.Listings.{waiter_reply}
use Rattle.gl_c.specs.questions.Looks.{looked}
use Rattle.gl_c.specs.answers.Replies.{count_reply}
use Rattle.gl_c.proofs.Queues.{queue_is}
use Rattle.gl_c.proofs.questions.look.look.Goals as goal

pub returns-in-QueueLen : goal.returns-in-QueueLen
returns-in-QueueLen c =
    subst (λ (q : Query). c.queue_len_reply.result ≡ looked c.args.manager.now q) (sym c.in-QueueLen.is)
    (queue_is (λ (q : List Waiter). count_reply (length q)) _ _ c.queue.result c.queue_len_reply.result
    c.queue.ensures.queue c.queue.ensures.refused c.queue_len_reply.ensures)

pub returns-in-QueueAt : goal.returns-in-QueueAt
returns-in-QueueAt c =
    subst (λ (q : Query). c.queue_at_reply.result ≡ looked c.args.manager.now q) (sym c.in-QueueAt.is)
    (queue_is (λ (q : List Waiter). waiter_reply (state_of c.args.manager.now) (slice_get q c.in-QueueAt.place)) _ _ c.queue-in-QueueAt.result
    c.queue_at_reply.result c.queue-in-QueueAt.ensures.queue c.queue-in-QueueAt.ensures.refused c.queue_at_reply.ensures)
