-- Replies about a node's queue.
use Rattle.std.specs.Prelude.{◌≡◌, List, Option, Some, None, Result, Ok, Err, IfOk, MatchResult}
use Rattle.std.proofs.Common.{ap, ◌∙◌}
use denote.Bor.{Bor}
use Rattle.gl_modes.specs.declared.refusal.Refusal.{Refusal}
use Rattle.gl_header.specs.Header.{Waiter}
use Rattle.gl_model.specs.Calls.{RefusesOnly}
use Rattle.gl_c.specs.declared.answers.reply.Reply.{Reply}
use Rattle.gl_c.specs.questions.Listings.{of_queue}
use Rattle.gl_c.specs.answers.Replies.{refused_reply}

pub queue_is : (answer : List Waiter → Reply) (o : Option Refusal) (queue : List Waiter) (x : Result (Bor (List Waiter)) Refusal) (r : Reply)
    → IfOk x (λ w. w.now ≡ queue) → RefusesOnly o x → MatchResult x (λ w. r ≡ answer w.now) (λ e. r ≡ refused_reply e) → r ≡ of_queue o answer queue
queue_is answer None queue (Ok w) r is only same = same ∙ ap answer is
queue_is answer None queue (Err e) r is only same = absurd (cc only)
queue_is answer (Some f) queue (Ok w) r is only same = absurd (cc only)
queue_is answer (Some f) queue (Err e) r is only same = same ∙ ap refused_reply (cc only)
