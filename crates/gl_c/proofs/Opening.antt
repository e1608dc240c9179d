-- A new watcher: its publisher, and the reply to C.
use Rattle.std.specs.Prelude.{◌≡◌, ◌⊎◌, ◌≤◌, ℕ, Bool, false, [], ◌∷◌, Option, Some, None, Result, Ok, Err, IfSome, IfNone, IfOk, is_some}
use Rattle.std.proofs.Common.{refl, sym, subst, inl, inr, arith}
use Rattle.gl_waits.specs.declared.board.Board.{Board}
use Rattle.gl_modes.specs.declared.refusal.Refusal.TheVariants as no
use Rattle.gl_model.specs.declared.answers.Detect.{Detect}
use Rattle.gl_window.specs.Boards.{last_epoch}
use Rattle.gl_window.specs.Strip.{Strip}
use Rattle.gl_window.proofs.Fronts.{prefix_self}
use Rattle.gl_window.specs.Window.{GoesOn}
use Rattle.gl_window.specs.declared.publisher.WatchFault.{WatchFault}
use Rattle.gl_c.specs.declared.answers.reply.Reply.{Reply}
use Rattle.gl_c.specs.managers.Guarded.{GuardedView}
use Rattle.gl_c.specs.Numbers.{done, too_many_watchers}
use Rattle.gl_c.specs.answers.Replies.{refused_reply, status_reply}
use Rattle.gl_c.specs.watchers.Watching.{Attends, Continues, Knows, Watches}

-- the publisher that existed or was made for a watcher is no newer than the present snapshot, has the manager's way of detection, and continues what was shown
pub record IsOpened (o : Option Strip) (board : Board) (detect : Detect) (p : Strip) : Type 0 where
  pub epoch : last_epoch 0 p.list ≤ board.epoch
  pub detection : p.detect ≡ detect
  pub goes_on : Continues o (Some p)

goes_on_self : (s : Strip) → GoesOn s s
goes_on_self s = record { book = refl; detect = refl; begins = prefix_self s.list }

same_ok : {E : Type 0} (x : Result Strip E) (p q : Strip) → x ≡ Ok p → x ≡ Ok q → p ≡ q
same_ok x p q a b = cc (a, b)

opened : {E : Type 0} (o : Option Strip) (x : Result Strip E) (p : Strip) (board : Board) (detect : Detect) → x ≡ Ok p → IfSome o (λ q. x ≡ Ok q)
    → IfNone o (IfOk x (λ q. (q.list ≡ board ∷ []) × (q.detect ≡ detect)))
    → IfSome o (λ q. last_epoch 0 q.list ≤ board.epoch) → IfSome o (λ q. q.detect ≡ detect) → IsOpened o board detect p
opened {E} None x p board detect is same first low detection =
    let made = subst (λ (y : Result Strip E). IfOk y (λ q. (q.list ≡ board ∷ []) × (q.detect ≡ detect))) is first in
    record { epoch = rw made.0 (omega arith); detection = made.1; goes_on = tt }
opened (Some q) x p board detect is same first low detection =
    let pq : q ≡ p = same_ok x q p same is in
    record {
      epoch = subst (λ (s : Strip). last_epoch 0 s.list ≤ board.epoch) pq low;
      detection = subst (λ (s : Strip). s.detect ≡ detect) pq detection;
      goes_on = (p, refl, subst (λ (s : Strip). GoesOn q s) pq (goes_on_self q));
    }

-- the same, in the words of the call that uses it
pub opened_by : {E : Type 0} (taken o : Option Strip) (x : Result Strip E) (p : Strip) (board : Board) (n : ℕ) (detection detect : Detect) → taken ≡ o
    → x ≡ Ok p
    → IfSome taken (λ q. x ≡ Ok q)
    → IfNone taken (IfOk x (λ q. (q.list ≡ board ∷ []) × (q.detect ≡ detect))) → IfSome o (λ q. last_epoch 0 q.list ≤ n) → IfSome o (λ q. q.detect ≡ detection)
    → board.epoch ≡ n → detect ≡ detection → IsOpened o board detection p
opened_by {E} taken o x p board n detection detect from is same first low detections at so =
    opened o x p board detection is (subst (λ (z : Option Strip). IfSome z (λ q. x ≡ Ok q)) from same)
    (subst (λ (d : Detect). IfNone o (IfOk x (λ q. (q.list ≡ board ∷ []) × (q.detect ≡ d)))) so
    (subst (λ (z : Option Strip). IfNone z (IfOk x (λ q. (q.list ≡ board ∷ []) × (q.detect ≡ detect)))) from first))
    (subst (λ (m : ℕ). IfSome o (λ q. last_epoch 0 q.list ≤ m)) (sym at) low) detections

-- if it could not be made there was none
pub was_none : {E : Type 0} (o : Option Strip) (x : Result Strip E) (e : E) → IfSome o (λ q. x ≡ Ok q) → x ≡ Err e → o ≡ None
was_none None x e same is = refl
was_none (Some q) x e same is = absurd (cc (same, is))

-- a place that has no watcher
pub none_of : (o : Option Strip) (b : Bool) → b ≡ is_some o → b ≡ false → o ≡ None
none_of None b is out = refl
none_of (Some s) b is out = absurd (cc (is, out))

-- a watcher that was made
pub watches_made : (m m' : Option GuardedView) (w : Option Strip) (eye : Strip) (r : Reply) → Attends m (Some (Ok eye)) m' → w ≡ None → r ≡ status_reply done
    → Watches m w r m' (Some eye)
watches_made None m' w eye r h none is = absurd (cc (h.0))
watches_made (Some g) m' (Some s) eye r h none is = absurd (cc none)
watches_made (Some g) m' None eye r h none is =
    let x : Result Strip WatchFault = h.0 in
    let same : x ≡ Ok eye = cc (h.1) in
    (h.2, h.3, h.4, inl (is, eye, refl, subst (λ (y : Result Strip WatchFault). IfOk y (Knows g h.2)) same h.5))

-- and one that was not
pub watches_not : (m m' : Option GuardedView) (w : Option Strip) (x : Result Strip WatchFault) (r : Reply) → Attends m (Some x) m' → w ≡ None
    → (r ≡ status_reply too_many_watchers) ⊎ (r ≡ refused_reply no.NoMemory) → Watches m w r m' w
watches_not None m' w x r h none is = absurd (cc (h.0))
watches_not (Some g) m' (Some s) x r h none is = absurd (cc none)
watches_not (Some g) m' None x r h none is = (h.2, h.3, h.4, inr (is, refl))
