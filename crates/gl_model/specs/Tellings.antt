-- What others are told of a command, a function of the states before and after; and the same step by step.
use Rattle.gl_slots.specs.Limit.{most_slots}
use Rattle.std.specs.Prelude.{◌&&◌, ◌==◌, [], Bool, if◌then◌else◌, List, nat_lt, None, not, Option, Some, true, ℕ, ◌∷◌, ◌≡◌}
use Rattle.std.specs.List.{count_by, filter, filter_map, find, list_all}
use Rattle.gl_modes.specs.declared.mode.Mode.{Mode}
use Rattle.gl_modes.specs.declared.node.NodeId.{NodeId}
use Rattle.gl_modes.specs.Modes.{same_mode}
use Rattle.gl_modes.specs.declared.mode.Mode.TheVariants.{NL}
use Rattle.gl_graph.specs.Graph.{Graph, is_child, is_live, nodes}
use Rattle.gl_header.specs.Header.{after_grants, is_among_waiters, is_waiter, Waiter, without_waiter}
use Rattle.gl_model.specs.declared.txn.TxnId.{TxnId}
use Rattle.gl_model.specs.declared.txn.Status.{Status}
use Rattle.gl_model.specs.declared.answers.Notice.{Notice}
use Rattle.gl_model.specs.declared.txn.Status.TheVariants.{Active, Condemned, Waiting}
use Rattle.gl_model.specs.State.{age_in, age_of, is_waiting_at, slots, State, status_of, Txn}
use Rattle.gl_model.specs.declared.answers.Notice.TheVariants as notice

-- what a waiter for m on n is told that waits no more: by its status at the end, whether the node lives, and whether it holds the wanted mode
abbrev pub notice_of : State → ℕ → NodeId → Mode → Option Status → Option Notice
notice_of s' t n m None = None
notice_of s' t n m (Some (Waiting q w)) = None
notice_of s' t n m (Some Condemned) = Some notice.Victim
notice_of s' t n m (Some Active) =
    if not (is_live s'.graph n)
    then Some notice.Gone
    else (if same_mode (s'.held t n) m then Some (notice.Granted n m) else Some notice.Moved)

-- what a transaction is told, by its status before: only waiters are told
abbrev pub told_from : State → ℕ → Option Status → Option Notice
told_from s' t (Some (Waiting n m)) = notice_of s' t n m (status_of s' t)
told_from s' t o = None

-- a notice with the name of the transaction
abbrev pub addressed : TxnId → Option Notice → Option (TxnId × Notice)
addressed t None = None
addressed t (Some x) = Some (t, x)

-- all notices, by rising slot
abbrev pub told : State → State → List (TxnId × Notice)
told s s' = filter_map (λ t. addressed (record { slot = t; age = age_of s t }) (told_from s' t (status_of s t))) (slots s)

-- all notices but the caller's, whose answer says it
abbrev pub told_but : ℕ → State → State → List (TxnId × Notice)
told_but requester s s' = filter (λ x. not (x.0.slot == requester)) (told s s')

-- a list of notices
abbrev pub Told : Type 0
Told = List (TxnId × Notice)

-- What is told step by step, compared with what the model tells at once.

-- what a slot is told between two states
abbrev pub told_to : State → State → ℕ → Option (TxnId × Notice)
told_to s now u = addressed (record { slot = u; age = age_of s u }) (told_from now u (status_of s u))

-- from a state to a later one by releases and removed waits: nobody began to wait, and each waiter is in one queue, once
pub record IsBetween (s now : State) : Type 0 where
  pub graph : now.graph ≡ s.graph
  pub ages : (u : ℕ) → age_of now u ≡ age_of s u
  pub waited : (u : ℕ) (q : NodeId) (m : Mode) → status_of now u ≡ Some (Waiting q m) → status_of s u ≡ Some (Waiting q m)
  pub waits_are : (u : ℕ) (q : NodeId) → is_among_waiters u (now.queue q) ≡ true → is_waiting_at now u q ≡ true
  pub one_wait : (u : ℕ) (q : NodeId) (m : Mode) → status_of now u ≡ Some (Waiting q m) → filter (is_waiter u) (now.queue q) ≡ (u, m) ∷ []
  pub live : (u : ℕ) (q : NodeId) (m : Mode) → status_of s u ≡ Some (Waiting q m) → is_live s.graph q ≡ true

-- What a table's calls do step by step, compared with what the model does at once.

-- how many children of n pass the test
abbrev pub children_that : Graph → (NodeId → Bool) → NodeId → ℕ
children_that g f n = count_by (λ c. is_child g n c && f c) (nodes g)

-- the state without the grants, the waits and the name of t
abbrev pub stripped : State → ℕ → State
stripped s t =
    record s {
      held = λ u n. if u == t then NL else s.held u n;
      queue = λ n. without_waiter t (s.queue n);
      txns = λ u. if u == t then None else s.txns u;
    }

-- A list of notices as it is filled, by rising slot.

-- each slot is below all after it
abbrev pub is_rising : Told → Bool
is_rising [] = true
is_rising (x ∷ xs) = list_all (λ y. nat_lt x.0.slot y.0.slot) xs && is_rising xs

-- the notices are by rising slot, and slots are below the limit
pub record IsBySlot (told : Told) : Type 0 where
  pub rising : is_rising told ≡ true
  pub below : list_all (λ x. nat_lt x.0.slot most_slots) told ≡ true

-- what is told to a slot
abbrev pub notices_in : Told → ℕ → Option (TxnId × Notice)
notices_in told u = find (λ x. x.0.slot == u) told

-- the mode of a slot among these, NL for none
abbrev pub mode_given : List Waiter → ℕ → Mode
mode_given ws u = after_grants (λ _. NL) ws u

-- these slots are told this, and all others what they were told before
pub record IsTold (txns : ℕ → Option Txn) (who : ℕ → Bool) (says : ℕ → Notice) (told told' : Told) : Type 0 where
  pub by_slot : IsBySlot told'
  pub notices : (u : ℕ) → notices_in told' u ≡ (if who u then Some (record { slot = u; age = age_in (txns u) }, says u) else notices_in told u)

-- what a granted waiter is told
abbrev pub grant_notice : (ℕ → Option Txn) → NodeId → List Waiter → ℕ → Option (TxnId × Notice)
grant_notice txns n ws u = Some (record { slot = u; age = age_in (txns u) }, notice.Granted n (mode_given ws u))

-- these waiters are told of their grants
abbrev pub WakesTold : (ℕ → Option Txn) → NodeId → List Waiter → Told → Told → Type 0
WakesTold txns n ws told told' = IsTold txns (λ u. is_among_waiters u ws) (λ u. notice.Granted n (mode_given ws u)) told told'
