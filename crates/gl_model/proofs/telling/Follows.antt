-- What a change by others leaves to one slot. For the crates above.
use Rattle.gl_model.proofs.Words.{◌++◌, [], ◌∙◌, ◌∷◌, ◌≡◌, ◌⊎◌, ⊎_elim, Active, ap, arith, Bool, Condemned, drop, false, filter-append, granted_at, inl, inr}
use Rattle.gl_model.proofs.Words.{is_among_waiters, is_at_least, is_waiter, is_waiting_at, IsLawful, length, List, live_by, members, Mode, nat_tests, NodeId}
use Rattle.gl_model.proofs.Words.{None, not_true, Option, pumped, refl, same_node, same_node-equal, Some, split, State, Status, status_in, status_of, subst}
use Rattle.gl_model.proofs.Words.{sym, true, true≢false, Txn, Waiter, Waiting, waits_at, woken, ℕ}
use Rattle.gl_model.proofs.queues.Waiters.{among_waits, both_empty, granted_mode, last_mode, none_filtered, not_among, one_among, some_wait, split_one}
use Rattle.gl_model.proofs.queues.Waiters.{waits_of}
use Rattle.gl_model.proofs.law.Keeps.{apart}
use Rattle.gl_model.proofs.queues.Fronts.{granted_parts}

-- t, which waited for it, was granted a mode on a node; nothing else that it holds changed
pub record GrantedTo (s s' : State) (t : ℕ) : Type 0 where
  pub node : NodeId
  pub mode : Mode
  pub was : status_of s t ≡ Some (Waiting node mode)
  pub is : status_of s' t ≡ Some Active
  pub at : s'.held t node ≡ mode
  pub elsewhere : (q : NodeId) → same_node node q ≡ false → s'.held t q ≡ s.held t q
  pub more : is_at_least mode (s.held t node) ≡ true

-- t is once in the queue of the node on which it waits, and in no other
pub record WaitsWell (s : State) (t : ℕ) : Type 0 where
  pub one : (n : NodeId) (m : Mode) → status_of s t ≡ Some (Waiting n m) → waits_of t (s.queue n) ≡ (t, m) ∷ []
  pub more : (n : NodeId) (m : Mode) → status_of s t ≡ Some (Waiting n m) → is_at_least m (s.held t n) ≡ true
  pub are : (n : NodeId) → is_among_waiters t (s.queue n) ≡ true → is_waiting_at s t n ≡ true

-- one slot holds the same on every node
abbrev pub SameGrants : State → State → ℕ → Type 0
SameGrants s s' t = (q : NodeId) → s'.held t q ≡ s.held t q

-- the slot waits
abbrev pub Waits : State → ℕ → Type 0
Waits s t = (n : NodeId) × (m : Mode) × (status_of s t ≡ Some (Waiting n m))

-- a change that leaves one slot all that it had, and raises it at most at one node, on which it waited; if it waits no more and is active, it was granted that
pub record Follows (s s' : State) (t : ℕ) : Type 0 where
  pub graph : s'.graph ≡ s.graph
  pub lives : (age : ℕ) → live_by age (s.txns t) ≡ true → live_by age (s'.txns t) ≡ true
  pub active : status_of s t ≡ Some Active → status_of s' t ≡ Some Active
  pub was_waiting : (n : NodeId) (m : Mode) → status_of s' t ≡ Some (Waiting n m) → status_of s t ≡ Some (Waiting n m)
  pub grants : SameGrants s s' t ⊎ GrantedTo s s' t
  pub was_there : status_of s' t ≡ Some Active → (status_of s t ≡ Some Active) ⊎ Waits s t
  pub ends : Waits s t → status_of s' t ≡ Some Active → GrantedTo s s' t
  pub well : WaitsWell s' t

-- the law says so of every slot
pub lawful_waits : (s : State) → IsLawful s → (t : ℕ) → WaitsWell s t
lawful_waits s law t = record { one = law.one_wait t; more = λ n m e. (law.waits_intend t n m e).2; are = law.waits_are t }

-- one change and then another
pub follows_trans : (s mid s' : State) (t : ℕ) → Follows s mid t → Follows mid s' t → Follows s s' t
follows_trans s mid s' t f g = record {
  graph = g.graph ∙ f.graph;
  lives = λ age h. g.lives age (f.lives age h);
  active = λ h. g.active (f.active h);
  was_waiting = λ n m h. f.was_waiting n m (g.was_waiting n m h);
  grants = both f.grants g.grants;
  was_there = λ h. ⊎_elim f.was_there (λ w. inr (w.0, w.1, f.was_waiting w.0 w.1 w.2)) (g.was_there h);
  ends = λ w h. ⊎_elim (λ active. then (f.ends w active) g.grants) (λ still. first f.grants (g.ends still h)) (g.was_there h);
  well = g.well;
}
  where
    -- a grant by the second change
    first : SameGrants s mid t ⊎ GrantedTo s mid t → GrantedTo mid s' t → GrantedTo s s' t
    first (inl a) b = record {
      node = b.node;
      mode = b.mode;
      was = f.was_waiting b.node b.mode b.was;
      is = b.is;
      at = b.at;
      elsewhere = λ q ne. b.elsewhere q ne ∙ a q;
      more = ap (is_at_least b.mode) (sym (a b.node)) ∙ b.more;
    }
    first (inr a) b = absurd (apart (sym a.is ∙ b.was))

    -- a grant by the first
    then : GrantedTo s mid t → SameGrants mid s' t ⊎ GrantedTo mid s' t → GrantedTo s s' t
    then a (inl b) = record {
      node = a.node;
      mode = a.mode;
      was = a.was;
      is = g.active a.is;
      at = b a.node ∙ a.at;
      elsewhere = λ q ne. b q ∙ a.elsewhere q ne;
      more = a.more;
    }
    then a (inr b) = absurd (apart (sym a.is ∙ b.was))

    both : SameGrants s mid t ⊎ GrantedTo s mid t → SameGrants mid s' t ⊎ GrantedTo mid s' t → SameGrants s s' t ⊎ GrantedTo s s' t
    both (inl a) (inl b) = inl (λ q. b q ∙ a q)
    both (inl a) (inr b) = inr (first (inl a) b)
    both (inr a) b = inr (then a b)

-- nothing of t is touched
pub follows_same : (s s' : State) (t : ℕ) → WaitsWell s t → s'.graph ≡ s.graph → s'.txns t ≡ s.txns t → SameGrants s s' t
    → ((n : NodeId) → waits_of t (s'.queue n) ≡ waits_of t (s.queue n)) → Follows s s' t
follows_same s s' t well graph txn grants waits = record {
  graph = graph;
  lives = λ age h. ap (live_by age) txn ∙ h;
  active = λ h. ap status_in txn ∙ h;
  was_waiting = λ n m h. sym (ap status_in txn) ∙ h;
  grants = inl grants;
  was_there = λ h. inl (sym (ap status_in txn) ∙ h);
  ends = λ w h. absurd (apart (sym h ∙ ap status_in txn ∙ w.2));
  well = record {
    one = λ n m h. waits n ∙ well.one n m (sym (ap status_in txn) ∙ h);
    more = λ n m h. ap (is_at_least m) (grants n) ∙ well.more n m (sym (ap status_in txn) ∙ h);
    are = λ n h. grind (arith, nat_tests, txn, well.are n (among_waits t (s.queue n) ∙ ap some_wait (sym (waits n)) ∙ sym (among_waits t (s'.queue n)) ∙ h));
  };
}

-- no change
pub follows_refl : (s : State) (t : ℕ) → WaitsWell s t → Follows s s t
follows_refl s t well = follows_same s s t well refl refl (λ q. refl) (λ n. refl)

-- t waits nowhere
pub absent_well : (s : State) (t : ℕ) → ((n : NodeId) → waits_of t (s.queue n) ≡ []) → ((n : NodeId) (m : Mode) → status_of s t ≡ Some (Waiting n m) → ⊥)
    → WaitsWell s t
absent_well s t absent idle = record {
  one = λ n m h. absurd (idle n m h);
  more = λ n m h. absurd (idle n m h);
  are = λ n h. absurd (true≢false (sym h ∙ none_filtered t (s.queue n) (absent n)));
}

woken_lives : (g : NodeId → List Waiter) (t age : ℕ) (x : Option Txn) → live_by age (woken g t x) ≡ live_by age x
woken_lives g t age x = grind (arith, nat_tests, x)

-- one that was granted nowhere is as it was
pub unwoken : (g : NodeId → List Waiter) (u : ℕ) → ((q : NodeId) → is_among_waiters u (g q) ≡ false) → (x : Option Txn) → woken g u x ≡ x
unwoken g u out x = grind (arith, nat_tests, x)

-- one that was granted what it waited for is active
pub roused : (g : NodeId → List Waiter) (u : ℕ) (q : NodeId) (m : Mode) (x : Option Txn) → status_in x ≡ Some (Waiting q m) → is_among_waiters u (g q) ≡ true
    → status_in (woken g u x) ≡ Some Active
roused g u q m x h k = grind (arith, nat_tests, x)

module _ (s : State) (chosen : NodeId → Bool) (t : ℕ) (well : WaitsWell s t) where
  abbrev granted : NodeId → List Waiter
  granted n = granted_at s chosen n

  abbrev rest : NodeId → List Waiter
  rest n = drop (length (granted_at s chosen n)) (s.queue n)

  waits_parts : (n : NodeId) → waits_of t (granted n) ++ waits_of t (rest n) ≡ waits_of t (s.queue n)
  waits_parts n = sym (filter-append (is_waiter t) (granted n) (rest n)) ∙ ap (waits_of t) (granted_parts s chosen n)

  held_same : (n : NodeId) → waits_of t (granted n) ≡ [] → (pumped s chosen).held t n ≡ s.held t n
  held_same n e = granted_mode (members s n) t (granted n) ∙ ap (last_mode (s.held t n)) e

  -- if no wait of t is granted, nothing of t is changed
  same_follows : ((n : NodeId) → waits_of t (granted n) ≡ []) → Follows s (pumped s chosen) t
  same_follows out = follows_same s (pumped s chosen) t well refl (unwoken granted t (λ n. none_filtered t (granted n) (out n)) (s.txns t))
      (λ n. held_same n (out n)) (λ n. ap (λ ws. ws ++ waits_of t (rest n)) (sym (out n)) ∙ waits_parts n)

  -- if t does not wait, none is
  nowhere : (o : Option Status) → status_of s t ≡ o → (n : NodeId) → waits_at o n ≡ false → (waits_of t (granted n) ≡ []) × (waits_of t (rest n) ≡ [])
  nowhere o e n no_wait = both_empty _ _ (waits_parts n
      ∙ not_among t (s.queue n) (not_true _ (λ h. true≢false (sym (well.are n h) ∙ ap (λ x. waits_at x n) e ∙ no_wait))))

  waiting_follows : (n : NodeId) (m : Mode) → status_of s t ≡ Some (Waiting n m) → Follows s (pumped s chosen) t
  waiting_follows n m e =
      ⊎_elim (λ stays. same_follows (λ q. split (same_node n q) (λ h. subst (λ x. waits_of t (granted x) ≡ []) (same_node-equal n q h) stays.0)
      (λ h. (nowhere _ e q h).0)))
      (λ goes. let status = roused granted t n m (s.txns t) e (one_among t (granted n) (t, m) goes.0) in
      let got : GrantedTo s (pumped s chosen) t = record {
        node = n;
        mode = m;
        was = e;
        is = status;
        at = granted_mode (members s n) t (granted n) ∙ ap (last_mode (s.held t n)) goes.0;
        elsewhere = λ q ne. held_same q (nowhere _ e q ne).0;
        more = well.more n m e;
      } in
      record {
        graph = refl;
        lives = λ age h. woken_lives granted t age (s.txns t) ∙ h;
        active = λ h. absurd (apart (sym h ∙ e));
        was_waiting = λ q w h. absurd (apart (sym status ∙ h));
        grants = inr got;
        was_there = λ h. inr (n, m, e);
        ends = λ w h. got;
        well = absent_well (pumped s chosen) t (λ q. split (same_node n q) (λ h. subst (λ x. waits_of t (rest x) ≡ []) (same_node-equal n q h) goes.1)
            (λ h. (nowhere _ e q h).1)) (λ q w h. apart (sym status ∙ h));
      }) (split_one _ _ (t, m) (waits_parts n ∙ well.one n m e))

  -- granting from fronts gives a slot what it waits for, and nothing else
  pub pumped_follows : Follows s (pumped s chosen) t
  pumped_follows = by (status_of s t) refl
    where
      by : (o : Option Status) → status_of s t ≡ o → Follows s (pumped s chosen) t
      by None e = same_follows (λ n. (nowhere None e n refl).0)
      by (Some Active) e = same_follows (λ n. (nowhere (Some Active) e n refl).0)
      by (Some Condemned) e = same_follows (λ n. (nowhere (Some Condemned) e n refl).0)
      by (Some (Waiting n m)) e = waiting_follows n m e
