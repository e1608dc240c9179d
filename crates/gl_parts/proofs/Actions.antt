-- Each action leaves managers that work as one.
use Rattle.std.specs.Prelude.{◌≡◌, ℕ, Bool, true, false, not, ◌&&◌, ◌||◌, ◌==◌, List, [], ◌∷◌, ◌++◌, Option, Some, None, if◌then◌else◌, is_some, map}
use Rattle.std.specs.List.{list_all, list_any}
use Rattle.std.proofs.Common.{refl, sym, ap, ap₂, subst, ◌∙◌}
use Rattle.gl_modes.specs.declared.mode.Mode.{Mode}
use Rattle.gl_modes.specs.declared.mode.Mode.TheVariants.{NL, IX, X}
use Rattle.gl_modes.specs.declared.node.NodeId.{NodeId}
use Rattle.gl_modes.specs.Modes.{is_at_least}
use Rattle.gl_modes.proofs.Each.{every-true}
use Rattle.gl_modes.proofs.ModeLemmas.{supremum-least}
use Rattle.gl_modes.proofs.NodeLemmas.{same_node-refl}
use Rattle.gl_modes.proofs.Words.{and_both, both, cases_of, clash, no, not_true, number_same, same_number, split}
use Rattle.gl_graph.specs.Graph.{Graph, is_live, parents_of}
use Rattle.gl_graph.proofs.Unrefused.{not_false}
use Rattle.gl_header.specs.Header.{Waiter, holds, is_empty, is_waiter}
use Rattle.gl_header.proofs.Fits.{fits-from_all}
use Rattle.gl_model.specs.declared.txn.TxnId.{TxnId}
use Rattle.gl_model.specs.Calls.{enters_at, wanted}
use Rattle.gl_model.specs.Lawful.{IsLawful}
use Rattle.gl_model.specs.State.{State, members}
use Rattle.gl_steps.specs.declared.command.Command.{Command}
use Rattle.gl_steps.specs.declared.command.Command.TheVariants as command
use Rattle.gl_steps.proofs.StepsKeepLaw.{steps_keep_law}
use Rattle.gl_parts.specs.Whole.{Each, IsInOne, Part, held_at, held_by_name, is_in, is_intention}
use Rattle.gl_parts.specs.Leading.{AgreesWith, Follower, IsMarked, Leads, Managers, Obeys, ObeysOn, WorkAsOne, covers, has_more, managers, parts}
use Rattle.gl_parts.specs.Leading.{queue_by_name}
use Rattle.gl_parts.specs.Actions.{Acts, Clears, KeepsName, MainSteps, MayRequest, MayRequestOn, PartSteps, Replaces, Takes, Visits, requests, requests_at}
use Rattle.gl_parts.specs.Actions.{with_mark}
use Rattle.gl_parts.specs.Actions as acts
use Rattle.gl_parts.specs.Promises.{ActionsKeepLaw, IntentionsEnter, PlainStepsAgree, RequestsCanCopy, RequestsObey}
use Rattle.gl_parts.proofs.Bounds.{IsWithin, step_within}
use Rattle.gl_parts.proofs.Grants.{intentions_fit, neither, not_there}
use Rattle.gl_parts.proofs.Leading.{cleared, each_follower, each_part, leads_with, more_by, out_covered, visited}
use Rattle.gl_parts.proofs.Lists.{each_both, each_map, each_with}

-- Requests in a part.

-- an intention beside intentions is granted at once
pub intention_enters : (s : State) (t : ℕ) (n : NodeId) (m : Mode) → ((u : ℕ) → is_intention (s.held u n) ≡ true) → s.queue n ≡ [] → is_intention m ≡ true
    → enters_at s t n m ≡ true
intention_enters s t n m held idle wants =
    both _ _
    (fits-from_all s.most (members s n) t (wanted s t n m)
    (λ u ne. intentions_fit (wanted s t n m) (s.held u n) (supremum-least IX (s.held t n) m ∙ both _ _ (held t) wants) (held u)))
    (ap (λ q. holds (members s n) t || is_empty q) idle ∙ last (holds (members s n) t))
  where
    last : (b : Bool) → (b || true) ≡ true
    last true = refl
    last false = refl

pub intentions_enter : IntentionsEnter
intentions_enter main f n k t m obeys here at wants =
    intention_enters f.part.state t k m
    (λ u. sym (ap (λ o. is_intention (held_by_name (f.part.state.held u) o)) at) ∙ (obeys n here).intentions u)
    (sym (ap (queue_by_name f.part.state.queue) at) ∙ (obeys n here).queueless) wants

-- what a lock requests
asked_is : (s : State) (t : TxnId) (n : NodeId) (m : Mode) → requests s (command.Lock t n m) t.slot n ≡ m
asked_is s t n m = ap₂ (λ a b. if a && b then m else NL) (number_same t.slot t.slot refl) (same_node-refl n)

none_wait : (q : List Waiter) → list_all (λ w. false) q ≡ true → q ≡ []
none_wait [] h = refl
none_wait (w ∷ q) h = absurd (no h)

-- a node on which intentions alone are held and nobody waits is so after a command that requests intentions, and within any other bound
module _ (s s' : State) (c : Command) (k : NodeId) (idle : s.queue k ≡ []) (held : (u : ℕ) → is_intention (s.held u k) ≡ true)
    (asked : (u : ℕ) → is_intention (requests s c u k) ≡ true) where
  never_waits : (t : TxnId) (m : Mode) → c ≡ command.Lock t k m → enters_at s t.slot k m ≡ false → false ≡ true
  never_waits t m is queued =
      clash
      (intention_enters s t.slot k m held idle
      (sym (ap is_intention (ap (λ x. requests s x t.slot k) is ∙ asked_is s t k m)) ∙ asked t.slot)) queued

pub requests_obey : RequestsObey
requests_obey g main f c next lawful agrees obeys may takes names n here =
    cases_of (f.part.name n) (λ e. nowhere (names n here ∙ e)) (λ k e. somewhere k e (names n here ∙ e))
  where
    nowhere : next.name n ≡ None → ObeysOn main (record f { part = next }) n
    nowhere e = record {
      intentions = λ t. ap (λ o. is_intention (held_by_name (next.state.held t) o)) e;
      queueless = ap (queue_by_name next.state.queue) e;
      led = λ m t. ap (λ o. is_at_least (held_at main t n) (held_by_name (next.state.held t) o)) e;
    }

    somewhere : (k : NodeId) → f.part.name n ≡ Some k → next.name n ≡ Some k → ObeysOn main (record f { part = next }) n
    somewhere k e e' = record {
      intentions = λ t. ap (λ o. is_intention (held_by_name (next.state.held t) o)) e' ∙ plain.0 t;
      queueless = ap (queue_by_name next.state.queue) e' ∙ none_wait (next.state.queue k) plain.1;
      led = λ m t. ap (λ o. is_at_least (held_at main t n) (held_by_name (next.state.held t) o)) e' ∙ (below m).0 t;
    }
      where
        old : ObeysOn main f n
        old = obeys n here

        asks : MayRequestOn main f c n
        asks = may n here

        s : State
        s = f.part.state

        idle : s.queue k ≡ []
        idle = sym (ap (queue_by_name s.queue) e) ∙ old.queueless

        held : (u : ℕ) → is_intention (s.held u k) ≡ true
        held u = sym (ap (λ o. is_intention (held_by_name (s.held u) o)) e) ∙ old.intentions u

        asked : (u : ℕ) → is_intention (requests s c u k) ≡ true
        asked u = sym (ap (λ o. is_intention (held_by_name (requests s c u) o)) e) ∙ asks.intentions u

        queue_ok : list_all (λ w. false) (s.queue k) ≡ true
        queue_ok = ap (list_all (λ w. false)) idle

        after : (b : ℕ → Mode) → ((u : ℕ) → is_at_least (b u) (s.held u k) ≡ true) → ((u : ℕ) → is_at_least (b u) (requests s c u k) ≡ true)
            → ((u : ℕ) → is_at_least (b u) (next.state.held u k) ≡ true) × (list_all (λ w. false) (next.state.queue k) ≡ true)
        after b low fit =
            step_within b (λ w. false) (λ w h. absurd (no h)) s next.state c takes.answer takes.told k lawful (agrees.living n k e) fit
            (never_waits s next.state c k idle held asked) takes.step (low, queue_ok)

        plain : ((u : ℕ) → is_intention (next.state.held u k) ≡ true) × (list_all (λ w. false) (next.state.queue k) ≡ true)
        plain = after (λ _. IX) held asked

        below : f.marked n ≡ true → ((u : ℕ) → is_at_least (held_at main u n) (next.state.held u k) ≡ true)
            × (list_all (λ w. false) (next.state.queue k) ≡ true)
        below m =
            after (λ u. held_at main u n) (λ u. sym (ap (λ o. is_at_least (held_at main u n) (held_by_name (s.held u) o)) e) ∙ old.led m u)
            (λ u. sym (ap (λ o. is_at_least (held_at main u n) (held_by_name (requests s c u) o)) e) ∙ asks.first m u)

pub plain_steps_agree : PlainStepsAgree
plain_steps_agree g p p' agrees same names = record {
  parents = λ n m e. ap (λ x. map (λ q. Some q) (parents_of x m)) same ∙ agrees.parents n m (sym (names n) ∙ e) ∙ each_name (parents_of g n);
  living = λ n m e. ap (λ x. is_live x m) same ∙ agrees.living n m (sym (names n) ∙ e);
}
  where
    each_name : (ns : List NodeId) → map p.name ns ≡ map p'.name ns
    each_name [] = refl
    each_name (n ∷ ns) = ap₂ (λ a b. a ∷ b) (sym (names n)) (each_name ns)

-- A part in place of another.

any_with : (n : NodeId) (before after : List Follower) (f f' : Follower) → is_in n f'.part ≡ false → list_any (is_in n) (parts (before ++ f ∷ after)) ≡ false
    → list_any (is_in n) (parts (before ++ f' ∷ after)) ≡ false
any_with n [] after f f' out h = ap (λ b. b || list_any (is_in n) (parts after)) out ∙ (neither _ _ h).1
any_with n (b ∷ before) after f f' out h =
    let it = neither _ _ h in
    ap₂ (λ x y. x || y) it.0 (any_with n before after f f' out it.1)

any_at : (n : NodeId) (before after : List Follower) (f : Follower) → list_any (is_in n) (parts (before ++ f ∷ after)) ≡ false → is_in n f.part ≡ false
any_at n [] after f h = (neither _ _ h).0
any_at n (b ∷ before) after f h = any_at n before after f (neither _ _ h).1

in_one_with : (n : NodeId) (before after : List Follower) (f f' : Follower)
    → (is_in n f.part ≡ false → is_in n f'.part ≡ true → list_any (is_in n) (parts (before ++ after)) ≡ false)
    → IsInOne n (parts (before ++ f ∷ after))
    → IsInOne n (parts (before ++ f' ∷ after))
in_one_with n [] after f f' new h = (λ here. split (is_in n f.part) h.0 (λ out. new out here), h.1)
in_one_with n (b ∷ before) after f f' new h = (
  λ here. let rest = h.0 here in any_with n before after f f'
      (not_true _ (λ there. clash here (neither _ _ (new (any_at n before after f rest) there)).0)) rest,
  in_one_with n before after f f' (λ out there. (neither _ _ (new out there)).1) h.1,
)

pub replaced : (P : Part → Type 0) (w w' : Managers) (f f' : Follower) → w'.main ≡ w.main → Replaces w.followers w'.followers f f' → (P f.part → P f'.part)
    → Each P (managers w)
    → Each P (managers w')
replaced P w w' f f' main r up h = (
  subst P (sym main) h.0,
  each_part P w'.followers (subst (Each (λ x. P x.part)) (sym r.is) (each_with (λ x. P x.part) r.before r.after f f' up
      (subst (Each (λ x. P x.part)) r.was (each_follower P w.followers h.1)))),
)

leads_replaced : (w w' : Managers) (f f' : Follower) → w'.main ≡ w.main → (r : Replaces w.followers w'.followers f f')
    → (Leads w.main (r.before ++ f ∷ r.after) → Leads w.main (r.before ++ f' ∷ r.after))
    → Leads w.main w.followers
    → Leads w'.main w'.followers
leads_replaced w w' f f' main r up h = subst (λ m. Leads m w'.followers) (sym main) (subst (Leads w.main) (sym r.is) (up (subst (Leads w.main) r.was h)))

pub taken_lawful : (p : Part) (c : Command) (p' : Part) → Takes p c p' → IsLawful p.state → IsLawful p'.state
taken_lawful p c p' takes law = steps_keep_law p.state p'.state c takes.answer takes.told law takes.step

part_steps : (w w' : Managers) → WorkAsOne w → PartSteps w w' → WorkAsOne w'
part_steps w w' work x =
    let now' : Follower = record x.now { part = x.next } in
    record {
      leads = leads_replaced w w' x.now now' x.main x.followers
          (leads_with w.main x.followers.before x.followers.after x.now now'
          (λ n out. in_one_with n x.followers.before x.followers.after x.now now' (λ new here. x.apart n new here out)) (λ _. x.obeys)
          (λ marked n t more here. split (is_in n x.now.part) (marked n t more) (λ new. x.shared n new here t more))) work.leads;
      lawful = replaced (λ p. IsLawful p.state) w w' x.now now' x.main x.followers (taken_lawful x.now.part x.by x.next x.step) work.lawful;
      agree = x.agree;
    }

-- A step of the main manager.

pub x_top : (m : Mode) → is_at_least X m ≡ true
x_top m = every-true (λ x. is_at_least X x) refl m

-- who has at most a mode on a node, and waits for no more there, has no more of it after a step by a command that requests no more
module _ (t : ℕ) (top : Mode) where
  -- t may have this mode, others any
  abbrev bound : ℕ → Mode
  bound u = if u == t then top else X

  abbrev fine : Waiter → Bool
  fine w = is_at_least (bound w.0) w.1

  bounded : (u : ℕ) (m : Mode) → ((u == t) ≡ true → is_at_least top m ≡ true) → is_at_least (bound u) m ≡ true
  bounded u m h = split (u == t) (λ e. ap (λ b. is_at_least (if b then top else X) m) e ∙ h e) (λ e. ap (λ b. is_at_least (if b then top else X) m) e ∙ x_top m)

  own : (m : Mode) → is_at_least (bound t) m ≡ true → is_at_least top m ≡ true
  own m h = sym (ap (λ b. is_at_least (if b then top else X) m) (number_same t t refl)) ∙ h

  all_fine : (q : List Waiter) → list_any (λ w. is_waiter t w && not (is_at_least top w.1)) q ≡ false → list_all fine q ≡ true
  all_fine [] h = refl
  all_fine (w ∷ q) h =
      let it = neither _ _ h in
      both _ _ (bounded w.0 w.1 (λ e. not_false _ (sym (ap (λ b. b && not (is_at_least top w.1)) e) ∙ it.0))) (all_fine q it.1)

  none_wants : (q : List Waiter) → list_all fine q ≡ true → list_any (λ w. is_waiter t w && not (is_at_least top w.1)) q ≡ false
  none_wants [] h = refl
  none_wants (w ∷ q) h =
      let it = and_both _ _ h in
      ap₂ (λ a b. a || b) (split (w.0 == t)
      (λ e. ap₂ (λ a b. a && not b) e (own w.1 (subst (λ v. is_at_least (bound v) w.1 ≡ true) (same_number w.0 t e) it.0)))
      (λ e. ap (λ a. a && not (is_at_least top w.1)) e)) (none_wants q it.1)

  pub slot_within : (p p' : Part) (c : Command) (k : NodeId) → IsLawful p.state → is_live p.state.graph k ≡ true → Takes p c p'
      → is_at_least top (p.state.held t k) ≡ true → is_at_least top (requests p.state c t k) ≡ true → list_all fine (p.state.queue k) ≡ true
      → (is_at_least top (p'.state.held t k) ≡ true) × (list_all fine (p'.state.queue k) ≡ true)
  slot_within p p' c k law live takes held asked waits = (own (p'.state.held t k) (after.0 t), after.1)
    where
      to_all : (f : ℕ → Mode) → is_at_least top (f t) ≡ true → (u : ℕ) → is_at_least (bound u) (f u) ≡ true
      to_all f h u = bounded u (f u) (λ e. ap (λ v. is_at_least top (f v)) (same_number u t e) ∙ h)

      may_wait : (u : TxnId) (m : Mode) → c ≡ command.Lock u k m → enters_at p.state u.slot k m ≡ false → fine (u.slot, wanted p.state u.slot k m) ≡ true
      may_wait u m is queued =
          supremum-least (bound u.slot) (p.state.held u.slot k) m
          ∙ both _ _ (to_all (λ v. p.state.held v k) held u.slot)
          (sym (ap (is_at_least (bound u.slot)) (ap (λ x. requests p.state x u.slot k) is ∙ asked_is p.state u k m))
          ∙ to_all (λ v. requests p.state c v k) asked u.slot)

      after : IsWithin bound fine (λ w h. h) p'.state k
      after =
          step_within bound fine (λ w h. h) p.state p'.state c takes.answer takes.told k law live (to_all (λ v. requests p.state c v k) asked) may_wait
          takes.step (to_all (λ v. p.state.held v k) held, waits)

no_more : (g : Graph) (p p' : Part) (c : Command) (n : NodeId) (t : ℕ) → IsLawful p.state → AgreesWith g p → Takes p c p' → KeepsName n p p'
    → is_intention (requests_at p c t n) ≡ true
    → has_more p t n ≡ false
    → has_more p' t n ≡ false
no_more g p p' c n t law agrees takes same asks little =
    cases_of (p.name n) (λ e. ap (more_by p' t) (same ∙ e)) (λ k e. ap (more_by p' t) (same ∙ e) ∙ by k e)
  where
    by : (k : NodeId) → p.name n ≡ Some k → more_by p' t (Some k) ≡ false
    by k e =
        let was : (not (is_intention (p.state.held t k)) ≡ false)
        × (list_any (λ w. is_waiter t w && not (is_intention w.1)) (p.state.queue k) ≡ false) = neither _ _ (sym (ap (more_by p t) e) ∙ little) in
        let now = slot_within t IX p p' c k law (agrees.living n k e) takes (not_false _ was.0)
        (sym (ap (λ o. is_intention (held_by_name (requests p.state c t) o)) e) ∙ asks) (all_fine t IX (p.state.queue k) was.1) in
        ap₂ (λ a b. a || b) (ap not now.0) (none_wants t IX (p'.state.queue k) now.1)

-- who requests no more in a part than it has in the main manager has no more there afterwards, if it had no more before
pub requests_can_copy : RequestsCanCopy
requests_can_copy g main f c next law agrees obeys ready takes names can n t here ahead =
    split (covers main f.part t n)
    (λ over. split (is_at_least (held_at main t n) (requests_at f.part c t n)) (λ asks. clash (still over asks) ahead) (ready n t here)) (can n t here)
  where
    still : covers main f.part t n ≡ true → is_at_least (held_at main t n) (requests_at f.part c t n) ≡ true
        → is_at_least (held_at main t n) (held_at next t n) ≡ true
    still over asks =
        cases_of (f.part.name n) (λ e. ap (λ o. is_at_least (held_at main t n) (held_by_name (next.state.held t) o)) (names n here ∙ e))
        (λ k e. ap (λ o. is_at_least (held_at main t n) (held_by_name (next.state.held t) o)) (names n here ∙ e)
        ∙ (slot_within t (held_at main t n) f.part next c k law (agrees.living n k e) takes
        (sym (ap (λ o. is_at_least (held_at main t n) (held_by_name (f.part.state.held t) o)) e) ∙ over)
        (sym (ap (λ o. is_at_least (held_at main t n) (held_by_name (requests f.part.state c t) o)) e) ∙ asks)
        (ap (list_all (fine t (held_at main t n))) (sym (ap (queue_by_name f.part.state.queue) e) ∙ (obeys n here).queueless))).0)

module _ (g : Graph) (main main' : Part) (c : Command) (law : IsLawful main.state) (agrees : AgreesWith g main)
    (takes : Takes main c main') where
  main_obeys : (f : Follower) → ((n : NodeId) → is_in n main ≡ true → f.marked n ≡ true → (t : ℕ) → covers main' f.part t n ≡ true)
      → ((n : NodeId) → is_in n f.part ≡ true → KeepsName n main main') → Obeys main f
      → Obeys main' f
  main_obeys f kept names obeys n here =
      split (is_in n f.part)
      (λ there. let before = ap is_some (sym (names n there)) ∙ here in
      let old = obeys n before in
      record { intentions = old.intentions; queueless = old.queueless; led = kept n before })
      (λ out. record {
        intentions = λ t. ap is_intention (not_there f.part t n out);
        queueless = no_queue (f.part.name n) out;
        led = λ m t. out_covered main' f.part t n out;
      })
    where
      no_queue : (o : Option NodeId) → is_some o ≡ false → queue_by_name f.part.state.queue o ≡ []
      no_queue None h = refl
      no_queue (Some k) h = absurd (no (sym h))

  main_marked : (f : Follower)
      → ((n : NodeId) → is_in n f.part ≡ true → (t : ℕ) → is_intention (requests_at main c t n) ≡ false → f.marked n ≡ true)
      → ((n : NodeId) → is_in n f.part ≡ true → KeepsName n main main') → IsMarked main f
      → IsMarked main' f
  main_marked f visit names marked n t more here =
      split (f.marked n) (λ m. m)
      (λ un. clash more (no_more g main main' c n t law agrees takes (names n here)
      (split (is_intention (requests_at main c t n)) (λ i. i) (λ i. clash (visit n here t i) un))
      (not_true _ (λ old. clash (marked n t old here) un))))

  -- a node whose name changes is in no part
  renamed : (n : NodeId) (fs : List Follower) → Each (λ f. (q : NodeId) → is_in q f.part ≡ true → KeepsName q main main') fs → is_in n main ≡ true
      → is_in n main' ≡ false
      → list_any (is_in n) (parts fs) ≡ false
  renamed n [] names here out = refl
  renamed n (f ∷ fs) names here out =
      ap₂ (λ a b. a || b) (not_true _ (λ there. clash (ap is_some (names.0 n there) ∙ here) out)) (renamed n fs names.1 here out)

in_none : (n : NodeId) (ps : List Part) → list_any (is_in n) ps ≡ false → IsInOne n ps
in_none n [] h = tt
in_none n (p ∷ ps) h = let it = neither _ _ h in (λ here. clash here it.0, in_none n ps it.1)

main_steps : (w w' : Managers) → WorkAsOne w → MainSteps w w' → WorkAsOne w'
main_steps w w' work x = record {
  leads = subst (Leads w'.main) (sym x.followers) (record {
    apart = λ n out. split (is_in n w.main)
        (λ here. in_none n (parts w.followers) (renamed w.graph w.main w'.main x.by work.lawful.0 work.agree.0 x.step n w.followers x.names here out))
        (work.leads.apart n);
    obey = each_map (λ f h. main_obeys w.graph w.main w'.main x.by work.lawful.0 work.agree.0 x.step f h.0 h.1.0 h.1.1) w.followers
        (each_both _ _ w.followers x.kept (each_both _ _ w.followers x.names work.leads.obey));
    marked = each_map (λ f h. main_marked w.graph w.main w'.main x.by work.lawful.0 work.agree.0 x.step f h.0 h.1.0 h.1.1) w.followers
        (each_both _ _ w.followers x.visited (each_both _ _ w.followers x.names work.leads.marked));
  });
  lawful = (taken_lawful w.main x.by w'.main x.step work.lawful.0, subst (λ fs. Each (λ p. IsLawful p.state) (parts fs)) (sym x.followers) work.lawful.1);
  agree = x.agree;
}

-- Visits and clears.

marks_agree : (w w' : Managers) (f : Follower) (n : NodeId) (b : Bool) → w'.graph ≡ w.graph → w'.main ≡ w.main
    → Replaces w.followers w'.followers f (with_mark f n b) → Each (AgreesWith w.graph) (managers w)
    → Each (AgreesWith w'.graph) (managers w')
marks_agree w w' f n b graph main r h =
    subst (λ g. Each (AgreesWith g) (managers w')) (sym graph) (replaced (AgreesWith w.graph) w w' f (with_mark f n b) main r (λ x. x) h)

visits : (w w' : Managers) → WorkAsOne w → Visits w w' → WorkAsOne w'
visits w w' work x =
    let now' : Follower = with_mark x.now x.node true in
    record {
      leads = leads_replaced w w' x.now now' x.main x.followers (visited w.main x.followers.before x.followers.after x.now x.node x.copied) work.leads;
      lawful = replaced (λ p. IsLawful p.state) w w' x.now now' x.main x.followers (λ h. h) work.lawful;
      agree = marks_agree w w' x.now x.node true x.graph x.main x.followers work.agree;
    }

clears : (w w' : Managers) → WorkAsOne w → Clears w w' → WorkAsOne w'
clears w w' work x =
    let now' : Follower = with_mark x.now x.node false in
    record {
      leads = leads_replaced w w' x.now now' x.main x.followers (cleared w.main x.followers.before x.followers.after x.now x.node x.idle) work.leads;
      lawful = replaced (λ p. IsLawful p.state) w w' x.now now' x.main x.followers (λ h. h) work.lawful;
      agree = marks_agree w w' x.now x.node false x.graph x.main x.followers work.agree;
    }

pub actions_keep_law : ActionsKeepLaw
actions_keep_law w w' work (acts.PartTakes x) = part_steps w w' work x
actions_keep_law w w' work (acts.MainTakes x) = main_steps w w' work x
actions_keep_law w w' work (acts.Marks x) = visits w w' work x
actions_keep_law w w' work (acts.Unmarks x) = clears w w' work x
