-- A main manager that leads parts leads the whole; and marks are set and removed.
use Rattle.std.specs.Prelude.{◌≡◌, ℕ, Bool, true, false, not, ◌&&◌, ◌||◌, List, [], ◌∷◌, ◌++◌, Option, if◌then◌else◌, is_some}
use Rattle.std.specs.List.{list_any}
use Rattle.std.proofs.Common.{refl, sym, ap, subst, ◌∙◌}
use Rattle.gl_modes.specs.declared.node.NodeId.{NodeId}
use Rattle.gl_modes.specs.Modes.{is_at_least}
use Rattle.gl_modes.specs.Nodes.{same_node}
use Rattle.gl_modes.proofs.NodeLemmas.{same_node-equal}
use Rattle.gl_modes.proofs.Words.{cases_of, clash, no, or_left, split}
use Rattle.gl_header.specs.Header.{is_waiter}
use Rattle.gl_parts.specs.Whole.{Each, IsInOne, Part, held_at, held_by_name, is_in, is_intention}
use Rattle.gl_parts.specs.Leading.{Follower, IsMarked, Leads, Obeys, covers, has_more, parts, queue_by_name}
use Rattle.gl_parts.specs.Actions.{with_mark}
use Rattle.gl_parts.specs.Promises.{LeadersLead}
use Rattle.gl_parts.proofs.Grants.{not_there}
use Rattle.gl_parts.proofs.Lists.{each_both, each_map, each_with}

pub each_part : (P : Part → Type 0) (fs : List Follower) → Each (λ f. P f.part) fs → Each P (parts fs)
each_part P [] h = tt
each_part P (f ∷ fs) h = (h.0, each_part P fs h.1)

pub each_follower : (P : Part → Type 0) (fs : List Follower) → Each P (parts fs) → Each (λ f. P f.part) fs
each_follower P [] h = tt
each_follower P (f ∷ fs) h = (h.0, each_follower P fs h.1)

-- by the name of the node
abbrev pub more_by : Part → ℕ → Option NodeId → Bool
more_by p t o =
    not (is_intention (held_by_name (p.state.held t) o)) || list_any (λ w. is_waiter t w && not (is_intention w.1)) (queue_by_name p.state.queue o)

-- of a node that is not in a manager, nobody has anything there
pub more_is_in : (p : Part) (t : ℕ) (n : NodeId) → has_more p t n ≡ true → is_in n p ≡ true
more_is_in p t n h = cases_of (p.name n) (λ e. absurd (no (sym (ap (more_by p t) e) ∙ h))) (λ m e. ap is_some e)

pub out_covered : (p q : Part) (t : ℕ) (n : NodeId) → is_in n q ≡ false → covers p q t n ≡ true
out_covered p q t n out = ap (is_at_least (held_at p t n)) (not_there q t n out)

pub leaders_lead : LeadersLead
leaders_lead main fs leads = record {
  apart = leads.apart;
  intentions = λ n here. each_part _ fs (each_map (λ f obeys t. (obeys n here).intentions t) fs leads.obey);
  copied = λ n u more. each_part _ fs (each_map (λ f both. below f n u more both.0 both.1) fs
      (each_both (Obeys main) (IsMarked main) fs leads.obey leads.marked));
}
  where
    below : (f : Follower) (n : NodeId) (u : ℕ) → is_intention (held_at main u n) ≡ false → Obeys main f → IsMarked main f → (t : ℕ)
        → is_at_least (held_at main t n) (held_at f.part t n) ≡ true
    below f n u more obeys marked t =
        let has : has_more main u n ≡ true = or_left _ _ (ap not more) in
        split (is_in n f.part) (λ here. (obeys n (more_is_in main u n has)).led (marked n u has here) t) (out_covered main f.part t n)

-- another follower in the place of one
pub leads_with : (main : Part) (before after : List Follower) (f f' : Follower)
    → ((n : NodeId) → is_in n main ≡ false → IsInOne n (parts (before ++ f ∷ after)) → IsInOne n (parts (before ++ f' ∷ after)))
    → (Obeys main f → Obeys main f') → (IsMarked main f → IsMarked main f') → Leads main (before ++ f ∷ after) → Leads main (before ++ f' ∷ after)
leads_with main before after f f' apart obey marked leads = record {
  apart = λ n out. apart n out (leads.apart n out);
  obey = each_with (Obeys main) before after f f' obey leads.obey;
  marked = each_with (IsMarked main) before after f f' marked leads.marked;
}

-- the parts without marks
pub same_parts : (before after : List Follower) (f : Follower) (n : NodeId) (b : Bool)
    → parts (before ++ with_mark f n b ∷ after) ≡ parts (before ++ f ∷ after)
same_parts [] after f n b = refl
same_parts (g ∷ before) after f n b = ap (λ ps. g.part ∷ ps) (same_parts before after f n b)

pub visited : (main : Part) (before after : List Follower) (f : Follower) (n : NodeId) → ((t : ℕ) → covers main f.part t n ≡ true)
    → Leads main (before ++ f ∷ after)
    → Leads main (before ++ with_mark f n true ∷ after)
visited main before after f n copied =
    leads_with main before after f (with_mark f n true) (λ q out one. subst (IsInOne q) (sym (same_parts before after f n true)) one)
    (λ obeys q here. record {
      intentions = (obeys q here).intentions;
      queueless = (obeys q here).queueless;
      led = λ m t. split (same_node q n) (λ e. subst (λ x. covers main f.part t x ≡ true) (sym (same_node-equal q n e)) (copied t))
          (λ e. (obeys q here).led (sym (ap (λ b. if b then true else f.marked q) e) ∙ m) t);
    })
    (λ marked q t more here. still (same_node q n) (f.marked q) (marked q t more here))
  where
    still : (a b : Bool) → b ≡ true → (if a then true else b) ≡ true
    still true b h = refl
    still false b h = h

pub cleared : (main : Part) (before after : List Follower) (f : Follower) (n : NodeId) → ((t : ℕ) → has_more main t n ≡ false)
    → Leads main (before ++ f ∷ after)
    → Leads main (before ++ with_mark f n false ∷ after)
cleared main before after f n idle =
    leads_with main before after f (with_mark f n false) (λ q out one. subst (IsInOne q) (sym (same_parts before after f n false)) one)
    (λ obeys q here. record {
      intentions = (obeys q here).intentions;
      queueless = (obeys q here).queueless;
      led = λ m t. (obeys q here).led (was (same_node q n) (f.marked q) m) t;
    })
    (λ marked q t more here. split (same_node q n) (λ e. clash more (ap (has_more main t) (same_node-equal q n e) ∙ idle t))
    (λ e. ap (λ b. if b then false else f.marked q) e ∙ marked q t more here))
  where
    was : (a b : Bool) → (if a then false else b) ≡ true → b ≡ true
    was true b h = absurd (no h)
    was false b h = h
