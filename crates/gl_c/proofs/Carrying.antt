-- A call of C that a session has made. For the calls of Handle.
use denote.Bor.{Bor}
use Rattle.std.specs.Prelude.{◌≡◌, ◌≤◌, List, Option, Some, length, map}
use Rattle.std.proofs.Common.{arith, subst, sym}
use Rattle.gl_modes.specs.declared.node.NodeId.{NodeId}
use Rattle.gl_c.specs.Names.{node_id}
use Rattle.gl_c.specs.declared.names.Node.{Node}
use Rattle.gl_c.specs.declared.answers.notices.Notices.{Notices}
use Rattle.gl_c.specs.declared.answers.reply.Reply.{Reply}
use Rattle.gl_c.specs.managers.Carries.{Answers, Asks, CallOf, Carries, Replies, Under, Where}
use Rattle.gl_c.specs.managers.Guarded.{GuardedView}

-- the session was taken out of its place, and put back
module _ {A : Type 0} (call : CallOf A) (s : Option GuardedView) (session g g' : GuardedView) (r : Reply) (s' : Option GuardedView)
    (taken : Some session ≡ s) (lent : g ≡ session) (back : s' ≡ Some g') where
  pub carried : (notices : Notices) → Replies g call r notices g' → Carries s call r notices s'
  carried notices made =
      subst (λ (x : Option GuardedView). Carries x call r notices s') taken
      (g', back, subst (λ (x : GuardedView). Replies x call r notices g') lent made)

  pub asked : Answers g call r g' → Asks s call r s'
  asked made = subst (λ (x : Option GuardedView). Asks x call r s') taken (g', back, subst (λ (x : GuardedView). Answers x call r g') lent made)

-- a number with a meaning
pub where_some : {A : Type 0} (o : Option A) (a : A) (then : A → Type 0) (other : Type 0) → o ≡ Some a → then a → Where o then other
where_some o a then other is h = subst (λ (x : Option _). Where x then other) (sym is) h

-- the parents that C names, of which there are few enough
pub under_few : (ps : List Node) (ids : Bor (List NodeId)) (then : Bor (List NodeId) → Type 0) (other : Type 0) → length ps ≤ 8 → ids.now ≡ map node_id ps
    → then ids → Under ps then other
under_few ps ids then other few names h = record { few = λ _. (ids, names, h); many = λ more. absurd (omega (arith, few, more)) }
