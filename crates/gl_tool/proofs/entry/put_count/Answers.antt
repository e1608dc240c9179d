use Rattle.std.proofs.Common.{refl, sym, ap, subst, ◌≡◌, ◌∙◌, ℕ, List, [], ◌++◌, append-nil, true, false, Option}
use Rattle.std.specs.Io.KnownBytes.{Appends}
use Rattle.gl_interpreter.specs.declared.sink.Sink.{Sink}
use Rattle.gl_interpreter.specs.Held.{Hands, Handed, Holds}
use Rattle.gl_interpreter.proofs.Writing.{Appends-nil, Hands-then}
use Rattle.gl_tool.proofs.entry.put_count.Goals as goal

-- what was written or buffered through an empty sink
from_empty : (w w' : Option (List ℕ)) (s s' : Sink) (text : List ℕ) → s.held.items ≡ [] → s.broken ≡ false → Hands w s w' s' text → Holds w w' s' text
unfolding Hands
from_empty w w' s s' text empty whole h = h w [] (subst (λ b. Handed w w s.held.items b []) (sym whole) ([], Appends-nil w, sym empty))

counted : (w w' : Option (List ℕ)) (s' : Sink) (text : List ℕ) → s'.held.items ≡ [] → s'.broken ≡ false → Holds w w' s' text → Appends w w' text
counted w w' s' text empty whole h =
    let k = subst (λ b. Handed w w' s'.held.items b text) whole h in
    subst (Appends w w') (sym (k.2 ∙ ap (λ l. k.0 ++ l) empty ∙ append-nil k.0)) k.1

begun : (w w' : Option (List ℕ)) (s' : Sink) (text : List ℕ) → s'.broken ≡ true → Holds w w' s' text → (front : List ℕ) × (rest : List ℕ)
    × Appends w w' front × (text ≡ front ++ rest)
begun w w' s' text broken h =
    let k = subst (λ b. Handed w w' s'.held.items b text) broken h in (k.0, k.2.0, k.1, k.2.1)

pub returns-then-sink : goal.returns-then-sink
returns-then-sink g c =
    let number = Hands-then _ _ _ _ _ _ _ _ c.put.ensures c.put_number.ensures in
    let line = Hands-then _ _ _ _ _ _ _ _ number c.put-2.ensures in
    let all = Hands-then _ _ _ _ _ _ _ _ line c.flush.ensures.text in (
      refl,
      begun _ _ _ _ c.if-sink.true
          (subst (Holds _ _ _) (append-nil _) (from_empty _ _ _ _ _ c.new_sink-sink.ensures.empty c.new_sink-sink.ensures.whole all)),
    )

pub returns-else-sink : goal.returns-else-sink
returns-else-sink g c =
    let number = Hands-then _ _ _ _ _ _ _ _ c.put.ensures c.put_number.ensures in
    let line = Hands-then _ _ _ _ _ _ _ _ number c.put-2.ensures in
    let all = Hands-then _ _ _ _ _ _ _ _ line c.flush.ensures.text in
    counted _ _ _ _ c.flush.ensures.empty c.if-sink.false
    (subst (Holds _ _ _) (append-nil _) (from_empty _ _ _ _ _ c.new_sink-sink.ensures.empty c.new_sink-sink.ensures.whole all))
