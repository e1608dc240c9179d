-- Text that is buffered for a writer.
use Rattle.gl_interpreter.proofs.Words.{◌+◌, ◌++◌, [], ◌∙◌, ◌≡◌, ap, append-nil, append_assoc, Appends, Bool, Consumes, drop, false, Handed, Holds, List, None}
use Rattle.gl_interpreter.proofs.Words.{not, Option, refl, Sink, Some, subst, sym, take, take-add, take-append-drop, true, ℕ}
use Rattle.std.specs.Io.KnownBytes.{Keeps}
use Rattle.gl_interpreter.specs.Held.{Hands, Sends}

pub Appends-nil : (a : Option (List ℕ)) → Appends a a []
Appends-nil None = tt
Appends-nil (Some x) = sym (append-nil x)

pub Appends-then : (a b c : Option (List ℕ)) (xs ys : List ℕ) → Appends a b xs → Appends b c ys → Appends a c (xs ++ ys)
Appends-then None b c xs ys p q = tt
Appends-then (Some x) None c xs ys p q = absurd p
Appends-then (Some x) (Some y) None xs ys p q = absurd q
Appends-then (Some x) (Some y) (Some z) xs ys p q = q ∙ ap (λ l. l ++ ys) p ∙ append_assoc x xs ys

pub Appends-kept : (a b c : Option (List ℕ)) (xs : List ℕ) → Appends a b xs → Keeps b c → Appends a c xs
Appends-kept None b c xs p q = tt
Appends-kept (Some x) None c xs p q = absurd p
Appends-kept (Some x) (Some y) None xs p q = absurd q
Appends-kept (Some x) (Some y) (Some z) xs p q = q ∙ p

-- one more byte is buffered
pub Handed-push : (first w : Option (List ℕ)) (held : List ℕ) (broken : Bool) (text more : List ℕ)
    → Handed first w held broken text → Handed first w (held ++ more) broken (text ++ more)
Handed-push first w held false text more h =
    (h.0, h.1, ap (λ l. l ++ more) h.2 ∙ append_assoc h.0 held more)
Handed-push first w held true text more h =
    (h.0, h.1, (h.2.0 ++ more, ap (λ l. l ++ more) h.2.1 ∙ append_assoc h.0 h.2.0 more))

-- what was buffered is sent, or a prefix of it
pub Handed-sent : (first w w' : Option (List ℕ)) (held : List ℕ) (went : Bool) (text : List ℕ)
    → Handed first w held false text → Sends w w' held went → Handed first w' [] (not went) text
Handed-sent first w w' held true text h s =
    (h.0 ++ held, Appends-then first w w' h.0 held h.1 s, h.2 ∙ sym (append-nil (h.0 ++ held)))
Handed-sent first w w' held false text h s =
    (h.0 ++ s.0, Appends-then first w w' h.0 s.0 h.1 s.2, (s.1, h.2 ∙ ap (λ l. h.0 ++ l) s.3 ∙ sym (append_assoc h.0 s.0 s.1)))

pub Hands-none : (w : Option (List ℕ)) (s : Sink) → Hands w s w s []
unfolding Hands
Hands-none w s first before h = subst (Holds first w s) (sym (append-nil before)) h

pub Hands-then : (w : Option (List ℕ)) (s : Sink) (w' : Option (List ℕ)) (s' : Sink) (w'' : Option (List ℕ)) (s'' : Sink) (xs ys : List ℕ)
    → Hands w s w' s' xs → Hands w' s' w'' s'' ys → Hands w s w'' s'' (xs ++ ys)
unfolding Hands
Hands-then w s w' s' w'' s'' xs ys p q first before h =
    subst (Holds first w'' s'') (append_assoc before xs ys) (q first (before ++ xs) (p first before h))

-- one byte is added to the buffer
pub Hands-push : (w : Option (List ℕ)) (s s' : Sink) (more : List ℕ) → s'.held.items ≡ s.held.items ++ more → s'.broken ≡ s.broken → Hands w s w s' more
unfolding Hands
Hands-push w s s' more held broken first before h =
    subst (λ b. Handed first w s'.held.items b (before ++ more)) (sym broken)
    (subst (λ l. Handed first w l s.broken (before ++ more)) (sym held) (Handed-push first w s.held.items s.broken before more h))

pub Hands-sent : (w : Option (List ℕ)) (s : Sink) (w' : Option (List ℕ)) (s' : Sink) (went : Bool)
    → s.broken ≡ false → Sends w w' s.held.items went → s'.held.items ≡ [] → s'.broken ≡ not went → Hands w s w' s' []
unfolding Hands
Hands-sent w s w' s' went whole sends empty broken first before h =
    let h' = subst (λ b. Handed first w s.held.items b before) whole h in
    let out = Handed-sent first w w' s.held.items went before h' sends in
    subst (Holds first w' s') (sym (append-nil before))
    (subst (λ b. Handed first w' s'.held.items b before) (sym broken) (subst (λ l. Handed first w' l (not went) before) (sym empty) out))

pub Hands-broken : (w : Option (List ℕ)) (s s' : Sink) → s.broken ≡ true → s'.broken ≡ true → Hands w s w s' []
unfolding Hands
Hands-broken w s s' was is first before h =
    let h' = subst (λ b. Handed first w s.held.items b before) was h in
    subst (Holds first w s') (sym (append-nil before)) (subst (λ b. Handed first w s'.held.items b before) (sym is) h')

pub Sends-more : (a b d : Option (List ℕ)) (text : List ℕ) (at n : ℕ) → Appends a b (take at text) → Appends b d (take n (drop at text))
    → Appends a d (take (at + n) text)
Sends-more a b d text at n p q = subst (Appends a d) (sym (take-add at n text)) (Appends-then a b d (take at text) (take n (drop at text)) p q)

pub Sends-front : (a b : Option (List ℕ)) (text : List ℕ) (at : ℕ) → Appends a b (take at text) → Sends a b text false
Sends-front a b text at p = (take at text, drop at text, p, sym (take-append-drop at text))

pub Consumes-nil : (a : Option (List ℕ)) → Consumes a a []
Consumes-nil None = tt
Consumes-nil (Some x) = refl

pub Consumes-then : (a b c : Option (List ℕ)) (xs ys : List ℕ) → Consumes a b xs → Consumes b c ys → Consumes a c (xs ++ ys)
Consumes-then None b c xs ys p q = tt
Consumes-then (Some x) None c xs ys p q = absurd p
Consumes-then (Some x) (Some y) None xs ys p q = absurd q
Consumes-then (Some x) (Some y) (Some z) xs ys p q = p ∙ ap (λ l. xs ++ l) q ∙ sym (append_assoc xs ys z)

pub Consumes-kept : (a b c : Option (List ℕ)) (xs : List ℕ) → Consumes a b xs → Keeps b c → Consumes a c xs
Consumes-kept None b c xs p q = tt
Consumes-kept (Some x) None c xs p q = absurd p
Consumes-kept (Some x) (Some y) None xs p q = absurd q
Consumes-kept (Some x) (Some y) (Some z) xs p q = p ∙ ap (λ l. xs ++ l) (sym q)
