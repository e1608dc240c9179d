-- A script that the tool reads: lines grow, are answered, and end.
use Rattle.gl_interpreter.proofs.Words.{◌+◌, ◌++◌, ◌<◌, [], ◌∙◌, ◌∷◌, ◌≡◌, ◌≢◌, ◌≤◌, Answers, ap, append-nil, append_assoc, Appends, arith, bytes_eq, codes}
use Rattle.gl_interpreter.proofs.Words.{Consumes, Decides-eqb, Err, false, flat_map, flat_map_more, Going, Handed, Holds, if◌then◌else◌, inl, inr, IsOpen}
use Rattle.gl_interpreter.proofs.Words.{length, length-take, List, nil_from_length, None, Ok, OnOk, Opening, Opens, Option, refl, Result, Script, Sink, SoFar}
use Rattle.gl_interpreter.proofs.Words.{Some, stage_of, subst, suc, sym, take, take_all, true, Version, version_of, zero, ℕ}
use Rattle.std.proofs.Common.{◌&&◌, ◌==◌, min}
use Rattle.std.proofs.Math.Seq.{take-append-add}
use Rattle.std.proofs.lemmas.List.{take_min}
use Rattle.std.proofs.lemmas.List.Elements.{All-append, All-cons, All-nil, All-push}
use Rattle.memchr.specs.Find.{is_byte, Nowhere, Passes}
use Rattle.gl_interpreter.specs.declared.script.Tool.{Tool}
use Rattle.gl_interpreter.specs.declared.script.RunFault.{RunFault}
use Rattle.gl_interpreter.specs.declared.script.RunFault.TheVariants.{Read, TooMuch, Write}
use Rattle.gl_script.specs.declared.form.Version.TheVariants as version
use Rattle.gl_options.specs.declared.requests.Choices.{Choices}
use Rattle.gl_interpreter.specs.Report.{ended, last_line, Left, Prints, Ran, Report, ReportOfWhole, Run, Splits, Stage}
use Rattle.gl_interpreter.specs.Held.{Hands}
use Rattle.gl_interpreter.proofs.Writing.{Appends-nil}
use Rattle.gl_interpreter.specs.SoFar.{Answered, Finishes, HasReported, IsNew, IsReady, Takes}

pub Splits-none : Splits [] [] []
Splits-none = record { whole = refl; each = All-nil IsOpen; tail = All-nil (λ b. b ≢ 10) }

pub Splits-newline : (read : List ℕ) (lines : List (List ℕ)) (rest : List ℕ) → Splits read lines rest → Splits (read ++ 10 ∷ []) (lines ++ rest ∷ []) []
Splits-newline read lines rest s = record {
  whole = ap (λ l. l ++ 10 ∷ []) s.whole ∙ append_assoc (flat_map ended lines) rest (10 ∷ []) ∙ flat_map_more ended [] lines rest
      ∙ sym (append-nil (flat_map ended (lines ++ rest ∷ [])));
  each = All-push IsOpen lines rest s.each s.tail;
  tail = All-nil (λ b. b ≢ 10);
}

pub Splits-open : (read : List ℕ) (lines : List (List ℕ)) (rest bytes : List ℕ) → IsOpen bytes → Splits read lines rest
    → Splits (read ++ bytes) lines (rest ++ bytes)
Splits-open read lines rest bytes open_ s = record {
  whole = ap (λ l. l ++ bytes) s.whole ∙ append_assoc (flat_map ended lines) rest bytes;
  each = s.each;
  tail = All-append (λ b. b ≢ 10) rest bytes s.tail open_;
}

pub Run-more : (s : Stage) (lines : List (List ℕ)) (text : List ℕ) (mid : Stage) (line more : List ℕ) (t : Stage)
    → Run s lines text mid → Prints mid line more t → Run s (lines ++ line ∷ []) (text ++ more) t
Run-more s [] text mid line more t r p =
    (t, more, [], subst (λ u. Prints u line more t) r.1 p, (refl, refl), ap (λ l. l ++ more) r.0 ∙ sym (append-nil more))
Run-more s (l ∷ lines) text mid line more t r p =
    (r.0, r.1, r.2 ++ more, r.3, Run-more r.0 lines r.2 mid line more t r.4 p, ap (λ x. x ++ more) r.5 ∙ append_assoc r.1 r.2 more)

-- a prefix of a longer line is seen from its own prefix
pub front-more : (n : ℕ) (rest bytes : List ℕ) → take n (take n rest ++ bytes) ≡ take n (rest ++ bytes)
front-more zero rest bytes = refl
front-more (suc n) [] bytes = refl
front-more (suc n) (b ∷ rest) bytes = ap (λ l. b ∷ l) (front-more n rest bytes)

-- as many bytes are stored as there is room for
pub front-kept : (n room : ℕ) (line bytes : List ℕ) → room + length line ≡ n → line ++ take (min room (length bytes)) bytes ≡ take n (line ++ bytes)
front-kept n room line bytes all =
    ap (λ l. line ++ l) (take_min room bytes) ∙ sym (take-append-add line bytes room) ∙ ap (λ k. take k (line ++ bytes)) (omega (arith, all))

pub front-short : (line : List ℕ) → length (take 257 line) ≤ 256 → take 257 line ≡ line
front-short line h = take_all 257 line (omega (arith, length-take 257 line))

-- whether a line is another, shorter one can be seen from its prefix
same-front : (n : ℕ) (line other : List ℕ) → length other < n → bytes_eq (take n line) other ≡ bytes_eq line other
same-front zero line other h = absurd (omega arith)
same-front (suc n) [] other h = refl
same-front (suc n) (b ∷ line) [] h = refl
same-front (suc n) (b ∷ line) (c ∷ other) h = ap (λ t. (b == c) && t) (same-front n line other (omega arith))

-- a line of a script is answered by its first 257 bytes
Answers-front : (s : Script) (line text : List ℕ) (t : Script) → Answers s (take 257 line) text t → Answers s line text t
Answers-front s line text t (inl h) = inl (omega (arith, length-take 257 line, h.0), h.1, h.2)
Answers-front s line text t (inr (inl h)) = subst (λ l. Answers s l text t) (front-short line h.0) (inr (inl h))
Answers-front s line text t (inr (inr (inl h))) = subst (λ l. Answers s l text t) (front-short line h.0) (inr (inr (inl h)))
Answers-front s line text t (inr (inr (inr (inl h)))) = subst (λ l. Answers s l text t) (front-short line h.0) (inr (inr (inr (inl h))))
Answers-front s line text t (inr (inr (inr (inr h)))) = subst (λ l. Answers s l text t) (front-short line h.0) (inr (inr (inr (inr h))))

Opens-front : (d : Choices) (o : Option Version) (line text : List ℕ) (t : Stage) → Opens d o (take 257 line) text t → Opens d o line text t
Opens-front d (Some v) line text t h = h
Opens-front d None line text t h = (h.0, Answers-front _ line text h.0 h.1, h.2)

-- and so is the first one
pub Prints-front : (s : Stage) (line text : List ℕ) (t : Stage) → Prints s (take 257 line) text t → Prints s line text t
unfolding Prints
Prints-front (Opening d) line text t h =
    let two = same-front 257 line (codes "granular 2") (omega arith) in
    let same : version_of (take 257 line) ≡ version_of line = ap (λ a. if a then Some version.Two else None) two in
    Opens-front d (version_of line) line text t (subst (λ o. Opens d o (take 257 line) text t) same h)
Prints-front (Going s) line text t h = (h.0, Answers-front s line text h.0 h.1, h.2)

-- a whole line is answered
pub SoFar-newline : (d : Choices) (first : Option (List ℕ)) (read : List ℕ) (w w' : Option (List ℕ)) (tool tool' : Tool)
    → HasReported w tool w' tool' → (tool'' : Tool) → tool''.interpreter ≡ tool'.interpreter → tool''.sink ≡ tool'.sink → tool''.line.items ≡ []
    → SoFar d first read w tool → SoFar d first (read ++ 10 ∷ []) w' tool''
unfolding HasReported
SoFar-newline d first read w w' tool tool' reported tool'' same sink line (lines, rest, text, so) =
    let done = reported rest so.line so.ready in (
      lines ++ rest ∷ [],
      [],
      text ++ done.0,
      record {
        splits = Splits-newline read lines rest so.splits;
        run = Run-more (Opening d) lines text (stage_of tool.interpreter) rest done.0 (stage_of tool''.interpreter) so.run
            (subst (λ i. Prints (stage_of tool.interpreter) rest done.0 (stage_of i)) (sym same) done.1);
        ready = subst IsReady (sym same) done.2;
        line = line;
        handed = subst (λ s. Holds first w' s (text ++ done.0)) (sym sink) (done.3 first text so.handed);
      },
    )

-- a line continues
pub Takes-open : (w : Option (List ℕ)) (tool tool' : Tool) (bytes : List ℕ) → IsOpen bytes → tool'.interpreter ≡ tool.interpreter → tool'.sink ≡ tool.sink
    → tool'.line.items ≡ take 257 (tool.line.items ++ bytes) → Takes w tool w tool' bytes
unfolding Takes
Takes-open w tool tool' bytes open_ same sink line d first read (lines, rest, text, so) = (
  lines,
  rest ++ bytes,
  text,
  record {
    splits = Splits-open read lines rest bytes open_ so.splits;
    run = subst (λ i. Run (Opening d) lines text (stage_of i)) (sym same) so.run;
    ready = subst IsReady (sym same) so.ready;
    line = line ∙ ap (λ l. take 257 (l ++ bytes)) so.line ∙ front-more 257 rest bytes;
    handed = subst (λ s. Holds first w s text) (sym sink) so.handed;
  },
)

-- a line of which nothing was stored yet is answered whole
pub Takes-line : (w : Option (List ℕ)) (tool : Tool) (w' : Option (List ℕ)) (tool' : Tool) (line : List ℕ)
    → tool.line.items ≡ [] → tool'.line.items ≡ [] → IsOpen line → Answered w tool.sink tool.interpreter line w' tool'.sink tool'.interpreter
    → Takes w tool w' tool' (line ++ 10 ∷ [])
unfolding Takes Answered Hands
Takes-line w tool w' tool' line none none' open_ answered d first read (lines, rest, text, so) =
    let done = answered so.ready in
    let splits = subst (Splits read lines) (nil_from_length rest (omega (arith, length-take 257 rest, ap length (sym so.line ∙ none)))) so.splits in (
      lines ++ line ∷ [],
      [],
      text ++ done.0,
      record {
        splits = subst (λ r. Splits r (lines ++ line ∷ []) []) (append_assoc read line (10 ∷ []))
            (Splits-newline (read ++ line) lines line (Splits-open read lines [] line open_ splits));
        run = Run-more (Opening d) lines text (stage_of tool.interpreter) line done.0 (stage_of tool'.interpreter) so.run done.1;
        ready = done.2;
        line = none';
        handed = done.3 first text so.handed;
      },
    )

-- before the first newline a line is open
pub IsOpen-front : (bytes : List ℕ) (n : ℕ) → Nowhere (Passes (is_byte 10) bytes) 0 n → IsOpen (take n bytes)
IsOpen-front bytes zero h = All-nil (λ b. b ≢ 10)
IsOpen-front [] (suc n) h = All-nil (λ b. b ≢ 10)
IsOpen-front (b ∷ bytes) (suc n) h =
    All-cons (λ x. x ≢ 10) b (take n bytes) (λ e. h 0 (omega arith) (omega arith) ((Decides-eqb b 10).1 e))
    (IsOpen-front bytes n (λ k low high. h (suc k) (omega arith) (omega (arith, high))))

pub Takes-none : (w : Option (List ℕ)) (tool : Tool) → Takes w tool w tool []
unfolding Takes
Takes-none w tool d first read h = subst (λ r. SoFar d first r w tool) (sym (append-nil read)) h

pub Takes-then : (w : Option (List ℕ)) (t : Tool) (w' : Option (List ℕ)) (t' : Tool) (w'' : Option (List ℕ)) (t'' : Tool) (xs ys : List ℕ)
    → Takes w t w' t' xs → Takes w' t' w'' t'' ys → Takes w t w'' t'' (xs ++ ys)
unfolding Takes
Takes-then w t w' t' w'' t'' xs ys p q d first read h =
    subst (λ r. SoFar d first r w'' t'') (append_assoc read xs ys) (q d first (read ++ xs) (p d first read h))

-- only the sink has changed
pub SoFar-flushed : (d : Choices) (first : Option (List ℕ)) (read : List ℕ) (w w' : Option (List ℕ)) (tool tool' : Tool)
    → tool'.interpreter ≡ tool.interpreter → tool'.line ≡ tool.line → Hands w tool.sink w' tool'.sink []
    → SoFar d first read w tool → SoFar d first read w' tool'
unfolding Hands
SoFar-flushed d first read w w' tool tool' same line hands (lines, rest, text, so) = (
  lines,
  rest,
  text,
  record {
    splits = so.splits;
    run = subst (λ i. Run (Opening d) lines text (stage_of i)) (sym same) so.run;
    ready = subst IsReady (sym same) so.ready;
    line = ap (λ l. l.items) line ∙ so.line;
    handed = subst (Holds first w' tool'.sink) (append-nil text) (hands first text so.handed);
  },
)

-- all lines are answered, the last one too
abbrev pub Ended : Choices → Option (List ℕ) → List ℕ → Option (List ℕ) → Sink → Type 0
Ended d first read w sink = (text : List ℕ) × Report d read text × Holds first w sink text

last_line-some : (rest : List ℕ) → 0 < length rest → last_line rest ≡ rest ∷ []
last_line-some [] h = absurd (omega arith)
last_line-some (b ∷ bs) h = refl

last_line-none : (rest : List ℕ) → length rest ≡ 0 → last_line rest ≡ []
last_line-none [] h = refl
last_line-none (b ∷ bs) h = absurd (omega arith)

pub Ended-rest : (d : Choices) (first : Option (List ℕ)) (read : List ℕ) (w w' : Option (List ℕ)) (tool tool' : Tool)
    → 0 < length tool.line.items → HasReported w tool w' tool' → SoFar d first read w tool → Ended d first read w' tool'.sink
unfolding HasReported
Ended-rest d first read w w' tool tool' some reported (lines, rest, text, so) =
    let done = reported rest so.line so.ready in
    let long : 0 < length rest = omega (arith, length-take 257 rest, ap length so.line) in
    let all = Run-more (Opening d) lines text (stage_of tool.interpreter) rest done.0 (stage_of tool'.interpreter) so.run done.1 in (
      text ++ done.0,
      (
        lines,
        rest,
        stage_of tool'.interpreter,
        so.splits,
        subst (λ ls. Run (Opening d) (lines ++ ls) (text ++ done.0) (stage_of tool'.interpreter))
            (sym (last_line-some rest long)) all,
      ),
      done.3 first text so.handed,
    )

pub Ended-none : (d : Choices) (first : Option (List ℕ)) (read : List ℕ) (w : Option (List ℕ)) (tool : Tool)
    → length tool.line.items ≡ 0 → SoFar d first read w tool → Ended d first read w tool.sink
Ended-none d first read w tool none (lines, rest, text, so) =
    let short : length rest ≡ 0 = omega (arith, length-take 257 rest, ap length so.line) in (
      text,
      (
        lines,
        rest,
        stage_of tool.interpreter,
        so.splits,
        subst (λ ls. Run (Opening d) ls text (stage_of tool.interpreter)) (sym (ap (λ ls. lines ++ ls) (last_line-none rest short) ∙ append-nil lines)) so.run,
      ),
      so.handed,
    )

pub Ended-flushed : (d : Choices) (first : Option (List ℕ)) (read : List ℕ) (w : Option (List ℕ)) (sink : Sink) (w' : Option (List ℕ)) (sink' : Sink)
    → Hands w sink w' sink' [] → Ended d first read w sink → Ended d first read w' sink'
unfolding Hands
Ended-flushed d first read w sink w' sink' hands (text, report, holds) =
    (text, report, subst (Holds first w' sink') (append-nil text) (hands first text holds))

pub Ended-whole : (d : Choices) (first : Option (List ℕ)) (read : List ℕ) (w : Option (List ℕ)) (sink : Sink)
    → sink.broken ≡ false → sink.held.items ≡ [] → Ended d first read w sink → (written : List ℕ) × Appends first w written × Report d read written
Ended-whole d first read w sink whole empty (text, report, holds) =
    let h = subst (λ b. Handed first w sink.held.items b text) whole holds in
    (h.0, h.1, subst (Report d read) (h.2 ∙ ap (λ l. h.0 ++ l) empty ∙ append-nil h.0) report)

pub Ended-broken : (d : Choices) (first : Option (List ℕ)) (read : List ℕ) (w : Option (List ℕ)) (sink : Sink)
    → sink.broken ≡ true → Ended d first read w sink → (written : List ℕ) × Appends first w written × ((more : List ℕ) × Report d read (written ++ more))
Ended-broken d first read w sink broken (text, report, holds) =
    let h = subst (λ b. Handed first w sink.held.items b text) broken holds in
    (h.0, h.1, (h.2.0, subst (Report d read) h.2.1 report))

pub SoFar-whole : (d : Choices) (first : Option (List ℕ)) (read : List ℕ) (w : Option (List ℕ)) (tool : Tool)
    → tool.sink.broken ≡ false → tool.sink.held.items ≡ [] → SoFar d first read w tool → (written : List ℕ) × Appends first w written
    × ReportOfWhole d read written
SoFar-whole d first read w tool whole empty (lines, rest, text, so) =
    let h = subst (λ b. Handed first w tool.sink.held.items b text) whole so.handed in (
      h.0,
      h.1,
      (
        lines,
        rest,
        stage_of tool.interpreter,
        so.splits,
        subst (λ t. Run (Opening d) lines t (stage_of tool.interpreter))
            (h.2 ∙ ap (λ l. h.0 ++ l) empty ∙ append-nil h.0) so.run,
      ),
    )

pub SoFar-new : (d : Choices) (first : Option (List ℕ)) (tool : Tool) → IsNew d tool → SoFar d first [] first tool
SoFar-new d first tool new = (
  [],
  [],
  [],
  record {
    splits = Splits-none;
    run = (refl, new.fresh.stage);
    ready = new.fresh.ready;
    line = new.line;
    handed = subst (λ b. Handed first first tool.sink.held.items b []) (sym new.whole) ([], Appends-nil first, sym new.held);
  },
)

pub Ran-finished : (d : Choices) (r r' first w w' : Option (List ℕ)) (tool : Tool) (result : Result Unit RunFault) (read : List ℕ)
    → Consumes r r' read → SoFar d first read w tool → Finishes w tool w' result → Ran d r r' first w' result
unfolding Finishes
Ran-finished d r r' first w w' tool (Ok u) read consumes so ends =
    let done = ends d first read so in (read, done.0, consumes, done.1, done.2)
Ran-finished d r r' first w w' tool (Err e) read consumes so ends =
    let done = ends d first read so in (read, done.0, consumes, done.1, subst (λ f. Left d f read done.0) (sym done.2.0) done.2.1)

pub Ran-broken : (d : Choices) (r r' first w w' : Option (List ℕ)) (tool : Tool) (result : Result Unit RunFault) (read : List ℕ)
    → Consumes r r' read → SoFar d first read w tool → Finishes w tool w' result → Ran d r r' first w' (Err Write)
unfolding Finishes
Ran-broken d r r' first w w' tool (Ok u) read consumes so ends =
    let done = ends d first read so in (read, done.0, consumes, done.1, ([], subst (Report d read) (sym (append-nil done.0)) done.2))
Ran-broken d r r' first w w' tool (Err e) read consumes so ends =
    let done = ends d first read so in (read, done.0, consumes, done.1, done.2.1)

pub Ran-at_fault : (d : Choices) (r r' first w : Option (List ℕ)) (tool : Tool) (read : List ℕ)
    → tool.sink.broken ≡ false → tool.sink.held.items ≡ [] → Consumes r r' read → SoFar d first read w tool → Ran d r r' first w (Err Read)
Ran-at_fault d r r' first w tool read whole empty consumes so =
    let done = SoFar-whole d first read w tool whole empty so in (read, done.0, consumes, done.1, done.2)

pub Ran-too_much : (d : Choices) (r r' first w : Option (List ℕ)) (tool : Tool) (read : List ℕ)
    → tool.sink.broken ≡ false → tool.sink.held.items ≡ [] → length read ≡ 16777217 → Consumes r r' read → SoFar d first read w tool
    → Ran d r r' first w (Err TooMuch)
Ran-too_much d r r' first w tool read whole empty long consumes so =
    let done = SoFar-whole d first read w tool whole empty so in (read, done.0, consumes, done.1, (long, done.2))

pub OnOk-of : {T E P : Type 0} (r : Result T E) → P → OnOk r P
OnOk-of (Ok x) p = p
OnOk-of (Err e) p = tt
