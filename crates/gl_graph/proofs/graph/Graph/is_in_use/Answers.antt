use Rattle.gl_graph.proofs.Words.{ap, arith, false, FileBody, graph_of, IndexBody, is_file_shape, length, nat_lt, nat_tests, not, refl, shape_of, suc, sym}
use Rattle.gl_graph.proofs.Words.{true, zero, ℕ, ◌==◌, ◌||◌, ◌∙◌, ◌≡◌}
use Rattle.gl_graph.proofs.InUse.{inner_in_use, file_in_use, index_file}
use Rattle.gl_graph.proofs.graph.Graph.is_in_use.Goals as goal

pub returns-in-Inner : goal.returns-in-Inner
returns-in-Inner c =
    sym (inner_in_use (graph_of c.args.self.now) c.node.ensures.lawful c.args.n
    c.in-Some.node.now c.in-Some.ensures.node c.in-Some.ensures.beside c.in-Inner.children _ c.in-Inner.is)

pub has_records-requires : goal.has_records-requires
has_records-requires c =
    ap (λ (b : IndexBody). is_file_shape (shape_of (graph_of c.args.self.now) b.file)) c.deref-in-Index.ensures
    ∙ index_file (graph_of c.args.self.now) c.node.ensures.lawful c.args.n
    c.in-Some.node.now c.in-Some.ensures.node c.in-Some.ensures.beside _ c.in-Index.kept c.in-Index.is

pub returns-then-deref-gt0 : goal.returns-then-deref-gt0
returns-then-deref-gt0 c =
    let is = ap (λ (b : FileBody). nat_lt 0 b.records) c.deref.ensures in
    let more = c.if-deref-gt0.true in
    let test : nat_lt 0 c.deref.result.now.records ≡ true = grind (arith, nat_tests) in
    test
    ∙ sym (file_in_use (graph_of c.args.self.now) c.node.ensures.lawful c.args.n
    c.in-Some.node.now c.in-Some.ensures.node c.in-Some.ensures.beside _ c.in-File.kept c.in-File.is
    ∙ ap (λ b. b || nat_lt 0 (length c.in-File.kept.value.indexes.items)) (sym is ∙ test))

some_listed : (k : ℕ) → not (k == 0) ≡ nat_lt 0 k
some_listed zero = refl
some_listed (suc k) = grind (arith, nat_tests)

pub returns-else-deref-gt0 : goal.returns-else-deref-gt0
returns-else-deref-gt0 c =
    let is = ap (λ (b : FileBody). nat_lt 0 b.records) c.deref.ensures in
    let none = c.if-deref-gt0.false in
    let test : nat_lt 0 c.deref.result.now.records ≡ false = grind (arith, nat_tests) in
    ap not (c.is_empty.ensures ∙ ap (λ (b : FileBody). length b.indexes.items == 0) c.deref-else-deref-gt0.ensures)
    ∙ some_listed (length c.in-File.kept.value.indexes.items)
    ∙ sym (file_in_use (graph_of c.args.self.now) c.node.ensures.lawful c.args.n
    c.in-Some.node.now c.in-Some.ensures.node c.in-Some.ensures.beside _ c.in-File.kept c.in-File.is
    ∙ ap (λ b. b || nat_lt 0 (length c.in-File.kept.value.indexes.items)) (sym is ∙ test))
