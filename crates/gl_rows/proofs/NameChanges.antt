-- How the nodes of rows and the records of a graph change under all that a registry serves. The law of names is kept by each such change.
use Rattle.std.specs.Prelude.{◌≡◌, ◌⊎◌, Bool, true, false, Option, Some, None, cond, is_some}
use Rattle.std.specs.List.{list_any}
use Rattle.std.proofs.Common.{refl, sym, ap, subst, ◌∙◌, inl, inr}
use Rattle.gl_modes.proofs.Words.{clash, no as never, some_is, split}
use Rattle.gl_modes.specs.Nodes.{same_node}
use Rattle.gl_modes.specs.declared.node.NodeId.{NodeId}
use Rattle.gl_graph.specs.Graph.{Graph, Node, first_in, first_parent, is_live, node_at, parents_in, shape_in, shape_of}
use Rattle.gl_graph.specs.Shapes.{is_record_shape}
use Rattle.gl_steps.proofs.KeptKinds.{KeepsKinds}
use Rattle.gl_rows.specs.Locking.{Renames}
use Rattle.gl_rows.specs.Names.{NamesHold}
use Rattle.gl_rows.specs.Rows.{RowsView, has_rows, name_of, same_row}
use Rattle.gl_rows.specs.declared.row.Row.{Row}
use Rattle.gl_rows.proofs.RowNames.{same_row-equal, same_row-refl}

pub shape_live : (o : Option Node) → is_record_shape (shape_in o) ≡ true → is_some o ≡ true
shape_live None h = absurd (never h)
shape_live (Some x) h = refl

pub record_live : (g : Graph) (r : NodeId) → is_record_shape (shape_of g r) ≡ true → is_live g r ≡ true
record_live g r h = shape_live (node_at g r) h

-- the node is a record of the same file in both graphs
pub record IsStill (g g' : Graph) (r : NodeId) : Type 0 where
  pub was : is_record_shape (shape_of g r) ≡ true
  pub rec : is_record_shape (shape_of g' r) ≡ true
  pub file : first_parent g' r ≡ first_parent g r

-- a node that is the same in both graphs
pub still_at : (g g' : Graph) (r : NodeId) → is_record_shape (shape_of g r) ≡ true → node_at g' r ≡ node_at g r → IsStill g g' r
still_at g g' r was at = record { was = was; rec = ap (λ o. is_record_shape (shape_in o)) at ∙ was; file = ap (λ o. first_in (parents_in o)) at }

pub still_back : (g g' : Graph) (r : NodeId) → is_record_shape (shape_of g' r) ≡ true → node_at g' r ≡ node_at g r → IsStill g g' r
still_back g g' r rec at = still_at g g' r (sym (ap (λ o. is_record_shape (shape_in o)) at) ∙ rec) at

-- the node is a new record of this file
pub record IsNew (g g' : Graph) (f r : NodeId) : Type 0 where
  pub new : is_live g r ≡ false
  pub rec : is_record_shape (shape_of g' r) ≡ true
  pub file : first_parent g' r ≡ f

-- a row has the node that it had, a new one of its own, or none; it keeps a record that remains; and a record of a file of rows was one before, or is a row's
pub record ChangesNames (v v' : RowsView) (g g' : Graph) : Type 0 where
  pub names : (q : Row) (r : NodeId) → name_of v' q ≡ Some r → ((name_of v q ≡ Some r) × IsStill g g' r) ⊎ IsNew g g' q.file r
  pub alone : (p q : Row) (r : NodeId) → name_of v' p ≡ Some r → name_of v' q ≡ Some r → is_live g r ≡ false → p ≡ q
  pub within : (q : Row) (r : NodeId) → name_of v' q ≡ Some r → has_rows v' q.file ≡ true
  pub left : (q : Row) (r : NodeId) → name_of v q ≡ Some r → is_record_shape (shape_of g' r) ≡ true → name_of v' q ≡ Some r
  pub records : (r : NodeId) → is_record_shape (shape_of g' r) ≡ true → has_rows v' (first_parent g' r) ≡ true
      → (IsStill g g' r × (has_rows v (first_parent g r) ≡ true)) ⊎ ((q : Row) × (name_of v' q ≡ Some r))

module _ (v v' : RowsView) (g g' : Graph) (h : ChangesNames v v' g g') where
  -- a node that lived before had the same row
  pub was_named : (q : Row) (r : NodeId) → name_of v' q ≡ Some r → is_live g r ≡ true → name_of v q ≡ Some r
  was_named q r e live = by (h.names q r e)
    where
      by : ((name_of v q ≡ Some r) × IsStill g g' r) ⊎ IsNew g g' q.file r → name_of v q ≡ Some r
      by (inl old) = old.0
      by (inr now) = clash live now.new

  pub changed_hold : NamesHold v g → NamesHold v' g'
  changed_hold is = record {
    well = record {
      stands = λ q r e. stands q r (h.names q r e);
      apart = λ p q r a b.
          split (is_live g r) (λ live. is.well.apart p q r (was_named p r a live) (was_named q r b live)) (h.alone p q r a b);
    };
    within = h.within;
    all = λ r rec of. named r rec (h.records r rec of);
  }
    where
      stands : (q : Row) (r : NodeId) → ((name_of v q ≡ Some r) × IsStill g g' r) ⊎ IsNew g g' q.file r
          → (is_record_shape (shape_of g' r) ≡ true) × (first_parent g' r ≡ q.file)
      stands q r (inl old) = (old.1.rec, old.1.file ∙ (is.well.stands q r old.0).1)
      stands q r (inr now) = (now.rec, now.file)

      named : (r : NodeId) → is_record_shape (shape_of g' r) ≡ true
          → (IsStill g g' r × (has_rows v (first_parent g r) ≡ true)) ⊎ ((q : Row) × (name_of v' q ≡ Some r)) → (q : Row) × (name_of v' q ≡ Some r)
      named r rec (inl old) = let q = is.all r old.0.was old.1 in (q.0, h.left q.0 r q.1 rec)
      named r rec (inr now) = now

-- records of these files stay, and none is new
pub record SameRecords (has : NodeId → Bool) (g g' : Graph) : Type 0 where
  pub on : (r : NodeId) → is_record_shape (shape_of g r) ≡ true → has (first_parent g r) ≡ true → IsStill g g' r
  pub back : (r : NodeId) → is_record_shape (shape_of g' r) ≡ true → has (first_parent g' r) ≡ true → IsStill g g' r

pub same_records : (has : NodeId → Bool) (g g' : Graph) → g' ≡ g → SameRecords has g g'
same_records has g g' e = subst (SameRecords has g) (sym e) (record { on = λ r rec of. still_at g g r rec refl; back = λ r rec of. still_at g g r rec refl })

-- equal files have the same rows
pub same_files : (v v' : RowsView) → v'.files ≡ v.files → (f : NodeId) → has_rows v' f ≡ has_rows v f
same_files v v' files f = ap (list_any (same_node f)) files

module _ (v v' : RowsView) (g g' : Graph) (holds : NamesHold v g) where
  -- no row gets a node
  none_new : ((q : Row) (r : NodeId) → name_of v' q ≡ Some r → (name_of v q ≡ Some r) × IsStill g g' r × (has_rows v' q.file ≡ true))
      → ((q : Row) (r : NodeId) → name_of v q ≡ Some r → is_record_shape (shape_of g' r) ≡ true → name_of v' q ≡ Some r)
      → ((r : NodeId) → is_record_shape (shape_of g' r) ≡ true → has_rows v' (first_parent g' r) ≡ true
      → IsStill g g' r × (has_rows v (first_parent g' r) ≡ true)) → ChangesNames v v' g g'
  none_new names left records = record {
    names = λ q r e. let was = names q r e in inl (was.0, was.1);
    alone = λ p q r a b new. clash (record_live g r (names p r a).1.was) new;
    within = λ q r e. (names q r e).2;
    left = left;
    records = λ r rec of. let it = records r rec of in inl (it.0, ap (has_rows v) (sym it.0.file) ∙ it.1);
  }

  -- each row has the same node, and the records of files of rows stay
  pub names_same : ((q : Row) → name_of v' q ≡ name_of v q) → SameRecords (has_rows v) g g'
      → ((q : Row) (r : NodeId) → name_of v q ≡ Some r → has_rows v' q.file ≡ true)
      → ((r : NodeId) → is_record_shape (shape_of g' r) ≡ true → has_rows v' (first_parent g' r) ≡ true → has_rows v (first_parent g' r) ≡ true)
      → ChangesNames v v' g g'
  names_same same stay within none =
      none_new
      (λ q r e. let was = sym (same q) ∙ e in let stands = holds.well.stands q r was in
      (was, stay.on r stands.0 (ap (has_rows v) stands.1 ∙ holds.within q r was), within q r was))
      (λ q r e rec. same q ∙ e) (λ r rec of. let was = none r rec of in (stay.back r rec was, was))

  module _ (files : v'.files ≡ v.files) where
    -- and the files of rows are the same
    pub names_stay : ((q : Row) → name_of v' q ≡ name_of v q) → SameRecords (has_rows v) g g' → ChangesNames v v' g g'
    names_stay same stay =
        names_same same stay (λ q r e. same_files v v' files q.file ∙ holds.within q r e)
        (λ r rec of. sym (same_files v v' files (first_parent g' r)) ∙ of)

    -- fewer rows have nodes, and there are fewer records
    pub names_fewer : ((r : NodeId) → is_record_shape (shape_of g' r) ≡ true → IsStill g g' r)
        → ((q : Row) (r : NodeId) → name_of v' q ≡ Some r → (name_of v q ≡ Some r) × (is_record_shape (shape_of g' r) ≡ true))
        → ((q : Row) (r : NodeId) → name_of v q ≡ Some r → is_record_shape (shape_of g' r) ≡ true → name_of v' q ≡ Some r) → ChangesNames v v' g g'
    names_fewer still names left =
        none_new (λ q r e. let was = names q r e in (was.0, still r was.1, same_files v v' files q.file ∙ holds.within q r was.0)) left
        (λ r rec of. (still r rec, sym (same_files v v' files (first_parent g' r)) ∙ of))

-- one record is new, of this file, and all nodes remain what they are
pub record Comes (g g' : Graph) (n f : NodeId) : Type 0 where
  pub new : IsNew g g' f n
  pub kinds : KeepsKinds g g'
  pub live : (k : NodeId) → is_live g k ≡ true → is_live g' k ≡ true
  pub alone : (k : NodeId) → is_live g k ≡ false → is_live g' k ≡ true → k ≡ n

-- a row gets a new record, and then the one that it had is removed
module _ (v v' : RowsView) (g g₂ g' : Graph) (holds : NamesHold v g) (row : Row) (n : NodeId) (of_rows : has_rows v row.file ≡ true)
    (files : v'.files ≡ v.files) (renames : Renames v.names v'.names row (Some n)) (comes : Comes g g₂ n row.file)
    (same : (k : NodeId) → is_live g' k ≡ true → node_at g' k ≡ node_at g₂ k)
    (kept : (k : NodeId) → is_live g₂ k ≡ true → (name_of v row ≡ Some k → ⊥) → is_live g' k ≡ true)
    (gone : (k : NodeId) → name_of v row ≡ Some k → is_live g' k ≡ false) where
  here : (q : Row) → same_row row q ≡ true → name_of v' q ≡ Some n
  here q is = renames q ∙ ap (λ b. cond b (Some n) (name_of v q)) is

  elsewhere : (q : Row) → same_row row q ≡ false → name_of v' q ≡ name_of v q
  elsewhere q apart = renames q ∙ ap (λ b. cond b (Some n) (name_of v q)) apart

  -- the records of other rows remain
  still : (k : NodeId) → is_record_shape (shape_of g k) ≡ true → (name_of v row ≡ Some k → ⊥) → IsStill g g' k
  still k rec other =
      let live = record_live g k rec in
      let there = comes.live k live in
      let at = same k (kept k there other) in
      let kind = comes.kinds k live there in
      record {
        was = rec;
        rec = ap (λ o. is_record_shape (shape_in o)) at ∙ kind.record_same ∙ rec;
        file = ap (λ o. first_in (parents_in o)) at ∙ kind.file rec;
      }

  other_still : (q : Row) (k : NodeId) → same_row row q ≡ false → name_of v' q ≡ Some k → (name_of v q ≡ Some k) × IsStill g g' k
  other_still q k apart e =
      let was = sym (elsewhere q apart) ∙ e in
      (was, still k (holds.well.stands q k was).0 (λ own. clash (ap (same_row row) (holds.well.apart q row k was own) ∙ same_row-refl row) apart))

  is_new : IsNew g g' row.file n
  is_new =
      let at = same n (kept n (record_live g₂ n comes.new.rec) (λ e. clash (record_live g n (holds.well.stands row n e).0) comes.new.new)) in
      record {
        new = comes.new.new;
        rec = ap (λ o. is_record_shape (shape_in o)) at ∙ comes.new.rec;
        file = ap (λ o. first_in (parents_in o)) at ∙ comes.new.file;
      }

  pub row_placed : ChangesNames v v' g g'
  row_placed = record {
    names = λ q k e. split (same_row row q)
        (λ is. inr (is_new_of q k (same_row-equal row q is) (some_is (sym (here q is) ∙ e))))
        (λ apart. inl (other_still q k apart e));
    alone = λ p q k a b new. sym (only p k a new) ∙ only q k b new;
    within = λ q k e. same_files v v' files q.file ∙ split (same_row row q)
        (λ is. ap (λ (x : Row). has_rows v x.file) (sym (same_row-equal row q is)) ∙ of_rows)
        (λ apart. holds.within q k (other_still q k apart e).0);
    left = λ q k e rec. split (same_row row q)
        (λ is. clash (record_live g' k rec) (gone k (ap (name_of v) (same_row-equal row q is) ∙ e)))
        (λ apart. elsewhere q apart ∙ e);
    records = λ k rec of. split (is_live g k)
        (λ live. inl (was_record k rec live, ap (has_rows v) (sym (was_record k rec live).file) ∙ sym (same_files v v' files (first_parent g' k)) ∙ of))
        (λ dead. inr (row, here row (same_row-refl row) ∙ ap Some (sym (comes.alone k dead (there k rec)))));
  }
    where
      is_new_of : (q : Row) (k : NodeId) → row ≡ q → n ≡ k → IsNew g g' q.file k
      is_new_of q k is at = subst (λ (x : Row). IsNew g g' x.file k) is (subst (IsNew g g' row.file) at is_new)

      only : (q : Row) (k : NodeId) → name_of v' q ≡ Some k → is_live g k ≡ false → row ≡ q
      only q k e new = split (same_row row q) (same_row-equal row q) (λ apart. clash (record_live g k (other_still q k apart e).1.was) new)

      there : (k : NodeId) → is_record_shape (shape_of g' k) ≡ true → is_live g₂ k ≡ true
      there k rec = let live = record_live g' k rec in ap is_some (sym (same k live)) ∙ live

      was_record : (k : NodeId) → is_record_shape (shape_of g' k) ≡ true → is_live g k ≡ true → IsStill g g' k
      was_record k rec live =
          let at = same k (record_live g' k rec) in
          let before = sym (comes.kinds k live (there k rec)).record_same ∙ sym (ap (λ o. is_record_shape (shape_in o)) at) ∙ rec in
          still k before (λ e. clash (record_live g' k rec) (gone k e))
