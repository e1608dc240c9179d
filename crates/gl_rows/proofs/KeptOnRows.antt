-- The effective modes on rows that a transaction keeps, by all its locks: it keeps its locks and the effective modes on nodes that remain, and a node that
-- lives before and after has the same row. For the laws of rows.
use Rattle.std.specs.Prelude.{◌≡◌, ◌||◌, ℕ, Bool, true, false, not, List, Option, Some, None}
use Rattle.std.proofs.Common.{refl, sym, ap, ap₂, ◌∙◌, rules}
use Rattle.std.proofs.Math.Bool.{or-false}
use Rattle.gl_modes.proofs.Words.{cases_of, clash, none_some, not_true, some_is, split}
use Rattle.gl_modes.specs.declared.mode.Mode.{Mode}
use Rattle.gl_modes.specs.declared.mode.Mode.TheVariants.{NL}
use Rattle.gl_modes.specs.declared.node.NodeId.{NodeId}
use Rattle.gl_modes.specs.Modes.{is_at_least, same_mode}
use Rattle.gl_graph.specs.Graph.{is_live}
use Rattle.gl_model.specs.declared.answers.Effect.{Effect}
use Rattle.gl_model.specs.declared.answers.Effect.TheVariants as effect
use Rattle.gl_model.specs.declared.txn.TxnId.{TxnId}
use Rattle.gl_model.specs.Lawful.{IsLawful, effective, is_at_least_effect}
use Rattle.gl_model.specs.State.{State}
use Rattle.gl_steps.proofs.Keeps.{effect_refl}
use Rattle.gl_steps.proofs.OthersKeep.{KeepsOver}
use Rattle.gl_catalog.specs.Manager.{state_of}
use Rattle.gl_rows.specs.declared.row.Row.{Row}
use Rattle.gl_rows.specs.Promises.{IsOwnInBoth, IsRegistry, KeepsOnRows, OwnKeys, effect_of, effect_on, of_node, reads_row, row_effect, writes_row}
use Rattle.gl_rows.specs.Rows.{RegistryView, name_of}
use Rattle.gl_rows.proofs.KeptRows.{row_more, row_same}
use Rattle.gl_rows.proofs.Ways.{RowsFollow}
use Rattle.gl_rows.proofs.NameChanges.{ChangesNames, changed_hold, record_live, was_named}
use Rattle.gl_rows.proofs.NodeRows.{node_effect}
use Rattle.gl_rows.proofs.RowEffects.{as_great, reads_at, writes_at}

-- an effective mode that is at least another is what both give together
both_make : (e : Effect) (w r : Bool) → is_at_least_effect e (effect_of w r) ≡ true
    → effect_of (w || is_at_least_effect e effect.X) (r || is_at_least_effect e effect.S) ≡ e
both_make e w r h = search rules

-- a mode that is NL or less is NL
none_less : (a b : Mode) → is_at_least a b ≡ true → a ≡ NL → b ≡ NL
none_less a b h e = by b (sym (ap (λ m. is_at_least m b) e) ∙ h)
  where
    by : (b : Mode) → is_at_least NL b ≡ true → b ≡ NL
    by b h = search rules

-- a node that does not live is not held
held_dead : (s : State) → IsLawful s → (t : ℕ) (n : NodeId) → is_live s.graph n ≡ false → s.held t n ≡ NL
held_dead s law t n dead = by (s.held t n) refl
  where
    none_is : (m : Mode) → not (same_mode m NL) ≡ false → m ≡ NL
    none_is m h = search rules

    by : (m : Mode) → s.held t n ≡ m → m ≡ NL
    by m e = none_is m (not_true (not (same_mode m NL)) (λ holds. clash (law.grants_live t n (ap (λ x. not (same_mode x NL)) e ∙ holds)).1 dead))

-- the effective mode on a row of one registry
module _ (v : RegistryView) (is : IsRegistry v) (t : ℕ) (row : Row) (keys : List ℕ) (own : OwnKeys v row keys) where
  abbrev st : State
  st = state_of v.manager

  -- the same by its node, if it has one
  abbrev effect_by : Option NodeId → Effect
  effect_by o = effect_of (writes_row st t row.file keys || of_node (writes_at st t) o) (reads_row st t row.file keys || of_node (reads_at st t) o)

  -- for a row without a node it is that by locks further up
  on_none : name_of v.rows row ≡ None → effect_on v t row keys ≡ row_effect st t row.file keys
  on_none e =
      ap effect_by e ∙ ap (λ w. effect_of w (reads_row st t row.file keys || false)) (or-false (writes_row st t row.file keys))
      ∙ ap (effect_of (writes_row st t row.file keys)) (or-false (reads_row st t row.file keys))

  module _ (n : NodeId) (named : name_of v.rows row ≡ Some n) where
    -- for a row with a node it is that on the node
    on_node : effect_on v t row keys ≡ effective st t n
    on_node =
        ap effect_by named ∙ both_make (effective st t n) (writes_row st t row.file keys) (reads_row st t row.file keys)
        (node_effect v is.law is.names row keys own n named t).above

  -- if nothing is held on its node, it is that by locks further up, and never less
  on_row : ((n : NodeId) → name_of v.rows row ≡ Some n → st.held t n ≡ NL) → effect_on v t row keys ≡ row_effect st t row.file keys
  on_row free = cases_of (name_of v.rows row) on_none (λ n e. on_node n e ∙ (node_effect v is.law is.names row keys own n e t).alone (free n e))

  above_row : is_at_least_effect (effect_on v t row keys) (row_effect st t row.file keys) ≡ true
  above_row = cases_of (name_of v.rows row)
      (λ e. ap (λ x. is_at_least_effect x (row_effect st t row.file keys)) (on_none e) ∙ effect_refl (row_effect st t row.file keys))
      (λ n e. ap (λ x. is_at_least_effect x (row_effect st t row.file keys)) (on_node n e) ∙ (node_effect v is.law is.names row keys own n e t).above)

-- two registries: t keeps its locks, and its effective modes on nodes that remain and on the parents of a row, and a node that lives before and after its row
module _ (v v' : RegistryView) (t : TxnId) (granted : Bool) (is : IsRegistry v) (law' : IsLawful (state_of v'.manager))
    (over : KeepsOver (state_of v.manager) (state_of v'.manager) t granted)
    (follow : (f : NodeId) → RowsFollow (state_of v.manager) (state_of v'.manager) t.slot granted f)
    (names : ChangesNames v.rows v'.rows (state_of v.manager).graph (state_of v'.manager).graph) where
  abbrev s : State
  s = state_of v.manager

  abbrev s' : State
  s' = state_of v'.manager

  is' : IsRegistry v'
  is' = record { law = law'; names = changed_hold v.rows v'.rows s.graph s'.graph names is.names }

  -- a node that lived before had the same row, and one that remains has
  was_row : (row : Row) (n : NodeId) → name_of v'.rows row ≡ Some n → is_live s.graph n ≡ true → name_of v.rows row ≡ Some n
  was_row row n e live = was_named v.rows v'.rows s.graph s'.graph names row n e live

  still_row : (row : Row) (n : NodeId) → name_of v.rows row ≡ Some n → is_live s'.graph n ≡ true → name_of v'.rows row ≡ Some n
  still_row row n e live =
      let rec = (is.names.well.stands row n e).0 in
      names.left row n e ((over.kinds n (record_live s.graph n rec) live).record_same ∙ rec)

  module _ (row : Row) (keys : List ℕ) (own : IsOwnInBoth v v' row keys) where
    abbrev on_v : Effect
    on_v = effect_on v t.slot row keys

    abbrev on_v' : Effect
    on_v' = effect_on v' t.slot row keys

    abbrev by_s : Effect
    by_s = row_effect s t.slot row.file keys

    abbrev by_s' : Effect
    by_s' = row_effect s' t.slot row.file keys

    -- the row's node lives
    lives_before : (n : NodeId) → name_of v.rows row ≡ Some n → is_live s.graph n ≡ true
    lives_before n e = record_live s.graph n (is.names.well.stands row n e).0

    lives_behind : (n : NodeId) → name_of v'.rows row ≡ Some n → is_live s'.graph n ≡ true
    lives_behind n e = record_live s'.graph n (is'.names.well.stands row n e).0

    -- the node that the row had is removed, and the one that it has is new
    abbrev Went : Type 0
    Went = (n : NodeId) → name_of v.rows row ≡ Some n → is_live s'.graph n ≡ false

    abbrev Came : Type 0
    Came = (n : NodeId) → name_of v'.rows row ≡ Some n → is_live s.graph n ≡ false

    -- so it is, or the row has one node in both
    found : {C : Type 0} → ((n : NodeId) → name_of v.rows row ≡ Some n → name_of v'.rows row ≡ Some n → C) → (Went → Came → C) → C
    found stands changes = cases_of (name_of v.rows row)
        (λ e. changes (λ n f. absurd (none_some (sym e ∙ f))) (λ n f. not_true (is_live s.graph n) (λ live. none_some (sym e ∙ was_row row n f live))))
        (λ n e. split (is_live s'.graph n) (λ live. stands n e (still_row row n e live))
        (λ dead. changes (λ k f. ap (is_live s'.graph) (some_is (sym f ∙ e)) ∙ dead)
        (λ k f. not_true (is_live s.graph k)
        (λ live. clash (lives_behind k f) (ap (is_live s'.graph) (some_is (sym (was_row row k f live) ∙ e)) ∙ dead)))))

    before_row : Went → on_v ≡ by_s
    before_row went = on_row v is t.slot row keys own.own
        (λ n e. none_less (s'.held t.slot n) (s.held t.slot n) (over.held_more n) (held_dead s' law' t.slot n (went n e)))

    same_on : granted ≡ false → on_v' ≡ on_v
    same_on quiet = found
        (λ n e e'. on_node v' is' t.slot row keys own.still_own n e' ∙ over.same quiet n (lives_before n e) (lives_behind n e')
        ∙ sym (on_node v is t.slot row keys own.own n e))
        (λ went came. on_row v' is' t.slot row keys own.still_own (λ n e. over.held_same quiet n ∙ held_dead s is.law t.slot n (came n e))
        ∙ row_same s s' t.slot granted row.file (follow row.file) keys own.rows quiet ∙ sym (before_row went))

    more_on : is_at_least_effect on_v' on_v ≡ true
    more_on = found
        (λ n e e'. ap₂ is_at_least_effect (on_node v' is' t.slot row keys own.still_own n e') (on_node v is t.slot row keys own.own n e)
        ∙ over.greater n (lives_before n e) (lives_behind n e'))
        (λ went came. as_great on_v' by_s' on_v (above_row v' is' t.slot row keys own.still_own)
        (ap (is_at_least_effect by_s') (before_row went) ∙ row_more s s' t.slot granted row.file (follow row.file) keys own.rows))

  pub keeps_on_rows : KeepsOnRows v v' t granted
  keeps_on_rows = record { same = λ quiet row keys own. same_on row keys own quiet; greater = more_on }
