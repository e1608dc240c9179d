-- The output for a command: the line of its answer, and one line for each notice.
use Rattle.std.specs.Prelude.{ℕ, Bool, List, [], ◌∷◌, ◌++◌, codes, decimal, flat_map, Option, Some, None, is_none, if◌then◌else◌}
use Rattle.std.specs.List.{list_any}
use Rattle.gl_modes.specs.declared.node.NodeId.{NodeId}
use Rattle.gl_modes.specs.declared.refusal.Refusal.{Refusal}
use Rattle.gl_modes.specs.declared.refusal.Refusal.TheVariants as no
use Rattle.gl_modes.specs.Modes.{mode_text}
use Rattle.gl_modes.specs.Refusals.{refusal_name, refusal_number}
use Rattle.gl_graph.specs.Graph.{first_parent, place_of}
use Rattle.gl_model.specs.declared.answers.Effect.{Effect}
use Rattle.gl_model.specs.declared.answers.Effect.TheVariants as effect
use Rattle.gl_model.specs.declared.answers.Notice.{Notice}
use Rattle.gl_model.specs.declared.answers.Notice.TheVariants as notice
use Rattle.gl_model.specs.declared.txn.TxnId.{TxnId}
use Rattle.gl_model.specs.Tellings.{Told}
use Rattle.gl_steps.specs.declared.command.Answer.{Answer}
use Rattle.gl_steps.specs.declared.command.Answer.TheVariants as answer
use Rattle.gl_script.specs.Grammar.{Text, Node, Plain, Interval, Command, Inner, File, Index, IndexBy, IndexOver, Insert, Adopt, Forget, Rekey, Move, Split}
use Rattle.gl_script.specs.Grammar.{Merge, Group, OfTxn, OfLock, OfRequest, OfRemoval, OfNumber, node_text}
use Rattle.gl_interpreter.specs.declared.request.Said.{Said}
use Rattle.gl_interpreter.specs.declared.request.Said.TheVariants as said
use Rattle.gl_interpreter.specs.Script.{Script, Naming, NodeName, TxnName, NextTxn, does_to_names, node_named}

-- a dot, and the place of an interval
abbrev pub place_text : Option ℕ → Text
place_text None = []
place_text (Some k) = 46 ∷ decimal k

-- the name of a node, or for an interval that of its index, a dot and its place
abbrev pub called_at : Script → NodeId → Option ℕ → Text
called_at s n None = s.names.node_name n
called_at s n (Some place) = node_text (Interval (s.names.node_name (first_parent s.locks.graph n)) place)

-- the text of a node
abbrev pub called : Script → NodeId → Text
called s n = called_at s n (place_of s.locks.graph n)

-- the nodes that a line uses, in order, without the one that it declares; a record that an index is made over is not among them
abbrev pub used_nodes : Command → List Node
used_nodes (Inner n ps) = ps
used_nodes (File n ps) = ps
used_nodes (Index n ps f bs) = ps ++ Plain f ∷ []
used_nodes (IndexBy t n ps f bs) = ps ++ Plain f ∷ []
used_nodes (IndexOver t n ps f bs rs ks) = ps ++ Plain f ∷ []
used_nodes (Insert t r f ks) = Plain f ∷ []
used_nodes (Adopt r f ks) = Plain f ∷ []
used_nodes (Forget r) = Plain r ∷ []
used_nodes (Rekey t r i k) = Plain r ∷ Plain i ∷ []
used_nodes (Move t n ps) = n ∷ ps
used_nodes (Split t n k) = n ∷ []
used_nodes (Merge t n) = n ∷ []
used_nodes (Group n) = n ∷ []
used_nodes (OfLock v t n) = n ∷ []
used_nodes (OfRequest v t m n) = n ∷ []
used_nodes (OfRemoval v t n) = Plain n ∷ []
used_nodes c = []

-- the transaction that a line uses
abbrev pub used_txn : Command → Text
used_txn (IndexBy t n ps f bs) = t
used_txn (IndexOver t n ps f bs rs ks) = t
used_txn (Insert t r f ks) = t
used_txn (Rekey t r i k) = t
used_txn (Move t n ps) = t
used_txn (Split t n k) = t
used_txn (Merge t n) = t
used_txn (OfTxn v t) = t
used_txn (OfLock v t n) = t
used_txn (OfRequest v t m n) = t
used_txn (OfRemoval v t n) = t
used_txn (OfNumber v t k) = t
used_txn c = []

-- a space, and the first of these nodes whose name is not in use
abbrev pub first_unused : Script → List Node → Text
first_unused s [] = []
first_unused s (n ∷ ns) = if is_none (node_named s n) then 32 ∷ node_text n else first_unused s ns

-- one of these nodes has a name that is not in use
abbrev pub some_unused : Script → List Node → Bool
some_unused s ns = list_any (λ n. is_none (node_named s n)) ns

-- the name that a line declares
abbrev pub declared_text : Naming → Text
declared_text (NodeName n) = n
declared_text (TxnName t) = t
declared_text (NextTxn t) = t
declared_text n = []

-- a space, and what a refusal names, if anything
abbrev pub who_text : Script → Command → Refusal → Text
who_text s c no.NoSuchNode = first_unused s (used_nodes c)
who_text s c no.NoSuchTxn = 32 ∷ used_txn c
who_text s c no.NameTaken = 32 ∷ declared_text (does_to_names c)
who_text s c (no.NeedParents n) = 32 ∷ called s n
who_text s c (no.HeldChild n) = 32 ∷ called s n
who_text s c (no.Cycle n) = 32 ∷ called s n
who_text s c r = []

-- the line of a refusal
abbrev pub refusal_line : Refusal → Text → Text
refusal_line r who = codes "no " ++ decimal (refusal_number r) ++ 32 ∷ [] ++ refusal_name r ++ who ++ 10 ∷ []

-- the text of an effective mode
abbrev pub effect_text : Effect → Text
effect_text effect.None = codes "none"
effect_text effect.S = codes "S"
effect_text effect.X = codes "X"

-- the line of an answer of the manager
abbrev pub answer_line : Script → Command → Answer → Text
answer_line s c answer.Done = codes "ok\n"
answer_line s c (answer.Node n) = codes "ok\n"
answer_line s c (answer.Begun t) = codes "ok\n"
answer_line s c (answer.Granted m) = codes "ok " ++ mode_text m ++ 10 ∷ []
answer_line s c (answer.Mode m) = codes "ok " ++ mode_text m ++ 10 ∷ []
answer_line s c answer.Waiting = codes "wait\n"
answer_line s c answer.Victim = codes "victim\n"
answer_line s c (answer.Escalated e) = codes "ok " ++ mode_text e.mode ++ codes " released " ++ decimal e.released ++ codes " kept "
    ++ decimal e.kept ++ 10 ∷ []
answer_line s c (answer.Effect e) = codes "ok " ++ effect_text e ++ 10 ∷ []
answer_line s c (answer.Refused r) = refusal_line r (who_text s c r)

-- the line of an answer
abbrev pub said_line : Script → Command → Said → Text
said_line s c (said.Answer a) = answer_line s c a
said_line s c (said.Count k) = codes "ok " ++ decimal k ++ 10 ∷ []

-- the text of a notice
abbrev pub notice_text : Script → Notice → Text
notice_text s (notice.Granted n m) = codes " granted " ++ mode_text m ++ 32 ∷ called s n
notice_text s notice.Victim = codes " victim"
notice_text s notice.Moved = codes " moved"
notice_text s notice.Gone = codes " gone"

-- the line of a notice
abbrev pub told_line : Script → TxnId × Notice → Text
told_line s x = codes "told " ++ s.names.txn_name x.0 ++ notice_text s x.1 ++ 10 ∷ []

-- the whole output for a command, in the state after it
abbrev pub printed : Script → Command → Said → Told → Text
printed s c a told = said_line s c a ++ flat_map (told_line s) told
