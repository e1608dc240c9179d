-- The meaning of the code's values.
use Rattle.std.specs.Prelude.{ℕ, List, map, Option, None, Some}
use Rattle.gl_script.specs.declared.form.Form.{Form}
use Rattle.gl_script.specs.declared.form.Form.TheVariants as form
use Rattle.gl_script.specs.declared.form.Lists.{Lists}
use Rattle.gl_script.specs.declared.line.Line.{Line}
use Rattle.gl_script.specs.declared.line.Line.TheVariants as line
use Rattle.gl_script.specs.declared.listing.Listing.{Listing}
use Rattle.gl_script.specs.declared.listing.Listing.TheVariants as listing
use Rattle.gl_script.specs.declared.reads.Used.{Used}
use Rattle.gl_script.specs.Grammar.{Text, Node, Plain, Interval, Command}
use Rattle.gl_script.specs.Grammar as grammar

-- a node by its name, or an interval by its index and number
abbrev pub node_in : Text → Option ℕ → Node
node_in name None = Plain name
node_in name (Some k) = Interval name k

-- the node of a used name
abbrev pub node_of : Used → Node
node_of used = node_in used.name.items used.interval

-- the nodes of a list
abbrev pub nodes_of : Lists → List Node
nodes_of lists = map node_of lists.nodes.items

-- the records of a list
abbrev pub records_of : Lists → List Node
records_of lists = map node_of lists.records.items

-- the command of a form and its lists
abbrev pub command_of : Form → Lists → Command
command_of (form.Inner n) lists = grammar.Inner n.items (nodes_of lists)
command_of (form.File n) lists = grammar.File n.items (nodes_of lists)
command_of (form.Index n f) lists = grammar.Index n.items (nodes_of lists) f.items lists.numbers.items
command_of (form.IndexBy t n f) lists = grammar.IndexBy t.items n.items (nodes_of lists) f.items lists.numbers.items
command_of (form.IndexOver t n f) lists =
    grammar.IndexOver t.items n.items (nodes_of lists) f.items lists.numbers.items (records_of lists) lists.keys.items
command_of (form.Begin t) lists = grammar.Begin t.items
command_of (form.BeginAgain t k) lists = grammar.BeginAgain t.items k
command_of (form.Join t n k) lists = grammar.Join t.items n k
command_of (form.Insert t r f) lists = grammar.Insert t.items r.items f.items lists.numbers.items
command_of (form.Adopt r f) lists = grammar.Adopt r.items f.items lists.numbers.items
command_of (form.Forget r) lists = grammar.Forget r.items
command_of (form.Rekey t r i k) lists = grammar.Rekey t.items r.items i.items k
command_of (form.Move t n) lists = grammar.Move t.items (node_of n) (nodes_of lists)
command_of (form.Split t n k) lists = grammar.Split t.items (node_of n) k
command_of (form.Merge t n) lists = grammar.Merge t.items (node_of n)
command_of (form.Group n) lists = grammar.Group (node_of n)
command_of (form.OfTxn v t) lists = grammar.OfTxn v t.items
command_of (form.OfLock v t n) lists = grammar.OfLock v t.items (node_of n)
command_of (form.OfRequest v t m n) lists = grammar.OfRequest v t.items m (node_of n)
command_of (form.OfRemoval v t n) lists = grammar.OfRemoval v t.items n.items
command_of (form.OfNumber v t k) lists = grammar.OfNumber v t.items k

-- the listing of a value
abbrev pub listing_of : Listing → grammar.Listing
listing_of (listing.Holders n) = grammar.Holders (node_of n)
listing_of (listing.Queue n) = grammar.Queue (node_of n)
listing_of (listing.Locks t) = grammar.Locks t.items
listing_of (listing.Waits t) = grammar.Waits t.items
listing_of listing.Txns = grammar.Txns
listing_of listing.Cycle = grammar.Cycle

-- the line of a value and its lists
abbrev pub line_of : Line → Lists → grammar.Line
line_of (line.Order f) lists = grammar.Orders (command_of f lists)
line_of (line.List l) lists = grammar.Lists (listing_of l)
