-- The lines of a script: which bytes are which command or listing. Each command and listing has fields; a line means it if it is split into them.
use Rattle.std.specs.Prelude.{◌≡◌, ◌≢◌, ◌==◌, ℕ, ◌<◌, ◌≤◌, ◌^◌, ◌⊎◌, Bool, true, List, [], ◌∷◌, ◌++◌, length, map, slice_index, All, codes, decimal}
use Rattle.std.specs.List.{slice_split}
use Rattle.gl_modes.specs.declared.mode.Mode.{Mode}
use Rattle.gl_modes.specs.Modes.{mode_text}
use Rattle.gl_script.specs.declared.form.Language.{Language}
use Rattle.gl_script.specs.declared.verb.LockVerb.{LockVerb}
use Rattle.gl_script.specs.declared.verb.NumberVerb.{NumberVerb}
use Rattle.gl_script.specs.declared.verb.RemovalVerb.{RemovalVerb}
use Rattle.gl_script.specs.declared.verb.RequestVerb.{RequestVerb}
use Rattle.gl_script.specs.declared.verb.TxnVerb.{TxnVerb}
use Rattle.gl_script.specs.declared.verb.Verb.{Verb}
use Rattle.gl_script.specs.declared.verb.Verb.TheVariants as verb
use Rattle.gl_script.specs.Words.{HasVerb, word}

-- bytes
abbrev pub Text : Type 0
Text = List ℕ

-- a node by its declared name, or as an interval of a declared index
pub data Node : Type 0 where
  Plain : (name : Text) → Node
  Interval : (index : Text) → (place : ℕ) → Node

-- the commands, by what follows the verb; the name that a line declares, and those of a transaction, a record, a file, an index and a dropped node, are plain
pub data Command : Type 0 where
  Inner : (name : Text) → (parents : List Node) → Command
  File : (name : Text) → (parents : List Node) → Command
  Index : (name : Text) → (parents : List Node) → (file : Text) → (bounds : List ℕ) → Command
  IndexBy : (txn : Text) → (name : Text) → (parents : List Node) → (file : Text) → (bounds : List ℕ) → Command
  IndexOver : (txn : Text) → (name : Text) → (parents : List Node) → (file : Text) → (bounds : List ℕ) → (records : List Node) → (keys : List ℕ) → Command
  Begin : (txn : Text) → Command
  BeginAgain : (txn : Text) → (since : ℕ) → Command
  Join : (txn : Text) → (slot : ℕ) → (since : ℕ) → Command
  Insert : (txn : Text) → (name : Text) → (file : Text) → (keys : List ℕ) → Command
  Adopt : (name : Text) → (file : Text) → (keys : List ℕ) → Command
  Forget : (rec : Text) → Command
  Rekey : (txn : Text) → (rec : Text) → (index : Text) → (key : ℕ) → Command
  Move : (txn : Text) → (node : Node) → (parents : List Node) → Command
  Split : (txn : Text) → (node : Node) → (at : ℕ) → Command
  Merge : (txn : Text) → (node : Node) → Command
  Group : (node : Node) → Command
  OfTxn : (verb : TxnVerb) → (txn : Text) → Command
  OfLock : (verb : LockVerb) → (txn : Text) → (node : Node) → Command
  OfRequest : (verb : RequestVerb) → (txn : Text) → (mode : Mode) → (node : Node) → Command
  OfRemoval : (verb : RemovalVerb) → (txn : Text) → (node : Text) → Command
  OfNumber : (verb : NumberVerb) → (txn : Text) → (number : ℕ) → Command

-- the listings
pub data Listing : Type 0 where
  Holders : (node : Node) → Listing
  Queue : (node : Node) → Listing
  Locks : (txn : Text) → Listing
  Waits : (txn : Text) → Listing
  Txns : Listing
  Cycle : Listing

-- the meanings of a line
pub data Line : Type 0 where
  Orders : (command : Command) → Line
  Lists : (listing : Listing) → Line

-- one of a to z
abbrev pub IsLetter : ℕ → Type 0
IsLetter b = (97 ≤ b) × (b ≤ 122)

-- a letter, a digit or `_`
abbrev pub IsNameByte : ℕ → Type 0
IsNameByte b = IsLetter b ⊎ ((48 ≤ b) × (b ≤ 57)) ⊎ (b ≡ 95)

-- 1 to 16 such bytes, the first a letter; `on` and `at` are no names
pub record IsName (name : Text) : Type 0 where
  pub some : 0 < length name
  pub short : length name ≤ 16
  pub first : IsLetter (slice_index name 0)
  pub rest : All IsNameByte name
  pub not_on : name ≢ codes "on"
  pub not_at : name ≢ codes "at"

-- the values of a `u64`
abbrev pub IsNumber : ℕ → Type 0
IsNumber n = n < 2 ^ 64

-- the names and numbers of a node are valid
abbrev pub IsNode : Node → Type 0
IsNode (Plain n) = IsName n
IsNode (Interval n k) = IsName n × IsNumber k

-- one or more nodes
abbrev pub AreSomeNodes : List Node → Type 0
AreSomeNodes ps = All IsNode ps × (0 < length ps)

-- the names and numbers of a command are valid; only an inner node, made or moved, may have no parents
abbrev pub IsCommand : Command → Type 0
IsCommand (Inner n ps) = IsName n × All IsNode ps
IsCommand (File n ps) = IsName n × AreSomeNodes ps
IsCommand (Index n ps f bs) = IsName n × AreSomeNodes ps × IsName f × All IsNumber bs
IsCommand (IndexBy t n ps f bs) = IsName t × IsName n × AreSomeNodes ps × IsName f × All IsNumber bs
IsCommand (IndexOver t n ps f bs rs ks) = IsName t × IsName n × AreSomeNodes ps × IsName f × All IsNumber bs × All IsNode rs × All IsNumber ks
IsCommand (Begin t) = IsName t
IsCommand (BeginAgain t k) = IsName t × IsNumber k
IsCommand (Join t n k) = IsName t × IsNumber n × IsNumber k
IsCommand (Insert t r f ks) = IsName t × IsName r × IsName f × All IsNumber ks
IsCommand (Adopt r f ks) = IsName r × IsName f × All IsNumber ks
IsCommand (Forget r) = IsName r
IsCommand (Rekey t r i k) = IsName t × IsName r × IsName i × IsNumber k
IsCommand (Move t n ps) = IsName t × IsNode n × All IsNode ps
IsCommand (Split t n k) = IsName t × IsNode n × IsNumber k
IsCommand (Merge t n) = IsName t × IsNode n
IsCommand (Group n) = IsNode n
IsCommand (OfTxn v t) = IsName t
IsCommand (OfLock v t n) = IsName t × IsNode n
IsCommand (OfRequest v t m n) = IsName t × IsNode n
IsCommand (OfRemoval v t n) = IsName t × IsName n
IsCommand (OfNumber v t k) = IsName t × IsNumber k

-- the names and numbers of a listing are valid
abbrev pub IsListing : Listing → Type 0
IsListing (Holders n) = IsNode n
IsListing (Queue n) = IsNode n
IsListing (Locks t) = IsName t
IsListing (Waits t) = IsName t
IsListing Txns = Unit
IsListing Cycle = Unit

-- the verb of a command
abbrev pub verb_of : Command → Verb
verb_of (Inner n ps) = verb.Inner
verb_of (File n ps) = verb.File
verb_of (Index n ps f bs) = verb.Index
verb_of (IndexBy t n ps f bs) = verb.Index
verb_of (IndexOver t n ps f bs rs ks) = verb.Index
verb_of (Begin t) = verb.Begin
verb_of (BeginAgain t k) = verb.Begin
verb_of (Join t n k) = verb.Begin
verb_of (Insert t r f ks) = verb.Insert
verb_of (Adopt r f ks) = verb.Adopt
verb_of (Forget r) = verb.Forget
verb_of (Rekey t r i k) = verb.Rekey
verb_of (Move t n ps) = verb.Move
verb_of (Split t n k) = verb.Split
verb_of (Merge t n) = verb.Merge
verb_of (Group n) = verb.Group
verb_of (OfTxn v t) = verb.OfTxn v
verb_of (OfLock v t n) = verb.OfLock v
verb_of (OfRequest v t m n) = verb.OfRequest v
verb_of (OfRemoval v t n) = verb.OfRemoval v
verb_of (OfNumber v t k) = verb.OfNumber v

-- the language has the command: its verb, and for an index by a transaction schema changes, for work begun again or in a slot a trace
abbrev pub IsOfLanguage : Language → Command → Type 0
IsOfLanguage l (IndexBy t n ps f bs) = l.schema ≡ true
IsOfLanguage l (IndexOver t n ps f bs rs ks) = l.schema ≡ true
IsOfLanguage l (BeginAgain t k) = l.trace ≡ true
IsOfLanguage l (Join t n k) = l.trace ≡ true
IsOfLanguage l c = HasVerb l (verb_of c)

-- the text of a node: its name, or the index, a dot and the interval's number
abbrev pub node_text : Node → Text
node_text (Plain n) = n
node_text (Interval n k) = n ++ 46 ∷ decimal k

-- a colon and the parents, if there are any
abbrev pub parents : List Node → List Text
parents [] = []
parents (p ∷ ps) = codes ":" ∷ node_text p ∷ map node_text ps

-- the bounds of an index, and the records of its file with their keys for it, one key for each record in turn
abbrev pub with_records : List ℕ → List Node → List ℕ → List Text
with_records bs rs ks = map decimal bs ++ codes "with" ∷ (map node_text rs ++ codes "at" ∷ map decimal ks)

-- the fields after the verb
abbrev pub parts : Command → List Text
parts (Inner n ps) = n ∷ parents ps
parts (File n ps) = n ∷ parents ps
parts (Index n ps f bs) = n ∷ parents ps ++ codes "on" ∷ f ∷ codes "at" ∷ map decimal bs
parts (IndexBy t n ps f bs) = t ∷ n ∷ parents ps ++ codes "on" ∷ f ∷ codes "at" ∷ map decimal bs
parts (IndexOver t n ps f bs rs ks) = t ∷ n ∷ parents ps ++ codes "on" ∷ f ∷ codes "at" ∷ with_records bs rs ks
parts (Begin t) = t ∷ []
parts (BeginAgain t k) = t ∷ codes "again" ∷ decimal k ∷ []
parts (Join t n k) = t ∷ codes "join" ∷ decimal n ∷ decimal k ∷ []
parts (Insert t r f ks) = t ∷ r ∷ f ∷ map decimal ks
parts (Adopt r f ks) = r ∷ f ∷ map decimal ks
parts (Forget r) = r ∷ []
parts (Rekey t r i k) = t ∷ r ∷ i ∷ decimal k ∷ []
parts (Move t n ps) = t ∷ node_text n ∷ parents ps
parts (Split t n k) = t ∷ node_text n ∷ codes "at" ∷ decimal k ∷ []
parts (Merge t n) = t ∷ node_text n ∷ []
parts (Group n) = node_text n ∷ []
parts (OfTxn v t) = t ∷ []
parts (OfLock v t n) = t ∷ node_text n ∷ []
parts (OfRequest v t m n) = t ∷ mode_text m ∷ node_text n ∷ []
parts (OfRemoval v t n) = t ∷ n ∷ []
parts (OfNumber v t k) = t ∷ decimal k ∷ []

-- the fields of a command's line
abbrev pub fields : Command → List Text
fields c = word (verb_of c) ∷ parts c

-- the fields of a listing's line
abbrev pub listing_fields : Listing → List Text
listing_fields (Holders n) = codes "holders" ∷ node_text n ∷ []
listing_fields (Queue n) = codes "queue" ∷ node_text n ∷ []
listing_fields (Locks t) = codes "locks" ∷ t ∷ []
listing_fields (Waits t) = codes "waits" ∷ t ∷ []
listing_fields Txns = codes "txns" ∷ []
listing_fields Cycle = codes "cycle" ∷ []

-- the command has this verb, and these fields after it
abbrev pub SaysParts : Language → Verb → List Text → Command → Type 0
SaysParts l verb rest command = (verb_of command ≡ verb) × IsCommand command × IsOfLanguage l command × (rest ≡ parts command)

-- the fields are those of the command
abbrev pub SaysFields : Language → List Text → Command → Type 0
SaysFields l all command = IsCommand command × IsOfLanguage l command × (all ≡ fields command)

-- the fields are those of the listing, if there are listings
abbrev pub ListsFields : Bool → List Text → Listing → Type 0
ListsFields listings all listing = IsListing listing × (listings ≡ true) × (all ≡ listing_fields listing)

-- the fields are those of the line
abbrev pub LineFields : Language → List Text → Line → Type 0
LineFields l all (Orders command) = SaysFields l all command
LineFields l all (Lists listing) = ListsFields l.listings all listing

-- the bytes are the line: two fields are separated by exactly one space, and there is none at either end
abbrev pub Says : Language → Text → Line → Type 0
Says l text line = LineFields l (slice_split (λ b. b == 32) text) line

-- the bytes are at most one line
abbrev pub LineSaysOneCommand : Type 0
LineSaysOneCommand = (l : Language) (text : Text) (c d : Line) → Says l text c → Says l text d → c ≡ d
