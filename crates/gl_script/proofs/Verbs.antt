-- The first field of a command's line is the word of its verb, and that of a listing's line the word of its topic.
use Rattle.std.proofs.Common.{◌≡◌, ◌≢◌, List, ◌∷◌, sym, ◌∙◌, rules}
use Rattle.gl_script.specs.declared.form.Language.{Language}
use Rattle.gl_script.specs.declared.topic.Topic.{Topic}
use Rattle.gl_script.specs.declared.topic.Topic.TheVariants as topic
use Rattle.gl_script.specs.declared.verb.Verb.{Verb}
use Rattle.gl_script.specs.Grammar.{Text, Command, Listing, Line, LineFields, SaysParts, fields, listing_fields, parts, verb_of}
use Rattle.gl_script.specs.Grammar as grammar
use Rattle.gl_script.specs.Words.{word, topic_word}

-- the topic at the beginning of a listing's line
pub first_topic : (f : Text) (rest : List Text) (l : Listing) → f ∷ rest ≡ listing_fields l → (t : Topic) × (f ≡ topic_word t)
first_topic g rest (grammar.Holders n) e = (topic.Holders, cc)
first_topic g rest (grammar.Queue n) e = (topic.Queue, cc)
first_topic g rest (grammar.Locks t) e = (topic.Locks, cc)
first_topic g rest (grammar.Waits t) e = (topic.Waits, cc)
first_topic g rest grammar.Txns e = (topic.Txns, cc)
first_topic g rest grammar.Cycle e = (topic.Cycle, cc)

-- no two verbs have one word
pub one_verb : (v w : Verb) → word v ≡ word w → v ≡ w
one_verb v w e = search rules

-- no verb has the word of a topic
pub verb_no_topic : (v : Verb) (t : Topic) → word v ≢ topic_word t
verb_no_topic v t e = search rules

-- two lines of one command have one verb and the same fields after it
pub same_parts : (f : Text) (rest : List Text) (c : Command) → f ∷ rest ≡ fields c → (f ≡ word (verb_of c)) × (rest ≡ parts c)
same_parts f rest c e = (cc, cc)

-- no line begins with a first field that is neither a verb nor a topic
pub no_line : (g : Language) (all : List Text) (f : Text) (rest : List Text) → all ≡ f ∷ rest
    → ((w : Verb) → f ≢ word w) → ((t : Topic) → f ≢ topic_word t) → (l : Line) → LineFields g all l → ⊥
no_line g all f rest e no_verb no_topic (grammar.Orders c) says = no_verb (verb_of c) (same_parts f rest c (sym e ∙ says.2)).0
no_line g all f rest e no_verb no_topic (grammar.Lists l) says = let named = first_topic f rest l (sym e ∙ says.2) in no_topic named.0 named.1

-- after a verb there is no line if there is no command of the verb
pub no_command : (g : Language) (all : List Text) (f : Text) (rest : List Text) (v : Verb) → all ≡ f ∷ rest → f ≡ word v
    → ((c : Command) → SaysParts g v rest c → ⊥) → (l : Line) → LineFields g all l → ⊥
no_command g all f rest v e is none (grammar.Orders c) says =
    let split = same_parts f rest c (sym e ∙ says.2) in none c (one_verb (verb_of c) v (sym split.0 ∙ is), says.0, says.1, split.1)
no_command g all f rest v e is none (grammar.Lists l) says =
    let named = first_topic f rest l (sym e ∙ says.2) in verb_no_topic v named.0 (sym is ∙ named.1)
