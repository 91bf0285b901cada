-- What a reader answers, and the definition's reading beside it.
use Rattle.std.specs.Prelude.{◌≡◌, ℕ, ◌+◌, ◌<◌, ◌≤◌, Bool, true, if◌then◌else◌, List, [], ◌∷◌, map, length, drop, Option, Some, None, Result, Ok, Err}
use Rattle.std.specs.declared.alloc.AllocError.{AllocError}
use Rattle.dc_syntax.specs.declared.mark.Mark.TheVariants.{Comma, RightBrace}
use Rattle.dc_syntax.specs.declared.keyword.Keyword.{Keyword}
use Rattle.dc_syntax.specs.Tokens.{Token, Word, Marked}
use Rattle.dc_syntax.specs.Names.{Names}
use Rattle.dc_syntax.specs.Trees as trees
use Rattle.dc_syntax.specs.Trees.{Tree, height, has_type, has_body, tag_height}
use Rattle.dc_syntax.specs.Reading as reading
use Rattle.dc_syntax.specs.Reading.{Out, Nothing, Found, Reads, Upto, EnumeratorOf, next, eat, begins, found, qualified, members, parameter, declarator_named}
use Rattle.dc_syntax.specs.View.{raw_view, tag_view, specs_tree}
use Rattle.dc_syntax.specs.WordView.{word_view}
use Rattle.dc_syntax.specs.declared.token.Word as code
use Rattle.dc_syntax.specs.declared.raw.Tag.{Tag}
use Rattle.dc_read_expr.specs.declared.read.Read.{Read}
use Rattle.dc_read_expr.specs.declared.read.Turn.{Turn}
use Rattle.dc_read_expr.specs.declared.read.Turn.TheVariants.{More, Done}
use Rattle.dc_read_expr.specs.declared.read.Kind.{Kind}
use Rattle.dc_read_expr.specs.declared.read.Kind.TheVariants as kind
use Rattle.dc_read_expr.specs.declared.lists.ReadItems.{ReadItems}
use Rattle.dc_read_expr.specs.declared.lists.Item.{Item}
use Rattle.dc_read_expr.specs.declared.lists.Item.TheVariants as item
use Rattle.dc_read_expr.specs.declared.types.ReadSpecs.{ReadSpecs}
use Rattle.dc_read_expr.specs.declared.declarators.ReadQualifiers.{ReadQualifiers}

abbrev pub kind_view : Kind → reading.Kind
kind_view (kind.Upto k) = reading.Upto k
kind_view kind.Member = reading.MemberOf
kind_view kind.Enumerator = reading.EnumeratorOf
kind_view kind.Declarator = reading.DeclaratorOf

-- what was read, with its height and the place behind it
pub record IsReading (tokens : List Token) (from limit : ℕ) (r : Read) (out : Out Tree) : Type 0 where
  pub found : out ≡ Found (raw_view r.tree) (drop r.at tokens)
  pub high : r.height ≡ height (raw_view r.tree)
  pub short : r.height ≤ limit
  pub after : from < r.at
  pub within : r.at ≤ length tokens

-- but for want of memory, what the definition reads
abbrev pub Reading : List Token → ℕ → ℕ → Result (Option Read) AllocError → Out Tree → Type 0
Reading tokens from limit (Ok (Some r)) out = IsReading tokens from limit r out
Reading tokens from limit (Ok None) out = out ≡ Nothing
Reading tokens from limit (Err e) out = Unit {0}

-- a declarator may have no token
pub record IsLooseReading (tokens : List Token) (from limit : ℕ) (r : Read) (out : Out Tree) : Type 0 where
  pub found : out ≡ Found (raw_view r.tree) (drop r.at tokens)
  pub high : r.height ≡ height (raw_view r.tree)
  pub short : r.height ≤ limit
  pub after : from ≤ r.at
  pub within : r.at ≤ length tokens

abbrev pub LooselyReading : List Token → ℕ → ℕ → Result (Option Read) AllocError → Out Tree → Type 0
LooselyReading tokens from limit (Ok (Some r)) out = IsLooseReading tokens from limit r out
LooselyReading tokens from limit (Ok None) out = out ≡ Nothing
LooselyReading tokens from limit (Err e) out = Unit {0}

abbrev pub ReadingOf : Kind → List Token → ℕ → ℕ → Result (Option Read) AllocError → Out Tree → Type 0
ReadingOf (kind.Upto k) tokens from limit r out = Reading tokens from limit r out
ReadingOf kind.Member tokens from limit r out = Reading tokens from limit r out
ReadingOf kind.Enumerator tokens from limit r out = Reading tokens from limit r out
ReadingOf kind.Declarator tokens from limit r out = LooselyReading tokens from limit r out

-- what was read of a list, as one tree
pub record IsListing (tokens : List Token) (from limit : ℕ) (tree : List Tree → Tree) (r : ReadItems) (out : Out Tree) : Type 0 where
  pub found : out ≡ Found (tree (map raw_view r.items)) (drop r.at tokens)
  pub high : r.height ≡ height (tree (map raw_view r.items))
  pub short : r.height ≤ limit
  pub after : from ≤ r.at
  pub within : r.at ≤ length tokens

abbrev pub Listing : List Token → ℕ → ℕ → (List Tree → Tree) → Result (Option ReadItems) AllocError → Out Tree → Type 0
Listing tokens from limit tree (Ok (Some r)) out = IsListing tokens from limit tree r out
Listing tokens from limit tree (Ok None) out = out ≡ Nothing
Listing tokens from limit tree (Err e) out = Unit {0}

-- what was read of specs
pub record IsSpecifying (tokens : List Token) (from limit : ℕ) (r : ReadSpecs) (out : Out Tree) : Type 0 where
  pub found : out ≡ Found (specs_tree (map raw_view r.specs)) (drop r.at tokens)
  pub high : r.height ≡ height (specs_tree (map raw_view r.specs))
  pub short : r.height ≤ limit
  pub after : from < r.at
  pub within : r.at ≤ length tokens
  pub typed : r.has_type ≡ has_type (specs_tree (map raw_view r.specs))
  pub bodied : r.has_body ≡ has_body (specs_tree (map raw_view r.specs))

abbrev pub Specifying : List Token → ℕ → ℕ → Result (Option ReadSpecs) AllocError → Out Tree → Type 0
Specifying tokens from limit (Ok (Some r)) out = IsSpecifying tokens from limit r out
Specifying tokens from limit (Ok None) out = out ≡ Nothing
Specifying tokens from limit (Err e) out = Unit {0}

-- the name behind `struct` or `enum`, with its height
pub record IsTag (tag : Tag) (h limit : ℕ) : Type 0 where
  pub high : h ≡ tag_height (tag_view tag)
  pub short : h ≤ limit

-- the qualifiers behind a star
pub record IsQualifying (tokens : List Token) (from : ℕ) (r : ReadQualifiers) : Type 0 where
  pub found : (go : List Keyword → List Token → Out Tree) → qualified (drop from tokens) go ≡ go r.keywords (drop r.at tokens)
  pub after : from ≤ r.at
  pub within : r.at ≤ length tokens

abbrev pub Qualifying : List Token → ℕ → Result ReadQualifiers AllocError → Type 0
Qualifying tokens from (Ok r) = IsQualifying tokens from r
Qualifying tokens from (Err e) = Unit {0}

-- the closing brace of a list, before which a comma may stand
abbrev pub list_end : List Token → Out Bool
list_end rest = if begins (Marked Comma) rest then eat (Marked Comma) rest (λ rest. eat (Marked RightBrace) rest (Found true)) else eat (Marked RightBrace) rest (Found true)

pub record IsEnding (tokens : List Token) (from at : ℕ) : Type 0 where
  pub found : list_end (drop from tokens) ≡ Found true (drop at tokens)
  pub after : from < at
  pub within : at ≤ length tokens

abbrev pub Ending : List Token → ℕ → Option ℕ → Type 0
Ending tokens from (Some at) = IsEnding tokens from at
Ending tokens from None = list_end (drop from tokens) ≡ Nothing

abbrev pub item_view : Item → trees.Item
item_view item.Assigned = trees.Assigned
item_view item.Condition = trees.Condition
item_view item.Declared = trees.Declared
item_view item.Enumerator = trees.Enumerators

-- how a member of a list is read
abbrev pub one_of : Reads → ℕ → trees.Item → Names → List Token → Out Tree
one_of r h trees.Assigned = r (Upto 16)
one_of r h trees.Condition = r (Upto 15)
one_of r h trees.Parameters = parameter r h
one_of r h trees.Declared = declarator_named r
one_of r h trees.Enumerators = r EnumeratorOf

-- the members of a struct with the closing brace behind them
abbrev pub closed_members : Reads → Names → ℕ → List Token → Out Tree
closed_members r env n ts = next (members r env n ts) (λ m rest. eat (Marked RightBrace) rest (λ rest. Found m rest))

-- what was read, with one more operator behind what was there before
pub record IsTurn (tokens : List Token) (from limit : ℕ) (before r : Read) (out : Out Tree) : Type 0 where
  pub found : out ≡ Found (raw_view r.tree) (drop r.at tokens)
  pub high : r.height ≡ height (raw_view r.tree)
  pub short : r.height ≤ limit
  pub after : from < r.at
  pub within : r.at ≤ length tokens
  pub grows : before.height < r.height

-- what was there before, since nothing follows
pub record IsDone (before r : Read) (out : Out Tree) : Type 0 where
  pub same : r ≡ before
  pub none : out ≡ Nothing

abbrev pub Turning : List Token → ℕ → ℕ → Read → Result Turn AllocError → Out Tree → Type 0
Turning tokens from limit before (Ok (More r)) out = IsTurn tokens from limit before r out
Turning tokens from limit before (Ok (Done r)) out = IsDone before r out
Turning tokens from limit before (Err e) out = Unit {0}

-- the word at a place
pub record IsNext (tokens : List Token) (at : ℕ) (w : Word) : Type 0 where
  pub token : Token
  pub whole : drop at tokens ≡ token ∷ drop (at + 1) tokens
  pub word : token.word ≡ w
  pub within : at < length tokens

abbrev pub Next : List Token → ℕ → Option code.Word → Type 0
Next tokens at None = drop at tokens ≡ []
Next tokens at (Some w) = IsNext tokens at (word_view w)
