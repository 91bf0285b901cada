-- What a list of tokens may be: the words of which the grammar is made.
use Rattle.std.specs.Prelude.{◌≡◌, ℕ, ◌≤◌, Bool, true, false, ◌||◌, not, List, [], ◌∷◌, ◌++◌}
use Rattle.dc_syntax.specs.declared.mark.Mark.{Mark}
use Rattle.dc_syntax.specs.declared.keyword.Keyword.{Keyword}
use Rattle.dc_syntax.specs.Tokens.{Word, Named, Literal, Marked, Reserved, Token, Place, place_of, is_spec_word, is_tag_word, is_qualifier}
use Rattle.dc_syntax.specs.Names.{Names, in_force}
use Rattle.dc_syntax.specs.Trees.{Tree, Tag, NoTag, Tagged, Sort, IsExpression, sort_of, level_of, has_type}

-- no token
pub record IsEmpty (ts : List Token) : Type 0 where
  pub none : ts ≡ []

-- one phrase behind the other
pub record Then (A B : List Token → Type 0) (ts : List Token) : Type 0 where
  pub left : List Token
  pub right : List Token
  pub whole : ts ≡ left ++ right
  pub first : A left
  pub second : B right

infixr 20 ◌⊙◌
abbrev pub ◌⊙◌ : (List Token → Type 0) → (List Token → Type 0) → List Token → Type 0
A ⊙ B = Then A B

-- one token of this word
pub record IsWord (w : Word) (ts : List Token) : Type 0 where
  pub token : Token
  pub only : ts ≡ token ∷ []
  pub is : token.word ≡ w

abbrev pub mark : Mark → List Token → Type 0
mark m = IsWord (Marked m)

abbrev pub keyword : Keyword → List Token → Type 0
keyword k = IsWord (Reserved k)

-- NAME, also where a typedef of that name is in force
abbrev pub name : List ℕ → List Token → Type 0
name n = IsWord (Named n)

-- a phrase for which this test holds
pub record Where (b : Bool) (A : List Token → Type 0) (ts : List Token) : Type 0 where
  pub holds : b ≡ true
  pub is : A ts

-- a phrase whose tokens pass this test
pub record Passing (f : List Token → Bool) (A : List Token → Type 0) (ts : List Token) : Type 0 where
  pub passes : f ts ≡ true
  pub is : A ts

-- an expression of at most this level
pub record Within (k : ℕ) (tree : Tree) (A : List Token → Type 0) (ts : List Token) : Type 0 where
  pub sort : sort_of tree ≡ IsExpression
  pub level : level_of tree ≤ k
  pub is : A ts

-- a tree of this sort
pub record Sorted (s : Sort) (tree : Tree) (A : List Token → Type 0) (ts : List Token) : Type 0 where
  pub sort : sort_of tree ≡ s
  pub is : A ts

-- a phrase with its place
pub record Placed (p : Place) (A : List Token → Type 0) (ts : List Token) : Type 0 where
  pub place : p ≡ place_of ts
  pub is : A ts

-- a phrase that may be left away
pub data Maybe (A : List Token → Type 0) (ts : List Token) : Type 0 where
  Absent : ts ≡ [] → Maybe A ts
  Present : A ts → Maybe A ts

abbrev pub tag : Tag → List Token → Type 0
tag NoTag = IsEmpty
tag (Tagged n p) = Placed p (name n)

-- {const|restrict}
abbrev pub qualifiers : List Keyword → List Token → Type 0
qualifiers [] = IsEmpty
qualifiers (k ∷ ks) = Where (is_qualifier k) (keyword k ⊙ qualifiers ks)

-- does a TYPEDEF-NAME stand first?
abbrev pub is_typedef_name : Names → Word → Bool
is_typedef_name env (Named n) = in_force env n
is_typedef_name env _ = false

abbrev pub begins_typedef : Names → List Token → Bool
begins_typedef env [] = false
begins_typedef env (t ∷ ts) = is_typedef_name env t.word

-- does the word begin a spec?
abbrev pub begins_spec : Names → Word → Bool
begins_spec env (Named n) = in_force env n
begins_spec env (Literal n) = false
begins_spec env (Marked m) = false
begins_spec env (Reserved k) = is_spec_word k || is_tag_word k

abbrev pub begins_specs : Names → List Token → Bool
begins_specs env [] = false
begins_specs env (t ∷ ts) = begins_spec env t.word

-- What stands behind specs leaves them the longest run: a TYPEDEF-NAME in force would be one more spec, unless a type is among them.
abbrev pub leaves : Names → Tree → List Token → Bool
leaves env s ts = has_type s || not (begins_typedef env ts)

-- What stands behind an opening parenthesis opens no parameters.
abbrev pub opens_declarator : Names → List Token → Bool
opens_declarator env ts = not (begins_specs env ts)
