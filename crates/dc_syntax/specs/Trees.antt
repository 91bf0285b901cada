-- The trees of expressions, with type-names, specs and declarators.
use Rattle.std.specs.Prelude.{ℕ, suc, ◌+◌, Bool, true, false, ◌||◌, ◌&&◌, max, Option, None, Some, List, ◌∷◌}
use Rattle.dc_syntax.specs.declared.mark.Mark.{Mark}
use Rattle.dc_syntax.specs.declared.keyword.Keyword.{Keyword}
use Rattle.dc_syntax.specs.Tokens.{Place, infix_level, is_type_word, is_typedef_word, is_void_word}
use Rattle.dc_syntax.specs.Names.{Names}

-- what a list with commas between its members has as members
pub data Item : Type 0 where
  Assigned : Item
  Condition : Item
  Parameters : Item
  Declared : Item
  Enumerators : Item

-- the name behind `struct` or `enum`, if there is one
pub data Tag : Type 0 where
  NoTag : Tag
  Tagged : List ℕ → Place → Tag

-- One variant for each alternative, with its parts and its place. Lists have no place.
pub data Tree : Type 0 where
  -- primary
  Name : List ℕ → Place → Tree
  Constant : List ℕ → Place → Tree
  Paren : Tree → Place → Tree
  Quantifier : Keyword → Tree → Tree → Tree → Place → Tree
  -- postfix
  Index : Tree → Tree → Place → Tree
  Call : Tree → Tree → Place → Tree
  Member : Tree → List ℕ → Place → Tree
  Through : Tree → List ℕ → Place → Tree
  After : Mark → Tree → Place → Tree
  -- unary
  Before : Mark → Tree → Place → Tree
  Prefix : Mark → Tree → Place → Tree
  SizeofExpression : Tree → Place → Tree
  SizeofType : Tree → Place → Tree
  Cast : Tree → Tree → Place → Tree
  -- the levels above
  Binary : Mark → Tree → Tree → Place → Tree
  Implies : Tree → Tree → Place → Tree
  Conditional : Tree → Tree → Tree → Place → Tree
  Assign : Mark → Tree → Tree → Place → Tree
  -- lists
  NoArguments : Tree
  Arguments : Tree → Tree → Tree
  NoMore : Item → Tree
  More : Item → Tree → Tree → Tree
  -- type-name
  TypeName : Tree → Tree → Place → Tree
  -- specs
  LastSpec : Tree → Tree
  Specs : Tree → Tree → Tree
  SpecWord : Keyword → Place → Tree
  SpecName : List ℕ → Place → Tree
  StructBody : Tag → Tree → Place → Tree
  StructTag : List ℕ → Place → Tree
  EnumBody : Tag → Tree → Tree → Place → Tree
  EnumTag : List ℕ → Place → Tree
  NoMembers : Tree
  Members : Tree → Tree → Tree
  MemberDeclaration : Tree → Tree → Tree → Place → Tree
  Enumerator : List ℕ → Place → Tree
  EnumeratorValue : List ℕ → Tree → Place → Tree
  -- declarators
  Nameless : Tree
  DeclaredName : List ℕ → Place → Tree
  Wrapped : Tree → Place → Tree
  Unsized : Tree → Place → Tree
  Sized : Tree → Tree → Place → Tree
  Function : Tree → Tree → Place → Tree
  Pointer : List Keyword → Tree → Place → Tree
  -- parameters
  NoParameters : Tree
  SomeParameters : Tree → Tree → Tree
  Parameter : Tree → Tree → Place → Tree

pub data Sort : Type 0 where
  IsExpression : Sort
  IsArguments : Sort
  IsMore : Item → Sort
  IsTypeName : Sort
  IsSpecs : Sort
  IsSpec : Sort
  IsMembers : Sort
  IsMember : Sort
  IsEnumerator : Sort
  IsDeclarator : Sort
  IsParameters : Sort
  IsParameter : Sort

-- which of the grammar's words a tree stands for
abbrev pub sort_of : Tree → Sort
sort_of NoArguments = IsArguments
sort_of (Arguments a m) = IsArguments
sort_of (NoMore i) = IsMore i
sort_of (More i a m) = IsMore i
sort_of (TypeName s d p) = IsTypeName
sort_of (LastSpec s) = IsSpecs
sort_of (Specs s m) = IsSpecs
sort_of (SpecWord k p) = IsSpec
sort_of (SpecName n p) = IsSpec
sort_of (StructBody t m p) = IsSpec
sort_of (StructTag n p) = IsSpec
sort_of (EnumBody t e m p) = IsSpec
sort_of (EnumTag n p) = IsSpec
sort_of NoMembers = IsMembers
sort_of (Members a m) = IsMembers
sort_of (MemberDeclaration s d m p) = IsMember
sort_of (Enumerator n p) = IsEnumerator
sort_of (EnumeratorValue n c p) = IsEnumerator
sort_of Nameless = IsDeclarator
sort_of (DeclaredName n p) = IsDeclarator
sort_of (Wrapped d p) = IsDeclarator
sort_of (Unsized d p) = IsDeclarator
sort_of (Sized d c p) = IsDeclarator
sort_of (Function d a p) = IsDeclarator
sort_of (Pointer k d p) = IsDeclarator
sort_of NoParameters = IsParameters
sort_of (SomeParameters a m) = IsParameters
sort_of (Parameter s d p) = IsParameter
sort_of _ = IsExpression

-- The levels of expressions: 0 primary, 1 postfix, 2 unary, 3 cast, 4 mul to 13 or, 14 implies, 15 cond, 16 assign and expr.
abbrev pub level_of : Tree → ℕ
level_of (Name n p) = 0
level_of (Constant n p) = 0
level_of (Paren e p) = 0
level_of (Quantifier k s d c p) = 0
level_of (Index a i p) = 1
level_of (Call f a p) = 1
level_of (Member a n p) = 1
level_of (Through a n p) = 1
level_of (After o a p) = 1
level_of (Before o a p) = 2
level_of (Prefix o a p) = 2
level_of (SizeofExpression a p) = 2
level_of (SizeofType t p) = 2
level_of (Cast t a p) = 3
level_of (Binary o a b p) = 3 + infix_level o
level_of (Implies a b p) = 14
level_of (Conditional a b c p) = 15
level_of (Assign o a b p) = 16
level_of _ = 99

-- has the declarator no token?
abbrev pub is_nameless : Tree → Bool
is_nameless Nameless = true
is_nameless _ = false

-- is it no pointer, so that lengths and parameters may stand behind it?
abbrev pub is_direct : Tree → Bool
is_direct (Pointer k d p) = false
is_direct _ = true

-- the name that a declarator declares; an abstract one declares none (C11 6.7.6, 6.7.7)
abbrev pub name_of : Tree → Option (List ℕ)
name_of (DeclaredName n p) = Some n
name_of (Wrapped d p) = name_of d
name_of (Unsized d p) = name_of d
name_of (Sized d c p) = name_of d
name_of (Function d a p) = name_of d
name_of (Pointer k d p) = name_of d
name_of _ = None

abbrev pub is_some : Option (List ℕ) → Bool
is_some None = false
is_some (Some n) = true

-- is a name declared?
abbrev pub is_named : Tree → Bool
is_named d = is_some (name_of d)

-- a type word, struct-spec, enum-spec or TYPEDEF-NAME
abbrev pub is_type_spec : Tree → Bool
is_type_spec (SpecWord k p) = is_type_word k
is_type_spec _ = true

-- is one of them among the specs?
abbrev pub has_type : Tree → Bool
has_type (LastSpec s) = is_type_spec s
has_type (Specs s m) = is_type_spec s || has_type m
has_type _ = false

abbrev pub is_type_name : Tree → Bool
is_type_name (SpecName n p) = true
is_type_name _ = false

-- is a TYPEDEF-NAME among the specs?
abbrev pub names_type : Tree → Bool
names_type (LastSpec s) = is_type_name s
names_type (Specs s m) = is_type_name s || names_type m
names_type _ = false

abbrev pub is_tag : Tree → Bool
is_tag (StructBody t m p) = true
is_tag (StructTag n p) = true
is_tag (EnumBody t e m p) = true
is_tag (EnumTag n p) = true
is_tag _ = false

-- is a struct-spec or enum-spec among the specs?
abbrev pub has_tag : Tree → Bool
has_tag (LastSpec s) = is_tag s
has_tag (Specs s m) = is_tag s || has_tag m
has_tag _ = false

abbrev pub is_body : Tree → Bool
is_body (StructBody t m p) = true
is_body (EnumBody t e m p) = true
is_body _ = false

-- is one of them with braces?
abbrev pub has_body : Tree → Bool
has_body (LastSpec s) = is_body s
has_body (Specs s m) = is_body s || has_body m
has_body _ = false

abbrev pub is_typedef_spec : Tree → Bool
is_typedef_spec (SpecWord k p) = is_typedef_word k
is_typedef_spec _ = false

-- do the specs make what is declared a typedef?
abbrev pub is_typedef : Tree → Bool
is_typedef (LastSpec s) = is_typedef_spec s
is_typedef (Specs s m) = is_typedef_spec s || is_typedef m
is_typedef _ = false

abbrev pub is_void_spec : Tree → Bool
is_void_spec (SpecWord k p) = is_void_word k
is_void_spec _ = false

abbrev pub is_lone_void : Tree → Bool
is_lone_void (LastSpec s) = is_void_spec s
is_lone_void _ = false

-- the parameter that is only `void`
abbrev pub is_void_parameter : Tree → Bool
is_void_parameter (Parameter s d p) = is_lone_void s && is_nameless d
is_void_parameter _ = false

abbrev pub is_no_more : Tree → Bool
is_no_more (NoMore i) = true
is_no_more _ = false

abbrev pub with_name : Option (List ℕ) → Bool → Names → Names
with_name None t env = env
with_name (Some n) t env = record { name = n; is_type = t } ∷ env

-- the names in force behind a declarator whose name is a typedef, or not
abbrev pub naming : Tree → Bool → Names → Names
naming d t env = with_name (name_of d) t env

-- The names in force behind a part: enumerators from their own end, parameters from their declarators on. Members and tags are in no table.
abbrev pub declared : Tree → Names → Names
declared (More i a m) env = declared m (declared a env)
declared (LastSpec s) env = declared s env
declared (Specs s m) env = declared m (declared s env)
declared (StructBody t m p) env = declared m env
declared (EnumBody t e m p) env = declared m (declared e env)
declared (Members a m) env = declared m (declared a env)
declared (MemberDeclaration s d m p) env = declared s env
declared (Enumerator n p) env = record { name = n; is_type = false } ∷ env
declared (EnumeratorValue n c p) env = record { name = n; is_type = false } ∷ env
declared (SomeParameters a m) env = declared m (declared a env)
declared (Parameter s d p) env = naming d false env
declared _ env = env

-- the parameter list nearest the name, if there is one
abbrev pub nearest : Option Tree → Tree → Option Tree
nearest None a = Some a
nearest (Some b) a = Some b

abbrev pub own_parameters : Tree → Option Tree
own_parameters (Wrapped d p) = own_parameters d
own_parameters (Unsized d p) = own_parameters d
own_parameters (Sized d c p) = own_parameters d
own_parameters (Function d a p) = nearest (own_parameters d) a
own_parameters (Pointer k d p) = own_parameters d
own_parameters _ = None

abbrev pub declared_by : Option Tree → Names → Names
declared_by None env = env
declared_by (Some a) env = declared a env

-- the names in force in a function's clauses and block: its own parameters
abbrev pub inside : Tree → Names → Names
inside d env = declared_by (own_parameters d) env

-- the height of the name behind `struct` or `enum`
abbrev pub tag_height : Tag → ℕ
tag_height NoTag = 0
tag_height (Tagged n p) = 1

-- A name or literal has height 1, any other expression, a declaration and a declarator's part 1 more than its parts; type words and what is left away 0.
abbrev pub height : Tree → ℕ
height (Name n p) = 1
height (Constant n p) = 1
height (Paren e p) = suc (height e)
height (Quantifier k s d c p) = suc (max (height s) (max (height d) (height c)))
height (Index a i p) = suc (max (height a) (height i))
height (Call f a p) = suc (max (height f) (height a))
height (Member a n p) = suc (height a)
height (Through a n p) = suc (height a)
height (After o a p) = suc (height a)
height (Before o a p) = suc (height a)
height (Prefix o a p) = suc (height a)
height (SizeofExpression a p) = suc (height a)
height (SizeofType t p) = suc (height t)
height (Cast t a p) = suc (max (height t) (height a))
height (Binary o a b p) = suc (max (height a) (height b))
height (Implies a b p) = suc (max (height a) (height b))
height (Conditional a b c p) = suc (max (height a) (max (height b) (height c)))
height (Assign o a b p) = suc (max (height a) (height b))
height NoArguments = 0
height (Arguments a m) = max (height a) (height m)
height (NoMore i) = 0
height (More i a m) = max (height a) (height m)
height (TypeName s d p) = max (height s) (height d)
height (LastSpec s) = height s
height (Specs s m) = max (height s) (height m)
height (SpecWord k p) = 0
height (SpecName n p) = 1
height (StructBody t m p) = max (tag_height t) (height m)
height (StructTag n p) = 1
height (EnumBody t e m p) = max (tag_height t) (max (height e) (height m))
height (EnumTag n p) = 1
height NoMembers = 0
height (Members a m) = max (height a) (height m)
height (MemberDeclaration s d m p) = suc (max (height s) (max (height d) (height m)))
height (Enumerator n p) = 2
height (EnumeratorValue n c p) = suc (height c)
height Nameless = 0
height (DeclaredName n p) = 1
height (Wrapped d p) = suc (height d)
height (Unsized d p) = suc (height d)
height (Sized d c p) = suc (max (height d) (height c))
height (Function d a p) = suc (max (height d) (height a))
height (Pointer k d p) = suc (height d)
height NoParameters = 0
height (SomeParameters a m) = max (height a) (height m)
height (Parameter s d p) = max (height s) (height d)
