-- Which tokens spell which expression, type-name, specs and declarator (C11 6.5, 6.7), with a table of the names in force.
use Rattle.std.specs.Prelude.{◌+◌, Bool, false, not, ◌&&◌, nat_lt, List}
use Rattle.dc_syntax.specs.declared.mark.Mark.{Mark}
use Rattle.dc_syntax.specs.declared.mark.Mark.TheVariants.{LeftParen, RightParen, LeftBracket, RightBracket, LeftBrace, RightBrace, Semicolon, Comma, Colon, Question, Dot, Arrow, Star, Implication, Equals}
use Rattle.dc_syntax.specs.Tokens.{Literal, Token, infix_level, is_prefix, is_step, is_assignment, is_quantifier, is_spec_word, sizeof_word, struct_word, enum_word, void_word}
use Rattle.dc_syntax.specs.Names.{Names, in_force}
use Rattle.dc_syntax.specs.Trees.{Item, Assigned, Condition, Parameters, Declared, Enumerators, Tree, Name, Constant, Paren, Quantifier, Index, Call, Member, Through, After, Before, Prefix, SizeofExpression, SizeofType, Cast, Binary, Implies, Conditional, Assign, NoArguments, Arguments, NoMore, More, TypeName, LastSpec, Specs, SpecWord, SpecName, StructBody, StructTag, EnumBody, EnumTag, NoMembers, Members, MemberDeclaration, Enumerator, EnumeratorValue, Nameless, DeclaredName, Wrapped, Unsized, Sized, Function, Pointer, NoParameters, SomeParameters, Parameter, IsArguments, IsMore, IsTypeName, IsSpecs, IsSpec, IsMembers, IsMember, IsEnumerator, IsDeclarator, IsParameters, IsParameter, is_nameless, is_direct, is_named, is_type_spec, names_type, has_body, is_void_parameter, is_no_more, naming, declared}
use Rattle.dc_syntax.specs.Phrases.{IsEmpty, ◌⊙◌, IsWord, mark, keyword, name, Where, Passing, Within, Sorted, Placed, Maybe, tag, qualifiers, leaves, opens_declarator}

-- expr and assign; cond
abbrev pub expression : Tree → (List Token → Type 0) → List Token → Type 0
expression e A = Within 16 e A

abbrev pub condition : Tree → (List Token → Type 0) → List Token → Type 0
condition e A = Within 15 e A

-- a declarator with its NAME, and without
abbrev pub declarator : Tree → (List Token → Type 0) → List Token → Type 0
declarator d A = Where (is_named d) (Sorted IsDeclarator d A)

abbrev pub abstract : Tree → (List Token → Type 0) → List Token → Type 0
abstract d A = Where (not (is_named d)) (Sorted IsDeclarator d A)

-- specs that may have braces, and those that may not
abbrev pub specs : Tree → (List Token → Type 0) → List Token → Type 0
specs s A = Sorted IsSpecs s A

abbrev pub bare_specs : Tree → (List Token → Type 0) → List Token → Type 0
bare_specs s A = Where (not (has_body s)) (Sorted IsSpecs s A)

-- what stands behind specs
abbrev pub behind : Names → Tree → (List Token → Type 0) → List Token → Type 0
behind env s A = Passing (leaves env s) A

-- a member of a list with commas
abbrev pub item : Item → Tree → (List Token → Type 0) → List Token → Type 0
item Assigned a A = expression a A
item Condition a A = condition a A
item Parameters a A = Sorted IsParameter a A
item Declared a A = declarator a A
item Enumerators a A = Sorted IsEnumerator a A

-- no TYPEDEF-NAME is taken behind a type
abbrev pub goes_on : Tree → Tree → Bool
goes_on s m = not (is_type_spec s && names_type m)

abbrev pub is_infix : Mark → Bool
is_infix o = nat_lt 0 (infix_level o)

abbrev pub Is : Names → Tree → List Token → Type 0
-- primary (C11 6.5.1), with the quantifiers
Is env (Name n p) = Placed p (Where (not (in_force env n)) (name n))
Is env (Constant n p) = Placed p (IsWord (Literal n))
Is env (Paren e p) = Placed p (mark LeftParen ⊙ expression e (Is env e) ⊙ mark RightParen)
Is env (Quantifier k s d c p) = Placed p (Where (is_quantifier k) (keyword k ⊙ mark LeftBrace ⊙ bare_specs s (Is env s) ⊙ behind env s (declarator d (Is env d)) ⊙ mark Semicolon ⊙ condition c (Is (naming d false env) c) ⊙ mark RightBrace))
-- postfix (C11 6.5.2)
Is env (Index a i p) = Placed p (Within 1 a (Is env a) ⊙ mark LeftBracket ⊙ expression i (Is env i) ⊙ mark RightBracket)
Is env (Call f a p) = Placed p (Within 1 f (Is env f) ⊙ mark LeftParen ⊙ Sorted IsArguments a (Is env a) ⊙ mark RightParen)
Is env (Member a n p) = Placed p (Within 1 a (Is env a) ⊙ mark Dot ⊙ name n)
Is env (Through a n p) = Placed p (Within 1 a (Is env a) ⊙ mark Arrow ⊙ name n)
Is env (After o a p) = Placed p (Where (is_step o) (Within 1 a (Is env a) ⊙ mark o))
-- unary (C11 6.5.3)
Is env (Before o a p) = Placed p (Where (is_step o) (mark o ⊙ Within 2 a (Is env a)))
Is env (Prefix o a p) = Placed p (Where (is_prefix o) (mark o ⊙ Within 3 a (Is env a)))
Is env (SizeofExpression a p) = Placed p (IsWord sizeof_word ⊙ Within 2 a (Is env a))
Is env (SizeofType t p) = Placed p (IsWord sizeof_word ⊙ mark LeftParen ⊙ Sorted IsTypeName t (Is env t) ⊙ mark RightParen)
-- cast (C11 6.5.4)
Is env (Cast t a p) = Placed p (mark LeftParen ⊙ Sorted IsTypeName t (Is env t) ⊙ mark RightParen ⊙ Within 3 a (Is env a))
-- mul to or, left to right (C11 6.5.5 to 6.5.14)
Is env (Binary o a b p) = Placed p (Where (is_infix o) (Within (3 + infix_level o) a (Is env a) ⊙ mark o ⊙ Within (2 + infix_level o) b (Is env b)))
-- implies, right to left
Is env (Implies a b p) = Placed p (Within 13 a (Is env a) ⊙ mark Implication ⊙ Within 14 b (Is env b))
-- cond (C11 6.5.15)
Is env (Conditional a b c p) = Placed p (Within 14 a (Is env a) ⊙ mark Question ⊙ expression b (Is env b) ⊙ mark Colon ⊙ condition c (Is env c))
-- assign (C11 6.5.16)
Is env (Assign o a b p) = Placed p (Where (is_assignment o) (Within 2 a (Is env a) ⊙ mark o ⊙ expression b (Is env b)))
-- [assign {, assign}]
Is env NoArguments = IsEmpty
Is env (Arguments a m) = expression a (Is env a) ⊙ Sorted (IsMore Assigned) m (Is env m)
-- {, member}
Is env (NoMore i) = IsEmpty
Is env (More i a m) = mark Comma ⊙ item i a (Is env a) ⊙ Sorted (IsMore i) m (Is (declared a env) m)
-- type-name (C11 6.7.7)
Is env (TypeName s d p) = Placed p (bare_specs s (Is env s) ⊙ behind env s (abstract d (Is env d)))
-- spec {spec} (C11 6.7)
Is env (LastSpec s) = Sorted IsSpec s (Is env s)
Is env (Specs s m) = Where (goes_on s m) (Sorted IsSpec s (Is env s) ⊙ Sorted IsSpecs m (Is (declared s env) m))
Is env (SpecWord k p) = Placed p (Where (is_spec_word k) (keyword k))
Is env (SpecName n p) = Placed p (Where (in_force env n) (name n))
-- struct-spec (C11 6.7.2.1)
Is env (StructBody t m p) = Placed p (IsWord struct_word ⊙ tag t ⊙ mark LeftBrace ⊙ Sorted IsMembers m (Is env m) ⊙ mark RightBrace)
Is env (StructTag n p) = Placed p (IsWord struct_word ⊙ name n)
Is env NoMembers = IsEmpty
Is env (Members a m) = Sorted IsMember a (Is env a) ⊙ Sorted IsMembers m (Is (declared a env) m)
Is env (MemberDeclaration s d m p) = Placed p (specs s (Is env s) ⊙ behind (declared s env) s (declarator d (Is (declared s env) d)) ⊙ Sorted (IsMore Declared) m (Is (declared s env) m) ⊙ mark Semicolon)
-- enum-spec (C11 6.7.2.2)
Is env (EnumBody t e m p) = Placed p (IsWord enum_word ⊙ tag t ⊙ mark LeftBrace ⊙ Sorted IsEnumerator e (Is env e) ⊙ Sorted (IsMore Enumerators) m (Is (declared e env) m) ⊙ Maybe (mark Comma) ⊙ mark RightBrace)
Is env (EnumTag n p) = Placed p (IsWord enum_word ⊙ name n)
Is env (Enumerator n p) = Placed p (name n)
Is env (EnumeratorValue n c p) = Placed p (name n ⊙ mark Equals ⊙ condition c (Is env c))
-- declarator and direct (C11 6.7.6); abstract ones have no NAME (C11 6.7.7)
Is env Nameless = IsEmpty
Is env (DeclaredName n p) = Placed p (name n)
Is env (Wrapped d p) = Placed p (Where (not (is_nameless d)) (mark LeftParen ⊙ Passing (opens_declarator env) (Sorted IsDeclarator d (Is env d)) ⊙ mark RightParen))
Is env (Unsized d p) = Placed p (Where (is_direct d) (Sorted IsDeclarator d (Is env d) ⊙ mark LeftBracket ⊙ mark RightBracket))
Is env (Sized d c p) = Placed p (Where (is_direct d) (Sorted IsDeclarator d (Is env d) ⊙ mark LeftBracket ⊙ condition c (Is env c) ⊙ mark RightBracket))
Is env (Function d a p) = Placed p (Where (is_direct d) (Sorted IsDeclarator d (Is env d) ⊙ mark LeftParen ⊙ Sorted IsParameters a (Is env a) ⊙ mark RightParen))
Is env (Pointer k d p) = Placed p (mark Star ⊙ qualifiers k ⊙ Sorted IsDeclarator d (Is env d))
-- [params]; `void` alone is the empty list
Is env NoParameters = Maybe (IsWord void_word)
Is env (SomeParameters a m) = Where (not (is_void_parameter a && is_no_more m)) (Sorted IsParameter a (Is env a) ⊙ Sorted (IsMore Parameters) m (Is (declared a env) m))
-- param
Is env (Parameter s d p) = Placed p (bare_specs s (Is env s) ⊙ behind env s (Sorted IsDeclarator d (Is env d)))
