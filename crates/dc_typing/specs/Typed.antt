-- What an expression means where it stands, or the first rule that it breaks: parts from left to right, then the phrase.
use Rattle.std.specs.Prelude.{ℕ, ◌+◌, Bool, false, List, [], ◌∷◌, ◌++◌, Option, Some, None, Ok, Err}
use Rattle.dc_layout.specs.Types.{PlainType, PlainTypes, NoTypes, Types, Structs}
use Rattle.dc_program.specs.declared.operators.LogicalOp.TheVariants as logical_op
use Rattle.dc_program.specs.declared.rule.Rule.TheVariants.{Undeclared, WrongQuantifier}
use Rattle.dc_program.specs.Constants.{integer_constant}
use Rattle.dc_program.specs.Expressions.{Expr, Exprs, NoExprs}
use Rattle.dc_program.specs.Expressions as expr
use Rattle.dc_scope.specs.Entities.{PlainEntity}
use Rattle.dc_scope.specs.Scopes.{PlainScopes}
use Rattle.dc_syntax.specs.Tokens.{Place}
use Rattle.dc_syntax.specs.Trees.{Tree, Name, Constant, Paren, Quantifier, Index, Call, Member, Through, After, Before, Prefix, SizeofExpression, SizeofType, Cast, Binary, Implies, Conditional, Assign, NoArguments, Arguments, More, TypeName, Wrapped, Unsized, Sized, Function, Pointer, SomeParameters, Parameter, name_of}
use Rattle.dc_syntax.specs.declared.mark.Mark.{Mark}
use Rattle.dc_syntax.specs.declared.mark.Mark.TheVariants.{Equals}
use Rattle.dc_typing.specs.declared.builtin.Builtin.{Builtin}
use Rattle.dc_typing.specs.declared.spot.Spot.{Spot}
use Rattle.dc_typing.specs.declared.spot.Spot.TheVariants.{Whole, Inside}
use Rattle.dc_typing.specs.Judged.{Judged, broken, ◌>>=◌}
use Rattle.dc_typing.specs.Literals.{literal}
use Rattle.dc_typing.specs.Known.{Known, within, found_name, builtin_named, named}
use Rattle.dc_typing.specs.Spots.{right_side}
use Rattle.dc_typing.specs.TypeNames.{spec_list, base_type, Derivation, To, Of, Taking, derived, has_const, length_of, whole_type, Taken, declared_parameter}
use Rattle.dc_typing.specs.Phrases.{index, member, through, after, before, prefix, sizeof_expression, sizeof_named, cast, between, logical, conditional, assigning}
use Rattle.dc_typing.specs.Calls.{call, call_builtin}

-- a built-in function, where the name is none that is declared
abbrev pub builtin_unless : Option PlainEntity → List ℕ → Option Builtin
builtin_unless None name = builtin_named name
builtin_unless (Some e) name = None

-- what is called, where it is a built-in function; parentheses are passed over
abbrev pub builtin_of : Known → Tree → Option Builtin
builtin_of k (Name n p) = builtin_unless (found_name k n) n
builtin_of k (Paren e p) = builtin_of k e
builtin_of k _ = None

-- where the right side of an assignment stands
abbrev pub right_spot : Mark → Spot → ℕ → Spot
right_spot Equals spot line = right_side spot line
right_spot _ spot line = Inside

-- 13 is not broken by the name of a built-in function that is called
abbrev pub called : Known → Spot → Place → Option Builtin → Judged Expr → Judged Exprs → Judged Expr
called k spot p (Some b) f es = es >>= λ es. call_builtin k.structs p spot b es
called k spot p None f es = f >>= λ f. es >>= λ es. call k.structs p spot f es

-- the type that specs and a declarator give
abbrev pub declarator_type : Known → List Tree → Judged (List Derivation) → Judged PlainType
declarator_type k specs parts = base_type k specs >>= λ t. parts >>= λ ds. Ok (derived ds t)

abbrev mutual
  -- an expression
  pub typed : Known → Spot → Tree → Judged Expr
  typed k spot (Name n p) = named k p.last n
  typed k spot (Constant n p) = literal p.last n
  typed k spot (Paren e p) = typed k spot e
  typed k spot (Index a i p) = typed k Inside a >>= λ a. typed k Inside i >>= λ i. index k.structs p.last a i
  typed k spot (Call f a p) = called k spot p (builtin_of k f) (typed k Inside f) (typed_arguments k a)
  typed k spot (Member a n p) = typed k Inside a >>= λ a. member k p.last a n
  typed k spot (Through a n p) = typed k Inside a >>= λ a. through k p.last a n
  typed k spot (After m a p) = typed k Inside a >>= λ a. after k.structs p spot m a
  typed k spot (Before m a p) = typed k Inside a >>= λ a. before k.structs p spot m a
  typed k spot (Prefix m a p) = typed k Inside a >>= λ a. prefix k.structs p.last m a
  typed k spot (SizeofExpression a p) = typed k Inside a >>= λ a. sizeof_expression k.structs p.last a
  typed k spot (SizeofType t p) = type_named k t >>= λ t. sizeof_named k.structs p.last t
  typed k spot (Cast t a p) = type_named k t >>= λ t. typed k Inside a >>= λ a. cast k.structs p.last spot t a
  typed k spot (Binary m a b p) = typed k Inside a >>= λ a. typed k Inside b >>= λ b. between k.structs p.last m a b
  typed k spot (Implies a b p) = typed k Inside a >>= λ a. typed k Inside b >>= λ b. logical p.last logical_op.Implies a b
  typed k spot (Conditional a b c p) = typed k Inside a >>= λ a. typed k Inside b >>= λ b. typed k Inside c >>= λ c. conditional p.last a b c
  typed k spot (Assign m a b p) = typed k Inside a >>= λ a. typed k (right_spot m spot p.line) b >>= λ b. assigning k.structs p spot m a b
  -- 40: no quantifier stands in code
  typed k spot (Quantifier w s d c p) = Err (broken WrongQuantifier p.last)
  -- the grammar spells no other tree as an expression
  typed k spot _ = Err (broken Undeclared 0)

  -- the arguments of a call
  pub typed_arguments : Known → Tree → Judged Exprs
  typed_arguments k (Arguments a m) = typed k Inside a >>= λ e. typed_arguments k m >>= λ es. Ok (expr.More e es)
  typed_arguments k (More i a m) = typed k Inside a >>= λ e. typed_arguments k m >>= λ es. Ok (expr.More e es)
  typed_arguments k _ = Ok NoExprs

  -- the type that a type-name names
  pub type_named : Known → Tree → Judged PlainType
  type_named k (TypeName s d p) = declarator_type k (spec_list s) (derivations k d) >>= λ t. whole_type k.structs p.last t
  type_named k _ = Err (broken Undeclared 0)

  -- what a declarator makes of a type, of what stands nearest its name first
  pub derivations : Known → Tree → Judged (List Derivation)
  derivations k (Wrapped d p) = derivations k d
  derivations k (Unsized d p) = derivations k d >>= λ ds. Ok (ds ++ Of 0 ∷ [])
  derivations k (Sized d c p) =
      derivations k d >>= λ ds. typed k Inside c >>= λ c. length_of p.last (integer_constant k.structs c) >>= λ n. Ok (ds ++ Of n ∷ [])
  derivations k (Function d a p) = derivations k d >>= λ ds. typed_parameters (within k) a >>= λ ts. Ok (ds ++ Taking ts ∷ [])
  derivations k (Pointer w d p) = derivations k d >>= λ ds. Ok (ds ++ To (has_const w) ∷ [])
  derivations k _ = Ok []

  -- the types of parameters; each is known behind its declarator
  pub typed_parameters : Known → Tree → Judged PlainTypes
  typed_parameters k (SomeParameters a m) =
      typed_parameter k a >>= λ d. typed_parameters (record k { parameters = d.parameters }) m >>= λ ts. Ok (Types d.type ts)
  typed_parameters k (More i a m) =
      typed_parameter k a >>= λ d. typed_parameters (record k { parameters = d.parameters }) m >>= λ ts. Ok (Types d.type ts)
  typed_parameters k _ = Ok NoTypes

  pub typed_parameter : Known → Tree → Judged Taken
  typed_parameter k (Parameter s d p) =
      declarator_type k (spec_list s) (derivations k d) >>= λ t. declared_parameter k p.last (name_of d) t
  typed_parameter k _ = Err (broken Undeclared 0)

-- the arguments of a call
abbrev pub arguments_in : Tree → Tree
arguments_in (Call f a p) = a
arguments_in _ = NoArguments

-- a call of what is no built-in function
abbrev pub called_value : Known → Spot → Tree → Judged Expr
called_value k spot (Call f a p) = called k spot p None (typed k Inside f) (typed_arguments k a)
called_value k spot _ = Err (broken Undeclared 0)

-- the type that a parameter's declarator gives
abbrev pub declared_type : Known → Tree → Judged PlainType
declared_type k (Parameter s d p) = declarator_type k (spec_list s) (derivations k d)
declared_type k _ = Err (broken Undeclared 0)

-- the meaning of a whole expression, behind so many sites of its function
abbrev pub typed_expression : PlainScopes → Structs → ℕ → Tree → Judged Expr
typed_expression scopes structs sites e = typed (record { scopes = scopes; structs = structs; parameters = [] }) (Whole (sites + 1)) e
