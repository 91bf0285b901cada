-- When statements and functions could stand in a program, and when a program is sound (C11 6.7 to 6.9).
use Rattle.std.specs.Prelude.{◌≡◌, ◌≤◌, ◌+◌, ℕ, suc, ℤ, Bool, true, false, ◌&&◌, ◌||◌, Option, Some, None, List, [], ◌∷◌, ◌++◌, All, length, map, flat_map, nat_eq, nat_lt, slice_get, is_some, ⊤, if◌then◌else◌}
use Rattle.std.specs.List.{list_any}
use Rattle.std.specs.Option.{option_map, option_to_list, unwrap_or}
use Rattle.std.specs.Ordering.{int_eq}
use Rattle.dc_text.specs.Words.{same as same_name, is_word}
use Rattle.dc_layout.specs.Types.{PlainType, Void, Array, Struct, types, members_of}
use Rattle.dc_num.specs.declared.kind.NumKind.{NumKind}
use Rattle.dc_num.specs.Conversions.{promoted}
use Rattle.dc_num.specs.Kinds.{IsValue}
use Rattle.dc_program.specs.declared.location.Location.{Location}
use Rattle.dc_program.specs.Expressions.{Expr, Typed, Cast, type_of}
use Rattle.dc_program.specs.Statements.{Init, Value, Braces, Inits, NoInits, MoreInits, Variable, Stmt, Declaration, Block, Empty, Expression, Return, ReturnWith, Break, Continue, If, IfElse, While, DoWhile, For, Switch, Case, Default, Stmts, NoStmts, MoreStmts}
use Rattle.dc_program.specs.Programs.{Program, Function, StaticVariable}
use Rattle.dc_program.specs.Clauses.{ConditionStands, OptionStands, OptionContractStands, OptionLoopContractStands}
use Rattle.dc_program.specs.Sites.{sites_of}
use Rattle.dc_program.specs.Stands.{Code, Setting, LocalName, Stands, takes}
use Rattle.dc_program.specs.Types.{bare, is_void, is_sized, number_kind, struct_of}
use Rattle.dc_program.specs.WellFormed.{is_type, is_result, are_parameters}

-- what an expression of a body may name
abbrev pub in_code : List LocalName → Setting
in_code locals = record { text = Code; locals = locals; arguments = []; kept = []; quantified = []; result = None; fresh = false }

-- the whole of a statement: a cast to void stands here alone
abbrev pub WholeStands : Program → List LocalName → Expr → Type 0
WholeStands p locals (Typed Void (Cast e)) = Stands p (in_code locals) e
WholeStands p locals e = Stands p (in_code locals) e

abbrev pub OptionWholeStands : Program → List LocalName → Option Expr → Type 0
OptionWholeStands p locals None = ⊤
OptionWholeStands p locals (Some e) = WholeStands p locals e

pub record ValueStands (p : Program) (locals : List LocalName) (t : PlainType) (e : Expr) : Type 0 where
  pub stands : Stands p (in_code locals) e
  pub taken : takes p.structs t e ≡ true

-- the types of the members of a struct; none where it isn't complete
abbrev pub member_types : Program → ℕ → List PlainType
member_types p s = unwrap_or (members_of p.structs s) []

-- an array and a struct have parts
abbrev pub has_parts : PlainType → Bool
has_parts (Array t n) = true
has_parts (Struct s) = true
has_parts t = false

-- the type of part i, where there is such a part
abbrev pub part_type : Program → PlainType → ℕ → Option PlainType
part_type p (Array t n) i = if nat_lt i n then Some t else None
part_type p (Struct s) i = slice_get (member_types p s) i
part_type p t i = None

-- what a variable of this type begins with: braces stand round an array or a struct, with no more parts than it has
-- (C11 6.7.9)
abbrev mutual
  pub InitStands : Program → List LocalName → Option PlainType → Init → Type 0
  InitStands p locals None (Value e) = ⊥
  InitStands p locals (Some t) (Value e) = ValueStands p locals t e
  InitStands p locals None (Braces is) = ⊥
  InitStands p locals (Some t) (Braces is) = record { whole : has_parts (bare t) ≡ true; parts : PartsStand p locals (bare t) 0 is }

  -- the parts from part i on
  pub PartsStand : Program → List LocalName → PlainType → ℕ → Inits → Type 0
  PartsStand p locals t i NoInits = ⊤
  PartsStand p locals t i (MoreInits init is) = InitStands p locals (part_type p t i) init × PartsStand p locals t (suc i) is

abbrev pub OptionInitStands : Program → List LocalName → PlainType → Option Init → Type 0
OptionInitStands p locals t None = ⊤
OptionInitStands p locals t (Some i) = InitStands p locals (Some t) i

abbrev mutual
  -- a struct value is among the parts
  pub holds_struct : Init → Bool
  holds_struct (Value e) = is_some (struct_of (type_of e))
  holds_struct (Braces is) = hold_struct is

  pub hold_struct : Inits → Bool
  hold_struct NoInits = false
  hold_struct (MoreInits i is) = holds_struct i || hold_struct is

abbrev pub begins_with_struct : Option Init → Bool
begins_with_struct None = false
begins_with_struct (Some i) = holds_struct i

abbrev pub name_of : Variable → LocalName
name_of v = record { number = v.number; type = v.type }

-- variables come into force one after the other, each before its own initializer (C11 6.2.1 p7)
abbrev pub with_variables : List LocalName → List Variable → List LocalName
with_variables locals [] = locals
with_variables locals (v ∷ vs) = with_variables (name_of v ∷ locals) vs

pub record VariableStands (p : Program) (locals : List LocalName) (next : ℕ) (v : Variable) : Type 0 where
  pub number : v.number ≡ next
  pub formed : is_type p.structs v.type ≡ true
  pub sized : is_sized p.structs v.type ≡ true
  pub begins : OptionInitStands p (name_of v ∷ locals) v.type v.init
  pub site : is_some v.site ≡ begins_with_struct v.init

abbrev pub VariablesStand : Program → List LocalName → ℕ → List Variable → Type 0
VariablesStand p locals next [] = ⊤
VariablesStand p locals next (v ∷ vs) = VariableStands p locals next v × VariablesStand p (name_of v ∷ locals) (suc next) vs

-- how many variables a statement declares
abbrev mutual
  pub variables_in : Stmt → ℕ
  variables_in (Declaration vs) = length vs
  variables_in (Block ss) = all_variables ss
  variables_in (If e s) = variables_in s
  variables_in (IfElse e s t) = variables_in s + variables_in t
  variables_in (While l e s) = variables_in s
  variables_in (DoWhile l s e) = variables_in s
  variables_in (For l d e a s) = variables_in d + variables_in s
  variables_in (Switch e ss) = all_variables ss
  variables_in (Case c s) = variables_in s
  variables_in (Default s) = variables_in s
  variables_in s = 0

  pub all_variables : Stmts → ℕ
  all_variables NoStmts = 0
  all_variables (MoreStmts s ss) = variables_in s + all_variables ss

-- the parameters and locals in force behind a statement
abbrev pub names_after : List LocalName → Stmt → List LocalName
names_after locals (Declaration vs) = with_variables locals vs
names_after locals s = locals

-- what is around a statement: loops, switches, and where it stands directly in the block of a switch the kind of its labels
pub record Around : Type 0 where
  pub in_loop : Bool
  pub in_switch : Bool
  pub labels : Option NumKind

abbrev pub inside : Around → Around
inside a = record a { labels = None }

abbrev pub inside_loop : Around → Around
inside_loop a = record { in_loop = true; in_switch = a.in_switch; labels = None }

abbrev pub inside_switch : NumKind → Around → Around
inside_switch k a = record { in_loop = a.in_loop; in_switch = true; labels = Some k }

abbrev pub IsLabel : Option NumKind → ℤ → Type 0
IsLabel None c = ⊥
IsLabel (Some k) c = IsValue k c

abbrev pub is_declaration : Stmt → Bool
is_declaration (Declaration vs) = true
is_declaration s = false

-- what may stand first in a `for`
abbrev pub is_first : Stmt → Bool
is_first (Declaration vs) = true
is_first (Expression e) = true
is_first Empty = true
is_first s = false

-- the labels that stand directly in the block of a switch (C11 6.8.4.2)
abbrev pub cases_of : Stmt → List ℤ
cases_of (Case c s) = c ∷ cases_of s
cases_of (Default s) = cases_of s
cases_of s = []

abbrev pub all_cases : Stmts → List ℤ
all_cases NoStmts = []
all_cases (MoreStmts s ss) = cases_of s ++ all_cases ss

abbrev pub defaults_of : Stmt → ℕ
defaults_of (Case c s) = defaults_of s
defaults_of (Default s) = suc (defaults_of s)
defaults_of s = 0

abbrev pub all_defaults : Stmts → ℕ
all_defaults NoStmts = 0
all_defaults (MoreStmts s ss) = defaults_of s + all_defaults ss

abbrev pub CasesDiffer : List ℤ → Type 0
CasesDiffer [] = ⊤
CasesDiffer (c ∷ cs) = (list_any (int_eq c) cs ≡ false) × CasesDiffer cs

-- a block directly in a switch has its own scope; a switch's kind is that of its promoted value
abbrev pub switch_kind : Expr → Option NumKind
switch_kind e = option_map promoted (number_kind (type_of e))

-- a statement that is a part of another one but a block is no declaration
abbrev mutual
  pub StmtStands : Program → Function → Around → List LocalName → ℕ → Stmt → Type 0
  StmtStands p f a locals next (Declaration vs) = VariablesStand p locals next vs
  StmtStands p f a locals next (Block ss) = StmtsStand p f (inside a) locals next ss
  StmtStands p f a locals next Empty = ⊤
  StmtStands p f a locals next (Expression e) = WholeStands p locals e
  StmtStands p f a locals next Return = is_void f.result ≡ true
  StmtStands p f a locals next (ReturnWith e) = record { gives : is_void f.result ≡ false; value : ValueStands p locals f.result e }
  StmtStands p f a locals next Break = a.in_loop || a.in_switch ≡ true
  StmtStands p f a locals next Continue = a.in_loop ≡ true
  StmtStands p f a locals next (If e s) = record { test : ConditionStands p (in_code locals) e; then : (is_declaration s ≡ false) × StmtStands p f (inside a) locals next s }
  StmtStands p f a locals next (IfElse e s t) = record { test : ConditionStands p (in_code locals) e; then : (is_declaration s ≡ false) × StmtStands p f (inside a) locals next s; otherwise : (is_declaration t ≡ false) × StmtStands p f (inside a) locals (next + variables_in s) t }
  StmtStands p f a locals next (While l e s) = record { contract : OptionLoopContractStands p locals l.contract; test : ConditionStands p (in_code locals) e; body : (is_declaration s ≡ false) × StmtStands p f (inside_loop a) locals next s }
  StmtStands p f a locals next (DoWhile l s e) = record { no_contract : l.contract ≡ None; body : (is_declaration s ≡ false) × StmtStands p f (inside_loop a) locals next s; test : ConditionStands p (in_code locals) e }
  StmtStands p f a locals next (For l d e b s) = record { is_first : is_first d ≡ true; first : StmtStands p f (inside a) locals next d; contract : OptionLoopContractStands p (names_after locals d) l.contract; test : OptionStands p (in_code (names_after locals d)) e; step : OptionWholeStands p (names_after locals d) b; body : (is_declaration s ≡ false) × StmtStands p f (inside_loop a) (names_after locals d) (next + variables_in d) s }
  StmtStands p f a locals next (Switch e ss) = record { value : Stands p (in_code locals) e; body : LabelledStand p f (switch_kind e) a locals next ss; cases : CasesDiffer (all_cases ss); default : all_defaults ss ≤ 1 }
  StmtStands p f a locals next (Case c s) = record { label : IsLabel a.labels c; labelled : (is_declaration s ≡ false) × StmtStands p f a locals next s }
  StmtStands p f a locals next (Default s) = record { label : is_some a.labels ≡ true; labelled : (is_declaration s ≡ false) × StmtStands p f a locals next s }

  -- statements of a block, one behind the other
  pub StmtsStand : Program → Function → Around → List LocalName → ℕ → Stmts → Type 0
  StmtsStand p f a locals next NoStmts = ⊤
  StmtsStand p f a locals next (MoreStmts s ss) = StmtStands p f a locals next s × StmtsStand p f a (names_after locals s) (next + variables_in s) ss

  -- statements directly in a switch are no declarations
  pub LabelledStand : Program → Function → Option NumKind → Around → List LocalName → ℕ → Stmts → Type 0
  LabelledStand p f None a locals next ss = ⊥
  LabelledStand p f (Some k) a locals next NoStmts = ⊤
  LabelledStand p f (Some k) a locals next (MoreStmts s ss) = (is_declaration s ≡ false) × StmtStands p f (inside_switch k a) locals next s × LabelledStand p f (Some k) a locals (next + variables_in s) ss

-- the sites of what a variable begins with, and of statements
abbrev mutual
  pub init_sites : Init → List Location
  init_sites (Value e) = sites_of e
  init_sites (Braces is) = all_init_sites is

  pub all_init_sites : Inits → List Location
  all_init_sites NoInits = []
  all_init_sites (MoreInits i is) = init_sites i ++ all_init_sites is

abbrev pub option_sites : Option Expr → List Location
option_sites None = []
option_sites (Some e) = sites_of e

abbrev pub variable_sites : Variable → List Location
variable_sites v = option_to_list v.site ++ flat_map init_sites (option_to_list v.init)

abbrev mutual
  pub stmt_sites : Stmt → List Location
  stmt_sites (Declaration vs) = flat_map variable_sites vs
  stmt_sites (Block ss) = all_stmt_sites ss
  stmt_sites (Expression e) = sites_of e
  stmt_sites (ReturnWith e) = sites_of e
  stmt_sites (If e s) = sites_of e ++ stmt_sites s
  stmt_sites (IfElse e s t) = sites_of e ++ stmt_sites s ++ stmt_sites t
  stmt_sites (While l e s) = sites_of e ++ stmt_sites s
  stmt_sites (DoWhile l s e) = stmt_sites s ++ sites_of e
  stmt_sites (For l d e b s) = stmt_sites d ++ option_sites e ++ option_sites b ++ stmt_sites s
  stmt_sites (Switch e ss) = sites_of e ++ all_stmt_sites ss
  stmt_sites (Case c s) = stmt_sites s
  stmt_sites (Default s) = stmt_sites s
  stmt_sites s = []

  pub all_stmt_sites : Stmts → List Location
  all_stmt_sites NoStmts = []
  all_stmt_sites (MoreStmts s ss) = stmt_sites s ++ all_stmt_sites ss

-- the loops of statements
abbrev mutual
  pub loops_of : Stmt → List Location
  loops_of (Block ss) = all_loops ss
  loops_of (If e s) = loops_of s
  loops_of (IfElse e s t) = loops_of s ++ loops_of t
  loops_of (While l e s) = l.location ∷ loops_of s
  loops_of (DoWhile l s e) = l.location ∷ loops_of s
  loops_of (For l d e b s) = l.location ∷ loops_of s
  loops_of (Switch e ss) = all_loops ss
  loops_of (Case c s) = loops_of s
  loops_of (Default s) = loops_of s
  loops_of s = []

  pub all_loops : Stmts → List Location
  all_loops NoStmts = []
  all_loops (MoreStmts s ss) = loops_of s ++ all_loops ss

abbrev pub NumbersDiffer : List Location → Type 0
NumbersDiffer [] = ⊤
NumbersDiffer (l ∷ ls) = (list_any (λ m. nat_eq l.number m.number) ls ≡ false) × NumbersDiffer ls

abbrev pub NamesDiffer : List (List ℕ) → Type 0
NamesDiffer [] = ⊤
NamesDiffer (n ∷ ns) = (list_any (same_name n) ns ≡ false) × NamesDiffer ns

-- the parameters, numbered before all locals
abbrev pub parameters_from : ℕ → List PlainType → List LocalName
parameters_from n [] = []
parameters_from n (t ∷ ts) = record { number = n; type = t } ∷ parameters_from (suc n) ts

abbrev pub outside : Around
outside = record { in_loop = false; in_switch = false; labels = None }

-- a body is a block; its own scope is that of the parameters (C11 6.2.1 p4)
pub record BlockStands (p : Program) (f : Function) (ss : Stmts) : Type 0 where
  pub statements : StmtsStand p f outside (parameters_from 0 f.params) (length f.params) ss
  pub sites : NumbersDiffer (all_stmt_sites ss)
  pub loops : NumbersDiffer (all_loops ss)

abbrev pub BodyStands : Program → Function → Option Stmt → Type 0
BodyStands p f None = ⊤
BodyStands p f (Some (Block ss)) = BlockStands p f ss
BodyStands p f (Some s) = ⊥

pub record FunctionStands (p : Program) (f : Function) : Type 0 where
  pub name : is_word f.name ≡ true
  pub result : is_type p.structs f.result && is_result f.result ≡ true
  pub params : are_parameters p.structs (types f.params) ≡ true
  pub contract : OptionContractStands p f f.contract
  pub body : BodyStands p f f.body

pub record StaticStands (p : Program) (v : StaticVariable) : Type 0 where
  pub name : is_word v.name ≡ true
  pub formed : is_type p.structs v.type ≡ true
  pub sized : is_sized p.structs v.type ≡ true

abbrev pub names_of : Program → List (List ℕ)
names_of p = map (λ f. f.name) p.functions ++ map (λ v. v.name) p.statics

-- so many functions and variables of file scope there are at most
abbrev pub most_names : ℕ
most_names = 32767

pub record Sound (p : Program) : Type 0 where
  pub functions : All (FunctionStands p) p.functions
  pub statics : All (StaticStands p) p.statics
  pub names : NamesDiffer (names_of p)
  pub few : length (names_of p) ≤ most_names
