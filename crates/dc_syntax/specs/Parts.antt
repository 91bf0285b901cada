-- The trees of initializers, clauses, statements, declarations and units.
use Rattle.std.specs.Prelude.{ℕ, suc, Bool, true, false, ◌||◌, ◌&&◌, max}
use Rattle.dc_syntax.specs.Tokens.{Place}
use Rattle.dc_syntax.specs.Names.{Names}
use Rattle.dc_syntax.specs.Trees.{Tree, declared, naming, inside, is_typedef, height}

-- One variant for each alternative, with its parts and its place. Lists and what may be left away have no place.
pub data Part : Type 0 where
  -- init
  Single : Tree → Part
  Braces : Part → Part → Place → Part
  NoInits : Part
  Inits : Part → Part → Part
  -- init-decl
  Plain : Tree → Place → Part
  Initialized : Tree → Part → Place → Part
  NoMoreDeclared : Part
  MoreDeclared : Part → Part → Part
  NoneDeclared : Part
  SomeDeclared : Part → Part → Part
  -- fclause and lclause
  Requires : Tree → Place → Part
  Ensures : Tree → Place → Part
  Assigns : Part → Place → Part
  Frees : Part → Place → Part
  LoopInvariant : Tree → Place → Part
  Decreases : Tree → Tree → Place → Part
  NoGroups : Part
  Groups : Part → Part → Part
  NoMoreGroups : Part
  MoreGroups : Part → Part → Part
  Group : Tree → Tree → Place → Part
  GroupIf : Tree → Tree → Tree → Place → Part
  NoClauses : Part
  Clauses : Part → Part → Part
  -- statements
  Block : Part → Place → Part
  Empty : Place → Part
  Simple : Tree → Place → Part
  Return : Place → Part
  ReturnValue : Tree → Place → Part
  Break : Place → Part
  Continue : Place → Part
  If : Tree → Part → Place → Part
  IfElse : Tree → Part → Part → Place → Part
  While : Tree → Part → Part → Place → Part
  Do : Part → Tree → Part → Place → Part
  For : Part → Part → Part → Part → Part → Place → Part
  Switch : Tree → Part → Place → Part
  Case : Tree → Part → Place → Part
  Default : Part → Place → Part
  NoStep : Part
  Step : Tree → Part
  FirstDeclaration : Tree → Part → Part → Place → Part
  NoItems : Part
  Items : Part → Part → Part
  -- declarations and definitions
  Declaration : Tree → Part → Place → Part
  Definition : Tree → Tree → Part → Part → Place → Part
  Prototype : Tree → Tree → Part → Part → Place → Part
  NoExternals : Part
  Externals : Part → Part → Part

abbrev pub is_init : Part → Bool
is_init (Single e) = true
is_init (Braces i m p) = true
is_init _ = false

abbrev pub is_inits : Part → Bool
is_inits NoInits = true
is_inits (Inits i m) = true
is_inits _ = false

abbrev pub is_init_decl : Part → Bool
is_init_decl (Plain d p) = true
is_init_decl (Initialized d i p) = true
is_init_decl _ = false

abbrev pub is_more_declared : Part → Bool
is_more_declared NoMoreDeclared = true
is_more_declared (MoreDeclared a m) = true
is_more_declared _ = false

abbrev pub is_declared : Part → Bool
is_declared NoneDeclared = true
is_declared (SomeDeclared a m) = true
is_declared _ = false

-- the clauses of functions, and of loops
abbrev pub is_function_clause : Part → Bool
is_function_clause (Requires c p) = true
is_function_clause (Ensures c p) = true
is_function_clause (Assigns g p) = true
is_function_clause (Frees g p) = true
is_function_clause _ = false

abbrev pub is_loop_clause : Part → Bool
is_loop_clause (Assigns g p) = true
is_loop_clause (LoopInvariant c p) = true
is_loop_clause (Decreases c m p) = true
is_loop_clause _ = false

abbrev pub is_groups : Part → Bool
is_groups NoGroups = true
is_groups (Groups g m) = true
is_groups _ = false

abbrev pub is_more_groups : Part → Bool
is_more_groups NoMoreGroups = true
is_more_groups (MoreGroups g m) = true
is_more_groups _ = false

abbrev pub is_group : Part → Bool
is_group (Group c m p) = true
is_group (GroupIf c d m p) = true
is_group _ = false

abbrev pub are_function_clauses : Part → Bool
are_function_clauses NoClauses = true
are_function_clauses (Clauses c m) = is_function_clause c && are_function_clauses m
are_function_clauses _ = false

abbrev pub are_loop_clauses : Part → Bool
are_loop_clauses NoClauses = true
are_loop_clauses (Clauses c m) = is_loop_clause c && are_loop_clauses m
are_loop_clauses _ = false

abbrev pub is_block : Part → Bool
is_block (Block m p) = true
is_block _ = false

abbrev pub is_statement : Part → Bool
is_statement (Block m p) = true
is_statement (Empty p) = true
is_statement (Simple e p) = true
is_statement (Return p) = true
is_statement (ReturnValue e p) = true
is_statement (Break p) = true
is_statement (Continue p) = true
is_statement (If e a p) = true
is_statement (IfElse e a b p) = true
is_statement (While e c a p) = true
is_statement (Do a e c p) = true
is_statement (For f e s c a p) = true
is_statement (Switch e a p) = true
is_statement (Case c a p) = true
is_statement (Default a p) = true
is_statement _ = false

-- the parts of a `for`: an expression that may be left away, or at first a declaration
abbrev pub is_step_part : Part → Bool
is_step_part NoStep = true
is_step_part (Step e) = true
is_step_part _ = false

abbrev pub is_first_part : Part → Bool
is_first_part (FirstDeclaration s a m p) = true
is_first_part f = is_step_part f

abbrev pub is_items : Part → Bool
is_items NoItems = true
is_items (Items a m) = true
is_items _ = false

abbrev pub is_declaration : Part → Bool
is_declaration (Declaration s d p) = true
is_declaration _ = false

abbrev pub is_item : Part → Bool
is_item a = is_statement a || is_declaration a

abbrev pub is_external : Part → Bool
is_external (Definition s d c b p) = true
is_external (Prototype s d c m p) = true
is_external a = is_declaration a

abbrev pub is_unit : Part → Bool
is_unit NoExternals = true
is_unit (Externals a m) = true
is_unit _ = false

-- no declarator at all
abbrev pub declares_none : Part → Bool
declares_none NoneDeclared = true
declares_none _ = false

-- A statement is open through its last part only: an `else` behind it would be its own. A block or a `do` is closed whatever is in it.
abbrev pub is_closed : Part → Bool
is_closed (If e a p) = false
is_closed (IfElse e a b p) = is_closed b
is_closed (While e c a p) = is_closed a
is_closed (For f e s c a p) = is_closed a
is_closed (Switch e a p) = is_closed a
is_closed (Case c a p) = is_closed a
is_closed (Default a p) = is_closed a
is_closed _ = true

-- the names in force behind init-decls, which are typedefs or not
abbrev pub declaring : Bool → Part → Names → Names
declaring t (Plain d p) env = naming d t env
declaring t (Initialized d i p) env = naming d t env
declaring t (SomeDeclared a m) env = declaring t m (declaring t a env)
declaring t (MoreDeclared a m) env = declaring t m (declaring t a env)
declaring t _ env = env

-- The names in force behind a part (C11 6.2.1): a block, a `for` and a function keep theirs to themselves.
abbrev pub in_force_behind : Part → Names → Names
in_force_behind (FirstDeclaration s a m p) env = declaring (is_typedef s) m (declaring (is_typedef s) a (declared s env))
in_force_behind (Declaration s d p) env = declaring (is_typedef s) d (declared s env)
in_force_behind (Definition s d c b p) env = naming d (is_typedef s) (declared s env)
in_force_behind (Prototype s d c m p) env = naming d (is_typedef s) (declared s env)
in_force_behind _ env = env

-- the names in force in the clauses and the block of a function: its own name and its own parameters
abbrev pub within_function : Tree → Tree → Names → Names
within_function s d env = inside d (naming d (is_typedef s) (declared s env))

-- each statement, block, clause, declaration, definition and braced init has 1 more than its parts; lists, groups and init-decls nothing of their own
abbrev pub height_of : Part → ℕ
height_of (Single e) = height e
height_of (Braces i m p) = suc (max (height_of i) (height_of m))
height_of NoInits = 0
height_of (Inits i m) = max (height_of i) (height_of m)
height_of (Plain d p) = height d
height_of (Initialized d i p) = max (height d) (height_of i)
height_of NoMoreDeclared = 0
height_of (MoreDeclared a m) = max (height_of a) (height_of m)
height_of NoneDeclared = 0
height_of (SomeDeclared a m) = max (height_of a) (height_of m)
height_of (Requires c p) = suc (height c)
height_of (Ensures c p) = suc (height c)
height_of (Assigns g p) = suc (height_of g)
height_of (Frees g p) = suc (height_of g)
height_of (LoopInvariant c p) = suc (height c)
height_of (Decreases c m p) = suc (max (height c) (height m))
height_of NoGroups = 0
height_of (Groups g m) = max (height_of g) (height_of m)
height_of NoMoreGroups = 0
height_of (MoreGroups g m) = max (height_of g) (height_of m)
height_of (Group c m p) = max (height c) (height m)
height_of (GroupIf c d m p) = max (height c) (max (height d) (height m))
height_of NoClauses = 0
height_of (Clauses c m) = max (height_of c) (height_of m)
height_of (Block m p) = suc (height_of m)
height_of (Empty p) = 1
height_of (Simple e p) = suc (height e)
height_of (Return p) = 1
height_of (ReturnValue e p) = suc (height e)
height_of (Break p) = 1
height_of (Continue p) = 1
height_of (If e a p) = suc (max (height e) (height_of a))
height_of (IfElse e a b p) = suc (max (height e) (max (height_of a) (height_of b)))
height_of (While e c a p) = suc (max (height e) (max (height_of c) (height_of a)))
height_of (Do a e c p) = suc (max (height_of a) (max (height e) (height_of c)))
height_of (For f e s c a p) = suc (max (height_of f) (max (height_of e) (max (height_of s) (max (height_of c) (height_of a)))))
height_of (Switch e a p) = suc (max (height e) (height_of a))
height_of (Case c a p) = suc (max (height c) (height_of a))
height_of (Default a p) = suc (height_of a)
height_of NoStep = 0
height_of (Step e) = height e
height_of (FirstDeclaration s a m p) = suc (max (height s) (max (height_of a) (height_of m)))
height_of NoItems = 0
height_of (Items a m) = max (height_of a) (height_of m)
height_of (Declaration s d p) = suc (max (height s) (height_of d))
height_of (Definition s d c b p) = suc (max (height s) (max (height d) (max (height_of c) (height_of b))))
height_of (Prototype s d c m p) = suc (max (height s) (max (height d) (max (height_of c) (height_of m))))
height_of NoExternals = 0
height_of (Externals a m) = max (height_of a) (height_of m)
