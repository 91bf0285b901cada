-- Which tokens spell which initializer, clause, statement, declaration and unit (C11 6.7.9, 6.8, 6.9), with a table of the names in force.
use Rattle.std.specs.Prelude.{◌≡◌, Bool, true, false, not, ◌||◌, List}
use Rattle.dc_syntax.specs.declared.mark.Mark.TheVariants.{LeftParen, RightParen, LeftBrace, RightBrace, Semicolon, Comma, Colon, Equals}
use Rattle.dc_syntax.specs.Tokens.{Token, break_word, case_word, continue_word, default_word, do_word, else_word, for_word, if_word, return_word, switch_word, while_word, requires_word, ensures_word, assigns_word, frees_word, loop_invariant_word, decreases_word}
use Rattle.dc_syntax.specs.Names.{Names, first_names}
use Rattle.dc_syntax.specs.Trees.{Condition, Tree, IsMore, has_tag, is_typedef, naming, declared}
use Rattle.dc_syntax.specs.Phrases.{IsEmpty, ◌⊙◌, IsWord, mark, Where, Sorted, Placed, Maybe}
use Rattle.dc_syntax.specs.Grammar.{expression, condition, declarator, specs, behind, Is}
use Rattle.dc_syntax.specs.Parts.{Part, Single, Braces, NoInits, Inits, Plain, Initialized, NoMoreDeclared, MoreDeclared, NoneDeclared, SomeDeclared, Requires, Ensures, Assigns, Frees, LoopInvariant, Decreases, NoGroups, Groups, NoMoreGroups, MoreGroups, Group, GroupIf, NoClauses, Clauses, Block, Empty, Simple, Return, ReturnValue, Break, Continue, If, IfElse, While, Do, For, Switch, Case, Default, NoStep, Step, FirstDeclaration, NoItems, Items, Declaration, Definition, Prototype, NoExternals, Externals, is_init, is_inits, is_init_decl, is_more_declared, is_declared, is_function_clause, is_groups, is_more_groups, is_group, are_function_clauses, are_loop_clauses, is_block, is_statement, is_step_part, is_first_part, is_items, is_item, is_external, is_unit, declares_none, is_closed, declaring, in_force_behind, within_function}

-- a condition of an expression, in parentheses
abbrev pub tested : Names → Tree → List Token → Type 0
tested env e = mark LeftParen ⊙ expression e (Is env e) ⊙ mark RightParen

abbrev pub conditions : Names → Tree → List Token → Type 0
conditions env m = Sorted (IsMore Condition) m (Is env m)

-- The first name of an init-decl is in force in its initializer; t: it is a typedef.
abbrev pub Spells : Names → Bool → Part → List Token → Type 0
-- init (C11 6.7.9)
Spells env t (Single e) = expression e (Is env e)
Spells env t (Braces i m p) = Placed p (mark LeftBrace ⊙ Where (is_init i) (Spells env t i) ⊙ Where (is_inits m) (Spells env t m) ⊙ Maybe (mark Comma) ⊙ mark RightBrace)
Spells env t NoInits = IsEmpty
Spells env t (Inits i m) = mark Comma ⊙ Where (is_init i) (Spells env t i) ⊙ Where (is_inits m) (Spells env t m)
-- init-decl (C11 6.7)
Spells env t (Plain d p) = Placed p (declarator d (Is env d))
Spells env t (Initialized d i p) = Placed p (declarator d (Is env d) ⊙ mark Equals ⊙ Where (is_init i) (Spells (naming d t env) t i))
-- {, init-decl}
Spells env t NoMoreDeclared = IsEmpty
Spells env t (MoreDeclared a m) = mark Comma ⊙ Where (is_init_decl a) (Spells env t a) ⊙ Where (is_more_declared m) (Spells (declaring t a env) t m)
-- [init-decl {, init-decl}]
Spells env t NoneDeclared = IsEmpty
Spells env t (SomeDeclared a m) = Where (is_init_decl a) (Spells env t a) ⊙ Where (is_more_declared m) (Spells (declaring t a env) t m)
-- fclause and lclause
Spells env t (Requires c p) = Placed p (IsWord requires_word ⊙ mark LeftParen ⊙ condition c (Is env c) ⊙ mark RightParen)
Spells env t (Ensures c p) = Placed p (IsWord ensures_word ⊙ mark LeftParen ⊙ condition c (Is env c) ⊙ mark RightParen)
Spells env t (Assigns g p) = Placed p (IsWord assigns_word ⊙ mark LeftParen ⊙ Where (is_groups g) (Spells env t g) ⊙ mark RightParen)
Spells env t (Frees g p) = Placed p (IsWord frees_word ⊙ mark LeftParen ⊙ Where (is_groups g) (Spells env t g) ⊙ mark RightParen)
Spells env t (LoopInvariant c p) = Placed p (IsWord loop_invariant_word ⊙ mark LeftParen ⊙ condition c (Is env c) ⊙ mark RightParen)
Spells env t (Decreases c m p) = Placed p (IsWord decreases_word ⊙ mark LeftParen ⊙ condition c (Is env c) ⊙ conditions env m ⊙ mark RightParen)
-- [groups]
Spells env t NoGroups = IsEmpty
Spells env t (Groups g m) = Where (is_group g) (Spells env t g) ⊙ Where (is_more_groups m) (Spells env t m)
Spells env t NoMoreGroups = IsEmpty
Spells env t (MoreGroups g m) = mark Semicolon ⊙ Where (is_group g) (Spells env t g) ⊙ Where (is_more_groups m) (Spells env t m)
-- group
Spells env t (Group c m p) = Placed p (condition c (Is env c) ⊙ conditions env m)
Spells env t (GroupIf c d m p) = Placed p (condition c (Is env c) ⊙ mark Colon ⊙ condition d (Is env d) ⊙ conditions env m)
-- {fclause} and {lclause}
Spells env t NoClauses = IsEmpty
Spells env t (Clauses c m) = Spells env t c ⊙ Spells env t m
-- block (C11 6.8.2)
Spells env t (Block m p) = Placed p (mark LeftBrace ⊙ Where (is_items m) (Spells env t m) ⊙ mark RightBrace)
-- statement (C11 6.8)
Spells env t (Empty p) = Placed p (mark Semicolon)
Spells env t (Simple e p) = Placed p (expression e (Is env e) ⊙ mark Semicolon)
Spells env t (Return p) = Placed p (IsWord return_word ⊙ mark Semicolon)
Spells env t (ReturnValue e p) = Placed p (IsWord return_word ⊙ expression e (Is env e) ⊙ mark Semicolon)
Spells env t (Break p) = Placed p (IsWord break_word ⊙ mark Semicolon)
Spells env t (Continue p) = Placed p (IsWord continue_word ⊙ mark Semicolon)
Spells env t (If e a p) = Placed p (IsWord if_word ⊙ tested env e ⊙ Where (is_statement a) (Spells env t a))
Spells env t (IfElse e a b p) = Placed p (IsWord if_word ⊙ tested env e ⊙ Where (is_closed a) (Where (is_statement a) (Spells env t a)) ⊙ IsWord else_word ⊙ Where (is_statement b) (Spells env t b))
Spells env t (While e c a p) = Placed p (IsWord while_word ⊙ tested env e ⊙ Where (are_loop_clauses c) (Spells env t c) ⊙ Where (is_statement a) (Spells env t a))
Spells env t (Do a e c p) = Placed p (IsWord do_word ⊙ Where (is_statement a) (Spells env t a) ⊙ IsWord while_word ⊙ tested env e ⊙ Where (are_loop_clauses c) (Spells env t c) ⊙ mark Semicolon)
Spells env t (For f e s c a p) = Placed p (IsWord for_word ⊙ mark LeftParen ⊙ Where (is_first_part f) (Spells env t f) ⊙ mark Semicolon ⊙ Where (is_step_part e) (Spells (in_force_behind f env) t e) ⊙ mark Semicolon ⊙ Where (is_step_part s) (Spells (in_force_behind f env) t s) ⊙ mark RightParen ⊙ Where (are_loop_clauses c) (Spells (in_force_behind f env) t c) ⊙ Where (is_statement a) (Spells (in_force_behind f env) t a))
Spells env t (Switch e a p) = Placed p (IsWord switch_word ⊙ tested env e ⊙ Where (is_statement a) (Spells env t a))
Spells env t (Case c a p) = Placed p (IsWord case_word ⊙ condition c (Is env c) ⊙ mark Colon ⊙ Where (is_statement a) (Spells env t a))
Spells env t (Default a p) = Placed p (IsWord default_word ⊙ mark Colon ⊙ Where (is_statement a) (Spells env t a))
-- the parts of a `for`
Spells env t NoStep = IsEmpty
Spells env t (Step e) = expression e (Is env e)
Spells env t (FirstDeclaration s a m p) = Placed p (specs s (Is env s) ⊙ behind (declared s env) s (Where (is_init_decl a) (Spells (declared s env) (is_typedef s) a)) ⊙ Where (is_more_declared m) (Spells (declaring (is_typedef s) a (declared s env)) (is_typedef s) m))
-- what stands in a block
Spells env t NoItems = IsEmpty
Spells env t (Items a m) = Where (is_item a) (Spells env t a) ⊙ Where (is_items m) (Spells (in_force_behind a env) t m)
-- a declaration (C11 6.7); without a declarator it declares a tag
Spells env t (Declaration s d p) = Placed p (Where (not (declares_none d) || has_tag s) (specs s (Is env s) ⊙ behind (declared s env) s (Where (is_declared d) (Spells (declared s env) (is_typedef s) d)) ⊙ mark Semicolon))
-- external (C11 6.9)
Spells env t (Definition s d c b p) = Placed p (specs s (Is env s) ⊙ behind (declared s env) s (declarator d (Is (declared s env) d)) ⊙ Where (are_function_clauses c) (Spells (within_function s d env) t c) ⊙ Where (is_block b) (Spells (within_function s d env) t b))
Spells env t (Prototype s d c m p) = Placed p (specs s (Is env s) ⊙ behind (declared s env) s (declarator d (Is (declared s env) d)) ⊙ Where (is_function_clause c) (Spells (within_function s d env) t c) ⊙ Where (are_function_clauses m) (Spells (within_function s d env) t m) ⊙ mark Semicolon)
-- unit
Spells env t NoExternals = IsEmpty
Spells env t (Externals a m) = Where (is_external a) (Spells env t a) ⊙ Where (is_unit m) (Spells (in_force_behind a env) t m)

-- the tokens of a whole unit
pub record SpellsUnit (tokens : List Token) (unit : Part) : Type 0 where
  pub whole : is_unit unit ≡ true
  pub spelled : Spells first_names false unit tokens
