-- How initializers, clauses, statements, declarations and units are read from the left, with a budget of height.
use Rattle.std.specs.Prelude.{ℕ, zero, suc, Bool, if◌then◌else◌, ◌||◌, not, List, [], ◌∷◌, length}
use Rattle.dc_syntax.specs.declared.mark.Mark.TheVariants.{LeftParen, RightParen, LeftBrace, RightBrace, Semicolon, Comma, Colon, Equals}
use Rattle.dc_syntax.specs.Tokens.{Word, Marked, Token, Place, break_word, case_word, continue_word, default_word, do_word, else_word, for_word, if_word, return_word, switch_word, while_word, requires_word, ensures_word, assigns_word, frees_word, loop_invariant_word, decreases_word}
use Rattle.dc_syntax.specs.Names.{Names, first_names}
use Rattle.dc_syntax.specs.Trees.{Condition, Tree, has_tag, is_typedef, naming, declared}
use Rattle.dc_syntax.specs.Phrases.{begins_specs, leaves}
use Rattle.dc_syntax.specs.Parts.{is_block, Part, Single, Braces, NoInits, Inits, Plain, Initialized, NoMoreDeclared, MoreDeclared, NoneDeclared, SomeDeclared, Requires, Ensures, Assigns, Frees, LoopInvariant, Decreases, NoGroups, Groups, NoMoreGroups, MoreGroups, Group, GroupIf, NoClauses, Clauses, Block, Empty, Simple, Return, ReturnValue, Break, Continue, If, IfElse, While, Do, For, Switch, Case, Default, NoStep, Step, FirstDeclaration, NoItems, Items, Declaration, Definition, Prototype, NoExternals, Externals, are_function_clauses, are_loop_clauses, declares_none, declaring, in_force_behind, within_function}
use Rattle.dc_syntax.specs.Reading.{Out, Nothing, Found, next, checked, found, begins, eat, Reads, Upto, more, has_more, declarator_named, specs, reads}

-- what has a height of its own
pub data PartKind : Type 0 where
  BracesOf : PartKind
  ClauseOf : PartKind
  StatementOf : PartKind
  FirstOf : PartKind
  DeclarationOf : PartKind
  ExternalOf : PartKind

-- the readers below; t: what is declared is a typedef
abbrev pub PartReads : Type 0
PartReads = PartKind → Names → List Token → Out Part

-- init
abbrev pub init : Reads → PartReads → Names → List Token → Out Part
init r q env ts = if begins (Marked LeftBrace) ts then q BracesOf env ts else next (r (Upto 16) env ts) (λ e rest. Found (Single e) rest)

abbrev pub inits : Reads → PartReads → Names → ℕ → List Token → Out Part
inits r q env zero ts = Found NoInits ts
inits r q env (suc n) ts =
    if has_more ts
    then eat (Marked Comma) ts (λ ts. next (init r q env ts) (λ i rest. next (inits r q env n rest) (λ m rest. Found (Inits i m) rest)))
    else Found NoInits ts

abbrev pub braces_end : List Token → Part → Part → List Token → Out Part
braces_end all i m rest =
    if begins (Marked Comma) rest then eat (Marked Comma) rest (λ rest. eat (Marked RightBrace) rest (λ rest. found all (Braces i m) rest))
    else eat (Marked RightBrace) rest (λ rest. found all (Braces i m) rest)

abbrev pub braces : Reads → PartReads → Names → List Token → Out Part
braces r q env all =
    eat (Marked LeftBrace) all (λ ts. next (init r q env ts) (λ i rest. next (inits r q env (length rest) rest) (λ m rest. braces_end all i m rest)))

-- init-decl
abbrev pub init_decl : Reads → PartReads → Names → Bool → List Token → Out Part
init_decl r q env t all =
    next (declarator_named r env all) (λ d rest.
    if begins (Marked Equals) rest then eat (Marked Equals) rest (λ ts. next (init r q (naming d t env) ts) (λ i rest. found all (Initialized d i) rest))
    else found all (Plain d) rest)

abbrev pub more_declared : Reads → PartReads → Names → Bool → ℕ → List Token → Out Part
more_declared r q env t zero ts = Found NoMoreDeclared ts
more_declared r q env t (suc n) ts =
    if begins (Marked Comma) ts
    then eat (Marked Comma) ts (λ ts. next (init_decl r q env t ts) (λ a rest. next (more_declared r q (declaring t a env) t n rest) (λ m rest. Found (MoreDeclared a m) rest)))
    else Found NoMoreDeclared ts

abbrev pub some_declared : Reads → PartReads → Names → Bool → List Token → Out Part
some_declared r q env t ts =
    if begins (Marked Semicolon) ts then Found NoneDeclared ts
    else next (init_decl r q env t ts) (λ a rest. next (more_declared r q (declaring t a env) t (length rest) rest) (λ m rest. Found (SomeDeclared a m) rest))

abbrev pub declaration_from : Reads → PartReads → Names → List Token → Tree → List Token → Out Part
declaration_from r q env all s rest =
    next (some_declared r q (declared s env) (is_typedef s) rest) (λ d rest. checked (not (declares_none d) || has_tag s) (eat (Marked Semicolon) rest (λ rest. found all (Declaration s d) rest)))

abbrev pub declaration : Reads → PartReads → ℕ → Names → List Token → Out Part
declaration r q h env all = next (specs r h env all) (λ s rest. checked (leaves (declared s env) s rest) (declaration_from r q env all s rest))

abbrev pub first_declaration : Reads → PartReads → ℕ → Names → List Token → Out Part
first_declaration r q h env all =
    next (specs r h env all) (λ s rest. checked (leaves (declared s env) s rest) (next (init_decl r q (declared s env) (is_typedef s) rest) (λ a rest.
    next (more_declared r q (declaring (is_typedef s) a (declared s env)) (is_typedef s) (length rest) rest) (λ m rest. found all (FirstDeclaration s a m) rest))))

-- groups
abbrev pub conditions : Reads → Names → List Token → Out Tree
conditions r env ts = more (r (Upto 15)) Condition env (length ts) ts

abbrev pub group : Reads → Names → List Token → Out Part
group r env all =
    next (r (Upto 15) env all) (λ c rest.
    if begins (Marked Colon) rest
    then eat (Marked Colon) rest (λ ts. next (r (Upto 15) env ts) (λ d rest. next (conditions r env rest) (λ m rest. found all (GroupIf c d m) rest)))
    else next (conditions r env rest) (λ m rest. found all (Group c m) rest))

abbrev pub more_groups : Reads → Names → ℕ → List Token → Out Part
more_groups r env zero ts = Found NoMoreGroups ts
more_groups r env (suc n) ts =
    if begins (Marked Semicolon) ts
    then eat (Marked Semicolon) ts (λ ts. next (group r env ts) (λ g rest. next (more_groups r env n rest) (λ m rest. Found (MoreGroups g m) rest)))
    else Found NoMoreGroups ts

abbrev pub groups : Reads → Names → List Token → Out Part
groups r env ts =
    if begins (Marked RightParen) ts then Found NoGroups ts
    else next (group r env ts) (λ g rest. next (more_groups r env (length rest) rest) (λ m rest. Found (Groups g m) rest))

-- clauses
abbrev pub in_parens : Reads → Names → List Token → List Token → (Tree → Place → Part) → Out Part
in_parens r env all ts node = eat (Marked LeftParen) ts (λ ts. next (r (Upto 15) env ts) (λ c rest. eat (Marked RightParen) rest (λ rest. found all (node c) rest)))

abbrev pub grouped : Reads → Names → List Token → List Token → (Part → Place → Part) → Out Part
grouped r env all ts node = eat (Marked LeftParen) ts (λ ts. next (groups r env ts) (λ g rest. eat (Marked RightParen) rest (λ rest. found all (node g) rest)))

abbrev pub decreases : Reads → Names → List Token → List Token → Out Part
decreases r env all ts =
    eat (Marked LeftParen) ts (λ ts. next (r (Upto 15) env ts) (λ c rest. next (conditions r env rest) (λ m rest. eat (Marked RightParen) rest (λ rest. found all (Decreases c m) rest))))

abbrev pub clause : Reads → Names → List Token → Out Part
clause r env all =
    if begins requires_word all then eat requires_word all (λ ts. in_parens r env all ts Requires)
    else (if begins ensures_word all then eat ensures_word all (λ ts. in_parens r env all ts Ensures)
    else (if begins assigns_word all then eat assigns_word all (λ ts. grouped r env all ts Assigns)
    else (if begins frees_word all then eat frees_word all (λ ts. grouped r env all ts Frees)
    else (if begins loop_invariant_word all then eat loop_invariant_word all (λ ts. in_parens r env all ts LoopInvariant)
    else eat decreases_word all (λ ts. decreases r env all ts)))))

abbrev pub begins_clause : List Token → Bool
begins_clause ts =
    begins requires_word ts || (begins ensures_word ts || (begins assigns_word ts || (begins frees_word ts || (begins loop_invariant_word ts || begins decreases_word ts))))

abbrev pub clauses : PartReads → Names → ℕ → List Token → Out Part
clauses q env zero ts = Found NoClauses ts
clauses q env (suc n) ts =
    if begins_clause ts then next (q ClauseOf env ts) (λ c rest. next (clauses q env n rest) (λ m rest. Found (Clauses c m) rest)) else Found NoClauses ts

abbrev pub loop_clauses : PartReads → Names → List Token → Out Part
loop_clauses q env ts = next (clauses q env (length ts) ts) (λ c rest. checked (are_loop_clauses c) (Found c rest))

abbrev pub function_clauses : PartReads → Names → List Token → Out Part
function_clauses q env ts = next (clauses q env (length ts) ts) (λ c rest. checked (are_function_clauses c) (Found c rest))

-- statements
abbrev pub items : PartReads → Names → ℕ → List Token → Out Part
items q env zero ts = Found NoItems ts
items q env (suc n) ts =
    if begins (Marked RightBrace) ts then Found NoItems ts
    else next (if begins_specs env ts then q DeclarationOf env ts else q StatementOf env ts) (λ a rest. next (items q (in_force_behind a env) n rest) (λ m rest. Found (Items a m) rest))

abbrev pub block : PartReads → Names → List Token → Out Part
block q env all = eat (Marked LeftBrace) all (λ ts. next (items q env (length ts) ts) (λ m rest. eat (Marked RightBrace) rest (λ rest. found all (Block m) rest)))

abbrev pub tested : Reads → Names → List Token → (Tree → List Token → Out Part) → Out Part
tested r env ts go = eat (Marked LeftParen) ts (λ ts. next (r (Upto 16) env ts) (λ e rest. eat (Marked RightParen) rest (λ rest. go e rest)))

abbrev pub ended : List Token → List Token → (Place → Part) → Out Part
ended all ts node = eat (Marked Semicolon) ts (λ rest. found all node rest)

abbrev pub returned : Reads → Names → List Token → List Token → Out Part
returned r env all ts = if begins (Marked Semicolon) ts then ended all ts Return else next (r (Upto 16) env ts) (λ e rest. ended all rest (ReturnValue e))

abbrev pub branch : Reads → PartReads → Names → List Token → List Token → Out Part
branch r q env all ts = tested r env ts (λ e ts. next (q StatementOf env ts) (λ a rest.
    if begins else_word rest then eat else_word rest (λ ts. next (q StatementOf env ts) (λ b rest. found all (IfElse e a b) rest)) else found all (If e a) rest))

abbrev pub while_loop : Reads → PartReads → Names → List Token → List Token → Out Part
while_loop r q env all ts = tested r env ts (λ e ts. next (loop_clauses q env ts) (λ c ts. next (q StatementOf env ts) (λ a rest. found all (While e c a) rest)))

abbrev pub do_loop : Reads → PartReads → Names → List Token → List Token → Out Part
do_loop r q env all ts =
    next (q StatementOf env ts) (λ a rest. eat while_word rest (λ ts. tested r env ts (λ e ts. next (loop_clauses q env ts) (λ c rest. ended all rest (Do a e c)))))

abbrev pub optional : Reads → Names → Word → List Token → (Part → List Token → Out Part) → Out Part
optional r env w ts go = if begins w ts then eat w ts (λ rest. go NoStep rest) else next (r (Upto 16) env ts) (λ e rest. eat w rest (λ rest. go (Step e) rest))

abbrev pub first : Reads → PartReads → Names → List Token → (Part → List Token → Out Part) → Out Part
first r q env ts go =
    if begins_specs env ts then next (q FirstOf env ts) (λ f rest. eat (Marked Semicolon) rest (λ rest. go f rest)) else optional r env (Marked Semicolon) ts go

-- behind the parentheses of a `for`, from its third part on, and from its second
abbrev pub for_body : PartReads → Names → List Token → Part → Part → Part → List Token → Out Part
for_body q env all f e s ts = next (loop_clauses q env ts) (λ c ts. next (q StatementOf env ts) (λ a rest. found all (For f e s c a) rest))

abbrev pub for_step : Reads → PartReads → Names → List Token → Part → Part → List Token → Out Part
for_step r q env all f e ts = optional r env (Marked RightParen) ts (λ s ts. for_body q env all f e s ts)

abbrev pub for_condition : Reads → PartReads → Names → List Token → Part → List Token → Out Part
for_condition r q env all f ts = optional r env (Marked Semicolon) ts (λ e ts. for_step r q env all f e ts)

abbrev pub for_loop : Reads → PartReads → Names → List Token → List Token → Out Part
for_loop r q env all ts = eat (Marked LeftParen) ts (λ ts. first r q env ts (λ f ts. for_condition r q (in_force_behind f env) all f ts))

abbrev pub switched : Reads → PartReads → Names → List Token → List Token → Out Part
switched r q env all ts = tested r env ts (λ e ts. next (q StatementOf env ts) (λ a rest. found all (Switch e a) rest))

abbrev pub labelled : Reads → PartReads → Names → List Token → List Token → Out Part
labelled r q env all ts = next (r (Upto 15) env ts) (λ c rest. eat (Marked Colon) rest (λ ts. next (q StatementOf env ts) (λ a rest. found all (Case c a) rest)))

abbrev pub otherwise : PartReads → Names → List Token → List Token → Out Part
otherwise q env all ts = eat (Marked Colon) ts (λ ts. next (q StatementOf env ts) (λ a rest. found all (Default a) rest))

-- the readers of statements by the keyword that they begin with
abbrev pub by_keyword : Reads → PartReads → Names → List Token → Out Part
by_keyword r q env all =
    if begins if_word all then eat if_word all (λ ts. branch r q env all ts)
    else (if begins while_word all then eat while_word all (λ ts. while_loop r q env all ts)
    else (if begins do_word all then eat do_word all (λ ts. do_loop r q env all ts)
    else (if begins for_word all then eat for_word all (λ ts. for_loop r q env all ts)
    else (if begins switch_word all then eat switch_word all (λ ts. switched r q env all ts)
    else (if begins case_word all then eat case_word all (λ ts. labelled r q env all ts)
    else (if begins default_word all then eat default_word all (λ ts. otherwise q env all ts)
    else (if begins return_word all then eat return_word all (λ ts. returned r env all ts)
    else (if begins break_word all then eat break_word all (λ ts. ended all ts Break)
    else (if begins continue_word all then eat continue_word all (λ ts. ended all ts Continue)
    else next (r (Upto 16) env all) (λ e rest. ended all rest (Simple e)))))))))))

abbrev pub statement : Reads → PartReads → Names → List Token → Out Part
statement r q env all =
    if begins (Marked LeftBrace) all then block q env all
    else (if begins (Marked Semicolon) all then ended all all Empty
    else by_keyword r q env all)

-- definitions, and declarations with clauses
abbrev pub clauses_end : PartReads → Names → List Token → Tree → Tree → Part → List Token → Out Part
clauses_end q env all s d (Clauses c m) rest = eat (Marked Semicolon) rest (λ rest. found all (Prototype s d c m) rest)
clauses_end q env all s d c rest = Nothing

abbrev pub function : PartReads → Names → List Token → Tree → Tree → List Token → Out Part
function q env all s d ts =
    next (function_clauses q (within_function s d env) ts) (λ c rest.
    if begins (Marked LeftBrace) rest then next (q StatementOf (within_function s d env) rest) (λ b rest. checked (is_block b) (found all (Definition s d c b) rest))
    else clauses_end q env all s d c rest)

abbrev pub is_function : List Token → Bool
is_function ts = begins (Marked LeftBrace) ts || begins_clause ts

-- one token behind the first declarator decides
abbrev pub external_from : Reads → PartReads → Names → List Token → Tree → List Token → Out Part
external_from r q env all s rest =
    if begins (Marked Semicolon) rest then declaration_from r q env all s rest
    else next (declarator_named r (declared s env) rest) (λ d behind. if is_function behind then function q env all s d behind else declaration_from r q env all s rest)

abbrev pub external : Reads → PartReads → ℕ → Names → List Token → Out Part
external r q h env all = next (specs r h env all) (λ s rest. checked (leaves (declared s env) s rest) (external_from r q env all s rest))

abbrev pub part_step : Reads → PartReads → ℕ → PartKind → Names → List Token → Out Part
part_step r q h BracesOf env ts = braces r q env ts
part_step r q h ClauseOf env ts = clause r env ts
part_step r q h StatementOf env ts = statement r q env ts
part_step r q h FirstOf env ts = first_declaration r q h env ts
part_step r q h DeclarationOf env ts = declaration r q h env ts
part_step r q h ExternalOf env ts = external r q h env ts

-- what of this kind begins the tokens, of at most this height
abbrev pub reads_part : ℕ → PartReads
reads_part zero k env ts = Nothing
reads_part (suc h) k env ts = part_step (reads h) (reads_part h) h k env ts

abbrev pub externals : PartReads → Names → ℕ → List Token → Out Part
externals q env n [] = Found NoExternals []
externals q env zero (t ∷ ts) = Nothing
externals q env (suc n) (t ∷ ts) = next (q ExternalOf env (t ∷ ts)) (λ a rest. next (externals q (in_force_behind a env) n rest) (λ m rest. Found (Externals a m) rest))

-- the unit of at most this height
abbrev pub reads_unit : ℕ → List Token → Out Part
reads_unit h ts = externals (reads_part h) first_names (length ts) ts
