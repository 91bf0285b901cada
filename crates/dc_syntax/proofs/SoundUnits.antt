-- What is read as an initializer, a declaration or a clause is spelled so, and is no higher than the budget.
use Rattle.std.proofs.Common.{◌≡◌, ℕ, zero, suc, ◌≤◌, Bool, true, false, if◌then◌else◌, ◌||◌, ◌&&◌, not, List, [], ◌∷◌, ◌++◌, length, max, refl, sym, ap, ◌∙◌, subst, arith}
use Rattle.dc_syntax.specs.declared.mark.Mark.{Mark}
use Rattle.dc_syntax.specs.declared.mark.Mark.TheVariants.{LeftParen, RightParen, LeftBrace, RightBrace, Semicolon, Comma, Colon, Equals}
use Rattle.dc_syntax.specs.Names.{first_names, Names}
use Rattle.dc_syntax.specs.Phrases.{IsWord, mark, Where, Placed, begins_specs, leaves}
use Rattle.dc_syntax.proofs.Words.{false-true}
use Rattle.dc_syntax.specs.Tokens.{Word, Marked, Token, Place, break_word, case_word, continue_word, default_word, do_word, else_word, for_word, if_word, return_word, switch_word, while_word, requires_word, ensures_word, assigns_word, frees_word, loop_invariant_word}
use Rattle.dc_syntax.specs.Trees.{Declared, Condition, Tree, IsMore, IsSpecs, has_tag, is_typedef, naming, declared, height}
use Rattle.dc_syntax.specs.Parts.{Part, Single, Braces, NoInits, Inits, Plain, Initialized, NoMoreDeclared, MoreDeclared, NoneDeclared, SomeDeclared, Requires, Ensures, Assigns, Frees, LoopInvariant, Decreases, NoGroups, Groups, NoMoreGroups, MoreGroups, Group, GroupIf, NoClauses, Clauses, Block, Empty, Simple, Return, ReturnValue, Break, Continue, If, IfElse, While, Do, For, Switch, Case, Default, NoStep, Step, FirstDeclaration, NoItems, Items, Declaration, Definition, Prototype, NoExternals, Externals, is_init, is_inits, is_init_decl, is_more_declared, is_declared, is_function_clause, is_loop_clause, is_groups, is_more_groups, is_group, are_function_clauses, are_loop_clauses, is_block, is_statement, is_step_part, is_first_part, is_items, is_declaration, is_item, is_external, is_unit, declares_none, is_closed, declaring, in_force_behind, within_function, height_of}
use Rattle.dc_syntax.specs.Units.{tested, Spells, SpellsUnit}
use Rattle.dc_syntax.specs.Reading.{Out, Nothing, Found, between, found, begins, Reads, Upto, has_more, reads}
use Rattle.dc_syntax.specs.ReadingUnits.{conditions as read_conditions, tested as read_tested, for_body, PartReads, BracesOf, ClauseOf, StatementOf, FirstOf, DeclarationOf, ExternalOf, init, inits, braces, init_decl, more_declared, some_declared, declaration_from, declaration, first_declaration, group, more_groups, groups, clause, begins_clause, clauses, loop_clauses, function_clauses, items, block, ended, returned, branch, while_loop, do_loop, optional, first, for_loop, switched, labelled, otherwise, statement, clauses_end, function, is_function, external, part_step, reads_part, externals, reads_unit}
use Rattle.dc_syntax.proofs.Base.{Front, split, front_then, front_placed, front_empty, front_where, front_leaves, Gives, gives_nothing, gives_found, gives_next, gives_if, gives_checked, gives_eat, gives_weaken}
use Rattle.dc_syntax.proofs.Sound.{sound, ReadAs, Sound, IsItem, within, exactly, more_sound, condition_sound, named_sound, specs_sound, present, absent}

-- a part that passes a test
pub record ReadPart (env : Names) (t : Bool) (test : Part → Bool) (h : ℕ) (all : List Token) (a : Part) (rest : List Token) : Type 0 where
  pub is : Front (Spells env t a) all rest
  pub holds : test a ≡ true
  pub height : height_of a ≤ h

abbrev is_braces : Part → Bool
is_braces (Braces i m p) = true
is_braces _ = false

gives_part : {env : Names} {t : Bool} {test : Part → Bool} {h : ℕ} {all rest : List Token} {A : List Token → Type 0} (node : Place → Part)
    → Spells env t (node (between all rest)) ≡ Placed (between all rest) A → Front A all rest → test (node (between all rest)) ≡ true → height_of (node (between all rest)) ≤ h
    → Gives (ReadPart env t test h all) (found all node rest)
gives_part {env} {t} {test} {h} {all} {rest} {A} node e f holds height =
    gives_found (node (between all rest)) rest (record { is = subst (λ B. Front B all rest) (sym e) (front_placed f); holds = holds; height = height })

tested_front : {env : Names} {t : Bool} {test : Part → Bool} {h : ℕ} {all rest : List Token} {a : Part} → ReadPart env t test h all a rest → Front (Where (test a) (Spells env t a)) all rest
tested_front q = front_where q.holds q.is

-- the readers below give initializers in braces
abbrev BracesSound : PartReads → ℕ → Type 0
BracesSound q h = (env : Names) (t : Bool) (ts : List Token) → Gives (ReadPart env t is_braces h ts) (q BracesOf env ts)

braces_init : (a : Part) → is_braces a ≡ true → is_init a ≡ true
braces_init (Braces i m p) e = refl
braces_init _ e = absurd (false-true e)

init_sound : (r : Reads) (q : PartReads) (h : ℕ) → Sound r h → BracesSound q h → (env : Names) (t : Bool) (ts : List Token) → Gives (ReadPart env t is_init h ts) (init r q env ts)
init_sound r q h s d env t ts =
    gives_if {b = begins (Marked LeftBrace) ts} (λ _. gives_weaken (d env t ts) (λ a rest x. record { is = x.is; holds = braces_init a x.holds; height = x.height }))
    (λ _. gives_next (s.upto 16 env ts) (λ e rest x. gives_found (Single e) rest (record { is = within x (omega arith); holds = refl; height = x.height })))

inits_sound : (r : Reads) (q : PartReads) (h : ℕ) → Sound r h → BracesSound q h → (env : Names) (t : Bool) (n : ℕ) (ts : List Token) → Gives (ReadPart env t is_inits h ts) (inits r q env n ts)
inits_sound r q h s d env t zero ts = gives_found NoInits ts (record { is = front_empty ts; holds = refl; height = omega arith })
inits_sound r q h s d env t (suc n) ts =
    gives_if {b = has_more ts} (λ _. gives_eat (λ ts f. gives_next (init_sound r q h s d env t ts) (λ i rest x. gives_next (inits_sound r q h s d env t n rest) (λ m rest' y.
    gives_found (Inits i m) rest' (record { is = front_then f (front_then (tested_front x) (tested_front y)); holds = refl; height = omega (arith, x.height, y.height) })))))
    (λ _. gives_found NoInits ts (record { is = front_empty ts; holds = refl; height = omega arith }))

pub braces_sound : (r : Reads) (q : PartReads) (h : ℕ) → Sound r h → BracesSound q h → (env : Names) (t : Bool) (ts : List Token) → Gives (ReadPart env t is_braces (suc h) ts) (braces r q env ts)
braces_sound r q h s d env t all =
    gives_eat (λ ts o. gives_next (init_sound r q h s d env t ts) (λ i rest x. gives_next (inits_sound r q h s d env t (length rest) rest) (λ m rest' y.
    gives_if {b = begins (Marked Comma) rest'}
    (λ _. gives_eat (λ rest3 c. gives_eat (λ rest4 e. gives_part (Braces i m) refl (front_then o (front_then (tested_front x) (front_then (tested_front y) (front_then (present c) e)))) refl (omega (arith, x.height, y.height)))))
    (λ _. gives_eat (λ rest4 e. gives_part (Braces i m) refl (front_then o (front_then (tested_front x) (front_then (tested_front y) (front_then (absent rest') e)))) refl (omega (arith, x.height, y.height)))))))

pub init_decl_sound : (r : Reads) (q : PartReads) (h : ℕ) → Sound r h → BracesSound q h → (env : Names) (t : Bool) (ts : List Token) → Gives (ReadPart env t is_init_decl h ts) (init_decl r q env t ts)
init_decl_sound r q h s d env t all =
    gives_next (named_sound r h s env all) (λ e rest x. gives_if {b = begins (Marked Equals) rest}
    (λ _. gives_eat (λ ts f. gives_next (init_sound r q h s d (naming e t env) t ts) (λ i rest' y. gives_part (Initialized e i) refl (front_then x.is (front_then f (tested_front y))) refl (omega (arith, x.height, y.height)))))
    (λ _. gives_part (Plain e) refl x.is refl x.height))

pub more_declared_sound : (r : Reads) (q : PartReads) (h : ℕ) → Sound r h → BracesSound q h → (env : Names) (t : Bool) (n : ℕ) (ts : List Token) → Gives (ReadPart env t is_more_declared h ts) (more_declared r q env t n ts)
more_declared_sound r q h s d env t zero ts = gives_found NoMoreDeclared ts (record { is = front_empty ts; holds = refl; height = omega arith })
more_declared_sound r q h s d env t (suc n) ts =
    gives_if {b = begins (Marked Comma) ts} (λ _. gives_eat (λ ts f. gives_next (init_decl_sound r q h s d env t ts) (λ a rest x. gives_next (more_declared_sound r q h s d (declaring t a env) t n rest) (λ m rest' y.
    gives_found (MoreDeclared a m) rest' (record { is = front_then f (front_then (tested_front x) (tested_front y)); holds = refl; height = omega (arith, x.height, y.height) })))))
    (λ _. gives_found NoMoreDeclared ts (record { is = front_empty ts; holds = refl; height = omega arith }))

some_declared_sound : (r : Reads) (q : PartReads) (h : ℕ) → Sound r h → BracesSound q h → (env : Names) (t : Bool) (ts : List Token) → Gives (ReadPart env t is_declared h ts) (some_declared r q env t ts)
some_declared_sound r q h s d env t ts =
    gives_if {b = begins (Marked Semicolon) ts} (λ _. gives_found NoneDeclared ts (record { is = front_empty ts; holds = refl; height = omega arith }))
    (λ _. gives_next (init_decl_sound r q h s d env t ts) (λ a rest x. gives_next (more_declared_sound r q h s d (declaring t a env) t (length rest) rest) (λ m rest' y.
    gives_found (SomeDeclared a m) rest' (record { is = front_then (tested_front x) (tested_front y); holds = refl; height = omega (arith, x.height, y.height) }))))

pub declaration_from_sound : (r : Reads) (q : PartReads) (h : ℕ) → Sound r h → BracesSound q h → (env : Names) (t : Bool) (all mid : List Token) (a : Tree) → ReadAs env IsSpecs h all a mid → leaves (declared a env) a mid ≡ true
    → Gives (ReadPart env t is_declaration (suc h) all) (declaration_from r q env all a mid)
declaration_from_sound r q h s d env t all mid a x l =
    gives_next (some_declared_sound r q h s d (declared a env) (is_typedef a) mid) (λ m rest y. gives_checked (not (declares_none m) || has_tag a) (λ k. gives_eat (λ rest' e.
    gives_part (Declaration a m) refl (front_where k (front_then (exactly x) (front_then (front_leaves (declared a env) a l (tested_front y)) e))) refl (omega (arith, x.height, y.height)))))

pub declaration_sound : (r : Reads) (q : PartReads) (h : ℕ) → Sound r h → BracesSound q h → (env : Names) (t : Bool) (ts : List Token) → Gives (ReadPart env t is_declaration (suc h) ts) (declaration r q h env ts)
declaration_sound r q h s d env t all =
    gives_next (specs_sound r h s env all) (λ a rest x. gives_checked (leaves (declared a env) a rest) (λ l. declaration_from_sound r q h s d env t all rest a x l))

-- groups and clauses
conditions_sound : (r : Reads) (h : ℕ) → Sound r h → (env : Names) (ts : List Token) → Gives (ReadAs env (IsMore Condition) h ts) (read_conditions r env ts)
conditions_sound r h s env ts = more_sound (r (Upto 15)) Condition h (condition_sound r h s) env (length ts) ts

group_sound : (r : Reads) (h : ℕ) → Sound r h → (env : Names) (t : Bool) (ts : List Token) → Gives (ReadPart env t is_group h ts) (group r env ts)
group_sound r h s env t all =
    gives_next (condition_sound r h s env all) (λ c rest x. gives_if {b = begins (Marked Colon) rest}
    (λ _. gives_eat (λ ts f. gives_next (condition_sound r h s env ts) (λ e rest' y. gives_next (conditions_sound r h s env rest') (λ m rest'' z.
    gives_part (GroupIf c e m) refl (front_then x.is (front_then f (front_then y.is (exactly z)))) refl (omega (arith, x.height, y.height, z.height))))))
    (λ _. gives_next (conditions_sound r h s env rest) (λ m rest'' z. gives_part (Group c m) refl (front_then x.is (exactly z)) refl (omega (arith, x.height, z.height)))))

more_groups_sound : (r : Reads) (h : ℕ) → Sound r h → (env : Names) (t : Bool) (n : ℕ) (ts : List Token) → Gives (ReadPart env t is_more_groups h ts) (more_groups r env n ts)
more_groups_sound r h s env t zero ts = gives_found NoMoreGroups ts (record { is = front_empty ts; holds = refl; height = omega arith })
more_groups_sound r h s env t (suc n) ts =
    gives_if {b = begins (Marked Semicolon) ts} (λ _. gives_eat (λ ts f. gives_next (group_sound r h s env t ts) (λ a rest x. gives_next (more_groups_sound r h s env t n rest) (λ m rest' y.
    gives_found (MoreGroups a m) rest' (record { is = front_then f (front_then (tested_front x) (tested_front y)); holds = refl; height = omega (arith, x.height, y.height) })))))
    (λ _. gives_found NoMoreGroups ts (record { is = front_empty ts; holds = refl; height = omega arith }))

groups_sound : (r : Reads) (h : ℕ) → Sound r h → (env : Names) (t : Bool) (ts : List Token) → Gives (ReadPart env t is_groups h ts) (groups r env ts)
groups_sound r h s env t ts =
    gives_if {b = begins (Marked RightParen) ts} (λ _. gives_found NoGroups ts (record { is = front_empty ts; holds = refl; height = omega arith }))
    (λ _. gives_next (group_sound r h s env t ts) (λ a rest x. gives_next (more_groups_sound r h s env t (length rest) rest) (λ m rest' y.
    gives_found (Groups a m) rest' (record { is = front_then (tested_front x) (tested_front y); holds = refl; height = omega (arith, x.height, y.height) }))))

abbrev is_clause : Part → Bool
is_clause c = is_function_clause c || is_loop_clause c

pub clause_sound : (r : Reads) (h : ℕ) → Sound r h → (env : Names) (t : Bool) (ts : List Token) → Gives (ReadPart env t is_clause (suc h) ts) (clause r env ts)
clause_sound r h s env t all =
    gives_if {b = begins requires_word all} (λ _. gives_eat (λ ts f. gives_eat (λ ts o. gives_next (condition_sound r h s env ts) (λ c rest x. gives_eat (λ rest' e. gives_part (Requires c) refl (front_then f (front_then o (front_then x.is e))) refl (omega (arith, x.height)))))))
    (λ _. gives_if {b = begins ensures_word all} (λ _. gives_eat (λ ts f. gives_eat (λ ts o. gives_next (condition_sound r h s env ts) (λ c rest x. gives_eat (λ rest' e. gives_part (Ensures c) refl (front_then f (front_then o (front_then x.is e))) refl (omega (arith, x.height)))))))
    (λ _. gives_if {b = begins assigns_word all} (λ _. gives_eat (λ ts f. gives_eat (λ ts o. gives_next (groups_sound r h s env t ts) (λ g rest x. gives_eat (λ rest' e. gives_part (Assigns g) refl (front_then f (front_then o (front_then (tested_front x) e))) refl (omega (arith, x.height)))))))
    (λ _. gives_if {b = begins frees_word all} (λ _. gives_eat (λ ts f. gives_eat (λ ts o. gives_next (groups_sound r h s env t ts) (λ g rest x. gives_eat (λ rest' e. gives_part (Frees g) refl (front_then f (front_then o (front_then (tested_front x) e))) refl (omega (arith, x.height)))))))
    (λ _. gives_if {b = begins loop_invariant_word all} (λ _. gives_eat (λ ts f. gives_eat (λ ts o. gives_next (condition_sound r h s env ts) (λ c rest x. gives_eat (λ rest' e. gives_part (LoopInvariant c) refl (front_then f (front_then o (front_then x.is e))) refl (omega (arith, x.height)))))))
    (λ _. gives_eat (λ ts f. gives_eat (λ ts o. gives_next (condition_sound r h s env ts) (λ c rest x. gives_next (conditions_sound r h s env rest) (λ m rest' y. gives_eat (λ rest'' e.
    gives_part (Decreases c m) refl (front_then f (front_then o (front_then x.is (front_then (exactly y) e)))) refl (omega (arith, x.height, y.height))))))))))))

pub record PartSound (q : PartReads) (h : ℕ) : Type 0 where
  pub braces : (env : Names) (t : Bool) (ts : List Token) → Gives (ReadPart env t is_braces h ts) (q BracesOf env ts)
  pub clause : (env : Names) (t : Bool) (ts : List Token) → Gives (ReadPart env t is_clause h ts) (q ClauseOf env ts)
  pub statement : (env : Names) (t : Bool) (ts : List Token) → Gives (ReadPart env t is_statement h ts) (q StatementOf env ts)
  pub first : (env : Names) (t : Bool) (ts : List Token) → Gives (ReadPart env t is_first_part h ts) (q FirstOf env ts)
  pub declaration : (env : Names) (t : Bool) (ts : List Token) → Gives (ReadPart env t is_declaration h ts) (q DeclarationOf env ts)

pub first_declaration_sound : (r : Reads) (q : PartReads) (h : ℕ) → Sound r h → BracesSound q h → (env : Names) (t : Bool) (ts : List Token) → Gives (ReadPart env t is_first_part (suc h) ts) (first_declaration r q h env ts)
first_declaration_sound r q h s d env t all =
    gives_next (specs_sound r h s env all) (λ a rest x. gives_checked (leaves (declared a env) a rest) (λ l. gives_next (init_decl_sound r q h s d (declared a env) (is_typedef a) rest) (λ b rest' y.
    gives_next (more_declared_sound r q h s d (declaring (is_typedef a) b (declared a env)) (is_typedef a) (length rest') rest') (λ m rest'' z.
    gives_part (FirstDeclaration a b m) refl (front_then (exactly x) (front_then (front_leaves (declared a env) a l (tested_front y)) (tested_front z))) refl (omega (arith, x.height, y.height, z.height))))))

abbrev is_any : Part → Bool
is_any c = true

clauses_sound : (q : PartReads) (h : ℕ) → PartSound q h → (env : Names) (t : Bool) (n : ℕ) (ts : List Token) → Gives (ReadPart env t is_any h ts) (clauses q env n ts)
clauses_sound q h d env t zero ts = gives_found NoClauses ts (record { is = front_empty ts; holds = refl; height = omega arith })
clauses_sound q h d env t (suc n) ts =
    gives_if {b = begins_clause ts} (λ _. gives_next (d.clause env t ts) (λ c rest x. gives_next (clauses_sound q h d env t n rest) (λ m rest' y.
    gives_found (Clauses c m) rest' (record { is = front_then x.is y.is; holds = refl; height = omega (arith, x.height, y.height) }))))
    (λ _. gives_found NoClauses ts (record { is = front_empty ts; holds = refl; height = omega arith }))

loop_clauses_sound : (q : PartReads) (h : ℕ) → PartSound q h → (env : Names) (t : Bool) (ts : List Token) → Gives (ReadPart env t are_loop_clauses h ts) (loop_clauses q env ts)
loop_clauses_sound q h d env t ts = gives_next (clauses_sound q h d env t (length ts) ts) (λ c rest x. gives_checked (are_loop_clauses c) (λ k. gives_found c rest (record { is = x.is; holds = k; height = x.height })))

pub function_clauses_sound : (q : PartReads) (h : ℕ) → PartSound q h → (env : Names) (t : Bool) (ts : List Token) → Gives (ReadPart env t are_function_clauses h ts) (function_clauses q env ts)
function_clauses_sound q h d env t ts = gives_next (clauses_sound q h d env t (length ts) ts) (λ c rest x. gives_checked (are_function_clauses c) (λ k. gives_found c rest (record { is = x.is; holds = k; height = x.height })))

or_left : {a : Bool} (b : Bool) → a ≡ true → (a || b) ≡ true
or_left {a} b e = ap (λ a. a || b) e

or_right : (a : Bool) {b : Bool} → b ≡ true → (a || b) ≡ true
or_right true e = refl
or_right false e = e

items_sound : (q : PartReads) (h : ℕ) → PartSound q h → (env : Names) (t : Bool) (n : ℕ) (ts : List Token) → Gives (ReadPart env t is_items h ts) (items q env n ts)
items_sound q h d env t zero ts = gives_found NoItems ts (record { is = front_empty ts; holds = refl; height = omega arith })
items_sound q h d env t (suc n) ts =
    gives_if {b = begins (Marked RightBrace) ts} (λ _. gives_found NoItems ts (record { is = front_empty ts; holds = refl; height = omega arith }))
    (λ _. gives_next one (λ a rest x. gives_next (items_sound q h d (in_force_behind a env) t n rest) (λ m rest' y.
    gives_found (Items a m) rest' (record { is = front_then (tested_front x) (tested_front y); holds = refl; height = omega (arith, x.height, y.height) }))))
  where
    one : Gives (ReadPart env t is_item h ts) (if begins_specs env ts then q DeclarationOf env ts else q StatementOf env ts)
    one = gives_if {b = begins_specs env ts} (λ _. gives_weaken (d.declaration env t ts) (λ a rest x. record { is = x.is; holds = or_right (is_statement a) x.holds; height = x.height }))
        (λ _. gives_weaken (d.statement env t ts) (λ a rest x. record { is = x.is; holds = or_left (is_declaration a) x.holds; height = x.height }))

-- a condition in parentheses
pub record ReadTested (env : Names) (h : ℕ) (ts : List Token) (e : Tree) (rest : List Token) : Type 0 where
  pub is : Front (tested env e) ts rest
  pub height : height e ≤ h

tested_sound : {P : Part → List Token → Type 0} (r : Reads) (h : ℕ) → Sound r h → (env : Names) (ts : List Token) {go : Tree → List Token → Out Part} → ((e : Tree) (rest : List Token) → ReadTested env h ts e rest → Gives P (go e rest)) → Gives P (read_tested r env ts go)
tested_sound r h s env ts f =
    gives_eat (λ ts o. gives_next (s.upto 16 env ts) (λ e rest x. gives_eat (λ rest' c. f e rest' (record { is = front_then o (front_then (within x (omega arith)) c); height = x.height }))))

block_sound : (q : PartReads) (h : ℕ) → PartSound q h → (env : Names) (t : Bool) (ts : List Token) → Gives (ReadPart env t is_statement (suc h) ts) (block q env ts)
block_sound q h d env t all = gives_eat (λ ts o. gives_next (items_sound q h d env t (length ts) ts) (λ m rest x. gives_eat (λ rest' e. gives_part (Block m) refl (front_then o (front_then (tested_front x) e)) refl (omega (arith, x.height)))))

while_sound : (r : Reads) (q : PartReads) (h : ℕ) → Sound r h → PartSound q h → (env : Names) (t : Bool) (all ts : List Token) → Front (IsWord while_word) all ts → Gives (ReadPart env t is_statement (suc h) all) (while_loop r q env all ts)
while_sound r q h s d env t all ts f = tested_sound r h s env ts (λ e rest x. gives_next (loop_clauses_sound q h d env t rest) (λ c rest' y. gives_next (d.statement env t rest') (λ a rest'' z.
    gives_part (While e c a) refl (front_then f (front_then x.is (front_then (tested_front y) (tested_front z)))) refl (omega (arith, x.height, y.height, z.height)))))

do_sound : (r : Reads) (q : PartReads) (h : ℕ) → Sound r h → PartSound q h → (env : Names) (t : Bool) (all ts : List Token) → Front (IsWord do_word) all ts → Gives (ReadPart env t is_statement (suc h) all) (do_loop r q env all ts)
do_sound r q h s d env t all ts f = gives_next (d.statement env t ts) (λ a rest x. gives_eat (λ ts w. tested_sound r h s env ts (λ e rest y. gives_next (loop_clauses_sound q h d env t rest) (λ c rest' z. gives_eat (λ rest'' k.
    gives_part (Do a e c) refl (front_then f (front_then (tested_front x) (front_then w (front_then y.is (front_then (tested_front z) k))))) refl (omega (arith, x.height, y.height, z.height)))))))

switch_sound : (r : Reads) (q : PartReads) (h : ℕ) → Sound r h → PartSound q h → (env : Names) (t : Bool) (all ts : List Token) → Front (IsWord switch_word) all ts → Gives (ReadPart env t is_statement (suc h) all) (switched r q env all ts)
switch_sound r q h s d env t all ts f = tested_sound r h s env ts (λ e rest x. gives_next (d.statement env t rest) (λ a rest' z. gives_part (Switch e a) refl (front_then f (front_then x.is (tested_front z))) refl (omega (arith, x.height, z.height))))

case_sound : (r : Reads) (q : PartReads) (h : ℕ) → Sound r h → PartSound q h → (env : Names) (t : Bool) (all ts : List Token) → Front (IsWord case_word) all ts → Gives (ReadPart env t is_statement (suc h) all) (labelled r q env all ts)
case_sound r q h s d env t all ts f = gives_next (s.upto 15 env ts) (λ c rest x. gives_eat (λ ts k. gives_next (d.statement env t ts) (λ a rest' z. gives_part (Case c a) refl (front_then f (front_then (within x (omega arith)) (front_then k (tested_front z)))) refl (omega (arith, x.height, z.height)))))

default_sound : (q : PartReads) (h : ℕ) → PartSound q h → (env : Names) (t : Bool) (all ts : List Token) → Front (IsWord default_word) all ts → Gives (ReadPart env t is_statement (suc h) all) (otherwise q env all ts)
default_sound q h d env t all ts f = gives_eat (λ ts k. gives_next (d.statement env t ts) (λ a rest z. gives_part (Default a) refl (front_then f (front_then k (tested_front z))) refl (omega (arith, z.height))))

return_sound : (r : Reads) (h : ℕ) → Sound r h → (env : Names) (t : Bool) (all ts : List Token) → Front (IsWord return_word) all ts → Gives (ReadPart env t is_statement (suc h) all) (returned r env all ts)
return_sound r h s env t all ts f =
    gives_if {b = begins (Marked Semicolon) ts} (λ _. gives_eat (λ rest e. gives_part Return refl (front_then f e) refl (omega arith)))
    (λ _. gives_next (s.upto 16 env ts) (λ a rest x. gives_eat (λ rest' e. gives_part (ReturnValue a) refl (front_then f (front_then (within x (omega arith)) e)) refl (omega (arith, x.height)))))

-- what stands before an else is closed
pub record IsSettled (a : Part) (rest : List Token) : Type 0 where
  pub closed : begins else_word rest ≡ true → is_closed a ≡ true

abbrev pub Settles : PartReads → Type 0
Settles q = (env : Names) (ts : List Token) → Gives IsSettled (q StatementOf env ts)

gives_both : {P Q : Part → List Token → Type 0} {o : Out Part} → Gives P o → Gives Q o → Gives (λ e rest. P e rest × Q e rest) o
gives_both {P} {Q} {o} p q = elim o as (λ o. Gives P o → Gives Q o → Gives (λ e rest. P e rest × Q e rest) o) [ Nothing ↦ λ p q. gives_nothing | Found e rest ↦ λ p q. gives_found e rest (p.all, q.all) ] p q

branch_sound : (r : Reads) (q : PartReads) (h : ℕ) → Sound r h → PartSound q h → Settles q → (env : Names) (t : Bool) (all ts : List Token) → Front (IsWord if_word) all ts → Gives (ReadPart env t is_statement (suc h) all) (branch r q env all ts)
branch_sound r q h s d n env t all ts f = tested_sound r h s env ts (λ e rest x. gives_next (gives_both (d.statement env t rest) (n env rest)) (λ a rest' y.
    let y0 = y.0 in let y1 = y.1 in
    gives_if {b = begins else_word rest'} (λ yes. gives_eat (λ ts k. gives_next (d.statement env t ts) (λ b rest'' z.
    gives_part (IfElse e a b) refl (front_then f (front_then x.is (front_then (front_where (y1.closed yes) (tested_front y0)) (front_then k (tested_front z))))) refl (omega (arith, x.height, y0.height, z.height)))))
    (λ _. gives_part (If e a) refl (front_then f (front_then x.is (tested_front y0))) refl (omega (arith, x.height, y0.height)))))

optional_sound : {P : Part → List Token → Type 0} (r : Reads) (h : ℕ) → Sound r h → (env : Names) (t : Bool) (m : Mark) (ts : List Token) {go : Part → List Token → Out Part}
    → ((a : Part) (mid rest : List Token) → ReadPart env t is_step_part h ts a mid → Front (mark m) mid rest → Gives P (go a rest)) → Gives P (optional r env (Marked m) ts go)
optional_sound r h s env t m ts f =
    gives_if {b = begins (Marked m) ts} (λ _. gives_eat (λ rest k. f NoStep ts rest (record { is = front_empty ts; holds = refl; height = omega arith }) k))
    (λ _. gives_next (s.upto 16 env ts) (λ e rest x. gives_eat (λ rest' k. f (Step e) rest rest' (record { is = within x (omega arith); holds = refl; height = x.height }) k)))

step_first : (a : Part) → is_step_part a ≡ true → is_first_part a ≡ true
step_first NoStep e = refl
step_first (Step a) e = refl
step_first _ e = absurd (false-true e)

for_first_sound : {P : Part → List Token → Type 0} (r : Reads) (q : PartReads) (h : ℕ) → Sound r h → PartSound q h → (env : Names) (t : Bool) (ts : List Token) {go : Part → List Token → Out Part}
    → ((a : Part) (mid rest : List Token) → ReadPart env t is_first_part h ts a mid → Front (mark Semicolon) mid rest → Gives P (go a rest)) → Gives P (first r q env ts go)
for_first_sound r q h s d env t ts f =
    gives_if {b = begins_specs env ts} (λ _. gives_next (d.first env t ts) (λ a rest x. gives_eat (λ rest' k. f a rest rest' x k)))
    (λ _. optional_sound r h s env t Semicolon ts (λ a mid rest x k. f a mid rest (record { is = x.is; holds = step_first a x.holds; height = x.height }) k))

for_sound : (r : Reads) (q : PartReads) (h : ℕ) → Sound r h → PartSound q h → (env : Names) (t : Bool) (all ts : List Token) → Front (IsWord for_word) all ts → Gives (ReadPart env t is_statement (suc h) all) (for_loop r q env all ts)
for_sound r q h s d env t all ts f =
    gives_eat (λ ts o. for_first_sound r q h s d env t ts (λ g m1 ts x1 k1. optional_sound r h s (in_force_behind g env) t Semicolon ts (λ e m2 ts x2 k2. optional_sound r h s (in_force_behind g env) t RightParen ts (λ b m3 ts x3 k3.
    gives_next (loop_clauses_sound q h d (in_force_behind g env) t ts) (λ c rest y. gives_next (d.statement (in_force_behind g env) t rest) (λ a rest' z.
    gives_part (For g e b c a) refl (front_then f (front_then o (front_then (tested_front x1) (front_then k1 (front_then (tested_front x2) (front_then k2 (front_then (tested_front x3) (front_then k3 (front_then (tested_front y) (tested_front z)))))))))) refl
    (five (height_of g) (height_of e) (height_of b) (height_of c) (height_of a) h x1.height x2.height x3.height y.height z.height)))))))
  where
    five : (a b c d e h : ℕ) → a ≤ h → b ≤ h → c ≤ h → d ≤ h → e ≤ h → suc (max a (max b (max c (max d e)))) ≤ suc h
    five a b c d e h p1 p2 p3 p4 p5 = omega (arith, p1, p2, p3, p4, p5)

statement_sound : (r : Reads) (q : PartReads) (h : ℕ) → Sound r h → PartSound q h → Settles q → (env : Names) (t : Bool) (ts : List Token) → Gives (ReadPart env t is_statement (suc h) ts) (statement r q env ts)
statement_sound r q h s d n env t all =
    gives_if {b = begins (Marked LeftBrace) all} (λ _. block_sound q h d env t all)
    (λ _. gives_if {b = begins (Marked Semicolon) all} (λ _. gives_eat (λ rest e. gives_part Empty refl e refl (omega arith)))
    (λ _. gives_if {b = begins if_word all} (λ _. gives_eat (λ ts f. branch_sound r q h s d n env t all ts f))
    (λ _. gives_if {b = begins while_word all} (λ _. gives_eat (λ ts f. while_sound r q h s d env t all ts f))
    (λ _. gives_if {b = begins do_word all} (λ _. gives_eat (λ ts f. do_sound r q h s d env t all ts f))
    (λ _. gives_if {b = begins for_word all} (λ _. gives_eat (λ ts f. for_sound r q h s d env t all ts f))
    (λ _. gives_if {b = begins switch_word all} (λ _. gives_eat (λ ts f. switch_sound r q h s d env t all ts f))
    (λ _. gives_if {b = begins case_word all} (λ _. gives_eat (λ ts f. case_sound r q h s d env t all ts f))
    (λ _. gives_if {b = begins default_word all} (λ _. gives_eat (λ ts f. default_sound q h d env t all ts f))
    (λ _. gives_if {b = begins return_word all} (λ _. gives_eat (λ ts f. return_sound r h s env t all ts f))
    (λ _. gives_if {b = begins break_word all} (λ _. gives_eat (λ ts f. gives_eat (λ rest e. gives_part Break refl (front_then f e) refl (omega arith))))
    (λ _. gives_if {b = begins continue_word all} (λ _. gives_eat (λ ts f. gives_eat (λ rest e. gives_part Continue refl (front_then f e) refl (omega arith))))
    (λ _. gives_next (s.upto 16 env all) (λ e rest x. gives_eat (λ rest' k. gives_part (Simple e) refl (front_then (within x (omega arith)) k) refl (omega (arith, x.height))))))))))))))))

-- what is before an else is closed
any : {A : Type 0} (o : Out A) → Gives (λ e rest. Unit {0}) o
any o = elim o as (λ o. Gives (λ e rest. Unit {0}) o) [ Nothing ↦ gives_nothing | Found e rest ↦ gives_found e rest tt ]

settled : (all : List Token) {rest : List Token} (node : Place → Part) → IsSettled (node (between all rest)) rest → Gives IsSettled (found all node rest)
settled all {rest} node q = gives_found (node (between all rest)) rest q

shut : (all ts : List Token) (node : Place → Part) → ((p : Place) → is_closed (node p) ≡ true) → Gives IsSettled (ended all ts node)
shut all ts node c = gives_eat {w = Marked Semicolon} {all = ts} (λ rest _. settled all node (record { closed = λ _. c (between all rest) }))

tested_any : (r : Reads) (env : Names) (ts : List Token) {go : Tree → List Token → Out Part} → ((e : Tree) (rest : List Token) → Gives IsSettled (go e rest)) → Gives IsSettled (read_tested r env ts go)
tested_any r env ts f = gives_eat {w = Marked LeftParen} {all = ts} (λ ts _. gives_next (any (r (Upto 16) env ts)) (λ e rest _. gives_eat {w = Marked RightParen} {all = rest} (λ rest _. f e rest)))

optional_any : (r : Reads) (env : Names) (w : Word) (ts : List Token) {go : Part → List Token → Out Part} → ((a : Part) (rest : List Token) → Gives IsSettled (go a rest)) → Gives IsSettled (optional r env w ts go)
optional_any r env w ts f =
    gives_if {b = begins w ts} (λ _. gives_eat {w = w} {all = ts} (λ rest _. f NoStep rest)) (λ _. gives_next (any (r (Upto 16) env ts)) (λ e rest _. gives_eat {w = w} {all = rest} (λ rest _. f (Step e) rest)))

first_any : (r : Reads) (q : PartReads) (env : Names) (ts : List Token) {go : Part → List Token → Out Part} → ((a : Part) (rest : List Token) → Gives IsSettled (go a rest)) → Gives IsSettled (first r q env ts go)
first_any r q env ts f =
    gives_if {b = begins_specs env ts} (λ _. gives_next (any (q FirstOf env ts)) (λ a rest _. gives_eat {w = Marked Semicolon} {all = rest} (λ rest _. f a rest))) (λ _. optional_any r env (Marked Semicolon) ts f)

body_settles : (q : PartReads) → Settles q → (env : Names) (all : List Token) (g e b : Part) (ts : List Token) → Gives IsSettled (for_body q env all g e b ts)
body_settles q n env all g e b ts = gives_next (any (loop_clauses q env ts)) (λ c ts _. gives_next (n env ts) (λ a rest x. settled all (For g e b c a) (record { closed = x.closed })))

statement_settles : (r : Reads) (q : PartReads) → Settles q → (env : Names) (ts : List Token) → Gives IsSettled (statement r q env ts)
statement_settles r q n env all =
    gives_if {b = begins (Marked LeftBrace) all} (λ _. gives_eat {w = Marked LeftBrace} {all = all} (λ ts _. gives_next (any (items q env (length ts) ts)) (λ m rest _. gives_eat {w = Marked RightBrace} {all = rest} (λ rest _. settled all (Block m) (record { closed = λ _. refl })))))
    (λ _. gives_if {b = begins (Marked Semicolon) all} (λ _. shut all all Empty (λ p. refl))
    (λ _. gives_if {b = begins if_word all} (λ _. gives_eat {w = if_word} {all = all} (λ ts _. tested_any r env ts (λ e ts. gives_next (any (q StatementOf env ts)) (λ a rest _.
    gives_if {b = begins else_word rest} (λ _. gives_eat {w = else_word} {all = rest} (λ ts _. gives_next (n env ts) (λ b rest x. settled all (IfElse e a b) (record { closed = x.closed }))))
    (λ no_else. settled all (If e a) (record { closed = λ z. absurd (false-true (sym no_else ∙ z)) }))))))
    (λ _. gives_if {b = begins while_word all} (λ _. gives_eat {w = while_word} {all = all} (λ ts _. tested_any r env ts (λ e ts. gives_next (any (loop_clauses q env ts)) (λ c ts _. gives_next (n env ts) (λ a rest x. settled all (While e c a) (record { closed = x.closed }))))))
    (λ _. gives_if {b = begins do_word all} (λ _. gives_eat {w = do_word} {all = all} (λ ts _. gives_next (any (q StatementOf env ts)) (λ a rest _. gives_eat {w = while_word} {all = rest} (λ ts _. tested_any r env ts (λ e ts. gives_next (any (loop_clauses q env ts)) (λ c rest _. shut all rest (Do a e c) (λ p. refl)))))))
    (λ _. gives_if {b = begins for_word all} (λ _. gives_eat {w = for_word} {all = all} (λ ts _. gives_eat {w = Marked LeftParen} {all = ts} (λ ts _. first_any r q env ts (λ g ts. optional_any r (in_force_behind g env) (Marked Semicolon) ts (λ e ts. optional_any r (in_force_behind g env) (Marked RightParen) ts (λ b ts. body_settles q n (in_force_behind g env) all g e b ts))))))
    (λ _. gives_if {b = begins switch_word all} (λ _. gives_eat {w = switch_word} {all = all} (λ ts _. tested_any r env ts (λ e ts. gives_next (n env ts) (λ a rest x. settled all (Switch e a) (record { closed = x.closed })))))
    (λ _. gives_if {b = begins case_word all} (λ _. gives_eat {w = case_word} {all = all} (λ ts _. gives_next (any (r (Upto 15) env ts)) (λ c rest _. gives_eat {w = Marked Colon} {all = rest} (λ ts _. gives_next (n env ts) (λ a rest x. settled all (Case c a) (record { closed = x.closed }))))))
    (λ _. gives_if {b = begins default_word all} (λ _. gives_eat {w = default_word} {all = all} (λ ts _. gives_eat {w = Marked Colon} {all = ts} (λ ts _. gives_next (n env ts) (λ a rest x. settled all (Default a) (record { closed = x.closed })))))
    (λ _. gives_if {b = begins return_word all} (λ _. gives_eat {w = return_word} {all = all} (λ ts _. gives_if {b = begins (Marked Semicolon) ts} (λ _. shut all ts Return (λ p. refl)) (λ _. gives_next (any (r (Upto 16) env ts)) (λ e rest _. shut all rest (ReturnValue e) (λ p. refl)))))
    (λ _. gives_if {b = begins break_word all} (λ _. gives_eat {w = break_word} {all = all} (λ ts _. shut all ts Break (λ p. refl)))
    (λ _. gives_if {b = begins continue_word all} (λ _. gives_eat {w = continue_word} {all = all} (λ ts _. shut all ts Continue (λ p. refl)))
    (λ _. gives_next (any (r (Upto 16) env all)) (λ e rest _. shut all rest (Simple e) (λ p. refl))))))))))))))

-- definitions, declarations and units
and_first : {a : Bool} (b : Bool) → (a && b) ≡ true → a ≡ true
and_first {a} b e = elim a as (λ a. (a && b) ≡ true → a ≡ true) [ true ↦ λ e. refl | false ↦ λ e. e ] e

and_second : (a : Bool) {b : Bool} → (a && b) ≡ true → b ≡ true
and_second a {b} e = elim a as (λ a. (a && b) ≡ true → b ≡ true) [ true ↦ λ e. e | false ↦ λ e. absurd (false-true e) ] e

declaration_external : (a : Part) → is_declaration a ≡ true → is_external a ≡ true
declaration_external (Declaration s m p) e = refl
declaration_external _ e = absurd (false-true e)

as_external : {env : Names} {t : Bool} {h : ℕ} {all : List Token} {o : Out Part} → Gives (ReadPart env t is_declaration h all) o → Gives (ReadPart env t is_external h all) o
as_external g = gives_weaken g (λ a rest x. record { is = x.is; holds = declaration_external a x.holds; height = x.height })

clauses_end_sound : (q : PartReads) (h : ℕ) (env : Names) (t : Bool) (all mid mid2 rest : List Token) (s e : Tree) (c : Part) → ReadAs env IsSpecs h all s mid → leaves (declared s env) s mid ≡ true → IsItem (declared s env) Declared h mid e mid2 → ReadPart (within_function s e env) t are_function_clauses h mid2 c rest
    → Gives (ReadPart env t is_external (suc h) all) (clauses_end q env all s e c rest)
clauses_end_sound q h env t all mid mid2 rest s e (Clauses c m) x l y z =
    let s1 = split z.is in
    gives_eat (λ rest' k. gives_part (Prototype s e c m) refl (front_then (exactly x) (front_then (front_leaves (declared s env) s l y.is) (front_then (front_where (and_first (are_function_clauses m) z.holds) s1.first) (front_then (front_where (and_second (is_function_clause c) z.holds) s1.second) k)))) refl
    (omega (arith, x.height, y.height, z.height)))
clauses_end_sound q h env t all mid mid2 rest s e _ x l y z = gives_nothing

function_sound : (q : PartReads) (h : ℕ) → PartSound q h → (env : Names) (t : Bool) (all mid mid2 : List Token) (s e : Tree) → ReadAs env IsSpecs h all s mid → leaves (declared s env) s mid ≡ true → IsItem (declared s env) Declared h mid e mid2
    → Gives (ReadPart env t is_external (suc h) all) (function q env all s e mid2)
function_sound q h d env t all mid mid2 s e x l y =
    gives_next (function_clauses_sound q h d (within_function s e env) t mid2) (λ c rest z. gives_if {b = begins (Marked LeftBrace) rest}
    (λ _. gives_next (d.statement (within_function s e env) t rest) (λ b rest' w. gives_checked (is_block b) (λ k.
    gives_part (Definition s e c b) refl (front_then (exactly x) (front_then (front_leaves (declared s env) s l y.is) (front_then (tested_front z) (front_where k w.is)))) refl (omega (arith, x.height, y.height, z.height, w.height)))))
    (λ _. clauses_end_sound q h env t all mid mid2 rest s e c x l y z))

pub external_sound : (r : Reads) (q : PartReads) (h : ℕ) → Sound r h → PartSound q h → (env : Names) (t : Bool) (ts : List Token) → Gives (ReadPart env t is_external (suc h) ts) (external r q h env ts)
external_sound r q h s d env t all =
    gives_next (specs_sound r h s env all) (λ a mid x. gives_checked (leaves (declared a env) a mid) (λ l. gives_if {b = begins (Marked Semicolon) mid}
    (λ _. as_external (declaration_from_sound r q h s d.braces env t all mid a x l))
    (λ _. gives_next (named_sound r h s (declared a env) mid) (λ e mid2 y. gives_if {b = is_function mid2}
    (λ _. function_sound q h d env t all mid mid2 a e x l y)
    (λ _. as_external (declaration_from_sound r q h s d.braces env t all mid a x l))))))

step_sound : (r : Reads) (q : PartReads) (h : ℕ) → Sound r h → PartSound q h → Settles q → PartSound (part_step r q h) (suc h)
step_sound r q h s d n =
    record {
      braces = braces_sound r q h s d.braces;
      clause = clause_sound r h s;
      statement = statement_sound r q h s d n;
      first = first_declaration_sound r q h s d.braces;
      declaration = declaration_sound r q h s d.braces;
    }

pub settles : (h : ℕ) → Settles (reads_part h)
settles zero env ts = gives_nothing
settles (suc h) env ts = statement_settles (reads h) (reads_part h) (settles h) env ts

pub part_sound : (h : ℕ) → PartSound (reads_part h) h
part_sound zero = record { braces = λ env t ts. gives_nothing; clause = λ env t ts. gives_nothing; statement = λ env t ts. gives_nothing; first = λ env t ts. gives_nothing; declaration = λ env t ts. gives_nothing }
part_sound (suc h) = let s = step_sound (reads h) (reads_part h) h (sound h) (part_sound h) (settles h) in record { braces = s.braces; clause = s.clause; statement = s.statement; first = s.first; declaration = s.declaration }

abbrev ExternalSound : PartReads → ℕ → Type 0
ExternalSound q h = (env : Names) (t : Bool) (ts : List Token) → Gives (ReadPart env t is_external h ts) (q ExternalOf env ts)

pub part_external : (h : ℕ) → ExternalSound (reads_part h) h
part_external zero env t ts = gives_nothing
part_external (suc h) env t ts = external_sound (reads h) (reads_part h) h (sound h) (part_sound h) env t ts

-- a unit to the end of the tokens
pub record ReadUnit (env : Names) (t : Bool) (h : ℕ) (all : List Token) (a : Part) (rest : List Token) : Type 0 where
  pub is : Front (Spells env t a) all rest
  pub whole : is_unit a ≡ true
  pub height : height_of a ≤ h
  pub done : rest ≡ []

externals_sound : (q : PartReads) (h : ℕ) → ExternalSound q h → (env : Names) (t : Bool) (n : ℕ) (ts : List Token) → Gives (ReadUnit env t h ts) (externals q env n ts)
externals_sound q h d env t n [] = gives_found NoExternals [] (record { is = front_empty []; whole = refl; height = omega arith; done = refl })
externals_sound q h d env t zero (u ∷ ts) = gives_nothing
externals_sound q h d env t (suc n) (u ∷ ts) =
    gives_next (d env t (u ∷ ts)) (λ a rest x. gives_next (externals_sound q h d (in_force_behind a env) t n rest) (λ m rest' y.
    gives_found (Externals a m) rest' (record { is = front_then (tested_front x) (front_where y.whole y.is); whole = refl; height = omega (arith, x.height, y.height); done = y.done })))

append_nil : (ts : List Token) → ts ++ [] ≡ ts
append_nil [] = refl
append_nil (t ∷ ts) = ap (λ l. t ∷ l) (append_nil ts)

pub record ReadWhole (h : ℕ) (ts : List Token) (a : Part) (rest : List Token) : Type 0 where
  pub spelled : SpellsUnit ts a
  pub height : height_of a ≤ h
  pub done : rest ≡ []

-- what is read as a unit is spelled by the tokens
pub unit_sound : (h : ℕ) (ts : List Token) → Gives (ReadWhole h ts) (reads_unit h ts)
unit_sound h ts =
    gives_weaken (externals_sound (reads_part h) h (part_external h) first_names false (length ts) ts) (λ a rest x.
    let same : x.is.front ≡ ts = sym (x.is.whole ∙ (ap (λ l. x.is.front ++ l) x.done ∙ append_nil x.is.front)) in
    record { spelled = record { whole = x.whole; spelled = subst (Spells first_names false a) same x.is.is }; height = x.height; done = x.done })
