-- What is spelled as a statement, a declaration or a unit is read there, and so tokens spell at most one unit.
use Rattle.std.proofs.Common.{◌≡◌, ℕ, zero, suc, ◌<◌, ◌≤◌, Bool, true, false, if◌then◌else◌, ◌||◌, ◌&&◌, not, List, [], ◌∷◌, length, max, refl, sym, ap, ◌∙◌, arith, length-append}
use Rattle.dc_syntax.specs.declared.mark.Mark.{Mark}
use Rattle.dc_syntax.specs.declared.mark.Mark.TheVariants.{RightParen, LeftBrace, RightBrace, Semicolon}
use Rattle.dc_syntax.specs.Names.{Names}
use Rattle.dc_syntax.specs.Phrases.{Where, Passing, Sorted, begins_spec, begins_specs, leaves}
use Rattle.dc_syntax.proofs.Words.{word_is, false-true}
use Rattle.dc_syntax.proofs.Base.{Front, front_then, front_where, split, First, first_word, unplaced, held, opened, sorted, empty_is, shorter}
use Rattle.dc_syntax.proofs.Reached.{next_is, found_is, if_true, if_false, checked_is, eat_is, passes, passes_is, begins_is, other_word, begins_other}
use Rattle.dc_syntax.proofs.Heads.{starts, heads, no_specs, specs_pass, closes, continues, ends_at, declarator_begins, specs_begin, joins, stops_first}
use Rattle.dc_syntax.specs.Tokens.{Word, Marked, Token, Place, is_word, break_word, case_word, continue_word, default_word, do_word, else_word, for_word, if_word, return_word, switch_word, while_word, requires_word, ensures_word, assigns_word, frees_word, loop_invariant_word, decreases_word}
use Rattle.dc_syntax.specs.Names.{first_names}
use Rattle.dc_syntax.specs.Trees.{Tree, IsDeclarator, is_named, is_typedef, declared, height}
use Rattle.dc_syntax.specs.Grammar.{Is}
use Rattle.dc_syntax.specs.Parts.{Part, Braces, Plain, Initialized, NoneDeclared, SomeDeclared, Requires, Ensures, Assigns, Frees, LoopInvariant, Decreases, NoClauses, Clauses, Block, Empty, Simple, Return, ReturnValue, Break, Continue, If, IfElse, While, Do, For, Switch, Case, Default, NoStep, Step, FirstDeclaration, NoItems, Items, Declaration, Definition, Prototype, NoExternals, Externals, is_init_decl, is_declared, is_function_clause, is_loop_clause, are_function_clauses, are_loop_clauses, is_block, is_statement, is_step_part, is_first_part, is_items, is_declaration, is_item, is_external, is_unit, declaring, in_force_behind, within_function, height_of}
use Rattle.dc_syntax.specs.Units.{tested, Spells, SpellsUnit}
use Rattle.dc_syntax.specs.Reading.{Out, Nothing, Found, between, begins, Reads, is_declarator_word, declarator_named, reads}
use Rattle.dc_syntax.specs.ReadingUnits.{tested as read_tested, PartReads, StatementOf, DeclarationOf, declaration_from, begins_clause, clauses, loop_clauses, function_clauses, items, ended, returned, branch, while_loop, do_loop, optional, first, for_body, for_step, for_condition, for_loop, switched, labelled, otherwise, statement, is_function, external_from, external, part_step, reads_part, externals, reads_unit}
use Rattle.dc_syntax.proofs.Complete.{Complete, exact, named_complete, not_nameless, inner, Behind, specs_complete, behind_declarator}
use Rattle.dc_syntax.proofs.CompleteExpressions.{complete}
use Rattle.dc_syntax.proofs.CompleteClauses.{is_braces, is_clause, is_first_declaration, Stop, PartComplete, init_decl_begins, more_declared_close, ends_semicolon, self, declaration_from_complete, declaration_complete, first_complete, braces_complete, clause_complete, behind_declared}

abbrev is_one_of : List Word → Word → Bool
is_one_of [] w = false
is_one_of (v ∷ vs) w = is_word v w || is_one_of vs w

abbrev statement_words : List Word
statement_words = Marked LeftBrace ∷ Marked Semicolon ∷ if_word ∷ while_word ∷ do_word ∷ for_word ∷ switch_word ∷ case_word ∷ default_word ∷ return_word ∷ break_word ∷ continue_word ∷ []

-- what a statement begins with: an expression, or one of these words
pub data Leads (env : Names) (all : List Token) : Type 0 where
  ByExpression : passes (starts env) all ≡ true → Leads env all
  ByWord : (w : Word) (rest : List Token) → First w all rest → is_one_of statement_words w ≡ true → Leads env all

statement_leads : (env : Names) (t : Bool) (all : List Token) (a : Part) (rest : List Token) → Front (Spells env t a) all rest → is_statement a ≡ true → Leads env all
statement_leads env t all (Block m p) rest f y = ByWord (Marked LeftBrace) _ (first_word (split (unplaced f).is).first) refl
statement_leads env t all (Empty p) rest f y = ByWord (Marked Semicolon) _ (first_word (unplaced f).is) refl
statement_leads env t all (Simple e p) rest f y = let s1 = split (unplaced f).is in let o = opened s1.first in ByExpression (heads env all e s1.mid o.is o.level)
statement_leads env t all (Return p) rest f y = ByWord (return_word) _ (first_word (split (unplaced f).is).first) refl
statement_leads env t all (ReturnValue e p) rest f y = ByWord (return_word) _ (first_word (split (unplaced f).is).first) refl
statement_leads env t all (Break p) rest f y = ByWord (break_word) _ (first_word (split (unplaced f).is).first) refl
statement_leads env t all (Continue p) rest f y = ByWord (continue_word) _ (first_word (split (unplaced f).is).first) refl
statement_leads env t all (If e a p) rest f y = ByWord (if_word) _ (first_word (split (unplaced f).is).first) refl
statement_leads env t all (IfElse e a b p) rest f y = ByWord (if_word) _ (first_word (split (unplaced f).is).first) refl
statement_leads env t all (While e c a p) rest f y = ByWord (while_word) _ (first_word (split (unplaced f).is).first) refl
statement_leads env t all (Do a e c p) rest f y = ByWord (do_word) _ (first_word (split (unplaced f).is).first) refl
statement_leads env t all (For g e s c a p) rest f y = ByWord (for_word) _ (first_word (split (unplaced f).is).first) refl
statement_leads env t all (Switch e a p) rest f y = ByWord (switch_word) _ (first_word (split (unplaced f).is).first) refl
statement_leads env t all (Case c a p) rest f y = ByWord (case_word) _ (first_word (split (unplaced f).is).first) refl
statement_leads env t all (Default a p) rest f y = ByWord (default_word) _ (first_word (split (unplaced f).is).first) refl
statement_leads env t all _ rest f y = absurd (false-true y)

-- a word that no statement begins with
leads_not : (env : Names) (v : Word) (all : List Token) → Leads env all → starts env v ≡ false → is_one_of statement_words v ≡ false → begins v all ≡ false
leads_not env v all (ByExpression p) a b = begins_other (starts env) v all a p
leads_not env v all (ByWord w rest f one) a b = begins_is v f ∙ other_word (is_one_of statement_words) v w b one

abbrev none_of : (Word → Bool) → List Word → Bool
none_of g [] = true
none_of g (v ∷ vs) = not (g v) && none_of g vs

not_first : (a b : Bool) → (not a && b) ≡ true → a ≡ false
not_first true b e = absurd (false-true e)
not_first false b e = refl

not_rest : (a b : Bool) → (not a && b) ≡ true → b ≡ true
not_rest true b e = absurd (false-true e)
not_rest false b e = e

-- what none of the words passes, one of them doesn't
one_of_not : (g : Word → Bool) (vs : List Word) (w : Word) → is_one_of vs w ≡ true → none_of g vs ≡ true → g w ≡ false
one_of_not g [] w e n = absurd (false-true e)
one_of_not g (v ∷ vs) w e n = by (is_word v w) refl e (λ e. one_of_not g vs w e (not_rest (g v) (none_of g vs) n))
  where
    by : (b : Bool) → is_word v w ≡ b → (b || is_one_of vs w) ≡ true → (is_one_of vs w ≡ true → g w ≡ false) → g w ≡ false
    by true i e rest = ap g (word_is v w i) ∙ not_first (g v) (none_of g vs) n
    by false i e rest = rest e

leads_no_spec : (env : Names) (all : List Token) → Leads env all → begins_specs env all ≡ false
leads_no_spec env all (ByExpression p) = no_specs env all p
leads_no_spec env all (ByWord w rest f one) = specs_pass env all ∙ (passes_is (begins_spec env) f ∙ one_of_not (begins_spec env) statement_words w one refl)

or_false : {a b : Bool} → a ≡ false → b ≡ false → (a || b) ≡ false
or_false {a} {b} p q = ap (λ a. a || b) p ∙ q

no_clause_leads : (env : Names) (all : List Token) → Leads env all → begins_clause all ≡ false
no_clause_leads env all l =
    or_false (leads_not env requires_word all l refl refl) (or_false (leads_not env ensures_word all l refl refl) (or_false (leads_not env assigns_word all l refl refl)
    (or_false (leads_not env frees_word all l refl refl) (or_false (leads_not env loop_invariant_word all l refl refl) (leads_not env decreases_word all l refl refl)))))

abbrev clause_word : Word → Bool
clause_word w = is_word requires_word w || (is_word ensures_word w || (is_word assigns_word w || (is_word frees_word w || (is_word loop_invariant_word w || is_word decreases_word w))))

no_clause_first : {w : Word} {all rest : List Token} → First w all rest → clause_word w ≡ false → begins_clause all ≡ false
no_clause_first {w} {all} {rest} f e = ap begins_clause f.whole ∙ (ap clause_word f.word ∙ e)

-- a clause begins with its word
clause_begins : (env : Names) (t : Bool) (all : List Token) (a : Part) (rest : List Token) → Front (Spells env t a) all rest → is_clause a ≡ true → (begins_clause all ≡ true) × (passes continues all ≡ false) × (length rest < length all)
clause_begins env t all (Requires b p) rest f y = let s1 = split (unplaced f).is in let w = first_word s1.first in let n = ap length w.whole in let k = shorter s1.second in (ap begins_clause w.whole ∙ ap clause_word w.word, passes_is continues w, omega (arith, n, k))
clause_begins env t all (Ensures b p) rest f y = let s1 = split (unplaced f).is in let w = first_word s1.first in let n = ap length w.whole in let k = shorter s1.second in (ap begins_clause w.whole ∙ ap clause_word w.word, passes_is continues w, omega (arith, n, k))
clause_begins env t all (Assigns b p) rest f y = let s1 = split (unplaced f).is in let w = first_word s1.first in let n = ap length w.whole in let k = shorter s1.second in (ap begins_clause w.whole ∙ ap clause_word w.word, passes_is continues w, omega (arith, n, k))
clause_begins env t all (Frees b p) rest f y = let s1 = split (unplaced f).is in let w = first_word s1.first in let n = ap length w.whole in let k = shorter s1.second in (ap begins_clause w.whole ∙ ap clause_word w.word, passes_is continues w, omega (arith, n, k))
clause_begins env t all (LoopInvariant b p) rest f y = let s1 = split (unplaced f).is in let w = first_word s1.first in let n = ap length w.whole in let k = shorter s1.second in (ap begins_clause w.whole ∙ ap clause_word w.word, passes_is continues w, omega (arith, n, k))
clause_begins env t all (Decreases b m p) rest f y = let s1 = split (unplaced f).is in let w = first_word s1.first in let n = ap length w.whole in let k = shorter s1.second in (ap begins_clause w.whole ∙ ap clause_word w.word, passes_is continues w, omega (arith, n, k))
clause_begins env t all _ rest f y = absurd (false-true y)

abbrev are_clauses : Part → Bool
are_clauses NoClauses = true
are_clauses (Clauses c m) = is_clause c && are_clauses m
are_clauses _ = false

and_first : {a : Bool} (b : Bool) → (a && b) ≡ true → a ≡ true
and_first {a} b e = elim a as (λ a. (a && b) ≡ true → a ≡ true) [ true ↦ λ e. refl | false ↦ λ e. e ] e

and_second : (a : Bool) {b : Bool} → (a && b) ≡ true → b ≡ true
and_second a {b} e = elim a as (λ a. (a && b) ≡ true → b ≡ true) [ true ↦ λ e. e | false ↦ λ e. absurd (false-true e) ] e

and_both : {a b : Bool} → a ≡ true → b ≡ true → (a && b) ≡ true
and_both {a} {b} p q = ap (λ a. a && b) p ∙ q

or_left : {a : Bool} (b : Bool) → a ≡ true → (a || b) ≡ true
or_left {a} b e = ap (λ a. a || b) e

or_right : (a : Bool) {b : Bool} → b ≡ true → (a || b) ≡ true
or_right true e = refl
or_right false e = e

loop_are : (c : Part) → are_loop_clauses c ≡ true → are_clauses c ≡ true
loop_are NoClauses e = refl
loop_are (Clauses c m) e = and_both (or_right (is_function_clause c) (and_first (are_loop_clauses m) e)) (loop_are m (and_second (is_loop_clause c) e))
loop_are _ e = absurd (false-true e)

function_are : (c : Part) → are_function_clauses c ≡ true → are_clauses c ≡ true
function_are NoClauses e = refl
function_are (Clauses c m) e = and_both (or_left (is_loop_clause c) (and_first (are_function_clauses m) e)) (function_are m (and_second (is_function_clause c) e))
function_are _ e = absurd (false-true e)

no_clauses : (q : PartReads) (env : Names) (n : ℕ) (ts : List Token) → begins_clause ts ≡ false → clauses q env n ts ≡ Found NoClauses ts
no_clauses q env zero ts e = refl
no_clauses q env (suc n) ts e = if_false _ _ e

clauses_complete : (q : PartReads) (h : ℕ) → PartComplete q h → (env : Names) (t : Bool) (n : ℕ) (all : List Token) (c : Part) (rest : List Token) → Front (Spells env t c) all rest → are_clauses c ≡ true → height_of c ≤ h → length all ≤ n → begins_clause rest ≡ false → clauses q env n all ≡ Found c rest
clauses_complete q h d env t n all NoClauses rest f y le few e = ap (clauses q env n) (empty_is f) ∙ no_clauses q env n rest e
clauses_complete q h d env t zero all (Clauses c m) rest f y le few e = let s1 = split f in let b = clause_begins env t all c s1.mid s1.first (and_first (are_clauses m) y) in let k = b.2 in absurd (omega (arith, k, few))
clauses_complete q h d env t (suc n) all (Clauses c m) rest f y le few e =
    let s1 = split f in let b = clause_begins env t all c s1.mid s1.first (and_first (are_clauses m) y) in let k = b.2 in
    if_true _ _ b.0 ∙ (next_is _ (d.clause env t all c s1.mid s1.first (and_first (are_clauses m) y) (omega (arith, le))) ∙ next_is _ (clauses_complete q h d env t n s1.mid m rest s1.second (and_second (is_clause c) y) (omega (arith, le)) (omega (arith, k, few)) e))
clauses_complete q h d env t n all _ rest f y le few e = absurd (false-true y)

loop_clauses_complete : (q : PartReads) (h : ℕ) → PartComplete q h → (env : Names) (t : Bool) (all : List Token) (c : Part) (rest : List Token) → Front (Where (are_loop_clauses c) (Spells env t c)) all rest → height_of c ≤ h → begins_clause rest ≡ false → loop_clauses q env all ≡ Found c rest
loop_clauses_complete q h d env t all c rest f le e =
    let u = held f in next_is _ (clauses_complete q h d env t (length all) all c rest u.is (loop_are c u.holds) le (omega arith) e) ∙ checked_is _ u.holds

function_clauses_complete : (q : PartReads) (h : ℕ) → PartComplete q h → (env : Names) (t : Bool) (all : List Token) (c : Part) (rest : List Token) → Front (Where (are_function_clauses c) (Spells env t c)) all rest → height_of c ≤ h → begins_clause rest ≡ false → function_clauses q env all ≡ Found c rest
function_clauses_complete q h d env t all c rest f le e =
    let u = held f in next_is _ (clauses_complete q h d env t (length all) all c rest u.is (function_are c u.holds) le (omega arith) e) ∙ checked_is _ u.holds

-- declarations
declaration_begins : (env : Names) (t : Bool) (all : List Token) (a : Part) (rest : List Token) → Front (Spells env t a) all rest → is_declaration a ≡ true → begins_specs env all ≡ true
declaration_begins env t all (Declaration s m p) rest f y = let s1 = split (held (unplaced f).is).is in let o = sorted s1.first in specs_begin env all s s1.mid o.is o.sort
declaration_begins env t all _ rest f y = absurd (false-true y)

begins_spec_not : (env : Names) (v : Word) (all : List Token) → begins_specs env all ≡ true → begins_spec env v ≡ false → begins v all ≡ false
begins_spec_not env v all e n = begins_other (begins_spec env) v all n (sym (specs_pass env all) ∙ e)

-- one token at least
leads_one : (env : Names) (all : List Token) → Leads env all → 0 < length all
leads_one env [] (ByExpression p) = absurd (false-true p)
leads_one env [] (ByWord w rest f one) = let n = ap length f.whole in absurd (omega (arith, n))
leads_one env (t ∷ ts) l = omega arith

specs_one : (env : Names) (all : List Token) → begins_specs env all ≡ true → 0 < length all
specs_one env [] e = absurd (false-true e)
specs_one env (t ∷ ts) e = omega arith

length-front : {A : List Token → Type 0} {all rest : List Token} (f : Front A all rest) → 0 < length f.front → length rest < length all
length-front {A} {all} {rest} f one = omega (arith, one, ap length f.whole, length-append f.front rest)

-- what stands in a block
pub record ItemHead (all rest : List Token) : Type 0 where
  pub no_brace : begins (Marked RightBrace) all ≡ false
  pub no_else : begins else_word all ≡ false
  pub shorter : length rest < length all

statement_head : (env : Names) (t : Bool) (all : List Token) (a : Part) (rest : List Token) → Front (Spells env t a) all rest → is_statement a ≡ true → ItemHead all rest
statement_head env t all a rest f y =
    let l = statement_leads env t all a rest f y in
    record {
      no_brace = leads_not env (Marked RightBrace) all l refl refl;
      no_else = leads_not env else_word all l refl refl;
      shorter = length-front f (leads_one env f.front (statement_leads env t f.front a [] (self f.front f.is) y));
    }

declaration_head : (env : Names) (t : Bool) (all : List Token) (a : Part) (rest : List Token) → Front (Spells env t a) all rest → is_declaration a ≡ true → ItemHead all rest
declaration_head env t all a rest f y =
    let e = declaration_begins env t all a rest f y in
    record {
      no_brace = begins_spec_not env (Marked RightBrace) all e refl;
      no_else = begins_spec_not env else_word all e refl;
      shorter = length-front f (specs_one env f.front (declaration_begins env t f.front a [] (self f.front f.is) y));
    }

item_head : (env : Names) (t : Bool) (all : List Token) (a : Part) (rest : List Token) → Front (Spells env t a) all rest → is_item a ≡ true → ItemHead all rest
item_head env t all a rest f y = by (is_statement a) refl y
  where
    by : (b : Bool) → is_statement a ≡ b → (b || is_declaration a) ≡ true → ItemHead all rest
    by true e y = statement_head env t all a rest f e
    by false e y = declaration_head env t all a rest f y

brace_no_else : (ts : List Token) → begins (Marked RightBrace) ts ≡ true → begins else_word ts ≡ false
brace_no_else [] e = refl
brace_no_else (t ∷ ts) e = ap (is_word else_word) (word_is (Marked RightBrace) t.word e)

items_no_else : (env : Names) (t : Bool) (all : List Token) (m : Part) (rest : List Token) → Front (Spells env t m) all rest → is_items m ≡ true → begins (Marked RightBrace) rest ≡ true → begins else_word all ≡ false
items_no_else env t all NoItems rest f y e = ap (begins else_word) (empty_is f) ∙ brace_no_else rest e
items_no_else env t all (Items a m) rest f y e = let s1 = split f in let u = held s1.first in let i = item_head env t all a s1.mid u.is u.holds in i.no_else
items_no_else env t all _ rest f y e = absurd (false-true y)

item_complete : (q : PartReads) (h : ℕ) → PartComplete q h → (env : Names) (t : Bool) (all : List Token) (a : Part) (rest : List Token) → Front (Spells env t a) all rest → is_item a ≡ true → height_of a ≤ h → begins else_word rest ≡ false
    → (if begins_specs env all then q DeclarationOf env all else q StatementOf env all) ≡ Found a rest
item_complete q h d env t all a rest f y le e = by (is_statement a) refl y
  where
    by : (b : Bool) → is_statement a ≡ b → (b || is_declaration a) ≡ true → (if begins_specs env all then q DeclarationOf env all else q StatementOf env all) ≡ Found a rest
    by true s y = if_false _ _ (leads_no_spec env all (statement_leads env t all a rest f s)) ∙ d.statement env t all a rest f s le (λ z. absurd (false-true (sym e ∙ z)))
    by false s y = if_true _ _ (declaration_begins env t all a rest f y) ∙ d.declaration env t all a rest f y le

items_complete : (q : PartReads) (h : ℕ) → PartComplete q h → (env : Names) (t : Bool) (n : ℕ) (all : List Token) (m : Part) (rest : List Token) → Front (Spells env t m) all rest → is_items m ≡ true → height_of m ≤ h → length all ≤ n → begins (Marked RightBrace) rest ≡ true → items q env n all ≡ Found m rest
items_complete q h d env t zero all NoItems rest f y le few e = ap (λ l. Found NoItems l) (empty_is f)
items_complete q h d env t (suc n) all NoItems rest f y le few e = if_true _ _ (ap (begins (Marked RightBrace)) (empty_is f) ∙ e) ∙ ap (λ l. Found NoItems l) (empty_is f)
items_complete q h d env t zero all (Items a m) rest f y le few e = let s1 = split f in let u = held s1.first in let i = item_head env t all a s1.mid u.is u.holds in let k = i.shorter in absurd (omega (arith, k, few))
items_complete q h d env t (suc n) all (Items a m) rest f y le few e =
    let s1 = split f in let u = held s1.first in let v = held s1.second in let i = item_head env t all a s1.mid u.is u.holds in let k = i.shorter in
    if_false _ _ i.no_brace ∙ (next_is _ (item_complete q h d env t all a s1.mid u.is u.holds (omega (arith, le)) (items_no_else (in_force_behind a env) t s1.mid m rest v.is v.holds e))
    ∙ next_is _ (items_complete q h d (in_force_behind a env) t n s1.mid m rest v.is v.holds (omega (arith, le)) (omega (arith, k, few)) e))
items_complete q h d env t n all _ rest f y le few e = absurd (false-true y)

-- statements, one at a time
tested_is : (r : Reads) (h : ℕ) → Complete r h → (env : Names) (ts : List Token) (e : Tree) (mid : List Token) (go : Tree → List Token → Out Part) → Front (tested env e) ts mid → height e ≤ h → read_tested r env ts go ≡ go e mid
tested_is r h c env ts e mid go f le =
    let s1 = split f in let s2 = split s1.second in let close = first_word s2.second in
    eat_is _ (first_word s1.first) refl ∙ (next_is _ (exact r h c 16 (omega arith) env s1.mid e s2.mid s2.first le (stops_first 16 close (omega arith))) ∙ eat_is _ close refl)

ended_is : (all ts : List Token) (node : Place → Part) (p : Place) (rest : List Token) → First (Marked Semicolon) ts rest → between all rest ≡ p → ended all ts node ≡ Found (node p) rest
ended_is all ts node p rest w place = eat_is _ w refl ∙ found_is all node place

-- the readers' way to a keyword
at_if_word : (r : Reads) (q : PartReads) (env : Names) (all rest : List Token) → First if_word all rest → statement r q env all ≡ branch r q env all rest
at_if_word r q env all rest w = if_false _ _ (begins_is (Marked LeftBrace) w) ∙ (if_false _ _ (begins_is (Marked Semicolon) w) ∙ (if_true _ _ (begins_is if_word w) ∙ eat_is _ w refl))

at_while_word : (r : Reads) (q : PartReads) (env : Names) (all rest : List Token) → First while_word all rest → statement r q env all ≡ while_loop r q env all rest
at_while_word r q env all rest w = if_false _ _ (begins_is (Marked LeftBrace) w) ∙ (if_false _ _ (begins_is (Marked Semicolon) w) ∙ (if_false _ _ (begins_is if_word w) ∙ (if_true _ _ (begins_is while_word w) ∙ eat_is _ w refl)))

at_do_word : (r : Reads) (q : PartReads) (env : Names) (all rest : List Token) → First do_word all rest → statement r q env all ≡ do_loop r q env all rest
at_do_word r q env all rest w = if_false _ _ (begins_is (Marked LeftBrace) w) ∙ (if_false _ _ (begins_is (Marked Semicolon) w) ∙ (if_false _ _ (begins_is if_word w) ∙ (if_false _ _ (begins_is while_word w) ∙ (if_true _ _ (begins_is do_word w) ∙ eat_is _ w refl))))

at_for_word : (r : Reads) (q : PartReads) (env : Names) (all rest : List Token) → First for_word all rest → statement r q env all ≡ for_loop r q env all rest
at_for_word r q env all rest w = if_false _ _ (begins_is (Marked LeftBrace) w) ∙ (if_false _ _ (begins_is (Marked Semicolon) w) ∙ (if_false _ _ (begins_is if_word w) ∙ (if_false _ _ (begins_is while_word w) ∙ (if_false _ _ (begins_is do_word w) ∙ (if_true _ _ (begins_is for_word w) ∙ eat_is _ w refl)))))

at_switch_word : (r : Reads) (q : PartReads) (env : Names) (all rest : List Token) → First switch_word all rest → statement r q env all ≡ switched r q env all rest
at_switch_word r q env all rest w = if_false _ _ (begins_is (Marked LeftBrace) w) ∙ (if_false _ _ (begins_is (Marked Semicolon) w) ∙ (if_false _ _ (begins_is if_word w) ∙ (if_false _ _ (begins_is while_word w) ∙ (if_false _ _ (begins_is do_word w) ∙ (if_false _ _ (begins_is for_word w) ∙ (if_true _ _ (begins_is switch_word w) ∙ eat_is _ w refl))))))

at_case_word : (r : Reads) (q : PartReads) (env : Names) (all rest : List Token) → First case_word all rest → statement r q env all ≡ labelled r q env all rest
at_case_word r q env all rest w = if_false _ _ (begins_is (Marked LeftBrace) w) ∙ (if_false _ _ (begins_is (Marked Semicolon) w) ∙ (if_false _ _ (begins_is if_word w) ∙ (if_false _ _ (begins_is while_word w) ∙ (if_false _ _ (begins_is do_word w) ∙ (if_false _ _ (begins_is for_word w) ∙ (if_false _ _ (begins_is switch_word w) ∙ (if_true _ _ (begins_is case_word w) ∙ eat_is _ w refl)))))))

at_default_word : (r : Reads) (q : PartReads) (env : Names) (all rest : List Token) → First default_word all rest → statement r q env all ≡ otherwise q env all rest
at_default_word r q env all rest w = if_false _ _ (begins_is (Marked LeftBrace) w) ∙ (if_false _ _ (begins_is (Marked Semicolon) w) ∙ (if_false _ _ (begins_is if_word w) ∙ (if_false _ _ (begins_is while_word w) ∙ (if_false _ _ (begins_is do_word w) ∙ (if_false _ _ (begins_is for_word w) ∙ (if_false _ _ (begins_is switch_word w) ∙ (if_false _ _ (begins_is case_word w) ∙ (if_true _ _ (begins_is default_word w) ∙ eat_is _ w refl))))))))

at_return_word : (r : Reads) (q : PartReads) (env : Names) (all rest : List Token) → First return_word all rest → statement r q env all ≡ returned r env all rest
at_return_word r q env all rest w = if_false _ _ (begins_is (Marked LeftBrace) w) ∙ (if_false _ _ (begins_is (Marked Semicolon) w) ∙ (if_false _ _ (begins_is if_word w) ∙ (if_false _ _ (begins_is while_word w) ∙ (if_false _ _ (begins_is do_word w) ∙ (if_false _ _ (begins_is for_word w) ∙ (if_false _ _ (begins_is switch_word w) ∙ (if_false _ _ (begins_is case_word w) ∙ (if_false _ _ (begins_is default_word w) ∙ (if_true _ _ (begins_is return_word w) ∙ eat_is _ w refl)))))))))

at_break_word : (r : Reads) (q : PartReads) (env : Names) (all rest : List Token) → First break_word all rest → statement r q env all ≡ ended all rest Break
at_break_word r q env all rest w = if_false _ _ (begins_is (Marked LeftBrace) w) ∙ (if_false _ _ (begins_is (Marked Semicolon) w) ∙ (if_false _ _ (begins_is if_word w) ∙ (if_false _ _ (begins_is while_word w) ∙ (if_false _ _ (begins_is do_word w) ∙ (if_false _ _ (begins_is for_word w) ∙ (if_false _ _ (begins_is switch_word w) ∙ (if_false _ _ (begins_is case_word w) ∙ (if_false _ _ (begins_is default_word w) ∙ (if_false _ _ (begins_is return_word w) ∙ (if_true _ _ (begins_is break_word w) ∙ eat_is _ w refl))))))))))

at_continue_word : (r : Reads) (q : PartReads) (env : Names) (all rest : List Token) → First continue_word all rest → statement r q env all ≡ ended all rest Continue
at_continue_word r q env all rest w = if_false _ _ (begins_is (Marked LeftBrace) w) ∙ (if_false _ _ (begins_is (Marked Semicolon) w) ∙ (if_false _ _ (begins_is if_word w) ∙ (if_false _ _ (begins_is while_word w) ∙ (if_false _ _ (begins_is do_word w) ∙ (if_false _ _ (begins_is for_word w) ∙ (if_false _ _ (begins_is switch_word w) ∙ (if_false _ _ (begins_is case_word w) ∙ (if_false _ _ (begins_is default_word w) ∙ (if_false _ _ (begins_is return_word w) ∙ (if_false _ _ (begins_is break_word w) ∙ (if_true _ _ (begins_is continue_word w) ∙ eat_is _ w refl)))))))))))

block_complete : (r : Reads) (q : PartReads) (h : ℕ) → Complete r h → PartComplete q h → (env : Names) (t : Bool) (all : List Token) (m : Part) (p : Place) (rest : List Token) → Front (Spells env t (Block m p)) all rest → height_of (Block m p) ≤ suc h → Stop (Block m p) rest
    → statement r q env all ≡ Found (Block m p) rest
block_complete r q h c d env t all m p rest f le st =
    let v = unplaced f in let s1 = split v.is in let s2 = split s1.second in let w = first_word s1.first in let u = held s2.first in let close = first_word s2.second in
    if_true _ _ (begins_is (Marked LeftBrace) w) ∙ (eat_is _ w refl ∙ (next_is _ (items_complete q h d env t (length s1.mid) s1.mid m s2.mid u.is u.holds (omega (arith, le)) (omega arith) (begins_is (Marked RightBrace) close)) ∙ (eat_is _ close refl ∙ found_is all (Block m) v.place)))

empty_complete : (r : Reads) (q : PartReads) (h : ℕ) → Complete r h → PartComplete q h → (env : Names) (t : Bool) (all : List Token) (p : Place) (rest : List Token) → Front (Spells env t (Empty p)) all rest → height_of (Empty p) ≤ suc h → Stop (Empty p) rest
    → statement r q env all ≡ Found (Empty p) rest
empty_complete r q h c d env t all p rest f le st =
    let v = unplaced f in let w = first_word v.is in if_false _ _ (begins_is (Marked LeftBrace) w) ∙ (if_true _ _ (begins_is (Marked Semicolon) w) ∙ ended_is all all Empty p rest w v.place)

simple_complete : (r : Reads) (q : PartReads) (h : ℕ) → Complete r h → PartComplete q h → (env : Names) (t : Bool) (all : List Token) (e : Tree) (p : Place) (rest : List Token) → Front (Spells env t (Simple e p)) all rest → height_of (Simple e p) ≤ suc h → Stop (Simple e p) rest
    → statement r q env all ≡ Found (Simple e p) rest
simple_complete r q h c d env t all e p rest f le st =
    let v = unplaced f in let s1 = split v.is in let o = opened s1.first in let w = first_word s1.second in let g = heads env all e s1.mid o.is o.level in
    if_false _ _ (begins_other (starts env) (Marked LeftBrace) all refl g) ∙ (if_false _ _ (begins_other (starts env) (Marked Semicolon) all refl g) ∙ (if_false _ _ (begins_other (starts env) if_word all refl g) ∙ (if_false _ _ (begins_other (starts env) while_word all refl g) ∙ (if_false _ _ (begins_other (starts env) do_word all refl g) ∙ (if_false _ _ (begins_other (starts env) for_word all refl g) ∙ (if_false _ _ (begins_other (starts env) switch_word all refl g) ∙ (if_false _ _ (begins_other (starts env) case_word all refl g) ∙ (if_false _ _ (begins_other (starts env) default_word all refl g) ∙ (if_false _ _ (begins_other (starts env) return_word all refl g) ∙ (if_false _ _ (begins_other (starts env) break_word all refl g) ∙ (if_false _ _ (begins_other (starts env) continue_word all refl g) ∙ (next_is _ (exact r h c 16 (omega arith) env all e s1.mid s1.first (omega (arith, le)) (stops_first 16 w (omega arith))) ∙ ended_is all s1.mid (Simple e) p rest w v.place))))))))))))

return_complete : (r : Reads) (q : PartReads) (h : ℕ) → Complete r h → PartComplete q h → (env : Names) (t : Bool) (all : List Token) (p : Place) (rest : List Token) → Front (Spells env t (Return p)) all rest → height_of (Return p) ≤ suc h → Stop (Return p) rest
    → statement r q env all ≡ Found (Return p) rest
return_complete r q h c d env t all p rest f le st =
    let v = unplaced f in let s1 = split v.is in let w = first_word s1.second in at_return_word r q env all s1.mid (first_word s1.first) ∙ (if_true _ _ (begins_is (Marked Semicolon) w) ∙ ended_is all s1.mid Return p rest w v.place)

return_value_complete : (r : Reads) (q : PartReads) (h : ℕ) → Complete r h → PartComplete q h → (env : Names) (t : Bool) (all : List Token) (e : Tree) (p : Place) (rest : List Token) → Front (Spells env t (ReturnValue e p)) all rest → height_of (ReturnValue e p) ≤ suc h → Stop (ReturnValue e p) rest
    → statement r q env all ≡ Found (ReturnValue e p) rest
return_value_complete r q h c d env t all e p rest f le st =
    let v = unplaced f in let s1 = split v.is in let s2 = split s1.second in let o = opened s2.first in let w = first_word s2.second in
    at_return_word r q env all s1.mid (first_word s1.first) ∙ (if_false _ _ (begins_other (starts env) (Marked Semicolon) s1.mid refl (heads env s1.mid e s2.mid o.is o.level))
    ∙ (next_is _ (exact r h c 16 (omega arith) env s1.mid e s2.mid s2.first (omega (arith, le)) (stops_first 16 w (omega arith))) ∙ ended_is all s2.mid (ReturnValue e) p rest w v.place))

break_complete : (r : Reads) (q : PartReads) (h : ℕ) → Complete r h → PartComplete q h → (env : Names) (t : Bool) (all : List Token) (p : Place) (rest : List Token) → Front (Spells env t (Break p)) all rest → height_of (Break p) ≤ suc h → Stop (Break p) rest
    → statement r q env all ≡ Found (Break p) rest
break_complete r q h c d env t all p rest f le st =
    let v = unplaced f in let s1 = split v.is in at_break_word r q env all s1.mid (first_word s1.first) ∙ ended_is all s1.mid Break p rest (first_word s1.second) v.place

continue_complete : (r : Reads) (q : PartReads) (h : ℕ) → Complete r h → PartComplete q h → (env : Names) (t : Bool) (all : List Token) (p : Place) (rest : List Token) → Front (Spells env t (Continue p)) all rest → height_of (Continue p) ≤ suc h → Stop (Continue p) rest
    → statement r q env all ≡ Found (Continue p) rest
continue_complete r q h c d env t all p rest f le st =
    let v = unplaced f in let s1 = split v.is in at_continue_word r q env all s1.mid (first_word s1.first) ∙ ended_is all s1.mid Continue p rest (first_word s1.second) v.place

if_complete : (r : Reads) (q : PartReads) (h : ℕ) → Complete r h → PartComplete q h → (env : Names) (t : Bool) (all : List Token) (e : Tree) (a : Part) (p : Place) (rest : List Token) → Front (Spells env t (If e a p)) all rest → height_of (If e a p) ≤ suc h → Stop (If e a p) rest
    → statement r q env all ≡ Found (If e a p) rest
if_complete r q h c d env t all e a p rest f le st =
    let v = unplaced f in let s1 = split v.is in let s2 = split s1.second in let u = held s2.second in
    at_if_word r q env all s1.mid (first_word s1.first) ∙ (tested_is r h c env s1.mid e s2.mid _ s2.first (omega (arith, le))
    ∙ (next_is _ (d.statement env t s2.mid a rest u.is u.holds (omega (arith, le)) (λ z. absurd (false-true (st z)))) ∙ (if_false _ _ (no_else (begins else_word rest) st) ∙ found_is all (If e a) v.place)))
  where
    no_else : (b : Bool) → (b ≡ true → false ≡ true) → b ≡ false
    no_else true g = sym (g refl)
    no_else false g = refl

if_else_complete : (r : Reads) (q : PartReads) (h : ℕ) → Complete r h → PartComplete q h → (env : Names) (t : Bool) (all : List Token) (e : Tree) (a b : Part) (p : Place) (rest : List Token) → Front (Spells env t (IfElse e a b p)) all rest → height_of (IfElse e a b p) ≤ suc h → Stop (IfElse e a b p) rest
    → statement r q env all ≡ Found (IfElse e a b p) rest
if_else_complete r q h c d env t all e a b p rest f le st =
    let v = unplaced f in let s1 = split v.is in let s2 = split s1.second in let s3 = split s2.second in let s4 = split s3.second in
    let k = held s3.first in let u = held k.is in let x = held s4.second in let w = first_word s4.first in
    at_if_word r q env all s1.mid (first_word s1.first) ∙ (tested_is r h c env s1.mid e s2.mid _ s2.first (omega (arith, le))
    ∙ (next_is _ (d.statement env t s2.mid a s3.mid u.is u.holds (omega (arith, le)) (λ z. k.holds)) ∙ (if_true _ _ (begins_is else_word w) ∙ (eat_is _ w refl
    ∙ (next_is _ (d.statement env t s4.mid b rest x.is x.holds (omega (arith, le)) st) ∙ found_is all (IfElse e a b) v.place)))))

while_complete : (r : Reads) (q : PartReads) (h : ℕ) → Complete r h → PartComplete q h → (env : Names) (t : Bool) (all : List Token) (e : Tree) (b a : Part) (p : Place) (rest : List Token) → Front (Spells env t (While e b a p)) all rest → height_of (While e b a p) ≤ suc h → Stop (While e b a p) rest
    → statement r q env all ≡ Found (While e b a p) rest
while_complete r q h c d env t all e b a p rest f le st =
    let v = unplaced f in let s1 = split v.is in let s2 = split s1.second in let s3 = split s2.second in let u = held s3.second in
    at_while_word r q env all s1.mid (first_word s1.first) ∙ (tested_is r h c env s1.mid e s2.mid _ s2.first (omega (arith, le))
    ∙ (next_is _ (loop_clauses_complete q h d env t s2.mid b s3.mid s3.first (omega (arith, le)) (no_clause_leads env s3.mid (statement_leads env t s3.mid a rest u.is u.holds)))
    ∙ (next_is _ (d.statement env t s3.mid a rest u.is u.holds (omega (arith, le)) st) ∙ found_is all (While e b a) v.place)))

do_complete : (r : Reads) (q : PartReads) (h : ℕ) → Complete r h → PartComplete q h → (env : Names) (t : Bool) (all : List Token) (a : Part) (e : Tree) (b : Part) (p : Place) (rest : List Token) → Front (Spells env t (Do a e b p)) all rest → height_of (Do a e b p) ≤ suc h → Stop (Do a e b p) rest
    → statement r q env all ≡ Found (Do a e b p) rest
do_complete r q h c d env t all a e b p rest f le st =
    let v = unplaced f in let s1 = split v.is in let s2 = split s1.second in let s3 = split s2.second in let s4 = split s3.second in let s5 = split s4.second in
    let u = held s2.first in let w = first_word s3.first in let z = first_word s5.second in
    at_do_word r q env all s1.mid (first_word s1.first) ∙ (next_is _ (d.statement env t s1.mid a s2.mid u.is u.holds (omega (arith, le)) (λ z. absurd (false-true (sym (begins_is else_word w) ∙ z))))
    ∙ (eat_is _ w refl ∙ (tested_is r h c env s3.mid e s4.mid _ s4.first (omega (arith, le)) ∙ (next_is _ (loop_clauses_complete q h d env t s4.mid b s5.mid s5.first (omega (arith, le)) (no_clause_first z refl)) ∙ ended_is all s5.mid (Do a e b) p rest z v.place))))

-- what may be left away in a `for`, and the mark behind it
optional_is : (r : Reads) (h : ℕ) → Complete r h → (env : Names) (t : Bool) (m : Mark) (ts : List Token) (a : Part) (mid rest : List Token) (go : Part → List Token → Out Part) → Front (Spells env t a) ts mid → is_step_part a ≡ true → height_of a ≤ h → First (Marked m) mid rest → starts env (Marked m) ≡ false → 16 < joins (Marked m) → is_word (Marked m) (Marked m) ≡ true
    → optional r env (Marked m) ts go ≡ go a rest
optional_is r h c env t m ts NoStep mid rest go f y le w other j same =
    ap (λ l. optional r env (Marked m) l go) (empty_is f) ∙ (if_true _ _ (begins_is (Marked m) w ∙ same) ∙ eat_is _ w same)
optional_is r h c env t m ts (Step e) mid rest go f y le w other j same =
    let o = opened f in
    if_false _ _ (begins_other (starts env) (Marked m) ts other (heads env ts e mid o.is o.level)) ∙ (next_is _ (exact r h c 16 (omega arith) env ts e mid f le (stops_first 16 w j)) ∙ eat_is _ w same)
optional_is r h c env t m ts _ mid rest go f y le w other j same = absurd (false-true y)

first_is : (r : Reads) (q : PartReads) (h : ℕ) → Complete r h → PartComplete q h → (env : Names) (t : Bool) (ts : List Token) (a : Part) (mid rest : List Token) (go : Part → List Token → Out Part) → Front (Spells env t a) ts mid → is_first_part a ≡ true → height_of a ≤ h → First (Marked Semicolon) mid rest
    → first r q env ts go ≡ go a rest
first_is r q h c d env t ts (FirstDeclaration s a m p) mid rest go f y le w =
    let s1 = split (unplaced f).is in let o = sorted s1.first in
    if_true _ _ (specs_begin env ts s s1.mid o.is o.sort) ∙ (next_is _ (d.first env t ts (FirstDeclaration s a m p) mid f refl le (begins_is (Marked Semicolon) w)) ∙ eat_is _ w refl)
first_is r q h c d env t ts NoStep mid rest go f y le w =
    if_false _ _ (specs_pass env ts ∙ (ap (passes (begins_spec env)) (empty_is f) ∙ passes_is (begins_spec env) w)) ∙ optional_is r h c env t Semicolon ts NoStep mid rest go f refl le w refl (omega arith) refl
first_is r q h c d env t ts (Step e) mid rest go f y le w =
    let o = opened f in
    if_false _ _ (no_specs env ts (heads env ts e mid o.is o.level)) ∙ optional_is r h c env t Semicolon ts (Step e) mid rest go f refl le w refl (omega arith) refl
first_is r q h c d env t ts _ mid rest go f y le w = absurd (false-true y)

semicolon_stops : 16 < joins (Marked Semicolon)
semicolon_stops = omega arith

paren_stops : 16 < joins (Marked RightParen)
paren_stops = omega arith

max_left : (a b h : ℕ) → max a b ≤ h → a ≤ h
max_left a b h le = omega (arith, le)

max_right : (a b h : ℕ) → max a b ≤ h → b ≤ h
max_right a b h le = omega (arith, le)

lower : (a h : ℕ) → suc a ≤ suc h → a ≤ h
lower a h le = omega (arith, le)

pub record Five (a b c d e h : ℕ) : Type 0 where
  pub one : a ≤ h
  pub two : b ≤ h
  pub three : c ≤ h
  pub four : d ≤ h
  pub five : e ≤ h

five_is : (a b c d e h : ℕ) → suc (max a (max b (max c (max d e)))) ≤ suc h → Five a b c d e h
five_is a b c d e h le =
    let l1 = lower (max a (max b (max c (max d e)))) h le in
    let l2 = max_right a (max b (max c (max d e))) h l1 in
    let l3 = max_right b (max c (max d e)) h l2 in
    let l4 = max_right c (max d e) h l3 in
    record { one = max_left a (max b (max c (max d e))) h l1; two = max_left b (max c (max d e)) h l2; three = max_left c (max d e) h l3; four = max_left d e h l4; five = max_right d e h l4 }

for_body_is : (q : PartReads) (h : ℕ) → PartComplete q h → (env : Names) (t : Bool) (all : List Token) (g e s b a : Part) (p : Place) (ts mid rest : List Token) → Front (Where (are_loop_clauses b) (Spells env t b)) ts mid → Front (Where (is_statement a) (Spells env t a)) mid rest
    → height_of b ≤ h → height_of a ≤ h → Stop a rest → between all rest ≡ p → for_body q env all g e s ts ≡ Found (For g e s b a p) rest
for_body_is q h d env t all g e s b a p ts mid rest f k lb la st place =
    let u = held k in
    next_is _ (loop_clauses_complete q h d env t ts b mid f lb (no_clause_leads env mid (statement_leads env t mid a rest u.is u.holds))) ∙ (next_is _ (d.statement env t mid a rest u.is u.holds la st) ∙ found_is all (For g e s b a) place)

for_complete : (r : Reads) (q : PartReads) (h : ℕ) → Complete r h → PartComplete q h → (env : Names) (t : Bool) (all : List Token) (g e s b a : Part) (p : Place) (rest : List Token) → Front (Spells env t (For g e s b a p)) all rest → height_of (For g e s b a p) ≤ suc h → Stop (For g e s b a p) rest
    → statement r q env all ≡ Found (For g e s b a p) rest
for_complete r q h c d env t all g e s b a p rest f le st =
    let v = unplaced f in let s1 = split v.is in let s2 = split s1.second in let s3 = split s2.second in let s4 = split s3.second in let s5 = split s4.second in let s6 = split s5.second in let s7 = split s6.second in let s8 = split s7.second in let s9 = split s8.second in
    let n : Five (height_of g) (height_of e) (height_of s) (height_of b) (height_of a) h = five_is (height_of g) (height_of e) (height_of s) (height_of b) (height_of a) h le in
    let x = held s3.first in let y = held s5.first in let z = held s7.first in
    at_for_word r q env all s1.mid (first_word s1.first) ∙ (eat_is _ (first_word s2.first) refl
    ∙ (first_is r q h c d env t s2.mid g s3.mid s4.mid (λ f ts. for_condition r q (in_force_behind f env) all f ts) x.is x.holds n.one (first_word s4.first)
    ∙ (optional_is r h c (in_force_behind g env) t Semicolon s4.mid e s5.mid s6.mid (λ e ts. for_step r q (in_force_behind g env) all g e ts) y.is y.holds n.two (first_word s6.first) refl semicolon_stops refl
    ∙ (optional_is r h c (in_force_behind g env) t RightParen s6.mid s s7.mid s8.mid (λ s ts. for_body q (in_force_behind g env) all g e s ts) z.is z.holds n.three (first_word s8.first) refl paren_stops refl
    ∙ for_body_is q h d (in_force_behind g env) t all g e s b a p s8.mid s9.mid rest s9.first s9.second n.four n.five st v.place))))

switch_complete : (r : Reads) (q : PartReads) (h : ℕ) → Complete r h → PartComplete q h → (env : Names) (t : Bool) (all : List Token) (e : Tree) (a : Part) (p : Place) (rest : List Token) → Front (Spells env t (Switch e a p)) all rest → height_of (Switch e a p) ≤ suc h → Stop (Switch e a p) rest
    → statement r q env all ≡ Found (Switch e a p) rest
switch_complete r q h c d env t all e a p rest f le st =
    let v = unplaced f in let s1 = split v.is in let s2 = split s1.second in let u = held s2.second in
    at_switch_word r q env all s1.mid (first_word s1.first) ∙ (tested_is r h c env s1.mid e s2.mid _ s2.first (omega (arith, le)) ∙ (next_is _ (d.statement env t s2.mid a rest u.is u.holds (omega (arith, le)) st) ∙ found_is all (Switch e a) v.place))

case_complete : (r : Reads) (q : PartReads) (h : ℕ) → Complete r h → PartComplete q h → (env : Names) (t : Bool) (all : List Token) (e : Tree) (a : Part) (p : Place) (rest : List Token) → Front (Spells env t (Case e a p)) all rest → height_of (Case e a p) ≤ suc h → Stop (Case e a p) rest
    → statement r q env all ≡ Found (Case e a p) rest
case_complete r q h c d env t all e a p rest f le st =
    let v = unplaced f in let s1 = split v.is in let s2 = split s1.second in let s3 = split s2.second in let w = first_word s3.first in let u = held s3.second in
    at_case_word r q env all s1.mid (first_word s1.first) ∙ (next_is _ (exact r h c 15 (omega arith) env s1.mid e s2.mid s2.first (omega (arith, le)) (stops_first 15 w (omega arith))) ∙ (eat_is _ w refl
    ∙ (next_is _ (d.statement env t s3.mid a rest u.is u.holds (omega (arith, le)) st) ∙ found_is all (Case e a) v.place)))

default_complete : (r : Reads) (q : PartReads) (h : ℕ) → Complete r h → PartComplete q h → (env : Names) (t : Bool) (all : List Token) (a : Part) (p : Place) (rest : List Token) → Front (Spells env t (Default a p)) all rest → height_of (Default a p) ≤ suc h → Stop (Default a p) rest
    → statement r q env all ≡ Found (Default a p) rest
default_complete r q h c d env t all a p rest f le st =
    let v = unplaced f in let s1 = split v.is in let s2 = split s1.second in let w = first_word s2.first in let u = held s2.second in
    at_default_word r q env all s1.mid (first_word s1.first) ∙ (eat_is _ w refl ∙ (next_is _ (d.statement env t s2.mid a rest u.is u.holds (omega (arith, le)) st) ∙ found_is all (Default a) v.place))

statement_complete : (r : Reads) (q : PartReads) (h : ℕ) → Complete r h → PartComplete q h → (env : Names) (t : Bool) (all : List Token) (a : Part) (rest : List Token) → Front (Spells env t a) all rest → is_statement a ≡ true → height_of a ≤ suc h → Stop a rest → statement r q env all ≡ Found a rest
statement_complete r q h c d env t all (Block m p) rest f y le st = block_complete r q h c d env t all m p rest f le st
statement_complete r q h c d env t all (Empty p) rest f y le st = empty_complete r q h c d env t all p rest f le st
statement_complete r q h c d env t all (Simple e p) rest f y le st = simple_complete r q h c d env t all e p rest f le st
statement_complete r q h c d env t all (Return p) rest f y le st = return_complete r q h c d env t all p rest f le st
statement_complete r q h c d env t all (ReturnValue e p) rest f y le st = return_value_complete r q h c d env t all e p rest f le st
statement_complete r q h c d env t all (Break p) rest f y le st = break_complete r q h c d env t all p rest f le st
statement_complete r q h c d env t all (Continue p) rest f y le st = continue_complete r q h c d env t all p rest f le st
statement_complete r q h c d env t all (If e a p) rest f y le st = if_complete r q h c d env t all e a p rest f le st
statement_complete r q h c d env t all (IfElse e a b p) rest f y le st = if_else_complete r q h c d env t all e a b p rest f le st
statement_complete r q h c d env t all (While e b a p) rest f y le st = while_complete r q h c d env t all e b a p rest f le st
statement_complete r q h c d env t all (Do a e b p) rest f y le st = do_complete r q h c d env t all a e b p rest f le st
statement_complete r q h c d env t all (For g e s b a p) rest f y le st = for_complete r q h c d env t all g e s b a p rest f le st
statement_complete r q h c d env t all (Switch e a p) rest f y le st = switch_complete r q h c d env t all e a p rest f le st
statement_complete r q h c d env t all (Case e a p) rest f y le st = case_complete r q h c d env t all e a p rest f le st
statement_complete r q h c d env t all (Default a p) rest f y le st = default_complete r q h c d env t all a p rest f le st
statement_complete r q h c d env t all _ rest f y le st = absurd (false-true y)

-- externals
behind_named : (r : Reads) (h : ℕ) → Complete r h → (env : Names) (s e : Tree) (mid mid2 : List Token) → Front (Passing (leaves env s) (Where (is_named e) (Sorted IsDeclarator e (Is env e)))) mid mid2 → Behind env s mid
behind_named r h c env s e mid mid2 f =
    let n = held (inner f) in
    behind_declarator env s e mid mid2 (record { front = f.front; whole = f.whole; is = record { passes = f.is.passes; is = f.is.is.is } }) (λ y. absurd (false-true (sym (not_nameless e n.holds) ∙ y)))

named_begins : (env : Names) (s e : Tree) (mid mid2 : List Token) → Front (Passing (leaves env s) (Where (is_named e) (Sorted IsDeclarator e (Is env e)))) mid mid2 → begins (Marked Semicolon) mid ≡ false
named_begins env s e mid mid2 f = let n = held (inner f) in let o = sorted n.is in begins_other is_declarator_word (Marked Semicolon) mid refl (declarator_begins env mid e mid2 o.is o.sort (not_nameless e n.holds))

-- clauses stand first, or what is behind them
clauses_first : (env : Names) (t : Bool) (all : List Token) (c : Part) (mid rest : List Token) → Front (Spells env t c) all mid → are_clauses c ≡ true → First (Marked LeftBrace) mid rest → (is_function all ≡ true) × (passes continues all ≡ false)
clauses_first env t all NoClauses mid rest f y w = let here = empty_is f in (ap is_function here ∙ ap (λ b. b || begins_clause mid) (begins_is (Marked LeftBrace) w), ap (passes continues) here ∙ passes_is continues w)
clauses_first env t all (Clauses c m) mid rest f y w = let s1 = split f in let b = clause_begins env t all c s1.mid s1.first (and_first (are_clauses m) y) in (or_right (begins (Marked LeftBrace) all) b.0, b.1)
clauses_first env t all _ mid rest f y w = absurd (false-true y)

block_first : (env : Names) (t : Bool) (all : List Token) (b : Part) (rest : List Token) → Front (Spells env t b) all rest → is_block b ≡ true → (mid : List Token) × First (Marked LeftBrace) all mid
block_first env t all (Block m p) rest f y = let s1 = split (unplaced f).is in (s1.mid, first_word s1.first)
block_first env t all _ rest f y = absurd (false-true y)

block_closed : (b : Part) (rest : List Token) → is_block b ≡ true → (is_statement b ≡ true) × Stop b rest
block_closed (Block m p) rest y = (refl, λ z. refl)
block_closed _ rest y = absurd (false-true y)

definition_complete : (r : Reads) (q : PartReads) (h : ℕ) → Complete r h → PartComplete q h → (env : Names) (t : Bool) (all : List Token) (s e : Tree) (k b : Part) (p : Place) (rest : List Token) → Front (Spells env t (Definition s e k b p)) all rest → height_of (Definition s e k b p) ≤ suc h → external r q h env all ≡ Found (Definition s e k b p) rest
definition_complete r q h c d env t all s e k b p rest f le =
    let v = unplaced f in let s1 = split v.is in let s2 = split s1.second in let s3 = split s2.second in let o = sorted s1.first in
    let x = held s3.first in let y = held s3.second in let n = behind_named r h c (declared s env) s e s1.mid s2.mid s2.first in
    let env' : Names = within_function s e env in
    let w = block_first env' t s3.mid b rest y.is y.holds in
    let z = clauses_first env' t s2.mid k s3.mid w.0 x.is (function_are k x.holds) w.1 in
    let bc = block_closed b rest y.holds in
    next_is _ (specs_complete r h c env all s s1.mid o.is o.sort (omega (arith, le)) n.ends) ∙ (checked_is _ n.leaves ∙ (if_false _ _ (named_begins (declared s env) s e s1.mid s2.mid s2.first)
    ∙ (next_is _ (named_complete r h c (declared s env) s1.mid e s2.mid (inner s2.first) (omega (arith, le)) z.1) ∙ (if_true _ _ z.0
    ∙ (next_is _ (function_clauses_complete q h d env' t s2.mid k s3.mid s3.first (omega (arith, le)) (no_clause_first w.1 refl)) ∙ (if_true _ _ (begins_is (Marked LeftBrace) w.1)
    ∙ (next_is _ (d.statement env' t s3.mid b rest y.is bc.0 (omega (arith, le)) bc.1) ∙ (checked_is _ y.holds ∙ found_is all (Definition s e k b) v.place))))))))

prototype_complete : (r : Reads) (q : PartReads) (h : ℕ) → Complete r h → PartComplete q h → (env : Names) (t : Bool) (all : List Token) (s e : Tree) (k m : Part) (p : Place) (rest : List Token) → Front (Spells env t (Prototype s e k m p)) all rest → height_of (Prototype s e k m p) ≤ suc h → external r q h env all ≡ Found (Prototype s e k m p) rest
prototype_complete r q h c d env t all s e k m p rest f le =
    let v = unplaced f in let s1 = split v.is in let s2 = split s1.second in let s3 = split s2.second in let s4 = split s3.second in let o = sorted s1.first in
    let x = held s3.first in let y = held s4.first in let n = behind_named r h c (declared s env) s e s1.mid s2.mid s2.first in let w = first_word s4.second in
    let env' : Names = within_function s e env in
    let z = clause_begins env' t s2.mid k s3.mid x.is (or_left (is_loop_clause k) x.holds) in
    let both : Front (Where (are_function_clauses (Clauses k m)) (Spells env' t (Clauses k m))) s2.mid s4.mid = front_where (and_both x.holds y.holds) (front_then x.is y.is) in
    next_is _ (specs_complete r h c env all s s1.mid o.is o.sort (omega (arith, le)) n.ends) ∙ (checked_is _ n.leaves ∙ (if_false _ _ (named_begins (declared s env) s e s1.mid s2.mid s2.first)
    ∙ (next_is _ (named_complete r h c (declared s env) s1.mid e s2.mid (inner s2.first) (omega (arith, le)) z.1) ∙ (if_true _ _ (or_right (begins (Marked LeftBrace) s2.mid) z.0)
    ∙ (next_is _ (function_clauses_complete q h d env' t s2.mid (Clauses k m) s4.mid both (omega (arith, le)) (no_clause_first w refl)) ∙ (if_false _ _ (begins_is (Marked LeftBrace) w)
    ∙ (eat_is _ w refl ∙ found_is all (Prototype s e k m) v.place)))))))

-- the first declarator of a declaration, and no function behind it
pub record FirstName (r : Reads) (env : Names) (all : List Token) : Type 0 where
  pub tree : Tree
  pub mid : List Token
  pub is : declarator_named r env all ≡ Found tree mid
  pub no_function : is_function mid ≡ false

no_function_closed : (ts : List Token) → passes closes ts ≡ true → is_function ts ≡ false
no_function_closed ts e =
    or_false (begins_other closes (Marked LeftBrace) ts refl e) (or_false (begins_other closes requires_word ts refl e) (or_false (begins_other closes ensures_word ts refl e) (or_false (begins_other closes assigns_word ts refl e)
    (or_false (begins_other closes frees_word ts refl e) (or_false (begins_other closes loop_invariant_word ts refl e) (begins_other closes decreases_word ts refl e))))))

first_name : (r : Reads) (h : ℕ) → Complete r h → (env : Names) (t : Bool) (all : List Token) (a : Part) (rest : List Token) → Front (Spells env t a) all rest → is_init_decl a ≡ true → height_of a ≤ h → passes closes rest ≡ true → FirstName r env all
first_name r h c env t all (Plain e p) rest f y le cl = let v = unplaced f in record { tree = e; mid = rest; is = named_complete r h c env all e rest v.is le (ends_at rest cl); no_function = no_function_closed rest cl }
first_name r h c env t all (Initialized e i p) rest f y le cl =
    let v = unplaced f in let s1 = split v.is in let s2 = split s1.second in let w = first_word s2.first in
    record { tree = e; mid = s1.mid; is = named_complete r h c env all e s1.mid s1.first (omega (arith, le)) (passes_is continues w); no_function = or_false (begins_is (Marked LeftBrace) w) (no_clause_first w refl) }
first_name r h c env t all _ rest f y le cl = absurd (false-true y)

external_from_is : (r : Reads) (q : PartReads) (h : ℕ) → Complete r h → PartComplete q h → (env : Names) (t : Bool) (all : List Token) (s : Tree) (m : Part) (mid mid2 : List Token) → Front (Where (is_declared m) (Spells (declared s env) (is_typedef s) m)) mid mid2 → height_of m ≤ h → begins (Marked Semicolon) mid2 ≡ true → external_from r q env all s mid ≡ declaration_from r q env all s mid
external_from_is r q h c d env t all s NoneDeclared mid mid2 f le e = if_true _ _ (ap (begins (Marked Semicolon)) (empty_is (held f).is) ∙ e)
external_from_is r q h c d env t all s (SomeDeclared a m) mid mid2 f le e =
    let s1 = split (held f).is in let i = held s1.first in let b = held s1.second in
    let n = first_name r h c (declared s env) (is_typedef s) mid a s1.mid i.is i.holds (omega (arith, le)) (more_declared_close (declaring (is_typedef s) a (declared s env)) (is_typedef s) s1.mid m mid2 b.is b.holds (ends_semicolon mid2 e).0) in
    if_false _ _ (begins_other is_declarator_word (Marked Semicolon) mid refl (init_decl_begins (declared s env) (is_typedef s) mid a s1.mid i.is i.holds)) ∙ (next_is _ n.is ∙ if_false _ _ n.no_function)
external_from_is r q h c d env t all s _ mid mid2 f le e = absurd (false-true (held f).holds)

external_complete : (r : Reads) (q : PartReads) (h : ℕ) → Complete r h → PartComplete q h → (env : Names) (t : Bool) (all : List Token) (a : Part) (rest : List Token) → Front (Spells env t a) all rest → is_external a ≡ true → height_of a ≤ suc h → external r q h env all ≡ Found a rest
external_complete r q h c d env t all (Definition s e k b p) rest f y le = definition_complete r q h c d env t all s e k b p rest f le
external_complete r q h c d env t all (Prototype s e k m p) rest f y le = prototype_complete r q h c d env t all s e k m p rest f le
external_complete r q h c d env t all (Declaration s m p) rest f y le =
    let v = unplaced f in let u = held v.is in let s1 = split u.is in let s2 = split s1.second in let o = sorted s1.first in let w = first_word s2.second in
    let b = behind_declared (declared s env) (is_typedef s) s m s1.mid s2.mid s2.first (begins_is (Marked Semicolon) w) in
    next_is _ (specs_complete r h c env all s s1.mid o.is o.sort (omega (arith, le)) b.ends) ∙ (checked_is _ b.leaves ∙ (external_from_is r q h c d env t all s m s1.mid s2.mid (inner s2.first) (omega (arith, le)) (begins_is (Marked Semicolon) w)
    ∙ declaration_from_complete r q h c d env all s m p s1.mid s2.mid rest (inner s2.first) w (omega (arith, le)) u.holds v.place))
external_complete r q h c d env t all _ rest f y le = absurd (false-true y)

step_complete : (r : Reads) (q : PartReads) (h : ℕ) → Complete r h → PartComplete q h → PartComplete (part_step r q h) (suc h)
step_complete r q h c d =
    record {
      braces = braces_complete r q h c d;
      clause = clause_complete r h c;
      statement = statement_complete r q h c d;
      first = first_complete r q h c d;
      declaration = declaration_complete r q h c d;
      external = external_complete r q h c d;
    }

-- each of these has a height above 0
high_part : (a : Part) → (is_braces a || (is_clause a || (is_statement a || (is_first_declaration a || is_external a)))) ≡ true → 1 ≤ height_of a
high_part (Braces i m p) e = omega arith
high_part (Requires c p) e = omega arith
high_part (Ensures c p) e = omega arith
high_part (Assigns c p) e = omega arith
high_part (Frees c p) e = omega arith
high_part (LoopInvariant c p) e = omega arith
high_part (Decreases c m p) e = omega arith
high_part (Block m p) e = omega arith
high_part (Empty p) e = omega arith
high_part (Simple a p) e = omega arith
high_part (Return p) e = omega arith
high_part (ReturnValue a p) e = omega arith
high_part (Break p) e = omega arith
high_part (Continue p) e = omega arith
high_part (If a b p) e = omega arith
high_part (IfElse a b c p) e = omega arith
high_part (While a b c p) e = omega arith
high_part (Do a b c p) e = omega arith
high_part (For f a b c g p) e = omega arith
high_part (Switch a b p) e = omega arith
high_part (Case a b p) e = omega arith
high_part (Default a p) e = omega arith
high_part (FirstDeclaration s a m p) e = omega arith
high_part (Declaration s m p) e = omega arith
high_part (Definition s a c b p) e = omega arith
high_part (Prototype s a c m p) e = omega arith
high_part _ e = absurd (false-true e)

declaration_external : (a : Part) → is_declaration a ≡ true → is_external a ≡ true
declaration_external (Declaration s m p) e = refl
declaration_external _ e = absurd (false-true e)

none_complete : PartComplete (λ k env ts. Nothing) 0
none_complete =
    record {
      braces = λ env t all a rest f y le. let k = high_part a (or_left (is_clause a || (is_statement a || (is_first_declaration a || is_external a))) y) in absurd (omega (arith, k, le));
      clause = λ env t all a rest f y le. let k = high_part a (or_right (is_braces a) (or_left (is_statement a || (is_first_declaration a || is_external a)) y)) in absurd (omega (arith, k, le));
      statement = λ env t all a rest f y le st. let k = high_part a (or_right (is_braces a) (or_right (is_clause a) (or_left (is_first_declaration a || is_external a) y))) in absurd (omega (arith, k, le));
      first = λ env t all a rest f y le e. let k = high_part a (or_right (is_braces a) (or_right (is_clause a) (or_right (is_statement a) (or_left (is_external a) y)))) in absurd (omega (arith, k, le));
      declaration = λ env t all a rest f y le. let k = high_part a (or_right (is_braces a) (or_right (is_clause a) (or_right (is_statement a) (or_right (is_first_declaration a) (declaration_external a y))))) in absurd (omega (arith, k, le));
      external = λ env t all a rest f y le. let k = high_part a (or_right (is_braces a) (or_right (is_clause a) (or_right (is_statement a) (or_right (is_first_declaration a) y)))) in absurd (omega (arith, k, le));
    }

pub part_complete : (h : ℕ) → PartComplete (reads_part h) h
part_complete zero = let c = none_complete in record { braces = c.braces; clause = c.clause; statement = c.statement; first = c.first; declaration = c.declaration; external = c.external }
part_complete (suc h) = let c = step_complete (reads h) (reads_part h) h (complete h) (part_complete h) in record { braces = c.braces; clause = c.clause; statement = c.statement; first = c.first; declaration = c.declaration; external = c.external }

-- units
external_begins : (env : Names) (t : Bool) (all : List Token) (a : Part) (rest : List Token) → Front (Spells env t a) all rest → is_external a ≡ true → begins_specs env all ≡ true
external_begins env t all (Definition s e k b p) rest f y = let s1 = split (unplaced f).is in let o = sorted s1.first in specs_begin env all s s1.mid o.is o.sort
external_begins env t all (Prototype s e k b p) rest f y = let s1 = split (unplaced f).is in let o = sorted s1.first in specs_begin env all s s1.mid o.is o.sort
external_begins env t all (Declaration s m p) rest f y = declaration_begins env t all (Declaration s m p) rest f refl
external_begins env t all _ rest f y = absurd (false-true y)

externals_complete : (q : PartReads) (h : ℕ) → PartComplete q h → (env : Names) (t : Bool) (n : ℕ) (all : List Token) (m : Part) → Front (Spells env t m) all [] → is_unit m ≡ true → height_of m ≤ h → length all ≤ n → externals q env n all ≡ Found m []
externals_complete q h d env t n all NoExternals f y le few = ap (externals q env n) (empty_is f)
externals_complete q h d env t n [] (Externals a m) f y le few =
    let s1 = split f in let u = held s1.first in let k = specs_one env [] (external_begins env t [] a s1.mid u.is u.holds) in absurd (omega (arith, k))
externals_complete q h d env t zero (x ∷ xs) (Externals a m) f y le few = absurd (omega (arith, few))
externals_complete q h d env t (suc n) (x ∷ xs) (Externals a m) f y le few =
    let s1 = split f in let u = held s1.first in let v = held s1.second in
    let k = length-front u.is (specs_one env u.is.front (external_begins env t u.is.front a [] (self u.is.front u.is.is) u.holds)) in
    next_is _ (d.external env t (x ∷ xs) a s1.mid u.is u.holds (omega (arith, le))) ∙ next_is _ (externals_complete q h d (in_force_behind a env) t n s1.mid m v.is v.holds (omega (arith, le)) (omega (arith, k, few)))
externals_complete q h d env t n all _ f y le few = absurd (false-true y)

-- a unit that is spelled is read, with any budget from its height on
pub unit_complete : (h : ℕ) (ts : List Token) (a : Part) → SpellsUnit ts a → height_of a ≤ h → reads_unit h ts ≡ Found a []
unit_complete h ts a s le = externals_complete (reads_part h) h (part_complete h) first_names false (length ts) ts a (self ts s.spelled) s.whole le (omega arith)

-- tokens spell at most one unit
pub one_unit : (ts : List Token) (a b : Part) → SpellsUnit ts a → SpellsUnit ts b → a ≡ b
one_unit ts a b p q =
    let h = max (height_of a) (height_of b) in
    ap (part_in a) (sym (unit_complete h ts a p (omega arith)) ∙ unit_complete h ts b q (omega arith))
  where
    part_in : Part → Out Part → Part
    part_in d Nothing = d
    part_in d (Found t l) = t
