-- The program of the first form that a typed program says is the one that is seen of it.
use Rattle.std.proofs.Common.{◌≡◌, ℕ, Bool, true, false, List, [], ◌∷◌, map, length, Option, Some, None, refl, sym, ap, subst, ◌∙◌}
use Rattle.std.proofs.lemmas.List.{length-map, length-replicate}
use Rattle.std.specs.Option.{option_map}
use Rattle.dc_core.specs.First.{first_expr, first_form, first_stmt, first_stmts, first_body, first_range, gives_int}
use Rattle.dc_core.specs.Program as plain
use Rattle.dc_core.specs.View.{clause_view, target_view, contract_view, clauses_view, function_view, function_in, program_view}
use Rattle.dc_core.specs.Whole.{Where, InBody, InClause, whole_form, whole_expr, SaysStmt, SayStmts, SaysBody, SaysClause, SaysTarget, Each, SaysClauses, result_type, SaysFunction, int_variable, Says}
use Rattle.dc_layout.specs.Types.{PlainType, type_view}
use Rattle.dc_layout.specs.declared.ctype.CType.{CType}
use Rattle.dc_program.specs.Expressions as expressions
use Rattle.dc_program.specs.Statements as s
use Rattle.dc_program.specs.Programs as programs
use Rattle.dc_program.specs.Types.{int}
use Rattle.dc_program.specs.ProgramView as whole_program
use Rattle.dc_program.specs.View as whole
use Rattle.dc_program.specs.declared.contract.Clause.{Clause}
use Rattle.dc_program.specs.declared.contract.Contract.{Contract}
use Rattle.dc_program.specs.declared.contract.Target.{Target}
use Rattle.dc_program.specs.declared.program.Function.{Function}
use Rattle.dc_program.specs.declared.program.StaticVariable.{StaticVariable}

-- Expressions and statements ----------------------------------------------------------------------------------------

pub form_said : (at : Where) (e : plain.Expr) → first_form (whole_form at e) ≡ e
form_said at (plain.Literal z) = refl
form_said at (plain.Variable k) = refl
form_said InBody (plain.Parameter k) = refl
form_said InClause (plain.Parameter k) = refl
form_said at plain.ReturnValue = refl
form_said at (plain.Binary op a b) =
    ap (λ x. plain.Binary op x (first_form (whole_form at b))) (form_said at a) ∙ ap (plain.Binary op a) (form_said at b)

expr_said : (at : Where) (e : plain.Expr) (x : expressions.Expr) → x ≡ whole_expr at e → first_expr x ≡ e
expr_said at e x h = ap first_expr h ∙ form_said at e

stmt_said : (t : plain.Stmt) (x : s.Stmt) → SaysStmt t x → first_stmt x ≡ t
stmt_said (plain.Assign site target e) x h =
    ap first_stmt h.1
    ∙ ap (λ y. plain.Assign site y (first_form (whole_form InBody e))) (form_said InBody target)
    ∙ ap (plain.Assign site target) (form_said InBody e)
stmt_said (plain.Return e) x h = ap first_stmt h ∙ ap plain.Return (form_said InBody e)

stmts_said : (body : List plain.Stmt) (xs : s.Stmts) → SayStmts body xs → first_stmts xs ≡ body
stmts_said [] s.NoStmts h = refl
stmts_said [] (s.MoreStmts x xs) h = absurd h
stmts_said (t ∷ body) s.NoStmts h = absurd h
stmts_said (t ∷ body) (s.MoreStmts x xs) h =
    ap (λ y. y ∷ first_stmts xs) (stmt_said t x h.0) ∙ ap (λ ys. t ∷ ys) (stmts_said body xs h.1)

body_said : (body : List plain.Stmt) (o : Option s.Stmt) → SaysBody body o → first_body o ≡ body
body_said body None h = absurd h
body_said body (Some (s.Block xs)) h = stmts_said body xs h
body_said body (Some x) h = absurd h

-- Clauses and functions ---------------------------------------------------------------------------------------------

clauses_of : (es : List plain.Expr) (cs : List Clause) → Each SaysClause es (map whole.clause_view cs) → map clause_view cs ≡ es
clauses_of [] [] h = refl
clauses_of [] (c ∷ cs) h = absurd h
clauses_of (e ∷ es) [] h = absurd h
clauses_of (e ∷ es) (c ∷ cs) h =
    ap (λ x. x ∷ map clause_view cs) (expr_said InClause e (whole.expr_view c.condition) h.0) ∙ ap (λ xs. e ∷ xs) (clauses_of es cs h.1)

targets_of : (es : List plain.Expr) (ts : List Target) → Each SaysTarget es (map whole.target_view ts) → map target_view ts ≡ es
targets_of [] [] h = refl
targets_of [] (t ∷ ts) h = absurd h
targets_of (e ∷ es) [] h = absurd h
targets_of (e ∷ es) (t ∷ ts) h =
    ap (λ x. x ∷ map target_view ts) (ap first_range h.0.range ∙ form_said InClause e) ∙ ap (λ xs. e ∷ xs) (targets_of es ts h.1)

same_contract : (a b : plain.Contract) → a.requires_ ≡ b.requires_ → a.ensures_ ≡ b.ensures_ → a.assigns ≡ b.assigns → a ≡ b
same_contract a b r e t =
    ap (λ x. record { requires_ = x; ensures_ = a.ensures_; assigns = a.assigns }) r
    ∙ ap (λ x. record { requires_ = b.requires_; ensures_ = x; assigns = a.assigns }) e
    ∙ ap (λ x. record { requires_ = b.requires_; ensures_ = b.ensures_; assigns = x }) t

contract_said : (c : plain.Contract) (o : Option Contract) → SaysClauses c (option_map whole.contract_view o) → clauses_view o ≡ c
contract_said c None h = sym h
contract_said c (Some d) h =
    same_contract (contract_view d) c (clauses_of c.requires_ d.required h.required) (clauses_of c.ensures_ d.ensured h.ensured) (targets_of c.assigns d.assigned h.assigned)

result_said : (b : Bool) (t : PlainType) → t ≡ result_type b → gives_int t ≡ b
result_said true t h = ap gives_int h
result_said false t h = ap gives_int h

same_function : (a b : plain.Function) → a.name ≡ b.name → a.gives_int ≡ b.gives_int → a.params ≡ b.params → a.contract ≡ b.contract → a.body ≡ b.body → a ≡ b
same_function a b n g p c s =
    ap (λ x. record a { name = x }) n
    ∙ ap (λ x. record a { name = b.name; gives_int = x }) g
    ∙ ap (λ x. record a { name = b.name; gives_int = b.gives_int; params = x }) p
    ∙ ap (λ x. record a { name = b.name; gives_int = b.gives_int; params = b.params; contract = x }) c
    ∙ ap (λ x. record b { body = x }) s

pub function_said : (f : plain.Function) (g : Function) → SaysFunction f (whole.function_view g) → function_view g ≡ f
function_said f g h =
    same_function (function_view g) f h.name (result_said f.gives_int (type_view g.result) h.result)
    (sym (length-map g.params type_view) ∙ ap length h.params ∙ length-replicate f.params int)
    (contract_said f.contract g.contract h.contract) (body_said f.body (option_map whole.stmt_view g.body) h.body)

-- Programs ----------------------------------------------------------------------------------------------------------

names_said : (names : List (List ℕ)) (vs : List StaticVariable) → map whole.static_view vs ≡ map int_variable names → map (λ v. v.name) vs ≡ names
names_said [] [] h = refl
names_said [] (v ∷ vs) h = cc
names_said (n ∷ names) [] h = cc
names_said (n ∷ names) (v ∷ vs) h =
    let a : whole.static_view v ≡ int_variable n = cc in
    let b : map whole.static_view vs ≡ map int_variable names = cc in
    ap (λ x. x.name ∷ map (λ v. v.name) vs) a ∙ ap (λ xs. n ∷ xs) (names_said names vs b)

functions_said : (f : plain.Function) (g : programs.Function) (gs : List Function) → map whole.function_view gs ≡ g ∷ [] → SaysFunction f g → function_in gs ≡ f
functions_said f g [] e h = cc
functions_said f g (x ∷ xs) e h =
    let a : g ≡ whole.function_view x = cc in
    function_said f x (subst (SaysFunction f) a h)

same_program : (a b : plain.Program) → a.statics ≡ b.statics → a.function ≡ b.function → a ≡ b
same_program a b s f = ap (λ x. record a { statics = x }) s ∙ ap (λ x. record b { function = x }) f

-- what a typed program says is what is seen of it
pub program_said : (p : plain.Program) (q : List Function × (List StaticVariable × List (Option (List CType)))) → Says p (whole_program.program_view q) → program_view q ≡ p
program_said p q h =
    same_program (program_view q) p (names_said p.statics q.1.0 h.statics) (functions_said p.function h.function q.0 h.functions h.says)

-- a program that is said has a function
pub has_function : (p : plain.Program) (q : List Function × (List StaticVariable × List (Option (List CType)))) → Says p (whole_program.program_view q) → q.0 ≡ [] → ⊥
has_function p q h e =
    let a : map whole.function_view [] ≡ h.function ∷ [] = ap (map whole.function_view) (sym e) ∙ h.functions in cc
