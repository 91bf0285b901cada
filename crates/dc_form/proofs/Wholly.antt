-- A typed program that was put together says what was read.
use Rattle.std.proofs.Common.{◌≡◌, ℕ, zero, suc, Bool, true, false, List, [], ◌∷◌, map, length, Option, Some, None, refl, sym, ap, subst, ◌∙◌}
use Rattle.std.specs.Prelude.{All, replicate}
use Rattle.std.specs.List.{AllByRecursion}
use Rattle.std.proofs.lemmas.List.{length-replicate}
use Rattle.dc_core.specs.First.{first_stmts, first_body, gives_int}
use Rattle.dc_core.specs.Program as plain
use Rattle.dc_core.specs.View.{contract_view, stmt_view, clause_view, target_view, body_view, function_view}
use Rattle.dc_core.specs.Whole.{SaysStmt, SayStmts, SaysBody, SaysClause, SaysTarget, Each, SaysContract, result_type, SaysFunction, int_variable, Says}
use Rattle.dc_core.proofs.Blocks.{block_seen, block_statements}
use Rattle.dc_layout.specs.Types.{PlainType, type_step, type_view}
use Rattle.dc_layout.specs.declared.ctype.CType.{CType}
use Rattle.dc_layout.specs.declared.ctype.CType.TheFolds.{fold-roll-CType}
use Rattle.dc_layout.specs.declared.ctype.CType.TheOpen.{CType-F}
use Rattle.dc_layout.specs.declared.ctype.CType.TheVariants.{Num}
use Rattle.dc_layout.specs.declared.ctype.CType.TheViews.{rolls-Num}
use Rattle.dc_layout.specs.declared.kind.LayKind.TheVariants.{S32}
use Rattle.dc_program.specs.Statements as statements
use Rattle.dc_program.specs.Types.{int}
use Rattle.dc_program.specs.View as whole
use Rattle.dc_program.specs.declared.contract.Contract.{Contract}
use Rattle.dc_program.specs.declared.program.Function.{Function}
use Rattle.dc_program.specs.declared.program.StaticVariable.{StaticVariable}
use Rattle.dc_program.specs.declared.statement.Stmt.{Stmt}
use Rattle.dc_program.specs.declared.statement.StmtForm.TheVariants.{Block}
use Rattle.dc_form.specs.Read.HeadView.{names_of}
use Rattle.dc_form.specs.Read.Reading.{Reading, got}
use Rattle.dc_form.specs.Read.Source.{alone}
use Rattle.dc_form.specs.Read.Whole.{IsInt, IsWholeClause, IsWholeContract, IsWholeProgram, IsWholeStmt, IsWholeTarget, parts_view}
use Rattle.dc_form.specs.declared.source.Parts.{Parts}
use Rattle.dc_form.proofs.Claused.{all_to}

-- Lists -----------------------------------------------------------------------------------------------------

each_of : {A B C : Type 0} (P : A → B → Type 0) (f : C → A) (g : C → B) (xs : List C) → AllByRecursion (λ x. P (f x) (g x)) xs → Each P (map f xs) (map g xs)
each_of P f g [] h = tt
each_of P f g (x ∷ xs) h = (h.0, each_of P f g xs h.1)

statements_said : (ss : List Stmt) → AllByRecursion IsWholeStmt ss → SayStmts (first_stmts (whole.stmts (map whole.stmt_view ss))) (whole.stmts (map whole.stmt_view ss))
statements_said [] h = tt
statements_said (s ∷ ss) h = (h.0, statements_said ss h.1)

statics_said : (vs : List StaticVariable) → AllByRecursion IsInt vs → map whole.static_view vs ≡ map int_variable (names_of vs)
statics_said [] h = refl
statics_said (v ∷ vs) h =
    ap (λ t. record { name = v.name; type = t } ∷ map whole.static_view vs) h.0 ∙ ap (λ l. int_variable v.name ∷ l) (statics_said vs h.1)

-- Types -----------------------------------------------------------------------------------------------------

int_seen : type_view (Num S32) ≡ int
int_seen = ap type_view (sym (rolls-Num S32)) ∙ fold-roll-CType PlainType type_step (CType-F.Num S32)

ints_seen : (n : ℕ) → map type_view (replicate n (Num S32)) ≡ replicate n int
ints_seen zero = refl
ints_seen (suc n) = ap (λ t. t ∷ map type_view (replicate n (Num S32))) int_seen ∙ ap (λ l. int ∷ l) (ints_seen n)

params_said : (n : ℕ) (params : List CType) → params ≡ replicate n (Num S32) → map type_view params ≡ replicate (length params) int
params_said n params e =
    ap (map type_view) e ∙ ints_seen n ∙ ap (λ k. replicate k int) (sym (ap length e ∙ length-replicate n (Num S32)))

result_seen : (b : Bool) → gives_int (result_type b) ≡ b
result_seen true = refl
result_seen false = refl

result_said : (b : Bool) (t : PlainType) → t ≡ result_type b → t ≡ result_type (gives_int t)
result_said b t e = e ∙ ap result_type (sym (ap gives_int e ∙ result_seen b))

-- Programs --------------------------------------------------------------------------------------------------

contract_said : (c : Contract) → IsWholeContract c → SaysContract (contract_view c) (whole.contract_view c)
contract_said c h =
    record {
      required = each_of SaysClause clause_view whole.clause_view c.required (all_to IsWholeClause c.required h.required);
      ensured = each_of SaysClause clause_view whole.clause_view c.ensured (all_to IsWholeClause c.ensured h.ensured);
      assigned = each_of SaysTarget target_view whole.target_view c.assigned (all_to IsWholeTarget c.assigned h.assigned);
      freed = ap (map whole.target_view) h.freed;
    }

body_said : (ss : List Stmt) (block : Stmt) → block ≡ record { form = Block ss } → AllByRecursion IsWholeStmt ss → SaysBody (body_view (Some block)) (Some (whole.stmt_view block))
body_said ss block e h =
    let P : statements.Stmt → Type 0 = λ x. SaysBody (first_body (Some x)) (Some x) in
    subst P (sym (ap whole.stmt_view e ∙ block_seen ss)) (statements_said ss h)

abbrev pub made : List StaticVariable → List ℕ → CType → List CType → Contract → Stmt → Parts
made statics name result params contract block =
    record {
      statics = statics;
      function = record { name = name; result = result; params = params; contract = Some contract; body = Some block };
    }

pub made_is : (statics : List StaticVariable) (name : List ℕ) (g : Bool) (n : ℕ) (result : CType) (params : List CType) (contract : Contract) (ss : List Stmt) (block : Stmt) → type_view result ≡ result_type g → params ≡ replicate n (Num S32) → block ≡ record { form = Block ss } → parts_view (made statics name result params contract block) ≡ record { statics = names_of statics; function = record { name = name; gives_int = g; params = n; contract = contract_view contract; body = map stmt_view ss } }
made_is statics name g n result params contract ss block r p b =
    ap (λ x. record { statics = names_of statics; function = record { name = name; gives_int = x; params = length params; contract = contract_view contract; body = body_view (Some block) } }) (ap gives_int r ∙ result_seen g)
    ∙ ap (λ x. record { statics = names_of statics; function = record { name = name; gives_int = g; params = x; contract = contract_view contract; body = body_view (Some block) } }) (ap length p ∙ length-replicate n (Num S32))
    ∙ ap (λ x. record { statics = names_of statics; function = record { name = name; gives_int = g; params = n; contract = contract_view contract; body = x } }) (sym (block_statements block ss ss (ap (λ s. s.form) b) refl))

pub made_says : (statics : List StaticVariable) (name : List ℕ) (g : Bool) (n : ℕ) (result : CType) (params : List CType) (contract : Contract) (ss : List Stmt) (block : Stmt) → type_view result ≡ result_type g → params ≡ replicate n (Num S32) → block ≡ record { form = Block ss } → All IsInt statics → IsWholeContract contract → All IsWholeStmt ss → IsWholeProgram (made statics name result params contract block)
made_says statics name g n result params contract ss block r p b ints clauses body =
    record {
      function = whole.function_view (made statics name result params contract block).function;
      functions = refl;
      says = record {
        name = refl;
        result = result_said g (type_view result) r;
        params = params_said n params p;
        contract = contract_said contract clauses;
        body = body_said ss block b (all_to IsWholeStmt ss body);
      };
      statics = statics_said statics (all_to IsInt statics ints);
      structs = refl;
    }

-- Ends ------------------------------------------------------------------------------------------------------

pub more_behind : (r : Reading plain.Program) (p : plain.Program) (rest : List (List ℕ)) → r ≡ got p rest → (rest ≡ [] → ⊥) → alone r ≡ None
more_behind r p [] e h = absurd (h refl)
more_behind r p (token ∷ rest) e h = ap alone e
