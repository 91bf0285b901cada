-- A typed program that says a program that may be run is sound, where its names and its sites differ.
use Rattle.std.proofs.Common.{◌≡◌, ℕ, zero, suc, ◌+◌, ◌<◌, ◌≤◌, Bool, true, false, List, [], ◌∷◌, ◌++◌, map, length, Option, Some, None, Ok, refl, sym, ap, subst, ◌∙◌, arith}
use Rattle.std.specs.Prelude.{replicate, slice_get, All, ⊤, ◌==◌, ◌&&◌, ◌||◌, nat_eq, if◌then◌else◌}
use Rattle.std.specs.List.{list_any, AllByRecursion}
use Rattle.std.specs.Option.{option_map}
use Rattle.std.proofs.lemmas.Bool.Decides.{nat_tests}
use Rattle.std.proofs.lemmas.List.Elements.{All-nil, All-cons, All-head, All-tail}
use Rattle.dc_num.specs.declared.operators.BinOp.{BinOp}
use Rattle.dc_num.specs.declared.operators.BinOp.TheVariants.{Add, Sub, Mul, Div, Rem, Shl, Shr, And, Or, Xor, Lt, Le, Gt, Ge, Eq, Ne}
use Rattle.dc_text.specs.Words.{is_word}
use Rattle.dc_core.specs.Program as plain
use Rattle.dc_core.specs.Sound as first
use Rattle.dc_core.specs.Whole.{Where, InBody, InClause, whole_form, whole_expr, location, SayStmts, SaysBody, SaysClause, SaysTarget, Each, SaysClauses, result_type, SaysFunction, int_variable, Says}
use Rattle.dc_layout.specs.Layout.{size_answer}
use Rattle.dc_layout.specs.Types.{Structs, types}
use Rattle.dc_program.specs.Expressions as expressions
use Rattle.dc_program.specs.Statements as statements
use Rattle.dc_program.specs.Programs.{Program, Function}
use Rattle.dc_program.specs.Clauses.{ConditionStands, OptionStands, ClauseStands, AssignedStands, AssignedTargetStands, FreedTargetStands, OptionContractStands, LvalueStands, in_contract, in_ensures}
use Rattle.dc_program.specs.Constants.{is_null}
use Rattle.dc_program.specs.Sites.{sites_of, assigned_sites}
use Rattle.dc_program.specs.Sound.{Sound, FunctionStands, StaticStands, BodyStands, StmtStands, StmtsStand, ValueStands, NumbersDiffer, NamesDiffer, names_of, names_after, variables_in, stmt_sites, all_stmt_sites, loops_of, all_loops, parameters_from, outside, in_code}
use Rattle.dc_program.specs.Stands.{Setting, LocalName, Text, Requires, Targets, Stands, ShareSite, is_modifiable, local_type, type_of_static}
use Rattle.dc_program.specs.Types.{int, is_void}
use Rattle.dc_program.specs.Typing.{binary_type}
use Rattle.dc_program.specs.WellFormed.{is_type, is_result, are_parameters}
use Rattle.dc_program.specs.declared.location.Location.{Location}

-- Types of names ----------------------------------------------------------------------------------------------------

-- two ints give an int
binary_int : (structs : Structs) (op : BinOp) (n m : Bool) → binary_type structs op int n int m ≡ Ok int
binary_int structs Add n m = refl
binary_int structs Sub n m = refl
binary_int structs Mul n m = refl
binary_int structs Div n m = refl
binary_int structs Rem n m = refl
binary_int structs Shl n m = refl
binary_int structs Shr n m = refl
binary_int structs And n m = refl
binary_int structs Or n m = refl
binary_int structs Xor n m = refl
binary_int structs Lt n m = refl
binary_int structs Le n m = refl
binary_int structs Gt n m = refl
binary_int structs Ge n m = refl
binary_int structs Eq n m = refl
binary_int structs Ne n m = refl

variable_int : (names : List (List ℕ)) (k : ℕ) → k < length names → option_map (λ v. v.type) (slice_get (map int_variable names) k) ≡ Some int
variable_int [] k lt = absurd (omega arith)
variable_int (n ∷ names) zero lt = refl
variable_int (n ∷ names) (suc k) lt = variable_int names k (omega arith)

argument_int : (n k : ℕ) → k < n → slice_get (replicate n int) k ≡ Some int
argument_int zero k lt = absurd (omega arith)
argument_int (suc n) zero lt = refl
argument_int (suc n) (suc k) lt = argument_int n k (omega arith)

local_int : (m n k : ℕ) → m ≤ k → k < m + n → local_type (parameters_from m (replicate n int)) k ≡ Some int
local_int m zero k le lt = absurd (omega arith)
local_int m (suc n) k le lt = by_test (local_int (suc m) n k) (m == k) refl
  where
    by_test : (suc m ≤ k → k < suc m + n → local_type (parameters_from (suc m) (replicate n int)) k ≡ Some int) → (t : Bool) → (m == k) ≡ t → (if t then Some int else local_type (parameters_from (suc m) (replicate n int)) k) ≡ Some int
    by_test later true e = refl
    by_test later false e = let other : suc m ≤ k = grind (arith, nat_tests) in later other (omega arith)

are_ints : (structs : Structs) (n : ℕ) → are_parameters structs (types (replicate n int)) ≡ true
are_ints structs zero = refl
are_ints structs (suc n) = are_ints structs n

-- Sites -------------------------------------------------------------------------------------------------------------

no_sites : (at : Where) (x : plain.Expr) → sites_of (whole_expr at x) ≡ []
no_sites at (plain.Literal z) = refl
no_sites at (plain.Variable k) = refl
no_sites InBody (plain.Parameter k) = refl
no_sites InClause (plain.Parameter k) = refl
no_sites at plain.ReturnValue = refl
no_sites at (plain.Binary op a b) = ap (λ l. l ++ sites_of (whole_expr at b)) (no_sites at a) ∙ no_sites at b

no_assigned : (x : plain.Expr) → assigned_sites (whole_expr InBody x) ≡ []
no_assigned (plain.Literal z) = refl
no_assigned (plain.Variable k) = refl
no_assigned (plain.Parameter k) = refl
no_assigned plain.ReturnValue = refl
no_assigned (plain.Binary op a b) = no_sites InBody (plain.Binary op a b)

-- the whole of an assignment
abbrev act : plain.Expr → plain.Expr → ℕ → ℕ → expressions.Expr
act target x site line = expressions.Typed int (expressions.Assign (whole_expr InBody target) (whole_expr InBody x) (location site line))

act_sites : (target x : plain.Expr) (site line : ℕ) → sites_of (act target x site line) ≡ location site line ∷ []
act_sites target x site line =
    ap (λ l. location site line ∷ (l ++ assigned_sites (whole_expr InBody x))) (no_sites InBody target)
    ∙ ap (λ l. location site line ∷ l) (no_assigned x)

-- each assignment's site is greater than those before it, and at least this number
abbrev pub Ascend : ℕ → List plain.Stmt → Type 0
Ascend n [] = ⊤
Ascend n (plain.Assign site target x ∷ body) = (n ≤ site) × Ascend (suc site) body
Ascend n (plain.Return x ∷ body) = Ascend n body

-- no site has that number
abbrev has_number : ℕ → List Location → Bool
has_number k sites = list_any (λ m. nat_eq k m.number) sites

apart : (n : ℕ) (body : List plain.Stmt) (ss : statements.Stmts) → SayStmts body ss → Ascend n body → (k : ℕ) → k < n → has_number k (all_stmt_sites ss) ≡ false
apart n [] statements.NoStmts h up k lt = refl
apart n [] (statements.MoreStmts x ss) h up k lt = absurd h
apart n (t ∷ body) statements.NoStmts h up k lt = absurd h
apart n (plain.Assign site target x ∷ body) (statements.MoreStmts y ss) h up k lt =
    let le = up.0 in
    let other : nat_eq k site ≡ false = grind (arith, nat_tests) in
    ap (λ y. has_number k (stmt_sites y ++ all_stmt_sites ss)) h.0.1
    ∙ ap (λ l. has_number k (l ++ all_stmt_sites ss)) (act_sites target x site h.0.0)
    ∙ ap (λ b. b || has_number k (all_stmt_sites ss)) other
    ∙ apart (suc site) body ss h.1 up.1 k (omega arith)
apart n (plain.Return x ∷ body) (statements.MoreStmts y ss) h up k lt =
    ap (λ y. has_number k (stmt_sites y ++ all_stmt_sites ss)) h.0
    ∙ ap (λ l. has_number k (l ++ all_stmt_sites ss)) (no_sites InBody x)
    ∙ apart n body ss h.1 up k lt

sites_differ : (n : ℕ) (body : List plain.Stmt) (ss : statements.Stmts) → SayStmts body ss → Ascend n body → NumbersDiffer (all_stmt_sites ss)
sites_differ n [] statements.NoStmts h up = tt
sites_differ n [] (statements.MoreStmts x ss) h up = absurd h
sites_differ n (t ∷ body) statements.NoStmts h up = absurd h
sites_differ n (plain.Assign site target x ∷ body) (statements.MoreStmts y ss) h up =
    let one : stmt_sites y ++ all_stmt_sites ss ≡ location site h.0.0 ∷ all_stmt_sites ss =
    ap (λ y. stmt_sites y ++ all_stmt_sites ss) h.0.1 ∙ ap (λ l. l ++ all_stmt_sites ss) (act_sites target x site h.0.0) in
    subst NumbersDiffer (sym one) (apart (suc site) body ss h.1 up.1 site (omega arith), sites_differ (suc site) body ss h.1 up.1)
sites_differ n (plain.Return x ∷ body) (statements.MoreStmts y ss) h up =
    let none : stmt_sites y ++ all_stmt_sites ss ≡ all_stmt_sites ss =
    ap (λ y. stmt_sites y ++ all_stmt_sites ss) h.0 ∙ ap (λ l. l ++ all_stmt_sites ss) (no_sites InBody x) in
    subst NumbersDiffer (sym none) (sites_differ n body ss h.1 up)

no_loops : (body : List plain.Stmt) (ss : statements.Stmts) → SayStmts body ss → all_loops ss ≡ []
no_loops [] statements.NoStmts h = refl
no_loops [] (statements.MoreStmts x ss) h = absurd h
no_loops (t ∷ body) statements.NoStmts h = absurd h
no_loops (plain.Assign site target x ∷ body) (statements.MoreStmts y ss) h = ap (λ y. loops_of y ++ all_loops ss) h.0.1 ∙ no_loops body ss h.1
no_loops (plain.Return x ∷ body) (statements.MoreStmts y ss) h = ap (λ y. loops_of y ++ all_loops ss) h.0 ∙ no_loops body ss h.1

-- Names -------------------------------------------------------------------------------------------------------------

-- names that are words and differ, and sites that differ
pub record IsNamed (p : plain.Program) : Type 0 where
  pub word : is_word p.function.name ≡ true
  pub words : AllByRecursion (λ name. is_word name ≡ true) p.statics
  pub differ : NamesDiffer (p.function.name ∷ p.statics)
  pub sites : Ascend 1 p.function.body

static_stands : (w : Program) (name : List ℕ) → is_word name ≡ true → StaticStands w (int_variable name)
unfolding size_answer
static_stands w name word = record { name = word; formed = refl; sized = refl }

statics_stand : (w : Program) (names : List (List ℕ)) → AllByRecursion (λ name. is_word name ≡ true) names → All (StaticStands w) (map int_variable names)
statics_stand w [] h = All-nil (StaticStands w)
statics_stand w (name ∷ names) h =
    All-cons (StaticStands w) (int_variable name) (map int_variable names) (static_stands w name h.0) (statics_stand w names h.1)

names_back : (names : List (List ℕ)) → map (λ v. v.name) (map int_variable names) ≡ names
names_back [] = refl
names_back (name ∷ names) = ap (λ l. name ∷ l) (names_back names)

-- Expressions -------------------------------------------------------------------------------------------------------

-- the parameters and the result are there where an expression stands
abbrev ParameterIs : Where → Setting → ℕ → Type 0
ParameterIs InBody s k = local_type s.locals k ≡ Some int
ParameterIs InClause s k = slice_get s.arguments k ≡ Some int

record Fits (p : plain.Program) (at : Where) (s : Setting) (result : Bool) : Type 0 where
  parameters : (k : ℕ) → k < p.function.params → ParameterIs at s k
  result_is : result ≡ true → s.result ≡ Some int

module _ (p : plain.Program) (w : Program) (says : Says p w) (sound : first.IsSound p) where
  static_int : (k : ℕ) → k < length p.statics → type_of_static w k ≡ Some int
  static_int k lt = ap (λ vs. option_map (λ v. v.type) (slice_get vs k)) says.statics ∙ variable_int p.statics k lt

  expr_stands : (at : Where) (s : Setting) (result : Bool) → Fits p at s result → (x : plain.Expr) → first.Stands p result x → Stands w s (whole_expr at x)
  expr_stands at s result fits (plain.Literal z) h = h
  expr_stands at s result fits (plain.Variable k) h = static_int k h
  expr_stands InBody s result fits (plain.Parameter k) h = fits.parameters k h
  expr_stands InClause s result fits (plain.Parameter k) h = fits.parameters k h
  expr_stands at s result fits plain.ReturnValue h = fits.result_is h
  expr_stands at s result fits (plain.Binary op a b) h =
      record {
        left = expr_stands at s result fits a h.0;
        right = expr_stands at s result fits b h.1;
        type = binary_int w.structs op (is_null w.structs (whole_expr at a)) (is_null w.structs (whole_expr at b));
      }

  -- Clauses ---------------------------------------------------------------------------------------------------------

  clauses_stand : (s : Setting) (result : Bool) → Fits p InClause s result → (xs : List plain.Expr) (cs : List statements.Clause) → Each SaysClause xs cs → All (first.Stands p result) xs → All (ClauseStands w s) cs
  clauses_stand s result fits [] [] h all = All-nil (ClauseStands w s)
  clauses_stand s result fits [] (c ∷ cs) h all = absurd h
  clauses_stand s result fits (x ∷ xs) [] h all = absurd h
  clauses_stand s result fits (x ∷ xs) (c ∷ cs) h all =
      let holds : ConditionStands w s (whole_expr InClause x) = record { stands = expr_stands InClause s result fits x (All-head (first.Stands p result) x xs all); scalar = refl } in
      All-cons (ClauseStands w s) c cs (subst (ConditionStands w s) (sym h.0) holds)
      (clauses_stand s result fits xs cs h.1 (All-tail (first.Stands p result) x xs all))

  target_stands : (s : Setting) (x : plain.Expr) → first.IsTarget p x → LvalueStands w s (whole_expr InClause x)
  target_stands s (plain.Literal z) h = absurd h
  target_stands s (plain.Variable k) h = record { stands = static_int k h; lvalue = refl }
  target_stands s (plain.Parameter k) h = absurd h
  target_stands s plain.ReturnValue h = absurd h
  target_stands s (plain.Binary op a b) h = absurd h

  targets_stand : (s : Setting) (xs : List plain.Expr) (ts : List statements.Target) → Each SaysTarget xs ts → All (first.IsTarget p) xs → All (AssignedTargetStands w s) ts
  targets_stand s [] [] h all = All-nil (AssignedTargetStands w s)
  targets_stand s [] (t ∷ ts) h all = absurd h
  targets_stand s (x ∷ xs) [] h all = absurd h
  targets_stand s (x ∷ xs) (t ∷ ts) h all =
      All-cons (AssignedTargetStands w s) t ts
      (subst (OptionStands w s) (sym h.0.always) tt, subst (AssignedStands w s) (sym h.0.range) (target_stands s x (All-head (first.IsTarget p) x xs all)))
      (targets_stand s xs ts h.1 (All-tail (first.IsTarget p) x xs all))

  module _ (g : Function) (is : SaysFunction p.function g) where
    arguments_fit : (text : Text) → Fits p InClause (in_contract text g) false
    arguments_fit text =
        record {
          parameters = λ k lt. ap (λ ts. slice_get ts k) is.params ∙ argument_int p.function.params k lt;
          result_is = λ h. cc;
        }

    result_there : (b : Bool) → p.function.gives_int ≡ b → b ≡ true → (in_ensures g).result ≡ Some int
    result_there b e t = ap (λ t. if is_void t then None else Some t) (is.result ∙ ap result_type (e ∙ t))

    ensures_fit : Fits p InClause (in_ensures g) p.function.gives_int
    ensures_fit =
        record {
          parameters = λ k lt. ap (λ ts. slice_get ts k) is.params ∙ argument_int p.function.params k lt;
          result_is = λ h. result_there p.function.gives_int refl h;
        }

    contract_stands : (o : Option statements.Contract) → SaysClauses p.function.contract o → OptionContractStands w g o
    contract_stands None h = tt
    contract_stands (Some d) h =
        record {
          required = clauses_stand (in_contract Requires g) false (arguments_fit Requires) p.function.contract.requires_ d.required h.required sound.requires_;
          ensured = clauses_stand (in_ensures g) p.function.gives_int ensures_fit p.function.contract.ensures_ d.ensured h.ensured sound.ensures_;
          assigned = targets_stand (in_contract Targets g) p.function.contract.assigns d.assigned h.assigned sound.assigns;
          freed = subst (All (FreedTargetStands w (in_contract Targets g))) (sym h.freed) (All-nil (FreedTargetStands w (in_contract Targets g)));
        }

    -- Statements ----------------------------------------------------------------------------------------------------

    abbrev locals : List LocalName
    locals = parameters_from 0 g.params

    body_fits : Fits p InBody (in_code locals) false
    body_fits =
        record {
          parameters = λ k lt. ap (λ ts. local_type (parameters_from 0 ts) k) is.params ∙ local_int 0 p.function.params k (omega arith) (omega arith);
          result_is = λ h. cc;
        }

    place_stands : (x : plain.Expr) → first.IsLvalue p x → Stands w (in_code locals) (whole_expr InBody x) × (is_modifiable (whole_expr InBody x) ≡ true)
    place_stands (plain.Literal z) h = absurd h
    place_stands (plain.Variable k) h = (static_int k h, refl)
    place_stands (plain.Parameter k) h = (body_fits.parameters k h, refl)
    place_stands plain.ReturnValue h = absurd h
    place_stands (plain.Binary op a b) h = absurd h

    -- no call is assigned
    one_site : (x : plain.Expr) (l : Location) → ShareSite (whole_form InBody x) l
    one_site (plain.Literal z) l = tt
    one_site (plain.Variable k) l = tt
    one_site (plain.Parameter k) l = tt
    one_site plain.ReturnValue l = tt
    one_site (plain.Binary op a b) l = tt

    assignment_stands : (target x : plain.Expr) (site line : ℕ) → first.IsLvalue p target → first.Stands p false x → Stands w (in_code locals) (act target x site line)
    assignment_stands target x site line place value =
        let there = place_stands target place in
        record {
          place = there.0;
          value = expr_stands InBody (in_code locals) false body_fits x value;
          modifiable = there.1;
          taken = refl;
          one_site = one_site x (location site line);
          type = refl;
        }

    value_stands : (x : plain.Expr) → p.function.gives_int ≡ true → first.Stands p false x → ValueStands w locals g.result (whole_expr InBody x)
    value_stands x gives h =
        let result : int ≡ g.result = sym (is.result ∙ ap result_type gives) in
        let there : ValueStands w locals int (whole_expr InBody x) = record { stands = expr_stands InBody (in_code locals) false body_fits x h; taken = refl } in
        subst (λ t. ValueStands w locals t (whole_expr InBody x)) result there

    gives_value : p.function.gives_int ≡ true → is_void g.result ≡ false
    gives_value gives = ap is_void (is.result ∙ ap result_type gives)

    statements_stand : (next : ℕ) (body : List plain.Stmt) (ss : statements.Stmts) → SayStmts body ss → All (first.StmtStands p) body → StmtsStand w g outside locals next ss
    statements_stand next [] statements.NoStmts h all = tt
    statements_stand next [] (statements.MoreStmts y ss) h all = absurd h
    statements_stand next (t ∷ body) statements.NoStmts h all = absurd h
    statements_stand next (plain.Assign site target x ∷ body) (statements.MoreStmts y ss) h all =
        let one = All-head (first.StmtStands p) (plain.Assign site target x) body all in
        let others = All-tail (first.StmtStands p) (plain.Assign site target x) body all in
        let P : statements.Stmt → Type 0 = λ y. StmtStands w g outside locals next y × StmtsStand w g outside (names_after locals y) (next + variables_in y) ss in
        subst P (sym h.0.1) (assignment_stands target x site h.0.0 one.0 one.1, statements_stand (next + 0) body ss h.1 others)
    statements_stand next (plain.Return x ∷ body) (statements.MoreStmts y ss) h all =
        let one = All-head (first.StmtStands p) (plain.Return x) body all in
        let others = All-tail (first.StmtStands p) (plain.Return x) body all in
        let P : statements.Stmt → Type 0 = λ y. StmtStands w g outside locals next y × StmtsStand w g outside (names_after locals y) (next + variables_in y) ss in
        let given : StmtStands w g outside locals next (statements.ReturnWith (whole_expr InBody x)) = record { gives = gives_value one.0; value = value_stands x one.0 one.1 } in
        subst P (sym h.0) (given, statements_stand (next + 0) body ss h.1 others)

    body_stands : (o : Option statements.Stmt) → SaysBody p.function.body o → Ascend 1 p.function.body → BodyStands w g o
    body_stands None h up = absurd h
    body_stands (Some (statements.Block ss)) h up =
        record {
          statements = statements_stand (length g.params) p.function.body ss h sound.body;
          sites = sites_differ 1 p.function.body ss h up;
          loops = subst NumbersDiffer (sym (no_loops p.function.body ss h)) tt;
        }
    body_stands (Some y) h up = absurd h

    result_stands : (b : Bool) → (is_type w.structs (result_type b) && is_result (result_type b)) ≡ true
    result_stands true = refl
    result_stands false = refl

    function_stands : IsNamed p → FunctionStands w g
    function_stands named =
        record {
          name = ap is_word is.name ∙ named.word;
          result = ap (λ t. is_type w.structs t && is_result t) is.result ∙ result_stands p.function.gives_int;
          params = ap (λ ts. are_parameters w.structs (types ts)) is.params ∙ are_ints w.structs p.function.params;
          contract = contract_stands g.contract is.contract;
          body = body_stands g.body is.body named.sites;
        }

  -- a typed program that says a program that may be run is sound
  pub said_is_sound : IsNamed p → Sound w
  said_is_sound named =
      let g = says.function in
      let names : names_of w ≡ p.function.name ∷ p.statics =
      ap (λ fs. map (λ f. f.name) fs ++ map (λ v. v.name) w.statics) says.functions
      ∙ ap (λ vs. g.name ∷ map (λ v. v.name) vs) says.statics
      ∙ ap (λ l. g.name ∷ l) (names_back p.statics)
      ∙ ap (λ n. n ∷ p.statics) says.says.name in
      let many = ap length names in
      let few = sound.few in
      record {
        functions = subst (All (FunctionStands w)) (sym says.functions) (All-cons (FunctionStands w) g [] (function_stands g says.says named) (All-nil (FunctionStands w)));
        statics = subst (All (StaticStands w)) (sym says.statics) (statics_stand w p.statics named.words);
        names = subst NamesDiffer (sym names) named.differ;
        few = omega arith;
      }
