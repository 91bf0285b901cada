-- Lists of what is judged one by one: what stands before, and what is left.
use Rattle.std.proofs.Common.{◌≡◌, ℕ, suc, ◌+◌, ◌<◌, ◌≤◌, List, [], ◌∷◌, ◌++◌, map, length, drop, get_or, refl, sym, ap, ◌∙◌, add-one, drop-cons}
use Rattle.std.specs.Prelude.{Ok, Err}
use Rattle.std.proofs.lemmas.List.{drop_all}
use Rattle.dc_layout.specs.Types.{PlainType, PlainTypes, NoTypes, Types, type_view}
use Rattle.dc_layout.specs.declared.ctype.CType.{CType}
use Rattle.dc_program.specs.declared.expression.Expr as code
use Rattle.dc_program.specs.Expressions.{Expr, Exprs, NoExprs, More}
use Rattle.dc_program.specs.View.{expr_view}
use Rattle.dc_rules.specs.Seen.{types_view}
use Rattle.dc_scope.specs.Scopes.{Names}
use Rattle.dc_syntax.specs.Trees.{Tree, Assigned, Parameters}
use Rattle.dc_syntax.specs.View.{raw_view, more_tree, arguments_tree, parameters_tree}
use Rattle.dc_syntax.specs.declared.raw.Raw.{Raw}
use Rattle.dc_typing.specs.Judged.{Judged, Broken, ◌>>=◌}
use Rattle.dc_typing.specs.Known.{Known}
use Rattle.dc_typing.specs.Seen.{exprs_view}
use Rattle.dc_typing.specs.Typed.{typed, typed_arguments, typed_parameters, typed_parameter}
use Rattle.dc_typing.specs.View.{knowing}
use Rattle.dc_typing.specs.declared.spot.Spot.TheVariants.{Inside}

-- the types that are named before, and those that are judged behind them
abbrev pub named_before : List PlainType → Judged (List PlainType) → Judged (List PlainType)
named_before before (Ok ts) = Ok (before ++ ts)
named_before before (Err b) = Err b

abbrev pub exprs_append : Exprs → Exprs → Exprs
exprs_append NoExprs others = others
exprs_append (More e es) others = More e (exprs_append es others)

abbrev pub arguments_before : Exprs → Judged Exprs → Judged Exprs
arguments_before before (Ok es) = Ok (exprs_append before es)
arguments_before before (Err b) = Err b

abbrev pub types_append : PlainTypes → PlainTypes → PlainTypes
types_append NoTypes others = others
types_append (Types t ts) others = Types t (types_append ts others)

abbrev pub parameters_before : PlainTypes → Judged PlainTypes → Judged PlainTypes
parameters_before before (Ok ts) = Ok (types_append before ts)
parameters_before before (Err b) = Err b

dropped : (xs : List Raw) (i : ℕ) (x : Raw) → i < length xs → x ≡ get_or xs i x → drop i xs ≡ x ∷ drop (i + 1) xs
dropped xs i x lt is = rw (add-one, drop-cons xs i x) (ap (λ y. y ∷ drop (suc i) xs) (sym is))

-- Arguments

arguments-none : (j : Judged Exprs) → j ≡ arguments_before NoExprs j
arguments-none (Ok es) = refl
arguments-none (Err b) = refl

pub arguments-start : (k : Known) (all : List Tree) → typed_arguments k (arguments_tree all) ≡ arguments_before NoExprs (typed_arguments k (more_tree Assigned all))
arguments-start k [] = refl
arguments-start k (a ∷ all) = arguments-none (typed_arguments k (more_tree Assigned (a ∷ all)))

exprs-push : (all : List code.Expr) (e : code.Expr) (es : Exprs) → exprs_append (exprs_view all) (More (expr_view e) es) ≡ exprs_append (exprs_view (all ++ e ∷ [])) es
exprs-push [] e es = refl
exprs-push (a ∷ all) e es = ap (More (expr_view a)) (exprs-push all e es)

arguments-push : (all : List code.Expr) (e : code.Expr) (j : Judged Exprs) → arguments_before (exprs_view all) (j >>= λ es. Ok (More (expr_view e) es)) ≡ arguments_before (exprs_view (all ++ e ∷ [])) j
arguments-push all e (Ok es) = ap Ok (exprs-push all e es)
arguments-push all e (Err b) = refl

-- one more argument
pub arguments-turn : (k : Known) (xs : List Raw) (i : ℕ) (x : Raw) (all now : List code.Expr) (e : code.Expr) → i < length xs → x ≡ get_or xs i x
    → typed k Inside (raw_view x) ≡ Ok (expr_view e) → now ≡ all ++ e ∷ []
    → arguments_before (exprs_view all) (typed_arguments k (more_tree Assigned (map raw_view (drop i xs))))
    ≡ arguments_before (exprs_view now) (typed_arguments k (more_tree Assigned (map raw_view (drop (i + 1) xs))))
arguments-turn k xs i x all now e lt is judged these =
    let rest = typed_arguments k (more_tree Assigned (map raw_view (drop (i + 1) xs))) in
    ap (λ l. arguments_before (exprs_view all) (typed_arguments k (more_tree Assigned (map raw_view l)))) (dropped xs i x lt is)
    ∙ (ap (λ j. arguments_before (exprs_view all) (j >>= λ e. rest >>= λ es. Ok (More e es))) judged
    ∙ (arguments-push all e rest ∙ ap (λ l. arguments_before (exprs_view l) rest) (sym these)))

-- an argument that breaks a rule
pub arguments-stop : (k : Known) (xs : List Raw) (i : ℕ) (x : Raw) (all : List code.Expr) (b : Broken) → i < length xs → x ≡ get_or xs i x
    → typed k Inside (raw_view x) ≡ Err b → arguments_before (exprs_view all) (typed_arguments k (more_tree Assigned (map raw_view (drop i xs)))) ≡ Err b
arguments-stop k xs i x all b lt is judged =
    ap (λ l. arguments_before (exprs_view all) (typed_arguments k (more_tree Assigned (map raw_view l)))) (dropped xs i x lt is)
    ∙ ap (λ j. arguments_before (exprs_view all) (j >>= λ e. typed_arguments k (more_tree Assigned (map raw_view (drop (i + 1) xs))) >>= λ es. Ok (More e es))) judged

exprs-end : (es : Exprs) → exprs_append es NoExprs ≡ es
exprs-end NoExprs = refl
exprs-end (More e es) = ap (More e) (exprs-end es)

-- no argument is left
pub arguments-end : (k : Known) (xs : List Raw) (i : ℕ) (es : Exprs) → length xs ≤ i → arguments_before es (typed_arguments k (more_tree Assigned (map raw_view (drop i xs)))) ≡ Ok es
arguments-end k xs i es le = ap (λ l. arguments_before es (typed_arguments k (more_tree Assigned (map raw_view l)))) (drop_all i xs le) ∙ ap Ok (exprs-end es)

-- Parameters

parameters-none : (j : Judged PlainTypes) → j ≡ parameters_before NoTypes j
parameters-none (Ok ts) = refl
parameters-none (Err b) = refl

pub parameters-start : (k : Known) (all : List Tree) → typed_parameters k (parameters_tree all) ≡ parameters_before NoTypes (typed_parameters k (more_tree Parameters all))
parameters-start k [] = refl
parameters-start k (a ∷ all) = parameters-none (typed_parameters k (more_tree Parameters (a ∷ all)))

types-push : (all : List CType) (t : CType) (ts : PlainTypes) → types_append (types_view all) (Types (type_view t) ts) ≡ types_append (types_view (all ++ t ∷ [])) ts
types-push [] t ts = refl
types-push (u ∷ all) t ts = ap (Types (type_view u)) (types-push all t ts)

parameters-push : (all : List CType) (t : CType) (j : Judged PlainTypes) → parameters_before (types_view all) (j >>= λ ts. Ok (Types (type_view t) ts)) ≡ parameters_before (types_view (all ++ t ∷ [])) j
parameters-push all t (Ok ts) = ap Ok (types-push all t ts)
parameters-push all t (Err b) = refl

-- one more parameter
pub parameters-turn : (k : Known) (xs : List Raw) (i : ℕ) (x : Raw) (around around' : List Names) (all now : List CType) (t : CType) → i < length xs → x ≡ get_or xs i x
    → typed_parameter (knowing k around) (raw_view x) ≡ Ok (record { type = type_view t; parameters = around' }) → now ≡ all ++ t ∷ []
    → parameters_before (types_view all) (typed_parameters (knowing k around) (more_tree Parameters (map raw_view (drop i xs))))
    ≡ parameters_before (types_view now) (typed_parameters (knowing k around') (more_tree Parameters (map raw_view (drop (i + 1) xs))))
parameters-turn k xs i x around around' all now t lt is judged these =
    let rest = map raw_view (drop (i + 1) xs) in
    ap (λ l. parameters_before (types_view all) (typed_parameters (knowing k around) (more_tree Parameters (map raw_view l)))) (dropped xs i x lt is)
    ∙ (ap (λ j. parameters_before (types_view all) (j >>= λ d. typed_parameters (knowing k d.parameters) (more_tree Parameters rest) >>= λ ts. Ok (Types d.type ts))) judged
    ∙ (parameters-push all t (typed_parameters (knowing k around') (more_tree Parameters rest))
    ∙ ap (λ l. parameters_before (types_view l) (typed_parameters (knowing k around') (more_tree Parameters rest))) (sym these)))

-- a parameter that breaks a rule
pub parameters-stop : (k : Known) (xs : List Raw) (i : ℕ) (x : Raw) (around : List Names) (all : List CType) (b : Broken) → i < length xs → x ≡ get_or xs i x
    → typed_parameter (knowing k around) (raw_view x) ≡ Err b
    → parameters_before (types_view all) (typed_parameters (knowing k around) (more_tree Parameters (map raw_view (drop i xs)))) ≡ Err b
parameters-stop k xs i x around all b lt is judged =
    ap (λ l. parameters_before (types_view all) (typed_parameters (knowing k around) (more_tree Parameters (map raw_view l)))) (dropped xs i x lt is)
    ∙ ap (λ j. parameters_before (types_view all) (j >>= λ d. typed_parameters (knowing k d.parameters) (more_tree Parameters (map raw_view (drop (i + 1) xs))) >>= λ ts. Ok (Types d.type ts))) judged

types-end : (ts : PlainTypes) → types_append ts NoTypes ≡ ts
types-end NoTypes = refl
types-end (Types t ts) = ap (Types t) (types-end ts)

-- no parameter is left
pub parameters-end : (k : Known) (xs : List Raw) (i : ℕ) (ts : PlainTypes) → length xs ≤ i
    → parameters_before ts (typed_parameters k (more_tree Parameters (map raw_view (drop i xs)))) ≡ Ok ts
parameters-end k xs i ts le = ap (λ l. parameters_before ts (typed_parameters k (more_tree Parameters (map raw_view l)))) (drop_all i xs le) ∙ ap Ok (types-end ts)
