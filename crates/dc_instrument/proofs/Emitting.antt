-- One turn of a loop that emits: what is left of the list.
use Rattle.std.proofs.Common.{◌≡◌, ℕ, Bool, false, suc, ◌+◌, ◌-◌, ◌<◌, List, [], ◌∷◌, ◌++◌, drop, map, length, ap, sym, ◌∙◌, arith, drop-cons, add-one, get_or, append_assoc}
use Rattle.std.specs.Bool.{◌==◌}
use Rattle.std.specs.Prelude.{Option, Result, Ok, Err, IfOk}
use Rattle.dc_num.specs.declared.kind.NumKind.{NumKind}
use Rattle.dc_num.specs.declared.kind.NumKind.TheVariants.{S32}
use Rattle.dc_core.specs.Term.{Term, Register}
use Rattle.dc_core.specs.declared.term.Term.TheFolds.{fold-roll-Term}
use Rattle.dc_core.specs.declared.term.Term.TheOpen.{Term-F}
use Rattle.dc_core.specs.declared.term.Term.TheVariants as term
use Rattle.dc_core.specs.declared.term.Term.TheViews.{rolls-Register}
use Rattle.dc_program.specs.declared.contract.Clause.{Clause}
use Rattle.dc_program.specs.declared.program.StaticVariable.{StaticVariable}
use Rattle.dc_core.specs.Program as plain
use Rattle.dc_core.specs.View.{clause_view, function_in, term_step, term_view}
use Rattle.dc_core.specs.Whole.{Says}
use Rattle.dc_core.proofs.Said.{program_said}
use Rattle.dc_layout.specs.declared.ctype.CType.{CType}
use Rattle.dc_program.specs.ProgramView as whole
use Rattle.dc_program.specs.declared.program.Function.{Function}
use Rattle.dc_goto.specs.Program.{Instr, Init, Local, Draw, Seen, StaticVar}
use Rattle.dc_goto.specs.View.{goto_view, instr_view}
use Rattle.dc_goto.specs.declared.operands.Bytes.TheVariants.{Zero}
use Rattle.dc_goto.specs.declared.program.GotoProgram.{GotoProgram}
use Rattle.dc_goto.specs.declared.program.Instr.TheVariants as instr
use Rattle.dc_instrument.specs.declared.places.Places.{Places}
use Rattle.dc_instrument.specs.Lowering.{argument_terms, checks_code, draws_code, goto_of, group_code, int_static, ints, parameters_code}

-- the view of a register
pub view_register : (r : ℕ) → term_view (term.Register r) ≡ Register r
view_register r = ap term_view (sym (rolls-Register r)) ∙ fold-roll-Term Term term_step (Term-F.Register r)

-- what is left, behind one more
pub one_more : {A : Type 0} (xs ys rest : List A) (x : A) → ys ≡ xs ++ x ∷ [] → ys ++ rest ≡ xs ++ (x ∷ rest)
one_more xs ys rest x e = ap (λ l. l ++ rest) e ∙ append_assoc xs (x ∷ []) rest

-- one fewer is left
one_fewer : (i n : ℕ) → i < n → n - i ≡ suc (n - (i + 1))
one_fewer i n lt = omega arith

pub draws_turn : (o0 o1 o2 : List Instr) (i n : ℕ) → i < n → o1 ++ draws_code i (n - i) ≡ o0 → o2 ≡ o1 ++ Draw i S32 ∷ [] → o2 ++ draws_code (i + 1) (n - (i + 1)) ≡ o0
draws_turn o0 o1 o2 i n lt left e =
    one_more o1 o2 _ _ e
    ∙ ap (λ j. o1 ++ Draw i S32 ∷ draws_code j (n - (i + 1))) (add-one i)
    ∙ sym (ap (λ k. o1 ++ draws_code i k) (one_fewer i n lt))
    ∙ left

pub arguments_turn : (o0 o1 o2 : List Term) (i n : ℕ) → i < n → o1 ++ argument_terms i (n - i) ≡ o0 → o2 ≡ o1 ++ Register i ∷ [] → o2 ++ argument_terms (i + 1) (n - (i + 1)) ≡ o0
arguments_turn o0 o1 o2 i n lt left e =
    one_more o1 o2 _ _ e
    ∙ ap (λ j. o1 ++ Register i ∷ argument_terms j (n - (i + 1))) (add-one i)
    ∙ sym (ap (λ k. o1 ++ argument_terms i k) (one_fewer i n lt))
    ∙ left

pub ints_turn : (o0 o1 o2 : List NumKind) (i n : ℕ) → i < n → o1 ++ ints (n - i) ≡ o0 → o2 ≡ o1 ++ S32 ∷ [] → o2 ++ ints (n - (i + 1)) ≡ o0
ints_turn o0 o1 o2 i n lt left e =
    one_more o1 o2 _ _ e ∙ sym (ap (λ k. o1 ++ ints k) (one_fewer i n lt)) ∙ left

-- a parameter's object takes the argument
pub view_init : (object i : ℕ) → instr_view (instr.Init S32 (term.Register object) (term.Register i)) ≡ Init S32 (Register object) (Register i)
view_init object i =
    let a = view_register object in
    let b = view_register i in
    cc

pub parameters_turn : (o0 o1 o2 o3 : List Instr) (first i n object : ℕ) → i < n → object ≡ first + i → o1 ++ parameters_code first i (n - i) ≡ o0 → o2 ≡ o1 ++ Local object 4 Zero ∷ [] → o3 ≡ o2 ++ Init S32 (Register object) (Register i) ∷ [] → o3 ++ parameters_code first (i + 1) (n - (i + 1)) ≡ o0
parameters_turn o0 o1 o2 o3 first i n object lt eo left e2 e3 =
    one_more o2 o3 _ _ e3
    ∙ one_more o1 o2 _ _ e2
    ∙ ap (λ k. o1 ++ Local k 4 Zero ∷ Init S32 (Register k) (Register i) ∷ parameters_code first (i + 1) (n - (i + 1))) eo
    ∙ ap (λ j. o1 ++ Local (first + i) 4 Zero ∷ Init S32 (Register (first + i)) (Register i) ∷ parameters_code first j (n - (i + 1))) (add-one i)
    ∙ sym (ap (λ k. o1 ++ parameters_code first i k) (one_fewer i n lt))
    ∙ left

pub statics_turn : (o0 o1 o2 : List StaticVar) (statics : List StaticVariable) (i : ℕ) (v : StaticVariable) → i < length statics → v ≡ get_or statics i v → o1 ++ map int_static (map (λ v. v.name) (drop i statics)) ≡ o0 → o2 ≡ o1 ++ int_static v.name ∷ [] → o2 ++ map int_static (map (λ v. v.name) (drop (i + 1) statics)) ≡ o0
statics_turn o0 o1 o2 statics i v lt is left e =
    let front : drop i statics ≡ v ∷ drop (i + 1) statics = rw add-one (drop-cons statics i v lt ∙ ap (λ y. y ∷ drop (suc i) statics) (sym is)) in
    one_more o1 o2 _ _ e
    ∙ sym (ap (λ l. o1 ++ map int_static (map (λ v. v.name) l)) front)
    ∙ left

-- a group of tests that isn't empty
pub checks_group : (o1 o2 o3 : List Instr) (name : List ℕ) (at : Places) (clauses : List Clause) (empty : Bool) → empty ≡ (length clauses == 0) → empty ≡ false → o2 ≡ o1 ++ Seen ∷ [] → o3 ≡ o2 ++ checks_code name at 1 (map clause_view clauses) → o3 ≡ o1 ++ group_code (checks_code name at 1 (map clause_view clauses))
checks_group o1 o2 o3 name at [] empty is not_empty e2 e3 = absurd cc
checks_group o1 o2 o3 name at (e ∷ clauses) empty is not_empty e2 e3 = e3 ∙ one_more o1 o2 _ _ e2

-- the goto program of a program's function below its variables is that of the program that it says
pub lowered_said : {E : Type 0} (r : Result GotoProgram E) (p : List Function × (List StaticVariable × List (Option (List CType)))) (statics : List StaticVariable) (f : plain.Function) → statics ≡ p.1.0 → f ≡ function_in p.0 → IfOk r (λ q. goto_view q ≡ goto_of (record { statics = map (λ v. v.name) statics; function = f })) → IfOk r (λ q. (first : plain.Program) → Says first (whole.program_view p) → goto_view q ≡ goto_of first)
lowered_said (Ok q) p statics f s g h = λ first says.
    h
    ∙ ap (λ statics. goto_of (record { statics = map (λ v. v.name) statics; function = f })) s
    ∙ ap (λ f. goto_of (record { statics = map (λ v. v.name) p.1.0; function = f })) g
    ∙ ap goto_of (program_said first p says)
lowered_said (Err e) p statics f s g h = tt
