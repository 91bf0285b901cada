-- The whole goto program of a program can be written.
use Rattle.std.proofs.Common.{◌≡◌, ℕ, suc, Bool, true, false, ◌&&◌, List, [], ◌∷◌, ◌++◌, length, None, Some, refl, sym, ap, subst, ◌∙◌, arith}
use Rattle.std.specs.Prelude.{map, codes, nat_lt, nat_le, ◌||◌, ◌==◌}
use Rattle.std.specs.List.{AllByRecursion}
use Rattle.std.proofs.lemmas.Bool.Decides.{nat_tests}
use Rattle.dc_core.specs.Program.{Program}
use Rattle.dc_core.specs.Sound.{IsSound}
use Rattle.dc_text.specs.Words.{same, is_word}
use Rattle.dc_goto.specs.Lines.{BodyHead, Function, Static, Opening, Instruction, End, IsForm, head_of, forms_of_body, forms_of}
use Rattle.dc_goto.specs.Program.{Instr, Sig, Body}
use Rattle.dc_goto.specs.Shape as shape
use Rattle.dc_goto.specs.Shape.{is_listed, is_behind, place_of, params_of, may_open, names_limit, IsShaped}
use Rattle.dc_instrument.specs.Lowering.{int_static, function_body, start_body, start_regs, sig_of, ints, goto_of}
use Rattle.dc_instrument.specs.Writable.{IsWritable}
use Rattle.dc_instrument.proofs.Written.Names.{place_here, sig_here, place_other, sig_other}
use Rattle.dc_instrument.proofs.Written.Terms.{at_most}
use Rattle.dc_instrument.proofs.Written.Code.{all_append, AllAct, function_small, function_acts, function_ends, start_small, start_is_other, start_acts, start_ends, ints_count, sigs, all_objects}
use Rattle.dc_instrument.proofs.Written.Lines.{none_broken, statics_kept, body_follows, body_kept}

-- Forms -------------------------------------------------------------------------------------------------------------

statics_formed : (names : List (List ℕ)) → AllByRecursion (λ name. is_word name ≡ true) names → AllByRecursion IsForm (map Static (map int_static names))
statics_formed [] h = tt
statics_formed (name ∷ names) h = ((h.0, omega arith), statics_formed names h.1)

code_formed : (functions : List Sig) (objects : ℕ) (head : BodyHead) (code : List Instr) → AllAct functions objects head code → AllByRecursion IsForm (map Instruction code)
code_formed functions objects head [] h = tt
code_formed functions objects head (i ∷ code) h = (h.0.written, code_formed functions objects head code h.1)

body_formed : (functions : List Sig) (objects : ℕ) (body : Body) → IsForm (Opening (head_of body)) → AllAct functions objects (head_of body) body.code → AllByRecursion IsForm (forms_of_body body)
body_formed functions objects body opening acts = (opening, all_append IsForm (map Instruction body.code) (End ∷ []) (code_formed functions objects (head_of body) body.code acts) (tt, tt))

pub lowered_formed : (p : Program) → IsSound p → IsWritable p → AllByRecursion IsForm (forms_of (goto_of p))
lowered_formed p sound w =
    let few = w.few_params in
    let small = function_small p sound w in
    let small_start = start_small p sound w in
    let function = forms_of_body (function_body p.function) in
    let start = forms_of_body (start_body p.function) in (
      tt,
      (
        w.name,
        all_append IsForm (map Static (map int_static p.statics)) (function ++ (start ++ []))
            (statics_formed p.statics w.statics)
            (all_append IsForm function (start ++ [])
            (body_formed (sigs p sound w) (all_objects p sound w) (function_body p.function) (rw w.name refl, omega arith, omega arith) (function_acts p sound w))
            (all_append IsForm start []
            (body_formed (sigs p sound w) (all_objects p sound w) (start_body p.function) (refl, omega arith, omega arith) (start_acts p sound w)) tt)),
      ),
    )

-- Shape -------------------------------------------------------------------------------------------------------------

equal : (a b : ℕ) → a ≡ b → (a == b) ≡ true
equal a b e = grind (arith, nat_tests)

four_true : (a b c d : Bool) → a ≡ true → b ≡ true → c ≡ true → d ≡ true → (a && b && c && d) ≡ true
four_true a b c d p q r s = rw (p, q, r, s) refl

function_opens : (p : Program) → may_open (sig_of p.function ∷ []) None (head_of (function_body p.function)) ≡ true
function_opens p =
    let f = p.function in
    let head = head_of (function_body f) in
    let listed : is_listed (sig_of f ∷ []) f.name ≡ true = ap (λ k. nat_lt k 1) (place_here (sig_of f)) in
    four_true (is_listed (sig_of f ∷ []) f.name || same f.name (codes ".start")) true (f.params == params_of (shape.sig_of (sig_of f ∷ []) f.name)) (nat_le f.params head.regs)
    (rw listed refl) refl
    (ap (λ o. f.params == params_of o) (sig_here (sig_of f)) ∙ equal f.params (length (ints f.params)) (sym (ints_count f.params)))
    (at_most f.params head.regs (omega arith))

start_opens : (p : Program) → same (codes ".start") p.function.name ≡ false → may_open (sig_of p.function ∷ []) (Some (head_of (function_body p.function))) (head_of (start_body p.function)) ≡ true
start_opens p other =
    let f = p.function in
    let here = place_here (sig_of f) in
    let behind = place_other (sig_of f) (codes ".start") other in
    let after : is_behind (sig_of f ∷ []) (Some (head_of (function_body f))) (place_of (sig_of f ∷ []) (codes ".start")) ≡ true =
    ap (λ k. nat_lt (place_of (sig_of f ∷ []) f.name) k) behind ∙ ap (λ k. nat_lt k 1) here in
    four_true (is_listed (sig_of f ∷ []) (codes ".start") || true) (is_behind (sig_of f ∷ []) (Some (head_of (function_body f))) (place_of (sig_of f ∷ []) (codes ".start")))
    (0 == params_of (shape.sig_of (sig_of f ∷ []) (codes ".start"))) (nat_le 0 (start_regs f))
    (either (is_listed (sig_of f ∷ []) (codes ".start"))) after
    (ap (λ o. 0 == params_of o) (sig_other (sig_of f) (codes ".start") other))
    (at_most 0 (start_regs f) (omega arith))
  where
    either : (a : Bool) → (a || true) ≡ true
    either true = refl
    either false = refl

first_name : nat_lt 0 names_limit ≡ true
unfolding names_limit
first_name = refl

pub lowered_shaped : (p : Program) → IsSound p → IsWritable p → IsShaped (goto_of p)
lowered_shaped p sound w =
    let few = sound.few in
    let functions = sig_of p.function ∷ [] in
    let function = function_body p.function in
    let start = start_body p.function in
    none_broken [] (forms_of (goto_of p)) (
      refl,
      (λ count. refl),
      (
        refl,
        (λ count. first_name),
        statics_kept functions (p.function.name ∷ []) (Function (sig_of p.function)) p.statics (suc (length p.statics)) (forms_of_body function ++ (forms_of_body start ++ []))
            refl w.differ (omega arith) (omega arith)
            (λ names line count b.
            body_kept functions names None line function (forms_of_body start ++ [])
            (body_follows line (head_of function) b) (function_opens p) (subst (λ n. AllAct functions n (head_of function) function.code) (sym count) (function_acts p sound w)) (function_ends p sound w)
            (body_kept functions names (Some (head_of function)) End start []
            refl (start_opens p (start_is_other p sound w)) (subst (λ n. AllAct functions n (head_of start) start.code) (sym count) (start_acts p sound w)) (start_ends p sound w)
            refl)),
      ),
    )
