-- A text is spelt by one list of line forms, and these are the lines of one program.
use Rattle.std.proofs.Common.{◌≡◌, ℕ, List, [], ◌∷◌, ◌++◌, map, Option, None, Some, refl, sym, ap, ◌∙◌, append_assoc, append-nil}
use Rattle.std.specs.Prelude.{codes, flat_map}
use Rattle.std.specs.List.{AllByRecursion}
use Rattle.dc_goto.specs.Program.{Instr, Sig, StaticVar, Body, GotoProgram}
use Rattle.dc_goto.specs.Text.{sig_line, static_line, instr_line, body_lines, lines_of, line_bytes, text_of}
use Rattle.dc_goto.specs.Lines.{BodyHead, Line, Version, Function, Static, Opening, Instruction, End, head_of, forms_of_body, forms_of, line_text, form_bytes, IsForm, FirstFormless}
use Rattle.dc_goto.specs.Reading.{read_line}
use Rattle.dc_goto.specs.Shape.{first_misshapen, IsGotoText, Misshapen}
use Rattle.dc_goto.proofs.Pieces.{got_parts}
use Rattle.dc_goto.proofs.Readable.{line_complete}

-- The text of a program is that of its lines ------------------------------------------------------------------------

function_texts : (fs : List Sig) (lines : List Line) → map line_text (map Function fs ++ lines) ≡ map sig_line fs ++ map line_text lines
function_texts [] lines = refl
function_texts (f ∷ fs) lines = ap (λ l. sig_line f ∷ l) (function_texts fs lines)

static_texts : (vs : List StaticVar) (lines : List Line) → map line_text (map Static vs ++ lines) ≡ map static_line vs ++ map line_text lines
static_texts [] lines = refl
static_texts (v ∷ vs) lines = ap (λ l. static_line v ∷ l) (static_texts vs lines)

instr_texts : (code : List Instr) (lines : List Line) → map line_text (map Instruction code ++ lines) ≡ map instr_line code ++ map line_text lines
instr_texts [] lines = refl
instr_texts (i ∷ code) lines = ap (λ l. instr_line i ∷ l) (instr_texts code lines)

body_texts : (bodies : List Body) → map line_text (flat_map forms_of_body bodies) ≡ flat_map body_lines bodies
body_texts [] = refl
body_texts (b ∷ bodies) =
    ap (λ l. line_text (Opening (head_of b)) ∷ l)
    (ap (map line_text) (append_assoc (map Instruction b.code) (End ∷ []) (flat_map forms_of_body bodies))
    ∙ instr_texts b.code (End ∷ flat_map forms_of_body bodies)
    ∙ ap (λ l. map instr_line b.code ++ (codes "end" ∷ l)) (body_texts bodies)
    ∙ sym (append_assoc (map instr_line b.code) (codes "end" ∷ []) (flat_map body_lines bodies)))

forms_lines : (p : GotoProgram) → map line_text (forms_of p) ≡ lines_of p
forms_lines p =
    ap (λ l. codes "dcc 1" ∷ l)
    (function_texts p.functions (map Static p.statics ++ flat_map forms_of_body p.bodies)
    ∙ ap (λ l. map sig_line p.functions ++ l) (static_texts p.statics (flat_map forms_of_body p.bodies)
    ∙ ap (λ l. map static_line p.statics ++ l) (body_texts p.bodies)))

texts_bytes : (lines : List Line) → flat_map line_bytes (map line_text lines) ≡ flat_map form_bytes lines
texts_bytes [] = refl
texts_bytes (line ∷ lines) = ap (λ l. form_bytes line ++ l) (texts_bytes lines)

pub forms_text : (p : GotoProgram) → text_of p ≡ flat_map form_bytes (forms_of p)
forms_text p = ap (flat_map line_bytes) (sym (forms_lines p)) ∙ texts_bytes (forms_of p)

-- Lines by their bytes ------------------------------------------------------------------------------------------------

empty_form : (line : Line) (rest : List ℕ) → [] ≡ form_bytes line ++ rest → ⊥
empty_form line rest e = by_text (line_text line) e
  where
    by_text : (text : List ℕ) → [] ≡ (text ++ 10 ∷ []) ++ rest → ⊥
    by_text [] e = cc
    by_text (b ∷ text) e = cc

pub same_first : (a b : Line) (x y : List ℕ) → IsForm a → IsForm b → form_bytes a ++ x ≡ form_bytes b ++ y → (a ≡ b) × (x ≡ y)
same_first a b x y ia ib e =
    got_parts a b x y (sym (line_complete a x ia) ∙ ap read_line e ∙ line_complete b y ib)

-- the lines of one text are the same, up to a place where no line form stands any more
pub lines_behind : (lines before : List Line) (behind : List ℕ) → AllByRecursion IsForm lines → AllByRecursion IsForm before → flat_map form_bytes lines ≡ flat_map form_bytes before ++ behind
    → ((line : Line) (rest : List ℕ) → IsForm line → behind ≡ form_bytes line ++ rest → ⊥) → (lines ≡ before) × (behind ≡ [])
lines_behind [] [] behind f g e formless = (refl, sym e)
lines_behind (line ∷ lines) [] behind f g e formless = absurd (formless line (flat_map form_bytes lines) f.0 (sym e))
lines_behind [] (line ∷ before) behind f g e formless =
    absurd (empty_form line (flat_map form_bytes before ++ behind) (e ∙ append_assoc (form_bytes line) (flat_map form_bytes before) behind))
lines_behind (line ∷ lines) (other ∷ before) behind f g e formless =
    let p = same_first line other (flat_map form_bytes lines) (flat_map form_bytes before ++ behind) f.0 g.0 (e ∙ append_assoc (form_bytes other) (flat_map form_bytes before) behind) in
    let r = lines_behind lines before behind f.1 g.1 p.1 formless in
    (ap (λ l. l ∷ lines) p.0 ∙ ap (λ l. other ∷ l) r.0, r.1)

pub lines_same : (lines others : List Line) → AllByRecursion IsForm lines → AllByRecursion IsForm others → flat_map form_bytes lines ≡ flat_map form_bytes others → lines ≡ others
lines_same lines others f g e =
    (lines_behind lines others [] f g (e ∙ sym (append-nil (flat_map form_bytes others))) (λ line rest is h. empty_form line rest h)).0

-- Programs by their lines ---------------------------------------------------------------------------------------------

-- what stands behind the functions and variables
abbrev behind_heads : List Line → List Line
behind_heads [] = []
behind_heads (Version ∷ lines) = behind_heads lines
behind_heads (Function f ∷ lines) = behind_heads lines
behind_heads (Static v ∷ lines) = behind_heads lines
behind_heads (Opening head ∷ lines) = Opening head ∷ lines
behind_heads (Instruction i ∷ lines) = Instruction i ∷ lines
behind_heads (End ∷ lines) = End ∷ lines

abbrev heads_first : List Sig → List StaticVar → List Line → List Line
heads_first fs vs lines = map Function fs ++ (map Static vs ++ lines)

-- the functions in front
abbrev front_functions : List Line → List Sig
front_functions (Function f ∷ lines) = f ∷ front_functions lines
front_functions lines = []

abbrev front_statics : List Line → List StaticVar
front_statics (Function f ∷ lines) = front_statics lines
front_statics (Static v ∷ lines) = v ∷ front_statics lines
front_statics lines = []

bodies_functions : (bodies : List Body) → front_functions (flat_map forms_of_body bodies) ≡ []
bodies_functions [] = refl
bodies_functions (b ∷ bodies) = refl

bodies_statics : (bodies : List Body) → front_statics (flat_map forms_of_body bodies) ≡ []
bodies_statics [] = refl
bodies_statics (b ∷ bodies) = refl

bodies_behind : (bodies : List Body) → behind_heads (flat_map forms_of_body bodies) ≡ flat_map forms_of_body bodies
bodies_behind [] = refl
bodies_behind (b ∷ bodies) = refl

functions_back : (fs : List Sig) (vs : List StaticVar) (bodies : List Body) → front_functions (heads_first fs vs (flat_map forms_of_body bodies)) ≡ fs
functions_back [] [] bodies = bodies_functions bodies
functions_back [] (v ∷ vs) bodies = refl
functions_back (f ∷ fs) vs bodies = ap (λ l. f ∷ l) (functions_back fs vs bodies)

statics_back : (fs : List Sig) (vs : List StaticVar) (bodies : List Body) → front_statics (heads_first fs vs (flat_map forms_of_body bodies)) ≡ vs
statics_back [] [] bodies = bodies_statics bodies
statics_back [] (v ∷ vs) bodies = ap (λ l. v ∷ l) (statics_back [] vs bodies)
statics_back (f ∷ fs) vs bodies = statics_back fs vs bodies

bodies_back : (fs : List Sig) (vs : List StaticVar) (bodies : List Body) → behind_heads (heads_first fs vs (flat_map forms_of_body bodies)) ≡ flat_map forms_of_body bodies
bodies_back [] [] bodies = bodies_behind bodies
bodies_back [] (v ∷ vs) bodies = bodies_back [] vs bodies
bodies_back (f ∷ fs) vs bodies = bodies_back fs vs bodies

same_code : (x y : List Instr) (r s : List Line) → map Instruction x ++ (End ∷ r) ≡ map Instruction y ++ (End ∷ s) → (x ≡ y) × (r ≡ s)
same_code [] [] r s e = (refl, cc)
same_code [] (j ∷ y) r s e = cc
same_code (i ∷ x) [] r s e = cc
same_code (i ∷ x) (j ∷ y) r s e =
    let first : i ≡ j = cc in
    let behind : map Instruction x ++ (End ∷ r) ≡ map Instruction y ++ (End ∷ s) = cc in
    let p = same_code x y r s behind in
    (ap (λ i. i ∷ x) first ∙ ap (λ x. j ∷ x) p.0, p.1)

abbrev rebuilt : BodyHead → List Instr → Body
rebuilt head code = record { name = head.name; params = head.params; regs = head.regs; code = code }

same_bodies : (x y : List Body) → flat_map forms_of_body x ≡ flat_map forms_of_body y → x ≡ y
same_bodies [] [] e = refl
same_bodies [] (c ∷ y) e = cc
same_bodies (b ∷ x) [] e = cc
same_bodies (b ∷ x) (c ∷ y) e =
    let head : head_of b ≡ head_of c = cc in
    let behind : (map Instruction b.code ++ End ∷ []) ++ flat_map forms_of_body x ≡ (map Instruction c.code ++ End ∷ []) ++ flat_map forms_of_body y = cc in
    let p = same_code b.code c.code (flat_map forms_of_body x) (flat_map forms_of_body y)
    (sym (append_assoc (map Instruction b.code) (End ∷ []) (flat_map forms_of_body x)) ∙ behind ∙ append_assoc (map Instruction c.code) (End ∷ []) (flat_map forms_of_body y)) in
    let whole : b ≡ c = ap (λ h. rebuilt h b.code) head ∙ ap (λ code. rebuilt (head_of c) code) p.0 in
    ap (λ b. b ∷ x) whole ∙ ap (λ x. c ∷ x) (same_bodies x y p.1)

abbrev program_of : List Sig → List StaticVar → List Body → GotoProgram
program_of functions statics bodies = record { functions = functions; statics = statics; bodies = bodies }

pub program_same : (p q : GotoProgram) → forms_of p ≡ forms_of q → p ≡ q
program_same p q e =
    let behind : heads_first p.functions p.statics (flat_map forms_of_body p.bodies) ≡ heads_first q.functions q.statics (flat_map forms_of_body q.bodies) = cc in
    let f : p.functions ≡ q.functions = sym (functions_back p.functions p.statics p.bodies) ∙ ap front_functions behind ∙ functions_back q.functions q.statics q.bodies in
    let v : p.statics ≡ q.statics = sym (statics_back p.functions p.statics p.bodies) ∙ ap front_statics behind ∙ statics_back q.functions q.statics q.bodies in
    let b : p.bodies ≡ q.bodies = same_bodies p.bodies q.bodies (sym (bodies_back p.functions p.statics p.bodies) ∙ ap behind_heads behind ∙ bodies_back q.functions q.statics q.bodies) in
    ap (λ f. program_of f p.statics p.bodies) f ∙ ap (λ v. program_of q.functions v p.bodies) v ∙ ap (λ b. program_of q.functions q.statics b) b

-- The laws --------------------------------------------------------------------------------------------------------------

pub one_program : (p q : GotoProgram) → AllByRecursion IsForm (forms_of p) → AllByRecursion IsForm (forms_of q) → text_of p ≡ text_of q → p ≡ q
one_program p q f g e =
    program_same p q (lines_same (forms_of p) (forms_of q) f g (sym (forms_text p) ∙ e ∙ forms_text q))

-- a text whose lines are line forms has no line without a form
pub no_formless : (bytes : List ℕ) (p : GotoProgram) (k : ℕ) → IsGotoText bytes p → FirstFormless bytes k → ⊥
no_formless bytes p k t first =
    first.there (lines_behind (forms_of p) first.before first.behind t.formed first.formed (sym (forms_text p) ∙ sym t.spelt ∙ first.text) first.formless).1

no_number : (k : ℕ) (o : Option ℕ) → o ≡ None → o ≡ Some k → ⊥
no_number k o e f = cc

-- a text of a shaped program has no line that breaks a rule, and none is missing
pub no_misshapen : (bytes : List ℕ) (p : GotoProgram) (k : ℕ) → IsGotoText bytes p → Misshapen bytes k → ⊥
no_misshapen bytes p k t m =
    no_number k (first_misshapen (forms_of p)) t.shaped
    (ap first_misshapen (lines_same (forms_of p) m.lines t.formed m.text.formed (sym (forms_text p) ∙ sym t.spelt ∙ m.text.text)) ∙ m.broken)
