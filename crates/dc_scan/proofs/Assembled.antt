-- The program that shaped lines make has these lines.
use Rattle.std.proofs.Common.{◌≡◌, ℕ, suc, Bool, true, false, List, [], ◌∷◌, ◌++◌, length, map, Option, None, Some, refl, sym, ap, subst, ◌∙◌, append_assoc, append-nil}
use Rattle.std.specs.Prelude.{if◌then◌else◌, flat_map}
use Rattle.std.proofs.lemmas.Grind.{flat_map-append}
use Rattle.dc_goto.specs.Program.{Instr, Sig, StaticVar, Body, GotoProgram}
use Rattle.dc_goto.specs.Lines.{BodyHead, Line, Version, Function, Static, Opening, Instruction, End, forms_of_body, forms_of, form_bytes, IsForm, AreLines}
use Rattle.dc_goto.specs.Shape.{last, may_follow, may_say, keeps, is_end, is_start, heads_in, is_whole, first_broken, first_misshapen, IsGotoText}
use Rattle.std.specs.List.{AllByRecursion}
use Rattle.dc_goto.proofs.Digits.{and_true}
use Rattle.dc_goto.proofs.Spelling.{forms_text}
use Rattle.dc_scan.specs.Assembling.{Assembly, none_added, body_of, with_body, added, added_all, program_of}

-- The lines so far --------------------------------------------------------------------------------------------------

abbrev opened : Option BodyHead → List Instr → List Line
opened None code = []
opened (Some head) code = Opening head ∷ map Instruction code

-- behind the version
abbrev so_far : List Sig → List StaticVar → List Body → Option BodyHead → List Instr → List Line
so_far functions statics bodies head code =
    map Function functions ++ (map Static statics ++ (flat_map forms_of_body bodies ++ opened head code))

-- what stands in front of the last of these parts goes on being in front
in_front : (f s b last more : List Line) → (f ++ (s ++ (b ++ last))) ++ more ≡ f ++ (s ++ (b ++ (last ++ more)))
in_front f s b last more =
    append_assoc f (s ++ (b ++ last)) more
    ∙ ap (λ l. f ++ l) (append_assoc s (b ++ last) more ∙ ap (λ l. s ++ l) (append_assoc b last more))

functions_more : (fs : List Sig) (sig : Sig) → (map Function fs ++ []) ++ (Function sig ∷ []) ≡ map Function (fs ++ sig ∷ []) ++ []
functions_more [] sig = refl
functions_more (f ∷ fs) sig = ap (λ l. Function f ∷ l) (functions_more fs sig)

statics_more : (vs : List StaticVar) (v : StaticVar) → (map Static vs ++ []) ++ (Static v ∷ []) ≡ map Static (vs ++ v ∷ []) ++ []
statics_more [] v = refl
statics_more (w ∷ vs) v = ap (λ l. Static w ∷ l) (statics_more vs v)

code_more : (code : List Instr) (i : Instr) → map Instruction code ++ (Instruction i ∷ []) ≡ map Instruction (code ++ i ∷ [])
code_more [] i = refl
code_more (j ∷ code) i = ap (λ l. Instruction j ∷ l) (code_more code i)

function_behind : (fs : List Sig) (vs : List StaticVar) (bs : List Body) (head : Option BodyHead) (code : List Instr) (sig : Sig) → vs ≡ [] → bs ≡ [] → head ≡ None → so_far fs vs bs head code ++ (Function sig ∷ []) ≡ so_far (fs ++ sig ∷ []) vs bs head code
function_behind fs vs bs head code sig v b h =
    ap (λ vs. so_far fs vs bs head code ++ (Function sig ∷ [])) v
    ∙ ap (λ bs. so_far fs [] bs head code ++ (Function sig ∷ [])) b
    ∙ ap (λ head. so_far fs [] [] head code ++ (Function sig ∷ [])) h
    ∙ functions_more fs sig
    ∙ sym (ap (λ vs. so_far (fs ++ sig ∷ []) vs bs head code) v ∙ ap (λ bs. so_far (fs ++ sig ∷ []) [] bs head code) b ∙ ap (λ head. so_far (fs ++ sig ∷ []) [] [] head code) h)

static_behind : (fs : List Sig) (vs : List StaticVar) (bs : List Body) (head : Option BodyHead) (code : List Instr) (w : StaticVar) → bs ≡ [] → head ≡ None → so_far fs vs bs head code ++ (Static w ∷ []) ≡ so_far fs (vs ++ w ∷ []) bs head code
static_behind fs vs bs head code w b h =
    ap (λ bs. so_far fs vs bs head code ++ (Static w ∷ [])) b
    ∙ ap (λ head. so_far fs vs [] head code ++ (Static w ∷ [])) h
    ∙ append_assoc (map Function fs) (map Static vs ++ []) (Static w ∷ [])
    ∙ ap (λ l. map Function fs ++ l) (statics_more vs w)
    ∙ sym (ap (λ bs. so_far fs (vs ++ w ∷ []) bs head code) b ∙ ap (λ head. so_far fs (vs ++ w ∷ []) [] head code) h)

opening_behind : (fs : List Sig) (vs : List StaticVar) (bs : List Body) (head : Option BodyHead) (code : List Instr) (next : BodyHead) → head ≡ None → code ≡ [] → so_far fs vs bs head code ++ (Opening next ∷ []) ≡ so_far fs vs bs (Some next) code
opening_behind fs vs bs head code next h c =
    ap (λ head. so_far fs vs bs head code ++ (Opening next ∷ [])) h
    ∙ in_front (map Function fs) (map Static vs) (flat_map forms_of_body bs) [] (Opening next ∷ [])
    ∙ sym (ap (λ code. so_far fs vs bs (Some next) code) c)

instruction_behind : (fs : List Sig) (vs : List StaticVar) (bs : List Body) (head : Option BodyHead) (code : List Instr) (at : BodyHead) (i : Instr) → head ≡ Some at → so_far fs vs bs head code ++ (Instruction i ∷ []) ≡ so_far fs vs bs head (code ++ i ∷ [])
instruction_behind fs vs bs head code at i h =
    ap (λ head. so_far fs vs bs head code ++ (Instruction i ∷ [])) h
    ∙ in_front (map Function fs) (map Static vs) (flat_map forms_of_body bs) (Opening at ∷ map Instruction code) (Instruction i ∷ [])
    ∙ ap (λ l. map Function fs ++ (map Static vs ++ (flat_map forms_of_body bs ++ (Opening at ∷ l)))) (code_more code i)
    ∙ sym (ap (λ head. so_far fs vs bs head (code ++ i ∷ [])) h)

end_behind : (fs : List Sig) (vs : List StaticVar) (bs : List Body) (head : Option BodyHead) (code : List Instr) (at : BodyHead) → head ≡ Some at → so_far fs vs bs head code ++ (End ∷ []) ≡ so_far fs vs (bs ++ body_of at code ∷ []) None []
end_behind fs vs bs head code at h =
    ap (λ head. so_far fs vs bs head code ++ (End ∷ [])) h
    ∙ in_front (map Function fs) (map Static vs) (flat_map forms_of_body bs) (Opening at ∷ map Instruction code) (End ∷ [])
    ∙ ap (λ l. map Function fs ++ (map Static vs ++ l)) whole
  where
    whole : flat_map forms_of_body bs ++ (Opening at ∷ (map Instruction code ++ (End ∷ []))) ≡ flat_map forms_of_body (bs ++ body_of at code ∷ []) ++ []
    whole =
        ap (λ l. flat_map forms_of_body bs ++ l) (sym (append-nil (Opening at ∷ (map Instruction code ++ (End ∷ [])))))
        ∙ sym (flat_map-append forms_of_body bs (body_of at code ∷ []))
        ∙ sym (append-nil (flat_map forms_of_body (bs ++ body_of at code ∷ [])))

-- One line more -----------------------------------------------------------------------------------------------------

-- an open body
record IsOpen (head : Option BodyHead) : Type 0 where
  at : BodyHead
  is : head ≡ Some at

record IsClosed (a : Assembly) : Type 0 where
  no_head : a.head ≡ None
  no_code : a.code ≡ []

record HasNoBodies (a : Assembly) : Type 0 where
  no_bodies : a.bodies ≡ []
  closed : IsClosed a

record HasNoStatics (a : Assembly) : Type 0 where
  no_statics : a.statics ≡ []
  bare : HasNoBodies a

-- what is made so far, by the last line
abbrev Stage : Line → Assembly → Type 0
Stage Version a = HasNoStatics a
Stage (Function sig) a = HasNoStatics a
Stage (Static v) a = HasNoBodies a
Stage (Opening head) a = IsOpen a.head
Stage (Instruction i) a = IsOpen a.head
Stage End a = IsClosed a

abbrev all_so_far : Assembly → List Line
all_so_far a = so_far a.functions a.statics a.bodies a.head a.code

-- these lines make this
record Makes (before : List Line) (a : Assembly) : Type 0 where
  line : Line
  last_is : last before ≡ Some line
  stage : Stage line a
  whole : before ≡ Version ∷ all_so_far a

-- one line behind what was made so far
record Adds (a : Assembly) (line : Line) : Type 0 where
  stage : Stage line (added a line)
  whole : all_so_far a ++ line ∷ [] ≡ all_so_far (added a line)

add_function : (a : Assembly) (sig : Sig) → HasNoStatics a → Adds a (Function sig)
add_function a sig h =
    record {
      stage = record { no_statics = h.no_statics; bare = record { no_bodies = h.bare.no_bodies; closed = record { no_head = h.bare.closed.no_head; no_code = h.bare.closed.no_code } } };
      whole = function_behind a.functions a.statics a.bodies a.head a.code sig h.no_statics h.bare.no_bodies h.bare.closed.no_head;
    }

add_static : (a : Assembly) (v : StaticVar) → HasNoBodies a → Adds a (Static v)
add_static a v h =
    record {
      stage = record { no_bodies = h.no_bodies; closed = record { no_head = h.closed.no_head; no_code = h.closed.no_code } };
      whole = static_behind a.functions a.statics a.bodies a.head a.code v h.no_bodies h.closed.no_head;
    }

add_opening : (a : Assembly) (head : BodyHead) → IsClosed a → Adds a (Opening head)
add_opening a head h =
    record {
      stage = record { at = head; is = refl };
      whole = opening_behind a.functions a.statics a.bodies a.head a.code head h.no_head h.no_code;
    }

add_instruction : (a : Assembly) (i : Instr) → IsOpen a.head → Adds a (Instruction i)
add_instruction a i h =
    record { stage = record { at = h.at; is = h.is }; whole = instruction_behind a.functions a.statics a.bodies a.head a.code h.at i h.is }

add_end : (a : Assembly) → IsOpen a.head → Adds a End
add_end a h =
    let made : IsClosed (with_body a a.head) × (all_so_far a ++ (End ∷ []) ≡ all_so_far (with_body a a.head)) =
    subst (λ head. IsClosed (with_body a head) × (all_so_far a ++ (End ∷ []) ≡ all_so_far (with_body a head))) (sym h.is)
    (record { no_head = refl; no_code = refl }, end_behind a.functions a.statics a.bodies a.head a.code h.at h.is) in
    record { stage = made.0; whole = made.1 }

adds : (a : Assembly) (before line : Line) → Stage before a → may_follow (Some before) line ≡ true → Adds a line
adds a Version (Function sig) s h = add_function a sig s
adds a Version (Static v) s h = add_static a v s.bare
adds a Version (Opening head) s h = add_opening a head s.bare.closed
adds a Version Version s h = cc
adds a Version (Instruction i) s h = cc
adds a Version End s h = cc
adds a (Function sig) (Function next) s h = add_function a next s
adds a (Function sig) (Static v) s h = add_static a v s.bare
adds a (Function sig) (Opening head) s h = add_opening a head s.bare.closed
adds a (Function sig) Version s h = cc
adds a (Function sig) (Instruction i) s h = cc
adds a (Function sig) End s h = cc
adds a (Static v) (Static next) s h = add_static a next s
adds a (Static v) (Opening head) s h = add_opening a head s.closed
adds a (Static v) Version s h = cc
adds a (Static v) (Function sig) s h = cc
adds a (Static v) (Instruction i) s h = cc
adds a (Static v) End s h = cc
adds a (Opening head) (Instruction i) s h = add_instruction a i s
adds a (Opening head) Version s h = cc
adds a (Opening head) (Function sig) s h = cc
adds a (Opening head) (Static v) s h = cc
adds a (Opening head) (Opening next) s h = cc
adds a (Opening head) End s h = cc
adds a (Instruction i) (Instruction next) s h = add_instruction a next s
adds a (Instruction i) End s h = add_end a s
adds a (Instruction i) Version s h = cc
adds a (Instruction i) (Function sig) s h = cc
adds a (Instruction i) (Static v) s h = cc
adds a (Instruction i) (Opening head) s h = cc
adds a End (Opening head) s h = add_opening a head s
adds a End Version s h = cc
adds a End (Function sig) s h = cc
adds a End (Static v) s h = cc
adds a End (Instruction i) s h = cc
adds a End End s h = cc

last_more : {A : Type 0} (xs : List A) (x : A) → last (xs ++ x ∷ []) ≡ Some x
last_more [] x = refl
last_more (y ∷ []) x = refl
last_more (y ∷ z ∷ xs) x = last_more (z ∷ xs) x

makes_more : (before : List Line) (a : Assembly) (line : Line) → Makes before a → may_follow (last before) line ≡ true → Makes (before ++ line ∷ []) (added a line)
makes_more before a line m h =
    let d = adds a m.line line m.stage (ap (λ l. may_follow l line) (sym m.last_is) ∙ h) in
    record { line = line; last_is = last_more before line; stage = d.stage; whole = ap (λ l. l ++ line ∷ []) m.whole ∙ ap (λ l. Version ∷ l) d.whole }

-- All lines -----------------------------------------------------------------------------------------------------------

no_number : (t : Bool) (k : ℕ) → (if t then None else Some k) ≡ None → t ≡ true
no_number true k h = refl
no_number false k h = cc

kept : (t : Bool) (x : Option ℕ) (k : ℕ) → (if t then x else Some k) ≡ None → (t ≡ true) × (x ≡ None)
kept true x k h = (refl, h)
kept false x k h = cc

all_made : (before after : List Line) (a : Assembly) → Makes before a → first_broken before after ≡ None → Makes (before ++ after) (added_all a after) × (is_whole (before ++ after) ≡ true)
all_made before [] a m h =
    subst (λ lines. Makes lines a × (is_whole lines ≡ true)) (sym (append-nil before)) (m, no_number (is_whole before) (suc (length before)) h)
all_made before (line ∷ after) a m h =
    let k = kept (keeps before line after) (first_broken (before ++ line ∷ []) after) (suc (length before)) h in
    let f = and_true (may_follow (last before) line) (may_say before line after) k.0 in
    subst (λ lines. Makes lines (added_all (added a line) after) × (is_whole lines ≡ true)) (append_assoc before (line ∷ []) after)
    (all_made (before ++ line ∷ []) after (added a line) (makes_more before a line m f.0) k.1)

ended : (line : Line) (a : Assembly) → is_end (Some line) ≡ true → Stage line a → a.head ≡ None
ended Version a h s = cc
ended (Function sig) a h s = cc
ended (Static v) a h s = cc
ended (Opening head) a h s = cc
ended (Instruction i) a h s = cc
ended End a h s = s.no_head

whole_made : (lines : List Line) (a : Assembly) → Makes lines a → is_whole lines ≡ true → forms_of (program_of a) ≡ lines
whole_made lines a m w =
    let e = (and_true (is_end (last lines)) (is_start (last (heads_in lines))) w).0 in
    let h = ended m.line a (ap is_end (sym m.last_is) ∙ e) m.stage in
    sym
    (m.whole ∙ ap (λ head. Version ∷ so_far a.functions a.statics a.bodies head a.code) h
    ∙ ap (λ l. Version ∷ (map Function a.functions ++ (map Static a.statics ++ l))) (append-nil (flat_map forms_of_body a.bodies)))

-- the program that lines make has these lines, if they keep the rules and none is missing
pub program_made : (lines : List Line) → first_misshapen lines ≡ None → forms_of (program_of (added_all none_added lines)) ≡ lines
program_made [] h = cc
program_made (Version ∷ lines) h =
    let k = kept (keeps [] Version lines) (first_broken (Version ∷ []) lines) 1 h in
    let m = all_made (Version ∷ []) lines none_added
    (record {
      line = Version;
      last_is = refl;
      stage = record { no_statics = refl; bare = record { no_bodies = refl; closed = record { no_head = refl; no_code = refl } } };
      whole = refl;
    }) k.1 in
    whole_made (Version ∷ lines) (added_all none_added lines) m.0 m.1
program_made (Function sig ∷ lines) h = cc
program_made (Static v ∷ lines) h = cc
program_made (Opening head ∷ lines) h = cc
program_made (Instruction i ∷ lines) h = cc
program_made (End ∷ lines) h = cc

pub added_more : (a : Assembly) (lines : List Line) (line : Line) → added_all a (lines ++ line ∷ []) ≡ added (added_all a lines) line
added_more a [] line = refl
added_more a (first ∷ lines) line = added_more (added a first) lines line

-- the program that the lines of a text make is the text's
pub text_made : (bytes : List ℕ) (p : GotoProgram) (lines : List Line) → AreLines bytes lines → first_misshapen lines ≡ None → p ≡ program_of (added_all none_added lines) → IsGotoText bytes p
text_made bytes p lines l h e =
    let forms : forms_of p ≡ lines = ap forms_of e ∙ program_made lines h in
    record {
      spelt = l.text ∙ ap (flat_map form_bytes) (sym forms) ∙ sym (forms_text p);
      formed = subst (AllByRecursion IsForm) (sym forms) l.formed;
      shaped = ap first_misshapen forms ∙ h;
    }
