-- Lines that keep the rules, read one by one.
use Rattle.std.proofs.Common.{◌≡◌, ℕ, suc, ◌+◌, ◌≤◌, ◌<◌, Bool, true, false, ◌&&◌, List, [], ◌∷◌, ◌++◌, length, Option, None, Some, refl, sym, ap, subst, ◌∙◌, arith, append-nil, length-append}
use Rattle.std.specs.Prelude.{map, flat_map, not, nat_lt, ◌||◌, if◌then◌else◌}
use Rattle.std.specs.List.{list_any}
use Rattle.std.proofs.lemmas.Grind.{flat_map-append}
use Rattle.dc_text.specs.Words.{same}
use Rattle.dc_goto.specs.Lines.{BodyHead, Line, Version, Function, Static, Opening, Instruction, End, head_of, forms_of_body}
use Rattle.dc_goto.specs.Program.{Instr, Sig, StaticVar, Body}
use Rattle.dc_goto.specs.Shape.{functions_in, function_in, names_in, name_in, heads_in, head_in, last, first, may_follow, names_limit, may_name, is_size, may_open, may_act_in, code_around, leaves, goes_on, may_say, keeps, is_end, is_start, first_broken}
use Rattle.dc_goto.proofs.Digits.{both_true}
use Rattle.dc_instrument.specs.Lowering.{int_static}
use Rattle.dc_instrument.specs.Writable.{AreOther}
use Rattle.dc_instrument.proofs.Written.Code.{AllAct, EndsLeaving}
use Rattle.dc_instrument.proofs.Written.Terms.{below}

-- What the rules ask of the lines before a line ---------------------------------------------------------------------

pub record Seen : Type 0 where
  pub functions : List Sig
  pub names : List (List ℕ)
  pub head : Option BodyHead
  pub line : Option Line

abbrev pub seen : List Line → Seen
seen lines = record { functions = functions_in lines; names = names_in lines; head = last (heads_in lines); line = last lines }

-- one line more
abbrev pub more : Seen → Line → Seen
more s Version = record { functions = s.functions; names = s.names; head = s.head; line = Some Version }
more s (Function sig) = record { functions = s.functions ++ sig ∷ []; names = s.names ++ sig.name ∷ []; head = s.head; line = Some (Function sig) }
more s (Static v) = record { functions = s.functions; names = s.names ++ v.name ∷ []; head = s.head; line = Some (Static v) }
more s (Opening head) = record { functions = s.functions; names = s.names; head = Some head; line = Some (Opening head) }
more s (Instruction i) = record { functions = s.functions; names = s.names; head = s.head; line = Some (Instruction i) }
more s End = record { functions = s.functions; names = s.names; head = s.head; line = Some End }

-- in a body with so many instructions
abbrev says : Seen → ℕ → Line → Option Line → Bool
says s count Version next = true
says s count (Function sig) next = may_name s.names sig.name
says s count (Static v) next = may_name s.names v.name && is_size v.size
says s count (Opening head) next = may_open s.functions s.head head
says s count (Instruction i) next = may_act_in s.functions (length s.names) s.head count i && (leaves i || goes_on next)
says s count End next = true

-- the lines keep the rules behind what was seen, however many instructions their bodies have, and none is missing
abbrev pub Kept : Seen → List Line → Type 0
Kept s [] = (is_end s.line && is_start s.head) ≡ true
Kept s (line ∷ lines) = (may_follow s.line line ≡ true) × ((count : ℕ) → says s count line (first lines) ≡ true) × Kept (more s line) lines

last-push : {A : Type 0} (xs : List A) (x : A) → last (xs ++ x ∷ []) ≡ Some x
last-push [] x = refl
last-push (y ∷ []) x = refl
last-push (y ∷ z ∷ xs) x = last-push (z ∷ xs) x

pushed : {A : Type 0} (f : Line → List A) (lines : List Line) (line : Line) → flat_map f (lines ++ line ∷ []) ≡ flat_map f lines ++ f line
pushed f lines line = flat_map-append f lines (line ∷ []) ∙ ap (λ l. flat_map f lines ++ l) (append-nil (f line))

-- nothing of the kind in the line
unchanged : {A : Type 0} (f : Line → List A) (lines : List Line) (line : Line) → f line ≡ [] → flat_map f (lines ++ line ∷ []) ≡ flat_map f lines
unchanged f lines line e = pushed f lines line ∙ ap (λ l. flat_map f lines ++ l) e ∙ append-nil (flat_map f lines)

made : (s t : Seen) → s.functions ≡ t.functions → s.names ≡ t.names → s.head ≡ t.head → s.line ≡ t.line → s ≡ t
made s t a b c d =
    let e : s ≡ with_line s.functions s.names s.head t.line = ap (λ l. with_line s.functions s.names s.head l) d in
    e ∙ ap (λ h. with_line s.functions s.names h t.line) c ∙ ap (λ n. with_line s.functions n t.head t.line) b ∙ ap (λ f. with_line f t.names t.head t.line) a
  where
    with_line : List Sig → List (List ℕ) → Option BodyHead → Option Line → Seen
    with_line functions names head line = record { functions = functions; names = names; head = head; line = line }

same_head : (lines : List Line) (line : Line) → head_in line ≡ [] → last (heads_in (lines ++ line ∷ [])) ≡ last (heads_in lines)
same_head lines line e = ap last (unchanged head_in lines line e)

seen-more : (lines : List Line) (line : Line) → seen (lines ++ line ∷ []) ≡ more (seen lines) line
seen-more lines Version =
    made (seen (lines ++ Version ∷ [])) (more (seen lines) Version) (unchanged function_in lines Version refl) (unchanged name_in lines Version refl) (same_head lines Version refl) (last-push lines Version)
seen-more lines (Function sig) =
    made (seen (lines ++ Function sig ∷ [])) (more (seen lines) (Function sig)) (pushed function_in lines (Function sig)) (pushed name_in lines (Function sig)) (same_head lines (Function sig) refl)
    (last-push lines (Function sig))
seen-more lines (Static v) =
    made (seen (lines ++ Static v ∷ [])) (more (seen lines) (Static v)) (unchanged function_in lines (Static v) refl) (pushed name_in lines (Static v)) (same_head lines (Static v) refl) (last-push lines (Static v))
seen-more lines (Opening head) =
    made (seen (lines ++ Opening head ∷ [])) (more (seen lines) (Opening head)) (unchanged function_in lines (Opening head) refl) (unchanged name_in lines (Opening head) refl)
    (ap last (pushed head_in lines (Opening head)) ∙ last-push (heads_in lines) head) (last-push lines (Opening head))
seen-more lines (Instruction i) =
    made (seen (lines ++ Instruction i ∷ [])) (more (seen lines) (Instruction i)) (unchanged function_in lines (Instruction i) refl) (unchanged name_in lines (Instruction i) refl)
    (same_head lines (Instruction i) refl) (last-push lines (Instruction i))
seen-more lines End =
    made (seen (lines ++ End ∷ [])) (more (seen lines) End) (unchanged function_in lines End refl) (unchanged name_in lines End refl) (same_head lines End refl) (last-push lines End)

says_it : (before : List Line) (line : Line) (after : List Line) → may_say before line after ≡ says (seen before) (code_around before (line ∷ after)) line (first after)
says_it before Version after = refl
says_it before (Function sig) after = refl
says_it before (Static v) after = refl
says_it before (Opening head) after = refl
says_it before (Instruction i) after = refl
says_it before End after = refl

-- of lines that keep the rules none breaks one
pub none_broken : (before after : List Line) → Kept (seen before) after → first_broken before after ≡ None
none_broken before [] k = ap (λ b. if b then None else Some (suc (length before))) k
none_broken before (line ∷ after) k =
    let keeps_it : keeps before line after ≡ true = both_true (may_follow (last before) line) (may_say before line after) k.0 (says_it before line after ∙ k.1 (code_around before (line ∷ after))) in
    ap (λ b. if b then first_broken (before ++ line ∷ []) after else Some (suc (length before))) keeps_it
    ∙ none_broken (before ++ line ∷ []) after (subst (λ s. Kept s after) (sym (seen-more before line)) k.2)

-- Parts of texts ----------------------------------------------------------------------------------------------------

abbrev at_line : List Sig → List (List ℕ) → Option BodyHead → Line → Seen
at_line functions names head line = record { functions = functions; names = names; head = head; line = Some line }

-- a variable may stand behind this line, or the first body
abbrev pub before_static : Line → Bool
before_static Version = false
before_static (Function sig) = true
before_static (Static v) = true
before_static (Opening head) = false
before_static (Instruction i) = false
before_static End = false

static_follows : (line : Line) (v : StaticVar) → before_static line ≡ true → may_follow (Some line) (Static v) ≡ true
static_follows Version v h = cc
static_follows (Function sig) v h = refl
static_follows (Static w) v h = refl
static_follows (Opening head) v h = cc
static_follows (Instruction i) v h = cc
static_follows End v h = cc

pub body_follows : (line : Line) (head : BodyHead) → before_static line ≡ true → may_follow (Some line) (Opening head) ≡ true
body_follows Version head h = cc
body_follows (Function sig) head h = refl
body_follows (Static w) head h = refl
body_follows (Opening other) head h = cc
body_follows (Instruction i) head h = cc
body_follows End head h = cc

named : (names : List (List ℕ)) (name : List ℕ) → list_any (same name) names ≡ false → length names < 32767 → may_name names name ≡ true
unfolding names_limit
named names name e h = both_true (not (list_any (same name) names)) (nat_lt (length names) 32767) (ap not e) (below (length names) 32767 h)

-- the variables' lines
pub statics_kept : (functions : List Sig) (names : List (List ℕ)) (line : Line) (statics : List (List ℕ)) (n : ℕ) (rest : List Line)
    → before_static line ≡ true → AreOther names statics → length names + length statics ≡ n → n ≤ 32767
    → ((names : List (List ℕ)) (line : Line) → length names ≡ n → before_static line ≡ true → Kept (at_line functions names None line) rest)
    → Kept (at_line functions names None line) (map Static (map int_static statics) ++ rest)
statics_kept functions names line [] n rest b other e few go = go names line (omega arith) b
statics_kept functions names line (name ∷ statics) n rest b other e few go =
    let more_names = length-append names (name ∷ []) in (
      static_follows line (int_static name) b,
      λ count. both_true (may_name names name) true (named names name other.0 (omega arith)) refl,
      statics_kept functions (names ++ name ∷ []) (Static (int_static name)) statics n rest refl other.1 (omega arith) few go,
    )

-- an instruction may stand behind this line
abbrev before_instruction : Line → Bool
before_instruction Version = false
before_instruction (Function sig) = false
before_instruction (Static v) = false
before_instruction (Opening head) = true
before_instruction (Instruction i) = true
before_instruction End = false

instruction_follows : (line : Line) (i : Instr) → before_instruction line ≡ true → may_follow (Some line) (Instruction i) ≡ true
instruction_follows Version i h = cc
instruction_follows (Function sig) i h = cc
instruction_follows (Static w) i h = cc
instruction_follows (Opening head) i h = refl
instruction_follows (Instruction j) i h = refl
instruction_follows End i h = cc

either : (a : Bool) → (a || true) ≡ true
either true = refl
either false = refl

-- the instructions of a body, and its end
pub code_kept : (functions : List Sig) (names : List (List ℕ)) (head : BodyHead) (line : Line) (code : List Instr) (rest : List Line)
    → before_instruction line ≡ true → AllAct functions (length names) head code → EndsLeaving code → Kept (at_line functions names (Some head) End) rest
    → Kept (at_line functions names (Some head) line) ((map Instruction code ++ End ∷ []) ++ rest)
code_kept functions names head line [] rest b acts ends go = absurd ends
code_kept functions names head line (i ∷ []) rest b acts ends go = (
  instruction_follows line i b,
  λ count. both_true (may_act_in functions (length names) (Some head) count i) (leaves i || false) (acts.0.acts count) (rw ends refl),
  (refl, (λ count. refl), go),
)
code_kept functions names head line (i ∷ next ∷ code) rest b acts ends go = (
  instruction_follows line i b,
  λ count. both_true (may_act_in functions (length names) (Some head) count i) (leaves i || true) (acts.0.acts count) (either (leaves i)),
  code_kept functions names head (Instruction i) (next ∷ code) rest refl acts.1 ends go,
)

-- a body
pub body_kept : (functions : List Sig) (names : List (List ℕ)) (last_head : Option BodyHead) (line : Line) (body : Body) (rest : List Line)
    → may_follow (Some line) (Opening (head_of body)) ≡ true → may_open functions last_head (head_of body) ≡ true
    → AllAct functions (length names) (head_of body) body.code → EndsLeaving body.code → Kept (at_line functions names (Some (head_of body)) End) rest
    → Kept (at_line functions names last_head line) (forms_of_body body ++ rest)
body_kept functions names last_head line body rest follows opens acts ends go =
    (follows, (λ count. opens), code_kept functions names (head_of body) (Opening (head_of body)) body.code rest refl acts ends go)
