-- How the lines of a goto text are read from the front: what is read there, and the bytes behind it.
use Rattle.std.specs.Prelude.{ℕ, zero, suc, ◌+◌, ◌-◌, ◌*◌, ◌^◌, ℤ, pos, negsuc, Bool, true, false, ◌&&◌, ◌||◌, not, ◌==◌, nat_le, if◌then◌else◌, List, [], ◌∷◌, ◌++◌, length, take, drop, codes, Option, None, Some}
use Rattle.std.specs.Option.{option_map}
use Rattle.dc_num.specs.declared.operators.BinOp.{BinOp}
use Rattle.dc_num.specs.declared.operators.BinOp.TheVariants.{Add, Sub, Mul, Div, Rem, Shl, Shr, And, Or, Xor, Lt, Le, Gt, Ge, Eq, Ne}
use Rattle.dc_num.specs.declared.kind.NumKind.{NumKind}
use Rattle.dc_num.specs.declared.kind.NumKind.TheVariants.{Bool as Truth, S8, U8, S16, U16, S32, U32, S64, U64, Ptr}
use Rattle.dc_num.specs.declared.operators.UnOp.TheVariants.{Neg, Not}
use Rattle.dc_core.specs.declared.operators.LazyOp.TheVariants.{Both, Either}
use Rattle.dc_core.specs.declared.operators.Property.TheVariants.{Start, Size, Offset, Freeable, Freed}
use Rattle.dc_core.specs.declared.operators.RangeTest.TheVariants.{Accessible, Fresh, New}
use Rattle.dc_core.specs.declared.operators.Quantifier.TheVariants.{ForAll, Exists}
use Rattle.dc_core.specs.Term.{Term, Constant, Register, Variable, Object, Load, Convert, Unary, Binary, Lazy, Choice, Moved, Distance, Asked, Tested, Between, Quantified}
use Rattle.dc_text.specs.Words.{same, is_digit, is_word}
use Rattle.dc_goto.specs.Program.{Instr, Set, Keep, Draw, Store, Init, Copy, Fill, Probe, Local, Kill, Alloc, Free, Trap, Goto, IfNot, Call, CallThrough, Return, Assert, Check, Assume, Require, Push, Pop, Range, Target, Covers, MayFree, Inside, Seen, Havoc, Frees, Statics, OutsideObjects, NewObjects}
use Rattle.dc_goto.specs.declared.operands.Bytes.{Bytes}
use Rattle.dc_goto.specs.declared.operands.Bytes.TheVariants.{Zero, Chosen}
use Rattle.dc_goto.specs.declared.operands.Sharing.{Sharing}
use Rattle.dc_goto.specs.declared.operands.Sharing.TheVariants.{Any, Apart}
use Rattle.dc_goto.specs.Lines.{Line, Version, Function, Static, Opening, Instruction, End, height_limit, is_check_name, is_body_name}

abbrev pub Reading : Type 0 → Type 0
Reading A = Option (A × List ℕ)

abbrev pub got : {A : Type 0} → A → List ℕ → Reading A
got a bytes = Some (a, bytes)

-- what is read behind another reading
abbrev pub then_read : {A B : Type 0} → Reading A → (A → List ℕ → Reading B) → Reading B
then_read None f = None
then_read (Some x) f = f x.0 x.1

abbrev pub begins_with : ℕ → List ℕ → Bool
begins_with b [] = false
begins_with b (c ∷ bytes) = c == b

-- what stands behind the first byte
abbrev pub tail_of : List ℕ → List ℕ
tail_of [] = []
tail_of (b ∷ bytes) = bytes

-- what is read behind a byte
abbrev pub behind_byte : {A : Type 0} → ℕ → List ℕ → (List ℕ → Reading A) → Reading A
behind_byte b bytes f = if begins_with b bytes then f (tail_of bytes) else None

-- what is read behind a space
abbrev pub spaced_read : {A : Type 0} → (List ℕ → Reading A) → List ℕ → Reading A
spaced_read read bytes = behind_byte 32 bytes read

-- Words -----------------------------------------------------------------------------------------------------------

-- a word ends before a space, a closing parenthesis and a line's end
abbrev pub ends_word : ℕ → Bool
ends_word b = b == 32 || b == 41 || b == 10

-- how many bytes the word in front has
abbrev pub word_len : List ℕ → ℕ
word_len [] = 0
word_len (b ∷ bytes) = if ends_word b then 0 else suc (word_len bytes)

abbrev pub front_word : List ℕ → List ℕ
front_word bytes = take (word_len bytes) bytes

abbrev pub behind_word : List ℕ → List ℕ
behind_word bytes = drop (word_len bytes) bytes

abbrev pub given : {A : Type 0} → Option A → List ℕ → Reading A
given None bytes = None
given (Some a) bytes = got a bytes

-- the word in front, by what it means
abbrev pub read_word : {A : Type 0} → (List ℕ → Option A) → List ℕ → Reading A
read_word meaning bytes = given (meaning (front_word bytes)) (behind_word bytes)

-- Numbers ---------------------------------------------------------------------------------------------------------

-- not empty, and no zero in front of other digits
abbrev pub is_plain : List ℕ → Bool
is_plain [] = false
is_plain (b ∷ []) = true
is_plain (b ∷ next ∷ bytes) = not (b == 48)

-- the number of these digits, behind those of another number, up to a limit
abbrev pub number_from : ℕ → ℕ → List ℕ → Option ℕ
number_from limit n [] = Some n
number_from limit n (b ∷ bytes) =
    if is_digit b && nat_le (n * 10 + (b - 48)) limit then number_from limit (n * 10 + (b - 48)) bytes else None

-- the number of a decimal, up to a limit
abbrev pub decimal_of : ℕ → List ℕ → Option ℕ
decimal_of limit bytes = if is_plain bytes then number_from limit 0 bytes else None

abbrev pub number_of : List ℕ → Option ℕ
number_of bytes = decimal_of (2 ^ 64 - 1) bytes

abbrev pub negative : Option ℕ → Option ℤ
negative None = None
negative (Some n) = if n == 0 then None else Some (negsuc (n - 1))

abbrev pub constant_of : List ℕ → Option ℤ
constant_of [] = None
constant_of (b ∷ bytes) =
    if b == 45 then negative (decimal_of (2 ^ 127) bytes) else option_map pos (decimal_of (2 ^ 127 - 1) (b ∷ bytes))

-- What words mean -------------------------------------------------------------------------------------------------

-- the word itself, if it passes a test
abbrev pub word_that : (List ℕ → Bool) → List ℕ → Option (List ℕ)
word_that test word = if test word then Some word else None

-- exactly this word
abbrev pub literal : List ℕ → List ℕ → Option (Unit {0})
literal wanted word = if same word wanted then Some tt else None

abbrev pub kind_of : List ℕ → Option NumKind
kind_of word =
    if same word (codes "bool") then Some Truth
    else if same word (codes "s8") then Some S8
    else if same word (codes "u8") then Some U8
    else if same word (codes "s16") then Some S16
    else if same word (codes "u16") then Some U16
    else if same word (codes "s32") then Some S32
    else if same word (codes "u32") then Some U32
    else if same word (codes "s64") then Some S64
    else if same word (codes "u64") then Some U64
    else if same word (codes "ptr") then Some Ptr
    else None

abbrev pub result_of : List ℕ → Option (Option NumKind)
result_of word = if same word (codes "void") then Some None else option_map Some (kind_of word)

abbrev pub operator_of : List ℕ → Option BinOp
operator_of word =
    if same word (codes "add") then Some Add
    else if same word (codes "sub") then Some Sub
    else if same word (codes "mul") then Some Mul
    else if same word (codes "div") then Some Div
    else if same word (codes "rem") then Some Rem
    else if same word (codes "shl") then Some Shl
    else if same word (codes "shr") then Some Shr
    else if same word (codes "and") then Some And
    else if same word (codes "or") then Some Or
    else if same word (codes "xor") then Some Xor
    else if same word (codes "lt") then Some Lt
    else if same word (codes "le") then Some Le
    else if same word (codes "gt") then Some Gt
    else if same word (codes "ge") then Some Ge
    else if same word (codes "eq") then Some Eq
    else if same word (codes "ne") then Some Ne
    else None

abbrev pub bytes_of : List ℕ → Option Bytes
bytes_of word =
    if same word (codes "zero") then Some Zero
    else if same word (codes "chosen") then Some Chosen
    else None

abbrev pub sharing_of : List ℕ → Option Sharing
sharing_of word =
    if same word (codes "any") then Some Any
    else if same word (codes "apart") then Some Apart
    else None

-- a register that may be left away
abbrev pub register_of : List ℕ → Option (Option ℕ)
register_of word = if same word (codes "-") then Some None else option_map Some (number_of word)

-- One reading behind another, each behind a space ----------------------------------------------------------------

abbrev pub read_one : {A B : Type 0} → (List ℕ → Reading A) → (A → B) → List ℕ → Reading B
read_one first f bytes = then_read (spaced_read first bytes) (λ a. got (f a))

abbrev pub read_two : {A B C : Type 0} → (List ℕ → Reading A) → (List ℕ → Reading B) → (A → B → C) → List ℕ → Reading C
read_two first second f bytes = then_read (spaced_read first bytes) (λ a. read_one second (f a))

abbrev pub read_three : {A B C D : Type 0} → (List ℕ → Reading A) → (List ℕ → Reading B) → (List ℕ → Reading C) → (A → B → C → D) → List ℕ → Reading D
read_three first second third f bytes = then_read (spaced_read first bytes) (λ a. read_two second third (f a))

abbrev pub read_four : {A B C D E : Type 0} → (List ℕ → Reading A) → (List ℕ → Reading B) → (List ℕ → Reading C) → (List ℕ → Reading D) → (A → B → C → D → E) → List ℕ → Reading E
read_four first second third fourth f bytes = then_read (spaced_read first bytes) (λ a. read_three second third fourth (f a))

abbrev pub read_five : {A B C D E F : Type 0} → (List ℕ → Reading A) → (List ℕ → Reading B) → (List ℕ → Reading C) → (List ℕ → Reading D) → (List ℕ → Reading E) → (A → B → C → D → E → F) → List ℕ → Reading F
read_five first second third fourth fifth f bytes = then_read (spaced_read first bytes) (λ a. read_four second third fourth fifth (f a))

-- as many as stand there, at most n, behind others
unfoldable pub read_many : {A : Type 0} → (List ℕ → Reading A) → ℕ → List A → List ℕ → Reading (List A)
read_many read zero items bytes = got items bytes
read_many read (suc n) items bytes =
    if begins_with 32 bytes then then_read (spaced_read read bytes) (λ a. read_many read n (items ++ a ∷ []))
    else got items bytes

abbrev pub read_all : {A B : Type 0} → (List ℕ → Reading A) → (List A → B) → List ℕ → Reading B
read_all read f bytes = then_read (read_many read (length bytes) [] bytes) (λ items. got (f items))

-- two, and then as many as stand there
abbrev pub read_list : {A B C D : Type 0} → (List ℕ → Reading A) → (List ℕ → Reading B) → (List ℕ → Reading C) → (A → B → List C → D) → List ℕ → Reading D
read_list first second third f bytes =
    then_read (spaced_read first bytes) (λ a bytes. then_read (spaced_read second bytes) (λ b. read_all third (f a b)))

abbrev pub read_number : List ℕ → Reading ℕ
read_number bytes = read_word number_of bytes

abbrev pub read_kind : List ℕ → Reading NumKind
read_kind bytes = read_word kind_of bytes

abbrev pub read_name : (List ℕ → Bool) → List ℕ → Reading (List ℕ)
read_name test bytes = read_word (word_that test) bytes

-- Expressions -----------------------------------------------------------------------------------------------------

-- behind the kind's word
abbrev pub read_constant : Option NumKind → List ℕ → Reading Term
read_constant None bytes = None
read_constant (Some kind) bytes = read_one (read_word constant_of) (Constant kind) bytes

-- an expression without parts, behind its first word
abbrev pub read_leaf : List ℕ → List ℕ → Reading Term
read_leaf word bytes =
    if same word (codes "reg") then read_one read_number Register bytes
    else if same word (codes "var") then read_one read_number Variable bytes
    else if same word (codes "obj") then read_one read_number Object bytes
    else read_constant (kind_of word) bytes

-- of pointers and their objects, behind the first word
abbrev pub read_placed : (List ℕ → Reading Term) → List ℕ → List ℕ → Reading Term
read_placed again word bytes =
    if same word (codes "at") then read_three read_number again again Moved bytes
    else if same word (codes "diff") then read_three read_number again again Distance bytes
    else if same word (codes "start") then read_one again (Asked Start) bytes
    else if same word (codes "size") then read_one again (Asked Size) bytes
    else if same word (codes "offset") then read_one again (Asked Offset) bytes
    else if same word (codes "freeable") then read_one again (Asked Freeable) bytes
    else if same word (codes "freed") then read_one again (Asked Freed) bytes
    else read_leaf word bytes

-- predicates and quantifiers, behind the first word
abbrev pub read_claimed : (List ℕ → Reading Term) → List ℕ → List ℕ → Reading Term
read_claimed again word bytes =
    if same word (codes "ok") then read_two again again (Tested Accessible) bytes
    else if same word (codes "fresh") then read_two again again (Tested Fresh) bytes
    else if same word (codes "new") then read_two again again (Tested New) bytes
    else if same word (codes "inrange") then read_three again again again Between bytes
    else if same word (codes "forall") then read_five read_number read_kind again again again (Quantified ForAll) bytes
    else if same word (codes "exists") then read_five read_number read_kind again again again (Quantified Exists) bytes
    else read_placed again word bytes

abbrev pub read_operated : (List ℕ → Reading Term) → Option BinOp → List ℕ → List ℕ → Reading Term
read_operated again None word bytes = read_claimed again word bytes
read_operated again (Some op) word bytes = read_three read_kind again again (Binary op) bytes

-- behind the first word, with a reader of the parts
abbrev pub read_opened : (List ℕ → Reading Term) → List ℕ → List ℕ → Reading Term
read_opened again word bytes =
    if same word (codes "load") then read_two read_kind again Load bytes
    else if same word (codes "conv") then read_three read_kind read_kind again Convert bytes
    else if same word (codes "neg") then read_two read_kind again (Unary Neg) bytes
    else if same word (codes "not") then read_two read_kind again (Unary Not) bytes
    else if same word (codes "and2") then read_two again again (Lazy Both) bytes
    else if same word (codes "or2") then read_two again again (Lazy Either) bytes
    else if same word (codes "if") then read_three again again again Choice bytes
    else read_operated again (operator_of word) word bytes

abbrev pub closed : {A : Type 0} → Reading A → Reading A
closed reading = then_read reading (λ t bytes. behind_byte 41 bytes (got t))

abbrev pub read_parenthesised : (List ℕ → Reading Term) → List ℕ → Reading Term
read_parenthesised again bytes =
    behind_byte 40 bytes (λ bytes. closed (read_opened again (front_word bytes) (behind_word bytes)))

-- an expression of at most that height
unfoldable pub read_term : ℕ → List ℕ → Reading Term
read_term zero bytes = None
read_term (suc n) bytes = read_parenthesised (read_term n) bytes

-- an expression that may stand in a line
abbrev pub read_low : List ℕ → Reading Term
read_low bytes = read_term height_limit bytes

-- Instructions, behind their first words ---------------------------------------------------------------------------

-- the signature of a call through a pointer: the kind of the result, if there is one, and those of the parameters
pub record Signature : Type 0 where
  pub result : Option NumKind
  pub params : List NumKind

abbrev pub signature_of : Option NumKind → List NumKind → Signature
signature_of result params = record { result = result; params = params }

-- behind `(sig`
abbrev pub read_kinds : List ℕ → Reading Signature
read_kinds bytes = then_read (spaced_read (read_word result_of) bytes) (λ result. read_all read_kind (signature_of result))

abbrev pub read_signature : List ℕ → Reading Signature
read_signature bytes =
    behind_byte 40 bytes (λ bytes. closed (then_read (read_word (literal (codes "sig")) bytes) (λ sig. read_kinds)))

-- behind the word of a call through a pointer
abbrev pub read_call_through : List ℕ → Reading Instr
read_call_through bytes =
    then_read (spaced_read (read_word register_of) bytes) (λ r bytes.
    then_read (spaced_read read_low bytes) (λ e bytes.
    then_read (spaced_read read_signature bytes) (λ sig. read_all read_low (CallThrough r e sig.result sig.params))))

abbrev pub read_return : List ℕ → Reading Instr
read_return bytes =
    if begins_with 32 bytes then read_one read_low (λ e. Return (Some e)) bytes else got (Return None) bytes

-- outside objects have four sorts, new ones three
abbrev pub are_outside : List ℕ → Option Bool
are_outside word =
    if same word (codes "4") then Some true
    else if same word (codes "3") then Some false
    else None

abbrev pub drawn_objects : Bool → Instr
drawn_objects true = OutsideObjects
drawn_objects false = NewObjects

abbrev pub read_objects : List ℕ → Reading Instr
read_objects bytes = read_one (read_word are_outside) drawn_objects bytes

abbrev pub read_check_name : List ℕ → Reading (List ℕ)
read_check_name bytes = read_name is_check_name bytes

-- write sets
abbrev pub read_set_word : List ℕ → List ℕ → Reading Instr
read_set_word word bytes =
    if same word (codes "push") then got Push bytes
    else if same word (codes "pop") then got Pop bytes
    else if same word (codes "range") then read_four read_number read_low read_low read_low Range bytes
    else if same word (codes "target") then read_three read_number read_low read_low Target bytes
    else if same word (codes "covers") then read_three read_check_name read_low read_low Covers bytes
    else if same word (codes "mayfree") then read_two read_check_name read_low MayFree bytes
    else if same word (codes "inside") then read_two read_check_name read_number Inside bytes
    else if same word (codes "seen") then got Seen bytes
    else if same word (codes "havoc") then got Havoc bytes
    else if same word (codes "frees") then got Frees bytes
    else None

-- tests and the outside
abbrev pub read_test : List ℕ → List ℕ → Reading Instr
read_test word bytes =
    if same word (codes "assert") then read_two read_check_name read_low Assert bytes
    else if same word (codes "check") then read_two read_check_name read_low Check bytes
    else if same word (codes "assume") then read_one read_low Assume bytes
    else if same word (codes "require") then read_one read_low Require bytes
    else if same word (codes "statics") then got Statics bytes
    else if same word (codes "objects") then read_objects bytes
    else read_set_word word bytes

-- where the run goes on
abbrev pub read_control : List ℕ → List ℕ → Reading Instr
read_control word bytes =
    if same word (codes "trap") then got Trap bytes
    else if same word (codes "goto") then read_one read_number Goto bytes
    else if same word (codes "ifnot") then read_two read_low read_number IfNot bytes
    else if same word (codes "call") then read_list (read_word register_of) (read_name is_word) read_low Call bytes
    else if same word (codes "callp") then read_call_through bytes
    else if same word (codes "return") then read_return bytes
    else read_test word bytes

-- objects
abbrev pub read_object_word : List ℕ → List ℕ → Reading Instr
read_object_word word bytes =
    if same word (codes "local") then read_three read_number read_number (read_word bytes_of) Local bytes
    else if same word (codes "kill") then read_one read_number Kill bytes
    else if same word (codes "alloc") then read_four read_number read_low read_low (read_word bytes_of) Alloc bytes
    else if same word (codes "free") then read_one read_low Free bytes
    else read_control word bytes

-- registers and bytes, and all others
abbrev pub read_instr : List ℕ → List ℕ → Reading Instr
read_instr word bytes =
    if same word (codes "set") then read_two read_number read_low Set bytes
    else if same word (codes "keep") then read_two read_number read_low Keep bytes
    else if same word (codes "draw") then read_two read_number read_kind Draw bytes
    else if same word (codes "store") then read_three read_kind read_low read_low Store bytes
    else if same word (codes "init") then read_three read_kind read_low read_low Init bytes
    else if same word (codes "copy") then read_three read_low read_low read_low Copy bytes
    else if same word (codes "fill") then read_three read_low read_low read_low Fill bytes
    else if same word (codes "probe") then read_four (read_word sharing_of) read_low read_low read_low Probe bytes
    else read_object_word word bytes

-- Lines -----------------------------------------------------------------------------------------------------------

abbrev pub function_line : List ℕ → Option NumKind → List NumKind → Line
function_line name result params = Function (record { name = name; result = result; params = params })

abbrev pub static_line_of : List ℕ → ℕ → Line
static_line_of name size = Static (record { name = name; size = size })

abbrev pub opening_line : List ℕ → ℕ → ℕ → Line
opening_line name params regs = Opening (record { name = name; params = params; regs = regs })

-- behind the first word
abbrev pub read_form : List ℕ → List ℕ → Reading Line
read_form word bytes =
    if same word (codes "dcc") then read_one (read_word (literal (codes "1"))) (λ one. Version) bytes
    else if same word (codes "function") then read_list (read_name is_word) (read_word result_of) read_kind function_line bytes
    else if same word (codes "static") then read_two (read_name is_word) read_number static_line_of bytes
    else if same word (codes "body") then read_three (read_name is_body_name) read_number read_number opening_line bytes
    else if same word (codes "end") then got End bytes
    else then_read (read_instr word bytes) (λ i. got (Instruction i))

abbrev pub ended : Reading Line → Reading Line
ended reading = then_read reading (λ line bytes. behind_byte 10 bytes (got line))

-- a line form with its newline
abbrev pub read_line : List ℕ → Reading Line
read_line bytes = ended (read_form (front_word bytes) (behind_word bytes))
