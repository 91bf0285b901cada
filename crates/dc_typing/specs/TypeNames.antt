-- The types that specs and declarators give (C11 6.7.2, 6.7.3, 6.7.6, 6.7.7).
use Rattle.std.specs.Prelude.{ℕ, ℤ, pos, negsuc, ◌^◌, Bool, true, false, ◌&&◌, ◌||◌, not, ◌==◌, nat_le, nat_lt, List, [], ◌∷◌, ◌++◌, count_by, fold, Option, Some, None, is_some, Ok, Err, if◌then◌else◌}
use Rattle.std.specs.List.{list_any}
use Rattle.std.specs.Option.{option_and_then, option_to_list}
use Rattle.dc_text.specs.Reserved.{is_reserved}
use Rattle.dc_layout.specs.Types.{PlainType, Void, Num, Pointer, Array, Struct, Func, Const, PlainTypes, NoTypes, Types, Structs}
use Rattle.dc_num.specs.declared.kind.NumKind.{NumKind}
use Rattle.dc_num.specs.declared.kind.NumKind.TheVariants.{Bool as Truth, S8, U8, S16, U16, S32, U32, S64, U64}
use Rattle.dc_program.specs.declared.rule.Rule.TheVariants.{Undeclared, DeclaredTwice, NoType, Incomplete, NoConstant, TooLarge, ByValue, ReservedName}
use Rattle.dc_program.specs.Types.{number, int, bare, qualified, is_function, is_complete, is_within_limit}
use Rattle.dc_program.specs.WellFormed.{is_result, is_parameter}
use Rattle.dc_scope.specs.declared.space.Space.TheVariants.{Tag}
use Rattle.dc_scope.specs.Entities as entities
use Rattle.dc_scope.specs.Entities.{PlainEntity}
use Rattle.dc_scope.specs.Scopes.{Names, found}
use Rattle.dc_syntax.specs.declared.keyword.Keyword.{Keyword}
use Rattle.dc_syntax.specs.declared.keyword.Keyword.TheVariants as word
use Rattle.dc_syntax.specs.Tokens.{Place, keyword_number}
use Rattle.dc_syntax.specs.Trees.{Tree, LastSpec, Specs, SpecWord, SpecName, StructTag, EnumTag}
use Rattle.dc_typing.specs.declared.words.Words.{Words}
use Rattle.dc_typing.specs.Judged.{Judged, broken, ◌>>=◌, needs}
use Rattle.dc_typing.specs.Known.{Known, found_name, own_parameter, with_parameter}

-- Specs --------------------------------------------------------------------------------------------------------------

-- specs in their order
abbrev pub spec_list : Tree → List Tree
spec_list (LastSpec s) = s ∷ []
spec_list (Specs s m) = s ∷ spec_list m
spec_list _ = []

-- is it this keyword?
abbrev pub is_keyword : Keyword → Tree → Bool
is_keyword k (SpecWord l p) = keyword_number l == keyword_number k
is_keyword k _ = false

-- how often a keyword stands among specs
abbrev pub how_often : Keyword → List Tree → ℕ
how_often k specs = count_by (is_keyword k) specs

-- how often each word of types stands, and each of storage
abbrev pub words_of : List Tree → Words
words_of specs = record {
  voids = how_often word.Void specs;
  bools = how_often word.Boolean specs;
  chars = how_often word.Char specs;
  shorts = how_often word.Short specs;
  ints = how_often word.Int specs;
  longs = how_often word.Long specs;
  signeds = how_often word.Signed specs;
  unsigneds = how_often word.Unsigned specs;
  typedefs = how_often word.Typedef specs;
  externs = how_often word.Extern specs;
  statics = how_often word.Static specs;
  inlines = how_often word.Inline specs;
}

-- at most one of typedef, extern, static and inline; inline beside extern or static counts as one (C11 6.7.1 p2)
abbrev pub is_one_storage : Words → Bool
is_one_storage w =
    if w.typedefs == 0 then (w.externs == 0 && nat_le w.statics 1 || w.externs == 1 && w.statics == 0) && nat_le w.inlines 1
    else w.typedefs == 1 && w.externs == 0 && w.statics == 0 && w.inlines == 0

-- no word that makes a type by itself
abbrev pub has_no_size_word : Words → Bool
has_no_size_word w = w.voids == 0 && w.bools == 0 && w.chars == 0 && w.shorts == 0 && w.longs == 0

-- signed and unsigned stand once at most, and not both
abbrev pub is_one_sign : Words → Bool
is_one_sign w = w.unsigneds == 0 && nat_le w.signeds 1 || w.unsigneds == 1 && w.signeds == 0

abbrev pub has_no_sign : Words → Bool
has_no_sign w = w.signeds == 0 && w.unsigneds == 0

-- no word of a type
abbrev pub is_wordless : Words → Bool
is_wordless w = has_no_size_word w && w.ints == 0 && has_no_sign w

-- neither int nor a sign
abbrev pub is_bare : Words → Bool
is_bare w = w.ints == 0 && has_no_sign w

-- void alone, and _Bool alone
abbrev pub is_void_alone : Words → Bool
is_void_alone w = w.voids == 1 && w.bools == 0 && w.chars == 0 && w.shorts == 0 && w.longs == 0 && is_bare w

abbrev pub is_bool_alone : Words → Bool
is_bool_alone w = w.voids == 0 && w.bools == 1 && w.chars == 0 && w.shorts == 0 && w.longs == 0 && is_bare w

-- char, short and long, once or twice, each with its sign; int may stand beside the last two and beside a sign alone
abbrev pub is_char : Words → Bool
is_char w = w.voids == 0 && w.bools == 0 && w.chars == 1 && w.shorts == 0 && w.longs == 0 && w.ints == 0 && is_one_sign w

abbrev pub is_short : Words → Bool
is_short w = w.voids == 0 && w.bools == 0 && w.chars == 0 && w.shorts == 1 && w.longs == 0 && nat_le w.ints 1 && is_one_sign w

abbrev pub is_long : Words → Bool
is_long w = w.voids == 0 && w.bools == 0 && w.chars == 0 && w.shorts == 0 && (w.longs == 1 || w.longs == 2) && nat_le w.ints 1 && is_one_sign w

abbrev pub is_int : Words → Bool
is_int w = has_no_size_word w && nat_le w.ints 1 && is_one_sign w && not (is_wordless w)

-- signed unless `unsigned` stands there
abbrev pub with_sign : Words → NumKind → NumKind → PlainType
with_sign w signed unsigned = if w.unsigneds == 0 then number signed else number unsigned

-- the type that words make in any order (C11 6.7.2 p2)
abbrev pub word_type : Words → Option PlainType
word_type w =
    if is_void_alone w then Some Void
    else (if is_bool_alone w then Some (number Truth)
    else (if is_char w then Some (with_sign w S8 U8)
    else (if is_short w then Some (with_sign w S16 U16)
    else (if is_int w then Some (with_sign w S32 U32)
    else (if is_long w then Some (with_sign w S64 U64)
    else None)))))

-- 1: a typedef's name and a tag are declared
abbrev pub typedef_type : ℕ → Option PlainEntity → Judged (Option PlainType)
typedef_type site (Some (entities.Typedef t)) = Ok (Some t)
typedef_type site e = Err (broken Undeclared site)

abbrev pub struct_type : ℕ → Option PlainEntity → Judged (Option PlainType)
struct_type site (Some (entities.StructTag s)) = Ok (Some (Struct s))
struct_type site e = Err (broken Undeclared site)

-- an enum is an int
abbrev pub enum_type : ℕ → Option PlainEntity → Judged (Option PlainType)
enum_type site (Some entities.EnumTag) = Ok (Some int)
enum_type site e = Err (broken Undeclared site)

-- the type that a spec names, if it names one
abbrev pub spec_type : Known → Tree → Judged (Option PlainType)
spec_type k (SpecName n p) = typedef_type p.last (found_name k n)
spec_type k (StructTag n p) = struct_type p.last (found k.scopes Tag n)
spec_type k (EnumTag n p) = enum_type p.last (found k.scopes Tag n)
spec_type k _ = Ok None

-- all that specs name, in their order
abbrev pub named_types : Known → List Tree → Judged (List PlainType)
named_types k [] = Ok []
named_types k (s ∷ specs) = spec_type k s >>= λ t. named_types k specs >>= λ ts. Ok (option_to_list t ++ ts)

-- the one type of specs: that of the words, or the one that is named where there is no word
abbrev pub one_type : Words → List PlainType → Option PlainType
one_type w [] = word_type w
one_type w (t ∷ []) = if is_wordless w then Some t else None
one_type w (t ∷ u ∷ ts) = None

-- the last token of a spec, and of all of them
abbrev pub spec_site : Tree → ℕ
spec_site (SpecWord k p) = p.last
spec_site (SpecName n p) = p.last
spec_site (StructTag n p) = p.last
spec_site (EnumTag n p) = p.last
spec_site _ = 0

abbrev pub specs_site : List Tree → ℕ
specs_site specs = fold (λ site s. spec_site s) 0 specs

-- `const` among specs; of a function it counts for nothing (undefined by C11 6.7.3 p9)
abbrev pub const_if : Bool → PlainType → PlainType
const_if true t = if is_function t then t else qualified t
const_if false t = t

-- 4: the words are one type
abbrev pub with_const : ℕ → Bool → Option PlainType → Judged PlainType
with_const site has_const (Some t) = Ok (const_if has_const t)
with_const site has_const None = Err (broken NoType site)

-- the type that specs give; 4: there is at most one word of storage
abbrev pub base_type : Known → List Tree → Judged PlainType
base_type k specs =
    named_types k specs >>= λ ts.
    needs (specs_site specs) NoType (is_one_storage (words_of specs))
    (with_const (specs_site specs) (nat_lt 0 (how_often word.Const specs)) (one_type (words_of specs) ts))

-- Declarators --------------------------------------------------------------------------------------------------------

-- a pointer, const or not; an array of so many elements, 0 where no length is given; a function of these parameters
pub data Derivation : Type 0 where
  To : Bool → Derivation
  Of : ℕ → Derivation
  Taking : PlainTypes → Derivation

abbrev pub pointer_to : Bool → PlainType → PlainType
pointer_to true t = Const (Pointer t)
pointer_to false t = Pointer t

abbrev pub derived_by : Derivation → PlainType → PlainType
derived_by (To const) t = pointer_to const t
derived_by (Of n) t = Array t n
derived_by (Taking ts) t = Func t ts

-- the type that a declarator gives, of what stands nearest its name first (C11 6.7.6 p4)
abbrev pub derived : List Derivation → PlainType → PlainType
derived [] t = t
derived (d ∷ ds) t = derived_by d (derived ds t)

-- `const` behind a `*`
abbrev pub has_const : List Keyword → Bool
has_const words = list_any (λ k. keyword_number k == keyword_number word.Const) words

-- 6: a length is an integer constant above 0; there is none of 2^64 or more
abbrev pub natural_length : ℤ → Option ℕ
natural_length (pos n) = if nat_lt 0 n && nat_lt n (2 ^ 64) then Some n else None
natural_length (negsuc n) = None

abbrev pub length_at : ℕ → Option ℕ → Judged ℕ
length_at site None = Err (broken NoConstant site)
length_at site (Some n) = Ok n

abbrev pub length_of : ℕ → Option ℤ → Judged ℕ
length_of site v = length_at site (option_and_then natural_length v)

-- each array has elements of a size (C11 6.7.6.2 p1); an array of functions is judged by another rule
abbrev pub has_elements : Structs → PlainType → Bool
has_elements structs (Pointer t) = has_elements structs t
has_elements structs (Array t n) = (is_function t || is_complete structs t) && has_elements structs t
has_elements structs (Func t ts) = has_elements structs t
has_elements structs (Const t) = has_elements structs t
has_elements structs t = true

-- an array without a length may stand behind a pointer, but not alone
abbrev pub has_length : PlainType → Bool
has_length (Array t n) = nat_lt 0 n
has_length t = true

-- each array has at most 16,777,216 bytes, and so have its elements where it has no length
abbrev pub fits : Structs → PlainType → Bool
fits structs (Pointer t) = fits structs t
fits structs (Array t n) = (is_function t || is_within_limit structs (Array t n)) && fits structs t
fits structs (Func t ts) = fits structs t
fits structs (Const t) = fits structs t
fits structs t = true

-- functions give no array, function or struct, and no array has functions
abbrev pub gives_values : PlainType → Bool
gives_values (Pointer t) = gives_values t
gives_values (Array t n) = not (is_function t) && gives_values t
gives_values (Func t ts) = is_result t && gives_values t
gives_values (Const t) = gives_values t
gives_values t = true

-- the type of a type-name that ends here: 5, 7, 9
abbrev pub whole_type : Structs → ℕ → PlainType → Judged PlainType
whole_type structs site t =
    needs site Incomplete (has_elements structs t && has_length t)
    (needs site TooLarge (fits structs t)
    (needs site ByValue (gives_values t) (Ok t)))

-- Parameters ---------------------------------------------------------------------------------------------------------

-- a parameter's type, without its own qualifier (C11 6.7.6.3 p15), and the parameters known behind its declarator
pub record Taken : Type 0 where
  pub type : PlainType
  pub parameters : List Names

-- an array and a function become pointers (C11 6.7.6.3 p7, p8), so that the outermost length may be left away
abbrev pub adjusted : PlainType → PlainType
adjusted (Array t n) = Pointer t
adjusted (Func t ts) = Pointer (Func t ts)
adjusted t = t

abbrev pub is_taken_name : List Names → Option (List ℕ) → Bool
is_taken_name around None = false
is_taken_name around (Some name) = is_some (own_parameter around name)

abbrev pub with_name : List Names → Option (List ℕ) → PlainType → List Names
with_name around None t = around
with_name around (Some name) t = with_parameter around name t

abbrev pub is_reserved_name : Option (List ℕ) → Bool
is_reserved_name None = false
is_reserved_name (Some name) = is_reserved name

-- 2: a list has each name once
abbrev pub entered : ℕ → List Names → Option (List ℕ) → PlainType → Judged (List Names)
entered site around name t = needs site DeclaredTwice (not (is_taken_name around name)) (Ok (with_name around name t))

-- a parameter whose declarator ends here: 2, 5, 7, 9, 13
abbrev pub declared_parameter : Known → ℕ → Option (List ℕ) → PlainType → Judged Taken
declared_parameter k site name t =
    entered site k.parameters name (adjusted t) >>= λ around.
    needs site Incomplete (has_elements k.structs t && is_complete k.structs (adjusted t))
    (needs site TooLarge (fits k.structs (adjusted t))
    (needs site ByValue (gives_values t && is_parameter (adjusted t))
    (needs site ReservedName (not (is_reserved_name name)) (Ok (record { type = bare (adjusted t); parameters = around })))))
