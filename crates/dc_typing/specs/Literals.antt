-- Literals (C11 6.4.4.1, 6.4.4.4).
use Rattle.std.specs.Prelude.{ℕ, ◌+◌, ◌*◌, ◌-◌, ◌^◌, pos, Bool, false, true, ◌&&◌, ◌||◌, not, ◌==◌, nat_le, nat_lt, List, [], ◌∷◌, Option, Some, None, Ok, Err, if◌then◌else◌}
use Rattle.std.specs.List.{list_any}
use Rattle.dc_num.specs.declared.kind.NumKind.{NumKind}
use Rattle.dc_num.specs.declared.kind.NumKind.TheVariants.{S32, U32, S64, U64}
use Rattle.dc_program.specs.declared.rule.Rule.TheVariants.{LiteralTooLarge}
use Rattle.dc_program.specs.Expressions.{Expr, Typed, Literal}
use Rattle.dc_program.specs.Types.{number, int}
use Rattle.dc_typing.specs.Judged.{Judged, broken}

-- `u` or `U`
abbrev pub is_unsigned_mark : ℕ → Bool
is_unsigned_mark b = b == 117 || b == 85

-- `l` or `L`
abbrev pub is_long_mark : ℕ → Bool
is_long_mark b = b == 108 || b == 76

-- what a digit counts
abbrev pub digit_value : ℕ → ℕ
digit_value b = if nat_le b 57 then b - 48 else (if nat_le 97 b then b - 87 else b - 55)

-- the number of the digits in front, behind those of another number; none where it is 2^64 or more
abbrev pub value_from : ℕ → ℕ → List ℕ → Option ℕ
value_from base n [] = Some n
value_from base n (b ∷ bytes) =
    if is_unsigned_mark b || is_long_mark b then Some n
    else (if nat_lt (n * base + digit_value b) (2 ^ 64) then value_from base (n * base + digit_value b) bytes else None)

-- `x` or `X`
abbrev pub is_hexadecimal_mark : ℕ → Bool
is_hexadecimal_mark b = b == 120 || b == 88

-- behind a zero
abbrev pub zero_value : List ℕ → Option ℕ
zero_value [] = Some 0
zero_value (b ∷ bytes) = if is_hexadecimal_mark b then value_from 16 0 bytes else value_from 8 0 (b ∷ bytes)

-- no zero is first
abbrev pub is_decimal : List ℕ → Bool
is_decimal [] = false
is_decimal (b ∷ bytes) = not (b == 48)

-- the number that an integer literal stands for
abbrev pub integer_value : List ℕ → Option ℕ
integer_value [] = None
integer_value (b ∷ bytes) = if b == 48 then zero_value bytes else value_from 10 0 (b ∷ bytes)

-- the first of the list that holds the value: int, unsigned, long, unsigned long, where the digits and the suffix permit it
abbrev pub integer_kind : (decimal unsigned long : Bool) → ℕ → Option NumKind
integer_kind decimal unsigned long n =
    if not unsigned && not long && nat_lt n (2 ^ 31) then Some S32
    else (if (unsigned || not decimal) && not long && nat_lt n (2 ^ 32) then Some U32
    else (if not unsigned && nat_lt n (2 ^ 63) then Some S64
    else (if unsigned || not decimal then Some U64 else None)))

-- 11: no type holds the value
abbrev pub kinded : ℕ → ℕ → Option NumKind → Judged Expr
kinded site n (Some k) = Ok (Typed (number k) (Literal (pos n)))
kinded site n None = Err (broken LiteralTooLarge site)

abbrev pub valued : ℕ → List ℕ → Option ℕ → Judged Expr
valued site bytes (Some n) = kinded site n (integer_kind (is_decimal bytes) (list_any is_unsigned_mark bytes) (list_any is_long_mark bytes) n)
valued site bytes None = Err (broken LiteralTooLarge site)

-- what a letter behind a backslash stands for
abbrev pub escape_value : ℕ → ℕ
escape_value b =
    if b == 110 then 10 else (if b == 116 then 9 else (if b == 114 then 13 else (if b == 48 then 0 else b)))

-- what stands behind the first quote
abbrev pub character_value : List ℕ → ℕ
character_value [] = 0
character_value (b ∷ []) = b
character_value (b ∷ c ∷ bytes) = if b == 92 then escape_value c else b

-- a literal: a character, which is an int, or an integer
abbrev pub literal : ℕ → List ℕ → Judged Expr
literal site [] = Err (broken LiteralTooLarge site)
literal site (b ∷ bytes) =
    if b == 39 then Ok (Typed int (Literal (pos (character_value bytes)))) else valued site (b ∷ bytes) (integer_value (b ∷ bytes))
