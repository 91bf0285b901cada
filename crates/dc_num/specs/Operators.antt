-- What operators make of values of a kind (C11 6.5.3.3, 6.5.5 to 6.5.12); none where the value is undefined.
use Rattle.std.specs.Prelude.{ℕ, ◌*◌, ◌^◌, ◌-◌, Bool, true, false, Option, Some, None, ⊤, if◌then◌else◌, not, ◌||◌, nat_lt, ℤ, pos, negsuc, ◌+ℤ◌, ◌-ℤ◌, ◌*ℤ◌, int_lt, int_div, neg_ℤ, bit_and, bit_or, bit_xor}
use Rattle.std.specs.Option.{option_map}
use Rattle.std.specs.Int.{int_div_euclid, int_rem_euclid}
use Rattle.std.specs.Ordering.{int_eq}
use Rattle.dc_num.specs.declared.kind.NumKind.{NumKind}
use Rattle.dc_num.specs.declared.operators.BinOp.{BinOp}
use Rattle.dc_num.specs.declared.operators.BinOp.TheVariants.{Add, Sub, Mul, Div, Rem, Shl, Shr, And, Or, Xor, Lt, Le, Gt, Ge, Eq, Ne}
use Rattle.dc_num.specs.declared.operators.UnOp.{UnOp}
use Rattle.dc_num.specs.declared.operators.UnOp.TheVariants.{Neg, Not}
use Rattle.dc_num.specs.Kinds.{bits_of, is_signed, is_value, is_pointer, IsValue}
use Rattle.dc_num.specs.Conversions.{bits, value_of_bits, truth}

-- an unsigned result wraps around; a signed one that doesn't fit has no value (C11 6.2.5, 6.5)
abbrev pub settled : NumKind → ℤ → Option ℤ
settled k z =
    if is_signed k then (if is_value k z then Some z else None)
    else Some (int_rem_euclid z (pos (2 ^ bits_of k)))

-- truncated toward zero (C11 6.5.5)
abbrev pub quotient : NumKind → ℤ → ℤ → Option ℤ
quotient k a b = if int_eq b (pos 0) then None else settled k (int_div a b)

-- what is left of the first beside the quotient times the second
abbrev pub remainder : NumKind → ℤ → ℤ → Option ℤ
remainder k a b = option_map (λ q. a -ℤ q *ℤ b) (quotient k a b)

-- a count that is negative or not below the width has no result, nor has a negative number (C11 6.5.7)
abbrev pub moved_left : NumKind → ℤ → ℕ → Option ℤ
moved_left k (pos a) n = if nat_lt n (bits_of k) then settled k (pos (a * 2 ^ n)) else None
moved_left k (negsuc a) n = None

abbrev pub shifted_left : NumKind → ℤ → ℤ → Option ℤ
shifted_left k a (pos n) = moved_left k a n
shifted_left k a (negsuc n) = None

-- the quotient by a power of two, rounded down
abbrev pub shifted_right : NumKind → ℤ → ℤ → Option ℤ
shifted_right k a (pos n) = if nat_lt n (bits_of k) then Some (int_div_euclid a (pos (2 ^ n))) else None
shifted_right k a (negsuc n) = None

-- bit by bit (C11 6.5.10 to 6.5.12)
abbrev pub bitwise : (ℕ → ℕ → ℕ) → NumKind → ℤ → ℤ → Option ℤ
bitwise f k a b = Some (value_of_bits k (f (bits k a) (bits k b)))

-- a comparison gives the int 0 or 1 (C11 6.5.8, 6.5.9)
abbrev pub compared : Bool → Option ℤ
compared holds = Some (truth holds)

unfoldable pub binary_of : BinOp → NumKind → ℤ → ℤ → Option ℤ
binary_of Add k a b = settled k (a +ℤ b)
binary_of Sub k a b = settled k (a -ℤ b)
binary_of Mul k a b = settled k (a *ℤ b)
binary_of Div k a b = quotient k a b
binary_of Rem k a b = remainder k a b
binary_of Shl k a b = shifted_left k a b
binary_of Shr k a b = shifted_right k a b
binary_of And k a b = bitwise bit_and k a b
binary_of Or k a b = bitwise bit_or k a b
binary_of Xor k a b = bitwise bit_xor k a b
binary_of Lt k a b = compared (int_lt a b)
binary_of Le k a b = compared (not (int_lt b a))
binary_of Gt k a b = compared (int_lt b a)
binary_of Ge k a b = compared (not (int_lt a b))
binary_of Eq k a b = compared (int_eq a b)
binary_of Ne k a b = compared (not (int_eq a b))

-- the negative, and the complement of each bit (C11 6.5.3.3)
unfoldable pub unary_of : UnOp → NumKind → ℤ → Option ℤ
unary_of Neg k a = settled k (neg_ℤ a)
unary_of Not k a = Some (value_of_bits k (2 ^ bits_of k - 1 - bits k a))

-- a shift's count is any number, any other operand a value of the kind
abbrev pub IsRight : BinOp → NumKind → ℤ → Type 0
IsRight Shl k z = ⊤
IsRight Shr k z = ⊤
IsRight op k z = IsValue k z

-- pointers are only tested for equality here
abbrev pub is_equality : BinOp → Bool
is_equality Eq = true
is_equality Ne = true
is_equality _ = false

abbrev pub is_operand_kind : BinOp → NumKind → Bool
is_operand_kind op k = not (is_pointer k) || is_equality op
