-- The number of a pointer is computed with as an unsigned number of its width.
use Rattle.std.proofs.Common.{◌≡◌, refl, ◌∙◌, ℤ, to_z, of_z, FitsSigned, Option}
use Rattle.std.proofs.lemmas.Int.{to_z-of_z}
use Rattle.dc_num.specs.declared.kind.NumKind.{NumKind}
use Rattle.dc_num.specs.declared.kind.NumKind.TheVariants.{Bool as Truth, S8, U8, S16, U16, S32, U32, S64, U64, Ptr}
use Rattle.dc_num.specs.declared.operators.BinOp.{BinOp}
use Rattle.dc_num.specs.declared.operators.BinOp.TheVariants.{Add, Sub, Mul, Div, Rem, Shl, Shr, And, Or, Xor, Lt, Le, Gt, Ge, Eq, Ne}
use Rattle.dc_num.specs.declared.operators.UnOp.{UnOp}
use Rattle.dc_num.specs.declared.operators.UnOp.TheVariants.{Neg, Not}
use Rattle.dc_num.specs.Conversions.{bits, converted}
use Rattle.dc_num.specs.Operators.{binary_of, unary_of}
use Rattle.dc_program.specs.Numbers.{balanced, computed}
use Rattle.dc_rules.specs.Plain.{plain}
use mir.Syntax.{w128}

pub converted-plain : (k : NumKind) (z : ℤ) → converted (plain k) z ≡ converted k z
unfolding converted bits
converted-plain Truth z = refl
converted-plain S8 z = refl
converted-plain U8 z = refl
converted-plain S16 z = refl
converted-plain U16 z = refl
converted-plain S32 z = refl
converted-plain U32 z = refl
converted-plain S64 z = refl
converted-plain U64 z = refl
converted-plain Ptr z = refl

of_pointers : (op : BinOp) (a b : ℤ) → binary_of op U64 a b ≡ binary_of op Ptr a b
unfolding binary_of bits
of_pointers Add a b = refl
of_pointers Sub a b = refl
of_pointers Mul a b = refl
of_pointers Div a b = refl
of_pointers Rem a b = refl
of_pointers Shl a b = refl
of_pointers Shr a b = refl
of_pointers And a b = refl
of_pointers Or a b = refl
of_pointers Xor a b = refl
of_pointers Lt a b = refl
of_pointers Le a b = refl
of_pointers Gt a b = refl
of_pointers Ge a b = refl
of_pointers Eq a b = refl
of_pointers Ne a b = refl

pub binary_of-plain : (op : BinOp) (k : NumKind) (a b : ℤ) → binary_of op (plain k) a b ≡ binary_of op k a b
binary_of-plain op Truth a b = refl
binary_of-plain op S8 a b = refl
binary_of-plain op U8 a b = refl
binary_of-plain op S16 a b = refl
binary_of-plain op U16 a b = refl
binary_of-plain op S32 a b = refl
binary_of-plain op U32 a b = refl
binary_of-plain op S64 a b = refl
binary_of-plain op U64 a b = refl
binary_of-plain op Ptr a b = of_pointers op a b

of_one_pointer : (op : UnOp) (a : ℤ) → unary_of op U64 a ≡ unary_of op Ptr a
unfolding unary_of bits
of_one_pointer Neg a = refl
of_one_pointer Not a = refl

pub unary_of-plain : (op : UnOp) (k : NumKind) (a : ℤ) → unary_of op (plain k) a ≡ unary_of op k a
unary_of-plain op Truth a = refl
unary_of-plain op S8 a = refl
unary_of-plain op U8 a = refl
unary_of-plain op S16 a = refl
unary_of-plain op U16 a = refl
unary_of-plain op S32 a = refl
unary_of-plain op U32 a = refl
unary_of-plain op S64 a = refl
unary_of-plain op U64 a = refl
unary_of-plain op Ptr a = of_one_pointer op a

-- what the code reads of a number that it converted
pub converted-read : (k p : NumKind) (v r : ℤ) → p ≡ plain k → FitsSigned w128 v → r ≡ converted p (to_z w128 (of_z w128 v)) → FitsSigned w128 r → to_z w128 (of_z w128 r) ≡ converted k v
converted-read k p v r is f h g = to_z-of_z w128 r g ∙ h ∙ rw (to_z-of_z w128 v f, is) (converted-plain k v)

pub binary_of-read : (op : BinOp) (k p : NumKind) (a b x y : ℤ) (r : Option ℤ) → p ≡ plain k → r ≡ binary_of op p a b → a ≡ x → b ≡ y → r ≡ binary_of op k x y
binary_of-read op k p a b x y r is h left right = h ∙ rw (is, left, right) (binary_of-plain op k x y)

pub unary_of-read : (op : UnOp) (k p : NumKind) (a x : ℤ) (r : Option ℤ) → p ≡ plain k → r ≡ unary_of op p a → a ≡ x → r ≡ unary_of op k x
unary_of-read op k p a x r is h one = h ∙ rw (is, one) (unary_of-plain op k x)

-- all operators but shifts have a common kind
pub computed-balanced : (op : BinOp) (k l : NumKind) (v w : ℤ) → (op ≡ Shl → ⊥) → (op ≡ Shr → ⊥) → computed op k l v w ≡ balanced op k l v w
computed-balanced Add k l v w left right = refl
computed-balanced Sub k l v w left right = refl
computed-balanced Mul k l v w left right = refl
computed-balanced Div k l v w left right = refl
computed-balanced Rem k l v w left right = refl
computed-balanced Shl k l v w left right = absurd (left refl)
computed-balanced Shr k l v w left right = absurd (right refl)
computed-balanced And k l v w left right = refl
computed-balanced Or k l v w left right = refl
computed-balanced Xor k l v w left right = refl
computed-balanced Lt k l v w left right = refl
computed-balanced Le k l v w left right = refl
computed-balanced Gt k l v w left right = refl
computed-balanced Ge k l v w left right = refl
computed-balanced Eq k l v w left right = refl
computed-balanced Ne k l v w left right = refl
