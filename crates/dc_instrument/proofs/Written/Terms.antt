-- The terms of expressions and places may stand in lines.
use Rattle.std.proofs.Common.{◌≡◌, ℕ, suc, ◌+◌, ◌^◌, ◌≤◌, ◌<◌, Bool, true, false, length, refl, arith, ℤ, pos, negsuc}
use Rattle.std.specs.Prelude.{◌&&◌, ◌||◌, nat_lt, nat_le}
use Rattle.std.proofs.lemmas.Bool.Decides.{nat_tests}
use Rattle.std.proofs.lemmas.Int.{ints}
use Rattle.dc_num.specs.declared.kind.NumKind.{NumKind}
use Rattle.dc_num.specs.declared.kind.NumKind.TheVariants.{S32}
use Rattle.dc_num.specs.declared.operators.BinOp.{BinOp}
use Rattle.dc_num.specs.Kinds.{IsValue, is_value}
use Rattle.dc_core.specs.Program.{Expr, Literal, Variable, Parameter, ReturnValue, Binary, Program}
use Rattle.dc_core.specs.Sound.{Stands, IsLvalue, IsTarget}
use Rattle.dc_core.specs.Term.{Term, Constant, Register, Object, Load}
use Rattle.dc_goto.specs.Lines.{IsConstant, HasNumbers, IsTerm, height, height_limit}
use Rattle.dc_goto.specs.Shape.{is_comparison, may_compute, may_mean}
use Rattle.dc_goto.proofs.Digits.{both_true}
use Rattle.dc_instrument.specs.Lowering.{term_of, place_term, parameter_term, result_term, int_len}
use Rattle.dc_instrument.specs.Writable as writable
use Rattle.dc_instrument.specs.Writable.{IsLow}
use Rattle.dc_instrument.specs.declared.places.Places.{Places}
use Rattle.dc_instrument.specs.declared.places.Places.TheVariants as places

pub below : (a b : ℕ) → a < b → nat_lt a b ≡ true
below a b h = grind (arith, nat_tests)

pub at_most : (a b : ℕ) → a ≤ b → nat_le a b ≡ true
at_most a b h = grind (arith, nat_tests)

-- a term may stand in a line of a body with that many registers, where that many objects are
pub record MayStand (objects regs : ℕ) (t : Term) : Type 0 where
  pub written : IsTerm t
  pub means : may_mean objects regs t ≡ true

-- its numbers may
pub record NumbersStand (objects regs : ℕ) (t : Term) : Type 0 where
  pub numbers : HasNumbers t
  pub means : may_mean objects regs t ≡ true

-- Leaves ------------------------------------------------------------------------------------------------------------

-- what is one high
pub stands_low : (objects regs : ℕ) (t : Term) → height t ≤ 2 → NumbersStand objects regs t → MayStand objects regs t
unfolding height_limit
stands_low objects regs t low h = record { written = record { numbers = h.numbers; low = omega arith }; means = h.means }

constant_is : (z : ℤ) → IsValue S32 z → IsConstant z
constant_is (pos n) h = omega (arith, ints, h.below)
constant_is (negsuc n) h = omega (arith, ints, h.above)

value_is : (z : ℤ) → IsValue S32 z → is_value S32 z ≡ true
value_is z h = grind (arith, ints)

numbers_constant : (objects regs : ℕ) (z : ℤ) → IsValue S32 z → NumbersStand objects regs (Constant S32 z)
numbers_constant objects regs z h = record { numbers = constant_is z h; means = value_is z h }

numbers_register : (objects regs r : ℕ) → r < regs → regs < 2 ^ 64 → NumbersStand objects regs (Register r)
numbers_register objects regs r h small = record { numbers = omega arith; means = below r regs h }

numbers_object : (objects regs n : ℕ) → n ≤ objects → objects < 2 ^ 64 → NumbersStand objects regs (Object n)
numbers_object objects regs n h small = record { numbers = omega arith; means = at_most n objects h }

numbers_load : (objects regs : ℕ) (kind : NumKind) (t : Term) → NumbersStand objects regs t → NumbersStand objects regs (Load kind t)
numbers_load objects regs kind t h = record { numbers = h.numbers; means = h.means }

pub register_stands : (objects regs r : ℕ) → r < regs → regs < 2 ^ 64 → MayStand objects regs (Register r)
register_stands objects regs r h small = stands_low objects regs (Register r) (omega arith) (numbers_register objects regs r h small)

pub object_stands : (objects regs n : ℕ) → n ≤ objects → objects < 2 ^ 64 → MayStand objects regs (Object n)
object_stands objects regs n h small = stands_low objects regs (Object n) (omega arith) (numbers_object objects regs n h small)

pub one_stands : (objects regs : ℕ) → MayStand objects regs (Constant S32 (pos 1))
one_stands objects regs = stands_low objects regs (Constant S32 (pos 1)) (omega arith) (record { numbers = omega arith; means = refl })

pub len_stands : (objects regs : ℕ) → MayStand objects regs int_len
len_stands objects regs = stands_low objects regs int_len (omega arith) (record { numbers = omega arith; means = refl })

-- Expressions -------------------------------------------------------------------------------------------------------

parameter_height : (at : Places) (k : ℕ) → height (parameter_term at k) ≤ 2
parameter_height (places.Body first) k = omega arith
parameter_height (places.Clauses result) k = omega arith

result_height : (at : Places) → height (result_term at) ≤ 2
result_height (places.Body first) = omega arith
result_height (places.Clauses result) = omega arith

term_height : (at : Places) (e : Expr) → height (term_of at e) ≤ suc (writable.height e)
term_height at (Literal z) = omega arith
term_height at (Variable k) = omega arith
term_height at (Parameter k) = let h = parameter_height at k in omega arith
term_height at ReturnValue = let h = result_height at in omega arith
term_height at (Binary op a b) =
    let x = term_height at a in
    let y = term_height at b in
    omega arith

-- what stands for parameters and the result may stand in lines
pub record Fits (p : Program) (result : Bool) (at : Places) (regs : ℕ) : Type 0 where
  pub parameters : (k : ℕ) → k < p.function.params → NumbersStand (suc (length p.statics)) regs (parameter_term at k)
  pub result_is : result ≡ true → NumbersStand (suc (length p.statics)) regs (result_term at)

pub body_fits : (p : Program) (first regs : ℕ) → first + p.function.params ≤ regs → regs < 2 ^ 64 → Fits p false (places.Body first) regs
body_fits p first regs room small =
    record {
      parameters = λ k h. numbers_load (suc (length p.statics)) regs S32 (Register (first + k)) (numbers_register (suc (length p.statics)) regs (first + k) (omega arith) small);
      result_is = λ e. absurd (cc);
    }

pub clauses_fit : (p : Program) (result : Bool) (regs : ℕ) → p.function.params ≤ regs → (result ≡ true → p.function.params < regs) → regs < 2 ^ 64
    → Fits p result (places.Clauses p.function.params) regs
clauses_fit p result regs room last small =
    record {
      parameters = λ k h. numbers_register (suc (length p.statics)) regs k (omega arith) small;
      result_is = λ e. numbers_register (suc (length p.statics)) regs p.function.params (last e) small;
    }

-- every operator is one of ints
int_computes : (op : BinOp) → may_compute op S32 ≡ true
int_computes op = or_true (is_comparison op)
  where
    or_true : (b : Bool) → (b || true) ≡ true
    or_true true = refl
    or_true false = refl

numbers_stand : (p : Program) (result : Bool) (at : Places) (regs : ℕ) (e : Expr)
    → length p.statics ≤ 32766 → Fits p result at regs → Stands p result e → NumbersStand (suc (length p.statics)) regs (term_of at e)
numbers_stand p result at regs (Literal z) few f s = numbers_constant (suc (length p.statics)) regs z s
numbers_stand p result at regs (Variable k) few f s =
    numbers_load (suc (length p.statics)) regs S32 (Object (suc (suc k))) (numbers_object (suc (length p.statics)) regs (suc (suc k)) (omega arith) (omega arith))
numbers_stand p result at regs (Parameter k) few f s = f.parameters k s
numbers_stand p result at regs ReturnValue few f s = f.result_is s
numbers_stand p result at regs (Binary op a b) few f s =
    let x = numbers_stand p result at regs a few f s.0 in
    let y = numbers_stand p result at regs b few f s.1 in
    record {
      numbers = (x.numbers, y.numbers);
      means =
          both_true (may_compute op S32 && may_mean (suc (length p.statics)) regs (term_of at a)) (may_mean (suc (length p.statics)) regs (term_of at b))
          (both_true (may_compute op S32) (may_mean (suc (length p.statics)) regs (term_of at a)) (int_computes op) x.means) y.means;
    }

pub term_stands : (p : Program) (result : Bool) (at : Places) (regs : ℕ) (e : Expr)
    → length p.statics ≤ 32766 → Fits p result at regs → Stands p result e → IsLow e → MayStand (suc (length p.statics)) regs (term_of at e)
unfolding height_limit
term_stands p result at regs e few f s low =
    let h = numbers_stand p result at regs e few f s in
    let l = term_height at e in
    record { written = record { numbers = h.numbers; low = omega arith }; means = h.means }

-- Places ------------------------------------------------------------------------------------------------------------

pub place_stands : (p : Program) (first regs : ℕ) (e : Expr)
    → length p.statics ≤ 32766 → first + p.function.params ≤ regs → regs < 2 ^ 64 → IsLvalue p e → MayStand (suc (length p.statics)) regs (place_term (places.Body first) e)
place_stands p first regs (Literal z) few room small h = absurd h
place_stands p first regs (Variable k) few room small h = object_stands (suc (length p.statics)) regs (suc (suc k)) (omega arith) (omega arith)
place_stands p first regs (Parameter k) few room small h = register_stands (suc (length p.statics)) regs (first + k) (omega arith) small
place_stands p first regs ReturnValue few room small h = absurd h
place_stands p first regs (Binary op a b) few room small h = absurd h

pub target_stands : (p : Program) (at : Places) (regs : ℕ) (e : Expr) → length p.statics ≤ 32766 → IsTarget p e → MayStand (suc (length p.statics)) regs (place_term at e)
target_stands p at regs (Literal z) few h = absurd h
target_stands p at regs (Variable k) few h = object_stands (suc (length p.statics)) regs (suc (suc k)) (omega arith) (omega arith)
target_stands p at regs (Parameter k) few h = absurd h
target_stands p at regs ReturnValue few h = absurd h
target_stands p at regs (Binary op a b) few h = absurd h
