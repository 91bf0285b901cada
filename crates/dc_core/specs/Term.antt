-- Expressions of the instruction text as plain data.
use Rattle.std.specs.Prelude.{ℕ, ℤ}
use Rattle.dc_num.specs.declared.operators.BinOp.{BinOp}
use Rattle.dc_num.specs.declared.operators.UnOp.{UnOp}
use Rattle.dc_num.specs.declared.kind.NumKind.{NumKind}
use Rattle.dc_core.specs.declared.operators.LazyOp.{LazyOp}
use Rattle.dc_core.specs.declared.operators.Property.{Property}
use Rattle.dc_core.specs.declared.operators.RangeTest.{RangeTest}
use Rattle.dc_core.specs.declared.operators.Quantifier.{Quantifier}

pub data Term : Type 0 where
  Constant : NumKind → ℤ → Term
  Register : ℕ → Term
  -- the variable of the quantifier that has so many others around it
  Variable : ℕ → Term
  Object : ℕ → Term
  Load : NumKind → Term → Term
  Convert : (to from : NumKind) → Term → Term
  Unary : UnOp → NumKind → Term → Term
  Binary : BinOp → NumKind → Term → Term → Term
  Lazy : LazyOp → Term → Term → Term
  Choice : (test then else : Term) → Term
  -- a pointer moved by so many elements of a size, and the distance of two in elements of a size
  Moved : (size : ℕ) → (pointer count : Term) → Term
  Distance : (size : ℕ) → (pointer from : Term) → Term
  -- what a pointer's object is like
  Asked : Property → Term → Term
  -- what so many bytes behind a pointer are like
  Tested : RangeTest → (pointer len : Term) → Term
  Between : (low pointer high : Term) → Term
  Quantified : Quantifier → (nesting : ℕ) → NumKind → (low high body : Term) → Term
