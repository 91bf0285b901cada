-- Functions and programs, as plain data. Functions, variables, parameters and members are named by their numbers.
use Rattle.std.specs.Prelude.{ℕ, List, Option}
use Rattle.dc_layout.specs.Types.{PlainType, Structs}
use Rattle.dc_program.specs.Statements.{Stmt, Contract}

pub record Function : Type 0 where
  pub name : List ℕ
  pub result : PlainType
  pub params : List PlainType
  -- none where no declaration of it has clauses
  pub contract : Option Contract
  pub body : Option Stmt

pub record StaticVariable : Type 0 where
  pub name : List ℕ
  pub type : PlainType

pub record Program : Type 0 where
  pub functions : List Function
  pub statics : List StaticVariable
  pub structs : Structs
