-- Statements, clauses and contracts, as plain data.
use Rattle.std.specs.Prelude.{ℕ, ℤ, List, Option}
use Rattle.dc_layout.specs.Types.{PlainType}
use Rattle.dc_program.specs.declared.location.Location.{Location}
use Rattle.dc_program.specs.Expressions.{Expr}

pub record Clause : Type 0 where
  pub condition : Expr
  pub line : ℕ

-- what a target names
pub data Range : Type 0 where
  Lvalue : Expr → Range
  ObjectWhole : Expr → Range
  ObjectFrom : Expr → Range
  ObjectUpto : Expr → Expr → Range
  Object : Expr → Range

pub record Target : Type 0 where
  pub condition : Option Expr
  pub range : Range
  pub line : ℕ

pub record Contract : Type 0 where
  pub required : List Clause
  pub ensured : List Clause
  pub assigned : List Target
  pub freed : List Target

pub record LoopContract : Type 0 where
  pub assigned : List Target
  pub invariants : List Clause
  pub measures : List Expr

pub record Loop : Type 0 where
  pub location : Location
  pub contract : Option LoopContract

-- what a variable or a part of it begins with
mutual
  pub data Init : Type 0 where
    Value : Expr → Init
    Braces : Inits → Init

  pub data Inits : Type 0 where
    NoInits : Inits
    MoreInits : Init → Inits → Inits

pub record Variable : Type 0 where
  pub number : ℕ
  pub type : PlainType
  pub init : Option Init
  pub site : Option Location

-- a variant for each form of the grammar, with its parts in their order
mutual
  pub data Stmt : Type 0 where
    Declaration : List Variable → Stmt
    Block : Stmts → Stmt
    Empty : Stmt
    Expression : Expr → Stmt
    Return : Stmt
    ReturnWith : Expr → Stmt
    Break : Stmt
    Continue : Stmt
    If : Expr → Stmt → Stmt
    IfElse : Expr → Stmt → Stmt → Stmt
    While : Loop → Expr → Stmt → Stmt
    DoWhile : Loop → Stmt → Expr → Stmt
    For : Loop → Stmt → Option Expr → Option Expr → Stmt → Stmt
    Switch : Expr → Stmts → Stmt
    Case : ℤ → Stmt → Stmt
    Default : Stmt → Stmt

  pub data Stmts : Type 0 where
    NoStmts : Stmts
    MoreStmts : Stmt → Stmts → Stmts
