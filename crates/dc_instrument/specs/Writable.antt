-- Programs whose goto programs can be written as texts: their names are words that differ, and no number is too large.
use Rattle.std.specs.Prelude.{◌≡◌, ℕ, suc, ◌^◌, ◌<◌, ◌≤◌, max, true, false, List, [], ◌∷◌, ◌++◌, length}
use Rattle.std.specs.List.{list_any, AllByRecursion}
use Rattle.dc_text.specs.Words.{same, is_word}
use Rattle.dc_core.specs.Program.{Expr, Literal, Variable, Parameter, ReturnValue, Binary, Stmt, Assign, Return, Program}

-- 1, and one more than the greatest height of the parts
abbrev pub height : Expr → ℕ
height (Literal z) = 1
height (Variable k) = 1
height (Parameter k) = 1
height ReturnValue = 1
height (Binary op a b) = suc (max (height a) (height b))

-- an expression is at most 1,000 high
abbrev pub IsLow : Expr → Type 0
IsLow e = height e ≤ 1000

-- sites and counts are below this
abbrev pub count_limit : ℕ
count_limit = 2 ^ 60

-- the site is a small number, and the expression is low
abbrev pub IsLowStmt : Stmt → Type 0
IsLowStmt (Assign site place value) = (site < count_limit) × IsLow value
IsLowStmt (Return value) = IsLow value

-- names that differ from each other and from those before them
abbrev pub AreOther : List (List ℕ) → List (List ℕ) → Type 0
AreOther before [] = Unit {0}
AreOther before (name ∷ names) = (list_any (same name) before ≡ false) × AreOther (before ++ name ∷ []) names

-- a program whose goto program can be written as a text, if it may be run
pub record IsWritable (p : Program) : Type 0 where
  pub name : is_word p.function.name ≡ true
  pub statics : AllByRecursion (λ name. is_word name ≡ true) p.statics
  -- no variable has the function's name
  pub differ : AreOther (p.function.name ∷ []) p.statics
  pub few_params : p.function.params < count_limit
  pub few_statements : length p.function.body < count_limit
  pub few_ensures : length p.function.contract.ensures_ < count_limit
  pub few_targets : length p.function.contract.assigns < count_limit
  pub low_requires : AllByRecursion IsLow p.function.contract.requires_
  pub low_ensures : AllByRecursion IsLow p.function.contract.ensures_
  pub low_body : AllByRecursion IsLowStmt p.function.body
