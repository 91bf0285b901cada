-- What a phrase means, or the first rule that it breaks.
use Rattle.std.specs.Prelude.{ℕ, Bool, true, false, Result, Ok, Err}
use Rattle.dc_layout.specs.Types.{PlainType}
use Rattle.dc_program.specs.declared.rule.Rule.{Rule}
use Rattle.dc_program.specs.Expressions.{Expr, Typed, Form}
use Rattle.dc_program.specs.Typing as typing

-- a rule, and the number of the last token of the phrase that breaks it
pub record Broken : Type 0 where
  pub rule : Rule
  pub site : ℕ

abbrev pub broken : Rule → ℕ → Broken
broken rule site = record { rule = rule; site = site }

abbrev pub Judged : Type 0 → Type 0
Judged A = Result A Broken

infixl 10 ◌>>=◌
-- the part first: what breaks in it is broken first
abbrev pub ◌>>=◌ : {A B : Type 0} → Judged A → (A → Judged B) → Judged B
Ok a >>= f = f a
Err b >>= f = Err b

-- the phrase that ends here breaks the rule unless the test holds; what stands behind is asked later
abbrev pub needs : {A : Type 0} → ℕ → Rule → Bool → Judged A → Judged A
needs site rule true behind = behind
needs site rule false behind = Err (broken rule site)

-- what the rules say of the types of parts, at the phrase that ends here
abbrev pub located : {A : Type 0} → ℕ → typing.Judged A → Judged A
located site (Ok a) = Ok a
located site (Err rule) = Err (broken rule site)

-- the expression of a form, where its parts have a type
abbrev pub formed : ℕ → typing.Judged PlainType → Form → Judged Expr
formed site (Ok t) f = Ok (Typed t f)
formed site (Err rule) f = Err (broken rule site)
