-- How many arguments there are.
use Rattle.std.proofs.Common.{◌≡◌, suc, None, List, [], ◌∷◌, length, refl, ap, ◌∙◌}
use Rattle.std.specs.Prelude.{nat_eq}
use Rattle.dc_layout.specs.declared.ctype.CType.{CType}
use Rattle.dc_program.specs.declared.expression.Expr.{Expr}
use Rattle.dc_program.specs.Expressions.{count_of}
use Rattle.dc_rules.specs.Seen.{types_view}
use Rattle.dc_typing.specs.Calls.{count_types, are_as_many, one_of, two_of, three_of}
use Rattle.dc_typing.specs.Seen.{exprs_view}

pub not_one : (es : List Expr) → (length es ≡ 1 → ⊥) → None ≡ one_of (exprs_view es)
not_one [] h = refl
not_one (a ∷ []) h = absurd (h refl)
not_one (a ∷ b ∷ es) h = refl

pub not_two : (es : List Expr) → (length es ≡ 2 → ⊥) → None ≡ two_of (exprs_view es)
not_two [] h = refl
not_two (a ∷ []) h = refl
not_two (a ∷ b ∷ []) h = absurd (h refl)
not_two (a ∷ b ∷ c ∷ es) h = refl

pub not_three : (es : List Expr) → (length es ≡ 3 → ⊥) → None ≡ three_of (exprs_view es)
not_three [] h = refl
not_three (a ∷ []) h = refl
not_three (a ∷ b ∷ []) h = refl
not_three (a ∷ b ∷ c ∷ []) h = absurd (h refl)
not_three (a ∷ b ∷ c ∷ d ∷ es) h = refl

counted-types : (ts : List CType) → length ts ≡ count_types (types_view ts)
counted-types [] = refl
counted-types (t ∷ ts) = ap suc (counted-types ts)

counted-exprs : (es : List Expr) → length es ≡ count_of (exprs_view es)
counted-exprs [] = refl
counted-exprs (e ∷ es) = ap suc (counted-exprs es)

pub as_many : (ts : List CType) (es : List Expr) → nat_eq (length ts) (length es) ≡ are_as_many (types_view ts) (exprs_view es)
as_many ts es = ap (λ n. nat_eq n (length es)) (counted-types ts) ∙ ap (nat_eq (count_types (types_view ts))) (counted-exprs es)
