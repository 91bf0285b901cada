-- Which types have a size, by the answer of their size.
use Rattle.std.proofs.Common.{◌≡◌, ℕ, Bool, true, false, Option, Some, None, refl}
use Rattle.std.specs.Prelude.{Result, Ok, Err, is_some, if◌then◌else◌, nat_lt}
use Rattle.dc_layout.specs.Types.{PlainType, Structs}
use Rattle.dc_layout.specs.Layout.{Extent, extent_of, answer, limit, size_answer}
use Rattle.dc_layout.specs.declared.fault.Layout.{Layout}
use Rattle.dc_layout.specs.declared.fault.Layout.TheVariants.{TooLarge, Incomplete}
use Rattle.dc_program.specs.Types.{is_complete}

abbrev told : Option Extent → Result ℕ Layout
told o = answer (λ e. e.size) (λ e. e.size) o

no_extent : (b : Bool) (n : ℕ) → Err Incomplete ≡ (if b then Err TooLarge else Ok n) → ⊥
no_extent true n is = cc
no_extent false n is = cc

told_Ok : (o : Option Extent) (n : ℕ) → Ok n ≡ told o → is_some o ≡ true
told_Ok None n is = cc
told_Ok (Some e) n is = refl

told_TooLarge : (o : Option Extent) → Err TooLarge ≡ told o → is_some o ≡ true
told_TooLarge None is = cc
told_TooLarge (Some e) is = refl

told_Incomplete : (o : Option Extent) → Err Incomplete ≡ told o → is_some o ≡ false
told_Incomplete None is = refl
told_Incomplete (Some e) is = absurd (no_extent (nat_lt limit e.size) e.size is)

pub complete_Ok : (structs : Structs) (t : PlainType) (n : ℕ) → Ok n ≡ size_answer structs t → is_complete structs t ≡ true
unfolding size_answer
complete_Ok structs t n is = told_Ok (extent_of structs t) n is

pub complete_TooLarge : (structs : Structs) (t : PlainType) → Err TooLarge ≡ size_answer structs t → is_complete structs t ≡ true
unfolding size_answer
complete_TooLarge structs t is = told_TooLarge (extent_of structs t) is

pub complete_Incomplete : (structs : Structs) (t : PlainType) → Err Incomplete ≡ size_answer structs t → is_complete structs t ≡ false
unfolding size_answer
complete_Incomplete structs t is = told_Incomplete (extent_of structs t) is

pub ruleset completes = (complete_Ok, complete_TooLarge, complete_Incomplete)
