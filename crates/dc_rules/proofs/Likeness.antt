-- Equal types, and lists of them.
use Rattle.std.proofs.Common.{◌≡◌, ℕ, suc, Bool, true, false, List, [], ◌∷◌, map, length, drop, refl, ap}
use Rattle.std.specs.Prelude.{◌&&◌}
use Rattle.dc_layout.specs.declared.ctype.CType.{CType}
use Rattle.dc_layout.specs.Types.{PlainType, Void, Num, Pointer, Array, Struct, Func, Const, PlainTypes, Types, types, type_view}
use Rattle.dc_program.specs.Types.{same, all_same, stripped, all_stripped, alike, bare, is_const}
use Rattle.dc_rules.specs.Seen.{types_view}

-- a qualifier changes nothing of what a type is like
pub alike-bare : (t u : PlainType) → alike t (bare u) ≡ alike t u
alike-bare t Void = refl
alike-bare t (Num k) = refl
alike-bare t (Pointer u) = refl
alike-bare t (Array u n) = refl
alike-bare t (Struct s) = refl
alike-bare t (Func u us) = refl
alike-bare t (Const u) = alike-bare t u

pub is_const-bare : (t : PlainType) → is_const (bare t) ≡ false
is_const-bare Void = refl
is_const-bare (Num k) = refl
is_const-bare (Pointer t) = refl
is_const-bare (Array t n) = refl
is_const-bare (Struct s) = refl
is_const-bare (Func t ts) = refl
is_const-bare (Const t) = is_const-bare t

abbrev bare_view : CType → PlainType
bare_view t = stripped (type_view t)

-- lists of types, each seen as f says
abbrev all_seen : (CType → PlainType) → List CType → PlainTypes
all_seen f ts = types (map f ts)

all_stripped-types_view : (ts : List CType) → all_stripped (types_view ts) ≡ all_seen bare_view ts
all_stripped-types_view [] = refl
all_stripped-types_view (t ∷ ts) = ap (Types (bare_view t)) (all_stripped-types_view ts)

seen_lengths : (f : CType → PlainType) (ts us : List CType) → (length ts ≡ length us → ⊥) → all_same (all_seen f ts) (all_seen f us) ≡ false
seen_lengths f [] [] differ = absurd (differ refl)
seen_lengths f [] (u ∷ us) differ = refl
seen_lengths f (t ∷ ts) [] differ = refl
seen_lengths f (t ∷ ts) (u ∷ us) differ = and_false (same (f t) (f u)) _ (seen_lengths f ts us (λ is. differ (ap suc is)))
  where
    and_false : (a b : Bool) → b ≡ false → (a && b) ≡ false
    and_false true b is = is
    and_false false b is = refl

-- what is left of two lists of types behind so many of them is equal
abbrev pub rest_same : ℕ → List CType → List CType → Bool
rest_same i ts us = all_same (types_view (drop i ts)) (types_view (drop i us))

pub all_same-lengths : (ts us : List CType) → (length ts ≡ length us → ⊥) → all_same (types_view ts) (types_view us) ≡ false
all_same-lengths ts us differ = seen_lengths type_view ts us differ

abbrev pub rest_alike : ℕ → List CType → List CType → Bool
rest_alike i ts us = all_same (all_stripped (types_view (drop i ts))) (all_stripped (types_view (drop i us)))

pub all_alike-lengths : (ts us : List CType) → (length ts ≡ length us → ⊥) → all_same (all_stripped (types_view ts)) (all_stripped (types_view us)) ≡ false
all_alike-lengths ts us differ = rw (all_stripped-types_view ts, all_stripped-types_view us) (seen_lengths bare_view ts us differ)
