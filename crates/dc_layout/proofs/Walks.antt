-- A walk through the members of a struct, which keeps where they end so far and their largest alignment.
use Rattle.std.proofs.Common.{◌≡◌, ℕ, suc, ◌+◌, ◌<◌, ◌≤◌, max, List, [], ◌∷◌, fold, map, length, drop, get_or, Option, Some, None, refl, ap, ◌∙◌, add-one, drop-cons}
use Rattle.std.specs.Option.{option_map, option_and_then}
use Rattle.std.specs.Int.{next_multiple_of}
use Rattle.std.proofs.lemmas.List.{at_drop_all}
use Rattle.dc_layout.specs.declared.capped.Capped.{Capped}
use Rattle.dc_layout.specs.declared.ctype.CType.{CType}
use Rattle.dc_layout.specs.Types.{Structs, type_view}
use Rattle.dc_layout.specs.Layout.{Extent, extent, extents, struct_extent}
use Rattle.dc_layout.specs.Kept.{capped, capped_with}
use Rattle.dc_layout.specs.Members.{placed_of}
use Rattle.dc_layout.proofs.Arithmetic.{capped_with-capped}

-- members behind those that are placed
pub walked : (ℕ → Option Extent) → Capped → List CType → Option Capped
walked structs before [] = Some before
walked structs before (t ∷ ts) = option_and_then (λ e. walked structs (capped_with before e) ts) (option_map capped (extent structs (type_view t)))

abbrev placed_behind : Extent → List Extent → Capped
placed_behind before es = capped (record { size = fold (λ end m. next_multiple_of end m.align + m.size) before.size es; align = fold (λ most m. max most m.align) before.align es })

-- the extent before members, with one of them
abbrev with_one : Extent → Extent → Extent
with_one before e = record { size = next_multiple_of before.size e.align + e.size; align = max before.align e.align }

walked_one : (structs : ℕ → Option Extent) (before : Extent) (ts : List CType) (o : Option Extent)
    → ((b : Extent) → walked structs (capped b) ts ≡ option_map (placed_behind b) (extents structs (map type_view ts)))
    → option_and_then (λ e. walked structs (capped_with (capped before) e) ts) (option_map capped o)
    ≡ option_map (placed_behind before) (option_and_then (λ e. option_map (λ es. e ∷ es) (extents structs (map type_view ts))) o)
walked_one structs before ts None rest = refl
walked_one structs before ts (Some e) rest =
    ap (λ k. walked structs k ts) (capped_with-capped before e) ∙ rest (with_one before e) ∙ mapped (extents structs (map type_view ts))
  where
    mapped : (o : Option (List Extent)) → option_map (placed_behind (with_one before e)) o ≡ option_map (placed_behind before) (option_map (λ es. e ∷ es) o)
    mapped None = refl
    mapped (Some es) = refl

walked-capped : (structs : ℕ → Option Extent) (ts : List CType) (before : Extent) → walked structs (capped before) ts ≡ option_map (placed_behind before) (extents structs (map type_view ts))
unfolding walked
walked-capped structs [] before = refl
walked-capped structs (t ∷ ts) before = walked_one structs before ts (extent structs (type_view t)) (walked-capped structs ts)

pub walked-first : (structs : Structs) (ts : List CType) → walked (struct_extent structs) (record { size = 0; align = 1 }) ts ≡ placed_of structs ts
walked-first structs ts = walked-capped (struct_extent structs) ts (record { size = 0; align = 1 })

walked-cons : (structs : ℕ → Option Extent) (before : Capped) (t : CType) (ts : List CType) → walked structs before (t ∷ ts) ≡ option_and_then (λ e. walked structs (capped_with before e) ts) (option_map capped (extent structs (type_view t)))
unfolding walked
walked-cons structs before t ts = refl

pub walked-all : (structs : ℕ → Option Extent) (before : Capped) (ts : List CType) (i : ℕ) → length ts ≤ i → walked structs before (drop i ts) ≡ Some before
unfolding walked
walked-all structs before ts i le = at_drop_all (walked structs before) ts i le

-- a walk whose next member is t
pub walked-drop : (structs : ℕ → Option Extent) (before : Capped) (ts : List CType) (i : ℕ) (t : CType) (o : Option Capped) → i < length ts → t ≡ get_or ts i t → o ≡ option_map capped (extent structs (type_view t))
    → walked structs before (drop i ts) ≡ option_and_then (λ e. walked structs (capped_with before e) (drop (i + 1) ts)) o
walked-drop structs before ts i t o lt is same =
    rw (same, add-one, drop-cons ts i t, ← is) (walked-cons structs before t (drop (suc i) ts))
