-- Where each type has a size within the limit, all have an extent.
use Rattle.std.proofs.Common.{◌≡◌, suc, List, [], ◌∷◌, map, All, Option, Some, None, refl, arith}
use Rattle.std.specs.Prelude.{IsOk}
use Rattle.std.specs.Option.{option_map, option_and_then}
use Rattle.dc_layout.specs.declared.ctype.CType.{CType}
use Rattle.dc_layout.specs.Types.{Structs, type_view, structs_view}
use Rattle.dc_layout.specs.Layout.{Extent, extents, whole, struct_extent, extent_of, answer, size_answer}
use Rattle.dc_layout.specs.Sized.{AllSized}
use Rattle.dc_layout.specs.Kept.{capped}
use Rattle.dc_layout.specs.Members.{whole_of}

sized_first : (o : Option Extent) (rest : Option (List Extent)) → IsOk (answer (λ e. e.size) (λ e. e.size) o) → (rest ≡ None → ⊥) → option_and_then (λ e. option_map (λ es. e ∷ es) rest) o ≡ None → ⊥
sized_first None rest ok some e = cc
sized_first (Some x) None ok some e = some refl
sized_first (Some x) (Some xs) ok some e = cc

sized : (structs : Structs) (ts : List CType) → All (λ t. IsOk (size_answer structs (type_view t))) ts → extents (struct_extent structs) (map type_view ts) ≡ None → ⊥
unfolding size_answer
sized structs [] all e = cc
sized structs (t ∷ ts) all e =
    sized_first (extent_of structs (type_view t)) (extents (struct_extent structs) (map type_view ts)) (all 0 t (omega arith))
    (sized structs ts (λ k d lt. all (suc k) d (omega arith))) e

none_of : {A B : Type 0} (f : A → B) (o : Option A) → None ≡ option_map f o → o ≡ None
none_of f None e = refl
none_of f (Some x) e = cc

pub sized_whole : (structs : List (Option (List CType))) (ts : List CType) → AllSized structs ts → None ≡ whole_of (structs_view structs) ts → ⊥
sized_whole structs ts all e = sized (structs_view structs) ts all (none_of (λ es. capped (whole es)) _ e)
