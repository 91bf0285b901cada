-- What more structs with members, and a search through more of them, change: nothing where there was an extent.
use Rattle.std.proofs.Common.{◌≡◌, ℕ, zero, suc, ◌≤◌, List, [], ◌∷◌, Option, Some, None, refl, sym, ◌∙◌, arith}
use Rattle.std.specs.Option.{option_map, option_and_then}
use Rattle.dc_layout.specs.Types.{PlainType, Void, Num, Pointer, Array, Struct, Func, Const, Structs, members_of}
use Rattle.dc_layout.specs.Layout.{Extent, repeated, whole, extent, extents, members_within}

-- the second is the first, where that is there
abbrev pub IsMore : {A : Type 0} → Option A → Option A → Type 0
IsMore None b = Unit {0}
IsMore (Some x) b = b ≡ Some x

pub IsMore-same : {A : Type 0} (a : Option A) → IsMore a a
IsMore-same None = tt
IsMore-same (Some x) = refl

pub IsMore-both : {A : Type 0} (a b : Option A) → IsMore a b → IsMore b a → a ≡ b
IsMore-both None None m n = refl
IsMore-both None (Some y) m n = n
IsMore-both (Some x) b m n = sym m

pub IsMore-at : {A : Type 0} (a b : Option A) (x : A) → IsMore a b → a ≡ Some x → b ≡ Some x
IsMore-at None b x m e = cc
IsMore-at (Some y) b x m e = m ∙ e

pub IsMore-option_and_then : {A B : Type 0} (f g : A → Option B) (a b : Option A) → IsMore a b → ((x : A) → IsMore (f x) (g x)) → IsMore (option_and_then f a) (option_and_then g b)
IsMore-option_and_then f g None b m each = tt
IsMore-option_and_then f g (Some x) b m each = rw m (each x)

pub IsMore-option_map : {A B : Type 0} (f : A → B) (a b : Option A) → IsMore a b → IsMore (option_map f a) (option_map f b)
IsMore-option_map f None b m = tt
IsMore-option_map f (Some x) b m = rw m refl

extent-more : (f g : ℕ → Option Extent) → ((s : ℕ) → IsMore (f s) (g s)) → (t : PlainType) → IsMore (extent f t) (extent g t)
extent-more f g more Void = tt
extent-more f g more (Num k) = refl
extent-more f g more (Pointer t) = refl
extent-more f g more (Array t n) = IsMore-option_and_then (repeated n) (repeated n) (extent f t) (extent g t) (extent-more f g more t) (λ e. IsMore-same (repeated n e))
extent-more f g more (Struct s) = more s
extent-more f g more (Func t ts) = tt
extent-more f g more (Const t) = extent-more f g more t

pub extents-more : (f g : ℕ → Option Extent) → ((s : ℕ) → IsMore (f s) (g s)) → (ts : List PlainType) → IsMore (extents f ts) (extents g ts)
extents-more f g more [] = refl
extents-more f g more (t ∷ ts) =
    IsMore-option_and_then (λ e. option_map (λ es. e ∷ es) (extents f ts)) (λ e. option_map (λ es. e ∷ es) (extents g ts)) (extent f t) (extent g t)
    (extent-more f g more t)
    (λ e. IsMore-option_map (λ es. e ∷ es) (extents f ts) (extents g ts) (extents-more f g more ts))

-- the structs that have members have the same ones in the second table
abbrev pub Extends : Structs → Structs → Type 0
Extends old new = (s : ℕ) → IsMore (members_of old s) (members_of new s)

pub members_within-more : (m n : ℕ) (old new : Structs) → m ≤ n → Extends old new → (s : ℕ) → IsMore (members_within m old s) (members_within n new s)
members_within-more zero n old new le more s = tt
members_within-more (suc m) zero old new le more s = absurd (omega arith)
members_within-more (suc m) (suc n) old new le more s =
    let f : ℕ → Option Extent = λ r. option_map whole (members_within m old r) in
    let g : ℕ → Option Extent = λ r. option_map whole (members_within n new r) in
    let each : (r : ℕ) → IsMore (f r) (g r) = λ r. IsMore-option_map whole (members_within m old r) (members_within n new r) (members_within-more m n old new (omega arith) more r) in
    IsMore-option_and_then (λ ts. extents f ts) (λ ts. extents g ts) (members_of old s) (members_of new s) (more s) (λ ts. extents-more f g each ts)
