-- Parameters of function types, one by one.
use Rattle.std.proofs.Common.{◌≡◌, ℕ, suc, ◌+◌, ◌<◌, Bool, true, false, ◌&&◌, List, [], ◌∷◌, map, length, drop, get_or, refl, sym, ap, ◌∙◌}
use Rattle.std.proofs.lemmas.List.{at_drop_more}
use Rattle.dc_layout.specs.declared.ctype.CType.{CType}
use Rattle.dc_layout.specs.Types.{PlainType, PlainTypes, Void, Num, Pointer, Array, Struct, Func, Const, NoTypes, Types, type_view, types}
use Rattle.dc_scope.specs.SameTypes.{same_type, same_parameters, unqualified}

same_parameters-Types : (p q : PlainType) (ps qs : PlainTypes) → same_parameters (Types p ps) (Types q qs) ≡ (same_type (unqualified p) (unqualified q) && same_parameters ps qs)
same_parameters-Types Void q ps qs = refl
same_parameters-Types (Num k) q ps qs = refl
same_parameters-Types (Pointer t) q ps qs = refl
same_parameters-Types (Array t n) q ps qs = refl
same_parameters-Types (Struct s) q ps qs = refl
same_parameters-Types (Func t us) q ps qs = refl
same_parameters-Types (Const t) q ps qs = refl

same_parameters-NoTypes : (p : PlainType) (ps : PlainTypes) → same_parameters (Types p ps) NoTypes ≡ false
same_parameters-NoTypes (Const t) ps = refl
same_parameters-NoTypes Void ps = refl
same_parameters-NoTypes (Num k) ps = refl
same_parameters-NoTypes (Pointer t) ps = refl
same_parameters-NoTypes (Array t n) ps = refl
same_parameters-NoTypes (Struct s) ps = refl
same_parameters-NoTypes (Func t us) ps = refl

-- the parameters of two function types of the code
abbrev pub parameters_same : List CType → List CType → Bool
parameters_same xs ys = same_parameters (types (map type_view xs)) (types (map type_view ys))

and_false : (b : Bool) → (b && false) ≡ false
and_false true = refl
and_false false = refl

-- not as many
pub parameters_same-length : (xs ys : List CType) → (length xs ≡ length ys → ⊥) → false ≡ parameters_same xs ys
parameters_same-length [] [] ne = absurd (ne refl)
parameters_same-length [] (y ∷ ys) ne = refl
parameters_same-length (x ∷ xs) [] ne = sym (same_parameters-NoTypes (type_view x) (types (map type_view xs)))
parameters_same-length (x ∷ xs) (y ∷ ys) ne =
    let one = same_type (unqualified (type_view x)) (unqualified (type_view y)) in
    sym (same_parameters-Types (type_view x) (type_view y) (types (map type_view xs)) (types (map type_view ys))
    ∙ ap (λ b. one && b) (sym (parameters_same-length xs ys (λ e. ne (ap (λ n. suc n) e)))) ∙ and_false one)

-- the first of those that are left, and the others
pub parameters_same-drop : (xs ys : List CType) (i : ℕ) (x y : CType) → i < length xs → i < length ys → x ≡ get_or xs i x → y ≡ get_or ys i y
    → parameters_same (drop i xs) (drop i ys) ≡ (same_type (unqualified (type_view x)) (unqualified (type_view y)) && parameters_same (drop (i + 1) xs) (drop (i + 1) ys))
parameters_same-drop xs ys i x y lx ly ex ey =
    at_drop_more (λ l. parameters_same l (drop i ys)) xs i x lx
    ∙ at_drop_more (parameters_same (get_or xs i x ∷ drop (i + 1) xs)) ys i y ly
    ∙ same_parameters-Types (type_view (get_or xs i x)) (type_view (get_or ys i y)) (types (map type_view (drop (i + 1) xs))) (types (map type_view (drop (i + 1) ys)))
    ∙ ap (λ z. same_type (unqualified (type_view z)) (unqualified (type_view (get_or ys i y))) && parameters_same (drop (i + 1) xs) (drop (i + 1) ys)) (sym ex)
    ∙ ap (λ z. same_type (unqualified (type_view x)) (unqualified (type_view z)) && parameters_same (drop (i + 1) xs) (drop (i + 1) ys)) (sym ey)

-- one that differs, of those that are left
pub parameters_differ : (xs ys : List CType) (i : ℕ) (x y : CType) (b : Bool) → i < length xs → i < length ys → x ≡ get_or xs i x → y ≡ get_or ys i y
    → b ≡ same_type (unqualified (type_view x)) (unqualified (type_view y)) → b ≡ false → parameters_same (drop i xs) (drop i ys) ≡ parameters_same xs ys → false ≡ parameters_same xs ys
parameters_differ xs ys i x y b lx ly ex ey is differ all =
    sym (sym all ∙ parameters_same-drop xs ys i x y lx ly ex ey ∙ ap (λ c. c && parameters_same (drop (i + 1) xs) (drop (i + 1) ys)) (sym is ∙ differ))

-- one that is the same
pub parameters_agree : (xs ys : List CType) (i : ℕ) (x y : CType) (b : Bool) → i < length xs → i < length ys → x ≡ get_or xs i x → y ≡ get_or ys i y
    → b ≡ same_type (unqualified (type_view x)) (unqualified (type_view y)) → b ≡ true → parameters_same (drop i xs) (drop i ys) ≡ parameters_same xs ys
    → parameters_same (drop (i + 1) xs) (drop (i + 1) ys) ≡ parameters_same xs ys
parameters_agree xs ys i x y b lx ly ex ey is agree all =
    sym (ap (λ c. c && parameters_same (drop (i + 1) xs) (drop (i + 1) ys)) (sym is ∙ agree)) ∙ sym (parameters_same-drop xs ys i x y lx ly ex ey) ∙ all
