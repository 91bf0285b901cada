-- The names in force: which of them are typedefs.
use Rattle.std.specs.Prelude.{ℕ, Bool, true, false, if◌then◌else◌, List, [], ◌∷◌}
use Rattle.dc_text.specs.Words.{same}

-- a declared name, and whether it is a typedef (C11 6.7.8)
pub record Entry : Type 0 where
  pub name : List ℕ
  pub is_type : Bool

-- the names in force, the innermost first
abbrev pub Names : Type 0
Names = List Entry

-- a TYPEDEF-NAME is a name whose innermost declaration is a typedef
abbrev pub in_force : Names → List ℕ → Bool
in_force [] n = false
in_force (e ∷ env) n = if same e.name n then e.is_type else in_force env n

abbrev typedef : List ℕ → Entry
typedef n = record { name = n; is_type = true }

-- the typedefs that are there before a unit: bool, size_t, ptrdiff_t, int8_t to int64_t, uint8_t to uint64_t
abbrev pub first_names : Names
first_names =
    typedef (98 ∷ 111 ∷ 111 ∷ 108 ∷ [])
    ∷ typedef (115 ∷ 105 ∷ 122 ∷ 101 ∷ 95 ∷ 116 ∷ [])
    ∷ typedef (112 ∷ 116 ∷ 114 ∷ 100 ∷ 105 ∷ 102 ∷ 102 ∷ 95 ∷ 116 ∷ [])
    ∷ typedef (105 ∷ 110 ∷ 116 ∷ 56 ∷ 95 ∷ 116 ∷ [])
    ∷ typedef (105 ∷ 110 ∷ 116 ∷ 49 ∷ 54 ∷ 95 ∷ 116 ∷ [])
    ∷ typedef (105 ∷ 110 ∷ 116 ∷ 51 ∷ 50 ∷ 95 ∷ 116 ∷ [])
    ∷ typedef (105 ∷ 110 ∷ 116 ∷ 54 ∷ 52 ∷ 95 ∷ 116 ∷ [])
    ∷ typedef (117 ∷ 105 ∷ 110 ∷ 116 ∷ 56 ∷ 95 ∷ 116 ∷ [])
    ∷ typedef (117 ∷ 105 ∷ 110 ∷ 116 ∷ 49 ∷ 54 ∷ 95 ∷ 116 ∷ [])
    ∷ typedef (117 ∷ 105 ∷ 110 ∷ 116 ∷ 51 ∷ 50 ∷ 95 ∷ 116 ∷ [])
    ∷ typedef (117 ∷ 105 ∷ 110 ∷ 116 ∷ 54 ∷ 52 ∷ 95 ∷ 116 ∷ [])
    ∷ []
