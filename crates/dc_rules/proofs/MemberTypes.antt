-- The members of the structs of a table, as plain types.
use Rattle.std.proofs.Common.{◌≡◌, ℕ, zero, suc, List, [], ◌∷◌, map, Option, Some, None, refl, sym}
use Rattle.std.specs.Prelude.{slice_get}
use Rattle.std.specs.Option.{option_map}
use Rattle.std.proofs.lemmas.Option.{slice_get-map}
use Rattle.dc_layout.specs.declared.ctype.CType.{CType}
use Rattle.dc_layout.specs.Types.{PlainType, members_of, structs_view, type_view}
use Rattle.dc_program.specs.Types.{struct_of}
use Rattle.dc_program.specs.Typing.{member_in}
use Rattle.dc_rules.specs.Seen.{part_view}

pub members_of-structs_view : (structs : List (Option (List CType))) (s : ℕ) → members_of (structs_view structs) s ≡ option_map (map type_view) (members_of structs s)
members_of-structs_view [] s = refl
members_of-structs_view (one ∷ structs) zero = refl
members_of-structs_view (one ∷ structs) (suc s) = members_of-structs_view structs s

pub member_in-members : (structs : List (Option (List CType))) (t : PlainType) (k s : ℕ) (members : List CType) (r : Option CType)
    → struct_of t ≡ Some s → members_of structs s ≡ Some members → r ≡ slice_get members k → part_view r ≡ member_in (structs_view structs) t k
member_in-members structs t k s members r number found is =
    rw (number, members_of-structs_view structs s, found, is) (sym (slice_get-map type_view members k))

pub member_in-open : (structs : List (Option (List CType))) (t : PlainType) (k s : ℕ) → struct_of t ≡ Some s → members_of structs s ≡ None → None ≡ member_in (structs_view structs) t k
member_in-open structs t k s number none = rw (number, members_of-structs_view structs s, none) refl
