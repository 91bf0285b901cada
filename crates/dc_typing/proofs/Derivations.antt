-- The parts of a declarator, taken from the last.
use Rattle.std.proofs.Common.{◌≡◌, List, [], ◌∷◌, ◌++◌, map, refl, sym, ap, ◌∙◌}
use Rattle.std.proofs.lemmas.List.{map-append}
use Rattle.dc_layout.specs.Types.{PlainType}
use Rattle.dc_typing.specs.DerivedView.{derived_view}
use Rattle.dc_typing.specs.TypeNames as plain
use Rattle.dc_typing.specs.TypeNames.{derived, derived_by}
use Rattle.dc_typing.specs.declared.declarators.Derivation.{Derivation}

derived-last : (ds : List plain.Derivation) (d : plain.Derivation) (t : PlainType) → derived (ds ++ d ∷ []) t ≡ derived ds (derived_by d t)
derived-last [] d t = refl
derived-last (e ∷ ds) d t = ap (derived_by e) (derived-last ds d t)

pub derived-popped : (parts rest : List Derivation) (part : Derivation) (t u : PlainType) → parts ≡ rest ++ part ∷ [] → u ≡ derived_by (derived_view part) t
    → derived (map derived_view rest) u ≡ derived (map derived_view parts) t
derived-popped parts rest part t u these is =
    ap (derived (map derived_view rest)) is
    ∙ (sym (derived-last (map derived_view rest) (derived_view part) t)
    ∙ (ap (λ l. derived l t) (sym (map-append derived_view rest (part ∷ []))) ∙ ap (λ l. derived (map derived_view l) t) (sym these)))
