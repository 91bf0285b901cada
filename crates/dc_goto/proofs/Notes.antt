-- The names that notes fail.
use Rattle.std.proofs.Common.{◌≡◌, ℕ, List, [], ◌∷◌, ◌++◌, refl, ap}
use Rattle.std.specs.Prelude.{map, flat_map, Bool}
use Rattle.dc_core.specs.Event.{Event}
use Rattle.dc_core.specs.Contract.{claimed}
use Rattle.dc_core.specs.Run.{Note, Did, Failed, name_of, checked}

-- the names that notes fail, in order
abbrev pub fails : List Note → List (List ℕ)
fails notes = flat_map name_of notes

pub fails-append : (xs ys : List Note) → fails (xs ++ ys) ≡ fails xs ++ fails ys
fails-append [] ys = refl
fails-append (Did event ∷ xs) ys = fails-append xs ys
fails-append (Failed name ∷ xs) ys = ap (λ names. name ∷ names) (fails-append xs ys)

-- events fail no name
pub fails-did : (events : List Event) → fails (map Did events) ≡ []
fails-did [] = refl
fails-did (event ∷ events) = fails-did events

pub fails-failed : (names : List (List ℕ)) → fails (map Failed names) ≡ names
fails-failed [] = refl
fails-failed (name ∷ names) = ap (λ rest. name ∷ rest) (fails-failed names)

pub fails-checked : (name : List ℕ) (held : Bool) → fails (checked name held) ≡ claimed name held
fails-checked name held = fails-failed (claimed name held)
