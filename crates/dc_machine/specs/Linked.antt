-- A goto program with what the machine looks up.
use Rattle.std.specs.Prelude.{◌≡◌, ℕ, List, map}
use Rattle.std.specs.Map.{lookup}
use Rattle.dc_goto.specs.Program as plain
use Rattle.dc_goto.specs.Acts.{static_sizes}
use Rattle.dc_goto.specs.View.{goto_view}
use Rattle.dc_text.specs.Words.{same}
use Rattle.dc_machine.specs.Index.{first_place}
use Rattle.dc_machine.specs.declared.program.Linked.{Linked}

-- an index has the place of the first of each name
abbrev pub IsIndex : List (List ℕ) → List (List ℕ × ℕ) → Type 0
IsIndex names index = (name : List ℕ) → lookup (same name) index ≡ first_place 0 names name

abbrev pub linked_view : Linked → plain.GotoProgram
linked_view p = goto_view p.goto.now

pub record IsLinked (p : Linked) : Type 0 where
  pub sizes : p.sizes.items ≡ static_sizes (linked_view p)
  pub functions : IsIndex (map (λ sig. sig.name) (linked_view p).functions) p.functions
  pub bodies : IsIndex (map (λ body. body.name) (linked_view p).bodies) p.bodies
