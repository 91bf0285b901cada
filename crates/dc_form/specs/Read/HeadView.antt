-- The head of the code as plain data.
use Rattle.std.specs.Prelude.{ℕ, List, map}
use Rattle.dc_program.specs.declared.program.StaticVariable.{StaticVariable}
use Rattle.dc_form.specs.declared.signature.Head.{Head}
use Rattle.dc_form.specs.Read.Signature as plain

-- the names of variables
abbrev pub names_of : List StaticVariable → List (List ℕ)
names_of variables = map (λ v. v.name) variables

abbrev pub head_view : Head → plain.Head
head_view h = plain.head (names_of h.statics) h.gives_int h.name
