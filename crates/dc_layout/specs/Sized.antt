-- When structs can be made of types.
use Rattle.std.specs.Prelude.{List, All, Option, IsOk}
use Rattle.dc_layout.specs.declared.ctype.CType.{CType}
use Rattle.dc_layout.specs.Types.{type_view, structs_view}
use Rattle.dc_layout.specs.Layout.{size_answer}

-- each type has a size within the limit
abbrev pub AllSized : List (Option (List CType)) → List CType → Type 0
AllSized structs all = All (λ t. IsOk (size_answer (structs_view structs) (type_view t))) all
