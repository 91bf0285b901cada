-- What is seen of parts of types.
use Rattle.std.specs.Prelude.{Option, Result, Ok, Err, List, map}
use Rattle.std.specs.Option.{option_map}
use Rattle.dc_layout.specs.Types.{PlainType, PlainTypes, type_view, types}
use Rattle.dc_layout.specs.declared.ctype.CType.{CType}
use Rattle.dc_program.specs.Typing.{Judged}
use Rattle.dc_program.specs.declared.rule.Rule.{Rule}

-- of an answer that takes no memory
abbrev pub seen : Result CType Rule → Judged PlainType
seen (Ok t) = Ok (type_view t)
seen (Err rule) = Err rule

-- of a type that may be there
abbrev pub part_view : Option CType → Option PlainType
part_view = option_map type_view

-- of types, in their order
abbrev pub types_view : List CType → PlainTypes
types_view all = types (map type_view all)
