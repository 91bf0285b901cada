-- The parts of a declarator of the code, as plain data.
use Rattle.dc_rules.specs.Seen.{types_view}
use Rattle.dc_typing.specs.declared.declarators.Derivation as code
use Rattle.dc_typing.specs.TypeNames as plain

abbrev pub derived_view : code.Derivation → plain.Derivation
derived_view (code.TheVariants.To const) = plain.To const
derived_view (code.TheVariants.Of n) = plain.Of n
derived_view (code.TheVariants.Taking ts) = plain.Taking (types_view ts)
