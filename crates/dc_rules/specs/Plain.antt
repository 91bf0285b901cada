-- A pointer's number in arithmetic.
use Rattle.dc_num.specs.declared.kind.NumKind.{NumKind}
use Rattle.dc_num.specs.declared.kind.NumKind.TheVariants.{Ptr, U64}

-- the kind of numbers that has the same values; no type of C has the number of a pointer
abbrev pub plain : NumKind → NumKind
plain Ptr = U64
plain k = k
