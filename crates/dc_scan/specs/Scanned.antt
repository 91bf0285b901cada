-- What is said of a text that was scanned.
use Rattle.dc_scan.specs.declared.fault.Scan.{Scan}
use Rattle.dc_scan.specs.declared.fault.Scan.TheVariants.{Line, Shape, Memory}

-- there was no memory
abbrev pub IsMemory : Scan → Type 0
IsMemory (Line k) = ⊥
IsMemory (Shape k) = ⊥
IsMemory (Memory error) = Unit {0}
