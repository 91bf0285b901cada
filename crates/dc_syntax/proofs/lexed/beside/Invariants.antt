use Rattle.std.proofs.Common.{◌≡◌, map, drop}
use Rattle.std.specs.Map.{lookup}
use Rattle.dc_text.specs.Words.{same}
use Rattle.dc_syntax.proofs.lexed.beside.Given as goal

abbrev pub invariant-loop-row : goal.invariant-loop-row
invariant-loop-row g l = lookup (same l.bytes) (map (λ row. (row.0.now, row.1)) l.table) ≡ lookup (same l.bytes) (map (λ row. (row.0.now, row.1)) (drop l.row-index l.table))
