-- Each kind by its reader, and one more height.
use Rattle.std.proofs.Common.{◌≡◌, ℕ, zero, suc, ◌+◌, ◌-◌, ◌<◌, List, Option, Result, refl, subst, arith}
use Rattle.std.specs.declared.alloc.AllocError.{AllocError}
use Rattle.dc_syntax.specs.Tokens.{Token}
use Rattle.dc_syntax.specs.Names.{Names}
use Rattle.dc_syntax.specs.Reading.{Nothing, reads}
use Rattle.dc_syntax.specs.ReadingUnits.{PartKind, part_step, reads_part}
use Rattle.dc_read_unit.specs.declared.read.ReadPart.{ReadPart}
use Rattle.dc_read_unit.specs.PartView.{Parting}

pub part_more : (tokens : List Token) (at h : ℕ) (result : Result (Option ReadPart) AllocError) (k : PartKind) (env : Names) (ts : List Token) → 0 < h
    → Parting tokens at (h - 1 + 1) result (part_step (reads (h - 1)) (reads_part (h - 1)) (h - 1) k env ts) → Parting tokens at h result (reads_part h k env ts)
part_more tokens at zero result k env ts lt q = absurd (omega (arith, lt))
part_more tokens at (suc h) result k env ts lt q =
    let e : suc h - 1 ≡ h = omega arith in
    let f : h + 1 ≡ suc h = omega arith in
    subst (λ n. Parting tokens at n result (part_step (reads h) (reads_part h) h k env ts)) f (subst (λ n. Parting tokens at (n + 1) result (part_step (reads n) (reads_part n) n k env ts)) e q)

pub part_zero : (h : ℕ) (k : PartKind) (env : Names) (ts : List Token) → h ≡ 0 → reads_part h k env ts ≡ Nothing
part_zero (suc h) k env ts e = absurd (omega (arith, e))
part_zero zero k env ts e = refl
