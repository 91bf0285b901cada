-- Each kind by its reader, and one more height.
use Rattle.std.proofs.Common.{◌≡◌, ℕ, zero, suc, ◌+◌, ◌-◌, ◌<◌, List, Option, None, Result, Ok, refl, subst, sym, arith}
use Rattle.std.specs.declared.alloc.AllocError.{AllocError}
use Rattle.dc_syntax.specs.Tokens.{Token}
use Rattle.dc_syntax.specs.Names.{Names}
use Rattle.dc_syntax.specs.Reading as spec
use Rattle.dc_syntax.specs.Reading.{Reads, reads, step}
use Rattle.dc_read_expr.specs.Levels as level
use Rattle.dc_read_expr.specs.declared.read.Read.{Read}
use Rattle.dc_read_expr.specs.declared.read.Kind.{Kind}
use Rattle.dc_read_expr.specs.declared.read.Kind.TheVariants as kind
use Rattle.dc_read_expr.specs.View.{Reading, LooselyReading, ReadingOf, kind_view}

pub read_more : (tokens : List Token) (at h : ℕ) (result : Result (Option Read) AllocError) (k : Kind) (env : Names) (ts : List Token) → 0 < h
    → ReadingOf k tokens at (h - 1 + 1) result (step (reads (h - 1)) (h - 1) (kind_view k) env ts) → ReadingOf k tokens at h result (reads h (kind_view k) env ts)
read_more tokens at zero result k env ts lt q = absurd (omega (arith, lt))
read_more tokens at (suc h) result k env ts lt q =
    let e : suc h - 1 ≡ h = omega arith in
    let f : h + 1 ≡ suc h = omega arith in
    subst (λ n. ReadingOf k tokens at n result (step (reads h) h (kind_view k) env ts)) f (subst (λ n. ReadingOf k tokens at (n + 1) result (step (reads n) n (kind_view k) env ts)) e q)

pub read_none : (tokens : List Token) (at h : ℕ) (k : Kind) (env : Names) (ts : List Token) → h ≡ 0 → ReadingOf k tokens at h (Ok None) (reads h (kind_view k) env ts)
read_none tokens at (suc h) k env ts e = absurd (omega (arith, e))
read_none tokens at zero (kind.Upto k) env ts e = refl
read_none tokens at zero kind.Member env ts e = refl
read_none tokens at zero kind.Enumerator env ts e = refl
read_none tokens at zero kind.Declarator env ts e = refl

pub step_upto : (tokens : List Token) (at limit : ℕ) (result : Result (Option Read) AllocError) (k : Kind) (n : ℕ) (r : Reads) (h : ℕ) (env : Names) (ts : List Token) → k ≡ kind.Upto n
    → Reading tokens at limit result (level.upto r h env n ts) → ReadingOf k tokens at limit result (step r h (kind_view k) env ts)
unfolding level.upto
step_upto tokens at limit result k n r h env ts e q = subst (λ k. ReadingOf k tokens at limit result (step r h (kind_view k) env ts)) (sym e) q

pub step_member : (tokens : List Token) (at limit : ℕ) (result : Result (Option Read) AllocError) (k : Kind) (r : Reads) (h : ℕ) (env : Names) (ts : List Token) → k ≡ kind.Member
    → Reading tokens at limit result (spec.member r h env ts) → ReadingOf k tokens at limit result (step r h (kind_view k) env ts)
step_member tokens at limit result k r h env ts e q = subst (λ k. ReadingOf k tokens at limit result (step r h (kind_view k) env ts)) (sym e) q

pub step_enumerator : (tokens : List Token) (at limit : ℕ) (result : Result (Option Read) AllocError) (k : Kind) (r : Reads) (h : ℕ) (env : Names) (ts : List Token) → k ≡ kind.Enumerator
    → Reading tokens at limit result (spec.enumerator r h env ts) → ReadingOf k tokens at limit result (step r h (kind_view k) env ts)
step_enumerator tokens at limit result k r h env ts e q = subst (λ k. ReadingOf k tokens at limit result (step r h (kind_view k) env ts)) (sym e) q

pub step_declarator : (tokens : List Token) (at limit : ℕ) (result : Result (Option Read) AllocError) (k : Kind) (r : Reads) (h : ℕ) (env : Names) (ts : List Token) → k ≡ kind.Declarator
    → LooselyReading tokens at limit result (spec.declarator r h env ts) → ReadingOf k tokens at limit result (step r h (kind_view k) env ts)
step_declarator tokens at limit result k r h env ts e q = subst (λ k. ReadingOf k tokens at limit result (step r h (kind_view k) env ts)) (sym e) q
