-- Lines by their places.
use Rattle.std.proofs.Common.{◌≡◌, ℕ, zero, suc, ◌<◌, List, [], ◌∷◌, length, map, get_or, Option, None, Some, Bor, sym, ap, ◌∙◌, arith}
use Rattle.std.specs.Prelude.{slice_get}
use Rattle.std.specs.Option.{option_map, option_copied}
use Rattle.std.proofs.lemmas.Option.{slice_get-map}
use Rattle.dc_scan.specs.View.{line_view}
use Rattle.dc_scan.specs.declared.lines.Line.{Line}

pub line_at : (lines : List Line) (i : ℕ) (line : Line) → i < length lines → line ≡ get_or lines i line → slice_get (map line_view lines) i ≡ Some (line_view line)
line_at [] i line lt e = absurd (omega arith)
line_at (x ∷ lines) zero line lt e = ap (λ l. Some (line_view l)) (sym e)
line_at (x ∷ lines) (suc i) line lt e = let lt' : i < length lines = omega arith in line_at lines i line lt' e

pub next_at : (found : Option (Bor Line)) (lines : List Line) (i : ℕ) → option_copied found ≡ slice_get lines i → option_map (λ l. line_view l.now) found ≡ slice_get (map line_view lines) i
next_at None lines i e = sym (slice_get-map line_view lines i ∙ ap (option_map line_view) (sym e))
next_at (Some l) lines i e = sym (slice_get-map line_view lines i ∙ ap (option_map line_view) (sym e))
