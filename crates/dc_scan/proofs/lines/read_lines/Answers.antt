use Rattle.std.proofs.Common.{◌≡◌, ◌+◌, [], ◌∷◌, map, length, sym, subst, ap, ◌∙◌, arith, rules}
use Rattle.std.proofs.lemmas.List.{map-append, length-map}
use Rattle.dc_scan.specs.declared.form.Form.TheVariants.{NoForm}
use Rattle.dc_scan.specs.View.{line_view}
use Rattle.dc_scan.proofs.Lined.{Lined, lined_more, lined_stuck, line_shortens}
use Rattle.dc_scan.proofs.lines.read_lines.Goals as goal

pub each-smaller : goal.each-smaller
each-smaller c = line_shortens c.each.cursor c.read_line.new.cursor (line_view c.in-Ok.line) c.in-Ok.ensures.found

pub each-preserved : goal.each-preserved
each-preserved c =
    subst (λ lines. Lined c.args.bytes.now lines c.read_line.new.cursor)
    (sym (ap (map line_view) c.in_ok-push_line-in-Ok.ensures.ok ∙ map-append line_view c.each.lines.items (c.in-Ok.line ∷ [])))
    (lined_more c.args.bytes.now (map line_view c.each.lines.items) c.each.cursor c.read_line.new.cursor (line_view c.in-Ok.line) c.each.invariant c.in-Ok.ensures.found)

pub returns-in-Err-NoForm-clause-formless : goal.returns-in-Err-NoForm-clause-formless
returns-in-Err-NoForm-clause-formless c =
    λ k e.
    let known : c.in-Err-NoForm.field-0 ≡ NoForm = c.in-Err-NoForm.field-0-is in
    let number : k ≡ c.len.result + 1 = cc e in
    let mapped : length (map line_view c.each.lines.items) ≡ length c.each.lines.items = simp length-map in
    let len : c.len.result ≡ length (map line_view c.each.lines.items) = omega (arith, c.each.lines.ok.0, mapped) in
    lined_stuck c.args.bytes.now (map line_view c.each.lines.items) c.each.cursor k c.each.invariant (λ h. let t = c.is_empty.ensures.1 h in cc) (c.in-Err-NoForm.ensures.none (search rules)) (number ∙ ap (λ n. n + 1) len)
