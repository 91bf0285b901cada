-- A name, a declarator in parentheses, or nothing.
use Rattle.std.proofs.Common.{◌≡◌, ℕ, ◌+◌, Bool, true, false, if◌then◌else◌, not, List, drop, refl, sym, ap, ◌∙◌, arith}
use Rattle.dc_syntax.specs.declared.mark.Mark.TheVariants.{LeftParen, RightParen}
use Rattle.dc_syntax.specs.declared.raw.Raw.TheViews as raw
use Rattle.dc_syntax.specs.Tokens.{Token, Place, Word, Marked}
use Rattle.dc_syntax.specs.Names.{Names}
use Rattle.dc_syntax.specs.Trees.{Tree, Nameless, Wrapped, is_nameless}
use Rattle.dc_syntax.specs.Reading.{Out, Nothing, Found, Reads, DeclaratorOf, next, checked, eat, between, found, opens, direct, direct_at}
use Rattle.dc_syntax.specs.View.{raw_view}
use Rattle.dc_read_expr.specs.declared.read.Read.{Read}
use Rattle.dc_read_expr.specs.View.{IsLooseReading, IsNext}
use Rattle.dc_read_expr.proofs.Placed.{placed_reading, loosely}
use Rattle.dc_read_expr.proofs.Pointers.{eat_at}
use Rattle.dc_read_expr.proofs.Shapes.{raw_view-Wrapped}

direct_by : (r : Reads) (env : Names) (tokens : List Token) (at : ℕ) (w : Word) → IsNext tokens at w → direct r env (drop at tokens) ≡ direct_at r env (drop at tokens) w (drop (at + 1) tokens)
direct_by r env tokens at w n =
    ap (direct r env) n.whole
    ∙ (ap (λ ts. direct_at r env ts n.token.word (drop (at + 1) tokens)) (sym n.whole) ∙ ap (λ w. direct_at r env (drop at tokens) w (drop (at + 1) tokens)) n.word)

abbrev wrapped_end : List Token → Tree → List Token → Out Tree
wrapped_end all d rest = eat (Marked RightParen) rest (λ rest. found all (Wrapped d) rest)

abbrev wrapped : List Token → Out Tree → Out Tree
wrapped all o = next o (λ d rest. checked (not (is_nameless d)) (wrapped_end all d rest))

abbrev either : Reads → Names → List Token → List Token → Bool → Out Tree
either r env all ts b = if b then wrapped all (r DeclaratorOf env ts) else Found Nameless all

wrapped_by : (r : Reads) (env : Names) (tokens : List Token) (at : ℕ) → IsNext tokens at (Marked LeftParen) → opens env (drop (at + 1) tokens) ≡ true
    → direct r env (drop at tokens) ≡ wrapped (drop at tokens) (r DeclaratorOf env (drop (at + 1) tokens))
wrapped_by r env tokens at n y = direct_by r env tokens at (Marked LeftParen) n ∙ ap (either r env (drop at tokens) (drop (at + 1) tokens)) y

wrapped_if : (r : Reads) (env : Names) (tokens : List Token) (at limit : ℕ) (d : Read) (b : Bool) → IsNext tokens at (Marked LeftParen) → opens env (drop (at + 1) tokens) ≡ true
    → IsLooseReading tokens (at + 1) limit d (r DeclaratorOf env (drop (at + 1) tokens)) → is_nameless (raw_view d.tree) ≡ b → direct r env (drop at tokens) ≡ checked (not b) (wrapped_end (drop at tokens) (raw_view d.tree) (drop d.at tokens))
wrapped_if r env tokens at limit d b n y q e =
    wrapped_by r env tokens at n y ∙ (ap (wrapped (drop at tokens)) q.found ∙ ap (λ b. checked (not b) (wrapped_end (drop at tokens) (raw_view d.tree) (drop d.at tokens))) e)

pub wrapped_nameless : (r : Reads) (env : Names) (tokens : List Token) (at limit : ℕ) (d : Read) → IsNext tokens at (Marked LeftParen) → opens env (drop (at + 1) tokens) ≡ true
    → IsLooseReading tokens (at + 1) limit d (r DeclaratorOf env (drop (at + 1) tokens)) → is_nameless (raw_view d.tree) ≡ true → direct r env (drop at tokens) ≡ Nothing
wrapped_nameless r env tokens at limit d n y q e = wrapped_if r env tokens at limit d true n y q e

pub wrapped_reading : (r : Reads) (env : Names) (tokens : List Token) (at limit : ℕ) (d : Read) (p : Place) (read : Read) → IsNext tokens at (Marked LeftParen) → opens env (drop (at + 1) tokens) ≡ true
    → IsLooseReading tokens (at + 1) limit d (r DeclaratorOf env (drop (at + 1) tokens)) → is_nameless (raw_view d.tree) ≡ false → IsNext tokens d.at (Marked RightParen)
    → read.tree ≡ raw.Wrapped d.tree p → p ≡ between (drop at tokens) (drop (d.at + 1) tokens) → read.height ≡ d.height + 1 → read.at ≡ d.at + 1 → IsLooseReading tokens at (limit + 1) read (direct r env (drop at tokens))
wrapped_reading r env tokens at limit d p read n y q e end tree place high there =
    loosely tokens at (limit + 1) read _
    (placed_reading tokens at (d.at + 1) (limit + 1) (Wrapped (raw_view d.tree)) p read _
    (wrapped_if r env tokens at limit d false n y q e ∙ eat_at (Marked RightParen) tokens d.at (λ rest. found (drop at tokens) (Wrapped (raw_view d.tree)) rest) refl end)
    (ap raw_view tree ∙ raw_view-Wrapped d.tree p) place (omega (arith, high, q.high)) (omega (arith, high, q.short)) (omega (arith, q.after)) (omega (arith, end.within)) there)
