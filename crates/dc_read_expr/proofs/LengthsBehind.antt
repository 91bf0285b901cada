-- A length or parameters behind a declarator.
use Rattle.std.proofs.Common.{◌≡◌, ℕ, ◌+◌, ◌≤◌, max, Bool, true, false, if◌then◌else◌, List, map, drop, refl, ap, ◌∙◌, arith}
use Rattle.dc_syntax.specs.declared.mark.Mark.TheVariants.{LeftParen, RightParen, LeftBracket, RightBracket}
use Rattle.dc_syntax.specs.declared.raw.Raw.TheViews as raw
use Rattle.dc_syntax.specs.Tokens.{Token, Place, Word, Marked}
use Rattle.dc_syntax.specs.Names.{Names}
use Rattle.dc_syntax.specs.Trees.{Tree, Unsized, Sized, Function, height}
use Rattle.dc_syntax.specs.Reading.{Out, Found, Reads, Upto, eat, between, begins, found, parameters, suffix_at, suffix_one}
use Rattle.dc_syntax.specs.View.{raw_view, parameters_tree}
use Rattle.dc_read_expr.specs.declared.read.Read.{Read}
use Rattle.dc_read_expr.specs.declared.lists.ReadItems.{ReadItems}
use Rattle.dc_read_expr.specs.View.{IsReading, IsTurn, IsListing, IsNext}
use Rattle.dc_read_expr.proofs.Closed.{closed, closed_found}
use Rattle.dc_read_expr.proofs.Eating.{eaten, within_begins}
use Rattle.dc_read_expr.proofs.Placed.{placed_reading, turning}
use Rattle.dc_read_expr.proofs.Shapes.{raw_view-Unsized, raw_view-Sized, raw_view-Function}

suffix_by : (r : Reads) (h : ℕ) (env : Names) (all : List Token) (d : Tree) (tokens : List Token) (at : ℕ) (w : Word) → IsNext tokens at w → suffix_one r h env all d (drop at tokens) ≡ suffix_at r h env all d w (drop (at + 1) tokens)
suffix_by r h env all d tokens at w n = ap (suffix_one r h env all d) n.whole ∙ ap (λ w. suffix_at r h env all d w (drop (at + 1) tokens)) n.word

abbrev unsized : List Token → Tree → List Token → Out Tree
unsized all d ts = eat (Marked RightBracket) ts (λ rest. found all (Unsized d) rest)

abbrev sized : Reads → Names → List Token → Tree → List Token → Out Tree
sized r env all d ts = closed (Marked RightBracket) all (Sized d) (r (Upto 15) env ts)

abbrev either : Reads → Names → List Token → Tree → List Token → Bool → Out Tree
either r env all d ts b = if b then unsized all d ts else sized r env all d ts

unsized_by : (r : Reads) (h : ℕ) (env : Names) (all : List Token) (d : Tree) (tokens : List Token) (at : ℕ) → IsNext tokens at (Marked LeftBracket) → begins (Marked RightBracket) (drop (at + 1) tokens) ≡ true
    → suffix_one r h env all d (drop at tokens) ≡ Found (Unsized d (between all (drop (at + 1 + 1) tokens))) (drop (at + 1 + 1) tokens)
unsized_by r h env all d tokens at n y =
    suffix_by r h env all d tokens at (Marked LeftBracket) n ∙ (ap (either r env all d (drop (at + 1) tokens)) y
    ∙ eaten (Marked RightBracket) tokens (at + 1) (λ rest. found all (Unsized d) rest) y)

sized_by : (r : Reads) (h : ℕ) (env : Names) (all : List Token) (d : Tree) (tokens : List Token) (at : ℕ) → IsNext tokens at (Marked LeftBracket) → begins (Marked RightBracket) (drop (at + 1) tokens) ≡ false
    → suffix_one r h env all d (drop at tokens) ≡ sized r env all d (drop (at + 1) tokens)
sized_by r h env all d tokens at n m = suffix_by r h env all d tokens at (Marked LeftBracket) n ∙ ap (either r env all d (drop (at + 1) tokens)) m

pub unsized_turn : (r : Reads) (h : ℕ) (env : Names) (tokens : List Token) (from : ℕ) (before : Read) (p : Place) (read : Read) → IsNext tokens before.at (Marked LeftBracket) → begins (Marked RightBracket) (drop (before.at + 1) tokens) ≡ true → from ≤ before.at
    → before.height ≡ height (raw_view before.tree) → before.height ≤ h → read.tree ≡ raw.Unsized before.tree p → p ≡ between (drop from tokens) (drop (before.at + 1 + 1) tokens) → read.height ≡ before.height + 1 → read.at ≡ before.at + 1 + 1
    → IsTurn tokens from (h + 1) before read (suffix_one r h env (drop from tokens) (raw_view before.tree) (drop before.at tokens))
unsized_turn r h env tokens from before p read n y le before_high before_low tree place high at =
    turning tokens from (h + 1) before read _
    (placed_reading tokens from (before.at + 1 + 1) (h + 1) (Unsized (raw_view before.tree)) p read _ (unsized_by r h env (drop from tokens) (raw_view before.tree) tokens before.at n y) (ap raw_view tree ∙ raw_view-Unsized before.tree p) place
    (omega (arith, high, before_high)) (omega (arith, high, before_low)) (omega (arith, le)) (omega (arith, within_begins (Marked RightBracket) tokens (before.at + 1) y)) at)
    (omega (arith, high))

pub sized_turn : (r : Reads) (h : ℕ) (env : Names) (tokens : List Token) (from : ℕ) (before c : Read) (p : Place) (read : Read) → IsNext tokens before.at (Marked LeftBracket) → begins (Marked RightBracket) (drop (before.at + 1) tokens) ≡ false → from ≤ before.at
    → before.height ≡ height (raw_view before.tree) → before.height ≤ h → IsReading tokens (before.at + 1) h c (r (Upto 15) env (drop (before.at + 1) tokens)) → IsNext tokens c.at (Marked RightBracket)
    → read.tree ≡ raw.Sized before.tree c.tree p → p ≡ between (drop from tokens) (drop (c.at + 1) tokens) → read.height ≡ max before.height c.height + 1 → read.at ≡ c.at + 1
    → IsTurn tokens from (h + 1) before read (suffix_one r h env (drop from tokens) (raw_view before.tree) (drop before.at tokens))
sized_turn r h env tokens from before c p read n m le before_high before_low q end tree place high at =
    let all = drop from tokens in
    let d = raw_view before.tree in
    turning tokens from (h + 1) before read _
    (placed_reading tokens from (c.at + 1) (h + 1) (Sized (raw_view before.tree) (raw_view c.tree)) p read _
    (sized_by r h env all d tokens before.at n m ∙ closed_found (Marked RightBracket) all (Sized d) (r (Upto 15) env (drop (before.at + 1) tokens)) (raw_view c.tree) tokens c.at refl q.found end)
    (ap raw_view tree ∙ raw_view-Sized before.tree c.tree p) place (omega (arith, high, before_high, q.high)) (omega (arith, high, before_low, q.short)) (omega (arith, le, q.after)) (omega (arith, end.within)) at)
    (omega (arith, high))

abbrev function : Reads → ℕ → Names → List Token → Tree → List Token → Out Tree
function r h env all d ts = closed (Marked RightParen) all (Function d) (parameters r h env ts)

function_by : (r : Reads) (h : ℕ) (env : Names) (all : List Token) (d : Tree) (tokens : List Token) (at : ℕ) → IsNext tokens at (Marked LeftParen) → suffix_one r h env all d (drop at tokens) ≡ function r h env all d (drop (at + 1) tokens)
function_by r h env all d tokens at n = suffix_by r h env all d tokens at (Marked LeftParen) n

pub function_turn : (r : Reads) (h : ℕ) (env : Names) (tokens : List Token) (from : ℕ) (before : Read) (list : ReadItems) (p : Place) (read : Read) → IsNext tokens before.at (Marked LeftParen) → from ≤ before.at
    → before.height ≡ height (raw_view before.tree) → before.height ≤ h → IsListing tokens (before.at + 1) h parameters_tree list (parameters r h env (drop (before.at + 1) tokens)) → IsNext tokens list.at (Marked RightParen)
    → read.tree ≡ raw.Function before.tree list.items p → p ≡ between (drop from tokens) (drop (list.at + 1) tokens) → read.height ≡ max before.height list.height + 1 → read.at ≡ list.at + 1
    → IsTurn tokens from (h + 1) before read (suffix_one r h env (drop from tokens) (raw_view before.tree) (drop before.at tokens))
function_turn r h env tokens from before list p read n le before_high before_low l end tree place high at =
    let all = drop from tokens in
    let d = raw_view before.tree in
    turning tokens from (h + 1) before read _
    (placed_reading tokens from (list.at + 1) (h + 1) (Function (raw_view before.tree) (parameters_tree (map raw_view list.items))) p read _
    (function_by r h env all d tokens before.at n ∙ closed_found (Marked RightParen) all (Function d) (parameters r h env (drop (before.at + 1) tokens)) (parameters_tree (map raw_view list.items)) tokens list.at refl l.found end)
    (ap raw_view tree ∙ raw_view-Function before.tree list.items p) place (omega (arith, high, before_high, l.high)) (omega (arith, high, before_low, l.short)) (omega (arith, le, l.after)) (omega (arith, end.within)) at)
    (omega (arith, high))
