-- A clause of groups is its groups in parentheses, with a place.
use Rattle.std.proofs.Common.{◌≡◌, ℕ, ◌+◌, Bool, true, false, if◌then◌else◌, List, [], ◌∷◌, map, drop, Option, None, Result, Ok, suc, refl, sym, ap, ◌∙◌, arith}
use Rattle.std.specs.declared.alloc.AllocError.{AllocError}
use Rattle.dc_syntax.specs.declared.mark.Mark.TheVariants.{LeftParen, RightParen}
use Rattle.dc_syntax.specs.Tokens.{Token, Place, Marked, is_word}
use Rattle.dc_syntax.specs.Names.{Names}
use Rattle.dc_syntax.specs.Parts.{Part, height_of}
use Rattle.dc_syntax.specs.Reading.{Out, Nothing, Found, Reads, next, eat, between, found}
use Rattle.dc_syntax.specs.ReadingUnits.{groups, grouped}
use Rattle.dc_syntax.specs.UnitView.{part_view, groups_part}
use Rattle.dc_read_unit.specs.declared.clauses.TargetClause.{TargetClause}
use Rattle.dc_read_unit.specs.declared.clauses.TargetClause.TheVariants as target
use Rattle.dc_read_unit.specs.declared.read.ReadPart.{ReadPart}
use Rattle.dc_read_unit.specs.declared.read.ReadParts.{ReadParts}
use Rattle.dc_read_unit.specs.ClauseParts.{closed_groups, target_part}
use Rattle.dc_read_unit.specs.PartView.{PartsListing, IsPart, IsParts}
use Rattle.dc_read_unit.proofs.Answered.{parts_none, placed_part}

abbrev Node : Type 0
Node = Part → Place → Part

closes : (all : List Token) (node : Node) (g : Part) (rest : List Token) → eat (Marked RightParen) rest (λ rest. found all (node g) rest) ≡ next (eat (Marked RightParen) rest (λ rest. Found g rest)) (λ g rest. found all (node g) rest)
closes all node g [] = refl
closes all node g (u ∷ rest) = by (is_word (Marked RightParen) u.word)
  where
    by : (b : Bool) → (if b then found all (node g) rest else Nothing) ≡ next (if b then Found g rest else Nothing) (λ g rest. found all (node g) rest)
    by true = refl
    by false = refl

closes-all : (all : List Token) (node : Node) (o : Out Part) → next o (λ g rest. eat (Marked RightParen) rest (λ rest. found all (node g) rest))
    ≡ next (next o (λ g rest. eat (Marked RightParen) rest (λ rest. Found g rest))) (λ g rest. found all (node g) rest)
closes-all all node Nothing = refl
closes-all all node (Found g rest) = closes all node g rest

grouped_by : (r : Reads) (env : Names) (all ts : List Token) (node : Node) → grouped r env all ts node ≡ next (closed_groups r env ts) (λ g rest. found all (node g) rest)
grouped_by r env all [] node = refl
grouped_by r env all (t ∷ ts) node = by (is_word (Marked LeftParen) t.word)
  where
    by : (b : Bool) → (if b then next (groups r env ts) (λ g rest. eat (Marked RightParen) rest (λ rest. found all (node g) rest)) else Nothing)
        ≡ next (if b then next (groups r env ts) (λ g rest. eat (Marked RightParen) rest (λ rest. Found g rest)) else Nothing) (λ g rest. found all (node g) rest)
    by true = closes-all all node (groups r env ts)
    by false = refl

height-target_part : (kind : TargetClause) (g : Part) (p : Place) → height_of (target_part kind g p) ≡ suc (height_of g)
height-target_part target.Assigns g p = refl
height-target_part target.Frees g p = refl

module _ (r : Reads) (env : Names) (tokens : List Token) (at start limit : ℕ) (kind : TargetClause) where
  grouped_from : start ≡ at + 1 → grouped r env (drop at tokens) (drop (at + 1) tokens) (target_part kind) ≡ next (closed_groups r env (drop start tokens)) (λ g rest. found (drop at tokens) (target_part kind g) rest)
  grouped_from there =
      grouped_by r env (drop at tokens) (drop (at + 1) tokens) (target_part kind) ∙ ap (λ k. next (closed_groups r env (drop k tokens)) (λ g rest. found (drop at tokens) (target_part kind g) rest)) (sym there)

  pub grouped_none : (result : Result (Option ReadParts) AllocError) → start ≡ at + 1 → PartsListing tokens (start + 1) limit groups_part result (closed_groups r env (drop start tokens)) → result ≡ Ok None
      → grouped r env (drop at tokens) (drop (at + 1) tokens) (target_part kind) ≡ Nothing
  grouped_none result there q e = grouped_from there ∙ ap (λ o. next o (λ g rest. found (drop at tokens) (target_part kind g) rest)) (parts_none tokens (start + 1) limit groups_part (closed_groups r env (drop start tokens)) result q e)

  pub grouped_read : (l : ReadParts) (p : Place) (read : ReadPart) → start ≡ at + 1 → IsParts tokens (start + 1) limit groups_part l (closed_groups r env (drop start tokens)) → part_view read.part ≡ target_part kind (groups_part (map part_view l.parts)) p
      → p ≡ between (drop at tokens) (drop l.at tokens) → read.height ≡ l.height + 1 → read.at ≡ l.at → IsPart tokens at (limit + 1) read (grouped r env (drop at tokens) (drop (at + 1) tokens) (target_part kind))
  grouped_read l p read there is viewed place tall end =
      let g = groups_part (map part_view l.parts) in
      placed_part tokens at l.at (limit + 1) (target_part kind g) p read _ (grouped_from there ∙ ap (λ o. next o (λ g rest. found (drop at tokens) (target_part kind g) rest)) is.found) viewed place
      (omega (arith, tall, is.high, height-target_part kind g p)) (omega (arith, tall, is.short)) (omega (arith, is.after, there)) is.within end
