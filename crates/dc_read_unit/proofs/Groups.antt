-- What the definition reads of groups, and of what stands in the parentheses of a clause.
use Rattle.std.proofs.Common.{◌≡◌, ℕ, ◌+◌, ◌<◌, ◌≤◌, max, Bool, true, if◌then◌else◌, List, map, drop, sym, ap, ◌∙◌, arith}
use Rattle.dc_syntax.specs.declared.mark.Mark.TheVariants.{RightParen, Colon}
use Rattle.dc_syntax.specs.declared.raw.Raw.{Raw}
use Rattle.dc_syntax.specs.declared.unit.Part as code
use Rattle.dc_syntax.specs.declared.unit.Part.TheViews.{rolls-Decreases}
use Rattle.dc_syntax.specs.declared.unit.Part.TheFolds.{fold-roll-Part}
use Rattle.dc_syntax.specs.declared.unit.Part.TheOpen.{Part-F}
use Rattle.dc_syntax.specs.Tokens.{Token, Place, Marked}
use Rattle.dc_syntax.specs.Names.{Names}
use Rattle.dc_syntax.specs.Trees.{Condition, Tree, height}
use Rattle.dc_syntax.specs.Parts.{Part, Decreases}
use Rattle.dc_syntax.specs.Reading.{Out, Found, Reads, Upto, next, eat, begins, between, found}
use Rattle.dc_syntax.specs.ReadingUnits.{conditions, group}
use Rattle.dc_syntax.specs.UnitView.{part_view, part_step}
use Rattle.dc_syntax.specs.View.{raw_view, more_tree}
use Rattle.dc_read_expr.specs.declared.read.Read.{Read}
use Rattle.dc_read_expr.specs.declared.lists.ReadItems.{ReadItems}
use Rattle.dc_read_expr.specs.View.{IsListing}
use Rattle.dc_read_expr.proofs.Eating.{eaten, within_begins}
use Rattle.dc_read_unit.specs.declared.read.ReadPart.{ReadPart}
use Rattle.dc_read_unit.specs.ClauseParts.{group_behind, group_if_behind, decreases_behind}
use Rattle.dc_read_unit.specs.PartView.{IsPart}
use Rattle.dc_read_unit.proofs.Answered.{placed_part}

part_view-Decreases : (c : Raw) (m : List Raw) (q : Place) → part_view (code.Decreases c m q) ≡ Decreases (raw_view c) (more_tree Condition (map raw_view m)) q
part_view-Decreases c m q = ap part_view (sym (rolls-Decreases c m q)) ∙ fold-roll-Part Part part_step (Part-F.Decreases c m q)

abbrev either : Reads → Names → List Token → Tree → List Token → Bool → Out Part
either r env all c rest b = if b then eat (Marked Colon) rest (λ ts. group_if_behind r env all c ts) else group_behind r env all c rest

pub group_by_colon : (r : Reads) (env : Names) (all : List Token) (c : Tree) (tokens : List Token) (at : ℕ) → r (Upto 15) env all ≡ Found c (drop at tokens) → begins (Marked Colon) (drop at tokens) ≡ true
    → group r env all ≡ group_if_behind r env all c (drop (at + 1) tokens)
group_by_colon r env all c tokens at e is =
    ap (λ o. next o (λ c rest. either r env all c rest (begins (Marked Colon) rest))) e ∙ (ap (either r env all c (drop at tokens)) is ∙ eaten (Marked Colon) tokens at (λ ts. group_if_behind r env all c ts) is)

module _ (r : Reads) (env : Names) (tokens : List Token) (from limit : ℕ) (first : Read) (more : ReadItems) where
  decreases_is : (end : ℕ) → conditions r env (drop first.at tokens) ≡ Found (more_tree Condition (map raw_view more.items)) (drop more.at tokens) → begins (Marked RightParen) (drop more.at tokens) ≡ true → end ≡ more.at + 1
      → decreases_behind r env (drop from tokens) (raw_view first.tree) (drop first.at tokens) ≡ found (drop from tokens) (Decreases (raw_view first.tree) (more_tree Condition (map raw_view more.items))) (drop end tokens)
  decreases_is end e is there =
      let node = Decreases (raw_view first.tree) in
      ap (λ o. next o (λ m rest. eat (Marked RightParen) rest (λ rest. found (drop from tokens) (node m) rest))) e
      ∙ (eaten (Marked RightParen) tokens more.at (λ rest. found (drop from tokens) (node (more_tree Condition (map raw_view more.items))) rest) is
      ∙ ap (λ k. found (drop from tokens) (node (more_tree Condition (map raw_view more.items))) (drop k tokens)) (sym there))

  pub decreases_read : (p : Place) (end : ℕ) (read : ReadPart) → first.height ≡ height (raw_view first.tree) → first.height ≤ limit → from < first.at → IsListing tokens first.at limit (more_tree Condition) more (conditions r env (drop first.at tokens))
      → begins (Marked RightParen) (drop more.at tokens) ≡ true → end ≡ more.at + 1 → read.part ≡ code.Decreases first.tree more.items p → p ≡ between (drop from tokens) (drop end tokens) → read.height ≡ max first.height more.height + 1
      → read.at ≡ end → IsPart tokens from (limit + 1) read (decreases_behind r env (drop from tokens) (raw_view first.tree) (drop first.at tokens))
  decreases_read p end read high short after l is there node place tall at =
      placed_part tokens from end (limit + 1) (Decreases (raw_view first.tree) (more_tree Condition (map raw_view more.items))) p read _ (decreases_is end l.found is there) (ap part_view node ∙ part_view-Decreases first.tree more.items p) place
      (omega (arith, tall, high, l.high)) (omega (arith, tall, short, l.short)) (omega (arith, after, l.after, there)) (omega (arith, there, within_begins (Marked RightParen) tokens more.at is)) at
