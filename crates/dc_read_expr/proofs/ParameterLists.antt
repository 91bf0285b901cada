-- The parameters behind a parenthesis.
use Rattle.std.proofs.Common.{◌≡◌, ℕ, max, Bool, true, false, if◌then◌else◌, ◌&&◌, List, [], ◌∷◌, map, length, drop, refl, sym, ap, ◌∙◌, arith}
use Rattle.dc_syntax.specs.declared.mark.Mark.TheVariants.{RightParen}
use Rattle.dc_syntax.specs.declared.raw.Raw.{Raw}
use Rattle.dc_syntax.specs.Tokens.{Token, Marked}
use Rattle.dc_syntax.specs.Names.{Names}
use Rattle.dc_syntax.specs.Trees.{Parameters, Tree, NoParameters, SomeParameters, is_void_parameter, is_no_more, declared, height}
use Rattle.dc_syntax.specs.Reading.{Out, Nothing, Found, Reads, next, begins, more, parameter, parameter_list, parameters}
use Rattle.dc_syntax.specs.View.{raw_view, more_tree, parameters_tree}
use Rattle.dc_syntax.proofs.Words.{false-true}
use Rattle.dc_read_expr.specs.declared.read.Read.{Read}
use Rattle.dc_read_expr.specs.declared.lists.ReadItems.{ReadItems}
use Rattle.dc_read_expr.specs.View.{IsReading, IsListing}
use Rattle.dc_read_expr.specs.ParameterLists.{IsParameterList}

abbrev pub lone : Raw → List Raw → Bool
lone a more = is_void_parameter (raw_view a) && is_no_more (more_tree Parameters (map raw_view more))

-- `void` alone
pub void_list : (first : Read) (more : ReadItems) → lone first.tree more.items ≡ true → more.height ≡ height (more_tree Parameters (map raw_view more.items)) → IsParameterList first more more
void_list first more y high = record {
  found = λ rest. ap (λ b. if b then Found NoParameters rest else Found (SomeParameters (raw_view first.tree) (more_tree Parameters (map raw_view more.items))) rest) y ∙ ap (λ t. Found t rest) (sym (none more.items (empty more.items (second (is_void_parameter (raw_view first.tree)) y))));
  high = high ∙ (ap (λ l. height (more_tree Parameters (map raw_view l))) (empty more.items (second (is_void_parameter (raw_view first.tree)) y))
      ∙ sym (ap height (none more.items (empty more.items (second (is_void_parameter (raw_view first.tree)) y)))));
  short = omega arith;
  at = refl;
}
  where
    second : (a : Bool) {b : Bool} → (a && b) ≡ true → b ≡ true
    second true e = e
    second false e = absurd (false-true e)

    empty : (xs : List Raw) → is_no_more (more_tree Parameters (map raw_view xs)) ≡ true → xs ≡ []
    empty [] e = refl
    empty (x ∷ xs) e = absurd (false-true e)

    none : (xs : List Raw) → xs ≡ [] → parameters_tree (map raw_view xs) ≡ NoParameters
    none xs e = ap (λ l. parameters_tree (map raw_view l)) e

pub some_list : (first : Read) (more r : ReadItems) → lone first.tree more.items ≡ false → first.height ≡ height (raw_view first.tree) → more.height ≡ height (more_tree Parameters (map raw_view more.items))
    → r.items ≡ first.tree ∷ more.items → r.height ≡ max first.height more.height → r.at ≡ more.at → IsParameterList first more r
some_list first more r n high highs e h at =
    let t : parameters_tree (map raw_view r.items) ≡ SomeParameters (raw_view first.tree) (more_tree Parameters (map raw_view more.items)) = ap (λ l. parameters_tree (map raw_view l)) e in
    record {
      found = λ rest. ap (λ b. if b then Found NoParameters rest else Found (SomeParameters (raw_view first.tree) (more_tree Parameters (map raw_view more.items))) rest) n ∙ ap (λ t. Found t rest) (sym t);
      high = h ∙ (ap (λ n. max n more.height) high ∙ (ap (λ n. max (height (raw_view first.tree)) n) highs ∙ sym (ap height t)));
      short = omega (arith, h);
      at = at;
    }

abbrev behind_first : Reads → ℕ → Names → Tree → List Token → Out Tree
behind_first r h env a rest = next (more (parameter r h) Parameters (declared a env) (length rest) rest) (λ m rest. parameter_list a m rest)

abbrev either : Reads → ℕ → Names → List Token → Bool → Out Tree
either r h env ts b = if b then Found NoParameters ts else next (parameter r h env ts) (λ a rest. behind_first r h env a rest)

pub parameters_no_first : (r : Reads) (h : ℕ) (env : Names) (ts : List Token) → begins (Marked RightParen) ts ≡ false → parameter r h env ts ≡ Nothing → parameters r h env ts ≡ Nothing
parameters_no_first r h env ts b e = ap (either r h env ts) b ∙ ap (λ o. next o (λ a rest. behind_first r h env a rest)) e

pub parameters_no_more : (r : Reads) (h : ℕ) (env env' : Names) (ts : List Token) (a : Tree) (rest : List Token) → begins (Marked RightParen) ts ≡ false → parameter r h env ts ≡ Found a rest → env' ≡ declared a env
    → more (parameter r h) Parameters env' (length rest) rest ≡ Nothing → parameters r h env ts ≡ Nothing
parameters_no_more r h env env' ts a rest b e d f =
    ap (either r h env ts) b ∙ (ap (λ o. next o (λ a rest. behind_first r h env a rest)) e ∙ (ap (λ env. next (more (parameter r h) Parameters env (length rest) rest) (λ m rest. parameter_list a m rest)) (sym d)
    ∙ ap (λ o. next o (λ m rest. parameter_list a m rest)) f))

pub parameters_whole : (r : Reads) (h : ℕ) (env env' : Names) (tokens : List Token) (from : ℕ) (first : Read) (more' list : ReadItems) → begins (Marked RightParen) (drop from tokens) ≡ false
    → IsReading tokens from h first (parameter r h env (drop from tokens)) → env' ≡ declared (raw_view first.tree) env
    → IsListing tokens first.at h (more_tree Parameters) more' (more (parameter r h) Parameters env' (length (drop first.at tokens)) (drop first.at tokens)) → IsParameterList first more' list
    → IsListing tokens from h parameters_tree list (parameters r h env (drop from tokens))
parameters_whole r h env env' tokens from first more' list b q d l p =
    let ts = drop from tokens in
    let rest = drop first.at tokens in
    record {
      found = ap (either r h env ts) b ∙ (ap (λ o. next o (λ a rest. behind_first r h env a rest)) q.found
          ∙ (ap (λ env. next (more (parameter r h) Parameters env (length rest) rest) (λ m rest. parameter_list (raw_view first.tree) m rest)) (sym d)
          ∙ (ap (λ o. next o (λ m rest. parameter_list (raw_view first.tree) m rest)) l.found
          ∙ (p.found (drop more'.at tokens) ∙ ap (λ at. Found (parameters_tree (map raw_view list.items)) (drop at tokens)) (sym p.at)))));
      high = p.high;
      short = omega (arith, p.short, q.short, l.short);
      after = omega (arith, p.at, q.after, l.after);
      within = omega (arith, p.at, l.within);
    }
