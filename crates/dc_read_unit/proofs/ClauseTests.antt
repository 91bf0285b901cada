-- Whether each clause of a list passes a test.
use Rattle.std.proofs.Common.{◌≡◌, ℕ, zero, suc, ◌+◌, ◌<◌, ◌≤◌, Bool, true, false, ◌&&◌, List, [], ◌∷◌, map, length, get_or, drop, drop-cons, refl, sym, ap, ◌∙◌, arith}
use Rattle.dc_syntax.specs.declared.unit.Part as code
use Rattle.dc_syntax.specs.Parts.{Part, NoClauses, Clauses}
use Rattle.dc_syntax.specs.UnitView.{part_view, clauses_part}

drop-all : (i : ℕ) (xs : List code.Part) → length xs ≤ i → drop i xs ≡ []
drop-all zero [] le = refl
drop-all (suc i) [] le = refl
drop-all zero (x ∷ xs) le = absurd (omega (arith, le))
drop-all (suc i) (x ∷ xs) le = drop-all i xs (omega (arith, le))

-- what all of a list is, by its first and its rest
pub record IsAll (one all : Part → Bool) : Type 0 where
  pub none : all NoClauses ≡ true
  pub some : (c m : Part) → all (Clauses c m) ≡ (one c && all m)

module _ (one all : Part → Bool) (w : IsAll one all) (xs : List code.Part) (i : ℕ) where
  abbrev pub rest : ℕ → Bool
  rest n = all (clauses_part (map part_view (drop n xs)))

  all-at : (x : code.Part) → i < length xs → x ≡ get_or xs i x → rest i ≡ (one (part_view x) && rest (i + 1))
  all-at x lt is =
      let next : suc i ≡ i + 1 = omega arith in
      ap (λ l. all (clauses_part (map part_view l))) (drop-cons xs i x lt)
      ∙ (w.some (part_view (get_or xs i x)) (clauses_part (map part_view (drop (suc i) xs)))
      ∙ (ap (λ n. one (part_view (get_or xs i x)) && rest n) next ∙ ap (λ y. one (part_view y) && rest (i + 1)) (sym is)))

  pub all_stays : (x : code.Part) (b whole : Bool) → i < length xs → x ≡ get_or xs i x → b ≡ one (part_view x) → b ≡ true → rest i ≡ whole → rest (i + 1) ≡ whole
  all_stays x b whole lt is tested passes same = sym (all-at x lt is ∙ ap (λ b. b && rest (i + 1)) (sym tested ∙ passes)) ∙ same

  pub all_fails : (x : code.Part) (b whole : Bool) → i < length xs → x ≡ get_or xs i x → b ≡ one (part_view x) → b ≡ false → rest i ≡ whole → false ≡ whole
  all_fails x b whole lt is tested fails same = sym (all-at x lt is ∙ ap (λ b. b && rest (i + 1)) (sym tested ∙ fails)) ∙ same

  pub all_ends : (whole : Bool) → length xs ≤ i → rest i ≡ whole → true ≡ whole
  all_ends whole le same = sym (ap (λ l. all (clauses_part (map part_view l))) (drop-all i xs le) ∙ w.none) ∙ same
