-- Names of which no two are the same.
use Rattle.std.proofs.Common.{◌≡◌, ℕ, Bool, true, false, not, ◌&&◌, ◌||◌, if◌then◌else◌, List, [], ◌∷◌, ◌++◌, refl, sym, ap, ◌∙◌}
use Rattle.std.proofs.lemmas.Cmp.{nat_list_eq_equiv}
use Rattle.std.proofs.lemmas.List.Folds.{list_any-append}
use Rattle.std.specs.List.{list_any}
use Rattle.indexmap.specs.IndexSet.{insert_key}
use Rattle.dc_text.specs.Words.{same}
use Rattle.dc_scope.specs.Scopes.{all_differ}

and-true : (a b : Bool) → (a && b) ≡ true → (a ≡ true) × (b ≡ true)
and-true true b h = (refl, h)
and-true false b h = cc

or-false : (a b : Bool) → (a || b) ≡ false → (a ≡ false) × (b ≡ false)
or-false true b h = cc
or-false false b h = (refl, h)

not-true : (a : Bool) → not a ≡ true → a ≡ false
not-true true h = cc
not-true false h = refl

-- a name behind others isn't among them
pub all_differ-apart : (xs ys : List (List ℕ)) (y : List ℕ) → all_differ (xs ++ y ∷ ys) ≡ true → list_any (same y) xs ≡ false
all_differ-apart [] ys y h = refl
all_differ-apart (x ∷ xs) ys y h =
    let parts = and-true (not (list_any (same x) (xs ++ y ∷ ys))) (all_differ (xs ++ y ∷ ys)) h in
    let behind = or-false (list_any (same x) xs) (same x y || list_any (same x) ys) (sym (list_any-append (same x) xs (y ∷ ys)) ∙ not-true _ parts.0) in
    let apart = or-false (same x y) (list_any (same x) ys) behind.1 in
    ap (λ b. b || list_any (same y) xs) (nat_list_eq_equiv.symm y x ∙ apart.0) ∙ all_differ-apart xs ys y parts.1

regroup : (a b c d : Bool) → (not (a || (b || false)) && (c && not d)) ≡ ((not a && c) && not (b || d))
regroup true b c d = refl
regroup false true true d = refl
regroup false true false d = refl
regroup false false c d = refl

-- one more name behind names
pub all_differ-append : (names : List (List ℕ)) (name : List ℕ) → all_differ (names ++ name ∷ []) ≡ (all_differ names && not (list_any (same name) names))
all_differ-append [] name = refl
all_differ-append (x ∷ names) name =
    ap (λ b. not b && all_differ (names ++ name ∷ [])) (list_any-append (same x) names (name ∷ []))
    ∙ ap (λ b. not (list_any (same x) names || (same x name || false)) && b) (all_differ-append names name)
    ∙ ap (λ b. not (list_any (same x) names || (b || false)) && (all_differ names && not (list_any (same name) names))) (nat_list_eq_equiv.symm x name)
    ∙ regroup (list_any (same x) names) (same name x) (all_differ names) (list_any (same name) names)

-- a name that is inserted behind those before it
pub inserted : (keys now before rest all : List (List ℕ)) (key name : List ℕ) → keys ≡ before → key ≡ name → all_differ all ≡ true → before ++ name ∷ rest ≡ all → now ≡ insert_key same keys key → now ≡ before ++ name ∷ []
inserted keys now before rest all key name k n differ whole is =
    let absent : list_any (same name) before ≡ false = all_differ-apart before rest name (ap all_differ whole ∙ differ) in
    is ∙ ap (λ l. insert_key same l key) k ∙ ap (insert_key same before) n ∙ ap (λ b. if b then before else before ++ name ∷ []) absent
