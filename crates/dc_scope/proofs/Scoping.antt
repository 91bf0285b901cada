-- What a declaration and the end of a scope change.
use Rattle.std.proofs.Common.{◌≡◌, ℕ, Bool, true, false, cond, List, [], ◌∷◌, ◌++◌, Option, Some, None, refl, ap, ◌∙◌}
use Rattle.std.specs.Map.{lookup}
use Rattle.std.specs.Option.{option_or}
use Rattle.std.proofs.lemmas.Cmp.{nat_list_eq_equiv}
use Rattle.dc_text.specs.Words.{same}
use Rattle.dc_scope.specs.declared.space.Space.{Space}
use Rattle.dc_scope.specs.declared.space.Space.TheVariants.{Ordinary, Tag}
use Rattle.dc_scope.specs.Entities.{PlainEntity}
use Rattle.dc_scope.specs.Scopes.{Names, PlainScopes, entered, found, found_among, found_inner, left, with_name}
use Rattle.dc_scope.specs.Declaring.{Broken, Declaration, behind, accepted_or, broken_beside, unless_broken, declared, declared_beside}

-- a name behind others
lookup-append : (test : List ℕ → Bool) (names : Names) (name : List ℕ) (e : PlainEntity) → lookup test (names ++ (name, e) ∷ []) ≡ option_or (lookup test names) (cond (test name) (Some e) None)
lookup-append test [] name e = refl
lookup-append test (n ∷ names) name e = by (test n.0) (lookup-append test names name e)
  where
    by : (b : Bool) → lookup test (names ++ (name, e) ∷ []) ≡ option_or (lookup test names) (cond (test name) (Some e) None)
        → cond b (Some n.1) (lookup test (names ++ (name, e) ∷ [])) ≡ option_or (cond b (Some n.1) (lookup test names)) (cond (test name) (Some e) None)
    by true h = refl
    by false h = h

or-nothing : (o : Option PlainEntity) → option_or o None ≡ o
or-nothing None = refl
or-nothing (Some e) = refl

lookup-new : (names : Names) (name : List ℕ) (e : PlainEntity) → lookup (same name) names ≡ None → lookup (same name) (names ++ (name, e) ∷ []) ≡ Some e
lookup-new names name e none =
    lookup-append (same name) names name e ∙ ap (λ o. option_or o (cond (same name name) (Some e) None)) none ∙ ap (λ b. cond b (Some e) None) (nat_list_eq_equiv.refl name)

lookup-other : (names : Names) (name other : List ℕ) (e : PlainEntity) → same other name ≡ false → lookup (same other) (names ++ (name, e) ∷ []) ≡ lookup (same other) names
lookup-other names name other e differ =
    lookup-append (same other) names name e ∙ ap (λ b. option_or (lookup (same other) names) (cond b (Some e) None)) differ ∙ or-nothing (lookup (same other) names)

pub found-with_name : (s : PlainScopes) (space : Space) (name : List ℕ) (e : PlainEntity) → found_inner s space name ≡ None → found (with_name s space name e) space name ≡ Some e
found-with_name s Ordinary name e none = ap (λ o. option_or o (found_among s.outer Ordinary name)) (lookup-new s.inner.ordinary name e none)
found-with_name s Tag name e none = ap (λ o. option_or o (found_among s.outer Tag name)) (lookup-new s.inner.tags name e none)

pub found-other : (s : PlainScopes) (space : Space) (name other : List ℕ) (e : PlainEntity) → same other name ≡ false → found (with_name s space name e) space other ≡ found s space other
found-other s Ordinary name other e differ = ap (λ o. option_or o (found_among s.outer Ordinary other)) (lookup-other s.inner.ordinary name other e differ)
found-other s Tag name other e differ = ap (λ o. option_or o (found_among s.outer Tag other)) (lookup-other s.inner.tags name other e differ)

-- what is around the innermost scope
record SameAround (s t : PlainScopes) : Type 0 where
  outer : t.outer ≡ s.outer
  members : t.members ≡ s.members

unless_broken-around : (broken : Option Broken) (s : PlainScopes) → SameAround s (accepted_or s (unless_broken broken s))
unless_broken-around None s = record { outer = refl; members = refl }
unless_broken-around (Some b) s = record { outer = refl; members = refl }

declared-around : (first : Option PlainEntity) (s : PlainScopes) (d : Declaration) → SameAround s (accepted_or s (declared_beside first s d.space d.name d.entity))
declared-around None s d = record { outer = refl; members = refl }
declared-around (Some first) s d = unless_broken-around (broken_beside first d.entity) s

behind-around : (ds : List Declaration) (s : PlainScopes) → SameAround s (behind ds s)
behind-around [] s = record { outer = refl; members = refl }
behind-around (d ∷ ds) s =
    let one = declared-around (found_inner s d.space d.name) s d in
    let others = behind-around ds (accepted_or s (declared s d.space d.name d.entity)) in
    record { outer = others.outer ∙ one.outer; members = others.members ∙ one.members }

left-around : (s t : PlainScopes) → SameAround (entered s) t → left t ≡ s
left-around s t around = rw (around.outer, around.members) refl

pub left-behind : (s : PlainScopes) (ds : List Declaration) → left (behind ds (entered s)) ≡ s
left-behind s ds = left-around s (behind ds (entered s)) (behind-around ds (entered s))
