-- Functions by their names.
use Rattle.std.proofs.Common.{◌≡◌, ℕ, suc, ◌+◌, ◌≤◌, Bool, true, false, cond, List, [], ◌∷◌, length, map, None, Some, Bor, refl, sym, ap, ◌∙◌, arith}
use Rattle.std.specs.Prelude.{nat_lt, not}
use Rattle.std.specs.List.{list_any, position, position_or_len}
use Rattle.std.proofs.lemmas.Bool.Decides.{nat_tests}
use Rattle.dc_text.specs.Words.{same}
use Rattle.dc_goto.specs.Program as plain
use Rattle.dc_goto.specs.Shape.{place_of}
use Rattle.dc_goto.specs.View.{sig_view}
use Rattle.dc_goto.specs.declared.program.Sig.{Sig}

abbrev names : List (Bor Sig) → List (List ℕ)
names sigs = map (λ sig. sig.now.name) sigs

place_names : (name : List ℕ) (sigs : List (Bor Sig)) → place_of (map (λ sig. sig_view sig.now) sigs) name ≡ position_or_len (same name) (names sigs)
place_names name [] = refl
place_names name (sig ∷ sigs) = ap (λ n. cond (not (same name sig.now.name)) (1 + n) 0) (place_names name sigs)

place_within : (p : List ℕ → Bool) (xs : List (List ℕ)) → position_or_len p xs ≤ length xs
place_within p [] = omega arith
place_within p (x ∷ xs) = by_test (p x) (place_within p xs)
  where
    by_test : (t : Bool) → position_or_len p xs ≤ length xs → cond (not t) (1 + position_or_len p xs) 0 ≤ suc (length xs)
    by_test true h = omega arith
    by_test false h = omega arith

length_names : (sigs : List (Bor Sig)) → length (names sigs) ≡ length sigs
length_names [] = refl
length_names (sig ∷ sigs) = ap (λ n. suc n) (length_names sigs)

some_place : (n k m : ℕ) → cond (nat_lt n m) (Some n) None ≡ Some k → k ≡ n
some_place n k m h = by_test (nat_lt n m) h
  where
    by_test : (t : Bool) → cond t (Some n) None ≡ Some k → k ≡ n
    by_test true h = cc
    by_test false h = cc

no_place : (n m : ℕ) → cond (nat_lt n m) (Some n) None ≡ None → n ≤ m → m ≡ n
no_place n m h le = by_test (nat_lt n m) refl h
  where
    by_test : (t : Bool) → nat_lt n m ≡ t → cond t (Some n) None ≡ None → m ≡ n
    by_test true e h = cc
    by_test false e h = grind (arith, nat_tests)

-- the name has a number among the names of the functions
pub placed : (name : List ℕ) (sigs : List (Bor Sig)) (known : List (List ℕ)) (k : ℕ) → known ≡ map (λ sig. sig.now.name) sigs → Some k ≡ position (same name) known → k ≡ place_of (map (λ sig. sig_view sig.now) sigs) name
placed name sigs known k e h =
    some_place (position_or_len (same name) (names sigs)) k (length (names sigs)) (sym (h ∙ ap (position (same name)) e)) ∙ sym (place_names name sigs)

-- the name is none of theirs
pub unplaced : (name : List ℕ) (sigs : List (Bor Sig)) (known : List (List ℕ)) (k : ℕ) → known ≡ map (λ sig. sig.now.name) sigs → None ≡ position (same name) known → k ≡ length sigs → k ≡ place_of (map (λ sig. sig_view sig.now) sigs) name
unplaced name sigs known k e h n =
    n ∙ sym (length_names sigs)
    ∙ no_place (position_or_len (same name) (names sigs)) (length (names sigs)) (sym (h ∙ ap (position (same name)) e)) (place_within (same name) (names sigs))
    ∙ sym (place_names name sigs)

-- a name that isn't among the functions' isn't among those that are known
pub unknown : (name : List ℕ) (sigs : List (Bor Sig)) (known : List (List ℕ)) (functions : List plain.Sig) → known ≡ map (λ sig. sig.now.name) sigs → map (λ sig. sig_view sig.now) sigs ≡ functions → list_any (same name) (map (λ f. f.name) functions) ≡ false → list_any (same name) known ≡ false
unknown name sigs known functions e v h =
    ap (list_any (same name)) (e ∙ names_back sigs ∙ ap (map (λ f. f.name)) v) ∙ h
  where
    names_back : (sigs : List (Bor Sig)) → names sigs ≡ map (λ f. f.name) (map (λ sig. sig_view sig.now) sigs)
    names_back [] = refl
    names_back (sig ∷ sigs) = ap (λ l. sig.now.name ∷ l) (names_back sigs)
