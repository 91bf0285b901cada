-- How far a test passes from the front on.
use Rattle.std.proofs.Common.{◌≡◌, ℕ, suc, ◌+◌, ◌≤◌, Bool, true, false, cond, List, [], ◌∷◌, ◌++◌, length, take, drop, refl, sym, ap, subst, ◌∙◌, arith, take-append-drop}
use Rattle.std.specs.List.{list_all, prefix_len, Contains}
use Rattle.std.proofs.lemmas.Bool.{and_parts, and_from}
use Rattle.std.proofs.lemmas.List.Folds.{list_all-append, length-prefix_len}
use Rattle.std.proofs.lemmas.List.Sums.{AllPass-from_list_all}
use Rattle.dc_lexer.proofs.Longest.{Front}

-- each of the bytes passes
abbrev pub Passes : (ℕ → Bool) → List ℕ → Type 0
Passes p xs = list_all p xs ≡ true

pub one_more : (n : ℕ) → 1 + n ≡ suc n
one_more n = omega arith

pub span_all : (p : ℕ → Bool) (xs : List ℕ) → list_all p (take (prefix_len p xs) xs) ≡ true
span_all p [] = refl
span_all p (x ∷ xs) = by_test (p x) refl (span_all p xs)
  where
    by_test : (t : Bool) → p x ≡ t → list_all p (take (prefix_len p xs) xs) ≡ true → list_all p (take (cond t (1 + prefix_len p xs) 0) (x ∷ xs)) ≡ true
    by_test true e all = subst (λ n. list_all p (take n (x ∷ xs)) ≡ true) (sym (one_more (prefix_len p xs))) (and_from (p x) (list_all p (take (prefix_len p xs) xs)) e all)
    by_test false e all = refl

pub span_front : (p : ℕ → Bool) (xs : List ℕ) → Front (Passes p) xs (prefix_len p xs)
span_front p xs = record {
  word = take (prefix_len p xs) xs;
  rest = drop (prefix_len p xs) xs;
  whole = sym (take-append-drop (prefix_len p xs) xs);
  len_is = length-prefix_len p xs;
  is = span_all p xs;
}

pub span_over : (p : ℕ → Bool) (xs ys : List ℕ) → list_all p xs ≡ true → prefix_len p (xs ++ ys) ≡ length xs + prefix_len p ys
span_over p [] ys all = omega arith
span_over p (x ∷ xs) ys all =
    let parts = and_parts (p x) (list_all p xs) all in
    let first : p x ≡ true = parts.0 in
    let ih : prefix_len p (xs ++ ys) ≡ length xs + prefix_len p ys = span_over p xs ys parts.1 in
    let here : cond (p x) (1 + prefix_len p (xs ++ ys)) 0 ≡ 1 + prefix_len p (xs ++ ys) = ap (λ t. cond t (1 + prefix_len p (xs ++ ys)) 0) first in
    here ∙ (omega arith)

-- it goes on as far as this, at least
pub span_reaches : (p : ℕ → Bool) (xs ys : List ℕ) → list_all p xs ≡ true → length xs ≤ prefix_len p (xs ++ ys)
span_reaches p xs ys all = let e : prefix_len p (xs ++ ys) ≡ length xs + prefix_len p ys = span_over p xs ys all in omega arith

-- what stops a test, or the end
abbrev pub Stops : (ℕ → Bool) → List ℕ → Type 0
Stops p [] = Unit {0}
Stops p (y ∷ ys) = p y ≡ false

pub span_none : (p : ℕ → Bool) (ys : List ℕ) → Stops p ys → prefix_len p ys ≡ 0
span_none p [] fails = refl
span_none p (y ∷ ys) fails = ap (λ t. cond t (1 + prefix_len p ys) 0) fails

-- and no further where a byte fails
pub span_stops : (p : ℕ → Bool) (xs ys : List ℕ) → list_all p xs ≡ true → Stops p ys → prefix_len p (xs ++ ys) ≡ length xs
span_stops p xs ys all fails =
    let e : prefix_len p (xs ++ ys) ≡ length xs + prefix_len p ys = span_over p xs ys all in
    let none : prefix_len p ys ≡ 0 = span_none p ys fails in
    omega arith

pub all_both : (p : ℕ → Bool) (xs ys : List ℕ) → list_all p xs ≡ true → list_all p ys ≡ true → list_all p (xs ++ ys) ≡ true
all_both p xs ys one two = list_all-append p xs ys ∙ and_from (list_all p xs) (list_all p ys) one two

-- a weaker test passes too
pub all_weaker : (p q : ℕ → Bool) → ((b : ℕ) → p b ≡ true → q b ≡ true) → (xs : List ℕ) → list_all p xs ≡ true → list_all q xs ≡ true
all_weaker p q weaker [] all = refl
all_weaker p q weaker (x ∷ xs) all =
    let parts = and_parts (p x) (list_all p xs) all in
    and_from (q x) (list_all q xs) (weaker x parts.0) (all_weaker p q weaker xs parts.1)

-- what each of a table passes, one of the table passes
pub all_at : {X : Type 0} (p : X → Bool) (xs : List X) (x : X) → list_all p xs ≡ true → Contains xs x → p x ≡ true
all_at p xs x all c = sym (ap p c.2) ∙ AllPass-from_list_all p xs all c.0 x c.1
