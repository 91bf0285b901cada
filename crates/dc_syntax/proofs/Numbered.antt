-- The tokens of a source, one by one.
use Rattle.std.proofs.Common.{◌≡◌, ℕ, zero, suc, ◌+◌, ◌≤◌, List, [], ◌∷◌, ◌++◌, length, drop, slice_get, Option, Some, None, refl, sym, ap, ◌∙◌, subst, arith, append-nil}
use Rattle.dc_lexer.specs.Pieces as source
use Rattle.dc_syntax.specs.Tokens.{Token}
use Rattle.dc_syntax.specs.Lexed.{word_of, numbered, grammar_tokens}

abbrev is_some : Option source.Token → Type 0
is_some None = ⊥
is_some (Some t) = Unit {0}

abbrev or_first : source.Token → Option source.Token → source.Token
or_first d None = d
or_first d (Some t) = t

drop-at : (xs : List source.Token) (i : ℕ) (t : source.Token) → slice_get xs i ≡ Some t → drop i xs ≡ t ∷ drop (suc i) xs
drop-at [] i t e = absurd (subst is_some (sym e) tt)
drop-at (x ∷ xs) zero t e = ap (λ y. y ∷ xs) (ap (or_first x) e)
drop-at (x ∷ xs) (suc i) t e = drop-at xs i t e

drop-past : (xs : List source.Token) (i : ℕ) → slice_get xs i ≡ None → drop i xs ≡ []
drop-past [] zero e = refl
drop-past [] (suc i) e = refl
drop-past (x ∷ xs) zero e = absurd (subst is_some e tt)
drop-past (x ∷ xs) (suc i) e = drop-past xs i e

drop-all : (xs : List source.Token) (i : ℕ) → length xs ≤ i → drop i xs ≡ []
drop-all [] zero le = refl
drop-all [] (suc i) le = refl
drop-all (x ∷ xs) zero le = absurd (omega (arith, le))
drop-all (x ∷ xs) (suc i) le = drop-all xs i (omega (arith, le))

behind : (items : List Token) (e : Token) (rest : List Token) → (items ++ e ∷ []) ++ rest ≡ items ++ e ∷ rest
behind [] e rest = refl
behind (a ∷ items) e rest = ap (λ l. a ∷ l) (behind items e rest)

-- one token more
pub numbered_more : (xs : List source.Token) (i : ℕ) (t : source.Token) (items new_items : List Token) (e : Token) → items ++ numbered (suc i) (drop i xs) ≡ grammar_tokens xs → slice_get xs i ≡ Some t → new_items ≡ items ++ e ∷ []
    → e ≡ record { word = word_of t.kind t.bytes; number = suc i; line = t.line } → new_items ++ numbered (suc (i + 1)) (drop (i + 1) xs) ≡ grammar_tokens xs
numbered_more xs i t items new_items e same got pushed is =
    let n : i + 1 ≡ suc i = omega arith in
    ap (λ n. new_items ++ numbered (suc n) (drop n xs)) n
    ∙ (ap (λ l. l ++ numbered (suc (suc i)) (drop (suc i) xs)) pushed
    ∙ (behind items e (numbered (suc (suc i)) (drop (suc i) xs))
    ∙ (ap (λ e. items ++ e ∷ numbered (suc (suc i)) (drop (suc i) xs)) is
    ∙ (ap (λ l. items ++ numbered (suc i) l) (sym (drop-at xs i t got)) ∙ same))))

ended : (xs : List source.Token) (i : ℕ) (items : List Token) → drop i xs ≡ [] → items ++ numbered (suc i) (drop i xs) ≡ grammar_tokens xs → items ≡ grammar_tokens xs
ended xs i items none same = sym (append-nil items) ∙ (ap (λ l. items ++ numbered (suc i) l) (sym none) ∙ same)

pub numbered_past : (xs : List source.Token) (i : ℕ) (items : List Token) → slice_get xs i ≡ None → items ++ numbered (suc i) (drop i xs) ≡ grammar_tokens xs → items ≡ grammar_tokens xs
numbered_past xs i items none same = ended xs i items (drop-past xs i none) same

pub numbered_all : (xs : List source.Token) (i : ℕ) (items : List Token) → length xs ≤ i → items ++ numbered (suc i) (drop i xs) ≡ grammar_tokens xs → items ≡ grammar_tokens xs
numbered_all xs i items le same = ended xs i items (drop-all xs i le) same
