-- The suffixes of integers.
use Rattle.std.proofs.Common.{◌≡◌, ℕ, ◌+◌, ◌≤◌, Bool, true, false, cond, ◌&&◌, not, ◌⊎◌, inl, inr, List, [], ◌∷◌, ◌++◌, length, refl, sym, ap, subst, arith}
use Rattle.std.specs.Prelude.{◌==◌}
use Rattle.std.specs.List.{list_any, Contains}
use Rattle.std.specs.Cmp.Lexicographic.{bytes_decides}
use Rattle.std.proofs.lemmas.Bool.{and_parts, or_cases, eqb-true, false≢true}
use Rattle.std.proofs.lemmas.Map.Views.{Contains-from_any}
use Rattle.dc_text.specs.Words.{same}
use Rattle.dc_lexer.specs.Words.{suffixes, is_hexadecimal_digit, is_hexadecimal_mark}
use Rattle.dc_lexer.specs.Reading.{is_unsigned_mark, is_long_mark, again_len, long_len, unsigned_len, long_rest_len, suffix_len}
use Rattle.dc_lexer.proofs.Longest.{Front}
use Rattle.dc_lexer.proofs.Spans.{all_at}

pub listed : (table : List (List ℕ)) (word : List ℕ) → list_any (same word) table ≡ true → Contains table word
listed table word found = Contains-from_any (λ x y. (bytes_decides x y).0) word table found

abbrev IsSuffix : List ℕ → Type 0
IsSuffix word = list_any (same word) suffixes ≡ true

unsigned_is : (b : ℕ) → is_unsigned_mark b ≡ true → (b ≡ 117) ⊎ (b ≡ 85)
unsigned_is b e = elim (or_cases (b == 117) (b == 85) e) [ inl h ↦ inl (eqb-true b 117 h) | inr h ↦ inr (eqb-true b 85 h) ]

long_is : (b : ℕ) → is_long_mark b ≡ true → (b ≡ 108) ⊎ (b ≡ 76)
long_is b e = elim (or_cases (b == 108) (b == 76) e) [ inl h ↦ inl (eqb-true b 108 h) | inr h ↦ inr (eqb-true b 76 h) ]

one : (P : ℕ → Type 0) (b x y : ℕ) → (b ≡ x) ⊎ (b ≡ y) → P x → P y → P b
one P b x y (inl e) px py = subst P (sym e) px
one P b x y (inr e) px py = subst P (sym e) py

two : (P : ℕ → ℕ → Type 0) (a b x y z w : ℕ) → (a ≡ x) ⊎ (a ≡ y) → (b ≡ z) ⊎ (b ≡ w) → P x z → P x w → P y z → P y w → P a b
two P a b x y z w ea eb xz xw yz yw = one (λ a. P a b) a x y ea (one (P x) b z w eb xz xw) (one (P y) b z w eb yz yw)

unsigned_alone : (a : ℕ) → is_unsigned_mark a ≡ true → IsSuffix (a ∷ [])
unsigned_alone a e = one (λ a. IsSuffix (a ∷ [])) a 117 85 (unsigned_is a e) refl refl

long_alone : (a : ℕ) → is_long_mark a ≡ true → IsSuffix (a ∷ [])
long_alone a e = one (λ a. IsSuffix (a ∷ [])) a 108 76 (long_is a e) refl refl

long_twice : (a : ℕ) → is_long_mark a ≡ true → IsSuffix (a ∷ a ∷ [])
long_twice a e = one (λ a. IsSuffix (a ∷ a ∷ [])) a 108 76 (long_is a e) refl refl

unsigned_long : (a b : ℕ) → is_unsigned_mark a ≡ true → is_long_mark b ≡ true → IsSuffix (a ∷ b ∷ [])
unsigned_long a b e f = two (λ a b. IsSuffix (a ∷ b ∷ [])) a b 117 85 108 76 (unsigned_is a e) (long_is b f) refl refl refl refl

unsigned_long_twice : (a b : ℕ) → is_unsigned_mark a ≡ true → is_long_mark b ≡ true → IsSuffix (a ∷ b ∷ b ∷ [])
unsigned_long_twice a b e f = two (λ a b. IsSuffix (a ∷ b ∷ b ∷ [])) a b 117 85 108 76 (unsigned_is a e) (long_is b f) refl refl refl refl

long_unsigned : (a b : ℕ) → is_unsigned_mark a ≡ true → is_long_mark b ≡ true → IsSuffix (b ∷ a ∷ [])
long_unsigned a b e f = two (λ a b. IsSuffix (b ∷ a ∷ [])) a b 117 85 108 76 (unsigned_is a e) (long_is b f) refl refl refl refl

long_twice_unsigned : (a b : ℕ) → is_unsigned_mark a ≡ true → is_long_mark b ≡ true → IsSuffix (b ∷ b ∷ a ∷ [])
long_twice_unsigned a b e f = two (λ a b. IsSuffix (b ∷ b ∷ a ∷ [])) a b 117 85 108 76 (unsigned_is a e) (long_is b f) refl refl refl refl

-- What is found is a suffix -----------------------------------------------------------------------------------------

-- a front behind these bytes
after_u : (a : ℕ) → is_unsigned_mark a ≡ true → (bytes : List ℕ) → Front IsSuffix (a ∷ bytes) (1 + long_len bytes)
after_u a e [] = record { word = a ∷ []; rest = []; whole = refl; len_is = refl; is = unsigned_alone a e }
after_u a e (b ∷ bytes) = by_long (is_long_mark b) refl
  where
    twice : (bytes : List ℕ) → is_long_mark b ≡ true → Front IsSuffix (a ∷ b ∷ bytes) (1 + (1 + again_len b bytes))
    twice [] f = record { word = a ∷ b ∷ []; rest = []; whole = refl; len_is = refl; is = unsigned_long a b e f }
    twice (c ∷ bytes) f = by_same (c == b) refl f
      where
        by_same : (t : Bool) → (c == b) ≡ t → is_long_mark b ≡ true → Front IsSuffix (a ∷ b ∷ c ∷ bytes) (1 + (1 + cond t 1 0))
        by_same true g f = record { word = a ∷ b ∷ b ∷ []; rest = bytes; whole = ap (λ c. a ∷ b ∷ c ∷ bytes) (eqb-true c b g); len_is = refl; is = unsigned_long_twice a b e f }
        by_same false g f = record { word = a ∷ b ∷ []; rest = c ∷ bytes; whole = refl; len_is = refl; is = unsigned_long a b e f }

    by_long : (t : Bool) → is_long_mark b ≡ t → Front IsSuffix (a ∷ b ∷ bytes) (1 + cond t (1 + again_len b bytes) 0)
    by_long true f = twice bytes f
    by_long false f = record { word = a ∷ []; rest = b ∷ bytes; whole = refl; len_is = refl; is = unsigned_alone a e }

after_l : (a : ℕ) → is_long_mark a ≡ true → (bytes : List ℕ) → Front IsSuffix (a ∷ bytes) (1 + long_rest_len a bytes)
after_l a e [] = record { word = a ∷ []; rest = []; whole = refl; len_is = refl; is = long_alone a e }
after_l a e (b ∷ bytes) = by_same (b == a) refl
  where
    second : (bytes : List ℕ) → b ≡ a → Front IsSuffix (a ∷ b ∷ bytes) (1 + (1 + unsigned_len bytes))
    second [] same_ = record { word = a ∷ a ∷ []; rest = []; whole = ap (λ b. a ∷ b ∷ []) same_; len_is = refl; is = long_twice a e }
    second (c ∷ bytes) same_ = by_unsigned (is_unsigned_mark c) refl same_
      where
        by_unsigned : (t : Bool) → is_unsigned_mark c ≡ t → b ≡ a → Front IsSuffix (a ∷ b ∷ c ∷ bytes) (1 + (1 + cond t 1 0))
        by_unsigned true f same_ = record { word = a ∷ a ∷ c ∷ []; rest = bytes; whole = ap (λ b. a ∷ b ∷ c ∷ bytes) same_; len_is = refl; is = long_twice_unsigned c a f e }
        by_unsigned false f same_ = record { word = a ∷ a ∷ []; rest = c ∷ bytes; whole = ap (λ b. a ∷ b ∷ c ∷ bytes) same_; len_is = refl; is = long_twice a e }

    first : (t : Bool) → is_unsigned_mark b ≡ t → Front IsSuffix (a ∷ b ∷ bytes) (1 + cond t 1 0)
    first true f = record { word = a ∷ b ∷ []; rest = bytes; whole = refl; len_is = refl; is = long_unsigned b a f e }
    first false f = record { word = a ∷ []; rest = b ∷ bytes; whole = refl; len_is = refl; is = long_alone a e }

    by_same : (t : Bool) → (b == a) ≡ t → Front IsSuffix (a ∷ b ∷ bytes) (1 + cond t (1 + unsigned_len bytes) (unsigned_len (b ∷ bytes)))
    by_same true g = second bytes (eqb-true b a g)
    by_same false g = first (is_unsigned_mark b) refl

suffix_found : (bytes : List ℕ) → Front IsSuffix bytes (suffix_len bytes)
suffix_found [] = record { word = []; rest = []; whole = refl; len_is = refl; is = refl }
suffix_found (a ∷ bytes) = by_unsigned (is_unsigned_mark a) refl
  where
    by_long : (t : Bool) → is_long_mark a ≡ t → Front IsSuffix (a ∷ bytes) (cond t (1 + long_rest_len a bytes) 0)
    by_long true e = after_l a e bytes
    by_long false e = record { word = []; rest = a ∷ bytes; whole = refl; len_is = refl; is = refl }

    by_unsigned : (t : Bool) → is_unsigned_mark a ≡ t → Front IsSuffix (a ∷ bytes) (cond t (1 + long_len bytes) (cond (is_long_mark a) (1 + long_rest_len a bytes) 0))
    by_unsigned true e = after_u a e bytes
    by_unsigned false e = by_long (is_long_mark a) refl

pub suffix_front : (bytes : List ℕ) → Front (Contains suffixes) bytes (suffix_len bytes)
suffix_front bytes =
    let f = suffix_found bytes in
    record { word = f.word; rest = f.rest; whole = f.whole; len_is = f.len_is; is = listed suffixes f.word f.is }

-- A suffix is found whole -------------------------------------------------------------------------------------------

cond_more : (t : Bool) (x y z w : ℕ) → x ≤ z → y ≤ w → cond t x y ≤ cond t z w
cond_more true x y z w h g = h
cond_more false x y z w h g = g

none : (n : ℕ) → 0 ≤ n
none n = omega arith

again_more : (a : ℕ) (word rest : List ℕ) → again_len a word ≤ again_len a (word ++ rest)
again_more a [] rest = none (again_len a rest)
again_more a (b ∷ word) rest = omega arith

unsigned_more : (word rest : List ℕ) → unsigned_len word ≤ unsigned_len (word ++ rest)
unsigned_more [] rest = none (unsigned_len rest)
unsigned_more (b ∷ word) rest = omega arith

long_more : (word rest : List ℕ) → long_len word ≤ long_len (word ++ rest)
long_more [] rest = none (long_len rest)
long_more (b ∷ word) rest =
    let more : again_len b word ≤ again_len b (word ++ rest) = again_more b word rest in
    cond_more (is_long_mark b) (1 + again_len b word) 0 (1 + again_len b (word ++ rest)) 0 (omega arith) (none 0)

long_rest_more : (a : ℕ) (word rest : List ℕ) → long_rest_len a word ≤ long_rest_len a (word ++ rest)
long_rest_more a [] rest = none (long_rest_len a rest)
long_rest_more a (b ∷ word) rest =
    let more : unsigned_len word ≤ unsigned_len (word ++ rest) = unsigned_more word rest in
    cond_more (b == a) (1 + unsigned_len word) (unsigned_len (b ∷ word)) (1 + unsigned_len (word ++ rest)) (unsigned_len (b ∷ (word ++ rest))) (omega arith) (unsigned_more (b ∷ word) rest)

suffix_more : (word rest : List ℕ) → suffix_len word ≤ suffix_len (word ++ rest)
suffix_more [] rest = none (suffix_len rest)
suffix_more (a ∷ word) rest =
    let long : long_len word ≤ long_len (word ++ rest) = long_more word rest in
    let long_rest : long_rest_len a word ≤ long_rest_len a (word ++ rest) = long_rest_more a word rest in
    cond_more (is_unsigned_mark a) (1 + long_len word) (cond (is_long_mark a) (1 + long_rest_len a word) 0) (1 + long_len (word ++ rest)) (cond (is_long_mark a) (1 + long_rest_len a (word ++ rest)) 0) (omega arith)
    (cond_more (is_long_mark a) (1 + long_rest_len a word) 0 (1 + long_rest_len a (word ++ rest)) 0 (omega arith) (none 0))

abbrev is_whole : List ℕ → Bool
is_whole word = suffix_len word == length word

pub suffix_whole : (word rest : List ℕ) → Contains suffixes word → length word ≤ suffix_len (word ++ rest)
suffix_whole word rest is =
    let e : suffix_len word ≡ length word = eqb-true (suffix_len word) (length word) (all_at is_whole suffixes word refl is) in
    let more : suffix_len word ≤ suffix_len (word ++ rest) = suffix_more word rest in
    omega arith

-- How it begins -----------------------------------------------------------------------------------------------------

abbrev ends_digits : List ℕ → Bool
ends_digits [] = true
ends_digits (b ∷ word) = not (is_hexadecimal_digit b) && not (is_hexadecimal_mark b)

not_true : (t : Bool) → not t ≡ true → t ≡ false
not_true true e = absurd (false≢true e)
not_true false e = refl

-- no digit and no `x`
pub suffix_begins : (b : ℕ) (word : List ℕ) → Contains suffixes (b ∷ word) → (is_hexadecimal_digit b ≡ false) × (is_hexadecimal_mark b ≡ false)
suffix_begins b word is =
    let parts = and_parts (not (is_hexadecimal_digit b)) (not (is_hexadecimal_mark b)) (all_at ends_digits suffixes (b ∷ word) refl is) in
    (not_true (is_hexadecimal_digit b) parts.0, not_true (is_hexadecimal_mark b) parts.1)
