-- A length that is right for a form of prefixes gives the longest of them.
use Rattle.std.proofs.Common.{◌≡◌, ℕ, ◌+◌, ◌≤◌, ◌<◌, List, [], ◌∷◌, ◌++◌, length, take, drop, refl, sym, ap, subst, ◌∙◌, arith, append_assoc, length-append}
use Rattle.std.proofs.Math.Seq.{drop-append_seam, take-append_seam}
use Rattle.dc_lexer.specs.Pieces.{IsLongest}

-- a word of this length stands in front
pub record Front (P : List ℕ → Type 0) (bytes : List ℕ) (len : ℕ) : Type 0 where
  pub word : List ℕ
  pub rest : List ℕ
  pub whole : bytes ≡ word ++ rest
  pub len_is : length word ≡ len
  pub is : P word

-- the length of the longest prefix of that form, or 0 where there is none
pub record Measures (P : List ℕ → Type 0) (len : List ℕ → ℕ) : Type 0 where
  pub sound : (bytes : List ℕ) → 0 < len bytes → Front P bytes (len bytes)
  pub whole : (word rest : List ℕ) → P word → length word ≤ len (word ++ rest)
  pub there : (word : List ℕ) → P word → 0 < length word

pub empty : (xs : List ℕ) → length xs ≡ 0 → xs ≡ []
empty [] e = refl
empty (x ∷ xs) e = absurd (omega arith)

-- two of the same bytes are one
pub same_front : (word rest word' rest' : List ℕ) → word ++ rest ≡ word' ++ rest' → length word ≡ length word' → (word ≡ word') × (rest ≡ rest')
same_front word rest word' rest' e n = (
  sym (take-append_seam word rest) ∙ ap (λ i. take i (word ++ rest)) n ∙ ap (take (length word')) e ∙ take-append_seam word' rest',
  sym (drop-append_seam word rest) ∙ ap (λ i. drop i (word ++ rest)) n ∙ ap (drop (length word')) e ∙ drop-append_seam word' rest',
)

-- a shorter one is the front of a longer one
pub record Longer (word rest word' rest' : List ℕ) : Type 0 where
  pub more : List ℕ
  pub word_is : word' ≡ word ++ more
  pub rest_is : rest ≡ more ++ rest'

pub longer : (word rest word' rest' : List ℕ) → word ++ rest ≡ word' ++ rest' → length word ≤ length word' → Longer word rest word' rest'
longer [] rest word' rest' e n = record { more = word'; word_is = refl; rest_is = e }
longer (b ∷ word) rest [] rest' e n = absurd (omega arith)
longer (b ∷ word) rest (c ∷ word') rest' e n =
    let heads : b ≡ c = cc in
    let tails : word ++ rest ≡ word' ++ rest' = cc in
    let l = longer word rest word' rest' tails (omega arith) in
    record { more = l.more; word_is = ap (λ d. d ∷ word') (sym heads) ∙ ap (λ w. b ∷ w) l.word_is; rest_is = l.rest_is }

pub longest_in : (P : List ℕ → Type 0) (len : List ℕ → ℕ) → Measures P len → (word rest : List ℕ) → P word → length word ≡ len (word ++ rest) → IsLongest P word rest
longest_in P len m word rest is n = record {
  is = is;
  longest = λ more others e more_is.
      let same : (word ++ more) ++ others ≡ word ++ rest = append_assoc word more others ∙ ap (λ r. word ++ r) (sym e) in
      let low : length (word ++ more) ≤ len (word ++ rest) = subst (λ b. length (word ++ more) ≤ len b) same (m.whole (word ++ more) others more_is) in
      let both : length (word ++ more) ≡ length word + length more = length-append word more in
      empty more (omega arith);
}

-- what stands in front is the longest
pub front_longest : (P : List ℕ → Type 0) (len : List ℕ → ℕ) → Measures P len → (bytes : List ℕ) (f : Front P bytes (len bytes)) → IsLongest P f.word f.rest
front_longest P len m bytes f = longest_in P len m f.word f.rest f.is (f.len_is ∙ ap len f.whole)

-- a longer one adds nothing to the longest
longest_ends : (P : List ℕ → Type 0) (word behind word' rest' : List ℕ) → IsLongest P word behind → Longer word behind word' rest' → P word' → length word' ≡ length word
longest_ends P word behind word' rest' l more is =
    let none : more.more ≡ [] = l.longest more.more rest' more.rest_is (subst P more.word_is is) in
    let both : length word' ≡ length word + length more.more = ap length more.word_is ∙ length-append word more.more in
    let none_len : length more.more ≡ 0 = ap length none in
    omega arith

pub len_of_longest : (P : List ℕ → Type 0) (len : List ℕ → ℕ) → Measures P len → (word behind : List ℕ) → IsLongest P word behind → len (word ++ behind) ≡ length word
len_of_longest P len m word behind l =
    let low : length word ≤ len (word ++ behind) = m.whole word behind l.is in
    let some : 0 < length word = m.there word l.is in
    by_front (m.sound (word ++ behind) (omega arith))
  where
    by_front : Front P (word ++ behind) (len (word ++ behind)) → len (word ++ behind) ≡ length word
    by_front f =
        let low : length word ≤ len (word ++ behind) = m.whole word behind l.is in
        let f_len : length f.word ≡ len (word ++ behind) = f.len_is in
        sym f.len_is ∙ longest_ends P word behind f.word f.rest l (longer word behind f.word f.rest f.whole (omega arith)) f.is
