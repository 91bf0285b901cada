-- Words.
use Rattle.std.proofs.Common.{◌≡◌, ℕ, suc, ◌+◌, ◌≤◌, ◌<◌, Bool, true, false, cond, List, [], ◌∷◌, ◌++◌, length, refl, sym, ap, subst, arith}
use Rattle.std.specs.List.{list_all, prefix_len}
use Rattle.std.proofs.lemmas.Bool.{and_parts, and_from, false≢true}
use Rattle.dc_text.specs.Words.{is_word, is_word_part, is_letter}
use Rattle.dc_lexer.specs.Reading.{word_len}
use Rattle.dc_lexer.proofs.Longest.{Front, Measures}
use Rattle.dc_lexer.proofs.Spans.{span_front, span_reaches}

abbrev pub IsWord : List ℕ → Type 0
IsWord word = is_word word ≡ true

word_sound : (bytes : List ℕ) → 0 < word_len bytes → Front IsWord bytes (word_len bytes)
word_sound [] some = absurd (omega arith)
word_sound (b ∷ bytes) some = by_test (is_letter b) refl some
  where
    by_test : (t : Bool) → is_letter b ≡ t → 0 < cond t (1 + prefix_len is_word_part bytes) 0 → Front IsWord (b ∷ bytes) (cond t (1 + prefix_len is_word_part bytes) 0)
    by_test true e some =
        let f = span_front is_word_part bytes in
        record {
          word = b ∷ f.word;
          rest = f.rest;
          whole = ap (λ r. b ∷ r) f.whole;
          len_is = let n : length f.word ≡ prefix_len is_word_part bytes = f.len_is in omega arith;
          is = and_from (is_letter b) (list_all is_word_part f.word) e f.is;
        }
    by_test false e some = absurd (omega arith)

word_whole : (word rest : List ℕ) → IsWord word → length word ≤ word_len (word ++ rest)
word_whole [] rest is = absurd (false≢true is)
word_whole (b ∷ word) rest is =
    let parts = and_parts (is_letter b) (list_all is_word_part word) is in
    let here : cond (is_letter b) (1 + prefix_len is_word_part (word ++ rest)) 0 ≡ 1 + prefix_len is_word_part (word ++ rest) = ap (λ t. cond t (1 + prefix_len is_word_part (word ++ rest)) 0) parts.0 in
    let low : length word ≤ prefix_len is_word_part (word ++ rest) = span_reaches is_word_part word rest parts.1 in
    let goal : suc (length word) ≤ 1 + prefix_len is_word_part (word ++ rest) = omega arith in
    subst (λ n. suc (length word) ≤ n) (sym here) goal

word_there : (word : List ℕ) → IsWord word → 0 < length word
word_there [] is = absurd (false≢true is)
word_there (b ∷ word) is = omega arith

pub word_measured : Measures IsWord word_len
word_measured = record { sound = word_sound; whole = word_whole; there = word_there }
