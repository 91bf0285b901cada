-- Directives that are skipped.
use Rattle.std.proofs.Common.{◌≡◌, ℕ, zero, suc, ◌+◌, ◌≤◌, ◌<◌, Bool, true, false, cond, ◌||◌, inl, inr, List, [], ◌∷◌, ◌++◌, length, take, drop, get_or, refl, sym, ap, subst, ◌∙◌, arith, append_assoc, length-append, take-append-drop}
use Rattle.std.specs.Prelude.{◌==◌, codes}
use Rattle.std.specs.List.{prefix_len, AllByRecursion, Contains}
use Rattle.std.specs.Cmp.Lexicographic.{bytes_decides}
use Rattle.std.proofs.lemmas.Bool.{or_cases, eqb-true, ne_eqb}
use Rattle.std.proofs.lemmas.Bool.Decides.{nat_tests}
use Rattle.std.proofs.lemmas.List.{drop_at}
use Rattle.dc_text.specs.Words.{is_digit}
use Rattle.dc_lexer.specs.Pieces.{is_blank, AreBlanks, headers, IsLineMarker, IsInclude}
use Rattle.dc_lexer.specs.Reading.{is_in_line, mark_len, len_behind, blanks_and, hash_and, marker_len, begins, header_len, named_len, include_len}
use Rattle.dc_lexer.proofs.Longest.{Front, Measures}
use Rattle.dc_lexer.proofs.Spans.{Passes, Stops, span_front, span_reaches, span_stops}
use Rattle.dc_lexer.proofs.Lexed.{no_newlines}
use Rattle.dc_lexer.proofs.Commented.{in_line_passes}

-- Behind blanks and behind `#` ----------------------------------------------------------------------------------------

behind_some : (k n : ℕ) → 0 < n → len_behind k n ≡ k + n
behind_some k n some = ap (λ t. cond t 0 (k + n)) (ne_eqb n 0 (λ e. omega arith))

some_behind : (k n : ℕ) → 0 < len_behind k n → 0 < n
some_behind k zero some = absurd (omega arith)
some_behind k (suc n) some = omega arith

-- blanks, and a word of the form
record Blanked (P : List ℕ → Type 0) (word : List ℕ) : Type 0 where
  pub blanks : List ℕ
  pub behind : List ℕ
  pub whole : word ≡ blanks ++ behind
  pub blank : AreBlanks blanks
  pub is : P behind

blanks_sound : (P : List ℕ → Type 0) (len : List ℕ → ℕ) → ((bytes : List ℕ) → 0 < len bytes → Front P bytes (len bytes)) → (bytes : List ℕ) → 0 < blanks_and len bytes → Front (Blanked P) bytes (blanks_and len bytes)
blanks_sound P len sound bytes some =
    let n : ℕ = prefix_len is_blank bytes in
    let f = span_front is_blank bytes in
    let f_len : length f.word ≡ prefix_len is_blank bytes = f.len_is in
    let behind : drop (prefix_len is_blank bytes) bytes ≡ f.rest = ap (drop (prefix_len is_blank bytes)) f.whole ∙ drop_at f.word f.rest (prefix_len is_blank bytes) f.len_is in
    let there : 0 < len (drop (prefix_len is_blank bytes) bytes) = some_behind (prefix_len is_blank bytes) (len (drop (prefix_len is_blank bytes) bytes)) some in
    let g = sound (drop (prefix_len is_blank bytes) bytes) there in
    let g_len : length g.word ≡ len (drop (prefix_len is_blank bytes) bytes) = g.len_is in
    let sum : blanks_and len bytes ≡ prefix_len is_blank bytes + len (drop (prefix_len is_blank bytes) bytes) = behind_some (prefix_len is_blank bytes) (len (drop (prefix_len is_blank bytes) bytes)) there in
    let both : length (f.word ++ g.word) ≡ length f.word + length g.word = length-append f.word g.word in
    record {
      word = f.word ++ g.word;
      rest = g.rest;
      whole = f.whole ∙ ap (λ r. f.word ++ r) (sym behind ∙ g.whole) ∙ sym (append_assoc f.word g.word g.rest);
      len_is = omega arith;
      is = record { blanks = f.word; behind = g.word; whole = refl; blank = f.is; is = g.is };
    }

blanks_over : (len : List ℕ → ℕ) (blanks bytes : List ℕ) → AreBlanks blanks → Stops is_blank bytes → blanks_and len (blanks ++ bytes) ≡ len_behind (length blanks) (len bytes)
blanks_over len blanks bytes all stops =
    ap (λ n. len_behind n (len (drop n (blanks ++ bytes)))) (span_stops is_blank blanks bytes all stops)
    ∙ ap (λ b. len_behind (length blanks) (len b)) (drop_at blanks bytes (length blanks) refl)

-- `#`, and a word of the form
record Hashed (P : List ℕ → Type 0) (word : List ℕ) : Type 0 where
  pub behind : List ℕ
  pub whole : word ≡ 35 ∷ behind
  pub is : P behind

hash_sound : (P : List ℕ → Type 0) (len : List ℕ → ℕ) → ((bytes : List ℕ) → 0 < len bytes → Front P bytes (len bytes)) → (bytes : List ℕ) → 0 < hash_and len bytes → Front (Hashed P) bytes (hash_and len bytes)
hash_sound P len sound [] some = absurd (omega arith)
hash_sound P len sound (b ∷ bytes) some = by_hash (b == 35) refl some
  where
    by_hash : (t : Bool) → (b == 35) ≡ t → 0 < cond t (len_behind 1 (len bytes)) 0 → Front (Hashed P) (b ∷ bytes) (cond t (len_behind 1 (len bytes)) 0)
    by_hash true e some =
        let there : 0 < len bytes = some_behind 1 (len bytes) some in
        let f = sound bytes there in
        let f_len : length f.word ≡ len bytes = f.len_is in
        let sum : len_behind 1 (len bytes) ≡ 1 + len bytes = behind_some 1 (len bytes) there in
        record {
          word = 35 ∷ f.word;
          rest = f.rest;
          whole = ap (λ b. b ∷ bytes) (eqb-true b 35 e) ∙ ap (λ r. 35 ∷ r) f.whole;
          len_is = omega arith;
          is = record { behind = f.word; whole = refl; is = f.is };
        }
    by_hash false e some = absurd (omega arith)

-- Line markers --------------------------------------------------------------------------------------------------------

record IsMark (word : List ℕ) : Type 0 where
  pub digit : ℕ
  pub text : List ℕ
  pub whole : word ≡ digit ∷ text
  pub is : is_digit digit ≡ true
  pub in_line : Passes is_in_line text

mark_sound : (bytes : List ℕ) → 0 < mark_len bytes → Front IsMark bytes (mark_len bytes)
mark_sound [] some = absurd (omega arith)
mark_sound (b ∷ bytes) some = by_digit (is_digit b) refl some
  where
    by_digit : (t : Bool) → is_digit b ≡ t → 0 < cond t (1 + prefix_len is_in_line bytes) 0 → Front IsMark (b ∷ bytes) (cond t (1 + prefix_len is_in_line bytes) 0)
    by_digit true e some =
        let f = span_front is_in_line bytes in
        let f_len : length f.word ≡ prefix_len is_in_line bytes = f.len_is in
        record { word = b ∷ f.word; rest = f.rest; whole = ap (λ r. b ∷ r) f.whole; len_is = omega arith; is = record { digit = b; text = f.word; whole = refl; is = e; in_line = f.is } }
    by_digit false e some = absurd (omega arith)

digit_stops : (b : ℕ) → is_digit b ≡ true → is_blank b ≡ false
digit_stops b e = grind (arith, nat_tests)

marker_sound : (bytes : List ℕ) → 0 < marker_len bytes → Front IsLineMarker bytes (marker_len bytes)
marker_sound bytes some =
    let f = hash_sound (Blanked IsMark) (blanks_and mark_len) (blanks_sound IsMark mark_len mark_sound) bytes some in
    let h = f.is in
    let b = h.is in
    let m = b.is in
    record {
      word = f.word;
      rest = f.rest;
      whole = f.whole;
      len_is = f.len_is;
      is = (b.blanks, m.text, m.digit, b.blank, m.is, no_newlines m.text m.in_line, h.whole ∙ ap (λ w. 35 ∷ w) (b.whole ∙ ap (λ w. b.blanks ++ w) m.whole));
    }

marker_at : (blanks text rest : List ℕ) (digit : ℕ) → AreBlanks blanks → is_digit digit ≡ true → Passes is_in_line text → length (35 ∷ (blanks ++ digit ∷ text)) ≤ marker_len ((35 ∷ (blanks ++ digit ∷ text)) ++ rest)
marker_at blanks text rest digit blank is in_line =
    let same : (blanks ++ digit ∷ text) ++ rest ≡ blanks ++ (digit ∷ (text ++ rest)) = append_assoc blanks (digit ∷ text) rest in
    let low : length text ≤ prefix_len is_in_line (text ++ rest) = span_reaches is_in_line text rest in_line in
    let mark : mark_len (digit ∷ (text ++ rest)) ≡ 1 + prefix_len is_in_line (text ++ rest) = ap (λ t. cond t (1 + prefix_len is_in_line (text ++ rest)) 0) is in
    let some : 0 < mark_len (digit ∷ (text ++ rest)) = omega arith in
    let behind : blanks_and mark_len ((blanks ++ digit ∷ text) ++ rest) ≡ length blanks + mark_len (digit ∷ (text ++ rest)) =
    ap (blanks_and mark_len) same ∙ blanks_over mark_len blanks (digit ∷ (text ++ rest)) blank (digit_stops digit is) ∙ behind_some (length blanks) (mark_len (digit ∷ (text ++ rest))) some in
    let there : 0 < blanks_and mark_len ((blanks ++ digit ∷ text) ++ rest) = omega arith in
    let all : len_behind 1 (blanks_and mark_len ((blanks ++ digit ∷ text) ++ rest)) ≡ 1 + blanks_and mark_len ((blanks ++ digit ∷ text) ++ rest) = behind_some 1 (blanks_and mark_len ((blanks ++ digit ∷ text) ++ rest)) there in
    let lens : length (blanks ++ digit ∷ text) ≡ length blanks + suc (length text) = length-append blanks (digit ∷ text) in
    let goal : suc (length (blanks ++ digit ∷ text)) ≤ len_behind 1 (blanks_and mark_len ((blanks ++ digit ∷ text) ++ rest)) = omega arith in
    goal

marker_whole : (word rest : List ℕ) → IsLineMarker word → length word ≤ marker_len (word ++ rest)
marker_whole word rest is =
    subst (λ w. length w ≤ marker_len (w ++ rest)) (sym is.6) (marker_at is.0 is.1 rest is.2 is.3 is.4 (in_line_passes is.1 is.5))

marker_there : (word : List ℕ) → IsLineMarker word → 0 < length word
marker_there word is = let n : length word ≡ suc (length (is.0 ++ is.2 ∷ is.1)) = ap length is.6 in omega arith

pub marker_measured : Measures IsLineMarker marker_len
marker_measured = record { sound = marker_sound; whole = marker_whole; there = marker_there }

-- Headers -------------------------------------------------------------------------------------------------------------

begins_front : (word bytes : List ℕ) → begins word bytes ≡ true → Front (λ w. w ≡ word) bytes (length word)
begins_front word bytes e =
    let same_ : word ≡ take (length word) bytes = (bytes_decides word (take (length word) bytes)).0 e in
    record { word = word; rest = drop (length word) bytes; whole = sym (take-append-drop (length word) bytes) ∙ ap (λ w. w ++ drop (length word) bytes) (sym same_); len_is = refl; is = refl }

begins_over : (word rest : List ℕ) → begins word (word ++ rest) ≡ true
begins_over word rest = (bytes_decides word (take (length word) (word ++ rest))).1 (sym (front word rest))
  where
    front : (word rest : List ℕ) → take (length word) (word ++ rest) ≡ word
    front [] rest = refl
    front (b ∷ word) rest = ap (λ w. b ∷ w) (front word rest)

-- a header in its brackets
record IsHeader (word : List ℕ) : Type 0 where
  pub header : List ℕ
  pub whole : word ≡ codes "<" ++ (header ++ codes ">")
  pub known : Contains headers header

header_at : (header bytes : List ℕ) (n : ℕ) → Contains headers header → length (codes "<" ++ (header ++ codes ">")) ≡ n → begins (codes "<" ++ (header ++ codes ">")) bytes ≡ true → Front IsHeader bytes n
header_at header bytes n known len e =
    let f = begins_front (codes "<" ++ (header ++ codes ">")) bytes e in
    record { word = f.word; rest = f.rest; whole = f.whole; len_is = f.len_is ∙ len; is = record { header = header; whole = f.is; known = known } }

header_sound : (bytes : List ℕ) → 0 < header_len bytes → Front IsHeader bytes (header_len bytes)
header_sound bytes some = by_ten tens refl some
  where
    one : Bool
    one = begins (codes "<assert.h>") bytes

    two : Bool
    two = begins (codes "<limits.h>") bytes

    three : Bool
    three = begins (codes "<stddef.h>") bytes

    four : Bool
    four = begins (codes "<stdint.h>") bytes

    five : Bool
    five = begins (codes "<stdlib.h>") bytes

    six : Bool
    six = begins (codes "<string.h>") bytes

    seven : Bool
    seven = begins (codes "<stdbool.h>") bytes

    tens : Bool
    tens = one || two || three || four || five || six

    ten : (header : List ℕ) → Contains headers header → length (codes "<" ++ (header ++ codes ">")) ≡ 10 → begins (codes "<" ++ (header ++ codes ">")) bytes ≡ true → Front IsHeader bytes 10
    ten header known len e = header_at header bytes 10 known len e

    by_three : (one || two || three) ≡ true → Front IsHeader bytes 10
    by_three e =
        elim (or_cases (one || two) three e) [
          | inl e ↦ elim (or_cases one two e) [ inl e ↦ ten (codes "assert.h") (0, omega arith, refl) refl e | inr e ↦ ten (codes "limits.h") (1, omega arith, refl) refl e ]
          | inr e ↦ ten (codes "stddef.h") (3, omega arith, refl) refl e
        ]

    by_six : tens ≡ true → Front IsHeader bytes 10
    by_six e =
        elim (or_cases (one || two || three || four || five) six e) [
          | inl e ↦ elim (or_cases (one || two || three || four) five e) [
            | inl e ↦ elim (or_cases (one || two || three) four e) [ inl e ↦ by_three e | inr e ↦ ten (codes "stdint.h") (4, omega arith, refl) refl e ]
            | inr e ↦ ten (codes "stdlib.h") (5, omega arith, refl) refl e
          ]
          | inr e ↦ ten (codes "string.h") (6, omega arith, refl) refl e
        ]

    by_seven : (t : Bool) → seven ≡ t → 0 < cond t 11 0 → Front IsHeader bytes (cond t 11 0)
    by_seven true e some = header_at (codes "stdbool.h") bytes 11 (2, omega arith, refl) refl e
    by_seven false e some = absurd (omega arith)

    by_ten : (t : Bool) → tens ≡ t → 0 < cond t 10 (cond seven 11 0) → Front IsHeader bytes (cond t 10 (cond seven 11 0))
    by_ten true e some = by_six e
    by_ten false e some = by_seven seven refl some

-- what holds of each of a table holds of one of it
at_each : (P : List ℕ → Type 0) (table : List (List ℕ)) (word : List ℕ) → AllByRecursion P table → Contains table word → P word
at_each P table word each c = at table each c.0 c.1 c.2
  where
    at : (table : List (List ℕ)) → AllByRecursion P table → (k : ℕ) → k < length table → get_or table k word ≡ word → P word
    at [] each k lt e = absurd (omega arith)
    at (w ∷ table) each zero lt e = subst P e each.0
    at (w ∷ table) each (suc k) lt e = at table each.1 k (omega arith) e

abbrev IsFound : List ℕ → Type 0
IsFound header = (rest : List ℕ) → header_len (codes "<" ++ ((header ++ codes ">") ++ rest)) ≡ length header + 2

all_found : AllByRecursion IsFound headers
all_found = (λ rest. refl, (λ rest. refl, (λ rest. refl, (λ rest. refl, (λ rest. refl, (λ rest. refl, (λ rest. refl, tt)))))))

-- Includes ------------------------------------------------------------------------------------------------------------

-- `include`, and a header behind blanks
record IsNamed (word : List ℕ) : Type 0 where
  pub behind : List ℕ
  pub whole : word ≡ codes "include" ++ behind
  pub is : Blanked IsHeader behind

named_sound : (bytes : List ℕ) → 0 < named_len bytes → Front IsNamed bytes (named_len bytes)
named_sound bytes some = by_word (begins (codes "include") bytes) refl some
  where
    behind_word : ℕ
    behind_word = len_behind 7 (blanks_and header_len (drop 7 bytes))

    by_word : (t : Bool) → begins (codes "include") bytes ≡ t → 0 < cond t behind_word 0 → Front IsNamed bytes (cond t behind_word 0)
    by_word true e some =
        let f = begins_front (codes "include") bytes e in
        let behind : drop 7 bytes ≡ f.rest = ap (drop 7) f.whole ∙ drop_at f.word f.rest 7 f.len_is in
        let there : 0 < blanks_and header_len (drop 7 bytes) = some_behind 7 (blanks_and header_len (drop 7 bytes)) some in
        let g = blanks_sound IsHeader header_len header_sound (drop 7 bytes) there in
        let g_len : length g.word ≡ blanks_and header_len (drop 7 bytes) = g.len_is in
        let sum : len_behind 7 (blanks_and header_len (drop 7 bytes)) ≡ 7 + blanks_and header_len (drop 7 bytes) = behind_some 7 (blanks_and header_len (drop 7 bytes)) there in
        let f_len : length f.word ≡ 7 = f.len_is in
        let both : length (f.word ++ g.word) ≡ length f.word + length g.word = length-append f.word g.word in
        record {
          word = f.word ++ g.word;
          rest = g.rest;
          whole = f.whole ∙ ap (λ r. f.word ++ r) (sym behind ∙ g.whole) ∙ sym (append_assoc f.word g.word g.rest);
          len_is = omega arith;
          is = record { behind = g.word; whole = ap (λ w. w ++ g.word) f.is; is = g.is };
        }
    by_word false e some = absurd (omega arith)

pub include_sound : (bytes : List ℕ) → 0 < include_len bytes → Front IsInclude bytes (include_len bytes)
include_sound bytes some =
    let f = hash_sound (Blanked IsNamed) (blanks_and named_len) (blanks_sound IsNamed named_len named_sound) bytes some in
    let h = f.is in
    let b = h.is in
    let n = b.is in
    let o = n.is in
    let g = o.is in
    record {
      word = f.word;
      rest = f.rest;
      whole = f.whole;
      len_is = f.len_is;
      is = record {
        blanks = b.blanks;
        others = o.blanks;
        header = g.header;
        blank = b.blank;
        other = o.blank;
        known = g.known;
        whole = h.whole ∙ ap (λ w. 35 ∷ w) (b.whole ∙ ap (λ w. b.blanks ++ w) (n.whole ∙ ap (λ w. codes "include" ++ w) (o.whole ∙ ap (λ w. o.blanks ++ w) g.whole)));
      };
    }

named_at : (others header rest : List ℕ) → AreBlanks others → Contains headers header → named_len (codes "include" ++ (others ++ (codes "<" ++ ((header ++ codes ">") ++ rest)))) ≡ 7 + (length others + (length header + 2))
named_at others header rest other known =
    let behind : List ℕ = codes "<" ++ ((header ++ codes ">") ++ rest) in
    let found : header_len behind ≡ length header + 2 = at_each IsFound headers header all_found known rest in
    let some : 0 < header_len behind = omega arith in
    let blanks : blanks_and header_len (others ++ behind) ≡ length others + header_len behind = blanks_over header_len others behind other refl ∙ behind_some (length others) (header_len behind) some in
    let there : 0 < blanks_and header_len (others ++ behind) = omega arith in
    let word : named_len (codes "include" ++ (others ++ behind)) ≡ len_behind 7 (blanks_and header_len (others ++ behind)) =
    ap (λ t. cond t (len_behind 7 (blanks_and header_len (others ++ behind))) 0) (begins_over (codes "include") (others ++ behind)) in
    word ∙ behind_some 7 (blanks_and header_len (others ++ behind)) there ∙ ap (λ n. 7 + n) (blanks ∙ ap (λ n. length others + n) found)

-- an include with what stands behind it
include_over : (word rest : List ℕ) (i : IsInclude word) → word ++ rest ≡ 35 ∷ (i.blanks ++ (codes "include" ++ (i.others ++ (codes "<" ++ ((i.header ++ codes ">") ++ rest)))))
include_over word rest i =
    let head : List ℕ = codes "<" ++ (i.header ++ codes ">") in
    ap (λ w. w ++ rest) i.whole
    ∙ ap (λ w. 35 ∷ w) (append_assoc i.blanks (codes "include" ++ (i.others ++ head)) rest
    ∙ ap (λ w. i.blanks ++ (codes "include" ++ w)) (append_assoc i.others head rest))

pub include_exact : (word rest : List ℕ) → IsInclude word → include_len (word ++ rest) ≡ length word
include_exact word rest i =
    let behind : List ℕ = codes "include" ++ (i.others ++ (codes "<" ++ ((i.header ++ codes ">") ++ rest))) in
    let named : named_len behind ≡ 7 + (length i.others + (length i.header + 2)) = named_at i.others i.header rest i.other i.known in
    let some : 0 < named_len behind = omega arith in
    let blanks : blanks_and named_len (i.blanks ++ behind) ≡ length i.blanks + named_len behind = blanks_over named_len i.blanks behind i.blank refl ∙ behind_some (length i.blanks) (named_len behind) some in
    let there : 0 < blanks_and named_len (i.blanks ++ behind) = omega arith in
    let all : include_len (35 ∷ (i.blanks ++ behind)) ≡ 1 + blanks_and named_len (i.blanks ++ behind) = behind_some 1 (blanks_and named_len (i.blanks ++ behind)) there in
    let n1 : length (i.header ++ codes ">") ≡ length i.header + 1 = length-append i.header (codes ">") in
    let n2 : length (i.others ++ (codes "<" ++ (i.header ++ codes ">"))) ≡ length i.others + suc (length (i.header ++ codes ">")) = length-append i.others (codes "<" ++ (i.header ++ codes ">")) in
    let n3 : length (i.blanks ++ (codes "include" ++ (i.others ++ (codes "<" ++ (i.header ++ codes ">"))))) ≡ length i.blanks + (7 + length (i.others ++ (codes "<" ++ (i.header ++ codes ">")))) =
    length-append i.blanks (codes "include" ++ (i.others ++ (codes "<" ++ (i.header ++ codes ">")))) ∙ ap (λ n. length i.blanks + n) (length-append (codes "include") (i.others ++ (codes "<" ++ (i.header ++ codes ">")))) in
    let len : length word ≡ suc (length (i.blanks ++ (codes "include" ++ (i.others ++ (codes "<" ++ (i.header ++ codes ">")))))) = ap length i.whole in
    let sum : 1 + blanks_and named_len (i.blanks ++ behind) ≡ length word = omega arith in
    ap include_len (include_over word rest i) ∙ all ∙ sum

-- an include is no line marker
pub include_no_marker : (word rest : List ℕ) → IsInclude word → marker_len (word ++ rest) ≡ 0
include_no_marker word rest i =
    let behind : List ℕ = codes "include" ++ (i.others ++ (codes "<" ++ ((i.header ++ codes ">") ++ rest))) in
    ap marker_len (include_over word rest i) ∙ ap (len_behind 1) (blanks_over mark_len i.blanks behind i.blank refl)

pub include_there : (word : List ℕ) → IsInclude word → 0 < length word
include_there word i = let n : length word ≡ suc (length (i.blanks ++ (codes "include" ++ (i.others ++ (codes "<" ++ (i.header ++ codes ">")))))) = ap length i.whole in omega arith
