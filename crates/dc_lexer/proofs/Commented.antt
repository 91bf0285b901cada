-- Blanks and comments.
use Rattle.std.proofs.Common.{◌≡◌, ℕ, suc, ◌+◌, ◌≤◌, ◌<◌, Bool, true, false, cond, ◌&&◌, not, inl, inr, Option, None, Some, List, [], ◌∷◌, ◌++◌, length, refl, sym, ap, subst, ◌∙◌, arith, append_assoc, length-append}
use Rattle.std.specs.Prelude.{◌==◌, codes}
use Rattle.std.specs.List.{list_all, prefix_len}
use Rattle.std.specs.Option.{option_map}
use Rattle.std.proofs.lemmas.Bool.{and_parts, and_from, eqb-true, false≢true}
use Rattle.dc_lexer.specs.Pieces.{is_blank, is_newline, newlines, IsInLine, IsLongest, IsShortest, IsLineComment, IsBlockComment, IsQuietGap}
use Rattle.dc_lexer.specs.Reading.{is_in_line, begins_with, close_len, block_len, comment_len, quiet_len}
use Rattle.dc_lexer.proofs.Longest.{Front, Measures, longest_in, len_of_longest, longer, empty}
use Rattle.dc_lexer.proofs.Spans.{Passes, span_front, span_reaches}
use Rattle.dc_lexer.proofs.Lexed.{newlines_append, no_newlines}

-- Lines -------------------------------------------------------------------------------------------------------------

pub in_line_passes : (text : List ℕ) → IsInLine text → Passes is_in_line text
in_line_passes [] none = refl
in_line_passes (b ∷ text) none = by_test (is_newline b) refl (in_line_passes text (omega (arith, newlines_append (b ∷ []) text)))
  where
    by_test : (t : Bool) → is_newline b ≡ t → Passes is_in_line text → (not (is_newline b) && list_all is_in_line text) ≡ true
    by_test true e all =
        let one : newlines (b ∷ []) ≡ 0 + 1 = ap (λ t. 0 + cond t 1 0) e in
        let sum : newlines (b ∷ text) ≡ newlines (b ∷ []) + newlines text = newlines_append (b ∷ []) text in
        absurd (omega arith)
    by_test false e all = and_from (not (is_newline b)) (list_all is_in_line text) (ap not e) all

-- behind the second slash
abbrev line_behind_len : List ℕ → ℕ
line_behind_len [] = 0
line_behind_len (b ∷ bytes) = cond (b == 47) (2 + prefix_len is_in_line bytes) 0

abbrev line_comment_len : List ℕ → ℕ
line_comment_len [] = 0
line_comment_len (a ∷ bytes) = cond (a == 47) (line_behind_len bytes) 0

line_at : (bytes : List ℕ) → Front IsLineComment (47 ∷ 47 ∷ bytes) (2 + prefix_len is_in_line bytes)
line_at bytes =
    let f = span_front is_in_line bytes in
    let n : length f.word ≡ prefix_len is_in_line bytes = f.len_is in
    record { word = 47 ∷ 47 ∷ f.word; rest = f.rest; whole = ap (λ r. 47 ∷ 47 ∷ r) f.whole; len_is = omega arith; is = (f.word, no_newlines f.word f.is, refl) }

line_sound : (bytes : List ℕ) → 0 < line_comment_len bytes → Front IsLineComment bytes (line_comment_len bytes)
line_sound [] some = absurd (omega arith)
line_sound (a ∷ bytes) some = by_first (a == 47) refl some
  where
    by_second : (b : ℕ) (bytes : List ℕ) (t : Bool) → (b == 47) ≡ t → 0 < cond t (2 + prefix_len is_in_line bytes) 0 → Front IsLineComment (47 ∷ b ∷ bytes) (cond t (2 + prefix_len is_in_line bytes) 0)
    by_second b bytes true e some = subst (λ b. Front IsLineComment (47 ∷ b ∷ bytes) (2 + prefix_len is_in_line bytes)) (sym (eqb-true b 47 e)) (line_at bytes)
    by_second b bytes false e some = absurd (omega arith)

    second : (bytes : List ℕ) → 0 < line_behind_len bytes → Front IsLineComment (47 ∷ bytes) (line_behind_len bytes)
    second [] some = absurd (omega arith)
    second (b ∷ bytes) some = by_second b bytes (b == 47) refl some

    by_first : (t : Bool) → (a == 47) ≡ t → 0 < cond t (line_behind_len bytes) 0 → Front IsLineComment (a ∷ bytes) (cond t (line_behind_len bytes) 0)
    by_first true e some = subst (λ a. Front IsLineComment (a ∷ bytes) (line_behind_len bytes)) (sym (eqb-true a 47 e)) (second bytes some)
    by_first false e some = absurd (omega arith)

line_whole : (word rest : List ℕ) → IsLineComment word → length word ≤ line_comment_len (word ++ rest)
line_whole word rest is =
    let low : length is.0 ≤ prefix_len is_in_line (is.0 ++ rest) = span_reaches is_in_line is.0 rest (in_line_passes is.0 is.1) in
    let goal : suc (suc (length is.0)) ≤ 2 + prefix_len is_in_line (is.0 ++ rest) = omega arith in
    subst (λ w. length w ≤ line_comment_len (w ++ rest)) (sym is.2) goal

line_there : (word : List ℕ) → IsLineComment word → 0 < length word
line_there word is = let n : length word ≡ suc (suc (length is.0)) = ap length is.2 in omega arith

pub line_measured : Measures IsLineComment line_comment_len
line_measured = record { sound = line_sound; whole = line_whole; there = line_there }

-- Block comments ----------------------------------------------------------------------------------------------------

-- a text and what ends its comment
abbrev Closed : List ℕ → Type 0
Closed word = (text : List ℕ) × (word ≡ text ++ codes "*/")

close_sound : (bytes : List ℕ) (n : ℕ) → close_len bytes ≡ Some n → Front Closed bytes n
close_sound [] n e = cc
close_sound (a ∷ bytes) n e = by_close (a == 42 && begins_with 47 bytes) refl e (close_sound bytes)
  where
    here : (bytes : List ℕ) → (a == 42) ≡ true → begins_with 47 bytes ≡ true → Front Closed (a ∷ bytes) 2
    here [] e f = absurd (false≢true f)
    here (b ∷ bytes) e f =
        record {
          word = 42 ∷ 47 ∷ [];
          rest = bytes;
          whole = ap (λ a. a ∷ b ∷ bytes) (eqb-true a 42 e) ∙ ap (λ b. 42 ∷ b ∷ bytes) (eqb-true b 47 f);
          len_is = refl;
          is = ([], refl);
        }

    there : (o : Option ℕ) → close_len bytes ≡ o → option_map (λ n. 1 + n) o ≡ Some n → ((m : ℕ) → close_len bytes ≡ Some m → Front Closed bytes m) → Front Closed (a ∷ bytes) n
    there None f e ih = cc
    there (Some m) f e ih =
        let g = ih m f in
        let same : 1 + m ≡ n = cc in
        let len : length g.word ≡ m = g.len_is in
        record { word = a ∷ g.word; rest = g.rest; whole = ap (λ r. a ∷ r) g.whole; len_is = omega arith; is = (a ∷ g.is.0, ap (λ w. a ∷ w) g.is.1) }

    by_close : (t : Bool) → (a == 42 && begins_with 47 bytes) ≡ t → cond t (Some 2) (option_map (λ n. 1 + n) (close_len bytes)) ≡ Some n → ((m : ℕ) → close_len bytes ≡ Some m → Front Closed bytes m) → Front Closed (a ∷ bytes) n
    by_close true f e ih =
        let parts = and_parts (a == 42) (begins_with 47 bytes) f in
        let same : 2 ≡ n = cc in
        subst (Front Closed (a ∷ bytes)) same (here bytes parts.0 parts.1)
    by_close false f e ih = there (close_len bytes) refl e ih

-- a comment that ends there or before
record Ends (bytes : List ℕ) (len : ℕ) : Type 0 where
  pub n : ℕ
  pub is : close_len bytes ≡ Some n
  pub low : n ≤ len

close_whole : (text rest : List ℕ) → Ends (text ++ (codes "*/" ++ rest)) (length text + 2)
close_whole [] rest = record { n = 2; is = refl; low = omega arith }
close_whole (a ∷ text) rest = by_close (a == 42 && begins_with 47 (text ++ (codes "*/" ++ rest))) refl (close_whole text rest)
  where
    by_close : (t : Bool) → (a == 42 && begins_with 47 (text ++ (codes "*/" ++ rest))) ≡ t → Ends (text ++ (codes "*/" ++ rest)) (length text + 2) → Ends (a ∷ (text ++ (codes "*/" ++ rest))) (suc (length text) + 2)
    by_close true e ih = record { n = 2; is = ap (λ t. cond t (Some 2) (option_map (λ n. 1 + n) (close_len (text ++ (codes "*/" ++ rest))))) e; low = omega arith }
    by_close false e ih =
        let low : ih.n ≤ length text + 2 = ih.low in
        record {
          n = 1 + ih.n;
          is = ap (λ t. cond t (Some 2) (option_map (λ n. 1 + n) (close_len (text ++ (codes "*/" ++ rest))))) e ∙ ap (option_map (λ n. 1 + n)) ih.is;
          low = omega arith;
        }

some_is : (a b : ℕ) → Some a ≡ Some b → a ≡ b
some_is a b e = cc

-- the text in front of what ends it is as short as it can be
block_shortest : (text rest : List ℕ) (n : ℕ) → close_len ((text ++ codes "*/") ++ rest) ≡ Some n → length (text ++ codes "*/") ≡ n → IsShortest IsBlockComment (47 ∷ 42 ∷ (text ++ codes "*/"))
block_shortest text rest n found len = record {
  is = (text, refl);
  shortest = λ front others e is.
      let front_is : 47 ∷ 42 ∷ (text ++ codes "*/") ≡ 47 ∷ 42 ∷ ((is.0 ++ codes "*/") ++ others) = e ∙ ap (λ f. f ++ others) is.1 in
      let inner : text ++ codes "*/" ≡ (is.0 ++ codes "*/") ++ others = cc in
      let other = close_whole is.0 (others ++ rest) in
      let same : (text ++ codes "*/") ++ rest ≡ is.0 ++ (codes "*/" ++ (others ++ rest)) =
      ap (λ t. t ++ rest) inner ∙ append_assoc (is.0 ++ codes "*/") others rest ∙ append_assoc is.0 (codes "*/") (others ++ rest) in
      let n_is : n ≡ other.n = some_is n other.n (sym found ∙ ap close_len same ∙ other.is) in
      let low : other.n ≤ length is.0 + 2 = other.low in
      let lens : length (text ++ codes "*/") ≡ length (is.0 ++ codes "*/") + length others = ap length inner ∙ length-append (is.0 ++ codes "*/") others in
      let lens' : length (is.0 ++ codes "*/") ≡ length is.0 + 2 = length-append is.0 (codes "*/") in
      empty others (omega arith);
}

-- What is found is quiet ----------------------------------------------------------------------------------------------

pub record QuietFront (bytes : List ℕ) (len : ℕ) : Type 0 where
  pub word : List ℕ
  pub rest : List ℕ
  pub whole : bytes ≡ word ++ rest
  pub len_is : length word ≡ len
  pub is : IsQuietGap word rest

line_front : (bytes : List ℕ) → QuietFront (47 ∷ 47 ∷ bytes) (2 + prefix_len is_in_line bytes)
line_front bytes =
    let f = line_at bytes in
    record { word = f.word; rest = f.rest; whole = f.whole; len_is = f.len_is; is = inr (inl (longest_in IsLineComment line_comment_len line_measured f.word f.rest f.is (f.len_is ∙ ap line_comment_len f.whole))) }

block_front : (bytes : List ℕ) (n : ℕ) → close_len bytes ≡ Some n → QuietFront (47 ∷ 42 ∷ bytes) (2 + n)
block_front bytes n e =
    let f = close_sound bytes n e in
    let len : length f.word ≡ n = f.len_is in
    let text : f.word ≡ f.is.0 ++ codes "*/" = f.is.1 in
    record {
      word = 47 ∷ 42 ∷ f.word;
      rest = f.rest;
      whole = ap (λ r. 47 ∷ 42 ∷ r) f.whole;
      len_is = omega arith;
      is = inr (inr (subst (λ w. IsShortest IsBlockComment (47 ∷ 42 ∷ w)) (sym text) (block_shortest f.is.0 f.rest n (ap (λ w. close_len (w ++ f.rest)) (sym text) ∙ ap close_len (sym f.whole) ∙ e) (ap length (sym text) ∙ len))));
    }

pub quiet_sound : (bytes : List ℕ) → 0 < quiet_len bytes → QuietFront bytes (quiet_len bytes)
quiet_sound [] some = absurd (omega arith)
quiet_sound (b ∷ bytes) some = by_blank (is_blank b) refl some
  where
    by_close : (bytes : List ℕ) (o : Option ℕ) → close_len bytes ≡ o → 0 < block_len o → QuietFront (47 ∷ 42 ∷ bytes) (block_len o)
    by_close bytes None e some = absurd (omega arith)
    by_close bytes (Some n) e some = block_front bytes n e

    by_star : (c : ℕ) (bytes : List ℕ) (t : Bool) → (c == 42) ≡ t → 0 < cond t (block_len (close_len bytes)) 0 → QuietFront (47 ∷ c ∷ bytes) (cond t (block_len (close_len bytes)) 0)
    by_star c bytes true e some = subst (λ c. QuietFront (47 ∷ c ∷ bytes) (block_len (close_len bytes))) (sym (eqb-true c 42 e)) (by_close bytes (close_len bytes) refl some)
    by_star c bytes false e some = absurd (omega arith)

    by_line : (c : ℕ) (bytes : List ℕ) (t : Bool) → (c == 47) ≡ t → 0 < cond t (2 + prefix_len is_in_line bytes) (cond (c == 42) (block_len (close_len bytes)) 0) → QuietFront (47 ∷ c ∷ bytes) (cond t (2 + prefix_len is_in_line bytes) (cond (c == 42) (block_len (close_len bytes)) 0))
    by_line c bytes true e some = subst (λ c. QuietFront (47 ∷ c ∷ bytes) (2 + prefix_len is_in_line bytes)) (sym (eqb-true c 47 e)) (line_front bytes)
    by_line c bytes false e some = by_star c bytes (c == 42) refl some

    comment : (bytes : List ℕ) → 0 < comment_len bytes → QuietFront (47 ∷ bytes) (comment_len bytes)
    comment [] some = absurd (omega arith)
    comment (c ∷ bytes) some = by_line c bytes (c == 47) refl some

    by_slash : (t : Bool) → (b == 47) ≡ t → 0 < cond t (comment_len bytes) 0 → QuietFront (b ∷ bytes) (cond t (comment_len bytes) 0)
    by_slash true e some = subst (λ b. QuietFront (b ∷ bytes) (comment_len bytes)) (sym (eqb-true b 47 e)) (comment bytes some)
    by_slash false e some = absurd (omega arith)

    by_blank : (t : Bool) → is_blank b ≡ t → 0 < cond t 1 (cond (b == 47) (comment_len bytes) 0) → QuietFront (b ∷ bytes) (cond t 1 (cond (b == 47) (comment_len bytes) 0))
    by_blank true e some = record { word = b ∷ []; rest = bytes; whole = refl; len_is = refl; is = inl (b, e, refl) }
    by_blank false e some = by_slash (b == 47) refl some

-- What is quiet is found ----------------------------------------------------------------------------------------------

line_exact : (gap rest : List ℕ) → IsLongest IsLineComment gap rest → quiet_len (gap ++ rest) ≡ length gap
line_exact gap rest l =
    let e : line_comment_len (gap ++ rest) ≡ length gap = len_of_longest IsLineComment line_comment_len line_measured gap rest l in
    ap (λ w. quiet_len (w ++ rest)) l.is.2 ∙ ap (λ w. line_comment_len (w ++ rest)) (sym l.is.2) ∙ e

block_exact : (gap rest : List ℕ) → IsShortest IsBlockComment gap → quiet_len (gap ++ rest) ≡ length gap
block_exact gap rest s =
    let text : List ℕ = s.is.0 in
    let gap_is : gap ≡ 47 ∷ 42 ∷ (text ++ codes "*/") = s.is.1 in
    let found = close_whole text rest in
    let behind : (text ++ codes "*/") ++ rest ≡ text ++ (codes "*/" ++ rest) = append_assoc text (codes "*/") rest in
    let is : close_len ((text ++ codes "*/") ++ rest) ≡ Some found.n = ap close_len behind ∙ found.is in
    let f = close_sound ((text ++ codes "*/") ++ rest) found.n is in
    let low : found.n ≤ length text + 2 = found.low in
    let len : length f.word ≡ found.n = f.len_is in
    let lens : length (text ++ codes "*/") ≡ length text + 2 = length-append text (codes "*/") in
    let more = longer f.word f.rest (text ++ codes "*/") rest (sym f.whole) (omega arith) in
    let front_is : gap ≡ (47 ∷ 42 ∷ f.word) ++ more.more = gap_is ∙ ap (λ w. 47 ∷ 42 ∷ w) more.word_is in
    let none : more.more ≡ [] = s.shortest (47 ∷ 42 ∷ f.word) more.more front_is (f.is.0, ap (λ w. 47 ∷ 42 ∷ w) f.is.1) in
    let none_len : length more.more ≡ 0 = ap length none in
    let both : length (text ++ codes "*/") ≡ length f.word + length more.more = ap length more.word_is ∙ length-append f.word more.more in
    let gap_len : length gap ≡ suc (suc (length (text ++ codes "*/"))) = ap length gap_is in
    let sum : 2 + found.n ≡ length gap = omega arith in
    ap (λ g. quiet_len (g ++ rest)) gap_is ∙ ap block_len is ∙ sum

pub quiet_exact : (gap rest : List ℕ) → IsQuietGap gap rest → quiet_len (gap ++ rest) ≡ length gap
quiet_exact gap rest (inl h) = ap (λ g. quiet_len (g ++ rest)) h.2 ∙ ap (λ t. cond t 1 (cond (h.0 == 47) (comment_len rest) 0)) h.1 ∙ ap length (sym h.2)
quiet_exact gap rest (inr (inl l)) = line_exact gap rest l
quiet_exact gap rest (inr (inr s)) = block_exact gap rest s

pub quiet_there : (gap rest : List ℕ) → IsQuietGap gap rest → 0 < length gap
quiet_there gap rest (inl h) = let n : length gap ≡ 1 = ap length h.2 in omega arith
quiet_there gap rest (inr (inl l)) = let n : length gap ≡ suc (suc (length l.is.0)) = ap length l.is.2 in omega arith
quiet_there gap rest (inr (inr s)) = let n : length gap ≡ suc (suc (length (s.is.0 ++ codes "*/"))) = ap length s.is.1 in omega arith
