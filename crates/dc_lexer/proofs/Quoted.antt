-- Characters.
use Rattle.std.proofs.Common.{◌≡◌, ℕ, ◌≤◌, ◌<◌, Bool, true, false, cond, ◌&&◌, inl, inr, List, [], ◌∷◌, ◌++◌, length, refl, sym, ap, subst, ◌∙◌, arith}
use Rattle.std.specs.Prelude.{◌==◌, nat_eq}
use Rattle.std.specs.List.{list_any, Contains}
use Rattle.std.proofs.lemmas.Bool.{and_parts, eqb-true}
use Rattle.std.proofs.lemmas.Bool.Decides.{nat_tests}
use Rattle.std.proofs.lemmas.Map.Views.{Contains-from_any}
use Rattle.dc_lexer.specs.Words.{escapes, is_plain_character, IsCharacter}
use Rattle.dc_lexer.specs.Reading.{is_escape, escaped_len, quoted_len, character_len}
use Rattle.dc_lexer.proofs.Longest.{Front, Measures}
use Rattle.dc_lexer.proofs.Spans.{all_at}

plain_unescaped : (b : ℕ) → is_plain_character b ≡ true → (b == 92) ≡ false
plain_unescaped b e = grind (arith, nat_tests)

among : (b : ℕ) → is_escape b ≡ true → list_any (nat_eq b) escapes ≡ true
among b e = grind (arith, nat_tests)

escape_listed : (b : ℕ) → is_escape b ≡ true → Contains escapes b
escape_listed b e = Contains-from_any eqb-true b escapes (among b e)

escape_is : (b : ℕ) → Contains escapes b → is_escape b ≡ true
escape_is b c = all_at is_escape escapes b refl c

character_sound : (bytes : List ℕ) → 0 < character_len bytes → Front IsCharacter bytes (character_len bytes)
character_sound [] some = absurd (omega arith)
character_sound (q ∷ bytes) some = by_quote (q == 39) refl some
  where
    plain : (b c : ℕ) (bytes : List ℕ) → (t : Bool) → (is_plain_character b && c == 39) ≡ t → 0 < cond t 3 0 → Front IsCharacter (39 ∷ b ∷ c ∷ bytes) (cond t 3 0)
    plain b c bytes true e some =
        let parts = and_parts (is_plain_character b) (c == 39) e in
        record { word = 39 ∷ b ∷ 39 ∷ []; rest = bytes; whole = ap (λ c. 39 ∷ b ∷ c ∷ bytes) (eqb-true c 39 parts.1); len_is = refl; is = inl (b, parts.0, refl) }
    plain b c bytes false e some = absurd (omega arith)

    closed : (b c d : ℕ) (bytes : List ℕ) → (b == 92) ≡ true → (t : Bool) → (is_escape c && d == 39) ≡ t → 0 < cond t 4 0 → Front IsCharacter (39 ∷ b ∷ c ∷ d ∷ bytes) (cond t 4 0)
    closed b c d bytes e true f some =
        let parts = and_parts (is_escape c) (d == 39) f in
        record {
          word = 39 ∷ 92 ∷ c ∷ 39 ∷ [];
          rest = bytes;
          whole = ap (λ d. 39 ∷ b ∷ c ∷ d ∷ bytes) (eqb-true d 39 parts.1) ∙ ap (λ b. 39 ∷ b ∷ c ∷ 39 ∷ bytes) (eqb-true b 92 e);
          len_is = refl;
          is = inr (c, escape_listed c parts.0, refl);
        }
    closed b c d bytes e false f some = absurd (omega arith)

    escaped : (b c : ℕ) (bytes : List ℕ) → (b == 92) ≡ true → 0 < escaped_len c bytes → Front IsCharacter (39 ∷ b ∷ c ∷ bytes) (escaped_len c bytes)
    escaped b c [] e some = absurd (omega arith)
    escaped b c (d ∷ bytes) e some = closed b c d bytes e (is_escape c && d == 39) refl some

    by_slash : (b c : ℕ) (bytes : List ℕ) (t : Bool) → (b == 92) ≡ t → 0 < cond t (escaped_len c bytes) (cond (is_plain_character b && c == 39) 3 0) → Front IsCharacter (39 ∷ b ∷ c ∷ bytes) (cond t (escaped_len c bytes) (cond (is_plain_character b && c == 39) 3 0))
    by_slash b c bytes true e some = escaped b c bytes e some
    by_slash b c bytes false e some = plain b c bytes (is_plain_character b && c == 39) refl some

    quoted : (bytes : List ℕ) → 0 < quoted_len bytes → Front IsCharacter (39 ∷ bytes) (quoted_len bytes)
    quoted [] some = absurd (omega arith)
    quoted (b ∷ []) some = absurd (omega arith)
    quoted (b ∷ c ∷ bytes) some = by_slash b c bytes (b == 92) refl some

    by_quote : (t : Bool) → (q == 39) ≡ t → 0 < cond t (quoted_len bytes) 0 → Front IsCharacter (q ∷ bytes) (cond t (quoted_len bytes) 0)
    by_quote true e some = subst (λ q. Front IsCharacter (q ∷ bytes) (quoted_len bytes)) (sym (eqb-true q 39 e)) (quoted bytes some)
    by_quote false e some = absurd (omega arith)

plain_len : (b : ℕ) (rest : List ℕ) → is_plain_character b ≡ true → character_len (39 ∷ b ∷ 39 ∷ rest) ≡ 3
plain_len b rest e =
    ap (λ t. cond t (escaped_len 39 rest) (cond (is_plain_character b && true) 3 0)) (plain_unescaped b e)
    ∙ ap (λ t. cond (t && true) 3 0) e

escaped_is : (b : ℕ) (rest : List ℕ) → Contains escapes b → character_len (39 ∷ 92 ∷ b ∷ 39 ∷ rest) ≡ 4
escaped_is b rest c = ap (λ t. cond (t && true) 4 0) (escape_is b c)

character_whole : (word rest : List ℕ) → IsCharacter word → length word ≤ character_len (word ++ rest)
character_whole word rest (inl h) =
    let goal : 3 ≤ character_len (39 ∷ h.0 ∷ 39 ∷ rest) = let e : character_len (39 ∷ h.0 ∷ 39 ∷ rest) ≡ 3 = plain_len h.0 rest h.1 in subst (λ n. 3 ≤ n) (sym e) (omega arith) in
    subst (λ w. length w ≤ character_len (w ++ rest)) (sym h.2) goal
character_whole word rest (inr h) =
    let goal : 4 ≤ character_len (39 ∷ 92 ∷ h.0 ∷ 39 ∷ rest) = let e : character_len (39 ∷ 92 ∷ h.0 ∷ 39 ∷ rest) ≡ 4 = escaped_is h.0 rest h.1 in subst (λ n. 4 ≤ n) (sym e) (omega arith) in
    subst (λ w. length w ≤ character_len (w ++ rest)) (sym h.2) goal

character_there : (word : List ℕ) → IsCharacter word → 0 < length word
character_there word (inl h) = let n : length word ≡ 3 = ap length h.2 in omega arith
character_there word (inr h) = let n : length word ≡ 4 = ap length h.2 in omega arith

pub character_measured : Measures IsCharacter character_len
character_measured = record { sound = character_sound; whole = character_whole; there = character_there }
