-- What stands in front.
use Rattle.std.proofs.Common.{◌≡◌, ℕ, ◌≤◌, ◌<◌, ◌^◌, Bool, true, false, cond, ◌&&◌, inl, inr, List, [], ◌∷◌, ◌++◌, length, take, drop, refl, sym, ap, subst, ◌∙◌, arith}
use Rattle.std.specs.Prelude.{◌==◌}
use Rattle.std.proofs.lemmas.Bool.{and_parts, and_from, or_cases, eqb-true, false≢true}
use Rattle.std.proofs.lemmas.List.{take_at, drop_at, take-append-drop}
use Rattle.dc_lexer.specs.Words.{IsInteger, IsOfKind, IsToken}
use Rattle.dc_lexer.specs.Pieces.{IsGap, BeginsComment, IsLexeme, IsNarrow, BeginsWide, BeginsNone, BeginsDirective}
use Rattle.dc_lexer.specs.Reading.{begins_with, begins_comment, goes_on_as_comment, front_kind, token_len, lexeme_len, digits_value, word_value, IsWide, at_start}
use Rattle.dc_lexer.specs.declared.kind.Kind.{Kind}
use Rattle.dc_lexer.specs.declared.kind.Kind.TheVariants.{Word, Integer, Character, Punctuator}
use Rattle.dc_lexer.proofs.Longest.{front_longest, len_of_longest, same_front}
use Rattle.dc_lexer.proofs.Numbers.{value_is}
use Rattle.dc_lexer.proofs.Literals.{digits_found}
use Rattle.dc_lexer.proofs.Lexed.{measured, token_measured}
use Rattle.dc_lexer.proofs.Started.{start_sound, start_whole}

-- Comments ------------------------------------------------------------------------------------------------------------

pub comment_sound : (bytes : List ℕ) → begins_comment bytes ≡ true → BeginsComment bytes
comment_sound [] e = absurd (false≢true e)
comment_sound (a ∷ bytes) e = by_parts (and_parts (a == 47) (goes_on_as_comment bytes) e)
  where
    second : (bytes : List ℕ) → goes_on_as_comment bytes ≡ true → BeginsComment (47 ∷ bytes)
    second [] f = absurd (false≢true f)
    second (b ∷ bytes) f =
        elim (or_cases (b == 47) (b == 42) f) [
          | inl g ↦ (bytes, inl (ap (λ b. 47 ∷ b ∷ bytes) (eqb-true b 47 g)))
          | inr g ↦ (bytes, inr (ap (λ b. 47 ∷ b ∷ bytes) (eqb-true b 42 g)))
        ]

    by_parts : ((a == 47) ≡ true) × (goes_on_as_comment bytes ≡ true) → BeginsComment (a ∷ bytes)
    by_parts h = subst (λ a. BeginsComment (a ∷ bytes)) (sym (eqb-true a 47 h.0)) (second bytes h.1)

pub comment_whole : (bytes : List ℕ) → BeginsComment bytes → begins_comment bytes ≡ true
comment_whole bytes (rest, inl e) = ap begins_comment e
comment_whole bytes (rest, inr e) = ap begins_comment e

-- Lexemes -------------------------------------------------------------------------------------------------------------

lexeme_is_token : (bytes : List ℕ) (t : Bool) → 0 < cond t 0 (token_len bytes) → (t ≡ false) × (cond t 0 (token_len bytes) ≡ token_len bytes)
lexeme_is_token bytes true some = absurd (omega arith)
lexeme_is_token bytes false some = (refl, refl)

pub lexeme_at : (bytes : List ℕ) → 0 < lexeme_len bytes → IsLexeme (front_kind bytes) (take (lexeme_len bytes) bytes) (drop (lexeme_len bytes) bytes)
lexeme_at bytes some =
    let parts = lexeme_is_token bytes (begins_comment bytes) some in
    let no_comment : begins_comment bytes ≡ false = parts.0 in
    let same : lexeme_len bytes ≡ token_len bytes = parts.1 in
    let there : 0 < token_len bytes = omega arith in
    let f = token_measured.sound bytes there in
    let k = (measured (front_kind bytes)).sound bytes there in
    let words = same_front k.word k.rest f.word f.rest (sym k.whole ∙ f.whole) (k.len_is ∙ sym f.len_is) in
    let word : take (lexeme_len bytes) bytes ≡ f.word = ap (λ n. take n bytes) same ∙ ap (take (token_len bytes)) f.whole ∙ take_at f.word f.rest (token_len bytes) f.len_is in
    let rest : drop (lexeme_len bytes) bytes ≡ f.rest = ap (λ n. drop n bytes) same ∙ ap (drop (token_len bytes)) f.whole ∙ drop_at f.word f.rest (token_len bytes) f.len_is in
    let lexeme : IsLexeme (front_kind bytes) f.word f.rest = record {
      kind_is = subst (IsOfKind (front_kind bytes)) words.0 k.is;
      longest = front_longest IsToken token_len token_measured bytes f;
      no_comment = λ b. false≢true (sym no_comment ∙ comment_whole bytes (subst BeginsComment (sym f.whole) b));
    } in
    subst (λ w. IsLexeme (front_kind bytes) w (drop (lexeme_len bytes) bytes)) (sym word) (subst (IsLexeme (front_kind bytes) f.word) (sym rest) lexeme)

pub lexeme_there : (kind : Kind) (word rest : List ℕ) → IsLexeme kind word rest → 0 < length word
lexeme_there kind word rest l = token_measured.there word l.longest.is

pub lexeme_exact : (kind : Kind) (word rest : List ℕ) → IsLexeme kind word rest → lexeme_len (word ++ rest) ≡ length word
lexeme_exact kind word rest l = by_test (begins_comment (word ++ rest)) refl
  where
    by_test : (t : Bool) → begins_comment (word ++ rest) ≡ t → cond t 0 (token_len (word ++ rest)) ≡ length word
    by_test true e = absurd (l.no_comment (comment_sound (word ++ rest) e))
    by_test false e = len_of_longest IsToken token_len token_measured word rest l.longest

pub no_lexeme : (bytes : List ℕ) → lexeme_len bytes ≡ 0 → (kind : Kind) (word rest : List ℕ) → bytes ≡ word ++ rest → IsLexeme kind word rest → ⊥
no_lexeme bytes none kind word rest e l =
    let len : lexeme_len bytes ≡ length word = ap lexeme_len e ∙ lexeme_exact kind word rest l in
    let some : 0 < length word = lexeme_there kind word rest l in
    omega arith

-- Wide and narrow integers --------------------------------------------------------------------------------------------

pub integer_value : (word : List ℕ) (i : IsInteger word) → i.value ≡ word_value word
integer_value word i =
    value_is i.digits i.value i.has_value
    ∙ ap digits_value (sym (ap (λ n. take n word) (digits_found word i) ∙ ap (take (length i.digits)) i.whole ∙ take_at i.digits i.suffix (length i.digits) refl))

pub narrow : (kind : Kind) (word : List ℕ) → (IsWide kind word → ⊥) → IsNarrow kind word
narrow Word word low = tt
narrow Integer word low = λ i. let e : i.value ≡ word_value word = integer_value word i in let high : 2 ^ 64 ≤ word_value word → ⊥ = low in omega arith
narrow Character word low = tt
narrow Punctuator word low = tt

wide_word : (kind : Kind) (bytes word rest : List ℕ) → bytes ≡ word ++ rest → IsLexeme kind word rest → IsWide kind word → BeginsWide bytes
wide_word Word bytes word rest e l w = absurd w
wide_word Integer bytes word rest e l w =
    let i : IsInteger word = l.kind_is in
    record { word = word; rest = rest; whole = e; lexeme = l; integer = i; wide = subst (λ n. 2 ^ 64 ≤ n) (sym (integer_value word i)) w }
wide_word Character bytes word rest e l w = absurd w
wide_word Punctuator bytes word rest e l w = absurd w

pub wide_front : (kind : Kind) (bytes : List ℕ) (n : ℕ) → IsLexeme kind (take n bytes) (drop n bytes) → IsWide kind (take n bytes) → BeginsWide bytes
wide_front kind bytes n l w = wide_word kind bytes (take n bytes) (drop n bytes) (sym (take-append-drop n bytes)) l w

-- No gap and no lexeme ------------------------------------------------------------------------------------------------

pub directive_begins : (before bytes : List ℕ) → at_start true before ≡ true → begins_with 35 bytes ≡ true → BeginsDirective before bytes
directive_begins before [] e h = absurd (false≢true h)
directive_begins before (b ∷ bytes) e h = (start_sound before e, (bytes, ap (λ b. b ∷ bytes) (eqb-true b 35 h)))

pub directive_parts : (fresh : Bool) (before bytes : List ℕ) → at_start true before ≡ fresh → BeginsDirective before bytes → (fresh && begins_with 35 bytes) ≡ true
directive_parts fresh before bytes start d =
    and_from fresh (begins_with 35 bytes) (sym start ∙ start_whole before d.0) (ap (begins_with 35) d.1.1)

pub none_begins : (fresh : Bool) (bytes : List ℕ) → ((before gap rest : List ℕ) → at_start true before ≡ fresh → bytes ≡ gap ++ rest → IsGap before gap rest → ⊥) → lexeme_len bytes ≡ 0
    → (before : List ℕ) → at_start true before ≡ fresh → BeginsNone before bytes
none_begins fresh bytes no_gap none before start = (λ gap rest e g. no_gap before gap rest start e g, λ kind word rest e l. no_lexeme bytes none kind word rest e l)

pub directive_front : (fresh : Bool) (bytes : List ℕ) → ((before gap rest : List ℕ) → at_start true before ≡ fresh → bytes ≡ gap ++ rest → IsGap before gap rest → ⊥) → lexeme_len bytes ≡ 0
    → (fresh && begins_with 35 bytes) ≡ true → (before : List ℕ) → at_start true before ≡ fresh → BeginsNone before bytes × BeginsDirective before bytes
directive_front fresh bytes no_gap none is before start =
    let parts = and_parts fresh (begins_with 35 bytes) is in
    (none_begins fresh bytes no_gap none before start, directive_begins before bytes (start ∙ parts.0) parts.1)

pub byte_front : (fresh : Bool) (bytes : List ℕ) → ((before gap rest : List ℕ) → at_start true before ≡ fresh → bytes ≡ gap ++ rest → IsGap before gap rest → ⊥) → lexeme_len bytes ≡ 0
    → (fresh && begins_with 35 bytes) ≡ false → (before : List ℕ) → at_start true before ≡ fresh → BeginsNone before bytes × (BeginsDirective before bytes → ⊥)
byte_front fresh bytes no_gap none isnt before start =
    (none_begins fresh bytes no_gap none before start, λ d. false≢true (sym isnt ∙ directive_parts fresh before bytes start d))
