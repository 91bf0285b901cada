-- The same bytes are cut one way, and stop at one place.
use Rattle.std.proofs.Common.{◌≡◌, ℕ, ◌≤◌, ◌<◌, ◌^◌, Bool, true, ◌||◌, not, inl, inr, List, [], ◌∷◌, ◌++◌, length, refl, sym, ap, subst, ◌∙◌, arith, append_assoc, append-nil}
use Rattle.std.specs.Prelude.{◌==◌, codes}
use Rattle.std.proofs.lemmas.Bool.{or_cases, eqb-true, false≢true}
use Rattle.std.proofs.lemmas.Bool.Decides.{nat_tests}
use Rattle.dc_lexer.specs.Words.{punctuators, IsOfKind, IsInteger}
use Rattle.dc_lexer.specs.Pieces.{is_blank, IsGap, Piece, Gap, Lexeme, piece_bytes, IsLexeme, IsNarrow, IsPiece, ArePieces, Token, tokens_from, AreTokens, Stuck, AtByte, AtWide, AtDirective, BeginsNone, BeginsWide, IsStuckAt, IsStuck}
use Rattle.dc_lexer.specs.Reading.{kind_of, lexeme_len}
use Rattle.dc_lexer.specs.declared.kind.Kind.{Kind}
use Rattle.dc_lexer.specs.declared.kind.Kind.TheVariants.{Integer, Punctuator}
use Rattle.dc_lexer.proofs.Longest.{same_front}
use Rattle.dc_lexer.proofs.Spans.{all_at}
use Rattle.dc_lexer.proofs.Lexed.{kind_begins, one_kind}
use Rattle.dc_lexer.proofs.Between.{gap_len, gap_exact, gap_there}
use Rattle.dc_lexer.proofs.Fronted.{lexeme_exact, lexeme_there}
use Rattle.dc_lexer.proofs.Cut.{bytes_of}

-- A token begins as no gap does ---------------------------------------------------------------------------------------

-- a byte that begins a gap alone
abbrev separates : ℕ → Bool
separates b = b == 10 || is_blank b || b == 35

separates_kind : (b : ℕ) → separates b ≡ true → kind_of b ≡ Punctuator
separates_kind b e =
    elim (or_cases (b == 10 || is_blank b) (b == 35) e) [
      | inl e ↦ elim (or_cases (b == 10) (is_blank b) e) [ inl e ↦ at 10 (eqb-true b 10 e) refl | inr e ↦ blank e ]
      | inr e ↦ at 35 (eqb-true b 35 e) refl
    ]
  where
    at : (z : ℕ) → b ≡ z → kind_of z ≡ Punctuator → kind_of b ≡ Punctuator
    at z e h = ap kind_of e ∙ h

    blank : is_blank b ≡ true → kind_of b ≡ Punctuator
    blank e =
        elim (or_cases (b == 32 || b == 9) (b == 13) e) [
          | inl e ↦ elim (or_cases (b == 32) (b == 9) e) [ inl e ↦ at 32 (eqb-true b 32 e) refl | inr e ↦ at 9 (eqb-true b 9 e) refl ]
          | inr e ↦ at 13 (eqb-true b 13 e) refl
        ]

abbrev begins_apart : List ℕ → Bool
begins_apart [] = true
begins_apart (b ∷ word) = not (separates b)

token_apart : (kind : Kind) (b : ℕ) (word : List ℕ) → IsOfKind kind (b ∷ word) → separates b ≡ true → ⊥
token_apart kind b word is e =
    let kind_is : kind ≡ Punctuator = sym (kind_begins kind (b ∷ word) is) ∙ separates_kind b e in
    let mark : IsOfKind Punctuator (b ∷ word) = subst (λ k. IsOfKind k (b ∷ word)) kind_is is in
    false≢true (sym (ap not e) ∙ all_at begins_apart punctuators (b ∷ word) refl mark)

-- what a gap begins with
first_separates : (b : ℕ) (bytes gap : List ℕ) → gap ≡ b ∷ bytes → separates b ≡ true → (kind : Kind) (word rest rest' : List ℕ) → gap ++ rest ≡ word ++ rest' → 0 < length word → IsOfKind kind word → ⊥
first_separates b bytes gap g e kind [] rest rest' split some is = omega arith
first_separates b bytes gap g e kind (c ∷ word) rest rest' split some is =
    let whole : b ∷ (bytes ++ rest) ≡ c ∷ (word ++ rest') = ap (λ g. g ++ rest) (sym g) ∙ split in
    let same : b ≡ c = cc in
    token_apart kind c word is (subst (λ b. separates b ≡ true) same e)

blank_separates : (b : ℕ) → is_blank b ≡ true → separates b ≡ true
blank_separates b e = grind (arith, nat_tests)

pub gap_or_lexeme : (before gap rest : List ℕ) (kind : Kind) (word rest' : List ℕ) → gap ++ rest ≡ word ++ rest' → IsGap before gap rest → IsLexeme kind word rest' → ⊥
gap_or_lexeme before gap rest kind word rest' e (inl g) l = first_separates 10 [] gap g refl kind word rest rest' e (lexeme_there kind word rest' l) l.kind_is
gap_or_lexeme before gap rest kind word rest' e (inr (inl (inl h))) l = first_separates h.0 [] gap h.2 (blank_separates h.0 h.1) kind word rest rest' e (lexeme_there kind word rest' l) l.kind_is
gap_or_lexeme before gap rest kind word rest' e (inr (inl (inr (inl c)))) l =
    l.no_comment (c.is.0 ++ rest, inl (sym e ∙ ap (λ g. g ++ rest) c.is.2))
gap_or_lexeme before gap rest kind word rest' e (inr (inl (inr (inr c)))) l =
    l.no_comment ((c.is.0 ++ codes "*/") ++ rest, inr (sym e ∙ ap (λ g. g ++ rest) c.is.1))
gap_or_lexeme before gap rest kind word rest' e (inr (inr (start, inl m))) l =
    first_separates 35 (m.is.0 ++ m.is.2 ∷ m.is.1) gap m.is.6 refl kind word rest rest' e (lexeme_there kind word rest' l) l.kind_is
gap_or_lexeme before gap rest kind word rest' e (inr (inr (start, inr i))) l =
    first_separates 35 ((i.0).blanks ++ (codes "include" ++ ((i.0).others ++ (codes "<" ++ ((i.0).header ++ codes ">"))))) gap (i.0).whole refl kind word rest rest' e (lexeme_there kind word rest' l) l.kind_is

-- One piece -------------------------------------------------------------------------------------------------------------

gap_lens : (before gap rest gap' rest' : List ℕ) → gap ++ rest ≡ gap' ++ rest' → IsGap before gap rest → IsGap before gap' rest' → length gap ≡ length gap'
gap_lens before gap rest gap' rest' e g g' = sym (gap_exact before gap rest g) ∙ ap gap_len e ∙ gap_exact before gap' rest' g'

lexeme_lens : (kind kind' : Kind) (word rest word' rest' : List ℕ) → word ++ rest ≡ word' ++ rest' → IsLexeme kind word rest → IsLexeme kind' word' rest' → length word ≡ length word'
lexeme_lens kind kind' word rest word' rest' e l l' = sym (lexeme_exact kind word rest l) ∙ ap lexeme_len e ∙ lexeme_exact kind' word' rest' l'

lexeme_kinds : (kind kind' : Kind) (word rest word' rest' : List ℕ) → word ≡ word' → IsLexeme kind word rest → IsLexeme kind' word' rest' → kind ≡ kind'
lexeme_kinds kind kind' word rest word' rest' e l l' = one_kind kind kind' word l.kind_is (subst (IsOfKind kind') (sym e) l'.kind_is)

-- the same piece, and the same bytes behind it
record SamePiece (p q : Piece) (rest rest' : List ℕ) : Type 0 where
  pub piece : p ≡ q
  pub behind : rest ≡ rest'

one_piece : (before : List ℕ) (p q : Piece) (rest rest' : List ℕ) → piece_bytes p ++ rest ≡ piece_bytes q ++ rest' → IsPiece before p rest → IsPiece before q rest' → SamePiece p q rest rest'
one_piece before (Gap gap) (Gap gap') rest rest' e g g' =
    let same = same_front gap rest gap' rest' e (gap_lens before gap rest gap' rest' e g g') in
    record { piece = ap (λ g. Gap g) same.0; behind = same.1 }
one_piece before (Gap gap) (Lexeme kind word) rest rest' e g l = absurd (gap_or_lexeme before gap rest kind word rest' e g l.0)
one_piece before (Lexeme kind word) (Gap gap) rest rest' e l g = absurd (gap_or_lexeme before gap rest' kind word rest (sym e) g l.0)
one_piece before (Lexeme kind word) (Lexeme kind' word') rest rest' e l l' =
    let same = same_front word rest word' rest' e (lexeme_lens kind kind' word rest word' rest' e l.0 l'.0) in
    let kinds = lexeme_kinds kind kind' word rest word' rest' same.0 l.0 l'.0 in
    record { piece = ap (λ k. Lexeme k word) kinds ∙ ap (λ w. Lexeme kind' w) same.0; behind = same.1 }

piece_there : (before : List ℕ) (p : Piece) (rest : List ℕ) → IsPiece before p rest → 0 < length (piece_bytes p)
piece_there before (Gap gap) rest g = gap_there before gap rest g
piece_there before (Lexeme kind word) rest l = lexeme_there kind word rest l.0

-- One cut -------------------------------------------------------------------------------------------------------------

-- no piece begins there
pub record Stands (before rest : List ℕ) : Type 0 where
  pub none : (p : Piece) (behind : List ℕ) → rest ≡ piece_bytes p ++ behind → IsPiece before p behind → ⊥

pub record SameCut (pieces pieces' : List Piece) (rest rest' : List ℕ) : Type 0 where
  pub pieces_are : pieces ≡ pieces'
  pub rest_is : rest ≡ rest'

pub one_way : (before : List ℕ) (pieces pieces' : List Piece) (rest rest' : List ℕ) → bytes_of pieces ++ rest ≡ bytes_of pieces' ++ rest' → ArePieces before pieces rest → ArePieces before pieces' rest'
    → Stands (before ++ bytes_of pieces) rest → Stands (before ++ bytes_of pieces') rest' → SameCut pieces pieces' rest rest'
one_way before [] [] rest rest' e are are' stands stands' = record { pieces_are = refl; rest_is = e }
one_way before [] (q ∷ pieces') rest rest' e are are' stands stands' =
    absurd (stands.none q (bytes_of pieces' ++ rest') (e ∙ append_assoc (piece_bytes q) (bytes_of pieces') rest') (subst (λ b. IsPiece b q (bytes_of pieces' ++ rest')) (sym (append-nil before)) are'.0))
one_way before (p ∷ pieces) [] rest rest' e are are' stands stands' =
    absurd (stands'.none p (bytes_of pieces ++ rest) (sym e ∙ append_assoc (piece_bytes p) (bytes_of pieces) rest) (subst (λ b. IsPiece b p (bytes_of pieces ++ rest)) (sym (append-nil before)) are.0))
one_way before (p ∷ pieces) (q ∷ pieces') rest rest' e are are' stands stands' =
    let split : piece_bytes p ++ (bytes_of pieces ++ rest) ≡ piece_bytes q ++ (bytes_of pieces' ++ rest') =
    sym (append_assoc (piece_bytes p) (bytes_of pieces) rest) ∙ e ∙ append_assoc (piece_bytes q) (bytes_of pieces') rest' in
    let first = one_piece before p q (bytes_of pieces ++ rest) (bytes_of pieces' ++ rest') split are.0 are'.0 in
    let now : before ++ piece_bytes q ≡ before ++ piece_bytes p = ap (λ p. before ++ piece_bytes p) (sym first.piece) in
    let stands_p : Stands ((before ++ piece_bytes p) ++ bytes_of pieces) rest = subst (λ b. Stands b rest) (sym (append_assoc before (piece_bytes p) (bytes_of pieces))) stands in
    let stands_q : Stands ((before ++ piece_bytes p) ++ bytes_of pieces') rest' =
    subst (λ b. Stands (b ++ bytes_of pieces') rest') now (subst (λ b. Stands b rest') (sym (append_assoc before (piece_bytes q) (bytes_of pieces'))) stands') in
    let others = one_way (before ++ piece_bytes p) pieces pieces' rest rest' first.behind are.1 (subst (λ b. ArePieces b pieces' rest') now are'.1) stands_p stands_q in
    record { pieces_are = ap (λ p. p ∷ pieces) first.piece ∙ ap (λ ps. q ∷ ps) others.pieces_are; rest_is = others.rest_is }

-- Where it ends -------------------------------------------------------------------------------------------------------

stands_at_end : (before : List ℕ) → Stands before []
stands_at_end before = record { none = λ p behind e is. none p behind e (piece_there before p behind is) }
  where
    none : (p : Piece) (behind : List ℕ) → [] ≡ piece_bytes p ++ behind → 0 < length (piece_bytes p) → ⊥
    none p behind e some = by_bytes (piece_bytes p) e some
      where
        by_bytes : (bytes : List ℕ) → [] ≡ bytes ++ behind → 0 < length bytes → ⊥
        by_bytes [] e some = omega arith
        by_bytes (b ∷ bytes) e some = cc

stands_at_none : (before rest : List ℕ) → BeginsNone before rest → Stands before rest
stands_at_none before rest none = record { none = by_piece }
  where
    by_piece : (p : Piece) (behind : List ℕ) → rest ≡ piece_bytes p ++ behind → IsPiece before p behind → ⊥
    by_piece (Gap gap) behind e g = none.0 gap behind e g
    by_piece (Lexeme kind word) behind e l = none.1 kind word behind e l.0

wide_narrow : (kind : Kind) (word : List ℕ) (i : IsInteger word) → Integer ≡ kind → 2 ^ 64 ≤ i.value → IsNarrow kind word → ⊥
wide_narrow kind word i e wide narrow =
    let n : IsNarrow Integer word = subst (λ k. IsNarrow k word) (sym e) narrow in
    let low : i.value < 2 ^ 64 = n i in
    omega arith

stands_at_wide : (before rest : List ℕ) → BeginsWide rest → Stands before rest
stands_at_wide before rest w = record { none = by_piece }
  where
    by_piece : (p : Piece) (behind : List ℕ) → rest ≡ piece_bytes p ++ behind → IsPiece before p behind → ⊥
    by_piece (Gap gap) behind e g = gap_or_lexeme before gap behind Integer w.word w.rest (sym e ∙ w.whole) g w.lexeme
    by_piece (Lexeme kind word) behind e l =
        let split : w.word ++ w.rest ≡ word ++ behind = sym w.whole ∙ e in
        let same = same_front w.word w.rest word behind split (lexeme_lens Integer kind w.word w.rest word behind split w.lexeme l.0) in
        let kinds = lexeme_kinds Integer kind w.word w.rest word behind same.0 w.lexeme l.0 in
        wide_narrow kind w.word w.integer kinds w.wide (subst (IsNarrow kind) (sym same.0) l.1)

stands_at : (before rest : List ℕ) (stuck : Stuck) → IsStuckAt before rest stuck → Stands before rest
stands_at before rest (AtByte at) s = stands_at_none before rest s.2
stands_at before rest (AtWide at) s = stands_at_wide before rest s.1
stands_at before rest (AtDirective line) s = stands_at_none before rest s.1

no_lexeme_there : (before rest : List ℕ) → BeginsNone before rest → BeginsWide rest → ⊥
no_lexeme_there before rest none w = none.1 Integer w.word w.rest w.whole w.lexeme

one_place : (before rest : List ℕ) (s t : Stuck) → IsStuckAt before rest s → IsStuckAt before rest t → s ≡ t
one_place before rest (AtByte at) (AtByte at') s t = ap (λ n. AtByte n) (s.0 ∙ sym t.0)
one_place before rest (AtByte at) (AtWide at') s t = absurd (no_lexeme_there before rest s.2 t.1)
one_place before rest (AtByte at) (AtDirective line) s t = absurd (s.3 t.2)
one_place before rest (AtWide at) (AtByte at') s t = absurd (no_lexeme_there before rest t.2 s.1)
one_place before rest (AtWide at) (AtWide at') s t = ap (λ n. AtWide n) (s.0 ∙ sym t.0)
one_place before rest (AtWide at) (AtDirective line) s t = absurd (no_lexeme_there before rest t.1 s.1)
one_place before rest (AtDirective line) (AtByte at) s t = absurd (t.3 s.2)
one_place before rest (AtDirective line) (AtWide at) s t = absurd (no_lexeme_there before rest s.1 t.1)
one_place before rest (AtDirective line) (AtDirective line') s t = ap (λ n. AtDirective n) (s.0 ∙ sym t.0)

not_at_end : (before rest : List ℕ) (s : Stuck) → rest ≡ [] → IsStuckAt before rest s → ⊥
not_at_end before rest (AtByte at) e s = s.1 e
not_at_end before rest (AtWide at) e s =
    let some : 0 < length s.1.word = lexeme_there Integer s.1.word s.1.rest s.1.lexeme in
    by_word s.1.word (sym e ∙ s.1.whole) some
  where
    by_word : (word : List ℕ) → [] ≡ word ++ s.1.rest → 0 < length word → ⊥
    by_word [] e some = omega arith
    by_word (b ∷ word) e some = cc
not_at_end before rest (AtDirective line) e s = let clash : [] ≡ 35 ∷ s.2.1.0 = sym e ∙ s.2.1.1 in cc

-- The law ---------------------------------------------------------------------------------------------------------------

pub one_list : (bytes : List ℕ) (t u : List Token) → AreTokens bytes t → AreTokens bytes u → t ≡ u
one_list bytes t u a b =
    let same = one_way [] a.pieces b.pieces [] [] (sym a.cut.whole ∙ b.cut.whole) a.cut.right b.cut.right (stands_at_end (bytes_of a.pieces)) (stands_at_end (bytes_of b.pieces)) in
    a.tokens_are ∙ ap (tokens_from 1) same.pieces_are ∙ sym b.tokens_are

same_stop : (bytes : List ℕ) (s t : Stuck) (a : IsStuck bytes s) (b : IsStuck bytes t) → SameCut a.pieces b.pieces a.behind b.behind
same_stop bytes s t a b =
    one_way [] a.pieces b.pieces a.behind b.behind (sym a.cut.whole ∙ b.cut.whole) a.cut.right b.cut.right
    (stands_at (bytes_of a.pieces) a.behind s a.stops) (stands_at (bytes_of b.pieces) b.behind t b.stops)

pub one_stop : (bytes : List ℕ) (s t : Stuck) → IsStuck bytes s → IsStuck bytes t → s ≡ t
one_stop bytes s t a b =
    let same = same_stop bytes s t a b in
    one_place (bytes_of a.pieces) a.behind s t a.stops
    (subst (λ p. IsStuckAt (bytes_of p) a.behind t) (sym same.pieces_are) (subst (λ r. IsStuckAt (bytes_of b.pieces) r t) (sym same.rest_is) b.stops))

pub tokens_or_stop : (bytes : List ℕ) (t : List Token) (s : Stuck) → AreTokens bytes t → IsStuck bytes s → ⊥
tokens_or_stop bytes t s a b =
    let same = one_way [] a.pieces b.pieces [] b.behind (sym a.cut.whole ∙ b.cut.whole) a.cut.right b.cut.right (stands_at_end (bytes_of a.pieces)) (stands_at (bytes_of b.pieces) b.behind s b.stops) in
    not_at_end (bytes_of b.pieces) b.behind s (sym same.rest_is) b.stops
