-- What separates tokens.
use Rattle.std.proofs.Common.{◌≡◌, ℕ, ◌<◌, Bool, true, false, cond, inl, inr, List, [], ◌∷◌, ◌++◌, length, take, drop, sym, ap, subst, ◌∙◌, arith}
use Rattle.std.specs.Prelude.{◌==◌}
use Rattle.std.proofs.lemmas.Bool.{ne_eqb, false≢true}
use Rattle.std.proofs.lemmas.Bool.Decides.{nat_tests}
use Rattle.std.proofs.lemmas.List.{take_at, drop_at}
use Rattle.dc_lexer.specs.Pieces.{is_blank, IsQuietGap, IsQuiet, IsLongest, IsLineMarker, IsInclude, IsSkipped, IsGap}
use Rattle.dc_lexer.specs.Reading.{begins_with, quiet_len, at_start, marker_len, include_len}
use Rattle.dc_lexer.proofs.Longest.{Front, front_longest, len_of_longest}
use Rattle.dc_lexer.proofs.Commented.{quiet_sound, quiet_exact, quiet_there}
use Rattle.dc_lexer.proofs.Directed.{marker_measured, include_sound, include_exact, include_no_marker, include_there}
use Rattle.dc_lexer.proofs.Started.{start_sound, start_whole}

-- Directives ----------------------------------------------------------------------------------------------------------

front_parts : (P : List ℕ → Type 0) (bytes : List ℕ) (len : ℕ) (f : Front P bytes len) → (take len bytes ≡ f.word) × (drop len bytes ≡ f.rest)
front_parts P bytes len f = (ap (take len) f.whole ∙ take_at f.word f.rest len f.len_is, ap (drop len) f.whole ∙ drop_at f.word f.rest len f.len_is)

pub marker_skips : (bytes : List ℕ) → 0 < marker_len bytes → IsSkipped (take (marker_len bytes) bytes) (drop (marker_len bytes) bytes)
marker_skips bytes some =
    let f = marker_measured.sound bytes some in
    let parts = front_parts IsLineMarker bytes (marker_len bytes) f in
    inl (subst (λ w. IsLongest IsLineMarker w (drop (marker_len bytes) bytes)) (sym parts.0) (subst (IsLongest IsLineMarker f.word) (sym parts.1) (front_longest IsLineMarker marker_len marker_measured bytes f)))

pub include_skips : (bytes : List ℕ) → 0 < include_len bytes → IsQuiet (drop (include_len bytes) bytes) → IsSkipped (take (include_len bytes) bytes) (drop (include_len bytes) bytes)
include_skips bytes some quiet =
    let f = include_sound bytes some in
    let parts = front_parts IsInclude bytes (include_len bytes) f in
    inr (subst IsInclude (sym parts.0) f.is, quiet)

marker_exact : (word rest : List ℕ) → IsLongest IsLineMarker word rest → marker_len (word ++ rest) ≡ length word
marker_exact word rest l = len_of_longest IsLineMarker marker_len marker_measured word rest l

pub unskipped : (bytes : List ℕ) → marker_len bytes ≡ 0 → (0 < include_len bytes → IsQuiet (drop (include_len bytes) bytes) → ⊥) → (word rest : List ℕ) → bytes ≡ word ++ rest → IsSkipped word rest → ⊥
unskipped bytes none unquiet word rest e (inl l) =
    let len : marker_len bytes ≡ length word = ap marker_len e ∙ marker_exact word rest l in
    let some : 0 < length word = marker_measured.there word l.is in
    omega arith
unskipped bytes none unquiet word rest e (inr i) =
    let len : include_len bytes ≡ length word = ap include_len e ∙ include_exact word rest i.0 in
    let some : 0 < length word = include_there word i.0 in
    let there : 0 < include_len bytes = omega arith in
    unquiet there (subst IsQuiet (sym (ap (drop (include_len bytes)) e ∙ drop_at word rest (include_len bytes) (sym len))) i.1)

-- Gaps ----------------------------------------------------------------------------------------------------------------

pub quiet_gap : (before bytes : List ℕ) → 0 < quiet_len bytes → IsGap before (take (quiet_len bytes) bytes) (drop (quiet_len bytes) bytes)
quiet_gap before bytes some =
    let f = quiet_sound bytes some in
    let word : take (quiet_len bytes) bytes ≡ f.word = ap (take (quiet_len bytes)) f.whole ∙ take_at f.word f.rest (quiet_len bytes) f.len_is in
    let rest : drop (quiet_len bytes) bytes ≡ f.rest = ap (drop (quiet_len bytes)) f.whole ∙ drop_at f.word f.rest (quiet_len bytes) f.len_is in
    inr (inl (subst (λ w. IsQuietGap w (drop (quiet_len bytes) bytes)) (sym word) (subst (IsQuietGap f.word) (sym rest) f.is)))

pub skipped_gap : (before word rest : List ℕ) → at_start true before ≡ true → IsSkipped word rest → IsGap before word rest
skipped_gap before word rest e s = inr (inr (start_sound before e, s))

newline_begins : (bytes gap rest : List ℕ) → bytes ≡ gap ++ rest → gap ≡ 10 ∷ [] → begins_with 10 bytes ≡ true
newline_begins bytes gap rest e g = ap (begins_with 10) (e ∙ ap (λ g. g ++ rest) g)

pub no_gap : (fresh : Bool) (bytes : List ℕ) → begins_with 10 bytes ≡ false → quiet_len bytes ≡ 0 → (fresh ≡ true → (word rest : List ℕ) → bytes ≡ word ++ rest → IsSkipped word rest → ⊥)
    → (before gap rest : List ℕ) → at_start true before ≡ fresh → bytes ≡ gap ++ rest → IsGap before gap rest → ⊥
no_gap fresh bytes line none no_skip before gap rest start e (inl g) = false≢true (sym line ∙ newline_begins bytes gap rest e g)
no_gap fresh bytes line none no_skip before gap rest start e (inr (inl q)) =
    let len : quiet_len bytes ≡ length gap = ap quiet_len e ∙ quiet_exact gap rest q in
    let some : 0 < length gap = quiet_there gap rest q in
    omega arith
no_gap fresh bytes line none no_skip before gap rest start e (inr (inr s)) = no_skip (sym start ∙ start_whole before s.0) gap rest e s.1

-- One gap at most -----------------------------------------------------------------------------------------------------

pub gap_there : (before gap rest : List ℕ) → IsGap before gap rest → 0 < length gap
gap_there before gap rest (inl g) = let n : length gap ≡ 1 = ap length g in omega arith
gap_there before gap rest (inr (inl q)) = quiet_there gap rest q
gap_there before gap rest (inr (inr (start, inl l))) = marker_measured.there gap l.is
gap_there before gap rest (inr (inr (start, inr i))) = include_there gap i.0

-- the length of the gap, if there is one
abbrev pub found_len : ℕ → ℕ → ℕ → ℕ
found_len quiet marker include = cond (quiet == 0) (cond (marker == 0) include marker) quiet

abbrev pub gap_len : List ℕ → ℕ
gap_len bytes = cond (begins_with 10 bytes) 1 (found_len (quiet_len bytes) (marker_len bytes) (include_len bytes))

-- its first byte is no newline
abbrev NoLine : List ℕ → Type 0
NoLine bytes = begins_with 10 bytes ≡ false

blank_no_line : (b : ℕ) → is_blank b ≡ true → (b == 10) ≡ false
blank_no_line b e = grind (arith, nat_tests)

quiet_no_line : (gap rest : List ℕ) → IsQuietGap gap rest → NoLine (gap ++ rest)
quiet_no_line gap rest (inl h) = ap (λ g. begins_with 10 (g ++ rest)) h.2 ∙ blank_no_line h.0 h.1
quiet_no_line gap rest (inr (inl l)) = ap (λ g. begins_with 10 (g ++ rest)) l.is.2
quiet_no_line gap rest (inr (inr s)) = ap (λ g. begins_with 10 (g ++ rest)) s.is.1

found_quiet : (q m i : ℕ) → 0 < q → found_len q m i ≡ q
found_quiet q m i some = ap (λ t. cond t (cond (m == 0) i m) q) (ne_eqb q 0 (λ e. omega arith))

found_marker : (m i : ℕ) → 0 < m → found_len 0 m i ≡ m
found_marker m i some = ap (λ t. cond t i m) (ne_eqb m 0 (λ e. omega arith))

pub gap_exact : (before gap rest : List ℕ) → IsGap before gap rest → gap_len (gap ++ rest) ≡ length gap
gap_exact before gap rest (inl g) = ap (λ g. gap_len (g ++ rest)) g ∙ ap length (sym g)
gap_exact before gap rest (inr (inl q)) =
    let len : quiet_len (gap ++ rest) ≡ length gap = quiet_exact gap rest q in
    let some : 0 < length gap = quiet_there gap rest q in
    let there : 0 < quiet_len (gap ++ rest) = omega arith in
    ap (λ t. cond t 1 (found_len (quiet_len (gap ++ rest)) (marker_len (gap ++ rest)) (include_len (gap ++ rest)))) (quiet_no_line gap rest q)
    ∙ found_quiet (quiet_len (gap ++ rest)) (marker_len (gap ++ rest)) (include_len (gap ++ rest)) there ∙ len
gap_exact before gap rest (inr (inr (start, inl l))) =
    let len : marker_len (gap ++ rest) ≡ length gap = marker_exact gap rest l in
    let some : 0 < length gap = marker_measured.there gap l.is in
    let there : 0 < marker_len (gap ++ rest) = omega arith in
    let no_line : begins_with 10 (gap ++ rest) ≡ false = ap (λ g. begins_with 10 (g ++ rest)) l.is.6 in
    let no_quiet : quiet_len (gap ++ rest) ≡ 0 = ap (λ g. quiet_len (g ++ rest)) l.is.6 in
    ap (λ t. cond t 1 (found_len (quiet_len (gap ++ rest)) (marker_len (gap ++ rest)) (include_len (gap ++ rest)))) no_line
    ∙ ap (λ q. found_len q (marker_len (gap ++ rest)) (include_len (gap ++ rest))) no_quiet
    ∙ found_marker (marker_len (gap ++ rest)) (include_len (gap ++ rest)) there ∙ len
gap_exact before gap rest (inr (inr (start, inr i))) =
    let len : include_len (gap ++ rest) ≡ length gap = include_exact gap rest i.0 in
    let no_marker : marker_len (gap ++ rest) ≡ 0 = include_no_marker gap rest i.0 in
    let no_line : begins_with 10 (gap ++ rest) ≡ false = ap (λ g. begins_with 10 (g ++ rest)) (i.0).whole in
    let no_quiet : quiet_len (gap ++ rest) ≡ 0 = ap (λ g. quiet_len (g ++ rest)) (i.0).whole in
    ap (λ t. cond t 1 (found_len (quiet_len (gap ++ rest)) (marker_len (gap ++ rest)) (include_len (gap ++ rest)))) no_line
    ∙ ap (λ q. found_len q (marker_len (gap ++ rest)) (include_len (gap ++ rest))) no_quiet
    ∙ ap (λ m. found_len 0 m (include_len (gap ++ rest))) no_marker
    ∙ len
