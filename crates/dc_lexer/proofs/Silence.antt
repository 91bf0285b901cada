-- Blanks and comments up to the end of a line.
use Rattle.std.proofs.Common.{◌≡◌, ◌≢◌, ℕ, ◌<◌, false, ◌⊎◌, inl, inr, List, [], ◌∷◌, ◌++◌, length, drop, sym, ap, subst, ◌∙◌, arith, append_assoc}
use Rattle.std.specs.Prelude.{flat_map}
use Rattle.std.proofs.lemmas.Bool.{eq-eqb, false≢true}
use Rattle.std.proofs.lemmas.List.{drop_at}
use Rattle.dc_lexer.specs.Pieces.{IsQuietGap, AreQuiet, IsQuiet}
use Rattle.dc_lexer.specs.Reading.{begins_with, quiet_len}
use Rattle.dc_lexer.proofs.Longest.{same_front}
use Rattle.dc_lexer.proofs.Commented.{QuietFront, quiet_sound, quiet_exact, quiet_there}

quiet_more : (bytes word rest : List ℕ) → bytes ≡ word ++ rest → IsQuietGap word rest → IsQuiet rest → IsQuiet bytes
quiet_more bytes word rest e gap q = record {
  gaps = word ∷ q.gaps;
  rest = q.rest;
  whole = e ∙ ap (λ r. word ++ r) q.whole ∙ sym (append_assoc word (flat_map (λ g. g) q.gaps) q.rest);
  quiet = (subst (IsQuietGap word) q.whole gap, q.quiet);
  ends = q.ends;
}

-- no quiet gap stands before a line's end
ended : (rest : List ℕ) → (rest ≡ []) ⊎ ((more : List ℕ) × (rest ≡ 10 ∷ more)) → quiet_len rest ≡ 0
ended rest (inl e) = ap quiet_len e
ended rest (inr e) = ap quiet_len e.1

quiet_less : (bytes word rest : List ℕ) → bytes ≡ word ++ rest → length word ≡ quiet_len bytes → 0 < length word → IsQuiet bytes → IsQuiet rest
quiet_less bytes word rest e n some q = by_gaps q.gaps q.whole q.quiet
  where
    by_gaps : (gaps : List (List ℕ)) → bytes ≡ flat_map (λ g. g) gaps ++ q.rest → AreQuiet gaps q.rest → IsQuiet rest
    by_gaps [] f quiet = absurd (let none : quiet_len bytes ≡ 0 = ap quiet_len f ∙ ended q.rest q.ends in omega arith)
    by_gaps (g ∷ gaps) f quiet =
        let behind : List ℕ = flat_map (λ g. g) gaps ++ q.rest in
        let split : bytes ≡ g ++ behind = f ∙ append_assoc g (flat_map (λ g. g) gaps) q.rest in
        let len : length word ≡ length g = n ∙ ap quiet_len split ∙ quiet_exact g behind quiet.0 in
        let same = same_front word rest g behind (sym e ∙ split) len in
        record { gaps = gaps; rest = q.rest; whole = same.1; quiet = quiet.1; ends = q.ends }

-- what stands behind the gap in front
behind_gap : (bytes : List ℕ) (f : QuietFront bytes (quiet_len bytes)) → drop (quiet_len bytes) bytes ≡ f.rest
behind_gap bytes f = ap (drop (quiet_len bytes)) f.whole ∙ drop_at f.word f.rest (quiet_len bytes) f.len_is

pub quiet_before : (bytes : List ℕ) → 0 < quiet_len bytes → IsQuiet (drop (quiet_len bytes) bytes) → IsQuiet bytes
quiet_before bytes some q =
    let f = quiet_sound bytes some in
    quiet_more bytes f.word f.rest f.whole f.is (subst IsQuiet (behind_gap bytes f) q)

pub quiet_behind : (bytes : List ℕ) → 0 < quiet_len bytes → IsQuiet bytes → IsQuiet (drop (quiet_len bytes) bytes)
quiet_behind bytes some q =
    let f = quiet_sound bytes some in
    let len : length f.word ≡ quiet_len bytes = f.len_is in
    let there : 0 < length f.word = omega arith in
    subst IsQuiet (sym (behind_gap bytes f)) (quiet_less bytes f.word f.rest f.whole f.len_is there q)

pub not_quiet : (b : ℕ) (bytes : List ℕ) → b ≢ 10 → quiet_len (b ∷ bytes) ≡ 0 → IsQuiet (b ∷ bytes) → ⊥
not_quiet b bytes other none q = by_gaps q.gaps q.whole q.quiet
  where
    by_end : (rest : List ℕ) → b ∷ bytes ≡ rest → (rest ≡ []) ⊎ ((more : List ℕ) × (rest ≡ 10 ∷ more)) → ⊥
    by_end rest e (inl f) = let clash : b ∷ bytes ≡ [] = e ∙ f in cc
    by_end rest e (inr f) = let heads : b ∷ bytes ≡ 10 ∷ f.0 = e ∙ f.1 in other cc

    by_gaps : (gaps : List (List ℕ)) → b ∷ bytes ≡ flat_map (λ g. g) gaps ++ q.rest → AreQuiet gaps q.rest → ⊥
    by_gaps [] f quiet = by_end q.rest f q.ends
    by_gaps (g ∷ gaps) f quiet =
        let behind : List ℕ = flat_map (λ g. g) gaps ++ q.rest in
        let split : b ∷ bytes ≡ g ++ behind = f ∙ append_assoc g (flat_map (λ g. g) gaps) q.rest in
        let len : quiet_len (b ∷ bytes) ≡ length g = ap quiet_len split ∙ quiet_exact g behind quiet.0 in
        let there : 0 < length g = quiet_there g behind quiet.0 in
        omega arith

pub not_quiet_front : (bytes : List ℕ) → 0 < length bytes → begins_with 10 bytes ≡ false → quiet_len bytes ≡ 0 → IsQuiet bytes → ⊥
not_quiet_front [] some line none q = omega arith
not_quiet_front (b ∷ bytes) some line none q = not_quiet b bytes (λ e. false≢true (sym line ∙ eq-eqb b 10 e)) none q
