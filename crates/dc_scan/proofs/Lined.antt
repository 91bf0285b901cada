-- A text is read line by line, up to its end or to the first line that has no form.
use Rattle.std.proofs.Common.{◌≡◌, ◌≢◌, ℕ, ◌+◌, ◌<◌, List, [], ◌∷◌, ◌++◌, length, None, refl, sym, ap, ◌∙◌, arith, append_assoc, append-nil, length-append, add-one}
use Rattle.std.specs.Prelude.{flat_map}
use Rattle.std.specs.List.{AllByRecursion}
use Rattle.std.proofs.lemmas.Grind.{flat_map-append}
use Rattle.dc_goto.specs.Lines.{Line, line_text, form_bytes, IsForm, AreLines, FirstFormless}
use Rattle.dc_goto.specs.Reading.{got, read_line}
use Rattle.dc_goto.proofs.Readable.{line_sound, line_complete}

-- these line forms stand in front, and this behind them
pub record Lined (bytes : List ℕ) (lines : List Line) (rest : List ℕ) : Type 0 where
  pub formed : AllByRecursion IsForm lines
  pub text : bytes ≡ flat_map form_bytes lines ++ rest

pub lined_first : (bytes : List ℕ) → Lined bytes [] bytes
lined_first bytes = record { formed = tt; text = refl }

formed_more : (lines : List Line) (line : Line) → AllByRecursion IsForm lines → IsForm line → AllByRecursion IsForm (lines ++ line ∷ [])
formed_more [] line f is = (is, tt)
formed_more (first ∷ lines) line f is = (f.0, formed_more lines line f.1 is)

pub lined_more : (bytes : List ℕ) (lines : List Line) (here rest : List ℕ) (line : Line) → Lined bytes lines here → read_line here ≡ got line rest → Lined bytes (lines ++ line ∷ []) rest
lined_more bytes lines here rest line l h =
    let s = line_sound here rest line h in
    record {
      formed = formed_more lines line l.formed s.1;
      text = l.text ∙ ap (λ r. flat_map form_bytes lines ++ r) s.0
          ∙ sym (append_assoc (flat_map form_bytes lines) (form_bytes line) rest)
          ∙ ap (λ t. (flat_map form_bytes lines ++ t) ++ rest) (sym (append-nil (form_bytes line)))
          ∙ ap (λ t. t ++ rest) (sym (flat_map-append form_bytes lines (line ∷ [])));
    }

pub lined_all : (bytes : List ℕ) (lines : List Line) (rest : List ℕ) → Lined bytes lines rest → rest ≡ [] → AreLines bytes lines
lined_all bytes lines rest l e =
    record { formed = l.formed; text = l.text ∙ ap (λ r. flat_map form_bytes lines ++ r) e ∙ append-nil (flat_map form_bytes lines) }

pub lined_stuck : (bytes : List ℕ) (lines : List Line) (here : List ℕ) (k : ℕ) → Lined bytes lines here → here ≢ [] → read_line here ≡ None → k ≡ length lines + 1 → FirstFormless bytes k
lined_stuck bytes lines here k l there stuck number =
    record {
      before = lines;
      behind = here;
      formed = l.formed;
      text = l.text;
      there = there;
      formless = λ line rest is e. clash line rest (sym stuck ∙ ap read_line e ∙ line_complete line rest is);
      number = number ∙ add-one (length lines);
    }
  where
    clash : (line : Line) (rest : List ℕ) → None ≡ got line rest → ⊥
    clash line rest e = cc

pub line_shortens : (here rest : List ℕ) (line : Line) → read_line here ≡ got line rest → length rest < length here
line_shortens here rest line h =
    let s = line_sound here rest line h in
    let whole : length here ≡ length (form_bytes line) + length rest = ap length s.0 ∙ length-append (form_bytes line) rest in
    let text : length (form_bytes line) ≡ length (line_text line) + 1 = length-append (line_text line) (10 ∷ []) in
    omega (arith, whole, text)
