-- What stands in front of the bytes that are left.
use Rattle.std.specs.Prelude.{◌≡◌, ℕ, ◌<◌, ◌≤◌, Bool, true, List, length, take, drop}
use Rattle.dc_lexer.specs.Pieces.{IsGap, IsLexeme, IsNarrow, BeginsWide, BeginsNone, BeginsDirective}
use Rattle.dc_lexer.specs.Reading.{at_start}
use Rattle.dc_lexer.specs.declared.front.Front.{Front}
use Rattle.dc_lexer.specs.declared.front.Front.TheVariants.{Gap, Lexeme, Wide, Directive, Byte}

-- it is told right, behind any bytes that end in a line's start or don't
abbrev pub IsFront : Bool → List ℕ → Front → Type 0
IsFront fresh bytes (Gap len) =
    (0 < len) × (len ≤ length bytes) × ((before : List ℕ) → at_start true before ≡ fresh → IsGap before (take len bytes) (drop len bytes))
IsFront fresh bytes (Lexeme kind len) =
    (0 < len) × (len ≤ length bytes) × IsLexeme kind (take len bytes) (drop len bytes) × IsNarrow kind (take len bytes)
IsFront fresh bytes Wide = BeginsWide bytes
IsFront fresh bytes Directive = (before : List ℕ) → at_start true before ≡ fresh → BeginsNone before bytes × BeginsDirective before bytes
IsFront fresh bytes Byte = (before : List ℕ) → at_start true before ≡ fresh → BeginsNone before bytes × (BeginsDirective before bytes → ⊥)
