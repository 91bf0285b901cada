-- A source is cut piece by piece from its front.
use Rattle.std.proofs.Common.{◌≡◌, ℕ, ◌+◌, Bool, true, List, [], ◌∷◌, ◌++◌, take, drop, refl, sym, ap, subst, ◌∙◌, arith, append_assoc, append-nil, take-append-drop}
use Rattle.std.specs.Prelude.{flat_map}
use Rattle.std.proofs.lemmas.Grind.{flat_map-append}
use Rattle.dc_lexer.specs.Pieces.{newlines, Piece, Gap, Lexeme, piece_bytes, IsGap, IsLexeme, IsNarrow, IsPiece, ArePieces, Token, tokens_from}
use Rattle.dc_lexer.specs.Reading.{at_start}
use Rattle.dc_lexer.specs.declared.kind.Kind.{Kind}
use Rattle.dc_lexer.proofs.Lexed.{newlines_append, token_newlines}
use Rattle.dc_lexer.proofs.Started.{start_append}

-- the bytes of these pieces
abbrev pub bytes_of : List Piece → List ℕ
bytes_of pieces = flat_map piece_bytes pieces

-- One more piece ------------------------------------------------------------------------------------------------------

bytes_more : (pieces : List Piece) (piece : Piece) → bytes_of (pieces ++ piece ∷ []) ≡ bytes_of pieces ++ piece_bytes piece
bytes_more pieces piece = flat_map-append piece_bytes pieces (piece ∷ []) ∙ ap (λ b. bytes_of pieces ++ b) (append-nil (piece_bytes piece))

bytes_behind : (pieces : List Piece) (piece : Piece) (rest : List ℕ) → bytes_of (pieces ++ piece ∷ []) ++ rest ≡ bytes_of pieces ++ (piece_bytes piece ++ rest)
bytes_behind pieces piece rest = ap (λ b. b ++ rest) (bytes_more pieces piece) ∙ append_assoc (bytes_of pieces) (piece_bytes piece) rest

pieces_more : (before : List ℕ) (pieces : List Piece) (piece : Piece) (rest : List ℕ) → ArePieces before pieces (piece_bytes piece ++ rest) → IsPiece (before ++ bytes_of pieces) piece rest → ArePieces before (pieces ++ piece ∷ []) rest
pieces_more before [] piece rest are is = (subst (λ b. IsPiece b piece rest) (append-nil before) is, tt)
pieces_more before (p ∷ pieces) piece rest are is = (
  subst (IsPiece before p) (sym (bytes_behind pieces piece rest)) are.0,
  pieces_more (before ++ piece_bytes p) pieces piece rest are.1 (subst (λ b. IsPiece b piece rest) (sym (append_assoc before (piece_bytes p) (bytes_of pieces))) is),
)

-- the line behind these pieces
abbrev line_behind : ℕ → List Piece → ℕ
line_behind line [] = line
line_behind line (Gap bytes ∷ pieces) = line_behind (line + newlines bytes) pieces
line_behind line (Lexeme kind bytes ∷ pieces) = line_behind line pieces

tokens_more : (line : ℕ) (pieces more : List Piece) → tokens_from line (pieces ++ more) ≡ tokens_from line pieces ++ tokens_from (line_behind line pieces) more
tokens_more line [] more = refl
tokens_more line (Gap bytes ∷ pieces) more = tokens_more (line + newlines bytes) pieces more
tokens_more line (Lexeme kind bytes ∷ pieces) more = ap (λ tokens. record { kind = kind; bytes = bytes; line = line } ∷ tokens) (tokens_more line pieces more)

line_is : (before : List ℕ) (line : ℕ) (pieces : List Piece) (rest : List ℕ) → ArePieces before pieces rest → line_behind line pieces ≡ line + newlines (bytes_of pieces)
line_is before line [] rest are = omega arith
line_is before line (Gap bytes ∷ pieces) rest are =
    let ih : line_behind (line + newlines bytes) pieces ≡ (line + newlines bytes) + newlines (bytes_of pieces) = line_is (before ++ bytes) (line + newlines bytes) pieces rest are.1 in
    let both : newlines (bytes ++ bytes_of pieces) ≡ newlines bytes + newlines (bytes_of pieces) = newlines_append bytes (bytes_of pieces) in
    omega arith
line_is before line (Lexeme kind bytes ∷ pieces) rest are =
    let ih : line_behind line pieces ≡ line + newlines (bytes_of pieces) = line_is (before ++ bytes) line pieces rest are.1 in
    let both : newlines (bytes ++ bytes_of pieces) ≡ newlines bytes + newlines (bytes_of pieces) = newlines_append bytes (bytes_of pieces) in
    let none : newlines bytes ≡ 0 = token_newlines kind bytes ((are.0).0).kind_is in
    omega arith

-- How far the reading came --------------------------------------------------------------------------------------------

-- the bytes in front are cut in pieces, which have these tokens, and these bytes are left
pub record Reached (bytes : List ℕ) (tokens : List Token) (line : ℕ) (fresh : Bool) (rest : List ℕ) : Type 0 where
  pub pieces : List Piece
  pub whole : bytes ≡ bytes_of pieces ++ rest
  pub right : ArePieces [] pieces rest
  pub tokens_are : tokens ≡ tokens_from 1 pieces
  pub line_at : line ≡ 1 + newlines (bytes_of pieces)
  pub fresh_at : at_start true (bytes_of pieces) ≡ fresh

-- one more piece
reached_piece : (bytes : List ℕ) (tokens more : List Token) (line line' : ℕ) (fresh : Bool) (here rest : List ℕ) (piece : Piece) (r : Reached bytes tokens line fresh here)
    → here ≡ piece_bytes piece ++ rest → IsPiece (bytes_of r.pieces) piece rest → tokens_from line (piece ∷ []) ≡ more → line' ≡ line + newlines (piece_bytes piece)
    → Reached bytes (tokens ++ more) line' (at_start fresh (piece_bytes piece)) rest
reached_piece bytes tokens more line line' fresh here rest piece r split is more_is next =
    let behind : line ≡ line_behind 1 r.pieces = r.line_at ∙ sym (line_is [] 1 r.pieces here r.right) in
    let both : newlines (bytes_of (r.pieces ++ piece ∷ [])) ≡ newlines (bytes_of r.pieces) + newlines (piece_bytes piece) = ap newlines (bytes_more r.pieces piece) ∙ newlines_append (bytes_of r.pieces) (piece_bytes piece) in
    let line_at : line ≡ 1 + newlines (bytes_of r.pieces) = r.line_at in
    record {
      pieces = r.pieces ++ piece ∷ [];
      whole = r.whole ∙ ap (λ h. bytes_of r.pieces ++ h) split ∙ sym (bytes_behind r.pieces piece rest);
      right = pieces_more [] r.pieces piece rest (subst (ArePieces [] r.pieces) split r.right) is;
      tokens_are = ap (λ t. t ++ more) r.tokens_are ∙ ap (λ m. tokens_from 1 r.pieces ++ m) (sym more_is ∙ ap (λ l. tokens_from l (piece ∷ [])) behind) ∙ sym (tokens_more 1 r.pieces (piece ∷ []));
      line_at = omega arith;
      fresh_at = ap (at_start true) (bytes_more r.pieces piece) ∙ start_append true (bytes_of r.pieces) (piece_bytes piece) ∙ ap (λ t. at_start t (piece_bytes piece)) r.fresh_at;
    }

pub reached_gap : (bytes : List ℕ) (tokens : List Token) (line : ℕ) (fresh : Bool) (here : List ℕ) (n : ℕ) → Reached bytes tokens line fresh here
    → ((before : List ℕ) → at_start true before ≡ fresh → IsGap before (take n here) (drop n here))
    → Reached bytes tokens (line + newlines (take n here)) (at_start fresh (take n here)) (drop n here)
reached_gap bytes tokens line fresh here n r gap =
    subst (λ t. Reached bytes t (line + newlines (take n here)) (at_start fresh (take n here)) (drop n here)) (append-nil tokens)
    (reached_piece bytes tokens [] line (line + newlines (take n here)) fresh here (drop n here) (Gap (take n here)) r (sym (take-append-drop n here)) (gap (bytes_of r.pieces) r.fresh_at) refl refl)

pub reached_lexeme : (bytes : List ℕ) (tokens : List Token) (line : ℕ) (fresh : Bool) (here : List ℕ) (kind : Kind) (n : ℕ) (token : Token) → Reached bytes tokens line fresh here
    → IsLexeme kind (take n here) (drop n here) → IsNarrow kind (take n here) → token ≡ record { kind = kind; bytes = take n here; line = line }
    → Reached bytes (tokens ++ token ∷ []) line (at_start fresh (take n here)) (drop n here)
reached_lexeme bytes tokens line fresh here kind n token r l narrow is =
    let none : newlines (take n here) ≡ 0 = token_newlines kind (take n here) l.kind_is in
    let next : line ≡ line + newlines (take n here) = omega arith in
    reached_piece bytes tokens (token ∷ []) line line fresh here (drop n here) (Lexeme kind (take n here)) r (sym (take-append-drop n here)) (l, narrow) (ap (λ t. t ∷ []) (sym is)) next
