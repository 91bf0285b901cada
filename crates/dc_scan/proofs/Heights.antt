-- Expressions of a height, by one less.
use Rattle.std.proofs.Common.{◌≡◌, ℕ, zero, suc, ◌-◌, ◌<◌, List, None, refl, ap, arith}
use Rattle.dc_goto.specs.Reading.{read_parenthesised, read_term}

pub none_at : (n : ℕ) (bytes : List ℕ) → n ≡ 0 → read_term n bytes ≡ None
unfolding read_term
none_at zero bytes e = refl
none_at (suc n) bytes e = absurd (omega arith)

pub term_at : (n : ℕ) (bytes : List ℕ) → 0 < n → read_term n bytes ≡ read_parenthesised (read_term (n - 1)) bytes
unfolding read_term
term_at zero bytes p = absurd (omega arith)
term_at (suc n) bytes p = ap (λ m. read_parenthesised (read_term m) bytes) (less n)
  where
    less : (n : ℕ) → n ≡ suc n - 1
    less n = omega arith
