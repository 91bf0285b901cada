-- Values grow with their digits.
use Rattle.std.proofs.Common.{ℕ, ◌+◌, ◌*◌, ◌≤◌, List, [], ◌∷◌, length, get_or, arith}
use Rattle.std.proofs.Math.Nat.{mul-le-mul_left}
use Rattle.dc_lexer.specs.Words.{digit_value, value_behind}

pub value_grows : (base n : ℕ) (bytes : List ℕ) → 1 ≤ base → n ≤ value_behind base n bytes
value_grows base n [] some = omega arith
value_grows base n (b ∷ bytes) some =
    let more : n * base + digit_value b ≤ value_behind base (n * base + digit_value b) bytes = value_grows base (n * base + digit_value b) bytes some in
    let times : n * 1 ≤ n * base = mul-le-mul_left n some in
    omega arith

pub wide_from : (base n limit : ℕ) (bytes : List ℕ) → 1 ≤ base → 1 ≤ length bytes → limit ≤ n * base + digit_value (get_or bytes 0 0) → limit ≤ value_behind base n bytes
wide_from base n limit [] some there low = absurd (omega arith)
wide_from base n limit (b ∷ bytes) some there low =
    let more : n * base + digit_value b ≤ value_behind base (n * base + digit_value b) bytes = value_grows base (n * base + digit_value b) bytes some in
    let low' : limit ≤ n * base + digit_value b = low in
    omega arith
