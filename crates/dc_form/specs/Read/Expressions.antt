-- Reading of expressions. The names are those declared so far, and n of them are variables.
use Rattle.std.specs.Prelude.{ℕ, ◌-◌, pos, Bool, ◌&&◌, ◌==◌, nat_lt, List, [], ◌∷◌, Option, None, Some, if◌then◌else◌, codes}
use Rattle.std.specs.List.{position}
use Rattle.dc_num.specs.declared.operators.BinOp.{BinOp}
use Rattle.dc_num.specs.declared.operators.BinOp.TheVariants.{Add, Sub, Lt, Le, Eq, Ne}
use Rattle.dc_core.specs.Program.{Expr, Literal, Variable, Parameter, ReturnValue, Binary}
use Rattle.dc_text.specs.Words.{same}
use Rattle.dc_form.specs.Read.Cursor.{front, tail}
use Rattle.dc_form.specs.Read.Numbers.{number_of}
use Rattle.dc_form.specs.Read.Reading.{Reading, got, given, then_read}

-- variables stand first, then the function, then the parameters
abbrev pub place_at : ℕ → ℕ → Option Expr
place_at n k = if nat_lt k n then Some (Variable k) else if k == n then None else Some (Parameter (k - n - 1))

abbrev pub literal_at : Option ℕ → Option Expr
literal_at None = None
literal_at (Some n) = Some (Literal (pos n))

-- a word that isn't declared
abbrev pub value_of : Bool → List ℕ → Option Expr
value_of valued word = if valued && same word (codes "__CPROVER_return_value") then Some ReturnValue else literal_at (number_of word)

abbrev pub term_at : ℕ → Bool → List ℕ → Option ℕ → Option Expr
term_at n valued word None = value_of valued word
term_at n valued word (Some k) = place_at n k

abbrev pub term_of : List (List ℕ) → ℕ → Bool → List ℕ → Option Expr
term_of names n valued word = term_at n valued word (position (same word) names)

abbrev pub read_term : List (List ℕ) → ℕ → Bool → List (List ℕ) → Reading Expr
read_term names n valued [] = None
read_term names n valued (word ∷ tokens) = given (term_of names n valued word) tokens

abbrev pub sum_operator : List ℕ → Option BinOp
sum_operator word = if same word (codes "+") then Some Add else if same word (codes "-") then Some Sub else None

abbrev pub test_operator : List ℕ → Option BinOp
test_operator word =
    if same word (codes "==") then Some Eq else if same word (codes "!=") then Some Ne
    else if same word (codes "<") then Some Lt else if same word (codes "<=") then Some Le else None

-- a second term, if an operator stands there
abbrev pub sum_behind : List (List ℕ) → ℕ → Bool → Expr → Option BinOp → List (List ℕ) → Reading Expr
sum_behind names n valued a None tokens = got a tokens
sum_behind names n valued a (Some op) tokens =
    then_read (read_term names n valued (tail tokens)) (λ b tokens. got (Binary op a b) tokens)

abbrev pub read_sum : List (List ℕ) → ℕ → Bool → List (List ℕ) → Reading Expr
read_sum names n valued tokens =
    then_read (read_term names n valued tokens) (λ a tokens. sum_behind names n valued a (sum_operator (front tokens)) tokens)

abbrev pub test_behind : List (List ℕ) → ℕ → Bool → Expr → Option BinOp → List (List ℕ) → Reading Expr
test_behind names n valued a None tokens = None
test_behind names n valued a (Some op) tokens =
    then_read (read_sum names n valued (tail tokens)) (λ b tokens. got (Binary op a b) tokens)

abbrev pub read_test : List (List ℕ) → ℕ → Bool → List (List ℕ) → Reading Expr
read_test names n valued tokens =
    then_read (read_sum names n valued tokens) (λ a tokens. test_behind names n valued a (test_operator (front tokens)) tokens)
