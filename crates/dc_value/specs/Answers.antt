-- How an answer of the code agrees with the value that is defined.
use Rattle.std.specs.Prelude.{◌≡◌, ℕ, ℤ, List, reverse, Some, None, Result, Ok, Err}
use Rattle.dc_goto.specs.Values.{Values}
use Rattle.dc_value.specs.declared.no_value.NoValue.{NoValue}
use Rattle.dc_value.specs.declared.no_value.NoValue.TheVariants.{Undefined, Memory}

-- the value or that there is none, with the objects that were seen before and afterwards, the newest last; want of memory is
-- free
abbrev pub Answers : Values ℤ → Result ℤ NoValue → List ℕ → List ℕ → Type 0
Answers values (Ok z) before after = values (reverse before) ≡ record { value = Some z; seen = reverse after }
Answers values (Err Undefined) before after = values (reverse before) ≡ record { value = None; seen = reverse after }
Answers values (Err (Memory e)) before after = Unit {0}
