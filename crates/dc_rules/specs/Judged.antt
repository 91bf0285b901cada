-- How an answer of the code has to agree with what is defined.
use Rattle.std.specs.Prelude.{◌≡◌, Result, Ok, Err}
use Rattle.dc_layout.specs.Types.{PlainType, type_view}
use Rattle.dc_layout.specs.declared.ctype.CType.{CType}
use Rattle.dc_program.specs.Typing.{Judged}
use Rattle.dc_rules.specs.declared.judged.Refused.{Refused}
use Rattle.dc_rules.specs.declared.judged.Refused.TheVariants.{Rule, Memory}

-- a type that is seen as the one that is defined, or the rule that is defined; want of memory is free
abbrev pub Answers : Result CType Refused → Judged PlainType → Type 0
Answers (Ok t) (Ok u) = type_view t ≡ u
Answers (Ok t) (Err rule) = ⊥
Answers (Err (Rule r)) (Ok u) = ⊥
Answers (Err (Rule r)) (Err rule) = r ≡ rule
Answers (Err (Memory e)) judged = Unit {0}
