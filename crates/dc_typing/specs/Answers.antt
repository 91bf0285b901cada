-- How an answer of the code agrees with what is defined.
use Rattle.std.specs.Prelude.{◌≡◌, List, Result, Ok, Err}
use Rattle.dc_layout.specs.Types.{type_view}
use Rattle.dc_layout.specs.declared.ctype.CType.{CType}
use Rattle.dc_scope.specs.Scopes.{Names}
use Rattle.dc_typing.specs.Judged.{Judged, broken}
use Rattle.dc_typing.specs.TypeNames.{Taken}
use Rattle.dc_typing.specs.declared.refusal.Refusal.{Refusal}
use Rattle.dc_typing.specs.declared.refusal.Refusal.TheVariants.{Rule, Memory}

-- what is seen as the meaning that is defined, or the first broken rule with its place; want of memory is free
abbrev pub Answers : {A B : Type 0} → (A → B) → Judged B → Result A Refusal → Type 0
Answers view judged (Ok a) = judged ≡ Ok (view a)
Answers view judged (Err (Rule rule site)) = judged ≡ Err (broken rule site.0)
Answers view judged (Err (Memory e)) = Unit {0}

-- likewise, with the parameters that are known afterwards
abbrev pub Enters : Result (Unit {0}) Refusal → Judged (List Names) → List Names → Type 0
Enters (Ok u) judged after = judged ≡ Ok after
Enters (Err (Rule rule site)) judged after = judged ≡ Err (broken rule site.0)
Enters (Err (Memory e)) judged after = Unit {0}

abbrev pub Takes : Result CType Refusal → Judged Taken → List Names → Type 0
Takes (Ok t) judged after = judged ≡ Ok (record { type = type_view t; parameters = after })
Takes (Err (Rule rule site)) judged after = judged ≡ Err (broken rule site.0)
Takes (Err (Memory e)) judged after = Unit {0}
