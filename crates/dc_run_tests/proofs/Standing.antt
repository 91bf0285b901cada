-- The program whose function falls off its end is sound.
use Rattle.std.proofs.Common.{◌≡◌, List, [], ◌∷◌, map, false, refl, ap, ◌∙◌, arith, pos}
use Rattle.std.specs.Prelude.{All}
use Rattle.std.proofs.lemmas.Int.{ints}
use Rattle.std.proofs.lemmas.List.Elements.{All-nil, All-cons}
use Rattle.dc_core.specs.Sound.{IsSound, IsTarget, Stands, StmtStands}
use Rattle.dc_core.specs.Whole.{SaysFunction, Says}
use Rattle.dc_core.proofs.SoundSaid.{IsNamed, said_is_sound}
use Rattle.dc_num.specs.Kinds.{IsValue}
use Rattle.dc_num.specs.declared.kind.NumKind.TheVariants.{S32}
use Rattle.dc_program.specs.Sound.{Sound}
use Rattle.dc_program.specs.View as whole
use Rattle.dc_program.specs.declared.program.Function.{Function}
use Rattle.dc_run_tests.specs.Unfinished.{increment, unfinished, unfinished_program, whole_unfinished}

one_is_int : IsValue S32 (pos 1)
one_is_int = record { above = omega (arith, ints); below = omega (arith, ints) }

may_be_run : IsSound unfinished_program
may_be_run =
    record {
      name = refl;
      few = omega arith;
      requires_ = All-nil (Stands unfinished_program false);
      ensures_ = All-nil (Stands unfinished_program unfinished.gives_int);
      assigns = All-nil (IsTarget unfinished_program);
      body = All-cons (StmtStands unfinished_program) increment [] (omega arith, (omega arith, one_is_int)) (All-nil (StmtStands unfinished_program));
    }

is_named : IsNamed unfinished_program
is_named = record { word = refl; words = tt; differ = (refl, tt); sites = (omega arith, tt) }

-- the whole of it says it
whole_says : SaysFunction unfinished whole_unfinished
whole_says = record { name = refl; result = refl; params = refl; contract = refl; body = ((1, refl), tt) }

pub unfinished_stands : (fs : List Function) (f : Function) → fs ≡ f ∷ [] → whole.function_view f ≡ whole_unfinished → Sound (whole.program fs [] [])
unfinished_stands fs f one seen =
    let functions : map whole.function_view fs ≡ whole_unfinished ∷ [] = ap (map whole.function_view) one ∙ ap (λ g. g ∷ []) seen in
    let said : Says unfinished_program (whole.program fs [] []) = record { function = whole_unfinished; functions = functions; says = whole_says; statics = refl; structs = refl } in
    said_is_sound unfinished_program (whole.program fs [] []) said may_be_run is_named
