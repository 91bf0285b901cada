-- The lists of parameters around in a type-name, as a value of the code is seen.
use Rattle.std.specs.Prelude.{◌≡◌, ℕ, Bool, true, false, is_some, List, [], ◌∷◌, Option, Some, None, Result, Ok, Err}
use Rattle.std.specs.Coded.{Coded, coded_ℕ, coded_list, coded×}
use Rattle.dc_layout.specs.Types.{PlainType}
use Rattle.dc_scope.specs.Codes.{code_entity}
use Rattle.dc_scope.specs.Scopes.{Names, PlainScopes}
use Rattle.dc_scope.specs.declared.declare.Declare.{Declare}
use Rattle.dc_scope.specs.declared.declare.Declare.TheVariants.{Twice, Differs, Memory}
use Rattle.dc_typing.specs.Known.{own_parameter, with_parameter}
use denote.Ref.{Bor}

-- that they can stand in models: each has a code. No clause reads this.
abbrev pub code_lists : Coded (List Names)
code_lists = coded_list (coded_list (coded× (coded_list coded_ℕ) code_entity))

abbrev pub around_view : Option (Bor (List Names)) → List Names
around_view None = []
around_view (Some around) = around.now

-- a list whose names are declared in scopes of its own
abbrev pub in_list : PlainScopes → Option (Bor (List Names)) → List Names
in_list s around = s.inner.ordinary ∷ around_view around

-- a parameter was new in its list and is in it now, or its name is there already
abbrev pub Declares : Result (Unit {0}) Declare → List Names → List ℕ → PlainType → List Names → Type 0
Declares (Ok u) before name t after = (is_some (own_parameter before name) ≡ false) × (after ≡ with_parameter before name t)
Declares (Err Twice) before name t after = is_some (own_parameter before name) ≡ true
Declares (Err Differs) before name t after = is_some (own_parameter before name) ≡ true
Declares (Err (Memory m)) before name t after = Unit {0}
