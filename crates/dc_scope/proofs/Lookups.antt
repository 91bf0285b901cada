-- Names of a scope that are looked up.
use Rattle.std.proofs.Common.{◌≡◌, ℕ, Bool, true, false, cond, List, [], ◌∷◌, Option, Some, None, refl, sym, ◌∙◌}
use Rattle.std.specs.Option.{option_map}
use Rattle.std.specs.Map.{lookup}
use Rattle.std.specs.Prelude.{Result, Ok, Err, OnOk, IfOk}
use Rattle.std.specs.Result.{is_err}
use Rattle.dc_scope.specs.declared.entity.Entity.{Entity}
use Rattle.dc_scope.specs.Entities.{PlainEntity, entity_view}
use Rattle.dc_scope.specs.Scopes.{PlainScope, PlainScopes, names_view}

cond-view : (b : Bool) (e : Entity) (o : Option Entity) (p : Option PlainEntity) → p ≡ option_map entity_view o → cond b (Some (entity_view e)) p ≡ option_map entity_view (cond b (Some e) o)
cond-view true e o p is = refl
cond-view false e o p is = is

pub lookup-names_view : (test : List ℕ → Bool) (names : List (List ℕ × Entity)) → lookup test (names_view names) ≡ option_map entity_view (lookup test names)
lookup-names_view test [] = refl
lookup-names_view test (n ∷ names) = cond-view (test n.0) n.1 (lookup test names) _ (lookup-names_view test names)

none-seen : (o : Option Entity) → option_map entity_view o ≡ None → o ≡ None
none-seen None e = refl
none-seen (Some x) e = cc

-- a name that isn't seen isn't there
pub lookup-none : (test : List ℕ → Bool) (names : List (List ℕ × Entity)) → lookup test (names_view names) ≡ None → lookup test names ≡ None
lookup-none test names none = none-seen _ (sym (lookup-names_view test names) ∙ none)

pub ok-holds : {T E : Type 0} (P : Type 0) (r : Result T E) → is_err r ≡ false → OnOk r P → P
ok-holds P (Ok v) ok p = p
ok-holds P (Err e) ok p = cc

pub ok-gives : {T E : Type 0} (P : Type 0) (r : Result T E) → is_err r ≡ false → IfOk r (λ _. P) → P
ok-gives P (Ok v) ok p = p
ok-gives P (Err e) ok p = cc

abbrev pub with_member_names : PlainScope → List PlainScope → List (ℕ × List (List ℕ)) → PlainScopes
with_member_names inner outer members = record { inner = inner; outer = outer; members = members }
