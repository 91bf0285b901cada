-- What comes of a declaration in the innermost scope (C11 6.2.2, 6.2.7, 6.7 p3).
use Rattle.std.specs.Prelude.{◌≡◌, ℕ, List, [], ◌∷◌, Option, Some, None, Bool, Result, Ok, Err, if◌then◌else◌}
use Rattle.dc_scope.specs.declared.space.Space.{Space}
use Rattle.dc_scope.specs.declared.declare.Declare.{Declare}
use Rattle.dc_scope.specs.declared.declare.Declare.TheVariants.{Twice, Differs, Memory}
use Rattle.dc_scope.specs.Entities.{PlainEntity, Function, Static, Typedef}
use Rattle.dc_scope.specs.SameTypes.{same_type}
use Rattle.dc_scope.specs.Scopes.{PlainScopes, found_inner, with_name}

-- what a declaration breaks
pub data Broken : Type 0 where
  twice : Broken
  differs : Broken

-- a broken rule where the types aren't the same
abbrev pub unless_same : Broken → Bool → Option Broken
unless_same broken same = if same then None else Some broken

-- a second declaration of a name beside the first: permitted for functions, for variables of file scope and for typedefs, each
-- of one type
abbrev pub broken_beside : PlainEntity → PlainEntity → Option Broken
broken_beside (Function m t) (Function n u) = unless_same differs (same_type t u)
broken_beside (Static m t) (Static n u) = unless_same differs (same_type t u)
broken_beside (Typedef t) (Typedef u) = unless_same twice (same_type t u)
broken_beside _ _ = Some twice

-- the scopes where nothing is broken
abbrev pub unless_broken : Option Broken → PlainScopes → Result PlainScopes Broken
unless_broken None s = Ok s
unless_broken (Some broken) s = Err broken

-- the scopes behind a declaration, by what the name stands for in the innermost one already
abbrev pub declared_beside : Option PlainEntity → PlainScopes → Space → List ℕ → PlainEntity → Result PlainScopes Broken
declared_beside None s space name e = Ok (with_name s space name e)
declared_beside (Some first) s space name e = unless_broken (broken_beside first e) s

-- the scopes behind a declaration: a name that the innermost one doesn't have is added, and any other stands for what it stood for
abbrev pub declared : PlainScopes → Space → List ℕ → PlainEntity → Result PlainScopes Broken
declared s space name e = declared_beside (found_inner s space name) s space name e

-- what a call answers, and the scopes behind it
abbrev pub Declares : Result (Unit {0}) Declare → PlainScopes → Space → List ℕ → PlainEntity → PlainScopes → Type 0
Declares (Ok u) before space name e after = declared before space name e ≡ Ok after
Declares (Err Twice) before space name e after = (declared before space name e ≡ Err twice) × (after ≡ before)
Declares (Err Differs) before space name e after = (declared before space name e ≡ Err differs) × (after ≡ before)
Declares (Err (Memory m)) before space name e after = after ≡ before

-- what a call answers to a second declaration
abbrev pub Answers : Result (Unit {0}) Declare → Option Broken → Type 0
Answers (Ok u) broken = broken ≡ None
Answers (Err Twice) broken = broken ≡ Some twice
Answers (Err Differs) broken = broken ≡ Some differs
Answers (Err (Memory m)) broken = ⊥

-- a name that is declared
pub record Declaration : Type 0 where
  pub space : Space
  pub name : List ℕ
  pub entity : PlainEntity

-- the scopes behind a declaration that may break something
abbrev pub accepted_or : PlainScopes → Result PlainScopes Broken → PlainScopes
accepted_or s (Ok after) = after
accepted_or s (Err broken) = s

-- the scopes behind declarations, of which those that break something change nothing
abbrev pub behind : List Declaration → PlainScopes → PlainScopes
behind [] s = s
behind (d ∷ ds) s = behind ds (accepted_or s (declared s d.space d.name d.entity))
