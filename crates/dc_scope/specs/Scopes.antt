-- Scopes and their name spaces (C11 6.2.1, 6.2.3), and the members of structs, as plain data.
use Rattle.std.specs.Prelude.{ℕ, Bool, true, ◌&&◌, not, nat_eq, List, [], ◌∷◌, ◌++◌, length, map, position, Option, None}
use Rattle.std.specs.List.{list_any}
use Rattle.std.specs.Map.{lookup}
use Rattle.std.specs.Option.{option_and_then, option_or}
use Rattle.dc_text.specs.Words.{same}
use Rattle.dc_scope.specs.declared.space.Space.{Space}
use Rattle.dc_scope.specs.declared.space.Space.TheVariants.{Ordinary, Tag}
use Rattle.dc_scope.specs.declared.entity.Entity.{Entity}
use Rattle.dc_scope.specs.Entities.{PlainEntity, entity_view}

-- names with what they stand for, in the order of their declarations
abbrev pub Names : Type 0
Names = List (List ℕ × PlainEntity)

-- the names of a scope, in each of its name spaces
pub record PlainScope : Type 0 where
  pub ordinary : Names
  pub tags : Names

-- the entries of a table of the code
abbrev pub names_view : List (List ℕ × Entity) → Names
names_view = map (λ entry. (entry.0, entity_view entry.1))

-- the innermost scope, those around it from the inside out, and the names of the members of structs, which have numbers
pub record PlainScopes : Type 0 where
  pub inner : PlainScope
  pub outer : List PlainScope
  pub members : List (ℕ × List (List ℕ))

-- a scope in which nothing is declared
abbrev pub no_names : PlainScope
no_names = record { ordinary = []; tags = [] }

-- the file's scope alone
abbrev pub file_scope : PlainScopes
file_scope = record { inner = no_names; outer = []; members = [] }

-- how many scopes are around the innermost one
abbrev pub depth_of : PlainScopes → ℕ
depth_of s = length s.outer

-- the names of one name space
abbrev pub names_in : PlainScope → Space → Names
names_in s Ordinary = s.ordinary
names_in s Tag = s.tags

-- what a name stands for in one scope
abbrev pub found_in : PlainScope → Space → List ℕ → Option PlainEntity
found_in s space name = lookup (same name) (names_in s space)

-- the first of the scopes that has the name
abbrev pub found_among : List PlainScope → Space → List ℕ → Option PlainEntity
found_among [] space name = None
found_among (s ∷ around) space name = option_or (found_in s space name) (found_among around space name)

-- what a name stands for: an inner scope hides those around it (C11 6.2.1)
abbrev pub found : PlainScopes → Space → List ℕ → Option PlainEntity
found s space name = found_among (s.inner ∷ s.outer) space name

-- what a name stands for in the innermost scope alone
abbrev pub found_inner : PlainScopes → Space → List ℕ → Option PlainEntity
found_inner s space name = found_in s.inner space name

-- the scope with a name behind its others
abbrev pub with_name_in : PlainScope → Space → List ℕ → PlainEntity → PlainScope
with_name_in s Ordinary name e = record s { ordinary = s.ordinary ++ (name, e) ∷ [] }
with_name_in s Tag name e = record s { tags = s.tags ++ (name, e) ∷ [] }

-- the scopes with a name in the innermost one
abbrev pub with_name : PlainScopes → Space → List ℕ → PlainEntity → PlainScopes
with_name s space name e = record s { inner = with_name_in s.inner space name e }

-- a scope begins inside the innermost one
abbrev pub entered : PlainScopes → PlainScopes
entered s = record { inner = no_names; outer = s.inner ∷ s.outer; members = s.members }

-- the first of the scopes around becomes the innermost one; the file's scope never ends
abbrev pub left_to : List PlainScope → PlainScopes → PlainScopes
left_to [] s = s
left_to (around ∷ outer) s = record { inner = around; outer = outer; members = s.members }

-- the innermost scope ends, and with it its names (C11 6.2.1)
abbrev pub left : PlainScopes → PlainScopes
left s = left_to s.outer s

-- the names of the members of a struct, in order; none where they aren't named
abbrev pub members_of : PlainScopes → ℕ → Option (List (List ℕ))
members_of s number = lookup (nat_eq number) s.members

-- the place of a member in its struct, which is a name space of its own (C11 6.2.3)
abbrev pub member_of : PlainScopes → ℕ → List ℕ → Option ℕ
member_of s number name = option_and_then (position (same name)) (members_of s number)

-- the scopes where this struct has these members
abbrev pub with_members : PlainScopes → ℕ → List (List ℕ) → PlainScopes
with_members s number names = record s { members = s.members ++ (number, names) ∷ [] }

-- no name is the same as one behind it
abbrev pub all_differ : List (List ℕ) → Bool
all_differ [] = true
all_differ (name ∷ names) = not (list_any (same name) names) && all_differ names
