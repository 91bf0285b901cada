-- What names stand for (C11 6.2.1), as plain data, and which of it a value of the code is.
use Rattle.std.specs.Prelude.{ℕ, ℤ}
use Rattle.dc_layout.specs.Types.{PlainType, type_view}
use Rattle.dc_num.specs.declared.kind.NumKind.{NumKind}
use Rattle.dc_scope.specs.declared.entity.Entity as code

-- functions, variables and structs have numbers, and a quantifier's variable the number of quantifiers around its own
pub data PlainEntity : Type 0 where
  Function : ℕ → PlainType → PlainEntity
  Static : ℕ → PlainType → PlainEntity
  Local : ℕ → PlainType → PlainEntity
  Typedef : PlainType → PlainEntity
  Constant : NumKind → ℤ → PlainEntity
  Quantified : ℕ → NumKind → PlainEntity
  StructTag : ℕ → PlainEntity
  EnumTag : PlainEntity

-- what an entity of the code is seen as
abbrev pub entity_view : code.Entity → PlainEntity
entity_view (code.TheVariants.Function n t) = Function n (type_view t)
entity_view (code.TheVariants.Static n t) = Static n (type_view t)
entity_view (code.TheVariants.Local n t) = Local n (type_view t)
entity_view (code.TheVariants.Typedef t) = Typedef (type_view t)
entity_view (code.TheVariants.Constant k v) = Constant k v
entity_view (code.TheVariants.Quantified d k) = Quantified d k
entity_view (code.TheVariants.StructTag s) = StructTag s
entity_view code.TheVariants.EnumTag = EnumTag
