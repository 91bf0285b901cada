-- That plain scopes can stand in models: each is seen in a value of the code, which has a code. No clause reads this.
use Rattle.std.proofs.Common.{◌≡◌, ℕ, List, [], ◌∷◌, map, refl, sym, ap, ◌∙◌}
use Rattle.std.specs.Coded.{Coded, coded_ℕ, coded_list, coded×, code_by}
use Rattle.dc_layout.specs.declared.ctype.CType as code
use Rattle.dc_layout.specs.declared.ctype.CType.TheFolds.{fold-roll-CType}
use Rattle.dc_layout.specs.declared.ctype.CType.TheOpen.{CType-F}
use Rattle.dc_layout.specs.declared.ctype.CType.TheViews.{rolls-Void, rolls-Num, rolls-Pointer, rolls-Array, rolls-Struct, rolls-Func, rolls-Const}
use Rattle.dc_layout.specs.declared.kind.LayKind.{LayKind}
use Rattle.dc_layout.specs.Types.{PlainType, PlainTypes, Void, Num, Pointer, Array, Struct, Func, Const, NoTypes, Types, type_view, type_step, types}
use Rattle.dc_scope.specs.declared.entity.Entity as entity
use Rattle.dc_scope.specs.contracts.entity.Entity as row
use Rattle.dc_scope.specs.Entities.{PlainEntity, Function, Static, Local, Typedef, Constant, Quantified, StructTag, EnumTag, entity_view}
use Rattle.dc_scope.specs.Scopes.{Names, PlainScope, PlainScopes}

-- a type of the code that is seen as this one
abbrev mutual
  coded_type : PlainType → code.CType
  coded_type Void = code.TheVariants.Void
  coded_type (Num k) = code.TheVariants.Num k
  coded_type (Pointer t) = code.TheVariants.Pointer (coded_type t)
  coded_type (Array t n) = code.TheVariants.Array (coded_type t) n
  coded_type (Struct s) = code.TheVariants.Struct s
  coded_type (Func t ps) = code.TheVariants.Func (coded_type t) (coded_types ps)
  coded_type (Const t) = code.TheVariants.Const (coded_type t)

  coded_types : PlainTypes → List code.CType
  coded_types NoTypes = []
  coded_types (Types p ps) = coded_type p ∷ coded_types ps

-- how each variant of the code's types is seen
view-Void : type_view code.TheVariants.Void ≡ Void
view-Void = ap type_view (sym rolls-Void) ∙ fold-roll-CType PlainType type_step CType-F.Void

view-Num : (k : LayKind) → type_view (code.TheVariants.Num k) ≡ Num k
view-Num k = ap type_view (sym (rolls-Num k)) ∙ fold-roll-CType PlainType type_step (CType-F.Num k)

view-Struct : (s : ℕ) → type_view (code.TheVariants.Struct s) ≡ Struct s
view-Struct s = ap type_view (sym (rolls-Struct s)) ∙ fold-roll-CType PlainType type_step (CType-F.Struct s)

view-Pointer : (t : code.CType) → type_view (code.TheVariants.Pointer t) ≡ Pointer (type_view t)
view-Pointer t = ap type_view (sym (rolls-Pointer t)) ∙ fold-roll-CType PlainType type_step (CType-F.Pointer t)

view-Array : (t : code.CType) (n : ℕ) → type_view (code.TheVariants.Array t n) ≡ Array (type_view t) n
view-Array t n = ap type_view (sym (rolls-Array t n)) ∙ fold-roll-CType PlainType type_step (CType-F.Array t n)

view-Func : (t : code.CType) (ps : List code.CType) → type_view (code.TheVariants.Func t ps) ≡ Func (type_view t) (types (map type_view ps))
view-Func t ps = ap type_view (sym (rolls-Func t ps)) ∙ fold-roll-CType PlainType type_step (CType-F.Func t ps)

view-Const : (t : code.CType) → type_view (code.TheVariants.Const t) ≡ Const (type_view t)
view-Const t = ap type_view (sym (rolls-Const t)) ∙ fold-roll-CType PlainType type_step (CType-F.Const t)

mutual
  type_view-back : (t : PlainType) → type_view (coded_type t) ≡ t
  type_view-back Void = view-Void
  type_view-back (Num k) = view-Num k
  type_view-back (Pointer t) = view-Pointer (coded_type t) ∙ ap Pointer (type_view-back t)
  type_view-back (Array t n) = view-Array (coded_type t) n ∙ ap (λ u. Array u n) (type_view-back t)
  type_view-back (Struct s) = view-Struct s
  type_view-back (Func t ps) =
      view-Func (coded_type t) (coded_types ps) ∙ ap (λ u. Func u (types (map type_view (coded_types ps)))) (type_view-back t) ∙ ap (Func t) (types-back ps)
  type_view-back (Const t) = view-Const (coded_type t) ∙ ap Const (type_view-back t)

  types-back : (ps : PlainTypes) → types (map type_view (coded_types ps)) ≡ ps
  types-back NoTypes = refl
  types-back (Types p ps) = ap (λ q. Types q (types (map type_view (coded_types ps)))) (type_view-back p) ∙ ap (Types p) (types-back ps)

-- an entity of the code that is seen as this one
abbrev coded_entity : PlainEntity → entity.Entity
coded_entity (Function n t) = entity.TheVariants.Function n (coded_type t)
coded_entity (Static n t) = entity.TheVariants.Static n (coded_type t)
coded_entity (Local n t) = entity.TheVariants.Local n (coded_type t)
coded_entity (Typedef t) = entity.TheVariants.Typedef (coded_type t)
coded_entity (Constant k v) = entity.TheVariants.Constant k v
coded_entity (Quantified d k) = entity.TheVariants.Quantified d k
coded_entity (StructTag s) = entity.TheVariants.StructTag s
coded_entity EnumTag = entity.TheVariants.EnumTag

entity_view-back : (e : PlainEntity) → entity_view (coded_entity e) ≡ e
entity_view-back (Function n t) = ap (Function n) (type_view-back t)
entity_view-back (Static n t) = ap (Static n) (type_view-back t)
entity_view-back (Local n t) = ap (Local n) (type_view-back t)
entity_view-back (Typedef t) = ap Typedef (type_view-back t)
entity_view-back (Constant k v) = refl
entity_view-back (Quantified d k) = refl
entity_view-back (StructTag s) = refl
entity_view-back EnumTag = refl

pub code_entity : Coded PlainEntity
code_entity = code_by entity.Entity row.the_row.coded coded_entity entity_view entity_view-back

pub code_scope : Coded PlainScope
code_scope = code_by (Names × Names) (coded× names names) (λ s. (s.ordinary, s.tags)) (λ p. record { ordinary = p.0; tags = p.1 }) (λ _. refl)
  where
    names : Coded Names
    names = coded_list (coded× (coded_list coded_ℕ) code_entity)

pub code_scopes : Coded PlainScopes
code_scopes =
    code_by (PlainScope × (List PlainScope × List (ℕ × List (List ℕ)))) (coded× code_scope (coded× (coded_list code_scope) (coded_list (coded× coded_ℕ (coded_list (coded_list coded_ℕ))))))
    (λ s. (s.inner, (s.outer, s.members))) (λ p. record { inner = p.0; outer = p.1.0; members = p.1.1 }) (λ _. refl)
