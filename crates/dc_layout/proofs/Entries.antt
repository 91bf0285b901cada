-- What is kept stays right where a struct is added, and where one gets its members.
use Rattle.std.proofs.Common.{◌≡◌, ◌≢◌, ℕ, zero, suc, ◌+◌, ◌<◌, cond, List, [], ◌∷◌, ◌++◌, map, length, get_or, set, Option, Some, None, IfSome, refl, sym, ap, subst, inl, inr, ◌∙◌, arith, get_or-set_same, get_or-set_other}
use Rattle.std.specs.Prelude.{is_some}
use Rattle.std.specs.Option.{option_map, option_and_then}
use Rattle.std.proofs.Math.ListN.{get_or-map}
use Rattle.std.proofs.lemmas.List.{length-map, map_push, map-set}
use Rattle.std.proofs.lemmas.List.Sums.{sum_by_push, sum_by-set}
use Rattle.std.proofs.lemmas.Bool.Decides.{eqb_tells}
use Rattle.dc_layout.specs.declared.capped.Capped.{Capped}
use Rattle.dc_layout.specs.declared.ctype.CType.{CType}
use Rattle.dc_layout.specs.declared.table.Complete.{Complete}
use Rattle.dc_layout.specs.Types.{PlainType, Structs, type_view, members_of, structs_view}
use Rattle.dc_layout.specs.Layout.{Extent, whole, extents, members_within, complete_count, laid_members, struct_extent}
use Rattle.dc_layout.specs.Kept.{capped, all_members, kept, to_keep, IsSmall, IsKept}
use Rattle.dc_layout.specs.Members.{whole_of}
use Rattle.dc_layout.proofs.More.{IsMore, IsMore-same, IsMore-both, IsMore-at, IsMore-option_map, extents-more, Extends, members_within-more}

-- a struct without members behind all others

members_of-push : {A : Type 0} (structs : List (Option A)) (s : ℕ) → members_of (structs ++ None ∷ []) s ≡ members_of structs s
members_of-push [] zero = refl
members_of-push [] (suc s) = refl
members_of-push (x ∷ structs) zero = refl
members_of-push (x ∷ structs) (suc s) = members_of-push structs s

complete_count-push : {A : Type 0} (structs : List (Option A)) → complete_count (structs ++ None ∷ []) ≡ complete_count structs
complete_count-push structs = let e : complete_count (structs ++ None ∷ []) ≡ complete_count structs + 0 = sum_by_push (λ s. cond (is_some s) 1 0) structs None in omega (arith, e)

laid_members-push : (structs : Structs) (s : ℕ) → laid_members (structs ++ None ∷ []) s ≡ laid_members structs s
laid_members-push structs s =
    let forth : Extends structs (structs ++ None ∷ []) = λ r. subst (λ o. IsMore (members_of structs r) o) (sym (members_of-push structs r)) (IsMore-same (members_of structs r)) in
    let back : Extends (structs ++ None ∷ []) structs = λ r. subst (λ o. IsMore (members_of (structs ++ None ∷ []) r) o) (members_of-push structs r) (IsMore-same (members_of (structs ++ None ∷ []) r)) in
    let n : ℕ = complete_count structs in
    rw (complete_count-push structs) (IsMore-both _ _ (members_within-more n n (structs ++ None ∷ []) structs (omega arith) back s) (members_within-more n n structs (structs ++ None ∷ []) (omega arith) forth s))

to_keep-push : (structs : List (Option (List CType))) (s : ℕ) → to_keep (structs ++ None ∷ []) s ≡ to_keep structs s
to_keep-push structs s =
    ap (λ all. option_map (λ members. capped (whole members)) (laid_members all s)) (map_push (option_map (map type_view)) structs None)
    ∙ ap (option_map (λ members. capped (whole members))) (laid_members-push (structs_view structs) s)

pub IsKept-push : (entries : List (Option Complete)) → IsKept entries → IsKept (entries ++ None ∷ [])
IsKept-push entries is = record {
  exact = λ s. ap (option_map (λ c. c.whole)) (members_of-push entries s) ∙ is.exact s ∙ sym (to_keep-push (all_members entries) s) ∙ sym (ap (λ all. to_keep all s) (map_push (option_map (λ c. c.members)) entries None));
  small = λ s. rw (members_of-push entries s) (is.small s);
}

-- a struct without members that gets some

complete_count-set : {A : Type 0} (structs : List (Option A)) (s : ℕ) (x : A) → s < length structs → members_of structs s ≡ None → complete_count (set structs s (Some x)) ≡ suc (complete_count structs)
complete_count-set {A} structs s x lt without =
    let f : Option A → ℕ = λ o. cond (is_some o) 1 0 in
    let none : f (get_or structs s None) ≡ 0 = ap f without in
    let e : complete_count (set structs s (Some x)) + f (get_or structs s None) ≡ complete_count structs + 1 = sum_by-set f structs s (Some x) None lt in
    omega (arith, e, none)

Extends-set : (structs : Structs) (s : ℕ) (x : Option (List PlainType)) → members_of structs s ≡ None → Extends structs (set structs s x)
Extends-set structs s x without r =
    elim (eqb_tells r s) [
      | inl p ↦ subst (λ o. IsMore o (members_of (set structs s x) r)) (sym (ap (members_of structs) p.1 ∙ without)) tt
      | inr p ↦ subst (λ o. IsMore (members_of structs r) o) (sym (get_or-set_other structs s r x None p.1)) (IsMore-same (members_of structs r))
    ]

laid_members-more : (structs : Structs) (s : ℕ) (x : List PlainType) → s < length structs → members_of structs s ≡ None → (r : ℕ) → IsMore (laid_members structs r) (laid_members (set structs s (Some x)) r)
laid_members-more structs s x lt without r =
    rw (complete_count-set structs s x lt without) (members_within-more (complete_count structs) (suc (complete_count structs)) structs (set structs s (Some x)) (omega arith) (Extends-set structs s (Some x) without) r)

pub members_within-none : (n : ℕ) (structs : Structs) (s : ℕ) → members_of structs s ≡ None → members_within n structs s ≡ None
members_within-none zero structs s without = refl
members_within-none (suc n) structs s without = ap (option_and_then (λ ts. extents (λ r. option_map whole (members_within n structs r)) ts)) without

members_within-some : (n : ℕ) (structs : Structs) (s : ℕ) (ts : List PlainType) → members_of structs s ≡ Some ts → members_within (suc n) structs s ≡ extents (λ r. option_map whole (members_within n structs r)) ts
members_within-some n structs s ts known = ap (option_and_then (λ ts. extents (λ r. option_map whole (members_within n structs r)) ts)) known

-- the members of the struct that gets them are laid as they were before
laid_members-set : (structs : Structs) (s : ℕ) (ts : List PlainType) → s < length structs → members_of structs s ≡ None → IsMore (extents (struct_extent structs) ts) (laid_members (set structs s (Some ts)) s)
laid_members-set structs s ts lt without =
    let n : ℕ = complete_count structs in
    let new : Structs = set structs s (Some ts) in
    let each : (r : ℕ) → IsMore (struct_extent structs r) (option_map whole (members_within n new r)) =
    λ r. IsMore-option_map whole (laid_members structs r) (members_within n new r) (members_within-more n n structs new (omega arith) (Extends-set structs s (Some ts) without) r) in
    rw (complete_count-set structs s ts lt without, members_within-some n new s ts (get_or-set_same structs s (Some ts) None lt)) (extents-more (struct_extent structs) (λ r. option_map whole (members_within n new r)) each ts)

members_of-view : (entries : List (Option Complete)) (s : ℕ) → members_of (structs_view (all_members entries)) s ≡ option_map (map type_view) (option_map (λ c. c.members) (members_of entries s))
members_of-view entries s =
    get_or-map (option_map (map type_view)) (all_members entries) s None
    ∙ ap (option_map (map type_view)) (get_or-map (option_map (λ c. c.members)) entries s None)

view-set : (entries : List (Option Complete)) (s : ℕ) (c : Complete) → structs_view (all_members (set entries s (Some c))) ≡ set (structs_view (all_members entries)) s (Some (map type_view c.members))
view-set entries s c = ap structs_view (map-set (option_map (λ c. c.members)) entries s (Some c)) ∙ map-set (option_map (map type_view)) (all_members entries) s (Some c.members)

stays : (m : Option Complete) (a b : Option (List Extent)) → option_map (λ c. c.whole) m ≡ option_map (λ es. capped (whole es)) a → IsMore a b → (m ≡ None → b ≡ None) → option_map (λ c. c.whole) m ≡ option_map (λ es. capped (whole es)) b
stays None a b e more none = sym (ap (option_map (λ es. capped (whole es))) (none refl))
stays (Some c) None b e more none = cc
stays (Some c) (Some es) b e more none = e ∙ sym (ap (option_map (λ es. capped (whole es))) more)

abbrev pub entries_with : List (Option Complete) → ℕ → List CType → Capped → List (Option Complete)
entries_with entries s members size = set entries s (Some (record { members = members; whole = size }))

-- a struct that has no members in what is seen of the entries has no entry
without_entry : (m : Option Complete) → option_map (λ c. c.members) m ≡ None → m ≡ None
without_entry None e = refl
without_entry (Some c) e = cc

exact-set : (entries : List (Option Complete)) (s : ℕ) (members : List CType) (size : Capped) → IsKept entries → s < length entries → members_of entries s ≡ None
    → Some size ≡ whole_of (structs_view (all_members entries)) members
    → (r : ℕ) → kept (entries_with entries s members size) r ≡ option_map (λ es. capped (whole es)) (laid_members (set (structs_view (all_members entries)) s (Some (map type_view members))) r)
exact-set entries s members size is lt without value r =
    elim (eqb_tells r s) [ inl p ↦ rw p.1 here | inr p ↦ there p.1 ]
  where
    old : Structs
    old = structs_view (all_members entries)

    new : Structs
    new = set old s (Some (map type_view members))

    lt-view : s < length old
    lt-view = rw (length-map, length-map) lt

    without-view : members_of old s ≡ None
    without-view = members_of-view entries s ∙ ap (λ m. option_map (map type_view) (option_map (λ c. c.members) m)) without

    here : kept (entries_with entries s members size) s ≡ option_map (λ es. capped (whole es)) (laid_members new s)
    here =
        ap (option_map (λ c. c.whole)) (get_or-set_same entries s (Some (record { members = members; whole = size })) None lt)
        ∙ sym (IsMore-at _ _ size (IsMore-option_map (λ es. capped (whole es)) _ _ (laid_members-set old s (map type_view members) lt-view without-view)) (sym value))

    there : r ≢ s → kept (entries_with entries s members size) r ≡ option_map (λ es. capped (whole es)) (laid_members new r)
    there other = rw (get_or-set_other entries s r (Some (record { members = members; whole = size })) None other)
        (stays (members_of entries r) (laid_members old r) (laid_members new r) (is.exact r) (laid_members-more old s (map type_view members) lt-view without-view r)
        (λ none. members_within-none _ new r (get_or-set_other old s r (Some (map type_view members)) None other ∙ members_of-view entries r ∙ ap (λ m. option_map (map type_view) (option_map (λ c. c.members) m)) none)))

small-set : (entries : List (Option Complete)) (s : ℕ) (members : List CType) (size : Capped) → IsKept entries → s < length entries → IsSmall size → (r : ℕ) → IfSome (kept (entries_with entries s members size) r) IsSmall
small-set entries s members size is lt small r =
    elim (eqb_tells r s) [
      | inl p ↦ rw (p.1, get_or-set_same entries s (Some (record { members = members; whole = size })) None lt) small
      | inr p ↦ rw (get_or-set_other entries s r (Some (record { members = members; whole = size })) None p.1) (is.small r)
    ]

pub IsKept-set : (entries : List (Option Complete)) (structs : List (Option (List CType))) (s : ℕ) (members : List CType) (size : Capped) → all_members entries ≡ structs → IsKept entries
    → s < length structs → members_of structs s ≡ None → Some size ≡ whole_of (structs_view structs) members → IsSmall size → IsKept (entries_with entries s members size)
IsKept-set entries structs s members size seen is lt without value small =
    let lt-entries : s < length entries = rw (← seen, length-map) at lt in
    let without-entries : members_of entries s ≡ None = without_entry (members_of entries s) (sym (get_or-map (option_map (λ c. c.members)) entries s None) ∙ ap (λ all. members_of all s) seen ∙ without) in
    let value-entries : Some size ≡ whole_of (structs_view (all_members entries)) members = rw seen value in
    record {
      exact = λ r. exact-set entries s members size is lt-entries without-entries value-entries r ∙ sym (ap (λ all. option_map (λ es. capped (whole es)) (laid_members all r)) (view-set entries s (record { members = members; whole = size })));
      small = small-set entries s members size is lt-entries small;
    }

-- what is seen of the entries behind the change
pub all_members-set : (entries : List (Option Complete)) (structs : List (Option (List CType))) (s : ℕ) (members : List CType) (size : Capped) → all_members entries ≡ structs
    → all_members (entries_with entries s members size) ≡ set structs s (Some members)
all_members-set entries structs s members size seen = map-set (option_map (λ c. c.members)) entries s (Some (record { members = members; whole = size })) ∙ ap (λ all. set all s (Some members)) seen
