-- Where members begin.
use Rattle.std.proofs.Common.{◌≡◌, ℕ, zero, suc, ◌+◌, ◌<◌, ◌≤◌, Bool, true, false, List, [], ◌∷◌, fold, map, take, length, get_or, Option, Some, None, refl, sym, ap, ◌∙◌, arith}
use Rattle.std.specs.Prelude.{Result, Ok, Err, if◌then◌else◌, nat_lt, slice_get, slice_index}
use Rattle.std.specs.Option.{option_map, option_and_then}
use Rattle.std.specs.Int.{next_multiple_of}
use Rattle.std.proofs.Math.ListN.{get_or-map}
use Rattle.std.proofs.lemmas.Bool.Decides.{nat_tests}
use Rattle.std.proofs.lemmas.List.{length-map, take-map}
use Rattle.std.proofs.lemmas.Option.{slice_get-map, slice_get-get_or}
use Rattle.dc_layout.specs.declared.capped.Capped.{Capped}
use Rattle.dc_layout.specs.declared.ctype.CType.{CType}
use Rattle.dc_layout.specs.declared.fault.Layout.{Layout}
use Rattle.dc_layout.specs.declared.fault.Layout.TheVariants.{TooLarge, Incomplete}
use Rattle.dc_layout.specs.Types.{PlainType, Structs, type_view, members_of, structs_view}
use Rattle.dc_layout.specs.Layout.{Extent, end_of, largest_align, whole, offset_in, extent, extents, members_within, complete_count, laid_members, struct_extent, extent_of, limit, answer, offset_answer}
use Rattle.dc_layout.specs.Kept.{capped, capped_size, to_keep, within_limit}
use Rattle.dc_layout.specs.Members.{member_extents, placed_of, begin_of}
use Rattle.dc_layout.proofs.More.{IsMore, IsMore-same, IsMore-at, IsMore-option_map, extents-more, members_within-more}
use Rattle.dc_layout.proofs.Entries.{members_within-none}

-- members before others end where these begin, or before
end_from : ℕ → List Extent → ℕ
end_from end members = fold (λ end m. next_multiple_of end m.align + m.size) end members

end_from-le : (members : List Extent) (end : ℕ) → end ≤ end_from end members
unfolding end_from
end_from-le [] end = omega arith
end_from-le (m ∷ members) end = let rest : next_multiple_of end m.align + m.size ≤ end_from (next_multiple_of end m.align + m.size) members = end_from-le members (next_multiple_of end m.align + m.size) in omega (arith, rest)

end_from-take : (members : List Extent) (i end : ℕ) → end_from end (take i members) ≤ end_from end members
unfolding end_from
end_from-take [] zero end = omega arith
end_from-take [] (suc i) end = omega arith
end_from-take (m ∷ members) zero end = end_from-le (m ∷ members) end
end_from-take (m ∷ members) (suc i) end = end_from-take members i (next_multiple_of end m.align + m.size)

-- what stands before a member of a small struct is small
before_small : (members : List Extent) (i : ℕ) → (whole members).size ≤ limit → capped_size (end_of (take i members)) ≡ end_of (take i members)
unfolding end_from
before_small members i small = let le : end_of (take i members) ≤ end_of members = end_from-take members i 0 in omega (arith, le, small)

-- the extents of a list's first type and of the others
record IsCons (structs : ℕ → Option Extent) (t : PlainType) (ts : List PlainType) (es : List Extent) : Type 0 where
  x : Extent
  xs : List Extent
  first : extent structs t ≡ Some x
  rest : extents structs ts ≡ Some xs
  is : es ≡ x ∷ xs

extents-cons : (structs : ℕ → Option Extent) (t : PlainType) (ts : List PlainType) (es : List Extent) (o : Option Extent) (rest : Option (List Extent))
    → extent structs t ≡ o → extents structs ts ≡ rest → option_and_then (λ x. option_map (λ xs. x ∷ xs) rest) o ≡ Some es → IsCons structs t ts es
extents-cons structs t ts es None rest is all e = absurd cc
extents-cons structs t ts es (Some x) None is all e = absurd cc
extents-cons structs t ts es (Some x) (Some xs) is all e = record { x = x; xs = xs; first = is; rest = all; is = cc }

-- the extents of the types before one, and its own
record IsAt (structs : ℕ → Option Extent) (ts : List PlainType) (es : List Extent) (i : ℕ) : Type 0 where
  before : extents structs (take i ts) ≡ Some (take i es)
  there : (t : PlainType) → slice_get ts i ≡ Some t → (e : Extent) × ((extent structs t ≡ Some e) × (slice_index (map (λ m. m.align) es) i ≡ e.align))

joined : (x : Extent) (xs : List Extent) (o : Option Extent) (rest : Option (List Extent)) → o ≡ Some x → rest ≡ Some xs → option_and_then (λ x. option_map (λ xs. x ∷ xs) rest) o ≡ Some (x ∷ xs)
joined x xs o rest is all = rw (is, all) refl

extents_at : (structs : ℕ → Option Extent) (ts : List PlainType) (es : List Extent) (i : ℕ) → extents structs ts ≡ Some es → i < length ts → IsAt structs ts es i
extents_at structs [] es i e lt = absurd (omega arith)
extents_at structs (t ∷ ts) es zero e lt =
    let c : IsCons structs t ts es = extents-cons structs t ts es (extent structs t) (extents structs ts) refl refl e in
    record {
      before = refl;
      there = λ u is. (c.x, (let same : t ≡ u = cc in rw (← same) c.first, ap (λ l. slice_index (map (λ m. m.align) l) 0) c.is));
    }
extents_at structs (t ∷ ts) es (suc i) e lt =
    let c : IsCons structs t ts es = extents-cons structs t ts es (extent structs t) (extents structs ts) refl refl e in
    let r : IsAt structs ts c.xs i = extents_at structs ts c.xs i c.rest (omega arith) in
    record {
      before = joined c.x (take i c.xs) _ _ c.first r.before ∙ ap (λ l. Some (take (suc i) l)) (sym c.is);
      there = λ u is. (let at = r.there u is in (at.0, (at.1.0, ap (λ l. slice_index (map (λ m. m.align) l) (suc i)) c.is ∙ at.1.1)));
    }

-- the members of a struct have the extents that it is laid with
laid_members-extents : (n : ℕ) (structs : Structs) (s : ℕ) (ts : List PlainType) → members_of structs s ≡ Some ts → IsMore (members_within n structs s) (extents (λ r. option_map whole (members_within n structs r)) ts)
laid_members-extents zero structs s ts known = tt
laid_members-extents (suc n) structs s ts known =
    let f : ℕ → Option Extent = λ r. option_map whole (members_within n structs r) in
    let g : ℕ → Option Extent = λ r. option_map whole (members_within (suc n) structs r) in
    let each : (r : ℕ) → IsMore (f r) (g r) = λ r. IsMore-option_map whole (members_within n structs r) (members_within (suc n) structs r) (members_within-more n (suc n) structs structs (omega arith) (λ q. IsMore-same (members_of structs q)) r) in
    rw known (extents-more f g each ts)

-- an extent within the limit is answered as it is
within_small : (k : Capped) (e : Extent) → Ok k ≡ within_limit (Some (capped e)) → e.size ≤ limit
within_small k e ok = by (nat_lt limit (capped_size e.size)) refl ok
  where
    by : (large : Bool) → nat_lt limit (capped_size e.size) ≡ large → ◌≡◌ {A = Result Capped Layout} (Ok k) (if large then Err TooLarge else Ok (capped e)) → e.size ≤ limit
    by true is ok = cc
    by false is ok = let le : capped_size e.size ≤ limit = grind (arith, nat_tests) in omega (arith, le)

answer_small : (size value : ℕ) → size ≤ limit → ◌≡◌ {A = Result ℕ Layout} (if nat_lt limit size then Err TooLarge else Ok value) (Ok value)
answer_small size value small = let no : nat_lt limit size ≡ false = grind (arith, nat_tests) in rw no refl

abbrev placed : List Extent → Extent
placed es = record { size = end_of es; align = largest_align es }

begun : (structs : Structs) (p : Option Capped) (before : Capped) (o : Option CType) (t : CType) (e : Extent) → p ≡ Some before → o ≡ Some t → extent_of structs (type_view t) ≡ Some e
    → option_and_then (λ before. option_and_then (λ t. option_map (λ m. next_multiple_of before.size m.align) (extent_of structs (type_view t))) o) p ≡ Some (next_multiple_of before.size e.align)
begun structs p before o t e placed there is = rw (placed, there, is) refl

begins : (structs : Structs) (members : List CType) (es : List Extent) (i : ℕ) → member_extents structs members ≡ Some es → i < length members → (whole es).size ≤ limit → begin_of structs members i ≡ Some (offset_in es i)
begins structs members es i all lt small =
    let at : IsAt (struct_extent structs) (map type_view members) es i = extents_at (struct_extent structs) (map type_view members) es i all (rw length-map lt) in
    let t : CType = get_or members i (Rattle.dc_layout.specs.declared.ctype.CType.TheVariants.Void) in
    let here : slice_get members i ≡ Some t = slice_get-get_or members i _ lt in
    let this = at.there (type_view t) (slice_get-map type_view members i ∙ ap (option_map type_view) here) in
    let before : placed_of structs (take i members) ≡ Some (capped (placed (take i es))) = ap (option_map (λ es. capped (placed es))) (ap (extents (struct_extent structs)) (sym (take-map type_view i members)) ∙ at.before) in
    begun structs _ (capped (placed (take i es))) _ t this.0 before here this.1.0
    ∙ ap Some (ap (λ n. next_multiple_of n this.0.align) (before_small es i small) ∙ ap (next_multiple_of (end_of (take i es))) (sym this.1.1))

-- the answer of what is found
pub told : Option ℕ → Result ℕ Layout
told None = Err Incomplete
told (Some offset) = Ok offset

pub told-none : (o : Option ℕ) → None ≡ o → Err Incomplete ≡ told o
unfolding told
told-none o e = ap told e

pub told-some : (o : Option ℕ) (offset : ℕ) → Some offset ≡ o → Ok offset ≡ told o
unfolding told
told-some o offset e = ap told e

offset_begins : (structs : List (Option (List CType))) (s i : ℕ) (k : Capped) (members : List CType) (o : Option (List Extent)) → laid_members (structs_view structs) s ≡ o
    → Ok k ≡ within_limit (option_map (λ es. capped (whole es)) o) → members_of structs s ≡ Some members → i < length members
    → told (begin_of (structs_view structs) members i) ≡ answer (λ es. (whole es).size) (λ es. offset_in es i) o
unfolding told
offset_begins structs s i k members None laid ok known lt = absurd cc
offset_begins structs s i k members (Some es) laid ok known lt =
    let small : (whole es).size ≤ limit = within_small k (whole es) ok in
    let all : member_extents (structs_view structs) members ≡ Some es =
    IsMore-at _ _ es (laid_members-extents (complete_count (structs_view structs)) (structs_view structs) s (map type_view members) (get_or-map (option_map (map type_view)) structs s None ∙ ap (option_map (map type_view)) known)) laid in
    ap told (begins (structs_view structs) members es i all lt small) ∙ sym (answer_small (whole es).size (offset_in es i) small)

pub offset_answer-members : (structs : List (Option (List CType))) (s i : ℕ) (k : Capped) (members : List CType) → Ok k ≡ within_limit (to_keep structs s) → members_of structs s ≡ Some members → i < length members
    → told (begin_of (structs_view structs) members i) ≡ offset_answer (structs_view structs) s i
unfolding offset_answer
offset_answer-members structs s i k members ok known lt = offset_begins structs s i k members (laid_members (structs_view structs) s) refl ok known lt

pub offset_answer-none : (structs : List (Option (List CType))) (s i : ℕ) → members_of structs s ≡ None → Err Incomplete ≡ offset_answer (structs_view structs) s i
unfolding offset_answer
offset_answer-none structs s i none =
    sym (ap (answer (λ es. (whole es).size) (λ es. offset_in es i)) (members_within-none _ (structs_view structs) s (get_or-map (option_map (map type_view)) structs s None ∙ ap (option_map (map type_view)) none)))
