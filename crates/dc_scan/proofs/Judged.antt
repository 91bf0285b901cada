-- Lines are judged one after another.
use Rattle.std.proofs.Common.{◌≡◌, ℕ, zero, suc, ◌+◌, ◌-◌, ◌≤◌, ◌<◌, arith, Bool, true, false, ◌&&◌, List, [], ◌∷◌, ◌++◌, length, map, take, drop, Option, None, Some, refl, sym, ap, subst, ◌∙◌, append-nil, add-one}
use Rattle.std.specs.Prelude.{if◌then◌else◌, not, ◌||◌, flat_map, reverse, slice_get, nat_lt}
use Rattle.std.specs.List.{list_any}
use Rattle.std.proofs.lemmas.Grind.{flat_map-append}
use Rattle.std.proofs.lemmas.List.{reverse-append}
use Rattle.dc_text.specs.Words.{same}
use Rattle.dc_goto.specs.Program.{Sig}
use Rattle.dc_goto.specs.Lines.{BodyHead, Line, Version, Function, Static, Opening, Instruction, End}
use Rattle.dc_goto.specs.Shape.{code_around, code_front, function_in, name_in, head_in, functions_in, names_in, heads_in, last, first, goes_on, may_follow, may_name, is_size, names_limit, keeps, is_whole, first_broken, first_misshapen}
use Rattle.dc_goto.proofs.Digits.{and_true}
use Rattle.dc_scan.specs.Judging.{may_say_among, keeps_among, IsNewIn, count_behind, head_behind}

-- what stands before a line, and how many instructions the body has with those from this line on
pub record Stands (functions : List Sig) (names : List (List ℕ)) (head : Option BodyHead) (count : ℕ) (line : Option Line) (before lines : List Line) : Type 0 where
  pub functions_are : functions ≡ functions_in before
  pub names_are : names ≡ names_in before
  pub head_is : head ≡ last (heads_in before)
  pub count_is : count ≡ code_around before lines
  pub line_is : line ≡ last before

pub stands_first : (count : ℕ) (lines : List Line) → count ≡ code_front lines → Stands [] [] None count None [] lines
stands_first count lines e =
    record {
      functions_are = refl;
      names_are = refl;
      head_is = refl;
      count_is = let zero_more : code_front lines ≡ 0 + code_front lines = omega arith in e ∙ zero_more;
      line_is = refl;
    }

last_more : {A : Type 0} (xs : List A) (x : A) → last (xs ++ x ∷ []) ≡ Some x
last_more [] x = refl
last_more (y ∷ []) x = refl
last_more (y ∷ z ∷ xs) x = last_more (z ∷ xs) x

one_more : {A : Type 0} (f : Line → List A) (before : List Line) (line : Line) → flat_map f (before ++ line ∷ []) ≡ flat_map f before ++ f line
one_more f before line = flat_map-append f before (line ∷ []) ∙ ap (λ l. flat_map f before ++ l) (append-nil (f line))

last_head : (before : List Line) (line : Line) → last (heads_in (before ++ line ∷ [])) ≡ head_behind (last (heads_in before)) line
last_head before line = ap last (one_more head_in before line) ∙ by_line line
  where
    by_line : (line : Line) → last (heads_in before ++ head_in line) ≡ head_behind (last (heads_in before)) line
    by_line Version = ap last (append-nil (heads_in before))
    by_line (Function sig) = ap last (append-nil (heads_in before))
    by_line (Static v) = ap last (append-nil (heads_in before))
    by_line (Opening head) = last_more (heads_in before) head
    by_line (Instruction i) = ap last (append-nil (heads_in before))
    by_line End = ap last (append-nil (heads_in before))

turned : (before : List Line) (line : Line) → reverse (before ++ line ∷ []) ≡ line ∷ reverse before
turned before line = reverse-append before (line ∷ [])

count_more : (before : List Line) (line : Line) (after : List Line) → count_behind (code_around before (line ∷ after)) line after ≡ code_around (before ++ line ∷ []) after
count_more before line after = by_line line ∙ ap (λ l. code_front l + code_front after) (sym (turned before line))
  where
    by_line : (line : Line) → count_behind (code_around before (line ∷ after)) line after ≡ code_front (line ∷ reverse before) + code_front after
    by_line Version = omega arith
    by_line (Function sig) = omega arith
    by_line (Static v) = omega arith
    by_line (Opening head) = omega arith
    by_line (Instruction i) = omega arith
    by_line End = omega arith

pub stands_more : (functions : List Sig) (names : List (List ℕ)) (head : Option BodyHead) (count : ℕ) (front : Option Line) (before : List Line) (line : Line) (after : List Line) → Stands functions names head count front before (line ∷ after)
    → (functions' : List Sig) (names' : List (List ℕ)) (head' : Option BodyHead) (count' : ℕ) (front' : Option Line) → functions' ≡ functions ++ function_in line → names' ≡ names ++ name_in line → head' ≡ head_behind head line → count' ≡ count_behind count line after → front' ≡ Some line
    → Stands functions' names' head' count' front' (before ++ line ∷ []) after
stands_more functions names head count front before line after s functions' names' head' count' front' f n h c l =
    record {
      functions_are = f ∙ ap (λ l. l ++ function_in line) s.functions_are ∙ sym (one_more function_in before line);
      names_are = n ∙ ap (λ l. l ++ name_in line) s.names_are ∙ sym (one_more name_in before line);
      head_is = h ∙ ap (λ h. head_behind h line) s.head_is ∙ sym (last_head before line);
      count_is = c ∙ ap (λ k. count_behind k line after) s.count_is ∙ count_more before line after;
      line_is = l ∙ sym (last_more before line);
    }

pub keeps_same : (functions : List Sig) (names : List (List ℕ)) (head : Option BodyHead) (count : ℕ) (front : Option Line) (before : List Line) (line : Line) (after : List Line) → Stands functions names head count front before (line ∷ after) → keeps_among functions names head count front line (first after) ≡ keeps before line after
keeps_same functions names head count front before line after s =
    ap (λ f. keeps_among f names head count front line (first after)) s.functions_are
    ∙ ap (λ n. keeps_among (functions_in before) n head count front line (first after)) s.names_are
    ∙ ap (λ h. keeps_among (functions_in before) (names_in before) h count front line (first after)) s.head_is
    ∙ ap (λ k. keeps_among (functions_in before) (names_in before) (last (heads_in before)) k front line (first after)) s.count_is
    ∙ ap (λ l. keeps_among (functions_in before) (names_in before) (last (heads_in before)) (code_around before (line ∷ after)) l line (first after)) s.line_is
    ∙ by_line line
  where
    by_line : (line : Line) → keeps_among (functions_in before) (names_in before) (last (heads_in before)) (code_around before (line ∷ after)) (last before) line (first after) ≡ keeps before line after
    by_line Version = refl
    by_line (Function sig) = refl
    by_line (Static v) = refl
    by_line (Opening head) = refl
    by_line (Instruction i) = refl
    by_line End = refl

-- New names -------------------------------------------------------------------------------------------------------

or_false : (x y : Bool) → (x || y) ≡ false → (x ≡ false) × (y ≡ false)
or_false true y h = cc
or_false false y h = (refl, h)

-- a name that isn't among those of the lines isn't among those of their functions
new_function : (name : List ℕ) (lines : List Line) → list_any (same name) (names_in lines) ≡ false → list_any (same name) (map (λ f. f.name) (functions_in lines)) ≡ false
new_function name [] h = refl
new_function name (Version ∷ lines) h = new_function name lines h
new_function name (Function sig ∷ lines) h =
    let p = or_false (same name sig.name) (list_any (same name) (names_in lines)) h in
    ap (λ t. t || list_any (same name) (map (λ f. f.name) (functions_in lines))) p.0 ∙ new_function name lines p.1
new_function name (Static v ∷ lines) h = new_function name lines (or_false (same name v.name) (list_any (same name) (names_in lines)) h).1
new_function name (Opening head ∷ lines) h = new_function name lines h
new_function name (Instruction i ∷ lines) h = new_function name lines h
new_function name (End ∷ lines) h = new_function name lines h

not_any : (x y : Bool) → (not x && y) ≡ true → x ≡ false
not_any true y h = cc
not_any false y h = refl

pub keeps_new : (functions : List Sig) (names : List (List ℕ)) (head : Option BodyHead) (count : ℕ) (front : Option Line) (before : List Line) (line : Line) (lines : List Line) (next : Option Line) → Stands functions names head count front before lines → keeps_among functions names head count front line next ≡ true → IsNewIn functions names line
keeps_new functions names head count front before line lines next s h =
    by_line line (and_true (may_follow front line) (may_say_among functions names head count line next) h).1
  where
    by_line : (line : Line) → may_say_among functions names head count line next ≡ true → IsNewIn functions names line
    by_line Version h = tt
    by_line (Function sig) h =
        let new : list_any (same sig.name) names ≡ false = not_any (list_any (same sig.name) names) (nat_lt (length names) names_limit) h in
        let there : list_any (same sig.name) (names_in before) ≡ false = ap (list_any (same sig.name)) (sym s.names_are) ∙ new in
        (ap (λ f. list_any (same sig.name) (map (λ f. f.name) f)) s.functions_are ∙ new_function sig.name before there, new)
    by_line (Static v) h = not_any (list_any (same v.name) names) (nat_lt (length names) names_limit) (and_true (may_name names v.name) (is_size v.size) h).0
    by_line (Opening head) h = tt
    by_line (Instruction i) h = tt
    by_line End h = tt

-- The walk --------------------------------------------------------------------------------------------------------

drop_here : (xs : List Line) (i : ℕ) (x : Line) → slice_get xs i ≡ Some x → drop i xs ≡ x ∷ drop (suc i) xs
drop_here [] i x h = cc
drop_here (y ∷ xs) zero x h = let e : y ≡ x = cc in ap (λ y. y ∷ xs) e
drop_here (y ∷ xs) (suc i) x h = drop_here xs i x h

take_here : (xs : List Line) (i : ℕ) (x : Line) → slice_get xs i ≡ Some x → take (suc i) xs ≡ take i xs ++ x ∷ []
take_here [] i x h = cc
take_here (y ∷ xs) zero x h = let e : y ≡ x = cc in ap (λ y. y ∷ []) e
take_here (y ∷ xs) (suc i) x h = ap (λ l. y ∷ l) (take_here xs i x h)

first_drop : (xs : List Line) (i : ℕ) → first (drop i xs) ≡ slice_get xs i
first_drop [] zero = refl
first_drop [] (suc i) = refl
first_drop (x ∷ xs) zero = refl
first_drop (x ∷ xs) (suc i) = first_drop xs i

length_take : (xs : List Line) (i : ℕ) (x : Line) → slice_get xs i ≡ Some x → length (take i xs) ≡ i
length_take [] i x h = cc
length_take (y ∷ xs) zero x h = refl
length_take (y ∷ xs) (suc i) x h = ap (λ n. suc n) (length_take xs i x h)

-- the lines before that place keep the rules
pub record Walked (functions : List Sig) (names : List (List ℕ)) (head : Option BodyHead) (count : ℕ) (front : Option Line) (lines : List Line) (i : ℕ) : Type 0 where
  pub stands : Stands functions names head count front (take i lines) (drop i lines)
  pub same : first_misshapen lines ≡ first_broken (take i lines) (drop i lines)

pub walked_first : (count : ℕ) (lines : List Line) → count ≡ code_front (drop 0 lines) → Walked [] [] None count None lines 0
walked_first count lines e = by_lines lines e
  where
    by_lines : (lines : List Line) → count ≡ code_front (drop 0 lines) → Walked [] [] None count None lines 0
    by_lines [] e = record { stands = stands_first count [] e; same = refl }
    by_lines (x ∷ lines) e = record { stands = stands_first count (x ∷ lines) e; same = refl }

-- where the line at the place is judged
judged : (functions : List Sig) (names : List (List ℕ)) (head : Option BodyHead) (count : ℕ) (front : Option Line) (lines : List Line) (i : ℕ) (line : Line) (t : Bool) → Walked functions names head count front lines i → slice_get lines i ≡ Some line → keeps_among functions names head count front line (slice_get lines (i + 1)) ≡ t
    → first_misshapen lines ≡ (if t then first_broken (take (suc i) lines) (drop (suc i) lines) else Some (suc i))
judged functions names head count front lines i line t w here keep =
    let next : slice_get lines (i + 1) ≡ first (drop (suc i) lines) = ap (slice_get lines) (add-one i) ∙ sym (first_drop lines (suc i)) in
    let k : keeps (take i lines) line (drop (suc i) lines) ≡ t =
    sym (keeps_same functions names head count front (take i lines) line (drop (suc i) lines) (subst (Stands functions names head count front (take i lines)) (drop_here lines i line here) w.stands)) ∙ ap (keeps_among functions names head count front line) (sym next) ∙ keep in
    w.same
    ∙ ap (first_broken (take i lines)) (drop_here lines i line here)
    ∙ ap (λ t. if t then first_broken (take i lines ++ line ∷ []) (drop (suc i) lines) else Some (suc (length (take i lines)))) k
    ∙ ap (λ before. if t then first_broken before (drop (suc i) lines) else Some (suc (length (take i lines)))) (sym (take_here lines i line here))
    ∙ ap (λ n. if t then first_broken (take (suc i) lines) (drop (suc i) lines) else Some (suc n)) (length_take lines i line here)

pub walked_more : (functions : List Sig) (names : List (List ℕ)) (head : Option BodyHead) (count : ℕ) (front : Option Line) (lines : List Line) (i : ℕ) (line : Line) → Walked functions names head count front lines i → slice_get lines i ≡ Some line → keeps_among functions names head count front line (slice_get lines (i + 1)) ≡ true
    → (functions' : List Sig) (names' : List (List ℕ)) (head' : Option BodyHead) (count' : ℕ) (front' : Option Line) → functions' ≡ functions ++ function_in line → names' ≡ names ++ name_in line → head' ≡ head_behind head line → count' ≡ count_behind count line (drop (i + 1) lines) → front' ≡ Some line
    → Walked functions' names' head' count' front' lines (i + 1)
walked_more functions names head count front lines i line w here keep functions' names' head' count' front' f n h c l =
    subst (Walked functions' names' head' count' front' lines) (sym (add-one i))
    (record {
      stands =
          let s = subst (Stands functions names head count front (take i lines)) (drop_here lines i line here) w.stands in
          let k : count' ≡ count_behind count line (drop (suc i) lines) = c ∙ ap (λ n. count_behind count line (drop n lines)) (add-one i) in
          subst (λ before. Stands functions' names' head' count' front' before (drop (suc i) lines)) (sym (take_here lines i line here))
          (stands_more functions names head count front (take i lines) line (drop (suc i) lines) s functions' names' head' count' front' f n h k l);
      same = judged functions names head count front lines i line true w here keep;
    })

pub walked_broken : (functions : List Sig) (names : List (List ℕ)) (head : Option BodyHead) (count : ℕ) (front : Option Line) (lines : List Line) (i : ℕ) (line : Line) → Walked functions names head count front lines i → slice_get lines i ≡ Some line → keeps_among functions names head count front line (slice_get lines (i + 1)) ≡ false → Some (i + 1) ≡ first_misshapen lines
walked_broken functions names head count front lines i line w here keep =
    ap (λ n. Some n) (add-one i) ∙ sym (judged functions names head count front lines i line false w here keep)

take_all : (xs : List Line) → take (length xs) xs ≡ xs
take_all [] = refl
take_all (x ∷ xs) = ap (λ l. x ∷ l) (take_all xs)

drop_all : (xs : List Line) → drop (length xs) xs ≡ []
drop_all [] = refl
drop_all (x ∷ xs) = drop_all xs

pub walked_all : (functions : List Sig) (names : List (List ℕ)) (head : Option BodyHead) (count : ℕ) (front : Option Line) (lines : List Line) (i : ℕ) → Walked functions names head count front lines i → i ≡ length lines → Stands functions names head count front lines (drop i lines) × (first_misshapen lines ≡ (if is_whole lines then None else Some (suc (length lines))))
walked_all functions names head count front lines i w e =
    let all : take i lines ≡ lines = ap (λ n. take n lines) e ∙ take_all lines in (
      subst (λ before. Stands functions names head count front before (drop i lines)) all w.stands,
      w.same ∙ ap (λ l. first_broken l (drop i lines)) all ∙ ap (first_broken lines) (ap (λ n. drop n lines) e ∙ drop_all lines),
    )

-- Instructions from a place on ------------------------------------------------------------------------------------

-- so many of them were passed
pub record Passed (lines : List Line) (from end : ℕ) : Type 0 where
  pub behind : from ≤ end
  pub whole : code_front (drop from lines) ≡ (end - from) + code_front (drop end lines)

pub passed_none : (lines : List Line) (from : ℕ) → Passed lines from from
passed_none lines from = record { behind = omega arith; whole = let none : code_front (drop from lines) ≡ (from - from) + code_front (drop from lines) = omega arith in none }

front_code : (lines : List Line) (end : ℕ) → goes_on (slice_get lines end) ≡ true → code_front (drop end lines) ≡ suc (code_front (drop (suc end) lines))
front_code lines end h = by (slice_get lines end) refl h
  where
    by_line : (line : Line) → slice_get lines end ≡ Some line → goes_on (Some line) ≡ true → code_front (drop end lines) ≡ suc (code_front (drop (suc end) lines))
    by_line Version e h = cc
    by_line (Function sig) e h = cc
    by_line (Static v) e h = cc
    by_line (Opening head) e h = cc
    by_line (Instruction i) e h = ap code_front (drop_here lines end (Instruction i) e)
    by_line End e h = cc

    by : (o : Option Line) → slice_get lines end ≡ o → goes_on o ≡ true → code_front (drop end lines) ≡ suc (code_front (drop (suc end) lines))
    by None e h = cc
    by (Some line) e h = by_line line e h

pub passed_more : (lines : List Line) (from end : ℕ) → Passed lines from end → goes_on (slice_get lines end) ≡ true → Passed lines from (end + 1)
passed_more lines from end p h =
    let e : code_front (drop (end + 1) lines) ≡ code_front (drop (suc end) lines) = ap (λ n. code_front (drop n lines)) (add-one end) in
    let f = front_code lines end h in
    record { behind = omega (arith, p.behind); whole = omega (arith, p.behind, p.whole, e, f) }

no_code : (lines : List Line) → goes_on (first lines) ≡ false → code_front lines ≡ 0
no_code [] h = refl
no_code (Version ∷ lines) h = refl
no_code (Function sig ∷ lines) h = refl
no_code (Static v ∷ lines) h = refl
no_code (Opening head ∷ lines) h = refl
no_code (Instruction i ∷ lines) h = cc
no_code (End ∷ lines) h = refl

pub passed_all : (lines : List Line) (from end : ℕ) → Passed lines from end → goes_on (slice_get lines end) ≡ false → end - from ≡ code_front (drop from lines)
passed_all lines from end p h =
    let none = no_code (drop end lines) (ap goes_on (first_drop lines end) ∙ h) in
    omega (arith, p.behind, p.whole, none)

-- an instruction stands at a place of the lines
pub goes_inside : (lines : List Line) (end : ℕ) → goes_on (slice_get lines end) ≡ true → end < length lines
goes_inside [] end h = cc
goes_inside (x ∷ lines) zero h = omega arith
goes_inside (x ∷ lines) (suc end) h = let less = goes_inside lines end h in omega (arith, less)
