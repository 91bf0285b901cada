-- Names by their numbers.
use Rattle.std.proofs.Common.{◌≡◌, ℕ, zero, suc, ◌+◌, ◌<◌, Bool, true, false, ◌&&◌, List, [], ◌∷◌, ◌++◌, length, Option, None, Some, refl, sym, ap, subst, ◌∙◌, arith, append_assoc, append-nil, cond}
use Rattle.std.specs.Prelude.{not, nat_lt, slice_get, ◌||◌}
use Rattle.std.specs.List.{list_any, position, position_or_len}
use Rattle.std.proofs.lemmas.Bool.Decides.{nat_tests}
use Rattle.std.specs.Cmp.Lexicographic.{bytes_decides}
use Rattle.dc_form.specs.Form.{is_name, is_new, AreNew, name_at}
use Rattle.dc_text.specs.Words.{same}

pub equal_bytes : (xs ys : List ℕ) → same xs ys ≡ true → xs ≡ ys
equal_bytes xs ys h = (bytes_decides xs ys).0 h

pub same_self : (xs : List ℕ) → same xs xs ≡ true
same_self xs = (bytes_decides xs xs).1 refl

pub and_true : (x y : Bool) → (x && y) ≡ true → (x ≡ true) × (y ≡ true)
and_true true y h = (refl, h)
and_true false y h = cc

not_true : (x : Bool) → not x ≡ true → x ≡ false
not_true true h = cc
not_true false h = refl

abbrev step : Bool → Option ℕ → Option ℕ
step true o = Some zero
step false None = None
step false (Some k) = Some (suc k)

abbrev place : Bool → ℕ → ℕ
place t k = cond (not t) (1 + k) 0

-- the position by recursion
position_cons : (word name : List ℕ) (names : List (List ℕ)) → position (same word) (name ∷ names) ≡ step (same word name) (position (same word) names)
position_cons word name names = by_test (same word name) (position_or_len (same word) names) (length names)
  where
    behind : (k n : ℕ) (t : Bool) → nat_lt k n ≡ t → cond (nat_lt (1 + k) (suc n)) (Some (1 + k)) None ≡ step false (cond t (Some k) None)
    behind k n true e =
        let a : nat_lt (1 + k) (suc n) ≡ true = grind (arith, nat_tests) in
        let b : 1 + k ≡ suc k = omega arith in
        ap (λ t. cond t (Some (1 + k)) None) a ∙ ap (λ k. Some k) b
    behind k n false e =
        let a : nat_lt (1 + k) (suc n) ≡ false = grind (arith, nat_tests) in
        ap (λ t. cond t (Some (1 + k)) None) a

    here : (n : ℕ) → cond (nat_lt 0 (suc n)) (Some 0) None ≡ Some zero
    here n =
        let a : nat_lt 0 (suc n) ≡ true = grind (arith, nat_tests) in
        ap (λ t. cond t (Some 0) None) a

    by_test : (t : Bool) (k n : ℕ) → cond (nat_lt (place t k) (suc n)) (Some (place t k)) None ≡ step t (cond (nat_lt k n) (Some k) None)
    by_test true k n = here n
    by_test false k n = behind k n (nat_lt k n) refl

-- a name that is found stands there
pub found_there : (word : List ℕ) (names : List (List ℕ)) (k : ℕ) → position (same word) names ≡ Some k → (k < length names) × (slice_get names k ≡ Some word)
found_there word [] k h = let e : None ≡ Some k = h in cc
found_there word (name ∷ names) k h = by_test (λ k h. found_there word names k h) (same word name) refl (position (same word) names) refl k (sym (position_cons word name names) ∙ h)
  where
    by_test : ((k : ℕ) → position (same word) names ≡ Some k → (k < length names) × (slice_get names k ≡ Some word)) → (t : Bool) → same word name ≡ t → (o : Option ℕ) → position (same word) names ≡ o → (k : ℕ) → step t o ≡ Some k → (k < suc (length names)) × (slice_get (name ∷ names) k ≡ Some word)
    by_test again true e o f zero h = (omega arith, ap (λ x. Some x) (sym (equal_bytes word name e)))
    by_test again true e o f (suc k) h = cc
    by_test again false e None f k h = cc
    by_test again false e (Some j) f zero h = cc
    by_test again false e (Some j) f (suc k) h =
        let p : j ≡ k = cc in
        let r = again k (f ∙ ap (λ j. Some j) p) in
        let lt = r.0 in (omega arith, r.1)

pub or_false : (x y : Bool) → (x || y) ≡ false → (x ≡ false) × (y ≡ false)
or_false true y h = cc
or_false false y h = (refl, h)

pub any_append : (p : List ℕ → Bool) (xs ys : List (List ℕ)) → list_any p (xs ++ ys) ≡ false → (list_any p xs ≡ false) × (list_any p ys ≡ false)
any_append p [] ys h = (refl, h)
any_append p (x ∷ xs) ys h =
    let t = or_false (p x) (list_any p (xs ++ ys)) h in
    let r = any_append p xs ys t.1 in
    (rw t.0 r.0, r.1)

some_same : (x y : List ℕ) → Some x ≡ Some y → x ≡ y
some_same x y h = cc

pub new_parts : (names : List (List ℕ)) (name : List ℕ) → is_new names name ≡ true → (is_name name ≡ true) × (list_any (same name) names ≡ false)
new_parts names name h = let t = and_true (is_name name) (not (list_any (same name) names)) h in (t.0, not_true (list_any (same name) names) t.1)

-- a new name isn't among those before it
new_apart : (more names : List (List ℕ)) (k : ℕ) (word : List ℕ) → AreNew names more → slice_get more k ≡ Some word → (list_any (same word) names ≡ false) × (is_name word ≡ true)
new_apart [] names k word h e = cc
new_apart (x ∷ more) names zero word h e =
    let t = new_parts names x h.0 in
    let p : x ≡ word = some_same x word e in
    (sym (ap (λ w. list_any (same w) names) p) ∙ t.1, sym (ap is_name p) ∙ t.0)
new_apart (x ∷ more) names (suc k) word h e =
    let r = new_apart more (names ++ x ∷ []) k word h.1 e in
    ((any_append (same word) names (x ∷ []) r.0).0, r.1)

-- and it is found where it stands
pub found_at : (more names : List (List ℕ)) (k : ℕ) (word : List ℕ) → AreNew names more → slice_get more k ≡ Some word → position (same word) more ≡ Some k
found_at [] names k word h e = cc
found_at (x ∷ more) names zero word h e =
    let p : x ≡ word = some_same x word e in
    position_cons word x more ∙ ap (λ t. step t (position (same word) more)) (ap (same word) p ∙ same_self word)
found_at (x ∷ more) names (suc k) word h e =
    let r = new_apart more (names ++ x ∷ []) k word h.1 e in
    let other = or_false (same word x) false (any_append (same word) names (x ∷ []) r.0).1 in
    position_cons word x more ∙ ap (λ t. step t (position (same word) more)) other.0 ∙ ap (step false) (found_at more (names ++ x ∷ []) k word h.1 e)

-- what is no name isn't found
pub not_found : (more names : List (List ℕ)) (word : List ℕ) → AreNew names more → is_name word ≡ false → position (same word) more ≡ None
not_found more names word h f = by_place (position (same word) more) refl
  where
    by_place : (o : Option ℕ) → position (same word) more ≡ o → position (same word) more ≡ None
    by_place None e = e
    by_place (Some k) e =
        let there = found_there word more k e in
        let r = new_apart more names k word h there.1 in
        let clash : true ≡ false = sym r.1 ∙ f in cc

get_front : (xs ys : List (List ℕ)) (k : ℕ) → k < length xs → slice_get (xs ++ ys) k ≡ Some (name_at xs k)
get_front [] ys k lt = absurd (omega arith)
get_front (x ∷ xs) ys zero lt = refl
get_front (x ∷ xs) ys (suc k) lt = get_front xs ys k (omega arith)

get_behind : (xs ys : List (List ℕ)) (k : ℕ) → slice_get (xs ++ ys) (length xs + k) ≡ slice_get ys k
get_behind [] ys k = let e : 0 + k ≡ k = omega arith in ap (slice_get ys) e
get_behind (x ∷ xs) ys k =
    let e : suc (length xs) + k ≡ suc (length xs + k) = omega arith in
    ap (slice_get (x ∷ (xs ++ ys))) e ∙ get_behind xs ys k

get_within : (xs : List (List ℕ)) (k : ℕ) → k < length xs → slice_get xs k ≡ Some (name_at xs k)
get_within [] k lt = absurd (omega arith)
get_within (x ∷ xs) zero lt = refl
get_within (x ∷ xs) (suc k) lt = get_within xs k (omega arith)

pub static_there : (statics params : List (List ℕ)) (name : List ℕ) (k : ℕ) → k < length statics → slice_get (statics ++ (name ∷ params)) k ≡ Some (name_at statics k)
static_there statics params name k lt = get_front statics (name ∷ params) k lt

pub param_there : (statics params : List (List ℕ)) (name : List ℕ) (k : ℕ) → k < length params → slice_get (statics ++ (name ∷ params)) (length statics + suc k) ≡ Some (name_at params k)
param_there statics params name k lt = get_behind statics (name ∷ params) (suc k) ∙ get_within params k lt

-- what is found is a name
pub found_name : (names : List (List ℕ)) (word : List ℕ) (k : ℕ) → AreNew [] names → position (same word) names ≡ Some k → is_name word ≡ true
found_name names word k h e = (new_apart names [] k word h (found_there word names k e).1).1

pub new_append : (xs names ys : List (List ℕ)) → AreNew names xs → AreNew (names ++ xs) ys → AreNew names (xs ++ ys)
new_append [] names ys h k = subst (λ n. AreNew n ys) (append-nil names) k
new_append (x ∷ xs) names ys h k = (h.0, new_append xs (names ++ x ∷ []) ys h.1 (subst (λ n. AreNew n ys) (sym (append_assoc names (x ∷ []) xs)) k))

pub new_split : (xs names ys : List (List ℕ)) → AreNew names (xs ++ ys) → AreNew names xs × AreNew (names ++ xs) ys
new_split [] names ys h = (tt, subst (λ n. AreNew n ys) (sym (append-nil names)) h)
new_split (x ∷ xs) names ys h =
    let r = new_split xs (names ++ x ∷ []) ys h.1 in
    ((h.0, r.0), subst (λ n. AreNew n ys) (append_assoc names (x ∷ []) xs) r.1)
