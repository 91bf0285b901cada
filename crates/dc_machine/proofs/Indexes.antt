-- Names and their places.
use Rattle.std.proofs.Common.{◌≡◌, ℕ, suc, ◌+◌, ◌<◌, Bool, true, false, List, [], ◌∷◌, ◌++◌, length, map, Option, Some, None, refl, ap, sym, ◌∙◌, subst, arith}
use Rattle.std.specs.Prelude.{if◌then◌else◌, slice_get, option_map, option_and_then, is_some, Result, Ok, Err, OnOk}
use Rattle.std.specs.Result.{is_err}
use Rattle.std.specs.Map.{lookup}
use Rattle.std.proofs.lemmas.Slice.Eq.{slice_eq-Decides}
use Rattle.std.proofs.lemmas.Bool.Decides.{Decides-eqb}
use Rattle.indexmap.specs.IndexMap.{insert_entry}
use Rattle.dc_goto.specs.Program.{Sig, Body}
use Rattle.dc_goto.specs.Machine.{body_of, function_number}
use Rattle.dc_text.specs.Words.{same}
use Rattle.dc_machine.specs.Index.{added, first_place}
use Rattle.dc_machine.specs.Linked.{IsIndex}

same-is : (a b : List ℕ) → same a b ≡ true → a ≡ b
same-is a b = (slice_eq-Decides Decides-eqb a b _ refl).0

same-flip : (a b : List ℕ) → same a b ≡ same b a
same-flip a b = by (same a b) (same b a) refl refl
  where
    by : (x y : Bool) → same a b ≡ x → same b a ≡ y → x ≡ y
    by true true e f = refl
    by false false e f = refl
    by true false e f = let s : a ≡ b = same-is a b e in let g : same b b ≡ true = subst (λ z. same z b ≡ true) s e in let h : same b b ≡ false = subst (λ z. same b z ≡ false) s f in cc
    by false true e f = let s : b ≡ a = same-is b a f in let g : same a a ≡ true = subst (λ z. same z a ≡ true) s f in let h : same a a ≡ false = subst (λ z. same a z ≡ false) s e in cc

abbrev pub orelse : Option ℕ → Option ℕ → Option ℕ
orelse None o = o
orelse (Some k) o = Some k

lookup-behind : (q n : List ℕ) (k : ℕ) (entries : List (List ℕ × ℕ)) → lookup (same q) (entries ++ (n, k) ∷ []) ≡ orelse (lookup (same q) entries) (if same q n then Some k else None)
lookup-behind q n k [] = refl
lookup-behind q n k (e ∷ es) = by (same q e.0) (lookup-behind q n k es)
  where
    by : (b : Bool) → lookup (same q) (es ++ (n, k) ∷ []) ≡ orelse (lookup (same q) es) (if same q n then Some k else None)
        → (if b then Some e.1 else lookup (same q) (es ++ (n, k) ∷ [])) ≡ orelse (if b then Some e.1 else lookup (same q) es) (if same q n then Some k else None)
    by true h = refl
    by false h = h

first-behind : (i : ℕ) (q n : List ℕ) (names : List (List ℕ)) → first_place i (names ++ n ∷ []) q ≡ orelse (first_place i names q) (if same q n then Some (i + length names) else None)
first-behind i q n [] = let e : i + 0 ≡ i = omega arith in rw e refl
first-behind i q n (m ∷ names) =
    let e : suc i + length names ≡ i + suc (length names) = omega arith in
    by (same q m) (first-behind (suc i) q n names ∙ ap (λ k. orelse (first_place (suc i) names q) (if same q n then Some k else None)) e)
  where
    by : (b : Bool) → first_place (suc i) (names ++ n ∷ []) q ≡ orelse (first_place (suc i) names q) (if same q n then Some (i + suc (length names)) else None)
        → (if b then Some i else first_place (suc i) (names ++ n ∷ []) q) ≡ orelse (if b then Some i else first_place (suc i) names q) (if same q n then Some (i + suc (length names)) else None)
    by true h = refl
    by false h = h

orelse-none : (o : Option ℕ) → orelse o None ≡ o
orelse-none None = refl
orelse-none (Some k) = refl

pub index-more : (names : List (List ℕ)) (n : List ℕ) (entries : List (List ℕ × ℕ)) → IsIndex names entries → IsIndex (names ++ n ∷ []) (added n (length names) (lookup (same n) entries) entries)
index-more names n entries h q = by (lookup (same n) entries) refl
  where
    known : (k : ℕ) (b : Bool) → lookup (same n) entries ≡ Some k → same q n ≡ b → lookup (same q) entries ≡ orelse (first_place 0 names q) (if b then Some (length names) else None)
    known k true e f =
        let s : q ≡ n = same-is q n f in
        let g : first_place 0 names q ≡ Some k = ap (first_place 0 names) s ∙ sym (h n) ∙ e in
        h q ∙ g ∙ rw g refl
    known k false e f = h q ∙ sym (orelse-none (first_place 0 names q))

    behind : first_place 0 (names ++ n ∷ []) q ≡ orelse (first_place 0 names q) (if same q n then Some (length names) else None)
    behind = let e : 0 + length names ≡ length names = omega arith in first-behind 0 q n names ∙ ap (λ k. orelse (first_place 0 names q) (if same q n then Some k else None)) e

    by : (o : Option ℕ) → lookup (same n) entries ≡ o → lookup (same q) (added n (length names) o entries) ≡ first_place 0 (names ++ n ∷ []) q
    by None e = lookup-behind q n (length names) entries ∙ ap (λ o. orelse o (if same q n then Some (length names) else None)) (h q) ∙ sym behind
    by (Some k) e = known k (same q n) e refl ∙ sym behind

first-suc : (i : ℕ) (names : List (List ℕ)) (q : List ℕ) → first_place (suc i) names q ≡ option_map suc (first_place i names q)
first-suc i [] q = refl
first-suc i (n ∷ names) q = by (same q n) (first-suc (suc i) names q)
  where
    by : (b : Bool) → first_place (suc (suc i)) names q ≡ option_map suc (first_place (suc i) names q) → (if b then Some (suc i) else first_place (suc (suc i)) names q) ≡ option_map suc (if b then Some i else first_place (suc i) names q)
    by true h = refl
    by false h = h

and-then-suc : (b : Body) (bodies : List Body) (o : Option ℕ) → option_and_then (slice_get (b ∷ bodies)) (option_map suc o) ≡ option_and_then (slice_get bodies) o
and-then-suc b bodies None = refl
and-then-suc b bodies (Some k) = refl

-- the body of a name stands at the name's first place
pub body-found : (bodies : List Body) (q : List ℕ) → body_of bodies q ≡ option_and_then (slice_get bodies) (first_place 0 (map (λ body. body.name) bodies) q)
body-found [] q = refl
body-found (b ∷ bodies) q =
    by (same b.name q) (same q b.name) (same-flip b.name q)
    (body-found bodies q
    ∙ sym (and-then-suc b bodies (first_place 0 (map (λ body. body.name) bodies) q))
    ∙ ap (option_and_then (slice_get (b ∷ bodies))) (sym (first-suc 0 (map (λ body. body.name) bodies) q)))
  where
    by : (x y : Bool) → x ≡ y → body_of bodies q ≡ option_and_then (slice_get (b ∷ bodies)) (first_place 1 (map (λ body. body.name) bodies) q)
        → (if x then Some b else body_of bodies q) ≡ option_and_then (slice_get (b ∷ bodies)) (if y then Some 0 else first_place 1 (map (λ body. body.name) bodies) q)
    by true true e h = refl
    by false false e h = h
    by true false e h = cc
    by false true e h = cc

-- a number from a place
abbrev pub number_at : ℕ → Option ℕ → ℕ
number_at past None = past
number_at past (Some k) = suc k

pub number-found : (i : ℕ) (sigs : List Sig) (q : List ℕ) → function_number (suc i) sigs q ≡ number_at (suc i + length sigs) (first_place i (map (λ sig. sig.name) sigs) q)
number-found i [] q = let e : suc i + 0 ≡ suc i = omega arith in rw e refl
number-found i (s ∷ sigs) q =
    let past : suc (suc i) + length sigs ≡ suc i + suc (length sigs) = omega arith in
    by (same s.name q) (same q s.name) (same-flip s.name q) (number-found (suc i) sigs q ∙ ap (λ k. number_at k (first_place (suc i) (map (λ sig. sig.name) sigs) q)) past)
  where
    by : (x y : Bool) → x ≡ y → function_number (suc (suc i)) sigs q ≡ number_at (suc i + suc (length sigs)) (first_place (suc i) (map (λ sig. sig.name) sigs) q)
        → (if x then suc i else function_number (suc (suc i)) sigs q) ≡ number_at (suc i + suc (length sigs)) (if y then Some i else first_place (suc i) (map (λ sig. sig.name) sigs) q)
    by true true e h = refl
    by false false e h = h
    by true false e h = cc
    by false true e h = cc

suc-some : (o : Option ℕ) (k : ℕ) → option_map suc o ≡ Some k → (j : ℕ) × (o ≡ Some j) × (k ≡ suc j)
suc-some None k e = cc
suc-some (Some j) k e = let f : suc j ≡ k = cc in (j, refl, sym f)

-- the name at the first place of a name
pub place-named : (names : List (List ℕ)) (q : List ℕ) (k : ℕ) → first_place 0 names q ≡ Some k → slice_get names k ≡ Some q
place-named [] q k e = cc
place-named (n ∷ names) q k e = by (same q n) refl e (λ j f. place-named names q j f)
  where
    by : (b : Bool) → same q n ≡ b → (if b then Some 0 else first_place 1 names q) ≡ Some k → ((j : ℕ) → first_place 0 names q ≡ Some j → slice_get names j ≡ Some q) → slice_get (n ∷ names) k ≡ Some q
    by true f g h = let z : 0 ≡ k = cc in rw (← z) (ap Some (sym (same-is q n f)))
    by false f g h =
        let s = suc-some (first_place 0 names q) k (sym (first-suc 0 names q) ∙ g) in
        rw s.2 (h s.0 s.1)

pub none-of : {A : Type 0} (o : Option A) → is_some o ≡ false → o ≡ None
none-of None h = refl
none-of (Some e) h = cc

pub ok-holds : {T E : Type 0} (P : Type 0) (r : Result T E) → is_err r ≡ false → OnOk r P → P
ok-holds P (Ok v) n p = p
ok-holds P (Err e) n p = cc

-- a place is below the number of names
pub place-below : (i : ℕ) (names : List (List ℕ)) (q : List ℕ) (k : ℕ) → first_place i names q ≡ Some k → k < i + length names
place-below i [] q k e = cc
place-below i (n ∷ names) q k e = by (same q n) e (λ f. place-below (suc i) names q k f)
  where
    by : (b : Bool) → (if b then Some i else first_place (suc i) names q) ≡ Some k → (first_place (suc i) names q ≡ Some k → k < suc i + length names) → k < i + suc (length names)
    by true f h = let g : i ≡ k = cc in omega arith
    by false f h = let b = h f in omega (arith, b)

pub index-next : (names names' : List (List ℕ)) (n : List ℕ) (entries entries' : List (List ℕ × ℕ)) (k : ℕ) → IsIndex names entries → k ≡ length names → names' ≡ names ++ n ∷ []
    → entries' ≡ added n k (lookup (same n) entries) entries → IsIndex names' entries'
index-next names names' n entries entries' k h size all e = rw (all, e, size) (index-more names n entries h)

-- a new key goes last
inserted-new : (entries : List (List ℕ × ℕ)) (n : List ℕ) (k : ℕ) → lookup (same n) entries ≡ None → insert_entry same entries n k ≡ entries ++ (n, k) ∷ []
inserted-new [] n k h = refl
inserted-new (e ∷ es) n k h = by (same n e.0) h (λ g. inserted-new es n k g)
  where
    by : (b : Bool) → (if b then Some e.1 else lookup (same n) es) ≡ None → (lookup (same n) es ≡ None → insert_entry same es n k ≡ es ++ (n, k) ∷ [])
        → (if b then (e.0, k) ∷ es else e ∷ insert_entry same es n k) ≡ e ∷ (es ++ (n, k) ∷ [])
    by true f g = cc
    by false f g = ap (λ l. e ∷ l) (g f)

pub added-new : (old seen new : List (List ℕ × ℕ)) (n : List ℕ) (k : ℕ) → old ≡ seen → lookup (same n) seen ≡ None → new ≡ insert_entry same old n k → new ≡ added n k (lookup (same n) seen) seen
added-new old seen new n k e h f = rw h (f ∙ ap (λ l. insert_entry same l n k) e ∙ inserted-new seen n k h)
