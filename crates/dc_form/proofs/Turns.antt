-- One turn of the loops that read.
use Rattle.std.proofs.Common.{◌≡◌, ℕ, zero, suc, ◌<◌, Bool, true, false, List, [], ◌∷◌, ◌++◌, length, None, Some, refl, sym, ap, ◌∙◌, arith}
use Rattle.std.specs.Prelude.{if◌then◌else◌, codes, ◌&&◌, nat_lt}
use Rattle.std.proofs.lemmas.Bool.Decides.{nat_tests}
use Rattle.std.specs.Prelude.{IsErrOf, Ok, Err}
use Rattle.dc_core.specs.Program.{Expr, Contract, Stmt}
use Rattle.dc_form.specs.Form.{is_new}
use Rattle.dc_text.specs.Words.{same}
use Rattle.dc_form.specs.Read.Cursor.{front, tail}
use Rattle.dc_form.specs.Read.Reading.{Reading, got}
use Rattle.dc_form.specs.Read.Clauses.{target_of, with_target, read_targets, read_clause, read_clauses}
use Rattle.dc_form.specs.Read.Body.{ends, read_assignment, read_assignments}
use Rattle.dc_form.specs.Read.Reading.{then_read}
use Rattle.dc_form.specs.Read.Signature.{Head, head, result_of, with_result, read_head, read_each}

-- the variables of a list that begins with a word
pub targets_front : (names : List (List ℕ)) (n : ℕ) (es : List Expr) (word : List ℕ) (tokens : List (List ℕ)) → read_targets names n es (word ∷ tokens) ≡ with_target (target_of names n word) (λ e. if same (front tokens) (codes ",") then read_targets names n (es ++ e ∷ []) (tail tokens) else got (es ++ e ∷ []) tokens)
targets_front names n es word [] = refl
targets_front names n es word (mark ∷ tokens) = refl

pub targets_turn : (names : List (List ℕ)) (n : ℕ) (es next : List Expr) (e : Expr) (word : List ℕ) (all rest after : List (List ℕ)) (t : Bool) → all ≡ word ∷ rest → Some e ≡ target_of names n word → next ≡ es ++ e ∷ [] → t ≡ same (front rest) (codes ",") → t ≡ true → after ≡ (if t then tail rest else rest) → read_targets names n es all ≡ read_targets names n next after
targets_turn names n es next e word all rest after t p q r s y a =
    ap (read_targets names n es) p ∙ targets_front names n es word rest
    ∙ sym (ap (λ o. with_target o (λ e. if same (front rest) (codes ",") then read_targets names n (es ++ e ∷ []) (tail rest) else got (es ++ e ∷ []) rest)) q)
    ∙ ap (λ t. if t then read_targets names n (es ++ e ∷ []) (tail rest) else got (es ++ e ∷ []) rest) (sym s ∙ y)
    ∙ ap (λ es. read_targets names n es (tail rest)) (sym r)
    ∙ ap (read_targets names n next) (sym (a ∙ ap (λ t. if t then tail rest else rest) y))

pub targets_stuck : (names : List (List ℕ)) (n : ℕ) (es : List Expr) (word : List ℕ) (all rest : List (List ℕ)) → all ≡ word ∷ rest → target_of names n word ≡ None → read_targets names n es all ≡ None
targets_stuck names n es word all rest p h =
    ap (read_targets names n es) p ∙ targets_front names n es word rest
    ∙ ap (λ o. with_target o (λ e. if same (front rest) (codes ",") then read_targets names n (es ++ e ∷ []) (tail rest) else got (es ++ e ∷ []) rest)) h

-- at most so many turns are left for these tokens
pub record Left {A : Type 0} (all : Reading A) (tokens : List (List ℕ)) (reads : ℕ → Reading A) : Type 0 where
  pub most : ℕ
  pub enough : length tokens < most
  pub same_as : all ≡ reads most

pub clauses_stuck : (names : List (List ℕ)) (n : ℕ) (g : Bool) (c : Contract) (tokens after : List (List ℕ)) (t : Bool) (all : Reading Contract) → Left all tokens (λ most. read_clauses most names n g c tokens) → t ≡ same (front tokens) (codes "{") → t ≡ false → after ≡ (if t then tail tokens else tokens) → read_clause names n g c after ≡ None → all ≡ None
clauses_stuck names n g c tokens after t all l p f a h = by_most l.most l.enough l.same_as
  where
    by_most : (most : ℕ) → length tokens < most → all ≡ read_clauses most names n g c tokens → all ≡ None
    by_most zero lt e = absurd (omega arith)
    by_most (suc most) lt e =
        e ∙ ap (λ t. if t then got c (tail tokens) else then_read (read_clause names n g c tokens) (λ c tokens. read_clauses most names n g c tokens)) (sym p ∙ f)
        ∙ ap (λ r. then_read r (λ c tokens. read_clauses most names n g c tokens)) (ap (read_clause names n g c) (sym (a ∙ ap (λ t. if t then tail tokens else tokens) f)) ∙ h)

pub clauses_turn : (names : List (List ℕ)) (n : ℕ) (g : Bool) (c d : Contract) (tokens after rest : List (List ℕ)) (t : Bool) (all : Reading Contract) → Left all tokens (λ most. read_clauses most names n g c tokens) → t ≡ same (front tokens) (codes "{") → t ≡ false → after ≡ (if t then tail tokens else tokens) → read_clause names n g c after ≡ got d rest → length rest < length after → Left all rest (λ most. read_clauses most names n g d rest)
clauses_turn names n g c d tokens after rest t all l p f a h lt = by_most l.most l.enough l.same_as
  where
    by_most : (most : ℕ) → length tokens < most → all ≡ read_clauses most names n g c tokens → Left all rest (λ most. read_clauses most names n g d rest)
    by_most zero le e = absurd (omega arith)
    by_most (suc most) le e =
        let stay : after ≡ tokens = a ∙ ap (λ t. if t then tail tokens else tokens) f in
        let same_length = ap length stay in
        record {
          most = most;
          enough = omega arith;
          same_as =
              e ∙ ap (λ t. if t then got c (tail tokens) else then_read (read_clause names n g c tokens) (λ c tokens. read_clauses most names n g c tokens)) (sym p ∙ f)
              ∙ ap (λ r. then_read r (λ c tokens. read_clauses most names n g c tokens)) (ap (read_clause names n g c) (sym stay) ∙ h);
        }

pub assignments_stuck : (names : List (List ℕ)) (n site : ℕ) (body : List Stmt) (tokens : List (List ℕ)) (t : Bool) (all : Reading (List Stmt)) → Left all tokens (λ most. read_assignments most names n site body tokens) → t ≡ ends (front tokens) → t ≡ false → read_assignment names n site tokens ≡ None → all ≡ None
assignments_stuck names n site body tokens t all l p f h = by_most l.most l.enough l.same_as
  where
    by_most : (most : ℕ) → length tokens < most → all ≡ read_assignments most names n site body tokens → all ≡ None
    by_most zero lt e = absurd (omega arith)
    by_most (suc most) lt e =
        e ∙ ap (λ t. if t then got body tokens else then_read (read_assignment names n site tokens) (λ s tokens. read_assignments most names n (suc site) (body ++ s ∷ []) tokens)) (sym p ∙ f)
        ∙ ap (λ r. then_read r (λ s tokens. read_assignments most names n (suc site) (body ++ s ∷ []) tokens)) h

pub assignments_turn : (names : List (List ℕ)) (n site next : ℕ) (body more : List Stmt) (s : Stmt) (tokens rest : List (List ℕ)) (t : Bool) (all : Reading (List Stmt)) → Left all tokens (λ most. read_assignments most names n site body tokens) → t ≡ ends (front tokens) → t ≡ false → read_assignment names n site tokens ≡ got s rest → length rest < length tokens → more ≡ body ++ s ∷ [] → next ≡ suc site → Left all rest (λ most. read_assignments most names n next more rest)
assignments_turn names n site next body more s tokens rest t all l p f h lt m q = by_most l.most l.enough l.same_as
  where
    by_most : (most : ℕ) → length tokens < most → all ≡ read_assignments most names n site body tokens → Left all rest (λ most. read_assignments most names n next more rest)
    by_most zero le e = absurd (omega arith)
    by_most (suc most) le e =
        record {
          most = most;
          enough = omega arith;
          same_as =
              e ∙ ap (λ t. if t then got body tokens else then_read (read_assignment names n site tokens) (λ s tokens. read_assignments most names n (suc site) (body ++ s ∷ []) tokens)) (sym p ∙ f)
              ∙ ap (λ r. then_read r (λ s tokens. read_assignments most names n (suc site) (body ++ s ∷ []) tokens)) h
              ∙ ap (λ k. read_assignments most names n k (body ++ s ∷ []) rest) (sym q)
              ∙ ap (λ b. read_assignments most names n next b rest) (sym m);
        }

-- an error is the same in each type of result
pub error_as : {T U E : Type 0} (x y : E) → IsErrOf {T = T} (Err x) y → IsErrOf {T = U} (Err x) y
error_as x y e = ap (λ r. elim r [ Ok v ↦ Err y | Err z ↦ Err z ]) e

and_false : (x y : Bool) → y ≡ false → (x && y) ≡ false
and_false true y h = h
and_false false y h = refl

-- what stands behind the name of a declaration
abbrev pub head_behind : List (List ℕ) → Bool → List ℕ → List (List ℕ) → Reading Head
head_behind names g name rest =
    if same (front rest) (codes ";") && g then (if nat_lt (length names) 32766 then read_head (names ++ name ∷ []) (tail rest) else None) else got (head names g name) rest

pub head_front : (names : List (List ℕ)) (word name : List ℕ) (rest : List (List ℕ)) → read_head names (word ∷ name ∷ rest) ≡ with_result (result_of word) (λ g. if is_new names name then head_behind names g name rest else None)
head_front names word name [] = refl
head_front names word name (mark ∷ rest) = refl

head_named : (names : List (List ℕ)) (word name : List ℕ) (g : Bool) (tokens after rest : List (List ℕ)) → tokens ≡ word ∷ after → result_of word ≡ Some g → after ≡ name ∷ rest → is_new names name ≡ true → read_head names tokens ≡ head_behind names g name rest
head_named names word name g tokens after rest p r q h =
    ap (read_head names) (p ∙ ap (λ l. word ∷ l) q) ∙ head_front names word name rest
    ∙ ap (λ o. with_result o (λ g. if is_new names name then head_behind names g name rest else None)) r
    ∙ ap (λ t. if t then head_behind names g name rest else None) h

-- with an int in front, by the mark behind the name
head_int : (names : List (List ℕ)) (word name : List ℕ) (g t : Bool) (tokens after rest : List (List ℕ)) → tokens ≡ word ∷ after → result_of word ≡ Some g → after ≡ name ∷ rest → is_new names name ≡ true → g ≡ true → t ≡ same (front rest) (codes ";") → read_head names tokens ≡ (if t && true then (if nat_lt (length names) 32766 then read_head (names ++ name ∷ []) (tail rest) else None) else got (head names true name) rest)
head_int names word name g t tokens after rest p r q h f m =
    head_named names word name g tokens after rest p r q h ∙ ap (λ g. head_behind names g name rest) f
    ∙ ap (λ t. if t && true then (if nat_lt (length names) 32766 then read_head (names ++ name ∷ []) (tail rest) else None) else got (head names true name) rest) (sym m)

pub head_turn : (names next : List (List ℕ)) (word name : List ℕ) (g t : Bool) (tokens after rest last : List (List ℕ)) → tokens ≡ word ∷ after → result_of word ≡ Some g → after ≡ name ∷ rest → is_new names name ≡ true → g ≡ true → t ≡ same (front rest) (codes ";") → t ≡ true → last ≡ (if t then tail rest else rest) → length names < 32766 → next ≡ names ++ name ∷ [] → read_head names tokens ≡ read_head next last
head_turn names next word name g t tokens after rest last p r q h f m n l lt e =
    let fits : nat_lt (length names) 32766 ≡ true = grind (arith, nat_tests) in
    head_int names word name g t tokens after rest p r q h f m
    ∙ ap (λ t. if t && true then (if nat_lt (length names) 32766 then read_head (names ++ name ∷ []) (tail rest) else None) else got (head names true name) rest) n
    ∙ ap (λ t. if t then read_head (names ++ name ∷ []) (tail rest) else None) fits
    ∙ ap (λ names. read_head names (tail rest)) (sym e)
    ∙ ap (read_head next) (sym (l ∙ ap (λ t. if t then tail rest else rest) n))

-- what stands behind the name of a parameter
abbrev pub each_behind : List (List ℕ) → List ℕ → List (List ℕ) → Reading (List (List ℕ))
each_behind names name rest = if same (front rest) (codes ",") then read_each (names ++ name ∷ []) (tail rest) else got (names ++ name ∷ []) rest

pub each_front : (names : List (List ℕ)) (word name : List ℕ) (rest : List (List ℕ)) → read_each names (word ∷ name ∷ rest) ≡ (if same word (codes "int") && is_new names name then each_behind names name rest else None)
each_front names word name [] = refl
each_front names word name (mark ∷ rest) = refl

pub both : (x y : Bool) → x ≡ true → y ≡ true → (x && y) ≡ true
both x y p q = rw (p, q) refl

each_named : (names : List (List ℕ)) (name : List ℕ) (tokens after rest : List (List ℕ)) → same (front tokens) (codes "int") ≡ true → after ≡ tail tokens → after ≡ name ∷ rest → is_new names name ≡ true → read_each names tokens ≡ each_behind names name rest
each_named names name [] after rest h a q n = let e : [] ≡ name ∷ rest = sym a ∙ q in cc
each_named names name (word ∷ tokens) after rest h a q n =
    ap (λ l. read_each names (word ∷ l)) (sym a ∙ q) ∙ each_front names word name rest
    ∙ ap (λ t. if t then each_behind names name rest else None) (both (same word (codes "int")) (is_new names name) h n)

pub each_turn : (names next : List (List ℕ)) (name : List ℕ) (t : Bool) (tokens after rest last : List (List ℕ)) → same (front tokens) (codes "int") ≡ true → after ≡ tail tokens → after ≡ name ∷ rest → is_new names name ≡ true → t ≡ same (front rest) (codes ",") → t ≡ true → last ≡ (if t then tail rest else rest) → next ≡ names ++ name ∷ [] → read_each names tokens ≡ read_each next last
each_turn names next name t tokens after rest last h a q n m f l e =
    each_named names name tokens after rest h a q n
    ∙ ap (λ t. if t then read_each (names ++ name ∷ []) (tail rest) else got (names ++ name ∷ []) rest) (sym m ∙ f)
    ∙ ap (λ names. read_each names (tail rest)) (sym e)
    ∙ ap (read_each next) (sym (l ∙ ap (λ t. if t then tail rest else rest) f))

pub each_no_name : (names tokens after : List (List ℕ)) → after ≡ tail tokens → is_new names (front after) ≡ false → read_each names tokens ≡ None
each_no_name names [] after a h = refl
each_no_name names (word ∷ []) after a h = refl
each_no_name names (word ∷ name ∷ rest) after a h =
    each_front names word name rest
    ∙ ap (λ t. if t then each_behind names name rest else None) (and_false (same word (codes "int")) (is_new names name) (sym (ap (λ l. is_new names (front l)) a) ∙ h))
