-- Tokens between blanks.
use Rattle.std.proofs.Common.{◌≡◌, ℕ, zero, suc, ◌+◌, ◌<◌, Bool, true, false, ◌&&◌, List, [], ◌∷◌, ◌++◌, length, take, drop, Option, None, Some, refl, sym, ap, subst, ◌∙◌, arith, inl, inr, append_assoc, length-append}
use Rattle.std.specs.Prelude.{if◌then◌else◌, ◌==◌}
use Rattle.std.specs.List.{list_all}
use Rattle.std.proofs.lemmas.Bool.Decides.{nat_tests}
use Rattle.dc_form.specs.Form.{is_blank, is_mark, takes_equals, goes_on, EndsWord, IsTokenBefore, Spells}
use Rattle.dc_text.specs.Words.{is_word_part}
use Rattle.dc_form.specs.Read.Tokens.{after_blanks, word_len, token_len, split_at, token_front}

choose_true : {A : Type 0} (b : Bool) (x y : A) → b ≡ true → (if b then x else y) ≡ x
choose_true b x y e = ap (λ b. if b then x else y) e

choose_false : {A : Type 0} (b : Bool) (x y : A) → b ≡ false → (if b then x else y) ≡ y
choose_false b x y e = ap (λ b. if b then x else y) e

and_true : (x y : Bool) → (x && y) ≡ true → (x ≡ true) × (y ≡ true)
and_true true y h = (refl, h)
and_true false y h = cc

word_not_blank : (b : ℕ) → is_word_part b ≡ true → is_blank b ≡ false
word_not_blank b h = grind (arith, nat_tests)

mark_not_blank : (b : ℕ) → is_mark b ≡ true → is_blank b ≡ false
mark_not_blank b h = grind (arith, nat_tests)

mark_not_word : (b : ℕ) → is_mark b ≡ true → is_word_part b ≡ false
mark_not_word b h = grind (arith, nat_tests)

equals_not_blank : (b : ℕ) → takes_equals b ≡ true → is_blank b ≡ false
equals_not_blank b h = grind (arith, nat_tests)

equals_not_word : (b : ℕ) → takes_equals b ≡ true → is_word_part b ≡ false
equals_not_word b h = grind (arith, nat_tests)

is_equals : (b : ℕ) → (b == 61) ≡ true → b ≡ 61
is_equals b h = grind (arith, nat_tests)

goes_on_there : (b next : ℕ) (bytes : List ℕ) → takes_equals b ≡ true → next ≡ 61 → goes_on b (next ∷ bytes) ≡ true
goes_on_there b next bytes h e = grind (arith, nat_tests)

-- blanks are passed over
pass_blanks : (blanks bytes : List ℕ) → list_all is_blank blanks ≡ true → after_blanks (blanks ++ bytes) ≡ after_blanks bytes
pass_blanks [] bytes h = refl
pass_blanks (b ∷ blanks) bytes h =
    let p = and_true (is_blank b) (list_all is_blank blanks) h in
    choose_true (is_blank b) _ _ p.0 ∙ pass_blanks blanks bytes p.1

-- a list of bytes is blanks and what stands behind them
blanks_split : (bytes : List ℕ) → (blanks : List ℕ) × (list_all is_blank blanks ≡ true) × (bytes ≡ blanks ++ after_blanks bytes)
blanks_split [] = ([], refl, refl)
blanks_split (b ∷ bytes) =
    let r = blanks_split bytes in
    elim (is_blank b) as (λ t. is_blank b ≡ t → (blanks : List ℕ) × (list_all is_blank blanks ≡ true) × (b ∷ bytes ≡ blanks ++ (if t then after_blanks bytes else b ∷ bytes))) [
      | true ↦ λ e. (b ∷ r.0, rw e r.1, ap (λ xs. b ∷ xs) r.2)
      | false ↦ λ e. ([], refl, refl)
    ] refl

-- the length of a word and what ends it
whole_word : (word rest : List ℕ) → list_all is_word_part word ≡ true → EndsWord rest → word_len (word ++ rest) ≡ length word
whole_word [] [] h e = refl
whole_word [] (b ∷ rest) h e = choose_false (is_word_part b) _ _ e
whole_word (b ∷ word) rest h e =
    let p = and_true (is_word_part b) (list_all is_word_part word) h in
    let r = whole_word word rest p.1 e in
    choose_true (is_word_part b) _ _ p.0 ∙ (let q : 1 + word_len (word ++ rest) ≡ suc (length word) = omega (arith, r) in q)

abbrev found : List ℕ → List ℕ → Option (List ℕ × List ℕ)
found token rest = Some (token, rest)

found_parts : (a b c d : List ℕ) → found a b ≡ found c d → (a ≡ c) × (b ≡ d)
found_parts a b c d e =
    let front : Option (List ℕ × List ℕ) → List ℕ = λ o. elim o [ None ↦ [] | Some x ↦ x.0 ] in
    let back : Option (List ℕ × List ℕ) → List ℕ = λ o. elim o [ None ↦ [] | Some x ↦ x.1 ] in
    (ap front e, ap back e)

take_front : (xs ys : List ℕ) → take (length xs) (xs ++ ys) ≡ xs
take_front [] ys = refl
take_front (x ∷ xs) ys = ap (λ l. x ∷ l) (take_front xs ys)

drop_front : (xs ys : List ℕ) → drop (length xs) (xs ++ ys) ≡ ys
drop_front [] ys = refl
drop_front (x ∷ xs) ys = drop_front xs ys

cut : (token rest : List ℕ) (n : ℕ) → n ≡ length token → 0 < length token → split_at n (token ++ rest) ≡ found token rest
cut token rest n e pos =
    let some : (length token == 0) ≡ false = grind (arith, nat_tests) in
    ap (λ n. split_at n (token ++ rest)) e
    ∙ choose_false (length token == 0) _ (found (take (length token) (token ++ rest)) (drop (length token) (token ++ rest))) some
    ∙ ap (λ t. found t (drop (length token) (token ++ rest))) (take_front token rest)
    ∙ ap (λ t. found token t) (drop_front token rest)

-- the length of the token that begins here
token_measured : (token rest : List ℕ) → IsTokenBefore token rest → token_len (token ++ rest) ≡ length token
token_measured [] rest (inl t) = absurd t
token_measured [] rest (inr t) = absurd t
token_measured (b ∷ bytes) rest (inl t) = choose_true (is_word_part b) _ _ t.0 ∙ whole_word (b ∷ bytes) rest (rw t.0 t.1) t.2
token_measured (b ∷ []) rest (inr t) =
    choose_false (is_word_part b) _ _ (mark_not_word b t.0) ∙ choose_false (goes_on b rest) _ _ t.1 ∙ choose_true (is_mark b) _ _ t.0
token_measured (b ∷ next ∷ bytes) rest (inr t) =
    choose_false (is_word_part b) _ _ (equals_not_word b t.0)
    ∙ choose_true (goes_on b (next ∷ (bytes ++ rest))) _ _ (goes_on_there b next (bytes ++ rest) t.0 t.1)
    ∙ sym (ap (λ bytes. length (b ∷ next ∷ bytes)) t.2)

some_token : (token rest : List ℕ) → IsTokenBefore token rest → 0 < length token
some_token [] rest (inl t) = absurd t
some_token [] rest (inr t) = absurd t
some_token (b ∷ bytes) rest t = omega arith

token_not_blank : (token rest : List ℕ) → IsTokenBefore token rest → after_blanks (token ++ rest) ≡ token ++ rest
token_not_blank [] rest (inl t) = absurd t
token_not_blank [] rest (inr t) = absurd t
token_not_blank (b ∷ bytes) rest (inl t) = choose_false (is_blank b) _ _ (word_not_blank b t.0)
token_not_blank (b ∷ []) rest (inr t) = choose_false (is_blank b) _ _ (mark_not_blank b t.0)
token_not_blank (b ∷ next ∷ bytes) rest (inr t) = choose_false (is_blank b) _ _ (equals_not_blank b t.0)

-- the front of what isn't blank is the token that begins there
token_found : (token rest : List ℕ) → IsTokenBefore token rest → token_front (after_blanks (token ++ rest)) ≡ found token rest
token_found token rest t = ap token_front (token_not_blank token rest t) ∙ cut token rest (token_len (token ++ rest)) (token_measured token rest t) (some_token token rest t)

-- what spells tokens begins with the first of them
pub first_token : (bytes token : List ℕ) (tokens : List (List ℕ)) → Spells bytes (token ∷ tokens) → (rest : List ℕ) × (token_front (after_blanks bytes) ≡ Some (token, rest)) × Spells rest tokens
first_token bytes token tokens (blanks, rest, h, e, t, s) =
    (rest, ap (λ xs. token_front (after_blanks xs)) e ∙ ap token_front (pass_blanks blanks (token ++ rest) h) ∙ token_found token rest t, s)

append_nil : (xs : List ℕ) → xs ++ [] ≡ xs
append_nil [] = refl
append_nil (x ∷ xs) = ap (λ ys. x ∷ ys) (append_nil xs)

pub no_token : (bytes : List ℕ) → Spells bytes [] → after_blanks bytes ≡ []
no_token bytes h = sym (ap after_blanks (append_nil bytes)) ∙ pass_blanks bytes [] h

-- a word in front and what stands behind it
word_parts : (bytes : List ℕ) → (list_all is_word_part (take (word_len bytes) bytes) ≡ true) × EndsWord (drop (word_len bytes) bytes)
word_parts [] = (refl, tt)
word_parts (b ∷ bytes) =
    let r = word_parts bytes in
    elim (is_word_part b) as (λ t. is_word_part b ≡ t → (list_all is_word_part (take (if t then 1 + word_len bytes else 0) (b ∷ bytes)) ≡ true) × EndsWord (drop (if t then 1 + word_len bytes else 0) (b ∷ bytes))) [
      | true ↦ λ e. let one : 1 + word_len bytes ≡ suc (word_len bytes) = omega arith in rw one (rw e r.0, r.1)
      | false ↦ λ e. (refl, e)
    ] refl

take_drop : (n : ℕ) (xs : List ℕ) → xs ≡ take n xs ++ drop n xs
take_drop zero xs = refl
take_drop (suc n) [] = refl
take_drop (suc n) (x ∷ xs) = ap (λ l. x ∷ l) (take_drop n xs)

-- what has the length of the token stands there as one
measured_stands : (bytes : List ℕ) → 0 < token_len bytes → IsTokenBefore (take (token_len bytes) bytes) (drop (token_len bytes) bytes)
measured_stands [] h = absurd (omega arith)
measured_stands (b ∷ bytes) h =
    elim (is_word_part b) as (λ t. is_word_part b ≡ t → 0 < (if t then (if t then 1 + word_len bytes else 0) else if goes_on b bytes then 2 else if is_mark b then 1 else 0) → IsTokenBefore (take (if t then (if t then 1 + word_len bytes else 0) else if goes_on b bytes then 2 else if is_mark b then 1 else 0) (b ∷ bytes)) (drop (if t then (if t then 1 + word_len bytes else 0) else if goes_on b bytes then 2 else if is_mark b then 1 else 0) (b ∷ bytes))) [
      | true ↦ λ e h. let r = word_parts bytes in let one : 1 + word_len bytes ≡ suc (word_len bytes) = omega arith in rw one (inl (e, r.0, r.1))
      | false ↦ λ e h. mark_stands b bytes (goes_on b bytes) refl h
    ] refl h
  where
    long_stands : (b : ℕ) (bytes : List ℕ) → goes_on b bytes ≡ true → IsTokenBefore (take 2 (b ∷ bytes)) (drop 2 (b ∷ bytes))
    long_stands b [] e = cc
    long_stands b (next ∷ bytes) e = let p = and_true (takes_equals b) (next == 61) e in inr (p.0, is_equals next p.1, refl)

    short_stands : (b : ℕ) (bytes : List ℕ) (t : Bool) → goes_on b bytes ≡ false → is_mark b ≡ t → 0 < (if t then 1 else 0) → IsTokenBefore (take (if t then 1 else 0) (b ∷ bytes)) (drop (if t then 1 else 0) (b ∷ bytes))
    short_stands b bytes true g e h = inr (e, g)
    short_stands b bytes false g e h = absurd (omega arith)

    mark_stands : (b : ℕ) (bytes : List ℕ) (t : Bool) → goes_on b bytes ≡ t → 0 < (if t then 2 else if is_mark b then 1 else 0) → IsTokenBefore (take (if t then 2 else if is_mark b then 1 else 0) (b ∷ bytes)) (drop (if t then 2 else if is_mark b then 1 else 0) (b ∷ bytes))
    mark_stands b bytes true e h = long_stands b bytes e
    mark_stands b bytes false e h = short_stands b bytes (is_mark b) e refl h

-- the token that is found stands in front
token_stands : (bytes token rest : List ℕ) → token_front bytes ≡ Some (token, rest) → (bytes ≡ token ++ rest) × IsTokenBefore token rest
token_stands bytes token rest h = by_len (token_len bytes == 0) refl h
  where
    by_len : (t : Bool) → (token_len bytes == 0) ≡ t → (if t then None else found (take (token_len bytes) bytes) (drop (token_len bytes) bytes)) ≡ found token rest → (bytes ≡ token ++ rest) × IsTokenBefore token rest
    by_len true e h = cc
    by_len false e h =
        let pos : 0 < token_len bytes = grind (arith, nat_tests) in
        let p = found_parts _ _ _ _ h in
        subst (λ t. (bytes ≡ t ++ rest) × IsTokenBefore t rest) p.0
        (subst (λ s. (bytes ≡ take (token_len bytes) bytes ++ s) × IsTokenBefore (take (token_len bytes) bytes) s) p.1
        (take_drop (token_len bytes) bytes, measured_stands bytes pos))

pub token_before : (bytes token rest : List ℕ) (tokens : List (List ℕ)) → token_front (after_blanks bytes) ≡ Some (token, rest) → Spells rest tokens → Spells bytes (token ∷ tokens)
token_before bytes token rest tokens h s =
    let b = blanks_split bytes in
    let t = token_stands (after_blanks bytes) token rest h in
    (b.0, rest, b.1, b.2 ∙ ap (λ xs. b.0 ++ xs) t.0, t.1, s)

pub all_blank : (bytes : List ℕ) → after_blanks bytes ≡ [] → Spells bytes []
all_blank bytes e =
    let b = blanks_split bytes in
    let same : b.0 ≡ bytes = sym (b.2 ∙ ap (λ xs. b.0 ++ xs) e ∙ append_nil b.0) in
    subst (λ xs. list_all is_blank xs ≡ true) same b.1

-- the tokens so far, and the bytes that are left
pub record Lexed (bytes : List ℕ) (tokens : List (List ℕ)) (rest : List ℕ) : Type 0 where
  pub forth : (more : List (List ℕ)) → Spells rest more → Spells bytes (tokens ++ more)
  pub back : (all : List (List ℕ)) → Spells bytes all → (more : List (List ℕ)) × (all ≡ tokens ++ more) × Spells rest more

pub lexed_none : (bytes : List ℕ) → Lexed bytes [] bytes
lexed_none bytes = record { forth = λ more s. s; back = λ all s. (all, refl, s) }

-- what a rest with this first token spells
rest_spells : (rest token tail : List ℕ) (more : List (List ℕ)) → token_front (after_blanks rest) ≡ Some (token, tail) → Spells rest more → (others : List (List ℕ)) × (more ≡ token ∷ others) × Spells tail others
rest_spells rest token tail [] h s =
    let e : token_front (after_blanks rest) ≡ None = ap token_front (no_token rest s) in cc
rest_spells rest token tail (first ∷ others) h s =
    let f = first_token rest first others s in
    let e = found_parts first f.0 token tail (sym f.1 ∙ h) in
    let t : first ≡ token = e.0 in
    let r : f.0 ≡ tail = e.1 in
    (others, ap (λ t. t ∷ others) t, subst (λ r. Spells r others) r f.2)

pub lexed_more : (bytes : List ℕ) (tokens : List (List ℕ)) (rest token tail : List ℕ) → Lexed bytes tokens rest → token_front (after_blanks rest) ≡ Some (token, tail) → Lexed bytes (tokens ++ token ∷ []) tail
lexed_more bytes tokens rest token tail l h =
    record {
      forth = λ more s. subst (Spells bytes) (sym (append_assoc tokens (token ∷ []) more)) (l.forth (token ∷ more) (token_before rest token tail more h s));
      back = λ all s.
          let b = l.back all s in
          let r = rest_spells rest token tail b.0 h b.2 in
          (r.0, b.1 ∙ ap (λ xs. tokens ++ xs) r.1 ∙ sym (append_assoc tokens (token ∷ []) r.0), r.2);
    }

pub lexed_all : (bytes : List ℕ) (tokens : List (List ℕ)) (rest : List ℕ) → Lexed bytes tokens rest → length (after_blanks rest) ≡ 0 → Spells bytes tokens
lexed_all bytes tokens rest l e =
    let none : after_blanks rest ≡ [] = no_length (after_blanks rest) e in
    subst (Spells bytes) (nil_behind tokens) (l.forth [] (all_blank rest none))
  where
    no_length : (xs : List ℕ) → length xs ≡ 0 → xs ≡ []
    no_length [] e = refl
    no_length (x ∷ xs) e = absurd (omega arith)

    nil_behind : (xs : List (List ℕ)) → xs ++ [] ≡ xs
    nil_behind [] = refl
    nil_behind (x ∷ xs) = ap (λ ys. x ∷ ys) (nil_behind xs)

pub lexed_stuck : (bytes : List ℕ) (tokens : List (List ℕ)) (rest : List ℕ) → Lexed bytes tokens rest → token_front (after_blanks rest) ≡ None → (length (after_blanks rest) ≡ 0 → ⊥) → (all : List (List ℕ)) → Spells bytes all → ⊥
lexed_stuck bytes tokens rest l h ne all s = let b = l.back all s in stuck rest b.0 h ne b.2
  where
    stuck : (rest : List ℕ) (more : List (List ℕ)) → token_front (after_blanks rest) ≡ None → (length (after_blanks rest) ≡ 0 → ⊥) → Spells rest more → ⊥
    stuck rest [] h ne s = ne (ap length (no_token rest s))
    stuck rest (token ∷ more) h ne s = let f = first_token rest token more s in let e : found token f.0 ≡ None = sym f.1 ∙ h in cc

pub token_shortens : (rest token tail : List ℕ) → token_front (after_blanks rest) ≡ Some (token, tail) → length tail < length rest
token_shortens rest token tail h =
    let b = blanks_split rest in
    let t = token_stands (after_blanks rest) token tail h in
    let e : length rest ≡ length (b.0 ++ (token ++ tail)) = ap length (b.2 ∙ ap (λ xs. b.0 ++ xs) t.0) in
    let n : 0 < length token = some_token token tail t.1 in
    omega (arith, length-append b.0 (token ++ tail), length-append token tail)

-- bytes spell one list of tokens
pub one_spelling : (a b : List (List ℕ)) (bytes : List ℕ) → Spells bytes a → Spells bytes b → a ≡ b
one_spelling [] [] bytes s t = refl
one_spelling [] (y ∷ b) bytes s t =
    let f = first_token bytes y b t in
    let e : found y f.0 ≡ None = sym f.1 ∙ ap token_front (no_token bytes s) in cc
one_spelling (x ∷ a) [] bytes s t =
    let f = first_token bytes x a s in
    let e : found x f.0 ≡ None = sym f.1 ∙ ap token_front (no_token bytes t) in cc
one_spelling (x ∷ a) (y ∷ b) bytes s t =
    let f = first_token bytes x a s in
    let g = first_token bytes y b t in
    let e = found_parts x f.0 y g.0 (sym f.1 ∙ g.1) in
    let rest : a ≡ b = one_spelling a b g.0 (subst (λ r. Spells r a) e.1 f.2) g.2 in
    ap (λ x. x ∷ a) e.0 ∙ ap (λ a. y ∷ a) rest
