-- Expressions are read as they are spelt.
use Rattle.std.proofs.Common.{◌≡◌, ℕ, suc, ◌+◌, ◌-◌, ◌≤◌, ◌<◌, Bool, true, false, ◌&&◌, List, [], ◌∷◌, ◌++◌, length, Option, None, Some, refl, sym, ap, subst, ◌∙◌, arith, append_assoc, length-append}
use Rattle.std.specs.Prelude.{if◌then◌else◌, nat_lt, ◌==◌, slice_get, codes, pos, negsuc}
use Rattle.std.specs.List.{position}
use Rattle.std.specs.Fmt.{decimal}
use Rattle.std.proofs.lemmas.Bool.Decides.{nat_tests}
use Rattle.dc_num.specs.declared.operators.BinOp.{BinOp}
use Rattle.dc_num.specs.declared.operators.BinOp.TheVariants.{Add, Sub, Lt, Le, Eq, Ne}
use Rattle.dc_core.specs.Program.{Expr, Literal, Variable, Parameter, ReturnValue, Binary}
use Rattle.dc_form.specs.Form.{AreNew, name_at, Source, IsTerm, IsSum, IsTest, IsLvalue, is_sum_operator, is_test_operator, expr_tokens, operator_token}
use Rattle.dc_text.specs.Words.{same}
use Rattle.dc_form.specs.Read.Cursor.{front, tail}
use Rattle.dc_form.specs.Read.Numbers.{number_of}
use Rattle.dc_form.specs.Read.Reading.{Reading, got, given, then_read, behind}
use Rattle.dc_form.specs.Read.Expressions.{place_at, literal_at, value_of, term_at, term_of, read_term, sum_operator, test_operator, sum_behind, read_sum, test_behind, read_test}
use Rattle.dc_form.proofs.Named.{equal_bytes, and_true, found_there, found_at, not_found, static_there, param_there}
use Rattle.dc_form.proofs.Decimals.{decimal_read, read_decimal, decimal_no_name}

-- Readings --------------------------------------------------------------------------------------------------

-- the parts of what is read behind another reading
pub record Parts {A B : Type 0} (x : Reading A) (f : A → List (List ℕ) → Reading B) (b : B) (rest : List (List ℕ)) : Type 0 where
  pub value : A
  pub middle : List (List ℕ)
  pub first : x ≡ got value middle
  pub second : f value middle ≡ got b rest

pub then_parts : {A B : Type 0} (x : Reading A) (f : A → List (List ℕ) → Reading B) (b : B) (rest : List (List ℕ)) → then_read x f ≡ got b rest → Parts x f b rest
then_parts None f b rest h = cc
then_parts (Some p) f b rest h = record { value = p.0; middle = p.1; first = refl; second = h }

pub then_got : {A B : Type 0} (x : Reading A) (f : A → List (List ℕ) → Reading B) (a : A) (rest : List (List ℕ)) → x ≡ got a rest → then_read x f ≡ f a rest
then_got x f a rest h = ap (λ x. then_read x f) h

-- the values and the tokens of equal readings
pub got_parts : {A : Type 0} (a b : A) (x y : List (List ℕ)) → got a x ≡ got b y → (a ≡ b) × (x ≡ y)
got_parts {A} a b x y e =
    let value : Reading A → A = λ o. elim o [ None ↦ a | Some p ↦ p.0 ] in
    let rest : Reading A → List (List ℕ) = λ o. elim o [ None ↦ x | Some p ↦ p.1 ] in
    (ap value e, ap rest e)

pub given_parts : {A : Type 0} (o : Option A) (b : A) (x y : List (List ℕ)) → given o x ≡ got b y → (o ≡ Some b) × (x ≡ y)
given_parts None b x y h = cc
given_parts (Some a) b x y h = let p = got_parts a b x y h in (ap (λ a. Some a) p.0, p.1)

pub behind_parts : {A : Type 0} (byte : ℕ) (word : List ℕ) (tokens : List (List ℕ)) (f : List (List ℕ) → Reading A) (b : A) (rest : List (List ℕ)) → behind (byte ∷ word) tokens f ≡ got b rest → (tokens ≡ (byte ∷ word) ∷ tail tokens) × (f (tail tokens) ≡ got b rest)
behind_parts byte word [] f b rest h = cc
behind_parts byte word (token ∷ tokens) f b rest h = by_test (same token (byte ∷ word)) refl h
  where
    by_test : (t : Bool) → same token (byte ∷ word) ≡ t → (if t then f tokens else None) ≡ got b rest → (token ∷ tokens ≡ (byte ∷ word) ∷ tokens) × (f tokens ≡ got b rest)
    by_test true e h = (ap (λ w. w ∷ tokens) (equal_bytes token (byte ∷ word) e), h)
    by_test false e h = cc

-- Places ----------------------------------------------------------------------------------------------------

-- the names are those of a source, and n of them are its variables
pub record Declared (s : Source) (names : List (List ℕ)) (n : ℕ) : Type 0 where
  pub names_are : names ≡ s.statics ++ (s.name ∷ s.params)
  pub count : n ≡ length s.statics

some_expr : (a b : Expr) → Some a ≡ Some b → a ≡ b
some_expr a b h = cc

some_word : (a b : List ℕ) → Some a ≡ Some b → a ≡ b
some_word a b h = cc

pub place_sound : (n k : ℕ) (e : Expr) (word : List ℕ) (names : List (List ℕ)) → place_at n k ≡ Some e → k < length names → slice_get names k ≡ Some word → (s : Source) → Declared s names n → IsLvalue s e × (expr_tokens s e ≡ word ∷ [])
place_sound n k e word names h lt there s d = by_tests (nat_lt k n) refl (k == n) refl h
  where
    at_names : slice_get (s.statics ++ (s.name ∷ s.params)) k ≡ Some word
    at_names = ap (λ names. slice_get names k) (sym d.names_are) ∙ there

    variable : k < length s.statics → Variable k ≡ e → IsLvalue s e × (expr_tokens s e ≡ word ∷ [])
    variable lt p =
        let w : name_at s.statics k ≡ word = some_word (name_at s.statics k) word (sym (static_there s.statics s.params s.name k lt) ∙ at_names) in
        subst (λ e. IsLvalue s e × (expr_tokens s e ≡ word ∷ [])) p (lt, ap (λ w. w ∷ []) w)

    parameter : (j : ℕ) → j < length s.params → k ≡ length s.statics + suc j → Parameter j ≡ e → IsLvalue s e × (expr_tokens s e ≡ word ∷ [])
    parameter j lt q p =
        let w : name_at s.params j ≡ word = some_word (name_at s.params j) word (sym (param_there s.statics s.params s.name j lt) ∙ ap (slice_get (s.statics ++ (s.name ∷ s.params))) (sym q) ∙ at_names) in
        subst (λ e. IsLvalue s e × (expr_tokens s e ≡ word ∷ [])) p (lt, ap (λ w. w ∷ []) w)

    by_tests : (t : Bool) → nat_lt k n ≡ t → (u : Bool) → (k == n) ≡ u → (if t then Some (Variable k) else if u then None else Some (Parameter (k - n - 1))) ≡ Some e → IsLvalue s e × (expr_tokens s e ≡ word ∷ [])
    by_tests true a u b h =
        let count = d.count in
        let below : k < n = grind (arith, nat_tests) in
        let lt : k < length s.statics = omega arith in variable lt (some_expr (Variable k) e h)
    by_tests false a true b h = cc
    by_tests false a false b h =
        let count = d.count in
        let total : length names ≡ length s.statics + suc (length s.params) = ap length d.names_are ∙ length-append s.statics (s.name ∷ s.params) in
        let not_below : n ≤ k = grind (arith, nat_tests) in
        let other : k ≡ n → ⊥ = λ p. grind (arith, nat_tests) in
        let above : n < k = omega (arith, other) in
        let j : k - n - 1 < length s.params = omega arith in
        let q : k ≡ length s.statics + suc (k - n - 1) = omega arith in parameter (k - n - 1) j q (some_expr (Parameter (k - n - 1)) e h)

-- a variable or a parameter is found by its name
pub record Placed (s : Source) (e : Expr) : Type 0 where
  pub word : List ℕ
  pub number : ℕ
  pub token : expr_tokens s e ≡ word ∷ []
  pub there : position (same word) (s.statics ++ (s.name ∷ s.params)) ≡ Some number
  pub place : place_at (length s.statics) number ≡ Some e

pub variable_placed : (s : Source) → AreNew [] (s.statics ++ (s.name ∷ s.params)) → (k : ℕ) → k < length s.statics → Placed s (Variable k)
variable_placed s new k lt =
    let below : nat_lt k (length s.statics) ≡ true = grind (arith, nat_tests) in
    record {
      word = name_at s.statics k;
      number = k;
      token = refl;
      there = found_at (s.statics ++ (s.name ∷ s.params)) [] k (name_at s.statics k) new (static_there s.statics s.params s.name k lt);
      place = ap (λ t. if t then Some (Variable k) else if k == length s.statics then None else Some (Parameter (k - length s.statics - 1))) below;
    }

pub parameter_placed : (s : Source) → AreNew [] (s.statics ++ (s.name ∷ s.params)) → (k : ℕ) → k < length s.params → Placed s (Parameter k)
parameter_placed s new k lt =
    record {
      word = name_at s.params k;
      number = length s.statics + suc k;
      token = refl;
      there = found_at (s.statics ++ (s.name ∷ s.params)) [] (length s.statics + suc k) (name_at s.params k) new (param_there s.statics s.params s.name k lt);
      place = at (length s.statics);
    }
  where
    at : (n : ℕ) → place_at n (n + suc k) ≡ Some (Parameter k)
    at n =
        let a : nat_lt (n + suc k) n ≡ false = grind (arith, nat_tests) in
        let b : (n + suc k == n) ≡ false = grind (arith, nat_tests) in
        let c : n + suc k - n - 1 ≡ k = omega arith in
        ap (λ t. if t then Some (Variable (n + suc k)) else if n + suc k == n then None else Some (Parameter (n + suc k - n - 1))) a
        ∙ ap (λ t. if t then None else Some (Parameter (n + suc k - n - 1))) b ∙ ap (λ k. Some (Parameter k)) c

pub lvalue_placed : (s : Source) → AreNew [] (s.statics ++ (s.name ∷ s.params)) → (e : Expr) → IsLvalue s e → Placed s e
lvalue_placed s new (Literal z) h = absurd h
lvalue_placed s new (Variable k) h = variable_placed s new k h
lvalue_placed s new (Parameter k) h = parameter_placed s new k h
lvalue_placed s new ReturnValue h = absurd h
lvalue_placed s new (Binary op a b) h = absurd h

-- Terms -----------------------------------------------------------------------------------------------------

lvalue_term : (s : Source) (valued : Bool) (e : Expr) → IsLvalue s e → IsTerm s valued e
lvalue_term s valued (Literal z) h = absurd h
lvalue_term s valued (Variable k) h = h
lvalue_term s valued (Parameter k) h = h
lvalue_term s valued ReturnValue h = absurd h
lvalue_term s valued (Binary op a b) h = absurd h

value_sound : (valued : Bool) (word : List ℕ) (e : Expr) → value_of valued word ≡ Some e → (s : Source) → IsTerm s valued e × (expr_tokens s e ≡ word ∷ [])
value_sound valued word e h s = by_test (valued && same word (codes "__CPROVER_return_value")) refl (number_of word) refl h
  where
    by_test : (t : Bool) → (valued && same word (codes "__CPROVER_return_value")) ≡ t → (o : Option ℕ) → number_of word ≡ o → (if t then Some ReturnValue else literal_at o) ≡ Some e → IsTerm s valued e × (expr_tokens s e ≡ word ∷ [])
    by_test true a o b h =
        let t = and_true valued (same word (codes "__CPROVER_return_value")) a in
        subst (λ e. IsTerm s valued e × (expr_tokens s e ≡ word ∷ [])) (some_expr ReturnValue e h) (t.0, ap (λ w. w ∷ []) (sym (equal_bytes word (codes "__CPROVER_return_value") t.1)))
    by_test false a None b h = cc
    by_test false a (Some n) b h =
        let r = read_decimal word n b in
        subst (λ e. IsTerm s valued e × (expr_tokens s e ≡ word ∷ [])) (some_expr (Literal (pos n)) e h) (r.1, ap (λ w. w ∷ []) (sym r.0))

term_sound : (names : List (List ℕ)) (n : ℕ) (valued : Bool) (word : List ℕ) (e : Expr) → term_of names n valued word ≡ Some e → (s : Source) → Declared s names n → IsTerm s valued e × (expr_tokens s e ≡ word ∷ [])
term_sound names n valued word e h s d = by_place (position (same word) names) refl h
  where
    by_place : (o : Option ℕ) → position (same word) names ≡ o → term_at n valued word o ≡ Some e → IsTerm s valued e × (expr_tokens s e ≡ word ∷ [])
    by_place None p h = value_sound valued word e h s
    by_place (Some k) p h =
        let there = found_there word names k p in
        let r = place_sound n k e word names h there.0 there.1 s d in (lvalue_term s valued e r.0, r.1)

pub read_term_sound : (names : List (List ℕ)) (n : ℕ) (valued : Bool) (tokens rest : List (List ℕ)) (e : Expr) → read_term names n valued tokens ≡ got e rest → (s : Source) → Declared s names n → IsTerm s valued e × (tokens ≡ expr_tokens s e ++ rest)
read_term_sound names n valued [] rest e h s d = cc
read_term_sound names n valued (word ∷ tokens) rest e h s d =
    let p = given_parts (term_of names n valued word) e tokens rest h in
    let r = term_sound names n valued word e p.0 s d in
    (r.0, ap (λ l. word ∷ l) p.1 ∙ ap (λ l. l ++ rest) (sym r.1))

-- a term is a word with this meaning
pub record Worded (s : Source) (valued : Bool) (e : Expr) : Type 0 where
  pub word : List ℕ
  pub token : expr_tokens s e ≡ word ∷ []
  pub means : term_of (s.statics ++ (s.name ∷ s.params)) (length s.statics) valued word ≡ Some e

placed_worded : (s : Source) (valued : Bool) (e : Expr) → Placed s e → Worded s valued e
placed_worded s valued e p =
    record { word = p.word; token = p.token; means = ap (term_at (length s.statics) valued p.word) p.there ∙ p.place }

literal_value : (valued : Bool) (n : ℕ) → n ≤ 2147483647 → value_of valued (decimal n) ≡ Some (Literal (pos n))
literal_value valued n le = by_test (valued && same (decimal n) (codes "__CPROVER_return_value")) refl
  where
    by_test : (t : Bool) → (valued && same (decimal n) (codes "__CPROVER_return_value")) ≡ t → (if t then Some ReturnValue else literal_at (number_of (decimal n))) ≡ Some (Literal (pos n))
    by_test true a =
        let t = and_true valued (same (decimal n) (codes "__CPROVER_return_value")) a in
        let w = equal_bytes (decimal n) (codes "__CPROVER_return_value") t.1 in
        let clash : None ≡ Some n = sym (ap number_of w) ∙ decimal_read n le in cc
    by_test false a = ap literal_at (decimal_read n le)

term_worded : (s : Source) (valued : Bool) → AreNew [] (s.statics ++ (s.name ∷ s.params)) → (e : Expr) → IsTerm s valued e → Worded s valued e
term_worded s valued new (Literal (pos n)) h =
    record {
      word = decimal n;
      token = refl;
      means = ap (term_at (length s.statics) valued (decimal n)) (not_found (s.statics ++ (s.name ∷ s.params)) [] (decimal n) new (decimal_no_name n h)) ∙ literal_value valued n h;
    }
term_worded s valued new (Literal (negsuc n)) h = absurd h
term_worded s valued new (Variable k) h = placed_worded s valued (Variable k) (variable_placed s new k h)
term_worded s valued new (Parameter k) h = placed_worded s valued (Parameter k) (parameter_placed s new k h)
term_worded s valued new ReturnValue h =
    record {
      word = codes "__CPROVER_return_value";
      token = refl;
      means = ap (term_at (length s.statics) valued (codes "__CPROVER_return_value")) (not_found (s.statics ++ (s.name ∷ s.params)) [] (codes "__CPROVER_return_value") new refl)
          ∙ ap (λ t. if t && same (codes "__CPROVER_return_value") (codes "__CPROVER_return_value") then Some ReturnValue else literal_at (number_of (codes "__CPROVER_return_value"))) h;
    }
term_worded s valued new (Binary op a b) h = absurd h

term_complete : (s : Source) (valued : Bool) → AreNew [] (s.statics ++ (s.name ∷ s.params)) → (e : Expr) → IsTerm s valued e → (rest : List (List ℕ)) → read_term (s.statics ++ (s.name ∷ s.params)) (length s.statics) valued (expr_tokens s e ++ rest) ≡ got e rest
term_complete s valued new e h rest =
    let w = term_worded s valued new e h in
    ap (λ l. read_term (s.statics ++ (s.name ∷ s.params)) (length s.statics) valued (l ++ rest)) w.token ∙ ap (λ o. given o rest) w.means

-- Sums ------------------------------------------------------------------------------------------------------

term_sum : (s : Source) (valued : Bool) (e : Expr) → IsTerm s valued e → IsSum s valued e
term_sum s valued (Literal z) h = h
term_sum s valued (Variable k) h = h
term_sum s valued (Parameter k) h = h
term_sum s valued ReturnValue h = h
term_sum s valued (Binary op a b) h = absurd h

-- an operator in front of tokens
pub record Operated (tokens : List (List ℕ)) (op : BinOp) (may : BinOp → Bool) : Type 0 where
  pub kind : may op ≡ true
  pub token : tokens ≡ operator_token op ∷ tail tokens

some_operator : (a b : BinOp) → Some a ≡ Some b → a ≡ b
some_operator a b h = cc

sum_operated : (tokens : List (List ℕ)) (op : BinOp) → sum_operator (front tokens) ≡ Some op → Operated tokens op is_sum_operator
sum_operated [] op h = cc
sum_operated (word ∷ tokens) op h = by_tests (same word (codes "+")) refl (same word (codes "-")) refl h
  where
    by_tests : (t : Bool) → same word (codes "+") ≡ t → (u : Bool) → same word (codes "-") ≡ u → (if t then Some Add else if u then Some Sub else None) ≡ Some op → Operated (word ∷ tokens) op is_sum_operator
    by_tests true a u b h = subst (λ op. Operated (word ∷ tokens) op is_sum_operator) (some_operator Add op h) (record { kind = refl; token = ap (λ w. w ∷ tokens) (equal_bytes word (codes "+") a) })
    by_tests false a true b h = subst (λ op. Operated (word ∷ tokens) op is_sum_operator) (some_operator Sub op h) (record { kind = refl; token = ap (λ w. w ∷ tokens) (equal_bytes word (codes "-") b) })
    by_tests false a false b h = cc

test_operated : (tokens : List (List ℕ)) (op : BinOp) → test_operator (front tokens) ≡ Some op → Operated tokens op is_test_operator
test_operated [] op h = cc
test_operated (word ∷ tokens) op h = by_tests (same word (codes "==")) refl (same word (codes "!=")) refl (same word (codes "<")) refl (same word (codes "<=")) refl h
  where
    by_tests : (t : Bool) → same word (codes "==") ≡ t → (u : Bool) → same word (codes "!=") ≡ u → (v : Bool) → same word (codes "<") ≡ v → (w : Bool) → same word (codes "<=") ≡ w → (if t then Some Eq else if u then Some Ne else if v then Some Lt else if w then Some Le else None) ≡ Some op → Operated (word ∷ tokens) op is_test_operator
    by_tests true a u b v c w d h = subst (λ op. Operated (word ∷ tokens) op is_test_operator) (some_operator Eq op h) (record { kind = refl; token = ap (λ w. w ∷ tokens) (equal_bytes word (codes "==") a) })
    by_tests false a true b v c w d h = subst (λ op. Operated (word ∷ tokens) op is_test_operator) (some_operator Ne op h) (record { kind = refl; token = ap (λ w. w ∷ tokens) (equal_bytes word (codes "!=") b) })
    by_tests false a false b true c w d h = subst (λ op. Operated (word ∷ tokens) op is_test_operator) (some_operator Lt op h) (record { kind = refl; token = ap (λ w. w ∷ tokens) (equal_bytes word (codes "<") c) })
    by_tests false a false b false c true d h = subst (λ op. Operated (word ∷ tokens) op is_test_operator) (some_operator Le op h) (record { kind = refl; token = ap (λ w. w ∷ tokens) (equal_bytes word (codes "<=") d) })
    by_tests false a false b false c false d h = cc

binary_tokens : (s : Source) (op : BinOp) (a b : Expr) (tokens middle rest : List (List ℕ)) → tokens ≡ expr_tokens s a ++ middle → middle ≡ operator_token op ∷ tail middle → tail middle ≡ expr_tokens s b ++ rest → tokens ≡ expr_tokens s (Binary op a b) ++ rest
binary_tokens s op a b tokens middle rest p q r =
    p ∙ ap (λ l. expr_tokens s a ++ l) (q ∙ ap (λ l. operator_token op ∷ l) r) ∙ sym (append_assoc (expr_tokens s a) (operator_token op ∷ expr_tokens s b) rest)

pub sum_sound : (names : List (List ℕ)) (n : ℕ) (valued : Bool) (tokens rest : List (List ℕ)) (e : Expr) → read_sum names n valued tokens ≡ got e rest → (s : Source) → Declared s names n → IsSum s valued e × (tokens ≡ expr_tokens s e ++ rest)
sum_sound names n valued tokens rest e h s d =
    let p = then_parts (read_term names n valued tokens) (λ a tokens. sum_behind names n valued a (sum_operator (front tokens)) tokens) e rest h in
    let a = read_term_sound names n valued tokens p.middle p.value p.first s d in
    by_operator p.value p.middle a.0 a.1 (sum_operator (front p.middle)) refl p.second
  where
    by_operator : (a : Expr) (middle : List (List ℕ)) → IsTerm s valued a → tokens ≡ expr_tokens s a ++ middle → (o : Option BinOp) → sum_operator (front middle) ≡ o → sum_behind names n valued a o middle ≡ got e rest → IsSum s valued e × (tokens ≡ expr_tokens s e ++ rest)
    by_operator a middle is at None p h =
        let q = got_parts a e middle rest h in
        subst (λ e. IsSum s valued e × (tokens ≡ expr_tokens s e ++ rest)) q.0 (term_sum s valued a is, at ∙ ap (λ l. expr_tokens s a ++ l) q.1)
    by_operator a middle is at (Some op) p h =
        let q = then_parts (read_term names n valued (tail middle)) (λ b tokens. got (Binary op a b) tokens) e rest h in
        let o = sum_operated middle op p in
        let b = read_term_sound names n valued (tail middle) q.middle q.value q.first s d in
        let r = got_parts (Binary op a q.value) e q.middle rest q.second in
        subst (λ e. IsSum s valued e × (tokens ≡ expr_tokens s e ++ rest)) r.0
        ((o.kind, is, b.0), binary_tokens s op a q.value tokens middle rest at o.token (b.1 ∙ ap (λ l. expr_tokens s q.value ++ l) r.1))

sum_operator_read : (op : BinOp) → is_sum_operator op ≡ true → sum_operator (operator_token op) ≡ Some op
sum_operator_read Add h = refl
sum_operator_read Sub h = refl
sum_operator_read op h = cc

test_operator_read : (op : BinOp) → is_test_operator op ≡ true → (test_operator (operator_token op) ≡ Some op) × (sum_operator (operator_token op) ≡ None)
test_operator_read Lt h = (refl, refl)
test_operator_read Le h = (refl, refl)
test_operator_read Eq h = (refl, refl)
test_operator_read Ne h = (refl, refl)
test_operator_read op h = cc

term_alone : (s : Source) (valued : Bool) → AreNew [] (s.statics ++ (s.name ∷ s.params)) → (e : Expr) → IsTerm s valued e → (rest : List (List ℕ)) → sum_operator (front rest) ≡ None → read_sum (s.statics ++ (s.name ∷ s.params)) (length s.statics) valued (expr_tokens s e ++ rest) ≡ got e rest
term_alone s valued new e h rest stop =
    let names = s.statics ++ (s.name ∷ s.params) in
    then_got (read_term names (length s.statics) valued (expr_tokens s e ++ rest)) (λ a tokens. sum_behind names (length s.statics) valued a (sum_operator (front tokens)) tokens) e rest (term_complete s valued new e h rest)
    ∙ ap (λ o. sum_behind names (length s.statics) valued e o rest) stop

pub sum_complete : (s : Source) (valued : Bool) → AreNew [] (s.statics ++ (s.name ∷ s.params)) → (e : Expr) → IsSum s valued e → (rest : List (List ℕ)) → sum_operator (front rest) ≡ None → read_sum (s.statics ++ (s.name ∷ s.params)) (length s.statics) valued (expr_tokens s e ++ rest) ≡ got e rest
sum_complete s valued new (Literal z) h rest stop = term_alone s valued new (Literal z) h rest stop
sum_complete s valued new (Variable k) h rest stop = term_alone s valued new (Variable k) h rest stop
sum_complete s valued new (Parameter k) h rest stop = term_alone s valued new (Parameter k) h rest stop
sum_complete s valued new ReturnValue h rest stop = term_alone s valued new ReturnValue h rest stop
sum_complete s valued new (Binary op a b) h rest stop =
    let names = s.statics ++ (s.name ∷ s.params) in
    let n = length s.statics in
    let middle = operator_token op ∷ (expr_tokens s b ++ rest) in
    ap (read_sum names n valued) (append_assoc (expr_tokens s a) (operator_token op ∷ expr_tokens s b) rest)
    ∙ then_got (read_term names n valued (expr_tokens s a ++ middle)) (λ a tokens. sum_behind names n valued a (sum_operator (front tokens)) tokens) a middle (term_complete s valued new a h.1 middle)
    ∙ ap (λ o. sum_behind names n valued a o middle) (sum_operator_read op h.0)
    ∙ then_got (read_term names n valued (expr_tokens s b ++ rest)) (λ b tokens. got (Binary op a b) tokens) b rest (term_complete s valued new b h.2 rest)

-- Comparisons -----------------------------------------------------------------------------------------------

pub test_sound : (names : List (List ℕ)) (n : ℕ) (valued : Bool) (tokens rest : List (List ℕ)) (e : Expr) → read_test names n valued tokens ≡ got e rest → (s : Source) → Declared s names n → IsTest s valued e × (tokens ≡ expr_tokens s e ++ rest)
test_sound names n valued tokens rest e h s d =
    let p = then_parts (read_sum names n valued tokens) (λ a tokens. test_behind names n valued a (test_operator (front tokens)) tokens) e rest h in
    let a = sum_sound names n valued tokens p.middle p.value p.first s d in
    by_operator p.value p.middle a.0 a.1 (test_operator (front p.middle)) refl p.second
  where
    by_operator : (a : Expr) (middle : List (List ℕ)) → IsSum s valued a → tokens ≡ expr_tokens s a ++ middle → (o : Option BinOp) → test_operator (front middle) ≡ o → test_behind names n valued a o middle ≡ got e rest → IsTest s valued e × (tokens ≡ expr_tokens s e ++ rest)
    by_operator a middle is at None p h = cc
    by_operator a middle is at (Some op) p h =
        let q = then_parts (read_sum names n valued (tail middle)) (λ b tokens. got (Binary op a b) tokens) e rest h in
        let o = test_operated middle op p in
        let b = sum_sound names n valued (tail middle) q.middle q.value q.first s d in
        let r = got_parts (Binary op a q.value) e q.middle rest q.second in
        subst (λ e. IsTest s valued e × (tokens ≡ expr_tokens s e ++ rest)) r.0
        ((o.kind, is, b.0), binary_tokens s op a q.value tokens middle rest at o.token (b.1 ∙ ap (λ l. expr_tokens s q.value ++ l) r.1))

pub test_complete : (s : Source) (valued : Bool) → AreNew [] (s.statics ++ (s.name ∷ s.params)) → (e : Expr) → IsTest s valued e → (rest : List (List ℕ)) → sum_operator (front rest) ≡ None → read_test (s.statics ++ (s.name ∷ s.params)) (length s.statics) valued (expr_tokens s e ++ rest) ≡ got e rest
test_complete s valued new (Literal z) h rest stop = absurd h
test_complete s valued new (Variable k) h rest stop = absurd h
test_complete s valued new (Parameter k) h rest stop = absurd h
test_complete s valued new ReturnValue h rest stop = absurd h
test_complete s valued new (Binary op a b) h rest stop =
    let names = s.statics ++ (s.name ∷ s.params) in
    let n = length s.statics in
    let middle = operator_token op ∷ (expr_tokens s b ++ rest) in
    let o = test_operator_read op h.0 in
    ap (read_test names n valued) (append_assoc (expr_tokens s a) (operator_token op ∷ expr_tokens s b) rest)
    ∙ then_got (read_sum names n valued (expr_tokens s a ++ middle)) (λ a tokens. test_behind names n valued a (test_operator (front tokens)) tokens) a middle (sum_complete s valued new a h.1 middle o.1)
    ∙ ap (λ o. test_behind names n valued a o middle) o.0
    ∙ then_got (read_sum names n valued (expr_tokens s b ++ rest)) (λ b tokens. got (Binary op a b) tokens) b rest (sum_complete s valued new b h.2 rest stop)
