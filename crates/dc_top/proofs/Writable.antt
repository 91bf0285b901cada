-- The goto program of a source's program can be written.
use Rattle.std.proofs.Common.{◌≡◌, ℕ, suc, ◌+◌, ◌≤◌, ◌<◌, Bool, true, false, List, [], ◌∷◌, ◌++◌, length, Option, None, Some, refl, sym, subst, arith, length-append}
use Rattle.std.specs.Prelude.{flat_map, not, ◌||◌}
use Rattle.std.specs.List.{list_any, AllByRecursion}
use Rattle.dc_core.specs.Program.{Expr, Literal, Variable, Parameter, ReturnValue, Binary, Program}
use Rattle.dc_text.specs.Words.{same, is_word}
use Rattle.dc_form.specs.Form.{is_name, is_new, AreNew, Source, Clause, Requires, Ensures, Assigns, Assignment, IsTerm, IsSum, IsTest, IsClause, IsAssignment, IsReturn, IsFormed, Spells, IsForm, required, ensured, numbered, returned, program_of, tokens_of}
use Rattle.dc_form.proofs.Claused.{all_to}
use Rattle.dc_goto.proofs.Digits.{and_true}
use Rattle.dc_instrument.specs.Writable.{height, IsLow, IsLowStmt, count_limit, AreOther, IsWritable}
use Rattle.dc_instrument.proofs.Written.Code.{all_append}
use Rattle.dc_instrument.proofs.Written.Names.{differ_back}
use Rattle.dc_top.proofs.Counts.{form_few}

-- Names -------------------------------------------------------------------------------------------------------------

not_true : (b : Bool) → not b ≡ true → b ≡ false
not_true true h = cc
not_true false h = refl

or_false : (a b : Bool) → (a || b) ≡ false → (a ≡ false) × (b ≡ false)
or_false true b h = cc
or_false false b h = (refl, h)

new_word : (names : List (List ℕ)) (name : List ℕ) → is_new names name ≡ true → is_word name ≡ true
new_word names name h = (and_true (is_word name) _ (and_true (is_name name) _ h).0).0

new_other : (names : List (List ℕ)) (name : List ℕ) → is_new names name ≡ true → list_any (same name) names ≡ false
new_other names name h = not_true (list_any (same name) names) (and_true (is_name name) (not (list_any (same name) names)) h).1

any_apart : (name : List ℕ) (xs ys : List (List ℕ)) → list_any (same name) (xs ++ ys) ≡ false → (list_any (same name) xs ≡ false) × (list_any (same name) ys ≡ false)
any_apart name [] ys h = (refl, h)
any_apart name (x ∷ xs) ys h =
    let t = or_false (same name x) (list_any (same name) (xs ++ ys)) h in
    let r = any_apart name xs ys t.1 in (rw t.0 r.0, r.1)

-- a name behind others is none of them
behind_apart : (before names : List (List ℕ)) (name : List ℕ) (rest : List (List ℕ)) → AreNew before (names ++ name ∷ rest) → (list_any (same name) before ≡ false) × (list_any (same name) names ≡ false)
behind_apart before [] name rest new = (new_other before name new.0, refl)
behind_apart before (x ∷ names) name rest new =
    let r = behind_apart (before ++ x ∷ []) names name rest new.1 in
    let t = any_apart name before (x ∷ []) r.0 in
    let u = or_false (same name x) false t.1 in (t.0, rw u.0 r.1)

words_named : (before names : List (List ℕ)) (name : List ℕ) (rest : List (List ℕ)) → AreNew before (names ++ name ∷ rest) → (AllByRecursion (λ name. is_word name ≡ true) names) × (is_word name ≡ true)
words_named before [] name rest new = (tt, new_word before name new.0)
words_named before (x ∷ names) name rest new =
    let r = words_named (before ++ x ∷ []) names name rest new.1 in ((new_word before x new.0, r.0), r.1)

-- names that differ from those before them differ from one more that is none of them
others_named : (before names : List (List ℕ)) (name : List ℕ) (rest : List (List ℕ)) → AreNew before (names ++ name ∷ rest) → list_any (same name) names ≡ false → AreOther (name ∷ before) names
others_named before [] name rest new apart = tt
others_named before (x ∷ names) name rest new apart =
    let t = or_false (same name x) (list_any (same name) names) apart in
    (rw (differ_back name x t.0) (new_other before x new.0), others_named (before ++ x ∷ []) names name rest new.1 t.1)

-- Expressions -------------------------------------------------------------------------------------------------------

module _ (s : Source) where
  term_height : (result : Bool) (e : Expr) → IsTerm s result e → height e ≤ 1
  term_height result (Literal z) h = omega arith
  term_height result (Variable k) h = omega arith
  term_height result (Parameter k) h = omega arith
  term_height result ReturnValue h = omega arith
  term_height result (Binary op a b) h = absurd h

  sum_height : (result : Bool) (e : Expr) → IsSum s result e → height e ≤ 2
  sum_height result (Literal z) h = omega arith
  sum_height result (Variable k) h = omega arith
  sum_height result (Parameter k) h = omega arith
  sum_height result ReturnValue h = omega arith
  sum_height result (Binary op a b) h =
      let x = term_height result a h.1 in
      let y = term_height result b h.2 in
      omega arith

  test_height : (result : Bool) (e : Expr) → IsTest s result e → height e ≤ 3
  test_height result (Literal z) h = absurd h
  test_height result (Variable k) h = absurd h
  test_height result (Parameter k) h = absurd h
  test_height result ReturnValue h = absurd h
  test_height result (Binary op a b) h =
      let x = sum_height result a h.1 in
      let y = sum_height result b h.2 in
      omega arith

  required_low : (c : Clause) → IsClause s c → AllByRecursion IsLow (required c)
  required_low (Requires e) h = let low = test_height false e h in (omega arith, tt)
  required_low (Ensures e) h = tt
  required_low (Assigns ks) h = tt

  ensured_low : (c : Clause) → IsClause s c → AllByRecursion IsLow (ensured c)
  ensured_low (Requires e) h = tt
  ensured_low (Ensures e) h = let low = test_height s.gives_int e h in (omega arith, tt)
  ensured_low (Assigns ks) h = tt

  clauses_low : (f : Clause → List Expr) → ((c : Clause) → IsClause s c → AllByRecursion IsLow (f c)) → (clauses : List Clause) → AllByRecursion (IsClause s) clauses → AllByRecursion IsLow (flat_map f clauses)
  clauses_low f low [] h = tt
  clauses_low f low (c ∷ clauses) h = all_append IsLow (f c) (flat_map f clauses) (low c h.0) (clauses_low f low clauses h.1)

  body_low : (site : ℕ) (body : List Assignment) → site + length (numbered site body) < count_limit → AllByRecursion (IsAssignment s) body → AllByRecursion IsLowStmt (numbered site body)
  body_low site [] few h = tt
  body_low site (a ∷ body) few h =
      let low = sum_height false a.value h.0.value in ((omega arith, omega arith), body_low (suc site) body (omega arith) h.1)

  return_low : (gives_int : Bool) (e : Option Expr) → IsReturn s gives_int e → AllByRecursion IsLowStmt (returned e)
  return_low true None h = tt
  return_low true (Some e) h = let low = sum_height false e h in (omega arith, tt)
  return_low false None h = tt
  return_low false (Some e) h = absurd h

-- Programs ----------------------------------------------------------------------------------------------------------

source_is_writable : (s : Source) (bytes : List ℕ) → IsFormed s → Spells bytes (tokens_of s) → length bytes ≤ 1048576 → IsWritable (program_of s)
source_is_writable s bytes formed spelt short =
    let few = form_few s bytes spelt in
    let few_params = few.params in
    let few_statements = few.statements in
    let few_ensures = few.ensures_ in
    let few_targets = few.targets in
    let statements_are = length-append (numbered 1 s.body) (returned s.value) in
    let words = words_named [] s.statics s.name s.params formed.names in
    let apart = behind_apart [] s.statics s.name s.params formed.names in
    let clauses = all_to (IsClause s) s.clauses formed.clauses_are in
    record {
      name = words.1;
      statics = words.0;
      differ = others_named [] s.statics s.name s.params formed.names apart.1;
      few_params = omega arith;
      few_statements = omega arith;
      few_ensures = omega arith;
      few_targets = omega arith;
      low_requires = clauses_low s required (required_low s) s.clauses clauses;
      low_ensures = clauses_low s ensured (ensured_low s) s.clauses clauses;
      low_body =
          all_append IsLowStmt (numbered 1 s.body) (returned s.value)
          (body_low s 1 s.body (omega arith) (all_to (IsAssignment s) s.body formed.body_is))
          (return_low s s.gives_int s.value formed.value_is);
    }

-- the program of a short source can be written
pub form_is_writable : (bytes : List ℕ) (p : Program) → IsForm bytes p → length bytes ≤ 1048576 → IsWritable p
form_is_writable bytes p form short = subst IsWritable (sym form.means) (source_is_writable form.source bytes form.formed form.spelt short)
