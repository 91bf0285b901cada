-- The program of a source may be run.
use Rattle.std.proofs.Common.{◌≡◌, ℕ, suc, Bool, true, false, List, [], ◌∷◌, ◌++◌, Option, Some, None, refl, sym, subst, arith, pos, negsuc}
use Rattle.std.specs.Prelude.{flat_map, All, nat_eq, codes, ◌&&◌}
use Rattle.std.specs.Cmp.Lexicographic.{pointwise}
use Rattle.std.proofs.lemmas.Int.{ints}
use Rattle.std.proofs.lemmas.Bool.Decides.{nat_tests}
use Rattle.std.proofs.lemmas.List.Elements.{All-nil, All-cons, All-head, All-tail, All-append, All-map}
use Rattle.dc_core.specs.Program.{Expr, Literal, Variable, Parameter, ReturnValue, Binary, Assign, Return, Program}
use Rattle.dc_core.specs.Sound.{Stands, IsLvalue as LvalueStands, IsTarget, StmtStands, IsSound}
use Rattle.dc_form.specs.Form.{is_name, is_new, AreNew, Source, Clause, Requires, Ensures, Assigns, Assignment, IsTerm, IsSum, IsTest, IsClause, IsLvalue, IsAssignment, IsReturn, IsFormed, IsForm, required, ensured, assigned, numbered, returned, program_of}
use Rattle.dc_text.specs.Words.{is_letter, is_word}

first_is_true : (a b : Bool) → (a && b) ≡ true → a ≡ true
first_is_true true b e = refl
first_is_true false b e = cc

-- a word doesn't begin with a dot
word_is_not_start : (name : List ℕ) → is_word name ≡ true → pointwise nat_eq name (codes ".start") ≡ false
word_is_not_start [] e = cc
word_is_not_start (b ∷ bytes) e =
    let l : is_letter b ≡ true = first_is_true (is_letter b) _ e in
    let n : nat_eq b 46 ≡ false = letter_is_no_dot b l in
    rw n refl
  where
    letter_is_no_dot : (b : ℕ) → is_letter b ≡ true → nat_eq b 46 ≡ false
    letter_is_no_dot b l = grind (arith, nat_tests)

pub new_word : (names : List (List ℕ)) (name : List ℕ) → is_new names name ≡ true → is_word name ≡ true
new_word names name e = first_is_true (is_word name) _ (first_is_true (is_name name) _ e)

-- a declared name is a word
declared_word : (names before : List (List ℕ)) (name : List ℕ) (after : List (List ℕ)) → AreNew names (before ++ name ∷ after) → is_word name ≡ true
declared_word names [] name after new = new_word names name new.0
declared_word names (x ∷ before) name after new = declared_word (names ++ x ∷ []) before name after new.1

All-flat_map : {A B : Type 0} (P : B → Type 0) (Q : A → Type 0) (f : A → List B) → ((x : A) → Q x → All P (f x)) → (xs : List A) → All Q xs → All P (flat_map f xs)
All-flat_map P Q f h [] all = All-nil P
All-flat_map P Q f h (x ∷ xs) all = All-append P (f x) (flat_map f xs) (h x (All-head Q x xs all)) (All-flat_map P Q f h xs (All-tail Q x xs all))

module _ (s : Source) where
  term_stands : (result : Bool) (e : Expr) → IsTerm s result e → Stands (program_of s) result e
  term_stands result (Literal (pos n)) h = record { above = omega (arith, ints); below = omega (arith, ints) }
  term_stands result (Literal (negsuc n)) h = absurd h
  term_stands result (Variable k) h = h
  term_stands result (Parameter k) h = h
  term_stands result ReturnValue h = h
  term_stands result (Binary op a b) h = absurd h

  sum_stands : (result : Bool) (e : Expr) → IsSum s result e → Stands (program_of s) result e
  sum_stands result (Literal z) h = term_stands result (Literal z) h
  sum_stands result (Variable k) h = h
  sum_stands result (Parameter k) h = h
  sum_stands result ReturnValue h = h
  sum_stands result (Binary op a b) h = (term_stands result a h.1, term_stands result b h.2)

  test_stands : (result : Bool) (e : Expr) → IsTest s result e → Stands (program_of s) result e
  test_stands result (Literal z) h = absurd h
  test_stands result (Variable k) h = absurd h
  test_stands result (Parameter k) h = absurd h
  test_stands result ReturnValue h = absurd h
  test_stands result (Binary op a b) h = (sum_stands result a h.1, sum_stands result b h.2)

  required_stands : (c : Clause) → IsClause s c → All (Stands (program_of s) false) (required c)
  required_stands (Requires e) h = All-cons (Stands (program_of s) false) e [] (test_stands false e h) (All-nil (Stands (program_of s) false))
  required_stands (Ensures e) h = All-nil (Stands (program_of s) false)
  required_stands (Assigns ks) h = All-nil (Stands (program_of s) false)

  ensured_stands : (c : Clause) → IsClause s c → All (Stands (program_of s) s.gives_int) (ensured c)
  ensured_stands (Requires e) h = All-nil (Stands (program_of s) s.gives_int)
  ensured_stands (Ensures e) h = All-cons (Stands (program_of s) s.gives_int) e [] (test_stands s.gives_int e h) (All-nil (Stands (program_of s) s.gives_int))
  ensured_stands (Assigns ks) h = All-nil (Stands (program_of s) s.gives_int)

  assigned_stands : (c : Clause) → IsClause s c → All (IsTarget (program_of s)) (assigned c)
  assigned_stands (Requires e) h = All-nil (IsTarget (program_of s))
  assigned_stands (Ensures e) h = All-nil (IsTarget (program_of s))
  assigned_stands (Assigns []) h = absurd h
  assigned_stands (Assigns (k ∷ ks)) h = All-map (IsTarget (program_of s)) Variable (k ∷ ks) h

  lvalue_stands : (e : Expr) → IsLvalue s e → LvalueStands (program_of s) e
  lvalue_stands (Literal z) h = h
  lvalue_stands (Variable k) h = h
  lvalue_stands (Parameter k) h = h
  lvalue_stands ReturnValue h = h
  lvalue_stands (Binary op a b) h = h

  body_stands : (site : ℕ) (body : List Assignment) → All (IsAssignment s) body → All (StmtStands (program_of s)) (numbered site body)
  body_stands site [] all = All-nil (StmtStands (program_of s))
  body_stands site (a ∷ body) all =
      let h = All-head (IsAssignment s) a body all in
      All-cons (StmtStands (program_of s)) (Assign site a.place a.value) (numbered (suc site) body)
      (lvalue_stands a.place h.place, sum_stands false a.value h.value)
      (body_stands (suc site) body (All-tail (IsAssignment s) a body all))

  return_stands : (gives_int : Bool) (e : Option Expr) → s.gives_int ≡ gives_int → IsReturn s gives_int e → All (StmtStands (program_of s)) (returned e)
  return_stands true None g h = absurd h
  return_stands true (Some e) g h = All-cons (StmtStands (program_of s)) (Return e) [] (g, sum_stands false e h) (All-nil (StmtStands (program_of s)))
  return_stands false None g h = All-nil (StmtStands (program_of s))
  return_stands false (Some e) g h = absurd h

-- what a formed source means may be run
pub formed_is_sound : (s : Source) → IsFormed s → IsSound (program_of s)
formed_is_sound s formed =
    record {
      name = word_is_not_start s.name (declared_word [] s.statics s.name s.params formed.names);
      few = formed.count;
      requires_ = All-flat_map (Stands (program_of s) false) (IsClause s) required (required_stands s) s.clauses formed.clauses_are;
      ensures_ = All-flat_map (Stands (program_of s) s.gives_int) (IsClause s) ensured (ensured_stands s) s.clauses formed.clauses_are;
      assigns = All-flat_map (IsTarget (program_of s)) (IsClause s) assigned (assigned_stands s) s.clauses formed.clauses_are;
      body =
          All-append (StmtStands (program_of s)) (numbered 1 s.body) (returned s.value) (body_stands s 1 s.body formed.body_is)
          (return_stands s s.gives_int s.value refl formed.value_is);
    }

pub form_is_sound : (bytes : List ℕ) (p : Program) → IsForm bytes p → IsSound p
form_is_sound bytes p form = subst IsSound (sym form.means) (formed_is_sound form.source form.formed)
