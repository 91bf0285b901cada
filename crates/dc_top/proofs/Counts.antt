-- A source has no more parameters, statements and clauses than bytes.
use Rattle.std.proofs.Common.{ℕ, suc, ◌≤◌, List, [], ◌∷◌, ◌++◌, length, Option, None, Some, ap, arith, length-append, inl, inr}
use Rattle.std.specs.Prelude.{map, flat_map, codes}
use Rattle.std.proofs.lemmas.List.{length-map}
use Rattle.dc_core.specs.Program.{Expr, Variable}
use Rattle.dc_form.specs.Form.{IsTokenBefore, Spells, Source, Clause, Requires, Ensures, Assigns, Assignment, name_at, expr_tokens, static_tokens, listed, params_tokens, clause_tokens, assignment_tokens, return_tokens, result_token, tokens_of, ensured, assigned, numbered, returned}

-- no token is empty
token_there : (token rest : List ℕ) → IsTokenBefore token rest → 1 ≤ length token
token_there [] rest h = absurd (elim h [ inl w ↦ w | inr m ↦ m ])
token_there (b ∷ token) rest h = omega arith

pub tokens_few : (tokens : List (List ℕ)) (bytes : List ℕ) → Spells bytes tokens → length tokens ≤ length bytes
tokens_few [] bytes h = omega arith
tokens_few (token ∷ tokens) bytes h =
    let there = token_there token h.1 h.4 in
    let behind = tokens_few tokens h.1 h.5 in
    let whole = ap length h.3 in
    omega (arith, whole, length-append h.0 (token ++ h.1), length-append token h.1)

-- parts that are no longer, one by one, are no longer together
parts_few : {A B C : Type 0} (f : A → List B) (g : A → List C) → ((x : A) → length (f x) ≤ length (g x)) → (xs : List A) → length (flat_map f xs) ≤ length (flat_map g xs)
parts_few f g h [] = omega arith
parts_few f g h (x ∷ xs) =
    let here = h x in
    let behind = parts_few f g h xs in
    omega (arith, length-append (f x) (flat_map f xs), length-append (g x) (flat_map g xs))

listed_few : {A : Type 0} (f : A → List (List ℕ)) → ((x : A) → 1 ≤ length (f x)) → (xs : List A) → length xs ≤ length (listed (map f xs))
listed_few f h [] = omega arith
listed_few f h (x ∷ []) = h x
listed_few f h (x ∷ next ∷ xs) =
    let here = h x in
    let behind = listed_few f h (next ∷ xs) in
    omega (arith, length-append (f x) (codes "," ∷ listed (map f (next ∷ xs))))

params_few : (names : List (List ℕ)) → length names ≤ length (params_tokens names)
params_few [] = omega arith
params_few (name ∷ names) = listed_few (λ name. codes "int" ∷ name ∷ []) (λ name. omega arith) (name ∷ names)

module _ (s : Source) where
  ensured_few : (c : Clause) → length (ensured c) ≤ length (clause_tokens s c)
  ensured_few (Requires e) = omega arith
  ensured_few (Ensures e) = omega arith
  ensured_few (Assigns ks) = omega arith

  assigned_few : (c : Clause) → length (assigned c) ≤ length (clause_tokens s c)
  assigned_few (Requires e) = omega arith
  assigned_few (Ensures e) = omega arith
  assigned_few (Assigns ks) =
      let targets = listed_few (λ k. name_at s.statics k ∷ []) (λ k. omega arith) ks in
      omega (arith, length-map ks Variable, length-append (listed (map (λ k. name_at s.statics k ∷ []) ks)) (codes ")" ∷ []))

  body_few : (site : ℕ) (body : List Assignment) → length (numbered site body) ≤ length (flat_map (assignment_tokens s) body)
  body_few site [] = omega arith
  body_few site (a ∷ body) =
      let behind = body_few (suc site) body in
      omega (arith, length-append (assignment_tokens s a) (flat_map (assignment_tokens s) body), length-append (expr_tokens s a.place) (codes "=" ∷ (expr_tokens s a.value ++ codes ";" ∷ [])))

  return_few : (e : Option Expr) → length (returned e) ≤ length (return_tokens s e)
  return_few None = omega arith
  return_few (Some e) = omega arith

-- what is counted is at most this many
pub record Few (s : Source) (n : ℕ) : Type 0 where
  pub params : length s.params ≤ n
  pub statements : length (numbered 1 s.body ++ returned s.value) ≤ n
  pub ensures_ : length (flat_map ensured s.clauses) ≤ n
  pub targets : length (flat_map assigned s.clauses) ≤ n

source_few : (s : Source) → Few s (length (tokens_of s))
source_few s =
    let statics = flat_map static_tokens s.statics in
    let params = params_tokens s.params in
    let clauses = flat_map (clause_tokens s) s.clauses in
    let body = flat_map (assignment_tokens s) s.body in
    let last = return_tokens s s.value ++ codes "}" ∷ [] in
    let last_is = length-append (return_tokens s s.value) (codes "}" ∷ []) in
    let body_is = length-append body last in
    let clauses_are = length-append clauses (codes "{" ∷ (body ++ last)) in
    let params_are = length-append params (codes ")" ∷ (clauses ++ (codes "{" ∷ (body ++ last)))) in
    let whole = length-append statics (result_token s.gives_int ∷ s.name ∷ codes "(" ∷ (params ++ (codes ")" ∷ (clauses ++ (codes "{" ∷ (body ++ last)))))) in
    let few_params = params_few s.params in
    let few_body = body_few s 1 s.body in
    let few_return = return_few s s.value in
    let few_ensured = parts_few ensured (clause_tokens s) (ensured_few s) s.clauses in
    let few_assigned = parts_few assigned (clause_tokens s) (assigned_few s) s.clauses in
    let statements_are = length-append (numbered 1 s.body) (returned s.value) in
    record { params = omega arith; statements = omega arith; ensures_ = omega arith; targets = omega arith }

-- a source is counted by its bytes
pub form_few : (s : Source) (bytes : List ℕ) → Spells bytes (tokens_of s) → Few s (length bytes)
form_few s bytes spelt =
    let few = source_few s in
    let tokens = tokens_few (tokens_of s) bytes spelt in
    let a = few.params in
    let b = few.statements in
    let c = few.ensures_ in
    let d = few.targets in
    record { params = omega arith; statements = omega arith; ensures_ = omega arith; targets = omega arith }
