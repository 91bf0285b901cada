-- Clauses are read as they are spelt.
use Rattle.std.proofs.Common.{◌≡◌, ℕ, zero, suc, ◌<◌, Bool, true, false, List, [], ◌∷◌, ◌++◌, length, map, Option, None, Some, refl, sym, ap, subst, ◌∙◌, arith, append_assoc, length-append, append-nil}
use Rattle.std.specs.Prelude.{if◌then◌else◌, nat_lt, slice_get, codes, flat_map, All}
use Rattle.std.specs.List.{position, AllByRecursion}
use Rattle.std.proofs.lemmas.Bool.Decides.{nat_tests}
use Rattle.dc_core.specs.Program.{Expr, Variable, Contract}
use Rattle.dc_form.specs.Form.{AreNew, name_at, Source, Clause, Requires, Ensures, Assigns, IsTest, IsClause, expr_tokens, listed, clause_tokens, required, ensured, assigned}
use Rattle.dc_text.specs.Words.{same}
use Rattle.dc_form.specs.Read.Cursor.{front, tail}
use Rattle.dc_form.specs.Read.Reading.{Reading, got, then_read, behind}
use Rattle.dc_form.specs.Read.Expressions.{read_test}
use Rattle.dc_form.specs.Read.Clauses.{read_condition, variable_at, target_of, with_target, read_targets, with_requires, with_ensures, with_assigns, read_requires, read_ensures, read_assigns, read_clause, read_clauses}
use Rattle.dc_form.proofs.Named.{equal_bytes, found_there, found_at, static_there}
use Rattle.dc_form.proofs.Expressed.{then_parts, then_got, got_parts, behind_parts, Declared, test_sound, test_complete}
use Rattle.dc_form.proofs.Turns.{targets_front}

-- Lists -----------------------------------------------------------------------------------------------------

pub all_from : {X : Type 0} (P : X → Type 0) (xs : List X) → AllByRecursion P xs → All P xs
all_from P [] h k d lt = absurd (omega arith)
all_from P (x ∷ xs) h zero d lt = h.0
all_from P (x ∷ xs) h (suc k) d lt = all_from P xs h.1 k d (omega arith)

pub all_to : {X : Type 0} (P : X → Type 0) (xs : List X) → All P xs → AllByRecursion P xs
all_to P [] h = tt
all_to P (x ∷ xs) h = (h 0 x (omega arith), all_to P xs (λ k d lt. h (suc k) d (omega arith)))

-- Conditions ------------------------------------------------------------------------------------------------

condition_sound : (names : List (List ℕ)) (n : ℕ) (valued : Bool) (tokens rest : List (List ℕ)) (e : Expr) → read_condition names n valued tokens ≡ got e rest → (s : Source) → Declared s names n → IsTest s valued e × (tokens ≡ codes "(" ∷ (expr_tokens s e ++ codes ")" ∷ rest))
condition_sound names n valued tokens rest e h s d =
    let open_ = behind_parts 40 [] tokens (λ tokens. then_read (read_test names n valued tokens) (λ e tokens. behind (codes ")") tokens (λ tokens. got e tokens))) e rest h in
    let p = then_parts (read_test names n valued (tail tokens)) (λ e tokens. behind (codes ")") tokens (λ tokens. got e tokens)) e rest open_.1 in
    let t = test_sound names n valued (tail tokens) p.middle p.value p.first s d in
    let close = behind_parts 41 [] p.middle (λ tokens. got p.value tokens) e rest p.second in
    let q = got_parts p.value e (tail p.middle) rest close.1 in
    subst (λ e. IsTest s valued e × (tokens ≡ codes "(" ∷ (expr_tokens s e ++ codes ")" ∷ rest))) q.0
    (t.0, open_.0 ∙ ap (λ l. codes "(" ∷ l) (t.1 ∙ ap (λ l. expr_tokens s p.value ++ l) (close.0 ∙ ap (λ l. codes ")" ∷ l) q.1)))

condition_complete : (s : Source) (valued : Bool) → AreNew [] (s.statics ++ (s.name ∷ s.params)) → (e : Expr) → IsTest s valued e → (rest : List (List ℕ)) → read_condition (s.statics ++ (s.name ∷ s.params)) (length s.statics) valued (codes "(" ∷ (expr_tokens s e ++ codes ")" ∷ rest)) ≡ got e rest
condition_complete s valued new e h rest =
    then_got (read_test (s.statics ++ (s.name ∷ s.params)) (length s.statics) valued (expr_tokens s e ++ codes ")" ∷ rest)) (λ e tokens. behind (codes ")") tokens (λ tokens. got e tokens)) e (codes ")" ∷ rest)
    (test_complete s valued new e h (codes ")" ∷ rest) refl)

-- Targets ---------------------------------------------------------------------------------------------------

abbrev word_of : Source → ℕ → List (List ℕ)
word_of s k = name_at s.statics k ∷ []

-- a variable's name stands for it
record Target (names : List (List ℕ)) (n : ℕ) (word : List ℕ) (e : Expr) : Type 0 where
  number : ℕ
  variable : e ≡ Variable number
  stands : (s : Source) → Declared s names n → (number < length s.statics) × (name_at s.statics number ≡ word)

target_sound : (names : List (List ℕ)) (n : ℕ) (word : List ℕ) (e : Expr) → target_of names n word ≡ Some e → Target names n word e
target_sound names n word e h = by_place (position (same word) names) refl h
  where
    some_expr : (a b : Expr) → Some a ≡ Some b → a ≡ b
    some_expr a b h = cc

    some_word : (a b : List ℕ) → Some a ≡ Some b → a ≡ b
    some_word a b h = cc

    by_test : (k : ℕ) → position (same word) names ≡ Some k → (t : Bool) → nat_lt k n ≡ t → (if t then Some (Variable k) else None) ≡ Some e → Target names n word e
    by_test k p true a h =
        let below : k < n = grind (arith, nat_tests) in
        record {
          number = k;
          variable = sym (some_expr (Variable k) e h);
          stands = λ s d.
              let count = d.count in
              let lt : k < length s.statics = omega arith in
              let there : slice_get (s.statics ++ (s.name ∷ s.params)) k ≡ Some word = ap (λ names. slice_get names k) (sym d.names_are) ∙ (found_there word names k p).1 in (lt, some_word (name_at s.statics k) word (sym (static_there s.statics s.params s.name k lt) ∙ there));
        }
    by_test k p false a h = cc

    by_place : (o : Option ℕ) → position (same word) names ≡ o → variable_at n o ≡ Some e → Target names n word e
    by_place None p h = cc
    by_place (Some k) p h = by_test k p (nat_lt k n) refl h

-- variables that were read behind others
record Targets (names : List (List ℕ)) (n : ℕ) (es all : List Expr) (tokens rest : List (List ℕ)) : Type 0 where
  first : ℕ
  more : List ℕ
  adds : all ≡ es ++ map Variable (first ∷ more)
  stands : (s : Source) → Declared s names n → AllByRecursion (λ k. k < length s.statics) (first ∷ more) × (tokens ≡ listed (map (word_of s) (first ∷ more)) ++ rest)

one_target : (names : List (List ℕ)) (n : ℕ) (es all : List Expr) (e : Expr) (word : List ℕ) (tokens rest : List (List ℕ)) → Target names n word e → got (es ++ e ∷ []) tokens ≡ got all rest → Targets names n es all (word ∷ tokens) rest
one_target names n es all e word tokens rest t h =
    let q = got_parts (es ++ e ∷ []) all tokens rest h in
    record {
      first = t.number;
      more = [];
      adds = sym q.0 ∙ ap (λ e. es ++ e ∷ []) t.variable;
      stands = λ s d. let r = t.stands s d in ((r.0, tt), ap (λ l. word ∷ l) q.1 ∙ ap (λ w. w ∷ rest) (sym r.1));
    }

more_targets : (names : List (List ℕ)) (n : ℕ) (es all : List Expr) (e : Expr) (word mark : List ℕ) (tokens rest : List (List ℕ)) → Target names n word e → mark ≡ codes "," → Targets names n (es ++ e ∷ []) all tokens rest → Targets names n es all (word ∷ mark ∷ tokens) rest
more_targets names n es all e word mark tokens rest t m r =
    record {
      first = t.number;
      more = r.first ∷ r.more;
      adds = r.adds ∙ append_assoc es (e ∷ []) (map Variable (r.first ∷ r.more)) ∙ ap (λ e. es ++ (e ∷ map Variable (r.first ∷ r.more))) t.variable;
      stands = λ s d.
          let a = t.stands s d in
          let b = r.stands s d in ((a.0, b.0), ap (λ l. word ∷ mark ∷ l) b.1 ∙ ap (λ m. word ∷ m ∷ (listed (map (word_of s) (r.first ∷ r.more)) ++ rest)) m ∙ ap (λ w. w ∷ codes "," ∷ (listed (map (word_of s) (r.first ∷ r.more)) ++ rest)) (sym a.1));
    }

with_target_parts : {A : Type 0} (o : Option Expr) (f : Expr → Reading A) (b : A) (rest : List (List ℕ)) → with_target o f ≡ got b rest → (e : Expr) × (o ≡ Some e) × (f e ≡ got b rest)
with_target_parts None f b rest h = cc
with_target_parts (Some e) f b rest h = (e, refl, h)

targets_sound : (tokens : List (List ℕ)) (names : List (List ℕ)) (n : ℕ) (es all : List Expr) (rest : List (List ℕ)) → read_targets names n es tokens ≡ got all rest → Targets names n es all tokens rest
targets_sound [] names n es all rest h = cc
targets_sound (word ∷ []) names n es all rest h =
    let p = with_target_parts (target_of names n word) (λ e. got (es ++ e ∷ []) []) all rest h in
    one_target names n es all p.0 word [] rest (target_sound names n word p.0 p.1) p.2
targets_sound (word ∷ mark ∷ tokens) names n es all rest h =
    let p = with_target_parts (target_of names n word) (λ e. if same mark (codes ",") then read_targets names n (es ++ e ∷ []) tokens else got (es ++ e ∷ []) (mark ∷ tokens)) all rest h in
    let t = target_sound names n word p.0 p.1 in
    by_mark (λ h. targets_sound tokens names n (es ++ p.0 ∷ []) all rest h) p.0 t (same mark (codes ",")) refl p.2
  where
    by_mark : {e : Expr} → (read_targets names n (es ++ e ∷ []) tokens ≡ got all rest → Targets names n (es ++ e ∷ []) all tokens rest) → (f : Expr) → Target names n word e → (t : Bool) → same mark (codes ",") ≡ t → (if t then read_targets names n (es ++ e ∷ []) tokens else got (es ++ e ∷ []) (mark ∷ tokens)) ≡ got all rest → Targets names n es all (word ∷ mark ∷ tokens) rest
    by_mark {e} again f t true a h = more_targets names n es all e word mark tokens rest t (equal_bytes mark (codes ",") a) (again h)
    by_mark {e} again f t false a h = one_target names n es all e word (mark ∷ tokens) rest t h

target_complete : (s : Source) → AreNew [] (s.statics ++ (s.name ∷ s.params)) → (k : ℕ) → k < length s.statics → target_of (s.statics ++ (s.name ∷ s.params)) (length s.statics) (name_at s.statics k) ≡ Some (Variable k)
target_complete s new k lt =
    let below : nat_lt k (length s.statics) ≡ true = grind (arith, nat_tests) in
    ap (variable_at (length s.statics)) (found_at (s.statics ++ (s.name ∷ s.params)) [] k (name_at s.statics k) new (static_there s.statics s.params s.name k lt))
    ∙ ap (λ t. if t then Some (Variable k) else None) below

targets_complete : (ks : List ℕ) (s : Source) → AreNew [] (s.statics ++ (s.name ∷ s.params)) → (k : ℕ) → AllByRecursion (λ k. k < length s.statics) (k ∷ ks) → (es : List Expr) (rest : List (List ℕ)) → same (front rest) (codes ",") ≡ false → read_targets (s.statics ++ (s.name ∷ s.params)) (length s.statics) es (listed (map (word_of s) (k ∷ ks)) ++ rest) ≡ got (es ++ map Variable (k ∷ ks)) rest
targets_complete [] s new k h es rest stop =
    let names = s.statics ++ (s.name ∷ s.params) in
    let n = length s.statics in
    targets_front names n es (name_at s.statics k) rest
    ∙ ap (λ o. with_target o (λ e. if same (front rest) (codes ",") then read_targets names n (es ++ e ∷ []) (tail rest) else got (es ++ e ∷ []) rest)) (target_complete s new k h.0)
    ∙ ap (λ t. if t then read_targets names n (es ++ Variable k ∷ []) (tail rest) else got (es ++ Variable k ∷ []) rest) stop
targets_complete (j ∷ ks) s new k h es rest stop =
    let names = s.statics ++ (s.name ∷ s.params) in
    let n = length s.statics in
    let behind_it = codes "," ∷ (listed (map (word_of s) (j ∷ ks)) ++ rest) in
    targets_front names n es (name_at s.statics k) behind_it
    ∙ ap (λ o. with_target o (λ e. if same (front behind_it) (codes ",") then read_targets names n (es ++ e ∷ []) (tail behind_it) else got (es ++ e ∷ []) behind_it)) (target_complete s new k h.0)
    ∙ targets_complete ks s new j h.1 (es ++ Variable k ∷ []) rest stop
    ∙ ap (λ es. got es rest) (append_assoc es (Variable k ∷ []) (map Variable (j ∷ ks)))

-- Clauses ---------------------------------------------------------------------------------------------------

-- a contract with another clause, and with others
abbrev pub added : Contract → Clause → Contract
added c clause =
    record { requires_ = c.requires_ ++ required clause; ensures_ = c.ensures_ ++ ensured clause; assigns = c.assigns ++ assigned clause }

abbrev pub all_added : Contract → List Clause → Contract
all_added c cs =
    record {
      requires_ = c.requires_ ++ flat_map required cs;
      ensures_ = c.ensures_ ++ flat_map ensured cs;
      assigns = c.assigns ++ flat_map assigned cs;
    }

abbrev contract : List Expr → List Expr → List Expr → Contract
contract r e a = record { requires_ = r; ensures_ = e; assigns = a }

contract_same : (r e a r2 e2 a2 : List Expr) → r ≡ r2 → e ≡ e2 → a ≡ a2 → contract r e a ≡ contract r2 e2 a2
contract_same r e a r2 e2 a2 p q s = ap (λ r. contract r e a) p ∙ ap (λ e. contract r2 e a) q ∙ ap (contract r2 e2) s

-- a clause that was read
record ClauseRead (names : List (List ℕ)) (n : ℕ) (g : Bool) (c d : Contract) (tokens rest : List (List ℕ)) : Type 0 where
  clause : Clause
  adds : d ≡ added c clause
  stands : (s : Source) → Declared s names n → s.gives_int ≡ g → IsClause s clause × (tokens ≡ clause_tokens s clause ++ rest)

word_front : (word : List ℕ) (tokens : List (List ℕ)) (byte : ℕ) (bytes : List ℕ) → word ≡ byte ∷ bytes → same (front tokens) word ≡ true → tokens ≡ word ∷ tail tokens
word_front word [] byte bytes p h = let e : same [] (byte ∷ bytes) ≡ true = ap (same []) (sym p) ∙ h in cc
word_front word (token ∷ tokens) byte bytes p h = ap (λ w. w ∷ tokens) (equal_bytes token word h)

condition_tokens : (s : Source) (e : Expr) (word : List ℕ) (tokens rest : List (List ℕ)) → tokens ≡ word ∷ tail tokens → tail tokens ≡ codes "(" ∷ (expr_tokens s e ++ codes ")" ∷ rest) → tokens ≡ (word ∷ codes "(" ∷ (expr_tokens s e ++ codes ")" ∷ [])) ++ rest
condition_tokens s e word tokens rest p q = p ∙ ap (λ l. word ∷ l) q ∙ ap (λ l. word ∷ codes "(" ∷ l) (sym (append_assoc (expr_tokens s e) (codes ")" ∷ []) rest))

requires_sound : (names : List (List ℕ)) (n : ℕ) (g : Bool) (c d : Contract) (tokens rest : List (List ℕ)) → same (front tokens) (codes "__CPROVER_requires") ≡ true → read_requires names n c (tail tokens) ≡ got d rest → ClauseRead names n g c d tokens rest
requires_sound names n g c d tokens rest w h =
    let p = then_parts (read_condition names n false (tail tokens)) (λ e tokens. got (with_requires c e) tokens) d rest h in
    let q = got_parts (with_requires c p.value) d p.middle rest p.second in
    record {
      clause = Requires p.value;
      adds = sym q.0 ∙ contract_same (c.requires_ ++ p.value ∷ []) c.ensures_ c.assigns (c.requires_ ++ p.value ∷ []) (c.ensures_ ++ []) (c.assigns ++ []) refl (sym (append-nil c.ensures_)) (sym (append-nil c.assigns));
      stands = λ s ds gi.
          let t = condition_sound names n false (tail tokens) p.middle p.value p.first s ds in
          (t.0, condition_tokens s p.value (codes "__CPROVER_requires") tokens rest (word_front (codes "__CPROVER_requires") tokens 95 (codes "_CPROVER_requires") refl w) (t.1 ∙ ap (λ l. codes "(" ∷ (expr_tokens s p.value ++ codes ")" ∷ l)) q.1));
    }

ensures_sound : (names : List (List ℕ)) (n : ℕ) (g : Bool) (c d : Contract) (tokens rest : List (List ℕ)) → same (front tokens) (codes "__CPROVER_ensures") ≡ true → read_ensures names n g c (tail tokens) ≡ got d rest → ClauseRead names n g c d tokens rest
ensures_sound names n g c d tokens rest w h =
    let p = then_parts (read_condition names n g (tail tokens)) (λ e tokens. got (with_ensures c e) tokens) d rest h in
    let q = got_parts (with_ensures c p.value) d p.middle rest p.second in
    record {
      clause = Ensures p.value;
      adds = sym q.0 ∙ contract_same c.requires_ (c.ensures_ ++ p.value ∷ []) c.assigns (c.requires_ ++ []) (c.ensures_ ++ p.value ∷ []) (c.assigns ++ []) (sym (append-nil c.requires_)) refl (sym (append-nil c.assigns));
      stands = λ s ds gi.
          let t = condition_sound names n g (tail tokens) p.middle p.value p.first s ds in
          (subst (λ g. IsTest s g p.value) (sym gi) t.0, condition_tokens s p.value (codes "__CPROVER_ensures") tokens rest (word_front (codes "__CPROVER_ensures") tokens 95 (codes "_CPROVER_ensures") refl w) (t.1 ∙ ap (λ l. codes "(" ∷ (expr_tokens s p.value ++ codes ")" ∷ l)) q.1));
    }

assigns_sound : (names : List (List ℕ)) (n : ℕ) (g : Bool) (c d : Contract) (tokens rest : List (List ℕ)) → same (front tokens) (codes "__CPROVER_assigns") ≡ true → read_assigns names n c (tail tokens) ≡ got d rest → ClauseRead names n g c d tokens rest
assigns_sound names n g c d tokens rest w h =
    let open_ = behind_parts 40 [] (tail tokens) (λ tokens. then_read (read_targets names n c.assigns tokens) (λ es tokens. behind (codes ")") tokens (λ tokens. got (with_assigns c es) tokens))) d rest h in
    let p = then_parts (read_targets names n c.assigns (tail (tail tokens))) (λ es tokens. behind (codes ")") tokens (λ tokens. got (with_assigns c es) tokens)) d rest open_.1 in
    let close = behind_parts 41 [] p.middle (λ tokens. got (with_assigns c p.value) tokens) d rest p.second in
    let q = got_parts (with_assigns c p.value) d (tail p.middle) rest close.1 in
    let r = targets_sound (tail (tail tokens)) names n c.assigns p.value p.middle p.first in
    record {
      clause = Assigns (r.first ∷ r.more);
      adds = sym q.0 ∙ contract_same c.requires_ c.ensures_ p.value (c.requires_ ++ []) (c.ensures_ ++ []) (c.assigns ++ map Variable (r.first ∷ r.more)) (sym (append-nil c.requires_)) (sym (append-nil c.ensures_)) r.adds;
      stands = λ s ds gi.
          let t = r.stands s ds in
          let list = listed (map (word_of s) (r.first ∷ r.more)) in (
            all_from (λ k. k < length s.statics) (r.first ∷ r.more) t.0,
            word_front (codes "__CPROVER_assigns") tokens 95 (codes "_CPROVER_assigns") refl w
                ∙ ap (λ l. codes "__CPROVER_assigns" ∷ l) (open_.0 ∙ ap (λ l. codes "(" ∷ l) (t.1 ∙ ap (λ l. list ++ l) (close.0 ∙ ap (λ l. codes ")" ∷ l) q.1) ∙ sym (append_assoc list (codes ")" ∷ []) rest))),
          );
    }

clause_sound : (names : List (List ℕ)) (n : ℕ) (g : Bool) (c d : Contract) (tokens rest : List (List ℕ)) → read_clause names n g c tokens ≡ got d rest → ClauseRead names n g c d tokens rest
clause_sound names n g c d tokens rest h =
    by_tests (same (front tokens) (codes "__CPROVER_requires")) refl (same (front tokens) (codes "__CPROVER_ensures")) refl (same (front tokens) (codes "__CPROVER_assigns")) refl h
  where
    by_tests : (t : Bool) → same (front tokens) (codes "__CPROVER_requires") ≡ t → (u : Bool) → same (front tokens) (codes "__CPROVER_ensures") ≡ u → (v : Bool) → same (front tokens) (codes "__CPROVER_assigns") ≡ v → (if t then read_requires names n c (tail tokens) else if u then read_ensures names n g c (tail tokens) else if v then read_assigns names n c (tail tokens) else None) ≡ got d rest → ClauseRead names n g c d tokens rest
    by_tests true a u b v e h = requires_sound names n g c d tokens rest a h
    by_tests false a true b v e h = ensures_sound names n g c d tokens rest b h
    by_tests false a false b true e h = assigns_sound names n g c d tokens rest e h
    by_tests false a false b false e h = cc

-- clauses that were read
pub record ClausesRead (names : List (List ℕ)) (n : ℕ) (g : Bool) (c d : Contract) (tokens rest : List (List ℕ)) : Type 0 where
  pub clauses : List Clause
  pub adds : d ≡ all_added c clauses
  pub stands : (s : Source) → Declared s names n → s.gives_int ≡ g → AllByRecursion (IsClause s) clauses × (tokens ≡ flat_map (clause_tokens s) clauses ++ (codes "{" ∷ rest))

added_all : (c : Contract) (clause : Clause) (cs : List Clause) → all_added (added c clause) cs ≡ all_added c (clause ∷ cs)
added_all c clause cs =
    contract_same ((c.requires_ ++ required clause) ++ flat_map required cs) ((c.ensures_ ++ ensured clause) ++ flat_map ensured cs) ((c.assigns ++ assigned clause) ++ flat_map assigned cs)
    (c.requires_ ++ (required clause ++ flat_map required cs)) (c.ensures_ ++ (ensured clause ++ flat_map ensured cs)) (c.assigns ++ (assigned clause ++ flat_map assigned cs))
    (append_assoc c.requires_ (required clause) (flat_map required cs)) (append_assoc c.ensures_ (ensured clause) (flat_map ensured cs)) (append_assoc c.assigns (assigned clause) (flat_map assigned cs))

added_none : (c : Contract) → c ≡ all_added c []
added_none c = contract_same c.requires_ c.ensures_ c.assigns (c.requires_ ++ []) (c.ensures_ ++ []) (c.assigns ++ []) (sym (append-nil c.requires_)) (sym (append-nil c.ensures_)) (sym (append-nil c.assigns))

pub clauses_sound : (most : ℕ) (names : List (List ℕ)) (n : ℕ) (g : Bool) (c d : Contract) (tokens rest : List (List ℕ)) → read_clauses most names n g c tokens ≡ got d rest → ClausesRead names n g c d tokens rest
clauses_sound zero names n g c d tokens rest h = cc
clauses_sound (suc most) names n g c d tokens rest h = by_test (λ b ts h. clauses_sound most names n g b d ts rest h) (same (front tokens) (codes "{")) refl h
  where
    by_test : ((b : Contract) (ts : List (List ℕ)) → read_clauses most names n g b ts ≡ got d rest → ClausesRead names n g b d ts rest) → (t : Bool) → same (front tokens) (codes "{") ≡ t → (if t then got c (tail tokens) else then_read (read_clause names n g c tokens) (λ c tokens. read_clauses most names n g c tokens)) ≡ got d rest → ClausesRead names n g c d tokens rest
    by_test again true a h =
        let q = got_parts c d (tail tokens) rest h in
        record { clauses = []; adds = sym q.0 ∙ added_none c; stands = λ s ds gi. (tt, word_front (codes "{") tokens 123 [] refl a ∙ ap (λ l. codes "{" ∷ l) q.1) }
    by_test again false a h =
        let p = then_parts (read_clause names n g c tokens) (λ c tokens. read_clauses most names n g c tokens) d rest h in
        let one = clause_sound names n g c p.value tokens p.middle p.first in
        let others = again p.value p.middle p.second in
        record {
          clauses = one.clause ∷ others.clauses;
          adds = others.adds ∙ ap (λ b. all_added b others.clauses) one.adds ∙ added_all c one.clause others.clauses;
          stands = λ s ds gi.
              let t = one.stands s ds gi in
              let u = others.stands s ds gi in ((t.0, u.0), t.1 ∙ ap (λ l. clause_tokens s one.clause ++ l) u.1 ∙ sym (append_assoc (clause_tokens s one.clause) (flat_map (clause_tokens s) others.clauses) (codes "{" ∷ rest)));
        }

clause_complete : (s : Source) → AreNew [] (s.statics ++ (s.name ∷ s.params)) → (clause : Clause) → IsClause s clause → (c : Contract) (rest : List (List ℕ)) → read_clause (s.statics ++ (s.name ∷ s.params)) (length s.statics) s.gives_int c (clause_tokens s clause ++ rest) ≡ got (added c clause) rest
clause_complete s new (Requires e) h c rest =
    let names = s.statics ++ (s.name ∷ s.params) in
    let n = length s.statics in
    ap (λ l. read_requires names n c (codes "(" ∷ l)) (append_assoc (expr_tokens s e) (codes ")" ∷ []) rest)
    ∙ then_got (read_condition names n false (codes "(" ∷ (expr_tokens s e ++ codes ")" ∷ rest))) (λ e tokens. got (with_requires c e) tokens) e rest (condition_complete s false new e h rest)
    ∙ ap (λ d. got d rest) (contract_same (c.requires_ ++ e ∷ []) c.ensures_ c.assigns (c.requires_ ++ e ∷ []) (c.ensures_ ++ []) (c.assigns ++ []) refl (sym (append-nil c.ensures_)) (sym (append-nil c.assigns)))
clause_complete s new (Ensures e) h c rest =
    let names = s.statics ++ (s.name ∷ s.params) in
    let n = length s.statics in
    ap (λ l. read_ensures names n s.gives_int c (codes "(" ∷ l)) (append_assoc (expr_tokens s e) (codes ")" ∷ []) rest)
    ∙ then_got (read_condition names n s.gives_int (codes "(" ∷ (expr_tokens s e ++ codes ")" ∷ rest))) (λ e tokens. got (with_ensures c e) tokens) e rest (condition_complete s s.gives_int new e h rest)
    ∙ ap (λ d. got d rest) (contract_same c.requires_ (c.ensures_ ++ e ∷ []) c.assigns (c.requires_ ++ []) (c.ensures_ ++ e ∷ []) (c.assigns ++ []) (sym (append-nil c.requires_)) refl (sym (append-nil c.assigns)))
clause_complete s new (Assigns []) h c rest = absurd h
clause_complete s new (Assigns (k ∷ ks)) h c rest =
    let names = s.statics ++ (s.name ∷ s.params) in
    let n = length s.statics in
    let list = listed (map (word_of s) (k ∷ ks)) in
    ap (λ l. read_assigns names n c (codes "(" ∷ l)) (append_assoc list (codes ")" ∷ []) rest)
    ∙ then_got (read_targets names n c.assigns (list ++ codes ")" ∷ rest)) (λ es tokens. behind (codes ")") tokens (λ tokens. got (with_assigns c es) tokens)) (c.assigns ++ map Variable (k ∷ ks)) (codes ")" ∷ rest)
    (targets_complete ks s new k (all_to (λ k. k < length s.statics) (k ∷ ks) h) c.assigns (codes ")" ∷ rest) refl)
    ∙ ap (λ d. got d rest) (contract_same c.requires_ c.ensures_ (c.assigns ++ map Variable (k ∷ ks)) (c.requires_ ++ []) (c.ensures_ ++ []) (c.assigns ++ map Variable (k ∷ ks)) (sym (append-nil c.requires_)) (sym (append-nil c.ensures_)) refl)

-- no clause begins as a body does
clause_front : (s : Source) (clause : Clause) (rest : List (List ℕ)) → (same (front (clause_tokens s clause ++ rest)) (codes "{") ≡ false) × (0 < length (clause_tokens s clause))
clause_front s (Requires e) rest = (refl, omega arith)
clause_front s (Ensures e) rest = (refl, omega arith)
clause_front s (Assigns ks) rest = (refl, omega arith)

pub clauses_complete : (cs : List Clause) (s : Source) → AreNew [] (s.statics ++ (s.name ∷ s.params)) → AllByRecursion (IsClause s) cs → (most : ℕ) (c : Contract) (rest : List (List ℕ)) → length (flat_map (clause_tokens s) cs ++ (codes "{" ∷ rest)) < most → read_clauses most (s.statics ++ (s.name ∷ s.params)) (length s.statics) s.gives_int c (flat_map (clause_tokens s) cs ++ (codes "{" ∷ rest)) ≡ got (all_added c cs) rest
clauses_complete cs s new h zero c rest lt = absurd (omega arith)
clauses_complete [] s new h (suc most) c rest lt = ap (λ d. got d rest) (added_none c)
clauses_complete (clause ∷ cs) s new h (suc most) c rest lt =
    let names = s.statics ++ (s.name ∷ s.params) in
    let n = length s.statics in
    let one = clause_tokens s clause in
    let others = flat_map (clause_tokens s) cs ++ (codes "{" ∷ rest) in
    let f = clause_front s clause others in
    let some = f.1 in
    let whole = append_assoc one (flat_map (clause_tokens s) cs) (codes "{" ∷ rest) in
    let total = ap length whole in
    let split = length-append one others in
    let fewer : length others < most = omega arith in
    ap (read_clauses (suc most) names n s.gives_int c) whole
    ∙ ap (λ t. if t then got c (tail (one ++ others)) else then_read (read_clause names n s.gives_int c (one ++ others)) (λ c tokens. read_clauses most names n s.gives_int c tokens)) f.0
    ∙ then_got (read_clause names n s.gives_int c (one ++ others)) (λ c tokens. read_clauses most names n s.gives_int c tokens) (added c clause) others (clause_complete s new clause h.0 c others)
    ∙ clauses_complete cs s new h.1 most (added c clause) rest fewer
    ∙ ap (λ d. got d rest) (added_all c clause cs)
