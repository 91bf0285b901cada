-- Bodies are read as they are spelt.
use Rattle.std.proofs.Common.{◌≡◌, ℕ, zero, suc, ◌<◌, Bool, true, false, List, [], ◌∷◌, ◌++◌, length, Option, None, Some, refl, sym, ap, subst, ◌∙◌, arith, append_assoc, length-append, append-nil}
use Rattle.std.specs.Prelude.{if◌then◌else◌, codes, flat_map, ◌||◌}
use Rattle.std.specs.List.{position, AllByRecursion}
use Rattle.dc_core.specs.Program.{Expr, Stmt, Assign, Return}
use Rattle.dc_form.specs.Form.{is_name, AreNew, Source, Assignment, IsLvalue, IsSum, IsAssignment, IsReturn, expr_tokens, assignment_tokens, return_tokens, numbered, returned}
use Rattle.dc_text.specs.Words.{same}
use Rattle.dc_text.specs.Reserved.{reserved}
use Rattle.dc_form.specs.Read.Cursor.{front, tail}
use Rattle.dc_form.specs.Read.Reading.{got, given, then_read, behind}
use Rattle.dc_form.specs.Read.Expressions.{read_sum}
use Rattle.dc_form.specs.Read.Body.{place_found, place_of, read_place, read_value, read_assignment, ends, read_assignments, read_return}
use Rattle.dc_form.specs.Read.Source.{read_body}
use Rattle.dc_form.proofs.Named.{equal_bytes, found_there, found_name}
use Rattle.dc_form.proofs.Expressed.{then_parts, then_got, got_parts, given_parts, behind_parts, Declared, place_sound, lvalue_placed, sum_sound, sum_complete}

-- Places ----------------------------------------------------------------------------------------------------

place_read : (names : List (List ℕ)) (n : ℕ) (tokens rest : List (List ℕ)) (e : Expr) → read_place names n tokens ≡ got e rest → (s : Source) → Declared s names n → IsLvalue s e × (tokens ≡ expr_tokens s e ++ rest)
place_read names n [] rest e h s d = cc
place_read names n (word ∷ tokens) rest e h s d =
    let p = given_parts (place_of names n word) e tokens rest h in
    let r = by_place (position (same word) names) refl p.0 in
    (r.0, ap (λ l. word ∷ l) p.1 ∙ ap (λ l. l ++ rest) (sym r.1))
  where
    by_place : (o : Option ℕ) → position (same word) names ≡ o → place_found n o ≡ Some e → IsLvalue s e × (expr_tokens s e ≡ word ∷ [])
    by_place None p h = cc
    by_place (Some k) p h = let there = found_there word names k p in place_sound n k e word names h there.0 there.1 s d

value_read : (names : List (List ℕ)) (n : ℕ) (tokens rest : List (List ℕ)) (e : Expr) → read_value names n tokens ≡ got e rest → (s : Source) → Declared s names n → IsSum s false e × (tokens ≡ expr_tokens s e ++ (codes ";" ∷ rest))
value_read names n tokens rest e h s d =
    let p = then_parts (read_sum names n false tokens) (λ e tokens. behind (codes ";") tokens (λ tokens. got e tokens)) e rest h in
    let t = sum_sound names n false tokens p.middle p.value p.first s d in
    let close = behind_parts 59 [] p.middle (λ tokens. got p.value tokens) e rest p.second in
    let q = got_parts p.value e (tail p.middle) rest close.1 in
    subst (λ e. IsSum s false e × (tokens ≡ expr_tokens s e ++ (codes ";" ∷ rest))) q.0
    (t.0, t.1 ∙ ap (λ l. expr_tokens s p.value ++ l) (close.0 ∙ ap (λ l. codes ";" ∷ l) q.1))

value_complete : (s : Source) → AreNew [] (s.statics ++ (s.name ∷ s.params)) → (e : Expr) → IsSum s false e → (rest : List (List ℕ)) → read_value (s.statics ++ (s.name ∷ s.params)) (length s.statics) (expr_tokens s e ++ (codes ";" ∷ rest)) ≡ got e rest
value_complete s new e h rest =
    then_got (read_sum (s.statics ++ (s.name ∷ s.params)) (length s.statics) false (expr_tokens s e ++ (codes ";" ∷ rest))) (λ e tokens. behind (codes ";") tokens (λ tokens. got e tokens)) e (codes ";" ∷ rest) (sum_complete s false new e h (codes ";" ∷ rest) refl)

-- Assignments -----------------------------------------------------------------------------------------------

record AssignmentRead (names : List (List ℕ)) (n site : ℕ) (statement : Stmt) (tokens rest : List (List ℕ)) : Type 0 where
  assignment : Assignment
  is : statement ≡ Assign site assignment.place assignment.value
  stands : (s : Source) → Declared s names n → IsAssignment s assignment × (tokens ≡ assignment_tokens s assignment ++ rest)

assignment_spelt : (s : Source) (place value : Expr) (rest : List (List ℕ)) → expr_tokens s place ++ (codes "=" ∷ (expr_tokens s value ++ (codes ";" ∷ rest))) ≡ (expr_tokens s place ++ (codes "=" ∷ (expr_tokens s value ++ codes ";" ∷ []))) ++ rest
assignment_spelt s place value rest =
    ap (λ l. expr_tokens s place ++ (codes "=" ∷ l)) (sym (append_assoc (expr_tokens s value) (codes ";" ∷ []) rest))
    ∙ sym (append_assoc (expr_tokens s place) (codes "=" ∷ (expr_tokens s value ++ codes ";" ∷ [])) rest)

assignment_read : (names : List (List ℕ)) (n site : ℕ) (tokens rest : List (List ℕ)) (statement : Stmt) → read_assignment names n site tokens ≡ got statement rest → AssignmentRead names n site statement tokens rest
assignment_read names n site tokens rest statement h =
    let p = then_parts (read_place names n tokens) (λ place tokens. behind (codes "=") tokens (λ tokens. then_read (read_value names n tokens) (λ value tokens. got (Assign site place value) tokens))) statement rest h in
    let equals = behind_parts 61 [] p.middle (λ tokens. then_read (read_value names n tokens) (λ value tokens. got (Assign site p.value value) tokens)) statement rest p.second in
    let v = then_parts (read_value names n (tail p.middle)) (λ value tokens. got (Assign site p.value value) tokens) statement rest equals.1 in
    let q = got_parts (Assign site p.value v.value) statement v.middle rest v.second in
    record {
      assignment = record { place = p.value; value = v.value };
      is = sym q.0;
      stands = λ s d.
          let a = place_read names n tokens p.middle p.value p.first s d in
          let b = value_read names n (tail p.middle) v.middle v.value v.first s d in (
            record { place = a.0; value = b.0 },
            a.1 ∙ ap (λ l. expr_tokens s p.value ++ l) (equals.0 ∙ ap (λ l. codes "=" ∷ l) (b.1 ∙ ap (λ l. expr_tokens s v.value ++ (codes ";" ∷ l)) q.1)) ∙ assignment_spelt s p.value v.value rest,
          );
    }

pub record AssignmentsRead (names : List (List ℕ)) (n site : ℕ) (body all : List Stmt) (tokens rest : List (List ℕ)) : Type 0 where
  pub assignments : List Assignment
  pub adds : all ≡ body ++ numbered site assignments
  pub stands : (s : Source) → Declared s names n → AllByRecursion (IsAssignment s) assignments × (tokens ≡ flat_map (assignment_tokens s) assignments ++ rest)

assignments_read : (most : ℕ) (names : List (List ℕ)) (n site : ℕ) (body all : List Stmt) (tokens rest : List (List ℕ)) → read_assignments most names n site body tokens ≡ got all rest → AssignmentsRead names n site body all tokens rest
assignments_read zero names n site body all tokens rest h = cc
assignments_read (suc most) names n site body all tokens rest h = by_test (λ b ts h. assignments_read most names n (suc site) b all ts rest h) (ends (front tokens)) h
  where
    by_test : ((b : List Stmt) (ts : List (List ℕ)) → read_assignments most names n (suc site) b ts ≡ got all rest → AssignmentsRead names n (suc site) b all ts rest) → (t : Bool) → (if t then got body tokens else then_read (read_assignment names n site tokens) (λ s tokens. read_assignments most names n (suc site) (body ++ s ∷ []) tokens)) ≡ got all rest → AssignmentsRead names n site body all tokens rest
    by_test again true h =
        let q = got_parts body all tokens rest h in
        record { assignments = []; adds = sym q.0 ∙ sym (append-nil body); stands = λ s d. (tt, q.1) }
    by_test again false h =
        let p = then_parts (read_assignment names n site tokens) (λ s tokens. read_assignments most names n (suc site) (body ++ s ∷ []) tokens) all rest h in
        let one = assignment_read names n site tokens p.middle p.value p.first in
        let others = again (body ++ p.value ∷ []) p.middle p.second in
        record {
          assignments = one.assignment ∷ others.assignments;
          adds = others.adds ∙ append_assoc body (p.value ∷ []) (numbered (suc site) others.assignments) ∙ ap (λ s. body ++ (s ∷ numbered (suc site) others.assignments)) one.is;
          stands = λ s d.
              let t = one.stands s d in
              let u = others.stands s d in ((t.0, u.0), t.1 ∙ ap (λ l. assignment_tokens s one.assignment ++ l) u.1 ∙ sym (append_assoc (assignment_tokens s one.assignment) (flat_map (assignment_tokens s) others.assignments) rest));
        }

return_no_name : is_name (codes "return") ≡ false
unfolding reserved
return_no_name = refl

-- a name ends no body
name_goes_on : (word : List ℕ) → is_name word ≡ true → ends word ≡ false
name_goes_on word h = by_tests (same word (codes "return")) refl (same word (codes "}")) refl
  where
    by_tests : (t : Bool) → same word (codes "return") ≡ t → (u : Bool) → same word (codes "}") ≡ u → (t || u) ≡ false
    by_tests true a u b =
        let clash : true ≡ false = sym h ∙ ap is_name (equal_bytes word (codes "return") a) ∙ return_no_name in cc
    by_tests false a true b =
        let clash : true ≡ false = sym h ∙ ap is_name (equal_bytes word (codes "}") b) in cc
    by_tests false a false b = refl

assignment_complete : (s : Source) → AreNew [] (s.statics ++ (s.name ∷ s.params)) → (a : Assignment) → IsAssignment s a → (site : ℕ) (rest : List (List ℕ)) → read_assignment (s.statics ++ (s.name ∷ s.params)) (length s.statics) site (assignment_tokens s a ++ rest) ≡ got (Assign site a.place a.value) rest
assignment_complete s new a h site rest =
    let names = s.statics ++ (s.name ∷ s.params) in
    let n = length s.statics in
    let p = lvalue_placed s new a.place h.place in
    let value = expr_tokens s a.value ++ (codes ";" ∷ rest) in
    let place : read_place names n (expr_tokens s a.place ++ (codes "=" ∷ value)) ≡ got a.place (codes "=" ∷ value) =
    ap (λ l. read_place names n (l ++ (codes "=" ∷ value))) p.token ∙ ap (λ o. given (place_found n o) (codes "=" ∷ value)) p.there ∙ ap (λ o. given o (codes "=" ∷ value)) p.place in
    ap (read_assignment names n site) (sym (assignment_spelt s a.place a.value rest))
    ∙ then_got (read_place names n (expr_tokens s a.place ++ (codes "=" ∷ value))) (λ place tokens. behind (codes "=") tokens (λ tokens. then_read (read_value names n tokens) (λ value tokens. got (Assign site place value) tokens))) a.place (codes "=" ∷ value) place
    ∙ then_got (read_value names n value) (λ value tokens. got (Assign site a.place value) tokens) a.value rest (value_complete s new a.value h.value rest)

assignment_front : (s : Source) → AreNew [] (s.statics ++ (s.name ∷ s.params)) → (a : Assignment) → IsAssignment s a → (rest : List (List ℕ)) → (ends (front (assignment_tokens s a ++ rest)) ≡ false) × (0 < length (assignment_tokens s a))
assignment_front s new a h rest =
    let p = lvalue_placed s new a.place h.place in
    let behind_it = codes "=" ∷ (expr_tokens s a.value ++ codes ";" ∷ []) in
    let name = found_name (s.statics ++ (s.name ∷ s.params)) p.word p.number new p.there in
    let long = ap (λ l. length (l ++ behind_it)) p.token in
    (ap (λ l. ends (front ((l ++ behind_it) ++ rest))) p.token ∙ name_goes_on p.word name, omega (arith, long))

assignments_complete : (all : List Assignment) (s : Source) → AreNew [] (s.statics ++ (s.name ∷ s.params)) → AllByRecursion (IsAssignment s) all → (most site : ℕ) (body : List Stmt) (rest : List (List ℕ)) → length (flat_map (assignment_tokens s) all ++ rest) < most → ends (front rest) ≡ true → read_assignments most (s.statics ++ (s.name ∷ s.params)) (length s.statics) site body (flat_map (assignment_tokens s) all ++ rest) ≡ got (body ++ numbered site all) rest
assignments_complete all s new h zero site body rest lt stop = absurd (omega arith)
assignments_complete [] s new h (suc most) site body rest lt stop =
    ap (λ t. if t then got body rest else then_read (read_assignment (s.statics ++ (s.name ∷ s.params)) (length s.statics) site rest) (λ a tokens. read_assignments most (s.statics ++ (s.name ∷ s.params)) (length s.statics) (suc site) (body ++ a ∷ []) tokens)) stop
    ∙ ap (λ b. got b rest) (sym (append-nil body))
assignments_complete (a ∷ all) s new h (suc most) site body rest lt stop =
    let names = s.statics ++ (s.name ∷ s.params) in
    let n = length s.statics in
    let one = assignment_tokens s a in
    let others = flat_map (assignment_tokens s) all ++ rest in
    let f = assignment_front s new a h.0 others in
    let some = f.1 in
    let whole = append_assoc one (flat_map (assignment_tokens s) all) rest in
    let total = ap length whole in
    let split = length-append one others in
    let fewer : length others < most = omega arith in
    let statement = Assign site a.place a.value in
    ap (read_assignments (suc most) names n site body) whole
    ∙ ap (λ t. if t then got body (one ++ others) else then_read (read_assignment names n site (one ++ others)) (λ a tokens. read_assignments most names n (suc site) (body ++ a ∷ []) tokens)) f.0
    ∙ then_got (read_assignment names n site (one ++ others)) (λ a tokens. read_assignments most names n (suc site) (body ++ a ∷ []) tokens) statement others (assignment_complete s new a h.0 site others)
    ∙ assignments_complete all s new h.1 most (suc site) (body ++ statement ∷ []) rest fewer stop
    ∙ ap (λ b. got b rest) (append_assoc body (statement ∷ []) (numbered (suc site) all))

-- Returns ---------------------------------------------------------------------------------------------------

pub record ReturnRead (names : List (List ℕ)) (n : ℕ) (g : Bool) (body all : List Stmt) (tokens rest : List (List ℕ)) : Type 0 where
  pub value : Option Expr
  pub adds : all ≡ body ++ returned value
  pub stands : (s : Source) → Declared s names n → IsReturn s g value × (tokens ≡ return_tokens s value ++ rest)

return_read : (names : List (List ℕ)) (n : ℕ) (g : Bool) (body all : List Stmt) (tokens rest : List (List ℕ)) → read_return names n g body tokens ≡ got all rest → ReturnRead names n g body all tokens rest
return_read names n true body all tokens rest h =
    let word = behind_parts 114 (codes "eturn") tokens (λ tokens. then_read (read_value names n tokens) (λ e tokens. got (body ++ Return e ∷ []) tokens)) all rest h in
    let p = then_parts (read_value names n (tail tokens)) (λ e tokens. got (body ++ Return e ∷ []) tokens) all rest word.1 in
    let q = got_parts (body ++ Return p.value ∷ []) all p.middle rest p.second in
    record {
      value = Some p.value;
      adds = sym q.0;
      stands = λ s d.
          let v = value_read names n (tail tokens) p.middle p.value p.first s d in
          (v.0, word.0 ∙ ap (λ l. codes "return" ∷ l) (v.1 ∙ ap (λ l. expr_tokens s p.value ++ (codes ";" ∷ l)) q.1 ∙ sym (append_assoc (expr_tokens s p.value) (codes ";" ∷ []) rest)));
    }
return_read names n false body all tokens rest h =
    let q = got_parts body all tokens rest h in
    record { value = None; adds = sym q.0 ∙ sym (append-nil body); stands = λ s d. (tt, q.1) }

return_complete : (s : Source) → AreNew [] (s.statics ++ (s.name ∷ s.params)) → (g : Bool) (value : Option Expr) → IsReturn s g value → (body : List Stmt) (rest : List (List ℕ)) → read_return (s.statics ++ (s.name ∷ s.params)) (length s.statics) g body (return_tokens s value ++ rest) ≡ got (body ++ returned value) rest
return_complete s new true None h body rest = absurd h
return_complete s new true (Some e) h body rest =
    let names = s.statics ++ (s.name ∷ s.params) in
    let n = length s.statics in
    ap (λ l. read_return names n true body (codes "return" ∷ l)) (append_assoc (expr_tokens s e) (codes ";" ∷ []) rest)
    ∙ then_got (read_value names n (expr_tokens s e ++ (codes ";" ∷ rest))) (λ e tokens. got (body ++ Return e ∷ []) tokens) e rest (value_complete s new e h rest)
return_complete s new false None h body rest = ap (λ b. got b rest) (sym (append-nil body))
return_complete s new false (Some e) h body rest = absurd h

return_ends : (s : Source) (value : Option Expr) (rest : List (List ℕ)) → ends (front (return_tokens s value ++ (codes "}" ∷ rest))) ≡ true
return_ends s None rest = refl
return_ends s (Some e) rest = refl

-- Bodies ----------------------------------------------------------------------------------------------------

pub record BodyRead (names : List (List ℕ)) (n : ℕ) (g : Bool) (all : List Stmt) (tokens rest : List (List ℕ)) : Type 0 where
  pub assignments : List Assignment
  pub value : Option Expr
  pub is : all ≡ numbered 1 assignments ++ returned value
  pub stands : (s : Source) → Declared s names n → AllByRecursion (IsAssignment s) assignments × IsReturn s g value × (tokens ≡ flat_map (assignment_tokens s) assignments ++ (return_tokens s value ++ (codes "}" ∷ rest)))

pub body_sound : (names : List (List ℕ)) (n : ℕ) (g : Bool) (all : List Stmt) (tokens rest : List (List ℕ)) → read_body names n g tokens ≡ got all rest → BodyRead names n g all tokens rest
body_sound names n g all tokens rest h =
    let p = then_parts (read_assignments (suc (length tokens)) names n 1 [] tokens) (λ body tokens. then_read (read_return names n g body tokens) (λ body tokens. behind (codes "}") tokens (λ tokens. got body tokens))) all rest h in
    let q = then_parts (read_return names n g p.value p.middle) (λ body tokens. behind (codes "}") tokens (λ tokens. got body tokens)) all rest p.second in
    let close = behind_parts 125 [] q.middle (λ tokens. got q.value tokens) all rest q.second in
    let e = got_parts q.value all (tail q.middle) rest close.1 in
    let a = assignments_read (suc (length tokens)) names n 1 [] p.value tokens p.middle p.first in
    let r = return_read names n g p.value q.value p.middle q.middle q.first in
    record {
      assignments = a.assignments;
      value = r.value;
      is = sym e.0 ∙ r.adds ∙ ap (λ b. b ++ returned r.value) a.adds;
      stands = λ s d.
          let t = a.stands s d in
          let u = r.stands s d in (t.0, u.0, t.1 ∙ ap (λ l. flat_map (assignment_tokens s) a.assignments ++ l) (u.1 ∙ ap (λ l. return_tokens s r.value ++ l) (close.0 ∙ ap (λ l. codes "}" ∷ l) e.1)));
    }

pub body_complete : (s : Source) → AreNew [] (s.statics ++ (s.name ∷ s.params)) → (all : List Assignment) (value : Option Expr) → AllByRecursion (IsAssignment s) all → IsReturn s s.gives_int value → (rest : List (List ℕ)) → read_body (s.statics ++ (s.name ∷ s.params)) (length s.statics) s.gives_int (flat_map (assignment_tokens s) all ++ (return_tokens s value ++ (codes "}" ∷ rest))) ≡ got (numbered 1 all ++ returned value) rest
body_complete s new all value h r rest =
    let names = s.statics ++ (s.name ∷ s.params) in
    let n = length s.statics in
    let last = return_tokens s value ++ (codes "}" ∷ rest) in
    let tokens = flat_map (assignment_tokens s) all ++ last in
    then_got (read_assignments (suc (length tokens)) names n 1 [] tokens) (λ body tokens. then_read (read_return names n s.gives_int body tokens) (λ body tokens. behind (codes "}") tokens (λ tokens. got body tokens))) (numbered 1 all) last
    (assignments_complete all s new h (suc (length tokens)) 1 [] last (omega arith) (return_ends s value rest))
    ∙ then_got (read_return names n s.gives_int (numbered 1 all) last) (λ body tokens. behind (codes "}") tokens (λ tokens. got body tokens)) (numbered 1 all ++ returned value) (codes "}" ∷ rest) (return_complete s new s.gives_int value r (numbered 1 all) (codes "}" ∷ rest))
