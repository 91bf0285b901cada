-- Sources are read as they are spelt.
use Rattle.std.proofs.Common.{◌≡◌, ℕ, suc, ◌-◌, Bool, List, [], ◌∷◌, ◌++◌, length, Option, None, Some, refl, sym, ap, subst, ◌∙◌, arith, append_assoc, length-append}
use Rattle.std.specs.Prelude.{codes, flat_map, Result, Ok, Err, IfOk}
use Rattle.dc_core.specs.Program as plain
use Rattle.dc_core.specs.View.{program_view}
use Rattle.dc_core.specs.Program.{Expr, Stmt, Contract}
use Rattle.dc_core.specs.Whole.{Says}
use Rattle.dc_layout.specs.declared.ctype.CType.{CType}
use Rattle.dc_program.specs.ProgramView as whole
use Rattle.dc_program.specs.declared.program.Function.{Function}
use Rattle.dc_program.specs.declared.program.StaticVariable.{StaticVariable}
use Rattle.dc_form.specs.Form.{AreNew, Source, Clause, Assignment, IsClause, IsAssignment, IsFormed, IsForm, Spells, static_tokens, result_token, params_tokens, clause_tokens, assignment_tokens, return_tokens, tokens_of, numbered, returned, program_of}
use Rattle.dc_form.specs.Read.Reading.{Reading, got, then_read}
use Rattle.dc_form.specs.Read.Signature.{head, head_names, read_head, read_list}
use Rattle.dc_form.specs.Read.Source.{no_clauses, read_contract, read_body, program_with, read_rest, read_program, alone, read_source}
use Rattle.dc_form.proofs.Named.{new_append, new_split}
use Rattle.dc_form.proofs.Expressed.{then_parts, then_got, got_parts, Declared}
use Rattle.dc_form.proofs.Claused.{all_from, all_to, all_added, clauses_sound, clauses_complete}
use Rattle.dc_form.proofs.Bodied.{body_sound, body_complete}
use Rattle.dc_form.proofs.Headed.{head_sound, head_complete, list_sound, list_complete}
use Rattle.dc_form.proofs.Lexed.{one_spelling}

-- the source of what was read
pub record SourceRead (tokens : List (List ℕ)) (p : plain.Program) : Type 0 where
  pub source : Source
  pub formed : IsFormed source
  pub spelt : tokens ≡ tokens_of source
  pub means : p ≡ program_of source

alone_parts : (r : Reading plain.Program) (p : plain.Program) → alone r ≡ Some p → r ≡ got p []
alone_parts None p h = cc
alone_parts (Some (q, [])) p h = let e : q ≡ p = some_program q p h in ap (λ q. got q []) e
  where
    some_program : (a b : plain.Program) → Some a ≡ Some b → a ≡ b
    some_program a b h = cc
alone_parts (Some (q, token ∷ tokens)) p h = cc

abbrev source_of : List (List ℕ) → Bool → List ℕ → List (List ℕ) → List Clause → List Assignment → Option Expr → Source
source_of statics g name params clauses body value =
    record { statics = statics; gives_int = g; name = name; params = params; clauses = clauses; body = body; value = value }

abbrev program_with_params : List (List ℕ) → Bool → List ℕ → ℕ → Contract → List Stmt → plain.Program
program_with_params statics g name params contract body =
    record { statics = statics; function = record { name = name; gives_int = g; params = params; contract = contract; body = body } }

pub source_sound : (tokens : List (List ℕ)) (p : plain.Program) → read_source tokens ≡ Some p → SourceRead tokens p
source_sound tokens p h =
    let a = then_parts (read_head [] tokens) (λ h tokens. then_read (read_list (head_names h) tokens) (λ names tokens. read_rest h names tokens)) p [] (alone_parts (read_program tokens) p h) in
    let b = then_parts (read_list (head_names a.value) a.middle) (λ names tokens. read_rest a.value names tokens) p [] a.second in
    let n = length a.value.statics in
    let g = a.value.gives_int in
    let c = then_parts (read_contract b.value n g b.middle) (λ contract tokens. then_read (read_body b.value n g tokens) (λ body tokens. got (program_with a.value n b.value contract body) tokens)) p [] b.second in
    let d = then_parts (read_body b.value n g c.middle) (λ body tokens. got (program_with a.value n b.value c.value body) tokens) p [] c.second in
    let e = got_parts (program_with a.value n b.value c.value d.value) p d.middle [] d.second in
    let hs = head_sound tokens [] a.value a.middle a.first in
    let ps = list_sound (head_names a.value) b.value a.middle b.middle b.first in
    let cs = clauses_sound (suc (length b.middle)) b.value n g no_clauses c.value b.middle c.middle c.first in
    let bs = body_sound b.value n g d.value c.middle d.middle d.first in
    let s = source_of a.value.statics g a.value.name ps.0 cs.clauses bs.assignments bs.value in
    let names : b.value ≡ s.statics ++ (s.name ∷ s.params) = ps.1 ∙ append_assoc a.value.statics (a.value.name ∷ []) ps.0 in
    let declared : Declared s b.value n = record { names_are = names; count = refl } in
    let ct = cs.stands s declared refl in
    let bt = bs.stands s declared in
    let statics : hs.more ≡ a.value.statics = sym hs.statics in
    let first : AreNew [] (a.value.statics ++ a.value.name ∷ []) = subst (λ l. AreNew [] (l ++ a.value.name ∷ [])) statics hs.new in
    let all_new : AreNew [] (s.statics ++ (s.name ∷ s.params)) = subst (AreNew []) (append_assoc a.value.statics (a.value.name ∷ []) ps.0) (new_append (a.value.statics ++ a.value.name ∷ []) [] ps.0 first ps.2) in
    let count : length b.value - n - 1 ≡ length ps.0 = params_count b.value a.value.statics ps.0 a.value.name names in
    record {
      source = s;
      formed = record {
        names = all_new;
        count = hs.room (omega arith);
        clauses_are = all_from (IsClause s) s.clauses ct.0;
        body_is = all_from (IsAssignment s) s.body bt.0;
        value_is = bt.1;
      };
      spelt = hs.spelt ∙ ap (λ l. flat_map static_tokens l ++ (result_token g ∷ a.value.name ∷ a.middle)) statics
          ∙ ap (λ l. flat_map static_tokens a.value.statics ++ (result_token g ∷ a.value.name ∷ l))
          (ps.3 ∙ ap (λ l. codes "(" ∷ (params_tokens ps.0 ++ (codes ")" ∷ l)))
          (ct.1 ∙ ap (λ l. flat_map (clause_tokens s) s.clauses ++ (codes "{" ∷ l))
          (bt.2 ∙ ap (λ l. flat_map (assignment_tokens s) s.body ++ (return_tokens s s.value ++ (codes "}" ∷ l))) e.1)));
      means = sym e.0
          ∙ ap (λ k. program_with_params a.value.statics g a.value.name k c.value d.value) count
          ∙ ap (λ c. program_with_params a.value.statics g a.value.name (length ps.0) c d.value) cs.adds
          ∙ ap (λ d. program_with_params a.value.statics g a.value.name (length ps.0) (all_added no_clauses cs.clauses) d) bs.is;
    }
  where
    params_count : (names statics params : List (List ℕ)) (name : List ℕ) → names ≡ statics ++ (name ∷ params) → length names - length statics - 1 ≡ length params
    params_count names statics params name e =
        let total = ap length e in
        omega (arith, length-append statics (name ∷ params))

pub source_complete : (s : Source) → IsFormed s → read_source (tokens_of s) ≡ Some (program_of s)
source_complete s f =
    let new : AreNew [] ((s.statics ++ s.name ∷ []) ++ s.params) = subst (AreNew []) (sym (append_assoc s.statics (s.name ∷ []) s.params)) f.names in
    let parts = new_split (s.statics ++ s.name ∷ []) [] s.params new in
    let names = s.statics ++ (s.name ∷ s.params) in
    let n = length s.statics in
    let h = head s.statics s.gives_int s.name in
    let last = flat_map (assignment_tokens s) s.body ++ (return_tokens s s.value ++ codes "}" ∷ []) in
    let clauses = flat_map (clause_tokens s) s.clauses ++ (codes "{" ∷ last) in
    let list = codes "(" ∷ (params_tokens s.params ++ (codes ")" ∷ clauses)) in
    let contract = all_added no_clauses s.clauses in
    let body = numbered 1 s.body ++ returned s.value in
    let count : length names - n - 1 ≡ length s.params = omega (arith, length-append s.statics (s.name ∷ s.params)) in
    ap alone
    (then_got (read_head [] (tokens_of s)) (λ h tokens. then_read (read_list (head_names h) tokens) (λ names tokens. read_rest h names tokens)) h list (head_complete s.statics [] s.gives_int s.name list parts.0 f.count refl)
    ∙ then_got (read_list (head_names h) list) (λ names tokens. read_rest h names tokens) ((s.statics ++ s.name ∷ []) ++ s.params) clauses (list_complete (head_names h) s.params clauses parts.1)
    ∙ ap (λ names. read_rest h names clauses) (append_assoc s.statics (s.name ∷ []) s.params)
    ∙ then_got (read_contract names n s.gives_int clauses) (λ contract tokens. then_read (read_body names n s.gives_int tokens) (λ body tokens. got (program_with h n names contract body) tokens)) contract last
    (clauses_complete s.clauses s f.names (all_to (IsClause s) s.clauses f.clauses_are) (suc (length clauses)) no_clauses last (omega arith))
    ∙ then_got (read_body names n s.gives_int last) (λ body tokens. got (program_with h n names contract body) tokens) body []
    (body_complete s f.names s.body s.value (all_to (IsAssignment s) s.body f.body_is) f.value_is []))
    ∙ ap (λ k. Some (program_with_params s.statics s.gives_int s.name k contract body)) count

-- Reading of bytes --------------------------------------------------------------------------------------------

pub form_found : (bytes : List ℕ) (tokens : List (List ℕ)) (p : plain.Program) → Spells bytes tokens → read_source tokens ≡ Some p → IsForm bytes p
form_found bytes tokens p s h =
    let r = source_sound tokens p h in
    record { source = r.source; formed = r.formed; spelt = subst (Spells bytes) r.spelt s; means = r.means }

pub form_none : (bytes : List ℕ) (tokens : List (List ℕ)) → Spells bytes tokens → read_source tokens ≡ None → (p : plain.Program) → IsForm bytes p → ⊥
form_none bytes tokens s h p f =
    let e = one_spelling tokens (tokens_of f.source) bytes s f.spelt in
    let clash : None ≡ Some (program_of f.source) = sym h ∙ ap read_source e ∙ source_complete f.source f.formed in cc

-- a source has one program
pub one_program : (bytes : List ℕ) (p q : plain.Program) → IsForm bytes p → IsForm bytes q → p ≡ q
one_program bytes p q f g =
    let e = one_spelling (tokens_of f.source) (tokens_of g.source) bytes f.spelt g.spelt in
    let same_read : Some (program_of f.source) ≡ Some (program_of g.source) = sym (source_complete f.source f.formed) ∙ ap read_source e ∙ source_complete g.source g.formed in
    f.means ∙ some_program (program_of f.source) (program_of g.source) same_read ∙ sym g.means
  where
    some_program : (a b : plain.Program) → Some a ≡ Some b → a ≡ b
    some_program a b h = cc

pub forms_found : {E : Type 0} (r : Result (List Function × (List StaticVariable × List (Option (List CType)))) E) (bytes : List ℕ) (tokens : List (List ℕ)) → Spells bytes tokens → IfOk r (λ p. read_source tokens ≡ Some (program_view p)) → IfOk r (λ p. Says (program_view p) (whole.program_view p)) → IfOk r (λ program. (p : plain.Program) × IsForm bytes p × Says p (whole.program_view program))
forms_found (Ok p) bytes tokens s h says = (program_view p, form_found bytes tokens (program_view p) s h, says)
forms_found (Err e) bytes tokens s h says = tt
