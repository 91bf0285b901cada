-- The names that are in force in a scope.
use Rattle.std.proofs.Common.{◌≡◌, ℕ, Bool, true, false, cond, if◌then◌else◌, List, [], ◌∷◌, ◌++◌, Option, Some, None, refl, sym, ap, ◌∙◌}
use Rattle.dc_text.specs.Words.{same}
use Rattle.dc_syntax.specs.Names.{Entry, Names, in_force}
use Rattle.dc_syntax.specs.Scopes.{Scope, declaring_all, in_scope, else_last, last_of}
use Rattle.std.specs.Option.{option_copied}
use denote.Ref.{Bor}

pub declaring_all-append : (es : List Entry) (e : Entry) (env : Names) → declaring_all (es ++ e ∷ []) env ≡ e ∷ declaring_all es env
declaring_all-append [] e env = refl
declaring_all-append (a ∷ es) e env = declaring_all-append es e (a ∷ env)

pub in_scope-append : (es : List Entry) (e : Entry) (outer : Option (Bor Scope)) → (in_scope (es ++ e ∷ []) outer).names ≡ e ∷ (in_scope es outer).names
in_scope-append es e None = declaring_all-append es e []
in_scope-append es e (Some o) = declaring_all-append es e o.now.names

abbrev said : Entry → List ℕ → Option Bool
said e n = if same e.name n then Some e.is_type else None

last_of-append : (es : List Entry) (e : Entry) (n : List ℕ) → last_of (es ++ e ∷ []) n ≡ cond (same e.name n) (Some e.is_type) (last_of es n)
last_of-append [] e n = chosen (same e.name n)
  where
    chosen : (b : Bool) → else_last None (if b then Some e.is_type else None) ≡ cond b (Some e.is_type) None
    chosen true = refl
    chosen false = refl
last_of-append (a ∷ es) e n = ap (λ o. else_last o (said a n)) (last_of-append es e n) ∙ chosen (same e.name n)
  where
    chosen : (b : Bool) → else_last (cond b (Some e.is_type) (last_of es n)) (said a n) ≡ cond b (Some e.is_type) (else_last (last_of es n) (said a n))
    chosen true = refl
    chosen false = refl

-- what a declaration adds to what is found
pub knows_more : (es : List Entry) (e : Entry) (old new : List ℕ → Option Bool) → ((n : List ℕ) → old n ≡ last_of es n) → ((n : List ℕ) → new n ≡ cond (same e.name n) (Some e.is_type) (old n))
    → (n : List ℕ) → new n ≡ last_of (es ++ e ∷ []) n
knows_more es e old new knows adds n = adds n ∙ (ap (cond (same e.name n) (Some e.is_type)) (knows n) ∙ sym (last_of-append es e n))

abbrev else_known : Option Bool → Bool → Bool
else_known None b = b
else_known (Some t) b = t

in_force-declaring_all : (es : List Entry) (env : Names) (n : List ℕ) → in_force (declaring_all es env) n ≡ else_known (last_of es n) (in_force env n)
in_force-declaring_all [] env n = refl
in_force-declaring_all (e ∷ es) env n = in_force-declaring_all es (e ∷ env) n ∙ chosen (last_of es n) (same e.name n)
  where
    chosen : (o : Option Bool) (b : Bool) → else_known o (if b then e.is_type else in_force env n) ≡ else_known (else_last o (if b then Some e.is_type else None)) (in_force env n)
    chosen (Some t) b = refl
    chosen None true = refl
    chosen None false = refl

last-found : (o r : Option (Bor Bool)) (found : List ℕ → Option Bool) (es : List Entry) (key name : List ℕ) → r ≡ o → option_copied r ≡ found key → ((n : List ℕ) → found n ≡ last_of es n) → key ≡ name → last_of es name ≡ option_copied o
last-found o r found es key name is value knows k = ap (last_of es) (sym k) ∙ (sym (knows key) ∙ (sym value ∙ ap option_copied is))

-- what the three answers of a search say
pub has_type-found : (s : Scope) (es : List Entry) (outer : Option (Bor Scope)) (x : Bor Bool) (r : Option (Bor Bool)) (found : List ℕ → Option Bool) (key name : List ℕ) → s ≡ in_scope es outer → r ≡ Some x
    → option_copied r ≡ found key → ((n : List ℕ) → found n ≡ last_of es n) → key ≡ name → x.now ≡ in_force s.names name
has_type-found s es outer x r found key name view is value knows k =
    sym (ap (λ s. in_force s.names name) view ∙ at outer (last-found (Some x) r found es key name is value knows k))
  where
    at : (outer : Option (Bor Scope)) → last_of es name ≡ Some x.now → in_force (in_scope es outer).names name ≡ x.now
    at None e = in_force-declaring_all es [] name ∙ ap (λ o. else_known o false) e
    at (Some o) e = in_force-declaring_all es o.now.names name ∙ ap (λ l. else_known l (in_force o.now.names name)) e

pub has_type-unknown : (s : Scope) (es : List Entry) (outer : Option (Bor Scope)) (r : Option (Bor Bool)) (found : List ℕ → Option Bool) (key name : List ℕ) → s ≡ in_scope es outer → outer ≡ None → r ≡ None
    → option_copied r ≡ found key → ((n : List ℕ) → found n ≡ last_of es n) → key ≡ name → false ≡ in_force s.names name
has_type-unknown s es outer r found key name view out is value knows k =
    sym (ap (λ s. in_force s.names name) (view ∙ ap (in_scope es) out)
    ∙ (in_force-declaring_all es [] name ∙ ap (λ o. else_known o false) (last-found None r found es key name is value knows k)))

pub has_type-around : (s : Scope) (es : List Entry) (outer : Option (Bor Scope)) (o : Bor Scope) (r : Option (Bor Bool)) (found : List ℕ → Option Bool) (key name : List ℕ) (b : Bool) → s ≡ in_scope es outer → outer ≡ Some o
    → r ≡ None → option_copied r ≡ found key → ((n : List ℕ) → found n ≡ last_of es n) → key ≡ name → b ≡ in_force o.now.names name → b ≡ in_force s.names name
has_type-around s es outer o r found key name b view out is value knows k e =
    e ∙ sym (ap (λ s. in_force s.names name) (view ∙ ap (in_scope es) out)
    ∙ (in_force-declaring_all es o.now.names name ∙ ap (λ l. else_known l (in_force o.now.names name)) (last-found None r found es key name is value knows k)))

abbrev pub declared_as : List ℕ → Bool → Entry
declared_as n t = record { name = n; is_type = t }

-- one declaration more, as the code makes it
pub knows_pushed : (es new_es : List Entry) (key name : List ℕ) (t : Bool) (e : Entry) (old new : List ℕ → Option Bool) → ((n : List ℕ) → old n ≡ last_of es n) → ((n : List ℕ) → new n ≡ cond (same key n) (Some t) (old n))
    → key ≡ name → e ≡ record { name = name; is_type = t } → new_es ≡ es ++ e ∷ [] → (n : List ℕ) → new n ≡ last_of new_es n
knows_pushed es new_es key name t e old new knows adds k is items n =
    knows_more es (declared_as key t) old new knows adds n ∙ ap (λ l. last_of l n) (sym (items ∙ ap (λ e. es ++ e ∷ []) (is ∙ ap (λ n. declared_as n t) (sym k))))

pub in_scope-pushed : (es new_es : List Entry) (e d : Entry) (outer : Option (Bor Scope)) (old : Names) → e ≡ d → new_es ≡ es ++ e ∷ [] → old ≡ (in_scope es outer).names → (in_scope new_es outer).names ≡ d ∷ old
in_scope-pushed es new_es e d outer old is items view =
    ap (λ l. (in_scope l outer).names) items ∙ (in_scope-append es e outer ∙ (ap (λ e. e ∷ (in_scope es outer).names) is ∙ ap (λ l. d ∷ l) (sym view)))
