-- What stands in front of a function's clauses is read as it is spelt.
use Rattle.std.proofs.Common.{◌≡◌, ℕ, ◌≤◌, ◌<◌, Bool, true, false, ◌&&◌, List, [], ◌∷◌, ◌++◌, length, map, None, Some, refl, sym, ap, subst, ◌∙◌, arith, append_assoc, length-append, append-nil}
use Rattle.std.specs.Prelude.{if◌then◌else◌, codes, flat_map, nat_lt}
use Rattle.std.proofs.lemmas.Bool.Decides.{nat_tests}
use Rattle.dc_form.specs.Form.{is_new, AreNew, static_tokens, result_token, listed, params_tokens}
use Rattle.dc_text.specs.Words.{same}
use Rattle.dc_form.specs.Read.Cursor.{front, tail}
use Rattle.dc_form.specs.Read.Reading.{Reading, got, then_read, behind}
use Rattle.dc_form.specs.Read.Signature.{Head, head, result_of, with_result, read_head, read_each, read_params, read_list}
use Rattle.dc_form.proofs.Named.{equal_bytes, and_true}
use Rattle.dc_form.proofs.Expressed.{then_parts, then_got, got_parts, behind_parts}
use Rattle.dc_form.proofs.Turns.{head_front, head_behind, each_front, each_behind}

-- Heads -----------------------------------------------------------------------------------------------------

-- a head that was read behind these variables
pub record HeadRead (names : List (List ℕ)) (h : Head) (tokens rest : List (List ℕ)) : Type 0 where
  pub more : List (List ℕ)
  pub statics : h.statics ≡ names ++ more
  pub new : AreNew names (more ++ h.name ∷ [])
  pub spelt : tokens ≡ flat_map static_tokens more ++ (result_token h.gives_int ∷ h.name ∷ rest)
  pub room : length names ≤ 32766 → length h.statics ≤ 32766

with_result_parts : {A : Type 0} (word : List ℕ) (f : Bool → Reading A) (b : A) (rest : List (List ℕ)) → with_result (result_of word) f ≡ got b rest → (g : Bool) × (word ≡ result_token g) × (f g ≡ got b rest)
with_result_parts word f b rest h = by_tests (same word (codes "void")) refl (same word (codes "int")) refl h
  where
    by_tests : (t : Bool) → same word (codes "void") ≡ t → (u : Bool) → same word (codes "int") ≡ u → with_result (if t then Some false else if u then Some true else None) f ≡ got b rest → (g : Bool) × (word ≡ result_token g) × (f g ≡ got b rest)
    by_tests true a u c h = (false, equal_bytes word (codes "void") a, h)
    by_tests false a true c h = (true, equal_bytes word (codes "int") c, h)
    by_tests false a false c h = cc

last_head : (names : List (List ℕ)) (h : Head) (g : Bool) (word name : List ℕ) (tokens rest : List (List ℕ)) → word ≡ result_token g → is_new names name ≡ true → got (head names g name) tokens ≡ got h rest → HeadRead names h (word ∷ name ∷ tokens) rest
last_head names h g word name tokens rest w n e =
    let q = got_parts (head names g name) h tokens rest e in
    subst (λ h. HeadRead names h (word ∷ name ∷ tokens) rest) q.0
    (record {
      more = [];
      statics = sym (append-nil names);
      new = (n, tt);
      spelt = ap (λ l. word ∷ name ∷ l) q.1 ∙ ap (λ w. w ∷ name ∷ rest) w;
      room = λ le. le;
    })

next_head : (names : List (List ℕ)) (h : Head) (word name mark : List ℕ) (tokens rest : List (List ℕ)) → word ≡ codes "int" → is_new names name ≡ true → mark ≡ codes ";" → length names < 32766 → HeadRead (names ++ name ∷ []) h tokens rest → HeadRead names h (word ∷ name ∷ mark ∷ tokens) rest
next_head names h word name mark tokens rest w n m lt r =
    let fits : length (names ++ name ∷ []) ≤ 32766 = omega (arith, length-append names (name ∷ [])) in
    record {
      more = name ∷ r.more;
      statics = r.statics ∙ append_assoc names (name ∷ []) r.more;
      new = (n, r.new);
      spelt = ap (λ l. word ∷ name ∷ mark ∷ l) r.spelt ∙ ap (λ w. w ∷ name ∷ mark ∷ (flat_map static_tokens r.more ++ (result_token h.gives_int ∷ h.name ∷ rest))) w
          ∙ ap (λ m. codes "int" ∷ name ∷ m ∷ (flat_map static_tokens r.more ++ (result_token h.gives_int ∷ h.name ∷ rest))) m;
      room = λ le. r.room fits;
    }

chosen : {A : Type 0} (b : Bool) (x : Reading A) (y : A) (rest : List (List ℕ)) → (if b then x else None) ≡ got y rest → (b ≡ true) × (x ≡ got y rest)
chosen true x y rest h = (refl, h)
chosen false x y rest h = cc

pub head_sound : (tokens : List (List ℕ)) (names : List (List ℕ)) (h : Head) (rest : List (List ℕ)) → read_head names tokens ≡ got h rest → HeadRead names h tokens rest
head_sound [] names h rest e = cc
head_sound (word ∷ []) names h rest e = cc
head_sound (word ∷ name ∷ []) names h rest e =
    let r = with_result_parts word (λ g. if is_new names name then got (head names g name) [] else None) h rest e in
    let c = chosen (is_new names name) (got (head names r.0 name) []) h rest r.2 in
    last_head names h r.0 word name [] rest r.1 c.0 c.1
head_sound (word ∷ name ∷ mark ∷ tokens) names h rest e =
    let r = with_result_parts word (λ g. if is_new names name then (if same mark (codes ";") && g then (if nat_lt (length names) 32766 then read_head (names ++ name ∷ []) tokens else None) else got (head names g name) (mark ∷ tokens)) else None) h rest e in
    let c = chosen (is_new names name) (if same mark (codes ";") && r.0 then (if nat_lt (length names) 32766 then read_head (names ++ name ∷ []) tokens else None) else got (head names r.0 name) (mark ∷ tokens)) h rest r.2 in
    by_mark (λ e. head_sound tokens (names ++ name ∷ []) h rest e) r.0 r.1 c.0 (same mark (codes ";") && r.0) refl c.1
  where
    less : (n : ℕ) → nat_lt n 32766 ≡ true → n < 32766
    less n h = grind (arith, nat_tests)

    by_mark : (read_head (names ++ name ∷ []) tokens ≡ got h rest → HeadRead (names ++ name ∷ []) h tokens rest) → (g : Bool) → word ≡ result_token g → is_new names name ≡ true → (t : Bool) → (same mark (codes ";") && g) ≡ t → (if t then (if nat_lt (length names) 32766 then read_head (names ++ name ∷ []) tokens else None) else got (head names g name) (mark ∷ tokens)) ≡ got h rest → HeadRead names h (word ∷ name ∷ mark ∷ tokens) rest
    by_mark again g w n true a e =
        let t = and_true (same mark (codes ";")) g a in
        let c = chosen (nat_lt (length names) 32766) (read_head (names ++ name ∷ []) tokens) h rest e in
        next_head names h word name mark tokens rest (w ∙ ap result_token t.1) n (equal_bytes mark (codes ";") t.0) (less (length names) c.0) (again c.1)
    by_mark again g w n false a e = last_head names h g word name (mark ∷ tokens) rest w n e

result_read : (g : Bool) → result_of (result_token g) ≡ Some g
result_read true = refl
result_read false = refl

pub head_complete : (more names : List (List ℕ)) (g : Bool) (name : List ℕ) (rest : List (List ℕ)) → AreNew names (more ++ name ∷ []) → length (names ++ more) ≤ 32766 → same (front rest) (codes ";") ≡ false → read_head names (flat_map static_tokens more ++ (result_token g ∷ name ∷ rest)) ≡ got (head (names ++ more) g name) rest
head_complete [] names g name rest new le stop =
    head_front names (result_token g) name rest
    ∙ ap (λ o. with_result o (λ g. if is_new names name then head_behind names g name rest else None)) (result_read g)
    ∙ ap (λ t. if t then head_behind names g name rest else None) new.0
    ∙ ap (λ t. if t && g then (if nat_lt (length names) 32766 then read_head (names ++ name ∷ []) (tail rest) else None) else got (head names g name) rest) stop
    ∙ ap (λ n. got (head n g name) rest) (sym (append-nil names))
head_complete (x ∷ more) names g name rest new le stop =
    let others = flat_map static_tokens more ++ (result_token g ∷ name ∷ rest) in
    let long = length-append names (x ∷ more) in
    let below : length names < 32766 = omega arith in
    let fits : nat_lt (length names) 32766 ≡ true = grind (arith, nat_tests) in
    let le' : length ((names ++ x ∷ []) ++ more) ≤ 32766 = subst (λ n. length n ≤ 32766) (sym (append_assoc names (x ∷ []) more)) le in
    head_front names (codes "int") x (codes ";" ∷ others)
    ∙ ap (λ t. if t then head_behind names true x (codes ";" ∷ others) else None) new.0
    ∙ ap (λ t. if t then read_head (names ++ x ∷ []) others else None) fits
    ∙ head_complete more (names ++ x ∷ []) g name rest new.1 le' stop
    ∙ ap (λ n. got (head n g name) rest) (append_assoc names (x ∷ []) more)

-- Parameters ------------------------------------------------------------------------------------------------

abbrev param_item : List ℕ → List (List ℕ)
param_item name = codes "int" ∷ name ∷ []

record EachRead (names all tokens rest : List (List ℕ)) : Type 0 where
  first : List ℕ
  more : List (List ℕ)
  adds : all ≡ names ++ (first ∷ more)
  new : AreNew names (first ∷ more)
  spelt : tokens ≡ listed (map param_item (first ∷ more)) ++ rest

one_param : (names all : List (List ℕ)) (word name : List ℕ) (tokens rest : List (List ℕ)) → word ≡ codes "int" → is_new names name ≡ true → got (names ++ name ∷ []) tokens ≡ got all rest → EachRead names all (word ∷ name ∷ tokens) rest
one_param names all word name tokens rest w n e =
    let q = got_parts (names ++ name ∷ []) all tokens rest e in
    record { first = name; more = []; adds = sym q.0; new = (n, tt); spelt = ap (λ l. word ∷ name ∷ l) q.1 ∙ ap (λ w. w ∷ name ∷ rest) w }

more_params : (names all : List (List ℕ)) (word name mark : List ℕ) (tokens rest : List (List ℕ)) → word ≡ codes "int" → is_new names name ≡ true → mark ≡ codes "," → EachRead (names ++ name ∷ []) all tokens rest → EachRead names all (word ∷ name ∷ mark ∷ tokens) rest
more_params names all word name mark tokens rest w n m r =
    record {
      first = name;
      more = r.first ∷ r.more;
      adds = r.adds ∙ append_assoc names (name ∷ []) (r.first ∷ r.more);
      new = (n, r.new);
      spelt = ap (λ l. word ∷ name ∷ mark ∷ l) r.spelt ∙ ap (λ w. w ∷ name ∷ mark ∷ (listed (map param_item (r.first ∷ r.more)) ++ rest)) w
          ∙ ap (λ m. codes "int" ∷ name ∷ m ∷ (listed (map param_item (r.first ∷ r.more)) ++ rest)) m;
    }

each_sound : (tokens : List (List ℕ)) (names all rest : List (List ℕ)) → read_each names tokens ≡ got all rest → EachRead names all tokens rest
each_sound [] names all rest e = cc
each_sound (word ∷ []) names all rest e = cc
each_sound (word ∷ name ∷ []) names all rest e =
    let c = chosen (same word (codes "int") && is_new names name) (got (names ++ name ∷ []) []) all rest e in
    let t = and_true (same word (codes "int")) (is_new names name) c.0 in
    one_param names all word name [] rest (equal_bytes word (codes "int") t.0) t.1 c.1
each_sound (word ∷ name ∷ mark ∷ tokens) names all rest e =
    let c = chosen (same word (codes "int") && is_new names name) (if same mark (codes ",") then read_each (names ++ name ∷ []) tokens else got (names ++ name ∷ []) (mark ∷ tokens)) all rest e in
    let t = and_true (same word (codes "int")) (is_new names name) c.0 in
    by_mark (λ e. each_sound tokens (names ++ name ∷ []) all rest e) (equal_bytes word (codes "int") t.0) t.1 (same mark (codes ",")) refl c.1
  where
    by_mark : (read_each (names ++ name ∷ []) tokens ≡ got all rest → EachRead (names ++ name ∷ []) all tokens rest) → word ≡ codes "int" → is_new names name ≡ true → (t : Bool) → same mark (codes ",") ≡ t → (if t then read_each (names ++ name ∷ []) tokens else got (names ++ name ∷ []) (mark ∷ tokens)) ≡ got all rest → EachRead names all (word ∷ name ∷ mark ∷ tokens) rest
    by_mark again w n true a e = more_params names all word name mark tokens rest w n (equal_bytes mark (codes ",") a) (again e)
    by_mark again w n false a e = one_param names all word name (mark ∷ tokens) rest w n e

each_complete : (more : List (List ℕ)) (names : List (List ℕ)) (name : List ℕ) (rest : List (List ℕ)) → AreNew names (name ∷ more) → same (front rest) (codes ",") ≡ false → read_each names (listed (map param_item (name ∷ more)) ++ rest) ≡ got (names ++ (name ∷ more)) rest
each_complete [] names name rest new stop =
    each_front names (codes "int") name rest
    ∙ ap (λ t. if t then each_behind names name rest else None) new.0
    ∙ ap (λ t. if t then read_each (names ++ name ∷ []) (tail rest) else got (names ++ name ∷ []) rest) stop
each_complete (x ∷ more) names name rest new stop =
    let others = listed (map param_item (x ∷ more)) ++ rest in
    each_front names (codes "int") name (codes "," ∷ others)
    ∙ ap (λ t. if t then each_behind names name (codes "," ∷ others) else None) new.0
    ∙ each_complete more (names ++ name ∷ []) x rest new.1 stop
    ∙ ap (λ n. got n rest) (append_assoc names (name ∷ []) (x ∷ more))

-- parameters that were read behind these names
pub record ParamsRead (names all tokens rest : List (List ℕ)) : Type 0 where
  pub params : List (List ℕ)
  pub adds : all ≡ names ++ params
  pub new : AreNew names params
  pub spelt : tokens ≡ params_tokens params ++ rest

params_sound : (names all tokens rest : List (List ℕ)) → read_params names tokens ≡ got all rest → ParamsRead names all tokens rest
params_sound names all tokens rest e = by_test (same (front tokens) (codes "void")) refl e
  where
    void_front : (tokens : List (List ℕ)) → same (front tokens) (codes "void") ≡ true → tokens ≡ codes "void" ∷ tail tokens
    void_front [] h = cc
    void_front (token ∷ tokens) h = ap (λ w. w ∷ tokens) (equal_bytes token (codes "void") h)

    by_test : (t : Bool) → same (front tokens) (codes "void") ≡ t → (if t then got names (tail tokens) else read_each names tokens) ≡ got all rest → ParamsRead names all tokens rest
    by_test true a e =
        let q = got_parts names all (tail tokens) rest e in
        record { params = []; adds = sym q.0 ∙ sym (append-nil names); new = tt; spelt = void_front tokens a ∙ ap (λ l. codes "void" ∷ l) q.1 }
    by_test false a e = let r = each_sound tokens names all rest e in record { params = r.first ∷ r.more; adds = r.adds; new = r.new; spelt = r.spelt }

params_complete : (params names rest : List (List ℕ)) → AreNew names params → same (front rest) (codes ",") ≡ false → read_params names (params_tokens params ++ rest) ≡ got (names ++ params) rest
params_complete [] names rest new stop = ap (λ n. got n rest) (sym (append-nil names))
params_complete (x ∷ []) names rest new stop = each_complete [] names x rest new stop
params_complete (x ∷ y ∷ more) names rest new stop = each_complete (y ∷ more) names x rest new stop

pub list_sound : (names all tokens rest : List (List ℕ)) → read_list names tokens ≡ got all rest → (params : List (List ℕ)) × (all ≡ names ++ params) × AreNew names params × (tokens ≡ codes "(" ∷ (params_tokens params ++ (codes ")" ∷ rest)))
list_sound names all tokens rest e =
    let open_ = behind_parts 40 [] tokens (λ tokens. then_read (read_params names tokens) (λ names tokens. behind (codes ")") tokens (λ tokens. got names tokens))) all rest e in
    let p = then_parts (read_params names (tail tokens)) (λ names tokens. behind (codes ")") tokens (λ tokens. got names tokens)) all rest open_.1 in
    let close = behind_parts 41 [] p.middle (λ tokens. got p.value tokens) all rest p.second in
    let q = got_parts p.value all (tail p.middle) rest close.1 in
    let r = params_sound names p.value (tail tokens) p.middle p.first in
    (r.params, sym q.0 ∙ r.adds, r.new, open_.0 ∙ ap (λ l. codes "(" ∷ l) (r.spelt ∙ ap (λ l. params_tokens r.params ++ l) (close.0 ∙ ap (λ l. codes ")" ∷ l) q.1)))

pub list_complete : (names params rest : List (List ℕ)) → AreNew names params → read_list names (codes "(" ∷ (params_tokens params ++ (codes ")" ∷ rest))) ≡ got (names ++ params) rest
list_complete names params rest new =
    then_got (read_params names (params_tokens params ++ (codes ")" ∷ rest))) (λ names tokens. behind (codes ")") tokens (λ tokens. got names tokens)) (names ++ params) (codes ")" ∷ rest)
    (params_complete params names (codes ")" ∷ rest) new refl)
