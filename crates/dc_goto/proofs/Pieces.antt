-- Words, and what stands behind spaces, are read as they are spelt.
use Rattle.std.proofs.Common.{◌≡◌, ℕ, zero, suc, ◌+◌, ◌≤◌, Bool, true, false, List, [], ◌∷◌, ◌++◌, length, take, drop, map, Option, None, Some, refl, sym, ap, subst, ◌∙◌, arith, append_assoc, append-nil, length-append, take-append-drop}
use Rattle.std.specs.Prelude.{if◌then◌else◌, not, ◌==◌}
use Rattle.std.specs.List.{list_all, AllByRecursion}
use Rattle.std.proofs.lemmas.Bool.Decides.{nat_tests}
use Rattle.std.specs.Cmp.Lexicographic.{bytes_decides}
use Rattle.dc_text.specs.Words.{same}
use Rattle.dc_goto.specs.Text.{spaced}
use Rattle.dc_goto.specs.Reading.{Reading, got, then_read, behind_byte, spaced_read, begins_with, ends_word, word_len, front_word, behind_word, given, read_word, read_one, read_two, read_three, read_four, read_five, read_many, read_all, read_list}
use Rattle.dc_goto.proofs.Digits.{and_true}

-- Readings --------------------------------------------------------------------------------------------------------

-- the parts of what is read behind another reading
pub record Parts {A B : Type 0} (x : Reading A) (f : A → List ℕ → Reading B) (b : B) (rest : List ℕ) : Type 0 where
  pub value : A
  pub middle : List ℕ
  pub first : x ≡ got value middle
  pub second : f value middle ≡ got b rest

pub then_parts : {A B : Type 0} (x : Reading A) (f : A → List ℕ → Reading B) (b : B) (rest : List ℕ) → then_read x f ≡ got b rest → Parts x f b rest
then_parts None f b rest h = cc
then_parts (Some p) f b rest h = record { value = p.0; middle = p.1; first = refl; second = h }

pub then_got : {A B : Type 0} (x : Reading A) (f : A → List ℕ → Reading B) (a : A) (rest : List ℕ) → x ≡ got a rest → then_read x f ≡ f a rest
then_got x f a rest h = ap (λ x. then_read x f) h

-- the values and the bytes of equal readings
pub got_parts : {A : Type 0} (a b : A) (x y : List ℕ) → got a x ≡ got b y → (a ≡ b) × (x ≡ y)
got_parts {A} a b x y e =
    let value : Reading A → A = λ o. elim o [ None ↦ a | Some p ↦ p.0 ] in
    let rest : Reading A → List ℕ = λ o. elim o [ None ↦ x | Some p ↦ p.1 ] in
    (ap value e, ap rest e)

pub given_parts : {A : Type 0} (o : Option A) (b : A) (x y : List ℕ) → given o x ≡ got b y → (o ≡ Some b) × (x ≡ y)
given_parts None b x y h = cc
given_parts (Some a) b x y h = let p = got_parts a b x y h in (ap (λ a. Some a) p.0, p.1)

same_byte : (b c : ℕ) → (b == c) ≡ true → b ≡ c
same_byte b c h = grind (arith, nat_tests)

-- what is read behind a byte
pub record Behind {A : Type 0} (b : ℕ) (bytes : List ℕ) (f : List ℕ → Reading A) (a : A) (rest : List ℕ) : Type 0 where
  pub tail : List ℕ
  pub whole : bytes ≡ b ∷ tail
  pub read : f tail ≡ got a rest

pub behind_parts : {A : Type 0} (b : ℕ) (bytes : List ℕ) (f : List ℕ → Reading A) (a : A) (rest : List ℕ) → behind_byte b bytes f ≡ got a rest → Behind b bytes f a rest
behind_parts b [] f a rest h = cc
behind_parts b (c ∷ bytes) f a rest h = by_test (c == b) refl h
  where
    by_test : (t : Bool) → (c == b) ≡ t → (if t then f bytes else None) ≡ got a rest → Behind b (c ∷ bytes) f a rest
    by_test true e h = record { tail = bytes; whole = ap (λ d. d ∷ bytes) (same_byte c b e); read = h }
    by_test false e h = cc

pub equal_bytes : (xs ys : List ℕ) → same xs ys ≡ true → xs ≡ ys
equal_bytes xs ys h = (bytes_decides xs ys).0 h

pub same_self : (xs : List ℕ) → same xs xs ≡ true
same_self xs = (bytes_decides xs xs).1 refl

-- a choice by a word leads one way or the other
pub by_word : {A : Type 0} (word wanted : List ℕ) (x y z : A) (P : Type 0) → (if same word wanted then x else y) ≡ z → (word ≡ wanted → x ≡ z → P) → (y ≡ z → P) → P
by_word word wanted x y z P h there other = by_test (same word wanted) refl h
  where
    by_test : (t : Bool) → same word wanted ≡ t → (if t then x else y) ≡ z → P
    by_test true e h = there (equal_bytes word wanted e) h
    by_test false e h = other h

-- Words -----------------------------------------------------------------------------------------------------------

-- no word goes on here
abbrev pub Ends : List ℕ → Type 0
Ends [] = Unit {0}
Ends (b ∷ bytes) = ends_word b ≡ true

abbrev pub goes_on : ℕ → Bool
goes_on b = not (ends_word b)

goes : (b : ℕ) → goes_on b ≡ true → ends_word b ≡ false
goes b h = by_test (ends_word b) h
  where
    by_test : (t : Bool) → not t ≡ true → t ≡ false
    by_test true h = cc
    by_test false h = refl

len_of_word : (word rest : List ℕ) → list_all goes_on word ≡ true → Ends rest → word_len (word ++ rest) ≡ length word
len_of_word [] [] h e = refl
len_of_word [] (b ∷ rest) h e = ap (λ t. if t then 0 else suc (word_len rest)) e
len_of_word (b ∷ word) rest h e =
    let t = and_true (goes_on b) (list_all goes_on word) h in
    ap (λ t. if t then 0 else suc (word_len (word ++ rest))) (goes b t.0) ∙ ap (λ n. suc n) (len_of_word word rest t.1 e)

take_front : (word rest : List ℕ) → take (length word) (word ++ rest) ≡ word
take_front [] rest = refl
take_front (b ∷ word) rest = ap (λ w. b ∷ w) (take_front word rest)

drop_front : (word rest : List ℕ) → drop (length word) (word ++ rest) ≡ rest
drop_front [] rest = refl
drop_front (b ∷ word) rest = drop_front word rest

pub front_of_word : (word rest : List ℕ) → list_all goes_on word ≡ true → Ends rest → front_word (word ++ rest) ≡ word
front_of_word word rest h e = ap (λ n. take n (word ++ rest)) (len_of_word word rest h e) ∙ take_front word rest

pub behind_of_word : (word rest : List ℕ) → list_all goes_on word ≡ true → Ends rest → behind_word (word ++ rest) ≡ rest
behind_of_word word rest h e = ap (λ n. drop n (word ++ rest)) (len_of_word word rest h e) ∙ drop_front word rest

pub word_whole : (bytes : List ℕ) → front_word bytes ++ behind_word bytes ≡ bytes
word_whole bytes = take-append-drop (word_len bytes) bytes

-- the words that mean something are those that spell it, and none of them ends before its end
pub record Means {A : Type 0} (meaning : List ℕ → Option A) (text : A → List ℕ) (Is : A → Type 0) : Type 0 where
  pub sound : (word : List ℕ) (a : A) → meaning word ≡ Some a → (word ≡ text a) × Is a
  pub complete : (a : A) → Is a → meaning (text a) ≡ Some a
  pub whole : (a : A) → Is a → list_all goes_on (text a) ≡ true

-- what is read is what is spelt so
pub record Reads {A : Type 0} (read : List ℕ → Reading A) (text : A → List ℕ) (Is : A → Type 0) : Type 0 where
  pub sound : (bytes rest : List ℕ) (a : A) → read bytes ≡ got a rest → (bytes ≡ text a ++ rest) × Is a
  pub complete : (a : A) (rest : List ℕ) → Is a → Ends rest → read (text a ++ rest) ≡ got a rest

pub word_reads : {A : Type 0} (meaning : List ℕ → Option A) (text : A → List ℕ) (Is : A → Type 0) → Means meaning text Is → Reads (read_word meaning) text Is
word_reads {A} meaning text Is m =
    record {
      sound = λ bytes rest a h.
          let p = given_parts (meaning (front_word bytes)) a (behind_word bytes) rest h in
          let s = m.sound (front_word bytes) a p.0 in
          (sym (word_whole bytes) ∙ ap (λ r. front_word bytes ++ r) p.1 ∙ ap (λ w. w ++ rest) s.0, s.1);
      complete = λ a rest is e.
          ap (λ w. given (meaning w) (behind_word (text a ++ rest))) (front_of_word (text a) rest (m.whole a is) e)
          ∙ ap (λ r. given (meaning (text a)) r) (behind_of_word (text a) rest (m.whole a is) e)
          ∙ ap (λ o. given o rest) (m.complete a is);
    }

-- One behind another ------------------------------------------------------------------------------------------------

-- behind a space: first one, then what follows it
pub spaced_complete : {A B : Type 0} {read : List ℕ → Reading A} {text : A → List ℕ} {Is : A → Type 0} → Reads read text Is → (f : A → List ℕ → Reading B) (a : A) (tail rest : List ℕ) → Is a → Ends (tail ++ rest) → then_read (spaced_read read (32 ∷ ((text a ++ tail) ++ rest))) f ≡ f a (tail ++ rest)
spaced_complete {A} {B} {read} {text} {Is} r f a tail rest is e =
    ap (λ bytes. then_read (read bytes) f) (append_assoc (text a) tail rest)
    ∙ then_got (read (text a ++ (tail ++ rest))) f a (tail ++ rest) (r.complete a (tail ++ rest) is e)

pub spaced_sound : {A B : Type 0} {read : List ℕ → Reading A} {text : A → List ℕ} {Is : A → Type 0} → Reads read text Is → (f : A → List ℕ → Reading B) (bytes rest : List ℕ) (b : B) → then_read (spaced_read read bytes) f ≡ got b rest
    → (P : List ℕ → B → Type 0) → ((a : A) (middle : List ℕ) → Is a → f a middle ≡ got b rest → P (32 ∷ (text a ++ middle)) b) → P bytes b
spaced_sound {A} {B} {read} {text} {Is} r f bytes rest b h P go =
    let p = then_parts (spaced_read read bytes) f b rest h in
    let q = behind_parts 32 bytes read p.value p.middle p.first in
    let s = r.sound q.tail p.middle p.value q.read in
    subst (λ bytes. P bytes b) (sym (q.whole ∙ ap (λ l. 32 ∷ l) s.0)) (go p.value p.middle s.1 p.second)

pub one_complete : {A B : Type 0} {read : List ℕ → Reading A} {text : A → List ℕ} {Is : A → Type 0} → Reads read text Is → (f : A → B) (a : A) (rest : List ℕ) → Is a → Ends rest → read_one read f (spaced (text a ∷ []) ++ rest) ≡ got (f a) rest
one_complete r f a rest is e = spaced_complete r (λ a. got (f a)) a [] rest is e

pub one_sound : {A B : Type 0} {read : List ℕ → Reading A} {text : A → List ℕ} {Is : A → Type 0} → Reads read text Is → (f : A → B) (bytes rest : List ℕ) (b : B) → read_one read f bytes ≡ got b rest
    → (P : List ℕ → B → Type 0) → ((a : A) → Is a → P (spaced (text a ∷ []) ++ rest) (f a)) → P bytes b
one_sound {A} {B} {read} {text} {Is} r f bytes rest b h P go =
    spaced_sound r (λ a. got (f a)) bytes rest b h P (λ a middle is h.
    let p = got_parts (f a) b middle rest h in
    let end : spaced (text a ∷ []) ++ rest ≡ 32 ∷ (text a ++ middle) = ap (λ l. 32 ∷ l) (append_assoc (text a) [] rest ∙ ap (λ r. text a ++ r) (sym p.1)) in
    subst (λ b. P (32 ∷ (text a ++ middle)) b) p.0 (subst (λ bytes. P bytes (f a)) end (go a is)))

pub two_complete : {A B C : Type 0} {ra : List ℕ → Reading A} {ta : A → List ℕ} {Ia : A → Type 0} {rb : List ℕ → Reading B} {tb : B → List ℕ} {Ib : B → Type 0} → Reads ra ta Ia → Reads rb tb Ib → (f : A → B → C) (a : A) (b : B) (rest : List ℕ) → Ia a → Ib b → Ends rest
    → read_two ra rb f (spaced (ta a ∷ tb b ∷ []) ++ rest) ≡ got (f a b) rest
two_complete {A} {B} {C} {ra} {ta} {Ia} {rb} {tb} {Ib} r s f a b rest ia ib e =
    spaced_complete r (λ a. read_one rb (f a)) a (spaced (tb b ∷ [])) rest ia refl ∙ one_complete s (f a) b rest ib e

pub two_sound : {A B C : Type 0} {ra : List ℕ → Reading A} {ta : A → List ℕ} {Ia : A → Type 0} {rb : List ℕ → Reading B} {tb : B → List ℕ} {Ib : B → Type 0} → Reads ra ta Ia → Reads rb tb Ib → (f : A → B → C) (bytes rest : List ℕ) (c : C) → read_two ra rb f bytes ≡ got c rest
    → (P : List ℕ → C → Type 0) → ((a : A) (b : B) → Ia a → Ib b → P (spaced (ta a ∷ tb b ∷ []) ++ rest) (f a b)) → P bytes c
two_sound {A} {B} {C} {ra} {ta} {Ia} {rb} {tb} {Ib} r s f bytes rest c h P go =
    spaced_sound r (λ a. read_one rb (f a)) bytes rest c h P (λ a middle ia h.
    one_sound s (f a) middle rest c h (λ bytes c. P (32 ∷ (ta a ++ bytes)) c) (λ b ib.
    subst (λ bytes. P (32 ∷ bytes) (f a b)) (append_assoc (ta a) (spaced (tb b ∷ [])) rest) (go a b ia ib)))

pub three_complete : {A B C D : Type 0} {ra : List ℕ → Reading A} {ta : A → List ℕ} {Ia : A → Type 0} {rb : List ℕ → Reading B} {tb : B → List ℕ} {Ib : B → Type 0} {rc : List ℕ → Reading C} {tc : C → List ℕ} {Ic : C → Type 0} → Reads ra ta Ia → Reads rb tb Ib → Reads rc tc Ic → (f : A → B → C → D) (a : A) (b : B) (c : C) (rest : List ℕ) → Ia a → Ib b → Ic c → Ends rest
    → read_three ra rb rc f (spaced (ta a ∷ tb b ∷ tc c ∷ []) ++ rest) ≡ got (f a b c) rest
three_complete {A} {B} {C} {D} {ra} {ta} {Ia} {rb} {tb} {Ib} {rc} {tc} {Ic} r s t f a b c rest ia ib ic e =
    spaced_complete r (λ a. read_two rb rc (f a)) a (spaced (tb b ∷ tc c ∷ [])) rest ia refl ∙ two_complete s t (f a) b c rest ib ic e

pub three_sound : {A B C D : Type 0} {ra : List ℕ → Reading A} {ta : A → List ℕ} {Ia : A → Type 0} {rb : List ℕ → Reading B} {tb : B → List ℕ} {Ib : B → Type 0} {rc : List ℕ → Reading C} {tc : C → List ℕ} {Ic : C → Type 0} → Reads ra ta Ia → Reads rb tb Ib → Reads rc tc Ic → (f : A → B → C → D) (bytes rest : List ℕ) (d : D) → read_three ra rb rc f bytes ≡ got d rest
    → (P : List ℕ → D → Type 0) → ((a : A) (b : B) (c : C) → Ia a → Ib b → Ic c → P (spaced (ta a ∷ tb b ∷ tc c ∷ []) ++ rest) (f a b c)) → P bytes d
three_sound {A} {B} {C} {D} {ra} {ta} {Ia} {rb} {tb} {Ib} {rc} {tc} {Ic} r s t f bytes rest d h P go =
    spaced_sound r (λ a. read_two rb rc (f a)) bytes rest d h P (λ a middle ia h.
    two_sound s t (f a) middle rest d h (λ bytes d. P (32 ∷ (ta a ++ bytes)) d) (λ b c ib ic.
    subst (λ bytes. P (32 ∷ bytes) (f a b c)) (append_assoc (ta a) (spaced (tb b ∷ tc c ∷ [])) rest) (go a b c ia ib ic)))

pub four_complete : {A B C D E : Type 0} {ra : List ℕ → Reading A} {ta : A → List ℕ} {Ia : A → Type 0} {rb : List ℕ → Reading B} {tb : B → List ℕ} {Ib : B → Type 0} {rc : List ℕ → Reading C} {tc : C → List ℕ} {Ic : C → Type 0} {rd : List ℕ → Reading D} {td : D → List ℕ} {Id_ : D → Type 0} → Reads ra ta Ia → Reads rb tb Ib → Reads rc tc Ic → Reads rd td Id_ → (f : A → B → C → D → E) (a : A) (b : B) (c : C) (d : D) (rest : List ℕ) → Ia a → Ib b → Ic c → Id_ d → Ends rest
    → read_four ra rb rc rd f (spaced (ta a ∷ tb b ∷ tc c ∷ td d ∷ []) ++ rest) ≡ got (f a b c d) rest
four_complete {A} {B} {C} {D} {E} {ra} {ta} {Ia} {rb} {tb} {Ib} {rc} {tc} {Ic} {rd} {td} {Id_} r s t u f a b c d rest ia ib ic ie e =
    spaced_complete r (λ a. read_three rb rc rd (f a)) a (spaced (tb b ∷ tc c ∷ td d ∷ [])) rest ia refl ∙ three_complete s t u (f a) b c d rest ib ic ie e

pub four_sound : {A B C D E : Type 0} {ra : List ℕ → Reading A} {ta : A → List ℕ} {Ia : A → Type 0} {rb : List ℕ → Reading B} {tb : B → List ℕ} {Ib : B → Type 0} {rc : List ℕ → Reading C} {tc : C → List ℕ} {Ic : C → Type 0} {rd : List ℕ → Reading D} {td : D → List ℕ} {Id_ : D → Type 0} → Reads ra ta Ia → Reads rb tb Ib → Reads rc tc Ic → Reads rd td Id_ → (f : A → B → C → D → E) (bytes rest : List ℕ) (v : E) → read_four ra rb rc rd f bytes ≡ got v rest
    → (P : List ℕ → E → Type 0) → ((a : A) (b : B) (c : C) (d : D) → Ia a → Ib b → Ic c → Id_ d → P (spaced (ta a ∷ tb b ∷ tc c ∷ td d ∷ []) ++ rest) (f a b c d)) → P bytes v
four_sound {A} {B} {C} {D} {E} {ra} {ta} {Ia} {rb} {tb} {Ib} {rc} {tc} {Ic} {rd} {td} {Id_} r s t u f bytes rest v h P go =
    spaced_sound r (λ a. read_three rb rc rd (f a)) bytes rest v h P (λ a middle ia h.
    three_sound s t u (f a) middle rest v h (λ bytes v. P (32 ∷ (ta a ++ bytes)) v) (λ b c d ib ic ie.
    subst (λ bytes. P (32 ∷ bytes) (f a b c d)) (append_assoc (ta a) (spaced (tb b ∷ tc c ∷ td d ∷ [])) rest) (go a b c d ia ib ic ie)))

pub five_complete : {A B C D E F : Type 0} {ra : List ℕ → Reading A} {ta : A → List ℕ} {Ia : A → Type 0} {rb : List ℕ → Reading B} {tb : B → List ℕ} {Ib : B → Type 0} {rc : List ℕ → Reading C} {tc : C → List ℕ} {Ic : C → Type 0} {rd : List ℕ → Reading D} {td : D → List ℕ} {Id_ : D → Type 0} {re : List ℕ → Reading E} {te : E → List ℕ} {Ie : E → Type 0} → Reads ra ta Ia → Reads rb tb Ib → Reads rc tc Ic → Reads rd td Id_ → Reads re te Ie → (f : A → B → C → D → E → F) (a : A) (b : B) (c : C) (d : D) (e : E) (rest : List ℕ) → Ia a → Ib b → Ic c → Id_ d → Ie e → Ends rest
    → read_five ra rb rc rd re f (spaced (ta a ∷ tb b ∷ tc c ∷ td d ∷ te e ∷ []) ++ rest) ≡ got (f a b c d e) rest
five_complete {A} {B} {C} {D} {E} {F} {ra} {ta} {Ia} {rb} {tb} {Ib} {rc} {tc} {Ic} {rd} {td} {Id_} {re} {te} {Ie} r s t u v f a b c d e rest ia ib ic id_ ie ends =
    spaced_complete r (λ a. read_four rb rc rd re (f a)) a (spaced (tb b ∷ tc c ∷ td d ∷ te e ∷ [])) rest ia refl ∙ four_complete s t u v (f a) b c d e rest ib ic id_ ie ends

pub five_sound : {A B C D E F : Type 0} {ra : List ℕ → Reading A} {ta : A → List ℕ} {Ia : A → Type 0} {rb : List ℕ → Reading B} {tb : B → List ℕ} {Ib : B → Type 0} {rc : List ℕ → Reading C} {tc : C → List ℕ} {Ic : C → Type 0} {rd : List ℕ → Reading D} {td : D → List ℕ} {Id_ : D → Type 0} {re : List ℕ → Reading E} {te : E → List ℕ} {Ie : E → Type 0} → Reads ra ta Ia → Reads rb tb Ib → Reads rc tc Ic → Reads rd td Id_ → Reads re te Ie → (f : A → B → C → D → E → F) (bytes rest : List ℕ) (w : F) → read_five ra rb rc rd re f bytes ≡ got w rest
    → (P : List ℕ → F → Type 0) → ((a : A) (b : B) (c : C) (d : D) (e : E) → Ia a → Ib b → Ic c → Id_ d → Ie e → P (spaced (ta a ∷ tb b ∷ tc c ∷ td d ∷ te e ∷ []) ++ rest) (f a b c d e)) → P bytes w
five_sound {A} {B} {C} {D} {E} {F} {ra} {ta} {Ia} {rb} {tb} {Ib} {rc} {tc} {Ic} {rd} {td} {Id_} {re} {te} {Ie} r s t u v f bytes rest w h P go =
    spaced_sound r (λ a. read_four rb rc rd re (f a)) bytes rest w h P (λ a middle ia h.
    four_sound s t u v (f a) middle rest w h (λ bytes w. P (32 ∷ (ta a ++ bytes)) w) (λ b c d e ib ic id_ ie.
    subst (λ bytes. P (32 ∷ bytes) (f a b c d e)) (append_assoc (ta a) (spaced (tb b ∷ tc c ∷ td d ∷ te e ∷ [])) rest) (go a b c d e ia ib ic id_ ie)))

-- As many as stand there --------------------------------------------------------------------------------------------

many_complete : {A : Type 0} {read : List ℕ → Reading A} {text : A → List ℕ} {Is : A → Type 0} → Reads read text Is → (items more : List A) (n : ℕ) (rest : List ℕ) → AllByRecursion Is more → begins_with 32 rest ≡ false → Ends rest → length (spaced (map text more) ++ rest) ≤ n
    → read_many read n items (spaced (map text more) ++ rest) ≡ got (items ++ more) rest
unfolding read_many
many_complete {A} {read} {text} {Is} r items [] zero rest is stops e le = ap (λ l. got l rest) (sym (append-nil items))
many_complete {A} {read} {text} {Is} r items [] (suc n) rest is stops e le =
    ap (λ t. if t then then_read (spaced_read read rest) (λ a. read_many read n (items ++ a ∷ [])) else got items rest) stops
    ∙ ap (λ l. got l rest) (sym (append-nil items))
many_complete {A} {read} {text} {Is} r items (a ∷ more) zero rest is stops e le = absurd (omega arith)
many_complete {A} {read} {text} {Is} r items (a ∷ more) (suc n) rest is stops e le =
    spaced_complete r (λ a. read_many read n (items ++ a ∷ [])) a (spaced (map text more)) rest is.0 (behind more)
    ∙ many_complete r (items ++ a ∷ []) more n rest is.1 stops e shorter
    ∙ ap (λ l. got l rest) (append_assoc items (a ∷ []) more)
  where
    behind : (more : List A) → Ends (spaced (map text more) ++ rest)
    behind [] = e
    behind (b ∷ more) = refl

    shorter : length (spaced (map text more) ++ rest) ≤ n
    shorter =
        let p : length ((text a ++ spaced (map text more)) ++ rest) ≡ length (text a) + length (spaced (map text more) ++ rest) = ap length (append_assoc (text a) (spaced (map text more)) rest) ∙ length-append (text a) (spaced (map text more) ++ rest) in
        omega (arith, le, p)

-- a word ends before others, or at the rest
pub ends_behind : {A : Type 0} (text : A → List ℕ) (items : List A) (rest : List ℕ) → Ends rest → Ends (spaced (map text items) ++ rest)
ends_behind text [] rest e = e
ends_behind text (a ∷ items) rest e = refl

-- as many as were read
pub record Listed {A : Type 0} (text : A → List ℕ) (Is : A → Type 0) (items all : List A) (bytes rest : List ℕ) : Type 0 where
  pub more : List A
  pub whole : all ≡ items ++ more
  pub each : AllByRecursion Is more
  pub spelt : bytes ≡ spaced (map text more) ++ rest

many_sound : {A : Type 0} {read : List ℕ → Reading A} {text : A → List ℕ} {Is : A → Type 0} → Reads read text Is → (n : ℕ) (items all : List A) (bytes rest : List ℕ) → read_many read n items bytes ≡ got all rest → Listed text Is items all bytes rest
unfolding read_many
many_sound {A} {read} {text} {Is} r zero items all bytes rest h =
    let p = got_parts items all bytes rest h in
    record { more = []; whole = sym p.0 ∙ sym (append-nil items); each = tt; spelt = p.1 }
many_sound {A} {read} {text} {Is} r (suc n) items all bytes rest h =
    by_test (begins_with 32 bytes) (λ a middle h. many_sound r n (items ++ a ∷ []) all middle rest h) h
  where
    by_test : (t : Bool) → ((a : A) (middle : List ℕ) → read_many read n (items ++ a ∷ []) middle ≡ got all rest → Listed text Is (items ++ a ∷ []) all middle rest)
        → (if t then then_read (spaced_read read bytes) (λ a. read_many read n (items ++ a ∷ [])) else got items bytes) ≡ got all rest → Listed text Is items all bytes rest
    by_test true again h =
        spaced_sound r (λ a. read_many read n (items ++ a ∷ [])) bytes rest all h (λ bytes all. Listed text Is items all bytes rest) (λ a middle is h.
        let l = again a middle h in
        record {
          more = a ∷ l.more;
          whole = l.whole ∙ append_assoc items (a ∷ []) l.more;
          each = (is, l.each);
          spelt = ap (λ m. 32 ∷ (text a ++ m)) l.spelt ∙ ap (λ l. 32 ∷ l) (sym (append_assoc (text a) (spaced (map text l.more)) rest));
        })
    by_test false again h =
        let p = got_parts items all bytes rest h in
        record { more = []; whole = sym p.0 ∙ sym (append-nil items); each = tt; spelt = p.1 }

-- as many as stand there, in front of what is none
pub all_complete : {A B : Type 0} {read : List ℕ → Reading A} {text : A → List ℕ} {Is : A → Type 0} → Reads read text Is → (f : List A → B) (items : List A) (rest : List ℕ) → AllByRecursion Is items → begins_with 32 rest ≡ false → Ends rest
    → read_all read f (spaced (map text items) ++ rest) ≡ got (f items) rest
all_complete {A} {B} {read} {text} {Is} r f items rest is stops e =
    let bytes = spaced (map text items) ++ rest in
    then_got (read_many read (length bytes) [] bytes) (λ items. got (f items)) items rest (many_complete r [] items (length bytes) rest is stops e (omega arith))

pub all_sound : {A B : Type 0} {read : List ℕ → Reading A} {text : A → List ℕ} {Is : A → Type 0} → Reads read text Is → (f : List A → B) (bytes rest : List ℕ) (b : B) → read_all read f bytes ≡ got b rest
    → (P : List ℕ → B → Type 0) → ((items : List A) → AllByRecursion Is items → P (spaced (map text items) ++ rest) (f items)) → P bytes b
all_sound {A} {B} {read} {text} {Is} r f bytes rest b h P go =
    let p = then_parts (read_many read (length bytes) [] bytes) (λ items. got (f items)) b rest h in
    let l = many_sound r (length bytes) [] p.value bytes p.middle p.first in
    let q = got_parts (f p.value) b p.middle rest p.second in
    let spelt : bytes ≡ spaced (map text l.more) ++ rest = l.spelt ∙ ap (λ r. spaced (map text l.more) ++ r) q.1 in
    let value : f l.more ≡ b = ap f (sym l.whole) ∙ q.0 in
    subst (λ b. P bytes b) value (subst (λ bytes. P bytes (f l.more)) (sym spelt) (go l.more l.each))

pub list_complete : {A B C D : Type 0} {ra : List ℕ → Reading A} {ta : A → List ℕ} {Ia : A → Type 0} {rb : List ℕ → Reading B} {tb : B → List ℕ} {Ib : B → Type 0} {rc : List ℕ → Reading C} {tc : C → List ℕ} {Ic : C → Type 0} → Reads ra ta Ia → Reads rb tb Ib → Reads rc tc Ic → (f : A → B → List C → D) (a : A) (b : B) (cs : List C) (rest : List ℕ) → Ia a → Ib b → AllByRecursion Ic cs → begins_with 32 rest ≡ false → Ends rest
    → read_list ra rb rc f (spaced (ta a ∷ tb b ∷ map tc cs) ++ rest) ≡ got (f a b cs) rest
list_complete {A} {B} {C} {D} {ra} {ta} {Ia} {rb} {tb} {Ib} {rc} {tc} {Ic} r s t f a b cs rest ia ib ics stops e =
    spaced_complete r (λ a bytes. then_read (spaced_read rb bytes) (λ b. read_all rc (f a b))) a (spaced (tb b ∷ map tc cs)) rest ia refl
    ∙ spaced_complete s (λ b. read_all rc (f a b)) b (spaced (map tc cs)) rest ib (ends_behind tc cs rest e)
    ∙ all_complete t (f a b) cs rest ics stops e

pub list_sound : {A B C D : Type 0} {ra : List ℕ → Reading A} {ta : A → List ℕ} {Ia : A → Type 0} {rb : List ℕ → Reading B} {tb : B → List ℕ} {Ib : B → Type 0} {rc : List ℕ → Reading C} {tc : C → List ℕ} {Ic : C → Type 0} → Reads ra ta Ia → Reads rb tb Ib → Reads rc tc Ic → (f : A → B → List C → D) (bytes rest : List ℕ) (d : D) → read_list ra rb rc f bytes ≡ got d rest
    → (P : List ℕ → D → Type 0) → ((a : A) (b : B) (cs : List C) → Ia a → Ib b → AllByRecursion Ic cs → P (spaced (ta a ∷ tb b ∷ map tc cs) ++ rest) (f a b cs)) → P bytes d
list_sound {A} {B} {C} {D} {ra} {ta} {Ia} {rb} {tb} {Ib} {rc} {tc} {Ic} r s t f bytes rest d h P go =
    spaced_sound r (λ a bytes. then_read (spaced_read rb bytes) (λ b. read_all rc (f a b))) bytes rest d h P (λ a middle ia h.
    spaced_sound s (λ b. read_all rc (f a b)) middle rest d h (λ bytes d. P (32 ∷ (ta a ++ bytes)) d) (λ b last ib h.
    all_sound t (f a b) last rest d h (λ bytes d. P (32 ∷ (ta a ++ (32 ∷ (tb b ++ bytes)))) d) (λ cs ics.
    subst (λ bytes. P (32 ∷ bytes) (f a b cs))
    (append_assoc (ta a) (spaced (tb b ∷ map tc cs)) rest ∙ ap (λ l. ta a ++ (32 ∷ l)) (append_assoc (tb b) (spaced (map tc cs)) rest)) (go a b cs ia ib ics))))
