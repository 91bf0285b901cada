-- What words mean is what they are spelt for.
use Rattle.std.proofs.Common.{◌≡◌, ℕ, suc, ◌-◌, ◌^◌, ◌≤◌, ◌<◌, Bool, true, false, List, [], ◌∷◌, Option, None, Some, refl, sym, ap, subst, ◌∙◌, arith, lit<}
use Rattle.std.specs.Prelude.{if◌then◌else◌, ◌==◌, ◌||◌, codes, ℤ, pos, negsuc}
use Rattle.std.specs.Option.{option_map}
use Rattle.std.specs.List.{list_all}
use Rattle.std.specs.Fmt.{decimal}
use Rattle.std.proofs.lemmas.Bool.Decides.{nat_tests}
use Rattle.dc_num.specs.declared.operators.BinOp.{BinOp}
use Rattle.dc_num.specs.declared.operators.BinOp.TheVariants.{Add, Sub, Mul, Div, Rem, Shl, Shr, And, Or, Xor, Lt, Le, Gt, Ge, Eq, Ne}
use Rattle.dc_num.specs.declared.kind.NumKind.{NumKind}
use Rattle.dc_num.specs.declared.kind.NumKind.TheVariants.{Bool as Truth, S8, U8, S16, U16, S32, U32, S64, U64, Ptr}
use Rattle.dc_goto.specs.declared.operands.Bytes.{Bytes}
use Rattle.dc_goto.specs.declared.operands.Bytes.TheVariants.{Zero, Chosen}
use Rattle.dc_goto.specs.declared.operands.Sharing.{Sharing}
use Rattle.dc_goto.specs.declared.operands.Sharing.TheVariants.{Any, Apart}
use Rattle.dc_text.specs.Words.{same, is_digit, is_word, is_word_part}
use Rattle.dc_goto.specs.Text.{kind_word, operator_word, number_word, register_word, result_word, bytes_word, sharing_word}
use Rattle.dc_goto.specs.Lines.{IsNumber, IsConstant, IsOptionalNumber, is_check_part, is_check_name, is_body_name}
use Rattle.dc_goto.specs.Reading.{decimal_of, number_of, negative, constant_of, word_that, literal, kind_of, result_of, operator_of, register_of, bytes_of, sharing_of, are_outside}
use Rattle.dc_goto.proofs.Digits.{and_true, both_true, under_test, decimal_read, read_decimal, decimal_goes_on, decimal_begins}
use Rattle.dc_goto.proofs.Pieces.{Means, goes_on, equal_bytes, same_self, by_word}

some_is : {A : Type 0} (x y : A) → Some x ≡ Some y → x ≡ y
some_is x y h = cc

not_same : (x y : List ℕ) → (x ≡ y → ⊥) → same x y ≡ false
not_same x y h = by_test (same x y) refl
  where
    by_test : (t : Bool) → same x y ≡ t → same x y ≡ false
    by_test true e = absurd (h (equal_bytes x y e))
    by_test false e = e

-- Numbers ---------------------------------------------------------------------------------------------------------

wide_number : 2 ^ 64 - 1 < 10 ^ 64
wide_number = lit< tt

wide_constant : 2 ^ 127 - 1 < 10 ^ 64
wide_constant = lit< tt

wide_negative : 2 ^ 127 < 10 ^ 64
wide_negative = lit< tt

below_limit : (n limit top : ℕ) → n ≤ limit - 1 → 0 < limit → n < limit
below_limit n limit top h p = omega arith

at_limit : (n limit : ℕ) → n < limit → n ≤ limit - 1
at_limit n limit h = omega arith

number_wide : (n : ℕ) → n < 2 ^ 64 → n < 10 ^ 64
number_wide n h = less n (2 ^ 64) (10 ^ 64) h (lit< tt)
  where
    less : (a b c : ℕ) → a < b → b < c → a < c
    less a b c p q = omega arith

constant_wide : (n : ℕ) → n < 2 ^ 127 → n < 10 ^ 64
constant_wide n h = less n (2 ^ 127) (10 ^ 64) h (lit< tt)
  where
    less : (a b c : ℕ) → a < b → b < c → a < c
    less a b c p q = omega arith

negative_wide : (n : ℕ) → n < 2 ^ 127 → suc n < 10 ^ 64
negative_wide n h = less n (2 ^ 127) (10 ^ 64) h (lit< tt)
  where
    less : (a b c : ℕ) → a < b → b < c → suc a < c
    less a b c p q = omega arith

pub number_means : Means number_of decimal IsNumber
number_means =
    record {
      sound = λ word n h.
          let r = read_decimal (2 ^ 64 - 1) word n wide_number h in
          (r.0, below_limit n (2 ^ 64) 0 r.1 (lit< tt));
      complete = λ n is. decimal_read (2 ^ 64 - 1) n wide_number (at_limit n (2 ^ 64) is);
      whole = λ n is. decimal_goes_on n (number_wide n is);
    }

digit_no_minus : (b : ℕ) → is_digit b ≡ true → (b == 45) ≡ false
digit_no_minus b h = grind (arith, nat_tests)

minus_byte : (b : ℕ) → (b == 45) ≡ true → b ≡ 45
minus_byte b h = grind (arith, nat_tests)

negative_is : (o : Option ℕ) (z : ℤ) → negative o ≡ Some z → (n : ℕ) × (o ≡ Some (suc n)) × (z ≡ negsuc n)
negative_is None z h = cc
negative_is (Some n) z h = by_test (n == 0) refl h
  where
    one_more : (n : ℕ) → (n == 0) ≡ false → n ≡ suc (n - 1)
    one_more n h = grind (arith, nat_tests)

    by_test : (t : Bool) → (n == 0) ≡ t → (if t then None else Some (negsuc (n - 1))) ≡ Some z → (m : ℕ) × (Some n ≡ Some (suc m)) × (z ≡ negsuc m)
    by_test true e h = cc
    by_test false e h = (n - 1, ap (λ n. Some n) (one_more n e), sym (some_is (negsuc (n - 1)) z h))

negative_gives : (n : ℕ) → negative (Some (suc n)) ≡ Some (negsuc n)
negative_gives n = ap (λ t. if t then None else Some (negsuc (suc n - 1))) (not_zero n) ∙ ap (λ m. Some (negsuc m)) (less n)
  where
    not_zero : (n : ℕ) → (suc n == 0) ≡ false
    not_zero n = grind (arith, nat_tests)

    less : (n : ℕ) → suc n - 1 ≡ n
    less n = omega arith

positive_is : (o : Option ℕ) (z : ℤ) → option_map pos o ≡ Some z → (n : ℕ) × (o ≡ Some n) × (z ≡ pos n)
positive_is None z h = cc
positive_is (Some n) z h = (n, refl, sym (some_is (pos n) z h))

pub constant_means : Means constant_of number_word IsConstant
constant_means = record { sound = sound; complete = complete; whole = whole }
  where
    sound : (word : List ℕ) (z : ℤ) → constant_of word ≡ Some z → (word ≡ number_word z) × IsConstant z
    sound [] z h = cc
    sound (b ∷ bytes) z h = by_test (b == 45) refl h
      where
        less : (n limit : ℕ) → suc n ≤ limit → n < limit
        less n limit h = omega arith

        by_test : (t : Bool) → (b == 45) ≡ t → (if t then negative (decimal_of (2 ^ 127) bytes) else option_map pos (decimal_of (2 ^ 127 - 1) (b ∷ bytes))) ≡ Some z → (b ∷ bytes ≡ number_word z) × IsConstant z
        by_test true e h =
            let p = negative_is (decimal_of (2 ^ 127) bytes) z h in
            let r = read_decimal (2 ^ 127) bytes (suc p.0) wide_negative p.1 in
            subst (λ z. (b ∷ bytes ≡ number_word z) × IsConstant z) (sym p.2)
            (ap (λ b. b ∷ bytes) (minus_byte b e) ∙ ap (λ bytes. 45 ∷ bytes) r.0, less p.0 (2 ^ 127) r.1)
        by_test false e h =
            let p = positive_is (decimal_of (2 ^ 127 - 1) (b ∷ bytes)) z h in
            let r = read_decimal (2 ^ 127 - 1) (b ∷ bytes) p.0 wide_constant p.1 in
            subst (λ z. (b ∷ bytes ≡ number_word z) × IsConstant z) (sym p.2)
            (r.0, below_limit p.0 (2 ^ 127) 0 r.1 (lit< tt))

    complete : (z : ℤ) → IsConstant z → constant_of (number_word z) ≡ Some z
    complete (pos n) is =
        let d = decimal_begins n (constant_wide n is) in
        let t = digit_no_minus d.first d.digit in
        let r : decimal_of (2 ^ 127 - 1) (d.first ∷ d.rest) ≡ Some n = ap (decimal_of (2 ^ 127 - 1)) (sym d.whole) ∙ decimal_read (2 ^ 127 - 1) n wide_constant (at_limit n (2 ^ 127) is) in
        ap constant_of d.whole
        ∙ ap (λ t. if t then negative (decimal_of (2 ^ 127) d.rest) else option_map pos (decimal_of (2 ^ 127 - 1) (d.first ∷ d.rest))) t
        ∙ ap (option_map pos) r
    complete (negsuc n) is = ap negative (decimal_read (2 ^ 127) (suc n) wide_negative (more n (2 ^ 127) is)) ∙ negative_gives n
      where
        more : (n limit : ℕ) → n < limit → suc n ≤ limit
        more n limit h = omega arith

    whole : (z : ℤ) → IsConstant z → list_all goes_on (number_word z) ≡ true
    whole (pos n) is = decimal_goes_on n (constant_wide n is)
    whole (negsuc n) is = decimal_goes_on (suc n) (negative_wide n is)

-- Kinds and operators ---------------------------------------------------------------------------------------------

abbrev pub IsAny : {A : Type 0} → A → Type 0
IsAny a = Unit {0}

pub kind_means : Means kind_of kind_word IsAny
kind_means = record { sound = sound; complete = complete; whole = whole }
  where
    sound : (word : List ℕ) (kind : NumKind) → kind_of word ≡ Some kind → (word ≡ kind_word kind) × Unit {0}
    sound word kind h =
        let P = (word ≡ kind_word kind) × Unit {0} in
        by_word word (codes "bool") _ _ _ P h
        (λ w e. (w ∙ ap kind_word (some_is Truth kind e), tt))
        (λ h. by_word word (codes "s8") _ _ _ P h
        (λ w e. (w ∙ ap kind_word (some_is S8 kind e), tt))
        (λ h. by_word word (codes "u8") _ _ _ P h
        (λ w e. (w ∙ ap kind_word (some_is U8 kind e), tt))
        (λ h. by_word word (codes "s16") _ _ _ P h
        (λ w e. (w ∙ ap kind_word (some_is S16 kind e), tt))
        (λ h. by_word word (codes "u16") _ _ _ P h
        (λ w e. (w ∙ ap kind_word (some_is U16 kind e), tt))
        (λ h. by_word word (codes "s32") _ _ _ P h
        (λ w e. (w ∙ ap kind_word (some_is S32 kind e), tt))
        (λ h. by_word word (codes "u32") _ _ _ P h
        (λ w e. (w ∙ ap kind_word (some_is U32 kind e), tt))
        (λ h. by_word word (codes "s64") _ _ _ P h
        (λ w e. (w ∙ ap kind_word (some_is S64 kind e), tt))
        (λ h. by_word word (codes "u64") _ _ _ P h
        (λ w e. (w ∙ ap kind_word (some_is U64 kind e), tt))
        (λ h. by_word word (codes "ptr") _ _ _ P h
        (λ w e. (w ∙ ap kind_word (some_is Ptr kind e), tt))
        (λ h. cc))))))))))

    complete : (kind : NumKind) → Unit {0} → kind_of (kind_word kind) ≡ Some kind
    complete Truth is = refl
    complete S8 is = refl
    complete U8 is = refl
    complete S16 is = refl
    complete U16 is = refl
    complete S32 is = refl
    complete U32 is = refl
    complete S64 is = refl
    complete U64 is = refl
    complete Ptr is = refl

    whole : (kind : NumKind) → Unit {0} → list_all goes_on (kind_word kind) ≡ true
    whole Truth is = refl
    whole S8 is = refl
    whole U8 is = refl
    whole S16 is = refl
    whole U16 is = refl
    whole S32 is = refl
    whole U32 is = refl
    whole S64 is = refl
    whole U64 is = refl
    whole Ptr is = refl

pub operator_sound : (word : List ℕ) (op : BinOp) → operator_of word ≡ Some op → word ≡ operator_word op
operator_sound word op h =
    let P = word ≡ operator_word op in
    by_word word (codes "add") _ _ _ P h
    (λ w e. w ∙ ap operator_word (some_is Add op e))
    (λ h. by_word word (codes "sub") _ _ _ P h
    (λ w e. w ∙ ap operator_word (some_is Sub op e))
    (λ h. by_word word (codes "mul") _ _ _ P h
    (λ w e. w ∙ ap operator_word (some_is Mul op e))
    (λ h. by_word word (codes "div") _ _ _ P h
    (λ w e. w ∙ ap operator_word (some_is Div op e))
    (λ h. by_word word (codes "rem") _ _ _ P h
    (λ w e. w ∙ ap operator_word (some_is Rem op e))
    (λ h. by_word word (codes "shl") _ _ _ P h
    (λ w e. w ∙ ap operator_word (some_is Shl op e))
    (λ h. by_word word (codes "shr") _ _ _ P h
    (λ w e. w ∙ ap operator_word (some_is Shr op e))
    (λ h. by_word word (codes "and") _ _ _ P h
    (λ w e. w ∙ ap operator_word (some_is And op e))
    (λ h. by_word word (codes "or") _ _ _ P h
    (λ w e. w ∙ ap operator_word (some_is Or op e))
    (λ h. by_word word (codes "xor") _ _ _ P h
    (λ w e. w ∙ ap operator_word (some_is Xor op e))
    (λ h. by_word word (codes "lt") _ _ _ P h
    (λ w e. w ∙ ap operator_word (some_is Lt op e))
    (λ h. by_word word (codes "le") _ _ _ P h
    (λ w e. w ∙ ap operator_word (some_is Le op e))
    (λ h. by_word word (codes "gt") _ _ _ P h
    (λ w e. w ∙ ap operator_word (some_is Gt op e))
    (λ h. by_word word (codes "ge") _ _ _ P h
    (λ w e. w ∙ ap operator_word (some_is Ge op e))
    (λ h. by_word word (codes "eq") _ _ _ P h
    (λ w e. w ∙ ap operator_word (some_is Eq op e))
    (λ h. by_word word (codes "ne") _ _ _ P h
    (λ w e. w ∙ ap operator_word (some_is Ne op e))
    (λ h. cc))))))))))))))))

mapped_some : {A : Type 0} (o : Option A) (r : Option A) → option_map (λ x. Some x) o ≡ Some r → (a : A) × (o ≡ Some a) × (r ≡ Some a)
mapped_some None r h = cc
mapped_some (Some a) r h = (a, refl, sym (some_is (Some a) r h))

pub result_means : Means result_of result_word IsAny
result_means = record { sound = sound; complete = complete; whole = whole }
  where
    sound : (word : List ℕ) (result : Option NumKind) → result_of word ≡ Some result → (word ≡ result_word result) × Unit {0}
    sound word result h =
        by_word word (codes "void") (Some None) (option_map (λ x. Some x) (kind_of word)) (Some result) ((word ≡ result_word result) × Unit {0}) h
        (λ w e. (w ∙ ap result_word (some_is None result e), tt))
        (λ h.
        let p = mapped_some (kind_of word) result h in
        ((kind_means.sound word p.0 p.1).0 ∙ ap result_word (sym p.2), tt))

    complete : (result : Option NumKind) → Unit {0} → result_of (result_word result) ≡ Some result
    complete None is = refl
    complete (Some Truth) is = refl
    complete (Some S8) is = refl
    complete (Some U8) is = refl
    complete (Some S16) is = refl
    complete (Some U16) is = refl
    complete (Some S32) is = refl
    complete (Some U32) is = refl
    complete (Some S64) is = refl
    complete (Some U64) is = refl
    complete (Some Ptr) is = refl

    whole : (result : Option NumKind) → Unit {0} → list_all goes_on (result_word result) ≡ true
    whole None is = refl
    whole (Some kind) is = kind_means.whole kind tt

pub bytes_means : Means bytes_of bytes_word IsAny
bytes_means = record { sound = sound; complete = complete; whole = whole }
  where
    sound : (word : List ℕ) (a : Bytes) → bytes_of word ≡ Some a → (word ≡ bytes_word a) × Unit {0}
    sound word a h =
        by_word word (codes "zero") _ _ (Some a) ((word ≡ bytes_word a) × Unit {0}) h
        (λ w e. (w ∙ ap (bytes_word) (some_is Zero a e), tt))
        (λ h. by_word word (codes "chosen") _ _ (Some a) ((word ≡ bytes_word a) × Unit {0}) h
        (λ w e. (w ∙ ap (bytes_word) (some_is Chosen a e), tt))
        (λ h. cc))

    complete : (a : Bytes) → Unit {0} → bytes_of (bytes_word a) ≡ Some a
    complete Zero is = refl
    complete Chosen is = refl

    whole : (a : Bytes) → Unit {0} → list_all goes_on (bytes_word a) ≡ true
    whole Zero is = refl
    whole Chosen is = refl

pub sharing_means : Means sharing_of sharing_word IsAny
sharing_means = record { sound = sound; complete = complete; whole = whole }
  where
    sound : (word : List ℕ) (a : Sharing) → sharing_of word ≡ Some a → (word ≡ sharing_word a) × Unit {0}
    sound word a h =
        by_word word (codes "any") _ _ (Some a) ((word ≡ sharing_word a) × Unit {0}) h
        (λ w e. (w ∙ ap (sharing_word) (some_is Any a e), tt))
        (λ h. by_word word (codes "apart") _ _ (Some a) ((word ≡ sharing_word a) × Unit {0}) h
        (λ w e. (w ∙ ap (sharing_word) (some_is Apart a e), tt))
        (λ h. cc))

    complete : (a : Sharing) → Unit {0} → sharing_of (sharing_word a) ≡ Some a
    complete Any is = refl
    complete Apart is = refl

    whole : (a : Sharing) → Unit {0} → list_all goes_on (sharing_word a) ≡ true
    whole Any is = refl
    whole Apart is = refl

abbrev pub sorts_word : Bool → List ℕ
sorts_word true = codes "4"
sorts_word false = codes "3"

pub sorts_mean : Means are_outside sorts_word IsAny
sorts_mean = record { sound = sound; complete = complete; whole = whole }
  where
    sound : (word : List ℕ) (a : Bool) → are_outside word ≡ Some a → (word ≡ sorts_word a) × Unit {0}
    sound word a h =
        by_word word (codes "4") _ _ (Some a) ((word ≡ sorts_word a) × Unit {0}) h
        (λ w e. (w ∙ ap (sorts_word) (some_is true a e), tt))
        (λ h. by_word word (codes "3") _ _ (Some a) ((word ≡ sorts_word a) × Unit {0}) h
        (λ w e. (w ∙ ap (sorts_word) (some_is false a e), tt))
        (λ h. cc))

    complete : (a : Bool) → Unit {0} → are_outside (sorts_word a) ≡ Some a
    complete true is = refl
    complete false is = refl

    whole : (a : Bool) → Unit {0} → list_all goes_on (sorts_word a) ≡ true
    whole true is = refl
    whole false is = refl

pub register_means : Means register_of register_word IsOptionalNumber
register_means = record { sound = sound; complete = complete; whole = whole }
  where
    sound : (word : List ℕ) (r : Option ℕ) → register_of word ≡ Some r → (word ≡ register_word r) × IsOptionalNumber r
    sound word r h =
        by_word word (codes "-") (Some None) (option_map (λ x. Some x) (number_of word)) (Some r) ((word ≡ register_word r) × IsOptionalNumber r) h
        (λ w e. subst (λ r. (word ≡ register_word r) × IsOptionalNumber r) (some_is None r e) (w, tt))
        (λ h.
        let p = mapped_some (number_of word) r h in
        let s = number_means.sound word p.0 p.1 in
        subst (λ r. (word ≡ register_word r) × IsOptionalNumber r) (sym p.2) (s.0, s.1))

    no_minus : (n : ℕ) → IsNumber n → decimal n ≡ codes "-" → ⊥
    no_minus n is e =
        let d = decimal_begins n (number_wide n is) in
        let t = digit_no_minus d.first d.digit in
        clash d.first d.rest (sym d.whole ∙ e) t
      where
        clash : (b : ℕ) (rest : List ℕ) → b ∷ rest ≡ 45 ∷ [] → (b == 45) ≡ false → ⊥
        clash b rest e t = let f : b ≡ 45 = cc in grind (arith, nat_tests)

    complete : (r : Option ℕ) → IsOptionalNumber r → register_of (register_word r) ≡ Some r
    complete None is = refl
    complete (Some n) is =
        ap (λ t. if t then Some None else option_map (λ x. Some x) (number_of (decimal n))) (not_same (decimal n) (codes "-") (no_minus n is))
        ∙ ap (option_map (λ x. Some x)) (number_means.complete n is)

    whole : (r : Option ℕ) → IsOptionalNumber r → list_all goes_on (register_word r) ≡ true
    whole None is = refl
    whole (Some n) is = number_means.whole n is

-- Names -----------------------------------------------------------------------------------------------------------

pub that_means : (test : List ℕ → Bool) → ((word : List ℕ) → test word ≡ true → list_all goes_on word ≡ true) → Means (word_that test) (λ word. word) (λ word. test word ≡ true)
that_means test goes =
    record {
      sound = λ word name h.
          let p = under_test (test word) (Some word) name h in
          let e = some_is word name p.1 in
          (e, subst (λ word. test word ≡ true) e p.0);
      complete = λ name is. ap (λ t. if t then Some name else None) is;
      whole = goes;
    }

pub literal_means : (wanted : List ℕ) → list_all goes_on wanted ≡ true → Means (literal wanted) (λ one. wanted) IsAny
literal_means wanted goes =
    record {
      sound = λ word one h.
          let p = under_test (same word wanted) (Some tt) one h in
          (equal_bytes word wanted p.0, tt);
      complete = λ one is. ap (λ t. if t then Some tt else None) (same_self wanted);
      whole = λ one is. goes;
    }

word_part_goes_on : (b : ℕ) → is_word_part b ≡ true → goes_on b ≡ true
word_part_goes_on b h = grind (arith, nat_tests)

check_part_goes_on : (b : ℕ) → is_check_part b ≡ true → goes_on b ≡ true
check_part_goes_on b h = grind (arith, nat_tests)

all_go_on : (p : ℕ → Bool) → ((b : ℕ) → p b ≡ true → goes_on b ≡ true) → (bytes : List ℕ) → list_all p bytes ≡ true → list_all goes_on bytes ≡ true
all_go_on p each [] h = refl
all_go_on p each (b ∷ bytes) h =
    let t = and_true (p b) (list_all p bytes) h in
    both_true (goes_on b) (list_all goes_on bytes) (each b t.0) (all_go_on p each bytes t.1)

letter_is_part : (b : ℕ) → (x : Bool) → (x ≡ true) → (x || is_digit b) ≡ true
letter_is_part b x h = rw h refl

pub word_goes_on : (word : List ℕ) → is_word word ≡ true → list_all goes_on word ≡ true
word_goes_on [] h = refl
word_goes_on (b ∷ bytes) h = all_go_on is_word_part word_part_goes_on (b ∷ bytes) (parts b bytes h)
  where
    parts : (b : ℕ) (bytes : List ℕ) → is_word (b ∷ bytes) ≡ true → list_all is_word_part (b ∷ bytes) ≡ true
    parts b bytes h =
        let t = and_true _ (list_all is_word_part bytes) h in
        both_true (is_word_part b) (list_all is_word_part bytes) (letter_is_part b _ t.0) t.1

pub check_name_goes_on : (word : List ℕ) → is_check_name word ≡ true → list_all goes_on word ≡ true
check_name_goes_on [] h = refl
check_name_goes_on (b ∷ bytes) h = all_go_on is_check_part check_part_goes_on (b ∷ bytes) h

pub body_name_goes_on : (word : List ℕ) → is_body_name word ≡ true → list_all goes_on word ≡ true
body_name_goes_on word h = by_test (is_word word) refl (same word (codes ".start")) refl h
  where
    by_test : (t : Bool) → is_word word ≡ t → (u : Bool) → same word (codes ".start") ≡ u → (t || u) ≡ true → list_all goes_on word ≡ true
    by_test true e u f h = word_goes_on word e
    by_test false e true f h = ap (list_all goes_on) (equal_bytes word (codes ".start") f)
    by_test false e false f h = cc
