-- Expressions are read as they are spelt.
use Rattle.std.proofs.Common.{◌≡◌, ℕ, zero, suc, ◌≤◌, max, List, [], ◌∷◌, ◌++◌, Option, None, Some, refl, sym, ap, subst, ◌∙◌, arith, append_assoc}
use Rattle.std.specs.Prelude.{if◌then◌else◌, codes}
use Rattle.std.specs.Fmt.{decimal}
use Rattle.dc_num.specs.declared.operators.BinOp.{BinOp}
use Rattle.dc_num.specs.declared.operators.BinOp.TheVariants.{Add, Sub, Mul, Div, Rem, Shl, Shr, And, Or, Xor, Lt, Le, Gt, Ge, Eq, Ne}
use Rattle.dc_num.specs.declared.kind.NumKind.{NumKind}
use Rattle.dc_num.specs.declared.kind.NumKind.TheVariants.{Bool as Truth, S8, U8, S16, U16, S32, U32, S64, U64, Ptr}
use Rattle.dc_num.specs.declared.operators.UnOp.TheVariants.{Neg, Not}
use Rattle.dc_core.specs.declared.operators.LazyOp.TheVariants.{Both, Either}
use Rattle.dc_core.specs.declared.operators.Property.TheVariants.{Start, Size, Offset, Freeable, Freed}
use Rattle.dc_core.specs.declared.operators.RangeTest.TheVariants.{Accessible, Fresh, New}
use Rattle.dc_core.specs.declared.operators.Quantifier.TheVariants.{ForAll, Exists}
use Rattle.dc_core.specs.Term.{Term, Constant, Register, Variable, Object, Load, Convert, Unary, Binary, Lazy, Choice, Moved, Distance, Asked, Tested, Between, Quantified}
use Rattle.dc_text.specs.Words.{same}
use Rattle.dc_goto.specs.Text.{kind_word, operator_word, unary_word, lazy_word, property_word, test_word, quantifier_word, number_word, spaced, parenthesised, term_word}
use Rattle.dc_goto.specs.Lines.{IsNumber, IsConstant, HasNumbers, height, height_limit, IsTerm}
use Rattle.dc_goto.specs.Reading.{Reading, got, behind_byte, front_word, behind_word, read_word, read_one, read_two, read_three, constant_of, kind_of, operator_of, read_number, read_kind, read_constant, read_leaf, read_placed, read_claimed, read_operated, read_opened, closed, read_parenthesised, read_term, read_low}
use Rattle.dc_goto.proofs.Pieces.{then_parts, got_parts, behind_parts, by_word, Ends, word_whole, Reads, word_reads, one_complete, one_sound, two_complete, two_sound, three_complete, three_sound, five_complete, five_sound}
use Rattle.dc_goto.proofs.Meanings.{number_means, constant_means, IsAny, kind_means, operator_sound}

pub number_reads : Reads read_number decimal IsNumber
number_reads = word_reads _ _ _ number_means

pub kind_reads : Reads read_kind kind_word IsAny
kind_reads = word_reads _ _ _ kind_means

constant_reads : Reads (read_word constant_of) number_word IsConstant
constant_reads = word_reads _ _ _ constant_means

-- an expression of at most that height, of numbers that may stand in a line
abbrev pub IsWithin : ℕ → Term → Type 0
IsWithin n t = HasNumbers t × (height t ≤ n)

-- what stands between the parentheses
abbrev inner : Term → List ℕ
inner (Constant kind z) = kind_word kind ++ spaced (number_word z ∷ [])
inner (Register r) = codes "reg" ++ spaced (decimal r ∷ [])
inner (Variable d) = codes "var" ++ spaced (decimal d ∷ [])
inner (Object n) = codes "obj" ++ spaced (decimal n ∷ [])
inner (Load kind a) = codes "load" ++ spaced (kind_word kind ∷ term_word a ∷ [])
inner (Convert to from a) = codes "conv" ++ spaced (kind_word to ∷ kind_word from ∷ term_word a ∷ [])
inner (Unary op kind a) = unary_word op ++ spaced (kind_word kind ∷ term_word a ∷ [])
inner (Binary op kind a b) = operator_word op ++ spaced (kind_word kind ∷ term_word a ∷ term_word b ∷ [])
inner (Lazy op a b) = lazy_word op ++ spaced (term_word a ∷ term_word b ∷ [])
inner (Moved size a b) = codes "at" ++ spaced (decimal size ∷ term_word a ∷ term_word b ∷ [])
inner (Distance size a b) = codes "diff" ++ spaced (decimal size ∷ term_word a ∷ term_word b ∷ [])
inner (Asked of a) = property_word of ++ spaced (term_word a ∷ [])
inner (Tested test a b) = test_word test ++ spaced (term_word a ∷ term_word b ∷ [])
inner (Between a b c) = codes "inrange" ++ spaced (term_word a ∷ term_word b ∷ term_word c ∷ [])
inner (Quantified q d kind a b c) = quantifier_word q ++ spaced (decimal d ∷ kind_word kind ∷ term_word a ∷ term_word b ∷ term_word c ∷ [])
inner (Choice a b c) = codes "if" ++ spaced (term_word a ∷ term_word b ∷ term_word c ∷ [])

parenthesised_inner : (word : List ℕ) (words : List (List ℕ)) → parenthesised word words ≡ 40 ∷ ((word ++ spaced words) ++ 41 ∷ [])
parenthesised_inner word words = ap (λ l. 40 ∷ l) (sym (append_assoc word (spaced words) (41 ∷ [])))

word_inner : (t : Term) → term_word t ≡ 40 ∷ (inner t ++ 41 ∷ [])
word_inner (Constant kind z) = parenthesised_inner (kind_word kind) (number_word z ∷ [])
word_inner (Register r) = refl
word_inner (Variable d) = refl
word_inner (Object n) = refl
word_inner (Load kind a) = refl
word_inner (Convert to from a) = refl
word_inner (Unary op kind a) = parenthesised_inner (unary_word op) (kind_word kind ∷ term_word a ∷ [])
word_inner (Binary op kind a b) = parenthesised_inner (operator_word op) (kind_word kind ∷ term_word a ∷ term_word b ∷ [])
word_inner (Lazy op a b) = parenthesised_inner (lazy_word op) (term_word a ∷ term_word b ∷ [])
word_inner (Choice a b c) = refl
word_inner (Moved size a b) = refl
word_inner (Distance size a b) = refl
word_inner (Asked of a) = parenthesised_inner (property_word of) (term_word a ∷ [])
word_inner (Tested test a b) = parenthesised_inner (test_word test) (term_word a ∷ term_word b ∷ [])
word_inner (Between a b c) = refl
word_inner (Quantified q d kind a b c) =
    parenthesised_inner (quantifier_word q) (decimal d ∷ kind_word kind ∷ term_word a ∷ term_word b ∷ term_word c ∷ [])

word_before : (t : Term) (rest : List ℕ) → term_word t ++ rest ≡ 40 ∷ (inner t ++ (41 ∷ rest))
word_before t rest = ap (λ l. l ++ rest) (word_inner t) ∙ ap (λ l. 40 ∷ l) (append_assoc (inner t) (41 ∷ []) rest)

-- Between the parentheses -------------------------------------------------------------------------------------------

higher : (n : ℕ) → 1 ≤ suc n
higher n = omega arith

higher_both : (m n k : ℕ) → m ≤ k → n ≤ k → suc (max m n) ≤ suc k
higher_both m n k p q = omega arith

lower_left : (m n k : ℕ) → suc (max m n) ≤ suc k → m ≤ k
lower_left m n k p = omega arith

lower_right : (m n k : ℕ) → suc (max m n) ≤ suc k → n ≤ k
lower_right m n k p = omega arith

higher_one : (m n : ℕ) → m ≤ n → suc m ≤ suc n
higher_one m n h = omega arith

lower_one : (m n : ℕ) → suc m ≤ suc n → m ≤ n
lower_one m n h = omega arith

higher_three : (l m n k : ℕ) → l ≤ k → m ≤ k → n ≤ k → suc (max l (max m n)) ≤ suc k
higher_three l m n k p q r = omega arith

lower_first : (l m n k : ℕ) → suc (max l (max m n)) ≤ suc k → l ≤ k
lower_first l m n k p = omega arith

lower_second : (l m n k : ℕ) → suc (max l (max m n)) ≤ suc k → m ≤ k
lower_second l m n k p = omega arith

lower_third : (l m n k : ℕ) → suc (max l (max m n)) ≤ suc k → n ≤ k
lower_third l m n k p = omega arith

-- what is read behind a first word
abbrev Opened : ℕ → List ℕ → List ℕ → List ℕ → Term → Type 0
Opened n word rest bytes t = (word ++ bytes ≡ inner t ++ rest) × IsWithin (suc n) t

constant_sound : (n : ℕ) (kind : Option NumKind) (word bytes rest : List ℕ) (t : Term) → ((k : NumKind) → kind ≡ Some k → word ≡ kind_word k) → read_constant kind bytes ≡ got t rest → Opened n word rest bytes t
constant_sound n None word bytes rest t w h = cc
constant_sound n (Some kind) word bytes rest t w h =
    one_sound constant_reads (Constant kind) bytes rest t h (Opened n word rest) (λ z is.
    (ap (λ w. w ++ (spaced (number_word z ∷ []) ++ rest)) (w kind refl) ∙ sym (append_assoc (kind_word kind) (spaced (number_word z ∷ [])) rest), (is, higher n)))

leaf_sound : (n : ℕ) (word bytes rest : List ℕ) (t : Term) → read_leaf word bytes ≡ got t rest → Opened n word rest bytes t
leaf_sound n word bytes rest t h =
    by_word word (codes "reg") _ _ (got t rest) (Opened n word rest bytes t) h
    (λ w h. one_sound number_reads Register bytes rest t h (Opened n word rest) (λ r is. (ap (λ w. w ++ (spaced (decimal r ∷ []) ++ rest)) w, (is, higher n))))
    (λ h. by_word word (codes "var") _ _ (got t rest) (Opened n word rest bytes t) h
    (λ w h. one_sound number_reads Variable bytes rest t h (Opened n word rest) (λ r is. (ap (λ w. w ++ (spaced (decimal r ∷ []) ++ rest)) w, (is, higher n))))
    (λ h. by_word word (codes "obj") _ _ (got t rest) (Opened n word rest bytes t) h
    (λ w h. one_sound number_reads Object bytes rest t h (Opened n word rest) (λ r is. (ap (λ w. w ++ (spaced (decimal r ∷ []) ++ rest)) w, (is, higher n))))
    (λ h. constant_sound n (kind_of word) word bytes rest t (λ k e. (kind_means.sound word k e).0) h)))

placed_sound : (n : ℕ) (again : List ℕ → Reading Term) → Reads again term_word (IsWithin n) → (word bytes rest : List ℕ) (t : Term) → read_placed again word bytes ≡ got t rest → Opened n word rest bytes t
placed_sound n again r word bytes rest t h =
    by_word word (codes "at") _ _ (got t rest) (Opened n word rest bytes t) h
    (λ w h. three_sound number_reads r r (Moved) bytes rest t h (Opened n word rest) (λ size a b iz ia ib. (ap (λ w. w ++ (spaced (decimal size ∷ term_word a ∷ term_word b ∷ []) ++ rest)) w, ((iz, ia.0, ib.0), higher_both (height a) (height b) n ia.1 ib.1))))
    (λ h. by_word word (codes "diff") _ _ (got t rest) (Opened n word rest bytes t) h
    (λ w h. three_sound number_reads r r (Distance) bytes rest t h (Opened n word rest) (λ size a b iz ia ib. (ap (λ w. w ++ (spaced (decimal size ∷ term_word a ∷ term_word b ∷ []) ++ rest)) w, ((iz, ia.0, ib.0), higher_both (height a) (height b) n ia.1 ib.1))))
    (λ h. by_word word (codes "start") _ _ (got t rest) (Opened n word rest bytes t) h
    (λ w h. one_sound r (Asked Start) bytes rest t h (Opened n word rest) (λ a ia. (ap (λ w. w ++ (spaced (term_word a ∷ []) ++ rest)) w, (ia.0, higher_one (height a) n ia.1))))
    (λ h. by_word word (codes "size") _ _ (got t rest) (Opened n word rest bytes t) h
    (λ w h. one_sound r (Asked Size) bytes rest t h (Opened n word rest) (λ a ia. (ap (λ w. w ++ (spaced (term_word a ∷ []) ++ rest)) w, (ia.0, higher_one (height a) n ia.1))))
    (λ h. by_word word (codes "offset") _ _ (got t rest) (Opened n word rest bytes t) h
    (λ w h. one_sound r (Asked Offset) bytes rest t h (Opened n word rest) (λ a ia. (ap (λ w. w ++ (spaced (term_word a ∷ []) ++ rest)) w, (ia.0, higher_one (height a) n ia.1))))
    (λ h. by_word word (codes "freeable") _ _ (got t rest) (Opened n word rest bytes t) h
    (λ w h. one_sound r (Asked Freeable) bytes rest t h (Opened n word rest) (λ a ia. (ap (λ w. w ++ (spaced (term_word a ∷ []) ++ rest)) w, (ia.0, higher_one (height a) n ia.1))))
    (λ h. by_word word (codes "freed") _ _ (got t rest) (Opened n word rest bytes t) h
    (λ w h. one_sound r (Asked Freed) bytes rest t h (Opened n word rest) (λ a ia. (ap (λ w. w ++ (spaced (term_word a ∷ []) ++ rest)) w, (ia.0, higher_one (height a) n ia.1))))
    (λ h. leaf_sound n word bytes rest t h)))))))

claimed_sound : (n : ℕ) (again : List ℕ → Reading Term) → Reads again term_word (IsWithin n) → (word bytes rest : List ℕ) (t : Term) → read_claimed again word bytes ≡ got t rest → Opened n word rest bytes t
claimed_sound n again r word bytes rest t h =
    by_word word (codes "ok") _ _ (got t rest) (Opened n word rest bytes t) h
    (λ w h. two_sound r r (Tested Accessible) bytes rest t h (Opened n word rest) (λ a b ia ib. (ap (λ w. w ++ (spaced (term_word a ∷ term_word b ∷ []) ++ rest)) w, ((ia.0, ib.0), higher_both (height a) (height b) n ia.1 ib.1))))
    (λ h. by_word word (codes "fresh") _ _ (got t rest) (Opened n word rest bytes t) h
    (λ w h. two_sound r r (Tested Fresh) bytes rest t h (Opened n word rest) (λ a b ia ib. (ap (λ w. w ++ (spaced (term_word a ∷ term_word b ∷ []) ++ rest)) w, ((ia.0, ib.0), higher_both (height a) (height b) n ia.1 ib.1))))
    (λ h. by_word word (codes "new") _ _ (got t rest) (Opened n word rest bytes t) h
    (λ w h. two_sound r r (Tested New) bytes rest t h (Opened n word rest) (λ a b ia ib. (ap (λ w. w ++ (spaced (term_word a ∷ term_word b ∷ []) ++ rest)) w, ((ia.0, ib.0), higher_both (height a) (height b) n ia.1 ib.1))))
    (λ h. by_word word (codes "inrange") _ _ (got t rest) (Opened n word rest bytes t) h
    (λ w h. three_sound r r r Between bytes rest t h (Opened n word rest) (λ a b c ia ib ic. (ap (λ w. w ++ (spaced (term_word a ∷ term_word b ∷ term_word c ∷ []) ++ rest)) w, ((ia.0, ib.0, ic.0), higher_three (height a) (height b) (height c) n ia.1 ib.1 ic.1))))
    (λ h. by_word word (codes "forall") _ _ (got t rest) (Opened n word rest bytes t) h
    (λ w h. five_sound number_reads kind_reads r r r (Quantified ForAll) bytes rest t h (Opened n word rest) (λ d kind a b c id_ ik ia ib ic. (ap (λ w. w ++ (spaced (decimal d ∷ kind_word kind ∷ term_word a ∷ term_word b ∷ term_word c ∷ []) ++ rest)) w, ((id_, ia.0, ib.0, ic.0), higher_three (height a) (height b) (height c) n ia.1 ib.1 ic.1))))
    (λ h. by_word word (codes "exists") _ _ (got t rest) (Opened n word rest bytes t) h
    (λ w h. five_sound number_reads kind_reads r r r (Quantified Exists) bytes rest t h (Opened n word rest) (λ d kind a b c id_ ik ia ib ic. (ap (λ w. w ++ (spaced (decimal d ∷ kind_word kind ∷ term_word a ∷ term_word b ∷ term_word c ∷ []) ++ rest)) w, ((id_, ia.0, ib.0, ic.0), higher_three (height a) (height b) (height c) n ia.1 ib.1 ic.1))))
    (λ h. placed_sound n again r word bytes rest t h))))))

operated_sound : (n : ℕ) (again : List ℕ → Reading Term) → Reads again term_word (IsWithin n) → (op : Option BinOp) (word bytes rest : List ℕ) (t : Term) → ((o : BinOp) → op ≡ Some o → word ≡ operator_word o) → read_operated again op word bytes ≡ got t rest → Opened n word rest bytes t
operated_sound n again r None word bytes rest t w h = claimed_sound n again r word bytes rest t h
operated_sound n again r (Some op) word bytes rest t w h =
    three_sound kind_reads r r (Binary op) bytes rest t h (Opened n word rest) (λ kind a b ik ia ib. (
      ap (λ w. w ++ (spaced (kind_word kind ∷ term_word a ∷ term_word b ∷ []) ++ rest)) (w op refl)
          ∙ sym (append_assoc (operator_word op) (spaced (kind_word kind ∷ term_word a ∷ term_word b ∷ [])) rest),
      ((ia.0, ib.0), higher_both (height a) (height b) n ia.1 ib.1),
    ))

opened_sound : (n : ℕ) (again : List ℕ → Reading Term) → Reads again term_word (IsWithin n) → (word bytes rest : List ℕ) (t : Term) → read_opened again word bytes ≡ got t rest → Opened n word rest bytes t
opened_sound n again r word bytes rest t h =
    by_word word (codes "load") _ _ (got t rest) (Opened n word rest bytes t) h
    (λ w h. two_sound kind_reads r Load bytes rest t h (Opened n word rest) (λ kind a ik ia. (ap (λ w. w ++ (spaced (kind_word kind ∷ term_word a ∷ []) ++ rest)) w, (ia.0, higher_one (height a) n ia.1))))
    (λ h. by_word word (codes "conv") _ _ (got t rest) (Opened n word rest bytes t) h
    (λ w h. three_sound kind_reads kind_reads r Convert bytes rest t h (Opened n word rest) (λ to from a it if_ ia. (ap (λ w. w ++ (spaced (kind_word to ∷ kind_word from ∷ term_word a ∷ []) ++ rest)) w, (ia.0, higher_one (height a) n ia.1))))
    (λ h. by_word word (codes "neg") _ _ (got t rest) (Opened n word rest bytes t) h
    (λ w h. two_sound kind_reads r (Unary Neg) bytes rest t h (Opened n word rest) (λ kind a ik ia. (ap (λ w. w ++ (spaced (kind_word kind ∷ term_word a ∷ []) ++ rest)) w, (ia.0, higher_one (height a) n ia.1))))
    (λ h. by_word word (codes "not") _ _ (got t rest) (Opened n word rest bytes t) h
    (λ w h. two_sound kind_reads r (Unary Not) bytes rest t h (Opened n word rest) (λ kind a ik ia. (ap (λ w. w ++ (spaced (kind_word kind ∷ term_word a ∷ []) ++ rest)) w, (ia.0, higher_one (height a) n ia.1))))
    (λ h. by_word word (codes "and2") _ _ (got t rest) (Opened n word rest bytes t) h
    (λ w h. two_sound r r (Lazy Both) bytes rest t h (Opened n word rest) (λ a b ia ib. (ap (λ w. w ++ (spaced (term_word a ∷ term_word b ∷ []) ++ rest)) w, ((ia.0, ib.0), higher_both (height a) (height b) n ia.1 ib.1))))
    (λ h. by_word word (codes "or2") _ _ (got t rest) (Opened n word rest bytes t) h
    (λ w h. two_sound r r (Lazy Either) bytes rest t h (Opened n word rest) (λ a b ia ib. (ap (λ w. w ++ (spaced (term_word a ∷ term_word b ∷ []) ++ rest)) w, ((ia.0, ib.0), higher_both (height a) (height b) n ia.1 ib.1))))
    (λ h. by_word word (codes "if") _ _ (got t rest) (Opened n word rest bytes t) h
    (λ w h. three_sound r r r Choice bytes rest t h (Opened n word rest) (λ a b c ia ib ic. (ap (λ w. w ++ (spaced (term_word a ∷ term_word b ∷ term_word c ∷ []) ++ rest)) w, ((ia.0, ib.0, ic.0), higher_three (height a) (height b) (height c) n ia.1 ib.1 ic.1))))
    (λ h. operated_sound n again r (operator_of word) word bytes rest t (operator_sound word) h)))))))

opened_complete : (n : ℕ) (again : List ℕ → Reading Term) → Reads again term_word (IsWithin n) → (t : Term) (rest : List ℕ) → IsWithin (suc n) t → Ends rest → read_opened again (front_word (inner t ++ rest)) (behind_word (inner t ++ rest)) ≡ got t rest
opened_complete n again r (Constant Truth z) rest is e = one_complete constant_reads (Constant Truth) z rest is.0 e
opened_complete n again r (Constant S8 z) rest is e = one_complete constant_reads (Constant S8) z rest is.0 e
opened_complete n again r (Constant U8 z) rest is e = one_complete constant_reads (Constant U8) z rest is.0 e
opened_complete n again r (Constant S16 z) rest is e = one_complete constant_reads (Constant S16) z rest is.0 e
opened_complete n again r (Constant U16 z) rest is e = one_complete constant_reads (Constant U16) z rest is.0 e
opened_complete n again r (Constant S32 z) rest is e = one_complete constant_reads (Constant S32) z rest is.0 e
opened_complete n again r (Constant U32 z) rest is e = one_complete constant_reads (Constant U32) z rest is.0 e
opened_complete n again r (Constant S64 z) rest is e = one_complete constant_reads (Constant S64) z rest is.0 e
opened_complete n again r (Constant U64 z) rest is e = one_complete constant_reads (Constant U64) z rest is.0 e
opened_complete n again r (Constant Ptr z) rest is e = one_complete constant_reads (Constant Ptr) z rest is.0 e
opened_complete n again r (Register m) rest is e = one_complete number_reads Register m rest is.0 e
opened_complete n again r (Variable m) rest is e = one_complete number_reads Variable m rest is.0 e
opened_complete n again r (Object m) rest is e = one_complete number_reads Object m rest is.0 e
opened_complete n again r (Load kind a) rest is e = two_complete kind_reads r Load kind a rest tt (is.0, lower_one (height a) n is.1) e
opened_complete n again r (Convert to from a) rest is e = three_complete kind_reads kind_reads r Convert to from a rest tt tt (is.0, lower_one (height a) n is.1) e
opened_complete n again r (Unary Neg kind a) rest is e = two_complete kind_reads r (Unary Neg) kind a rest tt (is.0, lower_one (height a) n is.1) e
opened_complete n again r (Unary Not kind a) rest is e = two_complete kind_reads r (Unary Not) kind a rest tt (is.0, lower_one (height a) n is.1) e
opened_complete n again r (Lazy Both a b) rest is e = two_complete r r (Lazy Both) a b rest (is.0.0, lower_left (height a) (height b) n is.1) (is.0.1, lower_right (height a) (height b) n is.1) e
opened_complete n again r (Lazy Either a b) rest is e = two_complete r r (Lazy Either) a b rest (is.0.0, lower_left (height a) (height b) n is.1) (is.0.1, lower_right (height a) (height b) n is.1) e
opened_complete n again r (Choice a b c) rest is e =
    three_complete r r r Choice a b c rest (is.0.0, lower_first (height a) (height b) (height c) n is.1) (is.0.1, lower_second (height a) (height b) (height c) n is.1)
    (is.0.2, lower_third (height a) (height b) (height c) n is.1) e
opened_complete n again r (Moved size a b) rest is e = three_complete number_reads r r Moved size a b rest is.0.0 (is.0.1, lower_left (height a) (height b) n is.1) (is.0.2, lower_right (height a) (height b) n is.1) e
opened_complete n again r (Distance size a b) rest is e = three_complete number_reads r r Distance size a b rest is.0.0 (is.0.1, lower_left (height a) (height b) n is.1) (is.0.2, lower_right (height a) (height b) n is.1) e
opened_complete n again r (Asked Start a) rest is e = one_complete r (Asked Start) a rest (is.0, lower_one (height a) n is.1) e
opened_complete n again r (Asked Size a) rest is e = one_complete r (Asked Size) a rest (is.0, lower_one (height a) n is.1) e
opened_complete n again r (Asked Offset a) rest is e = one_complete r (Asked Offset) a rest (is.0, lower_one (height a) n is.1) e
opened_complete n again r (Asked Freeable a) rest is e = one_complete r (Asked Freeable) a rest (is.0, lower_one (height a) n is.1) e
opened_complete n again r (Asked Freed a) rest is e = one_complete r (Asked Freed) a rest (is.0, lower_one (height a) n is.1) e
opened_complete n again r (Tested Accessible a b) rest is e = two_complete r r (Tested Accessible) a b rest (is.0.0, lower_left (height a) (height b) n is.1) (is.0.1, lower_right (height a) (height b) n is.1) e
opened_complete n again r (Tested Fresh a b) rest is e = two_complete r r (Tested Fresh) a b rest (is.0.0, lower_left (height a) (height b) n is.1) (is.0.1, lower_right (height a) (height b) n is.1) e
opened_complete n again r (Tested New a b) rest is e = two_complete r r (Tested New) a b rest (is.0.0, lower_left (height a) (height b) n is.1) (is.0.1, lower_right (height a) (height b) n is.1) e
opened_complete n again r (Between a b c) rest is e = three_complete r r r Between a b c rest (is.0.0, lower_first (height a) (height b) (height c) n is.1) (is.0.1, lower_second (height a) (height b) (height c) n is.1) (is.0.2, lower_third (height a) (height b) (height c) n is.1) e
opened_complete n again r (Quantified ForAll d kind a b c) rest is e = five_complete number_reads kind_reads r r r (Quantified ForAll) d kind a b c rest is.0.0 tt (is.0.1, lower_first (height a) (height b) (height c) n is.1) (is.0.2, lower_second (height a) (height b) (height c) n is.1) (is.0.3, lower_third (height a) (height b) (height c) n is.1) e
opened_complete n again r (Quantified Exists d kind a b c) rest is e = five_complete number_reads kind_reads r r r (Quantified Exists) d kind a b c rest is.0.0 tt (is.0.1, lower_first (height a) (height b) (height c) n is.1) (is.0.2, lower_second (height a) (height b) (height c) n is.1) (is.0.3, lower_third (height a) (height b) (height c) n is.1) e
opened_complete n again r (Binary Add kind a b) rest is e = three_complete kind_reads r r (Binary Add) kind a b rest tt (is.0.0, lower_left (height a) (height b) n is.1) (is.0.1, lower_right (height a) (height b) n is.1) e
opened_complete n again r (Binary Sub kind a b) rest is e = three_complete kind_reads r r (Binary Sub) kind a b rest tt (is.0.0, lower_left (height a) (height b) n is.1) (is.0.1, lower_right (height a) (height b) n is.1) e
opened_complete n again r (Binary Mul kind a b) rest is e = three_complete kind_reads r r (Binary Mul) kind a b rest tt (is.0.0, lower_left (height a) (height b) n is.1) (is.0.1, lower_right (height a) (height b) n is.1) e
opened_complete n again r (Binary Div kind a b) rest is e = three_complete kind_reads r r (Binary Div) kind a b rest tt (is.0.0, lower_left (height a) (height b) n is.1) (is.0.1, lower_right (height a) (height b) n is.1) e
opened_complete n again r (Binary Rem kind a b) rest is e = three_complete kind_reads r r (Binary Rem) kind a b rest tt (is.0.0, lower_left (height a) (height b) n is.1) (is.0.1, lower_right (height a) (height b) n is.1) e
opened_complete n again r (Binary Shl kind a b) rest is e = three_complete kind_reads r r (Binary Shl) kind a b rest tt (is.0.0, lower_left (height a) (height b) n is.1) (is.0.1, lower_right (height a) (height b) n is.1) e
opened_complete n again r (Binary Shr kind a b) rest is e = three_complete kind_reads r r (Binary Shr) kind a b rest tt (is.0.0, lower_left (height a) (height b) n is.1) (is.0.1, lower_right (height a) (height b) n is.1) e
opened_complete n again r (Binary And kind a b) rest is e = three_complete kind_reads r r (Binary And) kind a b rest tt (is.0.0, lower_left (height a) (height b) n is.1) (is.0.1, lower_right (height a) (height b) n is.1) e
opened_complete n again r (Binary Or kind a b) rest is e = three_complete kind_reads r r (Binary Or) kind a b rest tt (is.0.0, lower_left (height a) (height b) n is.1) (is.0.1, lower_right (height a) (height b) n is.1) e
opened_complete n again r (Binary Xor kind a b) rest is e = three_complete kind_reads r r (Binary Xor) kind a b rest tt (is.0.0, lower_left (height a) (height b) n is.1) (is.0.1, lower_right (height a) (height b) n is.1) e
opened_complete n again r (Binary Lt kind a b) rest is e = three_complete kind_reads r r (Binary Lt) kind a b rest tt (is.0.0, lower_left (height a) (height b) n is.1) (is.0.1, lower_right (height a) (height b) n is.1) e
opened_complete n again r (Binary Le kind a b) rest is e = three_complete kind_reads r r (Binary Le) kind a b rest tt (is.0.0, lower_left (height a) (height b) n is.1) (is.0.1, lower_right (height a) (height b) n is.1) e
opened_complete n again r (Binary Gt kind a b) rest is e = three_complete kind_reads r r (Binary Gt) kind a b rest tt (is.0.0, lower_left (height a) (height b) n is.1) (is.0.1, lower_right (height a) (height b) n is.1) e
opened_complete n again r (Binary Ge kind a b) rest is e = three_complete kind_reads r r (Binary Ge) kind a b rest tt (is.0.0, lower_left (height a) (height b) n is.1) (is.0.1, lower_right (height a) (height b) n is.1) e
opened_complete n again r (Binary Eq kind a b) rest is e = three_complete kind_reads r r (Binary Eq) kind a b rest tt (is.0.0, lower_left (height a) (height b) n is.1) (is.0.1, lower_right (height a) (height b) n is.1) e
opened_complete n again r (Binary Ne kind a b) rest is e = three_complete kind_reads r r (Binary Ne) kind a b rest tt (is.0.0, lower_left (height a) (height b) n is.1) (is.0.1, lower_right (height a) (height b) n is.1) e

-- Expressions -------------------------------------------------------------------------------------------------------

parenthesised_reads : (n : ℕ) (again : List ℕ → Reading Term) → Reads again term_word (IsWithin n) → Reads (read_parenthesised again) term_word (IsWithin (suc n))
parenthesised_reads n again r = record { sound = sound; complete = complete }
  where
    sound : (bytes rest : List ℕ) (t : Term) → read_parenthesised again bytes ≡ got t rest → (bytes ≡ term_word t ++ rest) × IsWithin (suc n) t
    sound bytes rest t h =
        let p = behind_parts 40 bytes (λ bytes. closed (read_opened again (front_word bytes) (behind_word bytes))) t rest h in
        let q = then_parts (read_opened again (front_word p.tail) (behind_word p.tail)) (λ t bytes. behind_byte 41 bytes (got t)) t rest p.read in
        let s = behind_parts 41 q.middle (got q.value) t rest q.second in
        let v = got_parts q.value t s.tail rest s.read in
        let o = opened_sound n again r (front_word p.tail) (behind_word p.tail) q.middle q.value q.first in
        let text : bytes ≡ term_word q.value ++ rest =
        p.whole ∙ ap (λ l. 40 ∷ l) (sym (word_whole p.tail) ∙ o.0 ∙ ap (λ l. inner q.value ++ l) (s.whole ∙ ap (λ l. 41 ∷ l) v.1))
        ∙ sym (word_before q.value rest) in
        subst (λ t. (bytes ≡ term_word t ++ rest) × IsWithin (suc n) t) v.0 (text, o.1)

    complete : (t : Term) (rest : List ℕ) → IsWithin (suc n) t → Ends rest → read_parenthesised again (term_word t ++ rest) ≡ got t rest
    complete t rest is e =
        ap (read_parenthesised again) (word_before t rest)
        ∙ ap closed (opened_complete n again r t (41 ∷ rest) is refl)

tall : (t : Term) → height t ≤ 0 → ⊥
tall (Constant kind z) h = omega arith
tall (Register r) h = omega arith
tall (Variable d) h = omega arith
tall (Object n) h = omega arith
tall (Load kind a) h = omega arith
tall (Convert to from a) h = omega arith
tall (Unary op kind a) h = omega arith
tall (Binary op kind a b) h = omega arith
tall (Lazy op a b) h = omega arith
tall (Choice a b c) h = omega arith
tall (Moved size a b) h = omega arith
tall (Distance size a b) h = omega arith
tall (Asked of a) h = omega arith
tall (Tested test a b) h = omega arith
tall (Between a b c) h = omega arith
tall (Quantified q d kind a b c) h = omega arith

pub term_reads : (n : ℕ) → Reads (read_term n) term_word (IsWithin n)
unfolding read_term
term_reads zero = record { sound = λ bytes rest t h. cc; complete = λ t rest is e. absurd (tall t is.1) }
term_reads (suc n) = parenthesised_reads n (read_term n) (term_reads n)

pub low_reads : Reads read_low term_word IsTerm
low_reads =
    let r = term_reads height_limit in
    record {
      sound = λ bytes rest t h. let s = r.sound bytes rest t h in (s.0, record { numbers = s.1.0; low = s.1.1 });
      complete = λ t rest is e. r.complete t rest (is.numbers, is.low) e;
    }
