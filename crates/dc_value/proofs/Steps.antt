-- Values in steps: the last step of an expression, and the turns of a quantifier.
use Rattle.std.proofs.Common.{◌≡◌, ℕ, zero, suc, true, false, nat_le, ℤ, pos, negsuc, ◌+ℤ◌, ◌-ℤ◌, List, [], ◌∷◌, ◌++◌, reverse, Option, Some, refl, ◌∙◌, arith}
use Rattle.std.specs.Prelude.{Result, Ok, Err, ◌<ℤ◌, ◌≤ℤ◌}
use Rattle.std.proofs.lemmas.Int.{ints}
use Rattle.dc_core.specs.Term.{Term, Quantified}
use Rattle.dc_core.specs.declared.operators.Quantifier.{Quantifier}
use Rattle.dc_num.specs.Conversions.{converted, natural, truth}
use Rattle.dc_num.specs.declared.kind.NumKind.{NumKind}
use Rattle.dc_goto.specs.Values.{Surroundings, Values, ◌>>=◌, have, is_true, settles, term_value, turn_limit, turns, undecided}
use Rattle.dc_value.specs.Answers.{Answers}
use Rattle.dc_value.specs.declared.no_value.NoValue.{NoValue}
use Rattle.dc_value.specs.declared.no_value.NoValue.TheVariants.{Undefined, Memory}

-- what is left to ask answers the whole
pub answers_last : (values rest : Values ℤ) (result : Result ℤ NoValue) (before mid after : List ℕ)
    → values (reverse before) ≡ rest (reverse mid) → Answers rest result mid after → Answers values result before after
answers_last values rest (Ok z) before mid after e a = e ∙ a
answers_last values rest (Err Undefined) before mid after e a = e ∙ a
answers_last values rest (Err (Memory error)) before mid after e a = a

-- what is left is a value or none
answers_defined : (values : Values ℤ) (value : Option ℤ) (result : Result ℤ NoValue) (before after : List ℕ)
    → ((seen : List ℕ) → Answers (have value) result seen seen) → values (reverse before) ≡ record { value = value; seen = reverse after } → Answers values result before after
answers_defined values value result before after a e = answers_last values (have value) result before after after e (a after)

-- an operand, or two, and then a value or none
pub one_defined : (first : Values ℤ) (f : ℤ → Option ℤ) (x : ℤ) (value : Option ℤ) (result : Result ℤ NoValue) (before after : List ℕ)
    → first (reverse before) ≡ record { value = Some x; seen = reverse after } → value ≡ f x → ((seen : List ℕ) → Answers (have value) result seen seen)
    → Answers (first >>= λ x. have (f x)) result before after
one_defined first f x value result before after e v a = answers_defined (first >>= λ x. have (f x)) value result before after a (rw (e, v) refl)

pub two_defined : (first second : Values ℤ) (f : ℤ → ℤ → Option ℤ) (x y : ℤ) (value : Option ℤ) (result : Result ℤ NoValue) (before mid after : List ℕ)
    → first (reverse before) ≡ record { value = Some x; seen = reverse mid } → second (reverse mid) ≡ record { value = Some y; seen = reverse after } → value ≡ f x y
    → ((seen : List ℕ) → Answers (have value) result seen seen) → Answers (first >>= λ x. second >>= λ y. have (f x y)) result before after
two_defined first second f x y value result before mid after d e v a =
    answers_defined (first >>= λ x. second >>= λ y. have (f x y)) value result before after a (rw (d, e, v) refl)

-- what is left are the turns of a quantifier
turns_same : (s : Surroundings) (vars vars' : List ℤ) (q : Quantifier) (body : Term) (low high low' high' : ℤ) (seen : List ℕ) → vars' ≡ vars → low' ≡ low → high' ≡ high
    → turns q (λ i. term_value s (vars ++ i ∷ []) body) (natural (high -ℤ low)) low seen ≡ turns q (λ i. term_value s (vars' ++ i ∷ []) body) (natural (high' -ℤ low')) low' seen
turns_same s vars vars' q body low high low' high' seen v l h = rw (v, l, h) refl

pub quantified_asked : (s : Surroundings) (vars vars' : List ℤ) (q : Quantifier) (d : ℕ) (kind : NumKind) (first second body : Term) (low high low' high' : ℤ) (result : Result ℤ NoValue) (before mid after last : List ℕ)
    → term_value s vars first (reverse before) ≡ record { value = Some low; seen = reverse mid } → term_value s vars second (reverse mid) ≡ record { value = Some high; seen = reverse after }
    → vars' ≡ vars → low' ≡ converted kind low → high' ≡ converted kind high → nat_le (natural (high' -ℤ low')) turn_limit ≡ true
    → Answers (turns q (λ i. term_value s (vars' ++ i ∷ []) body) (natural (high' -ℤ low')) low') result after last
    → Answers (term_value s vars (Quantified q d kind first second body)) result before last
quantified_asked s vars vars' q d kind first second body low high low' high' result before mid after last e f v l h few a =
    let within : nat_le (natural (converted kind high -ℤ converted kind low)) turn_limit ≡ true = rw (l, h) at few in
    answers_last (term_value s vars (Quantified q d kind first second body)) (turns q (λ i. term_value s (vars' ++ i ∷ []) body) (natural (high' -ℤ low')) low') result before after last
    (rw (e, f, within) (turns_same s vars vars' q body (converted kind low) (converted kind high) low' high' (reverse after) v l h)) a

natural-pred : (d e : ℤ) → pos 0 <ℤ d → e ≡ d -ℤ pos 1 → natural d ≡ suc (natural e)
natural-pred (pos zero) e h s = absurd (omega (arith, ints, h))
natural-pred (pos (suc n)) e h s = let k : e ≡ pos n = omega (arith, ints, s) in rw k refl
natural-pred (negsuc n) e h s = absurd (omega (arith, ints, h))

natural-zero : (d : ℤ) → d ≤ℤ pos 0 → natural d ≡ 0
natural-zero (pos zero) h = refl
natural-zero (pos (suc n)) h = absurd (omega (arith, ints, h))
natural-zero (negsuc n) h = refl

pub natural-more : (high turn next : ℤ) → next ≡ turn +ℤ pos 1 → turn <ℤ high → natural (high -ℤ turn) ≡ suc (natural (high -ℤ next))
natural-more high turn next e h = natural-pred (high -ℤ turn) (high -ℤ next) (omega (arith, ints, h)) (omega (arith, ints, e))

pub natural-none : (high turn : ℤ) → high ≤ℤ turn → natural (high -ℤ turn) ≡ 0
natural-none high turn h = natural-zero (high -ℤ turn) (omega (arith, ints, h))

-- a turn that doesn't decide, one that does, one without a value, and the end
pub turns-more : (q : Quantifier) (body : ℤ → Values ℤ) (k n : ℕ) (i next v : ℤ) (before after : List ℕ) → k ≡ suc n → next ≡ i +ℤ pos 1 → body i before ≡ record { value = Some v; seen = after }
    → settles q (is_true v) ≡ false → turns q body k i before ≡ turns q body n next after
turns-more q body k n i next v before after e t asked unsettled = rw (e, t, asked, unsettled) refl

pub turns-settled : (q : Quantifier) (body : ℤ → Values ℤ) (k n : ℕ) (i v : ℤ) (before after : List ℕ) → k ≡ suc n → body i before ≡ record { value = Some v; seen = after }
    → settles q (is_true v) ≡ true → turns q body k i before ≡ record { value = Some (truth (is_true v)); seen = after }
turns-settled q body k n i v before after e asked settled = rw (e, asked, settled) refl

pub turns-cut : (s : Surroundings) (vars vars' : List ℤ) (q : Quantifier) (body : Term) (k n : ℕ) (i : ℤ) (error : NoValue) (before after : List ℕ) → k ≡ suc n → vars' ≡ vars
    → Answers (term_value s (vars' ++ i ∷ []) body) (Err error) before after → Answers (turns q (λ i. term_value s (vars ++ i ∷ []) body) k i) (Err error) before after
turns-cut s vars vars' q body k n i Undefined before after e v a = let asked = rw v at a in rw (e, asked) refl
turns-cut s vars vars' q body k n i (Memory error) before after e v a = a

pub turns-end : (q : Quantifier) (body : ℤ → Values ℤ) (k : ℕ) (i : ℤ) (before : List ℕ) → k ≡ 0 → turns q body k i before ≡ record { value = Some (truth (undecided q)); seen = before }
turns-end q body k i before e = rw e refl
