-- The objects of a body beyond the first so many.
use Rattle.std.proofs.Common.{◌≡◌, ℕ, suc, ◌+◌, ◌-◌, ◌≤◌, ◌<◌, List, [], ◌∷◌, ◌++◌, length, take, drop, map, reverse, refl, ap, ◌∙◌, arith, length-append}
use Rattle.std.proofs.lemmas.List.{length-reverse, reverse-append}
use Rattle.dc_core.specs.Event.{Kill}
use Rattle.dc_core.specs.Run.{Did}
use Rattle.dc_core.specs.World.{left}
use Rattle.dc_goto.specs.Acts.{Now, newer, older, without_locals}

pub newer-more : (m object : ℕ) (locals : List ℕ) → m ≤ length locals → newer m (object ∷ locals) ≡ object ∷ newer m locals
newer-more m object locals h =
    let e : length (object ∷ locals) - m ≡ suc (length locals - m) = omega arith in ap (λ n. take n (object ∷ locals)) e

pub older-more : (m object : ℕ) (locals : List ℕ) → m ≤ length locals → older m (object ∷ locals) ≡ older m locals
older-more m object locals h =
    let e : length (object ∷ locals) - m ≡ suc (length locals - m) = omega arith in ap (λ n. drop n (object ∷ locals)) e

take-zero : (locals : List ℕ) → take 0 locals ≡ []
take-zero [] = refl
take-zero (x ∷ locals) = refl

drop-zero : (locals : List ℕ) → drop 0 locals ≡ locals
drop-zero [] = refl
drop-zero (x ∷ locals) = refl

pub newer-few : (m : ℕ) (locals : List ℕ) → length locals ≤ m → newer m locals ≡ []
newer-few m locals h = let e : length locals - m ≡ 0 = omega arith in ap (λ n. take n locals) e ∙ take-zero locals

pub older-few : (m : ℕ) (locals : List ℕ) → length locals ≤ m → older m locals ≡ locals
older-few m locals h = let e : length locals - m ≡ 0 = omega arith in ap (λ n. drop n locals) e ∙ drop-zero locals

take-length : (locals : List ℕ) → take (length locals) locals ≡ locals
take-length [] = refl
take-length (x ∷ locals) = ap (λ l. x ∷ l) (take-length locals)

drop-length : (locals : List ℕ) → drop (length locals) locals ≡ []
drop-length [] = refl
drop-length (x ∷ locals) = drop-length locals

-- of all of them none is left
pub newer-none : (locals : List ℕ) → newer 0 locals ≡ locals
newer-none locals = let e : length locals - 0 ≡ length locals = omega arith in ap (λ n. take n locals) e ∙ take-length locals

pub older-none : (locals : List ℕ) → older 0 locals ≡ []
older-none locals = let e : length locals - 0 ≡ length locals = omega arith in ap (λ n. drop n locals) e ∙ drop-length locals

-- one was taken away of more than so many
pub newest : (m object : ℕ) (before after : List ℕ) → before ≡ after ++ object ∷ [] → m < length before
    → (newer m (reverse before) ≡ object ∷ newer m (reverse after)) × (older m (reverse before) ≡ older m (reverse after))
newest m object before after e more =
    let turned : reverse before ≡ object ∷ reverse after = ap reverse e ∙ reverse-append after (object ∷ []) in
    let long : length before ≡ length after + 1 = ap length e ∙ length-append after (object ∷ []) in
    let same : length (reverse after) ≡ length after = length-reverse after in
    let few : m ≤ length (reverse after) = omega (arith, more, long, same) in
    (ap (newer m) turned ∙ newer-more m object (reverse after) few, ap (older m) turned ∙ older-more m object (reverse after) few)

-- where the first none stay, all die
pub left-all : (s : Now) → record s { world = without_locals 0 s.world } ≡ record s { world = left [] s.world }
left-all s = rw (newer-none s.world.locals, older-none s.world.locals) refl

pub did-kills : (locals : List ℕ) → map (λ object. Did (Kill object)) locals ≡ map Did (map Kill locals)
did-kills [] = refl
did-kills (object ∷ locals) = ap (λ l. Did (Kill object) ∷ l) (did-kills locals)
