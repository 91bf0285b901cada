-- Objects in a list from either end.
use Rattle.std.proofs.Common.{◌≡◌, ℕ, nat_eq, ◌||◌, List, [], ◌∷◌, reverse, refl, ap, ◌∙◌}
use Rattle.std.proofs.Math.Bool.{or_comm}
use Rattle.std.proofs.lemmas.List.{reverse-append}
use Rattle.std.proofs.lemmas.List.Recursion.{or_push}
use Rattle.dc_memory.specs.Context.{is_among}

pub is_among-reverse : (object : ℕ) (xs : List ℕ) → is_among object (reverse xs) ≡ is_among object xs
is_among-reverse object [] = refl
is_among-reverse object (x ∷ xs) =
    ap (is_among object) (reverse-append (x ∷ []) xs)
    ∙ or_push (is_among object) (λ y. nat_eq y object) refl (λ y ys. refl) (reverse xs) x
    ∙ ap (λ b. b || nat_eq x object) (is_among-reverse object xs)
    ∙ or_comm (is_among object xs) (nat_eq x object)
