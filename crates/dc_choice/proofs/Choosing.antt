-- Numbers taken one after another.
use Rattle.std.proofs.Common.{◌≡◌, ℕ, List, [], ◌∷◌, ◌++◌, Option, None, Some, IfSome, refl, sym, ap, ◌∙◌, append_assoc}
use Rattle.dc_choice.specs.Chosen.{Takes, Used}

pub used_none : (left : Option (List ℕ)) → Used left left []
used_none None = tt
used_none (Some rest) = refl

pub used_number : (before between after : Option (List ℕ)) (numbers : List ℕ) (number : ℕ) → Used before between numbers → Takes between after (Some number) → Used before after (numbers ++ number ∷ [])
used_number None None None numbers number used takes = tt
used_number None None (Some c) numbers number used takes = takes
used_number None (Some b) after numbers number used takes = absurd used
used_number (Some a) None after numbers number used takes = absurd used
used_number (Some a) (Some b) None numbers number used takes = takes
used_number (Some a) (Some b) (Some c) numbers number used takes =
    used ∙ ap (λ rest. numbers ++ rest) takes ∙ sym (append_assoc numbers (number ∷ []) c)

pub used_dry : (before between after : Option (List ℕ)) (numbers : List ℕ) → Used before between numbers → Takes between after None → Used before after numbers
used_dry None None None numbers used takes = tt
used_dry None None (Some c) numbers used takes = takes
used_dry None (Some b) after numbers used takes = absurd used
used_dry (Some a) None after numbers used takes = absurd used
used_dry (Some a) (Some b) None numbers used takes = takes
used_dry (Some a) (Some b) (Some c) numbers used takes = used ∙ ap (λ rest. numbers ++ rest) (takes.0 ∙ sym takes.1)

pub dry_ended : (before after : Option (List ℕ)) → Takes before after None → IfSome before (λ rest. rest ≡ []) × IfSome after (λ rest. rest ≡ [])
dry_ended None None takes = (tt, tt)
dry_ended None (Some c) takes = absurd takes
dry_ended (Some b) None takes = absurd takes
dry_ended (Some b) (Some c) takes = takes

pub used_sum : (before between after : Option (List ℕ)) (first second : List ℕ) → Used before between first → Used between after second → Used before after (first ++ second)
used_sum None None None first second used more = tt
used_sum None None (Some c) first second used more = more
used_sum None (Some b) after first second used more = absurd used
used_sum (Some a) None after first second used more = absurd used
used_sum (Some a) (Some b) None first second used more = more
used_sum (Some a) (Some b) (Some c) first second used more = used ∙ ap (λ rest. first ++ rest) more ∙ sym (append_assoc first second c)
