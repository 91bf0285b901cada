-- Outcomes of parts of a run, with what was noted before.
use Rattle.std.proofs.Common.{◌≡◌, List, [], ◌++◌, refl, ap, sym, append_assoc}
use Rattle.dc_core.specs.Run.{Out, Normal, Returned, Ended, Cut, noted}

pub noted-nil : {A : Type 0} (o : Out A) → noted [] o ≡ o
noted-nil (Normal notes st) = refl
noted-nil (Returned notes result st) = refl
noted-nil (Ended notes e w) = refl
noted-nil (Cut notes w) = refl

pub noted-noted : {A : Type 0} (xs ys : List A) (o : Out A) → noted xs (noted ys o) ≡ noted (xs ++ ys) o
noted-noted xs ys (Normal notes st) = ap (λ ns. Normal ns st) (sym (append_assoc xs ys notes))
noted-noted xs ys (Returned notes result st) = ap (λ ns. Returned ns result st) (sym (append_assoc xs ys notes))
noted-noted xs ys (Ended notes e w) = ap (λ ns. Ended ns e w) (sym (append_assoc xs ys notes))
noted-noted xs ys (Cut notes w) = ap (λ ns. Cut ns w) (sym (append_assoc xs ys notes))
