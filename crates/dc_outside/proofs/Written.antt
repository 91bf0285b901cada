-- A piece that is written bit by bit.
use Rattle.std.proofs.Common.{◌≡◌, ℕ, List, [], ◌∷◌, ◌++◌, ◌-◌, length, take, drop, Option, None, Some, refl, sym, ap, subst, ◌∙◌, arith, append_assoc}
use Rattle.std.specs.Prelude.{◌==◌, ◌&&◌, not, false}
use Rattle.std.proofs.lemmas.Bool.Decides.{nat_tests}
use Rattle.std.proofs.lemmas.Grind.{common_steps}
use Rattle.dc_outside.specs.Counts.{Counted}
use Rattle.std.specs.Option.{option_map}
use Rattle.std.proofs.lemmas.List.{take-append-drop}
use Rattle.dc_outside.specs.Sink.{Adds, AddsPrefix}

-- a front of the bytes was added, and this is the rest
pub record HasAdded (old now : Option (List ℕ)) (bytes rest : List ℕ) : Type 0 where
  pub front : List ℕ
  pub whole : bytes ≡ front ++ rest
  pub added : Adds old now front

append_nil : (xs : List ℕ) → xs ++ [] ≡ xs
append_nil [] = refl
append_nil (x ∷ xs) = ap (λ ys. x ∷ ys) (append_nil xs)

pub adds_nothing : (old : Option (List ℕ)) → Adds old old []
adds_nothing None = refl
adds_nothing (Some held) = ap Some (sym (append_nil held))

pub adds_twice : (old mid new : Option (List ℕ)) (xs ys : List ℕ) → Adds old mid xs → Adds mid new ys → Adds old new (xs ++ ys)
adds_twice None mid new xs ys p q = q ∙ ap (option_map (λ held. held ++ ys)) p
adds_twice (Some held) mid new xs ys p q = q ∙ ap (option_map (λ held. held ++ ys)) p ∙ ap Some (append_assoc held xs ys)

pub has_added_none : (old : Option (List ℕ)) (bytes : List ℕ) → HasAdded old old bytes bytes
has_added_none old bytes = record { front = []; whole = refl; added = adds_nothing old }

pub has_added_more : (old now new : Option (List ℕ)) (bytes rest : List ℕ) (k : ℕ) → HasAdded old now bytes rest → Adds now new (take k rest) → HasAdded old new bytes (drop k rest)
has_added_more old now new bytes rest k h a =
    record {
      front = h.front ++ take k rest;
      whole = h.whole ∙ ap (λ ys. h.front ++ ys) (sym (take-append-drop k rest)) ∙ sym (append_assoc h.front (take k rest) (drop k rest));
      added = adds_twice old now new h.front (take k rest) h.added a;
    }

pub has_added_all : (old now : Option (List ℕ)) (bytes rest : List ℕ) → HasAdded old now bytes rest → length rest ≡ 0 → Adds old now bytes
has_added_all old now bytes [] h e = subst (Adds old now) (sym (h.whole ∙ append_nil h.front)) h.added
has_added_all old now bytes (x ∷ rest) h e = absurd (omega arith)

pub prefix_of_rest : (old now new : Option (List ℕ)) (bytes rest : List ℕ) → HasAdded old now bytes rest → Adds now new [] → AddsPrefix old new bytes
prefix_of_rest old now new bytes rest h a =
    record { front = h.front; rest = rest; whole = h.whole; added = subst (Adds old new) (append_nil h.front) (adds_twice old now new h.front [] h.added a) }

-- a slice from the k-th on
pub has_added_slice : (old now new : Option (List ℕ)) (bytes rest : List ℕ) (n k : ℕ) → n ≡ length rest → HasAdded old now bytes rest → Adds now new (take k rest) → HasAdded old new bytes (take (n - k) (drop k rest))
has_added_slice old now new bytes rest n k e h a =
    let all : take (n - k) (drop k rest) ≡ drop k rest = grind (arith, common_steps) in
    subst (HasAdded old new bytes) (sym all) (has_added_more old now new bytes rest k h a)

-- a write that took something of a rest is no fault
pub not_refused : (k n before now : ℕ) → (k ≡ 0 → ⊥) → Counted ((k == 0) && not (n == 0)) before now → now ≡ before
not_refused k n before now h c = let e : (k == 0) ≡ false = grind (arith, nat_tests) in subst (λ b. Counted (b && not (n == 0)) before now) e c

pub prefix_behind : (old mid new : Option (List ℕ)) (before piece after text : List ℕ) → text ≡ before ++ (piece ++ after) → Adds old mid before → AddsPrefix mid new piece → AddsPrefix old new text
prefix_behind old mid new before piece after text e a p =
    record {
      front = before ++ p.front;
      rest = p.rest ++ after;
      whole = e ∙ ap (λ line. before ++ (line ++ after)) p.whole ∙ ap (λ zs. before ++ zs) (append_assoc p.front p.rest after)
          ∙ sym (append_assoc before p.front (p.rest ++ after));
      added = adds_twice old mid new before p.front a p.added;
    }
