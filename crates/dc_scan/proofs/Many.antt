-- As many as stand there are read one after another.
use Rattle.std.proofs.Common.{◌≡◌, ℕ, zero, suc, ◌+◌, ◌≤◌, ◌<◌, true, false, List, [], ◌∷◌, ◌++◌, length, None, refl, ap, ◌∙◌, arith, length-append}
use Rattle.std.specs.Prelude.{if◌then◌else◌}
use Rattle.dc_goto.specs.Reading.{Reading, got, then_read, spaced_read, begins_with, read_many}
use Rattle.dc_goto.proofs.Pieces.{then_got, behind_parts, Reads}

-- what is read from the start is what is read behind these
pub record Goes {A : Type 0} (read : List ℕ → Reading A) (start : List ℕ) (items : List A) (bytes : List ℕ) : Type 0 where
  pub left : ℕ
  pub room : length bytes ≤ left
  pub same : read_many read (length start) [] start ≡ read_many read left items bytes

pub goes_first : {A : Type 0} (read : List ℕ → Reading A) (start : List ℕ) → Goes read start [] start
goes_first read start = record { left = length start; room = omega arith; same = refl }

pub spaced_shortens : {A : Type 0} {read : List ℕ → Reading A} {text : A → List ℕ} {Is : A → Type 0} → Reads read text Is → (a : A) (bytes rest : List ℕ) → spaced_read read bytes ≡ got a rest → length rest < length bytes
spaced_shortens {A} {read} {text} {Is} r a bytes rest h =
    let p = behind_parts 32 bytes read a rest h in
    let s = r.sound p.tail rest a p.read in
    let whole : length bytes ≡ suc (length (text a) + length rest) = ap length (p.whole ∙ ap (λ l. 32 ∷ l) s.0) ∙ ap (λ n. suc n) (length-append (text a) rest) in
    omega (arith, whole)

-- a first byte stands in bytes that aren't empty
empty_begins : (bytes : List ℕ) → length bytes ≤ 0 → begins_with 32 bytes ≡ true → ⊥
empty_begins [] le h = cc
empty_begins (b ∷ bytes) le h = omega arith

pub goes_more : {A : Type 0} {read : List ℕ → Reading A} {text : A → List ℕ} {Is : A → Type 0} → Reads read text Is → (start : List ℕ) (items : List A) (bytes rest : List ℕ) (a : A) → Goes read start items bytes → begins_with 32 bytes ≡ true → spaced_read read bytes ≡ got a rest → Goes read start (items ++ a ∷ []) rest
unfolding read_many
goes_more {A} {read} {text} {Is} r start items bytes rest a g begins h = by_left g.left g.room g.same
  where
    by_left : (left : ℕ) → length bytes ≤ left → read_many read (length start) [] start ≡ read_many read left items bytes → Goes read start (items ++ a ∷ []) rest
    by_left zero room same = absurd (empty_begins bytes room begins)
    by_left (suc n) room same =
        let shorter = spaced_shortens r a bytes rest h in
        let fits : length rest ≤ n = omega arith in
        record {
          left = n;
          room = fits;
          same = same
              ∙ ap (λ t. if t then then_read (spaced_read read bytes) (λ a. read_many read n (items ++ a ∷ [])) else got items bytes) begins
              ∙ then_got (spaced_read read bytes) (λ a. read_many read n (items ++ a ∷ [])) a rest h;
        }

pub goes_none : {A : Type 0} {read : List ℕ → Reading A} (start : List ℕ) (items : List A) (bytes : List ℕ) → Goes read start items bytes → begins_with 32 bytes ≡ true → spaced_read read bytes ≡ None → read_many read (length start) [] start ≡ None
unfolding read_many
goes_none {A} {read} start items bytes g begins h = by_left g.left g.room g.same
  where
    by_left : (left : ℕ) → length bytes ≤ left → read_many read (length start) [] start ≡ read_many read left items bytes → read_many read (length start) [] start ≡ None
    by_left zero room same = absurd (empty_begins bytes room begins)
    by_left (suc n) room same =
        same
        ∙ ap (λ t. if t then then_read (spaced_read read bytes) (λ a. read_many read n (items ++ a ∷ [])) else got items bytes) begins
        ∙ ap (λ x. then_read x (λ a. read_many read n (items ++ a ∷ []))) h

pub goes_last : {A : Type 0} {read : List ℕ → Reading A} (start : List ℕ) (items : List A) (bytes : List ℕ) → Goes read start items bytes → begins_with 32 bytes ≡ false → read_many read (length start) [] start ≡ got items bytes
unfolding read_many
goes_last {A} {read} start items bytes g stops = by_left g.left g.same
  where
    by_left : (left : ℕ) → read_many read (length start) [] start ≡ read_many read left items bytes → read_many read (length start) [] start ≡ got items bytes
    by_left zero same = same
    by_left (suc n) same =
        same ∙ ap (λ t. if t then then_read (spaced_read read bytes) (λ a. read_many read n (items ++ a ∷ [])) else got items bytes) stops
