-- Pointers that are moved within an object.
use Rattle.std.proofs.Common.{◌≡◌, ℕ, ◌+◌, nat_le, true, ℤ, pos, negsuc, ◌+ℤ◌, Some, ap, arith}
use Rattle.std.specs.Prelude.{◌≤ℤ◌}
use Rattle.std.specs.Option.{option_map}
use Rattle.std.proofs.Math.Nat.{mod-add-div'}
use Rattle.std.proofs.lemmas.Bool.Decides.{nat_tests}
use Rattle.std.proofs.lemmas.Int.{ints}
use Rattle.dc_memory.specs.Objects.{Memory, object_at}
use Rattle.dc_memory.specs.Places.{start_of, object_of, offset_of}
use Rattle.dc_program.specs.Values.{moved, points_into, size_at}

parts-of : (p : ℕ) → offset_of p + start_of (object_of p) ≡ p
unfolding start_of object_of offset_of
parts-of p = mod-add-div' p 281474976710656

place-of : (p n : ℕ) (z : ℤ) → pos n ≡ z +ℤ pos (offset_of p) → pos p +ℤ z ≡ pos (start_of (object_of p) + n)
place-of p n z e = omega (arith, ints, parts-of p, e)

commuted : (n : ℕ) (z place : ℤ) → place ≡ z +ℤ pos n → pos n +ℤ z ≡ place
commuted n z place e = omega (arith, ints, e)

pub moved-inside : (memory : Memory) (p room : ℕ) (z place : ℤ) → points_into memory p ≡ true → room ≡ size_at (object_at memory (object_of p)) → place ≡ z +ℤ pos (offset_of p)
    → pos 0 ≤ℤ place → place ≤ℤ pos room → Some (pos p +ℤ z) ≡ option_map (λ n. pos n) (moved memory p z)
moved-inside memory p room z (negsuc n) inside size e low high = absurd (omega (arith, ints, low))
moved-inside memory p room z (pos n) inside size e low high =
    let within : nat_le n (size_at (object_at memory (object_of p))) ≡ true = grind (arith, nat_tests, ints) in
    rw (inside, commuted (offset_of p) z (pos n) e, within) (ap Some (place-of p n z e))
