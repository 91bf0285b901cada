-- Numbers that bytes spell.
use Rattle.std.proofs.Common.{◌≡◌, ℕ, suc, ◌^◌, ◌<◌, ◌≤◌, List, [], ◌∷◌, ◌++◌, length, drop, get_or, replicate, refl, ◌∙◌, arith}
use Rattle.std.specs.Int.{w64, from_le_bytes}
use Rattle.std.proofs.Math.Nat.{pow-suc}
use Rattle.dc_memory.specs.Encoding.{number_of}

-- eight bytes, of which those behind the first are zero
spelt : (bytes : List ℕ) → length bytes ≤ 8 → from_le_bytes w64 (bytes ++ drop (length bytes) (replicate 8 0)) ≡ number_of bytes
spelt [] le = refl
spelt (a ∷ []) le = omega arith
spelt (a ∷ b ∷ []) le = omega arith
spelt (a ∷ b ∷ c ∷ []) le = omega arith
spelt (a ∷ b ∷ c ∷ d ∷ []) le = omega arith
spelt (a ∷ b ∷ c ∷ d ∷ e ∷ []) le = omega arith
spelt (a ∷ b ∷ c ∷ d ∷ e ∷ f ∷ []) le = omega arith
spelt (a ∷ b ∷ c ∷ d ∷ e ∷ f ∷ g ∷ []) le = omega arith
spelt (a ∷ b ∷ c ∷ d ∷ e ∷ f ∷ g ∷ h ∷ []) le = omega arith
spelt (a ∷ b ∷ c ∷ d ∷ e ∷ f ∷ g ∷ h ∷ i ∷ more) le = absurd (omega arith)

pub spelt-number : (part bytes : List ℕ) (n : ℕ) → part ≡ bytes → length bytes ≤ 8 → n ≡ from_le_bytes w64 (part ++ drop (length bytes) (replicate 8 0)) → n ≡ number_of bytes
spelt-number part bytes n is le e = e ∙ rw is (spelt bytes le)

pub number_of-below : (bytes : List ℕ) → ((k : ℕ) → get_or bytes k 0 < 256) → number_of bytes < 256 ^ length bytes
number_of-below [] small = omega arith
number_of-below (b ∷ bytes) small =
    let h = number_of-below bytes (λ k. small (suc k)) in
    let first : b < 256 = small 0 in
    rw pow-suc (omega arith)
