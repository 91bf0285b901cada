-- A file that is read piece by piece, and one that is looked for.
use Rattle.std.proofs.Common.{◌≡◌, ℕ, ◌≤◌, List, [], length, take, Option, None, Some}

-- what was read of a file, which may be missing
abbrev pub IsRead : Option (List ℕ) → List ℕ → Type 0
IsRead None bytes = bytes ≡ []
IsRead (Some file) bytes = (bytes ≡ take (length bytes) file) × (length bytes ≤ length file)
