-- What the table keeps of its structs, and when it is right.
use Rattle.std.specs.Prelude.{◌≡◌, ℕ, ◌+◌, ◌<◌, ◌≤◌, ◌*◌, ◌==◌, min, max, List, map, Option, Some, None, Result, Ok, Err, IfSome, if◌then◌else◌, nat_lt}
use Rattle.std.specs.Option.{option_map}
use Rattle.std.specs.Int.{next_multiple_of}
use Rattle.dc_layout.specs.declared.capped.Capped.{Capped}
use Rattle.dc_layout.specs.declared.ctype.CType.{CType}
use Rattle.dc_layout.specs.declared.fault.Layout.{Layout}
use Rattle.dc_layout.specs.declared.fault.Layout.TheVariants.{TooLarge, Incomplete}
use Rattle.dc_layout.specs.declared.table.Complete.{Complete}
use Rattle.dc_layout.specs.Types.{members_of, structs_view}
use Rattle.dc_layout.specs.Layout.{Extent, whole, laid_members, limit}

-- a size above the limit is kept as the number above it
abbrev pub capped_size : ℕ → ℕ
capped_size n = min n 16777217

-- an extent with its size capped
abbrev pub capped : Extent → Capped
capped e = record { size = capped_size e.size; align = e.align }

-- what the code computes with
pub record IsSmall (k : Capped) : Type 0 where
  pub size : k.size ≤ 16777217
  pub some : 0 < k.align
  pub few : k.align ≤ 8

-- so many elements, but not 0
abbrev pub capped_array : Capped → ℕ → Option Capped
capped_array k count = if count == 0 then None else Some (record { size = capped_size (count * k.size); align = k.align })

-- members of which the size and the largest alignment are given, with one more behind them
abbrev pub capped_with : Capped → Capped → Capped
capped_with before m = record { size = capped_size (next_multiple_of before.size m.align + m.size); align = max before.align m.align }

-- the struct of such members
abbrev pub capped_whole : Capped → Capped
capped_whole k = record { size = capped_size (next_multiple_of k.size k.align); align = k.align }

-- an extent within the limit, or why there is none
abbrev pub within_limit : Option Capped → Result Capped Layout
within_limit None = Err Incomplete
within_limit (Some k) = if nat_lt limit k.size then Err TooLarge else Ok k

-- the member types of all structs
abbrev pub all_members : List (Option Complete) → List (Option (List CType))
all_members entries = map (option_map (λ c. c.members)) entries

-- what is kept of struct s
abbrev pub kept : List (Option Complete) → ℕ → Option Capped
kept entries s = option_map (λ c. c.whole) (members_of entries s)

-- the definition's extent of struct s, as it is to be kept
abbrev pub to_keep : List (Option (List CType)) → ℕ → Option Capped
to_keep structs s = option_map (λ members. capped (whole members)) (laid_members (structs_view structs) s)

-- what is kept is what the definition says
pub record IsKept (entries : List (Option Complete)) : Type 0 where
  pub exact : (s : ℕ) → kept entries s ≡ to_keep (all_members entries) s
  pub small : (s : ℕ) → IfSome (kept entries s) IsSmall
