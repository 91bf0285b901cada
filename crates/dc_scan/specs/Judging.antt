-- The rules for a line, by what stands in the lines before it.
use Rattle.std.specs.Prelude.{◌≡◌, ℕ, Bool, true, false, ◌&&◌, ◌||◌, List, length, map, Option, Some}
use Rattle.std.specs.List.{list_any}
use Rattle.dc_text.specs.Words.{same}
use Rattle.dc_goto.specs.Program.{Sig}
use Rattle.dc_goto.specs.Lines.{BodyHead, Line, Version, Function, Static, Opening, Instruction, End}
use Rattle.dc_goto.specs.Shape.{code_front, may_follow, may_name, is_size, may_open, may_act_in, leaves, goes_on, is_end, is_start}

-- with the functions and the names before it, the last body that begins there, and how many instructions that has
abbrev pub may_say_among : List Sig → List (List ℕ) → Option BodyHead → ℕ → Line → Option Line → Bool
may_say_among functions names head count Version next = true
may_say_among functions names head count (Function sig) next = may_name names sig.name
may_say_among functions names head count (Static v) next = may_name names v.name && is_size v.size
may_say_among functions names head count (Opening opened) next = may_open functions head opened
may_say_among functions names head count (Instruction i) next =
    may_act_in functions (length names) head count i && (leaves i || goes_on next)
may_say_among functions names head count End next = true

-- with the line in front too
abbrev pub keeps_among : List Sig → List (List ℕ) → Option BodyHead → ℕ → Option Line → Line → Option Line → Bool
keeps_among functions names head count before line next =
    may_follow before line && may_say_among functions names head count line next

-- the line names nothing that has a name among these
abbrev pub IsNewIn : List Sig → List (List ℕ) → Line → Type 0
IsNewIn functions names (Function sig) =
    (list_any (same sig.name) (map (λ f. f.name) functions) ≡ false) × (list_any (same sig.name) names ≡ false)
IsNewIn functions names (Static v) = list_any (same v.name) names ≡ false
IsNewIn functions names line = Unit {0}

-- how many instructions the body has that is there behind the line, where so many were counted before it and those lines are
-- behind it
abbrev pub count_behind : ℕ → Line → List Line → ℕ
count_behind count (Instruction i) after = count
count_behind count line after = code_front after

-- the last body behind the line
abbrev pub head_behind : Option BodyHead → Line → Option BodyHead
head_behind before (Opening head) = Some head
head_behind before line = before

-- nothing is missing behind the last body and the last line
abbrev pub whole_among : Option BodyHead → Option Line → Bool
whole_among head line = is_end line && is_start head
