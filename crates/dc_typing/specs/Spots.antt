-- Where side effects and calls may stand, and where their sites are.
use Rattle.std.specs.Prelude.{ℕ, Bool, true, false}
use Rattle.dc_program.specs.declared.location.Location.{Location}
use Rattle.dc_typing.specs.declared.spot.Spot.{Spot}
use Rattle.dc_typing.specs.declared.spot.Spot.TheVariants.{Whole, Assigned, Inside}

-- the whole expression may be an assignment, a step or a cast to void
abbrev pub holds_effect : Spot → Bool
holds_effect (Whole n) = true
holds_effect (Assigned l) = false
holds_effect Inside = false

-- and it, or what is assigned, may be a call
abbrev pub holds_call : Spot → Bool
holds_call (Whole n) = true
holds_call (Assigned l) = true
holds_call Inside = false

-- the site of a phrase whose first token stands in this line; a call that is assigned has the assignment's
abbrev pub site_at : Spot → ℕ → Location
site_at (Whole n) line = record { number = n; line = line }
site_at (Assigned l) line = l
site_at Inside line = record { number = 0; line = line }

-- where the right side of the `=` of a phrase stands
abbrev pub right_side : Spot → ℕ → Spot
right_side (Whole n) line = Assigned (record { number = n; line = line })
right_side (Assigned l) line = Inside
right_side Inside line = Inside
