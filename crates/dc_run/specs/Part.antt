-- What a part of a run did: how it left the statements, or that memory was wanting. No number is drawn in it, so that
-- all of this holds whatever choices are left.
use Rattle.std.specs.Prelude.{◌≡◌, ℕ, Bool, true, false, List, ◌++◌, None, Result, Ok, Err}
use Rattle.dc_core.specs.Event as plain
use Rattle.dc_core.specs.Run.{State, Out, Normal, Returned, Ended, Cut, Note, noted, notes_of, leaving, contract_mode}
use Rattle.dc_world.specs.Told.{Hearing, told}
use Rattle.dc_world.specs.Report.{end_view}
use Rattle.dc_world.specs.Reported.{dry_at}
use Rattle.dc_run.specs.declared.state.Flow.{Flow}
use Rattle.dc_run.specs.declared.state.Flow.TheVariants as flow

-- an outcome of the definitions, with these notes and in this state
abbrev pub out_of : Flow → List Note → State → Out Note
out_of flow.Normal notes st = Normal notes st
out_of (flow.Returned result) notes st = Returned notes result st
out_of (flow.Ended end) notes st = Ended notes (end_view end) st.world
out_of flow.Cut notes st = Cut notes st.world

-- how a whole run ends that is left so
abbrev pub end_of : Flow → plain.End
end_of flow.Normal = plain.Returned None
end_of (flow.Returned result) = plain.Returned result
end_of (flow.Ended end) = end_view end
end_of flow.Cut = plain.Cut

abbrev pub goes_on : Flow → Bool
goes_on flow.Normal = true
goes_on (flow.Returned result) = false
goes_on (flow.Ended end) = false
goes_on flow.Cut = false

abbrev pub is_return : Flow → Bool
is_return flow.Normal = false
is_return (flow.Returned result) = true
is_return (flow.Ended end) = false
is_return flow.Cut = false

-- it was left so, in this state, and its notes were told
pub record HasCome (out : List ℕ → Out Note) (state : List ℕ → State) (f : Flow) (h h' : Hearing) : Type 0 where
  pub notes : List Note
  pub comes : (choices : List ℕ) → out choices ≡ out_of f notes (state choices)
  pub not_dry : dry_at (end_of f) ≡ 0
  pub heard : h' ≡ told notes h

-- its first notes were told
pub record WasCutOff (out : List ℕ → Out Note) (h h' : Hearing) : Type 0 where
  pub notes : List Note
  pub front : (choices : List ℕ) → (more : List Note) × (notes_of (out choices) ≡ notes ++ more)
  pub heard : h' ≡ told notes h

abbrev pub IsPart : {E : Type 0} → (List ℕ → Out Note) → (List ℕ → State) → Result Flow E → Hearing → Hearing → Type 0
IsPart out state (Ok f) h h' = HasCome out state f h h'
IsPart out state (Err e) h h' = WasCutOff out h h'

-- a part is done, and the rest is still to come
pub record IsResumed (whole rest : List ℕ → Out Note) (h h' : Hearing) : Type 0 where
  pub notes : List Note
  pub goes : (choices : List ℕ) → whole choices ≡ noted notes (rest choices)
  pub heard : h' ≡ told notes h

-- all parameters have their objects, and the rest is still to come; or there was no room for one
abbrev pub HasBegun : (List ℕ → Out Note) → (List ℕ → Out Note) → (List ℕ → State) → Bool → Hearing → Hearing → Type 0
HasBegun whole rest state true h h' = IsResumed whole rest h h'
HasBegun whole rest state false h h' =
    (notes : List Note) × ((choices : List ℕ) → whole choices ≡ Ended notes plain.ObjectLimit (state choices).world) × (h' ≡ told notes h)

abbrev pub IsBegun : {E : Type 0} → (List ℕ → Out Note) → (List ℕ → Out Note) → (List ℕ → State) → Result Bool E → Hearing → Hearing → Type 0
IsBegun whole rest state (Ok begun) h h' = HasBegun whole rest state begun h h'
IsBegun whole rest state (Err e) h h' = WasCutOff whole h h'

-- the ensures of a call that was left so were tested, or the first of them
pub record AllTested (ensures_ : List Note → List ℕ → Out Note) (state : List ℕ → State) (f : Flow) (h h' : Hearing) : Type 0 where
  pub more : List Note
  pub tests : (notes : List Note) (choices : List ℕ) → ensures_ notes choices ≡ out_of f (notes ++ more) (state choices)
  pub heard : h' ≡ told more h

pub record SomeTested (ensures_ : List Note → List ℕ → Out Note) (h h' : Hearing) : Type 0 where
  pub more : List Note
  pub front : (notes : List Note) (choices : List ℕ) → (rest : List Note) × (notes_of (ensures_ notes choices) ≡ (notes ++ more) ++ rest)
  pub heard : h' ≡ told more h

abbrev pub HasTested : {A E : Type 0} → (List Note → List ℕ → Out Note) → (List ℕ → State) → Flow → Result A E → Hearing → Hearing → Type 0
HasTested ensures_ state f (Ok a) h h' = AllTested ensures_ state f h h'
HasTested ensures_ state f (Err e) h h' = SomeTested ensures_ h h'

-- a function was left that came to its end so: what more was noted was told
pub record HasLeft (outer : List ℕ) (f : Flow) (before after : List ℕ → State) (h h' : Hearing) : Type 0 where
  pub more : List Note
  pub leaves : (notes : List Note) (choices : List ℕ) →
      leaving contract_mode outer (out_of f notes (before choices)) ≡ out_of f (notes ++ more) (after choices)
  pub heard : h' ≡ told more h

-- the first of some notes were told
pub record IsTold (all rest : List Note) (h h' : Hearing) : Type 0 where
  pub notes : List Note
  pub all_notes : all ≡ notes ++ rest
  pub heard : h' ≡ told notes h

pub record IsToldInPart (all : List Note) (h h' : Hearing) : Type 0 where
  pub rest : List Note
  pub part : IsTold all rest h h'
