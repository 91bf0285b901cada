-- Statements one after another, and what is told of a write.
use Rattle.std.proofs.Common.{◌≡◌, ℕ, zero, suc, Bool, ℤ, List, [], ◌∷◌, map, Some, None, refl, sym, ap, ◌∙◌}
use Rattle.std.specs.Prelude.{Result, Ok, Err, IfOk}
use Rattle.dc_core.specs.Assertion.{assigns_name}
use Rattle.dc_core.specs.Contract.{WriteSet, allowed, claimed, judged}
use Rattle.dc_core.specs.Event as plain
use Rattle.dc_core.specs.First.{no_act}
use Rattle.dc_memory.specs.Objects.{Memory}
use Rattle.dc_memory.specs.Places.{object_of, offset_of}
use Rattle.dc_memory.specs.Access.{store}
use Rattle.dc_core.specs.Program.{Expr, Stmt, Assign}
use Rattle.dc_core.specs.Value.{Body, value, place}
use Rattle.dc_core.proofs.NoValue.{nothing_seen}
use Rattle.dc_core.specs.Run.{State, Out, Normal, Returned, Ended, Note, Did, Failed, notes_of, with_some, tick, tick_at, then_do, contract_mode, with_memory, write, perform, run}
use Rattle.dc_memory.specs.declared.kind.MemKind.TheVariants.{S32}
use Rattle.dc_world.specs.Told.{Hearing, told}
use Rattle.dc_run.specs.declared.state.Flow.TheVariants as flow
use Rattle.dc_world.specs.declared.report.End.TheVariants as end
use Rattle.dc_world.specs.Reported.{dry_at}
use Rattle.dc_run.specs.declared.state.Flow.{Flow}
use Rattle.dc_run.specs.Part.{HasCome, IsPart, end_of, out_of}
use Rattle.dc_run.proofs.Parts.{part_same}

-- an int was written
pub written_part : (name : List ℕ) (set : WriteSet) (site place : ℕ) (v : ℤ) (before after : List ℕ → State) (memory new : Memory) (h h' : Hearing)
    → ((choices : List ℕ) → (before choices).world.memory ≡ memory) → ((choices : List ℕ) → with_memory new (before choices) ≡ after choices)
    → store S32 place v memory ≡ Some new
    → h' ≡ told (Did (plain.Write (object_of place) (offset_of place) 4) ∷ map Failed (judged set (Rattle.dc_core.specs.Contract.Wrote name site (object_of place) (offset_of place) 4))) h
    → HasCome (λ choices. write contract_mode name set site place v (before choices)) after flow.Normal h h'
written_part name set site place v before after memory new h h' m a s t = record {
  notes = Did (plain.Write (object_of place) (offset_of place) 4) ∷ map Failed (judged set (Rattle.dc_core.specs.Contract.Wrote name site (object_of place) (offset_of place) 4));
  comes = λ choices. stored (before choices) (after choices) (m choices) (a choices);
  not_dry = refl;
  heard = t;
}
  where
    stored : (st st' : State) → st.world.memory ≡ memory → with_memory new st ≡ st' → write contract_mode name set site place v st ≡ Normal (Did (plain.Write (object_of place) (offset_of place) 4) ∷ map Failed (judged set (Rattle.dc_core.specs.Contract.Wrote name site (object_of place) (offset_of place) 4))) st'
    stored st st' e f = rw (e, s, f) refl

pub told_written : (name : List ℕ) (set : WriteSet) (site place pointer object from : ℕ) (held : Bool) (h h' : Hearing)
    → pointer ≡ place → object ≡ object_of pointer → from ≡ offset_of pointer → held ≡ allowed set object from 4
    → h' ≡ told (Did (plain.Write object from 4) ∷ map Failed (claimed (assigns_name name site) held)) h
    → h' ≡ told (Did (plain.Write (object_of place) (offset_of place) 4) ∷ map Failed (judged set (Rattle.dc_core.specs.Contract.Wrote name site (object_of place) (offset_of place) 4))) h
told_written name set site place pointer object from held h h' p o f a t = rw (← p, ← o, ← f, ← a) t

-- a value with a place
pub assigned : (name : List ℕ) (set : WriteSet) (places : List ℕ) (site : ℕ) (target e : Expr) (v : ℤ) (pointer : ℕ) (st : State)
    → Some v ≡ value (Body places) st.world.memory e → Some pointer ≡ place (Body places) target
    → perform contract_mode name set places (Assign site target e) st ≡ write contract_mode name set site pointer v st
assigned name set places site target e v pointer st a b = rw (← a, ← b) refl

pub tick_some : (st st' : State) (n : ℕ) (go : State → Out Note) → st.left ≡ suc n → st' ≡ record st { left = n } → tick st go ≡ go st'
tick_some st st' n go e f = rw (e, f) refl

tick_then : (st : State) (k : ℕ) (f : State → Out Note) (go : State → Out Note) → tick_at k st (λ t. then_do (f t) go) ≡ then_do (tick_at k st f) go
tick_then st zero f go = refl
tick_then st (suc k) f go = refl

-- the first statement, and those behind it
pub run_more : (name : List ℕ) (set : WriteSet) (places : List ℕ) (all rest : List Stmt) (s : Stmt) (st : State) → all ≡ s ∷ rest
    → run contract_mode name set places all st ≡ then_do (tick st (perform contract_mode name set places s)) (run contract_mode name set places rest)
run_more name set places all rest s st e = rw e (tick_then st st.left (perform contract_mode name set places s) (run contract_mode name set places rest))

-- a statement that is seen as another
pub stmt_done : {E : Type 0} (name : List ℕ) (set : WriteSet) (places : List ℕ) (s t : Stmt) (before after : List ℕ → State) (r : Result Flow E) (h h' : Hearing)
    → s ≡ t → IsPart (λ choices. perform contract_mode name set places t (before choices)) after r h h'
    → IsPart (λ choices. perform contract_mode name set places s (before choices)) after r h h'
stmt_done name set places s t before after r h h' e a =
    part_same (λ choices. perform contract_mode name set places s (before choices)) (λ choices. perform contract_mode name set places t (before choices)) after r h h'
    (λ choices. ap (λ s. perform contract_mode name set places s (before choices)) e) a

-- a statement at which the run ends
pub undefined_done : {E : Type 0} (name : List ℕ) (set : WriteSet) (places : List ℕ) (s : Stmt) (state : List ℕ → State) (r : Result Flow E) (h : Hearing)
    → ((choices : List ℕ) → perform contract_mode name set places s (state choices) ≡ Ended [] (plain.Undefined name) (state choices).world)
    → IfOk r (λ f. f ≡ flow.Ended (end.Undefined name))
    → IsPart (λ choices. perform contract_mode name set places s (state choices)) state r h h
undefined_done name set places s state (Ok f) h e u = record {
  notes = [];
  comes = λ choices. e choices ∙ sym (ap (λ f. out_of f [] (state choices)) u);
  not_dry = ap (λ f. dry_at (end_of f)) u;
  heard = refl;
}
undefined_done name set places s state (Err x) h e u = record {
  notes = [];
  front = λ choices. (notes_of (perform contract_mode name set places s (state choices)), refl);
  heard = refl;
}

-- one that isn't of the first form
pub nothing_done : {E : Type 0} (name : List ℕ) (set : WriteSet) (places : List ℕ) (s : Stmt) (state : List ℕ → State) (r : Result Flow E) (h : Hearing)
    → s ≡ no_act → IfOk r (λ f. f ≡ flow.Ended (end.Undefined name))
    → IsPart (λ choices. perform contract_mode name set places s (state choices)) state r h h
nothing_done name set places s state r h e u =
    undefined_done name set places s state r h
    (λ choices.
    ap (λ s. perform contract_mode name set places s (state choices)) e
    ∙ ap (λ o. with_some {A = Note} (plain.Undefined name) (state choices).world o (λ v. Returned [] (Some v) (state choices))) (nothing_seen (Body places) (state choices).world.memory))
    u

-- an assignment of what has no value, or to what has no place
pub valueless : (name : List ℕ) (set : WriteSet) (places : List ℕ) (site : ℕ) (target e : Expr) (st : State)
    → None ≡ value (Body places) st.world.memory e
    → perform contract_mode name set places (Assign site target e) st ≡ Ended [] (plain.Undefined name) st.world
valueless name set places site target e st a = rw (← a) refl

pub placeless : (name : List ℕ) (set : WriteSet) (places : List ℕ) (site : ℕ) (target e : Expr) (v : ℤ) (st : State)
    → Some v ≡ value (Body places) st.world.memory e → None ≡ place (Body places) target
    → perform contract_mode name set places (Assign site target e) st ≡ Ended [] (plain.Undefined name) st.world
placeless name set places site target e v st a b = rw (← a, ← b) refl
