-- Terms have the values of the expressions from which they come.
use Rattle.std.proofs.Common.{◌≡◌, ℕ, suc, ◌+◌, ◌<◌, ◌≤◌, ◌^◌, Bool, true, false, List, length, Option, Some, None, refl, ap, sym, ◌∙◌, arith, ℤ, pos}
use Rattle.std.specs.Prelude.{slice_get}
use Rattle.std.specs.Option.{option_map}
use Rattle.dc_num.specs.declared.kind.NumKind.TheVariants.{S32}
use Rattle.dc_num.specs.declared.operators.BinOp.{BinOp}
use Rattle.dc_num.specs.Operators.{binary_of}
use Rattle.dc_core.specs.Number.{computed}
use Rattle.dc_memory.specs.declared.kind.MemKind.TheVariants as mem
use Rattle.dc_memory.specs.Objects.{Memory}
use Rattle.dc_memory.specs.Places.{start_of}
use Rattle.dc_memory.specs.Access.{load}
use Rattle.dc_core.specs.Program.{Expr, Literal, Variable, Parameter, ReturnValue, Binary, Program}
use Rattle.dc_core.specs.Term.{Register, Load}
use Rattle.dc_core.specs.Value.{Scope, Body, value, place, both, variable_place, parameter_value, result_value, load_int}
use Rattle.dc_core.specs.Sound.{Stands, IsLvalue}
use Rattle.dc_core.proofs.Numbers.{HasInt, HasValue-computed, converted-value}
use Rattle.dc_core.proofs.Objects.{start_of-small, HasInt-load}
use Rattle.dc_goto.specs.Values.{Registers, as_pointer, joined, right_operand}
use Rattle.dc_goto.proofs.Values.{as_pointer-pos, right_operand-value}
use Rattle.dc_instrument.specs.Lowering.{term_of, place_term, parameter_term, result_term}
use Rattle.dc_instrument.specs.declared.places.Places.{Places}
use Rattle.dc_instrument.specs.declared.places.Places.TheVariants as places
use Rattle.dc_instrument.proofs.Exact.Plain.{IsPlain, both_operated, load_from, plain_value, pointer_value}

-- The forms of the terms -------------------------------------------------------------------------------------------

parameter_plain : (at : Places) (k : ℕ) → IsPlain (parameter_term at k)
parameter_plain (places.Body first) k = tt
parameter_plain (places.Clauses result) k = tt

result_plain : (at : Places) → IsPlain (result_term at)
result_plain (places.Body first) = tt
result_plain (places.Clauses result) = tt

pub value_plain : (at : Places) (e : Expr) → IsPlain (term_of at e)
value_plain at (Literal z) = tt
value_plain at (Variable k) = tt
value_plain at (Parameter k) = parameter_plain at k
value_plain at ReturnValue = result_plain at
value_plain at (Binary op a b) = (refl, value_plain at a, value_plain at b)

pub place_plain : (first : ℕ) (e : Expr) → IsPlain (place_term (places.Body first) e)
place_plain first (Literal z) = tt
place_plain first (Variable k) = tt
place_plain first (Parameter k) = tt
place_plain first ReturnValue = tt
place_plain first (Binary op a b) = tt

-- The same values ---------------------------------------------------------------------------------------------------

-- a value on both sides, which is an int where it is there
pub record SameInt (source target : Option ℤ) : Type 0 where
  pub same : source ≡ target
  pub int : HasInt source

-- what parameters and the result stand for is the same on both sides
pub record Fits (p : Program) (result : Bool) (scope : Scope) (at : Places) (regs : Registers) (memory : Memory) : Type 0 where
  pub parameters : (k : ℕ) → k < p.function.params → SameInt (parameter_value scope memory k) (plain_value regs memory (parameter_term at k))
  pub result_is : result ≡ true → SameInt (result_value scope) (plain_value regs memory (result_term at))

pub variable_pointer : (statics k : ℕ) → statics ≤ 32766 → k < statics → as_pointer (pos (start_of (suc (suc k)))) ≡ variable_place k
variable_pointer statics k few h = as_pointer-pos (start_of (suc (suc k))) (start_of-small (suc (suc k)) (omega arith))

computed_int : (op : BinOp) (x y : ℤ) → computed op S32 x y ≡ binary_of op S32 x y
unfolding computed
computed_int op x y = refl

both_same : (op : BinOp) (a b a' b' : Option ℤ) → SameInt a a' → SameInt b b' → SameInt (both op a b) (both_operated op S32 a' b')
both_same op a b a' b' s t =
    record {
      same = by a b s.int t.int ∙ ap (λ x. both_operated op S32 x b) s.same ∙ ap (λ y. both_operated op S32 a' y) t.same;
      int = made a b s.int t.int;
    }
  where
    by : (a b : Option ℤ) → HasInt a → HasInt b → both op a b ≡ both_operated op S32 a b
    by None b h k = refl
    by (Some x) None h k = refl
    by (Some x) (Some y) h k =
        computed_int op x y
        ∙ sym (ap (λ z. binary_of op S32 z (right_operand op S32 y)) (converted-value x h) ∙ ap (λ z. binary_of op S32 x z) (right_operand-value op y k))

    made : (a b : Option ℤ) → HasInt a → HasInt b → HasInt (both op a b)
    made None b h k = tt
    made (Some x) None h k = tt
    made (Some x) (Some y) h k = HasValue-computed op S32 x y h k

-- the value of an expression
pub value_same : (p : Program) (result : Bool) (scope : Scope) (at : Places) (regs : Registers) (memory : Memory) (e : Expr)
    → length p.statics ≤ 32766 → Fits p result scope at regs memory → Stands p result e → SameInt (value scope memory e) (plain_value regs memory (term_of at e))
value_same p result scope at regs memory (Literal z) few f s = record { same = refl; int = s }
value_same p result scope at regs memory (Variable k) few f s =
    record {
      same = ap (λ pointer. load mem.S32 pointer memory) (sym (variable_pointer (length p.statics) k few s));
      int = HasInt-load (variable_place k) memory;
    }
value_same p result scope at regs memory (Parameter k) few f s = f.parameters k s
value_same p result scope at regs memory ReturnValue few f s = f.result_is s
value_same p result scope at regs memory (Binary op a b) few f s =
    both_same op _ _ _ _ (value_same p result scope at regs memory a few f s.0) (value_same p result scope at regs memory b few f s.1)

-- in a body, the register of each parameter holds the pointer to its object
pub record Held (places : List ℕ) (regs : Registers) (first k : ℕ) : Type 0 where
  pub pointer : ℕ
  pub known : slice_get places k ≡ Some pointer
  pub register : slice_get regs (first + k) ≡ Some (Some (pos pointer))
  pub small : pointer < 2 ^ 64

abbrev pub AllHeld : Program → List ℕ → Registers → ℕ → Type 0
AllHeld p places regs first = (k : ℕ) → k < p.function.params → Held places regs first k

held_pointer : (places : List ℕ) (regs : Registers) (memory : Memory) (first k : ℕ) → Held places regs first k → slice_get places k ≡ pointer_value regs memory (Register (first + k))
held_pointer places regs memory first k h =
    h.known ∙ sym (ap (λ o. option_map as_pointer (joined o)) h.register ∙ ap Some (as_pointer-pos h.pointer h.small))

held_value : (places : List ℕ) (regs : Registers) (memory : Memory) (first k : ℕ) → Held places regs first k
    → SameInt (load_int memory (slice_get places k)) (plain_value regs memory (Load S32 (Register (first + k))))
held_value places regs memory first k h =
    record {
      same =
          ap (load_int memory) h.known
          ∙ sym (ap (λ o. load_from S32 memory (joined o)) h.register ∙ ap (λ pointer. load mem.S32 pointer memory) (as_pointer-pos h.pointer h.small));
      int = made (slice_get places k);
    }
  where
    made : (o : Option ℕ) → HasInt (load_int memory o)
    made None = tt
    made (Some pointer) = HasInt-load pointer memory

pub body_fits : (p : Program) (at : List ℕ) (regs : Registers) (memory : Memory) (first : ℕ) → AllHeld p at regs first → Fits p false (Body at) (places.Body first) regs memory
body_fits p at regs memory first held =
    record {
      parameters = λ k h. held_value at regs memory first k (held k h);
      result_is = λ e. absurd (cc);
    }

-- a place on both sides
pub record SamePlace (source target : Option ℕ) : Type 0 where
  pub pointer : ℕ
  pub known : source ≡ Some pointer
  pub same : source ≡ target

-- the place of an lvalue
pub place_same : (p : Program) (at : List ℕ) (regs : Registers) (memory : Memory) (first : ℕ) (e : Expr)
    → length p.statics ≤ 32766 → AllHeld p at regs first → IsLvalue p e → SamePlace (place (Body at) e) (pointer_value regs memory (place_term (places.Body first) e))
place_same p at regs memory first (Literal z) few held s = absurd s
place_same p at regs memory first (Variable k) few held s =
    record { pointer = variable_place k; known = refl; same = ap Some (sym (variable_pointer (length p.statics) k few s)) }
place_same p at regs memory first (Parameter k) few held s =
    record { pointer = (held k s).pointer; known = (held k s).known; same = held_pointer at regs memory first k (held k s) }
place_same p at regs memory first ReturnValue few held s = absurd s
place_same p at regs memory first (Binary op a b) few held s = absurd s
