-- What the machine does with the terms that the lowering writes: they ask for no objects, and name no variables.
use Rattle.std.proofs.Common.{◌≡◌, ℕ, Bool, true, false, List, [], ◌∷◌, Option, Some, None, refl, ap, ◌∙◌, ℤ, pos}
use Rattle.std.specs.Prelude.{slice_get, replicate, if◌then◌else◌}
use Rattle.std.specs.Option.{option_map}
use Rattle.dc_num.specs.declared.kind.NumKind.{NumKind}
use Rattle.dc_num.specs.declared.kind.NumKind.TheVariants.{Ptr, S32}
use Rattle.dc_num.specs.declared.operators.BinOp.{BinOp}
use Rattle.dc_num.specs.Conversions.{converted}
use Rattle.dc_num.specs.Kinds.{is_pointer}
use Rattle.dc_num.specs.Operators.{binary_of}
use Rattle.dc_core.specs.Contract.{holds}
use Rattle.dc_core.specs.Event.{Create, Write}
use Rattle.dc_core.specs.Event as end
use Rattle.dc_core.specs.Run.{Did, checked}
use Rattle.dc_core.specs.Term.{Term, Constant, Register, Object, Load, Binary}
use Rattle.dc_core.specs.World.{is_full, next_object, with_local}
use Rattle.dc_memory.specs.declared.kind.MemKind.TheVariants as mem
use Rattle.dc_memory.specs.declared.object.ObjKind.TheVariants.{Stack}
use Rattle.dc_memory.specs.Objects.{Memory}
use Rattle.dc_memory.specs.Places.{start_of, object_of, offset_of}
use Rattle.dc_memory.specs.Access.{load, store}
use Rattle.dc_program.specs.Kinds.{mem_kind}
use Rattle.dc_program.specs.Values.{compared_pointers}
use Rattle.dc_goto.specs.declared.operands.Bytes.TheVariants.{Zero}
use Rattle.dc_goto.specs.Program.{Set, Store, Init, Local, Covers, Check, Require, GotoProgram}
use Rattle.dc_goto.specs.Values.{Registers, Surroundings, Valued, have, behind, ◌>>=◌, joined, as_pointer, right_operand, operated, term_value}
use Rattle.dc_goto.specs.Acts.{Now, Then, Next, Ends, act, surroundings, when_asked, asked, defined, given, is_covered, object_created, put, required, with_local as with_object, with_memory, with_register}

-- Values ------------------------------------------------------------------------------------------------------------

-- the forms that the lowering writes; operators are not of pointers
abbrev pub IsPlain : Term → Type 0
IsPlain (Constant kind z) = Unit {0}
IsPlain (Register r) = Unit {0}
IsPlain (Object n) = Unit {0}
IsPlain (Load kind a) = IsPlain a
IsPlain (Binary op kind a b) = (is_pointer kind ≡ false) × IsPlain a × IsPlain b
IsPlain e = ⊥

abbrev pub load_from : NumKind → Memory → Option ℤ → Option ℤ
load_from kind memory None = None
load_from kind memory (Some z) = load (mem_kind kind) (as_pointer z) memory

abbrev pub both_operated : BinOp → NumKind → Option ℤ → Option ℤ → Option ℤ
both_operated op kind None b = None
both_operated op kind (Some a) None = None
both_operated op kind (Some a) (Some b) = binary_of op kind (converted kind a) (right_operand op kind b)

-- the value of a term of those forms
abbrev pub plain_value : Registers → Memory → Term → Option ℤ
plain_value regs memory (Constant kind z) = Some z
plain_value regs memory (Register r) = joined (slice_get regs r)
plain_value regs memory (Object n) = Some (pos (start_of n))
plain_value regs memory (Load kind a) = load_from kind memory (plain_value regs memory a)
plain_value regs memory (Binary op kind a b) = both_operated op kind (plain_value regs memory a) (plain_value regs memory b)
plain_value regs memory e = None

-- as a pointer
abbrev pub pointer_value : Registers → Memory → Term → Option ℕ
pointer_value regs memory e = option_map as_pointer (plain_value regs memory e)

-- with no more objects seen
abbrev unseen : List ℕ → Option ℤ → Valued ℤ
unseen seen v = record { value = v; seen = seen }

load_plain : (kind : NumKind) (memory : Memory) (seen : List ℕ) (o : Option ℤ)
    → behind o (λ p. have (load (mem_kind kind) (as_pointer p) memory)) seen ≡ unseen seen (load_from kind memory o)
load_plain kind memory seen None = refl
load_plain kind memory seen (Some z) = refl

binary_plain : (op : BinOp) (kind : NumKind) (s : Surroundings) (seen : List ℕ) (b : Term) (o p : Option ℤ) → is_pointer kind ≡ false
    → term_value s [] b seen ≡ unseen seen p
    → behind o (λ x. term_value s [] b >>= λ y. have (operated op kind s.memory x y)) seen ≡ unseen seen (both_operated op kind o p)
binary_plain op kind s seen b None p k e = refl
binary_plain op kind s seen b (Some x) p k e =
    ap (λ v. behind v.value (λ y. have (operated op kind s.memory x y)) v.seen) e ∙ by p
  where
    by : (p : Option ℤ) → behind p (λ y. have (operated op kind s.memory x y)) seen ≡ unseen seen (both_operated op kind (Some x) p)
    by None = refl
    by (Some y) =
        ap (λ b. unseen seen (if b then compared_pointers op s.memory (converted Ptr x) (converted Ptr y) else binary_of op kind (converted kind x) (right_operand op kind y))) k

-- a plain term has its value, and sees nothing
pub term_plain : (s : Surroundings) (seen : List ℕ) (e : Term) → IsPlain e → term_value s [] e seen ≡ unseen seen (plain_value s.regs s.memory e)
term_plain s seen (Constant kind z) h = refl
term_plain s seen (Register r) h = refl
term_plain s seen (Object n) h = refl
term_plain s seen (Load kind a) h =
    ap (λ v. behind v.value (λ p. have (load (mem_kind kind) (as_pointer p) s.memory)) v.seen) (term_plain s seen a h)
    ∙ load_plain kind s.memory seen (plain_value s.regs s.memory a)
term_plain s seen (Binary op kind a b) h =
    ap (λ v. behind v.value (λ x. term_value s [] b >>= λ y. have (operated op kind s.memory x y)) v.seen) (term_plain s seen a h.1)
    ∙ binary_plain op kind s seen b (plain_value s.regs s.memory a) (plain_value s.regs s.memory b) h.0 (term_plain s seen b h.2)
term_plain s seen e h = absurd h

-- Operands ----------------------------------------------------------------------------------------------------------

pub asked_plain : (s : Now) (e : Term) (go : Option ℤ → Now → Then) → IsPlain e → asked s e go ≡ go (plain_value s.regs s.world.memory e) s
asked_plain s e go h = ap (λ v. when_asked s v go) (term_plain (surroundings s) s.seen e h)

pub given_plain : (name : List ℕ) (s : Now) (e : Term) (go : ℤ → Now → Then) → IsPlain e
    → given name s e go ≡ defined name (plain_value s.regs s.world.memory e) s (λ z. go z s)
given_plain name s e go h = asked_plain s e (λ v t. defined name v t (λ z. go z t)) h

-- what is done with a number as a pointer alone
as_pointers : (name : List ℕ) (s : Now) (o : Option ℤ) (f : ℤ → Then) (g : ℕ → Then) → ((z : ℤ) → f z ≡ g (as_pointer z))
    → defined name o s f ≡ defined name (option_map as_pointer o) s g
as_pointers name s None f g h = refl
as_pointers name s (Some z) f g h = h z

-- Instructions ------------------------------------------------------------------------------------------------------

module _ (p : GotoProgram) (name : List ℕ) (s : Now) where
  abbrev memory : Memory
  memory = s.world.memory

  abbrev value : Term → Option ℤ
  value e = plain_value s.regs s.world.memory e

  pub set_acts : (r : ℕ) (e : Term) → IsPlain e → act p name (Set r e) s ≡ defined name (value e) s (λ v. Next [] (with_register r (Some v) s))
  set_acts r e h = given_plain name s e (λ v t. Next [] (with_register r (Some v) t)) h

  pub store_acts : (a e : Term) → IsPlain a → IsPlain e
      → act p name (Store S32 a e) s
      ≡ defined name (pointer_value s.regs s.world.memory a) s (λ q. defined name (value e) s (λ v. defined name (store mem.S32 q v memory) s (λ m. Next (Did (Write (object_of q) (offset_of q) 4) ∷ []) (with_memory m s))))
  store_acts a e h k =
      given_plain name s a (λ q t. given name t e (λ v u. put name (as_pointer q) 4 (store mem.S32 (as_pointer q) v u.world.memory) u)) h
      ∙ as_pointers name s (value a) _ _ (λ q. given_plain name s e (λ v u. put name (as_pointer q) 4 (store mem.S32 (as_pointer q) v u.world.memory) u) k)

  pub init_acts : (a e : Term) → IsPlain a → IsPlain e
      → act p name (Init S32 a e) s
      ≡ defined name (pointer_value s.regs s.world.memory a) s (λ q. defined name (value e) s (λ v. defined name (store mem.S32 q v memory) s (λ m. Next [] (with_memory m s))))
  init_acts a e h k =
      given_plain name s a (λ q t. given name t e (λ v u. defined name (store mem.S32 (as_pointer q) v u.world.memory) u (λ m. Next [] (with_memory m u)))) h
      ∙ as_pointers name s (value a) _ _ (λ q. given_plain name s e (λ v u. defined name (store mem.S32 (as_pointer q) v u.world.memory) u (λ m. Next [] (with_memory m u))) k)

  pub covers_acts : (test : List ℕ) (a n : Term) → IsPlain a → IsPlain n → act p name (Covers test a n) s ≡ Next (checked test (is_covered (value a) (value n) s)) s
  covers_acts test a n h k =
      asked_plain s a (λ q t. asked t n (λ len u. Next (checked test (is_covered q len u)) u)) h
      ∙ asked_plain s n (λ len u. Next (checked test (is_covered (value a) len u)) u) k

  pub check_acts : (test : List ℕ) (e : Term) → IsPlain e → act p name (Check test e) s ≡ Next (checked test (holds (value e))) s
  check_acts test e h = asked_plain s e (λ v t. Next (checked test (holds v)) t) h

  pub require_acts : (e : Term) → IsPlain e → act p name (Require e) s ≡ required (holds (value e)) s
  require_acts e h = asked_plain s e (λ v t. required (holds v) t) h

  -- a stack object of zero bytes, where one more may be
  abbrev pub local_created : Bool → ℕ → ℕ → Then
  local_created true r size = Ends [] end.ObjectLimit s.world
  local_created false r size =
      Next (Did (Create (next_object s.world)) ∷ [])
      (with_register r (Some (pos (start_of (next_object s.world)))) (record s { world = with_local (replicate size 0) s.world }))

  pub local_acts : (b : Bool) (r size : ℕ) → is_full s.world ≡ b → act p name (Local r size Zero) s ≡ local_created b r size
  local_acts b r size e = ap (λ full. object_created Stack Zero size full s (λ object t. Next [] (with_register r (Some (pos (start_of object))) (with_object object t)))) e ∙ by b
    where
      by : (b : Bool) → object_created Stack Zero size b s (λ object t. Next [] (with_register r (Some (pos (start_of object))) (with_object object t))) ≡ local_created b r size
      by true = refl
      by false = refl
