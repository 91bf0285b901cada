-- Arguments become objects on both sides.
use Rattle.std.proofs.Common.{◌≡◌, ℕ, zero, suc, ◌+◌, ◌<◌, ◌≤◌, ◌^◌, Bool, true, false, List, [], ◌∷◌, ◌++◌, length, Option, Some, refl, ap, sym, ◌∙◌, arith, ℤ, pos, append_assoc, length-append, inl, inr}
use Rattle.std.specs.Prelude.{slice_get, slice_set, replicate, map, ◌⊎◌}
use Rattle.std.specs.Option.{option_map}
use Rattle.std.proofs.lemmas.Bool.Decides.{nat_tests}
use Rattle.dc_num.specs.declared.kind.NumKind.TheVariants.{S32}
use Rattle.dc_num.specs.Kinds.{IsValue}
use Rattle.dc_core.specs.Event.{End, Create}
use Rattle.dc_core.specs.Event as end
use Rattle.dc_memory.specs.declared.kind.MemKind.TheVariants as mem
use Rattle.dc_memory.specs.Places.{start_of}
use Rattle.dc_memory.specs.Encoding.{encoded}
use Rattle.dc_memory.specs.Access.{store}
use Rattle.dc_core.specs.World.{World, is_full, next_object, with_local}
use Rattle.dc_core.specs.Run.{State, Out, Ended, Note, Did, noted, unless, contract_mode, with_parameters, with_parameter}
use Rattle.dc_core.proofs.Objects.{start_of-small, store-new}
use Rattle.dc_core.proofs.Outs.{noted-nil, noted-noted}
use Rattle.dc_goto.specs.Program.{Instr, Local, Init, GotoProgram}
use Rattle.dc_goto.specs.declared.operands.Bytes.TheVariants.{Zero}
use Rattle.dc_core.specs.Term.{Register}
use Rattle.dc_goto.specs.Values.{Registers, as_pointer, joined}
use Rattle.dc_goto.specs.Acts.{Now, Then, Next, Ends, act, defined, with_memory}
use Rattle.dc_goto.proofs.Line.{line, before, then_next, before-nil}
use Rattle.dc_goto.proofs.Registers.{get-here, get-back, set-here, length-map, map-append}
use Rattle.dc_goto.proofs.Values.{as_pointer-pos}
use Rattle.dc_instrument.specs.Lowering.{parameters_code}
use Rattle.dc_instrument.proofs.Exact.Plain.{init_acts, local_created, local_acts}

-- a register that holds a pointer
abbrev pub pointer_register : ℕ → Option ℤ
pointer_register pointer = Some (pos pointer)

-- arguments, the pointers to objects that are there, and registers that are 0
abbrev pub body_registers : List ℤ → List ℕ → ℕ → Registers
body_registers arguments places n = map Some arguments ++ (map pointer_register places ++ replicate n (Some (pos 0)))

abbrev pub AllInts : List ℤ → Type 0
AllInts [] = Unit {0}
AllInts (v ∷ values) = IsValue S32 v × AllInts values

abbrev pub AllSmall : List ℕ → Type 0
AllSmall [] = Unit {0}
AllSmall (q ∷ places) = (q < 2 ^ 64) × AllSmall places

pub small-append : (xs : List ℕ) (q : ℕ) → AllSmall xs → q < 2 ^ 64 → AllSmall (xs ++ q ∷ [])
small-append [] q a h = (h, tt)
small-append (x ∷ xs) q a h = (a.0, small-append xs q a.1 h)

room_left : (w : World) → is_full w ≡ false → next_object w ≤ 65535
room_left w h = grind (arith, nat_tests)

-- all arguments became objects
pub record Made (p : GotoProgram) (name : List ℕ) (arguments : List ℤ) (first i : ℕ) (rest : List ℤ) (places : List ℕ) (r : ℕ) (st : State) (s : Now) : Type 0 where
  pub notes : List Note
  pub made : List ℕ
  pub after : State
  pub source : (go : List ℕ → State → Out Note) → with_parameters contract_mode rest places st go ≡ noted notes (go made after)
  pub target : line p name (parameters_code first i (length rest)) s ≡ Next notes (record s { regs = body_registers arguments made r; world = after.world })
  pub count : length made ≡ length places + length rest
  pub small : AllSmall made
  pub left : after.left ≡ st.left

-- no room was left
pub record Full (p : GotoProgram) (name : List ℕ) (first i : ℕ) (rest : List ℤ) (places : List ℕ) (st : State) (s : Now) : Type 0 where
  pub notes : List Note
  pub world : World
  pub source : (go : List ℕ → State → Out Note) → with_parameters contract_mode rest places st go ≡ Ended notes end.ObjectLimit world
  pub target : line p name (parameters_code first i (length rest)) s ≡ Ends notes end.ObjectLimit world

-- a state with what stands in it already
pub now_same : (s : Now) (regs : Registers) (w : World) → s.regs ≡ regs → s.world ≡ w → s ≡ record s { regs = regs; world = w }
now_same s regs w e f = ap (λ x. record s { regs = x }) e ∙ ap (λ y. record s { regs = regs; world = y }) f

-- the registers with one more pointer
body_registers-set : (arguments : List ℤ) (places : List ℕ) (q n k : ℕ) → k ≡ length arguments + length places
    → slice_set (body_registers arguments places (suc n)) k (pointer_register q) ≡ body_registers arguments (places ++ q ∷ []) n
body_registers-set arguments places q n k e =
    let rest = replicate n (Some (pos 0)) in
    let a = map Some arguments in
    let b = map pointer_register places in
    let len : length (a ++ b) ≡ k = omega (arith, length-append a b, length-map Some arguments, length-map pointer_register places) in
    ap (λ l. slice_set l k (pointer_register q)) (sym (append_assoc a b (Some (pos 0) ∷ rest)))
    ∙ set-here (a ++ b) (Some (pos 0)) (pointer_register q) rest k len
    ∙ append_assoc a b (pointer_register q ∷ rest)
    ∙ ap (λ l. a ++ l) (sym (append_assoc b (pointer_register q ∷ []) rest) ∙ ap (λ l. l ++ rest) (sym (map-append pointer_register places (q ∷ []))))

-- the register of a pointer
pub body_registers-pointer : (arguments : List ℤ) (places more : List ℕ) (q n k : ℕ) → k ≡ length arguments + length places
    → slice_get (body_registers arguments (places ++ q ∷ more) n) k ≡ Some (pointer_register q)
body_registers-pointer arguments places more q n k e =
    let a = map Some arguments in
    let b = map pointer_register places in
    let c = map pointer_register more ++ replicate n (Some (pos 0)) in
    let la = length-map Some arguments in
    let lb = length-map pointer_register places in
    get-back a (map pointer_register (places ++ q ∷ more) ++ replicate n (Some (pos 0))) (length places) k (omega arith)
    ∙ ap (λ l. slice_get (l ++ replicate n (Some (pos 0))) (length places)) (map-append pointer_register places (q ∷ more))
    ∙ ap (λ l. slice_get l (length places)) (append_assoc b (pointer_register q ∷ map pointer_register more) (replicate n (Some (pos 0))))
    ∙ get-here b (pointer_register q) c (length places) lb

-- the register of an argument
pub body_registers-argument : (done rest : List ℤ) (v : ℤ) (places : List ℕ) (n k : ℕ) → k ≡ length done
    → slice_get (body_registers (done ++ v ∷ rest) places n) k ≡ Some (Some v)
body_registers-argument done rest v places n k e =
    let more = map pointer_register places ++ replicate n (Some (pos 0)) in
    let ld = length-map Some done in
    ap (λ l. slice_get (l ++ more) k) (map-append Some done (v ∷ rest))
    ∙ ap (λ l. slice_get l k) (append_assoc (map Some done) (Some v ∷ map Some rest) more)
    ∙ get-here (map Some done) (Some v) (map Some rest ++ more) k (ld ∙ sym e)

-- the instructions for one argument
one_parameter : (p : GotoProgram) (name : List ℕ) (first i : ℕ) (v : ℤ) (code : List Instr) (regs : Registers) (w : World) (s : Now)
    → is_full w ≡ false → s.world ≡ w
    → slice_set s.regs (first + i) (Some (pos (start_of (next_object w)))) ≡ regs
    → slice_get regs (first + i) ≡ Some (Some (pos (start_of (next_object w))))
    → slice_get regs i ≡ Some (Some v)
    → line p name (Local (first + i) 4 Zero ∷ Init S32 (Register (first + i)) (Register i) ∷ code) s
    ≡ before (Did (Create (next_object w)) ∷ []) (line p name code (record s { regs = regs; world = with_local (encoded mem.S32 v) w }))
one_parameter p name first i v code regs w s free ew er pointer argument =
    let q = start_of (next_object w) in
    let zeros : World = with_local (replicate 4 0) w in
    let s1 : Now = record s { regs = regs; world = zeros } in
    let enter : line p name (Local (first + i) 4 Zero ∷ Init S32 (Register (first + i)) (Register i) ∷ code) s ≡ before (Did (Create (next_object w)) ∷ []) (line p name (Init S32 (Register (first + i)) (Register i) ∷ code) s1) =
    ap (λ t. then_next t (line p name (Init S32 (Register (first + i)) (Register i) ∷ code)))
    (local_acts p name s false (first + i) 4 (ap is_full ew ∙ free)
    ∙ ap (λ x. local_created p name (record s { world = x }) false (first + i) 4) ew
    ∙ ap (λ l. Next (Did (Create (next_object w)) ∷ []) (record s { regs = l; world = zeros })) er) in
    let store_it : store mem.S32 q v zeros.memory ≡ Some (with_local (encoded mem.S32 v) w).memory = store-new w.memory v in
    let as_q : as_pointer (pos q) ≡ q = as_pointer-pos q (start_of-small (next_object w) (room_left w free)) in
    let writes : ℕ → Option ℤ → Then = λ pointer o. defined name o s1 (λ x. defined name (store mem.S32 pointer x zeros.memory) s1 (λ memory. Next [] (with_memory memory s1))) in
    let init : act p name (Init S32 (Register (first + i)) (Register i)) s1 ≡ Next [] (record s { regs = regs; world = with_local (encoded mem.S32 v) w }) =
    init_acts p name s1 (Register (first + i)) (Register i) tt tt
    ∙ ap (λ o. defined name (option_map as_pointer (joined o)) s1 (λ pointer. writes pointer (joined (slice_get regs i)))) pointer
    ∙ ap (λ n. writes n (joined (slice_get regs i))) as_q
    ∙ ap (λ o. writes q (joined o)) argument
    ∙ ap (λ o. defined name o s1 (λ memory. Next [] (with_memory memory s1))) store_it in
    enter
    ∙ ap (before (Did (Create (next_object w)) ∷ []))
    (ap (λ t. then_next t (line p name code)) init ∙ before-nil (line p name code (record s { regs = regs; world = with_local (encoded mem.S32 v) w })))

-- arguments become objects on both sides
pub parameters_follow : (p : GotoProgram) (name : List ℕ) (arguments : List ℤ) (first i : ℕ) (done rest : List ℤ) (places : List ℕ) (r : ℕ) (st : State) (s : Now)
    → arguments ≡ done ++ rest → first ≡ length arguments → i ≡ length places → length places ≡ length done
    → AllSmall places → s.regs ≡ body_registers arguments places (length rest + r) → s.world ≡ st.world
    → Made p name arguments first i rest places r st s ⊎ Full p name first i rest places st s
parameters_follow p name arguments first i done [] places r st s ea ef ei ec small er ew =
    let n : zero + r ≡ r = omega arith in
    inl (record {
      notes = [];
      made = places;
      after = st;
      source = λ go. sym (noted-nil (go places st));
      target = ap (Next []) (now_same s (body_registers arguments places r) st.world (er ∙ ap (body_registers arguments places) n) ew);
      count = omega arith;
      small = small;
      left = refl;
    })
parameters_follow p name arguments first i done (v ∷ rest) places r st s ea ef ei ec small er ew =
    by (is_full st.world) refl
    (λ free. parameters_follow p name arguments first (suc i) (done ++ v ∷ []) rest (places ++ q ∷ []) r (with_parameter v st) s2
    (ea ∙ sym (append_assoc done (v ∷ []) rest)) ef (omega (arith, length-append places (q ∷ []))) (omega (arith, length-append places (q ∷ []), length-append done (v ∷ [])))
    (small-append places q small (start_of-small (next_object w) (room_left w free))) refl refl)
  where
    w : World
    w = st.world

    q : ℕ
    q = start_of (next_object w)

    code : List Instr
    code = parameters_code first (suc i) (length rest)

    regs : Registers
    regs = body_registers arguments (places ++ q ∷ []) (length rest + r)

    s2 : Now
    s2 = record s { regs = regs; world = with_local (encoded mem.S32 v) w }

    more : List Note
    more = Did (Create (next_object w)) ∷ []

    begun : (b : Bool) → is_full w ≡ b → (go : List ℕ → State → Out Note) → with_parameters contract_mode (v ∷ rest) places st go ≡ unless b end.ObjectLimit w (noted more (with_parameters contract_mode rest (places ++ q ∷ []) (with_parameter v st) go))
    begun b e go = ap (λ b. unless b end.ObjectLimit w (noted more (with_parameters contract_mode rest (places ++ q ∷ []) (with_parameter v st) go))) e

    at_place : first + i ≡ length arguments + length places
    at_place = omega arith

    more_room : suc (length rest) + r ≡ suc (length rest + r)
    more_room = omega arith

    set_it : slice_set s.regs (first + i) (Some (pos q)) ≡ regs
    set_it =
        ap (λ l. slice_set l (first + i) (Some (pos q))) (er ∙ ap (body_registers arguments places) more_room)
        ∙ body_registers-set arguments places q (length rest + r) (first + i) at_place

    argument : slice_get regs i ≡ Some (Some v)
    argument =
        ap (λ l. slice_get (body_registers l (places ++ q ∷ []) (length rest + r)) i) ea
        ∙ body_registers-argument done rest v (places ++ q ∷ []) (length rest + r) i (ei ∙ ec)

    stepped : is_full w ≡ false → line p name (parameters_code first i (suc (length rest))) s ≡ before more (line p name code s2)
    stepped free =
        one_parameter p name first i v code regs w s free ew set_it
        (body_registers-pointer arguments places [] q (length rest + r) (first + i) at_place) argument

    goes : is_full w ≡ false → Made p name arguments first (suc i) rest (places ++ q ∷ []) r (with_parameter v st) s2 ⊎ Full p name first (suc i) rest (places ++ q ∷ []) (with_parameter v st) s2
        → Made p name arguments first i (v ∷ rest) places r st s ⊎ Full p name first i (v ∷ rest) places st s
    goes free (inl m) =
        let c1 = m.count in
        inl (record {
          notes = more ++ m.notes;
          made = m.made;
          after = m.after;
          source = λ go. begun false free go ∙ ap (noted more) (m.source go) ∙ noted-noted more m.notes (go m.made m.after);
          target = stepped free ∙ ap (before more) m.target;
          count = omega (arith, length-append places (q ∷ []));
          small = m.small;
          left = m.left;
        })
    goes free (inr f) =
        inr (record {
          notes = more ++ f.notes;
          world = f.world;
          source = λ go. begun false free go ∙ ap (noted more) (f.source go);
          target = stepped free ∙ ap (before more) f.target;
        })

    by : (b : Bool) → is_full w ≡ b
        → (is_full w ≡ false → Made p name arguments first (suc i) rest (places ++ q ∷ []) r (with_parameter v st) s2 ⊎ Full p name first (suc i) rest (places ++ q ∷ []) (with_parameter v st) s2)
        → Made p name arguments first i (v ∷ rest) places r st s ⊎ Full p name first i (v ∷ rest) places st s
    by true full again =
        inr (record {
          notes = [];
          world = w;
          source = λ go. begun true full go;
          target =
              ap (λ t. then_next t (line p name (Init S32 (Register (first + i)) (Register i) ∷ code)))
              (local_acts p name s true (first + i) 4 (ap is_full ew ∙ full) ∙ ap (λ x. Ends [] end.ObjectLimit x) ew);
        })
    by false free again = goes free (again free)
