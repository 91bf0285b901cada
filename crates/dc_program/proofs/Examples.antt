-- What the definitions say of expressions, statements and a program worked out by hand.
use Rattle.std.proofs.Common.{◌≡◌, refl, [], ◌∷◌, Some, None, ℕ, true, false, arith}
use Rattle.std.specs.Prelude.{Ok, Err, codes, pos, negsuc, All}
use Rattle.std.proofs.lemmas.List.Elements.{All-nil, All-cons}
use Rattle.std.proofs.lemmas.Int.{ints}
use Rattle.dc_layout.specs.declared.kind.LayKind.TheVariants.{S8, S32, S64, U8, U64}
use Rattle.dc_layout.specs.Layout.{size_answer}
use Rattle.dc_layout.specs.Types.{PlainType, Void, Num, Pointer, Array, Const}
use Rattle.dc_memory.specs.Access.{load}
use Rattle.dc_memory.specs.Conversions.{bits, converted}
use Rattle.dc_memory.specs.Objects.{Memory}
use Rattle.dc_memory.specs.Places.{start_of, object_of, offset_of}
use Rattle.dc_memory.specs.declared.object.ObjKind.TheVariants as kind
use Rattle.dc_num.specs.declared.operators.BinOp.TheVariants.{Add, Sub, Lt, Eq}
use Rattle.dc_program.specs.declared.rule.Rule.TheVariants.{NoSum, Incomparable, Incomplete}
use Rattle.dc_program.specs.Expressions as e
use Rattle.dc_program.specs.Statements as s
use Rattle.dc_program.specs.Programs.{Program, Function}
use Rattle.dc_program.specs.Typing.{binary_type}
use Rattle.dc_program.specs.Values.{Frame, value, place}
use Rattle.dc_program.specs.declared.location.Location.{Location}
use Rattle.dc_num.specs.Kinds.{IsValue}
use Rattle.dc_num.specs.declared.kind.NumKind.TheVariants as num
use Rattle.dc_program.specs.Clauses.{ClauseStands, AssignedTargetStands, FreedTargetStands, in_contract, in_ensures}
use Rattle.dc_program.specs.Stands.{Setting, Stands, Requires, Targets}
use Rattle.dc_program.specs.Sound.{Sound, FunctionStands, StaticStands}

abbrev int : PlainType
int = Num S32

abbrev text : PlainType
text = Pointer (Const (Num S8))

-- int + unsigned char; a pointer and a number, in either order; two pointers have no sum
sum_numbers : binary_type [] Add int false (Num U8) false ≡ Ok int
sum_numbers = refl

sum_pointer : binary_type [] Add (Pointer int) false (Num U64) false ≡ Ok (Pointer int)
sum_pointer = refl

sum_array : binary_type [] Add (Num U64) false (Array int 3) false ≡ Ok (Pointer int)
sum_array = refl

sum_pointers : binary_type [] Add (Pointer int) false (Pointer int) false ≡ Err NoSum
sum_pointers = refl

-- a pointer to nothing of a size can't be moved
sum_void : binary_type [] Add (Pointer Void) false int false ≡ Err Incomplete
sum_void = refl

-- two pointers whose targets are equal up to qualifiers have a distance
difference_pointers : binary_type [] Sub (Pointer (Const int)) false (Pointer int) false ≡ Ok (Num S64)
difference_pointers = refl

-- an int isn't compared with a pointer, a null pointer constant is
equal_pointer : binary_type [] Eq (Pointer int) false int false ≡ Err Incomparable
equal_pointer = refl

equal_null : binary_type [] Eq (Pointer int) false int true ≡ Ok int
equal_null = refl

less_null : binary_type [] Lt (Pointer int) false int true ≡ Err Incomparable
less_null = refl

-- int g; void inc(int *p) requires p fresh and *p < 100, assigns *p, ensures *p is one more; { *p = *p + 1; }
abbrev site : Location
site = record { number = 1; line = 6 }

abbrev the_int : ℕ → e.Expr
the_int n = e.Typed int (e.Literal (pos n))

abbrev argument : e.Expr
argument = e.Typed (Pointer int) (e.Argument 0)

abbrev parameter : e.Expr
parameter = e.Typed (Pointer int) (e.Local 0)

abbrev target : e.Expr → e.Expr
target p = e.Typed int (e.Deref p)

abbrev plus_one : e.Expr → e.Expr
plus_one a = e.Typed int (e.Binary Add a (the_int 1))

abbrev is_fresh : e.Expr
is_fresh = e.Typed int (e.IsFresh argument (e.Typed (Num U64) (e.SizeofType int)))

abbrev is_small : e.Expr
is_small = e.Typed int (e.Binary Lt (target argument) (the_int 100))

abbrev is_one_more : e.Expr
is_one_more = e.Typed int (e.Binary Eq (target argument) (plus_one (e.Typed int (e.Old (target argument)))))

abbrev clause : e.Expr → s.Clause
clause condition = record { condition = condition; line = 3 }

abbrev inc : Function
inc =
    record {
      name = codes "inc";
      result = Void;
      params = Pointer int ∷ [];
      contract = Some (record {
        required = clause is_fresh ∷ clause is_small ∷ [];
        ensured = clause is_one_more ∷ [];
        assigned = record { condition = None; range = s.Lvalue (target argument); line = 5 } ∷ [];
        freed = [];
      });
      body = Some (s.Block (s.MoreStmts (s.Expression (e.Typed int (e.Assign (target parameter) (plus_one (target parameter)) site))) s.NoStmts));
    }

abbrev program : Program
program = record { functions = inc ∷ []; statics = record { name = codes "g"; type = int } ∷ []; structs = [] }

-- its memory: the function, g, and an object of four bytes
abbrev memory : Memory
memory =
    record { kind = kind.Function; live = true; bytes = [] }
    ∷ record { kind = kind.Static; live = true; bytes = 7 ∷ 0 ∷ 0 ∷ 0 ∷ [] }
    ∷ record { kind = kind.Heap; live = true; bytes = 254 ∷ 255 ∷ 255 ∷ 255 ∷ [] }
    ∷ []

abbrev frame : Frame
frame = record { objects = []; arguments = Some (pos 844424930131968) ∷ []; kept = []; quantified = []; result = None }

value_static : value program frame memory (e.Typed int (e.Static 0)) ≡ Some (pos 7)
unfolding load object_of offset_of start_of bits converted
value_static = refl

place_static : place program frame memory (e.Typed int (e.Static 0)) ≡ Some 562949953421312
unfolding start_of
place_static = refl

value_target : value program frame memory (target argument) ≡ Some (negsuc 1)
unfolding load object_of offset_of start_of bits converted
value_target = refl

-- one thing in a list
One : {X : Type 0} (P : X → Type 0) (x : X) → P x → All P (x ∷ [])
One P x h = All-cons P x [] h (All-nil P)

value_100 : IsValue num.S32 (pos 100)
value_100 = record { above = omega (arith, ints); below = omega (arith, ints) }

value_1 : IsValue num.S32 (pos 1)
value_1 = record { above = omega (arith, ints); below = omega (arith, ints) }

argument_stands : (s : Setting) → s.arguments ≡ Pointer int ∷ [] → Stands program s argument
argument_stands s h = rw h refl

target_stands : (s : Setting) → s.arguments ≡ Pointer int ∷ [] → Stands program s (target argument)
target_stands s h = record { pointer = argument_stands s h; type = refl }

fresh_stands : ClauseStands program (in_contract Requires inc) (clause is_fresh)
fresh_stands =
    record {
      stands = record { placed = refl; pointer = argument_stands (in_contract Requires inc) refl; count = record { formed = refl; type = refl }; points = refl; number = refl; type = refl };
      scalar = refl;
    }

small_stands : ClauseStands program (in_contract Requires inc) (clause is_small)
small_stands =
    record { stands = record { left = target_stands (in_contract Requires inc) refl; right = value_100; type = refl }; scalar = refl }

one_more_stands : ClauseStands program (in_ensures inc) (clause is_one_more)
one_more_stands =
    record {
      stands = record {
        left = target_stands (in_ensures inc) refl;
        right = record {
          left = record { placed = refl; argument = record { pointer = refl; type = refl }; scalar = refl; type = refl };
          right = value_1;
          type = refl;
        };
        type = refl;
      };
      scalar = refl;
    }

inc_stands : FunctionStands program inc
inc_stands =
    record {
      name = refl;
      result = refl;
      params = refl;
      contract = record {
        required = All-cons (ClauseStands program (in_contract Requires inc)) (clause is_fresh) (clause is_small ∷ []) fresh_stands (One (ClauseStands program (in_contract Requires inc)) (clause is_small) small_stands);
        ensured = One (ClauseStands program (in_ensures inc)) (clause is_one_more) one_more_stands;
        assigned = One (AssignedTargetStands program (in_contract Targets inc)) (record { condition = None; range = s.Lvalue (target argument); line = 5 }) (tt, record { stands = target_stands (in_contract Targets inc) refl; lvalue = refl });
        freed = All-nil (FreedTargetStands program (in_contract Targets inc));
      };
      body = record {
        statements = (
          record {
            place = record { pointer = refl; type = refl };
            value = record { left = record { pointer = refl; type = refl }; right = value_1; type = refl };
            modifiable = refl;
            taken = refl;
            one_site = tt;
            type = refl;
          },
          tt,
        );
        sites = (refl, tt);
        loops = tt;
      };
    }

program_is_sound : Sound program
unfolding size_answer
program_is_sound =
    record {
      functions = One (FunctionStands program) inc inc_stands;
      statics = One (StaticStands program) (record { name = codes "g"; type = int }) (record { name = refl; formed = refl; sized = refl });
      names = (refl, (refl, tt));
      few = omega arith;
    }
