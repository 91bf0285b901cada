-- Bytes that are drawn over others, one after another.
use Rattle.std.proofs.Common.{◌≡◌, ℕ, zero, suc, ◌+◌, ◌%◌, ◌<◌, ◌≤◌, List, [], ◌∷◌, ◌++◌, length, map, drop, get_or, refl, ap, sym, ◌∙◌, add-one, append-nil, drop-cons}
use Rattle.std.proofs.lemmas.List.{drop_all}
use Rattle.dc_core.specs.Choices.{Drawn, Drew, Dry, ◌>>=◌, after, bind, give, draw, draw_bytes}
use Rattle.dc_core.specs.Entry.{static_objects}
use Rattle.dc_core.specs.Event.{Event, Draw}
use Rattle.dc_core.specs.Objects.{rewritten}
use Rattle.dc_core.specs.Run.{Did}
use Rattle.dc_goto.specs.Acts.{Then, Next, act, drawn, noted_before, static_sizes, with_memory}
use Rattle.dc_goto.specs.Program.{GotoProgram, Statics}
use Rattle.dc_memory.specs.declared.object.ObjKind.TheVariants.{Static}
use Rattle.dc_memory.specs.Objects.{Memory, changed, holding, update}
use Rattle.dc_memory.specs.Places.{put_at, with_bytes}
use Rattle.dc_memory.proofs.Puts.{put_at-none}
use Rattle.dc_machine.specs.Over.{overwritten, statics_overwritten}
use Rattle.dc_machine.specs.View.{now_view}
use Rattle.dc_machine.specs.declared.now.Now.{Now as Held}

-- the first of some values is put before the others
put_at-first : (from value : ℕ) (values xs : List ℕ) → put_at from (value ∷ values) xs ≡ put_at (suc from) values (put_at from (value ∷ []) xs)
put_at-first from value values [] = refl
put_at-first zero value values (x ∷ xs) = ap (λ l. value ∷ put_at zero values l) (sym (put_at-none zero xs))
put_at-first (suc from) value values (x ∷ xs) = ap (λ l. x ∷ l) (put_at-first from value values xs)

update-first : (k from value : ℕ) (values : List ℕ) (m : Memory) → update k (with_bytes from (value ∷ values)) m ≡ update k (with_bytes (suc from) values) (update k (with_bytes from (value ∷ [])) m)
update-first k from value values [] = refl
update-first zero from value values (o ∷ m) = ap (λ bytes. record o { bytes = bytes } ∷ m) (put_at-first from value values o.bytes)
update-first (suc k) from value values (o ∷ m) = ap (λ l. o ∷ l) (update-first k from value values m)

changed-first : (number from value : ℕ) (values : List ℕ) (m : Memory)
    → changed number (with_bytes from (value ∷ values)) m ≡ changed number (with_bytes (suc from) values) (changed number (with_bytes from (value ∷ [])) m)
changed-first zero from value values m = refl
changed-first (suc k) from value values m = update-first k from value values m

-- no value is put
update-unput : (k from : ℕ) (m : Memory) → update k (with_bytes from []) m ≡ m
update-unput k from [] = refl
update-unput zero from (o ∷ m) = ap (λ bytes. record o { bytes = bytes } ∷ m) (put_at-none from o.bytes)
update-unput (suc k) from (o ∷ m) = ap (λ l. o ∷ l) (update-unput k from m)

changed-unput : (number from : ℕ) (m : Memory) → changed number (with_bytes from []) m ≡ m
changed-unput zero from m = refl
changed-unput (suc k) from m = update-unput k from m

-- The bytes of one object -----------------------------------------------------------------------------------------------

pub over-start : (number from len first count : ℕ) (m : Memory) → first ≡ from → count ≡ len → (choices : List ℕ) → overwritten number from len m choices ≡ overwritten number first count m choices
over-start number from len first count m e f choices = rw (e, f) refl

-- what is left of the bytes where one of them was drawn and written
over-written : (number from value : ℕ) (m : Memory) (events : List Event) (d : Drawn (List ℕ))
    → bind (after events (bind d (λ values. give (value ∷ values)))) (λ values. give (changed number (with_bytes from values) m))
    ≡ after events (bind d (λ values. give (changed number (with_bytes (suc from) values) (changed number (with_bytes from (value ∷ [])) m))))
over-written number from value m events (Drew values rest more) =
    ap (λ l. Drew (changed number (with_bytes from (value ∷ values)) m) rest l) (append-nil (events ++ (more ++ [])))
    ∙ ap (λ memory. Drew memory rest (events ++ (more ++ []))) (changed-first number from value values m)
over-written number from value m events (Dry more) = refl

-- the first byte, and then the others
pub over-more : (number from next len rest : ℕ) (m : Memory) → next ≡ suc from → len ≡ suc rest → (choices : List ℕ)
    → overwritten number from len m choices ≡ (draw 256 >>= λ byte. overwritten number next rest (changed number (with_bytes from (byte ∷ [])) m)) choices
over-more number from next len rest m e f [] = rw f refl
over-more number from next len rest m e f (choice ∷ choices) = rw (e, f) (over-written number from (choice % 256) m (Draw choice ∷ []) (draw_bytes rest choices))

pub over-end : (number from len : ℕ) (m : Memory) → len ≡ 0 → (choices : List ℕ) → overwritten number from len m choices ≡ give m choices
over-end number from len m e choices = rw e (ap (λ memory. Drew memory choices []) (changed-unput number from m))

-- The bytes of all variables --------------------------------------------------------------------------------------------

-- the others are drawn behind those of one variable
statics-others : (number : ℕ) (bytes : List ℕ) (m : Memory) (events : List Event) (d : Drawn Memory)
    → bind (after events (bind d (λ objects. give (holding Static bytes ∷ objects)))) (λ objects. give (rewritten number objects m))
    ≡ after (events ++ []) (bind d (λ objects. give (rewritten (suc number) objects (changed number (with_bytes 0 bytes) m))))
statics-others number bytes m events (Drew objects rest more) =
    ap (λ l. Drew (rewritten (suc number) objects (changed number (with_bytes 0 bytes) m)) rest l) (append-nil (events ++ (more ++ [])) ∙ ap (λ l. l ++ (more ++ [])) (sym (append-nil events)))
statics-others number bytes m events (Dry more) = ap (λ l. Dry (l ++ more)) (sym (append-nil events))

statics-first : (number : ℕ) (sizes : List ℕ) (m : Memory) (d : Drawn (List ℕ))
    → bind (bind d (λ bytes. static_objects sizes >>= λ objects. give (holding Static bytes ∷ objects))) (λ objects. give (rewritten number objects m))
    ≡ bind (bind d (λ values. give (changed number (with_bytes 0 values) m))) (statics_overwritten (suc number) sizes)
statics-first number sizes m (Drew bytes rest events) = statics-others number bytes m events (static_objects sizes rest)
statics-first number sizes m (Dry events) = refl

pub statics-start : (number first : ℕ) (sizes : List ℕ) (m : Memory) → first ≡ number → (choices : List ℕ) → statics_overwritten number sizes m choices ≡ statics_overwritten first sizes m choices
statics-start number first sizes m e choices = rw e refl

-- the first variable, and then the others
pub statics-over : (number next k : ℕ) (sizes : List ℕ) (m : Memory) → next ≡ suc number → k < length sizes → (choices : List ℕ)
    → statics_overwritten number (drop k sizes) m choices ≡ (overwritten number 0 (get_or sizes k 0) m >>= statics_overwritten next (drop (k + 1) sizes)) choices
statics-over number next k sizes m e h choices = rw (e, add-one, drop-cons sizes k 0 h) (statics-first number (drop (suc k) sizes) m (draw_bytes (get_or sizes k 0) choices))

pub statics-end : (number k : ℕ) (sizes : List ℕ) (m : Memory) → length sizes ≤ k → (choices : List ℕ) → statics_overwritten number (drop k sizes) m choices ≡ give m choices
statics-end number k sizes m h choices = rw (drop_all k sizes h) refl

-- what `statics` does, by the memory that it leads to
abbrev pub statics_run : ℕ → List ℕ → Held → List ℕ → Then
statics_run count sizes now choices = drawn (statics_overwritten (suc count) sizes now.memory choices) (now_view now choices) (λ memory t. Next [] (with_memory memory t))

pub statics-acts : (p : GotoProgram) (name sizes : List ℕ) (count : ℕ) (now : Held) → length p.functions ≡ count → static_sizes p ≡ sizes → (choices : List ℕ)
    → act p name Statics (now_view now choices) ≡ statics_run count sizes now choices
statics-acts p name sizes count now functions is choices = rw (is, functions) (by (static_objects sizes choices))
  where
    by : (d : Drawn Memory) → drawn d (now_view now choices) (λ statics t. Next [] (with_memory (rewritten (suc count) statics t.world.memory) t))
        ≡ drawn (bind d (λ objects. give (rewritten (suc count) objects now.memory))) (now_view now choices) (λ memory t. Next [] (with_memory memory t))
    by (Drew objects rest events) = ap (λ l. noted_before (map Did l) (Next [] (with_memory (rewritten (suc count) objects now.memory) (now_view now rest)))) (sym (append-nil events))
    by (Dry events) = refl
