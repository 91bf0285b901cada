-- Line forms are read as they are spelt.
use Rattle.std.proofs.Common.{◌≡◌, ℕ, Bool, true, false, List, [], ◌∷◌, ◌++◌, map, Option, None, Some, refl, sym, ap, subst, ◌∙◌, append_assoc}
use Rattle.std.specs.Prelude.{if◌then◌else◌, codes}
use Rattle.std.specs.List.{AllByRecursion}
use Rattle.dc_num.specs.declared.kind.NumKind.{NumKind}
use Rattle.dc_core.specs.Term.{Term}
use Rattle.dc_text.specs.Words.{is_word}
use Rattle.dc_goto.specs.Program.{Instr, Set, Keep, Draw, Store, Init, Copy, Fill, Probe, Local, Kill, Alloc, Free, Trap, Goto, IfNot, Call, CallThrough, Return, Assert, Check, Assume, Require, Push, Pop, Range, Target, Covers, MayFree, Inside, Seen, Havoc, Frees, Statics, OutsideObjects, NewObjects}
use Rattle.dc_goto.specs.Text.{result_word, register_word, kind_word, bytes_word, sharing_word, signature_word, spaced, term_word, instr_line}
use Rattle.dc_goto.specs.Lines.{Line, Version, Function, Static, Opening, Instruction, End, IsInstr, IsForm, IsOptionalNumber, IsTerm, IsCheckName, is_check_name, is_body_name, line_text, form_bytes}
use Rattle.dc_goto.specs.Reading.{Reading, got, then_read, behind_byte, begins_with, front_word, behind_word, read_word, literal, result_of, register_of, read_one, read_name, read_low, read_return, read_kind, bytes_of, sharing_of, are_outside, drawn_objects, read_check_name, Signature, signature_of, read_kinds, read_signature, read_call_through, closed, spaced_read, read_all, read_set_word, read_test, read_control, read_object_word, read_instr, function_line, static_line_of, opening_line, read_form, read_line}
use Rattle.dc_goto.proofs.Pieces.{then_parts, then_got, got_parts, behind_parts, by_word, word_whole, Ends, Reads, word_reads, one_complete, one_sound, two_complete, two_sound, three_complete, three_sound, four_complete, four_sound, spaced_complete, spaced_sound, ends_behind, all_complete, all_sound, list_complete, list_sound}
use Rattle.dc_goto.proofs.Meanings.{IsAny, result_means, register_means, bytes_means, sharing_means, sorts_word, sorts_mean, that_means, literal_means, word_goes_on, check_name_goes_on, body_name_goes_on}
use Rattle.dc_goto.proofs.Expressions.{number_reads, kind_reads, low_reads}

result_reads : Reads (read_word result_of) result_word IsAny
result_reads = word_reads _ _ _ result_means

register_reads : Reads (read_word register_of) register_word IsOptionalNumber
register_reads = word_reads _ _ _ register_means

name_reads : Reads (read_name is_word) (λ word. word) (λ word. is_word word ≡ true)
name_reads = word_reads _ _ _ (that_means is_word word_goes_on)

check_name_reads : Reads read_check_name (λ word. word) IsCheckName
check_name_reads = word_reads _ _ _ (that_means is_check_name check_name_goes_on)

body_name_reads : Reads (read_name is_body_name) (λ word. word) (λ word. is_body_name word ≡ true)
body_name_reads = word_reads _ _ _ (that_means is_body_name body_name_goes_on)

bytes_reads : Reads (read_word bytes_of) bytes_word IsAny
bytes_reads = word_reads _ _ _ bytes_means

sharing_reads : Reads (read_word sharing_of) sharing_word IsAny
sharing_reads = word_reads _ _ _ sharing_means

sorts_read : Reads (read_word are_outside) sorts_word IsAny
sorts_read = word_reads _ _ _ sorts_mean

sig_reads : Reads (read_word (literal (codes "sig"))) (λ one. codes "sig") IsAny
sig_reads = word_reads _ _ _ (literal_means (codes "sig") refl)

one_reads : Reads (read_word (literal (codes "1"))) (λ one. codes "1") IsAny
one_reads = word_reads _ _ _ (literal_means (codes "1") refl)

-- Signatures -------------------------------------------------------------------------------------------------------------

all_any : {A : Type 0} (items : List A) → AllByRecursion IsAny items
all_any [] = tt
all_any (a ∷ items) = (tt, all_any items)

abbrev signature_text : Signature → List ℕ
signature_text sig = signature_word sig.result sig.params

-- between the parentheses, behind the first word
abbrev kinds_text : Signature → List ℕ
kinds_text sig = spaced (result_word sig.result ∷ map kind_word sig.params)

kinds_sound : (bytes rest : List ℕ) (sig : Signature) → read_kinds bytes ≡ got sig rest → bytes ≡ kinds_text sig ++ rest
kinds_sound bytes rest sig h =
    spaced_sound result_reads (λ result. read_all read_kind (signature_of result)) bytes rest sig h (λ bytes sig. bytes ≡ kinds_text sig ++ rest) (λ result middle is h.
    all_sound kind_reads (signature_of result) middle rest sig h (λ bytes sig. 32 ∷ (result_word result ++ bytes) ≡ kinds_text sig ++ rest) (λ params are.
    ap (λ l. 32 ∷ l) (sym (append_assoc (result_word result) (spaced (map kind_word params)) rest))))

kinds_complete : (sig : Signature) (rest : List ℕ) → begins_with 32 rest ≡ false → Ends rest → read_kinds (kinds_text sig ++ rest) ≡ got sig rest
kinds_complete sig rest stops e =
    spaced_complete result_reads (λ result. read_all read_kind (signature_of result)) sig.result (spaced (map kind_word sig.params)) rest tt (ends_behind kind_word sig.params rest e)
    ∙ all_complete kind_reads (signature_of sig.result) sig.params rest (all_any sig.params) stops e

signature_before : (sig : Signature) (rest : List ℕ) → signature_text sig ++ rest ≡ 40 ∷ (codes "sig" ++ (kinds_text sig ++ (41 ∷ rest)))
signature_before sig rest = ap (λ l. 40 ∷ (codes "sig" ++ l)) (append_assoc (kinds_text sig) (41 ∷ []) rest)

abbrev read_named : List ℕ → Reading Signature
read_named bytes = then_read (read_word (literal (codes "sig")) bytes) (λ sig. read_kinds)

signature_reads : Reads read_signature signature_text IsAny
signature_reads = record { sound = sound; complete = complete }
  where
    sound : (bytes rest : List ℕ) (sig : Signature) → read_signature bytes ≡ got sig rest → (bytes ≡ signature_text sig ++ rest) × Unit {0}
    sound bytes rest sig h =
        let p = behind_parts 40 bytes (λ bytes. closed (read_named bytes)) sig rest h in
        let q = then_parts (read_named p.tail) (λ sig bytes. behind_byte 41 bytes (got sig)) sig rest p.read in
        let s = behind_parts 41 q.middle (got q.value) sig rest q.second in
        let v = got_parts q.value sig s.tail rest s.read in
        let n = then_parts (read_word (literal (codes "sig")) p.tail) (λ one. read_kinds) q.value q.middle q.first in
        let w = sig_reads.sound p.tail n.middle n.value n.first in
        let k = kinds_sound n.middle q.middle q.value n.second in
        let text : bytes ≡ signature_text q.value ++ rest =
        p.whole ∙ ap (λ l. 40 ∷ l) (w.0 ∙ ap (λ l. codes "sig" ++ l) (k ∙ ap (λ l. kinds_text q.value ++ l) (s.whole ∙ ap (λ l. 41 ∷ l) v.1))) ∙ sym (signature_before q.value rest) in
        subst (λ sig. (bytes ≡ signature_text sig ++ rest) × Unit {0}) v.0 (text, tt)

    complete : (sig : Signature) (rest : List ℕ) → Unit {0} → Ends rest → read_signature (signature_text sig ++ rest) ≡ got sig rest
    complete sig rest is e =
        ap read_signature (signature_before sig rest)
        ∙ ap closed (then_got (read_word (literal (codes "sig")) (codes "sig" ++ (kinds_text sig ++ (41 ∷ rest)))) (λ one. read_kinds) tt (kinds_text sig ++ (41 ∷ rest)) refl
        ∙ kinds_complete sig (41 ∷ rest) refl refl)

-- Instructions ------------------------------------------------------------------------------------------------------

-- what is read behind a first word
abbrev Says : List ℕ → List ℕ → List ℕ → Instr → Type 0
Says word rest bytes i = (word ++ bytes ≡ instr_line i ++ rest) × IsInstr i

-- with a known first word
abbrev SaysAt : List ℕ → List ℕ → Instr → Type 0
SaysAt rest bytes i = Says [] rest bytes i

at_word : (word wanted rest bytes : List ℕ) (i : Instr) → word ≡ wanted → Says wanted rest bytes i → Says word rest bytes i
at_word word wanted rest bytes i e h = (ap (λ w. w ++ bytes) e ∙ h.0, h.1)

alone : (word wanted rest bytes : List ℕ) (i j : Instr) → word ≡ wanted → wanted ≡ instr_line j → IsInstr j → got j bytes ≡ got i rest → Says word rest bytes i
alone word wanted rest bytes i j e l is h =
    let p = got_parts j i bytes rest h in
    subst (λ i. Says word rest bytes i) p.0 (ap (λ w. w ++ bytes) (e ∙ l) ∙ ap (λ r. instr_line j ++ r) p.1, is)

set_word_sound : (word bytes rest : List ℕ) (i : Instr) → read_set_word word bytes ≡ got i rest → Says word rest bytes i
set_word_sound word bytes rest i h =
    by_word word (codes "push") _ _ (got i rest) (Says word rest bytes i) h
    (λ w h. alone word (codes "push") rest bytes i Push w refl tt h)
    (λ h. by_word word (codes "pop") _ _ (got i rest) (Says word rest bytes i) h
    (λ w h. alone word (codes "pop") rest bytes i Pop w refl tt h)
    (λ h. by_word word (codes "range") _ _ (got i rest) (Says word rest bytes i) h
    (λ w h. at_word word (codes "range") rest bytes i w (four_sound number_reads low_reads low_reads low_reads Range bytes rest i h (Says (codes "range") rest) (λ tag e a n it ie ia im. (refl, (it, ie, ia, im)))))
    (λ h. by_word word (codes "target") _ _ (got i rest) (Says word rest bytes i) h
    (λ w h. at_word word (codes "target") rest bytes i w (three_sound number_reads low_reads low_reads Target bytes rest i h (Says (codes "target") rest) (λ tag e p it ie ip. (refl, (it, ie, ip)))))
    (λ h. by_word word (codes "covers") _ _ (got i rest) (Says word rest bytes i) h
    (λ w h. at_word word (codes "covers") rest bytes i w (three_sound check_name_reads low_reads low_reads Covers bytes rest i h (Says (codes "covers") rest) (λ name a n is ia im. (refl, (is, ia, im)))))
    (λ h. by_word word (codes "mayfree") _ _ (got i rest) (Says word rest bytes i) h
    (λ w h. at_word word (codes "mayfree") rest bytes i w (two_sound check_name_reads low_reads MayFree bytes rest i h (Says (codes "mayfree") rest) (λ name p is ip. (refl, (is, ip)))))
    (λ h. by_word word (codes "inside") _ _ (got i rest) (Says word rest bytes i) h
    (λ w h. at_word word (codes "inside") rest bytes i w (two_sound check_name_reads number_reads Inside bytes rest i h (Says (codes "inside") rest) (λ name tag is it. (refl, (is, it)))))
    (λ h. by_word word (codes "seen") _ _ (got i rest) (Says word rest bytes i) h
    (λ w h. alone word (codes "seen") rest bytes i Seen w refl tt h)
    (λ h. by_word word (codes "havoc") _ _ (got i rest) (Says word rest bytes i) h
    (λ w h. alone word (codes "havoc") rest bytes i Havoc w refl tt h)
    (λ h. by_word word (codes "frees") _ _ (got i rest) (Says word rest bytes i) h
    (λ w h. alone word (codes "frees") rest bytes i Frees w refl tt h)
    (λ h. cc))))))))))

objects_sound : (bytes rest : List ℕ) (i : Instr) → read_one (read_word are_outside) drawn_objects bytes ≡ got i rest → Says (codes "objects") rest bytes i
objects_sound bytes rest i h = one_sound sorts_read drawn_objects bytes rest i h (Says (codes "objects") rest) by_sorts
  where
    by_sorts : (outside : Bool) → Unit {0} → Says (codes "objects") rest (spaced (sorts_word outside ∷ []) ++ rest) (drawn_objects outside)
    by_sorts true is = (refl, tt)
    by_sorts false is = (refl, tt)

test_sound : (word bytes rest : List ℕ) (i : Instr) → read_test word bytes ≡ got i rest → Says word rest bytes i
test_sound word bytes rest i h =
    by_word word (codes "assert") _ _ (got i rest) (Says word rest bytes i) h
    (λ w h. at_word word (codes "assert") rest bytes i w (two_sound check_name_reads low_reads Assert bytes rest i h (Says (codes "assert") rest) (λ name e is ie. (refl, (is, ie)))))
    (λ h. by_word word (codes "check") _ _ (got i rest) (Says word rest bytes i) h
    (λ w h. at_word word (codes "check") rest bytes i w (two_sound check_name_reads low_reads Check bytes rest i h (Says (codes "check") rest) (λ name e is ie. (refl, (is, ie)))))
    (λ h. by_word word (codes "assume") _ _ (got i rest) (Says word rest bytes i) h
    (λ w h. at_word word (codes "assume") rest bytes i w (one_sound low_reads Assume bytes rest i h (Says (codes "assume") rest) (λ e ie. (refl, ie))))
    (λ h. by_word word (codes "require") _ _ (got i rest) (Says word rest bytes i) h
    (λ w h. at_word word (codes "require") rest bytes i w (one_sound low_reads Require bytes rest i h (Says (codes "require") rest) (λ e ie. (refl, ie))))
    (λ h. by_word word (codes "statics") _ _ (got i rest) (Says word rest bytes i) h
    (λ w h. alone word (codes "statics") rest bytes i Statics w refl tt h)
    (λ h. by_word word (codes "objects") _ _ (got i rest) (Says word rest bytes i) h
    (λ w h. at_word word (codes "objects") rest bytes i w (objects_sound bytes rest i h))
    (λ h. set_word_sound word bytes rest i h))))))

return_sound : (bytes rest : List ℕ) (i : Instr) → read_return bytes ≡ got i rest → Says (codes "return") rest bytes i
return_sound bytes rest i h = by_test (begins_with 32 bytes) h
  where
    by_test : (t : Bool) → (if t then read_one read_low (λ e. Return (Some e)) bytes else got (Return None) bytes) ≡ got i rest → Says (codes "return") rest bytes i
    by_test true h = one_sound low_reads (λ e. Return (Some e)) bytes rest i h (Says (codes "return") rest) (λ e ie. (refl, ie))
    by_test false h = alone (codes "return") (codes "return") rest bytes i (Return None) refl refl tt h

call_through_sound : (bytes rest : List ℕ) (i : Instr) → read_call_through bytes ≡ got i rest → Says (codes "callp") rest bytes i
call_through_sound bytes rest i h =
    spaced_sound register_reads _ bytes rest i h (Says (codes "callp") rest) (λ r first ir h.
    spaced_sound low_reads _ first rest i h (λ bytes i. Says (codes "callp") rest (32 ∷ (register_word r ++ bytes)) i) (λ e second ie h.
    spaced_sound signature_reads (λ sig. read_all read_low (CallThrough r e sig.result sig.params)) second rest i h
    (λ bytes i. Says (codes "callp") rest (32 ∷ (register_word r ++ (32 ∷ (term_word e ++ bytes)))) i) (λ sig third is h.
    all_sound low_reads (CallThrough r e sig.result sig.params) third rest i h
    (λ bytes i. Says (codes "callp") rest (32 ∷ (register_word r ++ (32 ∷ (term_word e ++ (32 ∷ (signature_text sig ++ bytes)))))) i) (λ arguments ia. (
      ap (λ l. codes "callp" ++ (32 ∷ l))
          (ap (λ l. register_word r ++ (32 ∷ l))
          (ap (λ l. term_word e ++ (32 ∷ l)) (sym (append_assoc (signature_text sig) (spaced (map term_word arguments)) rest))
          ∙ sym (append_assoc (term_word e) (32 ∷ (signature_text sig ++ spaced (map term_word arguments))) rest))
          ∙ sym (append_assoc (register_word r) (32 ∷ (term_word e ++ (32 ∷ (signature_text sig ++ spaced (map term_word arguments))))) rest)),
      (ir, ie, ia),
    )))))

call_through_complete : (r : Option ℕ) (e : Term) (sig : Signature) (arguments : List Term) (rest : List ℕ) → IsOptionalNumber r → IsTerm e → AllByRecursion IsTerm arguments → begins_with 32 rest ≡ false → Ends rest
    → read_call_through (spaced (register_word r ∷ term_word e ∷ signature_text sig ∷ map term_word arguments) ++ rest) ≡ got (CallThrough r e sig.result sig.params arguments) rest
call_through_complete r e sig arguments rest ir ie ia stops ends =
    spaced_complete register_reads _ r (spaced (term_word e ∷ signature_text sig ∷ map term_word arguments)) rest ir refl
    ∙ spaced_complete low_reads _ e (spaced (signature_text sig ∷ map term_word arguments)) rest ie refl
    ∙ spaced_complete signature_reads (λ sig. read_all read_low (CallThrough r e sig.result sig.params)) sig (spaced (map term_word arguments)) rest tt (ends_behind term_word arguments rest ends)
    ∙ all_complete low_reads (CallThrough r e sig.result sig.params) arguments rest ia stops ends

control_sound : (word bytes rest : List ℕ) (i : Instr) → read_control word bytes ≡ got i rest → Says word rest bytes i
control_sound word bytes rest i h =
    by_word word (codes "trap") _ _ (got i rest) (Says word rest bytes i) h
    (λ w h. alone word (codes "trap") rest bytes i Trap w refl tt h)
    (λ h. by_word word (codes "goto") _ _ (got i rest) (Says word rest bytes i) h
    (λ w h. at_word word (codes "goto") rest bytes i w (one_sound number_reads Goto bytes rest i h (Says (codes "goto") rest) (λ place ip. (refl, ip))))
    (λ h. by_word word (codes "ifnot") _ _ (got i rest) (Says word rest bytes i) h
    (λ w h. at_word word (codes "ifnot") rest bytes i w (two_sound low_reads number_reads IfNot bytes rest i h (Says (codes "ifnot") rest) (λ e place ie ip. (refl, (ie, ip)))))
    (λ h. by_word word (codes "call") _ _ (got i rest) (Says word rest bytes i) h
    (λ w h. at_word word (codes "call") rest bytes i w (list_sound register_reads name_reads low_reads Call bytes rest i h (Says (codes "call") rest) (λ r name arguments ir is ia. (refl, (ir, is, ia)))))
    (λ h. by_word word (codes "callp") _ _ (got i rest) (Says word rest bytes i) h
    (λ w h. at_word word (codes "callp") rest bytes i w (call_through_sound bytes rest i h))
    (λ h. by_word word (codes "return") _ _ (got i rest) (Says word rest bytes i) h
    (λ w h. at_word word (codes "return") rest bytes i w (return_sound bytes rest i h))
    (λ h. test_sound word bytes rest i h))))))

object_word_sound : (word bytes rest : List ℕ) (i : Instr) → read_object_word word bytes ≡ got i rest → Says word rest bytes i
object_word_sound word bytes rest i h =
    by_word word (codes "local") _ _ (got i rest) (Says word rest bytes i) h
    (λ w h. at_word word (codes "local") rest bytes i w (three_sound number_reads number_reads bytes_reads Local bytes rest i h (Says (codes "local") rest) (λ r size bytes_ ir is ib. (refl, (ir, is)))))
    (λ h. by_word word (codes "kill") _ _ (got i rest) (Says word rest bytes i) h
    (λ w h. at_word word (codes "kill") rest bytes i w (one_sound number_reads Kill bytes rest i h (Says (codes "kill") rest) (λ m im. (refl, im))))
    (λ h. by_word word (codes "alloc") _ _ (got i rest) (Says word rest bytes i) h
    (λ w h. at_word word (codes "alloc") rest bytes i w (four_sound number_reads low_reads low_reads bytes_reads Alloc bytes rest i h (Says (codes "alloc") rest) (λ r n m bytes_ ir in_ im ib. (refl, (ir, in_, im)))))
    (λ h. by_word word (codes "free") _ _ (got i rest) (Says word rest bytes i) h
    (λ w h. at_word word (codes "free") rest bytes i w (one_sound low_reads Free bytes rest i h (Says (codes "free") rest) (λ p ip. (refl, ip))))
    (λ h. control_sound word bytes rest i h))))

instr_sound : (word bytes rest : List ℕ) (i : Instr) → read_instr word bytes ≡ got i rest → Says word rest bytes i
instr_sound word bytes rest i h =
    by_word word (codes "set") _ _ (got i rest) (Says word rest bytes i) h
    (λ w h. at_word word (codes "set") rest bytes i w (two_sound number_reads low_reads Set bytes rest i h (Says (codes "set") rest) (λ r e ir ie. (refl, (ir, ie)))))
    (λ h. by_word word (codes "keep") _ _ (got i rest) (Says word rest bytes i) h
    (λ w h. at_word word (codes "keep") rest bytes i w (two_sound number_reads low_reads Keep bytes rest i h (Says (codes "keep") rest) (λ r e ir ie. (refl, (ir, ie)))))
    (λ h. by_word word (codes "draw") _ _ (got i rest) (Says word rest bytes i) h
    (λ w h. at_word word (codes "draw") rest bytes i w (two_sound number_reads kind_reads Draw bytes rest i h (Says (codes "draw") rest) (λ r k ir ik. (refl, ir))))
    (λ h. by_word word (codes "store") _ _ (got i rest) (Says word rest bytes i) h
    (λ w h. at_word word (codes "store") rest bytes i w (three_sound kind_reads low_reads low_reads Store bytes rest i h (Says (codes "store") rest) (λ k a e ik ia ie. (refl, (ia, ie)))))
    (λ h. by_word word (codes "init") _ _ (got i rest) (Says word rest bytes i) h
    (λ w h. at_word word (codes "init") rest bytes i w (three_sound kind_reads low_reads low_reads Init bytes rest i h (Says (codes "init") rest) (λ k a e ik ia ie. (refl, (ia, ie)))))
    (λ h. by_word word (codes "copy") _ _ (got i rest) (Says word rest bytes i) h
    (λ w h. at_word word (codes "copy") rest bytes i w (three_sound low_reads low_reads low_reads Copy bytes rest i h (Says (codes "copy") rest) (λ a b n ia ib im. (refl, (ia, ib, im)))))
    (λ h. by_word word (codes "fill") _ _ (got i rest) (Says word rest bytes i) h
    (λ w h. at_word word (codes "fill") rest bytes i w (three_sound low_reads low_reads low_reads Fill bytes rest i h (Says (codes "fill") rest) (λ a e n ia ie im. (refl, (ia, ie, im)))))
    (λ h. by_word word (codes "probe") _ _ (got i rest) (Says word rest bytes i) h
    (λ w h. at_word word (codes "probe") rest bytes i w (four_sound sharing_reads low_reads low_reads low_reads Probe bytes rest i h (Says (codes "probe") rest) (λ sharing a b n is ia ib im. (refl, (ia, ib, im)))))
    (λ h. object_word_sound word bytes rest i h))))))))

-- the bytes of an instruction in front of a line's end
abbrev before_end : Instr → List ℕ → List ℕ
before_end i rest = instr_line i ++ (10 ∷ rest)

abbrev in_line : Reading Instr → Reading Line
in_line reading = then_read reading (λ i. got (Instruction i))

instr_complete : (i : Instr) (rest : List ℕ) → IsInstr i → read_form (front_word (before_end i rest)) (behind_word (before_end i rest)) ≡ got (Instruction i) (10 ∷ rest)
instr_complete (Set r e) rest is = ap in_line (two_complete number_reads low_reads Set r e (10 ∷ rest) is.0 is.1 refl)
instr_complete (Keep r e) rest is = ap in_line (two_complete number_reads low_reads Keep r e (10 ∷ rest) is.0 is.1 refl)
instr_complete (Draw r k) rest is = ap in_line (two_complete number_reads kind_reads Draw r k (10 ∷ rest) is tt refl)
instr_complete (Store k a e) rest is = ap in_line (three_complete kind_reads low_reads low_reads Store k a e (10 ∷ rest) tt is.0 is.1 refl)
instr_complete (Init k a e) rest is = ap in_line (three_complete kind_reads low_reads low_reads Init k a e (10 ∷ rest) tt is.0 is.1 refl)
instr_complete (Copy a b n) rest is = ap in_line (three_complete low_reads low_reads low_reads Copy a b n (10 ∷ rest) is.0 is.1 is.2 refl)
instr_complete (Fill a b n) rest is = ap in_line (three_complete low_reads low_reads low_reads Fill a b n (10 ∷ rest) is.0 is.1 is.2 refl)
instr_complete (Probe sharing a b n) rest is = ap in_line (four_complete sharing_reads low_reads low_reads low_reads Probe sharing a b n (10 ∷ rest) tt is.0 is.1 is.2 refl)
instr_complete (Local r size bytes) rest is = ap in_line (three_complete number_reads number_reads bytes_reads Local r size bytes (10 ∷ rest) is.0 is.1 tt refl)
instr_complete (Kill m) rest is = ap in_line (one_complete number_reads Kill m (10 ∷ rest) is refl)
instr_complete (Alloc r n m bytes) rest is = ap in_line (four_complete number_reads low_reads low_reads bytes_reads Alloc r n m bytes (10 ∷ rest) is.0 is.1 is.2 tt refl)
instr_complete (Free p) rest is = ap in_line (one_complete low_reads Free p (10 ∷ rest) is refl)
instr_complete Trap rest is = refl
instr_complete (Goto place) rest is = ap in_line (one_complete number_reads Goto place (10 ∷ rest) is refl)
instr_complete (IfNot e place) rest is = ap in_line (two_complete low_reads number_reads IfNot e place (10 ∷ rest) is.0 is.1 refl)
instr_complete (Call r name arguments) rest is = ap in_line (list_complete register_reads name_reads low_reads Call r name arguments (10 ∷ rest) is.0 is.1 is.2 refl refl)
instr_complete (CallThrough r e result params arguments) rest is = ap in_line (call_through_complete r e (signature_of result params) arguments (10 ∷ rest) is.0 is.1 is.2 refl refl)
instr_complete (Return None) rest is = refl
instr_complete (Return (Some e)) rest is = ap in_line (one_complete low_reads (λ e. Return (Some e)) e (10 ∷ rest) is refl)
instr_complete (Assert name e) rest is = ap in_line (two_complete check_name_reads low_reads Assert name e (10 ∷ rest) is.0 is.1 refl)
instr_complete (Check name e) rest is = ap in_line (two_complete check_name_reads low_reads Check name e (10 ∷ rest) is.0 is.1 refl)
instr_complete (Assume e) rest is = ap in_line (one_complete low_reads Assume e (10 ∷ rest) is refl)
instr_complete (Require e) rest is = ap in_line (one_complete low_reads Require e (10 ∷ rest) is refl)
instr_complete Push rest is = refl
instr_complete Pop rest is = refl
instr_complete (Range tag e a n) rest is = ap in_line (four_complete number_reads low_reads low_reads low_reads Range tag e a n (10 ∷ rest) is.0 is.1 is.2 is.3 refl)
instr_complete (Target tag e p) rest is = ap in_line (three_complete number_reads low_reads low_reads Target tag e p (10 ∷ rest) is.0 is.1 is.2 refl)
instr_complete (Covers name a n) rest is = ap in_line (three_complete check_name_reads low_reads low_reads Covers name a n (10 ∷ rest) is.0 is.1 is.2 refl)
instr_complete (MayFree name p) rest is = ap in_line (two_complete check_name_reads low_reads MayFree name p (10 ∷ rest) is.0 is.1 refl)
instr_complete (Inside name tag) rest is = ap in_line (two_complete check_name_reads number_reads Inside name tag (10 ∷ rest) is.0 is.1 refl)
instr_complete Seen rest is = refl
instr_complete Havoc rest is = refl
instr_complete Frees rest is = refl
instr_complete Statics rest is = refl
instr_complete OutsideObjects rest is = ap in_line (one_complete sorts_read drawn_objects true (10 ∷ rest) tt refl)
instr_complete NewObjects rest is = ap in_line (one_complete sorts_read drawn_objects false (10 ∷ rest) tt refl)

-- Lines -------------------------------------------------------------------------------------------------------------

-- what is read behind the first word of a line
abbrev SaysLine : List ℕ → List ℕ → List ℕ → Line → Type 0
SaysLine word rest bytes line = (word ++ bytes ≡ line_text line ++ rest) × IsForm line

at_line : (word wanted rest bytes : List ℕ) (line : Line) → word ≡ wanted → SaysLine wanted rest bytes line → SaysLine word rest bytes line
at_line word wanted rest bytes line e h = (ap (λ w. w ++ bytes) e ∙ h.0, h.1)

form_sound : (word bytes rest : List ℕ) (line : Line) → read_form word bytes ≡ got line rest → SaysLine word rest bytes line
form_sound word bytes rest line h =
    by_word word (codes "dcc") _ _ (got line rest) (SaysLine word rest bytes line) h
    (λ w h. at_line word (codes "dcc") rest bytes line w (one_sound one_reads (λ one. Version) bytes rest line h (SaysLine (codes "dcc") rest) (λ one is. (refl, tt))))
    (λ h. by_word word (codes "function") _ _ (got line rest) (SaysLine word rest bytes line) h
    (λ w h. at_line word (codes "function") rest bytes line w (list_sound name_reads result_reads kind_reads function_line bytes rest line h (SaysLine (codes "function") rest) (λ name result params is ir ip. (refl, is))))
    (λ h. by_word word (codes "static") _ _ (got line rest) (SaysLine word rest bytes line) h
    (λ w h. at_line word (codes "static") rest bytes line w (two_sound name_reads number_reads static_line_of bytes rest line h (SaysLine (codes "static") rest) (λ name size is iz. (refl, (is, iz)))))
    (λ h. by_word word (codes "body") _ _ (got line rest) (SaysLine word rest bytes line) h
    (λ w h. at_line word (codes "body") rest bytes line w (three_sound body_name_reads number_reads number_reads opening_line bytes rest line h (SaysLine (codes "body") rest) (λ name params regs is ip ir. (refl, (is, ip, ir)))))
    (λ h. by_word word (codes "end") _ _ (got line rest) (SaysLine word rest bytes line) h
    (λ w h.
    let p = got_parts End line bytes rest h in
    subst (λ line. SaysLine word rest bytes line) p.0 (ap (λ w. w ++ bytes) w ∙ ap (λ r. codes "end" ++ r) p.1, tt))
    (λ h.
    let p = then_parts (read_instr word bytes) (λ i. got (Instruction i)) line rest h in
    let q = got_parts (Instruction p.value) line p.middle rest p.second in
    let s = instr_sound word bytes p.middle p.value p.first in
    subst (λ line. SaysLine word rest bytes line) q.0 (s.0 ∙ ap (λ r. instr_line p.value ++ r) q.1, s.1))))))

form_complete : (line : Line) (rest : List ℕ) → IsForm line → read_form (front_word (line_text line ++ (10 ∷ rest))) (behind_word (line_text line ++ (10 ∷ rest))) ≡ got line (10 ∷ rest)
form_complete Version rest is = one_complete one_reads (λ one. Version) tt (10 ∷ rest) tt refl
form_complete (Function sig) rest is = list_complete name_reads result_reads kind_reads function_line sig.name sig.result sig.params (10 ∷ rest) is tt (all_kinds sig.params) refl refl
  where
    all_kinds : (kinds : List NumKind) → AllByRecursion IsAny kinds
    all_kinds [] = tt
    all_kinds (k ∷ kinds) = (tt, all_kinds kinds)
form_complete (Static v) rest is = two_complete name_reads number_reads static_line_of v.name v.size (10 ∷ rest) is.0 is.1 refl
form_complete (Opening head) rest is = three_complete body_name_reads number_reads number_reads opening_line head.name head.params head.regs (10 ∷ rest) is.0 is.1 is.2 refl
form_complete (Instruction i) rest is = instr_complete i rest is
form_complete End rest is = refl

-- a line that is read is a line form, and these are its bytes
pub line_sound : (bytes rest : List ℕ) (line : Line) → read_line bytes ≡ got line rest → (bytes ≡ form_bytes line ++ rest) × IsForm line
line_sound bytes rest line h =
    let p = then_parts (read_form (front_word bytes) (behind_word bytes)) (λ line bytes. behind_byte 10 bytes (got line)) line rest h in
    let q = behind_parts 10 p.middle (got p.value) line rest p.second in
    let v = got_parts p.value line q.tail rest q.read in
    let s = form_sound (front_word bytes) (behind_word bytes) p.middle p.value p.first in
    let text : bytes ≡ form_bytes p.value ++ rest =
    sym (word_whole bytes) ∙ s.0 ∙ ap (λ l. line_text p.value ++ l) (q.whole ∙ ap (λ l. 10 ∷ l) v.1)
    ∙ sym (append_assoc (line_text p.value) (10 ∷ []) rest) in
    subst (λ line. (bytes ≡ form_bytes line ++ rest) × IsForm line) v.0 (text, s.1)

-- a line form is read from its bytes
pub line_complete : (line : Line) (rest : List ℕ) → IsForm line → read_line (form_bytes line ++ rest) ≡ got line rest
line_complete line rest is =
    ap read_line (append_assoc (line_text line) (10 ∷ []) rest)
    ∙ then_got (read_form (front_word (line_text line ++ (10 ∷ rest))) (behind_word (line_text line ++ (10 ∷ rest)))) (λ line bytes. behind_byte 10 bytes (got line)) line (10 ∷ rest) (form_complete line rest is)
