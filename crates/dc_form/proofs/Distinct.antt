-- A formed source's names are words and differ, and its sites differ; so a typed program that says it is sound.
use Rattle.std.proofs.Common.{◌≡◌, ℕ, suc, Bool, true, false, List, [], ◌∷◌, ◌++◌, Option, None, Some, refl, sym, ap, subst, ◌∙◌, arith, append_assoc}
use Rattle.std.specs.List.{list_any, AllByRecursion}
use Rattle.dc_core.specs.Program as plain
use Rattle.dc_core.specs.Whole.{Says}
use Rattle.dc_core.proofs.SoundSaid.{Ascend, IsNamed, said_is_sound}
use Rattle.dc_program.specs.Programs.{Program}
use Rattle.dc_program.specs.Sound.{Sound, NamesDiffer}
use Rattle.dc_text.specs.Words.{same, is_word}
use Rattle.dc_form.specs.Form.{is_new, AreNew, Source, Assignment, IsFormed, numbered, returned, program_of}
use Rattle.dc_form.specs.Read.Reading.{got}
use Rattle.dc_form.specs.Read.Source.{read_program, alone}
use Rattle.dc_form.proofs.Named.{equal_bytes, same_self, or_false, any_append, new_parts, new_split}
use Rattle.dc_form.proofs.Sound.{new_word, formed_is_sound}
use Rattle.dc_form.proofs.Sourced.{source_sound}

-- Names -----------------------------------------------------------------------------------------------------

same_back : (x y : List ℕ) → same y x ≡ false → same x y ≡ false
same_back x y h = by_test (same x y) refl
  where
    by_test : (t : Bool) → same x y ≡ t → t ≡ false
    by_test true e =
        let clash : false ≡ true = sym h ∙ ap (λ z. same y z) (equal_bytes x y e) ∙ same_self y in cc
    by_test false e = refl

-- no later name is one before it
later_apart : (ys names more : List (List ℕ)) (x : List ℕ) → AreNew (names ++ x ∷ more) ys → list_any (same x) ys ≡ false
later_apart [] names more x new = refl
later_apart (y ∷ ys) names more x new =
    let all = any_append (same y) names (x ∷ more) (new_parts (names ++ x ∷ more) y new.0).1 in
    let other = same_back x y (or_false (same y x) (list_any (same y) more) all.1).0 in
    rw other (later_apart ys names (more ++ y ∷ []) x (subst (λ l. AreNew l ys) (append_assoc names (x ∷ more) (y ∷ [])) new.1))

names_differ : (xs names rest : List (List ℕ)) → AreNew names (xs ++ rest) → NamesDiffer xs
names_differ [] names rest new = tt
names_differ (x ∷ xs) names rest new =
    ((any_append (same x) xs rest (later_apart (xs ++ rest) names [] x new.1)).0, names_differ xs (names ++ x ∷ []) rest new.1)

are_words : (xs names rest : List (List ℕ)) → AreNew names (xs ++ rest) → AllByRecursion (λ name. is_word name ≡ true) xs
are_words [] names rest new = tt
are_words (x ∷ xs) names rest new = (new_word names x new.0, are_words xs (names ++ x ∷ []) rest new.1)

-- Sites -----------------------------------------------------------------------------------------------------

numbers_ascend : (n : ℕ) (body : List Assignment) (value : Option plain.Expr) → Ascend n (numbered n body ++ returned value)
numbers_ascend n [] None = tt
numbers_ascend n [] (Some e) = tt
numbers_ascend n (a ∷ body) value = (omega arith, numbers_ascend (suc n) body value)

-- Sources ---------------------------------------------------------------------------------------------------

formed_is_named : (s : Source) → IsFormed s → IsNamed (program_of s)
formed_is_named s formed =
    let last = (new_split s.statics [] (s.name ∷ s.params) formed.names).1 in
    record {
      word = new_word s.statics s.name last.0;
      words = are_words s.statics [] (s.name ∷ s.params) formed.names;
      differ = ((new_parts s.statics s.name last.0).1, names_differ s.statics [] (s.name ∷ s.params) formed.names);
      sites = numbers_ascend 1 s.body s.value;
    }

-- what was read to the end is sound, where a typed program says it
pub read_is_sound : (tokens rest : List (List ℕ)) (p : plain.Program) (w : Program) → read_program tokens ≡ got p rest → rest ≡ [] → Says p w → Sound w
read_is_sound tokens rest p w h e says =
    let r = source_sound tokens p (ap alone (h ∙ ap (got p) e)) in
    said_is_sound (program_of r.source) w (subst (λ p. Says p w) r.means says) (formed_is_sound r.source r.formed) (formed_is_named r.source r.formed)
