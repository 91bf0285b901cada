-- What the notes of a whole run come to.
use Rattle.std.proofs.Common.{◌≡◌, ℕ, List, [], ◌∷◌, ◌++◌, map, Option, Some, None, refl, ap, sym, ◌∙◌, append_assoc, append-nil}
use Rattle.std.specs.Prelude.{flat_map, IfSome}
use Rattle.dc_core.specs.Event as plain
use Rattle.dc_core.specs.Outcome.{Outcome}
use Rattle.dc_core.specs.Run.{Note, Did, Failed, event_of, name_of}
use Rattle.dc_text.specs.Counted.{all_counted}
use Rattle.dc_choice.specs.Chosen.{Used}
use Rattle.dc_choice.specs.Heard.{Record, hears, hears_all}
use Rattle.dc_world.specs.Told.{Supply, IsTaken, Hearing, noted, told, spoken}
use Rattle.dc_world.specs.Reported.{dry_at, IsCutShort}

pub told-failed : (notes : List Note) (h : Hearing) → (told notes h).failed ≡ h.failed ++ flat_map name_of notes
told-failed [] h = sym (append-nil h.failed)
told-failed (Did event ∷ notes) h = told-failed notes (noted (Did event) h)
told-failed (Failed name ∷ notes) h = told-failed notes (noted (Failed name) h) ∙ append_assoc h.failed (name ∷ []) (flat_map name_of notes)

pub told-counts : (notes : List Note) (h : Hearing) → (told notes h).counts ≡ all_counted (map spoken (flat_map event_of notes)) h.counts
told-counts [] h = refl
told-counts (Did event ∷ notes) h = told-counts notes (noted (Did event) h)
told-counts (Failed name ∷ notes) h = told-counts notes (noted (Failed name) h)

pub hears-nothing : (rs : List Record) → rs ≡ map (hears_all []) rs
hears-nothing [] = refl
hears-nothing (r ∷ rs) = ap (λ l. r ∷ l) (hears-nothing rs)

hears-map : (es : List plain.Event) (e : plain.Event) (rs : List Record) → map (hears_all (map spoken es)) (map (hears (spoken e)) rs) ≡ map (hears_all (map spoken (e ∷ es))) rs
hears-map es e [] = refl
hears-map es e (r ∷ rs) = ap (λ l. hears_all (map spoken es) (hears (spoken e) r) ∷ l) (hears-map es e rs)

pub told-records : (notes : List Note) (h : Hearing) → (told notes h).records ≡ map (hears_all (map spoken (flat_map event_of notes))) h.records
told-records [] h = hears-nothing h.records
told-records (Did event ∷ notes) h = told-records notes (noted (Did event) h) ∙ hears-map (flat_map event_of notes) event h.records
told-records (Failed name ∷ notes) h = told-records notes (noted (Failed name) h)

pub told-parts : (notes : List Note) (h : Hearing) → (told notes h).parts ≡ h.parts
told-parts [] h = refl
told-parts (Did event ∷ notes) h = told-parts notes (noted (Did event) h)
told-parts (Failed name ∷ notes) h = told-parts notes (noted (Failed name) h)

pub events-append : (xs ys : List Note) → flat_map event_of (xs ++ ys) ≡ flat_map event_of xs ++ flat_map event_of ys
events-append [] ys = refl
events-append (x ∷ xs) ys = ap (λ l. event_of x ++ l) (events-append xs ys) ∙ sym (append_assoc (event_of x) (flat_map event_of xs) (flat_map event_of ys))

-- nothing was taken and nothing told
pub cut_at_once : (run : List ℕ → Outcome) (left : Option (List ℕ)) (records : List Record) → Used left left [] → IsCutShort run left left records records
cut_at_once run left records u = record { numbers = []; events = []; front = λ rest. ((run rest).events, refl); taken = u; heard = hears-nothing records }

-- where no number came, none is left
pub none_left : (end : plain.End) (numbers : List ℕ) (s s' : Supply) → IsTaken numbers (dry_at end) s s' → end ≡ plain.ChoicesEnded → IfSome s'.left (λ rest. rest ≡ [])
none_left end numbers s s' taken e = taken.ended (ap dry_at e)

-- a run on the numbers that it took is the run on all that were to come
pub run-whole : (run : List ℕ → Outcome) (end : plain.End) (used : List ℕ) (left left' : Option (List ℕ)) → Used left left' used
    → (end ≡ plain.ChoicesEnded → IfSome left' (λ rest. rest ≡ []))
    → ((rest : List ℕ) → (end ≡ plain.ChoicesEnded → rest ≡ []) → run (used ++ rest) ≡ run used)
    → IfSome left (λ list. run list ≡ run used)
run-whole run end used None None u ended longer = tt
run-whole run end used None (Some rest) u ended longer = tt
run-whole run end used (Some list) None u ended longer = absurd u
run-whole run end used (Some list) (Some rest) u ended longer = ap run u ∙ longer rest ended
