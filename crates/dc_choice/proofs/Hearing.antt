-- Events heard one after another.
use Rattle.std.proofs.Common.{◌≡◌, ℕ, zero, suc, ◌+◌, ◌-◌, ◌<◌, ◌≤◌, List, [], ◌∷◌, ◌++◌, map, length, take, refl, ap, sym, ◌∙◌, arith, true, false, ltb, append_assoc, append-nil, length-append, ⊎_elim}
use Rattle.std.proofs.lemmas.Bool.Decides.{nat_tests}
use Rattle.std.proofs.lemmas.Bool.{cases_lt}
use Rattle.dc_text.specs.declared.event.Event.{Event}
use Rattle.dc_text.specs.Counted.{counted, all_counted, no_counts, raised_by}
use Rattle.dc_text.proofs.Raised.{raised_by-none, raised_by-counted, all_counted-raised}
use Rattle.dc_choice.specs.Heard.{Record, kept, hears, hears_all, told}

heard-append : (first second : List Event) (held : Record) → hears_all second (hears_all first held) ≡ hears_all (first ++ second) held
heard-append [] second held = refl
heard-append (event ∷ first) second held = heard-append first second (hears event held)

pub each_heard-none : (records : List Record) → map (hears_all []) records ≡ records
each_heard-none [] = refl
each_heard-none (held ∷ records) = ap (λ rest. held ∷ rest) (each_heard-none records)

pub each_heard-append : (first second : List Event) (records : List Record) → map (hears_all second) (map (hears_all first) records) ≡ map (hears_all (first ++ second)) records
each_heard-append first second [] = refl
each_heard-append first second (held ∷ records) =
    ap (λ one. one ∷ map (hears_all second) (map (hears_all first) records)) (heard-append first second held)
    ∙ ap (λ rest. hears_all (first ++ second) held ∷ rest) (each_heard-append first second records)

pub each_heard-event : (events : List Event) (event : Event) (records : List Record) → map (hears event) (map (hears_all events) records) ≡ map (hears_all (events ++ event ∷ [])) records
each_heard-event events event records = each_heard-append events (event ∷ []) records

kept-room : (room : ℕ) (heard : List Event) (event : Event) → length heard < room → kept room heard event ≡ heard ++ event ∷ []
kept-room room heard event h = let t : ltb (length heard) room ≡ true = grind (arith, nat_tests) in rw t refl

kept-full : (room : ℕ) (heard : List Event) (event : Event) → room ≤ length heard → kept room heard event ≡ heard
kept-full room heard event h = let t : ltb (length heard) room ≡ false = grind (arith, nat_tests) in rw t refl

take-none : (n : ℕ) (events : List Event) → n ≡ 0 → take n events ≡ []
take-none n events h = rw h refl

take-one : (n k : ℕ) (event : Event) (events : List Event) → n ≡ suc k → take n (event ∷ events) ≡ event ∷ take k events
take-one n k event events h = rw h refl

kept-take : (room : ℕ) (heard : List Event) (event : Event) (events : List Event)
    → kept room heard event ++ take (room - length (kept room heard event)) events ≡ heard ++ take (room - length heard) (event ∷ events)
kept-take room heard event events =
    ⊎_elim
    (λ h. rw (kept-room room heard event h, length-append heard (event ∷ []), append_assoc)
    (ap (λ l. heard ++ l) (sym (take-one (room - length heard) (room - (length heard + 1)) event events (omega arith)))))
    (λ h. rw (kept-full room heard event h) (ap (λ l. heard ++ l) (take-none _ events (omega arith) ∙ sym (take-none _ (event ∷ events) (omega arith)))))
    (cases_lt (length heard) room)

take-empty : (n : ℕ) → take {A = Event} n [] ≡ []
take-empty zero = refl
take-empty (suc n) = refl

nothing_more : (n : ℕ) (heard : List Event) → heard ++ take {A = Event} n [] ≡ heard
nothing_more n heard = rw take-empty (append-nil heard)

same_record : (r s : Record) → r.counts ≡ s.counts → r.room ≡ s.room → r.heard ≡ s.heard → r ≡ s
same_record r s a b c = rw (a, b, c) refl

-- hearing the events one by one is being told them at once
pub heard-told : (events : List Event) (held : Record) → hears_all events held ≡ told (all_counted events no_counts) events held
heard-told [] held = same_record _ _ (sym (raised_by-none held.counts)) refl (sym (nothing_more (held.room - length held.heard) held.heard))
heard-told (event ∷ events) held =
    heard-told events (hears event held)
    ∙ same_record _ _
    (raised_by-counted held.counts (all_counted events no_counts) event
    ∙ ap (raised_by held.counts) (sym (all_counted-raised events (counted event no_counts))))
    refl
    (kept-take held.room held.heard event events)

pub each_heard-told : (events : List Event) (records : List Record) → map (hears_all events) records ≡ map (told (all_counted events no_counts) events) records
each_heard-told events [] = refl
each_heard-told events (held ∷ records) =
    ap (λ one. one ∷ map (hears_all events) records) (heard-told events held)
    ∙ ap (λ rest. told (all_counted events no_counts) events held ∷ rest) (each_heard-told events records)
