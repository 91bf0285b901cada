-- Which status the files lead to.
use Rattle.std.proofs.Common.{◌≡◌, ℕ, ◌<◌, ◌≤◌, ◌⊎◌, Bool, false, List, length, Option, Some, refl, sym, ap, subst, ◌∙◌, arith, inl, inr}
use Rattle.std.specs.Prelude.{flat_map, MatchOption}
use Rattle.dc_choice.specs.Reading.{Verdict, numbers}
use Rattle.dc_core.specs.Outcome.{Outcome}
use Rattle.dc_core.specs.Program.{Program}
use Rattle.dc_core.specs.Run.{contract_run, plain_report}
use Rattle.dc_form.specs.Form.{IsForm}
use Rattle.dc_form.proofs.Sourced.{one_program}
use Rattle.dc_goto.specs.Machine.{goto_run}
use Rattle.dc_goto.specs.Program.{GotoProgram}
use Rattle.dc_goto.specs.Shape.{IsGotoText}
use Rattle.dc_goto.proofs.Spelling.{no_formless, no_misshapen}
use Rattle.dc_goto.proofs.Spelling as spelling
use Rattle.dc_top.specs.Exactness.{Instruments}
use Rattle.dc_top.specs.Report.{has_failed}
use Rattle.dc_top.specs.Replaying.{IsSourceOf, GivesRun, Accepts, Given, TextFault, NoLine, NoShape, HasFault, ShortFault, ShortChoices, choices_line}
use Rattle.dc_top.specs.Table.{Asked, Text, Contract, Plain, Command, Instrument, Replay, enforced_of, enforced, Inputs, OfSource, source_limit, text_limit, choices_limit, limit_of}
use Rattle.dc_top.specs.declared.answer.Answer.{Answer}
use Rattle.dc_top.specs.declared.answer.Answer.TheVariants.{Output, Usage, Refused, BadText, BadChoices, ReadFault, Memory, TooLong}
use Rattle.dc_top.specs.Answers.{status_of, output_status, Says, HasOther, IsNoForm, RefusesSource, RefusesTextOf}
use Rattle.dc_top.specs.Top.{Holds, GivesSome, RefusableSource, FaultyText, FaultyTextOf, FaultyChoices, FaultyChoicesOf, LongFile, LongChoices, LongOf, AcceptedSource, AcceptedReplay, AcceptedOf}

-- whatever is said, it is memory or has this status, unless a file failed
abbrev pub Leads : Command → Inputs → ℕ → Type 0
Leads command inputs k =
    (answer : Answer) → Says command inputs answer → ((word : ℕ) → answer ≡ ReadFault word → ⊥) → (status_of answer ≡ 8) ⊎ (status_of answer ≡ k)

-- a fact of a file that is told and there
told : (source : Option (Option (List ℕ))) (bytes : List ℕ) (P : List ℕ → Type 0) → Holds source bytes → OfSource source P → P bytes
told source bytes P e h = subst (λ o. OfSource o P) e h

too_short : (n limit : ℕ) → n ≤ limit → limit < n → ⊥
too_short n limit short long = omega arith

-- Sources -----------------------------------------------------------------------------------------------------------

not_both : (bytes name : List ℕ) (p : Program) → IsForm bytes p → p.function.name ≡ name → HasOther bytes name → ⊥
not_both bytes name p form e h = h.other (ap (λ p. p.function.name) (one_program bytes h.program p h.form form) ∙ e)

-- a source that is refused is none
no_source : (bytes name : List ℕ) (p : Program) → IsForm bytes p → p.function.name ≡ name → IsNoForm bytes ⊎ HasOther bytes name → ⊥
no_source bytes name p form e cause = elim cause [ inl none ↦ none p form | inr other ↦ not_both bytes name p form e other ]

-- a source isn't refused by a line
no_refusal : (inputs : Inputs) (bytes name line : List ℕ) (p : Program) → Holds inputs.first bytes → IsSourceOf bytes name p → RefusesSource inputs line name → ⊥
no_refusal inputs bytes name line p there s r =
    elim r [
      | inl n ↦ (told inputs.first bytes (λ bytes. (length bytes ≤ source_limit) × IsNoForm bytes) there n.1).1 p s.form
      | inr o ↦ not_both bytes name p s.form s.enforced (told inputs.first bytes (λ bytes. (length bytes ≤ source_limit) × HasOther bytes name) there o.1).1
    ]

refusal_short : (inputs : Inputs) (bytes name line : List ℕ) → Holds inputs.first bytes → RefusesSource inputs line name → length bytes ≤ source_limit
refusal_short inputs bytes name line there r =
    elim r [
      | inl n ↦ (told inputs.first bytes (λ bytes. (length bytes ≤ source_limit) × IsNoForm bytes) there n.1).0
      | inr o ↦ (told inputs.first bytes (λ bytes. (length bytes ≤ source_limit) × HasOther bytes name) there o.1).0
    ]

-- Runs --------------------------------------------------------------------------------------------------------------

-- the bytes give one run
one_run : (asked : Asked) (bytes : List ℕ) (run other : ℕ → List ℕ → Outcome) → GivesRun asked bytes run → GivesRun asked bytes other → run ≡ other
one_run Text bytes run other g h =
    g.2 ∙ ap goto_run (spelling.one_program g.0 h.0 g.1.formed h.1.formed (sym g.1.spelt ∙ h.1.spelt)) ∙ sym h.2
one_run (Contract name) bytes run other g h = g.2 ∙ ap contract_run (one_program bytes g.0 h.0 g.1.form h.1.form) ∙ sym h.2
one_run (Plain name) bytes run other g h = g.2 ∙ ap plain_report (one_program bytes g.0 h.0 g.1.form h.1.form) ∙ sym h.2

-- bytes that give a run aren't refused as a source
run_no_source : (asked : Asked) (bytes name : List ℕ) (run : ℕ → List ℕ → Outcome) → enforced_of asked ≡ Some name → GivesRun asked bytes run → IsNoForm bytes ⊎ HasOther bytes name → ⊥
run_no_source Text bytes name run e g cause = cc
run_no_source (Contract m) bytes name run e g cause = no_source bytes name g.0 g.1.form (g.1.enforced ∙ some_name m name e) cause
  where
    some_name : (m n : List ℕ) → Some m ≡ Some n → m ≡ n
    some_name m n e = cc
run_no_source (Plain m) bytes name run e g cause = no_source bytes name g.0 g.1.form (g.1.enforced ∙ some_name m name e) cause
  where
    some_name : (m n : List ℕ) → Some m ≡ Some n → m ≡ n
    some_name m n e = cc

no_fault : (bytes : List ℕ) (program : GotoProgram) (fault : TextFault) → IsGotoText bytes program → HasFault bytes fault → ⊥
no_fault bytes program (NoLine k) text has = no_formless bytes program k text has
no_fault bytes program (NoShape k) text has = no_misshapen bytes program k text has

-- a first file that gives a run isn't refused
refuses_not : (asked : Asked) (inputs : Inputs) (line : List ℕ) → GivesSome asked inputs → MatchOption (enforced_of asked) ⊥ (RefusesSource inputs line) → ⊥
refuses_not Text inputs line g r = r
refuses_not (Contract name) inputs line g r = no_refusal inputs g.bytes name line g.accepts.gives.0 g.there g.accepts.gives.1 r
refuses_not (Plain name) inputs line g r = no_refusal inputs g.bytes name line g.accepts.gives.0 g.there g.accepts.gives.1 r

text_not : (asked : Asked) (inputs : Inputs) (line file choices : List ℕ) (steps : ℕ) → GivesSome asked inputs → RefusesTextOf (Replay asked file choices steps) inputs line → ⊥
text_not Text inputs line file choices steps g r =
    no_fault g.bytes g.accepts.gives.0 r.fault g.accepts.gives.1 (told inputs.first g.bytes (λ bytes. ShortFault bytes r.fault) g.there r.cause).has
text_not (Contract name) inputs line file choices steps g r = r
text_not (Plain name) inputs line file choices steps g r = r

-- Refusals of sources -----------------------------------------------------------------------------------------------

source_limits : (asked : Asked) (name : List ℕ) → enforced_of asked ≡ Some name → limit_of asked ≡ source_limit
source_limits Text name e = cc
source_limits (Contract m) name e = refl
source_limits (Plain m) name e = refl

source_no_text : (asked : Asked) (name : List ℕ) (inputs : Inputs) (line file choices : List ℕ) (steps : ℕ) → enforced_of asked ≡ Some name → RefusesTextOf (Replay asked file choices steps) inputs line → ⊥
source_no_text Text name inputs line file choices steps e r = cc
source_no_text (Contract m) name inputs line file choices steps e r = r
source_no_text (Plain m) name inputs line file choices steps e r = r

-- a refusable source gives no run
refusable_not : (asked : Asked) (name : List ℕ) (inputs : Inputs) → enforced_of asked ≡ Some name → RefusableSource inputs name → Given asked inputs → ⊥
refusable_not asked name inputs e r g = run_no_source asked r.bytes name g.run e (told inputs.first r.bytes (λ bytes. Accepts asked bytes g.run) r.there g.first).gives r.cause

refusable_replay : (asked : Asked) (name : List ℕ) (inputs : Inputs) (file choices : List ℕ) (steps : ℕ) → enforced_of asked ≡ Some name → RefusableSource inputs name → Leads (Replay asked file choices steps) inputs 3
refusable_replay asked name inputs file choices steps e r (Output lines failed) s none = absurd (refusable_not asked name inputs e r s.given)
refusable_replay asked name inputs file choices steps e r Usage s none = absurd s
refusable_replay asked name inputs file choices steps e r (Refused line) s none = inr refl
refusable_replay asked name inputs file choices steps e r (BadText line) s none = absurd (source_no_text asked name inputs line file choices steps e s)
refusable_replay asked name inputs file choices steps e r (BadChoices line) s none = absurd (refusable_not asked name inputs e r s.given)
refusable_replay asked name inputs file choices steps e r (ReadFault word) s none = absurd (none word refl)
refusable_replay asked name inputs file choices steps e r Memory s none = inl refl
refusable_replay asked name inputs file choices steps e r TooLong s none =
    elim s [
      | inl l ↦ absurd (too_short (length r.bytes) source_limit r.short (subst (λ limit. limit < length r.bytes) (source_limits asked name e) (told inputs.first r.bytes (λ bytes. limit_of asked < length bytes) r.there l)))
      | inr l ↦ absurd (refusable_not asked name inputs e r l.given)
    ]

pub refusable_leads : (command : Command) (inputs : Inputs) → MatchOption (enforced command) ⊥ (RefusableSource inputs) → Leads command inputs 3
refusable_leads (Instrument file name) inputs r (Output lines failed) s none =
    let i = (told inputs.first r.bytes (λ bytes. (length bytes ≤ source_limit) × Instruments bytes name (flat_map (λ line. line) lines)) r.there s.1).1 in
    absurd (no_source r.bytes name i.program i.form i.enforced r.cause)
refusable_leads (Instrument file name) inputs r Usage s none = absurd s
refusable_leads (Instrument file name) inputs r (Refused line) s none = inr refl
refusable_leads (Instrument file name) inputs r (BadText line) s none = absurd s
refusable_leads (Instrument file name) inputs r (BadChoices line) s none = absurd s
refusable_leads (Instrument file name) inputs r (ReadFault word) s none = absurd (none word refl)
refusable_leads (Instrument file name) inputs r Memory s none = inl refl
refusable_leads (Instrument file name) inputs r TooLong s none = absurd (too_short (length r.bytes) source_limit r.short (told inputs.first r.bytes (λ bytes. source_limit < length bytes) r.there s))
refusable_leads (Replay Text file choices steps) inputs r answer s none = absurd r
refusable_leads (Replay (Contract name) file choices steps) inputs r answer s none = refusable_replay (Contract name) name inputs file choices steps refl r answer s none
refusable_leads (Replay (Plain name) file choices steps) inputs r answer s none = refusable_replay (Plain name) name inputs file choices steps refl r answer s none

-- Faults of texts ---------------------------------------------------------------------------------------------------

faulty_not : (inputs : Inputs) → FaultyText inputs → Given Text inputs → ⊥
faulty_not inputs f g =
    let a = (told inputs.first f.bytes (λ bytes. Accepts Text bytes g.run) f.there g.first).gives in no_fault f.bytes a.0 f.fault a.1 f.has.has

faulty_text : (inputs : Inputs) (file choices : List ℕ) (steps : ℕ) → FaultyText inputs → Leads (Replay Text file choices steps) inputs 4
faulty_text inputs file choices steps f (Output lines failed) s none = absurd (faulty_not inputs f s.given)
faulty_text inputs file choices steps f Usage s none = absurd s
faulty_text inputs file choices steps f (Refused line) s none = absurd s
faulty_text inputs file choices steps f (BadText line) s none = inr refl
faulty_text inputs file choices steps f (BadChoices line) s none = absurd (faulty_not inputs f s.given)
faulty_text inputs file choices steps f (ReadFault word) s none = absurd (none word refl)
faulty_text inputs file choices steps f Memory s none = inl refl
faulty_text inputs file choices steps f TooLong s none =
    elim s [
      | inl l ↦ absurd (too_short (length f.bytes) text_limit f.has.short (told inputs.first f.bytes (λ bytes. text_limit < length bytes) f.there l))
      | inr l ↦ absurd (faulty_not inputs f l.given)
    ]

pub faulty_text_leads : (command : Command) (inputs : Inputs) → FaultyTextOf command inputs → Leads command inputs 4
faulty_text_leads (Instrument file name) inputs f answer s none = absurd f
faulty_text_leads (Replay Text file choices steps) inputs f answer s none = faulty_text inputs file choices steps f answer s none
faulty_text_leads (Replay (Contract name) file choices steps) inputs f answer s none = absurd f
faulty_text_leads (Replay (Plain name) file choices steps) inputs f answer s none = absurd f

-- Faults of choices -------------------------------------------------------------------------------------------------

no_line : (verdict : Verdict) (list line : List ℕ) → verdict ≡ numbers list → choices_line verdict ≡ Some line → ⊥
no_line verdict list line e l = let f = sym (ap choices_line e) ∙ l in cc

accepts_short : (asked : Asked) (inputs : Inputs) (g : GivesSome asked inputs) → OfSource inputs.first (λ bytes. limit_of asked < length bytes) → ⊥
accepts_short asked inputs g l = too_short (length g.bytes) (limit_of asked) g.accepts.short (told inputs.first g.bytes (λ bytes. limit_of asked < length bytes) g.there l)

faulty_choices : (asked : Asked) (inputs : Inputs) (file choices : List ℕ) (steps : ℕ) → FaultyChoices asked inputs → Leads (Replay asked file choices steps) inputs 5
faulty_choices asked inputs file choices steps f (Output lines failed) s none =
    absurd (no_line f.verdict s.list f.line (sym f.choices.judged_as ∙ (told inputs.second f.bytes (λ bytes. ShortChoices bytes (numbers s.list)) f.there s.choices).judged_as) f.refuses)
faulty_choices asked inputs file choices steps f Usage s none = absurd s
faulty_choices asked inputs file choices steps f (Refused line) s none = absurd (refuses_not asked inputs line f.first s)
faulty_choices asked inputs file choices steps f (BadText line) s none = absurd (text_not asked inputs line file choices steps f.first s)
faulty_choices asked inputs file choices steps f (BadChoices line) s none = inr refl
faulty_choices asked inputs file choices steps f (ReadFault word) s none = absurd (none word refl)
faulty_choices asked inputs file choices steps f Memory s none = inl refl
faulty_choices asked inputs file choices steps f TooLong s none =
    elim s [
      | inl l ↦ absurd (accepts_short asked inputs f.first l)
      | inr l ↦ absurd (too_short (length f.bytes) choices_limit f.choices.short (told inputs.second f.bytes (λ bytes. choices_limit < length bytes) f.there l.long))
    ]

pub faulty_choices_leads : (command : Command) (inputs : Inputs) → FaultyChoicesOf command inputs → Leads command inputs 5
faulty_choices_leads (Instrument file name) inputs f answer s none = absurd f
faulty_choices_leads (Replay asked file choices steps) inputs f answer s none = faulty_choices asked inputs file choices steps f answer s none

-- Files that are too long -------------------------------------------------------------------------------------------

given_short : (asked : Asked) (inputs : Inputs) → LongFile inputs.first (limit_of asked) → Given asked inputs → ⊥
given_short asked inputs l g = too_short (length l.bytes) (limit_of asked) (told inputs.first l.bytes (λ bytes. Accepts asked bytes g.run) l.there g.first).short l.long

refusal_not_long : (asked : Asked) (inputs : Inputs) (line : List ℕ) → LongFile inputs.first (limit_of asked) → MatchOption (enforced_of asked) ⊥ (RefusesSource inputs line) → ⊥
refusal_not_long Text inputs line l r = r
refusal_not_long (Contract name) inputs line l r = too_short (length l.bytes) source_limit (refusal_short inputs l.bytes name line l.there r) l.long
refusal_not_long (Plain name) inputs line l r = too_short (length l.bytes) source_limit (refusal_short inputs l.bytes name line l.there r) l.long

text_not_long : (asked : Asked) (inputs : Inputs) (line file choices : List ℕ) (steps : ℕ) → LongFile inputs.first (limit_of asked) → RefusesTextOf (Replay asked file choices steps) inputs line → ⊥
text_not_long Text inputs line file choices steps l r = too_short (length l.bytes) text_limit (told inputs.first l.bytes (λ bytes. ShortFault bytes r.fault) l.there r.cause).short l.long
text_not_long (Contract name) inputs line file choices steps l r = r
text_not_long (Plain name) inputs line file choices steps l r = r

long_first : (asked : Asked) (inputs : Inputs) (file choices : List ℕ) (steps : ℕ) → LongFile inputs.first (limit_of asked) → Leads (Replay asked file choices steps) inputs 9
long_first asked inputs file choices steps l (Output lines failed) s none = absurd (given_short asked inputs l s.given)
long_first asked inputs file choices steps l Usage s none = absurd s
long_first asked inputs file choices steps l (Refused line) s none = absurd (refusal_not_long asked inputs line l s)
long_first asked inputs file choices steps l (BadText line) s none = absurd (text_not_long asked inputs line file choices steps l s)
long_first asked inputs file choices steps l (BadChoices line) s none = absurd (given_short asked inputs l s.given)
long_first asked inputs file choices steps l (ReadFault word) s none = absurd (none word refl)
long_first asked inputs file choices steps l Memory s none = inl refl
long_first asked inputs file choices steps l TooLong s none = inr refl

long_second : (asked : Asked) (inputs : Inputs) (file choices : List ℕ) (steps : ℕ) → LongChoices asked inputs → Leads (Replay asked file choices steps) inputs 9
long_second asked inputs file choices steps l (Output lines failed) s none =
    absurd (too_short (length l.choices.bytes) choices_limit (told inputs.second l.choices.bytes (λ bytes. ShortChoices bytes (numbers s.list)) l.choices.there s.choices).short l.choices.long)
long_second asked inputs file choices steps l Usage s none = absurd s
long_second asked inputs file choices steps l (Refused line) s none = absurd (refuses_not asked inputs line l.first s)
long_second asked inputs file choices steps l (BadText line) s none = absurd (text_not asked inputs line file choices steps l.first s)
long_second asked inputs file choices steps l (BadChoices line) s none =
    absurd (too_short (length l.choices.bytes) choices_limit (told inputs.second l.choices.bytes (λ bytes. ShortChoices bytes s.refuses.verdict) l.choices.there s.refuses.cause).short l.choices.long)
long_second asked inputs file choices steps l (ReadFault word) s none = absurd (none word refl)
long_second asked inputs file choices steps l Memory s none = inl refl
long_second asked inputs file choices steps l TooLong s none = inr refl

pub long_leads : (command : Command) (inputs : Inputs) → LongOf command inputs → Leads command inputs 9
long_leads (Instrument file name) inputs l (Output lines failed) s none =
    absurd (too_short (length l.bytes) source_limit (told inputs.first l.bytes (λ bytes. (length bytes ≤ source_limit) × Instruments bytes name (flat_map (λ line. line) lines)) l.there s.1).0 l.long)
long_leads (Instrument file name) inputs l Usage s none = absurd s
long_leads (Instrument file name) inputs l (Refused line) s none = absurd (too_short (length l.bytes) source_limit (refusal_short inputs l.bytes name line l.there s) l.long)
long_leads (Instrument file name) inputs l (BadText line) s none = absurd s
long_leads (Instrument file name) inputs l (BadChoices line) s none = absurd s
long_leads (Instrument file name) inputs l (ReadFault word) s none = absurd (none word refl)
long_leads (Instrument file name) inputs l Memory s none = inl refl
long_leads (Instrument file name) inputs l TooLong s none = inr refl
long_leads (Replay asked file choices steps) inputs l answer s none =
    elim l [ inl first ↦ long_first asked inputs file choices steps first answer s none | inr second ↦ long_second asked inputs file choices steps second answer s none ]

-- What is accepted --------------------------------------------------------------------------------------------------

accepted_source : (inputs : Inputs) (file name : List ℕ) (failed : Bool) → failed ≡ false → AcceptedSource inputs name → Leads (Instrument file name) inputs (output_status failed)
accepted_source inputs file name failed e acc (Output lines other) s none = inr (ap output_status (s.0 ∙ sym e))
accepted_source inputs file name failed e acc Usage s none = absurd s
accepted_source inputs file name failed e acc (Refused line) s none = absurd (no_refusal inputs acc.bytes name line acc.program acc.there acc.source s)
accepted_source inputs file name failed e acc (BadText line) s none = absurd s
accepted_source inputs file name failed e acc (BadChoices line) s none = absurd s
accepted_source inputs file name failed e acc (ReadFault word) s none = absurd (none word refl)
accepted_source inputs file name failed e acc Memory s none = inl refl
accepted_source inputs file name failed e acc TooLong s none = absurd (too_short (length acc.bytes) source_limit acc.short (told inputs.first acc.bytes (λ bytes. source_limit < length bytes) acc.there s))

same_list : (a b : List ℕ) → numbers a ≡ numbers b → a ≡ b
same_list a b e = cc

accepted_replay : (asked : Asked) (inputs : Inputs) (file choices : List ℕ) (steps : ℕ) (failed : Bool) → AcceptedReplay asked inputs steps failed → Leads (Replay asked file choices steps) inputs (output_status failed)
accepted_replay asked inputs file choices steps failed acc (Output lines other) s none =
    let one = one_run asked acc.first.bytes s.given.run acc.first.run (told inputs.first acc.first.bytes (λ bytes. Accepts asked bytes s.given.run) acc.first.there s.given.first).gives acc.first.accepts.gives in
    let list = same_list s.list acc.list (sym (told inputs.second acc.bytes (λ bytes. ShortChoices bytes (numbers s.list)) acc.there s.choices).judged_as ∙ acc.choices.judged_as) in
    inr (ap output_status (s.failed_is ∙ ap (λ run. has_failed (run steps s.list).names) one ∙ ap (λ list. has_failed (acc.first.run steps list).names) list ∙ sym acc.failed_is))
accepted_replay asked inputs file choices steps failed acc Usage s none = absurd s
accepted_replay asked inputs file choices steps failed acc (Refused line) s none = absurd (refuses_not asked inputs line acc.first s)
accepted_replay asked inputs file choices steps failed acc (BadText line) s none = absurd (text_not asked inputs line file choices steps acc.first s)
accepted_replay asked inputs file choices steps failed acc (BadChoices line) s none =
    absurd (no_line s.refuses.verdict acc.list line (sym (told inputs.second acc.bytes (λ bytes. ShortChoices bytes s.refuses.verdict) acc.there s.refuses.cause).judged_as ∙ acc.choices.judged_as) s.refuses.line_is)
accepted_replay asked inputs file choices steps failed acc (ReadFault word) s none = absurd (none word refl)
accepted_replay asked inputs file choices steps failed acc Memory s none = inl refl
accepted_replay asked inputs file choices steps failed acc TooLong s none =
    elim s [
      | inl l ↦ absurd (accepts_short asked inputs acc.first l)
      | inr l ↦ absurd (too_short (length acc.bytes) choices_limit acc.choices.short (told inputs.second acc.bytes (λ bytes. choices_limit < length bytes) acc.there l.long))
    ]

pub accepted_leads : (command : Command) (inputs : Inputs) (failed : Bool) → AcceptedOf command inputs failed → Leads command inputs (output_status failed)
accepted_leads (Instrument file name) inputs failed acc answer s none = accepted_source inputs file name failed acc.0 acc.1 answer s none
accepted_leads (Replay asked file choices steps) inputs failed acc answer s none = accepted_replay asked inputs file choices steps failed acc answer s none
