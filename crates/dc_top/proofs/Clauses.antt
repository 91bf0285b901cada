-- What follows from an answer that is right and delivered.
use Rattle.std.proofs.Common.{◌≡◌, ℕ, ◌⊎◌, Bool, true, false, List, [], refl, sym, ap, subst, ◌∙◌, arith, inl, inr}
use Rattle.std.specs.Prelude.{IfSome, flat_map, ◌≢◌}
use Rattle.dc_outside.specs.Counts.{Rose}
use Rattle.dc_top.specs.Table.{Command, Instrument, Replay, HasRow, Names, NamesInput, Inputs}
use Rattle.dc_top.specs.declared.answer.Answer.{Answer}
use Rattle.dc_top.specs.declared.answer.Answer.TheVariants.{Output, Usage, Refused, BadText, BadChoices, ReadFault, Memory, TooLong}
use Rattle.dc_top.specs.Answers.{status_of, output_status, is_output, line_of, output_of, Says, Justifies, ComesTo, TellsFaults}
use Rattle.dc_top.specs.Delivery.{Sunk, Gained, Faulted, IsWhole, IsOutFault, IsErrFault}
use Rattle.dc_top.specs.Top.{Answered, fixed_line, IsWritten, IsRefused, IsBadText, IsBadChoices, IsUnread, IsTooLong, IsCutOff, IsUnsaid, Gives, IsRefusable, IsFaultyText, IsFaultyChoices, IsLong, IsAccepted}
use Rattle.dc_top.proofs.Row.{one_command}
use Rattle.dc_top.proofs.Leads.{Leads, refusable_leads, faulty_text_leads, faulty_choices_leads, long_leads, accepted_leads}

abbrev bit : Bool → ℕ
bit false = 0
bit true = 1

comes_names : (command : Command) (inputs : Inputs) (word : ℕ) → ComesTo command inputs word → Names command word
comes_names (Instrument file name) inputs word c = c
comes_names (Replay asked file choices steps) inputs word c = elim c [ inl e ↦ inl e | inr e ↦ inr e.0 ]

module _ (words : List (List ℕ)) (inputs : Inputs) (before now : ℕ → ℕ) (out err : Sunk) (status : ℕ) (a : Answered words inputs before now out err status) where
  -- a status other than 7 is the answer's own
  own_status : status ≢ 7 → IsWhole a.answer status out err
  own_status n = elim a.how [ inl w ↦ w | inr f ↦ elim f [ inl o ↦ absurd (n o.status_is) | inr e ↦ absurd (n e.status_is) ] ]

  -- so is each number other than 7
  own : (k : ℕ) → k ≢ 7 → status ≡ k → IsWhole a.answer status out err
  own k n e = own_status (λ f. n (sym e ∙ f))

  -- a fault is that of a word that names a file
  fault_named : (answer : Answer) (word : ℕ) → answer ≡ ReadFault word → Justifies words inputs answer → NamesInput words word
  fault_named answer word e why =
      let said = subst (Justifies words inputs) e why in
      record { row = said.row; names = comes_names said.row.command inputs word said.says }

  pub others : (word : ℕ) → (NamesInput words word → ⊥) → now word ≡ before word
  others word none = a.faults.kept word (λ e. none (fault_named a.answer word e a.why))

  pub read_told : status ≢ 6 → status ≢ 7 → (word : ℕ) → now word ≡ before word
  read_told six seven word = a.faults.kept word (λ e. six ((own_status seven).status_is ∙ ap status_of e))

  pub write_told : status ≢ 7 → (out.count_now ≡ out.count_before) × (err.count_now ≡ err.count_before)
  write_told n = let w = own_status n in (w.output.kept, w.line.kept)

  zero_flag : (failed : Bool) → output_status failed ≡ 0 → failed ≡ false
  zero_flag false e = refl
  zero_flag true e = absurd (omega (arith, e))

  ten_flag : (failed : Bool) → output_status failed ≡ 10 → failed ≡ true
  ten_flag false e = absurd (omega (arith, e))
  ten_flag true e = refl

  output_written : (failed : Bool) (answer : Answer) → (k : ℕ) → (k ≡ 0) ⊎ (k ≡ 10) → ((other : Bool) → output_status other ≡ k → other ≡ failed) → status_of answer ≡ k → Justifies words inputs answer → Gained out (output_of answer) → IsWritten words inputs failed out
  output_written failed (Output lines other) k two flag e why gained =
      record { row = why.row; output = flat_map (λ line. line) lines; says = subst (λ failed. Says why.row.command inputs (Output lines failed)) (flag other e) why.says; gained = gained }
  output_written failed Usage k two flag e why gained = elim two [ inl z ↦ absurd (omega (arith, e, z)) | inr t ↦ absurd (omega (arith, e, t)) ]
  output_written failed (Refused line) k two flag e why gained = elim two [ inl z ↦ absurd (omega (arith, e, z)) | inr t ↦ absurd (omega (arith, e, t)) ]
  output_written failed (BadText line) k two flag e why gained = elim two [ inl z ↦ absurd (omega (arith, e, z)) | inr t ↦ absurd (omega (arith, e, t)) ]
  output_written failed (BadChoices line) k two flag e why gained = elim two [ inl z ↦ absurd (omega (arith, e, z)) | inr t ↦ absurd (omega (arith, e, t)) ]
  output_written failed (ReadFault word) k two flag e why gained = elim two [ inl z ↦ absurd (omega (arith, e, z)) | inr t ↦ absurd (omega (arith, e, t)) ]
  output_written failed Memory k two flag e why gained = elim two [ inl z ↦ absurd (omega (arith, e, z)) | inr t ↦ absurd (omega (arith, e, t)) ]
  output_written failed TooLong k two flag e why gained = elim two [ inl z ↦ absurd (omega (arith, e, z)) | inr t ↦ absurd (omega (arith, e, t)) ]

  pub written : status ≡ 0 → IsWritten words inputs false out
  written e = let w = own 0 (λ f. omega arith) e in output_written false a.answer 0 (inl refl) zero_flag (sym w.status_is ∙ e) a.why w.output.gained

  pub failed : status ≡ 10 → IsWritten words inputs true out
  failed e = let w = own 10 (λ f. omega arith) e in output_written true a.answer 10 (inr refl) ten_flag (sym w.status_is ∙ e) a.why w.output.gained

  no_two : (failed : Bool) (k : ℕ) → output_status failed ≡ k → k ≢ 0 → k ≢ 10 → ⊥
  no_two false k e zero ten = zero (sym e)
  no_two true k e zero ten = ten (sym e)

  two_usage : (answer : Answer) → status_of answer ≡ 2 → Justifies words inputs answer → HasRow words → ⊥
  two_usage (Output lines failed) e why = absurd (no_two failed 2 e (λ z. omega arith) (λ t. omega arith))
  two_usage Usage e why = why
  two_usage (Refused line) e why = absurd (omega arith)
  two_usage (BadText line) e why = absurd (omega arith)
  two_usage (BadChoices line) e why = absurd (omega arith)
  two_usage (ReadFault word) e why = absurd (omega arith)
  two_usage Memory e why = absurd (omega arith)
  two_usage TooLong e why = absurd (omega arith)

  pub usage : status ≡ 2 → HasRow words → ⊥
  usage e = let w = own 2 (λ f. omega arith) e in two_usage a.answer (sym w.status_is ∙ e) a.why

  three_refused : (answer : Answer) → status_of answer ≡ 3 → Justifies words inputs answer → Gained err (line_of answer) → IsRefused words inputs err
  three_refused (Refused line) e why gained = record { row = why.row; line = line; said = gained; cause = why.says }
  three_refused (Output lines failed) e why gained = absurd (no_two failed 3 e (λ z. omega arith) (λ t. omega arith))
  three_refused Usage e why gained = absurd (omega arith)
  three_refused (BadText line) e why gained = absurd (omega arith)
  three_refused (BadChoices line) e why gained = absurd (omega arith)
  three_refused (ReadFault word) e why gained = absurd (omega arith)
  three_refused Memory e why gained = absurd (omega arith)
  three_refused TooLong e why gained = absurd (omega arith)

  pub refused : status ≡ 3 → IsRefused words inputs err
  refused e = let w = own 3 (λ f. omega arith) e in three_refused a.answer (sym w.status_is ∙ e) a.why w.line.gained

  four_text : (answer : Answer) → status_of answer ≡ 4 → Justifies words inputs answer → Gained err (line_of answer) → IsBadText words inputs err
  four_text (BadText line) e why gained = record { row = why.row; line = line; said = gained; cause = why.says }
  four_text (Output lines failed) e why gained = absurd (no_two failed 4 e (λ z. omega arith) (λ t. omega arith))
  four_text Usage e why gained = absurd (omega arith)
  four_text (Refused line) e why gained = absurd (omega arith)
  four_text (BadChoices line) e why gained = absurd (omega arith)
  four_text (ReadFault word) e why gained = absurd (omega arith)
  four_text Memory e why gained = absurd (omega arith)
  four_text TooLong e why gained = absurd (omega arith)

  pub bad_text : status ≡ 4 → IsBadText words inputs err
  bad_text e = let w = own 4 (λ f. omega arith) e in four_text a.answer (sym w.status_is ∙ e) a.why w.line.gained

  five_choices : (answer : Answer) → status_of answer ≡ 5 → Justifies words inputs answer → Gained err (line_of answer) → IsBadChoices words inputs err
  five_choices (BadChoices line) e why gained = record { row = why.row; line = line; said = gained; cause = why.says }
  five_choices (Output lines failed) e why gained = absurd (no_two failed 5 e (λ z. omega arith) (λ t. omega arith))
  five_choices Usage e why gained = absurd (omega arith)
  five_choices (Refused line) e why gained = absurd (omega arith)
  five_choices (BadText line) e why gained = absurd (omega arith)
  five_choices (ReadFault word) e why gained = absurd (omega arith)
  five_choices Memory e why gained = absurd (omega arith)
  five_choices TooLong e why gained = absurd (omega arith)

  pub bad_choices : status ≡ 5 → IsBadChoices words inputs err
  bad_choices e = let w = own 5 (λ f. omega arith) e in five_choices a.answer (sym w.status_is ∙ e) a.why w.line.gained

  six_read : (answer : Answer) → status_of answer ≡ 6 → Justifies words inputs answer → TellsFaults answer before now → IsUnread words inputs before now
  six_read (ReadFault word) e why faults = record { row = why.row; word = word; comes = why.says; rose = faults.rose word refl }
  six_read (Output lines failed) e why faults = absurd (no_two failed 6 e (λ z. omega arith) (λ t. omega arith))
  six_read Usage e why faults = absurd (omega arith)
  six_read (Refused line) e why faults = absurd (omega arith)
  six_read (BadText line) e why faults = absurd (omega arith)
  six_read (BadChoices line) e why faults = absurd (omega arith)
  six_read Memory e why faults = absurd (omega arith)
  six_read TooLong e why faults = absurd (omega arith)

  pub read : status ≡ 6 → IsUnread words inputs before now
  read e = let w = own 6 (λ f. omega arith) e in six_read a.answer (sym w.status_is ∙ e) a.why a.faults

  nine_long : (answer : Answer) → status_of answer ≡ 9 → Justifies words inputs answer → IsTooLong words inputs
  nine_long TooLong e why = record { row = why.row; long = why.says }
  nine_long (Output lines failed) e why = absurd (no_two failed 9 e (λ z. omega arith) (λ t. omega arith))
  nine_long Usage e why = absurd (omega arith)
  nine_long (Refused line) e why = absurd (omega arith)
  nine_long (BadText line) e why = absurd (omega arith)
  nine_long (BadChoices line) e why = absurd (omega arith)
  nine_long (ReadFault word) e why = absurd (omega arith)
  nine_long Memory e why = absurd (omega arith)

  pub long : status ≡ 9 → IsTooLong words inputs
  long e = let w = own 9 (λ f. omega arith) e in nine_long a.answer (sym w.status_is ∙ e) a.why

  no_true : {A : Type 0} → false ≡ true → A
  no_true e = let h = ap bit e in absurd (omega (arith, h))

  cut_output : (answer : Answer) → Justifies words inputs answer → IsOutFault answer status out err → IsCutOff words inputs out err
  cut_output (Output lines failed) why o =
      record { fault = o.output.fault; row = why.row; failed = failed; output = flat_map (λ line. line) lines; says = why.says; gained = o.output.prefix; line = o.line }
  cut_output Usage why o = no_true o.whole
  cut_output (Refused line) why o = no_true o.whole
  cut_output (BadText line) why o = no_true o.whole
  cut_output (BadChoices line) why o = no_true o.whole
  cut_output (ReadFault word) why o = no_true o.whole
  cut_output Memory why o = no_true o.whole
  cut_output TooLong why o = no_true o.whole

  unsaid : IsErrFault a.answer status out err → IsUnsaid words inputs before now out err
  unsaid f = record { fault = f.line.fault; silent = f.output; answer = a.answer; no_output = f.no_output; why = a.why; faults = a.faults; line = f.line.prefix }

  not_seven : (answer : Answer) → status_of answer ≢ 7
  not_seven (Output lines failed) e = no_two failed 7 e (λ z. omega arith) (λ t. omega arith)
  not_seven Usage e = omega arith
  not_seven (Refused line) e = omega arith
  not_seven (BadText line) e = omega arith
  not_seven (BadChoices line) e = omega arith
  not_seven (ReadFault word) e = omega arith
  not_seven Memory e = omega arith
  not_seven TooLong e = omega arith

  pub cut_off : status ≡ 7 → IsCutOff words inputs out err ⊎ IsUnsaid words inputs before now out err
  cut_off e =
      elim a.how [
        | inl w ↦ absurd (not_seven a.answer (sym w.status_is ∙ e))
        | inr f ↦ elim f [ inl o ↦ inl (cut_output a.answer a.why o) | inr x ↦ inr (unsaid x) ]
      ]

  one_of : (answer : Answer) → status_of answer ≢ 0 → status_of answer ≢ 10 → status_of answer ≢ 2 → status_of answer ≢ 3 → status_of answer ≢ 4 → status_of answer ≢ 5 → status_of answer ≢ 6 → status_of answer ≢ 8 → status_of answer ≡ 9
  one_of (Output lines false) zero ten two three four five six eight = absurd (zero refl)
  one_of (Output lines true) zero ten two three four five six eight = absurd (ten refl)
  one_of Usage zero ten two three four five six eight = absurd (two refl)
  one_of (Refused line) zero ten two three four five six eight = absurd (three refl)
  one_of (BadText line) zero ten two three four five six eight = absurd (four refl)
  one_of (BadChoices line) zero ten two three four five six eight = absurd (five refl)
  one_of (ReadFault word) zero ten two three four five six eight = absurd (six refl)
  one_of Memory zero ten two three four five six eight = absurd (eight refl)
  one_of TooLong zero ten two three four five six eight = refl

  pub statuses : status ≢ 0 → status ≢ 10 → status ≢ 2 → status ≢ 3 → status ≢ 4 → status ≢ 5 → status ≢ 6 → status ≢ 7 → status ≢ 8 → status ≡ 9
  statuses zero ten two three four five six seven eight =
      let s = (own_status seven).status_is in
      s ∙ one_of a.answer (λ e. zero (s ∙ e)) (λ e. ten (s ∙ e)) (λ e. two (s ∙ e)) (λ e. three (s ∙ e)) (λ e. four (s ∙ e)) (λ e. five (s ∙ e)) (λ e. six (s ∙ e)) (λ e. eight (s ∙ e))

  output_status_of : (answer : Answer) → is_output answer ≡ true → (status_of answer ≡ 0) ⊎ (status_of answer ≡ 10)
  output_status_of (Output lines false) e = inl refl
  output_status_of (Output lines true) e = inr refl
  output_status_of Usage e = no_true e
  output_status_of (Refused line) e = no_true e
  output_status_of (BadText line) e = no_true e
  output_status_of (BadChoices line) e = no_true e
  output_status_of (ReadFault word) e = no_true e
  output_status_of Memory e = no_true e
  output_status_of TooLong e = no_true e

  -- an answer that has a line, whatever sink failed
  gives : (k : ℕ) → k ≢ 0 → k ≢ 10 → status_of a.answer ≡ k → Gives k status err
  gives k zero ten e =
      elim a.how [
        | inl w ↦ inl (w.status_is ∙ e)
        | inr f ↦ elim f [
          | inl o ↦ elim (output_status_of a.answer o.whole) [ inl z ↦ absurd (zero (sym e ∙ z)) | inr t ↦ absurd (ten (sym e ∙ t)) ]
          | inr x ↦ inr (x.status_is, x.line.fault)
        ]
      ]

  -- want of memory, or an answer of one status
  memory_or : (k : ℕ) → k ≢ 0 → k ≢ 10 → (status_of a.answer ≡ 8) ⊎ (status_of a.answer ≡ k) → (status ≡ 8) ⊎ Gives k status err
  memory_or k zero ten t =
      elim t [
        | inl m ↦ elim (gives 8 (λ f. omega arith) (λ f. omega arith) m) [ inl e ↦ inl e | inr f ↦ inr (inr f) ]
        | inr e ↦ inr (gives k zero ten e)
      ]

  usage_answer : (HasRow words → ⊥) → (answer : Answer) → Justifies words inputs answer → status_of answer ≡ 2
  usage_answer without Usage why = refl
  usage_answer without (Output lines failed) why = absurd (without why.row)
  usage_answer without (Refused line) why = absurd (without why.row)
  usage_answer without (BadText line) why = absurd (without why.row)
  usage_answer without (BadChoices line) why = absurd (without why.row)
  usage_answer without (ReadFault word) why = absurd (without why.row)
  usage_answer without Memory why = absurd (without why.row)
  usage_answer without TooLong why = absurd (without why.row)

  pub exactly_usage : (HasRow words → ⊥) → Gives 2 status err
  exactly_usage without = gives 2 (λ f. omega arith) (λ f. omega arith) (usage_answer without a.answer a.why)

  -- what the answer says of a row of the words
  says_of : (row : HasRow words) (answer : Answer) → Justifies words inputs answer → Says row.command inputs answer
  says_of row Usage why = absurd (why row)
  says_of row (Output lines failed) why = subst (λ c. Says c inputs (Output lines failed)) (one_command words why.row.command row.command why.row.row row.row) why.says
  says_of row (Refused line) why = subst (λ c. Says c inputs (Refused line)) (one_command words why.row.command row.command why.row.row row.row) why.says
  says_of row (BadText line) why = subst (λ c. Says c inputs (BadText line)) (one_command words why.row.command row.command why.row.row row.row) why.says
  says_of row (BadChoices line) why = subst (λ c. Says c inputs (BadChoices line)) (one_command words why.row.command row.command why.row.row row.row) why.says
  says_of row (ReadFault word) why = subst (λ c. Says c inputs (ReadFault word)) (one_command words why.row.command row.command why.row.row row.row) why.says
  says_of row Memory why = tt
  says_of row TooLong why = subst (λ c. Says c inputs TooLong) (one_command words why.row.command row.command why.row.row row.row) why.says

  -- no file failed
  no_fault : ((word : ℕ) → NamesInput words word → Rose (before word) (now word) → ⊥) → (word : ℕ) → a.answer ≡ ReadFault word → ⊥
  no_fault none word e = none word (fault_named a.answer word e a.why) (a.faults.rose word e)

  -- the answer is memory, or of the kind that the files lead to
  led : (row : HasRow words) (k : ℕ) → Leads row.command inputs k → ((word : ℕ) → NamesInput words word → Rose (before word) (now word) → ⊥) → (status_of a.answer ≡ 8) ⊎ (status_of a.answer ≡ k)
  led row k leads none = leads a.answer (says_of row a.answer a.why) (no_fault none)

  pub exactly_refused : IsRefusable words inputs → ((word : ℕ) → NamesInput words word → Rose (before word) (now word) → ⊥) → (status ≡ 8) ⊎ Gives 3 status err
  exactly_refused r none = memory_or 3 (λ f. omega arith) (λ f. omega arith) (led r.row 3 (refusable_leads r.row.command inputs r.cause) none)

  pub exactly_bad_text : IsFaultyText words inputs → ((word : ℕ) → NamesInput words word → Rose (before word) (now word) → ⊥) → (status ≡ 8) ⊎ Gives 4 status err
  exactly_bad_text r none = memory_or 4 (λ f. omega arith) (λ f. omega arith) (led r.row 4 (faulty_text_leads r.row.command inputs r.cause) none)

  pub exactly_bad_choices : IsFaultyChoices words inputs → ((word : ℕ) → NamesInput words word → Rose (before word) (now word) → ⊥) → (status ≡ 8) ⊎ Gives 5 status err
  exactly_bad_choices r none = memory_or 5 (λ f. omega arith) (λ f. omega arith) (led r.row 5 (faulty_choices_leads r.row.command inputs r.cause) none)

  pub exactly_long : IsLong words inputs → ((word : ℕ) → NamesInput words word → Rose (before word) (now word) → ⊥) → (status ≡ 8) ⊎ Gives 9 status err
  exactly_long r none = memory_or 9 (λ f. omega arith) (λ f. omega arith) (led r.row 9 (long_leads r.row.command inputs r.cause) none)

  pub complete : (failed : Bool) → IsAccepted words inputs failed → ((word : ℕ) → NamesInput words word → Rose (before word) (now word) → ⊥) → (Faulted out → ⊥) → (Faulted err → ⊥) → (status ≡ output_status failed) ⊎ (status ≡ 8)
  complete failed acc none o e =
      elim a.how [
        | inl w ↦ elim (led acc.row (output_status failed) (accepted_leads acc.row.command inputs failed acc.cause) none) [ inl m ↦ inr (w.status_is ∙ m) | inr z ↦ inl (w.status_is ∙ z) ]
        | inr f ↦ elim f [ inl x ↦ absurd (o x.output.fault) | inr x ↦ absurd (e x.line.fault) ]
      ]

  silent_output : (answer : Answer) → status_of answer ≢ 0 → status_of answer ≢ 10 → Gained out (output_of answer) → Gained out []
  silent_output (Output lines false) zero ten gained = absurd (zero refl)
  silent_output (Output lines true) zero ten gained = absurd (ten refl)
  silent_output Usage zero ten gained = gained
  silent_output (Refused line) zero ten gained = gained
  silent_output (BadText line) zero ten gained = gained
  silent_output (BadChoices line) zero ten gained = gained
  silent_output (ReadFault word) zero ten gained = gained
  silent_output Memory zero ten gained = gained
  silent_output TooLong zero ten gained = gained

  pub silent : status ≢ 0 → status ≢ 10 → status ≢ 7 → Gained out []
  silent zero ten seven =
      let w = own_status seven in silent_output a.answer (λ e. zero (w.status_is ∙ e)) (λ e. ten (w.status_is ∙ e)) w.output.gained

  line_fixed : (answer : Answer) → Gained err (line_of answer) → IfSome (fixed_line (status_of answer)) (Gained err)
  line_fixed (Output lines false) gained = gained
  line_fixed (Output lines true) gained = gained
  line_fixed Usage gained = gained
  line_fixed (Refused line) gained = tt
  line_fixed (BadText line) gained = tt
  line_fixed (BadChoices line) gained = tt
  line_fixed (ReadFault word) gained = gained
  line_fixed Memory gained = gained
  line_fixed TooLong gained = gained

  seven_line : (s : ℕ) → s ≡ 7 → IfSome (fixed_line s) (Gained err)
  seven_line s e = subst (λ s. IfSome (fixed_line s) (Gained err)) (sym e) tt

  pub line : IfSome (fixed_line status) (Gained err)
  line =
      elim a.how [
        | inl w ↦ subst (λ s. IfSome (fixed_line s) (Gained err)) (sym w.status_is) (line_fixed a.answer w.line.gained)
        | inr f ↦ elim f [ inl o ↦ seven_line status o.status_is | inr x ↦ seven_line status x.status_is ]
      ]
