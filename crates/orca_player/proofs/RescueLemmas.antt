-- What was done of the commands of a room: they were done, and what they led to was saved.
use Rattle.std.proofs.Common.{◌≡◌, ◌≢◌, ◌⊎◌, inl, inr, ℕ, Bool, true, false, List, [], ◌∷◌, ◌++◌, refl, sym, ◌∙◌, ap, append-nil, arith}
use Rattle.std.specs.Prelude.{◌||◌, if◌then◌else◌, fold, Option, Some, None, IfSome, Ok, Err, Result}
use Rattle.std.specs.List.{list_any}
use Rattle.std.proofs.lemmas.List.Folds.{list_any-append}
use Rattle.orca_base.specs.declared.command.Command.{Command}
use Rattle.orca_concert.specs.Concerts.{Concert, concert_course, stance_of}
use Rattle.orca_concert.specs.Silenced.{IsSilenced}
use Rattle.orca_concert.proofs.DeafLemmas.{concert_is_deaf}
use Rattle.orca_concert.proofs.EndingLemmas.{concert-silent}
use Rattle.orca_course.specs.Acts.{Act, AreMute, polls_in}
use Rattle.orca_course.specs.Acts.Act.{Learn, Save}
use Rattle.orca_course.specs.Answered.{is_file_fault, losses_of, no_outcomes, outcomes_by, outcomes_of}
use Rattle.orca_course.specs.Courses.{Course, afterwards, course, mapped}
use Rattle.orca_course.specs.Doing.{Does, Stance}
use Rattle.orca_course.specs.Standings.{Standing, notes_of}
use Rattle.orca_course.specs.Worlds.{AreCalled, Calls, Made, World, file_failed, inbox_failed, owing}
use Rattle.orca_course.specs.declared.ending.Stop.{Stop}
use Rattle.orca_course.specs.declared.item.Losses.{Losses}
use Rattle.orca_course.specs.declared.notes.Outcomes.{Outcomes}
use Rattle.orca_course.specs.declared.refused.NoMemory.{NoMemory}
use Rattle.orca_course.specs.declared.refused.NoMemory.TheVariants.{InSend, Elsewhere}
use Rattle.orca_course.proofs.ActLemmas.{lost-deaf, polls-deaf, polls_in-append}
use Rattle.orca_course.proofs.CallLemmas.{calls_owing, does_calls}
use Rattle.orca_course.proofs.DoingLemmas.{does_afterwards, does_afterwards_cut, does_longer, rests_mute}
use Rattle.orca_course.proofs.WorldLemmas.{lost_made, made_learn, made_none, made_owing, made_twice}
use Rattle.orca_cues.specs.declared.fault.ScriptFault.{ScriptFault}
use Rattle.orca_cues.specs.declared.source.Cue.{Cue}
use Rattle.orca_edit.specs.Obeying.{MachineState, piece_of}
use Rattle.orca_grid.specs.GridText.{text_of}
use Rattle.orca_reports.specs.Rescues.{Rescue, recovery_manner}
use Rattle.orca_trace.specs.Calls.{Call}
use Rattle.orca_words.specs.Requests.{Recovery}
use Rattle.orca_player.specs.Doing.{Came, CameBy, IsBlamed, ReadsBack, status_at}
use Rattle.orca_player.specs.Outlines.{Script, learnt_at, nothing, opening, planned_end, rescue_by, saved_course, saves_of, script_done, script_kept, script_saves, status_learnt}
use Rattle.orca_player.specs.declared.status.Status.{Status}
use Rattle.orca_player.specs.declared.status.Status.TheVariants.{Done, FileFault, Memory}
use Rattle.orca_player.proofs.CameLemmas.{IsKind, by, came_plain}
use Rattle.orca_player.proofs.CourseLemmas.{lost-concert, opened_elsewhere, opened_in_send, opened_silent, opened_whole}
use Rattle.orca_player.proofs.LeavingLemmas.{AreQuiet}

-- ---- whether the files have failed

or_false : (b : Bool) → (b || false) ≡ b
or_false true = refl
or_false false = refl

or_true : (b : Bool) → (b || true) ≡ true
or_true true = refl
or_true false = refl

or_assoc : (a b c : Bool) → ((a || b) || c) ≡ (a || (b || c))
or_assoc true b c = refl
or_assoc false b c = refl

unstored_by : (o : Outcomes) (call : Call)
    → (outcomes_by o call).unstored ≡ (o.unstored || is_file_fault call)
unfolding outcomes_by
unstored_by o call = grind (arith, or_false, or_true)

unstored_after : (calls : List Call) (o : Outcomes)
    → (fold outcomes_by o calls).unstored ≡ (o.unstored || list_any is_file_fault calls)
unstored_after [] o = sym (or_false o.unstored)
unstored_after (call ∷ calls) o =
    unstored_after calls (outcomes_by o call)
    ∙ (ap (λ (b : Bool). b || list_any is_file_fault calls) (unstored_by o call)
    ∙ or_assoc o.unstored (is_file_fault call) (list_any is_file_fault calls))

pub unstored_learnt : (x : World) → (losses_of x.calls).unstored ≡ file_failed x
unfolding outcomes_of
unstored_learnt x = unstored_after x.calls no_outcomes

front_false : (a b : Bool) → (a || b) ≡ false → a ≡ false
front_false true b is = absurd cc
front_false false b is = refl

-- files that have failed stay so
stored_before : {acts : List Act} {bill : ℕ} {x y : World} → Made acts bill x y
    → file_failed y ≡ false → file_failed x ≡ false
unfolding AreCalled
stored_before {x = x} made sound =
    let called = made.called in
    front_false (list_any is_file_fault x.calls) (list_any is_file_fault called.0)
    (sym (list_any-append is_file_fault x.calls called.0)
    ∙ (ap (list_any is_file_fault) (sym called.1) ∙ sound))

-- ---- how a recovery ends

-- files that have failed are blamed first
blamed_at : (planned : Status) (failed : Bool) (x y : World)
    → (file_failed y ≡ false → IsBlamed planned x y) → inbox_failed y ≡ inbox_failed x
    → failed ≡ file_failed y → IsBlamed (if failed then FileFault else planned) x y
blamed_at planned true x y blamed lost same = (lost, sym same)
blamed_at planned false x y blamed lost same = blamed (sym same)

-- where they have not, what is planned is blamed
blamed_planned : (wrong : Option ScriptFault) (end : Option Stop) (x y : World)
    → inbox_failed y ≡ inbox_failed x → (file_failed y ≡ false → file_failed x ≡ false)
    → file_failed y ≡ false → IsBlamed (planned_end wrong end) x y
blamed_planned wrong (Some stop) x y lost before sound = grind arith
blamed_planned None None x y lost before sound = lost
blamed_planned (Some fault) None x y lost before sound = (lost, sound ∙ sym (before sound))

blamed_learnt : (planned : Status) (came : Losses) (x y : World)
    → (file_failed y ≡ false → IsBlamed planned x y) → IsBlamed Done x y
    → inbox_failed y ≡ inbox_failed x → came.unstored ≡ file_failed y
    → IsBlamed (status_learnt planned came) x y
blamed_learnt Done came x y blamed done lost same = done
blamed_learnt planned came x y blamed done lost same = blamed_at planned came.unstored x y blamed lost same

-- ---- what is done last

learnt_is : (planned : Status) (came : Losses)
    → (learnt_at planned came ≡ []) ⊎ (learnt_at planned came ≡ Learn came ∷ [])
learnt_is Done came = inl refl
learnt_is planned came = inr refl

pub learnt_made : (planned : Status) (x : World) → Made (learnt_at planned (losses_of x.calls)) 0 x x
learnt_made planned x =
    elim (learnt_is planned (losses_of x.calls)) [
      | inl none ↦ rw none (made_none x)
      | inr one ↦ rw one (made_learn x)
    ]

-- nothing is sent, asked or done then
saved_by : (out text : List ℕ) (name : Option (List ℕ)) (script : Script) (more : List Act)
    (came : Losses) → (more ≡ []) ⊎ (more ≡ Learn came ∷ [])
    → AreQuiet ((Save out text ∷ script_saves name script) ++ more)
saved_by out text None script more came (inl none) =
    rw none (record { mute = tt; deaf = tt; commands = refl })
saved_by out text None script more came (inr one) =
    rw one (record { mute = tt; deaf = tt; commands = refl })
saved_by out text (Some name) script more came (inl none) =
    rw none (record { mute = tt; deaf = tt; commands = refl })
saved_by out text (Some name) script more came (inr one) =
    rw one (record { mute = tt; deaf = tt; commands = refl })

pub saved_quiet : (r : Recovery) (script : Script) (m : MachineState) (planned : Status)
    (came : Losses) → AreQuiet (saves_of r script m ++ learnt_at planned came)
saved_quiet r script m planned came =
    saved_by r.out _ r.script script (learnt_at planned came) came (learnt_is planned came)

saves_mute : (r : Recovery) (script : Script) (m : MachineState) → AreMute (saves_of r script m)
saves_mute r script m =
    rw append-nil at
    ((saved_by r.out (text_of (piece_of m).sheet) r.script script [] nothing.closing (inl refl)).mute)

-- ---- the outline

pub polls-rescue : (r : Recovery) (seed : ℕ) (commands : List Command) (wrong : Option ScriptFault)
    (came : Losses) (u : Standing) (c : Course (Concert Rescue) Stop) → polls_in c.acts ≡ []
    → polls_in (rescue_by r seed commands wrong came u c).course.acts ≡ []
unfolding rescue_by opening mapped afterwards
polls-rescue r seed commands wrong came u c none =
    let last = saved_course r seed commands wrong came c.ending c.state in
    let script = script_done seed commands c.ending c.state.kept in
    let quiet = saved_quiet r script c.state.standing.machine (planned_end wrong c.ending) came in
    polls_in-append c.acts last.acts ∙ rw (none, polls-deaf last.acts quiet.deaf) refl

kind_rescue : {status : Status} (r : Recovery) (seed : ℕ) (commands : List Command)
    (wrong : Option ScriptFault) (came : Losses) (u : Standing) (c : Course (Concert Rescue) Stop)
    → polls_in c.acts ≡ []
    → (status ≢ Memory → IfSome (script_kept r.script seed
    (Some (script_done seed commands c.ending c.state.kept).commands)) ReadsBack)
    → IsKind (rescue_by r seed commands wrong came u c) [] status
unfolding rescue_by opening
kind_rescue r seed commands wrong came u c none reads = record {
  polls = polls-rescue r seed commands wrong came u c none;
  few = omega arith;
  sized = tt;
  reads = reads;
  takes = λ other ends. tt;
}

-- ---- the commands of a rescue

abbrev stance : Stance (Concert Rescue)
stance = stance_of recovery_manner

-- memory was refused, where no note sounds
rescue_cut : (e : NoMemory) {s t : Concert Rescue} {m : ℕ} (n : ℕ)
    {c : Course (Concert Rescue) Status} {x y : World} → notes_of s.standing ≡ [] → m ≡ 0
    → notes_of t.standing ≡ [] → Does stance c s (owing m x) (Err e) t (owing n y)
    → Came (opening stance (λ end. end) s.standing c) x Memory y
rescue_cut InSend {s = s} n begins none silent cut =
    opened_in_send _ s.standing refl begins none n cut
rescue_cut Elsewhere {s = s} n begins none silent cut =
    opened_silent _ s.standing refl begins none n silent cut

module _ (r : Recovery) (seed : ℕ) (commands : List Command) (wrong : Option ScriptFault)
    (cues : List Cue) (s : Concert Rescue) where
  abbrev whole : Course (Concert Rescue) Stop
  whole = concert_course recovery_manner cues s

  abbrev next : Losses → Option Stop → Concert Rescue → Course (Concert Rescue) Status
  next came = saved_course r seed commands wrong came

  abbrev course_by : Losses → Course (Concert Rescue) Status
  course_by came = afterwards whole (next came)

  deaf : polls_in whole.acts ≡ []
  deaf = polls-deaf whole.acts (concert_is_deaf recovery_manner cues s)

  -- where it leads, no note sounds
  silent_after : (came : Losses) → notes_of (course_by came).state.standing ≡ []
  unfolding afterwards
  silent_after came = concert-silent recovery_manner cues s

  -- what matters of it is its course, and that what is saved reads back
  by_course : (came : Losses) {x y : World} {status : Status}
      → (status ≢ Memory → IfSome (script_kept r.script seed
      (Some (script_done seed commands whole.ending whole.state.kept).commands)) ReadsBack)
      → Came (opening stance (λ end. end) s.standing (course_by came)) x status y
      → CameBy (λ b. rescue_by r seed commands wrong b.closing s.standing whole) x status y
  unfolding rescue_by opening
  by_course came reads did =
      by (record nothing { closing = came })
      (kind_rescue r seed commands wrong came s.standing whole deaf reads)
      (came_plain (rescue_by r seed commands wrong came s.standing whole) did)

  by_refused : {x y : World}
      → Came (opening stance (λ end. end) s.standing (course_by nothing.closing)) x Memory y
      → CameBy (λ b. rescue_by r seed commands wrong b.closing s.standing whole) x Memory y
  by_refused did = by_course nothing.closing (λ other. absurd (other refl)) did

  -- all was done and saved
  saved_came : {t : Concert Rescue} → notes_of s.standing ≡ [] → {m : ℕ} → m ≡ 0 → (n : ℕ)
      {T : Type 0} {done : T} {end : Option Stop} {x y z : World}
      → Does stance whole s (owing m x) (Ok end) t (owing n y)
      → Calls {T = T} (saves_of r (script_done seed commands end t.kept) t.standing.machine) (Ok done) y z
      → Came (opening stance (λ end. end) s.standing (course_by (losses_of z.calls))) x
      (status_at (status_learnt (planned_end wrong end) (losses_of z.calls)) z) z
  saved_came {t = t} begins none n {end = end} {x = x} {y = y} {z = z} did calls =
      let came = losses_of z.calls in
      let planned = planned_end wrong end in
      let script = script_done seed commands end t.kept in
      let last = next came end t in
      let quiet = saved_quiet r script t.standing.machine planned came in
      let made : Made last.acts 0 y z = made_twice calls.called.0 (learnt_made planned z) in
      let more : Does stance last t (owing n y) (Ok (Some (status_learnt planned came))) t
      (owing n z) = record {
        did = record {
          made = made_owing n made;
          sated = calls.called.1;
          rests = rests_mute stance t t last.acts quiet.mute refl;
          state = refl;
          ending = refl;
        };
      } in
      let all = does_afterwards (next came) did more in
      let lost : inbox_failed z ≡ inbox_failed x =
      lost_made made ∙ (lost-deaf last.acts (inbox_failed y) quiet.deaf
      ∙ lost-concert recovery_manner cues s did.did.made) in
      let stored : file_failed z ≡ false → file_failed x ≡ false = λ sound.
      stored_before did.did.made (stored_before made sound) in
      opened_whole _ {c = course_by came} {s = s} {t = t} s.standing refl begins none n
      (status_learnt planned came) (silent_after came) refl
      (blamed_learnt planned came x z (blamed_planned wrong end x z lost stored) lost lost
      (unstored_learnt z)) all

  pub rescue_saved : {t : Concert Rescue} → notes_of s.standing ≡ [] → {m : ℕ} → m ≡ 0 → (n : ℕ)
      {T : Type 0} {done : T} {end : Option Stop} {x y z : World}
      → Does stance whole s (owing m x) (Ok end) t (owing n y)
      → Calls {T = T} (saves_of r (script_done seed commands end t.kept) t.standing.machine) (Ok done) y z
      → IfSome (script_kept r.script seed (Some (script_done seed commands end t.kept).commands)) ReadsBack
      → CameBy (λ b. rescue_by r seed commands wrong b.closing s.standing whole) x
      (status_at (status_learnt (planned_end wrong end) (losses_of z.calls)) z) z
  rescue_saved begins none n {z = z} did calls reads =
      by_course (losses_of z.calls) (λ other. rw (did.did.ending, did.did.state) reads)
      (saved_came begins none n did calls)

  -- memory was refused to the saves
  pub rescue_unsaved : {t : Concert Rescue} → notes_of s.standing ≡ [] → {m : ℕ} → m ≡ 0 → (n : ℕ)
      {T : Type 0} {end : Option Stop} (e : NoMemory) {x y z : World}
      → Does stance whole s (owing m x) (Ok end) t (owing n y)
      → Calls {T = T} (saves_of r (script_done seed commands end t.kept) t.standing.machine) (Err e) y z
      → CameBy (λ b. rescue_by r seed commands wrong b.closing s.standing whole) x Memory z
  rescue_unsaved {t = t} begins none n {end = end} e {y = y} {z = z} did calls =
      let came = nothing.closing in
      let saves = saves_of r (script_done seed commands end t.kept) t.standing.machine in
      let cut : Does stance (course {E = Status} saves 0 t) t (owing n y) (Err e) t (owing n z) =
      does_calls saves (Err e) (saves_mute r _ t.standing.machine) refl (calls_owing n (Err e) calls) in
      let longer : Does stance (next came end t) t (owing n y) (Err e) t (owing n z) =
      does_longer (learnt_at (planned_end wrong end) came, refl, omega arith) cut in
      by_refused (rescue_cut e n begins none
      (rw (← did.did.state) (concert-silent recovery_manner cues s))
      (does_afterwards (next came) did longer))

  -- memory was refused to the commands by a send, or elsewhere: then the notes that sound are ended
  pub rescue_in_send : {t : Concert Rescue} → notes_of s.standing ≡ [] → {m : ℕ} → m ≡ 0 → (n : ℕ)
      {x y : World} → Does stance whole s (owing m x) (Err InSend) t (owing n y)
      → CameBy (λ b. rescue_by r seed commands wrong b.closing s.standing whole) x Memory y
  rescue_in_send begins none n did =
      by_refused (opened_in_send _ s.standing refl begins none n
      (does_afterwards_cut (next nothing.closing) did))

  pub rescue_elsewhere : {t : Concert Rescue} → notes_of s.standing ≡ [] → {m : ℕ} → m ≡ 0
      → (n : ℕ) {T : Type 0} {x y z : World} (result : Result T NoMemory)
      → Does stance whole s (owing m x) (Err Elsewhere) t (owing n y)
      → IsSilenced false (Some t.standing) result y z
      → CameBy (λ b. rescue_by r seed commands wrong b.closing s.standing whole) x Memory z
  rescue_elsewhere begins none n result did silenced =
      by_refused (opened_elsewhere _ s.standing refl begins none n result
      (does_afterwards_cut (next nothing.closing) did) silenced)
