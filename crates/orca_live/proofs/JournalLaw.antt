-- A performance keeps its journal.
use Rattle.std.proofs.Common.{inl, ◌≡◌, ◌≢◌, ◌⊎◌, ℕ, zero, suc, arith, Bool, true, false, List, [], ◌∷◌, ◌++◌, refl, sym, ◌∙◌, ap, subst, append_assoc, append-nil}
use Rattle.std.specs.Prelude.{if◌then◌else◌, IfSome, Option, Some, None, unwrap_or}
use Rattle.std.specs.List.{flat_map}
use Rattle.std.specs.Option.{option_map}
use Rattle.std.specs.Str.{bytes_eq}
use Rattle.std.proofs.lemmas.Grind.{flat_map-append}
use Rattle.std.proofs.lemmas.Option.{same_Some}
use Rattle.std.proofs.lemmas.Slice.Eq.{bytes_eq-Decides}
use Rattle.orca_base.specs.declared.command.Command.TheVariants.{Frame}
use Rattle.orca_jam.specs.declared.owner.TheConstants.{NOBODY}
use Rattle.orca_base.specs.declared.command.Command.{Command}
use Rattle.orca_base.specs.MarkSet.{MarkSet}
use Rattle.orca_base.specs.Ports.{Sent}
use Rattle.orca_concert.specs.Concerts.{close_course as silence_course, command_course as obey_course, handed_of}
use Rattle.orca_course.specs.Acts.{Act, commands_in, gives}
use Rattle.orca_course.specs.Acts.Act.{Append, Await, Begin, Claim, Learn, Obey, Remove, Save, Show, Stand}
use Rattle.orca_course.specs.Courses.{Course, course, each, joined, lastly, lastly_by, mapped, onward, onward_by, still}
use Rattle.orca_course.specs.Performers.{Hearing, Turn, begun, finished, given_course, heard_turns, performance, turn_course}
use Rattle.orca_course.specs.Performers.Turn.{Asked, Given, Learned, Over}
use Rattle.orca_course.specs.Standings.{Standing, notes_of, standing_after, standing_closed}
use Rattle.orca_course.specs.declared.ending.Ending.{Ending}
use Rattle.orca_course.specs.declared.ending.Ending.TheVariants.{Stopped}
use Rattle.orca_course.specs.declared.item.Losses.{Losses}
use Rattle.orca_course.specs.declared.item.Item.TheVariants as item
use Rattle.orca_course.specs.declared.ending.Stop.{Stop}
use Rattle.orca_course.proofs.MidwayLemmas.{AreHeard, IsHeard, after_turn, all_heard}
use Rattle.orca_course.proofs.TurnLemmas.{AreInner, IsInner, inner_heard}
use Rattle.orca_edit.specs.Obeying.{obey}
use Rattle.orca_notes.specs.Sound.{ends}
use Rattle.orca_rig.specs.declared.inbox.Answer.{Answer}
use Rattle.orca_rig.specs.declared.inbox.Answer.TheVariants as answer
use Rattle.orca_script.specs.Canonical.{Extends, printed}
use Rattle.orca_script.specs.Runs.{printed_header}
use Rattle.orca_term.specs.Viewing.{painting_bytes}
use Rattle.orca_term.specs.declared.cell.Cell.{Cell}
use Rattle.orca_trace.specs.Calls.{Poll}
use Rattle.orca_live.specs.Carrying.{Carries, IsSavedName, finish_carried, later_carried, paint_carried}
use Rattle.orca_live.specs.Journals.{IsApart, JournalsPerformance, StartsSo, held_after, kept_text}
use Rattle.orca_live.specs.Performing.{finish_course, hand_course, header_course, hush_course, if_named, journal_course, knowing, last_grid_course, last_script_course, lines_course, live_part, noted, paint_course, picture_course, picture_for, preview_course, save_course, saves_course, script_course, show_course, take_course, view_acts, write_course}
use Rattle.orca_live.specs.States.{LiveState, Setting, begun_name, view_at}
use Rattle.orca_live.proofs.PaintLemmas.{paint_is}
use Rattle.orca_live.proofs.Carried.{Anyhow}

-- ---- acts after acts

-- what is held is a beginning of the text of the commands
abbrev Begun : List ℕ → Option (List ℕ) → List Command → Type 0
Begun start held given = IfSome held (λ text. Extends text (kept_text start given))

-- what a save or a begin, and an append, leave
abbrev saved : List ℕ → List ℕ → List ℕ → Option (List ℕ) → Option (List ℕ)
saved name other bytes held = if bytes_eq other name then Some bytes else held

abbrev added : List ℕ → List ℕ → List ℕ → Option (List ℕ) → Option (List ℕ)
added name other bytes held =
    if bytes_eq other name then option_map (λ before. before ++ bytes) held else held

-- wherever acts stop, what is held is a beginning of the text of the commands, and all of it where
-- the inbox is asked; and then this holds of what is held and of the commands
abbrev Journaled : List ℕ → List ℕ → (Option (List ℕ) → List Command → Type 0) → Option (List ℕ)
    → List Command → List Act → Type 0
Journaled name start after held given [] = after held given
Journaled name start after held given (Save other bytes ∷ acts) =
    Begun start held given × Journaled name start after (saved name other bytes held) given acts
Journaled name start after held given (Begin other bytes ∷ acts) =
    Begun start held given × Journaled name start after (saved name other bytes held) given acts
Journaled name start after held given (Append other bytes ∷ acts) =
    Begun start held given × Journaled name start after (added name other bytes held) given acts
Journaled name start after held given (Obey command ∷ acts) =
    Begun start held given × Journaled name start after held (given ++ command ∷ []) acts
Journaled name start after held given (Await poll ∷ acts) =
    (held ≡ Some (kept_text start given)) × Journaled name start after held given acts
Journaled name start after held given (Claim other bytes claimed ∷ acts) = ⊥
Journaled name start after held given (Remove other ∷ acts) = ⊥
Journaled name start after held given (_ ∷ acts) = Journaled name start after held given acts

module _ (name start : List ℕ) where
  journaled_twice : (some all : Option (List ℕ) → List Command → Type 0) (held : Option (List ℕ))
      (given : List Command) (xs ys : List Act) → Journaled name start some held given xs
      → ((held : Option (List ℕ)) (given : List Command) → some held given
      → Journaled name start all held given ys)
      → Journaled name start all held given (xs ++ ys)
  journaled_twice some all held given [] ys first second = second held given first
  journaled_twice some all held given (Save other bytes ∷ xs) ys first second =
      (first.0, journaled_twice some all (saved name other bytes held) given xs ys first.1 second)
  journaled_twice some all held given (Begin other bytes ∷ xs) ys first second =
      (first.0, journaled_twice some all (saved name other bytes held) given xs ys first.1 second)
  journaled_twice some all held given (Append other bytes ∷ xs) ys first second =
      (first.0, journaled_twice some all (added name other bytes held) given xs ys first.1 second)
  journaled_twice some all held given (Obey command ∷ xs) ys first second =
      (first.0, journaled_twice some all held _ xs ys first.1 second)
  journaled_twice some all held given (Await poll ∷ xs) ys first second =
      (first.0, journaled_twice some all held given xs ys first.1 second)
  journaled_twice some all held given (Claim other bytes claimed ∷ xs) ys first second = absurd first
  journaled_twice some all held given (Remove other ∷ xs) ys first second = absurd first
  journaled_twice some all held given (_ ∷ xs) ys first second =
      journaled_twice some all held given xs ys first second

  -- this holds at their beginning
  begun_first : (after : Option (List ℕ) → List Command → Type 0) (held : Option (List ℕ))
      (given : List Command) (acts : List Act)
      → ((held : Option (List ℕ)) (given : List Command) → after held given → Begun start held given)
      → Journaled name start after held given acts → Begun start held given
  begun_first after held given [] last journaled = last held given journaled
  begun_first after held given (Save other bytes ∷ acts) last journaled = journaled.0
  begun_first after held given (Begin other bytes ∷ acts) last journaled = journaled.0
  begun_first after held given (Append other bytes ∷ acts) last journaled = journaled.0
  begun_first after held given (Obey command ∷ acts) last journaled = journaled.0
  begun_first after held given (Await poll ∷ acts) last journaled =
      rw journaled.0 ([], sym (append-nil (kept_text start given)))
  begun_first after held given (Claim other bytes claimed ∷ acts) last journaled = absurd journaled
  begun_first after held given (Remove other ∷ acts) last journaled = absurd journaled
  begun_first after held given (_ ∷ acts) last journaled =
      begun_first after held given acts last journaled

  -- and after each beginning of them
  begun_front : (after : Option (List ℕ) → List Command → Type 0) (held : Option (List ℕ))
      (given : List Command) (xs ys : List Act)
      → ((held : Option (List ℕ)) (given : List Command) → after held given → Begun start held given)
      → Journaled name start after held given (xs ++ ys)
      → Begun start (held_after name held xs) (given ++ commands_in xs)
  begun_front after held given [] ys last journaled =
      rw append-nil (begun_first after held given ys last journaled)
  begun_front after held given (Save other bytes ∷ xs) ys last journaled =
      begun_front after (saved name other bytes held) given xs ys last journaled.1
  begun_front after held given (Begin other bytes ∷ xs) ys last journaled =
      begun_front after (saved name other bytes held) given xs ys last journaled.1
  begun_front after held given (Append other bytes ∷ xs) ys last journaled =
      begun_front after (added name other bytes held) given xs ys last journaled.1
  begun_front after held given (Obey command ∷ xs) ys last journaled =
      subst (Begun start (held_after name held xs))
      (append_assoc given (command ∷ []) (commands_in xs))
      (begun_front after held (given ++ command ∷ []) xs ys last journaled.1)
  begun_front after held given (Await poll ∷ xs) ys last journaled =
      begun_front after held given xs ys last journaled.1
  begun_front after held given (Claim other bytes claimed ∷ xs) ys last journaled = absurd journaled
  begun_front after held given (Remove other ∷ xs) ys last journaled = absurd journaled
  begun_front after held given (_ ∷ xs) ys last journaled =
      begun_front after held given xs ys last journaled

  -- where the inbox is asked, it is the text of all commands
  asked_front : (after : Option (List ℕ) → List Command → Type 0) (held : Option (List ℕ))
      (given : List Command) (xs ys : List Act) (poll : Poll)
      → Journaled name start after held given (xs ++ Await poll ∷ ys)
      → held_after name held xs ≡ Some (kept_text start (given ++ commands_in xs))
  asked_front after held given [] ys poll journaled = rw append-nil journaled.0
  asked_front after held given (Save other bytes ∷ xs) ys poll journaled =
      asked_front after (saved name other bytes held) given xs ys poll journaled.1
  asked_front after held given (Begin other bytes ∷ xs) ys poll journaled =
      asked_front after (saved name other bytes held) given xs ys poll journaled.1
  asked_front after held given (Append other bytes ∷ xs) ys poll journaled =
      asked_front after (added name other bytes held) given xs ys poll journaled.1
  asked_front after held given (Obey command ∷ xs) ys poll journaled =
      subst (λ commands. held_after name held xs ≡ Some (kept_text start commands))
      (append_assoc given (command ∷ []) (commands_in xs))
      (asked_front after held (given ++ command ∷ []) xs ys poll journaled.1)
  asked_front after held given (Await other ∷ xs) ys poll journaled =
      asked_front after held given xs ys poll journaled.1
  asked_front after held given (Claim other bytes claimed ∷ xs) ys poll journaled = absurd journaled
  asked_front after held given (Remove other ∷ xs) ys poll journaled = absurd journaled
  asked_front after held given (_ ∷ xs) ys poll journaled =
      asked_front after held given xs ys poll journaled

-- ---- what is held, and what waits

-- together they are the text of the commands
abbrev Waits : List ℕ → List ℕ → Option (List ℕ) → List Command → Type 0
Waits start lines held given =
    (text : List ℕ) × (held ≡ Some text) × (text ++ lines ≡ kept_text start given)

waits_begun : (start lines : List ℕ) (held : Option (List ℕ)) (given : List Command)
    → Waits start lines held given → Begun start held given
waits_begun start lines held given waits = rw waits.1 (lines, sym waits.2)

-- if nothing waits, what is held is all of it
waits_none : (start lines : List ℕ) (held : Option (List ℕ)) (given : List Command)
    → lines ≡ [] → Waits start lines held given → held ≡ Some (kept_text start given)
waits_none start lines held given none waits =
    let text = waits.0 in
    waits.1 ∙ ap Some (sym (append-nil text) ∙ (ap (λ more. text ++ more) (sym none) ∙ waits.2))

-- a command more
more_lines : (start text lines : List ℕ) (given : List Command) (command : Command)
    → text ++ lines ≡ kept_text start given
    → text ++ (lines ++ printed command) ≡ kept_text start (given ++ command ∷ [])
more_lines start text lines given command is =
    sym (append_assoc text lines (printed command))
    ∙ (ap (λ told. told ++ printed command) is
    ∙ (append_assoc (start) (flat_map printed given) (printed command)
    ∙ ap (λ more. start ++ more)
    (ap (λ last. flat_map printed given ++ last) (sym (append-nil (printed command)))
    ∙ sym (flat_map-append printed given (command ∷ [])))))

waits_more : (start name : List ℕ) (journal : Option (List ℕ)) (lines : List ℕ)
    (held : Option (List ℕ)) (given : List Command) (command : Command) → journal ≡ Some name
    → Waits start lines held given
    → Waits start (noted journal command lines) held (given ++ command ∷ [])
waits_more start name journal lines held given command kept waits =
    rw kept (waits.0, waits.1, more_lines start waits.0 lines given command waits.2)

-- ---- names

-- a name is itself
same_name : (name : List ℕ) → bytes_eq name name ≡ true
same_name name = grind (arith, bytes_eq-Decides)

-- what is saved is another file
apart_by : (name other grid : List ℕ) (save script : Option (List ℕ)) → name ≢ grid
    → IfSome save (λ other. name ≢ other) → IfSome script (λ other. name ≢ other)
    → (other ≡ unwrap_or save grid) ⊎ (save ≡ Some other) ⊎ (script ≡ Some other)
    → bytes_eq other name ≡ false
apart_by name other grid save script first second third saved = grind (arith, bytes_eq-Decides)

other_name : (name other : List ℕ) (set : Setting) → IsApart name set → IsSavedName other set
    → bytes_eq other name ≡ false
other_name name other set apart saved =
    apart_by name other set.grid set.save set.script apart.grid apart.save apart.script saved

-- ---- steps

-- acts of a performance with this setting keep the journal of this name
abbrev Writes : List ℕ → List ℕ → Setting → LiveState → List Act → LiveState → Type 0
Writes name start set s acts t =
    s.setting ≡ set → (t.setting ≡ set)
    × ((held : Option (List ℕ)) (given : List Command) → Waits start s.unwritten held given
    → Journaled name start (Waits start t.unwritten) held given acts)

-- messages are handed out, and then the run stands so
handed_writes : (name start : List ℕ) (after : Option (List ℕ) → List Command → Type 0)
    (held : Option (List ℕ)) (given : List Command) (sends : List Sent) (t : Standing)
    → after held given
    → Journaled name start after held given ((gives sends ++ Stand t ∷ []) ++ [])
handed_writes name start after held given [] t last = last
handed_writes name start after held given (sent ∷ sends) t last =
    handed_writes name start after held given sends t last

views_writes : (name start : List ℕ) (after : Option (List ℕ) → List Command → Type 0)
    (held : Option (List ℕ)) (given : List Command) (hand : ℕ) (bytes : List ℕ) (cells : List Cell)
    → after held given
    → Journaled name start after held given (view_acts hand bytes ++ Show hand cells ∷ [])
views_writes name start after held given hand [] cells last = last
views_writes name start after held given zero (byte ∷ bytes) cells last = last
views_writes name start after held given (suc hand) (byte ∷ bytes) cells last = last

-- a file is begun with the first line with a seed
abbrev begins_with : List ℕ → ℕ → LiveState → Course LiveState Stop
begins_with name seed s = course (Begin name (printed_header seed) ∷ []) 0 s

-- ---- turns

-- where no more is given of an answer no line waits
abbrev IsWritten : Option Answer → LiveState → Type 0
IsWritten None s = s.unwritten ≡ []
IsWritten (Some a) s = Unit {0}

module _ (name start : List ℕ) (set : Setting) (kept : set.journal ≡ Some name)
    (apart : IsApart name set) where
  writes_none : (s : LiveState) → Writes name start set s [] s
  writes_none s is = (is, λ held given waits. waits)

  writes_twice : (r s t : LiveState) (xs ys : List Act) → Writes name start set r xs s
      → Writes name start set s ys t → Writes name start set r (xs ++ ys) t
  writes_twice r s t xs ys first second is =
      let more = second (first is).0 in (
        more.0,
        λ held given waits.
            let some = Waits start s.unwritten in
            let all = Waits start t.unwritten in
            journaled_twice name start some all held given xs ys ((first is).1 held given waits)
            more.1,
      )

  writes_command : (who : ℕ) (command : Command) (s : LiveState)
      → Writes name start set s (hand_course who command s).acts (hand_course who command s).state
  unfolding hand_course obey_course onward mapped
  writes_command who command s is =
      let o = obey s.standing.machine command in (
        is,
        λ held given waits. (
          waits_begun start s.unwritten held given waits,
          handed_writes name start _ held (given ++ command ∷ []) (handed_of true o.messages)
              (standing_after s.standing o)
              (waits_more start name s.setting.journal s.unwritten held given command
              (ap (λ (set : Setting). set.journal) is ∙ kept) waits),
        ),
      )

  writes_close : (s : LiveState)
      → Writes name start set s (hush_course s).acts (hush_course s).state
  unfolding hush_course silence_course onward mapped
  writes_close s is = (
    is,
    λ held given waits.
        handed_writes name start (Waits start s.unwritten) held given
        (handed_of true (ends (notes_of s.standing))) (standing_closed s.standing) waits,
  )

  writes_save : (other bytes : List ℕ) (s : LiveState) → IsSavedName other s.setting
      → Writes name start set s (Save other bytes ∷ []) s
  writes_save other bytes s saved is = (
    is,
    λ held given waits. (
      waits_begun start s.unwritten held given waits,
      rw (other_name name other set apart (rw is at saved)) waits,
    ),
  )

  -- the lines that wait are added
  writes_append : (other : List ℕ) (byte : ℕ) (bytes : List ℕ) (s : LiveState)
      → s.setting.journal ≡ Some other → s.unwritten ≡ byte ∷ bytes
      → Writes name start set s (Append other (byte ∷ bytes) ∷ []) (record s { unwritten = [] })
  writes_append other byte bytes s named lines is =
      let same : name ≡ other =
      same_Some _ _ (sym kept ∙ (ap (λ (set : Setting). set.journal) (sym is) ∙ named)) in (
        is,
        λ held given waits.
            let told = rw lines at waits in
            let all = told.0 ++ byte ∷ bytes in (
              waits_begun start (byte ∷ bytes) held given told,
              rw (sym same, same_name name, told.1) (all, refl, append-nil all ∙ told.2),
            ),
      )

  writes_paint : (marks : List MarkSet) (hand : ℕ) (s : LiveState)
      → let c = picture_course marks hand s in Writes name start set s c.acts c.state
  unfolding picture_course
  writes_paint marks hand s is =
      let cells = picture_for hand marks s in
      let v = view_at hand s in (
        is,
        λ held given waits.
            views_writes name start (Waits start s.unwritten) held given hand
            (painting_bytes v.screen v.shown cells) cells waits,
      )

  writes_carries : Carries (Anyhow (Writes name start set))
  writes_carries = record {
    none = λ who s t alike is.
        (alike.setting ∙ is, λ held given waits. rw alike.unwritten waits);
    both = λ who end. writes_twice;
    leaves = λ who. writes_none;
    full = λ s is. writes_none s;
    command = λ hand command s other. writes_command hand command s;
    frame = λ s. writes_command NOBODY Frame s;
    struck = λ who hand key s is. (is, λ held given waits. waits);
    single = λ hand s writes. writes;
    denied = λ who hand denial s is. (is, λ held given waits. waits);
    kept = λ who hand bytes s. writes_save _ bytes s (inl refl);
    save = λ who. writes_save;
    append = λ who. writes_append;
    paint = λ who marks hand s is. writes_paint marks hand s;
    screen = λ who hand d s is same. (same, λ held given waits. waits);
  }

  -- ---- turns

  writes_turn : (turn : Turn) (a : Option Answer) (s : LiveState) → IsInner turn
      → IsHeard turn a → IsWritten a s
      → let c = turn_course live_part turn s in Writes name start set s c.acts c.state
  unfolding turn_course given_course mapped
  writes_turn (Asked poll) None s inner heard none = λ is. (
    is,
    λ held given waits. (waits_none start s.unwritten held given none waits, waits),
  )
  writes_turn (Asked poll) (Some a) s inner heard none = absurd heard
  writes_turn (Learned came) a s inner heard none = λ is. (is, λ held given waits. waits)
  writes_turn (Over ending) a s inner heard none = writes_none s
  writes_turn (Given i) a s inner heard none = later_carried writes_carries None i s inner

  -- where what was kept is written nothing waits
  written_by : (journal : Option (List ℕ)) (s : LiveState) → journal ≡ Some name
      → (if_named journal lines_course s).state.unwritten ≡ []
  unfolding lines_course
  written_by None s is = absurd cc
  written_by (Some other) s is = refl

  lines_written : (s : LiveState) → s.setting ≡ set → (write_course s).state.unwritten ≡ []
  unfolding write_course
  lines_written s is =
      written_by s.setting.journal s (ap (λ (set : Setting). set.journal) is ∙ kept)

  -- the pictures are nothing to what waits
  shown_written : (a : Option Answer) (came : Losses) (s : LiveState) → IsWritten a s
      → IsWritten a (show_course (knowing came s)).state
  unfolding show_course preview_course
  shown_written None came s none =
      ap (λ (u : LiveState). u.unwritten) (paint_is _ (knowing came s)).state ∙ none
  shown_written (Some a) came s none = tt

  turn_written : (turn : Turn) (a : Option Answer) (s : LiveState) → s.setting ≡ set
      → IsInner turn → IsHeard turn a → IsWritten a s
      → IsWritten (after_turn turn a) (turn_course live_part turn s).state
  unfolding turn_course given_course take_course mapped
  turn_written (Asked poll) a s is inner heard none = tt
  turn_written (Learned came) a s is inner heard none = none
  turn_written (Over ending) a s is inner heard none = none
  turn_written (Given item.Settle) a s is inner heard none = lines_written s is
  turn_written (Given (item.Over came)) a s is inner heard none =
      shown_written a came s none
  turn_written (Given item.Start) a s is inner heard none = absurd inner
  turn_written (Given (item.Open came)) a s is inner heard none = absurd inner
  turn_written (Given (item.Ended ending)) a s is inner heard none = absurd inner
  turn_written (Given i) None s is inner heard none = absurd heard
  turn_written (Given i) (Some a) s is inner heard none = tt

  turns_by : (end : Option Ending) (c : Course LiveState Ending) (turns : List Turn)
      (s : LiveState) → Writes name start set s c.acts c.state
      → (c.state.setting ≡ set → let d = each (turn_course live_part) turns c.state in
      Writes name start set c.state d.acts d.state)
      → let e = onward_by end c (each (turn_course live_part) turns) in
      Writes name start set s e.acts e.state
  turns_by None c turns s first more = λ is.
      let d = each (turn_course live_part) turns c.state in
      writes_twice s c.state d.state c.acts d.acts first (more (first is).0) is
  turns_by (Some e) c turns s first more = first

  writes_turns : (turns : List Turn) (a : Option Answer) (s : LiveState) → AreInner turns
      → AreHeard turns a → IsWritten a s
      → let c = each (turn_course live_part) turns s in Writes name start set s c.acts c.state
  unfolding each onward turn_course
  writes_turns [] a s inner heard none = writes_none s
  writes_turns (Over ending ∷ turns) a s inner heard none = writes_none s
  writes_turns (turn ∷ turns) a s inner heard none = λ is.
      let c = turn_course live_part turn s in
      turns_by c.ending c turns s (writes_turn turn a s inner.0 heard.0 none)
      (λ same. writes_turns turns (after_turn turn a) c.state inner.1 heard.1
      (turn_written turn a s is inner.0 heard.0 none)) is

  -- ---- a performance

  -- the first picture, and then other turns
  writes_first : (turns : List Turn) (s : LiveState) → AreInner turns → AreHeard turns None
      → s.unwritten ≡ []
      → let p = paint_course [] s in
      let c = each (turn_course live_part) turns p.state in
      Writes name start set s (p.acts ++ c.acts) c.state
  writes_first turns s inner heard none =
      let p = paint_course [] s in
      let c = each (turn_course live_part) turns p.state in
      writes_twice s p.state c.state p.acts c.acts (paint_carried writes_carries None [] s)
      (writes_turns turns None p.state inner heard
      (ap (λ (u : LiveState). u.unwritten) (paint_is [] s).state ∙ none))

  -- the journal begins first; a room has begun
  begins_by : Bool → LiveState → Course LiveState Stop
  begins_by true s = still s
  begins_by false s = begins_with name set.seed s

  named_is : (room : Bool) (s : LiveState) → s.setting ≡ set
      → if_named (if room then None else set.journal) header_course s ≡ begins_by room s
  unfolding header_course begins_by
  named_is true s is = refl
  named_is false s is =
      ap (λ (journal : Option (List ℕ)). if_named journal header_course s) kept
      ∙ ap (λ (seed : ℕ). begins_with name seed s) (ap (λ (set : Setting). set.seed) is)

  begins_goes : (room : Bool) (s : LiveState) (next : LiveState → Course LiveState Ending)
      → onward (mapped (λ t. t) (option_map Stopped) (begins_by room s)) next
      ≡ joined (begins_by room s) (next s)
  unfolding begins_by onward mapped
  begins_goes true s next = refl
  begins_goes false s next = refl

  start_is : (s : LiveState) → s.setting ≡ set → journal_course s ≡ begins_by set.room s
  unfolding journal_course
  start_is s is =
      ap (λ (of : Setting). if_named (begun_name of) header_course s) is ∙ named_is set.room s is

  -- after which the file holds its start
  start_journaled : (room : Bool) (held : Option (List ℕ)) (lines : List ℕ) (s : LiveState)
      (acts : List Act) → StartsSo room set.seed start held
      → Journaled name start (Waits start lines) (Some start) [] acts
      → Journaled name start (Waits start lines) held [] ((begins_by room s).acts ++ acts)
  unfolding begins_by
  start_journaled true held lines s acts starts journaled = rw starts journaled
  start_journaled false held lines s acts starts journaled =
      rw (starts.1, ← starts.0, same_name) (tt, journaled)

  begun_journaled : (s : LiveState) (opening : Losses) (heard : List Hearing) (held : Option (List ℕ))
      → s.setting ≡ set → s.unwritten ≡ [] → StartsSo set.room set.seed start held
      → let c = begun live_part s opening heard in
      (c.state.setting ≡ set)
      × Journaled name start (Waits start c.state.unwritten) held [] c.acts
  unfolding begun each turn_course given_course take_course onward mapped
  begun_journaled s opening heard held is none starts =
      let t = knowing opening s in
      let writes =
      writes_first (heard_turns heard) t (inner_heard heard) (all_heard heard) none is in
      let waits : Waits start t.unwritten (Some start) [] =
      (start, refl, ap (λ lines. start ++ lines) none) in
      let p = paint_course [] t in
      let c = each (turn_course live_part) (heard_turns heard) p.state in
      rw (start_is s is, begins_goes set.room s, (paint_is [] t).goes) (
        writes.0,
        start_journaled set.room held c.state.unwritten s (Learn opening ∷ p.acts ++ c.acts) starts
            (writes.1 (Some start) [] waits),
      )

  lastly_journaled : (end : Option Ending) (c : Course LiveState Ending) (held : Option (List ℕ))
      → c.state.setting ≡ set
      → Journaled name start (Waits start c.state.unwritten) held [] c.acts
      → let d = lastly_by end c (finished live_part) in
      Journaled name start (Waits start d.state.unwritten) held [] d.acts
  unfolding finished take_course mapped
  lastly_journaled None c held is journaled = journaled
  lastly_journaled (Some e) c held is journaled =
      let last = finish_carried writes_carries (λ who. writes_close) None c.state is in
      journaled_twice name start (Waits start c.state.unwritten)
      (Waits start (finish_course c.state).state.unwritten) held [] c.acts
      (finish_course c.state).acts journaled last.1

  -- at the end nothing waits
  finish_written : (s : LiveState) → s.setting ≡ set → (finish_course s).state.unwritten ≡ []
  unfolding finish_course hush_course silence_course write_course lines_course saves_course last_grid_course last_script_course save_course script_course onward mapped
  finish_written s is = rw (is, kept) (grind arith)

  last_written : (end : Option Ending) (c : Course LiveState Ending) → c.state.setting ≡ set
      → (lastly_by end c (finished live_part)).ending ≢ None
      → (lastly_by end c (finished live_part)).state.unwritten ≡ []
  unfolding finished take_course mapped
  last_written None c is ends = absurd (ends refl)
  last_written (Some e) c is ends = finish_written c.state is

pub journals_performance : JournalsPerformance
unfolding performance lastly
journals_performance s came heard name start held kept apart none starts =
    let c = begun live_part s came heard in
    let first = begun_journaled name start s.setting kept apart s came heard held refl none starts in
    let d = performance live_part s came heard in
    let all = lastly_journaled name start s.setting kept apart c.ending c held first.0 first.1 in
    let after = Waits start d.state.unwritten in
    record {
      asked = λ xs ys poll is.
          asked_front name start after held [] xs ys poll
          (subst (Journaled name start after held []) is all);
      begun = λ xs ys is.
          begun_front name start after held [] xs ys
          (λ held given waits. waits_begun start d.state.unwritten held given waits)
          (subst (Journaled name start after held []) is all);
      -- as if the inbox were asked once more
      ended = λ ends.
          asked_front name start (λ held given. Unit {0}) held [] d.acts []
          (record { until = None; answer = answer.End; bytes = [] })
          (journaled_twice name start after (λ held given. Unit {0}) held [] d.acts _ all
          (λ held given waits. (
            waits_none start d.state.unwritten held given
                (last_written name start s.setting kept apart c.ending c first.0 ends) waits,
            tt,
          )));
    }
