-- A room in which a performance has kept its commands is recovered.
use Rattle.std.proofs.Common.{◌≡◌, ◌≢◌, ℕ, ◌+◌, ◌<◌, ◌^◌, Bool, true, false, List, [], ◌∷◌, ◌++◌, length, refl, sym, ◌∙◌, ap, append_assoc, append-nil, arith, map, ◌⊎◌, inl, inr, subst, ◌≤◌}
use Rattle.std.specs.Prelude.{All, Option, Some, None, IfSome, Ok, Err, Result, if◌then◌else◌, nat_le, nat_lt, codes, unwrap_or}
use Rattle.std.specs.Fmt.{decimal}
use Rattle.std.specs.List.{flat_map, list_all, list_any, AllByRecursion}
use Rattle.std.specs.Option.{option_map}
use Rattle.std.specs.Str.Lines.{lines}
use Rattle.std.proofs.lemmas.Bool.Decides.{nat_tests}
use Rattle.std.proofs.lemmas.Bool.{and_parts, leb-true}
use Rattle.std.proofs.lemmas.List.Elements.{All-cons, All-from_recursion, recursion_from_All}
use Rattle.orca_base.specs.Ascii.{line_feed}
use Rattle.orca_base.specs.Grids.{Sheet}
use Rattle.orca_base.specs.declared.command.Command.{Command}
use Rattle.orca_base.specs.declared.command.Reply.{Reply}
use Rattle.orca_base.specs.declared.command.Rule.{Rule}
use Rattle.orca_base.specs.declared.limits.TheConstants.{MAX_HISTORY}
use Rattle.orca_concert.specs.Concerts.{Concert, after_cue, command_course, concert_course, concert_with, cue_course, cues_course, final_course, halt_of, halted, last_course, obeyed_course, order_course, reported, saved_course, close_course}
use Rattle.orca_concert.specs.Manners.{Aside, silence}
use Rattle.orca_concert.proofs.EndingLemmas.{concert-standing}
use Rattle.orca_course.specs.Acts.{Act, commands_in, given}
use Rattle.orca_course.specs.Acts.Act.{Load, Obey, Save, Stand}
use Rattle.orca_course.specs.Courses.{Course, afterwards, each, keeping, mapped, onward}
use Rattle.orca_course.specs.Standings.{Standing, refusal_of, standing_after}
use Rattle.orca_course.specs.declared.ending.Stop.{Stop}
use Rattle.orca_course.specs.declared.item.Losses.{Losses}
use Rattle.orca_course.proofs.ActLemmas.{commands_in-append, given-append}
use Rattle.orca_cues.specs.Rooms.{room_parts, whole_lines}
use Rattle.orca_cues.specs.Scripts.{commands_of_cues, cue_asking, cues_asking, cues_of, first_fault, seed_in}
use Rattle.orca_cues.proofs.Parting.{IsInside, cut_none, whole_line}
use Rattle.orca_cues.proofs.Printed.{script2_read}
use Rattle.orca_cues.proofs.RoomLaw.{printed_parts}
use Rattle.orca_edit.specs.Obeying.{MachineState, Obeyed, machine_at_start, machine_closed, obey, piece_of}
use Rattle.orca_edit.specs.Pieces.{Piece}
use Rattle.orca_edit.proofs.FoldLemmas.{piece_after-closed}
use Rattle.orca_grid.specs.GridText.{text_of}
use Rattle.orca_grid.proofs.Printing.{text_of-read}
use Rattle.orca_live.specs.Hands.{after_commands}
use Rattle.orca_live.proofs.JournalReads.{read_all}
use Rattle.orca_reports.specs.Rescues.{Rescue, done_tells, one_more, recovery_manner, rescue_at_start}
use Rattle.orca_rooms.specs.Limits.{limit_given, limit_word, room_limit}
use Rattle.orca_rooms.specs.Sound.{sound_script}
use Rattle.orca_rooms.proofs.LimitLemmas.{limit_shown, limit_two}
use Rattle.orca_rooms.proofs.SoundLemmas.{sound_same}
use Rattle.orca_script.specs.Canonical.{HasValues, canonical, line_of, line_with, printed}
use Rattle.orca_script.specs.Format2.{reading2}
use Rattle.orca_script.specs.Runs.{canonical_header, printed_header, text_behind}
use Rattle.orca_script.specs.declared.format_2.Line.TheVariants.{Do}
use Rattle.orca_script.proofs.ReadsBack.{shown_line, spaced_shown}
use Rattle.orca_script.proofs.RunsReadBack.{script_reads_back}
use Rattle.orca_words.specs.Requests.{Recovery, Setup, Recover, request_of}
use Rattle.orca_player.specs.Outlines.{Heard, Outline, Script, grid_recovered, hush_acts, hushed, hushing, is_control, limit_line, loading, midi_line, opening, outline, preceded, recovered, recovery_outline, request_outline, rescue_by, room_start, saves_of, script_kept, script_recovered, script_saves, sound_recovered, standing_at}
use Rattle.orca_player.specs.Recoveries.{CanBeKept, IsRecovered, Recovers, limit_kept, room_text}
use Rattle.orca_player.specs.Takes.{saves_in}
use Rattle.orca_player.specs.declared.status.Status.TheVariants.{Done}
use Rattle.orca_player.proofs.RecoveryLemmas.{given-hush, quiet_acts, quiet-hush}
use Rattle.orca_player.proofs.SoftLemmas.{soft_done}

-- ---- commands, one on each line

-- the course of some commands: they are done, nothing is sent or saved, and nothing ends it
record AreObeyed (done : List Command) (c : Course (Concert Rescue) Stop) (s : Concert Rescue)
    : Type 0 where
  pub sends : given c.acts ≡ []
  pub saves : saves_in c.acts ≡ []
  pub commands : commands_in c.acts ≡ done
  pub machine : c.state.standing.machine ≡ after_commands done s.standing.machine
  pub strict : c.state.kept.strict ≡ s.kept.strict
  pub ends : c.ending ≡ None

saves-append : (xs ys : List Act) → saves_in (xs ++ ys) ≡ saves_in xs ++ saves_in ys
saves-append [] ys = refl
saves-append (x ∷ xs) ys = grind (arith, saves-append xs ys)

-- the rest of a cue is nothing, whether its command was refused or not
cue_by : (line : ℕ) (command : Command) (answer : Result Reply Rule) (s t : Concert Rescue)
    (c : Course (Concert Rescue) _)
    → c.acts ≡ Obey command ∷ Stand t.standing ∷ [] → c.state ≡ t
    → t.standing.machine ≡ (obey s.standing.machine command).machine
    → t.kept.strict ≡ s.kept.strict → c.ending ≡ halt_of (refusal_of answer) None
    → AreObeyed (command ∷ [])
    (mapped (λ u. u) after_cue (onward c (each (order_course recovery_manner line) []))) s
unfolding onward each mapped
cue_by line command (Ok reply) s t c acts state machine strict ends =
    rw ends (record {
      sends = rw acts refl;
      saves = rw acts refl;
      commands = rw acts refl;
      machine = rw state machine;
      strict = rw state strict;
      ends = refl;
    })
cue_by line command (Err rule) s t c acts state machine strict ends =
    rw ends (record {
      sends = rw acts refl;
      saves = rw acts refl;
      commands = rw acts refl;
      machine = rw state machine;
      strict = rw state strict;
      ends = refl;
    })

-- the same, where the report keeps silent
cue_told : (line : ℕ) (command : Command) (o : Obeyed) (a : Aside Rescue) (s : Concert Rescue)
    → a ≡ silence (one_more s.kept) → o.machine ≡ (obey s.standing.machine command).machine
    → AreObeyed (command ∷ []) (mapped (λ u. u) after_cue
    (onward (halted (onward (obeyed_course recovery_manner command o s) (λ t. reported a t)))
    (each (order_course recovery_manner line) []))) s
unfolding onward mapped
cue_told line command o a s is machine =
    rw is (cue_by line command o.answer s
    (concert_with (standing_after s.standing o) (one_more s.kept)) _ refl refl machine refl refl)

cue_obeyed : (line : ℕ) (command : Command) (s : Concert Rescue) → s.kept.strict ≡ false
    → AreObeyed (command ∷ []) (cue_course recovery_manner (cue_asking line (Do command)) s) s
unfolding cue_course each order_course command_course onward mapped
cue_obeyed line command s soft =
    let o = obey s.standing.machine command in
    cue_told line command o (done_tells o.answer s.kept) s (soft_done o.answer s.kept soft) refl

cues_obeyed : (commands : List Command) (line : ℕ) (s : Concert Rescue) → s.kept.strict ≡ false
    → AreObeyed commands (cues_course recovery_manner (cues_asking line (map Do commands)) s) s
unfolding cues_course each onward
cues_obeyed [] line s soft = record {
  sends = refl;
  saves = refl;
  commands = refl;
  machine = refl;
  strict = refl;
  ends = refl;
}
cues_obeyed (command ∷ commands) line s soft =
    let c = cue_course recovery_manner (cue_asking line (Do command)) s in
    let first = cue_obeyed line command s soft in
    let rest = cues_obeyed commands (line + 1) c.state (first.strict ∙ soft) in
    rw first.ends (record {
      sends = given-append c.acts _ ∙ rw (first.sends, rest.sends) refl;
      saves = saves-append c.acts _ ∙ rw (first.saves, rest.saves) refl;
      commands = commands_in-append c.acts _ ∙ rw (first.commands, rest.commands) refl;
      machine = rest.machine ∙ ap (after_commands commands) first.machine;
      strict = rest.strict ∙ first.strict;
      ends = rest.ends;
    })

-- ---- the end

-- the end of a run sends and saves nothing, and does no command
record IsOver (c : Course (Concert Rescue) Stop) : Type 0 where
  pub sends : given c.acts ≡ []
  pub saves : saves_in c.acts ≡ []
  pub commands : commands_in c.acts ≡ []
  pub ends : c.ending ≡ None

end_over : (s : Concert Rescue) → IsOver (last_course recovery_manner None s)
unfolding last_course final_course close_course saved_course afterwards keeping onward mapped
end_over s = record { sends = refl; saves = refl; commands = refl; ends = refl }

-- a whole run of commands
record IsRescued (done : List Command) (c : Course (Concert Rescue) Stop) (s : Concert Rescue)
    : Type 0 where
  pub session : MachineState
  pub after : session ≡ after_commands done s.standing.machine
  pub sends : given c.acts ≡ []
  pub saves : saves_in c.acts ≡ []
  pub commands : commands_in c.acts ≡ done
  pub last : c.state.standing.machine ≡ machine_closed session
  pub ends : c.ending ≡ None

rescued_by : (commands : List Command) (c : Course (Concert Rescue) Stop) (s : Concert Rescue)
    (end : Option Stop) → AreObeyed commands c s → end ≡ None
    → let d = last_course recovery_manner end c.state in
    (given (c.acts ++ d.acts) ≡ []) × (saves_in (c.acts ++ d.acts) ≡ [])
    × (commands_in (c.acts ++ d.acts) ≡ commands) × (d.ending ≡ None)
rescued_by commands c s end obeyed none =
    let over = end_over c.state in (
      rw none (given-append c.acts _ ∙ rw (obeyed.sends, over.sends) refl),
      rw none (saves-append c.acts _ ∙ rw (obeyed.saves, over.saves) refl),
      rw none (commands_in-append c.acts _ ∙ rw (obeyed.commands, over.commands) (append-nil commands)),
      rw none over.ends,
    )

is_rescued : (commands : List Command) (line : ℕ) (s : Concert Rescue) → s.kept.strict ≡ false
    → IsRescued commands (concert_course recovery_manner (cues_asking line (map Do commands)) s) s
unfolding concert_course afterwards
is_rescued commands line s soft =
    let cues = cues_asking line (map Do commands) in
    let c = cues_course recovery_manner cues s in
    let obeyed = cues_obeyed commands line s soft in
    let all = rescued_by commands c s c.ending obeyed obeyed.ends in
    record {
      session = c.state.standing.machine;
      after = obeyed.machine;
      sends = all.0;
      saves = all.1;
      commands = all.2;
      last = ap (λ (s : Standing). s.machine) (concert-standing recovery_manner cues s);
      ends = all.3;
    }

-- ---- the text of a room

-- whole lines stay whole before any text
abbrev KeepsLines : List ℕ → Type 0
KeepsLines text = (rest : List ℕ) → whole_lines (text ++ rest) ≡ text ++ whole_lines rest

keeps_none : KeepsLines []
keeps_none rest = refl

keeps_line : (line : List ℕ) → KeepsLines (line ++ line_feed ∷ [])
keeps_line line rest =
    ap whole_lines (append_assoc line (line_feed ∷ []) rest)
    ∙ (whole_line line rest ∙ sym (append_assoc line (line_feed ∷ []) (whole_lines rest)))

keeps_both : (xs ys : List ℕ) → KeepsLines xs → KeepsLines ys → KeepsLines (xs ++ ys)
keeps_both xs ys first second rest =
    ap whole_lines (append_assoc xs ys rest)
    ∙ (first (ys ++ rest)
    ∙ (ap (λ more. xs ++ more) (second rest) ∙ sym (append_assoc xs ys (whole_lines rest))))

keeps_commands : (commands : List Command) → KeepsLines (flat_map printed commands)
keeps_commands [] = keeps_none
keeps_commands (command ∷ commands) =
    keeps_both (printed command) (flat_map printed commands) (keeps_line (canonical command))
    (keeps_commands commands)

comment_line : List ℕ → List ℕ
comment_line name = codes "# midi " ++ name

keeps_midi : (control : Bool) (name : List ℕ)
    → KeepsLines (if control then [] else codes "# midi " ++ (name ++ line_feed ∷ []))
unfolding comment_line
keeps_midi true name = keeps_none
keeps_midi false name = keeps_line (comment_line name)

-- the line of the limit
limit_comment : ℕ → List ℕ
limit_comment limit = limit_word ++ decimal limit

keeps_limit : (limit : ℕ) → KeepsLines (limit_line limit)
unfolding limit_comment
keeps_limit limit =
    subst KeepsLines (append_assoc limit_word (decimal limit) (line_feed ∷ []))
    (keeps_line (limit_comment limit))

keeps_named : (midi : Option (List ℕ)) → KeepsLines (midi_line midi)
keeps_named None = keeps_none
keeps_named (Some name) = keeps_midi (list_any is_control name) name

-- ---- its script

-- lines from this number on that ask for these commands
record AskFor (number : ℕ) (commands : List Command) (text : List ℕ) : Type 0 where
  pub first : ℕ
  pub faultless : first_fault true number (lines text) ≡ None
  pub cues : cues_of true number (lines text) ≡ cues_asking first (map Do commands)

plain_asks : (number : ℕ) (commands : List Command) → 2 ≤ number
    → All (λ command. HasValues (line_of command)) commands
    → AskFor number commands (flat_map printed commands)
plain_asks number commands later values =
    let read = read_all number commands later values in
    record { first = number; faultless = read.faultless; cues = read.cues }

shown_name : (name : List ℕ) → list_any is_control name ≡ false → list_all (λ b. nat_le 32 b) name ≡ true
shown_name [] none = refl
shown_name (byte ∷ name) none = grind (arith, nat_tests, shown_name name)

comment_asks : (name : List ℕ) (commands : List Command) → list_any is_control name ≡ false
    → All (λ command. HasValues (line_of command)) commands
    → AskFor 3 commands ((comment_line name ++ line_feed ∷ []) ++ flat_map printed commands)
unfolding first_fault cues_of reading2 comment_line
comment_asks name commands none values =
    let rest = flat_map printed commands in
    let read = read_all 4 commands (omega arith) values in
    let line = shown_line (comment_line name) rest (shown_name name none) in
    record { first = 4; faultless = rw line read.faultless; cues = rw line read.cues }

midi_asks : (control : Bool) (name : List ℕ) (commands : List Command)
    → list_any is_control name ≡ control → All (λ command. HasValues (line_of command)) commands
    → AskFor 3 commands ((if control then [] else codes "# midi " ++ (name ++ line_feed ∷ []))
    ++ flat_map printed commands)
unfolding comment_line
midi_asks true name commands is values = plain_asks 3 commands (omega arith) values
midi_asks false name commands is values = comment_asks name commands is values

named_asks : (midi : Option (List ℕ)) (commands : List Command)
    → All (λ command. HasValues (line_of command)) commands
    → AskFor 3 commands (midi_line midi ++ flat_map printed commands)
named_asks None commands values = plain_asks 3 commands (omega arith) values
named_asks (Some name) commands values =
    midi_asks (list_any is_control name) name commands refl values

limit_values : (limit : ℕ) → limit ≤ MAX_HISTORY
    → HasValues (line_with (codes "# limit") (limit ∷ []) None)
limit_values limit few = record {
  small = All-cons (λ (n : ℕ). n < 2 ^ 32) limit [] (omega (arith, few))
      (λ k d below. absurd (omega (arith, below)));
  visible = tt;
}

limit_seen : (limit : ℕ) → limit ≤ MAX_HISTORY
    → list_all (λ b. nat_le 32 b) (limit_comment limit) ≡ true
unfolding limit_comment
limit_seen limit few =
    let word = codes "# limit" in
    let number = 32 ∷ decimal limit in
    let seen : list_all (λ b. nat_le 32 b) (word ++ ((number ++ []) ++ [])) ≡ true =
    spaced_shown (line_with word (limit ∷ []) None) refl (limit_values limit few) in
    ap (λ (more : List ℕ). list_all (λ b. nat_le 32 b) (word ++ more))
    (sym (append-nil (number ++ []) ∙ append-nil number)) ∙ seen

limit_line-is : (limit : ℕ) (rest : List ℕ) → limit ≤ MAX_HISTORY
    → lines (limit_line limit ++ rest) ≡ limit_comment limit ∷ lines rest
unfolding limit_comment
limit_line-is limit rest few =
    ap (λ (line : List ℕ). lines (line ++ rest))
    (sym (append_assoc limit_word (decimal limit) (line_feed ∷ [])))
    ∙ shown_line (limit_comment limit) rest (limit_seen limit few)

shown_limit : (limit : ℕ) → 1 ≤ limit → limit ≤ MAX_HISTORY
    → limit_given (limit_comment limit) ≡ Some limit
unfolding limit_comment
shown_limit limit some few = limit_shown limit some few

limit_asks : (limit : ℕ) (commands : List Command) (text : List ℕ) → limit ≤ MAX_HISTORY
    → AskFor 3 commands text → AskFor 2 commands (limit_line limit ++ text)
unfolding first_fault cues_of reading2 limit_comment
limit_asks limit commands text few asks =
    let line = limit_line-is limit text few in record {
      first = asks.first;
      faultless = rw line asks.faultless;
      cues = rw line asks.cues;
    }

-- the script of a room
record IsRoomScript (seed limit : ℕ) (commands : List Command) (text : List ℕ) : Type 0 where
  pub first : ℕ
  pub seeds : seed_in text ≡ Some seed
  pub limited : room_limit text ≡ Some limit
  pub faultless : first_fault true 1 (lines text) ≡ None
  pub cues : sound_script text ≡ cues_asking first (map Do commands)

no_values : All (λ command. HasValues (line_of command)) []
no_values k d below = absurd (omega (arith, below))

room_script : (seed limit : ℕ) (midi : Option (List ℕ)) (commands : List Command) → seed < 2 ^ 32
    → 1 ≤ limit → limit ≤ MAX_HISTORY → All (λ command. HasValues (line_of command)) commands
    → IsRoomScript seed limit commands
    (printed_header seed ++ (limit_line limit ++ (midi_line midi ++ flat_map printed commands)))
unfolding first_fault cues_of
room_script seed limit midi commands small some few values =
    let back = script_reads_back seed [] small no_values in
    let others = midi_line midi ++ flat_map printed commands in
    let rest = limit_line limit ++ others in
    let text = printed_header seed ++ rest in
    let asks = limit_asks limit commands others few (named_asks midi commands values) in
    let alone = (script2_read seed [] back).1 in
    let faultless : first_fault true 1 (lines text) ≡ None =
    rw (back.first rest, back.header, asks.faultless) refl in
    record {
      first = asks.first;
      seeds = rw (back.first rest) (rw (back.first (text_behind 0 [])) at alone);
      limited = limit_two text _ _ (lines rest) (lines others) (back.first rest)
          (limit_line-is limit others few) ∙ shown_limit limit some few;
      faultless = faultless;
      cues = sound_same 1 (lines text) faultless
          ∙ rw (back.first rest, back.header, asks.cues) refl;
    }

-- ---- a room is recovered

asked_commands : (line : ℕ) (commands : List Command)
    → commands_of_cues (cues_asking line (map Do commands)) ≡ commands
asked_commands line [] = refl
asked_commands line (command ∷ commands) =
    ap (λ more. command ∷ more) (asked_commands (line + 1) commands)

script_of_room : Setup → List Command → List ℕ
script_of_room setup commands =
    printed_header setup.seed
    ++ (limit_line setup.limit ++ (midi_line setup.midi ++ flat_map printed commands))

unfolded_script : (setup : Setup) (sheet : Sheet) (commands : List Command)
    → CanBeKept setup sheet commands
    → IsRoomScript setup.seed setup.limit commands (script_of_room setup commands)
unfolding script_of_room
unfolded_script setup sheet commands is =
    room_script setup.seed setup.limit setup.midi commands is.small is.some is.few is.values

-- the text of a room, part by part
room_apart : (setup : Setup) (sheet : Sheet) (commands : List Command) (cut : List ℕ)
    → room_text setup sheet commands cut
    ≡ text_of sheet ++ line_feed ∷ (script_of_room setup commands ++ cut)
unfolding script_of_room
room_apart setup sheet commands cut =
    let header = printed_header setup.seed in
    let limit = limit_line setup.limit in
    let midi = midi_line setup.midi in
    let start = header ++ (limit ++ midi) in
    let rest = flat_map printed commands in
    ap (λ (text : List ℕ). text ++ cut) (append_assoc (text_of sheet) (line_feed ∷ start) rest)
    ∙ (append_assoc (text_of sheet) (line_feed ∷ (start ++ rest)) cut
    ∙ ap (λ (text : List ℕ). text_of sheet ++ line_feed ∷ (text ++ cut))
    (append_assoc header (limit ++ midi) rest
    ∙ ap (λ (more : List ℕ). header ++ more) (append_assoc limit midi rest)))

whole_room : (setup : Setup) (commands : List Command) (cut : List ℕ)
    → All (λ byte. byte ≢ line_feed) cut
    → whole_lines (script_of_room setup commands ++ cut) ≡ script_of_room setup commands
unfolding script_of_room
whole_room setup commands cut free =
    let named = keeps_both (midi_line setup.midi) (flat_map printed commands)
    (keeps_named setup.midi) (keeps_commands commands) in
    let limited = keeps_both (limit_line setup.limit)
    (midi_line setup.midi ++ flat_map printed commands) (keeps_limit setup.limit) named in
    keeps_both (printed_header setup.seed)
    (limit_line setup.limit ++ (midi_line setup.midi ++ flat_map printed commands))
    (keeps_line (canonical_header setup.seed)) limited cut
    ∙ (ap (λ more. script_of_room setup commands ++ more) (cut_none cut free)
    ∙ append-nil (script_of_room setup commands))

-- ---- what is saved of it

-- the grid stays as it is when the notes end
closed_sheet : (m : MachineState) → (piece_of (machine_closed m)).sheet ≡ (piece_of m).sheet
closed_sheet m =
    ap (λ (p : Piece). p.sheet)
    (piece_after-closed m.opened m.seed m.history (length m.history) m.closed (omega arith))

saved_by : (out text : List ℕ) (name : Option (List ℕ)) (script : Script)
    → let acts = Save out text ∷ script_saves name script in
    (saves_in (acts ++ []) ≡ acts) × (given (acts ++ []) ≡ []) × (commands_in (acts ++ []) ≡ [])
saved_by out text None script = (refl, refl, refl)
saved_by out text (Some name) script = (refl, refl, refl)

-- what is saved where all was done
saved_whole : (r : Recovery) (script : Script) (m : MachineState)
    → (saves_in (saves_of r script m ++ []) ≡ saves_of r script m)
    × (given (saves_of r script m ++ []) ≡ []) × (commands_in (saves_of r script m ++ []) ≡ [])
saved_whole r script m = saved_by r.out _ r.script script

saves_closed : (r : Recovery) (script : Script) (last session : MachineState)
    → last ≡ machine_closed session → saves_of r script last ≡ saves_of r script session
saves_closed r script last session is =
    ap (λ (sheet : Sheet). Save r.out (text_of sheet) ∷ script_saves r.script script)
    (ap (λ (m : MachineState). (piece_of m).sheet) is ∙ closed_sheet session)

-- ---- it is recovered

-- the same as it will be, before the notes of the run that has left it are ended
record IsUnhushed (r : Recovery) (limit : ℕ) (sheet : Sheet) (script : Script) (o : Outline)
    : Type 0 where
  pub session : MachineState
  pub after : session
      ≡ after_commands script.commands (machine_at_start sheet script.seed limit)
  pub ends : o.course.ending ≡ Some Done
  pub commands : commands_in o.course.acts ≡ script.commands
  pub last : option_map (λ s. s.machine) o.course.state ≡ Some (machine_closed session)
  pub saves : saves_in o.course.acts ≡ saves_of r script session
  pub sends : given o.course.acts ≡ []
  pub given_script : o.given ≡ script_kept r.script script.seed (Some script.commands)

-- how a recovery ends by how its commands did
ended_by : (r : Recovery) (limit : ℕ) (sheet : Sheet) (script : Script) (came : Losses)
    (c : Course (Concert Rescue) Stop)
    → let s = standing_at sheet script.seed limit in
    IsRescued script.commands c (concert_with s (rescue_at_start false))
    → IsUnhushed r limit sheet script (rescue_by r script.seed script.commands None came s c)
unfolding rescue_by opening afterwards mapped
ended_by r limit sheet script came c is =
    let m = c.state.standing.machine in
    let saves = saved_whole r script m in
    rw is.ends (record {
      session = is.session;
      after = is.after;
      ends = refl;
      commands = commands_in-append c.acts _ ∙ rw (is.commands, saves.2) (append-nil script.commands);
      last = ap Some is.last;
      saves = saves-append c.acts _
          ∙ (rw (is.saves, saves.0) (saves_closed r script m is.session is.last));
      sends = given-append c.acts _ ∙ rw (is.sends, saves.1) refl;
      given_script = refl;
    })

-- no fewer entries than the performance had are enough
wide_limit : (given : Option ℕ) (own : ℕ) → IfSome given (λ limit. own ≤ limit)
    → nat_lt (unwrap_or given own) own ≡ false
wide_limit None own wide = grind (arith, nat_tests)
wide_limit (Some limit) own wide = grind (arith, nat_tests)

script_recovers : (r : Recovery) (setup : Setup) (sheet : Sheet) (commands : List Command)
    (before : ℕ) (text : List ℕ) (came : Losses)
    → IsRoomScript setup.seed setup.limit commands text
    → IfSome r.limit (λ limit. setup.limit ≤ limit)
    → IsUnhushed r (limit_kept r setup) sheet (record { seed = setup.seed; commands = commands })
    (script_recovered r sheet before text came)
unfolding script_recovered sound_recovered
script_recovers r setup sheet commands before text came script wide =
    let limit = limit_kept r setup in
    let loose : nat_lt limit setup.limit ≡ false = wide_limit r.limit setup.limit wide in
    let s = standing_at sheet setup.seed limit in
    rw (
      script.faultless,
      script.cues,
      script.limited,
      script.seeds,
      asked_commands script.first commands,
      loose,
    )
    (ended_by r limit sheet (record { seed = setup.seed; commands = commands }) came _
    (is_rescued commands script.first (concert_with s (rescue_at_start false)) refl))

room_recovered : (r : Recovery) (setup : Setup) (sheet : Sheet) (commands : List Command)
    (cut : List ℕ) (came : Losses) → CanBeKept setup sheet commands
    → IfSome r.limit (λ limit. setup.limit ≤ limit) → All (λ byte. byte ≢ line_feed) cut
    → IsUnhushed r (limit_kept r setup) sheet (record { seed = setup.seed; commands = commands })
    (recovered r came (room_parts (room_text setup sheet commands cut)))
unfolding recovered grid_recovered
room_recovered r setup sheet commands cut came is wide free =
    let text = script_of_room setup commands in
    let parts = ap room_parts (room_apart setup sheet commands cut)
    ∙ printed_parts sheet (text ++ cut) is.is_sheet in
    rw (parts, text_of-read sheet is.is_sheet, whole_room setup commands cut free)
    (script_recovers r setup sheet commands _ text came (unfolded_script setup sheet commands is) wide)

-- the same, once the room was loaded and those notes were ended
hushed_recovered : (r : Recovery) (limit : ℕ) (sheet : Sheet) (script : Script) (room : List ℕ)
    (text : Option (List ℕ)) (o : Outline) → IsUnhushed r limit sheet script o
    → IsRecovered r limit sheet script (preceded (Load room text ∷ []) (hushed r o))
unfolding hushed
hushed_recovered r limit sheet script room text o is =
    let quiet = quiet_acts (hush_acts r.midi) (quiet-hush r.midi) in
    record {
      session = is.session;
      after = is.after;
      ends = is.ends;
      commands = quiet.commands o.course.acts ∙ is.commands;
      last = is.last;
      saves = quiet.saves o.course.acts ∙ is.saves;
      sends = given-append (hush_acts r.midi) o.course.acts
          ∙ (rw (is.sends, given-hush r.midi) (append-nil (hushing r.midi)));
      given = is.given_script;
    }

-- ---- lines that were cut off

-- where a list has two fronts, one goes on where the other ends
fronts : (xs ys us vs : List ℕ) → xs ++ ys ≡ us ++ vs
    → ((more : List ℕ) × (xs ≡ us ++ more) × (vs ≡ more ++ ys))
    ⊎ ((more : List ℕ) × (us ≡ xs ++ more) × (ys ≡ more ++ vs))
fronts [] ys us vs same = inr (us, refl, same)
fronts (x ∷ xs) ys [] vs same = inl (x ∷ xs, refl, sym same)
fronts (x ∷ xs) ys (u ∷ us) vs same =
    let first : x ≡ u = cc in
    let others : xs ++ ys ≡ us ++ vs = cc in
    elim (fronts xs ys us vs others) [
      | inl at ↦ inl (at.0, rw first (ap (λ rest. u ∷ rest) at.1), at.2)
      | inr at ↦ inr (at.0, rw first (ap (λ rest. u ∷ rest) at.1), at.2)
    ]

-- no byte of a canonical line ends a line
word_shown : (command : Command) → list_all (λ b. nat_le 32 b) (line_of command).word ≡ true
unfolding line_of
word_shown command = grind arith

shown_inside : (bytes : List ℕ) → list_all (λ b. nat_le 32 b) bytes ≡ true
    → AllByRecursion IsInside bytes
shown_inside [] shown = tt
shown_inside (byte ∷ bytes) shown =
    let both = and_parts _ _ shown in
    let low : 32 ≤ byte = leb-true 32 byte both.0 in
    (λ same. omega (arith, low, same), shown_inside bytes both.1)

inside_line : (command : Command) → HasValues (line_of command)
    → AllByRecursion IsInside (canonical command)
inside_line command values =
    shown_inside (canonical command) (spaced_shown (line_of command) (word_shown command) values)

inside_front : (xs ys : List ℕ) → AllByRecursion IsInside (xs ++ ys) → AllByRecursion IsInside xs
inside_front [] ys free = tt
inside_front (x ∷ xs) ys free = (free.0, inside_front xs ys free.1)

-- the whole lines of a beginning, and what was cut off
record AreCutOff (commands : List Command) (text : List ℕ) : Type 0 where
  pub done : List Command
  pub left : List Command
  pub cut : List ℕ
  pub splits : commands ≡ done ++ left
  pub is : text ≡ flat_map printed done ++ cut
  pub free : AllByRecursion IsInside cut

no_rest : (text tail : List ℕ) → [] ≡ text ++ tail → text ≡ []
no_rest [] tail none = refl
no_rest (byte ∷ text) tail none = absurd cc

cut_inside : (commands : List Command) (text : List ℕ) → AllByRecursion IsInside text
    → AreCutOff commands text
cut_inside commands text free =
    record { done = []; left = commands; cut = text; splits = refl; is = refl; free = free }

cut_more : (command : Command) (commands : List Command) (more text : List ℕ)
    → text ≡ canonical command ++ line_feed ∷ more → AreCutOff commands more
    → AreCutOff (command ∷ commands) text
cut_more command commands more text is rest = record {
  done = command ∷ rest.done;
  left = rest.left;
  cut = rest.cut;
  splits = ap (λ others. command ∷ others) rest.splits;
  is = is
      ∙ (ap (λ more. canonical command ++ line_feed ∷ more) rest.is
      ∙ (sym (append_assoc (canonical command) (line_feed ∷ []) (flat_map printed rest.done ++ rest.cut))
      ∙ sym (append_assoc (printed command) (flat_map printed rest.done) rest.cut)));
  free = rest.free;
}

cut_off : (commands : List Command) (text tail : List ℕ)
    → AllByRecursion (λ command. HasValues (line_of command)) commands
    → flat_map printed commands ≡ text ++ tail → AreCutOff commands text
cut_off [] text tail values same =
    rw (no_rest text tail same) (cut_inside [] [] tt)
cut_off (command ∷ commands) text tail values same =
    let rest = flat_map printed commands in
    let line = canonical command in
    let free = inside_line command values.0 in
    elim (fronts line (line_feed ∷ rest) text tail
    (sym (append_assoc line (line_feed ∷ []) rest) ∙ same)) [
      | inl at ↦ cut_inside (command ∷ commands) text
          (inside_front text at.0 (subst (AllByRecursion IsInside) at.1 free))
      | inr ([], is, others) ↦ cut_inside (command ∷ commands) text
          (subst (AllByRecursion IsInside) (sym (append-nil line) ∙ sym is) free)
      | inr (byte ∷ more, is, others) ↦
          let end : line_feed ≡ byte = cc in
          let same : rest ≡ more ++ tail = cc in
          cut_more command commands more text
          (is ∙ ap (λ end. line ++ end ∷ more) (sym end))
          (cut_off commands more tail values.1 same)
    ]

begun_whole : (done : List Command) (cut : List ℕ) → AllByRecursion IsInside cut
    → whole_lines (flat_map printed done ++ cut) ≡ flat_map printed done
begun_whole done cut free =
    keeps_commands done cut
    ∙ (ap (λ more. flat_map printed done ++ more) (cut_none cut (All-from_recursion IsInside cut free))
    ∙ append-nil (flat_map printed done))

values_front : (done left : List Command)
    → AllByRecursion (λ command. HasValues (line_of command)) (done ++ left)
    → AllByRecursion (λ command. HasValues (line_of command)) done
values_front [] left values = tt
values_front (command ∷ done) left values = (values.0, values_front done left values.1)

kept_recovers : (words : List (List ℕ)) (r : Recovery) (setup : Setup) (sheet : Sheet)
    (commands : List Command) (cut : List ℕ) (h : Heard) → request_of words ≡ Some (Recover r)
    → h.brought.script ≡ Some (room_text setup sheet commands cut) → CanBeKept setup sheet commands
    → IfSome r.limit (λ limit. setup.limit ≤ limit) → All IsInside cut
    → IsRecovered r (limit_kept r setup) sheet (record { seed = setup.seed; commands = commands })
    (outline words h)
unfolding outline request_outline recovery_outline loading
kept_recovers words r setup sheet commands cut h asks text is wide free =
    rw (asks, text)
    (hushed_recovered r (limit_kept r setup) sheet
    (record { seed = setup.seed; commands = commands }) r.room
    (Some (room_text setup sheet commands cut)) _
    (room_recovered r setup sheet commands cut h.brought.closing is wide free))

pub recovers : (words : List (List ℕ)) → Recovers words
recovers words = record {
  kept = kept_recovers words;
  begun = λ r setup sheet commands lines h asks text is wide extends.
      let values = recursion_from_All _ commands is.values in
      let off = cut_off commands lines extends.0 values extends.1 in
      let start = room_start setup sheet in
      let done = flat_map printed off.done in
      let whole : start ++ lines ≡ room_text setup sheet off.done off.cut =
      ap (λ more. start ++ more) off.is ∙ sym (append_assoc start done off.cut) in
      record {
        done = off.done;
        left = off.left;
        splits = off.splits;
        whole = ap whole_lines off.is ∙ begun_whole off.done off.cut off.free;
        recovered = kept_recovers words r setup sheet off.done off.cut h asks
            (text ∙ ap Some whole)
            (record {
              is_sheet = is.is_sheet;
              small = is.small;
              some = is.some;
              few = is.few;
              values = All-from_recursion _ off.done
                  (values_front off.done off.left (subst (AllByRecursion _) off.splits values));
            })
            wide (All-from_recursion IsInside off.cut off.free);
      };
}
