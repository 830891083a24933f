-- A follower that hears exactly what a leader gives, each from its start to its end.
use Rattle.std.proofs.Common.{◌≡◌, ◌≢◌, ℕ, ◌+◌, ◌<◌, ◌≤◌, List, [], ◌∷◌, ◌++◌, length, replicate, refl, sym, ◌∙◌, ap, append-nil, arith}
use Rattle.std.specs.Prelude.{zero, suc, Some, None}
use Rattle.std.specs.List.{filter, flat_map}
use Rattle.std.proofs.lemmas.List.Elements.{All-replicate}
use Rattle.orca_base.specs.Grids.{IsSheet, Sheet}
use Rattle.orca_base.specs.declared.command.Command.TheVariants as command
use Rattle.orca_base.specs.declared.command.Entry.TheVariants as entry
use Rattle.orca_base.specs.declared.port.Port.TheVariants as port
use Rattle.orca_concert.specs.Manners.{Manner}
use Rattle.orca_course.specs.Acts.{Act, commands_in}
use Rattle.orca_course.specs.Acts.Act.{Give, Stand}
use Rattle.orca_course.specs.Courses.{Course, each, mapped, onward}
use Rattle.orca_course.specs.Following.{midi_sent}
use Rattle.orca_course.specs.Performers.{Hearing, attended, begun, given_course, performance, turn_course}
use Rattle.orca_course.specs.Standings.{Standing, notes_of, standing_closed}
use Rattle.orca_course.specs.declared.ending.Ending.{Ending}
use Rattle.orca_course.specs.declared.ending.Ending.TheVariants.{Stopped}
use Rattle.orca_course.specs.declared.ending.Stop.{Stop}
use Rattle.orca_course.specs.declared.ending.Stop.TheVariants.{Full, Left}
use Rattle.orca_course.specs.declared.item.Losses.{Losses}
use Rattle.orca_course.proofs.ActLemmas.{commands_in-append}
use Rattle.orca_edit.specs.Frames.{machine_after}
use Rattle.orca_edit.specs.Obeying.{MachineState, accept, entry_of, extend, machine_at_start, machine_closed, obey, piece_of, rule_against, taken_area}
use Rattle.orca_edit.specs.Pieces.{Piece, apply, piece_after, silence}
use Rattle.orca_edit.proofs.FoldLemmas.{apply-same, silence-closes}
use Rattle.orca_edit.proofs.FrameLemmas.{framed}
use Rattle.orca_notes.proofs.Chords.{IsChord-nil}
use Rattle.orca_notes.proofs.PlayFacts.{Plays-ends}
use Rattle.orca_notes.specs.Sound.{ends}
use Rattle.orca_op.specs.Laws.{IsLawful}
use Rattle.orca_op.specs.Rules.{rule}
use Rattle.orca_sync.specs.Clocks.{Pulse, beats_from, heed, running, stopped}
use Rattle.orca_sync.specs.RealTime.{is_clock, stop}
use Rattle.orca_sync.specs.declared.follower.Beat.TheVariants as beat
use Rattle.orca_sync.proofs.ClockLaws.{others_drop}
use Rattle.orca_sync.proofs.LeadLaws.{drops}
use Rattle.orca_clock.specs.Laws.{FollowsBytes, HeedsClock, FollowerIsLed, TellsAtEnd, commands_of_beat, heard_in, midi_bytes_in, opened_concert as opened_grid}
use Rattle.orca_clock.specs.Clocked.{end_course}
use Rattle.orca_clock.specs.Followers.{follow_at_start, follow_part}
use Rattle.orca_clock.specs.Leaders.{Led, lead_at_start, lead_course, lead_finish, lead_open, lead_part}
use Rattle.orca_clock.proofs.GoingLemmas.{has_ended}
use Rattle.orca_clock.proofs.HeardLemmas.{follow_heard, follow_played, machine_by}
use Rattle.orca_clock.proofs.LedLemmas.{IsReady, attended_led, machine_of}
use Rattle.orca_clock.proofs.MidiLemmas.{end_commands, handed_no_clock, midi_bytes-append}
use Rattle.orca_clock.proofs.TellingLemmas.{end_told}

-- ---- a follower

pub follows_bytes : FollowsBytes
follows_bytes m s opening heard tells = follow_heard m tells opening heard (follow_at_start s)

pub heeds_clock : HeedsClock
heeds_clock m s opening other heard others tells left also alike =
    let first = follow_played m tells opening heard (follow_at_start s) left in
    let second = follow_played m tells other others (follow_at_start s) also in
    let beats : beats_from stopped (heard_in heard) ≡ beats_from stopped (heard_in others) =
    sym (others_drop stopped (heard_in heard))
    ∙ (ap (beats_from stopped) alike ∙ others_drop stopped (heard_in others)) in (
      first.0 ∙ (ap (flat_map commands_of_beat) beats ∙ sym second.0),
      first.1
          ∙ (ap (λ bs. machine_closed (machine_by (flat_map commands_of_beat bs) s.standing.machine))
          beats
          ∙ sym second.1),
    )

-- ---- a whole leader

abbrev clock_act : ℕ → Act
clock_act byte = Give (record { port = port.Midi; bytes = byte ∷ [] })

-- some frames were played, and a follower restarts and plays them; and then every note ended
pub record HasLedAll {R : Type 0} (s : Led R) (c : Course (Led R) Ending) : Type 0 where
  pub frames : ℕ
  pub commands : commands_in c.acts ≡ replicate frames command.Frame
  pub beats : (p : Pulse) → beats_from p (midi_bytes_in c.acts)
      ≡ beat.Restart ∷ replicate frames beat.Frame
  pub machine : machine_of c.state ≡ machine_closed (machine_after frames (machine_of s))
  pub room : length (machine_of s).history + frames ≤ (machine_of s).limit

-- acts and the end of them
all_beats : (first xs ys : List Act) (frames : ℕ) (p q : Pulse) → first ≡ xs ++ ys
    → ((rest : List ℕ) → beats_from p (midi_bytes_in xs ++ rest)
    ≡ beat.Restart ∷ replicate frames beat.Frame ++ beats_from q rest)
    → beats_from q (midi_bytes_in ys) ≡ []
    → beats_from p (midi_bytes_in first) ≡ beat.Restart ∷ replicate frames beat.Frame
all_beats first xs ys frames p q is some none =
    rw (is, midi_bytes-append)
    (some (midi_bytes_in ys) ∙ ap (λ beats. beat.Restart ∷ beats) (rw none (append-nil _)))

-- the end of a leader gives no clock but the stop
pub record IsStop {R : Type 0} (s : Led R) (c : Course (Led R) Stop) : Type 0 where
  pub commands : commands_in c.acts ≡ []
  pub beats : beats_from s.metronome.pulse (midi_bytes_in c.acts) ≡ []
  pub machine : machine_of c.state ≡ machine_closed (machine_of s)

stop_commands : (xs : List Act) (t : Standing) → commands_in xs ≡ []
    → commands_in (xs ++ clock_act stop ∷ Stand t ∷ []) ≡ []
stop_commands xs t none = rw (commands_in-append, none) refl

stop_beats : (p : Pulse) (xs : List Act) (t : Standing) (bytes : List ℕ)
    → midi_bytes_in xs ≡ bytes → filter is_clock bytes ≡ []
    → beats_from p (midi_bytes_in (xs ++ clock_act stop ∷ Stand t ∷ [])) ≡ []
unfolding heed beats_from midi_sent
stop_beats p xs t bytes is none =
    rw (midi_bytes-append, is) (drops p bytes (stop ∷ []) none ∙ refl)

module _ {R : Type 0} (m : Manner R) (tells : TellsAtEnd m) (lawful : IsLawful rule) where
  stopped_all : (s : Led R) → IsReady (machine_of s) → IsStop s (lead_finish m (Stopped Left) s)
  unfolding lead_finish end_course onward mapped
  stopped_all s ready =
      let ended = end_course m (Stopped Left) s.concert in
      let told = end_told m tells s.concert in
      let notes = notes_of s.concert.standing in
      let quiet = handed_no_clock m.hands (ends notes) (standing_closed s.concert.standing)
      (Plays-ends notes ready.played.chord).sendable in
      record {
        commands = stop_commands ended.acts ended.state.standing told.commands;
        beats = stop_beats s.metronome.pulse ended.acts ended.state.standing _ told.bytes quiet;
        machine = ap (λ (t : Standing). t.machine) told.standing;
      }

  lead_all : (opening : Losses) (heard : List Hearing) (s : Led R) → IsReady (machine_of s)
      → s.metronome.pulse ≡ running 0
      → let c = performance (lead_part m) s opening heard in c.ending ≡ Some (Stopped Left)
      → HasLedAll s c
  unfolding begun attended each turn_course given_course lead_course lead_open onward mapped heed
      beats_from midi_sent
  lead_all opening heard s ready new left =
      let whole = has_ended (lead_part m) s opening heard (Stopped Left) left in
      let c = attended (lead_part m) s heard in
      let ends : c.ending ≡ Some (Stopped Left) = whole.ending in
      let other : c.ending ≢ Some (Stopped Full) = λ full. absurd cc in
      let led = attended_led m tells lawful heard s other ready in
      let end = stopped_all c.state led.ready in
      record {
        frames = led.frames;
        commands = end_commands _ (begun (lead_part m) s opening heard).acts
            (lead_finish m (Stopped Left) c.state).acts _ whole.acts led.commands end.commands;
        beats = λ p. all_beats _ (begun (lead_part m) s opening heard).acts
            (lead_finish m (Stopped Left) c.state).acts led.frames p c.state.metronome.pulse
            whole.acts
            (λ rest. ap (λ beats. beat.Restart ∷ beats)
            (ap (λ q. beats_from q (midi_bytes_in c.acts ++ rest)) (sym new) ∙ led.beats rest))
            end.beats;
        machine = ap machine_of whole.state ∙ (end.machine ∙ ap machine_closed led.machine);
        room = omega (arith, led.longer, led.limit, led.ready.room);
      }

-- ---- the same frames of the same grid

-- a session that has room for so many frames more
pub record HasRoom (frames : ℕ) (m : MachineState) : Type 0 where
  pub closed : m.closed ≤ length m.history
  pub room : length m.history + frames ≤ m.limit

frames_same : (frames : ℕ) (m n : MachineState) → HasRoom frames m → HasRoom frames n
    → silence (piece_of m) ≡ silence (piece_of n)
    → silence (piece_of (machine_after frames m)) ≡ silence (piece_of (machine_after frames n))
frames_same zero m n first second same = same
frames_same (suc frames) m n first second same =
    let a = framed (piece_of m).tick m (record { at = refl; closed = first.closed })
    (omega (arith, first.room)) in
    let b = framed (piece_of n).tick n (record { at = refl; closed = second.closed })
    (omega (arith, second.room)) in
    frames_same frames (obey m command.Frame).machine (obey n command.Frame).machine
    (record { closed = a.next.closed; room = omega (arith, a.longer, a.limit, first.room) })
    (record { closed = b.next.closed; room = omega (arith, b.longer, b.limit, second.room) })
    (rw (a.piece, b.piece) (apply-same (piece_of m) (piece_of n) entry.Frame same))

frames_by : (frames : ℕ) (m : MachineState)
    → machine_by (flat_map commands_of_beat (replicate frames beat.Frame)) m ≡ machine_after frames m
frames_by zero m = refl
frames_by (suc frames) m = frames_by frames (obey m command.Frame).machine

frames_commands : (frames : ℕ)
    → flat_map commands_of_beat (replicate frames beat.Frame) ≡ replicate frames command.Frame
frames_commands zero = refl
frames_commands (suc frames) = ap (λ commands. command.Frame ∷ commands) (frames_commands frames)

-- a reset of an opened grid is accepted, and leaves it as it is
reset_obeyed : (sheet : Sheet) (seed limit : ℕ) → 0 < limit
    → obey (machine_at_start sheet seed limit) command.Reset
    ≡ extend (machine_at_start sheet seed limit) command.Reset None entry.Reset
unfolding obey rule_against accept entry_of taken_area
reset_obeyed sheet seed limit room = grind arith

-- but for its notes, the piece stays too
reset_leaves : (sheet : Sheet) (seed limit other : ℕ) → 0 < other
    → silence (piece_of (obey (machine_at_start sheet seed other) command.Reset).machine)
    ≡ silence (piece_of (machine_at_start sheet seed limit))
unfolding apply piece_after
reset_leaves sheet seed limit other room = rw (reset_obeyed sheet seed other room) refl

-- ---- both

ready_at_start : (sheet : Sheet) (seed limit : ℕ) → IsSheet sheet
    → IsReady (machine_at_start sheet seed limit)
unfolding piece_after
ready_at_start sheet seed limit is = record {
  closed = omega arith;
  room = omega arith;
  played = record { sheet = is; chord = IsChord-nil };
}

-- a close leaves the piece, but for its notes
closed_same : (m : MachineState) → silence (piece_of (machine_closed m)) ≡ silence (piece_of m)
closed_same m = silence-closes m.opened m.seed m.history (length m.history) m.closed

pub leads_follower : FollowerIsLed
leads_follower lawful m n tells others sheet seed limit other bpm at kept spare tally count opening
    started answers heard is room ends left heard_all =
    let s = lead_at_start bpm at (opened_grid sheet seed limit kept tally) in
    let t = follow_at_start (opened_grid sheet seed other spare count) in
    let lead = performance (lead_part m) s opening answers in
    let follow = performance (follow_part n) t started heard in
    let led = lead_all m tells lawful opening answers s (ready_at_start sheet seed limit is) refl ends in
    let played = follow_played n others started heard t left in
    let beats : beats_from stopped (heard_in heard)
    ≡ beat.Restart ∷ replicate led.frames beat.Frame =
    ap (beats_from stopped) heard_all ∙ led.beats stopped in
    let start = machine_at_start sheet seed other in
    let new = (obey start command.Reset).machine in
    let old = machine_at_start sheet seed limit in
    let obeyed = reset_obeyed sheet seed other (omega (arith, room)) in
    let machine : follow.state.concert.standing.machine
    ≡ machine_closed (machine_after led.frames new) =
    played.1
    ∙ (ap (λ beats. machine_closed (machine_by (flat_map commands_of_beat beats) start)) beats
    ∙ ap machine_closed (frames_by led.frames new)) in
    let frames = frames_same led.frames new old
    (rw obeyed (record { closed = omega arith; room = omega (arith, led.room, room) }))
    (record { closed = omega arith; room = omega (arith, led.room) })
    (reset_leaves sheet seed limit other (omega (arith, room))) in
    let same : silence (piece_of follow.state.concert.standing.machine)
    ≡ silence (piece_of (machine_of lead.state)) =
    ap (λ m. silence (piece_of m)) machine
    ∙ (closed_same (machine_after led.frames new)
    ∙ (frames
    ∙ (sym (closed_same (machine_after led.frames old))
    ∙ ap (λ m. silence (piece_of m)) (sym led.machine)))) in
    record {
      commands = played.0
          ∙ (ap (flat_map commands_of_beat) beats
          ∙ ap (λ commands. command.Reset ∷ commands)
          (frames_commands led.frames ∙ sym led.commands));
      frames = rw led.commands
          (All-replicate (λ c. c ≡ command.Frame) led.frames command.Frame refl);
      grid = ap (λ (p : Piece). p.sheet) same;
      tick = ap (λ (p : Piece). p.tick) same;
    }
