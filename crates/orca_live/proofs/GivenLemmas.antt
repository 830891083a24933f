-- Which acts give commands, what changes nothing that matters to the session, and what the end of a
-- performance leaves.
use Rattle.std.proofs.Common.{◌≡◌, ℕ, zero, suc, arith, Bool, true, List, [], ◌∷◌, ◌++◌, refl, ◌∙◌, ap, append-nil, false}
use Rattle.std.specs.Prelude.{if◌then◌else◌, map, max, min, slice_index_or, slice_set, Option, Some, None}
use Rattle.orca_base.specs.declared.command.Command.{Command}
use Rattle.orca_base.specs.MarkSet.{MarkSet}
use Rattle.orca_base.specs.Grids.{Size}
use Rattle.orca_concert.specs.Concerts.{close_course as silence_course, command_course as obey_course}
use Rattle.orca_course.specs.Acts.{commands_in, Act}
use Rattle.orca_course.specs.Acts.Act.{Show}
use Rattle.orca_course.specs.Courses.{Course, each, mapped, onward, still}
use Rattle.orca_course.specs.declared.ending.Stop.{Stop}
use Rattle.orca_course.proofs.CourseLemmas.{onward_goes}
use Rattle.orca_course.specs.Standings.{standing_closed}
use Rattle.orca_course.proofs.ActLemmas.{commands_in-append, handed_commands}
use Rattle.orca_edit.specs.Machines.{preview_of}
use Rattle.orca_jam.specs.Crews.{fitted_player}
use Rattle.orca_jam.specs.declared.player.Player.{Player}
use Rattle.orca_term.specs.Traffic.{nothing_sent}
use Rattle.orca_term.specs.declared.cell.Cell.{Cell}
use Rattle.orca_live.specs.Performing.{additions, hush_course, hand_course, finish_course, header_course, if_named, journal_course, saves_course, last_grid_course, last_script_course, lines_course, paint_course, painted_course, picture_course, preview_course, save_course, script_course, show_course, view_acts, write_course}
use Rattle.orca_live.specs.Starting.{nothing_failed}
use Rattle.orca_live.specs.States.{LiveState, Viewed, begun_name, dims_at, fitted, hands_in, is_painted_for, piece_at, unpainted}

-- ---- the commands of acts

-- acts without a command after others
pub commands_before : (xs ys : List Act) → commands_in ys ≡ []
    → commands_in (xs ++ ys) ≡ commands_in xs
commands_before xs ys none = simp (commands_in-append, none, append-nil)

-- a command is given once
pub command_once : (who : ℕ) (command : Command) (s : LiveState)
    → commands_in (hand_course who command s).acts ≡ command ∷ []
unfolding hand_course obey_course onward mapped
command_once who command s = simp (handed_commands, commands_in-append)

views_commands : (hand : ℕ) (bytes : List ℕ) (cells : List Cell)
    → commands_in (view_acts hand bytes ++ Show hand cells ∷ []) ≡ []
views_commands hand [] cells = refl
views_commands zero (byte ∷ bytes) cells = refl
views_commands (suc hand) (byte ∷ bytes) cells = refl

pub picture_commands : (marks : List MarkSet) (hand : ℕ) (s : LiveState)
    → commands_in (picture_course marks hand s).acts ≡ []
unfolding picture_course
picture_commands marks hand s = simp views_commands

-- ---- what matters to the session

-- terminals of these sizes, for which nothing was painted
abbrev pub blank : List Viewed → List Viewed
blank views = map (λ (v : Viewed). unpainted v.screen) views

-- no moments, no pace, nothing that is shown or told, nothing that was sent, no line that waits for the journal, nothing
-- loose, and no failure
abbrev pub plain : LiveState → LiveState
plain s = record s {
  pace = record { bpm = 0; parts = 0; due = 0 };
  views = blank s.views;
  unwritten = [];
  loose = false;
  at = 0;
  came = nothing_failed;
  words = [];
  sent = nothing_sent;
}

-- and the editors as they fit the grid
abbrev pub core : LiveState → LiveState
core s = plain (fitted s)

pub min_twice : (a b : ℕ) → min (min a b) b ≡ min a b
min_twice a b = omega arith

pub side_twice : (a b : ℕ) → max 1 (min (max 1 (min a b)) b) ≡ max 1 (min a b)
side_twice a b = omega arith

player_twice : (d : Size) (p : Player)
    → fitted_player d (fitted_player d p) ≡ fitted_player d p
player_twice d p = simp (min_twice, side_twice)

-- an editor is fitted once
pub players_twice : (d : Size) (players : List Player)
    → map (fitted_player d) (map (fitted_player d) players) ≡ map (fitted_player d) players
players_twice d [] = refl
players_twice d (p ∷ players) =
    ap (λ (q : Player). q ∷ map (fitted_player d) (map (fitted_player d) players)) (player_twice d p)
    ∙ ap (λ (rest : List Player). fitted_player d p ∷ rest) (players_twice d players)

pub core_fitted : (s : LiveState) → core (fitted s) ≡ core s
core_fitted s =
    ap (λ (players : List Player). plain (record s { crew = record s.crew { players = players } }))
    (players_twice (dims_at s) s.crew.players)

pub blank_twice : (views : List Viewed) → blank (blank views) ≡ blank views
blank_twice [] = refl
blank_twice (v ∷ views) =
    ap (λ (rest : List Viewed). unpainted v.screen ∷ rest) (blank_twice views)

pub core_plain : (s : LiveState) → core (plain s) ≡ core s
core_plain s =
    ap (λ (views : List Viewed). record (core s) { views = views }) (blank_twice s.views)

pub core_twice : (s : LiveState) → core (core s) ≡ core s
core_twice s =
    ap (λ (views : List Viewed). record (core (fitted s)) { views = views }) (blank_twice s.views)
    ∙ core_fitted s

-- a picture is nothing to what matters
blank_shown : (views : List Viewed) (hand : ℕ) (other : Viewed) (shown : Option (List Cell))
    → blank (slice_set views hand (record (slice_index_or views hand other) { shown = shown }))
    ≡ blank views
blank_shown [] hand other shown = refl
blank_shown (v ∷ views) zero other shown = refl
blank_shown (v ∷ views) (suc hand) other shown =
    ap (λ (rest : List Viewed). unpainted v.screen ∷ rest) (blank_shown views hand other shown)

-- a course that gives no command and changes nothing that matters, and after which it goes on
pub record IsAside (s : LiveState) (c : Course LiveState Stop) : Type 0 where
  pub commands : commands_in c.acts ≡ []
  pub same : core c.state ≡ core s
  pub goes : c.ending ≡ None

aside_named : (name : Option (List ℕ)) (next : List ℕ → LiveState → Course LiveState Stop)
    (s : LiveState) → ((name : List ℕ) → IsAside s (next name s)) → IsAside s (if_named name next s)
aside_named None next s aside = record { commands = refl; same = refl; goes = refl }
aside_named (Some name) next s aside = aside name

aside_then : (s : LiveState) (c : Course LiveState Stop) (next : LiveState → Course LiveState Stop)
    → IsAside s c → ((t : LiveState) → IsAside t (next t)) → IsAside s (onward c next)
aside_then s c next first more =
    let rest = more c.state in
    rw (onward_goes c next first.goes) (record {
      commands = commands_before c.acts (next c.state).acts rest.commands ∙ first.commands;
      same = rest.same ∙ first.same;
      goes = rest.goes;
    })

added_commands : (name bytes : List ℕ) → commands_in (additions name bytes) ≡ []
added_commands name [] = refl
added_commands name (byte ∷ bytes) = refl

pub write_aside : (s : LiveState) → IsAside s (write_course s)
unfolding write_course lines_course
write_aside s =
    aside_named s.setting.journal lines_course s
    (λ name. record { commands = added_commands name s.unwritten; same = refl; goes = refl })

pub journal_aside : (s : LiveState) → IsAside s (journal_course s)
unfolding journal_course header_course
journal_aside s =
    aside_named (begun_name s.setting) header_course s
    (λ name. record { commands = refl; same = refl; goes = refl })

picture_aside : (marks : List MarkSet) (hand : ℕ) (s : LiveState)
    → IsAside s (picture_course marks hand s)
unfolding picture_course
picture_aside marks hand s = record {
  commands = views_commands hand _ _;
  same = ap (λ (views : List Viewed). record (core s) { views = views })
      (blank_shown s.views hand (unpainted s.setting.screen) _);
  goes = refl;
}

painted_if : (is : Bool) (marks : List MarkSet) (hand : ℕ) (s : LiveState)
    → IsAside s (if is then picture_course marks hand s else still s)
painted_if true marks hand s = picture_aside marks hand s
painted_if false marks hand s = record { commands = refl; same = refl; goes = refl }

paints_aside : (marks : List MarkSet) (hands : List ℕ) (s : LiveState)
    → IsAside s (each (painted_course marks) hands s)
unfolding each painted_course
paints_aside marks [] s = record { commands = refl; same = refl; goes = refl }
paints_aside marks (hand ∷ hands) s =
    aside_then s (painted_course marks hand s) (each (painted_course marks) hands)
    (painted_if (is_painted_for hand s) marks hand s) (paints_aside marks hands)

pub paint_aside : (marks : List MarkSet) (s : LiveState) → IsAside s (paint_course marks s)
unfolding paint_course
paint_aside marks s =
    let aside = paints_aside marks (hands_in s) (fitted s) in
    record { commands = aside.commands; same = aside.same ∙ core_fitted s; goes = aside.goes }

pub show_aside : (s : LiveState) → IsAside s (show_course s)
unfolding show_course preview_course
show_aside s =
    let paint = paint_aside (preview_of (piece_at s)) s in
    record { commands = paint.commands; same = paint.same; goes = paint.goes }

last_aside : (s : LiveState) → IsAside s (saves_course s)
unfolding saves_course last_grid_course last_script_course save_course script_course
last_aside s =
    aside_then s (if_named s.setting.save save_course s)
    (λ t. if_named t.setting.script script_course t)
    (aside_named s.setting.save save_course s
    (λ name. record { commands = refl; same = refl; goes = refl }))
    (λ t. aside_named t.setting.script script_course t
    (λ name. record { commands = refl; same = refl; goes = refl }))

-- ---- the end

-- acts that give no command, keep those that were given, and close the session
pub record Closes (s : LiveState) (acts : List Act) (t : LiveState) : Type 0 where
  pub commands : (before : List Act) → commands_in (before ++ acts) ≡ commands_in before
  pub given : t.given ≡ s.given
  pub standing : t.standing ≡ standing_closed s.standing

-- it goes on after the close
close_goes : (s : LiveState) → (hush_course s).ending ≡ None
unfolding hush_course silence_course onward mapped
close_goes s = refl

-- those of a close, and then others without a command
closes_with : (s : LiveState) (acts : List Act) → commands_in acts ≡ []
    → Closes s ((hush_course s).acts ++ acts) (hush_course s).state
unfolding hush_course silence_course onward mapped
closes_with s acts none = record {
  commands = λ before.
      commands_before before ((hush_course s).acts ++ acts)
      (commands_before (hush_course s).acts acts none ∙ simp (handed_commands, commands_in-append));
  given = refl;
  standing = refl;
}

pub finish_closes : (s : LiveState) → Closes s (finish_course s).acts (finish_course s).state
unfolding finish_course
finish_closes s =
    let c = hush_course s in
    let t = c.state in
    let after = aside_then t (write_course t) saves_course (write_aside t) last_aside in
    let closes = closes_with s _ after.commands in
    rw (onward_goes c (λ t. onward (write_course t) saves_course) (close_goes s)) (record {
      commands = closes.commands;
      given = ap (λ (u : LiveState). u.given) after.same ∙ closes.given;
      standing = ap (λ (u : LiveState). u.standing) after.same ∙ closes.standing;
    })
