-- A player does not ask the inbox: the loop alone does. And it is always the same hands that are
-- shown a picture.
use Rattle.std.proofs.Common.{◌≡◌, ℕ, zero, suc, List, [], ◌∷◌, ◌++◌, length, refl, ◌∙◌, ap}
use Rattle.std.proofs.lemmas.List.{length-set}
use Rattle.std.specs.Prelude.{None}
use Rattle.orca_base.specs.declared.command.Command.{Command}
use Rattle.orca_base.specs.declared.command.Command.TheVariants.{Frame}
use Rattle.orca_base.specs.MarkSet.{MarkSet}
use Rattle.orca_concert.specs.Concerts.{command_course as obey_course, close_course as silence_course, concert_with}
use Rattle.orca_concert.proofs.DeafLemmas.{close_is_deaf, command_is_deaf}
use Rattle.orca_course.specs.Acts.{Act, AreDeaf}
use Rattle.orca_course.specs.Acts.Act.{Show}
use Rattle.orca_course.specs.Courses.{mapped, onward}
use Rattle.orca_course.specs.Performers.{IsDeaf, KeepsSeats}
use Rattle.orca_course.proofs.ActLemmas.{AreDeaf-append}
use Rattle.orca_jam.specs.declared.owner.TheConstants.{NOBODY}
use Rattle.orca_term.specs.Viewing.{painting_bytes}
use Rattle.orca_live.specs.Performing.{hand_course, hush_course, live_part, picture_course, picture_for, view_acts}
use Rattle.orca_live.specs.Quiet.{quiet_manner}
use Rattle.orca_live.specs.States.{LiveState, Viewed, view_at}
use Rattle.orca_live.specs.Carrying.{Carries, take_carried}

-- ---- the inbox

deaf_views : (hand : ℕ) (bytes : List ℕ) (acts : List Act) → AreDeaf acts
    → AreDeaf (view_acts hand bytes ++ acts)
deaf_views hand [] acts deaf = deaf
deaf_views zero (byte ∷ bytes) acts deaf = deaf
deaf_views (suc hand) (byte ∷ bytes) acts deaf = deaf

command_deaf : (who : ℕ) (command : Command) (s : LiveState)
    → AreDeaf (hand_course who command s).acts
unfolding hand_course mapped
command_deaf who command s =
    command_is_deaf quiet_manner 0 command (concert_with s.standing s.sent)

close_deaf : (s : LiveState) → AreDeaf (hush_course s).acts
unfolding hush_course mapped
close_deaf s = close_is_deaf quiet_manner (concert_with s.standing s.sent)

picture_deaf : (marks : List MarkSet) (hand : ℕ) (s : LiveState)
    → AreDeaf (picture_course marks hand s).acts
unfolding picture_course
picture_deaf marks hand s =
    let cells = picture_for hand marks s in
    let v = view_at hand s in
    deaf_views hand (painting_bytes v.screen v.shown cells) (Show hand cells ∷ []) tt

pub deaf_carries : Carries (λ who end r xs t. AreDeaf xs)
deaf_carries = record {
  none = λ who s t alike. tt;
  both = λ who end r s t xs ys first second. AreDeaf-append xs ys first second;
  leaves = λ who s. tt;
  full = λ s is. tt;
  command = λ hand command s other. command_deaf hand command s;
  frame = λ s. command_deaf NOBODY Frame s;
  struck = λ who hand key s. tt;
  single = λ hand s deaf. deaf;
  denied = λ who hand denial s. tt;
  kept = λ who hand bytes s. tt;
  save = λ who name bytes s saved. tt;
  append = λ who name byte bytes s named is. tt;
  paint = λ who marks hand s is. picture_deaf marks hand s;
  screen = λ who hand d s is. tt;
}

pub live_is_deaf : IsDeaf live_part
unfolding IsDeaf
live_is_deaf i s = take_carried deaf_carries (λ who name s. tt) (λ who. close_deaf) None i s

-- ---- the hands that are shown a picture

command_views : (who : ℕ) (command : Command) (s : LiveState)
    → (hand_course who command s).state.views ≡ s.views
unfolding hand_course obey_course onward mapped
command_views who command s = refl

close_views : (s : LiveState) → (hush_course s).state.views ≡ s.views
unfolding hush_course silence_course onward mapped
close_views s = refl

picture_views : (marks : List MarkSet) (hand : ℕ) (s : LiveState)
    → length (picture_course marks hand s).state.views ≡ length s.views
unfolding picture_course
picture_views marks hand s = length-set s.views hand _

-- as many
pub same_views : (s t : LiveState) → t.views ≡ s.views → length t.views ≡ length s.views
same_views s t same = ap (λ (views : List Viewed). length views) same

pub views_carries : Carries (λ who end s acts t. length t.views ≡ length s.views)
views_carries = record {
  none = λ who s t alike. same_views s t alike.views;
  both = λ who end r s t xs ys first second. second ∙ first;
  leaves = λ who s. refl;
  full = λ s is. refl;
  command = λ hand command s other.
      same_views s (hand_course hand command s).state (command_views hand command s);
  frame = λ s. same_views s (hand_course NOBODY Frame s).state (command_views NOBODY Frame s);
  struck = λ who hand key s. refl;
  single = λ hand s same. same;
  denied = λ who hand denial s. refl;
  kept = λ who hand bytes s. refl;
  save = λ who name bytes s saved. refl;
  append = λ who name byte bytes s named is. refl;
  paint = λ who marks hand s is. picture_views marks hand s;
  screen = λ who hand d s is. length-set s.views hand _;
}

pub live_is_steady : KeepsSeats live_part
unfolding KeepsSeats
live_is_steady i s =
    take_carried views_carries (λ who name s. refl)
    (λ who s. same_views s (hush_course s).state (close_views s)) None i s
