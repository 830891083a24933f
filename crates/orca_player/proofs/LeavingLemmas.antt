-- How a room is left: nothing is sent, asked or done then.
use Rattle.std.proofs.Common.{◌≡◌, Bool, true, false, ℕ, List, [], ◌∷◌, ◌++◌, refl, ◌∙◌, ap, append-nil}
use Rattle.std.specs.Prelude.{◌||◌, if◌then◌else◌, Option, Some, None}
use Rattle.orca_course.specs.Acts.{Act, AreDeaf, AreMute, commands_in, polls_in}
use Rattle.orca_course.specs.Acts.Act.{Learn, Remove}
use Rattle.orca_course.specs.Courses.{Course}
use Rattle.orca_course.specs.declared.ending.Ending.{Ending}
use Rattle.orca_course.specs.declared.item.Losses.{Losses}
use Rattle.orca_course.proofs.ActLemmas.{commands_in-append, polls-deaf, polls_in-append}
use Rattle.orca_live.specs.States.{LiveState}
use Rattle.orca_player.specs.Outlines.{closings, leaving, leavings}

-- nothing is sent, asked or done, and the run stays where it stands
pub record AreQuiet (acts : List Act) : Type 0 where
  pub mute : AreMute acts
  pub deaf : AreDeaf acts
  pub commands : commands_in acts ≡ []

left_by : (name : List ℕ) (came : Losses) (stays : Bool)
    → AreQuiet (Learn came ∷ (if stays then [] else Remove name ∷ []))
left_by name came true = record { mute = tt; deaf = tt; commands = refl }
left_by name came false = record { mute = tt; deaf = tt; commands = refl }

pub leavings_quiet : (room : Option (List ℕ)) (came : Losses) (loose : Bool)
    → AreQuiet (leavings room came loose)
leavings_quiet None came loose = record { mute = tt; deaf = tt; commands = refl }
leavings_quiet (Some name) came loose = left_by name came (came.unstored || loose)

pub closings_quiet : (room : Option (List ℕ)) (ending : Option Ending) (came : Losses)
    (loose : Bool) → AreQuiet (closings room ending came loose)
closings_quiet room None came loose = record { mute = tt; deaf = tt; commands = refl }
closings_quiet room (Some ending) came loose = leavings_quiet room came loose

-- without a room there is nothing to leave
pub closings_none : (ending : Option Ending) (came : Losses) (loose : Bool)
    → closings None ending came loose ≡ []
closings_none None came loose = refl
closings_none (Some ending) came loose = refl

pub polls-left : (room : Option (List ℕ)) (came : Losses) (c : Course LiveState Ending)
    → polls_in (leaving room came c).acts ≡ polls_in c.acts
polls-left room came c =
    let last = closings room c.ending came c.state.loose in
    let quiet = closings_quiet room c.ending came c.state.loose in
    polls_in-append c.acts last
    ∙ (ap (λ more. polls_in c.acts ++ more) (polls-deaf last quiet.deaf)
    ∙ append-nil (polls_in c.acts))

pub commands-left : (room : Option (List ℕ)) (came : Losses) (c : Course LiveState Ending)
    → commands_in (leaving room came c).acts ≡ commands_in c.acts
commands-left room came c =
    let quiet = closings_quiet room c.ending came c.state.loose in
    commands_in-append c.acts (closings room c.ending came c.state.loose)
    ∙ (ap (λ more. commands_in c.acts ++ more) quiet.commands
    ∙ append-nil (commands_in c.acts))
