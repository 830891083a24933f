-- What a run did of its outline, and what caused its status.
use Rattle.std.specs.Prelude.{◌≡◌, ◌≢◌, ◌⊎◌, ◌≤◌, ℕ, true, false, List, [], ◌++◌, length, IfSome, IsSomeAnd}
use Rattle.orca_base.specs.declared.limits.TheConstants.{MAX_POLLS}
use Rattle.orca_base.specs.Ports.{Sent}
use Rattle.orca_course.specs.Acts.{Act, ArePrintable, given, gives, polls_in}
use Rattle.orca_course.specs.Following.{Follows, midi_sent}
use Rattle.orca_course.specs.Performers.{polls_of}
use Rattle.orca_course.specs.Worlds.{IsSound, Made, Sated, World, file_failed, has_failed, inbox_failed}
use Rattle.orca_grid.specs.declared.refusal.GridRefusal.TheVariants as refused
use Rattle.orca_live.specs.Paintings.{ShowsPictures}
use Rattle.orca_notes.specs.Device.{IsFair, device}
use Rattle.orca_words.specs.Requests.{request_of}
use Rattle.orca_player.specs.Doing.{IsUnsaid, KeepsTake, ReadsBack, WasRefused}
use Rattle.orca_player.specs.Outlines.{Heard, Outline, outline}
use Rattle.orca_player.specs.Ready.{IsReady}
use Rattle.orca_player.specs.Statuses.{status_sends}
use Rattle.orca_player.specs.declared.status.Status.{Status}
use Rattle.orca_player.specs.declared.status.Status.TheVariants.{Done, Usage, GridRefused, OutFault, FileFault, ScriptRefused, InboxFault, Memory}

-- ---- how it ended

-- a run that would end as planned: a send or an attach that fails gives OutFault if all was done, and
-- so does a save that fails with FileFault
abbrev pub EndsAs : Status → Status → Type 0
EndsAs planned OutFault = planned ≡ Done
EndsAs planned FileFault = (planned ≡ Done) ⊎ (planned ≡ FileFault)
EndsAs planned status = planned ≡ status

-- the causes of a status, by the calls of a run before which nothing had failed: a fault is told only
-- if a call failed so, and out of memory is never told as a refused grid
abbrev pub IsCaused : Status → World → Type 0
IsCaused Done y = IsSound y
IsCaused Memory y = Unit {0}
IsCaused InboxFault y = inbox_failed y ≡ true
IsCaused FileFault y = (file_failed y ≡ true) × (inbox_failed y ≡ false)
IsCaused OutFault y = (has_failed y ≡ true) × (file_failed y ≡ false) × (inbox_failed y ≡ false)
IsCaused Usage y = (file_failed y ≡ false) × (inbox_failed y ≡ false)
IsCaused (GridRefused refusal) y =
    (file_failed y ≡ false) × (inbox_failed y ≡ false) × (refusal ≢ refused.Memory)
IsCaused (ScriptRefused line column) y = (file_failed y ≡ false) × (inbox_failed y ≡ false)
IsCaused ended y = inbox_failed y ≡ false

-- ---- what was done

-- all of an outline was done. A device that was sent all MIDI messages follows the run: no key is
-- started that is on or ended that is off, wherever the run stands the keys that are on are those of
-- the notes that sound, and at the end none is
pub record WasDone (o : Outline) (x : World) (status : Status) (y : World) : Type 0 where
  pub ends : IsSomeAnd o.course.ending (λ planned. EndsAs planned status)
  pub made : Made o.course.acts o.course.bill x y
  pub sated : Sated x y
  pub follows : o.hands ≡ true → Follows [] o.course.acts
  pub fair : o.hands ≡ true → IsFair [] (midi_sent (given o.course.acts))
  pub silent : o.hands ≡ true → device [] (midi_sent (given o.course.acts)) ≡ []

-- what was done of an outline, by the status
unfoldable pub Went : Outline → World → Status → World → Type 0
Went o x Memory y = WasRefused o x y
Went o x status y = WasDone o x status y

-- the last send: the line of the status, and no call was refused memory; out of memory it is
-- missing if its port refused memory for a line
abbrev pub IsLast : Status → List Sent → World → World → Type 0
IsLast Memory said x y =
    ((said ≡ status_sends Memory) × Sated x y) ⊎ ((said ≡ []) × IsUnsaid x y)
IsLast status said x y = (said ≡ status_sends status) × Sated x y

-- a whole run: what its words ask for, by what it heard of the outside, and the line of its status.
-- If all that the words ask for can be done, and no call failed, all was done, unless memory was
-- refused
pub record Ran (words : List (List ℕ)) (x : World) (status : Status) (y : World) : Type 0 where
  pub heard : Heard
  -- how the outside stood before the line of the status
  pub over : World
  pub went : Went (outline words heard) x status over
  pub said : List Sent
  pub last : IsLast status said over y
  pub line : Made (gives said) 0 over y
  -- the polls that were heard are exactly those among the acts, and no more than may be
  pub polls : polls_in (outline words heard).course.acts ≡ polls_of heard.brought.hearings
  pub few : length heard.brought.hearings ≤ MAX_POLLS
  -- wherever a picture is painted for a hand in a beginning that was done, each terminal of the
  -- size that this hand told last, whatever it showed, that was sent all bytes for it since then
  -- shows it; a beginning that was done has pictures of printable cells alone
  pub shows : (begun left : List Act) → (outline words heard).course.acts ≡ begun ++ left
      → ArePrintable begun
      → IfSome (outline words heard).screen
      (λ screen. (hand : ℕ) → ShowsPictures hand screen [] begun)
  -- the script that is saved is read as its seed and its commands
  pub reads : status ≢ Memory → IfSome (outline words heard).given ReadsBack
  -- the song or the wave that is saved is that of the messages of the run
  pub takes : status ≢ Memory → KeepsTake (outline words heard)
  pub complete : IsSomeAnd (request_of words) (λ request. IsReady request heard)
      → IsSound y → (status ≡ Done) ⊎ (status ≡ Memory)
