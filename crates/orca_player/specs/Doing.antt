-- What was done of an outline.
use Rattle.std.specs.Prelude.{◌≡◌, ◌≢◌, ◌⊎◌, ◌≤◌, true, false, if◌then◌else◌, List, [], ◌++◌, length, Some, None, IfSome}
use Rattle.orca_base.specs.declared.limits.TheConstants.{MAX_POLLS}
use Rattle.orca_base.specs.Ports.{Sent}
use Rattle.orca_concert.specs.Concerts.{handed_of}
use Rattle.orca_course.specs.Acts.{Act, given, gives, open_after, polls_in, stand_after}
use Rattle.orca_course.specs.Following.{Follows, keys_after_acts, sounding}
use Rattle.orca_course.specs.Performers.{polls_of}
use Rattle.orca_course.specs.Worlds.{Made, Sated, Unsent, World, file_failed, has_failed, inbox_failed}
use Rattle.orca_grid.specs.declared.refusal.GridRefusal.{GridRefusal}
use Rattle.orca_grid.specs.declared.refusal.GridRefusal.TheVariants as refused
use Rattle.orca_notes.specs.Sound.{ends}
use Rattle.orca_script.specs.Runs.{ScriptReadsBack}
use Rattle.orca_term.specs.Picture.{IsScreen}
use Rattle.orca_player.specs.Outlines.{Brought, Outline, Script}
use Rattle.orca_player.specs.Statuses.{status_sends}
use Rattle.orca_player.specs.Takes.{IsTaken}
use Rattle.orca_player.specs.declared.status.Status.{Status}
use Rattle.orca_player.specs.declared.status.Status.TheVariants.{Done, Usage, GridRefused, OutFault, FileFault, ScriptRefused, InboxFault, Memory}

-- the script that is saved is read as its seed and its commands
abbrev pub ReadsBack : Script → Type 0
ReadsBack script = ScriptReadsBack script.seed script.commands

-- a run that is recorded, and that ends as planned, saves one file, and that of what it is recorded as
abbrev pub KeepsTake : Outline → Type 0
KeepsTake o = o.course.ending ≡ Some Done → IfSome o.take (λ take. IsTaken take o.course.acts)

-- ---- all of it

-- how a run ends that would end as planned, by what has failed
abbrev pub status_at : Status → World → Status
status_at Done y = if file_failed y then FileFault else (if has_failed y then OutFault else Done)
status_at planned y = planned

-- the status of a grid that is refused: out of memory is one of its own
abbrev pub refused_status : GridRefusal → Status
refused_status refused.Memory = Memory
refused_status refusal = GridRefused refusal

-- what a planned status says of the faults of files and of the inbox. No run is planned to fail by a
-- port or by memory
abbrev pub IsBlamed : Status → World → World → Type 0
IsBlamed InboxFault x y = inbox_failed y ≡ true
IsBlamed FileFault x y = (inbox_failed y ≡ inbox_failed x) × (file_failed y ≡ true)
IsBlamed (GridRefused refusal) x y =
    (inbox_failed y ≡ inbox_failed x) × (file_failed y ≡ file_failed x) × (refusal ≢ refused.Memory)
IsBlamed (ScriptRefused line column) x y =
    (inbox_failed y ≡ inbox_failed x) × (file_failed y ≡ file_failed x)
IsBlamed Usage x y = (inbox_failed y ≡ inbox_failed x) × (file_failed y ≡ file_failed x)
IsBlamed OutFault x y = ⊥
IsBlamed Memory x y = ⊥
IsBlamed planned x y = inbox_failed y ≡ inbox_failed x

-- acts before the session is opened: no more was sent than what comes first
pub record AreEarly (first : List Sent) (acts : List Act) : Type 0 where
  pub left : List Sent
  pub sends : first ≡ given acts ++ left
  pub unopened : stand_after None acts ≡ None

-- acts that do not stop among the messages of a command
abbrev pub AreSettled : List Sent → List Act → Type 0
AreSettled first acts = (open_after false acts ≡ false) ⊎ AreEarly first acts

-- all of an outline was done, and it ends with no note that sounds
pub record IsWholeRun (o : Outline) (x : World) (status : Status) (y : World) : Type 0 where
  pub planned : Status
  pub ending : o.course.ending ≡ Some planned
  pub settles : status ≡ status_at planned y
  pub blamed : IsBlamed planned x y
  pub made : Made o.course.acts o.course.bill x y
  pub sated : Sated x y
  pub settled : AreSettled o.first o.course.acts
  pub stands : o.course.state ≡ stand_after None o.course.acts
  pub silent : sounding o.course.state ≡ []
  pub follows : o.hands ≡ true → Follows [] o.course.acts
  pub keys : o.hands ≡ true → keys_after_acts [] o.course.acts ≡ []

-- ---- memory was refused

-- a port refused it to a send, the next of these acts: those before it were done, and a device
-- follows them
pub record StopsInSend (o : Outline) (x y : World) : Type 0 where
  pub begun : List Act
  pub left : List Act
  pub splits : o.course.acts ≡ begun ++ left
  pub made : Made begun o.course.bill x y
  pub wanted : Unsent left x.calls y.calls
  pub follows : o.hands ≡ true → Follows [] begun

-- it was refused elsewhere: a beginning was done, up to the end of the last command or further; and
-- then the notes that sounded there were ended, all of them unless a port refused memory to one of
-- these sends, which was the last. A device follows it
pub record ClosesEarly (o : Outline) (x y : World) : Type 0 where
  pub begun : List Act
  pub left : List Act
  pub splits : o.course.acts ≡ begun ++ left
  pub settled : AreSettled o.first begun
  pub closing : List Sent
  pub unsaid : List Sent
  pub closes : handed_of o.hands (ends (sounding (stand_after None begun))) ≡ closing ++ unsaid
  pub all : (unsaid ≡ []) ⊎ Unsent (gives unsaid) x.calls y.calls
  pub made : Made (begun ++ gives closing) o.course.bill x y
  pub follows : o.hands ≡ true → Follows [] (begun ++ gives closing)

-- it was refused before the session was open, by a port that was to be attached or elsewhere: no
-- more was sent than what comes first
pub record RefusedEarly (o : Outline) (x y : World) : Type 0 where
  pub begun : List Act
  pub left : List Act
  pub splits : o.course.acts ≡ begun ++ left
  pub early : AreEarly o.first begun
  pub made : Made begun o.course.bill x y

abbrev pub WasRefused : Outline → World → World → Type 0
WasRefused o x y = StopsInSend o x y ⊎ (ClosesEarly o x y ⊎ RefusedEarly o x y)

-- ---- either

-- all of an outline was done, or memory was refused
abbrev pub CameSo : Outline → World → Status → World → Type 0
CameSo o x status y = IsWholeRun o x status y ⊎ ((status ≡ Memory) × WasRefused o x y)

-- a record, so that its arguments are found wherever one is cited
pub record Came (o : Outline) (x : World) (status : Status) (y : World) : Type 0 where
  pub came : CameSo o x status y

-- an outline was done by what the outside brought: the polls that were answered are exactly those of
-- its acts, and no more than may be; the screen is one that a view may have; the script that was
-- saved reads back; and the file that was saved is that of what was recorded
pub record CameBy (o : Brought → Outline) (x : World) (status : Status) (y : World) : Type 0 where
  pub brought : Brought
  pub polls : polls_in (o brought).course.acts ≡ polls_of brought.hearings
  pub few : length brought.hearings ≤ MAX_POLLS
  pub came : Came (o brought) x status y
  pub sized : IfSome (o brought).screen IsScreen
  pub reads : status ≢ Memory → IfSome (o brought).given ReadsBack
  pub takes : status ≢ Memory → KeepsTake (o brought)

-- ---- the line of the status

-- the line of a status was refused memory, by its port
pub record IsUnsaid (x y : World) : Type 0 where
  pub status : Status
  pub unsent : Unsent (gives (status_sends status)) x.calls y.calls

-- the line of a status was sent, as the last send; or memory was refused for it
abbrev pub SaidSo : Status → Status → List Sent → World → World → Type 0
SaidSo status result said x y =
    ((result ≡ status) × (said ≡ status_sends status) × Sated x y)
    ⊎ ((result ≡ Memory) × (((said ≡ status_sends Memory) × Sated x y)
    ⊎ ((said ≡ []) × IsUnsaid x y)))

pub record Said (status result : Status) (x y : World) : Type 0 where
  pub said : List Sent
  pub made : Made (gives said) 0 x y
  pub so : SaidSo status result said x y
  -- for a success nothing is done
  pub still : status ≡ Done → (result ≡ Done) × (y ≡ x)
