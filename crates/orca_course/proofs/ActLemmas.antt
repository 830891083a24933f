-- What is read off acts, and then off others.
use Rattle.std.proofs.Common.{◌≡◌, List, [], ◌∷◌, ◌++◌, refl, ap, arith}
use Rattle.std.specs.Prelude.{ℕ, Bool, true, false, ◌||◌, Option, Some, None}
use Rattle.orca_base.specs.Ports.{Sent}
use Rattle.orca_rig.specs.Arrived.{is_ending}
use Rattle.orca_course.specs.Acts.{Act, AreDeaf, AreMute, ArePrintable, calls_in, commands_in, given, gives, open_after, polls_in, stand_after}
use Rattle.orca_course.specs.Acts.Act.{Await, Listen, Stand}
use Rattle.orca_course.specs.Answered.{is_failure}
use Rattle.orca_course.specs.Standings.{Standing}

pub given-append : (xs ys : List Act) → given (xs ++ ys) ≡ given xs ++ given ys
given-append [] ys = refl
given-append (x ∷ xs) ys = grind (arith, given-append xs ys)

pub calls_in-append : (xs ys : List Act) → calls_in (xs ++ ys) ≡ calls_in xs ++ calls_in ys
calls_in-append [] ys = refl
calls_in-append (x ∷ xs) ys = grind (arith, calls_in-append xs ys)

-- the sends among acts are calls
pub given-calls : (acts : List Act) → given (calls_in acts) ≡ given acts
given-calls [] = refl
given-calls (x ∷ acts) = grind (arith, given-calls acts)

pub polls_in-append : (xs ys : List Act) → polls_in (xs ++ ys) ≡ polls_in xs ++ polls_in ys
polls_in-append [] ys = refl
polls_in-append (x ∷ xs) ys = grind (arith, polls_in-append xs ys)

pub commands_in-append : (xs ys : List Act)
    → commands_in (xs ++ ys) ≡ commands_in xs ++ commands_in ys
commands_in-append [] ys = refl
commands_in-append (x ∷ xs) ys = grind (arith, commands_in-append xs ys)

-- whether the inbox has ended, after acts
abbrev pub ended_after : List Act → Bool → Bool
ended_after [] before = before
ended_after (Await poll ∷ acts) before = ended_after acts (before || is_ending poll.answer)
ended_after (_ ∷ acts) before = ended_after acts before

pub ended_after-append : (xs ys : List Act) (b : Bool)
    → ended_after (xs ++ ys) b ≡ ended_after ys (ended_after xs b)
ended_after-append [] ys b = refl
ended_after-append (x ∷ xs) ys b = grind (arith, λ (c : Bool). ended_after-append xs ys c)

pub ended_after-calls : (acts : List Act) (b : Bool)
    → ended_after (calls_in acts) b ≡ ended_after acts b
ended_after-calls [] b = refl
ended_after-calls (x ∷ acts) b = grind (arith, λ (c : Bool). ended_after-calls acts c)

-- whether the inbox has failed, after acts
abbrev pub lost_after : List Act → Bool → Bool
lost_after [] before = before
lost_after (Listen name hands None ∷ acts) before = lost_after acts true
lost_after (Await poll ∷ acts) before = lost_after acts (before || is_failure poll.answer)
lost_after (_ ∷ acts) before = lost_after acts before

pub lost_after-append : (xs ys : List Act) (b : Bool)
    → lost_after (xs ++ ys) b ≡ lost_after ys (lost_after xs b)
lost_after-append [] ys b = refl
lost_after-append (x ∷ xs) ys b = grind (arith, λ (c : Bool). lost_after-append xs ys c)

pub lost_after-calls : (acts : List Act) (b : Bool)
    → lost_after (calls_in acts) b ≡ lost_after acts b
lost_after-calls [] b = refl
lost_after-calls (x ∷ acts) b = grind (arith, λ (c : Bool). lost_after-calls acts c)

-- how many hands there are, after acts
abbrev pub seats_after : List Act → Option ℕ → Option ℕ
seats_after [] before = before
seats_after (Listen name hands (Some at) ∷ acts) before = seats_after acts (Some hands)
seats_after (Listen name hands None ∷ acts) before = seats_after acts None
seats_after (_ ∷ acts) before = seats_after acts before

pub seats_after-append : (xs ys : List Act) (seats : Option ℕ)
    → seats_after (xs ++ ys) seats ≡ seats_after ys (seats_after xs seats)
seats_after-append [] ys seats = refl
seats_after-append (x ∷ xs) ys seats = grind (arith, λ (s : Option ℕ). seats_after-append xs ys s)

pub seats_after-calls : (acts : List Act) (seats : Option ℕ)
    → seats_after (calls_in acts) seats ≡ seats_after acts seats
seats_after-calls [] seats = refl
seats_after-calls (x ∷ acts) seats = grind (arith, λ (s : Option ℕ). seats_after-calls acts s)

pub stand_after-append : (s : Option Standing) (xs ys : List Act)
    → stand_after s (xs ++ ys) ≡ stand_after (stand_after s xs) ys
stand_after-append s [] ys = refl
stand_after-append s (x ∷ xs) ys = grind (arith, λ (t : Option Standing). stand_after-append t xs ys)

pub open_after-append : (b : Bool) (xs ys : List Act)
    → open_after b (xs ++ ys) ≡ open_after (open_after b xs) ys
open_after-append b [] ys = refl
open_after-append b (x ∷ xs) ys = grind (arith, λ (c : Bool). open_after-append c xs ys)

-- sends alone

pub given-gives : (sends : List Sent) → given (gives sends) ≡ sends
given-gives [] = refl
given-gives (sent ∷ sends) = ap (λ more. sent ∷ more) (given-gives sends)

-- messages that are handed out, and where the run stands then, are no commands
pub handed_commands : (sends : List Sent) (t : Standing)
    → commands_in (gives sends ++ Stand t ∷ []) ≡ []
handed_commands [] t = refl
handed_commands (sent ∷ sends) t = handed_commands sends t

-- acts that do not ask the inbox

pub AreDeaf-append : (xs ys : List Act) → AreDeaf xs → AreDeaf ys → AreDeaf (xs ++ ys)
AreDeaf-append [] ys first second = second
AreDeaf-append (x ∷ xs) ys first second = grind (arith, AreDeaf-append xs ys)

pub AreDeaf-gives : (sends : List Sent) → AreDeaf (gives sends)
AreDeaf-gives [] = tt
AreDeaf-gives (sent ∷ sends) = AreDeaf-gives sends

pub polls-deaf : (acts : List Act) → AreDeaf acts → polls_in acts ≡ []
polls-deaf [] deaf = refl
polls-deaf (x ∷ acts) deaf = grind (arith, polls-deaf acts)

pub ended-deaf : (acts : List Act) (b : Bool) → AreDeaf acts → ended_after acts b ≡ b
ended-deaf [] b deaf = refl
ended-deaf (x ∷ acts) b deaf = grind (arith, ended-deaf acts)

pub lost-deaf : (acts : List Act) (b : Bool) → AreDeaf acts → lost_after acts b ≡ b
lost-deaf [] b deaf = refl
lost-deaf (x ∷ acts) b deaf = grind (arith, lost-deaf acts)

pub seats-deaf : (acts : List Act) (seats : Option ℕ) → AreDeaf acts
    → seats_after acts seats ≡ seats
seats-deaf [] seats deaf = refl
seats-deaf (x ∷ acts) seats deaf = grind (arith, seats-deaf acts)

-- acts whose pictures a terminal can show

pub ArePrintable-append : (xs ys : List Act) → ArePrintable xs → ArePrintable ys
    → ArePrintable (xs ++ ys)
ArePrintable-append [] ys first second = second
ArePrintable-append (x ∷ xs) ys first second = grind (arith, ArePrintable-append xs ys)

-- acts without messages

pub open-mute : (acts : List Act) → AreMute acts → open_after false acts ≡ false
open-mute [] mute = refl
open-mute (x ∷ acts) mute = grind (arith, open-mute acts)

pub stand-mute : (s : Option Standing) (acts : List Act) → AreMute acts → stand_after s acts ≡ s
stand-mute s [] mute = refl
stand-mute s (x ∷ acts) mute = grind (arith, stand-mute s acts)

pub AreMute-front : (xs ys : List Act) → AreMute (xs ++ ys) → AreMute xs
AreMute-front [] ys mute = tt
AreMute-front (x ∷ xs) ys mute = grind (arith, AreMute-front xs ys)
