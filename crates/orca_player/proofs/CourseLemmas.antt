-- What was done of an opened session, and the courses of a list of commands and of a performance.
use Rattle.std.proofs.Common.{◌≡◌, ◌≢◌, ◌⊎◌, inl, inr, ℕ, ◌+◌, List, [], ◌∷◌, ◌++◌, append-nil, refl, sym, ◌∙◌, ap, subst, arith}
use Rattle.std.specs.Prelude.{◌≤◌, Bool, true, false, length, Option, Some, None, IfSome, Ok, Result, Err, unwrap_or}
use Rattle.std.specs.Option.{option_map_or}
use Rattle.std.proofs.lemmas.List.{length-replicate, map-append}
use Rattle.orca_base.specs.Grids.{Sheet}
use Rattle.orca_base.specs.Ports.{Sent}
use Rattle.orca_clock.specs.Followers.{Followed}
use Rattle.orca_clock.specs.Leaders.{Led}
use Rattle.orca_concert.specs.Concerts.{Concert, concert_with, concert_course, handed_of}
use Rattle.orca_concert.specs.Manners.{Manner}
use Rattle.orca_concert.specs.Silenced.{IsSilenced}
use Rattle.orca_concert.proofs.DeafLemmas.{concert_is_deaf}
use Rattle.orca_course.specs.Acts.{Act, gives, polls_in, stand_after}
use Rattle.orca_course.specs.Acts.Act.{Give, Stand}
use Rattle.orca_course.specs.Courses.{Course, mapped}
use Rattle.orca_course.specs.Doing.{Does, Stance}
use Rattle.orca_course.specs.Following.{Follows, keys_after_acts, sounding}
use Rattle.orca_course.specs.Performers.{DoesPolls, IsDeaf, IsLostBy, Part, performance}
use Rattle.orca_course.specs.Standings.{Standing, notes_of}
use Rattle.orca_course.specs.Worlds.{AreSeated, Calls, Made, Unsent, World, inbox_failed, owing}
use Rattle.orca_course.specs.declared.ending.Ending.{Ending}
use Rattle.orca_course.specs.declared.ending.Stop.{Stop}
use Rattle.orca_course.specs.declared.item.Losses.{Losses}
use Rattle.orca_course.specs.declared.refused.NoMemory.{NoMemory}
use Rattle.orca_course.specs.declared.refused.NoMemory.TheVariants.{InSend, Elsewhere}
use Rattle.orca_course.proofs.ActLemmas.{lost-deaf, polls-deaf}
use Rattle.orca_course.proofs.DoingLemmas.{does_longer}
use Rattle.orca_course.proofs.FollowLemmas.{Follows-front, follows_later}
use Rattle.orca_course.proofs.PerformanceLemmas.{performance_silent}
use Rattle.orca_course.proofs.PollLemmas.{polls_none}
use Rattle.orca_course.proofs.WorldLemmas.{lost_made, made_clear, made_stand, made_twice, made_within}
use Rattle.orca_cues.specs.declared.source.Cue.{Cue}
use Rattle.orca_edit.specs.Pieces.{piece_after}
use Rattle.orca_live.specs.Deaf.{live_is_deaf}
use Rattle.orca_live.specs.Performing.{live_part}
use Rattle.orca_live.specs.States.{LiveState}
use Rattle.orca_jam.specs.Crews.{crew_alone, crew_at_start, viewers_of}
use Rattle.orca_notes.specs.Device.{Voice, voices}
use Rattle.orca_notes.specs.Sound.{ends}
use Rattle.orca_reports.specs.Manners.{state_manner}
use Rattle.orca_script.specs.Runs.{ScriptReadsBack}
use Rattle.orca_term.specs.Picture.{IsScreen}
use Rattle.orca_words.specs.Requests.{Performance, Setup}
use Rattle.orca_player.specs.Doing.{Came, CameBy, IsBlamed, status_at}
use Rattle.orca_player.specs.declared.live.TheConstants.{ALONE}
use Rattle.orca_player.specs.Outlines.{concert, crew_of, follow_outline, follow_start, followed, hands_asked, lead_outline, lead_start, led, live_outline, live_start, nothing, opening, performed_outline, played, played_course, room_name, standing_at, status_of_end, status_of_ending}
use Rattle.orca_player.specs.Performances.{BrokeOff, EndsSilent, Lasted, Performed, whole_course}
use Rattle.orca_player.specs.declared.status.Status.{Status}
use Rattle.orca_player.specs.declared.status.Status.TheVariants.{Memory}
use Rattle.orca_player.proofs.CameLemmas.{by, by_memory, came_none, came_plain, came_refused, came_whole, unsaid_after}
use Rattle.orca_player.proofs.LeavingLemmas.{polls-left}

-- ---- notes

-- no note sounds at the start
pub notes-standing_at : (sheet : Sheet) (seed limit : ℕ)
    → notes_of (standing_at sheet seed limit) ≡ []
unfolding piece_after
notes-standing_at sheet seed limit = refl

-- ---- the opened session

-- an opened session has nothing to clear at first
made_opened : {acts : List Act} {bill : ℕ} {x y : World} (s : Standing) (m n : ℕ) → m ≡ 0
    → Made acts bill (owing m x) (owing n y) → Made (Stand s ∷ acts) (0 + bill) x y
made_opened {bill = bill} s m n none made =
    made_within {m = bill} (0 + bill) (omega arith) (made_stand s (made_clear n (rw none at made)))

follows_opened : {at : Option Standing} (u : Standing) (acts : List Act) → at ≡ Some u
    → sounding at ≡ [] → Follows (voices (sounding at)) acts → Follows [] (Stand u ∷ acts)
follows_opened {at = at} u acts stands silent follows =
    let none : voices (sounding at) ≡ [] = ap voices silent in (
      sym none ∙ ap (λ (at : Option Standing). voices (sounding at)) stands,
      subst (λ (on : List Voice). Follows on acts) none follows,
    )

-- a beginning of sends
gives-split : (sends : List Sent) (done left : List Act) → gives sends ≡ done ++ left
    → (closing : List Sent) × (unsaid : List Sent)
    × (done ≡ gives closing) × (sends ≡ closing ++ unsaid) × (left ≡ gives unsaid)
gives-split sends [] left is = ([], sends, refl, refl, sym is)
gives-split [] (act ∷ done) left is = absurd cc
gives-split (sent ∷ sends) (act ∷ done) left is =
    let split = gives-split sends done left (cc) in
    (sent ∷ split.0, split.1, cc (split.2), cc (split.3), split.4)

-- what was sent of these, and whether memory was refused to one of them
record Sends (whole : List Sent) (y z : World) : Type 0 where
  pub closing : List Sent
  pub unsaid : List Sent
  pub splits : whole ≡ closing ++ unsaid
  pub made : Made (gives closing) 0 y z
  pub all : (unsaid ≡ []) ⊎ Unsent (gives unsaid) y.calls z.calls

sends_by : {T : Type 0} (whole : List Sent) {y z : World} (result : Result T NoMemory)
    → result ≢ Err Elsewhere → Calls (gives whole) result y z → Sends whole y z
sends_by whole (Ok done) other calls = record {
  closing = whole;
  unsaid = [];
  splits = sym (append-nil whole);
  made = calls.called.0;
  all = inl refl;
}
sends_by whole (Err InSend) other calls =
    let begun = calls.called in
    let split = gives-split whole begun.done begun.left begun.splits in
    record {
      closing = split.0;
      unsaid = split.1;
      splits = split.3;
      made = rw split.2 at begun.made;
      all = inr (rw split.4 at begun.wants);
    }
sends_by whole (Err Elsewhere) other calls = absurd (other refl)

-- ---- what was done of a course, from the opened session on

-- a course from a state in which a session stands without a note
module _ {S E : Type 0} {v : Stance S} (g : Option E → Option Status) {c : Course S E} {s t : S}
    (u : Standing) (stands : v.standing s ≡ Some u) (begins : sounding (v.standing s) ≡ []) {m : ℕ}
    (none : m ≡ 0) (n : ℕ) {x y : World} where
  -- one that ends with no note
  pub opened_whole : {end : Option E} (planned : Status) → sounding (v.standing c.state) ≡ []
      → g end ≡ Some planned → IsBlamed planned x y → Does v c s (owing m x) (Ok end) t (owing n y)
      → Came (opening v g u c) x (status_at planned y) y
  unfolding opening mapped
  opened_whole planned over plans blamed did =
      let leads = rw (← did.did.state) at did.did.rests in
      came_whole (record {
        planned = planned;
        ending = ap g did.did.ending ∙ plans;
        settles = refl;
        blamed = blamed;
        made = made_opened u m n none did.did.made;
        sated = did.did.sated;
        settled = inl leads.settled;
        stands = leads.stands ∙ ap (λ at. stand_after at c.acts) stands;
        silent = over;
        follows = λ hands. follows_opened u c.acts stands begins (leads.follows hands).follows;
        keys = λ hands.
            ap (λ (on : List Voice). keys_after_acts on c.acts) (sym (ap voices begins))
            ∙ ((leads.follows hands).keys ∙ ap voices over);
      })

  -- memory was refused by a send
  pub opened_in_send : Does v c s (owing m x) (Err InSend) t (owing n y)
      → Came (opening v g u c) x Memory y
  unfolding opening mapped
  opened_in_send cut =
      came_refused (inl (record {
        begun = Stand u ∷ cut.did.done;
        left = cut.did.left;
        splits = ap (λ acts. Stand u ∷ acts) cut.did.splits;
        made = made_opened u m n none cut.did.made;
        wanted = cut.did.wants;
        follows = λ hands. follows_opened u cut.did.done stands begins (cut.did.rests hands);
      }))

  -- memory was refused elsewhere: the notes that sound are ended, so far as it is not refused again
  pub opened_elsewhere : {T : Type 0} {z : World} (result : Result T NoMemory)
      → Does v c s (owing m x) (Err Elsewhere) t (owing n y)
      → IsSilenced v.hands (v.standing t) result y z → Came (opening v g u c) x Memory z
  unfolding opening mapped
  opened_elsewhere {z = z} result cut silenced =
      let leads = cut.did.rests in
      let at = v.standing t in
      let stood : at ≡ stand_after (Some u) cut.did.done =
      leads.stands ∙ ap (λ at. stand_after at cut.did.done) stands in
      let sends = sends_by (handed_of v.hands (ends (sounding at))) result silenced.in_send
      silenced.called in
      came_refused (inr (inl (record {
        begun = Stand u ∷ cut.did.done;
        left = cut.did.left;
        splits = ap (λ acts. Stand u ∷ acts) cut.did.splits;
        settled = inl leads.settled;
        closing = sends.closing;
        unsaid = sends.unsaid;
        closes = ap (λ at. handed_of v.hands (ends (sounding at))) (sym stood) ∙ sends.splits;
        all = unsaid_after (gives sends.unsaid) x y z cut.did.wants sends.all;
        made = made_within (0 + c.bill) (omega arith)
            (made_twice (made_opened u m n none cut.did.made) sends.made);
        follows = λ on.
            follows_opened u (cut.did.done ++ gives sends.closing) stands begins
            (follows_later {r = v.standing s} {s = at} (gives sends.closing) (leads.follows on)
            (Follows-front (voices (sounding at)) (gives sends.closing) (gives sends.unsaid)
            (subst (Follows (voices (sounding at))) (ap gives
            (ap (λ b. handed_of b (ends (sounding at))) (sym on) ∙ sends.splits)
            ∙ map-append Give sends.closing sends.unsaid) silenced.device.follows)));
      })))

  -- memory was refused elsewhere, where no note sounds
  pub opened_silent : sounding (v.standing t) ≡ []
      → Does v c s (owing m x) (Err Elsewhere) t (owing n y) → Came (opening v g u c) x Memory y
  unfolding opening mapped
  opened_silent silent cut =
      let leads = cut.did.rests in
      let stood : v.standing t ≡ stand_after (Some u) cut.did.done =
      leads.stands ∙ ap (λ at. stand_after at cut.did.done) stands in
      let all = sym (append-nil (Stand u ∷ cut.did.done)) in
      came_refused (inr (inl (record {
        begun = Stand u ∷ cut.did.done;
        left = cut.did.left;
        splits = ap (λ acts. Stand u ∷ acts) cut.did.splits;
        settled = inl leads.settled;
        closing = [];
        unsaid = [];
        closes = rw (← stood, silent) (grind arith);
        all = inl refl;
        made = subst (λ acts. Made acts (0 + c.bill) x y) all (made_opened u m n none cut.did.made);
        follows = λ on. subst (Follows []) all
            (follows_opened u cut.did.done stands begins (leads.follows on).follows);
      })))

-- ---- a list of commands

-- no poll is heard
pub polls-concert : {R : Type 0} (m : Manner R) (r : R) (cues : List Cue) (s : Standing)
    → polls_in (concert m r cues s).course.acts ≡ []
unfolding concert opening mapped
polls-concert m r cues s =
    polls-deaf (concert_course m cues (concert_with s r)).acts
    (concert_is_deaf m cues (concert_with s r))

-- and the inbox does not fail
pub lost-concert : {R : Type 0} (m : Manner R) (cues : List Cue) (s : Concert R) {bill : ℕ}
    {x y : World} → Made (concert_course m cues s).acts bill x y → inbox_failed y ≡ inbox_failed x
lost-concert m cues s {x = x} made =
    lost_made made
    ∙ lost-deaf (concert_course m cues s).acts (inbox_failed x) (concert_is_deaf m cues s)

pub blamed-concert : (end : Option Stop) (x y : World) → inbox_failed y ≡ inbox_failed x
    → IsBlamed (status_of_end end) x y
blamed-concert end x y lost = grind arith

-- ---- a performance

-- the end of a performance, by what the loop says of the inbox
pub lost_by : (ending : Ending) (x y : World) → IsLostBy (Ok (Some ending)) (inbox_failed x) (inbox_failed y)
    → IsBlamed (status_of_ending ending) x y
lost_by ending x y lost = grind arith

-- a performance was done, and nothing follows it
pub lasted_whole : {S : Type 0} {p : Part S} {s t : S} {m : ℕ} (n : ℕ) {x y : World}
    {ending : Ending}
    → sounding (p.stance.standing s) ≡ [] → m ≡ 0 → EndsSilent p
    → Lasted p s (owing m x) ending t (owing n y)
    → Performed p (whole_course p s) s x (status_at (status_of_ending ending) y) t y
lasted_whole n {x = x} {y = y} {ending = ending} begins none silent lasted =
    let polls = lasted.polls in
    record {
      brought = record nothing { opening = lasted.came; hearings = polls.heard };
      few = polls.few;
      all = polls.all;
      state = λ other. polls.did.did.state;
      came = λ u stands.
          opened_whole _ u stands begins none n _
          (performance_silent _ silent _ lasted.came polls.heard _ polls.did.did.ending) refl
          (lost_by ending x y polls.lost) polls.did;
    }

-- memory was refused to it by a send
pub broke_in_send : {S : Type 0} {p : Part S} {s t : S} {m : ℕ} (n : ℕ) {x y : World}
    → sounding (p.stance.standing s) ≡ [] → m ≡ 0 → (came : Losses)
    → DoesPolls p.stance (performance p s came) s (owing m x) (Err InSend) t (owing n y)
    → BrokeOff p s x y
broke_in_send n begins none came polls = record {
  brought = record nothing { opening = came; hearings = polls.heard };
  few = polls.few;
  all = polls.all;
  came = λ u c more stands is bill.
      opened_in_send _ u stands begins none n (does_longer (more, is, bill) polls.did);
}

-- or elsewhere
pub broke_elsewhere : {S : Type 0} {p : Part S} {s t : S} {m : ℕ} (n : ℕ) {T : Type 0}
    {x y z : World} (result : Result T NoMemory) → sounding (p.stance.standing s) ≡ [] → m ≡ 0 → (came : Losses)
    → DoesPolls p.stance (performance p s came) s (owing m x) (Err Elsewhere) t (owing n y)
    → IsSilenced p.stance.hands (p.stance.standing t) result y z → BrokeOff p s x z
broke_elsewhere n result begins none came polls silenced = record {
  brought = record nothing { opening = came; hearings = polls.heard };
  few = polls.few;
  all = polls.all;
  came = λ u c more stands is bill.
      opened_elsewhere _ u stands begins none n result (does_longer (more, is, bill) polls.did)
      silenced;
}

-- nothing was to follow it
pub broke_whole : {S : Type 0} {p : Part S} {s t : S} {x y : World} → BrokeOff p s x y
    → Performed p (whole_course p s) s x Memory t y
broke_whole {p = p} {s = s} broke = record {
  brought = broke.brought;
  few = broke.few;
  all = broke.all;
  state = λ other. absurd (other refl);
  came = λ u stands.
      broke.came u (whole_course p s broke.brought) [] stands (sym (append-nil _)) (omega arith);
}

-- one that neither paints nor saves
pub performed_by : {S : Type 0} (p : Part S) (s : Standing) {u t : S} {x y : World}
    {status : Status} → p.stance.standing u ≡ Some s → Performed p (whole_course p u) u x status t y
    → CameBy (λ b. performed_outline p s u b) x status y
unfolding opening mapped
performed_by p s stands did =
    by did.brought (record {
      polls = did.all;
      few = did.few;
      sized = tt;
      reads = λ other. tt;
      takes = λ other ends. tt;
    }) (did.came s stands)

-- memory was refused before anything was done
pub performed_none : {S : Type 0} (p : Part S) → IsDeaf p → (s : Standing) (u : S) (x : World)
    → CameBy (λ b. performed_outline p s u b) x Memory x
unfolding opening mapped
performed_none p deaf s u x = by_memory (polls_none p deaf nothing.opening u, tt) (came_none _ x)

-- ---- a player

pub played_by : (room : Option (List ℕ)) {s t : LiveState} {x y : World} {status : Status}
    → Performed live_part (played_course room s) s x status t y → IsScreen s.setting.screen
    → IfSome t.given (ScriptReadsBack s.setting.seed) → CameBy (λ b. played room s b) x status y
unfolding opening mapped
played_by room {s = s} did sized reads =
    by did.brought (record {
      polls = did.all;
      few = did.few;
      sized = sized;
      reads = λ other. grind (arith, did.state other, reads);
      takes = λ other ends. tt;
    }) (came_plain (played room s did.brought) (did.came s.standing refl))

-- memory was refused before anything was done
pub live_none : (room : Option (List ℕ)) (s : LiveState) (x : World) → IsScreen s.setting.screen
    → CameBy (λ b. played room s b) x Memory x
unfolding opening mapped
live_none room s x sized =
    by_memory (
      polls-left room nothing.closing (whole_course live_part s nothing)
          ∙ polls_none live_part live_is_deaf nothing.opening s,
      sized,
    ) (came_none _ x)

-- the hands are there that are shown a picture
viewers_few : (full views : Bool) (limit : ℕ) (hands : Option ℕ)
    → ((count : ℕ) → hands ≡ Some count → 1 ≤ count)
    → viewers_of (option_map_or (λ count. crew_at_start full views count limit) hands
    (crew_alone full)) ≤ unwrap_or hands ALONE
viewers_few full views limit None some = omega arith
viewers_few full true limit (Some hands) some = rw length-replicate (omega arith)
viewers_few full false limit (Some hands) some = some hands refl

pub seated_start : (setup : Setup) (play : Performance) (at : ℕ) (s : Standing) {u : LiveState}
    (x : World) → ((count : ℕ) → play.hands ≡ Some count → 1 ≤ count)
    → u ≡ live_start setup play at s
    → AreSeated (hands_asked play) x → AreSeated (length u.views) x
seated_start setup play at s {u = u} x some is seated hand below =
    let many : length u.views ≡ viewers_of (crew_of setup play) =
    ap (λ (v : LiveState). length v.views) is ∙ length-replicate _ _ in
    let few = viewers_few play.full play.views setup.limit play.hands some in
    seated hand (omega (arith, below, many, few))

pub live_from : (setup : Setup) (play : Performance) (at : ℕ) (s : Standing) (u : LiveState)
    {x y : World} {status : Status} → u ≡ live_start setup play at s
    → CameBy (λ b. played (room_name play) u b) x status y
    → CameBy (λ b. live_outline setup play b s at) x status y
unfolding live_outline
live_from setup play at s u is did = rw is at did

-- ---- a clock

pub follow_from : (s : Standing) (u : Followed (Unit {0})) {x y : World} {status : Status}
    → u ≡ follow_start s → CameBy (λ b. followed state_manner u b) x status y
    → CameBy (λ b. follow_outline b s) x status y
unfolding follow_outline
follow_from s u is did = rw is at did

pub lead_from : (bpm at : ℕ) (s : Standing) (u : Led (Unit {0})) {x y : World} {status : Status}
    → u ≡ lead_start bpm at s → CameBy (λ b. led state_manner u b) x status y
    → CameBy (λ b. lead_outline bpm b s at) x status y
unfolding lead_outline
lead_from bpm at s u is did = rw is at did
