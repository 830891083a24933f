-- What was done of an outline, and calls before it: a load, the wait for a player, the ports.
use Rattle.std.proofs.Common.{◌≡◌, ◌≢◌, ◌⊎◌, inl, inr, ℕ, ◌+◌, ◌≤◌, length, Bool, false, List, [], ◌∷◌, ◌++◌, refl, sym, ◌∙◌, ap, subst, append_assoc, append-nil, arith}
use Rattle.std.specs.Prelude.{Option, Some, None, IfSome, Ok, Err, Result}
use Rattle.orca_base.specs.declared.limits.TheConstants.{MAX_POLLS}
use Rattle.orca_base.specs.Ports.{Sent}
use Rattle.orca_course.specs.Acts.{Act, AreMute, commands_in, given, gives, open_after, polls_in, stand_after}
use Rattle.orca_course.specs.Acts.Act.{Attach, Claim, Listen, Load}
use Rattle.orca_course.specs.Courses.{Course}
use Rattle.orca_course.specs.Performers.{Hearing, polls_of}
use Rattle.orca_course.specs.Standings.{Standing}
use Rattle.orca_course.specs.Following.{Follows, keys_after_acts, sounding}
use Rattle.orca_course.specs.Answered.{refused_in}
use Rattle.orca_course.specs.Worlds.{AreBegun, Called, Calls, Made, Sated, Unsent, World, file_failed, inbox_failed}
use Rattle.orca_course.specs.declared.refused.NoMemory.{NoMemory}
use Rattle.orca_course.proofs.ActLemmas.{open-mute, stand-mute}
use Rattle.orca_course.proofs.CallLemmas.{SoCalled, so_cut, so_more, so_over}
use Rattle.orca_course.proofs.FollowLemmas.{follows-mute, keys-mute}
use Rattle.orca_course.proofs.WorldLemmas.{lost_made, made_none, made_twice, made_within, sated_twice, stored_made, unsent_after, unstored_made}
use Rattle.orca_notes.specs.Device.{Voice}
use Rattle.orca_notes.specs.Sound.{ends}
use Rattle.orca_rig.specs.declared.files.Claim.{Claim as Claimed}
use Rattle.orca_rig.specs.declared.files.Claim.TheVariants.{Made as ClaimMade}
use Rattle.orca_term.specs.Picture.{IsScreen}
use Rattle.orca_words.specs.Requests.{Setup}
use Rattle.orca_player.specs.Doing.{AreEarly, AreSettled, Came, CameBy, IsBlamed, IsWholeRun, KeepsTake, ReadsBack, WasRefused, status_at}
use Rattle.orca_player.specs.Outlines.{Brought, Outline, preceded, attach_acts, loading, nothing, plain_outline, stopped_run, waiting}
use Rattle.orca_player.specs.Takes.{saves_in}
use Rattle.orca_player.specs.declared.status.Status.{Status}
use Rattle.orca_player.specs.declared.status.Status.TheVariants.{FileFault, Memory}

-- ---- calls before the session is opened

-- nothing is sent, done, shown, asked of the inbox or saved
abbrev pub AreCalls : List Act → Type 0
AreCalls [] = Unit {0}
AreCalls (Attach attached ∷ acts) = AreCalls acts
AreCalls (Load name text ∷ acts) = AreCalls acts
AreCalls (Claim name bytes claimed ∷ acts) = AreCalls acts
AreCalls (Listen name hands start ∷ acts) = AreCalls acts
AreCalls (_ ∷ acts) = ⊥

-- what is read off acts behind them is as without them
pub record AreBare (acts : List Act) : Type 0 where
  pub sends : (more : List Act) → given (acts ++ more) ≡ given more
  pub polls : (more : List Act) → polls_in (acts ++ more) ≡ polls_in more
  pub saves : (more : List Act) → saves_in (acts ++ more) ≡ saves_in more
  pub commands : (more : List Act) → commands_in (acts ++ more) ≡ commands_in more
  pub stands : (more : List Act) → stand_after None (acts ++ more) ≡ stand_after None more
  pub settled : (more : List Act) → open_after false (acts ++ more) ≡ open_after false more
  pub keys : (on : List Voice) (more : List Act)
      → keys_after_acts on (acts ++ more) ≡ keys_after_acts on more
  pub follows : (on : List Voice) (more : List Act) → Follows on more → Follows on (acts ++ more)

pub calls_bare : (acts : List Act) → AreCalls acts → AreBare acts
calls_bare [] calls = assumption
calls_bare (Attach attached ∷ acts) calls = assumption (calls_bare acts calls)
calls_bare (Load name text ∷ acts) calls = assumption (calls_bare acts calls)
calls_bare (Claim name bytes claimed ∷ acts) calls = assumption (calls_bare acts calls)
calls_bare (Listen name hands start ∷ acts) calls = assumption (calls_bare acts calls)
calls_bare (_ ∷ acts) calls = absurd calls

calls-front : (xs ys : List Act) → AreCalls (xs ++ ys) → AreCalls xs
calls-front [] ys calls = tt
calls-front (act ∷ xs) ys calls = grind (arith, calls-front xs ys)

pub attaches-calls : (setup : Setup) → AreCalls (attach_acts setup)
attaches-calls setup = grind arith

-- ---- one of the ways

pub came_whole : {o : Outline} {x y : World} {status : Status} → IsWholeRun o x status y
    → Came o x status y
came_whole whole = record { came = inl whole }

pub came_refused : {o : Outline} {x y : World} → WasRefused o x y → Came o x Memory y
came_refused refused = record { came = inr (refl, refused) }

-- before anything was done
early_none : (first : List Sent) → AreEarly first []
early_none first = record { left = first; sends = refl; unopened = refl }

-- memory was refused then
pub came_still : (o : Outline) {x y : World} → Made [] 0 x y → Came o x Memory y
came_still o made =
    came_refused (inr (inr (record {
      begun = [];
      left = o.course.acts;
      splits = refl;
      early = early_none o.first;
      made = made_within o.course.bill (omega arith) made;
    })))

pub came_none : (o : Outline) (x : World) → Came o x Memory x
came_none o x = came_still o (made_none x)

-- what matters of an outline is its course, what comes before, and whether it hands out
pub came_plain : (o : Outline) {x y : World} {status : Status}
    → Came (record (plain_outline o.hands o.course) { first = o.first }) x status y
    → Came o x status y
came_plain o came = record {
  came = elim came.came [
    | inl whole ↦ inl (search whole)
    | inr (memory, inl stops) ↦ inr (memory, inl (search stops))
    | inr (memory, inr (inl closes)) ↦ inr (memory, inr (inl (search closes)))
    | inr (memory, inr (inr early)) ↦ inr (memory, inr (inr (search early)))
  ];
}

-- ---- calls before it

-- calls were done, and whether the files and the inbox have failed is as before
pub record Before (acts : List Act) (x y : World) : Type 0 where
  pub calls : AreCalls acts
  pub lost : inbox_failed y ≡ inbox_failed x
  pub files : file_failed y ≡ file_failed x
  pub made : Made acts 0 x y
  pub sated : Sated x y

early_after : {acts : List Act} (first : List Sent) (begun : List Act) → AreBare acts
    → AreEarly first begun → AreEarly first (acts ++ begun)
early_after first begun bare early = record {
  left = early.left;
  sends = early.sends ∙ ap (λ sends. sends ++ early.left) (sym (bare.sends begun));
  unopened = bare.stands begun ∙ early.unopened;
}

settled_after : {acts : List Act} (first : List Sent) (begun : List Act) → AreBare acts
    → AreSettled first begun → AreSettled first (acts ++ begun)
settled_after first begun bare (inl settled) = inl (bare.settled begun ∙ settled)
settled_after first begun bare (inr early) = inr (early_after first begun bare early)

whole_after : {acts : List Act} (o : Outline) {x y z : World} {status : Status} → Before acts x y
    → IsWholeRun o y status z → IsWholeRun (preceded acts o) x status z
whole_after {acts = acts} o {x = x} {y = y} {z = z} before whole =
    let bare = calls_bare acts before.calls in
    record {
      planned = whole.planned;
      ending = whole.ending;
      settles = whole.settles;
      blamed = grind (arith, before.lost, before.files, whole.blamed);
      made = made_twice before.made whole.made;
      sated = sated_twice x y z before.sated whole.sated;
      settled = settled_after o.first o.course.acts bare whole.settled;
      stands = whole.stands ∙ sym (bare.stands o.course.acts);
      silent = whole.silent;
      follows = λ hands. bare.follows [] o.course.acts (whole.follows hands);
      keys = λ hands. bare.keys [] o.course.acts ∙ whole.keys hands;
    }

pub splits_after : (acts whole begun left : List Act) → whole ≡ begun ++ left
    → acts ++ whole ≡ (acts ++ begun) ++ left
splits_after acts whole begun left splits =
    ap (λ more. acts ++ more) splits ∙ sym (append_assoc acts begun left)

-- memory was refused to none of these sends, or to the next
pub unsaid_after : {A : Type 0} (left : List Act) (x y z : World)
    → given (refused_in y.calls) ≡ given (refused_in x.calls) → A ⊎ Unsent left y.calls z.calls
    → A ⊎ Unsent left x.calls z.calls
unsaid_after left x y z none (inl all) = inl all
unsaid_after left x y z none (inr unsent) = inr (unsent_after left x y z none unsent)

refused_after : {acts : List Act} (o : Outline) {x y z : World} → Before acts x y
    → WasRefused o y z → WasRefused (preceded acts o) x z
refused_after {acts = acts} o {x = x} {y = y} {z = z} before refused =
    let bare = calls_bare acts before.calls in
    elim refused [
      | inl stops ↦ inl (record {
        begun = acts ++ stops.begun;
        left = stops.left;
        splits = splits_after acts _ stops.begun stops.left stops.splits;
        made = made_twice before.made stops.made;
        wanted = unsent_after stops.left x y z (ap given before.sated) stops.wanted;
        follows = λ hands. bare.follows [] stops.begun (stops.follows hands);
      })
      | inr (inl closes) ↦
          let all = sym (append_assoc acts closes.begun (gives closes.closing)) in
          inr (inl (record {
            begun = acts ++ closes.begun;
            left = closes.left;
            splits = splits_after acts _ closes.begun closes.left closes.splits;
            settled = settled_after o.first closes.begun bare closes.settled;
            closing = closes.closing;
            unsaid = closes.unsaid;
            closes = rw bare.stands closes.closes;
            all = unsaid_after (gives closes.unsaid) x y z (ap given before.sated) closes.all;
            made = rw all at (made_twice before.made closes.made);
            follows = λ hands. rw all at
                (bare.follows [] (closes.begun ++ gives closes.closing) (closes.follows hands));
          }))
      | inr (inr early) ↦ inr (inr (record {
        begun = acts ++ early.begun;
        left = early.left;
        splits = splits_after acts _ early.begun early.left early.splits;
        early = early_after o.first early.begun bare early.early;
        made = made_twice before.made early.made;
      }))
    ]

pub came_after : {acts : List Act} (o : Outline) {x y z : World} {status : Status}
    → Before acts x y → Came o y status z → Came (preceded acts o) x status z
came_after o before more = record {
  came = elim more.came [
    | inl whole ↦ inl (whole_after o before whole)
    | inr refused ↦ inr (refused.0, refused_after o before refused.1)
  ];
}

-- memory was refused to these calls
pub came_cut : (acts : List Act) (o : Outline) {x y : World} {e : NoMemory} → AreCalls acts
    → AreBegun acts e x y → Came (preceded acts o) x Memory y
came_cut acts o calls cut =
    let bare = calls_bare cut.done
    (calls-front cut.done cut.left (subst AreCalls cut.splits calls)) in
    came_refused (inr (inr (record {
      begun = cut.done;
      left = cut.left ++ o.course.acts;
      splits = ap (λ acts. acts ++ o.course.acts) cut.splits
          ∙ append_assoc cut.done cut.left o.course.acts;
      early = rw append-nil at (early_after o.first [] bare (early_none o.first));
      made = made_within (0 + o.course.bill) (omega arith) cut.made;
    })))

-- a run ends as planned that opened no session and sent nothing
pub came_bare : (o : Outline) (planned : Status) {x y : World} → o.course.ending ≡ Some planned
    → o.course.state ≡ None → AreMute o.course.acts
    → Made o.course.acts o.course.bill x y × Sated x y → IsBlamed planned x y
    → Came o x (status_at planned y) y
came_bare o planned ends none mute done blamed = came_whole (record {
  planned = planned;
  ending = ends;
  settles = refl;
  blamed = blamed;
  made = done.0;
  sated = done.1;
  settled = inl (open-mute o.course.acts mute);
  stands = none ∙ sym (stand-mute None o.course.acts mute);
  silent = ap sounding none;
  follows = λ hands. follows-mute [] o.course.acts mute;
  keys = λ hands. keys-mute [] o.course.acts mute;
})

pub came_stopped : (planned : Status) (x : World) → IsBlamed planned x x
    → Came (stopped_run planned) x (status_at planned x) x
came_stopped planned x blamed =
    came_bare (stopped_run planned) planned refl refl tt (made_none x, refl) blamed

-- ---- which calls

pub loaded : {T : Type 0} {done : T} {name text : List ℕ} {x y : World}
    → Called (Ok done) (Load name (Some text)) x y → Before (Load name (Some text) ∷ []) x y
loaded called =
    let made = called.called.0 in
    record {
      calls = tt;
      lost = lost_made made;
      files = stored_made tt made;
      made = made;
      sated = called.called.1;
    }

pub claimed : {T : Type 0} {done : T} {name bytes : List ℕ} {x y : World}
    → Called (Ok done) (Claim name bytes (Some ClaimMade)) x y
    → Before (Claim name bytes (Some ClaimMade) ∷ []) x y
claimed called =
    let made = called.called.0 in
    record {
      calls = tt;
      lost = lost_made made;
      files = stored_made tt made;
      made = made;
      sated = called.called.1;
    }

pub listened : {name : List ℕ} {hands at : ℕ} {x y : World}
    → Made (Listen name hands (Some at) ∷ []) 0 x y × Sated x y
    → Before (Listen name hands (Some at) ∷ []) x y
listened did = record {
  calls = tt;
  lost = lost_made did.0;
  files = stored_made tt did.0;
  made = did.0;
  sated = did.1;
}

pub attached : {T : Type 0} {done : T} (setup : Setup) {x y : World}
    → Calls (attach_acts setup) (Ok done) x y → Before (attach_acts setup) x y
attached setup {x = x} calls =
    let made = calls.called.0 in
    record {
      calls = attaches-calls setup;
      lost = lost_made made ∙ grind arith;
      files = stored_made (grind arith) made;
      made = made;
      sated = calls.called.1;
    }

-- ---- what an outline asks, paints and saves

pub record IsKind (o : Outline) (hearings : List Hearing) (status : Status) : Type 0 where
  pub polls : polls_in o.course.acts ≡ polls_of hearings
  pub few : length hearings ≤ MAX_POLLS
  pub sized : IfSome o.screen IsScreen
  pub reads : status ≢ Memory → IfSome o.given ReadsBack
  pub takes : status ≢ Memory → KeepsTake o

pub by : {o : Brought → Outline} (b : Brought) {x y : World} {status : Status}
    → IsKind (o b) b.hearings status → Came (o b) x status y → CameBy o x status y
by b kind came = record {
  brought = b;
  polls = kind.polls;
  few = kind.few;
  came = came;
  sized = kind.sized;
  reads = kind.reads;
  takes = kind.takes;
}

-- one that neither paints nor saves
pub kind_plain : {hands : Bool} {c : Course (Option Standing) Status} {status : Status}
    → polls_in c.acts ≡ [] → IsKind (plain_outline hands c) [] status
kind_plain polls = record {
  polls = polls;
  few = omega arith;
  sized = tt;
  reads = λ other. tt;
  takes = λ other ends. tt;
}

-- an outline asks the inbox nothing, and paints on a screen that a view may have, if on any
abbrev pub IsIdle : Outline → Type 0
IsIdle o = (polls_in o.course.acts ≡ []) × IfSome o.screen IsScreen

-- out of memory nothing is said of what is saved
pub by_memory : {o : Brought → Outline} {x y : World} → IsIdle (o nothing)
    → Came (o nothing) x Memory y → CameBy o x Memory y
by_memory idle came =
    by nothing (record {
      polls = idle.0;
      few = omega arith;
      sized = idle.1;
      reads = λ other. absurd (other refl);
      takes = λ other. absurd (other refl);
    }) came

-- this was answered of a room, and nothing else came
abbrev pub answered_so : Option Claimed → Brought
answered_so answer = record nothing { claimed = answer }

-- a run ends as planned after these calls
pub by_answered : {o : Brought → Outline} (answer : Option Claimed) (acts : List Act)
    (planned : Status) {x y : World}
    → o (answered_so answer) ≡ preceded acts (stopped_run planned) → AreMute (acts ++ [])
    → polls_in (acts ++ []) ≡ [] → Made (acts ++ []) 0 x y × Sated x y → IsBlamed planned x y
    → CameBy o x (status_at planned y) y
by_answered answer acts planned is mute polls done blamed =
    by (answered_so answer) (rw is (kind_plain polls))
    (rw is (came_bare (preceded acts (stopped_run planned)) planned refl refl mute done blamed))

pub by_failed : {o : Brought → Outline} (acts : List Act) (planned : Status) {x y : World}
    → o nothing ≡ preceded acts (stopped_run planned) → AreMute (acts ++ [])
    → polls_in (acts ++ []) ≡ [] → Made (acts ++ []) 0 x y × Sated x y → IsBlamed planned x y
    → CameBy o x (status_at planned y) y
by_failed acts planned is mute polls done blamed =
    by_answered None acts planned is mute polls done blamed

-- a room was there, or could not be claimed
pub by_unclaimed : {T : Type 0} {done : T} {o : Brought → Outline} {name bytes : List ℕ}
    (answer : Option Claimed) (planned : Status) {x y : World}
    → o (answered_so answer) ≡ preceded (Claim name bytes answer ∷ []) (stopped_run planned)
    → Called (Ok done) (Claim name bytes answer) x y
    → (inbox_failed y ≡ inbox_failed x → IsBlamed planned x y)
    → CameBy o x (status_at planned y) y
by_unclaimed answer planned is called blamed =
    by_answered answer (Claim _ _ answer ∷ []) planned is tt refl called.called
    (blamed (lost_made called.called.0))

-- the load of a file failed
pub by_unloaded : {T : Type 0} {done : T} {o : Brought → Outline} {name : List ℕ}
    (next : List ℕ → Outline) {x y : World} → o nothing ≡ loading name None next
    → Called (Ok done) (Load name None) x y → CameBy o x FileFault y
unfolding loading
by_unloaded {name = name} next is called =
    let made = called.called.0 in
    by_failed (Load name None ∷ []) FileFault is tt refl called.called
    (lost_made made, unstored_made made)

-- it was refused memory
pub by_unread : {T : Type 0} {o : Brought → Outline} {name : List ℕ} (next : List ℕ → Outline)
    {e : NoMemory} {x y : World} → o nothing ≡ loading name None next
    → Called {T = T} (Err e) (Load name None) x y → CameBy o x Memory y
unfolding loading
by_unread next is called = by_memory (rw is (refl, tt)) (came_still _ called.called.0)

-- calls by what was brought, and then the rest
pub by_after : {acts : List Act} {o : Brought → Outline} {more : Outline} {x y z : World}
    {status : Status} (b : Brought) → Before acts x y → IsKind more b.hearings status
    → Came more y status z → o b ≡ preceded acts more → CameBy o x status z
by_after {acts = acts} {more = more} b before kind came is =
    let bare = calls_bare acts before.calls in
    by b (rw is (record {
      polls = bare.polls more.course.acts ∙ kind.polls;
      few = kind.few;
      sized = kind.sized;
      reads = kind.reads;
      takes = λ other ends. grind (arith, bare.saves more.course.acts, kind.takes other ends);
    })) (rw is (came_after more before came))

pub kind_of : {o : Brought → Outline} {x y : World} {status : Status} (did : CameBy o x status y)
    → IsKind (o did.brought) did.brought.hearings status
kind_of did = assumption did

-- the same calls, whatever was brought
pub by_later : {acts : List Act} {o : Brought → Outline} {x y z : World} {status : Status}
    → Before acts x y → CameBy o y status z → CameBy (λ b. preceded acts (o b)) x status z
by_later before did = by_after did.brought before (kind_of did) did.came refl

-- the same, where the hands that are listened for are known by another name
pub came_by_hands : {known hands : ℕ} (missed : Brought → List Act) (address : List ℕ)
    (next : Brought → ℕ → Outline) {x y : World} {status : Status} → known ≡ hands
    → CameBy (λ b. waiting (missed b) address known b.start (next b)) x status y
    → CameBy (λ b. waiting (missed b) address hands b.start (next b)) x status y
came_by_hands missed address next {x = x} {y = y} {status = status} same did =
    subst (λ n. CameBy (λ b. waiting (missed b) address n b.start (next b)) x status y) same did

-- ---- calls, one after another

-- the last of some calls, which are all that is left
pub calls_last : {T : Type 0} {whole : List Act} (left : List Act) {x y z : World}
    (result : Result T NoMemory) → SoCalled whole left x y → Calls left result y z
    → Calls whole result x z
calls_last left (Ok done) so_far calls =
    so_over done refl (so_more left [] (sym (append-nil left)) so_far calls.called)
calls_last left (Err e) so_far calls = so_cut left [] (sym (append-nil left)) so_far calls
