-- What was done of a recovery: notes of another run were ended before, and then the rest.
use Rattle.std.proofs.Common.{◌≡◌, ◌≢◌, inl, inr, ℕ, ◌+◌, Bool, true, false, List, [], ◌∷◌, ◌++◌, refl, sym, ◌∙◌, ap, subst, append_assoc, append-nil, arith}
use Rattle.std.specs.Prelude.{Option, Some, None, IfErr, IsOk, IsOkUnless, OnOk, Ok, Err, Result, ◌||◌, ◌==◌, if◌then◌else◌, unwrap_or}
use Rattle.std.proofs.lemmas.Bool.{ne_eqb}
use Rattle.orca_base.specs.Grids.{Sheet}
use Rattle.orca_base.specs.Ports.{Sent}
use Rattle.orca_base.specs.declared.command.Command.{Command}
use Rattle.orca_base.specs.declared.limits.TheConstants.{DEFAULT_SEED}
use Rattle.orca_concert.specs.Concerts.{Concert, concert_course, concert_with}
use Rattle.orca_concert.proofs.DeafLemmas.{concert_is_deaf}
use Rattle.orca_course.specs.Acts.{Act, commands_in, given, gives, is_of_messages, open_after, polls_in, stand_after}
use Rattle.orca_course.specs.Acts.Act.{Attach, Give, Load, Stand}
use Rattle.orca_course.specs.Courses.{Course, afterwards, mapped}
use Rattle.orca_course.specs.Following.{Follows, keys_after_acts, turn_given}
use Rattle.orca_course.specs.Standings.{Standing}
use Rattle.orca_course.specs.Worlds.{AreBegun, Called, Calls, Made, Sated, World, file_failed, inbox_failed}
use Rattle.orca_course.specs.declared.ending.Stop.{Stop}
use Rattle.orca_course.specs.declared.item.Losses.{Losses}
use Rattle.orca_course.specs.declared.refused.NoMemory.{NoMemory}
use Rattle.orca_course.proofs.ActLemmas.{commands_in-append, given-append, given-gives, lost_after, open_after-append, polls-deaf}
use Rattle.orca_course.proofs.WorldLemmas.{AreSafe, lost_made, made_none, made_twice, made_within, sated_twice, stored_made, unsent_after}
use Rattle.orca_notes.specs.Device.{Suits, Voice, keys_after}
use Rattle.orca_notes.specs.Device.KeyEffect.{Neither}
use Rattle.orca_cues.specs.Rooms.{Room, room_parts, whole_lines}
use Rattle.orca_cues.specs.Scripts.{commands_of_cues, script_by, seed_in}
use Rattle.orca_cues.specs.declared.fault.ScriptFault.{ScriptFault}
use Rattle.orca_cues.specs.declared.source.Cue.{Cue}
use Rattle.orca_grid.specs.GridText.{grid_text}
use Rattle.orca_grid.specs.declared.refusal.GridRefusal.{GridRefusal}
use Rattle.orca_grid.specs.declared.refusal.GridRefusal.TheVariants as refused
use Rattle.orca_grid.specs.declared.refusal.GridRefusal.TheVariants.{NoCells}
use Rattle.orca_reports.specs.Rescues.{Rescue, recovery_manner, rescue_at_start}
use Rattle.orca_rooms.specs.Limits.{room_limit}
use Rattle.orca_rooms.specs.Sound.{sound_script}
use Rattle.orca_words.specs.Requests.{Recovery}
use Rattle.orca_player.specs.Laws.{EndAlike}
use Rattle.orca_player.specs.Doing.{refused_status, AreEarly, AreSettled, Came, CameBy, IsWholeRun, WasRefused}
use Rattle.orca_player.specs.Outlines.{Brought, Outline, fault_behind, grid_recovered, hush_acts, hushed, hushing, is_strict, limit_for, lines_ahead, lines_recovered, loading, nothing, opening, planned_end, preceded, recovered, recovery_outline, rescue_by, script_done, script_recovered, sound_recovered, standing_at, stopped_run, wrong_recovered}
use Rattle.orca_player.specs.Takes.{saves_in}
use Rattle.orca_player.specs.declared.status.Status.{Status}
use Rattle.orca_player.specs.declared.status.Status.TheVariants.{GridRefused, Memory, ScriptRefused}
use Rattle.orca_player.proofs.CameLemmas.{IsIdle, by, by_after, by_failed, by_memory, came_none, came_refused, kind_of, loaded, splits_after, unsaid_after}
use Rattle.orca_player.proofs.RescueLemmas.{polls-rescue, saved_quiet}

-- ---- acts that sound nothing

-- ports are attached, and messages are given that start and end no note
abbrev pub AreQuiet : List Act → Type 0
AreQuiet [] = Unit {0}
AreQuiet (Attach attached ∷ acts) = AreQuiet acts
AreQuiet (Give sent ∷ acts) = (turn_given sent ≡ Neither) × AreQuiet acts
AreQuiet (_ ∷ acts) = ⊥

quiet-front : (xs ys : List Act) → AreQuiet (xs ++ ys) → AreQuiet xs
quiet-front [] ys quiet = tt
quiet-front (act ∷ xs) ys quiet = grind (arith, quiet-front xs ys)

-- the same keys are on after it
same_keys : (on : List Voice) (sent : Sent) → turn_given sent ≡ Neither
    → keys_after on (turn_given sent) ≡ on
unfolding keys_after
same_keys on sent neither = rw neither refl

-- what is read off such acts, and then off others
pub record IsQuiet (acts : List Act) : Type 0 where
  pub commands : (more : List Act) → commands_in (acts ++ more) ≡ commands_in more
  pub polls : (more : List Act) → polls_in (acts ++ more) ≡ polls_in more
  pub saves : (more : List Act) → saves_in (acts ++ more) ≡ saves_in more
  pub stands : (more : List Act) → stand_after None (acts ++ more) ≡ stand_after None more
  pub keys : (on : List Voice) (more : List Act)
      → keys_after_acts on (acts ++ more) ≡ keys_after_acts on more
  pub follows : (on : List Voice) (more : List Act) → Follows on more → Follows on (acts ++ more)

quiet_give : (sent : Sent) (acts : List Act) → turn_given sent ≡ Neither → IsQuiet acts
    → IsQuiet (Give sent ∷ acts)
quiet_give sent acts neither rest = record {
  commands = rest.commands;
  polls = rest.polls;
  saves = rest.saves;
  stands = rest.stands;
  keys = λ on more.
      ap (λ (keys : List Voice). keys_after_acts keys (acts ++ more)) (same_keys on sent neither)
      ∙ rest.keys on more;
  follows = λ on more follows. (
    subst (Suits on) (sym neither) tt,
    subst (λ (keys : List Voice). Follows keys (acts ++ more)) (sym (same_keys on sent neither))
        (rest.follows on more follows),
  );
}

pub quiet_acts : (acts : List Act) → AreQuiet acts → IsQuiet acts
quiet_acts [] quiet = assumption
quiet_acts (Attach attached ∷ acts) quiet = assumption (quiet_acts acts quiet)
quiet_acts (Give sent ∷ acts) quiet = quiet_give sent acts quiet.0 (quiet_acts acts quiet.1)
quiet_acts (_ ∷ acts) quiet = absurd quiet

-- ---- acts before which nothing is sent

-- nothing is given before the session is opened
abbrev pub AreSilent : List Act → Type 0
AreSilent [] = Unit {0}
AreSilent (Stand s ∷ acts) = Unit {0}
AreSilent (Give sent ∷ acts) = ⊥
AreSilent (_ ∷ acts) = AreSilent acts

-- a session that stands goes on to stand
stands-on : (s : Standing) (acts : List Act) → stand_after (Some s) acts ≢ None
stands-on s [] = λ none. cc
stands-on s (Stand t ∷ acts) = stands-on t acts
stands-on s (act ∷ acts) = grind (arith, stands-on s acts)

silent-front : (xs ys : List Act) → AreSilent (xs ++ ys) → stand_after None xs ≡ None
    → given xs ≡ []
silent-front [] ys silent none = refl
silent-front (Stand s ∷ xs) ys silent none = absurd (stands-on s xs none)
silent-front (act ∷ xs) ys silent none = grind (arith, silent-front xs ys)

-- where a session was opened, messages that were given before are over
opened-over : (b : Bool) (acts : List Act) (s : Standing) → stand_after None acts ≡ Some s
    → open_after b acts ≡ open_after false acts
opened-over b [] s stands = absurd cc
opened-over b (Stand t ∷ acts) s stands = refl
opened-over b (Give sent ∷ acts) s stands =
    opened-over (b || is_of_messages sent.port) acts s stands
    ∙ sym (opened-over (is_of_messages sent.port) acts s stands)
opened-over b (act ∷ acts) s stands = grind (arith, opened-over b acts s)

none_left : (sends left : List Sent) → [] ≡ sends ++ left → sends ≡ []
none_left [] left is = refl
none_left (sent ∷ sends) left is = absurd cc

-- ---- such acts, and then the acts of an outline

module _ (acts : List Act) (quiet : AreQuiet acts) where
  early_by : (begun : List Act) → stand_after None begun ≡ None → given begun ≡ []
      → AreEarly (given acts) (acts ++ begun)
  early_by begun none silent = record {
    left = [];
    sends = sym (append-nil (given (acts ++ begun))
        ∙ (given-append acts begun
        ∙ (ap (λ more. given acts ++ more) silent ∙ append-nil (given acts))));
    unopened = (quiet_acts acts quiet).stands begun ∙ none;
  }

  early_hushed : (begun : List Act) → AreEarly [] begun → AreEarly (given acts) (acts ++ begun)
  early_hushed begun early =
      early_by begun early.unopened (none_left (given begun) early.left early.sends)

  settled_by : (at : Option Standing) (begun left : List Act) → stand_after None begun ≡ at
      → AreSilent (begun ++ left) → AreSettled [] begun → AreSettled (given acts) (acts ++ begun)
  settled_by None begun left stands silent settled =
      inr (early_by begun stands (silent-front begun left silent stands))
  settled_by (Some s) begun left stands silent (inl settled) =
      inl (open_after-append false acts begun
      ∙ (opened-over (open_after false acts) begun s stands ∙ settled))
  settled_by (Some s) begun left stands silent (inr early) =
      inr (early_hushed begun early)

-- quiet acts were done, and whether the files and the inbox have failed is as before
pub record Hushed (acts : List Act) (x y : World) : Type 0 where
  pub quiet : AreQuiet acts
  pub lost : inbox_failed y ≡ inbox_failed x
  pub files : file_failed y ≡ file_failed x
  pub made : Made acts 0 x y
  pub sated : Sated x y

-- an outline, and what comes before it
abbrev pub behind_acts : List Act → Outline → Outline
behind_acts acts o = record (preceded acts o) { first = given acts }

module _ {acts : List Act} (o : Outline) (first : o.first ≡ []) (silent : AreSilent o.course.acts)
    {x y : World} (hushed : Hushed acts x y) where
  whole_hushed : {z : World} {status : Status} → IsWholeRun o y status z
      → IsWholeRun (behind_acts acts o) x status z
  whole_hushed {z = z} whole =
      let quiet = quiet_acts acts hushed.quiet in
      let all = sym (append-nil o.course.acts) in
      record {
        planned = whole.planned;
        ending = whole.ending;
        settles = whole.settles;
        blamed = grind (arith, hushed.lost, hushed.files, whole.blamed);
        made = made_twice hushed.made whole.made;
        sated = sated_twice x y z hushed.sated whole.sated;
        settled = settled_by acts hushed.quiet _ o.course.acts [] refl (subst AreSilent all silent)
            (rw first at whole.settled);
        stands = whole.stands ∙ sym (quiet.stands o.course.acts);
        silent = whole.silent;
        follows = λ hands. quiet.follows [] o.course.acts (whole.follows hands);
        keys = λ hands. quiet.keys [] o.course.acts ∙ whole.keys hands;
      }

  refused_hushed : {z : World} → WasRefused o y z → WasRefused (behind_acts acts o) x z
  refused_hushed {z = z} refused =
      let quiet = quiet_acts acts hushed.quiet in
      elim refused [
        | inl stops ↦ inl (record {
          begun = acts ++ stops.begun;
          left = stops.left;
          splits = splits_after acts _ stops.begun stops.left stops.splits;
          made = made_twice hushed.made stops.made;
          wanted = unsent_after stops.left x y z (ap given hushed.sated) stops.wanted;
          follows = λ hands. quiet.follows [] stops.begun (stops.follows hands);
        })
        | inr (inl closes) ↦
            let all = sym (append_assoc acts closes.begun (gives closes.closing)) in
            inr (inl (record {
              begun = acts ++ closes.begun;
              left = closes.left;
              splits = splits_after acts _ closes.begun closes.left closes.splits;
              settled = settled_by acts hushed.quiet _ closes.begun closes.left refl
                  (subst AreSilent closes.splits silent) (rw first at closes.settled);
              closing = closes.closing;
              unsaid = closes.unsaid;
              closes = rw quiet.stands closes.closes;
              all = unsaid_after (gives closes.unsaid) x y z (ap given hushed.sated) closes.all;
              made = rw all at (made_twice hushed.made closes.made);
              follows = λ hands. rw all at
                  (quiet.follows [] (closes.begun ++ gives closes.closing) (closes.follows hands));
            }))
        | inr (inr early) ↦ inr (inr (record {
          begun = acts ++ early.begun;
          left = early.left;
          splits = splits_after acts _ early.begun early.left early.splits;
          early = early_hushed acts hushed.quiet early.begun (rw first at early.early);
          made = made_twice hushed.made early.made;
        }))
      ]

  came_hushed : {z : World} {status : Status} → Came o y status z
      → Came (behind_acts acts o) x status z
  came_hushed more = record {
    came = elim more.came [
      | inl whole ↦ inl (whole_hushed whole)
      | inr refused ↦ inr (refused.0, refused_hushed refused.1)
    ];
  }

-- memory was refused to these acts
came_unhushed : (acts : List Act) (o : Outline) {x y : World} {e : NoMemory} → AreQuiet acts
    → AreBegun acts e x y → Came (behind_acts acts o) x Memory y
came_unhushed acts o quiet cut =
    let front = quiet-front cut.done cut.left (subst AreQuiet cut.splits quiet) in
    came_refused (inr (inr (record {
      begun = cut.done;
      left = cut.left ++ o.course.acts;
      splits = ap (λ acts. acts ++ o.course.acts) cut.splits
          ∙ append_assoc cut.done cut.left o.course.acts;
      early = record {
        left = given cut.left;
        sends = ap given cut.splits ∙ given-append cut.done cut.left;
        unopened = rw append-nil at ((quiet_acts cut.done front).stands []);
      };
      made = made_within (0 + o.course.bill) (omega arith) cut.made;
    })))

-- ---- what was brought

-- an outline that sends nothing before its session is opened
abbrev pub StartsSilent : Outline → Type 0
StartsSilent o = (o.first ≡ []) × AreSilent o.course.acts

pub by_hushed : {acts : List Act} {o : Brought → Outline} {x y z : World} {status : Status}
    → Hushed acts x y → ((b : Brought) → StartsSilent (o b)) → CameBy o y status z
    → CameBy (λ b. behind_acts acts (o b)) x status z
by_hushed {acts = acts} {o = o} hushed silent did =
    let quiet = quiet_acts acts hushed.quiet in
    let b = did.brought in
    let kind = kind_of did in
    by b (record {
      polls = quiet.polls (o b).course.acts ∙ kind.polls;
      few = kind.few;
      sized = kind.sized;
      reads = kind.reads;
      takes = λ other ends. grind (arith, quiet.saves (o b).course.acts, kind.takes other ends);
    }) (came_hushed (o b) (silent b).0 (silent b).1 hushed did.came)

-- ---- the outline of a recovery

-- it sends nothing before its session is opened, asks the inbox nothing, and is not recorded
pub record IsRecovery (o : Outline) : Type 0 where
  pub first : o.first ≡ []
  pub silent : AreSilent o.course.acts
  pub polls : polls_in o.course.acts ≡ []
  pub screen : o.screen ≡ None
  pub take : o.take ≡ None

recovery_stopped : (status : Status) → IsRecovery (stopped_run status)
recovery_stopped status = record {
  first = refl;
  silent = tt;
  polls = refl;
  screen = refl;
  take = refl;
}

rescue_recovery : (r : Recovery) (seed : ℕ) (commands : List Command) (wrong : Option ScriptFault)
    (came : Losses) (u : Standing) (c : Course (Concert Rescue) Stop) → polls_in c.acts ≡ []
    → IsRecovery (rescue_by r seed commands wrong came u c)
unfolding rescue_by opening
rescue_recovery r seed commands wrong came u c none = record {
  first = refl;
  silent = tt;
  polls = polls-rescue r seed commands wrong came u c none;
  screen = refl;
  take = refl;
}

sound_recovery : (r : Recovery) (sheet : Sheet) (text : List ℕ) (wrong : Option ScriptFault)
    (came : Losses) → IsRecovery (sound_recovered r sheet text wrong came)
unfolding sound_recovered
sound_recovery r sheet text wrong came =
    let limit = limit_for r (room_limit text) in
    let s = concert_with (standing_at sheet (unwrap_or (seed_in text) DEFAULT_SEED) limit)
    (rescue_at_start (is_strict limit (room_limit text))) in
    let c = concert_course recovery_manner (sound_script text) s in
    rescue_recovery r _ _ wrong came _ c
    (polls-deaf c.acts (concert_is_deaf recovery_manner (sound_script text) s))

wrong_by : (first : Bool) (status : Status) (o : Outline) → IsRecovery o
    → IsRecovery (if first then stopped_run status else o)
wrong_by true status o is = recovery_stopped status
wrong_by false status o is = is

lines_recovery : (r : Recovery) (sheet : Sheet) (before : ℕ) (text : List ℕ) (came : Losses)
    (read : Result (List Cue) ScriptFault) → IsRecovery (lines_recovered r sheet before text came read)
unfolding wrong_recovered
lines_recovery r sheet before text came (Ok cues) = sound_recovery r sheet text None came
lines_recovery r sheet before text came (Err fault) =
    wrong_by (fault.line == 1) (ScriptRefused fault.line fault.column) _
    (sound_recovery r sheet text (Some (fault_behind before fault)) came)

grid_recovery : (r : Recovery) (room : Room) (came : Losses) (read : Result Sheet GridRefusal)
    → IsRecovery (grid_recovered r room came read)
unfolding grid_recovered script_recovered
grid_recovery r room came (Err refusal) = recovery_stopped _
grid_recovery r room came (Ok sheet) =
    lines_recovery r sheet (lines_ahead room) (whole_lines room.script) came
    (script_by true (whole_lines room.script))

parts_recovery : (r : Recovery) (came : Losses) (parts : Option Room)
    → IsRecovery (recovered r came parts)
unfolding recovered
parts_recovery r came None = recovery_stopped _
parts_recovery r came (Some room) = grid_recovery r room came (grid_text room.grid)

idle_by : (o : Outline) → IsRecovery o → IsIdle o
idle_by o is = (is.polls, rw is.screen tt)

-- ---- the notes of another run

pub quiet-hush : (midi : Option (List ℕ)) → AreQuiet (hush_acts midi)
quiet-hush None = tt
quiet-hush (Some name) = search

lost-hush : (midi : Option (List ℕ)) (lost : Bool) → lost_after (hush_acts midi) lost ≡ lost
lost-hush None lost = refl
lost-hush (Some name) lost = refl

safe-hush : (midi : Option (List ℕ)) → AreSafe (hush_acts midi)
safe-hush None = tt
safe-hush (Some name) = tt

pub given-hush : (midi : Option (List ℕ)) → given (hush_acts midi) ≡ hushing midi
given-hush None = refl
given-hush (Some name) = given-gives (hushing (Some name))

hushed_by : {T : Type 0} {done : T} (midi : Option (List ℕ)) {x y : World}
    → Calls (hush_acts midi) (Ok done) x y → Hushed (hush_acts midi) x y
hushed_by midi {x = x} calls =
    let made = calls.called.0 in
    record {
      quiet = quiet-hush midi;
      lost = lost_made made ∙ lost-hush midi (inbox_failed x);
      files = stored_made (safe-hush midi) made;
      made = made;
      sated = calls.called.1;
    }

-- they were ended, and then the rest was done
by_notes : {T : Type 0} {done : T} (r : Recovery) (o : Brought → Outline) {x y z : World}
    {status : Status} → Calls (hush_acts r.midi) (Ok done) x y
    → ((b : Brought) → StartsSilent (o b)) → CameBy o y status z
    → CameBy (λ b. hushed r (o b)) x status z
unfolding hushed
by_notes r o {x = x} {z = z} {status = status} calls silent did =
    subst (λ (first : List Sent). CameBy (λ b. record (preceded (hush_acts r.midi) (o b)) {
      first = first;
    }) x status z) (given-hush r.midi) (by_hushed (hushed_by r.midi calls) silent did)

-- and the room was recovered
pub by_hush : {T : Type 0} {done : T} (r : Recovery) (parts : Option Room) {x y z : World}
    {status : Status} → Calls (hush_acts r.midi) (Ok done) x y
    → CameBy (λ b. recovered r b.closing parts) y status z
    → CameBy (λ b. hushed r (recovered r b.closing parts)) x status z
by_hush r parts calls did =
    by_notes r (λ b. recovered r b.closing parts) calls
    (λ b. let is = parts_recovery r b.closing parts in (is.first, is.silent)) did

hushed_idle : (r : Recovery) (o : Outline) → IsRecovery o → IsIdle (hushed r o)
unfolding hushed
hushed_idle r o is =
    let quiet = quiet_acts (hush_acts r.midi) (quiet-hush r.midi) in
    (quiet.polls o.course.acts ∙ is.polls, rw is.screen tt)

-- memory was refused to that
pub hush_cut : {T : Type 0} (r : Recovery) (parts : Option Room) {e : NoMemory} {x y : World}
    → Calls {T = T} (hush_acts r.midi) (Err e) x y
    → CameBy (λ b. hushed r (recovered r b.closing parts)) x Memory y
unfolding hushed
hush_cut r parts {x = x} {y = y} calls =
    let o = recovered r nothing.closing parts in
    by_memory (hushed_idle r o (parts_recovery r nothing.closing parts))
    (subst (λ (first : List Sent). Came (record (preceded (hush_acts r.midi) o) { first = first }) x
    Memory y) (given-hush r.midi)
    (came_unhushed (hush_acts r.midi) o (quiet-hush r.midi) calls.called))

-- ---- its text

-- it was loaded before
pub by_room : {T : Type 0} {done : T} (r : Recovery) (text : List ℕ) {x y z : World}
    {status : Status} → Called (Ok done) (Load r.room (Some text)) x y
    → CameBy (λ b. hushed r (recovered r b.closing (room_parts text))) y status z
    → CameBy (recovery_outline r) x status z
unfolding recovery_outline loading
by_room r text called did =
    by_after (record did.brought { script = Some text }) (loaded called) (kind_of did) did.came refl

-- a recovery asks the inbox nothing, and paints nothing
pub idle_recovery : (r : Recovery) → IsIdle (recovery_outline r nothing)
unfolding recovery_outline loading
idle_recovery r = (refl, tt)

screen_by : (r : Recovery) (came : Losses) (text : Option (List ℕ))
    → (loading r.room text (λ text. hushed r (recovered r came (room_parts text)))).screen ≡ None
unfolding loading hushed
screen_by r came None = refl
screen_by r came (Some text) = (parts_recovery r came (room_parts text)).screen

pub screen-recovery : (r : Recovery) (b : Brought) → (recovery_outline r b).screen ≡ None
unfolding recovery_outline
screen-recovery r b = screen_by r b.closing b.script

-- ---- its parts

pub parts_unread : (r : Recovery) (parts : Option Room) (x : World) → parts ≡ None
    → CameBy (λ b. recovered r b.closing parts) x (GridRefused NoCells) x
unfolding recovered
parts_unread r None x none =
    by_failed [] (GridRefused NoCells) refl tt refl (made_none x, refl) (refl, refl, λ same. cc)
parts_unread r (Some room) x none = absurd cc

pub parts_read : (r : Recovery) (parts : Option Room) (room : Room) {x y : World}
    {status : Status} → parts ≡ Some room
    → CameBy (λ b. grid_recovered r room b.closing (grid_text room.grid)) x status y
    → CameBy (λ b. recovered r b.closing parts) x status y
unfolding recovered
parts_read r parts room is did = rw is did

-- ---- its grid

pub grid_read : (r : Recovery) (room : Room) (read : Result Sheet GridRefusal) (sheet : Sheet)
    {x y : World} {status : Status} → read ≡ Ok sheet
    → CameBy (λ b. script_recovered r sheet (lines_ahead room) (whole_lines room.script) b.closing) x
    status y
    → CameBy (λ b. grid_recovered r room b.closing read) x status y
unfolding grid_recovered
grid_read r room read sheet is did = rw is did

pub grid_unread : {T : Type 0} (r : Recovery) (room : Room) (read : Result Sheet GridRefusal)
    (refusal : GridRefusal) (result : Result T GridRefusal) (x : World) → result ≡ Err refusal
    → IfErr read (λ named. result ≡ Err named) → OnOk read (IsOkUnless result refused.Memory)
    → CameBy (λ b. grid_recovered r room b.closing read) x (refused_status refusal) x
unfolding grid_recovered
grid_unread r room read refused.Memory result x said is memory =
    by_memory (idle_by _ (grid_recovery r room nothing.closing read)) (came_none _ x)
grid_unread r room read refusal result x said is memory =
    let found : read ≡ Err refusal = grind arith in
    by_failed [] (GridRefused refusal) (rw found refl) tt refl (made_none x, refl)
    (refl, refl, λ same. cc)

-- ---- its script

all_by : (r : Recovery) (sheet : Sheet) (before : ℕ) (text : List ℕ)
    (read : Result (List Cue) ScriptFault) {x y : World} {status : Status} → IsOk read
    → CameBy (λ b. sound_recovered r sheet text None b.closing) x status y
    → CameBy (λ b. lines_recovered r sheet before text b.closing read) x status y
all_by r sheet before text (Ok cues) ok did = did
all_by r sheet before text (Err fault) ok did = absurd cc

-- no line is wrong
pub all_sound : (r : Recovery) (sheet : Sheet) (before : ℕ) (text : List ℕ) {x y : World}
    {status : Status} → IsOk (script_by true text)
    → CameBy (λ b. sound_recovered r sheet text None b.closing) x status y
    → CameBy (λ b. script_recovered r sheet before text b.closing) x status y
unfolding script_recovered
all_sound r sheet before text ok did = all_by r sheet before text (script_by true text) ok did

-- the first one is
pub first_wrong : (r : Recovery) (sheet : Sheet) (before : ℕ) (text : List ℕ) (fault : ScriptFault)
    (x : World) → script_by true text ≡ Err fault → fault.line ≡ 1
    → CameBy (λ b. script_recovered r sheet before text b.closing) x
    (ScriptRefused fault.line fault.column) x
unfolding script_recovered wrong_recovered
first_wrong r sheet before text fault x read one =
    by_failed [] (ScriptRefused fault.line fault.column) (rw (read, one) refl) tt refl
    (made_none x, refl) (refl, refl)

-- a later one is
pub later_wrong : (r : Recovery) (sheet : Sheet) (before : ℕ) (text : List ℕ) (fault : ScriptFault)
    {x y : World} {status : Status} → script_by true text ≡ Err fault → fault.line ≢ 1
    → CameBy (λ b. sound_recovered r sheet text (Some (fault_behind before fault)) b.closing) x status y
    → CameBy (λ b. script_recovered r sheet before text b.closing) x status y
unfolding script_recovered wrong_recovered
later_wrong r sheet before text fault read other did =
    rw (read, ne_eqb fault.line 1 other) did

-- memory was refused before the session was open
pub sound_unopened : (r : Recovery) (sheet : Sheet) (text : List ℕ) (wrong : Option ScriptFault)
    (x : World) → CameBy (λ b. sound_recovered r sheet text wrong b.closing) x Memory x
sound_unopened r sheet text wrong x =
    by_memory (idle_by _ (sound_recovery r sheet text wrong nothing.closing)) (came_none _ x)

-- its commands were done from the start of the session on
pub sound_from : (r : Recovery) (sheet : Sheet) (text : List ℕ) (wrong : Option ScriptFault)
    (seed limit : ℕ) (strict : Bool) (s : Standing) (u : Rescue) {x y : World} {status : Status}
    → u ≡ rescue_at_start strict → s ≡ standing_at sheet seed limit
    → strict ≡ is_strict limit (room_limit text) → limit ≡ limit_for r (room_limit text)
    → seed ≡ unwrap_or (seed_in text) DEFAULT_SEED
    → CameBy (λ b. rescue_by r seed (commands_of_cues (sound_script text)) wrong b.closing s
    (concert_course recovery_manner (sound_script text) (concert_with s u))) x status y
    → CameBy (λ b. sound_recovered r sheet text wrong b.closing) x status y
unfolding sound_recovered
sound_from r sheet text wrong seed limit strict s u begun stands tight most own did =
    rw (begun, stands, tight, most, own) at did

-- ---- the same room, whatever its saves come to

rescue_alike : (r : Recovery) (seed : ℕ) (commands : List Command) (wrong : Option ScriptFault)
    (came other : Losses) (u : Standing) (c : Course (Concert Rescue) Stop)
    → EndAlike (rescue_by r seed commands wrong came u c)
    (rescue_by r seed commands wrong other u c)
unfolding rescue_by opening mapped afterwards
rescue_alike r seed commands wrong came other u c =
    let script = script_done seed commands c.ending c.state.kept in
    let planned = planned_end wrong c.ending in
    let m = c.state.standing.machine in
    let one = (saved_quiet r script m planned came).commands in
    let two = (saved_quiet r script m planned other).commands in
    record {
      commands = commands_in-append c.acts _
          ∙ (rw (one, ← two) (sym (commands_in-append c.acts _)));
      standing = refl;
      given = refl;
    }

alike_same : (o : Outline) → EndAlike o o
alike_same o = record { commands = refl; standing = refl; given = refl }

wrong_alike : (first : Bool) (status : Status) (o p : Outline) → EndAlike o p
    → EndAlike (if first then stopped_run status else o) (if first then stopped_run status else p)
wrong_alike true status o p alike = alike_same (stopped_run status)
wrong_alike false status o p alike = alike

sound_alike : (r : Recovery) (sheet : Sheet) (text : List ℕ) (wrong : Option ScriptFault)
    (came other : Losses)
    → EndAlike (sound_recovered r sheet text wrong came) (sound_recovered r sheet text wrong other)
unfolding sound_recovered
sound_alike r sheet text wrong came other = rescue_alike r _ _ wrong came other _ _

lines_alike : (r : Recovery) (sheet : Sheet) (before : ℕ) (text : List ℕ) (came other : Losses)
    (read : Result (List Cue) ScriptFault)
    → EndAlike (lines_recovered r sheet before text came read)
    (lines_recovered r sheet before text other read)
unfolding wrong_recovered
lines_alike r sheet before text came other (Ok cues) = sound_alike r sheet text None came other
lines_alike r sheet before text came other (Err fault) =
    wrong_alike (fault.line == 1) (ScriptRefused fault.line fault.column) _ _
    (sound_alike r sheet text (Some (fault_behind before fault)) came other)

grid_alike : (r : Recovery) (room : Room) (came other : Losses) (read : Result Sheet GridRefusal)
    → EndAlike (grid_recovered r room came read) (grid_recovered r room other read)
unfolding grid_recovered script_recovered
grid_alike r room came other (Err refusal) = alike_same _
grid_alike r room came other (Ok sheet) =
    lines_alike r sheet (lines_ahead room) (whole_lines room.script) came other _

parts_alike : (r : Recovery) (came other : Losses) (parts : Option Room)
    → EndAlike (recovered r came parts) (recovered r other parts)
unfolding recovered
parts_alike r came other None = alike_same _
parts_alike r came other (Some room) = grid_alike r room came other (grid_text room.grid)

pub room_alike : (r : Recovery) (came other : Losses) (text : Option (List ℕ))
    → EndAlike (loading r.room text (λ text. hushed r (recovered r came (room_parts text))))
    (loading r.room text (λ text. hushed r (recovered r other (room_parts text))))
unfolding loading hushed
room_alike r came other None = alike_same _
room_alike r came other (Some text) =
    let alike = parts_alike r came other (room_parts text) in
    let quiet = quiet_acts (hush_acts r.midi) (quiet-hush r.midi) in
    record {
      commands = quiet.commands _ ∙ (alike.commands ∙ sym (quiet.commands _));
      standing = alike.standing;
      given = alike.given;
    }
