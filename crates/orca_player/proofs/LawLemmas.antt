-- The laws of performances, on the outlines of runs.
use Rattle.std.proofs.Common.{◌≡◌, ◌≢◌, ◌⊎◌, inl, inr, ℕ, zero, suc, replicate, subst, Bool, true, false, List, length, [], ◌++◌, refl, sym, ◌∙◌, ap, append-nil, arith, ◌∷◌}
use Rattle.std.specs.Prelude.{◌||◌, ◌==◌, if◌then◌else◌, slice_index_or, Option, Some, None, unwrap_or, Result, Ok, Err, IfSome}
use Rattle.std.specs.Option.{is_some, option_map, option_map_or}
use Rattle.std.proofs.lemmas.List.{length-replicate}
use Rattle.orca_base.specs.declared.command.Command.{Command}
use Rattle.orca_base.specs.Grids.{Sheet}
use Rattle.orca_clock.specs.Followers.{follow_part}
use Rattle.orca_clock.specs.Leaders.{lead_part}
use Rattle.orca_concert.specs.Concerts.{concert_with}
use Rattle.orca_course.specs.Acts.{Act, commands_in, ArePrintable}
use Rattle.orca_course.specs.Courses.{mapped}
use Rattle.orca_course.specs.Performers.{Part, performance}
use Rattle.orca_course.specs.Standings.{Standing}
use Rattle.orca_course.specs.declared.ending.Ending.{Ending}
use Rattle.orca_course.specs.declared.item.Losses.{Losses}
use Rattle.orca_course.proofs.CuttingLemmas.{ByItems, items_alike}
use Rattle.orca_cues.specs.Scripts.{any_script_of, cues_asking, seed_in}
use Rattle.orca_cues.proofs.Printed.{script2_read}
use Rattle.orca_edit.specs.Obeying.{MachineState, machine_closed}
use Rattle.orca_grid.specs.GridText.{grid_text}
use Rattle.orca_grid.specs.declared.refusal.GridRefusal.{GridRefusal}
use Rattle.orca_jam.specs.Crews.{crew_alone, crew_at_start, new_player, viewers_of}
use Rattle.orca_live.specs.Items.{items_heard}
use Rattle.orca_live.specs.Laws.{ItemsDecide, ReplaysScript as LiveReplays, replayed}
use Rattle.orca_live.specs.Performing.{live_part}
use Rattle.orca_live.proofs.WorthLemmas.{all_counted, worth_of}
use Rattle.orca_reports.specs.Manners.{replay_manner, state_manner}
use Rattle.orca_rig.specs.declared.files.Claim.{Claim as Claimed}
use Rattle.orca_rig.specs.declared.files.Claim.TheVariants.{Made as ClaimMade, Left as ClaimLeft, Held as ClaimHeld}
use Rattle.orca_script.specs.Runs.{lines_behind, printed_script}
use Rattle.orca_words.specs.Requests.{Follow, Lead, Perform, Performance, Play, Recover, Replay, Request, Setup, Work, request_of}
use Rattle.orca_course.specs.Acts.Act.{Attach, Claim, Give, Learn, Listen, Load, Remove, Screen, Show, Stand, Tell}
use Rattle.orca_live.specs.Paintings.{ShowsPerformance, ShowsPictures, seen_by}
use Rattle.orca_live.specs.States.{Viewed, screen_at, unpainted}
use Rattle.orca_term.specs.Picture.{IsScreen}
use Rattle.orca_term.specs.declared.cell.ScreenSize.{ScreenSize}
use Rattle.orca_player.specs.Doing.{ReadsBack}
use Rattle.orca_player.specs.Laws.{CutsAlike, EndAlike, HasEnd, IsReplayed, ReplaysAlike, hands_heard}
use Rattle.orca_player.specs.Outlines.{Brought, Heard, Outline, Script, preceded, asked_outline, attach_acts, closings, concert, crew_of, follow_outline, follow_start, grid_outline, hands_asked, lead_outline, lead_start, leavings, live_outline, live_start, loading, made_outline, migrated, opening, outline, performed, performed_outline, reading_outline, recovery_outline, request_outline, room_name, room_start, roomed, script_kept, script_outline, setting_of, standing_at, start_of, status_of_ending, stopped_run, work_outline, waiting}
use Rattle.orca_player.specs.declared.live.TheConstants.{ALONE}
use Rattle.orca_player.specs.declared.status.Status.TheVariants.{FileFault}
use Rattle.orca_player.proofs.CameLemmas.{attaches-calls, calls_bare, AreCalls}
use Rattle.orca_player.proofs.ClockLemmas.{Anywhere, follow_by_items, lead_by_items, lead_core}
use Rattle.orca_player.proofs.LeavingLemmas.{commands-left, leavings_quiet}
use Rattle.orca_player.proofs.RecoveryLemmas.{room_alike, screen-recovery}
use Rattle.orca_concert.proofs.EndingLemmas.{concert-standing}

-- each beginning of acts shows the pictures of each hand
record AllShow (d : ScreenSize) (acts : List Act) : Type 0 where
  pub show : (hand : ℕ) (begun left : List Act) → acts ≡ begun ++ left → ArePrintable begun
      → ShowsPictures hand d [] begun

-- an act before them that neither gives nor paints
show_before : {d : ScreenSize} (act : Act) {acts : List Act}
    → ((bs : List Act) → ArePrintable (act ∷ bs) → ArePrintable bs)
    → ((hand : ℕ) (bs : List Act) → ShowsPictures hand d [] bs
    → ShowsPictures hand d [] (act ∷ bs))
    → AllShow d acts → AllShow d (act ∷ acts)
show_before {d = d} act {acts = acts} prints passes all = record {
  show = λ hand. elim [
    | [] ↦ λ left is printable. tt
    | b ∷ bs ↦ λ left is printable.
        let same : b ≡ act = cc in
        let more : acts ≡ bs ++ left = cc in
        rw same
        (passes hand bs (all.show hand bs left more (prints bs (rw same at printable))))
  ];
}

show_calls : {d : ScreenSize} (xs acts : List Act) → AreCalls xs → AllShow d acts
    → AllShow d (xs ++ acts)
show_calls [] acts calls all = all
show_calls (Attach attached ∷ xs) acts calls all =
    show_before (Attach attached) (λ bs prints. prints) (λ hand bs shows. shows)
    (show_calls xs acts calls all)
show_calls (Load name text ∷ xs) acts calls all =
    show_before (Load name text) (λ bs prints. prints) (λ hand bs shows. shows)
    (show_calls xs acts calls all)
show_calls (Claim name bytes claimed ∷ xs) acts calls all =
    show_before (Claim name bytes claimed) (λ bs prints. prints) (λ hand bs shows. shows)
    (show_calls xs acts calls all)
show_calls (Listen name hands start ∷ xs) acts calls all =
    show_before (Listen name hands start) (λ bs prints. prints) (λ hand bs shows. shows)
    (show_calls xs acts calls all)
show_calls (_ ∷ xs) acts calls all = absurd calls

-- an outline that paints on a screen shows each picture
abbrev Shown : Outline → Type 0
Shown o = IfSome o.screen (λ d. AllShow d o.course.acts)

-- a screen is one that a view may have
abbrev Sized : Outline → Type 0
Sized o = IfSome o.screen IsScreen

shown_by : (screen : Option ScreenSize) (xs acts : List Act) → AreCalls xs
    → IfSome screen (λ d. AllShow d acts) → IfSome screen (λ d. AllShow d (xs ++ acts))
shown_by None xs acts calls all = tt
shown_by (Some d) xs acts calls all = show_calls xs acts calls all

-- acts that neither send, tell a hand, paint nor tell of a size
abbrev ArePlain : List Act → Type 0
ArePlain [] = Unit {0}
ArePlain (Give sent ∷ acts) = ⊥
ArePlain (Tell hand bytes ∷ acts) = ⊥
ArePlain (Show hand cells ∷ acts) = ⊥
ArePlain (Screen hand d ∷ acts) = ⊥
ArePlain (_ ∷ acts) = ArePlain acts

shows_plain : (hand : ℕ) (d : ScreenSize) (sent : List ℕ) (acts : List Act) → ArePlain acts
    → ShowsPictures hand d sent acts
shows_plain hand d sent [] plain = tt
shows_plain hand d sent (Give piece ∷ acts) plain = absurd plain
shows_plain hand d sent (Tell to bytes ∷ acts) plain = absurd plain
shows_plain hand d sent (Show to cells ∷ acts) plain = absurd plain
shows_plain hand d sent (Screen to e ∷ acts) plain = absurd plain
shows_plain hand d sent (act ∷ acts) plain =
    shows_plain hand d (sent ++ seen_by hand act) acts plain

-- behind others they change nothing of what is shown
shows_behind : (hand : ℕ) (d : ScreenSize) (sent : List ℕ) (xs ys : List Act) → ArePlain ys
    → ShowsPictures hand d sent xs → ShowsPictures hand d sent (xs ++ ys)
shows_behind hand d sent [] ys plain shows = shows_plain hand d sent ys plain
shows_behind hand d sent (Show to cells ∷ xs) ys plain shows =
    (shows.0, shows_behind hand d sent xs ys plain shows.1)
shows_behind hand d sent (Screen to e ∷ xs) ys plain shows =
    shows_behind hand (if to == hand then e else d) (if to == hand then [] else sent) xs ys plain
    shows
shows_behind hand d sent (act ∷ xs) ys plain shows =
    shows_behind hand d (sent ++ seen_by hand act) xs ys plain shows

prints_front : (xs ys : List Act) → ArePrintable (xs ++ ys) → ArePrintable xs
prints_front [] ys prints = tt
prints_front (x ∷ xs) ys prints = grind (arith, prints_front xs ys)

plain_front : (xs ys : List Act) → ArePlain (xs ++ ys) → ArePlain xs
plain_front [] ys plain = tt
plain_front (x ∷ xs) ys plain = grind (arith, plain_front xs ys)

-- a beginning of two lists is one of the first, or the first and a beginning of the second
abbrev Begins : List Act → List Act → List Act → List Act → Type 0
Begins xs ys begun left =
    ((rest : List Act) × (xs ≡ begun ++ rest))
    ⊎ ((front : List Act) × (begun ≡ xs ++ front) × (ys ≡ front ++ left))

begins_in : (xs ys begun left : List Act) → xs ++ ys ≡ begun ++ left → Begins xs ys begun left
begins_in [] ys begun left is = inr (begun, refl, is)
begins_in (x ∷ xs) ys [] left is = inl (x ∷ xs, refl)
begins_in (x ∷ xs) ys (b ∷ begun) left is =
    elim (begins_in xs ys begun left (cc is)) [
      | inl at ↦ inl (at.0, cc (is, at.1))
      | inr at ↦ inr (at.0, cc (is, at.1), at.2)
    ]

show_behind : {d : ScreenSize} (xs ys : List Act) → ArePlain ys → AllShow d xs
    → AllShow d (xs ++ ys)
show_behind {d = d} xs ys plain all = record {
  show = λ hand begun left is printable.
      elim (begins_in xs ys begun left is) [
        | inl at ↦ all.show hand begun at.0 at.1 printable
        | inr at ↦
            rw at.1 (shows_behind hand d [] xs at.0 (plain_front at.0 left (rw at.2 at plain))
            (all.show hand xs [] (sym (append-nil xs))
            (prints_front xs at.0 (rw at.1 at printable))))
      ];
}

-- a room is left so
plain_left : (name : List ℕ) (came : Losses) (stays : Bool)
    → ArePlain (Learn came ∷ (if stays then [] else Remove name ∷ []))
plain_left name came true = tt
plain_left name came false = tt

plain_closings : (room : Option (List ℕ)) (ending : Option Ending) (came : Losses) (loose : Bool)
    → ArePlain (closings room ending came loose)
plain_closings room None came loose = tt
plain_closings None (Some ending) came loose = tt
plain_closings (Some name) (Some ending) came loose =
    plain_left name came (came.unstored || loose)

-- a hand is shown nothing at the start
start_view : (n hand : ℕ) (v : Viewed) → slice_index_or (replicate n v) hand v ≡ v
start_view zero hand v = refl
start_view (suc n) zero v = refl
start_view (suc n) (suc hand) v = start_view n hand v

start_shows : ShowsPerformance → (setup : Setup) (play : Performance) (at : ℕ) (b : Brought)
    (s : Standing) (hand : ℕ) (begun left : List Act) → IsScreen (setting_of setup play).screen
    → (performance live_part (live_start setup play at s) b.opening b.hearings).acts ≡ begun ++ left
    → ArePrintable begun → ShowsPictures hand (setting_of setup play).screen [] begun
start_shows law setup play at b s hand begun left sized is printable =
    let u = live_start setup play at s in
    let views = start_view (viewers_of (crew_of setup play)) hand
    (unpainted (setting_of setup play).screen) in
    let screen : screen_at hand u ≡ (setting_of setup play).screen =
    ap (λ (v : Viewed). v.screen) views in
    subst (λ (d : ScreenSize). ShowsPictures hand d [] begun) screen
    (law u b.opening b.hearings begun left hand (subst IsScreen (sym screen) sized)
    (ap (λ (v : Viewed). v.shown) views) is printable)

shown_listened : ShowsPerformance → (address : List ℕ) (hands : ℕ) (setup : Setup)
    (play : Performance) (at : ℕ) (b : Brought) (s : Standing)
    → Sized (live_outline setup play b s at)
    → Shown (preceded (Listen address hands (Some at) ∷ []) (live_outline setup play b s at))
unfolding live_outline opening mapped
shown_listened law address hands setup play at b s sized =
    let c = performance live_part (live_start setup play at s) b.opening b.hearings in
    show_calls (Listen address hands (Some at) ∷ []) _ tt
    (show_before (Stand s) (λ bs prints. prints) (λ hand bs shows. shows)
    (show_behind c.acts (closings (room_name play) c.ending b.closing c.state.loose)
    (plain_closings (room_name play) c.ending b.closing c.state.loose) (record {
      show = λ hand begun left is printable.
          start_shows law setup play at b s hand begun left sized is printable;
    })))

shown_listening : ShowsPerformance → (setup : Setup) (play : Performance) (start : Option ℕ)
    (b : Brought) (s : Standing)
    → let o = waiting (leavings (room_name play) b.closing false) play.address (hands_asked play) start
    (live_outline setup play b s) in
    Sized o → Shown o
unfolding waiting
shown_listening law setup play None b s = λ sized. tt
shown_listening law setup play (Some at) b s =
    shown_listened law play.address (hands_asked play) setup play at b s

-- a room before them changes nothing of that
shown_roomed : (room : Option (List ℕ)) (text : List ℕ) (claimed : Option Claimed) (o : Outline)
    → (Sized o → Shown o) → Sized (roomed room text claimed o) → Shown (roomed room text claimed o)
unfolding roomed
shown_roomed None text claimed o shown sized = shown sized
shown_roomed (Some name) text None o shown sized = tt
shown_roomed (Some name) text (Some ClaimLeft) o shown sized = tt
shown_roomed (Some name) text (Some ClaimHeld) o shown sized = tt
shown_roomed (Some name) text (Some ClaimMade) o shown sized =
    shown_by _ (Claim name text (Some ClaimMade) ∷ []) _ tt (shown sized)

shown_work : ShowsPerformance → (setup : Setup) (work : Work) (sheet : Sheet) (b : Brought)
    → Sized (work_outline setup work sheet b) → Shown (work_outline setup work sheet b)
unfolding work_outline waiting loading script_outline reading_outline concert follow_outline lead_outline opening
shown_work law setup (Play play) sheet b sized =
    shown_roomed (room_name play) (room_start setup sheet) b.claimed _
    (shown_listening law setup play b.start b (start_of setup sheet)) sized
shown_work law setup (Follow address) sheet b sized = grind arith
shown_work law setup (Lead lead) sheet b sized = grind arith
shown_work law setup (Replay name) sheet b sized = grind arith
shown_work law setup _ sheet b sized = tt

shown_grid : ShowsPerformance → (setup : Setup) (work : Work) (b : Brought)
    (read : Result Sheet GridRefusal) → Sized (grid_outline setup work b read)
    → Shown (grid_outline setup work b read)
unfolding grid_outline
shown_grid law setup work b (Err refusal) sized = tt
shown_grid law setup work b (Ok sheet) sized = shown_work law setup work sheet b sized

shown_loaded : ShowsPerformance → (setup : Setup) (work : Work) (b : Brought)
    (grid : Option (List ℕ))
    → let o = option_map_or (λ text. grid_outline setup work b (grid_text text)) grid
    (stopped_run FileFault) in
    Sized o → Shown o
shown_loaded law setup work b None = λ sized. tt
shown_loaded law setup work b (Some text) = shown_grid law setup work b (grid_text text)

shown_performed : ShowsPerformance → (setup : Setup) (work : Work) (h : Heard)
    → Sized (performed setup work h) → Shown (performed setup work h)
unfolding performed loading
shown_performed law setup work h sized =
    shown_by _ (attach_acts setup) _ (attaches-calls setup)
    (shown_by _ (Load setup.grid h.grid ∷ []) _ tt
    (shown_loaded law setup work h.brought h.grid sized))

shown_asked : ShowsPerformance → (asked : Option Request) (h : Heard) → Sized (asked_outline asked h)
    → Shown (asked_outline asked h)
unfolding request_outline loading migrated reading_outline made_outline concert opening
shown_asked law (Some (Recover r)) h sized = rw (screen-recovery r h.brought) tt
shown_asked law asked h sized = grind (arith, shown_performed law)

shown_outline : ShowsPerformance → (words : List (List ℕ)) (h : Heard) → Sized (outline words h)
    → Shown (outline words h)
unfolding outline
shown_outline law words h sized = shown_asked law (request_of words) h sized

shown_some : (screen : Option ScreenSize) (acts begun left : List Act)
    → IfSome screen (λ d. AllShow d acts) → acts ≡ begun ++ left → ArePrintable begun
    → IfSome screen (λ d. (hand : ℕ) → ShowsPictures hand d [] begun)
shown_some None acts begun left all is printable = tt
shown_some (Some d) acts begun left all is printable = λ hand.
    all.show hand begun left is printable

-- wherever a picture is painted for a hand in a beginning of a run, its terminal shows it
pub shows_outline : ShowsPerformance → (words : List (List ℕ)) (h : Heard)
    → Sized (outline words h) → (begun left : List Act)
    → (outline words h).course.acts ≡ begun ++ left → ArePrintable begun
    → IfSome (outline words h).screen (λ d. (hand : ℕ) → ShowsPictures hand d [] begun)
shows_outline law words h sized begun left is printable =
    shown_some _ _ begun left (shown_outline law words h sized) is printable

-- how a course ended, if the outline has an end
pub ended_by : (end : Option Ending) → option_map status_of_ending end ≢ None → end ≢ None
ended_by end is none = grind arith

-- ---- any cutting

abbrev brings : Option (List ℕ) → Option Claimed → Option ℕ → Brought → Brought
brings script claimed start b =
    record b { script = script; claimed = claimed; start = start }

-- the same items of so many hands, cut into answers in two ways
abbrev AreCut : ℕ → Option ℕ → Option ℕ → Brought → Brought → Type 0
AreCut hands start other b c =
    (is_some other ≡ is_some start) × (items_heard hands b.hearings ≡ items_heard hands c.hearings)

-- if both have an end
abbrev Alike : Outline → Outline → Type 0
Alike o p = HasEnd o → HasEnd p → EndAlike o p

alike_none : (o : Outline) → Alike o o
alike_none o = λ ends others. record { commands = refl; standing = refl; given = refl }

-- performances that go by items, from states that are alike in what matters
alike_by : {S : Type 0} (p : Part S) (core : S → S)
    → ByItems (worth_of ALONE) p core Anywhere p.stance.standing
    → (address : List ℕ) (at other : ℕ) (s : Standing) (b c : Brought) (u v : S)
    → items_heard ALONE b.hearings ≡ items_heard ALONE c.hearings → core u ≡ core v
    → Alike (preceded (Listen address ALONE (Some at) ∷ []) (performed_outline p s u b))
    (preceded (Listen address ALONE (Some other) ∷ []) (performed_outline p s v c))
unfolding opening mapped
alike_by p core by address at other s b c u v items same = λ ends other_ends.
    let alike = items_alike (worth_of ALONE) p core Anywhere p.stance.standing by u v b.opening
    c.opening b.hearings c.hearings tt tt
    (all_counted ALONE b.hearings ∙ (items ∙ sym (all_counted ALONE c.hearings))) same
    (ended_by (performance p u b.opening b.hearings).ending ends)
    (ended_by (performance p v c.opening c.hearings).ending other_ends) in
    record { commands = alike.commands; standing = alike.seen; given = refl }

-- a room before them changes nothing of that
alike_roomed : (room : Option (List ℕ)) (text : List ℕ) (claimed : Option Claimed)
    (o p : Outline) → Alike o p → Alike (roomed room text claimed o) (roomed room text claimed p)
unfolding roomed
alike_roomed None text claimed o p same = same
alike_roomed (Some name) text None o p same = alike_none _
alike_roomed (Some name) text (Some ClaimLeft) o p same = alike_none _
alike_roomed (Some name) text (Some ClaimHeld) o p same = alike_none _
alike_roomed (Some name) text (Some ClaimMade) o p same = λ ends others.
    let alike = same ends others in
    record { commands = alike.commands; standing = alike.standing; given = alike.given }

-- the crew of a performance has the hands that it listens for
crew_counted : (full views : Bool) (limit : ℕ) (hands : Option ℕ)
    → length (option_map_or (λ count. crew_at_start full views count limit) hands
    (crew_alone full)).players ≡ unwrap_or hands ALONE
crew_counted full views limit None = refl
crew_counted full views limit (Some hands) = length-replicate hands (new_player full)

play_alike : ItemsDecide → (setup : Setup) (play : Performance) (sheet : Sheet)
    (start other : Option ℕ) (b c : Brought) → AreCut (hands_asked play) start other b c
    → let s = start_of setup sheet in
    Alike (waiting (leavings (room_name play) b.closing false) play.address (hands_asked play) start
    (live_outline setup play b s))
    (waiting (leavings (room_name play) c.closing false) play.address (hands_asked play) other
    (live_outline setup play c s))
unfolding waiting live_outline opening mapped
play_alike cutting setup play sheet None None b c cut = λ ends others. record {
  commands = rw (
    append-nil (leavings (room_name play) b.closing false),
    append-nil (leavings (room_name play) c.closing false),
  )
      ((leavings_quiet (room_name play) b.closing false).commands
      ∙ sym (leavings_quiet (room_name play) c.closing false).commands);
  standing = refl;
  given = refl;
}
play_alike cutting setup play sheet (Some start) (Some other) b c cut =
    λ ends other_ends.
    let s = start_of setup sheet in
    let u = live_start setup play start s in
    let v = live_start setup play other s in
    let alike = cutting b.opening c.opening b.hearings c.hearings u v
    (rw (crew_counted play.full play.views setup.limit play.hands) cut.1)
    (record {
      setting = refl;
      standing = refl;
      crew = refl;
      screens = refl;
      given = refl;
    })
    (ended_by (performance live_part u b.opening b.hearings).ending ends)
    (ended_by (performance live_part v c.opening c.hearings).ending other_ends) in
    record {
      commands = commands-left (room_name play) b.closing (performance live_part u b.opening b.hearings)
          ∙ (alike.commands
          ∙ sym (commands-left (room_name play) c.closing
          (performance live_part v c.opening c.hearings)));
      standing = ap Some alike.standing;
      given = ap (script_kept play.script setup.seed) alike.given;
    }
play_alike cutting setup play sheet _ _ b c cut = absurd cc

work_alike : ItemsDecide → (setup : Setup) (work : Work) (sheet : Sheet) (script : Option (List ℕ))
    (claimed : Option Claimed) (start other : Option ℕ) (b c : Brought)
    → AreCut (hands_heard (Some (Perform setup work))) start other b c
    → Alike (work_outline setup work sheet (brings script claimed start b))
    (work_outline setup work sheet (brings script claimed other c))
unfolding work_outline waiting follow_outline lead_outline opening mapped
work_alike cutting setup (Play play) sheet script claimed start other b c cut =
    alike_roomed (room_name play) (room_start setup sheet) claimed _ _
    (play_alike cutting setup play sheet start other (brings script claimed start b)
    (brings script claimed other c) cut)
work_alike cutting setup (Follow address) sheet script claimed None None b c cut = alike_none _
work_alike cutting setup (Follow address) sheet script claimed (Some start) (Some other) b c cut =
    let s = start_of setup sheet in
    alike_by (follow_part state_manner) (λ s. s) follow_by_items address start other s b c
    (follow_start s) (follow_start s) cut.1 refl
work_alike cutting setup (Follow address) sheet script claimed _ _ b c cut = absurd cc
work_alike cutting setup (Lead lead) sheet script claimed None None b c cut = alike_none _
work_alike cutting setup (Lead lead) sheet script claimed (Some start) (Some other) b c cut =
    let s = start_of setup sheet in
    alike_by (lead_part state_manner) lead_core lead_by_items lead.address start other s b c
    (lead_start lead.bpm start s) (lead_start lead.bpm other s) cut.1 refl
work_alike cutting setup (Lead lead) sheet script claimed _ _ b c cut = absurd cc
work_alike cutting setup _ sheet script claimed start other b c cut = alike_none _

commands_attached : (setup : Setup) (more : List Act)
    → commands_in (attach_acts setup ++ more) ≡ commands_in more
commands_attached setup = (calls_bare (attach_acts setup) (attaches-calls setup)).commands

asked_alike : ItemsDecide → (request : Option Request) (grid script : Option (List ℕ))
    (claimed : Option Claimed) (start other : Option ℕ) (b c : Brought)
    → AreCut (hands_heard request) start other b c
    → Alike (asked_outline request (record { grid = grid; brought = brings script claimed start b }))
    (asked_outline request (record { grid = grid; brought = brings script claimed other c }))
unfolding request_outline performed loading grid_outline recovery_outline
asked_alike cutting (Some (Perform setup work)) grid script claimed start other b c cut =
    λ ends other_ends.
    let same : (sheet : Sheet) → Alike (work_outline setup work sheet (brings script claimed start b))
    (work_outline setup work sheet (brings script claimed other c)) =
    λ sheet. work_alike cutting setup work sheet script claimed start other b c cut in
    grind (arith, same, commands_attached)
asked_alike cutting (Some (Recover r)) grid script claimed start other b c cut =
    λ ends other_ends. room_alike r b.closing c.closing script
asked_alike cutting request grid script claimed start other b c cut = alike_none _

pub cuts_alike : (cutting : ItemsDecide) (words : List (List ℕ)) → CutsAlike words
unfolding outline
cuts_alike cutting words h k same ends others =
    let alike : Alike (outline words h)
    (outline words (record {
      grid = k.grid;
      brought = brings k.brought.script k.brought.claimed k.brought.start k.brought;
    })) =
    rw (same.grid, same.script, same.claimed)
    (asked_alike cutting (request_of words) h.grid h.brought.script h.brought.claimed
    h.brought.start k.brought.start
    h.brought k.brought (same.starts, same.items)) in
    alike ends others

-- ---- the script

-- the machine at the end of an outline
abbrev machine_of : Outline → Option MachineState
machine_of o = option_map (λ s. s.machine) o.course.state

-- where a replay of a script leads on an opened grid
replay_state : (script : Script) (sheet : Sheet) (seed limit : ℕ)
    → any_script_of (printed_script script.seed script.commands)
    ≡ Ok (cues_asking 2 (lines_behind 0 script.commands))
    → seed_in (printed_script script.seed script.commands) ≡ Some script.seed
    → machine_of (script_outline sheet seed limit (printed_script script.seed script.commands))
    ≡ Some (machine_closed
    (replayed replay_manner script.commands (standing_at sheet script.seed limit)))
unfolding script_outline reading_outline concert opening mapped
replay_state script sheet seed limit reads gives =
    rw (gives, reads) (ap (λ (s : Standing). Some s.machine)
    (concert-standing replay_manner (cues_asking 2 (lines_behind 0 script.commands))
    (concert_with (standing_at sheet script.seed limit) tt)))

-- a performance is replayed from where it began
record IsPlayed (setup : Setup) (script : Script) (o : Outline) (replay : Setup → Outline)
    : Type 0 where
  pub seed : script.seed ≡ setup.seed
  pub all : script.commands ≡ commands_in o.course.acts
  pub session : (other : Setup) → other.limit ≡ setup.limit
      → machine_of (replay other) ≡ machine_of o

-- the script that was kept
kept_script : (name : Option (List ℕ)) (seed : ℕ) (given : Option (List Command))
    (script : Script) → script_kept name seed given ≡ Some script
    → (script.seed ≡ seed) × (given ≡ Some script.commands)
    × (option_map {U = List Command} (λ name. []) name ≡ Some [])
kept_script name seed given script is = grind arith

live_again : LiveReplays → (setup : Setup) (play : Performance) (at : ℕ) (b : Brought)
    (sheet : Sheet) (script : Script)
    → let o = live_outline setup play b (start_of setup sheet) at in
    HasEnd o → o.given ≡ Some script → ReadsBack script → IsPlayed setup script o
    (λ other. script_outline sheet other.seed other.limit
    (printed_script script.seed script.commands))
unfolding live_outline opening mapped
live_again replays setup play at b sheet script = λ ends given reads.
    let s = start_of setup sheet in
    let u = live_start setup play at s in
    let c = performance live_part u b.opening b.hearings in
    let kept = kept_script play.script setup.seed c.state.given script given in
    let again = replays b.opening b.hearings u kept.2 (ended_by c.ending ends) in
    let all : script.commands ≡ commands_in c.acts =
    ap (λ (list : Option (List Command)). unwrap_or list []) (sym kept.1 ∙ again.given) in
    let read = script2_read script.seed script.commands reads in
    record {
      seed = kept.0;
      all = all ∙ sym (commands-left (room_name play) b.closing c);
      session = λ other same.
          replay_state script sheet other.seed other.limit read.0 read.1
          ∙ rw (same, kept.0, all) (ap Some (again.machine replay_manner
          (λ line answer messages r. grind arith)));
    }

-- a script was saved, so that the room was made, if there was to be one
roomed_again : (setup : Setup) (script : Script) (replay : Setup → Outline)
    (room : Option (List ℕ)) (text : List ℕ) (claimed : Option Claimed) (o : Outline)
    → HasEnd (roomed room text claimed o) → (roomed room text claimed o).given ≡ Some script
    → (HasEnd o → o.given ≡ Some script → IsPlayed setup script o replay)
    → IsPlayed setup script (roomed room text claimed o) replay
unfolding roomed
roomed_again setup script replay None text claimed o ends given again = again ends given
roomed_again setup script replay (Some name) text None o ends given again = absurd cc
roomed_again setup script replay (Some name) text (Some ClaimLeft) o ends given again = absurd cc
roomed_again setup script replay (Some name) text (Some ClaimHeld) o ends given again = absurd cc
roomed_again setup script replay (Some name) text (Some ClaimMade) o ends given again =
    let played = again ends given in
    record { seed = played.seed; all = played.all; session = played.session }

listen_again : LiveReplays → (setup : Setup) (play : Performance) (start : Option ℕ)
    (b : Brought) (sheet : Sheet) (script : Script)
    → let o = waiting (leavings (room_name play) b.closing false) play.address (hands_asked play) start
    (live_outline setup play b (start_of setup sheet)) in
    HasEnd o → o.given ≡ Some script → ReadsBack script → IsPlayed setup script o
    (λ other. script_outline sheet other.seed other.limit
    (printed_script script.seed script.commands))
unfolding waiting
listen_again replays setup play None b sheet script = λ ends given reads. absurd cc
listen_again replays setup play (Some at) b sheet script = λ ends given reads.
    let played = live_again replays setup play at b sheet script ends given reads in
    record { seed = played.seed; all = played.all; session = played.session }

grid_again : LiveReplays → (setup : Setup) (play : Performance) (b : Brought)
    (read : Result Sheet GridRefusal) (script : Script) (name : List ℕ)
    → HasEnd (grid_outline setup (Play play) b read)
    → (grid_outline setup (Play play) b read).given ≡ Some script → ReadsBack script
    → IsPlayed setup script (grid_outline setup (Play play) b read)
    (λ other. grid_outline other (Replay name)
    (record b { script = Some (printed_script script.seed script.commands) }) read)
unfolding grid_outline work_outline loading
grid_again replays setup play b (Err refusal) script name ends given reads = absurd cc
grid_again replays setup play b (Ok sheet) script name ends given reads =
    let played = roomed_again setup script _ (room_name play) (room_start setup sheet) b.claimed _
    ends given (λ ends given.
    listen_again replays setup play b.start b sheet script ends given reads) in
    record { seed = played.seed; all = played.all; session = played.session }

request_again : LiveReplays → (setup : Setup) (play : Performance) (grid : Option (List ℕ))
    (b : Brought) (script : Script)
    → let h : Heard = record { grid = grid; brought = b } in
    let o = request_outline (Perform setup (Play play)) h in
    HasEnd o → o.given ≡ Some script → ReadsBack script → IsReplayed setup h script o
unfolding request_outline performed loading
request_again replays setup play None b script = λ ends given reads. absurd cc
request_again replays setup play (Some text) b script = λ ends given reads.
    let played = λ (name : List ℕ).
    grid_again replays setup play b (grid_text text) script name ends given reads
    in
    record {
      seed = (played []).seed;
      all = (played []).all ∙ sym (commands_attached setup _);
      session = λ other name same. (played name).session other same;
    }

pub replays_alike : (replays : LiveReplays) (words : List (List ℕ)) → ReplaysAlike words
unfolding outline
replays_alike replays words setup play h script is ends given reads =
    rw is (request_again replays setup play h.grid h.brought script (rw is at ends) (rw is at given)
    reads)
