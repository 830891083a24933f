-- The terminal of a hand that is sent all its paintings since its size was told shows each picture.
use Rattle.std.proofs.Common.{◌≡◌, ℕ, zero, suc, ◌<◌, ◌≤◌, Bool, true, false, length, List, [], ◌∷◌, ◌++◌, refl, sym, ◌∙◌, ap, arith, subst, append-nil}
use Rattle.std.specs.Prelude.{◌==◌, All, if◌then◌else◌, IfSome, Some}
use Rattle.std.proofs.lemmas.Bool.{eqb-true, eqb-false, ltb-true}
use Rattle.std.proofs.lemmas.Bool.Decides.{nat_tests}
use Rattle.std.proofs.lemmas.List.{get_or-set_other, get_or-set_same, length-set}
use Rattle.orca_base.specs.declared.command.Command.{Command}
use Rattle.orca_base.specs.declared.command.Command.TheVariants.{Frame}
use Rattle.orca_base.specs.declared.message.Message.{Message}
use Rattle.orca_base.specs.declared.message.Message.TheVariants as message
use Rattle.orca_base.specs.MarkSet.{MarkSet}
use Rattle.orca_concert.specs.Concerts.{close_course as silence_course, command_course as obey_course, handed_of}
use Rattle.orca_course.specs.Acts.{Act, ArePrintable, gives}
use Rattle.orca_course.specs.Acts.Act.{Screen, Show, Stand}
use Rattle.orca_course.specs.Courses.{mapped, onward}
use Rattle.orca_course.specs.Performers.{performance}
use Rattle.orca_course.specs.Standings.{Standing, notes_of, standing_after, standing_closed}
use Rattle.orca_edit.specs.Obeying.{obey}
use Rattle.orca_jam.specs.declared.crew.TheConstants.{LEADER}
use Rattle.orca_jam.specs.declared.owner.TheConstants.{NOBODY}
use Rattle.orca_notes.specs.Sound.{ends}
use Rattle.orca_term.specs.Picture.{IsPrintable, IsScreen, screen_cells}
use Rattle.orca_term.specs.Viewing.{Shows, painting_bytes}
use Rattle.orca_term.specs.declared.cell.Cell.{Cell}
use Rattle.orca_term.specs.declared.cell.ScreenSize.{ScreenSize}
use Rattle.orca_term.proofs.DrawnRows.{picture_cells}
use Rattle.orca_term.proofs.Views.{shown_bytes}
use Rattle.orca_live.specs.Carrying.{Carries}
use Rattle.orca_live.proofs.Carried.{Anyhow, performance_carried}
use Rattle.orca_live.specs.Paintings.{ShowsPerformance, ShowsPictures, seen_by}
use Rattle.orca_live.specs.Performing.{hush_course, hand_course, live_part, picture_course, picture_for, view_acts}
use Rattle.orca_live.specs.States.{LiveState, Viewed, is_viewer, screen_at, unpainted, view_at, with_view}

-- ---- acts after acts

-- up to the first picture with a cell that a terminal can't show, the terminal of a hand, of the
-- size that it told last, that was sent all bytes since then, shows each of its pictures; and then
-- this holds of the last size, and of the bytes since then
abbrev ShownThen : ℕ → ScreenSize → (ScreenSize → List ℕ → Type 0) → List ℕ → List Act → Type 0
ShownThen hand d after sent [] = after d sent
ShownThen hand d after sent (Show to cells ∷ acts) =
    All IsPrintable cells
    → (to ≡ hand → Shows d sent (Some cells)) × ShownThen hand d after sent acts
ShownThen hand d after sent (Screen to e ∷ acts) =
    ShownThen hand (if to == hand then e else d) after (if to == hand then [] else sent) acts
ShownThen hand d after sent (act ∷ acts) = ShownThen hand d after (sent ++ seen_by hand act) acts

shown_twice : (hand : ℕ) (d : ScreenSize) (some all : ScreenSize → List ℕ → Type 0)
    (sent : List ℕ) (xs ys : List Act) → ShownThen hand d some sent xs
    → ((e : ScreenSize) (sent : List ℕ) → some e sent → ShownThen hand e all sent ys)
    → ShownThen hand d all sent (xs ++ ys)
shown_twice hand d some all sent [] ys first second = second d sent first
shown_twice hand d some all sent (Show to cells ∷ xs) ys first second = λ printable.
    let shows = first printable in
    (shows.0, shown_twice hand d some all sent xs ys shows.1 second)
shown_twice hand d some all sent (Screen to e ∷ xs) ys first second =
    shown_twice hand (if to == hand then e else d) some all (if to == hand then [] else sent) xs ys
    first second
shown_twice hand d some all sent (act ∷ xs) ys first second =
    shown_twice hand d some all (sent ++ seen_by hand act) xs ys first second

-- a beginning
shows_front : (hand : ℕ) (d : ScreenSize) (after : ScreenSize → List ℕ → Type 0) (sent : List ℕ)
    (xs ys : List Act) → ShownThen hand d after sent (xs ++ ys) → ArePrintable xs
    → ShowsPictures hand d sent xs
shows_front hand d after sent [] ys shows printable = tt
shows_front hand d after sent (Show to cells ∷ xs) ys shows printable =
    let here = shows printable.0 in
    (here.0, shows_front hand d after sent xs ys here.1 printable.1)
shows_front hand d after sent (Screen to e ∷ xs) ys shows printable =
    shows_front hand (if to == hand then e else d) after (if to == hand then [] else sent) xs ys
    shows printable
shows_front hand d after sent (act ∷ xs) ys shows printable =
    shows_front hand d after (sent ++ seen_by hand act) xs ys shows printable

-- acts of which nothing goes to the terminal of a hand, and none is a picture or a size
abbrev AreUnseen : ℕ → List Act → Type 0
AreUnseen hand [] = Unit {0}
AreUnseen hand (Show to cells ∷ acts) = ⊥
AreUnseen hand (Screen to d ∷ acts) = ⊥
AreUnseen hand (act ∷ acts) = (seen_by hand act ≡ []) × AreUnseen hand acts

unseen_shows : (hand : ℕ) (d : ScreenSize) (after : ScreenSize → List ℕ → Type 0) (sent : List ℕ)
    (acts : List Act) → AreUnseen hand acts → after d sent → ShownThen hand d after sent acts
unseen_shows hand d after sent [] none seen = seen
unseen_shows hand d after sent (Show to cells ∷ acts) none seen = absurd none
unseen_shows hand d after sent (Screen to e ∷ acts) none seen = absurd none
unseen_shows hand d after sent (act ∷ acts) none seen =
    rw (none.0, append-nil) (unseen_shows hand d after sent acts none.1 seen)

-- ---- from one state to another

-- a terminal of this size that was sent these bytes shows the last picture of a screen
record IsSeen (d : ScreenSize) (v : Viewed) (sent : List ℕ) : Type 0 where
  pub size : v.screen ≡ d
  pub screen : IsScreen d
  pub whole : IfSome v.shown (λ old. length old ≡ screen_cells d)
  pub shows : Shows d sent v.shown

-- that of a hand does, if it is shown a picture
abbrev Sees : ℕ → LiveState → ScreenSize → List ℕ → Type 0
Sees hand s d sent = hand < length s.views → IsSeen d (view_at hand s) sent

-- acts that keep the terminal of a hand with the state
record Displays (hand : ℕ) (s : LiveState) (acts : List Act) (t : LiveState) : Type 0 where
  pub many : length t.views ≡ length s.views
  pub shows : (d : ScreenSize) (sent : List ℕ) → Sees hand s d sent
      → ShownThen hand d (Sees hand t) sent acts

displays_twice : (hand : ℕ) (r s t : LiveState) (xs ys : List Act) → Displays hand r xs s
    → Displays hand s ys t → Displays hand r (xs ++ ys) t
displays_twice hand r s t xs ys first second = record {
  many = second.many ∙ first.many;
  shows = λ d sent sees.
      shown_twice hand d (Sees hand s) (Sees hand t) sent xs ys (first.shows d sent sees)
      second.shows;
}

-- acts of which nothing goes to it
displays_unseen : (hand : ℕ) (s : LiveState) (acts : List Act) (t : LiveState) → t.views ≡ s.views
    → t.setting ≡ s.setting → AreUnseen hand acts → Displays hand s acts t
displays_unseen hand s acts t views setting none = record {
  many = ap (λ (views : List Viewed). length views) views;
  shows = λ d sent sees.
      unseen_shows hand d (Sees hand t) sent acts none (rw (views, setting) sees);
}

-- ---- messages

-- a send to another port than that of the first terminal
either_none : (first : Bool) → ◌≡◌ {A = List ℕ} (if first then [] else []) []
either_none true = refl
either_none false = refl

-- no message goes to the terminal
handed_unseen : (hand : ℕ) (messages : List Message) (t : Standing)
    → AreUnseen hand ((gives (handed_of true messages) ++ Stand t ∷ []) ++ [])
handed_unseen hand [] t = (refl, tt)
handed_unseen hand (message.On channel key velocity ∷ messages) t =
    (either_none (hand == LEADER), handed_unseen hand messages t)
handed_unseen hand (message.Off channel key ∷ messages) t =
    (either_none (hand == LEADER), handed_unseen hand messages t)
handed_unseen hand (message.Control channel control value ∷ messages) t =
    (either_none (hand == LEADER), handed_unseen hand messages t)
handed_unseen hand (message.Bend channel lsb msb ∷ messages) t =
    (either_none (hand == LEADER), handed_unseen hand messages t)
handed_unseen hand (message.Udp text ∷ messages) t =
    (either_none (hand == LEADER), handed_unseen hand messages t)
handed_unseen hand (message.Osc path values ∷ messages) t =
    (either_none (hand == LEADER), handed_unseen hand messages t)

displays_command : (hand who : ℕ) (command : Command) (s : LiveState)
    → Displays hand s (hand_course who command s).acts (hand_course who command s).state
unfolding hand_course obey_course onward mapped
displays_command hand who command s =
    let o = obey s.standing.machine command in
    displays_unseen hand s _ _ refl refl
    (refl, handed_unseen hand o.messages (standing_after s.standing o))

displays_close : (hand : ℕ) (s : LiveState)
    → Displays hand s (hush_course s).acts (hush_course s).state
unfolding hush_course silence_course onward mapped
displays_close hand s =
    displays_unseen hand s _ _ refl refl
    (handed_unseen hand (ends (notes_of s.standing)) (standing_closed s.standing))

-- ---- paintings

-- what a hand sees of the act by which it, or another one, is given a painting
abbrev to_hand : Bool → List ℕ → List ℕ
to_hand own bytes = if own then bytes else []

same_test : (hand : ℕ) → (hand == LEADER) ≡ (zero == hand)
same_test hand = grind (arith, nat_tests)

-- a painting was given to a hand, and its picture is painted
view_shows : (hand to : ℕ) (d : ScreenSize) (after : ScreenSize → List ℕ → Type 0)
    (sent bytes : List ℕ) (cells : List Cell)
    → (All IsPrintable cells
    → (to ≡ hand → Shows d (sent ++ to_hand (to == hand) bytes) (Some cells))
    × after d (sent ++ to_hand (to == hand) bytes))
    → ShownThen hand d after sent (view_acts to bytes ++ Show to cells ∷ [])
view_shows hand to d after sent [] cells shows = rw (either_none, append-nil) at shows
view_shows hand zero d after sent (byte ∷ bytes) cells shows = rw (same_test hand) shows
view_shows hand (suc to) d after sent (byte ∷ bytes) cells shows = shows

-- another hand is shown what it was
other_view : (hand to : ℕ) (v : Viewed) (s : LiveState) → (to == hand) ≡ false
    → view_at hand (with_view to v s) ≡ view_at hand s
other_view hand to v s differs =
    get_or-set_other s.views to hand v (unpainted s.setting.screen)
    (λ same. eqb-false to hand differs (sym same))

own_view : (hand : ℕ) (v : Viewed) (s : LiveState) → hand < length s.views
    → view_at hand (with_view hand v s) ≡ v
own_view hand v s below = get_or-set_same s.views hand v (unpainted s.setting.screen) below

sees_other : (hand to : ℕ) (v : Viewed) (s : LiveState) (d : ScreenSize) (sent : List ℕ)
    → (to == hand) ≡ false → Sees hand s d sent → Sees hand (with_view to v s) d sent
sees_other hand to v s d sent differs sees below =
    rw (other_view hand to v s differs)
    (sees (subst (λ (n : ℕ). hand < n) (length-set s.views to v) below))

-- the picture has a cell for each place of the screen, and after its painting the terminal shows it
shows_own : (marks : List MarkSet) (hand : ℕ) (s : LiveState) (d : ScreenSize) (sent : List ℕ)
    → hand < length s.views → IsSeen d (view_at hand s) sent
    → let v = view_at hand s in
    let cells = picture_for hand marks s in
    let bytes = painting_bytes v.screen v.shown cells in
    All IsPrintable cells
    → Shows d (sent ++ bytes) (Some cells)
    × Sees hand (with_view hand (record v { shown = Some cells }) s) d (sent ++ bytes)
shows_own marks hand s d sent below seen printable =
    let v = view_at hand s in
    let cells = picture_for hand marks s in
    let bytes = painting_bytes v.screen v.shown cells in
    let one : 1 ≤ v.screen.rows = rw seen.size (omega (arith, seen.screen.rows)) in
    let whole = picture_cells v.screen _ _ _ one ∙ ap screen_cells seen.size in
    let shows = shown_bytes d v.shown cells bytes (record {
      screen = seen.screen;
      old = seen.whole;
      whole = whole;
      printable = printable;
      bytes_are = ap (λ d. painting_bytes d v.shown cells) seen.size;
    }) sent seen.shows in (
      shows,
      λ there.
          rw (own_view hand (record v { shown = Some cells }) s below)
          (record { size = seen.size; screen = seen.screen; whole = whole; shows = shows }),
    )

shows_by : (own : Bool) (marks : List MarkSet) (hand to : ℕ) (s : LiveState) (d : ScreenSize)
    (sent : List ℕ) → (to == hand) ≡ own → to < length s.views → Sees hand s d sent
    → let v = view_at to s in
    let cells = picture_for to marks s in
    let bytes = to_hand own (painting_bytes v.screen v.shown cells) in
    All IsPrintable cells
    → (to ≡ hand → Shows d (sent ++ bytes) (Some cells))
    × Sees hand (with_view to (record v { shown = Some cells }) s) d (sent ++ bytes)
shows_by true marks hand to s d sent same there sees printable =
    let is = eqb-true to hand same in
    let below = subst (λ (n : ℕ). n < length s.views) is there in
    subst (λ (n : ℕ). let v = view_at n s in
    let cells = picture_for n marks s in
    let bytes = painting_bytes v.screen v.shown cells in
    All IsPrintable cells
    → (n ≡ hand → Shows d (sent ++ bytes) (Some cells))
    × Sees hand (with_view n (record v { shown = Some cells }) s) d (sent ++ bytes)) (sym is)
    (λ shown.
    let own = shows_own marks hand s d sent below (sees below) shown in (λ same. own.0, own.1))
    printable
shows_by false marks hand to s d sent differs there sees printable =
    let v : Viewed = record (view_at to s) { shown = Some (picture_for to marks s) } in (
      λ same. absurd (eqb-false to hand differs same),
      rw append-nil (sees_other hand to v s d sent differs sees),
    )

displays_picture : (marks : List MarkSet) (hand to : ℕ) (s : LiveState) → is_viewer to s ≡ true
    → let c = picture_course marks to s in Displays hand s c.acts c.state
unfolding picture_course
displays_picture marks hand to s is =
    let v = view_at to s in
    let cells = picture_for to marks s in
    let bytes = painting_bytes v.screen v.shown cells in
    let t = with_view to (record v { shown = Some cells }) s in
    record {
      many = length-set s.views to _;
      shows = λ d sent sees.
          view_shows hand to d (Sees hand t) sent bytes cells
          (shows_by (to == hand) marks hand to s d sent refl
          (ltb-true to (length s.views) is) sees);
    }

-- a terminal begins anew
screens_by : (own : Bool) (hand to : ℕ) (e : ScreenSize) (s : LiveState) (d : ScreenSize)
    (sent : List ℕ) → (to == hand) ≡ own → IsScreen e → Sees hand s d sent
    → Sees hand (with_view to (unpainted e) s) (if own then e else d) (if own then [] else sent)
screens_by true hand to e s d sent same is sees = λ there.
    let at = eqb-true to hand same in
    let below = subst (λ (n : ℕ). hand < n) (length-set s.views to (unpainted e)) there in
    subst (λ (n : ℕ). IsSeen e (view_at hand (with_view n (unpainted e) s)) []) (sym at)
    (rw (own_view hand (unpainted e) s below)
    (record { size = refl; screen = is; whole = tt; shows = refl }))
screens_by false hand to e s d sent differs is sees =
    sees_other hand to (unpainted e) s d sent differs sees

displays_screen : (hand to : ℕ) (e : ScreenSize) (s : LiveState) → IsScreen e
    → Displays hand s (Screen to e ∷ []) (with_view to (unpainted e) s)
displays_screen hand to e s is = record {
  many = length-set s.views to _;
  shows = λ d sent sees. screens_by (to == hand) hand to e s d sent refl is sees;
}

-- ---- a performance

displays_carries : (hand : ℕ) → Carries (Anyhow (Displays hand))
displays_carries hand = record {
  none = λ who s t alike. displays_unseen hand s [] t alike.views alike.setting tt;
  both = λ who end. displays_twice hand;
  leaves = λ who s. displays_unseen hand s [] s refl refl tt;
  full = λ s is. displays_unseen hand s [] s refl refl tt;
  command = λ who command s other. displays_command hand who command s;
  frame = λ s. displays_command hand NOBODY Frame s;
  struck = λ who other key s. displays_unseen hand s _ _ refl refl (refl, tt);
  single = λ other s displays. displays;
  denied = λ who other denial s.
      displays_unseen hand s _ _ refl refl (either_none (hand == LEADER), tt);
  kept = λ who other bytes s. displays_unseen hand s _ _ refl refl (refl, tt);
  save = λ who name bytes s saved. displays_unseen hand s _ s refl refl (refl, tt);
  append = λ who name byte bytes s named is. displays_unseen hand s _ _ refl refl (refl, tt);
  paint = λ who marks other s is. displays_picture marks hand other s is;
  screen = λ who other e s is. displays_screen hand other e s is;
}

pub shows_performance : ShowsPerformance
shows_performance s opening heard begun left hand screen nothing splits printable =
    let last = (performance live_part s opening heard).state in
    let shows =
    performance_carried (displays_carries hand)
    (record {
      asks = λ poll t. displays_unseen hand t _ t refl refl (refl, tt);
      learns = λ came t. displays_unseen hand t _ t refl refl (refl, tt);
    })
    (λ who name t. displays_unseen hand t _ t refl refl (refl, tt)) (λ who. displays_close hand) s
    opening heard in
    let first : Sees hand s (screen_at hand s) [] =
    λ below. record { size = refl; screen = screen; whole = rw nothing tt; shows = rw nothing refl }
    in
    let all = shows.shows (screen_at hand s) [] first in
    shows_front hand (screen_at hand s) (Sees hand last) [] begun left (rw splits at all) printable
