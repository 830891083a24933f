-- The rules of the operators that send events are lawful: they mark their ports, and then send an
-- event in range or none.
-- Lemmas with their proofs, which an `impl` cites: no meaning rests on this file.
use Rattle.std.specs.Prelude.{ℕ, zero, suc, ◌+◌, ◌*◌, ◌<◌, ◌≤◌, ◌≡◌, ◌==◌, ◌&&◌, ◌||◌, not, nat_lt, Bool, true, false, if◌then◌else◌, List, [], ◌∷◌, ◌++◌, length, All, count_by, Option, Some, None, IfSome, unwrap_or, refl}
use Rattle.std.proofs.Common.{arith, lit≤, length-append}
use Rattle.std.proofs.lemmas.Bool.Decides.{nat_tests}
use Rattle.std.proofs.lemmas.List.{length-map}
use Rattle.std.proofs.lemmas.List.Elements.{All-nil, All-push, All-map}
use Rattle.orca_base.specs.declared.event.Event.{Event}
use Rattle.orca_base.specs.declared.limits.TheConstants.{BASE, MIN_VELOCITY, MAX_CHANNEL, MAX_DATA, MAX_TEXT, MAX_DEEDS}
use Rattle.orca_base.specs.declared.place.Place.{Place}
use Rattle.orca_base.specs.EventRanges.{IsInRange}
use Rattle.orca_base.specs.Glyphs.{IsGlyph, empty, value, note_number}
use Rattle.orca_base.proofs.GlyphFacts.{value-below}
use Rattle.orca_op.specs.State.{State, IsState, has_bang}
use Rattle.orca_base.specs.Grids.{right}
use Rattle.orca_op.specs.Deeds.{Deed, Mark, Write, Set, Emit, input_at, param_at, lock_at}
use Rattle.orca_op.specs.Laws.{IsLawful, Every, WritesGlyph, EmitsInRange, IsCovered, is_emit}
use Rattle.orca_op.proofs.LawFacts.{IsGlyph-peek, value_or-range, length-each, Every-append, Every-each, count_by-append}
use Rattle.orca_op.proofs.FirstFacts.{first_where-range}
use Rattle.orca_op.specs.MotionRules.{lock_deeds}
use Rattle.orca_op.specs.EventRules.{beside_bang, send_deeds, port, inputs, ports, velocity_of, note_with, note_of, midi, mono, control_of, control_change, bend_of, pitch_bend, text_length, text_at, text_event, udp_text, osc_of, osc_message}

-- the deed marks a spot
abbrev IsMark : Deed → Type 0
IsMark (Mark at marks) = Unit {0}
IsMark (Write at glyph) = ⊥
IsMark (Set variable glyph) = ⊥
IsMark (Emit event) = ⊥

-- what holds of every mark holds of deeds that mark
marks-all : (P : Deed → Type 0) → ((deed : Deed) → IsMark deed → P deed) → (deeds : List Deed)
    → Every IsMark deeds → Every P deeds
marks-all P holds [] marks = tt
marks-all P holds (deed ∷ deeds) marks = (holds deed marks.0, marks-all P holds deeds marks.1)

mark-writes : (deed : Deed) → IsMark deed → WritesGlyph deed
mark-writes (Mark at marks) mark = tt
mark-writes (Write at glyph) mark = absurd mark
mark-writes (Set variable glyph) mark = absurd mark
mark-writes (Emit event) mark = absurd mark

mark-covered : (at : Place) (all : List Deed) (deed : Deed) → IsMark deed → IsCovered at all deed
mark-covered at all (Mark spot marks) mark = tt
mark-covered at all (Write spot glyph) mark = absurd mark
mark-covered at all (Set variable glyph) mark = absurd mark
mark-covered at all (Emit event) mark = absurd mark

mark-in_range : (deed : Deed) → IsMark deed → EmitsInRange deed
mark-in_range (Mark at marks) mark = tt
mark-in_range (Write at glyph) mark = absurd mark
mark-in_range (Set variable glyph) mark = absurd mark
mark-in_range (Emit event) mark = absurd mark

marks-quiet : (deeds : List Deed) → Every IsMark deeds → count_by is_emit deeds ≡ 0
marks-quiet [] marks = refl
marks-quiet (Mark at set ∷ deeds) marks = marks-quiet deeds marks.1
marks-quiet (Write at glyph ∷ deeds) marks = absurd marks.0
marks-quiet (Set variable glyph ∷ deeds) marks = absurd marks.0
marks-quiet (Emit event ∷ deeds) marks = absurd marks.0

-- what is sent: at most a mark and an event
send_deeds-few : (at : Place) (event : Option Event) → length (send_deeds at event) ≤ 2
send_deeds-few at None = lit≤ tt
send_deeds-few at (Some event) = lit≤ tt

send_deeds-one : (at : Place) (event : Option Event) → count_by is_emit (send_deeds at event) ≤ 1
send_deeds-one at None = lit≤ tt
send_deeds-one at (Some event) = lit≤ tt

send_deeds-writes : (at : Place) (event : Option Event) → Every WritesGlyph (send_deeds at event)
send_deeds-writes at None = tt
send_deeds-writes at (Some event) = (tt, (tt, tt))

send_deeds-covered : (at : Place) (all : List Deed) (event : Option Event)
    → Every (IsCovered at all) (send_deeds at event)
send_deeds-covered at all None = tt
send_deeds-covered at all (Some event) = (tt, (tt, tt))

send_deeds-in_range : (at : Place) (event : Option Event) → IfSome event IsInRange
    → Every EmitsInRange (send_deeds at event)
send_deeds-in_range at None range = tt
send_deeds-in_range at (Some event) range = (tt, (range, tt))

event_if : (bang : Bool) (event : Option Event) → IfSome event IsInRange
    → IfSome (if bang then event else None) IsInRange
event_if true event range = range
event_if false event range = tt

-- ports that are marked, and an event in range after them
lawful-send : (marks : State → Place → List Deed) (event : State → Place → Option Event)
    → ((s : State) (at : Place) → length (marks s at) + 2 ≤ MAX_DEEDS)
    → ((s : State) (at : Place) → Every IsMark (marks s at))
    → ((s : State) (at : Place) → IsState s → IfSome (event s at) IsInRange)
    → IsLawful (λ g s at now. marks s at ++ send_deeds at (beside_bang s at (event s at)))
lawful-send marks event few only range = record {
  few_deeds = λ g s at now.
      omega (
        arith,
        few s at,
        send_deeds-few at (beside_bang s at (event s at)),
        length-append
            (marks s at) (send_deeds at (beside_bang s at (event s at))),
      );
  one_event = λ g s at now.
      omega (
        arith,
        marks-quiet (marks s at) (only s at),
        send_deeds-one at (beside_bang s at (event s at)),
        count_by-append is_emit (marks s at)
            (send_deeds at (beside_bang s at (event s at))),
      );
  glyphs = λ g s at now whole is_glyph.
      Every-append WritesGlyph (marks s at) _
      (marks-all WritesGlyph mark-writes (marks s at) (only s at)) (send_deeds-writes at _);
  covered = λ g s at now.
      let all : List Deed = marks s at ++ send_deeds at (beside_bang s at (event s at)) in
      Every-append (IsCovered at all) (marks s at) _
      (marks-all (IsCovered at all) (mark-covered at all) (marks s at) (only s at))
      (send_deeds-covered at all _);
  events = λ g s at now whole.
      Every-append EmitsInRange (marks s at) _
      (marks-all EmitsInRange mark-in_range (marks s at) (only s at))
      (send_deeds-in_range at _ (event_if (has_bang s at) (event s at) (range s at whole)));
}

input_one : Place → ℕ → ℕ → List Deed
input_one at from i = input_at (right at (i + from)) ∷ []

inputs-few : (at : Place) (from n : ℕ) → length (inputs at from n) ≤ n * 1
unfolding input_one
inputs-few at from n = length-each n 1 (input_one at from) (λ i. lit≤ tt)

inputs-mark : (at : Place) (from n : ℕ) → Every IsMark (inputs at from n)
unfolding input_one
inputs-mark at from n = Every-each IsMark n (input_one at from) (λ i below. (tt, tt))

lock_one : Place → ℕ → List Deed
lock_one at i = lock_at (right at (i + 1)) ∷ []

lock_deeds-few : (at : Place) (n : ℕ) → length (lock_deeds at n) ≤ n * 1
unfolding lock_one
lock_deeds-few at n = length-each n 1 (lock_one at) (λ i. lit≤ tt)

lock_deeds-mark : (at : Place) (n : ℕ) → Every IsMark (lock_deeds at n)
unfolding lock_one
lock_deeds-mark at n = Every-each IsMark n (lock_one at) (λ i below. (tt, tt))

-- an event that is sent unless something is missing
unless : (missing : Bool) (event : Event) → (missing ≡ false → IsInRange event)
    → IfSome (if missing then None else Some event) IsInRange
unless true event range = tt
unless false event range = range refl

-- an event that is sent where its ports are fit
where_fit : (fit : Bool) (event : Event) → (fit ≡ true → IsInRange event)
    → IfSome (if fit then Some event else None) IsInRange
where_fit true event range = range refl
where_fit false event range = tt

-- a velocity that is missing or has a value is at least the least one
velocity_of-loud : (glyph : ℕ) → (not (glyph == empty) && (value glyph == 0)) ≡ false
    → MIN_VELOCITY ≤ velocity_of glyph
velocity_of-loud glyph fit = grind (arith, nat_tests)

velocity_of-low : (glyph : ℕ) → velocity_of glyph ≤ MAX_DATA
velocity_of-low glyph = grind (arith, nat_tests)

-- where neither is so, the second isn't
neither : (a b : Bool) → (a || b) ≡ false → b ≡ false
neither true b none = cc
neither false b none = none

channel-low : (channel : ℕ) → nat_lt MAX_CHANNEL channel ≡ false → channel ≤ MAX_CHANNEL
channel-low channel low = grind (arith, nat_tests)

note_with-in_range : (mono : Bool) (channel octave velocity frames : ℕ) (number : Option ℕ)
    → IfSome (note_with mono channel octave velocity frames number) IsInRange
note_with-in_range mono channel octave velocity frames None = tt
note_with-in_range mono channel octave velocity frames (Some number) =
    unless _ _ (λ fit. record {
      numbers = record {
        channel_low = omega arith;
        first_low = omega arith;
        second_low =
            velocity_of-low velocity;
      };
      loud = velocity_of-loud velocity (neither (octave == empty) _ fit);
      some = (value_or-range frames 1).1 (lit≤ tt);
      short = omega (arith, (value_or-range frames 1).0);
    })

note_of-in_range : (mono : Bool) (s : State) (at : Place) → IfSome (note_of mono s at) IsInRange
unfolding note_of
note_of-in_range mono s at = note_with-in_range mono (port s at 1) (port s at 2) (port s at 4)
    (port s at 5) (note_number (port s at 3))

pub lawful-midi : IsLawful midi
lawful-midi =
    lawful-send (λ s at. inputs at 1 5) (λ s at. note_of false s at) (λ s at. lit≤ tt)
    (λ s at. inputs-mark at 1 5)
    (λ s at whole. note_of-in_range false s at)

pub lawful-mono : IsLawful mono
lawful-mono =
    lawful-send (λ s at. inputs at 1 5) (λ s at. note_of true s at) (λ s at. lit≤ tt)
    (λ s at. inputs-mark at 1 5)
    (λ s at whole. note_of-in_range true s at)

control_of-in_range : (s : State) (at : Place) → IfSome (control_of s at) IsInRange
unfolding control_of
control_of-in_range s at =
    unless _ _ (λ fit. record {
      numbers = record {
        channel_low = channel-low _ (neither _ _ fit);
        first_low = omega (arith, value-below (port s at 2));
        second_low = omega (arith, value-below (port s at 3));
      };
      low = value-below (port s at 2);
    })

pub lawful-control_change : IsLawful control_change
lawful-control_change =
    lawful-send (λ s at. inputs at 1 3) control_of (λ s at. lit≤ tt) (λ s at. inputs-mark at 1 3)
    (λ s at whole. control_of-in_range s at)

bend_of-in_range : (s : State) (at : Place) → IfSome (bend_of s at) IsInRange
unfolding bend_of
bend_of-in_range s at =
    unless _ _ (λ fit. record {
      channel_low = channel-low _ (neither _ _ fit);
      first_low = omega (arith, value-below (port s at 3));
      second_low = omega (arith, value-below (port s at 2));
    })

pub lawful-pitch_bend : IsLawful pitch_bend
lawful-pitch_bend =
    lawful-send (λ s at. inputs at 1 3) bend_of (λ s at. lit≤ tt) (λ s at. inputs-mark at 1 3)
    (λ s at whole. bend_of-in_range s at)

length-ports : (s : State) (at : Place) (from n : ℕ) → length (ports s at from n) ≡ n
length-ports s at from zero = refl
length-ports s at from (suc n) =
    omega (
      arith,
      length-append (ports s at from n) (port s at (n + from) ∷ []),
      length-ports
          s at from n,
    )

ports-glyphs : (s : State) (at : Place) (from n : ℕ) → IsState s → All IsGlyph (ports s at from n)
ports-glyphs s at from zero whole = All-nil IsGlyph
ports-glyphs s at from (suc n) whole =
    All-push IsGlyph (ports s at from n) _ (ports-glyphs s at from n whole) (IsGlyph-peek s _ whole)

first-few : (first : Option ℕ) → IfSome first (λ i. (0 ≤ i) × (i < 0 + MAX_TEXT))
    → unwrap_or first MAX_TEXT ≤ MAX_TEXT
first-few None within = lit≤ tt
first-few (Some i) within = omega arith

text_at-short : (s : State) (at : Place) → length (text_at s at) ≤ MAX_TEXT
unfolding text_at
text_at-short s at =
    omega (
      arith,
      length-ports s at 1 (text_length s at),
      first-few _
          (first_where-range (λ i. port s at (i + 1) == empty) 0 MAX_TEXT),
    )

text_at-glyphs : (s : State) (at : Place) → IsState s → All IsGlyph (text_at s at)
unfolding text_at
text_at-glyphs s at whole = ports-glyphs s at 1 (text_length s at) whole

some-length : (n : ℕ) → (n == 0) ≡ false → 1 ≤ n
some-length n some = grind (arith, nat_tests)

pub lawful-udp_text : IsLawful udp_text
lawful-udp_text =
    lawful-send (λ s at. lock_deeds at (length (text_at s at))) (λ s at. text_event (text_at s at))
    (λ s at. omega (arith, lock_deeds-few at (length (text_at s at)), text_at-short s at))
    (λ s at. lock_deeds-mark at (length (text_at s at)))
    (λ s at whole. unless _ _ (λ fit. record {
      some = some-length _ fit;
      short = text_at-short s at;
      glyphs = text_at-glyphs s at whole;
    }))

osc_of-in_range : (s : State) (at : Place) → IfSome (osc_of s at) IsInRange
unfolding osc_of
osc_of-in_range s at =
    let n : ℕ = value (port s at 2) in
    where_fit _ _ (λ named. record {
      named = named;
      few = omega (
        arith,
        value-below (port s at 2),
        length-map (ports s at 3 n) value,
        length-ports
            s at 3 n,
      );
      low = All-map (λ v. v < BASE) value (ports s at 3 n) (λ k d below. value-below _);
    })

pub lawful-osc_message : IsLawful osc_message
lawful-osc_message =
    lawful-send (λ s at. param_at (right at 1) ∷ param_at (right at 2) ∷ inputs at 3
    (value (port s at 2))) osc_of
    (λ s at. omega (arith, value-below (port s at 2), inputs-few at 3 (value (port s at 2))))
    (λ s at. (tt, (tt, inputs-mark at 3 (value (port s at 2)))))
    (λ s at whole. osc_of-in_range s at)
