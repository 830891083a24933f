-- What the rules give for worked grids, computed.
use Rattle.std.specs.Prelude.{ℕ, ◌≡◌, true, false, List, [], ◌∷◌, ◌++◌, replicate, Some, None, refl}
use Rattle.orca_base.specs.declared.event.Event.TheVariants.{Note, Control, Bend, Udp, Osc}
use Rattle.orca_base.specs.declared.now.Now.{Now}
use Rattle.orca_base.specs.declared.place.Place.{Place}
use Rattle.orca_base.specs.Glyphs.{empty, value, note_number}
use Rattle.orca_base.specs.MarkSet.{no_marks}
use Rattle.orca_op.specs.State.{State, peek, has_bang}
use Rattle.orca_base.specs.Grids.{here, right}
use Rattle.orca_op.specs.Deeds.{Deed, Emit, input_at, param_at, lock_at, show_at}
use Rattle.orca_op.specs.ValueRules.{value_or}
use Rattle.orca_op.specs.First.{first_where}
use Rattle.orca_op.specs.EventRules.{note_with, note_of, midi, mono, control_with, control_of, control_change, bend_of, pitch_bend, text_at, udp_text, osc_with, osc_of, osc_message}

-- a row of eight glyphs, the second of which is looked at beside a bang
row : List ℕ → State
row cells = record {
  dims = record { h = 1; w = 8 };
  cells = cells;
  marks = replicate 8 no_marks;
  vars = replicate 36 empty;
  events = [];
}

place : Place
place = record { y = 0; x = 1 }

now : Now
now = record { seed = 0; tick = 0 }

five_inputs : List Deed
five_inputs =
    input_at (right place 1) ∷ input_at (right place 2) ∷ input_at (right place 3)
    ∷ input_at (right place 4) ∷ input_at (right place 5) ∷ []

-- `*:03Cf2.`
midi-row : midi 58 (row (42 ∷ 58 ∷ 48 ∷ 51 ∷ 67 ∷ 102 ∷ 50 ∷ 46 ∷ [])) place now ≡ five_inputs
    ++ show_at (here place) ∷ Emit (Note 0 36 119 2 false) ∷ []
unfolding row place now five_inputs peek has_bang value note_number value_or note_of
midi-row = refl

-- `.:03Cf2.`: without a bang the ports alone are marked
midi-still : midi 58 (row (46 ∷ 58 ∷ 48 ∷ 51 ∷ 67 ∷ 102 ∷ 50 ∷ 46 ∷ [])) place now ≡ five_inputs
unfolding row place now five_inputs peek has_bang value note_number value_or note_of
midi-still = refl

-- `*%03E...`
mono-row : mono 37 (row (42 ∷ 37 ∷ 48 ∷ 51 ∷ 69 ∷ 46 ∷ 46 ∷ 46 ∷ [])) place now ≡ five_inputs
    ++ show_at (here place) ∷ Emit (Note 0 40 127 1 true) ∷ []
unfolding row place now five_inputs peek has_bang value note_number value_or note_of
mono-row = refl

-- `zzZ01`: the channel, the octave and the key are cut; a velocity of value 0 is none, and one of
-- value 1 is the least
note-cut : note_with false 122 122 49 122 (note_number 90) ≡ Some (Note 15 127 7 35 false)
unfolding value note_number value_or
note-cut = refl

note-octave : note_with false 48 97 122 46 (note_number 67) ≡ Some (Note 0 108 127 1 false)
unfolding value note_number value_or
note-octave = refl

note-silent : note_with false 48 51 48 46 (note_number 67) ≡ None
unfolding value note_number
note-silent = refl

note-missing : note_with false 48 51 46 46 (note_number 46) ≡ None
unfolding note_number
note-missing = refl

-- `*!07z...`
control-row : control_change 33 (row (42 ∷ 33 ∷ 48 ∷ 55 ∷ 122 ∷ 46 ∷ 46 ∷ 46 ∷ [])) place now
    ≡ input_at (right place 1) ∷ input_at (right place 2) ∷ input_at (right place 3)
    ∷ show_at (here place) ∷ Emit (Control 0 7 127) ∷ []
unfolding row place now peek has_bang value control_of
control-row = refl

-- a channel above the last sends nothing, and half of the greatest value is rounded down
control-high : control_with 103 55 122 ≡ None
unfolding value
control-high = refl

control-half : control_with 102 55 104 ≡ Some (Control 15 7 61)
unfolding value
control-half = refl

-- `*?0z0...`
bend-row : pitch_bend 63 (row (42 ∷ 63 ∷ 48 ∷ 122 ∷ 48 ∷ 46 ∷ 46 ∷ 46 ∷ [])) place now
    ≡ input_at (right place 1) ∷ input_at (right place 2) ∷ input_at (right place 3)
    ∷ show_at (here place) ∷ Emit (Bend 0 0 127) ∷ []
unfolding row place now peek has_bang value bend_of
bend-row = refl

-- `*;hi....`
text-row : udp_text 59 (row (42 ∷ 59 ∷ 104 ∷ 105 ∷ 46 ∷ 46 ∷ 46 ∷ 46 ∷ [])) place now
    ≡ lock_at (right place 1) ∷ lock_at (right place 2) ∷ show_at (here place)
    ∷ Emit (Udp (104 ∷ 105 ∷ [])) ∷ []
unfolding row place now peek has_bang text_at first_where
text-row = refl

-- `*=a212..`
osc-row : osc_message 61 (row (42 ∷ 61 ∷ 97 ∷ 50 ∷ 49 ∷ 50 ∷ 46 ∷ 46 ∷ [])) place now
    ≡ param_at (right place 1) ∷ param_at (right place 2) ∷ input_at (right place 3)
    ∷ input_at (right place 4) ∷ show_at (here place) ∷ Emit (Osc 97 (1 ∷ 2 ∷ [])) ∷ []
unfolding row place now peek has_bang value osc_of
osc-row = refl

-- a sign is no address, and without values the message has none
osc-sign : osc_with 61 [] ≡ None
osc-sign = refl

osc-empty : osc_with 57 [] ≡ Some (Osc 57 [])
osc-empty = refl
