-- The rules of the operators that send events. Port k is the k-th place to the right.
use Rattle.std.specs.Prelude.{ℕ, zero, suc, ◌+◌, ◌-◌, ◌*◌, ◌/◌, ◌==◌, ◌&&◌, ◌||◌, not, Bool, true, false, nat_lt, min, if◌then◌else◌, List, [], ◌∷◌, ◌++◌, length, map, Option, Some, None, unwrap_or}
use Rattle.orca_base.specs.declared.event.Event.{Event}
use Rattle.orca_base.specs.declared.event.Event.TheVariants.{Note, Control, Bend, Udp, Osc}
use Rattle.orca_base.specs.declared.limits.TheConstants.{BASE, DEFAULT_VELOCITY, MAX_CHANNEL, MAX_DATA, MAX_OCTAVE, MAX_TEXT}
use Rattle.orca_base.specs.declared.now.Now.{Now}
use Rattle.orca_base.specs.declared.place.Place.{Place}
use Rattle.orca_base.specs.Glyphs.{empty, is_digit, is_upper, is_lower, value, note_number}
use Rattle.orca_op.specs.State.{State, peek, has_bang}
use Rattle.orca_base.specs.Grids.{here, right}
use Rattle.orca_op.specs.Deeds.{Deed, Emit, input_at, param_at, show_at, each_below}
use Rattle.orca_op.specs.ValueRules.{value_or}
use Rattle.orca_op.specs.First.{first_where}
use Rattle.orca_op.specs.MotionRules.{lock_deeds}

-- an event is sent beside a bang alone
abbrev pub beside_bang : State → Place → Option Event → Option Event
beside_bang s at event = if has_bang s at then event else None

-- the operator is shown, and its event is sent
abbrev pub send_deeds : Place → Option Event → List Deed
send_deeds at None = []
send_deeds at (Some event) = show_at (here at) ∷ Emit event ∷ []

-- the glyph of a port
abbrev pub port : State → Place → ℕ → ℕ
port s at k = peek s (right at k)

-- n ports are read, the first being `from`
abbrev pub inputs : Place → ℕ → ℕ → List Deed
inputs at from n = each_below n (λ i. input_at (right at (i + from)) ∷ [])

-- the glyphs of n ports, the first being `from`
abbrev pub ports : State → Place → ℕ → ℕ → List ℕ
ports s at from zero = []
ports s at from (suc n) = ports s at from n ++ port s at (n + from) ∷ []

-- the key of an octave and a note number
abbrev pub midi_key : ℕ → ℕ → ℕ
midi_key octave number = min MAX_DATA (12 * min MAX_OCTAVE (value octave) + number)

-- the velocity of a glyph: the default where it is missing
abbrev pub velocity_of : ℕ → ℕ
velocity_of glyph =
    if glyph == empty then DEFAULT_VELOCITY else min MAX_DATA (8 * value glyph - 1)

-- the channel of a note: the greatest where the value is greater
abbrev pub channel_of : ℕ → ℕ
channel_of glyph = min MAX_CHANNEL (value glyph)

-- a note has an octave and a number, and no velocity of value 0
abbrev pub note_with : Bool → ℕ → ℕ → ℕ → ℕ → Option ℕ → Option Event
note_with mono channel octave velocity frames None = None
note_with mono channel octave velocity frames (Some number) =
    if (octave == empty) || (not (velocity == empty) && (value velocity == 0)) then None
    else Some (Note (channel_of channel) (midi_key octave number)
    (velocity_of velocity) (value_or frames 1) mono)

-- the note of the ports channel, octave, note, velocity and length
unfoldable pub note_of : Bool → State → Place → Option Event
note_of mono s at =
    note_with mono (port s at 1) (port s at 2) (port s at 4) (port s at 5)
    (note_number (port s at 3))

-- `:`: a note
abbrev pub midi : ℕ → State → Place → Now → List Deed
midi g s at now = inputs at 1 5 ++ send_deeds at (beside_bang s at (note_of false s at))

-- `%`: a note that first ends every note of its channel
abbrev pub mono : ℕ → State → Place → Now → List Deed
mono g s at now = inputs at 1 5 ++ send_deeds at (beside_bang s at (note_of true s at))

-- the value of a glyph, spread over the data bytes: the greatest value gives the greatest byte
abbrev pub scaled : ℕ → ℕ
scaled glyph = value glyph * MAX_DATA / (BASE - 1)

abbrev pub control_with : ℕ → ℕ → ℕ → Option Event
control_with channel control amount =
    if (channel == empty) || (control == empty) || nat_lt MAX_CHANNEL (value channel) then None
    else Some (Control (value channel) (value control) (scaled amount))

-- the control change of the ports channel, control and value
unfoldable pub control_of : State → Place → Option Event
control_of s at = control_with (port s at 1) (port s at 2) (port s at 3)

-- `!`: a control change
abbrev pub control_change : ℕ → State → Place → Now → List Deed
control_change g s at now = inputs at 1 3 ++ send_deeds at (beside_bang s at (control_of s at))

abbrev pub bend_with : ℕ → ℕ → ℕ → Option Event
bend_with channel msb lsb =
    if (channel == empty) || nat_lt MAX_CHANNEL (value channel) then None
    else Some (Bend (value channel) (scaled lsb) (scaled msb))

-- the pitch bend of the ports channel, most and least significant bits
unfoldable pub bend_of : State → Place → Option Event
bend_of s at = bend_with (port s at 1) (port s at 2) (port s at 3)

-- `?`: a pitch bend
abbrev pub pitch_bend : ℕ → State → Place → Now → List Deed
pitch_bend g s at now = inputs at 1 3 ++ send_deeds at (beside_bang s at (bend_of s at))

-- how many glyphs the text has: those before the first empty port, and no more than fit
abbrev pub text_length : State → Place → ℕ
text_length s at = unwrap_or (first_where (λ i. port s at (i + 1) == empty) 0 MAX_TEXT) MAX_TEXT

-- the glyphs of the text
unfoldable pub text_at : State → Place → List ℕ
text_at s at = ports s at 1 (text_length s at)

-- a text without a glyph is not sent
abbrev pub text_event : List ℕ → Option Event
text_event text = if length text == 0 then None else Some (Udp text)

-- `;`: the text at its right
abbrev pub udp_text : ℕ → State → Place → Now → List Deed
udp_text g s at now =
    let text = text_at s at in
    lock_deeds at (length text) ++ send_deeds at (beside_bang s at (text_event text))

abbrev pub osc_with : ℕ → List ℕ → Option Event
osc_with path values =
    if is_digit path || is_upper path || is_lower path then Some (Osc path values) else None

-- the OSC message of the ports path and length, and of the values of the `length` ports after them
unfoldable pub osc_of : State → Place → Option Event
osc_of s at = osc_with (port s at 1) (map value (ports s at 3 (value (port s at 2))))

-- `=`: an OSC message
abbrev pub osc_message : ℕ → State → Place → Now → List Deed
osc_message g s at now =
    param_at (right at 1) ∷ param_at (right at 2)
    ∷ inputs at 3 (value (port s at 2)) ++ send_deeds at (beside_bang s at (osc_of s at))
