-- What the messages of notes do to a device.
use Rattle.std.proofs.Common.{◌≡◌, ℕ, ◌/◌, ◌%◌, ◌<◌, ◌≤◌, Bool, true, false, cond, not, eqb, List, [], ◌∷◌, ◌++◌, ap, ◌∙◌, arith, append_assoc}
use Rattle.std.specs.List.{IsDistinct, AllByRecursion, filter}
use Rattle.std.proofs.lemmas.Bool.{and_from, and_left, or_from, or_right, not_from_false, cond-true, cond-false, eq-eqb, ne_eqb}
use Rattle.orca_base.specs.declared.limits.TheConstants.{MAX_CHANNEL, MIN_VELOCITY}
use Rattle.orca_base.specs.declared.note.Note.{Note}
use Rattle.orca_base.specs.MidiBytes.{status, voice_message, note_on_bytes, note_off_bytes}
use Rattle.orca_notes.specs.Device.{Voice, is_same, is_on, voice_of, voices, Starts, Ends, Neither, effect_of, keys_without, keys_after, Leads, midi_messages}
use Rattle.orca_notes.specs.Sound.{ends}
use Rattle.orca_notes.proofs.Voices.{IsInRange, keys_without-absent, keys_without-middle, distinct-middle, is_on-middle}
use Rattle.orca_notes.proofs.DeviceFacts.{Leads-none, Leads-cons, Leads-neither}

-- ---- one message

turn_of-on : (channel key velocity : ℕ) → channel ≤ MAX_CHANNEL → MIN_VELOCITY ≤ velocity
    → effect_of (note_on_bytes channel key velocity)
    ≡ Starts (record { channel = channel; key = key })
turn_of-on channel key velocity low loud =
    let kind : eqb (status 9 channel / 16) 9 ≡ true = eq-eqb _ _ (omega arith) in
    let loud : not (eqb velocity 0) ≡ true =
    not_from_false _ (ne_eqb _ _ (λ e. absurd (omega arith))) in
    let same : status 9 channel % 16 ≡ channel = omega arith in
    cond-true _ _ _ (and_from _ _ kind loud)
    ∙ ap (λ n. Starts (record { channel = n; key = key })) same

turn_of-off : (channel key : ℕ) → channel ≤ MAX_CHANNEL
    → effect_of (note_off_bytes channel key) ≡ Ends (record { channel = channel; key = key })
turn_of-off channel key low =
    let not_on : eqb (status 8 channel / 16) 9 ≡ false = ne_eqb _ _ (λ e. absurd (omega arith)) in
    let kind : eqb (status 8 channel / 16) 8 ≡ true = eq-eqb _ _ (omega arith) in
    let same : status 8 channel % 16 ≡ channel = omega arith in
    cond-false _ _ _ (and_left _ _ not_on)
    ∙ (cond-true _ _ _ (or_right _ _ kind)
    ∙ ap (λ n. Ends (record { channel = n; key = key })) same)

turn_of-other : (kind channel first second : ℕ) → 9 < kind
    → effect_of (voice_message kind channel first second) ≡ Neither
turn_of-other kind channel first second other =
    let not_on : eqb (status kind channel / 16) 9 ≡ false =
    ne_eqb _ _ (λ e. absurd (omega arith)) in
    let not_off : eqb (status kind channel / 16) 8 ≡ false =
    ne_eqb _ _ (λ e. absurd (omega arith)) in
    cond-false _ _ _ (and_left _ _ not_on) ∙ cond-false _ _ _ (or_from _ _ not_on not_off)

Leads-off : (on after : List Voice) (voice : Voice) (messages : List (List ℕ))
    → voice.channel ≤ MAX_CHANNEL → is_on on voice ≡ true
    → Leads (keys_without on voice) messages after
    → Leads on (note_off_bytes voice.channel voice.key ∷ messages) after
unfolding keys_after
Leads-off on after voice messages low suits rest =
    Leads-cons on after _ (Ends voice) messages (turn_of-off voice.channel voice.key low) suits rest

pub Leads-on : (on : List Voice) (voice : Voice) (velocity : ℕ)
    → voice.channel ≤ MAX_CHANNEL → MIN_VELOCITY ≤ velocity → is_on on voice ≡ false
    → Leads on (note_on_bytes voice.channel voice.key velocity ∷ []) (on ++ voice ∷ [])
unfolding keys_after
Leads-on on voice velocity low loud absent =
    let kept : keys_without on voice ≡ on = keys_without-absent on voice absent in
    let starts = turn_of-on voice.channel voice.key velocity low loud in
    Leads-cons on _ _ (Starts voice) [] starts absent
    (rw kept (Leads-none (on ++ voice ∷ [])))

pub Leads-other : (on : List Voice) (kind channel first second : ℕ) → 9 < kind
    → Leads on (voice_message kind channel first second ∷ []) on
Leads-other on kind channel first second other =
    Leads-neither on _ (turn_of-other kind channel first second other)

-- ---- the ends of some notes of a chord

ends-case : (b : Bool) (front : List Voice) (note : Note) (rest taken left : List Note)
    → IsInRange (voice_of note) → IsDistinct is_same (front ++ voice_of note ∷ voices rest)
    → Leads (front ++ voices rest) (midi_messages (ends taken)) (front ++ voices left)
    → Leads ((front ++ voice_of note ∷ []) ++ voices rest) (midi_messages (ends taken))
    ((front ++ voice_of note ∷ []) ++ voices left)
    → Leads (front ++ voice_of note ∷ voices rest) (midi_messages (ends (cond b (note ∷ taken) taken)))
    (front ++ voices (cond (not b) (note ∷ left) left))
unfolding midi_messages
ends-case true front note rest taken left low distinct gone stays =
    let v = voice_of note in
    Leads-off _ _ v (midi_messages (ends taken)) low.0 (is_on-middle front v (voices rest))
    (rw (keys_without-middle front v (voices rest) distinct) gone)
ends-case false front note rest taken left low distinct gone stays =
    let v = voice_of note in
    let before : (front ++ v ∷ []) ++ voices rest ≡ front ++ v ∷ voices rest =
    append_assoc front (v ∷ []) (voices rest) in
    let after : (front ++ v ∷ []) ++ voices left ≡ front ++ v ∷ voices left =
    append_assoc front (v ∷ []) (voices left) in
    rw (before, after) at stays

ends-from : (test : Note → Bool) (front : List Voice) (rest : List Note)
    → AllByRecursion IsInRange (voices rest) → IsDistinct is_same (front ++ voices rest)
    → Leads (front ++ voices rest) (midi_messages (ends (filter test rest)))
    (front ++ voices (filter (λ note. not (test note)) rest))
unfolding midi_messages
ends-from test front [] low distinct = Leads-none (front ++ [])
ends-from test front (note ∷ rest) low distinct =
    let v = voice_of note in
    let left = filter (λ n. not (test n)) rest in
    let joined : (front ++ v ∷ []) ++ voices rest ≡ front ++ v ∷ voices rest =
    append_assoc front (v ∷ []) (voices rest) in
    ends-case (test note) front note rest (filter test rest) left low.0 distinct
    (ends-from test front rest low.1 (distinct-middle front v (voices rest) distinct))
    (ends-from test (front ++ v ∷ []) rest low.1 (rw joined distinct))

-- where some notes of a chord end, the others are on
pub Leads-ends : (test : Note → Bool) (notes : List Note)
    → AllByRecursion IsInRange (voices notes) → IsDistinct is_same (voices notes)
    → Leads (voices notes) (midi_messages (ends (filter test notes)))
    (voices (filter (λ note. not (test note)) notes))
Leads-ends test notes low distinct = ends-from test [] notes low distinct
