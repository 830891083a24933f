-- What messages in a row do to a device.
use Rattle.std.proofs.Common.{◌≡◌, ℕ, List, [], ◌∷◌, ◌++◌, refl, ap, ◌∙◌}
use Rattle.std.proofs.lemmas.List.Elements.{filter_map-append}
use Rattle.std.proofs.lemmas.List.Sums.{fold-append}
use Rattle.orca_base.specs.declared.message.Message.{Message}
use Rattle.orca_base.specs.MidiBytes.{midi_bytes_of}
use Rattle.orca_notes.specs.Device.{Voice, KeyEffect, Neither, effect_of, keys_after, device, Suits, IsFair, Leads, midi_messages}

-- a device goes on where it stands
pub device-append : (on : List Voice) (xs ys : List (List ℕ))
    → device on (xs ++ ys) ≡ device (device on xs) ys
unfolding device
device-append on xs ys = fold-append (λ on message. keys_after on (effect_of message)) on xs ys

-- messages are fair where their beginning is, and their rest after it
pub IsFair-append : (on : List Voice) (xs ys : List (List ℕ))
    → IsFair on xs → IsFair (device on xs) ys → IsFair on (xs ++ ys)
unfolding device IsFair
IsFair-append on [] ys first rest = rest
IsFair-append on (x ∷ xs) ys first rest =
    (first.0, IsFair-append (keys_after on (effect_of x)) xs ys first.1 rest)

-- the MIDI messages of two lists
pub midi-append : (xs ys : List Message) → midi_messages (xs ++ ys) ≡ midi_messages xs ++ midi_messages ys
unfolding midi_messages
midi-append xs ys = filter_map-append midi_bytes_of xs ys

-- no messages leave the keys as they are
pub Leads-none : (on : List Voice) → Leads on [] on
unfolding device IsFair
Leads-none on = record { device = refl; fair = tt }

-- messages, and then others that go on where these lead
pub Leads-append : (on middle after : List Voice) (xs ys : List (List ℕ))
    → Leads on xs middle → Leads middle ys after → Leads on (xs ++ ys) after
Leads-append on middle after xs ys first rest = record {
  device =
      device-append on xs ys
      ∙ (ap (λ (o : List Voice). device o ys) first.device ∙ rest.device);
  fair = IsFair-append on xs ys first.fair (rw first.device rest.fair);
}

-- a message, and then others that go on where it leads
pub Leads-cons : (on after : List Voice) (message : List ℕ) (turn : KeyEffect) (messages : List (List ℕ))
    → effect_of message ≡ turn → Suits on turn → Leads (keys_after on turn) messages after
    → Leads on (message ∷ messages) after
unfolding device IsFair
Leads-cons on after message turn messages e suits rest = record {
  device = rw e rest.device;
  fair = (rw e suits, rw e rest.fair);
}

-- a message that neither starts nor ends a key leaves the keys as they are
pub Leads-neither : (on : List Voice) (message : List ℕ)
    → effect_of message ≡ Neither → Leads on (message ∷ []) on
unfolding keys_after
Leads-neither on message neither = Leads-cons on on message Neither [] neither tt (Leads-none on)

-- so does a message of one byte, as those of a clock are
pub Leads-byte : (on : List Voice) (byte : ℕ) → Leads on ((byte ∷ []) ∷ []) on
Leads-byte on byte = Leads-neither on (byte ∷ []) refl
