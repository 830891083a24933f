-- The voices after a message more.
use Rattle.std.proofs.Common.{◌≡◌, ℕ, Bool, true, false, not, cond, ◌||◌, List, [], ◌∷◌, ◌++◌, refl, sym, ap, ◌∙◌, append_assoc}
use Rattle.std.specs.List.{filter, list_any}
use Rattle.std.proofs.lemmas.List.{append-nil}
use Rattle.std.proofs.lemmas.List.Elements.{filter-append}
use Rattle.std.proofs.lemmas.List.Folds.{list_any-append}
use Rattle.orca_base.specs.declared.message.Message.{Message}
use Rattle.orca_base.specs.declared.message.Message.TheVariants as message
use Rattle.orca_wav.specs.declared.voice.Voice.{Voice}
use Rattle.orca_wav.specs.Waves.{TimedMessage, is_end, sounding_voice, voices_of}
use Rattle.orca_wav.specs.Rendering.{is_of, rendering_of, rendering_after}

abbrev timed : Message → ℕ → TimedMessage
timed m samples = record { message = m; samples = samples }

abbrev ends : ℕ → ℕ → List TimedMessage → Bool
ends channel key later = list_any (λ t. is_end channel key t.message) later

or-false : (b : Bool) → (b || (false || false)) ≡ b
or-false true = refl
or-false false = refl

-- ---- a message that is no Off

-- the message ends no voice
abbrev IsQuiet : Message → Type 0
IsQuiet m = (channel key : ℕ) → is_end channel key m ≡ false

ends-quiet : (channel key : ℕ) (later : List TimedMessage) (m : Message) (samples : ℕ) → IsQuiet m
    → ends channel key (later ++ timed m samples ∷ []) ≡ ends channel key later
ends-quiet channel key later m samples quiet =
    list_any-append (λ t. is_end channel key t.message) later (timed m samples ∷ [])
    ∙ (ap (λ b. ends channel key later || (b || false)) (quiet channel key)
    ∙ or-false (ends channel key later))

voice_of-quiet : (x : Message) (n : ℕ) (later : List TimedMessage) (m : Message) (samples : ℕ)
    → IsQuiet m
    → sounding_voice x n (later ++ timed m samples ∷ []) ≡ sounding_voice x n later
voice_of-quiet (message.On channel key velocity) n later m samples quiet =
    let voice : Voice =
    record { channel = channel; key = key; velocity = velocity; first = n } in
    ap (λ b. cond b [] (voice ∷ [])) (ends-quiet channel key later m samples quiet)
voice_of-quiet (message.Off channel key) n later m samples quiet = refl
voice_of-quiet (message.Control channel control value) n later m samples quiet = refl
voice_of-quiet (message.Bend channel lsb msb) n later m samples quiet = refl
voice_of-quiet (message.Udp text) n later m samples quiet = refl
voice_of-quiet (message.Osc path values) n later m samples quiet = refl

voices_of-quiet : (messages : List TimedMessage) (m : Message) (samples : ℕ) → IsQuiet m
    → voices_of (messages ++ timed m samples ∷ []) ≡ voices_of messages ++ sounding_voice m samples []
voices_of-quiet [] m samples quiet = append-nil (sounding_voice m samples [])
voices_of-quiet (x ∷ later) m samples quiet =
    ap (λ v. v ++ voices_of (later ++ timed m samples ∷ []))
    (voice_of-quiet x.message x.samples later m samples quiet)
    ∙ (ap (λ vs. sounding_voice x.message x.samples later ++ vs) (voices_of-quiet later m samples quiet)
    ∙ sym
    (append_assoc (sounding_voice x.message x.samples later) (voices_of later) (sounding_voice m samples [])))

-- ---- an Off

cond-ended : (b c : Bool) (voice : Voice) (test : Voice → Bool) → test voice ≡ not c
    → cond (b || (c || false)) [] (voice ∷ []) ≡ filter test (cond b [] (voice ∷ []))
cond-ended true c voice test e = refl
cond-ended false true voice test e = sym (ap (λ b. cond b (voice ∷ []) []) e)
cond-ended false false voice test e = sym (ap (λ b. cond b (voice ∷ []) []) e)

voice_of-ended : (x : Message) (n : ℕ) (later : List TimedMessage) (channel key samples : ℕ)
    → sounding_voice x n (later ++ timed (message.Off channel key) samples ∷ [])
    ≡ filter (λ voice. not (is_of channel key voice)) (sounding_voice x n later)
voice_of-ended (message.On c k velocity) n later channel key samples =
    let voice : Voice = record { channel = c; key = k; velocity = velocity; first = n } in
    let off = timed (message.Off channel key) samples in
    ap (λ b. cond b [] (voice ∷ []))
    (list_any-append (λ t. is_end c k t.message) later (off ∷ []))
    ∙ cond-ended (ends c k later) (is_end c k (message.Off channel key)) voice
    (λ voice. not (is_of channel key voice)) refl
voice_of-ended (message.Off c k) n later channel key samples = refl
voice_of-ended (message.Control c control value) n later channel key samples = refl
voice_of-ended (message.Bend c lsb msb) n later channel key samples = refl
voice_of-ended (message.Udp text) n later channel key samples = refl
voice_of-ended (message.Osc path values) n later channel key samples = refl

voices_of-ended : (messages : List TimedMessage) (channel key samples : ℕ)
    → voices_of (messages ++ timed (message.Off channel key) samples ∷ [])
    ≡ filter (λ voice. not (is_of channel key voice)) (voices_of messages)
voices_of-ended [] channel key samples = refl
voices_of-ended (x ∷ later) channel key samples =
    let left : Voice → Bool = λ voice. not (is_of channel key voice) in
    let off = timed (message.Off channel key) samples in
    ap (λ v. v ++ voices_of (later ++ off ∷ []))
    (voice_of-ended x.message x.samples later channel key samples)
    ∙ (ap (λ vs. filter left (sounding_voice x.message x.samples later) ++ vs)
    (voices_of-ended later channel key samples)
    ∙ sym (filter-append left (sounding_voice x.message x.samples later) (voices_of later)))

-- ---- any message

other : (messages : List TimedMessage) (m : Message) (samples : ℕ) → IsQuiet m
    → sounding_voice m samples [] ≡ []
    → voices_of (messages ++ timed m samples ∷ []) ≡ voices_of messages
other messages m samples quiet none =
    voices_of-quiet messages m samples quiet
    ∙ (ap (λ vs. voices_of messages ++ vs) none ∙ append-nil (voices_of messages))

pub voices-after : (messages : List TimedMessage) (samples : ℕ) (m : Message)
    → voices_of (messages ++ record { message = m; samples = samples } ∷ [])
    ≡ (rendering_after (rendering_of samples (voices_of messages)) m).voices
voices-after messages samples (message.On channel key velocity) =
    voices_of-quiet messages (message.On channel key velocity) samples (λ c k. refl)
voices-after messages samples (message.Off channel key) =
    voices_of-ended messages channel key samples
voices-after messages samples (message.Control channel control value) =
    other messages (message.Control channel control value) samples (λ c k. refl) refl
voices-after messages samples (message.Bend channel lsb msb) =
    other messages (message.Bend channel lsb msb) samples (λ c k. refl) refl
voices-after messages samples (message.Udp text) =
    other messages (message.Udp text) samples (λ c k. refl) refl
voices-after messages samples (message.Osc path values) =
    other messages (message.Osc path values) samples (λ c k. refl) refl
