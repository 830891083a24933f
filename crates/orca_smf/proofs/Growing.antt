-- A track with one more message, and a track with its end, are spelled as they have to be.
use Rattle.std.proofs.Common.{◌≡◌, ℕ, ◌+◌, ◌-◌, ◌^◌, ◌<◌, ◌≤◌, List, [], ◌∷◌, ◌++◌, length, take, drop, sym, ap, subst, ◌∙◌, arith}
use Rattle.std.proofs.lemmas.List.{length-append, length-drop, drop-append-le, take_at}
use Rattle.orca_smf.specs.declared.front.TheConstants.{END_BYTES, FRONT_BYTES}
use Rattle.orca_smf.specs.declared.limits.TheConstants.{MAX_TRACK_BYTES}
use Rattle.orca_smf.specs.declared.timed.Timed.{Timed}
use Rattle.orca_smf.specs.declared.track.Track.TheInside.{Inside}
use Rattle.orca_smf.specs.Front.{front}
use Rattle.orca_smf.specs.Recording.{Recorded}
use Rattle.orca_smf.specs.Songs.{AreMessages, MayFollow, IsSongMessage, delta, last_tick, messages, track_opening, smf}
use Rattle.orca_smf.specs.Spelling.{messages_at}
use Rattle.orca_smf.specs.Tracks.{IsTrack, recorded_of}
use Rattle.orca_smf.proofs.Messages.{are_push, last_push, list_again, messages_push}
use Rattle.orca_smf.proofs.Tunes.{end_bytes, events, smf_parts}

-- a track that holds these messages
pub record Holds (t : Inside) (list : List Timed) : Type 0 where
  pub tempo : t.tempo < 2 ^ 24
  pub front : FRONT_BYTES ≤ length t.file.items
  pub spelled : drop FRONT_BYTES t.file.items ≡ messages 0 list
  pub messages : AreMessages 0 list
  pub last : t.last ≡ last_tick 0 list
  pub short : length (track_opening t.tempo list) + END_BYTES ≤ MAX_TRACK_BYTES

-- they are seen
held_list : (t : Inside) (list : List Timed) → Holds t list → (recorded_of t).list ≡ list
held_list t list h =
    let n = length t.file.items in
    let few : length (messages 0 list) ≤ n =
    omega (arith, length-drop FRONT_BYTES t.file.items, ap length h.spelled) in
    ap (λ (bytes : List ℕ). (messages_at n 0 bytes).0) h.spelled
    ∙ list_again n list h.messages few

pub held_track : (t : Inside) (list : List Timed) → Holds t list → IsTrack t
held_track t list h =
    let seen = sym (held_list t list h) in
    record {
      tempo = h.tempo;
      front = h.front;
      spelled = h.spelled ∙ ap (messages 0) seen;
      messages = subst (AreMessages 0) seen h.messages;
      last = h.last ∙ ap (last_tick 0) seen;
      short =
          subst (λ (l : List Timed). length (track_opening t.tempo l) + END_BYTES ≤ MAX_TRACK_BYTES)
          seen h.short;
    }

-- a value of a track
abbrev pub value : ℕ → List Timed → Recorded
value tempo list = record { tempo = tempo; list = list }

pub held_value : (t : Inside) (list : List Timed) → Holds t list →
    recorded_of t ≡ value t.tempo list
held_value t list h = ap (value t.tempo) (held_list t list h)

track_held : (t : Inside) → IsTrack t → Holds t (recorded_of t).list
track_held t is = record {
  tempo = is.tempo;
  front = is.front;
  spelled = is.spelled;
  messages = is.messages;
  last = is.last;
  short = is.short;
}

-- a track that is seen so, and an event after its last message
pub record Joins (t : Inside) (v : Recorded) (tick : ℕ) (tail bytes : List ℕ) : Type 0 where
  pub held : Holds t v.list
  pub tempo : t.tempo ≡ v.tempo
  pub event : bytes ≡ delta (tick - last_tick 0 v.list) ++ tail
  pub size : length t.file.items ≡ length (messages 0 v.list) + FRONT_BYTES
  pub grown : length (messages 0 v.list ++ (delta (tick - last_tick 0 v.list) ++ tail))
      ≡ length (messages 0 v.list) + length bytes

pub joins : (t : Inside) (v : Recorded) (tick : ℕ) (tail made bytes : List ℕ) →
    recorded_of t ≡ v → IsTrack t → made ≡ delta (tick - t.last) ++ tail → bytes ≡ made →
    Joins t v tick tail bytes
joins t v tick tail made bytes seen is e d =
    let held : Holds t v.list = subst (λ (w : Recorded). Holds t w.list) seen (track_held t is) in
    let event : bytes ≡ delta (tick - last_tick 0 v.list) ++ tail =
    d ∙ e ∙ ap (λ (n : ℕ). delta (tick - n) ++ tail) held.last in
    let behind = length-drop FRONT_BYTES t.file.items in
    record {
      held = held;
      tempo = ap (λ (w : Recorded). w.tempo) seen;
      event = event;
      size = omega (arith, held.front, ap length held.spelled, behind);
      grown =
          ap (λ (x : List ℕ). length (messages 0 v.list ++ x)) (sym event)
          ∙ length-append (messages 0 v.list) bytes;
    }

-- a track that was seen so, with one more message
pub held_more : (t u : Inside) (v : Recorded) (m : Timed) (bytes : List ℕ) →
    Joins t v m.tick m.bytes bytes → MayFollow (last_tick 0 v.list) m.tick → IsSongMessage m.bytes →
    u.tempo ≡ t.tempo → u.last ≡ m.tick → u.file.items ≡ t.file.items ++ bytes →
    length (track_opening t.tempo (v.list ++ m ∷ [])) + END_BYTES ≤ MAX_TRACK_BYTES →
    Holds u (v.list ++ m ∷ [])
held_more t u v m bytes j f is a b c short = record {
  tempo = rw a j.held.tempo;
  front = omega (arith, j.held.front, ap length c, length-append t.file.items bytes);
  spelled =
      ap (drop FRONT_BYTES) c ∙ drop-append-le FRONT_BYTES t.file.items bytes j.held.front
      ∙ ap (λ (x : List ℕ). x ++ bytes) j.held.spelled
      ∙ ap (λ (x : List ℕ). messages 0 v.list ++ x) j.event ∙ sym (messages_push 0 v.list m);
  messages = are_push 0 v.list m j.held.messages f is;
  last = b ∙ sym (last_push 0 v.list m);
  short = short;
}

-- the whole file, once the front is put over its room
pub finished : (t : Inside) (v : Recorded) (end size n : ℕ) (event items made put : List ℕ) →
    Joins t v end end_bytes event → items ≡ t.file.items ++ event →
    made ≡ front size t.tempo → size ≡ length (events 0 v.list end) + 7 →
    put ≡ made ++ drop (length made) items → length items ≡ n →
    take n (put ++ drop (length put) items) ≡ smf v.tempo v.list end
finished t v end size n event items made put j grown is size-is p long =
    let old = t.file.items in
    let all = events 0 v.list end in
    let behind : drop 29 items ≡ all =
    ap (λ (x : List ℕ). drop 29 x) grown ∙ drop-append-le 29 old event j.held.front
    ∙ ap (λ (x : List ℕ). x ++ event) j.held.spelled
    ∙ ap (λ (x : List ℕ). messages 0 v.list ++ x) j.event in
    let whole : put ≡ front (length all + 7) v.tempo ++ all =
    p ∙ ap (λ (m : List ℕ). m ++ drop (length m) items) is
    ∙ ap (λ (x : List ℕ). front size t.tempo ++ x) behind
    ∙ ap (λ (s : ℕ). front s t.tempo ++ all) size-is
    ∙ ap (λ (tempo : ℕ). front (length all + 7) tempo ++ all) j.tempo in
    let room = j.held.front in
    let size-grown = ap length grown in
    let joined = length-append old event in
    let count : length put ≡ n =
    omega (arith, ap length whole, ap length behind, length-drop 29 items, joined, long) in
    take_at put (drop (length put) items) n count ∙ whole ∙ sym (smf_parts v.tempo v.list end)
