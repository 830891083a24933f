-- The file of a song: its front, and its messages with their end. Two songs have two files.
use Rattle.std.proofs.Common.{◌≡◌, ℕ, ◌+◌, ◌^◌, ◌<◌, List, [], ◌∷◌, ◌++◌, length, drop, Some, None, refl, sym, ap, subst, ◌∙◌, arith}
use Rattle.std.proofs.lemmas.Option.{some_pair_parts}
use Rattle.byteorder.specs.Endian.{big_from}
use Rattle.byteorder.specs.Numbers.{big_number-reads_back}
use Rattle.orca_smf.specs.declared.timed.Timed.{Timed}
use Rattle.orca_smf.specs.Front.{front}
use Rattle.orca_smf.specs.Songs.{AreMessages, MayFollow, IsTune, Tune, end_event, file_of, last_tick, messages, smf, tempo_event}
use Rattle.orca_smf.specs.Spelling.{HasRead, message_at, messages_at, tick_at}
use Rattle.orca_smf.proofs.Messages.{messages_again, none_at_end, tick_again}

-- the end of a track, after its delta time
abbrev pub end_bytes : List ℕ
end_bytes = 255 ∷ 47 ∷ 0 ∷ []

-- the end after messages
abbrev pub end_of : List Timed → ℕ → List ℕ
end_of list end = end_event (last_tick 0 list) end

-- the messages and the end
abbrev pub events : ℕ → List Timed → ℕ → List ℕ
events before list end = messages before list ++ end_event (last_tick before list) end

-- a file begins with its front
pub smf_parts : (tempo : ℕ) (list : List Timed) (end : ℕ) → smf tempo list end
    ≡ front (length (events 0 list end) + 7) tempo ++ events 0 list end
unfolding smf
smf_parts tempo list end =
    let size : length (tempo_event tempo ++ events 0 list end) ≡ length (events 0 list end) + 7 =
    omega arith in
    ap (λ (n : ℕ). front n tempo ++ events 0 list end) size

-- what stands after the front
pub same_behind : (m n s t : ℕ) (xs ys : List ℕ) → front m s ++ xs ≡ front n t ++ ys → xs ≡ ys
same_behind m n s t xs ys e = ap (λ (x : List ℕ). drop 29 x) e

-- the tempo of a front
pub same_tempo : (m n s t : ℕ) (xs ys : List ℕ) → s < 2 ^ 24 → t < 2 ^ 24 → front m s ++ xs
    ≡ front n t ++ ys → s ≡ t
same_tempo m n s t xs ys hs ht e =
    sym (big_number-reads_back 3 s xs hs) ∙ ap (λ (x : List ℕ). big_from 0 3 (drop 26 x)) e
    ∙ big_number-reads_back 3 t ys ht

-- the end that is spelled after messages
pub same_end : (before m n : ℕ) → MayFollow before m → MayFollow before n → end_event before m
    ≡ end_event before n → m ≡ n
same_end before m n f g e =
    let p = sym (tick_again before m end_bytes f) ∙ ap (tick_at before) e
    ∙ tick_again before n end_bytes g in
    (some_pair_parts m n end_bytes end_bytes p).0

-- two ways to take messages from the front are one
pub same_messages : (xs ys : List Timed) (bytes more rest : List ℕ) → AreMessages 0 xs →
    AreMessages 0 ys → message_at (last_tick 0 xs) more ≡ None → message_at (last_tick 0 ys) rest
    ≡ None → bytes ≡ messages 0 xs ++ more → bytes ≡ messages 0 ys ++ rest → (xs ≡ ys)
    × (more ≡ rest)
same_messages xs ys bytes more rest a b p q e d =
    let n = length xs + length ys in
    let s = sym (messages_again n 0 xs more a p (omega arith)) ∙ ap (messages_at n 0) (sym e ∙ d)
    ∙ messages_again n 0 ys rest b q (omega arith) in
    (ap (λ (x : List Timed × List ℕ). x.0) s, ap (λ (x : List Timed × List ℕ). x.1) s)

abbrev tune : ℕ → List Timed → ℕ → Tune
tune tempo list end = record { tempo = tempo; list = list; end = end }

same_tune : (s t : Tune) → s.tempo ≡ t.tempo → s.list ≡ t.list → s.end ≡ t.end → s ≡ t
same_tune s t a b c =
    ap (λ (tempo : ℕ). tune tempo s.list s.end) a
    ∙ ap (λ (list : List Timed). tune t.tempo list s.end) b
    ∙ ap (tune t.tempo t.list) c

-- a song has messages and an end
no_more : (t : Tune) → IsTune t → message_at (last_tick 0 t.list) (end_of t.list t.end) ≡ None
no_more t is = none_at_end (last_tick 0 t.list) t.end is.end

pub one_tune : (s t : Tune) → IsTune s → IsTune t → file_of s ≡ file_of t → s ≡ t
one_tune s t is it e =
    let xs = events 0 s.list s.end in
    let ys = events 0 t.list t.end in
    let both = sym (smf_parts s.tempo s.list s.end) ∙ e ∙ smf_parts t.tempo t.list t.end in
    let behind : xs ≡ ys = same_behind (length xs + 7) (length ys + 7) s.tempo t.tempo xs ys both in
    let tempo = same_tempo (length xs + 7) (length ys + 7) s.tempo t.tempo xs ys is.tempo it.tempo
    both in
    let found = same_messages s.list t.list xs (end_of s.list s.end) (end_of t.list t.end)
    is.messages it.messages (no_more s is) (no_more t it) refl behind in
    let last : last_tick 0 s.list ≡ last_tick 0 t.list = ap (last_tick 0) found.0 in
    let follows : MayFollow (last_tick 0 t.list) s.end = subst (λ (n : ℕ). MayFollow n s.end) last
    is.end in
    let ends : end_of t.list s.end ≡ end_of t.list t.end =
    ap (λ (n : ℕ). end_event n s.end) (sym last) ∙ found.1 in
    same_tune s t tempo found.0 (same_end (last_tick 0 t.list) s.end t.end follows it.end ends)

-- messages that were taken from those of a song are all of them, and its end comes after
pub record FoundEnd (t : Tune) (tick : ℕ) (rest : List ℕ) : Type 0 where
  pub follows : MayFollow tick t.end
  pub spelled : rest ≡ end_event tick t.end

pub found_end : (t : Tune) (bytes : List ℕ) (list : List Timed) (tick : ℕ) (rest : List ℕ) →
    IsTune t → bytes ≡ events 0 t.list t.end → HasRead 0 bytes list tick rest → FoundEnd t tick rest
found_end t bytes list tick rest it e r =
    let none = subst (λ (n : ℕ). message_at n rest ≡ None) r.last r.whole in
    let found = same_messages list t.list bytes rest (end_of t.list t.end) r.messages it.messages
    none (no_more t it) r.spelled e in
    let last : last_tick 0 t.list ≡ tick = ap (last_tick 0) (sym found.0) ∙ sym r.last in
    record {
      follows = subst (λ (n : ℕ). MayFollow n t.end) last it.end;
      spelled = found.1 ∙ ap (λ (n : ℕ). end_event n t.end) last;
    }

-- an end that is spelled is read
pub end_read : (before end : ℕ) (bytes : List ℕ) → MayFollow before end → bytes
    ≡ end_event before end → tick_at before bytes ≡ Some (end, end_bytes)
end_read before end bytes f e = ap (tick_at before) e ∙ tick_again before end end_bytes f

-- the file of a song begins with a front, and its events come after
pub record Fronted (bytes events : List ℕ) (tempo : ℕ) : Type 0 where
  pub short : length events + 7 < 2 ^ 32
  pub whole : bytes ≡ front (length events + 7) tempo ++ events

pub song_fronted : (t : Tune) (bytes : List ℕ) → IsTune t → bytes ≡ file_of t →
    Fronted bytes (events 0 t.list t.end) t.tempo
song_fronted t bytes is e =
    let short = is.short in
    record {
      short = omega arith;
      whole = e ∙ smf_parts t.tempo t.list t.end;
    }

-- what is read from its parts is a song
pub record Sung (bytes : List ℕ) (t : Tune) : Type 0 where
  pub tune : IsTune t
  pub file : bytes ≡ file_of t

pub song_read : (t : Tune) (bytes rest behind : List ℕ) (tick : ℕ) → t.tempo < 2 ^ 24 →
    Fronted bytes rest t.tempo → HasRead 0 rest t.list tick behind → MayFollow tick t.end → behind
    ≡ end_event tick t.end → Sung bytes t
song_read t bytes rest behind tick fits f r follows spelled =
    let ending : behind ≡ end_of t.list t.end = spelled
    ∙ ap (λ (n : ℕ). end_event n t.end) r.last in
    let parts : rest ≡ events 0 t.list t.end = r.spelled
    ∙ ap (λ (x : List ℕ). messages 0 t.list ++ x) ending in
    let short = f.short in
    let size = ap length parts in
    record {
      tune = record {
        tempo = fits;
        messages = r.messages;
        end = subst (λ (n : ℕ). MayFollow n t.end) r.last follows;
        short = omega arith;
      };
      file = f.whole ∙ ap (λ (x : List ℕ). front (length x + 7) t.tempo ++ x) parts
          ∙ sym (smf_parts t.tempo t.list t.end);
    }

-- bytes with the front of a song have its events after it
pub events_behind : (t : Tune) (bytes rest : List ℕ) (tempo : ℕ) → IsTune t → bytes ≡ file_of t →
    bytes ≡ front (length rest + 7) tempo ++ rest → rest ≡ events 0 t.list t.end
events_behind t bytes rest tempo is e f =
    same_behind (length rest + 7) (length (events 0 t.list t.end) + 7) tempo t.tempo rest
    (events 0 t.list t.end) (sym f ∙ (song_fronted t bytes is e).whole)
