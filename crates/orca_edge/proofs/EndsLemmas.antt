-- Ends that are sent one after another.
use Rattle.std.proofs.Common.{◌≡◌, ℕ, List, [], ◌++◌, Option, subst, sym, append_assoc, append-nil}
use Rattle.std.specs.Prelude.{OnErr, Result, Ok, Err}
use Rattle.std.proofs.KnownBytes.{Appends-nil, Appends-trans, Appends-kept}
use Rattle.orca_base.specs.MidiBytes.{note_off_bytes}
use Rattle.orca_edge.specs.declared.owed.Owed.{Owed}
use Rattle.orca_edge.specs.declared.owed.Voice.{Voice}
use Rattle.orca_edge.specs.declared.sinks.Sink.{Sink}
use Rattle.orca_edge.specs.Owed.{IsFirst, IsPaid, IsMissed, OwesNone, SendsEnds, none, more}
use Rattle.orca_edge.specs.Taken.{HasEnds, HasInTurn, HasMissed, HasStill, HasToo, holdings}

-- one end
pub one_end : (before after : List ℕ) (voice : Voice) → IsFirst before voice
    → IsPaid before after voice → SendsEnds before after (note_off_bytes voice.channel voice.key)
one_end before after voice first paid =
    more before before after [] voice (none before) first paid

-- some ends, and then others
pub more_ends : (a b c : List ℕ) (these others : List ℕ) → SendsEnds a b these
    → SendsEnds b c others → SendsEnds a c (these ++ others)
more_ends a _ _ these _ sent (none b) = subst (SendsEnds a b) (sym (append-nil these)) sent
more_ends a _ _ these _ sent (more b owed after bytes voice then first paid) =
    subst (SendsEnds a after) (append_assoc these bytes (note_off_bytes voice.channel voice.key))
    (more a owed after (these ++ bytes) voice (more_ends a b owed these bytes sent then) first paid)

-- what holds anyhow holds after an error
pub on_error : {T E : Type 0} (result : Result T E) (P : Type 0) → P → OnErr result P
on_error (Ok value) P holds = tt
on_error (Err error) P holds = holds

-- ---- of a sink

-- nothing was taken
pub no_ends : {W : Type 0} (contents : W → Option (List ℕ)) (a b : Sink W)
    → HasStill contents a b → b.owed ≡ a.owed → HasEnds contents a b
no_ends contents a b still same = (
  [],
  subst (λ owed. SendsEnds a.owed.ends owed.ends []) (sym same) (none a.owed.ends),
  Appends-kept _ _ _ _ (Appends-nil (holdings contents a)) still,
)

-- some ends were taken, and then others
pub ends_more : {W : Type 0} (contents : W → Option (List ℕ)) (a b c : Sink W)
    → HasEnds contents a b → HasEnds contents b c → HasEnds contents a c
ends_more contents a b c (these, sent, took) (others, then, also) =
    (these ++ others, more_ends _ _ _ these others sent then, Appends-trans _ _ _ _ _ took also)

-- one end was taken
pub end_taken : {W : Type 0} (contents : W → Option (List ℕ)) (a b c : Sink W) (paid : Owed)
    (voice : Voice) → IsFirst a.owed.ends voice
    → HasToo contents a b (note_off_bytes voice.channel voice.key) → b.owed ≡ a.owed
    → IsPaid b.owed.ends paid.ends voice → HasStill contents (record b { owed = paid }) c
    → c.owed ≡ paid → HasEnds contents a c
end_taken contents a b c paid voice first took same pays still kept = (
  note_off_bytes voice.channel voice.key,
  subst (λ owed. SendsEnds a.owed.ends owed.ends (note_off_bytes voice.channel voice.key))
      (sym kept) (one_end a.owed.ends paid.ends voice first
      (subst (λ owed. IsPaid owed.ends paid.ends voice) same pays)),
  Appends-kept _ _ _ _ took still,
)

-- all ends were taken, and then a message
pub in_turn : {W : Type 0} (contents : W → Option (List ℕ)) (a b c : Sink W) (bytes : List ℕ)
    → HasEnds contents a b → OwesNone b.owed.ends → HasToo contents b c bytes
    → c.owed ≡ b.owed → HasInTurn contents a c bytes
in_turn contents a b c bytes (ends, sent, took) all also same = (
  ends,
  subst (λ owed. SendsEnds a.owed.ends owed.ends ends) (sym same) sent,
  subst (λ owed. OwesNone owed.ends) (sym same) all,
  Appends-trans _ _ _ _ _ took also,
)

-- and nothing after it
pub in_turn_still : {W : Type 0} (contents : W → Option (List ℕ)) (a b c : Sink W)
    (bytes : List ℕ) → HasInTurn contents a b bytes → HasStill contents b c
    → c.owed ≡ b.owed → HasInTurn contents a c bytes
in_turn_still contents a b c bytes (ends, sent, all, took) still same = (
  ends,
  subst (λ owed. SendsEnds a.owed.ends owed.ends ends) (sym same) sent,
  subst (λ owed. OwesNone owed.ends) (sym same) all,
  Appends-kept _ _ _ _ took still,
)

-- some ends were taken, and not the message
pub missed_after : {W : Type 0} (contents : W → Option (List ℕ)) (a b : Sink W) (missed : Owed)
    (bytes : List ℕ) → HasEnds contents a b → IsMissed b.owed.ends missed.ends bytes
    → HasMissed contents a (record b { owed = missed }) bytes
missed_after contents a b missed bytes (ends, sent, took) misses =
    (ends, b.owed.ends, sent, took, misses)
