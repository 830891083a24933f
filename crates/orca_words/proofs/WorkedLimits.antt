-- Why the least tempo of a song is what it is: the microseconds of its beats fit into the three
-- bytes that a MIDI file has for them, and those of the next slower tempo do not.
use Rattle.std.specs.Prelude.{◌≡◌, ◌^◌, ◌-◌, ◌/◌, false, true, nat_lt, refl}
use Rattle.orca_base.specs.declared.limits.TheConstants.{MINUTE_MICROSECONDS}
use Rattle.orca_words.specs.declared.limits.TheConstants.{MIN_SONG_BPM}

slowest_song : MIN_SONG_BPM ≡ 4
slowest_song = refl

beat_fits : nat_lt (MINUTE_MICROSECONDS / MIN_SONG_BPM) (2 ^ 24) ≡ true
beat_fits = refl

longer_beat_does_not : nat_lt (MINUTE_MICROSECONDS / (MIN_SONG_BPM - 1)) (2 ^ 24) ≡ false
longer_beat_does_not = refl
