-- A track that grows, and what is kept of it.
use Rattle.std.specs.Prelude.{◌+◌, ◌≡◌, ◌≤◌, ◌<◌, ◌^◌, length, drop}
use Rattle.orca_smf.specs.declared.limits.TheConstants.{MAX_TRACK_BYTES}
use Rattle.orca_smf.specs.declared.front.TheConstants.{FRONT_BYTES, END_BYTES}
use Rattle.orca_smf.specs.declared.track.Track.TheInside.{Inside}
use Rattle.orca_smf.specs.Recording.{Recorded}
use Rattle.orca_smf.specs.Songs.{AreMessages, last_tick, messages, track_opening}
use Rattle.orca_smf.specs.Spelling.{messages_at}

-- the tempo is kept, and the messages stand after the room for the front
abbrev pub recorded_of : Inside → Recorded
recorded_of t = record {
  tempo = t.tempo;
  list = (messages_at (length t.file.items) 0 (drop FRONT_BYTES t.file.items)).0;
}

-- what holds of every track: it is spelled as its messages are, and its end has room
pub record IsTrack (t : Inside) : Type 0 where
  pub tempo : t.tempo < 2 ^ 24
  pub front : FRONT_BYTES ≤ length t.file.items
  pub spelled : drop FRONT_BYTES t.file.items ≡ messages 0 (recorded_of t).list
  pub messages : AreMessages 0 (recorded_of t).list
  pub last : t.last ≡ last_tick 0 (recorded_of t).list
  pub short : length (track_opening t.tempo (recorded_of t).list) + END_BYTES ≤ MAX_TRACK_BYTES
