-- A request as contracts see it, with its texts as lists of bytes.
use Rattle.std.specs.Prelude.{Option, option_map, List, ℕ}
use Rattle.std.specs.Borrow.{Bor}
use Rattle.clap.specs.Words.{Row, Text, found_of, rows_of}
use Rattle.clap.specs.declared.parser.matches.ArgMatches.{ArgMatches}
use Rattle.orca_words.specs.declared.request.Request.{Request as Held}
use Rattle.orca_words.specs.declared.request.Request.TheVariants as held
use Rattle.orca_words.specs.declared.request.Setup.{Setup as HeldSetup}
use Rattle.orca_words.specs.declared.request.Work.{Work as HeldWork}
use Rattle.orca_words.specs.declared.request.Work.TheVariants as held_work
use Rattle.orca_words.specs.declared.request.Performance.{Performance as HeldPerformance}
use Rattle.orca_words.specs.declared.request.Workload.{Workload as HeldWorkload}
use Rattle.orca_words.specs.declared.request.Recording.{Recording as HeldRecording}
use Rattle.orca_words.specs.declared.request.Leading.{Leading as HeldLeading}
use Rattle.orca_words.specs.declared.request.Migration.{Migration as HeldMigration}
use Rattle.orca_words.specs.declared.request.Recovery.{Recovery as HeldRecovery}
use Rattle.orca_words.specs.Requests.{Request, Perform, Make, Migrate, Setup, Work, Run, Events, Replay, Play, Smf, Wav, Follow, Lead, Performance, Workload, Recording, Leading, Migration, Recover, Recovery}

-- what a parse found
unfoldable pub rows_in : ArgMatches → List Row
rows_in matches = rows_of (found_of matches)

-- the text behind a reference
abbrev pub text_in : Option (Bor (List ℕ)) → Option Text
text_in = option_map (λ text. text.now)

abbrev pub setup_in : HeldSetup → Setup
setup_in setup = record {
  grid = setup.grid.now;
  seed = setup.seed;
  limit = setup.limit;
  midi = text_in setup.midi;
  udp = text_in setup.udp;
  osc = text_in setup.osc;
}

abbrev pub performance_in : HeldPerformance → Performance
performance_in play = record {
  address = play.address.now;
  bpm = play.bpm;
  rows = play.rows;
  cols = play.cols;
  full = play.full;
  hands = play.hands;
  views = play.views;
  save = text_in play.save;
  script = text_in play.script;
  journal = text_in play.journal;
  room = play.room;
}

abbrev pub workload_in : HeldWorkload → Workload
workload_in load = record {
  seed = load.seed;
  height = load.height;
  width = load.width;
  frames = load.frames;
}

abbrev pub recording_in : HeldRecording → Recording
recording_in recording = record {
  frames = recording.frames;
  bpm = recording.bpm;
  out = recording.out.now;
}

abbrev pub leading_in : HeldLeading → Leading
leading_in lead = record { address = lead.address.now; bpm = lead.bpm }

abbrev pub migration_in : HeldMigration → Migration
migration_in migration = record {
  script = migration.script.now;
  out = migration.out.now;
  seed = migration.seed;
}

abbrev pub recovery_in : HeldRecovery → Recovery
recovery_in recovery = record {
  room = recovery.room.now;
  out = recovery.out.now;
  script = text_in recovery.script;
  midi = text_in recovery.midi;
  limit = recovery.limit;
}

abbrev pub work_in : HeldWork → Work
work_in (held_work.Run frames) = Run frames
work_in (held_work.Events frames) = Events frames
work_in (held_work.Replay script) = Replay script.now
work_in (held_work.Play play) = Play (performance_in play)
work_in (held_work.Smf song) = Smf (recording_in song)
work_in (held_work.Wav wave) = Wav (recording_in wave)
work_in (held_work.Follow address) = Follow address.now
work_in (held_work.Lead lead) = Lead (leading_in lead)

abbrev pub request_in : Held → Request
request_in (held.Perform setup work) = Perform (setup_in setup) (work_in work)
request_in (held.Make load) = Make (workload_in load)
request_in (held.Migrate migration) = Migrate (migration_in migration)
request_in (held.Recover recovery) = Recover (recovery_in recovery)
