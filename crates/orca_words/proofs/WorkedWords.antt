-- Command lines, computed by the definitions: all options of each first word, in one spelling or
-- the other, and the corners. Single spaces stand between the words of a line.
use Rattle.std.specs.Prelude.{⊤, ◌≡◌, ◌==◌, false, true, not, [], ◌∷◌, ◌++◌, Option, Some, None, is_some, codes, refl}
use Rattle.std.specs.List.{list_all, slice_split}
use Rattle.clap.specs.Words.{Text}
use Rattle.clap.proofs.OnLiterals.{clap_on_literals}
use Rattle.orca_base.specs.Ascii.{space}
use Rattle.orca_base.specs.Numbers.{number_of}
use Rattle.orca_words.specs.Forms.{command_of, forms}
use Rattle.orca_words.specs.Requests.{Events, Follow, Lead, Make, Migrate, Perform, Play, Recover, Replay, Request, Run, Setup, Smf, Wav, jam_of, leading_of, migration_of, number_in, number_set, option_full, option_text, option_views, performance_of, portless_setup_of, recording_of, recovery_of, request_by, request_in_form, request_of, setup_of, with_fit_names, with_names_apart, with_own_journal, with_own_room, workload_of}

-- what a line asks for
unfoldable asked : Text → Option Request
asked line = request_of (slice_split (λ byte. byte == space) line)

unfoldable values : ⊤
unfolding option_text option_full option_views number_in number_of
values = tt

unfoldable parts : ⊤
unfolding setup_of portless_setup_of performance_of jam_of workload_of migration_of recording_of leading_of recovery_of number_set with_fit_names with_names_apart with_own_journal with_own_room
parts = tt

unfoldable worked : ⊤
unfolding asked request_of request_in_form request_by parts values forms command_of clap_on_literals
worked = tt

all_set : Setup
all_set = record {
  grid = codes "g";
  seed = 7;
  limit = 9;
  midi = Some (codes "m");
  udp = Some (codes "u");
  osc = Some (codes "o");
}

-- a run that is saved as a song or as sound has no ports
recording_set : Setup
recording_set = record {
  grid = codes "g";
  seed = 7;
  limit = 9;
  midi = None;
  udp = None;
  osc = None;
}

none_set : Setup
none_set = record {
  grid = codes "g";
  seed = 1;
  limit = 1000000;
  midi = None;
  udp = None;
  osc = None;
}

run_all : asked (codes "run --seed 7 g --limit=9 --midi m 3 --udp=u --osc o")
    ≡ Some (Perform all_set (Run 3))
unfolding worked all_set
run_all = refl

events_all : asked (codes "events g --osc=o --udp u 3 --midi=m --limit 9 --seed=7")
    ≡ Some (Perform all_set (Events 3))
unfolding worked all_set
events_all = refl

replay_all : asked (codes "replay --osc o --limit=9 --udp=u g s --midi m --seed 7")
    ≡ Some (Perform all_set (Replay (codes "s")))
unfolding worked all_set
replay_all = refl

play_all : asked (codes "play --midi=m --rows 9 g --udp u --osc=o --bpm=90 --save w --limit 9"
    ++ codes " a --cols=8 --keys=full --script=s --journal j --seed 7")
    ≡ Some (Perform all_set (Play (record {
      address = codes "a";
      bpm = 90;
      rows = 9;
      cols = 8;
      full = true;
      hands = None;
      views = false;
      save = Some (codes "w");
      script = Some (codes "s");
      journal = Some (codes "j");
      room = false;
    })))
unfolding worked all_set
play_all = refl

play_none : asked (codes "play g a") ≡ Some (Perform none_set (Play (record {
  address = codes "a";
  bpm = 120;
  rows = 24;
  cols = 80;
  full = false;
  hands = None;
  views = false;
  save = None;
  script = None;
  journal = None;
  room = false;
})))
unfolding worked none_set
play_none = refl

play_plain : asked (codes "play g a --keys plain") ≡ asked (codes "play g a")
unfolding worked
play_plain = refl

jam_all : asked (codes "jam --midi=m --rows 9 g --udp u --osc=o --bpm=90 a --save w --limit 9"
    ++ codes " --cols=8 --keys=full 8 --script=s --journal j --seed 7")
    ≡ Some (Perform all_set (Play (record {
      address = codes "a";
      bpm = 90;
      rows = 9;
      cols = 8;
      full = true;
      hands = Some 8;
      views = false;
      save = Some (codes "w");
      script = Some (codes "s");
      journal = Some (codes "j");
      room = false;
    })))
unfolding worked all_set
jam_all = refl

jam_views : asked (codes "jam g a 2 --views=all")
    ≡ Some (Perform none_set (Play (record {
      address = codes "a";
      bpm = 120;
      rows = 24;
      cols = 80;
      full = false;
      hands = Some 2;
      views = true;
      save = None;
      script = None;
      journal = None;
      room = false;
    })))
unfolding worked none_set
jam_views = refl

jam_one : asked (codes "jam --views one g a 02") ≡ asked (codes "jam g a 02")
unfolding worked
jam_one = refl

jam_none : asked (codes "jam g a 02") ≡ Some (Perform none_set (Play (record {
  address = codes "a";
  bpm = 120;
  rows = 24;
  cols = 80;
  full = false;
  hands = Some 2;
  views = false;
  save = None;
  script = None;
  journal = None;
  room = false;
})))
unfolding worked none_set
jam_none = refl

play_room : asked (codes "play g a --room r") ≡ Some (Perform none_set (Play (record {
  address = codes "a";
  bpm = 120;
  rows = 24;
  cols = 80;
  full = false;
  hands = None;
  views = false;
  save = None;
  script = None;
  journal = Some (codes "r");
  room = true;
})))
unfolding worked none_set
play_room = refl

-- a grid may be saved under its own name beside its room
play_room_saved : asked (codes "play g a --room r --save g")
    ≡ Some (Perform none_set (Play (record {
      address = codes "a";
      bpm = 120;
      rows = 24;
      cols = 80;
      full = false;
      hands = None;
      views = false;
      save = Some (codes "g");
      script = None;
      journal = Some (codes "r");
      room = true;
    })))
unfolding worked none_set
play_room_saved = refl

-- without a room names may meet
play_script_saved : asked (codes "play g a --script g")
    ≡ Some (Perform none_set (Play (record {
      address = codes "a";
      bpm = 120;
      rows = 24;
      cols = 80;
      full = false;
      hands = None;
      views = false;
      save = None;
      script = Some (codes "g");
      journal = None;
      room = false;
    })))
unfolding worked none_set
play_script_saved = refl

recover_all : asked (codes "recover r --midi=m o --limit 9 --script s")
    ≡ Some (Recover (record {
      room = codes "r";
      out = codes "o";
      script = Some (codes "s");
      midi = Some (codes "m");
      limit = Some 9;
    }))
unfolding worked
recover_all = refl

recover_none : asked (codes "recover r o")
    ≡ Some (Recover (record {
      room = codes "r";
      out = codes "o";
      script = None;
      midi = None;
      limit = None;
    }))
unfolding worked
recover_none = refl

make_some : asked (codes "make 5 64 1024 200")
    ≡ Some (Make (record { seed = 5; height = 64; width = 1024; frames = 200 }))
unfolding worked
make_some = refl

migrate_all : asked (codes "migrate s --seed=9 o")
    ≡ Some (Migrate (record { script = codes "s"; out = codes "o"; seed = 9 }))
unfolding worked
migrate_all = refl

migrate_none : asked (codes "migrate 0000000003 2")
    ≡ Some (Migrate (record { script = codes "0000000003"; out = codes "2"; seed = 1 }))
unfolding worked
migrate_none = refl

smf_all : asked (codes "smf --bpm 4 g --seed=7 3 --limit 9 o")
    ≡ Some (Perform recording_set (Smf (record { frames = 3; bpm = 4; out = codes "o" })))
unfolding worked recording_set
smf_all = refl

smf_none : asked (codes "smf g 0 o")
    ≡ Some (Perform none_set (Smf (record { frames = 0; bpm = 120; out = codes "o" })))
unfolding worked none_set
smf_none = refl

wav_all : asked (codes "wav g --limit=9 3 o --bpm=1 --seed 7")
    ≡ Some (Perform recording_set (Wav (record { frames = 3; bpm = 1; out = codes "o" })))
unfolding worked recording_set
wav_all = refl

wav_none : asked (codes "wav g 4294967295 o")
    ≡ Some (Perform none_set (Wav (record { frames = 4294967295; bpm = 120; out = codes "o" })))
unfolding worked none_set
wav_none = refl

follow_all : asked (codes "follow --seed 7 g --limit=9 --midi m a --udp=u --osc o")
    ≡ Some (Perform all_set (Follow (codes "a")))
unfolding worked all_set
follow_all = refl

follow_none : asked (codes "follow g a") ≡ Some (Perform none_set (Follow (codes "a")))
unfolding worked none_set
follow_none = refl

lead_all : asked (codes "lead g --osc=o --udp u a --midi=m --bpm 999 --limit 9 --seed=7")
    ≡ Some (Perform all_set (Lead (record { address = codes "a"; bpm = 999 })))
unfolding worked all_set
lead_all = refl

lead_none : asked (codes "lead g -- a")
    ≡ Some (Perform none_set (Lead (record { address = codes "a"; bpm = 120 })))
unfolding worked none_set
lead_none = refl

-- after `--` all words are positional, and a lone dash and an empty word are texts
after_dashes : asked (codes "run --seed=7 -- --seed 3")
    ≡ Some (Perform (record none_set { grid = codes "--seed"; seed = 7 }) (Run 3))
unfolding worked none_set
after_dashes = refl

small_texts : asked (codes "run  3 --midi= --udp - --osc=-x")
    ≡ Some (Perform (record none_set {
      grid = [];
      midi = Some [];
      udp = Some (codes "-");
      osc = Some (codes "-x");
    }) (Run 3))
unfolding worked none_set
small_texts = refl

-- too few words and too many, an option twice, without a text, unknown, shortened or of another
-- first word, a dash before a positional, no help and no version, and numbers out of their form and
-- range
refused : list_all (λ line. not (is_some (asked line))) (codes ""
    ∷ codes "sing g"
    ∷ codes "run"
    ∷ codes "run g"
    ∷ codes "run g 3 x"
    ∷ codes "run --seed 7 --seed=7 g 3"
    ∷ codes "run g 3 --seed"
    ∷ codes "run g 3 --midi --udp=u"
    ∷ codes "run g --seed -- 3"
    ∷ codes "run g 3 --tempo 7"
    ∷ codes "run g 3 --se 7"
    ∷ codes "run g 3 -s 7"
    ∷ codes "run g 3 --bpm 90"
    ∷ codes "run -g 3"
    ∷ codes "run --help"
    ∷ codes "run g 3 -h"
    ∷ codes "run g 3 --version"
    ∷ codes "run g +3"
    ∷ codes "run g 00000000003"
    ∷ codes "run g 4294967296"
    ∷ codes "run g 3 --limit 0"
    ∷ codes "run g 3 --limit=4000001"
    ∷ codes "play g a --bpm 1000"
    ∷ codes "play g a --rows 1"
    ∷ codes "play g a --cols 257"
    ∷ codes "play g a --keys all"
    ∷ codes "play g a --keys="
    ∷ codes "play g a --keys Full"
    ∷ codes "play g a --keys"
    ∷ codes "play g a --keys full --keys full"
    ∷ codes "run g 3 --keys full"
    ∷ codes "run g 3 --journal j"
    ∷ codes "play g a --journal"
    ∷ codes "play g a --journal j --journal j"
    ∷ codes "play g a --journal g"
    ∷ codes "play g a --save w --journal=w"
    ∷ codes "play g a --journal s --script s"
    ∷ codes "play g a --journal a"
    ∷ codes "play g a --journal m --midi m"
    ∷ codes "run g 3 --room r"
    ∷ codes "play g a --room"
    ∷ codes "play g a --room r --room r"
    ∷ codes "play g a --room r --journal j"
    ∷ codes "play g a --room g"
    ∷ codes "play g a --save w --room=w"
    ∷ codes "play g a --room s --script s"
    ∷ codes "play g a --room a"
    ∷ codes "play g a --room m --midi m"
    ∷ codes "play n n --room r"
    ∷ codes "play n a --room r --script n"
    ∷ codes "play n a --room r --midi n"
    ∷ codes "play g n --room r --script n"
    ∷ codes "play g n --room r --midi n"
    ∷ codes "play g a --room r --script n --midi n"
    ∷ codes "play g n --room r --save n"
    ∷ codes "play g a --room r --save n --script n"
    ∷ codes "play g a --room r --save n --midi n"
    ∷ codes "jam g a 2 --room r --save n --script n"
    ∷ codes "make 1 0 3 4"
    ∷ codes "make 1 1025 3 4"
    ∷ codes "make 1 2 1025 4"
    ∷ codes "make 1 2 3 100001"
    ∷ codes "make 1 2 3 4 --seed 1"
    ∷ codes "migrate s"
    ∷ codes "migrate s o x"
    ∷ codes "migrate s o --seed 4294967296"
    ∷ codes "migrate s o --seed=00000000007"
    ∷ codes "migrate s o --limit 9"
    ∷ codes "migrate s o --bpm 90"
    ∷ codes "smf g 3"
    ∷ codes "smf g 3 o x"
    ∷ codes "smf g 4294967296 o"
    ∷ codes "smf g 3 o --bpm 3"
    ∷ codes "smf g 3 o --bpm 1000"
    ∷ codes "smf g 3 o --limit 0"
    ∷ codes "smf g 3 o --midi m"
    ∷ codes "jam g a"
    ∷ codes "jam g 2 a"
    ∷ codes "jam g a 0"
    ∷ codes "jam g a 9"
    ∷ codes "jam g a 257"
    ∷ codes "jam g a 00000000002"
    ∷ codes "jam g a two"
    ∷ codes "jam g a 2 2"
    ∷ codes "jam g a 2 --bpm 0"
    ∷ codes "jam g a 2 --keys all"
    ∷ codes "jam g a 2 --journal g"
    ∷ codes "jam g a 2 --views two"
    ∷ codes "jam g a 2 --views="
    ∷ codes "jam g a 2 --views all --views=all"
    ∷ codes "jam g a 2 --views"
    ∷ codes "play g a --views all"
    ∷ codes "follow g a --views one"
    ∷ codes "play g a 2"
    ∷ codes "wav g 3"
    ∷ codes "wav g 3 o x"
    ∷ codes "wav g 4294967296 o"
    ∷ codes "wav g 3 o --bpm 0"
    ∷ codes "wav g 3 o --bpm 1000"
    ∷ codes "wav g 3 o --limit=4000001"
    ∷ codes "wav g 3 o --osc o"
    ∷ codes "follow"
    ∷ codes "follow g"
    ∷ codes "follow 3 g a"
    ∷ codes "follow g a --bpm 90"
    ∷ codes "follow g a --rows 9"
    ∷ codes "follow g a --keys full"
    ∷ codes "follow g a --script s"
    ∷ codes "follow g a --limit 0"
    ∷ codes "follow g a -h"
    ∷ codes "lead"
    ∷ codes "lead g"
    ∷ codes "lead g 3 a"
    ∷ codes "lead g a --bpm 0"
    ∷ codes "lead g a --bpm 1000"
    ∷ codes "lead g a --bpm 90 --bpm=90"
    ∷ codes "lead g a --cols 9"
    ∷ codes "lead g a --save o"
    ∷ codes "lead g a --seed 4294967296"
    ∷ codes "recover"
    ∷ codes "recover r"
    ∷ codes "recover r o x"
    ∷ codes "recover r o --limit 0"
    ∷ codes "recover r o --limit=4000001"
    ∷ codes "recover r o --seed 7"
    ∷ codes "recover r o --udp u"
    ∷ codes "recover r o --script s --script s"
    ∷ codes "recover n n"
    ∷ codes "recover n o --script n"
    ∷ codes "recover n o --midi n"
    ∷ codes "recover r n --script n"
    ∷ codes "recover r n --midi n"
    ∷ codes "recover r o --script n --midi n"
    ∷ []) ≡ true
unfolding worked
refused = refl
