-- The table of the forms of the command line, written once more, so that none changes unseen, and no
-- word, positional or option is added that nobody reads.
use Rattle.std.specs.Prelude.{◌≡◌, List, [], ◌∷◌, ◌++◌, codes, refl}
use Rattle.clap.specs.Words.{Text}
use Rattle.orca_words.specs.Forms.{Form, forms}
use Rattle.orca_words.specs.declared.forms.Verb.{Verb}
use Rattle.orca_words.specs.declared.forms.Verb.TheVariants.{Run, Events, Replay, Play, Make, Migrate, Smf, Jam, Wav, Follow, Lead, Recover}

abbrev row : Text → List Text → List Text → Verb → Form
row word positionals options verb =
    record { word = word; positionals = positionals; options = options; verb = verb }

-- the options of a run on a grid
abbrev options : List Text
options = codes "seed" ∷ codes "limit" ∷ codes "midi" ∷ codes "udp" ∷ codes "osc" ∷ []

-- those that a performance has beside them
abbrev more_options : List Text
more_options =
    codes "bpm" ∷ codes "rows" ∷ codes "cols" ∷ codes "keys" ∷ codes "save" ∷ codes "script"
    ∷ codes "journal" ∷ codes "room" ∷ []

-- those of a run on a grid that is saved as a song or as sound
abbrev recording_options : List Text
recording_options = codes "seed" ∷ codes "limit" ∷ codes "bpm" ∷ []

-- what such a run needs
abbrev recording_names : List Text
recording_names = codes "GRID" ∷ codes "FRAMES" ∷ codes "OUT" ∷ []

forms_are : forms
    ≡ row (codes "run") (codes "GRID" ∷ codes "FRAMES" ∷ []) options Run
    ∷ row (codes "events") (codes "GRID" ∷ codes "FRAMES" ∷ []) options Events
    ∷ row (codes "replay") (codes "GRID" ∷ codes "SCRIPT" ∷ []) options Replay
    ∷ row (codes "play") (codes "GRID" ∷ codes "ADDRESS" ∷ []) (options ++ more_options) Play
    ∷ row (codes "make")
    (codes "SEED" ∷ codes "HEIGHT" ∷ codes "WIDTH" ∷ codes "FRAMES" ∷ []) [] Make
    ∷ row (codes "migrate") (codes "SCRIPT" ∷ codes "OUT" ∷ []) (codes "seed" ∷ []) Migrate
    ∷ row (codes "smf") recording_names recording_options Smf
    ∷ row (codes "jam") (codes "GRID" ∷ codes "ADDRESS" ∷ codes "HANDS" ∷ [])
    (options ++ more_options ++ codes "views" ∷ []) Jam
    ∷ row (codes "wav") recording_names recording_options Wav
    ∷ row (codes "follow") (codes "GRID" ∷ codes "ADDRESS" ∷ []) options Follow
    ∷ row (codes "lead") (codes "GRID" ∷ codes "ADDRESS" ∷ []) (options ++ codes "bpm" ∷ []) Lead
    ∷ row (codes "recover") (codes "ROOM" ∷ codes "OUT" ∷ [])
    (codes "script" ∷ codes "midi" ∷ codes "limit" ∷ []) Recover
    ∷ []
unfolding forms
forms_are = refl
