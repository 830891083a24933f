use Rattle.std.proofs.Common.{sym, ◌∙◌}
use Rattle.orca_smf.specs.Songs.{Tune}
use Rattle.orca_smf.proofs.Tunes.{events, events_behind, found_end, one_tune, song_fronted, song_read}
use Rattle.orca_smf.proofs.reading.read.Goals as goal

-- no song has another front
pub returns-in_default-clause-not_ours : goal.returns-in_default-clause-not_ours
returns-in_default-clause-not_ours c = λ _ song is e.
    let f = song_fronted song c.args.bytes.now is e in
    let all = events 0 song.list song.end in
    c.in_default.ensures.none song.tempo all is.tempo f.short f.whole

pub returns-in_default-clause-again : goal.returns-in_default-clause-again
returns-in_default-clause-again c = λ song is e.
    let f = song_fronted song c.args.bytes.now is e in
    let all = events 0 song.list song.end in
    absurd (c.in_default.ensures.none song.tempo all is.tempo f.short f.whole)

-- no song has another end after its messages
pub returns-in_default-read_end-clause-not_ours : goal.returns-in_default-read_end-clause-not_ours
returns-in_default-read_end-clause-not_ours c = λ _ song is e.
    let front = c.in-Some in
    let body = c.in_ok-list in
    let behind = events_behind song c.args.bytes.now front.rest.now front.tempo is e
    front.ensures.found.1 in
    let f = found_end song front.rest.now body.list.items body.last body.rest.now is behind
    body.ensures in
    c.in_default-read_end.ensures.none song.end f.follows f.spelled

pub returns-in_default-read_end-clause-again : goal.returns-in_default-read_end-clause-again
returns-in_default-read_end-clause-again c = λ song is e.
    let front = c.in-Some in
    let body = c.in_ok-list in
    let behind = events_behind song c.args.bytes.now front.rest.now front.tempo is e
    front.ensures.found.1 in
    let f = found_end song front.rest.now body.list.items body.last body.rest.now is behind
    body.ensures in
    absurd (c.in_default-read_end.ensures.none song.end f.follows f.spelled)

-- all parts are those of a song
pub returns-clause-song : goal.returns-clause-song
returns-clause-song c =
    let front = c.in-Some in
    let body = c.in_ok-list in
    let end = c.in-Some-read_end in
    let found = front.ensures.found in
    let t : Tune = record { tempo = front.tempo; list = body.list.items; end = end.end } in
    let s = song_read t c.args.bytes.now front.rest.now body.rest.now body.last
    front.ensures.tempo (record { short = found.0; whole = found.1 }) body.ensures
    end.ensures.end.0 end.ensures.end.1 in
    rw c.of.ensures (s.tune, s.file)

-- and that song is the only one
pub returns-clause-again : goal.returns-clause-again
returns-clause-again c = λ song is e.
    let front = c.in-Some in
    let body = c.in_ok-list in
    let end = c.in-Some-read_end in
    let found = front.ensures.found in
    let t : Tune = record { tempo = front.tempo; list = body.list.items; end = end.end } in
    let s = song_read t c.args.bytes.now front.rest.now body.rest.now body.last
    front.ensures.tempo (record { short = found.0; whole = found.1 }) body.ensures
    end.ensures.end.0 end.ensures.end.1 in
    c.of.ensures ∙ one_tune t song s.tune is (sym s.file ∙ e)
