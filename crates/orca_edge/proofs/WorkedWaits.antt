-- How long things wait and how much goes at once, with their numbers, so that none changes unseen.
use Rattle.std.specs.Prelude.{◌≡◌, ◌+◌, ◌*◌, ◌<◌, refl}
use Rattle.std.proofs.Common.{lit<}
use Rattle.orca_edge.specs.declared.moments.TheConstants.{LEAD, LONGEST_STEP, NAP, MARGIN}
use Rattle.orca_edge.specs.declared.room.TheConstants.{LONGEST_WAIT, LAST_WAIT, REST, TERMINAL_PIECE, PIPE_PIECE, DEVICE_PIECE}
use Rattle.orca_edge.specs.declared.fresh.TheConstants.{MAX_LINKS, MAX_NAMES, PRIVATE, PUBLIC}
use Rattle.orca_edge.specs.declared.whole.TheConstants.{PIECE_BYTES}

-- before a moment, in microseconds
no_events_from : LEAD ≡ 1300
no_events_from = refl

longest_wait_for_events : LONGEST_STEP ≡ 200000
longest_wait_for_events = refl

longest_sleep : NAP ≡ 300
longest_sleep = refl

no_sleep_from : MARGIN ≡ 80
no_sleep_from = refl

-- a sleep fits between where no events are waited for and where it may not go on
sleep_fits : MARGIN + NAP < LEAD
sleep_fits = lit< tt

-- for room, in milliseconds
longest_wait_of_a_send : LONGEST_WAIT ≡ 250
longest_wait_of_a_send = refl

longest_wait_of_the_end : LAST_WAIT ≡ 500
longest_wait_of_the_end = refl

rest_of_a_send : REST ≡ 1
rest_of_a_send = refl

-- bytes of one write
piece_of_a_terminal : TERMINAL_PIECE ≡ 128
piece_of_a_terminal = refl

piece_of_a_pipe : PIPE_PIECE ≡ 4096
piece_of_a_pipe = refl

piece_of_a_device : DEVICE_PIECE ≡ 1
piece_of_a_device = refl

-- bytes of one read
piece_of_a_file : PIECE_BYTES ≡ 4096
piece_of_a_file = refl

-- of a save: the links that are followed, the names that are tried, and the modes 600 and 666
most_links : MAX_LINKS ≡ 40
most_links = refl

most_names : MAX_NAMES ≡ 1000
most_names = refl

mode_of_one_that_replaces : PRIVATE ≡ 6 * 64
mode_of_one_that_replaces = refl

mode_of_a_new_one : PUBLIC ≡ 6 * 64 + 6 * 8 + 6
mode_of_a_new_one = refl
