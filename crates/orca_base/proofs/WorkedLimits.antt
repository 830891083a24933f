-- The limits with their numbers, so that none changes unseen. What the reaches and the ranges of
-- MIDI are for is said by the laws of src/laws.rt.
use Rattle.std.specs.Prelude.{◌≡◌, ◌^◌, pos, refl}
use Rattle.orca_base.specs.declared.limits.TheConstants.{MAX_ROWS, MAX_COLUMNS, MAX_CELLS, WORD_COLUMNS, BASE, MAX_OCTAVE, MIN_VELOCITY, DEFAULT_VELOCITY, MAX_TEXT, MAX_VALUES, SHORT_BYTES, WIRE_BYTES, MAX_OSC_BYTES, MAX_REACH, INLINE_CHANGES, ARRIVAL_BYTES, SEQUENCE_BYTES, JUMP_REACH, COMMENT_REACH, MAX_DEEDS, MAX_STEPS, MAX_VISIT_STEPS, MAX_EVENTS, MAX_NOTES, MAX_MESSAGES, MAX_DIGITS, DEFAULT_SEED, MAX_FILE_BYTES, MAX_ROOM_BYTES, MAX_HISTORY, DEFAULT_HISTORY, KEPT_PATCHES, RETRACTED_ENTRIES, MAX_TOUCHED, KEPT_TOUCHED, MAX_CHECKPOINTS, FIRST_SPACING, COMMAND_PRICE, OPERATOR_PRICE, TOUCH_PRICE, BACK_MOMENTS, MAX_HANDS, MIN_SCREEN_ROWS, MAX_SCREEN_ROWS, MIN_SCREEN_COLUMNS, MAX_SCREEN_COLUMNS, MAX_BPM, DEFAULT_BPM, BEAT_FRAMES, MINUTE_MICROSECONDS, MAX_POLLS}

-- grids
most_rows : MAX_ROWS ≡ 1024
most_rows = refl

most_columns : MAX_COLUMNS ≡ 1024
most_columns = refl

most_cells : MAX_CELLS ≡ 1048576
most_cells = refl

columns_of_a_word : WORD_COLUMNS ≡ 64
columns_of_a_word = refl

-- values, and what operators make of them
values_of_a_glyph : BASE ≡ 36
values_of_a_glyph = refl

greatest_octave : MAX_OCTAVE ≡ 9
greatest_octave = refl

least_velocity : MIN_VELOCITY ≡ 7
least_velocity = refl

velocity_where_none_is_given : DEFAULT_VELOCITY ≡ 127
velocity_where_none_is_given = refl

longest_text : MAX_TEXT ≡ 16
longest_text = refl

most_values : MAX_VALUES ≡ 35
most_values = refl

most_bytes_of_a_short : SHORT_BYTES ≡ 36
most_bytes_of_a_short = refl

most_bytes_of_a_wire : WIRE_BYTES ≡ 192
most_bytes_of_a_wire = refl

most_bytes_of_a_datagram : MAX_OSC_BYTES ≡ 184
most_bytes_of_a_datagram = refl

farthest_end_of_a_chain : JUMP_REACH ≡ 256
farthest_end_of_a_chain = refl

farthest_lock_of_a_comment : COMMENT_REACH ≡ 255
farthest_lock_of_a_comment = refl

farthest_deed : MAX_REACH ≡ pos 65536
farthest_deed = refl

-- a frame
most_deeds : MAX_DEEDS ≡ 512
most_deeds = refl

most_steps : MAX_STEPS ≡ 560
most_steps = refl

most_visit_steps : MAX_VISIT_STEPS ≡ 600
most_visit_steps = refl

most_events : MAX_EVENTS ≡ 1048576
most_events = refl

most_notes : MAX_NOTES ≡ 2048
most_notes = refl

most_messages : MAX_MESSAGES ≡ 2099200
most_messages = refl

-- words and files
most_digits : MAX_DIGITS ≡ 10
most_digits = refl

seed_that_is_not_given : DEFAULT_SEED ≡ 1
seed_that_is_not_given = refl

most_bytes_of_a_file : MAX_FILE_BYTES ≡ 16777216
most_bytes_of_a_file = refl

most_bytes_of_a_room : MAX_ROOM_BYTES ≡ 268435456
most_bytes_of_a_room = refl

-- histories
longest_history : MAX_HISTORY ≡ 4000000
longest_history = refl

history_that_is_not_given : DEFAULT_HISTORY ≡ 1000000
history_that_is_not_given = refl

newest_entries : KEPT_PATCHES ≡ 1024
newest_entries = refl

entries_that_a_hand_looks_through : RETRACTED_ENTRIES ≡ 4096
entries_that_a_hand_looks_through = refl

most_cells_of_an_entry : MAX_TOUCHED ≡ 2097152
most_cells_of_an_entry = refl

most_cells_of_the_newest_entries : KEPT_TOUCHED ≡ 67108864
most_cells_of_the_newest_entries = refl

most_checkpoints : MAX_CHECKPOINTS ≡ 65
most_checkpoints = refl

entries_between_the_first_checkpoints : FIRST_SPACING ≡ 256
entries_between_the_first_checkpoints = refl

price_of_a_command : COMMAND_PRICE ≡ 8
price_of_a_command = refl

price_of_an_operator : OPERATOR_PRICE ≡ 1200
price_of_an_operator = refl

price_of_a_touched_cell : TOUCH_PRICE ≡ 4
price_of_a_touched_cell = refl

changes_without_memory : INLINE_CHANGES ≡ 8
changes_without_memory = refl

moments_of_a_key : BACK_MOMENTS ≡ 16
moments_of_a_key = refl

-- what comes in
most_players : MAX_HANDS ≡ 8
most_players = refl

longest_arrival : ARRIVAL_BYTES ≡ 64
longest_arrival = refl

longest_sequence : SEQUENCE_BYTES ≡ 12
longest_sequence = refl

-- screens, and the pace
fewest_screen_rows : MIN_SCREEN_ROWS ≡ 2
fewest_screen_rows = refl

most_screen_rows : MAX_SCREEN_ROWS ≡ 100
most_screen_rows = refl

fewest_screen_columns : MIN_SCREEN_COLUMNS ≡ 8
fewest_screen_columns = refl

most_screen_columns : MAX_SCREEN_COLUMNS ≡ 256
most_screen_columns = refl

fastest_tempo : MAX_BPM ≡ 999
fastest_tempo = refl

tempo_that_is_not_given : DEFAULT_BPM ≡ 120
tempo_that_is_not_given = refl

frames_of_a_beat : BEAT_FRAMES ≡ 4
frames_of_a_beat = refl

microseconds_of_a_minute : MINUTE_MICROSECONDS ≡ 60000000
microseconds_of_a_minute = refl

most_polls : MAX_POLLS ≡ 2 ^ 40
most_polls = refl
