-- How a performance of a player ends: by leaving, or by a full history, and with no note.
use Rattle.std.proofs.Common.{◌≡◌, inl, inr, ℕ, true, false, List, [], refl, ◌∙◌, ap, arith}
use Rattle.std.specs.Prelude.{Bool, IfSome, Option, Some, None, if◌then◌else◌}
use Rattle.orca_concert.specs.Concerts.{close_course as silence_course, command_course as obey_course}
use Rattle.orca_course.specs.Courses.{each, mapped, onward, still}
use Rattle.orca_course.specs.Standings.{notes_of}
use Rattle.orca_course.specs.declared.ending.Stop.{Stop}
use Rattle.orca_course.specs.declared.ending.Stop.TheVariants.{Full, Left}
use Rattle.orca_course.specs.declared.item.Item.{Item}
use Rattle.orca_course.specs.declared.item.Item.TheVariants as item
use Rattle.orca_course.proofs.CourseLemmas.{each-kind, onward-kind}
use Rattle.orca_course.proofs.PerformanceLemmas.{EndsWell, notes-standing_closed}
use Rattle.orca_jam.specs.declared.denial.Denial.{Denial}
use Rattle.orca_term.specs.Keys.{Byte, Due, Item as KeyItem}
use Rattle.orca_term.specs.declared.editor.Wish.{Wish}
use Rattle.orca_term.specs.declared.editor.Wish.TheVariants as wish
use Rattle.orca_term.specs.declared.keys.Key.{Key}
use Rattle.orca_live.specs.Performing.{answered_at, byte_course, denied_course, due_course, finish_course, frame_course, hand_course, hush_course, item_course, key_course, keys_course, knowing, last_grid_course, last_script_course, lines_course, live_part, lull_course, lull_of, press_course, read_course, save_course, saves_course, script_course, struck_course, struck_well, struck_where, take_course, wish_course, write_course}
use Rattle.orca_live.specs.States.{LiveState, fitted, hands_in, is_full, is_hand, reads_text}
use Rattle.orca_live.proofs.GivenLemmas.{finish_closes, journal_aside, paint_aside, show_aside, write_aside}

-- what a full history at a frame would need
abbrev pub AtFull : Type 0 → Item → LiveState → Type 0
AtFull Q (item.Due at) s = is_full (lull_course (answered_at at s)).state ≡ true → Q
AtFull Q i s = Unit {0}

-- nothing ends at the end
finish_goes : (s : LiveState) → (finish_course s).ending ≡ None
unfolding finish_course hush_course silence_course write_course lines_course saves_course last_grid_course last_script_course save_course script_course onward mapped
finish_goes s = grind arith

-- in these ways a performance may end
module _ (P : Stop → Type 0) (left : P Left) where
  -- a key ends it by leaving alone
  wish_leaves : (hand : ℕ) (w : Wish) (s : LiveState) → IfSome (wish_course hand w s).ending P
  unfolding wish_course save_course hand_course obey_course onward mapped
  wish_leaves hand wish.Quit s = left
  wish_leaves hand _ s = tt

  where_leaves : (hand : ℕ) (key : Key) (s : LiveState) (denial : Option Denial)
      → IfSome (struck_where hand key s denial).ending P
  unfolding denied_course
  where_leaves hand key s (Some denial) = tt
  where_leaves hand key s None = wish_leaves hand _ _

  press_leaves : (hand : ℕ) (key : Key) (s : LiveState) → IfSome (press_course hand key s).ending P
  unfolding press_course key_course struck_course
  press_leaves hand key s = where_leaves hand key (fitted (struck_well hand key s)) _

  keys_leave : (hand : ℕ) (keys : List Key) (s : LiveState)
      → IfSome (keys_course hand keys s).ending P
  unfolding keys_course
  keys_leave hand keys s =
      each-kind (λ end. IfSome end P) (press_course hand) tt (press_leaves hand) keys s

  item_by : (is : Bool) (hand : ℕ) (item : KeyItem) (s : LiveState)
      → IfSome (if is then read_course hand item s else still s).ending P
  unfolding read_course
  item_by true hand item s = keys_leave hand _ _
  item_by false hand item s = tt

  item_leaves : (hand : ℕ) (item : KeyItem) (s : LiveState) → IfSome (item_course hand item s).ending P
  unfolding item_course
  item_leaves hand item s = item_by (is_hand hand s) hand item s

  -- a frame ends it where the history is full
  frame_ends : (full : Bool) (s : LiveState) → is_full s ≡ full → (full ≡ true → P Full)
      → IfSome (frame_course s).ending P
  unfolding frame_course hand_course obey_course onward mapped
  frame_ends true s is ends = rw is (ends refl)
  frame_ends false s is ends = rw is tt

  lull_by : (text : Bool) (hand : ℕ) (s : LiveState)
      → IfSome (if text then still s else item_course hand Due s).ending P
  lull_by true hand s = tt
  lull_by false hand s = item_leaves hand Due s

  lull_leaves : (hand : ℕ) (s : LiveState) → IfSome (lull_of hand s).ending P
  unfolding lull_of
  lull_leaves hand s = lull_by (reads_text hand s) hand s

  lulls_leave : (hands : List ℕ) (s : LiveState) → IfSome (each lull_of hands s).ending P
  lulls_leave hands s = each-kind (λ end. IfSome end P) lull_of tt lull_leaves hands s

  due_ends : (s : LiveState) → (is_full (lull_course s).state ≡ true → P Full)
      → IfSome (due_course s).ending P
  unfolding due_course lull_course
  due_ends s full =
      onward-kind (λ end. IfSome end P) (lull_course s) frame_course (lulls_leave (hands_in s) s)
      (λ on. frame_ends _ (lull_course s).state refl full)

  pub take_ends : (i : Item) (s : LiveState) → AtFull (P Full) i s
      → IfSome (take_course i s).ending P
  unfolding take_course byte_course
  take_ends item.Start s full = rw ((journal_aside s).goes) tt
  take_ends (item.Open came) s full = rw ((paint_aside [] (knowing came s)).goes) tt
  take_ends (item.Byte hand at byte) s full = item_leaves hand (Byte byte) (answered_at at s)
  take_ends (item.Due at) s full = due_ends (answered_at at s) full
  take_ends item.Settle s full = rw ((write_aside s).goes) tt
  take_ends (item.Over came) s full = rw ((show_aside (knowing came s)).goes) tt
  take_ends (item.Ended ending) s full = rw (finish_goes s) tt

anywhere : (Q : Type 0) (i : Item) (s : LiveState) → Q → AtFull Q i s
anywhere Q (item.Due at) s q = λ full. q
anywhere Q _ s q = tt

pub live_ends_well : EndsWell live_part
unfolding take_course
live_ends_well = record {
  takes = λ i s. take_ends _ (inl refl) i s (anywhere _ i s (inr refl));
  silent = λ ending s.
      ap notes_of (finish_closes s).standing ∙ notes-standing_closed s.standing;
}
