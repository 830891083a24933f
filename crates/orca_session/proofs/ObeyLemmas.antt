-- What a session does with a command: the rules in their order, and each kind of command.
use Rattle.std.proofs.Common.{◌≡◌, true≢false, ℕ, zero, suc, ◌+◌, ◌<◌, ◌≤◌, true, false, List, [], ◌∷◌, ◌++◌, length, take, Some, None, Ok, Err, refl, arith, ap, sym, ◌∙◌, inl, inr}
use Rattle.std.specs.Prelude.{◌==◌, ◌&&◌, nat_lt, Option, IfSome, IsSome, is_none}
use Rattle.std.specs.Option.{option_map}
use Rattle.std.proofs.lemmas.Bool.{cases_Bool, lt-ltb, ltb-false}
use Rattle.orca_base.specs.declared.area.Area.{Area}
use Rattle.orca_base.specs.declared.command.Command.{Command}
use Rattle.orca_base.specs.declared.command.Command.TheVariants as command
use Rattle.orca_base.specs.declared.command.Entry.{Entry}
use Rattle.orca_base.specs.declared.command.Entry.TheVariants as entry
use Rattle.orca_base.specs.declared.command.Fault.{Fault}
use Rattle.orca_base.specs.declared.command.Fault.TheVariants.{Refused, Memory}
use Rattle.orca_base.specs.declared.command.Reply.TheVariants.{Copied, Edited}
use Rattle.orca_base.specs.declared.command.Rule.{Rule}
use Rattle.orca_base.specs.declared.command.Rule.TheVariants.{BadSize}
use Rattle.orca_base.specs.Edits.{block_of, clipped}
use Rattle.orca_base.specs.Grids.{Size, Sheet, IsInside, is_inside, largest}
use Rattle.orca_base.specs.Histories.{group_of, last_edit}
use Rattle.orca_base.proofs.PlaceFacts.{inside-is_inside}
use Rattle.orca_edit.specs.Editing.{IsGridEdit}
use Rattle.orca_edit.specs.Machines.{Obeys, may_lack_memory, obeyed}
use Rattle.orca_edit.specs.Obeying.{MachineState, Test, accept, adds_entry, block_rule, block_tests, carry_out, clip_after, entry_of, extend, first_standing, history_tests, obey, piece_of, place, refuse, reply_of, rule_against, taken_area}
use Rattle.orca_edit.specs.Pieces.{Piece, apply}
use Rattle.orca_edit.proofs.RuleLemmas.{is-open}
use Rattle.orca_session.specs.Session.{IsBlockEdit, clip_with}

-- ---- the rules

-- a rule that stands among the first tests
first-some : (ts more : List Test) (r : Rule) → first_standing ts ≡ Some r
    → first_standing (ts ++ more) ≡ Some r
first-some [] more r is = absurd (cc)
first-some (t ∷ ts) more r is = elim (cases_Bool t.stands) [
  | inl stands ↦ rw stands (rw stands at is)
  | inr fails ↦ rw fails (first-some ts more r (rw fails at is))
]

-- none of the first tests stands
first-none : (ts more : List Test) → first_standing ts ≡ None
    → first_standing (ts ++ more) ≡ first_standing more
first-none [] more is = refl
first-none (t ∷ ts) more is = elim (cases_Bool t.stands) [
  | inl stands ↦
      let some : first_standing (t ∷ ts) ≡ Some t.rule = rw stands refl in absurd (cc)
  | inr fails ↦ rw fails (first-none ts more (rw fails at is))
]

-- none of all tests stands
none-first : (ts more : List Test) → first_standing (ts ++ more) ≡ None
    → first_standing ts ≡ None
none-first [] more is = refl
none-first (t ∷ ts) more is = elim (cases_Bool t.stands) [
  | inl stands ↦
      let some : first_standing (t ∷ (ts ++ more)) ≡ Some t.rule = rw stands refl in absurd (cc)
  | inr fails ↦ rw fails (none-first ts more (rw fails at is))
]

pub rule-of-block : (m : MachineState) (c : Command) (r : Rule)
    → block_rule (piece_of m).sheet.dims m.clip c ≡ Some r → rule_against m c ≡ Some r
unfolding block_rule rule_against
rule-of-block m c r is =
    first-some (block_tests (piece_of m).sheet.dims m.clip c)
    (history_tests m.limit m.history m.tail c) r is

pub rule-of-history : (m : MachineState) (c : Command)
    → block_rule (piece_of m).sheet.dims m.clip c ≡ None
    → rule_against m c ≡ first_standing (history_tests m.limit m.history m.tail c)
unfolding block_rule rule_against
rule-of-history m c is =
    first-none (block_tests (piece_of m).sheet.dims m.clip c)
    (history_tests m.limit m.history m.tail c) is

pub no-block-rule : (m : MachineState) (c : Command) → rule_against m c ≡ None
    → block_rule (piece_of m).sheet.dims m.clip c ≡ None
unfolding block_rule rule_against
no-block-rule m c allowed =
    none-first (block_tests (piece_of m).sheet.dims m.clip c)
    (history_tests m.limit m.history m.tail c) allowed

none-empty : (n : ℕ) → n == 0 ≡ false → 0 < n
none-empty zero none = absurd (true≢false none)
none-empty (suc n) none = omega arith

-- a Redo finds something to bring back
pub some-tail : (m : MachineState) → rule_against m command.Redo ≡ None → 0 < length m.tail
some-tail m allowed = none-empty (length m.tail) (is-open m command.Redo allowed).redoes

-- and room for it
pub group-room : (m : MachineState) → rule_against m command.Redo ≡ None
    → length m.history + group_of m.tail ≤ m.limit
group-room m allowed =
    let some : nat_lt 0 (length m.tail) ≡ true =
    lt-ltb 0 (length m.tail) (some-tail m allowed) in
    let full : (nat_lt 0 (length m.tail) && nat_lt m.limit (length m.history + group_of m.tail))
    ≡ false = (is-open m command.Redo allowed).room in
    ltb-false m.limit (length m.history + group_of m.tail) (rw some at full)

-- an Undo finds an edit
pub some-edit : (m : MachineState) → rule_against m command.Undo ≡ None
    → is_none (last_edit m.history) ≡ false
some-edit m allowed = (is-open m command.Undo allowed).undoes

-- the largest grid has the cell that a Clip names
pub inside-clip : (m : MachineState) (y x glyph : ℕ)
    → rule_against m (command.Clip y x glyph) ≡ None → IsInside largest (place y x)
unfolding rule_against
inside-clip m y x glyph allowed = elim (cases_Bool (is_inside largest (place y x))) [
  | inl inside ↦ inside-is_inside largest (place y x) inside
  | inr outside ↦
      let some : rule_against m (command.Clip y x glyph) ≡ Some BadSize = rw outside refl in
      absurd (cc)
]

-- ---- what is done

pub obey-refused : (m : MachineState) (c : Command) (r : Rule) → rule_against m c ≡ Some r
    → obey m c ≡ refuse m r
unfolding obey
obey-refused m c r is = rw is refl

pub obey-accepted : (m : MachineState) (c : Command) → rule_against m c ≡ None
    → obey m c ≡ accept m c
unfolding obey
obey-accepted m c allowed = rw allowed refl

pub obey-frame : (m : MachineState) → rule_against m command.Frame ≡ None
    → obey m command.Frame ≡ extend m command.Frame m.clip entry.Frame
unfolding accept entry_of taken_area
obey-frame m allowed = obey-accepted m command.Frame allowed

pub obey-reset : (m : MachineState) → rule_against m command.Reset ≡ None
    → obey m command.Reset ≡ extend m command.Reset m.clip entry.Reset
unfolding accept entry_of taken_area
obey-reset m allowed = obey-accepted m command.Reset allowed

pub obey-hush : (m : MachineState) → rule_against m command.Hush ≡ None
    → obey m command.Hush ≡ extend m command.Hush m.clip entry.Hush
unfolding accept entry_of taken_area
obey-hush m allowed = obey-accepted m command.Hush allowed

-- a glyph is put into the clip
pub obey-clip : (m : MachineState) (y x glyph : ℕ) → rule_against m (command.Clip y x glyph) ≡ None
    → obey m (command.Clip y x glyph)
    ≡ obeyed (Ok Copied) (record m { clip = clipped m.clip (place y x) glyph }) []
unfolding accept
obey-clip m y x glyph allowed = obey-accepted m (command.Clip y x glyph) allowed

-- an edit by a block
accept-edit : (m : MachineState) (c : Command) → IsBlockEdit c
    → accept m c
    ≡ carry_out m c (clip_after m.clip (piece_of m).sheet (taken_area (piece_of m).sheet.dims c))
    (entry_of (piece_of m).sheet.dims m.clip c)
unfolding accept
accept-edit m command.Frame edits = absurd edits
accept-edit m (command.Write y x glyph) edits = refl
accept-edit m (command.Fill rect glyph) edits = refl
accept-edit m (command.Erase rect) edits = refl
accept-edit m (command.Copy rect) edits = refl
accept-edit m (command.Cut rect) edits = refl
accept-edit m (command.Clip y x glyph) edits = absurd edits
accept-edit m (command.Paste y x) edits = refl
accept-edit m (command.Move rect to_y to_x) edits = refl
accept-edit m (command.Resize h w) edits = refl
accept-edit m command.Reset edits = absurd edits
accept-edit m command.Undo edits = absurd edits
accept-edit m (command.Rewind moment) edits = absurd edits
accept-edit m command.Redo edits = absurd edits
accept-edit m (command.Retract moment) edits = absurd edits
accept-edit m command.Hush edits = absurd edits

pub obey-edit : (m : MachineState) (d : Size) (clip : Option Sheet) (c : Command)
    (take : Option Area) (e : Option Entry) → d ≡ (piece_of m).sheet.dims → clip ≡ m.clip
    → rule_against m c ≡ None → IsBlockEdit c → take ≡ taken_area d c → e ≡ entry_of d clip c
    → obey m c ≡ carry_out m c (clip_after m.clip (piece_of m).sheet take) e
obey-edit m d clip c take e size same allowed edits taken is =
    rw (taken, is, size, same) (obey-accepted m c allowed ∙ accept-edit m c edits)

-- memory may be refused to it
pub lacks-memory : (c : Command) → IsBlockEdit c → may_lack_memory c ≡ true
lacks-memory command.Frame edits = absurd edits
lacks-memory (command.Write y x glyph) edits = refl
lacks-memory (command.Fill rect glyph) edits = refl
lacks-memory (command.Erase rect) edits = refl
lacks-memory (command.Copy rect) edits = refl
lacks-memory (command.Cut rect) edits = refl
lacks-memory (command.Clip y x glyph) edits = absurd edits
lacks-memory (command.Paste y x) edits = refl
lacks-memory (command.Move rect to_y to_x) edits = refl
lacks-memory (command.Resize h w) edits = refl
lacks-memory command.Reset edits = absurd edits
lacks-memory command.Undo edits = absurd edits
lacks-memory (command.Rewind moment) edits = absurd edits
lacks-memory command.Redo edits = absurd edits
lacks-memory (command.Retract moment) edits = absurd edits
lacks-memory command.Hush edits = absurd edits

-- an entry of it edits the grid
pub edits-grid : (d : Size) (clip : Option Sheet) (c : Command) → IsBlockEdit c
    → IfSome (entry_of d clip c) IsGridEdit
unfolding entry_of
edits-grid d clip command.Frame edits = absurd edits
edits-grid d clip (command.Write y x glyph) edits = tt
edits-grid d clip (command.Fill rect glyph) edits = tt
edits-grid d clip (command.Erase rect) edits = tt
edits-grid d clip (command.Copy rect) edits = tt
edits-grid d clip (command.Cut rect) edits = tt
edits-grid d clip (command.Clip y x glyph) edits = absurd edits
edits-grid d None (command.Paste y x) edits = tt
edits-grid d (Some block) (command.Paste y x) edits = tt
edits-grid d clip (command.Move rect to_y to_x) edits = tt
edits-grid d clip (command.Resize h w) edits = tt
edits-grid d clip command.Reset edits = absurd edits
edits-grid d clip command.Undo edits = absurd edits
edits-grid d clip (command.Rewind moment) edits = absurd edits
edits-grid d clip command.Redo edits = absurd edits
edits-grid d clip (command.Retract moment) edits = absurd edits
edits-grid d clip command.Hush edits = absurd edits

-- an entry of it is added
pub adds-edit : (d : Size) (clip : Option Sheet) (c : Command) → IsBlockEdit c
    → IsSome (entry_of d clip c) → adds_entry c ≡ true
unfolding entry_of
adds-edit d clip command.Frame edits some = absurd edits
adds-edit d clip (command.Write y x glyph) edits some = refl
adds-edit d clip (command.Fill rect glyph) edits some = refl
adds-edit d clip (command.Erase rect) edits some = refl
adds-edit d clip (command.Copy rect) edits some = absurd (cc)
adds-edit d clip (command.Cut rect) edits some = refl
adds-edit d clip (command.Clip y x glyph) edits some = absurd edits
adds-edit d clip (command.Paste y x) edits some = refl
adds-edit d clip (command.Move rect to_y to_x) edits some = refl
adds-edit d clip (command.Resize h w) edits some = refl
adds-edit d clip command.Reset edits some = absurd edits
adds-edit d clip command.Undo edits some = absurd edits
adds-edit d clip (command.Rewind moment) edits some = absurd edits
adds-edit d clip command.Redo edits some = absurd edits
adds-edit d clip (command.Retract moment) edits some = absurd edits
adds-edit d clip command.Hush edits some = absurd edits

-- ---- memory

pub given-up : (m : MachineState) (c : Command) → rule_against m c ≡ None
    → may_lack_memory c ≡ true → Obeys m c (Err Memory) m []
given-up m c allowed lacking =
    record { allowed = allowed; lacking = lacking; machine = refl; silent = refl }

-- the rule on places, from the parts of a session
pub rule-of-parts : (m : MachineState) (d : Size) (clip : Option Sheet) (c : Command)
    → d ≡ (piece_of m).sheet.dims → clip ≡ m.clip
    → block_rule (piece_of m).sheet.dims m.clip c ≡ block_rule d clip c
rule-of-parts m d clip c size same =
    ap (λ (x : Size). block_rule x m.clip c) (sym size)
    ∙ ap (λ (x : Option Sheet). block_rule d x c) (sym same)

-- a fault of an edit that no rule refuses is that memory was refused
pub only-memory : (m : MachineState) (d : Size) (clip : Option Sheet) (c : Command)
    (fault : Fault) → d ≡ (piece_of m).sheet.dims → clip ≡ m.clip → rule_against m c ≡ None
    → IsBlockEdit c → ((r : Rule) → fault ≡ Refused r → block_rule d clip c ≡ Some r)
    → Obeys m c (Err fault) m []
only-memory m d clip c (Refused r) size same allowed edits refused =
    let none : block_rule d clip c ≡ None =
    sym (rule-of-parts m d clip c size same) ∙ no-block-rule m c allowed in
    let some : block_rule d clip c ≡ Some r = refused r refl in
    absurd (cc)
only-memory m d clip c Memory size same allowed edits refused =
    given-up m c allowed (lacks-memory c edits)

-- ---- an edit by a block

reply-edit : (c : Command) (p : Piece) → IsBlockEdit c → reply_of c p ≡ Edited
reply-edit command.Frame p edits = absurd edits
reply-edit (command.Write y x glyph) p edits = refl
reply-edit (command.Fill rect glyph) p edits = refl
reply-edit (command.Erase rect) p edits = refl
reply-edit (command.Copy rect) p edits = refl
reply-edit (command.Cut rect) p edits = refl
reply-edit (command.Clip y x glyph) p edits = absurd edits
reply-edit (command.Paste y x) p edits = refl
reply-edit (command.Move rect to_y to_x) p edits = refl
reply-edit (command.Resize h w) p edits = refl
reply-edit command.Reset p edits = absurd edits
reply-edit command.Undo p edits = absurd edits
reply-edit (command.Rewind moment) p edits = absurd edits
reply-edit command.Redo p edits = absurd edits
reply-edit (command.Retract moment) p edits = absurd edits
reply-edit command.Hush p edits = absurd edits

-- it gives no message
silent-edit : (p : Piece) (e : Entry) → IsGridEdit e → (apply p e).messages ≡ []
unfolding apply
silent-edit p (entry.Fill area glyph) edits = refl
silent-edit p (entry.Put at block) edits = refl
silent-edit p (entry.Move area to) edits = refl
silent-edit p (entry.Resize dims) edits = refl
silent-edit p entry.Reset edits = absurd edits
silent-edit p entry.Frame edits = absurd edits
silent-edit p entry.Hush edits = absurd edits

-- the clip that it takes
clip-taken : (clip : Option Sheet) (sheet : Sheet) (take : Option Area)
    → clip_with clip (option_map (block_of sheet) take) ≡ clip_after clip sheet take
clip-taken clip sheet None = refl
clip-taken clip sheet (Some area) = refl

-- an entry was done, and then the clip was kept
pub carried-out : (m mid new : MachineState) (c : Command) (take : Option Area)
    (taken : Option Sheet) (e : Entry) → IsBlockEdit c → IsGridEdit e
    → taken ≡ option_map (block_of (piece_of m).sheet) take
    → mid ≡ record m { history = m.history ++ e ∷ []; tail = [] }
    → new ≡ record mid { clip = clip_with mid.clip taken }
    → carry_out m c (clip_after m.clip (piece_of m).sheet take) (Some e)
    ≡ obeyed (Ok Edited) new []
carried-out m mid new c take taken e edits grid copied extended kept =
    let clip : clip_with m.clip taken ≡ clip_after m.clip (piece_of m).sheet take =
    ap (clip_with m.clip) copied ∙ clip-taken m.clip (piece_of m).sheet take in
    let same : new ≡ record m {
      history = m.history ++ e ∷ [];
      clip = clip_after m.clip (piece_of m).sheet take;
      tail = [];
    } =
    kept
    ∙ (ap (λ (x : MachineState). record x { clip = clip_with x.clip taken }) extended
    ∙ ap (λ (x : Option Sheet). record m {
      history = m.history ++ e ∷ [];
      clip = x;
      tail = [];
    }) clip) in
    rw (reply-edit c (piece_of m) edits, silent-edit (piece_of m) e grid)
    (ap (λ (x : MachineState). obeyed (Ok Edited) x []) (sym same))
