-- The owners of a history go with it, and an undo spares the edits of other hands.
use Rattle.std.proofs.Common.{◌≡◌, ℕ, zero, suc, ◌-◌, ◌<◌, Bool, true, false, true≢false, List, [], ◌∷◌, ◌++◌, length, drop, take, map, Option, Some, None, refl, arith, ap, sym, ◌∙◌, length-append}
use Rattle.std.specs.Prelude.{if◌then◌else◌, ◌==◌, ◌||◌, is_some, nat_lt, slice_get, cond}
use Rattle.std.specs.List.{remove}
use Rattle.std.specs.Option.{option_map, option_map_or, option_or}
use Rattle.std.proofs.Math.Path.{subst}
use Rattle.std.proofs.lemmas.Bool.Decides.{nat_tests}
use Rattle.std.proofs.lemmas.Option.{none-some, same_Some}
use Rattle.std.proofs.lemmas.List.{length-map, map-append, take_all}
use Rattle.std.proofs.lemmas.List.Edits.{length-remove}
use Rattle.orca_base.specs.declared.command.Command.{Command}
use Rattle.orca_base.specs.declared.command.Command.TheVariants as command
use Rattle.orca_base.specs.declared.command.Entry.{Entry}
use Rattle.orca_base.specs.declared.command.Entry.TheVariants.{Fill, Put, Move, Resize, Reset, Frame, Hush}
use Rattle.orca_base.specs.declared.place.Place.{Place}
use Rattle.orca_base.specs.Grids.{Sheet}
use Rattle.orca_base.specs.Histories.{is_edit, last_edit}
use Rattle.orca_edit.specs.Obeying.{MachineState, accept, carry_out, clip_after, entry_of, jump_to, obey, piece_of, place, retract, rule_against, taken_area}
use Rattle.orca_edit.proofs.RedoLemmas.{plain-by}
use Rattle.orca_edit.proofs.RuleLemmas.{entered, obey-retract, obey-rewind, obey-undo, some-entry, undoes_some}
use Rattle.orca_jam.specs.Crews.{CrewState, denial_of}
use Rattle.orca_jam.specs.Denials.{not_yours}
use Rattle.orca_jam.specs.Laws.{AreOwners, KeepsOwners, RetractSpares, UndoSpares, edits_of_others, frames_and_others, is_frame}
use Rattle.orca_jam.specs.Owners.{ends_in_hush, is_edit_command, is_of_other, last_editor, left_owners, nobodys, owned}
use Rattle.orca_jam.specs.declared.denial.Denial.TheVariants.{NotYours}
use Rattle.orca_jam.specs.declared.owner.Owner.{Owner}
use Rattle.orca_term.specs.declared.editor.Wish.TheVariants as wish

-- ---- owners beside entries

-- as many owners as entries
as_many : (h : List Entry) (o : List Owner) → AreOwners h o → length o ≡ length h
as_many h o are =
    sym (length-map o (λ (owner : Owner). owner.edit)) ∙ (ap length are ∙ length-map h is_edit)

-- of the first entry and its owner, and of the others
first-alike : (a b : Bool) (xs ys : List Bool) → a ∷ xs ≡ b ∷ ys → a ≡ b
first-alike a b xs ys same = cc

others-alike : (a b : Bool) (xs ys : List Bool) → a ∷ xs ≡ b ∷ ys → xs ≡ ys
others-alike a b xs ys same = cc

edit-of : (e : Entry) (w : Owner) (h : List Entry) (o : List Owner) → AreOwners (e ∷ h) (w ∷ o)
    → w.edit ≡ is_edit e
edit-of e w h o are = first-alike w.edit (is_edit e) _ _ are

rest-of : (e : Entry) (w : Owner) (h : List Entry) (o : List Owner) → AreOwners (e ∷ h) (w ∷ o)
    → AreOwners h o
rest-of e w h o are = others-alike w.edit (is_edit e) _ _ are

-- no owners without entries, and no entries without owners
no-owner : (w : Owner) (o : List Owner) → AreOwners [] (w ∷ o) → ⊥
no-owner w o are = cc

no-entry : (e : Entry) (h : List Entry) → AreOwners (e ∷ h) [] → ⊥
no-entry e h are = cc

-- ---- a jump

-- as many of the owners as of the entries
cut : (n : ℕ) (h : List Entry) (o : List Owner) → AreOwners h o
    → take (length (take n h)) o ≡ take n o
cut zero h o are = refl
cut (suc n) [] [] are = refl
cut (suc n) [] (w ∷ o) are = absurd (no-owner w o are)
cut (suc n) (e ∷ h) [] are = absurd (no-entry e h are)
cut (suc n) (e ∷ h) (w ∷ o) are = ap (λ (ws : List Owner). w ∷ ws) (cut n h o (rest-of e w h o are))

first-owners : (n : ℕ) (h : List Entry) (o : List Owner) → AreOwners h o
    → AreOwners (take n h) (take n o)
first-owners zero h o are = refl
first-owners (suc n) [] [] are = refl
first-owners (suc n) [] (w ∷ o) are = absurd (no-owner w o are)
first-owners (suc n) (e ∷ h) [] are = absurd (no-entry e h are)
first-owners (suc n) (e ∷ h) (w ∷ o) are =
    let head = edit-of e w h o are in
    let tail = first-owners n h o (rest-of e w h o are) in cc

-- the owners after a jump
jumped : (hand : ℕ) (c : Command) (n : ℕ) (h : List Entry) (o : List Owner) → AreOwners h o
    → ends_in_hush c ≡ true → left_owners c o ≡ o
    → owned hand c (length (take n h ++ Hush ∷ [])) o ≡ take n o ++ nobodys ∷ []
unfolding owned
jumped hand c n h o are is all =
    let long : length (take n h ++ Hush ∷ []) - 1 ≡ length (take n h) =
    omega (arith, length-append (take n h) (Hush ∷ [])) in
    rw (is, all, long, cut n h o are) refl

added-alike : (h : List Entry) (o : List Owner) (e : Entry) (w : Owner) → AreOwners h o
    → w.edit ≡ is_edit e → AreOwners (h ++ e ∷ []) (o ++ w ∷ [])
added-alike h o e w are is =
    let owners = map-append (λ (owner : Owner). owner.edit) o (w ∷ []) in
    let entries = map-append is_edit h (e ∷ []) in
    owners ∙ (ap (λ (edits : List Bool). edits ++ w.edit ∷ []) are
    ∙ (ap (λ (edit : Bool). map is_edit h ++ edit ∷ []) is ∙ sym entries))

jump-keeps : (m : MachineState) (o : List Owner) (hand : ℕ) (c : Command) (n : ℕ)
    → AreOwners m.history o → ends_in_hush c ≡ true → left_owners c o ≡ o
    → obey m c ≡ jump_to m n
    → let after = (obey m c).machine.history in AreOwners after (owned hand c (length after) o)
unfolding jump_to
jump-keeps m o hand c n are is all jumps =
    rw (jumps, jumped hand c n m.history o are is all)
    (added-alike (take n m.history) (take n o) Hush nobodys (first-owners n m.history o are) refl)

-- ---- a Retract

later-owners : (n : ℕ) (h : List Entry) (o : List Owner) → AreOwners h o
    → AreOwners (drop n h) (drop n o)
later-owners zero h o are = are
later-owners (suc n) [] [] are = refl
later-owners (suc n) [] (w ∷ o) are = absurd (no-owner w o are)
later-owners (suc n) (e ∷ h) [] are = absurd (no-entry e h are)
later-owners (suc n) (e ∷ h) (w ∷ o) are = later-owners n h o (rest-of e w h o are)

both-owners : (h more : List Entry) (o rest : List Owner) → AreOwners h o
    → AreOwners more rest → AreOwners (h ++ more) (o ++ rest)
both-owners h more o rest first second =
    map-append (λ (owner : Owner). owner.edit) o rest
    ∙ (ap (λ (edits : List Bool). edits ++ map (λ (owner : Owner). owner.edit) rest) first
    ∙ (ap (λ (edits : List Bool). map is_edit h ++ edits) second
    ∙ sym (map-append is_edit h more)))

other-owners : (n : ℕ) (h : List Entry) (o : List Owner) → AreOwners h o
    → AreOwners (remove h n) (remove o n)
other-owners n h o are =
    both-owners (take n h) (drop (suc n) h) (take n o) (drop (suc n) o) (first-owners n h o are)
    (later-owners (suc n) h o are)

-- the owners after a Retract
retracted : (hand n : ℕ) (h : List Entry) (o : List Owner) → AreOwners h o → n < length h
    → owned hand (command.Retract n) (length (remove h n ++ Hush ∷ [])) o
    ≡ remove o n ++ nobodys ∷ []
unfolding owned
retracted hand n h o are below =
    let few = as_many h o are in
    ap (λ (ws : List Owner). ws ++ nobodys ∷ [])
    (take_all (length (remove h n ++ Hush ∷ []) - 1) (remove o n)
    (omega (
      arith,
      few,
      below,
      length-append (remove h n) (Hush ∷ []),
      length-remove h n below,
      length-remove o n (omega (arith, few, below)),
    )))

retract-keeps : (m : MachineState) (o : List Owner) (hand n : ℕ) → AreOwners m.history o
    → rule_against m (command.Retract n) ≡ None
    → let after = (obey m (command.Retract n)).machine.history in
    AreOwners after (owned hand (command.Retract n) (length after) o)
unfolding retract
retract-keeps m o hand n are allowed =
    rw (obey-retract m n allowed, retracted hand n m.history o are (some-entry m n allowed))
    (added-alike (remove m.history n) (remove o n) Hush nobodys (other-owners n m.history o are) refl)

-- the Hush at the end is no frame, and no edit of another hand
hush-adds-none : (hand : ℕ) (h : List Entry) (o : List Owner) → AreOwners h o
    → frames_and_others hand (h ++ Hush ∷ []) (o ++ nobodys ∷ []) ≡ frames_and_others hand h o
hush-adds-none hand [] [] are = refl
hush-adds-none hand [] (w ∷ o) are = absurd (no-owner w o are)
hush-adds-none hand (e ∷ h) [] are = absurd (no-entry e h are)
hush-adds-none hand (e ∷ h) (w ∷ o) are =
    ap (λ (rest : List (Entry × Owner)).
    cond (is_frame e || is_of_other hand w) ((e, w) ∷ rest) rest)
    (hush-adds-none hand h o (rest-of e w h o are))

-- an edit is no frame
edit-plays-none : (e : Entry) → is_edit e ≡ true → is_frame e ≡ false
edit-plays-none (Fill area glyph) edits = refl
edit-plays-none (Put at block) edits = refl
edit-plays-none (Move area to) edits = refl
edit-plays-none (Resize dims) edits = refl
edit-plays-none Reset edits = refl
edit-plays-none Frame edits = absurd (true≢false (sym edits))
edit-plays-none Hush edits = refl

retract-leaves : (hand n : ℕ) (h : List Entry) (o : List Owner) (w : Owner) → AreOwners h o
    → slice_get o n ≡ Some w → w.edit ≡ true → w.hand ≡ hand
    → frames_and_others hand (remove h n ++ Hush ∷ []) (remove o n ++ nobodys ∷ [])
    ≡ frames_and_others hand h o
retract-leaves hand n [] [] w are is edits his = absurd (none-some w is)
retract-leaves hand n [] (x ∷ o) w are is edits his = absurd (no-owner x o are)
retract-leaves hand n (e ∷ h) [] w are is edits his = absurd (no-entry e h are)
retract-leaves hand zero (e ∷ h) (x ∷ o) w are is edits his =
    let same : x ≡ w = same_Some x w is in
    let edit : x.edit ≡ true = ap (λ (y : Owner). y.edit) same ∙ edits in
    let own : x.hand ≡ hand = ap (λ (y : Owner). y.hand) same ∙ his in
    let plays : is_frame e ≡ false = edit-plays-none e (sym (edit-of e x h o are) ∙ edit) in
    let mine : (x.hand == hand) ≡ true = grind (arith, nat_tests) in
    rw (plays, edit, mine) (hush-adds-none hand h o (rest-of e x h o are))
retract-leaves hand (suc n) (e ∷ h) (x ∷ o) w are is edits his =
    ap (λ (rest : List (Entry × Owner)).
    cond (is_frame e || is_of_other hand x) ((e, x) ∷ rest) rest)
    (retract-leaves hand n h o w (rest-of e x h o are) is edits his)

pub retract_spares : RetractSpares
unfolding retract
retract_spares m o hand moment owner are is edits his allowed =
    rw (
      obey-retract m moment allowed,
      retracted hand moment m.history o are (some-entry m moment allowed),
    )
    (retract-leaves hand moment m.history o owner are is edits his)

-- ---- an entry more

entry-keeps : (h : List Entry) (o : List Owner) (hand : ℕ) (c : Command) (e : Entry)
    → AreOwners h o → ends_in_hush c ≡ false → is_edit_command c ≡ is_edit e
    → AreOwners (h ++ e ∷ []) (owned hand c (length (h ++ e ∷ [])) o)
unfolding owned
entry-keeps h o hand c e are is edit =
    let long = length-append h (e ∷ []) in
    let few = as_many h o are in
    let more : nat_lt (length o) (length (h ++ e ∷ [])) ≡ true = grind (arith, nat_tests) in
    rw (is, more)
    (added-alike h o e (record { hand = hand; edit = is_edit_command c }) are edit)

-- none more
none-keeps : (h : List Entry) (o : List Owner) (hand : ℕ) (c : Command) → AreOwners h o
    → ends_in_hush c ≡ false → AreOwners h (owned hand c (length h) o)
unfolding owned
none-keeps h o hand c are is =
    let few = as_many h o are in
    let same : nat_lt (length o) (length h) ≡ false = grind (arith, nat_tests) in
    rw (is, same) are

carried : (m : MachineState) (o : List Owner) (hand : ℕ) (c : Command) (clip : Option Sheet)
    (e : Option Entry) → AreOwners m.history o → ends_in_hush c ≡ false
    → ((x : Entry) → e ≡ Some x → is_edit_command c ≡ is_edit x)
    → let after = (carry_out m c clip e).machine.history in
    AreOwners after (owned hand c (length after) o)
carried m o hand c clip None are is edit = none-keeps m.history o hand c are is
carried m o hand c clip (Some e) are is edit =
    entry-keeps m.history o hand c e are is (edit e refl)

edited : (e x : Entry) → is_edit e ≡ true → Some e ≡ Some x → true ≡ is_edit x
edited e x is same = sym is ∙ ap is_edit (same_Some e x same)

put : (at : Place) (clip : Option Sheet) (x : Entry) → option_map (Put at) clip ≡ Some x
    → true ≡ is_edit x
put at None x same = absurd (none-some _ same)
put at (Some block) x same = edited (Put at block) x refl same

-- ---- the last edit

alike-by : (last : Option ℕ) (mine : Option ℕ) (b : Bool) (hand : ℕ)
    → is_some mine ≡ is_some last
    → is_some (option_or mine (if b then Some hand else None))
    ≡ is_some (option_map_or (λ j. Some (suc j)) last (if b then Some 0 else None))
alike-by (Some i) (Some k) b hand same = refl
alike-by (Some i) None b hand same = absurd (true≢false (sym same))
alike-by None (Some k) b hand same = absurd (true≢false same)
alike-by None None true hand same = refl
alike-by None None false hand same = refl

-- the owners know of a last edit where the history has one
alike : (h : List Entry) (o : List Owner) → AreOwners h o
    → is_some (last_editor o) ≡ is_some (last_edit h)
alike [] [] are = refl
alike [] (w ∷ o) are = absurd (no-owner w o are)
alike (e ∷ h) [] are = absurd (no-entry e h are)
alike (e ∷ h) (w ∷ o) are =
    rw (edit-of e w h o are)
    (alike-by (last_edit h) (last_editor o) (is_edit e) w.hand
    (alike h o (rest-of e w h o are)))

-- without an edit there is none of another hand
none-of-others : (hand : ℕ) (h : List Entry) (o : List Owner) → AreOwners h o
    → last_edit h ≡ None → edits_of_others hand h o ≡ []
none-of-others hand [] [] are none = refl
none-of-others hand [] (w ∷ o) are none = absurd (no-owner w o are)
none-of-others hand (e ∷ h) [] are none = absurd (no-entry e h are)
none-of-others hand (e ∷ h) (w ∷ o) are none =
    let plain = plain-by (last_edit h) (is_edit e) none in
    rw (edit-of e w h o are ∙ plain.1)
    (none-of-others hand h o (rest-of e w h o are) plain.0)

-- what an undo of the last edit leaves, where that is the hand's own
abbrev SparedBy : ℕ → List Entry → List Owner → ℕ → Type 0
SparedBy hand h o i =
    edits_of_others hand (take i h ++ Hush ∷ []) (take i o ++ nobodys ∷ [])
    ≡ edits_of_others hand h o

spared-by : (hand : ℕ) (e : Entry) (w : Owner) (h : List Entry) (o : List Owner)
    (last mine : Option ℕ) (i : ℕ) → AreOwners (e ∷ h) (w ∷ o)
    → last ≡ last_edit h → mine ≡ last_editor o → is_some mine ≡ is_some last
    → ((j : ℕ) → last_edit h ≡ Some j → last_editor o ≡ Some hand → SparedBy hand h o j)
    → option_map_or (λ j. Some (suc j)) last (if is_edit e then Some 0 else None) ≡ Some i
    → option_or mine (if w.edit then Some w.hand else None) ≡ Some hand
    → SparedBy hand (e ∷ h) (w ∷ o) i
spared-by hand e w h o (Some j) (Some k) i are last mine same later found own =
    subst (SparedBy hand (e ∷ h) (w ∷ o)) (same_Some _ _ found)
    (ap (λ (rest : List (Entry × Owner)). cond (is_of_other hand w) ((e, w) ∷ rest) rest)
    (later j (sym last) (sym mine ∙ own)))
spared-by hand e w h o (Some j) None i are last mine same later found own =
    absurd (true≢false (sym same))
spared-by hand e w h o None (Some k) i are last mine same later found own =
    absurd (true≢false same)
spared-by hand e w h o None None i are last mine same later found own =
    first-spared hand e w h o (is_edit e) i are (edit-of e w h o are) (sym last) found own
  where
    first-spared : (hand : ℕ) (e : Entry) (w : Owner) (h : List Entry) (o : List Owner) (b : Bool)
        (i : ℕ) → AreOwners (e ∷ h) (w ∷ o) → w.edit ≡ b → last_edit h ≡ None
        → option_map_or (λ j. Some (suc j)) None (if b then Some 0 else None) ≡ Some i
        → option_or None (if w.edit then Some w.hand else None) ≡ Some hand
        → SparedBy hand (e ∷ h) (w ∷ o) i
    first-spared hand e w h o false i are edit none found own = absurd (none-some _ found)
    first-spared hand e w h o true i are edit none found own =
        let mine : Some w.hand ≡ Some hand = rw edit at own in
        let hands : w.hand ≡ hand = same_Some _ _ mine in
        let his : (w.hand == hand) ≡ true = grind (arith, nat_tests) in
        subst (SparedBy hand (e ∷ h) (w ∷ o)) (same_Some _ _ found)
        (rw (edit, his) (sym (none-of-others hand h o (rest-of e w h o are) none)))

spared : (hand : ℕ) (h : List Entry) (o : List Owner) (i : ℕ) → AreOwners h o
    → last_edit h ≡ Some i → last_editor o ≡ Some hand → SparedBy hand h o i
spared hand [] o i are last own = absurd (none-some _ last)
spared hand (e ∷ h) [] i are last own = absurd (no-entry e h are)
spared hand (e ∷ h) (w ∷ o) i are last own =
    let rest = rest-of e w h o are in
    spared-by hand e w h o (last_edit h) (last_editor o) i are refl refl (alike h o rest)
    (λ j found mine. spared hand h o j rest found mine) last own

-- ---- an undo

-- the last edit is the hand's own, if its undo is not denied
own-by : (hand : ℕ) (mine : Option ℕ) → is_some mine ≡ true → not_yours hand mine ≡ None
    → mine ≡ Some hand
own-by hand None some free = absurd (true≢false (sym some))
own-by hand (Some other) some free = by (other == hand) refl free
  where
    by : (b : Bool) → (other == hand) ≡ b
        → not_yours hand (Some other) ≡ None → Some other ≡ Some hand
    by true is free = let same : other ≡ hand = grind (arith, nat_tests) in ap Some same
    by false is free =
        let denied : not_yours hand (Some other) ≡ Some (NotYours other) = rw is refl in
        absurd (none-some _ (sym free ∙ denied))

own : (c : CrewState) (hand : ℕ) → c.alone ≡ false → denial_of c hand (wish.Do command.Undo) ≡ None
    → is_some (last_editor c.owners) ≡ true → last_editor c.owners ≡ Some hand
unfolding denial_of
own c hand shared denied some =
    let free : not_yours hand (last_editor c.owners) ≡ None = rw shared at denied in
    own-by hand (last_editor c.owners) some free

undo-at : (m : MachineState) (c : CrewState) (hand i : ℕ) → AreOwners m.history c.owners
    → last_edit m.history ≡ Some i → last_editor c.owners ≡ Some hand
    → obey m command.Undo ≡ jump_to m i
    → let after = (obey m command.Undo).machine.history in
    edits_of_others hand after (owned hand command.Undo (length after) c.owners)
    ≡ edits_of_others hand m.history c.owners
unfolding jump_to
undo-at m c hand i are last mine jumps =
    rw (jumps, jumped hand command.Undo i m.history c.owners are refl refl)
    (spared hand m.history c.owners i are last mine)

pub undo_spares : UndoSpares
undo_spares m c hand are shared denied allowed =
    undoes_some m (last_edit m.history) refl allowed _ (λ i last.
    let some : is_some (last_editor c.owners) ≡ true =
    alike m.history c.owners are ∙ ap is_some last in
    undo-at m c hand i are last (own c hand shared denied some) (obey-undo m i allowed last))

-- ---- every command

-- the owners after such a command
plain-keeps : (m : MachineState) (o : List Owner) (hand : ℕ) (c : Command)
    → AreOwners m.history o → rule_against m c ≡ None → ends_in_hush c ≡ false
    → accept m c ≡ entered m c
    → ((x : Entry) → entry_of (piece_of m).sheet.dims m.clip c ≡ Some x
    → is_edit_command c ≡ is_edit x)
    → let after = (obey m c).machine.history in AreOwners after (owned hand c (length after) o)
unfolding obey
plain-keeps m o hand c are allowed plain accepts edit =
    let d = (piece_of m).sheet.dims in
    rw (allowed, accepts)
    (carried m o hand c (clip_after m.clip (piece_of m).sheet (taken_area d c))
    (entry_of d m.clip c) are plain edit)

-- a Clip adds no entry
clip-keeps : (m : MachineState) (o : List Owner) (hand y x glyph : ℕ) → AreOwners m.history o
    → rule_against m (command.Clip y x glyph) ≡ None
    → let after = (obey m (command.Clip y x glyph)).machine.history in
    AreOwners after (owned hand (command.Clip y x glyph) (length after) o)
unfolding obey accept
clip-keeps m o hand y x glyph are allowed =
    rw allowed (none-keeps m.history o hand (command.Clip y x glyph) are refl)

pub keeps_owners : KeepsOwners
unfolding accept entry_of
keeps_owners m o hand command.Frame are other allowed =
    plain-keeps m o hand command.Frame are allowed refl refl
    (λ x is. ap is_edit (same_Some _ x is))
keeps_owners m o hand (command.Write y x glyph) are other allowed =
    plain-keeps m o hand (command.Write y x glyph) are allowed refl refl
    (λ e is. edited _ e refl is)
keeps_owners m o hand (command.Fill rect glyph) are other allowed =
    plain-keeps m o hand (command.Fill rect glyph) are allowed refl refl
    (λ e is. edited _ e refl is)
keeps_owners m o hand (command.Erase rect) are other allowed =
    plain-keeps m o hand (command.Erase rect) are allowed refl refl
    (λ e is. edited _ e refl is)
keeps_owners m o hand (command.Cut rect) are other allowed =
    plain-keeps m o hand (command.Cut rect) are allowed refl refl
    (λ e is. edited _ e refl is)
keeps_owners m o hand (command.Move rect y x) are other allowed =
    plain-keeps m o hand (command.Move rect y x) are allowed refl refl
    (λ e is. edited _ e refl is)
keeps_owners m o hand (command.Resize h w) are other allowed =
    plain-keeps m o hand (command.Resize h w) are allowed refl refl
    (λ e is. edited _ e refl is)
keeps_owners m o hand command.Reset are other allowed =
    plain-keeps m o hand command.Reset are allowed refl refl (λ e is. edited _ e refl is)
keeps_owners m o hand (command.Copy rect) are other allowed =
    plain-keeps m o hand (command.Copy rect) are allowed refl refl
    (λ e is. absurd (none-some _ is))
keeps_owners m o hand (command.Clip y x glyph) are other allowed =
    clip-keeps m o hand y x glyph are allowed
keeps_owners m o hand (command.Paste y x) are other allowed =
    plain-keeps m o hand (command.Paste y x) are allowed refl refl
    (λ e is. put (place y x) m.clip e is)
keeps_owners m o hand command.Undo are other allowed =
    undoes_some m (last_edit m.history) refl allowed _ (λ i last.
    jump-keeps m o hand command.Undo i are refl refl (obey-undo m i allowed last))
keeps_owners m o hand (command.Rewind moment) are other allowed =
    jump-keeps m o hand (command.Rewind moment) moment are refl refl (obey-rewind m moment allowed)
keeps_owners m o hand command.Redo are other allowed = absurd (other refl)
keeps_owners m o hand (command.Retract moment) are other allowed =
    retract-keeps m o hand moment are allowed
keeps_owners m o hand command.Hush are other allowed =
    plain-keeps m o hand command.Hush are allowed refl refl
    (λ x is. ap is_edit (same_Some _ x is))
