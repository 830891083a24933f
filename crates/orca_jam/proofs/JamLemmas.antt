-- What a machine that hands share keeps.
use Rattle.std.proofs.Common.{◌≡◌, ◌≢◌, ℕ, ◌<◌, ◌≤◌, Bool, true, false, true≢false, List, [], length, Option, Some, None, Ok, Err, refl, arith, ap, sym, ◌∙◌}
use Rattle.std.specs.Prelude.{Result, ◌==◌, if◌then◌else◌}
use Rattle.std.specs.Option.{option_map_or}
use Rattle.std.proofs.Math.Path.{subst}
use Rattle.orca_base.specs.declared.command.Command.{Command}
use Rattle.orca_base.specs.declared.command.Command.TheVariants as command
use Rattle.orca_base.specs.declared.command.Entry.{Entry}
use Rattle.orca_base.specs.declared.command.Fault.{Fault}
use Rattle.orca_base.specs.declared.command.Fault.TheVariants as fault
use Rattle.orca_base.specs.declared.command.Reply.{Reply}
use Rattle.orca_base.specs.declared.command.Rule.{Rule}
use Rattle.orca_base.specs.declared.command.Rule.TheVariants.{NothingToUndo}
use Rattle.orca_base.specs.declared.message.Message.{Message}
use Rattle.orca_base.specs.Edits.{clipped}
use Rattle.orca_base.specs.Grids.{Sheet}
use Rattle.orca_base.specs.Histories.{last_edit}
use Rattle.orca_jam.proofs.OwnerLaws.{keeps_owners}
use Rattle.orca_jam.specs.Crews.{CrewState, answer_to, asked, denial_at, denial_of, denied_by, new_player, offered, player_at, says_away, struck_by, took_by, wish_at, with_player}
use Rattle.orca_jam.specs.Jamming.{Answered, AreInside, IsJam, JamState, Jams, Wished, around_of, before, crew_after, crew_in}
use Rattle.orca_jam.specs.Laws.{AreOwners}
use Rattle.orca_jam.specs.Owners.{owned}
use Rattle.orca_base.specs.Areas.{IsArea}
use Rattle.orca_jam.specs.declared.answers.JamFault.{JamFault}
use Rattle.orca_jam.specs.declared.answers.JamReply.{JamReply}
use Rattle.orca_jam.specs.declared.denial.Denial.{Denial}
use Rattle.orca_jam.specs.declared.player.Player.{Player}
use Rattle.orca_term.specs.Editing.{area_of, turned_page}
use Rattle.orca_term.specs.declared.around.Around.{Around}
use Rattle.orca_term.specs.declared.editor.Wish.{Wish}
use Rattle.orca_term.specs.declared.editor.Wish.TheVariants as wish
use Rattle.orca_term.specs.declared.keys.Key.{Key}
use Rattle.std.proofs.lemmas.Grind.{get_or-set_at}
use Rattle.std.proofs.lemmas.Bool.Decides.{nat_tests}
use Rattle.std.proofs.lemmas.List.{get_or-set_other, length-set, set-get_or, set-set}
use Rattle.orca_jam.specs.declared.owner.Owner.{Owner}
use Rattle.orca_edit.specs.Machines.{Acts}
use Rattle.orca_edit.specs.Obeying.{MachineState, Obeyed, accept, carry_out, jump_to, obey, piece_of, place, redo, refuse, retract, rule_against}

-- ---- what a machine does with a command, by its kind

accept-cases : (m : MachineState) (c : Command) (P : Obeyed → Type 0)
    → ((clip : Option Sheet) (e : Option Entry) → P (carry_out m c clip e))
    → ((moment : ℕ) → P (jump_to m moment)) → P (redo m) → ((moment : ℕ) → P (retract m moment))
    → ((rule : Rule) → P (refuse m rule)) → P (accept m c)
unfolding accept
accept-cases m command.Frame P carried jumped redone retracted refused = carried _ _
accept-cases m (command.Write y x glyph) P carried jumped redone retracted refused = carried _ _
accept-cases m (command.Fill rect glyph) P carried jumped redone retracted refused = carried _ _
accept-cases m (command.Erase rect) P carried jumped redone retracted refused = carried _ _
accept-cases m (command.Copy rect) P carried jumped redone retracted refused = carried _ _
accept-cases m (command.Cut rect) P carried jumped redone retracted refused = carried _ _
accept-cases m (command.Clip y x glyph) P carried jumped redone retracted refused =
    carried (clipped m.clip (place y x) glyph) None
accept-cases m (command.Paste y x) P carried jumped redone retracted refused = carried _ _
accept-cases m (command.Move rect y x) P carried jumped redone retracted refused = carried _ _
accept-cases m (command.Resize h w) P carried jumped redone retracted refused = carried _ _
accept-cases m command.Reset P carried jumped redone retracted refused = carried _ _
accept-cases m command.Undo P carried jumped redone retracted refused =
    by (last_edit m.history)
  where
    by : (last : Option ℕ) → P (option_map_or (jump_to m) last (refuse m NothingToUndo))
    by (Some i) = jumped i
    by None = refused NothingToUndo
accept-cases m (command.Rewind moment) P carried jumped redone retracted refused = jumped moment
accept-cases m command.Redo P carried jumped redone retracted refused = redone
accept-cases m (command.Retract moment) P carried jumped redone retracted refused = retracted moment
accept-cases m command.Hush P carried jumped redone retracted refused = carried _ _

obey-cases : (m : MachineState) (c : Command) (P : Obeyed → Type 0)
    → ((clip : Option Sheet) (e : Option Entry) → P (carry_out m c clip e))
    → ((moment : ℕ) → P (jump_to m moment)) → P (redo m) → ((moment : ℕ) → P (retract m moment))
    → ((rule : Rule) → P (refuse m rule)) → P (obey m c)
unfolding obey
obey-cases m c P carried jumped redone retracted refused = by (rule_against m c)
  where
    by : (rule : Option Rule) → P (option_map_or (refuse m) rule (accept m c))
    by (Some rule) = refused rule
    by None = accept-cases m c P carried jumped redone retracted refused

-- ---- the limit stays

carried-limit : (m : MachineState) (c : Command) (clip : Option Sheet) (e : Option Entry)
    → (carry_out m c clip e).machine.limit ≡ m.limit
carried-limit m c clip None = refl
carried-limit m c clip (Some e) = refl

obey-limit : (m : MachineState) (c : Command) → (obey m c).machine.limit ≡ m.limit
unfolding jump_to redo retract
obey-limit m c =
    obey-cases m c (λ o. o.machine.limit ≡ m.limit) (carried-limit m c) (λ moment. refl) refl
    (λ moment. refl) (λ rule. refl)

-- ---- after a refusal all is as before

ok-err : {A B : Type 0} (a : A) (b : B) → ◌≡◌ {A = Result A B} (Ok a) (Err b) → ⊥
ok-err a b is = cc

abbrev AsBefore : MachineState → Obeyed → Type 0
AsBefore m o =
    (rule : Rule) → o.answer ≡ Err rule → (o.machine ≡ m) × (o.messages ≡ [])

carried-ok : (m : MachineState) (c : Command) (clip : Option Sheet) (e : Option Entry)
    → AsBefore m (carry_out m c clip e)
carried-ok m c clip None rule is = absurd (ok-err _ _ is)
carried-ok m c clip (Some e) rule is = absurd (ok-err _ _ is)

obey-refused : (m : MachineState) (c : Command) → AsBefore m (obey m c)
unfolding jump_to redo retract
obey-refused m c =
    obey-cases m c (AsBefore m) (carried-ok m c) (λ moment rule is. absurd (ok-err _ _ is))
    (λ rule is. absurd (ok-err _ _ is)) (λ moment rule is. absurd (ok-err _ _ is))
    (λ refused rule is. (refl, refl))

-- what was accepted no rule stands against
obey-allowed : (m : MachineState) (c : Command) (reply : Reply) → (obey m c).answer ≡ Ok reply
    → rule_against m c ≡ None
unfolding obey
obey-allowed m c reply is = by (rule_against m c) refl is
  where
    by : (rule : Option Rule) → rule_against m c ≡ rule
        → (option_map_or (refuse m) rule (accept m c)).answer ≡ Ok reply → rule_against m c ≡ None
    by (Some rule) stands is = absurd (ok-err _ _ (sym is))
    by None stands is = stands

-- ---- what a machine did

pub acted-limit : (m n : MachineState) (c : Command) (answer : Result Reply Fault)
    (messages : List Message) → Acts m c answer n messages → n.limit ≡ m.limit
acted-limit m n c (Ok reply) messages acts =
    sym (ap (λ (o : Obeyed). o.machine.limit) acts.obeys) ∙ obey-limit m c
acted-limit m n c (Err (fault.Refused rule)) messages acts =
    sym (ap (λ (o : Obeyed). o.machine.limit) acts.obeys) ∙ obey-limit m c
acted-limit m n c (Err fault.Memory) messages acts = ap (λ (m : MachineState). m.limit) acts.obeys.machine

pub acted-same : (m n : MachineState) (c : Command) (f : Fault) (messages : List Message)
    → Acts m c (Err f) n messages → (n ≡ m) × (messages ≡ [])
acted-same m n c (fault.Refused rule) messages acts =
    let same = obey-refused m c rule (ap (λ (o : Obeyed). o.answer) acts.obeys) in (
      sym (ap (λ (o : Obeyed). o.machine) acts.obeys) ∙ same.0,
      sym (ap (λ (o : Obeyed). o.messages) acts.obeys) ∙ same.1,
    )
acted-same m n c fault.Memory messages acts = (acts.obeys.machine, acts.obeys.silent)

pub acted-owners : (m n : MachineState) (c : Command) (reply : Reply) (messages : List Message)
    (owners : List Owner) (hand : ℕ) → Acts m c (Ok reply) n messages → AreOwners m.history owners
    → c ≢ command.Redo → AreOwners n.history (owned hand c (length n.history) owners)
acted-owners m n c reply messages owners hand acts are other =
    let after = ap (λ (o : Obeyed). o.machine.history) acts.obeys in
    subst (λ (history : List Entry). AreOwners history (owned hand c (length history) owners)) after
    (keeps_owners m owners hand c are other
    (obey-allowed m c reply (ap (λ (o : Obeyed). o.answer) acts.obeys)))

-- ---- what holds of it afterwards

sound-as : (n : MachineState) (c : CrewState) (owners : List Owner) → c.alone ≡ false
    → n.limit ≤ c.room → AreOwners n.history owners
    → AreInside n (crew_in n (record c { owners = owners }))
    → IsJam n (crew_in n (record c { owners = owners }))
sound-as n c owners shared room are inside =
    record { shared = shared; room = room; owners = are; inside = inside }

pub sound-after : (m n : MachineState) (crew : CrewState) (hand : ℕ) (c : Command) (reply : Reply)
    (messages : List Message) → IsJam m crew → Acts m c (Ok reply) n messages → c ≢ command.Redo
    → AreInside n (crew_after hand c n crew) → IsJam n (crew_after hand c n crew)
sound-after m n crew hand c reply messages sound acts other inside =
    let owners = owned hand c (length n.history) crew.owners in
    let took : took_by hand c (length n.history) crew ≡ record crew { owners = owners } =
    rw sound.shared refl in
    let limit = acted-limit m n c (Ok reply) messages acts in
    subst (λ (x : CrewState). AreInside n (crew_in n x) → IsJam n (crew_in n x)) (sym took)
    (sound-as n crew owners sound.shared (omega (arith, sound.room, limit))
    (acted-owners m n c reply messages crew.owners hand acts sound.owners other)) inside

-- ---- no key asks for a redo

abbrev is_redo : Wish → Bool
is_redo (wish.Do command.Redo) = true
is_redo _ = false

no_redo : (c : CrewState) (w : Wish) → c.alone ≡ false → is_redo (offered c w) ≡ false
no_redo c (wish.Do command.Redo) shared = rw shared refl
no_redo c (wish.Do command.Frame) shared = refl
no_redo c (wish.Do (command.Write y x glyph)) shared = refl
no_redo c (wish.Do (command.Fill rect glyph)) shared = refl
no_redo c (wish.Do (command.Erase rect)) shared = refl
no_redo c (wish.Do (command.Copy rect)) shared = refl
no_redo c (wish.Do (command.Cut rect)) shared = refl
no_redo c (wish.Do (command.Clip y x glyph)) shared = refl
no_redo c (wish.Do (command.Paste y x)) shared = refl
no_redo c (wish.Do (command.Move rect to_y to_x)) shared = refl
no_redo c (wish.Do (command.Resize h w)) shared = refl
no_redo c (wish.Do command.Reset) shared = refl
no_redo c (wish.Do command.Undo) shared = refl
no_redo c (wish.Do (command.Rewind moment)) shared = refl
no_redo c (wish.Do (command.Retract moment)) shared = refl
no_redo c (wish.Do command.Hush) shared = refl
no_redo c wish.Nothing shared = refl
no_redo c wish.Toggle shared = refl
no_redo c wish.Save shared = refl
no_redo c wish.Quit shared = refl
no_redo c (wish.Slower beats) shared = refl
no_redo c (wish.Faster beats) shared = refl
no_redo c (wish.Redraw size) shared = refl

pub asks-no-redo : (c : CrewState) (hand : ℕ) (k : Key) (a : Around) (w : Wish) → c.alone ≡ false
    → Ok w ≡ answer_to c hand k a → w ≢ wish.Do command.Redo
unfolding denial_of
asks-no-redo c hand k a w shared told redo =
    let not_so = no_redo_asked (says_away c hand k) in
    let is : w ≡ asked c hand k a = told-by (denial_at c hand k a) w (asked c hand k a) told in
    absurd (true≢false (sym (ap is_redo redo) ∙ (ap is_redo is ∙ not_so)))
  where
    no_redo_asked : (b : Bool)
        → is_redo (if b then wish.Nothing else offered c (wish_at c hand k a)) ≡ false
    no_redo_asked true = refl
    no_redo_asked false = no_redo c (wish_at c hand k a) shared

    told-by : (denial : Option Denial) (w v : Wish)
        → ◌≡◌ {A = Result Wish Denial} (Ok w) (option_map_or Err denial (Ok v)) → w ≡ v
    told-by None w v told = cc
    told-by (Some denial) w v told = absurd (ok-err w denial told)

-- ---- the editor of a hand

pub inside-with : (m : MachineState) (c : CrewState) (hand : ℕ) (p : Player) → AreInside m c
    → hand < length c.players → IsArea (piece_of m).sheet.dims (area_of p.editor)
    → AreInside m (with_player hand p c)
inside-with m c hand p inside there one other below = by (other == hand) refl
  where
    by : (b : Bool) → (other == hand) ≡ b
        → IsArea (piece_of m).sheet.dims (area_of (player_at (with_player hand p c) other).editor)
    by true is =
        let same : other ≡ hand = grind (arith, nat_tests) in
        rw (get_or-set_at c.players hand other p (new_player false) same there) one
    by false is =
        let differs : other ≢ hand = grind (arith, nat_tests) in
        rw (get_or-set_other c.players hand other p (new_player false) differs)
        (inside other (omega (arith, below, length-set c.players hand p)))

-- a crew with another player is still one
pub sound-with : (m : MachineState) (c : CrewState) (hand : ℕ) (p : Player) → IsJam m c
    → hand < length c.players → IsArea (piece_of m).sheet.dims (area_of p.editor)
    → IsJam m (with_player hand p c)
sound-with m c hand p sound there one = record {
  shared = sound.shared;
  room = sound.room;
  owners = sound.owners;
  inside = inside-with m c hand p sound.inside there one;
}

-- and so is one whose page of help a denied key has closed
pub sound-denied : (m : MachineState) (c : CrewState) (hand : ℕ) (k : Key) → IsJam m c
    → hand < length c.players → IsJam m (denied_by hand k c)
sound-denied m c hand k sound there =
    let p = player_at c hand in
    sound-with m c hand (record p { editor = turned_page k p.editor }) sound there
    (sound.inside hand there)

-- a player that is put back
restored : (c : CrewState) (hand : ℕ) (p : Player)
    → with_player hand (player_at c hand) (with_player hand p c) ≡ c
restored c hand p =
    ap (λ (ps : List Player). record c { players = ps })
    (set-set c.players hand p (player_at c hand) ∙ set-get_or c.players hand (new_player false))

-- a wish that was granted is what became of the key
pub granted : (s : JamState) (hand : ℕ) (k : Key) (w : Wish) (p : Player) (c : CrewState)
    (answer : Result JamReply JamFault) (t : JamState) (messages : List Message) (a : Around)
    → p ≡ player_at s.crew hand → a ≡ around_of s hand k
    → Ok w ≡ answer_to s.crew hand k a → c ≡ struck_by hand k a s.crew
    → Wished (before hand p (record s { crew = c })) hand c w answer t messages
    → Jams s hand k answer t messages
granted s hand k w p c answer t messages a player around told crew wished =
    let back : before hand p (record s { crew = c }) ≡ s =
    rw (player, crew) (ap (λ (x : CrewState). record s { crew = x }) (restored s.crew hand _)) in
    let first : Answered s hand k c (Ok w) answer t messages =
    subst (λ (x : JamState). Wished x hand c w answer t messages) back wished in
    let second : Answered s hand k (struck_by hand k a s.crew) (Ok w) answer t messages =
    subst (λ (x : CrewState). Answered s hand k x (Ok w) answer t messages) crew first in
    let third :
    Answered s hand k (struck_by hand k a s.crew) (answer_to s.crew hand k a) answer t messages =
    subst (λ (x : Result Wish Denial).
    Answered s hand k (struck_by hand k a s.crew) x answer t messages) told second in
    subst (λ (x : Around).
    Answered s hand k (struck_by hand k x s.crew) (answer_to s.crew hand k x) answer t messages)
    around third
