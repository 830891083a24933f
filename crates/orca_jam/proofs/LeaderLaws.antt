-- Where each edit is the first hand's, nothing is denied to it, and it stays so.
use Rattle.std.proofs.Common.{◌≡◌, ℕ, ◌-◌, Bool, true, false, true≢false, not, List, [], ◌∷◌, ◌++◌, length, drop, suc, take, Option, Some, None, refl, arith, sym}
use Rattle.std.specs.Prelude.{if◌then◌else◌, ◌&&◌, ◌==◌, nat_lt}
use Rattle.std.specs.Option.{option_or}
use Rattle.std.proofs.lemmas.List.Elements.{All-append, All-drop, All-push, All-tail, All-take}
use Rattle.orca_base.specs.declared.command.Command.{Command}
use Rattle.orca_base.specs.declared.command.Command.TheVariants as command
use Rattle.orca_jam.specs.Crews.{denial_of, is_leaders}
use Rattle.orca_jam.specs.Denials.{is_undo, not_yours}
use Rattle.orca_jam.specs.Laws.{AreLeaders, LeaderIsFree, LeaderStaysFree}
use Rattle.orca_jam.specs.Owners.{ends_in_hush, is_edit_command, last_editor, left_owners, nobodys, owned}
use Rattle.orca_jam.specs.declared.crew.TheConstants.{LEADER}
use Rattle.orca_jam.specs.declared.denial.Denial.TheVariants.{LeaderOnly}
use Rattle.orca_jam.specs.declared.owner.Owner.{Owner}
use Rattle.orca_jam.specs.declared.owner.TheConstants.{NOBODY}

-- an edit is the first hand's
abbrev IsLeaders : Owner → Type 0
IsLeaders owner = owner.edit ≡ true → owner.hand ≡ LEADER

-- ---- nothing is denied

mine-by : (mine : Option ℕ) (edit : Bool) (hand : ℕ) → (edit ≡ true → hand ≡ LEADER)
    → not_yours LEADER mine ≡ None
    → not_yours LEADER (option_or mine (if edit then Some hand else None)) ≡ None
mine-by (Some k) edit hand his free = free
mine-by None true hand his free = rw (his refl) refl
mine-by None false hand his free = refl

mine : (o : List Owner) → AreLeaders o → not_yours LEADER (last_editor o) ≡ None
mine [] all = refl
mine (w ∷ o) all =
    mine-by (last_editor o) w.edit w.hand (all 0 w (omega arith)) (mine o (All-tail IsLeaders w o all))

free-by : (alone leaders undo : Bool) (last : Option ℕ) → not_yours LEADER last ≡ None
    → (if alone then None
    else (if leaders && not (LEADER == LEADER) then Some LeaderOnly
    else (if undo then not_yours LEADER last else None))) ≡ None
free-by true leaders undo last free = refl
free-by false true true last free = free
free-by false true false last free = refl
free-by false false true last free = free
free-by false false false last free = refl

pub leader_is_free : LeaderIsFree
unfolding denial_of
leader_is_free c w all =
    free-by c.alone (is_leaders c w) (is_undo w) (last_editor c.owners) (mine c.owners all)

-- ---- and it stays so

left : (c : Command) (o : List Owner) → AreLeaders o → AreLeaders (left_owners c o)
left (command.Retract moment) o all =
    All-append IsLeaders (take moment o) (drop (suc moment) o) (All-take IsLeaders moment o all)
    (All-drop IsLeaders (suc moment) o all)
left command.Frame o all = all
left (command.Write y x glyph) o all = all
left (command.Fill rect glyph) o all = all
left (command.Erase rect) o all = all
left (command.Copy rect) o all = all
left (command.Cut rect) o all = all
left (command.Clip y x glyph) o all = all
left (command.Paste y x) o all = all
left (command.Move rect y x) o all = all
left (command.Resize h w) o all = all
left command.Reset o all = all
left command.Undo o all = all
left (command.Rewind moment) o all = all
left command.Redo o all = all
left command.Hush o all = all

stays-by : (hand n : ℕ) (edit ends more : Bool) (o rest : List Owner) → AreLeaders o
    → AreLeaders rest → (edit ≡ true → hand ≡ LEADER)
    → AreLeaders (if ends then take (n - 1) rest ++ nobodys ∷ []
    else (if more then o ++ record { hand = hand; edit = edit } ∷ [] else o))
stays-by hand n edit true more o rest all others his =
    All-push IsLeaders (take (n - 1) rest) nobodys (All-take IsLeaders (n - 1) rest others)
    (λ is. absurd (true≢false (sym is)))
stays-by hand n edit false true o rest all others his =
    All-push IsLeaders o (record { hand = hand; edit = edit }) all his
stays-by hand n edit false false o rest all others his = all

stays : (hand : ℕ) (c : Command) (n : ℕ) (o : List Owner) → AreLeaders o
    → (is_edit_command c ≡ true → hand ≡ LEADER) → AreLeaders (owned hand c n o)
unfolding owned
stays hand c n o all his =
    stays-by hand n (is_edit_command c) (ends_in_hush c) (nat_lt (length o) n) o
    (left_owners c o) all (left c o all) his

pub leader_stays_free : LeaderStaysFree
leader_stays_free o c n all = (
  stays LEADER c n o all (λ is. refl),
  stays NOBODY command.Frame n o all (λ is. absurd (true≢false (sym is))),
)
