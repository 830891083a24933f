-- What a parse by a form's command gives its caller.
use Rattle.std.proofs.Common.{◌≡◌, ◌∙◌, inl, inr, ap, sym, List, [], true}
use Rattle.std.specs.Prelude.{◌≢◌, ◌↔◌}
use Rattle.std.proofs.lemmas.Bool.{and_parts}
use Rattle.clap.specs.Words.{App, HasKind, HasMatchesOf, Kinds, Text, fault_of, is_simple, is_simple_and_free, kind_of, matches_of}
use Rattle.clap.specs.declared.error.Error.{Error}
use Rattle.clap.specs.declared.error.kind.ErrorKind.TheVariants.{OutOfMemory}
use Rattle.clap.specs.declared.parser.matches.ArgMatches.{ArgMatches}
use Rattle.orca_words.specs.Forms.{Form, command_of}
use Rattle.orca_words.specs.RequestIn.{rows_in}
use Rattle.orca_words.specs.declared.fault.WordsFault.{WordsFault}
use Rattle.orca_words.specs.declared.fault.WordsFault.TheVariants.{Memory, Usage}
use Rattle.orca_words.proofs.SimpleForms.{simple_and_free}

-- words that are parsed have no fault
pub accepted_by : (form : Form) (a : App) (words : List Text) → a ≡ command_of form
    → (is_simple_and_free a ≡ true → fault_of a words ≡ [])
    → fault_of (command_of form) words ≡ []
accepted_by form a words is none =
    ap (λ x. fault_of x words) (sym is) ∙ none (ap is_simple_and_free is ∙ simple_and_free form)

-- and what is found in them is what the command finds
pub found_by : (form : Form) (a : App) (words : List Text) (found : ArgMatches)
    → a ≡ command_of form → HasMatchesOf a words found
    → rows_in found ≡ matches_of (command_of form) words
unfolding rows_in
found_by form a words found is has =
    let simple : is_simple (command_of form) ≡ true = (and_parts _ _ (simple_and_free form)).0 in
    (has (ap is_simple is ∙ simple)).0 ∙ ap (λ x. matches_of x words) is

-- an error is a want of memory, or one of the faults of the words
fault_among : (kinds : Kinds) (e : Error) (fault : WordsFault) → HasKind kinds e
    → (fault ≡ Memory) ↔ (kind_of e ≡ OutOfMemory) → fault ≡ Usage → kinds ≢ []
fault_among kinds e fault (inl memory) tells usage none =
    let bad : Usage ≡ Memory = sym usage ∙ tells.1 memory in
    cc
fault_among kinds e fault (inr among) tells usage none = rw none at among

pub refused_by : (form : Form) (a : App) (words : List Text) (e : Error) (fault : WordsFault)
    → a ≡ command_of form → (is_simple_and_free a ≡ true → HasKind (fault_of a words) e)
    → (fault ≡ Memory) ↔ (kind_of e ≡ OutOfMemory) → fault ≡ Usage
    → fault_of (command_of form) words ≢ []
refused_by form a words e fault is has tells usage none =
    let kinds = has (ap is_simple_and_free is ∙ simple_and_free form) in
    fault_among (fault_of a words) e fault kinds tells usage (ap (λ x. fault_of x words) is ∙ none)
