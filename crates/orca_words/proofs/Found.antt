-- What a parse found, by the words of the definitions.
use Rattle.std.proofs.Common.{◌≡◌}
use Rattle.clap.specs.Words.{Text, first_value, found_of}
use Rattle.clap.specs.declared.parser.matches.ArgMatches.{ArgMatches}
use Rattle.clap.proofs.WalkLemmas.{first_value-rows}
use Rattle.orca_words.specs.Requests.{option_text}
use Rattle.orca_words.specs.RequestIn.{rows_in}

pub text_found : (found : ArgMatches) (name : Text)
    → first_value (found_of found) name ≡ option_text (rows_in found) name
unfolding option_text rows_in
text_found found name = first_value-rows (found_of found) name
