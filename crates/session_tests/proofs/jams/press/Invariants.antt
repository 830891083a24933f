use Rattle.session_tests.proofs.jams.press.Given as goal

abbrev pub ghosts-strike : goal.ghosts-strike
ghosts-strike g a = record { name = a.blank.name; parts = a.blank.parts }
