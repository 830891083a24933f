use Rattle.orca_cases.proofs.runs.tell.Given as goal

abbrev pub ghosts-tell_run : goal.ghosts-tell_run
ghosts-tell_run a = record { name = a.blank.name; parts = a.blank.parts }
