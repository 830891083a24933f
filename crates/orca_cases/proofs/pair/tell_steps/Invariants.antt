use Rattle.orca_cases.proofs.pair.tell_steps.Given as goal

abbrev pub ghosts-work : goal.ghosts-work
ghosts-work a = record { name = a.blank.name; parts = a.blank.parts }
