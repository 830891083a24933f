use Rattle.orca_cases.proofs.scans.tell_plain.Given as goal

abbrev pub ghosts-scan : goal.ghosts-scan
ghosts-scan a = record { name = a.blank.name; parts = a.blank.parts }
