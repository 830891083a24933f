use Rattle.orca.proofs.main.Given as goal

-- the ledger of the steps is the new one
abbrev pub ghosts-start : goal.ghosts-start
ghosts-start a = record { name = a.blank.name; parts = a.blank.parts }
