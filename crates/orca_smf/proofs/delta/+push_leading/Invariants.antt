use Rattle.orca_smf.proofs.delta.+push_leading.Given as goal

-- each byte takes one place
abbrev pub decreases-push_leading : goal.decreases-push_leading
decreases-push_leading l = l.places
