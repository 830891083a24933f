use Rattle.run_tests.proofs.players.a_send_that_is_refused_memory_ends_the_run.Given as goal

abbrev pub ghosts-try_run : goal.ghosts-try_run
ghosts-try_run g a = record { name = a.blank.name; parts = a.blank.parts }
