use Rattle.cell_tests.proofs.cells.a_step_is_above_the_entry_that_it_reads.Given as goal

abbrev pub ghosts-read_format : goal.ghosts-read_format
ghosts-read_format g a = record { clock = a.clock.now.id }
