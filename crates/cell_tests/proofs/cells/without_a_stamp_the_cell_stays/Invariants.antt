use Rattle.cell_tests.proofs.cells.without_a_stamp_the_cell_stays.Given as goal

abbrev pub ghosts-read_format : goal.ghosts-read_format
ghosts-read_format g a = record { clock = a.clock.now.id }
