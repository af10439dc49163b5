use Rattle.stamp_clock.proofs.tests.a_stamp_in_a_thread_is_above_what_another_brought.Given as goal

abbrev pub ghosts-hand_over : goal.ghosts-hand_over
ghosts-hand_over g a = record { clock = a.clock.now.id }
