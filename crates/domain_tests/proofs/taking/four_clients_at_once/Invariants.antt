use Rattle.domain_tests.proofs.taking.four_clients_at_once.Given as goal

abbrev pub ghosts-worked_by_four : goal.ghosts-worked_by_four
ghosts-worked_by_four g a = record { start = 7 }
