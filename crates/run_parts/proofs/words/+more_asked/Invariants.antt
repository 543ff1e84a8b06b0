use Rattle.run_parts.proofs.words.+more_asked.Given as goal

-- how many more images there may be
abbrev pub decreases-more_asked : goal.decreases-more_asked
decreases-more_asked l = l.most
