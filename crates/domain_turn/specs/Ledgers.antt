-- Lists of entries that are numbered one after the other.
use Rattle.std.specs.Prelude.{ℕ, ◌+◌, ◌==◌, ◌&&◌, Bool, true, List, [], ◌∷◌}
use Rattle.fileset_values.specs.declared.entry.Entry.{Entry}

-- the stamps go up one by one from this number on
abbrev pub counts_from : ℕ → List Entry → Bool
counts_from number [] = true
counts_from number (entry ∷ entries) = (entry.stamp == number) && counts_from (number + 1) entries
