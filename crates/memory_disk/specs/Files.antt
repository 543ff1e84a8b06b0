-- What a rack of files stands for: it counts calls and faults, and tells nothing of what the files
-- hold.
use Rattle.std.specs.Prelude.{ℕ, false, List}
use Rattle.volume_disk.specs.domain_base.Counts.{raised}
use Rattle.volume_disk.specs.Disk.{Disk, Moment}
use Rattle.memory_disk.specs.Counts.{count_of}
use Rattle.memory_disk.specs.declared.rack.FileRack.{FileRack}

-- what is not told
abbrev pub untold : Moment
untold = record { contents = λ _ _. 0; unsynced = λ _ _. false }

-- what a rack of files stands for: it tells only its clock, its sizes and its counts of faults
abbrev pub file_disk : FileRack → Disk
file_disk rack = record {
  calls = rack.calls;
  sizes = rack.sizes.items;
  read_faults = count_of rack.read_faults;
  write_faults = count_of rack.write_faults;
  fails = λ _. false;
  told = false;
  now = untold;
  kept = false;
  past = λ _. untold;
}

-- a rack on which no call was made yet
abbrev pub opened : List ℕ → Disk
opened sizes = record {
  calls = 0;
  sizes = sizes;
  read_faults = λ _. 0;
  write_faults = λ _. 0;
  fails = λ _. false;
  told = false;
  now = untold;
  kept = false;
  past = λ _. untold;
}

-- one call more was made
abbrev pub ticked : Disk → Disk
ticked disk = record disk { calls = raised disk.calls }
