use Rattle.std.proofs.Common.{◌≡◌, drop}
use Rattle.directory_pages.specs.Entries.{hash_from, hash_of}
use Rattle.directory_pages.proofs.entry.name_hash.Given as goal

abbrev pub invariant-loop-byte : goal.invariant-loop-byte
invariant-loop-byte l = hash_of l.name ≡ hash_from l.hash (drop l.byte-index l.name)
