use Rattle.std.proofs.Common.{◌≡◌, map, take}
use Rattle.filesets_filled.specs.Parts.{directory_seen}
use Rattle.filesets_filled.proofs.PartsRead.{AreNodesUpTo}
use Rattle.filesets_filled.proofs.parts.read_parts.Given as goal

abbrev pub invariant-loop-file : goal.invariant-loop-file
invariant-loop-file g l = (l.directories.items ≡ map (directory_seen (g.M.MetaPages.pages l.pages)) (take l.file-index l.files))
    × AreNodesUpTo (g.M.MetaPages.pages l.pages) l.files l.file-index l.nodes.items
