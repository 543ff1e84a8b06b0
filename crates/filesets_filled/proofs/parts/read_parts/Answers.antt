use Rattle.std.proofs.Common.{◌≡◌, ◌∙◌, ◌+◌, ◌++◌, [], ◌∷◌, Some, map, slice_get, take, subst, sym, ap}
use Rattle.std.proofs.lemmas.List.{take_more}
use Rattle.std.proofs.lemmas.Option.{slice_get-get_or}
use Rattle.fileset_shapes.proofs.OfFilesetsReading.Ways.{map_pushed}
use Rattle.fileset_shapes.specs.declared.found.TaggedFile.{TaggedFile}
use Rattle.filesets_filled.specs.Parts.{directory_seen}
use Rattle.filesets_filled.proofs.PartsRead.{AreNodesUpTo, nodes_more}
use Rattle.filesets_filled.proofs.parts.read_parts.Goals as goal

pub loop-file-preserved : goal.loop-file-preserved
loop-file-preserved g c =
    let pages = g.M.MetaPages.pages c.args.pages.now in
    let files = c.args.files.now in
    let at = c.loop-file.file-index in
    let file = c.file-item.result in
    let there : slice_get files at ≡ Some file = slice_get-get_or files at file c.loop-file-test.true ∙ ap Some (sym c.file-item.is) in
    let front : take (at + 1) files ≡ take at files ++ file ∷ [] = take_more files at file c.loop-file-test.true ∙ ap (λ (f : TaggedFile). take at files ++ f ∷ []) (sym c.file-item.is) in (
      c.in_ok-push.ensures.items ∙ (λ i. c.loop-file.invariant.0 i ++ c.in_ok-read_directory.ensures i ∷ [])
          ∙ sym (map_pushed (directory_seen pages) (take at files) file) ∙ ap (map (directory_seen pages)) (sym front),
      subst (AreNodesUpTo pages files (at + 1)) (sym c.in_ok-push-2.ensures.items)
          (nodes_more pages files at c.loop-file.nodes.items c.loop-file.invariant.1 file there c.in_ok-read_tagged.field-0 c.in_ok-read_tagged.ensures),
    )
