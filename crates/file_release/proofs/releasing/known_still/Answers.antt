use Rattle.std.proofs.Common.{◌≡◌, ◌∙◌, ℕ, List, Option, IfSome, ap, subst}
use Rattle.fileset_files.specs.metadata_cells.Chain.{PlacedCell}
use Rattle.fileset_files.specs.extent_maps.declared.run.Run.{Run}
use Rattle.fileset_files.specs.extent_maps.Runs.{place_of}
use Rattle.fileset_files.specs.file_chains.Files.{places_of}
use Rattle.fileset_files.proofs.Given.{one_file}
use Rattle.file_release.proofs.Known.{known_on}
use Rattle.file_release.proofs.releasing.known_still.Goals as goal

pub returns-in-Some : goal.returns-in-Some
returns-in-Some c = λ old new own known was file same chain is page.
    subst (λ (o : Option (List Run)). IfSome o (λ map. (page : ℕ) → place_of map page ≡ places_of own page)) c.in-Some.is same page
    ∙ ap (λ (cs : List PlacedCell). places_of cs page) (one_file new c.args.reader.now.at own chain file is)

pub returns-in-None : goal.returns-in-None
returns-in-None c = λ old new own known was file same. known_on old new c.args.reader.now.at own c.args.known c.of_reader.result c.of_reader.ensures.known c.of_reader.ensures.reader known was file
