use Rattle.std.proofs.Common.{◌∙◌, List, sym, ap, subst}
use Rattle.std.specs.Option.{option_and_then, option_map_or}
use Rattle.filesets_reading.specs.tag_dirs.declared.dir.TagPlace.{TagPlace}
use Rattle.filesets_reading.specs.extent_maps.declared.run.PagePlace.TheVariants.{Absent}
use Rattle.filesets_reading.specs.file_chains.Files.{places_of}
use Rattle.filesets_reading.specs.fileset_files.Files.{AreFiles, attributes_of, of_live}
use Rattle.filesets_reading.specs.declared.seen.SeenPages.{SeenPages}
use Rattle.fileset_shapes.proofs.OwnFiles.{chain_there, live_source, own_removed, own_there, stays}
use Rattle.fileset_shapes.proofs.own.read_own.Goals as goal

pub returns-in_default-clause-seen : goal.returns-in_default-clause-seen
returns-in_default-clause-seen g c = λ chains cells are there.
    let pages = g.M.MetaPages.pages c.args.pages.now in
    let fileset = c.args.clone.now.files.fileset in
    let again = subst (λ (ps : List TagPlace). AreFiles fileset ps pages chains) (sym c.requires.files.same) are in
    own_removed pages c.args.at.now cells (chain_there pages fileset c.args.clone.now.tags chains are c.args.tag c.args.at.now cells c.requires.leads there)
    (ap (option_and_then (of_live attributes_of)) (sym there) ∙ sym (c.attributes.ensures chains again) ∙ c.in_default.is)

pub read_source-requires : goal.read_source-requires
read_source-requires g c =
    let pages = g.M.MetaPages.pages c.args.pages.now in
    let fileset = c.args.clone.now.files.fileset in
    let chains = c.requires.files.has.0 in
    let are = c.requires.files.has.1 in
    let again = subst (λ (ps : List TagPlace). AreFiles fileset ps pages chains) (sym c.requires.files.same) are in
    live_source pages fileset c.args.clone.now.tags chains are c.args.tag c.args.at.now c.requires.leads c.source_at.result c.source_at.ensures
    (λ cells there. c.requires.source chains cells are there
    (stays cells c.in-Some.is' (ap (option_and_then (of_live attributes_of)) (sym there) ∙ sym (c.attributes.ensures chains again) ∙ c.in-Some.is)).0)

pub returns-clause-seen : goal.returns-clause-seen
returns-clause-seen g c = λ chains cells are there.
    let pages = g.M.MetaPages.pages c.args.pages.now in
    let fileset = c.args.clone.now.files.fileset in
    let again = subst (λ (ps : List TagPlace). AreFiles fileset ps pages chains) (sym c.requires.files.same) are in
    let file = chain_there pages fileset c.args.clone.now.tags chains are c.args.tag c.args.at.now cells c.requires.leads there in
    let found : SeenPages = record { is = c.in-Some.is'; homes = c.in_ok-homes.homes } in
    own_there pages cells found c.in_ok-own.own c.in_ok-source.source c.source_at.result c.frozen_at.result
    (ap (option_and_then (of_live attributes_of)) (sym there) ∙ sym (c.attributes.ensures chains again) ∙ c.in-Some.is)
    (λ page. c.in_ok-own.ensures chains again page ∙ ap (λ o. option_map_or (λ cells. places_of cells page) o Absent) there)
    (c.source_at.ensures cells file) (c.frozen_at.ensures cells file) c.in_ok-source.ensures c.in_ok-homes.ensures.homes
