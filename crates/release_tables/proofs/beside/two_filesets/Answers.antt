use Rattle.std.proofs.Common.{◌∙◌, List, [], subst, sym}
use Rattle.release_steps.specs.page_store.Homes.{pages_of}
use Rattle.release_steps.specs.tag_dirs.declared.dir.TagPlace.{TagPlace}
use Rattle.release_steps.specs.Beside.{StandsBeside}
use Rattle.release_steps.specs.Calls.{StandsWell}
use Rattle.release_tables.specs.Called.{fileset_in}
use Rattle.release_tables.proofs.Besides.{no_chains, none_beside}
use Rattle.release_tables.proofs.Wells.{no_files}
use Rattle.release_tables.proofs.beside.two_filesets.Goals as goal

pub returns : goal.returns
returns c = λ list empty.
    let world = c.in_ok-pages.field-0 in
    let pages = pages_of world.pages.entries.items in
    let one = c.new-4.result.fileset in
    let two = c.new-6.result.fileset in
    let both = none_beside world.space world.cells pages c.in_ok-pages.ensures.empty.together.allocated one two list empty.0 empty.1 in
    let own = c.new-4.ensures.tags ∙ c.new-3.ensures in (
      no_files,
      no_chains,
      no_chains,
      record {
        stands = subst (λ (ps : List TagPlace). StandsWell one (fileset_in (record { places = ps; list = list; space = world.space; cells = world.cells; pages = pages }) no_files no_chains)) (sym own) both.0;
        beside = subst (λ (ps : List TagPlace). StandsBeside two ps no_chains (fileset_in (record { places = c.new-4.result.tags; list = list; space = world.space; cells = world.cells; pages = pages }) no_files no_chains)) (sym (c.new-6.ensures.tags ∙ c.new-5.ensures))
            (subst (λ (ps : List TagPlace). StandsBeside two [] no_chains (fileset_in (record { places = ps; list = list; space = world.space; cells = world.cells; pages = pages }) no_files no_chains)) (sym own) both.1);
        differ = λ same. c.if-number.false (c.number.ensures.value ∙ sym c.new-4.ensures.fileset ∙ sym same ∙ c.new-6.ensures.fileset ∙ sym c.number-2.ensures.value);
      },
    )
