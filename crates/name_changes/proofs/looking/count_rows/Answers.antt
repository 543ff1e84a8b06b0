use Rattle.fileset_lending.specs.domain_base.declared.place.Kind.TheVariants.{Directory}
use Rattle.fileset_lending.proofs.OfNameSpace.Originals.{all_shown}
use Rattle.fileset_lending.proofs.OfNameSpace.Spots.{has_names as names_of}
use Rattle.name_changes.proofs.Calls.{has_names, names_were}
use Rattle.name_changes.proofs.Looked.{led_here, shown_there}
use Rattle.name_changes.proofs.Same.{had_back}
use Rattle.fileset_lending.specs.Chosen.{files_in}
use Rattle.name_changes.proofs.looking.count_rows.Goals as goal

pub row_count-count-requires-clause-names : goal.row_count-count-requires-clause-names
row_count-count-requires-clause-names c =
    names_of (files_in c.choose-chosen.result) (has_names c.args.memory c.args.number c.args.settings c.choose-chosen.result c.choose-chosen.ensures c.requires.stands c.requires.back c.requires.original)

pub row_count-count-requires-clause-live : goal.row_count-count-requires-clause-live
row_count-count-requires-clause-live c =
    shown_there c.args.memory c.args.number c.args.settings c.choose-chosen.result c.choose-chosen.ensures c.requires.back c.args.tag Directory c.requires.live

pub returns-clause-same : goal.returns-clause-same
returns-clause-same c = had_back c.args.memory c.back.result c.args.number c.args.settings c.choose-chosen.result c.choose-chosen.ensures c.back.ensures

pub returns-clause-rows : goal.returns-clause-rows
returns-clause-rows c = λ all entry fileset path has at.
    let files = files_in c.choose-chosen.result in
    let was = names_were c.args.memory c.args.number c.args.settings c.choose-chosen.result c.choose-chosen.ensures c.requires.stands c.requires.back c.requires.original all entry fileset has in
    let shown = shown_there c.args.memory c.args.number c.args.settings c.choose-chosen.result c.choose-chosen.ensures c.requires.back c.args.tag Directory c.requires.live in
    c.row_count-count.ensures fileset was.names path (all_shown files fileset was.names was.role path) (led_here files fileset was path c.args.tag Directory shown at)
