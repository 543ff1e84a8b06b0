use Rattle.fileset_lending.proofs.OfNameSpace.Spots.{has_names as names_of}
use Rattle.name_changes.proofs.Calls.{has_names, names_were, ok_by}
use Rattle.name_changes.proofs.Looked.{live_there, target_leads, target_refused, target_shown}
use Rattle.name_changes.proofs.Same.{had_back}
use Rattle.fileset_lending.specs.Chosen.{files_in}
use Rattle.name_changes.proofs.looking.look_at.Goals as goal

pub target-led-requires : goal.target-led-requires
target-led-requires c =
    names_of (files_in c.choose-chosen.result) (has_names c.args.memory c.args.number c.args.settings c.choose-chosen.result c.choose-chosen.ensures c.requires.stands c.requires.back c.requires.original)

pub returns-clause-same : goal.returns-clause-same
returns-clause-same c = had_back c.args.memory c.back.result c.args.number c.args.settings c.choose-chosen.result c.choose-chosen.ensures c.back.ensures

pub returns-clause-ok : goal.returns-clause-ok
returns-clause-ok c = λ all entry fileset has.
    let was = names_were c.args.memory c.args.number c.args.settings c.choose-chosen.result c.choose-chosen.ensures c.requires.stands c.requires.back c.requires.original all entry fileset has in
    target_leads (files_in c.choose-chosen.result) fileset was c.args.path.now c.target-led.result (c.target-led.ensures fileset was.names)

pub returns-clause-err : goal.returns-clause-err
returns-clause-err c = λ all entry fileset has.
    let was = names_were c.args.memory c.args.number c.args.settings c.choose-chosen.result c.choose-chosen.ensures c.requires.stands c.requires.back c.requires.original all entry fileset has in
    target_refused (files_in c.choose-chosen.result) fileset was c.args.path.now c.target-led.result (c.target-led.ensures fileset was.names)

pub returns-clause-live : goal.returns-clause-live
returns-clause-live c =
    let some = has_names c.args.memory c.args.number c.args.settings c.choose-chosen.result c.choose-chosen.ensures c.requires.stands c.requires.back c.requires.original in
    ok_by _ _ c.target-led.result (target_shown (files_in c.choose-chosen.result) some.0 some.1 c.args.path.now c.target-led.result (c.target-led.ensures some.0 some.1.names)) (λ led shown.
    live_there c.args.memory c.args.number c.args.settings c.choose-chosen.result c.choose-chosen.ensures c.requires.back led.0 led.1 shown)
