use Rattle.std.proofs.Common.{◌<◌, ◌^◌, rules, refl, subst, sym}
use Rattle.fileset_lending.specs.domain_base.declared.place.Kind.{Kind}
use Rattle.fileset_lending.specs.Chosen.{CallsChange}
use Rattle.fileset_lending.specs.declared.chosen.Chosen.{Chosen}
use Rattle.fileset_lending.specs.set_standing.Directories.{said_of}
use Rattle.name_changes.proofs.Calls.{no_calls}
use Rattle.name_changes.proofs.Parents.{tags_of}
use Rattle.name_changes.proofs.saying.say_parent.Goals as goal

pub set_parent-requires : goal.set_parent-requires
set_parent-requires c = c.requires c.in-Directory.is

pub returns-in-File-clause-ok : goal.returns-in-File-clause-ok
returns-in-File-clause-ok c = subst (λ (of : Kind). CallsChange (said_of of c.args.tag c.args.parent) c.args.chosen.now c.args.chosen.now) (sym c.in-File.is) (no_calls c.args.chosen.now)

pub returns-in-Ok-clause-ok : goal.returns-in-Ok-clause-ok
returns-in-Ok-clause-ok c =
    let after : Chosen = record c.args.chosen.now { set = c.set_parent.new.self } in
    subst (λ (of : Kind). CallsChange (said_of of c.args.tag c.args.parent) c.args.chosen.now after) (sym c.in-Directory.is) (record { set = c.in-Ok.ensures.rest; rest = refl })

pub returns-in-Err-clause-err : goal.returns-in-Err-clause-err
returns-in-Err-clause-err c = record { set = c.in-Err.ensures.rest_err; rest = refl }

pub returns-in-Ok-clause-tags : goal.returns-in-Ok-clause-tags
returns-in-Ok-clause-tags c =
    let low : c.args.tag.seq < 2 ^ 16 = search rules in
    let low_parent : c.args.parent.seq < 2 ^ 16 = search rules in
    tags_of c.args.of c.args.tag c.args.parent low low_parent

pub returns-in-Err-clause-tags : goal.returns-in-Err-clause-tags
returns-in-Err-clause-tags c =
    let low : c.args.tag.seq < 2 ^ 16 = search rules in
    let low_parent : c.args.parent.seq < 2 ^ 16 = search rules in
    tags_of c.args.of c.args.tag c.args.parent low low_parent
