use Rattle.std.proofs.Common.{◌<◌, ◌^◌, None, rules, refl, subst, sym}
use Rattle.fileset_lending.specs.fileset_model.Apply.{rename_checks}
use Rattle.fileset_lending.specs.name_space.Changes.{Renames}
use Rattle.fileset_lending.specs.name_space.declared.fault.NameFault.{NameFault}
use Rattle.fileset_lending.specs.Chosen.{files_in}
use Rattle.fileset_lending.specs.declared.chosen.Chosen.{Chosen}
use Rattle.name_changes.specs.Stages.{IsRefused}
use Rattle.name_changes.proofs.Calls.{calls_joined, is_refused}
use Rattle.name_changes.proofs.Parents.{moved_directory}
use Rattle.name_changes.proofs.moving.move_in.Goals as goal

pub rename_at-requires-clause-names : goal.rename_at-requires-clause-names
rename_at-requires-clause-names c = c.requires.names

pub say_parent-requires : goal.say_parent-requires
say_parent-requires c = λ directory.
    let mid : Chosen = record c.args.chosen.now { set = c.rename_at.new.set } in
    let low : c.in-Ok.answer.moved.seq < 2 ^ 16 = search rules in
    moved_directory c.args.path.now c.args.to.now (files_in c.args.chosen.now) (files_in mid) c.in-Ok.answer c.requires.names c.in-Ok.ensures.ok directory low

pub returns-in-Ok-say_parent-clause-ok : goal.returns-in-Ok-say_parent-clause-ok
returns-in-Ok-say_parent-clause-ok c = λ slot original.
    subst (λ files. Renames c.args.path.now c.args.to.now slot (files_in c.args.chosen.now) files c.in-Ok.answer) (sym c.say_parent.ensures.files) (c.in-Ok.ensures.ok slot original)

pub returns-in-Ok-say_parent-clause-says : goal.returns-in-Ok-say_parent-clause-says
returns-in-Ok-say_parent-clause-says c =
    let mid : Chosen = record c.args.chosen.now { set = c.rename_at.new.set } in
    calls_joined c.args.chosen.now mid c.say_parent.new.chosen (record { set = c.rename_at.ensures.rest; rest = refl }) c.in-Ok-say_parent.ensures.ok

pub returns-in-Ok-say_parent-clause-tags : goal.returns-in-Ok-say_parent-clause-tags
returns-in-Ok-say_parent-clause-tags c = c.say_parent.ensures.tags

pub returns-in-Err-clause-err : goal.returns-in-Err-clause-err
returns-in-Err-clause-err c = λ slot original. is_refused (rename_checks c.args.path.now c.args.to.now) _ _ _ _ slot original c.in-Err.fault c.in-Err.ensures.err

pub returns-in-Err-clause-err_says : goal.returns-in-Err-clause-err_says
returns-in-Err-clause-err_says c = record { set = c.rename_at.ensures.rest; rest = refl }

pub returns-in-Err-say_parent-clause-err : goal.returns-in-Err-say_parent-clause-err
returns-in-Err-say_parent-clause-err c = λ slot original. subst (λ (fault : NameFault). IsRefused (rename_checks c.args.path.now c.args.to.now) slot fault) (sym c.in-Err-say_parent.ensures.fault) tt

pub returns-in-Err-say_parent-clause-err_says : goal.returns-in-Err-say_parent-clause-err_says
returns-in-Err-say_parent-clause-err_says c =
    let mid : Chosen = record c.args.chosen.now { set = c.rename_at.new.set } in
    calls_joined {said = None} c.args.chosen.now mid c.say_parent.new.chosen (record { set = c.rename_at.ensures.rest; rest = refl }) c.in-Err-say_parent.ensures.err
