use Rattle.std.proofs.Common.{◌≢◌, true, IfErr, IfOk, subst, sym}
use Rattle.domain_changes.specs.domain_base.declared.place.Kind.{Kind}
use Rattle.domain_changes.specs.name_space.Changes.{rmdir_checks, taking_checks}
use Rattle.domain_changes.specs.name_space.declared.fault.NameFault.TheVariants.{NoPage}
use Rattle.name_changes.specs.Stages.{IsRefused, Removes}
use Rattle.name_commands.proofs.taking.take_path.Goals as goal

pub returns-in-File-clause-ok : goal.returns-in-File-clause-ok
returns-in-File-clause-ok c = λ all entry fileset has.
    subst (λ (k : Kind). IfOk c.unlink.result.1 (λ answer. Removes (taking_checks k c.args.path.now) c.args.path.now all entry fileset c.unlink.result.0 answer.tag answer.gone)) (sym c.in-File.is) (c.unlink.ensures.ok all entry fileset has)

pub returns-in-File-clause-err : goal.returns-in-File-clause-err
returns-in-File-clause-err c = λ all entry fileset has.
    subst (λ (k : Kind). IfErr c.unlink.result.1 (IsRefused (taking_checks k c.args.path.now) fileset)) (sym c.in-File.is) (c.unlink.ensures.err all entry fileset has)

pub returns-in-Ok-clause-ok : goal.returns-in-Ok-clause-ok
returns-in-Ok-clause-ok c = λ all entry fileset has.
    subst (λ (k : Kind). Removes (taking_checks k c.args.path.now) c.args.path.now all entry fileset c.remove_directory-memory.result.0 c.in-Ok.tag true) (sym c.in-Directory.is)
    (subst (λ r. IfOk r (λ answer. Removes (rmdir_checks c.args.path.now) c.args.path.now all entry fileset c.remove_directory-memory.result.0 answer true)) c.in-Ok.is (c.remove_directory-memory.ensures.ok all entry fileset has))

pub returns-in-Err-clause-err : goal.returns-in-Err-clause-err
returns-in-Err-clause-err c = λ all entry fileset has.
    subst (λ (k : Kind). IsRefused (taking_checks k c.args.path.now) fileset c.in-Err.fault) (sym c.in-Directory.is)
    (subst (λ r. IfErr r (IsRefused (rmdir_checks c.args.path.now) fileset)) c.in-Err.is (c.remove_directory-memory.ensures.err all entry fileset has))

pub returns-in-Err-clause-pages : goal.returns-in-Err-clause-pages
returns-in-Err-clause-pages c = subst (λ r. IfErr r (λ fault. fault ≢ NoPage)) c.in-Err.is c.remove_directory-memory.ensures.pages
