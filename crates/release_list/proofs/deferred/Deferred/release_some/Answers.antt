use Rattle.std.proofs.Common.{◌≡◌, IfErr, subst}
use Rattle.file_release.specs.page_store.declared.fault.StoreFault.TheVariants.{NoPage}
use Rattle.release_list.specs.Cursors.{Deferral}
use Rattle.release_list.specs.Standing.{Files}
use Rattle.release_list.specs.Steps.{IsWell, LacksRoom, now_of}
use Rattle.release_list.proofs.deferred.Deferred.release_some.Goals as goal

pub returns-clause-full : goal.returns-clause-full
returns-clause-full g c =
    subst (λ (d : Deferral). (files : Files) → IsWell (now_of d.list files c.args.space.now c.args.cells.now (g.M.MetaPages.pages c.args.pages.now)) → IfErr c.release_some.result (λ fault. fault ≡ NoPage → LacksRoom d.list files)) c.self.view_is
    c.release_some.ensures.full
