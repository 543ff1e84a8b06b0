use Rattle.std.proofs.Common.{Result, IfErr, sym, subst}
use Rattle.std.proofs.lemmas.Result.{err_from_is_err_and}
use Rattle.attached_domain.specs.volume_disk.Disk.{Tells}
use Rattle.attached_domain.specs.staged_pages.Store.{before_of}
use Rattle.attached_domain.specs.page_ways.Frame.{frame_in}
use Rattle.domain_bringing.specs.Fault.{IsNoDomain}
use Rattle.domain_bringing.proofs.Means.{mean_same}
use Rattle.attached_domain.specs.declared.unfit.Unfit.{Unfit}
use Rattle.domain_attaching.specs.Attaching.{IfNotADomain, IfNotFit, IsUnfitDomain}
use Rattle.domain_attaching.specs.declared.bringing.BroughtMemory.{BroughtMemory}
use Rattle.domain_attaching.specs.declared.fault.AttachFault.{AttachFault}
use Rattle.domain_attaching.proofs.Converted.{no_domain_too, why_of_unfit}
use Rattle.domain_attaching.proofs.bringing.bring_memory.Goals as goal

pub returns-in_err-brought-clause-wrong : goal.returns-in_err-brought-clause-wrong
returns-in_err-brought-clause-wrong g c =
    let old = g.R.Rack.disk c.args.rack.now in
    let told = err_from_is_err_and c.from_residual.result c.from_residual.ensures.1 in
    subst (λ (r : Result BroughtMemory AttachFault). IfErr r (λ fault. IfNotADomain fault (λ vol at. Tells old → IsNoDomain old.sizes old.now.contents vol at))) (sym told.1)
    (subst (λ (fault : AttachFault). IfNotADomain fault (λ vol at. Tells old → IsNoDomain old.sizes old.now.contents vol at)) (sym told.2)
    (no_domain_too c.in_err-brought.field-0.0 (λ vol at. Tells old → IsNoDomain old.sizes old.now.contents vol at) c.in_err-brought.ensures.wrong))

pub memory_of-requires : goal.memory_of-requires
memory_of-requires g c = ((g.R.Rack.disk c.args.rack.now).sizes, c.in_ok-brought.ensures.brought)

pub returns-clause-memory : goal.returns-clause-memory
returns-clause-memory g c = c.in_ok-found.ensures.memory (g.R.Rack.disk c.args.rack.now).sizes c.in_ok-brought.ensures.brought

pub returns-clause-means : goal.returns-clause-means
returns-clause-means g c tells all means =
    let old = g.R.Rack.disk c.args.rack.now in
    let brought = c.in_ok-brought.brought in
    let is = c.in_ok-brought.ensures.brought in
    c.in_ok-found.ensures.stands all
    ((mean_same old.sizes old.now.contents (before_of brought.pages) brought.redone (frame_in brought.frame) is.whole.good is.whole.has is.anchor (c.in_ok-brought.ensures.same tells) all).0 means)

pub returns-in_err-found-clause-unfit : goal.returns-in_err-found-clause-unfit
returns-in_err-found-clause-unfit g c =
    let old = g.R.Rack.disk c.args.rack.now in
    let brought = c.in_ok-brought.brought in
    let is = c.in_ok-brought.ensures.brought in
    let told = err_from_is_err_and c.from_residual-in_err-found.result c.from_residual-in_err-found.ensures.1 in
    let P : Unfit → Type 0 = λ why. Tells old → IsUnfitDomain old.sizes old.now.contents why in
    subst (λ (r : Result BroughtMemory AttachFault). IfErr r (λ fault. IfNotFit fault P)) (sym told.1)
    (subst (λ (fault : AttachFault). IfNotFit fault P) (sym told.2)
    (why_of_unfit (before_of brought.pages) (frame_in brought.frame) c.in_err-found.field-0.0 P c.in_err-found.ensures.unfit (λ has tells. record {
      domain = record {
        pages = before_of brought.pages;
        frame = frame_in brought.frame;
        found = brought.redone;
        whole = is.whole;
        anchor = is.anchor;
        same = c.in_ok-brought.ensures.same tells;
      };
      unfit = has;
    })))
