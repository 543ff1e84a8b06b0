use Rattle.std.proofs.Common.{◌∙◌, ap, subst, sym}
use Rattle.std.specs.Option.{option_and_then}
use Rattle.fileset_files.specs.Files.{IsLiveCell}
use Rattle.fileset_files.specs.Stripes.{stripe_in, stripe_of}
use Rattle.fileset_files.proofs.Live.{live_none, live_some}
use Rattle.fileset_files.proofs.bitfiles.Bitfiles.stripe.Goals as goal

pub returns-in_err-at : goal.returns-in_err-at
returns-in_err-at g c = λ chains are.
    let pages = g.M.MetaPages.pages c.args.pages.now in
    c.from_residual.ensures ∙ live_none stripe_of pages (chains c.args.tag) (subst (IsLiveCell pages (chains c.args.tag)) c.in_err-at.was (c.live_cell.ensures chains are))

pub returns-in_err-first_record : goal.returns-in_err-first_record
returns-in_err-first_record g c = λ chains are.
    let pages = g.M.MetaPages.pages c.args.pages.now in
    let live = live_some stripe_of pages (chains c.args.tag) c.in_ok-at.at (subst (IsLiveCell pages (chains c.args.tag)) c.in_ok-at.was (c.live_cell.ensures chains are)) in
    c.from_residual-in_err-first_record.ensures ∙ ap (option_and_then stripe_in) (sym c.in_err-first_record.was ∙ c.first_record.ensures live.cells live.is_file) ∙ sym live.has

pub returns : goal.returns
returns g c = λ chains are.
    let pages = g.M.MetaPages.pages c.args.pages.now in
    let live = live_some stripe_of pages (chains c.args.tag) c.in_ok-at.at (subst (IsLiveCell pages (chains c.args.tag)) c.in_ok-at.was (c.live_cell.ensures chains are)) in
    c.read_stripe.ensures ∙ ap (option_and_then stripe_in) (sym c.in_ok-first_record.was ∙ c.first_record.ensures live.cells live.is_file) ∙ sym live.has
