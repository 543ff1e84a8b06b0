use Rattle.std.proofs.Common.{Some, refl, subst, sym, arith}
use Rattle.file_chains.specs.domain_base.declared.place.CellAt.{CellAt}
use Rattle.file_chains.specs.metadata_cells.Chain.{LeavesOthers, StandsAt, is_at}
use Rattle.fileset_files.specs.Files.{IsLiveCell}
use Rattle.fileset_files.proofs.RemoveFile.{files_mid, first_beside, no_live, room, the_first}
use Rattle.fileset_files.proofs.SetFirst.{map_ok}
use Rattle.fileset_files.specs.Stripes.{says_stripe, stripe_record}
use Rattle.fileset_files.proofs.FirstTogether.{stripe_keeps, runs_kept, together_first}
use Rattle.fileset_files.proofs.bitfiles.Bitfiles.set_stripe.Goals as goal

pub put_stripe-requires : goal.put_stripe-requires
put_stripe-requires g c =
    let pages = g.M.MetaPages.pages c.args.pages.now in
    let chains = c.requires.files.0 in
    let are = c.requires.files.1 in
    room pages c.args.self.now.fileset c.args.self.now.tags c.args.tag chains c.in-Some.at are (subst (IsLiveCell pages (chains c.args.tag)) c.in-Some.is (c.live_cell.ensures chains are))

pub returns-in-Some-clause-ok : goal.returns-in-Some-clause-ok
returns-in-Some-clause-ok g c = λ chains are.
    let pages = g.M.MetaPages.pages c.args.pages.now in
    let fileset = c.args.self.now.fileset in
    let places = c.args.self.now.tags in
    let live = subst (IsLiveCell pages (chains c.args.tag)) c.in-Some.is (c.live_cell.ensures chains are) in
    let of = the_first pages fileset places c.args.tag chains c.in-Some.at are live in
    map_ok
    (λ stands. files_mid pages fileset places c.args.tag chains c.in-Some.at are live 11 (Some (stripe_record c.args.stripe)) refl refl refl (λ is. omega (arith, is))
    (g.M.MetaPages.pages c.put_stripe.new.pages) stands c.put_stripe.ensures.others c.put_stripe.ensures.elsewhere)
    c.put_stripe.result (c.put_stripe.ensures.ok of.first.cell (subst (λ (a : CellAt). StandsAt pages a of.first.cell) of.is_at of.file.links.stands))

pub returns-in-Some-clause-beside : goal.returns-in-Some-clause-beside
returns-in-Some-clause-beside g c = λ chains are.
    let pages = g.M.MetaPages.pages c.args.pages.now in
    let live = subst (IsLiveCell pages (chains c.args.tag)) c.in-Some.is (c.live_cell.ensures chains are) in
    first_beside pages c.args.self.now.fileset c.args.self.now.tags c.args.tag chains c.in-Some.at are live (g.M.MetaPages.pages c.put_stripe.new.pages) c.put_stripe.ensures.others c.put_stripe.ensures.elsewhere

pub returns-in-None-clause-ok : goal.returns-in-None-clause-ok
returns-in-None-clause-ok g c = λ chains are.
    let pages = g.M.MetaPages.pages c.args.pages.now in
    absurd (no_live pages c.args.tag chains (c.requires.live chains are) (subst (IsLiveCell pages (chains c.args.tag)) c.in-None.is (c.live_cell.ensures chains are)))

pub returns-in-Some-clause-together : goal.returns-in-Some-clause-together
returns-in-Some-clause-together g c = λ space cells chains are.
    let pages = g.M.MetaPages.pages c.args.pages.now in
    let new = g.M.MetaPages.pages c.put_stripe.new.pages in
    let live = subst (IsLiveCell pages (chains c.args.tag)) c.in-Some.is (c.live_cell.ensures chains are.files) in
    let of = the_first pages c.args.self.now.fileset c.args.self.now.tags c.args.tag chains c.in-Some.at are.files live in
    map_ok
    (λ files. together_first pages new c.args.self.now.fileset c.args.self.now.tags c.args.tag chains space cells (says_stripe c.args.stripe) are files of.first of.rest of.is of.file.links.stands
    (subst (λ (a : CellAt). LeavesOthers (is_at a) pages new) (sym of.is_at) c.put_stripe.ensures.others) c.put_stripe.ensures.well_formed c.put_stripe.ensures.headers
    (runs_kept (says_stripe c.args.stripe) of.first of.rest (stripe_keeps pages of.first of.rest of.file c.args.stripe)))
    c.put_stripe.result (returns-in-Some-clause-ok g c chains are.files)

pub returns-in-None-clause-together : goal.returns-in-None-clause-together
returns-in-None-clause-together g c = λ space cells chains are.
    let pages = g.M.MetaPages.pages c.args.pages.now in
    absurd (no_live pages c.args.tag chains (c.requires.live chains are.files) (subst (IsLiveCell pages (chains c.args.tag)) c.in-None.is (c.live_cell.ensures chains are.files)))
