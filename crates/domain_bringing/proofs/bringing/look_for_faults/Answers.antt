use Rattle.std.proofs.Common.{◌≡◌, ◌∙◌, [], ap, subst, sym}
use Rattle.std.proofs.lemmas.Result.{on_ok_weaker}
use Rattle.domain_faults.specs.page_ways.Frame.{frame_in}
use Rattle.domain_faults.specs.domain_layout.Faults.{AreFaults}
use Rattle.domain_faults.specs.Rows.{rows_there}
use Rattle.domain_faults.proofs.ToldFaults.{none_told}
use Rattle.domain_bringing.specs.Fault.{BeginsAt, HasFirstRow, IfNotADomain}
use Rattle.domain_bringing.proofs.Causes.{err_weaker, place_weaker}
use Rattle.domain_bringing.proofs.bringing.look_for_faults.Goals as goal

pub returns-clause-none : goal.returns-clause-none
returns-clause-none g c =
    let pages = g.M.MetaPages.pages c.args.pages.now in
    let frame = frame_in c.args.frame.now in
    on_ok_weaker c.look_at_rows.result
    (λ (empty : rows_there c.deref.result.now ≡ []). none_told pages frame
    (subst (AreFaults pages frame) (ap rows_there (sym c.deref.ensures.value) ∙ empty) (c.in_ok-rows.ensures.faults c.args.frame.now.version c.requires.0)))
    c.look_at_rows.ensures.none

pub returns-clause-first : goal.returns-clause-first
returns-clause-first g c =
    let pages = g.M.MetaPages.pages c.args.pages.now in
    let frame = frame_in c.args.frame.now in
    err_weaker c.look_at_rows.result (λ fault. IfNotADomain fault (BeginsAt (rows_there c.deref.result.now))) (λ fault. IfNotADomain fault (HasFirstRow pages frame))
    (λ fault. place_weaker (BeginsAt (rows_there c.deref.result.now)) (HasFirstRow pages frame)
    (λ vol at begins. record {
      rows = rows_there c.in_ok-rows.rows.items;
      faults = c.in_ok-rows.ensures.faults c.args.frame.now.version c.requires.0;
      first = subst (λ rows. BeginsAt (rows_there rows) vol at) c.deref.ensures.value begins;
    }) fault)
    c.look_at_rows.ensures.first
