use Rattle.std.proofs.Common.{◌∙◌, sym}
use Rattle.release_list.specs.Steps.{now_of}
use Rattle.release_list.proofs.QuotaCells.{first_stands_there, is_two, mid_belong, mid_used, next_on, next_stands, next_used, quota_ending, quota_went}
use Rattle.release_list.proofs.quotas.release_quotas.Goals as goal

pub lead_past-requires-clause-next : goal.lead_past-requires-clause-next
lead_past-requires-clause-next g c =
    let pages = g.M.MetaPages.pages c.args.pages.now in
    let w = c.requires.well in
    let two = is_two w.1 c.args.entry.now c.in-Some.next (now_of w.0 w.2 w.3 c.args.cells.now pages) w.4 (λ cell stands. sym c.in-Some.is ∙ c.next_cell.ensures.next cell stands) in
    next_used w.0 w.1 w.2 c.args.entry.now w.3 c.args.cells.now pages c.in-Some.next w.4 two

pub free_cell-requires-clause-belong : goal.free_cell-requires-clause-belong
free_cell-requires-clause-belong g c =
    let pages = g.M.MetaPages.pages c.args.pages.now in
    let w = c.requires.well in
    let two = is_two w.1 c.args.entry.now c.in-Some.next (now_of w.0 w.2 w.3 c.args.cells.now pages) w.4 (λ cell stands. sym c.in-Some.is ∙ c.next_cell.ensures.next cell stands) in
    let e = c.in_ok-lead_past-in-Some.ensures in
    mid_belong w.0 w.1 w.2 c.args.entry.now w.3 c.args.cells.now pages c.in-Some.next w.4 two (g.M.MetaPages.pages c.lead_past.new.pages) e.others e.well_formed e.headers

pub free_cell-requires-clause-used : goal.free_cell-requires-clause-used
free_cell-requires-clause-used g c =
    let pages = g.M.MetaPages.pages c.args.pages.now in
    let w = c.requires.well in
    let two = is_two w.1 c.args.entry.now c.in-Some.next (now_of w.0 w.2 w.3 c.args.cells.now pages) w.4 (λ cell stands. sym c.in-Some.is ∙ c.next_cell.ensures.next cell stands) in
    let e = c.in_ok-lead_past-in-Some.ensures in
    mid_used w.0 w.1 w.2 c.args.entry.now w.3 c.args.cells.now pages c.in-Some.next w.4 two (g.M.MetaPages.pages c.lead_past.new.pages) e.others e.well_formed e.headers

pub free_cell-requires-clause-table : goal.free_cell-requires-clause-table
free_cell-requires-clause-table g c =
    let pages = g.M.MetaPages.pages c.args.pages.now in
    let w = c.requires.well in
    let two = is_two w.1 c.args.entry.now c.in-Some.next (now_of w.0 w.2 w.3 c.args.cells.now pages) w.4 (λ cell stands. sym c.in-Some.is ∙ c.next_cell.ensures.next cell stands) in
    next_on w.0 w.1 w.2 c.args.entry.now w.3 c.args.cells.now pages c.in-Some.next w.4 two

pub returns-in_ok-lead_past-in-Some-clause-ok : goal.returns-in_ok-lead_past-in-Some-clause-ok
returns-in_ok-lead_past-in-Some-clause-ok g c = λ group version list front files space has.
    let entry = c.args.entry.now in
    let cells = c.args.cells.now in
    let old = g.M.MetaPages.pages c.args.pages.now in
    let next = c.in-Some.next in
    let two = is_two front entry next (now_of list files space cells old) has (λ cell stands. sym c.in-Some.is ∙ c.next_cell.ensures.next cell stands) in
    let e = c.in_ok-lead_past-in-Some.ensures in
    let f = c.free_cell.ensures in
    quota_went list front files entry space cells old next has two (g.M.MetaPages.pages c.lead_past.new.pages) e.others e.well_formed e.headers
    (e.ok two.first.cell two.second.cell (first_stands_there list front files entry space cells old next has two) (next_stands list front files entry space cells old next has two))
    e.elsewhere c.free_cell.new.self (g.M.MetaPages.pages c.free_cell.new.pages) f.value f.others f.belong f.well_formed f.headers f.elsewhere group version

pub end_whole-requires : goal.end_whole-requires
end_whole-requires g c =
    let w = c.requires.well in
    let now = now_of w.0 w.2 w.3 c.args.cells.now (g.M.MetaPages.pages c.args.pages.now) in
    record { well = (w.0, w.1, w.2, w.3, quota_ending w.1 c.args.entry.now now w.4 (λ cell stands. sym c.in-None.is ∙ c.next_cell.ensures.next cell stands)) }

pub returns-in-None-clause-ok : goal.returns-in-None-clause-ok
returns-in-None-clause-ok g c = λ group version list front files space has.
    let now = now_of list files space c.args.cells.now (g.M.MetaPages.pages c.args.pages.now) in
    c.end_whole.ensures.ok group version list front files space (quota_ending front c.args.entry.now now has (λ cell stands. sym c.in-None.is ∙ c.next_cell.ensures.next cell stands))
