use Rattle.std.proofs.Common.{◌≡◌, ◌∙◌, true, slice_get, sym, subst}
use mathlib.Core.Bool.{false≢true}
use Rattle.no_faults.specs.page_ways.Frame.{frame_in}
use Rattle.no_faults.specs.fileset_table.Table.{Table}
use Rattle.no_faults.specs.domain_layout.CellRules.{of_clone}
use Rattle.no_faults.specs.domain_layout.Owners.{frame_of}
use Rattle.no_faults.specs.Attached.{HaveQuotasToGo}
use Rattle.attached_domain.specs.declared.signs.Sign.TheVariants.{Cut, Removed}
use Rattle.attached_domain.specs.declared.unfit.Unfit.TheVariants.{CutDirectory, ReadThrough, RemovedFile, WrongQuotas}
use Rattle.attached_domain.proofs.Fitting.{cause_at, layout_read, linked_at, no_clone_by, no_tables_fault, sign_read}
use Rattle.attached_domain.proofs.Looked.{good_table}
use Rattle.attached_domain.proofs.fits.look_at_all.Goals as goal

pub returns-then-branch-clause-cause : goal.returns-then-branch-clause-cause
returns-then-branch-clause-cause g c =
    let pages = g.M.MetaPages.pages c.args.pages.now in
    let frame = frame_in c.args.frame.now in
    let tables = c.args.tables.now in
    let domain = c.requires.domain in
    let layout = layout_read pages frame tables domain in
    let framed = domain.tables_are.is in
    cause_at pages frame tables domain ReadThrough
    ((c.in_ok-has_readers.ensures layout domain.tables_are.laid (no_tables_fault pages frame tables domain layout framed)
    (linked_at pages frame tables domain layout framed c.args.links.now c.requires.links)).0 c.if-branch.true)

pub returns-then-not-branch-clause-cause : goal.returns-then-not-branch-clause-cause
returns-then-not-branch-clause-cause g c =
    let pages = g.M.MetaPages.pages c.args.pages.now in
    let frame = frame_in c.args.frame.now in
    let tables = c.args.tables.now in
    let domain = c.requires.domain in
    let layout = layout_read pages frame tables domain in
    let framed = domain.tables_are.is in
    cause_at pages frame tables domain WrongQuotas
    (λ have. false≢true (sym c.if-not-branch.true ∙ (c.in_ok-has_quotas_to_go.ensures layout domain.tables_are.laid domain.tables_are.table (no_tables_fault pages frame tables domain layout framed)
    (linked_at pages frame tables domain layout framed c.args.links.now c.requires.links)).1 (subst (λ (t : Table). HaveQuotasToGo pages (frame_of layout) t) domain.tables_are.table have)))

pub returns-then-branch-2-clause-cause : goal.returns-then-branch-2-clause-cause
returns-then-branch-2-clause-cause g c =
    let pages = g.M.MetaPages.pages c.args.pages.now in
    let frame = frame_in c.args.frame.now in
    cause_at pages frame c.args.tables.now c.requires.domain RemovedFile (sign_read pages frame c.args.tables.now c.requires.domain Removed (c.in_ok-some_slot_says.ensures.0 c.if-branch-2.true))

pub returns-then-branch-3-clause-cause : goal.returns-then-branch-3-clause-cause
returns-then-branch-3-clause-cause g c =
    let pages = g.M.MetaPages.pages c.args.pages.now in
    let frame = frame_in c.args.frame.now in
    cause_at pages frame c.args.tables.now c.requires.domain CutDirectory (sign_read pages frame c.args.tables.now c.requires.domain Cut (c.in_ok-some_slot_says-2.ensures.0 c.if-branch-3.true))

pub returns-clause-fits : goal.returns-clause-fits
returns-clause-fits g c layout framed laid same =
    let pages = g.M.MetaPages.pages c.args.pages.now in
    let frame = frame_in c.args.frame.now in
    let tables = c.args.tables.now in
    let domain = c.requires.domain in
    let none = no_tables_fault pages frame tables domain layout framed in
    let linked = linked_at pages frame tables domain layout framed c.args.links.now c.requires.links in
    record {
      no_clone = no_clone_by layout.table (good_table pages layout laid)
          (λ found. false≢true (c.if-has_clone.ensures.1 (found.0, found.1, subst (λ (t : Table). of_clone (slice_get t.slots found.0) ≡ true) same found.2)));
      sources = λ at has. false≢true (sym c.if-branch.false ∙ (c.in_ok-has_readers.ensures layout laid none linked).1 (at, has));
      quotas = subst (λ (t : Table). HaveQuotasToGo pages (frame_of layout) t) (sym same) ((c.in_ok-has_quotas_to_go.ensures layout laid same none linked).0 c.if-not-branch.false);
      stay = λ says. false≢true (sym c.if-branch-2.false ∙ c.in_ok-some_slot_says.ensures.1 says);
      keep = λ says. false≢true (sym c.if-branch-3.false ∙ c.in_ok-some_slot_says-2.ensures.1 says);
    }
