-- Each slot of a domain that was read has for its quota cells a chain of its fileset.
use Rattle.std.proofs.Common.{◌≡◌, ◌∙◌, inr, ℕ, ◌+◌, List, [], ◌∷◌, Option, Some, None, IsSomeAnd, refl, sym, ap, subst, arith, ⊎_elim}
use Rattle.domain_memory.specs.domain_base.declared.place.CellAt.{CellAt}
use Rattle.domain_memory.specs.cell_records.Fields.{number_at}
use Rattle.domain_memory.specs.metadata_cells.Cell.{Cell, IsFileset}
use Rattle.domain_memory.specs.metadata_cells.Chain.{PlacedCell, records_of}
use Rattle.domain_memory.specs.metadata_cells.declared.head.CellKind.TheVariants as kinds
use Rattle.domain_memory.proofs.OfMetadataCells.Unique.{one_stands}
use Rattle.domain_memory.specs.file_chains.Files.{IsFile}
use Rattle.domain_memory.specs.release_list.Standing.{IsQuotas}
use Rattle.domain_memory.specs.quota_book.QuotaCells.{AreOnce, said_by}
use Rattle.domain_memory.specs.domain_layout.CellRules as rule
use Rattle.domain_memory.specs.domain_layout.CellRules.{Follows, IsChainHead, Link, next_in}
use Rattle.domain_memory.specs.domain_layout.Owners.{IsOnTable, frame_of}
use Rattle.domain_memory.proofs.OfDomainLayout.Named.{link_to}
use Rattle.domain_memory.proofs.OfDomainLayout.OnePage.{some_same}
use Rattle.domain_memory.proofs.OfFilesetsReading.TagPlaces.{equal_by, most_by}
use Rattle.domain_memory.specs.domain_standing.Chains.{AreQuotasOf, IsOfFileset, IsQuotaOf}
use Rattle.domain_memory.specs.domain_standing.Domain.{DomainNow, layout_of}
use Rattle.no_faults.specs.Attached.{IsFirstQuota, IsReadFrom}
use Rattle.no_faults.proofs.Begun.{begins_or_not, head_of}
use Rattle.no_faults.proofs.Domain.{BeginsAt, Chain, chain_at, chain_there, fault, files, quotas, small, tables}
use Rattle.no_faults.proofs.ListLimits.{limits_once}
use Rattle.no_faults.proofs.OnTables.{LinkOf, link_there, link_used}
use Rattle.no_faults.proofs.Standing.{is_as}

pub fileset_is : (n number : ℕ) (o : Option ℕ) → IsFileset n o → IsFileset n (Some number) → o ≡ Some number
fileset_is n number None is also = absurd (omega (arith, is, also.0))
fileset_is n number (Some f) is also = ap Some (omega (arith, is.0, also.0))

module _ (d : DomainNow) (is : IsReadFrom d) (number : ℕ) (at : CellAt) (named : IsQuotaOf d number at) where
  first_quota : ¬ ¬ IsFirstQuota d.pages (frame_of (layout_of d)) number at
  first_quota = quotas d is number at named

  -- a quota cell in use stands there
  record QuotaCell : Type 0 where
    cell : Cell
    on : IsOnTable d.pages (layout_of d) at cell
    kind : cell.head.kind ≡ kinds.Quota

  quota_cell : IsFirstQuota d.pages (frame_of (layout_of d)) number at → QuotaCell
  quota_cell f =
      let link : LinkOf d.pages (layout_of d) is.tables.laid (tables d is) at (record { kind = kinds.Quota; next = next_in f.is.bytes }) =
      link_used d.pages (layout_of d) is.tables.laid (tables d is) at (record { kind = kinds.Quota; next = next_in f.is.bytes })
      (record { place = f.is.place; bytes = f.is.bytes; there = f.is.there; kind = f.is.kind; next = refl }) in
      record { cell = link.cell; on = link.on; kind = ap (λ (l : Link). l.kind) link.same }

  begun : BeginsAt d is at
  begun =
      ⊎_elim (λ begun. begun)
      (λ nothing. absurd (first_quota (λ f. let q = quota_cell f in nothing (record { cell = q.cell; on = q.on; kind = inr (q.kind, (number, named)) }))))
      (begins_or_not d.pages (layout_of d) is.tables.laid (tables d is) (small d is) at)

  chain : List PlacedCell
  chain = (chain_there d is at begun).0

  there : files d is at ≡ Some chain
  unfolding chain
  there = (chain_there d is at begun).1

  c : Chain d is at chain
  c = chain_at d is at chain there

  first_on : IsOnTable d.pages (layout_of d) at c.first.cell
  first_on = subst (λ a. IsOnTable d.pages (layout_of d) a c.first.cell) c.at_is c.on_way.0.on

  not_primary : ¬ c.first.cell.head.kind ≡ kinds.Primary
  not_primary primary = first_quota (λ f.
      let q = quota_cell f in
      let same : c.first.cell ≡ q.cell = one_stands d.pages at c.first.cell q.cell first_on.stands q.on.stands in
      let e : kinds.Primary ≡ kinds.Quota = sym primary ∙ ap (λ (x : Cell). x.head.kind) same ∙ q.kind in
      absurd (cc))

  are_quotas : IsQuotas d.pages at chain
  are_quotas =
      ⊎_elim (λ file. absurd (not_primary (subst (IsFile d.pages at) c.all file.0).1.primary)) (λ quota. quota.0)
      (is_as d.pages (layout_of d) is.tables.laid (fault d is) (small d is) (quotas d is) at chain there).is

  kind : c.begun.cell.head.kind ≡ kinds.Quota
  kind = ⊎_elim (λ primary. absurd (not_primary (ap (λ (x : Cell). x.head.kind) c.cell_is ∙ primary))) (λ quota. quota.0) c.begun.kind

  -- ---- of which fileset they are

  says : IsFirstQuota d.pages (frame_of (layout_of d)) number at → IsFileset (number_at 1 14 first_on.stands.bytes) (Some number)
  says f =
      let bytes : f.is.bytes ≡ first_on.stands.bytes = some_same f.is.bytes first_on.stands.bytes (sym f.is.there ∙ first_on.stands.there) in
      subst (λ b. IsFileset (number_at 1 14 b) (Some number)) bytes f.is.fileset

  fileset : c.first.cell.head.fileset ≡ Some number
  fileset = fileset_is (number_at 1 14 first_on.stands.bytes) number c.first.cell.head.fileset first_on.stands.is.head.fileset (
    equal_by (number_at 1 14 first_on.stands.bytes) (number + 1) (λ other. first_quota (λ f. other (says f).0)),
    most_by (number_at 1 14 first_on.stands.bytes) 32 (λ other. first_quota (λ f. other (says f).1)),
  )

  -- ---- what they say

  head : ¬ ¬ IsChainHead d.pages (frame_of (layout_of d)) c.first.at (link_to c.begun.cell)
  head = head_of d.pages (layout_of d) is.tables.laid (tables d is) (small d is) (quotas d is) c.first.at c.begun

  follows : Follows d.pages (frame_of (layout_of d)) c.first.at [] c.first.at (link_to c.first.cell)
  follows = rule.begins (link_to c.first.cell) (link_there d.pages (layout_of d) is.tables.laid (tables d is) c.first.at c.first.cell c.on_way.0.on)

  once : AreOnce (said_by (records_of (c.first ∷ c.rest)))
  once = limits_once d.pages (layout_of d) is.tables.laid (tables d is) c.first.at (link_to c.begun.cell) head kind c.first (λ away. away follows) c.rest c.links.follow c.on_way

  are : AreQuotasOf d number at chain
  are = record {
    quotas = are_quotas;
    of = subst (IsOfFileset number) (sym c.all) fileset;
    once = subst (λ cs. AreOnce (said_by (records_of cs))) (sym c.all) once;
  }

  pub slot_quotas : IsSomeAnd (files d is at) (AreQuotasOf d number at)
  slot_quotas = subst (λ o. IsSomeAnd o (AreQuotasOf d number at)) (sym there) are
