-- An image whose pages agree with some in which nothing is for which a domain is not attached is attachable.
use Rattle.std.proofs.Common.{◌≡◌, ◌∙◌, ℕ, List, [], Contains, inl, inr, refl, sym, ap, subst, arith}
use Rattle.attached_domain.specs.domain_base.Version.{number_of}
use Rattle.attached_domain.specs.domain_base.declared.version.Version.{Version}
use Rattle.attached_domain.specs.page_store.Pages.{Pages}
use Rattle.attached_domain.specs.volume_disk.Image.{Image}
use Rattle.attached_domain.specs.disk_label.declared.anchor.Anchor.{Anchor}
use Rattle.attached_domain.proofs.OfDiskLabel.Bodies.{number_of-same}
use Rattle.attached_domain.specs.log_ring.Groups.{Group, HasLog, redone}
use Rattle.attached_domain.specs.log_recovery.Outcome.{HasGoodAnchor}
use Rattle.attached_domain.specs.log_recovery.declared.redone.Redone.{Redone}
use Rattle.attached_domain.proofs.OfLogRecovery.OneOutcome.{has_one_log}
use Rattle.attached_domain.specs.fileset_model.Filesets.{FilesetMap}
use Rattle.attached_domain.specs.fileset_table.Table.{Table}
use Rattle.attached_domain.specs.domain_layout.Faults.{FaultRow, HasNoFault, HasNoTablesFault, IsFault, SaysTable}
use Rattle.attached_domain.specs.domain_layout.Layout.{IsLayout, Layout}
use Rattle.attached_domain.specs.domain_layout.Owners.{frame_of}
use Rattle.attached_domain.specs.domain_layout.Read.{Means}
use Rattle.attached_domain.specs.domain_layout.Reached.{Frame}
use Rattle.attached_domain.proofs.OfDomainLayout.NoTables.{none_of_tables}
use Rattle.attached_domain.specs.Causes.{HasCause as HasUnfitCause, IsCause}
use Rattle.attached_domain.specs.declared.unfit.Unfit.{Unfit}
use Rattle.attached_domain.proofs.OfFilesetShapes.Held.{says_table}
use Rattle.attached_domain.proofs.NoCause.{ReadsFit, no_cause}
use Rattle.domain_bringing.specs.Fault.{BeginsAt, IsNoDomain}
use Rattle.attached_domain.specs.filesets_reading.Faulty.{HasFaults}
use Rattle.attached_domain.specs.domain_layout.Looks.{AgreeWhereRulesLook}
use Rattle.domain_bringing.proofs.Looks.{looked_too}
use Rattle.domain_bringing.proofs.Means.{agree_by}
use Rattle.attached_domain.proofs.OfDomainLayout.SameFaults.{sides}
use Rattle.domain_attaching.specs.Attaching.{IsAttachable, IsUnfitDomain}
use Rattle.domain_attaching.proofs.AtClose.{found_of, recovered_none}
use Rattle.domain_attaching.specs.Settling.{HasNoGroups, IsRecovered}
use Rattle.domain_attaching.proofs.Rested.{had_none}

-- nothing is in pages for which a domain is not attached, by the table that they say
abbrev pub FitsSo : Pages → Frame → Type 0
FitsSo pages frame = (table : Table) → SaysTable pages frame table → ReadsFit pages frame table

-- ---- pages

no_cause_there : (one other : Pages) (layout : Layout) → IsLayout one layout → HasNoTablesFault one (frame_of layout) → AgreeWhereRulesLook one other (frame_of layout) → FitsSo other (frame_of layout)
    → (why : Unfit) → ¬ IsCause one layout why
no_cause_there one other layout laid none agree fits =
    let s = sides one other layout agree none laid in
    no_cause one other layout laid none s.ahead.cells s.ahead.tags (fits layout.table (says_table other layout s.behind.laid))

no_unfit_cause : (one other : Pages) (frame : Frame) → HasNoFault one frame → AgreeWhereRulesLook one other frame → FitsSo other frame → (why : Unfit) → ¬ HasUnfitCause one frame why
no_unfit_cause one other frame none agree fits why has =
    no_cause_there one other has.layout has.laid
    (subst (HasNoTablesFault one) (sym has.framed) (none_of_tables one frame none))
    (subst (AgreeWhereRulesLook one other) (sym has.framed) agree)
    (subst (FitsSo other) (sym has.framed) fits) why has.cause

-- ---- an image

module _ (sizes : List ℕ) (image : Image) (anchor : Anchor) (version : Version) (is : anchor.version ≡ number_of version) (good : HasGoodAnchor sizes image anchor) (log : HasLog sizes anchor [] image) where
  abbrev frame : Frame
  frame = record { anchor = anchor; version = version }

  -- it has one log
  abbrev OneLog : Anchor → List Group → Type 0
  OneLog other groups = (other ≡ anchor) × (groups ≡ [])

  one_log : (other : Anchor) (groups : List Group) → HasLog sizes other groups image → OneLog other groups
  one_log other groups has = has_one_log sizes image other groups [] (found_of anchor) has (recovered_none sizes image anchor good log)

  frame_is : (other : Anchor) (at : Version) → other ≡ anchor → other.version ≡ number_of at → record { anchor = other; version = at } ≡ frame
  frame_is other at same says =
      let one : at ≡ version = number_of-same at version (sym says ∙ ap (λ (a : Anchor). a.version) same ∙ is) in
      (λ i. record { anchor = same i; version = one i })

  -- pages that were brought agree with those with which the image's agree
  module _ (pages : Pages) (agree : AgreeWhereRulesLook (redone [] image) pages frame) (fits : FitsSo pages frame) where
    pub no_unfit : (why : Unfit) → ¬ IsUnfitDomain sizes image why
    no_unfit why u = no_unfit_cause u.domain.pages pages u.domain.frame u.domain.whole.has.no_fault agree_there (subst (FitsSo pages) (sym same) fits) why u.unfit
      where
        one : OneLog u.domain.frame.anchor u.domain.same.groups
        one = one_log u.domain.frame.anchor u.domain.same.groups (subst (λ (a : Anchor). HasLog sizes a u.domain.same.groups image) (sym u.domain.anchor) u.domain.same.recovered.log)

        same : u.domain.frame ≡ frame
        same = frame_is u.domain.frame.anchor u.domain.frame.version one.0 u.domain.whole.good.named.0

        ahead : AgreeWhereRulesLook u.domain.pages (redone [] image) u.domain.frame
        ahead = subst (λ (g : List Group). AgreeWhereRulesLook u.domain.pages (redone g image) u.domain.frame) one.1 (agree_by u.domain.pages u.domain.frame u.domain.same.groups image u.domain.whole.has.looked u.domain.same.same)

        along : (layout : Layout) → frame_of layout ≡ u.domain.frame → IsLayout u.domain.pages layout → AgreeWhereRulesLook u.domain.pages pages (frame_of layout)
        along layout to laid home looks =
            let before = subst (AgreeWhereRulesLook u.domain.pages (redone [] image)) (sym to) ahead in
            let behind = subst (AgreeWhereRulesLook (redone [] image) pages) (sym (to ∙ same)) agree in
            let s = sides u.domain.pages (redone [] image) layout before (subst (HasNoTablesFault u.domain.pages) (sym to) (none_of_tables u.domain.pages u.domain.frame u.domain.whole.has.no_fault)) laid in
            before home looks ∙ behind home (looked_too u.domain.pages (redone [] image) layout s home looks)

        agree_there : AgreeWhereRulesLook u.domain.pages pages u.domain.frame
        agree_there =
            let out = u.domain.whole.has.laid_out in
            subst (AgreeWhereRulesLook u.domain.pages pages) out.is (along out.layout out.is out.laid)

  -- ---- what it means

  fault_not : (all : FilesetMap) → Means sizes image all → (other : Anchor) (groups : List Group) (at : Version) → HasLog sizes other groups image → other.version ≡ number_of at
      → (row : FaultRow) → ¬ IsFault (redone groups image) (record { anchor = other; version = at }) row
  fault_not all means other groups at has says row fault =
      let one = one_log other groups has in
      let mean = one_log means.anchor means.groups means.log in
      let there : HasNoFault (redone [] image) frame =
      subst (λ (g : List Group). HasNoFault (redone g image) frame) mean.1
      (subst (HasNoFault (redone means.groups image)) (frame_is means.anchor means.version mean.0 means.is_version) means.no_fault) in
      there row
      (subst (λ (g : List Group). IsFault (redone g image) frame row) one.1
      (subst (λ (f : Frame). IsFault (redone groups image) f row) (frame_is other at one.0 says) fault))

  rows_not : (all : FilesetMap) → Means sizes image all → (vol at : ℕ) (rows : List FaultRow) → HasFaults sizes image rows → BeginsAt rows vol at → ⊥
  rows_not all means vol at rows has (first, more, begins, _, _) =
      fault_not all means has.anchor has.groups has.version has.log has.is_version first
      ((has.faults.each first).0 (subst (λ (r : List FaultRow). Contains r first) (sym begins) (0, omega arith, refl)))

  not_no_domain : (all : FilesetMap) → Means sizes image all → (vol at : ℕ) → ¬ IsNoDomain sizes image vol at
  not_no_domain all means vol at (inl first) = means.no_first vol at first
  not_no_domain all means vol at (inr (rows, has, begins)) = rows_not all means vol at rows has begins

  rests : (found : Redone) → IsRecovered sizes image found → HasNoGroups found × (found.anchor ≡ anchor)
  rests found is = (had_none sizes image anchor found log is, (one_log found.anchor is.0 is.1.log).0)

  pub attachable : (all : FilesetMap) → Means sizes image all → (pages : Pages) → AgreeWhereRulesLook (redone [] image) pages frame → FitsSo pages frame → IsAttachable sizes image anchor all
  attachable all means pages agree fits = record { means = means; is_domain = not_no_domain all means; fits = no_unfit pages agree fits; rests = rests }
