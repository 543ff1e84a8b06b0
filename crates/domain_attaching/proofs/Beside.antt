-- What is asked besides that a domain stands, with another anchor.
use Rattle.std.proofs.Common.{ℕ, List, inl, inr, sym, subst, ⊎_elim}
use Rattle.attached_domain.specs.domain_base.declared.place.Home.{Home}
use Rattle.attached_domain.specs.domain_base.declared.place.Tag.{Tag}
use Rattle.attached_domain.specs.metadata_cells.Chain.{PlacedCell}
use Rattle.attached_domain.specs.directory_pages.declared.row.Row.{Row}
use Rattle.attached_domain.specs.log_ring.Homes.{IsMember}
use Rattle.attached_domain.specs.fileset_model.Filesets.{FilesetMap}
use Rattle.attached_domain.specs.domain_layout.DirectoryRules.{HasWrongParent, IsDirectoryPage, IsRow, RowPlace}
use Rattle.attached_domain.specs.domain_layout.Reached.{Frame}
use Rattle.attached_domain.specs.domain_standing.Domain.{DomainNow}
use Rattle.attached_domain.specs.domain_standing.Sources.{StandAlone}
use Rattle.attached_domain.specs.domain_standing.Standing.{HaveParents, IsMarkedBut, StandsDomain}
use Rattle.attached_domain.specs.standing_laws.Sound.{IsSound}
use Rattle.domain_attaching.specs.Same.{SameDomain, with_frame}
use Rattle.domain_attaching.proofs.Below.{below_to, domain_to, holds_from}
use Rattle.domain_attaching.proofs.Frames.{anew, member_from, on_from, within_from, within_to}

module _ (d : DomainNow) (number slot start group : ℕ) where
  abbrev e : DomainNow
  e = anew d number slot start group

  from : (vol : ℕ) → IsMember e.frame.anchor vol → IsMember d.frame.anchor vol
  from vol = member_from d.frame.anchor number slot start group vol

  alone_to : StandAlone d → StandAlone e
  alone_to none at has = none at (record { cell = has.cell; on = on_from d number slot start group at has.cell has.on; kind = has.kind; says = has.says })

  -- ---- parents

  page_from : (n : ℕ) (dir : Tag) (page : ℕ) (home : Home) (bytes : List ℕ) → IsDirectoryPage d.pages e.frame d.table n dir page home bytes → IsDirectoryPage d.pages d.frame d.table n dir page home bytes
  page_from n dir page home bytes is = record {
    cells = is.cells;
    seen = is.seen;
    has = is.has;
    kind = is.kind;
    at = is.at;
    within = within_from d number slot start group home is.within;
    there = is.there;
  }

  row_from : (n : ℕ) (at : RowPlace) (row : Row) (home : Home) → IsRow d.pages e.frame d.table n at row home → IsRow d.pages d.frame d.table n at row home
  row_from n at row home is = record { bytes = is.bytes; is = page_from n at.dir at.page home is.bytes is.is; good = is.good; there = is.there }

  parent_from : (n : ℕ) (tag : Tag) (cells : List PlacedCell) → HasWrongParent d.pages e.frame d.table n tag cells → HasWrongParent d.pages d.frame d.table n tag cells
  parent_from n tag cells wrong = record {
    parent = wrong.parent;
    is = ⊎_elim (λ root. inl root) (λ w. inr (w.0, w.1, w.2, row_from n w.0 w.1 w.2 w.3, w.4, w.5, w.6, w.7)) wrong.is;
    wrong = wrong.wrong;
  }

  parents_to : HaveParents d → HaveParents e
  parents_to have n tag cells seen has kind wrong = have n tag cells seen has kind (parent_from n tag cells wrong)

  -- ---- bits

  marked_to : IsMarkedBut d → IsMarkedBut e
  marked_to m = record {
    there = λ vol page member. m.there vol page (from vol member);
    bits = λ vol page member. m.bits vol page (from vol member);
    behind = λ vol page member. m.behind vol page (from vol member);
  }

  -- ---- soundness

  sound_to : IsSound d → IsSound e
  sound_to s = record {
    files = s.files;
    indexes = s.indexes;
    below = below_to d number slot start group s.files s.indexes s.below;
    sound = record {
      within = λ home holder no_volume no_log holds. within_to d number slot start group home (s.sound.within home holder no_volume no_log (holds_from d number slot start group s.files s.indexes holder home holds));
      laters = λ at cell on. s.sound.laters at cell (on_from d number slot start group at cell on);
      good = s.sound.good;
    };
  }

-- ---- of any other anchor

module _ (d : DomainNow) (frame : Frame) (same : SameDomain d.frame frame) where
  by : (P : DomainNow → Type 0) → P (anew d frame.anchor.number frame.anchor.slot frame.anchor.start frame.anchor.group) → P (with_frame frame d)
  by P is = subst (λ f. P (with_frame f d)) (sym same) is

  pub stands_with : (all : FilesetMap) → StandsDomain d all → StandsDomain (with_frame frame d) all
  stands_with all stands = by (λ n. StandsDomain n all) (domain_to d frame.anchor.number frame.anchor.slot frame.anchor.start frame.anchor.group all stands)

  pub alone_with : StandAlone d → StandAlone (with_frame frame d)
  alone_with alone = by StandAlone (alone_to d frame.anchor.number frame.anchor.slot frame.anchor.start frame.anchor.group alone)

  pub parents_with : HaveParents d → HaveParents (with_frame frame d)
  parents_with have = by HaveParents (parents_to d frame.anchor.number frame.anchor.slot frame.anchor.start frame.anchor.group have)

  pub marked_with : IsMarkedBut d → IsMarkedBut (with_frame frame d)
  marked_with marked = by IsMarkedBut (marked_to d frame.anchor.number frame.anchor.slot frame.anchor.start frame.anchor.group marked)

  pub sound_with : IsSound d → IsSound (with_frame frame d)
  sound_with sound = by IsSound (sound_to d frame.anchor.number frame.anchor.slot frame.anchor.start frame.anchor.group sound)
