-- The pages of a domain that was just made mean the empty state.
use Rattle.std.proofs.Common.{inl, inr, ◌≡◌, ◌∙◌, ℕ, zero, suc, true, false, List, [], ◌∷◌, Some, None, min, slice_get, slice_index, refl, sym, ap, subst, arith, ⊎_elim}
use Rattle.std.specs.FinMap as map
use Rattle.std.specs.FinMap.{empty, get, nat_cmp-IsAntisymmetric}
use Rattle.std.specs.Ordering.{nat_cmp}
use Rattle.std.specs.Cmp.{nat_cmp_total}
use Rattle.no_faults.specs.domain_base.Version.{most_pages}
use Rattle.no_faults.specs.domain_base.declared.place.Home.{Home}
use Rattle.no_faults.specs.domain_base.declared.version.Version.{Version}
use Rattle.no_faults.specs.page_store.Pages.{Pages}
use Rattle.no_faults.proofs.OfFilesetValues.MapLemmas.{get-insert_same, got-insert}
use Rattle.no_faults.specs.fileset_table.Table.{IsNewTable, Table}
use Rattle.no_faults.specs.legal_histories.State.{Member, new_domain}
use Rattle.no_faults.specs.domain_layout.Layout.{IsLayout, Layout}
use Rattle.no_faults.specs.domain_layout.Owners.{BelongsTo, HasTagPage, Owner}
use Rattle.no_faults.specs.domain_layout.Read.{ReadsFrom}
use Rattle.no_faults.specs.domain_layout.Reached.{Frame}
use Rattle.no_faults.specs.domain_layout.NewDomain.{IsNew, IsNewCells, IsNewTablePage, firsts, on_first}
use Rattle.no_faults.proofs.OfDomainLayout.NewDomain.{reads_none}
use Rattle.no_faults.proofs.OfDomainLayout.NewPages.{no_extent, no_index}
use Rattle.no_faults.proofs.OfDomainLayout.NewTags.{has_none}
use Rattle.no_faults.proofs.OfDomainLayout.OnePage.{HasOne, one_of, some_same}
use Rattle.no_faults.proofs.OfDomainLayout.OneTable.{one_in, used_there}
use Rattle.no_faults.specs.domain_making.Making.{new_frame, pages_in_use}
use Rattle.no_faults.proofs.OfDomainMemory.NewLayout.{laid_with, layout_with}
use Rattle.no_faults.proofs.OfDomainMemory.NewMemory.{first_table}
use Rattle.domain_state.specs.Opening.{CountsOld, IsFixed, IsMemberAs, IsOldPage, IsStartOf}
use Rattle.domain_state.proofs.Decided.{one_home, stands_so}

-- ---- its one page of cells is all that is old

module _ (pages : Pages) (frame : Frame) (new : IsNew pages frame) (table : Table) (fresh : IsNewTable table) (laid : IsLayout pages (layout_with frame table (first_table frame))) where
  abbrev layout : Layout
  layout = layout_with frame table (first_table frame)

  abbrev cells : Home
  cells = on_first (firsts frame).cells

  one_page : HasOne (pages cells) (IsNewCells frame)
  one_page = one_of (pages cells) (IsNewCells frame) new.cells

  no_tags : (number : ℕ) (home : Home) → ¬ HasTagPage layout number home
  no_tags number home has = let e : false ≡ true = has.has in absurd (cc)

  -- what belongs to somebody, and is not fixed, is of cells
  owner_is : (home : Home) → ¬ IsFixed pages layout home → (owner : Owner) → BelongsTo pages layout owner home → home ≡ cells
  owner_is home beside Owner.of_volume is = absurd (beside (inl is))
  owner_is home beside Owner.of_log is = absurd (beside (inr (inl is)))
  owner_is home beside Owner.of_table is = absurd (beside (inr (inr is)))
  owner_is home beside Owner.of_cells is =
      let vol : home.vol ≡ 1 = new.anchor.alone home.vol is.0 in
      let number : home.page ≡ (firsts frame).cells = one_in (firsts frame).cells home.page is.1 in
      λ i. record { vol = vol i; page = number i }
  owner_is home beside (Owner.of_tags number) is = absurd (no_tags number home is)
  owner_is home beside (Owner.of_index at place) is =
      let page = one_page in
      absurd (no_index pages layout new.anchor page.value page.there page.is fresh laid at is.cell is.value
      (used_there pages layout new.anchor page.value page.there page.is.good page.is.indexed page.is.last (laid.cells 1 new.anchor.member) at is.cell is.on) is.there)
  owner_is home beside (Owner.of_file at number) is =
      let page = one_page in
      absurd (no_extent pages layout new.anchor page.value page.there page.is fresh laid at number home is)

  only_cells : (home : Home) → IsOldPage pages layout home → home ≡ cells
  only_cells home old = stands_so (one_home home cells) (λ apart. old.owned (λ owned. apart (owner_is home old.beside owned.0 owned.1)))

  -- its page of cells is neither before cells nor after them
  beside_cells : ¬ IsFixed pages layout cells
  beside_cells fixed =
      let log : frame.anchor.log_page ≡ (firsts frame).log = new.anchor.log in
      ⊎_elim (λ first. absurd (omega (arith, first.1)))
      (λ more. ⊎_elim (λ of_log. absurd (omega (arith, of_log.1, log)))
      (λ of_table.
      let same : on_first (firsts frame).table ≡ cells = some_same (on_first (firsts frame).table) cells (sym new.anchor.table ∙ of_table) in
      let page : (firsts frame).table ≡ (firsts frame).cells = ap (λ (h : Home). h.page) same in
      absurd (omega (arith, page))) more) fixed

  is_old : IsOldPage pages layout cells
  is_old = record {
    owned = λ none. none (Owner.of_cells, (new.anchor.member, (0, omega arith, refl)));
    beside = beside_cells;
    no_files = λ number tag cs seen has kind page at. has_none table fresh pages number tag cs seen has;
  }

  at_first : (k : ℕ) (home : Home) → slice_get (cells ∷ []) k ≡ Some home → k ≡ 0
  at_first zero home there = refl
  at_first (suc k) home there = let e : None ≡ Some home = there in absurd (cc)

  counts_one : CountsOld pages frame 1
  counts_one = record {
    layout = layout;
    same = refl;
    laid = laid;
    homes = cells ∷ [];
    each = λ home. (λ among. subst (IsOldPage pages layout) (sym (one_in cells home among)) is_old, λ old. (0, omega arith, sym (only_cells home old)));
    once = λ j k home at also. at_first j home at ∙ sym (at_first k home also);
    counted = refl;
  }

-- ---- and it is the empty state

module _ (version : Version) (sizes : List ℕ) (pages : Pages) (new : IsNew pages (new_frame version (pages_in_use version sizes))) where
  abbrev frame : Frame
  frame = new_frame version (pages_in_use version sizes)

  abbrev one : Member
  one = record { pages = min (slice_index sizes 0) (most_pages version); is_open = true }

  as_one : IsMemberAs frame.anchor 1 one
  as_one = record { there = new.anchor.member; pages = refl; opened = (λ _. refl, λ _. refl) }

  as_member : (vol : ℕ) (member : Member) → get (map.insert {R = nat_cmp} map.empty 1 one) vol ≡ Some member → IsMemberAs frame.anchor vol member
  as_member vol member at =
      ⊎_elim (λ here. subst (λ v. IsMemberAs frame.anchor v member) (sym here.0) (subst (IsMemberAs frame.anchor 1) (some_same one member (sym here.1)) as_one))
      (λ other. let e : None ≡ Some member = sym (map.get-empty nat_cmp vol) ∙ other.1 in absurd (cc))
      (got-insert nat_cmp_total nat_cmp-IsAntisymmetric map.empty 1 one vol (Some member) at)

  same_one : (member : Member) → IsMemberAs frame.anchor 1 member → one ≡ member
  same_one member is =
      let opened : member.is_open ≡ true = is.opened.1 refl in
      λ i. record { pages = sym is.pages i; is_open = sym opened i }

  there_one : (member : Member) → IsMemberAs frame.anchor 1 member → get (map.insert {R = nat_cmp} map.empty 1 one) 1 ≡ Some member
  there_one member is = get-insert_same nat_cmp_total nat_cmp-IsAntisymmetric map.empty 1 one ∙ ap Some (same_one member is)

  as_there : (vol : ℕ) (member : Member) → IsMemberAs frame.anchor vol member → get (map.insert {R = nat_cmp} map.empty 1 one) vol ≡ Some member
  as_there vol member is =
      let first : vol ≡ 1 = new.anchor.alone vol is.there in
      subst (λ v. get (map.insert {R = nat_cmp} map.empty 1 one) v ≡ Some member) (sym first)
      (there_one member (subst (λ v. IsMemberAs frame.anchor v member) first is))

  pub is_start : IsStartOf pages frame sizes (new_domain version sizes)
  is_start =
      let table = one_of (pages (on_first (firsts frame).table)) IsNewTablePage new.table in
      record {
        filesets = λ home at. subst (λ h. ReadsFrom pages h empty) (some_same (on_first (firsts frame).table) home (sym new.anchor.table ∙ at)) (reads_none pages frame new);
        rack = refl;
        volumes = record { members = λ vol member. (as_member vol member, as_there vol member); log_volume = refl; version = refl };
        version = refl;
        striped = refl;
        old_pages = counts_one pages frame new table.is.table table.is.fresh (laid_with pages frame new refl table.is.table table.is.fresh (first_table frame) refl);
      }
