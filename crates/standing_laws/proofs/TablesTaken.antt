-- Which pages come to be of tables of cells and of the tag directory: such as could be taken, and so were held for nothing.
use Rattle.std.proofs.Common.{◌≡◌, ◌∙◌, ◌⊎◌, inl, inr, ℕ, zero, suc, ◌≤◌, Bool, true, false, cond, nat_eq, List, [], ◌∷◌, ◌++◌, length, Option, Some, None, IsSomeAnd, Contains, refl, sym, ap, subst, arith, ⊎_elim}
use Rattle.std.proofs.lemmas.Bool.{cases_Bool, eqb-true}
use Rattle.std.proofs.lemmas.List.Elements.{Contains-push_cases}
use Rattle.domain_standing.specs.domain_base.declared.place.Home.{Home}
use Rattle.domain_standing.specs.domain_base.declared.place.Tag.{Tag}
use Rattle.domain_standing.specs.domain_base.declared.version.Version.{Version}
use Rattle.domain_standing.specs.page_store.Pages.{Pages}
use Rattle.domain_standing.specs.log_ring.Homes.{IsMember}
use Rattle.domain_standing.specs.tag_dirs.declared.dir.TagPlace.{TagPlace}
use Rattle.domain_standing.specs.tag_dirs.Directory.{has_home}
use Rattle.domain_standing.specs.free_cells.Cells.{Cells, is_closed, table_of}
use Rattle.domain_standing.specs.free_space.Spaces.{CanTake, Spaces, change_volume, volume_of}
use Rattle.domain_standing.specs.free_space.VolumeSpace.{IsFreePage, VolumeSpace, with_page}
use Rattle.domain_standing.specs.file_chains.MapChanges.{TakesOne}
use Rattle.domain_standing.proofs.OfFileChains.Spaces.{can_before}
use Rattle.domain_standing.specs.fileset_files.Files.{Chains}
use Rattle.domain_standing.specs.release_list.Standing.{Files}
use Rattle.domain_standing.specs.release_steps.Calls.{Call, FilesetNow, Gives, Makes, cut, described, dropped, given, indexed, made, moved, put_in, refused}
use Rattle.domain_standing.proofs.OfReleaseSteps.MakeWell.{one_home_more}
use Rattle.domain_standing.proofs.OfReleaseSteps.OtherPages.{call_pages}
use Rattle.domain_standing.proofs.OfDomainLayout.Reached.{member_or_none}
use Rattle.domain_standing.specs.Chains.{IndexesAt}
use Rattle.domain_standing.specs.Domain.{DomainNow}
use Rattle.domain_standing.specs.Holders.{AreHeldAt, Holder, Holds, HoldsOwned, IsUnheld}
use Rattle.domain_standing.specs.Holders.Holder.{of_cells, of_tags}
use Rattle.standing_laws.specs.Leads.{LeadsOn, MayCall, StandsBelow, fileset_now}

-- ---- one page more, that could be taken

pub record HasOneMore (space : Spaces) (vol : ℕ) (old new : List ℕ) : Type 0 where
  pub page : ℕ
  pub free : CanTake space vol page
  pub joins : new ≡ old ++ page ∷ []

abbrev pub IsGrown : Spaces → ℕ → List ℕ → List ℕ → Type 0
IsGrown space vol old new = (new ≡ old) ⊎ HasOneMore space vol old new

pub record HasTagPageMore (space : Spaces) (old new : List TagPlace) : Type 0 where
  pub place : TagPlace
  pub low : 1 ≤ place.home.vol
  pub free : CanTake space place.home.vol place.home.page
  pub joins : new ≡ old ++ place ∷ []

abbrev pub IsGrownDirectory : Spaces → List TagPlace → List TagPlace → Type 0
IsGrownDirectory space old new = (new ≡ old) ⊎ HasTagPageMore space old new

module _ (prefer : ℕ) (space space_now : Spaces) (cells cells_now : Cells) (old : Pages) (one : TakesOne prefer space space_now cells cells_now old) where
  pub one_grown : (vol : ℕ) → IsGrown space vol (table_of cells vol) (table_of cells_now vol)
  one_grown vol = ⊎_elim
      (λ had. inl (one.takes.taken.tables vol ∙ ap (λ (c : Cells). table_of c vol) had.same_cells))
      (λ none. by_volume none.home none.adds.free (nat_eq vol none.home.vol) refl (one.takes.taken.tables vol ∙ none.adds.joins.tables vol))
      one.takes.before
    where
      by_volume : (home : Home) → CanTake space home.vol home.page → (b : Bool) → nat_eq vol home.vol ≡ b → table_of cells_now vol ≡ cond b (table_of cells vol ++ home.page ∷ []) (table_of cells vol) → IsGrown space vol (table_of cells vol) (table_of cells_now vol)
      by_volume home free true same is = inr (record { page = home.page; free = subst (λ v. CanTake space v home.page) (sym (eqb-true vol home.vol same)) free; joins = is })
      by_volume home free false other is = inl is

  pub one_marks : (vol : ℕ) → is_closed cells_now vol ≡ is_closed cells vol
  one_marks vol = one.takes.taken.marks vol ∙ ⊎_elim
      (λ had. ap (λ (c : Cells). is_closed c vol) had.same_cells)
      (λ none. none.adds.joins.marks vol)
      one.takes.before

grown_before : (space : Spaces) (taken : Home) (vol : ℕ) (old new : List ℕ) → IsGrown (change_volume (with_page taken.page) space taken.vol) vol old new → IsGrown space vol old new
grown_before space taken vol old new grown = ⊎_elim
    (λ same. inl same)
    (λ more. inr (record { page = more.page; free = can_before space taken.vol taken.page vol more.page more.free; joins = more.joins }))
    grown

-- ---- over a call

pub record TablesGoOn (old new : FilesetNow) : Type 0 where
  pub tables : (vol : ℕ) → IsGrown old.domain.space vol (table_of old.domain.cells vol) (table_of new.domain.cells vol)
  pub marks : (vol : ℕ) → is_closed new.domain.cells vol ≡ is_closed old.domain.cells vol
  pub places : IsGrownDirectory old.domain.space old.places new.places

module _ (number : ℕ) (version : Version) (tag : Tag) (old new : FilesetNow) where
  same_go_on : new.domain.cells ≡ old.domain.cells → new.places ≡ old.places → TablesGoOn old new
  same_go_on cells places = record {
    tables = λ vol. inl (ap (λ (c : Cells). table_of c vol) cells);
    marks = λ vol. ap (λ (c : Cells). is_closed c vol) cells;
    places = inl places;
  }

  given_go_on : Gives number version tag old new → TablesGoOn old new
  given_go_on s = ⊎_elim
      (λ same. same_go_on same.1 s.puts.places)
      (λ one. record {
        tables = λ vol. grown_before old.domain.space s.home vol _ _ (one_grown s.prefer _ new.domain.space old.domain.cells new.domain.cells old.domain.pages one.1 vol);
        marks = one_marks s.prefer _ new.domain.space old.domain.cells new.domain.cells old.domain.pages one.1;
        places = inl s.puts.places;
      })
      s.taken.taken

  made_go_on : Makes number version tag old new → TablesGoOn old new
  made_go_on s = ⊎_elim
      (λ cell. record {
        tables = one_grown s.prefer old.domain.space new.domain.space old.domain.cells new.domain.cells old.domain.pages cell.cell;
        marks = one_marks s.prefer old.domain.space new.domain.space old.domain.cells new.domain.cells old.domain.pages cell.cell;
        places = inl cell.same;
      })
      (λ page. record {
        tables = λ vol. grown_before old.domain.space page.home vol _ _ (one_grown s.prefer _ new.domain.space old.domain.cells new.domain.cells old.domain.pages page.cell vol);
        marks = one_marks s.prefer _ new.domain.space old.domain.cells new.domain.cells old.domain.pages page.cell;
        places = inr (record { place = record { index = page.index; home = page.home }; low = page.low; free = page.free; joins = page.joins });
      })
      s.taken

  pub tables_go_on : (so_far : ℕ) (call : Call number version tag old new) → MayCall so_far number version tag old new call → TablesGoOn old new
  tables_go_on so_far (refused s) may = same_go_on s.cells s.places
  tables_go_on so_far (given s) may = given_go_on s
  tables_go_on so_far (moved s) may = absurd may
  tables_go_on so_far (described value s) may = same_go_on s.cells s.places
  tables_go_on so_far (put_in parent s) may = same_go_on s.cells s.places
  tables_go_on so_far (indexed index s) may = absurd may
  tables_go_on so_far (cut size lowered s) may = same_go_on s.cells s.places
  tables_go_on so_far (dropped s) may = same_go_on s.cells s.places
  tables_go_on so_far (made s) may = made_go_on s

-- ---- what could be taken is held for nothing

module _ (d : DomainNow) (files : Files) (indexes : IndexesAt) (owned : HoldsOwned d files indexes) (home : Home) (low : 1 ≤ home.vol) (can : CanTake d.space home.vol home.page) where
  pub member_taken : IsMember d.frame.anchor home.vol
  member_taken = by_volume (volume_of d.space home.vol) (owned.spaces home.vol low) can
    where
      by_volume : (o : Option VolumeSpace) → AreHeldAt d files indexes home.vol o → IsSomeAnd o (λ v. (v.is_open ≡ true) × IsFreePage v home.page) → IsMember d.frame.anchor home.vol
      by_volume None at free = absurd free
      by_volume (Some space) at free = at.0

  pub unheld_taken : IsUnheld d files indexes home
  unheld_taken = by_volume (volume_of d.space home.vol) (owned.spaces home.vol low) can
    where
      by_volume : (o : Option VolumeSpace) → AreHeldAt d files indexes home.vol o → IsSomeAnd o (λ v. (v.is_open ≡ true) × IsFreePage v home.page) → IsUnheld d files indexes home
      by_volume None at free = absurd free
      by_volume (Some space) at free = ((at.1.free home.page free.1.within).0 free.1.unused).0

-- a table with a page is of a volume from 1 on
pub low_table : (cells : Cells) (vol p : ℕ) → Contains (table_of cells vol) p → 1 ≤ vol
low_table cells zero p on = omega (arith, on.1)
low_table cells (suc vol) p on = omega arith

module _ (number : ℕ) (tag : Tag) (d now : DomainNow) (chains chains_now : Chains) (files files_now : Files) (indexes : IndexesAt) (below : StandsBelow d files indexes) (s : LeadsOn number tag d now chains chains_now files files_now) where
  pub go_on : TablesGoOn (fileset_now d number chains files) (fileset_now now number chains_now files_now)
  go_on = tables_go_on number d.frame.version tag _ _ d.table.made s.call s.may

  -- what is held for something else comes to be no page of cells or of the slot's tag directory
  module _ (holder : Holder) (home : Home) (held : Holds d files indexes holder home) (no_cells : ¬ holder ≡ of_cells) (no_tags : ¬ holder ≡ of_tags number) where
    not_free : 1 ≤ home.vol → ¬ CanTake d.space home.vol home.page
    not_free low can = unheld_taken d files indexes below.owned home low can holder held

    not_of_table : ¬ Contains (table_of d.cells home.vol) home.page
    not_of_table on = ⊎_elim
        (λ member. no_cells (below.owned.once home holder of_cells held (member, on)))
        (λ none. let e : length (table_of d.cells home.vol) ≡ 0 = ap length (below.tables.cells.others home.vol none) in omega (arith, e, on.1))
        (member_or_none d.frame.anchor home.vol)

    pub off_tables : ¬ Contains (table_of now.cells home.vol) home.page
    off_tables on = ⊎_elim
        (λ same. not_of_table (subst (λ (t : List ℕ). Contains t home.page) same on))
        (λ more. ⊎_elim
        not_of_table
        (λ is. not_free (low_table now.cells home.vol home.page on) (subst (CanTake d.space home.vol) is more.free))
        (Contains-push_cases (table_of d.cells home.vol) more.page home.page (subst (λ (t : List ℕ). Contains t home.page) more.joins on)))
        (go_on.tables home.vol)

    pub off_tags : has_home (now.tags number) home ≡ false
    off_tags = ⊎_elim
        (λ has. absurd (has_none has))
        (λ none. none)
        (cases_Bool (has_home (now.tags number) home))
      where
        not_of_tags : ¬ has_home (d.tags number) home ≡ true
        not_of_tags has = no_tags (below.owned.once home holder (of_tags number) held has)

        has_none : ¬ has_home (now.tags number) home ≡ true
        has_none has = ⊎_elim
            (λ same. not_of_tags (ap (λ (ps : List TagPlace). has_home ps home) (sym same) ∙ has))
            (λ more. ⊎_elim
            not_of_tags
            (λ is. not_free (subst (λ (h : Home). 1 ≤ h.vol) (sym is) more.low) (subst (λ (h : Home). CanTake d.space h.vol h.page) (sym is) more.free))
            (one_home_more (d.tags number) more.place home (ap (λ (ps : List TagPlace). has_home ps home) (sym more.joins) ∙ has)))
            go_on.places

    -- so it stays
    pub page_stays : now.pages home ≡ d.pages home
    page_stays = call_pages number d.frame.version tag (fileset_now d number chains files) (fileset_now now number chains_now files_now) s.well.together home off_tables off_tags s.call
