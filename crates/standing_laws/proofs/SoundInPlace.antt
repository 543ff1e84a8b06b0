-- A domain is as rules ask beside where no cell changes and no page of an index.
use Rattle.std.proofs.Common.{◌≡◌, ◌∙◌, ◌⊎◌, ◌||◌, inl, inr, ℕ, Bool, true, false, List, [], ◌∷◌, Some, refl, sym, ap, subst, ⊎_elim}
use Rattle.std.proofs.lemmas.Bool.{true≢false}
use Rattle.domain_standing.specs.domain_base.declared.place.CellAt.{CellAt}
use Rattle.domain_standing.specs.domain_base.declared.place.Home.{Home}
use Rattle.domain_standing.specs.page_store.Pages.{same_home}
use Rattle.domain_standing.proofs.OfMetadataCells.Changed.{homes_same}
use Rattle.domain_standing.specs.tag_dirs.Directory.{has_home}
use Rattle.domain_standing.specs.tag_dirs.declared.dir.TagPlace.{TagPlace}
use Rattle.domain_standing.specs.free_cells.Cells.{Cells, is_closed, is_free, kept_of, table_of}
use Rattle.domain_standing.specs.free_cells.Cells as tables
use Rattle.domain_standing.specs.free_space.Spaces.{Spaces}
use Rattle.domain_standing.specs.fileset_model.declared.fileset.Limits.{Limits}
use Rattle.domain_standing.specs.fileset_table.declared.slot.FilesetEntry.{FilesetEntry}
use Rattle.domain_standing.specs.release_list.Listing.{Listing}
use Rattle.domain_standing.specs.release_list.Standing.{Files}
use Rattle.domain_standing.specs.domain_layout.Reached.{IsWithin}
use Rattle.domain_standing.proofs.OfDomainLayout.Reached.{same_number}
use Rattle.domain_standing.specs.Chains.{IndexesAt}
use Rattle.domain_standing.specs.Domain.{DomainNow}
use Rattle.domain_standing.specs.Holders.{Holder, Holds}
use Rattle.domain_standing.specs.Holders.Holder.{of_cells, of_index, of_table}
use Rattle.standing_laws.specs.BoundedFileset.{BoundsFileset}
use Rattle.standing_laws.specs.GoingFileset.{BeginsToGo}
use Rattle.standing_laws.specs.Leads.{StandsBelow}
use Rattle.standing_laws.specs.NewFileset.{JoinsEmpty}
use Rattle.standing_laws.specs.OtherPages.{KeepsPlaces, KeepsWhere}
use Rattle.standing_laws.proofs.TablesTaken.{unheld_taken}
use Rattle.standing_laws.specs.Sound.{StandsSound, StandsSoundBut}
use Rattle.standing_laws.proofs.SoundKept.{but_kept, can_within, sound_kept}
use Rattle.standing_laws.proofs.SoundParted.{NoFile, sound_but, sound_none}

pub but_elsewhere : (d now : DomainNow) (files : Files) (indexes : IndexesAt) (apart : CellAt → Type 0) → StandsSoundBut apart d files indexes → KeepsPlaces d now → KeepsWhere d now files indexes → StandsSoundBut apart now files indexes
but_elsewhere d now files indexes apart sound same keeps =
    but_kept d now files indexes apart sound (ap (λ (x : DomainNow). x.frame) same) (λ vol. ap (λ (x : DomainNow). table_of x.cells vol) same)
    (λ n home has. inl (subst (λ (x : DomainNow). has_home (x.tags n) home ≡ true) same has))
    (λ home held. keeps home of_cells held (λ e. cc) (λ e. cc) (λ at page e. cc))
    (λ at k home held. keeps home (of_index at k) held (λ e. cc) (λ e. cc) (λ a page e. cc))

pub sound_elsewhere : (d now : DomainNow) (files : Files) (indexes : IndexesAt) → StandsSound d files indexes → KeepsPlaces d now → KeepsWhere d now files indexes → StandsSound now files indexes
sound_elsewhere d now files indexes sound same keeps = sound_none now files indexes (but_elsewhere d now files indexes NoFile (sound_but d files indexes NoFile sound) same keeps)

-- the table's page alone changes
module _ (d now : DomainNow) (files : Files) (indexes : IndexesAt) (below : StandsBelow d files indexes) (sound : StandsSound d files indexes)
    (others : (home : Home) → ¬ d.frame.anchor.table ≡ Some home → now.pages home ≡ d.pages home) (same : now ≡ record d { table = now.table; pages = now.pages; contents = now.contents })
  where
    pub sound_table : StandsSound now files indexes
    sound_table = sound_kept d now files indexes sound (ap (λ (x : DomainNow). x.frame) same) (λ vol. ap (λ (x : DomainNow). table_of x.cells vol) same)
        (λ n home has. inl (subst (λ (x : DomainNow). has_home (x.tags n) home ≡ true) same has))
        (λ home held. others home (λ table. no_cells (below.owned.once home of_table of_cells table held)))
        (λ at k home held. others home (λ table. no_index at k (below.owned.once home of_table (of_index at k) table held)))
      where
        no_cells : ¬ of_table ≡ of_cells
        no_cells e = cc

        no_index : (at : CellAt) (k : ℕ) → ¬ of_table ≡ of_index at k
        no_index at k e = cc

pub sound_going : (number : ℕ) (entry : FilesetEntry) (d now : DomainNow) (files : Files) (indexes : IndexesAt) → StandsBelow d files indexes → StandsSound d files indexes → BeginsToGo number entry d now
    → StandsSound now files indexes
sound_going number entry d now files indexes below sound goes = sound_table d now files indexes below sound goes.others goes.same

pub sound_bounded : (number : ℕ) (entry : FilesetEntry) (limits : Limits) (d now : DomainNow) (files : Files) (indexes : IndexesAt) → StandsBelow d files indexes → StandsSound d files indexes
    → BoundsFileset number entry limits d now → StandsSound now files indexes
sound_bounded number entry limits d now files indexes below sound bounds = sound_table d now files indexes below sound bounds.others bounds.same

-- what is kept is not asked
pub sound_memory : (d : DomainNow) (files : Files) (indexes : IndexesAt) (space : Spaces) (cells : Cells) → StandsSound d files indexes
    → tables.Holds (table_of d.cells) (is_closed d.cells) (is_free d.cells) (kept_of cells) cells → StandsSound (record d { space = space; cells = cells }) files indexes
sound_memory d files indexes space cells sound holds =
    sound_kept d (record d { space = space; cells = cells }) files indexes sound refl holds.tables (λ n home has. inl has) (λ home held. refl) (λ at k home held. refl)

-- nor is the list
pub sound_listed : (d : DomainNow) (files : Files) (indexes : IndexesAt) (listed : Listing) → StandsSound d files indexes → StandsSound (record d { list = listed }) files indexes
sound_listed d files indexes listed sound =
    sound_kept d (record d { list = listed }) files indexes sound refl (λ vol. refl) (λ n home has. inl has) (λ home held. refl) (λ at k home held. refl)

-- an original joins with one page of its own
module _ (number : ℕ) (entry : FilesetEntry) (d now : DomainNow) (files : Files) (indexes : IndexesAt) (below : StandsBelow d files indexes) (sound : StandsSound d files indexes) (joins : JoinsEmpty number entry d now) where
  new_within : IsWithin d.frame entry.first_tag
  new_within = can_within d files indexes below.owned entry.first_tag (joins.low, joins.free)

  stays : (home : Home) (holder : Holder) → Holds d files indexes holder home → ¬ of_table ≡ holder → now.pages home ≡ d.pages home
  stays home holder held no_table =
      joins.others home (λ table. no_table (below.owned.once home of_table holder table held))
      (λ same. unheld_taken d files indexes below.owned entry.first_tag joins.low joins.free holder (subst (Holds d files indexes holder) same held))

  one_page : (p : TagPlace) (home : Home) → has_home (p ∷ []) home ≡ true → home ≡ p.home
  one_page p home has = by_test (same_home home p.home) refl has
    where
      by_test : (b : Bool) → same_home home p.home ≡ b → (b || false) ≡ true → home ≡ p.home
      by_test true same is = homes_same home p.home same
      by_test false other is = absurd (true≢false (sym is))

  tags : (n : ℕ) (home : Home) → has_home (now.tags n) home ≡ true → (has_home (d.tags n) home ≡ true) ⊎ IsWithin d.frame home
  tags n home has = ⊎_elim own other (same_number n number)
    where
      own : n ≡ number → (has_home (d.tags n) home ≡ true) ⊎ IsWithin d.frame home
      own same =
          let here : has_home (now.tags number) home ≡ true = subst (λ (m : ℕ). has_home (now.tags m) home ≡ true) same has in
          let is : home ≡ entry.first_tag = one_page (record { index = 0; home = entry.first_tag }) home (ap (λ (ps : List TagPlace). has_home ps home) (sym joins.tags) ∙ here) in
          inr (subst (IsWithin d.frame) (sym is) new_within)

      other : ¬ n ≡ number → (has_home (d.tags n) home ≡ true) ⊎ IsWithin d.frame home
      other apart = inl (ap (λ (ps : List TagPlace). has_home ps home) (sym (joins.other_tags n apart)) ∙ has)

  pub sound_begun : StandsSound now files indexes
  sound_begun = sound_kept d now files indexes sound joins.frame (λ vol. ap (λ (c : Cells). table_of c vol) joins.cells) tags
      (λ home held. stays home of_cells held (λ e. cc)) (λ at k home held. stays home (of_index at k) held (λ e. cc))
