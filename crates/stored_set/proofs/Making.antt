-- What a set is where a file is made, or none is.
use Rattle.std.proofs.Common.{◌≡◌, ◌≤◌, ℕ, List, [], ◌∷◌, ◌++◌, None, false, Result, Ok, Err, IfOk, IfErr, OnOk, OnErr, ⊎_elim, sym, subst}
use Rattle.std.proofs.lemmas.Bool.{or_cases, or_left, or_right, true≢false}
use Rattle.index_pages.specs.domain_base.declared.place.Home.{Home}
use Rattle.index_pages.specs.domain_base.declared.place.Tag.{Tag}
use Rattle.index_pages.specs.domain_base.declared.version.Version.{Version}
use Rattle.index_pages.specs.page_store.Bitfiles.{Bitfiles as SetOf, new_file as shown_new, with_file}
use Rattle.index_pages.specs.page_store.Pages.{Pages, same_home}
use Rattle.index_pages.specs.page_store.declared.fault.StoreFault.{StoreFault}
use Rattle.index_pages.specs.page_store.declared.fault.StoreFault.TheVariants.{NoPage, OutOfMemory}
use Rattle.index_pages.proofs.OfMetadataCells.Changed.{homes_same, same_itself}
use Rattle.index_pages.specs.tag_dirs.declared.dir.TagPlace.{TagPlace}
use Rattle.index_pages.specs.tag_dirs.Directory.{has_home}
use Rattle.index_pages.specs.free_cells.Cells.{Cells}
use Rattle.index_pages.specs.free_space.Spaces.{Spaces}
use Rattle.index_pages.specs.fileset_files.declared.bitfiles.Bitfiles.{Bitfiles}
use Rattle.index_pages.specs.fileset_files.declared.new_cells.NewFile.{NewFile}
use Rattle.index_pages.specs.fileset_files.Creation.{Creates, CreatesNone, LeavesBeside, TakesForFile}
use Rattle.index_pages.proofs.OfFilesetFiles.Again.{together_missed}
use Rattle.stored_set.proofs.Made.{made}
use Rattle.stored_set.proofs.Bare.{bare_made}
use Rattle.stored_set.proofs.Live.{missed_still, none_shown}
use Rattle.index_pages.specs.fileset_files.State.{States, states_of}
use Rattle.index_pages.proofs.OfFilesetFiles.Placed.{states_made}
use Rattle.stored_set.proofs.Wholeness.{whole_made}
use Rattle.stored_set.specs.Standing.{AreTagsOnVolumes}
use Rattle.stored_set.specs.Whole.{AreWholeDirectories}
use Rattle.stored_set.specs.Sets.{StandsAsSet}

-- the pages of tags with one more, on a volume that there may be
low_more : (places : List TagPlace) (p : TagPlace) → 1 ≤ p.home.vol → AreTagsOnVolumes places → AreTagsOnVolumes (places ++ p ∷ [])
low_more [] p low all h has = ⊎_elim (λ this. subst (λ (x : Home). 1 ≤ x.vol) (sym (homes_same h p.home this)) low) (λ none. absurd (true≢false (sym none))) (or_cases (same_home h p.home) false has)
low_more (q ∷ qs) p low all h has = ⊎_elim
    (λ this. subst (λ (x : Home). 1 ≤ x.vol) (sym (homes_same h q.home this)) (all q.home (or_left (same_home q.home q.home) (has_home qs q.home) (same_itself q.home))))
    (λ later. low_more qs p low (λ x there. all x (or_right (same_home x q.home) (has_home qs x) there)) h later)
    (or_cases (same_home h q.home) (has_home (qs ++ p ∷ []) h) has)

low_made : (prefer : ℕ) (places places_now : List TagPlace) (space space_now : Spaces) (cells cells_now : Cells) (old : Pages) → AreTagsOnVolumes places → TakesForFile prefer places places_now space space_now cells cells_now old → AreTagsOnVolumes places_now
low_made prefer places places_now space space_now cells cells_now old low takes = ⊎_elim
    (λ one. subst AreTagsOnVolumes (sym one.same) low)
    (λ more. subst AreTagsOnVolumes (sym more.joins) (low_more places (record { index = more.index; home = more.home }) more.low low))
    takes

module _ (fileset prefer : ℕ) (places places_now : List TagPlace) (space space_now : Spaces) (cells cells_now : Cells) (old new : Pages) (set : SetOf) (was : StandsAsSet fileset places space cells old set) (version : Version) (what : NewFile) where
  pub made_fresh : (r : Result Tag StoreFault) → IfOk r (λ tag. Creates fileset places_now tag version what was.chains space_now cells cells_now old new) → IfOk r (λ tag. set tag ≡ None)
  made_fresh (Ok tag) creates = none_shown fileset places space cells old set was tag creates.fresh
  made_fresh (Err fault) creates = tt

  pub made_shown : (r : Result Tag StoreFault) → IfOk r (λ tag. Creates fileset places_now tag version what was.chains space_now cells cells_now old new) → OnOk r (TakesForFile prefer places places_now space space_now cells cells_now old) → LeavesBeside cells_now places_now old new
      → (fileset_now : ℕ) → fileset_now ≡ fileset → IfOk r (λ tag. StandsAsSet fileset_now places_now space_now cells_now new (with_file tag (shown_new what.kind what.uid what.gid) set))
  made_shown (Ok tag) creates takes beside fileset_now is =
      subst (λ (f : ℕ). StandsAsSet f places_now space_now cells_now new (with_file tag (shown_new what.kind what.uid what.gid) set)) (sym is)
      (record { chains = _; indexes = was.indexes; stands = made fileset prefer places places_now space space_now cells cells_now old new was.chains was.indexes set was.stands tag version what creates takes beside; whole = subst (λ (s : States). AreWholeDirectories s (with_file tag (shown_new what.kind what.uid what.gid) set)) (sym (states_made version what tag creates.first creates.says creates.no_page was.chains)) (whole_made (states_of was.chains) set was.whole tag what); bare = bare_made set was.bare tag what.kind what.uid what.gid; low = low_made prefer places places_now space space_now cells cells_now old was.low takes })
  made_shown (Err fault) creates takes beside fileset_now is = tt

module _ (files files_now : Bitfiles) (space space_now : Spaces) (cells cells_now : Cells) (old new : Pages) (set : SetOf) (was : StandsAsSet files.fileset files.tags space cells old set) where
  by_fault : (fault : StoreFault) → CreatesNone files.tags space space_now cells old fault → StandsAsSet files.fileset files.tags space_now cells old set
  by_fault NoPage none = subst (λ (s : Spaces). StandsAsSet files.fileset files.tags s cells old set) (sym none.1) (record {
    chains = was.chains;
    indexes = was.indexes;
    stands = missed_still files.fileset files.tags space cells old was.chains was.indexes set was.stands (together_missed old files.fileset files.tags was.chains space cells was.stands.together);
    whole = was.whole;
    bare = was.bare;
    low = was.low;
  })
  by_fault OutOfMemory none = subst (λ (s : Spaces). StandsAsSet files.fileset files.tags s cells old set) (sym none) was

  pub none_made : (r : Result Tag StoreFault) → IfErr r (CreatesNone files.tags space space_now cells old) → OnErr r (files_now ≡ files) → OnErr r (cells_now ≡ cells) → OnErr r (new ≡ old) → OnErr r (StandsAsSet files_now.fileset files_now.tags space_now cells_now new set)
  none_made (Ok tag) none files_is cells_is pages_is = tt
  none_made (Err fault) none files_is cells_is pages_is =
      subst (λ (f : Bitfiles). StandsAsSet f.fileset f.tags space_now cells_now new set) (sym files_is)
      (subst (λ (c : Cells). StandsAsSet files.fileset files.tags space_now c new set) (sym cells_is)
      (subst (λ (ps : Pages). StandsAsSet files.fileset files.tags space_now cells ps set) (sym pages_is) (by_fault fault none)))
