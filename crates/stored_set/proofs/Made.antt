-- A file or directory that is made.
use Rattle.std.proofs.Common.{◌≡◌, ◌∙◌, ◌||◌, ℕ, Bool, true, false, cond, nat_eq, Some, None, IsSomeAnd, List, [], ◌∷◌, Contains, slice_get, refl, sym, ap, subst, arith, ⊎_elim}
use Rattle.std.proofs.lemmas.Bool.{false_from_ne_true}
use Rattle.std.proofs.lemmas.List.Folds.{list_any-append}
use Rattle.std.specs.Option.{option_and_then, option_map_or}
use Rattle.index_pages.specs.domain_base.declared.place.Home.{Home}
use Rattle.index_pages.specs.domain_base.declared.place.Kind.{Kind}
use Rattle.index_pages.specs.domain_base.declared.place.Kind.TheVariants.{Directory, File}
use Rattle.index_pages.specs.domain_base.declared.place.Tag.{Tag}
use Rattle.index_pages.specs.domain_base.declared.version.Version.{Version}
use Rattle.index_pages.specs.domain_base.declared.version.Version.TheVariants.{Four, Three}
use Rattle.index_pages.specs.page_store.Bitfiles.{Bitfile, Bitfiles, new_file as shown_new, same_tag, with_file}
use Rattle.index_pages.specs.page_store.Pages.{Pages, same_home}
use Rattle.index_pages.specs.metadata_cells.Chain.{PlacedCell}
use Rattle.index_pages.proofs.OfMetadataCells.Changed.{homes_same}
use Rattle.index_pages.specs.tag_dirs.declared.dir.TagPlace.{TagPlace}
use Rattle.index_pages.specs.tag_dirs.Directory.{has_home}
use Rattle.index_pages.specs.extent_maps.declared.run.PagePlace.TheVariants.{Absent, At}
use Rattle.index_pages.specs.extent_records.Writing.{short_kind}
use Rattle.index_pages.specs.free_cells.Cells.{Cells}
use Rattle.index_pages.specs.free_space.VolumeSpace.{with_page}
use Rattle.index_pages.specs.free_space.Spaces.{IsHeld, Spaces, change_volume}
use Rattle.index_pages.specs.file_chains.Files.{places_of}
use Rattle.index_pages.proofs.OfFileChains.Spaces.{not_held}
use Rattle.index_pages.specs.fileset_files.declared.new_cells.NewFile.{NewFile}
use Rattle.index_pages.specs.fileset_files.Changes.{kind_number}
use Rattle.index_pages.specs.fileset_files.Creation.{Creates, LeavesBeside, TakesForFile, with_new}
use Rattle.index_pages.specs.fileset_files.Files.{Chains, attributes_in, is_removed, place_at, says_remove}
use Rattle.index_pages.specs.fileset_files.Shown.{AreIndexPages, IsWhat, ShowsAt, ShowsFile, index_in, index_of, page_there, shown_page}
use Rattle.index_pages.specs.fileset_files.Together.{IsFilePage}
use Rattle.index_pages.proofs.OfFilesetFiles.Grown.{apart_taken, one_apart}
use Rattle.index_pages.proofs.OfFilesetFiles.OneChain.{same_tag_itself}
use Rattle.index_pages.specs.Homes.{AreIndexHomes}
use Rattle.stored_set.proofs.Beside.{stands_beside}
use Rattle.stored_set.specs.Standing.{Indexes, StandsShown}

not_absent : (h : Home) → Absent ≡ At h → ⊥
not_absent h e = cc

no_index : (pages : Pages) (homes : List Home) → AreIndexHomes pages None homes → homes ≡ []
no_index pages [] are = refl
no_index pages (h ∷ homes) are = absurd are

-- a page of a file or an index stays one
module _ (prefer : ℕ) (places places_now : List TagPlace) (space space_now : Spaces) (cells cells_now : Cells) (old : Pages) (takes : TakesForFile prefer places places_now space space_now cells cells_now old) where
  pub file_page_grows : (h : Home) → IsFilePage space cells places h → IsFilePage space_now cells_now places_now h
  file_page_grows h page = ⊎_elim
      (λ only. record {
        apart = one_apart prefer space space_now cells cells_now old only.cell h page.apart;
        no_tags = subst (λ (ps : List TagPlace). has_home ps h ≡ false) (sym only.same) page.no_tags;
      })
      (λ more. record {
        apart = one_apart prefer (change_volume (with_page more.home.page) space more.home.vol) space_now cells cells_now old more.cell h (apart_taken space cells more.home h page.apart);
        no_tags = subst (λ (ps : List TagPlace). has_home ps h ≡ false) (sym more.joins)
            (list_any-append (λ (p : TagPlace). same_home h p.home) places (record { index = more.index; home = more.home } ∷ []) ∙ ap (λ (b : Bool). b || (same_home h more.home || false)) page.no_tags
            ∙ ap (λ (b : Bool). b || false) (false_from_ne_true (same_home h more.home) (λ same. not_held space more.home.vol more.home.page more.free (subst (λ (x : Home). IsHeld space x.vol x.page) (homes_same h more.home same) page.apart.held))));
      })
      takes

module _ (fileset : ℕ) (prefer : ℕ) (places places_now : List TagPlace) (space space_now : Spaces) (cells cells_now : Cells) (old new : Pages) (chains : Chains) (indexes : Indexes) (files : Bitfiles) (was : StandsShown fileset places space cells old chains indexes files)
    (tag : Tag) (version : Version) (what : NewFile) (creates : Creates fileset places_now tag version what chains space_now cells cells_now old new) (takes : TakesForFile prefer places places_now space space_now cells cells_now old) (beside : LeavesBeside cells_now places_now old new) where
  abbrev chain : List PlacedCell
  chain = creates.first ∷ []

  abbrev now : Chains
  now = with_new tag chain chains

  abbrev file : Bitfile
  file = shown_new what.kind what.uid what.gid

  at_tag : {X : Type 0} (x y : X) → cond (same_tag tag tag) x y ≡ x
  at_tag x y = ap (λ (b : Bool). cond b x y) (same_tag_itself tag)

  place_other : (t : Tag) (k : ℕ) (h : Home) → place_at now t k ≡ At h → place_at chains t k ≡ At h
  place_other t k h at = by_tag (same_tag t tag) at
    where
      by_tag : (b : Bool) → option_map_or (λ cs. places_of cs k) (cond b (Some chain) (chains t)) Absent ≡ At h → place_at chains t k ≡ At h
      by_tag true at = absurd (not_absent h (sym (creates.no_page k) ∙ at))
      by_tag false at = at

  page_same : (h : Home) → IsFilePage space_now cells_now places_now h → new h ≡ old h
  page_same h page = beside h page.apart.off_table page.no_tags

  index_page : (t : Tag) (h : Home) → Contains (indexes t) h → IsFilePage space_now cells_now places_now h
  index_page t h inside = file_page_grows prefer places places_now space space_now cells cells_now old takes h (was.stand t h inside)

  -- the new file
  not_short : (k : ℕ) → ¬ k ≡ 4 → ¬ k ≡ 14 → ¬ k ≡ short_kind version
  not_short k three four = by_version version
    where
      by_version : (v : Version) → ¬ k ≡ short_kind v
      by_version Three = three
      by_version Four = four

  not_removed : is_removed chain ≡ false
  not_removed = ap (λ o. option_map_or says_remove o false) (creates.says.others 6 (λ is. omega (arith, is)) (λ is. omega (arith, is)) (not_short 6 (λ is. omega (arith, is)) (λ is. omega (arith, is))))

  no_index_yet : index_of chain ≡ None
  no_index_yet = ap (option_and_then index_in) (creates.says.others 9 (λ is. omega (arith, is)) (λ is. omega (arith, is)) (not_short 9 (λ is. omega (arith, is)) (λ is. omega (arith, is))))

  shows_new : ShowsFile new chain file
  shows_new = record {
    what = subst (λ o. IsSomeAnd o (IsWhat file)) (sym (ap (option_and_then attributes_in) creates.says.attributes)) (record { kind = kind_again what.kind; uid = refl; gid = refl; links = refl });
    each = λ k. by_kind what.kind k;
    index = subst (λ o. AreIndexPages new o []) (sym no_index_yet) tt;
  }
    where
      kind_again : (kind : Kind) → kind ≡ cond (nat_eq (kind_number kind) 2) Directory File
      kind_again File = refl
      kind_again Directory = refl

      by_kind : (kind : Kind) (k : ℕ) → slice_get [] k ≡ shown_page new chain kind k
      by_kind Directory k = sym (ap (page_there new) (creates.no_page k))
      by_kind File k = refl

  shows_tag : ShowsAt new (Some chain) (Some file)
  shows_tag = subst (λ (b : Bool). IsSomeAnd (cond b None (Some chain)) (λ live. ShowsFile new live file)) (sym not_removed) shows_new

  none_yet : indexes tag ≡ []
  none_yet = no_index old (indexes tag) (subst (λ o. AreIndexHomes old (option_and_then index_of o) (indexes tag)) creates.fresh (was.indexed tag))

  pub made : StandsShown fileset places_now space_now cells_now new now indexes (with_file tag file files)
  made =
      stands_beside fileset places places_now space space_now cells cells_now old new chains now indexes indexes files (with_file tag file files) was tag
      (λ t other. ap (λ (b : Bool). cond b (Some chain) (chains t)) other) (λ t other. refl) (λ t other. ap (λ (b : Bool). cond b (Some file) (files t)) other)
      (λ t k h other at. page_same h (creates.together.file_pages t k h (ap (λ (b : Bool). option_map_or (λ cs. places_of cs k) (cond b (Some chain) (chains t)) Absent) other ∙ at))) (λ t h other inside. page_same h (index_page t h inside)) creates.together
      (subst (λ o. ShowsAt new o (with_file tag file files tag)) (sym (at_tag (Some chain) (chains tag))) (subst (ShowsAt new (Some chain)) (sym (at_tag (Some file) (files tag))) shows_tag))
      (subst (λ o. AreIndexHomes new (option_and_then index_of o) (indexes tag)) (sym (at_tag (Some chain) (chains tag))) (subst (λ o. AreIndexHomes new o (indexes tag)) (sym no_index_yet) (subst (AreIndexHomes new None) (sym none_yet) tt)))
      index_page (λ s t k h inside at. was.apart s t k h inside (place_other t k h at)) was.once
