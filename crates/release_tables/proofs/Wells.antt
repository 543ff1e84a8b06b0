-- Lists of one file, or of a page of a tag directory, that belong together with all else.
use Rattle.std.proofs.Common.{◌≡◌, ◌∙◌, inl, ℕ, ◌≤◌, zero, suc, List, [], ◌∷◌, ◌++◌, Some, None, Result, Ok, Err, IfOk, IfErr, OnErr, is_some, IsSome, IsSomeAnd, Contains, get_or, arith, refl, sym, ap, subst, ⊎_elim}
use Rattle.std.specs.Option.{option_and_then, option_map_or}
use Rattle.release_steps.specs.domain_base.declared.place.CellAt.{CellAt}
use Rattle.release_steps.specs.domain_base.declared.place.Home.{Home}
use Rattle.release_steps.specs.domain_base.declared.version.Version.{Version}
use Rattle.release_steps.specs.page_store.Pages.{Pages}
use Rattle.release_steps.specs.page_store.declared.fault.StoreFault.{StoreFault}
use Rattle.release_steps.specs.metadata_cells.Chain.{PlacedCell}
use Rattle.release_steps.specs.extent_maps.declared.run.PagePlace.TheVariants.{Absent, At}
use Rattle.release_steps.specs.free_cells.Cells.{Cells}
use Rattle.release_steps.specs.free_space.Spaces.{Spaces}
use Rattle.release_steps.specs.file_chains.Allocated.{AreAllocated, FindsNone}
use Rattle.release_steps.specs.file_chains.Files.{places_of}
use Rattle.release_steps.specs.fileset_files.Together.{IsHeldApart}
use Rattle.release_steps.proofs.OfFileRelease.Once.{absent_not}
use Rattle.release_steps.specs.release_list.declared.list.Entry.{Entry}
use Rattle.release_steps.specs.fileset_files.Files.{first_record}
use Rattle.release_steps.specs.release_list.Cursors.{Deferral}
use Rattle.release_steps.specs.release_list.Listed.{IsEntry, IsListed}
use Rattle.release_steps.specs.release_list.Listing.{Adds, AreInOrder, Listing}
use Rattle.release_steps.specs.release_list.Standing.{Files, IsStanding, ReadsThrough, Source, StandTogether, place_in, source_at, source_of, with_file}
use Rattle.release_steps.specs.release_list.Steps.{IsWell, LetsGo, now_of}
use Rattle.release_steps.proofs.OfReleaseList.Loops.{well_same}
use Rattle.release_steps.proofs.OfReleaseList.Well.{well_still}
use Rattle.release_steps.proofs.OfReleaseList.Standings.{apart_from, each_from, file_other, file_there, place_by, same_or_not, source_by}
use Rattle.release_tables.specs.Going.{IsGoing}
use Rattle.release_steps.specs.tag_dirs.declared.dir.TagPlace.{TagPlace}
use Rattle.release_steps.specs.Calls.{StandsWell}
use Rattle.file_world.specs.First.{IsEmpty}
use Rattle.release_tables.specs.Called.{fileset_in}

abbrev pub listing : List Entry → List Home → Listing
listing entries tag_pages = record { entries = entries; tag_pages = tag_pages }

pub in_one : {X : Type 0} (x y : X) → Contains (x ∷ []) y → y ≡ x
in_one x y (zero, within, is) = sym is
in_one x y (suc k, within, is) = absurd (omega (arith, within))

pub in_none : {X : Type 0} (y : X) → Contains {X = X} [] y → ⊥
in_none y inside = omega (arith, inside.1)

pub some_same : {X : Type 0} (x y : X) → Some x ≡ Some y → x ≡ y
some_same x y is = cc

pub none_some : {X : Type 0} (x : X) → None ≡ Some x → ⊥
none_some x is = cc

-- one entry without a clone is in order
one_order : (entry : Entry) → entry.clone ≡ None → AreInOrder (entry ∷ [])
one_order entry none zero j d less_i less_j same = absurd (none_some (get_or (entry ∷ []) j d).at (sym none ∙ same))
one_order entry none (suc i) j d less_i less_j same = absurd (omega (arith, less_i))

abbrev pub no_files : Files
no_files = λ a. None

module _ (space : Spaces) (cells : Cells) (pages : Pages) (at : CellAt) (chain : List PlacedCell) (going : IsGoing space cells pages at chain) (alone : source_of chain ≡ None) (says : IsSome (first_record 6 chain)) where
  abbrev files : Files
  files = with_file at (Some chain) no_files

  there : files at ≡ Some chain
  there = file_there at (Some chain) no_files

  nowhere : (a : CellAt) → ¬ a ≡ at → files a ≡ None
  nowhere a other = file_other at (Some chain) no_files a other

  only : (a : CellAt) (cs : List PlacedCell) → files a ≡ Some cs → (a ≡ at) × (cs ≡ chain)
  only a cs is = ⊎_elim
      (λ same. (same, some_same cs chain (sym is ∙ ap files same ∙ there)))
      (λ other. absurd (none_some cs (sym (nowhere a other) ∙ is)))
      (same_or_not a at)

  pub place_only : (a : CellAt) (p : ℕ) (home : Home) → place_in files a p ≡ At home → (a ≡ at) × (places_of chain p ≡ At home)
  place_only a p home is = ⊎_elim
      (λ same. (same, sym (place_by files at chain p there) ∙ sym (ap (λ (b : CellAt). place_in files b p) same) ∙ is))
      (λ other. absurd (absent_not home (sym (ap (λ o. option_map_or (λ cs. places_of cs p) o Absent) (nowhere a other)) ∙ is)))
      (same_or_not a at)

  no_source : (a : CellAt) → source_at files a ≡ None
  no_source a = ⊎_elim
      (λ same. ap (source_at files) same ∙ source_by files at chain there ∙ alone)
      (λ other. ap (λ o. option_and_then source_of o) (nowhere a other))
      (same_or_not a at)

  reads_none : (a b : CellAt) → ReadsThrough files a b → ⊥
  reads_none a b reads = subst (λ o. IsSomeAnd o (λ (source : Source). source.at ≡ b)) (no_source a) reads

  together : StandTogether space cells pages files
  together = record {
    allocated = going.allocated;
    each = each_from cells pages files (λ a cs is.
        subst (λ (b : CellAt). IsStanding cells pages b cs) (sym (only a cs is).0)
        (subst (IsStanding cells pages at) (sym (only a cs is).1) (record { stands = inl going.file; on_tables = going.on_tables })));
    apart = apart_from files (λ a b xs ys is_a is_b other. absurd (other ((only a xs is_a).0 ∙ sym (only b ys is_b).0)));
    held = λ a p home is. going.held p home (place_only a p home is).1;
    once = λ a b p q home is_a is_b.
        let x = place_only a p home is_a in
        let y = place_only b q home is_b in
        (x.0 ∙ sym y.0, going.once p q home x.1 y.1);
    one_deep = λ a b c reads. absurd (reads_none a b reads);
  }

  abbrev entry : Entry
  entry = record { at = at; clone = None }

  is_entry : IsEntry files entry
  is_entry = record {
    there = ap is_some there;
    says = inl (ap (λ o. is_some (option_and_then (first_record 6) o)) there ∙ says);
    given = λ clone is. absurd (none_some clone is);
    all = λ clone reads. absurd (reads_none clone at reads);
  }

  is_listed : IsListed space cells files (listing (entry ∷ []) [])
  is_listed = record {
    each = λ e inside. subst (IsEntry files) (sym (in_one entry e inside)) is_entry;
    once = λ i j d less_i less_j same. omega (arith, less_i, less_j);
    order = one_order entry refl;
    pages_once = tt;
    pages_low = λ home inside. absurd (in_none home inside);
    pages_held = λ home inside. absurd (in_none home inside);
    pages_apart = λ home inside. absurd (in_none home inside);
  }

  added : (entries : List Entry) → Adds at None [] entries → entries ≡ entry ∷ []
  added entries adds = adds.orders ∙ ⊎_elim (λ sets. absurd (let within = sets.within in omega (arith, within))) (λ is. is.is) adds.puts

  listed_well : (entries : List Entry) (tag_pages : List Home) → entries ≡ entry ∷ [] → tag_pages ≡ [] → IsWell (now_of (listing entries tag_pages) files space cells pages)
  listed_well entries tag_pages is none = record {
    together = together;
    listed = subst (λ (es : List Entry). IsListed space cells files (listing es tag_pages)) (sym is)
        (subst (λ (hs : List Home). IsListed space cells files (listing (entry ∷ []) hs)) (sym none) is_listed);
  }

  pub one_is_well : (old new : Listing) → old.entries ≡ [] → old.tag_pages ≡ [] → Adds at None old.entries new.entries → new.tag_pages ≡ old.tag_pages → IsWell (now_of new (with_file at (Some chain) no_files) space cells pages)
  one_is_well old new no_entry no_page adds same =
      listed_well new.entries new.tag_pages (added new.entries (subst (λ (es : List Entry). Adds at None es new.entries) no_entry adds)) (same ∙ no_page)

  pub one_well : (old new : Listing) → old.entries ≡ [] → old.tag_pages ≡ [] → Adds at None old.entries new.entries → new.tag_pages ≡ old.tag_pages → (fs : Files) × IsWell (now_of new fs space cells pages)
  one_well old new no_entry no_page adds same = (_, one_is_well old new no_entry no_page adds same)

-- ---- no file

module _ (space : Spaces) (cells : Cells) (pages : Pages) (allocated : AreAllocated space cells pages) where
  none_at : (a : CellAt) → no_files a ≡ None
  none_at a = refl

  none_there : (a : CellAt) (p : ℕ) (h : Home) → place_in no_files a p ≡ At h → ⊥
  none_there a p h is = absent_not h (sym (ap (λ o. option_map_or (λ cs. places_of cs p) o Absent) (none_at a)) ∙ is)

  none_together : StandTogether space cells pages no_files
  none_together = record {
    allocated = allocated;
    each = each_from cells pages no_files (λ a cs is. absurd (none_some cs (sym (none_at a) ∙ is)));
    apart = apart_from no_files (λ a b xs ys is_a is_b other. absurd (none_some xs (sym (none_at a) ∙ is_a)));
    held = λ a p h is. absurd (none_there a p h is);
    once = λ a b p q h is_a is_b. absurd (none_there a p h is_a);
    one_deep = λ a b c reads. absurd (subst (λ o. IsSomeAnd o (λ (source : Source). source.at ≡ b)) (ap (λ o. option_and_then source_of o) (none_at a)) reads);
  }

-- and no entry
none_listed : (space : Spaces) (cells : Cells) → IsListed space cells no_files (listing [] [])
none_listed space cells = record {
  each = λ e inside. absurd (in_none e inside);
  once = λ i j d less_i less_j same. absurd (omega (arith, less_i));
  order = λ i j d less_i less_j same. absurd (omega (arith, less_i));
  pages_once = tt;
  pages_low = λ h inside. absurd (in_none h inside);
  pages_held = λ h inside. absurd (in_none h inside);
  pages_apart = λ h inside. absurd (in_none h inside);
}

pub none_stands : (fileset : ℕ) (places : List TagPlace) (space : Spaces) (cells : Cells) (pages : Pages) → IsEmpty fileset places space cells pages → (list : Listing) → list.entries ≡ [] → list.tag_pages ≡ []
    → StandsWell fileset (fileset_in (record { places = places; list = list; space = space; cells = cells; pages = pages }) no_files (λ t. None))
none_stands fileset places space cells pages empty list no_entry no_page = record {
  well = record {
    together = none_together space cells pages empty.together.allocated;
    listed = subst (λ (es : List Entry). IsListed space cells no_files (listing es list.tag_pages)) (sym no_entry) (subst (λ (hs : List Home). IsListed space cells no_files (listing [] hs)) (sym no_page) (none_listed space cells));
  };
  together = empty.together;
  among = record {
    same = λ t. refl;
    live = λ t. tt;
    trimmed = λ e inside. absurd (in_none e (subst (λ (es : List Entry). Contains es e) no_entry inside));
    low = empty.low;
    no_tags = λ a p h there. absurd (none_there space cells pages empty.together.allocated a p h there);
    not_listed = λ h inside. absurd (in_none h (subst (λ (hs : List Home). Contains hs h) no_page inside));
  };
}

-- ---- no file, and a page of a tag directory

module _ (space : Spaces) (cells : Cells) (pages : Pages) (home : Home) (allocated : AreAllocated space cells pages) (low : 1 ≤ home.vol) (held : IsHeldApart space cells home) where
  page_listed : IsListed space cells no_files (listing [] (home ∷ []))
  page_listed = record {
    each = λ e inside. absurd (in_none e inside);
    once = λ i j d less_i less_j same. absurd (omega (arith, less_i));
    order = λ i j d less_i less_j same. absurd (omega (arith, less_i));
    pages_once = (λ inside. in_none home inside, tt);
    pages_low = λ h inside. subst (λ (h : Home). 1 ≤ h.vol) (sym (in_one home h inside)) low;
    pages_held = λ h inside. subst (IsHeldApart space cells) (sym (in_one home h inside)) held;
    pages_apart = λ h inside a p is. none_there space cells pages allocated a p h is;
  }

  pub page_well : (old new : Listing) → old.entries ≡ [] → old.tag_pages ≡ [] → new.tag_pages ≡ old.tag_pages ++ home ∷ [] → new.entries ≡ old.entries → (fs : Files) × IsWell (now_of new fs space cells pages)
  page_well old new no_entry no_page adds same =
      let tags = adds ∙ ap (λ (hs : List Home). hs ++ home ∷ []) no_page in (
        no_files,
        record {
          together = none_together space cells pages allocated;
          listed = subst (λ (es : List Entry). IsListed space cells no_files (listing es new.tag_pages)) (sym (same ∙ no_entry))
              (subst (λ (hs : List Home). IsListed space cells no_files (listing [] hs)) (sym tags) page_listed);
        },
      )

-- ---- after a call, whatever it answered

pub list_same : (r : Result ℕ StoreFault) (d d_now : Deferral) → OnErr r (d_now ≡ d) → OnErr r (d_now.list ≡ d.list)
list_same (Ok count) d d_now same = tt
list_same (Err fault) d d_now same = ap (λ (d : Deferral). d.list) same

pub still_well : (group : ℕ) (version : Version) (files : Files) (list list_now : Listing) (space space_now : Spaces) (cells cells_now : Cells) (pages pages_now : Pages) (r : Result ℕ StoreFault) → IsWell (now_of list files space cells pages)
    → IfOk r (λ count. LetsGo group version (now_of list files space cells pages) count list_now space_now cells_now pages_now) → IfErr r (FindsNone space space_now cells) → OnErr r (list_now ≡ list) → OnErr r (cells_now ≡ cells) → OnErr r (pages_now ≡ pages)
    → (fs : Files) × IsWell (now_of list_now fs space_now cells_now pages_now)
still_well group version fs list list_now space space_now cells cells_now pages pages_now (Ok count) well goes none same_list same_cells same_pages =
    ⊎_elim (λ leads. (leads.files, leads.well)) (λ stops. (stops.files, stops.well)) goes
still_well group version fs list list_now space space_now cells cells_now pages pages_now (Err fault) well goes none same_list same_cells same_pages =
    (fs, well_same list list_now fs space_now space_now cells cells_now pages pages_now same_list refl same_cells same_pages (well_still fault list fs space space_now cells pages none well))
