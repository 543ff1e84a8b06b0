-- A page of a directory with other bytes.
use Rattle.std.proofs.Common.{◌≡◌, ◌∙◌, ℕ, zero, suc, ◌+◌, ◌<◌, ◌≤◌, Bool, true, false, cond, nat_eq, Option, Some, None, IsSomeAnd, List, [], ◌∷◌, ◌++◌, drop, length, slice_get, take, Contains, refl, sym, ap, subst, arith, true≢false}
use Rattle.std.specs.Option.{option_and_then, option_map_or}
use Rattle.std.proofs.lemmas.Bool.{both_ways, eq-eqb, eqb-true}
use Rattle.index_pages.specs.domain_base.declared.place.Home.{Home}
use Rattle.index_pages.specs.domain_base.declared.place.Kind.TheVariants.{Directory}
use Rattle.index_pages.specs.domain_base.declared.place.Tag.{Tag}
use Rattle.index_pages.specs.page_store.Bitfiles.{Bitfile, Bitfiles, IsDirectory, count_pages, put_page, same_tag, with_change, with_entry, with_file}
use Rattle.index_pages.specs.page_store.Pages.{Pages, same_home, with_page}
use Rattle.index_pages.specs.metadata_cells.Chain.{PlacedCell}
use Rattle.index_pages.proofs.OfMetadataCells.Changed.{homes_same, same_itself}
use Rattle.index_pages.specs.tag_dirs.Directory.{has_home}
use Rattle.index_pages.specs.tag_dirs.declared.dir.TagPlace.{TagPlace}
use Rattle.index_pages.specs.extent_maps.declared.run.PagePlace.TheVariants.{Absent, At}
use Rattle.index_pages.specs.free_cells.Cells.{Cells, table_of}
use Rattle.index_pages.specs.free_space.Spaces.{Spaces}
use Rattle.index_pages.specs.file_chains.Files.{places_of}
use Rattle.index_pages.specs.fileset_files.Files.{Chains, attributes_of, is_removed, place_at}
use Rattle.index_pages.specs.fileset_files.declared.attributes.Attributes.{Attributes}
use Rattle.index_pages.specs.fileset_files.Shown.{IsWhat, ShowsAt, ShowsFile, Shows, index_of, page_there, shown_page}
use Rattle.index_pages.specs.fileset_files.Together.{IsFilePage}
use Rattle.index_pages.proofs.OfFilesetFiles.OneChain.{same_tag_itself}
use Rattle.index_pages.proofs.OfFilesetFiles.OneFile.{tags_same}
use Rattle.index_pages.specs.Homes.{AreIndexHomes}
use Rattle.index_pages.proofs.Homes.{kept_same}
use Rattle.stored_set.specs.Standing.{Indexes, StandsShown}
use Rattle.stored_set.proofs.Kept.{index_kept, live_map, page_kept}
use Rattle.stored_set.proofs.Together.{together_away}

-- an entry of a list in which one is another
pub entry_behind : (k : ℕ) (page first : List ℕ) (more : List (List ℕ)) → with_entry (suc k) page (first ∷ more) ≡ first ∷ with_entry k page more
entry_behind k page first more =
    let next : suc k + 1 ≡ suc (k + 1) = omega arith in
    ap (λ n. (first ∷ take k more) ++ page ∷ drop n (first ∷ more)) next

pub entry_put : (k : ℕ) (page : List ℕ) (pages : List (List ℕ)) → k ≤ length pages → slice_get (with_entry k page pages) k ≡ Some page
entry_put zero page [] within = refl
entry_put (suc k) page [] within = absurd (omega (arith, within))
entry_put zero page (first ∷ more) within = refl
entry_put (suc k) page (first ∷ more) within = ap (λ l. slice_get l (suc k)) (entry_behind k page first more) ∙ entry_put k page more (omega (arith, within))

pub entry_kept : (k : ℕ) (page : List ℕ) (pages : List (List ℕ)) → k ≤ length pages → (j : ℕ) → ¬ j ≡ k → slice_get (with_entry k page pages) j ≡ slice_get pages j
entry_kept zero page [] within zero other = absurd (other refl)
entry_kept zero page [] within (suc j) other = refl
entry_kept (suc k) page [] within j other = absurd (omega (arith, within))
entry_kept zero page (first ∷ more) within zero other = absurd (other refl)
entry_kept zero page (first ∷ more) within (suc j) other = refl
entry_kept (suc k) page (first ∷ more) within zero other = ap (λ l. slice_get l 0) (entry_behind k page first more)
entry_kept (suc k) page (first ∷ more) within (suc j) other =
    ap (λ l. slice_get l (suc j)) (entry_behind k page first more) ∙ entry_kept k page more (omega (arith, within)) j (λ e. other (ap suc e))

module _ (old new : Pages) (home : Home) (page : List ℕ) (is : new ≡ with_page home page old) where
  pub at_home : new home ≡ Some page
  at_home = ap (λ (ps : Pages). ps home) is ∙ ap (λ (b : Bool). cond b (Some page) (old home)) (same_itself home)

  pub away : (h : Home) → ¬ h ≡ home → new h ≡ old h
  away h other = ap (λ (ps : Pages). ps h) is ∙ ap (λ (b : Bool). cond b (Some page) (old h)) (apart (same_home h home) refl)
    where
      apart : (b : Bool) → same_home h home ≡ b → b ≡ false
      apart true same = absurd (other (homes_same h home same))
      apart false same = refl

  -- a file that has no page there
  file_away : (cells : List PlacedCell) (file : Bitfile) (homes : List Home) → AreIndexHomes old (index_of cells) homes → ¬ Contains homes home → ((k : ℕ) → ¬ places_of cells k ≡ At home) → ShowsFile old cells file
      → ShowsFile new cells file
  file_away cells file homes are apart off shows = record {
    what = shows.what;
    each = λ k. shows.each k ∙ sym (page_kept old new cells file.kind k (λ h at. away h (λ e. off k (at ∙ ap At e))));
    index = index_kept old new (index_of cells) homes file.index are (λ h inside. away h (λ e. apart (subst (Contains homes) e inside))) shows.index;
  }

-- ** The set

module _ (fileset : ℕ) (places : List TagPlace) (space : Spaces) (cells : Cells) (old : Pages) (chains : Chains) (indexes : Indexes) (files : Bitfiles) (was : StandsShown fileset places space cells old chains indexes files)
    (tag : Tag) (number : ℕ) (home : Home) (page : List ℕ) (there : place_at chains tag number ≡ At home) where
  abbrev new : Pages
  new = with_page home page old

  off_index : (t : Tag) → ¬ Contains (indexes t) home
  off_index t inside = was.apart t tag number home inside there

  -- the homes of a tag's file, by its chain
  page_by : (t : Tag) (cs : List PlacedCell) → chains t ≡ Some cs → (k : ℕ) → places_of cs k ≡ At home → (t ≡ tag) × (k ≡ number)
  page_by t cs is k at = was.together.once t tag k number home (ap (λ o. option_map_or (λ cs. places_of cs k) o Absent) is ∙ at) there

  -- another tag's file
  other_file : (t : Tag) → ¬ t ≡ tag → ShowsAt new (chains t) (files t)
  other_file t other = by_chain (chains t) (files t) refl (was.shows t) (was.indexed t)
    where
      by_chain : (chain : Option (List PlacedCell)) (file : Option Bitfile) → chains t ≡ chain → ShowsAt old chain file → AreIndexHomes old (option_and_then index_of chain) (indexes t) → ShowsAt new chain file
      by_chain None None is shows indexed = shows
      by_chain None (Some file) is shows indexed = shows
      by_chain (Some cs) None is shows indexed = shows
      by_chain (Some cs) (Some file) is shows indexed =
          live_map (is_removed cs) (λ cs. ShowsFile old cs file) (λ cs. ShowsFile new cs file) cs
          (file_away old new home page refl cs file (indexes t) indexed (off_index t) (λ k at. other (page_by t cs is k at).0)) shows

  -- the directory with its page changed
  changed_file : (file : Bitfile) → files tag ≡ Some file → file.kind ≡ Directory → number < length file.pages → ShowsAt new (chains tag) (Some (put_page number page file))
  changed_file file at directory within = by_chain (chains tag) refl (subst (ShowsAt old (chains tag)) at (was.shows tag)) (was.indexed tag)
    where
      each : (cs : List PlacedCell) → chains tag ≡ Some cs → ((k : ℕ) → slice_get file.pages k ≡ shown_page old cs file.kind k) → (k : ℕ)
          → slice_get (with_entry number page file.pages) k ≡ shown_page new cs file.kind k
      each cs is shows k = by_number (nat_eq k number) refl
        where
          at_number : places_of cs number ≡ At home
          at_number = sym (ap (λ o. option_map_or (λ cs. places_of cs number) o Absent) is) ∙ there

          by_number : (b : Bool) → nat_eq k number ≡ b → slice_get (with_entry number page file.pages) k ≡ shown_page new cs file.kind k
          by_number true same =
              let e = eqb-true k number same in
              ap (slice_get (with_entry number page file.pages)) e ∙ entry_put number page file.pages (omega (arith, within)) ∙ sym (at_home old new home page refl) ∙ ap (page_there new) (sym at_number)
              ∙ ap (λ n. page_there new (places_of cs n)) (sym e) ∙ ap (λ kind. shown_page new cs kind k) (sym directory)
          by_number false other =
              let apart : ¬ k ≡ number = λ e. both_ways (nat_eq k number) other (eq-eqb k number e) in
              entry_kept number page file.pages (omega (arith, within)) k apart ∙ shows k
              ∙ sym (page_kept old new cs file.kind k (λ h at. away old new home page refl h (λ e. apart (page_by tag cs is k (at ∙ ap At e)).1)))

      changed : (cs : List PlacedCell) → chains tag ≡ Some cs → AreIndexHomes old (index_of cs) (indexes tag) → ShowsFile old cs file → ShowsFile new cs (put_page number page file)
      changed cs is indexed shows = record {
        what = what_of (attributes_of cs) shows.what;
        each = each cs is shows.each;
        index = index_kept old new (index_of cs) (indexes tag) file.index indexed (λ h inside. away old new home page refl h (λ e. off_index tag (subst (Contains (indexes tag)) e inside))) shows.index;
      }
        where
          what_of : (o : Option Attributes) → IsSomeAnd o (IsWhat file) → IsSomeAnd o (IsWhat (put_page number page file))
          what_of None is = is
          what_of (Some a) is = record { kind = is.kind; uid = is.uid; gid = is.gid; links = is.links }

      by_chain : (chain : Option (List PlacedCell)) → chains tag ≡ chain → ShowsAt old chain (Some file) → AreIndexHomes old (option_and_then index_of chain) (indexes tag) → ShowsAt new chain (Some (put_page number page file))
      by_chain None is shows indexed = shows
      by_chain (Some cs) is shows indexed = live_map (is_removed cs) (λ cs. ShowsFile old cs file) (λ cs. ShowsFile new cs (put_page number page file)) cs (changed cs is indexed) shows

  pub written : IsDirectory files tag → number < count_pages files tag → StandsShown fileset places space cells new chains indexes (with_change tag (put_page number page) files)
  written directory within = record {
    together = together_away old new cells (λ h on. away old new home page refl h (λ e. file_page.apart.off_table (subst (λ (h : Home). Contains (table_of cells h.vol) h.page) e on))) fileset places space chains
        (λ h has. away old new home page refl h (λ e. true≢false (sym has ∙ ap (has_home places) e ∙ file_page.no_tags))) was.together;
    shows = by_file (files tag) refl directory within;
    indexed = λ t. kept_same old new (option_and_then index_of (chains t)) (indexes t) (was.indexed t) (λ h inside. away old new home page refl h (λ e. off_index t (subst (Contains (indexes t)) e inside)));
    stand = was.stand;
    apart = was.apart;
    once = was.once;
  }
    where
      file_page : IsFilePage space cells places home
      file_page = was.together.file_pages tag number home there

      by_file : (o : Option Bitfile) → files tag ≡ o → IsSomeAnd o (λ file. file.kind ≡ Directory) → number < option_map_or (λ (file : Bitfile). length file.pages) o 0
          → Shows new chains (option_map_or (λ file. with_file tag (put_page number page file) files) o files)
      by_file None at directory within = absurd directory
      by_file (Some file) at directory within = λ t. by_tag t (same_tag t tag) refl
        where
          by_tag : (t : Tag) (b : Bool) → same_tag t tag ≡ b → ShowsAt new (chains t) (cond b (Some (put_page number page file)) (files t))
          by_tag t true same = subst (λ (s : Tag). ShowsAt new (chains s) (Some (put_page number page file))) (sym (tags_same t tag same)) (changed_file file at directory within)
          by_tag t false other = other_file t (λ e. both_ways (same_tag t tag) other (ap (λ (s : Tag). same_tag s tag) e ∙ same_tag_itself tag))
