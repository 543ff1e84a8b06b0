-- Directories stay whole.
use Rattle.std.proofs.Common.{◌≡◌, ◌∙◌, ◌+◌, ◌*◌, ◌<◌, ◌≤◌, ◌^◌, ℕ, nat_eq, zero, suc, Bool, true, false, cond, Option, Some, None, IsSomeAnd, List, [], ◌∷◌, length, refl, sym, ap, subst, arith}
use Rattle.std.proofs.lemmas.Bool.{eqb-true}
use Rattle.std.specs.List.{insert}
use Rattle.std.specs.Option.{option_map, option_map_or}
use Rattle.index_pages.specs.domain_base.Limits.{file_pages, page_bytes}
use Rattle.index_pages.specs.domain_base.declared.place.Kind.TheVariants.{Directory}
use Rattle.index_pages.specs.domain_base.declared.place.Tag.{Tag}
use Rattle.index_pages.specs.page_store.Bitfiles.{Bitfile, Bitfiles, IsDirectory, count_index, count_pages, insert_index, new_file as shown_new, put_index, put_page, same_tag, with_change, with_entry, with_file, without_file}
use Rattle.index_pages.specs.extent_maps.declared.run.PagePlace.TheVariants.{At}
use Rattle.index_pages.specs.domain_base.declared.place.Home.{Home}
use Rattle.index_pages.specs.fileset_files.declared.attributes.Attributes.{Attributes}
use Rattle.index_pages.specs.fileset_files.State.{FileState, States, with_changed, with_state, without_state}
use Rattle.index_pages.specs.fileset_files.declared.indexing.IndexPlace.{IndexPlace}
use Rattle.index_pages.proofs.OfFilesetFiles.OneChain.{same_tag_itself}
use Rattle.index_pages.proofs.OfFilesetFiles.OneFile.{tags_same}
use Rattle.stored_set.proofs.Written.{entry_behind}
use Rattle.index_pages.specs.fileset_files.declared.new_cells.NewFile.{NewFile}
use Rattle.index_pages.specs.fileset_files.States.{described, indexed, new_state, placed}
use Rattle.stored_set.specs.Standing.{owned}
use Rattle.stored_set.specs.Whole.{AreWholeDirectories, IsWholeAt, IsWholeDirectory, entries_at, entries_on, total_on}

-- ---- how many pages a directory has after one was put

pub replaced : (k : ℕ) (page : List ℕ) (pages : List (List ℕ)) → k < length pages → length (with_entry k page pages) ≡ length pages
replaced k page [] within = absurd (omega (arith, within))
replaced zero page (first ∷ more) within = refl
replaced (suc k) page (first ∷ more) within = ap (λ l. length l) (entry_behind k page first more) ∙ ap suc (replaced k page more (omega (arith, within)))

pub joined : (k : ℕ) (page : List ℕ) (pages : List (List ℕ)) → k ≡ length pages → length (with_entry k page pages) ≡ suc (length pages)
joined zero page [] last = refl
joined (suc k) page [] last = absurd (omega (arith, last))
joined zero page (first ∷ more) last = absurd (omega (arith, last))
joined (suc k) page (first ∷ more) last = ap (λ l. length l) (entry_behind k page first more) ∙ ap suc (joined k page more (omega (arith, last)))

inserted_length : (k : ℕ) (page : List ℕ) (pages : List (List ℕ)) → length (insert pages k page) ≤ length pages + 1
inserted_length zero page [] = omega arith
inserted_length (suc k) page [] = omega arith
inserted_length zero page (first ∷ more) = omega arith
inserted_length (suc k) page (first ∷ more) = let rest = inserted_length k page more in omega (arith, rest)

-- ---- how many entries an index has then

pub total_replaced : (k : ℕ) (page : List ℕ) (pages : List (List ℕ)) → k < length pages → total_on (with_entry k page pages) + entries_at k pages ≡ total_on pages + entries_on page
total_replaced k page [] within = absurd (omega (arith, within))
total_replaced zero page (first ∷ more) within = omega arith
total_replaced (suc k) page (first ∷ more) within =
    let rest = total_replaced k page more (omega (arith, within)) in
    let behind = ap total_on (entry_behind k page first more) in
    omega (arith, rest, behind)

pub total_most : (k : ℕ) (pages : List (List ℕ)) → entries_at k pages ≤ total_on pages
total_most k [] = omega arith
total_most zero (first ∷ more) = omega arith
total_most (suc k) (first ∷ more) = let rest = total_most k more in omega (arith, rest)

pub total_inserted : (k : ℕ) (page : List ℕ) (pages : List (List ℕ)) → k ≤ length pages → total_on (insert pages k page) ≡ total_on pages + entries_on page
total_inserted zero page [] within = omega arith
total_inserted (suc k) page [] within = absurd (omega (arith, within))
total_inserted zero page (first ∷ more) within = omega arith
total_inserted (suc k) page (first ∷ more) within = let rest = total_inserted k page more (omega (arith, within)) in omega (arith, rest)

-- ---- one tag

-- what stands at a tag is whole where all others are as they were
module _ (states now : States) (files files_now : Bitfiles) (tag : Tag) (other_state : (t : Tag) → same_tag t tag ≡ false → now t ≡ states t) (other_file : (t : Tag) → same_tag t tag ≡ false → files_now t ≡ files t) where
  whole_beside : AreWholeDirectories states files → IsWholeAt (now tag) (files_now tag) → AreWholeDirectories now files_now
  whole_beside was here t = by_tag (same_tag t tag) refl
    where
      by_tag : (b : Bool) → same_tag t tag ≡ b → IsWholeAt (now t) (files_now t)
      by_tag true same = subst (λ (u : Tag). IsWholeAt (now u) (files_now u)) (sym (tags_same t tag same)) here
      by_tag false other = subst (λ s. IsWholeAt s (files_now t)) (sym (other_state t other)) (subst (IsWholeAt (states t)) (sym (other_file t other)) (was t))

-- a change of the file at a tag, and of what is shown of it
module _ (states : States) (files : Bitfiles) (tag : Tag) (how : FileState → FileState) (change : Bitfile → Bitfile) where
  changed_state : with_changed tag how states tag ≡ option_map how (states tag)
  changed_state = ap (λ (b : Bool). cond b (option_map how (states tag)) (states tag)) (same_tag_itself tag)

  pub whole_changed : AreWholeDirectories states files
      → ((file : Bitfile) → files tag ≡ Some file → (change file).kind ≡ Directory → (file.kind ≡ Directory) × ((state : FileState) → IsWholeDirectory file state → IsWholeDirectory (change file) (how state)))
      → AreWholeDirectories (with_changed tag how states) (with_change tag change files)
  whole_changed was keeps = by_file (files tag) refl
    where
      by_state : (file : Bitfile) → (state : Option FileState) → ((state : FileState) → IsWholeDirectory file state → IsWholeDirectory (change file) (how state)) → IsSomeAnd state (IsWholeDirectory file)
          → IsSomeAnd (option_map how state) (IsWholeDirectory (change file))
      by_state file None keeps is = absurd is
      by_state file (Some state) keeps is = keeps state is

      none_here : (state : Option FileState) → files tag ≡ None → IsWholeAt state (files tag)
      none_here state is = subst (IsWholeAt state) (sym is) tt

      by_file : (o : Option Bitfile) → files tag ≡ o → AreWholeDirectories (with_changed tag how states) (option_map_or (λ file. with_file tag (change file) files) o files)
      by_file None is = whole_beside states (with_changed tag how states) files files tag (λ t other. ap (λ (b : Bool). cond b (option_map how (states t)) (states t)) other) (λ t other. refl) was (none_here (with_changed tag how states tag) is)
      by_file (Some file) is = whole_beside states (with_changed tag how states) files (with_file tag (change file) files) tag (λ t other. ap (λ (b : Bool). cond b (option_map how (states t)) (states t)) other)
          (λ t other. ap (λ (b : Bool). cond b (Some (change file)) (files t)) other) was
          (subst (λ s. IsWholeAt s (with_file tag (change file) files tag)) (sym changed_state)
          (subst (IsWholeAt (option_map how (states tag))) (sym (ap (λ (b : Bool). cond b (Some (change file)) (files tag)) (same_tag_itself tag)))
          (λ directory. let k = keeps file is directory in by_state file (states tag) k.1 (subst (IsWholeAt (states tag)) is (was tag) k.0))))

-- ---- what calls change

module _ (states : States) (files : Bitfiles) (was : AreWholeDirectories states files) (tag : Tag) where
  -- a page is put in place of another
  pub whole_written : (number : ℕ) (page : List ℕ) → number < count_pages files tag → AreWholeDirectories states (with_change tag (put_page number page) files)
  whole_written number page within = by_file (files tag) refl within
    where
      by_state : (file : Bitfile) (state : Option FileState) → number < length file.pages → IsSomeAnd state (IsWholeDirectory file) → IsSomeAnd state (IsWholeDirectory (put_page number page file))
      by_state file None within whole = whole
      by_state file (Some state) within whole =
          let same = replaced number page file.pages within in
          record {
            fits = omega (arith, same, whole.fits);
            size = whole.size ∙ ap (λ n. page_bytes * n) (sym same);
            keeps = whole.keeps;
            none = λ k behind. whole.none k (omega (arith, same, behind));
            index_fits = whole.index_fits;
            entries = whole.entries;
          }

      by_file : (o : Option Bitfile) → files tag ≡ o → number < option_map_or (λ (file : Bitfile). length file.pages) o 0 → AreWholeDirectories states (option_map_or (λ file. with_file tag (put_page number page file) files) o files)
      by_file None is within = was
      by_file (Some file) is within = whole_beside states states files (with_file tag (put_page number page file) files) tag (λ t other. refl) (λ t other. ap (λ (b : Bool). cond b (Some (put_page number page file)) (files t)) other) was
          (subst (IsWholeAt (states tag)) (sym (ap (λ (b : Bool). cond b (Some (put_page number page file)) (files tag)) (same_tag_itself tag)))
          (λ directory. by_state file (states tag) within (subst (IsWholeAt (states tag)) is (was tag) directory)))

  -- it is described anew: with the same size, or one that tells of a page more
  pub whole_described : (value : Attributes) → (IsDirectory files tag → value.size ≡ page_bytes * count_pages files tag) → AreWholeDirectories (with_changed tag (described value) states) (with_change tag (owned value) files)
  whole_described value size = whole_changed states files tag (described value) (owned value) was
      (λ file is directory. (directory, λ state whole. record { fits = whole.fits; size = size_of file is directory; keeps = whole.keeps; none = whole.none; index_fits = whole.index_fits; entries = whole.entries }))
    where
      size_of : (file : Bitfile) → files tag ≡ Some file → file.kind ≡ Directory → value.size ≡ page_bytes * length file.pages
      size_of file is directory = subst (λ (o : Option Bitfile). IsSomeAnd o (λ file. file.kind ≡ Directory) → value.size ≡ page_bytes * option_map_or (λ (file : Bitfile). length file.pages) o 0) is size directory

  pub whole_removed : AreWholeDirectories (without_state tag states) (without_file tag files)
  whole_removed = whole_beside states (without_state tag states) files (without_file tag files) tag (λ t other. ap (λ (b : Bool). cond b None (states t)) other) (λ t other. ap (λ (b : Bool). cond b None (files t)) other) was
      (subst (IsWholeAt (without_state tag states tag)) (sym (ap (λ (b : Bool). cond b None (files tag)) (same_tag_itself tag))) tt)

  pub whole_made : (what : NewFile) → AreWholeDirectories (with_state tag (new_state what tag) states) (with_file tag (shown_new what.kind what.uid what.gid) files)
  whole_made what = whole_beside states (with_state tag (new_state what tag) states) files (with_file tag shown files) tag (λ t other. ap (λ (b : Bool). cond b (Some (new_state what tag)) (states t)) other) (λ t other. ap (λ (b : Bool). cond b (Some shown) (files t)) other) was
      (subst (λ s. IsWholeAt s (with_file tag shown files tag)) (sym (ap (λ (b : Bool). cond b (Some (new_state what tag)) (states tag)) (same_tag_itself tag)))
      (subst (IsWholeAt (Some (new_state what tag))) (sym (ap (λ (b : Bool). cond b (Some shown) (files tag)) (same_tag_itself tag)))
      (λ directory. record { fits = omega arith; size = refl; keeps = refl; none = λ page behind. refl; index_fits = omega arith; entries = tt })))
    where
      shown : Bitfile
      shown = shown_new what.kind what.uid what.gid

  -- a page of its index is put, or one more is, and it is said how many entries that has
  pub whole_put : (index : IndexPlace) (number : ℕ) (page : List ℕ) → number < count_index files tag → ((file : Bitfile) → files tag ≡ Some file → index.entries ≡ total_on (with_entry number page file.index))
      → AreWholeDirectories (with_changed tag (indexed (Some index)) states) (with_change tag (put_index number page) files)
  whole_put index number page within total = whole_changed states files tag (indexed (Some index)) (put_index number page) was
      (λ file is directory.
      let inside : number < length file.index = subst (λ (o : Option Bitfile). number < option_map_or (λ (file : Bitfile). length file.index) o 0) is within in
      (directory, λ state whole. record { fits = whole.fits; size = whole.size; keeps = whole.keeps; none = whole.none; index_fits = omega (arith, replaced number page file.index inside, whole.index_fits); entries = total file is }))

  pub whole_inserted : (index : IndexPlace) (number : ℕ) (page : List ℕ) → count_index files tag + 1 < 2 ^ 32 → ((file : Bitfile) → files tag ≡ Some file → index.entries ≡ total_on (insert file.index number page))
      → AreWholeDirectories (with_changed tag (indexed (Some index)) states) (with_change tag (insert_index number page) files)
  whole_inserted index number page fits total = whole_changed states files tag (indexed (Some index)) (insert_index number page) was
      (λ file is directory.
      let more : length file.index + 1 < 2 ^ 32 = subst (λ (o : Option Bitfile). option_map_or (λ (file : Bitfile). length file.index) o 0 + 1 < 2 ^ 32) is fits in
      (directory, λ state whole. record { fits = whole.fits; size = whole.size; keeps = whole.keeps; none = whole.none; index_fits = omega (arith, inserted_length number page file.index, more); entries = total file is }))

  -- it gets a page after its last one, after its size was said
  pub whole_added : (value : Attributes) (number : ℕ) (home : Home) (page : List ℕ) → number ≡ count_pages files tag → number < file_pages → value.size ≡ page_bytes * (number + 1)
      → AreWholeDirectories (with_changed tag (placed number (At home)) (with_changed tag (described value) states)) (with_change tag (put_page number page) files)
  whole_added value number home page last small size = subst (λ (s : States). AreWholeDirectories s (with_change tag (put_page number page) files)) joins
      (whole_changed states files tag (λ s. placed number (At home) (described value s)) (put_page number page) was
      (λ file is directory.
      let ends : number ≡ length file.pages = subst (λ (o : Option Bitfile). number ≡ option_map_or (λ (file : Bitfile). length file.pages) o 0) is last in
      let count = joined number page file.pages ends in (
        directory,
        λ state whole. record {
          fits = omega (arith, small, ends, count);
          size = size ∙ ap (λ n. page_bytes * n) (omega (arith, ends, count));
          keeps = whole.keeps;
          none = λ k behind. ap (λ (b : Bool). cond b (At home) (state.places k)) (apart k number (omega (arith, behind, ends, count))) ∙ whole.none k (omega (arith, behind, ends, count));
          index_fits = whole.index_fits;
          entries = whole.entries;
        },
      )))
    where
      apart : (k n : ℕ) → n < k → nat_eq k n ≡ false
      apart k n less = by_eq (nat_eq k n) refl
        where
          by_eq : (b : Bool) → nat_eq k n ≡ b → b ≡ false
          by_eq true same = absurd (omega (arith, less, eqb-true k n same))
          by_eq false other = refl

      each : (t : Tag) → with_changed tag (λ s. placed number (At home) (described value s)) states t ≡ with_changed tag (placed number (At home)) (with_changed tag (described value) states) t
      each t = by_tag (same_tag t tag)
        where
          by_map : (o : Option FileState) → option_map (λ s. placed number (At home) (described value s)) o ≡ option_map (placed number (At home)) (option_map (described value) o)
          by_map None = refl
          by_map (Some s) = refl

          by_tag : (b : Bool) → cond b (option_map (λ s. placed number (At home) (described value s)) (states t)) (states t)
              ≡ cond b (option_map (placed number (At home)) (cond b (option_map (described value) (states t)) (states t))) (cond b (option_map (described value) (states t)) (states t))
          by_tag true = by_map (states t)
          by_tag false = refl

      joins : with_changed tag (λ s. placed number (At home) (described value s)) states ≡ with_changed tag (placed number (At home)) (with_changed tag (described value) states)
      joins = λ i t. each t i
