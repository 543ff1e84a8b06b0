-- Lists of the files of a fileset, tag after tag.
use Rattle.std.proofs.Common.{◌≡◌, ◌∙◌, ℕ, ◌+◌, ◌<◌, List, [], ◌∷◌, ◌++◌, length, Some, None, Contains, slice_get, sym, ap, subst, arith, ⊎_elim}
use Rattle.std.proofs.lemmas.Bool.{cases_lt}
use Rattle.std.proofs.lemmas.List.Elements.{Contains-append_left, Contains-push, Contains-push_cases}
use Rattle.index_row_faults.specs.domain_base.declared.place.Tag.{Tag}
use Rattle.index_row_faults.specs.metadata_cells.Chain.{PlacedCell}
use Rattle.index_row_faults.specs.domain_layout.Reached.{Frame}
use Rattle.index_row_faults.specs.domain_layout.Seen.{SeenFile}
use Rattle.index_row_faults.proofs.OfDomainLayout.OnePage.{some_same}
use Rattle.index_row_faults.proofs.OfFilesetsReading.Ways.{get_pushed, within_of}
use Rattle.index_row_faults.specs.fileset_shapes.Tags.{ListsOnce}
use Rattle.index_row_faults.specs.directory_faults.There.{WasRead}
use Rattle.index_row_faults.specs.directory_faults.declared.there.FileThere.{FileThere}
use Rattle.index_row_faults.proofs.OfDirectoryRows.AllLed.{at_contains}
use Rattle.slot_files.specs.Files.{AreAllSo, IsReadSo, ReadsSo}

-- the files of the first tags, and no other
pub record AreSoFar (frame : Frame) (is : Tag → List PlacedCell → SeenFile → Type 0) (tags : List Tag) (count : ℕ) (files : List FileThere) : Type 0 where
  pub each : (file : FileThere) → Contains files file → IsReadSo frame (is file.tag) file
  pub all : (k : ℕ) (tag : Tag) → k < count → slice_get tags k ≡ Some tag → (cells : List PlacedCell) (seen : SeenFile) → is tag cells seen → WasRead frame files tag cells seen
  pub only : (place : ℕ) (file : FileThere) → slice_get files place ≡ Some file → (k : ℕ) × (k < count) × (slice_get tags k ≡ Some file.tag)
  pub once : (i j : ℕ) (one other : FileThere) → slice_get files i ≡ Some one → slice_get files j ≡ Some other → one.tag ≡ other.tag → i ≡ j

module _ (frame : Frame) (is : Tag → List PlacedCell → SeenFile → Type 0) (used : Tag → Type 0) (tags : List Tag) (lists : ListsOnce used tags) where
  pub far_begin : AreSoFar frame is tags 0 []
  far_begin = record {
    each = λ file among. absurd (omega (arith, among.1));
    all = λ k tag less at. absurd (omega (arith, less));
    only = λ place file at. absurd (let e : None ≡ Some file = at in absurd (cc));
    once = λ i j one other at also same. absurd (let e : None ≡ Some one = at in absurd (cc));
  }

  module _ (count : ℕ) (tag : Tag) (at : slice_get tags count ≡ Some tag) (files : List FileThere) (are : AreSoFar frame is tags count files) where
    pub far_none : ReadsSo frame tag (is tag) None → AreSoFar frame is tags (count + 1) files
    far_none reads = record {
      each = are.each;
      all = λ k t less here cells seen so.
          ⊎_elim (λ low. are.all k t low here cells seen so)
          (λ high.
          let number : k ≡ count = omega (arith, high, less) in
          let same : t ≡ tag = some_same t tag (sym here ∙ ap (slice_get tags) number ∙ at) in
          absurd (reads.all cells seen (subst (λ t'. is t' cells seen) same so)))
          (cases_lt k count);
      only = λ place file here. let from = are.only place file here in (from.0, omega (arith, from.1), from.2);
      once = are.once;
    }

    pub far_one : (file : FileThere) → ReadsSo frame tag (is tag) (Some file) → AreSoFar frame is tags (count + 1) (files ++ file ∷ [])
    far_one file reads = record { each = each; all = all; only = only; once = once }
      where
        of : file.tag ≡ tag
        of = reads.each.0

        each : (one : FileThere) → Contains (files ++ file ∷ []) one → IsReadSo frame (is one.tag) one
        each one among =
            ⊎_elim (λ front. are.each one front)
            (λ last. subst (λ (f : FileThere). IsReadSo frame (is f.tag) f) last (subst (λ t. IsReadSo frame (is t) file) (sym of) reads.each.1))
            (Contains-push_cases files file one among)

        kept : (t : Tag) (cells : List PlacedCell) (seen : SeenFile) → WasRead frame files t cells seen → WasRead frame (files ++ file ∷ []) t cells seen
        kept t cells seen was = record { file = was.file; among = Contains-append_left files (file ∷ []) was.file was.among; tag_is = was.tag_is; read = was.read }

        all : (k : ℕ) (t : Tag) → k < count + 1 → slice_get tags k ≡ Some t → (cells : List PlacedCell) (seen : SeenFile) → is t cells seen → WasRead frame (files ++ file ∷ []) t cells seen
        all k t less here cells seen so =
            ⊎_elim (λ low. kept t cells seen (are.all k t low here cells seen so))
            (λ high.
            let number : k ≡ count = omega (arith, high, less) in
            let same : t ≡ tag = some_same t tag (sym here ∙ ap (slice_get tags) number ∙ at) in
            record {
              file = file;
              among = Contains-push files file;
              tag_is = of ∙ sym same;
              read = reads.all cells seen (subst (λ t'. is t' cells seen) same so);
            })
            (cases_lt k count)

        only : (place : ℕ) (one : FileThere) → slice_get (files ++ file ∷ []) place ≡ Some one → (k : ℕ) × (k < count + 1) × (slice_get tags k ≡ Some one.tag)
        only place one here =
            ⊎_elim (λ front. let from = are.only place one front.1 in (from.0, omega (arith, from.1), from.2))
            (λ last. (count, omega arith, at ∙ ap (λ t. Some t) (sym of ∙ ap (λ (f : FileThere). f.tag) last.1)))
            (get_pushed files file place one here)

        apart : (place : ℕ) (one : FileThere) → slice_get files place ≡ Some one → ¬ one.tag ≡ file.tag
        apart place one here same =
            let from = are.only place one here in
            let number : from.0 ≡ count = lists.once from.0 count tag (from.2 ∙ ap (λ t. Some t) (same ∙ of)) at in
            omega (arith, number, from.1)

        once : (i j : ℕ) (one other : FileThere) → slice_get (files ++ file ∷ []) i ≡ Some one → slice_get (files ++ file ∷ []) j ≡ Some other → one.tag ≡ other.tag → i ≡ j
        once i j one other here there same =
            ⊎_elim
            (λ front. ⊎_elim (λ both. are.once i j one other front.1 both.1 same)
            (λ last. absurd (apart i one front.1 (same ∙ ap (λ (f : FileThere). f.tag) (sym last.1)))) (get_pushed files file j other there))
            (λ last. ⊎_elim (λ front. absurd (apart j other front.1 (sym same ∙ ap (λ (f : FileThere). f.tag) (sym last.1))))
            (λ both. last.0 ∙ sym both.0) (get_pushed files file j other there)) (get_pushed files file i one here)

  -- nothing is where no tag of the list is
  pub far_end : (files : List FileThere) → AreSoFar frame is tags (length tags) files → ((tag : Tag) (cells : List PlacedCell) (seen : SeenFile) → is tag cells seen → used tag) → AreAllSo frame is files
  far_end files are uses = record {
    each = are.each;
    all = λ tag cells seen so.
        let place = at_contains tags tag ((lists.each tag).1 (uses tag cells seen so)) in
        are.all place.0 tag (within_of tags place.0 tag place.1) place.1 cells seen so;
    once = are.once;
  }
