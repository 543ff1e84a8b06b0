-- Lists of files under their tags, with one file more.
use Rattle.std.proofs.Common.{◌≡◌, ◌∙◌, ◌⊎◌, ℕ, suc, ◌+◌, ◌<◌, Bool, true, false, cond, List, [], ◌∷◌, ◌++◌, length, Option, Some, None, slice_get, refl, sym, ap, subst, arith, ⊎_elim}
use Rattle.std.proofs.lemmas.Bool.{cases_lt}
use Rattle.filesets_reading.specs.domain_base.declared.place.Tag.{Tag}
use Rattle.filesets_reading.specs.page_store.Bitfiles.{same_tag}
use Rattle.filesets_reading.proofs.OfFilesetFiles.OneChain.{same_tag_itself}
use Rattle.filesets_reading.proofs.OfFilesetFiles.OneFile.{tags_same}
use Rattle.filesets_reading.proofs.OfDomainLayout.OnePage.{some_same}
use Rattle.filesets_reading.proofs.Ways.{get_pushed, within_of}
use Rattle.filesets_reading.proofs.OfDirectoryRows.AllLed.{at_contains, contains_at}
use Rattle.fileset_shapes.specs.Found.{HaveOwnTags, file_at}
use Rattle.fileset_shapes.specs.Tags.{ListsOnce}
use Rattle.fileset_shapes.specs.declared.found.TaggedFile.{TaggedFile}

-- ---- one file more

-- a file that is found stands in the list, under its tag
pub record FoundAt (files : List TaggedFile) (tag : Tag) (file : TaggedFile) : Type 0 where
  pub place : ℕ
  pub there : slice_get files place ≡ Some file
  pub tag_is : file.tag ≡ tag

pub found_at : (files : List TaggedFile) (tag : Tag) (file : TaggedFile) → file_at files tag ≡ Some file → FoundAt files tag file
found_at [] tag file is = absurd (let e : None ≡ Some file = is in absurd (cc))
found_at (one ∷ more) tag file is = by_test (found_at more tag file) (same_tag one.tag tag) refl is
  where
    by_test : (file_at more tag ≡ Some file → FoundAt more tag file) → (b : Bool) → same_tag one.tag tag ≡ b → cond b (Some one) (file_at more tag) ≡ Some file → FoundAt (one ∷ more) tag file
    by_test later true same is = let e = some_same one file is in record { place = 0; there = is; tag_is = ap (λ (f : TaggedFile). f.tag) (sym e) ∙ tags_same one.tag tag same }
    by_test later false other is = let rest = later is in record { place = suc rest.place; there = rest.there; tag_is = rest.tag_is }

-- another file after one that is found changes nothing
front_stays : (files : List TaggedFile) (more file : TaggedFile) (tag : Tag) → file_at files tag ≡ Some file → file_at (files ++ more ∷ []) tag ≡ Some file
front_stays [] more file tag is = absurd (let e : None ≡ Some file = is in absurd (cc))
front_stays (one ∷ rest) more file tag is = by_test (front_stays rest more file tag) (same_tag one.tag tag) is
  where
    by_test : (file_at rest tag ≡ Some file → file_at (rest ++ more ∷ []) tag ≡ Some file) → (b : Bool) → cond b (Some one) (file_at rest tag) ≡ Some file → cond b (Some one) (file_at (rest ++ more ∷ []) tag) ≡ Some file
    by_test later true is = is
    by_test later false is = later is

-- if none is found before it, the file after all others is
behind_all : (files : List TaggedFile) (more : TaggedFile) (tag : Tag) → file_at files tag ≡ None → file_at (files ++ more ∷ []) tag ≡ cond (same_tag more.tag tag) (Some more) None
behind_all [] more tag none = refl
behind_all (one ∷ rest) more tag none = by_test (behind_all rest more tag) (same_tag one.tag tag) none
  where
    by_test : (file_at rest tag ≡ None → file_at (rest ++ more ∷ []) tag ≡ cond (same_tag more.tag tag) (Some more) None) → (b : Bool) → cond b (Some one) (file_at rest tag) ≡ None → cond b (Some one) (file_at (rest ++ more ∷ []) tag) ≡ cond (same_tag more.tag tag) (Some more) None
    by_test later true some = absurd (let e : None ≡ Some one = sym some in absurd (cc))
    by_test later false none = later none

-- the file is found under its own tag, if none stood there
own_found : (files : List TaggedFile) (more : TaggedFile) → file_at files more.tag ≡ None → file_at (files ++ more ∷ []) more.tag ≡ Some more
own_found files more none = behind_all files more more.tag none ∙ ap (λ b. cond b (Some more) None) (same_tag_itself more.tag)

-- under another tag the same is found as before
other_found : (files : List TaggedFile) (more : TaggedFile) (tag : Tag) → ¬ more.tag ≡ tag → file_at (files ++ more ∷ []) tag ≡ file_at files tag
other_found files more tag other = by_found (file_at files tag) refl
  where
    no_test : (b : Bool) → same_tag more.tag tag ≡ b → cond b (Some more) None ≡ None
    no_test true same = absurd (other (tags_same more.tag tag same))
    no_test false differ = refl

    by_found : (o : Option TaggedFile) → file_at files tag ≡ o → file_at (files ++ more ∷ []) tag ≡ o
    by_found None none = behind_all files more tag none ∙ no_test (same_tag more.tag tag) refl
    by_found (Some file) is = front_stays files more file tag is

-- ---- tag after tag

-- the files of the first tags of a list were read, and no other
pub record AreRead (ReadsAt : Tag → Option TaggedFile → Type 0) (tags : List Tag) (count : ℕ) (files : List TaggedFile) : Type 0 where
  pub once : HaveOwnTags files
  pub done : (k : ℕ) (tag : Tag) → k < count → slice_get tags k ≡ Some tag → ReadsAt tag (file_at files tag)
  pub only : (place : ℕ) (file : TaggedFile) → slice_get files place ≡ Some file → (k : ℕ) × (k < count) × (slice_get tags k ≡ Some file.tag)

module _ (ReadsAt : Tag → Option TaggedFile → Type 0) (is : Tag → Type 0) (tags : List Tag) (lists : ListsOnce is tags) where
  pub read_begin : AreRead ReadsAt tags 0 []
  read_begin = record {
    once = λ i j one other at also same. absurd (let e : None ≡ Some one = at in absurd (cc));
    done = λ k tag less at. absurd (omega (arith, less));
    only = λ place file at. absurd (let e : None ≡ Some file = at in absurd (cc));
  }

  module _ (count : ℕ) (tag : Tag) (at : slice_get tags count ≡ Some tag) (files : List TaggedFile) (are : AreRead ReadsAt tags count files) where
    -- no file stands yet under the next tag
    not_yet : file_at files tag ≡ None
    not_yet = by_found (file_at files tag) refl
      where
        by_found : (o : Option TaggedFile) → file_at files tag ≡ o → o ≡ None
        by_found None none = refl
        by_found (Some file) found =
            let f = found_at files tag file found in
            let from = are.only f.place file f.there in
            let same : from.0 ≡ count = lists.once from.0 count tag (from.2 ∙ ap (λ t. Some t) f.tag_is) at in
            absurd (omega (arith, same, from.1))

    pub read_none : ReadsAt tag None → AreRead ReadsAt tags (count + 1) files
    read_none none = record {
      once = are.once;
      done = λ k t less here.
          ⊎_elim (λ low. are.done k t low here)
          (λ high.
          let number : k ≡ count = omega (arith, high, less) in
          let same : tag ≡ t = some_same tag t (sym at ∙ ap (slice_get tags) (sym number) ∙ here) in
          subst (λ t'. ReadsAt t' (file_at files t')) same (subst (ReadsAt tag) (sym not_yet) none))
          (cases_lt k count);
      only = λ place file here. let from = are.only place file here in (from.0, omega (arith, from.1), from.2);
    }

    pub read_one : (file : TaggedFile) → file.tag ≡ tag → ReadsAt tag (Some file) → AreRead ReadsAt tags (count + 1) (files ++ file ∷ [])
    read_one file of reads = record { once = once; done = done; only = only }
      where
        fresh : file_at files file.tag ≡ None
        fresh = ap (file_at files) of ∙ not_yet

        apart : (place : ℕ) (one : TaggedFile) → slice_get files place ≡ Some one → ¬ one.tag ≡ file.tag
        apart place one here same =
            let from = are.only place one here in
            let number : from.0 ≡ count = lists.once from.0 count tag (from.2 ∙ ap (λ t. Some t) (same ∙ of)) at in
            omega (arith, number, from.1)

        once : HaveOwnTags (files ++ file ∷ [])
        once i j one other here there same =
            ⊎_elim
            (λ front. ⊎_elim (λ both. are.once i j one other front.1 both.1 same)
            (λ last. absurd (apart i one front.1 (same ∙ ap (λ (f : TaggedFile). f.tag) (sym last.1)))) (get_pushed files file j other there))
            (λ last. ⊎_elim (λ front. absurd (apart j other front.1 (sym same ∙ ap (λ (f : TaggedFile). f.tag) (sym last.1))))
            (λ both. last.0 ∙ sym both.0) (get_pushed files file j other there)) (get_pushed files file i one here)

        done : (k : ℕ) (t : Tag) → k < count + 1 → slice_get tags k ≡ Some t → ReadsAt t (file_at (files ++ file ∷ []) t)
        done k t less here =
            ⊎_elim (λ low. subst (ReadsAt t) (sym (other_found files file t (λ same. other_tag k t low here same))) (are.done k t low here))
            (λ high.
            let number : k ≡ count = omega (arith, high, less) in
            let same : tag ≡ t = some_same tag t (sym at ∙ ap (slice_get tags) (sym number) ∙ here) in
            subst (λ t'. ReadsAt t' (file_at (files ++ file ∷ []) t')) (of ∙ same)
            (subst (ReadsAt file.tag) (sym (own_found files file fresh)) (subst (λ t'. ReadsAt t' (Some file)) (sym of) reads)))
            (cases_lt k count)
          where
            other_tag : (k : ℕ) (t : Tag) → k < count → slice_get tags k ≡ Some t → file.tag ≡ t → ⊥
            other_tag k t low here same =
                let number : k ≡ count = lists.once k count tag (here ∙ ap (λ t'. Some t') (sym same ∙ of)) at in
                omega (arith, number, low)

        only : (place : ℕ) (one : TaggedFile) → slice_get (files ++ file ∷ []) place ≡ Some one → (k : ℕ) × (k < count + 1) × (slice_get tags k ≡ Some one.tag)
        only place one here =
            ⊎_elim (λ front. let from = are.only place one front.1 in (from.0, omega (arith, from.1), from.2))
            (λ last. (count, omega arith, at ∙ ap (λ t. Some t) (sym of ∙ ap (λ (f : TaggedFile). f.tag) last.1)))
            (get_pushed files file place one here)

  -- all were read, and nothing is where no tag leads
  pub read_end : (files : List TaggedFile) → AreRead ReadsAt tags (length tags) files → ((tag : Tag) → is tag ⊎ (¬ is tag × ReadsAt tag None)) → (tag : Tag) → ReadsAt tag (file_at files tag)
  read_end files are decided tag = ⊎_elim used unused (decided tag)
    where
      used : is tag → ReadsAt tag (file_at files tag)
      used so = let at = at_contains tags tag ((lists.each tag).1 so) in are.done at.0 tag (within_of tags at.0 tag at.1) at.1

      unused : ¬ is tag × ReadsAt tag None → ReadsAt tag (file_at files tag)
      unused none = by_found (file_at files tag) refl
        where
          by_found : (o : Option TaggedFile) → file_at files tag ≡ o → ReadsAt tag o
          by_found None at = none.1
          by_found (Some file) found =
              let f = found_at files tag file found in
              let from = are.only f.place file f.there in
              absurd (none.0 (subst is f.tag_is ((lists.each file.tag).0 (contains_at tags from.0 file.tag from.2))))
