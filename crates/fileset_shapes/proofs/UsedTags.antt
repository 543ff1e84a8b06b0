-- Lists of tags in use, page after page and entry after entry.
use Rattle.std.proofs.Common.{◌≡◌, ◌∙◌, ◌⊎◌, inl, inr, ℕ, ◌+◌, ◌*◌, ◌/◌, ◌%◌, ◌^◌, ◌<◌, Bool, true, false, cond, nat_eq, List, [], ◌∷◌, ◌++◌, length, Option, Some, None, IsSome, Contains, slice_get, refl, sym, ap, subst, arith, ⊎_elim}
use Rattle.std.proofs.lemmas.Bool.{cases_lt, eqb-true}
use Rattle.std.proofs.lemmas.List.Elements.{Contains-append_left, Contains-push, Contains-push_cases}
use Rattle.std.specs.Option.{option_and_then, option_map}
use Rattle.filesets_reading.specs.domain_base.declared.place.CellAt.{CellAt}
use Rattle.filesets_reading.specs.domain_base.declared.place.Tag.{Tag}
use Rattle.filesets_reading.specs.page_store.Pages.{Pages}
use Rattle.filesets_reading.specs.cell_records.Fields.{number_at}
use Rattle.filesets_reading.specs.tag_dirs.declared.dir.TagPlace.{TagPlace}
use Rattle.filesets_reading.specs.tag_dirs.declared.page.TagEntry.{TagEntry}
use Rattle.filesets_reading.specs.tag_dirs.Directory.{IsDirectory, cell_for, cell_of, entry_at, sequence_of}
use Rattle.filesets_reading.proofs.OfTagDirs.Slots.{found}
use Rattle.filesets_reading.proofs.OfDomainLayout.Named.{entry_by}
use Rattle.filesets_reading.proofs.OfDomainLayout.OnePage.{some_same}
use Rattle.filesets_reading.proofs.Ways.{get_pushed, within_of}
use Rattle.filesets_reading.proofs.OfDirectoryRows.AllLed.{at_contains, contains_at}
use Rattle.fileset_shapes.specs.Tags.{IsOnFirst, IsTagOf, IsUsed, IsUsedOnFirst, IsUsedOnFirstEntries, ListsOnce}

no_bool : false ≡ true → ⊥
no_bool is = cc

-- ---- lists

-- the same tags
pub lists_same : (is now : Tag → Type 0) (tags : List Tag) → ListsOnce is tags → ((tag : Tag) → is tag → now tag) → ((tag : Tag) → now tag → is tag) → ListsOnce now tags
lists_same is now tags lists on back = record { each = λ tag. ((λ in_list. on tag ((lists.each tag).0 in_list)), (λ so. (lists.each tag).1 (back tag so))); once = lists.once; small = lists.small }

-- one more
pub lists_more : (is now : Tag → Type 0) (tags : List Tag) (more : Tag) → ListsOnce is tags → more.seq < 2 ^ 16 → ¬ is more → now more → ((tag : Tag) → is tag → now tag) → ((tag : Tag) → now tag → is tag ⊎ (more ≡ tag)) → ListsOnce now (tags ++ more ∷ [])
lists_more is now tags more lists low fresh joins on back = record { each = λ tag. (listed tag, holds tag); once = once; small = small }
  where
    listed : (tag : Tag) → Contains (tags ++ more ∷ []) tag → now tag
    listed tag in_list = ⊎_elim (λ front. on tag ((lists.each tag).0 front)) (λ last. subst now last joins) (Contains-push_cases tags more tag in_list)

    holds : (tag : Tag) → now tag → Contains (tags ++ more ∷ []) tag
    holds tag so =
        ⊎_elim (λ before. Contains-append_left tags (more ∷ []) tag ((lists.each tag).1 before))
        (λ last. subst (Contains (tags ++ more ∷ [])) last (Contains-push tags more)) (back tag so)

    apart : (i : ℕ) (tag : Tag) → slice_get tags i ≡ Some tag → more ≡ tag → ⊥
    apart i tag at last = fresh (subst is (sym last) ((lists.each tag).0 (contains_at tags i tag at)))

    once : (i j : ℕ) (tag : Tag) → slice_get (tags ++ more ∷ []) i ≡ Some tag → slice_get (tags ++ more ∷ []) j ≡ Some tag → i ≡ j
    once i j tag at also =
        ⊎_elim
        (λ front. ⊎_elim (λ both. lists.once i j tag front.1 both.1) (λ last. absurd (apart i tag front.1 last.1)) (get_pushed tags more j tag also))
        (λ last. ⊎_elim (λ front. absurd (apart j tag front.1 last.1)) (λ both. last.0 ∙ sym both.0) (get_pushed tags more j tag also))
        (get_pushed tags more i tag at)

    small : (tag : Tag) → Contains (tags ++ more ∷ []) tag → tag.seq < 2 ^ 16
    small tag in_list = ⊎_elim (λ front. lists.small tag front) (λ last. subst (λ (t : Tag). t.seq < 2 ^ 16) last low) (Contains-push_cases tags more tag in_list)

-- ---- tags of a slot

seq_used : (o : Option TagEntry) (seq : ℕ) → IsSome (option_and_then (cell_for seq) o) → option_map (λ (e : TagEntry). e.seq) o ≡ Some seq
seq_used None seq some = absurd (no_bool some)
seq_used (Some e) seq some = by_test (nat_eq e.seq seq) refl some
  where
    by_test : (b : Bool) → nat_eq e.seq seq ≡ b → IsSome (cond b e.at None) → Some e.seq ≡ Some seq
    by_test true is some = ap Some (eqb-true e.seq seq is)
    by_test false is some = absurd (no_bool some)

-- a slot has one tag in use at most
pub one_tag : (pages : Pages) (places : List TagPlace) (s t : Tag) → s.slot ≡ t.slot → IsUsed pages places s → IsUsed pages places t → s ≡ t
one_tag pages places s t same used also =
    let seqs : Some s.seq ≡ Some t.seq =
    sym (seq_used (entry_at pages places s.slot) s.seq used) ∙ ap (sequence_of pages places) same ∙ seq_used (entry_at pages places t.slot) t.seq also in
    let seq : s.seq ≡ t.seq = some_same s.seq t.seq seqs in
    (λ i. record { slot = same i; seq = seq i })

used_cell : (o : Option CellAt) → IsSome o → (at : CellAt) × (o ≡ Some at)
used_cell None some = absurd (no_bool some)
used_cell (Some at) some = (at, refl)

module _ (pages : Pages) (places : List TagPlace) (directory : IsDirectory pages places) where
  -- the tag in use of a page's entry is the one that the entry says
  pub entry_tag : (k : ℕ) (place : TagPlace) → slice_get places k ≡ Some place → (entry : ℕ) → entry < 1022 → (page : List ℕ) → pages place.home ≡ Some page
      → (said : Tag) → said.slot ≡ 1022 * place.index + entry → said.seq ≡ number_at 2 (16 + 8 * entry) page
      → (tag : Tag) → tag.slot ≡ 1022 * place.index + entry → IsUsed pages places tag → said ≡ tag
  entry_tag k place there entry within page stands said slot seq tag in_slot used =
      let cell = used_cell (cell_of pages places tag) used in
      let e = entry_by pages places tag cell.0 cell.1 in
      let f = found places (tag.slot / 1022) e.home e.on in
      let index : tag.slot / 1022 ≡ place.index = omega (arith, in_slot, within) in
      let at_entry : tag.slot % 1022 ≡ entry = omega (arith, in_slot, within) in
      let number : f.k ≡ k = directory.apart f.k k f.p place f.there there (f.indexed ∙ index) in
      let place_same : f.p ≡ place = some_same f.p place (sym f.there ∙ ap (slice_get places) number ∙ there) in
      let home : e.home ≡ place.home = sym f.stands ∙ ap (λ (p : TagPlace). p.home) place_same in
      let page_same : e.page ≡ page = some_same e.page page (sym e.there ∙ ap pages home ∙ stands) in
      let its_seq : number_at 2 (16 + 8 * (tag.slot % 1022)) e.page ≡ tag.seq = ap (λ (t : TagEntry). t.seq) e.used in
      let seq_same : said.seq ≡ tag.seq = seq ∙ (λ i. number_at 2 (16 + 8 * sym at_entry i) (sym page_same i)) ∙ its_seq in
      (λ i. record { slot = (slot ∙ sym in_slot) i; seq = seq_same i })

  -- where that one is not used, no tag of the slot is
  pub unused_slot : (k : ℕ) (place : TagPlace) → slice_get places k ≡ Some place → (entry : ℕ) → entry < 1022 → (page : List ℕ) → pages place.home ≡ Some page
      → (said : Tag) → said.slot ≡ 1022 * place.index + entry → said.seq ≡ number_at 2 (16 + 8 * entry) page → cell_of pages places said ≡ None
      → (tag : Tag) → tag.slot ≡ 1022 * place.index + entry → cell_of pages places tag ≡ None
  unused_slot k place there entry within page stands said slot seq none tag in_slot = by_cell (cell_of pages places tag) refl
    where
      by_cell : (o : Option CellAt) → cell_of pages places tag ≡ o → o ≡ None
      by_cell None is = refl
      by_cell (Some at) is =
          let same : said ≡ tag = entry_tag k place there entry within page stands said slot seq tag in_slot (subst IsSome (sym is) refl) in
          sym is ∙ ap (cell_of pages places) (sym same) ∙ none

  -- a tag in use is on one of the pages
  pub on_pages : (tag : Tag) → IsUsed pages places tag → IsOnFirst places (length places) tag.slot
  on_pages tag used =
      let cell = used_cell (cell_of pages places tag) used in
      let e = entry_by pages places tag cell.0 cell.1 in
      let f = found places (tag.slot / 1022) e.home e.on in
      record { k = f.k; within = within_of places f.k f.p f.there; place = f.p; there = f.there; has = sym f.indexed }

  -- no page has a slot of another one
  pub not_before : (count : ℕ) (place : TagPlace) → slice_get places count ≡ Some place → (slot : ℕ) → slot / 1022 ≡ place.index → ¬ IsOnFirst places count slot
  not_before count place there slot has on =
      let same : on.k ≡ count = directory.apart on.k count on.place place on.there there (sym on.has ∙ has) in
      omega (arith, same, on.within)

  -- ---- entry after entry

  module _ (count : ℕ) (place : TagPlace) (there : slice_get places count ≡ Some place) where
    slot_of_entry : (entry slot : ℕ) → entry < 1022 → slot ≡ 1022 * place.index + entry → (slot / 1022 ≡ place.index) × (slot % 1022 ≡ entry)
    slot_of_entry entry slot within is = (omega (arith, is, within), omega (arith, is, within))

    pub entries_begin : (tags : List Tag) → ListsOnce (IsUsedOnFirst pages places count) tags → ListsOnce (IsUsedOnFirstEntries pages places count place 0) tags
    entries_begin tags lists =
        lists_same (IsUsedOnFirst pages places count) (IsUsedOnFirstEntries pages places count place 0) tags lists
        (λ tag is. (inl is.0, is.1)) (λ tag is. ⊎_elim (λ on. (on, is.1)) (λ none. absurd (omega (arith, none.1))) is.0)

    pub entry_none : (entry : ℕ) → entry < 1022 → ((tag : Tag) → tag.slot ≡ 1022 * place.index + entry → cell_of pages places tag ≡ None)
        → (tags : List Tag) → ListsOnce (IsUsedOnFirstEntries pages places count place entry) tags → ListsOnce (IsUsedOnFirstEntries pages places count place (entry + 1)) tags
    entry_none entry within none tags lists =
        lists_same (IsUsedOnFirstEntries pages places count place entry) (IsUsedOnFirstEntries pages places count place (entry + 1)) tags lists
        (λ tag is. (⊎_elim (λ on. inl on) (λ low. inr (low.0, omega (arith, low.1))) is.0, is.1)) back
      where
        back : (tag : Tag) → IsUsedOnFirstEntries pages places count place (entry + 1) tag → IsUsedOnFirstEntries pages places count place entry tag
        back tag is =
            ⊎_elim (λ on. (inl on, is.1))
            (λ low. ⊎_elim (λ less. (inr (low.0, less), is.1))
            (λ high.
            let slot : tag.slot ≡ 1022 * place.index + entry = omega (arith, low.0, low.1, high) in
            absurd (no_bool (subst IsSome (none tag slot) is.1)))
            (cases_lt (tag.slot % 1022) entry)) is.0

    pub entry_more : (entry : ℕ) → entry < 1022 → (more : Tag) → IsTagOf pages places (1022 * place.index + entry) more
        → (tags : List Tag) → ListsOnce (IsUsedOnFirstEntries pages places count place entry) tags → ListsOnce (IsUsedOnFirstEntries pages places count place (entry + 1)) (tags ++ more ∷ [])
    entry_more entry within more of tags lists =
        lists_more (IsUsedOnFirstEntries pages places count place entry) (IsUsedOnFirstEntries pages places count place (entry + 1)) tags more lists of.small fresh joins
        (λ tag is. (⊎_elim (λ on. inl on) (λ low. inr (low.0, omega (arith, low.1))) is.0, is.1)) back
      where
        split : (more.slot / 1022 ≡ place.index) × (more.slot % 1022 ≡ entry)
        split = slot_of_entry entry more.slot within of.slot_is

        fresh : ¬ IsUsedOnFirstEntries pages places count place entry more
        fresh is = ⊎_elim (λ on. not_before count place there more.slot split.0 on) (λ low. omega (arith, low.1, split.1)) is.0

        joins : IsUsedOnFirstEntries pages places count place (entry + 1) more
        joins = (inr (split.0, omega (arith, split.1)), of.used)

        back : (tag : Tag) → IsUsedOnFirstEntries pages places count place (entry + 1) tag → IsUsedOnFirstEntries pages places count place entry tag ⊎ (more ≡ tag)
        back tag is =
            ⊎_elim (λ on. inl (inl on, is.1))
            (λ low. ⊎_elim (λ less. inl (inr (low.0, less), is.1))
            (λ high.
            let slot : more.slot ≡ tag.slot = omega (arith, low.0, low.1, high, of.slot_is) in
            inr (one_tag pages places more tag slot of.used is.1))
            (cases_lt (tag.slot % 1022) entry)) is.0

    pub entries_end : (tags : List Tag) → ListsOnce (IsUsedOnFirstEntries pages places count place 1022) tags → ListsOnce (IsUsedOnFirst pages places (count + 1)) tags
    entries_end tags lists =
        lists_same (IsUsedOnFirstEntries pages places count place 1022) (IsUsedOnFirst pages places (count + 1)) tags lists on back
      where
        on : (tag : Tag) → IsUsedOnFirstEntries pages places count place 1022 tag → IsUsedOnFirst pages places (count + 1) tag
        on tag is = (
          ⊎_elim (λ (first : IsOnFirst places count tag.slot). record { k = first.k; within = omega (arith, first.within); place = first.place; there = first.there; has = first.has })
              (λ last. record { k = count; within = omega arith; place = place; there = there; has = last.0 }) is.0,
          is.1,
        )

        back : (tag : Tag) → IsUsedOnFirst pages places (count + 1) tag → IsUsedOnFirstEntries pages places count place 1022 tag
        back tag is = (
          ⊎_elim (λ less. inl (record { k = is.0.k; within = less; place = is.0.place; there = is.0.there; has = is.0.has }))
              (λ high.
              let number : is.0.k ≡ count = omega (arith, high, is.0.within) in
              let same : is.0.place ≡ place = some_same is.0.place place (sym is.0.there ∙ ap (slice_get places) number ∙ there) in
              inr (is.0.has ∙ ap (λ (p : TagPlace). p.index) same, omega arith))
              (cases_lt is.0.k count),
          is.1,
        )

  -- ---- page after page

  pub pages_begin : ListsOnce (IsUsedOnFirst pages places 0) []
  pages_begin = record {
    each = λ tag. ((λ in_list. absurd (omega (arith, in_list.1))), (λ is. absurd (omega (arith, is.0.within))));
    once = λ i j tag at also. absurd (let e : None ≡ Some tag = at in absurd (cc));
    small = λ tag in_list. absurd (omega (arith, in_list.1));
  }

  pub pages_end : (tags : List Tag) → ListsOnce (IsUsedOnFirst pages places (length places)) tags → ListsOnce (IsUsed pages places) tags
  pages_end tags lists = lists_same (IsUsedOnFirst pages places (length places)) (IsUsed pages places) tags lists (λ tag is. is.1) (λ tag used. (on_pages tag used, used))

-- ---- the tags of two directories

-- of the tags of the other those are taken that the first does not have in use
abbrev pub IsUsedIn : Pages → List TagPlace → List Tag → ℕ → Tag → Type 0
IsUsedIn pages places more count tag = IsUsed pages places tag ⊎ ((k : ℕ) × (k < count) × (slice_get more k ≡ Some tag))

module _ (pages : Pages) (places behind : List TagPlace) (more : List Tag) (lists_behind : ListsOnce (IsUsed pages behind) more) where
  pub both_begin : (tags : List Tag) → ListsOnce (IsUsed pages places) tags → ListsOnce (IsUsedIn pages places more 0) tags
  both_begin tags lists = lists_same (IsUsed pages places) (IsUsedIn pages places more 0) tags lists (λ tag is. inl is) (λ tag is. ⊎_elim (λ own. own) (λ none. absurd (omega (arith, none.1))) is)

  one_on : (k : ℕ) (tag : Tag) → IsUsedIn pages places more k tag → IsUsedIn pages places more (k + 1) tag
  one_on k tag is = ⊎_elim (λ own. inl own) (λ found. inr (found.0, omega (arith, found.1), found.2)) is

  one_back : (k : ℕ) (next tag : Tag) → slice_get more k ≡ Some next → IsUsedIn pages places more (k + 1) tag → IsUsedIn pages places more k tag ⊎ (next ≡ tag)
  one_back k next tag at is =
      ⊎_elim (λ own. inl (inl own))
      (λ found. ⊎_elim (λ less. inl (inr (found.0, less, found.2)))
      (λ high.
      let number : found.0 ≡ k = omega (arith, high, found.1) in
      inr (some_same next tag (sym at ∙ ap (slice_get more) (sym number) ∙ found.2)))
      (cases_lt found.0 k)) is

  pub both_used : (k : ℕ) (next : Tag) → slice_get more k ≡ Some next → IsUsed pages places next → (tags : List Tag) → ListsOnce (IsUsedIn pages places more k) tags → ListsOnce (IsUsedIn pages places more (k + 1)) tags
  both_used k next at used tags lists =
      lists_same (IsUsedIn pages places more k) (IsUsedIn pages places more (k + 1)) tags lists (one_on k)
      (λ tag is. ⊎_elim (λ before. before) (λ last. inl (subst (IsUsed pages places) last used)) (one_back k next tag at is))

  pub both_more : (k : ℕ) (next : Tag) → slice_get more k ≡ Some next → cell_of pages places next ≡ None → (tags : List Tag) → ListsOnce (IsUsedIn pages places more k) tags
      → ListsOnce (IsUsedIn pages places more (k + 1)) (tags ++ next ∷ [])
  both_more k next at unused tags lists =
      lists_more (IsUsedIn pages places more k) (IsUsedIn pages places more (k + 1)) tags next lists (lists_behind.small next (contains_at more k next at)) fresh (inr (k, omega arith, at)) (one_on k) (λ tag is. one_back k next tag at is)
    where
      fresh : ¬ IsUsedIn pages places more k next
      fresh is =
          ⊎_elim (λ own. no_bool (subst IsSome unused own))
          (λ found. let same : found.0 ≡ k = lists_behind.once found.0 k next found.2 at in omega (arith, same, found.1)) is

  pub both_end : (tags : List Tag) → ListsOnce (IsUsedIn pages places more (length more)) tags → ListsOnce (λ tag. IsUsed pages places tag ⊎ IsUsed pages behind tag) tags
  both_end tags lists =
      lists_same (IsUsedIn pages places more (length more)) (λ tag. IsUsed pages places tag ⊎ IsUsed pages behind tag) tags lists
      (λ tag is. ⊎_elim (λ own. inl own) (λ found. inr ((lists_behind.each tag).0 (contains_at more found.0 tag found.2))) is)
      (λ tag is. ⊎_elim (λ own. inl own) (λ used. let place = (lists_behind.each tag).1 used in inr (listed tag place)) is)
    where
      listed : (tag : Tag) → Contains more tag → (k : ℕ) × (k < length more) × (slice_get more k ≡ Some tag)
      listed tag place = let at = at_contains more tag place in (at.0, within_of more at.0 tag at.1, at.1)
