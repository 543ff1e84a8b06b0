-- Pages of tag directories that are found to break a rule are those of the rules.
use Rattle.std.proofs.Common.{◌≡◌, ◌∙◌, ◌↔◌, inl, inr, ℕ, ◌<◌, ◌≤◌, List, length, Contains, Option, Some, None, slice_get, refl, sym, ap, subst, arith, ⊎_elim}
use Rattle.std.proofs.lemmas.Option.{get_or_from_slice_get, slice_get_read, slice_get_within}
use Rattle.cell_faults.specs.domain_base.declared.place.Home.{Home}
use Rattle.cell_faults.specs.page_store.Pages.{Pages}
use Rattle.cell_faults.specs.tag_dirs.TagPage.{index_of}
use Rattle.cell_faults.specs.fileset_table.Table.{Table}
use Rattle.cell_faults.specs.domain_layout.Layout.{first_tag_of}
use Rattle.cell_faults.specs.domain_layout.Reached.{Frame, IsRead, IsUnread, tags_way}
use Rattle.cell_faults.specs.domain_layout.TagRules.{HasTags, IsTagsPage}
use Rattle.cell_faults.specs.page_ways.Walk.{AreRead}
use Rattle.tag_faults.specs.Directories.{HasIndexBefore, HasIndexThere, HasPage, HasWrongPage, IsDirectoryFault, IsFaultBehind, IsReadOf, IsWrongAmong, IsWrongPage, IsWrongThere}
use Rattle.tag_faults.proofs.Counted.{IsBelow, one_item, within_of}

some_same : {X : Type 0} (a b : X) → Some a ≡ Some b → a ≡ b
some_same a b e = cc

none_some : {X : Type 0} (x : X) → None ≡ Some x → ⊥
none_some x e = cc

-- ---- the pages of one directory, looked at in their order

module _ (pages : Pages) (homes : List Home) where
  abbrev pub HasIndexAt : ℕ → ℕ → Type 0
  HasIndexAt index k = (home : Home) × (slice_get homes k ≡ Some home) × HasIndexThere pages home index

  abbrev pub IsWrongAt : Home → ℕ → Type 0
  IsWrongAt home place = (slice_get homes place ≡ Some home) × IsWrongThere pages place home (HasIndexBefore pages homes place)

  pub here_index : (place : ℕ) (item : Home) (index : ℕ) → slice_get homes place ≡ Some item → HasIndexAt index place → HasIndexThere pages item index
  here_index place item index at (home, there, has) = subst (λ h. HasIndexThere pages h index) (some_same home item (sym there ∙ at)) has

  -- a page is wrong by what was seen exactly where it is by the pages in front of it
  same_wrong : (page : List ℕ) (place : ℕ) (Seen Other : ℕ → Type 0) → ((n : ℕ) → Seen n → Other n) → IsWrongPage page place Seen → IsWrongPage page place Other
  same_wrong page place Seen Other same (inl bad) = inl bad
  same_wrong page place Seen Other same (inr (inl first)) = inr (inl first)
  same_wrong page place Seen Other same (inr (inr seen)) = inr (inr (same (index_of page) seen))

  pub wrong_at : (home : Home) (place : ℕ) (item : Home) → slice_get homes place ≡ Some item → (Seen : ℕ → Type 0) → ((n : ℕ) → Seen n ↔ HasIndexBefore pages homes place n)
      → ((item ≡ home) × IsWrongThere pages place item Seen) ↔ IsWrongAt home place
  wrong_at home place item at Seen same = (
    λ (is, (page, there, wrong)). (at ∙ ap (λ h. Some h) is, subst (λ h. IsWrongThere pages place h (HasIndexBefore pages homes place)) is (page, there, same_wrong page place Seen (HasIndexBefore pages homes place) (λ n. (same n).0) wrong)),
    λ (there, wrong). let is = some_same item home (sym at ∙ there) in
        (is, subst (λ h. IsWrongThere pages place h Seen) (sym is) (wrong.0, wrong.1, same_wrong wrong.0 place (HasIndexBefore pages homes place) Seen (λ n. (same n).1) wrong.2)),
  )

-- ---- the directory of a slot

module _ (pages : Pages) (frame : Frame) (table : Table) where
  one_first : (number : ℕ) (a b : Home) → HasTags table number a → HasTags table number b → a ≡ b
  one_first number a b one other =
      let items = one_item table.slots number one.item other.item one.there other.there in
      some_same a b (sym one.has ∙ ap first_tag_of items ∙ other.has)

  pub read_there : (number : ℕ) (first : Home) (homes : List Home) (unread : Option Home) → HasTags table number first → AreRead pages frame (tags_way first) homes unread
      → IsReadOf pages frame table number homes unread
  read_there number first homes unread has read = record {
    each = λ place home. (
      λ at. let found = (read.each place home).0 at in (found.0, record { first = first; has = has; read = found.1 }),
      λ (page, is). (read.each place home).1 (page, subst (λ f. IsRead pages frame (tags_way f) place home page) (one_first number is.first first is.has has) is.read),
    );
    wrong = λ home. (
      λ at. (first, has, (read.wrong home).0 at),
      λ (other, has_other, is). (read.wrong home).1 (subst (λ f. IsUnread pages frame (tags_way f) home) (one_first number other first has_other has) is),
    );
  }

  pub moved : (number place : ℕ) (home : Home) (page bytes : List ℕ) → IsTagsPage pages frame table number place home page → pages home ≡ Some bytes → IsTagsPage pages frame table number place home bytes
  moved number place home page bytes is there = subst (IsTagsPage pages frame table number place home) (some_same page bytes (sym is.read.there ∙ there)) is

  module _ (number : ℕ) (homes : List Home) (unread : Option Home) (read : IsReadOf pages frame table number homes unread) (home : Home) where
    pub has_page : Contains homes home ↔ HasPage pages frame table number home
    has_page = (
      λ (k, within, at). let is = (read.each k home).0 (slice_get_read homes (length homes) k home refl within (sym at)) in (k, is.0, is.1),
      λ (place, page, is). let at = (read.each place home).1 (page, is) in (place, slice_get_within homes place home at, get_or_from_slice_get homes place home home at),
    )

    pub wrong_page : IsWrongAmong pages homes home ↔ HasWrongPage pages frame table number home
    wrong_page = (
      λ (place, at, (page, there, wrong)).
          let is = (read.each place home).0 at in record {
            place = place;
            page = page;
            is = moved number place home is.0 page is.1 there;
            wrong = ⊎_elim (λ bad. inl bad) (λ others. ⊎_elim (λ first. inr (inl first))
                (λ (k, below, (other, at_other, (bytes, there_other, index))).
                let is_other = (read.each k other).0 at_other in
                inr (inr (k, other, bytes, below, moved number k other is_other.0 bytes is_other.1 there_other, index)))
                others) wrong;
          },
      λ wrong. (
        wrong.place,
        (read.each wrong.place home).1 (wrong.page, wrong.is),
        (
          wrong.page,
          wrong.is.read.there,
          ⊎_elim (λ bad. inl bad) (λ others. ⊎_elim (λ first. inr (inl first))
              (λ (k, other, bytes, below, is_other, index).
              inr (inr (k, below, (other, (read.each k other).1 (bytes, is_other), (bytes, is_other.read.there, index)))))
              others) wrong.wrong,
        ),
      ),
    )

  -- ---- the directories of all slots

  abbrev pub HasPageBelow : ℕ → Home → Type 0
  HasPageBelow number home = IsBelow (λ n. HasPage pages frame table n home) number

  abbrev pub IsFaultAt : Home → ℕ → Type 0
  IsFaultAt home number = IsFaultBehind pages frame table number (HasPageBelow number) home

  pub same_fault : (number : ℕ) (Earlier Other : Home → Type 0) (home : Home) → (Earlier home → Other home) → IsFaultBehind pages frame table number Earlier home → IsFaultBehind pages frame table number Other home
  same_fault number Earlier Other home same (inl none) = inl none
  same_fault number Earlier Other home same (inr (inl (has, earlier))) = inr (inl (has, same earlier))
  same_fault number Earlier Other home same (inr (inr wrong)) = inr (inr wrong)

  pub all_faults : (number : ℕ) → length table.slots ≤ number → (home : Home) → IsBelow (IsFaultAt home) number ↔ IsDirectoryFault pages frame table home
  all_faults number whole home = (to, from)
    where
      to : IsBelow (IsFaultAt home) number → IsDirectoryFault pages frame table home
      to (k, below, inl (first, has, unread)) = inl (record { number = k; first = first; has = has; unread = unread })
      to (k, below, inr (inl ((place, page, is), (j, less, (one, bytes, is_earlier))))) =
          inr (inl (record { earlier = j; later = k; order = less; one = one; other = place; page = bytes; in_earlier = is_earlier; in_later = moved k place home page bytes is is_earlier.read.there }))
      to (k, below, inr (inr wrong)) = inr (inr (record { number = k; place = wrong.place; page = wrong.page; is = wrong.is; wrong = wrong.wrong }))

      there : (k : ℕ) (first : Home) → HasTags table k first → k < number
      there k first has = omega (arith, within_of table.slots k has.item has.there, whole)

      from : IsDirectoryFault pages frame table home → IsBelow (IsFaultAt home) number
      from (inl none) = (none.number, there none.number none.first none.has, inl (none.first, none.has, none.unread))
      from (inr (inl shared)) = (
        shared.later,
        there shared.later shared.in_later.first shared.in_later.has,
        inr (inl ((shared.other, shared.page, shared.in_later), (shared.earlier, shared.order, (shared.one, shared.page, shared.in_earlier)))),
      )
      from (inr (inr wrong)) = (
        wrong.number,
        there wrong.number wrong.is.first wrong.is.has,
        inr (inr (record { place = wrong.place; page = wrong.page; is = wrong.is; wrong = wrong.wrong })),
      )
