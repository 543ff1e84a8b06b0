-- A walk along pages of which more and more are there.
use Rattle.std.proofs.Common.{◌≡◌, ◌∙◌, ◌⊎◌, inr, ℕ, ◌+◌, ◌<◌, ◌≤◌, List, Option, Some, None, IfSome, IsSome, IsSomeAnd, true, refl, sym, ap, subst, arith, ⊎_elim, slice_get}
use Rattle.std.proofs.lemmas.Bool.{cases_lt}
use Rattle.slot_files.specs.domain_base.declared.place.Home.{Home}
use Rattle.slot_files.specs.page_store.Pages.{Pages}
use Rattle.slot_files.specs.fileset_table.Table.{Table}
use Rattle.slot_files.specs.fileset_table.declared.slot.SlotItem.{SlotItem}
use Rattle.slot_files.specs.domain_layout.Layout.{first_tag_of}
use Rattle.slot_files.specs.domain_layout.Reached.{Frame, IsWithin, MayBe, Reaches, Way, begins, cells_way, goes_on, tags_way}
use Rattle.slot_files.proofs.OfDomainLayout.OnePage.{some_same}
use Rattle.slot_files.specs.page_ways.Walk.{AreRead, IsOnWay, IsWalk, next_of, unread_of}
use Rattle.slot_files.specs.page_ways.declared.walk.PageWalk.{PageWalk}
use Rattle.image_loading.specs.Loading.{HasBitmap, HasBitmapsBelow, HasCellsBelow, HasCellsOf, HasTagsBelow, HasTagsOf, HasUnread, HasWay}

some_there : {X : Type 0} (o : Option X) (x : X) → o ≡ Some x → IsSome o
some_there o x is = subst IsSome (sym is) refl

-- what is come to is come to still where pages are added
reaches_on : (pages more : Pages) (frame : Frame) (way : Way) → ((home : Home) → IsSome (pages home) → more home ≡ pages home) → (passed : List Home) (home : Home) → Reaches pages frame way passed home → Reaches more frame way passed home
reaches_on pages more frame way kept passed home reached = elim reached as (λ passed home reached. Reaches more frame way passed home) [
  | begins ↦ begins
  | goes_on passed home onto page (before → earlier) may fresh there so leads ↦ goes_on passed home onto page earlier may fresh (kept home (some_there (pages home) page there) ∙ there) so leads
]

-- so a walk that goes on is one still
pub walk_on : (pages more : Pages) (frame : Frame) (way : Way) (walk : PageWalk) → ((home : Home) → IsSome (pages home) → more home ≡ pages home) → (home : Home) → next_of walk ≡ Some home → IsWalk pages frame way walk → IsWalk more frame way walk
walk_on pages more frame way walk kept home next is = record { numbers = is.numbers; on = subst (IsOnWay more frame way walk.passed.homes.items walk.unread) (sym next) (on.0, reaches_on pages more frame way kept walk.passed.homes.items home on.1) }
  where
    on : IsOnWay pages frame way walk.passed.homes.items walk.unread (Some home)
    on = subst (IsOnWay pages frame way walk.passed.homes.items walk.unread) next is.on

-- what a walk that goes on has not read is nothing
pub none_unread : (pages : Pages) (frame : Frame) (way : Way) (walk : PageWalk) (home : Home) → next_of walk ≡ Some home → IsWalk pages frame way walk → unread_of walk ≡ None
none_unread pages frame way walk home next is = on.0
  where
    on : IsOnWay pages frame way walk.passed.homes.items walk.unread (Some home)
    on = subst (IsOnWay pages frame way walk.passed.homes.items walk.unread) next is.on

-- after a step: what was not read is nothing, or the page that was next
pub unread_then : (pages : Pages) (frame : Frame) (old new : PageWalk) (home : Home) → next_of old ≡ Some home → unread_of old ≡ None → (MayBe frame home → IsSome (pages home))
    → (unread_of new ≡ unread_of old) ⊎ (unread_of new ≡ next_of old) → HasUnread pages frame new
unread_then pages frame old new home next none there which =
    ⊎_elim (λ same. subst (λ o. IfSome o (λ h. MayBe frame h → IsSome (pages h))) (sym (same ∙ none)) tt)
    (λ is. subst (λ o. IfSome o (λ h. MayBe frame h → IsSome (pages h))) (sym (is ∙ next)) there) which

-- at the end each page that is come to and may be one is there
pub has_way : (pages : Pages) (frame : Frame) (way : Way) (homes : List Home) (unread : Option Home) → AreRead pages frame way homes unread → IfSome unread (λ home. MayBe frame home → IsSome (pages home)) → HasWay pages frame way
has_way pages frame way homes unread are there passed home reached may = by_page (pages home) refl
  where
    by_page : (o : Option (List ℕ)) → pages home ≡ o → IsSome (pages home)
    by_page (Some page) is = some_there (pages home) page is
    by_page None none =
        let wrong : unread ≡ Some home = (are.wrong home).1 (record { passed = passed; reached = reached; wrong = inr (inr (subst (λ o. ¬ IsSomeAnd o (λ page. way.begins_so page ≡ true)) (sym none) (λ is. is))) }) in
        subst (λ o. IfSome o (λ h. MayBe frame h → IsSome (pages h))) wrong there may

-- the pages of the bitmap of a volume that are below one
abbrev pub HasBitmapBelow : ℕ → Pages → Frame → ℕ → Type 0
HasBitmapBelow n pages frame vol = (page : ℕ) → 2 ≤ page → page < n → IsWithin frame (record { vol = vol; page = page }) → IsSome (pages (record { vol = vol; page = page }))

-- ---- what is there stays so where pages are added

module _ (pages more : Pages) (frame : Frame) (kept : (home : Home) → IsSome (pages home) → more home ≡ pages home) where
  pub page_stays : (home : Home) → IsSome (pages home) → IsSome (more home)
  page_stays home some = subst IsSome (sym (kept home some)) some

  reaches_back : (way : Way) → HasWay pages frame way → (passed : List Home) (home : Home) → Reaches more frame way passed home → Reaches pages frame way passed home
  reaches_back way has passed home reached = elim reached as (λ passed home reached. Reaches pages frame way passed home) [
    | begins ↦ begins
    | goes_on passed home onto page (before → earlier) may fresh there so leads ↦ goes_on passed home onto page earlier may fresh (sym (kept home (has passed home earlier may)) ∙ there) so leads
  ]

  pub way_stays : (way : Way) → HasWay pages frame way → HasWay more frame way
  way_stays way has passed home reached may = page_stays home (has passed home (reaches_back way has passed home reached) may)

  -- one volume, page or slot more
  pub cells_next : (n : ℕ) → HasCellsBelow n pages frame → HasCellsOf more frame n → HasCellsBelow (n + 1) more frame
  cells_next n below here vol less member =
      ⊎_elim (λ low. way_stays (cells_way frame vol) (below vol low member))
      (λ high. let same : n ≡ vol = omega (arith, less, high) in subst (HasCellsOf more frame) same here member) (cases_lt vol n)

  pub bitmaps_next : (n : ℕ) → HasBitmapsBelow n pages frame → HasBitmap more frame n → HasBitmapsBelow (n + 1) more frame
  bitmaps_next n below here vol less =
      ⊎_elim (λ low. λ page first last within. page_stays (record { vol = vol; page = page }) (below vol low page first last within))
      (λ high. let same : n ≡ vol = omega (arith, less, high) in subst (HasBitmap more frame) same here) (cases_lt vol n)

  pub bitmap_next : (vol n : ℕ) → HasBitmapBelow n pages frame vol → (IsWithin frame (record { vol = vol; page = n }) → IsSome (more (record { vol = vol; page = n }))) → HasBitmapBelow (n + 1) more frame vol
  bitmap_next vol n below here page first less =
      ⊎_elim (λ low. λ within. page_stays (record { vol = vol; page = page }) (below page first low within))
      (λ high. let same : n ≡ page = omega (arith, less, high) in subst (λ p. IsWithin frame (record { vol = vol; page = p }) → IsSome (more (record { vol = vol; page = p }))) same here) (cases_lt page n)

  pub tags_next : (table : Table) (n : ℕ) → HasTagsBelow n pages frame table → HasTagsOf more frame table n → HasTagsBelow (n + 1) more frame table
  tags_next table n below here number less =
      ⊎_elim (λ low. λ first has. way_stays (tags_way first) (below number low first has))
      (λ high. let same : n ≡ number = omega (arith, less, high) in subst (HasTagsOf more frame table) same here) (cases_lt number n)

-- nothing was left unread
pub none_yet : (pages : Pages) (frame : Frame) (walk : PageWalk) → unread_of walk ≡ None → HasUnread pages frame walk
none_yet pages frame walk none = subst (λ o. IfSome o (λ home. MayBe frame home → IsSome (pages home))) (sym none) tt

-- what is in a slot is the tag directory that begins there
pub tags_in : (pages : Pages) (frame : Frame) (table : Table) (number : ℕ) (item : SlotItem) → slice_get table.slots number ≡ Some item
    → ((first : Home) → first_tag_of item ≡ Some first → HasWay pages frame (tags_way first)) → HasTagsOf pages frame table number
tags_in pages frame table number item there has first tags =
    let same : tags.item ≡ item = some_same tags.item item (sym tags.there ∙ there) in
    has first (sym (ap first_tag_of same) ∙ tags.has)
