-- Tag directories: the pages of one, and what their entries say.
use Rattle.std.specs.Prelude.{◌≡◌, ◌==◌, ◌+◌, ◌/◌, ◌%◌, ◌<◌, ℕ, Bool, true, false, List, [], ◌∷◌, ◌++◌, ◌⊎◌, length, Option, Some, None, IfSome, IsSome, IsSomeAnd, slice_get, if◌then◌else◌}
use Rattle.std.specs.List.{list_any}
use Rattle.std.specs.Option.{option_and_then, option_map, option_map_or}
use Rattle.metadata_cells.specs.domain_base.declared.place.CellAt.{CellAt}
use Rattle.metadata_cells.specs.domain_base.declared.place.Home.{Home}
use Rattle.metadata_cells.specs.domain_base.declared.place.Tag.{Tag}
use Rattle.metadata_cells.specs.page_store.Pages.{Pages, same_home}
use Rattle.metadata_cells.specs.page_store.Bitfiles.{same_tag}
use Rattle.tag_dirs.specs.declared.dir.ReadyPage.{ReadyPage}
use Rattle.tag_dirs.specs.declared.dir.TagPlace.{TagPlace}
use Rattle.tag_dirs.specs.declared.page.TagEntry.{TagEntry}
use Rattle.tag_dirs.specs.TagPage.{ChangesEntry, EndsPage, IsAllowed, IsNewPage, IsTagPage, LinksPage, entry_of, index_of, is_takeable, next_of, slot_of}

-- the home of the page that comes after the one at a place
abbrev pub home_behind : List TagPlace → ℕ → Option Home
home_behind places k = option_map (λ (p : TagPlace). p.home) (slice_get places (k + 1))

-- a well-formed page with the place's index and this next page
pub record IsPageOf (place : TagPlace) (next : Option Home) (page : List ℕ) : Type 0 where
  pub good : IsTagPage page
  pub indexed : index_of page ≡ place.index
  pub linked : next_of page ≡ next

-- the places of a directory, in its chain's order: the pages are there, each leads to the next one
-- and the last to none, no index stands twice, and so no home, and the first index is 0
pub record IsDirectory (pages : Pages) (places : List TagPlace) : Type 0 where
  pub run : (k : ℕ) → IfSome (slice_get places k)
      (λ place. IsSomeAnd (pages place.home) (IsPageOf place (home_behind places k)))
  pub apart : (j k : ℕ) (p q : TagPlace) → slice_get places j ≡ Some p
      → slice_get places k ≡ Some q → p.index ≡ q.index → j ≡ k
  pub first : IfSome (slice_get places 0) (λ place. place.index ≡ 0)

-- a directory whose first page stands at the home
pub record IsDirectoryAt (pages : Pages) (first : Home) (places : List TagPlace) : Type 0 where
  pub directory : IsDirectory pages places
  pub begins : IsSomeAnd (slice_get places 0) (λ place. place.home ≡ first)

-- there is one
pub record HasDirectory (pages : Pages) (first : Home) : Type 0 where
  pub places : List TagPlace
  pub is : IsDirectoryAt pages first places

-- the home of the page with an index
abbrev pub home_with : List TagPlace → ℕ → Option Home
home_with [] index = None
home_with (p ∷ ps) index = if p.index == index then Some p.home else home_with ps index

-- the number of the page with an index, counted along the chain from 0
abbrev pub number_with : List TagPlace → ℕ → Option ℕ
number_with [] index = None
number_with (p ∷ ps) index =
    if p.index == index then Some 0 else option_map (λ k. k + 1) (number_with ps index)

-- what a directory in memory keeps beside its places: a table that has each page's number by its
-- index, and as many guesses as places
pub record IsKept (places : List TagPlace) (numbers : ℕ → Option ℕ) (guesses : ℕ) : Type 0 where
  pub table : (index : ℕ) → numbers index ≡ number_with places index
  pub guessed : guesses ≡ length places

-- a page of the directory stands there
abbrev pub has_home : List TagPlace → Home → Bool
has_home places home = list_any (λ (p : TagPlace). same_home home p.home) places

-- the page of the directory that has a slot stands there
abbrev pub is_page_of_slot : List TagPlace → ℕ → Home → Bool
is_page_of_slot places slot home = option_map_or (same_home home) (home_with places (slot / 1022)) false

-- the entry of a slot, if a page has it
abbrev pub entry_at : Pages → List TagPlace → ℕ → Option TagEntry
entry_at pages places slot =
    option_map (λ page. entry_of page (slot % 1022))
    (option_and_then pages (home_with places (slot / 1022)))

-- a slot's last sequence, if a page has it
abbrev pub sequence_of : Pages → List TagPlace → ℕ → Option ℕ
sequence_of pages places slot = option_map (λ (e : TagEntry). e.seq) (entry_at pages places slot)

-- the cell that an entry leads to for a tag with this sequence
abbrev pub cell_for : ℕ → TagEntry → Option CellAt
cell_for seq entry = if entry.seq == seq then entry.at else None

-- the cell that a tag leads to
abbrev pub cell_of : Pages → List TagPlace → Tag → Option CellAt
cell_of pages places tag = option_and_then (cell_for tag.seq) (entry_at pages places tag.slot)

-- the entry may be taken, and then has this sequence
abbrev pub RisesTo : ℕ → TagEntry → Type 0
RisesTo seq entry = (is_takeable entry ≡ true) × (entry.seq + 1 ≡ seq)

-- a tag that may be taken: its slot is not 0, and its entry may be taken and then has its sequence
abbrev pub CanTake : Pages → List TagPlace → Tag → Type 0
CanTake pages places tag =
    (¬ tag.slot ≡ 0) × IsSomeAnd (entry_at pages places tag.slot) (RisesTo tag.seq)

-- a tag of the page at a place that may be taken
abbrev pub TakesOn : Pages → TagPlace → Tag → Type 0
TakesOn pages place tag =
    (tag.slot / 1022 ≡ place.index) × (¬ tag.slot ≡ 0)
    × IsSomeAnd (pages place.home) (λ page. RisesTo tag.seq (entry_of page (tag.slot % 1022)))

-- the page at a place has none
abbrev pub HasNone : Pages → TagPlace → Type 0
HasNone pages place =
    (slot : ℕ) → slot / 1022 ≡ place.index → ¬ slot ≡ 0
    → IfSome (pages place.home) (λ page. is_takeable (entry_of page (slot % 1022)) ≡ false)

-- the tag's entry stands on the page at a place, and leads to a cell
abbrev pub IsUsedOn : Pages → TagPlace → Tag → Type 0
IsUsedOn pages place tag =
    (tag.slot / 1022 ≡ place.index)
    × IsSomeAnd (pages place.home)
    (λ page. IsSome (cell_for tag.seq (entry_of page (tag.slot % 1022))))

-- no entry of the page at a place leads to one
abbrev pub UsesNone : Pages → TagPlace → Type 0
UsesNone pages place = (slot : ℕ) → slot / 1022 ≡ place.index
    → IfSome (pages place.home) (λ page. (entry_of page (slot % 1022)).at ≡ None)

-- the tag's slot is one of the page with that number along the chain
abbrev pub IsOnPage : List TagPlace → ℕ → Tag → Type 0
IsOnPage places number tag =
    IsSomeAnd (slice_get places number) (λ place. tag.slot / 1022 ≡ place.index)

-- one of the pages has another entry
pub record ChangesAt (home : Home) (place : ℕ) (entry : TagEntry) (old new : Pages) : Type 0 where
  pub page : List ℕ
  pub changed : List ℕ
  pub was : old home ≡ Some page
  pub is : new home ≡ Some changed
  pub change : ChangesEntry place entry page changed
  pub elsewhere : (h : Home) → same_home h home ≡ false → new h ≡ old h

-- a well-formed page that may have this entry there
pub record CanHave (place : ℕ) (entry : TagEntry) (page : List ℕ) : Type 0 where
  pub good : IsTagPage page
  pub allowed : IsAllowed (slot_of page place) entry

-- a directory in which one slot has another entry, and all others are as they were; no page changes
-- but the one that has the slot
pub record ChangesSlot (slot : ℕ) (entry : TagEntry) (places : List TagPlace) (old new : Pages)
    : Type 0 where
  pub directory : IsDirectory new places
  pub entries : (s : ℕ) → entry_at new places s
      ≡ (if s == slot then Some entry else entry_at old places s)
  pub elsewhere : (h : Home) → is_page_of_slot places slot h ≡ false → new h ≡ old h

-- a directory in which the tag leads to this cell, or to none, its slot has its sequence, and all
-- other tags and slots are as they were; no page changes but the one that has the slot
pub record SetsTag (tag : Tag) (cell : Option CellAt) (places : List TagPlace) (old new : Pages)
    : Type 0 where
  pub directory : IsDirectory new places
  pub cells : (t : Tag) → cell_of new places t
      ≡ (if same_tag t tag then cell else cell_of old places t)
  pub sequences : (s : ℕ) → sequence_of new places s
      ≡ (if s == tag.slot then Some tag.seq else sequence_of old places s)
  pub elsewhere : (h : Home) → is_page_of_slot places tag.slot h ≡ false → new h ≡ old h

-- one of the pages leads to another next page
pub record LinksAt (last home : Home) (old new : Pages) : Type 0 where
  pub page : List ℕ
  pub changed : List ℕ
  pub was : old last ≡ Some page
  pub is : new last ≡ Some changed
  pub change : LinksPage home page changed
  pub elsewhere : (h : Home) → same_home h last ≡ false → new h ≡ old h

-- the last of the places leads to the home
pub record LinksFrom (places : List TagPlace) (home : Home) (old new : Pages) : Type 0 where
  pub k : ℕ
  pub p : TagPlace
  pub there : slice_get places k ≡ Some p
  pub last : k + 1 ≡ length places
  pub links : LinksAt p.home home old new

-- the last of the places, if there is one, leads to the home
abbrev pub LinksLast : List TagPlace → Home → Pages → Pages → Type 0
LinksLast places home old new = ((places ≡ []) × (new ≡ old)) ⊎ LinksFrom places home old new

-- the page at a home led to the one at another, and leads to none now; all other pages stay
pub record EndsAt (home next : Home) (old new : Pages) : Type 0 where
  pub page : List ℕ
  pub changed : List ℕ
  pub was : old home ≡ Some page
  pub led : next_of page ≡ Some next
  pub is : new home ≡ Some changed
  pub change : EndsPage page changed
  pub elsewhere : (h : Home) → same_home h home ≡ false → new h ≡ old h

-- no page stands there, or one that does not lead to that home; and no page changes
pub record LeadsElsewhere (home next : Home) (old new : Pages) : Type 0 where
  pub other : IfSome (old home) (λ page. ¬ next_of page ≡ Some next)
  pub same : new ≡ old

-- the page at a home, if one is given and it leads to that one, leads to none now, and no other
-- page changes
abbrev pub Unlinks : Option Home → Home → Pages → Pages → Type 0
Unlinks None next old new = new ≡ old
Unlinks (Some home) next old new = EndsAt home next old new ⊎ LeadsElsewhere home next old new

-- a directory with one page more, whose entries were never used; all other slots are as they were
pub record AddsPage (place : TagPlace) (places : List TagPlace) (old new : Pages) : Type 0 where
  pub directory : IsDirectory new (places ++ place ∷ [])
  pub entries : (s : ℕ) → entry_at new (places ++ place ∷ []) s
      ≡ (if s / 1022 == place.index then Some (record { seq = 0; at = None })
      else entry_at old places s)
  pub elsewhere : (h : Home) → has_home places h ≡ false → same_home h place.home ≡ false
      → new h ≡ old h

-- a place with this home is the last one
pub record LastPlace (places : List TagPlace) (home : Home) : Type 0 where
  pub k : ℕ
  pub p : TagPlace
  pub there : slice_get places k ≡ Some p
  pub last : k + 1 ≡ length places
  pub stands : p.home ≡ home

-- the home of the last place, or none if there is no place
abbrev pub IsLast : List TagPlace → Option Home → Type 0
IsLast places None = places ≡ []
IsLast places (Some home) = LastPlace places home

-- the page at a home, if there is one, leads to the next one
abbrev pub Leads : Option Home → Home → Pages → Pages → Type 0
Leads None next old new = new ≡ old
Leads (Some home) next old new = LinksAt home next old new

-- a well-formed page with an index that none of the places has
pub record CanJoin (places : List TagPlace) (page : List ℕ) : Type 0 where
  pub good : IsTagPage page
  pub unused : home_with places (index_of page) ≡ None

-- the page at the home stands after the others, and this is its next page
pub record JoinsPage (home : Home) (page : List ℕ) (old new : List TagPlace) (next : Option Home)
    : Type 0 where
  pub joined : new ≡ old ++ (record { index = index_of page; home = home }) ∷ []
  pub linked : next ≡ next_of page

-- a page whose entries were never used, with this index, is ready to stand at the home after those
-- at the places
pub record IsReady (index : ℕ) (home : Home) (places : List TagPlace) (ready : ReadyPage)
    : Type 0 where
  pub fresh : IsNewPage index ready.page
  pub last : IsLast places ready.last
  pub stands : ready.home ≡ home

-- the least index that no page at the places has
pub record IsNextIndex (index : ℕ) (places : List TagPlace) : Type 0 where
  pub small : index < 4202512
  pub unused : home_with places index ≡ None
  pub least : (other : ℕ) → other < index → ¬ home_with places other ≡ None
