-- A directory after a change of one slot's entry.
use Rattle.std.proofs.Common.{◌≡◌, ◌∙◌, ◌⊎◌, inl, inr, ℕ, suc, ◌/◌, ◌%◌, ◌<◌, ◌≤◌, Bool, true, false, cond, ◌&&◌, nat_eq, Option, Some, None, IfSome, IsSome, IsSomeAnd, List, [], ◌∷◌, slice_get, refl, sym, ap, subst, arith}
use Rattle.std.proofs.lemmas.Bool.{eqb-true, eq-eqb, both_ways, false_from_ne_true, or_left, or_right, true≢false}
use Rattle.std.specs.Option.{option_and_then, option_map, option_map_or, unwrap_or}
use Rattle.metadata_cells.specs.domain_base.declared.place.CellAt.{CellAt}
use Rattle.metadata_cells.specs.domain_base.declared.place.Home.{Home}
use Rattle.metadata_cells.specs.domain_base.declared.place.Tag.{Tag}
use Rattle.metadata_cells.specs.page_store.Pages.{Pages, same_home}
use Rattle.metadata_cells.specs.page_store.Bitfiles.{same_tag}
use Rattle.metadata_cells.proofs.Changed.{homes_same, same_itself}
use Rattle.tag_dirs.specs.declared.dir.TagPlace.{TagPlace}
use Rattle.tag_dirs.specs.declared.page.TagEntry.{TagEntry}
use Rattle.tag_dirs.specs.TagPage.{IsAllowed, IsTagPage, entry_of, index_of, slot_of}
use Rattle.tag_dirs.specs.Directory.{CanHave, ChangesAt, ChangesSlot, IsDirectory, IsPageOf, SetsTag, cell_for, cell_of, entry_at, has_home, home_behind, home_with, is_page_of_slot, sequence_of}

pub none_is_some : {X : Type 0} (x : X) → None ≡ Some x → ⊥
none_is_some {X} x is = subst Test is tt
  where
    Test : Option X → Type 0
    Test None = Unit {0}
    Test (Some y) = ⊥

pub same_some : {X : Type 0} (x y : X) → Some x ≡ Some y → x ≡ y
same_some x y is = ap (λ o. unwrap_or o x) is

pub map_and : {X : Type 0} {P Q : X → Type 0} → ((x : X) → P x → Q x) → (o : Option X) → IsSomeAnd o P → IsSomeAnd o Q
map_and f None is = is
map_and f (Some x) is = f x is

pub map_if : {X : Type 0} {P Q : X → Type 0} → ((x : X) → P x → Q x) → (o : Option X) → IfSome o P → IfSome o Q
map_if f None is = tt
map_if f (Some x) is = f x is

-- ---- the place with an index

pub record Found (places : List TagPlace) (index : ℕ) (home : Home) : Type 0 where
  pub k : ℕ
  pub p : TagPlace
  pub there : slice_get places k ≡ Some p
  pub indexed : p.index ≡ index
  pub stands : p.home ≡ home
  pub listed : has_home places home ≡ true

pub found : (places : List TagPlace) (index : ℕ) (home : Home) → home_with places index ≡ Some home → Found places index home
found [] index home is = absurd (none_is_some home is)
found (p ∷ ps) index home is = by_test (nat_eq p.index index) refl (λ later. found ps index home later)
  where
    by_test : (b : Bool) → nat_eq p.index index ≡ b → (home_with ps index ≡ Some home → Found ps index home) → Found (p ∷ ps) index home
    by_test true same later =
        let stands = same_some p.home home (sym (ap (λ b. cond b (Some p.home) (home_with ps index)) same) ∙ is) in
        record {
          k = 0;
          p = p;
          there = refl;
          indexed = eqb-true p.index index same;
          stands = stands;
          listed = or_left (same_home home p.home) (has_home ps home) (ap (same_home home) stands ∙ same_itself home);
        }
    by_test false other later =
        let rest = later (sym (ap (λ b. cond b (Some p.home) (home_with ps index)) other) ∙ is) in
        record {
          k = suc rest.k;
          p = rest.p;
          there = rest.there;
          indexed = rest.indexed;
          stands = rest.stands;
          listed = or_right (same_home home p.home) (has_home ps home) rest.listed;
        }

-- a home at which no page of the directory stands is not that of a slot's page
pub off_slot : (places : List TagPlace) (slot : ℕ) (h : Home) → has_home places h ≡ false → is_page_of_slot places slot h ≡ false
off_slot places slot h none = by_home (home_with places (slot / 1022)) refl
  where
    by_home : (o : Option Home) → home_with places (slot / 1022) ≡ o → option_map_or (same_home h) o false ≡ false
    by_home None at = refl
    by_home (Some home) at =
        false_from_ne_true (same_home h home)
        (λ same. both_ways (has_home places h) none (ap (has_home places) (homes_same h home same) ∙ (found places (slot / 1022) home at).listed))

pub page_there : (pages : Pages) (places : List TagPlace) (index : ℕ) (home : Home) → IsDirectory pages places → home_with places index ≡ Some home
    → IsSomeAnd (pages home) (λ page. IsTagPage page × (index_of page ≡ index))
page_there pages places index home dir at =
    let f = found places index home at in
    let there : IsSomeAnd (pages f.p.home) (IsPageOf f.p (home_behind places f.k)) = subst (λ o. IfSome o (λ (place : TagPlace). IsSomeAnd (pages place.home) (IsPageOf place (home_behind places f.k)))) f.there (dir.run f.k) in
    subst (λ h. IsSomeAnd (pages h) (λ page. IsTagPage page × (index_of page ≡ index))) f.stands (map_and (λ page is. (is.good, is.indexed ∙ f.indexed)) (pages f.p.home) there)

-- a slot's page may have an entry that the slot may have
pub can_have : (pages : Pages) (places : List TagPlace) (slot : ℕ) (home : Home) (entry : TagEntry) → IsDirectory pages places → home_with places (slot / 1022) ≡ Some home → IsAllowed slot entry
    → IsSomeAnd (pages home) (CanHave (slot % 1022) entry)
can_have pages places slot home entry dir at allowed =
    map_and (λ page is. record { good = is.0; allowed = subst (λ n. IsAllowed n entry) (whole page is.1) allowed }) (pages home) (page_there pages places (slot / 1022) home dir at)
  where
    whole : (page : List ℕ) → index_of page ≡ slot / 1022 → slot ≡ slot_of page (slot % 1022)
    whole page is = omega (arith, is)

allowed_used : (slot seq : ℕ) (entry : TagEntry) → IsAllowed slot entry → IsSome (cell_for seq entry) → (1 ≤ seq) × (¬ slot ≡ 0)
allowed_used slot seq entry allowed used = by_test (nat_eq entry.seq seq) refl used
  where
    by_cell : (o : Option CellAt) → IfSome o (λ at. (at.cell < 28) × (1 ≤ entry.seq) × (¬ slot ≡ 0)) → IsSome o → (1 ≤ entry.seq) × (¬ slot ≡ 0)
    by_cell None is used = absurd (true≢false (sym used))
    by_cell (Some at) is used = (is.1, is.2)

    by_test : (b : Bool) → nat_eq entry.seq seq ≡ b → IsSome (cond b entry.at None) → (1 ≤ seq) × (¬ slot ≡ 0)
    by_test true same used = let both = by_cell entry.at allowed used in (subst (λ n. 1 ≤ n) (eqb-true entry.seq seq same) both.0, both.1)
    by_test false other used = absurd (true≢false (sym used))

-- a tag in use has a sequence of at least 1, and is not that of slot 0
pub used_allowed : (pages : Pages) (places : List TagPlace) (tag : Tag) → IsDirectory pages places → IsSome (cell_of pages places tag) → (1 ≤ tag.seq) × (¬ tag.slot ≡ 0)
used_allowed pages places tag dir used = by_home (home_with places (tag.slot / 1022)) refl used
  where
    whole : (page : List ℕ) → index_of page ≡ tag.slot / 1022 → slot_of page (tag.slot % 1022) ≡ tag.slot
    whole page is = omega (arith, is)

    by_page : (o : Option (List ℕ)) → IsSomeAnd o (λ page. IsTagPage page × (index_of page ≡ tag.slot / 1022)) → IsSome (option_and_then (cell_for tag.seq) (option_map (λ page. entry_of page (tag.slot % 1022)) o)) → (1 ≤ tag.seq) × (¬ tag.slot ≡ 0)
    by_page None is used = absurd (true≢false (sym used))
    by_page (Some page) is used =
        let allowed = is.0.entries (tag.slot % 1022) (omega arith) in
        allowed_used tag.slot tag.seq (entry_of page (tag.slot % 1022)) (subst (λ n. IsAllowed n (entry_of page (tag.slot % 1022))) (whole page is.1) allowed) used

    by_home : (o : Option Home) → home_with places (tag.slot / 1022) ≡ o → IsSome (option_and_then (cell_for tag.seq) (option_map (λ page. entry_of page (tag.slot % 1022)) (option_and_then pages o))) → (1 ≤ tag.seq) × (¬ tag.slot ≡ 0)
    by_home None at used = absurd (true≢false (sym used))
    by_home (Some h) at used = by_page (pages h) (page_there pages places (tag.slot / 1022) h dir at) used

-- ---- one slot's entry is another

module _ (old new : Pages) (places : List TagPlace) (slot : ℕ) (home : Home) (entry : TagEntry) (dir : IsDirectory old places) (at : home_with places (slot / 1022) ≡ Some home)
    (changes : ChangesAt home (slot % 1022) entry old new) where
  kept_page : (place : TagPlace) (next : Option Home) → IsSomeAnd (old place.home) (IsPageOf place next) → IsSomeAnd (new place.home) (IsPageOf place next)
  kept_page place next was = by_home (same_home place.home home) refl
    where
      by_home : (b : Bool) → same_home place.home home ≡ b → IsSomeAnd (new place.home) (IsPageOf place next)
      by_home false other = subst (λ o. IsSomeAnd o (IsPageOf place next)) (sym (changes.elsewhere place.home other)) was
      by_home true same =
          let is = homes_same place.home home same in
          let page : IsPageOf place next changes.page = subst (λ o. IsSomeAnd o (IsPageOf place next)) (ap old is ∙ changes.was) was in
          subst (λ o. IsSomeAnd o (IsPageOf place next)) (sym (ap new is ∙ changes.is))
          (record { good = changes.change.good; indexed = changes.change.index ∙ page.indexed; linked = changes.change.next ∙ page.linked })

  kept : IsDirectory new places
  kept = record {
    run = λ k. map_if (λ place is. kept_page place (home_behind places k) is) (slice_get places k) (dir.run k);
    apart = dir.apart;
    first = dir.first;
  }

  index_here : index_of changes.page ≡ slot / 1022
  index_here = (subst (λ o. IsSomeAnd o (λ page. IsTagPage page × (index_of page ≡ slot / 1022))) changes.was (page_there old places (slot / 1022) home dir at)).1

  abbrev read : ℕ → List ℕ → TagEntry
  read s page = entry_of page (s % 1022)

  elsewhere_same : (s : ℕ) → ¬ s ≡ slot → (o : Option Home) → home_with places (s / 1022) ≡ o → option_map (read s) (option_and_then new o) ≡ option_map (read s) (option_and_then old o)
  elsewhere_same s other None is = refl
  elsewhere_same s other (Some h) is = by_home (same_home h home) refl
    where
      by_home : (b : Bool) → same_home h home ≡ b → option_map (read s) (new h) ≡ option_map (read s) (old h)
      by_home false away = ap (option_map (read s)) (changes.elsewhere h away)
      by_home true same =
          let here = homes_same h home same in
          let index : index_of changes.page ≡ s / 1022
          = (subst (λ o. IsSomeAnd o (λ page. IsTagPage page × (index_of page ≡ s / 1022))) (ap old here ∙ changes.was) (page_there old places (s / 1022) h dir is)).1 in
          let quotient : s / 1022 ≡ slot / 1022 = sym index ∙ index_here in
          ap (option_map (read s)) (ap new here ∙ changes.is) ∙ ap Some (changes.change.others (s % 1022) (λ r. other (together quotient r)))
          ∙ sym (ap (option_map (read s)) (ap old here ∙ changes.was))
        where
          together : s / 1022 ≡ slot / 1022 → s % 1022 ≡ slot % 1022 → s ≡ slot
          together q r = omega (arith, q, r)

  entries : (s : ℕ) → entry_at new places s ≡ cond (nat_eq s slot) (Some entry) (entry_at old places s)
  entries s = by_slot (nat_eq s slot) refl
    where
      by_slot : (b : Bool) → nat_eq s slot ≡ b → entry_at new places s ≡ cond (nat_eq s slot) (Some entry) (entry_at old places s)
      by_slot true same =
          ap (entry_at new places) (eqb-true s slot same) ∙ ap (λ o. option_map (read slot) (option_and_then new o)) at ∙ ap (option_map (read slot)) changes.is ∙ ap Some changes.change.there
          ∙ sym (ap (λ b. cond b (Some entry) (entry_at old places s)) same)
      by_slot false other =
          elsewhere_same s (λ same. both_ways (nat_eq s slot) other (eq-eqb s slot same)) (home_with places (s / 1022)) refl ∙ sym (ap (λ b. cond b (Some entry) (entry_at old places s)) other)

  pub slot_changed : ChangesSlot slot entry places old new
  slot_changed = record {
    directory = kept;
    entries = entries;
    elsewhere = λ h none. changes.elsewhere h (sym (ap (λ o. option_map_or (same_home h) o false) at) ∙ none);
  }

-- ---- a tag leads to another cell

-- an entry that leads no tag but this one anywhere
abbrev pub LeadsOnly : ℕ → TagEntry → Type 0
LeadsOnly seq entry = (entry.at ≡ None) ⊎ (entry.seq ≡ seq)

module _ (old new : Pages) (places : List TagPlace) (tag : Tag) (cell : Option CellAt) (changes : ChangesSlot tag.slot (record { seq = tag.seq; at = cell }) places old new)
    (was : IfSome (entry_at old places tag.slot) (LeadsOnly tag.seq)) where
  no_other : (t : Tag) → nat_eq t.seq tag.seq ≡ false → (o : Option TagEntry) → IfSome o (LeadsOnly tag.seq) → option_and_then (cell_for t.seq) o ≡ None
  no_other t other None is = refl
  no_other t other (Some e) (inl none) = by_test (nat_eq e.seq t.seq)
    where
      by_test : (b : Bool) → cond b e.at None ≡ None
      by_test true = none
      by_test false = refl
  no_other t other (Some e) (inr same) = by_test (nat_eq e.seq t.seq) refl
    where
      by_test : (b : Bool) → nat_eq e.seq t.seq ≡ b → cond b e.at None ≡ None
      by_test true is = absurd (both_ways (nat_eq t.seq tag.seq) other (eq-eqb t.seq tag.seq (sym (eqb-true e.seq t.seq is) ∙ same)))
      by_test false is = refl

  abbrev after : Tag → Option CellAt
  after t = cond (same_tag t tag) cell (cell_of old places t)

  here : (t : Tag) → t.slot ≡ tag.slot → (b : Bool) → nat_eq t.seq tag.seq ≡ b → cell_for t.seq (record { seq = tag.seq; at = cell }) ≡ cond b cell (cell_of old places t)
  here t slot true same = ap (λ b. cond b cell None) (eq-eqb tag.seq t.seq (sym (eqb-true t.seq tag.seq same)))
  here t slot false other =
      ap (λ b. cond b cell None) (flip (nat_eq tag.seq t.seq) refl) ∙ sym (ap (λ s. option_and_then (cell_for t.seq) (entry_at old places s)) slot ∙ no_other t other (entry_at old places tag.slot) was)
    where
      flip : (b : Bool) → nat_eq tag.seq t.seq ≡ b → nat_eq tag.seq t.seq ≡ false
      flip true is = absurd (both_ways (nat_eq t.seq tag.seq) other (eq-eqb t.seq tag.seq (sym (eqb-true tag.seq t.seq is))))
      flip false is = is

  cells : (t : Tag) → cell_of new places t ≡ after t
  cells t = by_slot (nat_eq t.slot tag.slot) refl
    where
      by_slot : (b : Bool) → nat_eq t.slot tag.slot ≡ b → cell_of new places t ≡ after t
      by_slot true same =
          ap (option_and_then (cell_for t.seq)) (changes.entries t.slot ∙ ap (λ b. cond b (Some (record { seq = tag.seq; at = cell })) (entry_at old places t.slot)) same)
          ∙ here t (eqb-true t.slot tag.slot same) (nat_eq t.seq tag.seq) refl
          ∙ sym (ap (λ b. cond (b && nat_eq t.seq tag.seq) cell (cell_of old places t)) same)
      by_slot false other =
          ap (option_and_then (cell_for t.seq)) (changes.entries t.slot ∙ ap (λ b. cond b (Some (record { seq = tag.seq; at = cell })) (entry_at old places t.slot)) other)
          ∙ sym (ap (λ b. cond (b && nat_eq t.seq tag.seq) cell (cell_of old places t)) other)

  sequences : (s : ℕ) → sequence_of new places s ≡ cond (nat_eq s tag.slot) (Some tag.seq) (sequence_of old places s)
  sequences s = ap (option_map (λ (e : TagEntry). e.seq)) (changes.entries s) ∙ by_slot (nat_eq s tag.slot)
    where
      by_slot : (b : Bool) → option_map (λ (e : TagEntry). e.seq) (cond b (Some (record { seq = tag.seq; at = cell })) (entry_at old places s)) ≡ cond b (Some tag.seq) (sequence_of old places s)
      by_slot true = refl
      by_slot false = refl

  pub tag_set : SetsTag tag cell places old new
  tag_set = record { directory = changes.directory; cells = cells; sequences = sequences; elsewhere = changes.elsewhere }

-- what a used tag says of its slot's entry
pub leads_only : (pages : Pages) (places : List TagPlace) (tag : Tag) (o : Option TagEntry) → entry_at pages places tag.slot ≡ o → IsSome (option_and_then (cell_for tag.seq) o) → IfSome o (LeadsOnly tag.seq)
leads_only pages places tag None is used = tt
leads_only pages places tag (Some e) is used = by_test (nat_eq e.seq tag.seq) refl used
  where
    by_test : (b : Bool) → nat_eq e.seq tag.seq ≡ b → IsSome (cond b e.at None) → LeadsOnly tag.seq e
    by_test true same used = inr (eqb-true e.seq tag.seq same)
    by_test false other used = absurd (true≢false (sym used))
