-- The list of what is left to be done grows by the files whose first cells say so, and has all of them in the end.
use Rattle.std.proofs.Common.{◌≡◌, ◌∙◌, ◌⊎◌, ◌↔◌, inl, inr, ℕ, zero, suc, ◌<◌, ◌≤◌, Bool, true, false, IsTrue, List, [], ◌∷◌, ◌++◌, length, None, Contains, get_or, slice_set, refl, sym, ap, subst, arith, ⊎_elim, length-append}
use Rattle.std.proofs.lemmas.Bool.{cases_lt, true≢false}
use Rattle.domain_memory.specs.domain_base.declared.place.CellAt.{CellAt}
use Rattle.domain_memory.specs.page_store.Pages.{Pages}
use Rattle.domain_memory.specs.metadata_cells.Cell.{Cell}
use Rattle.domain_memory.specs.metadata_cells.Chain.{StandsAt}
use Rattle.domain_memory.proofs.OfMetadataCells.Unique.{one_stands}
use Rattle.domain_memory.specs.release_list.Listing.{Adds, Listing, SetsEntry}
use Rattle.domain_memory.specs.release_list.declared.list.Entry.{Entry}
use Rattle.cell_faults.specs.cell_chains.Links.{HasLink, cells_of}
use Rattle.cell_faults.specs.cell_chains.declared.links.CellLink.{CellLink}
use Rattle.cell_faults.specs.cell_chains.declared.links.CellLinks.{CellLinks}
use Rattle.cell_faults.specs.Links.{AreLinks, link_in}
use Rattle.cell_faults.proofs.OfCellChains.Each.{AreFound}
use Rattle.domain_memory.specs.domain_layout.Faults.{HasNoTablesFault}
use Rattle.domain_memory.specs.domain_layout.Layout.{IsLayout, Layout}
use Rattle.domain_memory.specs.domain_layout.Owners.{IsOnTable, frame_of}
use Rattle.no_faults.specs.Listing.{AddsLeft, AreAlone, AreOnce, IsLeftAt, SaysLeft, SaysThrough}
use Rattle.domain_memory.specs.domain_standing.Sources.{HasSource}
use Rattle.no_faults.specs.ToDo.{IsLeftToDo, Lists, ListsToDo}
use Rattle.no_faults.proofs.Listed.{at_place, not_in}
use Rattle.no_faults.proofs.OnTables.{LinkOf, link_there, link_used}
use Rattle.no_faults.proofs.Searched.{in_front}

-- ---- lists of entries

set_same : (es : List Entry) (k : ℕ) (e : Entry) → k < length es → get_or es k e ≡ e → slice_set es k e ≡ es
set_same [] k e within is = absurd (omega (arith, within))
set_same (x ∷ xs) zero e within is = ap (λ (y : Entry). y ∷ xs) (sym is)
set_same (x ∷ xs) (suc k) e within is = ap (λ (ys : List Entry). x ∷ ys) (set_same xs k e (omega (arith, within)) is)

pushed_on : (y : Entry) (ys : List Entry) (e x : Entry) → Contains (ys ++ e ∷ []) x ↔ (Contains ys x ⊎ (e ≡ x)) → Contains (y ∷ (ys ++ e ∷ [])) x ↔ (Contains (y ∷ ys) x ⊎ (e ≡ x))
pushed_on y ys e x rest = (there, back)
  where
    there : Contains (y ∷ (ys ++ e ∷ [])) x → Contains (y ∷ ys) x ⊎ (e ≡ x)
    there (zero, within, is) = inl (0, omega arith, is)
    there (suc k, within, is) = ⊎_elim (λ among. inl (in_front y x ys among)) (λ same. inr same) (rest.0 (k, omega (arith, within), is))

    first : Contains (y ∷ ys) x → Contains (y ∷ (ys ++ e ∷ [])) x
    first (zero, within, is) = (0, omega arith, is)
    first (suc k, within, is) = in_front y x (ys ++ e ∷ []) (rest.1 (inl (k, omega (arith, within), is)))

    back : Contains (y ∷ ys) x ⊎ (e ≡ x) → Contains (y ∷ (ys ++ e ∷ [])) x
    back either = ⊎_elim first (λ same. in_front y x (ys ++ e ∷ []) (rest.1 (inr same))) either

in_one : (e x : Entry) → Contains (e ∷ []) x → e ≡ x
in_one e x (zero, within, is) = is
in_one e x (suc k, within, is) = absurd (omega (arith, within))

in_pushed : (es : List Entry) (e x : Entry) → Contains (es ++ e ∷ []) x ↔ (Contains es x ⊎ (e ≡ x))
in_pushed [] e x = ((λ among. inr (in_one e x among)), (λ either. ⊎_elim (λ none. absurd (omega (arith, none.1))) (λ same. (0, omega arith, same)) either))
in_pushed (y ∷ ys) e x = pushed_on y ys e x (in_pushed ys e x)

before_end : (es : List Entry) (e d : Entry) (k : ℕ) → k < length es → get_or (es ++ e ∷ []) k d ≡ get_or es k d
before_end [] e d k within = absurd (omega (arith, within))
before_end (x ∷ xs) e d zero within = refl
before_end (x ∷ xs) e d (suc k) within = before_end xs e d k (omega (arith, within))

at_end : (es : List Entry) (e d : Entry) → get_or (es ++ e ∷ []) (length es) d ≡ e
at_end [] e d = refl
at_end (x ∷ xs) e d = at_end xs e d

-- one more, of a file that has none yet
once_more : (es : List Entry) (e : Entry) → AreOnce es → ((x : Entry) → Contains es x → ¬ x.at ≡ e.at) → AreOnce (es ++ e ∷ [])
once_more es e once none i j d below_i below_j same =
    ⊎_elim (λ low_i. ⊎_elim (λ low_j. once i j d low_i low_j (sym (at_of i low_i) ∙ same ∙ at_of j low_j))
    (λ high_j. absurd (none (get_or es i d) (at_place es i d low_i) (sym (at_of i low_i) ∙ same ∙ last_of j high_j below_j)))
    (cases_lt j (length es)))
    (λ high_i. ⊎_elim (λ low_j. absurd (none (get_or es j d) (at_place es j d low_j) (sym (at_of j low_j) ∙ sym same ∙ last_of i high_i below_i)))
    (λ high_j. omega (arith, high_i, high_j, below_i, below_j, length-append es (e ∷ [])))
    (cases_lt j (length es)))
    (cases_lt i (length es))
  where
    at_of : (k : ℕ) → k < length es → (get_or (es ++ e ∷ []) k d).at ≡ (get_or es k d).at
    at_of k low = ap (λ (x : Entry). x.at) (before_end es e d k low)

    last_of : (k : ℕ) → length es ≤ k → k < length (es ++ e ∷ []) → (get_or (es ++ e ∷ []) k d).at ≡ e.at
    last_of k high below =
        let here : k ≡ length es = omega (arith, high, below, length-append es (e ∷ [])) in
        ap (λ n. (get_or (es ++ e ∷ []) n d).at) here ∙ ap (λ (x : Entry). x.at) (at_end es e d)

-- ---- one file is added

-- the entry of a file alone
abbrev alone : CellAt → Entry
alone at = record { at = at; clone = None }

same_entry : (at : CellAt) (entry : Entry) → entry.at ≡ at → entry.clone ≡ None → alone at ≡ entry
same_entry at entry same none = (λ i. record { at = sym same i; clone = sym none i })

module _ (pages : Pages) (at : CellAt) (old new : Listing) where
  pub adds_none : new ≡ old → ¬ SaysLeft pages at → AddsLeft pages at old new
  adds_none same silent = subst (AddsLeft pages at old) (sym same) (record {
    each = λ entry. ((λ among. inl among), (λ either. ⊎_elim (λ among. among) (λ left. absurd (silent left.says)) either));
    once = λ once. once;
    tag_pages = refl;
  })

  adds_same : SaysLeft pages at → Contains old.entries (alone at) → new.entries ≡ old.entries → new.tag_pages ≡ old.tag_pages → AddsLeft pages at old new
  adds_same says has same tags = record {
    each = λ entry. (
      (λ among. inl (subst (λ es. Contains es entry) same among)),
      (λ either. subst (λ es. Contains es entry) (sym same) (⊎_elim (λ among. among) (λ left. subst (Contains old.entries) (same_entry at entry left.same left.alone) has) either)),
    );
    once = λ once. subst AreOnce (sym same) once;
    tag_pages = tags;
  }

  adds_new : SaysLeft pages at → ((entry : Entry) → Contains old.entries entry → ¬ entry.at ≡ at) → new.entries ≡ old.entries ++ alone at ∷ [] → new.tag_pages ≡ old.tag_pages → AddsLeft pages at old new
  adds_new says none more tags = record {
    each = λ entry.
        let in_more = in_pushed old.entries (alone at) entry in (
          (λ among. ⊎_elim (λ before. inl before)
              (λ same. inr (record { same = ap (λ (e : Entry). e.at) (sym same); alone = ap (λ (e : Entry). e.clone) (sym same); says = says })) (in_more.0 (subst (λ es. Contains es entry) more among))),
          (λ either. subst (λ es. Contains es entry) (sym more) (in_more.1 (⊎_elim (λ before. inl before) (λ left. inr (same_entry at entry left.same left.alone)) either))),
        );
    once = λ once. subst AreOnce (sym more) (once_more old.entries (alone at) once none);
    tag_pages = tags;
  }

  pub adds_left : AreAlone old → Adds at None old.entries new.entries → new.tag_pages ≡ old.tag_pages → SaysLeft pages at → AddsLeft pages at old new
  adds_left all_alone adds tags says = ⊎_elim sets (λ more. adds_new says more.none (adds.orders ∙ more.is) tags) adds.puts
    where
      sets : SetsEntry at None adds.place old.entries adds.between → AddsLeft pages at old new
      sets s =
          let there = at_place old.entries adds.place (alone at) s.within in
          let same : alone at ≡ get_or old.entries adds.place (alone at) =
          same_entry at (get_or old.entries adds.place (alone at)) (s.was (alone at)) (all_alone (get_or old.entries adds.place (alone at)) there) in
          adds_same says (subst (Contains old.entries) (sym same) there) (adds.orders ∙ s.is ∙ set_same old.entries adds.place (alone at) s.within (sym same)) tags

-- ---- all files

pub record ListsSo (pages : Pages) (links : CellLinks) (list : Listing) (number : ℕ) : Type 0 where
  pub found : AreFound (cells_of links) {X = Entry} (λ entry at link. IsLeftAt pages at entry) (Contains list.entries) number
  pub once : AreOnce list.entries
  pub tags : list.tag_pages ≡ []

-- those that were found give no clone
pub all_alone : (pages : Pages) (links : CellLinks) (list : Listing) (number : ℕ) → ListsSo pages links list number → AreAlone list
all_alone pages links list number so entry among = ((so.found entry).0 among).2.alone

pub none_yet : (pages : Pages) (links : CellLinks) (list : Listing) → list.entries ≡ [] → list.tag_pages ≡ [] → ListsSo pages links list 0
none_yet pages links list none tags = record {
  found = λ entry. ((λ among. not_in list.entries entry none among), (λ below. absurd (omega (arith, below.1.1))));
  once = λ i j e below_i below_j same. let l : length list.entries ≡ 0 = ap length none in absurd (omega (arith, l, below_i));
  tags = tags;
}

module _ (pages : Pages) (layout : Layout) (laid : IsLayout pages layout) (none : HasNoTablesFault pages (frame_of layout)) (links : CellLinks) (are : AreLinks pages (frame_of layout) links) where
  -- a cell that is read stands on a page of tables
  on_table_of : (at : CellAt) (link : CellLink) (cell : Cell) → HasLink links at link → StandsAt pages at cell → IsOnTable pages layout at cell
  on_table_of at link cell has stands =
      let of : LinkOf pages layout laid none at (link_in link) = link_used pages layout laid none at (link_in link) ((are at link).0 has) in
      subst (IsOnTable pages layout at) (one_stands pages at of.cell cell of.on.stands stands) of.on

  has_link : (at : CellAt) (cell : Cell) → IsOnTable pages layout at cell → HasLink links at (record { kind = cell.head.kind; next = cell.head.next })
  has_link at cell on = (are at (record { kind = cell.head.kind; next = cell.head.next })).1 (link_there pages layout laid none at cell on)

  to_do_of : (at : CellAt) (link : CellLink) → HasLink links at link → SaysLeft pages at → IsLeftToDo pages layout at
  to_do_of at link has says = record { cell = says.cell; on = on_table_of at link says.cell has says.stands; kind = says.kind; says = says.says }

  pub lists_to_do : (list : Listing) → AreOnce list.entries → list.tag_pages ≡ []
      → ((entry : Entry) → Contains list.entries entry ↔ ((at : CellAt) × (link : CellLink) × HasLink links at link × IsLeftAt pages at entry)) → ListsToDo pages layout list
  lists_to_do list once tags each = record {
    all = all_listed;
    only = only_those;
    once = once;
    no_tags = tags;
  }
    where
      all_listed : (at : CellAt) → IsLeftToDo pages layout at → Lists list at
      all_listed at left = (
        alone at,
        (each (alone at)).1 (
          at,
          record { kind = left.cell.head.kind; next = left.cell.head.next },
          has_link at left.cell left.on,
          record { same = refl; alone = refl; says = record { cell = left.cell; stands = left.on.stands; kind = left.kind; says = left.says } },
        ),
        refl,
      )

      only_those : (entry : Entry) → Contains list.entries entry → IsLeftToDo pages layout entry.at × (entry.clone ≡ None)
      only_those entry among =
          let of = (each entry).0 among in
          (subst (IsLeftToDo pages layout) (sym of.3.same) (to_do_of of.0 of.1 of.2 of.3.says), of.3.alone)

  -- ---- files that read through others

  pub some_source : ((at : CellAt) × (link : CellLink) × HasLink links at link × SaysThrough pages at) ↔ ((at : CellAt) × HasSource pages layout at)
  some_source = (
    (λ of. (of.0, record { cell = of.3.cell; on = on_table_of of.0 of.1 of.3.cell of.2 of.3.stands; kind = of.3.kind; says = of.3.says })),
    (λ (at, source). (
      at,
      record { kind = source.cell.head.kind; next = source.cell.head.next },
      has_link at source.cell source.on,
      record { cell = source.cell; stands = source.on.stands; kind = source.kind; says = source.says },
    )),
  )

-- ---- one cell more is looked at

pub found_before : (now was : Bool) (P : Type 0) → was ≡ true → now ≡ true → IsTrue now ↔ (IsTrue was ⊎ P)
found_before now was P before is = ((λ _. inl before), (λ _. is))

pub found_here : (now was says : Bool) (P : Type 0) → was ≡ false → now ≡ says → (IsTrue says ↔ P) → IsTrue now ↔ (IsTrue was ⊎ P)
found_here now was says P none is here = (
  (λ found. inr (here.0 (sym is ∙ found))),
  (λ either. is ∙ ⊎_elim (λ before. absurd (true≢false (sym before ∙ none))) (λ so. here.1 so) either),
)
