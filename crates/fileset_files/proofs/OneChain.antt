-- One tag's file has another chain, and all others stay.
use Rattle.std.proofs.Common.{◌≡◌, ◌∙◌, ℕ, zero, suc, not, Bool, true, false, cond, nat_eq, List, [], ◌∷◌, map, Option, Some, None, IfSome, IsSomeAnd, Contains, refl, sym, ap, subst, arith, ⊎_elim}
use Rattle.std.proofs.lemmas.Bool.{and_from, cases_Bool, eq-eqb, true≢false}
use Rattle.std.specs.List.{AllByRecursion}
use Rattle.std.specs.Option.{option_map}
use Rattle.file_chains.specs.domain_base.declared.place.CellAt.{CellAt}
use Rattle.file_chains.specs.domain_base.declared.place.Home.{Home}
use Rattle.file_chains.specs.domain_base.declared.place.Tag.{Tag}
use Rattle.file_chains.specs.page_store.Pages.{Pages}
use Rattle.file_chains.specs.page_store.Bitfiles.{same_tag}
use Rattle.file_chains.specs.cell_records.declared.record.Record.{Record}
use Rattle.file_chains.specs.cell_records.Records.{kind_of}
use Rattle.file_chains.specs.metadata_cells.declared.head.CellHead.{CellHead}
use Rattle.file_chains.specs.metadata_cells.Cell.{Cell}
use Rattle.file_chains.specs.metadata_cells.Chain.{Follow, PlacedCell, StandsAt, places as cell_places}
use Rattle.file_chains.specs.free_cells.Cells.{Cells, table_of}
use Rattle.tag_dirs.specs.declared.dir.TagPlace.{TagPlace}
use Rattle.tag_dirs.specs.Directory.{cell_of, has_home}
use Rattle.file_chains.specs.FileChanges.{AreOnTables, LeavesOtherCells, SameFirst, map_kinds, other_records}
use Rattle.file_chains.specs.Files.{IsFile, has_rows, map_records}
use Rattle.file_chains.proofs.ChainChanges.{stand_file}
use Rattle.file_chains.proofs.Chosen.{all_at}
use Rattle.file_chains.proofs.Replaced.{all_filter, filter_false, filter_true}
use Rattle.fileset_files.specs.Changes.{with_chain}
use Rattle.fileset_files.specs.Files.{AreApart, AreFiles, Chains, HasFirstKinds, IsOf, LeadsToFile, is_first_kind}
use Rattle.fileset_files.proofs.OneFile.{tags_same}
use Rattle.fileset_files.proofs.Tags.{cell_same, directory_same, pages_same}

-- ---- a file all of whose cells stand

pub follow_by : (new old : Pages) (head : CellHead) (cs : List PlacedCell) → AllByRecursion (λ (c : PlacedCell). StandsAt new c.at c.cell) cs → Follow old head cs → Follow new head cs
follow_by new old head [] stand follow = follow
follow_by new old head (c ∷ cs) stand follow = (follow.0, follow.1, stand.0, follow_by new old c.cell.head cs stand.1 follow.3)

pub file_by : (old new : Pages) (start : CellAt) (cs : List PlacedCell) → AllByRecursion (λ (c : PlacedCell). StandsAt new c.at c.cell) cs → IsFile old start cs → IsFile new start cs
file_by old new start [] stand is = is
file_by old new start (first ∷ rest) stand is = (
  is.0,
  record {
    links = record { stands = stand.0; follow = follow_by new old first.cell.head rest stand.1 is.1.links.follow; distinct = is.1.links.distinct };
    primary = is.1.primary;
    attributes = is.1.attributes;
    value = is.1.value;
    map = is.1.map;
    others = is.1.others;
    one_map = is.1.one_map;
  },
)

-- the cells of a chain that is apart from the changed one, and stands on tables
pub stand_still : (old new : Pages) (cells : Cells) (chain cs : List PlacedCell) → LeavesOtherCells cells chain old new → ((at : CellAt) → Contains (cell_places cs) at → ¬ Contains (cell_places chain) at) → AreOnTables cells cs
    → AllByRecursion (λ (c : PlacedCell). StandsAt old c.at c.cell) cs → AllByRecursion (λ (c : PlacedCell). StandsAt new c.at c.cell) cs
stand_still old new cells chain [] others apart on stand = tt
stand_still old new cells chain (c ∷ cs) others apart on stand = (
  others c.at c.cell stand.0 on.0 (apart c.at (0, omega arith, refl)),
  stand_still old new cells chain cs others (λ at inside. apart at (suc inside.0, omega (arith, inside.1), inside.2)) on.1 stand.1,
)

-- ---- the records of the first cell

all_kinds : (rs : List Record) → AllByRecursion (λ r. is_first_kind (kind_of r) ≡ true) rs → AllByRecursion (λ k. is_first_kind k ≡ true) (map kind_of rs)
all_kinds [] all = tt
all_kinds (r ∷ rs) all = (all.0, all_kinds rs all.1)

kinds_back : (rs : List Record) → AllByRecursion (λ r. is_first_kind (kind_of r) ≡ true) (other_records rs) → AllByRecursion (λ k. is_first_kind k ≡ true) (map_kinds rs) → AllByRecursion (λ r. is_first_kind (kind_of r) ≡ true) rs
kinds_back [] others maps = tt
kinds_back (r ∷ rs) others maps = ⊎_elim
    (λ rows.
    let maps_now = subst (λ xs. AllByRecursion (λ k. is_first_kind k ≡ true) (map kind_of xs)) (filter_true has_rows r rs rows) maps in
    (maps_now.0, kinds_back rs (subst (AllByRecursion (λ r. is_first_kind (kind_of r) ≡ true)) (filter_false (λ r. not (has_rows r)) r rs (ap not rows)) others) maps_now.1))
    (λ none.
    let others_now = subst (AllByRecursion (λ r. is_first_kind (kind_of r) ≡ true)) (filter_true (λ r. not (has_rows r)) r rs (ap not none)) others in
    (others_now.0, kinds_back rs others_now.1 (subst (λ xs. AllByRecursion (λ k. is_first_kind k ≡ true) (map kind_of xs)) (filter_false has_rows r rs none) maps)))
    (cases_Bool (has_rows r))

pub kinds_same : (chain after : List PlacedCell) → SameFirst chain after → HasFirstKinds chain → HasFirstKinds after
kinds_same [] after same kinds = absurd kinds
kinds_same (a ∷ xs) [] same kinds = absurd same
kinds_same (a ∷ xs) (b ∷ ys) same kinds =
    kinds_back b.cell.records
    (subst (AllByRecursion (λ r. is_first_kind (kind_of r) ≡ true)) (sym same.2) (all_filter (λ r. is_first_kind (kind_of r) ≡ true) (λ r. not (has_rows r)) a.cell.records kinds))
    (subst (AllByRecursion (λ k. is_first_kind k ≡ true)) (sym same.3) (all_kinds (map_records a.cell.records) (all_filter (λ r. is_first_kind (kind_of r) ≡ true) has_rows a.cell.records kinds)))

of_same : (fileset : ℕ) (tag : Tag) (chain after : List PlacedCell) → SameFirst chain after → IsOf fileset tag chain → IsOf fileset tag after
of_same fileset tag [] after same is = absurd is
of_same fileset tag (a ∷ xs) [] same is = absurd same
of_same fileset tag (a ∷ xs) (b ∷ ys) same is = (ap (λ h. h.slot) same.1 ∙ is.0, ap (λ h. h.seq) same.1 ∙ is.1, ap (λ h. h.fileset) same.1 ∙ is.2)

pub start_same : (old new : Pages) (at start : CellAt) (chain after : List PlacedCell) → SameFirst chain after → IsFile old at chain → IsFile new start after → IsFile new at after
start_same old new at start [] after same was is = absurd was
start_same old new at start (a ∷ xs) [] same was is = absurd same
start_same old new at start (a ∷ xs) (b ∷ ys) same was is = (same.0 ∙ was.0, is.1)

pub placed_at : (cs : List PlacedCell) (at : CellAt) → Contains (cell_places cs) at → (c : PlacedCell) × Contains cs c × (c.at ≡ at)
placed_at [] at inside = absurd (omega (arith, inside.1))
placed_at (c ∷ cs) at (zero, within, is) = (c, (0, omega arith, refl), is)
placed_at (c ∷ cs) at (suc k, within, is) = let later = placed_at cs at (k, omega (arith, within), is) in (later.0, (suc later.1.0, omega (arith, later.1.1), later.1.2), later.2)

some_stand : (pages : Pages) (cs : List PlacedCell) → AllByRecursion (λ (c : PlacedCell). StandsAt pages c.at c.cell) cs → AllByRecursion (λ (c : PlacedCell). (cell : Cell) × StandsAt pages c.at cell) cs
some_stand pages [] stand = tt
some_stand pages (c ∷ cs) stand = ((c.cell, stand.0), some_stand pages cs stand.1)

-- ---- the chain of a tag

pub same_tag_itself : (t : Tag) → same_tag t t ≡ true
same_tag_itself t = and_from (nat_eq t.slot t.slot) (nat_eq t.seq t.seq) (eq-eqb t.slot t.slot refl) (eq-eqb t.seq t.seq refl)

module _ (tag : Tag) (change : List PlacedCell → List PlacedCell) (chains : Chains) where
  pub chain_same : (t : Tag) → same_tag t tag ≡ true → with_chain tag change chains t ≡ option_map change (chains t)
  chain_same t same = ap (λ (b : Bool). cond b (option_map change (chains t)) (chains t)) same

  pub chain_other : (t : Tag) → same_tag t tag ≡ false → with_chain tag change chains t ≡ chains t
  chain_other t other = ap (λ (b : Bool). cond b (option_map change (chains t)) (chains t)) other

pub tag_after : (tag : Tag) (after : List PlacedCell) (chains : Chains) (chain : List PlacedCell) → chains tag ≡ Some chain → (t : Tag) → same_tag t tag ≡ true → with_chain tag (λ _. after) chains t ≡ Some after
tag_after tag after chains chain is t same = chain_same tag (λ _. after) chains t same ∙ ap (λ (u : Tag). option_map (λ _. after) (chains u)) (tags_same t tag same) ∙ ap (option_map (λ _. after)) is

-- no cell that joins the chain was in use
abbrev pub JoinedWereFree : Cells → Pages → List PlacedCell → List PlacedCell → Type 0
JoinedWereFree cells old chain after = (c : PlacedCell) → Contains after c → ¬ Contains (cell_places chain) c.at → (cell : Cell) → StandsAt old c.at cell → ¬ Contains (table_of cells c.at.vol) c.at.page

module _ (old new : Pages) (fileset : ℕ) (places : List TagPlace) (tag : Tag) (chains : Chains) (cells : Cells) (chain after : List PlacedCell) (start : CellAt) (are : AreFiles fileset places old chains) (is : chains tag ≡ Some chain)
    (on : (t : Tag) → IfSome (chains t) (AreOnTables cells)) (tag_pages : (home : Home) → has_home places home ≡ true → new home ≡ old home) (others : LeavesOtherCells cells chain old new) (is_file : IsFile new start after)
    (first : SameFirst chain after) (joined : JoinedWereFree cells old chain after) where
  abbrev now : Chains
  now = with_chain tag (λ _. after) chains

  now_tag : (t : Tag) → same_tag t tag ≡ true → now t ≡ Some after
  now_tag t same = tag_after tag after chains chain is t same

  cells_lead : (t : Tag) → cell_of new places t ≡ cell_of old places t
  cells_lead = cell_same old new places are.directory (pages_same old new places tag_pages)

  was : LeadsToFile fileset places old tag chain
  was = subst (λ o. IfSome o (LeadsToFile fileset places old tag)) is (are.some tag)

  leads_now : LeadsToFile fileset places new tag after
  leads_now = record {
    leads = subst (λ o. IsSomeAnd o (λ at. IsFile new at after)) (sym (cells_lead tag)) (by_cell (cell_of old places tag) was.leads);
    is_of = of_same fileset tag chain after first was.is_of;
    kinds = kinds_same chain after first was.kinds;
  }
    where
      by_cell : (o : Option CellAt) → IsSomeAnd o (λ at. IsFile old at chain) → IsSomeAnd o (λ at. IsFile new at after)
      by_cell None leads = leads
      by_cell (Some at) leads = start_same old new at start chain after first leads is_file

  apart_of : (t : Tag) (cs : List PlacedCell) → same_tag t tag ≡ false → chains t ≡ Some cs → AreApart cs chain
  apart_of t cs other of =
      let both = subst (λ o. IfSome o (λ xs. IfSome (chains tag) (AreApart xs))) of (are.apart t tag other) in
      subst (λ o. IfSome o (AreApart cs)) is both

  on_of : (t : Tag) (cs : List PlacedCell) → chains t ≡ Some cs → AreOnTables cells cs
  on_of t cs of = subst (λ o. IfSome o (AreOnTables cells)) of (on t)

  other_leads : (t : Tag) (cs : List PlacedCell) → same_tag t tag ≡ false → chains t ≡ Some cs → LeadsToFile fileset places old t cs → LeadsToFile fileset places new t cs
  other_leads t cs other of leads = record {
    leads = subst (λ o. IsSomeAnd o (λ at. IsFile new at cs)) (sym (cells_lead t)) (by_cell (cell_of old places t) leads.leads);
    is_of = leads.is_of;
    kinds = leads.kinds;
  }
    where
      by_cell : (o : Option CellAt) → IsSomeAnd o (λ at. IsFile old at cs) → IsSomeAnd o (λ at. IsFile new at cs)
      by_cell None leads = leads
      by_cell (Some at) leads = file_by old new at cs (stand_still old new cells chain cs others (apart_of t cs other of) (on_of t cs of) (stand_file old at cs leads)) leads

  -- a chain of another tag has no cell of the new one
  apart_after : (t : Tag) (cs : List PlacedCell) → same_tag t tag ≡ false → chains t ≡ Some cs → LeadsToFile fileset places old t cs → (at : CellAt) → Contains (cell_places cs) at → ¬ Contains (cell_places after) at
  apart_after t cs other of leads at inside there =
      let c = placed_at after at there in
      let c_inside : Contains (cell_places cs) c.0.at = subst (λ (a : CellAt). Contains (cell_places cs) a) (sym c.2) inside in
      let stood = by_cell (cell_of old places t) leads.leads c.0.at c_inside in
      joined c.0 c.1 (apart_of t cs other of c.0.at c_inside) stood.0 stood.1
      (all_at (λ (a : CellAt). Contains (table_of cells a.vol) a.page) cs c.0.at (on_of t cs of) c_inside)
    where
      by_cell : (o : Option CellAt) → IsSomeAnd o (λ at. IsFile old at cs) → (a : CellAt) → Contains (cell_places cs) a → (cell : Cell) × StandsAt old a cell
      by_cell None leads a inside = absurd leads
      by_cell (Some start) leads a inside = all_at (λ (a : CellAt). (cell : Cell) × StandsAt old a cell) cs a (some_stand old cs (stand_file old start cs leads)) inside

  some_now : (t : Tag) → IfSome (now t) (LeadsToFile fileset places new t)
  some_now t = ⊎_elim
      (λ same. subst (λ o. IfSome o (LeadsToFile fileset places new t)) (sym (now_tag t same)) (subst (λ (u : Tag). LeadsToFile fileset places new u after) (sym (tags_same t tag same)) leads_now))
      (λ other. subst (λ o. IfSome o (LeadsToFile fileset places new t)) (sym (chain_other tag (λ _. after) chains t other)) (by_chain other (chains t) refl (are.some t)))
      (cases_Bool (same_tag t tag))
    where
      by_chain : same_tag t tag ≡ false → (o : Option (List PlacedCell)) → chains t ≡ o → IfSome o (LeadsToFile fileset places old t) → IfSome o (LeadsToFile fileset places new t)
      by_chain other None of some = tt
      by_chain other (Some cs) of some = other_leads t cs other of some

  none_now : (t : Tag) → now t ≡ None → cell_of new places t ≡ None
  none_now t none = cells_lead t ∙ are.none t (⊎_elim
      (λ same. absurd (some_is_none (sym (now_tag t same) ∙ none)))
      (λ other. sym (chain_other tag (λ _. after) chains t other) ∙ none)
      (cases_Bool (same_tag t tag)))
    where
      some_is_none : Some after ≡ None → ⊥
      some_is_none e = cc

  apart_now : (s t : Tag) → same_tag s t ≡ false → IfSome (now s) (λ xs. IfSome (now t) (AreApart xs))
  apart_now s t differ = ⊎_elim
      (λ s_same. ⊎_elim
      (λ t_same. absurd (both (tags_same s tag s_same ∙ sym (tags_same t tag t_same))))
      (λ t_other.
      subst (λ o. IfSome o (λ xs. IfSome (now t) (AreApart xs))) (sym (now_tag s s_same))
      (subst (λ o. IfSome o (AreApart after)) (sym (chain_other tag (λ _. after) chains t t_other)) (behind t_other (chains t) refl (are.some t))))
      (cases_Bool (same_tag t tag)))
      (λ s_other. ⊎_elim
      (λ t_same.
      subst (λ o. IfSome o (λ xs. IfSome (now t) (AreApart xs))) (sym (chain_other tag (λ _. after) chains s s_other))
      (subst (λ o. IfSome (chains s) (λ xs. IfSome o (AreApart xs))) (sym (now_tag t t_same)) (before s_other (chains s) refl (are.some s))))
      (λ t_other.
      subst (λ o. IfSome o (λ xs. IfSome (now t) (AreApart xs))) (sym (chain_other tag (λ _. after) chains s s_other))
      (subst (λ o. IfSome (chains s) (λ xs. IfSome o (AreApart xs))) (sym (chain_other tag (λ _. after) chains t t_other)) (are.apart s t differ)))
      (cases_Bool (same_tag t tag)))
      (cases_Bool (same_tag s tag))
    where
      both : s ≡ t → ⊥
      both same = true≢false (sym (same_tag_itself s) ∙ ap (same_tag s) same ∙ differ)

      behind : same_tag t tag ≡ false → (o : Option (List PlacedCell)) → chains t ≡ o → IfSome o (LeadsToFile fileset places old t) → IfSome o (AreApart after)
      behind other None of some = tt
      behind other (Some cs) of some = λ at inside there. apart_after t cs other of some at there inside

      before : same_tag s tag ≡ false → (o : Option (List PlacedCell)) → chains s ≡ o → IfSome o (LeadsToFile fileset places old s) → IfSome o (λ xs. AreApart xs after)
      before other None of some = tt
      before other (Some cs) of some = apart_after s cs other of some

  pub files_after : AreFiles fileset places new now
  files_after = record {
    directory = directory_same old new places are.directory (pages_same old new places tag_pages);
    none = none_now;
    some = some_now;
    apart = apart_now;
  }
