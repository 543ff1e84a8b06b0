-- The files of the one fileset: its root alone.
use Rattle.std.proofs.Common.{◌≡◌, ◌∙◌, ℕ, zero, suc, ◌/◌, ◌%◌, Bool, true, false, cond, nat_eq, nat_lt, ◌&&◌, List, [], ◌∷◌, Option, Some, None, IfSome, IsSomeAnd, slice_get, refl, sym, ap, subst, arith, ⊎_elim}
use Rattle.std.proofs.lemmas.Bool.{and_parts, both_ways, cases_Bool, eq-eqb, eqb-true}
use Rattle.std.specs.Option.{option_and_then, option_map}
use Rattle.domain_making.specs.domain_base.declared.place.CellAt.{CellAt}
use Rattle.domain_making.specs.domain_base.declared.place.Kind.TheVariants.{Directory}
use Rattle.domain_making.specs.domain_base.declared.place.Tag.{Tag}
use Rattle.domain_making.specs.page_store.Bitfiles.{same_tag}
use Rattle.domain_making.specs.page_store.Pages.{Pages}
use Rattle.domain_making.specs.cell_records.declared.record.Record.TheVariants as written
use Rattle.domain_making.specs.metadata_cells.Chain.{PlacedCell, StandsAt}
use Rattle.domain_making.specs.tag_dirs.Directory.{IsDirectory, IsDirectoryAt, IsPageOf, home_behind, cell_for, cell_of}
use Rattle.domain_making.specs.tag_dirs.TagPage.{entry_of}
use Rattle.domain_making.specs.tag_dirs.declared.dir.TagPlace.{TagPlace}
use Rattle.domain_making.specs.extent_maps.Runs.{home_at}
use Rattle.domain_making.specs.extent_maps.declared.run.PagePlace.TheVariants.{Absent}
use Rattle.domain_making.specs.extent_records.Writing.{IsMapRecord, no_extent, places_before}
use Rattle.domain_making.specs.file_chains.Files.{IsFile, places_of}
use Rattle.domain_making.specs.fileset_files.Files.{AreApart, AreFiles, Chains, LeadsToFile}
use Rattle.domain_making.specs.name_space.Names.{root_tag}
use Rattle.domain_making.specs.domain_layout.Seen.{SeenFile, seen_in}
use Rattle.domain_making.specs.domain_layout.Shape.{HasChains}
use Rattle.domain_making.specs.domain_layout.NewDomain.{on_first}
use Rattle.domain_tests.specs.OneFileset.{cells_page, tags_page}
use Rattle.domain_tests.proofs.OneCells.{extents_allowed, root_bytes, root_cell, says_root}
use Rattle.domain_tests.proofs.OneTags.{entry_a, first_index, good_tags, no_entry, no_next, none_behind, root_at, root_entry}
use Rattle.domain_tests.proofs.OneRules.{root_said}

abbrev pub root_placed : PlacedCell
root_placed = record { at = root_at; cell = root_cell }

abbrev pub root_cells : List PlacedCell
root_cells = root_placed ∷ []

abbrev pub chains_a : Chains
chains_a tag = cond (same_tag tag root_tag) (Some root_cells) None

abbrev pub place_a : TagPlace
place_a = record { index = 0; home = record { vol = 1; page = 133 } }

abbrev pub root_seen : SeenFile
root_seen = record {
  is = record { kind = Directory; uid = 0; gid = 0; is_logged = false; size = 0; links = 1 };
  homes = λ page. home_at (places_before 65536 (places_of root_cells) page);
}

pub root_is_seen : seen_in root_cells ≡ Some root_seen
root_is_seen = refl

-- it has no page
pub no_home : (page : ℕ) → root_seen.homes page ≡ None
no_home page = by_test (nat_lt page 65536)
  where
    by_test : (b : Bool) → home_at (cond b Absent Absent) ≡ None
    by_test true = refl
    by_test false = refl

-- ---- the tag of the root

pub is_root : (tag : Tag) → same_tag tag root_tag ≡ true → tag ≡ root_tag
is_root tag same =
    let both = and_parts (nat_eq tag.slot 1) (nat_eq tag.seq 1) same in
    (λ i. record { slot = eqb-true tag.slot 1 both.0 i; seq = eqb-true tag.seq 1 both.1 i })

turned : (n : ℕ) → nat_eq 1 n ≡ nat_eq n 1
turned n = by_test (nat_eq 1 n) (nat_eq n 1) refl refl
  where
    by_test : (b c : Bool) → nat_eq 1 n ≡ b → nat_eq n 1 ≡ c → b ≡ c
    by_test true true is also = refl
    by_test true false is also = absurd (both_ways (nat_eq n 1) also (eq-eqb n 1 (sym (eqb-true 1 n is))))
    by_test false true is also = absurd (both_ways (nat_eq 1 n) is (eq-eqb 1 n (sym (eqb-true n 1 also))))
    by_test false false is also = refl

either_none : (b : Bool) (at : Option CellAt) → at ≡ None → cond b at None ≡ None
either_none true at none = none
either_none false at none = refl

not_one : (n : ℕ) → nat_eq (suc (suc n)) 1 ≡ false
not_one n = ⊎_elim (λ is. absurd (omega (arith, eqb-true (suc (suc n)) 1 is))) (λ is. is) (cases_Bool (nat_eq (suc (suc n)) 1))

module _ (pages : Pages) (cells_there : pages (on_first 3) ≡ Some cells_page) (tags_there : pages (on_first 133) ≡ Some tags_page) where
  -- ---- the tag directory

  abbrev led : ℕ → ℕ → Bool → Option CellAt
  led slot seq b = option_and_then (cell_for seq) (option_map (λ page. entry_of page (slot % 1022)) (option_and_then pages (cond b (Some (record { vol = 1; page = 133 })) None)))

  led_there : (slot seq : ℕ) → led slot seq true ≡ cell_for seq (entry_of tags_page (slot % 1022))
  led_there slot seq = ap (λ o. option_and_then (cell_for seq) (option_map (λ page. entry_of page (slot % 1022)) o)) tags_there

  by_slot : (slot seq : ℕ) → cell_of pages (place_a ∷ []) (record { slot = slot; seq = seq }) ≡ cond (nat_eq slot 1 && nat_eq seq 1) (Some root_at) None
  by_slot zero seq = led_there 0 seq ∙ ap (cell_for seq) no_entry ∙ either_none (nat_eq 0 seq) None refl
  by_slot (suc zero) seq = led_there 1 seq ∙ ap (cell_for seq) root_entry ∙ ap (λ b. cond b (Some root_at) None) (turned seq)
  by_slot (suc (suc n)) seq =
      by_test (nat_eq 0 (suc (suc n) / 1022)) refl ∙ sym (ap (λ b. cond (b && nat_eq seq 1) (Some root_at) None) (not_one n))
    where
      by_test : (b : Bool) → nat_eq 0 (suc (suc n) / 1022) ≡ b → led (suc (suc n)) seq (nat_eq 0 (suc (suc n) / 1022)) ≡ None
      by_test true low =
          let e = eqb-true 0 (suc (suc n) / 1022) low in
          let same : suc (suc n) % 1022 ≡ suc (suc n) = omega (arith, e) in
          ap (led (suc (suc n)) seq) low ∙ led_there (suc (suc n)) seq ∙ ap (λ k. cell_for seq (entry_of tags_page k)) same
          ∙ either_none (nat_eq (entry_of tags_page (suc (suc n))).seq seq) (entry_of tags_page (suc (suc n))).at (none_behind n)
      by_test false high = ap (led (suc (suc n)) seq) high

  pub leads : (tag : Tag) → cell_of pages (place_a ∷ []) tag ≡ cond (same_tag tag root_tag) (Some root_at) None
  leads tag = by_slot tag.slot tag.seq

  directory_a : IsDirectory pages (place_a ∷ [])
  directory_a = record { run = run; apart = apart; first = refl }
    where
      run : (k : ℕ) → IfSome (slice_get (place_a ∷ []) k) (λ place. IsSomeAnd (pages place.home) (IsPageOf place (home_behind (place_a ∷ []) k)))
      run zero = subst (λ o. IsSomeAnd o (IsPageOf place_a None)) (sym tags_there) (record { good = good_tags; indexed = first_index; linked = no_next })
      run (suc k) = tt

      apart : (j k : ℕ) (p q : TagPlace) → slice_get (place_a ∷ []) j ≡ Some p → slice_get (place_a ∷ []) k ≡ Some q → p.index ≡ q.index → j ≡ k
      apart zero zero p q is also same = refl
      apart zero (suc k) p q is also same = absurd (let e : None ≡ Some q = also in absurd (cc))
      apart (suc j) k p q is also same = absurd (let e : None ≡ Some p = is in absurd (cc))

  pub directory_at : IsDirectoryAt pages (record { vol = 1; page = 133 }) (place_a ∷ [])
  directory_at = record { directory = directory_a; begins = refl }

  -- ---- the chain of the root

  root_stands : StandsAt pages root_at root_cell
  root_stands = record { bytes = root_bytes; there = root_said pages cells_there; is = says_root }

  is_map : IsMapRecord (written.ShortExtents (no_extent ∷ no_extent ∷ no_extent ∷ no_extent ∷ []))
  is_map = record { has_rows = omega arith; allowed = extents_allowed; placed = tt; once = λ page. omega arith }

  pub root_file : IsFile pages root_at root_cells
  root_file = (
    refl,
    record {
      links = record { stands = root_stands; follow = refl; distinct = ((λ among. omega (arith, among.1)), tt) };
      primary = refl;
      attributes = refl;
      value = written.ShortExtents (no_extent ∷ no_extent ∷ no_extent ∷ no_extent ∷ []);
      map = record { only = refl; is_map = is_map };
      others = tt;
      one_map = record { placed = tt; once = λ page. omega arith };
    },
  )

  files_a : AreFiles 0 (place_a ∷ []) pages chains_a
  files_a = record { directory = directory_a; none = none; some = some; apart = apart }
    where
      none : (tag : Tag) → chains_a tag ≡ None → cell_of pages (place_a ∷ []) tag ≡ None
      none tag is = by_test (same_tag tag root_tag) refl
        where
          by_test : (b : Bool) → same_tag tag root_tag ≡ b → cell_of pages (place_a ∷ []) tag ≡ None
          by_test true same = absurd (let e : Some root_cells ≡ None = sym (ap (λ b. cond b (Some root_cells) None) same) ∙ is in absurd (cc))
          by_test false other = leads tag ∙ ap (λ b. cond b (Some root_at) None) other

      root_leads : (tag : Tag) → same_tag tag root_tag ≡ true → LeadsToFile 0 (place_a ∷ []) pages tag root_cells
      root_leads tag same = record {
        leads = subst (λ o. IsSomeAnd o (λ at. IsFile pages at root_cells)) (sym (leads tag ∙ ap (λ b. cond b (Some root_at) None) same)) root_file;
        is_of = (ap (λ (t : Tag). t.slot) (sym (is_root tag same)), ap (λ (t : Tag). t.seq) (sym (is_root tag same)), refl);
        kinds = (refl, (refl, (refl, tt)));
      }

      some : (tag : Tag) → IfSome (chains_a tag) (LeadsToFile 0 (place_a ∷ []) pages tag)
      some tag = by_test (same_tag tag root_tag) refl
        where
          by_test : (b : Bool) → same_tag tag root_tag ≡ b → IfSome (cond b (Some root_cells) None) (LeadsToFile 0 (place_a ∷ []) pages tag)
          by_test true same = root_leads tag same
          by_test false other = tt

      apart : (s t : Tag) → same_tag s t ≡ false → IfSome (chains_a s) (λ xs. IfSome (chains_a t) (AreApart xs))
      apart s t other = by_test (same_tag s root_tag) (same_tag t root_tag) refl refl
        where
          by_test : (b c : Bool) → same_tag s root_tag ≡ b → same_tag t root_tag ≡ c → IfSome (cond b (Some root_cells) None) (λ xs. IfSome (cond c (Some root_cells) None) (AreApart xs))
          by_test true true is also =
              absurd (both_ways (same_tag s t) other (ap (λ x. same_tag x t) (is_root s is) ∙ ap (same_tag root_tag) (is_root t also)))
          by_test true false is also = tt
          by_test false c is also = tt

  pub has_chains : HasChains pages 0 entry_a chains_a
  has_chains = record { places = place_a ∷ []; directory = directory_at; files = files_a }
