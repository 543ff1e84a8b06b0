-- Used entries of the directories of slots.
use Rattle.std.proofs.Common.{◌≡◌, ◌∙◌, ◌↔◌, ◌==◌, ℕ, ◌+◌, ◌*◌, ◌≤◌, true, false, List, length, Option, Some, None, if◌then◌else◌, eqb-true, refl, sym, ap, subst, arith}
use Rattle.std.proofs.lemmas.Bool.Decides.{nat_tests}
use Rattle.std.proofs.lemmas.Option.{get_or_from_slice_get, slice_get_read, slice_get_within}
use Rattle.cell_faults.specs.domain_base.declared.place.CellAt.{CellAt}
use Rattle.cell_faults.specs.domain_base.declared.place.Home.{Home}
use Rattle.cell_faults.specs.page_store.Pages.{Pages}
use Rattle.cell_faults.specs.cell_records.Fields.{number_at}
use Rattle.cell_faults.specs.tag_dirs.TagPage.{cell_in}
use Rattle.cell_faults.specs.tag_dirs.declared.page.TagEntry.{TagEntry}
use Rattle.cell_faults.specs.fileset_table.Table.{Table}
use Rattle.cell_faults.specs.domain_layout.Reached.{Frame}
use Rattle.cell_faults.specs.domain_layout.TagRules.{HasEntry}
use Rattle.tag_faults.specs.Directories.{IsReadOf}
use Rattle.tag_faults.specs.Entries.{IsEntryAmong, IsEntryIn, address_of, tag_of}
use Rattle.tag_faults.specs.declared.named.NamedCell.{NamedCell}
use Rattle.tag_faults.proofs.Counted.{IsBelow, within_of}
use Rattle.tag_faults.proofs.SlotPages.{moved}

some_same : {X : Type 0} (a b : X) → Some a ≡ Some b → a ≡ b
some_same a b e = cc

none_some : {X : Type 0} (x : X) → None ≡ Some x → ⊥
none_some x e = cc

-- the address of an entry of a page, whatever that is
abbrev pub cell_there : List ℕ → ℕ → CellAt
cell_there page e = record { vol = number_at 1 (18 + 8 * e) page; page = number_at 4 (20 + 8 * e) page; cell = number_at 1 (19 + 8 * e) page }

used_there : (page : List ℕ) (e : ℕ) → ¬ number_at 1 (18 + 8 * e) page ≡ 0 → cell_in page e ≡ Some (cell_there page e)
used_there page e used = elim (number_at 1 (18 + 8 * e) page == 0) as (λ b. (number_at 1 (18 + 8 * e) page == 0) ≡ b → (if b then None else Some (cell_there page e)) ≡ Some (cell_there page e)) [
  | true ↦ λ test. absurd (used (eqb-true (number_at 1 (18 + 8 * e) page) 0 test))
  | false ↦ λ test. refl
] refl

is_used : (page : List ℕ) (e : ℕ) (at : CellAt) → cell_in page e ≡ Some at → (¬ number_at 1 (18 + 8 * e) page ≡ 0) × (cell_there page e ≡ at)
is_used page e at there = elim (number_at 1 (18 + 8 * e) page == 0) as (λ b. (number_at 1 (18 + 8 * e) page == 0) ≡ b → (if b then None else Some (cell_there page e)) ≡ Some at
    → (¬ number_at 1 (18 + 8 * e) page ≡ 0) × (cell_there page e ≡ at)) [
      | true ↦ λ test is. absurd (none_some at is)
      | false ↦ λ test is. ((λ zero. absurd (grind (arith, nat_tests))), some_same (cell_there page e) at is)
    ] refl there

abbrev entry_with : List ℕ → ℕ → Option CellAt → TagEntry
entry_with page e o = record { seq = number_at 2 (16 + 8 * e) page; at = o }

module _ (pages : Pages) (frame : Frame) (table : Table) where
  pub entries_in : (number : ℕ) (homes : List Home) (unread : Option Home) → IsReadOf pages frame table number homes unread → (one : NamedCell) → IsEntryAmong pages number homes one ↔ IsEntryIn pages frame table one number
  entries_in number homes unread read one = (
    λ (home, (k, within, at), (page, there, is)).
        let found = (read.each k home).0 (slice_get_read homes (length homes) k home refl within (sym at)) in
        (home, k, page, moved pages frame table number k home found.0 page found.1 there, is),
    λ (home, place, page, there, is).
        let at = (read.each place home).1 (page, there) in
        (home, (place, slice_get_within homes place home at, get_or_from_slice_get homes place home home at), (page, there.read.there, is)),
  )

  pub entries_all : (number : ℕ) → length table.slots ≤ number → (one : NamedCell) → IsBelow (IsEntryIn pages frame table one) number ↔ HasEntry pages frame table one.number (tag_of one) (address_of one) one.home
  entries_all number whole one = (
    λ (k, below, (home, place, page, is, (e, within, ((used, seq, slot), same)))).
        subst (λ (o : NamedCell). HasEntry pages frame table o.number (tag_of o) (address_of o) o.home) same (record {
          place = place;
          page = page;
          is = is;
          entry = e;
          within = within;
          slot = refl;
          used = ap (λ (o : Option CellAt). entry_with page e o) (used_there page e used);
          names = (seq, slot);
        }),
    λ has.
        let leads = is_used has.page has.entry (address_of one) (ap (λ (t : TagEntry). t.at) has.used) in
        let seqs = ap (λ (t : TagEntry). t.seq) has.used in (
          one.number,
          omega (arith, within_of table.slots one.number has.is.has.item has.is.has.there, whole),
          (
            one.home,
            has.place,
            has.page,
            has.is,
            (
              has.entry,
              has.within,
              (
                (leads.0, subst (λ n. 1 ≤ n) (sym seqs) has.names.0, λ none. has.names.1 (sym has.slot ∙ none)),
                λ i. record {
                  number = one.number;
                  slot = has.slot i;
                  seq = seqs i;
                  vol = (leads.1 i).vol;
                  cell = (leads.1 i).cell;
                  page = (leads.1 i).page;
                  home = one.home;
                },
              ),
            ),
          ),
        ),
  )
