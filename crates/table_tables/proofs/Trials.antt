-- Slots that are free, and indexes and homes that no place has.
use Rattle.std.proofs.Common.{◌≡◌, ◌∙◌, ℕ, ◌<◌, Bool, true, false, cond, ◌||◌, nat_eq, Option, Some, None, IfSome, List, [], ◌∷◌, refl, sym, ap}
use Rattle.std.proofs.lemmas.Bool.{eq-eqb, true≢false}
use Rattle.std.specs.Option.{option_and_then}
use Rattle.fileset_table.specs.domain_base.declared.place.Home.{Home}
use Rattle.fileset_table.specs.page_store.Pages.{Pages, same_home}
use Rattle.tag_dirs.specs.declared.dir.TagPlace.{TagPlace}
use Rattle.tag_dirs.specs.declared.page.TagEntry.{TagEntry}
use Rattle.tag_dirs.specs.Directory.{cell_for, entry_at, has_home, home_with}
use Rattle.table_tables.specs.Trial.{IsUsedTo, has_either}

-- a slot above the last one is free
pub slot_free : (pages : Pages) (places : List TagPlace) (last slot : ℕ) → IsUsedTo pages places last → last < slot → IfSome (entry_at pages places slot) (λ e. e.at ≡ None)
slot_free pages places last slot used more = by_entry (entry_at pages places slot) refl
  where
    by_entry : (o : Option TagEntry) → entry_at pages places slot ≡ o → IfSome o (λ e. e.at ≡ None)
    by_entry None at = tt
    by_entry (Some e) at =
        let none : option_and_then (cell_for e.seq) (Some e) ≡ None = ap (option_and_then (cell_for e.seq)) (sym at) ∙ used.unused (record { slot = slot; seq = e.seq }) more in
        ap (λ b. cond b e.at None) (sym (eq-eqb e.seq e.seq refl)) ∙ none

-- ---- an index and a home that no place has

neither : (a b : Bool) → (a || b) ≡ false → (a ≡ false) × (b ≡ false)
neither true b is = absurd (true≢false is)
neither false b is = (refl, is)

pub no_home : (places : List TagPlace) (index : ℕ) (home : Home) → has_either places index home ≡ false → has_home places home ≡ false
no_home [] index home none = refl
no_home (x ∷ xs) index home none =
    let parts = neither (same_home home x.home || nat_eq x.index index) (has_either xs index home) none in
    let first = neither (same_home home x.home) (nat_eq x.index index) parts.0 in
    (λ i. first.0 i || no_home xs index home parts.1 i)

pub no_index : (places : List TagPlace) (index : ℕ) (home : Home) → has_either places index home ≡ false → home_with places index ≡ None
no_index [] index home none = refl
no_index (x ∷ xs) index home none =
    let parts = neither (same_home home x.home || nat_eq x.index index) (has_either xs index home) none in
    let first = neither (same_home home x.home) (nat_eq x.index index) parts.0 in
    ap (λ b. cond b (Some x.home) (home_with xs index)) first.1 ∙ no_index xs index home parts.1
