-- Of what is being removed from a slot less is left, also once the change is kept.
use Rattle.std.proofs.Common.{◌≡◌, ◌∙◌, ◌⊎◌, ⊎_elim, inl, inr, ℕ, zero, suc, Bool, true, false, [], ◌∷◌, Option, IsSomeAnd, List, Result, Ok, Err, OnOk, slice_get, arith, refl, sym, ap, subst, true≢false}
use Rattle.std.specs.Option.{option_and_then}
use Rattle.domain_changes.specs.domain_base.declared.place.CellAt.{CellAt}
use Rattle.domain_changes.specs.domain_base.declared.place.Home.{Home}
use Rattle.domain_changes.specs.metadata_cells.Chain.{PlacedCell}
use Rattle.domain_changes.proofs.OfFileChains.ChainChanges.{in_first, in_later}
use Rattle.domain_changes.specs.release_list.Standing.{Files, IsQuotas}
use Rattle.domain_changes.proofs.OfReleaseList.Spread.{some_same}
use Rattle.domain_changes.specs.fileset_table.Table.{Table}
use Rattle.domain_changes.specs.fileset_table.declared.slot.SlotItem.TheVariants as slot
use Rattle.release_laws.specs.QuotaCells.{EndsQuotaOf, LosesQuotaOf}
use Rattle.domain_changes.proofs.OfStandingLaws.FilesetBegins.{get_set}
use Rattle.domain_changes.specs.domain_layout.TagRules.{quota_of}
use Rattle.domain_changes.specs.staged_pages.Store.{pages_of}
use Rattle.domain_changes.specs.domain_memory.Going.{HasQuotaCells, KeepsGone, MayEmpty, MayLetGo, are_plain}
use Rattle.domain_changes.specs.domain_memory.Staged.{staged_in}
use Rattle.domain_changes.specs.domain_memory.declared.memory.DomainMemory.{DomainMemory}
use Rattle.release_changes.specs.Emptying.{Empties, FreesOneOf, FreesQuotaCell, IsFreeSlot, UsesFewer}
use Rattle.release_changes.specs.QuotaCells.{BeginsQuotas, LosesOne}
use Rattle.domain_changes.specs.Table.{PutsSlot}

pub any_ok : {X E A : Type 0} (r : Result X E) → A → OnOk r A
any_ok (Ok x) is = is
any_ok (Err e) is = tt

-- a slot that was set free is
pub free_there : (number : ℕ) (old new : DomainMemory) → PutsSlot number slot.Free old new → IsFreeSlot number new
free_there number old new puts = ap (λ (t : Table). slice_get t.slots number) puts.table ∙ get_set old.table.slots number slot.Free puts.had puts.in_slot

-- ---- tags

fewer_joined : (number : ℕ) (first mid last : DomainMemory) → UsesFewer number first mid → UsesFewer number mid last → UsesFewer number first last
fewer_joined number first mid last fewer next = record {
  tag = fewer.tag;
  was = fewer.was;
  gone = λ used. fewer.gone (next.others fewer.tag used);
  others = λ t used. fewer.others t (next.others t used);
}

-- of tags that are taken out of use one after the other
pub fewer_more : (number count : ℕ) (first mid last : DomainMemory) → (count ≡ 0 → mid ≡ first) → (¬ count ≡ 0 → UsesFewer number first mid) → UsesFewer number mid last → UsesFewer number first last
fewer_more number zero first mid last same fewer next = subst (λ (m : DomainMemory). UsesFewer number m last) (same refl) next
fewer_more number (suc n) first mid last same fewer next = fewer_joined number first mid last (fewer (λ e. omega (arith, e))) next

-- ---- a change that is kept

module _ (number : ℕ) (old mid new : DomainMemory) (kept : KeepsGone mid new) where
  fewer_kept : UsesFewer number old mid → UsesFewer number old new
  fewer_kept fewer = record {
    tag = fewer.tag;
    was = fewer.was;
    gone = λ used. fewer.gone (kept.used number fewer.tag used);
    others = λ t used. fewer.others t (kept.used number t used);
  }

  slot_kept : IsFreeSlot number mid → IsFreeSlot number new
  slot_kept is = ap (λ (t : Table). slice_get t.slots number) kept.table ∙ is

  module _ (at : CellAt) (cells : HasQuotaCells old number at) (files files_now : Files) where
    second_kept : LosesQuotaOf number (staged_in old) (staged_in mid) files files_now → IsSomeAnd (files at) (λ chain. FreesOneOf chain old.cells new.cells)
    second_kept l =
        let same : l.at ≡ at = some_same l.at at (sym l.quota ∙ cells.quota) in
        subst (λ (o : Option (List PlacedCell)). IsSomeAnd o (λ chain. FreesOneOf chain old.cells new.cells)) (sym l.is ∙ ap files same)
        (l.second.at, in_later l.second.at l.first (l.second ∷ l.rest) (in_first l.second.at l.second l.rest refl), λ q. kept.cells q ∙ l.frees.cells q)

    last_kept : BeginsQuotas old at files → EndsQuotaOf number (staged_in old) (staged_in mid) files files_now → IsSomeAnd (files at) (λ chain. FreesOneOf chain old.cells new.cells)
    last_kept begins l =
        let same : l.at ≡ at = some_same l.at at (sym (ap (option_and_then quota_of) l.was) ∙ cells.quota) in
        let chain : begins.chain ≡ l.frees.last ∷ [] = some_same begins.chain (l.frees.last ∷ []) (sym begins.is ∙ sym (ap files same) ∙ l.frees.is) in
        let here : l.frees.last.at ≡ at = (subst (IsQuotas (pages_of old.pages) at) chain begins.quotas).0 in
        subst (λ (o : Option (List PlacedCell)). IsSomeAnd o (λ cs. FreesOneOf cs old.cells new.cells)) (sym l.frees.is ∙ ap files same)
        (l.at, in_first l.at l.frees.last [] (here ∙ sym same), λ q. kept.cells q ∙ l.frees.frees.cells q)

  cell_kept : LosesOne number old mid → FreesQuotaCell number old new
  cell_kept loses = (
    loses.0,
    loses.1,
    λ files begins. ⊎_elim
        (λ second. let it = second loses.1 in second_kept loses.0 loses.1 files it.0 it.1)
        (λ last. let it = last loses.1 in last_kept loses.0 loses.1 files it.0 begins it.1)
        (loses.2 files begins),
  )

  pub ended_kept : LosesOne number old mid ⊎ IsFreeSlot number mid → Empties number old new
  ended_kept ends = ⊎_elim (λ loses. inr (inl (cell_kept loses))) (λ free. inr (inr (slot_kept free))) ends

  pub tags_kept : UsesFewer number old mid → Empties number old new
  tags_kept fewer = inl (fewer_kept fewer)

-- with the memory from which it begins, and with which it ends, whatever they are called
pub end_empties : (number : ℕ) (old start mid last new : DomainMemory) → start ≡ old → last ≡ mid → LosesOne number start mid ⊎ IsFreeSlot number mid → KeepsGone last new → Empties number old new
end_empties number old start mid last new begins ends goes kept =
    ended_kept number old mid new (subst (λ (m : DomainMemory). KeepsGone m new) ends kept)
    (subst (λ (m : DomainMemory). LosesOne number m mid ⊎ IsFreeSlot number mid) begins goes)

pub tags_empty : (number : ℕ) (old mid last new : DomainMemory) → last ≡ mid → UsesFewer number old mid → KeepsGone last new → Empties number old new
tags_empty number old mid last new ends fewer kept = tags_kept number old mid new (subst (λ (m : DomainMemory). KeepsGone m new) ends kept) fewer

-- that something is emptied of memory which is the same
pub still_empties : (old start new : DomainMemory) → start ≡ old → (number : ℕ) × MayEmpty start number × Empties number start new → (number : ℕ) × MayEmpty old number × Empties number old new
still_empties old start new same empties = subst (λ (m : DomainMemory). (number : ℕ) × MayEmpty m number × Empties number m new) same empties

-- ---- the list

none_there : (homes : List Home) → ¬ ¬ homes ≡ [] → homes ≡ []
none_there [] known = refl
none_there (home ∷ homes) known = absurd (known (λ e. cc))

is_so : (b : Bool) → ¬ b ≡ false → b ≡ true
is_so true is = refl
is_so false is = absurd (is refl)

-- if it cannot be that nothing on it may be let go of, something may be
pub may_known : (memory : DomainMemory) → ¬ ¬ MayLetGo memory → MayLetGo memory
may_known memory known = record {
  some = λ empty. known (λ may. may.some empty);
  tag_pages = none_there memory.list.list.tag_pages (λ some. known (λ may. some may.tag_pages));
  plain = λ entry inside cell stands. is_so (are_plain cell.records) (λ not. known (λ may. true≢false (sym (may.plain entry inside cell stands) ∙ not)));
}
