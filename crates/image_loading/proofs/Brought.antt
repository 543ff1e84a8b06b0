-- Pages that are brought call by call.
use Rattle.std.proofs.Common.{◌≡◌, ◌∙◌, ◌⊎◌, inl, inr, ℕ, Bool, true, false, cond, List, Option, Some, None, IsSome, Result, Ok, Err, refl, sym, ap, subst, ⊎_elim, arith}
use Rattle.slot_files.specs.domain_base.declared.place.Home.{Home}
use Rattle.slot_files.specs.page_store.Pages.{Pages, same_home, with_page}
use Rattle.slot_files.proofs.OfMetadataCells.Changed.{homes_same}
use Rattle.slot_files.specs.volume_disk.Disk.{Disk, Moment, Tells, raised_at}
use Rattle.slot_files.specs.volume_disk.Run.{OnlyReads}
use Rattle.slot_files.proofs.OfVolumeDisk.Laws.{only_reads-none, only_reads-then}
use Rattle.slot_files.specs.log_ring.Groups.{pages_in}
use Rattle.slot_files.specs.log_ring.Homes.{HasMembers}
use Rattle.slot_files.specs.disk_label.declared.anchor.Anchor.{Anchor}
use Rattle.slot_files.specs.domain_layout.Reached.{Frame, IsWithin}
use Rattle.image_loading.specs.Loading.{Brings, IsOnRack, NamesCause}
use Rattle.image_loading.specs.declared.fault.LoadFault.{LoadFault}
use Rattle.image_loading.specs.declared.fault.LoadFault.TheVariants.{Fault, OutOfMemory}

-- ---- pages of members

pub on_rack : (sizes : List ℕ) (frame : Frame) (home : Home) → HasMembers sizes frame.anchor → IsWithin frame home → IsOnRack sizes home
on_rack sizes frame home members within =
    let has = members home.vol within.0.first within.0.last within.0.there within.0.whole in
    record { first = within.0.first; last = has.0; within = omega (arith, within.1, has.1); limit = omega (arith, within.1, has.2) }

pub members_stay : (old new : Disk) (anchor : Anchor) → OnlyReads old new → HasMembers old.sizes anchor → HasMembers new.sizes anchor
members_stay old new anchor reads members = subst (λ sizes. HasMembers sizes anchor) (sym reads.touches.sizes) members

-- ---- what is there or not

pub some_there : {X : Type 0} (o : Option X) (x : X) → o ≡ Some x → IsSome o
some_there o x is = subst IsSome (sym is) refl

no_bool : false ≡ true → ⊥
no_bool is = cc

pub none_there : {X : Type 0} (o : Option X) → o ≡ None → IsSome o → ⊥
none_there None is some = no_bool some
none_there (Some x) is some = absurd (cc)

-- ---- calls

-- nothing was read
pub brings_none : (disk : Disk) (pages : Pages) → Brings disk disk pages pages
brings_none disk pages = record { reads = only_reads-none disk; kept = λ home some. refl; added = λ told home none. inl none }

-- something was read, and no page was added
pub brings_nothing : (old new : Disk) (before after : Pages) → OnlyReads old new → after ≡ before → Brings old new before after
brings_nothing old new before after reads same = record { reads = reads; kept = λ home some. ap (λ (p : Pages). p home) same; added = λ told home none. inl (ap (λ (p : Pages). p home) same ∙ none) }

-- one page was added
pub brings_one : (old new : Disk) (before after : Pages) (home : Home) (page : List ℕ) → OnlyReads old new → after ≡ with_page home page before → before home ≡ None → (Tells old → Some page ≡ pages_in old.now.contents home) → Brings old new before after
brings_one old new before after home page reads put none is = record {
  reads = reads;
  kept = λ at some. ap (λ (p : Pages). p at) put ∙ kept_by at some (same_home at home) refl;
  added = λ told at absent. added_by told at absent (same_home at home) refl;
}
  where
    kept_by : (at : Home) → IsSome (before at) → (b : Bool) → same_home at home ≡ b → cond (same_home at home) (Some page) (before at) ≡ before at
    kept_by at some true same = absurd (none_there (before at) (ap before (homes_same at home same) ∙ none) some)
    kept_by at some false other = ap (λ b. cond b (Some page) (before at)) other

    added_by : Tells old → (at : Home) → before at ≡ None → (b : Bool) → same_home at home ≡ b → (after at ≡ None) ⊎ (after at ≡ pages_in old.now.contents at)
    added_by told at absent true same =
        inr (ap (λ (p : Pages). p at) put ∙ ap (λ b. cond b (Some page) (before at)) same ∙ is told ∙ ap (pages_in old.now.contents) (sym (homes_same at home same)))
    added_by told at absent false other = inl (ap (λ (p : Pages). p at) put ∙ ap (λ b. cond b (Some page) (before at)) other ∙ absent)

-- one call behind the other
pub brings_then : (old mid new : Disk) (before between after : Pages) → Brings old mid before between → Brings mid new between after → Brings old new before after
brings_then old mid new before between after one two = record {
  reads = only_reads-then old mid new one.reads two.reads;
  kept = λ home some. two.kept home (subst IsSome (sym (one.kept home some)) some) ∙ one.kept home some;
  added = λ told home none. by_first told home (one.added told home none);
}
  where
    by_first : Tells old → (home : Home) → (between home ≡ None) ⊎ (between home ≡ pages_in old.now.contents home) → (after home ≡ None) ⊎ (after home ≡ pages_in old.now.contents home)
    by_first told home (inr there) = inr (two.kept home (some_there (between home) _ there) ∙ there)
    by_first told home (inl none) =
        ⊎_elim (λ still. inl still) (λ there. inr (there ∙ ap (λ (m : Moment). pages_in m.contents home) (one.reads.now told)))
        (two.added (one.reads.touches.told ∙ told) home none)

-- ---- faults

-- no read had failed before
pub fault_then : {T : Type 0} → (old mid new : Disk) (result : Result T LoadFault) → mid.read_faults ≡ old.read_faults → NamesCause mid new result → NamesCause old new result
fault_then old mid new (Ok x) same is = is ∙ same
fault_then old mid new (Err (Fault vol)) same is = is ∙ ap (λ f. raised_at f vol) same
fault_then old mid new (Err OutOfMemory) same is = is ∙ same
