-- A file that memory has, if that is known only of some filesets.
use Rattle.std.proofs.Common.{◌≡◌, ◌<◌, ℕ, true, Option, Some, None, IsSomeAnd, slice_get, refl, subst, arith, ⊎_elim}
use Rattle.std.proofs.Math.Logic.{∥∥₁_elim, ∥∥₁_map}
use Rattle.std.proofs.lemmas.Bool.{cases_lt}
use Rattle.std.specs.Option.{option_and_then}
use Rattle.domain_memory.specs.domain_base.declared.place.Kind.{Kind}
use Rattle.domain_memory.specs.domain_base.declared.place.Kind.TheVariants.{Directory, File}
use Rattle.domain_memory.specs.domain_base.declared.place.Tag.{Tag}
use Rattle.domain_memory.specs.fileset_files.declared.attributes.Attributes.{Attributes}
use Rattle.domain_memory.specs.fileset_files.Files.{attributes_of, keep_of, of_live}
use Rattle.domain_memory.proofs.OfStoredSet.Told.{kind_told}
use Rattle.domain_memory.specs.fileset_model.Filesets.{FilesetMap}
use Rattle.domain_memory.specs.fileset_values.Orders.{Path}
use Rattle.domain_memory.specs.fileset_model.declared.fileset.FilesetSlot.{FilesetSlot}
use Rattle.domain_memory.specs.fileset_model.declared.fileset.Role.TheVariants.{Original}
use Rattle.domain_memory.specs.fileset_table.declared.slot.FilesetEntry.{FilesetEntry}
use Rattle.domain_memory.proofs.OfNameSpace.Originals.{number_at}
use Rattle.domain_memory.specs.domain_layout.CellRules.{of_original}
use Rattle.domain_memory.specs.domain_layout.Filled.{IsRole}
use Rattle.domain_memory.proofs.OfStandingLaws.FilesetPut.{stood_in}
use Rattle.domain_memory.specs.Staged.{IsStagedForSome, staged_in}
use Rattle.domain_memory.specs.declared.memory.DomainMemory.{DomainMemory}
use Rattle.file_changes.proofs.Asks.{has_entry}
use Rattle.file_changes.proofs.Changed.{shown_kind}
use Rattle.file_changes.specs.Reading.{IsOpen}
use Rattle.file_changes.specs.Stages.{HasFile, IsFileIn}

pub record SomeFile (memory : DomainMemory) (number : ℕ) (tag : Tag) : Type 0 where
  pub path : Path
  pub all : FilesetMap
  pub entry : FilesetEntry
  pub fileset : FilesetSlot
  pub has : HasFile memory number tag path all entry fileset

-- a path leads to what a tag names
pub some_file : (memory : DomainMemory) (number : ℕ) (tag : Tag) → ∥ IsStagedForSome memory ∥₁ → of_original (slice_get memory.table.slots number) ≡ true → IsFileIn memory number tag → ∥ SomeFile memory number tag ∥₁
some_file memory number tag staged original file = ∥∥₁_map staged (λ s.
    let d = staged_in memory in
    let its = has_entry (slice_get memory.table.slots number) original in
    let it = stood_in d s.0 s.1.stands.slots number its.entry its.there in
    let set = it.stood.set in
    let role : it.fileset_was.role ≡ Original = subst (λ o. IsRole o it.fileset_was.role) it.stood.is.none it.stood.filled.role in
    let shown = shown_kind File (it.shape_was.shown tag) (option_and_then (of_live attributes_of) (set.chains tag)) (kind_told number (d.tags number) d.space d.cells d.pages set.chains set.indexes it.shape_was.shown set.stands tag) (file set.chains set.stands.together.files) in
    let led = it.stood.filled.names.live role tag shown.file shown.there in
    record {
      path = led.0;
      all = s.0;
      entry = its.entry;
      fileset = it.fileset_was;
      has = record {
        staged = s.1;
        original = its.there;
        there = it.filled;
        at = number_at it.shape_was.shown it.fileset_was it.stood.filled.names role led.0 tag shown.file.kind led.1;
      };
    })

-- ---- what is decided

none_of : {A : Type 0} → ∥ A ∥₁ → (A → ⊥) → ⊥
none_of is not_so = ∥∥₁_elim is (λ x y. absurd x) not_so

a_file : (k : Kind) → ∥ k ≡ File ∥₁ → k ≡ File
a_file File is = refl
a_file Directory is = absurd (none_of is (λ e. cc))

live_known : (o : Option Attributes) → ∥ IsSomeAnd o (λ is. is.kind ≡ File) ∥₁ → IsSomeAnd o (λ is. is.kind ≡ File)
live_known None is = none_of is (λ x. x)
live_known (Some a) is = a_file a.kind is

kept_known : (page : ℕ) (o : Option ℕ) → ∥ IsSomeAnd o (λ keep. page < keep) ∥₁ → IsSomeAnd o (λ keep. page < keep)
kept_known page None is = none_of is (λ x. x)
kept_known page (Some keep) is = ⊎_elim (λ low. low) (λ high. absurd (none_of is (λ low. omega (arith, low, high)))) (cases_lt page keep)

pub file_known : (memory : DomainMemory) (number : ℕ) (tag : Tag) → ∥ IsFileIn memory number tag ∥₁ → IsFileIn memory number tag
file_known memory number tag is = λ chains are. live_known (option_and_then (of_live attributes_of) (chains tag)) (∥∥₁_map is (λ f. f chains are))

pub open_known : (memory : DomainMemory) (number : ℕ) (tag : Tag) (page : ℕ) → ∥ IsOpen memory number tag page ∥₁ → IsOpen memory number tag page
open_known memory number tag page is = λ chains are. record {
  kept = kept_known page (option_and_then (of_live keep_of) (chains tag)) (∥∥₁_map is (λ f. (f chains are).kept));
  solid = λ hole. none_of is (λ f. (f chains are).solid hole);
}
