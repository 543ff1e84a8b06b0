-- The text of faults, line by line.
use Rattle.std.proofs.Common.{◌≡◌, inl, inr, ℕ, ◌+◌, ◌<◌, Option, None, Some, IfSome, List, [], ◌∷◌, ◌++◌, length, take, get_or, refl, sym, ap, ◌∙◌, add-one}
use Rattle.std.proofs.Math.Seq.{take-suc}
use Rattle.std.proofs.lemmas.Grind.{flat_map-append}
use Rattle.std.proofs.lemmas.List.{append-nil}
use Rattle.domain_faults.specs.volume_disk.Disk.{Disk, Tells}
use Rattle.domain_faults.specs.domain_layout.Faults.{FaultRow}
use Rattle.domain_faults.specs.Rows.{row_there, rows_there}
use Rattle.domain_faults.specs.declared.rows.FaultRow.{FaultRow as Told}
use Rattle.domain_faults.specs.Meaning.{IsMeaningOf}
use Rattle.domain_faults.specs.declared.meaning.Meaning.{Meaning}
use Rattle.domain_faults.specs.declared.meaning.Meaning.TheVariants.{Faulty, Filesets, NoDomain}
use Rattle.run_parts.specs.declared.verifying.DomainCounts.{DomainCounts}
use Rattle.run_parts.specs.Verified.{HasCounts, ListsFaults, MeansCounts, PrintEnds, VerifyEnds, fault_line, faults_text, rows_of}
use Rattle.run_parts.specs.declared.status.Status.{Status}
use Rattle.run_parts.specs.declared.status.Status.TheVariants as status

rows_pushed : (rows : List Told) (row : Told) → rows_there (rows ++ row ∷ []) ≡ rows_there rows ++ row_there row ∷ []
rows_pushed [] row = refl
rows_pushed (other ∷ rows) row = ap (λ l. row_there other ∷ l) (rows_pushed rows row)

-- the text of one fault more
pub faults_more : (rows : List Told) (k : ℕ) (row : Told) → k < length rows → row ≡ get_or rows k row
    → faults_text (rows_there (take (k + 1) rows)) ≡ faults_text (rows_there (take k rows)) ++ fault_line (row_there row)
faults_more rows k row within here =
    ap (λ n. faults_text (rows_there (take n rows))) (add-one k)
    ∙ ap (λ l. faults_text (rows_there l)) (take-suc rows k row within)
    ∙ ap faults_text (rows_pushed (take k rows) (get_or rows k row))
    ∙ flat_map-append fault_line (rows_there (take k rows)) (row_there (get_or rows k row) ∷ [])
    ∙ ap (λ l. faults_text (rows_there (take k rows)) ++ l) (append-nil (fault_line (row_there (get_or rows k row))) ∙ ap (λ r. fault_line (row_there r)) (sym here))

-- ---- what is listed, and how verifying ends

pub faults_listed : (disk : Disk) (meaning : Meaning) → (Tells disk → IsMeaningOf disk.sizes disk.now.contents meaning) → ListsFaults disk (rows_of meaning)
faults_listed disk (NoDomain vol at) means tells = inl (vol, at, means tells, refl)
faults_listed disk (Faulty rows) means tells = inr (inl (means tells))
faults_listed disk (Filesets all) means tells = inr (inr (refl, all, means tells))

-- what is counted of a meaning is that of what the disk holds
pub filesets_counted : (disk : Disk) (meaning : Meaning) (found : Option DomainCounts)
    → (Tells disk → IsMeaningOf disk.sizes disk.now.contents meaning) → IfSome found (HasCounts meaning)
    → IfSome found (λ counts. Tells disk → MeansCounts disk.sizes disk.now.contents counts)
filesets_counted disk meaning None means has = has
filesets_counted disk (Filesets all) (Some counts) means has = λ tells. (all, means tells, has)
filesets_counted disk (Faulty rows) (Some counts) means has = absurd has
filesets_counted disk (NoDomain vol at) (Some counts) means has = absurd has

pub verified : (old new : Disk) (rows : List FaultRow) (s : Status) (before after : Option (List ℕ)) → ListsFaults old rows → PrintEnds rows s before after
    → VerifyEnds old new s before after
verified old new rows status.Ok before after lists prints = (rows, lists, prints)
verified old new rows (status.Found faults) before after lists prints = (rows, lists, prints)
verified old new rows status.SinkFault before after lists prints = (rows, lists, prints)
verified old new rows status.OutOfMemory before after lists prints = prints
verified old new rows (status.VolumeFault vol) before after lists prints = absurd prints
verified old new rows (status.Usage word) before after lists prints = absurd prints
verified old new rows status.SourceFault before after lists prints = absurd prints
verified old new rows status.TooLong before after lists prints = absurd prints
verified old new rows (status.BadScript line kind) before after lists prints = absurd prints
verified old new rows (status.VolumeSmall pages) before after lists prints = absurd prints
verified old new rows (status.Occupied page) before after lists prints = absurd prints
verified old new rows (status.NotADomain vol at) before after lists prints = absurd prints
verified old new rows (status.Unfit why) before after lists prints = absurd prints
