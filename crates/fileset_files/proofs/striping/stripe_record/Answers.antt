use Rattle.std.proofs.Common.{◌≡◌, ◌<◌, ◌^◌, ℕ, suc, List, [], ◌∷◌, length, get_or, rules}
use Rattle.std.specs.List.{AllByRecursion}
use Rattle.file_chains.specs.cell_records.declared.record.Record.TheVariants.{Stripe}
use Rattle.file_chains.specs.cell_records.Records.{Allowed}
use Rattle.fileset_files.proofs.striping.stripe_record.Goals as goal

are_small : (vols : List ℕ) → ((i : ℕ) → get_or vols i 0 < 2 ^ 8) → AllByRecursion (λ v. v < 2 ^ 8) vols
are_small [] each = tt
are_small (vol ∷ vols) each = (each 0, are_small vols (λ i. each (suc i)))

allowed : (width mark : ℕ) (vols : List ℕ) → width < 2 ^ 8 → mark < 2 ^ 8 → length vols ≡ 8 → ((i : ℕ) → get_or vols i 0 < 2 ^ 8) → Allowed (Stripe width mark vols)
unfolding Allowed
allowed width mark vols width_fits mark_fits eight each = (width_fits, mark_fits, eight, are_small vols each)

pub returns-clause-allowed : goal.returns-clause-allowed
returns-clause-allowed c = allowed _ _ _ (search rules) (search rules) c.told-vols (λ i. c.fits-vols i)
