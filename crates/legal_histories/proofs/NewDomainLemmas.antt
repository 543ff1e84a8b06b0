-- A domain that was just made is valid.
use Rattle.std.proofs.Common.{◌≡◌, true, ℕ, List, refl, ap, inl, inr, is_some, min, slice_index}
use Rattle.std.specs.FinMap as map
use Rattle.std.specs.Ordering.{nat_cmp}
use Rattle.std.specs.Cmp.{nat_cmp_total}
use Rattle.fileset_model.specs.domain_base.Version.{most_pages}
use Rattle.fileset_model.specs.domain_base.declared.version.Version.{Version}
use Rattle.legal_histories.proofs.ValidSetLemmas.{none-valid}
use Rattle.fileset_model.proofs.OfFilesetValues.MapLemmas.{got-insert}
use Rattle.legal_histories.specs.State.{Member, new_domain}
use Rattle.legal_histories.specs.HistoryValid.{IsValid}

pub new-valid : (version : Version) (sizes : List ℕ) → IsValid (new_domain version sizes)
new-valid version sizes =
    let member : Member = record { pages = min (slice_index sizes 0) (most_pages version); is_open = true } in
    record {
      filesets = none-valid;
      log_on_member = elim (got-insert nat_cmp_total map.nat_cmp-IsAntisymmetric map.empty 1 member 1 _ refl) as (λ _. map.contains_key {R = nat_cmp} (map.insert {R = nat_cmp} map.empty 1 member) 1 ≡ true) [
        | inl here ↦ ap is_some here.1
        | inr other ↦ absurd (other.0 refl)
      ];
    }
