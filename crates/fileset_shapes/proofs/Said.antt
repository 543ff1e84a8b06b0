-- Limits that are set from the last record to the first.
use Rattle.std.proofs.Common.{◌≡◌, ◌∙◌, ℕ, zero, suc, Bool, true, false, cond, List, [], ◌∷◌, Option, Some, None, drop, length, slice_get, refl, sym, ap, subst, arith}
use Rattle.std.specs.Prelude.{unwrap_or}
use Rattle.std.specs.List.{cons_option}
use Rattle.std.specs.FinMap as map
use Rattle.std.specs.FinMap.Entries.{find}
use Rattle.filesets_reading.specs.cell_records.declared.record.Record.{Record}
use Rattle.filesets_reading.specs.fileset_model.Fileset.{Fileset}
use Rattle.filesets_reading.specs.fileset_values.Orders.{owner_cmp}
use Rattle.filesets_reading.specs.fileset_model.Usage.{limits_of}
use Rattle.filesets_reading.specs.fileset_values.declared.command.Owner.{Owner}
use Rattle.filesets_reading.specs.fileset_values.declared.command.Owner.TheVariants as owner
use Rattle.filesets_reading.specs.fileset_model.declared.fileset.Limits.{Limits}
use Rattle.filesets_reading.specs.fileset_table.declared.slot.FilesetEntry.{FilesetEntry}
use Rattle.filesets_reading.specs.quota_book.Owners.{same_owner}
use Rattle.filesets_reading.specs.quota_book.QuotaCells.{Said, TakesLimits, limits_after, limits_at, limits_said, said_by}
use Rattle.filesets_reading.specs.domain_layout.Shape.{limits_in}
use Rattle.filesets_reading.proofs.OfDomainLayout.OnePage.{some_same}
use Rattle.fileset_shapes.specs.Limits.{HasLimitsOf, HasSaid, KeepsFiles, book_of}

pub keeps_same : (tree : Fileset) → KeepsFiles tree tree
keeps_same tree = record { paths = refl; nodes = refl }

pub keeps_on : (old middle new : Fileset) → KeepsFiles old middle → KeepsFiles middle new → KeepsFiles old new
keeps_on old middle new one other = record { paths = other.paths ∙ one.paths; nodes = other.nodes ∙ one.nodes }

pub keeps_equal : (old new : Fileset) → new ≡ old → KeepsFiles old new
keeps_equal old new is = record { paths = ap (λ (t : Fileset). t.paths) is; nodes = ap (λ (t : Fileset). t.nodes) is }

pub keeps_limits : (old new : Fileset) (limits : map.FinMap owner_cmp Limits) → new ≡ record old { limits = limits } → KeepsFiles old new
keeps_limits old new limits is = record { paths = ap (λ (t : Fileset). t.paths) is; nodes = ap (λ (t : Fileset). t.nodes) is }

-- ---- records, from the last to the first

abbrev no_limits : Limits
no_limits = record { files = 0; blocks = 0 }

-- nothing is said, and nobody has limits
said_nothing : (tree : Fileset) → tree.limits ≡ map.empty → HasSaid [] tree
said_nothing tree none = record {
  limits = λ who. ap (λ o. unwrap_or o no_limits) (nobody who);
  binding = λ who limits is. absurd (let e : None ≡ Some limits = sym (nobody who) ∙ is in absurd (cc));
}
  where
    nobody : (who : Owner) → map.get tree.limits who ≡ None
    nobody who = ap (λ (m : map.FinMap owner_cmp Limits). map.get m who) none ∙ map.get-empty owner_cmp who

all_dropped : (rs : List Record) (n : ℕ) → n ≡ length rs → drop n rs ≡ []
all_dropped [] zero is = refl
all_dropped [] (suc n) is = refl
all_dropped (r ∷ rs) zero is = absurd (omega (arith, is))
all_dropped (r ∷ rs) (suc n) is = all_dropped rs n (omega (arith, is))

pub said_none : (tree : Fileset) (records : List Record) (n : ℕ) → tree.limits ≡ map.empty → n ≡ length records → HasSaid (said_by (drop n records)) tree
said_none tree records n none all = subst (λ (rs : List Record). HasSaid (said_by rs) tree) (sym (all_dropped records n all)) (said_nothing tree none)

-- one record more, in front
said_cons : (o : Option (Owner × Limits)) (said : Said) (who : Owner) → limits_after o who (limits_at said who) ≡ limits_at (cons_option o said) who
said_cons None said who = refl
said_cons (Some e) said who = by_test (same_owner who e.0)
  where
    by_test : (b : Bool) → cond b e.1 (limits_at said who) ≡ unwrap_or (cond b (Some e.1) (find owner_cmp who said)) no_limits
    by_test true = refl
    by_test false = refl

said_more : (r : Record) (rs : List Record) (old new : Fileset) → HasSaid (said_by rs) old → TakesLimits (limits_said r) (book_of old) (book_of new) → HasSaid (said_by (r ∷ rs)) new
said_more r rs old new has takes = record {
  limits = λ who. takes.limits who ∙ ap (limits_after (limits_said r) who) (has.limits who) ∙ said_cons (limits_said r) (said_by rs) who;
  binding = takes.binding has.binding;
}

pub said_on : (records : List Record) (n : ℕ) (r : Record) (old new : Fileset) → slice_get records n ≡ Some r → HasSaid (said_by (drop (suc n) records)) old → TakesLimits (limits_said r) (book_of old) (book_of new)
    → HasSaid (said_by (drop n records)) new
said_on [] n r old new at has takes = absurd (let e : None ≡ Some r = at in absurd (cc))
said_on (x ∷ xs) zero r old new at has takes =
    said_more x xs old new has (subst (λ (v : Record). TakesLimits (limits_said v) (book_of old) (book_of new)) (sym (some_same x r at)) takes)
said_on (x ∷ xs) (suc n) r old new at has takes = said_on xs n r old new at has takes

-- ---- the fileset's own limits

pub limits_there : (entry : FilesetEntry) (records : List Record) (old new : Fileset) → HasSaid (said_by records) old
    → TakesLimits (Some (owner.Fileset, record { files = entry.files_limit; blocks = entry.blocks_limit })) (book_of old) (book_of new) → HasLimitsOf entry records new
limits_there entry records old new has takes = record { limits = each; binding = takes.binding has.binding }
  where
    each : (who : Owner) → limits_of new who ≡ limits_in entry records who
    each (owner.User uid) = takes.limits (owner.User uid) ∙ has.limits (owner.User uid)
    each (owner.Group gid) = takes.limits (owner.Group gid) ∙ has.limits (owner.Group gid)
    each owner.Fileset = takes.limits owner.Fileset
